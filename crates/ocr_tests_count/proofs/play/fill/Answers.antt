use Rattle.std.proofs.Common.{◌≡◌, ◌+◌, ◌++◌, ◌∷◌, [], ℕ, List, false, ap, ◌∙◌, arith}
use Rattle.std.specs.Prelude.{Option, Some}
use Rattle.ocr_turns_rule.specs.Sums.{as_some}
use Rattle.ocr_turns_rule.specs.Debts.{without_all}
use Rattle.ocr_tests_count.proofs.Steps.{Sight, set_may, may_give, found_put, taken}
use Rattle.ocr_tests_count.proofs.play.fill.Goals as goal

pub commit-requires-clause-may : goal.commit-requires-clause-may
commit-requires-clause-may g c goes =
    let p = 3 + c.args.slot in
    let tells = c.in-Mine.ensures in
    let same = c.in_ok-reserve.ensures.same in
    let view : c.take.new.clerk.view.parts ≡ (p, tells.0) ∷ [] = ap (λ (v : Sight). v.parts) tells.3 ∙ ap (λ (ps : List (ℕ × ℕ)). ps ++ (p, tells.0) ∷ []) (ap (λ (v : Sight). v.parts) same.1 ∙ c.requires.idle.parts) in
    let hand : c.take.new.clerk.parts ≡ (p, Some tells.0) ∷ [] = tells.4 ∙ ap (λ (ps : List (ℕ × Option ℕ)). ps ++ (p, Some tells.0) ∷ []) (same.2 ∙ c.requires.idle.hand) in
    let read : tells.0 ≡ c.part.result.now = taken p tells.0 c.part.result.now c.take.new.clerk.parts hand c.part.ensures in
    let is : tells.0 ≡ 1 = omega (arith, read, c.if-part-ne-OPEN.false) in
    let spares : c.take.new.clerk.view.spares ≡ c.args.clerk.now.view.spares = ap (λ (v : Sight). v.spares) tells.3 ∙ ap (λ (v : Sight). v.spares) same.1 in
    let weight : c.take.new.clerk.view.weight ≡ c.args.clerk.now.view.weight = ap (λ (v : Sight). v.weight) tells.3 ∙ ap (λ (v : Sight). v.weight) same.1 in
    set_may c.args.turns.now.1 c.take.new.clerk.view c.in_ok-parts.parts.items c.new.result.items c.args.slot c.args.payload c.in_ok-parts.ensures.items c.new.ensures.items
    (view ∙ ap (λ x. (p, x) ∷ []) is) c.requires.slot (omega (arith, weight, c.requires.light)) (let same = spares in let pays = c.requires.unit in omega arith)

pub give_back-requires-clause-may : goal.give_back-requires-clause-may
give_back-requires-clause-may g c goes =
    let p = 3 + c.args.slot in
    let tells = c.in-Mine.ensures in
    let same = c.in_ok-reserve.ensures.same in
    let done = c.in-At.ensures in
    let view : c.take.new.clerk.view.parts ≡ (p, tells.0) ∷ [] = ap (λ (v : Sight). v.parts) tells.3 ∙ ap (λ (ps : List (ℕ × ℕ)). ps ++ (p, tells.0) ∷ []) (ap (λ (v : Sight). v.parts) same.1 ∙ c.requires.idle.parts) in
    let hand : c.take.new.clerk.parts ≡ (p, Some tells.0) ∷ [] = tells.4 ∙ ap (λ (ps : List (ℕ × Option ℕ)). ps ++ (p, Some tells.0) ∷ []) (same.2 ∙ c.requires.idle.hand) in
    let claims : c.take.new.clerk.view.claims ≡ [] = ap (λ (v : Sight). v.claims) tells.3 ∙ ap (λ (v : Sight). v.claims) same.1 ∙ c.requires.idle.claims in
    may_give c.args.turns.now.1 c.commit.new.clerk.view c.commit.new.clerk.parts p 2
    (found_put p (Some tells.0) (Some 2) (as_some c.in_ok-parts.parts.items) c.take.new.clerk.parts c.commit.new.clerk.parts done.4 (ap as_some c.in_ok-parts.ensures.items) hand)
    (found_put p tells.0 2 c.in_ok-parts.parts.items c.take.new.clerk.view.parts c.commit.new.clerk.view.parts (ap (λ (v : Sight). v.parts) done.3) c.in_ok-parts.ensures.items view)
    (omega arith) (ap (λ (v : Sight). v.claims) done.3 ∙ ap (without_all (λ _. false)) claims)
