use Rattle.std.proofs.Common.{◌≡◌, ◌++◌, ◌∷◌, [], ℕ, List, ap, ◌∙◌, arith}
use Rattle.std.specs.Prelude.{Option, Some}
use lib.ListN.{get_elem?}
use Rattle.ocr_turns_rule.specs.Sums.{replace_all}
use Rattle.ocr_tests_count.proofs.Steps.{Sight, may_wait, taken, waits_now}
use Rattle.ocr_tests_count.proofs.play.wait.Goals as goal

pub commit-requires-clause-may : goal.commit-requires-clause-may
commit-requires-clause-may g c goes =
    let tells = c.in-Mine.ensures in
    let same = c.in_ok-reserve.ensures.same in
    let may = c.requires in
    let view : c.take.new.clerk.view.parts ≡ (2, tells.0) ∷ [] = ap (λ (v : Sight). v.parts) tells.3 ∙ ap (λ (ps : List (ℕ × ℕ)). ps ++ (2, tells.0) ∷ []) (ap (λ (v : Sight). v.parts) same.1 ∙ may.parts) in
    let hand : c.take.new.clerk.parts ≡ (2, Some tells.0) ∷ [] = tells.4 ∙ ap (λ (ps : List (ℕ × Option ℕ)). ps ++ (2, Some tells.0) ∷ []) (same.2 ∙ may.hand) in
    let read : tells.0 ≡ c.part.result.now = taken 2 tells.0 c.part.result.now c.take.new.clerk.parts hand c.part.ensures in
    let is : tells.0 ≡ 0 = omega (arith, read, c.if-part-ne0.false) in
    let facts : c.take.new.clerk.view.facts ≡ c.args.clerk.now.view.facts = ap (λ (v : Sight). v.facts) tells.3 ∙ ap (λ (v : Sight). v.facts) same.1 in
    let weight : c.take.new.clerk.view.weight ≡ c.args.clerk.now.view.weight = ap (λ (v : Sight). v.weight) tells.3 ∙ ap (λ (v : Sight). v.weight) same.1 in
    may_wait c.args.turns.now.1 c.take.new.clerk.view c.args.first c.args.second c.in_ok-parts.parts.items c.new.result.items c.in_ok-parts.ensures.items c.new.ensures.items
    (view ∙ ap (λ x. (2, x) ∷ []) is)
    (ap (λ (v : Sight). v.claims) tells.3 ∙ ap (λ (v : Sight). v.claims) same.1 ∙ may.claims)
    (omega (arith, weight, may.light))
    (ap (λ (fs : List (ℕ × ℕ × ℕ)). get_elem? fs 0) facts ∙ may.zeroth)
    (ap (λ (fs : List (ℕ × ℕ × ℕ)). get_elem? fs 1) facts ∙ may.first)

pub park-requires-clause-waits : goal.park-requires-clause-waits
park-requires-clause-waits g c =
    let tells = c.in-Mine.ensures in
    let same = c.in_ok-reserve.ensures.same in
    let done = c.in-At.ensures in
    let view : c.take.new.clerk.view.parts ≡ (2, tells.0) ∷ [] = ap (λ (v : Sight). v.parts) tells.3 ∙ ap (λ (ps : List (ℕ × ℕ)). ps ++ (2, tells.0) ∷ []) (ap (λ (v : Sight). v.parts) same.1 ∙ c.requires.parts) in
    let parts = ap (λ (ps : List (ℕ × ℕ)). replace_all ps c.take.new.clerk.view.parts) c.in_ok-parts.ensures.items ∙ ap (replace_all ((2, 1) ∷ [])) view in
    waits_now c.args.turns.now.1 c.commit.new.clerk.view (ap (λ (v : Sight). v.closed) done.3 ∙ done.0) (ap (λ (v : Sight). v.parts) done.3 ∙ parts)
