use Rattle.std.proofs.Common.{◌≡◌, ◌≤◌, ◌++◌, ◌∷◌, [], ℕ, List, ap, sym, ◌∙◌, subst, arith}
use Rattle.std.specs.Prelude.{Option, Some}
use Rattle.ocr_turns_rule.specs.Sums.{one_at, sum_of}
use Rattle.ocr_tests_count.proofs.Steps.{Both, Sight, both_taken, has_drawn}
use Rattle.ocr_tests_count.proofs.play.take_unmade.Goals as goal

pub returns-then-part-eq-UNMADE : goal.returns-then-part-eq-UNMADE
returns-then-part-eq-UNMADE g c is =
    let idle = c.requires.idle in
    let drew = c.in-Place-eq2.ensures in
    let first = c.in-Mine.ensures in
    let second = c.in-Mine-take.ensures in
    let drawn = has_drawn c.args.clerk.now.view.drawn c.in-Place-eq2.field-0 (grind arith) in
    let views : c.take-2.new.clerk.view.parts ≡ Both first.0 second.0 = ap (λ (v : Sight). v.parts) second.3 ∙ ap (λ (ps : List (ℕ × ℕ)). ps ++ (4, second.0) ∷ []) (ap (λ (v : Sight). v.parts) first.3 ∙ ap (λ (ps : List (ℕ × ℕ)). ps ++ (3, first.0) ∷ []) (ap (λ (v : Sight). v.parts) drew.4 ∙ idle.parts)) in
    let hand : c.take-2.new.clerk.parts ≡ (3, Some first.0) ∷ (4, Some second.0) ∷ [] = second.4 ∙ ap (λ (ps : List (ℕ × Option ℕ)). ps ++ (4, Some second.0) ∷ []) (first.4 ∙ ap (λ (ps : List (ℕ × Option ℕ)). ps ++ (3, Some first.0) ∷ []) (drew.3.1 ∙ idle.hand)) in
    let read = both_taken first.0 second.0 c.part.result.now c.part-then-part-eq-UNMADE.result.now c.take-2.new.clerk.parts hand c.part.ensures c.part-then-part-eq-UNMADE.ensures in
    let a : first.0 ≡ 0 = read.0 ∙ grind arith in
    let b : second.0 ≡ 0 = read.1 ∙ grind arith in
    record {
      table = (second.2 ∙ first.2 ∙ drew.3.0 ∙ idle.table.0, ap (λ (v : Sight). v.terms) second.3 ∙ ap (λ (v : Sight). v.terms) first.3 ∙ ap (λ (v : Sight). v.terms) drew.4 ∙ idle.table.1);
      drawn = subst (λ ns. 1 ≤ sum_of (one_at 2) ns) (sym (ap (λ (v : Sight). v.drawn) second.3 ∙ ap (λ (v : Sight). v.drawn) first.3 ∙ ap (λ (v : Sight). v.drawn) drew.4)) drawn;
      hand = hand ∙ ap (λ x. (3, Some x) ∷ (4, Some second.0) ∷ []) a ∙ ap (λ x. (3, Some 0) ∷ (4, Some x) ∷ []) b;
      parts = views ∙ ap (λ x. Both x second.0) a ∙ ap (Both 0) b;
      claims = ap (λ (v : Sight). v.claims) second.3 ∙ ap (λ (v : Sight). v.claims) first.3 ∙ ap (λ (v : Sight). v.claims) drew.4 ∙ idle.claims;
      debts = ap (λ (v : Sight). v.debts) second.3 ∙ ap (λ (v : Sight). v.debts) first.3 ∙ ap (λ (v : Sight). v.debts) drew.4;
      facts = ap (λ (v : Sight). v.facts) second.3 ∙ ap (λ (v : Sight). v.facts) first.3 ∙ ap (λ (v : Sight). v.facts) drew.4;
      weight = ap (λ (v : Sight). v.weight) second.3 ∙ ap (λ (v : Sight). v.weight) first.3 ∙ ap (λ (v : Sight). v.weight) drew.4;
      root = (ap (λ (v : Sight). v.root) second.3 ∙ ap (λ (v : Sight). v.root) first.3 ∙ ap (λ (v : Sight). v.root) drew.4, ap (λ (v : Sight). v.quota) second.3 ∙ ap (λ (v : Sight). v.quota) first.3 ∙ ap (λ (v : Sight). v.quota) drew.4);
      units = (ap (λ (v : Sight). v.spares) second.3 ∙ ap (λ (v : Sight). v.spares) first.3 ∙ ap (λ (v : Sight). v.spares) drew.4, ap (λ (v : Sight). v.ended) second.3 ∙ ap (λ (v : Sight). v.ended) first.3 ∙ ap (λ (v : Sight). v.ended) drew.4);
      room = (second.5 ∙ first.5 ∙ drew.3.2.0, omega (arith, second.6, first.6, drew.3.2.1), second.7 ∙ first.7 ∙ drew.3.2.2);
    }
