use Rattle.std.proofs.Common.{◌++◌, ◌∷◌, [], ℕ, List, ap, ◌∙◌, subst, sym, refl, ◌≤◌}
use lib.ListN.{get_elem?}
use Rattle.ocr_turns_rule.specs.Debts.{times}
use Rattle.ocr_tests_count.proofs.Steps.{Sight, has_drawn, has_slot}
use Rattle.ocr_tests_count.proofs.play.claim_and_read.Goals as goal

pub payload-zeroth-requires-clause-claimed : goal.payload-zeroth-requires-clause-claimed
payload-zeroth-requires-clause-claimed c = subst (λ ns. 1 ≤ times 2 ns) (sym (ap (λ (v : Sight). v.claims) c.in-Won.ensures.told.0)) (has_drawn c.args.clerk.now.view.claims 2 refl)

pub payload-zeroth-requires-clause-slot : goal.payload-zeroth-requires-clause-slot
payload-zeroth-requires-clause-slot c = has_slot c.args.turns.now.1 c.claim.new.clerk.view 0 0 c.args.first (ap (λ (fs : List (ℕ × ℕ × ℕ)). get_elem? fs 0) (ap (λ (v : Sight). v.facts) c.in-Won.ensures.told.0 ∙ c.requires.facts))

pub payload-requires-clause-claimed : goal.payload-requires-clause-claimed
payload-requires-clause-claimed c = subst (λ ns. 1 ≤ times 2 ns) (sym (ap (λ (v : Sight). v.claims) c.payload-zeroth.ensures.told.0)) (subst (λ ns. 1 ≤ times 2 ns) (sym (ap (λ (v : Sight). v.claims) c.in-Won.ensures.told.0)) (has_drawn c.args.clerk.now.view.claims 2 refl))

pub payload-requires-clause-slot : goal.payload-requires-clause-slot
payload-requires-clause-slot c = has_slot c.args.turns.now.1 c.payload-zeroth.new.clerk.view 1 1 c.args.second
    (ap (λ (fs : List (ℕ × ℕ × ℕ)). get_elem? fs 1) (ap (λ (v : Sight). v.facts) c.payload-zeroth.ensures.told.0 ∙ ap (λ (fs : List (ℕ × ℕ × ℕ)). fs ++ (2, 0, c.payload-zeroth.result) ∷ []) (ap (λ (v : Sight). v.facts) c.in-Won.ensures.told.0 ∙ c.requires.facts)))
