use Rattle.std.proofs.Common.{◌≡◌, ◌∙◌, ℕ, List, Result, Ok, Err, IfOk, length, sym, ap, subst}
use Rattle.std.specs.List.{filter}
use Rattle.std.specs.List.Sorted.{IsPermutation}
use Rattle.std.proofs.lemmas.List.Sorted.{length_permutation}
use Rattle.smallvec.specs.SmallVec.{SmallVec}
use Rattle.smallvec.proofs.SmallVecLemmas.{items-with_items}
use Rattle.ocr_acquire.specs.declared.Mode.{Mode}
use Rattle.ocr_acquire.specs.Plan.{IsPlan, IsWellFormed, asks, plan_of, last_of_each}
use Rattle.ocr_acquire.proofs.Order.{ascends}
use Rattle.ocr_acquire.proofs.Sorts.{sorted_plan}
use Rattle.ocr_acquire.proofs.Laws.{plan_law, given_law}
use Rattle.ocr_acquire.proofs.plan.Goals as goal

-- what the sorted slots leave is the plan
made : (c : goal.Joined-entries) → last_of_each c.as_slice.result.now ≡ plan_of c.args.slots.now
made c =
    let sorted : List (ℕ × Mode) = c.sort_unstable.new.self in
    let before : IsPermutation c.in_ok-entries.entries.items sorted = rw (← c.deref_mut.ensures.value) c.sort_unstable.ensures.permutation in
    let same : IsPermutation (filter asks c.args.slots.now) sorted = rw (← c.in_ok-entries.ensures) before in
    let size : length sorted ≡ length c.in_ok-entries.entries.items = length_permutation c.in_ok-entries.entries.items sorted before in
    let read : c.as_slice.result.now ≡ sorted = c.as_slice.ensures ∙ items-with_items c.in_ok-entries.entries sorted size in
    ap last_of_each read ∙ sorted_plan c.args.slots.now sorted same (ascends sorted c.sort_unstable.ensures.sorted)

pub returns-clause-value : goal.returns-clause-value
returns-clause-value c = rw (made c) at c.strongest.ensures

wanted_if : {E : Type 0} (slots : List (ℕ × Mode)) (r : Result (SmallVec (ℕ × Mode)) E) → IfOk r (λ plan. plan.items ≡ plan_of slots)
    → IfOk r (λ plan. IsPlan slots plan.items)
wanted_if slots (Ok plan) h = subst (λ (items : List (ℕ × Mode)). IsPlan slots items) (sym h) (plan_law slots)
wanted_if slots (Err e) h = h

pub returns-clause-wanted : goal.returns-clause-wanted
returns-clause-wanted c = wanted_if c.args.slots.now c.strongest.result (returns-clause-value c)

formed_if : {E : Type 0} (slots : List (ℕ × Mode)) (r : Result (SmallVec (ℕ × Mode)) E) → IfOk r (λ plan. plan.items ≡ plan_of slots)
    → IfOk r (λ plan. IsWellFormed plan.items)
formed_if slots (Ok plan) h = subst IsWellFormed (sym h) (given_law slots)
formed_if slots (Err e) h = h

pub returns-clause-well_formed : goal.returns-clause-well_formed
returns-clause-well_formed c = formed_if c.args.slots.now c.strongest.result (returns-clause-value c)
