-- A tally tells of an event what its satisfactions do.
use Rattle.std.proofs.Common.{◌≡◌, ◌∙◌, ◌<◌, ◌≤◌, ◌+◌, ℕ, List, [], ◌∷◌, true, false, ◌||◌, ◌&&◌, ◌==◌, if◌then◌else◌, length, refl, ap, arith}
use Rattle.std.specs.Prelude.{Option, Some, None, is_some}
use Rattle.std.specs.Ordering.{nat_cmp}
use Rattle.std.specs.BTreeMap.{get}
use Rattle.ocr_guid.specs.Target.{EventCall, Satisfaction}
use Rattle.ocr_event.specs.Event as event
use Rattle.ocr_latch.specs.Latch as latch
use Rattle.ocr_event_any.specs.declared.TheConstants.{ONCE, LATCH}
use Rattle.ocr_machine_history.specs.History.{History}
use Rattle.ocr_machine_rules.specs.Blocks.{was_destroyed}
use Rattle.ocr_report.specs.declared.destroyed.Ends.{Ends}
use Rattle.ocr_report.specs.Destroyed.{is_destroyed}
use Rattle.ocr_report.specs.Ends.{AreEnds, is_ended}
use Rattle.ocr_report.specs.Fired.{is_fired, kind_of, satisfactions_of, satisfied_after, satisfied_in}
use Rattle.ocr_report.specs.Tallies.{IsCountable, is_fired_by, kind_at, tally_after, tally_in, tally_of}

-- one satisfaction more
pub tally_step : (slot : ℕ) (calls : List EventCall)
    → tally_of (Satisfaction slot 0 ∷ calls) ≡ Some (tally_after (tally_in (tally_of calls)) slot)
tally_step slot [] = refl
tally_step slot (one ∷ calls) = refl

-- an event has fired where it has a tally
IsSame : List EventCall → Type 0
IsSame calls = is_some (tally_of calls) ≡ event.has_fired calls

some_first : (o : Option ℕ) (p : ℕ)
    → true ≡ is_some (elim o as (λ _. Option ℕ) [ None ↦ Some p | Some q ↦ Some q ])
some_first None p = refl
some_first (Some q) p = refl

same_after : (o : Option (ℕ × ℕ)) (g : ℕ) (calls : List EventCall) → IsSame calls → IsSame (satisfied_after o g calls)
unfolding IsSame
same_after None g calls same = same
same_after (Some (e, slot)) g calls same =
    elim (e == g) as (λ b. is_some (tally_of (if b then Satisfaction slot 0 ∷ calls else calls)) ≡ event.has_fired (if b then Satisfaction slot 0 ∷ calls else calls))
    [ true ↦ some_first (event.first_payload calls) 0 | false ↦ same ]

pub once_fired : (past : History) (g : ℕ) → is_some (tally_of (satisfactions_of past g)) ≡ event.has_fired (satisfactions_of past g)
unfolding IsSame
once_fired [] g = refl
once_fired (e ∷ past) g = same_after (satisfied_in e) g (satisfactions_of past g) (once_fired past g)

latch_fired : (calls : List EventCall) → (tally_in (tally_of calls)).was_even ≡ latch.has_fired calls
latch_fired [] = refl
latch_fired (one ∷ calls) = refl

pub fired_law : (past : History) (g : ℕ) (k : ℕ)
    → is_fired_by k (tally_of (satisfactions_of past g)) ≡ is_fired k (satisfactions_of past g)
fired_law past g k =
    ap (λ b. ((k == ONCE) && b) || ((k == LATCH) && (tally_in (tally_of (satisfactions_of past g))).was_even)) (once_fired past g)
    ∙ ap (λ b. ((k == ONCE) && event.has_fired (satisfactions_of past g)) || ((k == LATCH) && b)) (latch_fired (satisfactions_of past g))

pub ended_law : (past : History) (ends : Ends) → AreEnds past ends → (g : ℕ) → is_ended ends g ≡ is_destroyed past g
ended_law past ends are g =
    ap (λ b. b || is_fired_by (kind_at ends.kinds g) (get nat_cmp ends.tallies g)) (are.victims g)
    ∙ ap (λ k. was_destroyed past g || is_fired_by k (get nat_cmp ends.tallies g)) (are.kinds g)
    ∙ ap (λ t. was_destroyed past g || is_fired_by (kind_of past g) t) (are.tallies g)
    ∙ ap (λ b. was_destroyed past g || b) (fired_law past g (kind_of past g))

-- each entry is at most one satisfaction
count_after : (k : ℕ) (o : Option (ℕ × ℕ)) (g : ℕ) (calls : List EventCall)
    → latch.satisfactions_on k (satisfied_after o g calls) ≤ latch.satisfactions_on k calls + 1
count_after k None g calls = omega arith
count_after k (Some (e, slot)) g calls =
    elim (e == g) as (λ b. latch.satisfactions_on k (if b then Satisfaction slot 0 ∷ calls else calls) ≤ latch.satisfactions_on k calls + 1) [
      | true ↦ elim (slot == k) as (λ b. (if b then latch.satisfactions_on k calls + 1 else latch.satisfactions_on k calls) ≤ latch.satisfactions_on k calls + 1)
          [ true ↦ omega arith | false ↦ omega arith ]
      | false ↦ omega arith
    ]

count_most : (k : ℕ) (past : History) (g : ℕ) → latch.satisfactions_on k (satisfactions_of past g) ≤ length past
count_most k [] g = omega arith
count_most k (e ∷ past) g =
    let here = count_after k (satisfied_in e) g (satisfactions_of past g) in
    let before = count_most k past g in
    omega arith

countable_tally : (calls : List EventCall) (n : ℕ) → latch.satisfactions_on 0 calls ≤ n → latch.satisfactions_on 1 calls ≤ n → n < 18446744073709551615 → IsCountable (tally_in (tally_of calls))
countable_tally [] n down up few = record { decrements = omega arith; increments = omega arith }
countable_tally (one ∷ calls) n down up few = record { decrements = omega arith; increments = omega arith }

pub few_counted : (past : History) (g : ℕ) → length past < 18446744073709551615 → IsCountable (tally_in (tally_of (satisfactions_of past g)))
few_counted past g few =
    countable_tally (satisfactions_of past g) (length past) (count_most 0 past g) (count_most 1 past g) few
