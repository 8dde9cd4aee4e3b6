-- What is kept of events: the kind of each, and a tally of its satisfactions.
use Rattle.std.specs.Prelude.{◌≡◌, ◌<◌, ℕ, ◌+◌, List, [], ◌∷◌, Bool, false, ◌||◌, ◌&&◌, not, ◌==◌, if◌then◌else◌, Option, Some, None, is_some, unwrap_or}
use Rattle.std.specs.Ordering.{nat_cmp}
use Rattle.std.specs.BTreeMap.{BTreeMap, get}
use Rattle.ocr_guid.specs.Target.{EventCall}
use Rattle.ocr_latch.specs.Latch as latch
use Rattle.ocr_event_any.specs.declared.TheConstants.{ONCE, LATCH}
use Rattle.ocr_machine_history.specs.History.{History}
use Rattle.ocr_report.specs.declared.tallies.Tally.{Tally}
use Rattle.ocr_report.specs.Fired.{kind_of, satisfactions_of}

-- how often an event was satisfied on each slot of a latch, and whether these numbers were ever
-- even; none where it was not satisfied
abbrev pub tally_of : List EventCall → Option Tally
tally_of [] = None
tally_of (one ∷ calls) = Some (record {
  decrements = latch.decrements (one ∷ calls);
  increments = latch.increments (one ∷ calls);
  was_even = latch.has_fired (one ∷ calls);
})

abbrev pub no_tally : Tally
no_tally = record { decrements = 0; increments = 0; was_even = false }

abbrev pub tally_in : Option Tally → Tally
tally_in None = no_tally
tally_in (Some tally) = tally

-- with a satisfaction of this slot more
abbrev pub is_even : ℕ → ℕ → Bool
is_even down up = (down == up) && not (down == 0)

abbrev pub decrements_after : Tally → ℕ → ℕ
decrements_after tally slot = if slot == 0 then tally.decrements + 1 else tally.decrements

abbrev pub increments_after : Tally → ℕ → ℕ
increments_after tally slot = if slot == 1 then tally.increments + 1 else tally.increments

abbrev pub tally_after : Tally → ℕ → Tally
tally_after tally slot = record {
  decrements = decrements_after tally slot;
  increments = increments_after tally slot;
  was_even = tally.was_even
      || is_even (decrements_after tally slot) (increments_after tally slot);
}

-- one more can be counted
pub record IsCountable (tally : Tally) : Type 0 where
  pub decrements : tally.decrements < 18446744073709551615
  pub increments : tally.increments < 18446744073709551615

-- what a kind and a tally tell
abbrev pub is_fired_by : ℕ → Option Tally → Bool
is_fired_by k tally = ((k == ONCE) && is_some tally) || ((k == LATCH) && (tally_in tally).was_even)

abbrev pub kind_at : BTreeMap ℕ ℕ → ℕ → ℕ
kind_at kinds g = unwrap_or (get nat_cmp kinds g) 0

abbrev pub AreKinds : History → BTreeMap ℕ ℕ → Type 0
AreKinds past kinds = (g : ℕ) → kind_at kinds g ≡ kind_of past g

abbrev pub AreTallies : History → BTreeMap ℕ Tally → Type 0
AreTallies past tallies = (g : ℕ) → get nat_cmp tallies g ≡ tally_of (satisfactions_of past g)
