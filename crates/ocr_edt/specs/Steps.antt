-- What each call of an EDT makes of its phase, and how a phase keeps its holds.
use Rattle.std.specs.Prelude.{◌≡◌, ℕ, ◌≤◌, List, [], ◌∷◌, Bool, false, not, if◌then◌else◌, length, map, take, drop, slice_set, slice_index_or}
use Rattle.std.specs.List.{All, filter}
use Rattle.ocr_acquire.specs.declared.Mode.{Mode}
use Rattle.ocr_acquire.specs.declared.Mode.TheVariants as mode
use Rattle.ocr_acquire.specs.Mode.{is_null}
use Rattle.ocr_acquire.specs.Plan.{RisesFrom}
use Rattle.ocr_edt.specs.declared.Identity.{Identity}
use Rattle.ocr_edt.specs.Phases.{Progress, Work, name_of, without, placed_by}

-- THE STEPS.
abbrev pub after_ready : Identity → List (ℕ × Mode) → Progress
after_ready i plan = record { identity = i; holds = []; stale = []; rest = plan }

-- the next block was acquired in its mode, or it was found stale
abbrev pub with_next : Identity → List (ℕ × Mode) → List ℕ → List (ℕ × Mode) → Bool → Progress
with_next i holds stale [] is_stale = record {
  identity = i;
  holds = holds;
  stale = stale;
  rest = [];
}
with_next i holds stale (member ∷ rest) is_stale =
    if is_stale then record {
      identity = i;
      holds = holds;
      stale = placed_by (λ g. g) member.0 stale;
      rest = rest;
    }
    else record { identity = i; holds = placed_by name_of member holds; stale = stale; rest = rest }

abbrev pub after_acquired : Progress → Bool → Progress
after_acquired s is_stale = with_next s.identity s.holds s.stale s.rest is_stale

abbrev pub after_start : Progress → Work
after_start s = record { identity = s.identity; holds = s.holds; stale = s.stale }

abbrev pub after_hold : Work → ℕ → Work
after_hold s block = record {
  identity = s.identity;
  holds = placed_by name_of (block, mode.Rw) (without block s.holds);
  stale = s.stale;
}

abbrev pub after_drop_hold : Work → ℕ → Work
after_drop_hold s block = record {
  identity = s.identity;
  holds = without block s.holds;
  stale = s.stale;
}

-- HOW A PHASE KEEPS THEM: a stale block stands among the others in mode NULL.
abbrev pub held_in : List (ℕ × Mode) → List (ℕ × Mode)
held_in entries = filter (λ (entry : ℕ × Mode). not (is_null entry.1)) entries

abbrev pub stale_in : List (ℕ × Mode) → List ℕ
stale_in entries = map name_of (filter (λ (entry : ℕ × Mode). is_null entry.1) entries)

-- made blocks are held in RW, whatever the others say of them
abbrev pub with_made : List ℕ → List (ℕ × Mode) → List (ℕ × Mode)
with_made [] holds = holds
with_made (block ∷ made) holds =
    placed_by name_of (block, mode.Rw) (without block (with_made made holds))

abbrev pub marked_at : List (ℕ × Mode) → ℕ → Bool → List (ℕ × Mode)
marked_at entries place is_stale =
    if is_stale
    then slice_set entries place ((slice_index_or entries place (0, mode.Null)).0, mode.Null)
    else entries

abbrev pub progress_in : Identity → List (ℕ × Mode) → ℕ → Progress
progress_in i entries done =
    record {
      identity = i;
      holds = held_in (take done entries);
      stale = stale_in (take done entries);
      rest = drop done entries;
    }

pub record IsUnderWay (entries : List (ℕ × Mode)) (done : ℕ) : Type 0 where
  pub within : done ≤ length entries
  pub rising : RisesFrom 0 entries
  pub used : All (λ entry. is_null entry.1 ≡ false) (drop done entries)
