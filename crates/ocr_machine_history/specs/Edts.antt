-- Which EDTs of a run have started and ended.
use Rattle.std.specs.Prelude.{◌≡◌, ◌≤◌, ℕ, ◌+◌, [], ◌∷◌, Bool, true, false, ◌||◌, ◌==◌, if◌then◌else◌}
use Rattle.ocr_machine_history.specs.declared.entry.Entry.TheVariants.{Start, End}
use Rattle.ocr_machine_history.specs.History.{History}

-- the EDT has started
abbrev pub is_started : History → ℕ → Bool
is_started [] t = false
is_started (Start edt ∷ past) t = (edt == t) || is_started past t
is_started (e ∷ past) t = is_started past t

-- how often it started
abbrev pub start_count : History → ℕ → ℕ
start_count [] t = 0
start_count (Start edt ∷ past) t = (if edt == t then 1 else 0) + start_count past t
start_count (e ∷ past) t = start_count past t

-- every EDT starts at most once
abbrev pub StartsOnce : History → Type 0
StartsOnce past = (t : ℕ) → start_count past t ≤ 1

-- the EDT has ended
abbrev pub is_ended : History → ℕ → Bool
is_ended [] t = false
is_ended (End edt returned ∷ past) t = (edt == t) || is_ended past t
is_ended (e ∷ past) t = is_ended past t

-- the EDT runs: it has started, and has not ended
pub record IsRunning (past : History) (t : ℕ) : Type 0 where
  pub started : is_started past t ≡ true
  pub not_ended : is_ended past t ≡ false
