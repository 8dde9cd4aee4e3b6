-- What a run writes, and how it ends.
use Rattle.std.specs.Prelude.{◌≡◌, ℕ, List, [], ◌∷◌, ◌++◌, ◌&&◌, filter, not, length, if◌then◌else◌, ◌==◌}
use Rattle.std.specs.Fmt.{decimal}
use Rattle.ocr_body_meaning.specs.declared.call.Call.TheVariants as call
use Rattle.ocr_machine_history.specs.declared.entry.Entry.{Entry}
use Rattle.ocr_machine_history.specs.declared.entry.Entry.TheVariants.{Call, Stop}
use Rattle.ocr_machine_history.specs.declared.entry.Stop as run
use Rattle.ocr_machine_history.specs.declared.entry.Stop.TheVariants as by
use Rattle.ocr_machine_history.specs.History.{History}
use Rattle.ocr_machine_history.specs.Made.{is_edt, made_edts}
use Rattle.ocr_machine_history.specs.Numbers.{IsRising, is_in}
use Rattle.ocr_machine_history.specs.Edts.{is_started}

-- the line of a print, and nothing for any other entry
abbrev pub line_of : Entry → List ℕ
line_of (Call t home (call.Print v) answer writes) = decimal v ++ 10 ∷ []
line_of other = []

-- the lines of a history's prints, the oldest first
abbrev pub printed : History → List ℕ
printed [] = []
printed (e ∷ past) = printed past ++ line_of e

-- the EDTs that were made and never started
abbrev pub left_edts : History → List ℕ
left_edts past = filter (λ t. not (is_started past t)) (made_edts past)

-- it lists exactly those, each once, rising
pub record LeftLaw : Type 0 where
  pub rising : (past : History) → IsRising (left_edts past)
  pub left : (past : History) (t : ℕ)
      → is_in t (left_edts past) ≡ (is_edt past t && not (is_started past t))

-- the status of a stop
abbrev pub status_of : run.Stop → ℕ
status_of (by.Shutdown t) = 0
status_of (by.Abort t code) = 5
status_of (by.Fault t fault) = 6
status_of by.Objects = 10
status_of (by.Events worker weight) = 10
status_of by.Memory = 9

-- the status of a run without a stop: 4 where EDTs are left
abbrev pub quiet_status : History → ℕ
quiet_status past = if length (left_edts past) == 0 then 0 else 4

-- the status of a run
abbrev pub ending_of : History → ℕ
ending_of [] = 4
ending_of (Stop why ∷ past) = status_of why
ending_of (e ∷ past) = quiet_status (e ∷ past)
