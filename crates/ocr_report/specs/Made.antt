-- What an entry makes.
use Rattle.std.specs.Prelude.{ℕ, List, Bool, false, if◌then◌else◌, Option, Some, None}
use Rattle.ocr_body_meaning.specs.Holds.{is_done}
use Rattle.ocr_body_meaning.specs.declared.call.Call as body
use Rattle.ocr_body_meaning.specs.declared.call.Call.TheVariants as call
use Rattle.ocr_body_meaning.specs.declared.call.Answer.{Answer}
use Rattle.ocr_machine_history.specs.declared.entry.Entry.{Entry}
use Rattle.ocr_machine_history.specs.declared.entry.Entry.TheVariants as an
use Rattle.ocr_machine_history.specs.Made.{is_beside}
use Rattle.ocr_machine_history.specs.Numbers.{placed}

-- the EDT
abbrev pub edt_by : body.Call → Answer → Option ℕ
edt_by (call.EdtCreate from pc ps dc ds fl o) a = if is_done a.code then Some a.value else None
edt_by other a = None

abbrev pub edt_in : Entry → Option ℕ
edt_in (an.Call t home c a w) = edt_by c a
edt_in other = None

-- the scope or the output event of an EDT that it makes
abbrev pub is_beside_in : Entry → ℕ → Bool
is_beside_in (an.Call t home c a w) g = is_beside c a g
is_beside_in other g = false

-- numbers with one more at its place, where there is one
abbrev pub with_number : Option ℕ → List ℕ → List ℕ
with_number None ns = ns
with_number (Some n) ns = placed n ns
