-- What an entry weighs, and a history.
use Rattle.std.specs.Prelude.{ℕ, ◌+◌, ◌/◌, [], ◌∷◌, length, if◌then◌else◌}
use Rattle.ocr_body_meaning.specs.declared.call.Call as body
use Rattle.ocr_body_meaning.specs.declared.call.Call.TheVariants as call
use Rattle.ocr_body_meaning.specs.declared.call.Answer.{Answer}
use Rattle.ocr_machine_history.specs.declared.entry.Entry.{Entry}
use Rattle.ocr_machine_history.specs.declared.entry.Entry.TheVariants.{Call, Free, Stop}
use Rattle.ocr_body_meaning.specs.Holds.{is_done}
use Rattle.ocr_machine_history.specs.History.{History}

-- 1 and the entry's writes; a block that is made has a sixteenth of its words besides; a Stop
-- weighs nothing
abbrev pub call_weight : body.Call → Answer → ℕ
call_weight (call.DbCreate n flags) a = if is_done a.code then 1 + n / 8 / 16 else 1
call_weight other a = 1

abbrev pub weight_of : Entry → ℕ
weight_of (Call t home c a w) = call_weight c a + length w
weight_of (Free t d w) = 1 + length w
weight_of (Stop why) = 0
weight_of other = 1

-- of a history: the sum of its entries' weights
abbrev pub weight : History → ℕ
weight [] = 0
weight (e ∷ past) = weight_of e + weight past
