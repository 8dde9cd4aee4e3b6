-- How many numbers a creation needs.
use Rattle.std.specs.Prelude.{ℕ, ◌+◌, ◌==◌, Bool, if◌then◌else◌}
use Rattle.ocr_body_meaning.specs.declared.call.Call as body
use Rattle.ocr_body_meaning.specs.declared.call.Call.TheVariants as call

abbrev pub one_if : Bool → ℕ
one_if b = if b then 1 else 0

-- how many objects a call makes where it is accepted: beside an EDT its scope, where it is a finish
-- EDT, and its output event
abbrev pub object_count : body.Call → ℕ
object_count (call.DbCreate n flags) = 1
object_count (call.EventCreate kind flags) = 1
object_count (call.EventCreateParams kind flags max sat deps) = 1
object_count (call.TemplateCreate function pc dc) = 1
object_count (call.EdtCreate from pc params dc deps flags output) =
    1 + one_if (flags == 1) + one_if output
object_count other = 0
