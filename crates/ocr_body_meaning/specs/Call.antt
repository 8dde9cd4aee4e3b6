-- What a call is for.
use Rattle.std.specs.Prelude.{Bool, true, false}
use Rattle.ocr_body_meaning.specs.declared.call.Call.{Call}
use Rattle.ocr_body_meaning.specs.declared.call.Call.TheVariants as call

-- the call makes an object
abbrev pub is_creation : Call → Bool
is_creation (call.DbCreate length flags) = true
is_creation (call.EventCreate kind flags) = true
is_creation (call.EventCreateParams kind flags max_gen nb_sat nb_deps) = true
is_creation (call.TemplateCreate function paramc depc) = true
is_creation (call.EdtCreate template paramc params depc deps flags output) = true
is_creation other = false

-- the call reads or writes a word of a block
abbrev pub is_access : Call → Bool
is_access (call.Load block word) = true
is_access (call.Store block word value) = true
is_access other = false
