-- The names of calls and constants have the form of a name.
use Rattle.std.proofs.Common.{◌≡◌, true, refl}
use Rattle.ocr_program_tree.specs.declared.tree.CallName.{CallName}
use Rattle.ocr_program_tree.specs.declared.tree.CallName.TheVariants as name
use Rattle.ocr_program_tree.specs.declared.tree.Constant as of_constant
use Rattle.ocr_program_tree.specs.declared.tree.Constant.TheVariants as constant
use Rattle.ocr_text.specs.declared.token.TokenKind.TheVariants as kind
use Rattle.ocr_text.specs.Forms.{is_form}
use Rattle.ocr_program_grammar.specs.Texts.{call_text, constant_text}

pub call_form : (c : CallName) → is_form kind.Name (call_text c) ≡ true
call_form name.DbCreate = refl
call_form name.DbRelease = refl
call_form name.DbDestroy = refl
call_form name.EventCreate = refl
call_form name.EventCreateParams = refl
call_form name.EventDestroy = refl
call_form name.Satisfy = refl
call_form name.SatisfySlot = refl
call_form name.AddDependence = refl
call_form name.TemplateCreate = refl
call_form name.TemplateDestroy = refl
call_form name.EdtCreate = refl
call_form name.Shutdown = refl
call_form name.Abort = refl
call_form name.Load = refl
call_form name.Store = refl

pub constant_form : (c : of_constant.Constant) → is_form kind.Name (constant_text c) ≡ true
constant_form constant.NullGuid = refl
constant_form constant.UninitializedGuid = refl
constant_form constant.EdtParamUnk = refl
constant_form constant.EdtParamDef = refl
constant_form constant.EdtPropNone = refl
constant_form constant.EdtPropFinish = refl
constant_form constant.DbPropNone = refl
constant_form constant.DbPropNoAcquire = refl
constant_form constant.EvtPropNone = refl
constant_form constant.EvtPropTakesArg = refl
constant_form constant.EventLatchDecrSlot = refl
constant_form constant.EventLatchIncrSlot = refl
constant_form constant.DbModeNull = refl
constant_form constant.DbModeRo = refl
constant_form constant.DbModeConst = refl
constant_form constant.DbModeRw = refl
constant_form constant.DbModeEw = refl
constant_form constant.EventOnce = refl
constant_form constant.EventIdem = refl
constant_form constant.EventSticky = refl
constant_form constant.EventLatch = refl
constant_form constant.EventChannel = refl
