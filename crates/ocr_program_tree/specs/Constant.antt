-- The numbers of the constants.
use Rattle.std.specs.Prelude.{ℕ}
use Rattle.ocr_program_tree.specs.declared.tree.Constant.{Constant}
use Rattle.ocr_program_tree.specs.declared.tree.Constant.TheVariants as constant

abbrev pub value_of : Constant → ℕ
value_of constant.NullGuid = 0
value_of constant.UninitializedGuid = 18446744073709551615
value_of constant.EdtParamUnk = 4294967295
value_of constant.EdtParamDef = 4294967294
value_of constant.EdtPropNone = 0
value_of constant.EdtPropFinish = 1
value_of constant.DbPropNone = 0
value_of constant.DbPropNoAcquire = 1
value_of constant.EvtPropNone = 0
value_of constant.EvtPropTakesArg = 1
value_of constant.EventLatchDecrSlot = 0
value_of constant.EventLatchIncrSlot = 1
value_of constant.DbModeNull = 0
value_of constant.DbModeRo = 1
value_of constant.DbModeConst = 2
value_of constant.DbModeRw = 3
value_of constant.DbModeEw = 4
value_of constant.EventOnce = 1
value_of constant.EventIdem = 2
value_of constant.EventSticky = 3
value_of constant.EventLatch = 4
value_of constant.EventChannel = 5
