-- What is written for a reserved name or an operator is read as that.
use Rattle.std.proofs.Common.{◌≡◌, Some, refl}
use Rattle.ocr_program_tree.specs.declared.tree.BinaryOp.{BinaryOp}
use Rattle.ocr_program_tree.specs.declared.tree.BinaryOp.TheVariants as binary
use Rattle.ocr_program_tree.specs.declared.tree.CallName.{CallName}
use Rattle.ocr_program_tree.specs.declared.tree.CallName.TheVariants as name
use Rattle.ocr_program_tree.specs.declared.tree.Constant as of_constant
use Rattle.ocr_program_tree.specs.declared.tree.Constant.TheVariants as constant
use Rattle.ocr_program_grammar.specs.declared.lexeme.Lexeme.TheVariants as lexeme
use Rattle.ocr_program_grammar.specs.declared.lexeme.Word.{Word}
use Rattle.ocr_program_grammar.specs.declared.lexeme.Word.TheVariants as word
use Rattle.ocr_program_grammar.specs.Lexing.{lexeme_of_name, symbol}
use Rattle.ocr_program_grammar.specs.Texts.{word_text, call_text, constant_text, operator_text}
use Rattle.ocr_program_grammar.specs.Laws.{SpellingLaw}

pub words : (w : Word) → lexeme_of_name (word_text w) ≡ lexeme.Word w
words word.Fn = refl
words word.Let = refl
words word.If = refl
words word.Else = refl
words word.While = refl
words word.Print = refl
words word.Return = refl
words word.Paramc = refl
words word.Paramv = refl
words word.Depc = refl
words word.Depv = refl
words word.Code = refl

pub calls : (c : CallName) → lexeme_of_name (call_text c) ≡ lexeme.Call c
calls name.DbCreate = refl
calls name.DbRelease = refl
calls name.DbDestroy = refl
calls name.EventCreate = refl
calls name.EventCreateParams = refl
calls name.EventDestroy = refl
calls name.Satisfy = refl
calls name.SatisfySlot = refl
calls name.AddDependence = refl
calls name.TemplateCreate = refl
calls name.TemplateDestroy = refl
calls name.EdtCreate = refl
calls name.Shutdown = refl
calls name.Abort = refl
calls name.Load = refl
calls name.Store = refl

pub constants : (c : of_constant.Constant) → lexeme_of_name (constant_text c) ≡ lexeme.Constant c
constants constant.NullGuid = refl
constants constant.UninitializedGuid = refl
constants constant.EdtParamUnk = refl
constants constant.EdtParamDef = refl
constants constant.EdtPropNone = refl
constants constant.EdtPropFinish = refl
constants constant.DbPropNone = refl
constants constant.DbPropNoAcquire = refl
constants constant.EvtPropNone = refl
constants constant.EvtPropTakesArg = refl
constants constant.EventLatchDecrSlot = refl
constants constant.EventLatchIncrSlot = refl
constants constant.DbModeNull = refl
constants constant.DbModeRo = refl
constants constant.DbModeConst = refl
constants constant.DbModeRw = refl
constants constant.DbModeEw = refl
constants constant.EventOnce = refl
constants constant.EventIdem = refl
constants constant.EventSticky = refl
constants constant.EventLatch = refl
constants constant.EventChannel = refl

pub operators : (op : BinaryOp) → symbol (operator_text op) ≡ Some (lexeme.Operator op)
operators binary.Or = refl
operators binary.Xor = refl
operators binary.And = refl
operators binary.Eq = refl
operators binary.Ne = refl
operators binary.Lt = refl
operators binary.Le = refl
operators binary.Gt = refl
operators binary.Ge = refl
operators binary.Shl = refl
operators binary.Shr = refl
operators binary.Add = refl
operators binary.Sub = refl
operators binary.Mul = refl
operators binary.Div = refl
operators binary.Rem = refl

pub spelling_law : SpellingLaw
spelling_law = record { word = words; call = calls; constant = constants; operator = operators }
