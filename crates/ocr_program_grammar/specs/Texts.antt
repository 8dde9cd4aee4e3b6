-- How tokens are written.
use Rattle.std.specs.Prelude.{ℕ, List, Option, Some, None, codes}
use Rattle.ocr_text.specs.declared.token.TokenKind.{TokenKind}
use Rattle.ocr_text.specs.declared.token.TokenKind.TheVariants as kind
use Rattle.ocr_program_tree.specs.declared.tree.BinaryOp.{BinaryOp}
use Rattle.ocr_program_tree.specs.declared.tree.BinaryOp.TheVariants as binary
use Rattle.ocr_program_tree.specs.declared.tree.UnaryOp.{UnaryOp}
use Rattle.ocr_program_tree.specs.declared.tree.UnaryOp.TheVariants as unary
use Rattle.ocr_program_tree.specs.declared.tree.Constant as of_constant
use Rattle.ocr_program_tree.specs.declared.tree.Constant.TheVariants as constant
use Rattle.ocr_program_grammar.specs.declared.lexeme.Lexeme.{Lexeme}
use Rattle.ocr_program_grammar.specs.declared.lexeme.Lexeme.TheVariants as lexeme
use Rattle.ocr_program_grammar.specs.declared.lexeme.Word.{Word}
use Rattle.ocr_program_grammar.specs.declared.lexeme.Word.TheVariants as word
pub use Rattle.ocr_program_grammar.specs.Shape.{call_text}

abbrev pub word_text : Word → List ℕ
word_text word.Fn = codes "fn"
word_text word.Let = codes "let"
word_text word.If = codes "if"
word_text word.Else = codes "else"
word_text word.While = codes "while"
word_text word.Print = codes "print"
word_text word.Return = codes "return"
word_text word.Paramc = codes "paramc"
word_text word.Paramv = codes "paramv"
word_text word.Depc = codes "depc"
word_text word.Depv = codes "depv"
word_text word.Code = codes "code"

abbrev pub constant_text : of_constant.Constant → List ℕ
constant_text constant.NullGuid = codes "NULL_GUID"
constant_text constant.UninitializedGuid = codes "UNINITIALIZED_GUID"
constant_text constant.EdtParamUnk = codes "EDT_PARAM_UNK"
constant_text constant.EdtParamDef = codes "EDT_PARAM_DEF"
constant_text constant.EdtPropNone = codes "EDT_PROP_NONE"
constant_text constant.EdtPropFinish = codes "EDT_PROP_FINISH"
constant_text constant.DbPropNone = codes "DB_PROP_NONE"
constant_text constant.DbPropNoAcquire = codes "DB_PROP_NO_ACQUIRE"
constant_text constant.EvtPropNone = codes "EVT_PROP_NONE"
constant_text constant.EvtPropTakesArg = codes "EVT_PROP_TAKES_ARG"
constant_text constant.EventLatchDecrSlot = codes "OCR_EVENT_LATCH_DECR_SLOT"
constant_text constant.EventLatchIncrSlot = codes "OCR_EVENT_LATCH_INCR_SLOT"
constant_text constant.DbModeNull = codes "DB_MODE_NULL"
constant_text constant.DbModeRo = codes "DB_MODE_RO"
constant_text constant.DbModeConst = codes "DB_MODE_CONST"
constant_text constant.DbModeRw = codes "DB_MODE_RW"
constant_text constant.DbModeEw = codes "DB_MODE_EW"
constant_text constant.EventOnce = codes "OCR_EVENT_ONCE_T"
constant_text constant.EventIdem = codes "OCR_EVENT_IDEM_T"
constant_text constant.EventSticky = codes "OCR_EVENT_STICKY_T"
constant_text constant.EventLatch = codes "OCR_EVENT_LATCH_T"
constant_text constant.EventChannel = codes "OCR_EVENT_CHANNEL_T"

-- the operators between two operands: the sign of each, and its level, from the lowest. An
-- expression of a higher level holds closer together
abbrev pub of_operator : BinaryOp → List ℕ × ℕ
of_operator binary.Or = (codes "|", 0)
of_operator binary.Xor = (codes "^", 1)
of_operator binary.And = (codes "&", 2)
of_operator binary.Eq = (codes "==", 3)
of_operator binary.Ne = (codes "!=", 3)
of_operator binary.Lt = (codes "<", 4)
of_operator binary.Le = (codes "<=", 4)
of_operator binary.Gt = (codes ">", 4)
of_operator binary.Ge = (codes ">=", 4)
of_operator binary.Shl = (codes "<<", 5)
of_operator binary.Shr = (codes ">>", 5)
of_operator binary.Add = (codes "+", 6)
of_operator binary.Sub = (codes "-", 6)
of_operator binary.Mul = (codes "*", 7)
of_operator binary.Div = (codes "/", 7)
of_operator binary.Rem = (codes "%", 7)

abbrev pub operator_text : BinaryOp → List ℕ
operator_text op = (of_operator op).0

abbrev pub level : BinaryOp → ℕ
level op = (of_operator op).1

-- the sign before an operand
abbrev pub sign_text : UnaryOp → List ℕ
sign_text unary.Not = codes "!"
sign_text unary.Invert = codes "~"
sign_text unary.Minus = codes "-"

-- the reserved names and the symbols: the kind of the token that each is, and how it is written
abbrev pub spelling : Lexeme → Option (TokenKind × List ℕ)
spelling (lexeme.Word w) = Some (kind.Name, word_text w)
spelling (lexeme.Call c) = Some (kind.Name, call_text c)
spelling (lexeme.Constant c) = Some (kind.Name, constant_text c)
spelling (lexeme.Operator op) = Some (kind.Symbol, operator_text op)
spelling lexeme.Not = Some (kind.Symbol, codes "!")
spelling lexeme.Invert = Some (kind.Symbol, codes "~")
spelling lexeme.Equals = Some (kind.Symbol, codes "=")
spelling lexeme.Comma = Some (kind.Symbol, codes ",")
spelling lexeme.Semicolon = Some (kind.Symbol, codes ";")
spelling lexeme.OpenRound = Some (kind.Symbol, codes "(")
spelling lexeme.CloseRound = Some (kind.Symbol, codes ")")
spelling lexeme.OpenSquare = Some (kind.Symbol, codes "[")
spelling lexeme.CloseSquare = Some (kind.Symbol, codes "]")
spelling lexeme.OpenBrace = Some (kind.Symbol, codes "{")
spelling lexeme.CloseBrace = Some (kind.Symbol, codes "}")
spelling other = None
