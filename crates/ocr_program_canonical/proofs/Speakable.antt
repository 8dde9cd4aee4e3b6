-- Trees that some text has: the names may be chosen, the numbers fit, the arguments suit their call, and the canonical
-- lexemes keep the limits.
use Rattle.std.proofs.Common.{ℕ, ◌+◌, ◌<◌, ◌≤◌, ◌^◌, ◌≡◌, List, [], ◌∷◌, true}
use Rattle.ocr_program_tree.specs.declared.tree.UnaryOp.{UnaryOp}
use Rattle.ocr_program_tree.specs.declared.tree.BinaryOp.{BinaryOp}
use Rattle.ocr_program_tree.specs.declared.tree.Constant as of_constant
use Rattle.ocr_program_tree.specs.declared.tree.CallName.{CallName}
use Rattle.ocr_program_tree.specs.Tree.{Expression, Number, Named, Var, Paramc, Depc, LastCode, Paramv, Depv, Unary, Binary, Invoked, Arguments, empty, value, list, named, Statement, Let, Assign, If, While, Print, Return, Do, Statements, nothing, statement, FunctionTree}
use Rattle.ocr_text.specs.Forms.{is_form}
use Rattle.ocr_text.specs.declared.token.TokenKind.TheVariants as kind
use Rattle.ocr_program_grammar.specs.declared.lexeme.Lexeme.TheVariants as lexeme
use Rattle.ocr_program_grammar.specs.Shape.{shape}
use Rattle.ocr_program_grammar.specs.declared.argument_kind.ArgumentKind.{ArgumentKind}
use Rattle.ocr_program_grammar.specs.declared.argument_kind.ArgumentKind.TheVariants as slot
use Rattle.ocr_program_grammar.specs.Lexing as lexing
use Rattle.ocr_program_canonical.proofs.Lexemes.{size, arguments_size}

-- letters that are no reserved name
pub record IsName (x : List ℕ) : Type 0 where
  pub form : is_form kind.Name x ≡ true
  pub free : lexing.lexeme_of_name x ≡ lexeme.Name x

mutual
  pub data IsSpeakable : Expression → Type 0 where
    number : (n : ℕ) → n < 2 ^ 64 → IsSpeakable (Number n)
    constant : (c : of_constant.Constant) → IsSpeakable (Named c)
    variable : (x : List ℕ) → IsName x → IsSpeakable (Var x)
    paramc : IsSpeakable Paramc
    depc : IsSpeakable Depc
    code : IsSpeakable LastCode
    paramv : (e : Expression) → IsSpeakable e → IsSpeakable (Paramv e)
    depv : (e : Expression) → IsSpeakable e → IsSpeakable (Depv e)
    signed : (op : UnaryOp) (e : Expression) → IsSpeakable e → IsSpeakable (Unary op e)
    joined : (op : BinaryOp) (a b : Expression) → IsSpeakable a → IsSpeakable b → IsSpeakable (Binary op a b)
    invoked : (c : CallName) (args : Arguments) → Suits (shape c) args → IsSpeakable (Invoked c args)

  -- the arguments are those of these slots
  pub data Suits : List ArgumentKind → Arguments → Type 0 where
    over : Suits [] empty
    one : (ss : List ArgumentKind) (e : Expression) (more : Arguments) → IsSpeakable e → Suits ss more
        → Suits (slot.Value ∷ ss) (value e more)
    several : (ss : List ArgumentKind) (es more : Arguments) → AreSpeakable es → Suits ss more
        → Suits (slot.Values ∷ ss) (list es more)
    function : (ss : List ArgumentKind) (x : List ℕ) (more : Arguments) → IsName x → Suits ss more
        → Suits (slot.NameOfFunction ∷ ss) (named x more)
    flags : (ss : List ArgumentKind) (e : Expression) → IsSpeakable e → Suits (slot.FlagsAndOutput ∷ ss) (value e empty)
    output : (ss : List ArgumentKind) (e : Expression) (x : List ℕ) → IsSpeakable e → IsName x
        → Suits (slot.FlagsAndOutput ∷ ss) (value e (named x empty))

  -- the members of a list
  pub data AreSpeakable : Arguments → Type 0 where
    none : AreSpeakable empty
    member : (e : Expression) (es : Arguments) → IsSpeakable e → AreSpeakable es → AreSpeakable (value e es)

-- an outermost expression
pub record IsShort (e : Expression) : Type 0 where
  pub speakable : IsSpeakable e
  pub short : size e ≤ 256

mutual
  -- a statement in so many blocks
  pub data IsWritable : ℕ → Statement → Type 0 where
    bind : (d : ℕ) (x : List ℕ) (e : Expression) → IsName x → IsShort e → IsWritable d (Let x e)
    assign : (d : ℕ) (x : List ℕ) (e : Expression) → IsName x → IsShort e → IsWritable d (Assign x e)
    print : (d : ℕ) (e : Expression) → IsShort e → IsWritable d (Print e)
    give : (d : ℕ) (e : Expression) → IsShort e → IsWritable d (Return e)
    perform : (d : ℕ) (c : CallName) (args : Arguments) → Suits (shape c) args → 3 + arguments_size args ≤ 256
        → IsWritable d (Do c args)
    repeat : (d : ℕ) (e : Expression) (body : Statements) → IsShort e → d + 1 ≤ 64 → AreWritable (d + 1) body
        → IsWritable d (While e body)
    choice : (d : ℕ) (e : Expression) (first second : Statements) → IsShort e → d + 1 ≤ 64
        → AreWritable (d + 1) first → AreWritable (d + 1) second → IsWritable d (If e first second)

  pub data AreWritable : ℕ → Statements → Type 0 where
    ended : (d : ℕ) → AreWritable d nothing
    more : (d : ℕ) (s : Statement) (ss : Statements) → IsWritable d s → AreWritable d ss
        → AreWritable d (statement s ss)

pub data IsWritableProgram : List FunctionTree → Type 0 where
  over : IsWritableProgram []
  function : (f : FunctionTree) (fs : List FunctionTree) → IsName f.name → AreWritable 1 f.body
      → IsWritableProgram fs → IsWritableProgram (f ∷ fs)
