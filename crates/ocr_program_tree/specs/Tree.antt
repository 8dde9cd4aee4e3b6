-- Task programs as plain trees, which leave out where their parts lie in memory. A list of
-- expressions or statements is a type of its own, since a data type holds no `List` of itself.
use Rattle.std.specs.Prelude.{ℕ, List, [], ◌∷◌}
use Rattle.ocr_program_tree.specs.declared.tree.UnaryOp.{UnaryOp}
use Rattle.ocr_program_tree.specs.declared.tree.BinaryOp.{BinaryOp}
use Rattle.ocr_program_tree.specs.declared.tree.Constant as of_constant
use Rattle.ocr_program_tree.specs.declared.tree.CallName.{CallName}

mutual
  pub data Expression : Type 0 where
    Number : (value : ℕ) → Expression
    Named : (constant : of_constant.Constant) → Expression
    Var : (name : List ℕ) → Expression
    Paramc : Expression
    Depc : Expression
    LastCode : Expression
    Paramv : (index : Expression) → Expression
    Depv : (index : Expression) → Expression
    Unary : (op : UnaryOp) (operand : Expression) → Expression
    Binary : (op : BinaryOp) (left right : Expression) → Expression
    Invoked : (call : CallName) (arguments : Arguments) → Expression

  -- the arguments of a call in their order: values, lists of values, and names. A list holds values
  -- alone
  pub data Arguments : Type 0 where
    empty : Arguments
    value : Expression → Arguments → Arguments
    list : Arguments → Arguments → Arguments
    named : List ℕ → Arguments → Arguments

mutual
  pub data Statement : Type 0 where
    Let : (name : List ℕ) (value : Expression) → Statement
    Assign : (name : List ℕ) (value : Expression) → Statement
    If : (test : Expression) (first second : Statements) → Statement
    While : (test : Expression) (body : Statements) → Statement
    Print : (value : Expression) → Statement
    Return : (value : Expression) → Statement
    Do : (call : CallName) (arguments : Arguments) → Statement

  pub data Statements : Type 0 where
    nothing : Statements
    statement : Statement → Statements → Statements

pub record FunctionTree : Type 0 where
  pub name : List ℕ
  pub body : Statements

-- the names among arguments: that of a function, or that of the variable after `&`
abbrev pub names_in : Arguments → List (List ℕ)
names_in empty = []
names_in (value e rest) = names_in rest
names_in (list es rest) = names_in rest
names_in (named x rest) = x ∷ names_in rest
