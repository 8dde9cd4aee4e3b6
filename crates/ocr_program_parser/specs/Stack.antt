-- What waits for an operand, and how operators and their operands are put together, over plain
-- trees. It is no part of what has to be trusted: no clause of `parse` reaches it.
use Rattle.std.specs.Prelude.{ℕ, List, if◌then◌else◌, nat_le}
use Rattle.ocr_program_tree.specs.declared.tree.UnaryOp.{UnaryOp}
use Rattle.ocr_program_tree.specs.declared.tree.BinaryOp.{BinaryOp}
use Rattle.ocr_program_tree.specs.declared.tree.CallName.{CallName}
use Rattle.ocr_program_tree.specs.Tree as tree
use Rattle.ocr_program_tree.specs.Tree.{Expression, Arguments}
use Rattle.ocr_program_grammar.specs.Texts.{level}
use Rattle.ocr_program_grammar.specs.declared.argument_kind.ArgumentKind.{ArgumentKind}

-- what an outermost expression is for
pub data Purpose : Type 0 where
  ToLet : (name : List ℕ) → Purpose
  ToAssign : (name : List ℕ) → Purpose
  ToTest : Purpose
  ToRepeat : Purpose
  ToPrint : Purpose
  ToReturn : Purpose

-- the two lists that have an index
pub data Indexed : Type 0 where
  OfParameters : Indexed
  OfDependences : Indexed

-- what waits for an operand, the nearest first
mutual
  pub data Stack : Type 0 where
    Bottom : Purpose → Stack
    Left : (a : Expression) (op : BinaryOp) → Stack → Stack
    Prefix : (op : UnaryOp) → Stack → Stack
    Round : Stack → Stack
    Index : Indexed → Stack → Stack
    -- an argument of a call: the arguments before it, the slots after it
    Argument : (c : CallName) (done : Arguments) (slots : List ArgumentKind) → CallSite → Stack
    Member : (c : CallName) (done members : Arguments) (slots : List ArgumentKind) → CallSite
        → Stack
    FlagsArgument : (c : CallName) (done : Arguments) → CallSite → Stack

  -- where a call stands: in an expression, or as a statement
  pub data CallSite : Type 0 where
    InExpression : Stack → CallSite
    AsStatement : CallSite

-- an expression with what still waits for it
pub record Held : Type 0 where
  pub pending : Stack
  pub value : Expression

-- what binds as close as this level is put together
abbrev pub fold_of : ℕ → Stack → Expression → Held
fold_of l (Bottom p) e = record { pending = Bottom p; value = e }
fold_of l (Left a op k) e =
    if nat_le l (level op) then fold_of l k (tree.Binary op a e)
    else record { pending = Left a op k; value = e }
fold_of l (Prefix op k) e = fold_of l k (tree.Unary op e)
fold_of l (Round k) e = record { pending = Round k; value = e }
fold_of l (Index i k) e = record { pending = Index i k; value = e }
fold_of l (Argument c done ss k) e = record { pending = Argument c done ss k; value = e }
fold_of l (Member c done es ss k) e = record { pending = Member c done es ss k; value = e }
fold_of l (FlagsArgument c done k) e = record { pending = FlagsArgument c done k; value = e }
