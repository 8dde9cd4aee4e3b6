-- The arguments of a call in memory, one by one.
use Rattle.std.specs.Prelude.{◌<◌, ℕ, List, [], ◌∷◌, All}
use Rattle.ocr_program_tree.specs.Tree as tree
use Rattle.ocr_program_tree.specs.View.{expression_of, members_of}
use Rattle.ocr_program_tree.specs.declared.argument.Argument.{Argument}
use Rattle.ocr_program_tree.specs.declared.argument.Argument.TheVariants as argument
use Rattle.ocr_program_tree.specs.declared.tree.Expr.{size-Expr}

-- an argument before others
abbrev pub plain_before : Argument → tree.Arguments → tree.Arguments
plain_before (argument.Value e) rest = tree.value (expression_of e.now) rest
plain_before (argument.List es) rest = tree.list (members_of es.now) rest
plain_before (argument.Name x) rest = tree.named x.now rest

-- the plain arguments that these are
abbrev pub plain_of : List Argument → tree.Arguments
plain_of [] = tree.empty
plain_of (a ∷ rest) = plain_before a (plain_of rest)

-- the argument is a tree of fewer levels
abbrev pub IsWithin : ℕ → Argument → Type 0
IsWithin levels (argument.Value e) = size-Expr e.now < levels
IsWithin levels (argument.List es) = (0 < levels) × All (λ e. size-Expr e < levels) es.now
IsWithin levels (argument.Name x) = Unit {0}
