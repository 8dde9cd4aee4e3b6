-- Lists in memory whose last element is the nearest.
use Rattle.std.proofs.Common.{◌≡◌, ℕ, List, [], ◌∷◌, ◌++◌, Some, None, length, drop, suc, zero, refl, ap, ◌∙◌}
use Rattle.std.specs.List.{slice_get}
use Rattle.ocr_program_tree.specs.declared.tree.CallName.{CallName}
use Rattle.ocr_program_tree.specs.declared.tree.Function.{Function}
use Rattle.ocr_program_tree.specs.declared.tree.Stmt.{Stmt}
use Rattle.ocr_program_tree.specs.declared.tree.Expr.{Expr}
use Rattle.ocr_program_tree.specs.Tree as tree
use Rattle.ocr_program_tree.specs.Tree.{Arguments, empty, value, list, named}
use Rattle.ocr_program_tree.specs.View.{expression_of, members_of, statement_of, statements_of, function_of, functions_of}
use Rattle.ocr_program_grammar.specs.declared.argument_kind.ArgumentKind.{ArgumentKind}
use Rattle.ocr_program_grammar.specs.Shape.{shape}
use Rattle.ocr_program_parser.specs.Joined.{with, ended_by}
use Rattle.ocr_program_parser.specs.Machine as m
use Rattle.ocr_program_parser.specs.View.{argument_onto, args_of, slots_left, slots_after, but_first, open_block_of, enclosing_onto, enclosing_of}
use Rattle.ocr_program_parser.proofs.Joined.{with_more}
use Rattle.ocr_program_parser.specs.declared.stack.Arg.{Arg}
use Rattle.ocr_program_parser.specs.declared.stack.Arg.TheVariants as arg
use Rattle.ocr_program_parser.specs.declared.states.OpenBlock.{OpenBlock}

onto_with : (a : Arg) (rest more : Arguments) → argument_onto a (with rest more) ≡ with (argument_onto a rest) more
onto_with (arg.Value e) rest more = refl
onto_with (arg.List es) rest more = refl
onto_with (arg.Named x) rest more = refl

-- one argument more
pub args_more : (args : List Arg) (a : Arg) → args_of (args ++ a ∷ []) ≡ with (args_of args) (argument_onto a empty)
args_more [] a = refl
args_more (b ∷ args) a = ap (argument_onto b) (args_more args a) ∙ onto_with b (args_of args) (argument_onto a empty)

onto_one : (a : Arg) (more : Arguments) → with (argument_onto a empty) more ≡ argument_onto a more
onto_one (arg.Value e) more = refl
onto_one (arg.List es) more = refl
onto_one (arg.Named x) more = refl

-- the last argument goes in front of those behind it
pub args_last : (args : List Arg) (a : Arg) (more : Arguments)
    → with (args_of (args ++ a ∷ [])) more ≡ with (args_of args) (argument_onto a more)
args_last args a more =
    ap (λ (l : Arguments). with l more) (args_more args a) ∙ with_more (args_of args) (argument_onto a empty) more
    ∙ ap (with (args_of args)) (onto_one a more)

pub members_more : (es : List Expr) (e : Expr) → members_of (es ++ e ∷ []) ≡ with (members_of es) (value (expression_of e) empty)
members_more [] e = refl
members_more (d ∷ es) e = ap (value (expression_of d)) (members_more es e)

drop_first : (ss : List ArgumentKind) (n : ℕ) → drop (suc n) ss ≡ but_first (drop n ss)
drop_first [] zero = refl
drop_first [] (suc n) = refl
drop_first (s ∷ ss) zero = refl
drop_first (s ∷ ss) (suc n) = drop_first ss n

length_more : (args : List Arg) (a : Arg) → length (args ++ a ∷ []) ≡ suc (length args)
length_more [] a = refl
length_more (b ∷ args) a = ap (λ (n : ℕ). suc n) (length_more args a)

-- one argument more leaves one slot less
pub slots_more : (c : CallName) (args : List Arg) (a : Arg) → slots_left c (args ++ a ∷ []) ≡ slots_after c args
slots_more c args a = ap (λ (n : ℕ). drop n (shape c)) (length_more args a) ∙ drop_first (shape c) (length args)

get_some : (ss : List ArgumentKind) (n : ℕ) (s : ArgumentKind) → slice_get ss n ≡ Some s → drop n ss ≡ s ∷ but_first (drop n ss)
get_some [] zero s is = cc
get_some [] (suc n) s is = cc
get_some (t ∷ ss) zero s is = let same : t ≡ s = cc in ap (λ (u : ArgumentKind). u ∷ ss) same
get_some (t ∷ ss) (suc n) s is = get_some ss n s is

get_none : (ss : List ArgumentKind) (n : ℕ) → slice_get ss n ≡ None → drop n ss ≡ []
get_none [] zero is = refl
get_none [] (suc n) is = refl
get_none (t ∷ ss) zero is = cc
get_none (t ∷ ss) (suc n) is = get_none ss n is

pub slots_some : (c : CallName) (args : List Arg) (s : ArgumentKind) → slice_get (shape c) (length args) ≡ Some s
    → slots_left c args ≡ s ∷ slots_after c args
slots_some c args s is = get_some (shape c) (length args) s is

pub slots_none : (c : CallName) (args : List Arg) → slice_get (shape c) (length args) ≡ None → slots_left c args ≡ []
slots_none c args is = get_none (shape c) (length args) is

pub enclosing_onto_more : (os : List OpenBlock) (o : OpenBlock) (k : List m.OpenBlock) → enclosing_onto (os ++ o ∷ []) k ≡ open_block_of o ∷ enclosing_onto os k
enclosing_onto_more [] o k = refl
enclosing_onto_more (q ∷ os) o k = enclosing_onto_more os o (open_block_of q ∷ k)

pub enclosing_more : (os : List OpenBlock) (o : OpenBlock) → enclosing_of (os ++ o ∷ []) ≡ open_block_of o ∷ enclosing_of os
enclosing_more os o = enclosing_onto_more os o []

pub statements_more : (ss : List Stmt) (s : Stmt) → statements_of (ss ++ s ∷ []) ≡ ended_by (statements_of ss) (statement_of s)
statements_more [] s = refl
statements_more (q ∷ ss) s = ap (tree.statement (statement_of q)) (statements_more ss s)

pub functions_more : (fs : List Function) (f : Function) → functions_of (fs ++ f ∷ []) ≡ functions_of fs ++ function_of f ∷ []
functions_more [] f = refl
functions_more (g ∷ fs) f = ap (λ (l : List tree.FunctionTree). function_of g ∷ l) (functions_more fs f)
