-- Signs in a row before an operand.
use Rattle.std.proofs.Common.{◌≡◌, ◌≤◌, ℕ, List, [], ◌∷◌, ◌++◌, refl, ap, arith}
use Rattle.ocr_program_tree.specs.declared.tree.UnaryOp.{UnaryOp}
use Rattle.ocr_program_tree.specs.Tree as tree
use Rattle.ocr_program_tree.specs.Tree.{Expression}
use Rattle.ocr_program_parser.specs.Stack.{Stack, Prefix, fold_of}
use Rattle.ocr_program_parser.specs.StackView.{under, signs_onto}
use Rattle.ocr_program_parser.proofs.Heights.{height}

-- the last of some signs is the nearest to the operand
pub under_last : (ops : List UnaryOp) (op : UnaryOp) (e : Expression) → under (ops ++ op ∷ []) e ≡ under ops (tree.Unary op e)
under_last [] op e = refl
under_last (first ∷ ops) op e = ap (tree.Unary first) (under_last ops op e)

pub onto_last : (ops : List UnaryOp) (op : UnaryOp) (k : Stack) → signs_onto (ops ++ op ∷ []) k ≡ Prefix op (signs_onto ops k)
onto_last [] op k = refl
onto_last (first ∷ ops) op k = onto_last ops op (Prefix first k)

-- signs are put together whatever the level
pub fold_signs : (l : ℕ) (ops : List UnaryOp) (k : Stack) (e : Expression) → fold_of l (signs_onto ops k) e ≡ fold_of l k (under ops e)
fold_signs l [] k e = refl
fold_signs l (op ∷ ops) k e = fold_signs l ops (Prefix op k) e

pub signs_height : (ops : List UnaryOp) (k : Stack) → height k ≤ height (signs_onto ops k)
signs_height [] k = omega arith
signs_height (op ∷ ops) k = let above : height (Prefix op k) ≤ height (signs_onto ops (Prefix op k)) = signs_height ops (Prefix op k) in omega (arith, above)
