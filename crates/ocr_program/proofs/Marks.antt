-- What comes where a list begins.
use Rattle.std.proofs.Common.{◌≡◌, List, [], Option, Some, Result, IfOk, true, false, refl, ap, ◌∙◌}
use Rattle.std.specs.declared.alloc.AllocError.{AllocError}
use Rattle.ocr_program_tree.specs.declared.tree.CallName.{CallName}
use Rattle.ocr_program_tree.specs.declared.tree.Expr.{Expr}
use Rattle.ocr_program_tree.specs.View.{members_of}
use Rattle.ocr_program_tree.specs.Tree.{Arguments, empty, list}
use Rattle.ocr_program_grammar.specs.declared.lexeme.Lexeme.{Lexeme}
use Rattle.ocr_program_grammar.specs.declared.lexeme.Lexeme.TheVariants as lexeme
use Rattle.ocr_program_grammar.specs.declared.argument_kind.ArgumentKind.{ArgumentKind}
use Rattle.ocr_program_parser.specs.Joined.{with}
use Rattle.ocr_program_parser.specs.Machine as m
use Rattle.ocr_program_parser.specs.Marks.{is_close_square}
use Rattle.ocr_program_parser.specs.View.{state_if_any}
use Rattle.ocr_program_parser.specs.declared.states.State.{State}
use Rattle.ocr_program_parser.proofs.Marks.{answers}

pub list_closes : (h : m.Position) (c : CallName) (done : Arguments) (ss : List ArgumentKind) (k : m.CallSite) (t : Lexeme)
    → is_close_square t ≡ true
    → Some (m.AfterArgument h c (with done (list empty empty)) ss k) ≡ m.list_start h c done ss k t
list_closes h c done ss k lexeme.CloseSquare is = refl
list_closes h c done ss k other is = cc

pub list_begins : (h : m.Position) (c : CallName) (done : Arguments) (ss : List ArgumentKind) (k : m.CallSite) (t : Lexeme)
    → is_close_square t ≡ false
    → m.operand h (m.Member c done empty ss k) t ≡ m.list_start h c done ss k t
list_begins h c done ss k lexeme.CloseSquare is = cc
list_begins h c done ss k other is = refl

-- a list whose first member begins
pub list_goes : (h : m.Position) (c : CallName) (done : Arguments) (es : List Expr) (ss : List ArgumentKind) (k : m.CallSite) (t : Lexeme)
    (r : Result (Option State) AllocError) → es ≡ [] → is_close_square t ≡ false
    → IfOk r (λ s. state_if_any s ≡ m.operand h (m.Member c done (members_of es) ss k) t)
    → IfOk r (λ s. state_if_any s ≡ m.list_start h c done ss k t)
list_goes h c done es ss k t r new is w =
    answers r (m.operand h (m.Member c done (members_of es) ss k) t) (m.list_start h c done ss k t)
    (ap (λ (l : List Expr). m.operand h (m.Member c done (members_of l) ss k) t) new ∙ list_begins h c done ss k t is) w
