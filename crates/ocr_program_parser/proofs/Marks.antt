-- What comes where a block may be chosen.
use Rattle.std.proofs.Common.{◌≡◌, Option, Some, Result, Ok, Err, IfOk, true, false, refl, ap, ◌∙◌}
use Rattle.std.specs.declared.alloc.AllocError.{AllocError}
use Rattle.ocr_program_tree.specs.Tree as tree
use Rattle.ocr_program_tree.specs.Tree.{Expression, Statements, nothing}
use Rattle.ocr_program_grammar.specs.declared.lexeme.Lexeme.{Lexeme}
use Rattle.ocr_program_grammar.specs.declared.lexeme.Lexeme.TheVariants as lexeme
use Rattle.ocr_program_grammar.specs.declared.lexeme.Word.TheVariants as word
use Rattle.ocr_program_parser.specs.Machine as m
use Rattle.ocr_program_parser.specs.Marks.{is_else}
use Rattle.ocr_program_parser.specs.View.{state_if_any}
use Rattle.ocr_program_parser.specs.declared.states.State.{State}

pub else_comes : (h : m.Position) (e : Expression) (first : Statements) (t : Lexeme) → is_else t ≡ true
    → Some (m.ElseOpen h e first) ≡ m.may_else h e first t
else_comes h e first (lexeme.Word word.Else) is = refl
else_comes h e first other is = cc

pub no_else_comes : (h : m.Position) (e : Expression) (first : Statements) (t : Lexeme) → is_else t ≡ false
    → m.at_statement (m.with_statement h (tree.If e first nothing)) t ≡ m.may_else h e first t
no_else_comes h e first (lexeme.Word word.Else) is = cc
no_else_comes h e first other is = refl

-- the same answer, by an equal state
pub answers : (r : Result (Option State) AllocError) (a b : Option m.State) → a ≡ b → IfOk r (λ s. state_if_any s ≡ a)
    → IfOk r (λ s. state_if_any s ≡ b)
answers (Ok s) a b is h = h ∙ is
answers (Err e) a b is h = tt

-- a choice without a second block
pub choice_goes : (h h1 : m.Position) (e : Expression) (first : Statements) (t : Lexeme)
    (r : Result (Option State) AllocError) → h1 ≡ m.with_statement h (tree.If e first nothing) → is_else t ≡ false
    → IfOk r (λ s. state_if_any s ≡ m.at_statement h1 t) → IfOk r (λ s. state_if_any s ≡ m.may_else h e first t)
choice_goes h h1 e first t r new is w =
    answers r (m.at_statement h1 t) (m.may_else h e first t)
    (ap (λ (x : m.Position). m.at_statement x t) new ∙ no_else_comes h e first t is) w
