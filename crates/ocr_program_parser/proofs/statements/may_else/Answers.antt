use Rattle.std.proofs.Common.{◌∙◌, sym, ap, List}
use Rattle.ocr_program_tree.specs.Tree as tree
use Rattle.ocr_program_tree.specs.View.{expression_of, statements_of}
use Rattle.ocr_program_tree.specs.declared.tree.Expr.{Expr}
use Rattle.ocr_program_tree.specs.declared.tree.Stmt.{Stmt}
use Rattle.ocr_program_parser.specs.Machine as machine
use Rattle.ocr_program_parser.specs.View.{position_of}
use Rattle.ocr_program_parser.proofs.Marks.{choice_goes}
use Rattle.ocr_program_parser.proofs.statements.may_else.Goals as goal

pub returns : goal.returns
returns c =
    choice_goes (position_of c.args.position) (position_of c.in_ok-position.position) (expression_of c.args.test.value) (statements_of c.args.first.items) c.args.lexeme c.at_statement.result
    (c.in_ok-position.ensures ∙ ap (λ (s : tree.Statement). machine.with_statement (position_of c.args.position) s) (c.choice-stmt.ensures
    ∙ ap (λ (e : Expr). tree.If (expression_of e) (statements_of c.args.first.items) (statements_of c.new.result.items)) c.into_inner.ensures
    ∙ ap (λ (l : List Stmt). tree.If (expression_of c.args.test.value) (statements_of c.args.first.items) (statements_of l)) c.new.ensures.items))
    (sym c.is_else_word.ensures ∙ c.if-is_else_word.false) c.at_statement.ensures
