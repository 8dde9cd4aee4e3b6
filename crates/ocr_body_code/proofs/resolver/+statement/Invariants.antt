use Rattle.std.proofs.Common.{◌+◌, ◌*◌, take}
use Rattle.ocr_body_code.specs.Resolved.{Grew, AreStatements, numbers_of}
use Rattle.ocr_program_tree.specs.View.{statement_of, statements_of}
use Rattle.ocr_body_code.proofs.Weight.{weight, weights}
use Rattle.ocr_body_code.proofs.resolver.+statement.Given as goal

abbrev pub invariant-statements-loop-stmt : goal.invariant-statements-loop-stmt
invariant-statements-loop-stmt l = record {
  grew : Grew l.fn.names l.names;
  done : AreStatements (numbers_of l.numbers) l.names l.steps.items (statements_of (take l.stmt-index l.stmts));
}

abbrev pub decreases-statement : goal.decreases-statement
decreases-statement l = 2 * weight (statement_of l.stmt.now)

abbrev pub decreases-statements : goal.decreases-statements
decreases-statements l = 2 * weights (statements_of l.stmts.now) + 1
