use Rattle.std.proofs.Common.{◌≡◌, drop}
use Rattle.ocr_program_check.specs.Checked.{statements_outcome}
use Rattle.ocr_program_check.specs.Names.{known_in, declarations_in, IsSameFunction}
use Rattle.ocr_program_tree.specs.View.{statements_of}
use Rattle.ocr_program_check.proofs.names.Names.+statement.Given as goal

-- where the statements lead is where those that are left lead
abbrev pub invariant-statements-loop-stmt : goal.invariant-statements-loop-stmt
invariant-statements-loop-stmt l = record {
  same : IsSameFunction l.fn.self l.self;
  goes_on : statements_outcome (known_in l.fn.self) (statements_of l.stmts) (declarations_in l.fn.self)
      ≡ statements_outcome (known_in l.fn.self) (statements_of (drop l.stmt-index l.stmts)) (declarations_in l.self);
}
