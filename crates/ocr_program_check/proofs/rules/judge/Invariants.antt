use Rattle.std.proofs.Common.{take}
use Rattle.ocr_program_check.specs.Check.{FailsNowhere, names_of}
use Rattle.ocr_program_check.specs.Checked.{BreaksSome}
use Rattle.ocr_program_tree.specs.View.{functions_of}
use Rattle.ocr_program_check.proofs.rules.judge.Given as goal

-- the functions so far break no rule
abbrev pub invariant-loop-i : goal.invariant-loop-i
invariant-loop-i l = FailsNowhere (BreaksSome (names_of (functions_of l.functions))) (functions_of (take l.i l.functions))
