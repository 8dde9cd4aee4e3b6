use Rattle.std.proofs.Common.{◌+◌, arith}
use Rattle.ocr_tests_turns.proofs.Opening.{opens_with}
use Rattle.ocr_tests_turns.proofs.threads.open.Goals as goal

pub new-requires : goal.new-requires
new-requires c = λ t are. opens_with t c.in_ok-opening.opening.items 1000000 (c.args.clerks + 1) c.in_ok-opening.ensures.items (omega arith) (omega arith) (omega arith) (omega (arith, c.requires)) are
