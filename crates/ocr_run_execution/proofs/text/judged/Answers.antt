use Rattle.std.proofs.Common.{◌≤◌, length, arith}
use Rattle.ocr_program_tree.specs.View.{tree_of}
use Rattle.ocr_program_grammar.proofs.Sizes.{size_law}
use Rattle.ocr_run_execution.specs.ProgramText.{breaks_rule}
use Rattle.ocr_run_execution.proofs.text.judged.Goals as goal

pub check-requires : goal.check-requires
check-requires c =
    let program = tree_of c.args.program in
    let few : length program ≤ length c.args.bytes.now = size_law c.args.bytes.now c.args.tokens.now program c.requires.tokens c.requires.tree in
    let small : length c.args.bytes.now ≤ 1048576 = c.requires.size in
    omega (arith, few, small)

pub returns-in-Err-Fault-clause-stop : goal.returns-in-Err-Fault-clause-stop
returns-in-Err-Fault-clause-stop c =
    breaks_rule c.args.tokens.now (tree_of c.args.program) c.in-Err-Fault.fault c.requires.tokens c.requires.tree
    (rw c.in-Err-Fault.field-0-is at c.in-Err-Fault.ensures.fault)
