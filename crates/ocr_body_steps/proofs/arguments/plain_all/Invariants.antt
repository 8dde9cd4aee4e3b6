use Rattle.std.proofs.Common.{◌≡◌, ◌≤◌, true}
use Rattle.ocr_program_tree.specs.Tree.{names_in}
use Rattle.ocr_body_code.specs.Code.{arguments_at, are_args_placed}
use Rattle.ocr_body_steps.specs.Given.{given_of}
use Rattle.ocr_body_steps.specs.Local.{frame_of, numbers_of, value_in}
use Rattle.ocr_body_steps.proofs.Gone.{Goes, Seeks}
use Rattle.ocr_body_steps.proofs.arguments.plain_all.Given as goal

-- what is left comes to what all came to
abbrev pub invariant-loop-args : goal.invariant-loop-args
invariant-loop-args l = record {
  placed : are_args_placed (numbers_of l.frame) l.frame.names.now l.args ≡ true;
  less : l.left ≤ l.fuel;
  seeks : Seeks (numbers_of l.frame) l.frame.names.now (names_in (arguments_at l.frame.names.now l.fn.args)) (names_in (arguments_at l.frame.names.now l.args)) l.named;
  goes : Goes (frame_of l.frame) l.local.code (λ y. value_in l.frame.names.now l.local.values.items y) (arguments_at l.frame.names.now l.fn.args) l.fuel (given_of l.fn.given) (arguments_at l.frame.names.now l.args) l.left (given_of l.given);
}
