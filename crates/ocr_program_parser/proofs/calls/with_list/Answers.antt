use Rattle.ocr_program_parser.proofs.CallLemmas.{pushed_list}
use Rattle.ocr_program_parser.proofs.calls.with_list.Goals as goal

pub returns : goal.returns
returns c = pushed_list _ _ _ c.in_ok-push.ensures.items
