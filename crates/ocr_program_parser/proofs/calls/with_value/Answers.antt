use Rattle.ocr_program_parser.proofs.CallLemmas.{pushed_value}
use Rattle.ocr_program_parser.proofs.calls.with_value.Goals as goal

pub returns : goal.returns
returns c = pushed_value _ _ _ c.in_ok-push.ensures.items
