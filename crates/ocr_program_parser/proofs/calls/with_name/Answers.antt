use Rattle.ocr_program_parser.proofs.CallLemmas.{pushed_name}
use Rattle.ocr_program_parser.proofs.calls.with_name.Goals as goal

pub returns : goal.returns
returns c = pushed_name _ _ _ c.in_ok-push.ensures.items
