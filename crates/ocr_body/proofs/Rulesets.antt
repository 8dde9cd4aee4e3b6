-- What many goals share.
use Rattle.ocr_body_steps.proofs.StoppedSteps.{says_more, stopped_by_body, stopped_by_memory, stopped_by_refusal, stopped_later}
use Rattle.ocr_body.proofs.Stopped.{eval_stopped, exec_stopped}
use Rattle.ocr_body_code.proofs.Sides.{first_of, second_of}
use Rattle.ocr_body_steps.proofs.Operands.{joined_number, spend_stopped}

pub ruleset walking = (
  joined_number,
  spend_stopped,
  eval_stopped,
  exec_stopped,
  says_more,
  stopped_by_body,
  stopped_by_memory,
  stopped_by_refusal,
  stopped_later,
  first_of,
  second_of,
)
