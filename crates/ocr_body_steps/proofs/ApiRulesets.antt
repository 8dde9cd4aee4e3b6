-- What many goals share.
use Rattle.ocr_body_steps.proofs.Accesses.{accessed_value, accessed_stopped, accessed_next, accessed_trace}
use Rattle.ocr_body_steps.proofs.StoppedSteps.{says_more, stopped_by_body, stopped_by_memory, stopped_by_refusal, stopped_later}

pub ruleset asking = (
  says_more,
  stopped_by_body,
  stopped_by_memory,
  stopped_by_refusal,
  stopped_later,
)

pub ruleset accessing = (accessed_value, accessed_stopped, accessed_next, accessed_trace)
