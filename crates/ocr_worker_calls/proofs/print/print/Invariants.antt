use Rattle.ocr_worker_calls.proofs.Printed.{plain_hand}
use Rattle.ocr_worker_calls.proofs.print.print.Given as goal

abbrev pub ghost-enter_at_hand : goal.ghost-enter_at_hand
ghost-enter_at_hand g a = plain_hand a.clerk.now
