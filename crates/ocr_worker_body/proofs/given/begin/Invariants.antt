use Rattle.ocr_worker_access.specs.Access.{hand_at}
use Rattle.ocr_worker_body.proofs.given.begin.Given as goal

abbrev pub ghost-start : goal.ghost-start
ghost-start g a = hand_at a.clerk.now a.edt a.payloads.now
