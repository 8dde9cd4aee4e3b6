use Rattle.ocr_worker_body.specs.Given.{body_given}
use Rattle.ocr_worker_body.proofs.desk.DeskApi.call.Given as goal

abbrev pub ghost-answer : goal.ghost-answer
ghost-answer g a = body_given a.job.now.program.now a._given.now
