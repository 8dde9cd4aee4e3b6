use Rattle.ocr_worker_body.specs.Given.{body_given}
use Rattle.ocr_worker_body.proofs.body.run_body.Given as goal

abbrev pub ghost-run_given : goal.ghost-run_given
ghost-run_given g a = body_given a.job.now.program.now a.given.now
