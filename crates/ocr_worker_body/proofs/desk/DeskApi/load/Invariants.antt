use Rattle.ocr_worker_body.specs.Given.{body_given}
use Rattle.ocr_worker_body.proofs.desk.DeskApi.load.Given as goal

abbrev pub ghost-load_word : goal.ghost-load_word
ghost-load_word g a = body_given a.job.now.program.now a._given.now
