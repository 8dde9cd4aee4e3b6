use Rattle.ocr_worker_body.specs.Given.{body_given}
use Rattle.ocr_worker_body.proofs.desk.DeskApi.store.Given as goal

abbrev pub ghost-store_word : goal.ghost-store_word
ghost-store_word g a = body_given a.job.now.program.now a._given.now
