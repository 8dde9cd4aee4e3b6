use Rattle.ocr_worker_body.proofs.body.stop_body.Given as goal

abbrev pub ghost-stop_run : goal.ghost-stop_run
ghost-stop_run g a = g.b
