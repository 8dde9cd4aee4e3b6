use Rattle.ocr_worker_body.proofs.body.end_body.Given as goal

abbrev pub ghost-stop_body : goal.ghost-stop_body
ghost-stop_body g a = g.b

abbrev pub ghost-free_all : goal.ghost-free_all
ghost-free_all g a = g.b

abbrev pub ghost-finish : goal.ghost-finish
ghost-finish g a = (g.b, a.clerk.now)
