use Rattle.ocr_worker_access.proofs.conclusion.conclude.Given as goal

abbrev pub ghost-count_any : goal.ghost-count_any
ghost-count_any g a = g.s

abbrev pub ghost-resume_all : goal.ghost-resume_all
ghost-resume_all g a = (g.s.0, g.s.1.0)
