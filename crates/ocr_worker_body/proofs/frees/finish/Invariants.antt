use Rattle.ocr_body_meaning.specs.Body.{says}
use Rattle.ocr_worker_access.specs.Served.{own_log}
use Rattle.ocr_worker_body.specs.Body.{end_holds}
use Rattle.ocr_worker_body.proofs.frees.finish.Given as goal

abbrev pub ghost-end : goal.ghost-end
ghost-end g a = (g.s.0, (end_holds (says g.s.0 (own_log g.s.1.view.log a.edt)), (g.s.1, a.clerk.now)))
