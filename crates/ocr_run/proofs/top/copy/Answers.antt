use Rattle.std.proofs.Common.{[], codes, arith, refl}
use Rattle.ocr_run.specs.Headline.{whole, front, of_check, write_fault}
use Rattle.ocr_run.proofs.Told.{told_nothing}
use Rattle.ocr_run.proofs.top.copy.Goals as goal

pub returns-in-Ok-clause-written : goal.returns-in-Ok-clause-written
returns-in-Ok-clause-written g c = whole (λ is. omega (arith, is)) c.in-Ok.ensures.whole

pub returns-in-Ok-clause-told : goal.returns-in-Ok-clause-told
returns-in-Ok-clause-told g c = ([], (told_nothing _ _, of_check refl))

pub returns-in-Err-clause-written : goal.returns-in-Err-clause-written
returns-in-Err-clause-written g c = front (λ is. omega (arith, is)) c.in-Err.ensures.failed c.in-Err.field-0.sent c.in-Err.ensures.within c.in-Err.ensures.sent

pub returns-in-Err-clause-told : goal.returns-in-Err-clause-told
returns-in-Err-clause-told g c = (codes "write fault\n", (c.tell.ensures, write_fault))
