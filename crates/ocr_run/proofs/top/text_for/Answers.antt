use Rattle.ocr_run.proofs.Told.{text_of_load}
use Rattle.ocr_run.proofs.top.text_for.Goals as goal

pub returns-in-Ok-clause-text : goal.returns-in-Ok-clause-text
returns-in-Ok-clause-text g c = text_of_load c.args.wanted.now c.in-Load.number c.in-Load.options _ _ c.in-Ok.text.items c.in-Load.is c.in-Ok.ensures.text
