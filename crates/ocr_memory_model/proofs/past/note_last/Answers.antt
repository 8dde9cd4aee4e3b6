use Rattle.std.proofs.Common.{◌∙◌}
use Rattle.std.proofs.lemmas.Bool.{ne_eqb}
use Rattle.ocr_memory_model.proofs.Keeps.{last_more}
use Rattle.ocr_memory_model.proofs.past.note_last.Goals as goal

pub returns : goal.returns
returns c = λ past at was t.
    c.in_ok-put_last.ensures t ∙ last_more past c.args.entry.now t c.edt_of-edt.result c.args.place at c.edt_of-edt.ensures (ne_eqb c.edt_of-edt.result 0 c.if-edt-eq0.false) _ (was t)
