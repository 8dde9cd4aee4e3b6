use Rattle.std.proofs.Common.{sym, ◌∙◌, arith}
use Rattle.ocr_machine_parts.specs.declared.part.Part.TheVariants as part
use Rattle.ocr_machine_effects.proofs.Numbered.{look_past, look_at, put_numbered, put_past}
use Rattle.ocr_machine_effects.proofs.taken.take_at.Goals as goal

pub returns-then-number-len-clause-was : goal.returns-then-number-len-clause-was
returns-then-number-len-clause-was c = sym (look_past c.args.parts.now.items c.args.number (omega (arith, c.if-number-len.true)))

pub returns-then-number-len-clause-left : goal.returns-then-number-len-clause-left
returns-then-number-len-clause-left c = sym (put_past c.args.parts.now.items c.args.number part.Vacant (omega (arith, c.if-number-len.true)))

pub returns-clause-was : goal.returns-clause-was
returns-clause-was c = c.replace.ensures.value ∙ sym (look_at c.args.parts.now.items c.args.number c.index_mut.result.now (omega (arith, c.if-number-len.false)) c.index_mut.ensures.value)

pub returns-clause-left : goal.returns-clause-left
returns-clause-left c = rw c.replace.ensures.after (sym (put_numbered c.args.parts.now.items c.args.number part.Vacant))
