use Rattle.std.proofs.Common.{sym, arith}
use Rattle.ocr_machine_effects.proofs.Numbered.{put_numbered, put_past}
use Rattle.ocr_machine_effects.proofs.taken.set_at.Goals as goal

pub returns-then-number-len : goal.returns-then-number-len
returns-then-number-len c = sym (put_numbered c.args.parts.now.items c.args.number c.args.part)

pub returns-else-number-len : goal.returns-else-number-len
returns-else-number-len c = sym (put_past c.args.parts.now.items c.args.number c.args.part (omega (arith, c.if-number-len.false)))
