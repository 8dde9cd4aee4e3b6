use Rattle.std.proofs.Common.{sym, arith}
use Rattle.std.proofs.lemmas.List.{set_past}
use Rattle.ocr_machine_state.proofs.rows.set_at.Goals as goal

pub returns-else-number-len-clause-parts : goal.returns-else-number-len-clause-parts
returns-else-number-len-clause-parts c = sym (set_past c.args.parts.now.items c.args.number c.args.part (omega (arith, c.if-number-len.false)))
