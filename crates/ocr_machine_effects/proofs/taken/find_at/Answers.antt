use Rattle.std.proofs.Common.{◌≡◌, ◌<◌, length, slice_index_or, arith}
use Rattle.std.proofs.lemmas.Grind.{common_steps}
use Rattle.ocr_machine_effects.proofs.Numbered.{look_past, look_at}
use Rattle.ocr_machine_effects.proofs.taken.find_at.Goals as goal

pub returns-then-number-parts-clause-none : goal.returns-then-number-parts-clause-none
returns-then-number-parts-clause-none c = look_past c.args.parts.now c.args.number (omega (arith, c.if-number-parts.true))

pub returns-clause-some : goal.returns-clause-some
returns-clause-some c =
    let below : c.args.number < length c.args.parts.now = omega (arith, c.if-number-parts.false) in
    let found : c.index-parts-number.result ≡ slice_index_or c.args.parts.now c.args.number c.index-parts-number.result = grind (arith, common_steps) in
    look_at c.args.parts.now c.args.number c.index-parts-number.result below found
