use Rattle.std.proofs.Common.{arith, ap, ◌∙◌, ℕ}
use Rattle.ocr_machine_parts.specs.declared.part.Part.{Part}
use Rattle.ocr_machine_effects.proofs.Places.{placed, same_item}
use Rattle.ocr_machine_effects.proofs.taken.set_listed.Goals as goal

pub returns-then-index-number : goal.returns-then-index-number
returns-then-index-number c =
    rw (← c.loop-i.invariant.same) (placed c.loop-i.parts.items c.loop-i.i c.args.number c.args.part c.index_mut.result.now (omega arith) c.index_mut.ensures.value
    (ap (λ (p : ℕ × Part). p.0) (same_item c.loop-i.parts.items c.loop-i.i c.index_mut.result.now c.index.result.now (omega arith) c.index_mut.ensures.value c.index.ensures) ∙ c.if-index-number.true) c.loop-i.invariant.puts)
