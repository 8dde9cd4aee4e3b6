use Rattle.std.proofs.Common.{ap, ◌∙◌}
use Rattle.ocr_datablock.specs.Block.{State}
use Rattle.ocr_datablock.specs.Steps.{after_doom}
use Rattle.ocr_machine_parts.specs.Effects.{hold_ended}
use Rattle.ocr_machine_effects.proofs.Places.{block_step}
use Rattle.ocr_machine_effects.proofs.holds.doom_at.Goals as goal

pub returns-clause-parts : goal.returns-clause-parts
returns-clause-parts c =
    block_step c.args.parts.now c.take_block-state.new.self c.put_face.new.self c.args.block c.take_block-state.result c.doom.new.self (hold_ended after_doom c.args.edt c.args.writes.now c.args.lent)
    c.take_block-state.ensures.left c.put_face.ensures c.take_block-state.ensures.was
    (c.in_ok-resumed.ensures.state ∙ ap (λ (st : State). after_doom st c.args.edt) c.give_back.ensures.state)
