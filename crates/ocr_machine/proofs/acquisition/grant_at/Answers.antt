use Rattle.std.proofs.Common.{◌∙◌, ap}
use Rattle.ocr_machine_parts.specs.Effects.{lent_if, granted}
use Rattle.ocr_machine_effects.proofs.Places.{block_step}
use Rattle.ocr_machine.proofs.acquisition.grant_at.Goals as goal

pub returns-clause-parts : goal.returns-clause-parts
returns-clause-parts c =
    block_step c.args.parts.now c.take_block-state.new.self c.put_face.new.self c.args.block c.take_block-state.result c.lend_block.new.state (granted c.args.edt c.args.mode)
    c.take_block-state.ensures.left c.put_face.ensures c.take_block-state.ensures.was
    (c.in_ok-loan.ensures.state ∙ ap (lent_if c.args.edt c.args.mode) c.in_ok-hold_block.ensures.state)
