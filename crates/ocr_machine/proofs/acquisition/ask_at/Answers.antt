use Rattle.ocr_datablock.specs.Block.{State}
use Rattle.ocr_datablock.specs.Steps.{after_ask}
use Rattle.ocr_machine_effects.proofs.Places.{block_step}
use Rattle.ocr_machine.proofs.acquisition.ask_at.Goals as goal

pub returns : goal.returns
returns c =
    block_step c.args.parts.now c.take_block-state.new.self c.put_face.new.self c.args.block c.take_block-state.result c.ask.new.self (λ (st : State). after_ask st c.args.edt c.args.mode)
    c.take_block-state.ensures.left c.put_face.ensures c.take_block-state.ensures.was c.in_ok-ask.ensures.state
