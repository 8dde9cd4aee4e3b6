use Rattle.std.proofs.Common.{ap, ◌∙◌}
use Rattle.ocr_acquire.specs.Mode.{mode_in}
use Rattle.ocr_datablock.specs.Block.{State}
use Rattle.ocr_machine_effects.proofs.Steps.{none_of}
use Rattle.ocr_machine.proofs.acquisition.hold_block.Goals as goal
use Rattle.ocr_machine_parts.proofs.Blocks.{asked_held}

pub returns-in_ok-ask-clause-held : goal.returns-in_ok-ask-clause-held
returns-in_ok-ask-clause-held c =
    ap (λ (st : State). mode_in c.args.edt st.holders) c.in_ok-ask.ensures.state
    ∙ asked_held c.args.edt c.args.mode c.args.state.now c.requires (none_of _ _ _ (c.mode_of.ensures.value ∙ ap (λ (st : State). mode_in c.args.edt st.holders) c.get.ensures) c.is_none.ensures c.if-is_none.true)
