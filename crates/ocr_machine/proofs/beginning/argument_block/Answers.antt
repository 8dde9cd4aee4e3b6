use Rattle.std.proofs.Common.{◌∷◌, [], ◌+◌, get_or, length, take, refl, ap, ◌∙◌}
use Rattle.ocr_datablock.specs.Block as block
use Rattle.ocr_datablock.specs.Steps as block_steps
use Rattle.ocr_machine.proofs.Arguments.{no_borrower, stored_more}
use Rattle.ocr_machine.proofs.beginning.argument_block.Goals as goal

pub store-requires-in-loop-i-clause-nothing_lent : goal.store-requires-in-loop-i-clause-nothing_lent
store-requires-in-loop-i-clause-nothing_lent c =
    ap (λ (st : block.State). st.borrower) c.loop-i.invariant ∙ no_borrower 1 (take c.loop-i.i c.args.args.now) (block.Store 0 (length c.args.args.now) ∷ []) refl

pub loop-i-preserved : goal.loop-i-preserved
loop-i-preserved c =
    c.store-in-loop-i.ensures ∙ ap (λ (st : block.State). block_steps.after_store st (c.loop-i.i + 1) (get_or c.args.args.now c.loop-i.i 0)) c.loop-i.invariant
    ∙ stored_more (length c.args.args.now + 1) c.args.args.now c.loop-i.i c.loop-i-test.true
