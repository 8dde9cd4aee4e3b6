use Rattle.std.proofs.Common.{refl, length, ◌+◌, ◌∷◌, []}
use Rattle.ocr_datablock.specs.Block as block
use Rattle.ocr_slots.specs.Slots as slot
use Rattle.ocr_machine_parts.specs.Calls.{link_calls, stores_from}
use Rattle.ocr_machine.proofs.Arguments.{opened_parts, three_placed}
use Rattle.ocr_machine.proofs.beginning.opening.Goals as goal

pub returns-in-Ok-clause-parts : goal.returns-in-Ok-clause-parts
returns-in-Ok-clause-parts c = λ s main args limit. opened_parts s c.args.limit c.args.main c.args.args.now c.in-Ok.parts.items c.requires.some main args limit
    (rw (c.in-Ok.ensures.items, c.in_ok-words.ensures, c.in_ok-block.ensures, c.in_ok-slots.ensures, c.in_ok-core.ensures, c.new.ensures, c.new-2.ensures, c.new-3.ensures, c.new-4.ensures) refl)

pub returns-in-Ok-clause-placed : goal.returns-in-Ok-clause-placed
returns-in-Ok-clause-placed c = three_placed c.args.limit (block.state_of (length c.args.args.now + 1) 0 (stores_from 0 (length c.args.args.now ∷ c.args.args.now))) (slot.state_of 1 (link_calls [] 2)) c.args.main c.in-Ok.parts.items c.requires.some
    (rw (c.in-Ok.ensures.items, c.in_ok-words.ensures, c.in_ok-block.ensures, c.in_ok-slots.ensures, c.in_ok-core.ensures, c.new.ensures, c.new-2.ensures, c.new-3.ensures, c.new-4.ensures) refl)
