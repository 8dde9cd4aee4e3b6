use Rattle.std.proofs.Common.{◌≡◌, ◌≤◌, ◌+◌, [], ℕ, List, ◌∙◌, sym, subst, true}
use Rattle.ocr_machine_history.specs.Numbers.{is_in}
use Rattle.ocr_machine_parts.specs.Parts.{parts_of}
use Rattle.ocr_machine_parts.specs.Taken.{keys, parts_in, ArePlaced}
use Rattle.ocr_machine.proofs.Footprints.{all_small}
use Rattle.ocr_machine_state.proofs.Tables.{opened_is, three_small}
use Rattle.ocr_machine_state.proofs.Wholes.{all_keys}
use Rattle.ocr_machine_state.proofs.state.State.opened.Goals as goal

pub give-requires : goal.give-requires
give-requires c =
    let ps = c.in_ok-opening.field-0.items in
    rw c.in_ok-table.ensures.limit (all_keys (c.args.limit + c.args.limit) ps (all_small (c.args.limit + c.args.limit) (keys ps)
    (λ n is. three_small c.args.limit n c.requires.some (subst (λ (ns : List ℕ). is_in n ns ≡ true) c.in_ok-opening.ensures.keys is))))

pub returns : goal.returns
returns c = λ s main args limit.
    let ps = c.in_ok-opening.field-0.items in
    opened_is s ps c.in_ok-table.table c.give.new.self c.set.new.self (subst (λ (n : ℕ). 2 ≤ n) (sym limit) c.requires.some) (c.give.ensures.whole c.in_ok-table.ensures.whole)
    (c.in_ok-table.ensures.limit ∙ sym limit)
    c.in_ok-table.ensures.parts c.in_ok-table.ensures.sets
    (subst (λ (n : ℕ). parts_in n ps ≡ parts_of s []) (sym limit) (c.in_ok-opening.ensures.parts s main args limit))
    (subst (λ (n : ℕ). ArePlaced n ps) (sym limit) c.in_ok-opening.ensures.placed)
    c.give.ensures.limit c.give.ensures.sets (c.give.ensures.parts c.in_ok-table.ensures.whole) c.set.ensures.limit c.set.ensures.parts c.in_ok-set.ensures.sets
