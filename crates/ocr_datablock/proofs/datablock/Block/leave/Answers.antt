use Rattle.ocr_datablock.specs.Block.{Line}
use Rattle.ocr_datablock.proofs.Lines.{once_first, once_left, together_left, lent_left}
use Rattle.ocr_datablock.proofs.datablock.Block.leave.Goals as goal

pub remove-requires : goal.remove-requires
remove-requires c = once_first c.self.inside.holders c.self.inside.queue c.self.invariant.5

pub remove-requires-2 : goal.remove-requires-2
remove-requires-2 c = once_first c.self.inside.holders c.self.inside.queue c.self.invariant.5

pub invariant_of-self : goal.invariant_of-self
invariant_of-self c =
    let kept = c.self.invariant in
    let now : Line = record { holders = c.self.inside.holders; queue = c.self.inside.queue } in
    let together = together_left c.args.edt now kept.2 in
    let lent = lent_left c.self.inside.borrower c.self.inside.holders c.args.edt (rw (← c.self.view_is) at c.requires) kept.3 in
    let once = once_left c.args.edt now kept.5 in
    (kept.0, kept.1, rw c.remove.ensures together, rw c.remove.ensures lent, kept.4, rw c.remove.ensures once)
