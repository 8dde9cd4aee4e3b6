use Rattle.std.proofs.Common.{◌≡◌, ◌∙◌, true, sym}
use Rattle.ocr_datablock.specs.Block.{Line, is_grantable}
use Rattle.ocr_datablock.proofs.Lines.{lent_granted, once_asked, once_queued}
use Rattle.ocr_datablock.proofs.datablock.Block.ask.Goals as goal

pub invariant_of-self-then-grantable : goal.invariant_of-self-then-grantable
invariant_of-self-then-grantable c =
    let kept = c.self.invariant in
    let now : Line = record { holders = c.self.inside.holders; queue = c.self.inside.queue } in
    let can : is_grantable c.args.self.now c.args.mode ≡ true = sym c.grantable.ensures ∙ c.if-grantable.true in
    let granted = rw (← c.self.view_is) at can in
    let after = lent_granted _ _ _ c.args.edt c.args.mode granted kept.2 kept.3 in
    let once = once_asked c.self.inside.destroyed now c.args.edt c.args.mode granted (rw (← c.self.view_is) at c.requires.no_holder) kept.5 in
    (kept.0, kept.1, rw c.in_ok-push.ensures.state after.0, rw c.in_ok-push.ensures.state after.1, kept.4, rw c.in_ok-push.ensures.state once)

pub invariant_of-self-2 : goal.invariant_of-self-2
invariant_of-self-2 c =
    let kept = c.self.invariant in
    let once = once_queued c.self.inside.holders c.self.inside.queue c.args.edt c.args.mode (rw (← c.self.view_is) at c.requires.no_holder) (rw (← c.self.view_is) at c.requires.not_waiting) kept.5 in
    (kept.0, kept.1, kept.2, kept.3, kept.4, rw c.in_ok-push-2.ensures.state once)
