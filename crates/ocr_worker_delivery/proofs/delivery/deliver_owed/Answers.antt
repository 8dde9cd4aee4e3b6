use Rattle.std.proofs.Common.{sym, subst}
use Rattle.ocr_worker_clerk.proofs.Push.{pushes_none}
use Rattle.ocr_worker_delivery.specs.Delivery.{LeavesScope, SatisfiesEvent, SetsSlot}
use Rattle.ocr_worker_delivery.proofs.Delivered.{on_ok}
use Rattle.ocr_worker_delivery.proofs.delivery.deliver_owed.Goals as goal

pub deliver_set-requires-clause-owed : goal.deliver_set-requires-clause-owed
deliver_set-requires-clause-owed g c = (0, c.first_owed-message.ensures)

pub deliver_set-requires-clause-sets : goal.deliver_set-requires-clause-sets
deliver_set-requires-clause-sets g c = subst SetsSlot (sym c.in-Set.is) tt

pub returns-in-Set-clause-delivered : goal.returns-in-Set-clause-delivered
returns-in-Set-clause-delivered g c =
    on_ok c.deliver_set.result _ _ (λ it. (c.first_owed-message.result, c.first_owed-message.ensures, it)) c.deliver_set.ensures.delivered

pub deliver_satisfaction-requires-clause-owed : goal.deliver_satisfaction-requires-clause-owed
deliver_satisfaction-requires-clause-owed g c = (0, c.first_owed-message.ensures)

pub deliver_satisfaction-requires-clause-satisfies : goal.deliver_satisfaction-requires-clause-satisfies
deliver_satisfaction-requires-clause-satisfies g c = subst SatisfiesEvent (sym c.in-Satisfy.is) tt

pub returns-in-Satisfy-clause-delivered : goal.returns-in-Satisfy-clause-delivered
returns-in-Satisfy-clause-delivered g c =
    on_ok c.deliver_satisfaction.result _ _ (λ it. (c.first_owed-message.result, c.first_owed-message.ensures, it)) c.deliver_satisfaction.ensures.delivered

pub returns-in-Satisfy-clause-pushed : goal.returns-in-Satisfy-clause-pushed
returns-in-Satisfy-clause-pushed g c =
    on_ok c.deliver_satisfaction.result _ _ (pushes_none c.args.clerk.now c.deliver_satisfaction.new.clerk c.args.hand.now) c.deliver_satisfaction.ensures.readied

pub deliver_leave-requires-clause-owed : goal.deliver_leave-requires-clause-owed
deliver_leave-requires-clause-owed g c = (0, c.first_owed-message.ensures)

pub deliver_leave-requires-clause-leaves : goal.deliver_leave-requires-clause-leaves
deliver_leave-requires-clause-leaves g c = subst LeavesScope (sym c.in-Leave.is) tt

pub returns-in-Leave-clause-delivered : goal.returns-in-Leave-clause-delivered
returns-in-Leave-clause-delivered g c =
    on_ok c.deliver_leave.result _ _ (λ it. (c.first_owed-message.result, c.first_owed-message.ensures, it)) c.deliver_leave.ensures.delivered

pub returns-in-Leave-clause-pushed : goal.returns-in-Leave-clause-pushed
returns-in-Leave-clause-pushed g c =
    on_ok c.deliver_leave.result _ _ (pushes_none c.args.clerk.now c.deliver_leave.new.clerk c.args.hand.now) c.deliver_leave.ensures.readied
