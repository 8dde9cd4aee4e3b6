use Rattle.ocr_worker_clerk.proofs.Goes.{stays_both}
use Rattle.ocr_worker_delivery.proofs.Delivered.{delivers, idle_after, on_ok, owes_payload, pushes_ready}
use Rattle.ocr_worker_delivery.proofs.delivery.deliver_set.Goals as goal

pub count_slot-requires-clause-owes : goal.count_slot-requires-clause-owes
count_slot-requires-clause-owes g c =
    let set = c.slot_of-slot in
    owes_payload c.args.job.now.turns.now.1 c.args.clerk.now c.enter_delivery.new.clerk c.args.message set.result.0 set.result.1 set.result.2 c.requires.idle set.ensures c.in_ok-enter_delivery.ensures.entered

pub returns-clause-stays : goal.returns-clause-stays
returns-clause-stays g c = stays_both c.args.clerk.now c.enter_delivery.new.clerk c.count_slot.new.clerk c.enter_delivery.ensures.stays c.count_slot.ensures.stays

pub returns-clause-idle : goal.returns-clause-idle
returns-clause-idle g c =
    let set = c.slot_of-slot in
    on_ok c.count_slot.result _ _
    (λ settled. idle_after c.args.job.now.turns.now.1 c.args.clerk.now c.enter_delivery.new.clerk c.count_slot.new.clerk c.args.message set.result.0 set.result.1 set.result.2 c.args.hand.now c.count_slot.new.hand c.requires.idle set.ensures c.in_ok-enter_delivery.ensures.entered settled)
    c.count_slot.ensures.settled

pub returns-clause-delivered : goal.returns-clause-delivered
returns-clause-delivered g c =
    let set = c.slot_of-slot in
    on_ok c.count_slot.result _ _
    (λ settled. delivers c.args.job.now.turns.now.1 c.args.clerk.now c.enter_delivery.new.clerk c.count_slot.new.clerk c.args.message set.result.0 set.result.1 set.result.2 c.args.hand.now c.count_slot.new.hand c.requires.idle set.ensures c.in_ok-enter_delivery.ensures.entered settled)
    c.count_slot.ensures.settled

pub returns-clause-pushed : goal.returns-clause-pushed
returns-clause-pushed g c =
    let set = c.slot_of-slot in
    on_ok c.count_slot.result _ _
    (λ settled. pushes_ready c.args.job.now.turns.now.1 c.args.clerk.now c.enter_delivery.new.clerk c.count_slot.new.clerk c.args.message set.result.0 set.result.1 set.result.2 c.args.hand.now c.count_slot.new.hand c.requires.idle set.ensures c.in_ok-enter_delivery.ensures.entered settled)
    c.count_slot.ensures.settled
