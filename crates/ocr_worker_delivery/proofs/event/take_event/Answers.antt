use Rattle.std.proofs.Common.{◌≤◌, ◌+◌, ℕ, sym, subst}
use Rattle.ocr_worker_delivery.proofs.Delivered.{on_ok}
use Rattle.ocr_worker_delivery.proofs.Faced.{face_low}
use Rattle.ocr_worker_delivery.proofs.Satisfied.{event_within}
use Rattle.ocr_worker_delivery.proofs.event.take_event.Goals as goal

pub take_part-requires-clause-place : goal.take_part-requires-clause-place
take_part-requires-clause-place g c =
    let t = c.args.job.now.turns.now in
    let within = event_within t c.args.job.now.program.now c.args.clerk.now c.look.new.clerk c.args.event c.requires.work c.requires.owes c.in_default.ensures in
    subst (λ (n : ℕ). n ≤ t.1.limit + t.1.limit) (sym c.event.view_is) (face_low t.1.limit c.args.event within)

pub returns-clause-within : goal.returns-clause-within
returns-clause-within g c =
    let within = event_within c.args.job.now.turns.now c.args.job.now.program.now c.args.clerk.now c.look.new.clerk c.args.event c.requires.work c.requires.owes c.in_default.ensures in
    on_ok c.take_part.result _ _ (λ _. within) c.take_part.ensures.took
