use Rattle.std.proofs.Common.{reverse}
use Rattle.ocr_worker_machine.specs.Clerks.{of_terms}
use Rattle.ocr_machine_parts.specs.Legal.{IsCreating}
use Rattle.ocr_worker_clerk.specs.Number.{object_count}
use Rattle.ocr_worker_clerk.proofs.Ends.{full_few, full_knows, full_reached, full_stays, full_work, drawn_stays, drawn_work}
use Rattle.ocr_worker_clerk.proofs.Goes.{stays_both}
use Rattle.ocr_worker_clerk.proofs.number.draw_number.Goals as goal

pub close_short-requires-clause-work : goal.close_short-requires-clause-work
close_short-requires-clause-work g c = full_work c.args.job.now.turns.now c.args.job.now.program.now c.args.job.now.turns.now.1.limit c.args.clerk.now c.draw.new.clerk c.in-Full._count c.requires.work c.in-Full.ensures

pub close_short-requires-clause-few : goal.close_short-requires-clause-few
close_short-requires-clause-few g c = full_few c.args.clerk.now.view c.draw.new.clerk.view c.in-Full._count (object_count c.args.call.now) c.in-Full.ensures.2 c.requires.few

pub close_short-requires-clause-reached : goal.close_short-requires-clause-reached
close_short-requires-clause-reached g c = full_reached c.args.clerk.now.view c.draw.new.clerk.view c.in-Full._count c.requires.work.full c.in-Full.ensures.2

pub close_short-requires-clause-creating : goal.close_short-requires-clause-creating
close_short-requires-clause-creating g c =
    let t = c.args.job.now.turns.now.1 in
    full_knows t c.args.clerk.now.view c.draw.new.clerk.view c.in-Full._count (λ J. IsCreating (of_terms t) (reverse J) c.args.edt c.args.call.now) c.requires.work.full c.in-Full.ensures.2 c.requires.creating

pub returns-in-Place-clause-stays : goal.returns-in-Place-clause-stays
returns-in-Place-clause-stays g c = drawn_stays c.args.clerk.now c.draw.new.clerk c.in-Place.number c.in-Place.ensures.3.0 c.in-Place.ensures.4

pub returns-in-Place-clause-work : goal.returns-in-Place-clause-work
returns-in-Place-clause-work g c = drawn_work c.args.job.now.turns.now c.args.job.now.program.now c.args.clerk.now c.draw.new.clerk c.in-Place.number c.args.call.now c.requires.work c.requires.few c.in-Place.ensures.3 c.in-Place.ensures.4

pub returns-in-Full-clause-stays : goal.returns-in-Full-clause-stays
returns-in-Full-clause-stays g c = stays_both c.args.clerk.now c.draw.new.clerk c.close_short.new.clerk (full_stays c.args.job.now.turns.now.1.limit c.args.clerk.now c.draw.new.clerk c.in-Full._count c.in-Full.ensures) c.close_short.ensures.stays
