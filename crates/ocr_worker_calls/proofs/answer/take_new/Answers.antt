use Rattle.std.proofs.Common.{◌∷◌, [], drop, arith}
use Rattle.std.proofs.lemmas.List.{length-drop}
use Rattle.ocr_worker_access.proofs.Taken.{lifted_few, lifted_more, to_lift, work_lifted}
use Rattle.ocr_worker_calls.proofs.answer.take_new.Goals as goal

pub take_part-requires-clause-room : goal.take_part-requires-clause-room
take_part-requires-clause-room g c =
    let r = c.requires.1.1 in let room = r.1.1.0 in
    let a = lifted_few c.args.job.now.turns.now.1 c.args.edt g.g c.args.clerk.now (drop 1 c.args.asked.now.places.items) c.args.clerk.now.view.drawn c.args.asked.now.parts.items r.1.1.1 in
    let d = length-drop 1 c.args.asked.now.places.items in omega (arith, room, a, d)

pub lift-part-requires : goal.lift-part-requires
lift-part-requires g c =
    let r = c.requires.1.1 in
    to_lift c.args.job.now.turns.now c.args.job.now.program.now c.args.edt g.g c.args.clerk.now c.take_part.new.clerk (drop 1 c.args.asked.now.places.items) c.args.clerk.now.view.drawn c.args.place c.args.asked.now.parts.items r.1.1.1
    c.in_ok-take_part.ensures.took c.in_ok-take_part.ensures.work

pub returns-clause-lifted : goal.returns-clause-lifted
returns-clause-lifted g c =
    let r = c.requires.1.1 in
    lifted_more c.args.job.now.turns.now c.args.job.now.program.now c.args.edt g.g c.args.clerk.now c.take_part.new.clerk (drop 1 c.args.asked.now.places.items) c.args.clerk.now.view.drawn c.args.place c.args.asked.now.parts.items r.1.1.1
    c.in_ok-take_part.ensures.took c.in_ok-take_part.ensures.work c.lift-part.new.self c.lift-part.result c.put.new.self.parts.items c.lift-part.ensures.part c.lift-part.ensures.parts c.lift-part.ensures.rest.1 c.in-Ok.ensures.parts

pub close_memory-requires : goal.close_memory-requires
close_memory-requires g c = record { work = work_lifted c.args.job.now.turns.now c.args.job.now.program.now c.take_part.new.clerk c.lift-part.new.self c.args.place c.in_ok-take_part.ensures.work c.lift-part.ensures.rest c.lift-part.ensures.parts }

pub returns-clause-work : goal.returns-clause-work
returns-clause-work g c = work_lifted c.args.job.now.turns.now c.args.job.now.program.now c.take_part.new.clerk c.lift-part.new.self c.args.place c.in_ok-take_part.ensures.work c.lift-part.ensures.rest c.lift-part.ensures.parts

pub returns-clause-more : goal.returns-clause-more
returns-clause-more g c = ((c.args.place, c.lift-part.result) ∷ [], c.in-Ok.ensures.parts)
