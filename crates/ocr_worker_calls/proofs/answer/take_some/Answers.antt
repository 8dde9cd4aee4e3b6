use Rattle.std.proofs.Common.{[], drop, sym}
use Rattle.std.proofs.lemmas.List.{append-nil}
use Rattle.ocr_worker_calls.proofs.Answered.{lifted_none, places_none}
use Rattle.ocr_worker_calls.proofs.answer.take_some.Goals as goal

pub returns-then-place-eq0-clause-more : goal.returns-then-place-eq0-clause-more
returns-then-place-eq0-clause-more g c = ([], sym (append-nil c.args.asked.now.parts.items))

pub returns-then-place-eq0-clause-lifted : goal.returns-then-place-eq0-clause-lifted
returns-then-place-eq0-clause-lifted g c =
    lifted_none c.args.job.now.turns.now.1 c.args.edt g.g c.args.clerk.now (drop 1 c.args.asked.now.places.items) c.args.clerk.now.view.drawn c.args.asked.now.parts.items c.args.place c.if-place-eq0.true c.requires.1.1.1.1.1

pub returns-then-place-eq0-clause-places : goal.returns-then-place-eq0-clause-places
returns-then-place-eq0-clause-places g c = places_none c.args.asked.now.places.items c.args.place c.if-place-eq0.true
