use Rattle.ocr_worker_clerk.proofs.Ends.{heavy_stops}
use Rattle.ocr_worker_clerk.proofs.stop.close_heavy.Goals as goal

pub close-requires-clause-may : goal.close-requires-clause-may
close-requires-clause-may g c =
    let r = c.requires.can in
    heavy_stops c.args.job.now.turns.now.1 c.args.clerk.now.view r.0 c.args.worker c.args.weight (r.1, r.2, r.3) r.4
