use Rattle.std.proofs.Common.{◌≡◌, ◌⊎◌, Some, is_some, true, subst}
use Rattle.ocr_machine_history.specs.declared.entry.Stop as run
use Rattle.ocr_worker_clerk.specs.Work.{stop_in}
use Rattle.ocr_worker_access.proofs.Stops.{stop_own, stops_so}
use Rattle.ocr_worker_access.proofs.stop.stop_run.Goals as goal

pub close-requires-clause-may : goal.close-requires-clause-may
close-requires-clause-may g c =
    let r = c.requires.1.1 in
    stops_so c.args.job.now.turns.now.1 c.args.clerk.now.view c.args.edt g.b r.1.0 c.args.stop c.stop_of.result r.1.1.0 r.1.1.1 c.stop_of.ensures

pub close-requires-clause-own : goal.close-requires-clause-own
close-requires-clause-own g c =
    let r = c.requires.1.1 in
    stop_own c.args.job.now.turns.now.1 c.args.worker c.args.clerk.now.view c.args.edt c.args.stop c.stop_of.result r.1.1.0 c.stop_of.ensures

pub returns-clause-made : goal.returns-clause-made
returns-clause-made g c = subst (λ (why : run.Stop). (is_some c.close.new.clerk.view.closed ≡ true) ⊎ (stop_in c.close.new.clerk.view.log ≡ Some why)) c.stop_of.ensures c.close.ensures.made
