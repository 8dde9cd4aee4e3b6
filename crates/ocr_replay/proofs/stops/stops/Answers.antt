use Rattle.std.proofs.Common.{◌≡◌, ◌≤◌, length, slice_index_or, subst, IfSome, IfNone}
use Rattle.ocr_replay.proofs.StopCauses.{stop_by, stop_none}
use Rattle.ocr_replay.proofs.stops.stops.Goals as goal

pub returns-in-Some : goal.returns-in-Some
returns-in-Some c = λ s past rows front. stop_by s past rows c.args.table.now c.args.verdicts.now c.in-Some.verdict.now c.args.edt c.args.why c.is_running-running.result c.stops_so-so.result c.both.result front (subst (λ o. IfSome o (λ v. v.now ≡ slice_index_or c.args.verdicts.now c.args.edt v.now)) c.in-Some.is c.verdict_of.ensures.some) c.is_running-running.ensures c.stops_so-so.ensures c.both.ensures

pub returns-in-None : goal.returns-in-None
returns-in-None c = λ s past rows front. stop_none s past rows c.args.table.now c.args.verdicts.now c.args.edt c.args.why front (subst (λ o. IfNone o (length c.args.verdicts.now ≤ c.args.edt)) c.in-None.is c.verdict_of.ensures.none)
