use Rattle.ocr_replay.proofs.StopCauses.{ends_weigh}
use Rattle.ocr_replay.proofs.verdict.weighs_so.Goals as goal

pub returns-in-Ended : goal.returns-in-Ended
returns-in-Ended c = λ s past of run roomy. rw c.in-Ended.is (ends_weigh s past c.args.table.now c.args.edt c.args.weight c.in-Ended.counts.items c.as_slice.result.now c.ends_so.result of c.as_slice.ensures.value c.ends_so.ensures)
