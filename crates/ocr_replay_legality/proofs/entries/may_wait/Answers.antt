use Rattle.std.proofs.Common.{◌∙◌, refl}
use Rattle.ocr_replay_legality.proofs.Goes.{wait_tested, tested, turned, and_is}
use Rattle.ocr_replay_legality.proofs.entries.may_wait.Goals as goal

pub returns : goal.returns
returns c = λ s past of run. turned c.both.result _ _ (c.both.ensures ∙ and_is c.is_full-full.result c.shuts_there-here.result c.is_full-full.result _ refl c.shuts_there-here.ensures)
    (wait_tested s past c.args.table.now c.args.edt c.args.block c.is_full-full.result c.in_ok-next.next (tested s past c.args.table.now c.args.edt c.is_full-full.result c.in_ok-next.next of run (c.is_full-full.ensures s past of) (c.in_ok-next.ensures s past of)))
