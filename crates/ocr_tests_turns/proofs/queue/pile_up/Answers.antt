use Rattle.std.proofs.Common.{arith, subst}
use Rattle.std.specs.Prelude.{IfSome, None}
use Rattle.ocr_tests_turns.specs.Clerks.{Adds}
use Rattle.ocr_tests_turns.proofs.Adds.{has_last, has_more}
use Rattle.ocr_tests_turns.proofs.queue.pile_up.Goals as goal

pub loop-k-preserved : goal.loop-k-preserved
loop-k-preserved g c =
    let at = c.loop-k in let n = c.in-Ok-Some.number in
    let did = subst (λ r. IfSome r (λ n. Adds c.args.turns.now n at.k None at.clerk c.add.new.clerk)) c.in-Ok-Some.field-0-is c.in-Ok-Some.ensures.added in record {
      idle = did.idle;
      units = (let was = at.invariant.units in let one = did.spares in omega arith);
      last = has_last at.clerk.view.owed c.add.new.clerk.view.owed n 0 at.k did.owed;
      rest = λ name had. has_more name at.clerk.view.owed c.add.new.clerk.view.owed (n, 0, at.k) did.owed (at.invariant.rest name had);
    }
