use Rattle.std.proofs.Common.{◌+◌, ◌≤◌, arith}
use Rattle.ocr_worker_clerk.proofs.Units.{none_raised, spares_left}
use Rattle.ocr_worker_clerk.proofs.payment.pay.Goals as goal

pub returns-else-beside-owed_len-clause-paid : goal.returns-else-beside-owed_len-clause-paid
returns-else-beside-owed_len-clause-paid c =
    let few = spares_left c.args.clerk.now.view c.requires.duties in
    let units = c.units.ensures.fewer in let beside = c.saturating_sub-beside.ensures in let more = c.if-beside-owed_len.false in let owed = c.owed_len.ensures in
    let enough : c.args.needed + 1 ≤ c.args.clerk.now.view.spares = omega (arith, few, units, beside, more, owed) in
    record {
      paid = 0;
      view = none_raised c.args.clerk.now.view;
      most = omega arith;
      enough = omega (arith, enough);
      stake = omega (arith, enough);
    }
