use Rattle.std.proofs.Common.{◌∙◌, sym}
use Rattle.ocr_worker_clerk.proofs.Goes.{stays_both}
use Rattle.ocr_worker_clerk.proofs.Push.{pushes_then}
use Rattle.ocr_worker_access.proofs.Settled.{pushed_both}
use Rattle.ocr_worker_body.proofs.Returns.{held_fewer}
use Rattle.ocr_worker_body.proofs.frees.free_all.Goals as goal

pub free-requires : goal.free-requires
free-requires g c κs within =
    let inv = c.loop-block.invariant in
    (within.0, (within.1, (inv.work, (inv.returned, sym c.least_held.ensures ∙ c.in-Some.is))))

pub loop-block-smaller : goal.loop-block-smaller
loop-block-smaller g c = held_fewer c.loop-block.clerk c.free.new.clerk c.in-Some.block (sym c.least_held.ensures ∙ c.in-Some.is) c.in_ok-free.ensures.held

pub loop-block-preserved : goal.loop-block-preserved
loop-block-preserved g c =
    let inv = c.loop-block.invariant in let e = c.in_ok-free.ensures in
    record {
      stays = stays_both c.args.clerk.now c.loop-block.clerk c.free.new.clerk inv.stays e.stays;
      work = e.work;
      returned = (inv.returned.0, e.returned inv.returned.0 inv.returned.1);
      kept = λ n r. e.returned n (inv.kept n r);
      hand = pushed_both c.args.hand.now c.loop-block.hand c.free.new.hand inv.hand e.hand;
      pushed = pushes_then c.args.clerk.now c.loop-block.clerk c.free.new.clerk c.args.hand.now c.loop-block.hand c.free.new.hand inv.pushed e.pushed;
    }
