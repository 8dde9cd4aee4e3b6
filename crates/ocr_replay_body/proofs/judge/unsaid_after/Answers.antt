use Rattle.std.proofs.Common.{◌+◌, arith}
use Rattle.ocr_replay_body.proofs.Nexts.{following_here, following_next, ended_following}
use Rattle.ocr_replay_body.proofs.judge.unsaid_after.Goals as goal

pub loop-at-preserved : goal.loop-at-preserved
loop-at-preserved c =
    let xs = c.args.entries.now in
    let links = c.args.links.now in
    let at = c.loop-at.at in
    let next = c.index-at.result.now in
    let go = following_next c.args.edt xs links at at next c.loop-at.invariant.following c.loop-at-test.true c.index-at.ensures in
    record {
      after = omega (arith, c.loop-at.invariant.after, go.now.after);
      following = following_here c.args.edt xs links (c.loop-at.at + 1) next go;
      so_far = λ b ended. ended_following b c.args.edt xs links c.args.next at next c.index-entries-at.result c.args.ending.now c.args.holding.now go c.loop-at-test.true c.index-entries-at.is
          (c.makes.ensures.yes c.if-not-makes.false) (c.loop-at.invariant.so_far b ended).0 (c.loop-at.invariant.so_far b ended).1;
    }
