use Rattle.std.proofs.Common.{◌≡◌, subst, arith, length}
use Rattle.ocr_body_code.specs.Checked.{checked_tree}
use Rattle.ocr_replay.specs.Replay.{IsReplaying}
use Rattle.ocr_machine_history.specs.History.{setting_of}
use Rattle.ocr_replay.proofs.replay_stop.pass.Goals as goal

pub loop-place-init : goal.loop-place-init
loop-place-init c = record { limit = c.in-Ok.ensures.limit; room = c.in-Ok.ensures.room; so_far = c.in-Ok.ensures.begun c.args.front.now }

pub returns-clause-ok : goal.returns-clause-ok
returns-clause-ok c =
    let n : c.loop-place.place ≡ length c.args.front.now = omega (arith, c.loop-place-test.false, c.loop-place.auto) in
    record {
      replayed = subst (λ k. IsReplaying (setting_of (checked_tree c.args.program.now) c.args.args.now c.args.limit) c.args.front.now k c.loop-place.replay) n c.loop-place.invariant.so_far;
      room = c.loop-place.invariant.room;
      some = c.requires.some;
    }
