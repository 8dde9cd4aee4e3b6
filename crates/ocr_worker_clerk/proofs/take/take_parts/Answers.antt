use Rattle.std.proofs.Common.{◌≡◌, ◌+◌, ℕ, suc, get_or, take, ap, sym, ◌∙◌, subst, arith}
use Rattle.ocr_worker_clerk.specs.Work.{Took}
use Rattle.ocr_worker_clerk.proofs.Goes.{stays_both, stays_self}
use Rattle.ocr_worker_clerk.proofs.Hands.{take_short, take_next, took_length, took_more, took_none}
use Rattle.ocr_worker_clerk.proofs.take.take_parts.Goals as goal

pub loop-place-init : goal.loop-place-init
loop-place-init g c = record {
  stays = stays_self c.args.clerk.now;
  work = c.requires.work;
  took = took_none c.args.clerk.now;
}

pub take_part-requires-clause-room : goal.take_part-requires-clause-room
take_part-requires-clause-room g c =
    let lt = c.loop-place-test.true in
    let l = took_length c.args.clerk.now c.loop-place.clerk (take c.loop-place.place-index c.args.places.now) c.loop-place.invariant.took in
    let s = take_short c.args.places.now c.loop-place.place-index lt in
    let r = c.requires.room in omega (arith, l, s, r, lt)

pub loop-place-preserved : goal.loop-place-preserved
loop-place-preserved g c =
    let k = c.loop-place.place-index in let ps = c.args.places.now in
    let r = c.in_ok-take_part.ensures in record {
      stays = stays_both c.args.clerk.now c.loop-place.clerk c.take_part.new.clerk c.loop-place.invariant.stays c.take_part.ensures.stays;
      work = r.work;
      took = subst (Took c.args.clerk.now c.take_part.new.clerk) (sym (take_next ps k c.loop-place-test.true) ∙ (let e : suc k ≡ k + 1 = omega arith in ap (λ (n : ℕ). take n ps) e)) (took_more c.args.clerk.now c.loop-place.clerk c.take_part.new.clerk (take k ps) (get_or ps k 0) c.loop-place.invariant.took r.took);
    }
