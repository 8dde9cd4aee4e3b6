use Rattle.std.proofs.Common.{ℕ, ◌≡◌, ◌+◌, suc, subst, arith}
use Rattle.ocr_worker_clerk.proofs.Gives.{GaveAll, all_loose, gave_one, loose_fits, loose_work, may_loose, none_loose}
use Rattle.ocr_worker_clerk.proofs.give.give_all.Goals as goal

pub loop-place-init : goal.loop-place-init
loop-place-init c = record { work = c.requires.work; so = none_loose c.args.clerk.now }

pub give_back-requires-clause-place : goal.give_back-requires-clause-place
give_back-requires-clause-place c = let at = c.loop-place in loose_fits c.args.turns.now.1 c.args.places.now at.place-index c.args.clerk.now at.clerk c.requires.keeps c.loop-place-test.true at.invariant.so

pub give_back-requires-clause-may : goal.give_back-requires-clause-may
give_back-requires-clause-may c = let at = c.loop-place in λ _. may_loose c.args.turns.now.1 c.args.places.now at.place-index c.args.clerk.now at.clerk c.requires.keeps c.loop-place-test.true at.invariant.so

pub loop-place-preserved : goal.loop-place-preserved
loop-place-preserved c =
    let at = c.loop-place in record {
      work = loose_work c.args.turns.now.1 c.args.places.now at.place-index c.args.clerk.now at.clerk c.requires.keeps c.loop-place-test.true at.invariant.so c.give_back.new.clerk at.invariant.work.is_open c.give_back.ensures c.args.turns.now c.args.program.now at.invariant.work;
      so = subst (λ (n : ℕ). GaveAll c.args.clerk.now c.give_back.new.clerk n) (let e : suc at.place-index ≡ at.place-index + 1 = omega arith in e) (gave_one c.args.turns.now.1 c.args.places.now at.place-index c.args.clerk.now at.clerk c.requires.keeps c.loop-place-test.true at.invariant.so c.give_back.new.clerk at.invariant.work.is_open c.give_back.ensures);
    }

pub returns-clause-view : goal.returns-clause-view
returns-clause-view c = let at = c.loop-place in (all_loose c.args.turns.now.1 c.args.places.now at.place-index c.args.clerk.now at.clerk c.requires.keeps (omega (arith, c.loop-place-test.false)) at.invariant.so).0

pub returns-clause-hand : goal.returns-clause-hand
returns-clause-hand c = let at = c.loop-place in (all_loose c.args.turns.now.1 c.args.places.now at.place-index c.args.clerk.now at.clerk c.requires.keeps (omega (arith, c.loop-place-test.false)) at.invariant.so).1
