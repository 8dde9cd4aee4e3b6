use Rattle.std.proofs.Common.{◌+◌, suc, All, ap, subst, length, arith}
use Rattle.std.specs.Vec.Iter.{into_iter_len}
use Rattle.ocr_run_crew.specs.Seats.{Worked}
use Rattle.ocr_tests_stops.specs.Clerks.{IsOut}
use Rattle.ocr_tests_stops.proofs.Made.{gathers}
use Rattle.ocr_tests_stops.proofs.crew.join_all.Goals as goal

pub loop-back-preserved : goal.loop-back-preserved
loop-back-preserved c =
    let at = c.loop-back in let steps = c.in-Some.ensures.steps in let view = c.in_ok-join.ensures.view in
    let more = ap length steps.0 in let left = at.invariant.left in let fewer = steps.1 in record {
      root = gathers c.args.turns.now (1 + into_iter_len at.back-iterator) (1 + into_iter_len c.next.new.self) at.root c.in-Some.back.clerk c.join.new.root at.invariant.root view.0 view.1 (omega arith);
      left = omega arith;
      out = λ k d less. subst (λ l. All (λ (w : Worked). IsOut c.args.turns.now w.clerk) l) steps.0 at.invariant.out (suc k) d (omega (arith, less));
    }
