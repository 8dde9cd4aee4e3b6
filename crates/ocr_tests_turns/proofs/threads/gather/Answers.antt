use Rattle.std.proofs.Common.{suc, All, ap, subst, length, arith}
use Rattle.std.specs.Vec.Iter.{into_iter_len}
use Rattle.ocr_tests_turns.specs.Clerks.{IsOut}
use Rattle.ocr_tests_turns.specs.declared.play.Worked.{Worked}
use Rattle.ocr_tests_turns.proofs.Seats.{gathers}
use Rattle.ocr_tests_turns.proofs.threads.gather.Goals as goal

pub loop-worked-preserved : goal.loop-worked-preserved
loop-worked-preserved c =
    let at = c.loop-worked in let steps = c.in-Some.ensures.steps in let view = c.in_ok-join.ensures.view in
    let more = ap length steps.0 in let left = at.invariant.left in let fewer = steps.1 in record {
      root = gathers c.args.turns.now at.root c.in-Some.worked.clerk c.join.new.root (into_iter_len at.worked-iterator) (into_iter_len c.next.new.self) at.invariant.root view.0 view.1 (omega arith);
      left = omega arith;
      out = λ k d less. subst (λ l. All (λ (w : Worked). IsOut c.args.turns.now w.clerk) l) steps.0 at.invariant.out (suc k) d (omega (arith, less));
    }
