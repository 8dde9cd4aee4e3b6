use Rattle.std.proofs.Common.{◌≡◌, ◌+◌, ap, arith, length, subst, sym}
use Rattle.std.specs.Vec.Iter.{into_iter_items, into_iter_len}
use Rattle.std.proofs.lemmas.List.{length_push}
use Rattle.ocr_steal.specs.Pool.{hands_in}
use Rattle.ocr_run_crew.specs.Seats.{IsGathering}
use Rattle.ocr_run_crew.proofs.Seated.{first_back, gathers, later_back}
use Rattle.ocr_run_crew.proofs.logs.join_all.Goals as goal

pub loop-back-preserved : goal.loop-back-preserved
loop-back-preserved g c =
    let at = c.loop-back in let old = at.invariant in let steps = c.in-Some.ensures.steps in
    let table = c.args.job.now.turns.now in let workers = hands_in c.args.job.now.pool.now in
    let items = into_iter_items at.back-iterator in let rest = into_iter_items c.next.new.self in
    let taken = c.into_inner-clerk.result in
    let back = first_back table workers items rest c.in-Some.back taken steps.0 c.into_inner-clerk.ensures old.rest in
    let view = c.in_ok-join.ensures.view in
    let len = length_push at.yielded c.in-Some.back in
    let fewer : into_iter_len at.back-iterator ≡ into_iter_len c.next.new.self + 1 = (let a = steps.1 in let b = ap length steps.0 in let d = old.long in omega arith) in
    let root = gathers table workers (into_iter_len c.next.new.self) (length at.yielded) at.root taken.clerk c.join.new.root
    (subst (λ n. IsGathering table workers n (length at.yielded) at.root) fewer old.root) back view.0 view.1 in
    record {
      root = subst (λ n. IsGathering table workers (into_iter_len c.next.new.self) n c.join.new.root) (sym len) root;
      long = (let a = steps.1 in let b = ap length steps.0 in let d = old.long in omega arith);
      many = (let m = old.many in omega (arith, m, len, fewer));
      rest = later_back table workers items rest c.in-Some.back steps.0 old.rest;
    }
