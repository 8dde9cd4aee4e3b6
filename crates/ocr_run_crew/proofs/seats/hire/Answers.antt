use Rattle.std.proofs.Common.{◌≡◌, ◌∙◌, ◌+◌, ◌<◌, ℕ, List, get_or, ap, arith, length, subst, sym, vec_len}
use Rattle.std.specs.Vec.Iter.{into_iter_items, into_iter_len}
use Rattle.crossbeam_utils.specs.Padded.{padded_value}
use Rattle.crossbeam_utils.specs.declared.cache_padded.CachePadded.{CachePadded}
use Rattle.ocr_run_crew.specs.declared.seats.Seat.{Seat}
use Rattle.ocr_run_crew.specs.Seats.{IsHiring, IsSeat}
use Rattle.ocr_run_crew.proofs.Seated.{begins_gathering, begun_hand, first_hand, hired, hires, later_hands, may_lower, none_left}
use Rattle.ocr_run_crew.proofs.seats.hire.Goals as goal
use Rattle.ocr_steal.proofs.Owners.{each_push}

pub loop-hand-preserved : goal.loop-hand-preserved
loop-hand-preserved g c =
    let at = c.loop-hand in let old = at.invariant in let steps = c.in-Some.ensures.steps in
    let table = c.args.job.now.turns.now in let program = c.args.job.now.program.now in let pool = c.args.job.now.pool.now in
    let items = into_iter_items at.hand-iterator in let rest = into_iter_items c.next.new.self in let hand = c.in-Some.hand in
    let first = first_hand pool (vec_len at.seats) items rest hand steps.0 old.rest in
    let split = c.in_ok-clerk.ensures in let made = split.clerk in
    let goes = hired table program (vec_len at.seats) at.root c.in_ok-clerk.clerk old.root made.0 made.1 made.2 made.3 made.4 in
    let root = hires table program (vec_len at.seats) at.root c.split.new.root old.root split.root.0 split.root.1 in
    let quota = ap (λ v. v.quota) split.root.1 in
    let len = c.in_ok-push.ensures.len in let new = c.in_ok-push.ensures.items in let real = at.seats.ok.0 in
    let fewer : into_iter_len at.hand-iterator ≡ into_iter_len c.next.new.self + 1 = (let a = steps.1 in let b = ap length steps.0 in let d = old.long in omega arith) in
    let number = c.number-worker.ensures in let is = first.number in
    let same = c.in_ok-hand.ensures.same in let kept = same.number in
    let seat : IsSeat table program pool (length at.seats.items) (padded_value c.new.result) =
    subst (IsSeat table program pool (length at.seats.items)) (sym c.new.ensures) (record {
      hired = goes;
      worker = omega (arith, number, is, real, kept);
      hand = same.pool ∙ first.of_pool;
      number_is = omega (arith, is, real, kept);
      begun = begun_hand (length at.seats.items) hand c.in_ok-hand.hand (omega (arith, is, real)) first.fresh c.in_ok-hand.ensures.first c.in_ok-hand.ensures.others;
    }) in
    record {
      root = subst (λ n. IsHiring table program n c.split.new.root) (sym len) root;
      quota = (let q = old.quota in omega (arith, q, quota, fewer));
      long = (let a = steps.1 in let b = ap length steps.0 in let d = old.long in omega arith);
      many = (let m = old.many in omega (arith, m, len, fewer));
      rest = later_hands pool (vec_len at.seats) (vec_len c.push.new.self) items rest hand steps.0 len old.rest;
      seats = subst (λ (l : List (CachePadded Seat)). (k : ℕ) (d : CachePadded Seat) → k < length l → IsSeat table program pool k (padded_value (get_or l k d))) (sym new)
          (each_push (λ k s. IsSeat table program pool k (padded_value s)) at.seats.items c.new.result old.seats seat);
    }

pub lower-requires-clause-may : goal.lower-requires-clause-may
lower-requires-clause-may g c =
    may_lower c.args.job.now.turns.now c.args.job.now.program.now (vec_len c.loop-hand.seats) c.loop-hand.root c.loop-hand.invariant.root

pub returns-clause-root : goal.returns-clause-root
returns-clause-root g c =
    begins_gathering c.args.job.now.turns.now c.args.job.now.program.now (vec_len c.loop-hand.seats) c.loop-hand.root c.lower.new.clerk c.loop-hand.invariant.root c.lower.ensures.hand c.lower.ensures.view

pub returns-clause-unit : goal.returns-clause-unit
returns-clause-unit g c =
    none_left c.args.job.now.turns.now c.args.job.now.program.now (vec_len c.loop-hand.seats) c.loop-hand.root c.lower.new.clerk c.loop-hand.invariant.root c.lower.ensures.view
