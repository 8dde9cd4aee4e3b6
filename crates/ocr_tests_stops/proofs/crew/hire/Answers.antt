use Rattle.std.proofs.Common.{◌≡◌, ◌+◌, ◌∷◌, [], suc, vec_len, All, ap, arith, length, subst, sym, ◌∙◌}
use Rattle.std.proofs.lemmas.List.Elements.{All-append}
use Rattle.std.specs.Vec.Iter.{into_iter_items, into_iter_len}
use Rattle.ocr_steal.specs.Pool.{IsOfPool}
use Rattle.ocr_run_crew.specs.Seats.{IsBetween}
use Rattle.ocr_worker_clerk.specs.Entry.{OcrKnown}
use Rattle.ocr_tests_stops.specs.Clerks.{program_of}
use Rattle.ocr_tests_stops.specs.Seats.{IsRoot, IsSeated}
use Rattle.ocr_tests_stops.proofs.Made.{between, hires, keeps_unit, lowers, may_lower, one}
use Rattle.ocr_tests_stops.proofs.crew.hire.Goals as goal

pub loop-hand-preserved : goal.loop-hand-preserved
loop-hand-preserved c =
    let at = c.loop-hand in let old = at.invariant in let steps = c.in-Some.ensures.steps in
    let table = c.args.turns.now in let pool = c.args.pool.now in
    let split = c.in_ok-clerk.ensures in let made = split.clerk in let len = c.in_ok-push.ensures.len in
    let goes = between table (1 + vec_len at.seats) at.root c.in_ok-clerk.clerk old.root made.0 made.1 made.2 made.3 made.4 in
    let quota = ap (λ v. v.quota) split.root.1 in
    let hand = c.in_ok-hand.ensures pool (subst (All (IsOfPool pool)) steps.0 old.hands 0 c.in-Some.hand (omega arith)) in
    let fewer : into_iter_len at.hand-iterator ≡ into_iter_len c.next.new.self + 1 = (let a = steps.1 in let b = ap length steps.0 in let d = old.left in omega arith) in
    let s = c.seated.result in let same = c.seated.ensures in
    let seat : IsSeated table (program_of table) pool s = record {
      between = subst (IsBetween table (program_of table)) (sym same.0) goes;
      worker = ap (λ (k : OcrKnown). k.view.seat) same.0 ∙ ap (λ v. v.seat) made.1;
      other = ap (λ (k : OcrKnown). k.view.root) same.0 ∙ ap (λ v. v.root) made.1;
      hand = subst (IsOfPool pool) (sym same.1) hand;
    } in
    record {
      root = subst (λ n. IsRoot table n c.split.new.root) (let l = len in omega arith) (hires table (1 + vec_len at.seats) at.root c.split.new.root old.root split.root.0.0 split.root.1);
      unit = keeps_unit 1 at.root c.split.new.root old.unit split.root.1;
      quota = (let q = old.quota in omega arith);
      left = (let a = steps.1 in let b = ap length steps.0 in let d = old.left in omega arith);
      hands = λ k d less. subst (All (IsOfPool pool)) steps.0 old.hands (suc k) d (omega (arith, less));
      seats = subst (All (IsSeated table (program_of table) pool)) (sym c.in_ok-push.ensures.items) (All-append (IsSeated table (program_of table) pool) at.seats.items (s ∷ []) old.seats (one (IsSeated table (program_of table) pool) s seat));
    }

pub lower-requires-clause-may : goal.lower-requires-clause-may
lower-requires-clause-may c = may_lower 1 c.loop-hand.root c.loop-hand.invariant.unit

pub returns-clause-root : goal.returns-clause-root
returns-clause-root c =
    lowers c.args.turns.now (1 + vec_len c.loop-hand.seats) c.loop-hand.root c.lower.new.clerk c.loop-hand.invariant.root c.lower.ensures.hand.0 c.lower.ensures.view
