use Rattle.std.proofs.Common.{◌≡◌, ◌∙◌, ◌++◌, ℕ, All, List, [], ◌∷◌, ap, arith, subst, sym}
use Rattle.std.specs.List.{sum_by}
use Rattle.std.proofs.lemmas.List.Elements.{All-push}
use lib.ListN.{get_elem?}
use Rattle.std.specs.Global.{Global}
use Rattle.crossbeam_deque.specs.Handles.{worker_view}
use Rattle.crossbeam_deque.specs.declared.handles.Worker.{Worker}
use Rattle.ocr_steal.specs.declared.account.Account.{Account}
use Rattle.ocr_steal.specs.declared.account.Deque.{Deque}
use Rattle.ocr_steal.specs.Hand.{got_weight, pool_of, pushed_weight}
use Rattle.ocr_steal.specs.Parts.{IsOwner, Name}
use Rattle.ocr_steal.specs.Rest.{IsFullRow, IsPlaced, count_if, row_weight, taken_weight}
use Rattle.ocr_steal.proofs.Columns.{row_long, sum_moves}
use Rattle.ocr_steal.proofs.Owners.{all_front, all_last}
use Rattle.ocr_steal.proofs.remainder.split.Goals as goal

pub loop-hand-preserved : goal.loop-hand-preserved
loop-hand-preserved c =
    let inv = c.loop-hand.invariant in
    let hand = c.in-Some.hand in
    let one : ℕ × Worker ℕ Global Account Deque = (hand.number, hand.own) in
    let before = c.loop-hand.hands.items in
    let rest = c.pop.new.self.items in
    let popped = c.in-Some.ensures.items in
    let owners = c.in_ok-push.ensures.items in
    let rows = c.in_ok-push-2.ensures.items in
    record {
      many = omega (arith, inv.many, c.in-Some.ensures.cases, c.in_ok-push-2.ensures.len);
      counted = λ k. omega (arith, inv.counted k, sum_moves (λ h. count_if k h.number) before rest hand popped, sum_moves (λ (o : ℕ × Worker ℕ Global Account Deque). count_if k o.0) c.push.new.self.items c.loop-hand.owners.items one owners);
      pushed = λ f. omega (arith, inv.pushed f, sum_moves (pushed_weight f) before rest hand popped, sum_moves (λ (o : ℕ × Worker ℕ Global Account Deque). sum_by f (worker_view o.1).pushed) c.push.new.self.items c.loop-hand.owners.items one owners);
      got = λ f. omega (
        arith,
        inv.got f,
        sum_moves (got_weight f) before rest hand popped,
        sum_moves (λ (o : ℕ × Worker ℕ Global Account Deque). taken_weight f (worker_view o.1)) c.push.new.self.items c.loop-hand.owners.items one owners,
        sum_moves (λ row. row_weight f row.items) c.push-in-Some.new.self.items c.loop-hand.rows.items hand.passes rows,
      );
      placed = λ names every.
          let was = inv.placed names every in
          let hands : All (λ h. pool_of h ≡ names) (rest ++ hand ∷ []) = subst (All (λ h. pool_of h ≡ names)) popped was.0 in
          let mine : pool_of hand ≡ names = all_last (λ h. pool_of h ≡ names) rest hand hands in (
            all_front (λ h. pool_of h ≡ names) rest (hand ∷ []) hands,
            subst (All (IsPlaced names)) (sym owners) (All-push (IsPlaced names) c.loop-hand.owners.items one was.1 (record {
              owner = subst (λ n. IsOwner n hand.own) (row_long names hand.passes.items mine) hand.owns.owner;
              deque = ap (λ (l : List Name). get_elem? l hand.number) (sym mine) ∙ hand.owns.deque;
            })),
            subst (All (λ row. IsFullRow names row.items)) (sym rows) (All-push (λ row. IsFullRow names row.items) c.loop-hand.rows.items hand.passes was.2 (record { deques = mine; passes = hand.passes_are })),
          );
    }
