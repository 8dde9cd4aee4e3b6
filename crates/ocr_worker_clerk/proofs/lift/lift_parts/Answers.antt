use Rattle.std.proofs.Common.{◌≡◌, ◌+◌, ℕ, get_or, take, ap, sym, arith, ◌∙◌, Some, None, suc}
use Rattle.ocr_turns_rule.specs.Sums.{find, replace}
use Rattle.ocr_worker_clerk.specs.Work.{in_hand}
use Rattle.ocr_worker_clerk.proofs.Hands.{lifted_all, next_of, some_from}
use Rattle.ocr_worker_clerk.proofs.lift.lift_parts.Goals as goal

pub lift-requires : goal.lift-requires
lift-requires c =
    let at = c.loop-place in let h = c.requires.hand in
    let n = next_of c.args.clerk.now.parts c.args.places.now at.place-index h.at_hand h.hand c.requires.once c.loop-place-test.true in
    (n.item, ap (find (get_or c.args.places.now at.place-index 0)) at.invariant.hand ∙ n.found)

pub loop-place-preserved : goal.loop-place-preserved
loop-place-preserved c =
    let at = c.loop-place in let h = c.requires.hand in let p = get_or c.args.places.now at.place-index 0 in
    let n = next_of c.args.clerk.now.parts c.args.places.now at.place-index h.at_hand h.hand c.requires.once c.loop-place-test.true in
    let e = c.lift.ensures in
    let e1 : suc at.place-index ≡ at.place-index + 1 = omega arith in
    let found : Some (Some c.lift.result) ≡ Some (Some n.item) = sym e.part ∙ (ap (find p) at.invariant.hand ∙ n.found) in
    record {
      table = e.rest.0 ∙ at.invariant.table;
      view = e.rest.1 ∙ at.invariant.view;
      same = (e.rest.2.0 ∙ at.invariant.same.0, e.rest.2.1 ∙ at.invariant.same.1, e.rest.2.2 ∙ at.invariant.same.2);
      hand = e.parts ∙ (ap (replace p None) at.invariant.hand ∙ (n.replaced ∙ ap (λ (k : ℕ). some_from k (in_hand c.args.clerk.now.parts)) e1));
      parts = c.push_reserved.ensures.items ∙ (let same : c.lift.result ≡ n.item = cc found in rw (at.invariant.parts, same) (sym n.taken ∙ ap (λ (k : ℕ). take k (in_hand c.args.clerk.now.parts)) e1));
      room = let a = c.push_reserved.ensures.capacity in let b = at.invariant.room in omega (arith, a, b);
      len = let a = c.push_reserved.ensures.len in let b = at.invariant.len in omega (arith, a, b);
    }

pub returns-clause-parts : goal.returns-clause-parts
returns-clause-parts c = let at = c.loop-place in let h = c.requires.hand in at.invariant.parts ∙ (lifted_all c.args.clerk.now.parts c.args.places.now at.place-index h.at_hand h.hand (omega (arith, c.loop-place-test.false))).1

pub returns-clause-left : goal.returns-clause-left
returns-clause-left c = let at = c.loop-place in let h = c.requires.hand in at.invariant.hand ∙ (lifted_all c.args.clerk.now.parts c.args.places.now at.place-index h.at_hand h.hand (omega (arith, c.loop-place-test.false))).0
