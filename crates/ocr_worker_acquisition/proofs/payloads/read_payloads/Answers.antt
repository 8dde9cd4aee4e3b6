use Rattle.std.proofs.Common.{◌≡◌, ◌∙◌, ℕ, List, [], ◌∷◌, length, ap, sym, subst, arith}
use Rattle.std.proofs.lemmas.List.{length-append}
use Rattle.ocr_worker_machine.specs.Clerks.{OcrView}
use Rattle.ocr_worker_machine.specs.declared.fact.Fact.TheVariants.{IsSet}
use Rattle.ocr_turns_rule.specs.Words.{learning}
use Rattle.ocr_worker_clerk.specs.Work.{KnowsPayloads}
use Rattle.ocr_worker_acquisition.proofs.Learns.{has_slot, keeps_later, knows_more, learns_one}
use Rattle.ocr_worker_acquisition.proofs.payloads.read_payloads.Goals as goal

pub payload-requires-clause-slot : goal.payload-requires-clause-slot
payload-requires-clause-slot c =
    let at = c.loop-slot in let r = c.requires in
    has_slot c.args.turns.now.1 at.clerk.view c.args.edt c.args.count at.slot
    (ap (λ (v : OcrView). v.closed) at.invariant.learns.view ∙ r.is_open) r.number (keeps_later c.args.clerk.now.view at.clerk.view c.args.edt c.args.count r.face at.invariant.learns) c.loop-slot-test.true

pub loop-slot-preserved : goal.loop-slot-preserved
loop-slot-preserved c =
    let at = c.loop-slot in let e = c.payload.ensures in let h = e.hand in let o = at.invariant.hand in
    let long : at.slot ≡ length at.payloads.items = sym at.invariant.many in
    record {
      hand = (h.0 ∙ o.0, h.1 ∙ o.1, (h.2.0 ∙ o.2.0, h.2.1 ∙ o.2.1, h.2.2 ∙ o.2.2));
      learns = learns_one c.args.clerk.now.view at.clerk.view c.payload.new.clerk.view (IsSet c.args.edt at.slot c.payload.result) at.invariant.learns e.told.0;
      sees = e.told.1;
      room = let a = c.push_reserved.ensures.capacity in let b = at.invariant.room in omega (arith, a, b);
      many = let a = ap (λ (l : List ℕ). length l) c.push_reserved.ensures.items in let n = length-append at.payloads.items (c.payload.result ∷ []) in let b = at.invariant.many in omega (arith, a, n, b);
      known = subst (λ (l : List ℕ). KnowsPayloads c.payload.new.clerk.view c.args.edt l) (sym c.push_reserved.ensures.items)
          (knows_more at.clerk.view c.payload.new.clerk.view c.args.edt c.payload.result at.payloads.items at.invariant.known
          (e.told.0 ∙ ap (λ (n : ℕ). learning at.clerk.view (IsSet c.args.edt n c.payload.result)) long));
    }
