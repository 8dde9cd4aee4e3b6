use Rattle.std.proofs.Common.{◌≡◌, ◌∙◌, ℕ, List, Option, Some, None, length, ap, sym}
use Rattle.ocr_slots.specs.declared.Slot.{Slot}
use Rattle.ocr_machine_parts.specs.declared.part.Part.{Part}
use Rattle.ocr_machine_parts.specs.declared.part.Part.TheVariants as part
use Rattle.ocr_turns_rule.specs.Sums.{find, replace}
use Rattle.ocr_machine_parts.specs.Readiness.{ready_with}
use Rattle.ocr_worker_clerk.proofs.Puts.{edt_same, find_other, find_replaced, item_same, long_replaced}
use Rattle.ocr_worker_clerk.proofs.readiness.put_ready.Goals as goal

pub part-requires : goal.part-requires
part-requires c =
    let b = c.requires.both in let e = c.lift.ensures in
    (part.Edt b.slots, ap (λ (n : ℕ). find n c.lift.new.self.parts) c.edt.view_is ∙ (ap (find c.args.edt) e.parts ∙ (find_other c.args.edt c.args.place None c.args.clerk.now.parts b.apart ∙ b.face_there)))

pub unreachable-requires-in_default-part : goal.unreachable-requires-in_default-part
unreachable-requires-in_default-part c =
    let b = c.requires.both in let e = c.lift.ensures in
    let there : find c.edt.inside.0 c.lift.new.self.parts ≡ Some (Some (part.Edt b.slots)) = ap (λ (n : ℕ). find n c.lift.new.self.parts) c.edt.view_is ∙ (ap (find c.args.edt) e.parts ∙ (find_other c.args.edt c.args.place None c.args.clerk.now.parts b.apart ∙ b.face_there)) in
    c.in_default-part.not-Edt b.slots (item_same c.part.result.now (part.Edt b.slots) (sym c.part.ensures ∙ there))

pub ready_core-requires : goal.ready_core-requires
ready_core-requires c =
    let b = c.requires.both in let e = c.lift.ensures in
    let there : find c.edt.inside.0 c.lift.new.self.parts ≡ Some (Some (part.Edt b.slots)) = ap (λ (n : ℕ). find n c.lift.new.self.parts) c.edt.view_is ∙ (ap (find c.args.edt) e.parts ∙ (find_other c.args.edt c.args.place None c.args.clerk.now.parts b.apart ∙ b.face_there)) in
    let same = edt_same c.in-Edt.slots b.slots (sym c.in-Edt.is ∙ item_same c.part.result.now (part.Edt b.slots) (sym c.part.ensures ∙ there)) in
    b.count_is ∙ ap (λ (l : List Slot). length l) (sym same)

pub returns-in_err-ready_core-clause-same : goal.returns-in_err-ready_core-clause-same
returns-in_err-ready_core-clause-same c =
    let e = c.lift.ensures in (e.rest.0, e.rest.1, e.rest.2, ap (λ (l : List (ℕ × Option Part)). length l) e.parts ∙ long_replaced c.args.place None c.args.clerk.now.parts)

pub put-requires : goal.put-requires
put-requires c = let e = c.lift.ensures in ap (find c.args.place) e.parts ∙ find_replaced c.args.place None c.args.clerk.now.parts (Some c.lift.result) e.part

pub returns-clause-same : goal.returns-clause-same
returns-clause-same c =
    let e = c.lift.ensures in let q = c.put.ensures in (
      q.rest.0 ∙ e.rest.0,
      q.rest.1 ∙ e.rest.1,
      (q.rest.2.0 ∙ e.rest.2.0, q.rest.2.1 ∙ e.rest.2.1, q.rest.2.2 ∙ e.rest.2.2),
      ap (λ (l : List (ℕ × Option Part)). length l) q.parts ∙ (long_replaced c.args.place _ c.lift.new.self.parts ∙ (ap (λ (l : List (ℕ × Option Part)). length l) e.parts ∙ long_replaced c.args.place None c.args.clerk.now.parts)),
    )

pub returns-clause-ready : goal.returns-clause-ready
returns-clause-ready c =
    let b = c.requires.both in let e = c.lift.ensures in let q = c.put.ensures in
    let there : find c.edt.inside.0 c.lift.new.self.parts ≡ Some (Some (part.Edt b.slots)) = ap (λ (n : ℕ). find n c.lift.new.self.parts) c.edt.view_is ∙ (ap (find c.args.edt) e.parts ∙ (find_other c.args.edt c.args.place None c.args.clerk.now.parts b.apart ∙ b.face_there)) in
    let same = edt_same c.in-Edt.slots b.slots (sym c.in-Edt.is ∙ item_same c.part.result.now (part.Edt b.slots) (sym c.part.ensures ∙ there)) in
    let core = c.in_ok-ready_core.ensures ∙ ap (λ (l : List Slot). ready_with l c.args.payloads.now c.in-Core.core) same in
    record {
      core = c.in-Core.core;
      slots = b.slots;
      core_there = e.part ∙ ap (λ (x : Part). Some (Some x)) c.in-Core.is;
      face_there = b.face_there;
      put = q.parts ∙ (ap (λ (l : List (ℕ × Option Part)). replace c.args.place (Some (part.Core c.ready_core.new.core)) l) e.parts ∙ ap (λ k. replace c.args.place (Some (part.Core k)) (replace c.args.place None c.args.clerk.now.parts)) core);
    }
