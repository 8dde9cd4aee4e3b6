use Rattle.std.proofs.Common.{◌≡◌, ◌∙◌, ℕ, List, Option, Some, None, length, ap, sym}
use Rattle.ocr_slots.specs.declared.Slot.{Slot}
use Rattle.ocr_machine_parts.specs.declared.part.Part.{Part}
use Rattle.ocr_machine_parts.specs.declared.part.Part.TheVariants as part
use Rattle.ocr_machine_parts.specs.Kinds.{is_acquiring_edt, next_in, progress_in}
use Rattle.ocr_turns_rule.specs.Sums.{find, replace}
use Rattle.ocr_machine_parts.specs.Readiness.{ready_with, started_with}
use Rattle.ocr_worker_clerk.proofs.Puts.{core_same, edt_same, find_other, find_replaced, item_same, long_replaced}
use Rattle.ocr_worker_clerk.proofs.readiness.put_started.Goals as goal

pub part-requires : goal.part-requires
part-requires c =
    let b = c.requires.can.both in let e = c.lift.ensures in
    (part.Edt b.slots, ap (λ (n : ℕ). find n c.lift.new.self.parts) c.edt.view_is ∙ (ap (find c.args.edt) e.parts ∙ (find_other c.args.edt c.args.place None c.args.clerk.now.parts b.apart ∙ b.face_there)))

pub unreachable-requires-in_default-part : goal.unreachable-requires-in_default-part
unreachable-requires-in_default-part c =
    let b = c.requires.can.both in let e = c.lift.ensures in
    let there : find c.edt.inside.0 c.lift.new.self.parts ≡ Some (Some (part.Edt b.slots)) = ap (λ (n : ℕ). find n c.lift.new.self.parts) c.edt.view_is ∙ (ap (find c.args.edt) e.parts ∙ (find_other c.args.edt c.args.place None c.args.clerk.now.parts b.apart ∙ b.face_there)) in
    c.in_default-part.not-Edt b.slots (item_same c.part.result.now (part.Edt b.slots) (sym c.part.ensures ∙ there))

pub start_core-requires : goal.start_core-requires
start_core-requires c =
    let can = c.requires.can in let b = can.both in let e = c.lift.ensures in
    let there : find c.edt.inside.0 c.lift.new.self.parts ≡ Some (Some (part.Edt b.slots)) = ap (λ (n : ℕ). find n c.lift.new.self.parts) c.edt.view_is ∙ (ap (find c.args.edt) e.parts ∙ (find_other c.args.edt c.args.place None c.args.clerk.now.parts b.apart ∙ b.face_there)) in
    let slots : c.in-Edt.slots ≡ b.slots = edt_same c.in-Edt.slots b.slots (sym c.in-Edt.is ∙ item_same c.part.result.now (part.Edt b.slots) (sym c.part.ensures ∙ there)) in
    let core : c.in-Core.core ≡ b.core = core_same c.in-Core.core b.core (sym c.in-Core.is ∙ item_same c.lift.result (part.Core b.core) (sym e.part ∙ b.core_there)) in
    record {
      sizes = b.count_is ∙ ap (λ (l : List Slot). length l) (sym slots);
      acquiring = (λ i. is_acquiring_edt (ready_with (slots i) c.args.payloads.now (core i)).edt) ∙ can.acquiring;
      through = (λ i. next_in (progress_in (ready_with (slots i) c.args.payloads.now (core i)).edt)) ∙ can.through;
    }

pub returns-in_err-start_core-clause-same : goal.returns-in_err-start_core-clause-same
returns-in_err-start_core-clause-same c =
    let e = c.lift.ensures in (e.rest.0, e.rest.1, e.rest.2, ap (λ (l : List (ℕ × Option Part)). length l) e.parts ∙ long_replaced c.args.place None c.args.clerk.now.parts)

pub put-requires : goal.put-requires
put-requires c = let e = c.lift.ensures in ap (find c.args.place) e.parts ∙ find_replaced c.args.place None c.args.clerk.now.parts (Some c.lift.result) e.part

pub returns-clause-same : goal.returns-clause-same
returns-clause-same c =
    let e = c.lift.ensures in let q = c.put.ensures in (
      q.rest.0 ∙ e.rest.0,
      q.rest.1 ∙ e.rest.1,
      (q.rest.2.0 ∙ e.rest.2.0, q.rest.2.1 ∙ e.rest.2.1, q.rest.2.2 ∙ e.rest.2.2),
      ap (λ (l : List (ℕ × Option Part)). length l) q.parts ∙ (long_replaced c.args.place _ c.lift.new.self.parts ∙ (ap (λ (l : List (ℕ × Option Part)). length l) e.parts ∙ long_replaced c.args.place None c.args.clerk.now.parts)),
    )

pub returns-clause-started : goal.returns-clause-started
returns-clause-started c =
    let b = c.requires.can.both in let e = c.lift.ensures in let q = c.put.ensures in
    let there : find c.edt.inside.0 c.lift.new.self.parts ≡ Some (Some (part.Edt b.slots)) = ap (λ (n : ℕ). find n c.lift.new.self.parts) c.edt.view_is ∙ (ap (find c.args.edt) e.parts ∙ (find_other c.args.edt c.args.place None c.args.clerk.now.parts b.apart ∙ b.face_there)) in
    let same = edt_same c.in-Edt.slots b.slots (sym c.in-Edt.is ∙ item_same c.part.result.now (part.Edt b.slots) (sym c.part.ensures ∙ there)) in
    let core = c.in_ok-start_core.ensures ∙ ap (λ (l : List Slot). started_with l c.args.payloads.now c.in-Core.core) same in
    record {
      core = c.in-Core.core;
      slots = b.slots;
      core_there = e.part ∙ ap (λ (x : Part). Some (Some x)) c.in-Core.is;
      face_there = b.face_there;
      put = q.parts ∙ (ap (λ (l : List (ℕ × Option Part)). replace c.args.place (Some (part.Core c.start_core.new.core)) l) e.parts ∙ ap (λ k. replace c.args.place (Some (part.Core k)) (replace c.args.place None c.args.clerk.now.parts)) core);
    }
