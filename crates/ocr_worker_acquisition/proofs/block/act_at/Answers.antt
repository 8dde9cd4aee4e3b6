use Rattle.std.proofs.Common.{◌∙◌, ap, sym}
use Rattle.ocr_machine_parts.specs.declared.part.Core.{Core}
use Rattle.ocr_machine_parts.specs.declared.part.Part.TheVariants as part
use Rattle.ocr_machine_parts.specs.Readiness.{ready_with}
use Rattle.ocr_worker_acquisition.specs.Block.{next_by}
use Rattle.ocr_worker_acquisition.proofs.Lets.{able_of, block_of, lets_next, lets_state, mode_none, mode_there}
use Rattle.ocr_worker_acquisition.proofs.block.act_at.Goals as goal

pub returns-in_default-mode_at-clause-other : goal.returns-in_default-mode_at-clause-other
returns-in_default-mode_at-clause-other c =
    let e = c.in-Core-Edt in
    let known = c.in_ok-next.ensures ∙ ap (λ (k : Core). next_by k e.slots c.args.payloads.now) c.get.ensures in
    record {
      item = e.core;
      slots = e.slots;
      core_is = e.is-0;
      face_is = e.is-1;
      other = λ m next. mode_none c.in_ok-next.next c.args.block m (sym c.mode_at.ensures ∙ c.in_default-mode_at.is) (known ∙ next);
    }

pub unreachable-requires-in_default-other : goal.unreachable-requires-in_default-other
unreachable-requires-in_default-other c =
    let a = c.args in let e = c.in-Core-Edt in
    let known = c.in_ok-next.ensures ∙ ap (λ (k : Core). next_by k e.slots a.payloads.now) c.get.ensures in
    let next = sym known ∙ mode_there c.in_ok-next.next a.block c.in-Some.mode (sym c.mode_at.ensures ∙ c.in-Some.is) in
    let there = block_of a.other.now _ (lets_next a.core.now a.face.now a.other.now a.edt a.block a.payloads.now c.requires e.core e.slots c.in-Some.mode e.is-0 e.is-1 next) in
    c.in_default-other.not-Block there.0 there.1

pub act_on-requires : goal.act_on-requires
act_on-requires c =
    let a = c.args in let e = c.in-Core-Edt in
    let known = c.in_ok-next.ensures ∙ ap (λ (k : Core). next_by k e.slots a.payloads.now) c.get.ensures in
    let next = sym known ∙ mode_there c.in_ok-next.next a.block c.in-Some.mode (sym c.mode_at.ensures ∙ c.in-Some.is) in
    let there = c.in-Block.is ∙ ap part.Block (sym c.get-2.ensures) in
    let some = lets_state a.core.now a.face.now a.other.now a.edt a.block a.payloads.now c.requires e.core e.slots c.in-Some.mode c.get-2.result.now e.is-0 e.is-1 there next in
    (some.act, some.lets)

pub returns-clause-act : goal.returns-clause-act
returns-clause-act c =
    let a = c.args in let e = c.in-Core-Edt in
    let known = c.in_ok-next.ensures ∙ ap (λ (k : Core). next_by k e.slots a.payloads.now) c.get.ensures in
    let next = sym known ∙ mode_there c.in_ok-next.next a.block c.in-Some.mode (sym c.mode_at.ensures ∙ c.in-Some.is) in
    let there = c.in-Block.is ∙ ap part.Block (sym c.get-2.ensures) in
    let some = lets_state a.core.now a.face.now a.other.now a.edt a.block a.payloads.now c.requires e.core e.slots c.in-Some.mode c.get-2.result.now e.is-0 e.is-1 there next in
    record {
      item = e.core;
      slots = e.slots;
      state = c.get-2.result.now;
      mode = c.in-Some.mode;
      core_is = e.is-0;
      face_is = e.is-1;
      other_is = there;
      next = next;
      lets = c.act_on.ensures;
      able = able_of a.edt c.in-Some.mode (ready_with e.slots a.payloads.now e.core) c.get-2.result.now c.act_on.result some c.act_on.ensures;
    }
