use Rattle.std.proofs.Common.{sym, ◌∙◌}
use Rattle.ocr_machine_parts.specs.Calls.{plan_of}
use Rattle.ocr_machine_parts.specs.Parts.{parts_of}
use Rattle.ocr_machine_parts.specs.Progress.{next_on, next_mode_on, ready_at}
use Rattle.ocr_memory_model_order.proofs.Modes.{acquired_is}
use Rattle.ocr_memory_model.proofs.Tells.{next_same_mode, next_none}
use Rattle.ocr_memory_model.proofs.modes.next_mode.Goals as goal

pub returns-in-Some : goal.returns-in-Some
returns-in-Some c = λ s past d of run legal.
    let t = c.args.edt in
    let f = ready_at t (plan_of s past t) (parts_of s past) in
    acquired_is s past t d (next_mode_on f t) run legal legal.on_parts.next
    ∙ next_same_mode d c.in-Some.field-0-0 (next_mode_on f t) c.in-Some.mode (next_on f t) legal.on_parts.next (sym (c.in_ok-mode.ensures s past of) ∙ c.in-Some.is)

pub returns-in-None : goal.returns-in-None
returns-in-None c = λ s past d of run legal.
    let t = c.args.edt in
    let f = ready_at t (plan_of s past t) (parts_of s past) in
    absurd (next_none d (next_mode_on f t) (next_on f t) legal.on_parts.next (sym (c.in_ok-mode.ensures s past of) ∙ c.in-None.is))
