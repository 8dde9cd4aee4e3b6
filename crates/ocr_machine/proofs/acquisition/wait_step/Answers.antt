use Rattle.std.proofs.Common.{ap, ◌∙◌, is_some}
use Rattle.ocr_acquire.specs.declared.Mode.{Mode}
use Rattle.ocr_datablock.specs.Block.{State}
use Rattle.ocr_datablock.specs.Steps.{after_ask}
use Rattle.ocr_machine_parts.specs.Effects.{waiting_edt}
use Rattle.ocr_machine_parts.specs.Progress.{with_face, with_core, with_phase, next_on}
use Rattle.ocr_machine_parts.specs.Kinds.{with_block, on_core, is_acquiring}
use Rattle.ocr_machine_parts.specs.Parts.{Parts}
use Rattle.ocr_machine_effects.specs.AtHand.{state}
use Rattle.ocr_machine_effects.proofs.Places.{follow, into}
use Rattle.ocr_machine.proofs.acquisition.wait_step.Goals as goal

pub wait_core-requires-clause-acquiring : goal.wait_core-requires-clause-acquiring
wait_core-requires-clause-acquiring c = ap (λ (h : Parts). is_acquiring (h.core c.args.edt)) c.in_ok-ask_at.ensures.state ∙ c.requires.acquiring

pub wait_core-requires-clause-next : goal.wait_core-requires-clause-next
wait_core-requires-clause-next c = ap (λ (h : Parts). is_some (next_on h c.args.edt)) c.in_ok-ask_at.ensures.state ∙ ap is_some c.requires.next

pub returns : goal.returns
returns c =
    let f : Parts = state c.args.parts.now in
    let t = c.args.edt in
    let d = c.args.block in
    into c.args.parts.now c.wait_core.new.parts _ _
    (follow c.args.parts.now c.ask_at.new.parts c.wait_core.new.parts (with_face f d (with_block (f.face d) (λ (st : State). after_ask st t c.next_mode-mode.result))) (λ (h : Parts). with_core h t (on_core (h.core t) (with_phase waiting_edt)))
    c.in_ok-ask_at.ensures c.wait_core.ensures)
    (ap (λ (m : Mode). with_core (with_face f d (with_block (f.face d) (λ (st : State). after_ask st t m))) t (on_core (f.core t) (with_phase waiting_edt))) c.next_mode-mode.ensures)
