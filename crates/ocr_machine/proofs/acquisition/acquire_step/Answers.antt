use Rattle.std.proofs.Common.{ap, ◌∙◌, is_some}
use Rattle.ocr_acquire.specs.declared.Mode.{Mode}
use Rattle.ocr_machine_parts.specs.Effects.{acquiring_core, granted}
use Rattle.ocr_machine_parts.specs.Progress.{with_face, with_core, next_on}
use Rattle.ocr_machine_parts.specs.Kinds.{with_block, on_core, size_on, words_on}
use Rattle.ocr_machine_parts.specs.Parts.{Parts}
use Rattle.ocr_machine_effects.specs.AtHand.{state}
use Rattle.ocr_machine_effects.proofs.Places.{ok_map, follow, into}
use Rattle.ocr_machine.proofs.acquisition.acquire_step.Goals as goal

pub acquire_core-requires : goal.acquire_core-requires
acquire_core-requires c = ap (λ (h : Parts). is_some (next_on h c.args.edt)) c.in_ok-kept.ensures.parts.state ∙ ap is_some c.requires.next

pub returns : goal.returns
returns c =
    let f : Parts = state c.args.parts.now in
    let t = c.args.edt in
    let d = c.args.block in
    let m = c.next_mode-mode.result in
    let size = size_on (f.face d) in
    let words = words_on (f.face d) in
    ok_map c.acquire_core.result c.acquire_core.ensures (λ is. into c.args.parts.now c.acquire_core.new.parts _ _
    (follow c.args.parts.now c.grant_at.new.parts c.acquire_core.new.parts (with_face f d (with_block (f.face d) (granted t m))) (λ (h : Parts). with_core h t (on_core (h.core t) (acquiring_core d m size words)))
    c.in_ok-kept.ensures.parts (is m size words c.in_ok-kept.ensures.kept))
    (ap (λ (n : Mode). with_core (with_face f d (with_block (f.face d) (granted t n))) t (on_core (f.core t) (acquiring_core d n size words))) c.next_mode-mode.ensures))
