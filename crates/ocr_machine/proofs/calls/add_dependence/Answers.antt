use Rattle.std.proofs.Common.{◌≡◌, ◌==◌, not, Bool, List, false, ap, sym, ◌∙◌, arith}
use Rattle.std.proofs.lemmas.Grind.{common_steps}
use Rattle.ocr_slots.specs.declared.Slot.{Slot}
use Rattle.ocr_slots.specs.Steps.{after_link}
use Rattle.ocr_machine_parts.specs.Calls.{mode_named, target_of}
use Rattle.ocr_machine_parts.specs.Progress.{with_face, linked_if}
use Rattle.ocr_machine_parts.specs.Kinds.{is_edt_face, with_links}
use Rattle.ocr_machine_parts.specs.Messages.{linked_by}
use Rattle.ocr_machine_parts.specs.Parts.{Parts}
use Rattle.ocr_machine_effects.specs.AtHand.{state, Becomes}
use Rattle.ocr_machine_effects.proofs.Links.{same_face, no_links, linked_apart}
use Rattle.ocr_machine_effects.proofs.Places.{follow, into, stays}
use Rattle.ocr_machine.proofs.calls.add_dependence.Goals as goal
use Rattle.ocr_machine.proofs.calls.add_dependence.Goals.{then-is_edt, else-is_edt}

-- the target's slot is linked where it is one of an EDT
abbrev after : (c : goal.In_ok-depend) → Parts
after c = with_face (state c.args.parts.now) c.args.target (with_links ((state c.args.parts.now).face c.args.target) (λ (slots : List Slot). after_link slots c.args.slot (mode_named c.args.mode)))

first : (c : goal.In_ok-depend) → Becomes c.args.parts.now c.if-is_edt.parts (after c)
first c = elim c.if-is_edt.branch [
  | then-is_edt w ↦ rw w.parts-is w.link_at.ensures.parts
  | else-is_edt w ↦
      let f : Parts = state c.args.parts.now in
      let other : is_edt_face (f.face c.args.target) ≡ false = sym c.is_edt-is_edt.ensures ∙ w.if-is_edt.false in
      rw w.parts-is (into c.args.parts.now c.args.parts.now _ _ (stays c.args.parts.now) (sym (same_face f c.args.target _ (no_links (f.face c.args.target) _ other))))
]

pub returns-clause-parts : goal.returns-clause-parts
returns-clause-parts c = into c.args.parts.now c.depend.new.parts _ _
    (follow c.args.parts.now c.if-is_edt.parts c.depend.new.parts (after c) (λ (f : Parts). linked_if (not (c.args.source == 0)) c.args.source (target_of c.is_edt-is_edt.result c.args.target c.args.slot) f)
    (first c) c.in_ok-depend.ensures.parts)
    (ap (λ (b : Bool). linked_if (not (c.args.source == 0)) c.args.source (target_of b c.args.target c.args.slot) (after c)) c.is_edt-is_edt.ensures)

pub returns-clause-messages : goal.returns-clause-messages
returns-clause-messages c =
    let t = λ (b : Bool). target_of b c.args.target c.args.slot in
    let told : c.depend.new.messages.items ≡ linked_by (not (c.args.source == 0)) c.args.source (t c.is_edt-is_edt.result) (state c.if-is_edt.parts) = grind (arith, common_steps) in
    told
    ∙ ap (λ (b : Bool). linked_by (not (c.args.source == 0)) c.args.source (t b) (state c.if-is_edt.parts)) c.is_edt-is_edt.ensures
    ∙ ap (λ (f : Parts). linked_by (not (c.args.source == 0)) c.args.source (t (is_edt_face ((state c.args.parts.now).face c.args.target))) f) (first c).state
    ∙ linked_apart (not (c.args.source == 0)) (state c.args.parts.now) c.args.source c.args.target _ _ c.requires.apart
