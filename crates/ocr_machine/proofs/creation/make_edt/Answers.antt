use Rattle.std.proofs.Common.{ap, sym, ◌∙◌, ℕ, List}
use Rattle.ocr_edt.specs.declared.Identity.{Identity}
use Rattle.ocr_machine_parts.specs.Effects.{with_beside, new_face, new_core, deps_linked}
use Rattle.ocr_machine_parts.specs.Progress.{with_face, with_core}
use Rattle.ocr_machine_parts.specs.Messages.{dep_sends}
use Rattle.ocr_machine_parts.specs.Parts.{Parts, new_identity}
use Rattle.ocr_machine_parts.specs.declared.part.Part.{Part}
use Rattle.ocr_machine_parts.specs.declared.part.Part.TheVariants as part
use Rattle.ocr_machine_effects.specs.AtHand.{state, Becomes}
use Rattle.ocr_machine_effects.proofs.Links.{made_sends}
use Rattle.ocr_machine_effects.proofs.Places.{ok_map, ok_with, follow, into, still_face, still_core}
use Rattle.ocr_machine.proofs.creation.make_edt.Goals as goal
use Rattle.ocr_machine.proofs.creation.make_edt.Goals.{After-depend_all}

pub create_edt-requires-clause-face : goal.create_edt-requires-clause-face
create_edt-requires-clause-face c = rw c.new_identity-identity.ensures (still_face c.args.parts.now c.create_beside.new.parts _ c.args.answer.now.value c.in_ok-create_beside.ensures c.requires.room.face)

pub create_edt-requires-clause-core : goal.create_edt-requires-clause-core
create_edt-requires-clause-core c = rw c.new_identity-identity.ensures (still_core c.args.parts.now c.create_beside.new.parts _ c.args.answer.now.value c.in_ok-create_beside.ensures c.requires.room.core)

-- the parts of an EDT with this identity, from what stands at the template's number
abbrev edt_parts : After-depend_all → Part → Identity → Parts → Parts
edt_parts c from i f = with_core (with_face f i.edt (new_face from c.args.depc c.args.deps.now)) i.edt (new_core from i c.args.params.now)

-- before its dependences are linked
abbrev made_parts : After-depend_all → Parts
made_parts c = edt_parts c ((state c.args.parts.now).face c.args.template) (new_identity c.args.answer.now.value c.args.flags c.args.answer.now c.args.home) (with_beside (state c.args.parts.now) c.args.home c.args.answer.now)

made : (c : After-depend_all) → Becomes c.args.parts.now c.create_edt.new.parts (made_parts c)
made c =
    let beside : Parts = with_beside (state c.args.parts.now) c.args.home c.args.answer.now in
    into c.args.parts.now c.create_edt.new.parts _ (made_parts c)
    (follow c.args.parts.now c.create_beside.new.parts c.create_edt.new.parts beside (edt_parts c (part.Template c.template-template.result) c.new_identity-identity.result) c.in_ok-create_beside.ensures c.in_ok-create_edt.ensures)
    (ap (λ (i : Identity). edt_parts c (part.Template c.template-template.result) i beside) c.new_identity-identity.ensures
    ∙ ap (λ (x : Part). edt_parts c x (new_identity c.args.answer.now.value c.args.flags c.args.answer.now c.args.home) beside) (sym c.template-template.ensures))

pub returns-clause-parts : goal.returns-clause-parts
returns-clause-parts c =
    ok_map c.depend_all.result c.depend_all.ensures.parts (λ is. into c.args.parts.now c.depend_all.new.parts _ _
    (follow c.args.parts.now c.create_edt.new.parts c.depend_all.new.parts (made_parts c) (λ (g : Parts). deps_linked c.args.answer.now.value 0 c.as_slice.result.now g) (made c) is)
    (ap (λ (ds : List ℕ). deps_linked c.args.answer.now.value 0 ds (made_parts c)) c.as_slice.ensures))

pub returns-clause-messages : goal.returns-clause-messages
returns-clause-messages c =
    ok_with c.depend_all.result c.depend_all.ensures.messages (λ r is. is
    ∙ ap (λ (ds : List ℕ). dep_sends c.args.answer.now.value 0 ds (state c.create_edt.new.parts)) c.as_slice.ensures
    ∙ ap (λ (f : Parts). dep_sends c.args.answer.now.value 0 c.args.deps.now f) (made c).state
    ∙ made_sends c.args.parts.now c.args.answer.now c.args.home c.args.deps.now _ _ c.requires.room)
