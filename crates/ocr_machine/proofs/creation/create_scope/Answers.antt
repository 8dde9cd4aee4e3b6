use Rattle.std.proofs.Common.{◌≡◌, ◌==◌, false, refl, rules, ap}
use Rattle.ocr_body_meaning.specs.declared.call.Answer.{Answer}
use Rattle.ocr_machine_parts.specs.Effects.{new_scope}
use Rattle.ocr_machine_effects.proofs.Places.{face_made, named_made}
use Rattle.ocr_machine.proofs.creation.create_scope.Goals as goal

pub returns-then-ne : goal.returns-then-ne
returns-then-ne c =
    let a : Answer = c.args.answer.now in
    let some : (a.scope == 0) ≡ false = search rules in
    named_made c.args.parts.now c.put_face.new.self a.scope (new_scope c.args.home a) some
    (rw (c.put_face.ensures, c.new-made.ensures, ap (λ (b : Answer). b.scope) c.answer.view_is, ap (λ (b : Answer). b.output) c.answer.view_is)
    (face_made c.args.parts.now a.scope (new_scope c.args.home a) (c.requires some) refl))
