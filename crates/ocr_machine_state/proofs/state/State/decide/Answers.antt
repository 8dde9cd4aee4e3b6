use Rattle.std.proofs.Common.{ap, ◌∙◌, List}
use Rattle.ocr_machine_parts.specs.declared.part.Part.{Part}
use Rattle.ocr_machine_parts.specs.Codes.{code_of}
use Rattle.ocr_machine_codes.specs.Lookup.{face_at}
use Rattle.ocr_machine_state.proofs.state.State.decide.Goals as goal

pub returns : goal.returns
returns c = c.code_at.ensures ∙ ap (λ (ps : List Part). code_of c.args.edt (face_at c.args.self.now.limit ps) c.args.call.now) c.deref.ensures.value
