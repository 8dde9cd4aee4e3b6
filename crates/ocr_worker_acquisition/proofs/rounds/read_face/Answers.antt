use Rattle.std.proofs.Common.{◌∙◌, ℕ, List, length, ap, sym}
use Rattle.ocr_machine_parts.specs.declared.part.Part.TheVariants as part
use Rattle.ocr_slots.specs.declared.Slot.{Slot}
use Rattle.ocr_turns_rule.specs.Sums.{find}
use Rattle.ocr_worker_acquisition.proofs.Faces.{face_found_is, face_learnt, face_there, keeps_face, learnt_slots}
use Rattle.ocr_worker_acquisition.proofs.Readied.{learnt_readies}
use Rattle.ocr_worker_acquisition.proofs.rounds.read_face.Goals as goal

pub part-requires : goal.part-requires
part-requires g c =
    let t = c.args.job.now.turns.now.1 in let m = c.requires.face in
    (part.Edt m.slots, ap (λ (n : ℕ). find n c.args.clerk.now.parts) c.edt.view_is ∙ face_there t c.args.edt c.args.clerk.now m)

pub read_payloads-requires-clause-face : goal.read_payloads-requires-clause-face
read_payloads-requires-clause-face g c =
    let t = c.args.job.now.turns.now.1 in let m = c.requires.face in
    let same = face_found_is t c.args.edt c.args.clerk.now m c.part.result.now c.in-Edt.slots (ap (λ (n : ℕ). find n c.args.clerk.now.parts) (sym c.edt.view_is) ∙ c.part.ensures) c.in-Edt.is in
    keeps_face t c.args.edt c.depc-count.result c.args.clerk.now m (ap (λ (l : List Slot). length l) (sym same) ∙ sym c.depc-count.ensures.number)

pub returns-clause-knows : goal.returns-clause-knows
returns-clause-knows g c =
    let t = c.args.job.now.turns.now.1 in let e = c.in-Ok.ensures in
    let old = c.args.clerk.now in let new = c.read_payloads.new.clerk in let was = c.requires.face in
    let same = face_found_is t c.args.edt old was c.part.result.now c.in-Edt.slots (ap (λ (n : ℕ). find n old.parts) (sym c.edt.view_is) ∙ c.part.ensures) c.in-Edt.is in
    record {
      face = face_learnt t c.args.edt old new was e.hand e.learns;
      count = e.count ∙ (c.depc-count.ensures.number ∙ (ap (λ (l : List Slot). length l) same ∙ learnt_slots t c.args.edt old new was e.hand e.learns));
      facts = e.known;
    }

pub returns-clause-readied : goal.returns-clause-readied
returns-clause-readied g c = learnt_readies c.args.clerk.now c.read_payloads.new.clerk c.in-Ok.ensures.learns
