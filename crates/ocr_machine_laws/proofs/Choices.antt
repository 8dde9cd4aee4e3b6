-- Choices by Booleans.
use Rattle.std.proofs.Common.{◌≡◌, ℕ, false}
use Rattle.std.proofs.lemmas.Bool.{or_parts}
use Rattle.ocr_guid.specs.declared.Code.TheVariants as code
use Rattle.ocr_body_meaning.specs.declared.call.Call as body
use Rattle.ocr_machine_parts.specs.declared.part.Part.{Part}
use Rattle.ocr_machine_parts.specs.Codes.{wanted, is_any, is_of_other_kind, is_its_own, code_of}
use Rattle.ocr_machine_parts.proofs.After.{of_kind}

-- AN ACCEPTED CALL finds objects of the kinds that it wants
pub done_kinds : (t : ℕ) (f : ℕ → Part) (c : body.Call) → code_of t f c ≡ code.Done → is_any is_of_other_kind f (wanted c) ≡ false
done_kinds t f c is = (or_parts (is_its_own c) (is_any is_of_other_kind f (wanted c)) (of_kind t f c is)).1
