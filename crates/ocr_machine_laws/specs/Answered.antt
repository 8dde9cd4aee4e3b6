-- What a call answers besides its code, but for the hold that it ends: of that a run tells the
-- rest.
use Rattle.std.specs.Prelude.{◌≡◌, ℕ, true}
use Rattle.ocr_guid.specs.Code.{number_of}
use Rattle.ocr_body_meaning.specs.declared.call.Answer.{Answer}
use Rattle.ocr_body_meaning.specs.declared.call.Call as body
use Rattle.ocr_body_meaning.specs.declared.call.Call.TheVariants as call
use Rattle.ocr_machine_parts.specs.Codes.{code_of}
use Rattle.ocr_machine_parts.specs.Kinds.{is_running}
use Rattle.ocr_machine_parts.specs.LegalOn.{HasOutput, IsAnswered, IsHome, IsScoped}
use Rattle.ocr_machine_parts.specs.Parts.{Parts}

abbrev pub AnswersSo : ℕ → Parts → ℕ → body.Call → Answer → Type 0
AnswersSo limit f t (call.DbRelease d) a = a.value ≡ number_of a.code
AnswersSo limit f t (call.DbDestroy d) a = a.value ≡ number_of a.code
AnswersSo limit f t other a = IsAnswered limit f t other a

pub record IsCallSo (limit : ℕ) (f : Parts) (t home : ℕ) (c : body.Call) (a : Answer)
    : Type 0 where
  pub running : is_running (f.core t) ≡ true
  pub code : a.code ≡ code_of t f.face c
  pub value : AnswersSo limit f t c a
  pub scope : IsScoped limit f c a
  pub output : HasOutput limit f c a
  pub at_home : IsHome f t home c a
