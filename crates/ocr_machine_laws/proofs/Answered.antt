-- A call may come where it is answered so: the hold that it ends is one that may end.
use Rattle.std.proofs.Common.{◌≡◌, ℕ, List, Bool, true, false, if◌then◌else◌, refl, sym, ◌∙◌}
use Rattle.std.proofs.lemmas.Bool.{not-false, or_parts}
use Rattle.ocr_guid.specs.declared.Code.TheVariants as code
use Rattle.ocr_body_meaning.specs.declared.call.Call as body
use Rattle.ocr_body_meaning.specs.declared.call.Call.TheVariants as call
use Rattle.ocr_body_meaning.specs.declared.call.Answer.{Answer}
use Rattle.ocr_machine_history.specs.History.{History, Setting}
use Rattle.ocr_machine_parts.specs.declared.part.Part.{Part}
use Rattle.ocr_machine_parts.specs.Parts.{Parts, parts_of}
use Rattle.ocr_machine_parts.specs.Kinds.{is_block, is_held_by, is_running}
use Rattle.ocr_machine_parts.specs.Codes.{ABlock, code_of, is_of_other_kind, release_code}
use Rattle.ocr_machine_parts.specs.LegalOn.{IsAnswered, IsCallOn}
use Rattle.ocr_machine_parts.specs.Legal.{IsRun}
use Rattle.ocr_machine_parts.proofs.After.{accepted, done_is}
use Rattle.ocr_machine_laws.specs.Answered.{AnswersSo, IsCallSo}
use Rattle.ocr_machine_laws.proofs.Choices.{done_kinds}
use Rattle.ocr_machine_laws.proofs.Held.{held_law}
use Rattle.ocr_machine_laws.proofs.Works.{dooming_law, freeing_law}

-- A HOLD THAT ENDS by a call
release_held : (x : Part) (t : ℕ) → release_code x t ≡ code.Done → is_held_by x t ≡ true
release_held x t is = elim (is_held_by x t) as (λ b. (if b then code.Done else code.Eperm) ≡ code.Done → b ≡ true) [ true ↦ λ _. refl | false ↦ λ is. cc is ] is

answered : (s : Setting) (past : History) (t : ℕ) (c : body.Call) (a : Answer) → IsRun s past → is_running ((parts_of s past).core t) ≡ true → a.code ≡ code_of t (parts_of s past).face c
    → AnswersSo s.limit (parts_of s past) t c a → IsAnswered s.limit (parts_of s past) t c a
answered s past t (call.DbRelease d) a run running is so = (
  (λ on.
      let done : code_of t (parts_of s past).face (call.DbRelease d) ≡ code.Done = sym is ∙ done_is a.code on in
      held_law s past t d run running (release_held ((parts_of s past).face d) t (accepted t (parts_of s past).face (call.DbRelease d) done))),
  so,
)
answered s past t (call.DbDestroy d) a run running is so = (
  (λ on.
      let done : code_of t (parts_of s past).face (call.DbDestroy d) ≡ code.Done = sym is ∙ done_is a.code on in
      dooming_law s past t d run running (not-false (is_block ((parts_of s past).face d)) (or_parts (is_of_other_kind ABlock ((parts_of s past).face d)) false (done_kinds t (parts_of s past).face (call.DbDestroy d) done)).0)),
  so,
)
answered s past t other a run running is so = so

answered_so : (limit : ℕ) (f : Parts) (t : ℕ) (c : body.Call) (a : Answer) → IsAnswered limit f t c a → AnswersSo limit f t c a
answered_so limit f t (call.DbRelease d) a is = is.1
answered_so limit f t (call.DbDestroy d) a is = is.1
answered_so limit f t other a is = is

pub call_on : (s : Setting) (past : History) (t home : ℕ) (c : body.Call) (a : Answer) (w : List (ℕ × ℕ)) → IsRun s past → IsCallSo s.limit (parts_of s past) t home c a → IsCallOn s.limit (parts_of s past) t home c a w
call_on s past t home c a w run so = record { running = so.running; code = so.code; value = answered s past t c a run so.running so.code so.value; scope = so.scope; output = so.output; at_home = so.at_home }

pub call_so : (s : Setting) (past : History) (t home : ℕ) (c : body.Call) (a : Answer) (w : List (ℕ × ℕ)) → IsCallOn s.limit (parts_of s past) t home c a w → IsCallSo s.limit (parts_of s past) t home c a
call_so s past t home c a w on = record { running = on.running; code = on.code; value = answered_so s.limit (parts_of s past) t c a on.value; scope = on.scope; output = on.output; at_home = on.at_home }
