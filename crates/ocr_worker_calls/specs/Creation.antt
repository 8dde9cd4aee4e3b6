-- The creation of an EDT that is given nothing yet, on the parts at hand.
use Rattle.std.specs.Prelude.{◌≡◌, ℕ, ◌+◌, List, [], ◌∷◌, length, false, Option, Some, Ok}
use Rattle.ocr_edt.specs.declared.Edt.TheVariants as phase
use Rattle.ocr_guid.specs.declared.Code.TheVariants as code
use Rattle.ocr_body_meaning.specs.declared.call.Answer.{Answer}
use Rattle.ocr_body_meaning.specs.declared.call.Call as body
use Rattle.ocr_body_meaning.specs.declared.call.Call.TheVariants as call
use Rattle.ocr_machine_history.specs.declared.entry.Entry.{Entry}
use Rattle.ocr_machine_history.specs.declared.entry.Entry.TheVariants as an
use Rattle.ocr_machine_parts.specs.declared.part.Core.{Core}
use Rattle.ocr_machine_parts.specs.declared.part.Part.{Part}
use Rattle.ocr_machine_parts.specs.declared.part.Part.TheVariants as part
use Rattle.ocr_machine_parts.specs.Parts.{plain_identity}
use Rattle.ocr_slots.specs.Slots.{state_of}
use Rattle.ocr_template.specs.declared.Template.{Template}
use Rattle.ocr_template.specs.Template.{counts_of}
use Rattle.ocr_turns_rule.specs.Steps.{Sees}
use Rattle.ocr_turns_rule.specs.Sums.{as_some, keys, replace}
use Rattle.ocr_worker_machine.specs.Clerks.{OcrTerms}
use Rattle.ocr_worker_machine.specs.Ocr.{meaning}
use Rattle.ocr_worker_clerk.specs.Entry.{OcrKnown}
use Rattle.ocr_worker_access.specs.Access.{IsCoreOf}
use Rattle.ocr_worker_calls.specs.declared.creation.Bare.{Bare}

-- the call that asks for it
abbrev pub call_of : Bare → body.Call
call_of b = call.EdtCreate b.template b.paramc b.params.now b.depc [] 0 false

-- the template is not destroyed, and with these counts it gives so many slots
pub record Suits (b : Bare) (made : Template) (slots : ℕ) : Type 0 where
  pub live : made.destroyed ≡ false
  pub counts : counts_of made b.paramc b.depc ≡ Ok (length b.params.now, slots)

-- the answer, and the entry, of a maker without a home
abbrev pub made_answer : ℕ → Answer
made_answer n = record { code = code.Done; value = n; scope = 0; output = 0 }

abbrev pub made_entry : (edt : ℕ) → body.Call → ℕ → Entry
made_entry edt c n = an.Call edt 0 c (made_answer n) []

-- WITHIN THE CALL it took the parts of these places behind its core, and drew these numbers; all
-- parts stand at hand
pub record HasAtHand (t : OcrTerms) (edt : ℕ) (old new : OcrKnown) (places drawn : List ℕ)
    : Type 0 where
  pub core : Core
  pub kept : Core
  pub taken : List (ℕ × Part)
  pub is : IsCoreOf core kept
  pub was : old.parts ≡ (t.limit + edt, Some (part.Core core)) ∷ []
  pub places_are : keys taken ≡ places
  pub view : new.view ≡ record old.view {
    parts = (t.limit + edt, part.Core kept) ∷ taken;
    drawn = drawn;
  }
  pub hand : new.parts ≡ as_some ((t.limit + edt, part.Core core) ∷ taken)
  pub sees : Sees meaning new.view

-- the parts of the new EDT
abbrev pub bare_core : ℕ → Bare → ℕ → Core
bare_core n b function = record {
  function = function;
  params = b.params.now;
  edt = phase.Filling (plain_identity n);
  loans = [];
}

-- they were put at their places
abbrev pub IsMadeOf : (limit n : ℕ) → Bare → (function slots : ℕ)
    → (old new : List (ℕ × Option Part)) → Type 0
IsMadeOf limit n b function slots old new =
    new ≡ replace (limit + n) (Some (part.Core (bare_core n b function)))
    (replace n (Some (part.Edt (state_of slots []))) old)
