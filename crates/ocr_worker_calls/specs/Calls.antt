-- The parts at hand while a call of the body is made.
use Rattle.std.specs.Prelude.{◌≡◌, ◌≤◌, ℕ, List, [], ◌∷◌, ◌++◌}
use Rattle.std.specs.Prelude.{Bool, true, false, Option, Some, None, Ok}
use Rattle.std.specs.List.{All}
use Rattle.ocr_guid.specs.Code.{number_of}
use Rattle.ocr_guid.specs.declared.Code.{Code}
use Rattle.ocr_guid.specs.declared.Code.TheVariants as code
use Rattle.ocr_body_meaning.specs.Holds.{is_done}
use Rattle.ocr_body_meaning.specs.declared.call.Answer.{Answer}
use Rattle.ocr_body_meaning.specs.declared.call.Call as body
use Rattle.ocr_body_meaning.specs.declared.call.Call.TheVariants as call
use Rattle.ocr_machine_history.specs.declared.entry.Entry.{Entry}
use Rattle.ocr_machine_history.specs.declared.entry.Entry.TheVariants as an
use Rattle.ocr_machine_parts.specs.declared.part.Core.{Core}
use Rattle.ocr_machine_parts.specs.declared.part.Part.{Part}
use Rattle.ocr_machine_parts.specs.declared.part.Part.TheVariants as part
use Rattle.ocr_machine_parts.specs.Effects.{settled_core}
use Rattle.ocr_machine_parts.specs.Taken.{look}
use Rattle.ocr_machine_parts.specs.Bodies.{holds_in}
use Rattle.ocr_template.specs.Template.{counts_of}
use Rattle.ocr_turns_rule.specs.Contract.{SameHand}
use Rattle.ocr_turns_rule.specs.Steps.{Sees, with_drawn}
use Rattle.ocr_turns_rule.specs.Sums.{AreBelow}
use Rattle.ocr_worker_machine.specs.Ocr.{meaning}
use Rattle.ocr_worker_clerk.specs.Entry.{OcrKnown}
use Rattle.ocr_worker_access.specs.Calls.{IsAnswer, drawn_for}

-- others may stand behind those of before
abbrev pub HasMore : List (ℕ × Part) → List (ℕ × Part) → Type 0
HasMore old new = (more : List (ℕ × Part)) × (new ≡ old ++ more)

-- the core, which stands first, is the same but for what was stored in its loans
pub record HasListed (old new : List (ℕ × Part)) : Type 0 where
  pub place : ℕ
  pub core : Core
  pub later : Core
  pub rest : List (ℕ × Part)
  pub was : old ≡ (place, part.Core core) ∷ rest
  pub is : new ≡ (place, part.Core later) ∷ rest
  pub alike : settled_core later ≡ settled_core core
  pub edt : later.edt ≡ core.edt
  pub holds : holds_in (part.Core later) ≡ holds_in (part.Core core)

-- a core stands first
pub record HasCore (ps : List (ℕ × Part)) : Type 0 where
  pub place : ℕ
  pub core : Core
  pub rest : List (ℕ × Part)
  pub is : ps ≡ (place, part.Core core) ∷ rest

-- the part is a template that does not refuse these counts
abbrev pub LetsMake : Part → ℕ → ℕ → Type 0
LetsMake (part.Template t) pc dc = (n : ℕ × ℕ) × (counts_of t pc dc ≡ Ok n)
LetsMake other pc dc = ⊥

-- what an accepted creation of an EDT names is such a template
abbrev pub IsLet : body.Call → Code → List (ℕ × Part) → Type 0
IsLet (call.EdtCreate from pc ps dc ds fl o) k parts =
    is_done k ≡ true → LetsMake (look parts from) pc dc
IsLet other k parts = Unit {0}

-- ONE NUMBER MORE was drawn where one was wanted, above those that were drawn before
abbrev pub DrewIf : Bool → (limit : ℕ) → (old new : OcrKnown) → ℕ → Type 0
DrewIf true limit old new n = (1 ≤ n) × (n ≤ limit) × AreBelow n old.view.drawn
    × (new.view ≡ with_drawn old.view n) × SameHand old new × Sees meaning new.view
DrewIf false limit old new n = (n ≡ 0) × (new ≡ old)

-- the numbers of all that the call makes were drawn, and are its answer
pub record Drew (limit : ℕ) (c : body.Call) (a : Answer) (old new : OcrKnown) : Type 0 where
  pub some : 1 ≤ a.value
  pub within : All (λ n. n ≤ limit) (drawn_for c a)
  pub view : new.view ≡ record old.view { drawn = drawn_for c a }
  pub hand : SameHand old new
  pub sees : Sees meaning new.view
  pub answer : IsAnswer new.view c a

-- the block whose hold a call ends where it is accepted
abbrev pub ended_in : body.Call → Option ℕ
ended_in (call.DbRelease d) = Some d
ended_in (call.DbDestroy d) = Some d
ended_in other = None

-- A PRINT is always accepted, and changes nothing
abbrev pub print_answer : Answer
print_answer = record { code = code.Done; value = number_of code.Done; scope = 0; output = 0 }

abbrev pub print_entry : (edt value : ℕ) → Entry
print_entry edt value = an.Call edt 0 (call.Print value) print_answer []
