-- The rounds in which an EDT goes on.
use Rattle.std.specs.Prelude.{◌≡◌, ◌+◌, ◌++◌, ℕ, List, [], ◌∷◌, Bool, true, false, Option, Some, None, length, take}
use Rattle.ocr_acquire.specs.declared.Mode.{Mode}
use Rattle.ocr_worker_machine.specs.Clerks.{OcrTerms}
use Rattle.ocr_machine_history.specs.declared.entry.Entry.{Entry}
use Rattle.ocr_machine_history.specs.declared.entry.Entry.TheVariants.{Wait}
use Rattle.ocr_machine_parts.specs.declared.part.Core.{Core}
use Rattle.ocr_machine_parts.specs.declared.part.Part.{Part}
use Rattle.ocr_machine_parts.specs.declared.part.Part.TheVariants as part
use Rattle.ocr_machine_parts.specs.Kinds.{next_in, progress_in}
use Rattle.ocr_machine_parts.specs.Taken.{look}
use Rattle.ocr_machine_laws.specs.Waits.{awaits_in}
use Rattle.ocr_slots.specs.declared.Slot.{Slot}
use Rattle.ocr_machine_parts.specs.Readiness.{plan_from}
use Rattle.ocr_machine_laws.specs.Permanence.{is_own}
use Rattle.ocr_turns_rule.specs.Sums.{entries, is_among}
use Rattle.ocr_worker_clerk.specs.Entry.{PlannedParts, OcrKnown}
use Rattle.ocr_worker_clerk.specs.Work.{CanRun, HasTakenOn, IsIdleClerk, KnowsPayloads}
use Rattle.ocr_worker_acquisition.specs.Block.{HoldsCore, IsOtherObject, IsUnbegun, WantsNext, next_by}
use Rattle.ocr_worker_acquisition.specs.declared.act.Act.{Act}
use Rattle.ocr_worker_acquisition.specs.declared.act.Act.TheVariants as act
use Rattle.ocr_worker_acquisition.specs.declared.acquisition.Step.{Step}
use Rattle.ocr_worker_acquisition.specs.declared.acquisition.Step.TheVariants as step
use Rattle.ocr_worker_acquisition.specs.declared.acquisition.Woken.{Woken}
use Rattle.ocr_worker_acquisition.specs.declared.rounds.Met.{Met}
use Rattle.ocr_worker_acquisition.specs.declared.rounds.Met.TheVariants as met
use Rattle.smallvec.specs.SmallVec.{SmallVec}
use Rattle.ocr_worker_acquisition.specs.declared.acquisition.Woken.TheVariants as woken

-- THE BLOCK that an EDT acquires next is known: it is another object, and an EDT that acquires or
-- waits already has it as its next.
pub record IsWanted (t : OcrTerms) (edt d : ℕ) (c : OcrKnown) : Type 0 where
  pub is_other : IsOtherObject t edt d
  pub next : WantsNext t edt d c

abbrev pub IsWantedIf : OcrTerms → ℕ → Option ℕ → OcrKnown → Type 0
IsWantedIf t edt None c = Unit {0}
IsWantedIf t edt (Some d) c = IsWanted t edt d c

abbrev pub name_in : Option (ℕ × Mode) → Option ℕ
name_in None = None
name_in (Some one) = Some one.0

-- the block that an EDT acquires next, where its core tells one
abbrev pub next_block : Part → Option ℕ
next_block (part.Core c) = name_in (next_in (progress_in c.edt))
next_block other = None

-- the core is kept alone, and the EDT does not wait
pub record HoldsAwake (t : OcrTerms) (edt : ℕ) (c : OcrKnown) : Type 0 where
  pub holds : HoldsCore t edt c
  pub awake : awaits_in holds.core.edt ≡ None

-- The core and the face of the EDT are kept, at hand as they are kept. It has not started, and does
-- not wait.
pub record HasFace (t : OcrTerms) (edt : ℕ) (c : OcrKnown) : Type 0 where
  pub taken : HasTakenOn t edt c
  pub unstarted : is_among (λ e. is_own e edt) (entries c.view.log) ≡ false
  pub unbegun : IsUnbegun c.view edt
  pub core : Core
  pub slots : List Slot
  pub awake : awaits_in core.edt ≡ None
  pub kept : c.view.parts ≡ (t.limit + edt, part.Core core) ∷ (edt, part.Edt slots) ∷ []
  pub hand : c.parts ≡ (t.limit + edt, Some (part.Core core)) ∷ (edt, Some (part.Edt slots)) ∷ []

-- the payloads of its slots are known
pub record KnowsFace (t : OcrTerms) (edt : ℕ) (payloads : List ℕ) (c : OcrKnown) : Type 0 where
  pub face : HasFace t edt c
  pub count : length payloads ≡ length face.slots
  pub facts : KnowsPayloads c.view edt payloads

-- and so is the block that it acquires next with them
pub record PlansNext (t : OcrTerms) (edt : ℕ) (payloads : List ℕ) (next : Option ℕ) (c : OcrKnown)
    : Type 0 where
  pub knows : KnowsFace t edt payloads c
  pub next_is : next ≡ name_in (next_by knows.face.core knows.face.slots payloads)

-- the places of two faces, and of the core before them, in the order in which they were taken
abbrev pub two_places : Bool → ℕ → ℕ → List ℕ
two_places true t d = d ∷ t ∷ []
two_places false t d = t ∷ d ∷ []

abbrev pub places_of : ℕ → Bool → ℕ → ℕ → List ℕ
places_of limit first t d = (limit + t) ∷ two_places first t d

-- all parts but the core went home
pub record GaveFaces (old new : OcrKnown) : Type 0 where
  pub table : new.table ≡ old.table
  pub view : new.view ≡ record old.view { parts = take 1 old.view.parts }
  pub hand : new.parts ≡ take 1 old.parts

-- what an entry that takes the EDT on is entered with: the plan by the face that is kept
abbrev pub slots_on : Part → List Slot
slots_on (part.Edt slots) = slots
slots_on other = []

abbrev pub hand_of : OcrKnown → ℕ → List ℕ → PlannedParts
hand_of c edt payloads = record {
  members = plan_from (slots_on (look c.view.parts edt)) payloads;
  parts = c.view.parts;
}

abbrev pub lets_wait : Act → Bool
lets_wait act.Wait = true
lets_wait other = false

-- the newest entry lets the EDT wait
pub record HasWaited (old new : OcrKnown) (edt : ℕ) : Type 0 where
  pub more : List (ℕ × Entry)
  pub number : ℕ
  pub block : ℕ
  pub log : new.view.log ≡ old.view.log ++ more ++ (number, Wait edt block) ∷ []

-- WHAT A BLOCK LEAVES
abbrev pub HasMet : OcrTerms → ℕ → List ℕ → Met → OcrKnown → OcrKnown → Type 0
HasMet t edt payloads met.Through old new = CanRun t edt payloads new
HasMet t edt payloads met.Further old new = HoldsCore t edt new
HasMet t edt payloads met.Parked old new = IsIdleClerk new × HasWaited old new edt

-- and what comes then, with the payloads that were read
abbrev pub step_of : Met → SmallVec ℕ → Step
step_of met.Through payloads = step.Ready payloads
step_of met.Further payloads = step.Next None
step_of met.Parked payloads = step.Parked

-- WHAT A ROUND LEAVES
abbrev pub IsAfter : OcrTerms → ℕ → Step → OcrKnown → OcrKnown → Type 0
IsAfter t edt (step.Ready payloads) old new = CanRun t edt payloads.items new
IsAfter t edt (step.Next wanted) old new = HoldsCore t edt new × IsWantedIf t edt wanted new
IsAfter t edt step.Parked old new = IsIdleClerk new × HasWaited old new edt

-- and all of them
abbrev pub IsAwoken : OcrTerms → ℕ → Woken → OcrKnown → OcrKnown → Type 0
IsAwoken t edt (woken.Ready payloads) old new = CanRun t edt payloads.items new
IsAwoken t edt woken.Parked old new = IsIdleClerk new × HasWaited old new edt
