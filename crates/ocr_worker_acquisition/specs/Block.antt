-- What a worker keeps as its EDT meets a block.
use Rattle.std.specs.Prelude.{◌≡◌, ◌≢◌, ◌+◌, ℕ, List, [], ◌∷◌, ◌==◌, if◌then◌else◌, Bool, true, false, Option, Some, None, length}
use mathlib.Core.Option.{some}
use lib.ListN.{get_elem?}
use Rattle.ocr_acquire.specs.declared.Mode.{Mode}
use Rattle.ocr_datablock.specs.Block as block
use Rattle.ocr_edt.specs.Phases.{Progress, next_of}
use Rattle.ocr_worker_machine.specs.Clerks.{OcrTerms, OcrView}
use Rattle.ocr_worker_machine.specs.Ocr.{starts}
use Rattle.ocr_machine_history.specs.declared.entry.Entry.{Entry}
use Rattle.ocr_machine_parts.specs.declared.part.Core.{Core}
use Rattle.ocr_machine_parts.specs.declared.part.Part.{Part}
use Rattle.ocr_machine_parts.specs.declared.part.Part.TheVariants as part
use Rattle.ocr_machine_parts.specs.Kinds.{IsBlock, next_in, progress_in}
use Rattle.ocr_machine_parts.specs.Taken.{is_within}
use Rattle.ocr_machine_laws.specs.Waits.{awaits_in}
use Rattle.ocr_slots.specs.declared.Slot.{Slot}
use Rattle.ocr_machine_parts.specs.Readiness.{plan_from, ready_with}
use Rattle.ocr_machine_laws.specs.Permanence.{is_own}
use Rattle.ocr_turns_rule.specs.Sums.{as_some, entries, is_among}
use Rattle.ocr_worker_clerk.specs.Entry.{PlannedParts, OcrKnown}
use Rattle.ocr_worker_clerk.specs.Work.{HasTakenOn, KnowsPayloads}
use Rattle.ocr_worker_acquisition.specs.Acquisition.{IsAble, IsLet}
use Rattle.ocr_worker_acquisition.specs.declared.act.Act.{Act}

-- no log that was joined into the view has the EDT's first entry
abbrev pub IsUnbegun : OcrView → ℕ → Type 0
IsUnbegun v edt = (j : ℕ) (l : List (ℕ × Entry)) → get_elem? v.joined j ≡ some l
    → is_among (λ e. starts e edt) (entries l) ≡ false

-- an object of the table other than the EDT
abbrev pub IsOtherObject : OcrTerms → ℕ → ℕ → Type 0
IsOtherObject t edt d = (is_within t.limit d ≡ true) × (edt ≢ d)

-- The worker has taken on the EDT and keeps its core alone, at hand as it is kept. The EDT has made
-- no entry of its own, and what it acquires next is another object.
pub record HoldsCore (t : OcrTerms) (edt : ℕ) (c : OcrKnown) : Type 0 where
  pub taken : HasTakenOn t edt c
  pub unstarted : is_among (λ e. is_own e edt) (entries c.view.log) ≡ false
  -- nor does its start stand in a log that was joined
  pub unbegun : IsUnbegun c.view edt
  pub core : Core
  pub kept : c.view.parts ≡ (t.limit + edt, part.Core core) ∷ []
  pub hand : c.parts ≡ (t.limit + edt, Some (part.Core core)) ∷ []
  pub next : (d : ℕ) (m : Mode) → next_in (progress_in core.edt) ≡ Some (d, m)
      → IsOtherObject t edt d

-- the parts of two numbers, the second one first where this says so
abbrev pub pair_of : Bool → ℕ → ℕ → Part → Part → List (ℕ × Part)
pair_of true t d x y = (d, y) ∷ (t, x) ∷ []
pair_of false t d x y = (t, x) ∷ (d, y) ∷ []

-- and besides the parts of two numbers
pub record HasThree (t : OcrTerms) (edt d : ℕ) (first : Bool) (c : OcrKnown) : Type 0 where
  pub taken : HasTakenOn t edt c
  pub unstarted : is_among (λ e. is_own e edt) (entries c.view.log) ≡ false
  pub core : Core
  pub face : Part
  pub other : Part
  pub kept : c.view.parts ≡ (t.limit + edt, part.Core core) ∷ pair_of first edt d face other
  pub hand : c.parts ≡ (t.limit + edt, Some (part.Core core)) ∷
      as_some (pair_of first edt d face other)

-- the face is that of an EDT with as many slots as there are payloads, which it knows
pub record KnowsThree (t : OcrTerms) (edt d : ℕ) (first : Bool) (payloads : List ℕ) (c : OcrKnown)
    : Type 0 where
  pub three : HasThree t edt d first c
  pub slots : List Slot
  pub face_is : three.face ≡ part.Edt slots
  pub count : length payloads ≡ length slots
  pub facts : KnowsPayloads c.view edt payloads

-- by these three parts and these payloads the EDT may do this
pub record MayAct (core face other : Part) (edt d : ℕ) (payloads : List ℕ) (a : Act) : Type 0 where
  pub item : Core
  pub slots : List Slot
  pub state : block.State
  pub mode : Mode
  pub core_is : core ≡ part.Core item
  pub face_is : face ≡ part.Edt slots
  pub other_is : other ≡ part.Block state
  pub next : next_in (progress_in (ready_with slots payloads item).edt) ≡ Some (d, mode)
  pub lets : IsLet a edt mode state
  pub able : IsAble a (ready_with slots payloads item)

-- the block that an EDT acquires next, by its core and its slots, set to these payloads
abbrev pub next_by : Core → List Slot → List ℕ → Option (ℕ × Mode)
next_by core slots payloads = next_in (progress_in (ready_with slots payloads core).edt)

-- the mode in which this block is wanted, where it comes next
abbrev pub mode_at : ℕ → Option (ℕ × Mode) → Option Mode
mode_at d None = None
mode_at d (Some x) = if x.0 == d then Some x.1 else None

-- another block comes next, or none
abbrev pub IsOther : Core → List Slot → List ℕ → ℕ → Type 0
IsOther core slots payloads d = (m : Mode) → next_by core slots payloads ≢ Some (d, m)

-- the block lets an EDT with this core do something that wants it in this mode
pub record LetsSome (edt : ℕ) (m : Mode) (core : Core) (st : block.State) : Type 0 where
  pub act : Act
  pub lets : IsLet act edt m st
  pub able : IsAble act core

-- These are the core and the face of an EDT with as many slots as there are payloads. Where this
-- block comes next, it is there and lets the EDT do something.
pub record StandsAtNext (core face other : Part) (edt d : ℕ) (payloads : List ℕ) : Type 0 where
  pub item : Core
  pub slots : List Slot
  pub core_is : core ≡ part.Core item
  pub face_is : face ≡ part.Edt slots
  pub count : length payloads ≡ length slots
  pub lets : (m : Mode) → next_by item slots payloads ≡ Some (d, m)
      → IsBlock other (LetsSome edt m (ready_with slots payloads item))

-- by these parts another block comes next
pub record MeetsOther (core face : Part) (d : ℕ) (payloads : List ℕ) : Type 0 where
  pub item : Core
  pub slots : List Slot
  pub core_is : core ≡ part.Core item
  pub face_is : face ≡ part.Edt slots
  pub other : IsOther item slots payloads d

-- the EDT may do this by what the worker keeps
pub record CanAct (t : OcrTerms) (edt d : ℕ) (first : Bool) (payloads : List ℕ) (a : Act)
    (c : OcrKnown) : Type 0 where
  pub knows : KnowsThree t edt d first payloads c
  pub may : MayAct (part.Core knows.three.core) knows.three.face knows.three.other edt d payloads a

-- and the entry takes the parts that the worker keeps, the EDT made ready with its plan
pub record CarriesOut (t : OcrTerms) (edt d : ℕ) (first : Bool) (payloads : List ℕ) (a : Act)
    (h : PlannedParts) (c : OcrKnown) : Type 0 where
  pub can : CanAct t edt d first payloads a c
  pub hand : h ≡ record { members = plan_from can.knows.slots payloads; parts = c.view.parts }

-- An EDT that acquires or waits already has this block as its next, as the core tells that is kept
-- first.
pub record WantsNext (t : OcrTerms) (edt d : ℕ) (c : OcrKnown) : Type 0 where
  pub core : Core
  pub rest : List (ℕ × Part)
  pub kept : c.view.parts ≡ (t.limit + edt, part.Core core) ∷ rest
  pub next : (p : Progress) → progress_in core.edt ≡ Some p
      → (m : Mode) × (next_of p ≡ Some (d, m))

-- another block comes next by what the worker keeps, and the EDT does not wait
pub record WantsOther (t : OcrTerms) (edt d : ℕ) (first : Bool) (payloads : List ℕ) (c : OcrKnown)
    : Type 0 where
  pub knows : KnowsThree t edt d first payloads c
  pub other : IsOther knows.three.core knows.slots payloads d
  pub awake : awaits_in knows.three.core.edt ≡ None
