-- How an EDT goes on until it can run.
use Rattle.std.specs.Prelude.{◌≡◌, ◌≢◌, ◌+◌, ◌++◌, ℕ, List, [], ◌∷◌, Bool, true, false, Some, length}
use mathlib.Core.Option.{some}
use lib.ListN.{get_elem?}
use Rattle.ocr_acquire.specs.declared.Mode.{Mode}
use Rattle.ocr_datablock.specs.Block as block
use Rattle.ocr_worker_machine.specs.Clerks.{OcrTerms, OcrView}
use Rattle.ocr_worker_machine.specs.declared.fact.Fact.{Fact}
use Rattle.ocr_machine_history.specs.declared.entry.Entry.{Entry}
use Rattle.ocr_machine_history.specs.declared.entry.Entry.TheVariants as an
use Rattle.ocr_machine_parts.specs.declared.part.Core.{Core}
use Rattle.ocr_machine_parts.specs.declared.part.Part.{Part}
use Rattle.ocr_machine_parts.specs.declared.part.Part.TheVariants as part
use Rattle.ocr_machine_parts.specs.Kinds.{is_acquiring_edt, next_in, progress_in}
use Rattle.ocr_machine_parts.specs.LegalOn.{IsRefused, IsTaken}
use Rattle.ocr_machine_parts.specs.Taken.{is_within}
use Rattle.ocr_slots.specs.declared.Slot.{Slot}
use Rattle.ocr_machine_parts.specs.Readiness.{plan_from, ready_with}
use Rattle.ocr_turns_rule.specs.Sums.{as_some, keys}
use Rattle.ocr_worker_clerk.specs.Entry.{PlannedParts, OcrKnown}
use Rattle.ocr_worker_clerk.specs.Work.{KnowsPayloads}
use Rattle.ocr_worker_acquisition.specs.declared.act.Act.{Act}
use Rattle.ocr_worker_acquisition.specs.declared.act.Act.TheVariants as act

-- the view keeps the face of an EDT with so many slots
pub record KeepsFace (v : OcrView) (edt count : ℕ) : Type 0 where
  pub place : ℕ
  pub slots : List Slot
  pub kept : get_elem? v.parts place ≡ some (edt, part.Edt slots)
  pub count_is : length slots ≡ count

-- the view learnt facts, and is else the same
pub record Learns (old new : OcrView) : Type 0 where
  pub more : List Fact
  pub view : new ≡ record old { facts = old.facts ++ more }

-- what the block lets an EDT do that wants it in this mode
abbrev pub IsLet : Act → ℕ → Mode → block.State → Type 0
IsLet act.Acquire t m st = IsTaken t m st
IsLet act.Pass t m st = block.is_gone st ≡ true
IsLet act.Wait t m st = IsRefused t m st

-- it lets it do something
abbrev pub LetsAny : ℕ → Mode → block.State → Type 0
LetsAny t m st = (a : Act) × IsLet a t m st

abbrev pub entry_by : Act → ℕ → ℕ → Entry
entry_by act.Acquire t d = an.Acquire t d
entry_by act.Pass t d = an.StaleAcquire t d
entry_by act.Wait t d = an.Wait t d

-- only an EDT that acquires may be let wait
abbrev pub IsAble : Act → Core → Type 0
IsAble act.Wait c = is_acquiring_edt c.edt ≡ true
IsAble other c = Unit {0}

-- the faces of an EDT and of a block, in the order in which they were taken
abbrev pub two_faces : Bool → ℕ → ℕ → List Slot → block.State → List (ℕ × Part)
two_faces true t d slots st = (d, part.Block st) ∷ (t, part.Edt slots) ∷ []
two_faces false t d slots st = (t, part.Edt slots) ∷ (d, part.Block st) ∷ []

-- The worker keeps the EDT's core, its face and the block that comes next in its plan, all at hand,
-- the core made ready with the payloads of its slots, which it knows; and the block lets it do
-- this.
pub record Meets (t : OcrTerms) (edt d : ℕ) (a : Act) (payloads places : List ℕ) (h : PlannedParts)
    (c : OcrKnown) : Type 0 where
  pub first : Bool
  pub core : Core
  pub slots : List Slot
  pub state : block.State
  pub mode : Mode
  pub kept : c.view.parts ≡ (t.limit + edt, part.Core core) ∷ two_faces first edt d slots state
  pub hand : c.parts ≡ (t.limit + edt, Some (part.Core (ready_with slots payloads core))) ∷
      as_some (two_faces first edt d slots state)
  pub before : h ≡ record { members = plan_from slots payloads; parts = c.view.parts }
  pub places_are : keys c.view.parts ≡ places
  pub inside : is_within t.limit d ≡ true
  pub apart : edt ≢ d
  pub count : length payloads ≡ length slots
  pub facts : KnowsPayloads c.view edt payloads
  pub next : next_in (progress_in (ready_with slots payloads core).edt) ≡ Some (d, mode)
  pub lets : IsLet a edt mode state
  pub able : IsAble a (ready_with slots payloads core)
