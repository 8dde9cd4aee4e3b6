-- What is asked of the parts of a run before an entry comes.
use Rattle.std.specs.Prelude.{◌≡◌, ℕ, Bool, true, false, ◌&&◌, ◌||◌, not, ◌==◌, Option, Some, None}
use Rattle.ocr_acquire.specs.declared.Mode.{Mode}
use Rattle.ocr_acquire.specs.Mode.{is_null}
use Rattle.ocr_datablock.specs.Block as block
use Rattle.ocr_edt.specs.declared.Edt.{Edt}
use Rattle.ocr_edt.specs.declared.Edt.TheVariants as phase
use Rattle.ocr_machine_history.specs.declared.entry.Entry.{Entry}
use Rattle.ocr_machine_history.specs.declared.entry.What.{What}
use Rattle.ocr_machine_history.specs.History.{History, Setting}
use Rattle.ocr_machine_parts.specs.declared.part.Part.{Part}
use Rattle.ocr_machine_parts.specs.declared.part.Part.TheVariants as part
use Rattle.ocr_guid.specs.declared.Code.{Code}
use Rattle.ocr_machine_parts.specs.Kinds.{is_held_by}
use Rattle.ocr_machine_parts.specs.LegalOn.{IsDeliverOn}
use Rattle.ocr_machine_parts.specs.Parts.{Parts}
use Rattle.ocr_machine_parts.specs.Legal.{IsOnParts, AreFacts}
use Rattle.ocr_machine_laws.specs.Waits.{is_gone_on}
use Rattle.ocr_machine_laws.specs.Quiet.{IsWakingOf}

-- an answer tells whether something is so
pub record Whether (answer : Bool) (P : Type 0) : Type 0 where
  pub yes : answer ≡ true → P
  pub no : answer ≡ false → P → ⊥

-- the entry may come, by the parts and by the facts
abbrev pub MayEnter : Setting → History → Entry → Type 0
MayEnter s past e = IsOnParts s past e × AreFacts s past e

-- and some entry takes the EDT on
abbrev pub MayGoOn : Setting → History → ℕ → Type 0
MayGoOn s past t = (e : Entry) × IsWakingOf t e × MayEnter s past e

-- A MESSAGE may be delivered, with some answer
abbrev pub IsDeliverable : Parts → What → Type 0
IsDeliverable f message = (c : Code) × IsDeliverOn f message c

-- THE EDT acquires, or does once it is made ready
abbrev pub begins_edt : Edt → Bool
begins_edt (phase.Filling i) = true
begins_edt (phase.Acquiring p) = true
begins_edt other = false

abbrev pub begins : Part → Bool
begins (part.Core c) = begins_edt c.edt
begins other = false

-- THE BLOCK has the EDT as a holder, or can be granted; or it can neither be granted nor is it gone
abbrev pub opens : Part → Mode → Bool
opens (part.Block st) m = not (is_null m) && block.is_grantable st m
opens other m = false

abbrev pub is_open : Part → ℕ → Mode → Bool
is_open x t m = is_held_by x t || opens x m

abbrev pub shuts : Part → Mode → Bool
shuts (part.Block st) m =
    not (is_null m) && (not (block.is_grantable st m) && not (block.is_gone st))
shuts other m = false

-- THE NEXT BLOCK of the EDT is this one, and is so
abbrev pub is_at : Option (ℕ × Mode) → ℕ → (Mode → Bool) → Bool
is_at None d test = false
is_at (Some next) d test = (next.0 == d) && test next.1

-- THE EDT goes on: it starts, acquires the next block or finds it gone, or waits for it
abbrev pub is_going : (ℕ → Part) → Part → ℕ → Option (ℕ × Mode) → Bool
is_going face core t None = begins core
is_going face core t (Some next) =
    is_open (face next.0) t next.1 || (is_gone_on (face next.0) || begins core)

-- the least block is this one
abbrev pub is_this : Option ℕ → ℕ → Bool
is_this None d = false
is_this (Some named) d = named == d
