-- What the loads and stores of a body come to.
use Rattle.std.specs.Prelude.{◌≡◌, ◌<◌, ◌⊎◌, ℕ, List, ◌∷◌, true, Option, Some, None, Result, Ok, Err, length, slice_index}
use Rattle.ocr_acquire.specs.declared.Mode.{Mode}
use Rattle.ocr_datablock.specs.Lent.{Loan}
use Rattle.ocr_body_meaning.specs.Holds.{Access, Entered, Holds, Refused, Silent, load_of, store_of}
use Rattle.ocr_acquire.specs.Mode.{is_isolated}
use Rattle.ocr_body_meaning.specs.declared.call.BodyStop.{BodyStop}
use Rattle.ocr_body_meaning.specs.declared.call.Call as body
use Rattle.ocr_body_meaning.specs.declared.call.Call.TheVariants as call
use Rattle.ocr_machine_parts.specs.declared.loans.Kept.{Kept}
use Rattle.ocr_machine_parts.specs.declared.part.Core.{Core}
use Rattle.ocr_machine_parts.specs.declared.part.Part.{Part}
use Rattle.ocr_machine_parts.specs.declared.part.Part.TheVariants as part
use Rattle.ocr_machine_parts.specs.Kinds.{IsBlock, mode_on, words_on}
use Rattle.ocr_machine_parts.specs.Loans.{kept_in}
use Rattle.ocr_worker_access.specs.declared.access.Found.{Found}
use Rattle.ocr_worker_access.specs.declared.access.Found.TheVariants as found
use Rattle.ocr_worker_access.specs.declared.access.Refusal.{Refusal}
use Rattle.ocr_worker_access.specs.declared.access.Refusal.TheVariants as refusal

-- the access that was found
abbrev pub access_of : Found → Access
access_of (found.Refused stop) = Refused stop
access_of (found.Silent value) = Silent value
access_of found.Entered = Entered

-- it is no fault
abbrev pub IfDone : Found → Type 0 → Type 0
IfDone (found.Refused stop) P = Unit {0}
IfDone other P = P

-- THE LOAN that an EDT keeps with a hold in EW or CONST has the hold's mode, and as many words as
-- the block
pub record IsLoanFor (m : Mode) (kept : Kept) : Type 0 where
  pub loan : Loan
  pub is : kept.loan ≡ Some loan
  pub mode : loan.mode ≡ m
  pub size : length loan.began ≡ kept.size

abbrev pub IsFit : Option Mode → Option Kept → Type 0
IsFit (Some m) (Some kept) = is_isolated m ≡ true → IsLoanFor m kept
IsFit m kept = Unit {0}

abbrev pub IsFitCore : Core → Type 0
IsFitCore core = (d : ℕ) → IsFit (mode_on (part.Core core) d) (kept_in d core.loans)

-- A REFUSAL is a fault, or tells that the run has ended
abbrev pub OnGoing : {A : Type 0} → Result A Refusal → Type 0 → Type 0
OnGoing (Ok v) P = P
OnGoing (Err (refusal.Fault stop)) P = P
OnGoing (Err (refusal.Over over)) P = Unit {0}

abbrev pub IfFault : {A : Type 0} → Result A Refusal → (BodyStop → Type 0) → Type 0
IfFault (Ok v) P = Unit {0}
IfFault (Err (refusal.Fault stop)) P = P stop
IfFault (Err (refusal.Over over)) P = Unit {0}

abbrev pub OnOver : {A : Type 0} → Result A Refusal → Type 0 → Type 0
OnOver (Ok v) P = Unit {0}
OnOver (Err (refusal.Fault stop)) P = Unit {0}
OnOver (Err (refusal.Over over)) P = P

-- THE FACE of a block that EDTs share stands behind the core
abbrev pub second_in : List (ℕ × Part) → Part
second_in (core ∷ face ∷ rest) = face.1
second_in other = part.Vacant

-- it has this word, and its words are not lent
abbrev pub HasWord : ℕ → Part → Type 0
HasWord word x = IsBlock x (λ st. (word < st.size) × (st.borrower ≡ None))

abbrev pub word_at : ℕ → Part → ℕ
word_at word x = slice_index (words_on x) word

-- a load of the word, or a store in it, is an entry
abbrev pub EntersIn : Holds → ℕ → ℕ → Type 0
EntersIn holds d word = (load_of (holds d) word ≡ Entered) ⊎ (store_of (holds d) word ≡ Entered)

-- the call is a load or a store of a word of the block that is an entry, and has this value
abbrev pub IsAccessOf : Holds → ℕ → body.Call → ℕ → Part → Type 0
IsAccessOf holds block (call.Load d word) value x =
    (d ≡ block) × (load_of (holds d) word ≡ Entered) × (value ≡ word_at word x)
IsAccessOf holds block (call.Store d word v) value x =
    (d ≡ block) × (store_of (holds d) word ≡ Entered) × (value ≡ 0)
IsAccessOf holds block other value x = ⊥
