-- What an EDT holds, and what its blocks tell of it.
use Rattle.std.specs.Prelude.{◌≡◌, ℕ, List, [], ◌∷◌, true, false, Option, Some, None, length}
use Rattle.ocr_acquire.specs.declared.Mode.{Mode}
use Rattle.ocr_acquire.specs.Mode.{is_exclusive, mode_in, is_isolated}
use Rattle.ocr_datablock.specs.Block as block
use Rattle.ocr_datablock.specs.Lent.{Loan, loan_of}
use Rattle.ocr_machine_history.specs.History.{History, Setting}
use Rattle.ocr_machine_parts.specs.declared.loans.Kept.{Kept}
use Rattle.ocr_machine_parts.specs.declared.part.Part.{Part}
use Rattle.ocr_machine_parts.specs.declared.part.Part.TheVariants as part
use Rattle.ocr_machine_parts.specs.Loans.{kept_in}
use Rattle.ocr_machine_parts.specs.Calls.{is_number}
use Rattle.ocr_machine_parts.specs.Parts.{Parts, parts_of}
use Rattle.ocr_machine_parts.specs.Kinds.{IsBlock, is_held_by, is_running, mode_on, kept_on}
use Rattle.ocr_machine_parts.specs.LegalOn.{IsEnding}
use Rattle.ocr_machine_parts.specs.Legal.{IsRun}
use Rattle.ocr_machine_laws.specs.Waits.{held_on}

-- a loan of the hold's mode, with as many words as the block, where nothing was stored yet; in EW
-- the block gave its words out
pub record IsLoanOf (t : ℕ) (m : Mode) (l : Loan) (st : block.State) : Type 0 where
  pub fresh : l ≡ loan_of m l.began []
  pub isolated : is_isolated m ≡ true
  pub lent : is_number t st.borrower ≡ is_exclusive m
  pub size : length l.began ≡ st.size

-- in another mode there is no loan
pub record IsUnlent (t : ℕ) (m : Mode) (st : block.State) : Type 0 where
  pub shared : is_isolated m ≡ false
  pub not_lent : is_number t st.borrower ≡ false

abbrev pub IsLoanKept : ℕ → Mode → Option Loan → block.State → Type 0
IsLoanKept t m None st = IsUnlent t m st
IsLoanKept t m (Some l) st = IsLoanOf t m l st

-- the block has the EDT as a holder in the mode of its hold, and what the EDT keeps is the block's
-- length and its loan
pub record IsKeptWith (t : ℕ) (m : Mode) (kept : Kept) (st : block.State) : Type 0 where
  pub holder : mode_in t st.holders ≡ Some m
  pub size : kept.size ≡ st.size
  pub loan : IsLoanKept t m kept.loan st

-- an EDT keeps something with what it holds, and with nothing else
abbrev pub IsHeldSo : ℕ → Part → Option Mode → Option Kept → Type 0
IsHeldSo t x None None = Unit {0}
IsHeldSo t x (Some m) (Some kept) = IsBlock x (IsKeptWith t m kept)
IsHeldSo t x m kept = ⊥

abbrev pub loans_on : Part → List (ℕ × Kept)
loans_on (part.Core c) = c.loans
loans_on other = []

abbrev pub AreKeptOnce : List (ℕ × Kept) → Type 0
AreKeptOnce [] = Unit {0}
AreKeptOnce (one ∷ rest) = (kept_in one.0 rest ≡ None) × AreKeptOnce rest

pub record AreHeld (f : Parts) : Type 0 where
  pub so : (t d : ℕ) → IsHeldSo t (f.face d) (mode_in d (held_on (f.core t))) (kept_on (f.core t) d)
  pub once : (t : ℕ) → AreKeptOnce (loans_on (f.core t))

-- THE LAWS. What the EDTs hold is told by their cores and their blocks alike
abbrev pub HoldingLaw : Type 0
HoldingLaw = (s : Setting) (past : History) → IsRun s past → AreHeld (parts_of s past)

-- a running EDT that stands among a block's holders may give it back
abbrev pub HeldLaw : Type 0
HeldLaw = (s : Setting) (past : History) (t d : ℕ) → IsRun s past
    → is_running ((parts_of s past).core t) ≡ true
    → is_held_by ((parts_of s past).face d) t ≡ true → IsEnding (parts_of s past) t d

-- and it keeps with each hold in EW and CONST a loan of as many words as the block has
pub record IsFitting (m : Mode) (kept : Kept) (words : List ℕ) : Type 0 where
  pub loan : kept.loan ≡ Some (loan_of m words [])
  pub size : length words ≡ kept.size

pub record KeepsFor (x : Part) (d : ℕ) (m : Mode) (kept : Kept) : Type 0 where
  pub is_kept : kept_on x d ≡ Some kept
  pub isolated : is_isolated m ≡ true → (words : List ℕ) × IsFitting m kept words

abbrev pub KeptFitsLaw : Type 0
KeptFitsLaw = (s : Setting) (past : History) (t d : ℕ) (m : Mode) → IsRun s past
    → mode_on ((parts_of s past).core t) d ≡ Some m
    → (kept : Kept) × KeepsFor ((parts_of s past).core t) d m kept
