-- What an EDT keeps with the blocks that it holds.
use Rattle.std.specs.Prelude.{◌≡◌, ◌<◌, ℕ, List, [], ◌∷◌, Bool, true, false, ◌==◌, if◌then◌else◌, length, Option, Some, None}
use Rattle.ocr_acquire.specs.declared.Mode.{Mode}
use Rattle.ocr_acquire.specs.declared.Mode.TheVariants.{Ew}
use Rattle.ocr_datablock.specs.Lent.{Loan, loan_of}
use Rattle.ocr_acquire.specs.Mode.{is_isolated}
use Rattle.ocr_machine_parts.specs.declared.loans.Kept.{Kept}

-- what is kept with a block, the newest first
abbrev pub kept_in : ℕ → List (ℕ × Kept) → Option Kept
kept_in d [] = None
kept_in d (one ∷ rest) = if one.0 == d then Some one.1 else kept_in d rest

abbrev pub without_kept : ℕ → List (ℕ × Kept) → List (ℕ × Kept)
without_kept d [] = []
without_kept d (one ∷ rest) = if one.0 == d then rest else one ∷ without_kept d rest

-- with something kept with a block, in place of what was kept with it: the newest
abbrev pub with_kept : ℕ → Kept → List (ℕ × Kept) → List (ℕ × Kept)
with_kept d kept loans = (d, kept) ∷ without_kept d loans

abbrev pub loan_in : Option Kept → Option Loan
loan_in None = None
loan_in (Some kept) = kept.loan

-- a word of a loan in EW, in which the EDT may store
abbrev pub IsStorable : Option Loan → ℕ → Type 0
IsStorable None word = ⊥
IsStorable (Some loan) word = (word < length loan.began) × (loan.mode ≡ Ew)

-- a step of the loan that is kept with a block
abbrev pub loan_after : (Loan → Loan) → Option Loan → Option Loan
loan_after step None = None
loan_after step (Some loan) = Some (step loan)

abbrev pub kept_after : (Loan → Loan) → Kept → Kept
kept_after step kept = record { size = kept.size; loan = loan_after step kept.loan }

abbrev pub with_loan : ℕ → (Loan → Loan) → List (ℕ × Kept) → List (ℕ × Kept)
with_loan d step [] = []
with_loan d step (one ∷ rest) =
    if one.0 == d then (one.0, kept_after step one.1) ∷ rest else one ∷ with_loan d step rest

-- what was stored in the loan is listed
abbrev pub IsListed : Option Loan → Type 0
IsListed None = Unit {0}
IsListed (Some loan) = loan.listed ≡ true

-- a block is held in EW or CONST
abbrev pub is_apart : Option Mode → Bool
is_apart None = false
is_apart (Some m) = is_isolated m

-- in EW and CONST an EDT has the words on loan, as they are
abbrev pub given_loan : Mode → List ℕ → Option Loan
given_loan m words = if is_isolated m then Some (loan_of m words []) else None

-- a block of so many words and with these words is held in a mode
abbrev pub kept_of : Mode → ℕ → List ℕ → Kept
kept_of m size words = record { size = size; loan = given_loan m words }

-- a block of so many words is held in RW, by its creator
abbrev pub kept_created : ℕ → Kept
kept_created size = record { size = size; loan = None }

-- SETTLED: without what was stored in the loans
abbrev pub settled_loan : Option Loan → Option Loan
settled_loan None = None
settled_loan (Some loan) = Some (loan_of loan.mode loan.began [])

abbrev pub settled_loans : List (ℕ × Kept) → List (ℕ × Kept)
settled_loans [] = []
settled_loans (one ∷ rest) =
    (one.0, record { size = one.1.size; loan = settled_loan one.1.loan }) ∷ settled_loans rest
