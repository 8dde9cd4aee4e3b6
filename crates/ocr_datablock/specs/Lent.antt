-- The loan of a block's words to one EDT: the calls on it, what is told of them, and the steps of
-- its state.
use Rattle.std.specs.Prelude.{◌≡◌, ◌<◌, ℕ, List, [], ◌∷◌, Bool, true, false, ◌==◌, if◌then◌else◌, Option, Some, None, length, slice_index, unwrap_or}
use Rattle.ocr_acquire.specs.declared.Mode.{Mode}
use Rattle.ocr_acquire.specs.Writes.{put, value_at, written, IsRising}

-- THE CALLS on a loan. Lists of calls have the newest first.
pub data LoanCall : Type 0 where
  Store : (word value : ℕ) → LoanCall
  Listing : LoanCall

-- the last value that was stored in a word
abbrev pub last_stored : ℕ → List LoanCall → Option ℕ
last_stored k [] = None
last_stored k (Store word value ∷ past) = if word == k then Some value else last_stored k past
last_stored k (Listing ∷ past) = last_stored k past

-- the distinct words that were stored, rising, each with its last value
abbrev pub writes_of : List LoanCall → List (ℕ × ℕ)
writes_of [] = []
writes_of (Store word value ∷ past) = put word value (writes_of past)
writes_of (Listing ∷ past) = writes_of past

-- whether nothing was stored since the writes were last listed
abbrev pub are_listed : List LoanCall → Bool
are_listed [] = true
are_listed (Store word value ∷ past) = false
are_listed (Listing ∷ past) = true

-- THE STATE of a loan: its mode, the words with which it began, its private writes, and whether
-- these are listed.
pub record Loan : Type 0 where
  pub mode : Mode
  pub began : List ℕ
  pub writes : List (ℕ × ℕ)
  pub listed : Bool

abbrev pub loan_of : Mode → List ℕ → List LoanCall → Loan
loan_of m words calls = record {
  mode = m;
  began = words;
  writes = writes_of calls;
  listed = are_listed calls;
}

-- the words as they are now
abbrev pub words_in : Loan → List ℕ
words_in loan = written loan.writes loan.began

-- THE STEPS.
abbrev pub after_store : Loan → ℕ → ℕ → Loan
after_store loan word value =
    record {
      mode = loan.mode;
      began = loan.began;
      writes = put word value loan.writes;
      listed = false;
    }

abbrev pub after_list_writes : Loan → Loan
after_list_writes loan = record {
  mode = loan.mode;
  began = loan.began;
  writes = loan.writes;
  listed = true;
}

-- THE LAWS. The state after a call is the step of the state before it.
abbrev pub StoredLaw : Type 0
StoredLaw = (m : Mode) (words : List ℕ) (calls : List LoanCall) (word value : ℕ)
    → loan_of m words (Store word value ∷ calls) ≡ after_store (loan_of m words calls) word value

abbrev pub ListingLaw : Type 0
ListingLaw = (m : Mode) (words : List ℕ) (calls : List LoanCall)
    → loan_of m words (Listing ∷ calls) ≡ after_list_writes (loan_of m words calls)

-- The writes rise, and have for each word the last value that was stored in it, and nothing where
-- none was.
abbrev pub WritesLaw : Type 0
WritesLaw = (calls : List LoanCall)
    → IsRising (writes_of calls) × ((k : ℕ) → value_at k (writes_of calls) ≡ last_stored k calls)

-- A word of the loan is what was last stored in it, or what it was when the loan began.
abbrev pub WordLaw : Type 0
WordLaw = (m : Mode) (words : List ℕ) (calls : List LoanCall) (k : ℕ) → k < length words
    → slice_index (words_in (loan_of m words calls)) k
    ≡ unwrap_or (last_stored k calls) (slice_index words k)
