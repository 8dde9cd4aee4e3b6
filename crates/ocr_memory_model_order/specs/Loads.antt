-- LOADS where there is no race: each gives the last write to its word that happens before it, or
-- the word with which the block began.
use Rattle.std.specs.Prelude.{◌≡◌, ◌≤◌, ◌<◌, ◌⊎◌, ℕ, List, [], ◌∷◌, Bool, true, false, ◌||◌, ◌&&◌, ◌==◌, if◌then◌else◌, length, slice_index, Option, Some, None}
use Rattle.ocr_acquire.specs.declared.Mode.{Mode}
use Rattle.ocr_acquire.specs.Mode.{is_exclusive}
use Rattle.ocr_body_meaning.specs.Holds.{is_done}
use Rattle.ocr_body_meaning.specs.declared.call.Call.TheVariants as call
use Rattle.ocr_body_meaning.specs.declared.call.Answer.{Answer}
use Rattle.ocr_machine_history.specs.declared.entry.Entry.{Entry}
use Rattle.ocr_machine_history.specs.declared.entry.Entry.TheVariants.{Call, Free}
use Rattle.ocr_machine_history.specs.History.{History, Setting}
use Rattle.ocr_machine_parts.specs.Calls.{contents_of}
use Rattle.ocr_machine_parts.specs.Legal.{IsRun}
use Rattle.ocr_memory_model_order.specs.Pairs.{HappensBefore, ended_mode}
use Rattle.ocr_memory_model_order.specs.Places.{entry_at, is_at}
use Rattle.ocr_memory_model_order.specs.Races.{IsRace, is_store_in}

abbrev pub IsRaceFree : Setting → History → Type 0
IsRaceFree s J = (d w t u : ℕ) → IsRace s J d w t u → ⊥

-- A WRITE to a word: an entered store, or the private writes with which a hold in EW ends
abbrev pub is_store : (d w : ℕ) → Entry → Bool
is_store d w (Call u home c a writes) = is_done a.code && is_store_in c d w
is_store d w other = false

abbrev pub names_word : ℕ → List (ℕ × ℕ) → Bool
names_word w [] = false
names_word w (one ∷ rest) = (one.0 == w) || names_word w rest

abbrev pub writes_in : Entry → List (ℕ × ℕ)
writes_in (Call u home c a writes) = writes
writes_in (Free u b writes) = writes
writes_in other = []

abbrev pub is_exclusive_in : Option Mode → Bool
is_exclusive_in None = false
is_exclusive_in (Some m) = is_exclusive m

abbrev pub is_back : Setting → (d w : ℕ) → History → Entry → Bool
is_back s d w past e = is_exclusive_in (ended_mode s d past e) && names_word w (writes_in e)

abbrev pub writes : Setting → (d w : ℕ) → History → Entry → Bool
writes s d w past e = is_store d w e || is_back s d w past e

-- each write to a word before an entered load of it happens before the load
abbrev pub WritesBeforeLaw : Type 0
WritesBeforeLaw = (s : Setting) (J : History) (n b t home d w : ℕ) (a : Answer)
    (private : List (ℕ × ℕ)) → IsRun s J → IsRaceFree s J
    → entry_at J b ≡ Some (Call t home (call.Load d w) a private) → is_done a.code ≡ true
    → n < b → is_at (writes s d w) J n ≡ true → HappensBefore s J n b

-- THE LAST WRITE to a word before an entered load, by the order, and the word after it
pub record LastWrite (s : Setting) (J : History) (d w n b : ℕ) : Type 0 where
  pub write : is_at (writes s d w) J n ≡ true
  pub earlier : HappensBefore s J n b
  pub last : (m : ℕ) → is_at (writes s d w) J m ≡ true → HappensBefore s J m b → m ≤ n

abbrev pub through : History → ℕ → History
through [] n = []
through (e ∷ past) n = if n == length past then e ∷ past else through past n

abbrev pub word_after : Setting → History → (d w n : ℕ) → ℕ
word_after s J d w n = slice_index (contents_of s (through J n) d) w

-- the word with which the block began: one of the arguments, or 0
abbrev pub first_word : Setting → (d w : ℕ) → ℕ
first_word s d w = slice_index (contents_of s [] d) w

abbrev pub NoWrite : Setting → History → (d w b : ℕ) → Type 0
NoWrite s J d w b = (m : ℕ) → is_at (writes s d w) J m ≡ true → HappensBefore s J m b → ⊥

-- THE LAW
abbrev pub LoadedLaw : Type 0
LoadedLaw = (s : Setting) (J : History) (b t home d w : ℕ) (a : Answer)
    (private : List (ℕ × ℕ)) → IsRun s J → IsRaceFree s J
    → entry_at J b ≡ Some (Call t home (call.Load d w) a private) → is_done a.code ≡ true
    → ((n : ℕ) × LastWrite s J d w n b × (a.value ≡ word_after s J d w n))
    ⊎ (NoWrite s J d w b × (a.value ≡ first_word s d w))
