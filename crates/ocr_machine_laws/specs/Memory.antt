-- Who writes into a block, and that what an EDT finds there was written in holds that have ended.
use Rattle.std.specs.Prelude.{◌≡◌, ℕ, List, [], ◌∷◌, ◌++◌, Bool, true, false, ◌&&◌, ◌==◌, Option, Some, None}
use Rattle.ocr_acquire.specs.declared.Mode.{Mode}
use Rattle.ocr_acquire.specs.declared.Mode.TheVariants as mode
use Rattle.ocr_acquire.specs.Mode.{mode_in, is_isolated, is_writable}
use Rattle.ocr_body_meaning.specs.Holds.{is_done}
use Rattle.ocr_body_meaning.specs.declared.call.Call.TheVariants as call
use Rattle.ocr_machine_history.specs.declared.entry.Entry.{Entry}
use Rattle.ocr_machine_history.specs.declared.entry.Entry.TheVariants.{Call, Acquire, Free}
use Rattle.ocr_machine_history.specs.History.{History, Setting}
use Rattle.ocr_machine_parts.specs.Calls.{contents_of}
use Rattle.ocr_machine_parts.specs.Kinds.{is_block}
use Rattle.ocr_machine_parts.specs.Legal.{IsRun, IsLegal}
use Rattle.ocr_machine_parts.specs.Parts.{parts_of}
use Rattle.ocr_machine_laws.specs.Waits.{held_on}
use Rattle.ocr_machine_laws.specs.Permanence.{is_own}
use Rattle.ocr_machine_laws.specs.Plain.{next_planned}

-- the mode in which the EDT holds the block
abbrev pub hold_of : Setting → History → ℕ → ℕ → Option Mode
hold_of s past t d = mode_in d (held_on ((parts_of s past).core t))

-- it holds it for writing: in RW or EW
abbrev pub is_for_writing : Option Mode → Bool
is_for_writing None = false
is_for_writing (Some m) = is_writable m

-- THE ENTRY WRITES INTO THE BLOCK, whether or not that changes a word: an accepted store, or the
-- end of a hold that has private writes
abbrev pub are_some : List (ℕ × ℕ) → Bool
are_some [] = false
are_some (write ∷ rest) = true

abbrev pub writes_into : Entry → ℕ → Bool
writes_into (Call t home (call.Store b k v) a w) d = is_done a.code && (b == d)
writes_into (Call t home (call.DbRelease b) a w) d = (b == d) && are_some w
writes_into (Call t home (call.DbDestroy b) a w) d = (b == d) && are_some w
writes_into (Free t b w) d = (b == d) && are_some w
writes_into other d = false

-- A WRITE of an EDT is an own entry of it, made while it holds the block for writing. In EW it
-- ends the hold
pub record IsWrittenBy (s : Setting) (past : History) (e : Entry) (d u : ℕ) : Type 0 where
  pub own : is_own e u ≡ true
  pub for_writing : is_for_writing (hold_of s past u d) ≡ true
  pub whole : hold_of s past u d ≡ Some mode.Ew → hold_of s (e ∷ past) u d ≡ None

-- each entry that writes into the block is such a write, and each other one leaves the contents of
-- the block as they are. So they are the words with which the block was made, and what was written
-- by such entries since
abbrev pub WrittenLaw : Type 0
WrittenLaw = (s : Setting) (past : History) (e : Entry) (d : ℕ) → IsRun s past
    → IsLegal s past e → (writes_into e d ≡ true → (u : ℕ) × IsWrittenBy s past e d u)
    × (is_block ((parts_of s past).face d) ≡ true → writes_into e d ≡ false
    → contents_of s (e ∷ past) d ≡ contents_of s past d)

-- WHERE AN EDT ACQUIRES the block, it holds it after that in the mode of its plan
abbrev pub AcquiredLaw : Type 0
AcquiredLaw = (s : Setting) (past : History) (t d : ℕ) (m : Mode)
    → IsRun s (Acquire t d ∷ past) → next_planned s past t ≡ Some (d, m)
    → hold_of s (Acquire t d ∷ past) t d ≡ Some m

-- and where that is EW or CONST, no EDT holds it for writing when the entry comes
abbrev pub NoWriterLaw : Type 0
NoWriterLaw = (s : Setting) (past : History) (t d : ℕ) (m : Mode) (u : ℕ)
    → IsRun s (Acquire t d ∷ past) → hold_of s (Acquire t d ∷ past) t d ≡ Some m
    → is_isolated m ≡ true → is_for_writing (hold_of s past u d) ≡ false

-- so whoever wrote into it at any time before that holds it no more, by each of the writes
abbrev pub EndedLaw : Type 0
EndedLaw = (s : Setting) (later : History) (e : Entry) (earlier : History) (t d : ℕ) (m : Mode)
    → IsRun s (Acquire t d ∷ later ++ e ∷ earlier)
    → hold_of s (Acquire t d ∷ later ++ e ∷ earlier) t d ≡ Some m → is_isolated m ≡ true
    → writes_into e d ≡ true
    → (u : ℕ) × IsWrittenBy s earlier e d u × (hold_of s (later ++ e ∷ earlier) u d ≡ None)
