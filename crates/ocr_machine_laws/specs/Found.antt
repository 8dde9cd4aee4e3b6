-- What an EDT finds in a block that it acquires in EW or CONST.
use Rattle.std.specs.Prelude.{◌≡◌, ℕ, List, [], ◌∷◌, true, false, ◌&&◌, ◌==◌, if◌then◌else◌, Some}
use Rattle.ocr_acquire.specs.declared.Mode.{Mode}
use Rattle.ocr_acquire.specs.Mode.{mode_in, is_isolated}
use Rattle.ocr_datablock.specs.Lent.{loan_of}
use Rattle.ocr_machine_history.specs.declared.entry.Entry.{Entry}
use Rattle.ocr_machine_history.specs.declared.entry.Entry.TheVariants.{Acquire}
use Rattle.ocr_machine_history.specs.History.{History, Setting}
use Rattle.ocr_machine_parts.specs.Calls.{contents_of}
use Rattle.ocr_machine_parts.specs.Parts.{parts_of}
use Rattle.ocr_machine_parts.specs.Kinds.{loan_on}
use Rattle.ocr_machine_parts.specs.Legal.{IsRun, IsLegal}
use Rattle.ocr_machine_laws.specs.Waits.{held_on}
use Rattle.ocr_machine_laws.specs.Permanence.{is_own}

-- the contents of the block before the EDT acquired it last
abbrev pub found : Setting → History → ℕ → ℕ → List ℕ
found s [] t d = []
found s (Acquire u b ∷ past) t d =
    if (u == t) && (b == d) then contents_of s past d else found s past t d
found s (e ∷ past) t d = found s past t d

-- as long as it holds the block, they are the words of its loan
abbrev pub FoundLaw : Type 0
FoundLaw = (s : Setting) (past : History) (t d : ℕ) (m : Mode) → IsRun s past
    → mode_in d (held_on ((parts_of s past).core t)) ≡ Some m → is_isolated m ≡ true
    → loan_on ((parts_of s past).core t) d ≡ Some (loan_of m (found s past t d) [])

-- and no entry of another EDT changes the block's contents
abbrev pub UnchangedLaw : Type 0
UnchangedLaw = (s : Setting) (past : History) (e : Entry) (t d : ℕ) (m : Mode) → IsRun s past
    → IsLegal s past e → mode_in d (held_on ((parts_of s past).core t)) ≡ Some m
    → is_isolated m ≡ true → is_own e t ≡ false
    → contents_of s (e ∷ past) d ≡ contents_of s past d
