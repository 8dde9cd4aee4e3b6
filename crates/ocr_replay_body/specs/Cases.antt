-- The case of one EDT in a journal, and how far its judge has come.
use Rattle.std.specs.Prelude.{◌≡◌, ◌≤◌, ◌<◌, ℕ, List, [], length, take, Option, Some, None, true, false}
use Rattle.ocr_acquire.specs.declared.Mode.{Mode}
use Rattle.ocr_body_code.specs.Checked.{checked_tree}
use Rattle.ocr_machine_history.specs.History.{own, history_of}
use Rattle.ocr_body_meaning.specs.Behaviour.{Asked}
use Rattle.ocr_body_meaning.specs.Body.{Body}
use Rattle.ocr_acquire.specs.Mode.{mode_in, is_isolated}
use Rattle.ocr_body_meaning.specs.Holds.{Holds}
use Rattle.ocr_program_tree.specs.Tree.{FunctionTree}
use Rattle.ocr_datablock.specs.Lent.{Loan}
use Rattle.ocr_machine_parts.specs.declared.loans.Kept.{Kept}
use Rattle.ocr_machine_parts.specs.Bodies.{hold_of, body_with}
use Rattle.ocr_machine_parts.specs.Kinds.{mode_on, kept_on}
use Rattle.ocr_machine_parts.specs.Loans.{kept_in}
use Rattle.ocr_machine_parts.specs.declared.part.Core.{Core}
use Rattle.ocr_machine_parts.specs.declared.part.Part.TheVariants as part
use Rattle.ocr_machine_history.specs.declared.entry.Entry.{Entry}
use Rattle.ocr_replay_body.specs.declared.links.Links.{Links}
use Rattle.ocr_replay_body.specs.declared.judge.Judge.{Judge}
use Rattle.ocr_replay_body.specs.Judge.{IsJudging, IsToldAs, at_place}
use Rattle.ocr_replay_body.specs.Links.{IsFollowing}

-- what the EDT holds at its start, by its core
abbrev pub core_holds : Core → Holds
core_holds c = λ d. hold_of (mode_on (part.Core c) d) (kept_on (part.Core c) d)

-- its body
abbrev pub case_body : List FunctionTree → Core → List ℕ → Body
case_body program c deps = body_with program c.function c.params deps (core_holds c)

-- in EW and CONST all words are there, and nothing was stored yet
pub record IsFreshLoan (m : Mode) (size : ℕ) (l : Loan) : Type 0 where
  pub size_is : length l.began ≡ size
  pub unwritten : l.writes ≡ []

abbrev pub IsFitLoan : Mode → ℕ → Option Loan → Type 0
IsFitLoan m size None = is_isolated m ≡ false
IsFitLoan m size (Some l) = is_isolated m ≡ true → IsFreshLoan m size l

abbrev pub IsFitHold : Option Mode → Option Kept → Type 0
IsFitHold (Some m) (Some kept) = IsFitLoan m kept.size kept.loan
IsFitHold m kept = Unit {0}

abbrev pub AreFit : List (ℕ × Mode) → List (ℕ × Kept) → Type 0
AreFit holds loans = (d : ℕ) → IsFitHold (mode_in d holds) (kept_in d loans)

abbrev pub IsFitCore : Core → Type 0
IsFitCore c = (d : ℕ) → IsFitHold (mode_on (part.Core c) d) (kept_on (part.Core c) d)

-- the holds at the start, by the modes and what is kept with each block
abbrev pub begun_holds : List (ℕ × Mode) → List (ℕ × Kept) → Holds
begun_holds holds loans = λ d. hold_of (mode_in d holds) (kept_in d loans)

abbrev pub judged_body : Judge → Body
judged_body j = case_body (checked_tree j.program.now) j.core.now j.deps.now

abbrev pub log_of : Judge → List Asked
log_of j = own (history_of (take j.place j.entries.now)) j.edt

-- the body made each entry so far, and the next entry of its EDT stands at `next`; where a call was
-- refused, the body makes no such entry, and what it says at the journal's end is told
pub record IsGoing (j : Judge) : Type 0 where
  pub judging : IsJudging (judged_body j) j.edt j.entries.now j.start j.place
      j.refusals
  pub following : IsFollowing j.edt j.entries.now j.links.now j.place j.next
  pub told : 0 < j.refusals → length j.entries.now ≤ j.next
      → IsToldAs (at_place (judged_body j) j.edt j.entries.now j.place) j.told

-- what it is of
abbrev pub kept_of : Judge → List Entry × ℕ × ℕ × Links
kept_of j = (j.entries.now, j.edt, j.start, j.links.now)

pub record KeepsJudge (old new : Judge) : Type 0 where
  pub going : IsGoing new
  pub body : judged_body new ≡ judged_body old
  pub kept : kept_of new ≡ kept_of old
  pub later : old.refusals ≤ new.refusals
