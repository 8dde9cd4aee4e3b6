-- What the tests ask of a clerk.
use Rattle.std.specs.Prelude.{◌≡◌, ◌≤◌, ◌+◌, ◌++◌, ◌∷◌, ℕ, List, [], length, Option}
use Rattle.atomic_table.specs.Seated.{TableId}
use Rattle.ocr_base.specs.Mail.{tally, without}
use Rattle.ocr_turns_rule.specs.Contract.{IsOfTable, Known}
use Rattle.ocr_turns_rule.specs.Meaning.{Run}
use Rattle.ocr_turns_rule.specs.Rule.{LogsOf}
use Rattle.ocr_turns_rule.specs.Sums.{below, weigh_all}
use Rattle.ocr_turns_rule.specs.Units.{one_each}
use Rattle.ocr_turns_rule.specs.declared.view.Terms.{Terms}
use Rattle.ocr_tests_turns.specs.declared.toy.Entry.{Entry}
use Rattle.ocr_tests_turns.specs.Toy.{legal}

-- a clerk of the toy
abbrev pub Hand : Type 0
Hand = Known ℕ Entry ℕ ℕ ℕ

-- the clerk is of the table, and not the root
abbrev pub IsOut : TableId × Terms ℕ → Hand → Type 0
IsOut t c = IsOfTable t c × (c.view.root ≡ 0)

-- the table has the places that the tests use; the clerk keeps nothing and has claimed nothing,
-- there is room for a part and for a last entry, and it has a unit to spare or owes a message
pub record IsIdle (t : TableId × Terms ℕ) (c : Hand) : Type 0 where
  pub limit : 2 ≤ t.1.limit
  pub out : IsOut t c
  pub hand : c.parts ≡ []
  pub parts : c.view.parts ≡ []
  pub claims : c.view.claims ≡ []
  pub spare : 1 ≤ c.spare
  pub room : 1 ≤ c.room
  pub pays : 1 ≤ c.view.spares + tally one_each c.view.owed
  pub raised : c.view.raised ≤ 4294967296

-- an entry of this number delivered so, sent so, and took one unit at most
pub record Adds (t : TableId × Terms ℕ) (n count : ℕ) (delivered : Option (ℕ × ℕ)) (old new : Hand)
    : Type 0 where
  pub idle : IsIdle t new
  pub spares : old.view.spares ≤ new.view.spares + 1
  pub owed : new.view.owed ≡ without delivered old.view.owed ++ (n, 0, count) ∷ []

-- the clerk is the root, with so many others out
pub record IsRoot (t : TableId × Terms ℕ) (c : Hand) (others : ℕ) : Type 0 where
  pub limit : 2 ≤ t.1.limit
  pub of : IsOfTable t c
  pub root : c.view.root ≡ 1
  pub out : c.view.out ≡ others

-- the clerk has one unit to spare, raised so many, and did not end the run
pub record HasUnit (c : Hand) (count : ℕ) : Type 0 where
  pub spares : c.view.spares ≡ 1
  pub raised : c.view.raised ≡ count
  pub goes : c.view.ended ≡ 0

-- the logs by number are a run of so many entries, each number once
pub record IsOneRun (entries : ℕ) (logs : List (List (ℕ × Entry))) : Type 0 where
  pub setting : ℕ
  pub limit : ℕ
  pub history : List Entry
  pub size : entries ≡ length history
  pub run : Run (legal setting limit) history
  pub of_run : LogsOf history logs
  pub once : (f : ℕ → ℕ) → weigh_all f logs ≡ below f (length history)
