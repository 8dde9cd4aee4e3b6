-- What the tests ask of a clerk.
use Rattle.std.specs.Prelude.{◌≡◌, ◌<◌, ◌≤◌, ◌+◌, ℕ, List, [], ◌∷◌, Some}
use mathlib.Core.Option.{some}
use lib.ListN.{get_elem?}
use Rattle.atomic_table.specs.Seated.{TableId}
use Rattle.ocr_turns_rule.specs.Contract.{IsOfTable, Known}
use Rattle.ocr_turns_rule.specs.Sums.{one_at, sum_of}
use Rattle.ocr_turns_rule.specs.declared.view.Terms.{Terms}
use Rattle.ocr_tests_count.specs.declared.toy.Entry.{Entry}

-- a clerk of the toy
abbrev pub Hand : Type 0
Hand = Known ℕ Entry ℕ ℕ (ℕ × ℕ × ℕ)

-- the clerk keeps nothing, has claimed nothing, and owes the countdown of these slots alone
pub record Owes (t : TableId × Terms ℕ) (owed : List (ℕ × ℕ × ℕ)) (c : Hand) : Type 0 where
  pub table : IsOfTable t c
  pub limit : t.1.limit ≡ 2
  pub hand : c.parts ≡ []
  pub parts : c.view.parts ≡ []
  pub claims : c.view.claims ≡ []
  pub unput : c.view.debts.unput ≡ []
  pub put : c.view.debts.put ≡ owed
  pub made : c.view.debts.made ≡ []
  pub spare : 2 ≤ c.spare

abbrev pub IsIdle : TableId × Terms ℕ → Hand → Type 0
IsIdle t c = Owes t [] c

-- a clerk that was idle has drawn the EDT's number and keeps the parts of its slots, unmade
pub record CanMake (t : TableId × Terms ℕ) (old new : Hand) : Type 0 where
  pub table : IsOfTable t new
  pub drawn : 1 ≤ sum_of (one_at 2) new.view.drawn
  pub hand : new.parts ≡ (3, Some 0) ∷ (4, Some 0) ∷ []
  pub parts : new.view.parts ≡ (3, 0) ∷ (4, 0) ∷ []
  pub claims : new.view.claims ≡ []
  pub debts : new.view.debts ≡ old.view.debts
  pub facts : new.view.facts ≡ old.view.facts
  pub weight : new.view.weight ≡ old.view.weight
  pub root : (new.view.root ≡ old.view.root) × (new.view.quota ≡ old.view.quota)
  pub units : (new.view.spares ≡ old.view.spares) × (new.view.ended ≡ old.view.ended)
  pub room : (new.room ≡ old.room) × (new.spare + 2 ≡ old.spare) × (new.space ≡ old.space)

-- an idle clerk that may set the slot, with a unit to spare for it
pub record CanSet (t : TableId × Terms ℕ) (k : ℕ) (c : Hand) : Type 0 where
  pub idle : IsIdle t c
  pub light : c.view.weight + 1 ≤ t.1.share
  pub slot : k < 2
  pub unit : 1 ≤ c.view.spares

-- a clerk that has claimed the EDT, knows its payloads, and keeps nothing
pub record CanWait (t : TableId × Terms ℕ) (x y : ℕ) (c : Hand) : Type 0 where
  pub table : IsOfTable t c
  pub limit : t.1.limit ≡ 2
  pub hand : c.parts ≡ []
  pub parts : c.view.parts ≡ []
  pub claims : c.view.claims ≡ 2 ∷ []
  pub zeroth : get_elem? c.view.facts 0 ≡ some (2, 0, x)
  pub first : get_elem? c.view.facts 1 ≡ some (2, 1, y)
  pub spare : 1 ≤ c.spare
  pub light : c.view.weight + 2 ≤ t.1.share

-- a clerk that let the EDT wait, and has parked it, with a unit to spare
pub record CanWake (t : TableId × Terms ℕ) (c : Hand) : Type 0 where
  pub table : IsOfTable t c
  pub limit : t.1.limit ≡ 2
  pub hand : c.parts ≡ (2, Some 1) ∷ []
  pub parts : c.view.parts ≡ (2, 1) ∷ []
  pub claims : c.view.claims ≡ []
  pub light : c.view.weight + 1 ≤ t.1.share
  pub unit : 1 ≤ c.view.spares
