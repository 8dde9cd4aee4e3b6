-- What the tests ask of a clerk of the machine with one EDT.
use Rattle.std.specs.Prelude.{◌≡◌, ◌≤◌, ℕ, [], ◌∷◌, Some}
use Rattle.atomic_table.specs.Seated.{TableId}
use Rattle.ocr_turns_rule.specs.Contract.{IsOfTable, Known}
use Rattle.ocr_turns_rule.specs.Steps.{deed, logged}
use Rattle.ocr_turns_rule.specs.declared.view.Terms.{Terms}
use Rattle.ocr_tests_count.specs.Solo.{after, meaning}
use Rattle.ocr_tests_count.specs.declared.solo.Act.{Act}

abbrev pub SoloHand : Type 0
SoloHand = Known ℕ Act ℕ ℕ ℕ

-- a clerk that entered nothing, keeps nothing and has claimed nothing, with so many units to spare
pub record IsFree (t : TableId × Terms ℕ) (units : ℕ) (c : SoloHand) : Type 0 where
  pub table : IsOfTable t c
  pub limit : t.1.limit ≡ 2
  pub share : t.1.share ≡ 16
  pub hand : c.parts ≡ []
  pub parts : c.view.parts ≡ []
  pub claims : c.view.claims ≡ []
  pub weight : c.view.weight ≡ 0
  pub spares : c.view.spares ≡ units
  pub raised : c.view.raised ≡ 0
  pub ended : c.view.ended ≡ 0
  pub room : 1 ≤ c.spare

-- a clerk that has claimed the EDT and keeps its core, in such a state
pub record HasEdt (t : TableId × Terms ℕ) (state entries units : ℕ) (c : SoloHand) : Type 0 where
  pub table : IsOfTable t c
  pub limit : t.1.limit ≡ 2
  pub share : t.1.share ≡ 16
  pub hand : c.parts ≡ (3, Some state) ∷ []
  pub parts : c.view.parts ≡ (3, state) ∷ []
  pub claims : c.view.claims ≡ 1 ∷ []
  pub weight : c.view.weight ≡ entries
  pub spares : c.view.spares ≡ units
  pub ended : c.view.ended ≡ 0

-- the act was entered
pub record Entered (t : TableId × Terms ℕ) (e : Act) (old new : SoloHand) : Type 0 where
  pub number : ℕ
  pub table : new.table ≡ old.table
  pub view : new.view
      ≡ logged old.view number (deed meaning t.1.limit old.view e ((3, after e) ∷ []) [])
  pub hand : new.parts ≡ (3, Some (after e)) ∷ []

-- the clerk has no claim, so many units to spare, and did not end the run
pub record IsDone (t : TableId × Terms ℕ) (units : ℕ) (c : SoloHand) : Type 0 where
  pub table : IsOfTable t c
  pub limit : t.1.limit ≡ 2
  pub claims : c.view.claims ≡ []
  pub spares : c.view.spares ≡ units
  pub ended : c.view.ended ≡ 0
