-- What a machine means to its table, and the laws that this obeys.
use Rattle.std.specs.Prelude.{◌≡◌, ℕ, ◌+◌, ◌*◌, ◌≤◌, Bool, true, false, List, [], ◌∷◌, ◌++◌, length, take, Option, None}
use mathlib.Core.Option.{some}
use lib.ListN.{get_elem?}
use Rattle.ocr_turns_rule.specs.Sums.{made_sum, one_at, picked, sum_of, up_to}

-- what the words that count see of an entry
pub record Counting (G E P F : Type 0) : Type 1 where
  -- the EDT that it makes after a list, with its slot count; and the same from the parts kept
  pub creates : G → ℕ → List E → E → Option (ℕ × ℕ)
  pub counts : ℕ → E → List (ℕ × P) → Option (ℕ × ℕ)
  -- the slot that it sets: the EDT, the slot and the payload
  pub sets : E → Option (ℕ × ℕ × ℕ)
  -- the place of the part for which it lets an EDT wait
  pub waits : E → ℕ → Option ℕ
  -- the EDTs that it resumes, after a list; and the same from the parts kept
  pub resumes : G → ℕ → List E → E → List ℕ
  pub wakes : ℕ → E → List (ℕ × P) → List ℕ
  -- the fact that a slot is set to a payload
  pub is_set : ℕ → ℕ → ℕ → F

-- G settings, E entries, P parts, N messages, F standing facts. A history has its first entry
-- first.
pub record Meaning (G E P N F : Type 0) : Type 1 where
  -- the entry may come after the history
  pub legal : G → ℕ → List E → E → Type 0
  -- the part of a place after the history
  pub part : G → ℕ → List E → ℕ → P
  -- the part of a number that is not made
  pub vacant : P
  -- the fact stands after the history
  pub stands : G → ℕ → List E → F → Type 0
  pub heavy : E → ℕ
  -- the entry ends the run
  pub stops : E → Bool
  -- how often a place is among the entry's places
  pub touches : ℕ → E → ℕ → ℕ
  -- the messages that the entry sends after the history, and the one that it delivers
  pub sends : G → ℕ → List E → E → List N
  pub delivers : E → Option (ℕ × ℕ)
  -- a part as it is seen at its place, without what no entry tells yet
  pub seen : ℕ → ℕ → P → P
  -- the numbers that the entry makes, and how many are made at the opening
  pub makes : E → List ℕ
  pub opened : ℕ
  -- the EDT that is ready at the opening, with the payload of its one slot
  pub first : ℕ × ℕ
  -- the entry is one of the EDT's own, its first, its last; and where the EDT's core stands
  pub runs : E → ℕ → Bool
  pub starts : E → ℕ → Bool
  pub ends : E → ℕ → Bool
  pub core : ℕ → ℕ → ℕ
  -- the facts that a commit of the entry tells whoever keeps these parts
  pub learns : ℕ → E → List (ℕ × P) → List F
  pub counting : Counting G E P F

-- each entry is legal after the entries before it
abbrev pub Run : {E : Type 0} → (List E → E → Type 0) → List E → Type 0
Run legal J = (n : ℕ) (e : _) → get_elem? J n ≡ some e → legal (take n J) e

-- no entry ends the run
abbrev pub Open : {E : Type 0} → (E → Bool) → List E → Type 0
Open {E} stops J = (n : ℕ) (e : E) → get_elem? J n ≡ some e → stops e ≡ false

-- the last entry ends the run, and no other
pub record Ended {E : Type 0} (stops : E → Bool) (J : List E) : Type 0 where
  pub past : List E
  pub last : E
  pub whole : J ≡ past ++ last ∷ []
  pub stop : stops last ≡ true
  pub open_before : Open stops past

-- An entry that ends the run has no place, number, message or weight, and is no EDT's own.
pub record IsBare {G E P N F : Type 0} (m : Meaning G E P N F) (e : E) : Type 0 where
  pub delivers : m.delivers e ≡ None
  pub makes : m.makes e ≡ []
  pub touches : (limit p : ℕ) → m.touches limit e p ≡ 0
  pub runs : (t : ℕ) → m.runs e t ≡ false
  pub ends : (t : ℕ) → m.ends e t ≡ false
  pub sends : (g : G) (limit : ℕ) (J : List E) → m.sends g limit J e ≡ []
  pub weightless : m.heavy e ≡ 0
  pub creates : (g : G) (limit : ℕ) (J : List E) → m.counting.creates g limit J e ≡ None
  pub sets : m.counting.sets e ≡ None
  pub waits : (t : ℕ) → m.counting.waits e t ≡ None
  pub resumes : (g : G) (limit : ℕ) (J : List E) → m.counting.resumes g limit J e ≡ []

-- The places, told by how often each is among them, differ, are from 1 to twice the limit, and are
-- at most 40.
pub record ArePlaces (limit : ℕ) (at : ℕ → ℕ) : Type 0 where
  pub all : List ℕ
  pub those : (p : ℕ) → at p ≡ sum_of (one_at p) all
  pub differ : (p : ℕ) → at p ≤ 1
  pub range : (p : ℕ) → 1 ≤ at p → (1 ≤ p) × (p ≤ 2 * limit)
  pub few : length all ≤ 40

-- A number that the entry makes is made once, is from 1 to the limit, and was not made before.
pub record IsNewNumber {G E P N F : Type 0} (m : Meaning G E P N F) (limit : ℕ) (J : List E) (e : E)
    (n : ℕ) : Type 0 where
  pub once : sum_of (one_at n) (m.makes e) ≡ 1
  pub range : (1 ≤ n) × (n ≤ limit)
  pub unmade : up_to (one_at n) m.opened + made_sum m.makes (one_at n) J ≡ 0

pub record Lawful {G E P N F : Type 0} (m : Meaning G E P N F) : Type 0 where
  pub weighs : (e : E) → m.stops e ≡ false → 1 ≤ m.heavy e
  pub bare : (e : E) → m.stops e ≡ true → IsBare m e
  -- no later entry undoes a standing fact
  pub lasting : (g : G) (limit : ℕ) (J : List E) (e : E) (f : F) → Run (m.legal g limit) J
      → m.legal g limit J e → m.stands g limit J f → m.stands g limit (J ++ e ∷ []) f
  -- an entry changes its own places
  pub local : (g : G) (limit : ℕ) (J : List E) (e : E) (p : ℕ) → 2 ≤ limit → Run
      (m.legal g limit) J → m.legal g limit J e → m.touches limit e p ≡ 0 → m.part g limit
      (J ++ e ∷ []) p ≡ m.part g limit J p
  -- an entry of an EDT has the EDT's core among its places
  pub on_core : (g : G) (limit : ℕ) (J : List E) (e : E) (t : ℕ) → 2 ≤ limit → Run
      (m.legal g limit) J → m.legal g limit J e → m.runs e t ≡ true → 1 ≤ m.touches limit e
      (m.core limit t)
  -- an EDT has no entry of its own before its first
  pub first : (g : G) (limit : ℕ) (J : List E) (e : E) (t : ℕ) → Run (m.legal g limit) J
      → m.legal g limit J e → m.starts e t ≡ true → picked (λ x. m.runs x t) J ≡ []
  pub places : (g : G) (limit : ℕ) (J : List E) (e : E) → 2 ≤ limit → Run (m.legal g limit) J
      → m.legal g limit J e → ArePlaces limit (m.touches limit e)
  pub making : (g : G) (limit : ℕ) (J : List E) (e : E) (n : ℕ) → 2 ≤ limit → Run
      (m.legal g limit) J → m.legal g limit J e → 1 ≤ sum_of (one_at n) (m.makes e)
      → IsNewNumber m limit J e n
  pub starting : (e : E) (t : ℕ) → m.starts e t ≡ true → m.runs e t ≡ true
