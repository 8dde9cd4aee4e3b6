-- A clerk's real lists and words are those of its view.
use Rattle.std.specs.Prelude.{◌≡◌, ◌≢◌, ℕ, ◌+◌, ◌*◌, ◌<◌, ◌≤◌, ◌⊎◌, false, List, [], Option, None, MatchOption}
use mathlib.Core.Option.{some}
use lib.ListN.{get_elem?}
use Rattle.atomic_table.specs.Table.{Me}
use Rattle.atomic_table.specs.Seated.{TableId}
use Rattle.ocr_base.specs.Mail.{same_name}
use Rattle.ocr_turns_rule.specs.Counts.{TURNS}
use Rattle.ocr_turns_rule.specs.Debts.{AreInRange}
use Rattle.ocr_turns_rule.specs.Rule.{OPEN}
use Rattle.ocr_turns_rule.specs.Steps.{limit_of}
use Rattle.ocr_turns_rule.specs.Sums.{keys, weigh, one_at}
use Rattle.ocr_turns_rule.specs.Units.{units}
use Rattle.ocr_turns_rule.specs.declared.view.View.{View}
use Rattle.ocr_turns_rule.specs.declared.view.Terms.{Terms}

pub record IsTrueTo {G E P N F : Type 0} (me : Me (Option P) (View G E P N F)) (log : List (ℕ × E))
    (joined : List (List (ℕ × E))) (parts : List (ℕ × Option P)) (owed : List (ℕ × ℕ × N))
    (weight : ℕ) (closed full : Option ℕ) (count : ℕ) : Type 0 where
  pub log_is : log ≡ me.0.log
  pub joined_are : joined ≡ me.0.joined
  pub keeps : keys parts ≡ keys me.0.parts
  pub owed_are : owed ≡ me.0.owed
  pub weight_is : weight ≡ me.0.weight
  pub closed_is : closed ≡ me.0.closed
  pub full_is : full ≡ me.0.full
  -- it counts its units; the root may count fewer, once clerks were joined into it
  pub fewer : count ≤ units me.0
  pub exact : me.0.seat ≡ 1 → count ≡ units me.0
  pub past_end : MatchOption closed (Unit {0}) (λ n. OPEN ≤ n)
  pub past_limit : MatchOption full (Unit {0}) (λ n. limit_of me.0.terms ≤ n)
  -- what it owes and has claimed is of EDTs of the table
  pub ranges : AreInRange (limit_of me.0.terms) me.0.debts me.0.claims
  -- it has no slot in hand, and is the root or another clerk that is out
  pub rests : (me.1 ≡ []) × (me.0.carried ≡ None)
  pub seat : ((me.0.root ≡ 1) × (me.0.seat ≡ 0)) ⊎ ((me.0.root ≡ 0) × (me.0.seat ≡ 1) ×
      (me.0.joined ≡ []))

-- the place first stands at i
pub record IsFirst {A : Type 0} (place : ℕ) (parts : List (ℕ × A)) (i : ℕ) : Type 0 where
  pub item : A
  pub here : get_elem? parts i ≡ some (place, item)
  pub first : (k p : ℕ) (x : A) → k < i → get_elem? parts k ≡ some (p, x) → place ≢ p

-- the table has a slot and a turn word for each place, and its real limit and share are those of
-- its terms
pub record IsLaidFor {G : Type 0} (id : TableId) (t : Terms G) (limit share : ℕ) : Type 0 where
  pub words : id.words ≡ TURNS + id.slots + 33 * t.limit
  pub slots : id.slots ≡ 2 * t.limit + 1
  pub limits : (2 ≤ t.limit) × (t.limit ≤ 65536)
  pub loads : t.share ≤ 16000000
  pub limit_is : limit ≡ t.limit
  pub share_is : share ≡ t.share

-- each number of the first list stands in the second
abbrev pub HasKeys : {A B : Type 0} → List (ℕ × A) → List (ℕ × B) → Type 0
HasKeys {A = A} cs xs = (k p : ℕ) (a : A) → get_elem? cs k ≡ some (p, a) → 1 ≤ weigh (one_at p) xs

-- the message of the name first stands at i
pub record IsFirstNamed {N : Type 0} (name : ℕ × ℕ) (owed : List (ℕ × ℕ × N)) (i : ℕ) : Type 0 where
  pub item : N
  pub here : get_elem? owed i ≡ some (name.0, name.1, item)
  pub first : (k : ℕ) (x : ℕ × ℕ × N) → k < i → get_elem? owed k ≡ some x → same_name name x ≡ false
