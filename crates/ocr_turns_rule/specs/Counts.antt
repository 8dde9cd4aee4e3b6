-- The second rule of the table: the words that count an EDT's open slots.
use Rattle.std.specs.Prelude.{◌≡◌, ℕ, ◌+◌, ◌-◌, ◌*◌, ◌<◌, ◌≤◌, ◌⊎◌, ◌==◌, ◌&&◌, ◌||◌, reverse, Bool, true, false, if◌then◌else◌, List, [], ◌∷◌, length, slice_index, Option, Some, None}
use mathlib.Core.Option.{some}
use lib.ListN.{get_elem?}
use Rattle.atomic_table.specs.Table.{State}
use Rattle.ocr_base.specs.Mail.{tally}
use Rattle.ocr_turns_rule.specs.Meaning.{Meaning, Run}
use Rattle.ocr_turns_rule.specs.Debts.{listed, times, of_edt, of_slot, owed_slots, making, no_debts}
use Rattle.ocr_turns_rule.specs.Sums.{total, weigh, below, one_at, sum_of, up_to, made_sum, is_among, is_free, entries}
use Rattle.ocr_turns_rule.specs.declared.debts.Debts.{Debts}
use Rattle.ocr_turns_rule.specs.declared.view.View.{View}
use Rattle.ocr_turns_rule.specs.declared.view.Terms.{Terms}

-- THE WORDS of a table. The commit word comes first; the draw word, and the turn words from the
-- first on, are so far behind it that none shares a cache line of 64 bytes with it, nor with the live word between them.
abbrev pub DRAW : ℕ
DRAW = 8

-- the live word, of the third rule
abbrev pub LIVE : ℕ
LIVE = 16

abbrev pub TURNS : ℕ
TURNS = 24

-- THE WORD of an EDT
abbrev pub READY : ℕ
READY = 0

abbrev pub UNMADE : ℕ
UNMADE = 33

abbrev pub BUSY : ℕ
BUSY = 64

abbrev pub PARKED : ℕ
PARKED = 65

-- WHAT A HISTORY SAYS of an EDT, the newest entry first
abbrev pub count_if : Option (ℕ × ℕ) → ℕ → Option ℕ → Option ℕ
count_if None n before = before
count_if (Some x) n before = if x.0 == n then Some x.1 else before

abbrev pub payload_if : Option (ℕ × ℕ × ℕ) → ℕ → ℕ → Option ℕ → Option ℕ
payload_if None n k before = before
payload_if (Some x) n k before = if (x.0 == n) && (x.1 == k) then Some x.2 else before

abbrev pub place_or : Option ℕ → Option ℕ → Option ℕ
place_or None before = before
place_or (Some p) before = Some p

abbrev pub is_in : ℕ → List ℕ → Bool
is_in n [] = false
is_in n (k ∷ ks) = (n == k) || is_in n ks

module _ {G E P N F : Type 0} (m : Meaning G E P N F) (t : Terms G) where
  -- how many slots the EDT was made with
  abbrev pub slots_of : List E → ℕ → Option ℕ
  slots_of [] n = if m.first.0 == n then Some 1 else None
  slots_of (e ∷ past) n =
      count_if (m.counting.creates t.setting.value t.limit (reverse past) e) n (slots_of past n)

  -- what the slot was set to
  abbrev pub payload_of : List E → ℕ → ℕ → Option ℕ
  payload_of [] n k = if (m.first.0 == n) && (0 == k) then Some m.first.1 else None
  payload_of (e ∷ past) n k = payload_if (m.counting.sets e) n k (payload_of past n k)

  abbrev pub is_started : List E → ℕ → Bool
  is_started past n = is_among (λ e. m.starts e n) past

  abbrev pub is_ended : List E → ℕ → Bool
  is_ended past n = is_among (λ e. m.ends e n) past

  -- the place of the part that the EDT waits for
  abbrev pub awaited : List E → ℕ → Option ℕ
  awaited [] n = None
  awaited (e ∷ past) n =
      if m.starts e n || m.ends e n then None
      else place_or (m.counting.waits e n) (if is_in n (m.counting.resumes t.setting.value t.limit
      (reverse past) e) then None else awaited past n)

  -- the place that whoever has the EDT's claim keeps: its core while it runs, and the part that it
  -- waits for
  abbrev pub tied_to : List E → ℕ → Option ℕ
  tied_to past n = if is_started past n then (if is_ended past n then None else Some
      (m.core t.limit n)) else awaited past n

  -- the EDT is made, and all its slots are set
  pub record IsSet (past : List E) (n : ℕ) : Type 0 where
    pub slots : ℕ
    pub made : slots_of past n ≡ Some slots
    pub all_set : (k : ℕ) → k < slots → (x : ℕ) × (payload_of past n k ≡ Some x)

  -- the EDT may start or be let wait
  pub record IsReady (past : List E) (n : ℕ) : Type 0 where
    pub set : IsSet past n
    pub unstarted : is_started past n ≡ false
    pub unended : is_ended past n ≡ false
    pub awake : awaited past n ≡ None

  -- what the entries so far made and set
  pub record Consistent (past : List E) : Type 0 where
    pub made : (n d : ℕ) → slots_of past n ≡ Some d → (1 ≤ n) × (n ≤ t.limit) × (d ≤ 32) ×
        (1 ≤ up_to (one_at n) m.opened + made_sum m.makes (one_at n) (reverse past))
    pub set : (n k x : ℕ) → payload_of past n k ≡ Some x → (d : ℕ) × (slots_of past n ≡ Some d) ×
        (k < d)
    pub rests : (n p : ℕ) → awaited past n ≡ Some p → (is_started past n ≡ false) ×
        (is_ended past n ≡ false) × ((d : ℕ) × (slots_of past n ≡ Some d))
    pub facts : (n k x : ℕ) → payload_of past n k ≡ Some x → m.stands t.setting.value t.limit
        (reverse past) (m.counting.is_set n k x)

-- THE LAWS of what the words see, for an entry that is legal after a run
module _ {G E P N F : Type 0} (m : Meaning G E P N F) (t : Terms G) where
  -- the entry may come after the run
  pub record MayCome (past : List E) (e : E) : Type 0 where
    pub limits : 2 ≤ t.limit
    pub run : Run (m.legal t.setting.value t.limit) (reverse past)
    pub legal : m.legal t.setting.value t.limit (reverse past) e

pub record CountingLaws {G E P N F : Type 0} (m : Meaning G E P N F) : Type 0 where
  pub first_made : (1 ≤ m.first.0) × (m.first.0 ≤ m.opened)
  pub first_set : (t : Terms G) → m.stands t.setting.value t.limit []
      (m.counting.is_set m.first.0 0 m.first.1)
  pub creating : (t : Terms G) (past : List E) (e : E) (n d : ℕ) → MayCome m t past e
      → m.counting.creates t.setting.value t.limit (reverse past) e ≡ Some (n, d)
      → (1 ≤ sum_of (one_at n) (m.makes e)) × (d ≤ 32)
  pub setting : (t : Terms G) (past : List E) (e : E) (n k x : ℕ) → MayCome m t past e
      → m.counting.sets e ≡ Some (n, k, x)
      → ((d : ℕ) × (slots_of m t past n ≡ Some d) × (k < d)) × (payload_of m t past n k ≡ None)
      × m.stands t.setting.value t.limit (reverse (e ∷ past)) (m.counting.is_set n k x)
  pub starting : (t : Terms G) (past : List E) (e : E) (n : ℕ) → MayCome m t past e
      → m.starts e n ≡ true → IsReady m t past n
  pub waiting : (t : Terms G) (past : List E) (e : E) (n p : ℕ) → MayCome m t past e
      → m.counting.waits e n ≡ Some p → IsReady m t past n × (1 ≤ m.touches t.limit e p)
  pub resuming : (t : Terms G) (past : List E) (e : E) (n : ℕ) → MayCome m t past e → 1 ≤ sum_of
      (one_at n) (m.counting.resumes t.setting.value t.limit (reverse past) e)
      → (sum_of (one_at n) (m.counting.resumes t.setting.value t.limit (reverse past) e) ≡ 1) ×
      ((p : ℕ) × (awaited m t past n ≡ Some p) × (1 ≤ m.touches t.limit e p))
  -- An EDT ends once, where it runs, by an entry of its own; or it is destroyed by an entry of
  -- another, where it has neither started nor waits.
  pub ending : (t : Terms G) (past : List E) (e : E) (n : ℕ) → MayCome m t past e
      → m.ends e n ≡ true → (is_ended m t past n ≡ false) × (((m.runs e n ≡ true) ×
      (is_started m t past n ≡ true)) ⊎ ((m.runs e n ≡ false) × (is_started m t past n ≡ false) ×
      (awaited m t past n ≡ None)))

-- THE WORDS of an EDT, behind the turn words
abbrev pub state_at : ℕ → ℕ → ℕ
state_at slots n = TURNS + slots + 33 * (n - 1)

abbrev pub payload_at : ℕ → ℕ → ℕ → ℕ
payload_at slots n k = state_at slots n + 1 + k

abbrev pub is_none : Option ℕ → ℕ
is_none None = 1
is_none (Some x) = 0

abbrev pub is_true : Bool → ℕ
is_true false = 0
is_true true = 1

-- how many slots are not set
abbrev pub unset_of : Option ℕ → (ℕ → Option ℕ) → ℕ
unset_of None payload = 0
unset_of (Some d) payload = below (λ k. is_none (payload k)) d

-- what an EDT's word is held against
pub record Account : Type 0 where
  pub word : ℕ
  -- what its makers owe, its slots that are set and not counted, and those that are not set
  pub making : ℕ
  pub owed : ℕ
  pub unset : ℕ
  pub claims : ℕ
  pub resumes : ℕ
  -- 1 where it waits, has its first entry, has its last
  pub waits : ℕ
  pub started : ℕ
  pub ended : ℕ
  -- how often its last unit was counted; the first EDT opens with nothing to be counted
  pub lasts : ℕ

-- not all is counted; or all is, and nobody has claimed it
pub record IsCounting (a : Account) : Type 0 where
  pub word : a.word ≡ a.making + (a.owed + a.unset)
  pub most : a.word ≤ 33
  pub bare : a.claims + (a.resumes + (a.waits + a.started)) ≡ 0
  pub once : a.lasts ≡ is_free a.word

-- One view has its claim, or it has its end. It has both only where it was destroyed before it
-- started.
pub record IsBusy (a : Account) : Type 0 where
  pub word : a.word ≡ BUSY
  pub counted : a.making + (a.owed + a.unset) ≡ 0
  pub held : 1 ≤ a.claims + a.ended
  pub sole : a.claims ≤ 1
  pub runs : 1 ≤ a.started → a.claims + a.ended ≡ 1
  pub none : a.resumes ≡ 0
  pub once : a.lasts ≡ 1

-- it waits, or a view owes its resume
pub record IsParked (a : Account) : Type 0 where
  pub word : a.word ≡ PARKED
  pub counted : a.making + (a.owed + a.unset) ≡ 0
  pub waits : a.waits + a.resumes ≡ 1
  pub none : a.claims + a.started ≡ 0
  pub once : a.lasts ≡ 1

-- nothing is said of it
pub record IsBlank (a : Account) : Type 0 where
  pub word : a.word ≡ UNMADE
  pub bare : a.making + (a.owed + (a.claims + (a.resumes + (a.waits + (a.started + a.lasts))))) ≡ 0

abbrev pub IsInOrder : Option ℕ → Account → Type 0
IsInOrder None a = IsBlank a
IsInOrder (Some d) a = IsCounting a ⊎ (IsBusy a ⊎ IsParked a)

-- what an entry adds to what is owed, where it resumes these and makes this EDT
abbrev pub debts_by : {G E P N F : Type 0} → Meaning G E P N F → E → List ℕ → Option (ℕ × ℕ)
    → Debts
debts_by m e rs one = record {
  unput = listed (m.counting.sets e);
  put = [];
  made = listed one;
  resumes = rs;
  lasts = [];
  readied = [];
}

-- the EDT's first entry stands in one of the view's logs
abbrev pub IsBegunIn : {G E P N F : Type 0} → Meaning G E P N F → View G E P N F → ℕ → Type 0
IsBegunIn {E = E} m v n = (is_among (λ e. m.starts e n) (entries v.log) ≡ true) ⊎ ((j : ℕ) × (l
    : List (ℕ × E)) × (get_elem? v.joined j ≡ some l) × (is_among (λ e. m.starts e n)
    (entries l) ≡ true))

-- the EDTs whose claim an entry ends
abbrev pub leaves : {G E P N F : Type 0} → Meaning G E P N F → E → ℕ → Bool
leaves m e n = m.runs e n && m.ends e n

module _ {G E P N F : Type 0} (m : Meaning G E P N F) (t : Terms G) where
  abbrev pub account : List ℕ → ℕ → List (View G E P N F) → List E → ℕ → Account
  account words slots views past n = record {
    word = slice_index words (state_at slots n);
    making = total (λ v. making n v.debts.made) views;
    owed = total (λ v. owed_slots (of_edt n) v.debts) views;
    unset = unset_of (slots_of m t past n) (payload_of m t past n);
    claims = total (λ v. times n v.claims) views;
    resumes = total (λ v. times n v.debts.resumes) views;
    waits = 1 - is_none (awaited m t past n);
    started = is_true (is_started m t past n);
    ended = is_true (is_ended m t past n);
    lasts = total (λ v. times n v.debts.lasts) views + one_at m.first.0 n;
  }

  -- what a view's debts and claims say
  pub record Stakes (past : List E) (v : View G E P N F) : Type 0 where
    pub unput : (i n k x : ℕ) → get_elem? v.debts.unput i ≡ some (n, k, x)
        → payload_of m t past n k ≡ Some x
    pub made : (i n d : ℕ) → get_elem? v.debts.made i ≡ some (n, d) → slots_of m t past n ≡ Some d
    pub claims : (n : ℕ) → 1 ≤ times n v.claims → (1 ≤ n) × (n ≤ t.limit)
    -- who has the claim of an EDT that runs keeps its core, and of one that waits the part that it
    -- waits for
    pub tied : (n p : ℕ) → 1 ≤ times n v.claims → tied_to m t past n ≡ Some p → 1 ≤ weigh
        (one_at p) v.parts
    -- and has its first entry, where it has started
    pub begun : (n : ℕ) → 1 ≤ times n v.claims → is_started m t past n ≡ true → IsBegunIn m v n
    pub spent : v.root + v.seat ≡ 0 → (v.debts ≡ no_debts) × (v.claims ≡ [])

  pub record Counted (past : List E) (s : State (Option P) (View G E P N F)) : Type 0 where
    pub words : length s.words ≡ TURNS + length s.homes + 33 * t.limit
    pub told : Consistent m t past
    pub each : (n : ℕ) → 1 ≤ n → n ≤ t.limit → IsInOrder (slots_of m t past n) (account s.words
        (length s.homes) s.views past n)
    -- a slot is owed only where it is set, and by one view
    pub stage : (n k : ℕ) → total (λ v. owed_slots (of_slot n k) v.debts) s.views + is_none
        (payload_of m t past n k) ≤ 1
    -- from the putting on its word holds the payload
    pub payload : (n k x : ℕ) → payload_of m t past n k ≡ Some x → total (λ v. tally
        (of_slot n k) v.debts.unput) s.views ≡ 0 → slice_index s.words (payload_at
        (length s.homes) n k) ≡ x
    pub seated : (id : ℕ) (v : View G E P N F) → get_elem? s.views id ≡ some v → Stakes past v

  -- What the word of an EDT tells of the history: the rule holds of an account that has this word
  -- and is the history's.
  -- What it has besides stands in this view, where no other is out.
  pub record Found (past : List E) (v : View G E P N F) (n word : ℕ) : Type 0 where
    pub account : Account
    pub order : IsInOrder (slots_of m t past n) account
    pub word_is : account.word ≡ word
    pub unset : account.unset ≡ unset_of (slots_of m t past n) (payload_of m t past n)
    pub waits : account.waits ≡ 1 - is_none (awaited m t past n)
    pub started : account.started ≡ is_true (is_started m t past n)
    pub ended : account.ended ≡ is_true (is_ended m t past n)
    pub mine : times n v.claims ≤ account.claims
    pub alone : v.root ≡ 1 → v.out ≡ 0 → (account.making ≡ making n v.debts.made) ×
        (account.owed ≡ owed_slots (of_edt n) v.debts) × (account.claims ≡ times n v.claims) ×
        (account.resumes ≡ times n v.debts.resumes) ×
        (account.lasts ≡ times n v.debts.lasts + one_at m.first.0 n)
