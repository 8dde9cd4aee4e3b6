-- The rule of the table: one history, and what each seat's view has to do with it.
use Rattle.std.specs.Prelude.{◌≡◌, ◌≢◌, ℕ, ◌+◌, ◌*◌, ◌<◌, ◌≤◌, ◌⊎◌, reverse, Bool, true, false, List, [], length, take, slice_index, Option, Some, None, MatchOption}
use mathlib.Core.Option as maybe
use mathlib.Core.Option.{some}
use lib.ListN.{get_elem?}
use Rattle.atomic_table.specs.Table.{State}
use Rattle.ocr_base.specs.Mail.{tally, pending}
use Rattle.ocr_turns_rule.specs.Counts.{Counted, IsBegunIn, IsSet, tied_to, is_started, is_ended, awaited, DRAW, LIVE, TURNS}
use Rattle.ocr_turns_rule.specs.Meaning.{Meaning, Run, Open, Ended}
use Rattle.ocr_turns_rule.specs.Debts.{times}
use Rattle.ocr_turns_rule.specs.Sums.{total, weigh, weigh_all, below, one_at, sum_of, up_to, made_sum, is_free, picked, is_among, entries, load_of, Rises}
use Rattle.ocr_turns_rule.specs.Units.{MOST_RAISED, claim_count, ready_count, units}
use Rattle.ocr_turns_rule.specs.declared.view.View.{View}
use Rattle.ocr_turns_rule.specs.declared.view.Terms.{Terms}

-- all logs of a view
abbrev pub weighed : {G E P N F : Type 0} → (ℕ → ℕ) → View G E P N F → ℕ
weighed f v = weigh f v.log + weigh_all f v.joined

module _ {E : Type 0} where
  -- the EDT has its first entry in the log and not its last
  pub record RunsIn (starts ends : E → ℕ → Bool) (log : List (ℕ × E)) (t : ℕ) : Type 0 where
    pub started : is_among (λ e. starts e t) (entries log) ≡ true
    pub goes_on : is_among (λ e. ends e t) (entries log) ≡ false

  -- each entry of the log stands in the history at its number
  abbrev pub LogOf : List E → List (ℕ × E) → Type 0
  LogOf J log = (k n : ℕ) (e : E) → get_elem? log k ≡ some (n, e) → get_elem? J n ≡ some e

  abbrev pub LogsOf : List E → List (List (ℕ × E)) → Type 0
  LogsOf J logs = (j : ℕ) (l : List (ℕ × E)) → get_elem? logs j ≡ some l → LogOf J l

  abbrev pub AllRise : List (List (ℕ × E)) → Type 0
  AllRise logs = (j : ℕ) (l : List (ℕ × E)) → get_elem? logs j ≡ some l → Rises l

-- the commit word from which on the run has ended
abbrev pub OPEN : ℕ
OPEN = 281474976710656

-- each listed part is the part of its place
abbrev pub PartsOf : {P : Type 0} → (ℕ → P → P) → (ℕ → P) → List (ℕ × P) → Type 0
PartsOf {P = P} seen part ps = (k p : ℕ) (x : P) → get_elem? ps k ≡ some (p, x) → part p ≡ seen p x

abbrev pub FactsOf : {F : Type 0} → (F → Type 0) → List F → Type 0
FactsOf {F = F} stands fs = (k : ℕ) (f : F) → get_elem? fs k ≡ some f → stands f

-- the slot of each kept place is at home and empty, but for the one that the seat carries
abbrev pub EmptyAt : {P : Type 0} → List (maybe.Option (Option P)) → Option ℕ → ℕ → Type 0
EmptyAt homes None p = get_elem? homes p ≡ some (some None)
EmptyAt homes (Some q) p = p ≢ q → get_elem? homes p ≡ some (some None)

-- how many seats there are
pub record Roster {G E P N F : Type 0} (views : List (View G E P N F)) : Type 0 where
  pub seats : total (λ v. v.seats) views + total (λ v. v.quota) views ≤ 128
  pub root : total (λ v. v.root) views ≡ 1
  pub out : total (λ v. v.seat) views ≡ total (λ v. v.out) views

module _ {G E P N F : Type 0} (m : Meaning G E P N F) (t : Terms G) where
  -- the undelivered messages of a history
  abbrev pub mail : List E → List (ℕ × ℕ × N)
  mail J = pending (λ (before : List E). m.sends t.setting.value t.limit
      (reverse before)) m.delivers (reverse J)

  -- the message was sent by the entry of this number, as the one of this index
  abbrev pub SentAs : List E → ℕ → ℕ → N → Type 0
  SentAs J n i x = (e : E) × (get_elem? J n ≡ some e) × (get_elem? (m.sends t.setting.value t.limit
      (take n J) e) i ≡ some x)

  abbrev pub AllSent : List E → List (ℕ × ℕ × N) → Type 0
  AllSent J xs = (k n i : ℕ) (x : N) → get_elem? xs k ≡ some (n, i, x) → SentAs J n i x

  -- all of the EDT's own entries stand in the log
  abbrev pub OwnsAll : List E → List (ℕ × E) → ℕ → Type 0
  OwnsAll J log u = picked (λ e. m.runs e u) J ≡ picked (λ e. m.runs e u) (entries log)

  -- a drawn number that is not used
  pub record IsUnmade (J : List E) (n : ℕ) : Type 0 where
    pub unopened : up_to (one_at n) m.opened ≡ 0
    pub unmade : made_sum m.makes (one_at n) J ≡ 0
    pub least : 1 ≤ n
    pub most : n ≤ t.limit

  -- What a view may rely on of an EDT that it has claimed: all its slots are set, it has not ended
  -- where it has started, its first entry stands in the view's logs where it has started, and the view keeps the place
  -- that its claim ties it to.
  pub record Claimed (J : List E) (v : View G E P N F) (n : ℕ) : Type 0 where
    pub set : IsSet m t (reverse J) n
    pub unended : is_started m t (reverse J) n ≡ true → is_ended m t (reverse J) n ≡ false
    pub begun : is_started m t (reverse J) n ≡ true → IsBegunIn m v n
    pub tied : (p : ℕ) → tied_to m t (reverse J) n ≡ Some p → 1 ≤ weigh (one_at p) v.parts

  -- what a view may rely on: the history is such a one
  pub record Fits (J : List E) (v : View G E P N F) : Type 0 where
    pub limits : 2 ≤ t.limit
    pub run : Run (m.legal t.setting.value t.limit) J
    -- at most 128 seats have at most 16,000,000 entries each, and one more ends the run
    pub few : length J < 4294967296
    pub log : LogOf J v.log
    pub joined : LogsOf J v.joined
    pub distinct : (p : ℕ) → weigh (one_at p) v.parts ≤ 1
    pub unmade : (n : ℕ) → 1 ≤ sum_of (one_at n) v.drawn → IsUnmade J n
    pub own : (u : ℕ) → RunsIn m.starts m.ends v.log u → OwnsAll J v.log u
    pub owed : (f : ℕ × ℕ → ℕ) → tally f v.owed ≤ tally f (mail J)
    pub sent : AllSent J v.owed
    pub parts : PartsOf (m.seen t.limit) (m.part t.setting.value t.limit J) v.parts
    pub facts : FactsOf (m.stands t.setting.value t.limit J) v.facts
    pub claims : (n : ℕ) → 1 ≤ times n v.claims → Claimed J v n
    -- while no other seat is out, the root's logs are the whole history
    pub sole : v.root ≡ 1 → v.out ≡ 0 → (f : ℕ → ℕ) → weighed f v ≡ below f (length J)
    -- and it owes every message that is undelivered
    pub alone : v.root ≡ 1 → v.out ≡ 0 → (f : ℕ × ℕ → ℕ) → tally f v.owed ≡ tally f (mail J)

  -- what a view knows of a run that has ended
  pub record Over (J : List E) (v : View G E P N F) : Type 0 where
    pub run : Run (m.legal t.setting.value t.limit) J
    pub log : LogOf J v.log
    pub joined : LogsOf J v.joined
    pub ended : Ended m.stops J
    pub facts : FactsOf (m.stands t.setting.value t.limit J) v.facts
    -- while no other seat is out, the root's logs are the whole history
    pub sole : v.root ≡ 1 → v.out ≡ 0 → (f : ℕ → ℕ) → weighed f v ≡ below f (length J)

  -- the slot is at home, with the part of the place
  pub record HomeOf (homes : List (maybe.Option (Option P))) (J : List E) (p : ℕ) : Type 0 where
    pub item : P
    pub home : get_elem? homes p ≡ some (some (Some item))
    pub is_part : m.part t.setting.value t.limit J p ≡ m.seen t.limit p item

  -- how the view of one seat stands to the history
  pub record Seated (homes : List (maybe.Option (Option P))) (J : List E)
      (v : View G E P N F) : Type 0 where
    pub log : LogOf J v.log
    pub joined : LogsOf J v.joined
    pub rises : Rises v.log
    pub all_rise : AllRise v.joined
    pub parts : v.closed ≡ None → PartsOf (m.seen t.limit)
        (m.part t.setting.value t.limit J) v.parts
    pub facts : FactsOf (m.stands t.setting.value t.limit J) v.facts
    pub sent : AllSent J v.owed
    -- the EDTs that run by this log have all their entries in it, and their cores are kept
    pub own : (u : ℕ) → RunsIn m.starts m.ends v.log u → OwnsAll J v.log u × (1 ≤ weigh (one_at
        (m.core t.limit u)) v.parts)
    -- what the log weighs, and that no log weighs more than the share
    pub weight : v.weight ≡ load_of m.heavy v.log
    pub light : v.weight ≤ t.share
    pub bounded : 0 < v.root + v.seat → weighed
        (λ _. 1) v + t.share ≤ v.seats * t.share + v.weight + v.ended
    pub filled : MatchOption v.full (v.filled + (v.root + v.seat) ≤ v.seats)
        (λ _. v.filled ≤ v.seats)
    pub shut : MatchOption v.closed (v.shut + 1 ≤ v.seats) (λ _. v.shut ≤ v.seats)
    -- a seat that knows that the run has ended is right
    pub over : 0 < v.root + v.seat → MatchOption v.closed (Unit {0}) (λ _. Ended m.stops J)
    pub empty : (p : ℕ) → 1 ≤ weigh (one_at p) v.parts → (p < length homes)
        × EmptyAt homes v.carried p
    pub spent : v.root + v.seat ≡ 0 → (v.log ≡ []) × (v.joined ≡ []) × (v.parts ≡ []) ×
        (v.facts ≡ []) × (v.drawn ≡ []) × (v.owed ≡ [])
    pub terms : 0 < v.root + v.seat → v.terms ≡ Some t
    pub not_root : v.root ≡ 0 → v.out ≡ 0

  -- the commit word and the logs
  pub record Ledger (J : List E) (s : State (Option P) (View G E P N F)) : Type 0 where
    pub run : Run (m.legal t.setting.value t.limit) J
    -- each number of the history stands in one log
    pub once : (f : ℕ → ℕ) → total (λ v. weighed f v) s.views ≡ below f (length J)
    -- the commit word counts the entries, until it tells that the last one ended the run
    pub word : ((slice_index s.words 0 ≡ length J) × Open m.stops J × (total
        (λ v. v.ended) s.views ≡ 0)) ⊎ ((OPEN ≤ slice_index s.words 0) × Ended m.stops J)
    pub ended : total (λ v. v.ended) s.views ≤ 1
    pub high : slice_index s.words 0 ≤ (length J + OPEN) + total (λ v. v.shut) s.views * (OPEN + 1)

  -- the draw word and the numbers of objects
  pub record Numbers (J : List E) (s : State (Option P) (View G E P N F)) : Type 0 where
    -- so many numbers were drawn; each is made, or drawn and unused in one view
    pub drawn : ℕ
    pub draws : ((slice_index s.words DRAW ≡ drawn) × (drawn ≤ t.limit)) ⊎ ((drawn ≡ t.limit) ×
        (t.limit ≤ slice_index s.words DRAW))
    pub numbers : (f : ℕ → ℕ) → total (λ v. sum_of f v.drawn) s.views +
        (up_to f m.opened + made_sum m.makes f J) ≡ up_to f drawn
    pub fulls : slice_index s.words DRAW ≤ t.limit + total (λ v. v.filled) s.views
    -- where a view knows that the draw word reached the limit, it did
    pub reached : (id : ℕ) (v : View G E P N F) → get_elem? s.views id ≡ some v
        → MatchOption v.reached (Unit {0}) (λ _. t.limit ≤ slice_index s.words DRAW)

  -- the turn words, the slots and the parts kept
  pub record Places (J : List E) (s : State (Option P) (View G E P N F)) : Type 0 where
    -- behind the commit word and the draw word each place has its turn word
    pub words : TURNS + length s.homes ≤ length s.words
    -- each part has one keeper: its slot, where its turn word is 0, or one seat
    pub keeper : (p : ℕ) → p < length s.homes → total (λ v. weigh
        (one_at p) v.parts) s.views + is_free (slice_index s.words (p + TURNS)) ≡ 1
    pub home : (p : ℕ) → p < length s.homes → slice_index s.words (p + TURNS) ≡ 0
        → HomeOf s.homes J p

  -- the first rule, of a table whose history is J
  pub record Kept (J : List E) (s : State (Option P) (View G E P N F)) : Type 0 where
    pub limits : (2 ≤ t.limit) × (t.limit ≤ 65536)
    pub share : t.share ≤ 16000000
    pub ledger : Ledger J s
    pub numbers : Numbers J s
    pub places : Places J s
    -- each undelivered message is owed by one view
    pub owed : (f : ℕ × ℕ → ℕ) → total (λ v. tally f v.owed) s.views ≡ tally f (mail J)
    pub roster : Roster s.views
    pub seated : (id : ℕ) (v : View G E P N F) → get_elem? s.views id ≡ some v → Seated s.homes J v

  -- how a view stands to the live word
  pub record Lively (J : List E) (word : ℕ) (v : View G E P N F) : Type 0 where
    pub raised : v.raised ≤ MOST_RAISED
    pub gained : 0 < v.root + v.seat → v.gained + MOST_RAISED ≤ v.seats * MOST_RAISED
    -- whoever ended the run keeps a unit
    pub stop : 1 ≤ v.ended → 1 ≤ v.spares + claim_count v
    -- a view that knows the live word as 0 is right, and knows how many entries there are
    pub still : v.live ≡ Some 0 → word ≡ 0
    pub quiet : MatchOption v.quiet (Unit {0}) (λ n. (word ≡ 0) × (length J ≡ n))
    pub spent : v.root + v.seat ≡ 0 → (units v ≡ 0) × (v.raised + v.gained ≡ 0)

  -- the third rule: the live word
  pub record Alive (J : List E) (s : State (Option P) (View G E P N F)) : Type 0 where
    -- it counts the units of all views and the EDTs that are ready
    pub word : slice_index s.words LIVE ≡ total units s.views + ready_count s.words
        (length s.homes) t.limit
    pub most : slice_index s.words LIVE ≤ 2 + total (λ v. v.raised + v.gained) s.views
    -- an entry that ended the run stands in one of the views' logs
    pub stopped : OPEN ≤ slice_index s.words 0 → 1 ≤ total (λ v. v.ended) s.views
    pub each : (id : ℕ) (v : View G E P N F) → get_elem? s.views id ≡ some v → Lively J
        (slice_index s.words LIVE) v

  -- the whole rule
  pub record Holds (s : State (Option P) (View G E P N F)) : Type 0 where
    pub history : List E
    pub kept : Kept history s
    pub counted : Counted m t (reverse history) s
    pub alive : Alive history s

  -- Nothing can come any more: the run has not ended, no message is undelivered, and each EDT of
  -- which all slots are set has ended or waits for a part.
  pub record IsStill (J : List E) : Type 0 where
    pub unended : Open m.stops J
    pub delivered : mail J ≡ []
    pub each : (n : ℕ) → IsSet m t (reverse J) n → (is_ended m t (reverse J) n ≡ true) ⊎ ((p : ℕ) ×
        (awaited m t (reverse J) n ≡ Some p))
