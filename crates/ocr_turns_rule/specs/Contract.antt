-- What the contracts of the table say.
use Rattle.std.specs.Prelude.{◌≡◌, ◌≢◌, ℕ, ◌+◌, ◌*◌, ◌<◌, ◌≤◌, ◌⊎◌, reverse, true, false, leb, if◌then◌else◌, List, [], ◌∷◌, ◌++◌, length, Option, Some, None, MatchOption}
use Rattle.atomic_table.specs.Seated.{TableId}
use Rattle.ocr_base.specs.Mail.{Has}
use Rattle.ocr_turns_rule.specs.Counts.{Found, tied_to}
use Rattle.ocr_turns_rule.specs.Debts.{listed, times}
use Rattle.ocr_turns_rule.specs.Meaning.{Meaning, Run, Open, Ended}
use Rattle.ocr_turns_rule.specs.Rule.{Fits, PartsOf, FactsOf, RunsIn, LogsOf, AllRise, IsStill, OPEN}
use Rattle.ocr_turns_rule.specs.Steps.{Deed, deed, Sees, SeesBoth, SeesOpen, SeesEnd, logged, ended_by, shut_by, with_drawn, filled_by, with_part, without_part, freed, needed}
use Rattle.ocr_turns_rule.specs.Sums.{AreBelow, weigh, weigh_all, below, one_at, sum_of, made_sum, up_to, find, replace_all, remove_at, as_some, HasAll}
use Rattle.ocr_turns_rule.specs.Units.{claim_count, units}
use Rattle.ocr_turns_rule.specs.declared.answers.Committed.{Committed}
use Rattle.ocr_turns_rule.specs.declared.answers.Committed.TheVariants as committed
use Rattle.ocr_turns_rule.specs.declared.answers.Drawn.{Drawn}
use Rattle.ocr_turns_rule.specs.declared.answers.Drawn.TheVariants as drawn
use Rattle.ocr_turns_rule.specs.declared.answers.Taken.{Taken}
use Rattle.ocr_turns_rule.specs.declared.answers.Taken.TheVariants as taken
use Rattle.ocr_turns_rule.specs.declared.view.View.{View}
use Rattle.ocr_turns_rule.specs.declared.view.Terms.{Terms}

-- What contracts see of a clerk: its table, its view, its parts (None where it was lifted), and its
-- free room for entries, for parts and for messages.
pub record Known (G E P N F : Type 0) : Type 0 where
  pub table : TableId
  pub view : View G E P N F
  pub parts : List (ℕ × Option P)
  pub room : ℕ
  pub spare : ℕ
  pub space : ℕ

-- THE CONDITIONS
module _ {G E P N F : Type 0} (m : Meaning G E P N F) (t : Terms G) where
  -- what is so once the entry has come after the history
  pub record Next (J : List E) (v : View G E P N F) (d : Deed E P N F) : Type 0 where
    pub legal : m.legal t.setting.value t.limit J d.entry
    pub parts : PartsOf (m.seen t.limit) (m.part t.setting.value t.limit
        (J ++ d.entry ∷ [])) d.parts
    pub sends : m.sends t.setting.value t.limit J d.entry ≡ d.sends
    pub facts : FactsOf (m.stands t.setting.value t.limit (J ++ d.entry ∷ [])) d.learns
    pub wakes : m.counting.resumes t.setting.value t.limit J d.entry ≡ d.debts.resumes
    pub counts : listed (m.counting.creates t.setting.value t.limit J d.entry) ≡ d.debts.made

  -- Whatever the history is, where it fits the view and has not ended, the entry may come next, and
  -- the parts, the messages and the facts are these then.
  abbrev pub Legal : View G E P N F → Deed E P N F → Type 0
  Legal v d = (J : List E) → Open m.stops J → Fits m t J v → Next J v d

  abbrev pub MayStop : View G E P N F → E → Type 0
  MayStop v e = (J : List E) → Open m.stops J → Fits m t J v → m.legal t.setting.value t.limit J e

  -- the view keeps the entry's places, and the parts are those of these places
  abbrev pub KeepsPlaces : View G E P N F → E → List (ℕ × P) → Type 0
  KeepsPlaces v e ps = (p : ℕ) → (weigh (one_at p) ps ≡ m.touches t.limit e p) × (weigh
      (one_at p) ps ≤ weigh (one_at p) v.parts)

  -- the place is no core of an EDT that runs by the log
  abbrev pub Rests : View G E P N F → ℕ → Type 0
  Rests v p = (u : ℕ) → RunsIn m.starts m.ends v.log u → m.core t.limit u ≢ p

  -- The view has the claim of each EDT that the entry starts or lets wait, and of none that it
  -- resumes.
  pub record Claims (v : View G E P N F) (d : Deed E P N F) : Type 0 where
    pub starts : (n : ℕ) → m.starts d.entry n ≡ true → 1 ≤ times n v.claims
    pub waits : (n p : ℕ) → m.counting.waits d.entry n ≡ Some p → 1 ≤ times n v.claims
    pub resumes : (n : ℕ) → 1 ≤ times n d.debts.resumes → times n v.claims ≡ 0

  -- no EDT that the view has claimed waits for the part, or runs on it
  abbrev pub Loose : View G E P N F → ℕ → Type 0
  Loose v p = (J : List E) → Fits m t J v → (n : ℕ) → 1 ≤ times n v.claims → tied_to m t
      (reverse J) n ≢ Some p

  -- what a commit asks of an entry, its parts and its messages
  pub record MayCommit (v : View G E P N F) (e : E) (ps : List (ℕ × P)) (ms : List N) : Type 0 where
    pub goes : m.stops e ≡ false
    pub share : v.weight + m.heavy e ≤ t.share
    pub owes : Has (m.delivers e) v.owed
    pub drawn : HasAll (m.makes e) v.drawn
    pub keeps : KeepsPlaces v e ps
    pub claims : Claims v (deed m t.limit v e ps ms)
    pub unit : 1 ≤ units v
    pub spares : needed (deed m t.limit v e ps ms) ≤ v.spares + freed v (deed m t.limit v e ps ms)
    pub legal : Legal v (deed m t.limit v e ps ms)

  -- the facts stand once the entry has come
  abbrev pub WillStand : View G E P N F → E → List F → Type 0
  WillStand v e fs = (J : List E) → Open m.stops J → Fits m t J v → FactsOf
      (m.stands t.setting.value t.limit (J ++ e ∷ [])) fs

  -- what a close asks of an entry, and of the facts that the clerk learns with it
  pub record MayClose (v : View G E P N F) (e : E) (fs : List F) : Type 0 where
    pub stops : m.stops e ≡ true
    pub unit : 1 ≤ v.spares + claim_count v
    pub legal : MayStop v e
    pub facts : WillStand v e fs

  -- the part is seen as the one that the view keeps at the place
  pub record SeenAs (v : View G E P N F) (p : ℕ) (x : P) : Type 0 where
    pub kept : P
    pub keeps : find p v.parts ≡ Some kept
    pub alike : m.seen t.limit p x ≡ m.seen t.limit p kept

  -- what giving back asks: the part is at hand as it is kept, and no EDT runs on it
  pub record MayGive (v : View G E P N F) (parts : List (ℕ × Option P)) (p : ℕ) : Type 0 where
    pub hand : P
    pub at_hand : find p parts ≡ Some (Some hand)
    pub keeps : SeenAs v p hand
    pub rests : Rests v p
    pub loose : Loose v p

module _ {G E P N F : Type 0} where
  -- the clerk is of the table with these terms
  abbrev pub IsOfTable : TableId × Terms G → Known G E P N F → Type 0
  IsOfTable t c = (c.table ≡ t.0) × (c.view.terms ≡ Some t.1)

  abbrev pub SameRoom : Known G E P N F → Known G E P N F → Type 0
  SameRoom old new = (new.room ≡ old.room) × (new.spare ≡ old.spare) × (new.space ≡ old.space)

  -- all but the view
  abbrev pub SameHand : Known G E P N F → Known G E P N F → Type 0
  SameHand old new = (new.table ≡ old.table) × (new.parts ≡ old.parts) × SameRoom old new

  -- THE ANSWERS
  -- The clerk knows by the commit word n that the run has ended: it knew it, or this call read it.
  abbrev pub ClosedBy : Meaning G E P N F → ℕ → Known G E P N F → Known G E P N F → Type 0
  ClosedBy m n old new = (OPEN ≤ n) × SameHand old new × MatchOption old.view.closed
      ((new.view ≡ shut_by old.view n) × SeesEnd m new.view) (λ w. (w ≡ n) × (new.view ≡ old.view))

  abbrev pub CommitTells : Meaning G E P N F → Committed → Known G E P N F → Known G E P N F
      → Deed E P N F → Type 0
  CommitTells m (committed.At n) old new d = (old.view.closed ≡ None) × (n < OPEN) ×
      (new.table ≡ old.table) × (new.view ≡ logged old.view n d) × (new.parts ≡ replace_all
      (as_some d.parts) old.parts) × (new.room + 1 ≡ old.room) × (new.spare ≡ old.spare)
      × Sees m new.view
  CommitTells m (committed.Closed n) old new d = ClosedBy m n old new

  abbrev pub CloseTells : Meaning G E P N F → Committed → Known G E P N F → Known G E P N F → E
      → List F → Type 0
  CloseTells m (committed.At n) old new e fs = (old.view.closed ≡ None) × (n < OPEN) ×
      (new.table ≡ old.table) × (new.view ≡ ended_by old.view n e fs) × (new.parts ≡ old.parts)
      × SeesEnd m new.view × (new.room + 1 ≡ old.room) × (new.spare ≡ old.spare)
      × (new.space ≡ old.space)
  CloseTells m (committed.Closed n) old new e fs = ClosedBy m n old new

  abbrev pub DrawTells : Meaning G E P N F → ℕ → Drawn → Known G E P N F → Known G E P N F → Type 0
  DrawTells m limit (drawn.Place n) old new = (old.view.full ≡ None) × (1 ≤ n) × (n ≤ limit)
      × SameHand old new × (new.view ≡ with_drawn old.view n) × Sees m new.view
      × AreBelow n old.view.drawn
  DrawTells m limit (drawn.Full n) old new = (limit ≤ n) × SameHand old new
      × MatchOption old.view.full (new.view ≡ filled_by old.view n) (λ w. (w ≡ n) ×
      (new.view ≡ old.view))

  abbrev pub LookTells : Meaning G E P N F → Option ℕ → Known G E P N F → Known G E P N F → Type 0
  LookTells m None old new = (old.view.closed ≡ None) × SameHand old new × (new.view ≡ old.view)
      × SeesOpen m new.view
  LookTells m (Some n) old new = ClosedBy m n old new

  abbrev pub TakeTells : Meaning G E P N F → Taken → Known G E P N F → Known G E P N F → ℕ → Type 0
  TakeTells m taken.Mine old new p = (x : P) × (old.view.closed ≡ None) × (new.table ≡ old.table) ×
      (new.view ≡ with_part old.view p x) × (new.parts ≡ old.parts ++ (p, Some x) ∷ []) ×
      (new.room ≡ old.room) × (new.spare + 1 ≡ old.spare) × (new.space ≡ old.space)
      × SeesBoth m old.view new.view × SeesOpen m old.view
  TakeTells m (taken.Closed n) old new p = ClosedBy m n old new

  -- the part goes home; a closed clerk keeps it
  abbrev pub GiveTells : Known G E P N F → Known G E P N F → ℕ → Type 0
  GiveTells old new p = MatchOption old.view.closed ((new.table ≡ old.table) ×
      (new.view ≡ without_part old.view p) × (new.parts ≡ remove_at p old.parts) ×
      (new.room ≡ old.room) × (new.spare ≡ old.spare + 1) × (new.space ≡ old.space))
      (λ _. new ≡ old)

-- THE ENDS
-- The logs by number are one run, each number once, each log rises, and nothing comes after an
-- entry that ends the run. The facts that were learnt stand. Where no number was left, each up to
-- the limit is made or stands as drawn in the root.
pub record Finished {G E P N F : Type 0} (m : Meaning G E P N F) (t : Terms G) (v : View G E P N F)
    (logs : List (List (ℕ × E))) : Type 0 where
  pub history : List E
  pub run : Run (m.legal t.setting.value t.limit) history
  pub few : length history < OPEN
  pub ends : Open m.stops history ⊎ Ended m.stops history
  pub closed : MatchOption v.closed (Unit {0}) (λ _. Ended m.stops history)
  pub logs_are : logs ≡ v.log ∷ v.joined
  pub facts : FactsOf (m.stands t.setting.value t.limit history) v.facts
  -- the words of each number are those of the history, and the root's view has all that was owed,
  -- claimed and counted
  pub counted : (n : ℕ) → 1 ≤ n → n ≤ t.limit → (word : ℕ) × Found m t (reverse history) v n word
  pub once : (f : ℕ → ℕ) → weigh_all f logs ≡ below f (length history)
  pub of_run : LogsOf history logs
  pub rise : AllRise logs
  -- where the root knows how many entries there were when nothing could come any more, it is these
  pub quiet : MatchOption v.quiet (Unit {0}) (λ n. (length history ≡ n) × IsStill m t history)
  pub full : MatchOption v.reached (Unit {0}) (λ _. (f : ℕ → ℕ) → sum_of f v.drawn +
      (up_to f m.opened + made_sum m.makes f history) ≡ up_to f t.limit)

-- what a table is told
pub record TermsAre {G : Type 0} (t : Terms G) (g : G) (most load clerks : ℕ) : Type 0 where
  pub setting : t.setting.value ≡ g
  pub limit : t.limit ≡ most
  pub share : t.share ≡ load
  pub seats : t.seats ≡ clerks

-- how many of the parts are faces of objects
abbrev pub faces : {P : Type 0} → ℕ → List (ℕ × P) → ℕ
faces limit ps = weigh (λ p. if leb p limit then 1 else 0) ps

-- the parts that stand at the opening, and the bounds of the terms
pub record OpensWith {G E P N F : Type 0} (m : Meaning G E P N F) (t : Terms G) (opening : List (ℕ
    × P)) : Type 0 where
  pub parts : PartsOf (m.seen t.limit) (m.part t.setting.value t.limit []) opening
  pub others : (p : ℕ) → weigh (one_at p) opening ≡ 0
      → m.part t.setting.value t.limit [] p ≡ m.seen t.limit p m.vacant
  pub places : (p : ℕ) → 1 ≤ weigh (one_at p) opening → p ≤ 2 * t.limit
  pub opened : faces t.limit opening ≡ m.opened
  pub few : m.opened ≤ t.limit
  pub limits : (2 ≤ t.limit) × (t.limit ≤ 65536)
  pub share : (1 ≤ t.share) × (t.share ≤ 16000000)
  pub seats : (1 ≤ t.seats) × (t.seats ≤ 128)

abbrev pub SoleLaw : {G E P N F : Type 0} → Meaning G E P N F → Type 0
SoleLaw {G = G} m = (t : Terms G) (v : View _ _ _ _ _) (J K : List _) → v.root ≡ 1 → v.out ≡ 0
    → Fits m t J v → Fits m t K v → J ≡ K
