-- How each kind of step changes the view of the seat that steps, and what the step tells.
use Rattle.std.specs.Prelude.{◌≡◌, ◌≢◌, ℕ, Bool, ◌+◌, ◌-◌, ◌<◌, ◌≤◌, ◌⊎◌, List, [], ◌∷◌, ◌++◌, length, Option, Some, None}
use Rattle.std.specs.Option.{option_or}
use Rattle.atomic_table.specs.Table.{Me, Step, rest}
use Rattle.ocr_base.specs.Mail.{named, tally, without}
use Rattle.ocr_turns_rule.specs.Meaning.{Meaning, Open}
use Rattle.ocr_turns_rule.specs.Rule.{Fits, Over, OPEN}
use Rattle.ocr_turns_rule.specs.Sums.{AreBelow, less_all, remove_at, replace_all, sum_of, weigh}
use Rattle.ocr_turns_rule.specs.Counts.{TURNS, debts_by, is_true, leaves}
use Rattle.ocr_turns_rule.specs.Debts.{no_debts, both_debts, without_all, AreInRange}
use Rattle.ocr_turns_rule.specs.Units.{one_each}
use Rattle.ocr_turns_rule.specs.declared.debts.Debts.{Debts}
use Rattle.ocr_turns_rule.specs.declared.view.View.{View}
use Rattle.ocr_turns_rule.specs.declared.view.Terms.{Terms}

-- the unit of a message that is delivered
abbrev pub delivered : Option (ℕ × ℕ) → ℕ
delivered None = 0
delivered (Some name) = 1

abbrev pub limit_of : {G : Type 0} → Option (Terms G) → ℕ
limit_of None = 0
limit_of (Some t) = t.limit

-- what a commit writes: its entry, the parts of the entry's places, the messages sent, and what
-- follows from the entry
pub record Deed (E P N F : Type 0) : Type 0 where
  pub entry : E
  pub weight : ℕ
  pub parts : List (ℕ × P)
  pub delivers : Option (ℕ × ℕ)
  pub sends : List N
  pub makes : List ℕ
  pub learns : List F
  -- what it adds to what is owed, and the EDTs whose claim it ends
  pub debts : Debts
  pub leaves : ℕ → Bool

-- The units that an entry needs: for the messages that it sends, the slot that it sets, the EDT
-- that it makes, and the EDTs that it resumes.
abbrev pub needed : {E P N F : Type 0} → Deed E P N F → ℕ
needed d = length d.sends + (tally one_each d.debts.unput + (weigh
    one_each d.debts.made + sum_of one_each d.debts.resumes))

abbrev pub deed : {G E P N F : Type 0} → Meaning G E P N F → ℕ → View G E P N F → E → List (ℕ × P)
    → List N → Deed E P N F
deed m limit v e ps ms = record {
  entry = e;
  weight = m.heavy e;
  parts = ps;
  delivers = m.delivers e;
  sends = ms;
  makes = m.makes e;
  learns = m.learns limit e v.parts;
  debts = debts_by m e (m.counting.wakes limit e v.parts) (m.counting.counts limit e v.parts);
  leaves = leaves m e;
}

module _ {G E P N F : Type 0} where
  -- THE VIEWS
  -- of the first seat, the root's
  abbrev pub rooted : Terms G → View G E P N F
  rooted t = record {
    terms = Some t;
    log = [];
    joined = [];
    parts = [];
    owed = [];
    facts = [];
    drawn = [];
    full = None;
    reached = None;
    filled = 0;
    ended = 0;
    carried = None;
    weight = 0;
    seats = 1;
    quota = t.seats - 1;
    shut = 0;
    closed = None;
    root = 1;
    seat = 0;
    out = 0;
    debts = no_debts;
    claims = [];
    spares = 1;
    raised = 0;
    gained = 0;
    live = None;
    quiet = None;
  }

  -- the units that an entry ends: that of the message that it delivers, and those of claims
  abbrev pub freed : View G E P N F → Deed E P N F → ℕ
  freed v d = delivered d.delivers + sum_of (λ n. is_true (d.leaves n)) v.claims

  -- after an entry
  abbrev pub logged : View G E P N F → ℕ → Deed E P N F → View G E P N F
  logged v n d = record v {
    log = v.log ++ (n, d.entry) ∷ [];
    weight = v.weight + d.weight;
    parts = replace_all d.parts v.parts;
    owed = without d.delivers v.owed ++ named n 0 d.sends;
    drawn = less_all d.makes v.drawn;
    facts = v.facts ++ d.learns;
    debts = both_debts v.debts d.debts;
    claims = without_all d.leaves v.claims;
    spares = v.spares + freed v d - needed d;
  }

  -- after an entry that ends the run, with the facts that it tells
  abbrev pub ended_by : View G E P N F → ℕ → E → List F → View G E P N F
  ended_by v n e fs = record v {
    log = v.log ++ (n, e) ∷ [];
    facts = v.facts ++ fs;
    ended = v.ended + 1;
  }

  -- once the commit word was read as n, past the end of the run
  abbrev pub shut_by : View G E P N F → ℕ → View G E P N F
  shut_by v n = record v { closed = Some n; shut = v.shut + 1 }

  abbrev pub with_drawn : View G E P N F → ℕ → View G E P N F
  with_drawn v n = record v { drawn = v.drawn ++ n ∷ [] }

  -- once the draw word was read as n, where no number was left
  abbrev pub filled_by : View G E P N F → ℕ → View G E P N F
  filled_by v n = record v { full = Some n; reached = Some n; filled = v.filled + 1 }

  abbrev pub with_part : View G E P N F → ℕ → P → View G E P N F
  with_part v p x = record v { parts = v.parts ++ (p, x) ∷ [] }

  abbrev pub without_part : View G E P N F → ℕ → View G E P N F
  without_part v p = record v { parts = remove_at p v.parts }

  -- of a new seat, and of the root that made it
  abbrev pub fresh : View G E P N F → View G E P N F
  fresh v = record {
    terms = v.terms;
    log = [];
    joined = [];
    parts = [];
    owed = [];
    facts = [];
    drawn = [];
    full = None;
    reached = None;
    filled = 0;
    ended = 0;
    carried = None;
    weight = 0;
    seats = 1;
    quota = 0;
    shut = 0;
    closed = None;
    root = 0;
    seat = 1;
    out = 0;
    debts = no_debts;
    claims = [];
    spares = 0;
    raised = 0;
    gained = 0;
    live = None;
    quiet = None;
  }

  abbrev pub parted : View G E P N F → View G E P N F
  parted v = record v { quota = v.quota - 1; out = v.out + 1 }

  -- the same where one spare unit goes with the new seat
  abbrev pub fresh_spare : View G E P N F → View G E P N F
  fresh_spare v = record (fresh v) { spares = 1 }

  abbrev pub parted_spare : View G E P N F → View G E P N F
  parted_spare v = record (parted v) { spares = v.spares - 1 }

  -- of the root that a seat was joined into, and what is left of the other
  abbrev pub gathered : View G E P N F → View G E P N F → View G E P N F
  gathered v w = record v {
    joined = v.joined ++ w.log ∷ w.joined;
    parts = v.parts ++ w.parts;
    owed = v.owed ++ w.owed;
    facts = v.facts ++ w.facts;
    drawn = v.drawn ++ w.drawn;
    reached = option_or v.reached w.reached;
    filled = v.filled + w.filled;
    ended = v.ended + w.ended;
    seats = v.seats + w.seats;
    quota = v.quota + w.quota;
    shut = v.shut + w.shut;
    closed = option_or v.closed w.closed;
    out = v.out - 1;
    debts = both_debts v.debts w.debts;
    claims = v.claims ++ w.claims;
    spares = v.spares + w.spares;
    gained = v.gained + (w.raised + w.gained);
    quiet = option_or v.quiet w.quiet;
  }

  abbrev pub spent_view : View G E P N F
  spent_view = record {
    terms = None;
    log = [];
    joined = [];
    parts = [];
    owed = [];
    facts = [];
    drawn = [];
    full = None;
    reached = None;
    filled = 0;
    ended = 0;
    carried = None;
    weight = 0;
    seats = 0;
    quota = 0;
    shut = 0;
    closed = Some 0;
    root = 0;
    seat = 0;
    out = 0;
    debts = no_debts;
    claims = [];
    spares = 0;
    raised = 0;
    gained = 0;
    live = None;
    quiet = None;
  }

  -- WHAT A STEP TELLS of the history
  -- some history so far is one that the view fits
  abbrev pub Sees : Meaning G E P N F → View G E P N F → Type 0
  Sees m w = (t : Terms G) → w.terms ≡ Some t → w.closed ≡ None → (J : List E) × Fits m t J w

  -- some history so far is one that both views fit
  abbrev pub SeesBoth : Meaning G E P N F → View G E P N F → View G E P N F → Type 0
  SeesBoth m v w = (t : Terms G) → w.terms ≡ Some t → w.closed ≡ None → (J : List E) × Fits m t J v
      × Fits m t J w

  -- some history so far is one that the view fits, and it has not ended
  abbrev pub SeesOpen : Meaning G E P N F → View G E P N F → Type 0
  SeesOpen m w = (t : Terms G) → w.terms ≡ Some t → w.closed ≡ None → (J : List E) × Fits m t J w
      × Open m.stops J

  -- the history has ended
  abbrev pub SeesEnd : Meaning G E P N F → View G E P N F → Type 0
  SeesEnd m w = (t : Terms G) → w.terms ≡ Some t → (J : List E) × Over m t J w

  -- THE STEPS, from the seat m to the seat w, where the word was n
  -- The commit word was open, and the seat has the view after the step, or the run had ended.
  abbrev pub tries : Meaning G E P N F → View G E P N F → Type 0 → Me (Option P) (View G E P N F)
      → ℕ → Me (Option P) (View G E P N F) → Type 0
  tries mg after told m n w = (w.1 ≡ m.1) × (((n < OPEN) × (w.0 ≡ after) × told) ⊎
      ((OPEN ≤ n) × (w.0 ≡ shut_by m.0 n) × SeesEnd mg w.0))

  abbrev pub commits : Meaning G E P N F → Option (Deed E P N F) → Me (Option P) (View G E P N F)
      → ℕ → Me (Option P) (View G E P N F) → Type 0
  commits mg None m n w = Unit {0}
  commits mg (Some d) m n w = tries mg (logged m.0 n d) (Sees mg w.0 ×
      AreInRange (limit_of m.0.terms) d.debts []) m n w

  abbrev pub closes : Meaning G E P N F → Option (E × List F) → Me (Option P) (View G E P N F) → ℕ
      → Me (Option P) (View G E P N F) → Type 0
  closes mg None m n w = Unit {0}
  closes mg (Some c) m n w = tries mg (ended_by m.0 n c.0 c.1) (SeesEnd mg w.0) m n w

  abbrev pub looks : Meaning G E P N F → Me (Option P) (View G E P N F) → ℕ → Me (Option P)
      (View G E P N F) → Type 0
  looks mg m n w = tries mg m.0 (SeesOpen mg w.0) m n w

  -- A number that is drawn comes after those that the seat drew before and did not use.
  abbrev pub draws_from : Meaning G E P N F → Me (Option P) (View G E P N F) → ℕ → Me (Option P)
      (View G E P N F) → Type 0
  draws_from mg m n w = (w.1 ≡ m.1) × (((n < limit_of m.0.terms) × (w.0 ≡ with_drawn m.0 (n + 1))
      × Sees mg w.0 × AreBelow (n + 1) m.0.drawn)
      ⊎ ((limit_of m.0.terms ≤ n) × (w.0 ≡ filled_by m.0 n)))

  -- A try to take a part: where the word was 0 the place is kept, with the part that stands there,
  -- and its slot is carried. The history is the same before and after.
  abbrev pub takes_part : Meaning G E P N F → Step (Option P) → Me (Option P) (View G E P N F) → ℕ
      → Me (Option P) (View G E P N F) → Type 0
  takes_part mg s m n w =
      (n ≡ 0 → (p : ℕ) × (x : P) × (s.word ≡ p + TURNS) × (w.0 ≡ record m.0 {
        parts = m.0.parts ++
            (p, x) ∷ [];
        carried = Some p;
      }) × (w.1 ≡ (p, Some x) ∷ m.1) × SeesBoth mg m.0 w.0)
      × (n ≢ 0 → w ≡ m)

  -- the carried slot goes home, empty
  abbrev pub settles : Me (Option P) (View G E P N F) → Me (Option P) (View G E P N F) → Type 0
  settles m w = (w.0 ≡ record m.0 { carried = None }) × (w.1 ≡ rest m.1)

  -- A part goes home by two steps: its empty slot comes, and goes filled.
  abbrev pub fetches : Step (Option P) → Me (Option P) (View G E P N F) → Me (Option P)
      (View G E P N F) → Type 0
  fetches s m w = (p : ℕ) × (s.word ≡ p + TURNS) × (w.0 ≡ record m.0 { carried = Some p }) × (w.1 ≡
      (p, None) ∷ m.1)

  abbrev pub gives_back : Step (Option P) → Me (Option P) (View G E P N F) → Me (Option P)
      (View G E P N F) → Type 0
  gives_back s m w = (p : ℕ) × (s.word ≡ p + TURNS) × (w.0 ≡ record m.0 {
    carried = None;
    parts = remove_at p m.0.parts;
  }) × (w.1 ≡ rest m.1)
