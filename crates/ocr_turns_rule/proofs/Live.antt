-- The steps on the live word are allowed, and what they tell.
use Rattle.std.proofs.Common.{◌≡◌, ◌≢◌, ℕ, ◌+◌, ◌*◌, ◌-◌, ◌%◌, ◌<◌, ◌≤◌, ⊎_elim, List, length, reverse, refl, ap, sym, subst, ◌∙◌, arith, get_or-set_same, get_or-set_other, None, Some, Option}
use Rattle.std.specs.Prelude.{slice_index, slice_set, MatchOption}
use Rattle.std.proofs.Math.ListN.{length-set}
use Rattle.std.proofs.lemmas.List.{set-get_or}
use mathlib.Core.Option.{some}
use lib.ListN.{get_elem?}
use Rattle.atomic_table.specs.Table.{State, Me, Allows, keeps}
use Rattle.ocr_turns_rule.specs.Counts.{Counted}
use Rattle.ocr_turns_rule.specs.Live.{raising, lowering, reading, stilled, MayLive, MayRaise, MayLower, LiveTells, count_lived, steps_live}
use Rattle.ocr_turns_rule.specs.Meaning.{Meaning}
use Rattle.ocr_turns_rule.specs.Rule.{Alive, Holds, IsStill, Kept, Lively}
use Rattle.ocr_turns_rule.specs.Sums.{total}
use Rattle.ocr_turns_rule.specs.Units.{MOST_RAISED, ready_count, units}
use Rattle.ocr_turns_rule.specs.Words.{Knows}
use Rattle.ocr_turns_rule.specs.declared.view.View.{View}
use Rattle.ocr_turns_rule.specs.declared.view.Terms.{Terms}
use Rattle.ocr_turns_rule.specs.declared.words.LiveStep.{LiveStep}
use Rattle.ocr_turns_rule.specs.declared.words.LiveStep.TheVariants as step
use Rattle.ocr_turns_rule.proofs.Apart.{counted_beside}
use Rattle.ocr_turns_rule.proofs.Commits.{ended_shut}
use Rattle.ocr_turns_rule.proofs.Bounds.{same_terms, short, stepped_at}
use Rattle.ocr_turns_rule.proofs.Same.{after, ledger_same, numbers_same, places_same, roster_same, owed_same, seated_each}
use Rattle.ocr_turns_rule.proofs.Steps.{knows}
use Rattle.ocr_turns_rule.proofs.Still.{still}
use Rattle.ocr_turns_rule.proofs.Totals.{total_one, total_set}
use Rattle.ocr_turns_rule.proofs.Units.{raised_most, alive_after, others_live, ready_same, some_live}

module _ {G E P N F : Type 0} (m : Meaning G E P N F) (t : Terms G) (slots id : ℕ) (me : Me (Option P) (View G E P N F)) (is_out : 0 < me.0.root + me.0.seat) where
  abbrev Vs : Type 0
  Vs = View G E P N F

  -- what a step on the live word changes of the view
  abbrev with_life : ℕ → ℕ → Option ℕ → Option ℕ → Vs
  with_life sp ra li qu = record me.0 { spares = sp; raised = ra; live = li; quiet = qu }

  abbrev pub LiveGoal : LiveStep → ℕ → (ℕ → ℕ) → Type 0
  LiveGoal chosen i f = Allows (Holds m t) slots id me i f (λ x w. steps_live m (Some chosen) me x w)

  module _ (s : State (Option P) Vs) (h : Holds m t s) (at : get_elem? s.views id ≡ some me.0) where
    -- a step on a word before the turn words, which is neither the draw word nor changes the commit word
    kept_live : (i x : ℕ) → i < 24 → 8 ≢ i → slice_index (slice_set s.words i x) 0 ≡ slice_index s.words 0 → (sp ra : ℕ) (li qu : Option ℕ) → Kept m t h.history (after s (slice_set s.words i x) s.homes id (with_life sp ra li qu))
    kept_live i x lt no_draw first sp ra li qu =
        let w : Vs = with_life sp ra li qu in let ws : List ℕ = slice_set s.words i x in let k = h.kept in let J = h.history in
        let other : (j : ℕ) → j ≢ i → slice_index ws j ≡ slice_index s.words j = λ j ne. get_or-set_other s.words i j x 0 ne in
        let seat = k.seated id me.0 at in record {
          limits = k.limits;
          share = k.share;
          ledger = ledger_same m t J s id me.0 w at ws s.homes k.ledger first (λ f. refl) refl refl;
          numbers = numbers_same m t J s id me.0 w at ws s.homes k.numbers (other 8 no_draw) (λ f. refl) refl refl;
          places = places_same m t J s id me.0 w at ws s.homes J refl (length-set s.words i x) (λ p _. other (p + 24) (λ e. absurd (omega arith))) (λ p. refl) (λ p _ _. refl) k.places;
          owed = owed_same m t J s id me.0 w at ws s.homes k.owed (λ f. refl);
          roster = roster_same m t J s id me.0 w at ws s.homes k.roster refl refl refl refl refl;
          seated = seated_each m t J s id me.0 w at ws s.homes J
              (record { log = seat.log; joined = seat.joined; rises = seat.rises; all_rise = seat.all_rise; parts = seat.parts; facts = seat.facts; sent = seat.sent; own = seat.own; weight = seat.weight; light = seat.light; bounded = seat.bounded; filled = seat.filled; shut = seat.shut; empty = seat.empty; spent = λ z. absurd (omega arith); terms = seat.terms; not_root = seat.not_root; over = seat.over })
              (λ j u ne u_at. k.seated j u u_at);
        }

    counted_live : (i x : ℕ) → i < 24 → (sp ra : ℕ) (li qu : Option ℕ) → Counted m t (reverse h.history) (after s (slice_set s.words i x) s.homes id (with_life sp ra li qu))
    counted_live i x lt sp ra li qu = counted_beside m t (reverse h.history) s h.counted id me.0 (with_life sp ra li qu) at refl refl is_out (λ p. omega arith) (λ q b. b) i x s.homes (omega arith) refl

    enough_words : 24 < length s.words + 1
    enough_words = let w = h.kept.places.words in omega arith

    -- THE LIVE WORD becomes x
    module _ (x : ℕ) (w : Vs) where
      live_here : slice_index (slice_set s.words 16 x) 16 ≡ x
      live_here = let enough = enough_words in get_or-set_same s.words 16 x 0 (omega arith)

      first_here : slice_index (slice_set s.words 16 x) 0 ≡ slice_index s.words 0
      first_here = get_or-set_other s.words 16 0 x 0 (λ e. absurd (omega arith))

      ready_here : ready_count (slice_set s.words 16 x) (length s.homes) t.limit ≡ ready_count s.words (length s.homes) t.limit
      ready_here = ready_same s.words (slice_set s.words 16 x) (length s.homes) t.limit (λ j beyond. get_or-set_other s.words 16 j x 0 (λ e. absurd (omega arith)))

      alive_here : x + units me.0 ≡ slice_index s.words 16 + units w → x + (me.0.raised + me.0.gained) ≤ slice_index s.words 16 + (w.raised + w.gained) → w.ended ≡ me.0.ended
          → Lively m t h.history x w → ((i : ℕ) (u : Vs) → i ≢ id → get_elem? s.views i ≡ some u → Lively m t h.history x u)
          → Alive m t h.history (after s (slice_set s.words 16 x) s.homes id w)
      alive_here sum most ended mine others =
          let live = live_here in let first = first_here in let ready = ready_here in
          alive_after m t h.history s h.alive id me.0 w at h.history (slice_set s.words 16 x) s.homes refl (omega arith) (omega arith)
          (λ past. let to = total_set (λ (u : Vs). u.ended) s.views id me.0 w at in let old = h.alive.stopped (omega arith) in omega arith)
          (subst (λ y. Lively m t h.history y w) (sym live) mine)
          (λ i u ne u_at. subst (λ y. Lively m t h.history y u) (sym live) (others i u ne u_at))

    -- what is left of a live word of 0
    fallen_quiet : (o : Option ℕ) (x y n : ℕ) → (x ≡ 0 → y ≡ 0) → MatchOption o (Unit {0}) (λ k. (x ≡ 0) × (n ≡ k)) → MatchOption o (Unit {0}) (λ k. (y ≡ 0) × (n ≡ k))
    fallen_quiet None x y n falls z = tt
    fallen_quiet (Some k) x y n falls z = (falls z.0, z.1)

    fallen : (x : ℕ) (u : Vs) → (slice_index s.words 16 ≡ 0 → x ≡ 0) → Lively m t h.history (slice_index s.words 16) u → Lively m t h.history x u
    fallen x u falls old = record { raised = old.raised; gained = old.gained; stop = old.stop; still = λ z. falls (old.still z); quiet = fallen_quiet u.quiet (slice_index s.words 16) x (length h.history) falls old.quiet; spent = old.spent }

  -- the step is allowed where it is at every table of as many slots
  allowed : (chosen : LiveStep) (i : ℕ) (f : ℕ → ℕ)
      → ((s : State (Option P) Vs) (h : Holds m t s) → get_elem? s.views id ≡ some me.0
      → (w : Vs) × Holds m t record { words = slice_set s.words i (f (slice_index s.words i)); homes = s.homes; views = slice_set s.views id w } × LiveTells m chosen me.0 (slice_index s.words i) w)
      → LiveGoal chosen i f
  allowed chosen i f each s h len at _ = let r = each s h at in (r.0, keeps, tt, r.1, (refl, r.2))

  -- A RAISE
  pub allows_raise : (n : ℕ) → MayRaise me.0 n → LiveGoal (step.Raise n) 16 (λ x. (x + n) % 18446744073709551616)
  allows_raise n may = allowed (step.Raise n) 16 (λ x. (x + n) % 18446744073709551616) (λ s h at.
      let x : ℕ = slice_index s.words 16 in let w : Vs = raising me.0 n in let few = may.1 in
      let bound = raised_most m t h.history s h.kept h.alive id me.0 at is_out w refl refl few in
      let to = total_set (λ (u : Vs). u.raised + u.gained) s.views id me.0 w at in let most = h.alive.most in
      let y : ℕ = (x + n) % 18446744073709551616 in
      let is : y ≡ x + n = omega arith in
      let some_unit = some_live m t h.history s h.alive id me.0 w at may.0 in let old = h.alive.each id me.0 at in
      let mine = others_live m t h.history s h.alive id me.0 w at h.history y me.0 some_unit old in (
        w,
        record {
          history = h.history;
          kept = kept_live s h at 16 y (omega arith) (λ e. absurd (omega arith)) (first_here s h at y w) w.spares w.raised w.live w.quiet;
          counted = counted_live s h at 16 y (omega arith) w.spares w.raised w.live w.quiet;
          alive = alive_here s h at y w (omega arith) (omega arith) refl
              (record { raised = few; gained = mine.gained; stop = λ some_end. let z = mine.stop some_end in omega arith; still = mine.still; quiet = mine.quiet; spent = λ z. absurd (omega arith) })
              (λ i u ne u_at. others_live m t h.history s h.alive id me.0 w at h.history y u some_unit (h.alive.each i u u_at));
        },
        (refl, (let one = total_one (λ (u : Vs). units u) s.views id me.0 at in let word = h.alive.word in omega arith)),
      ))

  -- A LOWER
  pub allows_lower : (n : ℕ) → n < 18446744073709551616 → MayLower me.0 n → LiveGoal (step.Lower n) 16 (λ x. (x + (18446744073709551616 - n)) % 18446744073709551616)
  allows_lower n small may = allowed (step.Lower n) 16 (λ x. (x + (18446744073709551616 - n)) % 18446744073709551616) (λ s h at.
      let x : ℕ = slice_index s.words 16 in let w : Vs = lowering me.0 n in let spare = may.0 in
      let one = total_one (λ (u : Vs). units u) s.views id me.0 at in let word = h.alive.word in
      let bound = raised_most m t h.history s h.kept h.alive id me.0 at is_out me.0 refl refl (h.alive.each id me.0 at).raised in
      let to = total_set (λ (u : Vs). u.raised + u.gained) s.views id me.0 me.0 at in let most = h.alive.most in
      let y : ℕ = (x + (18446744073709551616 - n)) % 18446744073709551616 in
      let is : y + n ≡ x = omega arith in
      let falls : x ≡ 0 → y ≡ 0 = λ z. omega arith in
      let mine = fallen s h at y me.0 falls (h.alive.each id me.0 at) in (
        w,
        record {
          history = h.history;
          kept = kept_live s h at 16 y (omega arith) (λ e. absurd (omega arith)) (first_here s h at y w) w.spares w.raised w.live w.quiet;
          counted = counted_live s h at 16 y (omega arith) w.spares w.raised w.live w.quiet;
          alive = alive_here s h at y w (omega arith) (omega arith) refl
              (record { raised = mine.raised; gained = mine.gained; stop = λ some_end. let z = may.1 some_end in omega arith; still = mine.still; quiet = mine.quiet; spent = λ z. absurd (omega arith) })
              (λ i u ne u_at. fallen s h at y u falls (h.alive.each i u u_at));
        },
        (refl, (omega arith)),
      ))

  -- the words after a step that leaves what it finds
  same_words : (s : State (Option P) Vs) (i j : ℕ) → slice_index (slice_set s.words i (slice_index s.words i)) j ≡ slice_index s.words j
  same_words s i j = ap (λ l. slice_index l j) (set-get_or s.words i 0)

  -- A READ of the live word
  pub allows_look : LiveGoal step.Read 16 (λ x. x)
  allows_look = allowed step.Read 16 (λ x. x) (λ s h at.
      let x : ℕ = slice_index s.words 16 in let w : Vs = reading me.0 x in let old = h.alive.each id me.0 at in (
        w,
        record {
          history = h.history;
          kept = kept_live s h at 16 x (omega arith) (λ e. absurd (omega arith)) (same_words s 16 0) w.spares w.raised w.live w.quiet;
          counted = counted_live s h at 16 x (omega arith) w.spares w.raised w.live w.quiet;
          alive = alive_here s h at x w (omega arith) (omega arith) refl
              (record { raised = old.raised; gained = old.gained; stop = old.stop; still = λ z. some_same z; quiet = old.quiet; spent = λ z. absurd (omega arith) })
              (λ i u ne u_at. h.alive.each i u u_at);
        },
        refl,
      ))
    where
      some_same : {a b : ℕ} → ◌≡◌ {A = Option ℕ} (Some a) (Some b) → a ≡ b
      some_same e = cc e

  -- THE NUMBER OF ENTRIES, once the live word was read as 0
  pub allows_entries : me.0.live ≡ Some 0 → LiveGoal step.Entries 0 (λ x. x)
  allows_entries zero_live = allowed step.Entries 0 (λ x. x) (λ s h at.
      let n : ℕ = slice_index s.words 0 in let w : Vs = stilled me.0 n in let old = h.alive.each id me.0 at in let J = h.history in
      let none : slice_index s.words 16 ≡ 0 = old.still zero_live in
      let quiet : IsStill m t J = still m t J s h.kept h.counted h.alive none in
      let len : length J ≡ n = ⊎_elim (λ z. sym z.0) (λ z. absurd (ended_shut m.stops J quiet.unended z.1)) h.kept.ledger.word in
      let lim = short m t J s h.kept in let sh = h.kept.share in
      let same : slice_set s.words 0 n ≡ s.words = set-get_or s.words 0 0 in
      let kept = kept_live s h at 0 n (omega arith) (λ e. absurd (omega arith)) (same_words s 0 0) w.spares w.raised w.live w.quiet in
      let counted = counted_live s h at 0 n (omega arith) w.spares w.raised w.live w.quiet in
      let word_is = same_words s 0 16 in let first_is = same_words s 0 0 in let ready = ap (λ l. ready_count l (length s.homes) t.limit) same in
      let alive : Alive m t J (after s (slice_set s.words 0 n) s.homes id w) = alive_after m t J s h.alive id me.0 w at J (slice_set s.words 0 n) s.homes refl (omega arith) (omega arith)
      (λ past. let to = total_set (λ (u : Vs). u.ended) s.views id me.0 w at in let before = h.alive.stopped (omega arith) in omega arith)
      (subst (λ y. Lively m t J y w) (sym word_is) (record { raised = old.raised; gained = old.gained; stop = old.stop; still = old.still; quiet = (none, len); spent = λ z. absurd (omega arith) }))
      (λ i u ne u_at. subst (λ y. Lively m t J y u) (sym word_is) (h.alive.each i u u_at)) in (
        w,
        record { history = J; kept = kept; counted = counted; alive = alive },
        (
          (omega arith),
          refl,
          λ t' terms. subst (λ q. (K : List E) × Knows m q K w × (length K ≡ n) × IsStill m q K) (same_terms t t' (sym ((h.kept.seated id me.0 at).terms is_out) ∙ terms))
              (J, knows m t J (after s (slice_set s.words 0 n) s.homes id w) kept counted id w (stepped_at s.views id me.0 w at), len, quiet),
        ),
      ))

-- such a step changes what the view has to spare, what it raised and what it knows of the live word alone
pub lived_view : {G E P N F : Type 0} (m : Meaning G E P N F) (chosen : LiveStep) (v : View G E P N F) (x : ℕ) (w : View G E P N F) → LiveTells m chosen v x w
    → (sp : ℕ) × (ra : ℕ) × (li : Option ℕ) × (qu : Option ℕ) × (w ≡ record v { spares = sp; raised = ra; live = li; quiet = qu })
lived_view m (step.Raise n) v x w is = (v.spares + n, v.raised + n, v.live, v.quiet, is.0)
lived_view m (step.Lower n) v x w is = (v.spares - n, v.raised, v.live, v.quiet, is.0)
lived_view m step.Read v x w is = (v.spares, v.raised, Some x, v.quiet, is)
lived_view m step.Entries v x w is = (v.spares, v.raised, v.live, Some x, is.1)

pub lived_units : {G E P N F : Type 0} (m : Meaning G E P N F) (chosen : LiveStep) (v : View G E P N F) (x : ℕ) (w : View G E P N F) → MayLive v chosen → LiveTells m chosen v x w → units w ≡ count_lived chosen (units v)
lived_units m (step.Raise n) v x w may is = let same = ap units is.0 in omega arith
lived_units m (step.Lower n) v x w may is = let same = ap units is.0 in let few = may.0 in omega arith
lived_units m step.Read v x w may is = ap units is
lived_units m step.Entries v x w may is = ap units is.1

-- a count of them, of 64 bits, after the step
pub lived_fewer : (chosen : LiveStep) (c u : ℕ) → c ≤ u → count_lived chosen c ≤ count_lived chosen u
lived_fewer (step.Raise n) c u le = omega arith
lived_fewer (step.Lower n) c u le = omega arith
lived_fewer step.Read c u le = le
lived_fewer step.Entries c u le = le

pub lived_small : {G E P N F : Type 0} (m : Meaning G E P N F) (chosen : LiveStep) (v : View G E P N F) (x : ℕ) (w : View G E P N F) → LiveTells m chosen v x w → (c : ℕ) → c < 18446744073709551616 → units w ≡ count_lived chosen c → count_lived chosen c < 18446744073709551616
lived_small m (step.Raise n) v x w is c small same = let few = is.1 in omega arith
lived_small m (step.Lower n) v x w is c small same = omega arith
lived_small m step.Read v x w is c small same = small
lived_small m step.Entries v x w is c small same = small
