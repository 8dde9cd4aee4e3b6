-- The steps on the words that count are allowed, and what they tell.
use Rattle.std.proofs.Common.{◌≡◌, ◌≢◌, ℕ, ◌+◌, ◌-◌, ◌%◌, ◌<◌, ◌≤◌, inl, inr, ⊎_elim, false, List, [], ◌∷◌, length, reverse, refl, ap, sym, subst, ◌∙◌, arith, eqb, eq-eqb, ne_eqb, get_or-set_same, get_or-set_other, None, Some, Option}
use Rattle.std.specs.Prelude.{slice_index, slice_set}
use Rattle.std.proofs.Math.ListN.{length-set}
use Rattle.std.proofs.lemmas.List.{set-get_or}
use mathlib.Core.Option.{some}
use mathlib.Core.Logic.{dite}
use native.Mathlib.Decide.{ℕ_discrete}
use lib.ListN.{get_elem?}
use prog.Atomic.{either}
use Rattle.atomic_table.specs.Table.{State, Me, Act, Allows, Valid, carried_after, keeps, stepped}
use Rattle.ocr_base.specs.Mail.{tally}
use Rattle.ocr_turns_rule.specs.Contract.{Loose}
use Rattle.ocr_turns_rule.specs.Counts.{Counted, Found, IsSet, account, slots_of, payload_of, awaited, is_started, state_at, payload_at, READY, BUSY, PARKED}
use Rattle.ocr_turns_rule.specs.Meaning.{Meaning}
use Rattle.ocr_turns_rule.specs.Debts.{times, of_edt, of_slot, owed_slots, making, no_debts}
use Rattle.ocr_turns_rule.specs.Rule.{Alive, Holds, Kept, FactsOf}
use Rattle.ocr_turns_rule.specs.Sums.{is_free, one_at, sum_of}
use Rattle.ocr_turns_rule.specs.Units.{one_each, claim_count, units, ready_count}
use Rattle.ocr_turns_rule.specs.Words.{count_after, MayStep, Knows, SeesWord, SeesReady, HasSlot, IsOver, Waits, StepTells, steps_word, putting, counting_down, counting_made, claiming, unclaiming, resuming, learning}
use Rattle.ocr_turns_rule.specs.declared.debts.Debts.{Debts}
use Rattle.ocr_turns_rule.specs.declared.view.View.{View}
use Rattle.ocr_turns_rule.specs.declared.view.Terms.{Terms}
use Rattle.ocr_turns_rule.specs.declared.words.WordStep.{WordStep}
use Rattle.ocr_turns_rule.specs.declared.words.WordStep.TheVariants as word
use Rattle.ocr_turns_rule.proofs.Totals.{total_one, total_alone, at_append, drop_tally, less_sum, reverse_twice, tally_append, sum_append, weigh_at}
use Rattle.ocr_turns_rule.proofs.Numbered.{weigh_remove}
use Rattle.ocr_turns_rule.proofs.Units.{alive_same, ready_put, ready_set, units_small}
use Rattle.ocr_turns_rule.proofs.Same.{after, ledger_same, numbers_same, places_same, roster_same, owed_same, seated_each}
use Rattle.ocr_turns_rule.proofs.Bounds.{same_terms, fits, fits_carried, sees, stepped_at, spent_others}
use Rattle.ocr_turns_rule.proofs.Accounts.{busy, free_most, not_free, parked, ready}
use Rattle.ocr_turns_rule.proofs.Owed.{total_less, tally_less, spot_less, first_tally, slot_here, tally_at}
use Rattle.ocr_turns_rule.proofs.Slots.{none_is, true_is}
use Rattle.ocr_turns_rule.proofs.Counts as counting
use Rattle.ocr_turns_rule.proofs.Apart.{counted_elsewhere}
use Rattle.ocr_turns_rule.proofs.Claims.{set_all}
use Rattle.ocr_turns_rule.proofs.Beginning.{one_view}

module _ {G E P N F : Type 0} (m : Meaning G E P N F) (t : Terms G) where
  module _ (J : List E) (s : State (Option P) (View G E P N F)) (k : Kept m t J s) (c : Counted m t (reverse J) s) (id : ℕ) (v : View G E P N F) (at : get_elem? s.views id ≡ some v) where
    -- what the view knows
    pub knows : Knows m t J v
    knows = let seat = k.seated id v at in record { run = k.ledger.run; log = seat.log; facts = seat.facts; fits = fits m t J s k id v at c }

    -- what the word of an EDT tells
    pub found : (n : ℕ) → 1 ≤ n → n ≤ t.limit → Found m t (reverse J) v n (slice_index s.words (state_at (length s.homes) n))
    found n lo hi = record {
      account = account m t s.words (length s.homes) s.views (reverse J) n;
      order = c.each n lo hi;
      word_is = refl;
      unset = refl;
      waits = refl;
      started = refl;
      ended = refl;
      mine = total_one (λ (u : View G E P N F). times n u.claims) s.views id v at;
      alone = λ is_root none_out.
          let none : (i : ℕ) (u : View G E P N F) → i ≢ id → get_elem? s.views i ≡ some u → (u.debts ≡ no_debts) × (u.claims ≡ []) = λ i u ne u_at. (c.seated i u u_at).spent (spent_others m t J s k id v at is_root none_out i u ne u_at) in (
            total_alone (λ (u : View G E P N F). making n u.debts.made) s.views id v at (λ i u ne u_at. ap (λ d. making n d.made) (none i u ne u_at).0),
            total_alone (λ (u : View G E P N F). owed_slots (of_edt n) u.debts) s.views id v at (λ i u ne u_at. ap (owed_slots (of_edt n)) (none i u ne u_at).0),
            total_alone (λ (u : View G E P N F). times n u.claims) s.views id v at (λ i u ne u_at. ap (times n) (none i u ne u_at).1),
            total_alone (λ (u : View G E P N F). times n u.debts.resumes) s.views id v at (λ i u ne u_at. ap (λ d. times n d.resumes) (none i u ne u_at).0),
            ap (λ z. z + one_at m.first.0 n) (total_alone (λ (u : View G E P N F). times n u.debts.lasts) s.views id v at (λ i u ne u_at. ap (λ d. times n d.lasts) (none i u ne u_at).0)),
          );
    }

    pub sees_word : 0 < v.root + v.seat → (n : ℕ) → 1 ≤ n → n ≤ t.limit → (x : ℕ) → slice_index s.words (state_at (length s.homes) n) ≡ x → SeesWord m v n x
    sees_word is_out n lo hi x is t' terms = subst (λ q. (K : List E) × Knows m q K v × Found m q (reverse K) v n x) (same_terms t t' (sym ((k.seated id v at).terms is_out) ∙ terms))
        (J, knows, subst (Found m t (reverse J) v n) is (found n lo hi))

  -- a step behind the turn words, which changes what is owed, claimed and known alone, keeps the first rule
  module _ (J : List E) (s : State (Option P) (View G E P N F)) (k : Kept m t J s) (id : ℕ) (v : View G E P N F) (at : get_elem? s.views id ≡ some v) (is_out : 0 < v.root + v.seat) where
    abbrev pub with_all : List F → Debts → List ℕ → ℕ → View G E P N F
    with_all fs d cl sp = record v { facts = fs; debts = d; claims = cl; spares = sp }

    pub kept_beyond : (i x : ℕ) → 24 + length s.homes ≤ i → (fs : List F) (d : Debts) (cl : List ℕ) (sp : ℕ) → FactsOf (m.stands t.setting.value t.limit J) fs → Kept m t J (after s (slice_set s.words i x) s.homes id (with_all fs d cl sp))
    kept_beyond i x past fs d cl sp facts =
        let w : View G E P N F = with_all fs d cl sp in let ws : List ℕ = slice_set s.words i x in
        let other : (j : ℕ) → j < 24 + length s.homes → slice_index ws j ≡ slice_index s.words j = λ j lt. get_or-set_other s.words i j x 0 (λ e. absurd (omega arith)) in
        let seat = k.seated id v at in record {
          limits = k.limits;
          share = k.share;
          ledger = ledger_same m t J s id v w at ws s.homes k.ledger (other 0 (omega arith)) (λ f. refl) refl refl;
          numbers = numbers_same m t J s id v w at ws s.homes k.numbers (other 8 (omega arith)) (λ f. refl) refl refl;
          places = places_same m t J s id v w at ws s.homes J refl (length-set s.words i x) (λ p lt. other (p + 24) (omega arith)) (λ p. refl) (λ p _ _. refl) k.places;
          owed = owed_same m t J s id v w at ws s.homes k.owed (λ f. refl);
          roster = roster_same m t J s id v w at ws s.homes k.roster refl refl refl refl refl;
          seated = seated_each m t J s id v w at ws s.homes J
              (record { log = seat.log; joined = seat.joined; rises = seat.rises; all_rise = seat.all_rise; parts = seat.parts; facts = facts; sent = seat.sent; own = seat.own; weight = seat.weight; light = seat.light; bounded = seat.bounded; filled = seat.filled; shut = seat.shut; empty = seat.empty; spent = λ z. absurd (omega arith); terms = seat.terms; not_root = seat.not_root; over = seat.over })
              (λ j u ne u_at. k.seated j u u_at);
        }

  -- a step of this seat on this word keeps the rule, where the second rule is kept
  module _ (slots id : ℕ) (me : Me (Option P) (View G E P N F)) (is_out : 0 < me.0.root + me.0.seat) where
    abbrev Vs : Type 0
    Vs = View G E P N F

    abbrev pub Goal : ℕ → WordStep → (ℕ → ℕ) → (ℕ → ℕ) → Type 0
    Goal n chosen word f = Allows (Holds m t) slots id me (word slots) f (λ x w. steps_word m (Some (n, chosen)) me x w)

    -- The step is allowed where it is at every table of as many slots.
    allowed : (n : ℕ) (chosen : WordStep) (word : ℕ → ℕ) (f : ℕ → ℕ)
        → ((s : State (Option P) Vs) (h : Holds m t s) → get_elem? s.views id ≡ some me.0
        → (w : Vs) × Holds m t record { words = slice_set s.words (word (length s.homes)) (f (slice_index s.words (word (length s.homes)))); homes = s.homes; views = slice_set s.views id w } × StepTells m n chosen me.0 (slice_index s.words (word (length s.homes))) w)
        → Goal n chosen word f
    allowed n chosen word f each s h len at _ =
        let r = each s h at in
        subst (λ z. (w : Vs) × (a : Act (Option P)) × Valid s.homes me.1 a × Holds m t (stepped s (word z) (f (slice_index s.words (word z))) id me.1 w a) × steps_word m (Some (n, chosen)) me (slice_index s.words (word z)) (w, carried_after me.1 a)) len
        (r.0, keeps, tt, r.1, (refl, r.2))

    -- the facts of the seat
    facts_at : (s : State (Option P) Vs) (h : Holds m t s) → get_elem? s.views id ≡ some me.0 → FactsOf (m.stands t.setting.value t.limit h.history) me.0.facts
    facts_at s h at = (h.kept.seated id me.0 at).facts

    kept_with : (s : State (Option P) Vs) (h : Holds m t s) → get_elem? s.views id ≡ some me.0 → (i x : ℕ) → 24 + length s.homes ≤ i → (d : Debts) (cl : List ℕ) (sp : ℕ)
        → Kept m t h.history record { words = slice_set s.words i x; homes = s.homes; views = slice_set s.views id record me.0 { debts = d; claims = cl; spares = sp } }
    kept_with s h at i x past d cl sp = kept_beyond h.history s h.kept id me.0 at is_out i x past me.0.facts d cl sp (facts_at s h at)

    -- the same of the live word, where the sum of the units and the ready EDTs stays
    alive_with : (s : State (Option P) Vs) (h : Holds m t s) → get_elem? s.views id ≡ some me.0 → (i x : ℕ) → 24 + length s.homes ≤ i → (fs : List F) (d : Debts) (cl : List ℕ) (sp : ℕ)
        → units (record me.0 { facts = fs; debts = d; claims = cl; spares = sp }) + ready_count (slice_set s.words i x) (length s.homes) t.limit ≡ units me.0 + ready_count s.words (length s.homes) t.limit
        → me.0.spares + claim_count me.0 ≤ sp + sum_of one_each cl
        → Alive m t h.history record { words = slice_set s.words i x; homes = s.homes; views = slice_set s.views id record me.0 { facts = fs; debts = d; claims = cl; spares = sp } }
    alive_with s h at i x past fs d cl sp sum stake =
        let w : Vs = record me.0 { facts = fs; debts = d; claims = cl; spares = sp } in
        let other : (j : ℕ) → j < 24 + length s.homes → slice_index (slice_set s.words i x) j ≡ slice_index s.words j = λ j lt. get_or-set_other s.words i j x 0 (λ e. absurd (omega arith)) in
        alive_same m t h.history s h.alive id me.0 w at (refl, refl) refl stake (refl, refl) (refl, refl, refl) is_out (slice_set s.words i x) s.homes refl (other 16 (omega arith)) (λ past_end. let same = other 0 (omega arith) in omega arith) sum

    pub allows_put : (n k x j : ℕ) → get_elem? me.0.debts.unput j ≡ some (n, k, x) → Goal n (word.Put k x) (λ z. payload_at z n k) (λ _. x)
    allows_put n k x j owes = allowed n (word.Put k x) (λ z. payload_at z n k) (λ _. x) (λ s h at. (
      putting me.0 n k x,
      record {
        history = h.history;
        kept = kept_with s h at (payload_at (length s.homes) n k) x (omega arith) (putting me.0 n k x).debts me.0.claims me.0.spares;
        counted = counting.put_kept m t (reverse h.history) s h.counted id me.0 at is_out n k x j owes;
        alive = alive_with s h at (payload_at (length s.homes) n k) x (omega arith) me.0.facts (putting me.0 n k x).debts me.0.claims me.0.spares
            (let r = counting.put_range m t (reverse h.history) s h.counted id me.0 at is_out n k x j owes in
            let a = counting.same_owed m t (reverse h.history) s h.counted id me.0 at is_out n k x j owes one_each in
            let b = ready_put s.words (length s.homes) t.limit (payload_at (length s.homes) n k) x (λ b lo _. counting.payload_no_state (length s.homes) n k b r.0 r.2 lo) in omega arith)
            (omega arith);
      },
      refl,
    ))

    -- an EDT's word, after a step on it
    at_state : (s : State (Option P) Vs) (h : Holds m t s) (n x : ℕ) → 1 ≤ n → n ≤ t.limit → slice_index (slice_set s.words (state_at (length s.homes) n) x) (state_at (length s.homes) n) ≡ x
    at_state s h n x lo hi = get_or-set_same s.words (state_at (length s.homes) n) x 0 (let w = h.counted.words in omega arith)

    inside : (s : State (Option P) Vs) (h : Holds m t s) (n : ℕ) → 1 ≤ n → n ≤ t.limit → state_at (length s.homes) n < length s.words
    inside s h n lo hi = let w = h.counted.words in omega arith

    pub allows_count : (n : ℕ) → 1 ≤ tally (of_edt n) me.0.debts.put → Goal n word.Count (λ z. state_at z n) (λ x. (x + 18446744073709551615) % 18446744073709551616)
    allows_count n owes = allowed n word.Count (λ z. state_at z n) (λ x. (x + 18446744073709551615) % 18446744073709551616) (λ s h at.
        let past : List E = reverse h.history in
        let i : ℕ = state_at (length s.homes) n in let w : Vs = counting_down me.0 n (slice_index s.words i - 1) in let y : ℕ = (slice_index s.words i + 18446744073709551615) % 18446744073709551616 in
        let order = counting.count_order m t past s h.counted id me.0 at is_out n owes in
        let range = counting.count_range m t past s h.counted id me.0 at is_out n owes in
        let kept = kept_with s h at i y (omega arith) w.debts me.0.claims w.spares in
        let counted = counting.count_kept m t past s h.counted id me.0 at is_out n owes in
        let falls : y + 1 ≡ slice_index s.words i = order.3 in
        let alive = alive_with s h at i y (omega arith) me.0.facts w.debts me.0.claims w.spares
        (let a = counting.count_less m t past s h.counted id me.0 at is_out n owes one_each in
        let b = ready_set s.words (length s.homes) t.limit n y range.0 range.1 (inside s h n range.0 range.1) in
        let c = not_free (slice_index s.words i) order.1 in let most = free_most (slice_index s.words i - 1) in
        let e : is_free y ≡ is_free (slice_index s.words i - 1) = ap is_free (omega arith) in omega arith)
        (omega arith) in (
          w,
          record { history = h.history; kept = kept; counted = counted; alive = alive },
          (
            refl,
            order.1,
            order.2,
            sees_word h.history record { words = slice_set s.words i y; homes = s.homes; views = slice_set s.views id w } kept counted id w (stepped_at s.views id me.0 w at) is_out n range.0 range.1
                (slice_index s.words i - 1) (at_state s h n y range.0 range.1 ∙ (let e = order.3 in omega arith)),
          ),
        ))

    pub allows_made : (n d j : ℕ) → get_elem? me.0.debts.made j ≡ some (n, d) → Goal n (word.CountMade d) (λ z. state_at z n) (λ x. (x + (18446744073709551616 - (33 - d))) % 18446744073709551616)
    allows_made n d j owes = allowed n (word.CountMade d) (λ z. state_at z n) (λ x. (x + (18446744073709551616 - (33 - d))) % 18446744073709551616) (λ s h at.
        let past : List E = reverse h.history in
        let i : ℕ = state_at (length s.homes) n in let w : Vs = counting_made me.0 n (slice_index s.words i - (33 - d)) in let y : ℕ = (slice_index s.words i + (18446744073709551616 - (33 - d))) % 18446744073709551616 in
        let order = counting.made_order m t past s h.counted id me.0 at is_out n d j owes in
        let range = counting.made_range m t past s h.counted id me.0 at is_out n d j owes in
        let kept = kept_with s h at i y (omega arith) w.debts me.0.claims w.spares in
        let counted = counting.made_kept m t past s h.counted id me.0 at is_out n d j owes in
        let falls : y + (33 - d) ≡ slice_index s.words i = order.3 in let small = range.2 in
        let alive = alive_with s h at i y (omega arith) me.0.facts w.debts me.0.claims w.spares
        (let a = weigh_remove one_each n me.0.debts.made (weigh_at me.0.debts.made j n d owes) in
        let b = ready_set s.words (length s.homes) t.limit n y range.0 range.1 (inside s h n range.0 range.1) in
        let c = not_free (slice_index s.words i) (let x = order.1 in omega arith) in let most = free_most (slice_index s.words i - (33 - d)) in
        let e : is_free y ≡ is_free (slice_index s.words i - (33 - d)) = ap is_free (omega arith) in omega arith)
        (omega arith) in (
          w,
          record { history = h.history; kept = kept; counted = counted; alive = alive },
          (
            refl,
            range.2,
            order.1,
            order.2,
            sees_word h.history record { words = slice_set s.words i y; homes = s.homes; views = slice_set s.views id w } kept counted id w (stepped_at s.views id me.0 w at) is_out n range.0 range.1
                (slice_index s.words i - (33 - d)) (at_state s h n y range.0 range.1 ∙ (let e = order.3 in omega arith)),
          ),
        ))

    pub allows_park : (n : ℕ) → 1 ≤ n → n ≤ t.limit → 1 ≤ times n me.0.claims → Waits m t me.0 n → Goal n word.Park (λ z. state_at z n) (λ _. PARKED)
    allows_park n lo hi has waits = allowed n word.Park (λ z. state_at z n) (λ _. PARKED) (λ s h at.
        let w : Vs = unclaiming me.0 n in let i : ℕ = state_at (length s.homes) n in
        let there = waits h.history (knows h.history s h.kept h.counted id me.0 at) in (
          w,
          record {
            history = h.history;
            kept = kept_with s h at i PARKED (omega arith) me.0.debts w.claims w.spares;
            counted = counting.park_kept m t (reverse h.history) s h.counted id me.0 at is_out n lo hi has there.0 there.1;
            alive = let less = less_sum one_each n me.0.claims has in alive_with s h at i PARKED (omega arith) me.0.facts me.0.debts w.claims w.spares
                (let b = ready_set s.words (length s.homes) t.limit n PARKED lo hi (inside s h n lo hi) in
                let one = total_one (λ (u : View G E P N F). times n u.claims) s.views id me.0 at in
                let was = (busy (slots_of m t (reverse h.history) n) (account m t s.words (length s.homes) s.views (reverse h.history) n) (h.counted.each n lo hi) (omega arith)).0.word in
                let free : is_free (slice_index s.words i) ≡ 0 = ap is_free was in omega arith)
                (omega arith);
          },
          refl,
        ))

    pub allows_drop : (n : ℕ) → 1 ≤ n → n ≤ t.limit → 1 ≤ times n me.0.claims → IsOver m t me.0 n → Goal n word.Drop (λ z. state_at z n) (λ _. BUSY)
    allows_drop n lo hi has over = allowed n word.Drop (λ z. state_at z n) (λ _. BUSY) (λ s h at.
        let w : Vs = unclaiming me.0 n in let i : ℕ = state_at (length s.homes) n in
        let there = over h.history (knows h.history s h.kept h.counted id me.0 at) in (
          w,
          record {
            history = h.history;
            kept = kept_with s h at i BUSY (omega arith) me.0.debts w.claims w.spares;
            counted = counting.drop_kept m t (reverse h.history) s h.counted id me.0 at is_out n lo hi has there;
            alive = let less = less_sum one_each n me.0.claims has in alive_with s h at i BUSY (omega arith) me.0.facts me.0.debts w.claims w.spares
                (let b = ready_set s.words (length s.homes) t.limit n BUSY lo hi (inside s h n lo hi) in
                let one = total_one (λ (u : View G E P N F). times n u.claims) s.views id me.0 at in
                let was = (busy (slots_of m t (reverse h.history) n) (account m t s.words (length s.homes) s.views (reverse h.history) n) (h.counted.each n lo hi) (omega arith)).0.word in
                let free : is_free (slice_index s.words i) ≡ 0 = ap is_free was in omega arith)
                (omega arith);
          },
          refl,
        ))

    pub allows_resume : (n : ℕ) → 1 ≤ n → n ≤ t.limit → 1 ≤ times n me.0.debts.resumes → Goal n word.Resume (λ z. state_at z n) (λ _. READY)
    allows_resume n lo hi has = allowed n word.Resume (λ z. state_at z n) (λ _. READY) (λ s h at.
        let w : Vs = resuming me.0 n in let i : ℕ = state_at (length s.homes) n in (
          w,
          record {
            history = h.history;
            kept = kept_with s h at i READY (omega arith) w.debts me.0.claims me.0.spares;
            counted = counting.resume_kept m t (reverse h.history) s h.counted id me.0 at is_out n lo hi has;
            alive = let less = less_sum one_each n me.0.debts.resumes has in alive_with s h at i READY (omega arith) me.0.facts w.debts me.0.claims me.0.spares
                (let b = ready_set s.words (length s.homes) t.limit n READY lo hi (inside s h n lo hi) in
                let one = total_one (λ (u : View G E P N F). times n u.debts.resumes) s.views id me.0 at in
                let was = (parked (slots_of m t (reverse h.history) n) (account m t s.words (length s.homes) s.views (reverse h.history) n) (h.counted.each n lo hi) (omega arith)).0.word in
                let free : is_free (slice_index s.words i) ≡ 0 = ap is_free was in omega arith)
                (omega arith);
          },
          refl,
        ))

    -- a step that finds a word and leaves it
    idle_words : (s : State (Option P) Vs) (i j : ℕ) → slice_index (slice_set s.words i (slice_index s.words i)) j ≡ slice_index s.words j
    idle_words s i j = ap (λ l. slice_index l j) (set-get_or s.words i 0)

    idle_counted : (s : State (Option P) Vs) (h : Holds m t s) → get_elem? s.views id ≡ some me.0 → (i : ℕ) (fs : List F)
        → Counted m t (reverse h.history) record { words = slice_set s.words i (slice_index s.words i); homes = s.homes; views = slice_set s.views id record me.0 { facts = fs } }
    idle_counted s h at i fs = counted_elsewhere m t (reverse h.history) s h.counted id me.0 record me.0 { facts = fs } at refl refl is_out
        (λ n p has is. (h.counted.seated id me.0 at).tied n p has is) (λ n b. b)
        (slice_set s.words i (slice_index s.words i)) s.homes (length-set s.words i (slice_index s.words i)) refl (λ j _. idle_words s i j)

    -- the payload of a slot of an EDT that is claimed stands in its word
    payload_is : (s : State (Option P) Vs) (h : Holds m t s) → get_elem? s.views id ≡ some me.0 → (n k : ℕ) → 1 ≤ times n me.0.claims → HasSlot m t me.0 n k
        → payload_of m t (reverse h.history) n k ≡ Some (slice_index s.words (payload_at (length s.homes) n k))
    payload_is s h at n k has slot =
        let past : List E = reverse h.history in
        let range = (h.counted.seated id me.0 at).claims n has in
        let one = total_one (λ (u : Vs). times n u.claims) s.views id me.0 at in
        let order = (busy (slots_of m t past n) (account m t s.words (length s.homes) s.views past n) (h.counted.each n range.0 range.1) (omega arith)).0 in
        let counted = order.counted in
        let there = slot h.history (knows h.history s h.kept h.counted id me.0 at) in
        let set = (set_all m t past n there.0 there.1 (omega arith)) in
        let eq : ◌≡◌ {A = Option ℕ} (Some set.slots) (Some there.0) = sym set.made ∙ there.1 in
        let same : set.slots ≡ there.0 = cc eq in let lt = there.2 in
        let x = set.all_set k (omega arith) in
        let few = total_less (λ (u : Vs). tally (of_slot n k) u.debts.unput) (λ (u : Vs). owed_slots (of_edt n) u.debts) s.views
        (λ u. let a = tally_less (of_slot n k) (of_edt n) u.debts.unput (spot_less n k) in omega arith) in
        x.1 ∙ ap Some (sym (h.counted.payload n k x.0 x.1 (omega arith)))

    pub allows_read : (n k : ℕ) → 1 ≤ times n me.0.claims → HasSlot m t me.0 n k → Goal n (word.Read k) (λ z. payload_at z n (k % 32)) (λ x. x)
    allows_read n k has slot = allowed n (word.Read k) (λ z. payload_at z n (k % 32)) (λ x. x) (λ s h at.
        let there = slot h.history (knows h.history s h.kept h.counted id me.0 at) in
        let few = (h.counted.told.made n there.0 there.1).2 in let lt = there.2 in
        let same : k % 32 ≡ k = omega arith in
        let i : ℕ = payload_at (length s.homes) n (k % 32) in let x : ℕ = slice_index s.words i in
        let w : Vs = learning me.0 (m.counting.is_set n k x) in
        let fact : m.stands t.setting.value t.limit h.history (m.counting.is_set n k x) =
        subst (λ l. m.stands t.setting.value t.limit l (m.counting.is_set n k x)) (reverse_twice h.history) (h.counted.told.facts n k x (payload_is s h at n k has slot ∙ ap (λ q. Some (slice_index s.words (payload_at (length s.homes) n q))) (sym same))) in
        let facts : FactsOf (m.stands t.setting.value t.limit h.history) w.facts = λ j f there. ⊎_elim
        (λ y. facts_at s h at j f y)
        (λ y. subst (m.stands t.setting.value t.limit h.history) (one_view (m.counting.is_set n k x) f y.0 y.1) fact)
        (at_append me.0.facts (m.counting.is_set n k x ∷ []) j f there) in
        let kept = kept_beyond h.history s h.kept id me.0 at is_out i x (omega arith) w.facts me.0.debts me.0.claims me.0.spares facts in
        let alive = alive_with s h at i x (omega arith) w.facts me.0.debts me.0.claims me.0.spares
        (let b = ap (λ l. ready_count l (length s.homes) t.limit) (set-get_or s.words i 0) in omega arith) (omega arith) in
        let counted = idle_counted s h at i w.facts in (
          w,
          record { history = h.history; kept = kept; counted = counted; alive = alive },
          (refl, sees m t h.history record { words = slice_set s.words i x; homes = s.homes; views = slice_set s.views id w } kept id w (stepped_at s.views id me.0 w at) counted is_out),
        ))

    abbrev tried : ℕ → ℕ
    tried x = either (eqb x 0) 64 x

    -- an EDT that is ready is claimed; the word of another is read
    pub allows_claim : (n : ℕ) → 1 ≤ n → n ≤ t.limit → Goal n word.Claim (λ z. state_at z n) tried
    allows_claim n lo hi = allowed n word.Claim (λ z. state_at z n) tried (λ s h at.
        let i : ℕ = state_at (length s.homes) n in let x : ℕ = slice_index s.words i in let past : List E = reverse h.history in
        dite (ℕ_discrete x 0)
        (λ z.
        let w : Vs = claiming me.0 n in
        let is : 64 ≡ tried x = sym (ap (λ b. either b 64 x) (eq-eqb x 0 z)) in
        let kept = kept_with s h at i BUSY (omega arith) me.0.debts w.claims me.0.spares in
        let more = sum_append one_each me.0.claims (n ∷ []) in
        let alive = alive_with s h at i BUSY (omega arith) me.0.facts me.0.debts w.claims me.0.spares
        (let b = ready_set s.words (length s.homes) t.limit n BUSY lo hi (inside s h n lo hi) in
        let free : is_free (slice_index s.words i) ≡ 1 = ap is_free z in omega arith)
        (omega arith) in
        let few : units w < 18446744073709551616 = (let small = units_small m t h.history s h.kept h.alive id me.0 at is_out in omega arith) in
        let counted = counting.claim_kept m t past s h.counted id me.0 at is_out n lo hi z in
        let r = ready (slots_of m t past n) (account m t s.words (length s.homes) s.views past n) (h.counted.each n lo hi) z in
        let bare = r.0.bare in let none = r.2 in
        let set : IsSet m t past n = set_all m t past n r.1.0 r.1.1 (omega arith) in
        let sees : SeesReady m w n = λ t' terms. subst (λ q. (K : List E) × Knows m q K w × IsSet m q (reverse K) n × (is_started m q (reverse K) n ≡ false) × (awaited m q (reverse K) n ≡ None))
        (same_terms t t' (sym ((h.kept.seated id me.0 at).terms is_out) ∙ terms)) (
          h.history,
          knows h.history record { words = slice_set s.words i BUSY; homes = s.homes; views = slice_set s.views id w } kept counted id w (stepped_at s.views id me.0 w at),
          set,
          true_is (is_started m t past n) (omega arith),
          none_is (awaited m t past n) (omega arith),
        ) in
        (w, subst (λ y. Holds m t record { words = slice_set s.words i y; homes = s.homes; views = slice_set s.views id w }) is (record { history = h.history; kept = kept; counted = counted; alive = alive }), inl (z, refl, sees, few)))
        (λ ne.
        let is : x ≡ tried x = sym (ap (λ b. either b 64 x) (ne_eqb x 0 ne)) in
        let kept = kept_beyond h.history s h.kept id me.0 at is_out i x (omega arith) me.0.facts me.0.debts me.0.claims me.0.spares (facts_at s h at) in
        let alive = alive_with s h at i x (omega arith) me.0.facts me.0.debts me.0.claims me.0.spares
        (let b = ap (λ l. ready_count l (length s.homes) t.limit) (set-get_or s.words i 0) in omega arith) (omega arith) in
        let counted = idle_counted s h at i me.0.facts in (
          me.0,
          subst (λ y. Holds m t record { words = slice_set s.words i y; homes = s.homes; views = slice_set s.views id me.0 }) is (record { history = h.history; kept = kept; counted = counted; alive = alive }),
          inr (ne, refl, sees_word h.history s h.kept h.counted id me.0 at is_out n lo hi x refl),
        )))

-- a step on the words that count changes what the view knows, owes and has claimed alone
pub stepped_view : {G E P N F : Type 0} (m : Meaning G E P N F) (n : ℕ) (chosen : WordStep) (v : View G E P N F) (x : ℕ) (w : View G E P N F) → StepTells m n chosen v x w
    → (fs : List F) × (d : Debts) × (cl : List ℕ) × (sp : ℕ) × (w ≡ record v { facts = fs; debts = d; claims = cl; spares = sp })
stepped_view m n (word.Put k p) v x w is = (v.facts, (putting v n k p).debts, v.claims, v.spares, is)
stepped_view m n word.Count v x w is = (v.facts, (counting_down v n (x - 1)).debts, v.claims, (counting_down v n (x - 1)).spares, is.0)
stepped_view m n (word.CountMade d) v x w is = (v.facts, (counting_made v n (x - (33 - d))).debts, v.claims, (counting_made v n (x - (33 - d))).spares, is.0)
stepped_view m n (word.Read k) v x w is = ((learning v (m.counting.is_set n k x)).facts, v.debts, v.claims, v.spares, is.0)
stepped_view m n word.Claim v x w is = ⊎_elim (λ h. (v.facts, v.debts, (claiming v n).claims, v.spares, h.1)) (λ h. (v.facts, v.debts, v.claims, v.spares, h.1)) is
stepped_view m n word.Park v x w is = (v.facts, v.debts, (unclaiming v n).claims, (unclaiming v n).spares, is)
stepped_view m n word.Resume v x w is = (v.facts, (resuming v n).debts, v.claims, v.spares, is)
stepped_view m n word.Drop v x w is = (v.facts, v.debts, (unclaiming v n).claims, (unclaiming v n).spares, is)

pub stepped_units : {G E P N F : Type 0} (m : Meaning G E P N F) (t : Terms G) (n : ℕ) (chosen : WordStep) (v : View G E P N F) (x : ℕ) (w : View G E P N F) → MayStep m t v n chosen → StepTells m n chosen v x w → units w ≡ count_after chosen x (units v)
stepped_units m t n (word.Put k p) v x w may is =
    let same = ap units is in let less = drop_tally one_each (n, k) v.debts.unput (let a = tally_at (of_slot n k) v.debts.unput may.0 n k p may.1 in let b = slot_here n k in omega arith) in
    let more = tally_append one_each v.debts.put ((n, k, p) ∷ []) in omega arith
stepped_units m t n word.Count v x w may is =
    let same = ap units is.0 in let less = (first_tally n v.debts.put may).1 one_each in let most = free_most (x - 1) in omega arith
stepped_units m t n (word.CountMade d) v x w may is =
    let same = ap units is.0 in let less = weigh_remove one_each n v.debts.made (weigh_at v.debts.made may.0 n d may.1) in let most = free_most (x - (33 - d)) in omega arith
stepped_units m t n (word.Read k) v x w may is = ap units is.0
stepped_units m t n word.Claim v x w may is = ⊎_elim
    (λ h. let same = ap units h.1 in let more = sum_append one_each v.claims (n ∷ []) in let free = ap is_free h.0 in omega arith)
    (λ h. let same = ap units h.1 in let busy_word = not_free x (positive x h.0) in omega arith)
    is
  where
    positive : (x : ℕ) → x ≢ READY → 1 ≤ x
    positive x ne = dite (ℕ_discrete x 0) (λ e. absurd (ne e)) (λ no. omega arith)
stepped_units m t n word.Park v x w may is = let same = ap units is in let less = less_sum one_each n v.claims may.0 in omega arith
stepped_units m t n word.Drop v x w may is = let same = ap units is in let less = less_sum one_each n v.claims may.0 in omega arith
stepped_units m t n word.Resume v x w may is = let same = ap units is in let less = less_sum one_each n v.debts.resumes may in omega arith

-- a count of the units, of 64 bits, after the step
pub count_fewer : (chosen : WordStep) (x c u : ℕ) → c ≤ u → count_after chosen x c ≤ count_after chosen x u
count_fewer word.Claim x c u le = omega arith
count_fewer word.Count x c u le = omega arith
count_fewer (word.CountMade d) x c u le = omega arith
count_fewer word.Resume x c u le = omega arith
count_fewer (word.Put k p) x c u le = le
count_fewer (word.Read k) x c u le = le
count_fewer word.Park x c u le = le
count_fewer word.Drop x c u le = le

pub count_small : {G E P N F : Type 0} (m : Meaning G E P N F) (n : ℕ) (chosen : WordStep) (v : View G E P N F) (x : ℕ) (w : View G E P N F) → StepTells m n chosen v x w → (c : ℕ) → c < 18446744073709551616 → units w ≡ count_after chosen x c → count_after chosen x c < 18446744073709551616
count_small m n (word.Put k p) v x w is c small same = small
count_small m n word.Count v x w is c small same = omega arith
count_small m n (word.CountMade d) v x w is c small same = omega arith
count_small m n (word.Read k) v x w is c small same = small
count_small m n word.Claim v x w is c small same = ⊎_elim (λ h. let few = h.3 in omega arith) (λ h. let none = not_free x (positive x h.0) in omega arith) is
  where
    positive : (x : ℕ) → x ≢ READY → 1 ≤ x
    positive x ne = dite (ℕ_discrete x 0) (λ e. absurd (ne e)) (λ no. omega arith)
count_small m n word.Park v x w is c small same = small
count_small m n word.Drop v x w is c small same = small
count_small m n word.Resume v x w is c small same = omega arith

-- the slot that a seat carries is nothing to its claims
pub carried_loose : {G E P N F : Type 0} (m : Meaning G E P N F) (t : Terms G) (v : View G E P N F) (p : ℕ) (o : Option ℕ) → Loose m t v p → Loose m t record v { carried = o } p
carried_loose m t v p o loose J f n has = loose J (fits_carried m t J v o v.carried f) n has
