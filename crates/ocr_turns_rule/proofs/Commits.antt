-- The steps on the commit word keep the rule.
use Rattle.std.proofs.Common.{◌≡◌, ◌≢◌, ℕ, ◌+◌, ◌%◌, ◌<◌, ◌≤◌, inl, inr, ⊎_elim, Bool, true, false, ◌&&◌, List, [], ◌∷◌, ◌++◌, length, reverse, refl, ap, sym, subst, ◌∙◌, arith, length-append, get_or-set_same, get_or-set_other, None, Some, Option}
use Rattle.std.specs.Prelude.{slice_index, slice_set, MatchOption}
use Rattle.std.proofs.Math.ListN.{length-set}
use Rattle.std.proofs.lemmas.List.{set-get_or, reverse-append}
use mathlib.Core.Option.{some}
use mathlib.Core.Logic.{dite}
use native.Mathlib.Decide.{dec_le}
use lib.ListN.{get_elem?}
use Rattle.atomic_table.specs.Table.{State, keeps, stepped}
use Rattle.atomic_table.proofs.Lists.{set_again, at_last}
use Rattle.ocr_base.specs.Mail.{tally, named, without}
use Rattle.ocr_turns_rule.specs.Contract.{Next, MayCommit, MayClose}
use Rattle.ocr_turns_rule.specs.Counts.{Counted, CountingLaws, MayCome, leaves}
use Rattle.ocr_turns_rule.specs.Debts.{listed, AreInRange, both_debts, times}
use Rattle.ocr_turns_rule.specs.Meaning.{Meaning, Lawful, IsBare, Run, Open, Ended}
use Rattle.ocr_turns_rule.specs.Rule.{Alive, weighed, LogOf, Seated, Kept, Holds, OPEN, RunsIn, OwnsAll, mail}
use Rattle.ocr_turns_rule.specs.Steps.{Deed, deed, limit_of, logged, ended_by, shut_by, commits, closes, looks, SeesEnd}
use Rattle.ocr_turns_rule.specs.Sums.{made_sum, up_to, total, weigh, one_at, sum_of, below, weigh_all, replace_all, is_free}
use Rattle.ocr_turns_rule.specs.Units.{ready_count}
use Rattle.ocr_turns_rule.specs.declared.view.View.{View}
use Rattle.ocr_turns_rule.specs.declared.view.Terms.{Terms}
use Rattle.ocr_turns_rule.proofs.Bounds.{short, shut_most, fits, sees, sees_open, sees_end, stepped_at}
use Rattle.ocr_turns_rule.proofs.Histories.{run_more, open_more, log_later, log_more, rises_more, sent_later, sent_more, mail_more, own_same, own_both, ran, no_start}
use Rattle.ocr_turns_rule.proofs.Numbered.{keys_replace_all, weigh_keys, at_replace_all}
use Rattle.ocr_turns_rule.proofs.Same.{keeps_at, after, total_same, numbers_same, numbers_more, places_same, roster_same, owed_same, seated_each}
use Rattle.ocr_turns_rule.proofs.Apart.{counted_beside}
use Rattle.ocr_turns_rule.proofs.Ranges.{deed_owed}
use Rattle.ocr_turns_rule.proofs.Units.{alive_after, alive_same, logged_units, others_live, ready_same, some_live}
use Rattle.ocr_turns_rule.proofs.Entered.{entered_kept, adds_none, without_none}
use Rattle.ocr_turns_rule.proofs.Totals.{reverse_twice, total_set, total_one, total_two, weigh_snoc, weigh_at, below_more, load_snoc, less_all_sum, tally_append, without_tally, log_none, at_append}

-- another word
pub elsewhere : (ws : List ℕ) (i j n : ℕ) → j ≢ i → slice_index (slice_set ws i n) j ≡ slice_index ws j
elsewhere ws i j n ne = get_or-set_other ws i j n 0 ne

pub behind_first : (ws : List ℕ) (n p : ℕ) → slice_index (slice_set ws 0 n) (p + 24) ≡ slice_index ws (p + 24)
behind_first ws n p = elsewhere ws 0 (p + 24) n (λ h. omega arith)

pub second_word : (ws : List ℕ) (n : ℕ) → slice_index (slice_set ws 0 n) 8 ≡ slice_index ws 8
second_word ws n = elsewhere ws 0 8 n (λ h. omega arith)

-- the words after the commit word grew
abbrev pub grown : List ℕ → ℕ → List ℕ
grown ws more = slice_set ws 0 ((slice_index ws 0 + more) % 18446744073709551616)

module _ (ws : List ℕ) (more : ℕ) where
  same_length : length (grown ws more) ≡ length ws
  same_length = length-set ws 0 ((slice_index ws 0 + more) % 18446744073709551616)

  draw_word : slice_index (grown ws more) 8 ≡ slice_index ws 8
  draw_word = second_word ws ((slice_index ws 0 + more) % 18446744073709551616)

  turn_word : (p : ℕ) → slice_index (grown ws more) (p + 24) ≡ slice_index ws (p + 24)
  turn_word p = behind_first ws ((slice_index ws 0 + more) % 18446744073709551616) p

  live_word : slice_index (grown ws more) 16 ≡ slice_index ws 16
  live_word = elsewhere ws 0 16 ((slice_index ws 0 + more) % 18446744073709551616) (λ h. omega arith)

  ready_grown : (slots limit : ℕ) → ready_count (grown ws more) slots limit ≡ ready_count ws slots limit
  ready_grown slots limit = ready_same ws (grown ws more) slots limit (λ i beyond. elsewhere ws 0 i ((slice_index ws 0 + more) % 18446744073709551616) (λ h. absurd (omega arith)))

  commit_word : 0 < length ws → slice_index (grown ws more) 0 ≡ (slice_index ws 0 + more) % 18446744073709551616
  commit_word some_words = get_or-set_same ws 0 ((slice_index ws 0 + more) % 18446744073709551616) 0 some_words

-- a run that has ended never grows again
pub ended_shut : {E : Type 0} (stops : E → Bool) (J : List E) → Open stops J → Ended stops J → ⊥
ended_shut stops J op over =
    let there : get_elem? J (length over.past) ≡ some over.last = ap (λ l. get_elem? l (length over.past)) over.whole ∙ at_last over.past over.last (length over.past) refl in
    let no = op (length over.past) over.last there in let is = over.stop in cc (no, is)

never_grows : {E : Type 0} (stops : E → Bool) (J K : List E) (o : Option ℕ) → Open stops J → MatchOption o (Unit {0}) (λ _. Ended stops J) → MatchOption o (Unit {0}) (λ _. Ended stops K)
never_grows stops J K None op over = tt
never_grows stops J K (Some n) op over = absurd (ended_shut stops J op over)

module _ {G E P N F : Type 0} (m : Meaning G E P N F) (t : Terms G) where
  module _ (J : List E) (s : State (Option P) (View G E P N F)) (k : Kept m t J s) (cnt : Counted m t (reverse J) s) (live : Alive m t J s) (id : ℕ) (v : View G E P N F) (at : get_elem? s.views id ≡ some v) (was_open : v.closed ≡ None) (is_out : 0 < v.root + v.seat) where
    -- a step on the commit word by which the seat learns no more than that the run has ended
    pub counted_shut : (n x : ℕ) → Counted m t (reverse J) (after s (slice_set s.words 0 x) s.homes id (shut_by v n))
    counted_shut n x = counted_beside m t (reverse J) s cnt id v (shut_by v n) at refl refl is_out (λ p. omega arith) (λ q b. b) 0 x s.homes (omega arith) refl

    some_words : 0 < length s.words
    some_words = let w = k.places.words in omega arith

    -- The run has ended: the seat learns it, and the history stays. The word grows by so much.
    module _ (more : ℕ) (bounded : more ≤ OPEN + 1) (past : OPEN ≤ slice_index s.words 0) (ended : Ended m.stops J) where
      shut : Seated m t s.homes J (shut_by v (slice_index s.words 0))
      shut = let seat = k.seated id v at in
          let one_more : v.shut + 1 ≤ v.seats = subst (λ o. MatchOption o (v.shut + 1 ≤ v.seats) (λ _. v.shut ≤ v.seats)) was_open seat.shut in record {
            log = seat.log;
            joined = seat.joined;
            rises = seat.rises;
            all_rise = seat.all_rise;
            parts = λ none. absurd (cc none);
            facts = seat.facts;
            sent = seat.sent;
            own = seat.own;
            weight = seat.weight;
            light = seat.light;
            bounded = seat.bounded;
            filled = seat.filled;
            shut = one_more;
            over = λ _. ended;
            empty = seat.empty;
            spent = λ z. absurd (omega arith);
            terms = seat.terms;
            not_root = seat.not_root;
          }

      pub refused : Kept m t J (after s (grown s.words more) s.homes id (shut_by v (slice_index s.words 0)))
      refused =
          let n = slice_index s.words 0 in let ws = grown s.words more in
          let w : View G E P N F = shut_by v n in let old = k.ledger in
          let lim = short m t J s k in let sh = k.share in let hi = old.high in let room = shut_most m t J s k in
          let to = total_set (λ (u : View G E P N F). u.shut) s.views id v w at in
          let one_more = shut.shut in
          let is : (n + more) % 18446744073709551616 ≡ n + more = omega arith in
          let word : slice_index ws 0 ≡ n + more = commit_word s.words more some_words ∙ is in
          record {
            limits = k.limits;
            share = k.share;
            ledger = record {
              run = old.run;
              once = λ f. total_same m t J s id v w at ws s.homes (λ u. weighed f u) refl ∙ old.once f;
              word = inr (omega arith, ended);
              ended = let e = total_same m t J s id v w at ws s.homes (λ u. u.ended) refl in let o = old.ended in omega arith;
              high = omega arith;
            };
            numbers = numbers_same m t J s id v w at ws s.homes k.numbers (draw_word s.words more) (λ f. refl) refl refl;
            places = places_same m t J s id v w at ws s.homes J refl (same_length s.words more) (λ p _. turn_word s.words more p) (λ p. refl) (λ p _ _. refl) k.places;
            owed = owed_same m t J s id v w at ws s.homes k.owed (λ f. refl);
            roster = roster_same m t J s id v w at ws s.homes k.roster refl refl refl refl refl;
            seated = seated_each m t J s id v w at ws s.homes J shut (λ i u _ u_at. k.seated i u u_at);
          }

      pub alive_shut : Alive m t J (after s (grown s.words more) s.homes id (shut_by v (slice_index s.words 0)))
      alive_shut = alive_same m t J s live id v (shut_by v (slice_index s.words 0)) at (refl, refl) refl (omega arith) (refl, refl) (refl, refl, refl) is_out (grown s.words more) s.homes refl
          (live_word s.words more) (λ _. past) (let same = ready_grown s.words more (length s.homes) t.limit in omega arith)

      pub told_end : SeesEnd m (shut_by v (slice_index s.words 0))
      told_end = sees_end m t J (after s (grown s.words more) s.homes id (shut_by v (slice_index s.words 0))) refused id (shut_by v (slice_index s.words 0)) (stepped_at s.views id v (shut_by v (slice_index s.words 0)) at) is_out ended

    -- a look at the commit word
    abbrev pub LookGoal : List (ℕ × Option P) → Type 0
    LookGoal c = (w : View G E P N F) × (Holds m t (stepped s 0 (slice_index s.words 0) id c w keeps) × looks m (v, c) (slice_index s.words 0) (w, c))

    pub look_at : (c : List (ℕ × Option P)) → slice_index s.words 0 < 18446744073709551616 → LookGoal c
    look_at c small = ⊎_elim
        (λ h. let len = h.0 in let lim = short m t J s k in let sh = k.share in
        let ws : slice_set s.words 0 (slice_index s.words 0) ≡ s.words = set-get_or s.words 0 0 in
        let vs : slice_set s.views id v ≡ s.views = set_again s.views id v at in
        (v, (record { history = J; kept = subst (Kept m t J) (λ i. record { words = sym ws i; homes = s.homes; views = sym vs i }) k; counted = subst (Counted m t (reverse J)) (λ i. record { words = sym ws i; homes = s.homes; views = sym vs i }) cnt; alive = subst (Alive m t J) (λ i. record { words = sym ws i; homes = s.homes; views = sym vs i }) live }, (refl, inl (omega arith, refl, sees_open m t J s k id v at cnt is_out h.1)))))
        (λ h. let past = h.0 in
        let same : (slice_index s.words 0 + 0) % 18446744073709551616 ≡ slice_index s.words 0 = omega arith in
        (shut_by v (slice_index s.words 0), (record { history = J; kept = subst (λ (x : ℕ). Kept m t J (after s (slice_set s.words 0 x) s.homes id (shut_by v (slice_index s.words 0)))) same (refused 0 (omega arith) past h.1); counted = counted_shut (slice_index s.words 0) (slice_index s.words 0); alive = subst (λ (x : ℕ). Alive m t J (after s (slice_set s.words 0 x) s.homes id (shut_by v (slice_index s.words 0)))) same (alive_shut 0 (omega arith) past h.1) }, (refl, inr (past, refl, told_end 0 (omega arith) past h.1)))))
        k.ledger.word

module _ {G E P N F : Type 0} (m : Meaning G E P N F) (laws : Lawful m) (claws : CountingLaws m) (t : Terms G) where
  module _ (J : List E) (s : State (Option P) (View G E P N F)) (k : Kept m t J s) (cnt : Counted m t (reverse J) s) (live : Alive m t J s) (id : ℕ) (v : View G E P N F) (at : get_elem? s.views id ≡ some v) (was_open : v.closed ≡ None) (is_out : 0 < v.root + v.seat) (e : E) where
    -- One more entry: what is so of the seats that do not step.
    module _ (ok : m.legal t.setting.value t.limit J e) where
      -- a part that the entry does not touch stays
      stays : (p : ℕ) → m.touches t.limit e p ≡ 0 → m.part t.setting.value t.limit (J ++ e ∷ []) p ≡ m.part t.setting.value t.limit J p
      stays p off = laws.local t.setting.value t.limit J e p k.limits.0 k.ledger.run ok off

      later : Open m.stops J → (u : View G E P N F) → Seated m t s.homes J u → ((p : ℕ) → 1 ≤ keeps_at p u → m.touches t.limit e p ≡ 0) → ((q : ℕ) → RunsIn m.starts m.ends u.log q → m.runs e q ≡ false) → Seated m t s.homes (J ++ e ∷ []) u
      later op u old apart foreign = record {
        log = log_later J e u.log old.log;
        joined = λ j l there. log_later J e l (old.joined j l there);
        rises = old.rises;
        all_rise = old.all_rise;
        parts = λ is_open j p x there. stays p (apart p (weigh_at u.parts j p x there)) ∙ old.parts is_open j p x there;
        facts = λ j f there. laws.lasting t.setting.value t.limit J e f k.ledger.run ok (old.facts j f there);
        sent = sent_later m t J e u.owed old.sent;
        own = λ q runs. let o = old.own q runs in (own_same m t J e u.log q (foreign q runs) o.0, o.1);
        weight = old.weight;
        light = old.light;
        bounded = old.bounded;
        filled = old.filled;
        shut = old.shut;
        over = λ out. never_grows m.stops J (J ++ e ∷ []) u.closed op (old.over out);
        empty = old.empty;
        spent = old.spent;
        terms = old.terms;
        not_root = old.not_root;
      }

      -- the logs with one more entry in that of the seat
      once_more : (w : View G E P N F) → w.log ≡ v.log ++ (slice_index s.words 0, e) ∷ [] → w.joined ≡ v.joined → slice_index s.words 0 ≡ length J
          → (f : ℕ → ℕ) → total (λ (u : View G E P N F). weighed f u) (slice_set s.views id w) ≡ below f (length (J ++ e ∷ []))
      once_more w log joined len f =
          let n = slice_index s.words 0 in
          let tot = total_set (λ (u : View G E P N F). weighed f u) s.views id v w at in
          let old = k.ledger.once f in
          let here : weigh f w.log ≡ weigh f v.log + f n = ap (weigh f) log ∙ weigh_snoc f v.log n e in
          let all = ap (weigh_all f) joined in
          let new : below f (length (J ++ e ∷ [])) ≡ f (length J) + below f (length J) = ap (below f) (length-append J (e ∷ [])) ∙ below_more f (length J) in
          let same : f n ≡ f (length J) = ap f len in
          omega arith

    -- A COMMIT
    module _ (c : List (ℕ × Option P)) (ps : List (ℕ × P)) (ms : List N) (may : MayCommit m t v e ps ms) where
      abbrev pub done : Deed E P N F
      done = deed m t.limit v e ps ms

      abbrev pub CommitGoal : Type 0
      CommitGoal = (w : View G E P N F) × (Holds m t (stepped s 0 ((slice_index s.words 0 + 1) % 18446744073709551616) id c w keeps) × commits m (Some done) (v, c) (slice_index s.words 0) (w, c))

      -- a place that another seat keeps is not the entry's
      theirs : (i : ℕ) (u : View G E P N F) → i ≢ id → get_elem? s.views i ≡ some u → (p : ℕ) → 1 ≤ keeps_at p u → m.touches t.limit e p ≡ 0
      theirs i u ne u_at p one =
          let lt : p < length s.homes = ((k.seated i u u_at).empty p one).0 in
          let two = total_two (keeps_at p) s.views i id u v ne u_at at in
          let sum = k.places.keeper p lt in let r = may.keeps p in let a = r.0 in let b = r.1 in omega arith

      -- an EDT of another seat has no part in the entry
      not_theirs : (i : ℕ) (u : View G E P N F) → i ≢ id → get_elem? s.views i ≡ some u → m.legal t.setting.value t.limit J e → (q : ℕ) → RunsIn m.starts m.ends u.log q → m.runs e q ≡ false
      not_theirs i u ne u_at ok q runs = elim (m.runs e q) as (λ b. m.runs e q ≡ b → b ≡ false) [
        | true ↦ λ on.
            let touched = laws.on_core t.setting.value t.limit J e q k.limits.0 k.ledger.run ok on in
            let none = theirs i u ne u_at (m.core t.limit q) ((k.seated i u u_at).own q runs).1 in
            absurd (omega arith)
        | false ↦ λ _. refl
      ] refl

      same_keys : (p : ℕ) → weigh (one_at p) (replace_all ps v.parts) ≡ weigh (one_at p) v.parts
      same_keys p = weigh_keys (one_at p) (replace_all ps v.parts) v.parts (keys_replace_all ps v.parts)

      -- the EDTs of this seat
      ours : m.legal t.setting.value t.limit J e → (num u : ℕ) → RunsIn m.starts m.ends (v.log ++ (num, e) ∷ []) u
          → OwnsAll m t (J ++ e ∷ []) (v.log ++ (num, e) ∷ []) u × (1 ≤ weigh (one_at (m.core t.limit u)) (replace_all ps v.parts))
      ours ok num u runs =
          let seat = k.seated id v at in let same = same_keys (m.core t.limit u) in
          elim (m.starts e u) as (λ b. m.starts e u ≡ b → OwnsAll m t (J ++ e ∷ []) (v.log ++ (num, e) ∷ []) u × (1 ≤ weigh (one_at (m.core t.limit u)) (replace_all ps v.parts))) [
            | true ↦ λ on.
                let none = laws.first t.setting.value t.limit J e u k.ledger.run ok on in
                let touched = laws.on_core t.setting.value t.limit J e u k.limits.0 k.ledger.run ok (laws.starting e u on) in
                let r = may.keeps (m.core t.limit u) in let a = r.0 in let b = r.1 in
                (own_both m t J e num v.log u (none ∙ sym (log_none (λ x. m.runs x u) J v.log seat.log none)), omega arith)
            | false ↦ λ off.
                let old = seat.own u (ran m.starts m.ends e num v.log u off runs) in let kept = old.1 in
                (own_both m t J e num v.log u old.0, omega arith)
          ] refl

      -- a place of the entry is kept by no other seat
      alone_at : (i : ℕ) (u : View G E P N F) → i ≢ id → get_elem? s.views i ≡ some u → (p : ℕ) → 1 ≤ keeps_at p v → keeps_at p u ≡ 0
      alone_at i u ne u_at p one = dite (dec_le 1 (keeps_at p u))
          (λ y. let lt : p < length s.homes = ((k.seated i u u_at).empty p y).0 in
          let two = total_two (keeps_at p) s.views i id u v ne u_at at in let sum = k.places.keeper p lt in absurd (omega arith))
          (λ none. omega arith)

      may_come : Open m.stops J → MayCome m t (reverse J) e
      may_come op = let twice = reverse_twice J in let next_is : Next m t J v done = may.legal J op (fits m t J s k id v at cnt was_open) in
          record { limits = k.limits.0; run = subst (Run (m.legal t.setting.value t.limit)) (sym twice) k.ledger.run; legal = subst (λ l. m.legal t.setting.value t.limit l e) (sym twice) next_is.legal }

      -- what it makes was drawn, and is not made
      unmade_yet : Open m.stops J → (n : ℕ) → 1 ≤ sum_of (one_at n) (m.makes e) → (1 ≤ n) × (n ≤ t.limit) × (up_to (one_at n) m.opened + made_sum m.makes (one_at n) (reverse (reverse J)) ≡ 0)
      unmade_yet op n has =
          let sum = less_all_sum (one_at n) (m.makes e) v.drawn may.drawn in let free = (fits m t J s k id v at cnt was_open).unmade n (omega arith) in
          let a = free.unopened in let b = free.unmade in let same = ap (made_sum m.makes (one_at n)) (reverse_twice J) in (free.least, free.most, omega arith)

      -- what it adds to what the seat owes
      adds_owed : Open m.stops J → AreInRange (limit_of v.terms) done.debts []
      adds_owed op =
          let next_is : Next m t J v done = may.legal J op (fits m t J s k id v at cnt was_open) in
          subst (λ l. AreInRange l done.debts []) (sym (ap limit_of ((k.seated id v at).terms is_out)))
          (deed_owed m claws t (reverse J) e (may_come op) cnt.told (λ n has. let r = unmade_yet op n has in (r.0, r.1)) (m.counting.wakes t.limit e v.parts) (ap (λ l. m.counting.resumes t.setting.value t.limit l e) (reverse_twice J) ∙ next_is.wakes) (m.counting.counts t.limit e v.parts) (ap (λ l. listed (m.counting.creates t.setting.value t.limit l e)) (reverse_twice J) ∙ next_is.counts))

      counted_entered : Open m.stops J → Counted m t (reverse (J ++ e ∷ [])) (after s (grown s.words 1) s.homes id (logged v (slice_index s.words 0) done))
      counted_entered op =
          let next_is : Next m t J v done = may.legal J op (fits m t J s k id v at cnt was_open) in
          let twice = reverse_twice J in
          let wakes : m.counting.resumes t.setting.value t.limit (reverse (reverse J)) e ≡ done.debts.resumes = ap (λ l. m.counting.resumes t.setting.value t.limit l e) twice ∙ next_is.wakes in
          let counts : listed (m.counting.creates t.setting.value t.limit (reverse (reverse J)) e) ≡ done.debts.made = ap (λ l. listed (m.counting.creates t.setting.value t.limit l e)) twice ∙ next_is.counts in
          subst (λ l. Counted m t l (after s (grown s.words 1) s.homes id (logged v (slice_index s.words 0) done))) (sym (reverse-append J (e ∷ [])))
          (entered_kept m claws laws t (reverse J) e
          (may_come op)
          (unmade_yet op)
          s cnt id v (logged v (slice_index s.words 0) done) at is_out (grown s.words 1) (same_length s.words 1)
          (λ i beyond. get_or-set_other s.words 0 i ((slice_index s.words 0 + 1) % 18446744073709551616) 0 (λ z. absurd (omega arith)))
          (λ i. both_debts v.debts (record { unput = listed (m.counting.sets e); put = []; made = sym counts i; resumes = sym wakes i; lasts = []; readied = [] })) refl
          (slice_index s.words 0, refl, refl) may.claims.starts may.claims.waits (λ n has. may.claims.resumes n (let same = ap (times n) wakes in omega arith))
          (λ p has. let r = may.keeps p in let a = r.0 in let b = r.1 in omega arith) same_keys alone_at)

      -- the units stay, and nobody knew the live word as 0
      alive_entered : slice_index s.words 0 ≡ length J → Open m.stops J → total (λ (u : View G E P N F). u.ended) s.views ≡ 0 → Alive m t (J ++ e ∷ []) (after s (grown s.words 1) s.homes id (logged v (slice_index s.words 0) done))
      alive_entered len op none_ended =
          let w : View G E P N F = logged v (slice_index s.words 0) done in let ws = grown s.words 1 in
          let lim = short m t J s k in let sh = k.share in
          let word : slice_index ws 0 ≡ (slice_index s.words 0 + 1) % 18446744073709551616 = commit_word s.words 1 (some_words m t J s k cnt live id v at was_open is_out) in
          let mine_none = total_one (λ (u : View G E P N F). u.ended) s.views id v at in
          let some_unit = some_live m t J s live id v w at may.unit in
          let same = logged_units v (slice_index s.words 0) done may.owes refl may.spares in
          let ready = ready_grown s.words 1 (length s.homes) t.limit in let live_is = live_word s.words 1 in
          let old = others_live m t J s live id v w at (J ++ e ∷ []) (slice_index ws 16) v some_unit (live.each id v at) in
          alive_after m t J s live id v w at (J ++ e ∷ []) ws s.homes refl (omega arith) (omega arith)
          (λ past. absurd (omega arith))
          (record { raised = old.raised; gained = old.gained; stop = λ some_end. absurd (omega arith); still = old.still; quiet = old.quiet; spent = λ z. absurd (omega arith) })
          (λ i u ne u_at. others_live m t J s live id v w at (J ++ e ∷ []) (slice_index ws 16) u some_unit (live.each i u u_at))

      entered : slice_index s.words 0 ≡ length J → Open m.stops J → total (λ (u : View G E P N F). u.ended) s.views ≡ 0 → CommitGoal
      entered len op none_ended =
          let n = slice_index s.words 0 in let ws = grown s.words 1 in
          let w : View G E P N F = logged v n done in
          let seat = k.seated id v at in
          let can = fits m t J s k id v at cnt was_open in
          let next_is : Next m t J v done = may.legal J op can in
          let ok : m.legal t.setting.value t.limit J e = next_is.legal in
          let lim = short m t J s k in let sh = k.share in
          let is : (n + 1) % 18446744073709551616 ≡ length (J ++ e ∷ []) = omega (arith, length-append J (e ∷ [])) in
          let word : slice_index ws 0 ≡ length (J ++ e ∷ []) = commit_word s.words 1 (some_words m t J s k cnt live id v at was_open is_out) ∙ is in
          let none_after : total (λ (u : View G E P N F). u.ended) (slice_set s.views id w) ≡ 0 = total_same m t J s id v w at ws s.homes (λ u. u.ended) refl ∙ none_ended in
          let heavy = laws.weighs e may.goes in
          let mine : Seated m t s.homes (J ++ e ∷ []) w = record {
            log = subst (λ (x : ℕ). LogOf (J ++ e ∷ []) (v.log ++ (x, e) ∷ [])) (sym len) (log_more J e v.log seat.log);
            joined = λ j l there. log_later J e l (seat.joined j l there);
            rises = rises_more J e v.log n len seat.log seat.rises;
            all_rise = seat.all_rise;
            parts = λ _ j p x there. ⊎_elim
                (λ h. next_is.parts h.0 p x h.1)
                (λ h. stays ok p (let r = may.keeps p in let a = r.0 in let b = h.0 in omega arith) ∙ seat.parts was_open h.1.0 p x h.1.1)
                (at_replace_all ps v.parts j p x can.distinct there);
            facts = λ j f there. ⊎_elim (λ h. laws.lasting t.setting.value t.limit J e f k.ledger.run ok (seat.facts j f h)) (λ h. next_is.facts h.0 f h.1) (at_append v.facts done.learns j f there);
            sent = sent_more m t J e v.owed (m.delivers e) ms n len next_is.sends seat.sent;
            own = ours ok n;
            weight = let a = seat.weight in let b = load_snoc m.heavy v.log n e in omega arith;
            light = may.share;
            bounded = λ out. let here : weigh (λ _. 1) (v.log ++ (n, e) ∷ []) ≡ weigh (λ _. 1) v.log + 1 = weigh_snoc (λ _. 1) v.log n e in let b = seat.bounded out in omega arith;
            filled = seat.filled;
            shut = seat.shut;
            over = λ _. subst (λ o. MatchOption o (Unit {0}) (λ _. Ended m.stops (J ++ e ∷ []))) (sym was_open) tt;
            empty = λ p kept. let same = same_keys p in seat.empty p (omega arith);
            spent = λ z. absurd (omega arith);
            terms = seat.terms;
            not_root = seat.not_root;
          } in
          let now : Kept m t (J ++ e ∷ []) (after s ws s.homes id w) = record {
            limits = k.limits;
            share = k.share;
            ledger = record {
              run = run_more (m.legal t.setting.value t.limit) J e k.ledger.run ok;
              once = once_more ok w refl refl len;
              word = inl (word, open_more m.stops J e op may.goes, none_after);
              ended = omega arith;
              high = let tot = total_same m t J s id v w at ws s.homes (λ u. u.shut) refl in let old = k.ledger.high in omega (arith, length-append J (e ∷ []));
            };
            numbers = numbers_more m t J s id v w at ws s.homes e k.numbers (draw_word s.words 1) (λ f. less_all_sum f (m.makes e) v.drawn may.drawn) refl refl;
            places = places_same m t J s id v w at ws s.homes (J ++ e ∷ []) refl (same_length s.words 1) (λ p _. turn_word s.words 1 p) same_keys
                (λ p lt free. stays ok p (let sum = k.places.keeper p lt in let one = total_one (keeps_at p) s.views id v at in let f : is_free (slice_index s.words (p + 24)) ≡ 1 = ap is_free free in let r = may.keeps p in let a = r.0 in let b = r.1 in omega arith)) k.places;
            owed = λ f.
                let a = total_set (λ (u : View G E P N F). tally f u.owed) s.views id v w at in let old = k.owed f in
                let new = mail_more m t f J e ms next_is.sends in
                let mine = tally_append f (without (m.delivers e) v.owed) (named n 0 ms) in
                let theirs = without_tally f (m.delivers e) v.owed (mail m t J) may.owes (λ g. can.owed g) in
                let at_n = ap (λ x. tally f (named x 0 ms)) len in omega arith;
            roster = roster_same m t J s id v w at ws s.homes k.roster refl refl refl refl refl;
            seated = seated_each m t J s id v w at ws s.homes (J ++ e ∷ []) mine (λ i u ne u_at. later ok op u (k.seated i u u_at) (theirs i u ne u_at) (not_theirs i u ne u_at ok));
          } in
          (w, (record { history = J ++ e ∷ []; kept = now; counted = counted_entered op; alive = alive_entered len op none_ended }, (refl, inl (omega arith, refl, (sees m t (J ++ e ∷ []) (after s ws s.homes id w) now id w (stepped_at s.views id v w at) (counted_entered op) is_out, adds_owed op)))))

      pub commit_at : CommitGoal
      commit_at = ⊎_elim (λ h. entered h.0 h.1 h.2)
          (λ h. let n = slice_index s.words 0 in
          (shut_by v n, (record { history = J; kept = refused m t J s k cnt live id v at was_open is_out 1 (omega arith) h.0 h.1; counted = counted_shut m t J s k cnt live id v at was_open is_out n ((n + 1) % 18446744073709551616); alive = alive_shut m t J s k cnt live id v at was_open is_out 1 (omega arith) h.0 h.1 }, (refl, inr (h.0, refl, told_end m t J s k cnt live id v at was_open is_out 1 (omega arith) h.0 h.1)))))
          k.ledger.word

    -- A CLOSE
    module _ (c : List (ℕ × Option P)) (fs : List F) (may : MayClose m t v e fs) where
      abbrev pub CloseGoal : Type 0
      CloseGoal = (w : View G E P N F) × (Holds m t (stepped s 0 ((slice_index s.words 0 + 281474976710657) % 18446744073709551616) id c w keeps) × closes m (Some (e, fs)) (v, c) (slice_index s.words 0) (w, c))

      no_mail : (f : ℕ × ℕ → ℕ) → tally f (mail m t (J ++ e ∷ [])) ≡ tally f (mail m t J)
      no_mail f =
          let bare = laws.bare e may.stops in
          let new = mail_more m t f J e [] (bare.sends t.setting.value t.limit J) in
          let same = ap (λ o. tally f (without o (mail m t J))) bare.delivers in omega arith

      counted_stopped : Open m.stops J → Counted m t (reverse (J ++ e ∷ [])) (after s (grown s.words 281474976710657) s.homes id (ended_by v (slice_index s.words 0) e fs))
      counted_stopped op =
          let bare : IsBare m e = laws.bare e may.stops in let twice = reverse_twice J in
          let can = fits m t J s k id v at cnt was_open in
          let wakes = bare.resumes t.setting.value t.limit (reverse (reverse J)) in
          subst (λ l. Counted m t l (after s (grown s.words 281474976710657) s.homes id (ended_by v (slice_index s.words 0) e fs))) (sym (reverse-append J (e ∷ [])))
          (entered_kept m claws laws t (reverse J) e
          (record { limits = k.limits.0; run = subst (Run (m.legal t.setting.value t.limit)) (sym twice) k.ledger.run; legal = subst (λ l. m.legal t.setting.value t.limit l e) (sym twice) (may.legal J op can) })
          (λ n has. let none = ap (sum_of (one_at n)) bare.makes in absurd (omega arith))
          s cnt id v (ended_by v (slice_index s.words 0) e fs) at is_out (grown s.words 281474976710657) (same_length s.words 281474976710657)
          (λ i beyond. get_or-set_other s.words 0 i ((slice_index s.words 0 + 281474976710657) % 18446744073709551616) 0 (λ z. absurd (omega arith)))
          (adds_none m e v.debts (m.counting.resumes t.setting.value t.limit (reverse (reverse J)) e) (m.counting.creates t.setting.value t.limit (reverse (reverse J)) e) (bare.creates t.setting.value t.limit (reverse (reverse J))) bare.sets wakes)
          (without_none (leaves m e) v.claims (λ n. ap (λ b. b && m.ends e n) (bare.runs n)))
          (slice_index s.words 0, refl, refl)
          (λ n on. let off = no_start m laws e n (bare.runs n) in absurd (cc (on, off)))
          (λ n p on. let off = bare.waits n in absurd (cc (on, off)))
          (λ n has. let none = ap (times n) wakes in absurd (omega arith))
          (λ p has. let off = bare.touches t.limit p in absurd (omega arith)) (λ p. refl)
          (λ i u ne u_at p one. dite (dec_le 1 (keeps_at p u))
          (λ y. let lt : p < length s.homes = ((k.seated i u u_at).empty p y).0 in
          let two = total_two (keeps_at p) s.views i id u v ne u_at at in let sum = k.places.keeper p lt in absurd (omega arith))
          (λ none. omega arith)))

      -- and whoever ends the run keeps a unit
      alive_stopped : slice_index s.words 0 ≡ length J → Alive m t (J ++ e ∷ []) (after s (grown s.words 281474976710657) s.homes id (ended_by v (slice_index s.words 0) e fs))
      alive_stopped len =
          let w : View G E P N F = ended_by v (slice_index s.words 0) e fs in let ws = grown s.words 281474976710657 in
          let unit = may.unit in let some_unit = some_live m t J s live id v w at (omega arith) in
          let ready = ready_grown s.words 281474976710657 (length s.homes) t.limit in let live_is = live_word s.words 281474976710657 in
          let old = others_live m t J s live id v w at (J ++ e ∷ []) (slice_index ws 16) v some_unit (live.each id v at) in
          alive_after m t J s live id v w at (J ++ e ∷ []) ws s.homes refl (omega arith) (omega arith)
          (λ _. let to = total_set (λ (u : View G E P N F). u.ended) s.views id v w at in let one = total_one (λ (u : View G E P N F). u.ended) s.views id v at in omega arith)
          (record { raised = old.raised; gained = old.gained; stop = λ _. may.unit; still = old.still; quiet = old.quiet; spent = λ z. absurd (omega arith) })
          (λ i u ne u_at. others_live m t J s live id v w at (J ++ e ∷ []) (slice_index ws 16) u some_unit (live.each i u u_at))

      stopped : slice_index s.words 0 ≡ length J → Open m.stops J → total (λ (u : View G E P N F). u.ended) s.views ≡ 0 → CloseGoal
      stopped len op none_ended =
          let n = slice_index s.words 0 in let ws = grown s.words 281474976710657 in
          let w : View G E P N F = ended_by v n e fs in
          let seat = k.seated id v at in let bare : IsBare m e = laws.bare e may.stops in
          let ok : m.legal t.setting.value t.limit J e = may.legal J op (fits m t J s k id v at cnt was_open) in
          let lim = short m t J s k in let sh = k.share in
          let is : (n + 281474976710657) % 18446744073709551616 ≡ n + 281474976710657 = omega arith in
          let word : slice_index ws 0 ≡ n + 281474976710657 = commit_word s.words 281474976710657 (some_words m t J s k cnt live id v at was_open is_out) ∙ is in
          let over : Ended m.stops (J ++ e ∷ []) = record { past = J; last = e; whole = refl; stop = may.stops; open_before = op } in
          let mine : Seated m t s.homes (J ++ e ∷ []) w = record {
            log = subst (λ (x : ℕ). LogOf (J ++ e ∷ []) (v.log ++ (x, e) ∷ [])) (sym len) (log_more J e v.log seat.log);
            joined = λ j l there. log_later J e l (seat.joined j l there);
            rises = rises_more J e v.log n len seat.log seat.rises;
            all_rise = seat.all_rise;
            parts = λ is_open j p x there. stays ok p (bare.touches t.limit p) ∙ seat.parts is_open j p x there;
            facts = λ j f there. ⊎_elim (λ h. laws.lasting t.setting.value t.limit J e f k.ledger.run ok (seat.facts j f h)) (λ h. may.facts J op (fits m t J s k id v at cnt was_open) h.0 f h.1) (at_append v.facts fs j f there);
            sent = sent_later m t J e v.owed seat.sent;
            own = λ q runs. let o = seat.own q (ran m.starts m.ends e n v.log q (no_start m laws e q (bare.runs q)) runs) in (own_both m t J e n v.log q o.0, o.1);
            weight = let a = seat.weight in let b = load_snoc m.heavy v.log n e in let z = bare.weightless in omega arith;
            light = seat.light;
            bounded = λ out. let here : weigh (λ _. 1) (v.log ++ (n, e) ∷ []) ≡ weigh (λ _. 1) v.log + 1 = weigh_snoc (λ _. 1) v.log n e in let b = seat.bounded out in omega arith;
            filled = seat.filled;
            shut = seat.shut;
            over = λ _. subst (λ o. MatchOption o (Unit {0}) (λ _. Ended m.stops (J ++ e ∷ []))) (sym was_open) tt;
            empty = seat.empty;
            spent = λ z. absurd (omega arith);
            terms = seat.terms;
            not_root = seat.not_root;
          } in
          let now : Kept m t (J ++ e ∷ []) (after s ws s.homes id w) = record {
            limits = k.limits;
            share = k.share;
            ledger = record {
              run = run_more (m.legal t.setting.value t.limit) J e k.ledger.run ok;
              once = once_more ok w refl refl len;
              word = inr (omega arith, over);
              ended = let tot = total_set (λ (u : View G E P N F). u.ended) s.views id v w at in omega arith;
              high = let tot = total_same m t J s id v w at ws s.homes (λ u. u.shut) refl in let old = k.ledger.high in omega (arith, length-append J (e ∷ []));
            };
            numbers = numbers_more m t J s id v w at ws s.homes e k.numbers (draw_word s.words 281474976710657) (λ f. let none = ap (sum_of f) bare.makes in omega arith) refl refl;
            places = places_same m t J s id v w at ws s.homes (J ++ e ∷ []) refl (same_length s.words 281474976710657) (λ p _. turn_word s.words 281474976710657 p) (λ p. refl) (λ p _ _. stays ok p (bare.touches t.limit p)) k.places;
            owed = λ f. owed_same m t J s id v w at ws s.homes k.owed (λ g. refl) f ∙ sym (no_mail f);
            roster = roster_same m t J s id v w at ws s.homes k.roster refl refl refl refl refl;
            seated = seated_each m t J s id v w at ws s.homes (J ++ e ∷ []) mine (λ i u _ u_at. later ok op u (k.seated i u u_at) (λ p _. bare.touches t.limit p) (λ q _. bare.runs q));
          } in
          (w, (record { history = J ++ e ∷ []; kept = now; counted = counted_stopped op; alive = alive_stopped len }, (refl, inl (omega arith, refl, sees_end m t (J ++ e ∷ []) (after s ws s.homes id w) now id w (stepped_at s.views id v w at) is_out over))))

      pub close_at : CloseGoal
      close_at = ⊎_elim (λ h. stopped h.0 h.1 h.2)
          (λ h. let n = slice_index s.words 0 in
          (shut_by v n, (record { history = J; kept = refused m t J s k cnt live id v at was_open is_out 281474976710657 (omega arith) h.0 h.1; counted = counted_shut m t J s k cnt live id v at was_open is_out n ((n + 281474976710657) % 18446744073709551616); alive = alive_shut m t J s k cnt live id v at was_open is_out 281474976710657 (omega arith) h.0 h.1 }, (refl, inr (h.0, refl, told_end m t J s k cnt live id v at was_open is_out 281474976710657 (omega arith) h.0 h.1)))))
          k.ledger.word
