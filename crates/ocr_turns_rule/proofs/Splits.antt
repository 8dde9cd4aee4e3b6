-- A seat is made of the root's, and comes home to it.
use Rattle.std.proofs.Common.{◌≡◌, ◌≢◌, ℕ, zero, suc, ◌+◌, ◌*◌, ◌<◌, ◌≤◌, inl, inr, ⊎_elim, List, [], ◌∷◌, ◌++◌, length, reverse, refl, ap, sym, subst, ◌∙◌, arith, mul-le-mul_right, None, Some, Option}
use Rattle.std.specs.Prelude.{slice_index, slice_set, MatchOption}
use Rattle.std.proofs.Math.Nat.{add-mul}
use mathlib.Core.Option.{some, some-injective, some-ne-none}
use mathlib.Core.Logic.{dite}
use native.Mathlib.Decide.{dec_le}
use lib.ListN.{get_elem?}
use Rattle.std.specs.Option.{option_or}
use Rattle.atomic_table.specs.Table.{State, Splits}
use Rattle.atomic_table.proofs.Lists.{at_set, set_else}
use Rattle.ocr_base.specs.Mail.{tally}
use Rattle.ocr_turns_rule.specs.Contract.{Finished}
use Rattle.ocr_turns_rule.specs.Counts.{state_at}
use Rattle.ocr_turns_rule.specs.Meaning.{Meaning, Ended}
use Rattle.ocr_turns_rule.specs.Rule.{weighed, LogOf, Seated, Kept, Holds, EmptyAt, RunsIn, Lively, IsStill}
use Rattle.ocr_turns_rule.specs.Steps.{fresh, parted, gathered, spent_view}
use Rattle.ocr_turns_rule.specs.Sums.{total, weigh, one_at, sum_of, up_to, made_sum, load_of, Rises}
use Rattle.ocr_turns_rule.specs.declared.view.View.{View}
use Rattle.ocr_turns_rule.specs.declared.view.Terms.{Terms}
use Rattle.ocr_turns_rule.proofs.Bounds.{lone, lone_drawn, short}
use Rattle.ocr_turns_rule.proofs.Same.{keeps_at, Reached}
use Rattle.ocr_turns_rule.proofs.Apart.{counted_split, counted_joined}
use Rattle.ocr_turns_rule.proofs.Steps.{found}
use Rattle.ocr_turns_rule.specs.Units.{claim_count, one_each, units}
use Rattle.ocr_turns_rule.proofs.Units.{gathered_units, quiet_both}
use Rattle.ocr_turns_rule.proofs.Still.{still}
use Rattle.ocr_turns_rule.proofs.Totals.{total_set, total_snoc, at_snoc_at, total_one, total_two, total_alone, tally_append, sum_append, at_append, weigh_append, weigh_all_append}

-- two shares are the shares of both
shares : (a b c : ℕ) → a * c + b * c ≡ (a + b) * c
shares a b c = sym (add-mul a b c)

one_less : (a b r : ℕ) (o : Option ℕ) → MatchOption o (a + r ≤ b) (λ _. a ≤ b) → a ≤ b
one_less a b r None h = omega arith
one_less a b r (Some n) h = h

shut_both : (a b c d : ℕ) (o q : Option ℕ) → MatchOption o (a + 1 ≤ b) (λ _. a ≤ b) → MatchOption q (c + 1 ≤ d) (λ _. c ≤ d) → MatchOption (option_or o q) (a + c + 1 ≤ b + d) (λ _. a + c ≤ b + d)
shut_both a b c d None None h i = omega arith
shut_both a b c d None (Some n) h i = omega arith
shut_both a b c d (Some n) q h i = let j = one_less c d 1 q i in omega arith

filled_both : (a b r c d q : ℕ) (o p : Option ℕ) → MatchOption o (a + r ≤ b) (λ _. a ≤ b) → MatchOption p (c + q ≤ d) (λ _. c ≤ d) → MatchOption o (a + c + r ≤ b + d) (λ _. a + c ≤ b + d)
filled_both a b r c d q None p h i = let j = one_less c d q p i in omega arith
filled_both a b r c d q (Some n) p h i = let j = one_less c d q p i in omega arith

reached_both : (l w : ℕ) (o p : Option ℕ) → Reached l w o → Reached l w p → Reached l w (option_or o p)
reached_both l w None p h i = i
reached_both l w (Some n) p h i = h

over_both : (Q : Type 0) (o q : Option ℕ) → MatchOption o (Unit {0}) (λ _. Q) → MatchOption q (Unit {0}) (λ _. Q) → MatchOption (option_or o q) (Unit {0}) (λ _. Q)
over_both Q None q h i = i
over_both Q (Some n) q h i = h

open_left : (o q : Option ℕ) → option_or o q ≡ None → o ≡ None
open_left None q e = refl
open_left (Some n) q e = e

open_right : (o q : Option ℕ) → option_or o q ≡ None → q ≡ None
open_right None q e = e
open_right (Some n) q e = absurd (cc e)

-- what is so of one and of all others is so of all
each_of : {A : Type 0} (Q : A → Type 0) (l : A) (ls : List A) → Q l → ((j : ℕ) (x : A) → get_elem? ls j ≡ some x → Q x) → (j : ℕ) (x : A) → get_elem? (l ∷ ls) j ≡ some x → Q x
each_of Q l ls one all zero x at = subst Q (some-injective l x at) one
each_of Q l ls one all (suc j) x at = all j x at

module _ {G E P N F : Type 0} (m : Meaning G E P N F) (t : Terms G) where
  -- a view with nothing
  pub nothing_yet : (hs : List _) (J : List E) (v : View G E P N F) → v.log ≡ [] → v.joined ≡ [] → v.parts ≡ [] → v.facts ≡ [] → v.owed ≡ [] → v.drawn ≡ [] → v.weight ≡ 0
      → (0 < v.root + v.seat → v.terms ≡ Some t) → (0 < v.root + v.seat → 1 ≤ v.seats) → MatchOption v.full (v.filled + (v.root + v.seat) ≤ v.seats) (λ _. v.filled ≤ v.seats) → MatchOption v.closed (v.shut + 1 ≤ v.seats) (λ _. v.shut ≤ v.seats) → (v.root ≡ 0 → v.out ≡ 0) → (0 < v.root + v.seat → MatchOption v.closed (Unit {0}) (λ _. Ended m.stops J))
      → Seated m t hs J v
  nothing_yet hs J v log joined parts facts owed drawn weight terms seats filled shut not_root over = record {
    log = λ j n e a. absurd (some-ne-none (n, e) (sym a ∙ ap (λ l. get_elem? l j) log));
    joined = λ j l a. absurd (some-ne-none l (sym a ∙ ap (λ ls. get_elem? ls j) joined));
    rises = λ i n k a b at next. absurd (some-ne-none (n, a) (sym at ∙ ap (λ l. get_elem? l i) log));
    all_rise = λ j l a. absurd (some-ne-none l (sym a ∙ ap (λ ls. get_elem? ls j) joined));
    parts = λ _ j q x a. absurd (some-ne-none (q, x) (sym a ∙ ap (λ l. get_elem? l j) parts));
    facts = λ j f a. absurd (some-ne-none f (sym a ∙ ap (λ l. get_elem? l j) facts));
    sent = λ k n i x a. absurd (some-ne-none (n, i, x) (sym a ∙ ap (λ l. get_elem? l k) owed));
    own = λ u runs. (let z = subst (λ l. RunsIn m.starts m.ends l u) log runs in let s = z.started in absurd (cc s));
    weight = weight ∙ sym (ap (load_of m.heavy) log);
    light = omega arith;
    bounded = λ out. let one = seats out in let z : weighed (λ _. 1) v ≡ 0 = rw (log, joined) refl in let more : 1 * t.share ≤ v.seats * t.share = mul-le-mul_right t.share one in omega arith;
    filled = filled;
    shut = shut;
    over = over;
    empty = λ q h. let z = ap (weigh (one_at q)) parts in absurd (omega arith);
    spent = λ _. (log, joined, parts, facts, drawn, owed);
    terms = terms;
    not_root = not_root;
  }

  -- so many of the root's spare units go with the new seat
  pub splits : (id : ℕ) (v : View G E P N F) (stays goes : ℕ) → stays + goes ≡ v.spares → (1 ≤ v.ended → 1 ≤ v.spares + claim_count v → 1 ≤ stays + claim_count v) → v.root ≡ 1 → 0 < v.quota → Splits (Holds m t) id v (record (parted v) { spares = stays }) (record (fresh v) { spares = goes })
  splits id v stays goes both stake is_root room s h at =
      let k = h.kept in let J = h.history in
      let seat = k.seated id v at in
      let whole : (f : View G E P N F → ℕ) → total f (slice_set s.views id (record (parted v) { spares = stays }) ++ (record (fresh v) { spares = goes }) ∷ []) + f v ≡ total f s.views + (f (record (parted v) { spares = stays }) + f (record (fresh v) { spares = goes })) =
      λ f. (let a = total_snoc f (slice_set s.views id (record (parted v) { spares = stays })) (record (fresh v) { spares = goes }) in let b = total_set f s.views id v (record (parted v) { spares = stays }) at in omega arith) in
      let terms : v.terms ≡ Some t = seat.terms (omega arith) in
      let each : (Q : View G E P N F → Type 0) → Q (record (parted v) { spares = stays }) → Q (record (fresh v) { spares = goes }) → ((i : ℕ) (u : View G E P N F) → get_elem? s.views i ≡ some u → Q u) → (i : ℕ) (u : View G E P N F) → get_elem? (slice_set s.views id (record (parted v) { spares = stays }) ++ (record (fresh v) { spares = goes }) ∷ []) i ≡ some u → Q u =
      λ Q left right old i u u_at. ⊎_elim (λ z. ⊎_elim (λ y. subst Q y.1 left) (λ y. old i u y.1) (at_set s.views id i (record (parted v) { spares = stays }) u z.1)) (λ z. subst Q z.1 right) (at_snoc_at (slice_set s.views id (record (parted v) { spares = stays })) (record (fresh v) { spares = goes }) u i u_at) in
      record {
        history = J;
        kept = record {
          limits = k.limits;
          share = k.share;
          ledger = record {
            run = k.ledger.run;
            once = λ f. let a = whole (λ (u : View G E P N F). weighed f u) in let old = k.ledger.once f in omega arith;
            word = ⊎_elim (λ z. inl (z.0, z.1, (let a = whole (λ (u : View G E P N F). u.ended) in let b = z.2 in omega arith))) inr k.ledger.word;
            ended = let a = whole (λ (u : View G E P N F). u.ended) in let old = k.ledger.ended in omega arith;
            high = let a = whole (λ (u : View G E P N F). u.shut) in let old = k.ledger.high in omega arith;
          };
          numbers = record {
            drawn = k.numbers.drawn;
            draws = k.numbers.draws;
            numbers = λ f. let a = whole (λ (u : View G E P N F). sum_of f u.drawn) in let old = k.numbers.numbers f in omega arith;
            fulls = let a = whole (λ (u : View G E P N F). u.filled) in let old = k.numbers.fulls in omega arith;
            reached = each (λ u. Reached t.limit (slice_index s.words 8) u.reached) (k.numbers.reached id v at) tt k.numbers.reached;
          };
          places = record {
            words = k.places.words;
            keeper = λ q lt. let a = whole (keeps_at q) in let old = k.places.keeper q lt in omega arith;
            home = k.places.home;
          };
          owed = λ f. let a = whole (λ (u : View G E P N F). tally f u.owed) in let old = k.owed f in omega arith;
          roster = record {
            seats = let a = whole (λ (u : View G E P N F). u.seats) in let b = whole (λ (u : View G E P N F). u.quota) in let old = k.roster.seats in omega arith;
            root = let a = whole (λ (u : View G E P N F). u.root) in let old = k.roster.root in omega arith;
            out = let a = whole (λ (u : View G E P N F). u.seat) in let b = whole (λ (u : View G E P N F). u.out) in let old = k.roster.out in omega arith;
          };
          seated = each (Seated m t s.homes J)
              (record { log = seat.log; joined = seat.joined; rises = seat.rises; all_rise = seat.all_rise; parts = seat.parts; facts = seat.facts; sent = seat.sent; own = seat.own; weight = seat.weight; light = seat.light; bounded = seat.bounded; filled = seat.filled; shut = seat.shut; over = seat.over; empty = seat.empty; spent = seat.spent; terms = seat.terms; not_root = λ zero. absurd (omega arith) })
              (nothing_yet s.homes J (record (fresh v) { spares = goes }) refl refl refl refl refl refl refl (λ _. terms) (λ _. omega arith) (omega arith) (omega arith) (λ _. refl) (λ _. tt))
              k.seated;
        };
        counted = counted_split m t (reverse J) s h.counted id v (record (parted v) { spares = stays }) at refl refl (omega arith) (λ n p has is. (h.counted.seated id v at).tied n p has is) (λ n b. b) (record (fresh v) { spares = goes }) refl refl;
        alive = record {
          word = let a = whole (λ (u : View G E P N F). units u) in let old = h.alive.word in omega arith;
          most = let a = whole (λ (u : View G E P N F). u.raised + u.gained) in let old = h.alive.most in omega arith;
          stopped = λ past. let a = whole (λ (u : View G E P N F). u.ended) in let old = h.alive.stopped past in omega arith;
          each = each (Lively m t J (slice_index s.words 16))
              (let old = h.alive.each id v at in record { raised = old.raised; gained = λ _. old.gained (omega arith); stop = λ some_end. stake some_end (old.stop some_end); still = old.still; quiet = old.quiet; spent = λ z. absurd (omega arith) })
              (record { raised = omega arith; gained = λ _. omega arith; stop = λ z. absurd (omega arith); still = λ z. absurd (cc z); quiet = tt; spent = λ z. absurd (omega arith) })
              h.alive.each;
        };
      }

  module _ (s : State (Option P) (View G E P N F)) (h : Holds m t s) (id : ℕ) (v : View G E P N F) (at : get_elem? s.views id ≡ some v) (other : ℕ) (w : View G E P N F) (ne : ¬ (other ≡ id)) (bt : get_elem? (slice_set s.views id (gathered v w)) other ≡ some w) (is_root : v.root ≡ 1) (theirs : w.seat ≡ 1) (not : w.root ≡ 0) (hand : v.carried ≡ None) (hand' : w.carried ≡ None) where
    abbrev pub k : Kept m t h.history s
    k = h.kept

    there : get_elem? s.views other ≡ some w
    there = sym (set_else s.views id other (gathered v w) ne) ∙ bt

    whole : (f : View G E P N F → ℕ) → total f (slice_set (slice_set s.views id (gathered v w)) other spent_view) + (f v + f w) ≡ total f s.views + (f (gathered v w) + f spent_view)
    whole f = let a = total_set f (slice_set s.views id (gathered v w)) other w spent_view bt in let b = total_set f s.views id v (gathered v w) at in omega arith

    others : (i : ℕ) (u : View G E P N F) → i ≢ id → get_elem? s.views i ≡ some u → u.out ≡ 0
    others i u n u_at = let two = total_two (λ (x : View G E P N F). x.root) s.views i id u v n u_at at in let one = k.roster.root in (k.seated i u u_at).not_root (omega arith)

    some_out : 1 ≤ v.out
    some_out =
        let alone = total_alone (λ (x : View G E P N F). x.out) s.views id v at others in
        let same = k.roster.out in let one = total_one (λ (x : View G E P N F). x.seat) s.views other w there in omega arith

    both : Seated m t s.homes h.history (gathered v w)
    both = let a = k.seated id v at in let b = k.seated other w there in record {
      log = a.log;
      joined = λ j l x. ⊎_elim (λ z. a.joined j l z) (λ z. each_of (LogOf h.history) w.log w.joined b.log b.joined z.0 l z.1) (at_append v.joined (w.log ∷ w.joined) j l x);
      rises = a.rises;
      all_rise = λ j l x. ⊎_elim (λ z. a.all_rise j l z) (λ z. each_of Rises w.log w.joined b.rises b.all_rise z.0 l z.1) (at_append v.joined (w.log ∷ w.joined) j l x);
      parts = λ o j q y x. ⊎_elim (λ z. a.parts (open_left v.closed w.closed o) j q y z) (λ z. b.parts (open_right v.closed w.closed o) z.0 q y z.1) (at_append v.parts w.parts j (q, y) x);
      facts = λ j f x. ⊎_elim (λ z. a.facts j f z) (λ z. b.facts z.0 f z.1) (at_append v.facts w.facts j f x);
      sent = λ k n i x at. ⊎_elim (λ z. a.sent k n i x z) (λ z. b.sent z.0 n i x z.1) (at_append v.owed w.owed k (n, i, x) at);
      own = λ u runs. let o = a.own u runs in let y = weigh_append (one_at (m.core t.limit u)) v.parts w.parts in let kept = o.1 in (o.0, omega arith);
      weight = a.weight;
      light = a.light;
      bounded = λ _. let x = weigh_all_append (λ _. 1) v.joined (w.log ∷ w.joined) in let p = a.bounded (omega arith) in let q = b.bounded (omega arith) in let l = b.light in let d = shares v.seats w.seats t.share in omega arith;
      filled = filled_both v.filled v.seats (v.root + v.seat) w.filled w.seats (w.root + w.seat) v.full w.full a.filled b.filled;
      shut = shut_both v.shut v.seats w.shut w.seats v.closed w.closed a.shut b.shut;
      over = λ _. over_both (Ended m.stops h.history) v.closed w.closed (a.over (omega arith)) (b.over (omega arith));
      empty = λ q kept. (let x = weigh_append (one_at q) v.parts w.parts in dite (dec_le 1 (weigh (one_at q) v.parts))
          (λ y. a.empty q y)
          (λ n. let o = b.empty q (let n' : ¬ (1 ≤ weigh (one_at q) v.parts) = n in omega arith) in (o.0, subst (λ x. EmptyAt s.homes x q) (hand' ∙ sym hand) o.1)));
      spent = λ z. absurd (omega arith);
      terms = λ _. a.terms (omega arith);
      not_root = λ z. absurd (omega arith);
    }

    each : (Q : View G E P N F → Type 0) → Q (gathered v w) → Q spent_view → ((i : ℕ) (u : View G E P N F) → get_elem? s.views i ≡ some u → Q u)
        → (i : ℕ) (u : View G E P N F) → get_elem? (slice_set (slice_set s.views id (gathered v w)) other spent_view) i ≡ some u → Q u
    each Q one none old i u u_at = ⊎_elim (λ z. subst Q z.1 none) (λ z. ⊎_elim (λ y. subst Q y.1 one) (λ y. old i u y.1) (at_set s.views id i (gathered v w) u z.1)) (at_set (slice_set s.views id (gathered v w)) other i spent_view u u_at)

    pub joined : Holds m t record { words = s.words; homes = s.homes; views = slice_set (slice_set s.views id (gathered v w)) other spent_view }
    joined = record {
      history = h.history;
      kept = record {
        limits = k.limits;
        share = k.share;
        ledger = record {
          run = k.ledger.run;
          once = λ f. let x = whole (λ (u : View G E P N F). weighed f u) in let old = k.ledger.once f in let y = weigh_all_append f v.joined (w.log ∷ w.joined) in omega arith;
          word = ⊎_elim (λ z. inl (z.0, z.1, (let a = whole (λ (u : View G E P N F). u.ended) in let b = z.2 in omega arith))) inr k.ledger.word;
          ended = let a = whole (λ (u : View G E P N F). u.ended) in let old = k.ledger.ended in omega arith;
          high = let x = whole (λ (u : View G E P N F). u.shut) in let old = k.ledger.high in omega arith;
        };
        numbers = record {
          drawn = k.numbers.drawn;
          draws = k.numbers.draws;
          numbers = λ f. let a = whole (λ (u : View G E P N F). sum_of f u.drawn) in let b = sum_append f v.drawn w.drawn in let old = k.numbers.numbers f in omega arith;
          fulls = let a = whole (λ (u : View G E P N F). u.filled) in let old = k.numbers.fulls in omega arith;
          reached = each (λ u. Reached t.limit (slice_index s.words 8) u.reached) (reached_both t.limit (slice_index s.words 8) v.reached w.reached (k.numbers.reached id v at) (k.numbers.reached other w there)) tt k.numbers.reached;
        };
        places = record {
          words = k.places.words;
          keeper = λ q lt. let x = whole (keeps_at q) in let old = k.places.keeper q lt in let y = weigh_append (one_at q) v.parts w.parts in omega arith;
          home = k.places.home;
        };
        owed = λ f. let x = whole (λ (u : View G E P N F). tally f u.owed) in let old = k.owed f in let y = tally_append f v.owed w.owed in omega arith;
        roster = record {
          seats = let x = whole (λ (u : View G E P N F). u.seats) in let y = whole (λ (u : View G E P N F). u.quota) in let old = k.roster.seats in omega arith;
          root = let x = whole (λ (u : View G E P N F). u.root) in let old = k.roster.root in omega arith;
          out = let x = whole (λ (u : View G E P N F). u.seat) in let y = whole (λ (u : View G E P N F). u.out) in let old = k.roster.out in let z = (k.seated other w there).not_root not in let o = some_out in omega arith;
        };
        seated = each (Seated m t s.homes h.history) both
            (nothing_yet s.homes h.history spent_view refl refl refl refl refl refl refl (λ z. absurd (omega arith)) (λ z. absurd (omega arith)) (omega arith) (omega arith) (λ _. refl) (λ z. absurd (omega arith)))
            k.seated;
      };
      counted = counted_joined m t (reverse h.history) s h.counted id v at other w ne (gathered v w) spent_view (omega arith) bt refl refl (λ p. weigh_append (one_at p) v.parts w.parts) refl refl refl refl;
      alive = record {
        word = let x = whole (λ (u : View G E P N F). units u) in let sum = gathered_units v w (gathered v w) refl refl refl refl in let old = h.alive.word in omega arith;
        most = let x = whole (λ (u : View G E P N F). u.raised + u.gained) in let old = h.alive.most in omega arith;
        stopped = λ past. let x = whole (λ (u : View G E P N F). u.ended) in let old = h.alive.stopped past in omega arith;
        each = each (Lively m t h.history (slice_index s.words 16))
            (let a = h.alive.each id v at in let b = h.alive.each other w there in record {
              raised = a.raised;
              gained = λ _. let x = a.gained (omega arith) in let y = b.gained (omega arith) in let z = b.raised in omega arith;
              stop = λ some_end. let sum = sum_append one_each v.claims w.claims in dite (dec_le 1 v.ended)
                  (λ y. let c = a.stop y in omega arith)
                  (λ no. let none : ¬ (1 ≤ v.ended) = no in let c = b.stop (omega arith) in omega arith);
              still = a.still;
              quiet = quiet_both (slice_index s.words 16) (length h.history) v.quiet w.quiet a.quiet b.quiet;
              spent = λ z. absurd (omega arith);
            })
            (record { raised = omega arith; gained = λ z. absurd (omega arith); stop = λ z. absurd (omega arith); still = λ z. absurd (cc z); quiet = tt; spent = λ _. (refl, refl) })
            h.alive.each;
      };
    }

  -- where no other seat is out, the root has all
  pub finished : (s : State (Option P) (View G E P N F)) (h : Holds m t s) (id : ℕ) (v : View G E P N F) → get_elem? s.views id ≡ some v → v.root ≡ 1 → v.out ≡ 0 → Finished m t v (v.log ∷ v.joined)
  finished s h id v at is_root none_out =
      let k = h.kept in let seat = k.seated id v at in let lim = short m t h.history s k in let sh = k.share in record {
        history = h.history;
        run = k.ledger.run;
        few = omega arith;
        ends = ⊎_elim (λ z. inl z.1) (λ z. inr z.1) k.ledger.word;
        closed = seat.over (omega arith);
        logs_are = refl;
        facts = seat.facts;
        counted = λ n lo hi. (slice_index s.words (state_at (length s.homes) n), found m t h.history s k h.counted id v at n lo hi);
        once = λ f. lone m t h.history s k id v at is_root none_out f;
        of_run = each_of (LogOf h.history) v.log v.joined seat.log seat.joined;
        rise = each_of Rises v.log v.joined seat.rises seat.all_rise;
        quiet = still_then v.quiet (h.alive.each id v at).quiet;
        full = reach v.reached (k.numbers.reached id v at) (λ f. let a = lone_drawn m t h.history s k id v at is_root none_out f in let b = k.numbers.numbers f in omega arith);
      }
    where
      still_then : (o : Option ℕ) → MatchOption o (Unit {0}) (λ n. (slice_index s.words 16 ≡ 0) × (length h.history ≡ n)) → MatchOption o (Unit {0}) (λ n. (length h.history ≡ n) × IsStill m t h.history)
      still_then None z = tt
      still_then (Some n) z = (z.1, still m t h.history s h.kept h.counted h.alive z.0)

      reach : (o : Option ℕ) → Reached t.limit (slice_index s.words 8) o → ((f : ℕ → ℕ) → sum_of f v.drawn + (up_to f m.opened + made_sum m.makes f h.history) ≡ up_to f h.kept.numbers.drawn)
          → MatchOption o (Unit {0}) (λ _. (f : ℕ → ℕ) → sum_of f v.drawn + (up_to f m.opened + made_sum m.makes f h.history) ≡ up_to f t.limit)
      reach None known all = tt
      reach (Some n) known all = λ f. all f ∙ ap (up_to f) (⊎_elim (λ z. let a = z.0 in let b = z.1 in omega arith) (λ z. z.0) h.kept.numbers.draws)
