-- The step that draws a number keeps the rule.
use Rattle.std.proofs.Common.{◌≡◌, ℕ, suc, ◌+◌, ◌%◌, ◌<◌, ◌≤◌, ◌⊎◌, inl, inr, ⊎_elim, List, [], ◌∷◌, ◌++◌, length, reverse, refl, ap, sym, subst, ◌∙◌, arith, get_or-set_same, None, Some, Option}
use Rattle.std.specs.Prelude.{slice_index, slice_set, MatchOption}
use Rattle.std.proofs.Math.ListN.{length-set}
use mathlib.Core.Option.{some}
use mathlib.Core.Logic.{dite}
use native.Mathlib.Decide.{dec_le}
use lib.ListN.{get_elem?}
use Rattle.atomic_table.specs.Table.{State, keeps, stepped}
use Rattle.atomic_table.proofs.Lists.{at_set}
use Rattle.ocr_turns_rule.specs.Counts.{Counted}
use Rattle.ocr_turns_rule.specs.Meaning.{Meaning}
use Rattle.ocr_turns_rule.specs.Rule.{Alive, Seated, Kept, Holds}
use Rattle.ocr_turns_rule.specs.Steps.{limit_of, with_drawn, filled_by, draws_from}
use Rattle.ocr_turns_rule.specs.Sums.{AreBelow, one_at, sum_of, total, up_to}
use Rattle.ocr_turns_rule.proofs.Units.{alive_same, ready_same}
use Rattle.ocr_turns_rule.specs.declared.view.View.{View}
use Rattle.ocr_turns_rule.specs.declared.view.Terms.{Terms}
use Rattle.ocr_turns_rule.proofs.Bounds.{filled_most, sees, stepped_at}
use Rattle.ocr_turns_rule.proofs.Commits.{elsewhere}
use Rattle.ocr_turns_rule.proofs.Same.{Reached, after, ledger_same, places_same, roster_same, owed_same, seated_each}
use Rattle.ocr_turns_rule.proofs.Apart.{counted_beside}
use Rattle.ocr_turns_rule.proofs.Totals.{sum_append, total_one, total_set, up_to_range}

next_number : (f : ℕ → ℕ) (n : ℕ) → up_to f (n + 1) ≡ f (n + 1) + up_to f n
next_number f n = rw (plus n) refl
  where
    plus : (x : ℕ) → x + 1 ≡ suc x
    plus x = omega arith

module _ {G E P N F : Type 0} (m : Meaning G E P N F) (t : Terms G) where
  module _ (J : List E) (s : State (Option P) (View G E P N F)) (k : Kept m t J s) (cnt : Counted m t (reverse J) s) (live : Alive m t J s) (id : ℕ) (v : View G E P N F) (c : List (ℕ × Option P)) (at : get_elem? s.views id ≡ some v) (more : v.full ≡ None) (is_out : 0 < v.root + v.seat) where
    abbrev pub n : ℕ
    n = slice_index s.words 8

    abbrev pub next : List ℕ
    next = slice_set s.words 8 ((n + 1) % 18446744073709551616)

    abbrev pub DrawGoal : Type 0
    DrawGoal = (w : View G E P N F) × (Holds m t (stepped s 8 ((n + 1) % 18446744073709551616) id c w keeps) × draws_from m (v, c) n (w, c))

    -- the view changes what it knows of numbers
    drew : (ns : List ℕ) (full reached : Option ℕ) (filled d : ℕ)
        → ((n + 1 ≡ d) × (d ≤ t.limit)) ⊎ ((d ≡ t.limit) × (t.limit ≤ n + 1))
        → ((f : ℕ → ℕ) → sum_of f ns + up_to f k.numbers.drawn ≡ sum_of f v.drawn + up_to f d)
        → (n + 1 + v.filled ≤ t.limit + total (λ (u : View G E P N F). u.filled) s.views + filled)
        → Reached t.limit (n + 1) reached
        → MatchOption full (filled + (v.root + v.seat) ≤ v.seats) (λ _. filled ≤ v.seats)
        → Kept m t J (after s next s.homes id record v { drawn = ns; full = full; reached = reached; filled = filled })
    drew ns full reached filled d draws numbers fulls is_reached room =
        let w : View G E P N F = record v { drawn = ns; full = full; reached = reached; filled = filled } in
        let seat = k.seated id v at in
        let few = filled_most m t J s k in let old_fulls = k.numbers.fulls in let lim = k.limits in
        let is : (n + 1) % 18446744073709551616 ≡ n + 1 = omega (arith, lim.1) in
        let some_words : 8 < length s.words = (let w = k.places.words in omega arith) in
        let word : slice_index next 8 ≡ n + 1 = get_or-set_same s.words 8 ((n + 1) % 18446744073709551616) 0 some_words ∙ is in
        let mine : Seated m t s.homes J w = record { log = seat.log; joined = seat.joined; rises = seat.rises; all_rise = seat.all_rise; parts = seat.parts; facts = seat.facts; sent = seat.sent; own = seat.own; weight = seat.weight; light = seat.light; bounded = seat.bounded; filled = room; shut = seat.shut; over = seat.over; empty = seat.empty; spent = λ z. absurd (omega arith); terms = seat.terms; not_root = seat.not_root } in
        record {
          limits = k.limits;
          share = k.share;
          ledger = ledger_same m t J s id v w at next s.homes k.ledger (elsewhere s.words 8 0 ((n + 1) % 18446744073709551616) (λ h. omega arith)) (λ f. refl) refl refl;
          numbers = record {
            drawn = d;
            draws = subst (λ (x : ℕ). ((x ≡ d) × (d ≤ t.limit)) ⊎ ((d ≡ t.limit) × (t.limit ≤ x))) (sym word) draws;
            numbers = λ f. let tot = total_set (λ (u : View G E P N F). sum_of f u.drawn) s.views id v w at in let old = k.numbers.numbers f in let new = numbers f in omega arith;
            fulls = let tot = total_set (λ (u : View G E P N F). u.filled) s.views id v w at in omega arith;
            reached = λ i u u_at. subst (λ x. Reached t.limit x u.reached) (sym word) (⊎_elim (λ h. subst (λ (y : View G E P N F). Reached t.limit (n + 1) y.reached) h.1 is_reached) (λ h. still u.reached (k.numbers.reached i u h.1)) (at_set s.views id i w u u_at));
          };
          places = places_same m t J s id v w at next s.homes J refl (length-set s.words 8 ((n + 1) % 18446744073709551616)) (λ p _. elsewhere s.words 8 (p + 24) ((n + 1) % 18446744073709551616) (λ h. omega arith)) (λ p. refl) (λ p _ _. refl) k.places;
          owed = owed_same m t J s id v w at next s.homes k.owed (λ f. refl);
          roster = roster_same m t J s id v w at next s.homes k.roster refl refl refl refl refl;
          seated = seated_each m t J s id v w at next s.homes J mine (λ i u _ u_at. k.seated i u u_at);
        }
      where
        still : (o : Option ℕ) → Reached t.limit n o → Reached t.limit (n + 1) o
        still None h = tt
        still (Some x) h = omega arith

    -- what the seat drew before
    drawn_below : AreBelow (k.numbers.drawn + 1) v.drawn
    drawn_below x has =
        let one = total_one (λ (u : View G E P N F). sum_of (one_at x) u.drawn) s.views id v at in let sum = k.numbers.numbers (one_at x) in
        let range = up_to_range x k.numbers.drawn (omega (arith, has, one, sum)) in omega (arith, range)

    -- the same of the live word
    alive_drew : (ns : List ℕ) (full reached : Option ℕ) (filled : ℕ) → Alive m t J (after s next s.homes id record v { drawn = ns; full = full; reached = reached; filled = filled })
    alive_drew ns full reached filled =
        let w : View G E P N F = record v { drawn = ns; full = full; reached = reached; filled = filled } in
        alive_same m t J s live id v w at (refl, refl) refl (omega arith) (refl, refl) (refl, refl, refl) is_out next s.homes refl
        (elsewhere s.words 8 16 ((n + 1) % 18446744073709551616) (λ h. omega arith))
        (λ past. let same = elsewhere s.words 8 0 ((n + 1) % 18446744073709551616) (λ h. omega arith) in omega arith)
        (let same = ready_same s.words next (length s.homes) t.limit (λ i beyond. elsewhere s.words 8 i ((n + 1) % 18446744073709551616) (λ h. absurd (omega arith))) in omega arith)

    pub draw_at : DrawGoal
    draw_at =
        let seat = k.seated id v at in
        let terms : limit_of v.terms ≡ t.limit = ap limit_of (seat.terms is_out) in
        let room : v.filled + (v.root + v.seat) ≤ v.seats = subst (λ o. MatchOption o (v.filled + (v.root + v.seat) ≤ v.seats) (λ _. v.filled ≤ v.seats)) more seat.filled in
        let fulls = k.numbers.fulls in
        dite (dec_le t.limit n)
        (λ past. (
          filled_by v n,
          (
            record {
              history = J;
              kept = drew v.drawn (Some n) (Some n) (v.filled + 1) k.numbers.drawn
                  (inr (⊎_elim (λ z. let a = z.0 in let b = z.1 in omega arith) (λ z. z.0) k.numbers.draws, omega arith))
                  (λ f. refl) (omega arith) (omega arith) (omega arith);
              counted = counted_beside m t (reverse J) s cnt id v (filled_by v n) at refl refl is_out (λ p. omega arith) (λ q b. b) 8 ((n + 1) % 18446744073709551616) s.homes (omega arith) refl;
              alive = alive_drew v.drawn (Some n) (Some n) (v.filled + 1);
            },
            (refl, inr (omega arith, refl)),
          ),
        ))
        (λ under.
        let is : n ≡ k.numbers.drawn = ⊎_elim (λ z. z.0) (λ z. let a = z.1 in absurd (omega arith)) k.numbers.draws in
        let none : (o : Option ℕ) → Reached t.limit n o → Reached t.limit (n + 1) o = below_limit under in
        let now = drew (v.drawn ++ (n + 1) ∷ []) v.full v.reached v.filled (n + 1)
        (inl (refl, omega arith))
        (λ f. let a = sum_append f v.drawn ((n + 1) ∷ []) in let b = next_number f n in let c = ap (up_to f) is in omega arith)
        (omega arith) (none v.reached (k.numbers.reached id v at)) seat.filled in
        let counted = counted_beside m t (reverse J) s cnt id v (with_drawn v (n + 1)) at refl refl is_out (λ p. omega arith) (λ q b. b) 8 ((n + 1) % 18446744073709551616) s.homes (omega arith) refl in (
          with_drawn v (n + 1),
          (
            record { history = J; kept = now; counted = counted; alive = alive_drew (v.drawn ++ (n + 1) ∷ []) v.full v.reached v.filled },
            (
              refl,
              inl (
                omega arith,
                refl,
                sees m t J (after s next s.homes id (with_drawn v (n + 1))) now id (with_drawn v (n + 1)) (stepped_at s.views id v (with_drawn v (n + 1)) at) counted is_out,
                subst (λ (x : ℕ). AreBelow (x + 1) v.drawn) (sym is) drawn_below,
              ),
            ),
          ),
        ))
      where
        below_limit : ¬ (t.limit ≤ n) → (o : Option ℕ) → Reached t.limit n o → Reached t.limit (n + 1) o
        below_limit under None h = tt
        below_limit under (Some x) h = omega arith
