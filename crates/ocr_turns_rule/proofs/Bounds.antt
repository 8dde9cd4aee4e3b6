-- The words do not wrap, and what a seat may rely on.
use Rattle.std.proofs.Common.{◌≡◌, ◌≢◌, ℕ, ◌+◌, ◌*◌, ◌<◌, ◌≤◌, ⊎_elim, List, length, refl, sym, subst, ◌∙◌, arith, mul-le-mul_right, None, Some, Option, reverse}
use Rattle.std.specs.Prelude.{slice_set, MatchOption}
use mathlib.Core.Option.{some}
use mathlib.Core.Logic.{dite}
use native.Mathlib.Decide.{dec_le}
use lib.ListN.{get_elem?}
use Rattle.atomic_table.specs.Table.{State}
use Rattle.atomic_table.proofs.Lists.{set_here}
use Rattle.ocr_base.specs.Mail.{tally}
use Rattle.ocr_turns_rule.specs.declared.debts.Debts.{Debts}
use Rattle.ocr_turns_rule.specs.Counts.{Counted}
use Rattle.ocr_turns_rule.specs.Meaning.{Meaning, Open, Ended}
use Rattle.ocr_turns_rule.specs.Rule.{weighed, Fits, Over, Seated, Kept, mail}
use Rattle.ocr_turns_rule.specs.Steps.{Sees, SeesOpen, SeesEnd}
use Rattle.ocr_turns_rule.specs.Sums.{total, one_at, sum_of, below}
use Rattle.ocr_turns_rule.specs.declared.view.View.{View}
use Rattle.ocr_turns_rule.specs.declared.view.Terms.{Terms}
use Rattle.ocr_turns_rule.proofs.Totals.{total_bound, total_bound_more, total_one, total_two, total_alone, at_less, below_ones, up_to_one, up_to_range}
use Rattle.ocr_turns_rule.proofs.Same.{keeps_at}
use Rattle.ocr_turns_rule.proofs.Claims.{claimed_is}

pub same_terms : {G : Type 0} (t u : Terms G) → ◌≡◌ {A = Option (Terms G)} (Some t) (Some u) → t ≡ u
same_terms t u e = cc e

module _ {G E P N F : Type 0} (m : Meaning G E P N F) (t : Terms G) where
  module _ (J : List E) (s : State (Option P) (View G E P N F)) (k : Kept m t J s) where
    few_entries : (v : View G E P N F) → Seated m t s.homes J v → weighed (λ _. 1) v ≤ v.seats * t.share + v.ended
    few_entries v seat = dite (dec_le 1 (v.root + v.seat))
        (λ out. let b = seat.bounded out in let l = seat.light in omega arith)
        (λ no. let sp = seat.spent (let none : ¬ (1 ≤ v.root + v.seat) = no in omega arith) in let z : weighed (λ _. 1) v ≡ 0 = rw (sp.0, sp.1) refl in omega arith)

    -- the history is short, so the word does not wrap
    pub short : length J ≤ 128 * t.share + 1
    short =
        let all : total (λ (v : View G E P N F). weighed (λ _. 1) v) s.views ≤ total (λ (v : View G E P N F). v.seats) s.views * t.share + total (λ (v : View G E P N F). v.ended) s.views =
        total_bound_more (λ (v : View G E P N F). weighed (λ _. 1) v) (λ (v : View G E P N F). v.seats) (λ (v : View G E P N F). v.ended) t.share s.views (λ i v at. few_entries v (k.seated i v at)) in
        let few = k.roster.seats in let end = k.ledger.ended in
        let le : total (λ (v : View G E P N F). v.seats) s.views ≤ 128 = omega arith in
        let most : total (λ (v : View G E P N F). v.seats) s.views * t.share ≤ 128 * t.share = mul-le-mul_right t.share le in
        let once = k.ledger.once (λ _. 1) in
        omega (arith, below_ones (length J))

    one_shut : (v : View G E P N F) (o : Option ℕ) → v.closed ≡ o → MatchOption o (v.shut + 1 ≤ v.seats) (λ _. v.shut ≤ v.seats) → v.shut ≤ v.seats * 1
    one_shut v None is h = omega arith
    one_shut v (Some x) is h = omega arith

    pub shut_most : total (λ (v : View G E P N F). v.shut) s.views ≤ 128
    shut_most =
        let all : total (λ (v : View G E P N F). v.shut) s.views ≤ total (λ (v : View G E P N F). v.seats) s.views * 1 =
        total_bound (λ (v : View G E P N F). v.shut) (λ (v : View G E P N F). v.seats) 1 s.views (λ i v at. one_shut v v.closed refl (k.seated i v at).shut) in
        let seats = k.roster.seats in omega arith

    one_full : (v : View G E P N F) (o : Option ℕ) → v.full ≡ o → MatchOption o (v.filled + (v.root + v.seat) ≤ v.seats) (λ _. v.filled ≤ v.seats) → v.filled ≤ v.seats * 1
    one_full v None is h = omega arith
    one_full v (Some x) is h = omega arith

    pub filled_most : total (λ (v : View G E P N F). v.filled) s.views ≤ 128
    filled_most =
        let all : total (λ (v : View G E P N F). v.filled) s.views ≤ total (λ (v : View G E P N F). v.seats) s.views * 1 =
        total_bound (λ (v : View G E P N F). v.filled) (λ (v : View G E P N F). v.seats) 1 s.views (λ i v at. one_full v v.full refl (k.seated i v at).filled) in
        let seats = k.roster.seats in omega arith

    module _ (id : ℕ) (v : View G E P N F) (at : get_elem? s.views id ≡ some v) where
      -- where no seat is out, the root has all
      module _ (is_root : v.root ≡ 1) (none_out : v.out ≡ 0) where
        lone_roots : (i : ℕ) (u : View G E P N F) → i ≢ id → get_elem? s.views i ≡ some u → u.root ≡ 0
        lone_roots i u ne u_at = let two = total_two (λ (x : View G E P N F). x.root) s.views i id u v ne u_at at in let one = k.roster.root in omega arith

        lone_seats : total (λ (x : View G E P N F). x.seat) s.views ≡ 0
        lone_seats =
            let alone = total_alone (λ (x : View G E P N F). x.out) s.views id v at (λ i u ne u_at. (k.seated i u u_at).not_root (lone_roots i u ne u_at)) in
            let same = k.roster.out in omega arith

        -- every other view is spent
        pub spent_others : (i : ℕ) (u : View G E P N F) → i ≢ id → get_elem? s.views i ≡ some u → u.root + u.seat ≡ 0
        spent_others i u ne u_at = let a = lone_roots i u ne u_at in let b = total_one (λ (x : View G E P N F). x.seat) s.views i u u_at in let c = lone_seats in omega arith

        pub lone : (f : ℕ → ℕ) → weighed f v ≡ below f (length J)
        lone f =
            let a = total_alone (λ (x : View G E P N F). weighed f x) s.views id v at (λ i u ne u_at. let sp = (k.seated i u u_at).spent (spent_others i u ne u_at) in rw (sp.0, sp.1) refl) in
            let o = k.ledger.once f in omega arith

        pub lone_mail : (f : ℕ × ℕ → ℕ) → tally f v.owed ≡ tally f (mail m t J)
        lone_mail f =
            let a = total_alone (λ (x : View G E P N F). tally f x.owed) s.views id v at (λ i u ne u_at. let sp = (k.seated i u u_at).spent (spent_others i u ne u_at) in rw sp.5 refl) in
            let o = k.owed f in omega arith

        pub lone_drawn : (f : ℕ → ℕ) → total (λ (x : View G E P N F). sum_of f x.drawn) s.views ≡ sum_of f v.drawn
        lone_drawn f = total_alone (λ (x : View G E P N F). sum_of f x.drawn) s.views id v at (λ i u ne u_at. let sp = (k.seated i u u_at).spent (spent_others i u ne u_at) in rw sp.4 refl)

      -- what a seat may rely on
      pub fits : Counted m t (reverse J) s → v.closed ≡ None → Fits m t J v
      fits counted was_open =
          let seat = k.seated id v at in record {
            limits = k.limits.0;
            run = k.ledger.run;
            few = (let least = short in let share = k.share in omega arith);
            log = seat.log;
            joined = seat.joined;
            distinct = λ p. dite (dec_le 1 (keeps_at p v))
                (λ y. let lt : p < length s.homes = (seat.empty p y).0 in let one = total_one (keeps_at p) s.views id v at in let sum = k.places.keeper p lt in omega arith)
                (λ no. omega arith);
            unmade = λ n has.
                let one = total_one (λ (u : View G E P N F). sum_of (one_at n) u.drawn) s.views id v at in let sum = k.numbers.numbers (one_at n) in let most = up_to_one n k.numbers.drawn in
                let range = up_to_range n k.numbers.drawn (omega arith) in
                record { unopened = omega arith; unmade = omega arith; least = range.0; most = ⊎_elim (λ h. let a = h.1 in let b = range.1 in omega arith) (λ h. let a = h.0 in let b = range.1 in omega arith) k.numbers.draws };
            own = λ u runs. (seat.own u runs).0;
            owed = λ f. let one = total_one (λ (u : View G E P N F). tally f u.owed) s.views id v at in let sum = k.owed f in omega arith;
            parts = seat.parts was_open;
            facts = seat.facts;
            sent = seat.sent;
            claims = claimed_is m t J s counted id v at;
            sole = lone;
            alone = lone_mail;
          }

      pub sees : Counted m t (reverse J) s → 0 < v.root + v.seat → Sees m v
      sees counted is_out t' terms unclosed = subst (λ q. (K : List E) × Fits m q K v) (same_terms t t' (sym ((k.seated id v at).terms is_out) ∙ terms)) (J, fits counted unclosed)

      pub sees_open : Counted m t (reverse J) s → 0 < v.root + v.seat → Open m.stops J → SeesOpen m v
      sees_open counted is_out op t' terms unclosed = subst (λ q. (K : List E) × Fits m q K v × Open m.stops K) (same_terms t t' (sym ((k.seated id v at).terms is_out) ∙ terms)) (J, fits counted unclosed, op)

      pub sees_end : 0 < v.root + v.seat → Ended m.stops J → SeesEnd m v
      sees_end is_out ended t' terms = subst (λ q. (K : List E) × Over m q K v) (same_terms t t' (sym ((k.seated id v at).terms is_out) ∙ terms))
          (J, record { run = k.ledger.run; log = (k.seated id v at).log; joined = (k.seated id v at).joined; ended = ended; facts = (k.seated id v at).facts; sole = lone })

-- `Fits` RESTS ON THE OTHER FIELDS ALONE: not on the slot in hand, on the counts that were read where no number was left, on what is owed to the words that count, or on the units to spare
pub fits_apart : {G E P N F : Type 0} (m : Meaning G E P N F) (t : Terms G) (J : List E) (v : View G E P N F) (carried full reached : Option ℕ) (filled : ℕ) (debts : Debts) (spares : ℕ) → Fits m t J v
    → Fits m t J record v { full = full; reached = reached; filled = filled; carried = carried; debts = debts; spares = spares }
fits_apart m t J v carried full reached filled debts spares f = record {
  limits = f.limits;
  run = f.run;
  few = f.few;
  log = f.log;
  joined = f.joined;
  distinct = f.distinct;
  unmade = f.unmade;
  own = f.own;
  owed = f.owed;
  sent = f.sent;
  parts = f.parts;
  facts = f.facts;
  claims = λ n has. let c = f.claims n has in record { set = c.set; unended = c.unended; begun = c.begun; tied = c.tied };
  sole = f.sole;
  alone = f.alone;
}

-- whatever slot a seat carries, it may rely on the same
pub fits_carried : {G E P N F : Type 0} (m : Meaning G E P N F) (t : Terms G) (J : List E) (v : View G E P N F) (o q : Option ℕ) → Fits m t J record v { carried = o } → Fits m t J record v { carried = q }
fits_carried m t J v o q f = fits_apart m t J (record v { carried = o }) q v.full v.reached v.filled v.debts v.spares f

-- the seat that stepped has its new view
pub stepped_at : {V : Type 0} (vs : List V) (id : ℕ) (v w : V) → get_elem? vs id ≡ some v → get_elem? (slice_set vs id w) id ≡ some w
stepped_at vs id v w at = set_here vs id w (at_less vs id v at)
