-- The races that are found among the touches of a run are its races.
use Rattle.std.proofs.Common.{◌≡◌, ◌≤◌, ◌<◌, ◌↔◌, inl, inr, ℕ, ◌==◌, ◌||◌, ◌&&◌, not, List, Bool, true, false, Option, Some, None, refl, sym, ap, ◌∙◌, subst, arith}
use Rattle.std.specs.Prelude.{nat_lt}
use Rattle.std.proofs.lemmas.Bool.{or_left, or_right, or_cases, and_parts, and_from, ne_eqb, ltb-true, lt-ltb, le-ltb, false_from_ne_true, not_from_false}
use Rattle.std.specs.List.{Contains}
use Rattle.ocr_base.proofs.Booleans.{neither}
use Rattle.ocr_machine_history.specs.declared.entry.Entry.{Entry}
use Rattle.ocr_machine_history.specs.declared.entry.Entry.TheVariants.{Call}
use Rattle.ocr_machine_history.specs.History.{History, Setting}
use Rattle.ocr_body_meaning.specs.Holds.{is_done}
use Rattle.ocr_machine_parts.specs.Legal.{IsRun}
use Rattle.ocr_memory_model_rows.specs.Places.{reaches}
use Rattle.ocr_memory_model_order.specs.Causes.{graph_of}
use Rattle.ocr_memory_model_order.specs.Pairs.{HappensBefore}
use Rattle.ocr_memory_model_order.specs.Places.{is_at}
use Rattle.ocr_memory_model_order.specs.Races.{is_store_in, is_load_in, stores, loads, accesses, calls, AreUnordered, AreRacing, IsRace}
use Rattle.ocr_memory_model_order.proofs.Fronts.{at_from}
use Rattle.ocr_memory_model_order.proofs.Graphs.{graph_law}
use Rattle.ocr_memory_model_order.proofs.Steady.{later_law}
use Rattle.ocr_memory_model.specs.declared.race.Race.{Race}
use Rattle.ocr_memory_model.specs.declared.touch.Places.{Places}
use Rattle.ocr_memory_model.specs.declared.touch.Touch.{Touch}
use Rattle.ocr_memory_model.specs.RaceList.{AreRaces}
use Rattle.ocr_memory_model.specs.Touches.{AreTouches, touched, races_in, is_apart, is_unordered}
use Rattle.ocr_memory_model.specs.Walk.{is_before}
use Rattle.ocr_memory_model.proofs.Found.{in_rise, found_in, from_in, IsFound}
use Rattle.ocr_memory_model.proofs.Ranks.{same_word, word_same}
use Rattle.ocr_memory_model.proofs.Touched.{IsLast, IsLastOr, AreLastPlaces, places_told, store_accesses, later_place, later_store}

-- THE TEST of the order
same_tests : (x y : Bool) → (x ≡ true → y ≡ true) → (y ≡ true → x ≡ true) → x ≡ y
same_tests true y f g = sym (f refl)
same_tests false true f g = g refl
same_tests false false f g = refl

before_is : (s : Setting) (J : History) (a b : ℕ) → IsRun s J → HappensBefore s J a b → is_before s J a b ≡ true
before_is s J a b run h =
    let g = (graph_law s J a b run).0 h in
    and_from (nat_lt a b) (reaches (graph_of s J) a b) (lt-ltb a b g.0) g.1

is_before_so : (s : Setting) (J : History) (a b : ℕ) → IsRun s J → is_before s J a b ≡ true → HappensBefore s J a b
is_before_so s J a b run h =
    let p = and_parts (nat_lt a b) (reaches (graph_of s J) a b) h in
    (graph_law s J a b run).1 (ltb-true a b p.0, p.1)

pub before_told : (s : Setting) (J : History) (a b : ℕ) (r : Bool) → IsRun s J → ((r ≡ true) ↔ HappensBefore s J a b) → r ≡ is_before s J a b
before_told s J a b r run told =
    same_tests r (is_before s J a b) (λ h. before_is s J a b run (told.0 h)) (λ h. told.1 (is_before_so s J a b run h))

and_true : (x : Bool) → (x && true) ≡ x
and_true true = refl
and_true false = refl

never_back : (s : Setting) (J : History) (a b : ℕ) → a ≤ b → is_before s J b a ≡ false
never_back s J a b up = ap (λ x. x && reaches (graph_of s J) b a) (le-ltb b a up)

-- of two places only the lower can be before the other, so one test is enough
pub one_test : (s : Setting) (J : History) (a b : ℕ) (r : Bool) → a ≤ b → r ≡ is_before s J a b → not r ≡ is_unordered (is_before s J) a b
one_test s J a b r up is =
    ap not is ∙ sym (and_true (not (is_before s J a b)))
    ∙ ap (λ x. not (is_before s J a b) && not x) (sym (never_back s J a b up))

pub back_test : (s : Setting) (J : History) (a b : ℕ) (r : Bool) → b ≤ a → r ≡ is_before s J b a → not r ≡ is_unordered (is_before s J) a b
back_test s J a b r up is =
    ap not is ∙ ap (λ x. not x && not (is_before s J b a)) (sym (never_back s J b a up))

unordered_so : (s : Setting) (J : History) (a b : ℕ) → IsRun s J → is_unordered (is_before s J) a b ≡ true → AreUnordered s J a b
unordered_so s J a b run h =
    let n = neither (is_before s J a b) (is_before s J b a) h in
    record {
      not_before = λ k. let on : is_before s J a b ≡ true = before_is s J a b run k in let off : is_before s J a b ≡ false = n.0 in cc (on, off);
      not_after = λ k. let on : is_before s J b a ≡ true = before_is s J b a run k in let off : is_before s J b a ≡ false = n.1 in cc (on, off);
    }

so_unordered : (s : Setting) (J : History) (a b : ℕ) → IsRun s J → AreUnordered s J a b → is_unordered (is_before s J) a b ≡ true
so_unordered s J a b run un =
    and_from (not (is_before s J a b)) (not (is_before s J b a))
    (not_from_false (is_before s J a b) (false_from_ne_true (is_before s J a b) (λ h. un.not_before (is_before_so s J a b run h))))
    (not_from_false (is_before s J b a) (false_from_ne_true (is_before s J b a) (λ h. un.not_after (is_before_so s J b a run h))))

unordered_back : (s : Setting) (J : History) (a b : ℕ) → AreUnordered s J a b → AreUnordered s J b a
unordered_back s J a b un = record { not_before = un.not_after; not_after = un.not_before }

-- FROM TWO TOUCHES THAT RACE to a race
from_apart : (s : Setting) (J : History) (d w t b : ℕ) (o : Option ℕ) → IsRun s J → IsLastOr (stores d w t) J o → is_apart (is_before s J) o b ≡ true → (a : ℕ) × (is_at (stores d w t) J a ≡ true) × AreUnordered s J a b
from_apart s J d w t b None run last h = cc h
from_apart s J d w t b (Some a) run last h = (a, last.there, unordered_so s J a b run h)

race_between : (s : Setting) (J : History) (d w t u : ℕ) (p q : Places) → IsRun s J → AreLastPlaces d w t J (Some p) → AreLastPlaces d w u J (Some q) → t < u → (is_apart (is_before s J) p.store q.last || is_apart (is_before s J) q.store p.last) ≡ true → IsRace s J d w t u
race_between s J d w t u p q run one other less h = (
  less,
  elim (or_cases (is_apart (is_before s J) p.store q.last) (is_apart (is_before s J) q.store p.last) h) [
    | inl first ↦
        let k = from_apart s J d w t q.last p.store run one.1 first in (
          k.0,
          q.last,
          record {
            one = store_accesses d w t J k.0 k.1;
            other = other.0.there;
            store = or_left (is_at (stores d w t) J k.0) (is_at (stores d w u) J q.last) k.1;
            unordered = k.2;
          },
        )
    | inr second ↦
        let k = from_apart s J d w u p.last q.store run other.1 second in (
          p.last,
          k.0,
          record {
            one = one.0.there;
            other = store_accesses d w u J k.0 k.1;
            store = or_right (is_at (stores d w t) J p.last) (is_at (stores d w u) J k.0) k.1;
            unordered = unordered_back s J k.0 p.last k.2;
          },
        )
  ],
)

places_of : (past : History) (ts : List Touch) (x : Touch) → AreTouches past ts → Contains ts x → AreLastPlaces x.block x.word x.edt past (Some x.places)
places_of past ts x are there =
    subst (λ o. AreLastPlaces x.block x.word x.edt past o) ((are.each x).0 there) (places_told x.block x.word x.edt past)

found_races : (s : Setting) (J : History) (ts : List Touch) (x y : Touch) (r : Race) → IsRun s J → AreTouches J ts → IsFound (is_before s J) ts x y r → IsRace s J r.block r.word r.first r.second
found_races s J ts x y r run are found =
    let word = same_word x y found.word in
    let P : Race → Type 0 = λ r. IsRace s J r.block r.word r.first r.second in
    let other : AreLastPlaces x.block x.word y.edt J (Some y.places) = subst (λ d. AreLastPlaces d x.word y.edt J (Some y.places)) (sym word.0) (subst (λ w. AreLastPlaces y.block w y.edt J (Some y.places)) (sym word.1) (places_of J ts y are found.other)) in
    subst P found.is
    (race_between s J x.block x.word x.edt y.edt x.places y.places run (places_of J ts x are found.one) other found.less found.race)

-- FROM A RACE to two touches that race
store_calls : (d w t : ℕ) (past : History) (e : Entry) → stores d w t past e ≡ true → calls t past e ≡ true
store_calls d w t past (Call u home c a writes) h = (and_parts (u == t) (is_done a.code && is_store_in c d w) h).0
store_calls d w t past other h = cc h

load_calls : (d w t : ℕ) (past : History) (e : Entry) → loads d w t past e ≡ true → calls t past e ≡ true
load_calls d w t past (Call u home c a writes) h = (and_parts (u == t) (is_done a.code && is_load_in c d w) h).0
load_calls d w t past other h = cc h

access_calls : (d w t : ℕ) (past : History) (e : Entry) → accesses d w t past e ≡ true → calls t past e ≡ true
access_calls d w t past e h = elim (or_cases (stores d w t past e) (loads d w t past e) h) [
  | inl k ↦ store_calls d w t past e k
  | inr k ↦ load_calls d w t past e k
]

is_call : (d w t : ℕ) (J : History) (a : ℕ) → is_at (accesses d w t) J a ≡ true → is_at (calls t) J a ≡ true
is_call d w t J a h = at_from (accesses d w t) (calls t) (access_calls d w t) J a h

-- the last store of one and the last access of the other are not ordered, where a store and an
-- access before them are not
still_apart : (s : Setting) (J : History) (d w t u a b : ℕ) (o : Option ℕ) (later : ℕ) → IsRun s J → (t == u) ≡ false → IsLastOr (stores d w t) J o → IsLast (accesses d w u) J later → is_at (stores d w t) J a ≡ true → is_at (accesses d w u) J b ≡ true → AreUnordered s J a b → is_apart (is_before s J) o later ≡ true
still_apart s J d w t u a b o later run apart stored last at bt un =
    let k = later_store (stores d w t) J o a stored at in
    let call : is_at (calls t) J a ≡ true = is_call d w t J a (store_accesses d w t J a at) in
    let late : is_at (calls t) J k.0 ≡ true = is_call d w t J k.0 (store_accesses d w t J k.0 k.1.there) in
    subst (λ o. is_apart (is_before s J) o later ≡ true) (sym k.1.is)
    (so_unordered s J k.0 later run
    (later_law s J t u a b k.0 later run apart k.1.later (last.last b bt) call late (is_call d w u J b bt) (is_call d w u J later last.there) un))

still_racing : (s : Setting) (J : History) (d w t u a b : ℕ) (p q : Places) → IsRun s J → t < u → AreLastPlaces d w t J (Some p) → AreLastPlaces d w u J (Some q) → AreRacing s J d w t u a b → (is_apart (is_before s J) p.store q.last || is_apart (is_before s J) q.store p.last) ≡ true
still_racing s J d w t u a b p q run less one other race = elim (or_cases (is_at (stores d w t) J a) (is_at (stores d w u) J b) race.store) [
  | inl at ↦ or_left (is_apart (is_before s J) p.store q.last) (is_apart (is_before s J) q.store p.last)
      (still_apart s J d w t u a b p.store q.last run (ne_eqb t u (λ e. let k : t ≡ u = e in absurd (omega (arith, k, less)))) one.1 other.0 at race.other race.unordered)
  | inr bt ↦ or_right (is_apart (is_before s J) p.store q.last) (is_apart (is_before s J) q.store p.last)
      (still_apart s J d w u t b a q.store p.last run (ne_eqb u t (λ e. let k : u ≡ t = e in absurd (omega (arith, k, less)))) other.1 one.0 bt race.one (unordered_back s J a b race.unordered))
]

races_found : (s : Setting) (J : History) (ts : List Touch) (d w t u : ℕ) → IsRun s J → AreTouches J ts → IsRace s J d w t u → Contains (races_in (is_before s J) ts) (record { block = d; word = w; first = t; second = u })
races_found s J ts d w t u run are (less, (a, b, race)) =
    let p = later_place d w t J (touched J d w t) a (places_told d w t J) race.one in
    let q = later_place d w u J (touched J d w u) b (places_told d w u J) race.other in
    let x : Touch = record { block = d; word = w; edt = t; places = p.0 } in
    let y : Touch = record { block = d; word = w; edt = u; places = q.0 } in
    let one : AreLastPlaces d w t J (Some p.0) = subst (λ o. AreLastPlaces d w t J o) p.1.is (places_told d w t J) in
    let other : AreLastPlaces d w u J (Some q.0) = subst (λ o. AreLastPlaces d w u J o) q.1.is (places_told d w u J) in
    found_in (is_before s J) x y ts are.rising ((are.each x).1 p.1.is) ((are.each y).1 q.1.is) less (word_same x y refl refl)
    (still_racing s J d w t u a b p.0 q.0 run less one other race)

-- THE LAW
pub races_told : (s : Setting) (J : History) (ts : List Touch) → IsRun s J → AreTouches J ts → AreRaces s J (races_in (is_before s J) ts)
races_told s J ts run are = record {
  rising = in_rise (is_before s J) ts are.rising;
  each = λ d w t u. (
    λ there.
        let f = from_in (is_before s J) ts (record { block = d; word = w; first = t; second = u }) are.rising there in
        found_races s J ts f.0 f.1 (record { block = d; word = w; first = t; second = u }) run are f.2,
    λ race. races_found s J ts d w t u run are race,
  );
}
