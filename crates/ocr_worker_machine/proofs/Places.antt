-- The places of an entry: they differ, are from 1 to twice the limit, and are few.
use Rattle.std.proofs.Common.{◌≡◌, ℕ, suc, ◌+◌, ◌-◌, ◌*◌, ◌<◌, ◌≤◌, ◌⊎◌, inl, inr, ⊎_elim, List, [], ◌∷◌, length, Bool, true, false, not, ◌==◌, ◌||◌, ◌&&◌, nat_lt, if◌then◌else◌, refl, sym, subst, arith}
use Rattle.std.proofs.lemmas.Grind.{common_steps}
use Rattle.std.proofs.lemmas.Bool.{eqb-true, and_parts}
use mathlib.Core.Logic.{dite}
use native.Mathlib.Decide.{dec_le}
use Rattle.ocr_body_meaning.specs.Call.{is_creation}
use Rattle.ocr_body_meaning.specs.declared.call.Call as body
use Rattle.ocr_body_meaning.specs.declared.call.Call.TheVariants as call
use Rattle.ocr_body_meaning.specs.declared.call.Answer.{Answer}
use Rattle.ocr_machine_history.specs.declared.entry.Entry.{Entry}
use Rattle.ocr_machine_history.specs.declared.entry.Entry.TheVariants.{Call, Deliver, Acquire, Wait, StaleAcquire, Start, Free, End}
use Rattle.ocr_machine_history.specs.declared.entry.What.{What}
use Rattle.ocr_machine_history.specs.declared.entry.What.TheVariants as what
use Rattle.ocr_machine_history.specs.Made.{names_new}
use Rattle.ocr_machine_history.specs.Numbers.{placed}
use Rattle.ocr_machine_parts.specs.Codes.{Sort, wanted}
use Rattle.ocr_machine_parts.specs.Effects.{joins}
use Rattle.ocr_machine_parts.specs.Footprint.{and_beside, and_core, and_face, and_made, and_wanted, call_footprint, footprint_of, is_brought_to, is_touched, is_wanted, makes_core, message_footprint, names_beside, on_core_of, on_face}
use Rattle.ocr_machine_parts.specs.Taken.{is_within}
use Rattle.ocr_turns_rule.specs.Sums.{one_at, sum_of}
use Rattle.ocr_turns_rule.proofs.Totals.{one_here, one_most}

-- A LIST THAT RISES from a number on
abbrev RisesFrom : ℕ → List ℕ → Type 0
RisesFrom k [] = Unit {0}
RisesFrom k (n ∷ ns) = (k ≤ n) × RisesFrom (n + 1) ns

not_at : (p n : ℕ) → p < n → one_at p n ≡ 0
not_at p n lt = grind (arith, common_steps)

below_none : (p k : ℕ) (ns : List ℕ) → RisesFrom k ns → p < k → sum_of (one_at p) ns ≡ 0
below_none p k [] rises lt = refl
below_none p k (n ∷ ns) rises lt = let le = rises.0 in let rest = below_none p (n + 1) ns rises.1 (omega arith) in let off = not_at p n (omega arith) in omega arith

most_one : (p k : ℕ) (ns : List ℕ) → RisesFrom k ns → sum_of (one_at p) ns ≤ 1
most_one p k [] rises = omega arith
most_one p k (n ∷ ns) rises = dite (dec_le (p + 1) n)
    (λ lt. let off = not_at p n (omega arith) in let rest = most_one p (n + 1) ns rises.1 in omega arith)
    (λ le. dite (dec_le (p + 1) (n + 1))
    (λ at. let most = one_most p n in let rest = below_none p (n + 1) ns rises.1 (omega arith) in omega arith)
    (λ past. let off = apart p n (omega arith) in let rest = most_one p (n + 1) ns rises.1 in omega arith))
  where
    apart : (p n : ℕ) → n < p → one_at p n ≡ 0
    apart p n lt = grind (arith, common_steps)

placed_rises : (k n : ℕ) (ns : List ℕ) → k ≤ n → RisesFrom k ns → RisesFrom k (placed n ns)
placed_rises k n [] le rises = (le, tt)
placed_rises k n (m ∷ ns) le rises = elim (nat_lt n m) as (λ b. nat_lt n m ≡ b → RisesFrom k (if b then n ∷ m ∷ ns else if n == m then m ∷ ns else m ∷ placed n ns)) [
  | true ↦ λ is. (le, (less n m is, rises.1))
  | false ↦ λ off. elim (n == m) as (λ b. (n == m) ≡ b → RisesFrom k (if b then m ∷ ns else m ∷ placed n ns)) [
    | true ↦ λ _. rises
    | false ↦ λ apart. (rises.0, placed_rises (m + 1) n ns (more n m off apart) rises.1)
  ] refl
] refl
  where
    less : (n m : ℕ) → nat_lt n m ≡ true → n + 1 ≤ m
    less n m is = grind (arith, common_steps)

    more : (n m : ℕ) → nat_lt n m ≡ false → (n == m) ≡ false → m + 1 ≤ n
    more n m off apart = grind (arith, common_steps)

-- WHAT IS PLACED is there once more, unless it was there; and the others are as often there
abbrev Placed : ℕ → ℕ → ℕ → List ℕ → List ℕ → Type 0
Placed p n m ns now = (1 ≤ one_at p m + sum_of (one_at p) ns → 1 ≤ sum_of (one_at p) now) × (1 ≤ sum_of (one_at n) now)
    × (1 ≤ sum_of (one_at p) now → (p ≡ n) ⊎ (1 ≤ one_at p m + sum_of (one_at p) ns)) × (length now ≤ suc (length ns) + 1)

placed_sum : (p n : ℕ) (ns : List ℕ) → (1 ≤ sum_of (one_at p) ns → 1 ≤ sum_of (one_at p) (placed n ns)) × (1 ≤ sum_of (one_at n) (placed n ns))
    × (1 ≤ sum_of (one_at p) (placed n ns) → (p ≡ n) ⊎ (1 ≤ sum_of (one_at p) ns)) × (length (placed n ns) ≤ length ns + 1)
placed_sum p n [] = (λ z. absurd (omega (arith, z)), here n, λ some. at p n some, omega arith)
  where
    here : (n : ℕ) → 1 ≤ one_at n n + 0
    here n = let one = one_here n in omega (arith, one)

    at : (p n : ℕ) → 1 ≤ one_at p n + 0 → (p ≡ n) ⊎ (1 ≤ 0)
    at p n some = inl (same p n (omega (arith, some)))
      where
        same : (p n : ℕ) → 1 ≤ one_at p n → p ≡ n
        same p n le = grind (arith, common_steps)
placed_sum p n (m ∷ ns) = elim (nat_lt n m) as (λ b. nat_lt n m ≡ b → Placed p n m ns (if b then n ∷ m ∷ ns else if n == m then m ∷ ns else m ∷ placed n ns)) [
  | true ↦ λ _. (λ z. omega (arith, z), (let one = one_here n in omega (arith, one)), λ z. before p n (one_at p m + sum_of (one_at p) ns) z, omega arith)
  | false ↦ λ _. elim (n == m) as (λ b. (n == m) ≡ b → Placed p n m ns (if b then m ∷ ns else m ∷ placed n ns)) [
    | true ↦ λ is. (λ z. z, subst (λ (k : ℕ). 1 ≤ one_at n k + sum_of (one_at n) ns) (eqb-true n m is) (let one = one_here n in omega (arith, one)), λ z. inr z, omega arith)
    | false ↦ λ _. let r = placed_sum p n ns in (
      λ z. dite (dec_le 1 (sum_of (one_at p) ns)) (λ some. let t = r.0 some in omega (arith, t)) (λ none. omega (arith, z, none)),
      (let t = r.1 in omega (arith, t)),
      λ z. dite (dec_le 1 (sum_of (one_at p) (placed n ns))) (λ some. ⊎_elim (λ y. inl y) (λ y. inr (omega (arith, y))) (r.2 some)) (λ none. inr (omega (arith, z, none))),
      (let t = r.3 in omega (arith, t)),
    )
  ] refl
] refl
  where
    before : (p n rest : ℕ) → 1 ≤ one_at p n + rest → (p ≡ n) ⊎ (1 ≤ rest)
    before p n rest z = dite (dec_le 1 (one_at p n)) (λ some. inl (same p n some)) (λ none. inr (omega (arith, z, none)))
      where
        same : (p n : ℕ) → 1 ≤ one_at p n → p ≡ n
        same p n le = grind (arith, common_steps)

-- A LIST OF PLACES
pub record AreGood (limit : ℕ) (ns : List ℕ) : Type 0 where
  pub rises : RisesFrom 1 ns
  pub range : (p : ℕ) → 1 ≤ sum_of (one_at p) ns → (1 ≤ p) × (p ≤ 2 * limit)

no_places : (limit : ℕ) → AreGood limit []
no_places limit = record { rises = tt; range = λ p some. absurd (omega (arith, some)) }

placed_good : (limit n : ℕ) (ns : List ℕ) → 1 ≤ n → n ≤ 2 * limit → AreGood limit ns → AreGood limit (placed n ns)
placed_good limit n ns low high good = record {
  rises = placed_rises 1 n ns low good.rises;
  range = λ p some. ⊎_elim (λ is. subst (λ (k : ℕ). (1 ≤ k) × (k ≤ 2 * limit)) (sym is) (low, high)) (λ was. good.range p was) ((placed_sum p n ns).2 some);
}

pub within_is : (limit g : ℕ) → is_within limit g ≡ true → (1 ≤ g) × (g ≤ limit)
within_is limit g is = (low limit g is, high limit g is)
  where
    low : (limit g : ℕ) → is_within limit g ≡ true → 1 ≤ g
    low limit g is = grind (arith, common_steps)

    high : (limit g : ℕ) → is_within limit g ≡ true → g ≤ limit
    high limit g is = grind (arith, common_steps)

face_good : (limit g : ℕ) (ns : List ℕ) → AreGood limit ns → AreGood limit (and_face limit g ns)
face_good limit g ns good = elim (is_within limit g) as (λ b. is_within limit g ≡ b → AreGood limit (if b then placed g ns else ns)) [
  | true ↦ λ is. let w = within_is limit g is in let low = w.0 in let high = w.1 in placed_good limit g ns low (omega (arith, high)) good
  | false ↦ λ _. good
] refl

core_good : (limit t : ℕ) (ns : List ℕ) → AreGood limit ns → AreGood limit (and_core limit t ns)
core_good limit t ns good = elim (is_within limit t) as (λ b. is_within limit t ≡ b → AreGood limit (if b then placed (limit + t) ns else ns)) [
  | true ↦ λ is. let w = within_is limit t is in let low = w.0 in let high = w.1 in placed_good limit (limit + t) ns (omega (arith, low)) (omega (arith, high)) good
  | false ↦ λ _. good
] refl

wanted_good : (limit : ℕ) (all : List (ℕ × Sort)) (ns : List ℕ) → AreGood limit ns → AreGood limit (and_wanted limit all ns)
wanted_good limit [] ns good = good
wanted_good limit (one ∷ rest) ns good = face_good limit one.0 (and_wanted limit rest ns) (wanted_good limit rest ns good)

made_good : (limit : ℕ) (c : body.Call) (a : Answer) (ns : List ℕ) → AreGood limit ns → AreGood limit (and_made limit c a ns)
made_good limit c a ns good = elim (is_creation c) as (λ b. AreGood limit (if b then and_face limit a.value (if makes_core c then and_core limit a.value ns else ns) else ns)) [
  | true ↦ face_good limit a.value _ (elim (makes_core c) as (λ b. AreGood limit (if b then and_core limit a.value ns else ns)) [ true ↦ core_good limit a.value ns good | false ↦ good ])
  | false ↦ good
]

beside_good : (limit home : ℕ) (c : body.Call) (a : Answer) (ns : List ℕ) → AreGood limit ns → AreGood limit (and_beside limit home c a ns)
beside_good limit home (call.EdtCreate from pc ps dc ds fl o) a ns good = face_good limit home _ (face_good limit a.scope _ (face_good limit a.output ns good))
beside_good limit home other a ns good = good

message_good : (limit : ℕ) (x : What) → AreGood limit (message_footprint limit x)
message_good limit (what.Satisfy e slot p) = face_good limit e [] (no_places limit)
message_good limit (what.Leave x) = face_good limit x [] (no_places limit)
message_good limit other = no_places limit

pub places_good : (limit : ℕ) (e : Entry) → AreGood limit (footprint_of limit e)
places_good limit (Call t home c a w) = beside_good limit home c a _ (wanted_good limit (wanted c) _ (made_good limit c a _ (core_good limit t [] (no_places limit))))
places_good limit (Deliver m c) = message_good limit m.what
places_good limit (Acquire t d) = face_good limit t _ (face_good limit d _ (core_good limit t [] (no_places limit)))
places_good limit (Wait t d) = face_good limit t _ (face_good limit d _ (core_good limit t [] (no_places limit)))
places_good limit (StaleAcquire t d) = face_good limit t _ (face_good limit d _ (core_good limit t [] (no_places limit)))
places_good limit (Start t) = face_good limit t _ (core_good limit t [] (no_places limit))
places_good limit (Free t d w) = face_good limit d _ (core_good limit t [] (no_places limit))
places_good limit (End t g) = face_good limit g _ (core_good limit t [] (no_places limit))
places_good limit other = no_places limit

pub places_differ : (limit : ℕ) (e : Entry) (p : ℕ) → sum_of (one_at p) (footprint_of limit e) ≤ 1
places_differ limit e p = most_one p 1 (footprint_of limit e) (places_good limit e).rises

-- WHAT IS NAMED is among the places
abbrev pub IsAt : ℕ → List ℕ → Type 0
IsAt p ns = 1 ≤ sum_of (one_at p) ns

pub face_stays : (limit g p : ℕ) (ns : List ℕ) → IsAt p ns → IsAt p (and_face limit g ns)
face_stays limit g p ns is = elim (is_within limit g) as (λ b. IsAt p (if b then placed g ns else ns)) [ true ↦ (placed_sum p g ns).0 is | false ↦ is ]

pub core_stays : (limit t p : ℕ) (ns : List ℕ) → IsAt p ns → IsAt p (and_core limit t ns)
core_stays limit t p ns is = elim (is_within limit t) as (λ b. IsAt p (if b then placed (limit + t) ns else ns)) [ true ↦ (placed_sum p (limit + t) ns).0 is | false ↦ is ]

pub face_here : (limit g : ℕ) (ns : List ℕ) → is_within limit g ≡ true → IsAt g (and_face limit g ns)
face_here limit g ns is = rw is ((placed_sum g g ns).1)

core_here : (limit t : ℕ) (ns : List ℕ) → is_within limit t ≡ true → IsAt (limit + t) (and_core limit t ns)
core_here limit t ns is = rw is ((placed_sum (limit + t) (limit + t) ns).1)

-- by an equation of numbers
face_at : (limit g p : ℕ) (ns : List ℕ) → is_within limit p ≡ true → (g == p) ≡ true → IsAt p (and_face limit g ns)
face_at limit g p ns within is = subst (λ (k : ℕ). IsAt p (and_face limit k ns)) (sym (eqb-true g p is)) (face_here limit p ns within)

core_at : (limit t u : ℕ) (ns : List ℕ) → is_within limit u ≡ true → (t == u) ≡ true → IsAt (limit + u) (and_core limit t ns)
core_at limit t u ns within is = subst (λ (k : ℕ). IsAt (limit + u) (and_core limit k ns)) (sym (eqb-true t u is)) (core_here limit u ns within)

wanted_stays : (limit p : ℕ) (all : List (ℕ × Sort)) (ns : List ℕ) → IsAt p ns → IsAt p (and_wanted limit all ns)
wanted_stays limit p [] ns is = is
wanted_stays limit p (one ∷ rest) ns is = face_stays limit one.0 p (and_wanted limit rest ns) (wanted_stays limit p rest ns is)

either : {Q : Type 0} (a b : Bool) → (a || b) ≡ true → (a ≡ true → Q) → (b ≡ true → Q) → Q
either true b is one two = one refl
either false b is one two = two is

wanted_here : (limit p : ℕ) (all : List (ℕ × Sort)) (ns : List ℕ) → is_within limit p ≡ true → is_wanted p all ≡ true → IsAt p (and_wanted limit all ns)
wanted_here limit p [] ns within is = cc is
wanted_here limit p (one ∷ rest) ns within is = either (one.0 == p) (is_wanted p rest) is
    (λ here. face_at limit one.0 p (and_wanted limit rest ns) within here)
    (λ later. face_stays limit one.0 p (and_wanted limit rest ns) (wanted_here limit p rest ns within later))

made_face_here : (limit p : ℕ) (c : body.Call) (a : Answer) (ns : List ℕ) → is_within limit p ≡ true → (is_creation c && (a.value == p)) ≡ true → IsAt p (and_made limit c a ns)
made_face_here limit p c a ns within is =
    let r = and_parts (is_creation c) (a.value == p) is in
    subst (λ b. IsAt p (if b then and_face limit a.value (if makes_core c then and_core limit a.value ns else ns) else ns)) (sym r.0)
    (face_at limit a.value p (if makes_core c then and_core limit a.value ns else ns) within r.1)

made_stays : (limit p : ℕ) (c : body.Call) (a : Answer) (ns : List ℕ) → IsAt p ns → IsAt p (and_made limit c a ns)
made_stays limit p c a ns is = elim (is_creation c) as (λ b. IsAt p (if b then and_face limit a.value (if makes_core c then and_core limit a.value ns else ns) else ns)) [
  | true ↦ face_stays limit a.value p _ (elim (makes_core c) as (λ b. IsAt p (if b then and_core limit a.value ns else ns)) [ true ↦ core_stays limit a.value p ns is | false ↦ is ])
  | false ↦ is
]

made_core_here : (limit u : ℕ) (c : body.Call) (a : Answer) (ns : List ℕ) → is_within limit u ≡ true → (makes_core c && (a.value == u)) ≡ true → IsAt (limit + u) (and_made limit c a ns)
made_core_here limit u (call.EdtCreate from pc ps dc ds fl o) a ns within is = face_stays limit a.value (limit + u) (and_core limit a.value ns) (core_at limit a.value u ns within is)
made_core_here limit u other a ns within is = cc is

message_named : (limit : ℕ) (x : What) (p : ℕ) → is_within limit p ≡ true → is_brought_to x p ≡ true → IsAt p (message_footprint limit x)
message_named limit (what.Satisfy e slot q) p within is = face_at limit e p [] within is
message_named limit (what.Leave x) p within is = face_at limit x p [] within is
message_named limit other p within is = cc is

-- the scope and the output event of an EDT that is made, and the home that it joins
pub beside_stays : (limit home p : ℕ) (c : body.Call) (a : Answer) (ns : List ℕ) → IsAt p ns → IsAt p (and_beside limit home c a ns)
beside_stays limit home p (call.EdtCreate from pc ps dc ds fl o) a ns is = face_stays limit home p _ (face_stays limit a.scope p _ (face_stays limit a.output p ns is))
beside_stays limit home p other a ns is = is

new_at : (limit g p : ℕ) (ns : List ℕ) → is_within limit p ≡ true → names_new g p ≡ true → IsAt p (and_face limit g ns)
new_at limit g p ns within is = face_at limit g p ns within (and_parts (not (g == 0)) (g == p) is).1

beside_here : (limit home p : ℕ) (c : body.Call) (a : Answer) (ns : List ℕ) → is_within limit p ≡ true → (joins c home p || names_beside c a p) ≡ true → IsAt p (and_beside limit home c a ns)
beside_here limit home p (call.EdtCreate from pc ps dc ds fl o) a ns within is = either (names_new home p) (names_new a.scope p || names_new a.output p) is
    (λ own. new_at limit home p _ within own)
    (λ new. face_stays limit home p _ (either (names_new a.scope p) (names_new a.output p) new
    (λ scope. new_at limit a.scope p _ within scope)
    (λ output. face_stays limit a.scope p _ (new_at limit a.output p ns within output))))
beside_here limit home p other a ns within is = cc is

face_named : (limit : ℕ) (e : Entry) (p : ℕ) → is_within limit p ≡ true → on_face e p ≡ true → IsAt p (footprint_of limit e)
face_named limit (Call t home c a w) p within is = either (joins c home p || names_beside c a p) (is_wanted p (wanted c) || (is_creation c && (a.value == p))) is
    (λ beside. beside_here limit home p c a _ within beside)
    (λ named. beside_stays limit home p c a _ (either (is_wanted p (wanted c)) (is_creation c && (a.value == p)) named
    (λ here. wanted_here limit p (wanted c) _ within here)
    (λ new. wanted_stays limit p (wanted c) _ (made_face_here limit p c a _ within new))))
face_named limit (Deliver m c) p within is = message_named limit m.what p within is
face_named limit (Acquire t d) p within is = either (t == p) (d == p) is (λ h. face_at limit t p _ within h) (λ h. face_stays limit t p _ (face_at limit d p _ within h))
face_named limit (Wait t d) p within is = either (t == p) (d == p) is (λ h. face_at limit t p _ within h) (λ h. face_stays limit t p _ (face_at limit d p _ within h))
face_named limit (StaleAcquire t d) p within is = either (t == p) (d == p) is (λ h. face_at limit t p _ within h) (λ h. face_stays limit t p _ (face_at limit d p _ within h))
face_named limit (Start t) p within is = face_at limit t p _ within is
face_named limit (Free t d w) p within is = face_at limit d p _ within is
face_named limit (End t g) p within is = face_at limit g p _ within is
face_named limit other p within is = cc is

core_named : (limit : ℕ) (e : Entry) (u : ℕ) → is_within limit u ≡ true → on_core_of e u ≡ true → IsAt (limit + u) (footprint_of limit e)
core_named limit (Call t home c a w) u within is = beside_stays limit home (limit + u) c a _ (wanted_stays limit (limit + u) (wanted c) _ (either (t == u) (makes_core c && (a.value == u)) is
    (λ here. made_stays limit (limit + u) c a _ (core_at limit t u [] within here))
    (λ new. made_core_here limit u c a _ within new)))
core_named limit (Acquire t d) u within is = face_stays limit t (limit + u) _ (face_stays limit d (limit + u) _ (core_at limit t u [] within is))
core_named limit (Wait t d) u within is = face_stays limit t (limit + u) _ (face_stays limit d (limit + u) _ (core_at limit t u [] within is))
core_named limit (StaleAcquire t d) u within is = face_stays limit t (limit + u) _ (face_stays limit d (limit + u) _ (core_at limit t u [] within is))
core_named limit (Start t) u within is = face_stays limit t (limit + u) _ (core_at limit t u [] within is)
core_named limit (Free t d w) u within is = face_stays limit d (limit + u) _ (core_at limit t u [] within is)
core_named limit (End t g) u within is = face_stays limit g (limit + u) _ (core_at limit t u [] within is)
core_named limit other u within is = cc is

pub named_place : (limit : ℕ) (e : Entry) (p : ℕ) → is_touched limit e p ≡ true → 1 ≤ sum_of (one_at p) (footprint_of limit e)
named_place limit e p is = elim (is_within limit p) as (λ b. is_within limit p ≡ b → (if b then on_face e p else is_within limit (p - limit) && on_core_of e (p - limit)) ≡ true → IsAt p (footprint_of limit e)) [
  | true ↦ λ within named. face_named limit e p within named
  | false ↦ λ _ named.
      let r = and_parts (is_within limit (p - limit)) (on_core_of e (p - limit)) named in
      let low = (within_is limit (p - limit) r.0).0 in
      let whole : limit + (p - limit) ≡ p = omega (arith, low) in
      subst (λ (k : ℕ). IsAt k (footprint_of limit e)) whole (core_named limit e (p - limit) r.0 r.1)
] refl is

-- THEY ARE FEW, where the call's lists are short
face_length : (limit g : ℕ) (ns : List ℕ) → length (and_face limit g ns) ≤ length ns + 1
face_length limit g ns = elim (is_within limit g) as (λ b. length (if b then placed g ns else ns) ≤ length ns + 1) [ true ↦ (placed_sum 0 g ns).3 | false ↦ omega arith ]

core_length : (limit t : ℕ) (ns : List ℕ) → length (and_core limit t ns) ≤ length ns + 1
core_length limit t ns = elim (is_within limit t) as (λ b. length (if b then placed (limit + t) ns else ns) ≤ length ns + 1) [ true ↦ (placed_sum 0 (limit + t) ns).3 | false ↦ omega arith ]

wanted_length : (limit : ℕ) (all : List (ℕ × Sort)) (ns : List ℕ) → length (and_wanted limit all ns) ≤ length all + length ns
wanted_length limit [] ns = omega arith
wanted_length limit (one ∷ rest) ns = let a = face_length limit one.0 (and_wanted limit rest ns) in let r = wanted_length limit rest ns in omega (arith, a, r)

made_length : (limit : ℕ) (c : body.Call) (a : Answer) (ns : List ℕ) → length (and_made limit c a ns) ≤ length ns + 2
made_length limit c a ns = elim (is_creation c) as (λ b. length (if b then and_face limit a.value (if makes_core c then and_core limit a.value ns else ns) else ns) ≤ length ns + 2) [
  | true ↦
      let inner : length (if makes_core c then and_core limit a.value ns else ns) ≤ length ns + 1 = elim (makes_core c) as (λ b. length (if b then and_core limit a.value ns else ns) ≤ length ns + 1) [ true ↦ core_length limit a.value ns | false ↦ omega arith ] in
      let outer = face_length limit a.value (if makes_core c then and_core limit a.value ns else ns) in
      omega (arith, inner, outer)
  | false ↦ omega arith
]

beside_length : (limit home : ℕ) (c : body.Call) (a : Answer) (ns : List ℕ) → length (and_beside limit home c a ns) ≤ length ns + 3
beside_length limit home (call.EdtCreate from pc ps dc ds fl o) a ns =
    let one = face_length limit a.output ns in let two = face_length limit a.scope (and_face limit a.output ns) in let three = face_length limit home (and_face limit a.scope (and_face limit a.output ns)) in
    omega (arith, one, two, three)
beside_length limit home other a ns = omega arith

pub call_few : (limit t home : ℕ) (c : body.Call) (a : Answer) → length (wanted c) ≤ 33 → length (and_beside limit home c a (call_footprint limit c a (and_core limit t []))) ≤ 39
call_few limit t home c a few =
    let core = core_length limit t [] in let made = made_length limit c a (and_core limit t []) in let all = wanted_length limit (wanted c) (and_made limit c a (and_core limit t [])) in
    let beside = beside_length limit home c a (call_footprint limit c a (and_core limit t [])) in
    omega (arith, few, core, made, all, beside)

pub message_few : (limit : ℕ) (x : What) → length (message_footprint limit x) ≤ 1
message_few limit (what.Satisfy e slot p) = let one = face_length limit e [] in omega (arith, one)
message_few limit (what.Leave x) = let one = face_length limit x [] in omega (arith, one)
message_few limit other = omega arith

pub two_few : (limit t d : ℕ) → length (and_face limit t (and_face limit d (and_core limit t []))) ≤ 3
two_few limit t d =
    let core = core_length limit t [] in let one = face_length limit d (and_core limit t []) in let two = face_length limit t (and_face limit d (and_core limit t [])) in
    omega (arith, core, one, two)

pub one_few : (limit t g : ℕ) → length (and_face limit g (and_core limit t [])) ≤ 2
one_few limit t g = let core = core_length limit t [] in let one = face_length limit g (and_core limit t []) in omega (arith, core, one)
