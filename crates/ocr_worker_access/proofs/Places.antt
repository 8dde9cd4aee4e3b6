-- The places of entries: how often each stands among them.
use Rattle.std.proofs.Common.{◌≡◌, ℕ, ◌+◌, ◌≤◌, ◌⊎◌, inl, inr, ⊎_elim, List, [], ◌∷◌, Bool, true, false, ◌==◌, ◌||◌, nat_lt, if◌then◌else◌, refl, sym, subst, arith}
use Rattle.std.proofs.lemmas.Grind.{common_steps}
use mathlib.Core.Logic.{dite}
use native.Mathlib.Decide.{dec_le}
use Rattle.ocr_body_meaning.specs.Call.{is_creation}
use Rattle.ocr_body_meaning.specs.declared.call.Call as body
use Rattle.ocr_body_meaning.specs.declared.call.Answer.{Answer}
use Rattle.ocr_body_meaning.specs.declared.call.Call.TheVariants as call
use Rattle.ocr_machine_history.specs.Numbers.{placed}
use Rattle.ocr_machine_history.specs.declared.entry.Entry.{Entry}
use Rattle.ocr_machine_history.specs.declared.entry.Entry.TheVariants.{Call}
use Rattle.ocr_machine_parts.specs.Codes.{Sort, wanted}
use Rattle.ocr_machine_parts.specs.declared.part.Part.{Part}
use Rattle.ocr_machine_parts.specs.Footprint.{Covers, and_beside, and_core, and_face, and_made, and_wanted, call_footprint, makes_core}
use Rattle.ocr_machine_parts.specs.Taken.{has, is_within}
use Rattle.ocr_turns_rule.specs.Sums.{one_at, sum_of, weigh}
use Rattle.ocr_turns_rule.proofs.Totals.{one_here}
use Rattle.ocr_worker_machine.specs.Ocr.{touches}
use Rattle.ocr_worker_machine.proofs.Places.{named_place, places_differ, face_stays, face_here, beside_stays, IsAt}
use Rattle.ocr_worker_access.specs.Calls.{faces_of}
use Rattle.std.proofs.lemmas.Bool.{eqb-true}

-- WHAT STANDS in a list into which a number was placed
abbrev placed_if : Bool → Bool → ℕ → ℕ → List ℕ → List ℕ
placed_if less same n m ns = if less then n ∷ m ∷ ns else if same then m ∷ ns else m ∷ placed n ns

some_here : (n : ℕ) (rest : ℕ) → 1 ≤ one_at n n + rest
some_here n rest = let one = one_here n in omega (arith, one)

placed_stays : (p n : ℕ) (ns : List ℕ) → IsAt p ns → IsAt p (placed n ns)
placed_stays p n [] is = absurd (omega (arith, is))
placed_stays p n (m ∷ ns) is = elim (nat_lt n m) as (λ b. IsAt p (placed_if b (n == m) n m ns)) [
  | true ↦ omega (arith, is)
  | false ↦ elim (n == m) as (λ b. IsAt p (placed_if false b n m ns)) [
    | true ↦ is
    | false ↦ dite (dec_le 1 (sum_of (one_at p) ns)) (λ some. let r = placed_stays p n ns some in omega (arith, r)) (λ none. omega (arith, is, none))
  ]
]

placed_here : (n : ℕ) (ns : List ℕ) → IsAt n (placed n ns)
placed_here n [] = some_here n 0
placed_here n (m ∷ ns) = elim (nat_lt n m) as (λ b. IsAt n (placed_if b (n == m) n m ns)) [
  | true ↦ some_here n (one_at n m + sum_of (one_at n) ns)
  | false ↦ elim (n == m) as (λ b. (n == m) ≡ b → IsAt n (placed_if false b n m ns)) [
    | true ↦ λ is. subst (λ (k : ℕ). IsAt n (k ∷ ns)) (same n m is) (some_here n (sum_of (one_at n) ns))
    | false ↦ λ _. let r = placed_here n ns in omega (arith, r)
  ] refl
]
  where
    same : (n m : ℕ) → (n == m) ≡ true → n ≡ m
    same n m is = grind (arith, common_steps)

pub at_one : (p n rest : ℕ) → 1 ≤ one_at p n + rest → (p ≡ n) ⊎ (1 ≤ rest)
at_one p n rest is = elim (p == n) as (λ b. (p == n) ≡ b → 1 ≤ (if b then 1 else 0) + rest → (p ≡ n) ⊎ (1 ≤ rest)) [
  | true ↦ λ same _. inl (eqb-true p n same)
  | false ↦ λ _ is. inr (omega (arith, is))
] refl is

placed_from : (p n : ℕ) (ns : List ℕ) → IsAt p (placed n ns) → (p ≡ n) ⊎ IsAt p ns
placed_from p n [] is = ⊎_elim (λ same. inl same) (λ none. absurd (omega (arith, none))) (at_one p n 0 is)
placed_from p n (m ∷ ns) is = elim (nat_lt n m) as (λ b. IsAt p (placed_if b (n == m) n m ns) → (p ≡ n) ⊎ IsAt p (m ∷ ns)) [
  | true ↦ λ is. at_one p n (one_at p m + sum_of (one_at p) ns) is
  | false ↦ elim (n == m) as (λ b. IsAt p (placed_if false b n m ns) → (p ≡ n) ⊎ IsAt p (m ∷ ns)) [
    | true ↦ λ is. inr is
    | false ↦ λ is. ⊎_elim (λ same. inr (let one = one_here m in subst (λ (k : ℕ). 1 ≤ one_at k m + sum_of (one_at k) ns) (sym same) (some_here m (sum_of (one_at m) ns)))) (λ rest. ⊎_elim (λ same. inl same) (λ there. inr (omega (arith, there))) (placed_from p n ns rest)) (at_one p m (sum_of (one_at p) (placed n ns)) is)
  ]
] is

pub face_from : (limit g p : ℕ) (ns : List ℕ) → IsAt p (and_face limit g ns) → ((is_within limit g ≡ true) × (p ≡ g)) ⊎ IsAt p ns
face_from limit g p ns is = elim (is_within limit g) as (λ b. is_within limit g ≡ b → IsAt p (if b then placed g ns else ns) → ((is_within limit g ≡ true) × (p ≡ g)) ⊎ IsAt p ns) [
  | true ↦ λ on is. ⊎_elim (λ same. inl (on, same)) (λ there. inr there) (placed_from p g ns is)
  | false ↦ λ _ is. inr is
] refl is

pub core_from : (limit t p : ℕ) (ns : List ℕ) → IsAt p (and_core limit t ns) → ((is_within limit t ≡ true) × (p ≡ limit + t)) ⊎ IsAt p ns
core_from limit t p ns is = elim (is_within limit t) as (λ b. is_within limit t ≡ b → IsAt p (if b then placed (limit + t) ns else ns) → ((is_within limit t ≡ true) × (p ≡ limit + t)) ⊎ IsAt p ns) [
  | true ↦ λ on is. ⊎_elim (λ same. inl (on, same)) (λ there. inr there) (placed_from p (limit + t) ns is)
  | false ↦ λ _ is. inr is
] refl is

-- on two lists the same faces
wanted_moves : (limit p : ℕ) (Q : Type 0) (all : List (ℕ × Sort)) (ns ms : List ℕ) → (IsAt p ns → Q ⊎ IsAt p ms) → IsAt p (and_wanted limit all ns) → Q ⊎ IsAt p (and_wanted limit all ms)
wanted_moves limit p Q [] ns ms moves is = moves is
wanted_moves limit p Q (one ∷ rest) ns ms moves is = elim (is_within limit one.0) as (λ b. IsAt p (if b then placed one.0 (and_wanted limit rest ns) else and_wanted limit rest ns) → Q ⊎ IsAt p (if b then placed one.0 (and_wanted limit rest ms) else and_wanted limit rest ms)) [
  | true ↦ λ is. ⊎_elim
      (λ same. inr (subst (λ (k : ℕ). IsAt k (placed one.0 (and_wanted limit rest ms))) (sym same) (placed_here one.0 (and_wanted limit rest ms))))
      (λ there. ⊎_elim (λ q. inl q) (λ here. inr (placed_stays p one.0 (and_wanted limit rest ms) here)) (wanted_moves limit p Q rest ns ms moves there))
      (placed_from p one.0 (and_wanted limit rest ns) is)
  | false ↦ λ is. wanted_moves limit p Q rest ns ms moves is
] is

-- THE PLACES of a call besides those of the faces that it wants: the caller's core, and what it makes
abbrev pub IsNew : ℕ → ℕ → body.Call → ℕ → ℕ → Type 0
IsNew limit t c v p = (p ≡ limit + t) ⊎ ((is_within limit v ≡ true) × (((is_creation c ≡ true) × (p ≡ v)) ⊎ ((makes_core c ≡ true) × (p ≡ limit + v))))

made_from : (limit t p : ℕ) (c : body.Call) (a : Answer) → IsAt p (and_made limit c a (and_core limit t [])) → IsNew limit t c a.value p
made_from limit t p c a is = elim (is_creation c) as (λ b. is_creation c ≡ b → IsAt p (if b then and_face limit a.value (if makes_core c then and_core limit a.value (and_core limit t []) else and_core limit t []) else and_core limit t []) → IsNew limit t c a.value p) [
  | true ↦ λ on is. ⊎_elim (λ same. inr (same.0, inl (on, same.1))) (λ there. inner on there) (face_from limit a.value p _ is)
  | false ↦ λ _ is. own is
] refl is
  where
    own : IsAt p (and_core limit t []) → IsNew limit t c a.value p
    own there = ⊎_elim (λ same. inl same.1) (λ none. absurd (omega (arith, none))) (core_from limit t p [] there)

    inner : is_creation c ≡ true → IsAt p (if makes_core c then and_core limit a.value (and_core limit t []) else and_core limit t []) → IsNew limit t c a.value p
    inner on there = elim (makes_core c) as (λ b. makes_core c ≡ b → IsAt p (if b then and_core limit a.value (and_core limit t []) else and_core limit t []) → IsNew limit t c a.value p) [
      | true ↦ λ makes there. ⊎_elim (λ same. inr (same.0, inr (makes, same.1))) own (core_from limit a.value p (and_core limit t []) there)
      | false ↦ λ _ there. own there
    ] refl there

-- and the home, the scope and the output event of an EDT that it makes
abbrev pub IsBesideAt : (limit home : ℕ) → body.Call → Answer → ℕ → Type 0
IsBesideAt limit home c a p = (makes_core c ≡ true) × (((is_within limit home ≡ true) × (p ≡ home))
    ⊎ (((is_within limit a.scope ≡ true) × (p ≡ a.scope)) ⊎ ((is_within limit a.output ≡ true) × (p ≡ a.output))))

beside_from : (limit home p : ℕ) (c : body.Call) (a : Answer) (ns : List ℕ) → IsAt p (and_beside limit home c a ns) → IsBesideAt limit home c a p ⊎ IsAt p ns
beside_from limit home p (call.EdtCreate from pc ps dc ds fl o) a ns is = ⊎_elim
    (λ same. inl (refl, inl same))
    (λ more. ⊎_elim (λ same. inl (refl, inr (inl same))) (λ last. ⊎_elim (λ same. inl (refl, inr (inr same))) (λ there. inr there) (face_from limit a.output p ns last)) (face_from limit a.scope p (and_face limit a.output ns) more))
    (face_from limit home p (and_face limit a.scope (and_face limit a.output ns)) is)
beside_from limit home p other a ns is = inr is

beside_here : (limit home : ℕ) (c : body.Call) (a : Answer) (ns : List ℕ) (p : ℕ) → IsBesideAt limit home c a p → IsAt p (and_beside limit home c a ns)
beside_here limit home (call.EdtCreate from pc ps dc ds fl o) a ns p is = ⊎_elim
    (λ same. subst (λ (k : ℕ). IsAt k (and_face limit home (and_face limit a.scope (and_face limit a.output ns)))) (sym same.1) (face_here limit home (and_face limit a.scope (and_face limit a.output ns)) same.0))
    (λ more. face_stays limit home p (and_face limit a.scope (and_face limit a.output ns)) (⊎_elim
    (λ same. subst (λ (k : ℕ). IsAt k (and_face limit a.scope (and_face limit a.output ns))) (sym same.1) (face_here limit a.scope (and_face limit a.output ns) same.0))
    (λ same. face_stays limit a.scope p (and_face limit a.output ns) (subst (λ (k : ℕ). IsAt k (and_face limit a.output ns)) (sym same.1) (face_here limit a.output ns same.0)))
    more))
    is.1
beside_here limit home other a ns p is = cc (is.0)

-- the faces that a call wants, and its home's
pub faces_home : (limit home : ℕ) (c : body.Call) → is_within limit home ≡ true → IsAt home (faces_of limit home c)
faces_home limit home c within = face_here limit home (and_wanted limit (wanted c) []) within

pub call_from : (limit t home p : ℕ) (c : body.Call) (a : Answer) (w : List (ℕ × ℕ)) → 1 ≤ touches limit (Call t home c a w) p → IsNew limit t c a.value p ⊎ (IsBesideAt limit home c a p ⊎ IsAt p (faces_of limit home c))
call_from limit t home p c a w is = ⊎_elim
    (λ beside. inr (inl beside))
    (λ named. ⊎_elim (λ new. inl new) (λ wants. inr (inr (face_stays limit home p _ wants)))
    (wanted_moves limit p (IsNew limit t c a.value p) (wanted c) (and_made limit c a (and_core limit t [])) [] (λ made. inl (made_from limit t p c a made)) named))
    (beside_from limit home p c a (call_footprint limit c a (and_core limit t [])) is)

-- only an EDT that is made has a home
pub call_wants : (limit t home p : ℕ) (c : body.Call) (a : Answer) (w : List (ℕ × ℕ)) → (makes_core c ≡ false → home ≡ 0) → IsAt p (faces_of limit home c) → 1 ≤ touches limit (Call t home c a w) p
call_wants limit t home p c a w none is = ⊎_elim
    (λ same. beside_here limit home c a (call_footprint limit c a (and_core limit t [])) p (makes (makes_core c) none same.0, inl same))
    (λ wants. beside_stays limit home p c a (call_footprint limit c a (and_core limit t []))
    (⊎_elim (λ never. absurd never) (λ there. there) (wanted_moves limit p ⊥ (wanted c) [] (and_made limit c a (and_core limit t [])) (λ none. absurd (omega (arith, none))) wants)))
    (face_from limit home p (and_wanted limit (wanted c) []) is)
  where
    makes : (b : Bool) → (b ≡ false → home ≡ 0) → is_within limit home ≡ true → b ≡ true
    makes true none within = refl
    makes false none within = let z : is_within limit 0 ≡ true = subst (λ (k : ℕ). is_within limit k ≡ true) (none refl) within in cc z

pub call_beside : (limit t home p : ℕ) (c : body.Call) (a : Answer) (w : List (ℕ × ℕ)) → IsBesideAt limit home c a p → 1 ≤ touches limit (Call t home c a w) p
call_beside limit t home p c a w is = beside_here limit home c a (call_footprint limit c a (and_core limit t [])) p is

-- LISTS OF PARTS
pub has_at : (ps : List (ℕ × Part)) (n : ℕ) → 1 ≤ weigh (one_at n) ps → has ps n ≡ true
has_at [] n is = absurd (omega (arith, is))
has_at (x ∷ rest) n is = ⊎_elim (λ same. first (x.0 == n) (has rest n) (eq same)) (λ there. second (x.0 == n) (has rest n) (has_at rest n there)) (at_one n x.0 (weigh (one_at n) rest) is)
  where
    first : (a b : Bool) → a ≡ true → (a || b) ≡ true
    first true b is = refl
    first false b is = cc is

    second : (a b : Bool) → b ≡ true → (a || b) ≡ true
    second true b is = refl
    second false b is = is

    eq : n ≡ x.0 → (x.0 == n) ≡ true
    eq same = grind (arith, common_steps)

-- as often as in these places, where both stand at most once
pub same_places : (limit : ℕ) (e : Entry) (ps : List (ℕ × Part)) → ((p : ℕ) → weigh (one_at p) ps ≤ 1) → ((p : ℕ) → 1 ≤ weigh (one_at p) ps → 1 ≤ touches limit e p) → ((p : ℕ) → 1 ≤ touches limit e p → 1 ≤ weigh (one_at p) ps)
    → (p : ℕ) → weigh (one_at p) ps ≡ touches limit e p
same_places limit e ps once one two p =
    let a = once p in let b = places_differ limit e p in
    dite (dec_le 1 (weigh (one_at p) ps)) (λ some. let c = one p some in omega (arith, a, b, some, c)) (λ none. dite (dec_le 1 (touches limit e p)) (λ some. let c = two p some in omega (arith, none, c)) (λ off. omega (arith, none, off)))

pub covers_at : (limit : ℕ) (e : Entry) (ps : List (ℕ × Part)) → ((p : ℕ) → 1 ≤ touches limit e p → 1 ≤ weigh (one_at p) ps) → Covers limit e ps
covers_at limit e ps there = λ n on. has_at ps n (there n (named_place limit e n on))
