-- The opening of a run, as the table of turns asks it.
use Rattle.std.proofs.Common.{◌≡◌, ◌≢◌, ℕ, leb, zero, suc, ◌+◌, ◌-◌, ◌*◌, ◌<◌, ◌≤◌, List, [], ◌∷◌, refl, ap, sym, subst, ◌∙◌, arith, true, false, Option, Some, if◌then◌else◌, ◌==◌, eq-eqb, ne_eqb}
use Rattle.std.proofs.lemmas.Bool.{le-leb, lt-leb}
use mathlib.Core.Logic.{dite}
use native.Mathlib.Decide.{dec_le, ℕ_discrete}
use mathlib.Core.Option.{some, some-injective, some-ne-none}
use lib.ListN.{get_elem?}
use Rattle.ocr_edt.specs.Edt as edt
use Rattle.ocr_edt.specs.declared.Identity.{Identity}
use Rattle.ocr_worker_machine.specs.Clerks.{OcrTerms, of_terms}
use Rattle.ocr_worker_machine.specs.Ocr.{meaning, part_of}
use Rattle.ocr_machine_history.specs.Made.{Made, MadeEdt, made}
use Rattle.ocr_machine_parts.specs.declared.part.Part.{Part}
use Rattle.ocr_machine_parts.specs.declared.part.Part.TheVariants as part
use Rattle.ocr_machine_parts.specs.Calls.{edt_calls}
use Rattle.ocr_machine_parts.specs.Effects.{settled}
use Rattle.ocr_machine_parts.specs.Parts.{Parts, core, parts_of, plain_identity}
use Rattle.ocr_machine_parts.specs.Taken.{ArePlaced, as_core, as_face, is_within, keys, look, parts_in, place_of, seen}
use Rattle.ocr_turns_rule.specs.Contract.{OpensWith, faces}
use Rattle.ocr_turns_rule.specs.Rule.{PartsOf}
use Rattle.ocr_turns_rule.specs.Sums.{one_at, sum_of, weigh}
use Rattle.ocr_turns_rule.proofs.Totals.{one_else, one_here, one_most, weigh_at}

-- nothing was stored in a loan yet
core_settled : (m : Option Made) (i : Identity) (calls : List edt.EdtCall) → settled (core m i calls []) ≡ core m i calls []
core_settled (Some (MadeEdt f ps n)) i calls = refl
core_settled other i calls = refl

face_twice : (x : Part) → as_face (as_face x) ≡ as_face x
face_twice (part.Core c) = refl
face_twice other = refl

core_twice : (x : Part) → as_core (as_core x) ≡ as_core x
core_twice (part.Core c) = refl
core_twice other = refl

-- LISTS OF PARTS, told by their keys
weigh_list : (f : ℕ → ℕ) (ps : List (ℕ × Part)) → weigh f ps ≡ sum_of f (keys ps)
weigh_list f [] = refl
weigh_list f (p ∷ ps) = let r = weigh_list f ps in omega arith

look_once : (ps : List (ℕ × Part)) (k n : ℕ) (x : Part) → weigh (one_at n) ps ≤ 1 → get_elem? ps k ≡ some (n, x) → look ps n ≡ x
look_once [] k n x most at = absurd (some-ne-none (n, x) (sym at))
look_once (p ∷ rest) zero n x most at =
    let is : p ≡ (n, x) = some-injective p (n, x) at in
    let same : (p.0 == n) ≡ true = eq-eqb p.0 n (ap (λ (q : ℕ × Part). q.0) is) in
    rw same (ap (λ (q : ℕ × Part). q.1) is)
look_once (p ∷ rest) (suc k) n x most at =
    let later = weigh_at rest k n x at in
    let other : p.0 ≢ n = λ e. let one : one_at n p.0 ≡ 1 = subst (λ m. one_at n m ≡ 1) (sym e) (one_here n) in omega (arith, one, later, most) in
    rw (ne_eqb p.0 n other) (look_once rest k n x (omega (arith, most)) at)

look_none : (ps : List (ℕ × Part)) (n : ℕ) → weigh (one_at n) ps ≡ 0 → look ps n ≡ part.Vacant
look_none [] n none = refl
look_none (p ∷ rest) n none =
    let other : p.0 ≢ n = λ e. let one : one_at n p.0 ≡ 1 = subst (λ m. one_at n m ≡ 1) (sym e) (one_here n) in omega (arith, one, none) in
    rw (ne_eqb p.0 n other) (look_none rest n (omega (arith, none)))

module _ (limit : ℕ) (least : 2 ≤ limit) (parts : List (ℕ × Part)) (keyed : keys parts ≡ 1 ∷ 2 ∷ (limit + 2) ∷ []) where
  three : (f : ℕ → ℕ) → weigh f parts ≡ f 1 + (f 2 + (f (limit + 2) + 0))
  three f = weigh_list f parts ∙ ap (sum_of f) keyed

  none_at : (n : ℕ) → n ≢ 1 → n ≢ 2 → n ≢ limit + 2 → weigh (one_at n) parts ≡ 0
  none_at n a b c = let t = three (one_at n) in let x = one_else n 1 a in let y = one_else n 2 b in let z = one_else n (limit + 2) c in omega (arith, t, x, y, z)

  once : (n : ℕ) → weigh (one_at n) parts ≤ 1
  once n =
      let t = three (one_at n) in let x = one_most n 1 in let y = one_most n 2 in let z = one_most n (limit + 2) in
      dite (ℕ_discrete n 1)
      (λ e. let b : n ≢ 2 = λ h. omega (arith, e, h) in let c : n ≢ limit + 2 = λ h. omega (arith, e, h) in let p = one_else n 2 b in let q = one_else n (limit + 2) c in omega (arith, t, x, p, q))
      (λ ne. let a : n ≢ 1 = ne in let p = one_else n 1 a in
      dite (ℕ_discrete n 2)
      (λ e. let c : n ≢ limit + 2 = λ h. omega (arith, e, h, least) in let q = one_else n (limit + 2) c in omega (arith, t, y, p, q))
      (λ ne. let b : n ≢ 2 = ne in let q = one_else n 2 b in omega (arith, t, z, p, q)))

  within : (n : ℕ) → 1 ≤ weigh (one_at n) parts → n ≤ 2 * limit
  within n there = dite (dec_le n (2 * limit)) (λ y. y)
      (λ off. let far : 2 * limit < n = (let f : ¬ (n ≤ 2 * limit) = off in omega arith) in
      let none = none_at n (λ h. omega (arith, far, h, least)) (λ h. omega (arith, far, h, least)) (λ h. omega (arith, far, h, least)) in absurd (omega (arith, none, there)))

  two_faces : faces limit parts ≡ 2
  two_faces =
      let t = three (λ p. if leb p limit then 1 else 0) in
      let x : ◌≡◌ {A = ℕ} (if leb 1 limit then 1 else 0) 1 = rw (le-leb 1 limit (omega arith)) refl in
      let y : ◌≡◌ {A = ℕ} (if leb 2 limit then 1 else 0) 1 = rw (le-leb 2 limit least) refl in
      let far : leb (limit + 2) limit ≡ false = lt-leb (limit + 2) limit (omega arith) in
      let z : ◌≡◌ {A = ℕ} (if leb (limit + 2) limit then 1 else 0) 0 = rw far refl in
      omega (arith, t, x, y, z)

module _ (t : OcrTerms) (parts : List (ℕ × Part)) (told : parts_in t.limit parts ≡ parts_of (of_terms t) []) (placed : ArePlaced t.limit parts) where
  abbrev limit : ℕ
  limit = t.limit

  abbrev all : Parts
  all = parts_of (of_terms t) []

  face_is : (n : ℕ) → is_within limit n ≡ true → all.face n ≡ as_face (look parts n)
  face_is n w = ap (λ f. f.face n) (sym told) ∙ (rw w refl)

  core_is : (m : ℕ) → is_within limit m ≡ true → all.core m ≡ as_core (look parts (limit + m))
  core_is m w = ap (λ f. f.core m) (sym told) ∙ (rw w refl)

  face_seen : (n : ℕ) (x : Part) → is_within limit n ≡ true → all.face n ≡ x → all.face n ≡ as_face x
  face_seen n x w e = face_is n w ∙ (sym (face_twice (look parts n)) ∙ ap as_face (sym (face_is n w) ∙ e))

  core_seen : (m : ℕ) (x : Part) → is_within limit m ≡ true → all.core m ≡ x → all.core m ≡ settled (as_core x)
  core_seen m x w e =
      sym (core_settled (made (of_terms t) [] m) (plain_identity m) (edt_calls (of_terms t) [] m))
      ∙ ap settled (core_is m w ∙ (sym (core_twice (look parts (limit + m))) ∙ ap as_core (sym (core_is m w) ∙ e)))

  seen_is : (n : ℕ) (x : Part) → place_of limit all n ≡ x → place_of limit all n ≡ seen limit n x
  seen_is n x is = elim (is_within limit n) as (λ b. is_within limit n ≡ b → (if b then all.face n else (if is_within limit (n - limit) then all.core (n - limit) else part.Vacant)) ≡ x → (if b then all.face n else (if is_within limit (n - limit) then all.core (n - limit) else part.Vacant)) ≡ (if b then as_face x else (if is_within limit (n - limit) then settled (as_core x) else part.Vacant))) [
    | true ↦ λ w e. face_seen n x w e
    | false ↦ λ off f. elim (is_within limit (n - limit)) as (λ b. is_within limit (n - limit) ≡ b → (if b then all.core (n - limit) else part.Vacant) ≡ x → (if b then all.core (n - limit) else part.Vacant) ≡ (if b then settled (as_core x) else part.Vacant)) [
      | true ↦ λ w e. core_seen (n - limit) x w e
      | false ↦ λ w e. refl
    ] refl f
  ] refl is

  looked : (n : ℕ) → place_of limit all n ≡ look parts n
  looked n = sym (placed n ∙ ap (λ f. place_of limit f n) told)

  parts_seen : ((n : ℕ) → weigh (one_at n) parts ≤ 1) → PartsOf (seen limit) (part_of t.setting.value limit []) parts
  unfolding part_of
  parts_seen distinct k p x at = seen_is p x (looked p ∙ look_once parts k p x (distinct p) at)

  others_seen : (p : ℕ) → weigh (one_at p) parts ≡ 0 → part_of t.setting.value limit [] p ≡ seen limit p part.Vacant
  unfolding part_of
  others_seen p none = seen_is p part.Vacant (looked p ∙ look_none parts p none)

pub opens_with : (t : OcrTerms) (parts : List (ℕ × Part)) → (2 ≤ t.limit) × (t.limit ≤ 65536) → (1 ≤ t.share) × (t.share ≤ 16000000) → (1 ≤ t.seats) × (t.seats ≤ 128) → parts_in t.limit parts ≡ parts_of (of_terms t) [] → ArePlaced t.limit parts → keys parts ≡ 1 ∷ 2 ∷ (t.limit + 2) ∷ [] → OpensWith meaning t parts
opens_with t parts limits share seats told placed keyed = record {
  parts = parts_seen t parts told placed (once t.limit limits.0 parts keyed);
  others = others_seen t parts told placed;
  places = within t.limit limits.0 parts keyed;
  opened = two_faces t.limit limits.0 parts keyed;
  few = limits.0;
  limits = limits;
  share = share;
  seats = seats;
}
