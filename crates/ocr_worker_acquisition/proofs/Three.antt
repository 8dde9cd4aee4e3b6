-- A core and two faces at hand, of which the core was made ready.
use Rattle.std.proofs.Common.{◌≡◌, ◌≢◌, ℕ, ◌+◌, Bool, true, false, ◌==◌, nat_lt, if◌then◌else◌, List, [], ◌∷◌, refl, sym, subst, arith}
use Rattle.std.proofs.lemmas.Grind.{common_steps}
use Rattle.std.proofs.lemmas.Bool.{eqb-true}
use Rattle.ocr_base.proofs.Booleans.{same as number_same}
use Rattle.ocr_acquire.specs.declared.Mode.{Mode}
use Rattle.ocr_datablock.specs.Block as block
use Rattle.ocr_slots.specs.declared.Slot.{Slot}
use Rattle.ocr_machine_history.specs.Numbers.{placed}
use Rattle.ocr_machine_parts.specs.declared.part.Core.{Core}
use Rattle.ocr_machine_parts.specs.declared.part.Part.{Part}
use Rattle.ocr_machine_parts.specs.declared.part.Part.TheVariants as part
use Rattle.ocr_machine_parts.specs.Progress.{made_ready, ready_at, with_phase}
use Rattle.ocr_machine_parts.specs.Footprint.{and_core, and_face}
use Rattle.ocr_machine_parts.specs.Kinds.{on_core}
use Rattle.ocr_machine_parts.specs.Taken.{as_face, core_in, face_in, has, is_within, look, parts_in}
use Rattle.ocr_turns_rule.specs.Sums.{one_at, sum_of, weigh}
use Rattle.ocr_worker_clerk.proofs.Hands.{apart_is}
use Rattle.ocr_worker_clerk.proofs.Seen.{core_apart}
use Rattle.ocr_worker_acquisition.specs.Acquisition.{two_faces}
use Rattle.ocr_turns_rule.proofs.Totals.{one_else}

off_core : (limit t u : ℕ) → (t == u) ≡ false → (limit + t == limit + u) ≡ false
off_core limit t u off = grind (arith, common_steps)

ready_core_in : (limit t : ℕ) (c : Core) (rest : List (ℕ × Part)) (ms : List (ℕ × Mode)) → is_within limit t ≡ true
    → core_in limit ((limit + t, part.Core (with_phase (made_ready ms) c)) ∷ rest) t ≡ on_core (core_in limit ((limit + t, part.Core c) ∷ rest) t) (with_phase (made_ready ms))
ready_core_in limit t c rest ms is = rw (is, number_same (limit + t)) refl

other_core_in : (limit t u : ℕ) (x y : Part) (rest : List (ℕ × Part)) → (t == u) ≡ false → core_in limit ((limit + t, x) ∷ rest) u ≡ core_in limit ((limit + t, y) ∷ rest) u
other_core_in limit t u x y rest off = let o = off_core limit t u off in rw o refl

face_same : (limit n g : ℕ) (c d : Core) (rest : List (ℕ × Part)) → face_in limit ((n, part.Core c) ∷ rest) g ≡ face_in limit ((n, part.Core d) ∷ rest) g
face_same limit n g c d rest = elim (is_within limit g) as (λ b. (if b then as_face (if n == g then part.Core c else look rest g) else part.Vacant) ≡ (if b then as_face (if n == g then part.Core d else look rest g) else part.Vacant)) [
  | true ↦ elim (n == g) as (λ b. as_face (if b then part.Core c else look rest g) ≡ as_face (if b then part.Core d else look rest g)) [ true ↦ refl | false ↦ refl ]
  | false ↦ refl
]

pub ready_list : (limit t : ℕ) (c : Core) (rest : List (ℕ × Part)) (ms : List (ℕ × Mode)) → is_within limit t ≡ true
    → parts_in limit ((limit + t, part.Core (with_phase (made_ready ms) c)) ∷ rest) ≡ ready_at t ms (parts_in limit ((limit + t, part.Core c) ∷ rest))
ready_list limit t c rest ms is = λ i. record {
  face = λ g. face_same limit (limit + t) g (with_phase (made_ready ms) c) c rest i;
  core = λ u. cores u i;
}
  where
    cores : (u : ℕ) → core_in limit ((limit + t, part.Core (with_phase (made_ready ms) c)) ∷ rest) u
        ≡ (if t == u then on_core (core_in limit ((limit + t, part.Core c) ∷ rest) t) (with_phase (made_ready ms)) else core_in limit ((limit + t, part.Core c) ∷ rest) u)
    cores u = elim (t == u) as (λ b. (t == u) ≡ b → core_in limit ((limit + t, part.Core (with_phase (made_ready ms) c)) ∷ rest) u ≡ (if b then on_core (core_in limit ((limit + t, part.Core c) ∷ rest) t) (with_phase (made_ready ms)) else core_in limit ((limit + t, part.Core c) ∷ rest) u)) [
      | true ↦ λ e. subst (λ (k : ℕ). core_in limit ((limit + t, part.Core (with_phase (made_ready ms) c)) ∷ rest) k ≡ on_core (core_in limit ((limit + t, part.Core c) ∷ rest) t) (with_phase (made_ready ms))) (eqb-true t u e) (ready_core_in limit t c rest ms is)
      | false ↦ λ off. other_core_in limit t u (part.Core (with_phase (made_ready ms) c)) (part.Core c) rest off
    ] refl

-- THE FOOTPRINT, weighed
placed_new : (p n : ℕ) (ns : List ℕ) → sum_of (one_at n) ns ≡ 0 → sum_of (one_at p) (placed n ns) ≡ one_at p n + sum_of (one_at p) ns
placed_new p n [] none = refl
placed_new p n (m ∷ ns) none = elim (nat_lt n m) as (λ b. nat_lt n m ≡ b → sum_of (one_at p) (if b then n ∷ m ∷ ns else if n == m then m ∷ ns else m ∷ placed n ns) ≡ one_at p n + (one_at p m + sum_of (one_at p) ns)) [
  | true ↦ λ _. refl
  | false ↦ λ _.
      let off : (n == m) ≡ false = apart_is n m (λ is. let one : one_at n m ≡ 1 = rw (sym is) (rw (number_same n) refl) in absurd (omega (arith, one, none))) in
      let r = placed_new p n ns (omega (arith, none)) in
      rw off (omega (arith, r))
] refl

pub footprint_sum : (limit t d p : ℕ) → is_within limit t ≡ true → is_within limit d ≡ true → t ≢ d
    → sum_of (one_at p) (and_face limit t (and_face limit d (and_core limit t []))) ≡ one_at p t + (one_at p d + (one_at p (limit + t) + 0))
footprint_sum limit t d p wt wd off =
    let a : sum_of (one_at d) ((limit + t) ∷ []) ≡ 0 = let z = one_else d (limit + t) (λ is. core_apart limit t d wt wd (sym is)) in omega (arith, z) in
    let one = placed_new p d ((limit + t) ∷ []) a in
    let two = placed_new t d ((limit + t) ∷ []) a in
    let b : sum_of (one_at t) (placed d ((limit + t) ∷ [])) ≡ 0 = let x = one_else t d off in let y = one_else t (limit + t) (λ is. core_apart limit t t wt wt (sym is)) in omega (arith, two, x, y) in
    let three = placed_new p t (placed d ((limit + t) ∷ [])) b in
    rw (wt, wd) (omega (arith, one, three))

-- THE THREE PARTS
module _ (limit t d : ℕ) (x : Part) (slots : List Slot) (st : block.State) (wt : is_within limit t ≡ true) (wd : is_within limit d ≡ true) (off : t ≢ d) where
  core_t : ((limit + t) == t) ≡ false
  core_t = apart_is (limit + t) t (core_apart limit t t wt wt)

  core_d : ((limit + t) == d) ≡ false
  core_d = apart_is (limit + t) d (core_apart limit t d wt wd)

  t_d : (t == d) ≡ false
  t_d = apart_is t d off

  d_t : (d == t) ≡ false
  d_t = apart_is d t (λ is. off (sym is))

  pub core_first : (b : Bool) → (has ((limit + t, x) ∷ two_faces b t d slots st) (limit + t) ≡ true) × (look ((limit + t, x) ∷ two_faces b t d slots st) (limit + t) ≡ x)
  core_first b = (rw (number_same (limit + t)) refl, rw (number_same (limit + t)) refl)

  pub block_there : (b : Bool) → (has ((limit + t, x) ∷ two_faces b t d slots st) d ≡ true) × (look ((limit + t, x) ∷ two_faces b t d slots st) d ≡ part.Block st)
  block_there true = (rw (core_d, number_same d) refl, rw (core_d, number_same d) refl)
  block_there false = (rw (core_d, t_d, number_same d) refl, rw (core_d, t_d, number_same d) refl)

  pub face_there : (b : Bool) → has ((limit + t, x) ∷ two_faces b t d slots st) t ≡ true
  face_there true = rw (core_t, d_t, number_same t) refl
  face_there false = rw (core_t, number_same t) refl

  pub hand_sum : (p : ℕ) (b : Bool) → weigh (one_at p) ((limit + t, x) ∷ two_faces b t d slots st) ≡ one_at p t + (one_at p d + (one_at p (limit + t) + 0))
  hand_sum p true = omega arith
  hand_sum p false = omega arith
