-- What a tally tells of the holders that it counts.
use Rattle.std.proofs.Common.{◌≡◌, ◌≤◌, ℕ, ◌+◌, ◌-◌, List, [], ◌∷◌, ◌++◌, true, false, ◌&&◌, ◌==◌, if◌then◌else◌, Some, None, length, arith, refl, sym, ◌∙◌, ap}
use Rattle.std.proofs.lemmas.Bool.Decides.{nat_tests}
use Rattle.std.proofs.lemmas.List.{length_push}
use Rattle.ocr_acquire.specs.declared.Mode.{Mode}
use Rattle.ocr_acquire.specs.declared.Mode.TheVariants as mode
use Rattle.ocr_acquire.specs.Mode.{together, fits_all, mode_in}
use Rattle.ocr_datablock.specs.declared.tally.Tally.{Tally}
use Rattle.ocr_datablock.specs.Block.{without}
use Rattle.ocr_datablock.specs.Steps.{StandOnce}
use Rattle.ocr_datablock.specs.Tally.{clash, clashes, IsTally, IsBounded, CountsOne}
use Rattle.ocr_datablock.proofs.Lines.{without_none, writer_with_none}

-- a mode goes with all where none is counted against it
pub fits_clashes : (m : Mode) (holders : List (ℕ × Mode)) → fits_all m holders ≡ (clashes m holders == 0)
fits_clashes m [] = refl
fits_clashes m (one ∷ rest) = elim (together m one.1) as (λ b. (b && fits_all m rest) ≡ ((if b then 0 else 1) + clashes m rest == 0)) [
  | true ↦ let more = fits_clashes m rest in grind (arith, nat_tests)
  | false ↦ grind (arith, nat_tests)
]

pub clashes_append : (m : Mode) (xs ys : List (ℕ × Mode)) → clashes m (xs ++ ys) ≡ clashes m xs + clashes m ys
clashes_append m [] ys = omega arith
clashes_append m (one ∷ rest) ys = let more = clashes_append m rest ys in omega arith

pub clashes_within : (m : Mode) (holders : List (ℕ × Mode)) → clashes m holders ≤ length holders
clashes_within m [] = omega arith
clashes_within m (one ∷ rest) = let more = clashes_within m rest in elim (together m one.1) as (λ b. (if b then 0 else 1) + clashes m rest ≤ length (one ∷ rest)) [
  | true ↦ omega arith
  | false ↦ omega arith
]

-- none goes with EW, and none with NULL
pub fits_alone : (m : Mode) → ((other : Mode) → together m other ≡ false) → (holders : List (ℕ × Mode)) → fits_all m holders ≡ (length holders == 0)
fits_alone m never [] = refl
fits_alone m never (one ∷ rest) = let no = never one.1 in grind (arith, nat_tests)

never_null : (other : Mode) → together mode.Null other ≡ false
never_null other = elim other as (λ m. together mode.Null m ≡ false) [ mode.Null ↦ refl | mode.Ro ↦ refl | mode.Const ↦ refl | mode.Rw ↦ refl | mode.Ew ↦ refl ]

pub fits_writer_length : (holders : List (ℕ × Mode)) → fits_all mode.Ew holders ≡ (length holders == 0)
fits_writer_length holders = fits_alone mode.Ew writer_with_none holders

pub fits_null_length : (holders : List (ℕ × Mode)) → fits_all mode.Null holders ≡ (length holders == 0)
fits_null_length holders = fits_alone mode.Null never_null holders

clash_small : (m other : Mode) → clash m other ≤ 1
clash_small m other = elim (together m other) as (λ b. (if b then 0 else 1) ≤ 1) [ true ↦ omega arith | false ↦ omega arith ]

clashes_left : (m n : Mode) (t : ℕ) (holders : List (ℕ × Mode)) → StandOnce holders → mode_in t holders ≡ Some n → clashes m (without t holders) + clash m n ≡ clashes m holders
clashes_left m n t [] once is = cc
clashes_left m n t (one ∷ rest) once is =
    elim (one.0 == t) as (λ b. (one.0 == t) ≡ b → (if b then Some one.1 else mode_in t rest) ≡ Some n → clashes m (if b then without t rest else one ∷ without t rest) + clash m n ≡ clash m one.1 + clashes m rest) [
      | true ↦ λ here same.
          let who : one.0 ≡ t = grind (arith, nat_tests) in
          let none : mode_in t rest ≡ None = rw who at once.0 in
          let mode_is : one.1 ≡ n = cc in
          rw (without_none t rest none, ← mode_is) (omega arith)
      | false ↦ λ _ later. let more = clashes_left m n t rest once.1 later in omega arith
    ] refl is

length_left : (n : Mode) (t : ℕ) (holders : List (ℕ × Mode)) → StandOnce holders → mode_in t holders ≡ Some n → length (without t holders) + 1 ≡ length holders
length_left n t [] once is = cc
length_left n t (one ∷ rest) once is =
    elim (one.0 == t) as (λ b. (one.0 == t) ≡ b → (if b then Some one.1 else mode_in t rest) ≡ Some n → length (if b then without t rest else one ∷ without t rest) + 1 ≡ length (one ∷ rest)) [
      | true ↦ λ here same.
          let who : one.0 ≡ t = grind (arith, nat_tests) in
          let none : mode_in t rest ≡ None = rw who at once.0 in
          rw (without_none t rest none) (omega arith)
      | false ↦ λ _ later. let more = length_left n t rest once.1 later in omega arith
    ] refl is

-- THE STEPS OF A TALLY.
clashes_push : (m n : Mode) (holders : List (ℕ × Mode)) (t : ℕ) → clashes m (holders ++ (t, n) ∷ []) ≡ clashes m holders + clash m n
clashes_push m n holders t = let both = clashes_append m holders ((t, n) ∷ []) in omega arith

pub tells_last : (tally next : Tally) (holders : List (ℕ × Mode)) (t : ℕ) (m : Mode) → next.ro ≡ tally.ro + clash mode.Ro m → next.constant ≡ tally.constant + clash mode.Const m
    → next.rw ≡ tally.rw + clash mode.Rw m → next.all ≡ tally.all + 1 → IsTally tally holders → IsTally next (holders ++ (t, m) ∷ [])
tells_last tally next holders t m ro constant rw all tells =
    record {
      ro = ro ∙ ap (λ (n : ℕ). n + clash mode.Ro m) tells.ro ∙ sym (clashes_push mode.Ro m holders t);
      constant = constant ∙ ap (λ (n : ℕ). n + clash mode.Const m) tells.constant ∙ sym (clashes_push mode.Const m holders t);
      rw = rw ∙ ap (λ (n : ℕ). n + clash mode.Rw m) tells.rw ∙ sym (clashes_push mode.Rw m holders t);
      all = let count = length_push holders (t, m) in grind (arith, all, tells.all);
    }

pub counts_one : (tally : Tally) (holders : List (ℕ × Mode)) (t : ℕ) (m : Mode) → IsTally tally holders → StandOnce holders → mode_in t holders ≡ Some m → CountsOne tally m
counts_one tally holders t m tells once is =
    let ro = clashes_left mode.Ro m t holders once is in
    let constant = clashes_left mode.Const m t holders once is in
    let writers = clashes_left mode.Rw m t holders once is in
    let all = length_left m t holders once is in
    let told = tells in
    (omega (arith, told.ro), omega (arith, told.constant), omega (arith, told.rw), omega (arith, told.all))

pub tells_left : (tally next : Tally) (holders : List (ℕ × Mode)) (t : ℕ) (m : Mode) → next.ro ≡ tally.ro - clash mode.Ro m → next.constant ≡ tally.constant - clash mode.Const m
    → next.rw ≡ tally.rw - clash mode.Rw m → next.all ≡ tally.all - 1 → IsTally tally holders → StandOnce holders → mode_in t holders ≡ Some m → IsTally next (without t holders)
tells_left tally next holders t m ro constant rw all tells once is =
    let first = clashes_left mode.Ro m t holders once is in
    let second = clashes_left mode.Const m t holders once is in
    let third = clashes_left mode.Rw m t holders once is in
    let count = length_left m t holders once is in
    record { ro = omega (arith, tells.ro, ro); constant = omega (arith, tells.constant, constant); rw = omega (arith, tells.rw, rw); all = omega (arith, tells.all, all) }

pub tally_bounded : (tally : Tally) (holders : List (ℕ × Mode)) → IsTally tally holders → IsBounded tally
tally_bounded tally holders tells =
    let first = clashes_within mode.Ro holders in
    let second = clashes_within mode.Const holders in
    let third = clashes_within mode.Rw holders in
    (omega (arith, tells.ro, tells.all), omega (arith, tells.constant, tells.all), omega (arith, tells.rw, tells.all))
