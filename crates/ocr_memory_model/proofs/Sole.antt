-- Two lists of the races of a run are one.
use Rattle.std.proofs.Common.{◌≡◌, inl, inr, List, [], ◌∷◌, refl, sym, ap, ◌∙◌, subst}
use Rattle.std.proofs.lemmas.Cmp.{nat_cmp_total, on_total, then_total}
use Rattle.std.proofs.lemmas.Map.Keys.{sorted_head, sorted_tail}
use Rattle.std.specs.Cmp.{IsTotalOrder}
use Rattle.std.specs.List.{Contains}
use Rattle.std.specs.Ordering.{ordering_reverse}
use Rattle.std.specs.declared.cmp.Ordering.TheVariants.{Less, Greater}
use Rattle.ocr_acquire.proofs.Members.{Contains-nil, Contains-here, Contains-there, Contains-cases}
use Rattle.ocr_memory_model.specs.declared.race.Race.{Race}
use Rattle.ocr_memory_model.specs.RaceList.{race_cmp, IsRising, SoleLaw}
use Rattle.ocr_memory_model.proofs.Found.{all_at}

race_total : IsTotalOrder race_cmp
race_total =
    then_total (on_total (λ (r : Race). r.block) nat_cmp_total)
    (then_total (on_total (λ (r : Race). r.word) nat_cmp_total)
    (then_total (on_total (λ (r : Race). r.first) nat_cmp_total) (on_total (λ (r : Race). r.second) nat_cmp_total)))

never_both : (x y : Race) → race_cmp x y ≡ Less → race_cmp y x ≡ Less → ⊥
never_both x y h k =
    let back : race_cmp y x ≡ ordering_reverse (race_cmp x y) = race_total.antisymm y x in
    let turned : race_cmp y x ≡ Greater = back ∙ ap ordering_reverse h in
    cc (turned, k)

first_same : (x y : Race) (xs ys : List Race) → IsRising (x ∷ xs) → IsRising (y ∷ ys) → Contains (y ∷ ys) x → Contains (x ∷ xs) y → x ≡ y
first_same x y xs ys up also has_x has_y = elim (Contains-cases y x ys has_x) [
  | inl here ↦ sym here
  | inr later ↦ elim (Contains-cases x y xs has_y) [
    | inl here ↦ here
    | inr after ↦ absurd (never_both x y (all_at (λ z. race_cmp x z ≡ Less) xs y (sorted_head race_cmp x xs up) after) (all_at (λ z. race_cmp y z ≡ Less) ys x (sorted_head race_cmp y ys also) later))
  ]
]

-- what stands behind the first of one list stands behind that of the other
behind : (x y r : Race) (xs ys : List Race) → IsRising (x ∷ xs) → x ≡ y → ((q : Race) → Contains (x ∷ xs) q → Contains (y ∷ ys) q) → Contains xs r → Contains ys r
behind x y r xs ys up same to there = elim (Contains-cases y r ys (to r (Contains-there x r xs there))) [
  | inl here ↦ absurd (
      let low : race_cmp x r ≡ Less = all_at (λ z. race_cmp x z ≡ Less) xs r (sorted_head race_cmp x xs up) there in
      let own : race_cmp x x ≡ Less = subst (λ z. race_cmp x z ≡ Less) (sym here ∙ sym same) low in
      never_both x x own own)
  | inr later ↦ later
]

same_lists : (xs ys : List Race) → IsRising xs → IsRising ys → ((r : Race) → Contains xs r → Contains ys r) → ((r : Race) → Contains ys r → Contains xs r) → xs ≡ ys
same_lists [] [] up also to from = refl
same_lists [] (y ∷ ys) up also to from = absurd (Contains-nil y (from y (Contains-here y y ys refl)))
same_lists (x ∷ xs) [] up also to from = absurd (Contains-nil x (to x (Contains-here x x xs refl)))
same_lists (x ∷ xs) (y ∷ ys) up also to from =
    let same : x ≡ y = first_same x y xs ys up also (to x (Contains-here x x xs refl)) (from y (Contains-here y y ys refl)) in
    let rest : xs ≡ ys = same_lists xs ys (sorted_tail race_cmp x xs up) (sorted_tail race_cmp y ys also) (λ r. behind x y r xs ys up same to) (λ r. behind y x r ys xs also (sym same) from) in
    λ i. same i ∷ rest i

pub sole_law : SoleLaw
sole_law s J races others are also =
    same_lists races others are.rising also.rising
    (λ r there. (also.each r.block r.word r.first r.second).1 ((are.each r.block r.word r.first r.second).0 there))
    (λ r there. (are.each r.block r.word r.first r.second).1 ((also.each r.block r.word r.first r.second).0 there))
