-- A step of the loan that is kept with a block, in its place.
use Rattle.std.proofs.Common.{◌≡◌, ℕ, suc, ◌+◌, ◌<◌, List, ◌∷◌, ◌++◌, length, take, drop, true, ◌==◌, refl, sym, ◌∙◌, ap, subst, add-one}
use Rattle.std.proofs.Math.ListN.{get_or, set}
use Rattle.std.proofs.Math.Seq.{drop-cons}
use Rattle.std.proofs.lemmas.List.{drop-set, get_or_default, take-append-drop, take-set}
use Rattle.ocr_datablock.specs.Lent.{Loan}
use Rattle.ocr_machine_parts.specs.Loans.{kept_after, with_loan}
use Rattle.ocr_machine_parts.specs.declared.loans.Kept.{Kept}

abbrev Item : Type 0
Item = ℕ × Kept

set_is : (items : List Item) (i : ℕ) (y : Item) → i < length items → set items i y ≡ take i items ++ y ∷ drop (i + 1) items
set_is items i y lt =
    sym (take-append-drop i (set items i y))
    ∙ (ap (λ (l : List Item). l ++ drop i (set items i y)) (take-set items i y) ∙ ap (λ (l : List Item). take i items ++ l) (drop-set items i y lt))

pub loan_set : (d : ℕ) (step : Loan → Loan) (items : List Item) (i : ℕ) (x y : Item) (k : Kept) → i < length items → x ≡ get_or items i x → y ≡ get_or items i y → (x.0 == d) ≡ true → k ≡ kept_after step y.1
    → take i items ++ with_loan d step (drop i items) ≡ with_loan d step items → set items i (y.0, k) ≡ with_loan d step items
loan_set d step items i x y k lt xs ys test is kept =
    let same : x ≡ y = xs ∙ (get_or_default items i x y lt ∙ sym ys) in
    let on : (y.0 == d) ≡ true = subst (λ (z : Item). (z.0 == d) ≡ true) same test in
    let front : drop i items ≡ y ∷ drop (i + 1) items = drop-cons items i y lt ∙ (ap (λ (z : Item). z ∷ drop (suc i) items) (sym ys) ∙ ap (λ (n : ℕ). y ∷ drop n items) (sym (add-one i))) in
    let stepped : with_loan d step (y ∷ drop (i + 1) items) ≡ (y.0, kept_after step y.1) ∷ drop (i + 1) items = rw on refl in
    set_is items i (y.0, k) lt
    ∙ (ap (λ (q : Kept). take i items ++ (y.0, q) ∷ drop (i + 1) items) is
    ∙ (ap (λ (l : List Item). take i items ++ l) (sym stepped)
    ∙ (ap (λ (l : List Item). take i items ++ with_loan d step l) (sym front) ∙ kept)))
