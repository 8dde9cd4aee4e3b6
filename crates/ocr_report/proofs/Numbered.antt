-- The blocks up to one number more.
use Rattle.std.proofs.Common.{◌≡◌, ◌∙◌, ◌+◌, ℕ, suc, List, [], ◌∷◌, ◌++◌, Bool, true, false, filter, if◌then◌else◌, refl, ap, arith}
use Rattle.std.specs.List.{range_with_len}
use Rattle.std.proofs.lemmas.List.Elements.{filter-append}
use Rattle.ocr_machine_parts.specs.declared.part.Part.{Part}
use Rattle.ocr_machine_parts.specs.Kinds.{is_block}
use Rattle.ocr_report.specs.Faces.{blocks_to}
use Rattle.ocr_report.proofs.Opened.{one_more}

last_if : (b : Bool) (xs : List ℕ) (n : ℕ) → xs ++ (if b then n ∷ [] else []) ≡ (if b then xs ++ n ∷ [] else xs)
last_if true xs n = refl
last_if false xs n = append_none xs
  where
    append_none : (xs : List ℕ) → xs ++ [] ≡ xs
    append_none [] = refl
    append_none (x ∷ xs) = ap (λ ys. x ∷ ys) (append_none xs)

pub blocks_more : (face : ℕ → Part) (n : ℕ) → blocks_to face (n + 1)
    ≡ (if is_block (face (n + 1)) then blocks_to face n ++ (n + 1) ∷ [] else blocks_to face n)
blocks_more face n =
    let next : n + 1 ≡ suc n = omega arith in
    let is : ℕ → Bool = λ d. is_block (face d) in
    ap (λ k. filter is (range_with_len 1 k)) next
    ∙ ap (filter is) (one_more 1 n (n + 1) (omega arith))
    ∙ filter-append is (range_with_len 1 n) ((n + 1) ∷ [])
    ∙ last_if (is_block (face (n + 1))) (blocks_to face n) (n + 1)
