-- Arguments, written one by one.
use Rattle.std.proofs.Common.{◌≡◌, ◌≤◌, ◌∙◌, ◌++◌, ℕ, zero, suc, List, [], length, drop, refl, sym, ap}
use Rattle.std.proofs.lemmas.List.{append-nil, drop_all}
use Rattle.ocr_program_tree.specs.Tree.{empty}
use Rattle.ocr_program_tree.specs.Argument.{plain_of}
use Rattle.ocr_program_tree.specs.declared.argument.Argument.{Argument}
use Rattle.ocr_program_canonical.specs.Written.{from_place}

nothing_left : (place : ℕ) → from_place place empty ≡ []
nothing_left zero = refl
nothing_left (suc n) = refl

-- past the last argument all is written
pub all_written : (place : ℕ) (xs : List Argument) (text whole : List ℕ) → length xs ≤ place
    → text ++ from_place place (plain_of (drop place xs)) ≡ whole → text ≡ whole
all_written place xs text whole outside e =
    sym (append-nil text) ∙ ap (λ (l : List ℕ). text ++ l) (sym (nothing_left place))
    ∙ ap (λ (l : List Argument). text ++ from_place place (plain_of l)) (sym (drop_all place xs outside)) ∙ e
