-- The EDTs that have not started, and those that have.
use Rattle.std.proofs.Common.{◌≡◌, ◌≤◌, ◌+◌, ◌-◌, ◌∙◌, ℕ, List, [], ◌∷◌, ◌++◌, Bool, true, false, not, if◌then◌else◌, filter, length, refl, ap, arith}
use Rattle.std.specs.List.{flat_map}
use Rattle.std.proofs.lemmas.List.Elements.{filter_agree}
use Rattle.std.proofs.lemmas.List.Filters.{length-filter_both}
use Rattle.ocr_machine_history.specs.History.{History}
use Rattle.ocr_machine_history.specs.Made.{made_edts}
use Rattle.ocr_machine_history.specs.Edts.{is_started}
use Rattle.ocr_machine_history.specs.Output.{left_edts}
use Rattle.ocr_report.specs.Edts.{started_edts, kept_if}

kept_first : (b : Bool) (t : ℕ) (ts : List ℕ) → kept_if b t ++ ts ≡ (if not b then t ∷ ts else ts)
kept_first true t ts = refl
kept_first false t ts = refl

pub all_kept : (f : ℕ → Bool) (ts : List ℕ) → flat_map (λ t. kept_if (f t) t) ts ≡ filter (λ t. not (f t)) ts
all_kept f [] = refl
all_kept f (t ∷ ts) = ap (λ rest. kept_if (f t) t ++ rest) (all_kept f ts) ∙ kept_first (f t) t (filter (λ t. not (f t)) ts)

pub same_left : (past : History) (f : ℕ → Bool) → ((t : ℕ) → f t ≡ is_started past t)
    → flat_map (λ t. kept_if (f t) t) (made_edts past) ≡ left_edts past
same_left past f same =
    all_kept f (made_edts past)
    ∙ filter_agree (λ t. not (f t)) (λ t. not (is_started past t)) (λ t. ap not (same t)) (made_edts past)

pub started_and_left : (past : History) → length (started_edts past) + length (left_edts past) ≡ length (made_edts past)
started_and_left past = length-filter_both (is_started past) (λ t. not (is_started past t)) (λ t. refl) (made_edts past)

pub started_rest : (past : History) → length (made_edts past) - length (left_edts past) ≡ length (started_edts past)
started_rest past = omega (arith, started_and_left past)

pub left_few : (past : History) → length (left_edts past) ≤ length (made_edts past)
left_few past = omega (arith, started_and_left past)
