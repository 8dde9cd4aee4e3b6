use Rattle.std.proofs.Common.{◌≡◌, ◌++◌, ◌==◌, ◌∙◌, ap, Bool, IsTrue, List, [], ◌∷◌, false, length, ℕ}
use Rattle.ocr_machine_parts.specs.declared.loans.Kept.{Kept}
use Rattle.ocr_machine_parts.proofs.loans.Loans.is_empty.Goals as goal

-- where the second of two lists has an item, their list is not empty
not_empty : (is : Bool) (many few now : List (ℕ × Kept)) → many ++ few ≡ now → is ≡ (length few == 0) → is ≡ false → (IsTrue is → now ≡ []) × (now ≡ [] → IsTrue is)
not_empty is many [] now view by off = cc
not_empty is [] (one ∷ few) now view by off = (λ yes. cc, λ none. cc)
not_empty is (first ∷ many) (one ∷ few) now view by off = (λ yes. cc, λ none. cc)

pub returns-else-is_empty : goal.returns-else-is_empty
returns-else-is_empty c = not_empty c.is_empty.result c.self.inside.many c.self.inside.few.items c.args.self.now c.self.view_is (c.is_empty.ensures ∙ ap (λ n. n == 0) c.self.inside.few.ok.0) c.if-is_empty.false
