use Rattle.std.proofs.Common.{◌≡◌, ◌∷◌, ◌++◌, ◌∙◌, ap, is_some, sym, false, List, ℕ}
use Rattle.ocr_machine_parts.specs.Loans.{kept_in, with_kept, without_kept}
use Rattle.ocr_machine_parts.specs.declared.loans.Kept.{Kept}
use Rattle.ocr_machine_parts.proofs.Lists.{none_of, none_out, out_first, out_second}
use Rattle.ocr_machine_parts.proofs.loans.Loans.put.Goals as goal

pub returns-then-branch-clause-ok : goal.returns-then-branch-clause-ok
returns-then-branch-clause-ok c =
    let d = c.args.block in let many = c.self.inside.many in let few = c.self.inside.few.items in
    ap (λ (l : List (ℕ × Kept)). l ++ few) c.in_ok-put.ensures.ok
    ∙ (ap (λ (l : List (ℕ × Kept)). (d, c.args.kept) ∷ l) (sym (out_first d many few (sym c.in_ok-put.ensures.was ∙ c.if-branch.true))) ∙ ap (with_kept d c.args.kept) c.self.view_is)

pub returns-clause-ok : goal.returns-clause-ok
returns-clause-ok c =
    let d = c.args.block in let many = c.self.inside.many in let few = c.self.inside.few.items in
    let off : is_some (kept_in d many) ≡ false = sym c.in_ok-put.ensures.was ∙ c.if-branch.false in
    let same : without_kept d many ≡ many = none_out d many (none_of (kept_in d many) off) in
    (λ i. (c.in_ok-put.ensures.ok ∙ ap (λ (l : List (ℕ × Kept)). (d, c.args.kept) ∷ l) same) i ++ c.leave_out.ensures i)
    ∙ (ap (λ (l : List (ℕ × Kept)). (d, c.args.kept) ∷ l) (sym (out_second d many few off)) ∙ ap (with_kept d c.args.kept) c.self.view_is)
