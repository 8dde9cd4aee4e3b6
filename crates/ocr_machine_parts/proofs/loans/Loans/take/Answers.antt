use Rattle.std.proofs.Common.{◌≡◌, ◌++◌, ◌∙◌, ap, is_some, sym, List, None, Option, ℕ}
use Rattle.ocr_machine_parts.specs.Loans.{kept_in, without_kept}
use Rattle.ocr_machine_parts.specs.declared.loans.Kept.{Kept}
use Rattle.ocr_machine_parts.proofs.Lists.{in_first, in_second, none_out, out_first, out_second}
use Rattle.ocr_machine_parts.proofs.loans.Loans.take.Goals as goal

pub returns-in-Some-clause-kept : goal.returns-in-Some-clause-kept
returns-in-Some-clause-kept c =
    let d = c.args.block in let many = c.self.inside.many in let few = c.self.inside.few.items in
    sym (in_first d c.in-Some.kept many few (sym c.in-Some.ensures.kept)) ∙ ap (kept_in d) c.self.view_is

pub returns-in-Some-clause-left : goal.returns-in-Some-clause-left
returns-in-Some-clause-left c =
    let d = c.args.block in let many = c.self.inside.many in let few = c.self.inside.few.items in
    ap (λ (l : List (ℕ × Kept)). l ++ few) c.in-Some.ensures.left
    ∙ (sym (out_first d many few (ap (λ (o : Option Kept). is_some o) (sym c.in-Some.ensures.kept))) ∙ ap (without_kept d) c.self.view_is)

pub returns-in-None-clause-kept : goal.returns-in-None-clause-kept
returns-in-None-clause-kept c =
    let d = c.args.block in let many = c.self.inside.many in let few = c.self.inside.few.items in
    c.take_from.ensures.kept ∙ (sym (in_second d many few (sym c.in-None.ensures.kept)) ∙ ap (kept_in d) c.self.view_is)

pub returns-in-None-clause-left : goal.returns-in-None-clause-left
returns-in-None-clause-left c =
    let d = c.args.block in let many = c.self.inside.many in let few = c.self.inside.few.items in
    let none : kept_in d many ≡ None = sym c.in-None.ensures.kept in
    (λ i. (c.in-None.ensures.left ∙ none_out d many none) i ++ c.take_from.ensures.left i)
    ∙ (sym (out_second d many few (ap (λ (o : Option Kept). is_some o) none)) ∙ ap (without_kept d) c.self.view_is)
