use Rattle.std.proofs.Common.{◌≡◌, ◌++◌, ◌∙◌, ap, subst, sym, Err, List, None, Ok, Option, Result, ℕ}
use Rattle.std.specs.Prelude.{OnErr, OnOk}
use Rattle.ocr_datablock.specs.Lent.{Loan, after_store}
use Rattle.ocr_machine_parts.specs.Loans.{IsStorable, kept_in, loan_in, with_loan}
use Rattle.ocr_machine_parts.specs.declared.loans.Kept.{Kept}
use Rattle.ocr_machine_parts.proofs.Lists.{in_second, no_step, none_of, step_first, step_second, storable_first}
use Rattle.ocr_machine_parts.proofs.loans.Loans.store.Goals as goal

on_ok : {A E : Type 0} (r : Result A E) (P Q : Type 0) → OnOk r P → (P → Q) → OnOk r Q
on_ok (Ok a) P Q is step = step is
on_ok (Err e) P Q is step = tt

on_err : {A E : Type 0} (r : Result A E) (P Q : Type 0) → OnErr r P → (P → Q) → OnErr r Q
on_err (Ok a) P Q is step = tt
on_err (Err e) P Q is step = step is

pub store-requires : goal.store-requires
store-requires c = storable_first c.args.block c.args.word c.self.inside.many c.self.inside.few.items (subst (λ (l : List (ℕ × Kept)). IsStorable (loan_in (kept_in c.args.block l)) c.args.word) (sym c.self.view_is) c.requires)

pub returns-then-branch-clause-ok : goal.returns-then-branch-clause-ok
returns-then-branch-clause-ok c =
    let d = c.args.block in let many = c.self.inside.many in let few = c.self.inside.few.items in
    let step = λ (loan : Loan). after_store loan c.args.word c.args.value in
    ap (λ (l : List (ℕ × Kept)). l ++ few) c.in_ok-store.ensures.ok
    ∙ (sym (step_first d step many few (sym c.in_ok-store.ensures.is ∙ c.if-branch.true)) ∙ ap (with_loan d step) c.self.view_is)

pub store_among-requires : goal.store_among-requires
store_among-requires c =
    let d = c.args.block in let many = c.self.inside.many in let few = c.self.inside.few.items in
    let none : kept_in d many ≡ None = none_of (kept_in d many) (sym c.in_ok-store.ensures.is ∙ c.if-branch.false) in
    subst (λ (o : Option Kept). IsStorable (loan_in o) c.args.word) (ap (kept_in d) (sym c.self.view_is) ∙ in_second d many few none) c.requires

pub returns-clause-ok : goal.returns-clause-ok
returns-clause-ok c =
    let d = c.args.block in let many = c.self.inside.many in let few = c.self.inside.few.items in
    let step = λ (loan : Loan). after_store loan c.args.word c.args.value in
    on_ok c.store_among.result _ _ c.store_among.ensures.ok
    (λ is. (λ i. c.in_ok-store.ensures.ok i ++ is i) ∙ (sym (step_second d step many few (sym c.in_ok-store.ensures.is ∙ c.if-branch.false)) ∙ ap (with_loan d step) c.self.view_is))

pub returns-clause-err : goal.returns-clause-err
returns-clause-err c =
    let d = c.args.block in let many = c.self.inside.many in
    let step = λ (loan : Loan). after_store loan c.args.word c.args.value in
    let none : kept_in d many ≡ None = none_of (kept_in d many) (sym c.in_ok-store.ensures.is ∙ c.if-branch.false) in
    on_err c.store_among.result _ _ c.store_among.ensures.err (λ is. (λ i. (c.in_ok-store.ensures.ok ∙ no_step d step many none) i ++ is i) ∙ c.self.view_is)
