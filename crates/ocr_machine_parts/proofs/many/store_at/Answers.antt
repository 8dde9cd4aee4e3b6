use Rattle.std.proofs.Common.{◌≡◌, ◌∙◌, ap, is_some, nat_eq, subst, sym, Err, IfSome, List, None, Ok, Option, Result, Some, ℕ}
use Rattle.std.specs.Map.{set_value}
use Rattle.std.specs.Prelude.{OnErr}
use Rattle.std.proofs.lemmas.Map.Steps.{set_value_same}
use Rattle.lru.specs.LruCache.{lru_cache}
use Rattle.ocr_datablock.specs.Lent.{Loan, after_store}
use Rattle.ocr_machine_parts.specs.Loans.{IsStorable, kept_in}
use Rattle.ocr_machine_parts.specs.declared.loans.Kept.{Kept}
use Rattle.ocr_machine_parts.proofs.Lists.{looked_by, no_step, stepped_by}
use Rattle.ocr_machine_parts.proofs.many.store_at.Goals as goal

on_err : {A E : Type 0} (r : Result A E) (P : Type 0) → P → OnErr r P
on_err (Ok a) P p = tt
on_err (Err e) P p = p

pub returns-in_default-clause-is : goal.returns-in_default-clause-is
returns-in_default-clause-is c =
    let cache = c.args.cache.now in
    let none : kept_in c.args.block cache.entries ≡ None = sym (looked_by c.block.inside.0 c.args.block cache.entries c.block.view_is) ∙ sym c.in_default.ensures.value in
    ap (λ (o : Option Kept). is_some o) (sym none)

pub returns-in_default-clause-ok : goal.returns-in_default-clause-ok
returns-in_default-clause-ok c =
    let cache = c.args.cache.now in
    let none : kept_in c.args.block cache.entries ≡ None = sym (looked_by c.block.inside.0 c.args.block cache.entries c.block.view_is) ∙ sym c.in_default.ensures.value in
    ap (λ (l : List (ℕ × Kept)). lru_cache l cache.cap) (sym (no_step c.args.block (λ (loan : Loan). after_store loan c.args.word c.args.value) cache.entries none))

pub store_in-requires : goal.store_in-requires
store_in-requires c =
    let cache = c.args.cache.now in
    let found : kept_in c.args.block cache.entries ≡ Some c.in-Some.kept.now = sym (looked_by c.block.inside.0 c.args.block cache.entries c.block.view_is) ∙ sym c.in-Some.ensures.value in
    subst (λ (o : Option Kept). IfSome o (λ k. IsStorable k.loan c.args.word)) found c.requires

pub returns-in_err-store_in-clause-err : goal.returns-in_err-store_in-clause-err
returns-in_err-store_in-clause-err c =
    let cache = c.args.cache.now in
    on_err c.from_residual.result _ (ap (λ (l : List (ℕ × Kept)). lru_cache l cache.cap)
    (ap (λ (k : Kept). set_value (nat_eq c.block.inside.0) cache.entries k) c.in_err-store_in.ensures.err ∙ set_value_same (nat_eq c.block.inside.0) cache.entries c.in-Some.kept.now (sym c.in-Some.ensures.value)))

pub returns-clause-is : goal.returns-clause-is
returns-clause-is c =
    let cache = c.args.cache.now in
    let found : kept_in c.args.block cache.entries ≡ Some c.in-Some.kept.now = sym (looked_by c.block.inside.0 c.args.block cache.entries c.block.view_is) ∙ sym c.in-Some.ensures.value in
    ap (λ (o : Option Kept). is_some o) (sym found)

pub returns-clause-ok : goal.returns-clause-ok
returns-clause-ok c =
    let cache = c.args.cache.now in
    let found : kept_in c.args.block cache.entries ≡ Some c.in-Some.kept.now = sym (looked_by c.block.inside.0 c.args.block cache.entries c.block.view_is) ∙ sym c.in-Some.ensures.value in
    ap (λ (l : List (ℕ × Kept)). lru_cache l cache.cap)
    (stepped_by c.block.inside.0 c.args.block (λ (loan : Loan). after_store loan c.args.word c.args.value) cache.entries c.in-Some.kept.now c.store_in.new.kept c.block.view_is found c.in_ok-store_in.ensures.ok)
