use Rattle.std.proofs.Common.{◌≡◌, ◌∙◌, ap, is_some, sym, List, None, Option, Some, ℕ}
use Rattle.lru.specs.LruCache.{lru_cache}
use Rattle.ocr_datablock.specs.Lent.{after_list_writes}
use Rattle.ocr_machine_parts.specs.Loans.{kept_in}
use Rattle.ocr_machine_parts.specs.declared.loans.Kept.{Kept}
use Rattle.ocr_machine_parts.proofs.Lists.{looked_by, no_step, stepped_by}
use Rattle.ocr_machine_parts.proofs.many.list_at.Goals as goal

pub returns-in_default-clause-is : goal.returns-in_default-clause-is
returns-in_default-clause-is c =
    let cache = c.args.cache.now in
    let none : kept_in c.args.block cache.entries ≡ None = sym (looked_by c.block.inside.0 c.args.block cache.entries c.block.view_is) ∙ sym c.in_default.ensures.value in
    ap (λ (o : Option Kept). is_some o) (sym none)

pub returns-in_default-clause-state : goal.returns-in_default-clause-state
returns-in_default-clause-state c =
    let cache = c.args.cache.now in
    let none : kept_in c.args.block cache.entries ≡ None = sym (looked_by c.block.inside.0 c.args.block cache.entries c.block.view_is) ∙ sym c.in_default.ensures.value in
    ap (λ (l : List (ℕ × Kept)). lru_cache l cache.cap) (sym (no_step c.args.block after_list_writes cache.entries none))

pub returns-clause-is : goal.returns-clause-is
returns-clause-is c =
    let cache = c.args.cache.now in
    let found : kept_in c.args.block cache.entries ≡ Some c.in-Some.kept.now = sym (looked_by c.block.inside.0 c.args.block cache.entries c.block.view_is) ∙ sym c.in-Some.ensures.value in
    ap (λ (o : Option Kept). is_some o) (sym found)

pub returns-clause-state : goal.returns-clause-state
returns-clause-state c =
    let cache = c.args.cache.now in
    let found : kept_in c.args.block cache.entries ≡ Some c.in-Some.kept.now = sym (looked_by c.block.inside.0 c.args.block cache.entries c.block.view_is) ∙ sym c.in-Some.ensures.value in
    ap (λ (l : List (ℕ × Kept)). lru_cache l cache.cap) (stepped_by c.block.inside.0 c.args.block after_list_writes cache.entries c.in-Some.kept.now c.list_in.new.kept c.block.view_is found c.list_in.ensures)
