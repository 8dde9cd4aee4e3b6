use Rattle.std.proofs.Common.{◌∙◌, ap, List, ℕ}
use Rattle.lru.specs.LruCache.{lru_cache}
use Rattle.ocr_machine_parts.specs.Loans.{without_kept}
use Rattle.ocr_machine_parts.specs.declared.loans.Kept.{Kept}
use Rattle.ocr_machine_parts.proofs.Lists.{looked_by, removed}
use Rattle.ocr_machine_parts.proofs.many.take_in.Goals as goal

pub returns-clause-kept : goal.returns-clause-kept
returns-clause-kept c = c.pop.ensures.value ∙ looked_by c.block.inside.0 c.args.block c.args.cache.now.entries c.block.view_is

pub returns-clause-left : goal.returns-clause-left
returns-clause-left c =
    let cache = c.args.cache.now in
    c.pop.ensures.entries ∙ ap (λ (l : List (ℕ × Kept)). lru_cache l cache.cap) (removed c.block.inside.0 cache.entries ∙ ap (λ (b : ℕ). without_kept b cache.entries) c.block.view_is)
