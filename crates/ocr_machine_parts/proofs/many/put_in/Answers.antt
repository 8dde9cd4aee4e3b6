use Rattle.std.proofs.Common.{◌∙◌, ap, arith, is_some, List, Option, ℕ}
use Rattle.lru.specs.LruCache.{lru_cache}
use Rattle.ocr_machine_parts.specs.declared.loans.Kept.{Kept}
use Rattle.ocr_machine_parts.proofs.Lists.{looked_by, put_by}
use Rattle.ocr_machine_parts.proofs.many.put_in.Goals as goal

pub returns-in-Ok-clause-was : goal.returns-in-Ok-clause-was
returns-in-Ok-clause-was c = c.is_some.ensures ∙ ap (λ (o : Option Kept). is_some o) (c.in-Ok.ensures.old ∙ looked_by c.block.inside.0 c.args.block c.args.cache.now.entries c.block.view_is)

pub returns-in-Ok-clause-ok : goal.returns-in-Ok-clause-ok
returns-in-Ok-clause-ok c =
    let cache = c.args.cache.now in
    c.in-Ok.ensures.entries
    ∙ ap (λ (l : List (ℕ × Kept)). lru_cache l cache.cap) (put_by c.block.inside.0 c.args.block c.args.kept cache.entries cache.cap c.block.view_is (omega (arith, c.len-count.ensures.len, c.len-count.ensures.fits, c.requires)))
