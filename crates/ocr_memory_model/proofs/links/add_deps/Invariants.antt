use Rattle.std.proofs.Common.{◌≡◌, ◌++◌, ℕ, drop}
use Rattle.ocr_memory_model.specs.Links.{links_in}
use Rattle.ocr_memory_model_order.specs.Makers.{dep_links_at}
use Rattle.ocr_memory_model.proofs.links.add_deps.Given as goal

abbrev pub invariant-loop-k : goal.invariant-loop-k
invariant-loop-k l = (x : ℕ) → links_in l.links x ++ dep_links_at l.place l.k x (drop l.k l.deps)
    ≡ links_in l.initial.links x ++ dep_links_at l.place 0 x l.deps
