use Rattle.std.proofs.Common.{◌≡◌, ◌++◌, drop}
use Rattle.std.specs.List.{zip}
use Rattle.ocr_memory_model_order.specs.Makers.{matched}
use Rattle.ocr_memory_model.proofs.links.matches.Given as goal

abbrev pub invariant-loop-i : goal.invariant-loop-i
invariant-loop-i l = l.places.items ++ matched l.message (zip (drop l.i l.satisfactions) (drop l.i l.links))
    ≡ matched l.message (zip l.satisfactions l.links)
