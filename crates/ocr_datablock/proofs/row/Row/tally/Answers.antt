use Rattle.std.specs.Prelude.{reverse}
use Rattle.ocr_datablock.proofs.Tallies.{tally_bounded}
use Rattle.ocr_datablock.proofs.row.Row.tally.Goals as goal

pub returns-clause-bounded : goal.returns-clause-bounded
returns-clause-bounded c = tally_bounded c.self.inside.tally (reverse c.self.inside.cache.entries) c.self.invariant.2
