use Rattle.ocr_edt.proofs.Holds.{rises_any, rises_filter}
use Rattle.ocr_edt.proofs.preparation.Acquiring.start.Goals as goal
use Rattle.ocr_edt.specs.Steps.{held_in}

pub begin-requires : goal.begin-requires
begin-requires c = rises_any 0 (held_in c.self.inside.entries.items) (rises_filter 0 _ c.self.inside.entries.items c.self.invariant.rising)
