use Rattle.ocr_edt.proofs.Made.{rises_made}
use Rattle.ocr_edt.proofs.Steps.{least_bounds}
use Rattle.ocr_edt.proofs.execution.Running.least_held.Goals as goal
use Rattle.ocr_edt.specs.Steps.{held_in, with_made}

pub returns-clause-least : goal.returns-clause-least
returns-clause-least c = rw (c.least_of_both.ensures, c.as_slice.ensures, ← c.self.view_is)
    (least_bounds (with_made c.self.inside.made.keys (held_in c.self.inside.entries.items))
    (rises_made c.self.inside.made.keys (held_in c.self.inside.entries.items) c.self.invariant))
