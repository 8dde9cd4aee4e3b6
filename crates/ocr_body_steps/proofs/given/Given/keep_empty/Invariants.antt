use Rattle.std.proofs.Common.{◌≡◌}
use Rattle.ocr_body_steps.specs.Given.{given_of}
use Rattle.ocr_body_steps.proofs.given.Given.keep_empty.Given as goal

abbrev pub invariant-loop-self : goal.invariant-loop-self
invariant-loop-self l = given_of l.self ≡ given_of l.fn.self

abbrev pub decreases-loop-self : goal.decreases-loop-self
decreases-loop-self l = l.self.empty
