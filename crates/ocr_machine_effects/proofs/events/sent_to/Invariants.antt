use Rattle.std.proofs.Common.{◌≡◌, take, map}
use Rattle.ocr_guid.specs.declared.target.Target.{Target}
use Rattle.ocr_machine_parts.specs.Messages.{what_to}
use Rattle.ocr_machine_effects.proofs.events.sent_to.Given as goal

abbrev pub invariant-loop-target : goal.invariant-loop-target
invariant-loop-target l = l.messages.items ≡ map (λ (t : Target). what_to (l.payload, t)) (take l.target-index l.targets)
