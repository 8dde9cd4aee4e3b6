use Rattle.std.proofs.Common.{map, List, ap, sym, ◌∙◌}
use Rattle.ocr_guid.specs.declared.target.Satisfied.{Satisfied}
use Rattle.ocr_guid.specs.declared.target.Target.{Target}
use Rattle.ocr_guid.specs.Target.{sent_by_firing}
use Rattle.ocr_machine_parts.specs.Messages.{what_to}
use Rattle.ocr_machine_effects.proofs.Links.{to_each}
use Rattle.ocr_machine_effects.proofs.Places.{ok_with}
use Rattle.ocr_machine_effects.proofs.events.set_off.Goals as goal

pub returns-in-Fired : goal.returns-in-Fired
returns-in-Fired c = ok_with c.sent_to.result c.sent_to.ensures (λ r is. is
    ∙ ap (λ (ts : List Target). map (λ (t : Target). what_to (c.args.payload, t)) ts) c.as_slice.ensures
    ∙ to_each c.args.payload c.in-Fired.targets
    ∙ ap (λ (answer : Satisfied). map what_to (sent_by_firing c.args.payload answer)) (sym c.in-Fired.is))
