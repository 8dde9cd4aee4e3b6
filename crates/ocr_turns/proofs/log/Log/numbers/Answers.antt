use Rattle.std.proofs.Common.{◌∙◌, sym, ap}
use Rattle.ocr_turns_rule.specs.Sums.{keys}
use Rattle.ocr_turns.proofs.Logs.{keys_zip}
use Rattle.ocr_turns.proofs.log.Log.numbers.Goals as goal

pub returns : goal.returns
returns g c = c.as_slice.ensures.value ∙ (sym (keys_zip c.self.inside.numbers.items c.self.inside.entries.items c.self.invariant) ∙ ap (λ x. keys x.items) c.self.view_is)
