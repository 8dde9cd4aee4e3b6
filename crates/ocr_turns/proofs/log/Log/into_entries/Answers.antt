use Rattle.std.proofs.Common.{◌∙◌, sym, ap}
use Rattle.ocr_turns_rule.specs.Sums.{entries}
use Rattle.ocr_turns.proofs.Logs.{entries_zip}
use Rattle.ocr_turns.proofs.log.Log.into_entries.Goals as goal

pub returns : goal.returns
returns g c = sym (entries_zip c.self.inside.numbers.items c.self.inside.entries.items c.self.invariant) ∙ ap (λ x. entries x.items) c.self.view_is
