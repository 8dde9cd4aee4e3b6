use Rattle.std.proofs.Common.{◌∙◌, ap}
use Rattle.ocr_machine_parts.specs.Effects.{changed}
use Rattle.ocr_machine_parts.specs.Messages.{sends, resumes}
use Rattle.ocr_machine_parts.specs.Taken.{keys}
use Rattle.ocr_machine_effects.specs.AtHand.{AtHand, state}
use Rattle.ocr_machine_effects.proofs.Places.{step_placed, step_parts}
use Rattle.ocr_machine.proofs.steps.step.Goals as goal

pub enter-requires-clause-legal : goal.enter-requires-clause-legal
enter-requires-clause-legal c = rw c.listed-taken.ensures c.requires.legal

pub enter-requires-clause-covers : goal.enter-requires-clause-covers
enter-requires-clause-covers c = rw c.listed-taken.ensures c.requires.covers

pub enter-requires-clause-counts : goal.enter-requires-clause-counts
enter-requires-clause-counts c = rw c.listed-taken.ensures c.requires.counts

pub into_listed-requires : goal.into_listed-requires
into_listed-requires c = c.in_ok-entered.ensures.parts.whole ∙ ap (λ (h : AtHand). h.whole) c.listed-taken.ensures

pub returns-clause-parts : goal.returns-clause-parts
returns-clause-parts c = step_parts c.args.limit c.args.parts.items c.into_listed.result.items c.listed-taken.result c.enter.new.parts (changed c.args.entry.now) c.listed-taken.ensures c.in_ok-entered.ensures.parts c.into_listed.ensures

pub returns-clause-keys : goal.returns-clause-keys
returns-clause-keys c = ap keys c.into_listed.ensures ∙ c.in_ok-entered.ensures.parts.keys ∙ ap (λ (h : AtHand). keys h.items) c.listed-taken.ensures

pub returns-clause-placed : goal.returns-clause-placed
returns-clause-placed c = step_placed c.listed-taken.ensures c.in_ok-entered.ensures.parts c.into_listed.ensures

pub returns-clause-messages : goal.returns-clause-messages
returns-clause-messages c = c.in_ok-entered.ensures.messages ∙ ap (λ (h : AtHand). sends c.args.entry.now (state h)) c.listed-taken.ensures

pub returns-clause-resumed : goal.returns-clause-resumed
returns-clause-resumed c = c.in_ok-entered.ensures.resumed ∙ ap (λ (h : AtHand). resumes c.args.entry.now (state h)) c.listed-taken.ensures
