use Rattle.std.proofs.Common.{◌∙◌, ◌<◌, ◌-◌, ◌^◌, ℕ, ap, sym, subst}
use Rattle.ocr_machine_parts.specs.Effects.{changed}
use Rattle.ocr_machine_parts.specs.Kinds.{counted_on}
use Rattle.ocr_machine_parts.specs.LegalOn.{IsLegalOn}
use Rattle.ocr_machine_parts.specs.Messages.{sends, resumes}
use Rattle.ocr_machine_parts.specs.Parts.{Parts}
use Rattle.ocr_machine_effects.specs.AtHand.{AtHand, state}
use Rattle.ocr_machine_effects.proofs.Numbered.{all_numbered, all_cover, all_stepped, all_kept, all_placed}
use Rattle.ocr_machine.proofs.steps.step_all.Goals as goal

pub enter-requires-clause-legal : goal.enter-requires-clause-legal
enter-requires-clause-legal c = rw c.whole-taken.ensures
    (subst (λ (f : Parts). IsLegalOn c.args.limit f c.args.entry.now) (sym (all_numbered c.args.limit c.args.parts.items)) c.requires.legal)

pub enter-requires-clause-covers : goal.enter-requires-clause-covers
enter-requires-clause-covers c = rw c.whole-taken.ensures (all_cover c.args.limit c.args.entry.now c.args.parts.items c.requires.all)

pub enter-requires-clause-counts : goal.enter-requires-clause-counts
enter-requires-clause-counts c = rw c.whole-taken.ensures
    (subst (λ (f : Parts). (g : ℕ) → counted_on (f.face g) < 2 ^ 64 - 1) (sym (all_numbered c.args.limit c.args.parts.items)) c.requires.counts)

pub into_whole-requires : goal.into_whole-requires
into_whole-requires c = c.in_ok-entered.ensures.parts.whole ∙ ap (λ (h : AtHand). h.whole) c.whole-taken.ensures

pub returns-clause-parts : goal.returns-clause-parts
returns-clause-parts c = all_stepped c.args.limit c.args.parts.items c.into_whole.result.items c.whole-taken.result c.enter.new.parts (changed c.args.entry.now) c.whole-taken.ensures c.in_ok-entered.ensures.parts c.into_whole.ensures

pub returns-clause-length : goal.returns-clause-length
returns-clause-length c = all_kept c.args.limit c.args.parts.items c.into_whole.result.items c.whole-taken.result c.enter.new.parts _ c.whole-taken.ensures c.in_ok-entered.ensures.parts c.into_whole.ensures

pub returns-clause-placed : goal.returns-clause-placed
returns-clause-placed c = all_placed c.args.limit c.args.parts.items c.into_whole.result.items c.whole-taken.result c.enter.new.parts _ c.whole-taken.ensures c.in_ok-entered.ensures.parts c.into_whole.ensures

pub returns-clause-messages : goal.returns-clause-messages
returns-clause-messages c =
    c.in_ok-entered.ensures.messages ∙ ap (λ (h : AtHand). sends c.args.entry.now (state h)) c.whole-taken.ensures ∙ ap (sends c.args.entry.now) (all_numbered c.args.limit c.args.parts.items)

pub returns-clause-resumed : goal.returns-clause-resumed
returns-clause-resumed c =
    c.in_ok-entered.ensures.resumed ∙ ap (λ (h : AtHand). resumes c.args.entry.now (state h)) c.whole-taken.ensures ∙ ap (resumes c.args.entry.now) (all_numbered c.args.limit c.args.parts.items)
