use Rattle.std.proofs.Common.{sym, subst}
use Rattle.ocr_machine_parts.specs.Effects.{called, joined}
use Rattle.ocr_machine_parts.specs.LegalOn.{IsJoinable}
use Rattle.ocr_machine_parts.specs.Parts.{Parts}
use Rattle.ocr_machine_effects.specs.AtHand.{state}
use Rattle.ocr_machine.proofs.Accepted.{joinable}
use Rattle.ocr_machine_effects.proofs.Places.{follow}
use Rattle.ocr_machine.proofs.calls.call_entry.Goals as goal

pub join_home-requires : goal.join_home-requires
join_home-requires c = λ on. subst (λ (f : Parts). IsJoinable (f.face c.args.home)) (sym c.in_ok-called.ensures.parts.state)
    (joinable c.args.parts.now c.args.edt c.args.home c.args.call.now c.args.answer.now c.args.writes.now c.requires.accepted on)

pub returns-clause-parts : goal.returns-clause-parts
returns-clause-parts c =
    follow c.args.parts.now c.call_step.new.parts c.join_home.new.parts (called c.args.edt c.args.call.now c.args.answer.now c.args.writes.now (state c.args.parts.now))
    (joined c.args.call.now c.args.home) c.in_ok-called.ensures.parts c.join_home.ensures
