use Rattle.std.proofs.Common.{◌≡◌, ◌∙◌, ap, refl}
use Rattle.ocr_edt.specs.declared.Edt.{Edt}
use Rattle.ocr_edt.specs.declared.Edt.TheVariants as phase
use Rattle.ocr_machine_parts.specs.Effects.{ended_edt}
use Rattle.ocr_machine_parts.specs.Progress.{core_with, with_phase}
use Rattle.ocr_machine_effects.proofs.Places.{core_step, phase_put}
use Rattle.ocr_machine_effects.proofs.holds.end_core.Goals as goal

pub returns-clause-parts : goal.returns-clause-parts
returns-clause-parts c =
    let core = c.take_core-core.result in
    let changed : phase.Ended c.end.result ≡ ended_edt core.edt = rw (← c.take_edt.ensures.was, c.in-Running.is, c.end.ensures) refl in
    core_step c.args.parts.now c.take_core-core.new.self c.put_core.new.self c.args.edt core c.put_edt.new.self (with_phase ended_edt) c.take_core-core.ensures.left c.put_core.ensures c.take_core-core.ensures.was
    (phase_put core c.take_edt.new.self c.put_edt.new.self (phase.Ended c.end.result) c.take_edt.ensures.rest c.put_edt.ensures ∙ ap (λ (e : Edt). core_with core e core.loans) changed)
