use Rattle.std.proofs.Common.{◌≡◌, sym, ◌∙◌, ap}
use Rattle.ocr_edt.specs.declared.Edt.{Edt}
use Rattle.ocr_edt.specs.declared.Edt.TheVariants as phase
use Rattle.ocr_machine_parts.specs.Kinds.{progress_in}
use Rattle.ocr_machine_parts.specs.Effects.{stale_edt, awoken}
use Rattle.ocr_machine_parts.specs.Progress.{core_with, with_phase}
use Rattle.ocr_machine_effects.proofs.Places.{core_step, phase_put}
use Rattle.ocr_machine_effects.proofs.Steps.{awake_passes}
use Rattle.ocr_machine.proofs.acquisition.pass_by.Goals as goal

pub returns : goal.returns
returns c =
    let core = c.take_core-core.result in
    let changed : phase.Acquiring c.acquired.result ≡ stale_edt (awoken core.edt) =
    ap phase.Acquiring c.acquired.ensures ∙ sym (awake_passes core.edt c.awake-acquiring.result (ap progress_in (sym c.take_edt.ensures.was) ∙ c.awake-acquiring.ensures)) in
    core_step c.args.parts.now c.take_core-core.new.self c.put_core.new.self c.args.edt core c.put_edt.new.self (with_phase (λ (e : Edt). stale_edt (awoken e))) c.take_core-core.ensures.left c.put_core.ensures c.take_core-core.ensures.was
    (phase_put core c.take_edt.new.self c.put_edt.new.self (phase.Acquiring c.acquired.result) c.take_edt.ensures.rest c.put_edt.ensures ∙ ap (λ (e : Edt). core_with core e core.loans) changed)
