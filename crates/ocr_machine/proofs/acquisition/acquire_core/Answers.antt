use Rattle.std.proofs.Common.{◌≡◌, sym, ◌∙◌, ap}
use Rattle.ocr_edt.specs.declared.Edt.{Edt}
use Rattle.ocr_edt.specs.declared.Edt.TheVariants as phase
use Rattle.ocr_machine_parts.specs.declared.loans.Kept.{Kept}
use Rattle.ocr_machine_parts.specs.declared.part.Core.{Core}
use Rattle.ocr_machine_parts.specs.Effects.{acquiring_core, acquired_edt, awoken}
use Rattle.ocr_machine_parts.specs.Progress.{core_with}
use Rattle.ocr_machine_parts.specs.Kinds.{progress_in}
use Rattle.ocr_machine_parts.specs.Loans.{kept_of, with_kept}
use Rattle.ocr_machine_effects.proofs.Places.{core_step, phase_put}
use Rattle.ocr_machine_effects.proofs.Steps.{awake_acquires}
use Rattle.ocr_machine.proofs.acquisition.acquire_core.Goals as goal

pub returns : goal.returns
returns c = λ m size words given.
    let core : Core = c.take_core-core.result in
    let held : Core = c.put_kept.new.self in
    let kept : held ≡ core_with core core.edt (with_kept c.args.block (kept_of m size words) core.loans) =
    c.in_ok-put_kept.ensures.ok ∙ ap (λ (k : Kept). core_with core core.edt (with_kept c.args.block k core.loans)) given in
    let same : held.edt ≡ core.edt = ap (λ (x : Core). x.edt) kept in
    let was : c.take_edt.result ≡ core.edt = c.take_edt.ensures.was ∙ same in
    let changed : phase.Acquiring c.acquired.result ≡ acquired_edt (awoken core.edt) =
    ap phase.Acquiring c.acquired.ensures ∙ sym (awake_acquires core.edt c.awake-acquiring.result (ap progress_in (sym was) ∙ c.awake-acquiring.ensures)) in
    core_step c.args.parts.now c.take_core-core.new.self c.put_core.new.self c.args.edt core c.put_edt.new.self (acquiring_core c.args.block m size words) c.take_core-core.ensures.left c.put_core.ensures c.take_core-core.ensures.was
    (phase_put held c.take_edt.new.self c.put_edt.new.self (phase.Acquiring c.acquired.result) c.take_edt.ensures.rest c.put_edt.ensures
    ∙ ap (λ (e : Edt). core_with held e held.loans) changed ∙ ap (λ (x : Core). core_with x (acquired_edt (awoken core.edt)) x.loans) kept)
