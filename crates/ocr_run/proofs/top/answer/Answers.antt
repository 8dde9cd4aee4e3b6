use Rattle.std.proofs.Common.{◌≡◌, ◌⊎◌, sym, subst}
use Rattle.ocr_run_command.specs.declared.wanted.Wanted.{Wanted}
use Rattle.ocr_run.specs.Headline.{IsCheck, IsComplete}
use Rattle.ocr_run.proofs.Told.{weaker_caused, checked_caused, checked_status, none_first, run_silent, checked_silent}
use Rattle.ocr_run.proofs.top.answer.Goals as goal

pub returns-in-Run-clause-caused : goal.returns-in-Run-clause-caused
returns-in-Run-clause-caused g c = weaker_caused (IsCheck c.args.wanted) c.answer_run.result.journal c.answer_run.result.status c.answer_run.ensures.caused

pub returns-in-Check-clause-caused : goal.returns-in-Check-clause-caused
returns-in-Check-clause-caused g c = checked_caused (IsCheck c.args.wanted) c.answer_check.result.journal c.answer_check.result.status (subst IsCheck (sym c.in-Check.is) tt) c.answer_check.ensures.journal c.answer_check.ensures.status

pub returns-in-Check-clause-status : goal.returns-in-Check-clause-status
returns-in-Check-clause-status g c = checked_status c.answer_check.result.status c.answer_check.ensures.status

pub returns-in-Run-clause-unrun : goal.returns-in-Run-clause-unrun
returns-in-Run-clause-unrun g c = λ run. none_first c.answer_run.result.journal _ _ c.answer_run.ensures.unrun

pub returns-in-Check-clause-unrun : goal.returns-in-Check-clause-unrun
returns-in-Check-clause-unrun g c = λ run. absurd (run (subst IsCheck (sym c.in-Check.is) tt))

pub returns-in-Run-clause-silent : goal.returns-in-Run-clause-silent
returns-in-Run-clause-silent g c = λ is.
    run_silent c.answer_run.result.journal c.answer_run.result.status _ _ _ c.answer_run.ensures.accepted c.answer_run.ensures.unrun c.answer_run.ensures.memory c.answer_run.ensures.no_program is

pub returns-in-Check-clause-silent : goal.returns-in-Check-clause-silent
returns-in-Check-clause-silent g c = λ is. checked_silent c.answer_check.result.status _ c.answer_check.ensures.status c.answer_check.ensures.silent is

pub returns-in-Run-clause-complete : goal.returns-in-Run-clause-complete
returns-in-Run-clause-complete g c = λ program is sound.
    subst (λ (w : Wanted). (c.answer_run.result.status ≡ 9) ⊎ IsComplete w c.answer_run.result.journal c.answer_run.result.status) (sym c.in-Run.is)
    (c.answer_run.ensures.complete program is sound)

pub returns-in-Check-clause-complete : goal.returns-in-Check-clause-complete
returns-in-Check-clause-complete g c = λ program is sound.
    subst (λ (w : Wanted). (c.answer_check.result.status ≡ 9) ⊎ IsComplete w c.answer_check.result.journal c.answer_check.result.status) (sym c.in-Check.is)
    (c.answer_check.ensures.complete program is sound)

pub returns-in-Load-clause-caused : goal.returns-in-Load-clause-caused
returns-in-Load-clause-caused g c = weaker_caused (IsCheck c.args.wanted) c.answer_run-in-Load.result.journal c.answer_run-in-Load.result.status c.answer_run-in-Load.ensures.caused

pub returns-in-Load-clause-unrun : goal.returns-in-Load-clause-unrun
returns-in-Load-clause-unrun g c = λ run. none_first c.answer_run-in-Load.result.journal _ _ c.answer_run-in-Load.ensures.unrun

pub returns-in-Load-clause-silent : goal.returns-in-Load-clause-silent
returns-in-Load-clause-silent g c = λ is.
    run_silent c.answer_run-in-Load.result.journal c.answer_run-in-Load.result.status _ _ _ c.answer_run-in-Load.ensures.accepted c.answer_run-in-Load.ensures.unrun c.answer_run-in-Load.ensures.memory c.answer_run-in-Load.ensures.no_program is

pub returns-in-Load-clause-complete : goal.returns-in-Load-clause-complete
returns-in-Load-clause-complete g c = λ program is sound.
    subst (λ (w : Wanted). (c.answer_run-in-Load.result.status ≡ 9) ⊎ IsComplete w c.answer_run-in-Load.result.journal c.answer_run-in-Load.result.status) (sym c.in-Load.is)
    (c.answer_run-in-Load.ensures.complete program is sound)
