use Rattle.std.proofs.Common.{◌∙◌, ap, refl}
use Rattle.std.specs.List.{flat_map}
use Rattle.ocr_machine_history.specs.Edts.{is_started}
use Rattle.ocr_machine_history.specs.History.{history_of}
use Rattle.ocr_report.specs.Edts.{kept_if}
use Rattle.ocr_report.proofs.Unstarted.{same_left}
use Rattle.ocr_report.proofs.edts.left.Goals as goal

pub returns-clause-left : goal.returns-clause-left
returns-clause-left c =
    let past = history_of c.args.entries.now in
    c.in_ok-left.ensures
    ∙ (ap (flat_map (λ t. kept_if (is_started past t) t)) (c.deref-2.ensures.value ∙ c.in_ok-edts.ensures)
    ∙ same_left past (is_started past) (λ t. refl))
