use Rattle.std.proofs.Common.{◌≡◌, take}
use Rattle.std.specs.List.{flat_map}
use Rattle.ocr_machine_history.specs.Edts.{is_started}
use Rattle.ocr_machine_history.specs.History.{history_of}
use Rattle.ocr_report.specs.Edts.{kept_if}
use Rattle.ocr_report.proofs.edts.unstarted.Given as goal

abbrev pub invariant-loop-edt : goal.invariant-loop-edt
invariant-loop-edt l =
    l.left.items ≡ flat_map (λ t. kept_if (is_started (history_of l.entries) t) t) (take l.edt-index l.edts)
