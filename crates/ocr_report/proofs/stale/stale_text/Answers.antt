use Rattle.std.proofs.Common.{◌∙◌, ap, length, subst, sym, codes}
use Rattle.ocr_machine_history.specs.History.{history_of}
use Rattle.ocr_machine_history.specs.Stale.{stale_uses}
use Rattle.ocr_machine_parts.specs.Legal.{IsRun}
use Rattle.ocr_report.specs.Headed.{headed}
use Rattle.ocr_report.specs.Stale.{stale_text}
use Rattle.ocr_report.proofs.Doomed.{run_text}
use Rattle.ocr_report.proofs.stale.stale_text.Goals as goal

pub returns-clause-run : goal.returns-clause-run
returns-clause-run c s run =
    let past = history_of c.entries-entries.result.now in
    c.in_ok-text.ensures
    ∙ ap (λ n. headed (codes "stale") n c.deref.result.now) c.stale_count.ensures
    ∙ ap (headed (codes "stale") (length (stale_uses past))) (c.deref.ensures.value ∙ c.in_ok-lines.ensures)
    ∙ run_text s past (subst (λ entries. IsRun s (history_of entries)) (sym c.entries-entries.ensures) run)
    ∙ ap (λ entries. stale_text s (history_of entries)) c.entries-entries.ensures
