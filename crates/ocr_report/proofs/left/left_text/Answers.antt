use Rattle.std.proofs.Common.{◌∙◌, ap, sym, length, codes}
use Rattle.ocr_machine_history.specs.History.{History, history_of}
use Rattle.ocr_machine_history.specs.Output.{left_edts}
use Rattle.ocr_machine_parts.specs.Calls.{open_slots}
use Rattle.ocr_report.specs.Headed.{headed}
use Rattle.ocr_report.specs.Left.{left_lines, left_text}
use Rattle.ocr_report.specs.Open.{open_in}
use Rattle.ocr_report.proofs.Opened.{open_same, lines_same}
use Rattle.ocr_report.proofs.left.left_text.Goals as goal

pub returns : goal.returns
returns c s =
    let past : History = history_of c.entries-entries.result.now in
    let same = open_same s past c.in_ok-counts.counts c.in_ok-sets.sets (c.in_ok-counts.ensures s) c.in_ok-sets.ensures in
    let lines =
    c.deref-2.ensures.value ∙ c.in_ok-lines.ensures
    ∙ ap (left_lines (open_in c.in_ok-counts.counts c.in_ok-sets.sets)) (c.deref.ensures.value ∙ c.in_ok-edts.ensures.left)
    ∙ lines_same (open_in c.in_ok-counts.counts c.in_ok-sets.sets) (open_slots s past) same (left_edts past) in
    c.in_ok-text.ensures
    ∙ ap (λ n. headed (codes "left") n c.deref-2.result.now) (c.len.ensures ∙ sym c.deref.ensures.len ∙ ap length (c.deref.ensures.value ∙ c.in_ok-edts.ensures.left))
    ∙ ap (headed (codes "left") (length (left_edts past))) lines
    ∙ ap (λ entries. left_text s (history_of entries)) c.entries-entries.ensures
