use Rattle.std.proofs.Common.{◌∙◌, ap, sym, take}
use Rattle.ocr_machine_history.proofs.Fronts.{history_next}
use Rattle.ocr_machine_history.specs.History.{History, history_of}
use Rattle.ocr_snapshot.specs.Contents.{words_in, words_after}
use Rattle.ocr_snapshot.proofs.Steps.{words_step}
use Rattle.ocr_snapshot.proofs.contents.contents_at.Goals as goal

pub loop-entry-preserved : goal.loop-entry-preserved
loop-entry-preserved c s same =
    let xs = c.front-entered.result.now in
    let n = c.loop-entry.entry-index in
    let e = c.entry-item.result in
    c.in_ok-words-2.ensures
    ∙ ap (words_after e c.args.block) (c.loop-entry.invariant s same)
    ∙ sym (words_step s (history_of (take n xs)) e c.args.block)
    ∙ ap (λ (past : History). words_in s past c.args.block) (sym (history_next xs n e c.loop-entry-test.true c.entry-item.is))
