use Rattle.std.proofs.Common.{◌≡◌, ◌<◌, List, length, take, subst, sym, arith, length-take}
use Rattle.std.specs.Prelude.{Option}
use Rattle.std.proofs.lemmas.List.{length-reverse}
use Rattle.ocr_machine_history.specs.declared.entry.Entry.{Entry}
use Rattle.ocr_machine_history.specs.History.{History, history_of}
use Rattle.ocr_report.specs.Ends.{AreEnds, is_ended}
use Rattle.ocr_report.specs.Destroyed.{told_lines}
use Rattle.ocr_report.specs.declared.tallies.Tally.{Tally}
use Rattle.ocr_report.specs.Tallies.{IsCountable, tally_in}
use Rattle.ocr_report.proofs.Tallied.{ended_law, few_counted}
use Rattle.ocr_report.proofs.Uses.{lines_next}
use Rattle.ocr_report.proofs.stale.stale_lines.Goals as goal
use Rattle.ocr_machine_history.proofs.Fronts.{history_next}

pub loop-entry-preserved : goal.loop-entry-preserved
loop-entry-preserved c =
    let past : History = history_of (take c.loop-entry.entry-index c.args.entries.now) in
    let next = history_next c.args.entries.now c.loop-entry.entry-index c.entry-item.result c.loop-entry-test.true c.entry-item.is in
    record {
      lines = subst (λ (h : History). c.stale_line.new.text.items ≡ told_lines h) (sym next)
          (lines_next past c.entry-item.result (is_ended c.loop-entry.ends) c.loop-entry.lines.items c.stale_line.new.text.items
          (ended_law past c.loop-entry.ends c.loop-entry.invariant.ends) c.loop-entry.invariant.lines c.in_ok-stale_line.ensures);
      ends = subst (λ (h : History). AreEnds h c.note.new.self) (sym next)
          (c.in_ok-note.ensures past c.loop-entry.invariant.ends);
    }

pub note-requires : goal.note-requires
note-requires c =
    let xs : List Entry = c.args.entries.now in
    let past : History = history_of (take c.loop-entry.entry-index xs) in
    let short : length past < 18446744073709551615 =
    omega (arith, length-reverse (take c.loop-entry.entry-index xs), length-take c.loop-entry.entry-index xs, c.loop-entry-test.true) in
    record {
      countable = λ g. subst (λ (t : Option Tally). IsCountable (tally_in t)) (sym (c.loop-entry.invariant.ends.tallies g))
          (few_counted past g short);
    }
