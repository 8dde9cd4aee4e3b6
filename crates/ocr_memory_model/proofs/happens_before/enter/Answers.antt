use Rattle.std.proofs.Common.{arith}
use Rattle.ocr_machine_history.specs.History.{history_of}
use Rattle.ocr_memory_model_order.proofs.Graphs.{graph_length}
use Rattle.ocr_memory_model.proofs.Entries.{history_length}
use Rattle.ocr_memory_model.proofs.happens_before.enter.Goals as goal

pub next_row-requires-clause-few : goal.next_row-requires-clause-few
next_row-requires-clause-few c =
    let next = c.requires.next in
    let n = next.1.told.rows.count in
    let m = graph_length next.0 (history_of c.args.entries.now) in
    let l = history_length c.args.entries.now in
    let few = c.requires.few in omega (arith, n, m, l, few)

pub enter-requires-clause-before : goal.enter-requires-clause-before
enter-requires-clause-before c = (c.requires.next.0, history_of c.args.entries.now, c.requires.next.1.before)

pub returns-clause-table : goal.returns-clause-table
returns-clause-table c = λ s next. c.in_ok-enter.ensures.table s (history_of c.args.entries.now) next.before

pub returns-clause-past : goal.returns-clause-past
returns-clause-past c = λ s next.
    c.in_ok-note.ensures s (history_of c.args.entries.now) next.told (c.in_ok-row.ensures s next)
    (c.ended_mode-mode.ensures s (history_of c.args.entries.now) next.before.of next.before.run next.before.legal)
