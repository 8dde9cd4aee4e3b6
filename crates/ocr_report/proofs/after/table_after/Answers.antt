use Rattle.std.proofs.Common.{◌<◌, arith, take, refl, sym, subst}
use Rattle.ocr_memory_model.specs.Orders.{setting_in}
use Rattle.ocr_machine_history.specs.History.{History, history_of}
use Rattle.ocr_memory_model.specs.Orders.{IsStateOf}
use Rattle.ocr_memory_model.proofs.Entered.{may_enter, few_counted}
use Rattle.ocr_report.proofs.after.table_after.Goals as goal
use Rattle.ocr_machine_history.proofs.Fronts.{history_next}

pub loop-entry-init : goal.loop-entry-init
loop-entry-init c =
    c.in_ok-table.ensures (setting_in c.args.setting.now c.args.limit) (sym c.main_function-main.ensures) (sym c.as_slice.ensures.value) refl

pub enter-requires-clause-before : goal.enter-requires-clause-before
enter-requires-clause-before c =
    let xs = c.args.entries.now in
    let n = c.loop-entry.entry-index in (
      setting_in c.args.setting.now c.args.limit,
      history_of (take n xs),
      may_enter (setting_in c.args.setting.now c.args.limit) xs n c.entry-item.result c.loop-entry.table c.loop-entry-test.true c.entry-item.is c.requires.run c.loop-entry.invariant,
    )

pub enter-requires-clause-counts : goal.enter-requires-clause-counts
enter-requires-clause-counts c =
    let few : c.loop-entry.entry-index < 18446744073709551615 = omega (arith, c.loop-entry-test.true) in
    few_counted c.event_laws.ensures.counted (setting_in c.args.setting.now c.args.limit) c.args.entries.now c.loop-entry.entry-index c.loop-entry.table c.loop-entry-test.true few c.loop-entry.invariant

pub loop-entry-preserved : goal.loop-entry-preserved
loop-entry-preserved c =
    let s = setting_in c.args.setting.now c.args.limit in
    let xs = c.args.entries.now in
    let n = c.loop-entry.entry-index in
    let next = history_next xs n c.entry-item.result c.loop-entry-test.true c.entry-item.is in
    subst (λ (h : History). IsStateOf s h c.enter.new.self) (sym next)
    (c.in_ok-enter.ensures.table s (history_of (take n xs))
    (may_enter s xs n c.entry-item.result c.loop-entry.table c.loop-entry-test.true c.entry-item.is c.requires.run c.loop-entry.invariant))
