use Rattle.std.proofs.Common.{◌<◌, arith, length, take, refl, sym, subst}
use Rattle.ocr_worker_machine.specs.Ocr.{setting_in}
use Rattle.ocr_machine_history.specs.History.{History, history_of}
use Rattle.ocr_machine_history.proofs.Fronts.{history_next}
use Rattle.ocr_machine_state.specs.State.{IsStateOf}
use Rattle.ocr_memory_model.specs.Past.{IsPast, IsNext}
use Rattle.ocr_memory_model.proofs.Entered.{may_enter, few_counted}
use Rattle.ocr_memory_model.proofs.happens_before.past_after.Goals as goal

pub loop-place-init : goal.loop-place-init
loop-place-init c = record {
  table = c.in_ok-table.ensures (setting_in c.args.setting.now c.args.limit) (sym c.main_function-main.ensures) (sym c.as_slice.ensures.value) refl;
  past = c.new-past.ensures (setting_in c.args.setting.now c.args.limit);
}

pub enter-requires-clause-next : goal.enter-requires-clause-next
enter-requires-clause-next c =
    let s = setting_in c.args.setting.now c.args.limit in
    let xs = c.args.entries.now in
    let below : c.loop-place.place < length xs = omega (arith, c.loop-place-test.true) in (
      s,
      record {
        before = may_enter s xs c.loop-place.place c.index-entries-place.result c.loop-place.table below c.index-entries-place.is c.requires.run c.loop-place.invariant.table;
        told = c.loop-place.invariant.past;
      },
    )

pub enter-requires-clause-counts : goal.enter-requires-clause-counts
enter-requires-clause-counts c =
    let xs = c.args.entries.now in
    let below : c.loop-place.place < length xs = omega (arith, c.loop-place-test.true) in
    let most = c.requires.few in
    let few : c.loop-place.place < 18446744073709551615 = omega (arith, below, most) in
    few_counted c.event_laws.ensures.counted (setting_in c.args.setting.now c.args.limit) xs c.loop-place.place c.loop-place.table below few c.loop-place.invariant.table

pub loop-place-preserved : goal.loop-place-preserved
loop-place-preserved c =
    let s = setting_in c.args.setting.now c.args.limit in
    let xs = c.args.entries.now in
    let n = c.loop-place.place in
    let e = c.index-entries-place.result in
    let below : n < length xs = omega (arith, c.loop-place-test.true) in
    let ahead : IsNext s (history_of (take n xs)) e c.loop-place.table c.loop-place.past = record {
      before = may_enter s xs n e c.loop-place.table below c.index-entries-place.is c.requires.run c.loop-place.invariant.table;
      told = c.loop-place.invariant.past;
    } in
    let next = history_next xs n e below c.index-entries-place.is in record {
      table = subst (λ (h : History). IsStateOf s h c.enter.new.table) (sym next) (c.in_ok-enter.ensures.table s ahead);
      past = subst (λ (h : History). IsPast s h c.enter.new.past) (sym next) (c.in_ok-enter.ensures.past s ahead);
    }
