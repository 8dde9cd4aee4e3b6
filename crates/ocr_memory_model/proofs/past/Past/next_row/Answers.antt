use Rattle.std.proofs.Common.{◌≡◌, ◌<◌, ◌++◌, ℕ, length, Option, sym, subst, arith}
use Rattle.std.proofs.lemmas.Result.{IfOk-weaker}
use Rattle.ocr_acquire.specs.declared.Mode.{Mode}
use Rattle.ocr_machine_history.specs.declared.entry.Entry.TheVariants.{Deliver, Acquire}
use Rattle.ocr_machine_history.specs.History.{history_of}
use Rattle.ocr_machine_parts.specs.Legal.{IsLegal}
use Rattle.ocr_memory_model_rows.specs.Order.{IsNextRow}
use Rattle.ocr_memory_model_order.specs.Causes.{last_of, causes, starting, ended_for, graph_of}
use Rattle.ocr_memory_model_order.specs.Pairs.{acquired_mode}
use Rattle.ocr_memory_model_order.specs.Places.{places}
use Rattle.ocr_memory_model_order.proofs.Forward.{message_place}
use Rattle.ocr_memory_model.proofs.Entries.{history_length}
use Rattle.ocr_memory_model.proofs.past.Past.next_row.Goals as goal

pub deliver_row-requires-clause-place : goal.deliver_row-requires-clause-place
deliver_row-requires-clause-place c =
    let s = c.requires.next.0 in
    let past = history_of c.args.entries.now in
    let legal : IsLegal s past (Deliver c.in-Deliver.message c.in-Deliver.code) = subst (IsLegal s past) c.in-Deliver.is c.requires.next.1.before.legal in
    let low : c.in-Deliver.message.place < length past = message_place s past c.in-Deliver.message c.in-Deliver.code legal in
    let l = history_length c.args.entries.now in omega (arith, low, l)

pub returns-in-Deliver : goal.returns-in-Deliver
returns-in-Deliver c = IfOk-weaker c.deliver_row.result _ _ (λ row is s next.
    subst (λ e. IsNextRow (graph_of s (history_of c.args.entries.now)) (causes s (history_of c.args.entries.now) e) row) (sym c.in-Deliver.is)
    (is s next.before.of next.told)) c.deliver_row.ensures

pub returns-in-Start : goal.returns-in-Start
returns-in-Start c = IfOk-weaker c.start_row.result _ _ (λ row is s next.
    let past = history_of c.args.entries.now in
    let edt : c.edt.inside.0 ≡ c.in-Start.edt = c.edt.view_is in
    subst (λ e. IsNextRow (graph_of s past) (causes s past e) row) (sym c.in-Start.is)
    (subst (λ (t : ℕ). IsNextRow (graph_of s past) (last_of past t ++ places (starting t) past) row) edt
    (is s past next.told))) c.start_row.ensures

pub returns-in_ok-mode-in-Acquire : goal.returns-in_ok-mode-in-Acquire
returns-in_ok-mode-in-Acquire c = IfOk-weaker c.acquire_row.result _ _ (λ row is s next.
    let past = history_of c.args.entries.now in
    let t : ℕ = c.in-Acquire.edt in
    let d : ℕ = c.in-Acquire.block in
    let m : Option Mode = c.in_ok-mode-in-Acquire.mode in
    let edt : c.edt-in-Acquire.inside.0 ≡ t = c.edt-in-Acquire.view_is in
    let block : c.block.inside.0 ≡ d = c.block.view_is in
    let legal : IsLegal s past (Acquire t d) = subst (IsLegal s past) c.in-Acquire.is next.before.legal in
    let mode : acquired_mode s d past (Acquire t d) ≡ m = subst (λ (n : ℕ). acquired_mode s d past (Acquire n d) ≡ m) edt
    (c.in_ok-mode-in-Acquire.ensures s past d next.before.of next.before.run (subst (λ (n : ℕ). IsLegal s past (Acquire n d)) (sym edt) legal)) in
    subst (λ e. IsNextRow (graph_of s past) (causes s past e) row) (sym c.in-Acquire.is)
    (subst (λ (o : Option Mode). IsNextRow (graph_of s past) (last_of past t ++ ended_for s past d o) row) (sym mode)
    (subst (λ (n : ℕ). IsNextRow (graph_of s past) (last_of past t ++ ended_for s past n m) row) block
    (subst (λ (n : ℕ). IsNextRow (graph_of s past) (last_of past n ++ ended_for s past c.block.inside.0 m) row) edt
    (is s past next.told))))) c.acquire_row.ensures
