use Rattle.std.proofs.Common.{◌≡◌, sym, ◌∙◌, ap}
use Rattle.ocr_machine_parts.specs.Kinds.{mode_on}
use Rattle.ocr_machine_state.specs.State.{core_on}
use Rattle.ocr_memory_model_order.proofs.Fronts.{some_same}
use Rattle.ocr_memory_model.proofs.Tells.{ended_is}
use Rattle.ocr_memory_model.proofs.modes.ended_mode.Goals as goal

pub returns-in-Some : goal.returns-in-Some
returns-in-Some c = λ s past of run legal b is.
    let e = c.args.entry.now in
    let here : b ≡ c.in-Some.block = some_same b c.in-Some.block (sym is ∙ sym c.given_in.ensures ∙ c.in-Some.is) in
    ended_is s past e b c.args.table.now of run legal is
    ∙ ap (λ n. mode_on (core_on c.args.table.now n) b) (sym c.edt_of.ensures)
    ∙ ap (λ n. mode_on (core_on c.args.table.now c.edt_of.result) n) here
    ∙ sym c.mode_of.ensures
