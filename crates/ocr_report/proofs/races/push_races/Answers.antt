use Rattle.std.proofs.Common.{◌++◌, List, length, Err, sym, ap, ◌∙◌}
use Rattle.std.proofs.lemmas.List.{length-reverse}
use Rattle.ocr_memory_model.specs.Orders.{setting_in}
use Rattle.ocr_machine_history.specs.declared.entry.Entry.{Entry}
use Rattle.ocr_machine_history.specs.History.{history_of}
use Rattle.ocr_report.specs.Races.{races_told, races_unknown, told, unknown}
use Rattle.ocr_report.proofs.RacesText.{few_past, many_past}
use Rattle.ocr_report.proofs.races.push_races.Goals as goal

pub returns-in_ok-push_told-in-Ok : goal.returns-in_ok-push_told-in-Ok
returns-in_ok-push_told-in-Ok c =
    let found = c.in_ok-push_told-in-Ok.ensures (setting_in c.args.setting.now c.args.limit) c.in-Ok.ensures.orders in
    (races_told found.0, told found.0 (few_past c.args.journal.now (λ many. cc (c.in-Ok.ensures.too_long.1 many))) found.1, found.2)

pub returns-in_ok-push_unknown-in-Err-TooLong : goal.returns-in_ok-push_unknown-in-Err-TooLong
returns-in_ok-push_unknown-in-Err-TooLong c =
    let J = c.args.journal.now in (
      races_unknown (length (history_of J)),
      unknown (many_past J (c.in-Err-TooLong.ensures.too_long.0 (ap Err c.in-Err-TooLong.field-0-is))),
      c.in_ok-push_unknown-in-Err-TooLong.ensures
          ∙ ap (λ n. c.args.text.now.items ++ races_unknown n) (ap (λ (xs : List Entry). length xs) c.entries.ensures ∙ sym (length-reverse J)),
    )
