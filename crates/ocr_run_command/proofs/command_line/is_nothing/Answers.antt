use Rattle.std.proofs.Common.{◌≡◌, ◌==◌, ◌∙◌, length, vec_len, true, sym, ap, rules}
use Rattle.std.specs.Prelude.{is_none}
use Rattle.ocr_run_command.specs.declared.given.Arguments.{Arguments}
use Rattle.ocr_run_command.proofs.Asked.{no_reports, nothing_kept, no_items, no_numbers}
use Rattle.ocr_run_command.proofs.command_line.is_nothing.Goals as goal

pub returns-then-eq : goal.returns-then-eq
returns-then-eq c = λ ps known gives.
    let g : Arguments = c.args.given.now in
    let workers : is_none g.workers ≡ true = search rules in
    let objects : is_none g.objects ≡ true = search rules in
    let events : is_none g.events ≡ true = search rules in
    let reports : g.reports ≡ no_reports = search rules in
    let count : vec_len g.numbers ≡ length g.numbers.items = cc in (
      λ empty. nothing_kept g ps known gives workers objects events reports (no_items g.numbers.items (ap (λ n. n == 0) (sym count) ∙ sym c.is_empty.ensures ∙ empty)),
      λ none. c.is_empty.ensures ∙ ap (λ n. n == 0) count ∙ ap (λ xs. length xs == 0) (no_numbers g ps gives none),
    )
