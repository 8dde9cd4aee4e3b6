use Rattle.std.proofs.Common.{◌≤◌, ◌∙◌, length, sym, rules, arith}
use Rattle.std.proofs.lemmas.Result.{IfErr-weaker}
use Rattle.ocr_run_command.proofs.Asked.{unkept_run}
use Rattle.ocr_run_command.proofs.command_line.run.Goals as goal

pub returns-in_err-args-clause-memory : goal.returns-in_err-args-clause-memory
returns-in_err-args-clause-memory c =
    let few : length c.deref.result.now ≤ 32 = search (rules, arith) in
    IfErr-weaker c.from_residual.result _ _ (λ stop is e. λ ps gives.
    let kept = c.in_err-args.ensures.memory (sym is ∙ e) in
    unkept_run c.args.given.now ps c.in-Some.options c.deref.result.now gives c.deref.ensures.value (c.in-Some.ensures.some ps gives) kept.0 few kept.1) (search rules)
