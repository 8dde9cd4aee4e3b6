use Rattle.std.proofs.Common.{◌≡◌, ◌++◌, ◌∙◌, ℕ, List, IfOk, subst, codes}
use Rattle.std.specs.Fmt.{decimal}
use Rattle.ocr_run_execution.proofs.lines.line_of_breach.Goals as goal

pub returns : goal.returns
returns c =
    subst (λ (end : List ℕ). IfOk c.joined.result (λ line. line.items ≡ codes "check fault: rule " ++ (decimal c.args.breach.rule ++ end))) (c.deref.ensures.value ∙ c.in_ok-end.ensures) c.joined.ensures
