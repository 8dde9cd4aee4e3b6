use Rattle.std.proofs.Common.{◌∙◌, sym, subst, rules}
use Rattle.std.specs.Prelude.{IfOk}
use Rattle.std.proofs.lemmas.Result.{IfErr-weaker, IfOk-weaker}
use Rattle.ocr_run_command.specs.Form.{texts_of}
use Rattle.ocr_run_command.specs.Wanted.{Asks, IsAsked}
use Rattle.ocr_run_command.proofs.Asked.{no_line, no_command, some_command, asked_law}
use Rattle.ocr_run_command.proofs.command_line.command.Goals as goal

pub returns-in_err-given-in-run-clause-refused : goal.returns-in_err-given-in-run-clause-refused
returns-in_err-given-in-run-clause-refused c =
    IfErr-weaker c.from_residual.result _ _ (λ stop is e. no_line _ (c.in_err-given-in-run.ensures.refused (sym is ∙ e))) (search rules)

pub returns-in_err-given-in-check-clause-refused : goal.returns-in_err-given-in-check-clause-refused
returns-in_err-given-in-check-clause-refused c =
    IfErr-weaker c.from_residual-in_err-given-in-check.result _ _ (λ stop is e. no_line _ (c.in_err-given-in-check.ensures.refused (sym is ∙ e))) (search rules)

pub returns-in_err-given-in-load-clause-refused : goal.returns-in_err-given-in-load-clause-refused
returns-in_err-given-in-load-clause-refused c =
    IfErr-weaker c.from_residual-in_err-given-in-load.result _ _ (λ stop is e. no_line _ (c.in_err-given-in-load.ensures.refused (sym is ∙ e))) (search rules)

pub returns-in_ok-given-in-run-clause-refused : goal.returns-in_ok-given-in-run-clause-refused
returns-in_ok-given-in-run-clause-refused c = IfErr-weaker c.run.result _ _ (λ stop h e. no_command c.args.words.now c.in-Some.command.now _ c.in-Some.ensures.value c.in_ok-given-in-run.ensures.every
    (λ ps known gives w asks. h e ps gives w (subst (λ x. Asks x ps w) (sym c.as_str.ensures.value ∙ c.in-run.is) asks))) c.run.ensures.refused

pub returns-in_ok-given-in-check-clause-refused : goal.returns-in_ok-given-in-check-clause-refused
returns-in_ok-given-in-check-clause-refused c = IfErr-weaker c.check.result _ _ (λ stop h e. no_command c.args.words.now c.in-Some.command.now _ c.in-Some.ensures.value c.in_ok-given-in-check.ensures.every
    (λ ps known gives w asks. h.1 ps known gives w (subst (λ x. Asks x ps w) (sym c.as_str.ensures.value ∙ c.in-check.is) asks))) c.check.ensures.refused

pub returns-in_ok-given-in-load-clause-refused : goal.returns-in_ok-given-in-load-clause-refused
returns-in_ok-given-in-load-clause-refused c = IfErr-weaker c.load.result _ _ (λ stop h e. no_command c.args.words.now c.in-Some.command.now _ c.in-Some.ensures.value c.in_ok-given-in-load.ensures.every
    (λ ps known gives w asks. h.1 ps gives w (subst (λ x. Asks x ps w) (sym c.as_str.ensures.value ∙ c.in-load.is) asks))) c.load.ensures.refused

pub returns-in_ok-given-in-run-clause-only : goal.returns-in_ok-given-in-run-clause-only
returns-in_ok-given-in-run-clause-only c =
    let asked : IfOk c.run.result (IsAsked (texts_of c.args.words.now)) = IfOk-weaker c.run.result _ _ (λ w h. some_command c.args.words.now c.in-Some.command.now _ w c.in-Some.ensures.value c.in_ok-given-in-run.ensures.line
    (λ ps known gives. subst (λ x. Asks x ps w) (sym (sym c.as_str.ensures.value ∙ c.in-run.is)) (h ps gives))) c.run.ensures.ok in
    IfOk-weaker c.run.result _ _ (λ w is other asks. asked_law (texts_of c.args.words.now) other w asks is) asked

pub returns-in_ok-given-in-check-clause-ok : goal.returns-in_ok-given-in-check-clause-ok
returns-in_ok-given-in-check-clause-ok c = IfOk-weaker c.check.result _ _ (λ w h. some_command c.args.words.now c.in-Some.command.now _ w c.in-Some.ensures.value c.in_ok-given-in-check.ensures.line
    (λ ps known gives. subst (λ x. Asks x ps w) (sym (sym c.as_str.ensures.value ∙ c.in-check.is)) (h ps known gives))) c.check.ensures.ok

pub returns-in_ok-given-in-check-clause-only : goal.returns-in_ok-given-in-check-clause-only
returns-in_ok-given-in-check-clause-only c =
    let asked : IfOk c.check.result (IsAsked (texts_of c.args.words.now)) = IfOk-weaker c.check.result _ _ (λ w h. some_command c.args.words.now c.in-Some.command.now _ w c.in-Some.ensures.value c.in_ok-given-in-check.ensures.line
    (λ ps known gives. subst (λ x. Asks x ps w) (sym (sym c.as_str.ensures.value ∙ c.in-check.is)) (h ps known gives))) c.check.ensures.ok in
    IfOk-weaker c.check.result _ _ (λ w is other asks. asked_law (texts_of c.args.words.now) other w asks is) asked

pub returns-in_ok-given-in-load-clause-only : goal.returns-in_ok-given-in-load-clause-only
returns-in_ok-given-in-load-clause-only c =
    let asked : IfOk c.load.result (IsAsked (texts_of c.args.words.now)) = IfOk-weaker c.load.result _ _ (λ w h. some_command c.args.words.now c.in-Some.command.now _ w c.in-Some.ensures.value c.in_ok-given-in-load.ensures.line
    (λ ps known gives. subst (λ x. Asks x ps w) (sym (sym c.as_str.ensures.value ∙ c.in-load.is)) (h ps gives))) c.load.ensures.ok in
    IfOk-weaker c.load.result _ _ (λ w is other asks. asked_law (texts_of c.args.words.now) other w asks is) asked
