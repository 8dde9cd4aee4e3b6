use Rattle.std.proofs.Common.{◌≡◌, ◌∙◌, sym, subst, refl, ℕ, List, codes}
use Rattle.ocr_run_execution.specs.declared.text.TextFault.{TextFault}
use Rattle.ocr_run.specs.Headline.{IsLine, text_refused, want_of_memory}
use Rattle.ocr_run.proofs.Told.{line_at}
use Rattle.ocr_run.proofs.top.refuse_text.Goals as goal

pub returns-in-Ok-clause-told : goal.returns-in-Ok-clause-told
returns-in-Ok-clause-told g c =
    let Found : TextFault → Type 0 = λ other. other ≡ c.args.found in (
      c.deref.result.now,
      (
        c.refuse.ensures.told,
        line_at ⊥ Found c.refuse.result.journal 3 c.refuse.result.status c.deref.result.now c.refuse.ensures.status
            (subst (λ (line : List ℕ). IsLine ⊥ Found c.refuse.result.journal 3 line) (sym (c.deref.ensures.value ∙ c.in-Ok.ensures)) (text_refused c.args.found refl)),
      ),
    )

pub returns-in-Err-clause-told : goal.returns-in-Err-clause-told
returns-in-Err-clause-told g c = (
  codes "want of memory\n",
  (
    c.refuse-in-Err.ensures.told,
    line_at ⊥ (λ other. other ≡ c.args.found) c.refuse-in-Err.result.journal 9 c.refuse-in-Err.result.status _ c.refuse-in-Err.ensures.status want_of_memory,
  ),
)
