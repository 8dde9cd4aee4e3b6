use Rattle.std.proofs.Common.{List, length, subst, ap, arith}
use Rattle.std.proofs.lemmas.List.{length-map}
use Rattle.ocr_program_tree.specs.Runnable.{IsRunnable}
use Rattle.ocr_program_tree.specs.View.{function_of, functions_of}
use Rattle.ocr_program_tree.specs.declared.tree.Function.{Function}
use Rattle.ocr_program_check.specs.Check.{BreaksNoRule}
use Rattle.ocr_program_check.proofs.rules.check.Goals as goal

pub judge-requires : goal.judge-requires
judge-requires c =
    omega (arith, c.requires, length-map c.args.program.functions.items function_of, ap (λ (fs : List Function). length fs) c.deref.ensures.value)

pub new-requires : goal.new-requires
new-requires c = subst (λ (fs : List Function). IsRunnable (functions_of fs)) c.deref.ensures.value c.in_ok-judge.ensures.runnable

pub returns-clause-ok : goal.returns-clause-ok
returns-clause-ok c = subst (λ (fs : List Function). BreaksNoRule (functions_of fs)) c.deref.ensures.value c.in_ok-judge.ensures.ok
