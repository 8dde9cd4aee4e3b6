use Rattle.std.proofs.Common.{◌∙◌, sym, ap}
use Rattle.ocr_body_code.specs.Code.{arguments_at, are_args_placed, is_placed}
use Rattle.ocr_body_code.specs.declared.code.ArgCode.{ArgCode}
use Rattle.ocr_body_code.proofs.Sides.{second_of}
use Rattle.ocr_program_tree.specs.Tree.{names_in}
use Rattle.ocr_body_code.proofs.code.ArgCode.name.Goals as goal

pub loop-args-preserved-in-Value : goal.loop-args-preserved-in-Value
loop-args-preserved-in-Value c = (
  (λ names. c.loop-args.invariant.0 names ∙ ap (λ (xs : ArgCode). names_in (arguments_at names xs)) c.in-Value.is ∙ ap (λ (xs : ArgCode). names_in (arguments_at names xs)) (sym c.deref-args.ensures)),
  (λ numbers names placed. ap (are_args_placed numbers names) c.deref-args.ensures
      ∙ second_of (is_placed numbers names c.in-Value.field-0.value) (are_args_placed numbers names c.in-Value.rest.value) (sym (ap (are_args_placed numbers names) c.in-Value.is) ∙ c.loop-args.invariant.1 numbers names placed)),
)

pub loop-args-preserved : goal.loop-args-preserved
loop-args-preserved c = (
  (λ names. c.loop-args.invariant.0 names ∙ ap (λ (xs : ArgCode). names_in (arguments_at names xs)) c.in-List.is ∙ ap (λ (xs : ArgCode). names_in (arguments_at names xs)) (sym c.deref-args-in-List.ensures)),
  (λ numbers names placed. ap (are_args_placed numbers names) c.deref-args-in-List.ensures
      ∙ second_of (are_args_placed numbers names c.in-List.field-0.value) (are_args_placed numbers names c.in-List.rest.value) (sym (ap (are_args_placed numbers names) c.in-List.is) ∙ c.loop-args.invariant.1 numbers names placed)),
)
