use Rattle.std.proofs.Common.{◌≡◌, ◌∙◌, false, ap, ap₂, codes, true}
use Rattle.std.proofs.lemmas.Result.{IfOk-weaker}
use Rattle.clap.specs.Words.{AddsArg, App, Rule, app_of, new_app, rule_of, with_rule}
use Rattle.clap.specs.Simple.{app_of_fields, on_top}
use Rattle.clap.specs.declared.builder.command.Command.{Command}
use Rattle.clap.specs.declared.builder.arg.Arg.{Arg}
use Rattle.ocr_run_command.proofs.reader.reader.Goals as goal

added : (old new : Command) (a : Arg) (x : App) (r : Rule) → AddsArg old a new → a.global ≡ false → rule_of a ≡ r → app_of old ≡ x → app_of new ≡ with_rule x r
added old new a x r adds local is before = adds.shape local ∙ ap₂ with_rule before is

abbrev empty : App
empty = on_top (λ s. record s { disable_help_flag = true }) (new_app (codes "ocr"))

pub returns : goal.returns
returns c =
    let start : app_of c.disable_help_flag.result ≡ empty = ap app_of_fields c.disable_help_flag.ensures ∙ ap (on_top (λ s. record s { disable_help_flag = true })) c.new.ensures.app in
    let a1 = added _ _ _ _ _ c.in_ok-arg.ensures c.option.ensures.local c.option.ensures.rule start in
    let a2 = added _ _ _ _ _ c.in_ok-arg-2.ensures c.option-2.ensures.local c.option-2.ensures.rule a1 in
    let a3 = added _ _ _ _ _ c.in_ok-arg-3.ensures c.option-3.ensures.local c.option-3.ensures.rule a2 in
    let a4 = added _ _ _ _ _ c.in_ok-arg-4.ensures c.flag.ensures.local c.flag.ensures.rule a3 in
    let a5 = added _ _ _ _ _ c.in_ok-arg-5.ensures c.flag-2.ensures.local c.flag-2.ensures.rule a4 in
    let a6 = added _ _ _ _ _ c.in_ok-arg-6.ensures c.flag-3.ensures.local c.flag-3.ensures.rule a5 in
    let a7 = added _ _ _ _ _ c.in_ok-arg-7.ensures c.flag-4.ensures.local c.flag-4.ensures.rule a6 in
    let a8 = added _ _ _ _ _ c.in_ok-arg-8.ensures c.flag-5.ensures.local c.flag-5.ensures.rule a7 in
    let a9 = added _ _ _ _ _ c.in_ok-arg-9.ensures c.flag-6.ensures.local c.flag-6.ensures.rule a8 in
    let a10 = added _ _ _ _ _ c.in_ok-arg-10.ensures c.flag-7.ensures.local c.flag-7.ensures.rule a9 in
    IfOk-weaker c.arg-11.result _ _ (λ new adds. added _ new _ _ _ adds c.numbers.ensures.local c.numbers.ensures.rule a10) c.arg-11.ensures
