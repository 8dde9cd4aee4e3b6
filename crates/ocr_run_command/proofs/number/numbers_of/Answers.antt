use Rattle.std.proofs.Common.{rules, ◌≡◌, ◌∙◌, [], ◌∷◌, ◌++◌}
use Rattle.ocr_run_command.proofs.Numbers.{more_values, one_fails}
use Rattle.ocr_run_command.proofs.number.numbers_of.Goals as goal

pub loop-text-preserved : goal.loop-text-preserved
loop-text-preserved c =
    let pushed : c.push.new.self.items ≡ c.loop-text.numbers.items ++ c.in-Some.number ∷ [] = search rules in
    pushed ∙ more_values c.args.texts.now c.loop-text.text-index c.in-Some.number c.loop-text.numbers.items c.loop-text-test.true c.loop-text.invariant c.in-Some.ensures.some.1

pub unreachable-requires : goal.unreachable-requires
unreachable-requires c = one_fails c.args.texts.now c.loop-text.text-index c.loop-text-test.true c.in_default.ensures.none (c.are_numbers.ensures.0 (search rules))
