use Rattle.std.proofs.Common.{◌≡◌, true, false, refl, sym, true≢false, Option, Some, None, arith, rules, ℕ}
use Rattle.std.specs.Prelude.{IfSome, IfNone, is_none}
use Rattle.ocr_run_command.proofs.Numbers.{all_read, more_numbers, one_fails}
use Rattle.ocr_run_command.proofs.number.are_numbers.Goals as goal

no_number : (o : Option ℕ) (P : Type 0) → is_none o ≡ true → IfNone o P → P
no_number None P is h = h
no_number (Some n) P is h = absurd (true≢false (sym is))

some_number : (o : Option ℕ) (P : Type 0) (Q : ℕ → Type 0) → is_none o ≡ false → IfSome o (λ n. P × Q n) → P
some_number None P Q is h = absurd (true≢false is)
some_number (Some n) P Q is h = h.0

pub returns-then-is_none : goal.returns-then-is_none
returns-then-is_none c = (
  λ is. absurd (true≢false (sym is)),
  λ all. absurd (one_fails c.args.texts.now c.loop-text.text-index c.loop-text-test.true (no_number c.number_of.result _ (search rules) c.number_of.ensures.none) all),
)

pub loop-text-preserved : goal.loop-text-preserved
loop-text-preserved c = more_numbers c.args.texts.now c.loop-text.text-index c.loop-text-test.true c.loop-text.invariant (some_number c.number_of.result _ _ (search rules) c.number_of.ensures.some)

pub returns : goal.returns
returns c = (λ _. all_read c.args.texts.now c.loop-text.text-index (omega (arith, c.loop-text-test.false)) c.loop-text.invariant, λ _. refl)
