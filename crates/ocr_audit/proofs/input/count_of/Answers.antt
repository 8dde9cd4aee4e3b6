use Rattle.std.proofs.Common.{arith, refl, sym, ◌∙◌, ◌≡◌, true, false}
use Rattle.ocr_audit.proofs.Header.{no_count, not_plain, too_many, some_count}
use Rattle.ocr_audit.proofs.input.count_of.Goals as goal

pub returns-then-not-is_plain : goal.returns-then-not-is_plain
returns-then-not-is_plain c = no_count _ _ refl (not_plain _ (λ plain. let is : true ≡ false = sym (c.is_plain.ensures.1 plain) ∙ c.if-not-is_plain.true in cc))

pub returns-in_err-value : goal.returns-in_err-value
returns-in_err-value c = no_count _ _ c.from_residual.ensures (too_many _ (omega (arith, c.in_err-value.ensures.none)))

pub returns-then-value : goal.returns-then-value
returns-then-value c = no_count _ _ refl (too_many _ (omega (arith, c.in_ok-value.ensures.some, c.if-value.true)))

pub returns : goal.returns
returns c = some_count _ _ c.requires (c.if-not-is_plain.ensures.0 refl) c.in_ok-value.ensures.some (omega (arith, c.if-value.false))
