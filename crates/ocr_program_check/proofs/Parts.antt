-- One part after another: the rule of the first that breaks one.
use Rattle.std.proofs.Common.{◌≡◌, ℕ, Option, None, Some, ap, ◌∙◌}
use Rattle.std.specs.Option.{option_or}

pub or_both : (a b : Option ℕ) → a ≡ None → b ≡ None → option_or a b ≡ None
or_both a b p q = ap (λ (o : Option ℕ). option_or o b) p ∙ q

pub or_first : (a b : Option ℕ) (r : ℕ) → a ≡ Some r → option_or a b ≡ Some r
or_first a b r p = ap (λ (o : Option ℕ). option_or o b) p

pub or_second : (a b : Option ℕ) (r : ℕ) → a ≡ None → b ≡ Some r → option_or a b ≡ Some r
or_second a b r p q = ap (λ (o : Option ℕ). option_or o b) p ∙ q

-- after a part that breaks no rule come the others
pub or_of_none : (a b : Option ℕ) → a ≡ None → option_or a b ≡ b
or_of_none a b p = ap (λ (o : Option ℕ). option_or o b) p
