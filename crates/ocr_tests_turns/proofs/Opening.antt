-- The toy's table opens with all counters at 0.
use Rattle.std.proofs.Common.{◌≡◌, ℕ, zero, suc, ◌≤◌, List, [], ◌∷◌, ap, sym, subst, refl, arith}
use mathlib.Core.Option.{some, some-injective, some-ne-none}
use lib.ListN.{get_elem?}
use Rattle.ocr_turns_rule.specs.Contract.{OpensWith, TermsAre, faces}
use Rattle.ocr_turns_rule.specs.declared.view.Terms.{Terms}
use Rattle.ocr_tests_turns.specs.Toy.{part, meaning}

zeros : (k p x : ℕ) → get_elem? {A = ℕ × ℕ} ((1, 0) ∷ []) k ≡ some (p, x) → 0 ≡ x
zeros zero p x at = ap (λ (z : ℕ × ℕ). z.1) (some-injective (1, 0) (p, x) at)
zeros (suc k) p x at = absurd (some-ne-none (p, x) (sym at))

opens : (t : Terms ℕ) (share clerks : ℕ) → 1 ≤ share → share ≤ 16000000 → 1 ≤ clerks → clerks ≤ 128 → TermsAre t 0 2 share clerks → OpensWith meaning t ((1, 0) ∷ [])
unfolding part
opens t share clerks filled most one few are = record {
  parts = zeros;
  others = λ p none. refl;
  places = λ p there. grind (arith, there, are.limit);
  opened = ap (λ limit. faces {P = ℕ} limit ((1, 0) ∷ [])) are.limit;
  few = omega (arith, are.limit);
  limits = (omega (arith, are.limit), omega (arith, are.limit));
  share = (omega (arith, are.share), omega (arith, are.share));
  seats = (omega (arith, are.seats), omega (arith, are.seats));
}

pub opens_with : (t : Terms ℕ) (parts : List (ℕ × ℕ)) (share clerks : ℕ) → parts ≡ (1, 0) ∷ [] → 1 ≤ share → share ≤ 16000000 → 1 ≤ clerks → clerks ≤ 128 → TermsAre t 0 2 share clerks → OpensWith meaning t parts
opens_with t parts share clerks is filled most one few are = subst (OpensWith meaning t) (sym is) (opens t share clerks filled most one few are)
