use Rattle.std.proofs.Common.{◌≡◌, ◌<◌, ◌≤◌, ◌∷◌, [], All, ℕ, zero, suc, ap, ◌∙◌, subst, sym, arith}
use Rattle.std.specs.Prelude.{Option, Some, MatchOption}
use Rattle.atomic_table.specs.Seated.{TableId}
use Rattle.ocr_turns_rule.specs.Contract.{IsOfTable}
use Rattle.ocr_turns_rule.specs.Steps.{fresh_spare}
use Rattle.ocr_turns_rule.specs.declared.view.Terms.{Terms}
use Rattle.ocr_tests_count.specs.Clerks.{CanSet, Hand}
use Rattle.ocr_tests_count.specs.declared.play.Setter.{Setter}
use Rattle.ocr_tests_count.proofs.Steps.{Sight}
use Rattle.ocr_tests_count.proofs.play.race.Goals as goal

of_some : {A : Type 0} {P : Type 0} (r : Option A) (x : A) → r ≡ Some x → MatchOption r (Unit {0}) (λ _. P) → P
of_some {P = P} r x is told = subst (λ o. MatchOption o (Unit {0}) (λ _. P)) is told

can_set : (t : TableId × Terms ℕ) (root c : Hand) (k : ℕ) → IsOfTable t root → t.1.limit ≡ 2 → t.1.share ≡ 16 → c.table ≡ root.table → c.view ≡ fresh_spare root.view → c.parts ≡ [] → 64 ≤ c.spare → k < 2 → CanSet t k c
can_set t root c k of limit share table view parts spare lt = record {
  idle = record {
    table = (table ∙ of.0, ap (λ (v : Sight). v.terms) view ∙ of.1);
    limit = limit;
    hand = parts;
    parts = ap (λ (v : Sight). v.parts) view;
    claims = ap (λ (v : Sight). v.claims) view;
    unput = ap (λ (v : Sight). v.debts.unput) view;
    put = ap (λ (v : Sight). v.debts.put) view;
    made = ap (λ (v : Sight). v.debts.made) view;
    spare = omega (arith, spare);
  };
  light = omega (arith, ap (λ (v : Sight). v.weight) view, share);
  slot = lt;
  unit = omega (arith, ap (λ (v : Sight). v.spares) view);
}

two : (P : Setter → Type 0) (a b : Setter) → P a → P b → All P (a ∷ b ∷ [])
two P a b first second zero e lt = first
two P a b first second (suc zero) e lt = second
two P a b first second (suc (suc k)) e lt = absurd (omega (arith, lt))

pub set_all-requires-after_bounds : goal.set_all-requires-after_bounds
set_all-requires-after_bounds g c κs within =
    let t = c.in_ok-turns.turns in
    let idle = c.in_ok-turns.ensures.0 in
    let share : t.1.share ≡ 16 = c.in_ok-turns.ensures.5 in
    let was = of_some c.in_ok-make.field-0 c.in-Some.field-0 c.in-Some.is c.in_ok-make.ensures.idle in
    let cut = c.in_ok-first.ensures.root in
    let one = c.in_ok-first.ensures.clerk in
    let other = c.in_ok-second.ensures.clerk in
    let of = was.0.table in
    let next : IsOfTable t c.split_live.new.root = (cut.0.0 ∙ of.0, ap (λ (v : Sight). v.terms) cut.1 ∙ of.1) in
    subst (All (λ (s : Setter). CanSet t s.slot s.clerk)) (sym c.in_ok-setters.ensures.items)
    (two (λ (s : Setter). CanSet t s.slot s.clerk) _ _
    (can_set t c.make.new.clerk c.in_ok-first.first 0 of idle.limit share one.0 one.1 one.2 one.4 (omega arith))
    (can_set t c.split_live.new.root c.in_ok-second.second 1 next idle.limit share other.0 other.1 other.2 other.4 (omega arith)))
