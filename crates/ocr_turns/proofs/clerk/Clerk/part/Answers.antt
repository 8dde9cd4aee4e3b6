use Rattle.std.proofs.Common.{sym, ap, subst, ◌∙◌, ◌≡◌, ◌<◌, arith, length, Some, None, Option, ℕ}
use mathlib.Core.Option.{some-injective}
use Rattle.atomic_table.proofs.Lists.{at_index}
use Rattle.ocr_turns_rule.specs.Clerks.{IsFirst}
use Rattle.ocr_turns_rule.specs.Sums.{find}
use Rattle.ocr_turns_rule.proofs.Numbered.{find_first}
use Rattle.ocr_turns.proofs.clerk.Clerk.part.Goals as goal

pub position-requires : goal.position-requires
position-requires g c = (Some c.requires.0, ap (find c.args.place) c.as_slice.ensures.value ∙ (ap (λ x. find c.args.place x.parts) c.self.view_is ∙ c.requires.1))

pub unreachable-requires : goal.unreachable-requires
unreachable-requires g c =
    let xs = c.self.inside.parts.items in let i = c.position.result in let same = c.as_slice.ensures.value in let y = c.index.result.now in
    let f : IsFirst c.args.place xs i = subst (λ l. IsFirst c.args.place l i) same c.position.ensures.first in
    let lt : i < length xs = (let a = c.position.ensures.within in let b = ap length same in omega arith) in
    let is : ◌≡◌ {A = ℕ × Option g.row.M-Part.Denot} (c.args.place, f.item) y = some-injective (c.args.place, f.item) y (sym f.here ∙ at_index xs i y lt c.index.ensures) in
    let none : find c.args.place xs ≡ Some None = find_first c.args.place xs i f ∙ ap Some (ap (λ (z : ℕ × Option g.row.M-Part.Denot). z.1) is ∙ c.in-None.is) in
    let there : find c.args.place xs ≡ Some (Some c.requires.0) = ap (λ x. find c.args.place x.parts) c.self.view_is ∙ c.requires.1 in
    cc (none, there)

pub returns : goal.returns
returns g c =
    let xs = c.self.inside.parts.items in let i = c.position.result in let same = c.as_slice.ensures.value in let y = c.index.result.now in
    let f : IsFirst c.args.place xs i = subst (λ l. IsFirst c.args.place l i) same c.position.ensures.first in
    let lt : i < length xs = (let a = c.position.ensures.within in let b = ap length same in omega arith) in
    let is : ◌≡◌ {A = ℕ × Option g.row.M-Part.Denot} (c.args.place, f.item) y = some-injective (c.args.place, f.item) y (sym f.here ∙ at_index xs i y lt c.index.ensures) in
    sym (ap (λ x. find c.args.place x.parts) c.self.view_is) ∙ (find_first c.args.place xs i f ∙ ap Some (ap (λ (z : ℕ × Option g.row.M-Part.Denot). z.1) is ∙ c.in-Some.is))
