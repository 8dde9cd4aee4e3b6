use Rattle.std.proofs.Common.{sym, ap, subst, arith, ◌∙◌, ◌≡◌, ◌<◌, length, set, Some, Option, ℕ}
use mathlib.Core.Option.{some-injective}
use Rattle.atomic_table.proofs.Lists.{at_index}
use Rattle.ocr_turns_rule.specs.Clerks.{IsFirst}
use Rattle.ocr_turns_rule.proofs.Numbered.{find_first, set_first}
use Rattle.ocr_turns.proofs.clerk.swap_part.Goals as goal

pub returns-clause-found : goal.returns-clause-found
returns-clause-found g c =
    let xs = c.args.parts.now.items in let i = c.position-i.result in let same = c.as_slice.ensures.value in let y = c.index_mut.result.now in
    let f : IsFirst c.args.place xs i = subst (λ l. IsFirst c.args.place l i) same c.position-i.ensures.first in
    let lt : i < length xs = (let a = c.position-i.ensures.within in let b = ap length same in omega arith) in
    let is : ◌≡◌ {A = ℕ × Option g.row.P.Denot} (c.args.place, f.item) y = some-injective (c.args.place, f.item) y (sym f.here ∙ at_index xs i y lt c.index_mut.ensures.value) in
    find_first c.args.place xs i f ∙ ap Some (ap (λ (z : ℕ × Option g.row.P.Denot). z.1) is ∙ sym c.replace.ensures.value)

pub returns-clause-replaced : goal.returns-clause-replaced
returns-clause-replaced g c =
    let xs = c.args.parts.now.items in let i = c.position-i.result in let same = c.as_slice.ensures.value in let y = c.index_mut.result.now in
    let f : IsFirst c.args.place xs i = subst (λ l. IsFirst c.args.place l i) same c.position-i.ensures.first in
    let lt : i < length xs = (let a = c.position-i.ensures.within in let b = ap length same in omega arith) in
    let is : ◌≡◌ {A = ℕ × Option g.row.P.Denot} (c.args.place, f.item) y = some-injective (c.args.place, f.item) y (sym f.here ∙ at_index xs i y lt c.index_mut.ensures.value) in
    (λ j. set xs i ((sym is j).0, c.replace.ensures.after j)) ∙ set_first c.args.place c.args.part xs i f
