use Rattle.std.proofs.Common.{sym, ap, ◌∙◌, Some, Option, ℕ}
use mathlib.Core.Option.{some-injective}
use Rattle.ocr_turns_rule.specs.Clerks.{IsFirst}
use Rattle.ocr_turns_rule.proofs.Numbered.{find_first, remove_first}
use Rattle.ocr_turns.proofs.give.remove_part.Goals as goal

pub returns-clause-found : goal.returns-clause-found
returns-clause-found g c =
    let xs = c.args.parts.now.items in let i = c.args.i in
    let f : IsFirst c.args.place xs i = c.requires.first in
    find_first c.args.place xs i f ∙ ap (λ (z : ℕ × Option g.row.P.Denot). Some z.1) (some-injective (c.args.place, f.item) c.take_out-part.result (sym f.here ∙ c.take_out-part.ensures.item))

pub returns-clause-removed : goal.returns-clause-removed
returns-clause-removed g c =
    c.take_out-part.ensures.rest ∙ remove_first c.args.place c.args.parts.now.items c.args.i c.requires.first
