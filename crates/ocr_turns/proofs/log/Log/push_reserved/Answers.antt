use Rattle.std.proofs.Common.{◌∷◌, [], ◌++◌, ◌∙◌, ap}
use Rattle.std.specs.List.{zip}
use Rattle.ocr_turns.proofs.Logs.{zip_more}
use Rattle.ocr_turns.proofs.log.Log.push_reserved.Goals as goal

pub returns-clause-items : goal.returns-clause-items
returns-clause-items g c =
    let n = c.args.number in let e = c.args.entry in
    (λ i. zip (c.push_reserved.ensures.items i) (c.push_reserved-2.ensures.items i))
    ∙ (zip_more c.self.inside.numbers.items c.self.inside.entries.items n e c.self.invariant ∙ ap (λ x. x.items ++ (n, e) ∷ []) c.self.view_is)
