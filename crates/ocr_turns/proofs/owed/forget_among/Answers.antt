use Rattle.std.proofs.Common.{◌≡◌, ◌∙◌, ℕ, arith, subst, OnSome, remove}
use Rattle.ocr_turns_rule.proofs.Numbered.{drop_first}
use Rattle.ocr_turns_rule.proofs.Totals.{at_less}
use Rattle.ocr_turns.proofs.owed.forget_among.Goals as goal

pub returns-clause-items : goal.returns-clause-items
returns-clause-items g c =
    let nm : ℕ × ℕ = (c.args.number, c.args.index) in
    let xs = c.args.rest.now.items in let i = c.message_position-i.result in let f = c.message_position-i.ensures in
    let message : ℕ × ℕ × g.row.N.Denot = (c.args.number, c.args.index, f.item) in
    let lt = at_less xs i message f.here in let len = c.args.rest.now.ok.0 in
    let is = c.remove.ensures.succeeds message (omega arith) in
    subst (λ r. OnSome r (c.remove.new.self.items ≡ remove xs i)) is c.remove.ensures.items ∙ drop_first nm xs i f
