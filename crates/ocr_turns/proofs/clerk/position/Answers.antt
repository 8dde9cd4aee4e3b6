use Rattle.std.proofs.Common.{arith, ap, sym, ◌∙◌}
use Rattle.atomic_table.proofs.Lists.{at_index}
use Rattle.ocr_turns_rule.proofs.Numbered.{first_at, not_yet, is_first}
use Rattle.ocr_turns.proofs.clerk.position.Goals as goal

pub loop-i-init : goal.loop-i-init
loop-i-init g c = let f = first_at c.args.place c.args.parts.now c.requires.0 c.requires.1 in (c.requires.0, f, omega arith)

pub loop-i-preserved : goal.loop-i-preserved
loop-i-preserved g c =
    let old = c.loop-i.invariant in let f = old.1 in let w = f.within in let le = old.2 in
    (old.0, f, not_yet c.args.place c.args.parts.now old.0 f c.loop-i.i c.index-parts-i.result le (at_index c.args.parts.now c.loop-i.i c.index-parts-i.result (omega arith) c.index-parts-i.is) (λ e. c.loop-i-test.true (ap (λ x. x.0) (sym c.index-parts-i.is) ∙ e)))

pub returns-clause-first : goal.returns-clause-first
returns-clause-first g c =
    let old = c.loop-i.invariant in let f = old.1 in let w = f.within in let le = old.2 in
    is_first c.args.place c.args.parts.now old.0 f c.loop-i.i c.index-parts-i.result le (at_index c.args.parts.now c.loop-i.i c.index-parts-i.result (omega arith) c.index-parts-i.is) (ap (λ x. x.0) c.index-parts-i.is ∙ c.loop-i-test.false)
