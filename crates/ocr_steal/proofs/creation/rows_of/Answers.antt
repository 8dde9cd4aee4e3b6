use Rattle.std.proofs.Common.{◌∙◌, sym, subst, arith, All}
use Rattle.std.proofs.lemmas.List.Elements.{All-push}
use Rattle.ocr_steal.specs.Parts.{IsNewOwner, IsNewRow, deques_of_owners}
use Rattle.ocr_steal.proofs.creation.rows_of.Goals as goal

pub row_of-requires : goal.row_of-requires
row_of-requires c =
    (c.loop.counter, 0, omega (arith, c.loop-test.true, c.len-end.ensures, c.requires.0), c.loop.invariant.cut 0 c.requires.1)

pub returns-clause-owners : goal.returns-clause-owners
returns-clause-owners c least h =
    subst (λ n. All (IsNewOwner n least) c.loop.owners.items) (omega (arith, c.loop-test.false, c.loop.auto.counter-end, c.len-end.ensures)) (c.loop.invariant.cut least h)

pub loop-preserved : goal.loop-preserved
loop-preserved c =
    let l = c.loop in record {
      many = c.in_ok-row_of.ensures.kept ∙ l.invariant.many;
      cut = λ least h. c.in_ok-row_of.ensures.owners l.counter least (l.invariant.cut least h);
      same = c.in_ok-row_of.ensures.same ∙ l.invariant.same;
      made = omega (arith, c.in_ok-push.ensures.len, l.invariant.made);
      rows = subst (λ rs. All (λ row. IsNewRow (deques_of_owners c.args.owners.now.items) row.items) rs) (sym c.in_ok-push.ensures.items)
          (All-push (λ row. IsNewRow (deques_of_owners c.args.owners.now.items) row.items) l.rows.items c.in_ok-row_of.field-0 l.invariant.rows
          (subst (λ names. IsNewRow names c.in_ok-row_of.field-0.items) l.invariant.same c.in_ok-row_of.ensures.row));
    }
