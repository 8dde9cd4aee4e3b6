use Rattle.std.proofs.Common.{◌≡◌, ◌∙◌, ◌<◌, ◌≤◌, ◌+◌, [], ◌∷◌, ◌++◌, length, sym, subst, ap, arith}
use Rattle.std.proofs.lemmas.List.Elements.{All-push, AllWithin-more_set}
use Rattle.crossbeam_deque.specs.Handles.{view, worker_deque, worker_view}
use Rattle.ocr_steal.specs.Parts.{IsNewOwner, IsNewPass, deques_of_owners, deques_of_passes}
use Rattle.ocr_steal.proofs.Owners.{IsCut, cut_owner, deques_cut, name_of_pass, new_pass, others, owner_at, row_more}
use Rattle.ocr_steal.proofs.Steps.{forks}
use Rattle.ocr_steal.proofs.creation.row_of.Goals as goal

pub another-requires : goal.another-requires
another-requires c =
    let l = c.loop-index in
    let owner = owner_at c.requires.0 c.requires.1 l.index l.owners.len l.owners.items c.index_mut.result.now (omega (arith, c.loop-index-test.true, l.invariant.many)) c.index_mut.ensures.value (l.invariant.others c.requires.0 c.requires.1 c.requires.3) in
    forks _ (worker_view c.index_mut.result.now) (omega (arith, owner.parts, c.requires.2))

pub loop-index-preserved : goal.loop-index-preserved
loop-index-preserved c =
    let l = c.loop-index in
    let w = c.index_mut.result.now in
    let new = c.another.new.self in
    let p = c.another.result in
    let at = c.index_mut.ensures.value in
    let within : l.index < length l.owners.items = omega (arith, c.loop-index-test.true, c.len-index-end.ensures, l.invariant.many, l.owners.ok.0) in
    let owner = owner_at c.requires.0 c.requires.1 l.index l.owners.len l.owners.items w (omega (arith, c.loop-index-test.true, l.invariant.many)) at (l.invariant.others c.requires.0 c.requires.1 c.requires.3) in
    let some : 0 < (worker_view w).parts = omega (arith, owner.parts, c.requires.2) in
    let cut : IsCut w new = (c.another.ensures.same.0, c.another.ensures.same.1, c.another.ensures.rule.0) in
    record {
      many = l.invariant.many;
      cut = λ made least h. AllWithin-more_set l.owners.items l.index new within (IsNewOwner (made + 1) least) (l.invariant.cut made least h)
          (cut_owner made least w new some cut (owner_at made least l.index l.owners.len l.owners.items w (omega (arith, c.loop-index-test.true, l.invariant.many)) at (l.invariant.others made least h)));
      others = λ made least h. others made least l.index l.owners.len l.owners.items new (l.invariant.others made least h);
      same = deques_cut l.owners.items l.index w new at c.another.ensures.same.0.0 ∙ l.invariant.same;
      deques = ap (λ ps. deques_of_passes ps) c.in_ok-push.ensures.items ∙ row_more l.owners.items (deques_of_owners c.args.owners.now.items) l.row.items l.index w p within at l.invariant.same (name_of_pass p (worker_deque w) c.another.ensures.same.2) l.invariant.deques;
      passes = subst (λ ps. Rattle.std.proofs.Common.All IsNewPass ps) (sym c.in_ok-push.ensures.items) (All-push IsNewPass l.row.items p l.invariant.passes (new_pass p (worker_deque w) (view p) c.another.ensures.same.2 c.another.ensures.rule.1));
    }

pub returns-clause-owners : goal.returns-clause-owners
returns-clause-owners c made least h k d lt =
    c.loop-index.invariant.cut made least h k d (omega arith) (omega (arith, lt, c.loop-index-test.false, c.len-index-end.ensures, c.loop-index.invariant.many, c.loop-index.owners.ok.0))
