use Rattle.std.proofs.Common.{sym, ap, arith, ◌∙◌, ◌+◌, ◌*◌, length, suc, Some}
use Rattle.std.proofs.Math.ListN.{length-set}
use Rattle.std.proofs.lemmas.List.{length-replicate}
use lib.ListN.{get_elem?}
use Rattle.ocr_turns_rule.specs.Openings.{placed}
use Rattle.ocr_turns.proofs.opening.first_parts.Goals as goal

pub loop-place-init : goal.loop-place-init
loop-place-init g c =
    let gives = c.into_iter-place-iterator.ensures.into_iter_gives in let vacant = Some g.M.Machine.meaning.vacant in let same = c.in_ok-parts.ensures in record {
      rest = (λ i. placed (gives.0 i) (same i));
      within = λ k p x there. c.requires.1 k p x (ap (λ l. get_elem? l k) (sym gives.0) ∙ there);
      size = ap length same ∙ length-replicate (2 * c.args.limit + 1) vacant;
      left = gives.1 ∙ (c.args.opening.ok.0 ∙ ap length (sym gives.0));
    }

pub index_mut-requires : goal.index_mut-requires
index_mut-requires g c =
    let old = c.loop-place.invariant in
    let within = old.within 0 c.in-Some.place c.in-Some.part (ap (λ l. get_elem? l 0) c.in-Some.ensures.steps.0) in let size = old.size in let ok = c.loop-place.parts.ok.0 in omega arith

pub loop-place-preserved-in-Some : goal.loop-place-preserved-in-Some
loop-place-preserved-in-Some g c =
    let at = c.loop-place in let old = at.invariant in let steps = c.in-Some.ensures.steps.0 in let place = c.in-Some.place in let part = c.in-Some.part in record {
      rest = sym (ap (λ l. placed l at.parts.items) steps) ∙ old.rest;
      within = λ k p x there. old.within (suc k) p x (ap (λ l. get_elem? l (suc k)) steps ∙ there);
      size = length-set at.parts.items place (Some part) ∙ old.size;
      left = let a = c.in-Some.ensures.steps.1 in let b = ap length steps in let d = old.left in omega arith;
    }

pub loop-place-preserved : goal.loop-place-preserved
loop-place-preserved g c =
    let at = c.loop-place in let old = at.invariant in let steps = c.in-Some.ensures.steps.0 in let place = c.in-Some.place in let part = c.in-Some.part in record {
      rest = sym (ap (λ l. placed l at.parts.items) steps) ∙ old.rest;
      within = λ k p x there. old.within (suc k) p x (ap (λ l. get_elem? l (suc k)) steps ∙ there);
      size = length-set at.parts.items place (Some part) ∙ old.size;
      left = let a = c.in-Some.ensures.steps.1 in let b = ap length steps in let d = old.left in omega arith;
    }
