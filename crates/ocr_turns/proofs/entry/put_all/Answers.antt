use Rattle.std.proofs.Common.{sym, ap, subst, arith, ◌∙◌, ◌≡◌, ◌≤◌, ◌∷◌, [], List, length, suc, refl, Some}
use Rattle.std.specs.List.{remove}
use mathlib.Core.Option.{some, some-injective, some-ne-none}
use lib.ListN.{get_elem?}
use Rattle.ocr_turns_rule.specs.Clerks.{HasKeys}
use Rattle.ocr_turns_rule.specs.Sums.{as_some, replace_all, weigh, one_at, keys}
use Rattle.ocr_turns_rule.proofs.Numbered.{find_weighed, keys_replace, weigh_keys}
use Rattle.ocr_turns.proofs.entry.put_all.Goals as goal

-- a list is its first item and the rest
first_out : {A : Type 0} (l : List A) (x : A) → get_elem? l 0 ≡ some x → l ≡ x ∷ remove l 0
first_out [] x at = absurd (some-ne-none x (sym at))
first_out (y ∷ ys) x at = ap (λ z. z ∷ ys) (some-injective y x at)

pub swap_part-requires : goal.swap_part-requires
swap_part-requires g c =
    let at = c.loop-parts in let first = c.take_out-place.result in
    find_weighed first.0 at.hand.items (at.invariant.has 0 first.0 first.1 c.take_out-place.ensures.item)

pub loop-parts-preserved : goal.loop-parts-preserved
loop-parts-preserved g c =
    let at = c.loop-parts in let hand = at.hand.items in let old = at.invariant in let took = c.take_out-place in
    let left = took.new.items.items in let place = took.result.0 in let part = took.result.1 in let new = c.swap_part.ensures.replaced in
    let steps : at.parts.items ≡ took.result ∷ left = first_out at.parts.items took.result took.ensures.item ∙ ap (λ l. took.result ∷ l) (sym took.ensures.rest) in record {
      rest = ap (replace_all (as_some left)) new ∙ (sym (ap (λ l. replace_all (as_some l) hand) steps) ∙ old.rest);
      has = λ k p a there.
          let was : 1 ≤ weigh (one_at p) hand = subst (λ l. HasKeys l hand) steps old.has (suc k) p a there in
          let same = weigh_keys (one_at p) c.swap_part.new.parts.items hand (ap keys new ∙ keys_replace place (Some part) hand) in omega arith;
      room = c.swap_part.ensures.room ∙ old.room;
    }
