use Rattle.std.proofs.Common.{◌≡◌, vec_capacity, length}
use Rattle.ocr_turns_rule.specs.Clerks.{HasKeys}
use Rattle.ocr_turns_rule.specs.Sums.{as_some, replace_all}
use Rattle.ocr_turns.proofs.entry.put_all.Given as goal

abbrev pub invariant-loop-parts : goal.invariant-loop-parts
invariant-loop-parts g l = record {
  rest : replace_all (as_some l.parts.items) l.hand.items ≡ replace_all (as_some l.fn.parts.items) l.fn.hand.items;
  has : HasKeys l.parts.items l.hand.items;
  room : vec_capacity l.hand ≡ vec_capacity l.fn.hand;
}

abbrev pub decreases-loop-parts : goal.decreases-loop-parts
decreases-loop-parts g l = length l.parts.items
