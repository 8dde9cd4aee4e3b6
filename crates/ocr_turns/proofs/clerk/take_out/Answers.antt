use Rattle.std.proofs.Common.{sym, ap, arith, ◌∙◌, ◌≡◌, ◌-◌, Some, Option, slice_index_or, vec_len}
use Rattle.atomic_table.proofs.Lists.{at_index}
use Rattle.ocr_turns.proofs.clerk.take_out.Goals as goal

pub returns-then-i-len-clause-item : goal.returns-then-i-len-clause-item
returns-then-i-len-clause-item g c = at_index c.args.items.now.items c.args.i c.remove.result c.requires c.remove.ensures.value

pub returns-clause-item : goal.returns-clause-item
returns-clause-item g c =
    let xs = c.args.items.now.items in let x = c.in-Some.item in let len = c.len.ensures in
    let lt = c.requires in
    let last : vec_len c.args.items.now - 1 ≡ c.args.i = omega (arith, c.if-i-len.false) in
    let is : ◌≡◌ {A = Option _} (Some x) (Some (slice_index_or xs c.args.i x)) = sym c.in-Some.is ∙ (c.pop.ensures.value x (omega arith) ∙ ap (λ k. Some (slice_index_or xs k x)) last) in
    at_index xs c.args.i x lt (cc is)
