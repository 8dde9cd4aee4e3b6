use Rattle.std.proofs.Common.{◌≡◌, ◌≤◌, ℕ, length, map, arith, ◌∙◌}
use Rattle.std.proofs.lemmas.List.{length-map}
use Rattle.std.proofs.lemmas.List.Sorted.{length_permutation}
use Rattle.std.specs.List.Sorted.{IsPermutation}
use Rattle.ocr_datablock.specs.Replaced.{times, write_of}
use Rattle.ocr_datablock.proofs.Replaced.{listed_in}
use Rattle.ocr_datablock.proofs.loan.Lent.list_writes.Goals as goal

pub invariant_of-self : goal.invariant_of-self
invariant_of-self c =
    let words = c.self.inside.words.items in
    let replaced = c.self.inside.replaced.items in
    let once : (k : ℕ) → times k replaced ≤ 1 = λ k. let e = c.self.invariant.1.counted k in let most = c.self.invariant.1.once k in omega arith in
    let moved : IsPermutation (map (write_of words) replaced) c.put_in_order.new.list.items
    = rw (c.fill.ensures, c.deref-then-not-self.ensures.value, c.deref.ensures.value) at c.put_in_order.ensures.permutation in
    let size : length c.put_in_order.new.list.items ≡ length replaced = length_permutation (map (write_of words) replaced) c.put_in_order.new.list.items moved ∙ length-map replaced (write_of words) in
    (c.self.invariant.0, c.self.invariant.1, size, λ h. listed_in replaced words c.put_in_order.new.list.items once moved c.put_in_order.ensures.sorted)
