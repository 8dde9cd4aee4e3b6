use Rattle.std.proofs.Common.{◌≡◌, ◌∷◌, ◌++◌, ◌∙◌, [], ap, nat_eq, subst, List, None, Some, ℕ}
use Rattle.std.specs.List.{IsDistinct}
use Rattle.std.specs.Map.{keys_of, lookup, set_value}
use Rattle.lru.specs.LruCache.{last_entry, promoted}
use Rattle.ocr_machine_parts.specs.Loans.{settled_loan}
use Rattle.ocr_machine_parts.specs.declared.loans.Kept.{Kept}
use Rattle.ocr_machine_parts.proofs.Lists.{found_last, last_is, turned}
use Rattle.ocr_machine_parts.proofs.many.settle_last.Goals as goal

abbrev Item : Type 0
Item = ℕ × Kept

abbrev settled : Kept → Kept
settled k = record { size = k.size; loan = settled_loan k.loan }

-- the name that was read is that of the last
named : (b : ℕ) (k : Kept) (xs front : List Item) (last : Item) → Some (b, k) ≡ last_entry xs → xs ≡ front ++ last ∷ [] → b ≡ last.0
named b k xs front last is split = let at : Some (b, k) ≡ Some last = is ∙ (ap last_entry split ∙ last_is front last) in let same : (b, k) ≡ last = cc in ap (λ (x : Item). x.0) same

looked_last : (b : ℕ) (xs front : List Item) (last : Item) → IsDistinct nat_eq (keys_of xs) → b ≡ last.0 → xs ≡ front ++ last ∷ [] → lookup (nat_eq b) xs ≡ Some last.1
looked_last b xs front last distinct same split =
    ap (λ (n : ℕ). lookup (nat_eq n) xs) same ∙ (ap (λ (l : List Item). lookup (nat_eq last.0) l) split ∙ found_last front last (subst (λ (l : List Item). IsDistinct nat_eq (keys_of l)) split distinct))

settled_last : (b : ℕ) (w k : Kept) (xs front : List Item) (last : Item) → IsDistinct nat_eq (keys_of xs) → b ≡ last.0 → xs ≡ front ++ last ∷ [] → Some k ≡ lookup (nat_eq b) xs
    → w ≡ record { size = k.size; loan = settled_loan k.loan } → set_value (nat_eq b) (promoted (nat_eq b) xs) w ≡ (last.0, record { size = last.1.size; loan = settled_loan last.1.loan }) ∷ front
settled_last b w k xs front last distinct same split found new =
    let all : Some k ≡ Some last.1 = found ∙ looked_last b xs front last distinct same split in
    let is : k ≡ last.1 = cc in
    ap (λ (n : ℕ). set_value (nat_eq n) (promoted (nat_eq n) xs) w) same
    ∙ (ap (λ (l : List Item). set_value (nat_eq last.0) (promoted (nat_eq last.0) l) w) split
    ∙ (turned front last w (subst (λ (l : List Item). IsDistinct nat_eq (keys_of l)) split distinct)
    ∙ ap (λ (q : Kept). (last.0, q) ∷ front) (new ∙ ap settled is)))

pub returns-in-Some-get_mut-clause-entries : goal.returns-in-Some-get_mut-clause-entries
returns-in-Some-get_mut-clause-entries c = λ front last split.
    let xs = c.args.cache.now.entries in let b = c.in-Some.block.now in
    settled_last b c.settle_one.new.kept c.in-Some-get_mut.kept.now xs front last c.len-count.ensures.valid.0 (named b c.in-Some.field-0-1.now xs front last c.in-Some.ensures split) split c.in-Some-get_mut.ensures.value c.settle_one.ensures

pub returns-in_default-get_mut-clause-entries : goal.returns-in_default-get_mut-clause-entries
returns-in_default-get_mut-clause-entries c = λ front last split.
    let xs = c.args.cache.now.entries in let b = c.in-Some.block.now in
    let none : None ≡ lookup (nat_eq b) xs = c.in_default-get_mut.ensures.value in
    let some : lookup (nat_eq b) xs ≡ Some last.1 = looked_last b xs front last c.len-count.ensures.valid.0 (named b c.in-Some.field-0-1.now xs front last c.in-Some.ensures split) split in
    cc (none ∙ some)
