use Rattle.std.proofs.Common.{arith, refl, sym, ap, subst, ◌∙◌, ◌≡◌, ◌≤◌, ◌+◌, true, false, codes, List, ℕ, Some, take, drop, length, slice_range, decimal, IsTrue, Bool}
use Rattle.std.proofs.lemmas.Bool.Decides.{Decides-eqb}
use Rattle.std.proofs.lemmas.List.{length-take-le}
use Rattle.std.proofs.lemmas.Slice.Eq.{strip_prefix_is}
use Rattle.std.specs.List.{list_all}
use Rattle.ocr_text.specs.Forms.{is_digit}
use Rattle.ocr_audit.specs.Input.{IsInput}
use Rattle.ocr_audit.specs.declared.input.TheConstants.{MOST_BYTES}
use Rattle.ocr_audit.proofs.Header.{front_all, none_some, no_split, no_input, some_is, found, found_split}
use Rattle.ocr_audit.proofs.input.split_input.Goals as goal

pub count_of-requires : goal.count_of-requires
count_of-requires c = subst (λ (w : ℕ). IsTrue (list_all is_digit (take w c.in_ok-line.line.now))) (sym c.digits_in-width.ensures.is) (front_all c.in_ok-line.line.now)

-- the bytes begin with the word
abbrev word : List ℕ
word = codes "program "

-- no digits write a count
no_digits : (count : goal.After-from_residual-in_err-count) → (text rest : List ℕ) → IsInput count.args.bytes.now text rest → ⊥
no_digits c =
    no_input c.args.bytes.now c.in_ok-line.line.now c.digits_in-width.result
    (strip_prefix_is Decides-eqb c.args.bytes.now word (Some c.in_ok-line.line) c.in_ok-line.ensures.cases) c.digits_in-width.ensures.is
    (λ n is few feed room. none_some ((c.in_err-count.ensures n).1 (is, few)))

pub returns-in_err-count-clause-split : goal.returns-in_err-count-clause-split
returns-in_err-count-clause-split c = no_split c.args.bytes.now _ c.from_residual-in_err-count.ensures (no_digits c)

pub returns-in_err-count-clause-none : goal.returns-in_err-count-clause-none
returns-in_err-count-clause-none c = rw c.from_residual-in_err-count.ensures (no_digits c)

-- the line does not end behind them
unequal : (b : Bool) → b ≡ false → IsTrue b → ⊥
unequal b is true_is = let both : true ≡ false = sym true_is ∙ is in cc

no_end : (c : goal.Then-not-ends_at) → (text rest : List ℕ) → IsInput c.args.bytes.now text rest → ⊥
no_end c =
    no_input c.args.bytes.now c.in_ok-line.line.now c.digits_in-width.result
    (strip_prefix_is Decides-eqb c.args.bytes.now word (Some c.in_ok-line.line) c.in_ok-line.ensures.cases) c.digits_in-width.ensures.is
    (λ n is few feed room. unequal _ c.if-not-ends_at.true (c.ends_at.ensures.1 feed))

pub returns-then-not-ends_at-clause-split : goal.returns-then-not-ends_at-clause-split
returns-then-not-ends_at-clause-split c = no_split c.args.bytes.now _ refl (no_end c)

pub returns-then-not-ends_at-clause-none : goal.returns-then-not-ends_at-clause-none
returns-then-not-ends_at-clause-none c = no_end c

-- fewer bytes follow
no_room : (c : goal.Then-bytes-start) → (text rest : List ℕ) → IsInput c.args.bytes.now text rest → ⊥
no_room c =
    no_input c.args.bytes.now c.in_ok-line.line.now c.digits_in-width.result
    (strip_prefix_is Decides-eqb c.args.bytes.now word (Some c.in_ok-line.line) c.in_ok-line.ensures.cases) c.digits_in-width.ensures.is
    (λ n is few feed room.
    let same : c.in_ok-count.count ≡ n = some_is _ _ ((c.in_ok-count.ensures n).1 (is, few)) in
    omega (arith, same, room, c.if-bytes-start.true))

pub returns-then-bytes-start-clause-split : goal.returns-then-bytes-start-clause-split
returns-then-bytes-start-clause-split c = no_split c.args.bytes.now _ refl (no_room c)

pub returns-then-bytes-start-clause-none : goal.returns-then-bytes-start-clause-none
returns-then-bytes-start-clause-none c = no_room c

-- all of it was found
pub overflow_add-start-3 : goal.overflow_add-start-3
overflow_add-start-3 c = omega (arith, ((c.in_ok-count.ensures c.in_ok-count.count).0 refl).1, c.digits_in-width.ensures.within, c.in_ok-line.ensures.cases.2)

is_found : (c : goal.Else-bytes-start) → IsInput c.args.bytes.now
    (slice_range c.args.bytes.now (8 + c.digits_in-width.result + 1) (8 + c.digits_in-width.result + 1 + c.in_ok-count.count))
    (drop (8 + c.digits_in-width.result + 1 + c.in_ok-count.count) c.args.bytes.now)
is_found c =
    let told : (take c.digits_in-width.result c.in_ok-line.line.now ≡ decimal c.in_ok-count.count) × (c.in_ok-count.count ≤ MOST_BYTES) = (c.in_ok-count.ensures c.in_ok-count.count).0 refl in
    found c.args.bytes.now c.in_ok-line.line.now c.digits_in-width.result c.in_ok-count.count
    (strip_prefix_is Decides-eqb c.args.bytes.now word (Some c.in_ok-line.line) c.in_ok-line.ensures.cases)
    told.0 told.1 (c.ends_at.ensures.0 c.if-not-ends_at.false) c.if-bytes-start.false

pub returns-clause-parts : goal.returns-clause-parts
returns-clause-parts c = is_found c

pub returns-clause-split : goal.returns-clause-split
returns-clause-split c =
    let told : (take c.digits_in-width.result c.in_ok-line.line.now ≡ decimal c.in_ok-count.count) × (c.in_ok-count.count ≤ MOST_BYTES) = (c.in_ok-count.ensures c.in_ok-count.count).0 refl in
    let size : length (decimal c.in_ok-count.count) ≡ c.digits_in-width.result =
    ap length (sym told.0) ∙ length-take-le c.digits_in-width.result c.in_ok-line.line.now c.digits_in-width.ensures.within in
    found_split c.args.bytes.now c.digits_in-width.result c.in_ok-count.count size c.if-bytes-start.false (is_found c)
