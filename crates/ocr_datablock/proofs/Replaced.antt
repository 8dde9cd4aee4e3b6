-- What replaced words tell of a loan: its writes, and the words with which it began.
use Rattle.std.proofs.Common.{◌≡◌, ◌≢◌, ◌<◌, ◌≤◌, ℕ, ◌+◌, List, [], ◌∷◌, ◌++◌, Bool, true, false, cond, ◌==◌, ◌⊎◌, inl, inr, suc, ltb, Option, Some, None, length, map, slice_index, slice_set, unwrap_or, arith, refl, rules, sym, ◌∙◌, ap, get_or, drop}
use Rattle.std.proofs.lemmas.Bool.{cases_lt}
use Rattle.std.proofs.lemmas.Bool.Decides.{nat_tests}
use Rattle.std.proofs.lemmas.Option.{none-some, same_Some}
use Rattle.std.proofs.lemmas.List.{drop_more, drop_all, length-set, get_or-set_same, get_or-set_other, set-set, set_comm, set-get_or}
use Rattle.std.proofs.lemmas.List.Elements.{All-head, All-tail, All-cons, All-push}
use Rattle.std.proofs.lemmas.List.Sums.{sum_by-cons}
use Rattle.std.proofs.lemmas.List.Sorted.{All-permutation, sum_by-IsPermutation}
use Rattle.std.proofs.lemmas.Grind.{same_number_lists}
use Rattle.std.specs.List.{All, sum_by}
use Rattle.std.specs.List.Sorted.{IsPermutation, IsNonDecreasingBy}
use Rattle.ocr_acquire.specs.Writes.{put, value_at, written, RisesFrom, IsRising}
use Rattle.ocr_acquire.proofs.Writes.{rises_put, value_put, value_none, length_written, word_written}
use Rattle.ocr_acquire.specs.declared.Mode.{Mode}
use Rattle.ocr_datablock.specs.Lent.{Loan, after_store}
use Rattle.ocr_datablock.specs.Replaced.{AreClear, IsMarked, times, writes_in, write_of}

pub times_is_sum : (k : ℕ) (writes : List (ℕ × ℕ)) → times k writes ≡ sum_by (λ write. cond (write.0 == k) 1 0) writes
times_is_sum k [] = refl
times_is_sum k (write ∷ rest) = let more = times_is_sum k rest in simp sum_by-cons (omega arith)

pub times_moved : (k : ℕ) (xs ys : List (ℕ × ℕ)) → IsPermutation xs ys → times k ys ≡ times k xs
times_moved k xs ys moved = times_is_sum k ys ∙ sum_by-IsPermutation (λ write. cond (write.0 == k) 1 0) xs ys moved ∙ sym (times_is_sum k xs)

-- WRITES.
pub rising_in : (replaced : List (ℕ × ℕ)) (words : List ℕ) → IsRising (writes_in replaced words)
rising_in [] words = tt
rising_in (write ∷ rest) words = rises_put 0 write.0 (slice_index words write.0) (writes_in rest words) (omega arith) (rising_in rest words)

-- what writes tell of a word, where each has the value of its word
abbrev pub told : List ℕ → ℕ → ℕ → Option ℕ
told words k count = cond (ltb 0 count) (Some (slice_index words k)) None

told_more : (words : List ℕ) (write : ℕ × ℕ) (k count : ℕ) (same : Bool) → (write.0 == k) ≡ same → write.1 ≡ slice_index words write.0
    → cond same (Some write.1) (told words k count) ≡ told words k (cond same 1 0 + count)
told_more words write k count true is value = let e : write.0 ≡ k = grind (arith, nat_tests) in grind (arith, nat_tests)
told_more words write k count false is value = grind (arith, nat_tests)

pub told_by : (words : List ℕ) (k : ℕ) (writes : List (ℕ × ℕ)) → All (λ write. write.1 ≡ slice_index words write.0) writes
    → value_at k writes ≡ told words k (times k writes)
told_by words k [] all = refl
told_by words k (write ∷ rest) all =
    let value : write.1 ≡ slice_index words write.0 = All-head (λ write. write.1 ≡ slice_index words write.0) write rest all in
    let others : value_at k rest ≡ told words k (times k rest) = told_by words k rest (All-tail (λ write. write.1 ≡ slice_index words write.0) write rest all) in
    ap (λ (o : Option ℕ). cond (write.0 == k) (Some write.1) o) others ∙ told_more words write k (times k rest) (write.0 == k) refl value

pub told_in : (words : List ℕ) (k : ℕ) (replaced : List (ℕ × ℕ)) → value_at k (writes_in replaced words) ≡ told words k (times k replaced)
told_in words k [] = refl
told_in words k (write ∷ rest) =
    value_put k write.0 (slice_index words write.0) (writes_in rest words)
    ∙ ap (λ (o : Option ℕ). cond (write.0 == k) (Some (slice_index words write.0)) o) (told_in words k rest)
    ∙ told_more words (write.0, slice_index words write.0) k (times k rest) (write.0 == k) refl refl

-- two rising lists that tell the same of each word are the same
first_is_lower : (x y : ℕ × ℕ) (xs ys : List (ℕ × ℕ)) → RisesFrom (y.0 + 1) ys → value_at x.0 (x ∷ xs) ≡ value_at x.0 (y ∷ ys) → y.0 ≤ x.0
first_is_lower x y xs ys rise same = elim (cases_lt x.0 y.0) [
  | inl less ↦
      let none : value_at x.0 (y ∷ ys) ≡ None = value_none y.0 x.0 (y ∷ ys) (omega arith, rise) less in
      let own : (x.0 == x.0) ≡ true = grind (arith, nat_tests) in
      let some : value_at x.0 (x ∷ xs) ≡ Some x.1 = rw own refl in
      absurd (none-some x.1 (sym none ∙ sym same ∙ some))
  | inr more ↦ more
]

first_value : (x y : ℕ × ℕ) (xs ys : List (ℕ × ℕ)) → x.0 ≡ y.0 → value_at x.0 (x ∷ xs) ≡ value_at x.0 (y ∷ ys) → x.1 ≡ y.1
first_value x y xs ys e same =
    let own : (x.0 == x.0) ≡ true = grind (arith, nat_tests) in
    let other : (y.0 == x.0) ≡ true = grind (arith, nat_tests) in
    let one : value_at x.0 (x ∷ xs) ≡ Some x.1 = rw own refl in
    let two : value_at x.0 (y ∷ ys) ≡ Some y.1 = rw other refl in
    same_Some x.1 y.1 (sym one ∙ same ∙ two)

rest_value : (x y : ℕ × ℕ) (xs ys : List (ℕ × ℕ)) (k : ℕ) (here : Bool) → (x.0 == k) ≡ here → x.0 ≡ y.0
    → RisesFrom (x.0 + 1) xs → RisesFrom (y.0 + 1) ys → value_at k (x ∷ xs) ≡ value_at k (y ∷ ys) → value_at k xs ≡ value_at k ys
rest_value x y xs ys k true is e rise rises same =
    let at : x.0 ≡ k = grind (arith, nat_tests) in
    value_none (x.0 + 1) k xs rise (omega arith) ∙ sym (value_none (y.0 + 1) k ys rises (omega arith))
rest_value x y xs ys k false is e rise rises same =
    let other : (y.0 == k) ≡ false = grind (arith, nat_tests) in
    let one : value_at k (x ∷ xs) ≡ value_at k xs = rw is refl in
    let two : value_at k (y ∷ ys) ≡ value_at k ys = rw other refl in
    sym one ∙ same ∙ two

cons_same : (x y : ℕ × ℕ) (xs ys : List (ℕ × ℕ)) → x.0 ≡ y.0 → x.1 ≡ y.1 → xs ≡ ys → x ∷ xs ≡ y ∷ ys
cons_same (a, b) (d, e) xs ys word value rest = rw (word, value, rest) refl

pub same_rising : (low : ℕ) (xs ys : List (ℕ × ℕ)) → RisesFrom low xs → RisesFrom low ys → ((k : ℕ) → value_at k xs ≡ value_at k ys) → xs ≡ ys
same_rising low [] [] rise rises same = refl
same_rising low [] (y ∷ ys) rise rises same =
    let own : (y.0 == y.0) ≡ true = grind (arith, nat_tests) in
    let some : value_at y.0 (y ∷ ys) ≡ Some y.1 = rw own refl in
    absurd (none-some y.1 (same y.0 ∙ some))
same_rising low (x ∷ xs) [] rise rises same =
    let own : (x.0 == x.0) ≡ true = grind (arith, nat_tests) in
    let some : value_at x.0 (x ∷ xs) ≡ Some x.1 = rw own refl in
    absurd (none-some x.1 (sym (same x.0) ∙ some))
same_rising low (x ∷ xs) (y ∷ ys) rise rises same =
    let one : y.0 ≤ x.0 = first_is_lower x y xs ys rises.1 (same x.0) in
    let other : x.0 ≤ y.0 = first_is_lower y x ys xs rise.1 (sym (same y.0)) in
    let word : x.0 ≡ y.0 = omega arith in
    let value : x.1 ≡ y.1 = first_value x y xs ys word (same x.0) in
    let above : RisesFrom (x.0 + 1) ys = rw word rises.1 in
    let rest : xs ≡ ys = same_rising (x.0 + 1) xs ys rise.1 above (λ k. rest_value x y xs ys k (x.0 == k) refl word rise.1 rises.1 (same k)) in
    cons_same x y xs ys word value rest

-- a store
put_told : (words : List ℕ) (word value k count after : ℕ) (same : Bool) → (word == k) ≡ same → word < length words → (0 < count → 0 < after)
    → (0 < after → 0 < count ⊎ word ≡ k) → (word ≡ k → 0 < after)
    → told (slice_set words word value) k after ≡ cond same (Some value) (told words k count)
put_told words word value k count after true is below more less here =
    let e : word ≡ k = grind (arith, nat_tests) in
    let some : ltb 0 after ≡ true = grind (arith, nat_tests) in
    let set : slice_index (slice_set words word value) k ≡ value = rw (← e) (get_or-set_same words word value 0 below) in
    rw (some, set) refl
put_told words word value k count after false is below more less here =
    let apart : k ≢ word = grind (arith, nat_tests) in
    let tests : ltb 0 after ≡ ltb 0 count = grind (arith, nat_tests) in
    let set : slice_index (slice_set words word value) k ≡ slice_index words k = get_or-set_other words word k value 0 apart in
    rw (tests, set) refl

-- the writes after a store, where what was replaced is what it was, and the word
pub writes_after : (before after : List (ℕ × ℕ)) (words : List ℕ) (word value : ℕ) → word < length words
    → ((k : ℕ) → 0 < times k before → 0 < times k after) → ((k : ℕ) → 0 < times k after → 0 < times k before ⊎ word ≡ k) → 0 < times word after
    → writes_in after (slice_set words word value) ≡ put word value (writes_in before words)
writes_after before after words word value below more less here =
    same_rising 0 (writes_in after (slice_set words word value)) (put word value (writes_in before words))
    (rising_in after (slice_set words word value)) (rises_put 0 word value (writes_in before words) (omega arith) (rising_in before words))
    (λ k. told_in (slice_set words word value) k after
    ∙ put_told words word value k (times k before) (times k after) (word == k) refl below (more k) (less k) (λ e. rw (← e) here)
    ∙ ap (λ (o : Option ℕ). cond (word == k) (Some value) o) (sym (told_in words k before))
    ∙ sym (value_put k word value (writes_in before words)))

pub writes_again : (replaced : List (ℕ × ℕ)) (words : List ℕ) (word value : ℕ) → word < length words → 0 < times word replaced
    → writes_in replaced (slice_set words word value) ≡ put word value (writes_in replaced words)
writes_again replaced words word value below here =
    writes_after replaced replaced words word value below (λ k some. some) (λ k some. inl some) here

pub times_push : (k : ℕ) (replaced : List (ℕ × ℕ)) (write : ℕ × ℕ) → times k (replaced ++ write ∷ []) ≡ times k replaced + cond (write.0 == k) 1 0
times_push k [] write = omega arith
times_push k (first ∷ rest) write = let more = times_push k rest write in omega arith

pushed_or : (word k before after : ℕ) (same : Bool) → (word == k) ≡ same → after ≡ before + cond same 1 0 → 0 < after → 0 < before ⊎ word ≡ k
pushed_or word k before after true is sum some = inr (grind (arith, nat_tests))
pushed_or word k before after false is sum some = inl (omega arith)

pub writes_first : (replaced : List (ℕ × ℕ)) (words : List ℕ) (word began value : ℕ) → word < length words
    → writes_in (replaced ++ (word, began) ∷ []) (slice_set words word value) ≡ put word value (writes_in replaced words)
writes_first replaced words word began value below =
    let pushed : (k : ℕ) → times k (replaced ++ (word, began) ∷ []) ≡ times k replaced + cond (word == k) 1 0 = λ k. times_push k replaced (word, began) in
    writes_after replaced (replaced ++ (word, began) ∷ []) words word value below
    (λ k some. let t = pushed k in omega arith)
    (λ k some. let t = pushed k in pushed_or word k (times k replaced) (times k (replaced ++ (word, began) ∷ [])) (word == k) refl t some)
    (let t = pushed word in grind (arith, nat_tests))

-- THE WORDS WITH WHICH A LOAN BEGAN.
apart_by : (write k : ℕ) (count : ℕ) (same : Bool) → (write == k) ≡ same → cond same 1 0 + count ≡ 0 → k ≢ write
apart_by write k count true is none = absurd (omega arith)
apart_by write k count false is none = grind (arith, nat_tests)

apart_of : (write : ℕ × ℕ) (rest : List (ℕ × ℕ)) (k : ℕ) → times k (write ∷ rest) ≡ 0 → k ≢ write.0
apart_of write rest k none = apart_by write.0 k (times k rest) (write.0 == k) refl none

pub still : (replaced : List (ℕ × ℕ)) (words : List ℕ) (k : ℕ) → times k replaced ≡ 0 → slice_index (written replaced words) k ≡ slice_index words k
still [] words k none = refl
still (write ∷ rest) words k none =
    let apart : k ≢ write.0 = apart_of write rest k none in
    let others : times k rest ≡ 0 = omega arith in
    still rest (slice_set words write.0 write.1) k others ∙ get_or-set_other words write.0 k write.1 0 apart

pub set_apart : (replaced : List (ℕ × ℕ)) (words : List ℕ) (k value : ℕ) → times k replaced ≡ 0
    → written replaced (slice_set words k value) ≡ slice_set (written replaced words) k value
set_apart [] words k value none = refl
set_apart (write ∷ rest) words k value none =
    let apart : k ≢ write.0 = apart_of write rest k none in
    let others : times k rest ≡ 0 = omega arith in
    ap (λ (xs : List ℕ). written rest xs) (set_comm words k write.0 value write.1 apart) ∙ set_apart rest (slice_set words write.0 write.1) k value others

set_again : (write : ℕ × ℕ) (rest : List (ℕ × ℕ)) (words : List ℕ) (k value : ℕ) (here : Bool) → (write.0 == k) ≡ here
    → ((xs : List ℕ) → 0 < times k rest → written rest (slice_set xs k value) ≡ written rest xs) → 0 < times k (write ∷ rest)
    → written rest (slice_set (slice_set words k value) write.0 write.1) ≡ written rest (slice_set words write.0 write.1)
set_again write rest words k value true is kept some =
    let e : write.0 ≡ k = grind (arith, nat_tests) in
    rw e (ap (λ (xs : List ℕ). written rest xs) (set-set words k value write.1))
set_again write rest words k value false is kept some =
    let apart : k ≢ write.0 = grind (arith, nat_tests) in
    let others : 0 < times k rest = grind (arith, nat_tests) in
    ap (λ (xs : List ℕ). written rest xs) (set_comm words k write.0 value write.1 apart) ∙ kept (slice_set words write.0 write.1) others

pub set_within : (replaced : List (ℕ × ℕ)) (words : List ℕ) (k value : ℕ) → 0 < times k replaced
    → written replaced (slice_set words k value) ≡ written replaced words
set_within [] words k value some = absurd (omega arith)
set_within (write ∷ rest) words k value some =
    set_again write rest words k value (write.0 == k) refl (λ xs others. set_within rest xs k value others) some

pub written_push : (replaced : List (ℕ × ℕ)) (write : ℕ × ℕ) (words : List ℕ) → written (replaced ++ write ∷ []) words ≡ slice_set (written replaced words) write.0 write.1
written_push [] write words = refl
written_push (first ∷ rest) write words = written_push rest write (slice_set words first.0 first.1)

pub began_first : (replaced : List (ℕ × ℕ)) (words : List ℕ) (word began value : ℕ) → times word replaced ≡ 0 → began ≡ slice_index words word
    → written (replaced ++ (word, began) ∷ []) (slice_set words word value) ≡ written replaced words
began_first replaced words word began value none read =
    let same : began ≡ slice_index (written replaced words) word = read ∙ sym (still replaced words word none) in
    written_push replaced (word, began) (slice_set words word value)
    ∙ ap (λ (xs : List ℕ). slice_set xs word began) (set_apart replaced words word value none)
    ∙ set-set (written replaced words) word value began
    ∙ rw same (set-get_or (written replaced words) word 0)

now_told : (words began : List ℕ) (k count : ℕ) → (count ≡ 0 → slice_index began k ≡ slice_index words k) → unwrap_or (told words k count) (slice_index began k) ≡ slice_index words k
now_told words began k count still = elim (cases_lt 0 count) [
  | inl some ↦ let test : ltb 0 count ≡ true = grind (arith, nat_tests) in rw test refl
  | inr none ↦ let test : ltb 0 count ≡ false = grind (arith, nat_tests) in rw test (still (omega arith))
]

-- the words as they are now are those with which the loan began, with its writes
pub words_now : (replaced : List (ℕ × ℕ)) (words : List ℕ) → written (writes_in replaced words) (written replaced words) ≡ words
words_now replaced words =
    let began : List ℕ = written replaced words in
    let size : length began ≡ length words = length_written replaced words in
    let same : length (written (writes_in replaced words) began) ≡ length words = length_written (writes_in replaced words) began ∙ size in
    same_number_lists (written (writes_in replaced words) began) words same
    (λ k below. word_written 0 (writes_in replaced words) began k (rising_in replaced words) (omega arith)
    ∙ ap (λ (o : Option ℕ). unwrap_or o (slice_index began k)) (told_in words k replaced)
    ∙ now_told words began k (times k replaced) (still replaced words k))

pub ruleset word_facts = (length_written, words_now)

-- THE LIST OF THE WRITES.
pub times_map : (words : List ℕ) (k : ℕ) (replaced : List (ℕ × ℕ)) → times k (map (write_of words) replaced) ≡ times k replaced
times_map words k [] = refl
times_map words k (write ∷ rest) = ap (λ (n : ℕ). cond (write.0 == k) 1 0 + n) (times_map words k rest)

pub all_of : (words : List ℕ) (replaced : List (ℕ × ℕ)) → All (λ write. write.1 ≡ slice_index words write.0) (map (write_of words) replaced)
all_of words [] = search rules
all_of words (write ∷ rest) = All-cons (λ write. write.1 ≡ slice_index words write.0) (write_of words write) (map (write_of words) rest) refl (all_of words rest)

abbrev StartsAt : ℕ → List (ℕ × ℕ) → Type 0
StartsAt low [] = Unit {0}
StartsAt low (write ∷ rest) = low ≤ write.0

rising_sorted : (low : ℕ) (xs : List (ℕ × ℕ)) → StartsAt low xs → IsNonDecreasingBy (λ write. write.0) xs → ((k : ℕ) → times k xs ≤ 1) → RisesFrom low xs
rising_sorted low [] start order once = tt
rising_sorted low (x ∷ []) start order once = (start, tt)
rising_sorted low (x ∷ y ∷ rest) start order once =
    let up : x.0 ≤ y.0 = order 0 1 x (omega arith) (omega arith) in
    let both : times x.0 (x ∷ y ∷ rest) ≤ 1 = once x.0 in
    let above : x.0 + 1 ≤ y.0 = grind (arith, nat_tests) in (
      start,
      rising_sorted (x.0 + 1) (y ∷ rest) above
          (λ i j d low high. order (suc i) (suc j) d (omega arith) (omega arith))
          (λ k. let all = once k in omega arith),
    )

starts : (xs : List (ℕ × ℕ)) → StartsAt 0 xs
starts [] = tt
starts (write ∷ rest) = omega arith

-- the words that were replaced, with their values as they are now, in the order of the words
pub listed_in : (replaced : List (ℕ × ℕ)) (words : List ℕ) (list : List (ℕ × ℕ)) → ((k : ℕ) → times k replaced ≤ 1)
    → IsPermutation (map (write_of words) replaced) list → IsNonDecreasingBy (λ write. write.0) list → list ≡ writes_in replaced words
listed_in replaced words list once moved order =
    let counted : (k : ℕ) → times k list ≡ times k replaced =
    λ k. times_moved k (map (write_of words) replaced) list moved ∙ times_map words k replaced in
    let rise : IsRising list = rising_sorted 0 list (starts list) order (λ k. let n = counted k in let m = once k in omega arith) in
    let all : All (λ write. write.1 ≡ slice_index words write.0) list = All-permutation (λ write. write.1 ≡ slice_index words write.0) (map (write_of words) replaced) list moved (all_of words replaced) in
    same_rising 0 list (writes_in replaced words) rise (rising_in replaced words)
    (λ k. told_by words k list all ∙ ap (λ (n : ℕ). told words k n) (counted k) ∙ sym (told_in words k replaced))

-- A STORE.
abbrev model : Mode → List (ℕ × ℕ) → List ℕ → Bool → Loan
model m replaced words listed = record {
  mode = m;
  began = written replaced words;
  writes = writes_in replaced words;
  listed = listed;
}

pub stored_again : (m : Mode) (replaced : List (ℕ × ℕ)) (words : List ℕ) (listed : Bool) (word value : ℕ) → word < length words → 0 < times word replaced
    → model m replaced (slice_set words word value) false ≡ after_store (model m replaced words listed) word value
stored_again m replaced words listed word value below some =
    rw (writes_again replaced words word value below some, set_within replaced words word value some) refl

pub stored_first : (m : Mode) (replaced : List (ℕ × ℕ)) (words : List ℕ) (listed : Bool) (word began value : ℕ) → word < length words → times word replaced ≡ 0
    → began ≡ slice_index words word
    → model m (replaced ++ (word, began) ∷ []) (slice_set words word value) false ≡ after_store (model m replaced words listed) word value
stored_first m replaced words listed word began value below none read =
    rw (writes_first replaced words word began value below, began_first replaced words word began value none read) refl

pub none_replaced : (words : List ℕ) (k : ℕ) (replaced : List (ℕ × ℕ)) → value_at k (writes_in replaced words) ≡ None → times k replaced ≡ 0
none_replaced words k replaced none = elim (cases_lt 0 (times k replaced)) [
  | inl some ↦
      let test : ltb 0 (times k replaced) ≡ true = grind (arith, nat_tests) in
      let found : value_at k (writes_in replaced words) ≡ Some (slice_index words k) = told_in words k replaced ∙ rw test refl in
      absurd (none-some (slice_index words k) (sym none ∙ found))
  | inr zero ↦ omega arith
]

marked_once : (replaced : List (ℕ × ℕ)) (marks : List ℕ) (size word began k : ℕ) (same : Bool) → (word == k) ≡ same → IsMarked replaced marks size → times word replaced ≡ 0 → word < length marks
    → (times k (replaced ++ (word, began) ∷ []) ≡ slice_index (slice_set marks word 1) k) × (slice_index (slice_set marks word 1) k ≤ 1)
marked_once replaced marks size word began k true is marked none below =
    let e : word ≡ k = grind (arith, nat_tests) in
    let set : slice_index (slice_set marks word 1) k ≡ 1 = rw (← e) (get_or-set_same marks word 1 0 below) in
    let count : times k (replaced ++ (word, began) ∷ []) ≡ times k replaced + cond (word == k) 1 0 = times_push k replaced (word, began) in
    let was : times k replaced ≡ 0 = rw (← e) none in
    (grind (arith, nat_tests), omega arith)
marked_once replaced marks size word began k false is marked none below =
    let apart : k ≢ word = grind (arith, nat_tests) in
    let set : slice_index (slice_set marks word 1) k ≡ slice_index marks k = get_or-set_other marks word k 1 0 apart in
    let count : times k (replaced ++ (word, began) ∷ []) ≡ times k replaced + cond (word == k) 1 0 = times_push k replaced (word, began) in
    let was = marked.counted k in
    let most = marked.once k in
    (grind (arith, nat_tests), omega arith)

pub marked_first : (replaced : List (ℕ × ℕ)) (marks : List ℕ) (size word began : ℕ) → IsMarked replaced marks size → times word replaced ≡ 0 → word < size → length marks ≡ size
    → IsMarked (replaced ++ (word, began) ∷ []) (slice_set marks word 1) size
marked_first replaced marks size word began marked none below made =
    let each : (k : ℕ) → (times k (replaced ++ (word, began) ∷ []) ≡ slice_index (slice_set marks word 1) k) × (slice_index (slice_set marks word 1) k ≤ 1)
    = λ k. marked_once replaced marks size word began k (word == k) refl marked none (omega arith) in
    record {
      within = All-push (λ write. write.0 < size) replaced (word, began) marked.within below;
      counted = λ k. (each k).0;
      once = λ k. (each k).1;
      made = λ some. length-set marks word 1 ∙ made;
    }

pub marked_made : (replaced : List (ℕ × ℕ)) (marks made : List ℕ) (size : ℕ) → IsMarked replaced marks size → ((k : ℕ) → slice_index made k ≡ slice_index marks k)
    → length made ≡ size → IsMarked replaced made size
marked_made replaced marks made size marked same long = record {
  within = marked.within;
  counted = λ k. marked.counted k ∙ sym (same k);
  once = λ k. let e = same k in let most = marked.once k in omega arith;
  made = λ some. long;
}

-- THE MARKS, CLEARED.
pub record AreLeft (marks : List ℕ) (rest : List (ℕ × ℕ)) : Type 0 where
  pub named : (k : ℕ) → 0 < slice_index marks k → 0 < times k rest

left_by : (marks : List ℕ) (write : ℕ × ℕ) (rest : List (ℕ × ℕ)) (k : ℕ) (same : Bool) → (write.0 == k) ≡ same → write.0 < length marks
    → AreLeft marks (write ∷ rest) → 0 < slice_index (slice_set marks write.0 0) k → 0 < times k rest
left_by marks write rest k true is below left some =
    let e : write.0 ≡ k = grind (arith, nat_tests) in
    let set : slice_index (slice_set marks write.0 0) k ≡ 0 = rw (← e) (get_or-set_same marks write.0 0 0 below) in
    absurd (omega arith)
left_by marks write rest k false is below left some =
    let apart : k ≢ write.0 = grind (arith, nat_tests) in
    let set : slice_index (slice_set marks write.0 0) k ≡ slice_index marks k = get_or-set_other marks write.0 k 0 0 apart in
    let named : 0 < times k (write ∷ rest) = left.named k (omega arith) in
    grind (arith, nat_tests)

pub left_more : (marks : List ℕ) (replaced : List (ℕ × ℕ)) (i : ℕ) (d : ℕ × ℕ) → i < length replaced → (get_or replaced i d).0 < length marks
    → AreLeft marks (drop i replaced) → AreLeft (slice_set marks (get_or replaced i d).0 0) (drop (i + 1) replaced)
left_more marks replaced i d within below left =
    let now : AreLeft marks (get_or replaced i d ∷ drop (i + 1) replaced) = rw (drop_more replaced i d within) at left in
    record { named = λ k some. left_by marks (get_or replaced i d) (drop (i + 1) replaced) k ((get_or replaced i d).0 == k) refl below now some }

pub clear_from_left : (marks : List ℕ) (replaced : List (ℕ × ℕ)) (n : ℕ) → length replaced ≤ n → AreLeft marks (drop n replaced) → AreClear marks
clear_from_left marks replaced n all left =
    let none : AreLeft marks [] = rw (drop_all n replaced all) at left in
    λ k. elim (cases_lt 0 (slice_index marks k)) [ inl some ↦ absurd (omega (arith, none.named k some)) | inr zero ↦ omega arith ]

pub none_marked : (marks : List ℕ) (size : ℕ) → AreClear marks → IsMarked [] marks size
none_marked marks size clear = record {
  within = search rules;
  counted = λ k. sym (clear k);
  once = λ k. let e = clear k in omega arith;
  made = λ some. absurd (omega arith);
}

pub marks_reach : (replaced : List (ℕ × ℕ)) (marks : List ℕ) (size : ℕ) → IsMarked replaced marks size → All (λ write. write.0 < length marks) replaced
marks_reach [] marks size marked = search rules
marks_reach (write ∷ rest) marks size marked =
    let long : length marks ≡ size = marked.made (omega arith) in
    rw long marked.within
