-- Writes that rise, and the words that they are made in.
use Rattle.std.proofs.Common.{◌≡◌, ◌≢◌, ◌<◌, ◌≤◌, ℕ, ◌+◌, List, [], ◌∷◌, Bool, true, false, cond, ◌==◌, eqb, ltb, Option, Some, None, length, slice_index, slice_set, unwrap_or, arith, refl, rules, sym, ◌∙◌, ap}
use Rattle.std.proofs.lemmas.Bool.{cond_both}
use Rattle.std.proofs.lemmas.Bool.Decides.{nat_tests}
use Rattle.std.proofs.lemmas.List.{length-set, get_or-set_same, get_or-set_other}
use Rattle.std.proofs.lemmas.List.Elements.{All-cons, All-head, All-tail, All-same, All-rest}
use Rattle.std.specs.List.{All}
use Rattle.std.specs.Map.{lookup}
use Rattle.std.specs.BTreeMap.{insert_entry, is_at}
use Rattle.std.specs.declared.cmp.Ordering.TheVariants.{Less, Equal, Greater}
use Rattle.std.specs.Ordering.{match_ordering, nat_cmp, is_eq}
use Rattle.ocr_acquire.specs.Writes.{put, value_at, written, RisesFrom, IsRising, PutLaw, WrittenLaw}

match_is : {X : Type 0} (a b : Bool) (x y z : X) → match_ordering (cond a Less (cond b Equal Greater)) x y z ≡ cond a x (cond b y z)
match_is true b x y z = refl
match_is false true x y z = refl
match_is false false x y z = refl

-- a map of words keeps the writes
pub insert_is_put : (writes : List (ℕ × ℕ)) (word value : ℕ) → insert_entry nat_cmp writes word value ≡ put word value writes
insert_is_put [] word value = refl
insert_is_put (write ∷ rest) word value =
    match_is (ltb word write.0) (eqb word write.0) _ _ _
    ∙ ap (λ tail. cond (ltb word write.0) ((word, value) ∷ write ∷ rest) (cond (eqb word write.0) ((write.0, value) ∷ rest) (write ∷ tail))) (insert_is_put rest word value)

is_at_is : (a b : Bool) → is_eq (cond a Less (cond b Equal Greater)) ≡ cond a false b
is_at_is true b = refl
is_at_is false true = refl
is_at_is false false = refl

same_test : (k word : ℕ) → is_at (nat_cmp k) word ≡ (word == k)
same_test k word = is_at_is (ltb k word) (eqb k word) ∙ grind (arith, nat_tests)

pub lookup_is_value : (writes : List (ℕ × ℕ)) (k : ℕ) → lookup (is_at (nat_cmp k)) writes ≡ value_at k writes
lookup_is_value [] k = refl
lookup_is_value (write ∷ rest) k = rw (same_test k write.0, lookup_is_value rest k) refl

pub rises_put : (low word value : ℕ) (writes : List (ℕ × ℕ)) → low ≤ word → RisesFrom low writes → RisesFrom low (put word value writes)
rises_put low word value [] above rise = (above, tt)
rises_put low word value (write ∷ rest) above rise =
    cond_both (ltb word write.0) ((word, value) ∷ write ∷ rest) _ (RisesFrom low)
    (λ less. (above, (grind (arith, nat_tests), rise.1)))
    (λ more. cond_both (eqb word write.0) ((write.0, value) ∷ rest) (write ∷ put word value rest) (RisesFrom low)
    (λ same. rise)
    (λ apart. (rise.0, rises_put (write.0 + 1) word value rest (grind (arith, nat_tests)) rise.1)))

pub value_put : (k word value : ℕ) (writes : List (ℕ × ℕ)) → value_at k (put word value writes) ≡ cond (word == k) (Some value) (value_at k writes)
value_put k word value [] = refl
value_put k word value (write ∷ rest) = grind (arith, nat_tests, value_put k word value rest)

pub value_none : (low k : ℕ) (writes : List (ℕ × ℕ)) → RisesFrom low writes → k < low → value_at k writes ≡ None
value_none low k [] rise below = refl
value_none low k (write ∷ rest) rise below =
    let none : value_at k rest ≡ None = value_none (write.0 + 1) k rest rise.1 (omega arith) in
    let apart : (write.0 == k) ≡ false = grind (arith, nat_tests) in
    rw (apart, none) refl

pub length_written : (writes : List (ℕ × ℕ)) (words : List ℕ) → length (written writes words) ≡ length words
length_written [] words = refl
length_written (write ∷ rest) words = length_written rest (slice_set words write.0 write.1) ∙ length-set words write.0 write.1

word_set : (b : Bool) (write : ℕ × ℕ) (rest : List (ℕ × ℕ)) (words : List ℕ) (k : ℕ) → (write.0 == k) ≡ b → RisesFrom (write.0 + 1) rest → k < length words
    → unwrap_or (value_at k rest) (slice_index (slice_set words write.0 write.1) k) ≡ unwrap_or (cond b (Some write.1) (value_at k rest)) (slice_index words k)
word_set true write rest words k is rise below =
    let same : write.0 ≡ k = search rules in
    let none : value_at k rest ≡ None = value_none (write.0 + 1) k rest rise (omega arith) in
    rw (none, same) (get_or-set_same words k write.1 0 below)
word_set false write rest words k is rise below =
    let apart : k ≢ write.0 = grind (arith, nat_tests) in
    ap (λ (x : ℕ). unwrap_or (value_at k rest) x) (get_or-set_other words write.0 k write.1 0 apart)

-- a word after rising writes
pub word_written : (low : ℕ) (writes : List (ℕ × ℕ)) (words : List ℕ) (k : ℕ) → RisesFrom low writes → k < length words
    → slice_index (written writes words) k ≡ unwrap_or (value_at k writes) (slice_index words k)
word_written low [] words k rise below = refl
word_written low (write ∷ rest) words k rise below =
    let kept : length (slice_set words write.0 write.1) ≡ length words = length-set words write.0 write.1 in
    let later : slice_index (written rest (slice_set words write.0 write.1)) k ≡ unwrap_or (value_at k rest) (slice_index (slice_set words write.0 write.1) k)
    = word_written (write.0 + 1) rest (slice_set words write.0 write.1) k rise.1 (omega arith) in
    later ∙ word_set (write.0 == k) write rest words k refl rise.1 below

-- what a look-up among the stored values tells of a word
pub word_found : (writes : List (ℕ × ℕ)) (words : List ℕ) (k value : ℕ) → IsRising writes → k < length words
    → lookup (is_at (nat_cmp k)) writes ≡ Some value → slice_index (written writes words) k ≡ value
word_found writes words k value rise below found =
    word_written 0 writes words k rise below ∙ ap (λ (o : Option ℕ). unwrap_or o (slice_index words k)) (sym (lookup_is_value writes k) ∙ found)

pub word_not_found : (writes : List (ℕ × ℕ)) (words : List ℕ) (k : ℕ) → IsRising writes → k < length words
    → lookup (is_at (nat_cmp k)) writes ≡ None → slice_index (written writes words) k ≡ slice_index words k
word_not_found writes words k rise below missing =
    word_written 0 writes words k rise below ∙ ap (λ (o : Option ℕ). unwrap_or o (slice_index words k)) (sym (lookup_is_value writes k) ∙ missing)

-- the words of writes stay below a bound
pub within_put : (n word value : ℕ) (writes : List (ℕ × ℕ)) → word < n → All (λ write. write.0 < n) writes → All (λ write. write.0 < n) (put word value writes)
within_put n word value [] below all = All-cons (λ write. write.0 < n) (word, value) [] below all
within_put n word value (write ∷ rest) below all =
    let Below : List (ℕ × ℕ) → Type 0 = λ writes. All (λ write. write.0 < n) writes in
    let first : write.0 < n = All-head (λ write. write.0 < n) write rest all in
    let others : All (λ write. write.0 < n) rest = All-tail (λ write. write.0 < n) write rest all in
    cond_both (ltb word write.0) ((word, value) ∷ write ∷ rest) _ Below
    (λ less. All-cons (λ write. write.0 < n) (word, value) (write ∷ rest) below all)
    (λ more. cond_both (eqb word write.0) ((write.0, value) ∷ rest) (write ∷ put word value rest) Below
    (λ same. All-cons (λ write. write.0 < n) (write.0, value) rest first others)
    (λ apart. All-cons (λ write. write.0 < n) write (put word value rest) first (within_put n word value rest below others)))

pub first_within : (n : ℕ) (first : ℕ × ℕ) (rest all : List (ℕ × ℕ)) → all ≡ first ∷ rest → All (λ write. write.0 < n) all → first.0 < n
first_within n first rest all is within = All-head (λ write. write.0 < n) first rest (All-same (λ write. write.0 < n) (first ∷ rest) all (sym is) within)

pub rest_within : (n : ℕ) (first : ℕ × ℕ) (rest all : List (ℕ × ℕ)) → all ≡ first ∷ rest → All (λ write. write.0 < n) all → All (λ write. write.0 < n) rest
rest_within n first rest all is within = All-rest (λ write. write.0 < n) first rest all is within

pub put_law : PutLaw
put_law word value writes = (λ rise. rises_put 0 word value writes (omega arith) rise, λ k. value_put k word value writes)

pub written_law : WrittenLaw
written_law writes words = (length_written writes words, λ k rise below. word_written 0 writes words k rise below)
