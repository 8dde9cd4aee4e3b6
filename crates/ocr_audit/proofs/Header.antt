-- The line before a task text, and what its digits tell.
use Rattle.std.proofs.Common.{◌≡◌, ◌≤◌, ◌<◌, ◌+◌, ◌-◌, ◌^◌, ℕ, zero, suc, List, [], ◌∷◌, ◌++◌, Bool, true, false, cond, Option, Some, None, refl, sym, ap, subst, ◌∙◌, add-zero, length-drop, drop-cons, length, take, drop, get_or, slice_get, slice_range, arith, rules, codes, decimal}
use Rattle.std.proofs.lemmas.Bool.{and_parts, and_from}
use Rattle.std.proofs.lemmas.Fmt.{digits_decimal, digits_value-decimal, decimal-digits_value, decimal_injective, decimal_nonempty, first_decimal, decimal_digit}
use Rattle.std.proofs.lemmas.List.{append_cancel_left, get_or-drop, length-append, length-take-le, take-append-drop}
use Rattle.std.proofs.lemmas.List.Folds.{drop_split}
use Rattle.std.proofs.lemmas.Option.{slice_get-get_or, slice_get_within, get_or_from_slice_get}
use Rattle.std.proofs.lemmas.Str.Parse.{IsNumeralModel, IsDigitsTest, FoldsDigits, numerals_by_fold}
use Rattle.std.proofs.Math.Seq.{take-append_seam, drop-append_seam, drop-append-add}
use Rattle.std.specs.List.{list_all, prefix_len}
use Rattle.ocr_text.specs.Forms.{is_digit, value_of}
use Rattle.ocr_text.specs.Scan.{value_on}
use Rattle.ocr_audit.specs.Input.{IsInput, IsPlain, IsSplit, header}
use Rattle.ocr_audit.specs.declared.input.TheConstants.{MOST_BYTES}

-- ---- numbers

tells : IsDigitsTest (λ ds. list_all is_digit ds ≡ true)
tells = search rules

folds : FoldsDigits value_on
folds = record { empty = λ n. refl; more = λ n c cs is. ap (λ (m : ℕ). value_on m cs) (omega arith) }

own : IsNumeralModel (λ ds. list_all is_digit ds ≡ true) value_of
own = numerals_by_fold _ tells value_on folds

pub fits : (n : ℕ) → n ≤ MOST_BYTES → n < 2 ^ 64
fits n few = omega (arith, few)

pub decimal_plain : (n : ℕ) → n < 2 ^ 64 → IsPlain (decimal n)
decimal_plain zero low = (decimal_nonempty zero low, λ _. ap length (decimal_digit 0 (omega arith)))
decimal_plain (suc n) low = (decimal_nonempty (suc n) low, λ is. absurd (omega (arith, is, first_decimal (suc n) (omega arith) low)))

pub decimal_value : (n : ℕ) → n < 2 ^ 64 → value_of (decimal n) ≡ n
decimal_value n low = digits_value-decimal own n low

pub decimal_all : (n : ℕ) → n < 2 ^ 64 → list_all is_digit (decimal n) ≡ true
decimal_all n low = digits_decimal own n low

-- plain digits are what is written of their value
pub written_plain : (ds : List ℕ) → list_all is_digit ds ≡ true → IsPlain ds → value_of ds < 2 ^ 64 → ds ≡ decimal (value_of ds)
written_plain ds all plain low = sym (decimal-digits_value own ds all plain.0 plain.1 low)

-- ---- the line

-- digits are all that stands before a line feed
digits_before : (ds rest : List ℕ) → list_all is_digit ds ≡ true → prefix_len is_digit (ds ++ 10 ∷ rest) ≡ length ds
digits_before [] rest all = refl
digits_before (d ∷ ds) rest all =
    let more : 1 + prefix_len is_digit (ds ++ 10 ∷ rest) ≡ suc (length ds) = omega (arith, digits_before ds rest (and_parts (is_digit d) _ all).1) in
    ap (λ (x : Bool). cond x (1 + prefix_len is_digit (ds ++ 10 ∷ rest)) 0) (and_parts _ _ all).0 ∙ more

front_one : (b : ℕ) (bytes : List ℕ) (x : Bool) → is_digit b ≡ x → list_all is_digit (take (prefix_len is_digit bytes) bytes) ≡ true
    → list_all is_digit (take (cond x (1 + prefix_len is_digit bytes) 0) (b ∷ bytes)) ≡ true
front_one b bytes true is rest =
    let more : suc (prefix_len is_digit bytes) ≡ 1 + prefix_len is_digit bytes = omega arith in
    subst (λ (n : ℕ). list_all is_digit (take n (b ∷ bytes)) ≡ true) more (and_from (is_digit b) _ is rest)
front_one b bytes false is rest = refl

-- the bytes of the front are digits
pub front_all : (bytes : List ℕ) → list_all is_digit (take (prefix_len is_digit bytes) bytes) ≡ true
front_all [] = refl
front_all (b ∷ bytes) = front_one b bytes (is_digit b) refl (front_all bytes)

-- a line that an input begins with, of which the word is left out
pub record IsLine (line text rest : List ℕ) : Type 0 where
  pub laid : line ≡ decimal (length text) ++ 10 ∷ (text ++ rest)
  pub few : length text ≤ MOST_BYTES

-- its digits, and what follows them
pub width : (line text rest : List ℕ) → IsLine line text rest → prefix_len is_digit line ≡ length (decimal (length text))
width line text rest is = ap (prefix_len is_digit) is.laid ∙ digits_before _ (text ++ rest) (decimal_all (length text) (fits _ is.few))

pub digits : (line text rest : List ℕ) → IsLine line text rest → take (prefix_len is_digit line) line ≡ decimal (length text)
digits line text rest is = (λ i. take (width line text rest is i) (is.laid i)) ∙ take-append_seam (decimal (length text)) (10 ∷ (text ++ rest))

pub behind : (line text rest : List ℕ) → IsLine line text rest → drop (prefix_len is_digit line) line ≡ 10 ∷ (text ++ rest)
behind line text rest is = (λ i. drop (width line text rest is i) (is.laid i)) ∙ drop-append_seam (decimal (length text)) (10 ∷ (text ++ rest))

pub line_of : (bytes line text rest : List ℕ) → bytes ≡ codes "program " ++ line → IsInput bytes text rest → IsLine line text rest
line_of bytes line text rest at is = record {
  laid = append_cancel_left (codes "program ") line _ (sym at ∙ is.laid);
  few = is.few;
}

-- ---- at most one

pub one_length : (line text rest other others : List ℕ) → IsLine line text rest → IsLine line other others → length text ≡ length other
one_length line text rest other others is also =
    decimal_injective (length text) (length other) (fits _ is.few) (fits _ also.few) (sym (digits line text rest is) ∙ digits line other others also)

fronts_same : (xs ys us vs : List ℕ) → length xs ≡ length us → xs ++ ys ≡ us ++ vs → (xs ≡ us) × (ys ≡ vs)
fronts_same xs ys us vs len is =
    let left : take (length xs) (xs ++ ys) ≡ take (length us) (us ++ vs) = (λ i. take (len i) (is i)) in
    let right : drop (length xs) (xs ++ ys) ≡ drop (length us) (us ++ vs) = (λ i. drop (len i) (is i)) in
    (sym (take-append_seam xs ys) ∙ left ∙ take-append_seam us vs, sym (drop-append_seam xs ys) ∙ right ∙ drop-append_seam us vs)

pub one_line : (line text rest other others : List ℕ) → IsLine line text rest → IsLine line other others → (text ≡ other) × (rest ≡ others)
one_line line text rest other others is also =
    fronts_same text rest other others (one_length line text rest other others is also)
    (ap (drop 1) (sym (behind line text rest is) ∙ behind line other others also))

pub one_input : (bytes text rest other others : List ℕ) → IsInput bytes text rest → IsInput bytes other others → (text ≡ other) × (rest ≡ others)
one_input bytes text rest other others is also =
    one_line _ text rest other others
    (record { laid = refl; few = is.few })
    (line_of bytes (decimal (length text) ++ 10 ∷ (text ++ rest)) other others is.laid also)

-- ---- counts

pub none_some : {A B : Type 0} {x : A} → (let r : Option A = None in r ≡ Some x) → B
none_some is = absurd (cc is)

-- a count is told exactly
abbrev pub Counts : List ℕ → Option ℕ → Type 0
Counts ds r = (n : ℕ) → (r ≡ Some n → (ds ≡ decimal n) × (n ≤ MOST_BYTES)) × ((ds ≡ decimal n) × (n ≤ MOST_BYTES) → r ≡ Some n)

pub no_count : (ds : List ℕ) (r : Option ℕ) → r ≡ None → ((n : ℕ) → ds ≡ decimal n → n ≤ MOST_BYTES → ⊥) → Counts ds r
no_count ds r is never n = (λ some. none_some (sym is ∙ some), λ h. absurd (never n h.0 h.1))

pub not_plain : (ds : List ℕ) → (IsPlain ds → ⊥) → (n : ℕ) → ds ≡ decimal n → n ≤ MOST_BYTES → ⊥
not_plain ds never n is few = never (subst IsPlain (sym is) (decimal_plain n (fits n few)))

pub too_many : (ds : List ℕ) → MOST_BYTES < value_of ds → (n : ℕ) → ds ≡ decimal n → n ≤ MOST_BYTES → ⊥
too_many ds more n is few =
    let same : value_of ds ≡ n = ap value_of is ∙ decimal_value n (fits n few) in
    omega (arith, same, more, few)

pub some_is : {A : Type 0} (x y : A) → (let r : Option A = Some x in r ≡ Some y) → x ≡ y
some_is x y is = cc

pub some_count : (ds : List ℕ) (v : ℕ) → list_all is_digit ds ≡ true → IsPlain ds → v ≡ value_of ds → v ≤ MOST_BYTES → Counts ds (Some v)
some_count ds v all plain value few n =
    let is : ds ≡ decimal v = written_plain ds all plain (subst (λ (m : ℕ). m < 2 ^ 64) value (fits v few)) ∙ ap decimal (sym value) in (
      λ some. let same : v ≡ n = some_is v n some in (is ∙ ap decimal same, subst (λ (m : ℕ). m ≤ MOST_BYTES) same few),
      λ h. ap (λ (m : ℕ). Some m) (decimal_injective v n (fits v few) (fits n h.1) (sym is ∙ h.0)),
    )

-- ---- splits

-- places are told exactly
abbrev pub Splits : List ℕ → Option (ℕ × ℕ) → Type 0
Splits bytes r = (a b : ℕ) → (r ≡ Some (a, b) → IsSplit bytes a b) × (IsSplit bytes a b → r ≡ Some (a, b))

pub no_split : (bytes : List ℕ) (r : Option (ℕ × ℕ)) → r ≡ None → ((text rest : List ℕ) → IsInput bytes text rest → ⊥) → Splits bytes r
no_split bytes r is never a b = (λ some. none_some (sym is ∙ some), λ split. absurd (never split.text split.rest split.input))

feed_from : (line : List ℕ) (w x : ℕ) (rest : List ℕ) → drop w line ≡ x ∷ rest → slice_get line w ≡ Some x
feed_from line w x rest is =
    let size : length line - w ≡ suc (length rest) = sym (length-drop w line) ∙ ap length is in
    let at : get_or line w x ≡ x = ap (λ (k : ℕ). get_or line k x) (sym (add-zero w)) ∙ sym (get_or-drop w line 0 x) ∙ ap (λ (l : List ℕ). get_or l 0 x) is in
    slice_get-get_or line w x (omega (arith, size)) ∙ ap (λ (y : ℕ). Some y) at

-- behind them the line ends
pub feed_told : (bytes line text rest : List ℕ) → bytes ≡ codes "program " ++ line → IsInput bytes text rest
    → slice_get line (prefix_len is_digit line) ≡ Some 10
feed_told bytes line text rest at is = feed_from line _ 10 (text ++ rest) (behind line text rest (line_of bytes line text rest at is))

-- and the text follows
pub room_told : (bytes line text rest : List ℕ) → bytes ≡ codes "program " ++ line → IsInput bytes text rest
    → 8 + prefix_len is_digit line + 1 + length text ≤ length bytes
room_told bytes line text rest at is =
    let own : IsLine line text rest = line_of bytes line text rest at is in
    let w : prefix_len is_digit line ≡ length (decimal (length text)) = width line text rest own in
    let all : length bytes ≡ 8 + length line = ap length at ∙ length-append (codes "program ") line in
    let size : length line ≡ length (decimal (length text)) + suc (length text + length rest) =
    ap length own.laid ∙ length-append (decimal (length text)) (10 ∷ (text ++ rest)) ∙ ap (λ (k : ℕ). length (decimal (length text)) + suc k) (length-append text rest) in
    omega (arith, w, all, size)

-- the text that stands there has its length
pub text_size : (bytes : List ℕ) (start n : ℕ) → start + n ≤ length bytes → length (slice_range bytes start (start + n)) ≡ n
text_size bytes start n room =
    let size : length (drop start bytes) ≡ length bytes - start = length-drop start bytes in
    let span : start + n - start ≡ n = omega arith in
    ap (λ (k : ℕ). length (take k (drop start bytes))) span ∙ length-take-le n (drop start bytes) (omega (arith, size, room))

-- where digits write a count, the line ends behind them, and so many bytes follow, they are an input
pub found : (bytes line : List ℕ) (w n : ℕ) → bytes ≡ codes "program " ++ line → take w line ≡ decimal n → n ≤ MOST_BYTES → slice_get line w ≡ Some 10
    → 8 + w + 1 + n ≤ length bytes → IsInput bytes (slice_range bytes (8 + w + 1) (8 + w + 1 + n)) (drop (8 + w + 1 + n) bytes)
found bytes line w n at is few feed room =
    let start : ℕ = 8 + w + 1 in
    let text : List ℕ = slice_range bytes start (start + n) in
    let rest : List ℕ = drop (start + n) bytes in
    let size : length text ≡ n = text_size bytes start n room in
    let behind_word : drop start bytes ≡ drop (w + 1) line =
    (λ i. drop (let same : start ≡ 8 + (w + 1) = omega arith in same i) (at i)) ∙ drop-append-add (codes "program ") line (w + 1) in
    let after : drop (w + 1) line ≡ text ++ rest = sym behind_word ∙ drop_split bytes start (start + n) (omega arith) in
    let within : w < length line = slice_get_within line w 10 feed in
    let at_end : drop w line ≡ 10 ∷ (text ++ rest) =
    drop-cons line w 10 within ∙ (λ i. get_or_from_slice_get line w 10 10 feed i ∷ (ap (λ (k : ℕ). drop k line) (let more : suc w ≡ w + 1 = omega arith in more) ∙ after) i) in
    let laid : line ≡ decimal n ++ 10 ∷ (text ++ rest) = sym (take-append-drop w line) ∙ (λ i. is i ++ at_end i) in
    record {
      laid = at ∙ ap (λ (l : List ℕ). codes "program " ++ l) (laid ∙ ap (λ (k : ℕ). decimal k ++ 10 ∷ (text ++ rest)) (sym size));
      few = subst (λ (k : ℕ). k ≤ MOST_BYTES) (sym size) few;
    }

header_size : (n : ℕ) → length (header n) ≡ 8 + length (decimal n) + 1
header_size n =
    let all : length (header n) ≡ 8 + length (decimal n ++ 10 ∷ []) = length-append (codes "program ") (decimal n ++ 10 ∷ []) in
    let line : length (decimal n ++ 10 ∷ []) ≡ length (decimal n) + 1 = length-append (decimal n) (10 ∷ []) in
    omega (arith, all, line)

pair_some : (x y : ℕ × ℕ) → (let r : Option (ℕ × ℕ) = Some x in r ≡ Some y) → x ≡ y
pair_some x y is = cc

pub found_split : (bytes : List ℕ) (w n : ℕ) → length (decimal n) ≡ w → 8 + w + 1 + n ≤ length bytes
    → IsInput bytes (slice_range bytes (8 + w + 1) (8 + w + 1 + n)) (drop (8 + w + 1 + n) bytes)
    → Splits bytes (Some (8 + w + 1, 8 + w + 1 + n))
found_split bytes w n digits room input a b =
    let start : ℕ = 8 + w + 1 in
    let text : List ℕ = slice_range bytes start (start + n) in
    let size : length text ≡ n = text_size bytes start n room in
    let head : start ≡ length (header (length text)) = omega (arith, digits, header_size n) ∙ ap (λ (k : ℕ). length (header k)) (sym size) in
    let own : IsSplit bytes start (start + n) = record {
      text = text;
      rest = drop (start + n) bytes;
      input = input;
      start = head;
      end = ap (λ (k : ℕ). start + k) (sym size);
    } in (
      λ some. let P : ℕ × ℕ → Type 0 = λ p. IsSplit bytes p.0 p.1 in subst P (pair_some (start, start + n) (a, b) some) own,
      λ split.
          let same : text ≡ split.text = (one_input bytes text _ split.text split.rest input split.input).0 in
          let from : start ≡ a = head ∙ ap (λ (t : List ℕ). length (header (length t))) same ∙ sym split.start in
          let to : start + n ≡ b = (λ i. from i + (sym size ∙ ap length same) i) ∙ sym split.end in
          λ i. Some (from i, to i),
    )

-- an input begins with the word, digits that write a count, and the end of the line
pub no_input : (bytes line : List ℕ) (w : ℕ) → bytes ≡ codes "program " ++ line → w ≡ prefix_len is_digit line
    → ((n : ℕ) → take w line ≡ decimal n → n ≤ MOST_BYTES → slice_get line w ≡ Some 10 → 8 + w + 1 + n ≤ length bytes → ⊥)
    → (text rest : List ℕ) → IsInput bytes text rest → ⊥
no_input bytes line w at is never text rest input =
    let own : IsLine line text rest = line_of bytes line text rest at input in
    never (length text) (ap (λ (k : ℕ). take k line) is ∙ digits line text rest own) input.few
    (ap (slice_get line) is ∙ feed_told bytes line text rest at input)
    (subst (λ (k : ℕ). 8 + k + 1 + length text ≤ length bytes) (sym is) (room_told bytes line text rest at input))
