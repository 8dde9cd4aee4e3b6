-- The token at the front of some bytes.
use Rattle.std.proofs.Common.{◌≡◌, ◌≤◌, ◌<◌, ◌+◌, ℕ, zero, suc, List, [], ◌∷◌, Bool, true, false, ◌==◌, cond, refl, sym, subst, ◌∙◌, Some, arith, length, take}
use Rattle.std.proofs.lemmas.Bool.{and_parts, and_from}
use Rattle.ocr_text.specs.declared.token.TokenKind.{TokenKind}
use Rattle.ocr_text.specs.declared.token.TokenKind.TheVariants as kind
use Rattle.ocr_text.specs.Forms.{is_form, is_double, is_symbol}
use Rattle.ocr_text.specs.Scan.{kind_at, goes_on, second_of, rest_of}
use Rattle.ocr_text.proofs.Bytes.{first_byte, begins_is, some_is}
use Rattle.ocr_text.proofs.Runs.{run_all, run_within, run_most}

-- the first n bytes are the longest match of any kind, and it is of this kind
pub record IsFront (bytes : List ℕ) (k : TokenKind) (n : ℕ) : Type 0 where
  pub some : 0 < n
  pub within : n ≤ length bytes
  pub form : is_form k (take n bytes) ≡ true
  pub longest : (other : TokenKind) (m : ℕ) → m ≤ length bytes → is_form other (take m bytes) ≡ true → m ≤ n

bound : (x : Bool) (bs : List ℕ) → cond x 1 0 ≤ suc (length bs)
bound true bs = omega arith
bound false bs = omega arith

second_within : (a : ℕ) (bs : List ℕ) → second_of a bs ≤ length bs
second_within a [] = omega arith
second_within a (b ∷ bs) = bound (is_double a b) bs

rest_within : (k : TokenKind) (b : ℕ) (bs : List ℕ) → rest_of k b bs ≤ length bs
rest_within kind.Blank b bs = run_within (goes_on kind.Blank) bs
rest_within kind.Comment b bs = run_within (goes_on kind.Comment) bs
rest_within kind.Number b bs = run_within (goes_on kind.Number) bs
rest_within kind.Name b bs = run_within (goes_on kind.Name) bs
rest_within kind.Symbol b bs = second_within b bs

symbol_one : (a b : ℕ) (bs : List ℕ) (x : Bool) → is_double a b ≡ x → is_symbol (a ∷ []) ≡ true → is_symbol (a ∷ take (cond x 1 0) (b ∷ bs)) ≡ true
symbol_one a b bs true is single = is
symbol_one a b bs false is single = single

symbol_form : (a : ℕ) (bs : List ℕ) → is_symbol (a ∷ []) ≡ true → is_symbol (a ∷ take (second_of a bs) bs) ≡ true
symbol_form a [] single = single
symbol_form a (b ∷ bs) single = symbol_one a b bs (is_double a b) refl single

rest_form : (k : TokenKind) (b : ℕ) (bs : List ℕ) → kind_at b ≡ Some k → is_form k (b ∷ take (rest_of k b bs) bs) ≡ true
rest_form kind.Blank b bs is = and_from _ _ (begins_is b kind.Blank is) (run_all (goes_on kind.Blank) bs)
rest_form kind.Comment b bs is = and_from _ _ (begins_is b kind.Comment is) (run_all (goes_on kind.Comment) bs)
rest_form kind.Number b bs is = and_from _ _ (begins_is b kind.Number is) (run_all (goes_on kind.Number) bs)
rest_form kind.Name b bs is = and_from _ _ (begins_is b kind.Name is) (run_all (goes_on kind.Name) bs)
rest_form kind.Symbol b bs is = symbol_form b bs (begins_is b kind.Symbol is)

second_most : (a : ℕ) (bs : List ℕ) (m : ℕ) → m ≤ length bs → is_symbol (a ∷ take m bs) ≡ true → m ≤ second_of a bs
second_most a bs zero within form = omega arith
second_most a [] (suc m) within form = absurd (omega (arith, within))
second_most a (b ∷ bs) (suc zero) within form = subst (λ (x : Bool). 1 ≤ cond x 1 0) (sym form) (omega arith)
second_most a (b ∷ []) (suc (suc m)) within form = absurd (omega (arith, within))
second_most a (b ∷ c ∷ bs) (suc (suc m)) within form = cc

rest_most : (k : TokenKind) (b : ℕ) (bs : List ℕ) (m : ℕ) → m ≤ length bs → is_form k (b ∷ take m bs) ≡ true → m ≤ rest_of k b bs
rest_most kind.Blank b bs m within form = run_most (goes_on kind.Blank) bs m within (and_parts _ _ form).1
rest_most kind.Comment b bs m within form = run_most (goes_on kind.Comment) bs m within (and_parts (b == 35) _ form).1
rest_most kind.Number b bs m within form = run_most (goes_on kind.Number) bs m within (and_parts _ _ form).1
rest_most kind.Name b bs m within form = run_most (goes_on kind.Name) bs m within (and_parts _ _ form).1
rest_most kind.Symbol b bs m within form = second_most b bs m within form

pub no_form : (k : TokenKind) → is_form k [] ≡ true → ⊥
no_form kind.Blank is = cc
no_form kind.Comment is = cc
no_form kind.Number is = cc
no_form kind.Name is = cc
no_form kind.Symbol is = cc

longest_here : (b : ℕ) (bs : List ℕ) (k : TokenKind) → kind_at b ≡ Some k → (other : TokenKind) (m : ℕ) → m ≤ suc (length bs) → is_form other (take m (b ∷ bs)) ≡ true → m ≤ rest_of k b bs + 1
longest_here b bs k is other zero within form = omega arith
longest_here b bs k is other (suc m) within form =
    let same : other ≡ k = some_is other k (sym (first_byte other b (take m bs) form) ∙ is) in
    let most : m ≤ rest_of k b bs = rest_most k b bs m (omega arith) (subst (λ (t : TokenKind). is_form t (b ∷ take m bs) ≡ true) same form) in
    omega arith

pub front_of : (b : ℕ) (bs : List ℕ) (k : TokenKind) → kind_at b ≡ Some k → IsFront (b ∷ bs) k (rest_of k b bs + 1)
front_of b bs k is =
    let more : suc (rest_of k b bs) ≡ rest_of k b bs + 1 = omega arith in
    record {
      some = omega arith;
      within = omega (arith, rest_within k b bs);
      form = subst (λ (n : ℕ). is_form k (take n (b ∷ bs)) ≡ true) more (rest_form k b bs is);
      longest = longest_here b bs k is;
    }
