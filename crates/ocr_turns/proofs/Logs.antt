-- Numbers beside entries.
use Rattle.std.proofs.Common.{◌≡◌, ℕ, List, [], ◌∷◌, ◌++◌, length, refl, ap, arith}
use Rattle.std.specs.List.{zip}
use Rattle.ocr_turns_rule.specs.Sums.{entries, keys}

module _ {E : Type 0} where
  pub keys_zip : (ns : List ℕ) (es : List E) → length ns ≡ length es → keys (zip ns es) ≡ ns
  keys_zip [] es same = refl
  keys_zip (n ∷ ns) [] same = absurd (omega (arith, same))
  keys_zip (n ∷ ns) (e ∷ es) same = ap (λ l. n ∷ l) (keys_zip ns es (omega (arith, same)))

  pub entries_zip : (ns : List ℕ) (es : List E) → length ns ≡ length es → entries (zip ns es) ≡ es
  entries_zip [] [] same = refl
  entries_zip [] (e ∷ es) same = absurd (omega (arith, same))
  entries_zip (n ∷ ns) [] same = absurd (omega (arith, same))
  entries_zip (n ∷ ns) (e ∷ es) same = ap (λ l. e ∷ l) (entries_zip ns es (omega (arith, same)))

  pub zip_size : (ns : List ℕ) (es : List E) → length ns ≡ length es → length (zip ns es) ≡ length ns
  zip_size [] es same = refl
  zip_size (n ∷ ns) [] same = absurd (omega (arith, same))
  zip_size (n ∷ ns) (e ∷ es) same = let r = zip_size ns es (omega (arith, same)) in omega arith

  -- one more of both
  pub zip_more : (ns : List ℕ) (es : List E) (n : ℕ) (e : E) → length ns ≡ length es → zip (ns ++ n ∷ []) (es ++ e ∷ []) ≡ zip ns es ++ (n, e) ∷ []
  zip_more [] [] n e same = refl
  zip_more [] (x ∷ es) n e same = absurd (omega (arith, same))
  zip_more (m ∷ ns) [] n e same = absurd (omega (arith, same))
  zip_more (m ∷ ns) (x ∷ es) n e same = ap (λ l. (m, x) ∷ l) (zip_more ns es n e (omega (arith, same)))
