-- Runs of bytes that pass a test.
use Rattle.std.proofs.Common.{◌≡◌, ◌≤◌, ◌+◌, ℕ, zero, suc, List, [], ◌∷◌, Bool, true, false, cond, refl, sym, ap, subst, arith, length, take}
use Rattle.std.specs.List.{list_all}
use Rattle.std.proofs.lemmas.Bool.{and_parts, and_from}
use Rattle.ocr_text.specs.Scan.{run_of}

all_of_one : (test : ℕ → Bool) (b : ℕ) (bs : List ℕ) (x : Bool) → test b ≡ x → list_all test (take (run_of test bs) bs) ≡ true → list_all test (take (cond x (run_of test bs + 1) 0) (b ∷ bs)) ≡ true
all_of_one test b bs true is rest =
    let more : suc (run_of test bs) ≡ run_of test bs + 1 = omega arith in
    subst (λ (n : ℕ). list_all test (take n (b ∷ bs)) ≡ true) more (and_from (test b) _ is rest)
all_of_one test b bs false is rest = refl

-- the bytes of a run pass
pub run_all : (test : ℕ → Bool) (bs : List ℕ) → list_all test (take (run_of test bs) bs) ≡ true
run_all test [] = refl
run_all test (b ∷ bs) = all_of_one test b bs (test b) refl (run_all test bs)

within_one : (test : ℕ → Bool) (bs : List ℕ) (x : Bool) → run_of test bs ≤ length bs → cond x (run_of test bs + 1) 0 ≤ suc (length bs)
within_one test bs true rest = omega arith
within_one test bs false rest = omega arith

pub run_within : (test : ℕ → Bool) (bs : List ℕ) → run_of test bs ≤ length bs
run_within test [] = omega arith
run_within test (b ∷ bs) = within_one test bs (test b) (run_within test bs)

-- no more bytes than the run pass
pub run_most : (test : ℕ → Bool) (bs : List ℕ) (m : ℕ) → m ≤ length bs → list_all test (take m bs) ≡ true → m ≤ run_of test bs
run_most test bs zero within all = omega arith
run_most test [] (suc m) within all = absurd (omega (arith, within))
run_most test (b ∷ bs) (suc m) within all =
    let rest : m ≤ run_of test bs = run_most test bs m (omega arith) (and_parts (test b) _ all).1 in
    let one : cond (test b) (run_of test bs + 1) 0 ≡ run_of test bs + 1 = ap (λ (x : Bool). cond x (run_of test bs + 1) 0) (and_parts _ _ all).0 in
    subst (λ (n : ℕ). suc m ≤ n) (sym one) (omega (arith, rest))
