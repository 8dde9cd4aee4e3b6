-- What a pass with all parts knows.
use Rattle.std.proofs.Common.{◌≡◌, ◌∙◌, ◌<◌, ◌≤◌, ℕ, zero, suc, List, [], ◌∷◌, ◌++◌, length, refl, sym, ap, arith}
use Rattle.std.specs.List.{sum_by}
use Rattle.std.proofs.lemmas.List.{append-nil, length-append}
use Rattle.std.proofs.lemmas.List.Sums.{sum_by-cons}
use mathlib.Core.Option.{some, some-injective, some-ne-none}
use lib.ListN.{get_elem?}
use Rattle.ocr_steal.specs.declared.account.Account.{Account}
use Rattle.ocr_steal.specs.Deque.{IsFound, TakesFirst, all_parts, numbered, weight_taken}
use Rattle.ocr_steal.specs.Rest.{taken_weight}
use Rattle.ocr_steal.proofs.Steps.{AreIdle, head_here}

abbrev parts_of : List Account → ℕ
parts_of ps = sum_by (λ (p : Account). p.parts) ps

part-le-all : (ps : List Account) (k : ℕ) (v : Account) → get_elem? ps k ≡ some v → v.parts ≤ parts_of ps
part-le-all [] k v at = absurd (some-ne-none v (sym at))
part-le-all (x ∷ xs) zero v at =
    omega (arith, sum_by-cons (λ (p : Account). p.parts) x xs, ap (λ (p : Account). p.parts) (some-injective x v at))
part-le-all (x ∷ xs) (suc k) v at =
    omega (arith, sum_by-cons (λ (p : Account). p.parts) x xs, part-le-all xs k v at)

-- passes with no part took nothing
nothing : (f : ℕ × ℕ → ℕ) (ps : List Account) → parts_of ps ≡ 0 → AreIdle ps → weight_taken f ps ≡ 0
nothing f [] none idle = refl
nothing f (x ∷ xs) none idle =
    let parts = sum_by-cons (λ (p : Account). p.parts) x xs in
    let weights = sum_by-cons (λ (p : Account). sum_by f p.taken) x xs in
    let mine : sum_by f x.taken ≡ 0 = ap (sum_by f) (idle 0 x refl (omega arith)) in
    let rest = nothing f xs (omega arith) (λ k p at. idle (suc k) p at) in
    omega (arith, weights, mine, rest)

-- a pass with all parts took all
whole : (f : ℕ × ℕ → ℕ) (ps : List Account) (k : ℕ) (v : Account) → get_elem? ps k ≡ some v → parts_of ps ≡ v.parts → AreIdle ps → weight_taken f ps ≡ sum_by f v.taken
whole f [] k v at all idle = absurd (some-ne-none v (sym at))
whole f (x ∷ xs) zero v at all idle =
    let parts = sum_by-cons (λ (p : Account). p.parts) x xs in
    let weights = sum_by-cons (λ (p : Account). sum_by f p.taken) x xs in
    let same = some-injective x v at in
    let mine : sum_by f x.taken ≡ sum_by f v.taken = ap (λ (p : Account). sum_by f p.taken) same in
    let own : x.parts ≡ v.parts = ap (λ (p : Account). p.parts) same in
    let rest = nothing f xs (omega arith) (λ k p at'. idle (suc k) p at') in
    omega (arith, weights, mine, rest)
whole f (x ∷ xs) (suc k) v at all idle =
    let parts = sum_by-cons (λ (p : Account). p.parts) x xs in
    let weights = sum_by-cons (λ (p : Account). sum_by f p.taken) x xs in
    let within = part-le-all xs k v at in
    let none : sum_by f x.taken ≡ 0 = ap (sum_by f) (idle 0 x refl (omega arith)) in
    let rest = whole f xs k v at (omega arith) (λ k p at'. idle (suc k) p at') in
    omega (arith, weights, none, rest)

weigh_numbered : (f : ℕ → ℕ) (n : ℕ) (xs : List ℕ) → sum_by (λ (p : ℕ × ℕ). f p.1) (numbered n xs) ≡ sum_by f xs
weigh_numbered f n [] = refl
weigh_numbered f n (x ∷ xs) =
    omega (arith, sum_by-cons (λ (p : ℕ × ℕ). f p.1) (n, x) (numbered (suc n) xs), sum_by-cons f x xs, weigh_numbered f (suc n) xs)

ones : {X : Type 0} (xs : List X) → sum_by (λ _. 1) xs ≡ length xs
ones [] = refl
ones (x ∷ xs) = let rest = ones xs in let sum = sum_by-cons (λ _. 1) x xs in let long : sum_by (λ _. 1) (x ∷ xs) ≡ suc (length xs) = omega arith in long

-- where the deque is empty, all that was pushed was taken
pub all_taken : (v : Account) → IsFound 0 [] v → v.parts ≡ all_parts → (f : ℕ → ℕ) → taken_weight f v ≡ sum_by f v.pushed
all_taken v found all f =
    let s = found.state in
    let weight = whole (λ (p : ℕ × ℕ). f p.1) found.passes 0 v found.knows (s.parts ∙ sym all) s.idle in
    let pushed : v.pushed ≡ found.gone = sym (head_here found.passes v v found.knows).0 ∙ s.order ∙ append-nil found.gone in
    sym weight ∙ s.once (λ (p : ℕ × ℕ). f p.1) ∙ weigh_numbered f 0 found.gone ∙ ap (sum_by f) (sym pushed)

-- where one is taken, not all were
pub some_left : (v w : Account) (x : ℕ) → TakesFirst 0 v (x ∷ []) w → v.parts ≡ all_parts → length v.taken < length v.pushed
some_left v w x takes all =
    let found = takes.found in
    let s = found.state in
    let weight = whole (λ _. 1) found.passes 0 v found.knows (s.parts ∙ sym all) s.idle in
    let gone = s.once (λ _. 1) ∙ ones (numbered 0 found.gone) ∙ length-numbered 0 found.gone in
    let pushed : v.pushed ≡ found.gone ++ (x ∷ takes.rest) = sym (head_here found.passes v v found.knows).0 ∙ s.order in
    omega (arith, weight, ones v.taken, gone, ap (λ (l : List ℕ). length l) pushed, length-append found.gone (x ∷ takes.rest))
  where
    length-numbered : (n : ℕ) (xs : List ℕ) → length (numbered n xs) ≡ length xs
    length-numbered n [] = refl
    length-numbered n (y ∷ ys) = ap suc (length-numbered (suc n) ys)
