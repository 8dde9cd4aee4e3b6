-- Names behind references.
use Rattle.std.proofs.Common.{◌≡◌, ℕ, Bool, List, [], ◌∷◌, ◌++◌, take, ◌||◌, length, Vec, Global, vec_len, refl, sym, ap, ◌∙◌, Bor}
use Rattle.std.specs.List.{list_any}
use Rattle.std.proofs.lemmas.List.{take-map, length-map}
use Rattle.ocr_program_check.specs.Names.{texts}

pub list_any_texts : (p : List ℕ → Bool) (xs : List (Bor (List ℕ))) → list_any p (texts xs) ≡ list_any (λ (x : Bor (List ℕ)). p x.now) xs
list_any_texts p [] = refl
list_any_texts p (x ∷ xs) = ap (λ (b : Bool). p x.now || b) (list_any_texts p xs)

pub texts_push : (xs : List (Bor (List ℕ))) (x : Bor (List ℕ)) → texts (xs ++ (x ∷ [])) ≡ texts xs ++ (x.now ∷ [])
texts_push [] x = refl
texts_push (y ∷ xs) x = ap (λ (ys : List (List ℕ)). y.now ∷ ys) (texts_push xs x)

pub texts_take : (n : ℕ) (xs : List (Bor (List ℕ))) → texts (take n xs) ≡ take n (texts xs)
texts_take n xs = sym (take-map (λ (x : Bor (List ℕ)). x.now) n xs)

pub length-texts : (v : Vec (Bor (List ℕ)) Global) → vec_len v ≡ length (texts v.items)
length-texts v = let count : vec_len v ≡ length v.items = cc in count ∙ sym (length-map v.items (λ (x : Bor (List ℕ)). x.now))
