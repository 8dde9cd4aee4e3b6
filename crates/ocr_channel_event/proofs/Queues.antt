-- Two lists that are matched item by item: what one item more at the end of one of them does.
use Rattle.std.proofs.Common.{◌≡◌, ℕ, zero, suc, ◌+◌, ◌≤◌, ◌<◌, List, [], ◌∷◌, ◌++◌, length, drop, Some, None, refl, ap, sym, ◌∙◌, rules, arith}
use Rattle.std.specs.List.{slice_get, zip}
use Rattle.std.proofs.lemmas.List.{drop-append-le, drop_all, length_push, drop-drop}
use Rattle.std.proofs.lemmas.Option.{slice_get_within}

pub front_of_drop : {X : Type 0} (xs : List X) (k : ℕ) → slice_get (drop k xs) 0 ≡ slice_get xs k
front_of_drop xs zero = refl
front_of_drop [] (suc k) = refl
front_of_drop (x ∷ xs) (suc k) = front_of_drop xs k

-- nothing stands at or past this place
pub past_end : {X : Type 0} (xs : List X) (k : ℕ) → slice_get xs k ≡ None → length xs ≤ k
past_end [] k gone = search rules
past_end (x ∷ xs) zero gone = search rules
past_end (x ∷ xs) (suc k) gone = let e = past_end xs k gone in omega arith

-- an item that meets nothing is left over
pub waits_itself : {X Y : Type 0} (xs : List X) (ys : List Y) (x : X) → slice_get ys (length xs) ≡ None
    → drop (length ys) (xs ++ x ∷ []) ≡ drop (length ys) xs ++ x ∷ []
waits_itself xs ys x gone = drop-append-le (length ys) xs (x ∷ []) (past_end ys (length xs) gone)

pub waits_other : {X Y : Type 0} (xs : List X) (ys : List Y) (x : X) → slice_get ys (length xs) ≡ None
    → drop (length (xs ++ x ∷ [])) ys ≡ drop (length xs) ys
waits_other xs ys x gone =
    let short : length ys ≤ length xs = past_end ys (length xs) gone in
    let more : length (xs ++ x ∷ []) ≡ length xs + 1 = length_push xs x in
    drop_all (length (xs ++ x ∷ [])) ys (omega arith) ∙ sym (drop_all (length xs) ys short)

-- an item that meets one takes it out of what is left over
pub meets_itself : {X Y : Type 0} (xs : List X) (ys : List Y) (x : X) (y : Y) → slice_get ys (length xs) ≡ Some y
    → drop (length ys) (xs ++ x ∷ []) ≡ drop (length ys) xs
meets_itself xs ys x y found =
    let long : length xs < length ys = slice_get_within ys (length xs) y found in
    let more : length (xs ++ x ∷ []) ≡ length xs + 1 = length_push xs x in
    drop_all (length ys) (xs ++ x ∷ []) (omega arith) ∙ sym (drop_all (length ys) xs (omega arith))

pub meets_other : {X Y : Type 0} (xs : List X) (ys : List Y) (x : X) (y : Y) → slice_get ys (length xs) ≡ Some y
    → drop (length (xs ++ x ∷ [])) ys ≡ drop 1 (drop (length xs) ys)
meets_other xs ys x y found = ap (λ n. drop n ys) (length_push xs x) ∙ sym (drop-drop 1 (length xs) ys)

pub zip_waits : {X Y : Type 0} (xs : List X) (ys : List Y) (x : X) → slice_get ys (length xs) ≡ None
    → zip (xs ++ x ∷ []) ys ≡ zip xs ys
zip_waits [] [] x gone = refl
zip_waits [] (y ∷ ys) x gone = search rules
zip_waits (x' ∷ xs) [] x gone = refl
zip_waits (x' ∷ xs) (y ∷ ys) x gone = ap (λ l. (x', y) ∷ l) (zip_waits xs ys x gone)

pub zip_meets : {X Y : Type 0} (xs : List X) (ys : List Y) (x : X) (y : Y) → slice_get ys (length xs) ≡ Some y
    → zip (xs ++ x ∷ []) ys ≡ zip xs ys ++ (x, y) ∷ []
zip_meets [] [] x y found = search rules
zip_meets [] (y' ∷ ys) x y found = search rules
zip_meets (x' ∷ xs) [] x y found = search rules
zip_meets (x' ∷ xs) (y' ∷ ys) x y found = ap (λ l. (x', y') ∷ l) (zip_meets xs ys x y found)

pub waits_zip : {X Y : Type 0} (xs : List X) (ys : List Y) (y : Y) → slice_get xs (length ys) ≡ None
    → zip xs (ys ++ y ∷ []) ≡ zip xs ys
waits_zip [] ys y gone = refl
waits_zip (x ∷ xs) [] y gone = cc
waits_zip (x ∷ xs) (y' ∷ ys) y gone = ap (λ l. (x, y') ∷ l) (waits_zip xs ys y gone)

pub meets_zip : {X Y : Type 0} (xs : List X) (ys : List Y) (y : Y) (x : X) → slice_get xs (length ys) ≡ Some x
    → zip xs (ys ++ y ∷ []) ≡ zip xs ys ++ (x, y) ∷ []
meets_zip [] ys y x found = search rules
meets_zip (x' ∷ []) [] y x found = search rules
meets_zip (x' ∷ x'' ∷ xs) [] y x found = search rules
meets_zip (x' ∷ xs) (y' ∷ ys) y x found = ap (λ l. (x', y') ∷ l) (meets_zip xs ys y x found)
