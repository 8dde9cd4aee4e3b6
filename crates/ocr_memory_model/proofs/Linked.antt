-- Links of events, one dependence more; and matches, one link more.
use Rattle.std.proofs.Common.{◌≡◌, ◌≤◌, ◌<◌, ◌⊎◌, inl, inr, ℕ, zero, suc, ◌+◌, ◌==◌, ◌&&◌, List, [], ◌∷◌, ◌++◌, length, drop, get_or, min, Bool, true, false, if◌then◌else◌, refl, sym, ap, ◌∙◌, subst, arith}
use Rattle.std.specs.List.{zip}
use Rattle.std.proofs.lemmas.List.{append-nil, append_assoc}
use Rattle.ocr_memory_model_rows.proofs.Bits.{split}
use Rattle.ocr_machine_history.specs.declared.entry.Message.{Message}
use Rattle.ocr_machine_parts.specs.Calls.{is_object}
use Rattle.ocr_memory_model_order.specs.Makers.{dep_links_at, matched, slot_of}

pub deps_next : (n k x : ℕ) (ds : List ℕ) (i : ℕ) → i < length ds → dep_links_at n k x (drop i ds) ≡ (if is_object (get_or ds i 0) && (get_or ds i 0 == x) then (n, k) ∷ [] else []) ++ dep_links_at n (k + 1) x (drop (i + 1) ds)
deps_next n k x [] i low = absurd (omega (arith, low))
deps_next n k x (d ∷ ds) zero low = refl
deps_next n k x (d ∷ ds) (suc i) low = subst (λ m. dep_links_at n k x (drop i ds) ≡ (if is_object (get_or ds i 0) && (get_or ds i 0 == x) then (n, k) ∷ [] else []) ++ dep_links_at n (k + 1) x (drop m (d ∷ ds))) (let e : suc (i + 1) ≡ suc i + 1 = omega arith in e) (deps_next n k x ds i (omega (arith, low)))

pub matched_next : (m : Message) (xs : List ℕ) (ls : List (ℕ × ℕ)) (i : ℕ) → i < length xs → i < length ls → matched m (zip (drop i xs) (drop i ls)) ≡ (if ((get_or ls i (0, 0)).0 == m.place) && ((get_or ls i (0, 0)).1 == slot_of m.what) then get_or xs i 0 ∷ [] else []) ++ matched m (zip (drop (i + 1) xs) (drop (i + 1) ls))
matched_next m [] ls i low other = absurd (omega (arith, low))
matched_next m (x ∷ xs) [] i low other = absurd (omega (arith, other))
matched_next m (x ∷ xs) (l ∷ ls) zero low other = elim ((l.0 == m.place) && (l.1 == slot_of m.what)) as (λ t. (if t then x ∷ matched m (zip xs ls) else matched m (zip xs ls)) ≡ (if t then x ∷ [] else []) ++ matched m (zip xs ls)) [ true ↦ refl | false ↦ refl ]
matched_next m (x ∷ xs) (l ∷ ls) (suc i) low other = subst (λ k. matched m (zip (drop i xs) (drop i ls)) ≡ (if ((get_or ls i (0, 0)).0 == m.place) && ((get_or ls i (0, 0)).1 == slot_of m.what) then get_or xs i 0 ∷ [] else []) ++ matched m (zip (drop k (x ∷ xs)) (drop k (l ∷ ls)))) (let e : suc (i + 1) ≡ suc i + 1 = omega arith in e) (matched_next m xs ls i (omega (arith, low)) (omega (arith, other)))

pub matched_step : (m : Message) (xs : List ℕ) (ls : List (ℕ × ℕ)) (i : ℕ) (one : List ℕ) (new all : List ℕ) (is : Bool) (x : ℕ) (l : ℕ × ℕ) → i < length xs → i < length ls → x ≡ get_or xs i 0 → l ≡ get_or ls i (0, 0) → is ≡ ((l.0 == m.place) && (l.1 == slot_of m.what)) → new ≡ one ++ (if is then x ∷ [] else []) → one ++ matched m (zip (drop i xs) (drop i ls)) ≡ all → new ++ matched m (zip (drop (i + 1) xs) (drop (i + 1) ls)) ≡ all
matched_step m xs ls i one new all is x l low other x_is l_is tells grown was =
    let rest : List ℕ = matched m (zip (drop (i + 1) xs) (drop (i + 1) ls)) in
    let p : ℕ × ℕ → Bool = λ k. (k.0 == m.place) && (k.1 == slot_of m.what) in
    ap (λ s. s ++ rest) grown ∙ append_assoc one (if is then x ∷ [] else []) rest
    ∙ ap (λ b. one ++ ((if b then x ∷ [] else []) ++ rest)) (tells ∙ ap p l_is)
    ∙ ap (λ y. one ++ ((if p (get_or ls i (0, 0)) then y ∷ [] else []) ++ rest)) x_is
    ∙ ap (λ s. one ++ s) (sym (matched_next m xs ls i low other)) ∙ was

zip_none : (xs : List ℕ) (ls : List (ℕ × ℕ)) → ls ≡ [] → zip xs ls ≡ []
zip_none [] ls e = refl
zip_none (x ∷ xs) [] e = refl
zip_none (x ∷ xs) (l ∷ ls) e = cc e

split_at_end : (a b i : ℕ) → min a b ≤ i → (a ≤ i) ⊎ (b ≤ i)
split_at_end a b i h = elim (split a b) [ inl l ↦ inl (omega (arith, l, h)) | inr r ↦ inr (omega (arith, r, h)) ]

drop_past : {A : Type 0} (xs : List A) (i : ℕ) → length xs ≤ i → drop i xs ≡ []
drop_past [] zero h = refl
drop_past [] (suc i) h = refl
drop_past (x ∷ xs) zero h = absurd (omega (arith, h))
drop_past (x ∷ xs) (suc i) h = drop_past xs i (omega (arith, h))

pub matched_done : (m : Message) (xs : List ℕ) (ls : List (ℕ × ℕ)) (i : ℕ) (one all : List ℕ) → min (length xs) (length ls) ≤ i → one ++ matched m (zip (drop i xs) (drop i ls)) ≡ all → one ≡ all
matched_done m xs ls i one all past was =
    let none : zip (drop i xs) (drop i ls) ≡ [] = elim (split_at_end (length xs) (length ls) i past) [
      | inl h ↦ ap (λ l. zip l (drop i ls)) (drop_past xs i h)
      | inr h ↦ zip_none (drop i xs) (drop i ls) (drop_past ls i h)
    ] in
    sym (append-nil one) ∙ sym (ap (λ z. one ++ matched m z) none) ∙ was
