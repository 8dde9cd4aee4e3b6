-- Known bytes, one call after another.
use Rattle.std.proofs.Common.{◌≡◌, ◌≤◌, ◌+◌, ℕ, zero, suc, suc-add, List, [], ◌∷◌, ◌++◌, length, take, drop, Option, Some, None, Result, Ok, Err, refl, sym, ◌∙◌, ap, append_assoc, append-nil, drop-drop}
use Rattle.std.proofs.lemmas.List.{take-append-drop, drop-take, take_at, length-take-le}
use Rattle.std.proofs.Math.Seq.{take-nil}
use Rattle.std.specs.Io.KnownBytes.{Appends, Consumes, Keeps, ReadConsumes, WriteAppends}

pub keeps_all : (a : Option (List ℕ)) → Keeps a a
keeps_all None = tt
keeps_all (Some xs) = refl

pub keeps_on : (a b c : Option (List ℕ)) → Keeps a b → Keeps b c → Keeps a c
keeps_on None b c before now = tt
keeps_on (Some xs) None c before now = absurd before
keeps_on (Some xs) (Some ys) None before now = absurd now
keeps_on (Some xs) (Some ys) (Some zs) before now = now ∙ before

-- a read after calls that kept the bytes
pub reads_after : {E : Type 0} (a b c : Option (List ℕ)) (r : Result ℕ E) (buf : List ℕ) → Keeps a b → ReadConsumes b c r buf → ReadConsumes a c r buf
reads_after None b c (Ok n) buf before now = (tt, now.1)
reads_after (Some xs) None c (Ok n) buf before now = absurd before
reads_after (Some xs) (Some ys) None (Ok n) buf before now = absurd now.0
reads_after (Some xs) (Some ys) (Some zs) (Ok n) buf before now = (sym before ∙ now.0, now.1)
reads_after a b c (Err e) buf before now = keeps_on a b c before now

-- a write after calls that kept the bytes
pub writes_after : {E : Type 0} (a b c : Option (List ℕ)) (r : Result ℕ E) (buf : List ℕ) → Keeps a b → WriteAppends b c r buf → WriteAppends a c r buf
writes_after None b c (Ok n) buf before now = tt
writes_after (Some xs) None c (Ok n) buf before now = absurd before
writes_after (Some xs) (Some ys) None (Ok n) buf before now = absurd now
writes_after (Some xs) (Some ys) (Some zs) (Ok n) buf before now = now ∙ ap (λ (l : List ℕ). l ++ take n buf) before
writes_after a b c (Err e) buf before now = keeps_on a b c before now

pub appends_nothing : (a : Option (List ℕ)) → Appends a a []
appends_nothing None = tt
appends_nothing (Some xs) = sym (append-nil xs)

take_short : (s n : ℕ) (p : List ℕ) → take s (take (s + n) p) ≡ take s p
take_short zero n p = refl
take_short (suc s) n [] = ap (λ (l : List ℕ). take (suc s) l) (take-nil (suc s + n))
take_short (suc s) n (x ∷ p) = rw suc-add (ap (λ (l : List ℕ). x ∷ l) (take_short s n p))

take_on : (n s : ℕ) (p : List ℕ) → take s p ++ take n (drop s p) ≡ take (s + n) p
take_on n s p =
    ap (λ (l : List ℕ). l ++ take n (drop s p)) (sym (take_short s n p))
    ∙ ap (λ (l : List ℕ). take s (take (s + n) p) ++ l) (sym (drop-take s n p)) ∙ take-append-drop s (take (s + n) p)

-- a further part of a piece was appended
pub appends_more : (a b c : Option (List ℕ)) (p : List ℕ) (s n : ℕ) (rest : List ℕ) → rest ≡ drop s p → Appends a b (take s p) → Appends b c (take n rest) → Appends a c (take (s + n) p)
appends_more None b c p s n rest is before now = tt
appends_more (Some xs) None c p s n rest is before now = absurd before
appends_more (Some xs) (Some ys) None p s n rest is before now = absurd now
appends_more (Some xs) (Some ys) (Some zs) p s n rest is before now =
    now ∙ ap (λ (l : List ℕ). l ++ take n rest) before ∙ append_assoc xs (take s p) (take n rest)
    ∙ ap (λ (l : List ℕ). xs ++ (take s p ++ take n l)) is ∙ ap (λ (l : List ℕ). xs ++ l) (take_on n s p)

pub consumes_nothing : (a : Option (List ℕ)) → Consumes a a []
consumes_nothing None = tt
consumes_nothing (Some xs) = refl

-- more known bytes were consumed
pub consumes_more : (a b c : Option (List ℕ)) (xs ys zs : List ℕ) → Consumes a b xs → Consumes b c ys → zs ≡ xs ++ ys → Consumes a c zs
consumes_more None b c xs ys zs before now is = tt
consumes_more (Some l) None c xs ys zs before now is = absurd before
consumes_more (Some l) (Some m) None xs ys zs before now is = absurd now
consumes_more (Some l) (Some m) (Some n) xs ys zs before now is =
    before ∙ ap (λ (t : List ℕ). xs ++ t) now ∙ sym (append_assoc xs ys n) ∙ ap (λ (t : List ℕ). t ++ n) (sym is)

-- what is handed out of the bytes from a place on
pub handed : (at n : ℕ) (bytes x y : List ℕ) → x ≡ take n (drop at bytes) → n ≤ length (drop at bytes) → drop at bytes ≡ take n (x ++ y) ++ drop (at + n) bytes
handed at n bytes x y is le =
    sym (ap (λ (l : List ℕ). l ++ drop (at + n) bytes) (take_at x y n (ap length is ∙ length-take-le n (drop at bytes) le) ∙ is)
    ∙ ap (λ (l : List ℕ). take n (drop at bytes) ++ l) (sym (drop-drop n at bytes)) ∙ take-append-drop n (drop at bytes))
