-- Pieces that were written one after another.
use Rattle.std.proofs.Common.{◌≡◌, ◌++◌, List, ℕ, Result, Ok, Err, OnOk, append_assoc}

pub three : (a b c x0 x1 x2 x3 : List ℕ) → x1 ≡ x0 ++ a → x2 ≡ x1 ++ b → x3 ≡ x2 ++ c → x3 ≡ x0 ++ (a ++ b ++ c)
three a b c x0 x1 x2 x3 e1 e2 e3 = rw (e3, e2, e1) (simp append_assoc)

pub five : (a b c d e x0 x1 x2 x3 x4 x5 : List ℕ) → x1 ≡ x0 ++ a → x2 ≡ x1 ++ b → x3 ≡ x2 ++ c → x4 ≡ x3 ++ d → x5 ≡ x4 ++ e
    → x5 ≡ x0 ++ (a ++ b ++ c ++ d ++ e)
five a b c d e x0 x1 x2 x3 x4 x5 e1 e2 e3 e4 e5 = rw (e5, e4, e3, e2, e1) (simp append_assoc)

pub seven : (a b c d e f g x0 x1 x2 x3 x4 x5 x6 x7 : List ℕ) → x1 ≡ x0 ++ a → x2 ≡ x1 ++ b → x3 ≡ x2 ++ c → x4 ≡ x3 ++ d → x5 ≡ x4 ++ e → x6 ≡ x5 ++ f → x7 ≡ x6 ++ g
    → x7 ≡ x0 ++ (a ++ (b ++ (c ++ (d ++ (e ++ (f ++ g))))))
seven a b c d e f g x0 x1 x2 x3 x4 x5 x6 x7 e1 e2 e3 e4 e5 e6 e7 = rw (e7, e6, e5, e4, e3, e2, e1) (simp append_assoc)

pub on_ok : {T E P Q : Type 0} (r : Result T E) → (P → Q) → OnOk r P → OnOk r Q
on_ok (Ok x) f h = f h
on_ok (Err e) f h = h
