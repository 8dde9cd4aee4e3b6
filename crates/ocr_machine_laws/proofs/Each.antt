-- What holds of each element of a list.
use Rattle.std.proofs.Common.{inl, inr, List, [], ◌∷◌, ◌++◌, map, drop, subst}
use Rattle.std.specs.List.{Contains}
use Rattle.ocr_acquire.proofs.Members.{Contains-nil, Contains-cases}

abbrev pub Each : {A : Type 0} → (A → Type 0) → List A → Type 0
Each P [] = Unit {0}
Each P (x ∷ rest) = P x × Each P rest

pub each_from : {A : Type 0} (P Q : A → Type 0) → ((x : A) → P x → Q x) → (xs : List A) → Each P xs → Each Q xs
each_from P Q step [] are = tt
each_from P Q step (x ∷ rest) are = (step x are.0, each_from P Q step rest are.1)

pub each_joined : {A : Type 0} (P : A → Type 0) (xs ys : List A) → Each P xs → Each P ys → Each P (xs ++ ys)
each_joined P [] ys one other = other
each_joined P (x ∷ rest) ys one other = (one.0, each_joined P rest ys one.1 other)

pub each_front : {A : Type 0} (P : A → Type 0) (xs ys : List A) → Each P (xs ++ ys) → Each P xs
each_front P [] ys are = tt
each_front P (x ∷ rest) ys are = (are.0, each_front P rest ys are.1)

pub each_back : {A : Type 0} (P : A → Type 0) (xs ys : List A) → Each P (xs ++ ys) → Each P ys
each_back P [] ys are = are
each_back P (x ∷ rest) ys are = each_back P rest ys are.1

pub each_past : {A : Type 0} (P : A → Type 0) (xs : List A) → Each P xs → Each P (drop 1 xs)
each_past P [] are = tt
each_past P (x ∷ rest) are = are.1

pub each_mapped : {A B : Type 0} (P : A → Type 0) (Q : B → Type 0) (g : A → B) → ((x : A) → P x → Q (g x)) → (xs : List A) → Each P xs → Each Q (map g xs)
each_mapped P Q g step [] are = tt
each_mapped P Q g step (x ∷ rest) are = (step x are.0, each_mapped P Q g step rest are.1)

pub each_at : {A : Type 0} (P : A → Type 0) (xs : List A) (x : A) → Each P xs → Contains xs x → P x
each_at P [] x are there = absurd (Contains-nil x there)
each_at {A} P (y ∷ rest) x are there = elim (Contains-cases y x rest there) [
  | inl here ↦ subst P here are.0
  | inr later ↦ each_at P rest x are.1 later
]
