-- The code of functions, one after another.
use Rattle.std.proofs.Common.{◌≡◌, ◌<◌, ◌≤◌, ◌+◌, ℕ, zero, suc, List, [], ◌∷◌, ◌++◌, true, length, take, get_or, map, take_all, refl, sym, ◌∙◌, ap, arith}
use Rattle.ocr_program_tree.specs.Tree.{Statements}
use Rattle.ocr_body_code.specs.Code.{body_in, bodies_in, is_sound, are_sound}
use Rattle.ocr_program_tree.specs.View.{statements_of, functions_of}
use Rattle.ocr_body_code.specs.declared.code.FunctionCode.{FunctionCode}
use Rattle.ocr_program_tree.specs.declared.tree.Function.{Function}
use Rattle.ocr_body_code.proofs.Sides.{first_of, second_of}
use Rattle.ocr_body_code.proofs.Names.{both}

abbrev bodies_of : List Function → List Statements
bodies_of fs = map (λ f. f.body) (functions_of fs)

bodies_push : (cs : List FunctionCode) (c : FunctionCode) → bodies_in (cs ++ c ∷ []) ≡ bodies_in cs ++ body_in c ∷ []
bodies_push [] c = refl
bodies_push (b ∷ cs) c = ap (λ (rest : List Statements). body_in b ∷ rest) (bodies_push cs c)

bodies_take : (fs : List Function) (i : ℕ) (d : Function) → i < length fs → bodies_of (take (suc i) fs) ≡ bodies_of (take i fs) ++ statements_of (get_or fs i d).body.items ∷ []
bodies_take [] i d less = absurd (omega (arith, less))
bodies_take (f ∷ fs) zero d less = refl
bodies_take (f ∷ fs) (suc i) d less = ap (λ (rest : List Statements). statements_of f.body.items ∷ rest) (bodies_take fs i d (omega (arith, less)))

-- one function more
pub pushed_bodies : (cs ds : List FunctionCode) (c : FunctionCode) (fs : List Function) (i j : ℕ) (d : Function) → ds ≡ cs ++ c ∷ [] → j ≡ i + 1 → i < length fs
    → bodies_in cs ≡ map (λ f. f.body) (functions_of (take i fs)) → body_in c ≡ statements_of (get_or fs i d).body.items → bodies_in ds ≡ map (λ f. f.body) (functions_of (take j fs))
pushed_bodies cs ds c fs i j d is next less before here =
    let there : j ≡ suc i = omega arith in
    ap bodies_in is ∙ bodies_push cs c ∙ (λ k. before k ++ here k ∷ []) ∙ sym (ap (λ (n : ℕ). bodies_of (take n fs)) there ∙ bodies_take fs i d less)

pub all_bodies : (cs : List FunctionCode) (fs : List Function) (i : ℕ) → length fs ≤ i → bodies_in cs ≡ map (λ f. f.body) (functions_of (take i fs)) → bodies_in cs ≡ map (λ f. f.body) (functions_of fs)
all_bodies cs fs i le are = are ∙ ap bodies_of (take_all i fs le)

sound_push : (w : List ℕ → ℕ) (cs : List FunctionCode) (c : FunctionCode) → are_sound w cs ≡ true → is_sound w c ≡ true → are_sound w (cs ++ c ∷ []) ≡ true
sound_push w [] c are is = both _ _ is refl
sound_push w (b ∷ cs) c are is = both _ _ (first_of _ _ are) (sound_push w cs c (second_of _ _ are) is)

pub pushed_sound : (w : List ℕ → ℕ) (cs ds : List FunctionCode) (c : FunctionCode) → ds ≡ cs ++ c ∷ [] → are_sound w cs ≡ true → is_sound w c ≡ true → are_sound w ds ≡ true
pushed_sound w cs ds c is are sound = ap (are_sound w) is ∙ sound_push w cs c are sound
