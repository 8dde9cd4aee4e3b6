-- The functions of a program by their numbers.
use Rattle.std.proofs.Common.{◌≡◌, ◌<◌, ◌+◌, ℕ, zero, suc, List, [], ◌∷◌, length, get_or, map, refl, ap, sym, ◌∙◌, arith, true}
use Rattle.ocr_program_tree.specs.Tree.{FunctionTree}
use Rattle.ocr_body_code.specs.Code.{body_in, bodies_in, is_sound, are_sound}
use Rattle.ocr_program_tree.specs.Functions.{statements_at}
use Rattle.ocr_body_code.specs.declared.code.FunctionCode.{FunctionCode}
use Rattle.ocr_body_code.proofs.Sides.{first_of, second_of}

-- there is code for each function
pub as_many : (cs : List FunctionCode) (fs : List FunctionTree) → bodies_in cs ≡ map (λ f. f.body) fs → length cs ≡ length fs
as_many [] [] same = refl
as_many [] (f ∷ fs) same = cc same
as_many (c ∷ cs) [] same = cc same
as_many (c ∷ cs) (f ∷ fs) same =
    let rest : bodies_in cs ≡ map (λ f. f.body) fs = cc same in
    omega (arith, as_many cs fs rest)

body_at_suc : (cs : List FunctionCode) (fs : List FunctionTree) (n : ℕ) (d : FunctionCode) → bodies_in cs ≡ map (λ f. f.body) fs → n < length fs → body_in (get_or cs n d) ≡ statements_at fs (suc n)
body_at_suc [] [] n d same less = absurd (omega (arith, less))
body_at_suc [] (f ∷ fs) n d same less = cc same
body_at_suc (c ∷ cs) [] n d same less = cc same
body_at_suc (c ∷ cs) (f ∷ fs) zero d same less = cc same
body_at_suc (c ∷ cs) (f ∷ fs) (suc n) d same less =
    let rest : bodies_in cs ≡ map (λ f. f.body) fs = cc same in
    body_at_suc cs fs n d rest (omega (arith, less))

pub body_at : (cs : List FunctionCode) (fs : List FunctionTree) (number n : ℕ) (c : FunctionCode) → bodies_in cs ≡ map (λ f. f.body) fs → number ≡ n + 1 → n < length fs
    → c ≡ get_or cs n c → body_in c ≡ statements_at fs number
body_at cs fs number n c same is less at =
    let there : number ≡ suc n = omega arith in
    ap body_in at ∙ body_at_suc cs fs n c same less ∙ ap (statements_at fs) (sym there)

sound_in : (w : List ℕ → ℕ) (cs : List FunctionCode) (n : ℕ) (d : FunctionCode) → are_sound w cs ≡ true → n < length cs → is_sound w (get_or cs n d) ≡ true
sound_in w [] n d are less = absurd (omega (arith, less))
sound_in w (c ∷ cs) zero d are less = first_of _ _ are
sound_in w (c ∷ cs) (suc n) d are less = sound_in w cs n d (second_of _ _ are) (omega (arith, less))

pub sound_at : (w : List ℕ → ℕ) (cs : List FunctionCode) (n : ℕ) (c : FunctionCode) → are_sound w cs ≡ true → n < length cs → c ≡ get_or cs n c → is_sound w c ≡ true
sound_at w cs n c are less at = ap (is_sound w) at ∙ sound_in w cs n c are less
