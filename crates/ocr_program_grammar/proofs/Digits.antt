-- A number's bytes are digits.
use Rattle.std.proofs.Common.{ℕ, List, [], ◌∷◌, Bool, IsTrue, refl}
use Rattle.std.specs.List.{list_all}
use Rattle.ocr_text.specs.Forms.{is_run, is_digit, is_form}
use Rattle.ocr_text.specs.declared.token.TokenKind.TheVariants as kind

pub run_all : (p : ℕ → Bool) (piece : List ℕ) → IsTrue (is_run p p piece) → IsTrue (list_all p piece)
run_all p [] is = refl
run_all p (b ∷ rest) is = is

pub are_digits : (piece : List ℕ) → IsTrue (is_form kind.Number piece) → IsTrue (list_all is_digit piece)
are_digits piece is = run_all is_digit piece is
