-- Lexemes that keep the limits, from a tally on.
use Rattle.std.proofs.Common.{◌≡◌, ◌≤◌, ℕ, zero, suc, List, [], ◌∷◌, Bool, true, false, Some, None, length, take, arith}
use Rattle.std.proofs.lemmas.Grind.{common_steps}
use Rattle.std.proofs.lemmas.Bool.{false_from_ne_true}
use Rattle.ocr_program_grammar.specs.declared.lexeme.Lexeme.{Lexeme}
use Rattle.ocr_program_grammar.specs.Limits.{Tally, tally_after, is_over}
use Rattle.ocr_program_grammar.specs.Counts.{tally}

-- an expression is being read, and so many of its lexemes were
abbrev pub inside : ℕ → ℕ → Tally
inside n d = record { tokens = Some n; depth = d }

-- between expressions
abbrev pub outer : ℕ → Tally
outer d = record { tokens = None; depth = d }

abbrev pub Keeps : Tally → List Lexeme → Type 0
Keeps y [] = is_over y ≡ false
Keeps y (t ∷ ts) = (is_over y ≡ false) × Keeps (tally_after y t) ts

pub keeps_now : (y : Tally) (ts : List Lexeme) → Keeps y ts → is_over y ≡ false
keeps_now y [] k = k
keeps_now y (t ∷ ts) k = k.0

pub inside_fits : (n d : ℕ) → n ≤ 256 → d ≤ 64 → is_over (inside n d) ≡ false
inside_fits n d low shallow = grind (arith, common_steps)

pub outer_fits : (d : ℕ) → d ≤ 64 → is_over (outer d) ≡ false
outer_fits d shallow = grind (arith, common_steps)

pub inside_low : (n d : ℕ) → is_over (inside n d) ≡ false → n ≤ 256
inside_low n d is = grind (arith, common_steps)

pub outer_low : (d : ℕ) → is_over (outer d) ≡ false → d ≤ 64
outer_low d is = grind (arith, common_steps)

pub from_fits : (ts : List Lexeme) (y : Tally) → ((k : ℕ) → k ≤ length ts → is_over (tally y (take k ts)) ≡ true → ⊥) → Keeps y ts
from_fits [] y fits = false_from_ne_true (is_over y) (fits 0 (omega arith))
from_fits (t ∷ ts) y fits =
    (false_from_ne_true (is_over y) (fits 0 (omega arith)), from_fits ts (tally_after y t) (λ k low over. fits (suc k) (omega (arith, low)) over))

not_both : (b : Bool) → b ≡ true → b ≡ false → ⊥
not_both b p q = cc

pub to_fits : (ts : List Lexeme) (y : Tally) → Keeps y ts → (k : ℕ) → k ≤ length ts → is_over (tally y (take k ts)) ≡ true → ⊥
to_fits [] y keeps zero low over = not_both (is_over y) over keeps
to_fits [] y keeps (suc k) low over = absurd (omega (arith, low))
to_fits (t ∷ ts) y keeps zero low over = not_both (is_over y) over keeps.0
to_fits (t ∷ ts) y keeps (suc k) low over = to_fits ts (tally_after y t) keeps.1 k (omega (arith, low)) over
