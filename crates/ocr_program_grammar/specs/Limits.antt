-- The limits: how many tokens an outermost expression has, and how deep blocks nest. Both are
-- counted along the tokens. An outermost expression begins after `print`, `return`, `if`, `while`
-- or `=`, or with the name of a call that stands alone, and ends before `;` or `{`.
use Rattle.std.specs.Prelude.{◌≡◌, ◌+◌, ◌-◌, ℕ, List, Option, Some, None, Bool, true, ◌||◌, fold, nat_lt, unwrap_or}
use Rattle.ocr_program_grammar.specs.declared.limits.TheConstants.{MOST_TOKENS, MOST_BLOCKS}
use Rattle.ocr_program_grammar.specs.declared.lexeme.Lexeme.{Lexeme}
use Rattle.ocr_program_grammar.specs.declared.lexeme.Lexeme.TheVariants as lexeme
use Rattle.ocr_program_grammar.specs.declared.lexeme.Word.TheVariants as word

-- how many tokens of an outermost expression were read, where one is being read, and how many
-- blocks are open
pub record Tally : Type 0 where
  pub tokens : Option ℕ
  pub depth : ℕ

abbrev pub outside : ℕ → Lexeme → Tally
outside d (lexeme.Word word.Print) = record { tokens = Some 0; depth = d }
outside d (lexeme.Word word.Return) = record { tokens = Some 0; depth = d }
outside d (lexeme.Word word.If) = record { tokens = Some 0; depth = d }
outside d (lexeme.Word word.While) = record { tokens = Some 0; depth = d }
outside d lexeme.Equals = record { tokens = Some 0; depth = d }
outside d (lexeme.Call c) = record { tokens = Some 1; depth = d }
outside d lexeme.OpenBrace = record { tokens = None; depth = d + 1 }
outside d lexeme.CloseBrace = record { tokens = None; depth = d - 1 }
outside d other = record { tokens = None; depth = d }

abbrev pub within : ℕ → ℕ → Lexeme → Tally
within d n lexeme.Semicolon = record { tokens = None; depth = d }
within d n lexeme.OpenBrace = record { tokens = None; depth = d + 1 }
within d n other = record { tokens = Some (n + 1); depth = d }

abbrev pub tally_step : ℕ → Option ℕ → Lexeme → Tally
tally_step d None t = outside d t
tally_step d (Some n) t = within d n t

abbrev pub tally_after : Tally → Lexeme → Tally
tally_after before t = tally_step before.depth before.tokens t

abbrev pub nothing_read : Tally
nothing_read = record { tokens = None; depth = 0 }

abbrev pub is_over : Tally → Bool
is_over t = nat_lt MOST_TOKENS (unwrap_or t.tokens 0) || nat_lt MOST_BLOCKS t.depth

-- the last of these tokens, or one before it, is one too many
abbrev pub IsOver : List Lexeme → Type 0
IsOver ts = is_over (fold tally_after nothing_read ts) ≡ true
