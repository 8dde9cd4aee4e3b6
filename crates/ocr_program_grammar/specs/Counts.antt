-- The tally along some tokens, and a tally in memory.
use Rattle.std.specs.Prelude.{List, fold}
use Rattle.ocr_program_grammar.specs.Limits as limits
use Rattle.ocr_program_grammar.specs.declared.lexeme.Lexeme.{Lexeme}
use Rattle.ocr_program_grammar.specs.declared.limits.Tally.{Tally}

-- the tally after these tokens
abbrev pub tally : limits.Tally → List Lexeme → limits.Tally
tally before ts = fold limits.tally_after before ts

abbrev pub tally_of : Tally → limits.Tally
tally_of t = record { tokens = t.tokens; depth = t.depth }
