-- Two tokens that end what may otherwise go on.
use Rattle.std.specs.Prelude.{Bool, true, false}
use Rattle.ocr_program_grammar.specs.declared.lexeme.Lexeme.{Lexeme}
use Rattle.ocr_program_grammar.specs.declared.lexeme.Lexeme.TheVariants as lexeme
use Rattle.ocr_program_grammar.specs.declared.lexeme.Word.TheVariants as word

abbrev pub is_else : Lexeme → Bool
is_else (lexeme.Word word.Else) = true
is_else other = false

abbrev pub is_close_square : Lexeme → Bool
is_close_square lexeme.CloseSquare = true
is_close_square other = false
