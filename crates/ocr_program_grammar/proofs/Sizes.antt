-- A program has no more functions than its text has bytes.
use Rattle.std.proofs.Common.{◌≤◌, ◌+◌, ℕ, suc, List, [], ◌∷◌, length, Option, Some, None, ap, arith, length-append}
use Rattle.ocr_text.specs.declared.token.Token.{Token}
use Rattle.ocr_text.specs.Tokens.{Tile}
use Rattle.ocr_program_tree.specs.Tree.{Statement, Statements, FunctionTree}
use Rattle.ocr_program_grammar.specs.declared.lexeme.Lexeme.{Lexeme}
use Rattle.ocr_program_grammar.specs.declared.lexeme.Lexeme.TheVariants as lexeme
use Rattle.ocr_program_grammar.specs.declared.lexeme.Word.TheVariants as word
use Rattle.ocr_program_grammar.specs.Grammar as g
use Rattle.ocr_program_grammar.specs.Grammar.{IsStatement, AreStatements, IsProgram}
use Rattle.ocr_program_grammar.specs.Laws.{IsCounted, SizeLaw}
use Rattle.ocr_program_grammar.specs.Lexing.{lexeme_of, lexeme_onto, lexemes_of}
use Rattle.ocr_program_grammar.specs.Shape.{shape}
use Rattle.ocr_program_grammar.proofs.Counted.{expression, arguments}
use Rattle.ocr_program_grammar.proofs.Lexed.{tree_told}

fewer : (ts rest : List Lexeme) → IsCounted ts rest → length rest ≤ length ts
fewer ts rest s = omega (arith, ap length s.split, length-append s.front rest)

mutual
  statement_fewer : (ts rest : List Lexeme) (s : Statement) → IsStatement ts rest s → length rest ≤ length ts
  statement_fewer _ _ _ (g.bind x ts rest e d) = omega (arith, fewer ts _ (expression 0 ts (lexeme.Semicolon ∷ rest) e d))
  statement_fewer _ _ _ (g.assign x ts rest e d) = omega (arith, fewer ts _ (expression 0 ts (lexeme.Semicolon ∷ rest) e d))
  statement_fewer _ _ _ (g.when ts mid rest e first d inner) =
      omega (arith, fewer ts _ (expression 0 ts (lexeme.OpenBrace ∷ mid) e d), statements_fewer mid (lexeme.CloseBrace ∷ rest) first inner)
  statement_fewer _ _ _ (g.choice ts mid other rest e first second d inner last) =
      omega (
        arith,
        fewer ts _ (expression 0 ts (lexeme.OpenBrace ∷ mid) e d),
        statements_fewer mid (lexeme.CloseBrace ∷ lexeme.Word word.Else ∷ lexeme.OpenBrace ∷ other) first inner,
        statements_fewer other (lexeme.CloseBrace ∷ rest) second last,
      )
  statement_fewer _ _ _ (g.repeat ts mid rest e body d inner) =
      omega (arith, fewer ts _ (expression 0 ts (lexeme.OpenBrace ∷ mid) e d), statements_fewer mid (lexeme.CloseBrace ∷ rest) body inner)
  statement_fewer _ _ _ (g.print ts rest e d) = omega (arith, fewer ts _ (expression 0 ts (lexeme.Semicolon ∷ rest) e d))
  statement_fewer _ _ _ (g.give ts rest e d) = omega (arith, fewer ts _ (expression 0 ts (lexeme.Semicolon ∷ rest) e d))
  statement_fewer _ _ _ (g.perform c ts rest args d) = omega (arith, fewer ts _ (arguments (shape c) ts (lexeme.Semicolon ∷ rest) args d))

  statements_fewer : (ts rest : List Lexeme) (ss : Statements) → AreStatements ts rest ss → length rest ≤ length ts
  statements_fewer _ _ _ (g.none rest) = omega arith
  statements_fewer _ _ _ (g.more ts mid rest s ss d others) = omega (arith, statement_fewer ts mid s d, statements_fewer mid rest ss others)

functions_few : (ts : List Lexeme) (program : List FunctionTree) → IsProgram ts program → length program ≤ length ts
functions_few _ _ g.over = omega arith
functions_few _ _ (g.function x ts rest body others d more) =
    omega (arith, statements_fewer ts (lexeme.CloseBrace ∷ rest) body d, functions_few rest others more)

one_more : (l : Option Lexeme) (rest : List Lexeme) (n : ℕ) → length rest ≤ n → length (lexeme_onto l rest) ≤ suc n
one_more None rest n few = omega (arith, few)
one_more (Some l) rest n few = omega (arith, few)

lexemes_few : (bytes : List ℕ) (tokens : List Token) → length (lexemes_of bytes tokens) ≤ length tokens
lexemes_few bytes [] = omega arith
lexemes_few bytes (t ∷ rest) = one_more (lexeme_of bytes t) (lexemes_of bytes rest) (length rest) (lexemes_few bytes rest)

tokens_few : (bytes : List ℕ) (first : ℕ) (tokens : List Token) (last : ℕ) → Tile bytes first tokens last → first + length tokens ≤ last
tokens_few bytes first [] last tiled = omega (arith, tiled)
tokens_few bytes first (t ∷ rest) last tiled = omega (arith, tiled.0, tiled.1.longest.some, tokens_few bytes t.end rest last tiled.2)

pub size_law : SizeLaw
size_law bytes tokens program are tree =
    omega (arith, functions_few (lexemes_of bytes tokens) program (tree_told bytes tokens program tree).whole, lexemes_few bytes tokens, tokens_few bytes 0 tokens (length bytes) are)
