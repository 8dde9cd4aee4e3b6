-- Laws of the grammar and its limits.
use Rattle.std.specs.Prelude.{◌≡◌, ◌≤◌, ◌+◌, ℕ, List, ◌++◌, Some, length}
use Rattle.ocr_text.specs.Tokens.{AreTokens}
use Rattle.ocr_text.specs.declared.token.Token.{Token}
use Rattle.ocr_program_tree.specs.Tree.{Expression, Arguments, Statements, FunctionTree}
use Rattle.ocr_program_tree.specs.declared.tree.BinaryOp.{BinaryOp}
use Rattle.ocr_program_tree.specs.declared.tree.CallName.{CallName}
use Rattle.ocr_program_tree.specs.declared.tree.Constant as of_constant
use Rattle.ocr_program_grammar.specs.declared.lexeme.Lexeme.{Lexeme}
use Rattle.ocr_program_grammar.specs.declared.lexeme.Lexeme.TheVariants as lexeme
use Rattle.ocr_program_grammar.specs.declared.lexeme.Word.{Word}
use Rattle.ocr_program_grammar.specs.declared.argument_kind.ArgumentKind.{ArgumentKind}
use Rattle.ocr_program_grammar.specs.Grammar.{IsExpression, AreArguments, AreStatements}
use Rattle.ocr_program_grammar.specs.Nesting.{nesting, resting, deepest}
use Rattle.ocr_program_grammar.specs.Lexemes.{AreLexemes, IsTreeOf}
use Rattle.ocr_program_grammar.specs.Counts.{tally}
use Rattle.ocr_program_grammar.specs.Lexing.{lexeme_of_name, symbol}
use Rattle.ocr_program_grammar.specs.Texts.{word_text, call_text, constant_text, operator_text}

-- From the one list to the other stand tokens of which the tally counts each.
pub record IsCounted (ts rest : List Lexeme) : Type 0 where
  pub front : List Lexeme
  pub split : ts ≡ front ++ rest
  pub counted : (n d : ℕ)
      → tally (record { tokens = Some n; depth = d }) front
      ≡ record { tokens = Some (n + length front); depth = d }

-- The count is the number of tokens of the outermost expression.
pub record CountLaw : Type 0 where
  pub expression : (l : ℕ) (ts rest : List Lexeme) (e : Expression) → IsExpression l ts rest e
      → IsCounted ts rest
  pub arguments : (ss : List ArgumentKind) (ts rest : List Lexeme) (args : Arguments)
      → AreArguments ss ts rest args → IsCounted ts rest

-- From the one list to the other stand tokens before and after which no expression is read and d
-- blocks are open, and n more at most between them.
pub record IsNested (d n : ℕ) (ts rest : List Lexeme) : Type 0 where
  pub front : List Lexeme
  pub split : ts ≡ front ++ rest
  pub back : tally (resting d) front ≡ resting d
  pub deep : deepest (resting d) front ≡ d + n

-- The open blocks are the bodies that stand in one another, and each expression is counted from 0.
abbrev pub NestingLaw : Type 0
NestingLaw = (d : ℕ) (ts rest : List Lexeme) (ss : Statements) → AreStatements ts rest ss
    → IsNested d (nesting ss) ts rest

-- What is written for a reserved name or an operator is read as that.
pub record SpellingLaw : Type 0 where
  pub word : (w : Word) → lexeme_of_name (word_text w) ≡ lexeme.Word w
  pub call : (c : CallName) → lexeme_of_name (call_text c) ≡ lexeme.Call c
  pub constant : (c : of_constant.Constant) → lexeme_of_name (constant_text c) ≡ lexeme.Constant c
  pub operator : (op : BinaryOp) → symbol (operator_text op) ≡ Some (lexeme.Operator op)

-- A program has no more functions than its text has bytes.
abbrev pub SizeLaw : Type 0
SizeLaw = (bytes : List ℕ) (tokens : List Token) (program : List FunctionTree)
    → AreTokens bytes tokens → IsTreeOf bytes tokens program → length program ≤ length bytes

-- The tokens of a text are lexemes, in one way: no symbol is passed over.
pub record LexemesLaw : Type 0 where
  pub some : (bytes : List ℕ) (tokens : List Token) → AreTokens bytes tokens
      → (places : List ℕ) × ((lexemes : List Lexeme) × AreLexemes bytes tokens places lexemes)
  pub one : (bytes : List ℕ) (tokens : List Token) (places other_places : List ℕ)
      (lexemes others : List Lexeme) → AreLexemes bytes tokens places lexemes
      → AreLexemes bytes tokens other_places others → (places ≡ other_places) × (lexemes ≡ others)
