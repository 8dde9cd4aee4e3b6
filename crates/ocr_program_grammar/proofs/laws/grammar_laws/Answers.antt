use Rattle.ocr_program_grammar.proofs.Lexed.{lexemes_law}
use Rattle.ocr_program_grammar.proofs.Nested.{nesting_law}
use Rattle.ocr_program_grammar.proofs.Sizes.{size_law}
use Rattle.ocr_program_grammar.proofs.laws.grammar_laws.Goals as goal

pub returns-clause-sizes : goal.returns-clause-sizes
returns-clause-sizes c = size_law

pub returns-clause-lexemes : goal.returns-clause-lexemes
returns-clause-lexemes c = lexemes_law

pub returns-clause-nestings : goal.returns-clause-nestings
returns-clause-nestings c = nesting_law
