use Rattle.ocr_program_grammar.specs.Counts.{tally_of}
use Rattle.ocr_program_parser.specs.View.{state_of}
use Rattle.ocr_program.proofs.Places.{Progress}
use Rattle.ocr_program.proofs.parser.read.Given as goal

abbrev pub invariant-loop-place : goal.invariant-loop-place
invariant-loop-place l = Progress l.bytes l.tokens l.place (state_of l.state) (tally_of l.tally)
