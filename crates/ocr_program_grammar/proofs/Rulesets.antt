-- What goals share.
use Rattle.ocr_program_grammar.proofs.Counted.{count_law}
use Rattle.ocr_program_grammar.proofs.Spelling.{spelling_law}

pub ruleset laws = (count_law, spelling_law)
