use Rattle.ocr_datablock.proofs.Laws.{writes_law, word_law}
use Rattle.ocr_datablock.proofs.loan.loan_laws.Goals as goal

pub returns-clause-writes : goal.returns-clause-writes
returns-clause-writes c = writes_law

pub returns-clause-word : goal.returns-clause-word
returns-clause-word c = word_law
