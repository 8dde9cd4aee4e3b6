use Rattle.ocr_text.proofs.Laws.{tokens_law}
use Rattle.ocr_text.proofs.Texts.{texts_law}
use Rattle.ocr_text.proofs.scan.tokens_laws.Goals as goal

pub returns-clause-tokens : goal.returns-clause-tokens
returns-clause-tokens c = tokens_law

pub returns-clause-texts : goal.returns-clause-texts
returns-clause-texts c = texts_law
