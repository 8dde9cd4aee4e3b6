use Rattle.std.proofs.Common.{ap, sym, ◌∙◌}
use lib.ListN.{get_elem?}
use Rattle.ocr_tests_turns.proofs.play.owed_message.Goals as goal

pub returns-clause-has : goal.returns-clause-has
returns-clause-has c = (0, c.first.result.now.2, ap (λ l. get_elem? l 0) (sym c.owed-owed.ensures) ∙ c.first.ensures)
