use Rattle.ocr_tests_turns.proofs.Adds.{pays_send}
use Rattle.ocr_tests_turns.proofs.play.turn.Goals as goal

pub add-requires-clause-unit : goal.add-requires-clause-unit
add-requires-clause-unit g c = pays_send c.owed_message-delivered.result c.args.clerk.now.view.owed c.args.clerk.now.view.spares c.owed_message-delivered.ensures.none c.requires.idle.pays
