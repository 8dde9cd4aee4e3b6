use Rattle.ocr_worker_calls.proofs.answer.draw_if.Goals as goal

pub draw_number-requires-clause-few : goal.draw_number-requires-clause-few
draw_number-requires-clause-few g c = c.requires.few c.if-not-wanted.false
