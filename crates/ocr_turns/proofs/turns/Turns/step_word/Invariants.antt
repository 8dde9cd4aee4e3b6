use Rattle.std.specs.Prelude.{Some}
use Rattle.ocr_turns.proofs.turns.Turns.step_word.Given as goal

abbrev pub ghosts-take_step : goal.ghosts-take_step
ghosts-take_step g a = record { step = Some (a.edt, a.step) }
