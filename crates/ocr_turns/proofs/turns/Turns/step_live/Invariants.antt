use Rattle.std.specs.Prelude.{Some}
use Rattle.ocr_turns.proofs.turns.Turns.step_live.Given as goal

abbrev pub ghosts-take_live : goal.ghosts-take_live
ghosts-take_live g a = record { step = Some a.step }
