use Rattle.std.proofs.Common.{Some}
use Rattle.ocr_tests_stops.proofs.crew.play.Given as goal

abbrev pub ghosts-work_together : goal.ghosts-work_together
ghosts-work_together g a = record { table = Some a.turns.now }
