use Rattle.std.proofs.Common.{refl}
use Rattle.ocr_tests_stops.proofs.crew.play.Goals as goal

pub merge-requires : goal.merge-requires
merge-requires g c =
    let told = c.in_ok-closing.ensures in
    (told.0.history, record { terms = c.in_ok-turns.turns.1; root = c.work_together.new.root.view; finished = told.0; whole = refl; count = told.1 })
