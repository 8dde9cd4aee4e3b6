use Rattle.ocr_tests_count.proofs.SoloSteps.{opens_solo}
use Rattle.ocr_tests_count.proofs.life.open_solo.Goals as goal

pub new-requires : goal.new-requires
new-requires c = λ t are. opens_solo t c.in_ok-opening.opening.items c.in_ok-opening.ensures.items are
