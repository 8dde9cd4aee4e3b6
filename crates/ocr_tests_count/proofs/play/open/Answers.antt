use Rattle.ocr_tests_count.proofs.Steps.{opens_with}
use Rattle.ocr_tests_count.proofs.play.open.Goals as goal

pub new-requires : goal.new-requires
new-requires c = λ t are. opens_with t c.in_ok-opening.opening.items c.in_ok-opening.ensures.items are
