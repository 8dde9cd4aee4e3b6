use Rattle.ocr_replay_legality.proofs.Numbers.{room_found}
use Rattle.ocr_replay_legality.proofs.weights.room.Goals as goal

pub returns : goal.returns
returns c = λ s past of. room_found s past c.args.table.now c.count_fresh.result of c.count_fresh.ensures
