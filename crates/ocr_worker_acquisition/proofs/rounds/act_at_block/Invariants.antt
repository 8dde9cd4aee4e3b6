use Rattle.ocr_worker_acquisition.specs.Rounds.{hand_of}
use Rattle.ocr_worker_acquisition.proofs.rounds.act_at_block.Given as goal

abbrev pub ghost-carry_out : goal.ghost-carry_out
ghost-carry_out g a = hand_of a.clerk.now a.edt a.payloads.now
