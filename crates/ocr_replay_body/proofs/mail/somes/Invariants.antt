use Rattle.std.proofs.Common.{◌≡◌, ◌++◌, drop}
use Rattle.ocr_replay_body.specs.Mail.{sent_row}
use Rattle.ocr_replay_body.proofs.mail.somes.Given as goal

abbrev pub invariant-loop-message : goal.invariant-loop-message
invariant-loop-message l = l.somes.items ++ sent_row (drop l.message-index l.messages) ≡ sent_row l.messages
