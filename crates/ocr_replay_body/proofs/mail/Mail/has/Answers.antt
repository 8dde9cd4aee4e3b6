use Rattle.std.proofs.Common.{sym, ◌∙◌}
use Rattle.ocr_replay_body.proofs.Letters.{has_whether, has_not}
use Rattle.ocr_replay_body.proofs.mail.Mail.has.Goals as goal

pub returns-in-Some : goal.returns-in-Some
returns-in-Some c = has_whether c.is_same.result c.args.self.now c.args.message.now.place c.args.message.now.index c.in-Some.what c.args.message.now.what (sym c.message.ensures ∙ c.in-Some.is) c.is_same.ensures

pub returns-in-None : goal.returns-in-None
returns-in-None c = has_not c.args.self.now c.args.message.now.place c.args.message.now.index c.args.message.now.what (sym c.message.ensures ∙ c.in-None.is)
