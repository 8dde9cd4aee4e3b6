use Rattle.std.proofs.Common.{◌∙◌, ap}
use Rattle.ocr_datablock.specs.Block.{without}
use Rattle.ocr_datablock.proofs.Lines.{replaced}
use Rattle.ocr_datablock.proofs.holders.Holders.replace.Goals as goal

pub returns-clause-state : goal.returns-clause-state
returns-clause-state c = c.remove-2.ensures ∙ ap (without c.args.edt) c.in_ok-push_all.ensures.state ∙ replaced c.args.edt c.args.self.now c.args.front.now c.requires.apart
