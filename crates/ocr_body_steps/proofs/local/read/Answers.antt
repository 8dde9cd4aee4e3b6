use Rattle.std.proofs.Common.{◌∙◌, sym}
use Rattle.ocr_body_steps.proofs.Variables.{value_at}
use Rattle.ocr_body_steps.proofs.local.read.Goals as goal

pub returns : goal.returns
returns c =
    c.index.ensures
    ∙ sym (value_at c.args.frame.now.names.now c.args.local.now.values.items c.args.place c.index.result.now c.requires.place c.requires.fits.room c.requires.fits.distinct)
