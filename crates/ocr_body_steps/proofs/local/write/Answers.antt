use Rattle.ocr_body_steps.proofs.Variables.{value_set}
use Rattle.ocr_body_steps.proofs.local.write.Goals as goal

pub returns-clause-state : goal.returns-clause-state
returns-clause-state c =
    λ holds i. record {
      fuel = c.args.local.now.fuel;
      code = c.args.local.now.code;
      variables = λ y. value_set c.args.frame.now.names.now c.args.local.now.values.items c.args.place c.args.value y c.requires.place c.requires.fits.room c.requires.fits.distinct i;
      holds = holds;
    }
