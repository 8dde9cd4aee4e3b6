use Rattle.std.proofs.Common.{◌-◌, refl, ap}
use Rattle.ocr_datablock.proofs.Tallies.{tells_left}
use Rattle.ocr_datablock.proofs.tally.Tally.minus.Goals as goal

pub returns-clause-tells : goal.returns-clause-tells
returns-clause-tells c = λ holders tells once is. tells_left c.args.self _ holders c.args.edt c.args.mode (ap (λ n. c.args.self.ro - n) c.clashes.ensures) (ap (λ n. c.args.self.constant - n) c.clashes-2.ensures) (ap (λ n. c.args.self.rw - n) c.clashes-3.ensures) refl tells once is
