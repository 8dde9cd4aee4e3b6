use Rattle.std.proofs.Common.{◌+◌, refl, ap}
use Rattle.ocr_datablock.proofs.Tallies.{tells_last}
use Rattle.ocr_datablock.proofs.tally.Tally.plus.Goals as goal

pub returns-clause-last : goal.returns-clause-last
returns-clause-last c = λ holders tells. tells_last c.args.self _ holders c.args.edt c.args.mode (ap (λ n. c.args.self.ro + n) c.clashes.ensures) (ap (λ n. c.args.self.constant + n) c.clashes-2.ensures) (ap (λ n. c.args.self.rw + n) c.clashes-3.ensures) refl tells
