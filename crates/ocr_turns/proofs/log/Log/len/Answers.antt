use Rattle.std.proofs.Common.{ap, arith, length}
use Rattle.ocr_turns.proofs.Logs.{zip_size}
use Rattle.ocr_turns.proofs.log.Log.len.Goals as goal

pub returns : goal.returns
returns g c =
    let size = zip_size c.self.inside.numbers.items c.self.inside.entries.items c.self.invariant in
    let same = ap (λ x. length x.items) c.self.view_is in let n = c.len.ensures in omega arith
