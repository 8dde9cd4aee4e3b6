use Rattle.ocr_datablock.proofs.Lines.{next_is_new, once_so_far}
use Rattle.ocr_datablock.proofs.holders.Holders.push_all.Goals as goal

pub push-requires : goal.push-requires
push-requires c = rw c.loop-i.invariant (next_is_new c.args.self.now c.args.front.now c.loop-i.i c.index-front-i.result c.loop-i-test.true c.requires)

pub take_off-requires : goal.take_off-requires
take_off-requires c = rw (c.in-Err.ensures.err, c.loop-i.invariant) (once_so_far c.args.self.now c.args.front.now c.loop-i.i c.requires)
