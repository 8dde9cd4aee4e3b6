use Rattle.std.proofs.Common.{◌∙◌, arith, refl}
use Rattle.ocr_machine_parts.proofs.Lists.{none_turned, some_turned, turns}
use Rattle.ocr_machine_parts.proofs.many.settle_each.Goals as goal

pub loop-i-init : goal.loop-i-init
loop-i-init c = record { turned = none_turned c.args.cache.now.entries; cap = refl }

pub settle_last-requires : goal.settle_last-requires
settle_last-requires c = some_turned c.args.cache.now.entries c.loop-i._i c.loop-i.cache.entries (omega (arith, c.loop-i-test.true, c.len-i-end.ensures.len)) c.loop-i.invariant.turned

pub loop-i-preserved : goal.loop-i-preserved
loop-i-preserved c = record {
  turned = turns c.args.cache.now.entries c.loop-i._i c.loop-i.cache.entries c.settle_last.new.cache.entries (omega (arith, c.loop-i-test.true, c.len-i-end.ensures.len)) c.loop-i.invariant.turned c.settle_last.ensures.entries;
  cap = c.settle_last.ensures.cap ∙ c.loop-i.invariant.cap;
}
