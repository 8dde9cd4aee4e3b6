use Rattle.std.proofs.Common.{refl, arith}
use Rattle.ocr_memory_model.proofs.Linked.{matched_step, matched_done}
use Rattle.ocr_memory_model.proofs.links.matches.Goals as goal

pub loop-i-preserved : goal.loop-i-preserved
loop-i-preserved c = matched_step c.args.message.now c.args.satisfactions.now c.args.links.now c.loop-i.i c.loop-i.places.items c.push_if.new.places.items _ c.is_match.result _ _
    (omega (arith, c.loop-i-test.true)) (omega (arith, c.loop-i-test.true)) refl refl c.is_match.ensures c.in_ok-push_if.ensures c.loop-i.invariant

pub returns : goal.returns
returns c = matched_done c.args.message.now c.args.satisfactions.now c.args.links.now c.loop-i.i c.loop-i.places.items _ (omega (arith, c.loop-i-test.false)) c.loop-i.invariant
