use Rattle.ocr_machine_parts.specs.Effects.{dropping_core}
use Rattle.ocr_machine_effects.proofs.Places.{core_step}
use Rattle.ocr_machine_effects.proofs.holds.drop_core.Goals as goal

pub returns-clause-parts : goal.returns-clause-parts
returns-clause-parts c =
    core_step c.args.parts.now c.take_core-core.new.self c.put_core.new.self c.args.edt c.take_core-core.result c.drop_hold-kept.new.self (dropping_core c.args.block) c.take_core-core.ensures.left c.put_core.ensures c.take_core-core.ensures.was c.drop_hold-kept.ensures.left
