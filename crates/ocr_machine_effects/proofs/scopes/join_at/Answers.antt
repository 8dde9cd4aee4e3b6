use Rattle.ocr_finish.specs.Scope.{after_join}
use Rattle.ocr_machine_effects.proofs.Places.{scope_step}
use Rattle.ocr_machine_effects.proofs.scopes.join_at.Goals as goal

pub returns : goal.returns
returns c = scope_step c.args.parts.now c.take_scope-state.new.self c.put_face.new.self c.args.scope c.take_scope-state.result c.join.new.self after_join
    c.take_scope-state.ensures.left c.put_face.ensures c.take_scope-state.ensures.was c.join.ensures
