use Rattle.ocr_finish.specs.Scope.{after_leave}
use Rattle.ocr_machine_effects.proofs.Places.{scope_step}
use Rattle.ocr_machine_effects.proofs.scopes.leave_at.Goals as goal

pub returns-clause-parts : goal.returns-clause-parts
returns-clause-parts c = scope_step c.args.parts.now c.take_scope-state.new.self c.put_face.new.self c.args.scope c.take_scope-state.result c.leave-leaving.new.self after_leave
    c.take_scope-state.ensures.left c.put_face.ensures c.take_scope-state.ensures.was c.leave-leaving.ensures.state
