use Rattle.ocr_body_steps.proofs.steps.assign.Goals as goal

pub returns-clause-state : goal.returns-clause-state
returns-clause-state g c = c.write.ensures.state (g.A.Api.holds c.args._api.now)
