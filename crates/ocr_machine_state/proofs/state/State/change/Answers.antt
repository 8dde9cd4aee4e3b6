use Rattle.ocr_machine_state.proofs.state.State.change.Goals as goal

pub returns-clause-placed : goal.returns-clause-placed
returns-clause-placed c = rw c.replace-parts.ensures.value at c.in_ok-stepped.ensures.placed
