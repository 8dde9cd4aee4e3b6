use Rattle.ocr_machine_state.specs.State.{state_in}
use Rattle.ocr_replay_legality.proofs.CallTests.{deliverable_so, leavable_so}
use Rattle.ocr_replay_legality.proofs.entries.can_deliver.Goals as goal

pub returns-in-Satisfy : goal.returns-in-Satisfy
returns-in-Satisfy c = rw c.in-Satisfy.is (deliverable_so (state_in c.args.table.now) c.in-Satisfy.event c.in-Satisfy.slot c.in-Satisfy.payload c.is_satisfiable.result c.is_satisfiable.ensures)

pub returns-in-Leave : goal.returns-in-Leave
returns-in-Leave c = rw c.in-Leave.is (leavable_so (state_in c.args.table.now) c.in-Leave.scope c.has_member.result c.has_member.ensures)
