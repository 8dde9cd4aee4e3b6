use Rattle.std.proofs.Common.{◌<◌, ℕ, slice_index_or, []}
use Rattle.ocr_machine_state.specs.State.{state_in}
use Rattle.ocr_replay.specs.Stops.{RowDelivers}
use Rattle.ocr_replay.proofs.mail_delivery.mail_delivers.Given as goal

abbrev pub invariant-loop-place : goal.invariant-loop-place
invariant-loop-place l = (n : ℕ) → n < l.place → RowDelivers (state_in l.table) (slice_index_or l.mail n []) → ⊥
