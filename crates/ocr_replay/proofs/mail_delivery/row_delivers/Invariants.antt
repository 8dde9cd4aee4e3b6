use Rattle.std.proofs.Common.{◌<◌, ℕ, slice_index_or, None}
use Rattle.ocr_machine_state.specs.State.{state_in}
use Rattle.ocr_replay.specs.Stops.{Delivers}
use Rattle.ocr_replay.proofs.mail_delivery.row_delivers.Given as goal

abbrev pub invariant-loop-message : goal.invariant-loop-message
invariant-loop-message l = (i : ℕ) → i < l.message-index → Delivers (state_in l.table) (slice_index_or l.row i None) → ⊥
