use Rattle.std.proofs.Common.{◌⊎◌, inl, inr, ◌≤◌, ◌<◌, ℕ, zero, suc, List, [], ◌∷◌, length, slice_index_or, Option, arith, below_more}
use Rattle.ocr_machine_history.specs.declared.entry.What.{What}
use Rattle.ocr_replay_body.specs.Mail.{message_at}
use Rattle.ocr_replay_legality.specs.Tests.{Whether}
use Rattle.ocr_machine_state.specs.State.{state_in}
use Rattle.ocr_machine_parts.specs.Parts.{Parts}
use Rattle.ocr_replay.specs.Stops.{Delivers, RowDelivers, MailDelivers}
use Rattle.ocr_replay.proofs.mail_delivery.mail_delivers.Goals as goal

or_above : (n m : ℕ) → (n < m) ⊎ (m ≤ n)
or_above n m = grind arith

-- past the last entry there is no message
nothing_past : (f : Parts) (rows : List (List (Option What))) (n i : ℕ) → length rows ≤ n → Delivers f (message_at rows n i) → ⊥
nothing_past f [] n i past can = can
nothing_past f (row ∷ rest) zero i past can = absurd (omega (arith, past))
nothing_past f (row ∷ rest) (suc n) i past can = nothing_past f rest n i (omega (arith, past)) can

none_delivers : (f : Parts) (rows : List (List (Option What))) (place : ℕ) → length rows ≤ place → ((n : ℕ) → n < place → RowDelivers f (slice_index_or rows n []) → ⊥) → MailDelivers f rows → ⊥
none_delivers f rows place whole none (n, i, can) = elim (or_above n place) [
  | inl below ↦ none n below (i, can)
  | inr above ↦ nothing_past f rows n i (omega (arith, above, whole)) can
]

pub loop-place-preserved : goal.loop-place-preserved
loop-place-preserved c =
    let tested : Whether c.row_delivers.result (RowDelivers (state_in c.args.table.now) (slice_index_or c.args.mail.now c.loop-place.place [])) = rw c.row.ensures at c.row_delivers.ensures in
    below_more _ _ c.loop-place.invariant (tested.no c.if-row_delivers.false)

pub returns : goal.returns
returns c = record { yes = λ on. cc on; no = λ _ can. none_delivers (state_in c.args.table.now) c.args.mail.now c.loop-place.place (omega (arith, c.loop-place-test.false, c.entries-place-end.ensures)) c.loop-place.invariant can }
