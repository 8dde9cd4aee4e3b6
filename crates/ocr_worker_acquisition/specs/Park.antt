-- What parking asks.
use Rattle.std.specs.Prelude.{◌≡◌, ◌≤◌, ◌+◌, ℕ, List, true, is_some}
use Rattle.std.specs.List.{All}
use mathlib.Core.Option.{some}
use lib.ListN.{get_elem?}
use Rattle.ocr_acquire.specs.Mode.{mode_in}
use Rattle.ocr_datablock.specs.Block as block
use Rattle.ocr_worker_machine.specs.Clerks.{OcrTerms}
use Rattle.ocr_machine_parts.specs.declared.part.Part.TheVariants as part
use Rattle.ocr_machine_parts.specs.Taken.{is_within}
use Rattle.ocr_turns_rule.specs.Sums.{as_some, keys}
use Rattle.ocr_worker_clerk.specs.Entry.{OcrKnown}
use Rattle.ocr_worker_clerk.specs.Work.{RunsNone}

-- The worker keeps the parts of these places, all at hand. Among them is a block in whose queue the
-- EDT stands. No EDT runs by its log.
pub record IsLetWait (t : OcrTerms) (edt : ℕ) (places : List ℕ) (c : OcrKnown) : Type 0 where
  pub kept : keys c.view.parts ≡ places
  pub hand : c.parts ≡ as_some c.view.parts
  pub place : ℕ
  pub awaited : ℕ
  pub state : block.State
  pub here : get_elem? c.view.parts place ≡ some (awaited, part.Block state)
  pub inside : is_within t.limit awaited ≡ true
  pub queued : is_some (mode_in edt state.queue) ≡ true
  pub none : RunsNone c.view
  pub within : All (λ p. p ≤ t.limit + t.limit) places
