-- What a worker does in a round.
use Rattle.std.specs.Prelude.{◌≡◌, ◌≢◌, ℕ, ◌+◌, ◌-◌, ◌^◌, ◌<◌, ◌⊎◌, [], ◌∷◌, min}
use Rattle.ocr_worker.specs.Debts.{HasDelivered}
use Rattle.ocr_worker.specs.Progress.{AdvanceTells}
use Rattle.ocr_worker.specs.declared.progress.Advanced.{Advanced}
use Rattle.ocr_worker_clerk.specs.Entry.{OcrKnown}
use Rattle.ocr_worker_clerk.specs.Push.{PushesReady}
use Rattle.ocr_worker_clerk.specs.Work.{OcrTable}
use Rattle.ocr_body_code.specs.declared.checked.Checked.{Checked}
use Rattle.ocr_turns_rule.specs.Debts.{IsNumber}
use Rattle.ocr_steal.specs.declared.hand.Hand.{Hand}
use Rattle.ocr_steal.specs.declared.pool.Pool.{Pool}
use Rattle.ocr_steal.specs.Deque.{IsFound, TakesFirst}
use Rattle.ocr_steal.specs.Hand.{Gets, knows, missed, own}
use Rattle.ocr_steal.specs.Pool.{hands_in}

-- one steal more from each other hand got nothing
abbrev pub HasMissedMore : ℕ → Hand → Hand → Type 0
HasMissedMore hands old new = (victim : ℕ) → victim < hands → victim ≢ old.number
    → missed new victim ≡ min (missed old victim + 1) (2 ^ 64 - 1)

-- it stole this EDT, which was the first in the deque of another hand
pub record HasStolen (pool : Pool) (old new : Hand) (edt : ℕ) : Type 0 where
  pub own_same : own new ≡ own old
  pub victim : ℕ
  pub of_pool : victim < hands_in pool
  pub other : victim ≢ old.number
  pub gets : Gets old new victim edt

-- it got this EDT: from its own deque, where it was the first, or from that of another hand
abbrev pub HasGot : Pool → Hand → Hand → ℕ → Type 0
HasGot pool old new edt = (TakesFirst 0 (own old) (edt ∷ []) (own new)
    × (knows new ≡ knows old)) ⊎ HasStolen pool old new edt

-- it found its own deque empty, and a steal from each other hand got nothing
pub record HasGotNone (pool : Pool) (old new : Hand) : Type 0 where
  pub own_empty : IsFound 0 [] (own old)
  pub own_same : own new ≡ own old
  pub knows_same : knows new ≡ knows old
  pub missed_all : HasMissedMore (hands_in pool) old new

-- the hand got an EDT, and the worker took it on
pub record HasAdvanced (table : OcrTable) (program : Checked) (pool : Pool) (worker : ℕ)
    (old new : OcrKnown) (before after : Hand) : Type 0 where
  pub edt : ℕ
  pub between : Hand
  pub got : HasGot pool before between edt
  pub advanced : IsNumber table.1.limit edt
      → (a : Advanced) × AdvanceTells table program worker a edt old new
  pub pushes : PushesReady old new between after

-- the worker delivered what its clerk owed
pub record HasPosted (old new : OcrKnown) (before after : Hand) : Type 0 where
  pub owed : HasDelivered old → ⊥
  pub delivered : HasDelivered new
  pub pushes : PushesReady old new before after

abbrev pub HasDone : OcrTable → Checked → Pool → ℕ → (old new : OcrKnown) → (before after : Hand)
    → Type 0
HasDone table program pool worker old new before after = HasPosted old new before after
    ⊎ HasAdvanced table program pool worker old new before after
