-- The EDTs that a worker's clerk makes ready, and what its hand pushes.
use Rattle.std.specs.Prelude.{◌≡◌, ℕ, List, [], ◌∷◌, ◌++◌}
use Rattle.ocr_steal.specs.declared.hand.Hand.{Hand}
use Rattle.ocr_steal.specs.Hand.{IsSame, knows, misses_of, own}
use Rattle.ocr_worker_clerk.specs.Entry.{OcrKnown}

-- the clerk made no EDT ready
abbrev pub ReadiesNone : OcrKnown → OcrKnown → Type 0
ReadiesNone old new = new.view.debts.readied ≡ old.view.debts.readied

-- THE HAND was pushed to at most
pub record IsPushed (old new : Hand) : Type 0 where
  pub same : IsSame old new
  pub knows_same : knows new ≡ knows old
  pub misses : misses_of new ≡ misses_of old

-- it pushed this EDT and nothing else
abbrev pub Pushes : ℕ → Hand → Hand → Type 0
Pushes edt before after =
    own after ≡ record (own before) { pushed = (own before).pushed ++ edt ∷ [] }

-- THE READY: it pushed the EDTs that the clerk made ready, in this order, and no others
pub record PushesReady (old new : OcrKnown) (before after : Hand) : Type 0 where
  pub ready : List ℕ
  pub readied : new.view.debts.readied ≡ old.view.debts.readied ++ ready
  pub pushed : own after ≡ record (own before) { pushed = (own before).pushed ++ ready }
