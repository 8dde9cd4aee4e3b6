-- What a worker is between its calls, and what its calls leave.
use Rattle.std.specs.Prelude.{◌≡◌, ◌≢◌, ◌≤◌, ℕ, List, [], ◌∷◌, ◌++◌, ◌⊎◌, Some}
use Rattle.ocr_worker_clerk.specs.Entry.{OcrKnown}
use Rattle.ocr_worker_clerk.specs.Push.{PushesReady}
use Rattle.ocr_worker_clerk.specs.Work.{IsAway, IsIdleClerk, IsResting, OcrTable}
use Rattle.ocr_body_code.specs.declared.checked.Checked.{Checked}
use Rattle.ocr_worker_machine.specs.Ocr.{meaning}
use Rattle.ocr_machine_history.specs.declared.entry.Entry.{Entry}
use Rattle.ocr_machine_history.specs.declared.entry.Entry.TheVariants.{Wait, End}
use Rattle.ocr_steal.specs.declared.hand.Hand.{Hand}
use Rattle.ocr_turns_rule.specs.Counts.{READY}
use Rattle.ocr_turns_rule.specs.Rule.{OPEN}
use Rattle.ocr_turns_rule.specs.Words.{SeesReady, SeesWord, claiming}
use Rattle.ocr_worker.specs.declared.progress.Advanced.{Advanced}
use Rattle.ocr_worker.specs.declared.progress.Advanced.TheVariants as advanced

-- BETWEEN its calls a worker's clerk rests, with idle hands; where it owes a message it has a unit
-- to spare, and so it is at work.
pub record IsBetween (table : OcrTable) (program : Checked) (c : OcrKnown) : Type 0 where
  pub rests : IsResting table program c
  pub idle : IsIdleClerk c
  pub stake : (c.view.owed ≡ []) ⊎ (1 ≤ c.view.spares)

-- THE END of the run is known to the clerk by this commit word, which it read
pub record IsClosed (table : OcrTable) (worker word : ℕ) (c : OcrKnown) : Type 0 where
  pub past : OPEN ≤ word
  pub read : c.view.closed ≡ Some word
  pub left : IsAway table worker c

-- ADVANCING an EDT. The clerk's newest entry is such a one, and was made in this call
pub record HasEntered (old new : OcrKnown) (P : Entry → Type 0) : Type 0 where
  pub more : List (ℕ × Entry)
  pub number : ℕ
  pub entry : Entry
  pub log : new.view.log ≡ old.view.log ++ more ++ (number, entry) ∷ []
  pub is : P entry

abbrev pub IsWaitOf : ℕ → Entry → Type 0
IsWaitOf t (Wait u d) = u ≡ t
IsWaitOf t other = ⊥

abbrev pub IsEndOf : ℕ → Entry → Type 0
IsEndOf t (End u g) = u ≡ t
IsEndOf t other = ⊥

-- the claim was won, where the EDT was ready
abbrev pub WasReady : OcrKnown → ℕ → Type 0
WasReady c edt = SeesReady meaning (claiming c.view edt) edt

-- a claimed EDT came as far as this
abbrev pub HasCome : OcrTable → Checked → Advanced → ℕ → OcrKnown → OcrKnown → Type 0
HasCome table program advanced.Parked edt old new =
    IsBetween table program new × HasEntered old new (IsWaitOf edt)
HasCome table program advanced.Ended edt old new =
    IsBetween table program new × HasEntered old new (IsEndOf edt)
HasCome table program other edt old new = ⊥

-- what the hand pushed meanwhile, unless the run was found ended
abbrev pub PushesBy : Advanced → (old new : OcrKnown) → (before after : Hand) → Type 0
PushesBy (advanced.Closed word) old new before after = Unit {0}
PushesBy other old new before after = PushesReady old new before after

abbrev pub AdvanceTells : OcrTable → Checked → ℕ → Advanced → ℕ → OcrKnown → OcrKnown → Type 0
AdvanceTells table program worker (advanced.Lost word) edt old new =
    (new ≡ old) × (word ≢ READY) × SeesWord meaning new.view edt word
AdvanceTells table program worker (advanced.Closed word) edt old new =
    WasReady old edt × IsClosed table worker word new
AdvanceTells table program worker other edt old new =
    WasReady old edt × HasCome table program other edt old new
