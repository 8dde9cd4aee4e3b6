-- A worker whose run is quiet.
use Rattle.std.specs.Prelude.{◌≡◌, List, [], reverse, Result, OnErr}
use Rattle.ocr_worker_clerk.specs.Entry.{OcrKnown}
use Rattle.ocr_worker_clerk.specs.Work.{OcrTable}
use Rattle.ocr_worker_machine.specs.Clerks.{of_terms}
use Rattle.ocr_worker_machine.specs.Ocr.{meaning}
use Rattle.ocr_machine_history.specs.declared.entry.Entry.{Entry}
use Rattle.ocr_machine_parts.specs.Runs.{IsQuiet}
use Rattle.ocr_turns_rule.specs.Meaning.{Open}
use Rattle.ocr_turns_rule.specs.Rule.{Fits}

-- it owes no message
abbrev pub HasDelivered : OcrKnown → Type 0
HasDelivered c = c.view.owed ≡ []

-- THE LAST WORKER. No other clerk is out
pub record IsAlone (c : OcrKnown) : Type 0 where
  pub root : c.view.root ≡ 1
  pub nobody_out : c.view.out ≡ 0

-- the history that its view fits goes on, and is quiet
pub record SeesQuiet (table : OcrTable) (c : OcrKnown) : Type 0 where
  pub history : List Entry
  pub fits : Fits meaning table.1 history c.view
  pub goes_on : Open meaning.stops history
  pub quiet : IsQuiet (of_terms table.1) (reverse history)

-- it is alone, and the run is quiet
pub record IsAtRest (table : OcrTable) (c : OcrKnown) : Type 0 where
  pub alone : IsAlone c
  pub quiet : SeesQuiet table c

-- the call was not told of an end, and changed nothing
abbrev pub HasRested : {T E : Type 0} → Result T E → OcrKnown → OcrKnown → Type 0
HasRested result old new = OnErr result ⊥ × (new ≡ old)
