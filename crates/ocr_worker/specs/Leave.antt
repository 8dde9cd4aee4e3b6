-- What a worker that leaves has.
use Rattle.std.specs.Prelude.{◌≡◌, ℕ, Some}
pub use Rattle.ocr_worker.specs.Debts.{HasDelivered, IsAlone, SeesQuiet}
pub use Rattle.ocr_worker.specs.Progress.{IsBetween, IsClosed}
use Rattle.ocr_worker_clerk.specs.Entry.{OcrKnown}
use Rattle.ocr_worker_clerk.specs.Work.{OcrTable}
use Rattle.ocr_body_code.specs.declared.checked.Checked.{Checked}
use Rattle.ocr_worker_machine.specs.Drained.{IsUnready}
use Rattle.ocr_worker_machine.specs.Ocr.{meaning}
use Rattle.ocr_turns_rule.specs.Live.{SeesStill}
use Rattle.ocr_turns_rule.specs.Debts.{IsNumber}
use Rattle.ocr_turns_rule.specs.Units.{units}
use Rattle.ocr_worker.specs.declared.drained.Drained.{Drained}
use Rattle.ocr_worker.specs.declared.drained.Drained.TheVariants as drained
use Rattle.ocr_worker.specs.declared.leave.Leave.{Leave}
use Rattle.ocr_worker.specs.declared.leave.Leave.TheVariants as leave

-- a clerk that the root made
abbrev pub IsWorker : OcrKnown → Type 0
IsWorker c = c.view.seat ≡ 1

-- it owes no message, and gave up all its units
pub record HasGivenUp (table : OcrTable) (program : Checked) (c : OcrKnown) : Type 0 where
  pub between : IsBetween table program c
  pub delivered : HasDelivered c
  pub none : units c.view ≡ 0

-- QUIET: so many entries there are, and nothing can come any more
pub record LeavesQuiet (table : OcrTable) (program : Checked) (n : ℕ) (c : OcrKnown)
    : Type 0 where
  pub given : HasGivenUp table program c
  pub quiet : c.view.quiet ≡ Some n
  pub still : SeesStill meaning c.view n

abbrev pub WorkLeaves : OcrTable → Checked → ℕ → Leave → OcrKnown → Type 0
WorkLeaves table program worker (leave.Quiet n) c = LeavesQuiet table program n c
WorkLeaves table program worker (leave.Closed word) c = IsClosed table worker word c

-- THE LAST WORKER. It found no EDT ready
abbrev pub AllUnready : ℕ → OcrKnown → Type 0
AllUnready limit c = (n : ℕ) → IsNumber limit n → IsUnready c.view n

abbrev pub DrainLeaves : OcrTable → Checked → ℕ → Drained → OcrKnown → Type 0
DrainLeaves table program worker drained.Quiet c =
    IsBetween table program c × HasDelivered c × SeesQuiet table c
DrainLeaves table program worker (drained.Closed word) c = IsClosed table worker word c
