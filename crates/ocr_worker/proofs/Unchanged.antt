-- A worker's calls where the run is quiet.
use Rattle.std.proofs.Common.{◌≡◌, ℕ, refl}
use Rattle.ocr_worker.specs.Debts.{IsAlone, IsAtRest}
use Rattle.ocr_worker.specs.Progress.{AdvanceTells, IsBetween}
use Rattle.ocr_worker.specs.declared.progress.Advanced.{Advanced}
use Rattle.ocr_worker.specs.declared.progress.Advanced.TheVariants as advanced
use Rattle.ocr_worker_clerk.specs.Entry.{OcrKnown}
use Rattle.ocr_worker_clerk.specs.Work.{OcrTable}
use Rattle.ocr_body_code.specs.declared.checked.Checked.{Checked}
use Rattle.ocr_worker_machine.specs.Drained.{IsLone}
use Rattle.ocr_worker_machine.proofs.Quiet.{rest_law}
use Rattle.ocr_worker_machine.specs.Ocr.{meaning}
use Rattle.ocr_turns_rule.specs.Words.{SeesReady, claiming}

pub lone : (table : OcrTable) (program : Checked) (c : OcrKnown) → IsBetween table program c → IsAlone c → IsLone table.1 c.view
lone table program c between alone = record {
  terms = between.rests.of_table.1;
  unclosed = between.rests.is_open;
  root = alone.root;
  nobody_out = alone.nobody_out;
}

-- A QUIET RUN: no claim is won
pub quiet_lost : (table : OcrTable) (program : Checked) (worker edt : ℕ) (a : Advanced) (old new : OcrKnown) → IsBetween table program old → IsAtRest table old → AdvanceTells table program worker a edt old new → (word : ℕ) × (a ≡ advanced.Lost word) × (new ≡ old)
quiet_lost table program worker edt a old new between rest told =
    let never = (rest_law table.1 old.view rest.quiet.history (lone table program old between rest.alone) rest.quiet.fits rest.quiet.quiet).1 edt in
    by_answer a told never
  where
    by_answer : (a : Advanced) → AdvanceTells table program worker a edt old new → (SeesReady meaning (claiming old.view edt) edt → ⊥) → (word : ℕ) × (a ≡ advanced.Lost word) × (new ≡ old)
    by_answer (advanced.Lost word) told never = (word, refl, told.0)
    by_answer advanced.Parked told never = absurd (never told.0)
    by_answer advanced.Ended told never = absurd (never told.0)
    by_answer (advanced.Closed word) told never = absurd (never told.0)
