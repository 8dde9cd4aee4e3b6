-- Nothing that an EDT does on its way to its start makes another ready.
use Rattle.std.proofs.Common.{ap}
use Rattle.ocr_worker_machine.specs.Clerks.{OcrView}
use Rattle.ocr_worker_clerk.specs.Entry.{OcrKnown}
use Rattle.ocr_worker_clerk.specs.Push.{ReadiesNone}
use Rattle.ocr_worker_acquisition.specs.Rounds.{GaveFaces}
use Rattle.ocr_worker_acquisition.specs.Acquisition.{Learns}

pub learnt_readies : (old new : OcrKnown) → Learns old.view new.view → ReadiesNone old new
learnt_readies old new learns = ap (λ (v : OcrView). v.debts.readied) learns.view

pub gave_readies : (old new : OcrKnown) → GaveFaces old new → ReadiesNone old new
gave_readies old new gave = ap (λ (v : OcrView). v.debts.readied) gave.view
