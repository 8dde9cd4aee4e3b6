use Rattle.ocr_worker_clerk.specs.Push.{ReadiesNone}
use Rattle.ocr_worker_clerk.specs.Work.{AtWork, Stays}
use Rattle.ocr_worker_acquisition.specs.Block.{HoldsCore}
use Rattle.ocr_worker_acquisition.specs.Rounds.{IsWantedIf}
use Rattle.ocr_worker_acquisition.proofs.acquisition.further_rounds.Given as goal

abbrev pub invariant-loop : goal.invariant-loop
invariant-loop g l =
    (goal.iterator-loop g).can_next l.iterator' × (goal.iterator-loop g).is_finite l.iterator'
    × AtWork l.job.turns.now l.job.program.now l.clerk
    × HoldsCore l.job.turns.now.1 l.edt l.clerk
    × IsWantedIf l.job.turns.now.1 l.edt l.wanted l.clerk
    × Stays l.fn.clerk l.clerk
    × ReadiesNone l.fn.clerk l.clerk
