-- The seats of workers: as they are made, and as they come home.
use Rattle.std.specs.Prelude.{◌≡◌, ◌≤◌, ◌<◌, ℕ, ◌+◌, ◌==◌, if◌then◌else◌, List, [], ◌∷◌, length, Some, slice_index_or}
use Rattle.crossbeam_utils.specs.Padded.{padded_value}
use Rattle.crossbeam_utils.specs.declared.cache_padded.CachePadded.{CachePadded}
use Rattle.ocr_worker_clerk.specs.Entry.{OcrKnown}
use Rattle.ocr_worker_clerk.specs.Work.{AtWork, IsIdleClerk, LacksNumbers, OcrTable, stop_in}
use Rattle.ocr_body_code.specs.declared.checked.Checked.{Checked}
use Rattle.ocr_machine_history.specs.declared.entry.Stop.TheVariants as by
use Rattle.ocr_steal.specs.declared.pool.Pool.{Pool}
use Rattle.ocr_steal.specs.Deque.{newcomer}
use Rattle.ocr_steal.specs.Hand.{own}
use Rattle.ocr_steal.specs.Pool.{IsOfPool}
use Rattle.ocr_worker.specs.Leave.{HasDelivered}
pub use Rattle.ocr_worker.specs.Leave.{IsBetween, IsWorker}
pub use Rattle.ocr_worker.specs.declared.leave.Worked.{Worked}
use Rattle.ocr_run_crew.specs.declared.seats.Seat.{Seat}
use Rattle.ocr_run_crew.specs.Logs.{HasLogs, IsLog, KnowsEnd}

-- the root, with so many others out, while it has nothing of its own yet but one unit
pub record IsHiring (table : OcrTable) (program : Checked) (out : ℕ) (c : OcrKnown) : Type 0 where
  pub work : AtWork table program c
  pub idle : IsIdleClerk c
  pub owed : HasDelivered c
  pub unit : c.view.spares ≡ 1
  pub root : c.view.root ≡ 1
  pub others : c.view.out ≡ out
  pub log : c.view.log ≡ []
  pub joined : c.view.joined ≡ []

-- a clerk that goes to work
pub record IsHired (table : OcrTable) (program : Checked) (c : OcrKnown) : Type 0 where
  pub between : IsBetween table program c
  pub seat : IsWorker c
  pub other : c.view.root ≡ 0
  pub alone : c.view.joined ≡ []

-- A worker that goes to work: its hand is the pool's, of the number before its own. In the deque of
-- the first one stands the EDT that is ready at the opening, and nothing in any other.
pub record IsSeat (table : OcrTable) (program : Checked) (pool : Pool) (number : ℕ) (s : Seat)
    : Type 0 where
  pub hired : IsHired table program s.clerk
  pub worker : s.worker ≡ number + 1
  pub hand : IsOfPool pool s.hand
  pub number_is : s.hand.number ≡ number
  pub begun : own s.hand ≡ record (newcomer (own s.hand).parts) {
    pushed = if number == 0 then 2 ∷ [] else [];
  }

-- a worker's clerk that comes home, which knows how the run ended
pub record IsHome (table : OcrTable) (workers : ℕ) (c : OcrKnown) : Type 0 where
  pub table_is : c.table ≡ table.0
  pub terms : c.view.terms ≡ Some table.1
  pub other : c.view.root ≡ 0
  pub alone : c.view.joined ≡ []
  pub log : IsLog workers table.1.share c.view.log
  pub few : length c.view.drawn ≤ 3
  pub short : stop_in c.view.log ≡ Some by.Objects → LacksNumbers c.view
  pub knows : KnowsEnd c.view

-- The root, with so many others out and so many come home. It knows how the run ended once one has.
pub record IsGathering (table : OcrTable) (workers out back : ℕ) (c : OcrKnown) : Type 0 where
  pub limit : 2 ≤ table.1.limit
  pub table_is : c.table ≡ table.0
  pub terms : c.view.terms ≡ Some table.1
  pub root : c.view.root ≡ 1
  pub others : c.view.out ≡ out
  pub logs : HasLogs workers table.1.share back c.view
  pub knows : 1 ≤ back → KnowsEnd c.view

-- all go to work, in the order of their hands
abbrev pub AreSeats : OcrTable → Checked → Pool → List (CachePadded Seat) → Type 0
AreSeats table program pool seats = (k : ℕ) (d : CachePadded Seat) → k < length seats
    → IsSeat table program pool k (padded_value (slice_index_or seats k d))

-- all come home
abbrev pub AreBack : OcrTable → ℕ → List (CachePadded Worked) → Type 0
AreBack table workers backs = (k : ℕ) (d : CachePadded Worked) → k < length backs
    → IsHome table workers (padded_value (slice_index_or backs k d)).clerk
