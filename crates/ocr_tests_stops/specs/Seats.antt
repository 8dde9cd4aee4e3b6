-- The root and the workers of the tests.
use Rattle.std.specs.Prelude.{◌≡◌, ◌≤◌, ℕ}
use Rattle.ocr_body_code.specs.declared.checked.Checked.{Checked}
use Rattle.ocr_body_code.specs.Checked.{checked_tree}
use Rattle.ocr_program_tree.specs.Runnable.{IsRunnable}
use Rattle.ocr_steal.specs.declared.pool.Pool.{Pool}
use Rattle.ocr_steal.specs.Pool.{IsOfPool}
use Rattle.ocr_turns_rule.specs.Contract.{IsOfTable}
use Rattle.ocr_run_crew.specs.Seats.{IsBetween, IsWorker}
use Rattle.ocr_worker_clerk.specs.Entry.{OcrKnown}
use Rattle.ocr_worker_clerk.specs.Work.{OcrTable}
use Rattle.ocr_tests_stops.specs.Clerks.{program_of}
use Rattle.ocr_tests_stops.specs.declared.threads.Seat.{Seat}

-- the root, with so many others out, of a table whose program may be run
pub record IsRoot (table : OcrTable) (out : ℕ) (c : OcrKnown) : Type 0 where
  pub of_table : IsOfTable table c
  pub limits : (2 ≤ table.1.limit) × (table.1.limit ≤ 65536)
  pub loads : table.1.share ≤ 16000000
  pub runnable : IsRunnable (checked_tree (program_of table))
  pub root : c.view.root ≡ 1
  pub others : c.view.out ≡ out

-- it has one unit to spare, raised so many, and did not end the run
pub record HasUnit (raised : ℕ) (c : OcrKnown) : Type 0 where
  pub spares : c.view.spares ≡ 1
  pub raised_is : c.view.raised ≡ raised
  pub goes : c.view.ended ≡ 0

-- a worker that goes to work: its clerk rests, and its hand is the pool's
pub record IsSeated (table : OcrTable) (program : Checked) (pool : Pool) (s : Seat) : Type 0 where
  pub between : IsBetween table program s.clerk
  pub worker : IsWorker s.clerk
  pub other : s.clerk.view.root ≡ 0
  pub hand : IsOfPool pool s.hand
