-- A sink in memory.
use Rattle.std.specs.Prelude.{ℕ, ◌-◌, ◌==◌, ◌||◌, Bool, List, ◌++◌, take, Result, Ok, Err}
use Rattle.ocr_io.specs.MemorySource.{is_listed}
use Rattle.ocr_base.specs.Count.{count_on}
use Rattle.ocr_io.specs.declared.Failed.{Failed}

-- the bytes that it took, how many more it has room for, the most that a call takes, the calls that
-- fail, and how many calls and faults there were
pub record OutputState : Type 0 where
  pub taken : List ℕ
  pub free : ℕ
  pub most : ℕ
  pub fails : List ℕ
  pub calls : ℕ
  pub faults : ℕ

-- whether its next call fails
abbrev pub will_fail : OutputState → Bool
will_fail s = (s.free == 0) || is_listed s.fails s.calls

abbrev pub after_write : OutputState → List ℕ → Result ℕ Failed → OutputState
after_write s piece (Ok n) =
    record s { taken = s.taken ++ take n piece; free = s.free - n; calls = count_on s.calls 1 }
after_write s piece (Err e) = record s { calls = count_on s.calls 1; faults = count_on s.faults 1 }
