-- A source in memory.
use Rattle.std.specs.Prelude.{ℕ, ◌==◌, ◌+◌, Bool, List, drop, Result, Ok, Err}
use Rattle.std.specs.List.{list_any}
use Rattle.ocr_base.specs.Count.{count_on}
use Rattle.ocr_io.specs.declared.Failed.{Failed}

-- the bytes that it has left, the most that a call gives, the calls that fail, and how many calls,
-- bytes given and faults there were
pub record InputState : Type 0 where
  pub left : List ℕ
  pub most : ℕ
  pub fails : List ℕ
  pub calls : ℕ
  pub given : ℕ
  pub faults : ℕ

-- whether the call of this number is one of those
abbrev pub is_listed : List ℕ → ℕ → Bool
is_listed calls call = list_any (λ k. k == call) calls

abbrev pub after_read : InputState → Result ℕ Failed → InputState
after_read s (Ok n) =
    record s { left = drop n s.left; calls = count_on s.calls 1; given = s.given + n }
after_read s (Err e) = record s { calls = count_on s.calls 1; faults = count_on s.faults 1 }
