-- The limits of a run by several workers: how many objects it makes, and how much its entries
-- weigh.
use Rattle.std.specs.Prelude.{◌≤◌, ◌<◌, ℕ, ◌+◌, ◌-◌, ◌*◌, List, [], ◌∷◌, length, not, is_some}
use Rattle.std.specs.List.{filter, range_with_len}
use Rattle.ocr_body_meaning.specs.declared.call.Call as body
use Rattle.ocr_machine_history.specs.declared.entry.Entry.{Entry}
use Rattle.ocr_machine_history.specs.declared.entry.Entry.TheVariants.{Stop}
use Rattle.ocr_machine_history.specs.declared.entry.Stop as run
use Rattle.ocr_machine_history.specs.declared.entry.Stop.TheVariants as by
use Rattle.ocr_machine_history.specs.History.{History, Setting}
use Rattle.ocr_machine_history.specs.Made.{made}
use Rattle.ocr_machine_rules.specs.Rules.{IsCreating, IsWeighed}
use Rattle.ocr_machine_history.specs.Weight.{weight}
use Rattle.ocr_worker_clerk.specs.Number.{object_count}

-- the numbers from 1 to the limit that no object has
unfoldable pub free_numbers : Setting → History → List ℕ
free_numbers s past = filter (λ n. not (is_some (made s past n))) (range_with_len 1 s.limit)

-- A running EDT's body next makes objects for which fewer numbers are left than it needs, and those
-- that other workers drew and did not use: up to three each.
pub record IsShort (s : Setting) (workers : ℕ) (past : History) (t : ℕ) (c : body.Call)
    : Type 0 where
  pub creating : IsCreating s past t c
  pub short : length (free_numbers s past) < object_count c + 3 * (workers - 1)

abbrev pub IsObjectsCause : Setting → ℕ → History → Type 0
IsObjectsCause s workers past = (t : ℕ) × (c : body.Call) × IsShort s workers past t c

-- an entry of this weight, which is no Stop, could come, and the run would weigh more than the
-- share of one of its workers
pub record IsPastShare (s : Setting) (workers share : ℕ) (past : History) (worker k : ℕ)
    (e : Entry) : Type 0 where
  pub number : (1 ≤ worker) × (worker ≤ workers)
  pub weighed : IsWeighed s past e k
  pub past_share : share < weight past + k

abbrev pub IsEventsCause : Setting → ℕ → ℕ → History → ℕ → ℕ → Type 0
IsEventsCause s workers share past worker k =
    (e : Entry) × IsPastShare s workers share past worker k e

-- why a limit stopped a run: too few free numbers, or the weight of the whole run
abbrev pub IsLimitCause : Setting → ℕ → ℕ → History → run.Stop → Type 0
IsLimitCause s workers share past by.Objects = IsObjectsCause s workers past
IsLimitCause s workers share past (by.Events worker k) =
    IsEventsCause s workers share past worker k
IsLimitCause s workers share past other = Unit {0}

abbrev pub IsLimitedBy : Setting → ℕ → ℕ → History → Type 0
IsLimitedBy s workers share [] = Unit {0}
IsLimitedBy s workers share (Stop why ∷ past) = IsLimitCause s workers share past why
IsLimitedBy s workers share (e ∷ past) = Unit {0}

-- no run weighs more than the shares of its workers and of whoever comes last, and a limit stops it
-- only for its cause
pub record IsLimited (s : Setting) (workers share : ℕ) (past : History) : Type 0 where
  pub within : weight past ≤ (workers + 1) * share
  pub cause : IsLimitedBy s workers share past
