-- Entries that stand in several logs, each with its number.
use Rattle.std.specs.Prelude.{◌≡◌, ℕ, ◌-◌, List, length}
use mathlib.Core.Option.{some}
use lib.ListN.{get_elem?}
use Rattle.ocr_turns_rule.specs.Rule.{LogsOf}
use Rattle.ocr_turns_rule.specs.Sums.{weigh_all, below}

module _ {E : Type 0} where
  -- the logs hold the entries of the list, each at its number, and each number stands in them once
  pub record AreByNumber (logs : List (List (ℕ × E))) (list : List E) : Type 0 where
    pub of : LogsOf list logs
    pub once : (f : ℕ → ℕ) → weigh_all f logs ≡ below f (length list)

  -- the log's last entry has this number
  abbrev pub EndsAt : ℕ → List (ℕ × E) → Type 0
  EndsAt number log = (e : E) × (get_elem? log (length log - 1) ≡ some (number, e))

  -- one of the logs ends with this number
  abbrev pub HasEnd : ℕ → List (List (ℕ × E)) → Type 0
  HasEnd number logs = (j : ℕ) × (log : List (ℕ × E)) × (get_elem? logs j ≡ some log)
      × EndsAt number log

  -- each entry of the log stands at its number
  abbrev pub IsInOrder : List (ℕ × E) → Type 0
  IsInOrder log = (k n : ℕ) (e : E) → get_elem? log k ≡ some (n, e) → n ≡ k
