-- Blocks on loan as the holds of an EDT.
use Rattle.std.specs.Prelude.{◌≡◌, List, [], ◌∷◌, ◌==◌, if◌then◌else◌, Some, None, true, length}
use Rattle.std.specs.List.{All}
use Rattle.ocr_datablock.specs.Lent.{Loan}
use Rattle.ocr_body_meaning.specs.Body.{Body}
use Rattle.ocr_body_meaning.specs.Holds.{Hold, Holds}
use Rattle.ocr_acquire.specs.Mode.{is_isolated}
use Rattle.ocr_body_code.specs.Checked.{checked_tree}
use Rattle.ocr_tests_body.specs.Served.{lent_hold}
use Rattle.ocr_bench_body.specs.declared.loans.Held.{Held}
use Rattle.ocr_bench_body.specs.declared.loans.Lending.{Lending}

-- a loan as it began
abbrev pub begun_hold : Loan → Hold
begun_hold l = record { mode = l.mode; size = length l.began; began = l.began; writes = [] }

-- the holds of some blocks, each told so
abbrev pub held_in : (Loan → Hold) → List Held → Holds
held_in told [] = λ x. None
held_in told (h ∷ rest) = λ x. if h.block == x then Some (told h.loan) else held_in told rest x

-- words on loan are those of holds in EW or CONST
abbrev pub AreIsolated : List Held → Type 0
AreIsolated held = All (λ h. is_isolated h.loan.mode ≡ true) held

-- the body of a program's first function
abbrev pub body_of : Lending → Body
body_of l = record {
  program = checked_tree l.program.now;
  function = 1;
  params = [];
  depv = l.deps.now;
  holds = held_in begun_hold l.held.items;
  fuel = l.fuel;
}

-- the blocks are as they were acquired
pub record IsBegun (l : Lending) : Type 0 where
  pub isolated : AreIsolated l.held.items
  pub begun : held_in lent_hold l.held.items ≡ held_in begun_hold l.held.items
