use Rattle.std.proofs.Common.{◌≡◌, ◌≤◌, ◌+◌, ◌^◌, ◌-◌, ◌++◌, ℕ, List, length}
use Rattle.std.specs.Prelude.{reverse}
use Rattle.ocr_acquire.specs.declared.Mode.{Mode}
use Rattle.ocr_datablock.specs.Block.{front_that_fits}
use Rattle.ocr_datablock.specs.Tally.{IsTally, IsBounded}
use Rattle.ocr_datablock.proofs.row.Row.front.Given as goal

abbrev pub invariant-loop-number : goal.invariant-loop-number
invariant-loop-number l = record {
  bounded : IsBounded l.tally;
  room : l.tally.all + length l.left ≤ 2 ^ 63 + (2 ^ 63 - 1);
  told : (holders : List (ℕ × Mode)) → IsTally l.fn.held holders → IsTally l.tally (holders ++ l.front.items);
  front : (holders : List (ℕ × Mode)) → IsTally l.fn.held holders → l.front.items ++ front_that_fits (holders ++ l.front.items) (reverse l.left) ≡ front_that_fits holders l.self;
}

abbrev pub decreases-loop-number : goal.decreases-loop-number
decreases-loop-number l = length l.left
