-- What the order of the program's types says of modes, and of blocks with their modes.
use Rattle.std.proofs.Common.{◌≡◌, ℕ, ◌≤◌, Bool, false, List, arith}
use Rattle.std.specs.List.Sorted.{IsSortedBy}
use Rattle.std.specs.Ordering.{is_lt, ordering_then}
use Rattle.std.proofs.lemmas.Bool.Decides.{nat_tests}
use Rattle.ocr_acquire.specs.contracts.ModeOrd as of_modes
use Rattle.ocr_guid.specs.contracts.GuidOrd as of_guids
use Rattle.ocr_acquire.specs.declared.Mode.{Mode}
use Rattle.ocr_acquire.specs.declared.Mode.TheVariants as mode
use Rattle.ocr_acquire.specs.Mode.{rank_of}
use Rattle.ocr_acquire.proofs.Sorts.{IsUpTo, Ascends, ascends_from_sorted}

-- modes are ordered by rank
modes_tell : (m n : Mode) → is_lt (of_modes.TheImpl.ghosts.cmp m n) ≡ false → rank_of n ≤ rank_of m
modes_tell mode.Null mode.Null h = omega arith
modes_tell mode.Null mode.Ro h = cc
modes_tell mode.Null mode.Const h = cc
modes_tell mode.Null mode.Rw h = cc
modes_tell mode.Null mode.Ew h = cc
modes_tell mode.Ro mode.Null h = omega arith
modes_tell mode.Ro mode.Ro h = omega arith
modes_tell mode.Ro mode.Const h = cc
modes_tell mode.Ro mode.Rw h = cc
modes_tell mode.Ro mode.Ew h = cc
modes_tell mode.Const mode.Null h = omega arith
modes_tell mode.Const mode.Ro h = omega arith
modes_tell mode.Const mode.Const h = omega arith
modes_tell mode.Const mode.Rw h = cc
modes_tell mode.Const mode.Ew h = cc
modes_tell mode.Rw mode.Null h = omega arith
modes_tell mode.Rw mode.Ro h = omega arith
modes_tell mode.Rw mode.Const h = omega arith
modes_tell mode.Rw mode.Rw h = omega arith
modes_tell mode.Rw mode.Ew h = cc
modes_tell mode.Ew mode.Null h = omega arith
modes_tell mode.Ew mode.Ro h = omega arith
modes_tell mode.Ew mode.Const h = omega arith
modes_tell mode.Ew mode.Rw h = omega arith
modes_tell mode.Ew mode.Ew h = omega arith

abbrev pub below : ℕ × Mode → ℕ × Mode → Bool
below e f = is_lt (ordering_then (of_guids.TheImpl.ghosts.cmp e.0 f.0) (of_modes.TheImpl.ghosts.cmp e.1 f.1))

wants_tell : (e f : ℕ × Mode) → below f e ≡ false → IsUpTo e f
wants_tell (a, m) (b, n) h = grind (arith, nat_tests, modes_tell)

pub ascends : (xs : List (ℕ × Mode)) → IsSortedBy below xs → Ascends xs
ascends xs h = ascends_from_sorted below wants_tell xs h
