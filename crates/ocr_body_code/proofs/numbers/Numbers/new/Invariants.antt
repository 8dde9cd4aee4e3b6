use Rattle.std.proofs.Common.{◌≡◌, ◌+◌, ◌-◌, ℕ, List, length, drop}
use Rattle.std.specs.Option.{unwrap_or}
use Rattle.ocr_program_tree.specs.Functions.{number_named}
use Rattle.ocr_program_tree.specs.View.{functions_of}
use Rattle.ocr_body_code.specs.Places.{place_in}
use Rattle.ocr_body_code.proofs.numbers.Numbers.new.Given as goal

-- of the functions that were entered, the last ones, the index has the first one of each name
abbrev pub invariant-loop-i : goal.invariant-loop-i
invariant-loop-i l = (x : List ℕ) → unwrap_or (place_in l.by_name x) (length l.functions + 1)
    ≡ (length l.functions - l.i) + number_named x (functions_of (drop (length l.functions - l.i) l.functions))
