-- Programs that may be run.
use Rattle.std.specs.Prelude.{◌≡◌, ◌≤◌, ◌<◌, ◌+◌, ◌^◌, List, length, true}
use Rattle.ocr_program_tree.specs.Tree.{FunctionTree}
use Rattle.ocr_program_tree.specs.Functions.{number_of_main}
use Rattle.ocr_program_tree.specs.Rules.{are_functions_named, are_lists_short}

-- the functions that its calls name are there, their lists are short enough, there is a `mainEdt`,
-- and each function has a number of 32 bits, as has the one past the last
pub record IsRunnable (program : List FunctionTree) : Type 0 where
  pub named : are_functions_named program ≡ true
  pub short : are_lists_short program ≡ true
  pub has_main : number_of_main program ≤ length program
  pub few : length program + 1 < 2 ^ 32
