-- Arguments from a place on, counted from 0, the margin of a block, and the functions after the
-- first.
use Rattle.std.specs.Prelude.{ℕ, zero, suc, List, [], ◌++◌, codes, flat_map}
use Rattle.ocr_program_tree.specs.Tree.{Arguments, FunctionTree}
use Rattle.ocr_program_canonical.specs.Canonical.{arguments_text, further_text, function_text}

-- what stands before the argument at a place
abbrev pub comma_at : ℕ → List ℕ
comma_at zero = []
comma_at (suc n) = codes ", "

-- what stands before the name at a place
abbrev pub sign_at : ℕ → List ℕ
sign_at zero = []
sign_at (suc n) = codes "&"

-- the text of the arguments from a place on
abbrev pub from_place : ℕ → Arguments → List ℕ
from_place zero xs = arguments_text xs
from_place (suc n) xs = further_text xs

-- two spaces deeper
abbrev pub deeper : List ℕ → List ℕ
deeper margin = margin ++ codes "  "

-- functions after others
abbrev pub further_functions : List FunctionTree → List ℕ
further_functions rest = flat_map (λ g. codes "\n" ++ function_text g) rest
