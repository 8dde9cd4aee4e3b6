-- The functions of a program, by their numbers and their names.
use Rattle.std.specs.Prelude.{◌+◌, ℕ, zero, suc, List, [], ◌∷◌, if◌then◌else◌, bytes_eq, codes}
use Rattle.ocr_program_tree.specs.Tree.{FunctionTree, Statements, nothing}

-- the statements of function number n, from 1
abbrev pub statements_at : List FunctionTree → ℕ → Statements
statements_at [] n = nothing
statements_at (f ∷ rest) zero = nothing
statements_at (f ∷ rest) (suc zero) = f.body
statements_at (f ∷ rest) (suc (suc n)) = statements_at rest (suc n)

-- the number of the first function of this name, from 1, and one past the last where there is none
abbrev pub number_named : List ℕ → List FunctionTree → ℕ
number_named name [] = 1
number_named name (f ∷ rest) = if bytes_eq f.name name then 1 else number_named name rest + 1

-- the name of the function that the first EDT runs
abbrev pub main_name : List ℕ
main_name = codes "mainEdt"

-- its number
abbrev pub number_of_main : List FunctionTree → ℕ
number_of_main program = number_named main_name program

-- the numbers of a program's functions by their names
abbrev pub numbers_in : List FunctionTree → List ℕ → ℕ
numbers_in program name = number_named name program
