-- What the rules of task programs say of calls.
use Rattle.std.specs.Prelude.{ℕ, suc, List, [], Bool, true, ◌&&◌, nat_le, nat_lt, length, slice_index_or}
use Rattle.ocr_program_tree.specs.Tree as tree
use Rattle.ocr_program_tree.specs.Tree.{Arguments, FunctionTree, names_in}
use Rattle.ocr_program_tree.specs.Each.{is_each_call_of}
use Rattle.ocr_program_tree.specs.Functions.{numbers_in}
use Rattle.ocr_program_tree.specs.declared.rules.TheConstants.{MOST_PARAMETERS, MOST_DEPENDENCES}
use Rattle.ocr_program_tree.specs.declared.tree.CallName.{CallName}
use Rattle.ocr_program_tree.specs.declared.tree.CallName.TheVariants as name

-- ocrEdtTemplateCreate has the name of a function among its arguments
abbrev pub has_function : CallName → Arguments → Bool
has_function name.TemplateCreate xs = nat_lt 0 (length (names_in xs))
has_function other xs = true

-- the function that ocrEdtTemplateCreate names is one of the program
abbrev pub is_function_named : List FunctionTree → CallName → Arguments → Bool
is_function_named program name.TemplateCreate xs =
    nat_le (numbers_in program (slice_index_or (names_in xs) 0 [])) (length program)
is_function_named program other xs = true

abbrev pub are_functions_named : List FunctionTree → Bool
are_functions_named program = is_each_call_of (is_function_named program) program

-- how many members a list has
abbrev pub count_of : Arguments → ℕ
count_of tree.empty = 0
count_of (tree.value e rest) = suc (count_of rest)
count_of (tree.list es rest) = suc (count_of rest)
count_of (tree.named x rest) = suc (count_of rest)

-- the lists among arguments have at most so many members, the first fewer than the others
abbrev pub are_short : ℕ → Arguments → Bool
are_short most tree.empty = true
are_short most (tree.value e rest) = are_short most rest
are_short most (tree.list es rest) = nat_le (count_of es) most && are_short MOST_DEPENDENCES rest
are_short most (tree.named x rest) = are_short most rest

-- a list of parameters and a list of dependences have at most so many members
abbrev pub is_list_short : CallName → Arguments → Bool
is_list_short made xs = are_short MOST_PARAMETERS xs

abbrev pub are_lists_short : List FunctionTree → Bool
are_lists_short program = is_each_call_of is_list_short program
