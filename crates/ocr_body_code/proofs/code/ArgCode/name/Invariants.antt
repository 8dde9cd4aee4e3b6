use Rattle.std.proofs.Common.{◌≡◌, ℕ, List, true}
use Rattle.ocr_body_code.specs.Code.{arguments_at, are_args_placed}
use Rattle.ocr_program_tree.specs.Tree.{names_in}
use Rattle.ocr_body_code.proofs.code.ArgCode.name.Given as goal

-- the arguments passed over have no name
abbrev pub invariant-loop-args : goal.invariant-loop-args
invariant-loop-args l = ((names : List (List ℕ)) → names_in (arguments_at names l.self) ≡ names_in (arguments_at names l.args)) × ((numbers : List ℕ → ℕ) (names : List (List ℕ)) → are_args_placed numbers names l.self ≡ true → are_args_placed numbers names l.args ≡ true)
