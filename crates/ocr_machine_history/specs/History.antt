-- A history lists the entries of a run, the newest first. Each definition over it goes by the
-- newest entry and by the history before it.
use Rattle.std.specs.Prelude.{ℕ, List, [], ◌∷◌, reverse, Bool, true, false, ◌==◌, if◌then◌else◌}
use Rattle.ocr_body_meaning.specs.Behaviour.{Asked}
use Rattle.ocr_program_tree.specs.Tree.{FunctionTree}
use Rattle.ocr_machine_history.specs.declared.entry.Entry.{Entry}
use Rattle.ocr_machine_history.specs.declared.entry.Entry.TheVariants.{Call, Stop}

abbrev pub History : Type 0
History = List Entry

-- the history of a journal, whose entries stand in their order
abbrev pub history_of : List Entry → History
history_of journal = reverse journal

-- what a run is of: its program, its arguments, and how many objects it may make
pub record Setting : Type 0 where
  pub program : List FunctionTree
  pub args : List ℕ
  pub limit : ℕ

-- a program with its arguments, and how many objects it may make
abbrev pub setting_of : List FunctionTree → List ℕ → ℕ → Setting
setting_of program args limit = record { program = program; args = args; limit = limit }

-- the run was ended by a Stop
abbrev pub is_stopped : History → Bool
is_stopped [] = false
is_stopped (Stop s ∷ past) = true
is_stopped (e ∷ past) = is_stopped past

-- the EDT's calls with their answers, the newest first
abbrev pub own : History → ℕ → List Asked
own [] t = []
own (Call edt home call answer writes ∷ past) t =
    if edt == t then (record { call = call; answer = answer }) ∷ own past t else own past t
own (e ∷ past) t = own past t
