-- The functions of a checked program.
use Rattle.std.specs.Prelude.{List}
use Rattle.ocr_program_tree.specs.Tree.{FunctionTree}
use Rattle.ocr_program_tree.specs.View.{tree_of}
use Rattle.ocr_body_code.specs.declared.checked.Checked.{Checked}

abbrev pub checked_tree : Checked → List FunctionTree
checked_tree c = tree_of c
