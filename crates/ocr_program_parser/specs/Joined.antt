-- Arguments and statements one after another.
use Rattle.ocr_program_tree.specs.Tree.{Arguments, empty, value, list, named, Statement, Statements, nothing, statement}

abbrev pub with : Arguments → Arguments → Arguments
with empty after = after
with (value e rest) after = value e (with rest after)
with (list es rest) after = list es (with rest after)
with (named x rest) after = named x (with rest after)

-- one statement more, at the end
abbrev pub ended_by : Statements → Statement → Statements
ended_by nothing s = statement s nothing
ended_by (statement first rest) s = statement first (ended_by rest s)

abbrev pub followed_by : Statements → Statements → Statements
followed_by nothing after = after
followed_by (statement first rest) after = statement first (followed_by rest after)
