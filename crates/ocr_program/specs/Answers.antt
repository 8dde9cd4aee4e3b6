-- What parsing answers.
use Rattle.std.specs.Prelude.{◌≡◌, ℕ, List, Result, Ok, Err}
use Rattle.ocr_text.specs.declared.token.Token.{Token}
use Rattle.ocr_program_tree.specs.declared.tree.Program.{Program}
use Rattle.ocr_program_tree.specs.Tree.{FunctionTree}
use Rattle.ocr_program_tree.specs.View.{tree_of}
use Rattle.ocr_program_grammar.specs.Lexemes.{IsTreeOf, IsSyntaxFault}
use Rattle.ocr_program.specs.declared.parser.ParseStop.{ParseStop}
use Rattle.ocr_program.specs.declared.parser.ParseStop.TheVariants as stop
use Rattle.ocr_program.specs.declared.parser.Parsed.{Parsed}
use Rattle.ocr_program.specs.declared.parser.Parsed.TheVariants as parsed

abbrev pub Answers : Parsed → List ℕ → List Token → Type 0
Answers (parsed.Program p) bytes tokens = IsTreeOf bytes tokens (tree_of p)
Answers (parsed.Fault place) bytes tokens = IsSyntaxFault bytes tokens place

-- the answer is this tree, or want of memory
abbrev pub IsTreeOrNoMemory : Result Program ParseStop → List FunctionTree → Type 0
IsTreeOrNoMemory (Ok p) program = tree_of p ≡ program
IsTreeOrNoMemory (Err stop.NoMemory) program = Unit {0}
IsTreeOrNoMemory (Err (stop.Fault f)) program = ⊥

-- the answer is a fault at this place, or want of memory
abbrev pub IsFaultOrNoMemory : Result Program ParseStop → ℕ → Type 0
IsFaultOrNoMemory (Ok p) place = ⊥
IsFaultOrNoMemory (Err stop.NoMemory) place = Unit {0}
IsFaultOrNoMemory (Err (stop.Fault f)) place = f.place ≡ place
