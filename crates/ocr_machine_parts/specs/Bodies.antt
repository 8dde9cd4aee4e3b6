-- What the bodies of a run do, and what an EDT holds, as its body knows it.
use Rattle.std.specs.Prelude.{ℕ, List, [], ◌∷◌, ◌==◌, if◌then◌else◌, Option, Some, None}
use Rattle.ocr_acquire.specs.declared.Mode.{Mode}
use Rattle.ocr_program_tree.specs.Tree.{FunctionTree}
use Rattle.ocr_datablock.specs.Lent.{Loan}
use Rattle.ocr_body_meaning.specs.Behaviour.{Behaviour}
use Rattle.ocr_body_meaning.specs.Holds.{Hold, Holds, no_holds}
use Rattle.ocr_acquire.specs.Mode.{is_isolated}
use Rattle.ocr_body_meaning.specs.Body.{Body, says}
use Rattle.ocr_body_meaning.specs.declared.fuel.TheConstants.{FUEL}
use Rattle.ocr_machine_history.specs.declared.entry.Entry.TheVariants.{Start}
use Rattle.ocr_machine_history.specs.History.{History, Setting, own}
use Rattle.ocr_machine_history.specs.Made.{made, function_in, params_in}
use Rattle.ocr_machine_parts.specs.declared.loans.Kept.{Kept}
use Rattle.ocr_machine_parts.specs.declared.part.Part.{Part}
use Rattle.ocr_machine_parts.specs.Calls.{depv_of}
use Rattle.ocr_machine_parts.specs.Parts.{Parts, parts_of}
use Rattle.ocr_machine_parts.specs.Kinds.{mode_on, kept_on}

-- HOLDS. In EW and CONST the words are those of the loan
abbrev pub began_in : Option Loan → List ℕ
began_in None = []
began_in (Some l) = l.began

abbrev pub writes_in : Option Loan → List (ℕ × ℕ)
writes_in None = []
writes_in (Some l) = l.writes

abbrev pub hold_in : Mode → ℕ → Option Loan → Hold
hold_in m size loan =
    if is_isolated m then record {
      mode = m;
      size = size;
      began = began_in loan;
      writes = writes_in loan;
    }
    else record { mode = m; size = size; began = []; writes = [] }

abbrev pub hold_of : Option Mode → Option Kept → Option Hold
hold_of (Some m) (Some kept) = Some (hold_in m kept.size kept.loan)
hold_of m kept = None

-- what an EDT holds by its core, as its body knows it
abbrev pub holds_in : Part → Holds
holds_in x = λ d. hold_of (mode_on x d) (kept_on x d)

-- what an EDT holds, told by its core: the modes, and the length and the loan that it keeps with
-- each block
abbrev pub holds_on : Parts → ℕ → Holds
holds_on f t = λ d. hold_of (mode_on (f.core t) d) (kept_on (f.core t) d)

-- what it held at its start
abbrev pub first_holds : Setting → History → ℕ → Holds
first_holds s [] t = no_holds
first_holds s (Start u ∷ past) t =
    if u == t then holds_on (parts_of s (Start u ∷ past)) t else first_holds s past t
first_holds s (e ∷ past) t = first_holds s past t

-- a body with these parameters, payloads and holds, and its units of fuel
abbrev pub body_with : List FunctionTree → ℕ → List ℕ → List ℕ → Holds → Body
body_with program function params depv holds = record {
  program = program;
  function = function;
  params = params;
  depv = depv;
  holds = holds;
  fuel = FUEL;
}

-- the body of the EDT: its function with its parameters, the values of its slots, and what it held
-- at its start
abbrev pub body_of : Setting → History → ℕ → Body
body_of s past t =
    body_with s.program (function_in (made s past t)) (params_in (made s past t))
    (depv_of s past t) (first_holds s past t)

-- what its body does next
abbrev pub says_next : Setting → History → ℕ → Behaviour
says_next s past t = says (body_of s past t) (own past t)
