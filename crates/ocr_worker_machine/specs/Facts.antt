-- What stands in a run and lasts, and what an entry tells whoever keeps its parts.
use Rattle.std.specs.Prelude.{◌≡◌, ℕ, ◌+◌, List, [], ◌∷◌, true, Option, Some, None, length}
use Rattle.ocr_slots.specs.declared.Slot.{Slot}
use Rattle.ocr_edt.specs.Phases.{Progress}
use Rattle.ocr_program_tree.specs.Tree.{FunctionTree}
use Rattle.ocr_body_meaning.specs.Body.{Body}
use Rattle.ocr_body_meaning.specs.declared.call.Call as body
use Rattle.ocr_body_meaning.specs.Holds.{Holds}
use Rattle.ocr_machine_history.specs.declared.entry.Entry.{Entry}
use Rattle.ocr_machine_history.specs.declared.entry.Entry.TheVariants.{Start, Stop}
use Rattle.ocr_machine_history.specs.declared.entry.Stop.TheVariants as by
use Rattle.ocr_machine_history.specs.Edts.{is_started}
use Rattle.ocr_machine_history.specs.History.{History, Setting}
use Rattle.ocr_machine_history.specs.Made.{is_edt}
use Rattle.ocr_machine_parts.specs.declared.part.Core.{Core}
use Rattle.ocr_machine_parts.specs.declared.part.Part.{Part}
use Rattle.ocr_machine_parts.specs.declared.part.Part.TheVariants as part
use Rattle.ocr_machine_parts.specs.Bodies.{body_of, body_with, hold_of}
use Rattle.ocr_machine_parts.specs.Calls.{depc_of, depv_in, payload_of, payloads_of}
use Rattle.ocr_machine_parts.specs.Effects.{settled_core, started_edt}
use Rattle.ocr_machine_parts.specs.Progress.{with_phase}
use Rattle.ocr_machine_parts.specs.Kinds.{core_progress, kept_on, mode_on}
use Rattle.ocr_machine_parts.specs.Legal.{IsCreating}
use Rattle.ocr_machine_parts.specs.Taken.{look}
use Rattle.ocr_worker_machine.specs.declared.fact.Fact.{Fact}
use Rattle.ocr_worker_machine.specs.declared.fact.Fact.TheVariants.{Count, IsSet, Began, Short}
use Rattle.ocr_machine_parts.specs.Readiness.{filled}

-- THE BODY of an EDT by the face and the core from which it starts: what it holds, what it found
-- gone, and what it is told by the payloads of its slots
abbrev pub stale_in : Option Progress → List ℕ
stale_in None = []
stale_in (Some s) = s.stale

abbrev pub holds_by : Core → Holds
holds_by c = λ d.
    hold_of
    (mode_on (part.Core (with_phase started_edt c)) d)
    (kept_on (part.Core (with_phase started_edt c)) d)

abbrev pub body_by : List FunctionTree → List Slot → Core → List ℕ → Body
body_by program face c payloads =
    body_with program c.function c.params
    (depv_in (stale_in (core_progress (part.Core c))) (filled face payloads))
    (holds_by c)

-- THE FACTS
pub record IsCount (s : Setting) (past : History) (t n : ℕ) : Type 0 where
  pub made : is_edt past t ≡ true
  pub count : depc_of s past t ≡ n

pub record IsPayload (past : History) (t k p : ℕ) : Type 0 where
  pub made : is_edt past t ≡ true
  pub payload : payload_of past t k ≡ Some p

pub record HasBegun (s : Setting) (past : History) (t : ℕ) (face : List Slot) (c : Core) : Type 0
  where
    pub made : is_edt past t ≡ true
    pub started : is_started past t ≡ true
    pub body : body_of s past t ≡ body_by s.program face c (payloads_of s past t)

-- the run ended for want of numbers, where the body of this EDT, which ran, said this creation next
pub record EndsShort (s : Setting) (past : History) (t : ℕ) (c : body.Call) : Type 0 where
  pub before : History
  pub stopped : past ≡ Stop by.Objects ∷ before
  pub creating : IsCreating s before t c

abbrev pub Stands : Setting → History → Fact → Type 0
Stands s past (Count t n) = IsCount s past t n
Stands s past (IsSet t k p) = IsPayload past t k p
Stands s past (Began t face c) = HasBegun s past t face c
Stands s past (Short t c) = EndsShort s past t c.value

-- WHAT AN ENTRY TELLS whoever keeps these parts: a start tells the face and the core from which the
-- EDT started, as they are seen
abbrev pub told_by : ℕ → Part → Part → List Fact
told_by t (part.Edt face) (part.Core c) =
    Count t (length face) ∷ Began t face (settled_core c) ∷ []
told_by t face core = []

abbrev pub learns : ℕ → Entry → List (ℕ × Part) → List Fact
learns limit (Start t) ps = told_by t (look ps t) (look ps (limit + t))
learns limit other ps = []
