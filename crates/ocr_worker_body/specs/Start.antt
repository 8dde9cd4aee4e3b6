-- A clerk that starts an EDT.
use Rattle.std.specs.Prelude.{◌≡◌, ◌<◌, ◌≤◌, ℕ, List, [], ◌∷◌, Bool, length, Some}
use Rattle.ocr_body_code.specs.Checked.{checked_tree}
use Rattle.ocr_body_code.specs.declared.checked.Checked.{Checked}
use Rattle.ocr_machine_parts.specs.declared.part.Core.{Core}
use Rattle.ocr_machine_parts.specs.declared.part.Part.TheVariants as part
use Rattle.ocr_machine_parts.specs.Kinds.{work_in}
use Rattle.ocr_turns_rule.specs.Contract.{SameRoom}
use Rattle.ocr_worker_machine.specs.Clerks.{OcrTerms}
use Rattle.ocr_worker_clerk.specs.Entry.{OcrKnown}
use Rattle.ocr_worker_access.specs.Access.{Runs}
use Rattle.ocr_worker_access.specs.Served.{own_log}
use Rattle.ocr_worker_body.specs.Given.{body_given, stale_with, values_by}
use Rattle.ocr_worker_body.specs.declared.given.Inputs.{Inputs}

-- THE CORE at hand is the only part there
abbrev pub HasCore : ℕ → Core → OcrKnown → Type 0
HasCore place core c = c.parts ≡ (place, Some (part.Core core)) ∷ []

-- it was changed so, and nothing else
pub record StepsCore (place : ℕ) (step : Core → Core) (old new : OcrKnown) : Type 0 where
  pub table : new.table ≡ old.table
  pub view : new.view ≡ old.view
  pub room : SameRoom old new
  pub core : (core : Core) → HasCore place core old → HasCore place (step core) new

-- this was read of it
pub record IsRead (place : ℕ) (used : List Bool) (payloads : List ℕ) (g : Inputs) (c : OcrKnown)
    : Type 0 where
  pub core : Core
  pub at_hand : HasCore place core c
  pub function : g.function ≡ core.function
  pub params : g.params.items ≡ core.params
  pub depv : g.depv.items ≡ values_by (stale_with (work_in core.edt)) used payloads
  pub begun : g.begun.value ≡ c

-- STARTED: the clerk runs the body that is given this, which made no call yet
pub record IsStartedWith (t : OcrTerms) (program : Checked) (edt : ℕ) (g : Inputs) (c : OcrKnown)
    : Type 0 where
  pub runs : Runs t edt (body_given program g) c
  pub begun : g.begun.value ≡ c
  pub calls : own_log c.view.log edt ≡ []
  pub exists : (0 < g.function) × (g.function ≤ length (checked_tree program))
