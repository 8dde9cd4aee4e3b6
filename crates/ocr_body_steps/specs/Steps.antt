-- The words of the contracts of a body's steps: how an Api goes on, and which call was made.
use Rattle.std.specs.Prelude.{◌≡◌, ◌≤◌, ℕ, Option, length}
use Rattle.ocr_base.specs.Count.{Rose}
use Rattle.ocr_program_tree.specs.declared.tree.CallName.{CallName}
use Rattle.ocr_body_meaning.specs.Behaviour.{Behaviour, IsTrace}
use Rattle.ocr_body_meaning.specs.Body.{behaviour, says}
use Rattle.ocr_body_meaning.specs.Holds.{Holds}
use Rattle.ocr_body_meaning.specs.Meaning.{Value}
use Rattle.ocr_body_meaning.specs.Meaning as meaning
use Rattle.ocr_body_meaning.specs.declared.call.BodyStop.{BodyStop}
use Rattle.ocr_body_meaning.specs.declared.call.Call.{Call}
use Rattle.ocr_body_code.specs.Code.{arguments_at}
use Rattle.ocr_body_code.specs.declared.code.ArgCode.{ArgCode}
use Rattle.ocr_body_steps.specs.Given.{given_of, output_at, way_step}
use Rattle.ocr_body_steps.specs.Local.{state_in, frame_of}
use Rattle.ocr_body_steps.specs.declared.given.Given as found
use Rattle.ocr_body_steps.specs.declared.given.Way.{Way}
use Rattle.ocr_body_steps.specs.declared.local.Frame as walker
use Rattle.ocr_body_steps.specs.declared.local.Local.{Local}
use Rattle.ocr_body_steps.specs.Api.{HasValue, StoppedBy}
use Rattle.ocr_body_steps.specs.declared.api.Api.{Ghosts}

-- what the body that an Api serves does next
abbrev pub next_of : {A K : Type 0} → Ghosts A K → A → Behaviour
next_of g api = says (g.serves api) (g.log api)

-- what the body that it served before does next, after the calls that came since
abbrev pub next_after : {A K : Type 0} → Ghosts A K → A → A → Behaviour
next_after g before now = says (g.serves before) (g.log now)

-- an Api after some calls of its body: it serves the same, and each call came next when it was made
pub record GoesOn {A K : Type 0} (g : Ghosts A K) (before now : A) : Type 0 where
  pub ready : g.is_ready now
  pub serves : g.serves now ≡ g.serves before
  pub kept : g.kept now ≡ g.kept before
  pub trace : IsTrace (behaviour (g.serves before)) (g.log before)
      → IsTrace (behaviour (g.serves before)) (g.log now)
  pub later : g.closed before ≤ g.closed now

-- a part of the body stopped for this
abbrev pub IsCause : {A K : Type 0} → Ghosts A K → A → A → BodyStop → Type 0
IsCause g before now e =
    StoppedBy (next_after g before now) (Rose (g.closed before) (g.closed now)) e

-- after a part of the body: each variable still has a place, and no fuel was gained
pub record StillFits (f : walker.Frame) (before now : Local) : Type 0 where
  pub room : length now.values.items ≡ length f.names.now
  pub fuel : now.fuel ≤ before.fuel

-- the parts of the body that make one call, from this state on: a call once its arguments are found
-- and once it is known what it comes to, a call that has codes, a load, and a store
abbrev pub made_part : walker.Frame → CallName → ArgCode → found.Given → Holds → Local
    → (Value → Behaviour)
made_part f name args g holds l =
    meaning.call_step
    (frame_of f)
    name
    (arguments_at f.names.now args)
    (given_of g)
    (state_in f holds l)

abbrev pub way_part : walker.Frame → Way → Call → Option ℕ → Holds → Local → (Value → Behaviour)
way_part f way call output holds l =
    way_step way call (output_at f.names.now output) (state_in f holds l)

abbrev pub ask_part : walker.Frame → Call → Option ℕ → Holds → Local → (Value → Behaviour)
ask_part f call output holds l =
    meaning.coded_call call (output_at f.names.now output) (state_in f holds l)

abbrev pub load_part : walker.Frame → (block word : ℕ) → Holds → Local → (Value → Behaviour)
load_part f d w holds l = meaning.load_step d w (state_in f holds l)

abbrev pub store_part : walker.Frame → (block word value : ℕ) → Holds → Local
    → (Value → Behaviour)
store_part f d w v holds l = meaning.store_step d w v (state_in f holds l)

-- this expression was found to have this value, and left this state
abbrev pub Yields : {A K : Type 0} → Ghosts A K → A → A → (Value → Behaviour) → ℕ → walker.Frame
    → Local → Type 0
Yields g before now part v f l =
    HasValue (next_of g before) part v (state_in f (g.holds now) l) (next_after g before now)
