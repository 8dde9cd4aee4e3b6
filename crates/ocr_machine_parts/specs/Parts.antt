-- The parts of the machine's state after a history, told by its objects.
use Rattle.std.specs.Prelude.{ℕ, List, [], ◌∷◌, false, ◌==◌, if◌then◌else◌, Option, Some, None}
use Rattle.ocr_guid.specs.Target.{EventCall, was_destroyed}
use Rattle.ocr_slots.specs.Slots as slot
use Rattle.ocr_datablock.specs.Block as block
use Rattle.ocr_event_any.specs.AnyEvent as event
use Rattle.ocr_edt.specs.declared.Identity.{Identity}
use Rattle.ocr_edt.specs.Edt as edt
use Rattle.ocr_finish.specs.Scope as scope
use Rattle.ocr_body_meaning.specs.declared.call.Call.TheVariants as call
use Rattle.ocr_body_meaning.specs.declared.call.Answer.{Answer}
use Rattle.ocr_machine_history.specs.declared.entry.Entry.TheVariants.{Call}
use Rattle.ocr_machine_history.specs.History.{History, Setting}
use Rattle.ocr_machine_history.specs.Made.{Made, MadeBlock, MadeTemplate, MadeEdt, MadeEvent, MadeScope, makes, made}
use Rattle.ocr_machine_parts.specs.declared.loans.Kept.{Kept}
use Rattle.ocr_machine_parts.specs.declared.part.Part.{Part}
use Rattle.ocr_machine_parts.specs.declared.part.Part.TheVariants as part
use Rattle.ocr_machine_parts.specs.Calls.{link_calls, block_calls, edt_calls, event_calls, scope_calls, loans_of}

-- the face of each object, and the core of each EDT
pub record Parts : Type 0 where
  pub face : ℕ → Part
  pub core : ℕ → Part

-- WHO AN EDT IS. An EDT with no scope and no output event
abbrev pub plain_identity : ℕ → Identity
plain_identity t = record { edt = t; scope = 0; output = 0; finish = false }

-- the home of a new EDT: its own scope for a finish EDT, else that of its maker
abbrev pub home_of_new : ℕ → Answer → ℕ → ℕ
home_of_new flags a home = if flags == 1 then a.scope else home

-- an EDT that is made with these flags and this answer by one with this home
abbrev pub new_identity : ℕ → ℕ → Answer → ℕ → Identity
new_identity t flags a home = record {
  edt = t;
  scope = home_of_new flags a home;
  output = a.output;
  finish = flags == 1;
}

-- by the call that made it
abbrev pub identity_of : History → ℕ → Identity
identity_of [] t = plain_identity t
identity_of (Call by home (call.EdtCreate from pc ps dc ds fl o) a w ∷ past) t =
    if makes a t then new_identity t fl a home else identity_of past t
identity_of (e ∷ past) t = identity_of past t

-- an object with the calls on it
abbrev pub face : Option Made → List slot.SlotCall → List block.BlockCall → List EventCall
    → List scope.ScopeCall → Part
face (Some (MadeBlock n c)) links blocks events scopes = part.Block (block.state_of n c blocks)
face (Some (MadeTemplate f pc dc)) links blocks events scopes =
    part.Template (record {
      function = f;
      paramc = pc;
      depc = dc;
      destroyed = was_destroyed events;
    })
face (Some (MadeEdt f ps n)) links blocks events scopes = part.Edt (slot.state_of n links)
face (Some (MadeEvent k fl most)) links blocks events scopes =
    part.Event (event.state_of k fl most events)
face (Some (MadeScope outer output)) links blocks events scopes =
    part.Scope (scope.state_of outer output scopes)
face None links blocks events scopes = part.Vacant

abbrev pub core : Option Made → Identity → List edt.EdtCall → List (ℕ × Kept) → Part
core (Some (MadeEdt f ps n)) i calls loans =
    part.Core (record { function = f; params = ps; edt = edt.edt_of i calls; loans = loans })
core other i calls loans = part.Vacant

abbrev pub parts_of : Setting → History → Parts
parts_of s past = record {
  face = λ g.
      face (made s past g) (link_calls past g) (block_calls s past g) (event_calls s past g)
      (scope_calls past g);
  core = λ t. core (made s past t) (identity_of past t) (edt_calls s past t) (loans_of s past t);
}
