-- The code of a call, in the one order of refusals: ENOENT; EINVAL for a kind; STALE; EINVAL for a
-- number, a count or a flag; EPERM.
use Rattle.std.specs.Prelude.{ℕ, List, length, Bool, true, false, ◌||◌, ◌&&◌, not, nat_lt, ◌==◌, if◌then◌else◌, Option, Some, is_some}
use Rattle.std.specs.List.{list_any}
use Rattle.ocr_guid.specs.declared.Code.{Code}
use Rattle.ocr_guid.specs.declared.Code.TheVariants as code
use Rattle.ocr_guid.specs.Target.{EventCall}
use Rattle.ocr_base.specs.Default.{count_meant}
use Rattle.ocr_base.specs.declared.limits.TheConstants.{MOST_PARAMETERS, MOST_DEPENDENCES}
use Rattle.ocr_template.specs.Template.{is_refused}
use Rattle.ocr_event_any.specs.AnyEvent.{takes_arg}
use Rattle.ocr_event_any.specs.declared.TheConstants.{LATCH}
use Rattle.ocr_slots.specs.Slots.{SlotCall, is_linked}
use Rattle.ocr_body_meaning.specs.declared.call.Call as body
use Rattle.ocr_body_meaning.specs.declared.call.Call.TheVariants as call
use Rattle.ocr_machine_history.specs.History.{History, Setting}
use Rattle.ocr_machine_history.specs.Made.{Made, MadeBlock, MadeTemplate, MadeEdt, MadeEvent, made, is_edt_made}
use Rattle.ocr_machine_parts.specs.Calls.{link_calls, event_calls}
use Rattle.ocr_machine_parts.specs.Codes.{Sort, ToRelease, Held, Source, Target, ATemplate, AnEvent, wanted, is_its_own, template_code, block_code, event_code, channel_code, code_or}
use Rattle.ocr_machine_rules.specs.Blocks.{held}
use Rattle.ocr_machine_rules.specs.Events.{refusal, is_destroyed}

-- KINDS of objects
abbrev pub is_block : Option Made → Bool
is_block (Some (MadeBlock n c)) = true
is_block other = false

abbrev pub is_event : Option Made → Bool
is_event (Some (MadeEvent k fl most)) = true
is_event other = false

abbrev pub is_template : Option Made → Bool
is_template (Some (MadeTemplate f pc dc)) = true
is_template other = false

-- an object that a call wants is not there, is of the kind that is wanted, or is destroyed. One who
-- holds a destroyed block may release it
abbrev pub is_missing : Sort → Option Made → Bool
is_missing Held x = false
is_missing other x = not (is_some x)

abbrev pub has_kind : Sort → Option Made → Bool
has_kind Held x = true
has_kind Source x = is_block x || is_event x
has_kind Target x = is_edt_made x || is_event x
has_kind ATemplate x = is_template x
has_kind AnEvent x = is_event x
has_kind other x = is_block x

abbrev pub is_stale : Sort → (destroyed held : Bool) → Bool
is_stale Held destroyed held = false
is_stale ToRelease destroyed held = destroyed && not held
is_stale other destroyed held = destroyed

-- the counts of a creation: as many parameters as are counted, no dependences or as many as are
-- counted. The one flag is that of a finish EDT
abbrev pub creation_code : Option Made → ℕ → List ℕ → ℕ → List ℕ → ℕ → Code
creation_code (Some (MadeTemplate f own_pc own_dc)) pc params dc deps flags =
    if (is_refused own_pc pc MOST_PARAMETERS || is_refused own_dc dc MOST_DEPENDENCES)
    || (not (length params == count_meant own_pc pc)
    || (not ((length deps == 0) || (length deps == count_meant own_dc dc)) || nat_lt 1 flags))
    then code.Einval else code.Done
creation_code other pc params dc deps flags = code.Einval

-- the slots of an event: 0, and 1 of a latch
abbrev pub slot_most : ℕ → ℕ
slot_most k = if k == LATCH then 1 else 0

abbrev pub satisfy_code : Option Made → List EventCall → (slot payload : ℕ) → Code
satisfy_code (Some (MadeEvent k fl most)) calls slot p =
    if nat_lt (slot_most k) slot then code.Einval else code_or (refusal k fl most calls p)
satisfy_code other calls slot p = code.Einval

-- a slot that is linked already is refused; a block comes to an event only where this takes one
abbrev pub link_code : ℕ → List SlotCall → ℕ → Code
link_code depc links i =
    if not (nat_lt i depc) then code.Einval
    else if is_linked links i then code.Eperm
    else code.Done

abbrev pub dependence_code : Bool → Option Made → List SlotCall → (slot mode : ℕ) → Code
dependence_code brings (Some (MadeEvent k fl most)) links i m =
    if nat_lt (slot_most k) i || (brings && not (takes_arg fl)) then code.Einval else code.Done
dependence_code brings (Some (MadeEdt f ps n)) links i m =
    if nat_lt 4 m then code.Einval else link_code n links i
dependence_code brings other links i m = code.Einval

-- the code of a call that wants objects which are there, of their kinds and not destroyed
abbrev pub number_code : Setting → History → ℕ → body.Call → Code
number_code s past t (call.DbCreate n fl) = block_code n fl
number_code s past t (call.DbRelease d) =
    if is_some (held s past t d) then code.Done else code.Eperm
number_code s past t (call.TemplateCreate function pc dc) = template_code pc dc
number_code s past t (call.EventCreate k fl) = event_code k fl
number_code s past t (call.EventCreateParams k fl most sats deps) =
    channel_code k fl most sats deps
number_code s past t (call.EdtCreate from pc params dc deps flags output) =
    creation_code (made s past from) pc params dc deps flags
number_code s past t (call.Satisfy e p slot) =
    satisfy_code (made s past e) (event_calls s past e) slot p
number_code s past t (call.AddDependence from x i m) =
    dependence_code (is_block (made s past from)) (made s past x) (link_calls past x) i m
number_code s past t other = code.Done

-- THE CODE of a call of this EDT
abbrev pub code_of : Setting → History → ℕ → body.Call → Code
code_of s past t c =
    if list_any (λ one. is_missing one.1 (made s past one.0)) (wanted c) then code.Enoent
    else if is_its_own c || list_any (λ one. not (has_kind one.1 (made s past one.0))) (wanted c)
    then code.Einval
    else if list_any
    (λ one. is_stale one.1 (is_destroyed s past one.0) (is_some (held s past t one.0))) (wanted c)
    then code.Stale
    else number_code s past t c
