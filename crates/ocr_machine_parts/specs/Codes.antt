-- The code of a call, by the faces of the objects that it wants, in the one order of refusals:
-- ENOENT; EINVAL for a kind; STALE; EINVAL for a number, a count or a flag; EPERM.
use Rattle.std.specs.Prelude.{ℕ, List, [], ◌∷◌, length, Bool, true, false, ◌||◌, ◌&&◌, not, nat_le, nat_lt, ◌%◌, ◌==◌, if◌then◌else◌, Option, Some, None, Result, Ok, Err}
use Rattle.ocr_guid.specs.declared.Code.{Code}
use Rattle.ocr_guid.specs.declared.Code.TheVariants as code
use Rattle.ocr_base.specs.declared.default.TheConstants.{EDT_PARAM_UNK}
use Rattle.ocr_template.specs.Template.{counts_of}
use Rattle.ocr_event_any.specs.AnyEvent as event
use Rattle.ocr_event_any.specs.declared.AnyEvent.{AnyEvent}
use Rattle.ocr_event_any.specs.declared.AnyEvent.TheVariants as any
use Rattle.ocr_event_any.specs.declared.TheConstants.{LATCH, CHANNEL}
use Rattle.ocr_channel_event.specs.declared.TheConstants.{MOST_GENERATIONS}
use Rattle.ocr_slots.specs.Steps.{on_link}
use Rattle.ocr_body_meaning.specs.declared.call.Call as body
use Rattle.ocr_body_meaning.specs.declared.call.Call.TheVariants as call
use Rattle.ocr_base.specs.declared.limits.TheConstants.{MOST_PARAMETERS, MOST_DEPENDENCES}
use Rattle.ocr_machine_parts.specs.declared.part.Part.{Part}
use Rattle.ocr_machine_parts.specs.declared.part.Part.TheVariants as part
use Rattle.ocr_machine_parts.specs.Calls.{is_object}
use Rattle.ocr_machine_parts.specs.Kinds.{is_vacant, is_block, is_template, is_event, is_edt_face, is_destroyed, is_held_by}

-- WHAT A CALL WANTS: objects by their numbers, and what each is to be. A block that is held already
-- is wanted by loads and stores.
pub data Sort : Type 0 where
  ABlock : Sort
  ToRelease : Sort
  Held : Sort
  Source : Sort
  Target : Sort
  ATemplate : Sort
  AnEvent : Sort

abbrev pub wanted_sources : List ℕ → List (ℕ × Sort)
wanted_sources [] = []
wanted_sources (d ∷ rest) =
    if is_object d then (d, Source) ∷ wanted_sources rest else wanted_sources rest

abbrev pub wanted_source : ℕ → List (ℕ × Sort)
wanted_source d = if d == 0 then [] else (d, Source) ∷ []

abbrev pub wanted_payload : ℕ → List (ℕ × Sort)
wanted_payload p = if p == 0 then [] else (p, ABlock) ∷ []

abbrev pub wanted : body.Call → List (ℕ × Sort)
wanted (call.DbRelease d) = (d, ToRelease) ∷ []
wanted (call.DbDestroy d) = (d, ABlock) ∷ []
wanted (call.Load d k) = (d, Held) ∷ []
wanted (call.Store d k v) = (d, Held) ∷ []
wanted (call.AddDependence from x i m) = (x, Target) ∷ wanted_source from
wanted (call.TemplateDestroy t) = (t, ATemplate) ∷ []
wanted (call.EventDestroy e) = (e, AnEvent) ∷ []
wanted (call.Satisfy e p slot) = (e, AnEvent) ∷ wanted_payload p
wanted (call.EdtCreate from pc ps dc ds fl o) = (from, ATemplate) ∷ wanted_sources ds
wanted other = []

-- an object is not there
abbrev pub is_missing : Sort → Part → Bool
is_missing Held x = false
is_missing other x = is_vacant x

abbrev pub has_kind : Sort → Part → Bool
has_kind Held x = true
has_kind Source x = is_block x || is_event x
has_kind Target x = is_edt_face x || is_event x
has_kind ATemplate x = is_template x
has_kind AnEvent x = is_event x
has_kind other x = is_block x

-- an object is destroyed. One who holds a destroyed block may release it
abbrev pub is_refused_as_stale : ℕ → Sort → Part → Bool
is_refused_as_stale t Held x = false
is_refused_as_stale t ToRelease x = is_destroyed x && not (is_held_by x t)
is_refused_as_stale t other x = is_destroyed x

-- one of the objects is so
abbrev pub is_any : (Sort → Part → Bool) → (ℕ → Part) → List (ℕ × Sort) → Bool
is_any test f [] = false
is_any test f (one ∷ rest) = test one.1 (f one.0) || is_any test f rest

abbrev pub is_of_other_kind : Sort → Part → Bool
is_of_other_kind sort x = not (has_kind sort x)

-- the source of a dependence is its target
abbrev pub is_its_own : body.Call → Bool
is_its_own (call.AddDependence from x i m) = from == x
is_its_own other = false

-- NUMBERS, flags and counts.
-- a count that a template may have: at most so many, or open
abbrev pub is_count : ℕ → ℕ → Bool
is_count most n = nat_le n most || (n == EDT_PARAM_UNK)

abbrev pub template_code : ℕ → ℕ → Code
template_code pc dc =
    if is_count MOST_PARAMETERS pc && is_count MOST_DEPENDENCES dc then code.Done else code.Einval

-- a block has at most 65,536 words
abbrev pub is_length : ℕ → Bool
is_length n = nat_le 8 n && (nat_le n 524288 && ((n % 8) == 0))

abbrev pub block_code : ℕ → ℕ → Code
block_code n fl = if is_length n && nat_le fl 1 then code.Done else code.Einval

-- an event has one of the kinds 1 to 4, and a channel the kind 5; one that keeps a satisfaction or
-- a link hands out one at a time
abbrev pub event_code : ℕ → ℕ → Code
event_code k fl =
    if (nat_le 1 k && nat_le k LATCH) && nat_le fl 1 then code.Done else code.Einval

abbrev pub is_most : ℕ → Bool
is_most most = nat_le 1 most && nat_le most MOST_GENERATIONS

abbrev pub channel_code : ℕ → ℕ → ℕ → ℕ → ℕ → Code
channel_code k fl most sats deps =
    if ((k == CHANNEL) && nat_le fl 1) && (is_most most && ((sats == 1) && (deps == 1)))
    then code.Done else code.Einval

abbrev pub release_code : Part → ℕ → Code
release_code x t = if is_held_by x t then code.Done else code.Eperm

-- the counts of a creation: as many parameters as are counted, no dependences or as many as are
-- counted. The one flag is that of a finish EDT
abbrev pub counted_code : Result (ℕ × ℕ) Code → List ℕ → List ℕ → ℕ → Code
counted_code (Err c) params deps flags = c
counted_code (Ok counts) params deps flags =
    if not (length params == counts.0) then code.Einval
    else if not ((length deps == 0) || (length deps == counts.1)) then code.Einval
    else if nat_lt 1 flags then code.Einval
    else code.Done

abbrev pub creation_code : Part → ℕ → List ℕ → ℕ → List ℕ → ℕ → Code
creation_code (part.Template t) pc params dc deps flags =
    counted_code (counts_of t pc dc) params deps flags
creation_code other pc params dc deps flags = code.Einval

abbrev pub link_code : Part → ℕ → Code
link_code (part.Edt slots) i = on_link slots i
link_code other i = code.Einval

-- the slots of an event: 0, and 1 of a latch
abbrev pub slot_most : AnyEvent → ℕ
slot_most (any.Latch st) = 1
slot_most other = 0

abbrev pub code_or : Option Code → Code
code_or None = code.Done
code_or (Some c) = c

abbrev pub satisfy_code : Part → ℕ → ℕ → Code
satisfy_code (part.Event st) slot p =
    if nat_lt (slot_most st) slot then code.Einval else code_or (event.refusal st p)
satisfy_code other slot p = code.Einval

-- the source of a dependence is a block; it comes to an event only where this takes one
abbrev pub brings_block : (ℕ → Part) → ℕ → Bool
brings_block f from = not (from == 0) && is_block (f from)

abbrev pub is_unfit : Bool → AnyEvent → Bool
is_unfit brings st = brings && not (event.takes st)

abbrev pub dependence_code : Bool → Part → ℕ → ℕ → Code
dependence_code brings (part.Event st) i m =
    if nat_lt (slot_most st) i || is_unfit brings st then code.Einval else code.Done
dependence_code brings target i m = if nat_lt 4 m then code.Einval else link_code target i

-- the code of a call that wants objects which are there, of their kinds and not destroyed. Shutdown
-- and Abort end the run by a Stop: no entry has them
abbrev pub number_code : ℕ → (ℕ → Part) → body.Call → Code
number_code t f (call.Print v) = code.Done
number_code t f (call.Load d k) = code.Done
number_code t f (call.Store d k v) = code.Done
number_code t f (call.DbCreate n fl) = block_code n fl
number_code t f (call.DbRelease d) = release_code (f d) t
number_code t f (call.DbDestroy d) = code.Done
number_code t f (call.TemplateCreate function pc dc) = template_code pc dc
number_code t f (call.TemplateDestroy x) = code.Done
number_code t f (call.EventCreate k fl) = event_code k fl
number_code t f (call.EventCreateParams k fl most sats deps) = channel_code k fl most sats deps
number_code t f (call.EventDestroy e) = code.Done
number_code t f (call.EdtCreate from pc params dc deps flags output) =
    creation_code (f from) pc params dc deps flags
number_code t f (call.Satisfy e p slot) = satisfy_code (f e) slot p
number_code t f (call.AddDependence from x i m) = dependence_code (brings_block f from) (f x) i m
number_code t f other = code.Einval

-- THE CODE of a call of this EDT
abbrev pub code_of : ℕ → (ℕ → Part) → body.Call → Code
code_of t f c =
    if is_any is_missing f (wanted c) then code.Enoent
    else if is_its_own c || is_any is_of_other_kind f (wanted c) then code.Einval
    else if is_any (is_refused_as_stale t) f (wanted c) then code.Stale
    else number_code t f c
