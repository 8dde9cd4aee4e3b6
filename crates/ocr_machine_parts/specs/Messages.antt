-- What an entry sends, and whom it lets go on.
use Rattle.std.specs.Prelude.{ℕ, ◌+◌, List, [], ◌∷◌, ◌++◌, map, not, ◌==◌, Bool, true, false, if◌then◌else◌, Option, Some, None}
use Rattle.ocr_base.specs.Mail as mail
use Rattle.ocr_guid.specs.declared.target.Target.{Target}
use Rattle.ocr_guid.specs.Target.{sent_by_firing, sent_by_linking}
use Rattle.ocr_event_any.specs.AnyEvent as event
use Rattle.ocr_event_any.specs.declared.AnyEvent.{AnyEvent}
use Rattle.ocr_event_any.specs.declared.AnyEvent.TheVariants as any
use Rattle.ocr_datablock.specs.Steps.{on_release, on_doom}
use Rattle.ocr_edt.specs.declared.Identity.{Identity}
use Rattle.ocr_finish.specs.declared.Leaving.{Leaving}
use Rattle.ocr_finish.specs.declared.Leaving.TheVariants as leaving
use Rattle.ocr_finish.specs.Scope as scope
use Rattle.ocr_body_meaning.specs.Holds.{is_done}
use Rattle.ocr_body_meaning.specs.declared.call.Call as body
use Rattle.ocr_body_meaning.specs.declared.call.Call.TheVariants as call
use Rattle.ocr_body_meaning.specs.declared.call.Answer.{Answer}
use Rattle.ocr_machine_history.specs.declared.entry.Entry.{Entry}
use Rattle.ocr_machine_history.specs.declared.entry.Entry.TheVariants.{Call, Deliver, Free, End}
use Rattle.ocr_machine_history.specs.declared.entry.What.{What}
use Rattle.ocr_machine_history.specs.declared.entry.What.TheVariants as what
use Rattle.ocr_machine_history.specs.History.{History, Setting}
use Rattle.ocr_machine_parts.specs.declared.part.Part.{Part}
use Rattle.ocr_machine_parts.specs.declared.part.Part.TheVariants as part
use Rattle.ocr_machine_parts.specs.Calls.{is_given, is_object, slot_target, target_of}
use Rattle.ocr_machine_parts.specs.Progress.{linked_if}
use Rattle.ocr_machine_parts.specs.Kinds.{is_block, is_edt_face, identity_on}
use Rattle.ocr_machine_parts.specs.Parts.{Parts, parts_of}

-- a payload to a target
abbrev pub what_to : ℕ × Target → What
what_to pair =
    if pair.1.is_edt then what.Set pair.1.object pair.1.slot pair.0
    else what.Satisfy pair.1.object pair.1.slot pair.0

-- a latch carries NULL_GUID
abbrev pub carried_by : AnyEvent → ℕ → ℕ
carried_by (any.Latch st) p = 0
carried_by other p = p

-- what a satisfaction sets off
abbrev pub satisfied : Part → ℕ → ℕ → List What
satisfied (part.Event st) slot p =
    map what_to (sent_by_firing (carried_by st p) (event.on_satisfy st slot p))
satisfied other slot p = []

-- a dependence on a block or on NULL_GUID reaches its target at once, one on an event where the
-- event has something for it
abbrev pub linked : Part → ℕ → Target → List What
linked (part.Event st) d t = map what_to (sent_by_linking t (event.on_link st))
linked other d t = what_to (d, t) ∷ []

abbrev pub linked_by : Bool → ℕ → Target → Parts → List What
linked_by true d t f = linked (f.face d) d t
linked_by false d t f = what_to (d, t) ∷ []

abbrev pub dep_sends : ℕ → ℕ → List ℕ → Parts → List What
dep_sends t k [] f = []
dep_sends t k (d ∷ rest) f =
    (if is_given d then linked_by (is_object d) d (slot_target t k) f else [])
    ++ dep_sends t (k + 1) rest (linked_if (is_object d) d (slot_target t k) f)

abbrev pub sent_by : body.Call → Answer → Parts → List What
sent_by (call.Satisfy e p slot) a f = satisfied (f.face e) slot p
sent_by (call.AddDependence from x i m) a f =
    linked_by (not (from == 0)) from (target_of (is_edt_face (f.face x)) x i) f
sent_by (call.EdtCreate from pc ps dc ds fl o) a f = dep_sends a.value 0 ds f
sent_by other a f = []

-- an event is satisfied, and a scope left, where there is one
abbrev pub satisfy_some : (event payload : ℕ) → List What
satisfy_some e p = if e == 0 then [] else what.Satisfy e 0 p ∷ []

abbrev pub leave_some : ℕ → List What
leave_some x = if x == 0 then [] else what.Leave x ∷ []

-- a scope that is done satisfies the output event of its finish EDT, and leaves its outer scope
abbrev pub sent_if_done : Leaving → scope.State → List What
sent_if_done leaving.Alive st = []
sent_if_done leaving.Done st = satisfy_some st.event 0 ++ leave_some st.outer

abbrev pub sent_by_leave : Part → List What
sent_by_leave (part.Scope st) = sent_if_done (scope.on_leave st) st
sent_by_leave other = []

abbrev pub sent_by_message : What → Parts → List What
sent_by_message (what.Satisfy e slot p) f = satisfied (f.face e) slot p
sent_by_message (what.Leave x) f = sent_by_leave (f.face x)
sent_by_message other f = []

-- THE END of an EDT: its output event gets the block that the body returned, where no scope of its
-- own satisfies it, and the EDT leaves its home
abbrev pub payload_of_end : Part → ℕ → ℕ
payload_of_end x g = if is_block x then g else 0

abbrev pub sent_by_end : Identity → ℕ → List What
sent_by_end i p = (if i.finish then [] else satisfy_some i.output p) ++ leave_some i.scope

abbrev pub sends : Entry → Parts → List What
sends (Call t home c a w) f = if is_done a.code then sent_by c a f else []
sends (Deliver m c) f = if is_done c then sent_by_message m.what f else []
sends (End t g) f = sent_by_end (identity_on (f.core t)) (payload_of_end (f.face g) g)
sends other f = []

-- who goes on once the EDT gives the block back
abbrev pub resumed_by : Part → ℕ → List ℕ
resumed_by (part.Block st) t = on_release st t
resumed_by other t = []

-- and once the EDT destroys it
abbrev pub resumed_by_doom : Part → ℕ → List ℕ
resumed_by_doom (part.Block st) t = on_doom st t
resumed_by_doom other t = []

abbrev pub resumed_by_call : ℕ → body.Call → Parts → List ℕ
resumed_by_call t (call.DbRelease d) f = resumed_by (f.face d) t
resumed_by_call t (call.DbDestroy d) f = resumed_by_doom (f.face d) t
resumed_by_call t other f = []

abbrev pub resumes : Entry → Parts → List ℕ
resumes (Call t home c a w) f = if is_done a.code then resumed_by_call t c f else []
resumes (Free t d w) f = resumed_by (f.face d) t
resumes other f = []

-- MESSAGES, each named by the place of its entry and its index there
abbrev pub delivered : Entry → Option (ℕ × ℕ)
delivered (Deliver m c) = Some (m.place, m.index)
delivered other = None

-- what was sent and not delivered
abbrev pub pending : Setting → History → List (ℕ × ℕ × What)
pending s past = mail.pending (λ before e. sends e (parts_of s before)) delivered past
