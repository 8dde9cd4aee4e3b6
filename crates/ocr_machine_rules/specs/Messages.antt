-- What an entry sends, and what was sent and not delivered.
use Rattle.std.specs.Prelude.{ℕ, List, [], ◌∷◌, ◌++◌, length, map, ◌==◌, if◌then◌else◌, Option, Some}
use Rattle.ocr_base.specs.Mail as mail
use Rattle.ocr_guid.specs.declared.target.Target.{Target}
use Rattle.ocr_guid.specs.Target.{EventCall, sent_by_firing, sent_by_linking}
use Rattle.ocr_event_any.specs.declared.TheConstants.{LATCH}
use Rattle.ocr_finish.specs.Scope.{ScopeCall, Parting, is_done as is_through}
use Rattle.ocr_body_meaning.specs.Holds.{is_done}
use Rattle.ocr_body_meaning.specs.declared.call.Call as body
use Rattle.ocr_body_meaning.specs.declared.call.Call.TheVariants as call
use Rattle.ocr_body_meaning.specs.declared.call.Answer.{Answer}
use Rattle.ocr_machine_history.specs.declared.entry.Entry.{Entry}
use Rattle.ocr_machine_history.specs.declared.entry.Entry.TheVariants.{Call, Deliver, End}
use Rattle.ocr_machine_history.specs.declared.entry.What.{What}
use Rattle.ocr_machine_history.specs.declared.entry.What.TheVariants as what
use Rattle.ocr_machine_history.specs.History.{History, Setting}
use Rattle.ocr_machine_history.specs.Made.{Made, MadeEvent, MadeScope, made, is_edt_made}
use Rattle.ocr_machine_parts.specs.Calls.{is_given, slot_target, target_of, dep_targets, event_calls, scope_calls}
use Rattle.ocr_machine_parts.specs.Parts.{identity_of}
use Rattle.ocr_machine_parts.specs.Messages.{what_to, satisfy_some, leave_some, sent_by_end, delivered}
use Rattle.ocr_machine_rules.specs.Codes.{is_block}
use Rattle.ocr_machine_rules.specs.Events.{firing, linking}

-- what a satisfaction sets off; a latch carries NULL_GUID
abbrev pub satisfied : Option Made → List EventCall → (slot payload : ℕ) → List What
satisfied (Some (MadeEvent k fl most)) calls slot p =
    map what_to (sent_by_firing (if k == LATCH then 0 else p) (firing k calls slot p))
satisfied other calls slot p = []

-- a dependence on a block or on NULL_GUID reaches its target at once, one on an event where the
-- event has something for it
abbrev pub linked : Option Made → List EventCall → ℕ → Target → List What
linked (Some (MadeEvent k fl most)) calls d t = map what_to (sent_by_linking t (linking k calls))
linked other calls d t = what_to (d, t) ∷ []

-- the dependences of a new EDT are linked slot by slot
abbrev pub dep_sends : Setting → History → ℕ → (before rest : List ℕ) → List What
dep_sends s past t before [] = []
dep_sends s past t before (d ∷ rest) =
    (if is_given d then linked (made s past d) (dep_targets t 0 d before (event_calls s past d)) d
    (slot_target t (length before)) else [])
    ++ dep_sends s past t (before ++ d ∷ []) rest

abbrev pub sent_by : Setting → History → body.Call → Answer → List What
sent_by s past (call.Satisfy e p slot) a =
    satisfied (made s past e) (event_calls s past e) slot p
sent_by s past (call.AddDependence from x i m) a =
    linked (made s past from) (event_calls s past from) from
    (target_of (is_edt_made (made s past x)) x i)
sent_by s past (call.EdtCreate from pc ps dc ds fl o) a = dep_sends s past a.value [] ds
sent_by s past other a = []

-- a scope that its last member leaves satisfies the output event of its finish EDT, and leaves its
-- outer scope
abbrev pub sent_by_leave : Option Made → List ScopeCall → List What
sent_by_leave (Some (MadeScope outer output)) calls =
    if is_through (Parting ∷ calls) then satisfy_some output 0 ++ leave_some outer else []
sent_by_leave other calls = []

abbrev pub sent_by_message : Setting → History → What → List What
sent_by_message s past (what.Satisfy e slot p) =
    satisfied (made s past e) (event_calls s past e) slot p
sent_by_message s past (what.Leave x) = sent_by_leave (made s past x) (scope_calls past x)
sent_by_message s past other = []

-- an EDT that ends gives its output event the block that its body returned
abbrev pub sends : Setting → History → Entry → List What
sends s past (Call t home c a w) = if is_done a.code then sent_by s past c a else []
sends s past (Deliver m c) = if is_done c then sent_by_message s past m.what else []
sends s past (End t g) =
    sent_by_end (identity_of past t) (if is_block (made s past g) then g else 0)
sends s past other = []

abbrev pub pending : Setting → History → List (ℕ × ℕ × What)
pending s past = mail.pending (λ before e. sends s before e) delivered past
