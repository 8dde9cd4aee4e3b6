-- What an entry sends rests on faces alone: not on what was stored in loans, nor on plans.
use Rattle.std.proofs.Common.{◌≡◌, ℕ, ◌+◌, List, [], ◌∷◌, ◌++◌, Bool, true, false, not, ◌==◌, if◌then◌else◌, refl, ap, ◌∙◌}
use Rattle.ocr_acquire.specs.declared.Mode.{Mode}
use Rattle.ocr_guid.specs.declared.target.Target.{Target}
use Rattle.ocr_body_meaning.specs.Holds.{is_done}
use Rattle.ocr_body_meaning.specs.declared.call.Call as body
use Rattle.ocr_body_meaning.specs.declared.call.Call.TheVariants as call
use Rattle.ocr_body_meaning.specs.declared.call.Answer.{Answer}
use Rattle.ocr_machine_history.specs.declared.entry.Entry.{Entry}
use Rattle.ocr_machine_history.specs.declared.entry.Entry.TheVariants.{Call, Deliver, End}
use Rattle.ocr_machine_history.specs.declared.entry.What.{What}
use Rattle.ocr_machine_history.specs.declared.entry.What.TheVariants as what
use Rattle.ocr_edt.specs.declared.Identity.{Identity}
use Rattle.ocr_machine_parts.specs.declared.part.Part.{Part}
use Rattle.ocr_machine_parts.specs.declared.part.Part.TheVariants as part
use Rattle.ocr_machine_parts.specs.Calls.{is_given, is_object, slot_target, target_of}
use Rattle.ocr_machine_parts.specs.Effects.{settled, settled_parts}
use Rattle.ocr_machine_parts.specs.Progress.{linked_if, readied}
use Rattle.ocr_machine_parts.specs.Kinds.{identity_on, is_edt_face}
use Rattle.ocr_machine_parts.specs.Messages.{dep_sends, linked_by, payload_of_end, sends, sent_by, sent_by_end, sent_by_message}
use Rattle.ocr_machine_parts.specs.Parts.{Parts}

linked_settled : (named : Bool) (d : ℕ) (t : Target) (f : Parts) → linked_by named d t (settled_parts f) ≡ linked_by named d t f
linked_settled true d t f = refl
linked_settled false d t f = refl

links_settled : (named : Bool) (d : ℕ) (t : Target) (f : Parts) → linked_if named d t (settled_parts f) ≡ settled_parts (linked_if named d t f)
links_settled true d t f = refl
links_settled false d t f = refl

deps_settled : (t k : ℕ) (ds : List ℕ) (f : Parts) → dep_sends t k ds (settled_parts f) ≡ dep_sends t k ds f
deps_settled t k [] f = refl
deps_settled t k (d ∷ rest) f =
    let to : Target = slot_target t k in
    ap (λ (xs : List What). (if is_given d then xs else []) ++ dep_sends t (k + 1) rest (linked_if (is_object d) d to (settled_parts f))) (linked_settled (is_object d) d to f)
    ∙ (ap (λ (g : Parts). (if is_given d then linked_by (is_object d) d to f else []) ++ dep_sends t (k + 1) rest g) (links_settled (is_object d) d to f)
    ∙ ap (λ (xs : List What). (if is_given d then linked_by (is_object d) d to f else []) ++ xs) (deps_settled t (k + 1) rest (linked_if (is_object d) d to f)))

call_settled : (c : body.Call) (a : Answer) (f : Parts) → sent_by c a (settled_parts f) ≡ sent_by c a f
call_settled (call.Satisfy e p slot) a f = refl
call_settled (call.AddDependence from x i m) a f = linked_settled (not (from == 0)) from (target_of (is_edt_face (f.face x)) x i) f
call_settled (call.EdtCreate from pc ps dc ds fl o) a f = deps_settled a.value 0 ds f
call_settled other a f = refl

message_settled : (x : What) (f : Parts) → sent_by_message x (settled_parts f) ≡ sent_by_message x f
message_settled (what.Satisfy e slot p) f = refl
message_settled (what.Leave x) f = refl
message_settled other f = refl

identity_settled : (x : Part) → identity_on (settled x) ≡ identity_on x
identity_settled (part.Core c) = refl
identity_settled other = refl

pub settled_sends : (e : Entry) (f : Parts) → sends e (settled_parts f) ≡ sends e f
settled_sends (Call t home c a w) f = ap (λ (xs : List What). if is_done a.code then xs else []) (call_settled c a f)
settled_sends (Deliver m c) f = ap (λ (xs : List What). if is_done c then xs else []) (message_settled m.what f)
settled_sends (End t g) f = ap (λ (i : Identity). sent_by_end i (payload_of_end (f.face g) g)) (identity_settled (f.core t))
settled_sends other f = refl

-- an EDT that is made ready sends nothing
pub readied_sends : (members : List (ℕ × Mode)) (e : Entry) (f : Parts) → sends e (readied members e f) ≡ sends e f
readied_sends members (Call t home c a w) f = refl
readied_sends members (Deliver m c) f = refl
readied_sends members other f = refl
