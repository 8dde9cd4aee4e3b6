-- A latch was satisfied at most once by each entry.
use Rattle.std.proofs.Common.{◌≡◌, ◌≤◌, ℕ, suc, ◌+◌, List, [], ◌∷◌, length, Bool, true, false, ◌==◌, ◌&&◌, not, if◌then◌else◌, Option, Some, refl, ◌∙◌, arith}
use Rattle.std.proofs.lemmas.Bool.Decides.{nat_tests}
use Rattle.ocr_guid.specs.declared.target.Target.{Target}
use Rattle.ocr_guid.specs.Target.{EventCall, Satisfaction, Destruction}
use Rattle.ocr_event.specs.declared.EventKind.{EventKind}
use Rattle.ocr_latch.specs.Latch as latch
use Rattle.ocr_event_any.specs.declared.TheConstants.{LATCH, CHANNEL}
use Rattle.ocr_event_any.specs.AnyEvent as event
use Rattle.ocr_slots.specs.Slots as slot
use Rattle.ocr_datablock.specs.Block as block
use Rattle.ocr_body_meaning.specs.declared.call.Call as body
use Rattle.ocr_body_meaning.specs.declared.call.Call.TheVariants as call
use Rattle.ocr_body_meaning.specs.declared.call.Answer.{Answer}
use Rattle.ocr_body_meaning.specs.Holds.{is_done}
use Rattle.ocr_machine_history.specs.declared.entry.Entry.TheVariants.{Call, Deliver}
use Rattle.ocr_machine_history.specs.declared.entry.What.{What}
use Rattle.ocr_machine_history.specs.declared.entry.What.TheVariants as what
use Rattle.ocr_machine_history.specs.History.{History, Setting}
use Rattle.ocr_machine_history.specs.Made.{Made, MadeEvent, made, is_new, is_edt_made}
use Rattle.ocr_machine_parts.specs.Calls.{is_object, slot_target, target_of, link_if, dep_targets, event_step, deliver_step, event_calls, link_calls, block_calls, scope_calls}
use Rattle.ocr_machine_parts.specs.Kinds.{counted_on}
use Rattle.ocr_machine_parts.specs.Parts.{face}
use Rattle.ocr_machine_parts.specs.Laws.{CountedLaw}
use Rattle.ocr_finish.specs.Scope.{ScopeCall}

-- the satisfactions on both slots of a latch
abbrev counts : List EventCall → ℕ
counts calls = latch.decrements calls + latch.increments calls

-- one satisfaction counts on one slot at most
once_more : (slot p : ℕ) (calls : List EventCall) → counts (Satisfaction slot p ∷ calls) ≤ suc (counts calls)
once_more slot p calls = grind (arith, nat_tests)

more_if : (b : Bool) (slot p : ℕ) (calls : List EventCall) → counts (if b then Satisfaction slot p ∷ calls else calls) ≤ suc (counts calls)
more_if true slot p calls = once_more slot p calls
more_if false slot p calls = omega arith

destroyed_if : (b : Bool) (calls : List EventCall) → counts (if b then Destruction ∷ calls else calls) ≤ suc (counts calls)
destroyed_if true calls = omega arith
destroyed_if false calls = omega arith

-- a link counts nothing
linked_if : (b : Bool) (t : Target) (calls : List EventCall) → counts (link_if b t calls) ≡ counts calls
linked_if true t calls = refl
linked_if false t calls = refl

deps_count : (t k g : ℕ) (ds : List ℕ) (calls : List EventCall) → counts (dep_targets t k g ds calls) ≡ counts calls
deps_count t k g [] calls = refl
deps_count t k g (d ∷ rest) calls = deps_count t (k + 1) g rest (link_if (is_object d && (d == g)) (slot_target t k) calls)
    ∙ linked_if (is_object d && (d == g)) (slot_target t k) calls

deps_if : (b : Bool) (t g : ℕ) (ds : List ℕ) (calls : List EventCall) → counts (if b then dep_targets t 0 g ds calls else calls) ≤ suc (counts calls)
deps_if true t g ds calls = omega (arith, deps_count t 0 g ds calls)
deps_if false t g ds calls = omega arith

-- an entry adds one satisfaction at most
called_count : (s : Setting) (past : History) (c : body.Call) (a : Answer) (g : ℕ) (calls : List EventCall) → counts (event_step s past c a g calls) ≤ suc (counts calls)
called_count s past (call.TemplateDestroy t) a g calls = destroyed_if (is_done a.code && (t == g)) calls
called_count s past (call.EventDestroy e) a g calls = destroyed_if (is_done a.code && (e == g)) calls
called_count s past (call.Satisfy e p slot) a g calls = more_if (is_done a.code && (e == g)) slot p calls
called_count s past (call.AddDependence from x i m) a g calls = omega (arith, linked_if (is_done a.code && (not (from == 0) && (from == g))) (target_of (is_edt_made (made s past x)) x i) calls)
called_count s past (call.EdtCreate from pc ps dc ds fl o) a g calls = deps_if (is_done a.code) a.value g ds calls
called_count s past other a g calls = omega arith

brought_count : (m : What) (done : Bool) (g : ℕ) (calls : List EventCall) → counts (deliver_step m done g calls) ≤ suc (counts calls)
brought_count (what.Satisfy e slot p) done g calls = more_if (done && (e == g)) slot p calls
brought_count other done g calls = omega arith

new_count : (b : Bool) (calls : List EventCall) (n : ℕ) → counts calls ≤ n → counts (if b then [] else calls) ≤ n
new_count true calls n most = omega arith
new_count false calls n most = most

calls_count : (s : Setting) (past : History) (g : ℕ) → counts (event_calls s past g) ≤ length past
calls_count s [] g = omega arith
calls_count s (Call by home c a w ∷ past) g =
    let before = calls_count s past g in
    let step = called_count s past c a g (event_calls s past g) in
    new_count (is_new c a g) (event_step s past c a g (event_calls s past g)) (suc (length past)) (omega arith)
calls_count s (Deliver m code ∷ past) g =
    let before = calls_count s past g in
    let step = brought_count m.what (is_done code) g (event_calls s past g) in
    omega arith
calls_count s (other ∷ past) g = let before = calls_count s past g in omega arith

-- a latch counts them, and no other object does
event_count : (a b : Bool) (k : EventKind) (takes : Bool) (most : ℕ) (calls : List EventCall) → event.counted (event.state_by a b k takes most calls) ≤ counts calls
event_count true b k takes most calls = omega arith
event_count false true k takes most calls = omega arith
event_count false false k takes most calls = omega arith

face_count : (m : Option Made) (links : List slot.SlotCall) (blocks : List block.BlockCall) (events : List EventCall) (scopes : List ScopeCall) → counted_on (face m links blocks events scopes) ≤ counts events
face_count (Some (MadeEvent k fl most)) links blocks events scopes = event_count (k == LATCH) (k == CHANNEL) (event.plain_kind k) (event.takes_arg fl) most events
face_count other links blocks events scopes = omega arith

pub counted_law : CountedLaw
counted_law s past g =
    let on_face = face_count (made s past g) (link_calls past g) (block_calls s past g) (event_calls s past g) (scope_calls past g) in
    let told = calls_count s past g in
    omega arith
