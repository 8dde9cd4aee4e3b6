-- What the entries of a history are to each object: the calls on it since it was made, the newest
-- first.
use Rattle.std.specs.Prelude.{ℕ, ◌+◌, ◌/◌, List, [], ◌∷◌, ◌++◌, length, Bool, true, false, ◌&&◌, not, ◌==◌, if◌then◌else◌, Option, Some, None, is_some, map}
use Rattle.ocr_guid.specs.declared.target.Target.{Target}
use Rattle.ocr_guid.specs.Target.{EventCall, Satisfaction, Link, Destruction}
use Rattle.ocr_acquire.specs.declared.Mode.{Mode}
use Rattle.ocr_acquire.specs.declared.Mode.TheVariants as mode
use Rattle.ocr_acquire.specs.Mode.{mode_of, mode_in, is_null, is_exclusive}
use Rattle.ocr_acquire.specs.Plan as plan
use Rattle.ocr_slots.specs.declared.Slot.{Slot}
use Rattle.ocr_slots.specs.Slots as slot
use Rattle.ocr_datablock.specs.Block as block
use Rattle.ocr_edt.specs.Edt as edt
use Rattle.ocr_edt.specs.Phases.{first_of, is_named}
use Rattle.ocr_finish.specs.Scope.{ScopeCall, Joining, Parting}
use Rattle.ocr_body_meaning.specs.Holds.{is_done}
use Rattle.ocr_body_meaning.specs.declared.call.Call as body
use Rattle.ocr_body_meaning.specs.declared.call.Call.TheVariants as call
use Rattle.ocr_body_meaning.specs.declared.call.Answer.{Answer}
use Rattle.ocr_machine_history.specs.declared.objects.TheConstants.{ARGUMENTS, MAIN_EDT}
use Rattle.ocr_machine_history.specs.declared.entry.Entry.TheVariants.{Call, Deliver, Acquire, Wait, StaleAcquire, Start, Free, End}
use Rattle.ocr_machine_history.specs.declared.entry.What.{What}
use Rattle.ocr_machine_history.specs.declared.entry.What.TheVariants as what
use Rattle.ocr_machine_history.specs.History.{History, Setting}
use Rattle.ocr_machine_history.specs.Made.{is_new, makes, names_new, is_edt_made, made, depc_in, size_in, creator_in}
use Rattle.ocr_machine_parts.specs.declared.loans.Kept.{Kept}
use Rattle.ocr_machine_parts.specs.Loans.{with_kept, without_kept, kept_of, kept_created}

-- LINKS of slots. The opening links slot 0 of the first EDT in RW.
abbrev pub mode_or_null : Option Mode → Mode
mode_or_null None = mode.Null
mode_or_null (Some m) = m

abbrev pub mode_named : ℕ → Mode
mode_named m = mode_or_null (mode_of m)

-- the dependences that a creation gives are links in RW, slot by slot; UNINITIALIZED_GUID gives
-- none
abbrev pub is_given : ℕ → Bool
is_given d = not (d == 18446744073709551615)

-- a dependence that names an object: neither UNINITIALIZED_GUID nor NULL_GUID
abbrev pub is_object : ℕ → Bool
is_object d = is_given d && not (d == 0)

abbrev pub with_dep : ℕ → ℕ → List slot.SlotCall → List slot.SlotCall
with_dep k d calls = if is_given d then slot.Linking k mode.Rw ∷ calls else calls

abbrev pub dep_links : ℕ → List ℕ → List slot.SlotCall → List slot.SlotCall
dep_links k [] calls = calls
dep_links k (d ∷ rest) calls = dep_links (k + 1) rest (with_dep k d calls)

abbrev pub first_links : body.Call → Answer → ℕ → List slot.SlotCall
first_links (call.EdtCreate from pc ps dc ds fl o) a t =
    if makes a t then dep_links 0 ds [] else []
first_links other a t = []

abbrev pub link_step : body.Call → Answer → ℕ → List slot.SlotCall → List slot.SlotCall
link_step (call.AddDependence from x i m) a t calls =
    if is_done a.code && (x == t) then slot.Linking i (mode_named m) ∷ calls else calls
link_step other a t calls = calls

abbrev pub link_calls : History → ℕ → List slot.SlotCall
link_calls [] t = if t == MAIN_EDT then slot.Linking 0 mode.Rw ∷ [] else []
link_calls (Call by home c a w ∷ past) t =
    if is_new c a t then first_links c a t else link_step c a t (link_calls past t)
link_calls (e ∷ past) t = link_calls past t

-- SETTINGS of slots, by the deliveries. The opening sets slot 0 of the first EDT to the argument
-- block.
abbrev pub set_step : What → ℕ → List slot.SlotCall → List slot.SlotCall
set_step (what.Set x i p) t calls = if x == t then slot.Setting i p ∷ calls else calls
set_step other t calls = calls

abbrev pub set_calls : History → ℕ → List slot.SlotCall
set_calls [] t = if t == MAIN_EDT then slot.Setting 0 ARGUMENTS ∷ [] else []
set_calls (Call by home c a w ∷ past) t = if is_new c a t then [] else set_calls past t
set_calls (Deliver m code ∷ past) t = set_step m.what t (set_calls past t)
set_calls (e ∷ past) t = set_calls past t

-- the number of an EDT's slots, those of them that are not set, and the payload of one that is
abbrev pub depc_of : Setting → History → ℕ → ℕ
depc_of s past t = depc_in (made s past t)

abbrev pub open_slots : Setting → History → ℕ → List ℕ
open_slots s past t = slot.open_slots (depc_of s past t) (set_calls past t)

abbrev pub payload_of : History → ℕ → ℕ → Option ℕ
payload_of past t k = slot.payload_of (set_calls past t) k

-- the payloads, slot by slot
abbrev pub payload_or_null : Option ℕ → ℕ
payload_or_null None = 0
payload_or_null (Some p) = p

abbrev pub payloads_of : Setting → History → ℕ → List ℕ
payloads_of s past t =
    map (λ k. payload_or_null (payload_of past t k)) (slot.slots_of (depc_of s past t))

-- THE PLAN of an EDT: the blocks that it acquires, rising, each in its strongest mode. What the
-- slots ask for is the payload and the mode of each that is set and linked
abbrev pub asks_of : Option ℕ → Option Mode → List (ℕ × Mode)
asks_of (Some p) (Some m) = (p, m) ∷ []
asks_of p m = []

abbrev pub asks_in : List Slot → List (ℕ × Mode)
asks_in [] = []
asks_in (one ∷ rest) = asks_of one.payload one.mode ++ asks_in rest

abbrev pub slot_now : History → ℕ → ℕ → Slot
slot_now past t k =
    record { mode = slot.mode_of (link_calls past t) k; payload = payload_of past t k }

abbrev pub slots_now : Setting → History → ℕ → List Slot
slots_now s past t = map (λ k. slot_now past t k) (slot.slots_of (depc_of s past t))

abbrev pub plan_of : Setting → History → ℕ → List (ℕ × Mode)
plan_of s past t = plan.plan_of (asks_in (slots_now s past t))

-- EDTS. With the first entry that acquires, waits or starts for it, the plan of an EDT is ready.
abbrev pub with_plan : List (ℕ × Mode) → List edt.EdtCall → List edt.EdtCall
with_plan members [] = edt.Ready members ∷ []
with_plan members (one ∷ rest) = one ∷ rest

-- an EDT that waited goes on
abbrev pub awake : List edt.EdtCall → List edt.EdtCall
awake (edt.Wait ∷ rest) = edt.Resumed ∷ edt.Wait ∷ rest
awake other = other

-- the EDT makes a block and holds it as its creator
abbrev pub is_holding : ℕ → ℕ → Answer → ℕ → Bool
is_holding by fl a t = is_done a.code && ((by == t) && (fl == 0))

abbrev pub edt_step : ℕ → body.Call → Answer → ℕ → List edt.EdtCall → List edt.EdtCall
edt_step by (call.DbCreate n fl) a t calls =
    if is_holding by fl a t then edt.Hold a.value ∷ calls else calls
edt_step by (call.DbRelease d) a t calls =
    if is_done a.code && (by == t) then edt.DropHold d ∷ calls else calls
edt_step by (call.DbDestroy d) a t calls =
    if is_done a.code && (by == t) then edt.DropHold d ∷ calls else calls
edt_step by other a t calls = calls

abbrev pub edt_calls : Setting → History → ℕ → List edt.EdtCall
edt_calls s [] t = []
edt_calls s (Call by home c a w ∷ past) t =
    if is_new c a t then [] else edt_step by c a t (edt_calls s past t)
edt_calls s (Acquire u d ∷ past) t =
    if u == t then edt.Acquired d ∷ awake (with_plan (plan_of s past t) (edt_calls s past t))
    else edt_calls s past t
edt_calls s (Wait u d ∷ past) t =
    if u == t then edt.Wait ∷ with_plan (plan_of s past t) (edt_calls s past t)
    else edt_calls s past t
edt_calls s (StaleAcquire u d ∷ past) t =
    if u == t then edt.FoundStale d ∷ awake (with_plan (plan_of s past t) (edt_calls s past t))
    else edt_calls s past t
edt_calls s (Start u ∷ past) t =
    if u == t then edt.Start ∷ with_plan (plan_of s past t) (edt_calls s past t)
    else edt_calls s past t
edt_calls s (Free u d w ∷ past) t =
    if u == t then edt.DropHold d ∷ edt_calls s past t else edt_calls s past t
edt_calls s (End u g ∷ past) t = if u == t then edt.End ∷ edt_calls s past t else edt_calls s past t
edt_calls s (e ∷ past) t = edt_calls s past t

-- DEPV: what the body gets, slot by slot. A block that the EDT found gone gives NULL_GUID, but in a
-- slot of mode NULL
abbrev pub is_lost : List ℕ → ℕ → Mode → Bool
is_lost stale p m = is_named p stale && not (is_null m)

abbrev pub value_of_slot : List ℕ → Slot → ℕ
value_of_slot stale one =
    if is_lost stale (payload_or_null one.payload) (mode_or_null one.mode) then 0
    else payload_or_null one.payload

abbrev pub depv_in : List ℕ → List Slot → List ℕ
depv_in stale slots = map (λ (one : Slot). value_of_slot stale one) slots

abbrev pub depv_of : Setting → History → ℕ → List ℕ
depv_of s past t = depv_in (edt.stale_of (edt_calls s past t)) (slots_now s past t)

-- the plan's first block that the EDT has neither acquired nor found stale, with its mode
abbrev pub next_member : Setting → History → ℕ → Option (ℕ × Mode)
next_member s past t =
    first_of (edt.undone_of (with_plan (plan_of s past t) (edt_calls s past t)))

abbrev pub mode_next : Option (ℕ × Mode) → Mode
mode_next None = mode.Null
mode_next (Some member) = member.1

abbrev pub next_mode : Setting → History → ℕ → Mode
next_mode s past t = mode_next (next_member s past t)

-- BLOCKS. The words of the argument block are the number of the arguments and the arguments.
abbrev pub stores_from : ℕ → List ℕ → List block.BlockCall
stores_from k [] = []
stores_from k (v ∷ rest) = stores_from (k + 1) rest ++ block.Store k v ∷ []

abbrev pub argument_words : Setting → List ℕ
argument_words s = length s.args ∷ s.args

abbrev pub is_number : ℕ → Option ℕ → Bool
is_number t None = false
is_number t (Some u) = u == t

-- who holds the block already does not ask again; in EW its words go out on loan
abbrev pub ask_calls : ℕ → Mode → ℕ → List block.BlockCall → List block.BlockCall
ask_calls t m creator calls =
    if is_some (mode_in t (block.holders_of creator calls)) then calls else block.Ask t m ∷ calls

abbrev pub lend_calls : ℕ → Mode → List block.BlockCall → List block.BlockCall
lend_calls t m calls = if is_exclusive m then block.Lend t ∷ calls else calls

abbrev pub grant_calls : ℕ → Mode → ℕ → List block.BlockCall → List block.BlockCall
grant_calls t m creator calls = lend_calls t m (ask_calls t m creator calls)

-- a loan comes back where a hold ends
abbrev pub return_calls : ℕ → List (ℕ × ℕ) → List block.BlockCall → List block.BlockCall
return_calls t w calls =
    if is_number t (block.borrower_of calls) then block.TakeBack t w ∷ calls else calls

abbrev pub end_calls : ℕ → List (ℕ × ℕ) → List block.BlockCall → List block.BlockCall
end_calls t w calls = block.Release t ∷ return_calls t w calls

-- and where the block is destroyed, whether its destroyer holds it or not
abbrev pub doom_calls : ℕ → List (ℕ × ℕ) → List block.BlockCall → List block.BlockCall
doom_calls t w calls = block.Doom t ∷ return_calls t w calls

abbrev pub block_step : ℕ → body.Call → Answer → List (ℕ × ℕ) → ℕ → List block.BlockCall
    → List block.BlockCall
block_step by (call.DbRelease b) a w d calls =
    if is_done a.code && (b == d) then end_calls by w calls else calls
block_step by (call.DbDestroy b) a w d calls =
    if is_done a.code && (b == d) then doom_calls by w calls else calls
block_step by (call.Store b k v) a w d calls =
    if is_done a.code && (b == d) then block.Store k v ∷ calls else calls
block_step by other a w d calls = calls

abbrev pub block_calls : Setting → History → ℕ → List block.BlockCall
block_calls s [] d = if d == ARGUMENTS then stores_from 0 (argument_words s) else []
block_calls s (Call by home c a w ∷ past) d =
    if is_new c a d then [] else block_step by c a w d (block_calls s past d)
block_calls s (Acquire u b ∷ past) d =
    if b == d then
    grant_calls u (next_mode s past u) (creator_in (made s past d)) (block_calls s past d)
    else block_calls s past d
block_calls s (Wait u b ∷ past) d =
    if b == d then block.Ask u (next_mode s past u) ∷ block_calls s past d
    else block_calls s past d
block_calls s (Free u b w ∷ past) d =
    if b == d then end_calls u w (block_calls s past d) else block_calls s past d
block_calls s (e ∷ past) d = block_calls s past d

abbrev pub contents_of : Setting → History → ℕ → List ℕ
contents_of s past d = block.contents (size_in (made s past d)) (block_calls s past d)

-- EVENTS, and templates, which are destroyed alike. A slot of an EDT, or of an event, as a target
abbrev pub slot_target : ℕ → ℕ → Target
slot_target t k = record { object = t; is_edt = true; slot = k }

abbrev pub target_of : Bool → ℕ → ℕ → Target
target_of is_edt x i = record { object = x; is_edt = is_edt; slot = i }

-- the slots of a new EDT that are given this event as their dependence, in their order
abbrev pub link_if : Bool → Target → List EventCall → List EventCall
link_if here t calls = if here then Link t ∷ calls else calls

abbrev pub dep_targets : ℕ → ℕ → ℕ → List ℕ → List EventCall → List EventCall
dep_targets t k g [] calls = calls
dep_targets t k g (d ∷ rest) calls =
    dep_targets t (k + 1) g rest (link_if (is_object d && (d == g)) (slot_target t k) calls)

abbrev pub event_step : Setting → History → body.Call → Answer → ℕ → List EventCall → List EventCall
event_step s past (call.TemplateDestroy t) a g calls =
    if is_done a.code && (t == g) then Destruction ∷ calls else calls
event_step s past (call.EventDestroy e) a g calls =
    if is_done a.code && (e == g) then Destruction ∷ calls else calls
event_step s past (call.Satisfy e p slot) a g calls =
    if is_done a.code && (e == g) then Satisfaction slot p ∷ calls else calls
event_step s past (call.AddDependence from x i m) a g calls =
    link_if (is_done a.code && (not (from == 0) && (from == g)))
    (target_of (is_edt_made (made s past x)) x i) calls
event_step s past (call.EdtCreate from pc ps dc ds fl o) a g calls =
    if is_done a.code then dep_targets a.value 0 g ds calls else calls
event_step s past other a g calls = calls

-- a satisfaction that a message brings
abbrev pub deliver_step : What → Bool → ℕ → List EventCall → List EventCall
deliver_step (what.Satisfy e slot p) done g calls =
    if done && (e == g) then Satisfaction slot p ∷ calls else calls
deliver_step other done g calls = calls

abbrev pub event_calls : Setting → History → ℕ → List EventCall
event_calls s [] g = []
event_calls s (Call by home c a w ∷ past) g =
    if is_new c a g then [] else event_step s past c a g (event_calls s past g)
event_calls s (Deliver m code ∷ past) g =
    deliver_step m.what (is_done code) g (event_calls s past g)
event_calls s (e ∷ past) g = event_calls s past g

-- FINISH SCOPES. An EDT that is made joins the scope that is its maker's home; of a finish EDT its
-- scope does so in its place
abbrev pub join_step : body.Call → ℕ → Answer → ℕ → List ScopeCall → List ScopeCall
join_step (call.EdtCreate from pc ps dc ds fl o) home a g calls =
    if is_done a.code && names_new home g then Joining ∷ calls else calls
join_step other home a g calls = calls

-- a member leaves by a message
abbrev pub leave_step : What → Bool → ℕ → List ScopeCall → List ScopeCall
leave_step (what.Leave x) done g calls = if done && (x == g) then Parting ∷ calls else calls
leave_step other done g calls = calls

abbrev pub scope_calls : History → ℕ → List ScopeCall
scope_calls [] g = []
scope_calls (Call by home c a w ∷ past) g =
    if is_new c a g then [] else join_step c home a g (scope_calls past g)
scope_calls (Deliver m code ∷ past) g = leave_step m.what (is_done code) g (scope_calls past g)
scope_calls (e ∷ past) g = scope_calls past g

-- WHAT AN EDT KEEPS with the blocks that it holds: the length of each, and in EW and CONST the
-- contents at the acquire
abbrev pub loan_step : ℕ → body.Call → Answer → ℕ → List (ℕ × Kept) → List (ℕ × Kept)
loan_step by (call.DbCreate n fl) a t loans =
    if is_holding by fl a t then with_kept a.value (kept_created (n / 8)) loans else loans
loan_step by (call.DbRelease d) a t loans =
    if is_done a.code && (by == t) then without_kept d loans else loans
loan_step by (call.DbDestroy d) a t loans =
    if is_done a.code && (by == t) then without_kept d loans else loans
loan_step by other a t loans = loans

abbrev pub kept_now : Setting → History → ℕ → ℕ → Kept
kept_now s past t d =
    kept_of (next_mode s past t) (size_in (made s past d)) (contents_of s past d)

abbrev pub loans_of : Setting → History → ℕ → List (ℕ × Kept)
loans_of s [] t = []
loans_of s (Call by home c a w ∷ past) t =
    if is_new c a t then [] else loan_step by c a t (loans_of s past t)
loans_of s (Acquire u d ∷ past) t =
    if u == t then with_kept d (kept_now s past u d) (loans_of s past t) else loans_of s past t
loans_of s (Free u d w ∷ past) t =
    if u == t then without_kept d (loans_of s past t) else loans_of s past t
loans_of s (e ∷ past) t = loans_of s past t
