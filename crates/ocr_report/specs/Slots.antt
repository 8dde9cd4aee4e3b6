-- The slots of EDTs, and which of them are set.
use Rattle.std.specs.Prelude.{◌≡◌, ℕ, List, [], ◌∷◌, ◌++◌, if◌then◌else◌, Option, Some, None}
use Rattle.std.specs.Ordering.{nat_cmp}
use Rattle.std.specs.BTreeMap.{BTreeMap, get}
use Rattle.ocr_slots.specs.Slots.{SlotCall, Linking, Setting}
use Rattle.ocr_template.specs.Template.{count_meant}
use Rattle.ocr_body_meaning.specs.Call.{is_creation}
use Rattle.ocr_body_meaning.specs.Holds.{is_done}
use Rattle.ocr_body_meaning.specs.declared.call.Call as body
use Rattle.ocr_body_meaning.specs.declared.call.Call.TheVariants as call
use Rattle.ocr_body_meaning.specs.declared.call.Answer.{Answer}
use Rattle.ocr_machine_history.specs.declared.entry.Entry.{Entry}
use Rattle.ocr_machine_history.specs.declared.entry.Entry.TheVariants as an
use Rattle.ocr_machine_history.specs.declared.entry.What.{What}
use Rattle.ocr_machine_history.specs.declared.entry.What.TheVariants as what
use Rattle.ocr_machine_history.specs.History as history
use Rattle.ocr_machine_history.specs.Made.{Made, MadeTemplate, MadeEdt, made}
use Rattle.ocr_machine_parts.specs.Calls.{set_calls}
use Rattle.ocr_report.specs.declared.slots.Counted.{Counted}
use Rattle.ocr_report.specs.declared.slots.Counted.TheVariants as counts
use Rattle.ocr_report.specs.Lists.{list_at}

-- COUNTS: of the slots that an EDT from a template gets, or that an EDT has
abbrev pub counted_in : Option Made → Option Counted
counted_in (Some (MadeTemplate f pc dc)) = Some (counts.Template dc)
counted_in (Some (MadeEdt f ps n)) = Some (counts.Edt n)
counted_in other = None

abbrev pub AreCounts : history.Setting → history.History → BTreeMap ℕ Counted → Type 0
AreCounts s past m = (g : ℕ) → get nat_cmp m g ≡ counted_in (made s past g)

abbrev pub edt_counted : Option Counted → ℕ → Option Counted
edt_counted (Some (counts.Template own)) given = Some (counts.Edt (count_meant own given))
edt_counted other given = None

-- what an accepted creation makes: a number, and its count where it has one
abbrev pub counted_by : (ℕ → Option Counted) → body.Call → ℕ → Option (ℕ × Option Counted)
counted_by f (call.DbCreate n fl) g = Some (g, None)
counted_by f (call.TemplateCreate function pc dc) g = Some (g, Some (counts.Template dc))
counted_by f (call.EventCreate k fl) g = Some (g, None)
counted_by f (call.EventCreateParams k fl most sats deps) g = Some (g, None)
counted_by f (call.EdtCreate from pc ps dc ds fl o) g = Some (g, edt_counted (f from) dc)
counted_by f other g = None

abbrev pub counted_of : (ℕ → Option Counted) → Entry → Option (ℕ × Option Counted)
counted_of f (an.Call t home c a w) = if is_done a.code then counted_by f c a.value else None
counted_of f other = None

abbrev pub depc_in : Option Counted → ℕ
depc_in (Some (counts.Edt n)) = n
depc_in other = 0

-- SET SLOTS, in the order in which they were set
abbrev pub slots_in : List SlotCall → List ℕ
slots_in [] = []
slots_in (Linking k m ∷ calls) = slots_in calls
slots_in (Setting k p ∷ calls) = slots_in calls ++ k ∷ []

abbrev pub AreSet : history.History → BTreeMap ℕ (List ℕ) → Type 0
AreSet past m = (t : ℕ) → list_at m t ≡ slots_in (set_calls past t)

-- an entry that makes a number, or that sets a slot
abbrev pub fresh_by : body.Call → Answer → Option ℕ
fresh_by c a = if is_creation c then (if is_done a.code then Some a.value else None) else None

abbrev pub fresh_in : Entry → Option ℕ
fresh_in (an.Call t home c a w) = fresh_by c a
fresh_in other = None

abbrev pub set_by : What → Option (ℕ × ℕ)
set_by (what.Set x i p) = Some (x, i)
set_by other = None

abbrev pub set_in : Entry → Option (ℕ × ℕ)
set_in (an.Deliver m c) = set_by m.what
set_in other = None
