-- The makers of a message: the entry at its place, and where an event or a scope sent it, also what
-- set that off.
use Rattle.std.specs.Prelude.{ℕ, ◌+◌, List, [], ◌∷◌, ◌++◌, length, reverse, Bool, false, ◌&&◌, not, ◌==◌, if◌then◌else◌, Option, Some, slice_index}
use Rattle.std.specs.List.{zip}
use Rattle.ocr_event_any.specs.declared.TheConstants.{LATCH, CHANNEL}
use Rattle.ocr_body_meaning.specs.Holds.{is_done}
use Rattle.ocr_body_meaning.specs.declared.call.Call as body
use Rattle.ocr_body_meaning.specs.declared.call.Call.TheVariants as call
use Rattle.ocr_machine_history.specs.declared.entry.Entry.{Entry}
use Rattle.ocr_machine_history.specs.declared.entry.Entry.TheVariants.{Call, Deliver}
use Rattle.ocr_machine_history.specs.declared.entry.Message.{Message}
use Rattle.ocr_machine_history.specs.declared.entry.What.{What}
use Rattle.ocr_machine_history.specs.declared.entry.What.TheVariants as what
use Rattle.ocr_machine_history.specs.History.{History, Setting}
use Rattle.ocr_machine_history.specs.Made.{Made, MadeEvent, MadeScope, made}
use Rattle.ocr_machine_parts.specs.Calls.{is_object}
use Rattle.ocr_memory_model_order.specs.Places.{entry_at, places}

-- SATISFACTIONS of an event: accepted calls, and messages that were not refused
abbrev pub is_satisfied_by : body.Call → ℕ → Bool
is_satisfied_by (call.Satisfy e p slot) x = e == x
is_satisfied_by other x = false

abbrev pub is_satisfying : What → ℕ → Bool
is_satisfying (what.Satisfy e slot p) x = e == x
is_satisfying other x = false

abbrev pub satisfies : ℕ → History → Entry → Bool
satisfies x past (Call t home c a w) = is_done a.code && is_satisfied_by c x
satisfies x past (Deliver m c) = is_done c && is_satisfying m.what x
satisfies x past other = false

-- delivered Leaves of a scope
abbrev pub is_leaving : What → ℕ → Bool
is_leaving (what.Leave x) y = x == y
is_leaving other y = false

abbrev pub leaves : ℕ → History → Entry → Bool
leaves x past (Deliver m c) = is_done c && is_leaving m.what x
leaves x past other = false

-- LINKS of an event, each with its place and its slot, the oldest first
abbrev pub dep_links_at : ℕ → ℕ → ℕ → List ℕ → List (ℕ × ℕ)
dep_links_at n k x [] = []
dep_links_at n k x (d ∷ rest) =
    (if is_object d && (d == x) then (n, k) ∷ [] else []) ++ dep_links_at n (k + 1) x rest

abbrev pub links_by : ℕ → body.Call → ℕ → List (ℕ × ℕ)
links_by n (call.AddDependence from y i m) x =
    if not (from == 0) && (from == x) then (n, i) ∷ [] else []
links_by n (call.EdtCreate from pc ps dc ds fl o) x = dep_links_at n 0 x ds
links_by n other x = []

abbrev pub links_at : History → ℕ → List (ℕ × ℕ)
links_at [] x = []
links_at (Call t home c a w ∷ past) x =
    links_at past x ++ (if is_done a.code then links_by (length past) c x else [])
links_at (e ∷ past) x = links_at past x

-- THE SOURCE of a message: the event or scope that sent it, told by the entry at its place; of the
-- messages of a creation each goes to the slot of its dependence
abbrev pub slot_of : What → ℕ
slot_of (what.Set t k p) = k
slot_of (what.Satisfy e k p) = k
slot_of (what.Leave x) = 0

abbrev pub source_by : body.Call → What → ℕ
source_by (call.Satisfy e p slot) w = e
source_by (call.AddDependence from y i m) w = from
source_by (call.EdtCreate from pc ps dc ds fl o) w = slice_index ds (slot_of w)
source_by other w = 0

abbrev pub source_in : What → ℕ
source_in (what.Satisfy e slot p) = e
source_in (what.Leave x) = x
source_in other = 0

abbrev pub source_of : Option Entry → What → ℕ
source_of (Some (Call t home c a w)) m = source_by c m
source_of (Some (Deliver n c)) m = source_in n.what
source_of other m = 0

-- WHAT SET IT OFF. Of the places, the newest first, the oldest
abbrev pub oldest : List ℕ → List ℕ
oldest [] = []
oldest (n ∷ []) = n ∷ []
oldest (n ∷ m ∷ rest) = oldest (m ∷ rest)

-- the satisfactions that went to the link of the message's place and slot
abbrev pub matched : Message → List (ℕ × (ℕ × ℕ)) → List ℕ
matched m [] = []
matched m (pair ∷ rest) =
    if (pair.1.0 == m.place) && (pair.1.1 == slot_of m.what) then pair.0 ∷ matched m rest
    else matched m rest

abbrev pub matches_of : History → Message → ℕ → List ℕ
matches_of past m x =
    matched m (zip (reverse (places (satisfies x) past)) (links_at past x))

-- of a latch every satisfaction, of a channel the matched one, of another event the first; of a
-- scope every Leave
abbrev pub set_off_with : History → ℕ → List ℕ → Option Made → List ℕ
set_off_with past x matches (Some (MadeEvent k fl most)) =
    if k == LATCH then places (satisfies x) past
    else if k == CHANNEL then matches
    else oldest (places (satisfies x) past)
set_off_with past x matches (Some (MadeScope outer event)) = places (leaves x) past
set_off_with past x matches other = []

abbrev pub set_off_by : Setting → History → Message → ℕ → List ℕ
set_off_by s past m x = set_off_with past x (matches_of past m x) (made s past x)

abbrev pub source_at : History → Message → ℕ
source_at past m = source_of (entry_at past m.place) m.what

-- where the message is delivered after this history
abbrev pub makers : Setting → History → Message → List ℕ
makers s past m = m.place ∷ set_off_by s past m (source_at past m)
