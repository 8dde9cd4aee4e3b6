-- The object whose places an entry is added to.
use Rattle.std.specs.Prelude.{ℕ, List, [], ◌∷◌, Bool, false, ◌==◌, if◌then◌else◌, Option, Some, None, is_some}
use Rattle.std.specs.Ordering.{nat_cmp}
use Rattle.std.specs.BTreeMap.{BTreeMap, get}
use Rattle.ocr_acquire.specs.declared.Mode.{Mode}
use Rattle.ocr_body_meaning.specs.Holds.{is_done}
use Rattle.ocr_body_meaning.specs.declared.call.Call as body
use Rattle.ocr_body_meaning.specs.declared.call.Call.TheVariants as call
use Rattle.ocr_body_meaning.specs.declared.call.Answer.{Answer}
use Rattle.ocr_machine_history.specs.declared.entry.Entry.{Entry}
use Rattle.ocr_machine_history.specs.declared.entry.Entry.TheVariants as an
use Rattle.ocr_machine_history.specs.declared.entry.What.{What}
use Rattle.ocr_machine_history.specs.declared.entry.What.TheVariants as what
use Rattle.ocr_memory_model_order.specs.Causes.{is_isolated_in}

-- the event that it satisfies
abbrev pub satisfied_by : body.Call → Option ℕ
satisfied_by (call.Satisfy e p slot) = Some e
satisfied_by other = None

abbrev pub satisfied_with : What → Option ℕ
satisfied_with (what.Satisfy e slot p) = Some e
satisfied_with other = None

abbrev pub satisfied_in : Entry → Option ℕ
satisfied_in (an.Call t home c a w) = if is_done a.code then satisfied_by c else None
satisfied_in (an.Deliver m code) = if is_done code then satisfied_with m.what else None
satisfied_in other = None

-- the scope that a member leaves
abbrev pub left_with : What → Option ℕ
left_with (what.Leave x) = Some x
left_with other = None

abbrev pub left_in : Entry → Option ℕ
left_in (an.Deliver m code) = if is_done code then left_with m.what else None
left_in other = None

-- the EDT that it makes, or of which it sets a slot
abbrev pub made_by : body.Call → Answer → Option ℕ
made_by (call.EdtCreate from pc ps dc ds fl o) a = if is_done a.code then Some a.value else None
made_by other a = None

abbrev pub set_with : What → Option ℕ
set_with (what.Set t k p) = Some t
set_with other = None

abbrev pub starting_in : Entry → Option ℕ
starting_in (an.Call t home c a w) = made_by c a
starting_in (an.Deliver m code) = set_with m.what
starting_in other = None

-- the block that it gives back
abbrev pub given_by : body.Call → Option ℕ
given_by (call.DbRelease b) = Some b
given_by (call.DbDestroy b) = Some b
given_by other = None

abbrev pub given_in : Entry → Option ℕ
given_in (an.Call t home c a w) = if is_done a.code then given_by c else None
given_in (an.Free t b w) = Some b
given_in other = None

-- where a hold ends by that
abbrev pub key_if : Bool → Option ℕ → Option ℕ
key_if b o = if b then o else None

abbrev pub ended_key : Entry → Option Mode → Option ℕ
ended_key e m = key_if (is_some m) (given_in e)

abbrev pub isolated_key : Entry → Option Mode → Option ℕ
isolated_key e m = key_if (is_isolated_in m) (given_in e)

abbrev pub is_key : Option ℕ → ℕ → Bool
is_key None x = false
is_key (Some y) x = y == x

-- MAPS. The last place of a number, and its places, the oldest first
abbrev pub some_place : Option ℕ → List ℕ
some_place None = []
some_place (Some n) = n ∷ []

abbrev pub last_in : BTreeMap ℕ ℕ → ℕ → List ℕ
last_in places t = some_place (get nat_cmp places t)

abbrev pub items_in : Option (List ℕ) → List ℕ
items_in None = []
items_in (Some ns) = ns

abbrev pub list_at : BTreeMap ℕ (List ℕ) → ℕ → List ℕ
list_at lists n = items_in (get nat_cmp lists n)
