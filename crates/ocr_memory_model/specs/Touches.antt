-- How races are found: by the last places at which each EDT touched a word, in the order of block,
-- word and EDT. What is told of them, in RaceList, does not rest on this.
use Rattle.std.specs.Prelude.{◌≡◌, ◌↔◌, ℕ, List, [], ◌∷◌, ◌++◌, length, Bool, true, false, ◌==◌, ◌&&◌, ◌||◌, not, if◌then◌else◌, Option, Some, None}
use Rattle.std.specs.BTreeMap.{BTreeMap, get}
use Rattle.std.specs.List.{Contains}
use Rattle.std.specs.List.Sorted.{IsStrictlySortedBy}
use Rattle.std.specs.Ordering.{nat_cmp, ordering_then}
use Rattle.std.specs.declared.cmp.Ordering.{Ordering}
use Rattle.ocr_body_meaning.specs.Holds.{is_done}
use Rattle.ocr_body_meaning.specs.declared.call.Call as body
use Rattle.ocr_body_meaning.specs.declared.call.Call.TheVariants as call
use Rattle.ocr_machine_history.specs.declared.entry.Entry.{Entry}
use Rattle.ocr_machine_history.specs.declared.entry.Entry.TheVariants as an
use Rattle.ocr_machine_history.specs.History.{History}
use Rattle.ocr_memory_model_order.specs.Races.{stores, loads}
use Rattle.ocr_memory_model.specs.declared.race.Race.{Race}
use Rattle.ocr_memory_model.specs.declared.touch.Places.{Places}
use Rattle.ocr_memory_model.specs.declared.touch.Touch.{Touch}

-- a block, a word and an EDT
abbrev pub Site : Type 0
Site = ℕ × ℕ × ℕ

abbrev pub site_cmp : Site → Site → Ordering
site_cmp x y = ordering_then (ordering_then (nat_cmp x.0 y.0) (nat_cmp x.1 y.1)) (nat_cmp x.2 y.2)

-- the site of an entered access, and whether it is a store
abbrev pub access_by : ℕ → body.Call → Option (Site × Bool)
access_by t (call.Load d w) = Some ((d, w, t), false)
access_by t (call.Store d w v) = Some ((d, w, t), true)
access_by t other = None

abbrev pub access_in : Entry → Option (Site × Bool)
access_in (an.Call t home c a writes) = if is_done a.code then access_by t c else None
access_in other = None

-- the places after a history
abbrev pub store_in : Option Places → Option ℕ
store_in None = None
store_in (Some places) = places.store

abbrev pub touched : History → (d w t : ℕ) → Option Places
touched [] d w t = None
touched (e ∷ past) d w t =
    if stores d w t past e
    then Some (record { last = length past; store = Some (length past) })
    else if loads d w t past e
    then Some (record { last = length past; store = store_in (touched past d w t) })
    else touched past d w t

abbrev pub places_at : BTreeMap Site Places → Site → Option Places
places_at marks site = get site_cmp marks site

abbrev pub AreMarked : History → BTreeMap Site Places → Type 0
AreMarked past marks = (d w t : ℕ) → places_at marks (d, w, t) ≡ touched past d w t

-- as a list
abbrev pub touch_of : Site × Places → Touch
touch_of mark =
    record { block = mark.0.0; word = mark.0.1; edt = mark.0.2; places = mark.1 }

abbrev pub touch_cmp : Touch → Touch → Ordering
touch_cmp x y =
    ordering_then (ordering_then (nat_cmp x.block y.block) (nat_cmp x.word y.word))
    (nat_cmp x.edt y.edt)

pub record AreTouches (past : History) (touches : List Touch) : Type 0 where
  pub rising : IsStrictlySortedBy touch_cmp touches
  pub each : (x : Touch) → Contains touches x
      ↔ (touched past x.block x.word x.edt ≡ Some x.places)

-- two EDTs touched one word
abbrev pub is_same_word : Touch → Touch → Bool
is_same_word x y = (x.block == y.block) && (x.word == y.word)

abbrev pub race_of : Touch → Touch → Race
race_of x y = record { block = x.block; word = x.word; first = x.edt; second = y.edt }

abbrev pub is_unordered : (ℕ → ℕ → Bool) → ℕ → ℕ → Bool
is_unordered is_before a b = not (is_before a b) && not (is_before b a)

-- a store, where there is one, and an access that are not ordered
abbrev pub is_apart : (ℕ → ℕ → Bool) → Option ℕ → ℕ → Bool
is_apart is_before None b = false
is_apart is_before (Some a) b = is_unordered is_before a b

abbrev pub are_racing : (ℕ → ℕ → Bool) → Touch → Touch → Bool
are_racing is_before x y =
    is_apart is_before x.places.store y.places.last
    || is_apart is_before y.places.store x.places.last

-- the races of a touch with those that come next, as far as they are of its word
abbrev pub races_with : (ℕ → ℕ → Bool) → Touch → List Touch → List Race
races_with is_before x [] = []
races_with is_before x (y ∷ rest) =
    if is_same_word x y
    then (if are_racing is_before x y then race_of x y ∷ [] else []) ++ races_with is_before x rest
    else []

abbrev pub races_in : (ℕ → ℕ → Bool) → List Touch → List Race
races_in is_before [] = []
races_in is_before (x ∷ rest) = races_with is_before x rest ++ races_in is_before rest
