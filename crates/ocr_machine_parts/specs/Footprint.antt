-- The parts that an entry names.
use Rattle.std.specs.Prelude.{◌≡◌, ℕ, ◌+◌, ◌-◌, List, [], ◌∷◌, Bool, true, false, ◌||◌, ◌&&◌, ◌==◌, if◌then◌else◌}
use Rattle.ocr_body_meaning.specs.Call.{is_creation}
use Rattle.ocr_body_meaning.specs.declared.call.Call as body
use Rattle.ocr_body_meaning.specs.declared.call.Call.TheVariants as call
use Rattle.ocr_body_meaning.specs.declared.call.Answer.{Answer}
use Rattle.ocr_machine_history.specs.declared.entry.Entry.{Entry}
use Rattle.ocr_machine_history.specs.declared.entry.Entry.TheVariants.{Call, Deliver, Acquire, Wait, StaleAcquire, Start, Free, End}
use Rattle.ocr_machine_history.specs.declared.entry.What.{What}
use Rattle.ocr_machine_history.specs.declared.entry.What.TheVariants as what
use Rattle.ocr_machine_history.specs.Made.{names_new}
use Rattle.ocr_machine_history.specs.Numbers.{placed}
use Rattle.ocr_machine_parts.specs.declared.part.Part.{Part}
use Rattle.ocr_machine_parts.specs.Parts.{Parts}
use Rattle.ocr_machine_parts.specs.Codes.{Sort, wanted}
use Rattle.ocr_machine_parts.specs.Effects.{joins}
use Rattle.ocr_machine_parts.specs.Taken.{is_within, has}

-- the entry names the face of this object: one that its call wants or makes
abbrev pub is_wanted : ℕ → List (ℕ × Sort) → Bool
is_wanted g [] = false
is_wanted g (one ∷ rest) = (one.0 == g) || is_wanted g rest

abbrev pub names_face : body.Call → Answer → ℕ → Bool
names_face c a g = is_wanted g (wanted c) || (is_creation c && (a.value == g))

-- and those of a new EDT's scope and output event
abbrev pub names_beside : body.Call → Answer → ℕ → Bool
names_beside (call.EdtCreate from pc params dc deps flags output) a g =
    names_new a.scope g || names_new a.output g
names_beside other a g = false

-- a message names the event that it satisfies or the scope that it leaves, and a Set nothing
abbrev pub is_brought_to : What → ℕ → Bool
is_brought_to (what.Satisfy e slot p) g = e == g
is_brought_to (what.Leave x) g = x == g
is_brought_to other g = false

abbrev pub on_face : Entry → ℕ → Bool
on_face (Call t home c a w) g = (joins c home g || names_beside c a g) || names_face c a g
on_face (Deliver m c) g = is_brought_to m.what g
on_face (Acquire t d) g = (t == g) || (d == g)
on_face (Wait t d) g = (t == g) || (d == g)
on_face (StaleAcquire t d) g = (t == g) || (d == g)
on_face (Start t) g = t == g
on_face (Free t d w) g = d == g
on_face (End t returned) g = returned == g
on_face other g = false

-- the entry names the core of this EDT
abbrev pub makes_core : body.Call → Bool
makes_core (call.EdtCreate from pc params dc deps flags output) = true
makes_core other = false

abbrev pub on_core_of : Entry → ℕ → Bool
on_core_of (Call t home c a w) u = (t == u) || (makes_core c && (a.value == u))
on_core_of (Acquire t d) u = t == u
on_core_of (Wait t d) u = t == u
on_core_of (StaleAcquire t d) u = t == u
on_core_of (Start t) u = t == u
on_core_of (Free t d w) u = t == u
on_core_of (End t returned) u = t == u
on_core_of other u = false

-- THE FOOTPRINT: the numbers of the parts that the entry names, rising
abbrev pub and_face : ℕ → ℕ → List ℕ → List ℕ
and_face limit g numbers = if is_within limit g then placed g numbers else numbers

abbrev pub and_core : ℕ → ℕ → List ℕ → List ℕ
and_core limit t numbers = if is_within limit t then placed (limit + t) numbers else numbers

abbrev pub and_wanted : ℕ → List (ℕ × Sort) → List ℕ → List ℕ
and_wanted limit [] numbers = numbers
and_wanted limit (one ∷ rest) numbers = and_face limit one.0 (and_wanted limit rest numbers)

-- the numbers of the parts that a call names besides its caller's core
abbrev pub and_made : ℕ → body.Call → Answer → List ℕ → List ℕ
and_made limit c a numbers =
    if is_creation c then
    and_face limit a.value (if makes_core c then and_core limit a.value numbers else numbers)
    else numbers

abbrev pub call_footprint : ℕ → body.Call → Answer → List ℕ → List ℕ
call_footprint limit c a numbers = and_wanted limit (wanted c) (and_made limit c a numbers)

-- those of a new EDT's scope and output event, and of the home that it joins
abbrev pub and_beside : ℕ → ℕ → body.Call → Answer → List ℕ → List ℕ
and_beside limit home (call.EdtCreate from pc params dc deps flags output) a numbers =
    and_face limit home (and_face limit a.scope (and_face limit a.output numbers))
and_beside limit home other a numbers = numbers

abbrev pub message_footprint : ℕ → What → List ℕ
message_footprint limit (what.Satisfy e slot p) = and_face limit e []
message_footprint limit (what.Leave x) = and_face limit x []
message_footprint limit other = []

abbrev pub footprint_of : ℕ → Entry → List ℕ
footprint_of limit (Call t home c a w) =
    and_beside limit home c a (call_footprint limit c a (and_core limit t []))
footprint_of limit (Deliver m c) = message_footprint limit m.what
footprint_of limit (Acquire t d) = and_face limit t (and_face limit d (and_core limit t []))
footprint_of limit (Wait t d) = and_face limit t (and_face limit d (and_core limit t []))
footprint_of limit (StaleAcquire t d) = and_face limit t (and_face limit d (and_core limit t []))
footprint_of limit (Start t) = and_face limit t (and_core limit t [])
footprint_of limit (Free t d w) = and_face limit d (and_core limit t [])
footprint_of limit (End t returned) = and_face limit returned (and_core limit t [])
footprint_of limit other = []

-- the entry names the part of this number
abbrev pub is_touched : ℕ → Entry → ℕ → Bool
is_touched limit e n =
    if is_within limit n then on_face e n
    else is_within limit (n - limit) && on_core_of e (n - limit)

-- each part that the entry names is there
abbrev pub Covers : ℕ → Entry → List (ℕ × Part) → Type 0
Covers limit e ps = (n : ℕ) → is_touched limit e n ≡ true → has ps n ≡ true

-- the two have the same parts where the entry looks
pub record IsAlike (e : Entry) (f h : Parts) : Type 0 where
  pub faces : (g : ℕ) → on_face e g ≡ true → f.face g ≡ h.face g
  pub cores : (u : ℕ) → on_core_of e u ≡ true → f.core u ≡ h.core u
