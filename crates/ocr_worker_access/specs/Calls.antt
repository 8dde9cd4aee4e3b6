-- The calls of a body that become entries, and what they are answered.
use Rattle.std.specs.Prelude.{◌≡◌, ◌≤◌, ◌<◌, ℕ, List, [], ◌∷◌, Bool, true, false, ◌&&◌, ◌==◌, if◌then◌else◌}
use Rattle.ocr_guid.specs.Code.{number_of}
use Rattle.ocr_body_meaning.specs.Call.{is_creation}
use Rattle.ocr_body_meaning.specs.Holds.{is_done}
use Rattle.ocr_body_meaning.specs.declared.call.Answer.{Answer}
use Rattle.ocr_body_meaning.specs.declared.call.Call as body
use Rattle.ocr_body_meaning.specs.declared.call.Call.TheVariants as call
use Rattle.ocr_machine_history.specs.declared.entry.Entry.{Entry}
use Rattle.ocr_machine_history.specs.declared.entry.Entry.TheVariants as an
use Rattle.ocr_machine_parts.specs.Codes.{wanted}
use Rattle.ocr_machine_parts.specs.declared.part.Part.{Part}
use Rattle.ocr_machine_parts.specs.Footprint.{and_face, and_wanted, makes_core}
use Rattle.ocr_machine_parts.specs.Kinds.{home_on}
use Rattle.ocr_machine_parts.specs.LegalOn.{last_of}
use Rattle.ocr_turns_rule.specs.Debts.{times}
use Rattle.ocr_worker_machine.specs.Clerks.{OcrView}
use Rattle.ocr_worker_machine.specs.Ocr.{beside}

-- the calls that a code answers, of the kinds that the machine has. Loads and stores go by the hold
abbrev pub IsCoded : body.Call → Type 0
IsCoded (call.Load d k) = ⊥
IsCoded (call.Store d k v) = ⊥
IsCoded call.Shutdown = ⊥
IsCoded (call.Abort c) = ⊥
IsCoded other = Unit {0}

-- the call makes a scope beside the EDT, or an output event
abbrev pub makes_scope : body.Call → Bool
makes_scope (call.EdtCreate from pc ps dc ds fl output) = fl == 1
makes_scope other = false

abbrev pub makes_output : body.Call → Bool
makes_output (call.EdtCreate from pc ps dc ds fl output) = output
makes_output other = false

-- the numbers that a call makes, in the order in which they are drawn
abbrev pub drawn_for : body.Call → Answer → List ℕ
drawn_for c a = if is_creation c && is_done a.code then a.value ∷ beside c a else []

-- a number beside another, where one is: drawn, and above the other
abbrev pub IsNextTo : Bool → OcrView → (other n : ℕ) → Type 0
IsNextTo true v other n = (1 ≤ times n v.drawn) × (other < n)
IsNextTo false v other n = n ≡ 0

-- What such a call answers besides its code: a creation the numbers that the clerk drew, which are
-- used up so, or 0 where it is refused; every other call its code's number.
pub record IsAnswer (v : OcrView) (c : body.Call) (a : Answer) : Type 0 where
  pub drawn : v.drawn ≡ drawn_for c a
  pub refused : is_creation c ≡ true → is_done a.code ≡ false → a.value ≡ 0
  pub number : is_creation c ≡ false → a.value ≡ number_of a.code
  pub scope : IsNextTo (is_done a.code && makes_scope c) v a.value a.scope
  pub output : IsNextTo (is_done a.code && makes_output c) v (last_of a) a.output

-- the scope whose member the call's EDT becomes, by the caller's core
abbrev pub home_for : body.Call → Part → ℕ
home_for c core = if makes_core c then home_on core else 0

-- the places of the faces that a call wants and of the home that it joins, rising
abbrev pub faces_of : (limit home : ℕ) → body.Call → List ℕ
faces_of limit home c = and_face limit home (and_wanted limit (wanted c) [])

-- the entry of a call
abbrev pub is_call : Entry → Bool
is_call (an.Call edt home c a w) = true
is_call other = false

abbrev pub IsCallIn : Entry → body.Call → Type 0
IsCallIn (an.Call edt home c a w) found = found ≡ c
IsCallIn other found = ⊥
