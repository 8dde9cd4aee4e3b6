-- Which entry may come after a history, and what a run is.
use Rattle.std.specs.Prelude.{◌≡◌, ℕ, List, [], ◌∷◌, Bool, true, false, if◌then◌else◌}
use Rattle.std.specs.List.{Contains}
use Rattle.ocr_guid.specs.declared.Code.TheVariants.{Done}
use Rattle.ocr_body_meaning.specs.Behaviour.{Behaviour, Ends, Stops, IsNext, IsNextWith}
use Rattle.ocr_body_meaning.specs.Call.{is_creation}
use Rattle.ocr_body_meaning.specs.Holds.{Holds, is_done, private_in}
use Rattle.ocr_body_meaning.specs.declared.call.Call as body
use Rattle.ocr_body_meaning.specs.declared.call.Answer.{Answer}
use Rattle.ocr_body_meaning.specs.declared.call.BodyStop.{BodyStop}
use Rattle.ocr_body_meaning.specs.declared.call.BodyStop.TheVariants as stop
use Rattle.ocr_machine_history.specs.declared.entry.Entry.{Entry}
use Rattle.ocr_machine_history.specs.declared.entry.Entry.TheVariants.{Call, Deliver, Acquire, Wait, StaleAcquire, Start, Free, End, Stop}
use Rattle.ocr_machine_history.specs.declared.entry.Fault.{Fault}
use Rattle.ocr_machine_history.specs.declared.entry.Fault.TheVariants as fault
use Rattle.ocr_machine_history.specs.declared.entry.Stop as run
use Rattle.ocr_machine_history.specs.declared.entry.Stop.TheVariants as by
use Rattle.ocr_machine_history.specs.declared.entry.What.{What}
use Rattle.ocr_machine_history.specs.History.{History, Setting, is_stopped}
use Rattle.ocr_machine_history.specs.Edts.{IsRunning}
use Rattle.ocr_machine_history.specs.Weight.{weight_of}
use Rattle.ocr_machine_parts.specs.Calls.{open_slots}
use Rattle.ocr_machine_parts.specs.Parts.{parts_of}
use Rattle.ocr_machine_parts.specs.Codes.{code_of}
use Rattle.ocr_machine_parts.specs.Progress.{edt_in, readied_on}
use Rattle.ocr_machine_parts.specs.Messages.{pending}
use Rattle.ocr_machine_parts.specs.LegalOn.{IsLegalOn}
use Rattle.ocr_machine_parts.specs.Bodies.{says_next}

-- ON PARTS: legal by the parts. An EDT that goes on was made ready
abbrev pub IsOnParts : Setting → History → Entry → Type 0
IsOnParts s past e = IsLegalOn s.limit (readied_on s past e (parts_of s past)) e

-- FACTS: an EDT goes on where every slot is set
abbrev pub AreFacts : Setting → History → Entry → Type 0
AreFacts s past (Acquire t d) = open_slots s past t ≡ []
AreFacts s past (Wait t d) = open_slots s past t ≡ []
AreFacts s past (StaleAcquire t d) = open_slots s past t ≡ []
AreFacts s past (Start t) = open_slots s past t ≡ []
AreFacts s past other = Unit {0}

-- SAID. The private writes of the hold that a call ends where it is accepted
abbrev pub carried : Bool → List (ℕ × ℕ) → List (ℕ × ℕ)
carried done writes = if done then writes else []

abbrev pub IsCallSaid : Behaviour → body.Call → Answer → List (ℕ × ℕ) → Type 0
IsCallSaid b c a w =
    (private : List (ℕ × ℕ)) × IsNextWith c private b × (w ≡ carried (is_done a.code) private)

-- the body has come to its end, where it returns this and holds blocks so
abbrev pub IsFreeSaid : Behaviour → ℕ → List (ℕ × ℕ) → Type 0
IsFreeSaid b d w = (g : ℕ) × (holds : Holds) × (b ≡ Ends g holds) × (w ≡ private_in (holds d))

abbrev pub IsEndSaid : Behaviour → ℕ → Type 0
IsEndSaid b g = (holds : Holds) × (b ≡ Ends g holds)

-- a fault, as the body tells it
abbrev pub faulted : Fault → BodyStop
faulted fault.ZeroDivisor = stop.ZeroDivisor
faulted fault.BadIndex = stop.BadIndex
faulted fault.NotHeld = stop.NotHeld
faulted fault.NotWritable = stop.NotWritable
faulted fault.Fuel = stop.Fuel

-- a body that goes on like this makes this entry, and what is delivered is among these messages
abbrev pub IsSaidBy : Behaviour → List (ℕ × ℕ × What) → Entry → Type 0
IsSaidBy b ms (Call edt home c a w) = IsCallSaid b c a w
IsSaidBy b ms (Deliver m c) = Contains ms (m.place, m.index, m.what)
IsSaidBy b ms (Free edt d w) = IsFreeSaid b d w
IsSaidBy b ms (End edt g) = IsEndSaid b g
IsSaidBy b ms (Stop (by.Shutdown edt)) = b ≡ Stops stop.Shutdown
IsSaidBy b ms (Stop (by.Abort edt code)) = b ≡ Stops (stop.Abort code)
IsSaidBy b ms (Stop (by.Fault edt why)) = b ≡ Stops (faulted why)
IsSaidBy b ms other = Unit {0}

-- what the body of the entry's EDT says next, and what was sent
abbrev pub IsSaid : Setting → History → Entry → Type 0
IsSaid s past e = IsSaidBy (says_next s past (edt_in e)) (pending s past) e

-- STOPS. An EDT runs whose body says a creation that is not refused
pub record IsCreating (s : Setting) (past : History) (t : ℕ) (c : body.Call) : Type 0 where
  pub running : IsRunning past t
  pub next : IsNext c (says_next s past t)
  pub creation : is_creation c ≡ true
  pub accepted : code_of t (parts_of s past).face c ≡ Done

abbrev pub is_stop : Entry → Bool
is_stop (Stop why) = true
is_stop other = false

-- an entry of this weight, which is no Stop, could come
pub record IsWeighed (s : Setting) (past : History) (e : Entry) (weight : ℕ) : Type 0 where
  pub weighs : weight_of e ≡ weight
  pub no_stop : is_stop e ≡ false
  pub on_parts : IsOnParts s past e
  pub on_facts : AreFacts s past e
  pub said : IsSaid s past e

-- why a run may be stopped, besides what the body says
abbrev pub IsStop : Setting → History → run.Stop → Type 0
IsStop s past (by.Shutdown t) = IsRunning past t
IsStop s past (by.Abort t code) = IsRunning past t
IsStop s past (by.Fault t why) = IsRunning past t
IsStop s past by.Objects = (t : ℕ) × (c : body.Call) × IsCreating s past t c
IsStop s past (by.Events worker weight) = (e : Entry) × IsWeighed s past e weight
IsStop s past by.Memory = Unit {0}

abbrev pub IsStopping : Setting → History → Entry → Type 0
IsStopping s past (Stop why) = IsStop s past why
IsStopping s past other = Unit {0}

-- LEGAL: the entry may come after this history
pub record IsLegal (s : Setting) (past : History) (e : Entry) : Type 0 where
  pub open_run : is_stopped past ≡ false
  pub on_parts : IsOnParts s past e
  pub on_facts : AreFacts s past e
  pub said : IsSaid s past e
  pub stopping : IsStopping s past e

-- each entry may come after those before it
abbrev pub IsRun : Setting → History → Type 0
IsRun s [] = Unit {0}
IsRun s (e ∷ past) = IsRun s past × IsLegal s past e
