-- THE RULES: which entry may come after a history, what a run is, and when it is quiet.
use Rattle.std.specs.Prelude.{◌≡◌, ◌≤◌, ◌<◌, ◌⊎◌, ℕ, List, [], ◌∷◌, ◌++◌, Bool, true, false, ◌&&◌, ◌==◌, if◌then◌else◌, Option, Some, None, is_some, slice_index}
use Rattle.std.specs.List.{Contains}
use Rattle.ocr_guid.specs.Code.{number_of}
use Rattle.ocr_guid.specs.declared.Code.{Code}
use Rattle.ocr_guid.specs.declared.Code.TheVariants as code
use Rattle.ocr_guid.specs.Target.{EventCall}
use Rattle.ocr_acquire.specs.declared.Mode.{Mode}
use Rattle.ocr_acquire.specs.Mode.{mode_in}
use Rattle.ocr_body_meaning.specs.Behaviour.{Stops, IsNext}
use Rattle.ocr_body_meaning.specs.Call.{is_creation}
use Rattle.ocr_body_meaning.specs.Holds.{is_done}
use Rattle.ocr_body_meaning.specs.declared.call.Call as body
use Rattle.ocr_body_meaning.specs.declared.call.Call.TheVariants as call
use Rattle.ocr_body_meaning.specs.declared.call.Answer.{Answer}
use Rattle.ocr_body_meaning.specs.declared.call.BodyStop.{BodyStop}
use Rattle.ocr_body_meaning.specs.declared.call.BodyStop.TheVariants as stop
use Rattle.ocr_machine_history.specs.declared.entry.Entry.{Entry}
use Rattle.ocr_machine_history.specs.declared.entry.Entry.TheVariants.{Call, Deliver, Acquire, Wait, StaleAcquire, Start, Free, End, Stop}
use Rattle.ocr_machine_history.specs.declared.entry.Stop as run
use Rattle.ocr_machine_history.specs.declared.entry.Stop.TheVariants as by
use Rattle.ocr_machine_history.specs.declared.entry.What.{What}
use Rattle.ocr_machine_history.specs.declared.entry.What.TheVariants as what
use Rattle.ocr_machine_history.specs.Edts.{is_started, is_ended, IsRunning}
use Rattle.ocr_machine_history.specs.History.{History, Setting, is_stopped}
use Rattle.ocr_machine_history.specs.Made.{Made, MadeEvent, made, is_edt}
use Rattle.ocr_machine_history.specs.Weight.{weight_of}
use Rattle.ocr_machine_parts.specs.Calls.{open_slots, event_calls}
use Rattle.ocr_machine_parts.specs.Codes.{code_or}
use Rattle.ocr_machine_parts.specs.Legal.{IsCallSaid, IsFreeSaid, IsEndSaid, faulted}
use Rattle.ocr_machine_parts.specs.Parts.{identity_of}
use Rattle.ocr_machine_parts.specs.Runs.{IsWaking}
use Rattle.ocr_machine_rules.specs.Blocks.{next_of, held, contents_of, line_of, is_grantable, is_gone}
use Rattle.ocr_machine_rules.specs.Bodies.{says_next}
use Rattle.ocr_machine_rules.specs.Codes.{code_of}
use Rattle.ocr_machine_rules.specs.Events.{refusal}
use Rattle.ocr_machine_rules.specs.Messages.{pending}

-- A CALL draws the number of each object that it makes: one that nothing has yet, above the one
-- that it drew before
abbrev pub IsDrawn : Setting → History → Bool → (before g : ℕ) → Type 0
IsDrawn s past true before g = (before < g) × (g ≤ s.limit) × (made s past g ≡ None)
IsDrawn s past false before g = g ≡ 0

-- an EDT is made as a finish EDT, and with an output event
abbrev pub wants_scope : body.Call → Bool
wants_scope (call.EdtCreate from pc params dc deps flags output) = flags == 1
wants_scope other = false

abbrev pub wants_output : body.Call → Bool
wants_output (call.EdtCreate from pc params dc deps flags output) = output
wants_output other = false

-- what the call answers besides its code: a creation the number of its object, or 0 where it is
-- refused, a load the word of the block, a print and a store 0, and any other call the number of
-- its code. Shutdown and Abort end the run by a Stop: no entry has them
abbrev pub IsAnswer : Setting → History → Bool → Answer → Type 0
IsAnswer s past true a = IsDrawn s past (is_done a.code) 0 a.value
IsAnswer s past false a = a.value ≡ number_of a.code

abbrev pub IsValue : Setting → History → body.Call → Answer → Type 0
IsValue s past (call.Load d k) a = a.value ≡ slice_index (contents_of s past d) k
IsValue s past (call.Print v) a = a.value ≡ 0
IsValue s past (call.Store d k v) a = a.value ≡ 0
IsValue s past call.Shutdown a = ⊥
IsValue s past (call.Abort number) a = ⊥
IsValue s past c a = IsAnswer s past (is_creation c) a

-- the home that the entry tells: that of the EDT where it makes one, else 0
abbrev pub home_for : body.Call → ℕ → ℕ
home_for (call.EdtCreate from pc params dc deps flags output) home = home
home_for other home = 0

-- the EDT runs, its body says the call, and this is what it is answered
pub record IsCall (s : Setting) (past : History) (t home : ℕ) (c : body.Call) (a : Answer)
    (w : List (ℕ × ℕ)) : Type 0 where
  pub running : IsRunning past t
  pub said : IsCallSaid (says_next s past t) c a w
  pub code : a.code ≡ code_of s past t c
  pub value : IsValue s past c a
  pub scope : IsDrawn s past (is_done a.code && wants_scope c) a.value a.scope
  pub output : IsDrawn s past (is_done a.code && wants_output c)
      (if a.scope == 0 then a.value else a.scope) a.output
  pub home_is : home ≡ home_for c (identity_of past t).scope

-- A MESSAGE comes that was sent and not delivered. Its code is what its event answers, and Done
-- where it satisfies none
abbrev pub refused_by : Option Made → List EventCall → ℕ → Code
refused_by (Some (MadeEvent k fl most)) calls p = code_or (refusal k fl most calls p)
refused_by other calls p = code.Done

abbrev pub delivery_code : Setting → History → What → Code
delivery_code s past (what.Satisfy e slot p) =
    refused_by (made s past e) (event_calls s past e) p
delivery_code s past other = code.Done

-- GOING ON. The EDT has not started, and every slot of it is set
pub record IsReady (s : Setting) (past : History) (t : ℕ) : Type 0 where
  pub made : is_edt past t ≡ true
  pub not_started : is_started past t ≡ false
  pub all_set : open_slots s past t ≡ []

-- and this block is next in its plan
pub record IsReadyFor (s : Setting) (past : History) (t d : ℕ) (m : Mode) : Type 0 where
  pub ready : IsReady s past t
  pub next : next_of s past t ≡ Some (d, m)

-- it was granted the block while it waited, or the block can be granted
abbrev pub IsAvailable : Setting → History → (t d : ℕ) → Mode → Type 0
IsAvailable s past t d m =
    (is_some (mode_in t (line_of s past d).holders) ≡ true) ⊎ (is_grantable s past d m ≡ true)

-- the block can neither be granted nor is it gone, and the EDT neither was granted it nor waits
pub record IsUnavailable (s : Setting) (past : History) (t d : ℕ) (m : Mode) : Type 0 where
  pub not_there : mode_in t ((line_of s past d).holders ++ (line_of s past d).queue) ≡ None
  pub not_grantable : is_grantable s past d m ≡ false
  pub not_gone : is_gone s past d ≡ false

-- ENDING. Once its body has come to its end, an EDT frees the least block that it holds, and ends
-- where it holds none
pub record IsFree (s : Setting) (past : History) (t d : ℕ) (w : List (ℕ × ℕ)) : Type 0 where
  pub running : IsRunning past t
  pub holds : is_some (held s past t d) ≡ true
  pub least : (b : ℕ) → is_some (held s past t b) ≡ true → d ≤ b
  pub said : IsFreeSaid (says_next s past t) d w

pub record IsEnd (s : Setting) (past : History) (t g : ℕ) : Type 0 where
  pub running : IsRunning past t
  pub holds_none : (b : ℕ) → held s past t b ≡ None
  pub said : IsEndSaid (says_next s past t) g

-- each entry but a Stop, by its kind
abbrev pub MayCome : Setting → History → Entry → Type 0
MayCome s past (Call t home c a w) = IsCall s past t home c a w
MayCome s past (Deliver m c) =
    Contains (pending s past) (m.place, m.index, m.what) × (c ≡ delivery_code s past m.what)
MayCome s past (Acquire t d) =
    (m : Mode) × IsReadyFor s past t d m × IsAvailable s past t d m
MayCome s past (Wait t d) = (m : Mode) × IsReadyFor s past t d m × IsUnavailable s past t d m
MayCome s past (StaleAcquire t d) =
    (m : Mode) × IsReadyFor s past t d m × (is_gone s past d ≡ true)
MayCome s past (Start t) = IsReady s past t × (next_of s past t ≡ None)
MayCome s past (Free t d w) = IsFree s past t d w
MayCome s past (End t g) = IsEnd s past t g
MayCome s past (Stop why) = ⊥

-- STOPS. An EDT runs whose body says a creation that is not refused
pub record IsCreating (s : Setting) (past : History) (t : ℕ) (c : body.Call) : Type 0 where
  pub running : IsRunning past t
  pub next : IsNext c (says_next s past t)
  pub creation : is_creation c ≡ true
  pub accepted : code_of s past t c ≡ code.Done

-- an entry of this weight could come
pub record IsWeighed (s : Setting) (past : History) (e : Entry) (weight : ℕ) : Type 0 where
  pub weighs : weight_of e ≡ weight
  pub may_come : MayCome s past e

-- the body of a running EDT ends the run, or a worker does, for want of numbers, of events or of
-- memory
pub record IsEndedBy (s : Setting) (past : History) (t : ℕ) (why : BodyStop) : Type 0 where
  pub running : IsRunning past t
  pub said : says_next s past t ≡ Stops why

abbrev pub MayStop : Setting → History → run.Stop → Type 0
MayStop s past (by.Shutdown t) = IsEndedBy s past t stop.Shutdown
MayStop s past (by.Abort t number) = IsEndedBy s past t (stop.Abort number)
MayStop s past (by.Fault t why) = IsEndedBy s past t (faulted why)
MayStop s past by.Objects = (t : ℕ) × (c : body.Call) × IsCreating s past t c
MayStop s past (by.Events worker weight) = (e : Entry) × IsWeighed s past e weight
MayStop s past by.Memory = Unit {0}

-- LEGAL: the entry may come after this history
abbrev pub IsAllowed : Setting → History → Entry → Type 0
IsAllowed s past (Stop why) = MayStop s past why
IsAllowed s past e = MayCome s past e

pub record IsLegal (s : Setting) (past : History) (e : Entry) : Type 0 where
  pub open_run : is_stopped past ≡ false
  pub allowed : IsAllowed s past e

-- A RUN: each entry may come after those before it
abbrev pub IsRun : Setting → History → Type 0
IsRun s [] = Unit {0}
IsRun s (e ∷ past) = IsRun s past × IsLegal s past e

-- QUIET: nothing is left that could go on: no message, no EDT that has started, and none that could
-- acquire, wait or start
pub record IsQuiet (s : Setting) (past : History) : Type 0 where
  pub open_run : is_stopped past ≡ false
  pub delivered : pending s past ≡ []
  pub ended : (t : ℕ) → is_started past t ≡ true → is_ended past t ≡ true
  pub asleep : (e : Entry) → IsWaking e → IsLegal s past e → ⊥
