-- The text of an entry.
use Rattle.std.specs.Prelude.{ℕ, ◌-◌, ◌==◌, if◌then◌else◌, List, [], ◌∷◌, ◌++◌, codes, slice_get, option_map, unwrap_or}
use Rattle.std.specs.List.{flat_map}
use Rattle.std.specs.Fmt.{decimal}
use Rattle.ocr_guid.specs.Code.{number_of}
use Rattle.ocr_guid.specs.declared.Code.{Code}
use Rattle.ocr_program_tree.specs.Tree.{FunctionTree}
use Rattle.ocr_body_meaning.specs.declared.call.Call.{Call}
use Rattle.ocr_body_meaning.specs.declared.call.Call.TheVariants.{DbCreate, DbRelease, DbDestroy, EventCreate, EventCreateParams, EventDestroy, Satisfy, AddDependence, TemplateCreate, TemplateDestroy, EdtCreate, Shutdown, Abort, Load, Store, Print}
use Rattle.ocr_body_meaning.specs.declared.call.Answer.{Answer}
use Rattle.ocr_machine_history.specs.declared.entry.Entry.{Entry}
use Rattle.ocr_machine_history.specs.declared.entry.Entry.TheVariants as an
use Rattle.ocr_machine_history.specs.declared.entry.Fault.{Fault}
use Rattle.ocr_machine_history.specs.declared.entry.Fault.TheVariants as fault
use Rattle.ocr_machine_history.specs.declared.entry.Stop.{Stop}
use Rattle.ocr_machine_history.specs.declared.entry.Stop.TheVariants as by
use Rattle.ocr_machine_history.specs.declared.entry.What.{What}
use Rattle.ocr_machine_history.specs.declared.entry.What.TheVariants as what
use Rattle.ocr_journal.specs.Phrase.{Text, phrase, listed}

-- the name of function number n, from 1; a number without a function has no letters
abbrev pub name_at : List FunctionTree → ℕ → Text
name_at program n =
    if n == 0 then [] else unwrap_or (option_map (λ f. f.name) (slice_get program (n - 1))) []

-- the name of a call, and its arguments
abbrev pub call_text : List FunctionTree → Call → Text
call_text _ (DbCreate length flags) = phrase (codes "ocrDbCreate") (length ∷ flags ∷ [])
call_text _ (DbRelease d) = phrase (codes "ocrDbRelease") (d ∷ [])
call_text _ (DbDestroy d) = phrase (codes "ocrDbDestroy") (d ∷ [])
call_text _ (EventCreate kind flags) = phrase (codes "ocrEventCreate") (kind ∷ flags ∷ [])
call_text _ (EventCreateParams kind flags most sat deps) =
    phrase (codes "ocrEventCreateParams") (kind ∷ flags ∷ most ∷ sat ∷ deps ∷ [])
call_text _ (EventDestroy e) = phrase (codes "ocrEventDestroy") (e ∷ [])
call_text _ (Satisfy e g slot) = phrase (codes "ocrEventSatisfySlot") (e ∷ g ∷ slot ∷ [])
call_text _ (AddDependence s t slot mode) =
    phrase (codes "ocrAddDependence") (s ∷ t ∷ slot ∷ mode ∷ [])
call_text program (TemplateCreate f paramc depc) =
    codes "ocrEdtTemplateCreate " ++ phrase (name_at program f) (paramc ∷ depc ∷ [])
call_text _ (TemplateDestroy t) = phrase (codes "ocrEdtTemplateDestroy") (t ∷ [])
call_text _ (EdtCreate t paramc params depc deps flags output) =
    phrase (codes "ocrEdtCreate") (t ∷ paramc ∷ []) ++ (listed params
    ++ (phrase [] (depc ∷ []) ++ (listed deps ++ phrase [] (flags ∷ []))))
call_text _ Shutdown = codes "ocrShutdown"
call_text _ (Abort code) = phrase (codes "ocrAbort") (code ∷ [])
call_text _ (Load d w) = phrase (codes "load") (d ∷ w ∷ [])
call_text _ (Store d w v) = phrase (codes "store") (d ∷ w ∷ v ∷ [])
call_text _ (Print v) = phrase (codes "print") (v ∷ [])

-- what it answered
abbrev pub answer_text : Call → Answer → Text
answer_text (EdtCreate t paramc params depc deps flags output) a =
    phrase (codes " ->") (number_of a.code ∷ a.value ∷ a.scope ∷ a.output ∷ [])
answer_text (Load d w) a = phrase (codes " ->") (a.value ∷ [])
answer_text (Store d w v) a = []
answer_text (Print v) a = []
answer_text other a = phrase (codes " ->") (number_of a.code ∷ a.value ∷ [])

-- the private writes, each ` W=V`, where there are any
abbrev pub writes_text : List (ℕ × ℕ) → Text
writes_text [] = []
writes_text ws = codes " writes" ++ flat_map (λ p. 32 ∷ (decimal p.0 ++ 61 ∷ decimal p.1)) ws

abbrev pub delivery_text : What → Code → Text
delivery_text (what.Set t slot g) code = phrase (codes " set") (t ∷ slot ∷ g ∷ [])
delivery_text (what.Satisfy e slot g) code =
    phrase (codes " satisfy") (e ∷ slot ∷ g ∷ []) ++ phrase (codes " ->") (number_of code ∷ [])
delivery_text (what.Leave s) code = phrase (codes " leave") (s ∷ [])

abbrev pub fault_words : Fault → Text
fault_words fault.ZeroDivisor = codes "zero divisor"
fault_words fault.BadIndex = codes "bad index"
fault_words fault.NotHeld = codes "not held"
fault_words fault.NotWritable = codes "not writable"
fault_words fault.Fuel = codes "fuel"

abbrev pub stop_text : Stop → Text
stop_text (by.Shutdown t) = phrase (codes "stop shutdown") (t ∷ [])
stop_text (by.Abort t code) = phrase (codes "stop abort") (t ∷ code ∷ [])
stop_text (by.Fault t why) = phrase (codes "stop fault") (t ∷ []) ++ 32 ∷ fault_words why
stop_text by.Objects = codes "stop objects"
stop_text (by.Events worker weight) = phrase (codes "stop events") (worker ∷ weight ∷ [])
stop_text by.Memory = codes "stop memory"

abbrev pub entry_text : List FunctionTree → Entry → Text
entry_text program (an.Call t home call answer writes) =
    phrase (codes "call") (t ∷ [])
    ++ (32 ∷ call_text program call ++ (answer_text call answer ++ writes_text writes))
entry_text program (an.Deliver message code) =
    phrase (codes "deliver") (message.place ∷ [])
    ++ (46 ∷ decimal message.index ++ delivery_text message.what code)
entry_text program (an.Acquire t d) = phrase (codes "acquire") (t ∷ d ∷ [])
entry_text program (an.Wait t d) = phrase (codes "wait") (t ∷ d ∷ [])
entry_text program (an.StaleAcquire t d) = phrase (codes "stale") (t ∷ d ∷ [])
entry_text program (an.Start t) = phrase (codes "start") (t ∷ [])
entry_text program (an.Free t d writes) = phrase (codes "free") (t ∷ d ∷ []) ++ writes_text writes
entry_text program (an.End t g) = phrase (codes "end") (t ∷ g ∷ [])
entry_text program (an.Stop why) = stop_text why
