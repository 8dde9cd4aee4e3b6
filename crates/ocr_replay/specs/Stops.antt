-- What the parts, the messages and the verdicts after a run tell of a Stop.
use Rattle.std.specs.Prelude.{◌≡◌, ◌⊎◌, ◌<◌, ℕ, ◌+◌, List, length, slice_index_or, true, false, Option, Some, None}
use Rattle.ocr_edt.specs.Phases.{least_of}
use Rattle.ocr_guid.specs.declared.Code.TheVariants.{Done}
use Rattle.ocr_body_meaning.specs.Call.{is_creation}
use Rattle.ocr_body_meaning.specs.declared.call.BodyStop.{BodyStop}
use Rattle.ocr_body_meaning.specs.Behaviour.{Stops}
use Rattle.ocr_machine_history.specs.declared.entry.Entry.{Entry}
use Rattle.ocr_machine_history.specs.declared.entry.Entry.TheVariants.{Call, Free, End}
use Rattle.ocr_machine_history.specs.declared.entry.What.{What}
use Rattle.ocr_machine_history.specs.Edts.{IsRunning}
use Rattle.ocr_machine_history.specs.History.{History, Setting, is_stopped}
use Rattle.ocr_machine_parts.specs.declared.part.Part.{Part}
use Rattle.ocr_machine_parts.specs.Bodies.{says_next}
use Rattle.ocr_machine_parts.specs.Codes.{code_of}
use Rattle.ocr_machine_parts.specs.Kinds.{work_of, holds_of}
use Rattle.ocr_machine_parts.specs.Legal.{IsRun, IsCreating, IsWeighed}
use Rattle.ocr_machine_parts.specs.Messages.{pending}
use Rattle.ocr_machine_parts.specs.Parts.{Parts}
use Rattle.ocr_machine_state.specs.State.{IsStateOf}
use Rattle.ocr_machine_state.specs.declared.state.State.{State}
use Rattle.ocr_replay_legality.specs.Asked.{CanWeigh}
use Rattle.ocr_replay_legality.specs.Tests.{MayGoOn, IsDeliverable}
use Rattle.ocr_replay_body.specs.Holds.{count_in}
use Rattle.ocr_replay_body.specs.Judge.{IsToldAs}
use Rattle.ocr_replay_body.specs.Mail.{left_from, message_at}
use Rattle.ocr_replay_body.specs.declared.judge.Told.{Told}
use Rattle.ocr_replay_body.specs.declared.judge.Told.TheVariants as told
use Rattle.ocr_replay_body.specs.declared.judge.Verdict.{Verdict}

-- THE FRONT of a journal: these entries are a run that was not stopped, the table has its parts,
-- the mail its messages, and the verdicts tell what the bodies say next
pub record IsFront (s : Setting) (past : History) (table : State) (rows : List (List (Option What)))
    (verdicts : List Verdict) : Type 0 where
  pub run : IsRun s past
  pub open_run : is_stopped past ≡ false
  pub of : IsStateOf s past table
  pub left : left_from 0 rows ≡ pending s past
  pub long : s.limit < length verdicts
  pub told : (t : ℕ) → IsRunning past t → (v : Verdict) → v ≡ slice_index_or verdicts t v
      → IsToldAs (says_next s past t) v.told

-- A BODY'S STOP: the EDT runs, and its body stops for this
pub record IsStopping (s : Setting) (past : History) (t : ℕ) (why : BodyStop) : Type 0 where
  pub running : IsRunning past t
  pub stops : says_next s past t ≡ Stops why

-- A CREATION that is not refused comes next
abbrev pub CreatesBy : (ℕ → Part) → ℕ → Told → Type 0
CreatesBy face t (told.Asks c count) = (is_creation c ≡ true) × (code_of t face c ≡ Done)
CreatesBy face t other = ⊥

abbrev pub Creates : Setting → History → ℕ → Type 0
Creates s past t = (c : _) × IsCreating s past t c

-- WHAT COULD COME of the EDT's body, with this weight
abbrev pub count_of : Option ℕ → List (ℕ × ℕ) → ℕ
count_of None counts = 0
count_of (Some d) counts = count_in counts d

abbrev pub WeighsBy : ℕ → Parts → ℕ → Told → ℕ → Type 0
WeighsBy limit f t (told.Ended counts) weight =
    weight ≡ 1 + count_of (least_of (holds_of (work_of (f.core t)))) counts.items
WeighsBy limit f t (told.Asks c count) weight = CanWeigh limit f t c count weight
WeighsBy limit f t (told.Stopped why) weight = ⊥

-- an entry that a running EDT's body makes
abbrev pub IsBodyOf : ℕ → Entry → Type 0
IsBodyOf t (Call u home c a w) = u ≡ t
IsBodyOf t (Free u d w) = u ≡ t
IsBodyOf t (End u g) = u ≡ t
IsBodyOf t e = ⊥

abbrev pub RunsWeighed : Setting → History → ℕ → ℕ → Type 0
RunsWeighed s past t weight = (e : Entry) × IsBodyOf t e × IsWeighed s past e weight

-- or one by which it goes on
abbrev pub CouldWeigh : Setting → History → ℕ → ℕ → Type 0
CouldWeigh s past t weight = RunsWeighed s past t weight ⊎ ((weight ≡ 1) × MayGoOn s past t)

-- OF SOME EDT
abbrev pub SomeCreates : Setting → History → Type 0
SomeCreates s past = (t : ℕ) × Creates s past t

abbrev pub SomeCould : Setting → History → ℕ → Type 0
SomeCould s past weight = (t : ℕ) × CouldWeigh s past t weight

-- ANY ENTRY that is no Stop
abbrev pub AnyWeighed : Setting → History → ℕ → Type 0
AnyWeighed s past weight = (e : Entry) × IsWeighed s past e weight

-- A MESSAGE that was sent and not delivered could be delivered now; one of an entry's, and one of
-- all
abbrev pub Delivers : Parts → Option What → Type 0
Delivers f None = ⊥
Delivers f (Some message) = IsDeliverable f message

abbrev pub RowDelivers : Parts → List (Option What) → Type 0
RowDelivers f row = (i : ℕ) × Delivers f (slice_index_or row i None)

abbrev pub MailDelivers : Parts → List (List (Option What)) → Type 0
MailDelivers f rows = (n i : ℕ) × Delivers f (message_at rows n i)
