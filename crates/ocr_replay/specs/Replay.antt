-- How far a replay has come, and where it stops.
use Rattle.std.specs.Prelude.{◌≡◌, ◌≢◌, ℕ, ◌+◌, ◌<◌, ◌≤◌, List, length, take, false, Option, None, slice_index_or, ◌==◌}
use Rattle.ocr_machine_history.specs.declared.entry.Entry.{Entry}
use Rattle.ocr_machine_history.specs.declared.entry.Entry.TheVariants.{Deliver, Start, Stop}
use Rattle.ocr_machine_history.specs.declared.entry.Stop.TheVariants as by
use Rattle.ocr_machine_history.specs.declared.entry.What.{What}
use Rattle.ocr_machine_history.specs.Edts.{IsRunning}
use Rattle.ocr_machine_history.specs.History.{Setting, history_of, is_stopped}
use Rattle.ocr_replay_body.specs.Cases.{IsFitCore}
use Rattle.ocr_replay_body.specs.Judge.{IsVerdict}
use Rattle.ocr_replay_body.specs.Mail.{left_from, message_at, delivered_at}
use Rattle.ocr_replay_body.specs.declared.judge.Told.TheVariants as told
use Rattle.ocr_replay_body.specs.declared.judge.Verdict.{Verdict}
use Rattle.ocr_machine_state.specs.State.{IsStateOf}
use Rattle.ocr_machine_state.specs.declared.state.State.{State}
use Rattle.ocr_body_meaning.specs.declared.call.BodyStop.TheVariants as stop
use Rattle.ocr_machine_parts.specs.Bodies.{body_of}
use Rattle.ocr_replay_legality.specs.Tests.{MayEnter}
use Rattle.ocr_machine_parts.specs.Legal.{IsRun, IsLegal, IsSaid, is_stop}
use Rattle.ocr_machine_parts.specs.Messages.{pending}
use Rattle.ocr_machine_parts.specs.declared.part.Part.{Part}
use Rattle.ocr_machine_parts.specs.declared.part.Part.TheVariants as part
use Rattle.ocr_replay.specs.declared.state.Replay.{Replay}
use Rattle.ocr_program_tree.specs.Tree.{FunctionTree}

-- the entry at a place
abbrev pub entry_at : List Entry → ℕ → Entry
entry_at entries n = slice_index_or entries n (Stop by.Memory)

-- the verdict on an EDT
abbrev pub verdict_at : List Verdict → ℕ → Verdict
verdict_at verdicts t =
    slice_index_or verdicts t (record { at = 0; told = told.Stopped stop.NoMemory })

-- the verdict on each EDT that runs
abbrev pub AreVerdicts : Setting → List Entry → ℕ → List Verdict → Type 0
AreVerdicts s entries n vs = (t : ℕ) → IsRunning (history_of (take n entries)) t
    → IsVerdict (body_of s (history_of (take n entries)) t) t entries n (verdict_at vs t).at
    (verdict_at vs t).told

-- the first n entries are a run that was not stopped, of which these are the table, the messages
-- that were not delivered, and the verdicts
pub record IsReplayed (s : Setting) (entries : List Entry) (n : ℕ) (table : State)
    (mail : List (List (Option What))) (verdicts : List Verdict) : Type 0 where
  pub run : IsRun s (history_of (take n entries))
  pub open_run : is_stopped (history_of (take n entries)) ≡ false
  pub of : IsStateOf s (history_of (take n entries)) table
  pub sent : length mail ≡ n
  pub left : left_from 0 mail ≡ pending s (history_of (take n entries))
  pub judged : AreVerdicts s entries n verdicts

abbrev pub IsReplaying : Setting → List Entry → ℕ → Replay → Type 0
IsReplaying s entries n replay =
    IsReplayed s entries n replay.table replay.mail replay.verdicts.items

-- all entries were replayed
pub record IsAtEnd (s : Setting) (entries : List Entry) (replay : Replay) : Type 0 where
  pub replayed : IsReplaying s entries (length entries) replay
  pub room : length replay.verdicts.items ≡ s.limit + 1
  pub some : 2 ≤ s.limit

-- the entry at this place may come next, by the parts and by the facts, and is no Stop
pub record IsNext (s : Setting) (entries : List Entry) (n : ℕ) (e : Entry)
    (replay : Replay) : Type 0 where
  pub so_far : IsReplaying s entries n replay
  pub within : n < length entries
  pub is : e ≡ slice_index_or entries n e
  pub no_stop : is_stop e ≡ false
  pub may : MayEnter s (history_of (take n entries)) e

-- what an entry makes of the messages that were not delivered, and what it presumes of them
abbrev pub mail_after : Entry → List (List (Option What)) → List (List (Option What))
mail_after (Deliver m c) rows = delivered_at rows m.place m.index
mail_after other rows = rows

abbrev pub CanDeliver : Entry → List (List (Option What)) → Type 0
CanDeliver (Deliver m c) rows = message_at rows m.place m.index ≢ None
CanDeliver other rows = Unit {0}

-- n entries are a run that was not stopped, with this table and these messages
pub record IsEntered (s : Setting) (entries : List Entry) (n : ℕ) (table : State)
    (mail : List (List (Option What))) : Type 0 where
  pub run : IsRun s (history_of (take n entries))
  pub open_run : is_stopped (history_of (take n entries)) ≡ false
  pub of : IsStateOf s (history_of (take n entries)) table
  pub sent : length mail ≡ n
  pub left : left_from 0 mail ≡ pending s (history_of (take n entries))

-- and the entry is one that its EDT's body makes, or delivers what was sent
pub record IsComing (s : Setting) (entries : List Entry) (n : ℕ) (e : Entry)
    (replay : Replay) : Type 0 where
  pub next : IsNext s entries n e replay
  pub said : IsSaid s (history_of (take n entries)) e

-- the core of an EDT that has just started, with which its body is judged
abbrev pub IsFitPart : Part → Type 0
IsFitPart (part.Core c) = IsFitCore c
IsFitPart other = ⊥

pub record IsStarted (s : Setting) (entries : List Entry) (n t : ℕ) (replay : Replay) : Type 0 where
  pub entered : IsEntered s entries (n + 1) replay.table replay.mail
  pub within : n < length entries
  pub is : Start t ≡ slice_index_or entries n (Start t)
  pub legal : IsLegal s (history_of (take n entries)) (Start t)

-- it has its verdict, and the others keep theirs
pub record IsJudged (s : Setting) (entries : List Entry) (n t : ℕ)
    (before after : List Verdict) : Type 0 where
  pub own : IsVerdict (body_of s (history_of (take (n + 1) entries)) t) t entries (n + 1)
      (verdict_at after t).at (verdict_at after t).told
  pub others : (u : ℕ) → (t == u) ≡ false → verdict_at after u ≡ verdict_at before u
  pub len : length after ≡ length before

-- the first entry that is not legal stands at n
pub record IsFirstIllegal (s : Setting) (entries : List Entry) (n : ℕ) : Type 0 where
  pub within : n < length entries
  pub run : IsRun s (history_of (take n entries))
  pub broken : IsRun s (history_of (take (n + 1) entries)) → ⊥
