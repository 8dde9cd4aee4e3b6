-- What the body of one EDT says of the entries that run it.
use Rattle.std.specs.Prelude.{◌≡◌, ℕ, ◌≤◌, ◌<◌, List, [], length, take, slice_index_or, Bool, true, false, ◌==◌}
use Rattle.ocr_body_meaning.specs.Behaviour.{Behaviour, Ends, Stops, IsNextWith}
use Rattle.ocr_body_meaning.specs.Body.{Body, says}
use Rattle.ocr_body_meaning.specs.Holds.{Hold, Holds, is_done, private_in}
use Rattle.ocr_body_meaning.specs.declared.call.Call as body
use Rattle.ocr_body_meaning.specs.declared.call.Call.TheVariants as call
use Rattle.ocr_body_meaning.specs.declared.call.Answer.{Answer}
use Rattle.ocr_guid.specs.declared.Code.TheVariants.{Done}
use Rattle.ocr_machine_history.specs.declared.entry.Entry.{Entry}
use Rattle.ocr_machine_history.specs.declared.entry.Entry.TheVariants.{Call, Free, End, Stop}
use Rattle.ocr_machine_history.specs.declared.entry.Stop.TheVariants as by
use Rattle.ocr_machine_history.specs.History.{history_of, own}
use Rattle.ocr_machine_parts.specs.Legal.{IsSaidBy, carried}
use Rattle.ocr_replay_body.specs.Holds.{held_in, count_in}
use Rattle.ocr_replay_body.specs.declared.judge.Ending.{Ending}
use Rattle.ocr_replay_body.specs.declared.judge.Ending.TheVariants as ending
use Rattle.ocr_replay_body.specs.declared.judge.Told.{Told}
use Rattle.ocr_replay_body.specs.declared.judge.Told.TheVariants as told

-- the entry is one of this EDT's body
abbrev pub runs : ℕ → Entry → Bool
runs t (Call edt home c a w) = edt == t
runs t (Free edt d w) = edt == t
runs t (End edt g) = edt == t
runs t (Stop (by.Shutdown edt)) = edt == t
runs t (Stop (by.Abort edt code)) = edt == t
runs t (Stop (by.Fault edt why)) = edt == t
runs t other = false

-- a load or a store that is an entry is accepted, a store with 0, and makes no scope and no event
pub record IsPlain (a : Answer) : Type 0 where
  pub done : a.code ≡ Done
  pub no_scope : a.scope ≡ 0
  pub no_output : a.output ≡ 0

abbrev pub IsFormed : body.Call → Answer → Type 0
IsFormed (call.Load d k) a = IsPlain a
IsFormed (call.Store d k v) a = IsPlain a × (a.value ≡ 0)
IsFormed other a = Unit {0}

-- the entry carries the answer and the writes that this call has
pub record IsOfCall (c : body.Call) (private : List (ℕ × ℕ)) (made : body.Call) (a : Answer)
    (w : List (ℕ × ℕ)) : Type 0 where
  pub same : made ≡ c
  pub formed : IsFormed made a
  pub carries : w ≡ carried (is_done a.code) private

abbrev pub IsEntryOf : body.Call → List (ℕ × ℕ) → Entry → Type 0
IsEntryOf c private (Call t home made a w) = IsOfCall c private made a w
IsEntryOf c private other = ⊥

-- and this is its answer
abbrev pub IsAnswerOf : body.Call → List (ℕ × ℕ) → Answer → Entry → Type 0
IsAnswerOf c private a (Call t home made given w) =
    (given ≡ a) × IsOfCall c private made given w
IsAnswerOf c private a other = ⊥

-- a body that goes on like this makes this entry of its EDT
abbrev pub IsMadeBy : Behaviour → Entry → Type 0
IsMadeBy b (Call t home c a w) = IsSaidBy b [] (Call t home c a w) × IsFormed c a
IsMadeBy b e = IsSaidBy b [] e

-- what the body goes on with at this place
abbrev pub at_place : Body → ℕ → List Entry → ℕ → Behaviour
at_place b t entries n = says b (own (history_of (take n entries)) t)

-- no entry of the EDT stands in these places
abbrev pub HasNoEntries : ℕ → List Entry → ℕ → ℕ → Type 0
HasNoEntries t entries from to =
    (m : ℕ) → from ≤ m → m < to → (e : Entry) → e ≡ slice_index_or entries m e → runs t e ≡ false

-- the body makes each of its entries in these places
abbrev pub IsSaidIn : Body → ℕ → List Entry → ℕ → ℕ → Type 0
IsSaidIn b t entries from to = (m : ℕ) → from ≤ m → m < to → (e : Entry)
    → e ≡ slice_index_or entries m e → runs t e ≡ true → IsMadeBy (at_place b t entries m) e

-- the entry of this place is one that the body does not make
abbrev pub IsUnsaid : Body → ℕ → List Entry → ℕ → Type 0
IsUnsaid b t entries m = (e : Entry) → e ≡ slice_index_or entries m e
    → (runs t e ≡ true) × (IsMadeBy (at_place b t entries m) e → ⊥)

-- the first place of an entry that the body does not make
pub record IsWrong (b : Body) (t : ℕ) (entries : List Entry) (from at : ℕ) : Type 0 where
  pub after : from ≤ at
  pub within : at < length entries
  pub said : IsSaidIn b t entries from at
  pub unsaid : IsUnsaid b t entries at

-- the next entry of the EDT, which its body does not make, where there is one
abbrev pub IsStuck : Body → ℕ → List Entry → ℕ → Type 0
IsStuck b t entries from = (at : ℕ) → from ≤ at → at < length entries
    → HasNoEntries t entries from at → (e : Entry) → e ≡ slice_index_or entries at e → runs t e ≡ true
    → IsMadeBy (at_place b t entries from) e → ⊥

-- HOW A BODY ENDED, with the holds that it had then
abbrev pub ended_as : Ending → List (ℕ × Hold) → Behaviour
ended_as (ending.Ended g) items = Ends g (held_in items)
ended_as (ending.Stopped s) items = Stops s

-- WHAT A BODY SAYS NEXT, as it is told: it has come to its end, with so many private writes of each
-- hold; it makes a call, with so many private writes; or it stops
abbrev pub IsEndedSo : Behaviour → List (ℕ × ℕ) → Type 0
IsEndedSo b counts = (g : ℕ) × (holds : Holds) × (b ≡ Ends g holds)
    × ((d : ℕ) → count_in counts d ≡ length (private_in (holds d)))

abbrev pub IsToldAs : Behaviour → Told → Type 0
IsToldAs b (told.Ended counts) = IsEndedSo b counts.items
IsToldAs b (told.Asks c count) =
    (private : List (ℕ × ℕ)) × IsNextWith c private b × (length private ≡ count)
IsToldAs b (told.Stopped s) = b ≡ Stops s

pub record IsJudging (b : Body) (t : ℕ) (entries : List Entry)
    (start place refusals : ℕ) : Type 0 where
  pub after : start ≤ place
  pub within : place ≤ length entries
  pub said : IsSaidIn b t entries start place
  pub stuck : 0 < refusals → IsStuck b t entries place

-- THE VERDICT on an EDT: the first place of an entry that its body does not make, or the length of
-- the journal, and then what it says next
pub record IsVerdict (b : Body) (t : ℕ) (entries : List Entry) (from at : ℕ) (next : Told)
    : Type 0 where
  pub after : from ≤ at
  pub within : at ≤ length entries
  pub said : IsSaidIn b t entries from at
  pub unsaid : at < length entries → IsUnsaid b t entries at
  pub told : at ≡ length entries → IsToldAs (at_place b t entries at) next
