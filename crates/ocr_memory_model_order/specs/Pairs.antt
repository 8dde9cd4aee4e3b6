-- HAPPENS BEFORE. The pairs of entries of which one comes right before the other, and the smallest
-- transitive relation with these pairs.
use Rattle.std.specs.Prelude.{◌≡◌, ◌<◌, ℕ, Bool, true, false, ◌||◌, ◌&&◌, ◌==◌, if◌then◌else◌, Option, Some, None}
use Rattle.ocr_acquire.specs.declared.Mode.{Mode}
use Rattle.ocr_guid.specs.declared.Code.{Code}
use Rattle.ocr_body_meaning.specs.Holds.{is_done}
use Rattle.ocr_acquire.specs.Mode.{is_isolated}
use Rattle.ocr_body_meaning.specs.declared.call.Call as body
use Rattle.ocr_body_meaning.specs.declared.call.Call.TheVariants as call
use Rattle.ocr_body_meaning.specs.declared.call.Answer.{Answer}
use Rattle.ocr_machine_history.specs.declared.entry.Entry.{Entry}
use Rattle.ocr_machine_history.specs.declared.entry.Entry.TheVariants.{Call, Deliver, Acquire, Start, Free}
use Rattle.ocr_machine_history.specs.declared.entry.Message.{Message}
use Rattle.ocr_machine_history.specs.declared.entry.What.{What}
use Rattle.ocr_machine_history.specs.declared.entry.What.TheVariants as what
use Rattle.ocr_machine_history.specs.History.{History, Setting}
use Rattle.ocr_machine_history.specs.Made.{makes, names_new}
use Rattle.ocr_machine_history.specs.Numbers.{is_in}
use Rattle.ocr_machine_parts.specs.Progress.{edt_in}
use Rattle.ocr_machine_parts.specs.Legal.{IsRun}
pub use Rattle.ocr_machine_rules.specs.Blocks.{held}
use Rattle.ocr_machine_rules.specs.Blocks.{next_mode}
use Rattle.ocr_memory_model_rows.specs.Places.{Closure}
use Rattle.ocr_memory_model_order.specs.Makers.{makers}
use Rattle.ocr_memory_model_order.specs.Places.{entry_at, before, is_at, told_at}

-- an entry of the EDT
abbrev pub is_of : ℕ → History → Entry → Bool
is_of t past e = names_new (edt_in e) t

-- it makes the EDT
abbrev pub is_made_by : body.Call → Answer → ℕ → Bool
is_made_by (call.EdtCreate from pc ps dc ds fl o) a t = makes a t
is_made_by other a t = false

abbrev pub creates : ℕ → History → Entry → Bool
creates t past (Call u home c a w) = is_made_by c a t
creates t past other = false

-- it starts the EDT
abbrev pub starts : ℕ → History → Entry → Bool
starts t past (Start u) = u == t
starts t past other = false

-- it sets a slot of the EDT
abbrev pub is_set_for : What → ℕ → Bool
is_set_for (what.Set u k p) t = u == t
is_set_for other t = false

abbrev pub sets : ℕ → History → Entry → Bool
sets t past (Deliver m c) = is_set_for m.what t
sets t past other = false

-- it ends a hold of the block, which had this mode: a release, a Free, or a destruction
abbrev pub is_given_back : body.Call → ℕ → Bool
is_given_back (call.DbRelease b) d = b == d
is_given_back (call.DbDestroy b) d = b == d
is_given_back other d = false

abbrev pub ended_mode : Setting → ℕ → History → Entry → Option Mode
ended_mode s d past (Call t home c a w) =
    if is_done a.code && is_given_back c d then held s past t d else None
ended_mode s d past (Free t b w) = if b == d then held s past t d else None
ended_mode s d past other = None

-- it acquires the block in this mode
abbrev pub acquired_mode : Setting → ℕ → History → Entry → Option Mode
acquired_mode s d past (Acquire t b) = if b == d then Some (next_mode s past t) else None
acquired_mode s d past other = None

-- THE PAIRS
pub data IsPair (s : Setting) (J : History) : ℕ → ℕ → Type 0 where
  in_order : {a b : ℕ} → (t : ℕ) → a < b → is_at (is_of t) J a ≡ true → is_at (is_of t) J b ≡ true
      → IsPair s J a b
  made : {a b : ℕ} → (t : ℕ) → is_at (creates t) J a ≡ true → is_at (starts t) J b ≡ true
      → IsPair s J a b
  sent : {a b : ℕ} → (m : Message) → (c : Code) → entry_at J b ≡ Some (Deliver m c)
      → is_in a (makers s (before J b) m) ≡ true → IsPair s J a b
  set : {a b : ℕ} → (t : ℕ) → is_at (sets t) J a ≡ true → is_at (starts t) J b ≡ true
      → IsPair s J a b
  ended : {a b : ℕ} → (d : ℕ) → (m k : Mode) → a < b → told_at (ended_mode s d) J a ≡ Some m
      → told_at (acquired_mode s d) J b ≡ Some k → (is_isolated m || is_isolated k) ≡ true
      → IsPair s J a b

-- a happens before b
abbrev pub HappensBefore : Setting → History → ℕ → ℕ → Type 0
HappensBefore s J a b = Closure (IsPair s J) a b

-- THE LAW: each pair goes forward
abbrev pub ForwardLaw : Type 0
ForwardLaw = (s : Setting) (J : History) (a b : ℕ) → IsRun s J → IsPair s J a b → a < b
