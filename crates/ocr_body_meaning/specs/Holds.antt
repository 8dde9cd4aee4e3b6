-- What a body holds, what it stored there, and what its loads and stores come to.
use Rattle.std.specs.Prelude.{ℕ, ◌/◌, List, [], Bool, true, false, nat_lt, ◌==◌, if◌then◌else◌}
use Rattle.std.specs.Prelude.{Option, Some, None, slice_index}
use Rattle.ocr_guid.specs.declared.Code.{Code}
use Rattle.ocr_guid.specs.declared.Code.TheVariants as code
use Rattle.ocr_acquire.specs.declared.Mode.{Mode}
use Rattle.ocr_acquire.specs.declared.Mode.TheVariants as mode
use Rattle.ocr_acquire.specs.Mode.{is_isolated, is_writable}
use Rattle.ocr_acquire.specs.Writes.{put, written}
use Rattle.ocr_body_meaning.specs.declared.call.Answer.{Answer}
use Rattle.ocr_body_meaning.specs.declared.call.BodyStop.{BodyStop}
use Rattle.ocr_body_meaning.specs.declared.call.BodyStop.TheVariants as stop
use Rattle.ocr_body_meaning.specs.declared.call.Call as calls
use Rattle.ocr_body_meaning.specs.declared.call.Call.TheVariants as call

-- a hold of a block: its mode, the block's length in words, and in EW and CONST the words with
-- which the hold began, and what was stored there since, rising, each word with its last value
pub record Hold : Type 0 where
  pub mode : Mode
  pub size : ℕ
  pub began : List ℕ
  pub writes : List (ℕ × ℕ)

-- the holds of an EDT, by their blocks
abbrev pub Holds : Type 0
Holds = ℕ → Option Hold

abbrev pub no_holds : Holds
no_holds = λ d. None

-- what a load or a store comes to: it is a fault, it has this value and is no entry, or it is an
-- entry
pub data Access : Type 0 where
  Refused : (stop : BodyStop) → Access
  Silent : (value : ℕ) → Access
  Entered : Access

-- the word of a hold as it is now
abbrev pub word_of : Hold → ℕ → ℕ
word_of h w = slice_index (written h.writes h.began) w

-- a word past the end is a bad index
abbrev pub if_within : Hold → ℕ → Access → Access
if_within h w found = if nat_lt w h.size then found else Refused stop.BadIndex

abbrev pub load_of : Option Hold → ℕ → Access
load_of None w = Refused stop.NotHeld
load_of (Some h) w = if_within h w (if is_isolated h.mode then Silent (word_of h w) else Entered)

abbrev pub store_of : Option Hold → ℕ → Access
store_of None w = Refused stop.NotHeld
store_of (Some h) w =
    if is_writable h.mode then if_within h w (if is_isolated h.mode then Silent 0 else Entered)
    else Refused stop.NotWritable

-- these holds, but for one
abbrev pub with_hold : ℕ → Option Hold → Holds → Holds
with_hold d h holds = λ x. if d == x then h else holds x

abbrev pub with_write : ℕ → ℕ → Option Hold → Option Hold
with_write w v None = None
with_write w v (Some h) =
    Some (record { mode = h.mode; size = h.size; began = h.began; writes = put w v h.writes })

-- the holds after a store
abbrev pub after_store : Access → (block word value : ℕ) → Holds → Holds
after_store (Silent x) d w v holds = with_hold d (with_write w v (holds d)) holds
after_store other d w v holds = holds

-- the private writes of a hold, and those of the hold that a call ends where it is accepted
abbrev pub private_in : Option Hold → List (ℕ × ℕ)
private_in None = []
private_in (Some h) = h.writes

abbrev pub private_of : calls.Call → Holds → List (ℕ × ℕ)
private_of (call.DbRelease d) holds = private_in (holds d)
private_of (call.DbDestroy d) holds = private_in (holds d)
private_of other holds = []

-- a call was accepted
abbrev pub is_done : Code → Bool
is_done code.Done = true
is_done other = false

-- the hold of a block of so many bytes by its creator
abbrev pub creator_hold : ℕ → Hold
creator_hold length = record { mode = mode.Rw; size = length / 8; began = []; writes = [] }

-- the holds after an accepted call. Who makes a block holds it, unless the flag says that it does
-- not
abbrev pub after_accepted : calls.Call → Answer → Holds → Holds
after_accepted (call.DbCreate length flags) a holds =
    if flags == 0 then with_hold a.value (Some (creator_hold length)) holds else holds
after_accepted (call.DbRelease d) a holds = with_hold d None holds
after_accepted (call.DbDestroy d) a holds = with_hold d None holds
after_accepted other a holds = holds

-- the holds after a call was answered
abbrev pub after_call : calls.Call → Answer → Holds → Holds
after_call made a holds = if is_done a.code then after_accepted made a holds else holds
