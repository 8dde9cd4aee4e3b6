-- What an EDT acquires and holds, and the blocks: their words, and who stands at them.
use Rattle.std.specs.Prelude.{ℕ, ◌/◌, List, [], ◌∷◌, ◌++◌, Bool, true, false, ◌||◌, ◌&&◌, not, ◌==◌, if◌then◌else◌, Option, Some, None, is_some, replicate, slice_get}
use Rattle.std.specs.List.{filter, flat_map}
use Rattle.ocr_acquire.specs.declared.Mode.{Mode}
use Rattle.ocr_acquire.specs.declared.Mode.TheVariants as mode
use Rattle.ocr_acquire.specs.Mode.{mode_in}
use Rattle.ocr_acquire.specs.Plan as plan
use Rattle.ocr_acquire.specs.Writes.{written}
use Rattle.ocr_slots.specs.Slots as slot
use Rattle.ocr_datablock.specs.Block.{Line, is_empty, can_grant, line_without, line_after_grants}
use Rattle.ocr_body_meaning.specs.Holds.{is_done}
use Rattle.ocr_body_meaning.specs.declared.call.Call as body
use Rattle.ocr_body_meaning.specs.declared.call.Call.TheVariants as call
use Rattle.ocr_body_meaning.specs.declared.call.Answer.{Answer}
use Rattle.ocr_machine_history.specs.declared.objects.TheConstants.{ARGUMENTS}
use Rattle.ocr_machine_history.specs.declared.entry.Entry.TheVariants.{Call, Acquire, Wait, StaleAcquire, Free}
use Rattle.ocr_machine_history.specs.History.{History, Setting}
use Rattle.ocr_machine_history.specs.Made.{makes}
use Rattle.ocr_machine_parts.specs.Calls.{link_calls, depc_of, payload_of, asks_of, mode_next, argument_words}

-- THE PLAN of an EDT: the blocks that its slots bring and ask for, rising, each in its strongest
-- mode
abbrev pub plan_of : Setting → History → ℕ → List (ℕ × Mode)
plan_of s past t =
    plan.plan_of (flat_map (λ k. asks_of (payload_of past t k) (slot.mode_of (link_calls past t) k))
    (slot.slots_of (depc_of s past t)))

-- the EDT acquired the block, or it found it gone
abbrev pub has_acquired : History → ℕ → ℕ → Bool
has_acquired [] t d = false
has_acquired (Acquire u b ∷ past) t d = ((u == t) && (b == d)) || has_acquired past t d
has_acquired (e ∷ past) t d = has_acquired past t d

abbrev pub has_found_gone : History → ℕ → ℕ → Bool
has_found_gone [] t d = false
has_found_gone (StaleAcquire u b ∷ past) t d = ((u == t) && (b == d)) || has_found_gone past t d
has_found_gone (e ∷ past) t d = has_found_gone past t d

-- the first block of its plan of which neither holds, with its mode
abbrev pub is_ahead : History → ℕ → ℕ → Bool
is_ahead past t d = not (has_acquired past t d) && not (has_found_gone past t d)

abbrev pub next_of : Setting → History → ℕ → Option (ℕ × Mode)
next_of s past t =
    slice_get (filter (λ (member : ℕ × Mode). is_ahead past t member.0) (plan_of s past t)) 0

abbrev pub next_mode : Setting → History → ℕ → Mode
next_mode s past t = mode_next (next_of s past t)

-- HOLDS. An EDT holds a block in the mode of its plan once it acquired it, and in RW where it made
-- it, until it gives it back or destroys it
abbrev pub held_after : body.Call → Answer → ℕ → Option Mode → Option Mode
held_after (call.DbCreate n fl) a d before =
    if (a.value == d) && (fl == 0) then Some mode.Rw else before
held_after (call.DbRelease b) a d before = if b == d then None else before
held_after (call.DbDestroy b) a d before = if b == d then None else before
held_after other a d before = before

abbrev pub held : Setting → History → ℕ → ℕ → Option Mode
held s [] t d = None
held s (Acquire u b ∷ past) t d =
    if (u == t) && (b == d) then Some (next_mode s past t) else held s past t d
held s (Call u home c a w ∷ past) t d =
    if is_done a.code && (u == t) then held_after c a d (held s past t d) else held s past t d
held s (Free u b w ∷ past) t d = if (u == t) && (b == d) then None else held s past t d
held s (e ∷ past) t d = held s past t d

-- CONTENTS. The argument block has the number of the arguments and the arguments, and a block that
-- is made has zeros. What an entry writes: a store its word, the end of a hold its private writes
abbrev pub writes_by : body.Call → List (ℕ × ℕ) → ℕ → List (ℕ × ℕ)
writes_by (call.Store b k v) w d = if b == d then (k, v) ∷ [] else []
writes_by (call.DbRelease b) w d = if b == d then w else []
writes_by (call.DbDestroy b) w d = if b == d then w else []
writes_by other w d = []

abbrev pub contents_of : Setting → History → ℕ → List ℕ
contents_of s [] d = if d == ARGUMENTS then argument_words s else []
contents_of s (Call t home (call.DbCreate n fl) a w ∷ past) d =
    if makes a d then replicate (n / 8) 0 else contents_of s past d
contents_of s (Call t home c a w ∷ past) d =
    written (if is_done a.code then writes_by c w d else []) (contents_of s past d)
contents_of s (Free t b w ∷ past) d = written (if b == d then w else []) (contents_of s past d)
contents_of s (e ∷ past) d = contents_of s past d

-- those with which an EDT acquired it
abbrev pub found : Setting → History → ℕ → ℕ → List ℕ
found s [] t d = []
found s (Acquire u b ∷ past) t d =
    if (u == t) && (b == d) then contents_of s past d else found s past t d
found s (e ∷ past) t d = found s past t d

-- WHO STANDS AT A BLOCK. A call destroyed the object
abbrev pub destroys : body.Call → ℕ → Bool
destroys (call.DbDestroy d) g = d == g
destroys (call.TemplateDestroy x) g = x == g
destroys (call.EventDestroy e) g = e == g
destroys other g = false

abbrev pub was_destroyed : History → ℕ → Bool
was_destroyed [] g = false
was_destroyed (Call t home c a w ∷ past) g =
    (is_done a.code && destroys c g) || was_destroyed past g
was_destroyed (e ∷ past) g = was_destroyed past g

-- who holds a block, or was granted it, and who waits for it, each in order. Where a hold ends,
-- those who wait are granted the block from the first on, as far as they fit; where it is
-- destroyed, nobody is
abbrev pub line_after_end : Bool → ℕ → Line → Line
line_after_end destroyed t before = line_after_grants destroyed (line_without t before)

abbrev pub line_after : ℕ → body.Call → Answer → Bool → ℕ → Line → Line
line_after t (call.DbCreate n fl) a destroyed d before =
    if a.value == d then record {
      holders = if fl == 0 then (t, mode.Rw) ∷ [] else [];
      queue = [];
    } else before
line_after t (call.DbRelease b) a destroyed d before =
    if b == d then line_after_end destroyed t before else before
line_after t (call.DbDestroy b) a destroyed d before =
    if b == d then line_after_end true t before else before
line_after t other a destroyed d before = before

-- who was granted the block while it waited stands there already
abbrev pub line_with : ℕ → Mode → Line → Line
line_with t m before =
    if is_some (mode_in t before.holders) then before
    else record { holders = before.holders ++ (t, m) ∷ []; queue = before.queue }

abbrev pub line_of : Setting → History → ℕ → Line
line_of s [] d = record { holders = []; queue = [] }
line_of s (Call t home c a w ∷ past) d =
    if is_done a.code then line_after t c a (was_destroyed past d) d (line_of s past d)
    else line_of s past d
line_of s (Acquire t b ∷ past) d =
    if b == d then line_with t (next_mode s past t) (line_of s past d) else line_of s past d
line_of s (Wait t b ∷ past) d =
    if b == d then record {
      holders = (line_of s past d).holders;
      queue = (line_of s past d).queue ++ (t, next_mode s past t) ∷ [];
    } else line_of s past d
line_of s (Free t b w ∷ past) d =
    if b == d then line_after_end (was_destroyed past d) t (line_of s past d) else line_of s past d
line_of s (e ∷ past) d = line_of s past d

-- the block can be granted to one more in this mode, or it is gone: destroyed, and held by nobody
abbrev pub is_grantable : Setting → History → ℕ → Mode → Bool
is_grantable s past d m = can_grant (was_destroyed past d) (line_of s past d) m

abbrev pub is_gone : Setting → History → ℕ → Bool
is_gone s past d = was_destroyed past d && is_empty (line_of s past d).holders
