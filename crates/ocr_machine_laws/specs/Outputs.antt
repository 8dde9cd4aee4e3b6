-- The output events of EDTs: what an end satisfies, how often, and when an EDT is through.
use Rattle.std.specs.List.{filter}
use Rattle.std.specs.Prelude.{◌≡◌, ℕ, ◌+◌, List, [], ◌∷◌, length, Bool, true, false, not, ◌&&◌, ◌==◌, if◌then◌else◌}
use Rattle.ocr_machine_history.specs.declared.entry.Entry.{Entry}
use Rattle.ocr_machine_history.specs.declared.entry.Entry.TheVariants.{Deliver, End}
use Rattle.ocr_machine_history.specs.declared.entry.What.{What}
use Rattle.ocr_machine_history.specs.declared.entry.What.TheVariants as what
use Rattle.ocr_machine_history.specs.Edts.{is_ended}
use Rattle.ocr_machine_history.specs.History.{History, Setting}
use Rattle.ocr_machine_history.specs.Made.{is_edt, names_new}
use Rattle.ocr_machine_parts.specs.Kinds.{identity_on}
use Rattle.ocr_machine_parts.specs.Legal.{IsRun, IsLegal}
use Rattle.ocr_machine_parts.specs.Messages.{payload_of_end, sends}
use Rattle.ocr_machine_parts.specs.Parts.{identity_of, parts_of}
use Rattle.ocr_machine_laws.specs.Members.{is_leave_of, members_on}

-- a message that satisfies the event
abbrev pub satisfies : ℕ → What → Bool
satisfies o (what.Satisfy e slot p) = e == o
satisfies o other = false

-- AN END is that of an EDT, or that a member leaves a scope, which may be the end of the scope
abbrev pub is_leave : What → Bool
is_leave (what.Leave x) = true
is_leave other = false

abbrev pub is_end : Entry → Bool
is_end (End t g) = true
is_end (Deliver m c) = is_leave m.what
is_end other = false

-- what an end sends to the event by this entry, and how often the ends of the run satisfy it
abbrev pub signals_by : Setting → History → Entry → ℕ → List What
signals_by s past e o = if is_end e then filter (satisfies o) (sends e (parts_of s past)) else []

abbrev pub signals : Setting → History → ℕ → ℕ
signals s [] o = 0
signals s (e ∷ past) o = length (signals_by s past e o) + signals s past o

-- WHO AN EDT IS stays: its number, its home, its output event, and whether it is a finish EDT
abbrev pub IdentityLaw : Type 0
IdentityLaw = (s : Setting) (past : History) (e : Entry) (t : ℕ) → IsRun s past → IsLegal s past e
    → is_edt past t ≡ true → identity_of (e ∷ past) t ≡ identity_of past t

-- its output event, 0 where it has none
abbrev pub output_of : History → ℕ → ℕ
output_of past t = (identity_of past t).output

-- an EDT is through where it has ended, and a finish EDT where its scope has no member
abbrev pub is_through : Setting → History → ℕ → Bool
is_through s past t =
    if (identity_of past t).finish then
    members_on ((parts_of s past).face (identity_of past t).scope) == 0
    else is_ended past t

-- the entry by which it comes to be so: its End, and for a finish EDT that the last member leaves
-- its scope
abbrev pub is_last_leave : Setting → History → ℕ → What → Bool
is_last_leave s past x w = is_leave_of x w && (members_on ((parts_of s past).face x) == 1)

abbrev pub is_moment_of : Setting → History → ℕ → Entry → Bool
is_moment_of s past t (End u g) = not (identity_of past t).finish && (u == t)
is_moment_of s past t (Deliver m c) =
    (identity_of past t).finish && is_last_leave s past (identity_of past t).scope m.what
is_moment_of s past t other = false

-- what the event gets then: the block that the EDT returned, and NULL_GUID where it returned none
-- and from a scope
abbrev pub payload_by : Setting → History → Entry → ℕ
payload_by s past (End u g) = payload_of_end ((parts_of s past).face g) g
payload_by s past other = 0

-- THE MOMENT: by that entry an end satisfies the EDT's output event, and by no other
abbrev pub MomentLaw : Type 0
MomentLaw = (s : Setting) (past : History) (e : Entry) (t : ℕ) → IsRun s past → IsLegal s past e
    → is_edt past t ≡ true → (output_of past t == 0) ≡ false
    → signals_by s past e (output_of past t)
    ≡ (if is_moment_of s past t e then
    what.Satisfy (output_of past t) 0 (payload_by s past e) ∷ [] else [])

-- ONCE: its output event, where it has one, is satisfied by an end once it is through, and not
-- before
abbrev pub OnceLaw : Type 0
OnceLaw = (s : Setting) (past : History) (t : ℕ) → IsRun s past → is_edt past t ≡ true
    → (output_of past t == 0) ≡ false
    → signals s past (output_of past t) ≡ (if is_through s past t then 1 else 0)

-- no two EDTs have the same output event
abbrev pub OwnLaw : Type 0
OwnLaw = (s : Setting) (past : History) (t u : ℕ) → IsRun s past → is_edt past t ≡ true
    → is_edt past u ≡ true → (output_of past t == 0) ≡ false
    → output_of past t ≡ output_of past u → t ≡ u

-- and an end satisfies no event that is no EDT's output event
abbrev pub OtherLaw : Type 0
OtherLaw = (s : Setting) (past : History) (o : ℕ) → IsRun s past
    → ((t : ℕ) → is_edt past t ≡ true → names_new (output_of past t) o ≡ false)
    → signals s past o ≡ 0

-- the End of a finish EDT satisfies nothing
abbrev pub EndLaw : Type 0
EndLaw = (s : Setting) (past : History) (t g o : ℕ)
    → (identity_on ((parts_of s past).core t)).finish ≡ true
    → signals_by s past (End t g) o ≡ []

-- and an EDT that is through has ended
abbrev pub EndedLaw : Type 0
EndedLaw = (s : Setting) (past : History) (t : ℕ) → IsRun s past → is_edt past t ≡ true
    → is_through s past t ≡ true → is_ended past t ≡ true
