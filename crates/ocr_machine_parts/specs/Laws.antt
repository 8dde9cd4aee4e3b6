-- The laws of runs, and of the machine's parts.
use Rattle.std.specs.Prelude.{◌≡◌, ◌≤◌, ◌↔◌, ℕ, List, [], ◌∷◌, length, Bool, true, false, Option, Some, None, is_some}
use Rattle.ocr_acquire.specs.declared.Mode.{Mode}
use Rattle.ocr_acquire.specs.declared.Mode.TheVariants as mode
use Rattle.ocr_acquire.specs.Mode.{mode_in, is_exclusive}
use Rattle.ocr_datablock.specs.Block as block
use Rattle.ocr_datablock.specs.Steps.{AreAllowed}
use Rattle.ocr_datablock.specs.Lent.{loan_of}
use Rattle.ocr_event_any.specs.declared.TheConstants.{ONCE}
use Rattle.ocr_event_any.specs.AnyEvent.{takes_arg}
use Rattle.ocr_body_meaning.specs.Holds.{is_done, after_call}
use Rattle.ocr_body_meaning.specs.declared.call.Call as body
use Rattle.ocr_body_meaning.specs.declared.call.Answer.{Answer}
use Rattle.ocr_machine_history.specs.declared.entry.Entry.{Entry}
use Rattle.ocr_machine_history.specs.declared.entry.Entry.TheVariants.{Call}
use Rattle.ocr_machine_history.specs.declared.objects.TheConstants.{OUTPUT_KIND, OUTPUT_FLAGS}
use Rattle.ocr_machine_history.specs.Edts.{StartsOnce}
use Rattle.ocr_machine_history.specs.History.{History, Setting}
use Rattle.ocr_machine_history.specs.Made.{made, is_edt_made, size_in, creator_in}
use Rattle.ocr_machine_parts.specs.declared.loans.Kept.{Kept}
use Rattle.ocr_machine_parts.specs.declared.part.Part.{Part}
use Rattle.ocr_machine_parts.specs.Loans.{kept_in}
use Rattle.ocr_machine_parts.specs.Calls.{next_member, block_calls, contents_of, loans_of}
use Rattle.ocr_machine_parts.specs.Parts.{Parts, parts_of}
use Rattle.ocr_machine_parts.specs.Kinds.{counted_on}
use Rattle.ocr_machine_parts.specs.Codes.{code_of}
use Rattle.ocr_machine_parts.specs.Effects.{changed, settled_parts}
use Rattle.ocr_machine_parts.specs.Progress.{readied_on}
use Rattle.ocr_machine_parts.specs.LegalOn.{IsLegalOn, IsCallOn}
use Rattle.ocr_machine_parts.specs.Bodies.{holds_on}
use Rattle.ocr_machine_parts.specs.Messages.{sends, resumes}
use Rattle.ocr_machine_parts.specs.Footprint.{on_face, on_core_of, IsAlike}
use Rattle.ocr_machine_parts.specs.Taken.{IsWithin}
use Rattle.ocr_machine_parts.specs.Legal.{IsRun, IsLegal}
use Rattle.ocr_machine_parts.specs.Runs.{StartsSet}

-- RUNS.
abbrev pub StartLaw : Type 0
StartLaw = (s : Setting) (past : History) → IsRun s past → StartsOnce past

abbrev pub SetLaw : Type 0
SetLaw = (s : Setting) (past : History) → IsRun s past → StartsSet s past

-- THE EQUATION OF PARTS: after a legal entry the parts are what the entry makes of the parts before
-- it, an EDT that goes on being made ready first
abbrev pub AfterLaw : Type 0
AfterLaw = (s : Setting) (past : History) (e : Entry) → IsRun s past → IsLegal s past e
    → parts_of s (e ∷ past) ≡ changed e (readied_on s past e (parts_of s past))

-- LOCALITY: what a call's code, an entry's legality, its effect, its messages and the resumed rest
-- on is what it names
abbrev pub EffectLaw : Type 0
EffectLaw = (e : Entry) (f h : Parts) → IsAlike e f h
    → IsAlike e (changed e f) (changed e h) × (sends e f ≡ sends e h) × (resumes e f ≡ resumes e h)

abbrev pub CodeLaw : Type 0
CodeLaw = (t home : ℕ) (c : body.Call) (a : Answer) (w : List (ℕ × ℕ)) (f h : ℕ → Part)
    → ((g : ℕ) → on_face (Call t home c a w) g ≡ true → f g ≡ h g)
    → code_of t f c ≡ code_of t h c

abbrev pub LegalityLaw : Type 0
LegalityLaw = (limit : ℕ) (e : Entry) (f h : Parts) → IsAlike e f h → IsLegalOn limit f e
    → IsLegalOn limit h e

-- FRAME: all other parts are as they were
pub record IsFramed (e : Entry) (f : Parts) : Type 0 where
  pub faces : (g : ℕ) → on_face e g ≡ false → (changed e f).face g ≡ f.face g
  pub cores : (u : ℕ) → on_core_of e u ≡ false → (changed e f).core u ≡ f.core u

abbrev pub FrameLaw : Type 0
FrameLaw = (e : Entry) (f : Parts) → IsFramed e f

-- past the limit there is no object
abbrev pub WithinLaw : Type 0
WithinLaw =
    (s : Setting) (past : History) → 2 ≤ s.limit → IsRun s past → IsWithin s.limit (parts_of s past)

-- A REFUSED CALL changes nothing, and sends nothing
abbrev pub RefusedLaw : Type 0
RefusedLaw = (t home : ℕ) (c : body.Call) (a : Answer) (w : List (ℕ × ℕ)) (f : Parts)
    → is_done a.code ≡ false
    → (changed (Call t home c a w) f ≡ f) × (sends (Call t home c a w) f ≡ [])

-- SETTLED: what an entry does, and whether it is legal, is the same whatever was stored in the
-- loans
abbrev pub SettledLaw : Type 0
SettledLaw = (e : Entry) (f : Parts)
    → settled_parts (changed e f) ≡ changed e (settled_parts f)

abbrev pub SettledLegalLaw : Type 0
SettledLegalLaw = (limit : ℕ) (e : Entry) (f : Parts)
    → IsLegalOn limit f e ↔ IsLegalOn limit (settled_parts f) e

-- HOLDS. What an EDT holds after its call is what its body knows of it
abbrev pub HoldsLaw : Type 0
HoldsLaw = (limit : ℕ) (f : Parts) (t home : ℕ) (c : body.Call) (a : Answer) (w : List (ℕ × ℕ))
    → IsCallOn limit f t home c a w
    → (d : ℕ) → holds_on (changed (Call t home c a w) f) t d ≡ after_call c a (holds_on f t) d

-- BLOCKS. Who has a block's words on loan is an EDT that keeps them, and the block's length, and
-- until they come back they are the block's contents
abbrev pub kept_lent : Setting → History → ℕ → Kept
kept_lent s past d = record {
  size = size_in (made s past d);
  loan = Some (loan_of mode.Ew (contents_of s past d) []);
}

abbrev pub borrower : Setting → History → ℕ → Option ℕ
borrower s past d = block.borrower_of (block_calls s past d)

abbrev pub IsLentTo : Setting → History → ℕ → ℕ → Type 0
IsLentTo s past d t =
    (kept_in d (loans_of s past t) ≡ Some (kept_lent s past d))
    × (is_edt_made (made s past t) ≡ true)

abbrev pub LentLaw : Type 0
LentLaw = (s : Setting) (past : History) → IsRun s past → (d t : ℕ)
    → borrower s past d ≡ Some t → IsLentTo s past d t

-- what a run does to a block is what the block allows
abbrev pub AllowedLaw : Type 0
AllowedLaw = (s : Setting) (past : History) → IsRun s past → (d : ℕ)
    → AreAllowed (size_in (made s past d)) (creator_in (made s past d)) (block_calls s past d)

-- a block's holders, and whether it can be granted
abbrev pub block_holders : Setting → History → ℕ → List (ℕ × Mode)
block_holders s past d = block.holders_of (creator_in (made s past d)) (block_calls s past d)

abbrev pub is_free_for : Setting → History → ℕ → Mode → Bool
is_free_for s past d m =
    block.can_grant (block.is_destroyed (block_calls s past d))
    (block.line_of (creator_in (made s past d)) (block_calls s past d)) m

-- its words are there where somebody holds it in another mode than EW, and where it can be granted
pub record IsFree (s : Setting) (past : History) (d : ℕ) : Type 0 where
  pub shared : (t : ℕ) (m : Mode) → mode_in t (block_holders s past d) ≡ Some m
      → is_exclusive m ≡ false → borrower s past d ≡ None
  pub grantable : (m : Mode) → is_free_for s past d m ≡ true → borrower s past d ≡ None

abbrev pub FreeLaw : Type 0
FreeLaw = (s : Setting) (past : History) → IsRun s past → (d : ℕ) → IsFree s past d

-- and where an EDT holds a block that it has not acquired, as one that was granted while it waited
abbrev pub AwaitedLaw : Type 0
AwaitedLaw = (s : Setting) (past : History) → IsRun s past → (t d : ℕ) (m : Mode)
    → next_member s past t ≡ Some (d, m) → is_some (mode_in t (block_holders s past d)) ≡ true
    → borrower s past d ≡ None

-- EVENTS. A latch was satisfied at most once by each entry
abbrev pub CountedLaw : Type 0
CountedLaw =
    (s : Setting) (past : History) (g : ℕ) → counted_on ((parts_of s past).face g) ≤ length past

-- an output event is a ONCE event that takes an argument
abbrev pub OutputLaw : Type 0
OutputLaw = (OUTPUT_KIND ≡ ONCE) × (takes_arg OUTPUT_FLAGS ≡ true)
