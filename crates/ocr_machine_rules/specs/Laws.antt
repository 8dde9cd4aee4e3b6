-- The rules are what the parts of the machine's state tell of a run: where each tells of the same
-- thing, they agree.
use Rattle.std.specs.Prelude.{◌≡◌, ◌≤◌, ◌↔◌, ◌⊎◌, ℕ, true, false}
use Rattle.ocr_datablock.specs.Block as block
pub use Rattle.ocr_finish.specs.declared.TheConstants.{MOST_MEMBERS}
use Rattle.ocr_body_meaning.specs.declared.call.Call as body
use Rattle.ocr_body_meaning.specs.declared.call.Call.TheVariants as call
use Rattle.ocr_machine_history.specs.declared.entry.Entry.{Entry}
use Rattle.ocr_machine_history.specs.Edts.{IsRunning}
use Rattle.ocr_machine_history.specs.History.{History, Setting, is_stopped}
use Rattle.ocr_machine_history.specs.Made.{made}
use Rattle.ocr_machine_parts.specs.Bodies as part_bodies
use Rattle.ocr_machine_parts.specs.Calls as calls
use Rattle.ocr_machine_parts.specs.Codes as codes
use Rattle.ocr_machine_parts.specs.Kinds as kinds
use Rattle.ocr_machine_parts.specs.Legal as legal
use Rattle.ocr_machine_parts.specs.Messages as messages
use Rattle.ocr_machine_parts.specs.Parts.{parts_of}
use Rattle.ocr_machine_parts.specs.Runs as runs
use Rattle.ocr_machine_laws.specs.Memory as memory
use Rattle.ocr_machine_laws.specs.Plain as plain
use Rattle.ocr_machine_rules.specs.Blocks as blocks
use Rattle.ocr_machine_rules.specs.Bodies as bodies
use Rattle.ocr_machine_rules.specs.Codes.{is_block, code_of}
use Rattle.ocr_machine_rules.specs.Events.{is_destroyed}
use Rattle.ocr_machine_rules.specs.Messages.{pending}
use Rattle.ocr_machine_rules.specs.Rules as rules

-- EDTS: the plan, the block that is next in it, and the holds
abbrev pub PlanLaw : Type 0
PlanLaw = (s : Setting) (past : History) (t : ℕ) → blocks.plan_of s past t ≡ calls.plan_of s past t

abbrev pub NextLaw : Type 0
NextLaw = (s : Setting) (past : History) (t : ℕ) → legal.IsRun s past
    → blocks.next_of s past t ≡ plain.next_planned s past t

abbrev pub HeldLaw : Type 0
HeldLaw = (s : Setting) (past : History) (t d : ℕ) → legal.IsRun s past
    → blocks.held s past t d ≡ memory.hold_of s past t d

-- BLOCKS: the words, who stands there, and whether it is destroyed
abbrev pub ContentsLaw : Type 0
ContentsLaw = (s : Setting) (past : History) (d : ℕ) → legal.IsRun s past
    → is_block (made s past d) ≡ true → blocks.contents_of s past d ≡ calls.contents_of s past d

abbrev pub LineLaw : Type 0
LineLaw = (s : Setting) (past : History) (d : ℕ) → legal.IsRun s past
    → kinds.IsBlock ((parts_of s past).face d) (λ st. block.line st ≡ blocks.line_of s past d)
    ⊎ (is_block (made s past d) ≡ false)

abbrev pub DestroyedLaw : Type 0
DestroyedLaw = (s : Setting) (past : History) (g : ℕ) → legal.IsRun s past
    → is_destroyed s past g ≡ kinds.is_destroyed ((parts_of s past).face g)

-- CODES of a running EDT, by any call that is an entry
abbrev pub IsEntered : body.Call → Type 0
IsEntered call.Shutdown = ⊥
IsEntered (call.Abort number) = ⊥
IsEntered other = Unit {0}

abbrev pub CodeLaw : Type 0
CodeLaw = (s : Setting) (past : History) (t : ℕ) (c : body.Call) → legal.IsRun s past
    → IsRunning past t → IsEntered c → code_of s past t c ≡ codes.code_of t (parts_of s past).face c

-- MESSAGES and BODIES
abbrev pub PendingLaw : Type 0
PendingLaw = (s : Setting) (past : History) → legal.IsRun s past
    → pending s past ≡ messages.pending s past

abbrev pub SaysLaw : Type 0
SaysLaw = (s : Setting) (past : History) (t : ℕ) → legal.IsRun s past
    → bodies.says_next s past t ≡ part_bodies.says_next s past t

-- ENTRIES, runs and their quiet end
abbrev pub LegalLaw : Type 0
LegalLaw = (s : Setting) (past : History) (e : Entry) → s.limit ≤ MOST_MEMBERS
    → legal.IsRun s past → legal.IsLegal s past e ↔ rules.IsLegal s past e

abbrev pub RunLaw : Type 0
RunLaw = (s : Setting) (past : History) → s.limit ≤ MOST_MEMBERS
    → legal.IsRun s past ↔ rules.IsRun s past

abbrev pub QuietLaw : Type 0
QuietLaw = (s : Setting) (past : History) → s.limit ≤ MOST_MEMBERS → legal.IsRun s past
    → runs.IsQuiet s past ↔ rules.IsQuiet s past

-- and why a limit stops a run
abbrev pub CreatingLaw : Type 0
CreatingLaw = (s : Setting) (past : History) (t : ℕ) (c : body.Call) → legal.IsRun s past
    → legal.IsCreating s past t c ↔ rules.IsCreating s past t c

abbrev pub WeighedLaw : Type 0
WeighedLaw = (s : Setting) (past : History) (e : Entry) (weight : ℕ) → s.limit ≤ MOST_MEMBERS
    → legal.IsRun s past → is_stopped past ≡ false
    → legal.IsWeighed s past e weight ↔ rules.IsWeighed s past e weight
