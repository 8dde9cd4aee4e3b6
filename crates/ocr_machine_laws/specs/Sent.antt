-- What is sent: each message that is to be delivered is sound.
use Rattle.std.specs.Prelude.{◌≡◌, ◌⊎◌, ℕ, true}
use Rattle.std.specs.List.{Contains}
use Rattle.ocr_machine_history.specs.declared.entry.What.{What}
use Rattle.ocr_machine_history.specs.declared.entry.What.TheVariants as what
use Rattle.ocr_machine_history.specs.History.{History, Setting}
use Rattle.ocr_machine_parts.specs.declared.part.Part.{Part}
use Rattle.ocr_machine_parts.specs.Kinds.{is_block, is_scope}
use Rattle.ocr_machine_parts.specs.Parts.{parts_of}
use Rattle.ocr_machine_parts.specs.Messages.{pending}
use Rattle.ocr_machine_parts.specs.LegalOn.{IsSatisfiable}
use Rattle.ocr_machine_parts.specs.Legal.{IsRun}

-- NULL_GUID or a block that was made
abbrev pub IsSoundPayload : (ℕ → Part) → ℕ → Type 0
IsSoundPayload face p = (p ≡ 0) ⊎ (is_block (face p) ≡ true)

-- a message carries such a payload, and satisfies a slot of an event that was made; or a member
-- leaves a finish scope that was made
abbrev pub IsSoundMessage : (ℕ → Part) → What → Type 0
IsSoundMessage face (what.Set x i p) = IsSoundPayload face p
IsSoundMessage face (what.Satisfy e slot p) = IsSoundPayload face p × IsSatisfiable slot (face e)
IsSoundMessage face (what.Leave x) = is_scope (face x) ≡ true

abbrev pub SentLaw : Type 0
SentLaw = (s : Setting) (past : History) → IsRun s past → (m : ℕ × ℕ × What)
    → Contains (pending s past) m → IsSoundMessage (parts_of s past).face m.2
