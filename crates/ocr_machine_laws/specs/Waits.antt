-- Who holds a block and who waits for it, told by the parts alone.
use Rattle.std.specs.Prelude.{◌≡◌, ◌⊎◌, ℕ, List, [], ◌∷◌, ◌++◌, Bool, true, false, Option, Some, None, is_some}
use Rattle.std.specs.List.{All}
use Rattle.ocr_acquire.specs.declared.Mode.{Mode}
use Rattle.ocr_acquire.specs.Mode.{is_null, mode_in}
use Rattle.ocr_acquire.specs.Plan.{RisesFrom}
use Rattle.ocr_datablock.specs.Block as block
use Rattle.ocr_datablock.specs.Steps as block_steps
use Rattle.ocr_edt.specs.declared.Edt.{Edt}
use Rattle.ocr_edt.specs.declared.Edt.TheVariants as phase
use Rattle.ocr_edt.specs.Phases.{next_of}
use Rattle.ocr_machine_parts.specs.declared.part.Part.{Part}
use Rattle.ocr_machine_parts.specs.declared.part.Part.TheVariants as part
use Rattle.ocr_machine_parts.specs.Parts.{Parts}
use Rattle.ocr_machine_parts.specs.Kinds.{is_block}

-- BLOCKS. The holders of a block, and behind them who waits for it
abbrev pub stands : block.Line → List (ℕ × Mode)
stands line = line.holders ++ line.queue

abbrev pub standing : Part → List (ℕ × Mode)
standing (part.Block st) = stands (block.line st)
standing other = []

abbrev pub is_gone_on : Part → Bool
is_gone_on (part.Block st) = block.is_gone st
is_gone_on other = false

-- who holds the block, and who waits for it, in their order
abbrev pub holders_on : Part → List (ℕ × Mode)
holders_on (part.Block st) = st.holders
holders_on other = []

abbrev pub queue_on : Part → List (ℕ × Mode)
queue_on (part.Block st) = st.queue
queue_on other = []

-- EDTS. What an EDT has, what it wants still, and what it waits for
abbrev pub held_in : Edt → List (ℕ × Mode)
held_in (phase.Acquiring s) = s.holds
held_in (phase.Waiting s) = s.holds
held_in (phase.Running s) = s.holds
held_in other = []

abbrev pub rest_in : Edt → List (ℕ × Mode)
rest_in (phase.Acquiring s) = s.rest
rest_in (phase.Waiting s) = s.rest
rest_in other = []

abbrev pub awaits_in : Edt → Option (ℕ × Mode)
awaits_in (phase.Waiting s) = next_of s
awaits_in other = None

abbrev pub held_on : Part → List (ℕ × Mode)
held_on (part.Core c) = held_in c.edt
held_on other = []

abbrev pub rest_on : Part → List (ℕ × Mode)
rest_on (part.Core c) = rest_in c.edt
rest_on other = []

abbrev pub awaits : Part → Option (ℕ × Mode)
awaits (part.Core c) = awaits_in c.edt
awaits other = None

-- it has the block in this mode, or was granted it while it waits
abbrev pub IsHolding : Part → ℕ → Mode → Type 0
IsHolding x d m = (mode_in d (held_on x) ≡ Some m) ⊎ (awaits x ≡ Some (d, m))

-- what is wanted rises, above all that is held
pub record IsOrdered (held rest : List (ℕ × Mode)) : Type 0 where
  pub rising : RisesFrom 0 rest
  pub used : All (λ member. is_null member.1 ≡ false) rest
  pub above : (b : ℕ) → is_some (mode_in b held) ≡ true → RisesFrom b rest

-- WHO STANDS WHERE. Who waits for a block that is not gone stands there in the mode of its plan;
-- who stands at a block has it or waits for it; who stands in a queue waits; and each EDT acquires
-- in rising order.
pub record AreStanding (f : Parts) : Type 0 where
  pub waits : (t d : ℕ) (m : Mode) → awaits (f.core t) ≡ Some (d, m)
      → is_gone_on (f.face d) ≡ false → mode_in t (standing (f.face d)) ≡ Some m
  pub holds : (t d : ℕ) (m : Mode) → mode_in t (standing (f.face d)) ≡ Some m
      → IsHolding (f.core t) d m
  pub queued : (t d : ℕ) (m : Mode) → mode_in t (queue_on (f.face d)) ≡ Some m
      → awaits (f.core t) ≡ Some (d, m)
  pub ordered : (t : ℕ) → IsOrdered (held_on (f.core t)) (rest_on (f.core t))

-- nobody stands twice at a block
abbrev pub IsOnce : Parts → Type 0
IsOnce f = (d : ℕ) → block_steps.StandOnce (standing (f.face d))

-- each block that is wanted is there
abbrev pub AreBlocks : (ℕ → Part) → List (ℕ × Mode) → Type 0
AreBlocks f [] = Unit {0}
AreBlocks f (one ∷ rest) = (is_block (f one.0) ≡ true) × AreBlocks f rest
