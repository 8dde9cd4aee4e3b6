-- What the steps of parts rest on.
use Rattle.std.proofs.Common.{◌≡◌, ℕ, List, [], ◌∷◌, Bool, true, false, Option, Some, None, ◌==◌, not, if◌then◌else◌, refl, sym, ◌∙◌, ap, is_some, ◌<◌, ◌≤◌, ◌+◌, arith}
use Rattle.std.proofs.lemmas.Grind.{common_steps}
use Rattle.ocr_acquire.specs.declared.Mode.{Mode}
use Rattle.ocr_acquire.specs.declared.Mode.TheVariants as mode
use Rattle.ocr_datablock.specs.Block as block
use Rattle.ocr_edt.specs.declared.Edt.{Edt}
use Rattle.ocr_edt.specs.declared.Edt.TheVariants as phase
use Rattle.ocr_edt.specs.Phases.{Progress}
use Rattle.ocr_edt.specs.Steps.{after_acquired}
use Rattle.ocr_guid.specs.declared.Code.TheVariants as code
use Rattle.ocr_slots.specs.Slots as slot
use Rattle.ocr_slots.specs.Steps.{after_link, on_link}
use Rattle.ocr_slots.proofs.Laws.{link_law, answer_law}
use Rattle.ocr_machine_parts.specs.declared.part.Part.{Part}
use Rattle.ocr_machine_parts.specs.declared.part.Part.TheVariants as part
use Rattle.ocr_machine_parts.specs.Calls.{is_given, with_dep}
use Rattle.ocr_machine_parts.specs.Effects.{awoken, acquired_edt, stale_edt}
use Rattle.ocr_machine_parts.specs.Kinds.{IsBlock, is_destroyed, progress_in, loan_on}
use Rattle.ocr_machine_parts.specs.LegalOn.{IsEnding, IsDooming}
use Rattle.ocr_machine_parts.specs.Parts.{Parts}
use Rattle.ocr_machine_parts.proofs.Local.{block_weaker}
use Rattle.ocr_machine_effects.specs.AtHand.{IsReturning, IsDoomable}
use Rattle.ocr_base.proofs.Booleans.{same}

pub awake_acquires : (e : Edt) (s : Progress) → progress_in e ≡ Some s → acquired_edt (awoken e) ≡ phase.Acquiring (after_acquired s false)
awake_acquires (phase.Acquiring p) s is = cc
awake_acquires (phase.Waiting p) s is = cc
awake_acquires other s is = cc

pub awake_passes : (e : Edt) (s : Progress) → progress_in e ≡ Some s → stale_edt (awoken e) ≡ phase.Acquiring (after_acquired s true)
awake_passes (phase.Acquiring p) s is = cc
awake_passes (phase.Waiting p) s is = cc
awake_passes other s is = cc

pub ending_returns : (f : Parts) (t d : ℕ) → IsEnding f t d → IsBlock (f.face d) (IsReturning t (loan_on (f.core t) d))
ending_returns f t d h = block_weaker (f.face d) _ (IsReturning t (loan_on (f.core t) d)) (λ st held. record { holder = held.holder; loan_back = held.loan_back }) h

-- a block that is destroyed
live_block : (x : Part) (P Q : block.State → Type 0) → ((st : block.State) → P st → st.destroyed ≡ false → Q st) → is_destroyed x ≡ false → IsBlock x P → IsBlock x Q
live_block (part.Block st) P Q f live h = f st h live
live_block other P Q f live h = absurd h

pub dooming_lets : (f : Parts) (t d : ℕ) → is_destroyed (f.face d) ≡ false → IsDooming f t d → IsBlock (f.face d) (IsDoomable t (loan_on (f.core t) d))
dooming_lets f t d live h = live_block (f.face d) _ (IsDoomable t (loan_on (f.core t) d)) (λ st agreed is. record { live = is; loan_back = agreed.loan_back }) live h

-- a mode that was not found
pub none_of : (o p : Option Mode) (b : Bool) → p ≡ o → is_some p ≡ not b → b ≡ true → o ≡ None
none_of None p b same is on = refl
none_of (Some m) p b same is on = let wrong : true ≡ false = sym (ap (λ (q : Option Mode). is_some q) same) ∙ is ∙ ap not on in cc wrong

-- a slot that a dependence is given for
pub linked_one : (n : ℕ) (calls : List slot.SlotCall) (k d : ℕ) → k < n → slot.mode_of calls k ≡ None
    → (if is_given d then after_link (slot.state_of n calls) k mode.Rw else slot.state_of n calls) ≡ slot.state_of n (with_dep k d calls)
linked_one n calls k d below none = elim (is_given d) as (λ b. (if b then after_link (slot.state_of n calls) k mode.Rw else slot.state_of n calls) ≡ slot.state_of n (if b then slot.Linking k mode.Rw ∷ calls else calls)) [
  | true ↦
      let free : slot.is_linked calls k ≡ false = ap (λ (o : Option Mode). is_some o) none in
      let fits : on_link (slot.state_of n calls) k ≡ code.Done = answer_law n calls k ∙ grind (arith, common_steps) in
      sym (link_law n calls k mode.Rw fits)
  | false ↦ refl
]

pub unlinked_above : (calls : List slot.SlotCall) (k d : ℕ) → ((j : ℕ) → k ≤ j → slot.mode_of calls j ≡ None) → (j : ℕ) → k + 1 ≤ j → slot.mode_of (with_dep k d calls) j ≡ None
unlinked_above calls k d none j above =
    let apart : (k == j) ≡ false = grind (arith, common_steps) in
    let later : slot.mode_of calls j ≡ None = none j (omega (arith, above)) in
    elim (is_given d) as (λ b. slot.mode_of (if b then slot.Linking k mode.Rw ∷ calls else calls) j ≡ None) [
      | true ↦ rw apart later
      | false ↦ later
    ]
