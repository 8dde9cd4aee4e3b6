-- An EDT may go on, by what a clerk keeps of it and of the block that it acquires next.
use Rattle.std.proofs.Common.{◌≡◌, ⊎_elim, ℕ, ◌+◌, ◌-◌, ◌≤◌, ◌==◌, ◌||◌, ◌&&◌, Bool, true, false, if◌then◌else◌, List, length, reverse, Some, refl, ap, sym, ◌∙◌, subst, arith}
use Rattle.std.specs.Prelude.{slice_index_or}
use Rattle.std.proofs.lemmas.Bool.{eqb-true, or_cases}
use Rattle.std.proofs.lemmas.Grind.{common_steps}
use mathlib.Core.Option.{some}
use lib.ListN.{get_elem?}
use Rattle.ocr_base.proofs.Booleans.{same as number_same}
use Rattle.ocr_acquire.specs.declared.Mode.{Mode}
use Rattle.ocr_body_code.specs.Checked.{checked_tree}
use Rattle.ocr_program_tree.specs.Runnable.{IsRunnable}
use Rattle.ocr_datablock.specs.Block as block
use Rattle.ocr_slots.specs.declared.Slot.{Slot}
use Rattle.ocr_machine_history.specs.declared.entry.Entry.{Entry}
use Rattle.ocr_machine_history.specs.declared.entry.Entry.TheVariants.{Acquire, StaleAcquire, Wait}
use Rattle.ocr_machine_parts.specs.declared.part.Core.{Core}
use Rattle.ocr_machine_parts.specs.declared.part.Part.{Part}
use Rattle.ocr_machine_parts.specs.declared.part.Part.TheVariants as part
use Rattle.ocr_machine_parts.specs.Calls.{mode_next}
use Rattle.ocr_machine_parts.specs.Progress.{next_on, ready_at}
use Rattle.ocr_machine_parts.specs.Footprint.{Covers, on_core_of, on_face}
use Rattle.ocr_machine_parts.specs.Kinds.{IsBlock, core_progress, is_acquiring, is_acquiring_edt, next_in, progress_in}
use Rattle.ocr_machine_parts.specs.LegalOn.{IsRefused, IsTaken}
use Rattle.ocr_machine_parts.specs.Parts.{Parts}
use Rattle.ocr_machine_parts.specs.Taken.{has, is_within, look, parts_in}
use Rattle.ocr_machine_laws.specs.Kept.{IsFilled}
use Rattle.ocr_machine_parts.specs.Readiness.{plan_from, ready_with}
use Rattle.ocr_machine_laws.proofs.Filled.{filled_law}
use Rattle.ocr_worker_machine.specs.Clerks.{AreAtHand, MayEnter, OcrTerms, OcrView, of_terms}
use Rattle.ocr_worker_machine.specs.Ocr.{meaning, stands}
use Rattle.ocr_worker_machine.specs.declared.fact.Fact.TheVariants.{IsSet}
use Rattle.ocr_turns_rule.specs.Rule.{Fits}
use Rattle.ocr_worker_clerk.specs.Work.{KnowsPayloads}
use Rattle.ocr_worker_clerk.proofs.Seen.{face_is}
use Rattle.ocr_worker_machine.proofs.Owed.{no_facts}

-- THE SLOTS are set, whatever the history is, and this is the plan
pub filled_known : (t : OcrTerms) (v : OcrView) (edt k : ℕ) (slots : List Slot) (payloads : List ℕ) → is_within t.limit edt ≡ true → get_elem? v.parts k ≡ some (edt, part.Edt slots) → length payloads ≡ length slots → KnowsPayloads v edt payloads
    → (J : List Entry) → Fits meaning t J v → IsFilled (of_terms t) (reverse J) edt slots payloads
unfolding stands
filled_known t v edt k slots payloads within kept count knows J fits =
    filled_law (of_terms t) (reverse J) edt slots payloads (face_is t J v k edt (part.Edt slots) fits within kept) count
    (λ i lt. let at = knows i lt in (fits.facts at.0 (IsSet edt i (slice_index_or payloads i 0)) at.1).payload)

back_place : (limit n u : ℕ) → is_within limit (n - limit) ≡ true → u ≡ n - limit → n ≡ limit + u
back_place limit n u on is = let low : 1 ≤ n - limit = grind (arith, on, common_steps) in omega (arith, low, is)

module _ (t : OcrTerms) (v : OcrView) (edt d k : ℕ) (slots : List Slot) (payloads : List ℕ) (core : Core) (st : block.State) (m : Mode) (hand : List (ℕ × Part))
    (runnable : IsRunnable (checked_tree t.setting.value.program)) (within : is_within t.limit edt ≡ true) (inside : is_within t.limit d ≡ true)
    (at_hand : AreAtHand t.limit hand v.parts) (has_core : has hand (t.limit + edt) ≡ true) (has_face : has hand edt ≡ true) (has_block : has hand d ≡ true)
    (core_at : look hand (t.limit + edt) ≡ part.Core core) (block_at : look hand d ≡ part.Block st) (face_at : get_elem? v.parts k ≡ some (edt, part.Edt slots))
    (count : length payloads ≡ length slots) (knows : KnowsPayloads v edt payloads) (next : next_in (progress_in (ready_with slots payloads core).edt) ≡ Some (d, m)) where
  abbrev members : List (ℕ × Mode)
  members = plan_from slots payloads

  abbrev f : Parts
  f = ready_at edt members (parts_in t.limit hand)

  core_now : f.core edt ≡ part.Core (ready_with slots payloads core)
  core_now = rw (number_same edt, within, core_at) refl

  block_now : f.face d ≡ part.Block st
  block_now = rw (inside, block_at) refl

  next_now : next_on f edt ≡ Some (d, m)
  next_now = ap (λ (x : Part). next_in (core_progress x)) core_now ∙ next

  mode_now : mode_next (next_on f edt) ≡ m
  mode_now = ap mode_next next_now

  next_is : next_on f edt ≡ Some (d, mode_next (next_on f edt))
  next_is = next_now ∙ ap (λ (q : Mode). Some (d, q)) (sym mode_now)

  on_block : (P : Mode → block.State → Type 0) → P m st → IsBlock (f.face d) (P (mode_next (next_on f edt)))
  on_block P is = subst (λ (q : Mode). IsBlock (f.face d) (P q)) (sym mode_now) (subst (λ (x : Part). IsBlock x (P m)) (sym block_now) is)

  covered : (e : Entry) → ((g : ℕ) → on_face e g ≡ ((edt == g) || (d == g))) → ((u : ℕ) → on_core_of e u ≡ (edt == u)) → Covers t.limit e hand
  covered e faces cores n on = elim (is_within t.limit n) as (λ b. is_within t.limit n ≡ b → (if b then on_face e n else (is_within t.limit (n - t.limit) && on_core_of e (n - t.limit))) ≡ true → has hand n ≡ true) [
    | true ↦ λ _ named. ⊎_elim
        (λ is. subst (λ (q : ℕ). has hand q ≡ true) (eqb-true edt n is) has_face)
        (λ is. subst (λ (q : ℕ). has hand q ≡ true) (eqb-true d n is) has_block)
        (or_cases (edt == n) (d == n) (sym (faces n) ∙ named))
    | false ↦ λ _ named.
        let r = both (is_within t.limit (n - t.limit)) (on_core_of e (n - t.limit)) named in
        let same : edt ≡ n - t.limit = eqb-true edt (n - t.limit) (sym (cores (n - t.limit)) ∙ r.1) in
        subst (λ (q : ℕ). has hand q ≡ true) (sym (back_place t.limit n edt r.0 same)) has_core
  ] refl on
    where
      both : (a b : Bool) → (a && b) ≡ true → (a ≡ true) × (b ≡ true)
      both true b is = (refl, is)
      both false b is = cc is

  filled : (J : List Entry) → Fits meaning t J v → IsFilled (of_terms t) (reverse J) edt slots payloads
  filled = filled_known t v edt k slots payloads within face_at count knows

  pub acquire_may : IsTaken edt m st → MayEnter t v (Acquire edt d) members hand
  acquire_may taken = record {
    runnable = runnable;
    at_hand = at_hand;
    covers = covered (Acquire edt d) (λ g. refl) (λ u. refl);
    on_hand = record { next = next_is; taken = on_block (IsTaken edt) taken };
    plans = λ J open_run fits _. (filled J fits).planned;
    set = λ J open_run fits. (filled J fits).all_set;
    says = λ J open_run fits. tt;
    told = λ J open_run fits _. no_facts _;
  }

  pub pass_may : block.is_gone st ≡ true → MayEnter t v (StaleAcquire edt d) members hand
  pass_may gone = record {
    runnable = runnable;
    at_hand = at_hand;
    covers = covered (StaleAcquire edt d) (λ g. refl) (λ u. refl);
    on_hand = record { next = next_is; gone = on_block (λ q x. block.is_gone x ≡ true) gone };
    plans = λ J open_run fits _. (filled J fits).planned;
    set = λ J open_run fits. (filled J fits).all_set;
    says = λ J open_run fits. tt;
    told = λ J open_run fits _. no_facts _;
  }

  pub wait_may : IsRefused edt m st → is_acquiring_edt (ready_with slots payloads core).edt ≡ true → MayEnter t v (Wait edt d) members hand
  wait_may refused acquiring = record {
    runnable = runnable;
    at_hand = at_hand;
    covers = covered (Wait edt d) (λ g. refl) (λ u. refl);
    on_hand = record { next = next_is; acquiring = ap is_acquiring core_now ∙ acquiring; refused = on_block (IsRefused edt) refused };
    plans = λ J open_run fits _. (filled J fits).planned;
    set = λ J open_run fits. (filled J fits).all_set;
    says = λ J open_run fits. tt;
    told = λ J open_run fits _. no_facts _;
  }
