-- The Start of an EDT whose plan is done: what a clerk knows of it that keeps its core and its face.
use Rattle.std.proofs.Common.{◌≡◌, ℕ, zero, suc, ◌+◌, ◌-◌, ◌<◌, ◌≤◌, Bool, true, false, ◌==◌, ◌&&◌, if◌then◌else◌, List, [], ◌∷◌, ◌++◌, length, reverse, None, refl, ap, sym, ◌∙◌, subst, arith}
use Rattle.std.specs.Prelude.{slice_index_or}
use Rattle.std.proofs.lemmas.Bool.{eqb-true}
use Rattle.std.proofs.lemmas.Grind.{common_steps}
use mathlib.Core.Option.{some-injective, some-ne-none}
use Rattle.ocr_base.proofs.Booleans.{same as number_same}
use Rattle.ocr_acquire.specs.declared.Mode.{Mode}
use Rattle.ocr_body_code.specs.Checked.{checked_tree}
use Rattle.ocr_program_tree.specs.Runnable.{IsRunnable}
use Rattle.ocr_slots.specs.declared.Slot.{Slot}
use Rattle.ocr_machine_history.specs.declared.entry.Entry.{Entry}
use Rattle.ocr_machine_history.specs.declared.entry.Entry.TheVariants.{Start}
use Rattle.ocr_machine_history.specs.History.{History}
use Rattle.ocr_machine_parts.specs.declared.part.Core.{Core}
use Rattle.ocr_machine_parts.specs.declared.part.Part.{Part}
use Rattle.ocr_machine_parts.specs.declared.part.Part.TheVariants as part
use Rattle.ocr_machine_parts.specs.Effects.{settled_core}
use Rattle.ocr_machine_parts.specs.Progress.{made_ready, ready_at, with_phase}
use Rattle.ocr_machine_parts.specs.Footprint.{Covers}
use Rattle.ocr_machine_parts.specs.Kinds.{is_acquiring_edt, next_in, progress_in}
use Rattle.ocr_machine_parts.specs.LegalOn.{IsLegalOn}
use Rattle.ocr_machine_parts.specs.Parts.{parts_of}
use Rattle.ocr_machine_parts.specs.Taken.{has, is_within, look, parts_in, place_of, seen}
use Rattle.ocr_machine_laws.specs.Kept.{AreSet, IsFilled, kept_ready}
use Rattle.ocr_machine_parts.specs.Readiness.{plan_from}
use Rattle.ocr_machine_laws.proofs.Filled.{filled_law}
use Rattle.ocr_turns_rule.specs.Rule.{FactsOf, Fits}
use Rattle.ocr_turns_rule.specs.Sums.{one_at, weigh}
use Rattle.ocr_worker_machine.specs.Clerks.{AreAtHand, MayEnter, OcrTerms, OcrView, of_terms}
use Rattle.ocr_worker_machine.specs.Facts.{IsPayload, Stands, learns}
use Rattle.ocr_worker_machine.specs.Ocr.{MayFollow, meaning, stands}
use Rattle.ocr_worker_machine.specs.declared.fact.Fact.{Fact}
use Rattle.ocr_worker_machine.specs.declared.fact.Fact.TheVariants.{Count, IsSet, Began}
use Rattle.ocr_worker_machine.proofs.Entered.{fitting_parts}
use Rattle.ocr_worker_machine.proofs.Runs.{reverse_snoc, run_is}
use Rattle.ocr_worker_access.specs.Served.{IsKnown}
use Rattle.ocr_worker_access.proofs.Begun.{start_facts}
use Rattle.ocr_worker_access.proofs.Parts.{core_of}
use Rattle.ocr_worker_access.proofs.Served.{fact_stands}

-- the core and the face of the EDT
abbrev pub kept_pair : ℕ → ℕ → Core → List Slot → List (ℕ × Part)
kept_pair limit edt core slots = (limit + edt, part.Core core) ∷ (edt, part.Edt slots) ∷ []

core_else : (limit edt : ℕ) → 2 ≤ limit → ((limit + edt) == edt) ≡ false
core_else limit edt enough = grind (arith, common_steps)

module _ (limit edt : ℕ) (enough : 2 ≤ limit) (within : is_within limit edt ≡ true) (core : Core) (slots : List Slot) where
  pub look_face : look (kept_pair limit edt core slots) edt ≡ part.Edt slots
  look_face = rw (core_else limit edt enough, number_same edt) refl

  look_core : look (kept_pair limit edt core slots) (limit + edt) ≡ part.Core core
  look_core = rw (number_same (limit + edt)) refl

  has_face : has (kept_pair limit edt core slots) edt ≡ true
  has_face = rw (core_else limit edt enough, number_same edt) refl

  has_core : has (kept_pair limit edt core slots) (limit + edt) ≡ true
  has_core = rw (number_same (limit + edt)) refl

  pub pair_once : (n : ℕ) → weigh (one_at n) (kept_pair limit edt core slots) ≤ 1
  pair_once n = once (limit + edt) edt n (omega (arith, enough))
    where
      once : (a b n : ℕ) → b < a → one_at n a + (one_at n b + 0) ≤ 1
      once a b n less = grind (arith, common_steps)

  pair_covers : Covers limit (Start edt) (kept_pair limit edt core slots)
  pair_covers n on = elim (is_within limit n) as (λ b. (if b then edt == n else is_within limit (n - limit) && (edt == (n - limit))) ≡ true → has (kept_pair limit edt core slots) n ≡ true) [
    | true ↦ λ same. subst (λ (k : ℕ). has (kept_pair limit edt core slots) k ≡ true) (eqb-true edt n same) has_face
    | false ↦ λ named.
        let same = both (is_within limit (n - limit)) (edt == (n - limit)) named in
        let e : edt ≡ n - limit = eqb-true edt (n - limit) same.1 in
        let low : 1 ≤ edt = low_of limit edt within in
        subst (λ (k : ℕ). has (kept_pair limit edt core slots) k ≡ true) (omega (arith, e, low)) has_core
  ] on
    where
      both : (a b : Bool) → (a && b) ≡ true → (a ≡ true) × (b ≡ true)
      both true b is = (refl, is)
      both false b is = cc is

      low_of : (limit g : ℕ) → is_within limit g ≡ true → 1 ≤ g
      low_of limit g is = grind (arith, common_steps)

  -- the core made ready
  pub ready_is : (ms : List (ℕ × Mode)) → (ready_at edt ms (parts_in limit (kept_pair limit edt core slots))).core edt ≡ part.Core (with_phase (made_ready ms) core)
  ready_is ms = rw (number_same edt, within, number_same (limit + edt)) refl

  pair_legal : (ms : List (ℕ × Mode)) → is_acquiring_edt (with_phase (made_ready ms) core).edt ≡ true → next_in (progress_in (with_phase (made_ready ms) core).edt) ≡ None → IsLegalOn limit (kept_ready limit ms (Start edt) (kept_pair limit edt core slots)) (Start edt)
  pair_legal ms acquiring through = record { acquiring = rw (ready_is ms) acquiring; through = rw (ready_is ms) through }

-- IN A HISTORY
module _ (t : OcrTerms) (v : OcrView) (edt : ℕ) (core : Core) (slots : List Slot) (payloads : List ℕ) (within : is_within t.limit edt ≡ true) (parts : v.parts ≡ kept_pair t.limit edt core slots)
    (count : length payloads ≡ length slots) (known : (k : ℕ) → k < length payloads → IsKnown v.facts (IsSet edt k (slice_index_or payloads k 0))) where
  abbrev hand : List (ℕ × Part)
  hand = kept_pair t.limit edt core slots

  at_hand : 2 ≤ t.limit → AreAtHand t.limit hand v.parts
  at_hand enough = subst (λ (ps : List (ℕ × Part)). AreAtHand t.limit hand ps) (sym parts) (record { once = pair_once t.limit edt enough within core slots; there = λ n here. here; alike = λ n here. refl })

  face_in : (J : List Entry) → Fits meaning t J v → (parts_of (of_terms t) (reverse J)).face edt ≡ part.Edt slots
  face_in J fits =
      let f = parts_of (of_terms t) (reverse J) in
      let here : has v.parts edt ≡ true = subst (λ (ps : List (ℕ × Part)). has ps edt ≡ true) (sym parts) (has_face t.limit edt fits.limits within core slots) in
      let found : look v.parts edt ≡ part.Edt slots = ap (λ (ps : List (ℕ × Part)). look ps edt) parts ∙ look_face t.limit edt fits.limits within core slots in
      let at : place_of t.limit f edt ≡ seen t.limit edt (part.Edt slots) = fitting_parts t J v fits edt here ∙ ap (seen t.limit edt) found in
      rw within at at

  core_in : (J : List Entry) → Fits meaning t J v → (parts_of (of_terms t) (reverse J)).core edt ≡ part.Core (settled_core core)
  core_in J fits = core_of t v J hand edt core fits (at_hand fits.limits) within (has_core t.limit edt fits.limits within core slots) (look_core t.limit edt fits.limits within core slots)

  set_in : (J : List Entry) → Fits meaning t J v → AreSet (reverse J) edt payloads
  set_in J fits k lt = let one : IsPayload (reverse J) edt k (slice_index_or payloads k 0) = fact_stands t v J (IsSet edt k (slice_index_or payloads k 0)) (known k lt) fits in one.payload

  filled_in : (J : List Entry) → Fits meaning t J v → IsFilled (of_terms t) (reverse J) edt slots payloads
  filled_in J fits = filled_law (of_terms t) (reverse J) edt slots payloads (face_in J fits) count (set_in J fits)

  -- what the Start tells
  told_in : (J : List Entry) → Fits meaning t J v → MayFollow t.setting.value t.limit J (Start edt) → FactsOf (stands t.setting.value t.limit (J ++ Start edt ∷ [])) (Count edt (length slots) ∷ Began edt slots (settled_core core) ∷ [])
  unfolding stands
  told_in J fits follows =
      let facts = start_facts (of_terms t) (reverse J) edt slots payloads (settled_core core) (run_is t.setting.value t.limit J fits.run) follows.legal (face_in J fits) (core_in J fits) count (set_in J fits) in
      let turn = sym (reverse_snoc J (Start edt)) in
      each (λ f. Stands (of_terms t) (reverse (J ++ Start edt ∷ [])) f) (Count edt (length slots)) (Began edt slots (settled_core core))
      (subst (λ (h : History). Stands (of_terms t) h (Count edt (length slots))) turn facts.0)
      (subst (λ (h : History). Stands (of_terms t) h (Began edt slots (settled_core core))) turn facts.1)
    where
      each : (P : Fact → Type 0) (f g : Fact) → P f → P g → FactsOf P (f ∷ g ∷ [])
      each P f g one two zero x at = subst P (some-injective f x at) one
      each P f g one two (suc zero) x at = subst P (some-injective g x at) two
      each P f g one two (suc (suc k)) x at = absurd (some-ne-none x (sym at))

  pub learnt : 2 ≤ t.limit → learns t.limit (Start edt) v.parts ≡ Count edt (length slots) ∷ Began edt slots (settled_core core) ∷ []
  learnt enough =
      ap (learns t.limit (Start edt)) parts ∙ rw (look_face t.limit edt enough within core slots, look_core t.limit edt enough within core slots) refl

  pub start_may : 2 ≤ t.limit → IsRunnable (checked_tree t.setting.value.program) → is_acquiring_edt (with_phase (made_ready (plan_from slots payloads)) core).edt ≡ true → next_in (progress_in (with_phase (made_ready (plan_from slots payloads)) core).edt) ≡ None
      → MayEnter t v (Start edt) (plan_from slots payloads) hand
  start_may enough runnable acquiring through = record {
    runnable = runnable;
    at_hand = at_hand enough;
    covers = pair_covers t.limit edt enough within core slots;
    on_hand = pair_legal t.limit edt enough within core slots (plan_from slots payloads) acquiring through;
    plans = λ J op fits waking. (filled_in J fits).planned;
    set = λ J op fits. (filled_in J fits).all_set;
    says = λ J op fits. tt;
    told = λ J op fits follows. subst (FactsOf (stands t.setting.value t.limit (J ++ Start edt ∷ []))) (sym (learnt enough)) (told_in J fits follows);
  }
