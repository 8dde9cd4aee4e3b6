-- Payloads that are read, one after another.
use Rattle.std.proofs.Common.{◌≡◌, ◌⊎◌, inl, inr, ⊎_elim, ℕ, zero, suc, ◌<◌, List, [], ◌∷◌, ◌++◌, length, reverse, true, Option, Some, None, refl, ap, sym, ◌∙◌, arith}
use Rattle.std.specs.Prelude.{slice_index_or}
use Rattle.std.proofs.lemmas.List.{append-nil, append_assoc}
use mathlib.Core.Option.{some}
use lib.ListN.{get_elem?}
use Rattle.atomic_table.proofs.Lists.{at_longer, at_last}
use Rattle.ocr_datablock.specs.Block as block
use Rattle.ocr_slots.specs.declared.Slot.{Slot}
use Rattle.ocr_slots.specs.Slots as slot
use Rattle.ocr_guid.specs.Target.{EventCall}
use Rattle.ocr_machine_history.specs.Made.{Made, MadeEdt, made}
use Rattle.ocr_machine_parts.specs.declared.part.Part.{Part}
use Rattle.ocr_machine_parts.specs.declared.part.Part.TheVariants as part
use Rattle.ocr_machine_parts.specs.Calls.{block_calls, event_calls, link_calls, scope_calls}
use Rattle.ocr_machine_parts.specs.Parts.{face, parts_of}
use Rattle.ocr_machine_parts.specs.Taken.{is_within}
use Rattle.ocr_worker_machine.specs.Clerks.{OcrTerms, OcrView, of_terms}
use Rattle.ocr_worker_machine.specs.Ocr.{meaning}
use Rattle.ocr_worker_machine.specs.declared.fact.Fact.{Fact}
use Rattle.ocr_worker_machine.specs.declared.fact.Fact.TheVariants.{IsSet}
use Rattle.ocr_worker_machine.proofs.Runs.{run_is}
use Rattle.ocr_worker_machine.proofs.Slots.{slots_are, slots_in}
use Rattle.ocr_machine_laws.proofs.Filled.{many}
use Rattle.ocr_turns_rule.specs.Words.{HasSlot, learning}
use Rattle.ocr_worker_clerk.specs.Work.{KnowsPayloads}
use Rattle.ocr_worker_clerk.proofs.Seen.{face_is}
use Rattle.ocr_worker_acquisition.specs.Acquisition.{KeepsFace, Learns}
use Rattle.ocr_finish.specs.Scope.{ScopeCall}

-- THE FACE tells how many slots there are
abbrev slots_on : Part → List Slot
slots_on (part.Edt slots) = slots
slots_on other = []

face_count : (m : Option Made) (links : List slot.SlotCall) (blocks : List block.BlockCall) (events : List EventCall) (scopes : List ScopeCall) (slots : List Slot) → face m links blocks events scopes ≡ part.Edt slots → slots_in m ≡ Some (length slots)
face_count (Some (MadeEdt f ps n)) links blocks events scopes slots is =
    let same : slot.state_of n links ≡ slots = ap slots_on is in
    ap (λ (k : ℕ). Some k) (sym (many links [] n 0) ∙ ap (λ (l : List Slot). length l) same)
face_count other links blocks events scopes slots is = cc is

pub has_slot : (t : OcrTerms) (v : OcrView) (edt count k : ℕ) → v.closed ≡ None → is_within t.limit edt ≡ true → KeepsFace v edt count → k < count → HasSlot meaning t v edt k
has_slot t v edt count k open_run within keeps lt = λ J knows.
    let fits = knows.fits open_run in
    let s = of_terms t in let past = reverse J in
    let run = run_is t.setting.value t.limit J fits.run in
    let there : (parts_of s past).face edt ≡ part.Edt keeps.slots = face_is t J v keeps.place edt (part.Edt keeps.slots) fits within keeps.kept in
    let many_is : slots_in (made s past edt) ≡ Some (length keeps.slots) = face_count (made s past edt) (link_calls past edt) (block_calls s past edt) (event_calls s past edt) (scope_calls past edt) keeps.slots there in
    (length keeps.slots, slots_are t past edt run ∙ many_is, let c = keeps.count_is in omega (arith, c, lt))

pub keeps_later : (u v : OcrView) (edt count : ℕ) → KeepsFace u edt count → Learns u v → KeepsFace v edt count
keeps_later u v edt count keeps learns = record {
  place = keeps.place;
  slots = keeps.slots;
  kept = ap (λ (w : OcrView). get_elem? w.parts keeps.place) learns.view ∙ keeps.kept;
  count_is = keeps.count_is;
}

pub learns_none : (v : OcrView) → Learns v v
learns_none v = record { more = []; view = ap (λ (l : List Fact). record v { facts = l }) (sym (append-nil v.facts)) }

pub learns_one : (u v w : OcrView) (f : Fact) → Learns u v → w ≡ learning v f → Learns u w
learns_one u v w f learns is = record {
  more = learns.more ++ f ∷ [];
  view = is ∙ (ap (λ (x : OcrView). learning x f) learns.view ∙ ap (λ (l : List Fact). record u { facts = l }) (append_assoc u.facts learns.more (f ∷ [])));
}

-- the payload read last
at_end : (ps : List ℕ) (p k : ℕ) → k < length (ps ++ p ∷ []) → ((k < length ps) × (slice_index_or (ps ++ p ∷ []) k 0 ≡ slice_index_or ps k 0)) ⊎ ((k ≡ length ps) × (slice_index_or (ps ++ p ∷ []) k 0 ≡ p))
at_end [] p zero lt = inr (refl, refl)
at_end [] p (suc k) lt = absurd (omega (arith, lt))
at_end (q ∷ ps) p zero lt = inl (omega arith, refl)
at_end (q ∷ ps) p (suc k) lt = ⊎_elim (λ h. let a = h.0 in inl (omega (arith, a), h.1)) (λ h. let a = h.0 in inr (omega (arith, a), h.1)) (at_end ps p k (omega (arith, lt)))

pub knows_more : (v w : OcrView) (edt p : ℕ) (ps : List ℕ) → KnowsPayloads v edt ps → w ≡ learning v (IsSet edt (length ps) p) → KnowsPayloads w edt (ps ++ p ∷ [])
knows_more v w edt p ps knows is = λ k lt. ⊎_elim
    (λ h.
    let r = knows k h.0 in
    (r.0, ap (λ (x : OcrView). get_elem? x.facts r.0) is ∙ (at_longer v.facts (IsSet edt (length ps) p ∷ []) r.0 (IsSet edt k (slice_index_or ps k 0)) r.1 ∙ ap (λ (q : ℕ). some (IsSet edt k q)) (sym h.1))))
    (λ h. (
      length v.facts,
      ap (λ (x : OcrView). get_elem? x.facts (length v.facts)) is ∙ (at_last v.facts (IsSet edt (length ps) p) (length v.facts) refl
          ∙ ((λ i. some (IsSet edt (sym h.0 i) p)) ∙ ap (λ (q : ℕ). some (IsSet edt k q)) (sym h.1))),
    ))
    (at_end ps p k lt)

pub knows_none : (v : OcrView) (edt : ℕ) → KnowsPayloads v edt []
knows_none v edt = λ k lt. absurd (omega (arith, lt))
