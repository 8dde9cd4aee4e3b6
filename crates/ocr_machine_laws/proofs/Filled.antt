-- The plan of an EDT by its face and by what its slots are set to.
use Rattle.std.proofs.Common.{◌≡◌, ℕ, zero, suc, ◌+◌, ◌<◌, List, [], ◌∷◌, not, Option, Some, None, refl, sym, ◌∙◌, ap, arith, length, map}
use Rattle.std.specs.Prelude.{slice_index_or}
use Rattle.std.specs.List.{filter, range_with_len}
use Rattle.ocr_guid.specs.Target.{EventCall}
use Rattle.ocr_acquire.specs.Plan as plan
use Rattle.ocr_slots.specs.declared.Slot.{Slot}
use Rattle.ocr_slots.specs.Slots as slot
use Rattle.ocr_datablock.specs.Block as block
use Rattle.ocr_machine_history.specs.History.{History}
use Rattle.ocr_machine_history.specs.Made.{Made, MadeBlock, MadeTemplate, MadeEdt, MadeEvent, MadeScope, made, depc_in}
use Rattle.ocr_machine_parts.specs.declared.part.Part.{Part}
use Rattle.ocr_machine_parts.specs.declared.part.Part.TheVariants as part
use Rattle.ocr_machine_parts.specs.Calls.{event_calls, set_calls, link_calls, block_calls, payload_or_null, asks_in, scope_calls}
use Rattle.ocr_machine_parts.specs.Parts.{face}
use Rattle.ocr_machine_laws.specs.Kept.{FilledLaw, AreSet}
use Rattle.ocr_machine_parts.specs.Readiness.{filled}
use Rattle.ocr_finish.specs.Scope.{ScopeCall}

abbrev slots_on : Part → List Slot
slots_on (part.Edt slots) = slots
slots_on other = []

-- the face of an EDT has its slots as they are linked
face_slots : (m : Option Made) (links : List slot.SlotCall) (blocks : List block.BlockCall) (events : List EventCall) (scopes : List ScopeCall) (slots : List Slot) → face m links blocks events scopes ≡ part.Edt slots → slot.state_of (depc_in m) links ≡ slots
face_slots None links blocks events scopes slots is = cc is
face_slots (Some (MadeBlock n c)) links blocks events scopes slots is = cc is
face_slots (Some (MadeTemplate f pc dc)) links blocks events scopes slots is = cc is
face_slots (Some (MadeEdt f ps n)) links blocks events scopes slots is = ap slots_on is
face_slots (Some (MadeEvent k fl most)) links blocks events scopes slots is = cc is
face_slots (Some (MadeScope outer output)) links blocks events scopes slots is = cc is

module _ (links sets : List slot.SlotCall) where
  -- over the slots from a first one on
  abbrev linked_from : ℕ → ℕ → List Slot
  linked_from k n = map (λ i. slot.slot_of links i) (range_with_len k n)

  abbrev SetFrom : ℕ → List ℕ → Type 0
  SetFrom k depv = (i : ℕ) → i < length depv → slot.payload_of sets (k + i) ≡ Some (slice_index_or depv i 0)

  later : (k : ℕ) (v : ℕ) (vs : List ℕ) → SetFrom k (v ∷ vs) → SetFrom (k + 1) vs
  later k v vs is = λ i lt. let e : (k + 1) + i ≡ k + suc i = omega arith in ap (slot.payload_of sets) e ∙ is (suc i) (omega arith)

  here : (k v : ℕ) (vs : List ℕ) → SetFrom k (v ∷ vs) → slot.payload_of sets k ≡ Some v
  here k v vs is = let e : k ≡ k + 0 = omega arith in ap (slot.payload_of sets) e ∙ is 0 (omega arith)

  pub now_filled : (n k : ℕ) (depv : List ℕ) → length depv ≡ n → SetFrom k depv
      → map (λ i. record { mode = slot.mode_of links i; payload = slot.payload_of sets i }) (range_with_len k n) ≡ filled (linked_from k n) depv
  now_filled zero k [] len is = refl
  now_filled zero k (v ∷ vs) len is = absurd (omega (arith, len))
  now_filled (suc n) k [] len is = absurd (omega (arith, len))
  now_filled (suc n) k (v ∷ vs) len is =
      let p = here k v vs is in let rest = now_filled n (k + 1) vs (omega (arith, len)) (later k v vs is) in
      rw (p, rest) refl

  pub none_open : (n k : ℕ) (depv : List ℕ) → length depv ≡ n → SetFrom k depv → filter (λ i. not (slot.is_set sets i)) (range_with_len k n) ≡ []
  none_open zero k [] len is = refl
  none_open zero k (v ∷ vs) len is = absurd (omega (arith, len))
  none_open (suc n) k [] len is = absurd (omega (arith, len))
  none_open (suc n) k (v ∷ vs) len is =
      let p = here k v vs is in let rest = none_open n (k + 1) vs (omega (arith, len)) (later k v vs is) in
      rw p rest

  pub all_payloads : (n k : ℕ) (depv : List ℕ) → length depv ≡ n → SetFrom k depv → map (λ i. payload_or_null (slot.payload_of sets i)) (range_with_len k n) ≡ depv
  all_payloads zero k [] len is = refl
  all_payloads zero k (v ∷ vs) len is = absurd (omega (arith, len))
  all_payloads (suc n) k [] len is = absurd (omega (arith, len))
  all_payloads (suc n) k (v ∷ vs) len is =
      let p = here k v vs is in let rest = all_payloads n (k + 1) vs (omega (arith, len)) (later k v vs is) in
      rw (p, rest) refl

  pub many : (n k : ℕ) → length (linked_from k n) ≡ n
  many zero k = refl
  many (suc n) k = let r = many n (k + 1) in omega (arith, r)

pub set_from : (past : History) (t : ℕ) (depv : List ℕ) → AreSet past t depv → (i : ℕ) → i < length depv → slot.payload_of (set_calls past t) (0 + i) ≡ Some (slice_index_or depv i 0)
set_from past t depv set i lt = let e : 0 + i ≡ i = omega arith in ap (slot.payload_of (set_calls past t)) e ∙ set i lt

pub filled_law : FilledLaw
filled_law s past t slots depv is len set =
    let n = depc_in (made s past t) in
    let links = link_calls past t in let sets = set_calls past t in
    let state = face_slots (made s past t) links (block_calls s past t) (event_calls s past t) (scope_calls past t) slots is in
    let count : length depv ≡ n = len ∙ (ap (λ (l : List Slot). length l) (sym state) ∙ many links sets n 0) in
    let from = set_from past t depv set in
    record {
      all_set = none_open links sets n 0 depv count from;
      slots_are = now_filled links sets n 0 depv count from ∙ ap (λ (l : List Slot). filled l depv) state;
      planned = ap (λ (l : List Slot). plan.plan_of (asks_in l)) (now_filled links sets n 0 depv count from ∙ ap (λ (l : List Slot). filled l depv) state);
      payloads_are = all_payloads links sets n 0 depv count from;
    }
