-- What is made lasts, and the slots and the plan of an EDT stay once its slots are set.
use Rattle.std.proofs.Common.{◌≡◌, ◌≢◌, ℕ, zero, suc, ◌+◌, ◌<◌, ◌≤◌, List, [], ◌∷◌, map, cond, Bool, true, false, Option, Some, None, ◌==◌, ◌&&◌, not, if◌then◌else◌, refl, sym, ◌∙◌, ap, subst, is_some, arith}
use Rattle.std.proofs.lemmas.Bool.{eqb-true, eqb-false, ltb-true, and_parts, not-false, false_from_ne_true}
use Rattle.std.specs.List.{filter, range_with_len}
use Rattle.ocr_guid.specs.declared.Code.{Code}
use Rattle.ocr_slots.specs.declared.Slot.{Slot}
use Rattle.ocr_slots.specs.Slots as slot
use Rattle.ocr_body_meaning.specs.Holds.{is_done}
use Rattle.ocr_body_meaning.specs.declared.call.Call as body
use Rattle.ocr_body_meaning.specs.declared.call.Call.TheVariants as call
use Rattle.ocr_body_meaning.specs.declared.call.Answer.{Answer}
use Rattle.ocr_machine_history.specs.declared.entry.Entry.TheVariants.{Call, Deliver}
use Rattle.ocr_machine_history.specs.declared.entry.Message.{Message}
use Rattle.ocr_machine_history.specs.declared.entry.What.{What}
use Rattle.ocr_machine_history.specs.declared.entry.What.TheVariants as what
use Rattle.ocr_machine_history.specs.History.{History, Setting}
use Rattle.ocr_machine_history.specs.Made.{Made, made, is_new, depc_in, is_edt_made}
use Rattle.ocr_machine_parts.specs.Calls.{mode_named, link_step, link_calls, block_calls, event_calls, set_step, set_calls, depc_of, open_slots, slots_now, scope_calls}
use Rattle.ocr_machine_parts.specs.Parts.{parts_of}
use Rattle.ocr_machine_parts.specs.Kinds.{is_edt_face}
use Rattle.ocr_machine_parts.specs.LegalOn.{IsCallOn}
use Rattle.ocr_machine_parts.specs.Legal.{IsRun, IsLegal}
use Rattle.ocr_machine_laws.proofs.Edts.{edts_law}
use Rattle.ocr_machine_parts.proofs.After.{edt_told}
use Rattle.ocr_machine_parts.proofs.Fresh.{new_fresh, made_old}
use Rattle.ocr_machine_parts.proofs.Within.{made_none}
use Rattle.ocr_machine_laws.specs.Permanence.{MadeLaw, StaysLaw}
use Rattle.ocr_machine_laws.proofs.Once.{dependence_slot, set_once_law, set_linked}

-- WHAT IS MADE lasts, since it is not made anew
pub not_new : (s : Setting) (past : History) (t home : ℕ) (c : body.Call) (a : Answer) (w : List (ℕ × ℕ)) (u : ℕ) → IsCallOn s.limit (parts_of s past) t home c a w → (made s past u ≡ None → ⊥) → is_new c a u ≡ false
not_new s past t home c a w u legal there = false_from_ne_true (is_new c a u) (λ on. there (made_none s past u (new_fresh s.limit (parts_of s past) t home c a w u legal on).vacant))

pub made_law : MadeLaw
made_law s past (Call t home c a w) g m legal is = made_old s past t home c a w g (not_new s past t home c a w g legal.on_parts (λ none. cc (none, is))) ∙ is
made_law s past other g m legal is = is

-- an EDT is not made anew
edt_some : (m : Option Made) → m ≡ None → is_edt_made m ≡ true → ⊥
edt_some None none is = cc is
edt_some (Some m) none is = cc none

pub edt_not_new : (s : Setting) (past : History) (t home : ℕ) (c : body.Call) (a : Answer) (w : List (ℕ × ℕ)) (u : ℕ) → IsCallOn s.limit (parts_of s past) t home c a w → is_edt_made (made s past u) ≡ true → is_new c a u ≡ false
edt_not_new s past t home c a w u legal is = not_new s past t home c a w u legal (λ none. edt_some (made s past u) none is)

-- WHERE ALL SLOTS ARE SET
above : (a k : ℕ) → a ≤ k → (a == k) ≡ false → a + 1 ≤ k
above a k le apart = let differ : a ≢ k = eqb-false a k apart in omega (arith, le, differ)

range_off : (p : ℕ → Bool) (a n k : ℕ) → filter p (range_with_len a n) ≡ [] → a ≤ k → k < a + n → p k ≡ false
range_off p a zero k none low high = absurd (omega (arith, low, high))
range_off p a (suc n) k none low high = elim (p a) as (λ b. p a ≡ b → cond b (a ∷ filter p (range_with_len (a + 1) n)) (filter p (range_with_len (a + 1) n)) ≡ [] → p k ≡ false) [
  | true ↦ λ _ is. cc is
  | false ↦ λ off is. elim (a == k) as (λ b. (a == k) ≡ b → p k ≡ false) [
    | true ↦ λ here. subst (λ (j : ℕ). p j ≡ false) (eqb-true a k here) off
    | false ↦ λ apart. range_off p (a + 1) n k is (above a k low apart) (omega (arith, high))
  ] refl
] refl none

pub all_set : (s : Setting) (past : History) (t k : ℕ) → open_slots s past t ≡ [] → k < depc_of s past t → slot.is_set (set_calls past t) k ≡ true
all_set s past t k none below = not-false _ (range_off (λ j. not (slot.is_set (set_calls past t) j)) 0 (depc_of s past t) k none (omega arith) (omega (arith, below)))

-- no accepted dependence links one of them
links_stay : (s : Setting) (past : History) (t home : ℕ) (c : body.Call) (a : Answer) (w : List (ℕ × ℕ)) (u : ℕ) → IsRun s past → IsCallOn s.limit (parts_of s past) t home c a w → is_edt_made (made s past u) ≡ true → open_slots s past u ≡ [] → link_step c a u (link_calls past u) ≡ link_calls past u
links_stay s past t home (call.AddDependence from x i m) a w u run legal is_made set = elim (is_done a.code && (x == u)) as (λ b. (is_done a.code && (x == u)) ≡ b → (if b then slot.Linking i (mode_named m) ∷ link_calls past u else link_calls past u) ≡ link_calls past u) [
  | true ↦ λ is. absurd (
      let both = and_parts (is_done a.code) (x == u) is in
      let here : u ≡ x = sym (eqb-true x u both.1) in
      let there : is_edt_face ((parts_of s past).face x) ≡ true = sym (edt_told (made s past x) (link_calls past x) (block_calls s past x) (event_calls s past x) (scope_calls past x)) ∙ subst (λ (n : ℕ). is_edt_made (made s past n) ≡ true) here is_made in
      let slot_is = dependence_slot s past t home from x i m a w both.0 legal there in
      let filled = all_set s past x i (subst (λ (n : ℕ). open_slots s past n ≡ []) here set) (ltb-true i (depc_of s past x) slot_is.0) in
      let linked = set_linked s past x i run filled in
      let off = slot_is.1 in
      cc (linked, off))
  | false ↦ λ _. refl
] refl
links_stay s past t home other a w u run legal is_made set = refl

-- and no message sets one
sets_stay : (s : Setting) (past : History) (m : Message) (c : Code) (w : What) (u : ℕ) → m.what ≡ w → IsRun s past → IsLegal s past (Deliver m c) → open_slots s past u ≡ [] → set_step w u (set_calls past u) ≡ set_calls past u
sets_stay s past m c (what.Set x i p) u is run legal set = elim (x == u) as (λ b. (x == u) ≡ b → (if b then slot.Setting i p ∷ set_calls past u else set_calls past u) ≡ set_calls past u) [
  | true ↦ λ here. absurd (
      let free = set_once_law s past m c x i p run legal is in
      let filled : slot.is_set (set_calls past x) i ≡ true = all_set s past x i (subst (λ (n : ℕ). open_slots s past n ≡ []) (sym (eqb-true x u here)) set) free.exists in
      let unset : slot.is_set (set_calls past x) i ≡ false = ap (λ (o : Option ℕ). is_some o) free.unset in
      cc (filled, unset))
  | false ↦ λ _. refl
] refl
sets_stay s past m c other u is run legal set = refl

abbrev slots_by : ℕ → List slot.SlotCall → List slot.SlotCall → List Slot
slots_by n links sets = map (λ k. record { mode = slot.mode_of links k; payload = slot.payload_of sets k }) (slot.slots_of n)

call_stays : (s : Setting) (past : History) (t home : ℕ) (c : body.Call) (a : Answer) (w : List (ℕ × ℕ)) (u : ℕ) → IsRun s past → IsCallOn s.limit (parts_of s past) t home c a w → is_edt_made (made s past u) ≡ true → is_new c a u ≡ false → open_slots s past u ≡ [] → slots_now s (Call t home c a w ∷ past) u ≡ slots_now s past u
call_stays s past t home c a w u run legal is_made off set =
    let depc : depc_of s (Call t home c a w ∷ past) u ≡ depc_of s past u = ap depc_in (made_old s past t home c a w u off) in
    let links : link_calls (Call t home c a w ∷ past) u ≡ link_calls past u = rw off (links_stay s past t home c a w u run legal is_made set) in
    let sets : set_calls (Call t home c a w ∷ past) u ≡ set_calls past u = rw off refl in
    λ i. slots_by (depc i) (links i) (sets i)

pub stays_law : StaysLaw
stays_law s past (Call t home c a w) u run legal is_one set = let is_made : is_edt_made (made s past u) ≡ true = edts_law s past run u ∙ is_one in call_stays s past t home c a w u run legal.on_parts is_made (edt_not_new s past t home c a w u legal.on_parts is_made) set
stays_law s past (Deliver m c) u run legal is_one set = ap (slots_by (depc_of s past u) (link_calls past u)) (sets_stay s past m c m.what u refl run legal set)
stays_law s past other u run legal is_one set = refl
