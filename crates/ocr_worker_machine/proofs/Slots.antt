-- What the words that count see of slots is what the machine has.
use Rattle.std.proofs.Common.{◌≡◌, ℕ, ◌<◌, List, [], ◌∷◌, reverse, Bool, true, false, ◌==◌, ◌&&◌, ◌||◌, if◌then◌else◌, Option, Some, None, is_some, refl, sym, ◌∙◌, ap, subst, arith}
use Rattle.std.proofs.lemmas.Grind.{common_steps}
use Rattle.std.proofs.lemmas.Bool.{eqb-true, and_from, or_left, cond-true}
use Rattle.std.proofs.lemmas.List.{reverse-reverse}
use Rattle.ocr_base.proofs.Booleans.{same as number_same}
use Rattle.ocr_slots.specs.Slots as slot
use Rattle.ocr_guid.specs.declared.Code.{Code}
use Rattle.ocr_body_meaning.specs.Holds.{is_done}
use Rattle.ocr_body_meaning.specs.declared.call.Call.TheVariants as call
use Rattle.ocr_body_meaning.specs.declared.call.Answer.{Answer}
use Rattle.ocr_machine_history.specs.declared.entry.Entry.{Entry}
use Rattle.ocr_machine_history.specs.declared.entry.Entry.TheVariants.{Call, Deliver, Start, End}
use Rattle.ocr_machine_history.specs.declared.entry.Message.{Message}
use Rattle.ocr_machine_history.specs.declared.entry.What.{What}
use Rattle.ocr_machine_history.specs.declared.entry.What.TheVariants as what
use Rattle.ocr_machine_history.specs.declared.objects.TheConstants.{ARGUMENTS, MAIN_EDT, OUTPUT_FLAGS, OUTPUT_KIND}
use Rattle.ocr_machine_history.specs.Edts as edts
use Rattle.ocr_machine_history.specs.History.{History}
use Rattle.ocr_machine_history.specs.History as history
use Rattle.ocr_machine_history.specs.Made.{Made, MadeEdt, MadeEvent, MadeScope, depc_in, edt_from, is_edt, is_edt_made, is_new, made, made_beside, makes, names_new, opened}
use Rattle.ocr_machine_parts.specs.Calls as calls
use Rattle.ocr_machine_parts.specs.Calls.{depc_of, set_calls, set_step}
use Rattle.ocr_machine_parts.specs.Legal.{IsRun, IsLegal}
use Rattle.ocr_machine_parts.proofs.Within.{beside_free, new_free}
use Rattle.ocr_machine_laws.proofs.Edts.{edts_law}
use Rattle.ocr_machine_laws.proofs.Permanence.{edt_not_new}
use Rattle.ocr_machine_laws.proofs.Once.{set_once_law}
use Rattle.ocr_turns_rule.specs.Counts.{count_if, is_ended, is_started, payload_if, payload_of, slots_of}
use Rattle.ocr_turns_rule.specs.declared.view.Terms.{Terms}
use Rattle.ocr_worker_machine.specs.Ocr.{meaning}
use Rattle.ocr_worker_machine.specs.Ocr as ocr
use Rattle.ocr_worker_machine.specs.declared.setting.Setting.{Setting}
use Rattle.ocr_worker_machine.proofs.Permanence.{edt_later, edt_made}
use Rattle.ocr_worker_machine.proofs.Runs.{of_terms}

-- THE SLOT COUNT of an object, where it is an EDT
abbrev pub slots_in : Option Made → Option ℕ
slots_in (Some (MadeEdt f ps n)) = Some n
slots_in other = None

pub edt_slots : (m : Option Made) → is_edt_made m ≡ true → slots_in m ≡ Some (depc_in m)
edt_slots (Some (MadeEdt f ps n)) is = refl
edt_slots other is = cc is

opened_slots : (s : history.Setting) (n : ℕ) → (if MAIN_EDT == n then Some 1 else None) ≡ slots_in (opened s n)
opened_slots s n = elim (n == ARGUMENTS) as (λ b. (n == ARGUMENTS) ≡ b → (if MAIN_EDT == n then Some 1 else None) ≡ slots_in (opened s n)) [
  | true ↦ λ is. subst (λ (k : ℕ). (if MAIN_EDT == k then Some 1 else None) ≡ slots_in (opened s k)) (sym (eqb-true n ARGUMENTS is)) refl
  | false ↦ λ off. elim (n == MAIN_EDT) as (λ b. (n == MAIN_EDT) ≡ b → (if MAIN_EDT == n then Some 1 else None) ≡ slots_in (opened s n)) [
    | true ↦ λ is. subst (λ (k : ℕ). (if MAIN_EDT == k then Some 1 else None) ≡ slots_in (opened s k)) (sym (eqb-true n MAIN_EDT is)) refl
    | false ↦ λ apart. rw (off, apart, flipped n apart) refl
  ] refl
] refl
  where
    flipped : (n : ℕ) → (n == MAIN_EDT) ≡ false → (MAIN_EDT == n) ≡ false
    flipped n apart = grind (arith, common_steps)

other_new : (b : Bool) (x : Made) (y : Option Made) (before : Option ℕ) → slots_in (Some x) ≡ None → (b ≡ true → y ≡ None) → before ≡ slots_in y → before ≡ slots_in (if b then Some x else y)
other_new true x y before none free was = was ∙ (ap slots_in (free refl) ∙ sym none)
other_new false x y before none free was = was

-- what is made beside an EDT has no slots
beside_new : (b : Bool) (x : Made) (rest : Option Made) (before : Option ℕ) → slots_in (Some x) ≡ None → (b ≡ true → before ≡ None) → before ≡ slots_in rest → before ≡ slots_in (if b then Some x else rest)
beside_new true x rest before none free was = free refl ∙ sym none
beside_new false x rest before none free was = was

edt_new : (b : Bool) (x y : Option Made) (v n D : ℕ) (before : Option ℕ) → (b ≡ true → v ≡ n → slots_in x ≡ Some D) → before ≡ slots_in y
    → count_if (if b then Some (v, D) else None) n before ≡ slots_in (if b && (v == n) then x else y)
edt_new true x y v n D before new was = elim (v == n) as (λ z. (v == n) ≡ z → (if z then Some D else before) ≡ slots_in (if z then x else y)) [
  | true ↦ λ is. sym (new refl (eqb-true v n is))
  | false ↦ λ _. was
] refl
edt_new false x y v n D before new was = was

-- what a creation says of the slots of the EDT that it makes
created_slots : (s : history.Setting) (past : History) (u home from pc dc fl : ℕ) (ps ds : List ℕ) (o : Bool) (a : Answer) (w : List (ℕ × ℕ)) (n : ℕ) → IsRun s (Call u home (call.EdtCreate from pc ps dc ds fl o) a w ∷ past)
    → is_done a.code ≡ true → a.value ≡ n → slots_in (made s (Call u home (call.EdtCreate from pc ps dc ds fl o) a w ∷ past) n) ≡ Some (depc_of s (Call u home (call.EdtCreate from pc ps dc ds fl o) a w ∷ past) a.value)
created_slots s past u home from pc dc fl ps ds o a w n run done is =
    let e : Entry = Call u home (call.EdtCreate from pc ps dc ds fl o) a w in
    let makes_n : makes a n ≡ true = and_from (is_done a.code) (a.value == n) done (subst (λ (k : ℕ). (a.value == k) ≡ true) is (number_same a.value)) in
    edt_slots (made s (e ∷ past) n) (edts_law s (e ∷ past) run n ∙ or_left (makes a n) (is_edt past n) makes_n) ∙ ap (λ (k : ℕ). Some (depc_of s (e ∷ past) k)) (sym is)

pub slots_are : (t : Terms Setting) (past : History) (n : ℕ) → IsRun (of_terms t) past → slots_of meaning t past n ≡ slots_in (made (of_terms t) past n)
slots_are t [] n run = opened_slots (of_terms t) n
slots_are t (Call u home (call.DbCreate z fl) a w ∷ past) n run = other_new (makes a n) _ (made (of_terms t) past n) _ refl (λ on. (new_free (of_terms t) past a n run.1.on_parts.value on).0) (slots_are t past n run.0)
slots_are t (Call u home (call.TemplateCreate f pc dc) a w ∷ past) n run = other_new (makes a n) _ (made (of_terms t) past n) _ refl (λ on. (new_free (of_terms t) past a n run.1.on_parts.value on).0) (slots_are t past n run.0)
slots_are t (Call u home (call.EventCreate kind fl) a w ∷ past) n run = other_new (makes a n) _ (made (of_terms t) past n) _ refl (λ on. (new_free (of_terms t) past a n run.1.on_parts.value on).0) (slots_are t past n run.0)
slots_are t (Call u home (call.EventCreateParams kind fl most sats nd) a w ∷ past) n run = other_new (makes a n) _ (made (of_terms t) past n) _ refl (λ on. (new_free (of_terms t) past a n run.1.on_parts.value on).0) (slots_are t past n run.0)
slots_are t (Call u home (call.EdtCreate from pc ps dc ds fl o) a w ∷ past) n run =
    let s = of_terms t in
    let e : Entry = Call u home (call.EdtCreate from pc ps dc ds fl o) a w in
    let D : ℕ = depc_of s (e ∷ reverse (reverse past)) a.value in
    let was = slots_are t past n run.0 in
    let event : Option Made = if is_done a.code && names_new a.output n then Some (MadeEvent OUTPUT_KIND OUTPUT_FLAGS 0) else made s past n in
    edt_new (is_done a.code) (edt_from (made s past from) ps dc) (made_beside a home n (made s past n)) a.value n D (slots_of meaning t past n)
    (λ done is.
    let makes_n : makes a n ≡ true = and_from (is_done a.code) (a.value == n) done (subst (λ (k : ℕ). (a.value == k) ≡ true) is (number_same a.value)) in
    ap slots_in (sym (cond-true (makes a n) (edt_from (made s past from) ps dc) (made_beside a home n (made s past n)) makes_n)) ∙ (created_slots s past u home from pc dc fl ps ds o a w n run done is ∙ ap (λ (K : History). Some (depc_of s (e ∷ K) a.value)) (sym (reverse-reverse past))))
    (beside_new (is_done a.code && names_new a.scope n) (MadeScope home a.output) event (slots_of meaning t past n) refl (λ on. was ∙ ap slots_in (beside_free _ (is_done a.code) s past _ a.scope n run.1.on_parts.scope on).0)
    (beside_new (is_done a.code && names_new a.output n) (MadeEvent OUTPUT_KIND OUTPUT_FLAGS 0) (made s past n) (slots_of meaning t past n) refl (λ on. was ∙ ap slots_in (beside_free _ (is_done a.code) s past _ a.output n run.1.on_parts.output on).0) was))
slots_are t (Call u home other a w ∷ past) n run = slots_are t past n run.0
slots_are t (other ∷ past) n run = slots_are t past n run.0

-- PAYLOADS. What is set is set of an EDT
pub depc_edt : (m : Option Made) (k : ℕ) → k < depc_in m → is_edt_made m ≡ true
depc_edt (Some (MadeEdt f ps n)) k lt = refl
depc_edt other k lt = absurd (omega (arith, lt))

abbrev IsSetIn : List slot.SlotCall → ℕ → Type 0
IsSetIn cs k = is_some (slot.payload_of cs k) ≡ true

if_set : (b : Bool) (x y : List slot.SlotCall) (k : ℕ) → (IsSetIn x k → b ≡ true → ⊥) → IsSetIn (if b then x else y) k → IsSetIn y k
if_set true x y k never is = absurd (never is refl)
if_set false x y k never is = is

step_edt : (s : history.Setting) (past : History) (m : Message) (c : Code) (n k : ℕ) → IsRun s past → IsLegal s past (Deliver m c) → (x : What) → m.what ≡ x → (IsSetIn (set_calls past n) k → is_edt past n ≡ true) → IsSetIn (set_step x n (set_calls past n)) k → is_edt past n ≡ true
step_edt s past m c n k run legal (what.Set v i q) same before is = elim (v == n) as (λ b. (v == n) ≡ b → IsSetIn (if b then slot.Setting i q ∷ set_calls past n else set_calls past n) k → is_edt past n ≡ true) [
  | true ↦ λ here _.
      let slot_is = set_once_law s past m c v i q run legal same in
      subst (λ (j : ℕ). is_edt past j ≡ true) (eqb-true v n here) (sym (edts_law s past run v) ∙ depc_edt (made s past v) i slot_is.exists)
  | false ↦ λ _ is. before is
] refl is
step_edt s past m c n k run legal other same before is = before is

pub set_edt : (s : history.Setting) (past : History) (n k : ℕ) → IsRun s past → IsSetIn (set_calls past n) k → is_edt past n ≡ true
set_edt s [] n k run is = elim (n == MAIN_EDT) as (λ b. IsSetIn (if b then slot.Setting 0 ARGUMENTS ∷ [] else []) k → b ≡ true) [ true ↦ λ _. refl | false ↦ λ none. cc none ] is
set_edt s (Call u home c a w ∷ past) n k run is = edt_later past (Call u home c a w) n (set_edt s past n k run.0 (if_set (is_new c a n) [] (set_calls past n) k (λ none _. cc none) is))
set_edt s (Deliver m c ∷ past) n k run is = step_edt s past m c n k run.0 run.1 m.what refl (set_edt s past n k run.0) is
set_edt s (other ∷ past) n k run is = set_edt s past n k run.0 is

opened_payload : (n k : ℕ) → (if (MAIN_EDT == n) && (0 == k) then Some ARGUMENTS else None) ≡ slot.payload_of (if n == MAIN_EDT then slot.Setting 0 ARGUMENTS ∷ [] else []) k
opened_payload n k = rw (flips n) (split (n == MAIN_EDT) (0 == k))
  where
    flips : (n : ℕ) → (MAIN_EDT == n) ≡ (n == MAIN_EDT)
    flips n = grind (arith, common_steps)

    split : (a b : Bool) → (if a && (0 == k) then Some ARGUMENTS else None) ≡ slot.payload_of (if a then slot.Setting 0 ARGUMENTS ∷ [] else []) k
    split true b = refl
    split false b = refl

step_payload : (x : What) (n k : ℕ) (cs : List slot.SlotCall) (before : Option ℕ) → before ≡ slot.payload_of cs k → payload_if (ocr.set_by x) n k before ≡ slot.payload_of (set_step x n cs) k
step_payload (what.Set v i q) n k cs before was = elim (v == n) as (λ b. (if b && (i == k) then Some q else before) ≡ slot.payload_of (if b then slot.Setting i q ∷ cs else cs) k) [
  | true ↦ ap (λ (o : Option ℕ). if i == k then Some q else o) was
  | false ↦ was
]
step_payload other n k cs before was = was

none_set : (o : Option ℕ) → (is_some o ≡ true → ⊥) → o ≡ None
none_set None never = refl
none_set (Some x) never = absurd (never refl)

new_payload : (b : Bool) (cs : List slot.SlotCall) (k : ℕ) → (b ≡ true → slot.payload_of cs k ≡ None) → slot.payload_of cs k ≡ slot.payload_of (if b then [] else cs) k
new_payload true cs k none = none refl
new_payload false cs k none = refl

pub payload_is : (t : Terms Setting) (past : History) (n k : ℕ) → IsRun (of_terms t) past → payload_of meaning t past n k ≡ calls.payload_of past n k
payload_is t [] n k run = opened_payload n k
payload_is t (Call u home c a w ∷ past) n k run =
    payload_is t past n k run.0 ∙ new_payload (is_new c a n) (set_calls past n) k (λ new. none_set _ (λ set.
    let old = edt_not_new (of_terms t) past u home c a w n run.1.on_parts (edt_made (of_terms t) past n run.0 (set_edt (of_terms t) past n k run.0 set)) in cc (new, old)))
payload_is t (Deliver m c ∷ past) n k run = step_payload m.what n k (set_calls past n) (payload_of meaning t past n k) (payload_is t past n k run.0)
payload_is t (other ∷ past) n k run = payload_is t past n k run.0

-- STARTS AND ENDS
pub started_is : (t : Terms Setting) (past : History) (n : ℕ) → is_started meaning t past n ≡ edts.is_started past n
started_is t [] n = refl
started_is t (Start u ∷ past) n = ap (λ (b : Bool). (u == n) || b) (started_is t past n)
started_is t (other ∷ past) n = started_is t past n

pub ended_is : (t : Terms Setting) (past : History) (n : ℕ) → is_ended meaning t past n ≡ edts.is_ended past n
ended_is t [] n = refl
ended_is t (End u g ∷ past) n = ap (λ (b : Bool). (u == n) || b) (ended_is t past n)
ended_is t (other ∷ past) n = ended_is t past n
