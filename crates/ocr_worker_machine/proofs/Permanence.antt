-- What stands lasts.
use Rattle.std.proofs.Common.{◌≡◌, ℕ, List, [], ◌∷◌, map, Bool, true, false, ◌==◌, ◌||◌, if◌then◌else◌, Option, Some, None, refl, sym, ◌∙◌, ap, subst}
use Rattle.std.proofs.lemmas.Bool.{eqb-true}
use Rattle.std.proofs.Math.Bool.{or-true}
use Rattle.ocr_slots.specs.declared.Slot.{Slot}
use Rattle.ocr_slots.specs.Slots as slot
use Rattle.ocr_body_meaning.specs.declared.call.Call.TheVariants as call
use Rattle.ocr_machine_history.specs.declared.entry.Entry.{Entry}
use Rattle.ocr_machine_history.specs.declared.entry.Entry.TheVariants.{Call, Deliver}
use Rattle.ocr_machine_history.specs.declared.entry.What.{What}
use Rattle.ocr_machine_history.specs.declared.entry.What.TheVariants as what
use Rattle.ocr_machine_history.specs.Edts.{is_started}
use Rattle.ocr_machine_history.specs.History.{History, Setting, is_stopped}
use Rattle.ocr_machine_history.specs.Made.{is_edt, is_edt_made, made, depc_in, is_new, makes}
use Rattle.ocr_machine_parts.specs.Bodies.{body_of}
use Rattle.ocr_machine_parts.specs.Calls.{depc_of, payload_of, payload_or_null, payloads_of, set_calls, set_step, slots_now}
use Rattle.ocr_machine_parts.specs.Legal.{IsRun, IsLegal}
use Rattle.ocr_machine_laws.proofs.Edts.{edts_law}
use Rattle.ocr_machine_laws.proofs.Permanence.{edt_not_new, stays_law}
use Rattle.ocr_machine_laws.proofs.Once.{set_once_law}
use Rattle.ocr_machine_laws.proofs.Own.{body_law, made_same, started_set, still_started}
use Rattle.ocr_worker_machine.specs.Facts.{Stands, body_by}
use Rattle.ocr_worker_machine.specs.declared.fact.Fact.{Fact}
use Rattle.ocr_worker_machine.specs.declared.fact.Fact.TheVariants.{Count, IsSet, Began, Short}

pub edt_later : (past : History) (e : Entry) (t : ℕ) → is_edt past t ≡ true → is_edt (e ∷ past) t ≡ true
edt_later past (Call u home (call.EdtCreate from pc ps dc ds fl o) a w) t is = ap (λ (b : Bool). makes a t || b) is ∙ or-true (makes a t)
edt_later past (Call u home other a w) t is = is
edt_later past other t is = is

pub edt_made : (s : Setting) (past : History) (t : ℕ) → IsRun s past → is_edt past t ≡ true → is_edt_made (made s past t) ≡ true
edt_made s past t run is = edts_law s past run t ∙ is

pub made_stays : (s : Setting) (past : History) (e : Entry) (t : ℕ) → IsRun s past → IsLegal s past e → is_edt past t ≡ true → made s (e ∷ past) t ≡ made s past t
made_stays s past e t run legal is = made_same s past e t (made s past t) refl (edt_made s past t run is) legal

-- A PAYLOAD stays
step_later : (w : What) (t k p : ℕ) (calls : List slot.SlotCall) → ((i q : ℕ) → w ≡ what.Set t i q → slot.payload_of calls i ≡ None) → slot.payload_of calls k ≡ Some p → slot.payload_of (set_step w t calls) k ≡ Some p
step_later (what.Set x i q) t k p calls unset is = elim (x == t) as (λ b. (x == t) ≡ b → slot.payload_of (if b then slot.Setting i q ∷ calls else calls) k ≡ Some p) [
  | true ↦ λ here. elim (i == k) as (λ b. (i == k) ≡ b → (if b then Some q else slot.payload_of calls k) ≡ Some p) [
    | true ↦ λ at.
        let none : slot.payload_of calls k ≡ None = subst (λ (n : ℕ). slot.payload_of calls n ≡ None) (eqb-true i k at) (unset i q (ap (λ (n : ℕ). what.Set n i q) (eqb-true x t here))) in
        absurd (cc (none, is))
    | false ↦ λ _. is
  ] refl
  | false ↦ λ _. is
] refl
step_later other t k p calls unset is = is

new_none : {A : Type 0} (b : Bool) (x y z : List A) (f : List A → Option ℕ) (o : Option ℕ) → b ≡ false → f y ≡ o → f (if b then x else y) ≡ o
new_none true x y z f o off is = cc off
new_none false x y z f o off is = is

pub payload_later : (s : Setting) (past : History) (e : Entry) (t k p : ℕ) → IsRun s past → IsLegal s past e → is_edt past t ≡ true → payload_of past t k ≡ Some p → payload_of (e ∷ past) t k ≡ Some p
payload_later s past (Call u home c a w) t k p run legal one is =
    new_none (is_new c a t) [] (set_calls past t) [] (λ calls. slot.payload_of calls k) (Some p) (edt_not_new s past u home c a w t legal.on_parts (edt_made s past t run one)) is
payload_later s past (Deliver m c) t k p run legal one is = step_later m.what t k p (set_calls past t) (λ i q what. (set_once_law s past m c t i q run legal what).unset) is
payload_later s past other t k p run legal one is = is

-- THE PAYLOADS of an EDT whose slots are set stay
payloads_from : (past : History) (t : ℕ) (f : ℕ → Slot) (ks : List ℕ) → ((k : ℕ) → (f k).payload ≡ payload_of past t k)
    → map (λ (k : ℕ). payload_or_null (payload_of past t k)) ks ≡ map (λ (x : Slot). payload_or_null x.payload) (map f ks)
payloads_from past t f [] same = refl
payloads_from past t f (k ∷ rest) same =
    ap (λ (o : Option ℕ). payload_or_null o ∷ map (λ (j : ℕ). payload_or_null (payload_of past t j)) rest) (sym (same k))
    ∙ ap (λ (l : List ℕ). payload_or_null (f k).payload ∷ l) (payloads_from past t f rest same)

payloads_now : (s : Setting) (past : History) (t : ℕ) → payloads_of s past t ≡ map (λ (x : Slot). payload_or_null x.payload) (slots_now s past t)
payloads_now s past t = payloads_from past t _ (slot.slots_of (depc_of s past t)) (λ k. refl)

pub payloads_stay : (s : Setting) (past : History) (e : Entry) (t : ℕ) → IsRun s past → IsLegal s past e → is_edt past t ≡ true → is_started past t ≡ true → payloads_of s (e ∷ past) t ≡ payloads_of s past t
payloads_stay s past e t run legal one on =
    let same : slots_now s (e ∷ past) t ≡ slots_now s past t = stays_law s past e t run legal one (started_set s past t run on) in
    payloads_now s (e ∷ past) t ∙ ap (λ (l : List Slot). map (λ (x : Slot). payload_or_null x.payload) l) same ∙ sym (payloads_now s past t)

-- WHAT STANDS LASTS
pub stands_later : (s : Setting) (past : History) (e : Entry) (f : Fact) → IsRun s past → IsLegal s past e → Stands s past f → Stands s (e ∷ past) f
stands_later s past e (Count t n) run legal st = record {
  made = edt_later past e t st.made;
  count = ap depc_in (made_stays s past e t run legal st.made) ∙ st.count;
}
stands_later s past e (IsSet t k p) run legal st = record {
  made = edt_later past e t st.made;
  payload = payload_later s past e t k p run legal st.made st.payload;
}
stands_later s past e (Began t face c) run legal st = record {
  made = edt_later past e t st.made;
  started = still_started past e t st.started;
  body =
      let was : body_of s past t ≡ body_by s.program face c (payloads_of s past t) = st.body in
      let still : body_of s (e ∷ past) t ≡ body_of s past t = body_law s past e t run legal st.made st.started in
      let same : payloads_of s past t ≡ payloads_of s (e ∷ past) t = sym (payloads_stay s past e t run legal st.made st.started) in
      still ∙ was ∙ ap (body_by s.program face c) same;
}
-- nothing comes after a Stop
stands_later s past e (Short t c) run legal st = let on = legal.open_run in let is = ap is_stopped st.stopped in absurd (cc (on, is))
