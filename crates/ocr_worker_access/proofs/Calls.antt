-- A call of a running EDT, on the parts at hand.
use Rattle.std.proofs.Common.{◌≡◌, ℕ, ◌≤◌, Bool, true, false, ◌==◌, ◌&&◌, List, [], ◌∷◌, reverse, None, refl, sym, ◌∙◌, ap, subst, arith}
use Rattle.ocr_guid.specs.Code.{number_of}
use Rattle.ocr_body_meaning.specs.Call.{is_access, is_creation}
use Rattle.ocr_body_meaning.specs.Holds.{is_done}
use Rattle.ocr_body_meaning.specs.Laws.{IsServed}
use Rattle.ocr_body_meaning.specs.declared.call.Answer.{Answer}
use Rattle.ocr_body_meaning.specs.declared.call.Call as body
use Rattle.ocr_body_meaning.specs.declared.call.Call.TheVariants as call
use Rattle.ocr_machine_history.specs.declared.entry.Entry.{Entry}
use Rattle.ocr_machine_history.specs.declared.entry.Entry.TheVariants.{Call}
use Rattle.ocr_machine_history.specs.History.{History}
use Rattle.ocr_machine_history.specs.Made.{made}
use Rattle.ocr_machine_parts.specs.declared.part.Part.{Part}
use Rattle.ocr_machine_parts.specs.declared.part.Part.TheVariants as part
use Rattle.ocr_machine_parts.specs.Codes.{code_of}
use Rattle.ocr_machine_parts.specs.Footprint.{Covers}
use Rattle.ocr_machine_parts.specs.Kinds.{is_running}
use Rattle.ocr_finish.specs.declared.TheConstants.{MOST_MEMBERS}
use Rattle.ocr_machine_parts.specs.LegalOn.{HasOutput, IsBeside, IsFresh, IsHome, IsLegalOn, IsNamed, IsScoped, last_of}
use Rattle.ocr_machine_parts.specs.Parts.{parts_of}
use Rattle.ocr_machine_parts.specs.Taken.{face_in}
use Rattle.ocr_machine_parts.proofs.Local.{code_law}
use Rattle.ocr_machine_laws.specs.Answered.{AnswersSo, IsCallSo}
use Rattle.ocr_machine_laws.proofs.Answered.{call_on}
use Rattle.ocr_machine_laws.specs.Kept.{kept_ready}
use Rattle.ocr_turns_rule.specs.Debts.{times}
use Rattle.ocr_turns_rule.specs.Rule.{Fits}
use Rattle.ocr_turns_rule.proofs.Totals.{one_here}
use Rattle.ocr_worker_machine.specs.Clerks.{AreAtHand, OcrTerms, OcrView, of_terms}
use Rattle.ocr_worker_machine.specs.Ocr.{beside, meaning}
use Rattle.ocr_worker_machine.proofs.Homes.{drawn_free, drawn_fresh, knows_home}
use Rattle.ocr_worker_access.specs.Calls.{IsAnswer, IsCoded, IsNextTo, drawn_for, home_for, makes_output, makes_scope}
use Rattle.ocr_worker_access.proofs.Parts.{hand_alike, is_run, legal_on_hand}

-- A BODY of a program that may be run makes, besides loads and stores, only calls of the kinds that
-- there are
pub served_coded : (functions : ℕ) (c : body.Call) → IsServed functions c → is_access c ≡ false → IsCoded c
served_coded functions (call.Load d k) served plain = cc plain
served_coded functions (call.Store d k v) served plain = cc plain
served_coded functions call.Shutdown served plain = absurd served
served_coded functions (call.Abort c) served plain = absurd served
served_coded functions other served plain = tt

no_core : (t : OcrTerms) (past : History) (n : ℕ) → made (of_terms t) past n ≡ None → (parts_of (of_terms t) past).core n ≡ part.Vacant
no_core t past n none = rw none refl

-- THE CODE that was found on the faces at hand is that of the history
pub code_in : (t : OcrTerms) (v : OcrView) (J : List Entry) (hand : List (ℕ × Part)) (edt home : ℕ) (c : body.Call) (a : Answer) (w : List (ℕ × ℕ)) → Fits meaning t J v → AreAtHand t.limit hand v.parts → Covers t.limit (Call edt home c a w) hand
    → code_of edt (face_in t.limit hand) c ≡ code_of edt (parts_of (of_terms t) (reverse J)).face c
code_in t v J hand edt home c a w fits at_hand covers =
    code_law edt home c a w (face_in t.limit hand) (parts_of (of_terms t) (reverse J)).face (λ g on. sym ((hand_alike t v J fits hand (Call edt home c a w) at_hand covers).faces g on))

-- THE ANSWER
pub drawn_value : (v : OcrView) (c : body.Call) (a : Answer) → v.drawn ≡ drawn_for c a → is_creation c ≡ true → is_done a.code ≡ true → 1 ≤ times a.value v.drawn
drawn_value v c a drew creates done =
    let is : drawn_for c a ≡ a.value ∷ beside c a = rw (creates, done) refl in
    subst (λ (ns : List ℕ). 1 ≤ times a.value ns) (sym (drew ∙ is)) (let one = one_here a.value in omega (arith, one))

module _ (t : OcrTerms) (v : OcrView) (J : List Entry) (fits : Fits meaning t J v) where
  fresh : (n : ℕ) → 1 ≤ times n v.drawn → IsFresh t.limit (parts_of (of_terms t) (reverse J)) n
  fresh n drew = drawn_fresh t v J n fits drew

  named : (c : body.Call) (a : Answer) → is_creation c ≡ true → IsAnswer v c a → IsNamed t.limit (parts_of (of_terms t) (reverse J)) a
  named c a creates answer = record {
    fresh = λ done. fresh a.value (drawn_value v c a answer.drawn creates done);
    refused = λ off. answer.refused creates off;
  }

  pub answers : (edt : ℕ) (c : body.Call) (a : Answer) → IsCoded c → a.code ≡ code_of edt (parts_of (of_terms t) (reverse J)).face c → IsAnswer v c a → AnswersSo t.limit (parts_of (of_terms t) (reverse J)) edt c a
  answers edt (call.Print x) a coded is answer = answer.number refl ∙ ap number_of is
  answers edt (call.TemplateCreate f pc dc) a coded is answer = named (call.TemplateCreate f pc dc) a refl answer
  answers edt (call.DbCreate n fl) a coded is answer = named (call.DbCreate n fl) a refl answer
  answers edt (call.EdtCreate from pc ps dc ds fl output) a coded is answer = record {
    named = named (call.EdtCreate from pc ps dc ds fl output) a refl answer;
    no_core = λ done. no_core t (reverse J) a.value (drawn_free t v J a.value fits (drawn_value v (call.EdtCreate from pc ps dc ds fl output) a answer.drawn refl done));
  }
  answers edt (call.DbRelease d) a coded is answer = answer.number refl
  answers edt (call.DbDestroy d) a coded is answer = answer.number refl
  answers edt (call.TemplateDestroy x) a coded is answer = answer.number refl
  answers edt (call.AddDependence from x i m) a coded is answer = answer.number refl
  answers edt (call.EventCreate k fl) a coded is answer = named (call.EventCreate k fl) a refl answer
  answers edt (call.EventCreateParams k fl most sats deps) a coded is answer = named (call.EventCreateParams k fl most sats deps) a refl answer
  answers edt (call.EventDestroy e) a coded is answer = answer.number refl
  answers edt (call.Satisfy e p slot) a coded is answer = answer.number refl
  answers edt other a coded is answer = absurd coded

  -- THE SCOPE and the output event of an EDT that is made
  next_to : (b : Bool) (other n : ℕ) → IsNextTo b v other n → IsBeside b t.limit (parts_of (of_terms t) (reverse J)) other n
  next_to true other n is = (fresh n is.0, is.1)
  next_to false other n is = is

  pub scoped : (c : body.Call) (a : Answer) → IsNextTo (is_done a.code && makes_scope c) v a.value a.scope → IsScoped t.limit (parts_of (of_terms t) (reverse J)) c a
  scoped (call.EdtCreate from pc ps dc ds fl output) a is = next_to (is_done a.code && (fl == 1)) a.value a.scope is
  scoped other a is = none_wanted (is_done a.code) is
    where
      none_wanted : (b : Bool) → IsNextTo (b && false) v a.value a.scope → a.scope ≡ 0
      none_wanted true is = is
      none_wanted false is = is

  pub has_output : (c : body.Call) (a : Answer) → IsNextTo (is_done a.code && makes_output c) v (last_of a) a.output → HasOutput t.limit (parts_of (of_terms t) (reverse J)) c a
  has_output (call.EdtCreate from pc ps dc ds fl output) a is = next_to (is_done a.code && output) (last_of a) a.output is
  has_output other a is = none_wanted (is_done a.code) is
    where
      none_wanted : (b : Bool) → IsNextTo (b && false) v (last_of a) a.output → a.output ≡ 0
      none_wanted true is = is
      none_wanted false is = is

  -- THE HOME of the running EDT, which takes one member more
  pub at_home : (edt : ℕ) (c : body.Call) (a : Answer) → t.limit ≤ MOST_MEMBERS → is_running ((parts_of (of_terms t) (reverse J)).core edt) ≡ true → (is_creation c ≡ true → is_done a.code ≡ true → 1 ≤ times a.value v.drawn)
      → IsHome (parts_of (of_terms t) (reverse J)) edt (home_for c ((parts_of (of_terms t) (reverse J)).core edt)) c a
  at_home edt (call.EdtCreate from pc ps dc ds fl output) a most running drew = knows_home t v J edt a.value (is_done a.code) fits most running (drew refl)
  at_home edt other a most running drew = refl

  -- LEGAL on the parts at hand
  pub call_legal : (hand : List (ℕ × Part)) (edt home : ℕ) (c : body.Call) (a : Answer) (w : List (ℕ × ℕ)) → AreAtHand t.limit hand v.parts → Covers t.limit (Call edt home c a w) hand
      → IsCallSo t.limit (parts_of (of_terms t) (reverse J)) edt home c a
      → IsLegalOn t.limit (kept_ready t.limit [] (Call edt home c a w) hand) (Call edt home c a w)
  call_legal hand edt home c a w at_hand covers so =
      legal_on_hand t v J fits hand (Call edt home c a w) [] at_hand covers (λ never. absurd never)
      (call_on (of_terms t) (reverse J) edt home c a w (is_run t v J fits) so)
