-- The plan that an EDT was given is its plan now.
use Rattle.std.proofs.Common.{◌≡◌, ℕ, nat_lt, List, [], ◌∷◌, Bool, true, false, Option, Some, ◌==◌, ◌&&◌, if◌then◌else◌, refl, sym, ◌∙◌, ap, subst}
use Rattle.std.proofs.lemmas.Bool.{eqb-true, and_parts}
use Rattle.ocr_acquire.specs.declared.Mode.{Mode}
use Rattle.ocr_acquire.specs.Plan as plan
use Rattle.ocr_slots.specs.declared.Slot.{Slot}
use Rattle.ocr_edt.specs.declared.Identity.{Identity}
use Rattle.ocr_edt.specs.Edt as edt
use Rattle.ocr_body_meaning.specs.Holds.{is_done}
use Rattle.ocr_body_meaning.specs.declared.call.Call as body
use Rattle.ocr_body_meaning.specs.declared.call.Call.TheVariants as call
use Rattle.ocr_body_meaning.specs.declared.call.Answer.{Answer}
use Rattle.ocr_machine_history.specs.declared.entry.Entry.{Entry}
use Rattle.ocr_machine_history.specs.declared.entry.Entry.TheVariants.{Call, Deliver, Acquire, Wait, Start, Free, End, StaleAcquire}
use Rattle.ocr_machine_history.specs.History.{History, Setting}
use Rattle.ocr_machine_history.specs.Made.{Made, MadeEdt, made, is_new, is_edt_made}
use Rattle.ocr_machine_parts.specs.declared.loans.Kept.{Kept}
use Rattle.ocr_machine_parts.specs.Calls.{open_slots, asks_in, plan_of, with_plan, awake, edt_step, edt_calls, loans_of}
use Rattle.ocr_machine_parts.specs.Parts.{core, parts_of, identity_of}
use Rattle.ocr_machine_parts.specs.Kinds.{is_running}
use Rattle.ocr_machine_parts.specs.Legal.{IsRun, IsLegal}
use Rattle.ocr_machine_laws.specs.Marks.{mark_in, mark}
use Rattle.ocr_machine_laws.proofs.Stages.{told_law}
use Rattle.ocr_machine_parts.proofs.Fresh.{made_old}
use Rattle.ocr_machine_laws.proofs.Edts.{edts_law}
use Rattle.ocr_machine_laws.specs.Permanence.{IsGivenPlan, PlannedLaw}
use Rattle.ocr_machine_laws.proofs.Permanence.{stays_law}

pub ready_is : (members : List (ℕ × Mode)) (calls : List edt.EdtCall) → IsGivenPlan members calls → edt.plan_given (with_plan members calls) ≡ members
ready_is members [] is = refl
ready_is members (one ∷ rest) is = is

awake_is : (calls : List edt.EdtCall) → edt.plan_given (awake calls) ≡ edt.plan_given calls
awake_is [] = refl
awake_is (edt.Wait ∷ rest) = refl
awake_is (other ∷ rest) = refl

is_if : (b : Bool) (members : List (ℕ × Mode)) (one : edt.EdtCall) (rest calls : List edt.EdtCall) → edt.plan_given (one ∷ rest) ≡ members → IsGivenPlan members calls → IsGivenPlan members (if b then one ∷ rest else calls)
is_if true members one rest calls own other = own
is_if false members one rest calls own other = other

-- what was made ready is ready
ready_mark : (i : Identity) (one : edt.EdtCall) (rest : List edt.EdtCall) → nat_lt 0 (mark_in (edt.edt_of i (one ∷ rest))).0 ≡ true
ready_mark i (edt.Ready members) rest = refl
ready_mark i (edt.Wait) rest = refl
ready_mark i other rest = refl

ready_core_mark : (m : Option Made) (i : Identity) (one : edt.EdtCall) (rest : List edt.EdtCall) (loans : List (ℕ × Kept)) → is_edt_made m ≡ true → nat_lt 0 (mark (core m i (one ∷ rest) loans)).0 ≡ true
ready_core_mark (Some (MadeEdt f ps n)) i one rest loans is = ready_mark _ one rest
ready_core_mark other i one rest loans is = cc is

set_ready : (s : Setting) (past : History) (t : ℕ) (one : edt.EdtCall) (rest : List edt.EdtCall) → IsRun s past → is_edt_made (made s past t) ≡ true → edt_calls s past t ≡ one ∷ rest → open_slots s past t ≡ []
set_ready s past t one rest run is_made is =
    (told_law s past run t).all_set (ap (λ (c : List edt.EdtCall). nat_lt 0 (mark (core (made s past t) (identity_of past t) c (loans_of s past t))).0) is ∙ ready_core_mark (made s past t) (identity_of past t) one rest (loans_of s past t) is_made)

plan_stays : (s : Setting) (past : History) (e : Entry) (t : ℕ) → IsRun s past → IsLegal s past e → is_edt_made (made s past t) ≡ true → open_slots s past t ≡ [] → plan_of s past t ≡ plan_of s (e ∷ past) t
plan_stays s past e t run legal is_made set = ap (λ (slots : List Slot). plan.plan_of (asks_in slots)) (sym (stays_law s past e t run legal (sym (edts_law s past run t) ∙ is_made) set))

-- who calls was made ready
bare_core : (m : Option Made) (i : Identity) (loans : List (ℕ × Kept)) → is_running (core m i [] loans) ≡ false
bare_core (Some (MadeEdt f ps n)) i loans = refl
bare_core other i loans = refl

step_empty : (by : ℕ) (c : body.Call) (a : Answer) (t : ℕ) (members : List (ℕ × Mode)) → ((by == t) ≡ true → ⊥) → IsGivenPlan members (edt_step by c a t [])
step_empty by (call.DbCreate n fl) a t members apart = elim (is_done a.code && ((by == t) && (fl == 0))) as (λ b. (is_done a.code && ((by == t) && (fl == 0))) ≡ b → IsGivenPlan members (if b then edt.Hold a.value ∷ [] else [])) [
  | true ↦ λ is. absurd (apart (and_parts (by == t) (fl == 0) (and_parts (is_done a.code) _ is).1).0)
  | false ↦ λ _. tt
] refl
step_empty by (call.DbRelease d) a t members apart = elim (is_done a.code && (by == t)) as (λ b. (is_done a.code && (by == t)) ≡ b → IsGivenPlan members (if b then edt.DropHold d ∷ [] else [])) [
  | true ↦ λ is. absurd (apart (and_parts (is_done a.code) _ is).1)
  | false ↦ λ _. tt
] refl
step_empty by (call.DbDestroy d) a t members apart = elim (is_done a.code && (by == t)) as (λ b. (is_done a.code && (by == t)) ≡ b → IsGivenPlan members (if b then edt.DropHold d ∷ [] else [])) [
  | true ↦ λ is. absurd (apart (and_parts (is_done a.code) _ is).1)
  | false ↦ λ _. tt
] refl
step_empty by other a t members apart = tt

step_some : (by : ℕ) (c : body.Call) (a : Answer) (t : ℕ) (members : List (ℕ × Mode)) (one : edt.EdtCall) (rest : List edt.EdtCall) → edt.plan_given (one ∷ rest) ≡ members → IsGivenPlan members (edt_step by c a t (one ∷ rest))
step_some by (call.DbCreate n fl) a t members one rest is = is_if (is_done a.code && ((by == t) && (fl == 0))) members (edt.Hold a.value) (one ∷ rest) (one ∷ rest) is is
step_some by (call.DbRelease d) a t members one rest is = is_if (is_done a.code && (by == t)) members (edt.DropHold d) (one ∷ rest) (one ∷ rest) is is
step_some by (call.DbDestroy d) a t members one rest is = is_if (is_done a.code && (by == t)) members (edt.DropHold d) (one ∷ rest) (one ∷ rest) is is
step_some by other a t members one rest is = is

call_planned : (s : Setting) (past : History) (by home : ℕ) (c : body.Call) (a : Answer) (w : List (ℕ × ℕ)) (t : ℕ) (calls : List edt.EdtCall) → edt_calls s past t ≡ calls → IsRun s past → IsLegal s past (Call by home c a w) → is_edt_made (made s past t) ≡ true
    → IsGivenPlan (plan_of s past t) calls → IsGivenPlan (plan_of s (Call by home c a w ∷ past) t) (edt_step by c a t calls)
call_planned s past by home c a w t [] is run legal is_made planned = step_empty by c a t _ (λ own.
    let running : is_running ((parts_of s past).core t) ≡ true = subst (λ (n : ℕ). is_running ((parts_of s past).core n) ≡ true) (eqb-true by t own) legal.on_parts.running in
    let off : is_running ((parts_of s past).core t) ≡ false = ap (λ (l : List edt.EdtCall). is_running (core (made s past t) (identity_of past t) l (loans_of s past t))) is ∙ bare_core (made s past t) (identity_of past t) (loans_of s past t) in
    cc (running, off))
call_planned s past by home c a w t (one ∷ rest) is run legal is_made planned =
    step_some by c a t _ one rest (planned ∙ plan_stays s past (Call by home c a w) t run legal is_made (set_ready s past t one rest run is_made is))

deliver_planned : (s : Setting) (past : History) (e : Entry) (t : ℕ) (calls : List edt.EdtCall) → edt_calls s past t ≡ calls → IsRun s past → IsLegal s past e → is_edt_made (made s past t) ≡ true
    → IsGivenPlan (plan_of s past t) calls → IsGivenPlan (plan_of s (e ∷ past) t) calls
deliver_planned s past e t [] is run legal is_made planned = tt
deliver_planned s past e t (one ∷ rest) is run legal is_made planned = planned ∙ plan_stays s past e t run legal is_made (set_ready s past t one rest run is_made is)

new_planned : (s : Setting) (past : History) (by home : ℕ) (c : body.Call) (a : Answer) (w : List (ℕ × ℕ)) (t : ℕ) (b : Bool) → is_new c a t ≡ b → (is_edt_made (made s past t) ≡ true → IsGivenPlan (plan_of s past t) (edt_calls s past t)) → IsRun s past → IsLegal s past (Call by home c a w)
    → is_edt_made (made s (Call by home c a w ∷ past) t) ≡ true → IsGivenPlan (plan_of s (Call by home c a w ∷ past) t) (if b then [] else edt_step by c a t (edt_calls s past t))
new_planned s past by home c a w t true is before run legal is_made = tt
new_planned s past by home c a w t false is before run legal is_made =
    let was : is_edt_made (made s past t) ≡ true = ap is_edt_made (sym (made_old s past by home c a w t is)) ∙ is_made in
    call_planned s past by home c a w t (edt_calls s past t) refl run legal was (before was)

not_bare : (s : Setting) (past : History) (u t : ℕ) → edt_calls s past t ≡ [] → is_running ((parts_of s past).core u) ≡ true → (u == t) ≡ true → ⊥
not_bare s past u t is on own =
    let running : is_running ((parts_of s past).core t) ≡ true = subst (λ (n : ℕ). is_running ((parts_of s past).core n) ≡ true) (eqb-true u t own) on in
    let off : is_running ((parts_of s past).core t) ≡ false = ap (λ (l : List edt.EdtCall). is_running (core (made s past t) (identity_of past t) l (loans_of s past t))) is ∙ bare_core (made s past t) (identity_of past t) (loans_of s past t) in
    cc (running, off)

last_planned : (b : Bool) (one : edt.EdtCall) (members : List (ℕ × Mode)) (calls : List edt.EdtCall) → (calls ≡ [] → b ≡ true → ⊥) → edt.plan_given (one ∷ calls) ≡ edt.plan_given calls → IsGivenPlan members calls → IsGivenPlan members (if b then one ∷ calls else calls)
last_planned true one members [] bare same is = absurd (bare refl refl)
last_planned true one members (other ∷ rest) bare same is = same ∙ is
last_planned false one members calls bare same is = is

planned : (s : Setting) (past : History) (t : ℕ) → IsRun s past → is_edt_made (made s past t) ≡ true → IsGivenPlan (plan_of s past t) (edt_calls s past t)
planned s [] t run is_made = tt
planned s (Call by home c a w ∷ past) t run is_made = new_planned s past by home c a w t (is_new c a t) refl (planned s past t run.0) run.0 run.1 is_made
planned s (Deliver m c ∷ past) t run is_made = deliver_planned s past (Deliver m c) t (edt_calls s past t) refl run.0 run.1 is_made (planned s past t run.0 is_made)
planned s (Acquire u d ∷ past) t run is_made =
    let before = planned s past t run.0 is_made in
    is_if (u == t) (plan_of s past t) (edt.Acquired d) (awake (with_plan (plan_of s past t) (edt_calls s past t))) (edt_calls s past t) (awake_is (with_plan (plan_of s past t) (edt_calls s past t)) ∙ ready_is (plan_of s past t) (edt_calls s past t) before) before
planned s (StaleAcquire u d ∷ past) t run is_made =
    let before = planned s past t run.0 is_made in
    is_if (u == t) (plan_of s past t) (edt.FoundStale d) (awake (with_plan (plan_of s past t) (edt_calls s past t))) (edt_calls s past t) (awake_is (with_plan (plan_of s past t) (edt_calls s past t)) ∙ ready_is (plan_of s past t) (edt_calls s past t) before) before
planned s (Wait u d ∷ past) t run is_made =
    let before = planned s past t run.0 is_made in
    is_if (u == t) (plan_of s past t) edt.Wait (with_plan (plan_of s past t) (edt_calls s past t)) (edt_calls s past t) (ready_is (plan_of s past t) (edt_calls s past t) before) before
planned s (Start u ∷ past) t run is_made =
    let before = planned s past t run.0 is_made in
    is_if (u == t) (plan_of s past t) edt.Start (with_plan (plan_of s past t) (edt_calls s past t)) (edt_calls s past t) (ready_is (plan_of s past t) (edt_calls s past t) before) before
planned s (Free u d w ∷ past) t run is_made = last_planned (u == t) (edt.DropHold d) (plan_of s past t) (edt_calls s past t) (λ is own. not_bare s past u t is run.1.on_parts.running own) refl (planned s past t run.0 is_made)
planned s (End u g ∷ past) t run is_made = last_planned (u == t) edt.End (plan_of s past t) (edt_calls s past t) (λ is own. not_bare s past u t is run.1.on_parts.running own) refl (planned s past t run.0 is_made)
planned s (e ∷ past) t run is_made = planned s past t run.0 is_made

pub planned_law : PlannedLaw
planned_law s past t run is_one = planned s past t run (edts_law s past run t ∙ is_one)
