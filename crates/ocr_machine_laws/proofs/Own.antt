-- The own entries of an EDT come from its start on, and its body stays.
use Rattle.std.proofs.Common.{◌≡◌, ℕ, nat_lt, List, [], ◌∷◌, Bool, true, false, Option, Some, None, ◌==◌, ◌||◌, if◌then◌else◌, refl, sym, ◌∙◌, ap, subst, is_some, arith}
use Rattle.std.proofs.lemmas.Bool.{eqb-true, or_parts, false_from_ne_true}
use Rattle.std.proofs.lemmas.Grind.{common_steps}
use Rattle.std.proofs.Math.Bool.{or-true}
use Rattle.ocr_edt.specs.declared.Edt.{Edt}
use Rattle.ocr_edt.specs.declared.Edt.TheVariants as phase
use Rattle.ocr_edt.specs.Edt as edt
use Rattle.ocr_body_meaning.specs.declared.call.Call as body
use Rattle.ocr_body_meaning.specs.declared.call.Call.TheVariants as call
use Rattle.ocr_body_meaning.specs.Holds.{Holds}
use Rattle.ocr_body_meaning.specs.Behaviour.{Asked}
use Rattle.ocr_machine_history.specs.declared.entry.Entry.{Entry}
use Rattle.ocr_machine_history.specs.declared.entry.Entry.TheVariants.{Call, Start, Free, End, StaleAcquire, Acquire, Wait}
use Rattle.ocr_machine_history.specs.Edts.{is_started}
use Rattle.ocr_machine_history.specs.History.{History, Setting, own}
use Rattle.ocr_machine_history.specs.Made.{Made, made, is_edt_made, function_in, params_in, is_new}
use Rattle.ocr_machine_parts.specs.declared.part.Part.{Part}
use Rattle.ocr_machine_parts.specs.declared.part.Part.TheVariants as part
use Rattle.ocr_machine_parts.specs.Calls.{open_slots, slots_now, plan_of, edt_step, edt_calls, depv_in, with_plan, awake}
use Rattle.ocr_machine_parts.specs.Parts.{parts_of}
use Rattle.ocr_machine_parts.specs.Kinds.{work_in, is_running, is_acquiring_edt, is_acquiring, next_in, progress_in, core_progress}
use Rattle.ocr_machine_parts.specs.Bodies.{first_holds, body_with, holds_on}
use Rattle.ocr_machine_parts.specs.Progress.{ready_at, next_on}
use Rattle.ocr_machine_parts.specs.Legal.{IsRun, IsLegal}
use Rattle.ocr_machine_laws.specs.Marks.{stage_in, mark_in, mark}
use Rattle.ocr_machine_laws.proofs.Stages.{told_law, ready_told}
use Rattle.ocr_machine_laws.proofs.Edts.{edts_law}
use Rattle.ocr_machine_laws.specs.Permanence.{is_own, has_own, NoOwnLaw, FreshLaw, BodyLaw}
use Rattle.ocr_machine_laws.proofs.Permanence.{made_law, stays_law, edt_not_new}
use Rattle.ocr_acquire.specs.declared.Mode.{Mode}
use Rattle.ocr_body_meaning.specs.declared.call.Answer.{Answer}

-- WHO RUNS has started
running_stage : (e : Edt) → is_some (work_in e) ≡ true → stage_in e ≡ 2
running_stage (phase.Running w) is = refl
running_stage other is = cc is

pub running_mark : (x : Part) → is_running x ≡ true → (mark x).0 ≡ 2
running_mark (part.Core c) is = running_stage c.edt is
running_mark other is = cc is

pub started_by : (s : Setting) (past : History) (t : ℕ) → IsRun s past → is_running ((parts_of s past).core t) ≡ true → is_started past t ≡ true
started_by s past t run running = (told_law s past run t).has_started ∙ ap (λ (n : ℕ). nat_lt 1 n) (running_mark ((parts_of s past).core t) running)

-- WHO MAY START has not started
acquiring_edt : (e : Edt) → is_acquiring_edt e ≡ true → nat_lt 1 (mark_in e).0 ≡ false
acquiring_edt (phase.Acquiring p) is = refl
acquiring_edt other is = cc is

acquiring_mark : (x : Part) → is_acquiring x ≡ true → nat_lt 1 (mark x).0 ≡ false
acquiring_mark (part.Core c) is = acquiring_edt c.edt is
acquiring_mark other is = cc is

pub not_started : (s : Setting) (past : History) (t : ℕ) → IsRun s past → IsLegal s past (Start t) → is_started past t ≡ false
not_started s past t run legal =
    let y : Part = (ready_at t (plan_of s past t) (parts_of s past)).core t in
    (ready_told s past t t (plan_of s past t) legal.on_facts (told_law s past run t)).has_started ∙ acquiring_mark y legal.on_parts.acquiring

pub still_started : (past : History) (e : Entry) (t : ℕ) → is_started past t ≡ true → is_started (e ∷ past) t ≡ true
still_started past (Start u) t is = ap (λ (b : Bool). (u == t) || b) is ∙ or-true (u == t)
still_started past other t is = is

pub at_own : (s : Setting) (past : History) (u t : ℕ) → IsRun s past → is_running ((parts_of s past).core u) ≡ true → (u == t) ≡ true → is_started past t ≡ true
at_own s past u t run running is = subst (λ (n : ℕ). is_started past n ≡ true) (eqb-true u t is) (started_by s past u run running)

pub own_started : (s : Setting) (past : History) (e : Entry) (t : ℕ) → IsRun s past → IsLegal s past e → is_own e t ≡ true → is_started (e ∷ past) t ≡ true
own_started s past (Call u home c a w) t run legal is = at_own s past u t run legal.on_parts.running is
own_started s past (Start u) t run legal is = ap (λ (b : Bool). b || is_started past t) is
own_started s past (Free u d w) t run legal is = at_own s past u t run legal.on_parts.running is
own_started s past (End u g) t run legal is = at_own s past u t run legal.on_parts.running is
own_started s past other t run legal is = cc is

pub has_started : (s : Setting) (past : History) (t : ℕ) → IsRun s past → has_own past t ≡ true → is_started past t ≡ true
has_started s [] t run is = cc is
has_started s (e ∷ past) t run is = elim (is_own e t) as (λ b. is_own e t ≡ b → (b || has_own past t) ≡ true → is_started (e ∷ past) t ≡ true) [
  | true ↦ λ own _. own_started s past e t run.0 run.1 own
  | false ↦ λ _ before. still_started past e t (has_started s past t run.0 before)
] refl is

pub no_own_law : NoOwnLaw
no_own_law s past t run legal = false_from_ne_true (has_own past t) (λ own.
    let on : is_started past t ≡ true = has_started s past t run own in
    let off : is_started past t ≡ false = not_started s past t run legal in
    cc (on, off))

-- CALLS
call_if : (s : Setting) (past : History) (u t : ℕ) (one : Asked) → IsRun s past → is_running ((parts_of s past).core u) ≡ true → is_started past t ≡ false → own past t ≡ [] → (if u == t then one ∷ own past t else own past t) ≡ []
call_if s past u t one run running off none = elim (u == t) as (λ b. (u == t) ≡ b → (if b then one ∷ own past t else own past t) ≡ []) [
  | true ↦ λ here. absurd (let on : is_started past t ≡ true = at_own s past u t run running here in cc (on, off))
  | false ↦ λ _. none
] refl

pub fresh_law : FreshLaw
fresh_law s [] t run off = refl
fresh_law s (Call u home c a w ∷ past) t run off = call_if s past u t _ run.0 run.1.on_parts.running off (fresh_law s past t run.0 off)
fresh_law s (Start u ∷ past) t run off = fresh_law s past t run.0 (or_parts (u == t) (is_started past t) off).1
fresh_law s (other ∷ past) t run off = fresh_law s past t run.0 off

-- THE BODY
pub made_same : (s : Setting) (past : History) (e : Entry) (t : ℕ) (m : Option Made) → made s past t ≡ m → is_edt_made m ≡ true → IsLegal s past e → made s (e ∷ past) t ≡ made s past t
made_same s past e t None is one legal = cc one
made_same s past e t (Some m) is one legal = made_law s past e t m legal is ∙ sym is

-- who goes on has not started
progress_edt : (e : Edt) (y : ℕ × Mode) → next_in (progress_in e) ≡ Some y → nat_lt 1 (mark_in e).0 ≡ false
progress_edt (phase.Acquiring p) y is = refl
progress_edt (phase.Waiting p) y is = refl
progress_edt other y is = cc is

progress_mark : (x : Part) (y : ℕ × Mode) → next_in (core_progress x) ≡ Some y → nat_lt 1 (mark x).0 ≡ false
progress_mark (part.Core c) y is = progress_edt c.edt y is
progress_mark other y is = cc is

pub goes_on : (s : Setting) (past : History) (t : ℕ) (y : ℕ × Mode) → IsRun s past → open_slots s past t ≡ [] → next_on (ready_at t (plan_of s past t) (parts_of s past)) t ≡ Some y → is_started past t ≡ false
goes_on s past t y run set next =
    (ready_told s past t t (plan_of s past t) set (told_law s past run t)).has_started ∙ progress_mark ((ready_at t (plan_of s past t) (parts_of s past)).core t) y next

-- what it found gone stays, while it runs
stale_if : (b : Bool) (one : edt.EdtCall) (calls : List edt.EdtCall) → (b ≡ true → edt.stale_of (one ∷ calls) ≡ edt.stale_of calls) → edt.stale_of (if b then one ∷ calls else calls) ≡ edt.stale_of calls
stale_if true one calls same = same refl
stale_if false one calls same = refl

stale_step : (by : ℕ) (c : body.Call) (a : Answer) (t : ℕ) (calls : List edt.EdtCall) → edt.stale_of (edt_step by c a t calls) ≡ edt.stale_of calls
stale_step by (call.DbCreate n fl) a t calls = stale_if _ (edt.Hold a.value) calls (λ _. refl)
stale_step by (call.DbRelease d) a t calls = stale_if _ (edt.DropHold d) calls (λ _. refl)
stale_step by (call.DbDestroy d) a t calls = stale_if _ (edt.DropHold d) calls (λ _. refl)
stale_step by other a t calls = refl

stale_new : (b : Bool) (calls was : List edt.EdtCall) → b ≡ false → edt.stale_of calls ≡ edt.stale_of was → edt.stale_of (if b then [] else calls) ≡ edt.stale_of was
stale_new true calls was off same = cc off
stale_new false calls was off same = same

pub not_going : (past : History) (u t : ℕ) → is_started past t ≡ true → is_started past u ≡ false → (u == t) ≡ true → ⊥
not_going past u t on off here = let none : is_started past t ≡ false = subst (λ (n : ℕ). is_started past n ≡ false) (eqb-true u t here) off in cc (on, none)

stale_stays : (s : Setting) (past : History) (e : Entry) (t : ℕ) → IsRun s past → IsLegal s past e → is_edt_made (made s past t) ≡ true → is_started past t ≡ true → edt.stale_of (edt_calls s (e ∷ past) t) ≡ edt.stale_of (edt_calls s past t)
stale_stays s past (Call by home c a w) t run legal is_made on =
    stale_new (is_new c a t) (edt_step by c a t (edt_calls s past t)) (edt_calls s past t) (edt_not_new s past by home c a w t legal.on_parts is_made) (stale_step by c a t (edt_calls s past t))
stale_stays s past (Acquire u d) t run legal is_made on = elim (u == t) as (λ b. (u == t) ≡ b → edt.stale_of (if b then edt.Acquired d ∷ awake (with_plan (plan_of s past t) (edt_calls s past t)) else edt_calls s past t) ≡ edt.stale_of (edt_calls s past t)) [
  | true ↦ λ here. absurd (not_going past u t on (goes_on s past u _ run legal.on_facts legal.on_parts.next) here)
  | false ↦ λ _. refl
] refl
stale_stays s past (StaleAcquire u d) t run legal is_made on = elim (u == t) as (λ b. (u == t) ≡ b → edt.stale_of (if b then edt.FoundStale d ∷ awake (with_plan (plan_of s past t) (edt_calls s past t)) else edt_calls s past t) ≡ edt.stale_of (edt_calls s past t)) [
  | true ↦ λ here. absurd (not_going past u t on (goes_on s past u _ run legal.on_facts legal.on_parts.next) here)
  | false ↦ λ _. refl
] refl
stale_stays s past (Wait u d) t run legal is_made on = elim (u == t) as (λ b. (u == t) ≡ b → edt.stale_of (if b then edt.Wait ∷ with_plan (plan_of s past t) (edt_calls s past t) else edt_calls s past t) ≡ edt.stale_of (edt_calls s past t)) [
  | true ↦ λ here. absurd (not_going past u t on (goes_on s past u _ run legal.on_facts legal.on_parts.next) here)
  | false ↦ λ _. refl
] refl
stale_stays s past (Start u) t run legal is_made on = elim (u == t) as (λ b. (u == t) ≡ b → edt.stale_of (if b then edt.Start ∷ with_plan (plan_of s past t) (edt_calls s past t) else edt_calls s past t) ≡ edt.stale_of (edt_calls s past t)) [
  | true ↦ λ here. absurd (not_going past u t on (not_started s past u run legal) here)
  | false ↦ λ _. refl
] refl
stale_stays s past (Free u d w) t run legal is_made on = stale_if (u == t) (edt.DropHold d) (edt_calls s past t) (λ _. refl)
stale_stays s past (End u g) t run legal is_made on = stale_if (u == t) edt.End (edt_calls s past t) (λ _. refl)
stale_stays s past other t run legal is_made on = refl

first_stay : (s : Setting) (past : History) (e : Entry) (t : ℕ) → IsRun s past → IsLegal s past e → is_started past t ≡ true → first_holds s (e ∷ past) t ≡ first_holds s past t
first_stay s past (Start u) t run legal on = elim (u == t) as (λ b. (u == t) ≡ b → (if b then first_now s past u t else first_holds s past t) ≡ first_holds s past t) [
  | true ↦ λ here. absurd (let off : is_started past t ≡ false = subst (λ (n : ℕ). is_started past n ≡ false) (eqb-true u t here) (not_started s past u run legal) in cc (on, off))
  | false ↦ λ _. refl
] refl
  where
    first_now : Setting → History → ℕ → ℕ → Holds
    first_now s past u t = holds_on (parts_of s (Start u ∷ past)) t
first_stay s past other t run legal on = refl

pub started_set : (s : Setting) (past : History) (t : ℕ) → IsRun s past → is_started past t ≡ true → open_slots s past t ≡ []
started_set s past t run on = let told = told_law s past run t in told.all_set (lower (mark ((parts_of s past).core t)).0 (sym told.has_started ∙ on))
  where
    lower : (n : ℕ) → nat_lt 1 n ≡ true → nat_lt 0 n ≡ true
    lower n is = grind (arith, common_steps)

pub body_law : BodyLaw
body_law s past e t run legal is_one on =
    let same : made s (e ∷ past) t ≡ made s past t = made_same s past e t (made s past t) refl (edts_law s past run t ∙ is_one) legal in
    let slots : slots_now s (e ∷ past) t ≡ slots_now s past t = stays_law s past e t run legal is_one (started_set s past t run on) in
    let stale : edt.stale_of (edt_calls s (e ∷ past) t) ≡ edt.stale_of (edt_calls s past t) = stale_stays s past e t run legal (edts_law s past run t ∙ is_one) on in
    let holds : first_holds s (e ∷ past) t ≡ first_holds s past t = first_stay s past e t run legal on in
    λ i. body_with s.program (function_in (same i)) (params_in (same i)) (depv_in (stale i) (slots i)) (holds i)
