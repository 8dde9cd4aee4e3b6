-- What a body holds is what the core of its EDT holds; so it stores, as an entry, only where it holds the block in RW.
use Rattle.std.proofs.Common.{◌≡◌, ℕ, ◌/◌, nat_lt, List, [], ◌∷◌, Bool, true, false, Option, Some, None, ◌==◌, ◌||◌, ◌&&◌, if◌then◌else◌, refl, sym, ◌∙◌, ap, subst}
use Rattle.std.proofs.lemmas.Bool.{eqb-true, and_right, or_parts, false_from_ne_true, cond-false}
use Rattle.ocr_acquire.specs.declared.Mode.{Mode}
use Rattle.ocr_acquire.specs.declared.Mode.TheVariants as mode
use Rattle.ocr_acquire.specs.Mode.{mode_in}
use Rattle.ocr_datablock.specs.Steps.{after_release}
use Rattle.ocr_edt.specs.Edt as edt
use Rattle.ocr_edt.specs.Phases.{without}
use Rattle.ocr_edt.specs.declared.Edt.{Edt}
use Rattle.ocr_edt.specs.declared.Edt.TheVariants as phase
use Rattle.ocr_edt.proofs.Holds.{mode_in-without, mode_in-other}
use Rattle.ocr_body_meaning.specs.Behaviour.{Ends, Asked, IsNext, IsTrace}
use Rattle.ocr_body_meaning.specs.Body.{Body, behaviour, says}
use Rattle.ocr_body_meaning.specs.Holds.{Hold, Holds, Access, Refused, Silent, Entered, is_done, after_call, store_of}
use Rattle.ocr_body_meaning.specs.Laws.{held_after, IsEnteredBy}
use Rattle.ocr_body_meaning.specs.declared.call.Answer.{Answer}
use Rattle.ocr_body_meaning.specs.declared.call.BodyStop.TheVariants as stop
use Rattle.ocr_body_meaning.specs.declared.call.Call as body
use Rattle.ocr_body_meaning.specs.declared.call.Call.TheVariants as call
use Rattle.ocr_body_meaning.proofs.Accesses.{plain_next, access_law}
use Rattle.ocr_machine_history.specs.declared.entry.Entry.{Entry}
use Rattle.ocr_machine_history.specs.declared.entry.Entry.TheVariants.{Call, Acquire, Wait, StaleAcquire, Start, Free, End}
use Rattle.ocr_machine_history.specs.Edts.{is_started}
use Rattle.ocr_machine_history.specs.History.{History, Setting, own}
use Rattle.ocr_machine_history.specs.Made.{makes, Made, MadeEdt, made, is_edt_made, is_new}
use Rattle.ocr_machine_parts.specs.declared.loans.Kept.{Kept}
use Rattle.ocr_machine_parts.specs.declared.part.Part.{Part}
use Rattle.ocr_machine_parts.specs.declared.part.Part.TheVariants as part
use Rattle.ocr_machine_parts.specs.Bodies.{hold_of, holds_on, first_holds, body_of, says_next}
use Rattle.ocr_machine_parts.specs.Calls.{is_holding, edt_step, edt_calls, loan_step, loans_of}
use Rattle.ocr_machine_parts.specs.Effects.{dropped_edt, dropping_core, ended_edt, ended}
use Rattle.ocr_machine_parts.specs.Kinds.{on_core, work_in, holds_of, mode_on, kept_on}
use Rattle.ocr_machine_parts.specs.Legal.{IsRun, IsLegal}
use Rattle.ocr_machine_parts.specs.Loans.{kept_in, with_kept, without_kept, kept_created}
use Rattle.ocr_machine_parts.specs.Parts.{Parts, identity_of, core, parts_of}
use Rattle.ocr_machine_parts.specs.Progress.{with_core, with_phase}
use Rattle.ocr_machine_parts.proofs.After.{after_law}
use Rattle.ocr_machine_parts.proofs.Held.{holds_law}
use Rattle.ocr_machine_parts.proofs.Lent.{loan_kept}
use Rattle.ocr_machine_laws.specs.Marks.{mark}
use Rattle.ocr_machine_laws.proofs.Edts.{edts_law}
use Rattle.ocr_machine_laws.proofs.Stages.{told_law}
use Rattle.ocr_machine_laws.proofs.Permanence.{edt_not_new}
use Rattle.ocr_machine_parts.proofs.Fresh.{made_old}
use Rattle.ocr_machine_laws.proofs.Own.{started_by, not_started, not_going, goes_on, fresh_law, body_law}
use Rattle.ocr_edt.specs.declared.Identity.{Identity}
use Rattle.ocr_base.proofs.Booleans.{same, eqb_flips}

-- the EDT of a call is another one
holding_off : (by fl : ℕ) (a : Answer) (t : ℕ) → (by == t) ≡ false → is_holding by fl a t ≡ false
holding_off by fl a t off = and_right (is_done a.code) ((by == t) && (fl == 0)) (rw off refl)

edt_other : (by : ℕ) (c : body.Call) (a : Answer) (t : ℕ) (calls : List edt.EdtCall) → (by == t) ≡ false → edt_step by c a t calls ≡ calls
edt_other by (call.DbCreate n fl) a t calls off = cond-false _ (edt.Hold a.value ∷ calls) calls (holding_off by fl a t off)
edt_other by (call.DbRelease d) a t calls off = cond-false _ (edt.DropHold d ∷ calls) calls (and_right (is_done a.code) (by == t) off)
edt_other by (call.DbDestroy d) a t calls off = cond-false _ (edt.DropHold d ∷ calls) calls (and_right (is_done a.code) (by == t) off)
edt_other by other a t calls off = refl

loan_other : (by : ℕ) (c : body.Call) (a : Answer) (t : ℕ) (loans : List (ℕ × Kept)) → (by == t) ≡ false → loan_step by c a t loans ≡ loans
loan_other by (call.DbCreate n fl) a t loans off = cond-false _ (with_kept a.value (kept_created (n / 8)) loans) loans (holding_off by fl a t off)
loan_other by (call.DbRelease d) a t loans off = cond-false _ (without_kept d loans) loans (and_right (is_done a.code) (by == t) off)
loan_other by (call.DbDestroy d) a t loans off = cond-false _ (without_kept d loans) loans (and_right (is_done a.code) (by == t) off)
loan_other by other a t loans off = refl

-- who is not made anew is who it was
identity_old : (past : History) (by home : ℕ) (c : body.Call) (a : Answer) (w : List (ℕ × ℕ)) (t : ℕ) → is_new c a t ≡ false → identity_of (Call by home c a w ∷ past) t ≡ identity_of past t
identity_old past by home (call.EdtCreate from pc ps dc ds fl o) a w t off = cond-false (makes a t) _ (identity_of past t) (or_parts _ (makes a t) off).1
identity_old past by home other a w t off = refl

other_call : (s : Setting) (past : History) (by home : ℕ) (c : body.Call) (a : Answer) (w : List (ℕ × ℕ)) (t : ℕ) → IsLegal s past (Call by home c a w) → is_edt_made (made s past t) ≡ true → (by == t) ≡ false
    → (parts_of s (Call by home c a w ∷ past)).core t ≡ (parts_of s past).core t
other_call s past by home c a w t legal is_made off =
    let old : is_new c a t ≡ false = edt_not_new s past by home c a w t legal.on_parts is_made in
    let calls : edt_calls s (Call by home c a w ∷ past) t ≡ edt_calls s past t = cond-false (is_new c a t) [] _ old ∙ edt_other by c a t (edt_calls s past t) off in
    let loans : loans_of s (Call by home c a w ∷ past) t ≡ loans_of s past t = cond-false (is_new c a t) [] _ old ∙ loan_other by c a t (loans_of s past t) off in
    let named : identity_of (Call by home c a w ∷ past) t ≡ identity_of past t = identity_old past by home c a w t old in
    λ i. core (made_old s past by home c a w t old i) (named i) (calls i) (loans i)

-- WHAT A BODY HOLDS: its calls came from it, and as long as it goes on it holds, but for what it stored there, what its core does; what its core holds later it held at its end
pub record IsTied (b : Body) (log : List Asked) (held : Holds) : Type 0 where
  pub trace : IsTrace (behaviour b) log
  pub holds : (c : body.Call) → IsNext c (says b log) → (d : ℕ) → held_after log b.holds d ≡ held d
  pub left : (d : ℕ) (h : Hold) → held d ≡ Some h → held_after log b.holds d ≡ Some h

tied_by : (b g : Body) (log now : List Asked) (held new : Holds) → g ≡ b → now ≡ log → ((c : body.Call) → IsNext c (says b log) → (d : ℕ) → held d ≡ new d)
    → ((d : ℕ) (h : Hold) → new d ≡ Some h → held d ≡ Some h) → IsTied b log held → IsTied g now new
tied_by b g log now held new bodies logs cores fewer tied =
    subst (λ (x : Body). IsTied x now new) (sym bodies)
    (subst (λ (l : List Asked). IsTied b l new) (sym logs) (record { trace = tied.trace; holds = λ c next d. tied.holds c next d ∙ cores c next d; left = λ d h is. tied.left d h (fewer d h is) }))

asked_tied : (b : Body) (log : List Asked) (held : Holds) (c : body.Call) (a : Answer) → IsNext c (says b log) → IsTied b log held → IsTied b ((record { call = c; answer = a }) ∷ log) (after_call c a held)
asked_tied b log held c a next tied = record {
  trace = (tied.trace, next);
  holds = λ _ _ d. ap (λ (h : Holds). after_call c a h d) (λ i x. tied.holds c next x i);
  left = λ d h is. ap (λ (h : Holds). after_call c a h d) (λ i x. tied.holds c next x i) ∙ is;
}

abbrev pub TiedAt : Setting → History → ℕ → Type 0
TiedAt s past t = IsTied (body_of s past t) (own past t) (holds_on (parts_of s past) t)

same_core : (s : Setting) (past now : History) (t : ℕ) → body_of s now t ≡ body_of s past t → own now t ≡ own past t → (parts_of s now).core t ≡ (parts_of s past).core t → TiedAt s past t → TiedAt s now t
same_core s past now t bodies logs cores tied =
    tied_by (body_of s past t) (body_of s now t) (own past t) (own now t) (holds_on (parts_of s past) t) (holds_on (parts_of s now) t) bodies logs
    (λ c next d. ap (λ (x : Part). hold_of (mode_on x d) (kept_on x d)) (sym cores))
    (λ d h is. ap (λ (x : Part). hold_of (mode_on x d) (kept_on x d)) (sym cores) ∙ is) tied

-- a body that has come to its end makes no call, and its core holds no more than before
abbrev HoldsNoMore : Parts → Parts → ℕ → Type 0
HoldsNoMore f g t = (d : ℕ) (h : Hold) → holds_on g t d ≡ Some h → holds_on f t d ≡ Some h

ended_tied : (s : Setting) (past now : History) (t g : ℕ) (held : Holds) → body_of s now t ≡ body_of s past t → own now t ≡ own past t → says_next s past t ≡ Ends g held → HoldsNoMore (parts_of s past) (parts_of s now) t → TiedAt s past t → TiedAt s now t
ended_tied s past now t g held bodies logs ends fewer tied =
    tied_by (body_of s past t) (body_of s now t) (own past t) (own now t) (holds_on (parts_of s past) t) (holds_on (parts_of s now) t) bodies logs
    (λ c next d. absurd (subst (IsNext c) ends next)) fewer tied

no_hold : (m : Option Mode) (k : Option Kept) (h : Hold) → m ≡ None → hold_of m k ≡ Some h → ⊥
no_hold m (Some k) h is held = let none : hold_of m (Some k) ≡ None = ap (λ (o : Option Mode). hold_of o (Some k)) is in cc (none, held)
no_hold m None h is held = let none : hold_of m None ≡ None = ap (λ (o : Option Mode). hold_of o None) is in cc (none, held)

-- where it gives a block back
dropped_mode : (e : Edt) (b d : ℕ) → mode_in d (holds_of (work_in (dropped_edt b e))) ≡ (if d == b then None else mode_in d (holds_of (work_in e)))
dropped_mode (phase.Running w) b d = elim (d == b) as (λ x. (d == b) ≡ x → mode_in d (without b w.holds) ≡ (if x then None else mode_in d w.holds)) [
  | true ↦ λ here. subst (λ (n : ℕ). mode_in d (without n w.holds) ≡ None) (eqb-true d b here) (mode_in-without d w.holds)
  | false ↦ λ apart. mode_in-other b d w.holds apart
] refl
dropped_mode other b d = elim (d == b) as (λ x. ◌≡◌ {A = Option Mode} None (if x then None else None)) [ true ↦ refl | false ↦ refl ]

dropped_hold : (x : Part) (b d : ℕ) (h : Hold) → hold_of (mode_on (on_core x (dropping_core b)) d) (kept_on (on_core x (dropping_core b)) d) ≡ Some h → hold_of (mode_on x d) (kept_on x d) ≡ Some h
dropped_hold (part.Core c) b d h is = elim (d == b) as (λ x. (d == b) ≡ x → hold_of (mode_in d (holds_of (work_in c.edt))) (kept_in d c.loans) ≡ Some h) [
  | true ↦ λ here. absurd (no_hold (mode_in d (holds_of (work_in (dropped_edt b c.edt)))) (kept_in d (without_kept b c.loans)) h (dropped_mode c.edt b d ∙ rw here refl) is)
  | false ↦ λ apart.
      let mode : mode_in d (holds_of (work_in (dropped_edt b c.edt))) ≡ mode_in d (holds_of (work_in c.edt)) = dropped_mode c.edt b d ∙ rw apart refl in
      let kept : kept_in d (without_kept b c.loans) ≡ kept_in d c.loans = loan_kept b d c.loans (eqb_flips b d ∙ apart) in
      sym (λ i. hold_of (mode i) (kept i)) ∙ is
] refl
dropped_hold other b d h is = is

freed_less : (s : Setting) (past : History) (t d : ℕ) (w : List (ℕ × ℕ)) → IsRun s past → IsLegal s past (Free t d w) → HoldsNoMore (parts_of s past) (parts_of s (Free t d w ∷ past)) t
freed_less s past t d w run legal x h is =
    let after : holds_on (parts_of s (Free t d w ∷ past)) t x ≡ holds_on (ended after_release (parts_of s past) t d w) t x = ap (λ (f : Parts). holds_on f t x) (after_law s past (Free t d w) run legal) in
    dropped_hold ((parts_of s past).core t) d x h (sym (after ∙ rw (same t) refl) ∙ is)

-- and where it ends
ended_hold : (x : Part) (d : ℕ) (h : Hold) → hold_of (mode_on (on_core x (with_phase ended_edt)) d) (kept_on (on_core x (with_phase ended_edt)) d) ≡ Some h → hold_of (mode_on x d) (kept_on x d) ≡ Some h
ended_hold (part.Core c) d h is = over c.edt is
  where
    over : (e : Edt) → hold_of (mode_in d (holds_of (work_in (ended_edt e)))) (kept_in d c.loans) ≡ Some h → hold_of (mode_in d (holds_of (work_in e))) (kept_in d c.loans) ≡ Some h
    over (phase.Running w) is = absurd (no_hold None (kept_in d c.loans) h refl is)
    over other is = is
ended_hold other d h is = is

ended_less : (s : Setting) (past : History) (t g : ℕ) → IsRun s past → IsLegal s past (End t g) → HoldsNoMore (parts_of s past) (parts_of s (End t g ∷ past)) t
ended_less s past t g run legal x h is =
    let y : Part = (parts_of s past).core t in
    let after : holds_on (parts_of s (End t g ∷ past)) t x ≡ holds_on (with_core (parts_of s past) t (on_core y (with_phase ended_edt))) t x = ap (λ (f : Parts). holds_on f t x) (after_law s past (End t g) run legal) in
    ended_hold y x h (sym (after ∙ rw (same t) refl) ∙ is)

own_call : (s : Setting) (past : History) (t home : ℕ) (c : body.Call) (a : Answer) (w : List (ℕ × ℕ)) → IsRun s past → IsLegal s past (Call t home c a w) → body_of s (Call t home c a w ∷ past) t ≡ body_of s past t → TiedAt s past t
    → TiedAt s (Call t home c a w ∷ past) t
own_call s past t home c a w run legal bodies tied =
    let now : History = Call t home c a w ∷ past in
    let next : IsNext c (says_next s past t) = plain_next c legal.said.0 (says_next s past t) legal.said.1 in
    let logs : own now t ≡ (record { call = c; answer = a }) ∷ own past t = rw (same t) refl in
    let cores : (d : ℕ) → after_call c a (holds_on (parts_of s past) t) d ≡ holds_on (parts_of s now) t d = λ d.
    sym (ap (λ (f : Parts). holds_on f t d) (after_law s past (Call t home c a w) run legal) ∙ holds_law s.limit (parts_of s past) t home c a w legal.on_parts d) in
    tied_by (body_of s past t) (body_of s now t) ((record { call = c; answer = a }) ∷ own past t) (own now t) (after_call c a (holds_on (parts_of s past) t)) (holds_on (parts_of s now) t) bodies logs
    (λ _ _ d. cores d) (λ d h is. cores d ∙ is)
    (asked_tied (body_of s past t) (own past t) (holds_on (parts_of s past) t) c a next tied)

-- THROUGH EACH ENTRY
pub started_made : (m : Option Made) (i : Identity) (calls : List edt.EdtCall) (loans : List (ℕ × Kept)) → nat_lt 1 (mark (core m i calls loans)).0 ≡ true → is_edt_made m ≡ true
started_made (Some (MadeEdt f ps n)) i calls loans is = refl
started_made other i calls loans is = cc is

pub apart : (past : History) (u t : ℕ) → is_started past t ≡ true → is_started past u ≡ false → (u == t) ≡ false
apart past u t on off = false_from_ne_true (u == t) (not_going past u t on off)

goes : (s : Setting) (past : History) (e : Entry) (t : ℕ) → IsRun s past → IsLegal s past e → is_started past t ≡ true → is_edt_made (made s past t) ≡ true → body_of s (e ∷ past) t ≡ body_of s past t → TiedAt s past t → TiedAt s (e ∷ past) t
goes s past (Call u home c a w) t run legal on is_made bodies tied = elim (u == t) as (λ b. (u == t) ≡ b → TiedAt s (Call u home c a w ∷ past) t) [
  | true ↦ λ here.
      let at : u ≡ t = eqb-true u t here in
      subst (TiedAt s (Call u home c a w ∷ past)) at
      (own_call s past u home c a w run legal (subst (λ (n : ℕ). body_of s (Call u home c a w ∷ past) n ≡ body_of s past n) (sym at) bodies) (subst (TiedAt s past) (sym at) tied))
  | false ↦ λ off. same_core s past (Call u home c a w ∷ past) t bodies (rw off refl) (other_call s past u home c a w t legal is_made off) tied
] refl
goes s past (Acquire u d) t run legal on is_made bodies tied =
    let off = apart past u t on (goes_on s past u _ run legal.on_facts legal.on_parts.next) in
    same_core s past (Acquire u d ∷ past) t bodies refl (rw off (refl {a = (parts_of s past).core t})) tied
goes s past (Wait u d) t run legal on is_made bodies tied =
    let off = apart past u t on (goes_on s past u _ run legal.on_facts legal.on_parts.next) in
    same_core s past (Wait u d ∷ past) t bodies refl (rw off (refl {a = (parts_of s past).core t})) tied
goes s past (StaleAcquire u d) t run legal on is_made bodies tied =
    let off = apart past u t on (goes_on s past u _ run legal.on_facts legal.on_parts.next) in
    same_core s past (StaleAcquire u d ∷ past) t bodies refl (rw off (refl {a = (parts_of s past).core t})) tied
goes s past (Start u) t run legal on is_made bodies tied =
    let off = apart past u t on (not_started s past u run legal) in
    same_core s past (Start u ∷ past) t bodies refl (rw off (refl {a = (parts_of s past).core t})) tied
goes s past (Free u d w) t run legal on is_made bodies tied = elim (u == t) as (λ b. (u == t) ≡ b → TiedAt s (Free u d w ∷ past) t) [
  | true ↦ λ here. ended_tied s past (Free u d w ∷ past) t legal.said.0 legal.said.1 bodies refl (subst (λ (n : ℕ). says_next s past n ≡ Ends legal.said.0 legal.said.1) (eqb-true u t here) legal.said.2)
      (subst (λ (n : ℕ). HoldsNoMore (parts_of s past) (parts_of s (Free u d w ∷ past)) n) (eqb-true u t here) (freed_less s past u d w run legal)) tied
  | false ↦ λ off. same_core s past (Free u d w ∷ past) t bodies refl (rw off (refl {a = (parts_of s past).core t})) tied
] refl
goes s past (End u g) t run legal on is_made bodies tied = elim (u == t) as (λ b. (u == t) ≡ b → TiedAt s (End u g ∷ past) t) [
  | true ↦ λ here. ended_tied s past (End u g ∷ past) t g legal.said.0 bodies refl (subst (λ (n : ℕ). says_next s past n ≡ Ends g legal.said.0) (eqb-true u t here) legal.said.1)
      (subst (λ (n : ℕ). HoldsNoMore (parts_of s past) (parts_of s (End u g ∷ past)) n) (eqb-true u t here) (ended_less s past u g run legal)) tied
  | false ↦ λ off. same_core s past (End u g ∷ past) t bodies refl (rw off (refl {a = (parts_of s past).core t})) tied
] refl
goes s past other t run legal on is_made bodies tied = same_core s past (other ∷ past) t bodies refl (refl {a = (parts_of s past).core t}) tied

-- at its start
begins : (s : Setting) (past : History) (e : Entry) (t : ℕ) → IsRun s past → IsLegal s past e → is_started past t ≡ false → is_started (e ∷ past) t ≡ true → TiedAt s (e ∷ past) t
begins s past (Start u) t run legal off on =
    let here : (u == t) ≡ true = or_true (u == t) (is_started past t) off on in
    subst (λ (log : List Asked). IsTied (body_of s (Start u ∷ past) t) log (holds_on (parts_of s (Start u ∷ past)) t)) (sym (fresh_law s past t run off))
    (record { trace = tt; holds = λ c next d. ap (λ (h : Holds). h d) (first_now here); left = λ d h is. ap (λ (h : Holds). h d) (first_now here) ∙ is })
  where
    or_true : (b c : Bool) → c ≡ false → (b || c) ≡ true → b ≡ true
    or_true true c off on = refl
    or_true false c off on = cc (off, on)

    first_now : (u == t) ≡ true → first_holds s (Start u ∷ past) t ≡ holds_on (parts_of s (Start u ∷ past)) t
    first_now here = rw here refl
begins s past other t run legal off on = cc (off, on)

pub tied : (s : Setting) (past : History) (t : ℕ) → IsRun s past → is_started past t ≡ true → TiedAt s past t
tied s [] t run on = cc on
tied s (e ∷ past) t run on = elim (is_started past t) as (λ b. is_started past t ≡ b → TiedAt s (e ∷ past) t) [
  | true ↦ λ was.
      let is_made : is_edt_made (made s past t) ≡ true = started_made (made s past t) (identity_of past t) (edt_calls s past t) (loans_of s past t) (sym (told_law s past run.0 t).has_started ∙ was) in
      goes s past e t run.0 run.1 was is_made (body_law s past e t run.0 run.1 (sym (edts_law s past run.0 t) ∙ is_made) was) (tied s past t run.0 was)
  | false ↦ λ was. begins s past e t run.0 run.1 was on
] refl

-- WHAT IS ENTERED: a load or a store that a body says is one that its core's holds make an entry
pub enters : (s : Setting) (past : History) (t : ℕ) (c : body.Call) → IsRun s past → is_started past t ≡ true → IsNext c (says_next s past t) → IsEnteredBy (holds_on (parts_of s past) t) c
enters s past t c run on next =
    let with_core = tied s past t run on in
    subst (λ (h : Holds). IsEnteredBy h c) (λ i d. with_core.holds c next d i) (access_law (body_of s past t) (own past t) c with_core.trace next)

-- A STORE that is an entry
entered_if : (b : Bool) → ◌≡◌ {A = Access} (if b then Silent 0 else Refused stop.BadIndex) Entered → ⊥
entered_if true is = cc is
entered_if false is = cc is

entered_rw : (m : Option Mode) (k : Option Kept) (w : ℕ) → store_of (hold_of m k) w ≡ Entered → m ≡ Some mode.Rw
entered_rw (Some mode.Rw) (Some kept) w is = refl
entered_rw (Some mode.Ew) (Some kept) w is = absurd (entered_if (nat_lt w kept.size) is)
entered_rw (Some other) (Some kept) w is = cc is
entered_rw (Some m) None w is = cc is
entered_rw None k w is = cc is

-- an EDT stores, as an entry, only in a block that it holds in RW
pub stores_in_rw : (s : Setting) (past : History) (t home d k v : ℕ) (a : Answer) (w : List (ℕ × ℕ)) → IsRun s past → IsLegal s past (Call t home (call.Store d k v) a w) → mode_on ((parts_of s past).core t) d ≡ Some mode.Rw
stores_in_rw s past t home d k v a w run legal =
    let next : IsNext (call.Store d k v) (says_next s past t) = plain_next (call.Store d k v) legal.said.0 (says_next s past t) legal.said.1 in
    entered_rw (mode_on ((parts_of s past).core t) d) (kept_on ((parts_of s past).core t) d) k
    (enters s past t (call.Store d k v) run (started_by s past t run legal.on_parts.running) next)
