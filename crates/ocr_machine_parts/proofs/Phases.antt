-- EDTs over their calls: plans, and the steps of phases.
use Rattle.std.proofs.Common.{◌≡◌, ℕ, List, [], ◌∷◌, Bool, true, false, Option, Some, None, ◌==◌, ◌&&◌, if◌then◌else◌, refl, sym, ◌∙◌, ap, is_some}
use Rattle.ocr_acquire.specs.declared.Mode.{Mode}
use Rattle.ocr_acquire.specs.Plan as plan
use Rattle.ocr_acquire.proofs.Laws.{given_law}
use Rattle.ocr_edt.specs.declared.Edt.{Edt}
use Rattle.ocr_edt.specs.declared.Edt.TheVariants as phase
use Rattle.ocr_edt.specs.declared.Identity.{Identity}
use Rattle.ocr_edt.specs.Edt as edt
use Rattle.ocr_edt.specs.Phases.{Progress, Work, next_of, first_of}
use Rattle.ocr_edt.proofs.Laws.{ready_law, acquired_law, stale_law, wait_law, resumed_law, start_law, hold_law, drop_law, end_law}
use Rattle.ocr_body_meaning.specs.declared.call.Call as body
use Rattle.ocr_body_meaning.specs.declared.call.Call.TheVariants as call
use Rattle.ocr_body_meaning.specs.declared.call.Answer.{Answer}
use Rattle.ocr_machine_history.specs.declared.entry.Entry.TheVariants.{Call, Acquire, Wait, StaleAcquire, Start, Free, End}
use Rattle.ocr_machine_history.specs.History.{History, Setting}
use Rattle.ocr_machine_history.specs.Made.{Made, MadeEdt, is_new, is_edt_made}
use Rattle.ocr_machine_parts.specs.Calls.{edt_step, edt_calls, with_plan, awake, plan_of, asks_in, slots_now}
use Rattle.ocr_machine_parts.specs.Effects.{awoken, acquired_edt, waiting_edt, started_edt, holding_edt, dropped_edt, ended_edt, stale_edt}
use Rattle.ocr_machine_parts.specs.Progress.{made_ready}
use Rattle.ocr_body_meaning.specs.Holds.{is_done}
use Rattle.ocr_machine_parts.specs.Kinds.{is_acquiring_edt, next_in, progress_in, work_in, identity_on}
use Rattle.ocr_machine_parts.specs.Parts.{core}
use Rattle.ocr_machine_parts.specs.declared.loans.Kept.{Kept}

-- PLANS that were given are well formed
abbrev pub IsFormed : List edt.EdtCall → Type 0
IsFormed calls = plan.IsWellFormed (edt.plan_given calls)

formed_if : (b : Bool) (x y : List edt.EdtCall) → IsFormed x → IsFormed y → IsFormed (if b then x else y)
formed_if true x y p q = p
formed_if false x y p q = q

pub formed_ready : (s : Setting) (past : History) (t : ℕ) (calls : List edt.EdtCall) → IsFormed calls → IsFormed (with_plan (plan_of s past t) calls)
formed_ready s past t [] is = given_law (asks_in (slots_now s past t))
formed_ready s past t (one ∷ rest) is = is

formed_awake : (calls : List edt.EdtCall) → IsFormed calls → IsFormed (awake calls)
formed_awake (edt.Wait ∷ rest) is = is
formed_awake other is = is

formed_step : (by : ℕ) (c : body.Call) (a : Answer) (t : ℕ) (calls : List edt.EdtCall) → IsFormed calls → IsFormed (edt_step by c a t calls)
formed_step by (call.DbCreate n fl) a t calls is = formed_if (is_done a.code && ((by == t) && (fl == 0))) (edt.Hold a.value ∷ calls) calls is is
formed_step by (call.DbRelease d) a t calls is = formed_if (is_done a.code && (by == t)) (edt.DropHold d ∷ calls) calls is is
formed_step by (call.DbDestroy d) a t calls is = formed_if (is_done a.code && (by == t)) (edt.DropHold d ∷ calls) calls is is
formed_step by other a t calls is = is

pub formed : (s : Setting) (past : History) (t : ℕ) → IsFormed (edt_calls s past t)
formed s [] t = given_law []
formed s (Call by home c a w ∷ past) t = formed_if (is_new c a t) [] _ (given_law []) (formed_step by c a t (edt_calls s past t) (formed s past t))
formed s (Acquire u d ∷ past) t = formed_if (u == t) (edt.Acquired d ∷ awake (with_plan (plan_of s past t) (edt_calls s past t))) (edt_calls s past t)
    (formed_awake (with_plan (plan_of s past t) (edt_calls s past t)) (formed_ready s past t (edt_calls s past t) (formed s past t))) (formed s past t)
formed s (StaleAcquire u d ∷ past) t = formed_if (u == t) (edt.FoundStale d ∷ awake (with_plan (plan_of s past t) (edt_calls s past t))) (edt_calls s past t)
    (formed_awake (with_plan (plan_of s past t) (edt_calls s past t)) (formed_ready s past t (edt_calls s past t) (formed s past t))) (formed s past t)
formed s (Wait u d ∷ past) t = formed_if (u == t) (edt.Wait ∷ with_plan (plan_of s past t) (edt_calls s past t)) (edt_calls s past t) (formed_ready s past t (edt_calls s past t) (formed s past t)) (formed s past t)
formed s (Start u ∷ past) t = formed_if (u == t) (edt.Start ∷ with_plan (plan_of s past t) (edt_calls s past t)) (edt_calls s past t) (formed_ready s past t (edt_calls s past t) (formed s past t)) (formed s past t)
formed s (Free u d w ∷ past) t = formed_if (u == t) (edt.DropHold d ∷ edt_calls s past t) (edt_calls s past t) (formed s past t) (formed s past t)
formed s (End u g ∷ past) t = formed_if (u == t) (edt.End ∷ edt_calls s past t) (edt_calls s past t) (formed s past t) (formed s past t)
formed s (e ∷ past) t = formed s past t

-- STEPS
pub ready_calls : (i : Identity) (members : List (ℕ × Mode)) (calls : List edt.EdtCall) → edt.edt_of i (with_plan members calls) ≡ made_ready members (edt.edt_of i calls)
ready_calls i members [] = ready_law i i [] members refl
ready_calls i members (edt.Wait ∷ rest) = refl
ready_calls i members (other ∷ rest) = refl

awake_calls : (i : Identity) (calls : List edt.EdtCall) → edt.edt_of i (awake calls) ≡ awoken (edt.edt_of i calls)
awake_calls i [] = refl
awake_calls i (edt.Wait ∷ rest) = resumed_law i (edt.progress_of i (edt.Wait ∷ rest)) (edt.Wait ∷ rest) refl
awake_calls i (other ∷ rest) = refl

-- what comes next by the phase comes next by the calls
phase_rest : (i : Identity) (one : edt.EdtCall) (rest : List edt.EdtCall) (s : Progress) → progress_in (edt.edt_of i (one ∷ rest)) ≡ Some s → s.rest ≡ edt.undone_of (one ∷ rest)
phase_rest i edt.Wait rest s is = cc
phase_rest i other rest s is = cc

progress_rest : (i : Identity) (calls : List edt.EdtCall) (s : Progress) → progress_in (edt.edt_of i calls) ≡ Some s → s.rest ≡ edt.undone_of calls
progress_rest i [] s is = cc
progress_rest i (one ∷ rest) s is = phase_rest i one rest s is

next_some : (o : Option Progress) (x : ℕ × Mode) → next_in o ≡ Some x → (s : Progress) × (o ≡ Some s) × (next_of s ≡ Some x)
next_some None x is = cc
next_some (Some s) x is = (s, refl, is)

-- the next member of the plan, told by an EDT that was made ready
pub next_is : (i : Identity) (members : List (ℕ × Mode)) (calls : List edt.EdtCall) (x : ℕ × Mode) → next_in (progress_in (made_ready members (edt.edt_of i calls))) ≡ Some x
    → first_of (edt.undone_of (with_plan members calls)) ≡ Some x
next_is i members calls x next =
    let found = next_some (progress_in (made_ready members (edt.edt_of i calls))) x next in
    let rest : found.0.rest ≡ edt.undone_of (with_plan members calls) = progress_rest i (with_plan members calls) found.0 (ap progress_in (ready_calls i members calls) ∙ found.1) in
    ap first_of (sym rest) ∙ found.2

awoken_acquires : (e : Edt) (s : Progress) → progress_in e ≡ Some s → awoken e ≡ phase.Acquiring s
awoken_acquires (phase.Acquiring p) s is = cc
awoken_acquires (phase.Waiting p) s is = cc
awoken_acquires other s is = cc

pub edt_acquired : (i : Identity) (members : List (ℕ × Mode)) (calls : List edt.EdtCall) (d : ℕ) (m : Mode) → IsFormed (with_plan members calls)
    → next_in (progress_in (made_ready members (edt.edt_of i calls))) ≡ Some (d, m)
    → edt.edt_of i (edt.Acquired d ∷ awake (with_plan members calls)) ≡ acquired_edt (awoken (made_ready members (edt.edt_of i calls)))
edt_acquired i members calls d m is_formed next =
    let ready : Edt = made_ready members (edt.edt_of i calls) in
    let found = next_some (progress_in ready) (d, m) next in
    let acquires : awoken ready ≡ phase.Acquiring found.0 = awoken_acquires ready found.0 found.1 in
    acquired_law i found.0 (awake (with_plan members calls)) d m (awake_calls i (with_plan members calls) ∙ ap awoken (ready_calls i members calls) ∙ acquires)
    (formed_awake (with_plan members calls) is_formed) found.2
    ∙ sym (ap acquired_edt acquires)

pub edt_stale : (i : Identity) (members : List (ℕ × Mode)) (calls : List edt.EdtCall) (d : ℕ) (m : Mode) → IsFormed (with_plan members calls)
    → next_in (progress_in (made_ready members (edt.edt_of i calls))) ≡ Some (d, m)
    → edt.edt_of i (edt.FoundStale d ∷ awake (with_plan members calls)) ≡ stale_edt (awoken (made_ready members (edt.edt_of i calls)))
edt_stale i members calls d m is_formed next =
    let ready : Edt = made_ready members (edt.edt_of i calls) in
    let found = next_some (progress_in ready) (d, m) next in
    let acquires : awoken ready ≡ phase.Acquiring found.0 = awoken_acquires ready found.0 found.1 in
    stale_law i found.0 (awake (with_plan members calls)) d m (awake_calls i (with_plan members calls) ∙ ap awoken (ready_calls i members calls) ∙ acquires)
    (formed_awake (with_plan members calls) is_formed) found.2
    ∙ sym (ap stale_edt acquires)

acquiring_is : (e : Edt) → is_acquiring_edt e ≡ true → (s : Progress) × (e ≡ phase.Acquiring s)
acquiring_is (phase.Acquiring s) is = (s, refl)
acquiring_is other is = cc

pub edt_waited : (i : Identity) (members : List (ℕ × Mode)) (calls : List edt.EdtCall) → is_acquiring_edt (made_ready members (edt.edt_of i calls)) ≡ true
    → edt.edt_of i (edt.Wait ∷ with_plan members calls) ≡ waiting_edt (made_ready members (edt.edt_of i calls))
edt_waited i members calls is =
    let found = acquiring_is (made_ready members (edt.edt_of i calls)) is in
    wait_law i found.0 (with_plan members calls) (ready_calls i members calls ∙ found.1) ∙ sym (ap waiting_edt found.1)

pub edt_started : (i : Identity) (members : List (ℕ × Mode)) (calls : List edt.EdtCall) → is_acquiring_edt (made_ready members (edt.edt_of i calls)) ≡ true
    → edt.edt_of i (edt.Start ∷ with_plan members calls) ≡ started_edt (made_ready members (edt.edt_of i calls))
edt_started i members calls is =
    let found = acquiring_is (made_ready members (edt.edt_of i calls)) is in
    start_law i found.0 (with_plan members calls) (ready_calls i members calls ∙ found.1) ∙ sym (ap started_edt found.1)

running_work : (e : Edt) → is_some (work_in e) ≡ true → (w : Work) × (e ≡ phase.Running w)
running_work (phase.Running w) is = (w, refl)
running_work other is = cc

pub edt_held : (i : Identity) (calls : List edt.EdtCall) (d : ℕ) → is_some (work_in (edt.edt_of i calls)) ≡ true → edt.edt_of i (edt.Hold d ∷ calls) ≡ holding_edt d (edt.edt_of i calls)
edt_held i calls d running = let found = running_work (edt.edt_of i calls) running in rw found.1 (hold_law i found.0 calls d found.1)

pub edt_dropped : (i : Identity) (calls : List edt.EdtCall) (d : ℕ) → is_some (work_in (edt.edt_of i calls)) ≡ true → edt.edt_of i (edt.DropHold d ∷ calls) ≡ dropped_edt d (edt.edt_of i calls)
edt_dropped i calls d running = let found = running_work (edt.edt_of i calls) running in rw found.1 (drop_law i found.0 calls d found.1)

pub edt_ended : (i : Identity) (calls : List edt.EdtCall) → is_some (work_in (edt.edt_of i calls)) ≡ true → edt.edt_of i (edt.End ∷ calls) ≡ ended_edt (edt.edt_of i calls)
edt_ended i calls running = let found = running_work (edt.edt_of i calls) running in rw found.1 (end_law i found.0 calls found.1)

-- an EDT is who it was made as, in every phase
same_identity : (i : Identity) (calls : List edt.EdtCall) → edt.identity_of (edt.edt_of i calls) ≡ i
same_identity i [] = refl
same_identity i (edt.Ready plan ∷ rest) = refl
same_identity i (edt.Acquired g ∷ rest) = refl
same_identity i (edt.FoundStale g ∷ rest) = refl
same_identity i (edt.Wait ∷ rest) = refl
same_identity i (edt.Resumed ∷ rest) = refl
same_identity i (edt.Start ∷ rest) = refl
same_identity i (edt.Hold g ∷ rest) = refl
same_identity i (edt.DropHold g ∷ rest) = refl
same_identity i (edt.End ∷ rest) = refl

pub identity_is : (m : Option Made) (i : Identity) (calls : List edt.EdtCall) (loans : List (ℕ × Kept)) → is_edt_made m ≡ true → identity_on (core m i calls loans) ≡ i
identity_is (Some (MadeEdt f ps n)) i calls loans is = same_identity i calls
identity_is other i calls loans is = cc is
