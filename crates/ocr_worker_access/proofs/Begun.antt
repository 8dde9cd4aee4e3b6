-- What the Start of an EDT tells whoever keeps its face and its core.
use Rattle.std.proofs.Common.{◌≡◌, ℕ, List, [], ◌∷◌, length, true, Option, Some, None, refl, sym, ◌∙◌, ap, subst}
use Rattle.ocr_base.proofs.Booleans.{same as number_same}
use Rattle.ocr_acquire.specs.declared.Mode.{Mode}
use Rattle.ocr_acquire.specs.Mode.{mode_in}
use Rattle.ocr_datablock.specs.Block as block
use Rattle.ocr_edt.specs.declared.Edt.{Edt}
use Rattle.ocr_edt.specs.declared.Edt.TheVariants as phase
use Rattle.ocr_edt.specs.Edt as edt
use Rattle.ocr_edt.specs.Phases.{Work}
use Rattle.ocr_slots.specs.declared.Slot.{Slot}
use Rattle.ocr_slots.specs.Slots as slot
use Rattle.ocr_machine_history.specs.declared.entry.Entry.TheVariants.{Start}
use Rattle.ocr_machine_history.specs.History.{History, Setting}
use Rattle.ocr_machine_history.specs.Made.{Made, MadeEdt, depc_in, function_in, is_edt, is_edt_made, made, params_in}
use Rattle.ocr_guid.specs.Target.{EventCall}
use Rattle.ocr_machine_parts.specs.declared.loans.Kept.{Kept}
use Rattle.ocr_machine_parts.specs.declared.part.Core.{Core}
use Rattle.ocr_machine_parts.specs.declared.part.Part.{Part}
use Rattle.ocr_machine_parts.specs.declared.part.Part.TheVariants as part
use Rattle.ocr_machine_parts.specs.Bodies.{body_with, first_holds, hold_of, holds_on}
use Rattle.ocr_machine_parts.specs.Calls.{block_calls, depv_in, edt_calls, event_calls, link_calls, loans_of, payloads_of, plan_of, slots_now, with_plan, scope_calls}
use Rattle.ocr_machine_parts.specs.Effects.{started_edt}
use Rattle.ocr_machine_parts.specs.Progress.{made_ready, ready_at, with_phase}
use Rattle.ocr_machine_parts.specs.Kinds.{core_progress, holds_of, is_acquiring, is_acquiring_edt, kept_on, mode_on, on_core, progress_in, work_in, work_of}
use Rattle.ocr_machine_parts.specs.Legal.{IsLegal, IsRun}
use Rattle.ocr_machine_parts.specs.Parts.{Parts, core, face, parts_of, identity_of}
use Rattle.ocr_machine_parts.proofs.After.{after_law}
use Rattle.ocr_machine_laws.proofs.Edts.{edts_law}
use Rattle.ocr_machine_laws.specs.Kept.{AreSet, IsFilled}
use Rattle.ocr_machine_parts.specs.Readiness.{filled}
use Rattle.ocr_machine_laws.proofs.Filled.{filled_law, many}
use Rattle.ocr_worker_machine.specs.Facts.{HasBegun, IsCount, holds_by, stale_in}
use Rattle.ocr_finish.specs.Scope.{ScopeCall}
use Rattle.ocr_edt.specs.declared.Identity.{Identity}

-- THE FACE tells how many slots the EDT has
abbrev slots_on : Part → List Slot
slots_on (part.Edt slots) = slots
slots_on other = []

pub face_edt : (m : Option Made) (links : List slot.SlotCall) (blocks : List block.BlockCall) (events : List EventCall) (scopes : List ScopeCall) (slots : List Slot) → face m links blocks events scopes ≡ part.Edt slots → (is_edt_made m ≡ true) × (depc_in m ≡ length slots)
face_edt (Some (MadeEdt f ps n)) links blocks events scopes slots is = (refl, sym (many links [] n 0) ∙ ap (λ (x : Part). length (slots_on x)) is)
face_edt other links blocks events scopes slots is = cc is

-- THE CORE tells the function and the parameters
abbrev function_on : Part → ℕ
function_on (part.Core c) = c.function
function_on other = 0

abbrev params_on : Part → List ℕ
params_on (part.Core c) = c.params
params_on other = []

pub core_made : (m : Option Made) (i : Identity) (calls : List edt.EdtCall) (loans : List (ℕ × Kept)) (c : Core) → core m i calls loans ≡ part.Core c → (function_in m ≡ c.function) × (params_in m ≡ c.params)
core_made (Some (MadeEdt f ps n)) i calls loans c is = (ap function_on is, ap params_on is)
core_made other i calls loans c is = cc is

-- THE START of a core
abbrev started : List (ℕ × Mode) → Core → Core
started ms c = with_phase started_edt (with_phase (made_ready ms) c)

core_after : (s : Setting) (past : History) (t : ℕ) (c : Core) → IsRun s past → IsLegal s past (Start t) → (parts_of s past).core t ≡ part.Core c → (parts_of s (Start t ∷ past)).core t ≡ part.Core (started (plan_of s past t) c)
core_after s past t c run legal is =
    ap (λ (x : Parts). x.core t) (after_law s past (Start t) run legal) ∙ (rw (number_same t) refl ∙ ap (λ (x : Part). on_core (on_core x (with_phase (made_ready (plan_of s past t)))) (with_phase started_edt)) is)

acquires : (s : Setting) (past : History) (t : ℕ) (c : Core) → IsLegal s past (Start t) → (parts_of s past).core t ≡ part.Core c → is_acquiring_edt (made_ready (plan_of s past t) c.edt) ≡ true
acquires s past t c legal is =
    let ms = plan_of s past t in
    let here : (ready_at t ms (parts_of s past)).core t ≡ on_core ((parts_of s past).core t) (with_phase (made_ready ms)) = rw (number_same t) refl in
    sym (ap is_acquiring (here ∙ ap (λ (x : Part). on_core x (with_phase (made_ready ms))) is)) ∙ legal.on_parts.acquiring

-- what it found gone before
abbrev work_stale : Option Work → List ℕ
work_stale None = []
work_stale (Some w) = w.stale

started_stale : (e : Edt) (ms : List (ℕ × Mode)) → is_acquiring_edt (made_ready ms e) ≡ true → work_stale (work_in (started_edt (made_ready ms e))) ≡ stale_in (progress_in e)
started_stale (phase.Filling i) ms is = refl
started_stale (phase.Acquiring p) ms is = refl
started_stale other ms is = cc is

core_stale : (m : Option Made) (i : Identity) (calls before : List edt.EdtCall) (loans : List (ℕ × Kept)) → is_edt_made m ≡ true → calls ≡ edt.Start ∷ before → work_stale (work_of (core m i calls loans)) ≡ edt.stale_of calls
core_stale (Some (MadeEdt f ps n)) i calls before loans made is = subst (λ (l : List edt.EdtCall). work_stale (work_of (core (Some (MadeEdt f ps n)) i l loans)) ≡ edt.stale_of l) (sym is) refl
core_stale other i calls before loans made is = cc made

-- what it holds
pub started_mode : (e : Edt) (ms : List (ℕ × Mode)) (d : ℕ) → is_acquiring_edt (made_ready ms e) ≡ true → mode_in d (holds_of (work_in (started_edt (made_ready ms e)))) ≡ mode_in d (holds_of (work_in (started_edt e)))
started_mode (phase.Filling i) ms d is = refl
started_mode (phase.Acquiring p) ms d is = refl
started_mode other ms d is = cc is

pub start_facts : (s : Setting) (past : History) (t : ℕ) (slots : List Slot) (payloads : List ℕ) (c : Core) → IsRun s past → IsLegal s past (Start t) → (parts_of s past).face t ≡ part.Edt slots → (parts_of s past).core t ≡ part.Core c
    → length payloads ≡ length slots → AreSet past t payloads → IsCount s (Start t ∷ past) t (length slots) × HasBegun s (Start t ∷ past) t slots c
start_facts s past t slots payloads c run legal is_face is_core len set =
    let m = made s past t in
    let ms = plan_of s past t in
    let later = edt_calls s (Start t ∷ past) t in
    let one = face_edt m (link_calls past t) (block_calls s past t) (event_calls s past t) (scope_calls past t) slots is_face in
    let edt_is : is_edt past t ≡ true = sym (edts_law s past run t) ∙ one.0 in
    let full : IsFilled s past t slots payloads = filled_law s past t slots payloads is_face len set in
    let own = core_made m (identity_of past t) (edt_calls s past t) (loans_of s past t) c is_core in
    let after = core_after s past t c run legal is_core in
    let acquiring = acquires s past t c legal is_core in
    let calls : later ≡ edt.Start ∷ with_plan ms (edt_calls s past t) = rw (number_same t) refl in
    let stale : edt.stale_of later ≡ stale_in (core_progress (part.Core c)) =
    sym (core_stale m (identity_of past t) later (with_plan ms (edt_calls s past t)) (loans_of s (Start t ∷ past) t) one.0 calls) ∙ (ap (λ (x : Part). work_stale (work_of x)) after ∙ started_stale c.edt ms acquiring) in
    let slots_are : slots_now s past t ≡ filled slots (payloads_of s past t) = full.slots_are ∙ ap (filled slots) (sym full.payloads_are) in
    let first : first_holds s (Start t ∷ past) t ≡ holds_on (parts_of s (Start t ∷ past)) t = rw (number_same t) refl in
    let each : (d : ℕ) → holds_on (parts_of s (Start t ∷ past)) t d ≡ holds_by c d = λ d.
    ap (λ (x : Part). hold_of (mode_on x d) (kept_on x d)) after ∙ ap (λ (o : Option Mode). hold_of o (kept_on (part.Core c) d)) (started_mode c.edt ms d acquiring) in
    let whole : holds_on (parts_of s (Start t ∷ past)) t ≡ holds_by c = λ i d. each d i in
    let holds : first_holds s (Start t ∷ past) t ≡ holds_by c = first ∙ whole in (
      record { made = edt_is; count = one.1 },
      record {
        made = edt_is;
        started = rw (number_same t) refl;
        body = λ i. body_with s.program (own.0 i) (own.1 i) (depv_in (stale i) (slots_are i)) (holds i);
      },
    )
