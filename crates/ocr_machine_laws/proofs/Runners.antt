-- Who runs, and what it holds: an EDT frees the least block that it holds, and ends where it holds nothing.
use Rattle.std.proofs.Common.{◌≡◌, ℕ, ◌<◌, ◌≤◌, nat_lt, List, [], ◌∷◌, true, false, Option, Some, ◌==◌, if◌then◌else◌, refl, sym, ◌∙◌, ap, subst, is_some, arith}
use Rattle.std.proofs.lemmas.Bool.{eq-eqb, eqb-true}
use Rattle.ocr_base.proofs.Booleans.{same}
use Rattle.ocr_acquire.specs.declared.Mode.{Mode}
use Rattle.ocr_acquire.specs.Mode.{mode_in}
use Rattle.ocr_acquire.specs.Plan.{RisesFrom, IsWellFormed}
use Rattle.ocr_acquire.proofs.Laws.{given_law}
use Rattle.ocr_edt.specs.declared.Edt.{Edt}
use Rattle.ocr_edt.specs.declared.Edt.TheVariants as phase
use Rattle.ocr_edt.specs.declared.Identity.{Identity}
use Rattle.ocr_edt.specs.Edt as edt
use Rattle.ocr_edt.specs.Phases.{Rises, least_of}
use Rattle.ocr_edt.proofs.Laws.{rising_law}
use Rattle.ocr_machine_history.specs.Edts.{IsRunning}
use Rattle.ocr_machine_history.specs.History.{History, Setting}
use Rattle.ocr_machine_history.specs.Made.{Made, MadeEdt, made, is_edt}
use Rattle.ocr_machine_parts.specs.declared.loans.Kept.{Kept}
use Rattle.ocr_machine_parts.specs.declared.part.Part.{Part}
use Rattle.ocr_machine_parts.specs.declared.part.Part.TheVariants as part
use Rattle.ocr_machine_parts.specs.Calls.{asks_in, slots_now, plan_of, edt_calls, loans_of}
use Rattle.ocr_machine_parts.specs.Parts.{identity_of, core, parts_of}
use Rattle.ocr_machine_parts.specs.Kinds.{work_in, work_of, is_running, holds_of}
use Rattle.ocr_machine_parts.specs.Legal.{IsRun}
use Rattle.ocr_machine_laws.specs.Marks.{stage_in, mark}
use Rattle.ocr_machine_laws.specs.Permanence.{IsGivenPlan}
use Rattle.ocr_machine_laws.specs.Plain.{holds_now, IsLeastOf, FreeLaw, EndLaw}
use Rattle.ocr_machine_laws.proofs.Edts.{edts_law}
use Rattle.ocr_machine_laws.proofs.Own.{running_mark, started_by}
use Rattle.ocr_machine_laws.proofs.Planned.{planned_law}
use Rattle.ocr_machine_laws.proofs.Said.{started_made}
use Rattle.ocr_machine_laws.proofs.Stages.{told_law}
use Rattle.ocr_machine_laws.proofs.Works.{freeing_law}

-- WHO RUNS, by its core, has started and has not ended
pub runs : (s : Setting) (past : History) (t : ℕ) → IsRun s past → is_running ((parts_of s past).core t) ≡ true → IsRunning past t
runs s past t run running = record {
  started = started_by s past t run running;
  not_ended = (told_law s past run t).has_ended ∙ ap (λ (n : ℕ). nat_lt 2 n) (running_mark ((parts_of s past).core t) running);
}

-- and the other way
middle_edt : (e : Edt) → nat_lt 1 (stage_in e) ≡ true → nat_lt 2 (stage_in e) ≡ false → is_some (work_in e) ≡ true
middle_edt (phase.Running w) on off = refl
middle_edt (phase.Ended i) on off = cc off
middle_edt other on off = cc on

middle : (x : Part) → nat_lt 1 (mark x).0 ≡ true → nat_lt 2 (mark x).0 ≡ false → is_running x ≡ true
middle (part.Core c) on off = middle_edt c.edt on off
middle other on off = cc on

pub runs_core : (s : Setting) (past : History) (t : ℕ) → IsRun s past → IsRunning past t → is_running ((parts_of s past).core t) ≡ true
runs_core s past t run is =
    let told = told_law s past run t in
    middle ((parts_of s past).core t) (sym told.has_started ∙ is.started) (sym told.has_ended ∙ is.not_ended)

-- WHAT IT HOLDS is told by its calls
calls_hold : (i : Identity) (calls : List edt.EdtCall) → is_some (work_in (edt.edt_of i calls)) ≡ true → holds_of (work_in (edt.edt_of i calls)) ≡ edt.holds_of calls
calls_hold i [] is = cc is
calls_hold i (edt.Start ∷ rest) is = refl
calls_hold i (edt.Hold g ∷ rest) is = refl
calls_hold i (edt.DropHold g ∷ rest) is = refl
calls_hold i (other ∷ rest) is = cc is

core_holds : (m : Option Made) (i : Identity) (calls : List edt.EdtCall) (loans : List (ℕ × Kept)) → is_running (core m i calls loans) ≡ true → holds_of (work_of (core m i calls loans)) ≡ edt.holds_of calls
core_holds (Some (MadeEdt f ps n)) i calls loans is = calls_hold i calls is
core_holds other i calls loans is = cc is

held_now : (s : Setting) (past : History) (t : ℕ) → is_running ((parts_of s past).core t) ≡ true → holds_of (work_of ((parts_of s past).core t)) ≡ holds_now s past t
held_now s past t running = core_holds (made s past t) (identity_of past t) (edt_calls s past t) (loans_of s past t) running

-- and rises
given_rises : (members : List (ℕ × Mode)) (calls : List edt.EdtCall) → IsGivenPlan members calls → IsWellFormed members → Rises (edt.holds_of calls)
given_rises members [] is well = tt
given_rises members (one ∷ rest) is well = rising_law (one ∷ rest) (subst IsWellFormed (sym is) well)

rises_now : (s : Setting) (past : History) (t : ℕ) → IsRun s past → is_running ((parts_of s past).core t) ≡ true → Rises (holds_now s past t)
rises_now s past t run running =
    let on : nat_lt 1 (mark ((parts_of s past).core t)).0 ≡ true = sym (told_law s past run t).has_started ∙ started_by s past t run running in
    let is_one : is_edt past t ≡ true = sym (edts_law s past run t) ∙ started_made (made s past t) (identity_of past t) (edt_calls s past t) (loans_of s past t) on in
    given_rises (plan_of s past t) (edt_calls s past t) (planned_law s past t run is_one) (given_law (asks_in (slots_now s past t)))

-- THE LEAST of rising holds is the first
above : (low : ℕ) (xs : List (ℕ × Mode)) (q : ℕ) → RisesFrom low xs → is_some (mode_in q xs) ≡ true → low < q
above low [] q rising is = cc is
above low (x ∷ xs) q rising is = elim (x.0 == q) as (λ b. (x.0 == q) ≡ b → is_some (if b then Some x.1 else mode_in q xs) ≡ true → low < q) [
  | true ↦ λ here _. subst (λ (n : ℕ). low < n) (eqb-true x.0 q here) rising.0
  | false ↦ λ _ more. let rest : x.0 < q = above x.0 xs q rising.1 more in omega (arith, rising.0, rest)
] refl is

not_below : (x : ℕ × Mode) (xs : List (ℕ × Mode)) (q : ℕ) → RisesFrom x.0 xs → is_some (mode_in q (x ∷ xs)) ≡ true → x.0 ≤ q
not_below x xs q rising is = elim (x.0 == q) as (λ b. (x.0 == q) ≡ b → is_some (if b then Some x.1 else mode_in q xs) ≡ true → x.0 ≤ q) [
  | true ↦ λ here _. let at : x.0 ≡ q = eqb-true x.0 q here in omega (arith, at)
  | false ↦ λ _ more. let rest : x.0 < q = above x.0 xs q rising more in omega (arith, rest)
] refl is

least_first : (xs : List (ℕ × Mode)) (d : ℕ) → Rises xs → least_of xs ≡ Some d → IsLeastOf xs d
least_first [] d rising is = cc is
least_first (x ∷ xs) d rising is =
    let at : x.0 ≡ d = cc is in
    let here : (x.0 == d) ≡ true = eq-eqb x.0 d at in
    record { held = rw here refl; least = λ b held. subst (λ (n : ℕ). n ≤ b) at (not_below x xs b rising held) }

first_least : (xs : List (ℕ × Mode)) (d : ℕ) → Rises xs → IsLeastOf xs d → least_of xs ≡ Some d
first_least [] d rising is = let none = is.held in cc none
first_least (x ∷ xs) d rising is =
    let low : x.0 ≤ d = not_below x xs d rising is.held in
    let high : d ≤ x.0 = is.least x.0 (rw (same x.0) refl) in
    let at : x.0 ≡ d = omega (arith, low, high) in
    ap (λ (n : ℕ). Some n) at

-- A BLOCK IS FREED
pub free_law : FreeLaw
free_law s past t d w run = (
  λ legal.
      let holds = held_now s past t legal.on_parts.running in
      record {
        open_run = legal.open_run;
        running = runs s past t run legal.on_parts.running;
        least = least_first (holds_now s past t) d (rises_now s past t run legal.on_parts.running) (ap least_of (sym holds) ∙ legal.on_parts.least);
        said = legal.said;
      },
  λ may.
      let running = runs_core s past t run may.running in
      let least = ap least_of (held_now s past t running) ∙ first_least (holds_now s past t) d (rises_now s past t run running) may.least in
      record { open_run = may.open_run; on_parts = freeing_law s past t d run running least; on_facts = tt; said = may.said; stopping = tt },
)

-- THE END
pub end_law : EndLaw
end_law s past t g run = (
  λ legal. record {
    open_run = legal.open_run;
    running = runs s past t run legal.on_parts.running;
    nothing_held = sym (held_now s past t legal.on_parts.running) ∙ legal.on_parts.nothing_held;
    said = legal.said;
  },
  λ may.
      let running = runs_core s past t run may.running in
      record {
        open_run = may.open_run;
        on_parts = record { running = running; nothing_held = held_now s past t running ∙ may.nothing_held };
        on_facts = tt;
        said = may.said;
        stopping = tt;
      },
)
