-- What the body of an EDT is given is what the Start told.
use Rattle.std.proofs.Common.{◌≡◌, ℕ, ◌+◌, ◌<◌, ◌≤◌, Bool, true, List, [], ◌∷◌, length, Option, Some, refl, ap, sym, ◌∙◌, subst}
use Rattle.ocr_base.proofs.Booleans.{same as number_same}
use Rattle.ocr_acquire.specs.declared.Mode.{Mode}
use Rattle.ocr_body_code.specs.Checked.{checked_tree}
use Rattle.ocr_body_code.specs.declared.checked.Checked.{Checked}
use Rattle.ocr_edt.specs.declared.Edt.{Edt}
use Rattle.ocr_edt.specs.declared.Edt.TheVariants as phase
use Rattle.ocr_slots.specs.declared.Slot.{Slot}
use Rattle.ocr_body_meaning.specs.Body.{Body}
use Rattle.ocr_machine_parts.specs.declared.part.Core.{Core}
use Rattle.ocr_machine_parts.specs.declared.part.Part.{Part}
use Rattle.ocr_machine_parts.specs.declared.part.Part.TheVariants as part
use Rattle.ocr_machine_parts.specs.Bodies.{body_with, hold_of, holds_in}
use Rattle.ocr_machine_parts.specs.Calls.{depv_in}
use Rattle.ocr_machine_parts.specs.Effects.{settled_core, started_edt}
use Rattle.ocr_machine_parts.specs.Progress.{made_ready, with_phase}
use Rattle.ocr_machine_parts.specs.Kinds.{core_progress, is_acquiring_edt, is_running, progress_in, work_in}
use Rattle.ocr_machine_parts.specs.Loans.{kept_in, settled_loans}
use Rattle.ocr_machine_parts.specs.Readiness.{filled, plan_from, ready_with}
use Rattle.ocr_turns_rule.specs.Sums.{find}
use Rattle.ocr_worker_machine.specs.Clerks.{OcrView}
use Rattle.ocr_worker_machine.specs.Facts.{body_by, holds_by, stale_in}
use Rattle.ocr_worker_clerk.specs.Entry.{OcrKnown}
use Rattle.ocr_worker_clerk.specs.Work.{AtWork, CanRun, OcrTable}
use Rattle.ocr_worker_access.specs.Access.{HasBegun, Runs, first_in, holds_at}
use Rattle.ocr_worker_access.specs.Served.{own_log}
use Rattle.ocr_worker_body.specs.declared.given.Inputs.{Inputs}
use Rattle.ocr_worker_body.specs.Given.{are_used, body_given, stale_with, values_by}
use Rattle.ocr_worker_body.specs.Start.{HasCore, IsStartedWith, IsRead, StepsCore}
use Rattle.ocr_worker_body.proofs.Functions.{runs_function}
use Rattle.ocr_worker_body.proofs.Stepped.{core_same, core_settled, stepped_runs, stepped_work}
use Rattle.ocr_worker_body.proofs.Values.{used_length, values_are}
use Rattle.ocr_worker_access.proofs.Begun.{started_mode}
use Rattle.ocr_worker_access.proofs.Started.{face_else}

pub face_found : (table : OcrTable) (program : Checked) (edt place : ℕ) (payloads : List ℕ) (c : OcrKnown) → AtWork table program c → (can : CanRun table.1 edt payloads c) → place ≡ edt → find place c.parts ≡ Some (Some (part.Edt can.slots))
face_found table program edt place payloads c work can is =
    ap (λ (n : ℕ). find n c.parts) is ∙ (ap (find edt) can.hand ∙ rw (face_else table.1.limit edt work.limits.0, number_same edt) refl)

abbrev slots_or : List Slot → Option (Option Part) → List Slot
slots_or none (Some (Some (part.Edt slots))) = slots
slots_or none other = none

pub face_same : (table : OcrTable) (program : Checked) (edt place : ℕ) (payloads : List ℕ) (c : OcrKnown) (slots : List Slot) → AtWork table program c → (can : CanRun table.1 edt payloads c) → place ≡ edt → find place c.parts ≡ Some (Some (part.Edt slots)) → slots ≡ can.slots
face_same table program edt place payloads c slots work can is found = ap (slots_or []) (sym found ∙ face_found table program edt place payloads c work can is)

-- THE CORE that started
started_stale : (e : Edt) (ms : List (ℕ × Mode)) → is_acquiring_edt (made_ready ms e) ≡ true → stale_with (work_in (started_edt (made_ready ms e))) ≡ stale_in (progress_in e)
started_stale (phase.Filling i) ms is = refl
started_stale (phase.Acquiring p) ms is = refl
started_stale other ms is = cc is

abbrev core_or : Core → Part → Core
core_or none (part.Core c) = c
core_or none other = none

abbrev first_part : List (ℕ × Part) → Part
first_part [] = part.Vacant
first_part (x ∷ rest) = x.1

abbrev second_part : List (ℕ × Part) → Part
second_part (x ∷ y ∷ rest) = y.1
second_part other = part.Vacant

abbrev slots_of : Part → List Slot
slots_of (part.Edt slots) = slots
slots_of other = []

module _ (table : OcrTable) (program : Checked) (edt : ℕ) (payloads : List ℕ) (old mid new : OcrKnown) (work : AtWork table program mid) (can : CanRun table.1 edt payloads old) (begun : HasBegun table.1 edt payloads old mid) (steps : StepsCore (table.1.limit + edt) settled_core mid new) where
  abbrev place : ℕ
  place = table.1.limit + edt

  abbrev began : Core
  began = with_phase started_edt (ready_with can.slots payloads can.core)

  kept_core : can.core ≡ begun.core
  kept_core = ap (λ (ps : List (ℕ × Part)). core_or can.core (first_part ps)) (sym can.kept ∙ begun.was)

  kept_slots : can.slots ≡ begun.slots
  kept_slots = ap (λ (ps : List (ℕ × Part)). slots_of (second_part ps)) (sym can.kept ∙ begun.was)

  core_began : begun.runs.core ≡ began
  core_began =
      ap (core_or began) (sym (ap first_in begun.runs.hand) ∙ begun.is)
      ∙ sym (λ i. with_phase started_edt (ready_with (kept_slots i) payloads (kept_core i)))

  pub runs_settled : Runs table.1 edt (body_by (checked_tree table.1.setting.value.program) begun.slots (settled_core begun.core) payloads) new
  runs_settled = stepped_runs table.1 edt _ settled_core mid new begun.runs steps (core_settled begun.runs.core begun.runs.kept begun.runs.is)

  pub work_settled : AtWork table program new
  work_settled = stepped_work table program (table.1.limit + edt) settled_core mid new begun.runs.core work begun.runs.hand steps

  -- it is there, and runs
  pub core_there : (core : Core) × HasCore (table.1.limit + edt) core new × (is_running (part.Core core) ≡ true)
  core_there = (settled_core begun.runs.core, steps.core begun.runs.core begun.runs.hand, begun.runs.is.running)

  module _ (g : Inputs) (used : List Bool) (used_is : used ≡ are_used can.slots) (read : IsRead (table.1.limit + edt) used payloads g new) where
    core_is : read.core ≡ settled_core began
    core_is = core_same (table.1.limit + edt) new read.core (settled_core begun.runs.core) read.at_hand (steps.core begun.runs.core begun.runs.hand) ∙ ap settled_core core_began

    depv_is : g.depv.items ≡ depv_in (stale_in (core_progress (part.Core (settled_core can.core)))) (filled can.slots payloads)
    depv_is =
        read.depv
        ∙ (ap (λ (c : Core). values_by (stale_with (work_in c.edt)) used payloads) core_is
        ∙ (ap (λ (l : List ℕ). values_by l used payloads) (started_stale can.core.edt (plan_from can.slots payloads) can.acquiring)
        ∙ (ap (λ (u : List Bool). values_by (stale_in (progress_in can.core.edt)) u payloads) used_is ∙ values_are (stale_in (progress_in can.core.edt)) can.slots payloads)))

    holds_are : holds_in (part.Core (settled_core began)) ≡ holds_by (settled_core can.core)
    holds_are = λ i d. hold_of (started_mode can.core.edt (plan_from can.slots payloads) d can.acquiring i) (kept_in d (settled_loans can.core.loans))

    holds_is : holds_at g.begun.value ≡ holds_by (settled_core can.core)
    holds_is = ap holds_at read.begun ∙ (ap (λ (l : List (ℕ × Option Part)). holds_in (first_in l)) read.at_hand ∙ (ap (λ (c : Core). holds_in (part.Core c)) core_is ∙ holds_are))

    body_is : body_by (checked_tree table.1.setting.value.program) begun.slots (settled_core begun.core) payloads ≡ body_given program g
    body_is =
        sym (λ i. body_by (checked_tree table.1.setting.value.program) (kept_slots i) (settled_core (kept_core i)) payloads)
        ∙ sym (λ i. body_with (checked_tree (sym work.program_is i)) ((read.function ∙ ap (λ (c : Core). c.function) core_is) i) ((read.params ∙ ap (λ (c : Core). c.params) core_is) i) (depv_is i) (holds_is i))

    pub given_is : IsStartedWith table.1 program edt g new
    given_is = record {
      runs = subst (λ (b : Body). Runs table.1 edt b new) body_is runs_settled;
      begun = read.begun;
      calls = ap (λ (v : OcrView). own_log v.log edt) steps.view ∙ begun.calls;
      exists =
          let there = runs_function table program edt _ new work_settled runs_settled in
          subst (λ (f : ℕ). (0 < f) × (f ≤ length (checked_tree program))) (sym (read.function ∙ ap (λ (c : Core). c.function) (core_same (table.1.limit + edt) new read.core runs_settled.core read.at_hand runs_settled.hand))) there;
    }

  pub sizes_are : (used : List Bool) → used ≡ are_used can.slots → length used ≡ length payloads
  sizes_are used is = ap (λ (u : List Bool). length u) is ∙ (used_length can.slots ∙ sym can.count)
