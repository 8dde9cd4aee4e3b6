-- Who stands in the queue of a kept block waits.
use Rattle.std.proofs.Common.{◌≡◌, ℕ, ◌≤◌, List, [], ◌∷◌, reverse, is_some, refl, sym, ◌∙◌, ap, subst, arith}
use Rattle.std.proofs.lemmas.Grind.{common_steps}
use Rattle.ocr_base.proofs.Booleans.{same as number_same}
use Rattle.ocr_acquire.specs.Mode.{mode_in}
use Rattle.ocr_machine_parts.specs.declared.part.Part.{Part}
use Rattle.ocr_machine_parts.specs.declared.part.Part.TheVariants as part
use Rattle.ocr_machine_laws.specs.Waits.{queue_on}
use Rattle.ocr_turns_rule.specs.Debts.{times}
use Rattle.ocr_turns_rule.specs.Sums.{less_one}
use Rattle.ocr_turns_rule.specs.Words.{Waits, unclaiming}
use Rattle.ocr_worker_machine.specs.Clerks.{OcrView}
use Rattle.ocr_worker_machine.specs.Ocr.{meaning}
use Rattle.ocr_worker_machine.proofs.Runs.{run_is}
use Rattle.ocr_worker_machine.proofs.Waits.{waits_is}
use Rattle.ocr_body_code.specs.declared.checked.Checked.{Checked}
use Rattle.ocr_worker_clerk.specs.Entry.{OcrKnown}
use Rattle.ocr_worker_clerk.specs.Work.{AtWork, OcrTable}
use Rattle.ocr_worker_clerk.proofs.Seen.{face_is}
use Rattle.ocr_worker_acquisition.specs.Park.{IsLetWait}

one_claim : (n : ℕ) → 1 ≤ times n (n ∷ [])
one_claim n = grind (arith, common_steps)

pub has_claim : (n : ℕ) (claims : List ℕ) → claims ≡ n ∷ [] → 1 ≤ times n claims
has_claim n claims is = subst (λ (l : List ℕ). 1 ≤ times n l) (sym is) (one_claim n)

no_claim : (n : ℕ) → less_one n (n ∷ []) ≡ []
no_claim n = rw (number_same n) refl

pub lets_wait : (table : OcrTable) (program : Checked) (c : OcrKnown) (edt : ℕ) (places : List ℕ) → AtWork table program c → IsLetWait table.1 edt places c → Waits meaning table.1 c.view edt
lets_wait table program c edt places work waits J knows =
    let t = table.1 in
    let fits = knows.fits work.is_open in
    let face = face_is t J c.view waits.place waits.awaited (part.Block waits.state) fits waits.inside waits.here in
    let run = run_is t.setting.value t.limit J fits.run in
    (waits.awaited, (waits_is t (reverse J) edt fits.limits run).all waits.awaited (ap (λ (x : Part). is_some (mode_in edt (queue_on x))) face ∙ waits.queued))

-- once it is parked
pub parked_claims : (v : OcrView) (edt : ℕ) → v.claims ≡ edt ∷ [] → (unclaiming v edt).claims ≡ []
parked_claims v edt is = ap (less_one edt) is ∙ no_claim edt
