-- A step of a loan that the core at hand keeps: the core is the same but for what was stored.
use Rattle.std.proofs.Common.{◌≡◌, ℕ, List, refl, ap, ◌∙◌}
use Rattle.ocr_datablock.specs.Lent.{Loan, after_list_writes, after_store}
use Rattle.ocr_machine_parts.specs.declared.loans.Kept.{Kept}
use Rattle.ocr_machine_parts.specs.declared.part.Core.{Core}
use Rattle.ocr_machine_parts.specs.Progress.{core_after, core_with}
use Rattle.ocr_machine_parts.proofs.Listed.{settled_with}
use Rattle.ocr_worker_access.specs.Access.{IsCoreOf}

-- A STEP that leaves the mode and the words of before
module _ (step : Loan → Loan) (mode_same : (l : Loan) → (step l).mode ≡ l.mode) (began_same : (l : Loan) → (step l).began ≡ l.began) where
  pub core_of_step : (d : ℕ) (core kept : Core) → IsCoreOf core kept → IsCoreOf (core_after step d core) kept
  core_of_step d core kept is = record {
    alike = ap (λ (ls : List (ℕ × Kept)). core_with core core.edt ls) (settled_with step mode_same began_same d core.loans) ∙ is.alike;
    running = is.running;
  }

-- a store, and the listing of what was stored
pub core_stored : (d word value : ℕ) (core kept : Core) → IsCoreOf core kept → IsCoreOf (core_after (λ loan. after_store loan word value) d core) kept
core_stored d word value core kept is = core_of_step (λ loan. after_store loan word value) (λ l. refl) (λ l. refl) d core kept is

pub core_listed : (d : ℕ) (core kept : Core) → IsCoreOf core kept → IsCoreOf (core_after after_list_writes d core) kept
core_listed d core kept is = core_of_step after_list_writes (λ l. refl) (λ l. refl) d core kept is
