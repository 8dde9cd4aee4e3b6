-- The modes of holds, by the cores of their EDTs.
use Rattle.std.proofs.Common.{◌≡◌, ℕ, ◌==◌, ◌&&◌, ◌∷◌, true, if◌then◌else◌, Some, None, is_some, refl, sym, ap, ◌∙◌}
use Rattle.ocr_base.proofs.Booleans.{same}
use Rattle.ocr_acquire.specs.declared.Mode.{Mode}
use Rattle.ocr_acquire.specs.Mode.{mode_in}
use Rattle.ocr_edt.specs.declared.Edt.{Edt}
use Rattle.ocr_edt.specs.declared.Edt.TheVariants as phase
use Rattle.ocr_machine_history.specs.declared.entry.Entry.TheVariants.{Acquire}
use Rattle.ocr_machine_history.specs.History.{History, Setting}
use Rattle.ocr_machine_parts.specs.declared.part.Part.{Part}
use Rattle.ocr_machine_parts.specs.declared.part.Part.TheVariants as part
use Rattle.ocr_machine_parts.specs.Calls.{plan_of, mode_next}
use Rattle.ocr_machine_parts.specs.Kinds.{mode_on, holds_of, work_in, is_running}
use Rattle.ocr_machine_parts.specs.Legal.{IsRun, IsLegal}
use Rattle.ocr_machine_parts.specs.Parts.{parts_of}
use Rattle.ocr_machine_parts.specs.Progress.{next_on, ready_at}
use Rattle.ocr_machine_laws.specs.Memory.{hold_of}
use Rattle.ocr_machine_laws.specs.Waits.{held_in, held_on}
use Rattle.ocr_machine_laws.proofs.Plain.{next_law, acquire_law}
use Rattle.ocr_machine_rules.specs.Blocks.{held, next_mode}
use Rattle.ocr_machine_rules.proofs.Edts.{next_is, held_is}
use Rattle.ocr_memory_model_order.specs.Pairs.{acquired_mode}

running_edt : (e : Edt) (d : ℕ) → is_some (work_in e) ≡ true → mode_in d (held_in e) ≡ mode_in d (holds_of (work_in e))
running_edt (phase.Running w) d is = refl
running_edt other d is = cc is

running_mode : (x : Part) (d : ℕ) → is_running x ≡ true → mode_in d (held_on x) ≡ mode_on x d
running_mode (part.Core c) d is = running_edt c.edt d is
running_mode other d is = cc is

-- of one that runs
pub running_held : (s : Setting) (past : History) (t d : ℕ) → IsRun s past → is_running ((parts_of s past).core t) ≡ true → held s past t d ≡ mode_on ((parts_of s past).core t) d
running_held s past t d run is = held_is s past t d run ∙ running_mode ((parts_of s past).core t) d is

-- and of one that acquires
pub acquired_held : (s : Setting) (past : History) (t b d : ℕ) (k : Mode) → IsRun s (Acquire t b ∷ past) → (b == d) ≡ true → hold_of s (Acquire t b ∷ past) t d ≡ Some k → acquired_mode s d past (Acquire t b) ≡ Some k
acquired_held s past t b d k run here is =
    ap (λ x. if x then Some (next_mode s past t) else None) here
    ∙ sym (ap (λ x. if x then Some (next_mode s past t) else held s past t d) (ap (λ x. x && (b == d)) (same t) ∙ here))
    ∙ held_is s (Acquire t b ∷ past) t d run ∙ is

pub acquired_is : (s : Setting) (past : History) (t d : ℕ) (m : Mode) → IsRun s past → IsLegal s past (Acquire t d) → next_on (ready_at t (plan_of s past t) (parts_of s past)) t ≡ Some (d, m) → acquired_mode s d past (Acquire t d) ≡ Some m
acquired_is s past t d m run legal next =
    let may = (acquire_law s past t d run).0 legal in
    ap (λ b. if b then Some (next_mode s past t) else None) (same d)
    ∙ ap (λ o. Some (mode_next o)) (next_is s past t run ∙ sym (next_law s past t run may.1.ready.made may.1.ready.not_started) ∙ next)
