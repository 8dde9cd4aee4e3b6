-- A body loads, as an entry, only where its EDT holds the block.
use Rattle.std.proofs.Common.{◌≡◌, ℕ, List, Option, Some, None, refl, sym, ◌∙◌, ap}
use Rattle.ocr_acquire.specs.declared.Mode.{Mode}
use Rattle.ocr_body_meaning.specs.Behaviour.{IsNext}
use Rattle.ocr_body_meaning.specs.Holds.{Hold, Entered, load_of}
use Rattle.ocr_body_meaning.specs.declared.call.Answer.{Answer}
use Rattle.ocr_body_meaning.specs.declared.call.Call.TheVariants as call
use Rattle.ocr_body_meaning.proofs.Accesses.{plain_next, access_law}
use Rattle.ocr_machine_history.specs.declared.entry.Entry.TheVariants.{Call}
use Rattle.ocr_machine_history.specs.History.{History, Setting, own}
use Rattle.ocr_machine_parts.specs.declared.loans.Kept.{Kept}
use Rattle.ocr_machine_parts.specs.Bodies.{hold_of, body_of, says_next}
use Rattle.ocr_machine_parts.specs.Kinds.{mode_on, kept_on}
use Rattle.ocr_machine_parts.specs.Legal.{IsRun, IsLegal}
use Rattle.ocr_machine_parts.specs.Parts.{parts_of}
use Rattle.ocr_machine_laws.proofs.Said.{tied}
use Rattle.ocr_machine_laws.proofs.Own.{started_by}

-- A LOAD that is an entry
entered_held : (m : Option Mode) (k : Option Kept) (w : ℕ) → load_of (hold_of m k) w ≡ Entered → (j : Mode) × (m ≡ Some j)
entered_held (Some j) k w is = (j, refl)
entered_held None k w is = cc is

pub loads_held : (s : Setting) (past : History) (t home d k : ℕ) (a : Answer) (w : List (ℕ × ℕ)) → IsRun s past → IsLegal s past (Call t home (call.Load d k) a w) → (j : Mode) × (mode_on ((parts_of s past).core t) d ≡ Some j)
loads_held s past t home d k a w run legal =
    let next : IsNext (call.Load d k) (says_next s past t) = plain_next (call.Load d k) legal.said.0 (says_next s past t) legal.said.1 in
    let with_core = tied s past t run (started_by s past t run legal.on_parts.running) in
    entered_held (mode_on ((parts_of s past).core t) d) (kept_on ((parts_of s past).core t) d) k
    (ap (λ (o : Option Hold). load_of o k) (sym (with_core.holds (call.Load d k) next d)) ∙ access_law (body_of s past t) (own past t) (call.Load d k) with_core.trace next)
