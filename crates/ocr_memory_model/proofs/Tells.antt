-- The modes of holds, by the table.
use Rattle.std.proofs.Common.{◌≡◌, ℕ, true, Option, Some, None, sym, ap, ◌∙◌}
use Rattle.ocr_acquire.specs.declared.Mode.{Mode}
use Rattle.ocr_machine_history.specs.declared.entry.Entry.{Entry}
use Rattle.ocr_machine_history.specs.declared.entry.Entry.TheVariants.{Call, Free}
use Rattle.ocr_machine_history.specs.History.{History, Setting}
use Rattle.ocr_machine_parts.specs.Kinds.{mode_on, is_running}
use Rattle.ocr_machine_parts.specs.Legal.{IsRun, IsLegal}
use Rattle.ocr_machine_parts.specs.Parts.{Parts, parts_of}
use Rattle.ocr_machine_parts.specs.Progress.{edt_in}
use Rattle.ocr_machine_state.specs.State.{core_on, IsStateOf}
use Rattle.ocr_machine_state.specs.declared.state.State.{State}
use Rattle.ocr_memory_model_order.specs.Pairs.{held}
use Rattle.ocr_memory_model_order.proofs.Modes.{running_held}
use Rattle.ocr_memory_model.specs.Keys.{given_in}

gives_running : (s : Setting) (past : History) (e : Entry) (b : ℕ) → IsLegal s past e → given_in e ≡ Some b → is_running ((parts_of s past).core (edt_in e)) ≡ true
gives_running s past (Call t home c a w) b legal is = legal.on_parts.running
gives_running s past (Free t d w) b legal is = legal.on_parts.running
gives_running s past other b legal is = cc is

pub ended_is : (s : Setting) (past : History) (e : Entry) (b : ℕ) (table : State) → IsStateOf s past table → IsRun s past → IsLegal s past e → given_in e ≡ Some b → held s past (edt_in e) b ≡ mode_on (core_on table (edt_in e)) b
ended_is s past e b table of run legal is =
    running_held s past (edt_in e) b run (gives_running s past e b legal is)
    ∙ sym (ap (λ (f : Parts). mode_on (f.core (edt_in e)) b) of.parts)

abbrev mode_part : Option (ℕ × Mode) → Option Mode
mode_part None = None
mode_part (Some x) = Some x.1

pub next_same_mode : (d g : ℕ) (m k : Mode) (o : Option (ℕ × Mode)) → o ≡ Some (d, m) → o ≡ Some (g, k) → Some m ≡ Some k
next_same_mode d g m k o one other = ap (λ (x : Option (ℕ × Mode)). mode_part x) (sym one ∙ other)

pub next_none : (d : ℕ) (m : Mode) (o : Option (ℕ × Mode)) → o ≡ Some (d, m) → o ≡ None → ⊥
next_none d m None is none = cc is
next_none d m (Some x) is none = cc none
