-- What is kept of the entries so far.
use Rattle.std.specs.Prelude.{◌≡◌, ℕ, Option, Some}
use Rattle.ocr_acquire.specs.declared.Mode.{Mode}
use Rattle.ocr_machine_history.specs.declared.entry.Entry.{Entry}
use Rattle.ocr_machine_history.specs.History.{History, Setting}
use Rattle.ocr_machine_parts.specs.Progress.{edt_in}
use Rattle.ocr_machine_state.specs.State.{IsBefore}
use Rattle.ocr_machine_state.specs.declared.state.State.{State}
use Rattle.ocr_memory_model_rows.specs.Order.{IsOrder, AreBundles}
use Rattle.ocr_memory_model_order.specs.Causes.{ends, isolated_ends, graph_of}
use Rattle.ocr_memory_model.specs.Keys.{given_in}
use Rattle.ocr_memory_model.specs.Kept.{AreLast, AreStarting, AreSatisfactions}
use Rattle.ocr_memory_model.specs.Links.{AreLinks}
use Rattle.ocr_memory_model_order.specs.Makers.{satisfies, leaves}
use Rattle.ocr_memory_model_order.specs.Pairs.{held}
use Rattle.ocr_memory_model_order.specs.Places.{places}
use Rattle.ocr_memory_model.specs.declared.past.Past.{Past}

pub record IsPast (s : Setting) (past : History) (kept : Past) : Type 0 where
  pub rows : IsOrder (graph_of s past) kept.rows
  pub last : AreLast past kept.last
  pub starting : AreStarting past kept.starting
  pub satisfactions : AreSatisfactions past kept.satisfactions
  pub links : AreLinks past kept.links
  pub satisfied : AreBundles (graph_of s past) (λ x. places (satisfies x) past) kept.satisfied
  pub left : AreBundles (graph_of s past) (λ x. places (leaves x) past) kept.left
  pub ended : AreBundles (graph_of s past) (λ d. places (ends s d) past) kept.ended
  pub isolated : AreBundles (graph_of s past) (λ d. places (isolated_ends s d) past) kept.isolated

-- the mode of the hold that an entry ends
abbrev pub IsEndedIn : Setting → History → Entry → Option Mode → Type 0
IsEndedIn s past e m = (b : ℕ) → given_in e ≡ Some b → held s past (edt_in e) b ≡ m

-- THE NEXT ENTRY of a run, with the table of those so far and what is kept of them
pub record IsNext (s : Setting) (past : History) (e : Entry) (table : State)
    (kept : Past) : Type 0 where
  pub before : IsBefore s past e table
  pub told : IsPast s past kept
