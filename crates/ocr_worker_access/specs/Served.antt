-- What a clerk knows of the EDT that it runs.
use Rattle.std.specs.Prelude.{◌≡◌, ◌<◌, ℕ, List, true, reverse, length, slice_index_or}
use mathlib.Core.Option.{some}
use lib.ListN.{get_elem?}
use Rattle.ocr_body_code.specs.Checked.{checked_tree}
use Rattle.ocr_slots.specs.declared.Slot.{Slot}
use Rattle.ocr_body_meaning.specs.Behaviour.{Asked}
use Rattle.ocr_body_meaning.specs.Body.{Body}
use Rattle.ocr_machine_history.specs.declared.entry.Entry.{Entry}
use Rattle.ocr_machine_history.specs.History.{own}
use Rattle.ocr_machine_parts.specs.declared.part.Core.{Core}
use Rattle.ocr_machine_parts.specs.Taken.{is_within}
use Rattle.ocr_turns_rule.specs.Rule.{RunsIn}
use Rattle.ocr_turns_rule.specs.Sums.{entries}
use Rattle.ocr_worker_machine.specs.Clerks.{OcrTerms, OcrView}
use Rattle.ocr_worker_machine.specs.Facts.{body_by}
use Rattle.ocr_worker_machine.specs.Ocr.{ends, starts}
use Rattle.ocr_worker_machine.specs.declared.fact.Fact.{Fact}
use Rattle.ocr_worker_machine.specs.declared.fact.Fact.TheVariants.{Count, IsSet, Began}

-- the fact is among those that were learnt
abbrev pub IsKnown : List Fact → Fact → Type 0
IsKnown facts f = (k : ℕ) × (get_elem? facts k ≡ some f)

-- each slot of the EDT is known to be set, to these payloads
pub record AreSetTo (facts : List Fact) (edt : ℕ) (face : List Slot) (payloads : List ℕ) : Type 0
  where
    pub sizes : length payloads ≡ length face
    pub set : (k : ℕ) → k < length payloads
        → IsKnown facts (IsSet edt k (slice_index_or payloads k 0))

-- the EDT runs this body, by the log and by what was learnt
pub record Serves (t : OcrTerms) (v : OcrView) (edt : ℕ) (b : Body) : Type 0 where
  pub within : is_within t.limit edt ≡ true
  pub face : List Slot
  pub core : Core
  pub payloads : List ℕ
  pub set : AreSetTo v.facts edt face payloads
  pub counted : IsKnown v.facts (Count edt (length face))
  pub begun : IsKnown v.facts (Began edt face core)
  pub body : b ≡ body_by (checked_tree t.setting.value.program) face core payloads
  pub runs : RunsIn starts ends v.log edt

-- the EDT's calls by a log, the newest first
abbrev pub own_log : List (ℕ × Entry) → ℕ → List Asked
own_log log t = own (reverse (entries log)) t
