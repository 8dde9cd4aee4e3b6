-- What the root knows of a run by the words of its EDTs, while no other clerk is out.
use Rattle.std.specs.Prelude.{◌≡◌, ◌≢◌, ◌≤◌, ◌⊎◌, ℕ, List, [], false, reverse, Some, None}
use Rattle.ocr_machine_history.specs.declared.entry.Entry.{Entry}
use Rattle.ocr_machine_history.specs.Made.{is_edt}
use Rattle.ocr_machine_parts.specs.Runs.{IsQuiet}
use Rattle.ocr_machine_laws.specs.Quiet.{IsIdleEdt}
use Rattle.ocr_turns_rule.specs.Counts.{READY}
use Rattle.ocr_turns_rule.specs.Meaning.{Open, Run}
use Rattle.ocr_turns_rule.specs.Debts.{IsNumber}
use Rattle.ocr_turns_rule.specs.Rule.{Fits, IsStill}
use Rattle.ocr_turns_rule.specs.Words.{SeesReady, SeesWord, claiming}
use Rattle.ocr_worker_machine.specs.Clerks.{OcrTerms, OcrView, of_terms}
use Rattle.ocr_worker_machine.specs.Ocr.{meaning}

-- The view is that of the root of this table, no other clerk is out, and it knows of no end of the
-- run. So its logs are the whole history.
pub record IsLone (t : OcrTerms) (v : OcrView) : Type 0 where
  pub terms : v.terms ≡ Some t
  pub unclosed : v.closed ≡ None
  pub root : v.root ≡ 1
  pub nobody_out : v.out ≡ 0

-- it owes no message, no count and no resume, and has claimed no EDT
pub record OwesNothing (v : OcrView) : Type 0 where
  pub delivered : v.owed ≡ []
  pub put : v.debts.unput ≡ []
  pub counted : v.debts.put ≡ []
  pub made_counted : v.debts.made ≡ []
  pub resumed : v.debts.resumes ≡ []
  pub unclaimed : v.claims ≡ []

-- the EDT of this number was found with another word than that of a ready one
abbrev pub IsUnready : OcrView → ℕ → Type 0
IsUnready v n = (word : ℕ) × (word ≢ READY) × SeesWord meaning v n word

-- then no EDT of this number is made, or it cannot go on: it has ended, has an open slot, or waits
abbrev pub OrderlyLaw : Type 0
OrderlyLaw = (t : OcrTerms) (v : OcrView) (J : List Entry) (n : ℕ) → IsLone t v → OwesNothing v
    → Fits meaning t J v → IsUnready v n
    → (is_edt (reverse J) n ≡ false) ⊎ IsIdleEdt (of_terms t) (reverse J) n

-- A PASS over all numbers that finds no ready EDT tells that the run is quiet
abbrev pub PassLaw : Type 0
PassLaw = (t : OcrTerms) (v : OcrView) (J : List Entry) → IsLone t v → OwesNothing v
    → Open meaning.stops J → Fits meaning t J v
    → ((n : ℕ) → IsNumber t.limit n → IsUnready v n) → IsQuiet (of_terms t) (reverse J)

-- and in a quiet run the root owes no message, and no claim is won
abbrev pub RestLaw : Type 0
RestLaw = (t : OcrTerms) (v : OcrView) (J : List Entry) → IsLone t v → Fits meaning t J v
    → IsQuiet (of_terms t) (reverse J)
    → (v.owed ≡ []) × ((n : ℕ) → SeesReady meaning (claiming v n) n → ⊥)

-- THE END OF IT ALL: where nothing can come any more by the words of the table, the run is quiet
abbrev pub StillLaw : Type 0
StillLaw = (t : OcrTerms) (J : List Entry) → 2 ≤ t.limit
    → Run (meaning.legal t.setting.value t.limit) J → IsStill meaning t J
    → IsQuiet (of_terms t) (reverse J)
