-- The units that the live word counts: what a view may still do.
use Rattle.std.specs.Prelude.{ℕ, ◌+◌, List, slice_index}
use Rattle.ocr_base.specs.Mail.{tally}
use Rattle.ocr_turns_rule.specs.Counts.{state_at}
use Rattle.ocr_turns_rule.specs.Debts.{owed_slots}
use Rattle.ocr_turns_rule.specs.Sums.{weigh, sum_of, up_to, is_free}
use Rattle.ocr_turns_rule.specs.declared.view.View.{View}

-- what one seat may raise the live word by, in all
abbrev pub MOST_RAISED : ℕ
MOST_RAISED = 72057594037927936

abbrev pub one_each : {A : Type 0} → A → ℕ
one_each x = 1

module _ {G E P N F : Type 0} where
  -- the claims that a view has
  abbrev pub claim_count : View G E P N F → ℕ
  claim_count v = sum_of one_each v.claims

  -- a unit for each message that it owes, each set slot and each making that is not counted, each
  -- claim and each resume
  abbrev pub duties : View G E P N F → ℕ
  duties v = tally one_each v.owed + (owed_slots one_each v.debts + (weigh
      one_each v.debts.made + (claim_count v + sum_of one_each v.debts.resumes)))

  abbrev pub units : View G E P N F → ℕ
  units v = v.spares + duties v

-- how many EDTs are ready: only one that is made has the word READY
abbrev pub ready_count : List ℕ → ℕ → ℕ → ℕ
ready_count words slots limit = up_to (λ n. is_free (slice_index words (state_at slots n))) limit
