-- An entry whose step was made on the parts at hand.
use Rattle.std.proofs.Common.{◌≡◌, ℕ, ◌+◌, ◌≤◌, List, Option, ap, sym, ◌∙◌, subst, arith}
use Rattle.ocr_machine_history.specs.declared.entry.Entry.{Entry}
use Rattle.ocr_machine_history.specs.declared.entry.What.{What}
use Rattle.ocr_machine_history.specs.Weight.{weight_of}
use Rattle.ocr_machine_parts.specs.declared.part.Part.{Part}
use Rattle.ocr_worker_machine.specs.Clerks.{IsStep, OcrTerms}
use Rattle.ocr_worker_machine.specs.Ocr.{meaning}
use Rattle.ocr_turns_rule.specs.Contract.{MayCommit}
use Rattle.ocr_turns_rule.specs.Sums.{as_some, keys, one_at, replace_all, weigh}
use Rattle.ocr_turns_rule.specs.Live.{raising}
use Rattle.ocr_turns_rule.specs.Steps.{deed}
use Rattle.ocr_turns_rule.proofs.Numbered.{weigh_keys}
use Rattle.ocr_turns.specs.Hand.{at_hand}
use Rattle.ocr_worker_clerk.specs.Entry.{CanMake, PlannedParts, OcrKnown}
use Rattle.ocr_worker_clerk.specs.Work.{in_hand}
use Rattle.ocr_worker_clerk.proofs.Entries.{may_commit, turns_keys}
use Rattle.ocr_worker_clerk.proofs.Affords.{Affords}
use Rattle.ocr_worker_clerk.proofs.Hands.{replace_whole, some_keys}

module _ (t : OcrTerms) (old mid : OcrKnown) (e : Entry) (h : PlannedParts) (sent : List What) (hand : old.parts ≡ as_some (in_hand old.parts)) (can : (was : List (ℕ × Part)) × CanMake t old.view e h was) (made : IsStep t.limit e h.members h.parts (in_hand old.parts) sent) (k : ℕ) (view : mid.view ≡ raising old.view k) (parts : mid.parts ≡ old.parts) where
  listed : at_hand mid.parts ≡ in_hand old.parts
  listed = ap (λ (ps : List (ℕ × Option Part)). in_hand ps) parts

  pub still_step : IsStep t.limit e h.members h.parts (at_hand mid.parts) sent
  still_step = subst (λ (l : List (ℕ × Part)). IsStep t.limit e h.members h.parts l sent) (sym listed) made

  once : (p : ℕ) → weigh (one_at p) (as_some (in_hand old.parts)) ≤ 1
  once p =
      let may = can.1.may in
      let w = weigh_keys (one_at p) (as_some (in_hand old.parts)) h.parts (some_keys (in_hand old.parts) ∙ turns_keys (in_hand old.parts) h.parts made.same_keys) in
      let o = may.at_hand.once p in omega (arith, w, o)

  -- each part is put where it stands
  pub same_hand : replace_all (as_some (at_hand mid.parts)) mid.parts ≡ mid.parts
  same_hand =
      ap (λ (l : List (ℕ × Part)). replace_all (as_some l) mid.parts) listed
      ∙ (ap (λ (ps : List (ℕ × Option Part)). replace_all (as_some (in_hand old.parts)) ps) parts
      ∙ (replace_whole (as_some (in_hand old.parts)) old.parts (ap keys (sym hand)) once ∙ (sym hand ∙ sym parts)))

  pub may_stay : Affords mid.view (deed meaning t.limit mid.view e (at_hand mid.parts) sent) → old.view.weight + weight_of e ≤ t.share → MayCommit meaning t mid.view e (at_hand mid.parts) sent
  may_stay affords light = may_commit t old.view mid.view e h can.0 (at_hand mid.parts) sent k affords view can.1 light still_step
