-- The parts at hand of a clerk that runs an EDT, by the history that it saw last.
use Rattle.std.proofs.Common.{◌≡◌, ℕ, ◌+◌, true, List, reverse, refl, sym, ◌∙◌, ap}
use Rattle.ocr_machine_history.specs.declared.entry.Entry.{Entry}
use Rattle.ocr_machine_parts.specs.declared.part.Core.{Core}
use Rattle.ocr_machine_parts.specs.declared.part.Part.{Part}
use Rattle.ocr_machine_parts.specs.declared.part.Part.TheVariants as part
use Rattle.ocr_machine_parts.specs.Effects.{settled, settled_parts}
use Rattle.ocr_machine_parts.specs.Footprint.{Covers, IsAlike}
use Rattle.ocr_machine_parts.specs.Kinds.{is_running}
use Rattle.ocr_machine_parts.specs.Legal.{IsOnParts, IsRun}
use Rattle.ocr_machine_parts.specs.LegalOn.{IsLegalOn}
use Rattle.ocr_machine_parts.specs.Parts.{parts_of}
use Rattle.ocr_machine_parts.specs.Taken.{ArePartsOf, has, is_within, look, parts_in, seen}
use Rattle.ocr_machine_parts.proofs.Within.{within_law}
use Rattle.ocr_acquire.specs.declared.Mode.{Mode}
use Rattle.ocr_machine_laws.specs.Kept.{IsPlanFor, kept_ready}
use Rattle.ocr_machine_laws.proofs.Kept.{alike_kept, back_law, within_core}
use Rattle.ocr_turns_rule.specs.Rule.{Fits}
use Rattle.ocr_worker_machine.specs.Clerks.{AreAtHand, OcrTerms, OcrView, of_terms}
use Rattle.ocr_worker_machine.specs.Ocr.{meaning}
use Rattle.ocr_worker_machine.proofs.Entered.{fitting_parts}
use Rattle.ocr_worker_machine.proofs.Homes.{placed_core, running_settled}
use Rattle.ocr_worker_machine.proofs.Runs.{run_is}

module _ (t : OcrTerms) (v : OcrView) (J : List Entry) (fits : Fits meaning t J v) where
  pub is_run : IsRun (of_terms t) (reverse J)
  is_run = run_is t.setting.value t.limit J fits.run

  -- what is at hand is of the history
  pub at_hand_of : (hand : List (ℕ × Part)) → AreAtHand t.limit hand v.parts → ArePartsOf t.limit (parts_of (of_terms t) (reverse J)) hand
  at_hand_of hand at_hand = λ n here. fitting_parts t J v fits n (at_hand.there n here) ∙ sym (at_hand.alike n here)

  pub hand_alike : (hand : List (ℕ × Part)) (e : Entry) → AreAtHand t.limit hand v.parts → Covers t.limit e hand → IsAlike e (parts_of (of_terms t) (reverse J)) (settled_parts (parts_in t.limit hand))
  hand_alike hand e at_hand covers = alike_kept t.limit e (parts_of (of_terms t) (reverse J)) hand (within_law (of_terms t) (reverse J) fits.limits is_run) covers (at_hand_of hand at_hand)

  -- what is legal in the history is legal on the parts at hand
  pub legal_on_hand : (hand : List (ℕ × Part)) (e : Entry) (members : List (ℕ × Mode)) → AreAtHand t.limit hand v.parts → Covers t.limit e hand → IsPlanFor (of_terms t) (reverse J) e members
      → IsOnParts (of_terms t) (reverse J) e → IsLegalOn t.limit (kept_ready t.limit members e hand) e
  legal_on_hand hand e members at_hand covers plan legal = back_law (of_terms t) (reverse J) e hand members (record { enough = fits.limits; run = is_run; covers = covers; parts = at_hand_of hand at_hand; plan = plan }) legal

pub seen_core : (limit t : ℕ) (c : Core) → is_within limit t ≡ true → seen limit (limit + t) (part.Core c) ≡ settled (part.Core c)
seen_core limit t c within = let w = within_core limit t within in rw (w.0, w.1, within) refl

-- the EDT whose core is at hand has it in the history
pub core_of : (t : OcrTerms) (v : OcrView) (J : List Entry) (hand : List (ℕ × Part)) (edt : ℕ) (c : Core) → Fits meaning t J v → AreAtHand t.limit hand v.parts → is_within t.limit edt ≡ true
    → has hand (t.limit + edt) ≡ true → look hand (t.limit + edt) ≡ part.Core c → (parts_of (of_terms t) (reverse J)).core edt ≡ settled (part.Core c)
core_of t v J hand edt c fits at_hand within here is =
    sym (placed_core t.limit edt (parts_of (of_terms t) (reverse J)) within)
    ∙ (at_hand_of t v J fits hand at_hand (t.limit + edt) here ∙ (ap (seen t.limit (t.limit + edt)) is ∙ seen_core t.limit edt c within))

pub runs_in : (t : OcrTerms) (v : OcrView) (J : List Entry) (hand : List (ℕ × Part)) (edt : ℕ) (c : Core) → Fits meaning t J v → AreAtHand t.limit hand v.parts → is_within t.limit edt ≡ true
    → has hand (t.limit + edt) ≡ true → look hand (t.limit + edt) ≡ part.Core c → is_running (part.Core c) ≡ true → is_running ((parts_of (of_terms t) (reverse J)).core edt) ≡ true
runs_in t v J hand edt c fits at_hand within here is running = ap is_running (core_of t v J hand edt c fits at_hand within here is) ∙ (running_settled (part.Core c) ∙ running)
