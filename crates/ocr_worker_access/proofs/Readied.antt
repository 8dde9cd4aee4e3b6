-- The units that a clerk has within a call, and the EDTs that it made ready.
use Rattle.std.proofs.Common.{◌≡◌, ℕ, zero, suc, ◌<◌, List, [], ◌∷◌, Result, Ok, Err, OnOk, refl, ap, ◌∙◌, arith}
use Rattle.ocr_worker_clerk.specs.Entry.{PlannedParts, OcrKnown}
use Rattle.ocr_worker_clerk.specs.Push.{Pushes, PushesReady, ReadiesNone}
use Rattle.ocr_worker_clerk.specs.Work.{EntersAs, HasFewDuties}
use Rattle.ocr_worker_clerk.proofs.Push.{entered_readies}
use Rattle.ocr_worker_clerk.proofs.Units.{same_duties, taken_duties}
use Rattle.ocr_worker_machine.specs.Clerks.{OcrTerms, OcrView}
use Rattle.ocr_machine_history.specs.declared.entry.Entry.{Entry}
use Rattle.ocr_body_meaning.specs.Body.{Body}
use Rattle.ocr_machine_parts.specs.declared.part.Part.{Part}
use Rattle.ocr_turns_rule.specs.Debts.{last_if}
use Rattle.ocr_turns_rule.specs.Words.{counting_made, resuming}
use Rattle.ocr_steal.specs.declared.hand.Hand as deque
use Rattle.ocr_worker_access.specs.Access.{HasLifted, HasTaken, Runs}

-- UNITS: whoever runs a body has one claim, and owes no count
pub lifted_duties : (t : OcrTerms) (edt : ℕ) (b : Body) (old new : OcrKnown) (places drawn : List ℕ) (ps : List (ℕ × Part)) → Runs t edt b old → HasLifted t edt old new places drawn ps → HasFewDuties new.view
lifted_duties t edt b old new places drawn ps runs lift = same_duties old.view new.view (ap (λ (v : OcrView). v.debts) lift.view) (ap (λ (v : OcrView). v.claims) lift.view) (taken_duties t edt old runs.taken)

pub kept_duties : (t : OcrTerms) (edt : ℕ) (b : Body) (old new : OcrKnown) (places : List ℕ) → Runs t edt b old → HasTaken t edt old new places → HasFewDuties new.view
kept_duties t edt b old new places runs took = same_duties old.view new.view (ap (λ (v : OcrView). v.debts) took.view) (ap (λ (v : OcrView). v.claims) took.view) (taken_duties t edt old runs.taken)

-- NONE is made ready as an entry is made on what is at hand
pub entered_none : (t : OcrTerms) (old mid new last : OcrKnown) (e : Entry) (h : PlannedParts) (ps : List (ℕ × Part)) → mid.view ≡ old.view → EntersAs t mid new e h → last.view ≡ record new.view { parts = ps } → ReadiesNone old last
entered_none t old mid new last e h ps same done view =
    ap (λ (v : OcrView). v.debts.readied) view ∙ (entered_readies t mid new e h done ∙ ap (λ (v : OcrView). v.debts.readied) same)

-- AN EDT that it made, of which so much is left to be counted
pub counted_none : (n left : ℕ) (old new : OcrKnown) → 0 < left → new.view ≡ counting_made old.view n left → ReadiesNone old new
counted_none n left old new some view = ap (λ (v : OcrView). v.debts.readied) view ∙ none left some
  where
    none : (left : ℕ) → 0 < left → last_if left n old.view.debts.readied ≡ old.view.debts.readied
    none zero some = absurd (omega (arith, some))
    none (suc left) some = refl

-- and that is pushed, where nothing is left
pub counted_ready : {A B : Type 0} (r : Result A B) (n : ℕ) (old mid new : OcrKnown) (before after : deque.Hand) → mid.view ≡ counting_made old.view n 0 → OnOk r (new ≡ mid) → OnOk r (Pushes n before after) → OnOk r (PushesReady old new before after)
counted_ready (Ok x) n old mid new before after view same pushed = record {
  ready = n ∷ [];
  readied = ap (λ (c : OcrKnown). c.view.debts.readied) same ∙ ap (λ (v : OcrView). v.debts.readied) view;
  pushed = pushed;
}
counted_ready (Err e) n old mid new before after view same pushed = pushed

-- one that was resumed
pub resumed_ready : (n : ℕ) (old new : OcrKnown) (before after : deque.Hand) → new.view ≡ resuming old.view n → Pushes n before after → PushesReady old new before after
resumed_ready n old new before after view pushes = record { ready = n ∷ []; readied = ap (λ (v : OcrView). v.debts.readied) view; pushed = pushes }
