-- An entry that names all parts that the clerk keeps.
use Rattle.std.proofs.Common.{◌≡◌, ℕ, ◌≤◌, List, [], ◌∷◌, ◌++◌, length, Option, Result, Ok, Err, refl, ap, sym, ◌∙◌, subst, arith}
use Rattle.std.specs.Prelude.{OnOk}
use Rattle.ocr_body_code.specs.declared.checked.Checked.{Checked}
use Rattle.ocr_machine_history.specs.declared.entry.Entry.{Entry}
use Rattle.ocr_machine_parts.specs.declared.part.Part.{Part}
use Rattle.ocr_worker_machine.specs.Clerks.{OcrTerms, OcrView}
use Rattle.ocr_worker_machine.specs.Ocr.{meaning}
use Rattle.ocr_turns_rule.specs.Contract.{SameRoom}
use Rattle.ocr_turns_rule.specs.Steps.{deed, logged}
use Rattle.ocr_turns_rule.specs.Sums.{as_some, keys, one_at, weigh}
use Rattle.ocr_turns_rule.proofs.Numbered.{weigh_keys}
use Rattle.ocr_worker_clerk.specs.Entry.{CanMake, PlannedParts, OcrKnown}
use Rattle.ocr_worker_clerk.specs.Work.{AtWork, EntersAs, EntersKept, HasAllAtHand, OcrTable, Stays, in_hand, lifted}
use Rattle.ocr_worker_clerk.proofs.Entries.{turns_keys}
use Rattle.ocr_turns_rule.specs.Live.{raising}
use Rattle.ocr_worker_clerk.proofs.Goes.{Calm, work_still}
use Rattle.ocr_worker_clerk.proofs.Hands.{hand_keys, lifted_keys, replace_whole, some_keys}

-- where the entry names all parts that the clerk keeps, it leaves them all, and all are at hand
pub entered_whole : (t : OcrTerms) (c new : OcrKnown) (e : Entry) (h : PlannedParts) → keys c.parts ≡ keys h.parts → keys c.view.parts ≡ keys h.parts → ((p : ℕ) → weigh (one_at p) h.parts ≤ 1) → EntersAs t c new e h → EntersKept t c new e h
entered_whole t c new e h hand_keyed kept_keyed differ enters =
    let later_keys : keys enters.later ≡ keys h.parts = turns_keys enters.later h.parts enters.step.same_keys in
    let once : (p : ℕ) → weigh (one_at p) enters.later ≤ 1 = λ p. let w = weigh_keys (one_at p) enters.later h.parts later_keys in let o = differ p in omega (arith, w, o) in
    record {
      number = enters.number;
      later = enters.later;
      sent = enters.sent;
      step = enters.step;
      paid = enters.paid;
      view = enters.view;
      kept = ap (λ (v : OcrView). v.parts) enters.view ∙ replace_whole enters.later c.view.parts (later_keys ∙ sym kept_keyed) once;
      hand = enters.hand
          ∙ replace_whole (as_some enters.later) c.parts (some_keys enters.later ∙ (later_keys ∙ sym hand_keyed))
          (λ p. let w = weigh_keys (one_at p) (as_some enters.later) enters.later (some_keys enters.later) in let o = once p in omega (arith, w, o));
      sees = enters.sees;
    }

module _ (t : OcrTerms) (c : OcrKnown) (e : Entry) (h : PlannedParts) (places : List ℕ) (has : HasAllAtHand c places) (can : CanMake t c.view e h (in_hand c.parts)) where
  same_keys : keys (in_hand c.parts) ≡ keys h.parts
  same_keys = turns_keys (in_hand c.parts) h.parts can.same_keys

  pub whole_once : (p : ℕ) → weigh (one_at p) c.parts ≤ 1
  whole_once p =
      let w = weigh_keys (one_at p) c.parts h.parts (sym (hand_keys c.parts has.at_hand) ∙ same_keys) in
      let o = can.may.at_hand.once p in omega (arith, w, o)

  pub whole_after : (mid new : OcrKnown) → mid.view ≡ c.view → mid.parts ≡ lifted c.parts → EntersAs t mid new e h → EntersKept t c new e h
  whole_after mid new view hand enters =
      let r = entered_whole t mid new e h
      (ap (λ (l : List (ℕ × Option Part)). keys l) hand ∙ (lifted_keys c.parts ∙ (sym (hand_keys c.parts has.at_hand) ∙ same_keys)))
      (ap (λ (v : OcrView). keys v.parts) view ∙ (has.kept ∙ (sym has.hand ∙ (sym (hand_keys c.parts has.at_hand) ∙ same_keys))))
      can.may.at_hand.once enters in
      record {
        number = r.number;
        later = r.later;
        sent = r.sent;
        step = r.step;
        paid = r.paid;
        view = r.view ∙ ap (λ (v : OcrView). logged (raising v r.paid) r.number (deed meaning t.limit v e r.later r.sent)) view;
        kept = r.kept;
        hand = r.hand;
        sees = r.sees;
      }

-- THE CLERK whose parts were lifted, or not
pub still : (v : OcrView) → Calm v v
still v = record { terms = refl; root = refl; seat = refl; out = refl; joined = refl; log = refl; weight = refl; drawn = refl; full = refl; reached = refl; closed = refl; stake = omega arith; raised = refl; ended = refl }

pub lifted_work : (table : OcrTable) (p : Checked) (old new : OcrKnown) → AtWork table p old → new.table ≡ old.table → new.view ≡ old.view → SameRoom old new → length new.parts ≡ length old.parts → AtWork table p new
lifted_work table p old new work same view room long =
    work_still table p old new old.view work same view (still old.view)
    (let r = room.0 in omega (arith, r))
    (let s = room.1 in omega (arith, s, long))

pub lifted_length : (xs : List (ℕ × Option Part)) → length (lifted xs) ≡ length xs
lifted_length [] = refl
lifted_length (x ∷ xs) = let r = lifted_length xs in omega (arith, r)

pub stays_from : (old mid new : OcrKnown) → mid.table ≡ old.table → mid.view ≡ old.view → Stays mid new → Stays old new
stays_from old mid new table view stays = record {
  table = stays.table ∙ table;
  terms = stays.terms ∙ ap (λ (v : OcrView). v.terms) view;
  root = stays.root ∙ ap (λ (v : OcrView). v.root) view;
  seat = stays.seat ∙ ap (λ (v : OcrView). v.seat) view;
  out = stays.out ∙ ap (λ (v : OcrView). v.out) view;
  joined = stays.joined ∙ ap (λ (v : OcrView). v.joined) view;
  log = (stays.log.0, stays.log.1 ∙ ap (λ (v : OcrView). v.log ++ stays.log.0) view);
}

pub lifted_can : (t : OcrTerms) (old mid : OcrKnown) (e : Entry) (h : PlannedParts) (ps : List (ℕ × Part)) → mid.view ≡ old.view → ps ≡ in_hand old.parts → CanMake t old.view e h (in_hand old.parts) → CanMake t mid.view e h ps
lifted_can t old mid e h ps view is can = subst (λ (v : OcrView). CanMake t v e h ps) (sym view) (subst (λ (l : List (ℕ × Part)). CanMake t old.view e h l) (sym is) can)

pub kept_on : {A B : Type 0} (t : OcrTerms) (old mid new : OcrKnown) (e : Entry) (h : PlannedParts) (places : List ℕ) → HasAllAtHand old places → CanMake t old.view e h (in_hand old.parts) → mid.view ≡ old.view → mid.parts ≡ lifted old.parts
    → (r : Result A B) → OnOk r (EntersAs t mid new e h) → OnOk r (EntersKept t old new e h)
kept_on t old mid new e h places has can view hand (Ok x) enters = whole_after t old e h places has can mid new view hand enters
kept_on t old mid new e h places has can view hand (Err x) enters = tt
