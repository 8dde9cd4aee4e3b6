-- What a clerk is while it delivers a message that satisfies an event.
use Rattle.std.proofs.Common.{◌≡◌, ℕ, ◌+◌, true, if◌then◌else◌, List, [], ◌∷◌, reverse, None, refl, ap, sym, ◌∙◌, subst}
use mathlib.Core.Option.{some}
use lib.ListN.{get_elem?}
use Rattle.ocr_body_code.specs.declared.checked.Checked.{Checked}
use Rattle.ocr_guid.specs.declared.Code.{Code}
use Rattle.ocr_body_meaning.specs.Holds.{is_done}
use Rattle.ocr_machine_history.specs.declared.entry.Entry.{Entry}
use Rattle.ocr_machine_history.specs.declared.entry.Entry.TheVariants.{Deliver}
use Rattle.ocr_machine_history.specs.declared.entry.Message.{Message}
use Rattle.ocr_machine_history.specs.declared.entry.What.{What}
use Rattle.ocr_machine_history.specs.declared.entry.What.TheVariants as what
use Rattle.ocr_machine_parts.specs.LegalOn.{delivery_code}
use Rattle.ocr_machine_parts.specs.Messages.{satisfied, sends, sent_by_message}
use Rattle.ocr_machine_parts.specs.Parts.{parts_of}
use Rattle.ocr_machine_parts.specs.Taken.{face_in, is_within, parts_in}
use Rattle.ocr_machine_parts.specs.declared.part.Part.{Part}
use Rattle.ocr_worker_machine.specs.Clerks.{MayEnter, OcrView, of_terms}
use Rattle.ocr_worker_machine.specs.Ocr.{meaning, set_by, touches}
use Rattle.ocr_worker_machine.proofs.Owed.{deliver_law, knows_satisfiable}
use Rattle.ocr_turns_rule.specs.Contract.{LookTells}
use Rattle.ocr_turns_rule.specs.Rule.{Fits}
use Rattle.ocr_turns_rule.specs.Debts.{listed}
use Rattle.ocr_turns_rule.specs.Sums.{one_at}
use Rattle.ocr_worker_clerk.specs.Entry.{OcrKnown}
use Rattle.ocr_worker_clerk.specs.Work.{AtWork, IsIdleClerk, OcrTable, Took}
use Rattle.ocr_worker_delivery.proofs.Faced.{fitting, owed_now, runnable_now, took_at_hand, took_here}
use Rattle.ocr_worker_delivery.specs.Delivery.{Answers, IsOwed, OwesTo}

-- A DELIVERY to an event names it alone
named_one : (limit : ℕ) (m : Message) (c : Code) (e slot payload p : ℕ) → m.what ≡ what.Satisfy e slot payload → is_within limit e ≡ true → touches limit (Deliver m c) p ≡ one_at p e + 0
named_one limit m c e slot payload p brings within =
    subst (λ (x : What). touches limit (Deliver (record m { what = x }) c) p ≡ one_at p e + 0) (sym brings) (rw within refl)

-- THE EVENT is an object, as a look tells
pub event_within : (table : OcrTable) (p : Checked) (old looked : OcrKnown) (event : ℕ) → AtWork table p old → OwesTo event old.view → LookTells meaning None old looked → is_within table.1.limit event ≡ true
event_within table p old looked event work owes tells =
    let terms = ap (λ (v : OcrView). v.terms) tells.2 ∙ work.of_table.1 in
    let open_run = ap (λ (v : OcrView). v.closed) tells.2 ∙ tells.0 in
    let seen = tells.3 table.1 terms open_run in
    let owes_now = subst (OwesTo event) (sym tells.2) owes in
    (knows_satisfiable table.1 looked.view seen.0 event owes_now.0 owes_now.1 owes_now.2 seen.1).within

-- THE CODE is the event's, by the face at hand
pub coded_by : (code : Code) (n limit event payload : ℕ) (qs ps : List (ℕ × Part)) → code ≡ delivery_code (face_in n qs event) payload → n ≡ limit → qs ≡ ps → code ≡ delivery_code (face_in limit ps event) payload
coded_by code n limit event payload qs ps is lim same =
    is ∙ (ap (λ (k : ℕ). delivery_code (face_in k qs event) payload) lim ∙ ap (λ (l : List (ℕ × Part)). delivery_code (face_in limit l event) payload) same)

abbrev pub event_code : (limit event payload : ℕ) → List (ℕ × Part) → Code
event_code limit event payload ps = delivery_code (face_in limit ps event) payload

-- SUCH A DELIVERY to the face of an event
module _ (old mid : OcrKnown) (event : ℕ) (idle : IsIdleClerk old) (took : Took old mid (event ∷ [])) (table : OcrTable) (p : Checked) (m : Message) (work : AtWork table p mid) (owed : IsOwed m old.view) (within : is_within table.1.limit event ≡ true) (slot payload : ℕ)
    (brings : m.what ≡ what.Satisfy event slot payload) where
  abbrev answer_by : List (ℕ × Part) → Code
  answer_by = event_code table.1.limit event payload

  pub names_event : (c : Code) (n : ℕ) → touches table.1.limit (Deliver m c) n ≡ one_at n event + 0
  names_event c n = named_one table.1.limit m c event slot payload n brings within

  pub sets_none : listed (set_by m.what) ≡ []
  sets_none = ap (λ (x : What). listed (set_by x)) brings

  pub may_satisfy : MayEnter table.1 mid.view (Deliver m (answer_by took.parts)) [] took.parts
  may_satisfy = deliver_law table.1 mid.view m event slot payload took.parts (record {
    runnable = runnable_now old mid event idle took table p m work owed within;
    owed = owed_now old mid event idle took table p m work owed within;
    brings = brings;
    fitting = fitting old mid event idle took table p m work owed within;
    at_hand = took_at_hand old mid event idle took table p m work owed within;
    here = took_here old mid event idle took table p m work owed within;
  })

  -- WHAT IT ANSWERS, by the face after a history that fits
  pub answers_event : (ps : List (ℕ × Part)) (sent : List What) → sent ≡ sends (Deliver m (answer_by ps)) (parts_in table.1.limit ps)
      → (J : List Entry) × Fits meaning table.1 J old.view × Fits meaning table.1 J mid.view × (face_in table.1.limit ps event ≡ (parts_of (of_terms table.1) (reverse J)).face event)
      → Answers table.1 old.view m.what (answer_by ps) sent
  answers_event ps sent sends_are seen =
      let here = owed_now old mid event idle took table p m work owed within in
      let owes = subst (λ (x : What). get_elem? mid.view.owed here.0 ≡ some (m.place, m.index, x)) brings here.1 in
      let same = seen.3 in
      subst (λ (x : What). Answers table.1 old.view x (answer_by ps) sent) (sym brings) (
        seen.0,
        seen.1,
        record {
          has_slot = (knows_satisfiable table.1 mid.view seen.0 event slot payload (here.0, m.place, m.index, owes) seen.2).satisfiable;
          code = ap (λ (x : Part). delivery_code x payload) same;
          sends = sends_are
              ∙ (ap (λ (x : What). if is_done (answer_by ps) then sent_by_message x (parts_in table.1.limit ps) else []) brings
              ∙ ap (λ (x : Part). if is_done (answer_by ps) then satisfied x slot payload else []) same);
        },
      )
