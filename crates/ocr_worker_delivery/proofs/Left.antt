-- What a clerk is while it delivers a message that leaves a scope.
use Rattle.std.proofs.Common.{◌≡◌, ℕ, ◌+◌, true, List, [], ◌∷◌, reverse, None, refl, ap, sym, ◌∙◌, subst}
use mathlib.Core.Option.{some}
use lib.ListN.{get_elem?}
use Rattle.ocr_body_code.specs.declared.checked.Checked.{Checked}
use Rattle.ocr_guid.specs.declared.Code.{Code}
use Rattle.ocr_guid.specs.declared.Code.TheVariants as code
use Rattle.ocr_machine_history.specs.declared.entry.Entry.{Entry}
use Rattle.ocr_machine_history.specs.declared.entry.Entry.TheVariants.{Deliver}
use Rattle.ocr_machine_history.specs.declared.entry.Message.{Message}
use Rattle.ocr_machine_history.specs.declared.entry.What.{What}
use Rattle.ocr_machine_history.specs.declared.entry.What.TheVariants as what
use Rattle.ocr_machine_parts.specs.Messages.{sends, sent_by_leave, sent_by_message}
use Rattle.ocr_machine_parts.specs.Parts.{parts_of}
use Rattle.ocr_machine_parts.specs.Taken.{face_in, is_within, parts_in}
use Rattle.ocr_machine_parts.specs.declared.part.Part.{Part}
use Rattle.ocr_worker_machine.specs.Clerks.{MayEnter, OcrView, OwesLeave, of_terms}
use Rattle.ocr_worker_machine.specs.Ocr.{meaning, set_by, touches}
use Rattle.ocr_worker_machine.proofs.Owed.{knows_member, leave_law}
use Rattle.ocr_turns_rule.specs.Contract.{LookTells}
use Rattle.ocr_turns_rule.specs.Rule.{Fits}
use Rattle.ocr_turns_rule.specs.Debts.{listed}
use Rattle.ocr_turns_rule.specs.Sums.{one_at}
use Rattle.ocr_worker_clerk.specs.Entry.{OcrKnown}
use Rattle.ocr_worker_clerk.specs.Work.{AtWork, IsIdleClerk, OcrTable, Took}
use Rattle.ocr_worker_delivery.proofs.Faced.{fitting, owed_now, runnable_now, took_at_hand, took_here}
use Rattle.ocr_worker_delivery.specs.Delivery.{Answers, IsOwed}

-- A DELIVERY to a scope names it alone
named_scope : (limit : ℕ) (m : Message) (c : Code) (x p : ℕ) → m.what ≡ what.Leave x → is_within limit x ≡ true → touches limit (Deliver m c) p ≡ one_at p x + 0
named_scope limit m c x p brings within =
    subst (λ (y : What). touches limit (Deliver (record m { what = y }) c) p ≡ one_at p x + 0) (sym brings) (rw within refl)

-- THE SCOPE is an object, as a look tells
pub scope_within : (table : OcrTable) (p : Checked) (old looked : OcrKnown) (x : ℕ) → AtWork table p old → OwesLeave old.view x → LookTells meaning None old looked → is_within table.1.limit x ≡ true
scope_within table p old looked x work owes tells =
    let terms = ap (λ (v : OcrView). v.terms) tells.2 ∙ work.of_table.1 in
    let open_run = ap (λ (v : OcrView). v.closed) tells.2 ∙ tells.0 in
    let seen = tells.3 table.1 terms open_run in
    let owes_now = subst (λ (v : OcrView). OwesLeave v x) (sym tells.2) owes in
    (knows_member table.1 looked.view seen.0 x owes_now seen.1).within

abbrev pub left_code : List (ℕ × Part) → Code
left_code ps = code.Done

-- SUCH A DELIVERY to the face of a scope
module _ (old mid : OcrKnown) (scope : ℕ) (idle : IsIdleClerk old) (took : Took old mid (scope ∷ [])) (table : OcrTable) (p : Checked) (m : Message) (work : AtWork table p mid) (owed : IsOwed m old.view) (within : is_within table.1.limit scope ≡ true) (brings : m.what ≡ what.Leave scope) where
  pub names_scope : (c : Code) (n : ℕ) → touches table.1.limit (Deliver m c) n ≡ one_at n scope + 0
  names_scope c n = named_scope table.1.limit m c scope n brings within

  pub leaves_none : listed (set_by m.what) ≡ []
  leaves_none = ap (λ (x : What). listed (set_by x)) brings

  pub may_leave : MayEnter table.1 mid.view (Deliver m code.Done) [] took.parts
  may_leave = leave_law table.1 mid.view m scope took.parts (record {
    runnable = runnable_now old mid scope idle took table p m work owed within;
    owed = owed_now old mid scope idle took table p m work owed within;
    brings = brings;
    fitting = fitting old mid scope idle took table p m work owed within;
    at_hand = took_at_hand old mid scope idle took table p m work owed within;
    here = took_here old mid scope idle took table p m work owed within;
  })

  -- WHAT IT ANSWERS, by the face after a history that fits
  pub answers_scope : (ps : List (ℕ × Part)) (sent : List What) → sent ≡ sends (Deliver m code.Done) (parts_in table.1.limit ps)
      → (J : List Entry) × Fits meaning table.1 J old.view × Fits meaning table.1 J mid.view × (face_in table.1.limit ps scope ≡ (parts_of (of_terms table.1) (reverse J)).face scope)
      → Answers table.1 old.view m.what code.Done sent
  answers_scope ps sent sends_are seen =
      let here = owed_now old mid scope idle took table p m work owed within in
      let owes = subst (λ (x : What). get_elem? mid.view.owed here.0 ≡ some (m.place, m.index, x)) brings here.1 in
      subst (λ (x : What). Answers table.1 old.view x code.Done sent) (sym brings) (
        seen.0,
        seen.1,
        record {
          member = (knows_member table.1 mid.view seen.0 scope (here.0, m.place, m.index, owes) seen.2).member;
          code = refl;
          sends = sends_are ∙ (ap (λ (x : What). sent_by_message x (parts_in table.1.limit ps)) brings ∙ ap sent_by_leave seen.3);
        },
      )
