-- The code of a call, found on the parts that it names.
use Rattle.std.proofs.Common.{◌≡◌, ⊎_elim, ℕ, ◌+◌, ◌≤◌, true, List, [], ◌∷◌, reverse, ap, sym, ◌∙◌, subst, arith}
use Rattle.ocr_body_code.specs.declared.checked.Checked.{Checked}
use Rattle.ocr_guid.specs.declared.Code.TheVariants.{Done}
use Rattle.ocr_body_meaning.specs.Behaviour.{IsNext}
use Rattle.ocr_body_meaning.specs.Body.{Body, says}
use Rattle.ocr_body_meaning.specs.Call.{is_creation}
use Rattle.ocr_body_meaning.specs.declared.call.Call as body
use Rattle.ocr_machine_history.specs.declared.entry.Entry.{Entry}
use Rattle.ocr_machine_history.specs.declared.entry.Entry.TheVariants.{Call}
use Rattle.ocr_machine_parts.specs.declared.part.Part.{Part}
use Rattle.ocr_machine_parts.specs.Codes.{code_of}
use Rattle.ocr_machine_parts.specs.Footprint.{Covers}
use Rattle.ocr_machine_parts.specs.Legal.{IsCreating}
use Rattle.ocr_machine_parts.specs.Parts.{parts_of}
use Rattle.ocr_machine_parts.specs.Taken.{face_in, is_within}
use Rattle.ocr_turns_rule.specs.Rule.{Fits}
use Rattle.ocr_turns_rule.specs.Sums.{keys, one_at, sum_of, weigh}
use Rattle.ocr_turns_rule.proofs.Totals.{one_here}
use Rattle.ocr_worker_machine.specs.Clerks.{AreAtHand, Knows, OcrView, of_terms}
use Rattle.ocr_worker_machine.specs.Ocr.{meaning, touches}
use Rattle.ocr_worker_clerk.specs.Entry.{OcrKnown}
use Rattle.ocr_worker_clerk.specs.Work.{AtWork, OcrTable}
use Rattle.ocr_worker_access.specs.Calls.{faces_of}
use Rattle.ocr_worker_access.specs.Access.{HasLifted, Runs}
use Rattle.ocr_worker_access.specs.Served.{Serves, own_log}
use Rattle.ocr_worker_access.proofs.Asked.{blank, once_in}
use Rattle.ocr_worker_access.proofs.Called.{hand_is, keys_at}
use Rattle.ocr_worker_access.proofs.Calls.{code_in}
use Rattle.ocr_worker_access.proofs.Logs.{serves_same}
use Rattle.ocr_worker_access.proofs.Places.{call_from, covers_at, faces_home}
use Rattle.ocr_worker_access.proofs.Stops.{creating}

module _ (table : OcrTable) (program : Checked) (edt : ℕ) (b : Body) (old new : OcrKnown) (home : ℕ) (c : body.Call) (ps : List (ℕ × Part)) (work : AtWork table program new) (runs : Runs table.1 edt b old) (lift : HasLifted table.1 edt old new (faces_of table.1.limit home c) [] ps) where
  at_hand : AreAtHand table.1.limit ps new.view.parts
  at_hand = hand_is table.1.limit edt lift.core lift.kept lift.taken ps new.view.parts runs.taken.number lift.is lift.parts (ap (λ (v : OcrView). v.parts) lift.view) (once_in table program new work lift.sees)

  listed : keys ps ≡ (table.1.limit + edt) ∷ faces_of table.1.limit home c
  listed = ap keys lift.parts ∙ ap (λ (l : List ℕ). (table.1.limit + edt) ∷ l) lift.places_are

  back : (p : ℕ) → 1 ≤ touches table.1.limit (Call edt home c blank []) p → 1 ≤ weigh (one_at p) ps
  back p some =
      let k = keys_at p ps in let l = ap (sum_of (one_at p)) listed in
      ⊎_elim
      (λ new. ⊎_elim (λ same. let one = one_here p in let e = ap (one_at p) same in omega (arith, k, l, one, e)) (λ made. absurd (never table.1.limit made.0)) new)
      (λ other. ⊎_elim
      (λ more. ⊎_elim
      (λ same. let h = subst (λ (n : ℕ). 1 ≤ sum_of (one_at n) (faces_of table.1.limit home c)) (sym same.1) (faces_home table.1.limit home c same.0) in omega (arith, k, l, h))
      (λ none. absurd (⊎_elim (λ same. never table.1.limit same.0) (λ same. never table.1.limit same.0) none))
      more.1)
      (λ wants. omega (arith, k, l, wants)) other)
      (call_from table.1.limit edt home p c blank [] some)
    where
      never : (limit : ℕ) → is_within limit 0 ≡ true → ⊥
      never limit is = cc is

  pub covers : Covers table.1.limit (Call edt home c blank []) ps
  covers = covers_at table.1.limit (Call edt home c blank []) ps back

  coded : (J : List Entry) → Fits meaning table.1 J new.view → code_of edt (face_in table.1.limit ps) c ≡ code_of edt (parts_of (of_terms table.1) (reverse J)).face c
  coded J fits = code_in table.1 new.view J ps edt home c blank [] fits at_hand covers

  serves : Serves table.1 new.view edt b
  serves = serves_same table.1 old.view new.view edt b runs.serves (ap (λ (v : OcrView). v.log) lift.view) (ap (λ (v : OcrView). v.facts) lift.view)

  -- an accepted creation could be made next
  pub creating_now : IsNext c (says b (own_log old.view.log edt)) → is_creation c ≡ true → code_of edt (face_in table.1.limit ps) c ≡ Done → Knows table.1 new.view (λ J. IsCreating (of_terms table.1) (reverse J) edt c)
  creating_now next creates done =
      creating table.1 new.view edt b serves c (subst (λ (l : List (ℕ × Entry)). IsNext c (says b (own_log l edt))) (sym (ap (λ (v : OcrView). v.log) lift.view)) next) creates (λ J op fits. sym (coded J fits) ∙ done)

  pub none_drawn : new.view.drawn ≡ []
  none_drawn = ap (λ (v : OcrView). v.drawn) lift.view
