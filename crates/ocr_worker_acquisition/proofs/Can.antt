-- A clerk may enter what the block lets an EDT do.
use Rattle.std.proofs.Common.{◌≡◌, ℕ, ◌+◌, ◌≤◌, Bool, true, false, ◌==◌, if◌then◌else◌, List, [], ◌∷◌, Option, Some, None, refl, ap, sym, ◌∙◌, subst, arith}
use Rattle.std.proofs.lemmas.Bool.{eqb-true}
use lib.ListN.{get_elem?}
use mathlib.Core.Option.{some}
use Rattle.ocr_base.proofs.Booleans.{same as number_same}
use Rattle.ocr_body_code.specs.Checked.{checked_tree}
use Rattle.ocr_body_code.specs.declared.checked.Checked.{Checked}
use Rattle.ocr_program_tree.specs.Runnable.{IsRunnable}
use Rattle.ocr_machine_history.specs.declared.entry.Entry.{Entry}
use Rattle.ocr_machine_history.specs.declared.entry.Entry.TheVariants.{Acquire}
use Rattle.ocr_machine_parts.specs.declared.part.Part.{Part}
use Rattle.ocr_machine_parts.specs.declared.part.Part.TheVariants as part
use Rattle.ocr_machine_parts.specs.Taken as taken_parts
use Rattle.ocr_machine_parts.specs.Taken.{parts_in}
use Rattle.ocr_machine_laws.specs.Kept.{kept_ready}
use Rattle.ocr_machine_parts.specs.Readiness.{plan_from, ready_with}
use Rattle.ocr_worker_machine.specs.Clerks.{AreAtHand, MayEnter}
use Rattle.ocr_worker_machine.specs.Ocr.{makes, meaning}
use Rattle.ocr_base.specs.Mail.{Has}
use Rattle.ocr_machine_parts.specs.Legal.{is_stop}
use Rattle.ocr_machine_parts.specs.Messages.{delivered}
use Rattle.ocr_worker_machine.proofs.Places.{places_differ}
use Rattle.ocr_turns_rule.specs.Contract.{Claims}
use Rattle.ocr_turns_rule.specs.Debts.{times}
use Rattle.ocr_turns_rule.specs.Steps.{deed}
use Rattle.ocr_turns_rule.specs.Sums.{HasAll, as_some, keys, one_at, weigh}
use Rattle.ocr_worker_clerk.specs.Entry.{CanMake, PlannedParts, OcrKnown}
use Rattle.ocr_worker_clerk.specs.Work.{AtWork, HasAllAtHand, HasTakenOn, OcrTable, in_hand}
use Rattle.ocr_worker_clerk.proofs.Counters.{CountNothing, none_counted}
use Rattle.ocr_worker_clerk.proofs.Hands.{in_hand_some, some_keys}
use Rattle.ocr_worker_acquisition.specs.Acquisition.{IsAble, IsLet, Meets, entry_by, two_faces}
use Rattle.ocr_worker_acquisition.specs.declared.act.Act.{Act}
use Rattle.ocr_worker_acquisition.specs.declared.act.Act.TheVariants as act
use Rattle.ocr_worker_acquisition.proofs.Acts.{acquire_may, pass_may, wait_may}
use Rattle.ocr_worker_acquisition.proofs.Three.{block_there, core_first, face_there, footprint_sum, hand_sum, ready_list}

module _ (table : OcrTable) (p : Checked) (edt d : ℕ) (a : Act) (payloads places : List ℕ) (h : PlannedParts) (c : OcrKnown) (work : AtWork table p c) (has : HasTakenOn table.1 edt c) (m : Meets table.1 edt d a payloads places h c) where
  abbrev limit : ℕ
  limit = table.1.limit

  abbrev e : Entry
  e = entry_by a edt d

  abbrev before : List (ℕ × Part)
  before = (limit + edt, part.Core m.core) ∷ two_faces m.first edt d m.slots m.state

  abbrev after : List (ℕ × Part)
  after = (limit + edt, part.Core (ready_with m.slots payloads m.core)) ∷ two_faces m.first edt d m.slots m.state

  in_hand_is : in_hand c.parts ≡ after
  in_hand_is = ap in_hand m.hand ∙ in_hand_some after

  sums : (n : ℕ) → weigh (one_at n) before ≡ one_at n edt + (one_at n d + (one_at n (limit + edt) + 0))
  sums n = hand_sum limit edt d (part.Core m.core) m.slots m.state has.number m.inside m.apart n m.first

  foot : (n : ℕ) → meaning.touches limit (Acquire edt d) n ≡ one_at n edt + (one_at n d + (one_at n (limit + edt) + 0))
  foot n = footprint_sum limit edt d n has.number m.inside m.apart

  hand_at : AreAtHand limit before c.view.parts
  hand_at = subst (λ (l : List (ℕ × Part)). AreAtHand limit before l) (sym m.kept) (record {
    once = λ n. let s = sums n in let f = foot n in let l = places_differ limit (Acquire edt d) n in omega (arith, s, f, l);
    there = λ n on. on;
    alike = λ n on. refl;
  })

  runnable : IsRunnable (checked_tree table.1.setting.value.program)
  runnable = subst (λ (q : Checked). IsRunnable (checked_tree q)) (sym work.program_is) work.runnable

  face_at : (k : ℕ) × (get_elem? c.view.parts k ≡ some (edt, part.Edt m.slots))
  face_at = by_order m.first m.kept
    where
      by_order : (b : Bool) → c.view.parts ≡ (limit + edt, part.Core m.core) ∷ two_faces b edt d m.slots m.state → (k : ℕ) × (get_elem? c.view.parts k ≡ some (edt, part.Edt m.slots))
      by_order true is = (2, ap (λ (l : List (ℕ × Part)). get_elem? l 2) is)
      by_order false is = (1, ap (λ (l : List (ℕ × Part)). get_elem? l 1) is)

  front : (taken_parts.has before (limit + edt) ≡ true) × (taken_parts.look before (limit + edt) ≡ part.Core m.core)
  front = core_first limit edt d (part.Core m.core) m.slots m.state has.number m.inside m.apart m.first

  there : (taken_parts.has before d ≡ true) × (taken_parts.look before d ≡ part.Block m.state)
  there = block_there limit edt d (part.Core m.core) m.slots m.state has.number m.inside m.apart m.first

  has_face : taken_parts.has before edt ≡ true
  has_face = face_there limit edt d (part.Core m.core) m.slots m.state has.number m.inside m.apart m.first

  may_by : (x : Act) → IsLet x edt m.mode m.state → IsAble x (ready_with m.slots payloads m.core) → MayEnter table.1 c.view (entry_by x edt d) (plan_from m.slots payloads) before
  may_by act.Acquire lets able = acquire_may table.1 c.view edt d face_at.0 m.slots payloads m.core m.state m.mode before runnable has.number m.inside hand_at front.0 has_face there.0 front.1 there.1 face_at.1 m.count m.facts m.next lets
  may_by act.Pass lets able = pass_may table.1 c.view edt d face_at.0 m.slots payloads m.core m.state m.mode before runnable has.number m.inside hand_at front.0 has_face there.0 front.1 there.1 face_at.1 m.count m.facts m.next lets
  may_by act.Wait lets able = wait_may table.1 c.view edt d face_at.0 m.slots payloads m.core m.state m.mode before runnable has.number m.inside hand_at front.0 has_face there.0 front.1 there.1 face_at.1 m.count m.facts m.next lets able

  claims_by : (x : Act) → Claims meaning table.1 c.view (deed meaning limit c.view (entry_by x edt d) before [])
  claims_by act.Acquire = record { starts = λ n is. cc is; waits = λ n q is. cc is; resumes = λ n some. absurd (omega (arith, some)) }
  claims_by act.Pass = record { starts = λ n is. cc is; waits = λ n q is. cc is; resumes = λ n some. absurd (omega (arith, some)) }
  claims_by act.Wait = record {
    starts = λ n is. cc is;
    waits = λ n q is. mine n q (edt == n) refl is;
    resumes = λ n some. absurd (omega (arith, some));
  }
    where
      mine : (n q : ℕ) (b : Bool) → (edt == n) ≡ b → (if b then Some d else None) ≡ Some q → 1 ≤ times n c.view.claims
      mine n q true is waits =
          let same : edt ≡ n = eqb-true edt n is in
          let one : one_at edt edt ≡ 1 = rw (number_same edt) refl in
          subst (λ (l : List ℕ). 1 ≤ times n l) (sym has.claims) (subst (λ (k : ℕ). 1 ≤ times k (edt ∷ [])) same (omega (arith, one)))
      mine n q false is waits = cc waits

  touches_by : (x : Act) (n : ℕ) → meaning.touches limit (entry_by x edt d) n ≡ one_at n edt + (one_at n d + (one_at n (limit + edt) + 0))
  touches_by act.Acquire n = foot n
  touches_by act.Pass n = foot n
  touches_by act.Wait n = foot n

  ready_by : (x : Act) → parts_in limit after ≡ kept_ready limit (plan_from m.slots payloads) (entry_by x edt d) before
  ready_by act.Acquire = ready_list limit edt m.core (two_faces m.first edt d m.slots m.state) (plan_from m.slots payloads) has.number
  ready_by act.Pass = ready_list limit edt m.core (two_faces m.first edt d m.slots m.state) (plan_from m.slots payloads) has.number
  ready_by act.Wait = ready_list limit edt m.core (two_faces m.first edt d m.slots m.state) (plan_from m.slots payloads) has.number

  made_by : (x : Act) → IsLet x edt m.mode m.state → IsAble x (ready_with m.slots payloads m.core) → CanMake table.1 c.view (entry_by x edt d) (record { members = plan_from m.slots payloads; parts = before }) after
  made_by x lets able = record {
    goes = goes x;
    owes = owes x;
    drawn = drawn x;
    claims = claims_by x;
    may = may_by x lets able;
    ready = ready_by x;
    same_keys = refl;
    places = λ n. (sums n ∙ sym (touches_by x n), let k = ap (λ (l : List (ℕ × Part)). weigh (one_at n) l) m.kept in omega (arith, k));
    counters = none_counted limit before (uncounted m.first);
  }
    where
      uncounted : (b : Bool) → CountNothing ((limit + edt, part.Core m.core) ∷ two_faces b edt d m.slots m.state)
      uncounted true = (refl, (refl, (refl, tt)))
      uncounted false = (refl, (refl, (refl, tt)))

      goes : (x : Act) → is_stop (entry_by x edt d) ≡ false
      goes act.Acquire = refl
      goes act.Pass = refl
      goes act.Wait = refl

      owes : (x : Act) → Has (delivered (entry_by x edt d)) c.view.owed
      owes act.Acquire = tt
      owes act.Pass = tt
      owes act.Wait = tt

      drawn : (x : Act) → HasAll (makes (entry_by x edt d)) c.view.drawn
      drawn act.Acquire = tt
      drawn act.Pass = tt
      drawn act.Wait = tt

  pub can_make : CanMake table.1 c.view (entry_by a edt d) h (in_hand c.parts)
  can_make =
      subst (λ (l : List (ℕ × Part)). CanMake table.1 c.view (entry_by a edt d) h l) (sym in_hand_is)
      (subst (λ (x : PlannedParts). CanMake table.1 c.view (entry_by a edt d) x after) (sym (m.before ∙ ap (λ (l : List (ℕ × Part)). record { members = plan_from m.slots payloads; parts = l }) m.kept)) (made_by a m.lets m.able))

  pub all_at_hand : HasAllAtHand c places
  all_at_hand = record {
    at_hand = m.hand ∙ ap (λ (l : List (ℕ × Part)). as_some l) (sym in_hand_is);
    kept = m.places_are;
    hand = ap (λ (l : List (ℕ × Option Part)). keys l) m.hand ∙ (some_keys after ∙ (ap (λ (l : List (ℕ × Part)). keys l) (sym m.kept) ∙ m.places_are));
  }
