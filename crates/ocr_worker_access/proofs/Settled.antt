-- What a clerk keeps while it settles what it owes.
use Rattle.std.proofs.Common.{◌≡◌, ℕ, ◌≤◌, ◌<◌, ◌+◌, ◌-◌, List, [], ◌∷◌, drop, length, get_or, Option, refl, ap, sym, ◌∙◌, subst, arith}
use Rattle.std.proofs.lemmas.List.{drop_more}
use Rattle.std.proofs.Math.ListN.{drop_of_length-le}
use Rattle.ocr_base.proofs.Booleans.{same as number_same}
use Rattle.ocr_machine_history.specs.declared.entry.Entry.{Entry}
use Rattle.ocr_machine_parts.specs.declared.part.Part.{Part}
use Rattle.ocr_body_meaning.specs.Body.{Body}
use Rattle.ocr_turns_rule.proofs.Bounds.{fits_apart}
use Rattle.ocr_turns_rule.specs.Rule.{Fits}
use Rattle.ocr_turns_rule.specs.Debts.{made_debts, resumed_debts, times}
use Rattle.ocr_turns_rule.specs.Steps.{Sees}
use Rattle.ocr_turns_rule.specs.Sums.{is_free, less_one, remove_at}
use Rattle.ocr_turns_rule.proofs.Totals.{one_here}
use Rattle.ocr_turns_rule.specs.Words.{counting_made, resuming}
use Rattle.ocr_turns_rule.specs.declared.debts.Debts.{Debts}
use Rattle.ocr_worker_machine.specs.Clerks.{OcrTerms, OcrView}
use Rattle.ocr_worker_machine.specs.Ocr.{meaning}
use Rattle.ocr_worker_clerk.specs.Entry.{OcrKnown}
use Rattle.ocr_worker_clerk.specs.Work.{AtWork, OcrTable, RunsOnly, Stays}
use Rattle.ocr_worker_clerk.proofs.Goes.{Calm, stays_both, stays_self, stays_still, work_still}
use Rattle.ocr_body_code.specs.declared.checked.Checked.{Checked}
use Rattle.ocr_steal.specs.declared.hand.Hand as deque
use Rattle.ocr_turns_rule.specs.Contract.{SameHand}
use Rattle.ocr_worker_clerk.specs.Push.{IsPushed}
use Rattle.ocr_worker_access.specs.Access.{HasEntered}
use Rattle.ocr_worker_access.proofs.Logs.{serves_same}

sees_debts : (v : OcrView) (d : Debts) (k : ℕ) → Sees meaning v → Sees meaning (record v { debts = d; spares = k })
sees_debts v d k sees = λ t terms is. let s = sees t terms is in (s.0, fits_apart meaning t s.0 v v.carried v.full v.reached v.filled d k s.1)

pub settled : (t : OcrTerms) (edt : ℕ) (b : Body) (old new : OcrKnown) (d : Debts) (k : ℕ) (places : List ℕ) (made made2 : List (ℕ × ℕ)) (resumed resumed2 : List ℕ) → HasEntered t edt b old places made resumed
    → new.view ≡ record old.view { debts = d; spares = k } → new.parts ≡ old.parts → d.unput ≡ old.view.debts.unput → d.put ≡ old.view.debts.put → d.made ≡ made2 → d.resumes ≡ resumed2 → HasEntered t edt b new places made2 resumed2
settled t edt b old new d k places made made2 resumed resumed2 h is same unput put made_is resumes = record {
  claims = ap (λ (v : OcrView). v.claims) is ∙ h.claims;
  drawn = ap (λ (v : OcrView). v.drawn) is ∙ h.drawn;
  only = subst (λ (v : OcrView). RunsOnly v edt) (sym is) h.only;
  unput = ap (λ (v : OcrView). v.debts.unput) is ∙ (unput ∙ h.unput);
  put = ap (λ (v : OcrView). v.debts.put) is ∙ (put ∙ h.put);
  made_is = ap (λ (v : OcrView). v.debts.made) is ∙ made_is;
  resumes = ap (λ (v : OcrView). v.debts.resumes) is ∙ resumes;
  serves = serves_same t old.view new.view edt b h.serves (ap (λ (v : OcrView). v.log) is) (ap (λ (v : OcrView). v.facts) is);
  core = h.core;
  rest = h.rest;
  keeps = ap (λ (v : OcrView). v.parts) is ∙ h.keeps;
  hand = same ∙ h.hand;
  running = h.running;
  places_are = h.places_are;
  sees = subst (Sees meaning) (sym is) (sees_debts old.view d k h.sees);
}

-- THE EDT that it made is counted
pub counted : (t : OcrTerms) (edt : ℕ) (b : Body) (old new : OcrKnown) (places resumed : List ℕ) (n slots left : ℕ) → HasEntered t edt b old places ((n, slots) ∷ []) resumed → new.view ≡ counting_made old.view n left → new.parts ≡ old.parts → HasEntered t edt b new places [] resumed
counted t edt b old new places resumed n slots left h is same =
    settled t edt b old new (made_debts old.view.debts n left) (old.view.spares + (1 - is_free left)) places ((n, slots) ∷ []) [] resumed resumed h is same refl refl (ap (remove_at n) h.made_is ∙ gone) h.resumes
  where
    gone : remove_at n ((n, slots) ∷ []) ≡ []
    gone = rw (number_same n) refl

-- THOSE that it resumed
pub first_owed : (rs : List ℕ) (k : ℕ) → k < length rs → 1 ≤ times (get_or rs k 0) (drop k rs)
first_owed rs k lt = rw (drop_more rs k 0 lt) (one (get_or rs k 0) (drop (k + 1) rs))
  where
    one : (n : ℕ) (ns : List ℕ) → 1 ≤ times n (n ∷ ns)
    one n ns = let o = one_here n in omega (arith, o)

pub resumed_one : (t : OcrTerms) (edt : ℕ) (b : Body) (old new : OcrKnown) (places more rest : List ℕ) (x : ℕ) → more ≡ x ∷ rest → HasEntered t edt b old places [] more → new.view ≡ resuming old.view x → new.parts ≡ old.parts → HasEntered t edt b new places [] rest
resumed_one t edt b old new places more rest x one h is same =
    settled t edt b old new (resumed_debts old.view.debts x) old.view.spares places [] [] more rest h is same refl refl h.made_is (ap (less_one x) (h.resumes ∙ one) ∙ without x rest)
  where
    without : (n : ℕ) (ns : List ℕ) → less_one n (n ∷ ns) ≡ ns
    without n ns = rw (number_same n) refl

pub all_resumed : (t : OcrTerms) (edt : ℕ) (b : Body) (c : OcrKnown) (places rs : List ℕ) (k : ℕ) → length rs ≤ k → HasEntered t edt b c places [] (drop k rs) → HasEntered t edt b c places [] []
all_resumed t edt b c places rs k far h = subst (HasEntered t edt b c places []) (drop_of_length-le rs far) h

-- a clerk at work whose debts alone change, and which has more to spare at most
still_debts : (v : OcrView) (d : Debts) (k : ℕ) → v.spares ≤ k → Calm v (record v { debts = d; spares = k })
still_debts v d k more = record { terms = refl; root = refl; seat = refl; out = refl; joined = refl; log = refl; weight = refl; drawn = refl; full = refl; reached = refl; closed = refl; stake = omega (arith, more); raised = refl; ended = refl }

pub stays_debts : (first old new : OcrKnown) (d : Debts) (k : ℕ) → old.view.spares ≤ k → Stays first old → new.table ≡ old.table → new.view ≡ record old.view { debts = d; spares = k } → Stays first new
stays_debts first old new d k more stays table view = stays_both first old new stays (stays_still old new (record old.view { debts = d; spares = k }) table view (still_debts old.view d k more))

pub work_debts : (table : OcrTable) (p : Checked) (old new : OcrKnown) (d : Debts) (k : ℕ) → old.view.spares ≤ k → AtWork table p old → SameHand old new → new.view ≡ record old.view { debts = d; spares = k } → AtWork table p new
work_debts table p old new d k more work hand view =
    let l = ap (λ (ps : List (ℕ × Option Part)). length ps) hand.1 in let room = hand.2.0 in let spare = hand.2.1 in
    work_still table p old new (record old.view { debts = d; spares = k }) work hand.0 view (still_debts old.view d k more) (omega (arith, room)) (omega (arith, spare, l))

-- once the EDT that it made is counted
pub made_stays : (old new : OcrKnown) (n left : ℕ) → SameHand old new → new.view ≡ counting_made old.view n left → Stays old new
made_stays old new n left hand view = stays_debts old old new (made_debts old.view.debts n left) (old.view.spares + (1 - is_free left)) (omega arith) (stays_self old) hand.0 view

pub made_work : (table : OcrTable) (p : Checked) (old new : OcrKnown) (n left : ℕ) → AtWork table p old → SameHand old new → new.view ≡ counting_made old.view n left → AtWork table p new
made_work table p old new n left work hand view = work_debts table p old new (made_debts old.view.debts n left) (old.view.spares + (1 - is_free left)) (omega arith) work hand view

-- a hand that is pushed to again
pub pushed_both : (a b c : deque.Hand) → IsPushed a b → IsPushed b c → IsPushed a c
pushed_both a b c p q = record {
  same = record {
    number = q.same.number ∙ p.same.number;
    pool = q.same.pool ∙ p.same.pool;
    room_kept = let m = p.same.room_kept in let n = q.same.room_kept in omega (arith, m, n);
  };
  knows_same = q.knows_same ∙ p.knows_same;
  misses = q.misses ∙ p.misses;
}
