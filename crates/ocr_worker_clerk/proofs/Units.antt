-- The units of a clerk that owes no count.
use Rattle.std.proofs.Common.{◌≡◌, ℕ, ◌+◌, ◌≤◌, List, [], ◌∷◌, length, ap, ◌∙◌, refl, arith}
use Rattle.ocr_machine_history.specs.declared.entry.What.{What}
use Rattle.ocr_worker_machine.specs.Clerks.{OcrTerms, OcrView}
use Rattle.ocr_base.specs.Mail.{tally}
use Rattle.ocr_turns_rule.specs.Live.{raising}
use Rattle.ocr_turns_rule.specs.Sums.{sum_of, weigh}
use Rattle.ocr_turns_rule.specs.Units.{one_each, units}
use Rattle.ocr_turns_rule.specs.declared.debts.Debts.{Debts}
use Rattle.ocr_worker_clerk.specs.Work.{HasFewDuties, HasTakenOn, IsIdleClerk, Took}
use Rattle.ocr_worker_clerk.specs.Entry.{OcrKnown}

pub none_raised : (v : OcrView) → v ≡ raising v 0
none_raised v = λ i. record v { spares = none v.spares i; raised = none v.raised i }
  where
    none : (n : ℕ) → n ≡ n + 0
    none n = omega arith

letters : (xs : List (ℕ × ℕ × What)) → tally one_each xs ≡ length xs
letters [] = refl
letters (x ∷ xs) = let r = letters xs in omega (arith, r)

-- all but those of its messages and of one claim are to spare
pub spares_left : (v : OcrView) → HasFewDuties v → units v ≤ v.spares + length v.owed + 1
spares_left v few =
    let a = letters v.owed in let b = ap (tally one_each) few.owes.unput in let c = ap (tally one_each) few.owes.put in let d = ap (weigh one_each) few.owes.made in let e = ap (sum_of one_each) few.owes.resumes in
    let f = few.claims in omega (arith, a, b, c, d, e, f)

pub idle_duties : (c : OcrKnown) → IsIdleClerk c → HasFewDuties c.view
idle_duties c idle = record { owes = idle.owes; claims = let n = ap (sum_of one_each) idle.claims in omega (arith, n) }

pub taken_duties : (t : OcrTerms) (edt : ℕ) (c : OcrKnown) → HasTakenOn t edt c → HasFewDuties c.view
taken_duties t edt c taken = record { owes = taken.owes; claims = let n = ap (sum_of one_each) taken.claims in omega (arith, n) }

-- what it owes and has claimed is the same
pub same_duties : (v w : OcrView) → w.debts ≡ v.debts → w.claims ≡ v.claims → HasFewDuties v → HasFewDuties w
same_duties v w debts claims few = record {
  owes = record {
    unput = ap (λ (d : Debts). d.unput) debts ∙ few.owes.unput;
    put = ap (λ (d : Debts). d.put) debts ∙ few.owes.put;
    made = ap (λ (d : Debts). d.made) debts ∙ few.owes.made;
    resumes = ap (λ (d : Debts). d.resumes) debts ∙ few.owes.resumes;
  };
  claims = let n = ap (λ (l : List ℕ). sum_of one_each l) claims in let m = few.claims in omega (arith, n, m);
}

pub took_duties : (old new : OcrKnown) (places : List ℕ) → IsIdleClerk old → Took old new places → HasFewDuties new.view
took_duties old new places idle took = same_duties old.view new.view (ap (λ (v : OcrView). v.debts) took.view) (ap (λ (v : OcrView). v.claims) took.view) (idle_duties old idle)
