-- A clerk that changed the core at hand alone.
use Rattle.std.proofs.Common.{◌≡◌, ℕ, ◌+◌, List, [], ◌∷◌, length, Option, Some, None, refl, ap, sym, ◌∙◌, subst}
use Rattle.ocr_base.proofs.Booleans.{same as number_same}
use Rattle.ocr_body_code.specs.declared.checked.Checked.{Checked}
use Rattle.ocr_body_meaning.specs.Body.{Body}
use Rattle.ocr_machine_parts.specs.declared.loans.Kept.{Kept}
use Rattle.ocr_machine_parts.specs.declared.part.Core.{Core}
use Rattle.ocr_machine_parts.specs.declared.part.Part.{Part}
use Rattle.ocr_machine_parts.specs.declared.part.Part.TheVariants as part
use Rattle.ocr_machine_parts.specs.Effects.{settled_core}
use Rattle.ocr_machine_parts.specs.Progress.{core_with}
use Rattle.ocr_machine_parts.specs.Loans.{settled_loan, settled_loans}
use Rattle.ocr_datablock.specs.Lent.{Loan}
use Rattle.ocr_turns_rule.specs.Contract.{SameRoom}
use Rattle.ocr_turns_rule.specs.Steps.{Sees}
use Rattle.ocr_turns_rule.specs.Sums.{find, replace}
use Rattle.ocr_worker_machine.specs.Clerks.{OcrTerms, OcrView}
use Rattle.ocr_worker_machine.specs.Ocr.{meaning}
use Rattle.ocr_worker_clerk.specs.Entry.{OcrKnown}
use Rattle.ocr_worker_clerk.specs.Work.{AtWork, OcrTable, RunsOnly, Stays}
use Rattle.ocr_worker_clerk.proofs.Goes.{stays_self}
use Rattle.ocr_worker_clerk.proofs.Whole.{lifted_work, stays_from}
use Rattle.ocr_worker_access.specs.Access.{IsCoreOf, Runs, first_in}
use Rattle.ocr_worker_access.specs.Served.{Serves}
use Rattle.ocr_worker_body.specs.Start.{HasCore, StepsCore}

-- THE CORE at hand
abbrev core_or : Core → Part → Core
core_or none (part.Core c) = c
core_or none other = none

pub core_same : (place : ℕ) (c : OcrKnown) (x y : Core) → HasCore place x c → HasCore place y c → x ≡ y
core_same place c x y one two = ap (λ (l : List (ℕ × Option Part)). core_or x (first_in l)) (sym one ∙ two)

found_one : (place : ℕ) (x : Option Part) → find place ((place, x) ∷ []) ≡ Some x
found_one place x = rw (number_same place) refl

replaced_one : (place : ℕ) (x y : Option Part) → replace place y ((place, x) ∷ []) ≡ (place, y) ∷ []
replaced_one place x y = rw (number_same place) refl

pub core_found : (place : ℕ) (c : OcrKnown) (core : Core) → HasCore place core c → find place c.parts ≡ Some (Some (part.Core core))
core_found place c core is = ap (find place) is ∙ found_one place (Some (part.Core core))

abbrev part_or : Part → Option (Option Part) → Part
part_or none (Some (Some x)) = x
part_or none other = none

pub found_core : (place : ℕ) (c : OcrKnown) (core : Core) (x : Part) → HasCore place core c → find place c.parts ≡ Some (Some x) → x ≡ part.Core core
found_core place c core x is found = ap (part_or x) (sym found ∙ core_found place c core is)

-- the part that was found is that core
pub core_has : (place : ℕ) (c : OcrKnown) (core : Core) (x : Part) (here : Core) → HasCore place core c → find place c.parts ≡ Some (Some x) → x ≡ part.Core here → HasCore place here c
core_has place c core x here is found same = is ∙ ap (λ (y : Part). (place, Some y) ∷ []) (sym (found_core place c core x is found) ∙ same)

-- it was lifted, and put back
pub to_put : (place : ℕ) (old mid : OcrKnown) (core : Core) → HasCore place core old → mid.parts ≡ replace place None old.parts → find place mid.parts ≡ Some None
to_put place old mid core is lifted = ap (find place) (lifted ∙ (ap (replace place None) is ∙ replaced_one place (Some (part.Core core)) None)) ∙ found_one place None

core_put : (place : ℕ) (old mid new : OcrKnown) (core : Core) (y : Option Part) → HasCore place core old → mid.parts ≡ replace place None old.parts → new.parts ≡ replace place y mid.parts → new.parts ≡ (place, y) ∷ []
core_put place old mid new core y is lifted put =
    put ∙ (ap (replace place y) (lifted ∙ (ap (replace place None) is ∙ replaced_one place (Some (part.Core core)) None)) ∙ replaced_one place None y)

room_both : (a b c : OcrKnown) → SameRoom a b → SameRoom b c → SameRoom a c
room_both a b c one two = (two.0 ∙ one.0, two.1 ∙ one.1, two.2 ∙ one.2)

pub steps_by : (place : ℕ) (step : Core → Core) (old mid new : OcrKnown) (core later : Core) → HasCore place core old → later ≡ step core → mid.parts ≡ replace place None old.parts → (mid.table ≡ old.table) × (mid.view ≡ old.view) × SameRoom old mid
    → new.parts ≡ replace place (Some (part.Core later)) mid.parts → (new.table ≡ mid.table) × (new.view ≡ mid.view) × SameRoom mid new → StepsCore place step old new
steps_by place step old mid new core later is stepped lifted first put second = record {
  table = second.0 ∙ first.0;
  view = second.1 ∙ first.1;
  room = room_both old mid new first.2 second.2;
  core = λ other has.
      core_put place old mid new core (Some (part.Core later)) is lifted put
      ∙ ap (λ (x : Core). (place, Some (part.Core x)) ∷ []) (stepped ∙ ap step (core_same place old core other is has));
}

-- AT WORK as before
pub stepped_stays : (place : ℕ) (step : Core → Core) (old new : OcrKnown) → StepsCore place step old new → Stays old new
stepped_stays place step old new steps = stays_from old new new steps.table steps.view (stays_self new)

pub stepped_work : (table : OcrTable) (program : Checked) (place : ℕ) (step : Core → Core) (old new : OcrKnown) (core : Core) → AtWork table program old → HasCore place core old → StepsCore place step old new → AtWork table program new
stepped_work table program place step old new core work is steps =
    lifted_work table program old new work steps.table steps.view steps.room
    (ap (λ (l : List (ℕ × Option Part)). length l) (steps.core core is) ∙ sym (ap (λ (l : List (ℕ × Option Part)). length l) is))

pub stepped_runs : (t : OcrTerms) (edt : ℕ) (b : Body) (step : Core → Core) (old new : OcrKnown) → (runs : Runs t edt b old) → StepsCore (t.limit + edt) step old new → IsCoreOf (step runs.core) runs.kept → Runs t edt b new
stepped_runs t edt b step old new runs steps is = record {
  taken = record {
    number = runs.taken.number;
    claims = ap (λ (v : OcrView). v.claims) steps.view ∙ runs.taken.claims;
    drawn = ap (λ (v : OcrView). v.drawn) steps.view ∙ runs.taken.drawn;
    owes = record {
      unput = ap (λ (v : OcrView). v.debts.unput) steps.view ∙ runs.taken.owes.unput;
      put = ap (λ (v : OcrView). v.debts.put) steps.view ∙ runs.taken.owes.put;
      made = ap (λ (v : OcrView). v.debts.made) steps.view ∙ runs.taken.owes.made;
      resumes = ap (λ (v : OcrView). v.debts.resumes) steps.view ∙ runs.taken.owes.resumes;
    };
    only = subst (λ (v : OcrView). RunsOnly v edt) (sym steps.view) runs.taken.only;
  };
  serves = subst (λ (v : OcrView). Serves t v edt b) (sym steps.view) runs.serves;
  core = step runs.core;
  kept = runs.kept;
  keeps = ap (λ (v : OcrView). v.parts) steps.view ∙ runs.keeps;
  hand = steps.core runs.core runs.hand;
  is = is;
  sees = subst (Sees meaning) (sym steps.view) runs.sees;
}

-- SETTLED twice
settled_again : (o : Option Loan) → settled_loan (settled_loan o) ≡ settled_loan o
settled_again None = refl
settled_again (Some l) = refl

loans_again : (ls : List (ℕ × Kept)) → settled_loans (settled_loans ls) ≡ settled_loans ls
loans_again [] = refl
loans_again (one ∷ rest) = λ i. (one.0, record { size = one.1.size; loan = settled_again one.1.loan i }) ∷ loans_again rest i

pub core_settled : (core kept : Core) → IsCoreOf core kept → IsCoreOf (settled_core core) kept
core_settled core kept is = record {
  alike = ap (λ (ls : List (ℕ × Kept)). core_with core core.edt ls) (loans_again core.loans) ∙ is.alike;
  running = is.running;
}
