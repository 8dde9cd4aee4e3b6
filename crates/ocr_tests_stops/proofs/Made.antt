-- Clerks that are made and come home.
use Rattle.std.proofs.Common.{◌≡◌, ℕ, zero, suc, ◌+◌, ◌-◌, ◌≤◌, List, [], ◌∷◌, All, refl, ap, sym, subst, ◌∙◌, arith, inl}
use Rattle.ocr_turns_rule.specs.Live.{MayLower, lowering, raising}
use Rattle.ocr_turns_rule.specs.Steps.{fresh, fresh_spare, gathered, parted, parted_spare}
use Rattle.ocr_run_crew.specs.Seats.{IsBetween}
use Rattle.ocr_machine_history.specs.declared.entry.Entry.TheVariants as an
use Rattle.ocr_machine_history.specs.declared.entry.Stop.TheVariants as by
use Rattle.ocr_turns_rule.specs.Contract.{MayClose}
use Rattle.ocr_worker_clerk.specs.Entry.{OcrKnown}
use Rattle.ocr_worker_clerk.specs.Work.{AtWork, OcrTable, meaning}
use Rattle.ocr_worker_clerk.proofs.Ends.{no_facts}
use Rattle.ocr_worker_machine.proofs.Entered.{goes_on}
use Rattle.ocr_tests_stops.specs.Clerks.{CanEnd, IsOut, program_of}
use Rattle.ocr_tests_stops.specs.Seats.{HasUnit, IsRoot}

pub one : {X : Type 0} (P : X → Type 0) (x : X) → P x → All P (x ∷ [])
one P x is zero d less = is
one P x is (suc k) d less = absurd (omega (arith, less))

-- A NEW CLERK is at work as soon as it has a unit
new_work : (table : OcrTable) (out : ℕ) (root clerk : OcrKnown) → IsRoot table out root → clerk.table ≡ root.table → 1 ≤ clerk.room → 64 ≤ clerk.spare → AtWork table (program_of table) (record clerk { view = fresh_spare root.view })
new_work table out root clerk is same room spare = record {
  of_table = (same ∙ is.of_table.0, is.of_table.1);
  limits = is.limits;
  program_is = refl;
  runnable = is.runnable;
  is_open = refl;
  unstopped = refl;
  room = room;
  spare = omega (arith, spare);
  weighs = refl;
  light = omega arith;
  few = omega arith;
  full = tt;
  loads = is.loads;
  stake = omega arith;
  raised = omega arith;
  ended = refl;
}

pub can_end : (table : OcrTable) (out : ℕ) (root clerk : OcrKnown) → IsRoot table out root → clerk.table ≡ root.table → clerk.view ≡ fresh_spare root.view → 1 ≤ clerk.room → CanEnd table clerk
can_end table out root clerk is same view room = record {
  out = ((same ∙ is.of_table.0, ap (λ v. v.terms) view ∙ is.of_table.1), ap (λ v. v.root) view);
  unit = (let one = ap (λ v. v.spares) view in omega arith);
  room = room;
  goes = ap (λ v. v.ended) view;
  runnable = is.runnable;
}

pub between : (table : OcrTable) (out : ℕ) (root clerk : OcrKnown) → IsRoot table out root → clerk.table ≡ root.table → clerk.view ≡ fresh root.view → clerk.parts ≡ [] → 1 ≤ clerk.room → 64 ≤ clerk.spare → IsBetween table (program_of table) clerk
between table out root clerk is same view bare room spare =
    subst (λ w. IsBetween table (program_of table) (record clerk { view = w })) (sym view) (record {
      rests = new_work table out root clerk is same room spare;
      idle = record {
        kept = refl;
        hand = bare;
        claims = refl;
        drawn = refl;
        owes = record { unput = refl; put = refl; made = refl; resumes = refl };
        none = λ u runs. absurd (cc runs.started);
      };
      stake = inl refl;
    })

-- THE ROOT stays the root, with so many others out
pub root_on : (table : OcrTable) (out n : ℕ) (root after : OcrKnown) → IsRoot table out root → after.table ≡ root.table → after.view.terms ≡ root.view.terms → after.view.root ≡ root.view.root → after.view.out ≡ n → IsRoot table n after
root_on table out n root after is same terms top others = record {
  of_table = (same ∙ is.of_table.0, terms ∙ is.of_table.1);
  limits = is.limits;
  loads = is.loads;
  runnable = is.runnable;
  root = top ∙ is.root;
  others = others;
}

pub hires : (table : OcrTable) (out : ℕ) (root after : OcrKnown) → IsRoot table out root → after.table ≡ root.table → after.view ≡ parted root.view → IsRoot table (out + 1) after
hires table out root after is same view =
    root_on table out (out + 1) root after is same (ap (λ v. v.terms) view) (ap (λ v. v.root) view) (ap (λ v. v.out) view ∙ ap (λ n. n + 1) is.others)

pub keeps_unit : (n : ℕ) (root after : OcrKnown) → HasUnit n root → after.view ≡ parted root.view → HasUnit n after
keeps_unit n root after has view = record {
  spares = ap (λ v. v.spares) view ∙ has.spares;
  raised_is = ap (λ v. v.raised) view ∙ has.raised_is;
  goes = ap (λ v. v.ended) view ∙ has.goes;
}

pub hires_spare : (table : OcrTable) (root after : OcrKnown) → IsRoot table 0 root → after.table ≡ root.table → after.view ≡ parted_spare (raising root.view 1) → IsRoot table 1 after
hires_spare table root after is same view =
    root_on table 0 1 root after is same (ap (λ v. v.terms) view) (ap (λ v. v.root) view) (ap (λ v. v.out) view ∙ ap (λ n. n + 1) is.others)

pub gives_spare : (root after : OcrKnown) → HasUnit 0 root → after.view ≡ parted_spare (raising root.view 1) → HasUnit 1 after
gives_spare root after has view = record {
  spares = ap (λ v. v.spares) view ∙ (let one = has.spares in omega arith);
  raised_is = ap (λ v. v.raised) view ∙ ap (λ n. n + 1) has.raised_is;
  goes = ap (λ v. v.ended) view ∙ has.goes;
}

pub lowers : (table : OcrTable) (out : ℕ) (root after : OcrKnown) → IsRoot table out root → after.table ≡ root.table → after.view ≡ lowering root.view 1 → IsRoot table out after
lowers table out root after is same view =
    root_on table out out root after is same (ap (λ v. v.terms) view) (ap (λ v. v.root) view) (ap (λ v. v.out) view ∙ is.others)

pub may_lower : (n : ℕ) (root : OcrKnown) → HasUnit n root → MayLower root.view 1
may_lower n root has = (let u = has.spares in omega arith, λ ended. let none = has.goes in absurd (omega arith))

pub gathers : (table : OcrTable) (out n : ℕ) (root clerk after : OcrKnown) → IsRoot table out root → after.table ≡ root.table → after.view ≡ gathered root.view clerk.view → out ≡ n + 1 → IsRoot table n after
gathers table out n root clerk after is same view less =
    root_on table out n root after is same (ap (λ v. v.terms) view) (ap (λ v. v.root) view) (ap (λ v. v.out) view ∙ (ap (λ k. k - 1) is.others ∙ omega (arith, less)))

-- A CLERK that acted
pub out_on : (table : OcrTable) (clerk after : OcrKnown) → IsOut table clerk → after.table ≡ clerk.table → after.view.terms ≡ clerk.view.terms → after.view.root ≡ clerk.view.root → IsOut table after
out_on table clerk after is same terms top = ((same ∙ is.0.0, terms ∙ is.0.1), top ∙ is.1)

pub may_close : (table : OcrTable) (c : OcrKnown) → CanEnd table c → MayClose meaning table.1 c.view (an.Stop by.Memory) []
may_close table c is = record {
  stops = refl;
  unit = (let one = is.unit in omega arith);
  legal = λ J open_run fits. record {
    legal = record { open_run = goes_on J open_run; on_parts = tt; on_facts = tt; said = tt; stopping = tt };
    runnable = is.runnable;
  };
  facts = no_facts table.1 c.view by.Memory;
}

pub may_give_up : (table : OcrTable) (c : OcrKnown) → CanEnd table c → MayLower c.view 1
may_give_up table c is = (is.unit, λ ended. let none = is.goes in absurd (omega arith))
