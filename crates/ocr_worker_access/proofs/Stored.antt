-- A store in the loan that the core at hand keeps.
use Rattle.std.specs.Prelude.{OnOk}
use Rattle.std.proofs.Common.{◌≡◌, ℕ, ◌+◌, ◌≤◌, ◌<◌, ◌==◌, nat_lt, Bool, true, false, if◌then◌else◌, List, [], ◌∷◌, length, Option, Some, None, Result, Ok, Err, is_err, refl, ap, sym, ◌∙◌, subst, arith}
use Rattle.std.proofs.lemmas.Bool.{eqb-true, ltb-true}
use Rattle.ocr_base.proofs.Booleans.{same as number_same}
use Rattle.ocr_acquire.specs.declared.Mode.{Mode}
use Rattle.ocr_acquire.specs.declared.Mode.TheVariants as mode
use Rattle.ocr_acquire.specs.Writes.{put}
use Rattle.ocr_body_code.specs.declared.checked.Checked.{Checked}
use Rattle.ocr_datablock.specs.Lent as lent
use Rattle.ocr_datablock.specs.Lent.{Loan}
use Rattle.ocr_body_meaning.specs.Body.{Body}
use Rattle.ocr_body_meaning.specs.Holds.{Access, Entered, Hold, Holds, Refused, Silent, after_store, if_within, store_of, with_write}
use Rattle.ocr_acquire.specs.Mode.{is_isolated, is_writable}
use Rattle.ocr_body_meaning.specs.declared.call.BodyStop.TheVariants as stop
use Rattle.ocr_machine_parts.specs.declared.loans.Kept.{Kept}
use Rattle.ocr_machine_parts.specs.declared.part.Core.{Core}
use Rattle.ocr_machine_parts.specs.declared.part.Part.{Part}
use Rattle.ocr_machine_parts.specs.declared.part.Part.TheVariants as part
use Rattle.ocr_machine_parts.specs.Bodies.{hold_in, hold_of, holds_in}
use Rattle.ocr_machine_parts.specs.Kinds.{kept_on, mode_on, on_core}
use Rattle.ocr_machine_parts.specs.Loans.{IsStorable, kept_after, kept_in, loan_after, loan_in, with_loan}
use Rattle.ocr_machine_parts.specs.Progress.{core_after}
use Rattle.ocr_turns_rule.specs.Contract.{SameRoom}
use Rattle.ocr_turns_rule.specs.Steps.{Sees}
use Rattle.ocr_turns_rule.specs.Sums.{find, replace}
use Rattle.ocr_worker_machine.specs.Clerks.{OcrTerms, OcrView}
use Rattle.ocr_worker_machine.specs.Ocr.{meaning}
use Rattle.ocr_worker_clerk.specs.Entry.{OcrKnown}
use Rattle.ocr_worker_clerk.specs.Work.{AtWork, OcrTable, RunsOnly, Stays}
use Rattle.ocr_worker_clerk.proofs.Goes.{stays_still, work_still}
use Rattle.ocr_worker_access.specs.Accesses.{IsFit, IsFitCore, IsLoanFor}
use Rattle.ocr_worker_access.specs.Access.{Runs, first_in, holds_at}
use Rattle.ocr_worker_access.proofs.Loaned.{core_stored}
use Rattle.ocr_worker_access.proofs.Logs.{serves_same}
use Rattle.ocr_worker_clerk.proofs.Whole.{still}

-- SILENT stores are those in EW
in_time : (b : Bool) (x : ℕ) → ◌≡◌ {A = Access} (if b then Silent 0 else Refused stop.BadIndex) (Silent x) → b ≡ true
in_time true x is = refl
in_time false x is = cc is

never_shared : (b : Bool) (x : ℕ) → ◌≡◌ {A = Access} (if b then Entered else Refused stop.BadIndex) (Silent x) → ⊥
never_shared true x is = cc is
never_shared false x is = cc is

storable_loan : (kept : Kept) (k : ℕ) → k < kept.size → IsLoanFor mode.Ew kept → IsStorable kept.loan k
storable_loan kept k lt fit = subst (λ (o : Option Loan). IsStorable o k) (sym fit.is) (subst (λ (n : ℕ). k < n) (sym fit.size) lt, fit.mode)

storable_so : (m : Option Mode) (o : Option Kept) (k x : ℕ) → store_of (hold_of m o) k ≡ Silent x → IsFit m o → IsStorable (loan_in o) k
storable_so None o k x is fit = cc is
storable_so (Some m) None k x is fit = cc is
storable_so (Some mode.Ew) (Some kept) k x is fit = storable_loan kept k (ltb-true k kept.size (in_time (nat_lt k kept.size) x is)) (fit refl)
storable_so (Some mode.Rw) (Some kept) k x is fit = absurd (never_shared (nat_lt k kept.size) x is)
storable_so (Some mode.Const) (Some kept) k x is fit = cc is
storable_so (Some mode.Ro) (Some kept) k x is fit = cc is
storable_so (Some mode.Null) (Some kept) k x is fit = cc is

pub storable_in : (core : Core) (d k x : ℕ) → store_of (holds_in (part.Core core) d) k ≡ Silent x → IsFitCore core → IsStorable (loan_in (kept_on (part.Core core) d)) k
storable_in core d k x is fit = storable_so (mode_on (part.Core core) d) (kept_in d core.loans) k x is (fit d)

-- WHAT THE EDT HOLDS then
abbrev stored : ℕ → ℕ → Loan → Loan
stored k v = λ loan. lent.after_store loan k v

abbrev kept_if : (Loan → Loan) → Option Kept → Option Kept
kept_if step None = None
kept_if step (Some kept) = Some (kept_after step kept)

kept_same : (d : ℕ) (step : Loan → Loan) (ls : List (ℕ × Kept)) → kept_in d (with_loan d step ls) ≡ kept_if step (kept_in d ls)
kept_same d step [] = refl
kept_same d step (one ∷ rest) = elim (one.0 == d) as (λ b. (one.0 == d) ≡ b → kept_in d (if b then (one.0, kept_after step one.1) ∷ rest else one ∷ with_loan d step rest) ≡ kept_if step (if b then Some one.1 else kept_in d rest)) [
  | true ↦ λ on. rw on refl
  | false ↦ λ off. rw off (kept_same d step rest)
] refl

kept_other : (d e : ℕ) (step : Loan → Loan) (ls : List (ℕ × Kept)) → (d == e) ≡ false → kept_in e (with_loan d step ls) ≡ kept_in e ls
kept_other d e step [] off = refl
kept_other d e step (one ∷ rest) off = elim (one.0 == d) as (λ b. (one.0 == d) ≡ b → kept_in e (if b then (one.0, kept_after step one.1) ∷ rest else one ∷ with_loan d step rest) ≡ (if one.0 == e then Some one.1 else kept_in e rest)) [
  | true ↦ λ on. let far : (one.0 == e) ≡ false = ap (λ (n : ℕ). n == e) (eqb-true one.0 d on) ∙ off in rw far refl
  | false ↦ λ _. ap (λ (o : Option Kept). if one.0 == e then Some one.1 else o) (kept_other d e step rest off)
] refl

written_loan : (kept : Kept) (o : Option Loan) (k v : ℕ) (l : Loan) → o ≡ Some l → hold_in mode.Ew kept.size (loan_after (stored k v) o) ≡ record { mode = mode.Ew; size = kept.size; began = (hold_in mode.Ew kept.size o).began; writes = put k v (hold_in mode.Ew kept.size o).writes }
written_loan kept None k v l is = cc is
written_loan kept (Some one) k v l is = refl

written_so : (m : Option Mode) (o : Option Kept) (k v x : ℕ) → store_of (hold_of m o) k ≡ Silent x → IsFit m o → hold_of m (kept_if (stored k v) o) ≡ with_write k v (hold_of m o)
written_so None o k v x is fit = cc is
written_so (Some m) None k v x is fit = cc is
written_so (Some mode.Ew) (Some kept) k v x is fit = ap (λ (h : Hold). Some h) (let loan = fit refl in written_loan kept kept.loan k v loan.loan loan.is)
written_so (Some mode.Rw) (Some kept) k v x is fit = absurd (never_shared (nat_lt k kept.size) x is)
written_so (Some mode.Const) (Some kept) k v x is fit = cc is
written_so (Some mode.Ro) (Some kept) k v x is fit = cc is
written_so (Some mode.Null) (Some kept) k v x is fit = cc is

pub stored_holds : (core : Core) (d k v x : ℕ) → store_of (holds_in (part.Core core) d) k ≡ Silent x → IsFitCore core → holds_in (part.Core (core_after (stored k v) d core)) ≡ after_store (Silent x) d k v (holds_in (part.Core core))
stored_holds core d k v x is fit = λ i e. each e i
  where
    here : hold_of (mode_on (part.Core core) d) (kept_in d (with_loan d (stored k v) core.loans)) ≡ with_write k v (holds_in (part.Core core) d)
    here = ap (λ (o : Option Kept). hold_of (mode_on (part.Core core) d) o) (kept_same d (stored k v) core.loans) ∙ written_so (mode_on (part.Core core) d) (kept_in d core.loans) k v x is (fit d)

    each : (e : ℕ) → hold_of (mode_on (part.Core core) e) (kept_in e (with_loan d (stored k v) core.loans)) ≡ after_store (Silent x) d k v (holds_in (part.Core core)) e
    each e = elim (d == e) as (λ b. (d == e) ≡ b → hold_of (mode_on (part.Core core) e) (kept_in e (with_loan d (stored k v) core.loans)) ≡ (if b then with_write k v (holds_in (part.Core core) d) else holds_in (part.Core core) e)) [
      | true ↦ λ on. subst (λ (n : ℕ). hold_of (mode_on (part.Core core) n) (kept_in n (with_loan d (stored k v) core.loans)) ≡ with_write k v (holds_in (part.Core core) d)) (eqb-true d e on) here
      | false ↦ λ off. ap (λ (o : Option Kept). hold_of (mode_on (part.Core core) e) o) (kept_other d e (stored k v) core.loans off)
    ] refl

-- THE CLERK, whose only part is lifted and put back
pub one_found : {A : Type 0} (p : ℕ) (v : A) (xs : List (ℕ × A)) → xs ≡ (p, v) ∷ [] → find p xs ≡ Some v
one_found p v xs is = ap (find p) is ∙ rw (number_same p) refl

pub one_replaced : {A : Type 0} (p : ℕ) (v w : A) (xs : List (ℕ × A)) → xs ≡ (p, v) ∷ [] → replace p w xs ≡ (p, w) ∷ []
one_replaced p v w xs is = ap (replace p w) is ∙ rw (number_same p) refl

abbrev pub IsStill : OcrKnown → OcrKnown → Type 0
IsStill old new = (new.table ≡ old.table) × (new.view ≡ old.view) × SameRoom old new

pub still_stays : (old new : OcrKnown) → IsStill old new → Stays old new
still_stays old new rest = stays_still old new old.view rest.0 rest.1 (still old.view)

pub still_both : (a b c : OcrKnown) → IsStill a b → IsStill b c → IsStill a c
still_both a b c p q = (q.0 ∙ p.0, q.1 ∙ p.1, (q.2.0 ∙ p.2.0, q.2.1 ∙ p.2.1, q.2.2 ∙ p.2.2))

pub still_work : (table : OcrTable) (p : Checked) (old new : OcrKnown) → AtWork table p old → IsStill old new → length new.parts ≡ length old.parts → AtWork table p new
still_work table p old new work rest same =
    let room = rest.2.0 in let spare = rest.2.1 in
    work_still table p old new old.view work rest.0 rest.1 (still old.view) (room_of old.room new.room room) (spare_of old.spare new.spare (length old.parts) (length new.parts) spare same)
  where
    room_of : (n m : ℕ) → m ≡ n → n ≤ m
    room_of n m is = omega (arith, is)

    spare_of : (n m a b : ℕ) → m ≡ n → b ≡ a → n + a ≤ m + b
    spare_of n m a b is also = omega (arith, is, also)

pub still_runs : (t : OcrTerms) (edt d k v : ℕ) (b : Body) (old new : OcrKnown) → (runs : Runs t edt b old) → new.view ≡ old.view → new.parts ≡ (t.limit + edt, Some (part.Core (core_after (stored k v) d runs.core))) ∷ [] → Runs t edt b new
still_runs t edt d k v b old new runs is hand = record {
  taken = record {
    number = runs.taken.number;
    claims = ap (λ (w : OcrView). w.claims) is ∙ runs.taken.claims;
    drawn = ap (λ (w : OcrView). w.drawn) is ∙ runs.taken.drawn;
    owes = record {
      unput = ap (λ (w : OcrView). w.debts.unput) is ∙ runs.taken.owes.unput;
      put = ap (λ (w : OcrView). w.debts.put) is ∙ runs.taken.owes.put;
      made = ap (λ (w : OcrView). w.debts.made) is ∙ runs.taken.owes.made;
      resumes = ap (λ (w : OcrView). w.debts.resumes) is ∙ runs.taken.owes.resumes;
    };
    only = subst (λ (w : OcrView). RunsOnly w edt) (sym is) runs.taken.only;
  };
  serves = serves_same t old.view new.view edt b runs.serves (ap (λ (w : OcrView). w.log) is) (ap (λ (w : OcrView). w.facts) is);
  core = core_after (stored k v) d runs.core;
  kept = runs.kept;
  keeps = ap (λ (w : OcrView). w.parts) is ∙ runs.keeps;
  hand = hand;
  is = core_stored d k v runs.core runs.kept runs.is;
  sees = subst (Sees meaning) (sym is) runs.sees;
}

-- what was not refused
pub not_refused : {A E : Type 0} (r : Result A E) (P : Type 0) → is_err r ≡ false → OnOk r P → P
not_refused (Ok x) P fine is = is
not_refused (Err e) P fine is = cc fine

pub core_found : (place at : ℕ) (core : Core) (ps : List (ℕ × Option Part)) → place ≡ at → ps ≡ (at, Some (part.Core core)) ∷ [] → find place ps ≡ Some (Some (part.Core core))
core_found place at core ps same is = one_found place (Some (part.Core core)) ps (is ∙ ap (λ (n : ℕ). (n, Some (part.Core core)) ∷ []) (sym same))

-- THE STORE
module _ (t : OcrTerms) (edt d k place : ℕ) (b : Body) (old : OcrKnown) (x : Part) (runs : Runs t edt b old) (at : place ≡ t.limit + edt) (found : find place old.parts ≡ Some (Some x)) where
  lifted_core : x ≡ part.Core runs.core
  lifted_core = let same : Some (Some x) ≡ Some (Some (part.Core runs.core)) = sym found ∙ core_found place (t.limit + edt) runs.core old.parts at runs.hand in cc same

  holds_are : holds_at old ≡ holds_in (part.Core runs.core)
  holds_are = ap (λ (l : List (ℕ × Option Part)). holds_in (first_in l)) runs.hand

  module _ (silent : (y : ℕ) × (store_of (holds_at old d) k ≡ Silent y)) (fit : IsFitCore runs.core) where
    silent_core : store_of (holds_in (part.Core runs.core) d) k ≡ Silent silent.0
    silent_core = ap (λ (h : Holds). store_of (h d) k) (sym holds_are) ∙ silent.1

    pub storable_lifted : IsStorable (loan_in (kept_on x d)) k
    storable_lifted = subst (λ (y : Part). IsStorable (loan_in (kept_on y d)) k) (sym lifted_core) (storable_in runs.core d k silent.0 silent_core fit)

    module _ (v : ℕ) (mid new : OcrKnown) (y : Part) (left : mid.parts ≡ replace place None old.parts) (back : new.parts ≡ replace place (Some y) mid.parts) (view : new.view ≡ old.view) (is : y ≡ on_core x (core_after (stored k v) d)) where
      hand_now : new.parts ≡ (t.limit + edt, Some (part.Core (core_after (stored k v) d runs.core))) ∷ []
      hand_now =
          back
          ∙ (one_replaced place None (Some y) mid.parts (left ∙ one_replaced place (Some (part.Core runs.core)) None old.parts (runs.hand ∙ ap (λ (n : ℕ). (n, Some (part.Core runs.core)) ∷ []) (sym at)))
          ∙ (λ i. (at i, Some ((is ∙ ap (λ (z : Part). on_core z (core_after (stored k v) d)) lifted_core) i)) ∷ []))

      pub stored_runs : Runs t edt b new
      stored_runs = still_runs t edt d k v b old new runs view hand_now

      pub stored_at : holds_at new ≡ after_store (Silent 0) d k v (holds_at old)
      stored_at =
          ap (λ (l : List (ℕ × Option Part)). holds_in (first_in l)) hand_now
          ∙ (stored_holds runs.core d k v silent.0 silent_core fit ∙ ap (λ (h : Holds). after_store (Silent 0) d k v h) (sym holds_are))

-- a silent store has the value 0
pub silent_zero : (h : Option Hold) (k x : ℕ) → store_of h k ≡ Silent x → 0 ≡ x
silent_zero None k x is = cc is
silent_zero (Some h) k x is = elim (is_writable h.mode) as (λ b. (if b then if_within h k (if is_isolated h.mode then Silent 0 else Entered) else Refused stop.NotWritable) ≡ Silent x → 0 ≡ x) [
  | true ↦ elim (nat_lt k h.size) as (λ b. (if b then (if is_isolated h.mode then Silent 0 else Entered) else Refused stop.BadIndex) ≡ Silent x → 0 ≡ x) [
    | true ↦ elim (is_isolated h.mode) as (λ b. ◌≡◌ {A = Access} (if b then Silent 0 else Entered) (Silent x) → 0 ≡ x) [ true ↦ λ is. cc is | false ↦ λ is. cc is ]
    | false ↦ λ is. cc is
  ]
  | false ↦ λ is. cc is
] is
