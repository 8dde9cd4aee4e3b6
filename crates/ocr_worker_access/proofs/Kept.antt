-- What a running EDT keeps with the blocks that it holds, by its core at hand.
use Rattle.std.proofs.Common.{◌≡◌, ℕ, ◌+◌, ◌==◌, if◌then◌else◌, true, false, List, [], ◌∷◌, length, reverse, Option, Some, None, refl, ap, sym, ◌∙◌, subst}
use Rattle.ocr_acquire.specs.declared.Mode.{Mode}
use Rattle.ocr_body_code.specs.declared.checked.Checked.{Checked}
use Rattle.ocr_datablock.specs.Lent.{Loan, loan_of}
use Rattle.ocr_machine_history.specs.declared.entry.Entry.{Entry}
use Rattle.ocr_body_meaning.specs.Body.{Body}
use Rattle.ocr_acquire.specs.Mode.{is_isolated}
use Rattle.ocr_machine_parts.specs.declared.loans.Kept.{Kept}
use Rattle.ocr_machine_parts.specs.declared.part.Core.{Core}
use Rattle.ocr_machine_parts.specs.declared.part.Part.{Part}
use Rattle.ocr_machine_parts.specs.declared.part.Part.TheVariants as part
use Rattle.ocr_machine_parts.specs.Effects.{settled}
use Rattle.ocr_machine_parts.specs.Kinds.{mode_on}
use Rattle.ocr_machine_parts.specs.Loans.{kept_in, settled_loan, settled_loans}
use Rattle.ocr_machine_parts.specs.Parts.{parts_of}
use Rattle.ocr_machine_parts.specs.Taken.{is_within}
use Rattle.ocr_machine_laws.specs.Held.{IsFitting, KeepsFor}
use Rattle.ocr_machine_laws.proofs.Held.{kept_fits_law}
use Rattle.ocr_turns_rule.specs.Rule.{Fits}
use Rattle.ocr_worker_machine.specs.Clerks.{AreAtHand, OcrTerms, OcrView, of_terms}
use Rattle.ocr_worker_machine.specs.Ocr.{meaning}
use Rattle.ocr_worker_clerk.specs.Entry.{OcrKnown}
use Rattle.ocr_worker_clerk.specs.Work.{AtWork, OcrTable}
use Rattle.ocr_worker_access.specs.Accesses.{IsFit, IsFitCore, IsLoanFor}
use Rattle.ocr_worker_access.specs.Access.{Runs, first_in}
use Rattle.ocr_worker_access.proofs.Asked.{once_in}
use Rattle.ocr_worker_access.proofs.Called.{hand_is}
use Rattle.ocr_worker_access.proofs.Cores.{first_has, first_look}
use Rattle.ocr_worker_access.proofs.Parts.{core_of, is_run}

-- WITHOUT what was stored
abbrev pub settled_kept : Option Kept → Option Kept
settled_kept None = None
settled_kept (Some kept) = Some (record { size = kept.size; loan = settled_loan kept.loan })

pub kept_settled : (d : ℕ) (ls : List (ℕ × Kept)) → kept_in d (settled_loans ls) ≡ settled_kept (kept_in d ls)
kept_settled d [] = refl
kept_settled d (one ∷ rest) = elim (one.0 == d) as (λ b. (if b then Some (record { size = one.1.size; loan = settled_loan one.1.loan }) else kept_in d (settled_loans rest)) ≡ settled_kept (if b then Some one.1 else kept_in d rest)) [
  | true ↦ refl
  | false ↦ kept_settled d rest
]

-- THE LOAN of a hold in EW or CONST
fit_loan : (m : Mode) (kept : Kept) (o : Option Loan) (words : List ℕ) → kept.loan ≡ o → settled_loan o ≡ Some (loan_of m words []) → length words ≡ kept.size → IsLoanFor m kept
fit_loan m kept None words is same size = cc same
fit_loan m kept (Some l) words is same size =
    let whole : loan_of l.mode l.began [] ≡ loan_of m words [] = cc same in
    record { loan = l; is = is; mode = ap (λ (x : Loan). x.mode) whole; size = ap (λ (x : Loan). length x.began) whole ∙ size }

fit_kept : (m : Mode) (o : Option Kept) (kept : Kept) → settled_kept o ≡ Some kept → (is_isolated m ≡ true → (words : List ℕ) × IsFitting m kept words) → IsFit (Some m) o
fit_kept m None kept same isolated = tt
fit_kept m (Some one) kept same isolated = λ on.
    let fitting = isolated on in
    let whole : ◌≡◌ {A = Kept} (record { size = one.size; loan = settled_loan one.loan }) kept = cc same in
    fit_loan m one one.loan fitting.0 refl (ap (λ (k : Kept). k.loan) whole ∙ fitting.1.loan) (fitting.1.size ∙ sym (ap (λ (k : Kept). k.size) whole))

fit_so : (d : ℕ) (m : Mode) (core : Core) (x : Part) (kept : Kept) → x ≡ settled (part.Core core) → KeepsFor x d m kept → IsFit (Some m) (kept_in d core.loans)
fit_so d m core x kept is keeps =
    let there = subst (λ (y : Part). KeepsFor y d m kept) is keeps in
    fit_kept m (kept_in d core.loans) kept (sym (kept_settled d core.loans) ∙ there.is_kept) there.isolated

module _ (t : OcrTerms) (v : OcrView) (J : List Entry) (fits : Fits meaning t J v) (edt : ℕ) (core : Core) (rest : List (ℕ × Part)) (within : is_within t.limit edt ≡ true) (at_hand : AreAtHand t.limit ((t.limit + edt, part.Core core) ∷ rest) v.parts) where
  -- the core of the history
  pub core_there : (parts_of (of_terms t) (reverse J)).core edt ≡ settled (part.Core core)
  core_there = core_of t v J ((t.limit + edt, part.Core core) ∷ rest) edt core fits at_hand within (first_has (t.limit + edt) (part.Core core) rest) (first_look (t.limit + edt) (part.Core core) rest)

  fit_mode : (d : ℕ) (o : Option Mode) → mode_on (part.Core core) d ≡ o → IsFit o (kept_in d core.loans)
  fit_mode d None is = tt
  fit_mode d (Some m) is =
      let found = kept_fits_law (of_terms t) (reverse J) edt d m (is_run t v J fits) (ap (λ (x : Part). mode_on x d) core_there ∙ is) in
      fit_so d m core ((parts_of (of_terms t) (reverse J)).core edt) found.0 core_there found.1

  pub fit_hand : IsFitCore core
  fit_hand d = fit_mode d (mode_on (part.Core core) d) refl

-- BETWEEN THE CALLS of the body
pub runs_at_hand : (table : OcrTable) (p : Checked) (edt : ℕ) (b : Body) (c : OcrKnown) → AtWork table p c → (runs : Runs table.1 edt b c) → AreAtHand table.1.limit ((table.1.limit + edt, part.Core runs.core) ∷ []) c.view.parts
runs_at_hand table p edt b c work runs = hand_is table.1.limit edt runs.core runs.kept [] ((table.1.limit + edt, part.Core runs.core) ∷ []) c.view.parts runs.taken.number runs.is refl runs.keeps (once_in table p c work runs.sees)

pub fit_own : (table : OcrTable) (p : Checked) (edt : ℕ) (b : Body) (c : OcrKnown) → AtWork table p c → (runs : Runs table.1 edt b c) → IsFitCore runs.core
fit_own table p edt b c work runs =
    let fits = runs.sees table.1 work.of_table.1 work.is_open in
    fit_hand table.1 c.view fits.0 fits.1 edt runs.core [] runs.taken.number (runs_at_hand table p edt b c work runs)

core_same : (place : ℕ) (one other : Core) (ps : List (ℕ × Option Part)) → ps ≡ (place, Some (part.Core one)) ∷ [] → ps ≡ (place, Some (part.Core other)) ∷ [] → one ≡ other
core_same place one other ps is was =
    let same : part.Core one ≡ part.Core other = ap (λ (l : List (ℕ × Option Part)). first_in l) (sym is ∙ was) in
    cc same

pub fit_found : (table : OcrTable) (p : Checked) (edt place : ℕ) (b : Body) (c : OcrKnown) (core : Core) → AtWork table p c → Runs table.1 edt b c → place ≡ table.1.limit + edt → c.parts ≡ (place, Some (part.Core core)) ∷ [] → IsFitCore core
fit_found table p edt place b c core work runs at is =
    subst IsFitCore (core_same place runs.core core c.parts (runs.hand ∙ ap (λ (n : ℕ). (n, Some (part.Core runs.core)) ∷ []) (sym at)) is) (fit_own table p edt b c work runs)
