-- A step of a loan leaves what is settled, and the listing of a loan what an EDT holds.
use Rattle.std.specs.Prelude.{IfOk}
use Rattle.std.proofs.Common.{◌≡◌, ℕ, Bool, true, false, ◌==◌, if◌then◌else◌, List, [], ◌∷◌, Option, Some, None, Result, Ok, Err, refl, ap, sym, ◌∙◌, subst}
use Rattle.ocr_acquire.specs.declared.Mode.{Mode}
use Rattle.ocr_datablock.specs.Lent.{Loan, after_list_writes, loan_of}
use Rattle.ocr_body_meaning.specs.Holds.{Hold, private_in}
use Rattle.ocr_machine_parts.specs.declared.loans.Kept.{Kept}
use Rattle.ocr_machine_parts.specs.declared.part.Core.{Core}
use Rattle.ocr_machine_parts.specs.declared.part.Part.TheVariants as part
use Rattle.ocr_machine_parts.specs.Bodies.{hold_in, hold_of, holds_in, writes_in}
use Rattle.ocr_machine_parts.specs.Effects.{settled_core}
use Rattle.ocr_machine_parts.specs.Kinds.{mode_on}
use Rattle.ocr_machine_parts.specs.Loans.{IsListed, is_apart, kept_after, kept_in, loan_after, loan_in, settled_loan, settled_loans, with_loan}
use Rattle.ocr_machine_parts.specs.Progress.{core_after, core_with}

-- A STEP that leaves the mode and the words of before
module _ (step : Loan → Loan) (mode_same : (l : Loan) → (step l).mode ≡ l.mode) (began_same : (l : Loan) → (step l).began ≡ l.began) where
  settled_step : (o : Option Loan) → settled_loan (loan_after step o) ≡ settled_loan o
  settled_step None = refl
  settled_step (Some l) = λ i. Some (loan_of (mode_same l i) (began_same l i) [])

  pub settled_with : (d : ℕ) (ls : List (ℕ × Kept)) → settled_loans (with_loan d step ls) ≡ settled_loans ls
  settled_with d [] = refl
  settled_with d (one ∷ rest) = elim (one.0 == d) as (λ b. settled_loans (if b then (one.0, kept_after step one.1) ∷ rest else one ∷ with_loan d step rest) ≡ settled_loans (one ∷ rest)) [
    | true ↦ λ i. (one.0, record { size = one.1.size; loan = settled_step one.1.loan i }) ∷ settled_loans rest
    | false ↦ ap (λ (l : List (ℕ × Kept)). (one.0, record { size = one.1.size; loan = settled_loan one.1.loan }) ∷ l) (settled_with d rest)
  ]

-- LISTING leaves what the EDT holds as its body knows it
same_hold : (m : Mode) (size : ℕ) (o : Option Loan) → hold_in m size (loan_after after_list_writes o) ≡ hold_in m size o
same_hold m size None = refl
same_hold m size (Some l) = refl

same_held : (m : Option Mode) (k : Kept) → hold_of m (Some (kept_after after_list_writes k)) ≡ hold_of m (Some k)
same_held None k = refl
same_held (Some m) k = ap (λ (h : Hold). Some h) (same_hold m k.size k.loan)

listed_kept : (m : Option Mode) (d e : ℕ) (ls : List (ℕ × Kept)) → hold_of m (kept_in e (with_loan d after_list_writes ls)) ≡ hold_of m (kept_in e ls)
listed_kept m d e [] = refl
listed_kept m d e (one ∷ rest) = elim (one.0 == d) as (λ b. hold_of m (kept_in e (if b then (one.0, kept_after after_list_writes one.1) ∷ rest else one ∷ with_loan d after_list_writes rest)) ≡ hold_of m (kept_in e (one ∷ rest))) [
  | true ↦ elim (one.0 == e) as (λ b. hold_of m (if b then Some (kept_after after_list_writes one.1) else kept_in e rest) ≡ hold_of m (if b then Some one.1 else kept_in e rest)) [ true ↦ same_held m one.1 | false ↦ refl ]
  | false ↦ elim (one.0 == e) as (λ b. hold_of m (if b then Some one.1 else kept_in e (with_loan d after_list_writes rest)) ≡ hold_of m (if b then Some one.1 else kept_in e rest)) [ true ↦ refl | false ↦ listed_kept m d e rest ]
]

pub holds_listed : (d : ℕ) (core : Core) → holds_in (part.Core (core_after after_list_writes d core)) ≡ holds_in (part.Core core)
holds_listed d core = λ i e. listed_kept (mode_on (part.Core core) e) d e core.loans i

-- THE PRIVATE WRITES, in the loan that is kept with the block
pub private_is : (m : Option Mode) (k : Option Kept) → is_apart m ≡ true → private_in (hold_of m k) ≡ writes_in (loan_in k)
private_is None k on = cc on
private_is (Some m) None on = refl
private_is (Some m) (Some k) on = rw on refl

pub private_none : (m : Option Mode) (k : Option Kept) → is_apart m ≡ false → private_in (hold_of m k) ≡ []
private_none None k off = refl
private_none (Some m) None off = refl
private_none (Some m) (Some k) off = rw off refl

writes_kept : (d : ℕ) (ls : List (ℕ × Kept)) → writes_in (loan_in (kept_in d (with_loan d after_list_writes ls))) ≡ writes_in (loan_in (kept_in d ls))
writes_kept d [] = refl
writes_kept d (one ∷ rest) = elim (one.0 == d) as (λ b. (one.0 == d) ≡ b → writes_in (loan_in (kept_in d (if b then (one.0, kept_after after_list_writes one.1) ∷ rest else one ∷ with_loan d after_list_writes rest))) ≡ writes_in (loan_in (if b then Some one.1 else kept_in d rest))) [
  | true ↦ λ on. rw on (same_writes one.1.loan)
  | false ↦ λ off. rw off (writes_kept d rest)
] refl
  where
    same_writes : (o : Option Loan) → writes_in (loan_after after_list_writes o) ≡ writes_in o
    same_writes None = refl
    same_writes (Some l) = refl

pub writes_listed : (d : ℕ) (ls new : List (ℕ × Kept)) → new ≡ with_loan d after_list_writes ls → writes_in (loan_in (kept_in d new)) ≡ writes_in (loan_in (kept_in d ls))
writes_listed d ls new is = ap (λ (l : List (ℕ × Kept)). writes_in (loan_in (kept_in d l))) is ∙ writes_kept d ls

kept_listed : (d : ℕ) (ls : List (ℕ × Kept)) → IsListed (loan_in (kept_in d (with_loan d after_list_writes ls)))
kept_listed d [] = tt
kept_listed d (one ∷ rest) = elim (one.0 == d) as (λ b. (one.0 == d) ≡ b → IsListed (loan_in (kept_in d (if b then (one.0, kept_after after_list_writes one.1) ∷ rest else one ∷ with_loan d after_list_writes rest)))) [
  | true ↦ λ on. subst (λ (b : Bool). IsListed (loan_in (if b then Some (kept_after after_list_writes one.1) else kept_in d rest))) (sym on) (after one.1.loan)
  | false ↦ λ off. subst (λ (b : Bool). IsListed (loan_in (if b then Some one.1 else kept_in d (with_loan d after_list_writes rest)))) (sym off) (kept_listed d rest)
] refl
  where
    after : (o : Option Loan) → IsListed (loan_after after_list_writes o)
    after None = tt
    after (Some l) = refl

pub loans_listed : (d : ℕ) (ls new : List (ℕ × Kept)) → new ≡ with_loan d after_list_writes ls → IsListed (loan_in (kept_in d new))
loans_listed d ls new is = subst (λ (l : List (ℕ × Kept)). IsListed (loan_in (kept_in d l))) (sym is) (kept_listed d ls)

pub ok_map : {A E : Type 0} (r : Result A E) (P Q : A → Type 0) → IfOk r P → ((a : A) → P a → Q a) → IfOk r Q
ok_map (Ok a) P Q p go = go a p
ok_map (Err e) P Q p go = tt

pub listed_settled : (d : ℕ) (core new : Core) → new ≡ core_after after_list_writes d core → settled_core new ≡ settled_core core
listed_settled d core new is = ap settled_core is ∙ ap (λ (ls : List (ℕ × Kept)). core_with core core.edt ls) (settled_with after_list_writes (λ l. refl) (λ l. refl) d core.loans)

pub listed_holds : (d : ℕ) (core new : Core) → new ≡ core_after after_list_writes d core → holds_in (part.Core new) ≡ holds_in (part.Core core)
listed_holds d core new is = ap (λ (c : Core). holds_in (part.Core c)) is ∙ holds_listed d core
