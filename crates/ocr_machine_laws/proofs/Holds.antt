-- What the EDTs hold, where one face and one core change.
use Rattle.std.proofs.Common.{◌≡◌, ℕ, List, true, false, Option, Some, None, ◌==◌, if◌then◌else◌, refl, sym, ◌∙◌, subst}
use Rattle.std.proofs.lemmas.Bool.{eqb-true}
use Rattle.ocr_base.proofs.Booleans.{same}
use Rattle.ocr_acquire.specs.declared.Mode.{Mode}
use Rattle.ocr_acquire.specs.Mode.{mode_in}
use Rattle.ocr_datablock.specs.Block as block
use Rattle.ocr_datablock.specs.Lent.{Loan}
use Rattle.ocr_slots.specs.declared.Slot.{Slot}
use Rattle.ocr_machine_parts.specs.declared.loans.Kept.{Kept}
use Rattle.ocr_machine_parts.specs.declared.part.Part.{Part}
use Rattle.ocr_machine_parts.specs.declared.part.Part.TheVariants as part
use Rattle.ocr_machine_parts.specs.Calls.{is_number}
use Rattle.ocr_machine_parts.specs.Parts.{Parts}
use Rattle.ocr_finish.specs.Scope as scope
use Rattle.ocr_machine_parts.specs.Kinds.{IsBlock, with_block, with_links, kept_on, with_template, with_event, with_scope}
use Rattle.ocr_event_any.specs.declared.AnyEvent.{AnyEvent}
use Rattle.ocr_machine_parts.specs.Effects.{doomed_template}
use Rattle.ocr_machine_parts.specs.Progress.{with_face, with_core}
use Rattle.ocr_machine_laws.specs.Waits.{held_on}
use Rattle.ocr_machine_laws.specs.Held.{IsLoanKept, IsKeptWith, IsHeldSo, loans_on, AreKeptOnce, AreHeld}

-- what others hold of a block stays held
abbrev pub OthersStay : ℕ → Part → Part → Type 0
OthersStay t x y = (u : ℕ) (m : Option Mode) (k : Option Kept) → (t == u) ≡ false → IsHeldSo u x m k → IsHeldSo u y m k

-- an EDT holds what it held, but for one block
abbrev pub HoldsElse : ℕ → Part → Part → Type 0
HoldsElse d was y = (e : ℕ) → (d == e) ≡ false → (mode_in e (held_on y) ≡ mode_in e (held_on was)) × (kept_on y e ≡ kept_on was e)

both_are : (t : ℕ) (x : Part) (m n : Option Mode) (k l : Option Kept) → (n ≡ m) × (l ≡ k) → IsHeldSo t x m k → IsHeldSo t x n l
both_are t x m n k l same is = subst (λ (j : Option Mode). IsHeldSo t x j l) (sym same.0) (subst (IsHeldSo t x m) (sym same.1) is)

pub moved_held : (f : Parts) (d : ℕ) (x : Part) (t : ℕ) (y : Part) → AreHeld f → OthersStay t (f.face d) x → IsHeldSo t x (mode_in d (held_on y)) (kept_on y d)
    → HoldsElse d (f.core t) y → AreKeptOnce (loans_on y) → AreHeld (with_core (with_face f d x) t y)
moved_held f d x t y all others own away once = record {
  so = λ u e. elim (t == u) as (λ b. (t == u) ≡ b → IsHeldSo u (if d == e then x else f.face e) (mode_in e (held_on (if b then y else f.core u))) (kept_on (if b then y else f.core u) e)) [
    | true ↦ λ tu. subst (λ (n : ℕ). IsHeldSo n (if d == e then x else f.face e) (mode_in e (held_on y)) (kept_on y e)) (eqb-true t u tu)
        (elim (d == e) as (λ c. (d == e) ≡ c → IsHeldSo t (if c then x else f.face e) (mode_in e (held_on y)) (kept_on y e)) [
          | true ↦ λ de. subst (λ (n : ℕ). IsHeldSo t x (mode_in n (held_on y)) (kept_on y n)) (eqb-true d e de) own
          | false ↦ λ apart. both_are t (f.face e) _ _ _ _ (away e apart) (all.so t e)
        ] refl)
    | false ↦ λ apart. elim (d == e) as (λ c. (d == e) ≡ c → IsHeldSo u (if c then x else f.face e) (mode_in e (held_on (f.core u))) (kept_on (f.core u) e)) [
      | true ↦ λ de. subst (λ (n : ℕ). IsHeldSo u x (mode_in n (held_on (f.core u))) (kept_on (f.core u) n)) (eqb-true d e de) (others u _ _ apart (all.so u d))
      | false ↦ λ _. all.so u e
    ] refl
  ] refl;
  once = λ u. elim (t == u) as (λ b. AreKeptOnce (loans_on (if b then y else f.core u))) [ true ↦ once | false ↦ all.once u ];
}

-- A FACE ALONE
pub faced_held : (f : Parts) (d : ℕ) (x : Part) → AreHeld f → ((u : ℕ) (m : Option Mode) (k : Option Kept) → IsHeldSo u (f.face d) m k → IsHeldSo u x m k) → AreHeld (with_face f d x)
faced_held f d x all stays = record {
  so = λ u e. elim (d == e) as (λ c. (d == e) ≡ c → IsHeldSo u (if c then x else f.face e) (mode_in e (held_on (f.core u))) (kept_on (f.core u) e)) [
    | true ↦ λ de. subst (λ (n : ℕ). IsHeldSo u x (mode_in n (held_on (f.core u))) (kept_on (f.core u) n)) (eqb-true d e de) (stays u _ _ (all.so u d))
    | false ↦ λ _. all.so u e
  ] refl;
  once = all.once;
}

-- A CORE ALONE, which has what it had
pub cored_held : (f : Parts) (t : ℕ) (y : Part) → AreHeld f → ((e : ℕ) → (mode_in e (held_on y) ≡ mode_in e (held_on (f.core t))) × (kept_on y e ≡ kept_on (f.core t) e)) → AreKeptOnce (loans_on y) → AreHeld (with_core f t y)
cored_held f t y all same once = record {
  so = λ u e. elim (t == u) as (λ b. (t == u) ≡ b → IsHeldSo u (f.face e) (mode_in e (held_on (if b then y else f.core u))) (kept_on (if b then y else f.core u) e)) [
    | true ↦ λ tu. subst (λ (n : ℕ). IsHeldSo n (f.face e) (mode_in e (held_on y)) (kept_on y e)) (eqb-true t u tu) (both_are t (f.face e) _ _ _ _ (same e) (all.so t e))
    | false ↦ λ _. all.so u e
  ] refl;
  once = λ u. elim (t == u) as (λ b. AreKeptOnce (loans_on (if b then y else f.core u))) [ true ↦ once | false ↦ all.once u ];
}

-- FACES. Who holds a block keeps it through a step that keeps its holders, its length and its loan
pub record IsKeeping (u : ℕ) (st new : block.State) : Type 0 where
  pub holders : (m : Mode) → mode_in u st.holders ≡ Some m → mode_in u new.holders ≡ Some m
  pub size : new.size ≡ st.size
  pub lent : is_number u new.borrower ≡ is_number u st.borrower

loan_stays : (u : ℕ) (m : Mode) (l : Option Loan) (st new : block.State) → IsKeeping u st new → IsLoanKept u m l st → IsLoanKept u m l new
loan_stays u m None st new keeps is = record { shared = is.shared; not_lent = keeps.lent ∙ is.not_lent }
loan_stays u m (Some l) st new keeps is = record { fresh = is.fresh; isolated = is.isolated; lent = keeps.lent ∙ is.lent; size = is.size ∙ sym keeps.size }

kept_stays : (u : ℕ) (m : Mode) (k : Kept) (st new : block.State) → IsKeeping u st new → IsKeptWith u m k st → IsKeptWith u m k new
kept_stays u m k st new keeps is = record { holder = keeps.holders m is.holder; size = is.size ∙ sym keeps.size; loan = loan_stays u m k.loan st new keeps is.loan }

pub so_stays : (u : ℕ) (x y : Part) (m : Option Mode) (k : Option Kept) → ((j : Mode) (l : Kept) → IsBlock x (IsKeptWith u j l) → IsBlock y (IsKeptWith u j l)) → IsHeldSo u x m k → IsHeldSo u y m k
so_stays u x y None None step is = tt
so_stays u x y (Some m) (Some k) step is = step m k is
so_stays u x y None (Some k) step is = absurd is
so_stays u x y (Some m) None step is = absurd is

-- what holds of a block, where the part is one
abbrev pub IfBlock : Part → (block.State → Type 0) → Type 0
IfBlock (part.Block st) P = P st
IfBlock other P = Unit {0}

pub if_block : (x : Part) (P Q : block.State → Type 0) → ((st : block.State) → P st → Q st) → IsBlock x P → IfBlock x Q
if_block (part.Block st) P Q f is = f st is
if_block other P Q f is = tt

pub if_any : (x : Part) (P : block.State → Type 0) → ((st : block.State) → P st) → IfBlock x P
if_any (part.Block st) P f = f st
if_any other P f = tt

block_stays : (u : ℕ) (x : Part) (step : block.State → block.State) (m : Mode) (k : Kept) → IfBlock x (λ st. IsKeeping u st (step st)) → IsBlock x (IsKeptWith u m k) → IsBlock (with_block x step) (IsKeptWith u m k)
block_stays u (part.Block st) step m k keeps is = kept_stays u m k st (step st) keeps is
block_stays u other step m k keeps is = absurd is

pub step_stays : (u : ℕ) (x : Part) (step : block.State → block.State) (m : Option Mode) (k : Option Kept) → IfBlock x (λ st. IsKeeping u st (step st)) → IsHeldSo u x m k → IsHeldSo u (with_block x step) m k
step_stays u x step m k keeps is = so_stays u x (with_block x step) m k (λ j l is. block_stays u x step j l keeps is) is

links_stay : (u : ℕ) (x : Part) (step : List Slot → List Slot) (m : Mode) (k : Kept) → IsBlock x (IsKeptWith u m k) → IsBlock (with_links x step) (IsKeptWith u m k)
links_stay u (part.Block st) step m k is = is
links_stay u other step m k is = absurd is

pub linked_stays : (u : ℕ) (x : Part) (step : List Slot → List Slot) (m : Option Mode) (k : Option Kept) → IsHeldSo u x m k → IsHeldSo u (with_links x step) m k
linked_stays u x step m k is = so_stays u x (with_links x step) m k (links_stay u x step) is

template_stays : (u : ℕ) (x : Part) (m : Mode) (k : Kept) → IsBlock x (IsKeptWith u m k) → IsBlock (with_template x doomed_template) (IsKeptWith u m k)
template_stays u (part.Block st) m k is = is
template_stays u other m k is = absurd is

pub doomed_stays : (u : ℕ) (x : Part) (m : Option Mode) (k : Option Kept) → IsHeldSo u x m k → IsHeldSo u (with_template x doomed_template) m k
doomed_stays u x m k is = so_stays u x (with_template x doomed_template) m k (template_stays u x) is

event_stays : (u : ℕ) (x : Part) (step : AnyEvent → AnyEvent) (m : Mode) (k : Kept) → IsBlock x (IsKeptWith u m k) → IsBlock (with_event x step) (IsKeptWith u m k)
event_stays u (part.Block st) step m k is = is
event_stays u other step m k is = absurd is

pub evented_stays : (u : ℕ) (x : Part) (step : AnyEvent → AnyEvent) (m : Option Mode) (k : Option Kept) → IsHeldSo u x m k → IsHeldSo u (with_event x step) m k
evented_stays u x step m k is = so_stays u x (with_event x step) m k (event_stays u x step) is

scope_stays : (u : ℕ) (x : Part) (step : scope.State → scope.State) (m : Mode) (k : Kept) → IsBlock x (IsKeptWith u m k) → IsBlock (with_scope x step) (IsKeptWith u m k)
scope_stays u (part.Block st) step m k is = is
scope_stays u other step m k is = absurd is

pub scoped_stays : (u : ℕ) (x : Part) (step : scope.State → scope.State) (m : Option Mode) (k : Option Kept) → IsHeldSo u x m k → IsHeldSo u (with_scope x step) m k
scoped_stays u x step m k is = so_stays u x (with_scope x step) m k (scope_stays u x step) is

-- of what is not there nobody holds anything
pub vacant_stays : (u : ℕ) (x y : Part) (m : Option Mode) (k : Option Kept) → x ≡ part.Vacant → IsHeldSo u x m k → IsHeldSo u y m k
vacant_stays u x y m k vacant is = so_stays u x y m k (λ j l there. absurd (subst (λ (z : Part). IsBlock z (IsKeptWith u j l)) vacant there)) is

pub vacant_none : (u : ℕ) (x : Part) (m : Option Mode) (k : Option Kept) → x ≡ part.Vacant → IsHeldSo u x m k → (m ≡ None) × (k ≡ None)
vacant_none u x None None vacant is = (refl, refl)
vacant_none u x (Some m) (Some k) vacant is = absurd (subst (λ (z : Part). IsBlock z (IsKeptWith u m k)) vacant is)
vacant_none u x None (Some k) vacant is = absurd is
vacant_none u x (Some m) None vacant is = absurd is
