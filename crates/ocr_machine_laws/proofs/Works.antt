-- What a running EDT may do with blocks, in plain words.
use Rattle.std.proofs.Common.{◌≡◌, ◌⊎◌, inl, inr, ℕ, ◌<◌, nat_lt, List, [], ◌∷◌, Bool, true, false, Option, Some, None, ◌==◌, if◌then◌else◌, refl, sym, ◌∙◌, ap, subst, is_some}
use Rattle.std.proofs.lemmas.Bool.{eq-eqb, ltb-true, false_from_ne_true}
use Rattle.ocr_guid.specs.Target.{EventCall}
use Rattle.ocr_base.proofs.Booleans.{same}
use Rattle.ocr_acquire.specs.declared.Mode.{Mode}
use Rattle.ocr_acquire.specs.declared.Mode.TheVariants as mode
use Rattle.ocr_acquire.specs.Mode.{is_exclusive, mode_in, is_isolated, is_writable}
use Rattle.ocr_slots.specs.Slots as slot
use Rattle.ocr_datablock.specs.Block as block
use Rattle.ocr_datablock.specs.Steps.{AreAllowed}
use Rattle.ocr_datablock.proofs.Laws.{loan_law}
use Rattle.ocr_edt.specs.Phases.{least_of}
use Rattle.ocr_machine_history.specs.History.{History, Setting}
use Rattle.ocr_machine_history.specs.Made.{Made, MadeBlock, made, size_in, creator_in}
use Rattle.ocr_body_meaning.specs.Holds.{Hold, Refused, Silent, Entered, if_within, load_of, store_of}
use Rattle.ocr_machine_parts.specs.declared.loans.Kept.{Kept}
use Rattle.ocr_machine_parts.specs.declared.part.Part.{Part}
use Rattle.ocr_machine_parts.specs.declared.part.Part.TheVariants as part
use Rattle.ocr_machine_parts.specs.Loans.{loan_in}
use Rattle.ocr_machine_parts.specs.Calls.{is_number, link_calls, block_calls, event_calls, scope_calls}
use Rattle.ocr_machine_parts.specs.Parts.{face, parts_of}
use Rattle.ocr_machine_parts.specs.Kinds.{IsBlock, is_block, is_held_by, work_of, holds_of, mode_on, kept_on, loan_on}
use Rattle.ocr_machine_parts.specs.Bodies.{hold_in, hold_of}
use Rattle.ocr_machine_parts.specs.LegalOn.{IsLoanBack, IsHeld, IsAgreed, IsShared}
use Rattle.ocr_machine_parts.specs.Legal.{IsRun}
use Rattle.ocr_machine_parts.proofs.Allowed.{allowed_law, free_law}
use Rattle.ocr_machine_parts.proofs.Blocks.{borrower_is}
use Rattle.ocr_machine_laws.specs.Waits.{held_on}
use Rattle.ocr_machine_laws.specs.Held.{IsKeptWith, IsHeldSo}
use Rattle.ocr_machine_laws.specs.Plain.{FreeingLaw, DoomingLaw, IsEntered, SharingLaw}
use Rattle.ocr_machine_laws.proofs.Entries.{exclusive_isolated}
use Rattle.ocr_machine_laws.proofs.Held.{mode_held, holding_law, held_law, running_core}
use Rattle.ocr_body_meaning.specs.declared.call.BodyStop.TheVariants as stop
use Rattle.ocr_datablock.specs.Lent.{Loan}
use Rattle.ocr_finish.specs.Scope.{ScopeCall}

-- WHAT THE CORE HOLDS the block has
pub so_held : (t d : ℕ) (m : Mode) (x : Part) (k : Option Kept) → IsHeldSo t x (Some m) k → (kept : Kept) × (k ≡ Some kept) × IsBlock x (IsKeptWith t m kept)
so_held t d m x None so = absurd so
so_held t d m x (Some kept) so = (kept, refl, so)

pub held_with : (s : Setting) (past : History) (t d : ℕ) (m : Mode) → IsRun s past → mode_on ((parts_of s past).core t) d ≡ Some m
    → (kept : Kept) × (kept_on ((parts_of s past).core t) d ≡ Some kept) × IsBlock ((parts_of s past).face d) (IsKeptWith t m kept)
held_with s past t d m run is =
    let y : Part = (parts_of s past).core t in
    so_held t d m ((parts_of s past).face d) (kept_on y d) (subst (λ (o : Option Mode). IsHeldSo t ((parts_of s past).face d) o (kept_on y d)) (mode_held y d m is) ((holding_law s past run).so t d))

kept_holder : (x : Part) (t : ℕ) (m : Mode) (kept : Kept) → IsBlock x (IsKeptWith t m kept) → is_held_by x t ≡ true
kept_holder (part.Block st) t m kept is = ap (λ (o : Option Mode). is_some o) is.holder
kept_holder other t m kept is = absurd is

-- A BLOCK IS FREED
least_mode : (holds : List (ℕ × Mode)) (d : ℕ) → least_of holds ≡ Some d → (m : Mode) × (mode_in d holds ≡ Some m)
least_mode [] d is = cc is
least_mode (one ∷ rest) d is =
    let e : one.0 ≡ d = cc is in
    let here : (one.0 == d) ≡ true = eq-eqb one.0 d e in
    (one.1, rw here refl)

pub freeing_law : FreeingLaw
freeing_law s past t d run running least =
    let found = least_mode (holds_of (work_of ((parts_of s past).core t))) d least in
    let with_it = held_with s past t d found.0 run found.1 in
    record { running = running; least = least; held = held_law s past t d run running (kept_holder ((parts_of s past).face d) t found.0 with_it.0 with_it.2) }

-- A BLOCK IS DESTROYED
agrees : (x : Part) (t : ℕ) (o : Option Mode) (l : _) → IsBlock x (IsHeld t o l) → IsBlock x (IsAgreed t o l)
agrees (part.Block st) t o l is = record { same = is.same; loan_back = is.loan_back }
agrees other t o l is = absurd is

none_of : (t d : ℕ) (x y : Part) (o : Option Mode) → mode_on y d ≡ o → is_held_by x t ≡ false → ((m : Mode) → mode_on y d ≡ Some m → is_held_by x t ≡ true) → o ≡ None
none_of t d x y None is off holds = refl
none_of t d x y (Some m) is off holds = absurd (let on = holds m is in cc (on, off))

so_none : (t : ℕ) (x : Part) (m : Option Mode) (k : Option Kept) → m ≡ None → IsHeldSo t x m k → k ≡ None
so_none t x None None none so = refl
so_none t x (Some m) k none so = cc none
so_none t x None (Some k) none so = absurd so

alone_holds : (t : ℕ) → is_some (mode_in t ((t, mode.Ew) ∷ [])) ≡ true
alone_holds t = rw (same t) refl

not_lent_to : (n c : ℕ) (blocks : List block.BlockCall) (t : ℕ) → AreAllowed n c blocks → is_some (mode_in t (block.holders_of c blocks)) ≡ false → is_number t (block.borrower_of blocks) ≡ false
not_lent_to n c blocks t allowed off = false_from_ne_true (is_number t (block.borrower_of blocks)) (λ on.
    let alone = (loan_law n c blocks t allowed (borrower_is t (block.borrower_of blocks) on)).0 in
    let held : is_some (mode_in t (block.holders_of c blocks)) ≡ true = ap (λ (h : List (ℕ × Mode)). is_some (mode_in t h)) alone ∙ alone_holds t in
    cc (held, off))

unheld : (md : Option Made) (links : List slot.SlotCall) (blocks : List block.BlockCall) (events : List EventCall) (scopes : List ScopeCall) (t : ℕ) (o : Option Mode) (k : Option Kept) → AreAllowed (size_in md) (creator_in md) blocks
    → is_block (face md links blocks events scopes) ≡ true → is_held_by (face md links blocks events scopes) t ≡ false → o ≡ None → k ≡ None → IsBlock (face md links blocks events scopes) (IsAgreed t o (loan_in k))
unheld (Some (MadeBlock n c)) links blocks events scopes t o k allowed is off no_mode no_kept = record {
  same = no_mode ∙ sym (none_if (mode_in t (block.holders_of c blocks)) off);
  loan_back = subst (λ (j : Option Kept). IsLoanBack t (loan_in j) (block.state_of n c blocks)) (sym no_kept) (not_lent_to n c blocks t allowed off);
}
  where
    none_if : (p : Option Mode) → is_some p ≡ false → p ≡ None
    none_if None is = refl
    none_if (Some m) is = cc is
unheld other links blocks events scopes t o k allowed is off no_mode no_kept = cc is

pub dooming_law : DoomingLaw
dooming_law s past t d run running is =
    let x : Part = (parts_of s past).face d in
    let y : Part = (parts_of s past).core t in
    elim (is_held_by x t) as (λ b. is_held_by x t ≡ b → IsBlock x (IsAgreed t (mode_on y d) (loan_on y d))) [
      | true ↦ λ held. agrees x t (mode_on y d) (loan_on y d) (held_law s past t d run running held)
      | false ↦ λ off.
          let none : mode_on y d ≡ None = none_of t d x y (mode_on y d) refl off (λ m has. let with_it = held_with s past t d m run has in kept_holder x t m with_it.0 with_it.2) in
          let none_kept : kept_on y d ≡ None = so_none t x (mode_in d (held_on y)) (kept_on y d) (ap (mode_in d) (running_core y running).0 ∙ none) ((holding_law s past run).so t d) in
          unheld (made s past d) (link_calls past d) (block_calls s past d) (event_calls s past d) (scope_calls past d) t (mode_on y d) (kept_on y d) (allowed_law s past run d) is off none none_kept
    ] refl

-- A WORD of a block that is shared
pub record IsWithin (m : Mode) (size k : ℕ) : Type 0 where
  pub shared : is_isolated m ≡ false
  pub below : k < size

entered_within : (h : Hold) (k : ℕ) (b : Bool) (value : ℕ) → is_isolated h.mode ≡ b → IsEntered (if_within h k (if b then Silent value else Entered)) → IsWithin h.mode h.size k
entered_within h k true value is entered = elim (nat_lt k h.size) as (λ b. IsEntered (if b then Silent value else Refused stop.BadIndex) → IsWithin h.mode h.size k) [ true ↦ λ no. absurd no | false ↦ λ no. absurd no ] entered
entered_within h k false value is entered = elim (nat_lt k h.size) as (λ b. nat_lt k h.size ≡ b → IsEntered (if b then Entered else Refused stop.BadIndex) → IsWithin h.mode h.size k) [
  | true ↦ λ below _. record { shared = is; below = ltb-true k h.size below }
  | false ↦ λ _ no. absurd no
] refl entered

load_within : (h : Hold) (k : ℕ) → IsEntered (load_of (Some h) k) → IsWithin h.mode h.size k
load_within h k entered = entered_within h k (is_isolated h.mode) _ refl entered

store_within : (h : Hold) (k : ℕ) → IsEntered (store_of (Some h) k) → IsWithin h.mode h.size k
store_within h k entered = elim (is_writable h.mode) as (λ b. IsEntered (if b then if_within h k (if is_isolated h.mode then Silent 0 else Entered) else Refused stop.NotWritable) → IsWithin h.mode h.size k) [
  | true ↦ λ entered. entered_within h k (is_isolated h.mode) 0 refl entered
  | false ↦ λ no. absurd no
] entered

hold_is : (m : Mode) (size : ℕ) (loan : Option Loan) (b : Bool) → is_isolated m ≡ b → ((hold_in m size loan).mode ≡ m) × ((hold_in m size loan).size ≡ size)
hold_is m size loan true is = (rw is refl, rw is refl)
hold_is m size loan false is = (rw is refl, rw is refl)

within_hold : (m : Mode) (kept : Kept) (k : ℕ) → IsWithin (hold_in m kept.size kept.loan).mode (hold_in m kept.size kept.loan).size k → IsWithin m kept.size k
within_hold m kept k is =
    let hold = hold_is m kept.size kept.loan (is_isolated m) refl in
    subst (λ (n : Mode). IsWithin n kept.size k) hold.0 (subst (λ (n : ℕ). IsWithin (hold_in m kept.size kept.loan).mode n k) hold.1 is)

entered_hold : (o : Option Mode) (p : Option Kept) (k : ℕ) → IsEntered (load_of (hold_of o p) k) ⊎ IsEntered (store_of (hold_of o p) k) → (m : Mode) × (kept : Kept) × (o ≡ Some m) × (p ≡ Some kept) × IsWithin m kept.size k
entered_hold (Some m) (Some kept) k (inl entered) = (m, kept, refl, refl, within_hold m kept k (load_within (hold_in m kept.size kept.loan) k entered))
entered_hold (Some m) (Some kept) k (inr entered) = (m, kept, refl, refl, within_hold m kept k (store_within (hold_in m kept.size kept.loan) k entered))
entered_hold None p k entered = elim entered [ inl never ↦ absurd never | inr never ↦ absurd never ]
entered_hold (Some m) None k entered = elim entered [ inl never ↦ absurd never | inr never ↦ absurd never ]

shared_block : (md : Option Made) (links : List slot.SlotCall) (blocks : List block.BlockCall) (events : List EventCall) (scopes : List ScopeCall) (t k : ℕ) (o : Option Mode) (m : Mode) (kept : Kept)
    → (mode_in t (block.holders_of (creator_in md) blocks) ≡ Some m → is_exclusive m ≡ false → block.borrower_of blocks ≡ None) → o ≡ Some m → IsWithin m kept.size k
    → IsBlock (face md links blocks events scopes) (IsKeptWith t m kept) → IsBlock (face md links blocks events scopes) (IsShared t k o)
shared_block (Some (MadeBlock n c)) links blocks events scopes t k o m kept free mode_is within is = record {
  exists = subst (λ (size : ℕ). k < size) is.size within.below;
  same = mode_is ∙ sym is.holder;
  not_lent = free is.holder (exclusive_isolated m within.shared);
}
shared_block other links blocks events scopes t k o m kept free mode_is within is = absurd is

pub sharing_law : SharingLaw
sharing_law s past t d k run entered =
    let y : Part = (parts_of s past).core t in
    let found = entered_hold (mode_on y d) (kept_on y d) k entered in
    let with_it = held_with s past t d found.0 run found.2 in
    let same_kept : found.1 ≡ with_it.0 = (let both : Some found.1 ≡ Some with_it.0 = sym found.3 ∙ with_it.1 in cc both) in
    shared_block (made s past d) (link_calls past d) (block_calls s past d) (event_calls s past d) (scope_calls past d) t k (mode_on y d) found.0 found.1
    ((free_law s past run d).shared t found.0) found.2 found.4
    (subst (λ (kept : Kept). IsBlock ((parts_of s past).face d) (IsKeptWith t found.0 kept)) (sym same_kept) with_it.2)
