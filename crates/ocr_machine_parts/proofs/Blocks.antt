-- Blocks, and links of slots, by what was made.
use Rattle.std.proofs.Common.{◌≡◌, inl, inr, ℕ, List, [], ◌∷◌, ◌++◌, ◌&&◌, not, Bool, true, false, Option, Some, None, ◌==◌, if◌then◌else◌, refl, sym, ◌∙◌, ap, subst, is_some}
use Rattle.std.proofs.lemmas.Bool.{eqb-true}
use Rattle.ocr_guid.specs.Target.{EventCall, Destruction}
use Rattle.ocr_guid.specs.declared.Code.TheVariants as code
use Rattle.ocr_acquire.specs.declared.Mode.{Mode}
use Rattle.ocr_acquire.specs.declared.Mode.TheVariants as mode
use Rattle.ocr_slots.specs.Slots as slot
use Rattle.ocr_slots.proofs.Laws.{link_law}
use Rattle.ocr_datablock.specs.Block as block
use Rattle.ocr_datablock.specs.Lent.{Loan, loan_of}
use Rattle.ocr_datablock.proofs.Laws.{ask_law, release_law, doom_law, store_law, lend_law, take_back_law}
use Rattle.ocr_machine_parts.specs.declared.part.Part.TheVariants as part
use Rattle.ocr_machine_history.specs.Made.{Made, MadeBlock, MadeEdt, size_in, creator_in, MadeTemplate, MadeEvent}
use Rattle.ocr_machine_parts.specs.Calls.{is_number, ask_calls, lend_calls, return_calls, end_calls, doom_calls}
use Rattle.ocr_machine_parts.specs.Parts.{face}
use Rattle.ocr_machine_parts.specs.Effects.{asked_if, lent_if, granted, returned, hold_ended, doomed_template}
use Rattle.ocr_machine_parts.specs.LegalOn.{IsLoanBack, IsHeld, IsShared, IsTaken, IsAgreed}
use Rattle.ocr_machine_parts.specs.Codes.{link_code}
use Rattle.ocr_acquire.specs.Mode.{is_exclusive, mode_in}
use Rattle.ocr_datablock.specs.Steps.{after_ask, after_lend, after_release, after_store, after_doom}
use Rattle.ocr_machine_parts.specs.Kinds.{IsBlock, size_on, with_block, with_links, words_on, is_template, with_template, is_event, with_event, is_destroyed}
use Rattle.ocr_event_any.specs.AnyEvent as event
use Rattle.ocr_event_any.proofs.Laws as event_laws
use Rattle.ocr_slots.specs.Steps.{after_link}
use Rattle.ocr_finish.specs.Scope.{ScopeCall}
use Rattle.ocr_base.proofs.Booleans.{same}

-- a borrower by its number
pub borrower_is : (t : ℕ) (o : Option ℕ) → is_number t o ≡ true → o ≡ Some t
borrower_is t None is = cc
borrower_is t (Some u) is = ap (λ (n : ℕ). Some n) (eqb-true u t is)

-- A HOLD ENDS
not_back : (t : ℕ) (w : List (ℕ × ℕ)) (loan : Option Loan) (st : block.State) → IsLoanBack t loan st → is_number t st.borrower ≡ false → returned w loan st ≡ st
not_back t w None st back is = refl
not_back t w (Some l) st back is = rw (sym back.lent ∙ is) refl

returned_is : (n c : ℕ) (blocks : List block.BlockCall) (t : ℕ) (w : List (ℕ × ℕ)) (loan : Option Loan)
    → (block.borrower_of blocks ≡ Some t → loan ≡ Some (loan_of mode.Ew (block.contents n blocks) [])) → IsLoanBack t loan (block.state_of n c blocks)
    → block.state_of n c (return_calls t w blocks) ≡ returned w loan (block.state_of n c blocks)
returned_is n c blocks t w loan lent back =
    elim (is_number t (block.borrower_of blocks)) as (λ b. is_number t (block.borrower_of blocks) ≡ b → block.state_of n c (if b then block.TakeBack t w ∷ blocks else blocks) ≡ returned w loan (block.state_of n c blocks)) [
      | true ↦ λ is. subst (λ (l : Option Loan). block.state_of n c (block.TakeBack t w ∷ blocks) ≡ returned w l (block.state_of n c blocks)) (sym (lent (borrower_is t (block.borrower_of blocks) is)))
          (take_back_law n c blocks t (record { mode = mode.Ew; began = block.contents n blocks; writes = w; listed = true }) refl refl)
      | false ↦ λ is. sym (not_back t w loan (block.state_of n c blocks) back is)
    ] refl

pub block_ended : (m : Option Made) (links : List slot.SlotCall) (blocks : List block.BlockCall) (events : List EventCall) (scopes : List ScopeCall) (t : ℕ) (w : List (ℕ × ℕ)) (mo : Option Mode) (loan : Option Loan)
    → (block.borrower_of blocks ≡ Some t → loan ≡ Some (loan_of mode.Ew (block.contents (size_in m) blocks) [])) → IsBlock (face m links blocks events scopes) (IsHeld t mo loan)
    → face m links (end_calls t w blocks) events scopes ≡ with_block (face m links blocks events scopes) (hold_ended after_release t w loan)
block_ended (Some (MadeBlock n c)) links blocks events scopes t w mo loan lent held =
    ap part.Block ((release_law n c (return_calls t w blocks) t).0 ∙ ap (λ (st : block.State). after_release st t) (returned_is n c blocks t w loan lent held.loan_back))
block_ended other links blocks events scopes t w mo loan lent held = absurd held

-- a block is destroyed, and a template
pub block_doomed : (m : Option Made) (links : List slot.SlotCall) (blocks : List block.BlockCall) (events : List EventCall) (scopes : List ScopeCall) (t : ℕ) (w : List (ℕ × ℕ)) (mo : Option Mode) (loan : Option Loan)
    → (block.borrower_of blocks ≡ Some t → loan ≡ Some (loan_of mode.Ew (block.contents (size_in m) blocks) [])) → IsBlock (face m links blocks events scopes) (IsAgreed t mo loan)
    → face m links (doom_calls t w blocks) events scopes ≡ with_block (face m links blocks events scopes) (hold_ended after_doom t w loan)
block_doomed (Some (MadeBlock n c)) links blocks events scopes t w mo loan lent held =
    ap part.Block ((doom_law n c (return_calls t w blocks) t).0 ∙ ap (λ (st : block.State). after_doom st t) (returned_is n c blocks t w loan lent held.loan_back))
block_doomed other links blocks events scopes t w mo loan lent held = absurd held

pub template_doomed : (m : Option Made) (links : List slot.SlotCall) (blocks : List block.BlockCall) (events : List EventCall) (scopes : List ScopeCall) → is_template (face m links blocks events scopes) ≡ true
    → face m links blocks (Destruction ∷ events) scopes ≡ with_template (face m links blocks events scopes) doomed_template
template_doomed (Some (MadeTemplate f pc dc)) links blocks events scopes is = refl
template_doomed other links blocks events scopes is = cc is

-- an event is destroyed
pub event_destroyed : (m : Option Made) (links : List slot.SlotCall) (blocks : List block.BlockCall) (events : List EventCall) (scopes : List ScopeCall) → is_event (face m links blocks events scopes) ≡ true → is_destroyed (face m links blocks events scopes) ≡ false
    → face m links blocks (Destruction ∷ events) scopes ≡ with_event (face m links blocks events scopes) event.after_destroy
event_destroyed (Some (MadeEvent k fl most)) links blocks events scopes is live = ap part.Event (event_laws.destroy_law k fl most events live)
event_destroyed other links blocks events scopes is live = cc is

-- A STORE
pub block_stored : (m : Option Made) (links : List slot.SlotCall) (blocks : List block.BlockCall) (events : List EventCall) (scopes : List ScopeCall) (t k v : ℕ) (mo : Option Mode) → IsBlock (face m links blocks events scopes) (IsShared t k mo)
    → face m links (block.Store k v ∷ blocks) events scopes ≡ with_block (face m links blocks events scopes) (λ st. after_store st k v)
block_stored (Some (MadeBlock n c)) links blocks events scopes t k v mo held = ap part.Block (store_law n c blocks k v held.not_lent)
block_stored other links blocks events scopes t k v mo held = absurd held

-- A BLOCK IS GRANTED
asked_is : (n c : ℕ) (blocks : List block.BlockCall) (t : ℕ) (m : Mode) → block.state_of n c (ask_calls t m c blocks) ≡ asked_if t m (block.state_of n c blocks)
asked_is n c blocks t m = elim (is_some (mode_in t (block.holders_of c blocks))) as (λ b. block.state_of n c (if b then blocks else block.Ask t m ∷ blocks) ≡ (if b then block.state_of n c blocks else after_ask (block.state_of n c blocks) t m)) [
  | true ↦ refl
  | false ↦ (ask_law n c blocks t m).0
]

pub asked_borrower : (c : ℕ) (blocks : List block.BlockCall) (t : ℕ) (m : Mode) → block.borrower_of (ask_calls t m c blocks) ≡ block.borrower_of blocks
asked_borrower c blocks t m = elim (is_some (mode_in t (block.holders_of c blocks))) as (λ b. block.borrower_of (if b then blocks else block.Ask t m ∷ blocks) ≡ block.borrower_of blocks) [ true ↦ refl | false ↦ refl ]

pub asked_contents : (n c : ℕ) (blocks : List block.BlockCall) (t : ℕ) (m : Mode) → block.contents n (ask_calls t m c blocks) ≡ block.contents n blocks
asked_contents n c blocks t m = elim (is_some (mode_in t (block.holders_of c blocks))) as (λ b. block.contents n (if b then blocks else block.Ask t m ∷ blocks) ≡ block.contents n blocks) [ true ↦ refl | false ↦ refl ]

lent_is : (n c : ℕ) (blocks : List block.BlockCall) (t : ℕ) (m : Mode) → block.borrower_of blocks ≡ None → block.state_of n c (lend_calls t m blocks) ≡ lent_if t m (block.state_of n c blocks)
lent_is n c blocks t m none = elim (is_exclusive m) as (λ b. block.state_of n c (if b then block.Lend t ∷ blocks else blocks) ≡ (if b then after_lend (block.state_of n c blocks) t else block.state_of n c blocks)) [
  | true ↦ (lend_law n c blocks t m none).0
  | false ↦ refl
]

pub block_granted : (made : Option Made) (links : List slot.SlotCall) (blocks : List block.BlockCall) (events : List EventCall) (scopes : List ScopeCall) (t : ℕ) (m : Mode) → IsBlock (face made links blocks events scopes) (IsTaken t m)
    → face made links (lend_calls t m (ask_calls t m (creator_in made) blocks)) events scopes ≡ with_block (face made links blocks events scopes) (granted t m)
block_granted (Some (MadeBlock n c)) links blocks events scopes t m taken =
    ap part.Block (lent_is n c (ask_calls t m c blocks) t m (asked_borrower c blocks t m ∙ taken.not_lent) ∙ ap (lent_if t m) (asked_is n c blocks t m))
block_granted other links blocks events scopes t m taken = absurd taken

pub block_asked : (made : Option Made) (links : List slot.SlotCall) (blocks : List block.BlockCall) (events : List EventCall) (scopes : List ScopeCall) (t : ℕ) (m : Mode)
    → face made links (block.Ask t m ∷ blocks) events scopes ≡ with_block (face made links blocks events scopes) (λ st. after_ask st t m)
block_asked (Some (MadeBlock n c)) links blocks events scopes t m = ap part.Block (ask_law n c blocks t m).0
block_asked other links blocks events scopes t m = refl

-- a block has the length with which it was made
pub size_is : (made : Option Made) (links : List slot.SlotCall) (blocks : List block.BlockCall) (events : List EventCall) (scopes : List ScopeCall) → size_on (face made links blocks events scopes) ≡ size_in made
size_is (Some (MadeBlock n c)) links blocks events scopes = refl
size_is other links blocks events scopes = refl

-- the words that a loan begins with are the contents
pub words_are : (made : Option Made) (links : List slot.SlotCall) (blocks : List block.BlockCall) (events : List EventCall) (scopes : List ScopeCall) (t : ℕ) (m : Mode) → IsBlock (face made links blocks events scopes) (IsTaken t m)
    → words_on (face made links blocks events scopes) ≡ block.contents (size_in made) blocks
words_are (Some (MadeBlock n c)) links blocks events scopes t m taken = rw taken.not_lent refl
words_are other links blocks events scopes t m taken = absurd taken

-- LINKS
pub edt_linked : (made : Option Made) (links : List slot.SlotCall) (blocks : List block.BlockCall) (events : List EventCall) (scopes : List ScopeCall) (i : ℕ) (m : Mode) → link_code (face made links blocks events scopes) i ≡ code.Done
    → face made (slot.Linking i m ∷ links) blocks events scopes ≡ with_links (face made links blocks events scopes) (λ slots. after_link slots i m)
edt_linked (Some (MadeEdt f ps n)) links blocks events scopes i m done = ap part.Edt (link_law n links i m done)
edt_linked other links blocks events scopes i m done = cc

-- WHO ASKS and can be granted holds the block
pub mode_added : (t : ℕ) (m : Mode) (holders : List (ℕ × Mode)) → mode_in t holders ≡ None → mode_in t (holders ++ (t, m) ∷ []) ≡ Some m
mode_added t m [] is = rw (same t) refl
mode_added t m (one ∷ rest) is = elim (one.0 == t) as (λ b. (if b then Some one.1 else mode_in t rest) ≡ None → (if b then Some one.1 else mode_in t (rest ++ (t, m) ∷ [])) ≡ Some m) [
  | true ↦ λ is. cc is
  | false ↦ λ is. mode_added t m rest is
] is

pub joined_granted : (b c : Bool) (x y z : block.Line) → b ≡ false → c ≡ true → (if b then x else if c then y else z) ≡ y
joined_granted true c x y z off on = cc off
joined_granted false true x y z off on = refl
joined_granted false false x y z off on = cc on

pub not_gone : (d x y : Bool) → (not d && x) ≡ true → (d && y) ≡ false
not_gone true x y is = cc is
not_gone false x y is = refl

pub asked_held : (t : ℕ) (m : Mode) (st : block.State) → IsTaken t m st → mode_in t st.holders ≡ None → mode_in t (after_ask st t m).holders ≡ Some m
asked_held t m st taken none = elim taken.fit [
  | inl held ↦ absurd (let no : None ≡ Some m = sym none ∙ held in cc no)
  | inr free ↦ ap (λ (l : block.Line). mode_in t l.holders)
      (joined_granted (block.is_line_gone st.destroyed (block.line st)) (block.can_grant st.destroyed (block.line st) m) _ _ _ (not_gone st.destroyed _ _ free.grantable) free.grantable)
      ∙ mode_added t m st.holders none
]
