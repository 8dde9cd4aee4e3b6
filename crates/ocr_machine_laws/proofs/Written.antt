-- Each entry that writes into a block is a write of an EDT that holds it for writing, and no other entry changes its contents.
use Rattle.std.proofs.Common.{◌≡◌, ◌⊎◌, inl, inr, ℕ, List, [], ◌∷◌, Bool, true, false, Option, Some, None, ◌==◌, ◌&&◌, if◌then◌else◌, refl, sym, ◌∙◌, ap, subst, is_some}
use Rattle.std.proofs.lemmas.Bool.{eqb-true, and_parts}
use Rattle.ocr_base.proofs.Booleans.{same}
use Rattle.ocr_guid.specs.Target.{EventCall}
use Rattle.ocr_acquire.specs.declared.Mode.{Mode}
use Rattle.ocr_acquire.specs.declared.Mode.TheVariants as mode
use Rattle.ocr_acquire.specs.Mode.{mode_in}
use Rattle.ocr_slots.specs.Slots as slot
use Rattle.ocr_datablock.specs.Block as block
use Rattle.ocr_datablock.specs.Lent.{Loan}
use Rattle.ocr_datablock.specs.Steps.{after_release, after_doom}
use Rattle.ocr_datablock.proofs.Laws.{loan_law}
use Rattle.ocr_edt.specs.declared.Edt.{Edt}
use Rattle.ocr_edt.specs.declared.Edt.TheVariants as phase
use Rattle.ocr_edt.proofs.Holds.{mode_in-without}
use Rattle.ocr_finish.specs.Scope.{ScopeCall}
use Rattle.ocr_body_meaning.specs.Behaviour.{Asked, IsNext}
use Rattle.ocr_body_meaning.specs.Body.{Body, says}
use Rattle.ocr_body_meaning.specs.Holds.{Hold, Holds, is_done, private_in}
use Rattle.ocr_body_meaning.specs.Laws.{held_after}
use Rattle.ocr_body_meaning.proofs.Accesses.{plain_next}
use Rattle.ocr_body_meaning.specs.declared.call.Call as body
use Rattle.ocr_body_meaning.specs.declared.call.Call.TheVariants as call
use Rattle.ocr_body_meaning.specs.declared.call.Answer.{Answer}
use Rattle.ocr_machine_history.specs.declared.entry.Entry.{Entry}
use Rattle.ocr_machine_history.specs.declared.entry.Entry.TheVariants.{Call, Acquire, Wait, Free}
use Rattle.ocr_machine_history.specs.History.{History, Setting, own}
use Rattle.ocr_machine_history.specs.Made.{Made, MadeBlock, made, is_new, size_in, creator_in}
use Rattle.ocr_machine_parts.specs.declared.part.Part.{Part}
use Rattle.ocr_machine_parts.specs.declared.part.Part.TheVariants as part
use Rattle.ocr_machine_parts.specs.Calls.{is_number, next_mode, return_calls, end_calls, doom_calls, block_step, block_calls, contents_of, link_calls, event_calls, scope_calls}
use Rattle.ocr_machine_parts.specs.Parts.{Parts, face, parts_of}
use Rattle.ocr_machine_parts.specs.declared.loans.Kept.{Kept}
use Rattle.ocr_machine_parts.specs.Bodies.{hold_in, holds_on, body_of}
use Rattle.ocr_machine_parts.specs.Bodies as bodies
use Rattle.ocr_machine_parts.specs.Kinds.{IsBlock, is_block, is_held_by, on_core, work_in, is_running, mode_on, kept_on, loan_on}
use Rattle.ocr_machine_parts.specs.Effects.{joined, called, ended, dropped_edt, dropping_core}
use Rattle.ocr_machine_parts.specs.LegalOn.{IsHeld}
use Rattle.ocr_machine_parts.specs.Legal.{carried, IsRun, IsLegal}
use Rattle.ocr_machine_parts.proofs.After.{after_law}
use Rattle.ocr_machine_parts.proofs.Allowed.{allowed_law}
use Rattle.ocr_machine_parts.proofs.Blocks.{borrower_is}
use Rattle.ocr_machine_parts.proofs.Fresh.{made_old}
use Rattle.ocr_machine_laws.specs.Waits.{held_in, held_on}
use Rattle.ocr_machine_laws.specs.Permanence.{is_own}
use Rattle.ocr_machine_laws.proofs.Held.{mode_held, held_law, kept_fits_law}
use Rattle.ocr_machine_laws.proofs.Own.{started_by}
use Rattle.ocr_machine_laws.proofs.Permanence.{not_new}
use Rattle.ocr_machine_laws.proofs.Private.{AreOf, AreBy, mode_of_hold, mode_by_core, call_writes, end_writes, first_private}
use Rattle.ocr_machine_laws.proofs.Said.{stores_in_rw, tied}
use Rattle.ocr_machine_laws.specs.Memory.{hold_of, is_for_writing, are_some, writes_into, IsWrittenBy, WrittenLaw}
use Rattle.ocr_machine_laws.proofs.Found.{granted_if, asked_same}

-- A BLOCK was made
pub block_there : (m : Option Made) (links : List slot.SlotCall) (blocks : List block.BlockCall) (events : List EventCall) (scopes : List ScopeCall) → is_block (face m links blocks events scopes) ≡ true → m ≡ None → ⊥
block_there (Some (MadeBlock n c)) links blocks events scopes is none = cc none
block_there other links blocks events scopes is none = cc

pub was_made : (s : Setting) (past : History) (d : ℕ) → is_block ((parts_of s past).face d) ≡ true → made s past d ≡ None → ⊥
was_made s past d is = block_there (made s past d) (link_calls past d) (block_calls s past d) (event_calls s past d) (scope_calls past d) is

-- WHO HAS THE WORDS ON LOAN holds the block in EW
holder_there : (m : Option Made) (links : List slot.SlotCall) (blocks : List block.BlockCall) (events : List EventCall) (scopes : List ScopeCall) (t : ℕ) (k : Mode) → is_block (face m links blocks events scopes) ≡ true → mode_in t (block.holders_of (creator_in m) blocks) ≡ Some k
    → is_held_by (face m links blocks events scopes) t ≡ true
holder_there (Some (MadeBlock n c)) links blocks events scopes t k is held = ap (λ (o : Option Mode). is_some o) held
holder_there other links blocks events scopes t k is held = cc is

held_mode : (m : Option Made) (links : List slot.SlotCall) (blocks : List block.BlockCall) (events : List EventCall) (scopes : List ScopeCall) (t : ℕ) (o : Option Mode) (l : Option Loan) → IsBlock (face m links blocks events scopes) (IsHeld t o l) → o ≡ mode_in t (block.holders_of (creator_in m) blocks)
held_mode (Some (MadeBlock n c)) links blocks events scopes t o l is = is.same
held_mode other links blocks events scopes t o l is = absurd is

first_mode : (t : ℕ) (m : Mode) → mode_in t ((t, m) ∷ []) ≡ Some m
first_mode t m = rw (same t) refl

pub borrower_holds : (s : Setting) (past : History) (by d : ℕ) → IsRun s past → is_running ((parts_of s past).core by) ≡ true → is_block ((parts_of s past).face d) ≡ true → is_number by (block.borrower_of (block_calls s past d)) ≡ true → hold_of s past by d ≡ Some mode.Ew
borrower_holds s past by d run running there lent =
    let y : Part = (parts_of s past).core by in
    let alone = (loan_law (size_in (made s past d)) (creator_in (made s past d)) (block_calls s past d) by (allowed_law s past run d) (borrower_is by (block.borrower_of (block_calls s past d)) lent)).0 in
    let holder : mode_in by (block.holders_of (creator_in (made s past d)) (block_calls s past d)) ≡ Some mode.Ew = ap (mode_in by) alone ∙ first_mode by mode.Ew in
    let held : is_held_by ((parts_of s past).face d) by ≡ true = holder_there (made s past d) (link_calls past d) (block_calls s past d) (event_calls s past d) (scope_calls past d) by mode.Ew there holder in
    let agreed : mode_on y d ≡ mode_in by (block.holders_of (creator_in (made s past d)) (block_calls s past d)) =
    held_mode (made s past d) (link_calls past d) (block_calls s past d) (event_calls s past d) (scope_calls past d) by (mode_on y d) _ (held_law s past by d run running held) in
    mode_held y d mode.Ew (agreed ∙ holder)

-- A HOLD ENDS where the block is given back or destroyed
dropped_none : (e : Edt) (d : ℕ) → is_some (work_in e) ≡ true → mode_in d (held_in (dropped_edt d e)) ≡ None
dropped_none (phase.Running w) d running = mode_in-without d w.holds
dropped_none other d running = cc

dropping_none : (x : Part) (d : ℕ) → is_running x ≡ true → mode_in d (held_on (on_core x (dropping_core d))) ≡ None
dropping_none (part.Core c) d running = dropped_none c.edt d running
dropping_none other d running = cc

hold_gone : (f : Parts) (step : block.State → ℕ → block.State) (t b d : ℕ) (w : List (ℕ × ℕ)) → is_running (f.core t) ≡ true → (b == d) ≡ true → mode_in d (held_on ((ended step f t b w).core t)) ≡ None
hold_gone f step t b d w running here =
    subst (λ (n : ℕ). mode_in d (held_on ((ended step f t n w).core t)) ≡ None) (sym (eqb-true b d here))
    (rw (same t) (dropping_none (f.core t) d running))

call_after : (s : Setting) (past : History) (by home : ℕ) (c : body.Call) (a : Answer) (w : List (ℕ × ℕ)) (u d : ℕ) → IsRun s past → IsLegal s past (Call by home c a w) → is_done a.code ≡ true
    → hold_of s (Call by home c a w ∷ past) u d ≡ mode_in d (held_on ((called by c a w (parts_of s past)).core u))
call_after s past by home c a w u d run legal on =
    ap (λ (f : Parts). mode_in d (held_on (f.core u))) (after_law s past (Call by home c a w) run legal)
    ∙ ap (λ (b : Bool). mode_in d (held_on ((if b then joined c home (called by c a w (parts_of s past)) else parts_of s past).core u))) on

-- WRITES, by a running EDT
pub record IsWrite (s : Setting) (past : History) (e : Entry) (d u : ℕ) : Type 0 where
  pub running : is_running ((parts_of s past).core u) ≡ true
  pub written : IsWrittenBy s past e d u

-- the end of a hold in EW
ended_write : (s : Setting) (past : History) (e : Entry) (by d : ℕ) → is_running ((parts_of s past).core by) ≡ true → is_own e by ≡ true → hold_of s past by d ≡ Some mode.Ew → hold_of s (e ∷ past) by d ≡ None → IsWrite s past e d by
ended_write s past e by d running own held gone = record {
  running = running;
  written = record { own = own; for_writing = ap is_for_writing held; whole = λ _. gone };
}

-- in RW, at once
write_store : (s : Setting) (past : History) (by home b k v d : ℕ) (a : Answer) (w : List (ℕ × ℕ)) → IsRun s past → IsLegal s past (Call by home (call.Store b k v) a w) → (b == d) ≡ true → IsWrite s past (Call by home (call.Store b k v) a w) d by
write_store s past by home b k v d a w run legal here =
    let at : hold_of s past by b ≡ Some mode.Rw = mode_held ((parts_of s past).core by) b mode.Rw (stores_in_rw s past by home b k v a w run legal) in
    let hold : hold_of s past by d ≡ Some mode.Rw = subst (λ (n : ℕ). hold_of s past by n ≡ Some mode.Rw) (eqb-true b d here) at in
    record {
      running = legal.on_parts.running;
      written = record { own = same by; for_writing = ap is_for_writing hold; whole = λ is. cc (hold, is) };
    }

-- PRIVATE WRITES, where there are any, are those of a hold in EW
in_ew : (m : Option Mode) (w : List (ℕ × ℕ)) → are_some w ≡ true → AreOf m w → m ≡ Some mode.Ew
in_ew m w some of = elim of [
  | inl none ↦ absurd (let off : are_some w ≡ false = ap are_some none in cc (some, off))
  | inr is ↦ is
]

carried_some : (done : Bool) (private w : List (ℕ × ℕ)) → w ≡ carried done private → are_some w ≡ true → (done ≡ true) × (are_some private ≡ true)
carried_some true private w is some = (refl, sym (ap are_some is) ∙ some)
carried_some false private w is some = absurd (let off : are_some w ≡ false = ap are_some is in cc (some, off))

held_in_ew : (s : Setting) (past : History) (t d : ℕ) → mode_of_hold (holds_on (parts_of s past) t d) ≡ Some mode.Ew → hold_of s past t d ≡ Some mode.Ew
held_in_ew s past t d is =
    let y : Part = (parts_of s past).core t in
    mode_held y d mode.Ew (mode_by_core (mode_on y d) (kept_on y d) mode.Ew is)

-- of a hold that a call ends
called_in_ew : (s : Setting) (past : History) (t home : ℕ) (c : body.Call) (a : Answer) (w : List (ℕ × ℕ)) (d : ℕ) → ((held : Holds) (p : List (ℕ × ℕ)) → AreBy held c p → AreOf (mode_of_hold (held d)) p)
    → IsRun s past → IsLegal s past (Call t home c a w) → are_some w ≡ true → (is_done a.code ≡ true) × (hold_of s past t d ≡ Some mode.Ew)
called_in_ew s past t home c a w d ends run legal some =
    let b : Body = body_of s past t in
    let log : List Asked = own past t in
    let with_core = tied s past t run (started_by s past t run legal.on_parts.running) in
    let both = carried_some (is_done a.code) legal.said.0 w legal.said.2 some in
    let next : IsNext c (says b log) = plain_next c legal.said.0 (says b log) legal.said.1 in
    let by = call_writes b log c legal.said.0 (λ x. first_private s past t x run) with_core.trace legal.said.1 in
    let ew = in_ew (mode_of_hold (held_after log b.holds d)) legal.said.0 both.1 (ends (held_after log b.holds) legal.said.0 by) in
    (both.0, held_in_ew s past t d (sym (ap mode_of_hold (with_core.holds c next d)) ∙ ew))

-- and of one that is left at the end
has_mode : (x : Part) (t : ℕ) (m : Option Mode) (l : Option Loan) → IsBlock x (IsHeld t m l) → is_some m ≡ true
has_mode (part.Block st) t m l is = ap (λ (o : Option Mode). is_some o) is.same ∙ is.holder
has_mode other t m l is = absurd is

left_in_ew : (s : Setting) (past : History) (t d : ℕ) (m : Mode) (held : Option Hold) → IsRun s past → mode_on ((parts_of s past).core t) d ≡ Some m
    → ((h : Hold) → holds_on (parts_of s past) t d ≡ Some h → held ≡ Some h) → mode_of_hold held ≡ Some mode.Ew → hold_of s past t d ≡ Some mode.Ew
left_in_ew s past t d m held run is left ew =
    let y : Part = (parts_of s past).core t in
    let fit = kept_fits_law s past t d m run is in
    let now : holds_on (parts_of s past) t d ≡ Some (hold_in m fit.0.size fit.0.loan) = λ i. bodies.hold_of (is i) (fit.1.is_kept i) in
    held_in_ew s past t d (ap mode_of_hold (now ∙ sym (left _ now)) ∙ ew)

freed_in_ew : (s : Setting) (past : History) (t d : ℕ) (w : List (ℕ × ℕ)) → IsRun s past → IsLegal s past (Free t d w) → are_some w ≡ true → hold_of s past t d ≡ Some mode.Ew
freed_in_ew s past t d w run legal some =
    let b : Body = body_of s past t in
    let log : List Asked = own past t in
    let y : Part = (parts_of s past).core t in
    let with_core = tied s past t run (started_by s past t run legal.on_parts.running) in
    let ends = end_writes b log legal.said.0 legal.said.1 d (λ x. first_private s past t x run) with_core.trace legal.said.2 in
    let ew = in_ew (mode_of_hold (held_after log b.holds d)) (private_in (legal.said.1 d)) (sym (ap are_some legal.said.3) ∙ some) ends in
    elim (mode_on y d) as (λ o. mode_on y d ≡ o → is_some o ≡ true → hold_of s past t d ≡ Some mode.Ew) [
      | None ↦ λ _ no. cc no
      | Some m ↦ λ is _. left_in_ew s past t d m (held_after log b.holds d) run is (with_core.left d) ew
    ] refl (has_mode ((parts_of s past).face d) t (mode_on y d) (loan_on y d) legal.on_parts.held)

-- EACH ENTRY that writes into the block is a write
pub writer : (s : Setting) (past : History) (e : Entry) (d : ℕ) → IsRun s past → IsLegal s past e → writes_into e d ≡ true → (u : ℕ) × IsWrite s past e d u
writer s past (Call by home (call.Store b k v) a w) d run legal is = (by, write_store s past by home b k v d a w run legal (and_parts (is_done a.code) (b == d) is).1)
writer s past (Call by home (call.DbRelease b) a w) d run legal is =
    let e : Entry = Call by home (call.DbRelease b) a w in
    let both = and_parts (b == d) (are_some w) is in
    let had = called_in_ew s past by home (call.DbRelease b) a w b (λ held p of. of) run legal both.1 in
    let held : hold_of s past by d ≡ Some mode.Ew = subst (λ (n : ℕ). hold_of s past by n ≡ Some mode.Ew) (eqb-true b d both.0) had.1 in (
      by,
      ended_write s past e by d legal.on_parts.running (same by) held
          (call_after s past by home (call.DbRelease b) a w by d run legal had.0 ∙ hold_gone (parts_of s past) after_release by b d w legal.on_parts.running both.0),
    )
writer s past (Call by home (call.DbDestroy b) a w) d run legal is =
    let e : Entry = Call by home (call.DbDestroy b) a w in
    let both = and_parts (b == d) (are_some w) is in
    let had = called_in_ew s past by home (call.DbDestroy b) a w b (λ held p of. of) run legal both.1 in
    let held : hold_of s past by d ≡ Some mode.Ew = subst (λ (n : ℕ). hold_of s past by n ≡ Some mode.Ew) (eqb-true b d both.0) had.1 in (
      by,
      ended_write s past e by d legal.on_parts.running (same by) held
          (call_after s past by home (call.DbDestroy b) a w by d run legal had.0 ∙ hold_gone (parts_of s past) after_doom by b d w legal.on_parts.running both.0),
    )
writer s past (Call by home other a w) d run legal is = cc is
writer s past (Free u b w) d run legal is =
    let both = and_parts (b == d) (are_some w) is in
    let held : hold_of s past u d ≡ Some mode.Ew = subst (λ (n : ℕ). hold_of s past u n ≡ Some mode.Ew) (eqb-true b d both.0) (freed_in_ew s past u b w run legal both.1) in
    let after : hold_of s (Free u b w ∷ past) u d ≡ mode_in d (held_on ((ended after_release (parts_of s past) u b w).core u)) = ap (λ (f : Parts). mode_in d (held_on (f.core u))) (after_law s past (Free u b w) run legal) in
    (u, ended_write s past (Free u b w) u d legal.on_parts.running (same u) held (after ∙ hold_gone (parts_of s past) after_release u b d w legal.on_parts.running both.0))
writer s past other d run legal is = cc is

-- EACH OTHER ENTRY leaves the contents as they are
abbrev now_in : Setting → History → ℕ → List block.BlockCall → List ℕ
now_in s past d calls = block.contents (size_in (made s past d)) calls

back_same : (n by : ℕ) (w : List (ℕ × ℕ)) (calls : List block.BlockCall) → are_some w ≡ false → block.contents n (return_calls by w calls) ≡ block.contents n calls
back_same n by [] calls none = elim (is_number by (block.borrower_of calls)) as (λ b. block.contents n (if b then block.TakeBack by [] ∷ calls else calls) ≡ block.contents n calls) [ true ↦ refl | false ↦ refl ]
back_same n by (one ∷ rest) calls none = cc none

none_there : (b c : Bool) → (b && c) ≡ false → b ≡ true → c ≡ false
none_there true c off on = off
none_there false c off on = cc on

call_same : (s : Setting) (past : History) (by home : ℕ) (c : body.Call) (a : Answer) (w : List (ℕ × ℕ)) (d : ℕ) → writes_into (Call by home c a w) d ≡ false → now_in s past d (block_step by c a w d (block_calls s past d)) ≡ contents_of s past d
call_same s past by home (call.DbRelease b) a w d off =
    elim (is_done a.code && (b == d)) as (λ x. (is_done a.code && (b == d)) ≡ x → now_in s past d (if x then end_calls by w (block_calls s past d) else block_calls s past d) ≡ contents_of s past d) [
      | true ↦ λ is. back_same (size_in (made s past d)) by w (block_calls s past d) (none_there (b == d) (are_some w) off (and_parts (is_done a.code) (b == d) is).1)
      | false ↦ λ _. refl
    ] refl
call_same s past by home (call.DbDestroy b) a w d off =
    elim (is_done a.code && (b == d)) as (λ x. (is_done a.code && (b == d)) ≡ x → now_in s past d (if x then doom_calls by w (block_calls s past d) else block_calls s past d) ≡ contents_of s past d) [
      | true ↦ λ is. back_same (size_in (made s past d)) by w (block_calls s past d) (none_there (b == d) (are_some w) off (and_parts (is_done a.code) (b == d) is).1)
      | false ↦ λ _. refl
    ] refl
call_same s past by home (call.Store b k v) a w d off = rw off refl
call_same s past by home other a w d off = refl

pub unchanged : (s : Setting) (past : History) (e : Entry) (d : ℕ) → IsLegal s past e → is_block ((parts_of s past).face d) ≡ true → writes_into e d ≡ false → contents_of s (e ∷ past) d ≡ contents_of s past d
unchanged s past (Call by home c a w) d legal there off =
    let old : is_new c a d ≡ false = not_new s past by home c a w d legal.on_parts (was_made s past d there) in
    let size : size_in (made s (Call by home c a w ∷ past) d) ≡ size_in (made s past d) = ap size_in (made_old s past by home c a w d old) in
    let calls : block_calls s (Call by home c a w ∷ past) d ≡ block_step by c a w d (block_calls s past d) = rw old refl in
    (λ i. block.contents (size i) (calls i)) ∙ call_same s past by home c a w d off
unchanged s past (Acquire u b) d legal there off = granted_if (size_in (made s past d)) (creator_in (made s past d)) u (next_mode s past u) (block_calls s past d) (b == d)
unchanged s past (Wait u b) d legal there off = asked_same (size_in (made s past d)) u (next_mode s past u) (block_calls s past d) (b == d)
unchanged s past (Free u b w) d legal there off =
    elim (b == d) as (λ x. (b == d) ≡ x → now_in s past d (if x then end_calls u w (block_calls s past d) else block_calls s past d) ≡ contents_of s past d) [
      | true ↦ λ here. back_same (size_in (made s past d)) u w (block_calls s past d) (none_there (b == d) (are_some w) off here)
      | false ↦ λ _. refl
    ] refl
unchanged s past other d legal there off = refl

pub written_law : WrittenLaw
written_law s past e d run legal = (
  λ is. let write = writer s past e d run legal is in (write.0, write.1.written),
  λ there off. unchanged s past e d legal there off,
)
