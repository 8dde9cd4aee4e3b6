-- Who has the words of a block on loan.
use Rattle.std.proofs.Common.{◌≡◌, ℕ, ◌+◌, ◌/◌, List, [], ◌∷◌, ◌++◌, Bool, true, false, Option, Some, None, ◌==◌, ◌&&◌, if◌then◌else◌, refl, sym, ◌∙◌, ap, subst}
use Rattle.std.proofs.lemmas.Bool.{eqb-true, and_parts}
use Rattle.std.proofs.lemmas.List.{append-nil, append_assoc}
use Rattle.ocr_guid.specs.Target.{EventCall}
use Rattle.ocr_acquire.specs.declared.Mode.{Mode}
use Rattle.ocr_acquire.specs.declared.Mode.TheVariants as mode
use Rattle.ocr_slots.specs.Slots as slot
use Rattle.ocr_datablock.specs.Block as block
use Rattle.ocr_edt.specs.Edt as edt
use Rattle.ocr_body_meaning.specs.Holds.{is_done}
use Rattle.ocr_body_meaning.specs.declared.call.Call as body
use Rattle.ocr_body_meaning.specs.declared.call.Call.TheVariants as call
use Rattle.ocr_body_meaning.specs.declared.call.Answer.{Answer}
use Rattle.ocr_machine_history.specs.declared.entry.Entry.TheVariants.{Call, Acquire, Wait, Free}
use Rattle.ocr_machine_parts.specs.declared.part.Part.{Part}
use Rattle.ocr_machine_history.specs.History.{History, Setting, own}
use Rattle.ocr_machine_history.specs.Made.{Made, MadeBlock, MadeEdt, made, is_new, size_in, creator_in, is_edt_made}
use Rattle.ocr_machine_parts.specs.Calls.{is_number, ask_calls, lend_calls, end_calls, block_calls, stores_from, argument_words, contents_of, loans_of, link_calls, edt_calls, next_member, mode_next, plan_of, doom_calls, event_calls, return_calls, scope_calls}
use Rattle.ocr_machine_parts.proofs.Fresh.{new_fresh, made_old}
use Rattle.ocr_machine_parts.proofs.Within.{made_none}
use Rattle.ocr_machine_parts.specs.Parts.{face, core, parts_of, identity_of}
use Rattle.ocr_machine_parts.specs.Progress.{with_phase, made_ready, ready_at}
use Rattle.ocr_machine_parts.specs.LegalOn.{IsFresh, IsShared, IsTaken, IsCallOn}
use Rattle.ocr_machine_parts.specs.Laws.{IsLentTo, LentLaw}
use Rattle.ocr_machine_parts.proofs.Blocks.{asked_borrower, asked_contents}
use Rattle.ocr_acquire.specs.Mode.{is_exclusive}
use Rattle.ocr_machine_parts.specs.Kinds.{IsBlock, core_progress, next_in, on_core}
use Rattle.ocr_machine_parts.specs.Loans.{kept_created, kept_in, kept_of, with_kept, without_kept}
use Rattle.ocr_machine_parts.specs.declared.loans.Kept.{Kept}
use Rattle.ocr_finish.specs.Scope.{ScopeCall}
use Rattle.ocr_edt.specs.declared.Identity.{Identity}
use Rattle.ocr_base.proofs.Booleans.{same}

-- what is told of a block and of a loan, by their lists
abbrev lent_kept : Option Made → List block.BlockCall → Kept
lent_kept md blocks = kept_of mode.Ew (size_in md) (block.contents (size_in md) blocks)

abbrev IsFit : Option Made → List block.BlockCall → List (ℕ × Kept) → Option Made → ℕ → Type 0
IsFit md blocks loans mt d = (kept_in d loans ≡ Some (lent_kept md blocks)) × (is_edt_made mt ≡ true)

-- OF THE OPENING nothing is lent
none_stored : (xs : List ℕ) (k : ℕ) (ys : List block.BlockCall) → block.borrower_of (stores_from k xs ++ ys) ≡ block.borrower_of ys
none_stored [] k ys = refl
none_stored (v ∷ rest) k ys = ap block.borrower_of (append_assoc (stores_from (k + 1) rest) (block.Store k v ∷ []) ys) ∙ none_stored rest (k + 1) (block.Store k v ∷ ys)

none_lent : (s : Setting) (b : Bool) (t : ℕ) → block.borrower_of (if b then stores_from 0 (argument_words s) else []) ≡ Some t → ⊥
none_lent s true t is =
    let none : block.borrower_of (stores_from 0 (argument_words s)) ≡ None = ap block.borrower_of (sym (append-nil (stores_from 0 (argument_words s)))) ∙ none_stored (argument_words s) 0 [] in
    cc
none_lent s false t is = cc

-- LOANS of other blocks stay
pub loan_kept : (b d : ℕ) (loans : List (ℕ × Kept)) → (b == d) ≡ false → kept_in d (without_kept b loans) ≡ kept_in d loans
loan_kept b d [] apart = refl
loan_kept b d (one ∷ rest) apart = elim (one.0 == b) as (λ x. (one.0 == b) ≡ x → kept_in d (if x then rest else one ∷ without_kept b rest) ≡ (if one.0 == d then Some one.1 else kept_in d rest)) [
  | true ↦ λ is. let e : one.0 ≡ b = eqb-true one.0 b is in let other : (one.0 == d) ≡ false = ap (λ (n : ℕ). n == d) e ∙ apart in rw other refl
  | false ↦ λ is. ap (λ (l : Option Kept). if one.0 == d then Some one.1 else l) (loan_kept b d rest apart)
] refl

loan_kept_if : (c : Bool) (b d : ℕ) (loans : List (ℕ × Kept)) → (b == d) ≡ false → kept_in d (if c then without_kept b loans else loans) ≡ kept_in d loans
loan_kept_if true b d loans apart = loan_kept b d loans apart
loan_kept_if false b d loans apart = refl

pub kept_after_put : (b d : ℕ) (k : Kept) (loans : List (ℕ × Kept)) → kept_in d (with_kept b k loans) ≡ (if b == d then Some k else kept_in d loans)
kept_after_put b d k loans = elim (b == d) as (λ x. (b == d) ≡ x → (if x then Some k else kept_in d (without_kept b loans)) ≡ (if x then Some k else kept_in d loans)) [
  | true ↦ λ _. refl
  | false ↦ λ apart. loan_kept b d loans apart
] refl

pub loan_past : (c : Bool) (k : Kept) (b d : ℕ) (loans : List (ℕ × Kept)) → (b == d) ≡ false → kept_in d (if c then with_kept b k loans else loans) ≡ kept_in d loans
loan_past true k b d loans apart = rw apart (loan_kept b d loans apart)
loan_past false k b d loans apart = refl

held_past : (done own : Bool) (z b d : ℕ) (loans : List (ℕ × Kept)) → (done && (b == d)) ≡ false → kept_in d (if done && own then with_kept b (kept_created z) loans else loans) ≡ kept_in d loans
held_past true own z b d loans apart = loan_past own (kept_created z) b d loans apart
held_past false own z b d loans apart = refl

pub exclusive_is : (m : Mode) → is_exclusive m ≡ true → m ≡ mode.Ew
exclusive_is mode.Ew is = refl
exclusive_is other is = cc

-- what holds of two lists holds of the one that is chosen
fit_if : (b : Bool) (md : Option Made) (x y : List block.BlockCall) (loans : List (ℕ × Kept)) (mt : Option Made) (d t : ℕ)
    → (b ≡ true → block.borrower_of x ≡ Some t → IsFit md x loans mt d) → (b ≡ false → block.borrower_of y ≡ Some t → IsFit md y loans mt d)
    → block.borrower_of (if b then x else y) ≡ Some t → IsFit md (if b then x else y) loans mt d
fit_if true md x y loans mt d t one other is = one refl is
fit_if false md x y loans mt d t one other is = other refl is

-- a hold that ends: its EDT has no loan of the block any more, and whoever else had it keeps it
ended_fit : (md : Option Made) (blocks : List block.BlockCall) (loans : List (ℕ × Kept)) (mt : Option Made) (u d t : ℕ) (w : List (ℕ × ℕ)) (c : Bool) → (c ≡ true → (u == t) ≡ true)
    → (block.borrower_of blocks ≡ Some t → IsFit md blocks loans mt d) → block.borrower_of (return_calls u w blocks) ≡ Some t → IsFit md (return_calls u w blocks) (if c then without_kept d loans else loans) mt d
ended_fit md blocks loans mt u d t w c own fit is =
    elim (is_number u (block.borrower_of blocks)) as (λ b. is_number u (block.borrower_of blocks) ≡ b → block.borrower_of (if b then block.TakeBack u w ∷ blocks else blocks) ≡ Some t
    → IsFit md (if b then block.TakeBack u w ∷ blocks else blocks) (if c then without_kept d loans else loans) mt d) [
      | true ↦ λ here is. cc is
      | false ↦ λ apart is. elim c as (λ x. (x ≡ true → (u == t) ≡ true) → IsFit md blocks (if x then without_kept d loans else loans) mt d) [
        | true ↦ λ own. let one : (t == u) ≡ false = sym (ap (is_number u) is) ∙ apart in let e : u ≡ t = eqb-true u t (own refl) in
            absurd (cc (sym (same t) ∙ ap (λ (n : ℕ). t == n) (sym e) ∙ one))
        | false ↦ λ _. fit is
      ] own
    ] refl is

-- a block that is granted: in EW its words go to the EDT
granted_fit : (md : Option Made) (c0 : ℕ) (blocks : List block.BlockCall) (loans : List (ℕ × Kept)) (mt : Option Made) (u d t : ℕ) (m : Mode) → block.borrower_of blocks ≡ None → ((u == t) ≡ true → is_edt_made mt ≡ true)
    → block.borrower_of (lend_calls u m (ask_calls u m c0 blocks)) ≡ Some t
    → IsFit md (lend_calls u m (ask_calls u m c0 blocks)) (if u == t then with_kept d (kept_of m (size_in md) (block.contents (size_in md) blocks)) loans else loans) mt d
granted_fit md c0 blocks loans mt u d t m none edt is =
    let n : ℕ = size_in md in
    let words : List ℕ = block.contents n blocks in
    elim (is_exclusive m) as (λ b. is_exclusive m ≡ b → block.borrower_of (if b then block.Lend u ∷ ask_calls u m c0 blocks else ask_calls u m c0 blocks) ≡ Some t
    → IsFit md (if b then block.Lend u ∷ ask_calls u m c0 blocks else ask_calls u m c0 blocks) (if u == t then with_kept d (kept_of m n words) loans else loans) mt d) [
      | true ↦ λ ew is.
          let e : u ≡ t = cc in
          let here : (u == t) ≡ true = ap (λ (n : ℕ). u == n) (sym e) ∙ same u in
          let m_is : m ≡ mode.Ew = exclusive_is m ew in
          let first : kept_in d (with_kept d (kept_of m n words) loans) ≡ Some (kept_of mode.Ew n words) =
          ap (λ (k : Mode). kept_in d (with_kept d (kept_of k n words) loans)) m_is ∙ rw (same d) refl in
          (rw here (first ∙ ap (λ (words : List ℕ). Some (kept_of mode.Ew n words)) (sym (asked_contents n c0 blocks u m))), edt here)
      | false ↦ λ shared is. absurd (let no : block.borrower_of blocks ≡ Some t = sym (asked_borrower c0 blocks u m) ∙ is in cc)
    ] refl is

-- an object that is made where nothing was
created_fit : (bd bt : Bool) (md mt xd xt : Option Made) (blocks : List block.BlockCall) (loans : List (ℕ × Kept)) (d t : ℕ) → (bd ≡ false → xd ≡ md) → (bt ≡ false → xt ≡ mt) → (bt ≡ true → is_edt_made mt ≡ false)
    → (bd ≡ false → block.borrower_of blocks ≡ Some t → IsFit md blocks loans mt d) → block.borrower_of (if bd then [] else blocks) ≡ Some t
    → IsFit xd (if bd then [] else blocks) (if bt then [] else loans) xt d
created_fit true bt md mt xd xt blocks loans d t here there vacant fit is = cc is
created_fit false true md mt xd xt blocks loans d t here there vacant fit is = absurd (cc (sym (vacant refl) ∙ (fit refl is).1))
created_fit false false md mt xd xt blocks loans d t here there vacant fit is =
    let now = fit refl is in
    (now.0 ∙ ap (λ (m : Option Made). Some (lent_kept m blocks)) (sym (here refl)), ap is_edt_made (there refl) ∙ now.1)

fresh_edt : (s : Setting) (past : History) (t : ℕ) → IsFresh s.limit (parts_of s past) t → is_edt_made (made s past t) ≡ false
fresh_edt s past t fresh = ap is_edt_made (made_none s past t fresh.vacant)

shared_not_lent : (m : Option Made) (links : List slot.SlotCall) (blocks : List block.BlockCall) (events : List EventCall) (scopes : List ScopeCall) (t k : ℕ) (mo : Option Mode) → IsBlock (face m links blocks events scopes) (IsShared t k mo) → block.borrower_of blocks ≡ None
shared_not_lent (Some (MadeBlock n c)) links blocks events scopes t k mo h = h.not_lent
shared_not_lent other links blocks events scopes t k mo h = absurd h

pub taken_not_lent : (m : Option Made) (links : List slot.SlotCall) (blocks : List block.BlockCall) (events : List EventCall) (scopes : List ScopeCall) (t : ℕ) (mo : Mode) → IsBlock (face m links blocks events scopes) (IsTaken t mo) → block.borrower_of blocks ≡ None
taken_not_lent (Some (MadeBlock n c)) links blocks events scopes t mo h = h.not_lent
taken_not_lent other links blocks events scopes t mo h = absurd h

progress_made : (m : Option Made) (i : Identity) (calls : List edt.EdtCall) (loans : List (ℕ × Kept)) (members : List (ℕ × Mode)) (x : ℕ × Mode)
    → next_in (core_progress (on_core (core m i calls loans) (with_phase (made_ready members)))) ≡ Some x → is_edt_made m ≡ true
progress_made (Some (MadeEdt f ps n)) i calls loans members x is = refl
progress_made other i calls loans members x is = cc

-- the core of an EDT that was made ready
pub ready_core : (s : Setting) (past : History) (t : ℕ) → (ready_at t (plan_of s past t) (parts_of s past)).core t ≡ on_core ((parts_of s past).core t) (with_phase (made_ready (plan_of s past t)))
ready_core s past t = rw (same t) refl

called_fit : (s : Setting) (past : History) (u home : ℕ) (c : body.Call) (a : Answer) (w : List (ℕ × ℕ)) (d t : ℕ) → IsCallOn s.limit (parts_of s past) u home c a w
    → (block.borrower_of (block_calls s past d) ≡ Some t → IsLentTo s past d t) → block.borrower_of (block_calls s (Call u home c a w ∷ past) d) ≡ Some t → IsLentTo s (Call u home c a w ∷ past) d t
called_fit s past u home (call.DbCreate n fl) a w d t legal fit is =
    let own : Bool = (u == t) && (fl == 0) in
    let c : body.Call = call.DbCreate n fl in
    created_fit (is_new c a d) (is_new c a t) (made s past d) (made s past t) _ _ (block_calls s past d) (if is_done a.code && own then with_kept a.value (kept_created (n / 8)) (loans_of s past t) else loans_of s past t) d t (made_old s past u home c a w d) (made_old s past u home c a w t)
    (λ new. fresh_edt s past t (new_fresh s.limit (parts_of s past) u home c a w t legal new))
    (λ apart borrowed. (held_past (is_done a.code) own (n / 8) a.value d (loans_of s past t) apart ∙ (fit borrowed).0, (fit borrowed).1)) is
called_fit s past u home (call.TemplateCreate f pc dc) a w d t legal fit is =
    let c : body.Call = call.TemplateCreate f pc dc in
    created_fit (is_new c a d) (is_new c a t) (made s past d) (made s past t) _ _ (block_calls s past d) (loans_of s past t) d t (made_old s past u home c a w d) (made_old s past u home c a w t)
    (λ new. fresh_edt s past t (new_fresh s.limit (parts_of s past) u home c a w t legal new)) (λ _. fit) is
called_fit s past u home (call.EdtCreate from pc ps dc ds fl o) a w d t legal fit is =
    let c : body.Call = call.EdtCreate from pc ps dc ds fl o in
    created_fit (is_new c a d) (is_new c a t) (made s past d) (made s past t) _ _ (block_calls s past d) (loans_of s past t) d t (made_old s past u home c a w d) (made_old s past u home c a w t)
    (λ new. fresh_edt s past t (new_fresh s.limit (parts_of s past) u home c a w t legal new)) (λ _. fit) is
called_fit s past u home (call.DbRelease b) a w d t legal fit is =
    let blocks = block_calls s past d in
    let loans = loans_of s past t in
    fit_if (is_done a.code && (b == d)) (made s past d) (end_calls u w blocks) blocks (if is_done a.code && (u == t) then without_kept b loans else loans) (made s past t) d t
    (λ here borrowed.
    let e : b ≡ d = eqb-true b d (and_parts (is_done a.code) (b == d) here).1 in
    subst (λ (n : ℕ). IsFit (made s past d) (end_calls u w blocks) (if is_done a.code && (u == t) then without_kept n loans else loans) (made s past t) d) (sym e)
    (ended_fit (made s past d) blocks loans (made s past t) u d t w (is_done a.code && (u == t)) (λ both. (and_parts (is_done a.code) (u == t) both).1) fit borrowed))
    (λ apart borrowed.
    let kept : kept_in d (if is_done a.code && (u == t) then without_kept b loans else loans) ≡ kept_in d loans =
    elim (is_done a.code) as (λ x. (x && (b == d)) ≡ false → kept_in d (if x && (u == t) then without_kept b loans else loans) ≡ kept_in d loans) [
      | true ↦ λ apart. loan_kept_if (u == t) b d loans apart
      | false ↦ λ _. refl
    ] apart in
    (kept ∙ (fit borrowed).0, (fit borrowed).1))
    is
called_fit s past u home (call.DbDestroy b) a w d t legal fit is =
    let blocks = block_calls s past d in
    let loans = loans_of s past t in
    fit_if (is_done a.code && (b == d)) (made s past d) (doom_calls u w blocks) blocks (if is_done a.code && (u == t) then without_kept b loans else loans) (made s past t) d t
    (λ here borrowed.
    let e : b ≡ d = eqb-true b d (and_parts (is_done a.code) (b == d) here).1 in
    subst (λ (n : ℕ). IsFit (made s past d) (doom_calls u w blocks) (if is_done a.code && (u == t) then without_kept n loans else loans) (made s past t) d) (sym e)
    (ended_fit (made s past d) blocks loans (made s past t) u d t w (is_done a.code && (u == t)) (λ both. (and_parts (is_done a.code) (u == t) both).1) fit borrowed))
    (λ apart borrowed.
    let kept : kept_in d (if is_done a.code && (u == t) then without_kept b loans else loans) ≡ kept_in d loans =
    elim (is_done a.code) as (λ x. (x && (b == d)) ≡ false → kept_in d (if x && (u == t) then without_kept b loans else loans) ≡ kept_in d loans) [
      | true ↦ λ apart. loan_kept_if (u == t) b d loans apart
      | false ↦ λ _. refl
    ] apart in
    (kept ∙ (fit borrowed).0, (fit borrowed).1))
    is
called_fit s past u home (call.Store b k v) a w d t legal fit is =
    let blocks = block_calls s past d in
    fit_if (is_done a.code && (b == d)) (made s past d) (block.Store k v ∷ blocks) blocks (loans_of s past t) (made s past t) d t
    (λ here borrowed.
    let e : b ≡ d = eqb-true b d (and_parts (is_done a.code) (b == d) here).1 in
    let none : block.borrower_of blocks ≡ None = subst (λ (n : ℕ). block.borrower_of (block_calls s past n) ≡ None) e
    (shared_not_lent (made s past b) (link_calls past b) (block_calls s past b) (event_calls s past b) (scope_calls past b) u k _ legal.value.0) in
    cc)
    (λ _ borrowed. fit borrowed) is
called_fit s past u home (call.EventCreate k fl) a w d t legal fit is =
    let c : body.Call = call.EventCreate k fl in
    created_fit (is_new c a d) (is_new c a t) (made s past d) (made s past t) _ _ (block_calls s past d) (loans_of s past t) d t (made_old s past u home c a w d) (made_old s past u home c a w t)
    (λ new. fresh_edt s past t (new_fresh s.limit (parts_of s past) u home c a w t legal new)) (λ _. fit) is
called_fit s past u home (call.EventCreateParams k fl gen sat deps) a w d t legal fit is =
    let c : body.Call = call.EventCreateParams k fl gen sat deps in
    created_fit (is_new c a d) (is_new c a t) (made s past d) (made s past t) _ _ (block_calls s past d) (loans_of s past t) d t (made_old s past u home c a w d) (made_old s past u home c a w t)
    (λ new. fresh_edt s past t (new_fresh s.limit (parts_of s past) u home c a w t legal new)) (λ _. fit) is
called_fit s past u home other a w d t legal fit is = fit is

acquired_fit : (s : Setting) (past : History) (u b d t : ℕ) (k : Mode) → IsBlock ((parts_of s past).face b) (IsTaken u k) → ((u == t) ≡ true → is_edt_made (made s past t) ≡ true)
    → (block.borrower_of (block_calls s past d) ≡ Some t → IsLentTo s past d t) → block.borrower_of (block_calls s (Acquire u b ∷ past) d) ≡ Some t → IsLentTo s (Acquire u b ∷ past) d t
acquired_fit s past u b d t k taken edt fit is =
    let m = mode_next (next_member s past u) in
    let blocks = block_calls s past d in
    let loans = loans_of s past t in
    fit_if (b == d) (made s past d) (lend_calls u m (ask_calls u m (creator_in (made s past d)) blocks)) blocks (if u == t then with_kept b (kept_of m (size_in (made s past b)) (contents_of s past b)) loans else loans) (made s past t) d t
    (λ here borrowed.
    let e : b ≡ d = eqb-true b d here in
    let none : block.borrower_of blocks ≡ None = subst (λ (n : ℕ). block.borrower_of (block_calls s past n) ≡ None) e
    (taken_not_lent (made s past b) (link_calls past b) (block_calls s past b) (event_calls s past b) (scope_calls past b) u k taken) in
    subst (λ (n : ℕ). IsFit (made s past d) (lend_calls u m (ask_calls u m (creator_in (made s past d)) blocks)) (if u == t then with_kept n (kept_of m (size_in (made s past n)) (contents_of s past n)) loans else loans) (made s past t) d) (sym e)
    (granted_fit (made s past d) (creator_in (made s past d)) blocks loans (made s past t) u d t m none edt borrowed))
    (λ apart borrowed. (loan_past (u == t) (kept_of m (size_in (made s past b)) (contents_of s past b)) b d loans apart ∙ (fit borrowed).0, (fit borrowed).1)) is

pub lent_law : LentLaw
lent_law s [] run d t is = absurd (none_lent s (d == 1) t is)
lent_law s (Call u home c a w ∷ past) run d t is = called_fit s past u home c a w d t run.1.on_parts (lent_law s past run.0 d t) is
lent_law s (Acquire u b ∷ past) run d t is =
    acquired_fit s past u b d t _ run.1.on_parts.taken
    (λ here.
    let e : u ≡ t = eqb-true u t here in
    subst (λ (n : ℕ). is_edt_made (made s past n) ≡ true) e
    (progress_made (made s past u) (identity_of past u) (edt_calls s past u) (loans_of s past u) (plan_of s past u) _ (ap (λ (x : Part). next_in (core_progress x)) (sym (ready_core s past u)) ∙ run.1.on_parts.next)))
    (lent_law s past run.0 d t) is
lent_law s (Wait u b ∷ past) run d t is =
    elim (b == d) as (λ x. block.borrower_of (if x then block.Ask u (mode_next (next_member s past u)) ∷ block_calls s past d else block_calls s past d) ≡ Some t
    → IsFit (made s past d) (if x then block.Ask u (mode_next (next_member s past u)) ∷ block_calls s past d else block_calls s past d) (loans_of s past t) (made s past t) d) [
      | true ↦ λ is. lent_law s past run.0 d t is
      | false ↦ λ is. lent_law s past run.0 d t is
    ] is
lent_law s (Free u b w ∷ past) run d t is =
    let blocks = block_calls s past d in
    let loans = loans_of s past t in
    fit_if (b == d) (made s past d) (end_calls u w blocks) blocks (if u == t then without_kept b loans else loans) (made s past t) d t
    (λ here borrowed.
    let e : b ≡ d = eqb-true b d here in
    subst (λ (n : ℕ). IsFit (made s past d) (end_calls u w blocks) (if u == t then without_kept n loans else loans) (made s past t) d) (sym e)
    (ended_fit (made s past d) blocks loans (made s past t) u d t w (u == t) (λ own. own) (lent_law s past run.0 d t) borrowed))
    (λ apart borrowed. (loan_kept_if (u == t) b d loans apart ∙ (lent_law s past run.0 d t borrowed).0, (lent_law s past run.0 d t borrowed).1)) is
lent_law s (e ∷ past) run d t is = lent_law s past run.0 d t is
