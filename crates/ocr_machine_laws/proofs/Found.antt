-- What an EDT finds in a block that it acquires in EW or CONST.
use Rattle.std.proofs.Common.{◌≡◌, ℕ, ◌/◌, List, [], ◌∷◌, Bool, true, false, Option, Some, None, ◌==◌, ◌&&◌, if◌then◌else◌, refl, sym, ◌∙◌, ap, subst}
use Rattle.std.proofs.lemmas.Bool.{eqb-true, and_parts, false_from_ne_true}
use Rattle.ocr_guid.specs.Target.{EventCall}
use Rattle.ocr_acquire.specs.declared.Mode.{Mode}
use Rattle.ocr_acquire.specs.declared.Mode.TheVariants as mode
use Rattle.ocr_acquire.specs.Mode.{is_exclusive, mode_in, together, is_isolated}
use Rattle.ocr_slots.specs.Slots as slot
use Rattle.ocr_datablock.specs.Block as block
use Rattle.ocr_datablock.specs.Lent.{Loan, loan_of}
use Rattle.ocr_datablock.proofs.Laws.{holders_law, loan_law}
use Rattle.ocr_datablock.proofs.Lines.{holders_together}
use Rattle.ocr_edt.specs.Edt as edt
use Rattle.ocr_body_meaning.specs.Holds.{is_done}
use Rattle.ocr_body_meaning.specs.declared.call.Call as body
use Rattle.ocr_body_meaning.specs.declared.call.Call.TheVariants as call
use Rattle.ocr_body_meaning.specs.declared.call.Answer.{Answer}
use Rattle.ocr_machine_history.specs.declared.entry.Entry.{Entry}
use Rattle.ocr_machine_history.specs.declared.entry.Entry.TheVariants.{Call, Acquire, Wait, Free}
use Rattle.ocr_machine_history.specs.History.{History, Setting}
use Rattle.ocr_machine_history.specs.Made.{Made, MadeBlock, MadeEdt, made, is_new, size_in, creator_in}
use Rattle.ocr_machine_parts.specs.declared.loans.Kept.{Kept}
use Rattle.ocr_machine_parts.specs.declared.part.Part.{Part}
use Rattle.ocr_machine_parts.specs.declared.part.Part.TheVariants as part
use Rattle.ocr_machine_parts.specs.Loans.{kept_in, with_kept, without_kept, loan_in, given_loan, kept_created}
use Rattle.ocr_machine_parts.specs.Calls.{is_holding, is_number, next_mode, ask_calls, lend_calls, grant_calls, return_calls, end_calls, doom_calls, block_step, block_calls, contents_of, kept_now, loan_step, loans_of, edt_calls, link_calls, event_calls, scope_calls}
use Rattle.ocr_machine_parts.specs.Parts.{face, core, parts_of, identity_of}
use Rattle.ocr_machine_parts.specs.Kinds.{IsBlock, is_running, mode_on, kept_on}
use Rattle.ocr_machine_parts.specs.LegalOn.{IsShared}
use Rattle.ocr_machine_parts.specs.Legal.{IsRun, IsLegal}
use Rattle.ocr_machine_parts.proofs.Allowed.{allowed_law}
use Rattle.ocr_machine_parts.proofs.Blocks.{borrower_is, asked_contents}
use Rattle.ocr_machine_parts.proofs.Lent.{kept_after_put, loan_kept}
use Rattle.ocr_machine_laws.specs.Waits.{held_on}
use Rattle.ocr_machine_parts.proofs.Fresh.{made_old}
use Rattle.ocr_machine_laws.proofs.Permanence.{not_new}
use Rattle.ocr_machine_laws.specs.Held.{IsLoanKept, IsKeptWith, IsHeldSo, loans_on, AreKeptOnce}
use Rattle.ocr_machine_laws.specs.Permanence.{is_own}
use Rattle.ocr_machine_laws.specs.Found.{found, FoundLaw, UnchangedLaw}
use Rattle.ocr_machine_laws.proofs.Entries.{without_once}
use Rattle.ocr_machine_laws.proofs.Held.{holding_law}
use Rattle.ocr_machine_laws.proofs.Said.{stores_in_rw}
use Rattle.ocr_machine_laws.proofs.Works.{so_held}
use Rattle.ocr_finish.specs.Scope.{ScopeCall}
use Rattle.ocr_edt.specs.declared.Identity.{Identity}

-- A LOAN began with these words, where there is one
abbrev BeganWith : List ℕ → Option Loan → Type 0
BeganWith words None = Unit {0}
BeganWith words (Some l) = l.began ≡ words

abbrev IsFoundIn : List ℕ → Option Kept → Type 0
IsFoundIn words None = Unit {0}
IsFoundIn words (Some kept) = BeganWith words kept.loan

given_began : (m : Mode) (words : List ℕ) → BeganWith words (given_loan m words)
given_began m words = elim (is_isolated m) as (λ b. BeganWith words (if b then Some (loan_of m words []) else None)) [ true ↦ refl | false ↦ tt ]

running_loans : (m : Option Made) (i : Identity) (calls : List edt.EdtCall) (loans : List (ℕ × Kept)) → is_running (core m i calls loans) ≡ true → AreKeptOnce (loans_on (core m i calls loans)) → AreKeptOnce loans
running_loans (Some (MadeEdt f ps n)) i calls loans is once = once
running_loans other i calls loans is once = cc is

once_at : (s : Setting) (past : History) (u t : ℕ) → IsRun s past → is_running ((parts_of s past).core u) ≡ true → (u == t) ≡ true → AreKeptOnce (loans_of s past t)
once_at s past u t run running here =
    let is : is_running ((parts_of s past).core t) ≡ true = subst (λ (n : ℕ). is_running ((parts_of s past).core n) ≡ true) (eqb-true u t here) running in
    running_loans (made s past t) (identity_of past t) (edt_calls s past t) (loans_of s past t) is ((holding_law s past run).once t)

-- a block that is given back
dropped_found : (words : List ℕ) (e d : ℕ) (loans : List (ℕ × Kept)) → AreKeptOnce loans → IsFoundIn words (kept_in d loans) → IsFoundIn words (kept_in d (without_kept e loans))
dropped_found words e d loans once is = elim (e == d) as (λ b. (e == d) ≡ b → IsFoundIn words (kept_in d (without_kept e loans))) [
  | true ↦ λ here.
      let none : kept_in d (without_kept e loans) ≡ None = subst (λ (n : ℕ). kept_in d (without_kept n loans) ≡ None) (sym (eqb-true e d here)) (without_once d loans once) in
      subst (IsFoundIn words) (sym none) tt
  | false ↦ λ apart. subst (IsFoundIn words) (sym (loan_kept e d loans apart)) is
] refl

dropped_if : (words : List ℕ) (b : Bool) (e d : ℕ) (loans : List (ℕ × Kept)) → (b ≡ true → AreKeptOnce loans) → IsFoundIn words (kept_in d loans) → IsFoundIn words (kept_in d (if b then without_kept e loans else loans))
dropped_if words true e d loans once is = dropped_found words e d loans (once refl) is
dropped_if words false e d loans once is = is

added_if : (words : List ℕ) (b : Bool) (e n d : ℕ) (loans : List (ℕ × Kept)) → IsFoundIn words (kept_in d loans) → IsFoundIn words (kept_in d (if b then with_kept e (kept_created n) loans else loans))
added_if words true e n d loans is = subst (IsFoundIn words) (sym (kept_after_put e d (kept_created n) loans)) (elim (e == d) as (λ b. IsFoundIn words (if b then Some (kept_created n) else kept_in d loans)) [ true ↦ tt | false ↦ is ])
added_if words false e n d loans is = is

new_found : (words : List ℕ) (b : Bool) (d : ℕ) (loans : List (ℕ × Kept)) → IsFoundIn words (kept_in d loans) → IsFoundIn words (kept_in d (if b then [] else loans))
new_found words true d loans is = tt
new_found words false d loans is = is

step_found : (s : Setting) (past : History) (by : ℕ) (c : body.Call) (a : Answer) (t d : ℕ) (words : List ℕ) → IsRun s past → is_running ((parts_of s past).core by) ≡ true → IsFoundIn words (kept_in d (loans_of s past t)) → IsFoundIn words (kept_in d (loan_step by c a t (loans_of s past t)))
step_found s past by (call.DbCreate n fl) a t d words run running is = added_if words (is_holding by fl a t) a.value (n / 8) d (loans_of s past t) is
step_found s past by (call.DbRelease e) a t d words run running is = dropped_if words (is_done a.code && (by == t)) e d (loans_of s past t) (λ on. once_at s past by t run running (and_parts (is_done a.code) (by == t) on).1) is
step_found s past by (call.DbDestroy e) a t d words run running is = dropped_if words (is_done a.code && (by == t)) e d (loans_of s past t) (λ on. once_at s past by t run running (and_parts (is_done a.code) (by == t) on).1) is
step_found s past by other a t d words run running is = is

acquired_found : (s : Setting) (past : History) (u t b d : ℕ) (own : Bool) → IsFoundIn (found s past t d) (kept_in d (loans_of s past t))
    → IsFoundIn (if own && (b == d) then contents_of s past d else found s past t d) (kept_in d (if own then with_kept b (kept_now s past u b) (loans_of s past t) else loans_of s past t))
acquired_found s past u t b d true is = subst (IsFoundIn (if b == d then contents_of s past d else found s past t d)) (sym (kept_after_put b d (kept_now s past u b) (loans_of s past t))) (elim (b == d) as (λ c. (b == d) ≡ c → IsFoundIn (if c then contents_of s past d else found s past t d) (if c then Some (kept_now s past u b) else kept_in d (loans_of s past t))) [
  | true ↦ λ here. subst (λ (n : ℕ). BeganWith (contents_of s past n) (given_loan (next_mode s past u) (contents_of s past b))) (eqb-true b d here) (given_began (next_mode s past u) (contents_of s past b))
  | false ↦ λ _. is
] refl)
acquired_found s past u t b d false is = is

began : (s : Setting) (past : History) (t d : ℕ) → IsRun s past → IsFoundIn (found s past t d) (kept_in d (loans_of s past t))
began s [] t d run = tt
began s (Call by home c a w ∷ past) t d run =
    new_found (found s past t d) (is_new c a t) d (loan_step by c a t (loans_of s past t)) (step_found s past by c a t d (found s past t d) run.0 run.1.on_parts.running (began s past t d run.0))
began s (Acquire u b ∷ past) t d run = acquired_found s past u t b d (u == t) (began s past t d run.0)
began s (Free u b w ∷ past) t d run = dropped_if (found s past t d) (u == t) b d (loans_of s past t) (λ here. once_at s past u t run.0 run.1.on_parts.running here) (began s past t d run.0)
began s (other ∷ past) t d run = began s past t d run.0

-- WHAT THE CORE KEEPS
kept_there : (m : Option Made) (i : Identity) (d : ℕ) (calls : List edt.EdtCall) (loans : List (ℕ × Kept)) (k : Kept) → kept_on (core m i calls loans) d ≡ Some k → kept_in d loans ≡ Some k
kept_there (Some (MadeEdt f ps n)) i d calls loans k is = is
kept_there other i d calls loans k is = cc is

loan_found : (t : ℕ) (m : Mode) (words : List ℕ) (o : Option Loan) (st : block.State) → IsLoanKept t m o st → is_isolated m ≡ true → BeganWith words o → o ≡ Some (loan_of m words [])
loan_found t m words None st unlent isolated is = absurd (let off = unlent.shared in cc (isolated, off))
loan_found t m words (Some l) st of isolated is = ap (λ (k : Loan). Some k) of.fresh ∙ ap (λ (ws : List ℕ). Some (loan_of m ws [])) is

block_found : (t : ℕ) (m : Mode) (words : List ℕ) (kept : Kept) (x : Part) → IsBlock x (IsKeptWith t m kept) → is_isolated m ≡ true → BeganWith words kept.loan → kept.loan ≡ Some (loan_of m words [])
block_found t m words kept (part.Block st) is isolated with_it = loan_found t m words kept.loan st is.loan isolated with_it
block_found t m words kept other is isolated with_it = absurd is

-- what is held is kept with
pub kept_with : (s : Setting) (past : History) (t d : ℕ) (m : Mode) → IsRun s past → mode_in d (held_on ((parts_of s past).core t)) ≡ Some m
    → (kept : Kept) × (kept_on ((parts_of s past).core t) d ≡ Some kept) × IsBlock ((parts_of s past).face d) (IsKeptWith t m kept)
kept_with s past t d m run is =
    let y : Part = (parts_of s past).core t in
    so_held t d m ((parts_of s past).face d) (kept_on y d) (subst (λ (o : Option Mode). IsHeldSo t ((parts_of s past).face d) o (kept_on y d)) is ((holding_law s past run).so t d))

pub found_law : FoundLaw
found_law s past t d m run held isolated =
    let with_it = kept_with s past t d m run held in
    let here : kept_in d (loans_of s past t) ≡ Some with_it.0 = kept_there (made s past t) (identity_of past t) d (edt_calls s past t) (loans_of s past t) with_it.0 with_it.1 in
    let is : BeganWith (found s past t d) with_it.0.loan = subst (IsFoundIn (found s past t d)) here (began s past t d run) in
    ap loan_in with_it.1 ∙ block_found t m (found s past t d) with_it.0 ((parts_of s past).face d) with_it.2 isolated is

-- WHILE A BLOCK IS HELD in EW or CONST no other EDT writes it
record IsHeldIn (md : Option Made) (blocks : List block.BlockCall) (t : ℕ) (m : Mode) : Type 0 where
  there : md ≡ None → ⊥
  holder : mode_in t (block.holders_of (creator_in md) blocks) ≡ Some m

held_block : (md : Option Made) (links : List slot.SlotCall) (blocks : List block.BlockCall) (events : List EventCall) (scopes : List ScopeCall) (t : ℕ) (m : Mode) (kept : Kept) → IsBlock (face md links blocks events scopes) (IsKeptWith t m kept) → IsHeldIn md blocks t m
held_block (Some (MadeBlock n c)) links blocks events scopes t m kept is = record { there = λ none. cc none; holder = is.holder }
held_block other links blocks events scopes t m kept is = absurd is

shared_holder : (md : Option Made) (links : List slot.SlotCall) (blocks : List block.BlockCall) (events : List EventCall) (scopes : List ScopeCall) (t k : ℕ) (m : Mode) (o : Option Mode) → o ≡ Some m → IsBlock (face md links blocks events scopes) (IsShared t k o)
    → mode_in t (block.holders_of (creator_in md) blocks) ≡ Some m
shared_holder (Some (MadeBlock n c)) links blocks events scopes t k m o held is = sym is.same ∙ held
shared_holder other links blocks events scopes t k m o held is = absurd is

alone_other : (by t : ℕ) (m : Mode) → (by == t) ≡ false → mode_in t ((by, mode.Ew) ∷ []) ≡ Some m → ⊥
alone_other by t m apart held = elim (by == t) as (λ b. b ≡ false → ◌≡◌ {A = Option Mode} (if b then Some mode.Ew else None) (Some m) → ⊥) [ true ↦ λ off _. cc off | false ↦ λ _ is. cc is ] apart held

-- no other EDT has its words on loan
not_back : (s : Setting) (past : History) (by t d : ℕ) (m : Mode) → IsRun s past → IsHeldIn (made s past d) (block_calls s past d) t m → (by == t) ≡ false → is_number by (block.borrower_of (block_calls s past d)) ≡ false
not_back s past by t d m run held apart = false_from_ne_true (is_number by (block.borrower_of (block_calls s past d))) (λ on.
    let alone = (loan_law (size_in (made s past d)) (creator_in (made s past d)) (block_calls s past d) by (allowed_law s past run d) (borrower_is by (block.borrower_of (block_calls s past d)) on)).0 in
    alone_other by t m apart (sym (ap (mode_in t) alone) ∙ held.holder))

-- and none stores in it
writes_beside : (m : Mode) → is_isolated m ≡ true → together mode.Rw m ≡ false
writes_beside mode.Ew is = refl
writes_beside mode.Const is = refl
writes_beside other is = cc is

no_store : (s : Setting) (past : History) (by home b k v : ℕ) (a : Answer) (w : List (ℕ × ℕ)) (t d : ℕ) (m : Mode) → IsRun s past → IsLegal s past (Call by home (call.Store b k v) a w) → IsHeldIn (made s past d) (block_calls s past d) t m → is_isolated m ≡ true → (by == t) ≡ false
    → (b == d) ≡ true → ⊥
no_store s past by home b k v a w t d m run legal held isolated apart here =
    let writes : mode_in by (block.holders_of (creator_in (made s past b)) (block_calls s past b)) ≡ Some mode.Rw =
    shared_holder (made s past b) (link_calls past b) (block_calls s past b) (event_calls s past b) (scope_calls past b) by k mode.Rw (mode_on ((parts_of s past).core by) b) (stores_in_rw s past by home b k v a w run legal) legal.on_parts.value.0 in
    let at : mode_in by (block.holders_of (creator_in (made s past d)) (block_calls s past d)) ≡ Some mode.Rw =
    subst (λ (g : ℕ). mode_in by (block.holders_of (creator_in (made s past g)) (block_calls s past g)) ≡ Some mode.Rw) (eqb-true b d here) writes in
    let on : together mode.Rw m ≡ true = holders_together by t mode.Rw m (block.holders_of (creator_in (made s past d)) (block_calls s past d)) (holders_law (creator_in (made s past d)) (block_calls s past d)) apart at held.holder in
    let off : together mode.Rw m ≡ false = writes_beside m isolated in
    cc (on, off)

returned_same : (n by : ℕ) (w : List (ℕ × ℕ)) (calls : List block.BlockCall) → is_number by (block.borrower_of calls) ≡ false → block.contents n (return_calls by w calls) ≡ block.contents n calls
returned_same n by w calls off = rw off refl

ended_if : (n by : ℕ) (w : List (ℕ × ℕ)) (calls : List block.BlockCall) (b : Bool) → is_number by (block.borrower_of calls) ≡ false → block.contents n (if b then end_calls by w calls else calls) ≡ block.contents n calls
ended_if n by w calls true off = returned_same n by w calls off
ended_if n by w calls false off = refl

doomed_if : (n by : ℕ) (w : List (ℕ × ℕ)) (calls : List block.BlockCall) (b : Bool) → is_number by (block.borrower_of calls) ≡ false → block.contents n (if b then doom_calls by w calls else calls) ≡ block.contents n calls
doomed_if n by w calls true off = returned_same n by w calls off
doomed_if n by w calls false off = refl

step_same : (s : Setting) (past : History) (by home : ℕ) (c : body.Call) (a : Answer) (w : List (ℕ × ℕ)) (t d n : ℕ) (m : Mode) → IsRun s past → IsLegal s past (Call by home c a w) → IsHeldIn (made s past d) (block_calls s past d) t m → is_isolated m ≡ true → (by == t) ≡ false
    → block.contents n (block_step by c a w d (block_calls s past d)) ≡ block.contents n (block_calls s past d)
step_same s past by home (call.DbRelease b) a w t d n m run legal held isolated apart = ended_if n by w (block_calls s past d) (is_done a.code && (b == d)) (not_back s past by t d m run held apart)
step_same s past by home (call.DbDestroy b) a w t d n m run legal held isolated apart = doomed_if n by w (block_calls s past d) (is_done a.code && (b == d)) (not_back s past by t d m run held apart)
step_same s past by home (call.Store b k v) a w t d n m run legal held isolated apart = elim (is_done a.code && (b == d)) as (λ c. (is_done a.code && (b == d)) ≡ c → block.contents n (if c then block.Store k v ∷ block_calls s past d else block_calls s past d) ≡ block.contents n (block_calls s past d)) [
  | true ↦ λ on. absurd (no_store s past by home b k v a w t d m run legal held isolated apart (and_parts (is_done a.code) (b == d) on).1)
  | false ↦ λ _. refl
] refl
step_same s past by home other a w t d n m run legal held isolated apart = refl

pub lend_same : (n t : ℕ) (m : Mode) (calls : List block.BlockCall) → block.contents n (lend_calls t m calls) ≡ block.contents n calls
lend_same n t m calls = elim (is_exclusive m) as (λ b. block.contents n (if b then block.Lend t ∷ calls else calls) ≡ block.contents n calls) [ true ↦ refl | false ↦ refl ]

pub granted_if : (n c t : ℕ) (m : Mode) (calls : List block.BlockCall) (b : Bool) → block.contents n (if b then grant_calls t m c calls else calls) ≡ block.contents n calls
granted_if n c t m calls true = lend_same n t m (ask_calls t m c calls) ∙ asked_contents n c calls t m
granted_if n c t m calls false = refl

pub asked_same : (n t : ℕ) (m : Mode) (calls : List block.BlockCall) (b : Bool) → block.contents n (if b then block.Ask t m ∷ calls else calls) ≡ block.contents n calls
asked_same n t m calls true = refl
asked_same n t m calls false = refl

pub unchanged_law : UnchangedLaw
unchanged_law s past e t d m run legal held isolated apart =
    let with_it = kept_with s past t d m run held in
    by_entry e legal apart (held_block (made s past d) (link_calls past d) (block_calls s past d) (event_calls s past d) (scope_calls past d) t m with_it.0 with_it.2)
  where
    by_entry : (e : Entry) → IsLegal s past e → is_own e t ≡ false → IsHeldIn (made s past d) (block_calls s past d) t m → contents_of s (e ∷ past) d ≡ contents_of s past d
    by_entry (Call by home c a w) legal apart held =
        let off : is_new c a d ≡ false = not_new s past by home c a w d legal.on_parts held.there in
        let size : size_in (made s (Call by home c a w ∷ past) d) ≡ size_in (made s past d) = ap size_in (made_old s past by home c a w d off) in
        let calls : block_calls s (Call by home c a w ∷ past) d ≡ block_step by c a w d (block_calls s past d) = rw off refl in
        ap (λ (n : ℕ). block.contents n (block_calls s (Call by home c a w ∷ past) d)) size
        ∙ ap (block.contents (size_in (made s past d))) calls
        ∙ step_same s past by home c a w t d (size_in (made s past d)) m run legal held isolated apart
    by_entry (Acquire u b) legal apart held = granted_if (size_in (made s past d)) (creator_in (made s past d)) u (next_mode s past u) (block_calls s past d) (b == d)
    by_entry (Wait u b) legal apart held = asked_same (size_in (made s past d)) u (next_mode s past u) (block_calls s past d) (b == d)
    by_entry (Free u b w) legal apart held = ended_if (size_in (made s past d)) u w (block_calls s past d) (b == d) (not_back s past u t d m run held apart)
    by_entry other legal apart held = refl
