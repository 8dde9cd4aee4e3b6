-- What a run does to a block is what the block allows.
use Rattle.std.proofs.Common.{◌≡◌, ◌<◌, ◌≤◌, ℕ, ◌+◌, List, [], ◌∷◌, ◌++◌, length, Bool, true, false, Option, Some, None, ◌==◌, ◌&&◌, ◌⊎◌, inl, inr, if◌then◌else◌, refl, sym, ◌∙◌, ap, subst, is_some, arith, rules}
use Rattle.std.proofs.lemmas.Bool.{eqb-true, and_parts}
use Rattle.std.proofs.lemmas.List.{append-nil, append_assoc}
use Rattle.ocr_guid.specs.Target.{EventCall}
use Rattle.ocr_acquire.specs.declared.Mode.{Mode}
use Rattle.ocr_acquire.specs.declared.Mode.TheVariants as mode
use Rattle.ocr_acquire.specs.Mode.{fits_all, is_exclusive, mode_in}
use Rattle.ocr_slots.specs.Slots as slot
use Rattle.ocr_machine_history.specs.declared.objects.TheConstants.{ARGUMENTS}
use Rattle.ocr_datablock.specs.Block as block
use Rattle.ocr_datablock.specs.Lent.{Loan}
use Rattle.ocr_datablock.proofs.Laws.{loan_law}
use Rattle.ocr_datablock.proofs.Lines.{never_with_writer}
use Rattle.ocr_body_meaning.specs.declared.call.Call as body
use Rattle.ocr_body_meaning.specs.declared.call.Call.TheVariants as call
use Rattle.ocr_body_meaning.specs.declared.call.Answer.{Answer}
use Rattle.ocr_machine_history.specs.declared.entry.Entry.TheVariants.{Call, Acquire, Wait, Free}
use Rattle.ocr_machine_history.specs.History.{History, Setting}
use Rattle.ocr_machine_history.specs.Made.{Made, MadeBlock, made, is_new, size_in, creator_in}
use Rattle.ocr_machine_parts.specs.Calls.{is_number, ask_calls, lend_calls, end_calls, block_calls, link_calls, stores_from, argument_words, next_member, mode_next, doom_calls, event_calls, scope_calls}
use Rattle.ocr_machine_parts.specs.Parts.{face, parts_of}
use Rattle.ocr_machine_parts.specs.LegalOn.{IsHeld, IsShared, IsTaken, IsRefused, IsGranted, IsNewcomer, IsAgreed, IsCallOn}
use Rattle.ocr_machine_parts.specs.Laws.{AllowedLaw, FreeLaw}
use Rattle.ocr_machine_parts.proofs.Blocks.{borrower_is, asked_held}
use Rattle.ocr_machine_parts.proofs.Fresh.{made_old}
use Rattle.ocr_machine_parts.proofs.After.{mode_is, not_stale, no_other, done_is}
use Rattle.ocr_datablock.specs.Steps.{AreAllowed}
use Rattle.ocr_body_meaning.specs.Holds.{is_done}
use Rattle.ocr_machine_parts.specs.Kinds.{IsBlock, is_destroyed}
use Rattle.ocr_finish.specs.Scope.{ScopeCall}
use Rattle.ocr_machine_parts.proofs.Lent.{exclusive_is}

abbrev Are : Option Made → List block.BlockCall → Type 0
Are m calls = AreAllowed (size_in m) (creator_in m) calls

are_if : (b : Bool) (m : Option Made) (x y : List block.BlockCall) → (b ≡ true → Are m x) → Are m y → Are m (if b then x else y)
are_if true m x y one other = one refl
are_if false m x y one other = other

new_are : (b : Bool) (m n : Option Made) (calls : List block.BlockCall) → (b ≡ false → m ≡ n) → Are n calls → Are m (if b then [] else calls)
new_are true m n calls old are = tt
new_are false m n calls old are = subst (λ (k : Option Made). Are k calls) (sym (old refl)) are

-- THE OPENING
stores_are : (xs : List ℕ) (k n c : ℕ) (ys : List block.BlockCall) → k + length xs ≤ n → AreAllowed n c ys → block.borrower_of ys ≡ None → AreAllowed n c (stores_from k xs ++ ys)
stores_are [] k n c ys le are none = are
stores_are (v ∷ rest) k n c ys le are none =
    let here : k < n = omega (arith, le) in
    let more : (k + 1) + length rest ≤ n = omega (arith, le) in
    subst (AreAllowed n c) (sym (append_assoc (stores_from (k + 1) rest) (block.Store k v ∷ []) ys))
    (stores_are rest (k + 1) n c (block.Store k v ∷ ys) more (are, (here, none)) none)

opened_are : (s : Setting) (d : ℕ) (b : Bool) (other : Option Made) → Are (if b then Some (MadeBlock (length s.args + 1) 0) else other) (if b then stores_from 0 (argument_words s) else [])
opened_are s d true other = subst (AreAllowed (length s.args + 1) 0) (append-nil (stores_from 0 (argument_words s))) (stores_are (argument_words s) 0 (length s.args + 1) 0 [] (omega arith) tt refl)
opened_are s d false other = tt

-- A HOLD ENDS
not_number : (t : ℕ) (o : Option ℕ) → is_number t o ≡ false → o ≡ Some t → ⊥
not_number t o off is = let on : is_number t o ≡ true = ap (is_number t) is ∙ search rules in cc (off, on)

end_are : (m : Option Made) (links : List slot.SlotCall) (blocks : List block.BlockCall) (events : List EventCall) (scopes : List ScopeCall) (t : ℕ) (w : List (ℕ × ℕ)) (mo : Option Mode) (loan : Option Loan) → IsBlock (face m links blocks events scopes) (IsHeld t mo loan)
    → Are m blocks → Are m (end_calls t w blocks)
end_are (Some (MadeBlock n c)) links blocks events scopes t w mo loan held are =
    elim (is_number t (block.borrower_of blocks)) as (λ b. is_number t (block.borrower_of blocks) ≡ b → AreAllowed n c (block.Release t ∷ (if b then block.TakeBack t w ∷ blocks else blocks))) [
      | true ↦ λ is. ((are, borrower_is t (block.borrower_of blocks) is), (held.holder, λ no. cc no))
      | false ↦ λ off. (are, (held.holder, not_number t (block.borrower_of blocks) off))
    ] refl
end_are other links blocks events scopes t w mo loan held are = absurd held

doom_are : (m : Option Made) (links : List slot.SlotCall) (blocks : List block.BlockCall) (events : List EventCall) (scopes : List ScopeCall) (t : ℕ) (w : List (ℕ × ℕ)) (mo : Option Mode) (loan : Option Loan) → IsBlock (face m links blocks events scopes) (IsAgreed t mo loan)
    → is_destroyed (face m links blocks events scopes) ≡ false → Are m blocks → Are m (doom_calls t w blocks)
doom_are (Some (MadeBlock n c)) links blocks events scopes t w mo loan held live are =
    elim (is_number t (block.borrower_of blocks)) as (λ b. is_number t (block.borrower_of blocks) ≡ b → AreAllowed n c (block.Doom t ∷ (if b then block.TakeBack t w ∷ blocks else blocks))) [
      | true ↦ λ is. ((are, borrower_is t (block.borrower_of blocks) is), (live, λ no. cc no))
      | false ↦ λ off. (are, (live, not_number t (block.borrower_of blocks) off))
    ] refl
doom_are other links blocks events scopes t w mo loan held live are = absurd held

-- A STORE
store_are : (m : Option Made) (links : List slot.SlotCall) (blocks : List block.BlockCall) (events : List EventCall) (scopes : List ScopeCall) (t k v : ℕ) (mo : Option Mode) → IsBlock (face m links blocks events scopes) (IsShared t k mo) → Are m blocks → Are m (block.Store k v ∷ blocks)
store_are (Some (MadeBlock n c)) links blocks events scopes t k v mo held are = (are, (held.exists, held.not_lent))
store_are other links blocks events scopes t k v mo held are = absurd held

-- A BLOCK IS GRANTED

none_from : (o : Option Mode) → is_some o ≡ false → o ≡ None
none_from None is = refl
none_from (Some m) is = cc

-- it is held already, or can be granted
held_here : (t : ℕ) (m : Mode) (st : block.State) → is_some (mode_in t st.holders) ≡ true → (mode_in t st.holders ≡ Some m) ⊎ IsGranted t m st → mode_in t st.holders ≡ Some m
held_here t m st is (inl held) = held
held_here t m st is (inr free) = absurd (let off : is_some (mode_in t st.holders) ≡ false = ap (λ (p : Option Mode). is_some p) free.newcomer.no_holder in cc (is, off))

free_there : (t : ℕ) (m : Mode) (st : block.State) → is_some (mode_in t st.holders) ≡ false → (mode_in t st.holders ≡ Some m) ⊎ IsGranted t m st → IsNewcomer t m st
free_there t m st off (inl held) = absurd (let is : is_some (mode_in t st.holders) ≡ true = ap (λ (p : Option Mode). is_some p) held in cc (is, off))
free_there t m st off (inr free) = free.newcomer

lend_are : (n c : ℕ) (calls : List block.BlockCall) (t : ℕ) (m : Mode) → AreAllowed n c calls → mode_in t (block.holders_of c calls) ≡ Some m → block.borrower_of calls ≡ None → AreAllowed n c (lend_calls t m calls)
lend_are n c calls t m are held none = elim (is_exclusive m) as (λ b. is_exclusive m ≡ b → AreAllowed n c (if b then block.Lend t ∷ calls else calls)) [
  | true ↦ λ ew. (are, (held ∙ ap (λ (k : Mode). Some k) (exclusive_is m ew), none))
  | false ↦ λ _. are
] refl

taken_are : (made : Option Made) (links : List slot.SlotCall) (blocks : List block.BlockCall) (events : List EventCall) (scopes : List ScopeCall) (t : ℕ) (m : Mode) → IsBlock (face made links blocks events scopes) (IsTaken t m) → Are made blocks → Are made (lend_calls t m (ask_calls t m (creator_in made) blocks))
taken_are (Some (MadeBlock n c)) links blocks events scopes t m taken are =
    elim (is_some (mode_in t (block.holders_of c blocks))) as (λ b. is_some (mode_in t (block.holders_of c blocks)) ≡ b → AreAllowed n c (lend_calls t m (if b then blocks else block.Ask t m ∷ blocks))) [
      | true ↦ λ here. lend_are n c blocks t m are (held_here t m (block.state_of n c blocks) here taken.fit) taken.not_lent
      | false ↦ λ off.
          let none : mode_in t (block.holders_of c blocks) ≡ None = none_from _ off in
          let free = free_there t m (block.state_of n c blocks) off taken.fit in
          lend_are n c (block.Ask t m ∷ blocks) t m (are, (none, free.not_waiting, free.some_mode)) (asked_held t m (block.state_of n c blocks) taken none) taken.not_lent
    ] refl
taken_are other links blocks events scopes t m taken are = absurd taken

refused_are : (made : Option Made) (links : List slot.SlotCall) (blocks : List block.BlockCall) (events : List EventCall) (scopes : List ScopeCall) (t : ℕ) (m : Mode) → IsBlock (face made links blocks events scopes) (IsRefused t m) → Are made blocks → Are made (block.Ask t m ∷ blocks)
refused_are (Some (MadeBlock n c)) links blocks events scopes t m refused are = (are, (refused.newcomer.no_holder, refused.newcomer.not_waiting, refused.newcomer.some_mode))
refused_are other links blocks events scopes t m refused are = absurd refused

called_are : (s : Setting) (past : History) (t home : ℕ) (c : body.Call) (a : Answer) (w : List (ℕ × ℕ)) (d : ℕ) → IsCallOn s.limit (parts_of s past) t home c a w → Are (made s past d) (block_calls s past d)
    → Are (made s (Call t home c a w ∷ past) d) (block_calls s (Call t home c a w ∷ past) d)
called_are s past t home (call.DbCreate n fl) a w d legal are = new_are (is_new (call.DbCreate n fl) a d) _ (made s past d) (block_calls s past d) (made_old s past t home (call.DbCreate n fl) a w d) are
called_are s past t home (call.TemplateCreate f pc dc) a w d legal are = new_are (is_new (call.TemplateCreate f pc dc) a d) _ (made s past d) (block_calls s past d) (made_old s past t home (call.TemplateCreate f pc dc) a w d) are
called_are s past t home (call.EdtCreate from pc ps dc ds fl o) a w d legal are = new_are (is_new (call.EdtCreate from pc ps dc ds fl o) a d) _ (made s past d) (block_calls s past d) (made_old s past t home (call.EdtCreate from pc ps dc ds fl o) a w d) are
called_are s past t home (call.DbRelease b) a w d legal are =
    are_if (is_done a.code && (b == d)) (made s past d) (end_calls t w (block_calls s past d)) (block_calls s past d)
    (λ here. let e : b ≡ d = eqb-true b d (and_parts (is_done a.code) (b == d) here).1 in
    subst (λ (n : ℕ). Are (made s past n) (block_calls s past n) → Are (made s past n) (end_calls t w (block_calls s past n))) e
    (end_are (made s past b) (link_calls past b) (block_calls s past b) (event_calls s past b) (scope_calls past b) t w _ _ (legal.value.0 (and_parts (is_done a.code) (b == d) here).0)) are) are
called_are s past t home (call.DbDestroy b) a w d legal are =
    are_if (is_done a.code && (b == d)) (made s past d) (doom_calls t w (block_calls s past d)) (block_calls s past d)
    (λ here. let e : b ≡ d = eqb-true b d (and_parts (is_done a.code) (b == d) here).1 in
    let on : is_done a.code ≡ true = (and_parts (is_done a.code) (b == d) here).0 in
    subst (λ (n : ℕ). Are (made s past n) (block_calls s past n) → Are (made s past n) (doom_calls t w (block_calls s past n))) e
    (doom_are (made s past b) (link_calls past b) (block_calls s past b) (event_calls s past b) (scope_calls past b) t w _ _ (legal.value.0 on)
    (no_other (is_destroyed ((parts_of s past).face b)) (not_stale t (parts_of s past).face (call.DbDestroy b) (sym legal.code ∙ done_is a.code on)))) are) are
called_are s past t home (call.Store b k v) a w d legal are =
    are_if (is_done a.code && (b == d)) (made s past d) (block.Store k v ∷ block_calls s past d) (block_calls s past d)
    (λ here. let e : b ≡ d = eqb-true b d (and_parts (is_done a.code) (b == d) here).1 in
    subst (λ (n : ℕ). Are (made s past n) (block_calls s past n) → Are (made s past n) (block.Store k v ∷ block_calls s past n)) e
    (store_are (made s past b) (link_calls past b) (block_calls s past b) (event_calls s past b) (scope_calls past b) t k v _ legal.value.0) are) are
called_are s past t home (call.EventCreate k fl) a w d legal are = new_are (is_new (call.EventCreate k fl) a d) _ (made s past d) (block_calls s past d) (made_old s past t home (call.EventCreate k fl) a w d) are
called_are s past t home (call.EventCreateParams k fl gen sat deps) a w d legal are = new_are (is_new (call.EventCreateParams k fl gen sat deps) a d) _ (made s past d) (block_calls s past d) (made_old s past t home (call.EventCreateParams k fl gen sat deps) a w d) are
called_are s past t home other a w d legal are = are

pub allowed_law : AllowedLaw
allowed_law s [] run d = opened_are s d (d == ARGUMENTS) _
allowed_law s (Call t home c a w ∷ past) run d = called_are s past t home c a w d run.1.on_parts (allowed_law s past run.0 d)
allowed_law s (Acquire t b ∷ past) run d =
    let m = mode_next (next_member s past t) in
    are_if (b == d) (made s past d) (lend_calls t m (ask_calls t m (creator_in (made s past d)) (block_calls s past d))) (block_calls s past d)
    (λ here. subst (λ (n : ℕ). Are (made s past n) (block_calls s past n) → Are (made s past n) (lend_calls t m (ask_calls t m (creator_in (made s past n)) (block_calls s past n)))) (eqb-true b d here)
    (taken_are (made s past b) (link_calls past b) (block_calls s past b) (event_calls s past b) (scope_calls past b) t m
    (subst (λ (k : Mode). IsBlock ((parts_of s past).face b) (IsTaken t k)) (sym (mode_is s past t _ run.1.on_parts.next)) run.1.on_parts.taken)) (allowed_law s past run.0 d))
    (allowed_law s past run.0 d)
allowed_law s (Wait t b ∷ past) run d =
    let m = mode_next (next_member s past t) in
    are_if (b == d) (made s past d) (block.Ask t m ∷ block_calls s past d) (block_calls s past d)
    (λ here. subst (λ (n : ℕ). Are (made s past n) (block_calls s past n) → Are (made s past n) (block.Ask t m ∷ block_calls s past n)) (eqb-true b d here)
    (refused_are (made s past b) (link_calls past b) (block_calls s past b) (event_calls s past b) (scope_calls past b) t m
    (subst (λ (k : Mode). IsBlock ((parts_of s past).face b) (IsRefused t k)) (sym (mode_is s past t _ run.1.on_parts.next)) run.1.on_parts.refused)) (allowed_law s past run.0 d))
    (allowed_law s past run.0 d)
allowed_law s (Free t b w ∷ past) run d =
    are_if (b == d) (made s past d) (end_calls t w (block_calls s past d)) (block_calls s past d)
    (λ here. subst (λ (n : ℕ). Are (made s past n) (block_calls s past n) → Are (made s past n) (end_calls t w (block_calls s past n))) (eqb-true b d here)
    (end_are (made s past b) (link_calls past b) (block_calls s past b) (event_calls s past b) (scope_calls past b) t w _ _ run.1.on_parts.held) (allowed_law s past run.0 d))
    (allowed_law s past run.0 d)
allowed_law s (e ∷ past) run d = allowed_law s past run.0 d

-- WHAT FOLLOWS: the words of a block are there where it can be granted, or is held by somebody in another mode than EW
writer_only : (u t : ℕ) (m : Mode) → mode_in t ((u, mode.Ew) ∷ []) ≡ Some m → is_exclusive m ≡ true
writer_only u t m is = elim (u == t) as (λ b. ◌≡◌ {A = Option Mode} (if b then Some mode.Ew else None) (Some m) → is_exclusive m ≡ true) [
  | true ↦ λ is. let e : mode.Ew ≡ m = cc in ap is_exclusive (sym e)
  | false ↦ λ is. cc is
] is

held_free : (n c : ℕ) (calls : List block.BlockCall) (t : ℕ) (m : Mode) (o : Option ℕ) → block.borrower_of calls ≡ o → AreAllowed n c calls → mode_in t (block.holders_of c calls) ≡ Some m → is_exclusive m ≡ false → o ≡ None
held_free n c calls t m None is are held shared = refl
held_free n c calls t m (Some u) is are held shared =
    let alone = (loan_law n c calls u are is).0 in
    absurd (cc (sym (writer_only u t m (sym (ap (mode_in t) alone) ∙ held)) ∙ shared))

fits_none : (m : Mode) (u : ℕ) → fits_all m ((u, mode.Ew) ∷ []) ≡ false
fits_none m u = rw (never_with_writer m) refl

third_of : (a b c : Bool) → (a && (b && c)) ≡ true → c ≡ true
third_of true true c h = h
third_of true false c h = cc h
third_of false b c h = cc h

granted_free : (n c : ℕ) (calls : List block.BlockCall) (m : Mode) (o : Option ℕ) → block.borrower_of calls ≡ o → AreAllowed n c calls → block.can_grant (block.is_destroyed calls) (block.line_of c calls) m ≡ true → o ≡ None
granted_free n c calls m None is are can = refl
granted_free n c calls m (Some u) is are can =
    let alone = (loan_law n c calls u are is).0 in
    let fits : fits_all m (block.holders_of c calls) ≡ true = third_of _ _ _ can in
    absurd (cc (sym fits ∙ ap (fits_all m) alone ∙ fits_none m u))

pub free_law : FreeLaw
free_law s past run d = record {
  shared = λ t m held shared. held_free _ _ (block_calls s past d) t m (block.borrower_of (block_calls s past d)) refl (allowed_law s past run d) held shared;
  grantable = λ m can. granted_free _ _ (block_calls s past d) m (block.borrower_of (block_calls s past d)) refl (allowed_law s past run d) can;
}
