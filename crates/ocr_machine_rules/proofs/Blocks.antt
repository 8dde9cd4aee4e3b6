-- The blocks by the rules: their words, whether they are destroyed, and who stands there.
use Rattle.std.proofs.Common.{◌≡◌, ◌⊎◌, inl, inr, ℕ, ◌+◌, ◌/◌, List, [], ◌∷◌, ◌++◌, length, Bool, true, false, ◌||◌, ◌&&◌, Option, Some, None, ◌==◌, if◌then◌else◌, refl, sym, ◌∙◌, ap, subst, is_some, replicate, slice_set, arith}
use Rattle.std.proofs.lemmas.Bool.{eqb-true, and_parts, false_from_ne_true}
use Rattle.std.proofs.lemmas.List.{append-nil, append_assoc, length-append, length-replicate}
use Rattle.std.proofs.Math.Seq.{set-append_seam}
use Rattle.ocr_guid.specs.Target.{EventCall}
use Rattle.ocr_acquire.specs.declared.Mode.{Mode}
use Rattle.ocr_acquire.specs.declared.Mode.TheVariants as mode
use Rattle.ocr_acquire.specs.Mode.{mode_in, is_exclusive}
use Rattle.ocr_acquire.specs.Writes.{written}
use Rattle.ocr_slots.specs.Slots as slot
use Rattle.ocr_datablock.specs.Block as block
use Rattle.ocr_datablock.specs.Lent.{Loan, loan_of}
use Rattle.ocr_finish.specs.Scope.{ScopeCall}
use Rattle.ocr_program_tree.specs.Functions.{number_of_main}
use Rattle.ocr_body_meaning.specs.Behaviour.{Asked, IsNext}
use Rattle.ocr_body_meaning.specs.Body.{Body, says}
use Rattle.ocr_body_meaning.specs.Holds.{Hold, Holds, is_done}
use Rattle.ocr_body_meaning.specs.Laws.{held_after}
use Rattle.ocr_body_meaning.proofs.Accesses.{plain_next}
use Rattle.ocr_body_meaning.specs.declared.call.Call as body
use Rattle.ocr_body_meaning.specs.declared.call.Call.TheVariants as call
use Rattle.ocr_body_meaning.specs.declared.call.Answer.{Answer}
use Rattle.ocr_machine_history.specs.declared.objects.TheConstants.{ARGUMENTS, MAIN_EDT, OUTPUT_KIND, OUTPUT_FLAGS}
use Rattle.ocr_machine_history.specs.declared.entry.Entry.TheVariants.{Call, Acquire, Wait, Free}
use Rattle.ocr_machine_history.specs.History.{History, Setting, own}
use Rattle.ocr_machine_history.specs.Made.{Made, MadeBlock, MadeTemplate, MadeEdt, MadeEvent, MadeScope, made, makes, names_new, is_new, edt_from, creator_of, size_in, creator_in}
use Rattle.ocr_machine_parts.specs.declared.part.Part.{Part}
use Rattle.ocr_machine_parts.specs.declared.part.Part.TheVariants as part
use Rattle.ocr_machine_parts.specs.Bodies.{hold_in, holds_on, body_of}
use Rattle.ocr_machine_parts.specs.Bodies as bodies
use Rattle.ocr_machine_parts.specs.Calls.{is_number, next_mode, stores_from, argument_words, ask_calls, grant_calls, return_calls, end_calls, doom_calls, block_step, block_calls, contents_of, link_calls, event_calls, scope_calls, edt_calls, loans_of}
use Rattle.ocr_machine_parts.specs.Kinds.{IsBlock, is_running, mode_on, kept_on, loan_on}
use Rattle.ocr_machine_parts.specs.Kinds as kinds
use Rattle.ocr_machine_parts.specs.Legal.{carried, IsRun, IsLegal}
use Rattle.ocr_machine_parts.specs.LegalOn.{IsLoanBack, IsHeld, IsAgreed, IsTaken, IsRefused}
use Rattle.ocr_machine_parts.specs.Loans.{loan_in}
use Rattle.ocr_machine_parts.specs.Parts.{face, core, identity_of, parts_of}
use Rattle.ocr_machine_parts.proofs.After.{done_is, of_kind, not_missing, not_other, no_other, mode_is}
use Rattle.ocr_machine_parts.proofs.Blocks.{joined_granted, not_gone}
use Rattle.ocr_machine_parts.proofs.Fresh.{made_with, made_new, made_old, named_fresh}
use Rattle.ocr_machine_parts.proofs.Local.{block_weaker}
use Rattle.ocr_machine_parts.proofs.Within.{made_none}
use Rattle.ocr_machine_laws.proofs.Found.{granted_if, asked_same}
use Rattle.ocr_machine_laws.proofs.Held.{zero_law, kept_fits_law}
use Rattle.ocr_machine_laws.proofs.Own.{started_by}
use Rattle.ocr_machine_laws.proofs.Permanence.{not_new}
use Rattle.ocr_machine_laws.proofs.Private.{AreOf, AreBy, mode_of_hold, mode_by_core, call_writes, end_writes, first_private}
use Rattle.ocr_machine_laws.proofs.Said.{tied}
use Rattle.ocr_machine_rules.specs.Blocks as blocks
use Rattle.ocr_machine_rules.specs.Codes.{is_block}
use Rattle.ocr_machine_rules.specs.Laws.{ContentsLaw, LineLaw}
use Rattle.ocr_machine_rules.proofs.Edts as edts

-- A BLOCK is made by DbCreate alone
abbrev makes_block : body.Call → Bool
makes_block (call.DbCreate n fl) = true
makes_block other = false

from_template : (m : Option Made) (ps : List ℕ) (dc : ℕ) → is_block (edt_from m ps dc) ≡ false
from_template (Some (MadeTemplate f pc own)) ps dc = refl
from_template other ps dc = refl

with_edt : (edt : Option Made) (home : ℕ) (a : Answer) (here scope : Bool) → is_block edt ≡ false → is_block (if here then edt else if scope then Some (MadeScope home a.output) else Some (MadeEvent OUTPUT_KIND OUTPUT_FLAGS 0)) ≡ false
with_edt edt home a true scope off = off
with_edt edt home a false true off = refl
with_edt edt home a false false off = refl

if_new : (b : Bool) (m n : Option Made) → is_block m ≡ false → is_block (if b then m else n) ≡ true → b ≡ false
if_new true m n off is = cc (off, is)
if_new false m n off is = refl

old_block : (s : Setting) (past : History) (t home : ℕ) (c : body.Call) (a : Answer) (w : List (ℕ × ℕ)) (d : ℕ) → makes_block c ≡ false → is_block (made s (Call t home c a w ∷ past) d) ≡ true → is_new c a d ≡ false
old_block s past t home (call.DbCreate n fl) a w d other is = cc other
old_block s past t home (call.TemplateCreate f pc dc) a w d other is = if_new (makes a d) (Some (MadeTemplate f pc dc)) (made s past d) refl is
old_block s past t home (call.EventCreate k fl) a w d other is = if_new (makes a d) (Some (MadeEvent k fl 0)) (made s past d) refl is
old_block s past t home (call.EventCreateParams k fl most sats deps) a w d other is = if_new (makes a d) (Some (MadeEvent k fl most)) (made s past d) refl is
old_block s past t home (call.EdtCreate from pc ps dc ds fl o) a w d other is =
    let c : body.Call = call.EdtCreate from pc ps dc ds fl o in
    let edt : Option Made = edt_from (made s past from) ps dc in
    if_new (is_new c a d) (made_with edt home a d) (made s past d) (with_edt edt home a (a.value == d) (names_new a.scope d) (from_template (made s past from) ps dc))
    (ap is_block (sym (made_new s past t home from pc ps dc ds fl o a w d)) ∙ is)
old_block s past t home other a w d _ is = refl

-- what was a block before the call, where it makes none
was_block : (s : Setting) (past : History) (t home : ℕ) (c : body.Call) (a : Answer) (w : List (ℕ × ℕ)) (d : ℕ) → is_new c a d ≡ false → is_block (made s (Call t home c a w ∷ past) d) ≡ true → is_block (made s past d) ≡ true
was_block s past t home c a w d off is = ap is_block (sym (made_old s past t home c a w d off)) ∙ is

old_calls : (s : Setting) (past : History) (t home : ℕ) (c : body.Call) (a : Answer) (w : List (ℕ × ℕ)) (d : ℕ) → is_new c a d ≡ false → block_calls s (Call t home c a w ∷ past) d ≡ block_step t c a w d (block_calls s past d)
old_calls s past t home c a w d off = rw off refl

-- CONTENTS of the argument block
none_of : (rest : List ℕ) → length rest ≡ 0 → rest ≡ []
none_of [] is = refl
none_of (one ∷ rest) is = absurd (omega (arith, is))

stored : (xs : List ℕ) (k n : ℕ) (calls : List block.BlockCall) (front rest : List ℕ) → block.contents n calls ≡ front ++ rest → length front ≡ k → length rest ≡ length xs → block.contents n (stores_from k xs ++ calls) ≡ front ++ xs
stored [] k n calls front rest is at long = is ∙ ap (λ (l : List ℕ). front ++ l) (none_of rest long)
stored (v ∷ more) k n calls front [] is at long = absurd (omega (arith, long))
stored (v ∷ more) k n calls front (one ∷ rest) is at long =
    let put : block.contents n (block.Store k v ∷ calls) ≡ (front ++ v ∷ []) ++ rest =
    ap (λ (l : List ℕ). slice_set l k v) is ∙ ap (λ (i : ℕ). slice_set (front ++ one ∷ rest) i v) (sym at) ∙ set-append_seam front one rest v ∙ sym (append_assoc front (v ∷ []) rest) in
    ap (block.contents n) (append_assoc (stores_from (k + 1) more) (block.Store k v ∷ []) calls)
    ∙ stored more (k + 1) n (block.Store k v ∷ calls) (front ++ v ∷ []) rest put (length-append front (v ∷ []) ∙ ap (λ (i : ℕ). i + 1) at) (omega (arith, long))
    ∙ append_assoc front (v ∷ []) more

opened_contents : (s : Setting) (b : Bool) (other : Option Made) → is_block other ≡ false → is_block (if b then Some (MadeBlock (length s.args + 1) 0) else other) ≡ true
    → (if b then argument_words s else []) ≡ block.contents (size_in (if b then Some (MadeBlock (length s.args + 1) 0) else other)) (if b then stores_from 0 (argument_words s) else [])
opened_contents s true other off is =
    let n : ℕ = length s.args + 1 in
    sym (ap (block.contents n) (sym (append-nil (stores_from 0 (argument_words s)))) ∙ stored (argument_words s) 0 n [] [] (replicate n 0) refl refl (length-replicate n 0 ∙ omega arith))
opened_contents s false other off is = cc (off, is)

opened_other : (s : Setting) (b : Bool) → is_block (if b then Some (MadeEdt (number_of_main s.program) [] 1) else None) ≡ false
opened_other s true = refl
opened_other s false = refl

-- WHAT A HOLD THAT ENDS HAS WRITTEN, it wrote in EW, and then the words of its block are on loan to it
is_lent : (s : Setting) (past : History) (t d : ℕ) → IsRun s past → mode_on ((parts_of s past).core t) d ≡ Some mode.Ew → IsBlock ((parts_of s past).face d) (λ st. IsLoanBack t (loan_on ((parts_of s past).core t) d) st)
    → is_number t (block.borrower_of (block_calls s past d)) ≡ true
is_lent s past t d run ew back =
    let y : Part = (parts_of s past).core t in
    let kept = kept_fits_law s past t d mode.Ew run ew in
    let fits = kept.1.isolated refl in
    let loan : loan_on y d ≡ Some (loan_of mode.Ew fits.0 []) = ap loan_in kept.1.is_kept ∙ fits.1.loan in
    back_on (made s past d) (link_calls past d) (block_calls s past d) (event_calls s past d) (scope_calls past d) fits.0 (subst (λ (o : Option Loan). IsBlock ((parts_of s past).face d) (IsLoanBack t o)) loan back)
  where
    back_on : (m : Option Made) (links : List slot.SlotCall) (calls : List block.BlockCall) (events : List EventCall) (scopes : List ScopeCall) (words : List ℕ) → IsBlock (face m links calls events scopes) (IsLoanBack t (Some (loan_of mode.Ew words []))) → is_number t (block.borrower_of calls) ≡ true
    back_on (Some (MadeBlock n c)) links calls events scopes words is = is.lent
    back_on other links calls events scopes words is = absurd is

-- private writes come back with the loan, and where there are none the words stay
abbrev IsBack : ℕ → List (ℕ × ℕ) → List block.BlockCall → Type 0
IsBack t w calls = (w ≡ []) ⊎ (is_number t (block.borrower_of calls) ≡ true)

returned : (n t : ℕ) (w : List (ℕ × ℕ)) (calls : List block.BlockCall) → IsBack t w calls → block.contents n (return_calls t w calls) ≡ written w (block.contents n calls)
returned n t w calls (inl none) = subst (λ (l : List (ℕ × ℕ)). block.contents n (return_calls t l calls) ≡ written l (block.contents n calls)) (sym none) (nothing (is_number t (block.borrower_of calls)))
  where
    nothing : (b : Bool) → block.contents n (if b then block.TakeBack t [] ∷ calls else calls) ≡ block.contents n calls
    nothing true = refl
    nothing false = refl
returned n t w calls (inr lent) = rw lent refl

ended_contents : (n t : ℕ) (w : List (ℕ × ℕ)) (calls : List block.BlockCall) (done here : Bool) → (done ≡ true → here ≡ true → IsBack t w calls)
    → written (if done then (if here then w else []) else []) (block.contents n calls) ≡ block.contents n (if done && here then end_calls t w calls else calls)
ended_contents n t w calls true true back = sym (returned n t w calls (back refl refl))
ended_contents n t w calls true false back = refl
ended_contents n t w calls false here back = refl

doomed_contents : (n t : ℕ) (w : List (ℕ × ℕ)) (calls : List block.BlockCall) (done here : Bool) → (done ≡ true → here ≡ true → IsBack t w calls)
    → written (if done then (if here then w else []) else []) (block.contents n calls) ≡ block.contents n (if done && here then doom_calls t w calls else calls)
doomed_contents n t w calls true true back = sym (returned n t w calls (back refl refl))
doomed_contents n t w calls true false back = refl
doomed_contents n t w calls false here back = refl

stored_contents : (n k v : ℕ) (calls : List block.BlockCall) (done here : Bool)
    → written (if done then (if here then (k, v) ∷ [] else []) else []) (block.contents n calls) ≡ block.contents n (if done && here then block.Store k v ∷ calls else calls)
stored_contents n k v calls true true = refl
stored_contents n k v calls true false = refl
stored_contents n k v calls false here = refl

nothing_written : (done : Bool) (words : List ℕ) → written (if done then [] else []) words ≡ words
nothing_written true words = refl
nothing_written false words = refl

-- of a hold that a call ends
carried_none : (done : Bool) (private w : List (ℕ × ℕ)) → w ≡ carried done private → private ≡ [] → w ≡ []
carried_none true private w is none = is ∙ none
carried_none false private w is none = is

called_back : (s : Setting) (past : History) (t home : ℕ) (c : body.Call) (a : Answer) (w : List (ℕ × ℕ)) (d : ℕ) → ((held : Holds) (p : List (ℕ × ℕ)) → AreBy held c p → AreOf (mode_of_hold (held d)) p)
    → IsRun s past → IsLegal s past (Call t home c a w) → IsBlock ((parts_of s past).face d) (λ st. IsLoanBack t (loan_on ((parts_of s past).core t) d) st) → IsBack t w (block_calls s past d)
called_back s past t home c a w d ends run legal back =
    let b : Body = body_of s past t in
    let log : List Asked = own past t in
    let y : Part = (parts_of s past).core t in
    let with_core = tied s past t run (started_by s past t run legal.on_parts.running) in
    let next : IsNext c (says b log) = plain_next c legal.said.0 (says b log) legal.said.1 in
    let by = call_writes b log c legal.said.0 (λ x. first_private s past t x run) with_core.trace legal.said.1 in
    elim (ends (held_after log b.holds) legal.said.0 by) [
      | inl none ↦ inl (carried_none (is_done a.code) legal.said.0 w legal.said.2 none)
      | inr ew ↦ inr (is_lent s past t d run (mode_by_core (mode_on y d) (kept_on y d) mode.Ew (sym (ap mode_of_hold (with_core.holds c next d)) ∙ ew)) back)
    ]

-- and of one that is left at the end
left_ew : (s : Setting) (past : History) (t d : ℕ) (m : Mode) (held : Option Hold) → IsRun s past → mode_on ((parts_of s past).core t) d ≡ Some m
    → ((h : Hold) → holds_on (parts_of s past) t d ≡ Some h → held ≡ Some h) → mode_of_hold held ≡ Some mode.Ew → mode_on ((parts_of s past).core t) d ≡ Some mode.Ew
left_ew s past t d m held run is left ew =
    let y : Part = (parts_of s past).core t in
    let fit = kept_fits_law s past t d m run is in
    let now : holds_on (parts_of s past) t d ≡ Some (hold_in m fit.0.size fit.0.loan) = λ i. bodies.hold_of (is i) (fit.1.is_kept i) in
    mode_by_core (mode_on y d) (kept_on y d) mode.Ew (ap mode_of_hold (now ∙ sym (left _ now)) ∙ ew)

held_mode : (x : Part) (t : ℕ) (o : Option Mode) (l : Option Loan) → IsBlock x (IsHeld t o l) → is_some o ≡ true
held_mode (part.Block st) t o l is = ap (λ (k : Option Mode). is_some k) is.same ∙ is.holder
held_mode other t o l is = absurd is

freed_back : (s : Setting) (past : History) (t d : ℕ) (w : List (ℕ × ℕ)) → IsRun s past → IsLegal s past (Free t d w) → IsBack t w (block_calls s past d)
freed_back s past t d w run legal =
    let b : Body = body_of s past t in
    let log : List Asked = own past t in
    let y : Part = (parts_of s past).core t in
    let with_core = tied s past t run (started_by s past t run legal.on_parts.running) in
    let ends = end_writes b log legal.said.0 legal.said.1 d (λ x. first_private s past t x run) with_core.trace legal.said.2 in
    let back = block_weaker ((parts_of s past).face d) (IsHeld t (mode_on y d) (loan_on y d)) (λ st. IsLoanBack t (loan_on y d) st) (λ st held. held.loan_back) legal.on_parts.held in
    elim ends [
      | inl none ↦ inl (legal.said.3 ∙ none)
      | inr ew ↦ inr (is_lent s past t d run (elim (mode_on y d) as (λ o. mode_on y d ≡ o → is_some o ≡ true → mode_on y d ≡ Some mode.Ew) [
        | None ↦ λ _ no. cc no
        | Some m ↦ λ is _. left_ew s past t d m (held_after log b.holds d) run is (with_core.left d) ew
      ] refl (held_mode ((parts_of s past).face d) t (mode_on y d) (loan_on y d) legal.on_parts.held)) back)
    ]

back_at : (s : Setting) (past : History) (t b d : ℕ) (w : List (ℕ × ℕ)) → (b == d) ≡ true → IsBack t w (block_calls s past b) → IsBack t w (block_calls s past d)
back_at s past t b d w here back = subst (λ (n : ℕ). IsBack t w (block_calls s past n)) (eqb-true b d here) back

-- EACH CALL writes what the rules say
step_contents : (s : Setting) (past : History) (t home : ℕ) (c : body.Call) (a : Answer) (w : List (ℕ × ℕ)) (d n : ℕ) → IsRun s past → IsLegal s past (Call t home c a w)
    → written (if is_done a.code then blocks.writes_by c w d else []) (block.contents n (block_calls s past d)) ≡ block.contents n (block_step t c a w d (block_calls s past d))
step_contents s past t home (call.DbRelease b) a w d n run legal =
    let loan = loan_on ((parts_of s past).core t) b in
    ended_contents n t w (block_calls s past d) (is_done a.code) (b == d) (λ on here. back_at s past t b d w here
    (called_back s past t home (call.DbRelease b) a w b (λ held p of. of) run legal
    (block_weaker ((parts_of s past).face b) (IsHeld t (mode_on ((parts_of s past).core t) b) loan) (λ st. IsLoanBack t loan st) (λ st held. held.loan_back) (legal.on_parts.value.0 on))))
step_contents s past t home (call.DbDestroy b) a w d n run legal =
    let loan = loan_on ((parts_of s past).core t) b in
    doomed_contents n t w (block_calls s past d) (is_done a.code) (b == d) (λ on here. back_at s past t b d w here
    (called_back s past t home (call.DbDestroy b) a w b (λ held p of. of) run legal
    (block_weaker ((parts_of s past).face b) (IsAgreed t (mode_on ((parts_of s past).core t) b) loan) (λ st. IsLoanBack t loan st) (λ st held. held.loan_back) (legal.on_parts.value.0 on))))
step_contents s past t home (call.Store b k v) a w d n run legal = stored_contents n k v (block_calls s past d) (is_done a.code) (b == d)
step_contents s past t home other a w d n run legal = nothing_written (is_done a.code) (block.contents n (block_calls s past d))

old_contents : (s : Setting) (past : History) (t home : ℕ) (c : body.Call) (a : Answer) (w : List (ℕ × ℕ)) (d : ℕ) → IsRun s past → IsLegal s past (Call t home c a w) → is_new c a d ≡ false → blocks.contents_of s past d ≡ contents_of s past d
    → written (if is_done a.code then blocks.writes_by c w d else []) (blocks.contents_of s past d) ≡ contents_of s (Call t home c a w ∷ past) d
old_contents s past t home c a w d run legal off before =
    let size : size_in (made s (Call t home c a w ∷ past) d) ≡ size_in (made s past d) = ap size_in (made_old s past t home c a w d off) in
    let calls = old_calls s past t home c a w d off in
    ap (written (if is_done a.code then blocks.writes_by c w d else [])) before
    ∙ step_contents s past t home c a w d (size_in (made s past d)) run legal
    ∙ sym (λ i. block.contents (size i) (calls i))

created_contents : (s : Setting) (past : History) (n c d : ℕ) (b : Bool) → (b ≡ false → blocks.contents_of s past d ≡ contents_of s past d)
    → (if b then replicate (n / 8) 0 else blocks.contents_of s past d) ≡ block.contents (size_in (if b then Some (MadeBlock (n / 8) c) else made s past d)) (if b then [] else block_calls s past d)
created_contents s past n c d true before = refl
created_contents s past n c d false before = before refl

freed_contents : (s : Setting) (past : History) (t b d : ℕ) (w : List (ℕ × ℕ)) (n : ℕ) → IsBack t w (block_calls s past b)
    → written (if b == d then w else []) (block.contents n (block_calls s past d)) ≡ block.contents n (if b == d then end_calls t w (block_calls s past d) else block_calls s past d)
freed_contents s past t b d w n back = ended_contents n t w (block_calls s past d) true (b == d) (λ _ here. back_at s past t b d w here back)

pub contents_is : ContentsLaw
contents_is s [] d run is = opened_contents s (d == ARGUMENTS) (if d == MAIN_EDT then Some (MadeEdt (number_of_main s.program) [] 1) else None) (opened_other s (d == MAIN_EDT)) is
contents_is s (Call t home (call.DbCreate n fl) a w ∷ past) d run is =
    created_contents s past n (creator_of t fl) d (makes a d) (λ off. contents_is s past d run.0 (was_block s past t home (call.DbCreate n fl) a w d off is))
contents_is s (Call t home other a w ∷ past) d run is =
    let off : is_new other a d ≡ false = old_block s past t home other a w d refl is in
    old_contents s past t home other a w d run.0 run.1 off (contents_is s past d run.0 (was_block s past t home other a w d off is))
contents_is s (Acquire u b ∷ past) d run is = contents_is s past d run.0 is ∙ sym (granted_if (size_in (made s past d)) (creator_in (made s past d)) u (next_mode s past u) (block_calls s past d) (b == d))
contents_is s (Wait u b ∷ past) d run is = contents_is s past d run.0 is ∙ sym (asked_same (size_in (made s past d)) u (next_mode s past u) (block_calls s past d) (b == d))
contents_is s (Free t b w ∷ past) d run is =
    ap (written (if b == d then w else [])) (contents_is s past d run.0 is) ∙ freed_contents s past t b d w (size_in (made s past d)) (freed_back s past t b w run.0 run.1)
contents_is s (other ∷ past) d run is = contents_is s past d run.0 is

-- WHAT IS DESTROYED was made, and is a block where it is told by the block's calls
there_at : (m : Option Made) (links : List slot.SlotCall) (calls : List block.BlockCall) (events : List EventCall) (scopes : List ScopeCall) → kinds.is_vacant (face m links calls events scopes) ≡ false → m ≡ None → ⊥
there_at None links calls events scopes there none = cc there
there_at (Some m) links calls events scopes there none = cc none

destroyed_one : (s : Setting) (past : History) (done : Bool) (x g : ℕ) → (done && (x == g)) ≡ true → (done ≡ true → kinds.is_vacant ((parts_of s past).face x) ≡ false) → made s past g ≡ None → ⊥
destroyed_one s past done x g is there none =
    let both = and_parts done (x == g) is in
    let here : kinds.is_vacant ((parts_of s past).face g) ≡ false = subst (λ (n : ℕ). kinds.is_vacant ((parts_of s past).face n) ≡ false) (eqb-true x g both.1) (there both.0) in
    there_at (made s past g) (link_calls past g) (block_calls s past g) (event_calls s past g) (scope_calls past g) here none

destroyed_there : (s : Setting) (past : History) (t home : ℕ) (c : body.Call) (a : Answer) (w : List (ℕ × ℕ)) (g : ℕ) → IsLegal s past (Call t home c a w) → (is_done a.code && blocks.destroys c g) ≡ true → made s past g ≡ None → ⊥
destroyed_there s past t home (call.DbDestroy x) a w g legal is none = destroyed_one s past (is_done a.code) x g is (λ on. no_other _ (not_missing t (parts_of s past).face (call.DbDestroy x) (sym legal.on_parts.code ∙ done_is a.code on))) none
destroyed_there s past t home (call.TemplateDestroy x) a w g legal is none = destroyed_one s past (is_done a.code) x g is (λ on. no_other _ (not_missing t (parts_of s past).face (call.TemplateDestroy x) (sym legal.on_parts.code ∙ done_is a.code on))) none
destroyed_there s past t home (call.EventDestroy x) a w g legal is none = destroyed_one s past (is_done a.code) x g is (λ on. no_other _ (not_missing t (parts_of s past).face (call.EventDestroy x) (sym legal.on_parts.code ∙ done_is a.code on))) none
destroyed_there s past t home other a w g legal is none = cc (and_parts (is_done a.code) false is).1

pub destroyed_made : (s : Setting) (past : History) (g : ℕ) → IsRun s past → made s past g ≡ None → blocks.was_destroyed past g ≡ false
destroyed_made s [] g run none = refl
destroyed_made s (Call t home c a w ∷ past) g run none =
    let before : made s past g ≡ None = unmade (made s past g) refl in
    or_off (is_done a.code && blocks.destroys c g) (blocks.was_destroyed past g) (false_from_ne_true _ (λ on. destroyed_there s past t home c a w g run.1 on before)) (destroyed_made s past g run.0 before)
  where
    unmade : (m : Option Made) → made s past g ≡ m → made s past g ≡ None
    unmade None is = is
    unmade (Some m) is =
        let some : made s past g ≡ None → ⊥ = λ no. let e : None ≡ Some m = sym no ∙ is in cc e in
        absurd (some (sym (made_old s past t home c a w g (not_new s past t home c a w g run.1.on_parts some)) ∙ none))

    or_off : (b c : Bool) → b ≡ false → c ≡ false → (b || c) ≡ false
    or_off b c first second = rw first second
destroyed_made s (e ∷ past) g run none = destroyed_made s past g run.0 none

-- a template or an event is no block
block_alone : (m : Option Made) (links : List slot.SlotCall) (calls : List block.BlockCall) (events : List EventCall) (scopes : List ScopeCall) → is_block m ≡ true → (kinds.is_template (face m links calls events scopes) ≡ true → ⊥) × (kinds.is_event (face m links calls events scopes) ≡ true → ⊥)
block_alone (Some (MadeBlock n c)) links calls events scopes is = (λ no. cc no, λ no. cc no)
block_alone other links calls events scopes is = cc is

stored_doomed : (xs : List ℕ) (k : ℕ) (calls : List block.BlockCall) → block.is_destroyed (stores_from k xs ++ calls) ≡ block.is_destroyed calls
stored_doomed [] k calls = refl
stored_doomed (v ∷ rest) k calls = ap block.is_destroyed (append_assoc (stores_from (k + 1) rest) (block.Store k v ∷ []) calls) ∙ stored_doomed rest (k + 1) (block.Store k v ∷ calls)

opened_doomed : (s : Setting) (b : Bool) → block.is_destroyed (if b then stores_from 0 (argument_words s) else []) ≡ false
opened_doomed s true = ap block.is_destroyed (sym (append-nil (stores_from 0 (argument_words s)))) ∙ stored_doomed (argument_words s) 0 []
opened_doomed s false = refl

returned_doomed : (t : ℕ) (w : List (ℕ × ℕ)) (calls : List block.BlockCall) → block.is_destroyed (return_calls t w calls) ≡ block.is_destroyed calls
returned_doomed t w calls = elim (is_number t (block.borrower_of calls)) as (λ b. block.is_destroyed (if b then block.TakeBack t w ∷ calls else calls) ≡ block.is_destroyed calls) [ true ↦ refl | false ↦ refl ]

-- calls that destroy nothing
ended_doomed : (b : Bool) (t : ℕ) (w : List (ℕ × ℕ)) (calls : List block.BlockCall) → block.is_destroyed (if b then end_calls t w calls else calls) ≡ block.is_destroyed calls
ended_doomed true t w calls = returned_doomed t w calls
ended_doomed false t w calls = refl

one_more_doomed : (b : Bool) (one : block.BlockCall) (calls : List block.BlockCall) → block.is_destroyed (one ∷ calls) ≡ block.is_destroyed calls → block.is_destroyed (if b then one ∷ calls else calls) ≡ block.is_destroyed calls
one_more_doomed true one calls same = same
one_more_doomed false one calls same = refl

granted_doomed : (b : Bool) (t : ℕ) (m : Mode) (c : ℕ) (calls : List block.BlockCall) → block.is_destroyed (if b then grant_calls t m c calls else calls) ≡ block.is_destroyed calls
granted_doomed true t m c calls = lent (is_exclusive m) (ask_calls t m c calls) ∙ asked (is_some (mode_in t (block.holders_of c calls)))
  where
    lent : (b : Bool) (calls : List block.BlockCall) → block.is_destroyed (if b then block.Lend t ∷ calls else calls) ≡ block.is_destroyed calls
    lent true calls = refl
    lent false calls = refl

    asked : (b : Bool) → block.is_destroyed (if b then calls else block.Ask t m ∷ calls) ≡ block.is_destroyed calls
    asked true = refl
    asked false = refl
granted_doomed false t m c calls = refl

none_destroyed : (done before : Bool) → ((done && false) || before) ≡ before
none_destroyed true before = refl
none_destroyed false before = refl

doom_doomed : (b : Bool) (t : ℕ) (w : List (ℕ × ℕ)) (calls : List block.BlockCall) → block.is_destroyed (if b then doom_calls t w calls else calls) ≡ (b || block.is_destroyed calls)
doom_doomed true t w calls = refl
doom_doomed false t w calls = refl

-- EACH CALL destroys the block by the parts where it does by the rules
step_doomed : (s : Setting) (past : History) (t home : ℕ) (c : body.Call) (a : Answer) (w : List (ℕ × ℕ)) (d : ℕ) → IsLegal s past (Call t home c a w) → is_block (made s past d) ≡ true → (calls : List block.BlockCall)
    → block.is_destroyed (block_step t c a w d calls) ≡ ((is_done a.code && blocks.destroys c d) || block.is_destroyed calls)
step_doomed s past t home (call.DbRelease b) a w d legal is calls = ended_doomed (is_done a.code && (b == d)) t w calls ∙ sym (none_destroyed (is_done a.code) (block.is_destroyed calls))
step_doomed s past t home (call.DbDestroy b) a w d legal is calls = doom_doomed (is_done a.code && (b == d)) t w calls
step_doomed s past t home (call.Store b k v) a w d legal is calls = one_more_doomed (is_done a.code && (b == d)) (block.Store k v) calls refl ∙ sym (none_destroyed (is_done a.code) (block.is_destroyed calls))
step_doomed s past t home (call.TemplateDestroy x) a w d legal is calls =
    let off : (is_done a.code && (x == d)) ≡ false = false_from_ne_true _ (λ on.
    let both = and_parts (is_done a.code) (x == d) on in
    let kind : kinds.is_template ((parts_of s past).face x) ≡ true = not_other _ (of_kind t (parts_of s past).face (call.TemplateDestroy x) (sym legal.on_parts.code ∙ done_is a.code both.0)) in
    (block_alone (made s past d) (link_calls past d) (block_calls s past d) (event_calls s past d) (scope_calls past d) is).0 (subst (λ (n : ℕ). kinds.is_template ((parts_of s past).face n) ≡ true) (eqb-true x d both.1) kind)) in
    rw off refl
step_doomed s past t home (call.EventDestroy x) a w d legal is calls =
    let off : (is_done a.code && (x == d)) ≡ false = false_from_ne_true _ (λ on.
    let both = and_parts (is_done a.code) (x == d) on in
    let kind : kinds.is_event ((parts_of s past).face x) ≡ true = not_other _ (of_kind t (parts_of s past).face (call.EventDestroy x) (sym legal.on_parts.code ∙ done_is a.code both.0)) in
    (block_alone (made s past d) (link_calls past d) (block_calls s past d) (event_calls s past d) (scope_calls past d) is).1 (subst (λ (n : ℕ). kinds.is_event ((parts_of s past).face n) ≡ true) (eqb-true x d both.1) kind)) in
    rw off refl
step_doomed s past t home other a w d legal is calls = sym (none_destroyed (is_done a.code) (block.is_destroyed calls))

-- a number that is drawn was not destroyed
pub drawn_live : (s : Setting) (past : History) (t home n fl : ℕ) (a : Answer) (w : List (ℕ × ℕ)) (d : ℕ) → IsRun s past → IsLegal s past (Call t home (call.DbCreate n fl) a w) → makes a d ≡ true → blocks.was_destroyed past d ≡ false
drawn_live s past t home n fl a w d run legal here = destroyed_made s past d run (made_none s past d (named_fresh s.limit (parts_of s past) a d legal.on_parts.value here).vacant)

created_doomed : (done b before : Bool) (calls : List block.BlockCall) → (b ≡ true → before ≡ false) → (b ≡ false → block.is_destroyed calls ≡ before) → block.is_destroyed (if b then [] else calls) ≡ ((done && false) || before)
created_doomed done true before calls new old = sym (new refl) ∙ sym (none_destroyed done before)
created_doomed done false before calls new old = old refl ∙ sym (none_destroyed done before)

pub was_doomed : (s : Setting) (past : History) (d : ℕ) → IsRun s past → is_block (made s past d) ≡ true → block.is_destroyed (block_calls s past d) ≡ blocks.was_destroyed past d
was_doomed s [] d run is = opened_doomed s (d == ARGUMENTS)
was_doomed s (Call t home (call.DbCreate n fl) a w ∷ past) d run is =
    created_doomed (is_done a.code) (makes a d) (blocks.was_destroyed past d) (block_calls s past d) (drawn_live s past t home n fl a w d run.0 run.1)
    (λ off. was_doomed s past d run.0 (was_block s past t home (call.DbCreate n fl) a w d off is))
was_doomed s (Call t home other a w ∷ past) d run is =
    let off : is_new other a d ≡ false = old_block s past t home other a w d refl is in
    let was : is_block (made s past d) ≡ true = was_block s past t home other a w d off is in
    ap block.is_destroyed (old_calls s past t home other a w d off) ∙ step_doomed s past t home other a w d run.1 was (block_calls s past d)
    ∙ ap (λ (b : Bool). (is_done a.code && blocks.destroys other d) || b) (was_doomed s past d run.0 was)
was_doomed s (Acquire u b ∷ past) d run is = granted_doomed (b == d) u (next_mode s past u) (creator_in (made s past d)) (block_calls s past d) ∙ was_doomed s past d run.0 is
was_doomed s (Wait u b ∷ past) d run is = one_more_doomed (b == d) (block.Ask u (next_mode s past u)) (block_calls s past d) refl ∙ was_doomed s past d run.0 is
was_doomed s (Free t b w ∷ past) d run is = ended_doomed (b == d) t w (block_calls s past d) ∙ was_doomed s past d run.0 is
was_doomed s (other ∷ past) d run is = was_doomed s past d run.0 is

-- WHO STANDS at the argument block: nobody
stored_line : (xs : List ℕ) (k c : ℕ) (calls : List block.BlockCall) → block.line_of c (stores_from k xs ++ calls) ≡ block.line_of c calls
stored_line [] k c calls = refl
stored_line (v ∷ rest) k c calls = ap (block.line_of c) (append_assoc (stores_from (k + 1) rest) (block.Store k v ∷ []) calls) ∙ stored_line rest (k + 1) c (block.Store k v ∷ calls)

abbrev nobody : block.Line
nobody = record { holders = []; queue = [] }

opened_line : (s : Setting) (b : Bool) (other : Option Made) → is_block other ≡ false → block.line_of (creator_in (if b then Some (MadeBlock (length s.args + 1) 0) else other)) (if b then stores_from 0 (argument_words s) else []) ≡ nobody
opened_line s true other off = ap (block.line_of 0) (sym (append-nil (stores_from 0 (argument_words s)))) ∙ stored_line (argument_words s) 0 0 []
opened_line s false other off = no_creator other off
  where
    no_creator : (m : Option Made) → is_block m ≡ false → block.line_of (creator_in m) [] ≡ nobody
    no_creator (Some (MadeBlock n c)) is = cc is
    no_creator other is = refl

-- at a block that is made: its maker, where it holds it
runs_some : (s : Setting) (past : History) (t : ℕ) → IsRun s past → is_running ((parts_of s past).core t) ≡ true → (t == 0) ≡ false
runs_some s past t run running = false_from_ne_true (t == 0) (λ here.
    let there : is_running ((parts_of s past).core 0) ≡ true = subst (λ (n : ℕ). is_running ((parts_of s past).core n) ≡ true) (eqb-true t 0 here) running in
    let none : is_running ((parts_of s past).core 0) ≡ false = ap (λ (m : Option Made). is_running (core m (identity_of past 0) (edt_calls s past 0) (loans_of s past 0))) (zero_law s past run) in
    cc (there, none))

created_line : (done here holds : Bool) (k t : ℕ) (m : Option Made) (calls : List block.BlockCall) (before : block.Line) → (t == 0) ≡ false → ((done && here) ≡ false → block.line_of (creator_in m) calls ≡ before)
    → block.line_of (creator_in (if done && here then Some (MadeBlock k (if holds then t else 0)) else m)) (if done && here then [] else calls)
    ≡ (if done then (if here then record { holders = if holds then (t, mode.Rw) ∷ [] else []; queue = [] } else before) else before)
created_line true true true k t m calls before some old = λ i. record { holders = if some i then [] else (t, mode.Rw) ∷ []; queue = [] }
created_line true true false k t m calls before some old = refl
created_line true false holds k t m calls before some old = old refl
created_line false here holds k t m calls before some old = old refl

-- where a hold ends, or the block is destroyed
returned_line : (c t : ℕ) (w : List (ℕ × ℕ)) (calls : List block.BlockCall) → block.line_of c (return_calls t w calls) ≡ block.line_of c calls
returned_line c t w calls = elim (is_number t (block.borrower_of calls)) as (λ b. block.line_of c (if b then block.TakeBack t w ∷ calls else calls) ≡ block.line_of c calls) [ true ↦ refl | false ↦ refl ]

ended_line : (done here : Bool) (c t : ℕ) (w : List (ℕ × ℕ)) (calls : List block.BlockCall)
    → block.line_of c (if done && here then end_calls t w calls else calls) ≡ (if done then (if here then blocks.line_after_end (block.is_destroyed calls) t (block.line_of c calls) else block.line_of c calls) else block.line_of c calls)
ended_line true true c t w calls = λ i. blocks.line_after_end (returned_doomed t w calls i) t (returned_line c t w calls i)
ended_line true false c t w calls = refl
ended_line false here c t w calls = refl

doomed_line : (done here : Bool) (c t : ℕ) (w : List (ℕ × ℕ)) (calls : List block.BlockCall)
    → block.line_of c (if done && here then doom_calls t w calls else calls) ≡ (if done then (if here then blocks.line_after_end true t (block.line_of c calls) else block.line_of c calls) else block.line_of c calls)
doomed_line true true c t w calls = ap (blocks.line_after_end true t) (returned_line c t w calls)
doomed_line true false c t w calls = refl
doomed_line false here c t w calls = refl

same_line : (done here : Bool) (c k v : ℕ) (calls : List block.BlockCall) → block.line_of c (if done && here then block.Store k v ∷ calls else calls) ≡ (if done then block.line_of c calls else block.line_of c calls)
same_line true true c k v calls = refl
same_line true false c k v calls = refl
same_line false here c k v calls = refl

either_line : (done : Bool) (line : block.Line) → line ≡ (if done then line else line)
either_line true line = refl
either_line false line = refl

step_line : (t : ℕ) (c : body.Call) (a : Answer) (w : List (ℕ × ℕ)) (d creator : ℕ) (calls : List block.BlockCall) → makes_block c ≡ false
    → block.line_of creator (block_step t c a w d calls) ≡ (if is_done a.code then blocks.line_after t c a (block.is_destroyed calls) d (block.line_of creator calls) else block.line_of creator calls)
step_line t (call.DbCreate n fl) a w d creator calls other = cc other
step_line t (call.DbRelease b) a w d creator calls other = ended_line (is_done a.code) (b == d) creator t w calls
step_line t (call.DbDestroy b) a w d creator calls other = doomed_line (is_done a.code) (b == d) creator t w calls
step_line t (call.Store b k v) a w d creator calls other = same_line (is_done a.code) (b == d) creator k v calls
step_line t other a w d creator calls _ = either_line (is_done a.code) (block.line_of creator calls)

-- where an EDT acquires the block, or waits for it
lent_line : (b : Bool) (c t : ℕ) (calls : List block.BlockCall) → block.line_of c (if b then block.Lend t ∷ calls else calls) ≡ block.line_of c calls
lent_line true c t calls = refl
lent_line false c t calls = refl

granted_line : (t : ℕ) (m : Mode) (st : block.State) → is_some (mode_in t st.holders) ≡ false → IsTaken t m st
    → block.line_after_ask st.destroyed (block.line st) t m ≡ record { holders = st.holders ++ (t, m) ∷ []; queue = st.queue }
granted_line t m st unheld taken = elim taken.fit [
  | inl held ↦ absurd (let on : is_some (mode_in t st.holders) ≡ true = ap (λ (o : Option Mode). is_some o) held in cc (on, unheld))
  | inr free ↦ joined_granted (block.is_line_gone st.destroyed (block.line st)) (block.can_grant st.destroyed (block.line st) m) _ _ _ (not_gone st.destroyed _ _ free.grantable) free.grantable
]

taken_line : (md : Option Made) (links : List slot.SlotCall) (calls : List block.BlockCall) (events : List EventCall) (scopes : List ScopeCall) (t : ℕ) (m : Mode) → IsBlock (face md links calls events scopes) (IsTaken t m)
    → block.line_of (creator_in md) (grant_calls t m (creator_in md) calls) ≡ blocks.line_with t m (block.line_of (creator_in md) calls)
taken_line (Some (MadeBlock n c)) links calls events scopes t m taken =
    lent_line (is_exclusive m) c t (ask_calls t m c calls)
    ∙ elim (is_some (mode_in t (block.holders_of c calls))) as (λ b. is_some (mode_in t (block.holders_of c calls)) ≡ b → block.line_of c (if b then calls else block.Ask t m ∷ calls)
    ≡ (if b then block.line_of c calls else record { holders = block.holders_of c calls ++ (t, m) ∷ []; queue = block.queue_of c calls })) [
      | true ↦ λ _. refl
      | false ↦ λ unheld. granted_line t m (block.state_of n c calls) unheld taken
    ] refl
taken_line other links calls events scopes t m taken = absurd taken

joined_queued : (b c : Bool) (x y z : block.Line) → b ≡ false → c ≡ false → (if b then x else if c then y else z) ≡ z
joined_queued b c x y z off none = rw (off, none) refl

refused_line : (md : Option Made) (links : List slot.SlotCall) (calls : List block.BlockCall) (events : List EventCall) (scopes : List ScopeCall) (t : ℕ) (m : Mode) → IsBlock (face md links calls events scopes) (IsRefused t m)
    → block.line_of (creator_in md) (block.Ask t m ∷ calls) ≡ record { holders = block.holders_of (creator_in md) calls; queue = block.queue_of (creator_in md) calls ++ (t, m) ∷ [] }
refused_line (Some (MadeBlock n c)) links calls events scopes t m refused =
    joined_queued (block.is_line_gone (block.is_destroyed calls) (block.line_of c calls)) (block.can_grant (block.is_destroyed calls) (block.line_of c calls) m) _ _ _ refused.not_gone refused.not_grantable
refused_line other links calls events scopes t m refused = absurd refused

line_if : (b : Bool) (c : ℕ) (x y : List block.BlockCall) (p q : block.Line) → (b ≡ true → block.line_of c x ≡ p) → block.line_of c y ≡ q → block.line_of c (if b then x else y) ≡ (if b then p else q)
line_if true c x y p q one other = one refl
line_if false c x y p q one other = other

-- IN EACH RUN
pub stands_so : (s : Setting) (past : History) (d : ℕ) → IsRun s past → is_block (made s past d) ≡ true → block.line_of (creator_in (made s past d)) (block_calls s past d) ≡ blocks.line_of s past d
stands_so s [] d run is = opened_line s (d == ARGUMENTS) (if d == MAIN_EDT then Some (MadeEdt (number_of_main s.program) [] 1) else None) (opened_other s (d == MAIN_EDT))
stands_so s (Call t home (call.DbCreate n fl) a w ∷ past) d run is =
    created_line (is_done a.code) (a.value == d) (fl == 0) (n / 8) t (made s past d) (block_calls s past d) (blocks.line_of s past d) (runs_some s past t run.0 run.1.on_parts.running)
    (λ off. stands_so s past d run.0 (was_block s past t home (call.DbCreate n fl) a w d off is))
stands_so s (Call t home other a w ∷ past) d run is =
    let off : is_new other a d ≡ false = old_block s past t home other a w d refl is in
    let was : is_block (made s past d) ≡ true = was_block s past t home other a w d off is in
    let creator : creator_in (made s (Call t home other a w ∷ past) d) ≡ creator_in (made s past d) = ap creator_in (made_old s past t home other a w d off) in
    (λ i. block.line_of (creator i) (old_calls s past t home other a w d off i))
    ∙ step_line t other a w d (creator_in (made s past d)) (block_calls s past d) refl
    ∙ (λ i. if is_done a.code then blocks.line_after t other a (was_doomed s past d run.0 was i) d (stands_so s past d run.0 was i) else stands_so s past d run.0 was i)
stands_so s (Acquire t b ∷ past) d run is =
    let creator : ℕ = creator_in (made s past d) in
    let before = stands_so s past d run.0 is in
    line_if (b == d) creator (grant_calls t (next_mode s past t) creator (block_calls s past d)) (block_calls s past d) (blocks.line_with t (blocks.next_mode s past t) (blocks.line_of s past d)) (blocks.line_of s past d)
    (λ here. taken_line (made s past d) (link_calls past d) (block_calls s past d) (event_calls s past d) (scope_calls past d) t (next_mode s past t)
    (subst (λ (n : ℕ). IsBlock ((parts_of s past).face n) (IsTaken t (next_mode s past t))) (eqb-true b d here) (subst (λ (k : Mode). IsBlock ((parts_of s past).face b) (IsTaken t k)) (sym (mode_is s past t _ run.1.on_parts.next)) run.1.on_parts.taken))
    ∙ (λ i. blocks.line_with t (sym (edts.mode_is s past t b run.0 run.1) i) (before i)))
    before
stands_so s (Wait t b ∷ past) d run is =
    let creator : ℕ = creator_in (made s past d) in
    let before = stands_so s past d run.0 is in
    line_if (b == d) creator (block.Ask t (next_mode s past t) ∷ block_calls s past d) (block_calls s past d)
    (record { holders = (blocks.line_of s past d).holders; queue = (blocks.line_of s past d).queue ++ (t, blocks.next_mode s past t) ∷ [] }) (blocks.line_of s past d)
    (λ here. refused_line (made s past d) (link_calls past d) (block_calls s past d) (event_calls s past d) (scope_calls past d) t (next_mode s past t)
    (subst (λ (n : ℕ). IsBlock ((parts_of s past).face n) (IsRefused t (next_mode s past t))) (eqb-true b d here) (subst (λ (k : Mode). IsBlock ((parts_of s past).face b) (IsRefused t k)) (sym (mode_is s past t _ run.1.on_parts.next)) run.1.on_parts.refused))
    ∙ (λ i. record { holders = (before i).holders; queue = (before i).queue ++ (t, sym (edts.wait_mode_is s past t b run.0 run.1) i) ∷ [] }))
    before
stands_so s (Free t b w ∷ past) d run is =
    ended_line true (b == d) (creator_in (made s past d)) t w (block_calls s past d)
    ∙ (λ i. if b == d then blocks.line_after_end (was_doomed s past d run.0 is i) t (stands_so s past d run.0 is i) else stands_so s past d run.0 is i)
stands_so s (other ∷ past) d run is = stands_so s past d run.0 is

told_line : (m : Option Made) (links : List slot.SlotCall) (calls : List block.BlockCall) (events : List EventCall) (scopes : List ScopeCall) (line : block.Line) → (is_block m ≡ true → block.line_of (creator_in m) calls ≡ line)
    → IsBlock (face m links calls events scopes) (λ st. block.line st ≡ line) ⊎ (is_block m ≡ false)
told_line (Some (MadeBlock n c)) links calls events scopes line stands = inl (stands refl)
told_line other links calls events scopes line stands = inr refl

pub line_is : LineLaw
line_is s past d run = told_line (made s past d) (link_calls past d) (block_calls s past d) (event_calls s past d) (scope_calls past d) (blocks.line_of s past d) (stands_so s past d run)
