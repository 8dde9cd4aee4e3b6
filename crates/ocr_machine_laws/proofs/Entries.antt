-- What the EDTs hold, through each entry.
use Rattle.std.proofs.Common.{◌≡◌, ◌⊎◌, inl, inr, ℕ, ◌+◌, ◌/◌, List, [], ◌∷◌, ◌++◌, Bool, true, false, not, Option, Some, None, ◌==◌, if◌then◌else◌, refl, sym, ◌∙◌, ap, subst, is_some, length}
use Rattle.std.proofs.lemmas.Bool.{eqb-true, ne_eqb}
use Rattle.ocr_base.proofs.Booleans.{same}
use Rattle.ocr_guid.specs.declared.target.Target.{Target}
use Rattle.ocr_acquire.specs.declared.Mode.{Mode}
use Rattle.ocr_acquire.specs.declared.Mode.TheVariants as mode
use Rattle.ocr_acquire.specs.Mode.{is_exclusive, mode_in, is_isolated}
use Rattle.ocr_acquire.specs.Writes.{written}
use Rattle.ocr_datablock.specs.Block as block
use Rattle.ocr_datablock.specs.Steps.{after_ask, after_release, after_store, after_lend, with_words, after_doom}
use Rattle.ocr_datablock.specs.Lent.{Loan, loan_of}
use Rattle.ocr_event_any.specs.declared.AnyEvent.{AnyEvent}
use Rattle.ocr_event_any.specs.AnyEvent as event
use Rattle.ocr_edt.specs.declared.Edt.{Edt}
use Rattle.ocr_edt.specs.declared.Edt.TheVariants as phase
use Rattle.ocr_edt.specs.Phases.{without}
use Rattle.ocr_edt.proofs.Holds.{mode_in-placed, mode_in-placed_other, mode_in-without, mode_in-other}
use Rattle.ocr_body_meaning.specs.Holds.{is_done}
use Rattle.ocr_body_meaning.specs.declared.call.Call as body
use Rattle.ocr_body_meaning.specs.declared.call.Call.TheVariants as call
use Rattle.ocr_body_meaning.specs.declared.call.Answer.{Answer}
use Rattle.ocr_machine_history.specs.declared.entry.Entry.{Entry}
use Rattle.ocr_machine_history.specs.declared.entry.Entry.TheVariants.{Call, Deliver, Acquire, Wait, Start, Free, End, StaleAcquire}
use Rattle.ocr_machine_history.specs.declared.entry.What.{What}
use Rattle.ocr_machine_history.specs.declared.entry.What.TheVariants as what
use Rattle.ocr_machine_history.specs.Made.{creator_of}
use Rattle.ocr_machine_parts.specs.declared.loans.Kept.{Kept}
use Rattle.ocr_machine_parts.specs.declared.part.Core.{Core}
use Rattle.ocr_machine_parts.specs.declared.part.Part.{Part}
use Rattle.ocr_machine_parts.specs.declared.part.Part.TheVariants as part
use Rattle.ocr_machine_parts.specs.Loans.{kept_in, with_kept, without_kept, kept_of, kept_created}
use Rattle.ocr_machine_parts.specs.Calls.{is_number, is_object, slot_target}
use Rattle.ocr_machine_parts.specs.Parts.{Parts, new_identity}
use Rattle.ocr_finish.specs.Scope as scope
use Rattle.ocr_machine_parts.proofs.Beside.{joined_keeps, beside_keeps, edt_free}
use Rattle.ocr_machine_parts.specs.Kinds.{IsBlock, home_on, with_scope, with_block, with_event, size_on, words_on, on_core, progress_in, core_progress, next_in, work_in, work_of, is_running, holds_of, kept_on, loan_on}
use Rattle.ocr_machine_parts.specs.Effects.{with_beside, new_scope, new_output, joined, awoken, acquired_edt, waiting_edt, started_edt, holding_edt, dropped_edt, ended_edt, holding_core, creating_core, dropping_core, acquiring_core, asked_if, granted, returned, hold_ended, new_face, new_core, ended, deps_linked, called, brought, acquired, waited, changed, stale_edt}
use Rattle.ocr_machine_parts.specs.Progress.{with_face, with_core, with_phase, made_ready, next_on, next_mode_on, linked_if, ready_at}
use Rattle.ocr_machine_parts.specs.LegalOn.{IsLoanBack, IsEnding, IsGranted, IsTaken, IsCallOn, IsLegalOn, IsDooming}
use Rattle.ocr_machine_parts.proofs.Lent.{loan_kept}
use Rattle.ocr_machine_laws.proofs.States.{in_front}
use Rattle.ocr_machine_laws.proofs.Waiters.{advances, flip}
use Rattle.ocr_machine_laws.specs.Waits.{held_in, rest_in, held_on, rest_on, IsOrdered, AreStanding}
use Rattle.ocr_machine_laws.specs.Held.{IsLoanKept, IsKeptWith, IsHeldSo, loans_on, AreKeptOnce, AreHeld}
use Rattle.ocr_machine_laws.proofs.Holds.{if_block, if_any, HoldsElse, IsKeeping, moved_held, faced_held, cored_held, step_stays, linked_stays, vacant_stays, vacant_none, doomed_stays, evented_stays, scoped_stays}
use Rattle.ocr_edt.specs.declared.Identity.{Identity}
use Rattle.ocr_edt.specs.Steps.{with_next}
use Rattle.ocr_machine_parts.proofs.Blocks.{mode_added}

-- NUMBERS
not_own : (t u : ℕ) → (t == u) ≡ false → is_number u (Some t) ≡ false
not_own t u apart = apart

number_of : (t u : ℕ) (o : Option ℕ) → is_number t o ≡ true → (t == u) ≡ false → is_number u o ≡ false
number_of t u None is apart = refl
number_of t u (Some v) is apart = ap (λ (n : ℕ). n == u) (eqb-true v t is) ∙ apart

-- WHO HOLDS A BLOCK, when somebody else asks for it or gives it back
joins : (u t : ℕ) (m : Mode) (gone grants : Bool) (line : block.Line) (k : Mode) → mode_in u line.holders ≡ Some k
    → mode_in u (if gone then line else if grants then record { holders = line.holders ++ (t, m) ∷ []; queue = line.queue } else record { holders = line.holders; queue = line.queue ++ (t, m) ∷ [] }).holders ≡ Some k
joins u t m true grants line k is = is
joins u t m false true line k is = in_front u line.holders ((t, m) ∷ []) k is
joins u t m false false line k is = is

asked_keeps : (u t : ℕ) (m : Mode) (st : block.State) → IsKeeping u st (after_ask st t m)
asked_keeps u t m st = record { holders = λ k is. joins u t m _ _ (block.line st) k is; size = refl; lent = refl }

asked_if_keeps : (u t : ℕ) (m : Mode) (b : Bool) (st : block.State) → IsKeeping u st (if b then st else after_ask st t m)
asked_if_keeps u t m true st = record { holders = λ k is. is; size = refl; lent = refl }
asked_if_keeps u t m false st = asked_keeps u t m st

asked_not_lent : (t : ℕ) (m : Mode) (b : Bool) (st : block.State) → (if b then st else after_ask st t m).borrower ≡ st.borrower
asked_not_lent t m true st = refl
asked_not_lent t m false st = refl

lent_keeps : (u t : ℕ) (b : Bool) (st : block.State) → (t == u) ≡ false → st.borrower ≡ None → IsKeeping u st (if b then after_lend st t else st)
lent_keeps u t true st apart none = record { holders = λ k is. is; size = refl; lent = apart ∙ sym (ap (is_number u) none) }
lent_keeps u t false st apart none = record { holders = λ k is. is; size = refl; lent = refl }

keeps_then : (u : ℕ) (st new last : block.State) → IsKeeping u st new → IsKeeping u new last → IsKeeping u st last
keeps_then u st new last one two = record { holders = λ k is. two.holders k (one.holders k is); size = two.size ∙ one.size; lent = two.lent ∙ one.lent }

granted_keeps : (u t : ℕ) (m : Mode) (st : block.State) → (t == u) ≡ false → st.borrower ≡ None → IsKeeping u st (granted t m st)
granted_keeps u t m st apart none =
    let asked = asked_if t m st in
    keeps_then u st asked (granted t m st) (asked_if_keeps u t m _ st) (lent_keeps u t (is_exclusive m) asked apart (asked_not_lent t m _ st ∙ none))

passed_holders : (u : ℕ) (b : Bool) (line : block.Line) (k : Mode) → mode_in u line.holders ≡ Some k → mode_in u (block.line_after_grants b line).holders ≡ Some k
passed_holders u true line k is = elim (block.is_empty line.holders) as (λ e. mode_in u (if e then record { holders = line.holders; queue = [] } else line).holders ≡ Some k) [ true ↦ is | false ↦ is ]
passed_holders u false line k is = in_front u line.holders (block.front_that_fits line.holders line.queue) k is

left_holders : (u t : ℕ) (xs : List (ℕ × Mode)) → (t == u) ≡ false → mode_in u (block.without t xs) ≡ mode_in u xs
left_holders u t [] apart = refl
left_holders u t (one ∷ rest) apart = elim (one.0 == t) as (λ b. (one.0 == t) ≡ b → mode_in u (if b then block.without t rest else one ∷ block.without t rest) ≡ (if one.0 == u then Some one.1 else mode_in u rest)) [
  | true ↦ λ is. let other : (one.0 == u) ≡ false = ap (λ (n : ℕ). n == u) (eqb-true one.0 t is) ∙ apart in rw other (left_holders u t rest apart)
  | false ↦ λ _. ap (λ (o : Option Mode). if one.0 == u then Some one.1 else o) (left_holders u t rest apart)
] refl

back_keeps : (u t : ℕ) (w : List (ℕ × ℕ)) (l : Loan) (b : Bool) (st : block.State) → is_exclusive l.mode ≡ b → (t == u) ≡ false → is_number t st.borrower ≡ b
    → IsKeeping u st (if b then with_words st None (written w l.began) else st)
back_keeps u t w l true st is apart lent = record { holders = λ k held. held; size = refl; lent = sym (number_of t u st.borrower lent apart) }
back_keeps u t w l false st is apart lent = record { holders = λ k held. held; size = refl; lent = refl }

returned_keeps : (u t : ℕ) (w : List (ℕ × ℕ)) (loan : Option Loan) (st : block.State) → (t == u) ≡ false → IsLoanBack t loan st → IsKeeping u st (returned w loan st)
returned_keeps u t w None st apart back = record { holders = λ k is. is; size = refl; lent = refl }
returned_keeps u t w (Some l) st apart back = back_keeps u t w l (is_exclusive l.mode) st refl apart back.lent

released_keeps : (u t : ℕ) (st : block.State) → (t == u) ≡ false → IsKeeping u st (after_release st t)
released_keeps u t st apart = record {
  holders = λ k is. passed_holders u st.destroyed (block.line_without t (block.line st)) k (left_holders u t st.holders apart ∙ is);
  size = refl;
  lent = refl;
}

ended_keeps : (u t : ℕ) (w : List (ℕ × ℕ)) (loan : Option Loan) (st : block.State) → (t == u) ≡ false → IsLoanBack t loan st → IsKeeping u st (hold_ended after_release t w loan st)
ended_keeps u t w loan st apart back = keeps_then u st (returned w loan st) _ (returned_keeps u t w loan st apart back) (released_keeps u t (returned w loan st) apart)

doomed_keeps : (u t : ℕ) (st : block.State) → (t == u) ≡ false → IsKeeping u st (after_doom st t)
doomed_keeps u t st apart = record {
  holders = λ k is. passed_holders u true (block.line_without t (block.line st)) k (left_holders u t st.holders apart ∙ is);
  size = refl;
  lent = refl;
}

destroyed_keeps : (u t : ℕ) (w : List (ℕ × ℕ)) (loan : Option Loan) (st : block.State) → (t == u) ≡ false → IsLoanBack t loan st → IsKeeping u st (hold_ended after_doom t w loan st)
destroyed_keeps u t w loan st apart back = keeps_then u st (returned w loan st) _ (returned_keeps u t w loan st apart back) (doomed_keeps u t (returned w loan st) apart)

-- A HOLD ENDS
pub without_once : (d : ℕ) (xs : List (ℕ × Kept)) → AreKeptOnce xs → kept_in d (without_kept d xs) ≡ None
without_once d [] once = refl
without_once d (one ∷ rest) once = elim (one.0 == d) as (λ b. (one.0 == d) ≡ b → kept_in d (if b then rest else one ∷ without_kept d rest) ≡ None) [
  | true ↦ λ is. subst (λ (n : ℕ). kept_in n rest ≡ None) (eqb-true one.0 d is) once.0
  | false ↦ λ is. rw is (without_once d rest once.1)
] refl

fewer : (d e : ℕ) (xs : List (ℕ × Kept)) → kept_in e xs ≡ None → kept_in e (without_kept d xs) ≡ None
fewer d e [] is = refl
fewer d e (one ∷ rest) is = elim (one.0 == e) as (λ c. (one.0 == e) ≡ c → (if c then Some one.1 else kept_in e rest) ≡ None → kept_in e (if one.0 == d then rest else one ∷ without_kept d rest) ≡ None) [
  | true ↦ λ _ is. cc is
  | false ↦ λ apart is. elim (one.0 == d) as (λ b. kept_in e (if b then rest else one ∷ without_kept d rest) ≡ None) [ true ↦ is | false ↦ rw apart (fewer d e rest is) ]
] refl is

once_without : (d : ℕ) (xs : List (ℕ × Kept)) → AreKeptOnce xs → AreKeptOnce (without_kept d xs)
once_without d [] once = tt
once_without d (one ∷ rest) once = elim (one.0 == d) as (λ b. AreKeptOnce (if b then rest else one ∷ without_kept d rest)) [ true ↦ once.1 | false ↦ (fewer d one.0 rest once.0, once_without d rest once.1) ]

dropped_held : (d : ℕ) (s : Edt) → is_some (work_in s) ≡ true → (mode_in d (held_in (dropped_edt d s)) ≡ None) × ((e : ℕ) → (d == e) ≡ false → mode_in e (held_in (dropped_edt d s)) ≡ mode_in e (held_in s))
dropped_held d (phase.Running w) running = (mode_in-without d w.holds, λ e apart. mode_in-other d e w.holds (flip d e apart))
dropped_held d other running = cc running

-- the core of whoever gives a block back
record IsDropped (d : ℕ) (was y : Part) : Type 0 where
  none_held : mode_in d (held_on y) ≡ None
  none_kept : kept_on y d ≡ None
  else_same : HoldsElse d was y
  once : AreKeptOnce (loans_on y)

dropping : (d : ℕ) (x : Part) → is_running x ≡ true → AreKeptOnce (loans_on x) → IsDropped d x (on_core x (dropping_core d))
dropping d (part.Core c) running once =
    let held = dropped_held d c.edt running in
    record { none_held = held.0; none_kept = without_once d c.loans once; else_same = λ e apart. (held.1 e apart, loan_kept d e c.loans apart); once = once_without d c.loans once }
dropping d other running once = cc running

pub nothing_so : (t : ℕ) (x : Part) (m : Option Mode) (k : Option Kept) → m ≡ None → k ≡ None → IsHeldSo t x m k
nothing_so t x m k one two = subst (λ (n : Option Mode). IsHeldSo t x n k) (sym one) (subst (IsHeldSo t x None) (sym two) tt)

ended_held : (f : Parts) (t d : ℕ) (w : List (ℕ × ℕ)) → AreHeld f → is_running (f.core t) ≡ true → IsEnding f t d → AreHeld (ended after_release f t d w)
ended_held f t d w all running held =
    let y : Part = on_core (f.core t) (dropping_core d) in
    let own = dropping d (f.core t) running (all.once t) in
    moved_held f d _ t y all
    (λ u m k apart is. step_stays u (f.face d) _ m k (if_block (f.face d) _ _ (λ st ending. ended_keeps u t w (loan_on (f.core t) d) st apart ending.loan_back) held) is)
    (nothing_so t _ _ _ own.none_held own.none_kept) own.else_same own.once

destroyed_held : (f : Parts) (t d : ℕ) (w : List (ℕ × ℕ)) → AreHeld f → is_running (f.core t) ≡ true → IsDooming f t d → AreHeld (ended after_doom f t d w)
destroyed_held f t d w all running agreed =
    let y : Part = on_core (f.core t) (dropping_core d) in
    let own = dropping d (f.core t) running (all.once t) in
    moved_held f d _ t y all
    (λ u m k apart is. step_stays u (f.face d) _ m k (if_block (f.face d) _ _ (λ st ending. destroyed_keeps u t w (loan_on (f.core t) d) st apart ending.loan_back) agreed) is)
    (nothing_so t _ _ _ own.none_held own.none_kept) own.else_same own.once

-- A BLOCK IS ACQUIRED
record IsTaking (d : ℕ) (m : Mode) (was now : Edt) : Type 0 where
  here : mode_in d (held_in now) ≡ Some m
  there : (e : ℕ) → (d == e) ≡ false → mode_in e (held_in now) ≡ mode_in e (held_in was)

taking : (d : ℕ) (m : Mode) (s : Edt) → next_in (progress_in s) ≡ Some (d, m) → IsOrdered (held_in s) (rest_in s) → IsTaking d m s (acquired_edt (awoken s))
taking d m (phase.Acquiring p) next ordered =
    let adv = advances p.identity p.holds p.stale p.rest d m next ordered in
    record { here = adv.here; there = adv.there }
taking d m (phase.Waiting p) next ordered =
    let adv = advances p.identity p.holds p.stale p.rest d m next ordered in
    record { here = adv.here; there = adv.there }
taking d m other next ordered = cc next

-- the core of whoever gets a block
record IsGetting (d : ℕ) (m : Mode) (k : Kept) (was y : Part) : Type 0 where
  held : mode_in d (held_on y) ≡ Some m
  kept : kept_on y d ≡ Some k
  else_same : HoldsElse d was y
  once : AreKeptOnce (loans_on y)

kept_first : (d : ℕ) (k : Kept) (xs : List (ℕ × Kept)) → kept_in d (with_kept d k xs) ≡ Some k
kept_first d k xs = rw (same d) refl

kept_later : (d e : ℕ) (k : Kept) (xs : List (ℕ × Kept)) → (d == e) ≡ false → kept_in e (with_kept d k xs) ≡ kept_in e xs
kept_later d e k xs apart = rw apart (loan_kept d e xs apart)

getting : (d : ℕ) (m : Mode) (size : ℕ) (words : List ℕ) (x : Part) → next_in (core_progress x) ≡ Some (d, m) → IsOrdered (held_on x) (rest_on x) → AreKeptOnce (loans_on x)
    → IsGetting d m (kept_of m size words) x (on_core x (acquiring_core d m size words))
getting d m size words (part.Core c) next ordered once =
    let takes = taking d m c.edt next ordered in
    record {
      held = takes.here;
      kept = kept_first d (kept_of m size words) c.loans;
      else_same = λ e apart. (takes.there e apart, kept_later d e (kept_of m size words) c.loans apart);
      once = (without_once d c.loans once, once_without d c.loans once);
    }
getting d m size words other next ordered once = cc next

-- the words of a block are there, as many as it has, unless they are on loan
abbrev pub IsWhole : Part → Type 0
IsWhole (part.Block st) = st.borrower ≡ None → length st.words ≡ st.size
IsWhole other = Unit {0}

pub exclusive_isolated : (m : Mode) → is_isolated m ≡ false → is_exclusive m ≡ false
exclusive_isolated mode.Ew is = cc is
exclusive_isolated other is = refl

lent_now : (t : ℕ) (b : Bool) (st : block.State) → st.borrower ≡ None → is_number t (if b then after_lend st t else st).borrower ≡ b
lent_now t true st none = same t
lent_now t false st none = ap (is_number t) none

granted_size : (t : ℕ) (m : Mode) (st : block.State) → (granted t m st).size ≡ st.size
granted_size t m st = elim (is_exclusive m) as (λ b. (if b then after_lend (asked_if t m st) t else asked_if t m st).size ≡ st.size) [ true ↦ (asked_if_keeps t t m _ st).size | false ↦ (asked_if_keeps t t m _ st).size ]

granted_loan : (t : ℕ) (m : Mode) (b : Bool) (st : block.State) → is_isolated m ≡ b → st.borrower ≡ None → length st.words ≡ st.size → IsLoanKept t m (if b then Some (loan_of m st.words []) else None) (granted t m st)
granted_loan t m true st is none whole = record {
  fresh = refl;
  isolated = is;
  lent = lent_now t (is_exclusive m) (asked_if t m st) (asked_not_lent t m _ st ∙ none);
  size = whole ∙ sym (granted_size t m st);
}
granted_loan t m false st is none whole = record {
  shared = is;
  not_lent = lent_now t (is_exclusive m) (asked_if t m st) (asked_not_lent t m _ st ∙ none) ∙ exclusive_isolated m is;
}

joined_holder : (d : Bool) (line : block.Line) (t : ℕ) (m : Mode) → block.can_grant d line m ≡ true → mode_in t line.holders ≡ None → mode_in t (block.line_after_ask d line t m).holders ≡ Some m
joined_holder true line t m can none = cc can
joined_holder false line t m can none = rw can (mode_added t m line.holders none)

asked_holder : (t : ℕ) (m : Mode) (o : Option Mode) (st : block.State) → mode_in t st.holders ≡ o → (o ≡ Some m) ⊎ IsGranted t m st → mode_in t (if is_some o then st else after_ask st t m).holders ≡ Some m
asked_holder t m (Some k) st is (inl held) = is ∙ held
asked_holder t m (Some k) st is (inr free) = absurd (let no : Some k ≡ None = sym is ∙ free.newcomer.no_holder in cc no)
asked_holder t m None st is (inl held) = cc held
asked_holder t m None st is (inr free) = joined_holder st.destroyed (block.line st) t m free.grantable free.newcomer.no_holder

lent_holders : (t : ℕ) (b : Bool) (st : block.State) → (if b then after_lend st t else st).holders ≡ st.holders
lent_holders t true st = refl
lent_holders t false st = refl

taken_holder : (t : ℕ) (m : Mode) (st : block.State) → IsTaken t m st → mode_in t (granted t m st).holders ≡ Some m
taken_holder t m st taken = ap (mode_in t) (lent_holders t (is_exclusive m) (asked_if t m st)) ∙ asked_holder t m (mode_in t st.holders) st refl taken.fit

taken_kept : (t : ℕ) (m : Mode) (x : Part) → IsWhole x → IsBlock x (IsTaken t m) → IsBlock (with_block x (granted t m)) (IsKeptWith t m (kept_of m (size_on x) (words_on x)))
taken_kept t m (part.Block st) whole taken = record {
  holder = taken_holder t m st taken;
  size = sym (granted_size t m st);
  loan = granted_loan t m (is_isolated m) st refl taken.not_lent (whole taken.not_lent);
}
taken_kept t m other whole taken = absurd taken

both_so : (t : ℕ) (x : Part) (o : Option Mode) (p : Option Kept) (m : Mode) (k : Kept) → o ≡ Some m → p ≡ Some k → IsBlock x (IsKeptWith t m k) → IsHeldSo t x o p
both_so t x o p m k one two is = subst (λ (n : Option Mode). IsHeldSo t x n p) (sym one) (subst (IsHeldSo t x (Some m)) (sym two) is)

acquired_held : (f : Parts) (t d : ℕ) → AreHeld f → AreStanding f → IsWhole (f.face d) → next_on f t ≡ Some (d, next_mode_on f t) → IsBlock (f.face d) (IsTaken t (next_mode_on f t)) → AreHeld (acquired f t d)
acquired_held f t d all standing whole next taken =
    let m : Mode = next_mode_on f t in
    let y : Part = on_core (f.core t) (acquiring_core d m (size_on (f.face d)) (words_on (f.face d))) in
    let own = getting d m (size_on (f.face d)) (words_on (f.face d)) (f.core t) next (standing.ordered t) (all.once t) in
    moved_held f d _ t y all
    (λ u n k apart is. step_stays u (f.face d) (granted t m) n k (if_block (f.face d) _ _ (λ st take. granted_keeps u t m st apart take.not_lent) taken) is)
    (both_so t _ _ _ m (kept_of m (size_on (f.face d)) (words_on (f.face d))) own.held own.kept (taken_kept t m (f.face d) whole taken)) own.else_same own.once

-- AN EDT WAITS, starts, ends and is made ready
record IsSteady (was now : Edt) : Type 0 where
  held : (e : ℕ) → mode_in e (held_in now) ≡ mode_in e (held_in was)

steady_core : (step : Edt → Edt) (x : Part) → ((c : Core) → x ≡ part.Core c → IsSteady c.edt (step c.edt))
    → ((e : ℕ) → (mode_in e (held_on (on_core x (with_phase step))) ≡ mode_in e (held_on x)) × (kept_on (on_core x (with_phase step)) e ≡ kept_on x e)) × (loans_on (on_core x (with_phase step)) ≡ loans_on x)
steady_core step (part.Core c) steady = (λ e. ((steady c refl).held e, refl), refl)
steady_core step other steady = (λ e. (refl, refl), refl)

steady_held : (f : Parts) (t : ℕ) (step : Edt → Edt) → AreHeld f → ((c : Core) → f.core t ≡ part.Core c → IsSteady c.edt (step c.edt)) → AreHeld (with_core f t (on_core (f.core t) (with_phase step)))
steady_held f t step all steady = let own = steady_core step (f.core t) steady in cored_held f t _ all own.0 (subst AreKeptOnce (sym own.1) (all.once t))

waiting_steady : (s : Edt) → IsSteady s (waiting_edt s)
waiting_steady (phase.Acquiring p) = record { held = λ e. refl }
waiting_steady other = record { held = λ e. refl }

started_steady : (s : Edt) → IsSteady s (started_edt s)
started_steady (phase.Acquiring p) = record { held = λ e. refl }
started_steady other = record { held = λ e. refl }

passed_holds : (i : Identity) (held : List (ℕ × Mode)) (stale : List ℕ) (rest : List (ℕ × Mode)) → (with_next i held stale rest true).holds ≡ held
passed_holds i held stale [] = refl
passed_holds i held stale (one ∷ rest) = refl

stale_steady : (s : Edt) → IsSteady s (stale_edt (awoken s))
stale_steady (phase.Acquiring p) = record { held = λ e. ap (mode_in e) (passed_holds p.identity p.holds p.stale p.rest) }
stale_steady (phase.Waiting p) = record { held = λ e. ap (mode_in e) (passed_holds p.identity p.holds p.stale p.rest) }
stale_steady other = record { held = λ e. refl }

ready_steady : (members : List (ℕ × Mode)) (s : Edt) → IsSteady s (made_ready members s)
ready_steady members (phase.Filling i) = record { held = λ e. refl }
ready_steady members other = record { held = λ e. refl }

ended_steady : (s : Edt) → holds_of (work_in s) ≡ [] → IsSteady s (ended_edt s)
ended_steady (phase.Running w) nothing = record { held = λ e. ap (mode_in e) (sym nothing) }
ended_steady other nothing = record { held = λ e. refl }

waited_held : (f : Parts) (t d : ℕ) → AreHeld f → AreHeld (waited f t d)
waited_held f t d all =
    let m : Mode = next_mode_on f t in
    let g : Parts = with_face f d (with_block (f.face d) (λ st. after_ask st t m)) in
    let faced : AreHeld g = faced_held f d _ all (λ u n k is. step_stays u (f.face d) (λ st. after_ask st t m) n k (if_any (f.face d) _ (λ st. asked_keeps u t m st)) is) in
    steady_held g t waiting_edt faced (λ c is. waiting_steady c.edt)

-- AN OBJECT IS MADE
created_so : (t n fl g : ℕ) → (t == 0) ≡ false → (b : Bool) → (fl == 0) ≡ b → b ≡ true → IsKeptWith t mode.Rw (kept_created n) (block.state_of n (creator_of t fl) [])
created_so t n fl g some b is on = record {
  holder = ap (λ (c : Bool). mode_in t (block.first_holders (if c then t else 0))) (is ∙ on) ∙ ap (λ (c : Bool). mode_in t (if c then [] else (t, mode.Rw) ∷ [])) some ∙ first t;
  size = refl;
  loan = record { shared = refl; not_lent = refl };
}
  where
    first : (t : ℕ) → mode_in t ((t, mode.Rw) ∷ []) ≡ Some mode.Rw
    first t = rw (same t) refl

held_more : (g : ℕ) (s : Edt) → is_some (work_in s) ≡ true → (mode_in g (held_in (holding_edt g s)) ≡ Some mode.Rw) × ((e : ℕ) → (g == e) ≡ false → mode_in e (held_in (holding_edt g s)) ≡ mode_in e (held_in s))
held_more g (phase.Running w) running = (
  mode_in-placed g mode.Rw (without g w.holds) (mode_in-without g w.holds),
  λ e apart. mode_in-placed_other g e mode.Rw (without g w.holds) (flip g e apart) ∙ mode_in-other g e w.holds (flip g e apart),
)
held_more g other running = cc running

creating : (n g : ℕ) (x : Part) → is_running x ≡ true → AreKeptOnce (loans_on x) → IsGetting g mode.Rw (kept_created n) x (on_core x (holding_core g n))
creating n g (part.Core c) running once =
    let more = held_more g c.edt running in
    record {
      held = more.0;
      kept = kept_first g (kept_created n) c.loans;
      else_same = λ e apart. (more.1 e apart, kept_later g e (kept_created n) c.loans apart);
      once = (without_once g c.loans once, once_without g c.loans once);
    }
creating n g other running once = cc running

unchanged : (x : Part) (step : Core → Core) → ((c : Core) → step c ≡ c) → on_core x step ≡ x
unchanged (part.Core c) step same = ap part.Core (same c)
unchanged other step same = refl

creating_if : (fl g n : ℕ) (b : Bool) → (fl == 0) ≡ b → (x : Part) → on_core x (creating_core fl g n) ≡ (if b then on_core x (holding_core g n) else x)
creating_if fl g n true is (part.Core c) = rw is refl
creating_if fl g n false is (part.Core c) = rw is refl
creating_if fl g n true is other = refl
creating_if fl g n false is other = refl

made_held : (f : Parts) (t n fl g : ℕ) (b : Bool) → (fl == 0) ≡ b → AreHeld f → is_running (f.core t) ≡ true → (t == 0) ≡ false → f.face g ≡ part.Vacant
    → AreHeld (with_core (with_face f g (part.Block (block.state_of n (creator_of t fl) []))) t (if b then on_core (f.core t) (holding_core g n) else f.core t))
made_held f t n fl g true is all running some vacant =
    let x : Part = part.Block (block.state_of n (creator_of t fl) []) in
    let y : Part = on_core (f.core t) (holding_core g n) in
    let own = creating n g (f.core t) running (all.once t) in
    moved_held f g x t y all (λ u m k apart so. vacant_stays u (f.face g) x m k vacant so)
    (both_so t x (mode_in g (held_on y)) (kept_on y g) mode.Rw (kept_created n) own.held own.kept (created_so t n fl g some true is refl)) own.else_same own.once
made_held f t n fl g false is all running some vacant =
    let x : Part = part.Block (block.state_of n (creator_of t fl) []) in
    let none = vacant_none t (f.face g) _ _ vacant (all.so t g) in
    moved_held f g x t (f.core t) all (λ u m k apart so. vacant_stays u (f.face g) x m k vacant so)
    (nothing_so t x (mode_in g (held_on (f.core t))) (kept_on (f.core t) g) none.0 none.1) (λ e apart. (refl, refl)) (all.once t)

block_made_held : (f : Parts) (t n fl g : ℕ) → AreHeld f → is_running (f.core t) ≡ true → (t == 0) ≡ false → f.face g ≡ part.Vacant
    → AreHeld (with_core (with_face f g (part.Block (block.state_of n (creator_of t fl) []))) t (on_core (f.core t) (creating_core fl g n)))
block_made_held f t n fl g all running some vacant =
    subst (λ (y : Part). AreHeld (with_core (with_face f g (part.Block (block.state_of n (creator_of t fl) []))) t y)) (sym (creating_if fl g n (fl == 0) refl (f.core t)))
    (made_held f t n fl g (fl == 0) refl all running some vacant)

new_core_held : (x : Part) (i : Identity) (params : List ℕ) → ((e : ℕ) → (mode_in e (held_on (new_core x i params)) ≡ None) × (kept_on (new_core x i params) e ≡ None)) × AreKeptOnce (loans_on (new_core x i params))
new_core_held (part.Template t) i params = (λ e. (refl, refl), tt)
new_core_held other i params = (λ e. (refl, refl), tt)

vacant_core : (y : Part) (e : ℕ) → y ≡ part.Vacant → (mode_in e (held_on y) ≡ None) × (kept_on y e ≡ None)
vacant_core y e is = (ap (λ (z : Part). mode_in e (held_on z)) is, ap (λ (z : Part). kept_on z e) is)

edt_made_held : (f : Parts) (g : ℕ) (x : Part) (dc : ℕ) (i : Identity) (deps params : List ℕ) → AreHeld f → f.face g ≡ part.Vacant → f.core g ≡ part.Vacant → AreHeld (with_core (with_face f g (new_face x dc deps)) g (new_core x i params))
edt_made_held f g x dc i deps params all face core =
    let new = new_core_held x i params in
    moved_held f g _ g _ all (λ u m k apart so. vacant_stays u (f.face g) _ m k face so)
    (nothing_so g _ _ _ (new.0 g).0 (new.0 g).1)
    (λ e apart. let old = vacant_core (f.core g) e core in ((new.0 e).0 ∙ sym old.0, (new.0 e).1 ∙ sym old.1)) new.1

some_runs : (f : Parts) (t : ℕ) → is_running (f.core 0) ≡ false → is_running (f.core t) ≡ true → (t == 0) ≡ false
some_runs f t never running = ne_eqb t 0 (λ is. absurd (let none : is_running (f.core t) ≡ false = ap (λ (n : ℕ). is_running (f.core n)) is ∙ never in cc (running, none)))

-- AN EVENT IS LINKED, or satisfied
evented_held : (f : Parts) (e : ℕ) (step : AnyEvent → AnyEvent) → AreHeld f → AreHeld (with_face f e (with_event (f.face e) step))
evented_held f e step all = faced_held f e _ all (λ u n l is. evented_stays u (f.face e) step n l is)

linked_held : (b : Bool) (d : ℕ) (t : Target) (f : Parts) → AreHeld f → AreHeld (linked_if b d t f)
linked_held true d t f all = evented_held f d (λ st. event.after_link st t) all
linked_held false d t f all = all

deps_held : (t k : ℕ) (deps : List ℕ) (f : Parts) → AreHeld f → AreHeld (deps_linked t k deps f)
deps_held t k [] f all = all
deps_held t k (d ∷ rest) f all = deps_held t (k + 1) rest _ (linked_held (is_object d) d (slot_target t k) f all)

-- A SCOPE is joined, or left
scoped_held : (f : Parts) (x : ℕ) (step : scope.State → scope.State) → AreHeld f → AreHeld (with_face f x (with_scope (f.face x) step))
scoped_held f x step all = faced_held f x _ all (λ u n l is. scoped_stays u (f.face x) step n l is)

-- what stands beside a new EDT
vacated_held : (f : Parts) (g : ℕ) (x : Part) → AreHeld f → f.face g ≡ part.Vacant → AreHeld (with_face f g x)
vacated_held f g x all vacant = faced_held f g x all (λ u m l is. vacant_stays u (f.face g) x m l vacant is)

brought_held : (w : What) (f : Parts) → AreHeld f → AreHeld (brought w f)
brought_held (what.Satisfy e slot p) f all = evented_held f e (λ st. event.after_satisfy st slot p) all
brought_held (what.Leave x) f all = scoped_held f x scope.after_leave all
brought_held other f all = all

-- EACH ENTRY
called_held : (limit : ℕ) (f : Parts) (t home : ℕ) (c : body.Call) (a : Answer) (w : List (ℕ × ℕ)) → AreHeld f → is_running (f.core 0) ≡ false → is_done a.code ≡ true → IsCallOn limit f t home c a w → AreHeld (called t c a w f)
called_held limit f t home (call.DbCreate n fl) a w all never on legal = block_made_held f t (n / 8) fl a.value all legal.running (some_runs f t never legal.running) (legal.value.fresh on).vacant
called_held limit f t home (call.DbRelease d) a w all never on legal = ended_held f t d w all legal.running (legal.value.0 on)
called_held limit f t home (call.DbDestroy d) a w all never on legal = destroyed_held f t d w all legal.running (legal.value.0 on)
called_held limit f t home (call.TemplateDestroy x) a w all never on legal = faced_held f x _ all (λ u n l is. doomed_stays u (f.face x) n l is)
called_held limit f t home (call.Store d k v) a w all never on legal = faced_held f d _ all (λ u m l is. step_stays u (f.face d) (λ st. after_store st k v) m l (if_any (f.face d) _ (λ st. record { holders = λ n is. is; size = refl; lent = refl })) is)
called_held limit f t home (call.AddDependence from x i m) a w all never on legal = linked_held (not (from == 0)) from _ _ (faced_held f x _ all (λ u n l is. linked_stays u (f.face x) _ n l is))
called_held limit f t home (call.TemplateCreate function pc dc) a w all never on legal =
    let x : Part = part.Template (record { function = function; paramc = pc; depc = dc; destroyed = false }) in
    faced_held f a.value x all (λ u m l is. vacant_stays u (f.face a.value) x m l (legal.value.fresh on).vacant is)
called_held limit f t home (call.EventCreate k fl) a w all never on legal =
    let x : Part = part.Event (event.state_of k fl 0 []) in
    faced_held f a.value x all (λ u m l is. vacant_stays u (f.face a.value) x m l (legal.value.fresh on).vacant is)
called_held limit f t home (call.EventCreateParams k fl most sats nd) a w all never on legal =
    let x : Part = part.Event (event.state_of k fl most []) in
    faced_held f a.value x all (λ u m l is. vacant_stays u (f.face a.value) x m l (legal.value.fresh on).vacant is)
called_held limit f t home (call.EventDestroy x) a w all never on legal = evented_held f x event.after_destroy all
called_held limit f t home (call.Satisfy e p slot) a w all never on legal = evented_held f e (λ st. event.after_satisfy st slot p) all
called_held limit f t home (call.EdtCreate from pc params dc deps flags output) a w all never on legal =
    let home_is : ℕ = home_on (f.core t) in
    let beside : AreHeld (with_beside f home_is a) = beside_keeps limit f t home from pc dc flags params deps output a w legal AreHeld home_is all (λ k held vacant. vacated_held k a.output new_output held vacant) (λ k held vacant. vacated_held k a.scope (new_scope home_is a) held vacant) in
    deps_held a.value 0 deps _
    (edt_made_held (with_beside f home_is a) a.value (f.face from) dc (new_identity a.value flags a home_is) deps params beside (edt_free limit f t home from pc dc flags params deps output a w legal home_is on) (legal.value.no_core on))
called_held limit f t home other a w all never on legal = all

pub entry_held : (limit : ℕ) (e : Entry) (f : Parts) → AreHeld f → AreStanding f → ((d : ℕ) → IsWhole (f.face d)) → is_running (f.core 0) ≡ false → IsLegalOn limit f e → AreHeld (changed e f)
entry_held limit (Call t home c a w) f all standing whole never legal = elim (is_done a.code) as (λ b. is_done a.code ≡ b → AreHeld (if b then joined c home (called t c a w f) else f)) [
  | true ↦ λ on. let held = called_held limit f t home c a w all never on legal in joined_keeps AreHeld c home (called t c a w f) held (λ _. scoped_held (called t c a w f) home scope.after_join held)
  | false ↦ λ _. all
] refl
entry_held limit (Deliver m c) f all standing whole never legal = elim (is_done c) as (λ b. AreHeld (if b then brought m.what f else f)) [ true ↦ brought_held m.what f all | false ↦ all ]
entry_held limit (Acquire t d) f all standing whole never legal = acquired_held f t d all standing (whole d) legal.next legal.taken
entry_held limit (Wait t d) f all standing whole never legal = waited_held f t d all
entry_held limit (StaleAcquire t d) f all standing whole never legal = steady_held f t (λ e. stale_edt (awoken e)) all (λ c is. stale_steady c.edt)
entry_held limit (Start t) f all standing whole never legal = steady_held f t started_edt all (λ c is. started_steady c.edt)
entry_held limit (Free t d w) f all standing whole never legal = ended_held f t d w all legal.running legal.held
entry_held limit (End t g) f all standing whole never legal = steady_held f t ended_edt all (λ c is. ended_steady c.edt (ap (λ (x : Part). holds_of (work_of x)) (sym is) ∙ legal.nothing_held))
entry_held limit other f all standing whole never legal = all

pub ready_held : (f : Parts) (t : ℕ) (members : List (ℕ × Mode)) → AreHeld f → AreHeld (ready_at t members f)
ready_held f t members all = steady_held f t (made_ready members) all (λ c is. ready_steady members c.edt)
