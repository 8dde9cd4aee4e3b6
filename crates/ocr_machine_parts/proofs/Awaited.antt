-- A block that an EDT acquires next is not on loan to it.
use Rattle.std.proofs.Common.{◌≡◌, ℕ, ◌/◌, List, [], ◌∷◌, Bool, true, false, Option, Some, None, ◌==◌, ◌&&◌, ◌||◌, not, if◌then◌else◌, refl, sym, ◌∙◌, ap, is_some}
use Rattle.std.proofs.lemmas.Bool.{eqb-true}
use Rattle.std.specs.List.{filter}
use Rattle.std.proofs.Math.Bool.{or-true}
use Rattle.ocr_acquire.specs.declared.Mode.{Mode}
use Rattle.ocr_acquire.specs.declared.Mode.TheVariants as mode
use Rattle.ocr_datablock.specs.Block as block
use Rattle.ocr_datablock.proofs.Laws.{loan_law}
use Rattle.ocr_edt.specs.Edt as edt
use Rattle.ocr_edt.specs.Phases.{first_of}
use Rattle.ocr_body_meaning.specs.Holds.{is_done}
use Rattle.ocr_body_meaning.specs.declared.call.Call as body
use Rattle.ocr_body_meaning.specs.declared.call.Call.TheVariants as call
use Rattle.ocr_body_meaning.specs.declared.call.Answer.{Answer}
use Rattle.ocr_machine_history.specs.declared.entry.Entry.TheVariants.{Call, Acquire, Wait, StaleAcquire, Start, Free, End}
use Rattle.ocr_machine_history.specs.History.{History, Setting}
use Rattle.ocr_machine_history.specs.Made.{made, is_new, creator_in}
use Rattle.ocr_machine_parts.specs.Calls.{edt_step, edt_calls, with_plan, awake, plan_of, loan_step, loans_of, next_member, block_calls, kept_now}
use Rattle.ocr_machine_parts.specs.Legal.{IsRun}
use Rattle.ocr_machine_parts.specs.Laws.{AwaitedLaw}
use Rattle.ocr_machine_parts.proofs.Lent.{lent_law}
use Rattle.ocr_machine_parts.proofs.Allowed.{allowed_law}
use Rattle.ocr_acquire.specs.Mode.{mode_in}
use Rattle.ocr_machine_parts.specs.Loans.{kept_created, kept_in, with_kept, without_kept}
use Rattle.ocr_machine_parts.specs.declared.loans.Kept.{Kept}

-- an EDT that has a loan of a block has acquired it
abbrev has_loan : ℕ → List (ℕ × Kept) → Bool
has_loan d [] = false
has_loan d (one ∷ rest) = ((one.0 == d) && is_some one.1.loan) || has_loan d rest

abbrev IsHad : ℕ → List (ℕ × Kept) → List edt.EdtCall → Type 0
IsHad d loans calls = has_loan d loans ≡ true → edt.was_acquired d calls ≡ true

fewer : (b d : ℕ) (loans : List (ℕ × Kept)) → has_loan d (without_kept b loans) ≡ true → has_loan d loans ≡ true
fewer b d [] is = is
fewer b d (one ∷ rest) is = elim (one.0 == b) as (λ x. has_loan d (if x then rest else one ∷ without_kept b rest) ≡ true → (((one.0 == d) && is_some one.1.loan) || has_loan d rest) ≡ true) [
  | true ↦ λ is. rw is (or-true ((one.0 == d) && is_some one.1.loan))
  | false ↦ λ is. elim ((one.0 == d) && is_some one.1.loan) as (λ y. (y || has_loan d (without_kept b rest)) ≡ true → (y || has_loan d rest) ≡ true) [ true ↦ λ _. refl | false ↦ λ is. fewer b d rest is ] is
] is

fewer_if : (c : Bool) (b d : ℕ) (loans : List (ℕ × Kept)) → has_loan d (if c then without_kept b loans else loans) ≡ true → has_loan d loans ≡ true
fewer_if true b d loans is = fewer b d loans is
fewer_if false b d loans is = is

-- what is kept with a block that was made is no loan
no_loan : (c b : Bool) → (c && false) || b ≡ b
no_loan true b = refl
no_loan false b = refl

created_if : (c : Bool) (g z d : ℕ) (loans : List (ℕ × Kept)) → has_loan d (if c then with_kept g (kept_created z) loans else loans) ≡ true → has_loan d loans ≡ true
created_if true g z d loans is = fewer g d loans (sym (no_loan (g == d) (has_loan d (without_kept g loans))) ∙ is)
created_if false g z d loans is = is

-- a loan that is kept with a block
has_kept : (d : ℕ) (loans : List (ℕ × Kept)) (k : Kept) → kept_in d loans ≡ Some k → is_some k.loan ≡ true → has_loan d loans ≡ true
has_kept d [] k is lent = cc is
has_kept d (one ∷ rest) k is lent = elim (one.0 == d) as (λ x. (if x then Some one.1 else kept_in d rest) ≡ Some k → ((x && is_some one.1.loan) || has_loan d rest) ≡ true) [
  | true ↦ λ is. let e : one.1 ≡ k = cc in rw (ap (λ (j : Kept). is_some j.loan) e ∙ lent) refl
  | false ↦ λ is. has_kept d rest k is lent
] is

had_if : (c : Bool) (d : ℕ) (x y : List edt.EdtCall) → edt.was_acquired d x ≡ true → edt.was_acquired d y ≡ true → edt.was_acquired d (if c then x else y) ≡ true
had_if true d x y p q = p
had_if false d x y p q = q

had_ready : (d : ℕ) (members : List (ℕ × Mode)) (calls : List edt.EdtCall) → edt.was_acquired d calls ≡ true → edt.was_acquired d (with_plan members calls) ≡ true
had_ready d members [] is = cc is
had_ready d members (one ∷ rest) is = is

had_awake : (d : ℕ) (calls : List edt.EdtCall) → edt.was_acquired d calls ≡ true → edt.was_acquired d (awake calls) ≡ true
had_awake d [] is = is
had_awake d (edt.Wait ∷ rest) is = is
had_awake d (other ∷ rest) is = is

had_new : (c : Bool) (d : ℕ) (loans : List (ℕ × Kept)) (calls : List edt.EdtCall) → IsHad d loans calls → IsHad d (if c then [] else loans) (if c then [] else calls)
had_new true d loans calls had is = cc is
had_new false d loans calls had is = had is

had_step : (by : ℕ) (c : body.Call) (a : Answer) (t d : ℕ) (loans : List (ℕ × Kept)) (calls : List edt.EdtCall) → IsHad d loans calls → IsHad d (loan_step by c a t loans) (edt_step by c a t calls)
had_step by (call.DbRelease b) a t d loans calls had is =
    let before : edt.was_acquired d calls ≡ true = had (fewer_if (is_done a.code && (by == t)) b d loans is) in
    had_if (is_done a.code && (by == t)) d (edt.DropHold b ∷ calls) calls before before
had_step by (call.DbDestroy b) a t d loans calls had is =
    let before : edt.was_acquired d calls ≡ true = had (fewer_if (is_done a.code && (by == t)) b d loans is) in
    had_if (is_done a.code && (by == t)) d (edt.DropHold b ∷ calls) calls before before
had_step by (call.DbCreate n fl) a t d loans calls had is = let before : edt.was_acquired d calls ≡ true = had (created_if (is_done a.code && ((by == t) && (fl == 0))) a.value (n / 8) d loans is) in had_if (is_done a.code && ((by == t) && (fl == 0))) d (edt.Hold a.value ∷ calls) calls before before
had_step by other a t d loans calls had is = had is

had_acquired : (c : Bool) (b d : ℕ) (k : Kept) (members : List (ℕ × Mode)) (loans : List (ℕ × Kept)) (calls : List edt.EdtCall) → IsHad d loans calls
    → IsHad d (if c then with_kept b k loans else loans) (if c then edt.Acquired b ∷ awake (with_plan members calls) else calls)
had_acquired false b d k members loans calls had is = had is
had_acquired true b d k members loans calls had is =
    elim (b == d) as (λ x. ((x && is_some k.loan) || has_loan d (without_kept b loans)) ≡ true → (x || edt.was_acquired d (awake (with_plan members calls))) ≡ true) [
      | true ↦ λ is. refl
      | false ↦ λ is. had_awake d (with_plan members calls) (had_ready d members calls (had (fewer b d loans is)))
    ] is

had : (s : Setting) (past : History) (t d : ℕ) → IsHad d (loans_of s past t) (edt_calls s past t)
had s [] t d is = cc is
had s (Call by home c a w ∷ past) t d is = had_new (is_new c a t) d (loan_step by c a t (loans_of s past t)) (edt_step by c a t (edt_calls s past t)) (had_step by c a t d (loans_of s past t) (edt_calls s past t) (had s past t d)) is
had s (Acquire u b ∷ past) t d is = had_acquired (u == t) b d (kept_now s past u b) (plan_of s past t) (loans_of s past t) (edt_calls s past t) (had s past t d) is
had s (StaleAcquire u b ∷ past) t d is = had_if (u == t) d (edt.FoundStale b ∷ awake (with_plan (plan_of s past t) (edt_calls s past t))) (edt_calls s past t)
    (had_awake d (with_plan (plan_of s past t) (edt_calls s past t)) (had_ready d (plan_of s past t) (edt_calls s past t) (had s past t d is))) (had s past t d is)
had s (Wait u b ∷ past) t d is = had_if (u == t) d (edt.Wait ∷ with_plan (plan_of s past t) (edt_calls s past t)) (edt_calls s past t) (had_ready d (plan_of s past t) (edt_calls s past t) (had s past t d is)) (had s past t d is)
had s (Start u ∷ past) t d is = had_if (u == t) d (edt.Start ∷ with_plan (plan_of s past t) (edt_calls s past t)) (edt_calls s past t) (had_ready d (plan_of s past t) (edt_calls s past t) (had s past t d is)) (had s past t d is)
had s (Free u b w ∷ past) t d is =
    let before : edt.was_acquired d (edt_calls s past t) ≡ true = had s past t d (fewer_if (u == t) b d (loans_of s past t) is) in
    had_if (u == t) d (edt.DropHold b ∷ edt_calls s past t) (edt_calls s past t) before before
had s (End u g ∷ past) t d is = had_if (u == t) d (edt.End ∷ edt_calls s past t) (edt_calls s past t) (had s past t d is) (had s past t d is)
had s (e ∷ past) t d is = had s past t d is

-- what comes next was not acquired
first_kept : (test : ℕ × Mode → Bool) (members : List (ℕ × Mode)) (x : ℕ × Mode) → first_of (filter test members) ≡ Some x → test x ≡ true
first_kept test [] x is = cc is
first_kept test (one ∷ rest) x is = elim (test one) as (λ b. test one ≡ b → first_of (if b then one ∷ filter test rest else filter test rest) ≡ Some x → test x ≡ true) [
  | true ↦ λ on is. let e : one ≡ x = cc in ap test (sym e) ∙ on
  | false ↦ λ _ is. first_kept test rest x is
] refl is

pub not_first : (a b : Bool) → (not a && b) ≡ true → a ≡ false
not_first true b is = cc is
not_first false b is = refl

alone_is : (u t : ℕ) → is_some (mode_in t ((u, mode.Ew) ∷ [])) ≡ true → u ≡ t
alone_is u t is = elim (u == t) as (λ b. (u == t) ≡ b → is_some (if b then Some mode.Ew else None) ≡ true → u ≡ t) [
  | true ↦ λ same _. eqb-true u t same
  | false ↦ λ _ is. cc is
] refl is

free : (s : Setting) (past : History) (t d : ℕ) (m : Mode) (o : Option ℕ) → IsRun s past → block.borrower_of (block_calls s past d) ≡ o → next_member s past t ≡ Some (d, m)
    → is_some (mode_in t (block.holders_of (creator_in (made s past d)) (block_calls s past d))) ≡ true → o ≡ None
free s past t d m None run is next held = refl
free s past t d m (Some u) run is next held =
    let calls = with_plan (plan_of s past t) (edt_calls s past t) in
    let alone = (loan_law _ _ (block_calls s past d) u (allowed_law s past run d) is).0 in
    let own : u ≡ t = alone_is u t (ap (λ (h : List (ℕ × Mode)). is_some (mode_in t h)) (sym alone) ∙ held) in
    let loan = (lent_law s past run d t (is ∙ ap (λ (n : ℕ). Some n) own)).0 in
    let acquired : edt.was_acquired d calls ≡ true = had_ready d (plan_of s past t) (edt_calls s past t) (had s past t d (has_kept d (loans_of s past t) _ loan refl)) in
    let not_yet : edt.was_acquired d calls ≡ false = not_first _ _ (first_kept _ (edt.plan_given calls) (d, m) next) in
    absurd (cc (acquired, not_yet))

pub awaited_law : AwaitedLaw
awaited_law s past run t d m next held = free s past t d m (block.borrower_of (block_calls s past d)) run refl next held
