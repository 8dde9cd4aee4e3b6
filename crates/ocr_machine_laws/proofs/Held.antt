-- What the EDTs of a run hold, and that a running EDT may give back what it holds.
use Rattle.std.proofs.Common.{◌≡◌, inl, inr, ℕ, List, [], ◌∷◌, true, false, Option, Some, None, ◌==◌, if◌then◌else◌, refl, sym, ◌∙◌, ap, subst, is_some, length, arith}
use Rattle.std.proofs.lemmas.Bool.{eqb-true}
use Rattle.ocr_guid.specs.Target.{EventCall}
use Rattle.ocr_acquire.specs.declared.Mode.{Mode}
use Rattle.ocr_acquire.specs.Mode.{is_exclusive, mode_in, is_isolated}
use Rattle.ocr_slots.specs.Slots as slot
use Rattle.ocr_datablock.specs.Block as block
use Rattle.ocr_datablock.specs.Lent.{Loan}
use Rattle.ocr_datablock.proofs.Laws.{words_law}
use Rattle.ocr_edt.specs.declared.Edt.{Edt}
use Rattle.ocr_edt.specs.declared.Edt.TheVariants as phase
use Rattle.ocr_machine_history.specs.declared.entry.Entry.{Entry}
use Rattle.ocr_machine_history.specs.declared.entry.Entry.TheVariants.{Call, Acquire, Wait, Start, StaleAcquire}
use Rattle.ocr_machine_history.specs.History.{History, Setting}
use Rattle.ocr_machine_history.specs.Made.{Made, MadeBlock, MadeEdt, is_new, made, opened}
use Rattle.ocr_machine_parts.specs.declared.loans.Kept.{Kept}
use Rattle.ocr_machine_parts.specs.declared.part.Part.{Part}
use Rattle.ocr_machine_parts.specs.declared.part.Part.TheVariants as part
use Rattle.ocr_machine_parts.specs.Calls.{plan_of, link_calls, block_calls, edt_calls, loans_of, event_calls, scope_calls}
use Rattle.ocr_machine_parts.specs.Parts.{Parts, plain_identity, identity_of, face, core, parts_of}
use Rattle.ocr_machine_parts.specs.Kinds.{IsBlock, is_held_by, on_core, work_in, work_of, is_running, holds_of, mode_on, kept_on, loan_on}
use Rattle.ocr_machine_parts.specs.Progress.{with_phase, made_ready, ready_at, readied_on}
use Rattle.ocr_machine_parts.specs.LegalOn.{IsLoanBack, IsHeld}
use Rattle.ocr_machine_parts.specs.Legal.{IsRun}
use Rattle.ocr_edt.specs.declared.Identity.{Identity}
use Rattle.ocr_machine_parts.proofs.After.{after_law}
use Rattle.ocr_machine_parts.proofs.Fresh.{new_fresh, made_old}
use Rattle.ocr_machine_laws.specs.Waits.{standing, held_in, awaits_in, held_on, awaits, IsHolding}
use Rattle.ocr_machine_laws.proofs.States.{in_front}
use Rattle.ocr_machine_laws.proofs.Stages.{readied_standing, standing_law}
use Rattle.ocr_machine_laws.specs.Held.{IsLoanKept, IsHeldSo, loans_on, AreKeptOnce, AreHeld, HoldingLaw, HeldLaw, IsFitting, KeepsFor, KeptFitsLaw, IsKeptWith}
use Rattle.ocr_machine_laws.proofs.Entries.{IsWhole, nothing_so, entry_held, ready_held}
use Rattle.ocr_machine_parts.specs.Loans.{loan_in}
use Rattle.ocr_finish.specs.Scope.{ScopeCall}

-- NOTHING has the number 0
pub zero_law : (s : Setting) (past : History) → IsRun s past → made s past 0 ≡ None
zero_law s [] run = refl
zero_law s (Call t home c a w ∷ past) run = elim (is_new c a 0) as (λ b. is_new c a 0 ≡ b → made s (Call t home c a w ∷ past) 0 ≡ None) [
  | true ↦ λ is. absurd (let some = (new_fresh s.limit (parts_of s past) t home c a w 0 run.1.on_parts is).some in omega (arith, some))
  | false ↦ λ off. made_old s past t home c a w 0 off ∙ zero_law s past run.0
] refl
zero_law s (e ∷ past) run = zero_law s past run.0

ready_zero : (f : Parts) (t : ℕ) (members : List (ℕ × Mode)) → f.core 0 ≡ part.Vacant → (ready_at t members f).core 0 ≡ part.Vacant
ready_zero f t members is = elim (t == 0) as (λ b. (t == 0) ≡ b → (if b then on_core (f.core t) (with_phase (made_ready members)) else f.core 0) ≡ part.Vacant) [
  | true ↦ λ here. ap (λ (n : ℕ). on_core (f.core n) (with_phase (made_ready members))) (eqb-true t 0 here) ∙ ap (λ (x : Part). on_core x (with_phase (made_ready members))) is
  | false ↦ λ _. is
] refl

readied_zero : (s : Setting) (past : History) (e : Entry) → (parts_of s past).core 0 ≡ part.Vacant → (readied_on s past e (parts_of s past)).core 0 ≡ part.Vacant
readied_zero s past (Acquire t d) is = ready_zero (parts_of s past) t (plan_of s past t) is
readied_zero s past (Wait t d) is = ready_zero (parts_of s past) t (plan_of s past t) is
readied_zero s past (StaleAcquire t d) is = ready_zero (parts_of s past) t (plan_of s past t) is
readied_zero s past (Start t) is = ready_zero (parts_of s past) t (plan_of s past t) is
readied_zero s past other is = is

never_runs : (s : Setting) (past : History) (e : Entry) → IsRun s past → is_running ((readied_on s past e (parts_of s past)).core 0) ≡ false
never_runs s past e run = ap is_running (readied_zero s past e (ap (λ (m : Option Made). core m (identity_of past 0) (edt_calls s past 0) (loans_of s past 0)) (zero_law s past run)))

-- THE WORDS of a block are there
whole_face : (m : Option Made) (links : List slot.SlotCall) (blocks : List block.BlockCall) (events : List EventCall) (scopes : List ScopeCall) → IsWhole (face m links blocks events scopes)
whole_face (Some (MadeBlock n c)) links blocks events scopes = λ none. let words = words_law n c blocks in ap (λ (l : List ℕ). length l) (words.0 none) ∙ words.1
whole_face other links blocks events scopes = tt

readied_whole : (s : Setting) (past : History) (e : Entry) (d : ℕ) → IsWhole ((readied_on s past e (parts_of s past)).face d)
readied_whole s past (Acquire t b) d = whole_face (made s past d) (link_calls past d) (block_calls s past d) (event_calls s past d) (scope_calls past d)
readied_whole s past (Wait t b) d = whole_face (made s past d) (link_calls past d) (block_calls s past d) (event_calls s past d) (scope_calls past d)
readied_whole s past (StaleAcquire t b) d = whole_face (made s past d) (link_calls past d) (block_calls s past d) (event_calls s past d) (scope_calls past d)
readied_whole s past (Start t) d = whole_face (made s past d) (link_calls past d) (block_calls s past d) (event_calls s past d) (scope_calls past d)
readied_whole s past other d = whole_face (made s past d) (link_calls past d) (block_calls s past d) (event_calls s past d) (scope_calls past d)

-- AFTER EACH RUN
new_held : (m : Option Made) (i : Identity) (e : ℕ) → (mode_in e (held_on (core m i [] [])) ≡ None) × (kept_on (core m i [] []) e ≡ None)
new_held (Some (MadeEdt f ps n)) i e = (refl, refl)
new_held other i e = (refl, refl)

new_once : (m : Option Made) (i : Identity) → AreKeptOnce (loans_on (core m i [] []))
new_once (Some (MadeEdt f ps n)) i = tt
new_once other i = tt

readied_held : (s : Setting) (past : History) (e : Entry) → AreHeld (parts_of s past) → AreHeld (readied_on s past e (parts_of s past))
readied_held s past (Acquire t d) all = ready_held (parts_of s past) t (plan_of s past t) all
readied_held s past (Wait t d) all = ready_held (parts_of s past) t (plan_of s past t) all
readied_held s past (StaleAcquire t d) all = ready_held (parts_of s past) t (plan_of s past t) all
readied_held s past (Start t) all = ready_held (parts_of s past) t (plan_of s past t) all
readied_held s past other all = all

pub holding_law : HoldingLaw
holding_law s [] run = record {
  so = λ t d. let new = new_held (opened s t) (plain_identity t) d in nothing_so t ((parts_of s []).face d) (mode_in d (held_on ((parts_of s []).core t))) (kept_on ((parts_of s []).core t) d) new.0 new.1;
  once = λ t. new_once (opened s t) (plain_identity t);
}
holding_law s (e ∷ past) run =
    subst AreHeld (sym (after_law s past e run.0 run.1))
    (entry_held s.limit e (readied_on s past e (parts_of s past)) (readied_held s past e (holding_law s past run.0)) (readied_standing s past e (standing_law s past run.0))
    (readied_whole s past e) (never_runs s past e run.0) run.1.on_parts)

-- A HOLD THAT MAY END
running_edt : (e : Edt) → is_some (work_in e) ≡ true → (held_in e ≡ holds_of (work_in e)) × (awaits_in e ≡ None)
running_edt (phase.Running w) is = (refl, refl)
running_edt other is = cc is

pub running_core : (x : Part) → is_running x ≡ true → (held_on x ≡ holds_of (work_of x)) × (awaits x ≡ None)
running_core (part.Core c) is = running_edt c.edt is
running_core other is = cc is

back_from : (t : ℕ) (m : Mode) (loan : Option Loan) (st : block.State) → IsLoanKept t m loan st → IsLoanBack t loan st
back_from t m None st is = is.not_lent
back_from t m (Some l) st is = record { lent = is.lent ∙ ap (λ (k : Loan). is_exclusive k.mode) (sym is.fresh); size = λ _. is.size }

kept_ends : (t d : ℕ) (m : Mode) (y : Part) (st : block.State) (k : Option Kept) → kept_on y d ≡ k → mode_on y d ≡ Some m → mode_in t st.holders ≡ Some m → IsHeldSo t (part.Block st) (Some m) k → IsHeld t (mode_on y d) (loan_on y d) st
kept_ends t d m y st None kept mode holder so = absurd so
kept_ends t d m y st (Some k) kept mode holder so = record {
  holder = ap (λ (o : Option Mode). is_some o) holder;
  same = mode ∙ sym holder;
  loan_back = subst (λ (o : Option Loan). IsLoanBack t o st) (sym (loan_is y d k kept)) (back_from t m k.loan st so.loan);
}
  where
    loan_is : (y : Part) (d : ℕ) (k : Kept) → kept_on y d ≡ Some k → loan_on y d ≡ k.loan
    loan_is y d k is = ap (λ (o : Option Kept). loan_in o) is

held_from : (x y : Part) (t d : ℕ) → is_running y ≡ true → is_held_by x t ≡ true → ((m : Mode) → mode_in t (standing x) ≡ Some m → IsHolding y d m) → IsHeldSo t x (mode_in d (held_on y)) (kept_on y d)
    → IsBlock x (IsHeld t (mode_on y d) (loan_on y d))
held_from (part.Block st) y t d running held holds so = elim (mode_in t st.holders) as (λ o. mode_in t st.holders ≡ o → is_some o ≡ true → IsHeld t (mode_on y d) (loan_on y d) st) [
  | None ↦ λ _ no. cc no
  | Some m ↦ λ is _.
      let runs = running_core y running in
      let has : mode_in d (held_on y) ≡ Some m = elim (holds m (in_front t st.holders st.queue m is)) [
        | inl has ↦ has
        | inr waits ↦ absurd (let no : None ≡ Some (d, m) = sym runs.1 ∙ waits in cc no)
      ] in
      kept_ends t d m y st (kept_on y d) refl (ap (mode_in d) (sym runs.0) ∙ has) is (subst (λ (n : Option Mode). IsHeldSo t (part.Block st) n (kept_on y d)) has so)
] refl held
held_from other y t d running held holds so = cc held

pub held_law : HeldLaw
held_law s past t d run running held =
    held_from ((parts_of s past).face d) ((parts_of s past).core t) t d running held ((standing_law s past run).holds t d) ((holding_law s past run).so t d)

-- WHAT IS KEPT fits the hold
held_edt : (e : Edt) (d : ℕ) (m : Mode) → mode_in d (holds_of (work_in e)) ≡ Some m → mode_in d (held_in e) ≡ Some m
held_edt (phase.Running w) d m is = is
held_edt other d m is = cc is

pub mode_held : (x : Part) (d : ℕ) (m : Mode) → mode_on x d ≡ Some m → mode_in d (held_on x) ≡ Some m
mode_held (part.Core c) d m is = held_edt c.edt d m is
mode_held other d m is = cc is

loan_fits : (t : ℕ) (m : Mode) (kept : Kept) (o : Option Loan) (st : block.State) → kept.loan ≡ o → kept.size ≡ st.size → IsLoanKept t m o st → is_isolated m ≡ true → (words : List ℕ) × IsFitting m kept words
loan_fits t m kept None st is size unlent isolated = absurd (let off = unlent.shared in cc (isolated, off))
loan_fits t m kept (Some l) st is size of isolated = (l.began, record { loan = is ∙ ap (λ (k : Loan). Some k) of.fresh; size = of.size ∙ sym size })

kept_fits : (t : ℕ) (m : Mode) (kept : Kept) (x : Part) → IsBlock x (IsKeptWith t m kept) → is_isolated m ≡ true → (words : List ℕ) × IsFitting m kept words
kept_fits t m kept (part.Block st) is isolated = loan_fits t m kept kept.loan st refl is.size is.loan isolated
kept_fits t m kept other is isolated = absurd is

keeps_for : (t d : ℕ) (m : Mode) (x y : Part) (o : Option Kept) → kept_on y d ≡ o → IsHeldSo t x (Some m) o → (kept : Kept) × KeepsFor y d m kept
keeps_for t d m x y None is so = absurd so
keeps_for t d m x y (Some kept) is so = (kept, record { is_kept = is; isolated = kept_fits t m kept x so })

pub kept_fits_law : KeptFitsLaw
kept_fits_law s past t d m run is =
    let y : Part = (parts_of s past).core t in
    let so = subst (λ (o : Option Mode). IsHeldSo t ((parts_of s past).face d) o (kept_on y d)) (mode_held y d m is) ((holding_law s past run).so t d) in
    keeps_for t d m ((parts_of s past).face d) y (kept_on y d) refl so
