-- When an EDT goes on, in plain words.
use Rattle.std.proofs.Common.{◌≡◌, inl, inr, ℕ, nat_lt, List, [], ◌∷◌, Bool, true, false, ◌&&◌, not, Option, Some, None, refl, sym, ◌∙◌, ap, subst, is_some}
use Rattle.ocr_acquire.specs.declared.Mode.{Mode}
use Rattle.ocr_acquire.specs.Mode.{is_null, mode_in}
use Rattle.ocr_acquire.proofs.Laws.{given_law}
use Rattle.ocr_slots.specs.Slots as slot
use Rattle.ocr_datablock.specs.Block as block
use Rattle.ocr_edt.specs.declared.Edt.{Edt}
use Rattle.ocr_edt.specs.declared.Edt.TheVariants as phase
use Rattle.ocr_edt.specs.declared.Identity.{Identity}
use Rattle.ocr_edt.specs.Edt as edt
use Rattle.ocr_edt.specs.Phases.{Progress, first_of, next_of}
use Rattle.ocr_machine_history.specs.declared.entry.Entry.TheVariants.{Acquire, Wait, StaleAcquire, Start}
use Rattle.ocr_machine_history.specs.Edts.{is_started}
use Rattle.ocr_machine_history.specs.History.{History, Setting, is_stopped}
use Rattle.ocr_machine_history.specs.Made.{Made, MadeBlock, MadeEdt, made, creator_in, is_edt, is_edt_made}
use Rattle.ocr_machine_parts.specs.declared.loans.Kept.{Kept}
use Rattle.ocr_machine_parts.specs.declared.part.Part.{Part}
use Rattle.ocr_machine_parts.specs.declared.part.Part.TheVariants as part
use Rattle.ocr_machine_parts.specs.Calls.{asks_in, slots_now, plan_of, with_plan, edt_calls, loans_of, link_calls, block_calls, event_calls, mode_next, next_member, open_slots, scope_calls}
use Rattle.ocr_machine_parts.specs.Parts.{Parts, face, core, identity_of, parts_of}
use Rattle.ocr_machine_parts.specs.Kinds.{IsBlock, is_block, on_core, progress_in, core_progress, next_in, is_acquiring, is_acquiring_edt}
use Rattle.ocr_machine_parts.specs.Progress.{with_phase, made_ready, ready_at, next_on, next_mode_on}
use Rattle.ocr_machine_parts.specs.LegalOn.{IsTaken, IsRefused}
use Rattle.ocr_machine_parts.specs.Legal.{IsRun, IsLegal, IsOnParts}
use Rattle.ocr_machine_parts.proofs.Lent.{ready_core}
use Rattle.ocr_machine_parts.proofs.Phases.{ready_calls}
use Rattle.ocr_machine_parts.proofs.Allowed.{free_law}
use Rattle.ocr_machine_parts.proofs.Awaited.{awaited_law}
use Rattle.ocr_machine_laws.specs.Waits.{standing, is_gone_on, held_on, rest_on, AreStanding, AreBlocks, awaits_in, awaits}
use Rattle.ocr_machine_laws.specs.Marks.{mark_in, mark, IsMarkOf}
use Rattle.ocr_machine_laws.proofs.States.{in_front}
use Rattle.ocr_machine_laws.proofs.Waiters.{ready_standing}
use Rattle.ocr_machine_laws.proofs.Passes.{gone_is}
use Rattle.ocr_machine_laws.proofs.Stages.{standing_law, told_law, ready_told}
use Rattle.ocr_machine_laws.proofs.Given.{wanted_law, ready_there}
use Rattle.ocr_machine_laws.proofs.Edts.{edts_law}
use Rattle.ocr_machine_laws.proofs.Sleepers.{IsComing, coming, IsFirst, first_facts, holding_next}
use Rattle.ocr_machine_laws.specs.Plain.{next_planned, NextLaw, IsReady, IsReadyFor, IsAvailable, IsUnavailable, AcquireLaw, WaitLaw, StaleLaw, BeginLaw, is_undone, grants}
use Rattle.ocr_machine_laws.proofs.Own.{goes_on, not_started}
use Rattle.ocr_machine_laws.proofs.Planned.{planned_law, ready_is}
use Rattle.std.specs.List.{filter}
use Rattle.ocr_guid.specs.Target.{EventCall}
use Rattle.ocr_finish.specs.Scope.{ScopeCall}
use Rattle.ocr_datablock.proofs.Lines.{mode_skips, none_first, none_second}

-- WHAT COMES NEXT, by the calls of the EDT and by its core
phase_rest : (i : Identity) (one : edt.EdtCall) (rest : List edt.EdtCall) (p : Progress) → progress_in (edt.edt_of i (one ∷ rest)) ≡ Some p → p.rest ≡ edt.undone_of (one ∷ rest)
phase_rest i edt.Wait rest p is = cc is
phase_rest i other rest p is = cc is

progress_rest : (i : Identity) (calls : List edt.EdtCall) (p : Progress) → progress_in (edt.edt_of i calls) ≡ Some p → p.rest ≡ edt.undone_of calls
progress_rest i [] p is = cc is
progress_rest i (one ∷ rest) p is = phase_rest i one rest p is

next_by : (o : Option Progress) (p : Progress) (rest : List (ℕ × Mode)) → o ≡ Some p → p.rest ≡ rest → next_in o ≡ first_of rest
next_by o p rest is same = ap next_in is ∙ ap first_of same

next_core : (m : Option Made) (i : Identity) (members : List (ℕ × Mode)) (calls : List edt.EdtCall) (loans : List (ℕ × Kept)) (p : Progress)
    → core_progress (on_core (core m i calls loans) (with_phase (made_ready members))) ≡ Some p
    → next_in (core_progress (on_core (core m i calls loans) (with_phase (made_ready members)))) ≡ first_of (edt.undone_of (with_plan members calls))
next_core (Some (MadeEdt f ps n)) i members calls loans p is =
    next_by (progress_in (made_ready members (edt.edt_of i calls))) p (edt.undone_of (with_plan members calls)) is
    (progress_rest i (with_plan members calls) p (ap progress_in (ready_calls i members calls) ∙ is))
next_core other i members calls loans p is = cc is

undone_ready : (members : List (ℕ × Mode)) (calls : List edt.EdtCall) → edt.undone_of (with_plan members calls) ≡ filter (λ (member : ℕ × Mode). is_undone calls member) (edt.plan_given (with_plan members calls))
undone_ready members [] = refl
undone_ready members (one ∷ rest) = refl

member_planned : (s : Setting) (past : History) (t : ℕ) → IsRun s past → is_edt past t ≡ true → next_member s past t ≡ next_planned s past t
member_planned s past t run is_one =
    ap first_of (undone_ready (plan_of s past t) (edt_calls s past t)
    ∙ ap (λ (l : List (ℕ × Mode)). filter (λ (member : ℕ × Mode). is_undone (edt_calls s past t) member) l) (ready_is (plan_of s past t) (edt_calls s past t) (planned_law s past t run is_one)))

-- an EDT that has not started, made ready
record IsAwake (s : Setting) (past : History) (t : ℕ) (y : Part) : Type 0 where
  comes : IsComing y
  next : next_in (core_progress y) ≡ next_member s past t

below_ready_edt : (members : List (ℕ × Mode)) (e : Edt) → nat_lt 1 (mark_in e).0 ≡ false → nat_lt 1 (mark_in (made_ready members e)).0 ≡ false
below_ready_edt members (phase.Filling i) is = refl
below_ready_edt members other is = is

below_ready : (members : List (ℕ × Mode)) (x : Part) → nat_lt 1 (mark x).0 ≡ false → nat_lt 1 (mark (on_core x (with_phase (made_ready members)))).0 ≡ false
below_ready members (part.Core c) is = below_ready_edt members c.edt is
below_ready members other is = is

awake : (s : Setting) (past : History) (t : ℕ) → IsRun s past → is_edt past t ≡ true → is_started past t ≡ false → IsAwake s past t ((ready_at t (plan_of s past t) (parts_of s past)).core t)
awake s past t run is_one off =
    let members : List (ℕ × Mode) = plan_of s past t in
    let below : nat_lt 1 (mark ((parts_of s past).core t)).0 ≡ false = sym (told_law s past run t).has_started ∙ off in
    let comes = coming (made s past t) (identity_of past t) (edt_calls s past t) (loans_of s past t) members (edts_law s past run t ∙ is_one) (below_ready members ((parts_of s past).core t) below) in
    subst (IsAwake s past t) (sym (ready_core s past t)) (record {
      comes = comes;
      next = next_core (made s past t) (identity_of past t) members (edt_calls s past t) (loans_of s past t) comes.progress comes.is;
    })

pub next_law : NextLaw
next_law s past t run is_one off = (awake s past t run is_one off).next ∙ member_planned s past t run is_one

-- A BLOCK that is available can be taken, and one that is not refuses
pub some_mode : (o : Option Mode) → is_some o ≡ true → (k : Mode) × (o ≡ Some k)
some_mode None is = cc is
some_mode (Some k) is = (k, refl)

empty_queue : (d : Bool) (t : ℕ) (queue : List (ℕ × Mode)) (x : Bool) → (not d && (block.is_empty queue && x)) ≡ true → mode_in t queue ≡ None
empty_queue d t [] x is = refl
empty_queue true t (one ∷ rest) x is = cc is
empty_queue false t (one ∷ rest) x is = cc is

available : (md : Option Made) (links : List slot.SlotCall) (blocks : List block.BlockCall) (events : List EventCall) (scopes : List ScopeCall) (t : ℕ) (m : Mode) → is_null m ≡ false
    → ((k : Mode) → block.can_grant (block.is_destroyed blocks) (block.line_of (creator_in md) blocks) k ≡ true → block.borrower_of blocks ≡ None)
    → (is_some (mode_in t (block.holders_of (creator_in md) blocks)) ≡ true → block.borrower_of blocks ≡ None)
    → ((k : Mode) → mode_in t (standing (face md links blocks events scopes)) ≡ Some k → k ≡ m)
    → IsAvailable (face md links blocks events scopes) t m → IsBlock (face md links blocks events scopes) (IsTaken t m)
available (Some (MadeBlock n c)) links blocks events scopes t m used free awaited own (inl held) =
    let found = some_mode (mode_in t (block.holders_of c blocks)) held in
    let same : found.0 ≡ m = own found.0 (in_front t (block.holders_of c blocks) (block.queue_of c blocks) found.0 found.1) in
    record { fit = inl (found.1 ∙ ap (λ (j : Mode). Some j) same); not_lent = awaited held }
available (Some (MadeBlock n c)) links blocks events scopes t m used free awaited own (inr can) = elim (mode_in t (block.holders_of c blocks)) as (λ o. mode_in t (block.holders_of c blocks) ≡ o → IsTaken t m (block.state_of n c blocks)) [
  | Some k ↦ λ held.
      let same : k ≡ m = own k (in_front t (block.holders_of c blocks) (block.queue_of c blocks) k held) in
      record { fit = inl (held ∙ ap (λ (j : Mode). Some j) same); not_lent = free m can }
  | None ↦ λ unheld. record {
    fit = inr (record { newcomer = record { no_holder = unheld; not_waiting = empty_queue (block.is_destroyed blocks) t (block.queue_of c blocks) _ can; some_mode = used }; grantable = can });
    not_lent = free m can;
  }
] refl
available other links blocks events scopes t m used free awaited own avail = elim avail [ inl is ↦ cc is | inr is ↦ cc is ]

refuses : (x : Part) (t : ℕ) (m : Mode) → is_block x ≡ true → is_null m ≡ false → IsUnavailable x t m → IsBlock x (IsRefused t m)
refuses (part.Block st) t m is used un = record {
  newcomer = record { no_holder = none_first t st.holders st.queue un.not_there; not_waiting = none_second t st.holders st.queue un.not_there; some_mode = used };
  not_grantable = un.not_grantable;
  not_gone = un.not_gone;
}
refuses other t m is used un = cc is

gone_block : (x : Part) → is_gone_on x ≡ true → IsBlock x (λ st. block.is_gone st ≡ true)
gone_block (part.Block st) is = is
gone_block other is = cc is

-- WHO GOES ON was made
made_going : (m : Option Made) (i : Identity) (members : List (ℕ × Mode)) (calls : List edt.EdtCall) (loans : List (ℕ × Kept)) (y : ℕ × Mode) → next_in (core_progress (on_core (core m i calls loans) (with_phase (made_ready members)))) ≡ Some y → is_edt_made m ≡ true
made_going (Some (MadeEdt f ps n)) i members calls loans y is = refl
made_going other i members calls loans y is = cc is

made_acquiring : (m : Option Made) (i : Identity) (members : List (ℕ × Mode)) (calls : List edt.EdtCall) (loans : List (ℕ × Kept)) → is_acquiring (on_core (core m i calls loans) (with_phase (made_ready members))) ≡ true → is_edt_made m ≡ true
made_acquiring (Some (MadeEdt f ps n)) i members calls loans is = refl
made_acquiring other i members calls loans is = cc is

-- FROM THE PLAIN WORDS
pub record IsNow (s : Setting) (past : History) (t d : ℕ) (m : Mode) (f : Parts) : Type 0 where
  pub comes : IsComing (f.core t)
  pub next : next_on f t ≡ Some (d, m)
  pub mode : m ≡ next_mode_on f t
  pub member : next_member s past t ≡ Some (d, m)
  pub first : next_of comes.progress ≡ Some (d, m)
  pub facts : IsFirst f.face (held_on (f.core t)) d m
  pub all : AreStanding f
  pub own : (k : Mode) → mode_in t (standing (f.face d)) ≡ Some k → k ≡ m

now_by : (s : Setting) (past : History) (t d : ℕ) (m : Mode) → IsRun s past → is_edt past t ≡ true → is_started past t ≡ false → next_member s past t ≡ Some (d, m) → IsNow s past t d m (ready_at t (plan_of s past t) (parts_of s past))
now_by s past t d m run is_one off member =
    let f : Parts = ready_at t (plan_of s past t) (parts_of s past) in
    let is = awake s past t run is_one off in
    let next : next_on f t ≡ Some (d, m) = is.next ∙ member in
    let first : next_of is.comes.progress ≡ Some (d, m) = sym (ap next_in is.comes.is) ∙ next in
    let all : AreStanding f = ready_standing (parts_of s past) t (plan_of s past t) (standing_law s past run) (given_law (asks_in (slots_now s past t))) in
    let there : AreBlocks f.face (rest_on (f.core t)) = ready_there s past run t (wanted_law s past run) t in
    let facts : IsFirst f.face (held_on (f.core t)) d m = first_facts f.face (held_on (f.core t)) (rest_on (f.core t)) d m (ap first_of is.comes.rest ∙ first) (all.ordered t) there in
    record {
      comes = is.comes;
      next = next;
      mode = ap mode_next (sym next);
      member = member;
      first = first;
      facts = facts;
      all = all;
      own = λ k stands. (holding_next (f.core t) is.comes.progress d m k facts.above first is.comes.waits (all.holds t d k stands)).1;
    }

now : (s : Setting) (past : History) (t d : ℕ) (m : Mode) → IsRun s past → IsReadyFor s past t d m → IsNow s past t d m (ready_at t (plan_of s past t) (parts_of s past))
now s past t d m run ready = now_by s past t d m run ready.ready.made ready.ready.not_started (member_planned s past t run ready.ready.made ∙ ready.next)

-- BY TESTS of the parts
pub now_next : (s : Setting) (past : History) (t d : ℕ) (m : Mode) → IsRun s past → open_slots s past t ≡ [] → next_on (ready_at t (plan_of s past t) (parts_of s past)) t ≡ Some (d, m) → IsNow s past t d m (ready_at t (plan_of s past t) (parts_of s past))
now_next s past t d m run set next =
    let is_made : is_edt_made (made s past t) ≡ true = made_going (made s past t) (identity_of past t) (plan_of s past t) (edt_calls s past t) (loans_of s past t) _ (ap (λ (x : Part). next_in (core_progress x)) (sym (ready_core s past t)) ∙ next) in
    let is_one : is_edt past t ≡ true = sym (edts_law s past run t) ∙ is_made in
    let off : is_started past t ≡ false = goes_on s past t _ run set next in
    now_by s past t d m run is_one off (sym (awake s past t run is_one off).next ∙ next)

pub acquiring_idle_edt : (e : Edt) → is_acquiring_edt e ≡ true → awaits_in e ≡ None
acquiring_idle_edt (phase.Acquiring p) is = refl
acquiring_idle_edt other is = cc is

pub acquiring_idle : (x : Part) → is_acquiring x ≡ true → awaits x ≡ None
acquiring_idle (part.Core c) is = acquiring_idle_edt c.edt is
acquiring_idle other is = cc is

pub acquire_on : (s : Setting) (past : History) (t d : ℕ) (m : Mode) → IsRun s past → IsNow s past t d m (ready_at t (plan_of s past t) (parts_of s past)) → IsAvailable ((parts_of s past).face d) t m → IsOnParts s past (Acquire t d)
acquire_on s past t d m run is avail =
    let f : Parts = ready_at t (plan_of s past t) (parts_of s past) in
    let taken : IsBlock (f.face d) (IsTaken t m) = available (made s past d) (link_calls past d) (block_calls s past d) (event_calls s past d) (scope_calls past d) t m is.facts.used (free_law s past run d).grantable (awaited_law s past run t d m is.member) is.own avail in
    record { next = is.next ∙ ap (λ (k : Mode). Some (d, k)) is.mode; taken = subst (λ (k : Mode). IsBlock (f.face d) (IsTaken t k)) is.mode taken }

pub wait_on : (s : Setting) (past : History) (t d : ℕ) (m : Mode) → IsRun s past → IsNow s past t d m (ready_at t (plan_of s past t) (parts_of s past)) → is_acquiring ((ready_at t (plan_of s past t) (parts_of s past)).core t) ≡ true
    → grants ((parts_of s past).face d) m ≡ false → is_gone_on ((parts_of s past).face d) ≡ false → IsOnParts s past (Wait t d)
wait_on s past t d m run is acquiring ungranted alive =
    let f : Parts = ready_at t (plan_of s past t) (parts_of s past) in
    let nowhere : mode_in t (standing (f.face d)) ≡ None = elim (mode_in t (standing (f.face d))) as (λ o. mode_in t (standing (f.face d)) ≡ o → o ≡ None) [
      | None ↦ λ _. refl
      | Some k ↦ λ stands. absurd (
          let waits : awaits (f.core t) ≡ Some (d, k) = (holding_next (f.core t) is.comes.progress d m k is.facts.above is.first is.comes.waits (is.all.holds t d k stands)).0 in
          let idle : awaits (f.core t) ≡ None = acquiring_idle (f.core t) acquiring in
          cc (waits, idle))
    ] refl in
    let refused : IsBlock (f.face d) (IsRefused t m) = refuses (f.face d) t m is.facts.there is.facts.used (record { not_there = nowhere; not_grantable = ungranted; not_gone = alive }) in
    record { next = is.next ∙ ap (λ (k : Mode). Some (d, k)) is.mode; acquiring = acquiring; refused = subst (λ (k : Mode). IsBlock (f.face d) (IsRefused t k)) is.mode refused }

pub stale_on : (s : Setting) (past : History) (t d : ℕ) (m : Mode) → IsNow s past t d m (ready_at t (plan_of s past t) (parts_of s past)) → is_gone_on ((parts_of s past).face d) ≡ true → IsOnParts s past (StaleAcquire t d)
stale_on s past t d m is gone = record { next = is.next ∙ ap (λ (k : Mode). Some (d, k)) is.mode; gone = gone_block ((parts_of s past).face d) gone }

acquire_from : (s : Setting) (past : History) (t d : ℕ) (m : Mode) → IsRun s past → IsReadyFor s past t d m → IsAvailable ((parts_of s past).face d) t m → IsLegal s past (Acquire t d)
acquire_from s past t d m run ready avail =
    let f : Parts = ready_at t (plan_of s past t) (parts_of s past) in
    let is = now s past t d m run ready in
    let taken : IsBlock (f.face d) (IsTaken t m) = available (made s past d) (link_calls past d) (block_calls s past d) (event_calls s past d) (scope_calls past d) t m is.facts.used (free_law s past run d).grantable (awaited_law s past run t d m is.member) is.own avail in
    record {
      open_run = ready.ready.open_run;
      on_parts = record { next = is.next ∙ ap (λ (k : Mode). Some (d, k)) is.mode; taken = subst (λ (k : Mode). IsBlock (f.face d) (IsTaken t k)) is.mode taken };
      on_facts = ready.ready.all_set;
      said = tt;
      stopping = tt;
    }

wait_from : (s : Setting) (past : History) (t d : ℕ) (m : Mode) → IsRun s past → IsReadyFor s past t d m → IsUnavailable ((parts_of s past).face d) t m → IsLegal s past (Wait t d)
wait_from s past t d m run ready un =
    let f : Parts = ready_at t (plan_of s past t) (parts_of s past) in
    let is = now s past t d m run ready in
    let refused : IsBlock (f.face d) (IsRefused t m) = refuses (f.face d) t m is.facts.there is.facts.used un in
    let acquiring : is_acquiring (f.core t) ≡ true = elim is.comes.waits [
      | inl idle ↦ idle.0
      | inr waits ↦ absurd (let stands : mode_in t (standing (f.face d)) ≡ Some m = is.all.waits t d m (waits.0 ∙ is.first) un.not_gone in let none = un.not_there in cc (stands, none))
    ] in
    record {
      open_run = ready.ready.open_run;
      on_parts = record { next = is.next ∙ ap (λ (k : Mode). Some (d, k)) is.mode; acquiring = acquiring; refused = subst (λ (k : Mode). IsBlock (f.face d) (IsRefused t k)) is.mode refused };
      on_facts = ready.ready.all_set;
      said = tt;
      stopping = tt;
    }

stale_from : (s : Setting) (past : History) (t d : ℕ) (m : Mode) → IsRun s past → IsReadyFor s past t d m → is_gone_on ((parts_of s past).face d) ≡ true → IsLegal s past (StaleAcquire t d)
stale_from s past t d m run ready gone =
    let f : Parts = ready_at t (plan_of s past t) (parts_of s past) in
    let is = now s past t d m run ready in
    record {
      open_run = ready.ready.open_run;
      on_parts = record { next = is.next ∙ ap (λ (k : Mode). Some (d, k)) is.mode; gone = gone_block (f.face d) gone };
      on_facts = ready.ready.all_set;
      said = tt;
      stopping = tt;
    }

begin_from : (s : Setting) (past : History) (t : ℕ) → IsRun s past → IsReady s past t → next_planned s past t ≡ None → IsLegal s past (Start t)
begin_from s past t run ready none =
    let f : Parts = ready_at t (plan_of s past t) (parts_of s past) in
    let is = awake s past t run ready.made ready.not_started in
    let through : next_on f t ≡ None = is.next ∙ member_planned s past t run ready.made ∙ none in
    let done : next_of is.comes.progress ≡ None = sym (ap next_in is.comes.is) ∙ through in
    let told : IsMarkOf s past t (mark (f.core t)) = ready_told s past t t (plan_of s past t) ready.all_set (told_law s past run t) in
    let acquiring : is_acquiring (f.core t) ≡ true = elim is.comes.waits [
      | inl idle ↦ idle.0
      | inr waits ↦ absurd (let lost : false ≡ true = sym told.wants ∙ waits.1 ∙ ap (λ (o : Option (ℕ × Mode)). not (is_some o)) done in cc lost)
    ] in
    record { open_run = ready.open_run; on_parts = record { acquiring = acquiring; through = through }; on_facts = ready.all_set; said = tt; stopping = tt }

-- TO THE PLAIN WORDS
ready_for : (s : Setting) (past : History) (t d : ℕ) → IsRun s past → is_stopped past ≡ false → open_slots s past t ≡ [] → next_on (ready_at t (plan_of s past t) (parts_of s past)) t ≡ Some (d, next_mode_on (ready_at t (plan_of s past t) (parts_of s past)) t)
    → IsReadyFor s past t d (next_mode_on (ready_at t (plan_of s past t) (parts_of s past)) t)
ready_for s past t d run going set next =
    let is_made : is_edt_made (made s past t) ≡ true = made_going (made s past t) (identity_of past t) (plan_of s past t) (edt_calls s past t) (loans_of s past t) _ (ap (λ (x : Part). next_in (core_progress x)) (sym (ready_core s past t)) ∙ next) in
    let is_one : is_edt past t ≡ true = sym (edts_law s past run t) ∙ is_made in
    let off : is_started past t ≡ false = goes_on s past t _ run set next in
    record { ready = record { open_run = going; made = is_one; not_started = off; all_set = set }; next = sym (next_law s past t run is_one off) ∙ next }

pub taken_available : (x : Part) (t : ℕ) (m : Mode) → IsBlock x (IsTaken t m) → IsAvailable x t m
taken_available (part.Block st) t m taken = elim taken.fit [
  | inl held ↦ inl (ap (λ (o : Option Mode). is_some o) held)
  | inr free ↦ inr free.grantable
]
taken_available other t m taken = absurd taken

pub refused_unavailable : (x : Part) (t : ℕ) (m : Mode) → IsBlock x (IsRefused t m) → IsUnavailable x t m
refused_unavailable (part.Block st) t m refused = record {
  not_there = mode_skips t st.holders st.queue refused.newcomer.no_holder ∙ refused.newcomer.not_waiting;
  not_grantable = refused.not_grantable;
  not_gone = refused.not_gone;
}
refused_unavailable other t m refused = absurd refused

pub acquire_law : AcquireLaw
acquire_law s past t d run = (
  λ legal. (next_mode_on (ready_at t (plan_of s past t) (parts_of s past)) t, ready_for s past t d run legal.open_run legal.on_facts legal.on_parts.next, taken_available ((parts_of s past).face d) t _ legal.on_parts.taken),
  λ may. acquire_from s past t d may.0 run may.1 may.2,
)

pub wait_law : WaitLaw
wait_law s past t d run = (
  λ legal. (next_mode_on (ready_at t (plan_of s past t) (parts_of s past)) t, ready_for s past t d run legal.open_run legal.on_facts legal.on_parts.next, refused_unavailable ((parts_of s past).face d) t _ legal.on_parts.refused),
  λ may. wait_from s past t d may.0 run may.1 may.2,
)

pub stale_law : StaleLaw
stale_law s past t d run = (
  λ legal. (next_mode_on (ready_at t (plan_of s past t) (parts_of s past)) t, ready_for s past t d run legal.open_run legal.on_facts legal.on_parts.next, gone_is ((parts_of s past).face d) legal.on_parts.gone),
  λ may. stale_from s past t d may.0 run may.1 may.2,
)

begin_ready : (s : Setting) (past : History) (t : ℕ) → IsRun s past → IsLegal s past (Start t) → IsReady s past t
begin_ready s past t run legal =
    let is_made : is_edt_made (made s past t) ≡ true = made_acquiring (made s past t) (identity_of past t) (plan_of s past t) (edt_calls s past t) (loans_of s past t) (ap is_acquiring (sym (ready_core s past t)) ∙ legal.on_parts.acquiring) in
    record { open_run = legal.open_run; made = sym (edts_law s past run t) ∙ is_made; not_started = not_started s past t run legal; all_set = legal.on_facts }

pub begin_law : BeginLaw
begin_law s past t run = (
  λ legal. let ready = begin_ready s past t run legal in (ready, sym (next_law s past t run ready.made ready.not_started) ∙ legal.on_parts.through),
  λ may. begin_from s past t run may.0 may.1,
)
