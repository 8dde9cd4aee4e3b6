-- Tests of the parts tell whether an EDT may go on.
use Rattle.std.proofs.Common.{◌≡◌, ◌↔◌, inl, inr, ℕ, List, [], Bool, true, false, Option, Some, None, ◌==◌, ◌&&◌, ◌||◌, not, refl, sym, ◌∙◌, ap, subst, is_some}
use Rattle.std.proofs.lemmas.Bool.{eqb-true, eq-eqb, and_from, or_left, or_right, and_parts, or_cases, not-true, not_from_false, and_right, or_parts}
use Rattle.ocr_acquire.specs.declared.Mode.{Mode}
use Rattle.ocr_acquire.specs.Mode.{is_null}
use Rattle.ocr_datablock.specs.Block as block
use Rattle.ocr_edt.specs.declared.Edt.{Edt}
use Rattle.ocr_edt.specs.declared.Edt.TheVariants as phase
use Rattle.ocr_machine_history.specs.declared.entry.Entry.{Entry}
use Rattle.ocr_machine_history.specs.declared.entry.Entry.TheVariants.{Acquire, Wait, StaleAcquire, Start}
use Rattle.ocr_machine_history.specs.History.{History, Setting}
use Rattle.ocr_machine_parts.specs.declared.part.Part.{Part}
use Rattle.ocr_machine_parts.specs.declared.part.Part.TheVariants as part
use Rattle.ocr_machine_parts.specs.Calls.{plan_of, open_slots}
use Rattle.ocr_machine_parts.specs.Parts.{Parts, parts_of}
use Rattle.ocr_machine_parts.specs.Kinds.{IsBlock, is_held_by, on_core, is_acquiring_edt, is_acquiring}
use Rattle.ocr_machine_parts.specs.Progress.{with_phase, made_ready, ready_at, next_on, next_mode_on}
use Rattle.ocr_machine_parts.specs.Legal.{IsRun}
use Rattle.ocr_machine_parts.proofs.Lent.{ready_core}
use Rattle.ocr_machine_state.specs.State.{face_on, core_on, IsStateOf}
use Rattle.ocr_machine_state.specs.declared.state.State.{State}
use Rattle.ocr_machine_laws.specs.Quiet.{IsWakingOf}
use Rattle.ocr_machine_laws.specs.Waits.{is_gone_on}
use Rattle.ocr_machine_laws.proofs.Passes.{gone_is}
use Rattle.ocr_machine_laws.specs.Plain.{grants, IsAvailable, IsUnavailable}
use Rattle.ocr_machine_laws.proofs.Plain.{IsNow, now_next, acquire_on, wait_on, stale_on, taken_available, refused_unavailable}
use Rattle.ocr_replay_legality.specs.Tests.{Whether, MayEnter, MayGoOn, begins_edt, begins, opens, is_open, shuts, is_at, is_going}

-- BOOLEANS
pub and_is : (a b c d : Bool) → a ≡ c → b ≡ d → (a && b) ≡ (c && d)
and_is a b c d one two = ap (λ (x : Bool). x && b) one ∙ ap (λ (x : Bool). c && x) two

pub turned : (a b : Bool) (P : Type 0) → a ≡ b → Whether b P → Whether a P
turned a b P is tested = subst (λ (x : Bool). Whether x P) (sym is) tested

pub not_both : (a b : Bool) → (a && b) ≡ false → a ≡ true → b ≡ true → ⊥
not_both true b off one two = cc (off, two)
not_both false b off one two = cc one

-- THE NEXT BLOCK is this one
at_some : (o : Option (ℕ × Mode)) (d : ℕ) (test : Mode → Bool) → is_at o d test ≡ true → (m : Mode) × (o ≡ Some (d, m)) × (test m ≡ true)
at_some None d test is = cc is
at_some (Some next) d test is =
    let both = and_parts (next.0 == d) (test next.1) is in
    (next.1, ap (λ (n : ℕ). Some (n, next.1)) (eqb-true next.0 d both.0), both.1)

at_is : (o : Option (ℕ × Mode)) (d : ℕ) (m : Mode) (test : Mode → Bool) → o ≡ Some (d, m) → test m ≡ true → is_at o d test ≡ true
at_is o d m test is on = ap (λ (p : Option (ℕ × Mode)). is_at p d test) is ∙ and_from (d == d) (test m) (eq-eqb d d refl) on

-- OF ONE BLOCK
open_available : (x : Part) (t : ℕ) (m : Mode) → is_open x t m ≡ true → IsAvailable x t m
open_available x t m is = elim (or_cases (is_held_by x t) (opens x m) is) [
  | inl held ↦ inl held
  | inr can ↦ inr (opens_grants x m can)
]
  where
    opens_grants : (x : Part) (m : Mode) → opens x m ≡ true → grants x m ≡ true
    opens_grants (part.Block st) m is = (and_parts (not (is_null m)) (block.is_grantable st m) is).1
    opens_grants other m is = cc is

grants_opens : (x : Part) (m : Mode) → is_null m ≡ false → grants x m ≡ true → opens x m ≡ true
grants_opens (part.Block st) m used is = and_from (not (is_null m)) (block.is_grantable st m) (not_from_false (is_null m) used) is
grants_opens other m used is = cc is

available_open : (x : Part) (t : ℕ) (m : Mode) → is_null m ≡ false → IsAvailable x t m → is_open x t m ≡ true
available_open x t m used (inl held) = or_left (is_held_by x t) (opens x m) held
available_open x t m used (inr can) = or_right (is_held_by x t) (opens x m) (grants_opens x m used can)

shut_is : (x : Part) (m : Mode) → shuts x m ≡ true → (grants x m ≡ false) × (is_gone_on x ≡ false)
shut_is (part.Block st) m is =
    let one = and_parts (not (is_null m)) _ is in
    let two = and_parts (not (block.is_grantable st m)) (not (block.is_gone st)) one.1 in
    (not-true (block.is_grantable st m) two.0, not-true (block.is_gone st) two.1)
shut_is other m is = cc is

is_shut : (x : Part) (t : ℕ) (m : Mode) (P : _) → IsBlock x P → is_null m ≡ false → IsUnavailable x t m → shuts x m ≡ true
is_shut (part.Block st) t m P is used un = and_from (not (is_null m)) _ (not_from_false (is_null m) used) (and_from (not (block.is_grantable st m)) (not (block.is_gone st)) (not_from_false (block.is_grantable st m) un.not_grantable) (not_from_false (block.is_gone st) un.not_gone))
is_shut other t m P is used un = absurd is

-- OF ONE CORE
begins_ready_edt : (members : List (ℕ × Mode)) (e : Edt) → is_acquiring_edt (made_ready members e) ≡ begins_edt e
begins_ready_edt members (phase.Filling i) = refl
begins_ready_edt members (phase.Acquiring p) = refl
begins_ready_edt members other = refl

begins_ready : (members : List (ℕ × Mode)) (x : Part) → is_acquiring (on_core x (with_phase (made_ready members))) ≡ begins x
begins_ready members (part.Core c) = begins_ready_edt members c.edt
begins_ready members other = refl

begins_is : (s : Setting) (past : History) (table : State) (t : ℕ) → IsStateOf s past table → is_acquiring ((ready_at t (plan_of s past t) (parts_of s past)).core t) ≡ begins (core_on table t)
begins_is s past table t of =
    ap is_acquiring (ready_core s past t) ∙ begins_ready (plan_of s past t) ((parts_of s past).core t) ∙ ap (λ (f : Parts). begins (f.core t)) (sym of.parts)

face_is : (s : Setting) (past : History) (table : State) (d : ℕ) → IsStateOf s past table → face_on table d ≡ (parts_of s past).face d
face_is s past table d of = ap (λ (f : Parts). f.face d) of.parts

pub core_is : (s : Setting) (past : History) (table : State) (t : ℕ) → IsStateOf s past table → core_on table t ≡ (parts_of s past).core t
core_is s past table t of = ap (λ (f : Parts). f.core t) of.parts

-- WHAT IS TESTED of an EDT
pub record IsTested (s : Setting) (past : History) (table : State) (t : ℕ) (full : Bool) (next : Option (ℕ × Mode)) : Type 0 where
  pub of : IsStateOf s past table
  pub run : IsRun s past
  pub full_is : (full ≡ true) ↔ (open_slots s past t ≡ [])
  pub next_is : next ≡ next_on (ready_at t (plan_of s past t) (parts_of s past)) t

abbrev ready : Setting → History → ℕ → Parts
ready s past t = ready_at t (plan_of s past t) (parts_of s past)

found : (s : Setting) (past : History) (table : State) (t d : ℕ) (full : Bool) (next : Option (ℕ × Mode)) (m : Mode) → IsTested s past table t full next → full ≡ true → next ≡ Some (d, m) → IsNow s past t d m (ready s past t)
found s past table t d full next m is on here = now_next s past t d m is.run (is.full_is.0 on) (sym is.next_is ∙ here)

pub tested : (s : Setting) (past : History) (table : State) (t : ℕ) (full : Bool) (next : Option (ℕ × Mode)) → IsStateOf s past table → IsRun s past → (full ≡ true) ↔ (open_slots s past t ≡ []) → next ≡ next_on (ready_at t (plan_of s past t) (parts_of s past)) t → IsTested s past table t full next
tested s past table t full next of run full_is next_is = record {
  of = of;
  run = run;
  full_is = full_is;
  next_is = next_is;
}

pub acquire_tested : (s : Setting) (past : History) (table : State) (t d : ℕ) (full : Bool) (next : Option (ℕ × Mode)) → IsTested s past table t full next
    → Whether (full && is_at next d (is_open (face_on table d) t)) (MayEnter s past (Acquire t d))
acquire_tested s past table t d full next is = record {
  yes = λ on.
      let both = and_parts full (is_at next d (is_open (face_on table d) t)) on in
      let here = at_some next d (is_open (face_on table d) t) both.1 in
      let now = found s past table t d full next here.0 is both.0 here.1 in
      let avail = open_available ((parts_of s past).face d) t here.0 (ap (λ (x : Part). is_open x t here.0) (sym (face_is s past table d is.of)) ∙ here.2) in
      (acquire_on s past t d here.0 is.run now avail, is.full_is.0 both.0);
  no = λ off may.
      let on : full ≡ true = is.full_is.1 may.1 in
      let m : Mode = next_mode_on (ready s past t) t in
      let here : next ≡ Some (d, m) = is.next_is ∙ may.0.next in
      let now = found s past table t d full next m is on here in
      let opens : is_open ((parts_of s past).face d) t m ≡ true = available_open ((parts_of s past).face d) t m now.facts.used (taken_available ((parts_of s past).face d) t m may.0.taken) in
      not_both full (is_at next d (is_open (face_on table d) t)) off on
      (at_is next d m (is_open (face_on table d) t) here (ap (λ (x : Part). is_open x t m) (face_is s past table d is.of) ∙ opens));
}

pub wait_tested : (s : Setting) (past : History) (table : State) (t d : ℕ) (full : Bool) (next : Option (ℕ × Mode)) → IsTested s past table t full next
    → Whether (full && (begins (core_on table t) && is_at next d (shuts (face_on table d)))) (MayEnter s past (Wait t d))
wait_tested s past table t d full next is = record {
  yes = λ on.
      let one = and_parts full _ on in
      let two = and_parts (begins (core_on table t)) (is_at next d (shuts (face_on table d))) one.1 in
      let here = at_some next d (shuts (face_on table d)) two.1 in
      let now = found s past table t d full next here.0 is one.0 here.1 in
      let shut = shut_is ((parts_of s past).face d) here.0 (ap (λ (x : Part). shuts x here.0) (sym (face_is s past table d is.of)) ∙ here.2) in
      (wait_on s past t d here.0 is.run now (begins_is s past table t is.of ∙ two.0) shut.0 shut.1, is.full_is.0 one.0);
  no = λ off may.
      let on : full ≡ true = is.full_is.1 may.1 in
      let m : Mode = next_mode_on (ready s past t) t in
      let here : next ≡ Some (d, m) = is.next_is ∙ may.0.next in
      let now = found s past table t d full next m is on here in
      let shut : shuts ((parts_of s past).face d) m ≡ true = is_shut ((parts_of s past).face d) t m _ may.0.refused now.facts.used (refused_unavailable ((parts_of s past).face d) t m may.0.refused) in
      not_both full _ off on (and_from (begins (core_on table t)) (is_at next d (shuts (face_on table d))) (sym (begins_is s past table t is.of) ∙ may.0.acquiring)
      (at_is next d m (shuts (face_on table d)) here (ap (λ (x : Part). shuts x m) (face_is s past table d is.of) ∙ shut)));
}

pub stale_tested : (s : Setting) (past : History) (table : State) (t d : ℕ) (full : Bool) (next : Option (ℕ × Mode)) → IsTested s past table t full next
    → Whether (full && is_at next d (λ (m : Mode). is_gone_on (face_on table d))) (MayEnter s past (StaleAcquire t d))
stale_tested s past table t d full next is = record {
  yes = λ on.
      let both = and_parts full _ on in
      let here = at_some next d (λ (m : Mode). is_gone_on (face_on table d)) both.1 in
      let now = found s past table t d full next here.0 is both.0 here.1 in
      (stale_on s past t d here.0 now (ap is_gone_on (sym (face_is s past table d is.of)) ∙ here.2), is.full_is.0 both.0);
  no = λ off may.
      let on : full ≡ true = is.full_is.1 may.1 in
      not_both full _ off on (at_is next d (next_mode_on (ready s past t) t) (λ (m : Mode). is_gone_on (face_on table d)) (is.next_is ∙ may.0.next)
      (ap is_gone_on (face_is s past table d is.of) ∙ gone_is ((parts_of s past).face d) may.0.gone));
}

through_none : (o : Option (ℕ × Mode)) → not (is_some o) ≡ true → o ≡ None
through_none None is = refl
through_none (Some next) is = cc is

pub start_tested : (s : Setting) (past : History) (table : State) (t : ℕ) (full : Bool) (next : Option (ℕ × Mode)) → IsTested s past table t full next
    → Whether (full && (begins (core_on table t) && not (is_some next))) (MayEnter s past (Start t))
start_tested s past table t full next is = record {
  yes = λ on.
      let one = and_parts full _ on in
      let two = and_parts (begins (core_on table t)) (not (is_some next)) one.1 in
      (record { acquiring = begins_is s past table t is.of ∙ two.0; through = sym is.next_is ∙ through_none next two.1 }, is.full_is.0 one.0);
  no = λ off may.
      not_both full _ off (is.full_is.1 may.1) (and_from (begins (core_on table t)) (not (is_some next)) (sym (begins_is s past table t is.of) ∙ may.0.acquiring)
      (ap (λ (o : Option (ℕ × Mode)). not (is_some o)) (is.next_is ∙ may.0.through)));
}

-- TO GO ON
only : (a b : Bool) → (a && b) ≡ false → a ≡ true → b ≡ false
only true b off on = off
only false b off on = cc on

at_off : (n d : ℕ) (test : ℕ → Bool) → test n ≡ false → ((n == d) && test d) ≡ false
at_off n d test off = elim (n == d) as (λ b. (n == d) ≡ b → (b && test d) ≡ false) [
  | true ↦ λ is. subst (λ (k : ℕ). test k ≡ false) (eqb-true n d is) off
  | false ↦ λ is. refl
] refl

begins_going : (face : ℕ → Part) (core : Part) (t : ℕ) (next : Option (ℕ × Mode)) → begins core ≡ true → is_going face core t next ≡ true
begins_going face core t None is = is
begins_going face core t (Some next) is = or_right (is_open (face next.0) t next.1) (is_gone_on (face next.0) || begins core) (or_right (is_gone_on (face next.0)) (begins core) is)

open_off : (face : ℕ → Part) (core : Part) (t d : ℕ) (next : Option (ℕ × Mode)) → is_going face core t next ≡ false → is_at next d (is_open (face d) t) ≡ false
open_off face core t d None off = refl
open_off face core t d (Some next) off = at_off next.0 d (λ (k : ℕ). is_open (face k) t next.1) (or_parts (is_open (face next.0) t next.1) (is_gone_on (face next.0) || begins core) off).0

gone_off : (face : ℕ → Part) (core : Part) (t d : ℕ) (next : Option (ℕ × Mode)) → is_going face core t next ≡ false → is_at next d (λ (m : Mode). is_gone_on (face d)) ≡ false
gone_off face core t d None off = refl
gone_off face core t d (Some next) off = at_off next.0 d (λ (k : ℕ). is_gone_on (face k)) (or_parts (is_gone_on (face next.0)) (begins core) (or_parts (is_open (face next.0) t next.1) (is_gone_on (face next.0) || begins core) off).1).0

closed_ungranted : (x : Part) (t : ℕ) (m : Mode) → is_null m ≡ false → is_open x t m ≡ false → grants x m ≡ false
closed_ungranted x t m used off = elim (grants x m) as (λ b. grants x m ≡ b → b ≡ false) [
  | true ↦ λ is. cc (or_right (is_held_by x t) (opens x m) (grants_opens x m used is), off)
  | false ↦ λ is. refl
] refl

starts : (s : Setting) (past : History) (table : State) (t : ℕ) (full : Bool) → IsTested s past table t full None → full ≡ true → begins (core_on table t) ≡ true → MayGoOn s past t
starts s past table t full is on begun = (Start t, refl, (start_tested s past table t full None is).yes (and_from full _ on (and_from (begins (core_on table t)) true begun refl)))

acquires : (s : Setting) (past : History) (table : State) (t d : ℕ) (m : Mode) (full : Bool) → IsTested s past table t full (Some (d, m)) → full ≡ true → is_open (face_on table d) t m ≡ true → MayGoOn s past t
acquires s past table t d m full is on can = (Acquire t d, refl, (acquire_tested s past table t d full (Some (d, m)) is).yes (and_from full _ on (and_from (d == d) (is_open (face_on table d) t m) (eq-eqb d d refl) can)))

finds_gone : (s : Setting) (past : History) (table : State) (t d : ℕ) (m : Mode) (full : Bool) → IsTested s past table t full (Some (d, m)) → full ≡ true → is_gone_on (face_on table d) ≡ true → MayGoOn s past t
finds_gone s past table t d m full is on gone = (StaleAcquire t d, refl, (stale_tested s past table t d full (Some (d, m)) is).yes (and_from full _ on (and_from (d == d) (is_gone_on (face_on table d)) (eq-eqb d d refl) gone)))

waits : (s : Setting) (past : History) (table : State) (t d : ℕ) (m : Mode) (full : Bool) → IsTested s past table t full (Some (d, m)) → full ≡ true → begins (core_on table t) ≡ true
    → is_open (face_on table d) t m ≡ false → is_gone_on (face_on table d) ≡ false → MayGoOn s past t
waits s past table t d m full is on begun closed alive =
    let now = found s past table t d full (Some (d, m)) m is on refl in
    let ungranted : grants ((parts_of s past).face d) m ≡ false = closed_ungranted ((parts_of s past).face d) t m now.facts.used (ap (λ (x : Part). is_open x t m) (sym (face_is s past table d is.of)) ∙ closed) in
    (Wait t d, refl, (wait_on s past t d m is.run now (begins_is s past table t is.of ∙ begun) ungranted (ap is_gone_on (sym (face_is s past table d is.of)) ∙ alive), is.full_is.0 on))

begins_on : (s : Setting) (past : History) (table : State) (t d : ℕ) (m : Mode) (full : Bool) → IsTested s past table t full (Some (d, m)) → full ≡ true → begins (core_on table t) ≡ true → MayGoOn s past t
begins_on s past table t d m full is on begun = elim (is_open (face_on table d) t m) as (λ b. is_open (face_on table d) t m ≡ b → MayGoOn s past t) [
  | true ↦ λ can. acquires s past table t d m full is on can
  | false ↦ λ closed. (elim (is_gone_on (face_on table d)) as (λ b. is_gone_on (face_on table d) ≡ b → MayGoOn s past t) [
    | true ↦ λ gone. finds_gone s past table t d m full is on gone
    | false ↦ λ alive. waits s past table t d m full is on begun closed alive
  ] refl)
] refl

going_yes : (s : Setting) (past : History) (table : State) (t : ℕ) (full : Bool) (next : Option (ℕ × Mode)) → IsTested s past table t full next → full ≡ true → is_going (face_on table) (core_on table t) t next ≡ true → MayGoOn s past t
going_yes s past table t full None is on going = starts s past table t full is on going
going_yes s past table t full (Some next) is on going = elim (or_cases (is_open (face_on table next.0) t next.1) (is_gone_on (face_on table next.0) || begins (core_on table t)) going) [
  | inl can ↦ acquires s past table t next.0 next.1 full is on can
  | inr other ↦ elim (or_cases (is_gone_on (face_on table next.0)) (begins (core_on table t)) other) [
    | inl gone ↦ finds_gone s past table t next.0 next.1 full is on gone
    | inr begun ↦ begins_on s past table t next.0 next.1 full is on begun
  ]
]

going_no : (s : Setting) (past : History) (table : State) (t : ℕ) (full : Bool) (next : Option (ℕ × Mode)) → IsTested s past table t full next → (full && is_going (face_on table) (core_on table t) t next) ≡ false
    → (e : Entry) → IsWakingOf t e → MayEnter s past e → ⊥
going_no s past table t full next is off (Acquire u d) waking may =
    let here : MayEnter s past (Acquire t d) = subst (λ (v : ℕ). MayEnter s past (Acquire v d)) waking may in
    let closed = only full (is_going (face_on table) (core_on table t) t next) off (is.full_is.1 here.1) in
    (acquire_tested s past table t d full next is).no (and_right full (is_at next d (is_open (face_on table d) t)) (open_off (face_on table) (core_on table t) t d next closed)) here
going_no s past table t full next is off (StaleAcquire u d) waking may =
    let here : MayEnter s past (StaleAcquire t d) = subst (λ (v : ℕ). MayEnter s past (StaleAcquire v d)) waking may in
    let closed = only full (is_going (face_on table) (core_on table t) t next) off (is.full_is.1 here.1) in
    (stale_tested s past table t d full next is).no (and_right full (is_at next d (λ (m : Mode). is_gone_on (face_on table d))) (gone_off (face_on table) (core_on table t) t d next closed)) here
going_no s past table t full next is off (Wait u d) waking may =
    let here : MayEnter s past (Wait t d) = subst (λ (v : ℕ). MayEnter s past (Wait v d)) waking may in
    let begun = sym (begins_is s past table t is.of) ∙ here.0.acquiring in
    not_both full (is_going (face_on table) (core_on table t) t next) off (is.full_is.1 here.1) (begins_going (face_on table) (core_on table t) t next begun)
going_no s past table t full next is off (Start u) waking may =
    let here : MayEnter s past (Start t) = subst (λ (v : ℕ). MayEnter s past (Start v)) waking may in
    let begun = sym (begins_is s past table t is.of) ∙ here.0.acquiring in
    not_both full (is_going (face_on table) (core_on table t) t next) off (is.full_is.1 here.1) (begins_going (face_on table) (core_on table t) t next begun)
going_no s past table t full next is off other waking may = absurd waking

pub going_tested : (s : Setting) (past : History) (table : State) (t : ℕ) (full : Bool) (next : Option (ℕ × Mode)) → IsTested s past table t full next
    → Whether (full && is_going (face_on table) (core_on table t) t next) (MayGoOn s past t)
going_tested s past table t full next is = record {
  yes = λ on. let both = and_parts full (is_going (face_on table) (core_on table t) t next) on in going_yes s past table t full next is both.0 both.1;
  no = λ off may. going_no s past table t full next is off may.0 may.1 may.2;
}
