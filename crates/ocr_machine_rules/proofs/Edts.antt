-- What the entries tell of an EDT is what its core tells: its plan, the block that is next in it, and what it holds.
use Rattle.std.proofs.Common.{◌≡◌, ℕ, List, [], ◌∷◌, ◌++◌, map, cond, Bool, true, false, ◌||◌, ◌&&◌, not, ◌==◌, ◌/◌, if◌then◌else◌, Option, Some, None, inl, inr, is_some, refl, sym, ◌∙◌, ap, subst}
use Rattle.std.proofs.lemmas.Bool.{eqb-true, eq-eqb, or_cases, false_from_ne_true}
use Rattle.std.proofs.Math.Bool.{and-true, or-true}
use Rattle.std.specs.Prelude.{slice_get}
use Rattle.std.specs.List.{filter, flat_map}
use Rattle.ocr_base.proofs.Booleans.{same, and_false}
use Rattle.ocr_acquire.specs.declared.Mode.{Mode}
use Rattle.ocr_acquire.specs.declared.Mode.TheVariants as mode
use Rattle.ocr_acquire.specs.Mode.{mode_in}
use Rattle.ocr_acquire.specs.Plan as plan
use Rattle.ocr_slots.specs.declared.Slot.{Slot}
use Rattle.ocr_slots.specs.Slots as slot
use Rattle.ocr_slots.specs.Steps.{after_link}
use Rattle.ocr_edt.specs.declared.Edt.{Edt}
use Rattle.ocr_edt.specs.declared.Edt.TheVariants as phase
use Rattle.ocr_edt.specs.declared.Identity.{Identity}
use Rattle.ocr_edt.specs.Edt as edt
use Rattle.ocr_edt.specs.Phases.{first_of, is_named, name_of, placed_by, without}
use Rattle.ocr_edt.specs.Steps.{with_next}
use Rattle.ocr_edt.proofs.Holds.{mode_in-without, mode_in-other, mode_in-placed, mode_in-placed_other}
use Rattle.ocr_body_meaning.specs.Holds.{is_done}
use Rattle.ocr_body_meaning.specs.declared.call.Call as body
use Rattle.ocr_body_meaning.specs.declared.call.Call.TheVariants as call
use Rattle.ocr_body_meaning.specs.declared.call.Answer.{Answer}
use Rattle.ocr_machine_history.specs.declared.entry.Entry.{Entry}
use Rattle.ocr_machine_history.specs.declared.entry.Entry.TheVariants.{Call, Acquire, Wait, StaleAcquire, Start, Free, End}
use Rattle.ocr_machine_history.specs.Edts.{is_started}
use Rattle.ocr_machine_history.specs.History.{History, Setting}
use Rattle.ocr_machine_history.specs.Made.{Made, MadeEdt, made, opened, is_new, is_edt, is_edt_made}
use Rattle.ocr_machine_parts.specs.declared.part.Part.{Part}
use Rattle.ocr_machine_parts.specs.declared.part.Part.TheVariants as part
use Rattle.ocr_machine_parts.specs.Calls as calls
use Rattle.ocr_machine_parts.specs.Calls.{asks_of, asks_in, slot_now, open_slots, with_plan, awake, edt_step, edt_calls, mode_next, mode_named, target_of}
use Rattle.ocr_machine_parts.specs.Parts.{Parts, plain_identity, core, parts_of}
use Rattle.ocr_machine_parts.specs.Kinds.{is_edt_face, with_links, on_core, progress_in, core_progress, next_in, work_in, work_of, is_running, holds_of, size_on, words_on}
use Rattle.ocr_machine_parts.specs.Effects.{awoken, acquired_edt, stale_edt, waiting_edt, started_edt, holding_edt, dropped_edt, ended_edt, holding_core, creating_core, dropping_core, acquiring_core, new_core, called, acquired, joined, changed}
use Rattle.ocr_machine_parts.specs.Progress.{with_face, with_core, with_phase, ready_at, readied_on, next_on, next_mode_on}
use Rattle.ocr_machine_parts.specs.LegalOn.{IsCallOn}
use Rattle.ocr_machine_parts.specs.Legal.{IsRun, IsLegal}
use Rattle.ocr_machine_parts.proofs.After.{after_law, linked_core, deps_core}
use Rattle.ocr_machine_parts.proofs.Fresh.{new_fresh}
use Rattle.ocr_machine_parts.proofs.Within.{made_none}
use Rattle.ocr_machine_laws.specs.Memory.{hold_of}
use Rattle.ocr_machine_laws.specs.Plain as plain
use Rattle.ocr_machine_laws.specs.Waits.{held_in, rest_in, held_on, rest_on, IsOrdered}
use Rattle.ocr_machine_laws.proofs.Edts.{edts_law}
use Rattle.ocr_machine_laws.proofs.Ended.{ready_held, acquired_law}
use Rattle.ocr_machine_laws.proofs.Permanence.{made_law}
use Rattle.ocr_machine_laws.proofs.Plain.{next_law, now_next, acquire_law, wait_law, stale_law}
use Rattle.ocr_machine_laws.proofs.Planned.{planned_law, ready_is}
use Rattle.ocr_machine_laws.proofs.Waiters.{advances, flip}
use Rattle.ocr_machine_rules.specs.Blocks as blocks
use Rattle.ocr_machine_rules.specs.Blocks.{has_acquired, has_found_gone, is_ahead, held_after}
use Rattle.ocr_machine_rules.specs.Laws.{PlanLaw, NextLaw, HeldLaw}

-- THE PLAN. What the slots ask for, slot by slot
asks_are : (at : ℕ → Slot) (ks : List ℕ) → flat_map (λ k. asks_of (at k).payload (at k).mode) ks ≡ asks_in (map at ks)
asks_are at [] = refl
asks_are at (k ∷ rest) = ap (λ (more : List (ℕ × Mode)). asks_of (at k).payload (at k).mode ++ more) (asks_are at rest)

pub plan_is : PlanLaw
plan_is s past t = ap plan.plan_of (asks_are (slot_now past t) (slot.slots_of (calls.depc_of s past t)))

-- WHAT IT ACQUIRED, and what it found gone. Neither comes before the EDT is made
record IsUntouched (past : History) (t d : ℕ) : Type 0 where
  acquired : has_acquired past t d ≡ false
  gone : has_found_gone past t d ≡ false

made_none_before : (s : Setting) (past : History) (e : Entry) (t : ℕ) (m : Option Made) → made s past t ≡ m → IsLegal s past e → made s (e ∷ past) t ≡ None → m ≡ None
made_none_before s past e t None is legal none = refl
made_none_before s past e t (Some m) is legal none = let lasts = made_law s past e t m legal is in cc (lasts, none)

none_apart : (s : Setting) (past : History) (u t : ℕ) → IsRun s past → made s past t ≡ None → is_edt past u ≡ true → (u == t) ≡ false
none_apart s past u t run none is_one = false_from_ne_true (u == t) (λ here.
    let is_made : is_edt_made (made s past t) ≡ true = edts_law s past run t ∙ subst (λ (n : ℕ). is_edt past n ≡ true) (eqb-true u t here) is_one in
    let is_none : is_edt_made (made s past t) ≡ false = ap is_edt_made none in
    cc (is_made, is_none))

untouched : (s : Setting) (past : History) (t d : ℕ) → IsRun s past → made s past t ≡ None → IsUntouched past t d
untouched s [] t d run none = record { acquired = refl; gone = refl }
untouched s (Call u home c a w ∷ past) t d run none =
    let before = untouched s past t d run.0 (made_none_before s past (Call u home c a w) t (made s past t) refl run.1 none) in
    record { acquired = before.acquired; gone = before.gone }
untouched s (Acquire u b ∷ past) t d run none =
    let before = untouched s past t d run.0 none in
    let apart : (u == t) ≡ false = none_apart s past u t run.0 none ((acquire_law s past u b run.0).0 run.1).1.ready.made in
    record { acquired = rw apart before.acquired; gone = before.gone }
untouched s (StaleAcquire u b ∷ past) t d run none =
    let before = untouched s past t d run.0 none in
    let apart : (u == t) ≡ false = none_apart s past u t run.0 none ((stale_law s past u b run.0).0 run.1).1.ready.made in
    record { acquired = before.acquired; gone = rw apart before.gone }
untouched s (e ∷ past) t d run none =
    let before = untouched s past t d run.0 none in
    record { acquired = before.acquired; gone = before.gone }

-- so its calls tell of both
record AreTold (d : ℕ) (calls : List edt.EdtCall) (acquired gone : Bool) : Type 0 where
  acquired_so : edt.was_acquired d calls ≡ acquired
  gone_so : edt.was_stale d calls ≡ gone

kept_if : (d : ℕ) (b : Bool) (one : edt.EdtCall) (calls : List edt.EdtCall) (acquired gone : Bool) → edt.acquires one d ≡ false → edt.finds_stale one d ≡ false → AreTold d calls acquired gone → AreTold d (if b then one ∷ calls else calls) acquired gone
kept_if d true one calls acquired gone other neither told = record { acquired_so = rw other told.acquired_so; gone_so = rw neither told.gone_so }
kept_if d false one calls acquired gone other neither told = told

step_told : (d by : ℕ) (c : body.Call) (a : Answer) (t : ℕ) (calls : List edt.EdtCall) (acquired gone : Bool) → AreTold d calls acquired gone → AreTold d (edt_step by c a t calls) acquired gone
step_told d by (call.DbCreate n fl) a t calls acquired gone told = kept_if d _ (edt.Hold a.value) calls acquired gone refl refl told
step_told d by (call.DbRelease b) a t calls acquired gone told = kept_if d _ (edt.DropHold b) calls acquired gone refl refl told
step_told d by (call.DbDestroy b) a t calls acquired gone told = kept_if d _ (edt.DropHold b) calls acquired gone refl refl told
step_told d by other a t calls acquired gone told = told

plan_told : (d : ℕ) (members : List (ℕ × Mode)) (calls : List edt.EdtCall) (acquired gone : Bool) → AreTold d calls acquired gone → AreTold d (with_plan members calls) acquired gone
plan_told d members [] acquired gone told = record { acquired_so = told.acquired_so; gone_so = told.gone_so }
plan_told d members (one ∷ rest) acquired gone told = told

awake_told : (d : ℕ) (calls : List edt.EdtCall) (acquired gone : Bool) → AreTold d calls acquired gone → AreTold d (awake calls) acquired gone
awake_told d [] acquired gone told = told
awake_told d (edt.Wait ∷ rest) acquired gone told = record { acquired_so = told.acquired_so; gone_so = told.gone_so }
awake_told d (other ∷ rest) acquired gone told = told

told : (s : Setting) (past : History) (t d : ℕ) → IsRun s past → AreTold d (edt_calls s past t) (has_acquired past t d) (has_found_gone past t d)
told s [] t d run = record { acquired_so = refl; gone_so = refl }
told s (Call u home c a w ∷ past) t d run = elim (is_new c a t) as (λ b. is_new c a t ≡ b → AreTold d (if b then [] else edt_step u c a t (edt_calls s past t)) (has_acquired past t d) (has_found_gone past t d)) [
  | true ↦ λ is.
      let none = untouched s past t d run.0 (made_none s past t (new_fresh s.limit (parts_of s past) u home c a w t run.1.on_parts is).vacant) in
      record { acquired_so = sym none.acquired; gone_so = sym none.gone }
  | false ↦ λ _. step_told d u c a t (edt_calls s past t) _ _ (told s past t d run.0)
] refl
told s (Acquire u b ∷ past) t d run =
    let before = told s past t d run.0 in
    elim (u == t) as (λ x. AreTold d (if x then edt.Acquired b ∷ awake (with_plan (calls.plan_of s past t) (edt_calls s past t)) else edt_calls s past t) ((x && (b == d)) || has_acquired past t d) (has_found_gone past t d)) [
      | true ↦
          let on = awake_told d _ _ _ (plan_told d (calls.plan_of s past t) (edt_calls s past t) _ _ before) in
          record { acquired_so = ap (λ (x : Bool). (b == d) || x) on.acquired_so; gone_so = on.gone_so }
      | false ↦ before
    ]
told s (StaleAcquire u b ∷ past) t d run =
    let before = told s past t d run.0 in
    elim (u == t) as (λ x. AreTold d (if x then edt.FoundStale b ∷ awake (with_plan (calls.plan_of s past t) (edt_calls s past t)) else edt_calls s past t) (has_acquired past t d) ((x && (b == d)) || has_found_gone past t d)) [
      | true ↦
          let on = awake_told d _ _ _ (plan_told d (calls.plan_of s past t) (edt_calls s past t) _ _ before) in
          record { acquired_so = on.acquired_so; gone_so = ap (λ (x : Bool). (b == d) || x) on.gone_so }
      | false ↦ before
    ]
told s (Wait u b ∷ past) t d run =
    let before = told s past t d run.0 in
    elim (u == t) as (λ x. AreTold d (if x then edt.Wait ∷ with_plan (calls.plan_of s past t) (edt_calls s past t) else edt_calls s past t) (has_acquired past t d) (has_found_gone past t d)) [
      | true ↦
          let ready = plan_told d (calls.plan_of s past t) (edt_calls s past t) _ _ before in
          record { acquired_so = ready.acquired_so; gone_so = ready.gone_so }
      | false ↦ before
    ]
told s (Start u ∷ past) t d run =
    let before = told s past t d run.0 in
    elim (u == t) as (λ x. AreTold d (if x then edt.Start ∷ with_plan (calls.plan_of s past t) (edt_calls s past t) else edt_calls s past t) (has_acquired past t d) (has_found_gone past t d)) [
      | true ↦
          let ready = plan_told d (calls.plan_of s past t) (edt_calls s past t) _ _ before in
          record { acquired_so = ready.acquired_so; gone_so = ready.gone_so }
      | false ↦ before
    ]
told s (Free u b w ∷ past) t d run = kept_if d (u == t) (edt.DropHold b) (edt_calls s past t) _ _ refl refl (told s past t d run.0)
told s (End u g ∷ past) t d run = kept_if d (u == t) edt.End (edt_calls s past t) _ _ refl refl (told s past t d run.0)
told s (e ∷ past) t d run = told s past t d run.0

pub acquired_is : (s : Setting) (past : History) (t d : ℕ) → IsRun s past → edt.was_acquired d (edt_calls s past t) ≡ has_acquired past t d
acquired_is s past t d run = (told s past t d run).acquired_so

pub gone_is : (s : Setting) (past : History) (t d : ℕ) → IsRun s past → edt.was_stale d (edt_calls s past t) ≡ has_found_gone past t d
gone_is s past t d run = (told s past t d run).gone_so

-- THE BLOCK THAT IS NEXT
undone_is : (s : Setting) (past : History) (t : ℕ) (member : ℕ × Mode) → IsRun s past → is_ahead past t member.0 ≡ plain.is_undone (edt_calls s past t) member
undone_is s past t member run =
    let told : AreTold member.0 (edt_calls s past t) (has_acquired past t member.0) (has_found_gone past t member.0) = told s past t member.0 run in
    λ i. not (sym told.acquired_so i) && not (sym told.gone_so i)

first_is : (members : List (ℕ × Mode)) → slice_get members 0 ≡ first_of members
first_is [] = refl
first_is (member ∷ rest) = refl

pub next_is : NextLaw
next_is s past t run =
    let members : List (ℕ × Mode) = calls.plan_of s past t in
    ap (λ (l : List (ℕ × Mode)). slice_get (filter (λ (member : ℕ × Mode). is_ahead past t member.0) l) 0) (plan_is s past t)
    ∙ first_is (filter (λ (member : ℕ × Mode). is_ahead past t member.0) members)
    ∙ (λ i. first_of (filter (λ (member : ℕ × Mode). undone_is s past t member run i) members))

-- and its mode, where the EDT acquires it or waits for it
next_mode : (s : Setting) (past : History) (t d : ℕ) (m : Mode) → IsRun s past → is_edt past t ≡ true → is_started past t ≡ false → open_slots s past t ≡ []
    → next_on (ready_at t (calls.plan_of s past t) (parts_of s past)) t ≡ Some (d, m) → blocks.next_mode s past t ≡ calls.next_mode s past t
next_mode s past t d m run is_one off set next =
    ap mode_next (next_is s past t run ∙ sym (next_law s past t run is_one off) ∙ next ∙ sym (now_next s past t d m run set next).member)

pub mode_is : (s : Setting) (past : History) (t d : ℕ) → IsRun s past → IsLegal s past (Acquire t d) → blocks.next_mode s past t ≡ calls.next_mode s past t
mode_is s past t d run is =
    let ready = ((acquire_law s past t d run).0 is).1.ready in
    next_mode s past t d _ run ready.made ready.not_started is.on_facts is.on_parts.next

pub wait_mode_is : (s : Setting) (past : History) (t d : ℕ) → IsRun s past → IsLegal s past (Wait t d) → blocks.next_mode s past t ≡ calls.next_mode s past t
wait_mode_is s past t d run is =
    let ready = ((wait_law s past t d run).0 is).1.ready in
    next_mode s past t d _ run ready.made ready.not_started is.on_facts is.on_parts.next

-- WHAT IT HOLDS, through the steps of its core. It makes a block
abbrev mode_held : Part → ℕ → Option Mode
mode_held x d = mode_in d (held_on x)

holding_edt_mode : (e : Edt) (g d : ℕ) → is_some (work_in e) ≡ true → mode_in d (held_in (holding_edt g e)) ≡ (if g == d then Some mode.Rw else mode_in d (held_in e))
holding_edt_mode (phase.Running w) g d running = elim (g == d) as (λ b. (g == d) ≡ b → mode_in d (placed_by name_of (g, mode.Rw) (without g w.holds)) ≡ (if b then Some mode.Rw else mode_in d w.holds)) [
  | true ↦ λ here. subst (λ (n : ℕ). mode_in n (placed_by name_of (g, mode.Rw) (without g w.holds)) ≡ Some mode.Rw) (eqb-true g d here) (mode_in-placed g mode.Rw (without g w.holds) (mode_in-without g w.holds))
  | false ↦ λ off. mode_in-placed_other g d mode.Rw (without g w.holds) (flip g d off) ∙ mode_in-other g d w.holds (flip g d off)
] refl
holding_edt_mode other g d running = cc running

creating_mode : (x : Part) (fl g n d : ℕ) → is_running x ≡ true → mode_held (on_core x (creating_core fl g n)) d ≡ (if (g == d) && (fl == 0) then Some mode.Rw else mode_held x d)
creating_mode (part.Core c) fl g n d running = elim (fl == 0) as (λ b. mode_in d (held_in (if b then holding_core g n c else c).edt) ≡ (if (g == d) && b then Some mode.Rw else mode_in d (held_in c.edt))) [
  | true ↦ rw (and-true (g == d)) (holding_edt_mode c.edt g d running)
  | false ↦ rw (and_false (g == d)) refl
]
creating_mode other fl g n d running = cc running

-- gives one back
dropped_edt_mode : (e : Edt) (b d : ℕ) → is_some (work_in e) ≡ true → mode_in d (held_in (dropped_edt b e)) ≡ (if b == d then None else mode_in d (held_in e))
dropped_edt_mode (phase.Running w) b d running = elim (b == d) as (λ x. (b == d) ≡ x → mode_in d (without b w.holds) ≡ (if x then None else mode_in d w.holds)) [
  | true ↦ λ here. subst (λ (n : ℕ). mode_in n (without b w.holds) ≡ None) (eqb-true b d here) (mode_in-without b w.holds)
  | false ↦ λ off. mode_in-other b d w.holds (flip b d off)
] refl
dropped_edt_mode other b d running = cc running

dropping_mode : (x : Part) (b d : ℕ) → is_running x ≡ true → mode_held (on_core x (dropping_core b)) d ≡ (if b == d then None else mode_held x d)
dropping_mode (part.Core c) b d running = dropped_edt_mode c.edt b d running
dropping_mode other b d running = cc running

-- gets one
getting_edt_mode : (e : Edt) (b d : ℕ) (m : Mode) → next_in (progress_in e) ≡ Some (b, m) → IsOrdered (held_in e) (rest_in e) → (b == d) ≡ false → mode_in d (held_in (acquired_edt (awoken e))) ≡ mode_in d (held_in e)
getting_edt_mode (phase.Acquiring p) b d m next ordered off = (advances p.identity p.holds p.stale p.rest b m next ordered).there d off
getting_edt_mode (phase.Waiting p) b d m next ordered off = (advances p.identity p.holds p.stale p.rest b m next ordered).there d off
getting_edt_mode other b d m next ordered off = cc

getting_mode : (x : Part) (b d : ℕ) (m k : Mode) (size : ℕ) (words : List ℕ) → next_in (core_progress x) ≡ Some (b, m) → IsOrdered (held_on x) (rest_on x) → (b == d) ≡ false → mode_held (on_core x (acquiring_core b k size words)) d ≡ mode_held x d
getting_mode (part.Core c) b d m k size words next ordered off = getting_edt_mode c.edt b d m next ordered off
getting_mode other b d m k size words next ordered off = cc

-- waits, finds one gone, or starts
waiting_holds : (e : Edt) → held_in (waiting_edt e) ≡ held_in e
waiting_holds (phase.Acquiring p) = refl
waiting_holds other = refl

passed_holds : (i : Identity) (held : List (ℕ × Mode)) (stale : List ℕ) (rest : List (ℕ × Mode)) → (with_next i held stale rest true).holds ≡ held
passed_holds i held stale [] = refl
passed_holds i held stale (one ∷ rest) = refl

stale_holds : (e : Edt) → held_in (stale_edt (awoken e)) ≡ held_in e
stale_holds (phase.Acquiring p) = passed_holds p.identity p.holds p.stale p.rest
stale_holds (phase.Waiting p) = passed_holds p.identity p.holds p.stale p.rest
stale_holds other = refl

started_holds : (e : Edt) → held_in (started_edt e) ≡ held_in e
started_holds (phase.Acquiring p) = refl
started_holds other = refl

-- and ends, when it holds nothing
ended_holds : (e : Edt) → holds_of (work_in e) ≡ [] → held_in (ended_edt e) ≡ held_in e
ended_holds (phase.Running w) nothing = sym nothing
ended_holds other nothing = refl

phase_holds : (x : Part) (step : Edt → Edt) → ((e : Edt) → holds_of (work_of x) ≡ holds_of (work_in e) → held_in (step e) ≡ held_in e) → held_on (on_core x (with_phase step)) ≡ held_on x
phase_holds (part.Core c) step same = same c.edt refl
phase_holds other step same = refl

-- ONE CORE CHANGES
core_mode : (core : ℕ → Part) (u t d : ℕ) (y : Part) (step : Option Mode → Option Mode) → mode_held y d ≡ step (mode_held (core u) d)
    → mode_held (if u == t then y else core t) d ≡ (if u == t then step (mode_held (core t) d) else mode_held (core t) d)
core_mode core u t d y step is = elim (u == t) as (λ b. (u == t) ≡ b → mode_held (if b then y else core t) d ≡ (if b then step (mode_held (core t) d) else mode_held (core t) d)) [
  | true ↦ λ here. subst (λ (n : ℕ). mode_held y d ≡ step (mode_held (core n) d)) (eqb-true u t here) is
  | false ↦ λ _. refl
] refl

core_holds : (core : ℕ → Part) (u t : ℕ) (y : Part) → held_on y ≡ held_on (core u) → held_on (if u == t then y else core t) ≡ held_on (core t)
core_holds core u t y is = elim (u == t) as (λ b. (u == t) ≡ b → held_on (if b then y else core t) ≡ held_on (core t)) [
  | true ↦ λ here. subst (λ (n : ℕ). held_on y ≡ held_on (core n)) (eqb-true u t here) is
  | false ↦ λ _. refl
] refl

either_same : (b : Bool) (o : Option Mode) → o ≡ (if b then o else o)
either_same true o = refl
either_same false o = refl

new_holds : (x : Part) (i : Identity) (params : List ℕ) → held_on (new_core x i params) ≡ []
new_holds (part.Template t) i params = refl
new_holds other i params = refl

called_mode : (s : Setting) (f : Parts) (u home : ℕ) (c : body.Call) (a : Answer) (w : List (ℕ × ℕ)) (t d : ℕ) → is_done a.code ≡ true → IsCallOn s.limit f u home c a w
    → mode_held ((called u c a w f).core t) d ≡ (if u == t then held_after c a d (mode_held (f.core t) d) else mode_held (f.core t) d)
called_mode s f u home (call.DbCreate n fl) a w t d on is = core_mode f.core u t d _ (held_after (call.DbCreate n fl) a d) (creating_mode (f.core u) fl a.value (n / 8) d is.running)
called_mode s f u home (call.DbRelease b) a w t d on is = core_mode f.core u t d _ (held_after (call.DbRelease b) a d) (dropping_mode (f.core u) b d is.running)
called_mode s f u home (call.DbDestroy b) a w t d on is = core_mode f.core u t d _ (held_after (call.DbDestroy b) a d) (dropping_mode (f.core u) b d is.running)
called_mode s f u home (call.AddDependence from x i m) a w t d on is =
    let linked : Parts = with_face f x (with_links (f.face x) (λ slots. after_link slots i (mode_named m))) in
    ap (λ (y : Part). mode_held y d) (linked_core (not (from == 0)) from (target_of (is_edt_face (f.face x)) x i) linked t) ∙ either_same (u == t) _
called_mode s f u home (call.EdtCreate from pc ps dc ds fl out) a w t d on is =
    ap (λ (y : Part). mode_held y d) (deps_core a.value 0 ds _ t)
    ∙ ap (mode_in d) (core_holds f.core a.value t (new_core (f.face from) _ ps) (new_holds (f.face from) _ ps ∙ sym (ap held_on (is.value.no_core on))))
    ∙ either_same (u == t) _
called_mode s f u home other a w t d on is = either_same (u == t) _

call_mode : (s : Setting) (f : Parts) (u home : ℕ) (c : body.Call) (a : Answer) (w : List (ℕ × ℕ)) (t d : ℕ) → IsCallOn s.limit f u home c a w
    → mode_held ((if is_done a.code then joined c home (called u c a w f) else f).core t) d ≡ (if is_done a.code && (u == t) then held_after c a d (mode_held (f.core t) d) else mode_held (f.core t) d)
call_mode s f u home c a w t d is = elim (is_done a.code) as (λ b. is_done a.code ≡ b → mode_held ((if b then joined c home (called u c a w f) else f).core t) d ≡ (if b && (u == t) then held_after c a d (mode_held (f.core t) d) else mode_held (f.core t) d)) [
  | true ↦ λ on. called_mode s f u home c a w t d on is
  | false ↦ λ _. refl
] refl

-- made ready it holds what it held
readied_holds : (s : Setting) (past : History) (u t : ℕ) → held_on ((ready_at u (calls.plan_of s past u) (parts_of s past)).core t) ≡ held_on ((parts_of s past).core t)
readied_holds s past u t = core_holds (parts_of s past).core u t _ (ready_held (calls.plan_of s past u) ((parts_of s past).core u))

after_step : (s : Setting) (past : History) (u t : ℕ) (step : Edt → Edt) → ((e : Edt) → held_in (step e) ≡ held_in e)
    → held_on ((with_core (ready_at u (calls.plan_of s past u) (parts_of s past)) u (on_core ((ready_at u (calls.plan_of s past u) (parts_of s past)).core u) (with_phase step))).core t) ≡ held_on ((parts_of s past).core t)
after_step s past u t step same =
    let f : Parts = ready_at u (calls.plan_of s past u) (parts_of s past) in
    core_holds f.core u t (on_core (f.core u) (with_phase step)) (phase_holds (f.core u) step (λ e _. same e)) ∙ readied_holds s past u t

-- EACH ENTRY
after_mode : (s : Setting) (past : History) (e : Entry) (t d : ℕ) → IsRun s past → IsLegal s past e → hold_of s (e ∷ past) t d ≡ mode_held ((changed e (readied_on s past e (parts_of s past))).core t) d
after_mode s past e t d run is = ap (λ (f : Parts). mode_held (f.core t) d) (after_law s past e run is)

acquired_else : (f : Parts) (t b d : ℕ) (m : Mode) → next_on f t ≡ Some (b, m) → IsOrdered (held_on (f.core t)) (rest_on (f.core t)) → (b == d) ≡ false → mode_held ((acquired f t b).core t) d ≡ mode_held (f.core t) d
acquired_else f t b d m next ordered off = rw (same t) (getting_mode (f.core t) b d m (next_mode_on f t) (size_on (f.face b)) (words_on (f.face b)) next ordered off)

own_acquire : (s : Setting) (past : History) (t b d : ℕ) → IsRun s past → IsLegal s past (Acquire t b) → hold_of s (Acquire t b ∷ past) t d ≡ (if b == d then Some (blocks.next_mode s past t) else hold_of s past t d)
own_acquire s past t b d run is =
    let f : Parts = ready_at t (calls.plan_of s past t) (parts_of s past) in
    let may = (acquire_law s past t b run).0 is in
    let now = now_next s past t b _ run is.on_facts is.on_parts.next in
    elim (b == d) as (λ x. (b == d) ≡ x → hold_of s (Acquire t b ∷ past) t d ≡ (if x then Some (blocks.next_mode s past t) else hold_of s past t d)) [
      | true ↦ λ here.
          let mode : blocks.next_mode s past t ≡ may.0 = ap mode_next (next_is s past t run ∙ may.1.next) in
          subst (λ (n : ℕ). hold_of s (Acquire t b ∷ past) t n ≡ Some (blocks.next_mode s past t)) (eqb-true b d here)
          (acquired_law s past t b may.0 (run, is) may.1.next ∙ ap (λ (m : Mode). Some m) (sym mode))
      | false ↦ λ off.
          after_mode s past (Acquire t b) t d run is
          ∙ acquired_else f t b d _ is.on_parts.next (now.all.ordered t) off
          ∙ ap (mode_in d) (readied_holds s past t t)
    ] refl

acquire_mode : (s : Setting) (past : History) (u b t d : ℕ) → IsRun s past → IsLegal s past (Acquire u b) → hold_of s (Acquire u b ∷ past) t d ≡ (if (u == t) && (b == d) then Some (blocks.next_mode s past t) else hold_of s past t d)
acquire_mode s past u b t d run is = elim (u == t) as (λ x. (u == t) ≡ x → hold_of s (Acquire u b ∷ past) t d ≡ (if x && (b == d) then Some (blocks.next_mode s past t) else hold_of s past t d)) [
  | true ↦ λ here. subst (λ (n : ℕ). hold_of s (Acquire u b ∷ past) n d ≡ (if b == d then Some (blocks.next_mode s past n) else hold_of s past n d)) (eqb-true u t here) (own_acquire s past u b d run is)
  | false ↦ λ off.
      let cores : (parts_of s (Acquire u b ∷ past)).core t ≡ (parts_of s past).core t = rw off (refl {a = (parts_of s past).core t}) in
      ap (λ (x : Part). mode_held x d) cores
] refl

opened_holds : (m : Option Made) (i : Identity) → held_on (core m i [] []) ≡ []
opened_holds (Some (MadeEdt f ps n)) i = refl
opened_holds other i = refl

both_if : (x y : Bool) (o : Option Mode) → (if x then (if y then None else o) else o) ≡ (if x && y then None else o)
both_if true y o = refl
both_if false y o = refl

pub held_is : HeldLaw
held_is s [] t d run = sym (ap (mode_in d) (opened_holds (opened s t) (plain_identity t)))
held_is s (Call u home c a w ∷ past) t d run =
    ap (λ (o : Option Mode). if is_done a.code && (u == t) then held_after c a d o else o) (held_is s past t d run.0)
    ∙ sym (after_mode s past (Call u home c a w) t d run.0 run.1 ∙ call_mode s (parts_of s past) u home c a w t d run.1.on_parts)
held_is s (Acquire u b ∷ past) t d run =
    ap (λ (o : Option Mode). if (u == t) && (b == d) then Some (blocks.next_mode s past t) else o) (held_is s past t d run.0)
    ∙ sym (acquire_mode s past u b t d run.0 run.1)
held_is s (Wait u b ∷ past) t d run =
    held_is s past t d run.0 ∙ sym (after_mode s past (Wait u b) t d run.0 run.1 ∙ ap (mode_in d) (after_step s past u t waiting_edt waiting_holds))
held_is s (StaleAcquire u b ∷ past) t d run =
    held_is s past t d run.0 ∙ sym (after_mode s past (StaleAcquire u b) t d run.0 run.1 ∙ ap (mode_in d) (after_step s past u t (λ e. stale_edt (awoken e)) stale_holds))
held_is s (Start u ∷ past) t d run =
    held_is s past t d run.0 ∙ sym (after_mode s past (Start u) t d run.0 run.1 ∙ ap (mode_in d) (after_step s past u t started_edt started_holds))
held_is s (Free u b w ∷ past) t d run =
    let f : Parts = parts_of s past in
    ap (λ (o : Option Mode). if (u == t) && (b == d) then None else o) (held_is s past t d run.0)
    ∙ sym (after_mode s past (Free u b w) t d run.0 run.1
    ∙ core_mode f.core u t d (on_core (f.core u) (dropping_core b)) (λ o. if b == d then None else o) (dropping_mode (f.core u) b d run.1.on_parts.running)
    ∙ both_if (u == t) (b == d) _)
held_is s (End u g ∷ past) t d run =
    let f : Parts = parts_of s past in
    held_is s past t d run.0
    ∙ sym (after_mode s past (End u g) t d run.0 run.1
    ∙ ap (mode_in d) (core_holds f.core u t (on_core (f.core u) (with_phase ended_edt)) (phase_holds (f.core u) ended_edt (λ e same. ended_holds e (sym same ∙ run.1.on_parts.nothing_held)))))
held_is s (e ∷ past) t d run = held_is s past t d run.0

-- WHAT IT FOUND GONE stands in its plan
named_kept : (p : ℕ) (test : ℕ → Bool) (members : List (ℕ × Mode)) → is_named p (map name_of (filter (λ (member : ℕ × Mode). test member.0) members)) ≡ (is_named p (map name_of members) && test p)
named_kept p test [] = refl
named_kept p test (one ∷ rest) =
    let more : List ℕ = map name_of (filter (λ (member : ℕ × Mode). test member.0) rest) in
    let later = named_kept p test rest in
    elim (test one.0) as (λ b. test one.0 ≡ b → is_named p (map name_of (cond b (one ∷ filter (λ (member : ℕ × Mode). test member.0) rest) (filter (λ (member : ℕ × Mode). test member.0) rest))) ≡ (((p == one.0) || is_named p (map name_of rest)) && test p)) [
      | true ↦ λ on. elim (p == one.0) as (λ x. (p == one.0) ≡ x → (x || is_named p more) ≡ ((x || is_named p (map name_of rest)) && test p)) [
        | true ↦ λ here. sym (ap test (eqb-true p one.0 here) ∙ on)
        | false ↦ λ _. later
      ] refl
      | false ↦ λ off. elim (p == one.0) as (λ x. (p == one.0) ≡ x → is_named p more ≡ ((x || is_named p (map name_of rest)) && test p)) [
        | true ↦ λ here. let none : test p ≡ false = ap test (eqb-true p one.0 here) ∙ off in later ∙ ap (λ (b : Bool). is_named p (map name_of rest) && b) none ∙ and_false (is_named p (map name_of rest)) ∙ sym none
        | false ↦ λ _. later
      ] refl
    ] refl

first_named : (q : ℕ × Mode → Bool) (members : List (ℕ × Mode)) (b : ℕ) (m : Mode) → first_of (filter q members) ≡ Some (b, m) → is_named b (map name_of members) ≡ true
first_named q [] b m is = cc is
first_named q (one ∷ rest) b m is = elim (q one) as (λ x. first_of (cond x (one ∷ filter q rest) (filter q rest)) ≡ Some (b, m) → ((b == one.0) || is_named b (map name_of rest)) ≡ true) [
  | true ↦ λ is. let here : one.0 ≡ b = cc is in rw (eq-eqb b one.0 (sym here)) refl
  | false ↦ λ is. ap (λ (x : Bool). (b == one.0) || x) (first_named q rest b m is) ∙ or-true (b == one.0)
] is

abbrev IsListed : ℕ → List edt.EdtCall → Type 0
IsListed p calls = edt.was_stale p calls ≡ true → is_named p (map name_of (edt.plan_given calls)) ≡ true

listed_if : (p : ℕ) (b : Bool) (one : edt.EdtCall) (calls : List edt.EdtCall) → edt.finds_stale one p ≡ false → edt.plan_given (one ∷ calls) ≡ edt.plan_given calls → IsListed p calls → IsListed p (if b then one ∷ calls else calls)
listed_if p true one calls other same listed = λ is. ap (λ (members : List (ℕ × Mode)). is_named p (map name_of members)) same ∙ listed (sym (ap (λ (x : Bool). x || edt.was_stale p calls) other) ∙ is)
listed_if p false one calls other same listed = listed

step_listed : (p by : ℕ) (c : body.Call) (a : Answer) (t : ℕ) (calls : List edt.EdtCall) → IsListed p calls → IsListed p (edt_step by c a t calls)
step_listed p by (call.DbCreate n fl) a t calls listed = listed_if p _ (edt.Hold a.value) calls refl refl listed
step_listed p by (call.DbRelease b) a t calls listed = listed_if p _ (edt.DropHold b) calls refl refl listed
step_listed p by (call.DbDestroy b) a t calls listed = listed_if p _ (edt.DropHold b) calls refl refl listed
step_listed p by other a t calls listed = listed

plan_listed : (p : ℕ) (members : List (ℕ × Mode)) (calls : List edt.EdtCall) → IsListed p calls → IsListed p (with_plan members calls)
plan_listed p members [] listed = λ is. cc is
plan_listed p members (one ∷ rest) listed = listed

awake_listed : (p : ℕ) (calls : List edt.EdtCall) → IsListed p calls → IsListed p (awake calls)
awake_listed p [] listed = listed
awake_listed p (edt.Wait ∷ rest) listed = listed
awake_listed p (other ∷ rest) listed = listed

awake_plan : (calls : List edt.EdtCall) → edt.plan_given (awake calls) ≡ edt.plan_given calls
awake_plan [] = refl
awake_plan (edt.Wait ∷ rest) = refl
awake_plan (other ∷ rest) = refl

found_listed : (s : Setting) (past : History) (t b p : ℕ) → IsRun s past → IsLegal s past (StaleAcquire t b) → IsListed p (edt_calls s past t) → IsListed p (edt.FoundStale b ∷ awake (with_plan (calls.plan_of s past t) (edt_calls s past t)))
found_listed s past t b p run is listed = λ found. elim (or_cases (b == p) _ found) [
  | inl here ↦
      let may = (stale_law s past t b run).0 is in
      let given : edt.plan_given (awake (with_plan (calls.plan_of s past t) (edt_calls s past t))) ≡ calls.plan_of s past t =
      awake_plan (with_plan (calls.plan_of s past t) (edt_calls s past t)) ∙ ready_is (calls.plan_of s past t) (edt_calls s past t) (planned_law s past t run may.1.ready.made) in
      let first : is_named b (map name_of (calls.plan_of s past t)) ≡ true = first_named (plain.is_undone (edt_calls s past t)) (calls.plan_of s past t) b may.0 may.1.next in
      ap (λ (members : List (ℕ × Mode)). is_named p (map name_of members)) given ∙ subst (λ (n : ℕ). is_named n (map name_of (calls.plan_of s past t)) ≡ true) (eqb-true b p here) first
  | inr earlier ↦ awake_listed p (with_plan (calls.plan_of s past t) (edt_calls s past t)) (plan_listed p (calls.plan_of s past t) (edt_calls s past t) listed) earlier
]

listed : (s : Setting) (past : History) (t p : ℕ) → IsRun s past → IsListed p (edt_calls s past t)
listed s [] t p run = λ is. cc is
listed s (Call u home c a w ∷ past) t p run = elim (is_new c a t) as (λ b. IsListed p (if b then [] else edt_step u c a t (edt_calls s past t))) [
  | true ↦ λ is. cc is
  | false ↦ step_listed p u c a t (edt_calls s past t) (listed s past t p run.0)
]
listed s (Acquire u b ∷ past) t p run = elim (u == t) as (λ x. IsListed p (if x then edt.Acquired b ∷ awake (with_plan (calls.plan_of s past t) (edt_calls s past t)) else edt_calls s past t)) [
  | true ↦ awake_listed p (with_plan (calls.plan_of s past t) (edt_calls s past t)) (plan_listed p (calls.plan_of s past t) (edt_calls s past t) (listed s past t p run.0))
  | false ↦ listed s past t p run.0
]
listed s (StaleAcquire u b ∷ past) t p run = elim (u == t) as (λ x. (u == t) ≡ x → IsListed p (if x then edt.FoundStale b ∷ awake (with_plan (calls.plan_of s past t) (edt_calls s past t)) else edt_calls s past t)) [
  | true ↦ λ here. found_listed s past t b p run.0 (subst (λ (n : ℕ). IsLegal s past (StaleAcquire n b)) (eqb-true u t here) run.1) (listed s past t p run.0)
  | false ↦ λ _. listed s past t p run.0
] refl
listed s (Wait u b ∷ past) t p run = elim (u == t) as (λ x. IsListed p (if x then edt.Wait ∷ with_plan (calls.plan_of s past t) (edt_calls s past t) else edt_calls s past t)) [
  | true ↦ plan_listed p (calls.plan_of s past t) (edt_calls s past t) (listed s past t p run.0)
  | false ↦ listed s past t p run.0
]
listed s (Start u ∷ past) t p run = elim (u == t) as (λ x. IsListed p (if x then edt.Start ∷ with_plan (calls.plan_of s past t) (edt_calls s past t) else edt_calls s past t)) [
  | true ↦ plan_listed p (calls.plan_of s past t) (edt_calls s past t) (listed s past t p run.0)
  | false ↦ listed s past t p run.0
]
listed s (Free u b w ∷ past) t p run = listed_if p (u == t) (edt.DropHold b) (edt_calls s past t) refl refl (listed s past t p run.0)
listed s (End u g ∷ past) t p run = listed_if p (u == t) edt.End (edt_calls s past t) refl refl (listed s past t p run.0)
listed s (e ∷ past) t p run = listed s past t p run.0

pub lost_is : (s : Setting) (past : History) (t p : ℕ) → IsRun s past → is_named p (edt.stale_of (edt_calls s past t)) ≡ has_found_gone past t p
lost_is s past t p run =
    let now : List edt.EdtCall = edt_calls s past t in
    named_kept p (λ b. edt.was_stale b now) (edt.plan_given now)
    ∙ within (is_named p (map name_of (edt.plan_given now))) (edt.was_stale p now) (listed s past t p run)
    ∙ gone_is s past t p run
  where
    within : (x y : Bool) → (y ≡ true → x ≡ true) → (x && y) ≡ y
    within x true less = ap (λ (b : Bool). b && true) (less refl)
    within x false less = and_false x
