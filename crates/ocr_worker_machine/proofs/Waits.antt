-- Who waits after a run, and who may start or be let wait.
use Rattle.std.proofs.Common.{◌≡◌, ℕ, ◌≤◌, List, [], ◌∷◌, ◌++◌, reverse, Bool, true, false, ◌==◌, nat_lt, if◌then◌else◌, Option, Some, None, is_some, refl, sym, ◌∙◌, ap, subst}
use Rattle.std.proofs.lemmas.Bool.{eqb-true, cond-true}
use Rattle.std.proofs.lemmas.List.{reverse-reverse}
use Rattle.std.proofs.Math.Bool.{or-false}
use Rattle.ocr_base.proofs.Booleans.{same as number_same}
use Rattle.ocr_acquire.specs.declared.Mode.{Mode}
use Rattle.ocr_acquire.specs.Mode.{mode_in}
use Rattle.ocr_slots.specs.Slots as slot
use Rattle.ocr_datablock.specs.Steps as block_steps
use Rattle.ocr_edt.specs.Edt as edt
use Rattle.ocr_edt.specs.declared.Edt.{Edt}
use Rattle.ocr_edt.specs.declared.Edt.TheVariants as phase
use Rattle.ocr_machine_history.specs.declared.entry.Entry.{Entry}
use Rattle.ocr_machine_history.specs.declared.entry.Entry.TheVariants.{Call, Deliver, Acquire, Wait, StaleAcquire, Start, Free, End, Stop}
use Rattle.ocr_machine_history.specs.History.{History}
use Rattle.ocr_machine_history.specs.History as history
use Rattle.ocr_machine_history.specs.Made.{Made, MadeEdt, is_edt_made, made, opened}
use Rattle.ocr_machine_parts.specs.declared.loans.Kept.{Kept}
use Rattle.ocr_machine_parts.specs.declared.part.Core.{Core}
use Rattle.ocr_machine_parts.specs.declared.part.Part.{Part}
use Rattle.ocr_machine_parts.specs.declared.part.Part.TheVariants as part
use Rattle.ocr_machine_parts.specs.Calls.{depc_of, edt_calls, loans_of, open_slots, plan_of, set_calls}
use Rattle.ocr_machine_parts.specs.Effects.{changed}
use Rattle.ocr_machine_parts.specs.Progress.{made_ready, next_mode_on, readied_on, ready_at, with_phase}
use Rattle.ocr_machine_parts.specs.Kinds.{IsBlock, is_acquiring, is_acquiring_edt, is_running, on_core, with_block}
use Rattle.ocr_machine_parts.specs.LegalOn.{IsRefused}
use Rattle.ocr_machine_parts.specs.Legal.{IsRun, IsLegal}
use Rattle.ocr_machine_parts.specs.Messages.{resumes}
use Rattle.ocr_edt.specs.declared.Identity.{Identity}
use Rattle.ocr_machine_parts.specs.Parts.{Parts, core, identity_of, parts_of, plain_identity}
use Rattle.ocr_machine_parts.proofs.After.{after_law}
use Rattle.ocr_machine_laws.specs.Marks.{mark, mark_in}
use Rattle.ocr_machine_laws.specs.Waits.{AreStanding, awaits, queue_on}
use Rattle.ocr_machine_laws.proofs.Stages.{readied_standing, ready_told, standing_law, told_law}
use Rattle.ocr_machine_laws.proofs.States.{push_other}
use Rattle.ocr_machine_laws.proofs.Held.{running_core}
use Rattle.ocr_machine_laws.proofs.Permanence.{all_set}
use Rattle.ocr_turns_rule.specs.Counts.{IsReady, awaited, is_ended, is_in, is_started, place_or}
use Rattle.ocr_turns_rule.specs.declared.view.Terms.{Terms}
use Rattle.ocr_worker_machine.specs.Ocr.{meaning, resumed}
use Rattle.ocr_worker_machine.specs.declared.setting.Setting.{Setting}
use Rattle.ocr_worker_machine.proofs.Awaits.{IsAwaiting, IsQueued, Moving, effect_awaits, entry_effect, none_left, still_awaits, unqueued}
use Rattle.ocr_worker_machine.proofs.Queues.{refused_queue}
use Rattle.ocr_worker_machine.proofs.Runs.{of_terms}
use Rattle.ocr_worker_machine.proofs.Slots.{edt_slots, ended_is, payload_is, slots_are, started_is}
use Rattle.ocr_machine_laws.proofs.Plain.{acquiring_idle}
use Rattle.ocr_machine_laws.proofs.Own.{running_mark}
use Rattle.ocr_machine_parts.proofs.Blocks.{mode_added}

-- the EDTs that the table sees resumed
pub resumed_is : (t : Terms Setting) (past : History) (e : Entry) → resumed t.setting.value t.limit (reverse past) e ≡ resumes e (parts_of (of_terms t) past)
resumed_is t past e = ap (λ (K : History). resumes e (parts_of (of_terms t) K)) (reverse-reverse past)

-- AT THE OPENING nobody waits
fresh_awaits : (m : Option Made) (i : Identity) → awaits (core m i [] []) ≡ None
fresh_awaits (Some (MadeEdt f ps n)) i = refl
fresh_awaits other i = refl

-- WHO IS LET WAIT comes last in the queue
pushed_queue : (x : Part) (t : ℕ) (m : Mode) → IsBlock x (IsRefused t m) → queue_on (with_block x (λ st. block_steps.after_ask st t m)) ≡ queue_on x ++ (t, m) ∷ []
pushed_queue (part.Block st) t m refused = refused_queue t m st refused
pushed_queue other t m refused = absurd refused

not_yet : (x : Part) (t : ℕ) (m : Mode) → IsBlock x (IsRefused t m) → mode_in t (queue_on x) ≡ None
not_yet (part.Block st) t m refused = refused.newcomer.not_waiting
not_yet other t m refused = absurd refused

abbrev face_if : Parts → ℕ → Part → ℕ → Part
face_if f d x e = if d == e then x else f.face e

waited_own : (f h : Parts) (u d : ℕ) (m : Mode) (x : Part) → ((e : ℕ) → h.face e ≡ face_if f d x e) → queue_on x ≡ queue_on (f.face d) ++ (u, m) ∷ [] → mode_in u (queue_on (f.face d)) ≡ None → ((e : ℕ) → IsQueued f u e → ⊥) → IsAwaiting (Some d) h u
waited_own f h u d m x is queue none never = record {
  told = λ e same.
      let de : d ≡ e = some_same d e same in
      let here : h.face d ≡ x = is d ∙ first (d == d) x (f.face d) (number_same d) in
      let there : IsQueued h u d = ap (λ (y : Part). is_some (mode_in u (queue_on y))) here ∙ (ap (λ (q : List (ℕ × Mode)). is_some (mode_in u q)) queue ∙ ap (λ (o : Option Mode). is_some o) (mode_added u m (queue_on (f.face d)) none)) in
      subst (λ (k : ℕ). IsQueued h u k) de there;
  all = λ e queued. elim (d == e) as (λ b. (d == e) ≡ b → Some d ≡ Some e) [
    | true ↦ λ same. ap (λ (k : ℕ). Some k) (eqb-true d e same)
    | false ↦ λ apart. absurd (never e (ap (λ (y : Part). is_some (mode_in u (queue_on y))) (sym (is e ∙ second (d == e) x (f.face e) apart)) ∙ queued))
  ] refl;
}
  where
    some_same : (d e : ℕ) → Some d ≡ Some e → d ≡ e
    some_same d e same = cc same

    first : (b : Bool) (x y : Part) → b ≡ true → (if b then x else y) ≡ x
    first true x y is = refl
    first false x y is = cc is

    second : (b : Bool) (x y : Part) → b ≡ false → (if b then x else y) ≡ y
    second true x y is = cc is
    second false x y is = refl

waited_other : (f h : Parts) (u n d : ℕ) (m : Mode) (x : Part) (o : Option ℕ) → ((e : ℕ) → h.face e ≡ face_if f d x e) → queue_on x ≡ queue_on (f.face d) ++ (u, m) ∷ [] → (u == n) ≡ false → IsAwaiting o f n → IsAwaiting o h n
waited_other f h u n d m x o is queue apart was = record {
  told = λ e same. ap (λ (z : Option Mode). is_some z) (modes e) ∙ was.told e same;
  all = λ e queued. was.all e (ap (λ (z : Option Mode). is_some z) (sym (modes e)) ∙ queued);
}
  where
    modes : (e : ℕ) → mode_in n (queue_on (h.face e)) ≡ mode_in n (queue_on (f.face e))
    modes e = ap (λ (y : Part). mode_in n (queue_on y)) (is e) ∙ elim (d == e) as (λ b. (d == e) ≡ b → mode_in n (queue_on (if b then x else f.face e)) ≡ mode_in n (queue_on (f.face e))) [
      | true ↦ λ same. ap (mode_in n) queue ∙ (push_other u n m (queue_on (f.face d)) apart ∙ ap (λ (k : ℕ). mode_in n (queue_on (f.face k))) (eqb-true d e same))
      | false ↦ λ _. refl
    ] refl

abbrev waits_if : Bool → ℕ → Option ℕ → Option ℕ
waits_if b d o = place_or (if b then Some d else None) o

wait_awaits : (s : history.Setting) (past : History) (u d n : ℕ) (o : Option ℕ) → IsRun s past → IsLegal s past (Wait u d) → IsAwaiting o (parts_of s past) n → IsAwaiting (waits_if (u == n) d o) (changed (Wait u d) (readied_on s past (Wait u d) (parts_of s past))) n
wait_awaits s past u d n o run legal was =
    let f = parts_of s past in let e : Entry = Wait u d in let r = readied_on s past e f in let h = changed e r in let m = next_mode_on r u in
    let standing : AreStanding r = readied_standing s past e (standing_law s past run) in
    let none : awaits (r.core u) ≡ None = acquiring_idle (r.core u) legal.on_parts.acquiring in
    let x : Part = with_block (f.face d) (λ st. block_steps.after_ask st u m) in
    let queue : queue_on x ≡ queue_on (f.face d) ++ (u, m) ∷ [] = pushed_queue (f.face d) u m legal.on_parts.refused in
    elim (u == n) as (λ b. (u == n) ≡ b → IsAwaiting (waits_if b d o) h n) [
      | true ↦ λ same. subst (λ (k : ℕ). IsAwaiting (Some d) h k) (eqb-true u n same) (waited_own f h u d m x (λ k. refl) queue (not_yet (f.face d) u m legal.on_parts.refused) (λ k queued. unqueued r u k standing none queued))
      | false ↦ λ apart. waited_other f h u n d m x o (λ k. refl) queue apart was
    ] refl

-- WHO STARTS OR ENDS does not wait
abbrev gone_if : Bool → Option ℕ → Option ℕ
gone_if b o = if b then None else o

gone_awaits : (f h : Parts) (u n : ℕ) (b : Bool) (o : Option ℕ) → ((k : ℕ) → queue_on (h.face k) ≡ queue_on (f.face k)) → (b ≡ true → u ≡ n) → ((k : ℕ) → IsQueued f u k → ⊥) → IsAwaiting o f n → IsAwaiting (gone_if b o) h n
gone_awaits f h u n true o still here never was = subst (λ (k : ℕ). IsAwaiting None h k) (here refl) (none_left h u (λ k queued. never k (ap (λ (q : List (ℕ × Mode)). is_some (mode_in u q)) (sym (still k)) ∙ queued)))
gone_awaits f h u n false o still here never was = still_awaits o f h n was still

pub start_idle : (s : history.Setting) (past : History) (u k : ℕ) → IsRun s past → open_slots s past u ≡ [] → is_acquiring ((ready_at u (plan_of s past u) (parts_of s past)).core u) ≡ true → IsQueued (parts_of s past) u k → ⊥
start_idle s past u k run set acquiring queued =
    let r = readied_on s past (Start u) (parts_of s past) in
    unqueued r u k (readied_standing s past (Start u) (standing_law s past run)) (acquiring_idle (r.core u) acquiring) queued

pub end_idle : (s : history.Setting) (past : History) (u k : ℕ) → IsRun s past → is_running ((parts_of s past).core u) ≡ true → IsQueued (parts_of s past) u k → ⊥
end_idle s past u k run running queued = unqueued (parts_of s past) u k (standing_law s past run) (running_core ((parts_of s past).core u) running).1 queued

-- AFTER EACH RUN
entry_awaits : (t : Terms Setting) (past : History) (e : Entry) (n : ℕ) → 2 ≤ t.limit → IsRun (of_terms t) past → IsLegal (of_terms t) past e → Moving e → IsAwaiting (awaited meaning t past n) (parts_of (of_terms t) past) n
    → IsAwaiting (if is_in n (resumed t.setting.value t.limit (reverse past) e) then None else awaited meaning t past n) (changed e (readied_on (of_terms t) past e (parts_of (of_terms t) past))) n
entry_awaits t past e n enough run legal moving was =
    let s = of_terms t in
    subst (λ (ws : List ℕ). IsAwaiting (if is_in n ws then None else awaited meaning t past n) (changed e (readied_on s past e (parts_of s past))) n) (sym (resumed_is t past e))
    (effect_awaits s.limit e (awaited meaning t past n) (parts_of s past) (changed e (readied_on s past e (parts_of s past))) n (resumes e (parts_of s past)) was (entry_effect s past e enough run legal moving))

step_awaits : (t : Terms Setting) (past : History) (e : Entry) (n : ℕ) → 2 ≤ t.limit → IsRun (of_terms t) past → IsLegal (of_terms t) past e → IsAwaiting (awaited meaning t past n) (parts_of (of_terms t) past) n
    → IsAwaiting (awaited meaning t (e ∷ past) n) (changed e (readied_on (of_terms t) past e (parts_of (of_terms t) past))) n
step_awaits t past (Wait u d) n enough run legal was = wait_awaits (of_terms t) past u d n (awaited meaning t past n) run legal was
step_awaits t past (Start u) n enough run legal was =
    subst (λ b. IsAwaiting (gone_if b (awaited meaning t past n)) (changed (Start u) (readied_on (of_terms t) past (Start u) (parts_of (of_terms t) past))) n) (sym (or-false (u == n)))
    (gone_awaits (parts_of (of_terms t) past) _ u n (u == n) (awaited meaning t past n) (λ k. refl) (λ is. eqb-true u n is) (λ k queued. start_idle (of_terms t) past u k run legal.on_facts legal.on_parts.acquiring queued) was)
step_awaits t past (End u g) n enough run legal was =
    gone_awaits (parts_of (of_terms t) past) _ u n (u == n) (awaited meaning t past n) (λ k. refl) (λ is. eqb-true u n is) (λ k queued. end_idle (of_terms t) past u k run legal.on_parts.running queued) was
step_awaits t past (Call u home c a w) n enough run legal was = entry_awaits t past (Call u home c a w) n enough run legal tt was
step_awaits t past (Deliver m c) n enough run legal was = entry_awaits t past (Deliver m c) n enough run legal tt was
step_awaits t past (Acquire u d) n enough run legal was = entry_awaits t past (Acquire u d) n enough run legal tt was
step_awaits t past (StaleAcquire u d) n enough run legal was = entry_awaits t past (StaleAcquire u d) n enough run legal tt was
step_awaits t past (Free u d w) n enough run legal was = entry_awaits t past (Free u d w) n enough run legal tt was
step_awaits t past (Stop why) n enough run legal was = entry_awaits t past (Stop why) n enough run legal tt was

pub waits_is : (t : Terms Setting) (past : History) (n : ℕ) → 2 ≤ t.limit → IsRun (of_terms t) past → IsAwaiting (awaited meaning t past n) (parts_of (of_terms t) past) n
waits_is t [] n enough run = none_left (parts_of (of_terms t) []) n (λ d queued. unqueued (parts_of (of_terms t) []) n d (standing_law (of_terms t) [] tt) (fresh_awaits (opened (of_terms t) n) (plain_identity n)) queued)
waits_is t (e ∷ past) n enough run =
    subst (λ (f : Parts). IsAwaiting (awaited meaning t (e ∷ past) n) f n) (sym (after_law (of_terms t) past e run.0 run.1)) (step_awaits t past e n enough run.0 run.1 (waits_is t past n enough run.0))

pub nobody : (t : Terms Setting) (past : History) (n : ℕ) → 2 ≤ t.limit → IsRun (of_terms t) past → ((k : ℕ) → IsQueued (parts_of (of_terms t) past) n k → ⊥) → awaited meaning t past n ≡ None
nobody t past n enough run never = none_of (awaited meaning t past n) (waits_is t past n enough run)
  where
    none_of : (o : Option ℕ) → IsAwaiting o (parts_of (of_terms t) past) n → o ≡ None
    none_of None is = refl
    none_of (Some d) is = absurd (never d (is.told d refl))

-- WHO MAY START OR BE LET WAIT
acquiring_stage : (x : Part) → is_acquiring x ≡ true → (mark x).0 ≡ 1
acquiring_stage (part.Core c) is = stage c.edt is
  where
    stage : (e : Edt) → is_acquiring_edt e ≡ true → (mark_in e).0 ≡ 1
    stage (phase.Acquiring s) is = refl
    stage other is = cc is
acquiring_stage other is = cc is

acquiring_made : (m : Option Made) (i : Identity) (cs : List edt.EdtCall) (loans : List (ℕ × Kept)) (step : Core → Core) → is_acquiring (on_core (core m i cs loans) step) ≡ true → is_edt_made m ≡ true
acquiring_made (Some (MadeEdt f ps n)) i cs loans step is = refl
acquiring_made other i cs loans step is = cc is

pub ready_made : (s : history.Setting) (past : History) (n : ℕ) → is_acquiring ((ready_at n (plan_of s past n) (parts_of s past)).core n) ≡ true → is_edt_made (made s past n) ≡ true
ready_made s past n is =
    let step : Core → Core = with_phase (made_ready (plan_of s past n)) in
    acquiring_made (made s past n) (identity_of past n) (edt_calls s past n) (loans_of s past n) step
    (ap is_acquiring (sym (cond-true (n == n) (on_core ((parts_of s past).core n) step) ((parts_of s past).core n) (number_same n))) ∙ is)

pub running : (t : Terms Setting) (past : History) (n : ℕ) → IsRun (of_terms t) past → is_running ((parts_of (of_terms t) past).core n) ≡ true → (is_started meaning t past n ≡ true) × (is_ended meaning t past n ≡ false)
running t past n run is =
    let told = told_law (of_terms t) past run n in
    let stage = running_mark ((parts_of (of_terms t) past).core n) is in
    (started_is t past n ∙ (told.has_started ∙ ap (nat_lt 1) stage), ended_is t past n ∙ (told.has_ended ∙ ap (nat_lt 2) stage))

some_payload : (o : Option ℕ) → is_some o ≡ true → (x : ℕ) × (o ≡ Some x)
some_payload None is = cc is
some_payload (Some x) is = (x, refl)

pub ready : (t : Terms Setting) (past : History) (n : ℕ) → 2 ≤ t.limit → IsRun (of_terms t) past → open_slots (of_terms t) past n ≡ [] → is_acquiring ((ready_at n (plan_of (of_terms t) past n) (parts_of (of_terms t) past)).core n) ≡ true
    → IsReady meaning t past n
ready t past n enough run set acquiring =
    let s = of_terms t in
    let y : Part = (ready_at n (plan_of s past n) (parts_of s past)).core n in
    let is_made : is_edt_made (made s past n) ≡ true = ready_made s past n acquiring in
    let told = ready_told s past n n (plan_of s past n) set (told_law s past run n) in
    let stage : (mark y).0 ≡ 1 = acquiring_stage y acquiring in record {
      set = record {
        slots = depc_of s past n;
        made = slots_are t past n run ∙ edt_slots (made s past n) is_made;
        all_set = λ k lt.
            let x = some_payload (slot.payload_of (set_calls past n) k) (all_set s past n k set lt) in
            (x.0, payload_is t past n k run ∙ x.1);
      };
      unstarted = started_is t past n ∙ (told.has_started ∙ ap (nat_lt 1) stage);
      unended = ended_is t past n ∙ (told.has_ended ∙ ap (nat_lt 2) stage);
      awake = nobody t past n enough run (λ k queued. start_idle s past n k run set acquiring queued);
    }
