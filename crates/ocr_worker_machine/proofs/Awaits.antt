-- Who waits, as the words that count see it, is who stands in a queue.
use Rattle.std.proofs.Common.{◌≡◌, ◌⊎◌, inl, inr, ℕ, ◌+◌, ◌/◌, ◌≤◌, List, [], ◌∷◌, Bool, true, false, not, ◌==◌, if◌then◌else◌, Option, Some, None, is_some, refl, sym, ◌∙◌, ap, subst}
use Rattle.std.proofs.lemmas.Bool.{eqb-true, or_left, true_from_ne_false, cond-true, cond-false}
use Rattle.ocr_base.proofs.Booleans.{same as number_same}
use Rattle.ocr_acquire.specs.declared.Mode.{Mode}
use Rattle.ocr_acquire.specs.Mode.{mode_in}
use Rattle.ocr_datablock.specs.Block as block
use Rattle.ocr_datablock.specs.Lent.{Loan}
use Rattle.ocr_datablock.specs.Steps as block_steps
use Rattle.ocr_edt.specs.declared.Edt.TheVariants as phase
use Rattle.ocr_slots.specs.Steps.{after_link}
use Rattle.ocr_body_meaning.specs.Holds.{is_done}
use Rattle.ocr_body_meaning.specs.declared.call.Call as body
use Rattle.ocr_body_meaning.specs.declared.call.Call.TheVariants as call
use Rattle.ocr_body_meaning.specs.declared.call.Answer.{Answer}
use Rattle.ocr_machine_history.specs.declared.entry.Entry.{Entry}
use Rattle.ocr_machine_history.specs.declared.entry.Entry.TheVariants.{Call, Deliver, Acquire, Wait, StaleAcquire, Start, Free, End, Stop}
use Rattle.ocr_machine_history.specs.declared.entry.What.{What}
use Rattle.ocr_machine_history.specs.declared.entry.What.TheVariants as what
use Rattle.ocr_machine_history.specs.History.{History}
use Rattle.ocr_machine_history.specs.History as history
use Rattle.ocr_machine_history.specs.Made.{creator_of}
use Rattle.ocr_machine_parts.specs.declared.part.Part.{Part}
use Rattle.ocr_machine_parts.specs.declared.part.Part.TheVariants as part
use Rattle.ocr_machine_parts.specs.Calls.{is_object, mode_named, slot_target, target_of}
use Rattle.ocr_machine_parts.specs.Effects.{brought, called, changed, deps_linked, doomed_template, granted, hold_ended, joined, joins, new_core, new_face, new_output, new_scope, with_beside}
use Rattle.ocr_machine_parts.specs.Progress.{linked_if, next_mode_on, readied_on, with_core, with_face}
use Rattle.ocr_finish.specs.Scope as scope
use Rattle.ocr_machine_parts.specs.Footprint.{on_face}
use Rattle.ocr_machine_parts.specs.Kinds.{IsBlock, home_on, is_edt_face, loan_on, with_block, with_links, with_template, with_event, with_scope}
use Rattle.ocr_machine_parts.specs.LegalOn.{IsCallOn, IsTaken}
use Rattle.ocr_machine_parts.specs.Legal.{IsRun, IsLegal}
use Rattle.ocr_machine_parts.specs.Messages.{resumed_by, resumed_by_call, resumed_by_doom, resumes}
use Rattle.ocr_machine_parts.specs.Parts.{Parts, new_identity, parts_of}
use Rattle.ocr_machine_parts.specs.Taken.{IsWithin, is_within}
use Rattle.ocr_machine_parts.proofs.Beside.{beside_keeps, edt_free}
use Rattle.ocr_machine_parts.proofs.Within.{within_law}
use Rattle.ocr_machine_laws.specs.Waits.{AreStanding, IsOnce, awaits, queue_on, standing}
use Rattle.ocr_machine_laws.proofs.Stages.{once}
use Rattle.ocr_turns_rule.specs.Counts.{is_in}
use Rattle.ocr_event_any.specs.declared.AnyEvent.{AnyEvent}
use Rattle.ocr_worker_machine.proofs.Queues.{Leaves, doomed, granted_queue, links_queue, released, scope_queue, template_queue, event_queue}
use Rattle.ocr_event_any.specs.AnyEvent as event
use Rattle.ocr_guid.specs.declared.target.Target.{Target}
use Rattle.ocr_machine_laws.proofs.Plain.{some_mode}

-- WHO STANDS in the queue of a block
abbrev pub IsQueued : Parts → ℕ → ℕ → Type 0
IsQueued f n d = is_some (mode_in n (queue_on (f.face d))) ≡ true

pub record IsAwaiting (o : Option ℕ) (f : Parts) (n : ℕ) : Type 0 where
  pub told : (d : ℕ) → o ≡ Some d → IsQueued f n d
  pub all : (d : ℕ) → IsQueued f n d → o ≡ Some d

pub unqueued : (f : Parts) (n d : ℕ) → AreStanding f → awaits (f.core n) ≡ None → IsQueued f n d → ⊥
unqueued f n d standing none is =
    let m = some_mode (mode_in n (queue_on (f.face d))) is in
    let waits = standing.queued n d m.0 m.1 in cc (none, waits)

-- WHAT AN ENTRY DOES to the queues: nothing, or some leave the queue of one block
abbrev Still : Parts → Parts → Type 0
Still f h = (d : ℕ) → queue_on (h.face d) ≡ queue_on (f.face d)

pub record Moves (f h : Parts) (woken : List ℕ) (d : ℕ) : Type 0 where
  pub leaves : Leaves (queue_on (f.face d)) (queue_on (h.face d)) woken
  pub others : (e : ℕ) → (d == e) ≡ false → queue_on (h.face e) ≡ queue_on (f.face e)

-- of a block that the entry names
pub record IsNamedBlock (limit : ℕ) (e : Entry) (d : ℕ) : Type 0 where
  pub named : on_face e d ≡ true
  pub within : is_within limit d ≡ true

abbrev pub Effect : ℕ → Entry → Parts → Parts → List ℕ → Type 0
Effect limit e f h woken = ((woken ≡ []) × Still f h) ⊎ ((d : ℕ) × Moves f h woken d × IsNamedBlock limit e d)

pub still_awaits : (o : Option ℕ) (f h : Parts) (n : ℕ) → IsAwaiting o f n → Still f h → IsAwaiting o h n
still_awaits o f h n was still = record {
  told = λ d is. ap (λ (q : List (ℕ × Mode)). is_some (mode_in n q)) (still d) ∙ was.told d is;
  all = λ d is. was.all d (ap (λ (q : List (ℕ × Mode)). is_some (mode_in n q)) (sym (still d)) ∙ is);
}

pub none_left : (f : Parts) (n : ℕ) → ((d : ℕ) → IsQueued f n d → ⊥) → IsAwaiting None f n
none_left f n never = record { told = λ d is. cc is; all = λ d is. absurd (never d is) }

moved_awaits : (o : Option ℕ) (f h : Parts) (n : ℕ) (woken : List ℕ) (d : ℕ) → IsAwaiting o f n → Moves f h woken d → IsAwaiting (if is_in n woken then None else o) h n
moved_awaits o f h n woken d was moves = elim (is_in n woken) as (λ b. is_in n woken ≡ b → IsAwaiting (if b then None else o) h n) [
  | true ↦ λ on.
      let r = moves.leaves.gone n on in
      let here : o ≡ Some d = was.all d r.1 in
      none_left h n (λ e is. elim (d == e) as (λ b. (d == e) ≡ b → ⊥) [
        | true ↦ λ same.
            let none : mode_in n (queue_on (h.face e)) ≡ None = subst (λ (k : ℕ). mode_in n (queue_on (h.face k)) ≡ None) (eqb-true d e same) r.2 in
            let off : is_some (mode_in n (queue_on (h.face e))) ≡ false = ap (λ (z : Option Mode). is_some z) none in cc (is, off)
        | false ↦ λ apart.
            let there : o ≡ Some e = was.all e (ap (λ (q : List (ℕ × Mode)). is_some (mode_in n q)) (sym (moves.others e apart)) ∙ is) in
            let both : Some d ≡ Some e = sym here ∙ there in
            clash d e both apart
      ] refl)
  | false ↦ λ off.
      let r = moves.leaves.stays n off in record {
        told = λ e is. elim (d == e) as (λ b. (d == e) ≡ b → IsQueued h n e) [
          | true ↦ λ same. subst (λ (k : ℕ). IsQueued h n k) (eqb-true d e same) (ap (λ (z : Option Mode). is_some z) (sym r.1) ∙ was.told d (is ∙ ap (λ (k : ℕ). Some k) (sym (eqb-true d e same))))
          | false ↦ λ apart. ap (λ (q : List (ℕ × Mode)). is_some (mode_in n q)) (moves.others e apart) ∙ was.told e is
        ] refl;
        all = λ e is. elim (d == e) as (λ b. (d == e) ≡ b → o ≡ Some e) [
          | true ↦ λ same.
              let now : IsQueued h n d = subst (λ (k : ℕ). IsQueued h n k) (sym (eqb-true d e same)) is in
              was.all d (ap (λ (z : Option Mode). is_some z) r.1 ∙ now) ∙ ap (λ (k : ℕ). Some k) (eqb-true d e same)
          | false ↦ λ apart. was.all e (ap (λ (q : List (ℕ × Mode)). is_some (mode_in n q)) (sym (moves.others e apart)) ∙ is)
        ] refl;
      }
] refl
  where
    clash : (d e : ℕ) → Some d ≡ Some e → (d == e) ≡ false → ⊥
    clash d e same apart = let is : d ≡ e = some_same d e same in let on : (d == e) ≡ true = subst (λ (k : ℕ). (d == k) ≡ true) is (number_same d) in cc (on, apart)
      where
        some_same : (d e : ℕ) → Some d ≡ Some e → d ≡ e
        some_same d e same = cc same

pub effect_awaits : (limit : ℕ) (e : Entry) (o : Option ℕ) (f h : Parts) (n : ℕ) (woken : List ℕ) → IsAwaiting o f n → Effect limit e f h woken → IsAwaiting (if is_in n woken then None else o) h n
effect_awaits limit e o f h n woken was (inl quiet) = subst (λ (ws : List ℕ). IsAwaiting (if is_in n ws then None else o) h n) (sym quiet.0) (still_awaits o f h n was quiet.1)
effect_awaits limit e o f h n woken was (inr moves) = moved_awaits o f h n woken moves.0 was moves.1

-- FACES that keep their queues
face_still : (f : Parts) (d : ℕ) (x : Part) → queue_on x ≡ queue_on (f.face d) → (e : ℕ) → queue_on (if d == e then x else f.face e) ≡ queue_on (f.face e)
face_still f d x same e = elim (d == e) as (λ b. (d == e) ≡ b → queue_on (if b then x else f.face e) ≡ queue_on (f.face e)) [
  | true ↦ λ is. same ∙ ap (λ (k : ℕ). queue_on (f.face k)) (eqb-true d e is)
  | false ↦ λ _. refl
] refl

vacant_still : (f : Parts) (d : ℕ) (x : Part) → f.face d ≡ part.Vacant → queue_on x ≡ [] → (e : ℕ) → queue_on (if d == e then x else f.face e) ≡ queue_on (f.face e)
vacant_still f d x vacant none = face_still f d x (none ∙ ap queue_on (sym vacant))

block_queue : (x : Part) (step : block.State → block.State) → ((st : block.State) → (step st).queue ≡ st.queue) → queue_on (with_block x step) ≡ queue_on x
block_queue (part.Block st) step same = same st
block_queue other step same = refl

new_queue : (x : Part) (dc : ℕ) (ds : List ℕ) → queue_on (new_face x dc ds) ≡ []
new_queue (part.Template t) dc ds = refl
new_queue other dc ds = refl

-- EVENTS that are satisfied or linked
event_still : (f : Parts) (d : ℕ) (step : AnyEvent → AnyEvent) → Still f (with_face f d (with_event (f.face d) step))
event_still f d step = face_still f d (with_event (f.face d) step) (event_queue (f.face d) step)

linked_still : (named : Bool) (d : ℕ) (t : Target) (f : Parts) → Still f (linked_if named d t f)
linked_still true d t f = event_still f d (λ st. event.after_link st t)
linked_still false d t f = λ e. refl

deps_still : (t k : ℕ) (ds : List ℕ) (f : Parts) → Still f (deps_linked t k ds f)
deps_still t k [] f = λ e. refl
deps_still t k (d ∷ rest) f = λ e. deps_still t (k + 1) rest (linked_if (is_object d) d (slot_target t k) f) e ∙ linked_still (is_object d) d (slot_target t k) f e

brought_still : (x : What) (f : Parts) → Still f (brought x f)
brought_still (what.Satisfy e slot p) f = event_still f e (λ st. event.after_satisfy st slot p)
brought_still (what.Leave x) f = face_still f x (with_scope (f.face x) scope.after_leave) (scope_queue (f.face x) scope.after_leave)
brought_still other f = λ e. refl

taken_queue : (x : Part) (t : ℕ) (m : Mode) → IsBlock x (IsTaken t m) → queue_on (with_block x (granted t m)) ≡ queue_on x
taken_queue (part.Block st) t m taken = granted_queue t m st taken
taken_queue other t m taken = absurd taken

-- A HOLD THAT ENDS
release_leaves : (x : Part) (t : ℕ) (w : List (ℕ × ℕ)) (loan : Option Loan) (P : block.State → Type 0) → IsBlock x P → block_steps.StandOnce (standing x) → Leaves (queue_on x) (queue_on (with_block x (hold_ended block_steps.after_release t w loan))) (resumed_by x t)
release_leaves (part.Block st) t w loan P is once = released t w loan st once
release_leaves other t w loan P is once = absurd is

doom_leaves : (x : Part) (t : ℕ) (w : List (ℕ × ℕ)) (loan : Option Loan) (P : block.State → Type 0) → IsBlock x P → block_steps.StandOnce (standing x) → Leaves (queue_on x) (queue_on (with_block x (hold_ended block_steps.after_doom t w loan))) (resumed_by_doom x t)
doom_leaves (part.Block st) t w loan P is once = doomed t w loan st once
doom_leaves other t w loan P is once = absurd is

ended_moves : (f h : Parts) (d : ℕ) (x : Part) (woken : List ℕ) → ((e : ℕ) → h.face e ≡ (if d == e then x else f.face e)) → Leaves (queue_on (f.face d)) (queue_on x) woken → Moves f h woken d
ended_moves f h d x woken is leaves = record {
  leaves = subst (λ (y : Part). Leaves (queue_on (f.face d)) (queue_on y) woken) (sym (is d ∙ cond-true (d == d) x (f.face d) (number_same d))) leaves;
  others = λ e apart. ap queue_on (is e ∙ cond-false (d == e) x (f.face e) apart);
}

pub block_within : (limit : ℕ) (f : Parts) (d : ℕ) (P : block.State → Type 0) → IsWithin limit f → IsBlock (f.face d) P → is_within limit d ≡ true
block_within limit f d P within is = true_from_ne_false (is_within limit d) (λ off. subst (λ (x : Part). IsBlock x P) (within.faces d off) is)

-- EACH CALL
done_effect : (limit : ℕ) (f : Parts) (u home : ℕ) (c : body.Call) (a : Answer) (w : List (ℕ × ℕ)) → IsCallOn limit f u home c a w → is_done a.code ≡ true → IsOnce f → IsWithin limit f
    → Effect limit (Call u home c a w) f (called u c a w f) (resumed_by_call u c f)
done_effect limit f u home (call.DbCreate n fl) a w legal done once within = inl (refl, vacant_still f a.value (part.Block (block.state_of (n / 8) (creator_of u fl) [])) (legal.value.fresh done).vacant refl)
done_effect limit f u home (call.TemplateCreate function pc dc) a w legal done once within = inl (refl, vacant_still f a.value _ (legal.value.fresh done).vacant refl)
done_effect limit f u home (call.EdtCreate from pc ps dc ds fl o) a w legal done once within =
    let own : ℕ = home_on (f.core u) in let h : Parts = with_beside f own a in
    let new : Parts = with_core (with_face h a.value (new_face (f.face from) dc ds)) a.value (new_core (f.face from) (new_identity a.value fl a own) ps) in
    let beside : Still f h = beside_keeps limit f u home from pc dc fl ps ds o a w legal (Still f) own (λ e. refl)
    (λ k still free e. vacant_still k a.output new_output free refl e ∙ still e)
    (λ k still free e. vacant_still k a.scope (new_scope own a) free refl e ∙ still e) in
    let there : Still h new = vacant_still h a.value (new_face (f.face from) dc ds) (edt_free limit f u home from pc dc fl ps ds o a w legal own done) (new_queue (f.face from) dc ds) in
    inl (refl, λ e. deps_still a.value 0 ds new e ∙ (there e ∙ beside e))
done_effect limit f u home (call.Store d k v) a w legal done once within = inl (refl, face_still f d (with_block (f.face d) (λ st. block_steps.after_store st k v)) (block_queue (f.face d) (λ st. block_steps.after_store st k v) (λ st. refl)))
done_effect limit f u home (call.AddDependence from x i m) a w legal done once within =
    let new : Parts = with_face f x (with_links (f.face x) (λ slots. after_link slots i (mode_named m))) in
    let there : Still f new = face_still f x (with_links (f.face x) (λ slots. after_link slots i (mode_named m))) (links_queue (f.face x) (λ slots. after_link slots i (mode_named m))) in
    inl (refl, λ e. linked_still (not (from == 0)) from (target_of (is_edt_face (f.face x)) x i) new e ∙ there e)
done_effect limit f u home (call.Satisfy x p slot) a w legal done once within = inl (refl, event_still f x (λ st. event.after_satisfy st slot p))
done_effect limit f u home (call.EventCreate k fl) a w legal done once within = inl (refl, vacant_still f a.value _ (legal.value.fresh done).vacant refl)
done_effect limit f u home (call.EventCreateParams k fl most sats nd) a w legal done once within = inl (refl, vacant_still f a.value _ (legal.value.fresh done).vacant refl)
done_effect limit f u home (call.EventDestroy x) a w legal done once within = inl (refl, event_still f x event.after_destroy)
done_effect limit f u home (call.TemplateDestroy x) a w legal done once within = inl (refl, face_still f x (with_template (f.face x) doomed_template) (template_queue (f.face x) doomed_template))
done_effect limit f u home (call.DbRelease d) a w legal done once within =
    let leaves = release_leaves (f.face d) u w (loan_on (f.core u) d) _ (legal.value.0 done) (once d) in
    inr (d, ended_moves f (called u (call.DbRelease d) a w f) d _ _ (λ e. refl) leaves, record { named = or_left _ _ (or_left (d == d) false (number_same d)); within = block_within limit f d _ within (legal.value.0 done) })
done_effect limit f u home (call.DbDestroy d) a w legal done once within =
    let leaves = doom_leaves (f.face d) u w (loan_on (f.core u) d) _ (legal.value.0 done) (once d) in
    inr (d, ended_moves f (called u (call.DbDestroy d) a w f) d _ _ (λ e. refl) leaves, record { named = or_left _ _ (or_left (d == d) false (number_same d)); within = block_within limit f d _ within (legal.value.0 done) })
done_effect limit f u home other a w legal done once within = inl (refl, λ e. refl)

-- a home that is joined has no queue
joined_queue : (c : body.Call) (home : ℕ) (h : Parts) (g : ℕ) → queue_on ((joined c home h).face g) ≡ queue_on (h.face g)
joined_queue c home h g = elim (joins c home g) as (λ b. queue_on (if b then with_scope (h.face g) scope.after_join else h.face g) ≡ queue_on (h.face g)) [ true ↦ scope_queue (h.face g) scope.after_join | false ↦ refl ]

joined_effect : (limit : ℕ) (e : Entry) (f h : Parts) (woken : List ℕ) (c : body.Call) (home : ℕ) → Effect limit e f h woken → Effect limit e f (joined c home h) woken
joined_effect limit e f h woken c home (inl quiet) = inl (quiet.0, λ g. joined_queue c home h g ∙ quiet.1 g)
joined_effect limit e f h woken c home (inr moves) =
    let d : ℕ = moves.0 in
    inr (
      d,
      record {
        leaves = subst (λ (q : List (ℕ × Mode)). Leaves (queue_on (f.face d)) q woken) (sym (joined_queue c home h d)) moves.1.leaves;
        others = λ g apart. joined_queue c home h g ∙ moves.1.others g apart;
      },
      moves.2,
    )

call_effect : (limit : ℕ) (f : Parts) (u home : ℕ) (c : body.Call) (a : Answer) (w : List (ℕ × ℕ)) → IsCallOn limit f u home c a w → IsOnce f → IsWithin limit f
    → Effect limit (Call u home c a w) f (if is_done a.code then joined c home (called u c a w f) else f) (if is_done a.code then resumed_by_call u c f else [])
call_effect limit f u home c a w legal once within = elim (is_done a.code) as (λ b. is_done a.code ≡ b → Effect limit (Call u home c a w) f (if b then joined c home (called u c a w f) else f) (if b then resumed_by_call u c f else [])) [
  | true ↦ λ done. joined_effect limit (Call u home c a w) f (called u c a w f) (resumed_by_call u c f) c home (done_effect limit f u home c a w legal done once within)
  | false ↦ λ _. inl (refl, λ e. refl)
] refl

-- EACH ENTRY but Wait, Start and End
abbrev pub Moving : Entry → Type 0
Moving (Wait u d) = ⊥
Moving (Start u) = ⊥
Moving (End u g) = ⊥
Moving other = Unit {0}

pub entry_effect : (s : history.Setting) (past : History) (e : Entry) → 2 ≤ s.limit → IsRun s past → IsLegal s past e → Moving e → Effect s.limit e (parts_of s past) (changed e (readied_on s past e (parts_of s past))) (resumes e (parts_of s past))
entry_effect s past (Call u home c a w) enough run legal is = call_effect s.limit (parts_of s past) u home c a w legal.on_parts (once s past run) (within_law s past enough run)
entry_effect s past (Free u d w) enough run legal is =
    let f = parts_of s past in
    let leaves = release_leaves (f.face d) u w (loan_on (f.core u) d) _ legal.on_parts.held (once s past run d) in
    inr (d, ended_moves f (changed (Free u d w) f) d _ _ (λ e. refl) leaves, record { named = number_same d; within = block_within s.limit f d _ (within_law s past enough run) legal.on_parts.held })
entry_effect s past (Acquire u d) enough run legal is =
    let f = parts_of s past in let r = readied_on s past (Acquire u d) f in
    inl (refl, face_still f d (with_block (f.face d) (granted u (next_mode_on r u))) (taken_queue (f.face d) u (next_mode_on r u) legal.on_parts.taken))
entry_effect s past (Wait u d) enough run legal is = absurd is
entry_effect s past (Start u) enough run legal is = absurd is
entry_effect s past (End u g) enough run legal is = absurd is
entry_effect s past (StaleAcquire u d) enough run legal is = inl (refl, λ e. refl)
entry_effect s past (Deliver m c) enough run legal is =
    let f = parts_of s past in
    elim (is_done c) as (λ b. Effect s.limit (Deliver m c) f (if b then brought m.what f else f) []) [ true ↦ inl (refl, brought_still m.what f) | false ↦ inl (refl, λ e. refl) ]
entry_effect s past (Stop why) enough run legal is = inl (refl, λ e. refl)
