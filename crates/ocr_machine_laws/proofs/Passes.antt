-- Who holds and who waits, where a block is destroyed and where an EDT finds one gone; and so in each entry.
use Rattle.std.proofs.Common.{◌≡◌, inl, inr, ℕ, suc, ◌+◌, not, ◌≤◌, List, [], ◌∷◌, true, false, Option, Some, None, ◌==◌, if◌then◌else◌, refl, sym, ◌∙◌, ap, subst, is_some, arith, Bool}
use Rattle.std.proofs.lemmas.Bool.{eqb-true, or_parts, not-false, true_from_ne_false, and_left}
use Rattle.ocr_acquire.specs.declared.Mode.{Mode}
use Rattle.ocr_acquire.specs.Mode.{mode_in}
use Rattle.ocr_acquire.proofs.Ascent.{rises_below}
use Rattle.ocr_datablock.specs.Lent.{Loan}
use Rattle.ocr_edt.specs.declared.Edt.{Edt}
use Rattle.ocr_edt.specs.declared.Identity.{Identity}
use Rattle.ocr_edt.specs.Phases.{next_of}
use Rattle.ocr_edt.specs.Steps.{with_next}
use Rattle.ocr_body_meaning.specs.declared.call.Answer.{Answer}
use Rattle.ocr_machine_history.specs.declared.entry.Entry.{Entry}
use Rattle.ocr_machine_history.specs.declared.entry.Entry.TheVariants.{Call, Deliver, Acquire, Wait, Start, Free, End}
use Rattle.ocr_machine_parts.specs.declared.part.Part.{Part}
use Rattle.ocr_body_meaning.specs.Holds.{is_done}
use Rattle.ocr_machine_parts.specs.Parts.{Parts}
use Rattle.ocr_machine_parts.specs.Effects.{deps_linked, brought, awoken, hold_ended, dropping_core, ended, called, changed, doomed_template}
use Rattle.ocr_machine_parts.specs.Progress.{with_face, linked_if, with_core, with_phase, next_on}
use Rattle.ocr_machine_parts.specs.Kinds.{with_block, on_core, progress_in, core_progress, next_in, loan_on, IsBlock, is_running, work_in, is_block, is_edt_face}
use Rattle.ocr_machine_parts.specs.LegalOn.{IsCallOn, IsLegalOn}
use Rattle.ocr_machine_laws.specs.Waits.{standing, is_gone_on, queue_on, held_in, rest_in, awaits_in, held_on, rest_on, awaits, IsHolding, IsOrdered, AreStanding, IsOnce}
use Rattle.ocr_machine_laws.proofs.Moves.{Keeps, moved, faced, cored}
use Rattle.ocr_datablock.specs.Block as block
use Rattle.ocr_datablock.specs.Steps as block_steps
use Rattle.ocr_edt.specs.declared.Edt.TheVariants as phase
use Rattle.ocr_body_meaning.specs.declared.call.Call as body
use Rattle.ocr_body_meaning.specs.declared.call.Call.TheVariants as call
use Rattle.ocr_machine_parts.specs.declared.part.Part.TheVariants as part
use Rattle.ocr_machine_laws.proofs.Waiters.{dropped_own, other_next, ended_standing, acquired_standing, waited_standing, started_standing, end_standing, made_standing, edt_standing, stored_same, linked_same}
use Rattle.ocr_machine_laws.proofs.States.{returned_kept, passed_same, passed_comes, passed_queue, without_other, without_own, once_tail}
use Rattle.ocr_machine_laws.specs.Waits.{stands}
use Rattle.ocr_machine_history.specs.declared.entry.Entry.TheVariants.{StaleAcquire}
use Rattle.ocr_guid.specs.declared.Code.TheVariants as code
use Rattle.ocr_machine_parts.specs.Effects.{stale_edt, passed_by}
use Rattle.ocr_machine_parts.specs.Kinds.{with_template, with_event, is_destroyed}
use Rattle.ocr_event_any.specs.declared.AnyEvent.{AnyEvent}
use Rattle.ocr_event_any.specs.AnyEvent.{after_satisfy, after_link, after_destroy}
use Rattle.ocr_guid.specs.declared.target.Target.{Target}
use Rattle.ocr_machine_history.specs.declared.entry.What.{What}
use Rattle.ocr_machine_history.specs.declared.entry.What.TheVariants as what
use Rattle.ocr_machine_parts.specs.Calls.{is_object, slot_target, target_of}
use Rattle.ocr_machine_parts.specs.Codes.{ABlock, code_of, is_of_other_kind}
use Rattle.ocr_machine_parts.proofs.After.{not_stale, done_is}
use Rattle.ocr_machine_laws.proofs.Choices.{done_kinds}
use Rattle.ocr_finish.specs.Scope.{State, after_join, after_leave}
use Rattle.ocr_machine_parts.proofs.Beside.{named_keeps, joined_keeps, output_free, scope_free, edt_free}
use Rattle.ocr_machine_parts.specs.Effects.{with_named, with_beside, new_scope, new_output, joined}
use Rattle.ocr_machine_parts.specs.Progress.{with_face}
use Rattle.ocr_machine_parts.specs.Kinds.{home_on, with_scope}
use Rattle.ocr_machine_parts.specs.Parts.{new_identity}
use Rattle.ocr_datablock.proofs.Lines.{mode_skips, none_second}

-- A BLOCK IS DESTROYED: as a hold ends, but for the step of the block
doomed_line : (t : ℕ) (w : List (ℕ × ℕ)) (loan : Option Loan) (st : block.State) → block.line (hold_ended block_steps.after_doom t w loan st) ≡ block.line_after_grants true (block.line_without t (block.line st))
doomed_line t w loan st = ap (λ (l : block.Line). block.line_after_grants true (block.line_without t l)) (returned_kept w loan st).0

doomed_keeps : (t : ℕ) (w : List (ℕ × ℕ)) (loan : Option Loan) (st : block.State) → st.destroyed ≡ false → block_steps.StandOnce (stands (block.line st)) → Keeps t (part.Block st) (part.Block (hold_ended block_steps.after_doom t w loan st))
doomed_keeps t w loan st fresh once =
    let left : block.Line = block.line_without t (block.line st) in
    let line : block.line (hold_ended block_steps.after_doom t w loan st) ≡ block.line_after_grants true left = doomed_line t w loan st in
    record {
      gone = λ live. and_left st.destroyed _ fresh;
      stays = λ u m apart live is.
          let alive : block.is_line_gone true (block.line_after_grants true left) ≡ false = ap (block.is_line_gone true) (sym line) ∙ live in
          ap (λ (l : block.Line). mode_in u (stands l)) line ∙ ap (mode_in u) (passed_same true left alive) ∙ without_other t u st.holders st.queue apart ∙ is;
      comes = λ u m apart is.
          sym (without_other t u st.holders st.queue apart) ∙ passed_comes true left u m (ap (λ (l : block.Line). mode_in u (stands l)) (sym line) ∙ is);
      queued = λ u m apart is. passed_queue true left u m (once_tail st.holders st.queue once) (ap (λ (l : block.Line). mode_in u l.queue) (sym line) ∙ is);
    }

-- who destroys it does not stand there any more: it stood in no queue, since it runs
doomed_leaves : (t : ℕ) (w : List (ℕ × ℕ)) (loan : Option Loan) (st : block.State) (m : Mode) → ((k : Mode) → mode_in t st.queue ≡ Some k → ⊥) → mode_in t (standing (part.Block (hold_ended block_steps.after_doom t w loan st))) ≡ Some m → ⊥
doomed_leaves t w loan st m idle is =
    let left : block.Line = block.line_without t (block.line st) in
    let was : mode_in t (stands left) ≡ Some m = passed_comes true left t m (ap (λ (l : block.Line). mode_in t (stands l)) (sym (doomed_line t w loan st)) ∙ is) in
    idle m (sym (mode_skips t (block.without t st.holders) st.queue (without_own t st.holders)) ∙ was)

doomed_out : (t : ℕ) (w : List (ℕ × ℕ)) (loan : Option Loan) (st : block.State) (m : Mode) → ((k : Mode) → mode_in t st.queue ≡ Some k → ⊥) → block_steps.StandOnce (stands (block.line st)) → mode_in t (queue_on (part.Block (hold_ended block_steps.after_doom t w loan st))) ≡ Some m → ⊥
doomed_out t w loan st m idle once is =
    idle m (passed_queue true (block.line_without t (block.line st)) t m (once_tail st.holders st.queue once) (ap (λ (l : block.Line). mode_in t l.queue) (sym (doomed_line t w loan st)) ∙ is))

running_idle_edt : (e : Edt) → is_some (work_in e) ≡ true → awaits_in e ≡ None
running_idle_edt (phase.Running w) is = refl
running_idle_edt other is = cc is

running_idle : (x : Part) → is_running x ≡ true → awaits x ≡ None
running_idle (part.Core c) is = running_idle_edt c.edt is
running_idle other is = cc is

doomed_face : (x : Part) (t : ℕ) (w : List (ℕ × ℕ)) (loan : Option Loan) → IsBlock x (λ st. st.destroyed ≡ false) → block_steps.StandOnce (standing x) → ((k : Mode) → mode_in t (queue_on x) ≡ Some k → ⊥)
    → Keeps t x (with_block x (hold_ended block_steps.after_doom t w loan)) × ((m : Mode) → mode_in t (standing (with_block x (hold_ended block_steps.after_doom t w loan))) ≡ Some m → ⊥) × ((m : Mode) → mode_in t (queue_on (with_block x (hold_ended block_steps.after_doom t w loan))) ≡ Some m → ⊥)
doomed_face (part.Block st) t w loan fresh once idle = (doomed_keeps t w loan st fresh once, λ m is. doomed_leaves t w loan st m idle is, λ m is. doomed_out t w loan st m idle once is)
doomed_face other t w loan fresh once idle = absurd fresh

pub destroyed_standing : (f : Parts) (t d : ℕ) (w : List (ℕ × ℕ)) → AreStanding f → IsOnce f → is_running (f.core t) ≡ true → IsBlock (f.face d) (λ st. st.destroyed ≡ false) → AreStanding (ended block_steps.after_doom f t d w)
destroyed_standing f t d w all once running fresh =
    let idle : (k : Mode) → mode_in t (queue_on (f.face d)) ≡ Some k → ⊥ = λ k is. let none = running_idle (f.core t) running in cc (none, all.queued t d k is) in
    let face = doomed_face (f.face d) t w (loan_on (f.core t) d) fresh (once d) idle in
    moved f d (with_block (f.face d) (hold_ended block_steps.after_doom t w (loan_on (f.core t) d))) t (on_core (f.core t) (dropping_core d)) all face.0 (dropped_own d _ t (f.core t) running face.1 face.2)

-- AN EDT FINDS A BLOCK GONE
record IsPassed (held now rest : List (ℕ × Mode)) : Type 0 where
  ordered : IsOrdered now rest
  same : now ≡ held

passes : (i : Identity) (held : List (ℕ × Mode)) (stale : List ℕ) (rest : List (ℕ × Mode)) → IsOrdered held rest → IsPassed held (with_next i held stale rest true).holds (with_next i held stale rest true).rest
passes i held stale [] ordered = record { ordered = ordered; same = refl }
passes i held stale (one ∷ more) ordered = record {
  ordered = record {
    rising = rises_below one.0 0 more (omega arith) ordered.rising.1;
    used = λ k x below. ordered.used (suc k) x (omega (arith, below));
    above = λ b some. let above = ordered.above b some in let le : b ≤ one.0 = omega (arith, above.0) in rises_below one.0 b more le above.1;
  };
  same = refl;
}

-- it waited for no other block
record IsPassing (d : ℕ) (was now : Edt) : Type 0 where
  idle : awaits_in now ≡ None
  awaited : (e : ℕ) (m : Mode) → awaits_in was ≡ Some (e, m) → (d == e) ≡ true
  same : held_in now ≡ held_in was
  ordered : IsOrdered (held_in now) (rest_in now)

stale_passing : (d : ℕ) (m : Mode) (s : Edt) → next_in (progress_in s) ≡ Some (d, m) → IsOrdered (held_in s) (rest_in s) → IsPassing d s (stale_edt (awoken s))
stale_passing d m (phase.Acquiring p) next ordered =
    let passed = passes p.identity p.holds p.stale p.rest ordered in
    record { idle = refl; awaited = λ e k is. cc is; same = passed.same; ordered = passed.ordered }
stale_passing d m (phase.Waiting p) next ordered =
    let passed = passes p.identity p.holds p.stale p.rest ordered in
    record { idle = refl; awaited = λ e k is. true_from_ne_false (d == e) (λ apart. other_next d e m k (next_of p) next is apart); same = passed.same; ordered = passed.ordered }
stale_passing d m other next ordered = cc next

-- nobody waits at what has nobody standing
pub queue_in : (x : Part) (t : ℕ) (m : Mode) → standing x ≡ [] → mode_in t (queue_on x) ≡ Some m → ⊥
queue_in (part.Block st) t m none is =
    let nobody : mode_in t st.queue ≡ None = none_second t st.holders st.queue (ap (mode_in t) none) in
    cc (nobody, is)
queue_in other t m none is = cc is

passed_core : (f : Parts) (t d : ℕ) (m : Mode) (c : Part) → f.core t ≡ c → AreStanding f → next_in (core_progress c) ≡ Some (d, m) → standing (f.face d) ≡ [] → AreStanding (with_core f t (on_core c (with_phase (λ e. stale_edt (awoken e)))))
passed_core f t d m (part.Core k) is all next none =
    let ordered : IsOrdered (held_in k.edt) (rest_in k.edt) = subst (λ (x : Part). IsOrdered (held_on x) (rest_on x)) is (all.ordered t) in
    let step = stale_passing d m k.edt next ordered in
    cored f t _ all
    (λ e n awaiting. cc (step.idle, awaiting))
    (λ e n stood has. elim (subst (λ (x : Part). IsHolding x e n) is has) [
      | inl held ↦ inl (ap (mode_in e) step.same ∙ held)
      | inr awaiting ↦ absurd (
          let here : d ≡ e = eqb-true d e (step.awaited e n awaiting) in
          let nobody : mode_in t (standing (f.face e)) ≡ None = subst (λ (g : ℕ). mode_in t (standing (f.face g)) ≡ None) here (ap (mode_in t) none) in
          cc (nobody, stood))
    ])
    (λ e n stood awaiting. absurd (
    let here : d ≡ e = eqb-true d e (step.awaited e n (ap awaits (sym is) ∙ awaiting)) in
    queue_in (f.face e) t n (subst (λ (g : ℕ). standing (f.face g) ≡ []) here none) stood))
    step.ordered
passed_core f t d m other is all next none = cc next

pub passed_standing : (f : Parts) (t d : ℕ) (m : Mode) → AreStanding f → next_on f t ≡ Some (d, m) → standing (f.face d) ≡ [] → AreStanding (passed_by f t)
passed_standing f t d m all next none = passed_core f t d m (f.core t) refl all next none

-- EACH CALL
-- a block that may be destroyed is none that was
fresh_block : (x : Part) → is_block x ≡ true → is_destroyed x ≡ false → IsBlock x (λ st. st.destroyed ≡ false)
fresh_block (part.Block st) is fresh = fresh
fresh_block other is fresh = cc is

fresh_of : (t : ℕ) (f : Parts) (d : ℕ) (a : Answer) → is_done a.code ≡ true → a.code ≡ code_of t f.face (call.DbDestroy d) → IsBlock (f.face d) (λ st. st.destroyed ≡ false)
fresh_of t f d a on code_is =
    let is : code_of t f.face (call.DbDestroy d) ≡ code.Done = sym code_is ∙ done_is a.code on in
    fresh_block (f.face d) (not-false _ (or_parts (is_of_other_kind ABlock (f.face d)) false (done_kinds t f.face (call.DbDestroy d) is)).0) (or_parts (is_destroyed (f.face d)) false (not_stale t f.face (call.DbDestroy d) is)).0

doomed_same : (x : Part) → (is_gone_on (with_template x doomed_template) ≡ is_gone_on x) × (standing (with_template x doomed_template) ≡ standing x) × (queue_on (with_template x doomed_template) ≡ queue_on x)
doomed_same (part.Template t) = (refl, refl, refl)
doomed_same other = (refl, refl, refl)

event_same : (x : Part) (step : AnyEvent → AnyEvent) → (is_gone_on (with_event x step) ≡ is_gone_on x) × (standing (with_event x step) ≡ standing x) × (queue_on (with_event x step) ≡ queue_on x)
event_same (part.Event st) step = (refl, refl, refl)
event_same other step = (refl, refl, refl)

-- a step of an event
stepped_standing : (f : Parts) (e : ℕ) (step : AnyEvent → AnyEvent) → AreStanding f → AreStanding (with_face f e (with_event (f.face e) step))
stepped_standing f e step all = let same = event_same (f.face e) step in faced f e _ all same.0 same.1 same.2

linked_standing : (b : Bool) (d : ℕ) (t : Target) (f : Parts) → AreStanding f → AreStanding (linked_if b d t f)
linked_standing true d t f all = stepped_standing f d (λ st. after_link st t) all
linked_standing false d t f all = all

deps_standing : (t k : ℕ) (ds : List ℕ) (f : Parts) → AreStanding f → AreStanding (deps_linked t k ds f)
deps_standing t k [] f all = all
deps_standing t k (d ∷ rest) f all = deps_standing t (k + 1) rest (linked_if (is_object d) d (slot_target t k) f) (linked_standing (is_object d) d (slot_target t k) f all)

vacated : (f : Parts) (g : ℕ) (x : Part) → AreStanding f → f.face g ≡ part.Vacant → is_gone_on part.Vacant ≡ is_gone_on x → standing part.Vacant ≡ standing x → queue_on part.Vacant ≡ queue_on x → AreStanding (with_face f g x)
vacated f g x all vacant gone there queue = faced f g x all (sym (ap is_gone_on vacant ∙ gone)) (sym (ap standing vacant ∙ there)) (sym (ap queue_on vacant ∙ queue))

scope_same : (x : Part) (step : State → State) → (is_gone_on (with_scope x step) ≡ is_gone_on x) × (standing (with_scope x step) ≡ standing x) × (queue_on (with_scope x step) ≡ queue_on x)
scope_same (part.Scope st) step = (refl, refl, refl)
scope_same other step = (refl, refl, refl)

scoped_standing : (f : Parts) (g : ℕ) (step : State → State) → AreStanding f → AreStanding (with_face f g (with_scope (f.face g) step))
scoped_standing f g step all = let same = scope_same (f.face g) step in faced f g _ all same.0 same.1 same.2

called_standing : (limit : ℕ) (f : Parts) (t home : ℕ) (c : body.Call) (a : Answer) (w : List (ℕ × ℕ)) → AreStanding f → IsOnce f → is_done a.code ≡ true → IsCallOn limit f t home c a w → AreStanding (called t c a w f)
called_standing limit f t home (call.DbCreate n fl) a w all once on legal = made_standing f t _ fl a.value all legal.running (legal.value.fresh on).vacant
called_standing limit f t home (call.DbRelease d) a w all once on legal = ended_standing f t d w all once legal.running (legal.value.0 on)
called_standing limit f t home (call.DbDestroy d) a w all once on legal = destroyed_standing f t d w all once legal.running (fresh_of t f d a on legal.code)
called_standing limit f t home (call.TemplateDestroy x) a w all once on legal = let same = doomed_same (f.face x) in faced f x _ all same.0 same.1 same.2
called_standing limit f t home (call.Store d k v) a w all once on legal = let same = stored_same (f.face d) k v in faced f d _ all same.0 same.1 same.2
called_standing limit f t home (call.AddDependence from x i m) a w all once on legal =
    let same = linked_same (f.face x) i _ in
    linked_standing (not (from == 0)) from (target_of (is_edt_face (f.face x)) x i) _ (faced f x _ all same.0 same.1 same.2)
called_standing limit f t home (call.TemplateCreate function pc dc) a w all once on legal =
    let vacant = (legal.value.fresh on).vacant in
    faced f a.value _ all (ap is_gone_on (sym vacant)) (ap standing (sym vacant)) (ap queue_on (sym vacant))
called_standing limit f t home (call.EventCreate k fl) a w all once on legal =
    let vacant = (legal.value.fresh on).vacant in
    faced f a.value _ all (ap is_gone_on (sym vacant)) (ap standing (sym vacant)) (ap queue_on (sym vacant))
called_standing limit f t home (call.EventCreateParams k fl most sats ds) a w all once on legal =
    let vacant = (legal.value.fresh on).vacant in
    faced f a.value _ all (ap is_gone_on (sym vacant)) (ap standing (sym vacant)) (ap queue_on (sym vacant))
called_standing limit f t home (call.EventDestroy x) a w all once on legal = stepped_standing f x after_destroy all
called_standing limit f t home (call.Satisfy e p slot) a w all once on legal = stepped_standing f e (λ st. after_satisfy st slot p) all
called_standing limit f t home (call.EdtCreate from pc params dc deps flags output) a w all once on legal =
    deps_standing a.value 0 deps _ (edt_standing (with_beside f (home_on (f.core t)) a) a.value (f.face from) dc deps (new_identity a.value flags a (home_on (f.core t))) params
    (named_keeps AreStanding (with_named f a.output new_output) a.scope (new_scope (home_on (f.core t)) a)
    (named_keeps AreStanding f a.output new_output all (λ some. vacated f a.output new_output all (output_free limit f t home from pc dc flags params deps output a w legal some) refl refl refl))
    (λ some. vacated (with_named f a.output new_output) a.scope (new_scope (home_on (f.core t)) a) (named_keeps AreStanding f a.output new_output all (λ some. vacated f a.output new_output all (output_free limit f t home from pc dc flags params deps output a w legal some) refl refl refl))
    (scope_free limit f t home from pc dc flags params deps output a w legal some) refl refl refl))
    (edt_free limit f t home from pc dc flags params deps output a w legal (home_on (f.core t)) on) (legal.value.no_core on))
called_standing limit f t home other a w all once on legal = all

-- A MESSAGE
brought_standing : (w : What) (f : Parts) → AreStanding f → AreStanding (brought w f)
brought_standing (what.Satisfy e slot p) f all = stepped_standing f e (λ st. after_satisfy st slot p) all
brought_standing (what.Leave x) f all = scoped_standing f x after_leave all
brought_standing other f all = all

-- EACH ENTRY
abbrev pub IsEmptyGone : Parts → Type 0
IsEmptyGone f = (d : ℕ) → is_gone_on (f.face d) ≡ true → standing (f.face d) ≡ []

pub gone_is : (x : Part) → IsBlock x (λ st. block.is_gone st ≡ true) → is_gone_on x ≡ true
gone_is (part.Block st) is = is
gone_is other is = absurd is

pub entry_standing : (limit : ℕ) (e : Entry) (f : Parts) → AreStanding f → IsOnce f → IsEmptyGone f → IsLegalOn limit f e → AreStanding (changed e f)
entry_standing limit (Call t home c a w) f all once empty legal = elim (is_done a.code) as (λ b. is_done a.code ≡ b → AreStanding (if b then joined c home (called t c a w f) else f)) [
  | true ↦ λ on. let now : AreStanding (called t c a w f) = called_standing limit f t home c a w all once on legal in joined_keeps AreStanding c home (called t c a w f) now (λ _. scoped_standing (called t c a w f) home after_join now)
  | false ↦ λ _. all
] refl
entry_standing limit (Deliver m c) f all once empty legal = elim (is_done c) as (λ b. AreStanding (if b then brought m.what f else f)) [ true ↦ brought_standing m.what f all | false ↦ all ]
entry_standing limit (Acquire t d) f all once empty legal = acquired_standing f t d all once legal.next legal.taken
entry_standing limit (Wait t d) f all once empty legal = waited_standing f t d all legal.acquiring legal.next legal.refused
entry_standing limit (StaleAcquire t d) f all once empty legal = passed_standing f t d _ all legal.next (empty d (gone_is (f.face d) legal.gone))
entry_standing limit (Start t) f all once empty legal = started_standing f t all legal.acquiring
entry_standing limit (Free t d w) f all once empty legal = ended_standing f t d w all once legal.running legal.held
entry_standing limit (End t g) f all once empty legal = end_standing f t all legal.running legal.nothing_held
entry_standing limit other f all once empty legal = all
