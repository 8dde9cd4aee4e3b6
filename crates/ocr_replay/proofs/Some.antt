-- What is told of each EDT tells of all, and of a Stop.
use Rattle.std.proofs.Common.{◌≡◌, ◌⊎◌, inl, inr, ◌<◌, ◌≤◌, ◌-◌, ℕ, zero, suc, nat_le, List, Bool, true, false, ◌&&◌, ◌||◌, Option, Some, None, arith, refl, sym, ◌∙◌, ap, subst}
use Rattle.std.proofs.lemmas.Grind.{common_steps}
use Rattle.std.specs.List.{Contains}
use Rattle.std.proofs.lemmas.Bool.{and_parts}
use Rattle.ocr_body_meaning.specs.declared.call.BodyStop.{BodyStop}
use Rattle.ocr_body_meaning.specs.declared.call.BodyStop.TheVariants as stop
use Rattle.ocr_machine_history.specs.declared.entry.Entry.TheVariants.{Call, Deliver, Acquire, Wait, StaleAcquire, Start, Free, End, Stop}
use Rattle.ocr_machine_history.specs.declared.entry.Fault.{Fault}
use Rattle.ocr_machine_history.specs.declared.entry.Stop.TheVariants as by
use Rattle.ocr_machine_history.specs.declared.entry.What.{What}
use Rattle.ocr_machine_history.specs.Edts.{IsRunning}
use Rattle.ocr_machine_history.specs.History.{History, Setting}
use Rattle.ocr_machine_parts.specs.declared.part.Part.{Part}
use Rattle.ocr_machine_parts.specs.declared.part.Part.TheVariants as part
use Rattle.ocr_machine_parts.specs.Calls.{plan_of}
use Rattle.ocr_machine_parts.specs.Progress.{ready_at, with_phase, made_ready, next_on}
use Rattle.ocr_machine_parts.specs.Kinds.{on_core, core_progress, next_in, is_acquiring}
use Rattle.ocr_machine_parts.specs.Legal.{IsRun, IsLegal, faulted}
use Rattle.ocr_machine_parts.specs.Messages.{pending}
use Rattle.ocr_machine_parts.specs.Parts.{Parts, parts_of}
use Rattle.ocr_machine_parts.specs.Taken.{is_within}
use Rattle.ocr_machine_parts.proofs.Lent.{ready_core}
use Rattle.ocr_machine_state.specs.State.{state_in, IsStateOf}
use Rattle.ocr_machine_state.specs.declared.state.State.{State}
use Rattle.ocr_replay_legality.specs.Tests.{Whether, MayGoOn, MayEnter, IsDeliverable}
use Rattle.ocr_replay_body.specs.Mail.{left_from, message_at}
use Rattle.ocr_replay_body.specs.declared.judge.Verdict.{Verdict}
use Rattle.ocr_replay_body.proofs.Letters.{waits, waiting}
use Rattle.ocr_replay.specs.Stops.{IsFront, IsStopping, Creates, RunsWeighed, CouldWeigh, SomeCreates, SomeCould, AnyWeighed, Delivers, MailDelivers}
use Rattle.ocr_replay.proofs.StopCauses.{two, no_core, running_within, running_on}
use Rattle.ocr_replay_legality.proofs.Numbers.{same_or_above}

-- TESTS
pub either_so : (a b r : Bool) (A B : Type 0) → Whether a A → Whether b B → r ≡ (a || b) → Whether r (A ⊎ B)
either_so true b r A B one other is = record { yes = λ _. inl (one.yes refl); no = λ off. cc (is, off) }
either_so false b r A B one other is = record {
  yes = λ on. inr (other.yes (sym is ∙ on));
  no = λ off p. elim p [ inl x ↦ one.no refl x | inr y ↦ other.no (sym is ∙ off) y ];
}

pub both_so : (a b r : Bool) (A B : Type 0) → Whether a A → Whether b B → r ≡ (a && b) → Whether r (A × B)
both_so a b r A B one other is = two a b r A B (A × B) is one (λ _. other) (λ x y. (x, y)) (λ p. p)

pub as_well : (r : Bool) (A B : Type 0) → Whether r A → (A → B) → (B → A) → Whether r B
as_well r A B is to back = record { yes = λ on. to (is.yes on); no = λ off b. is.no off (back b) }

-- ONE EDT
pub could_by : (s : Setting) (past : History) (t weight : ℕ) (one wakes goes runs r : Bool) → Whether one (weight ≡ 1) → Whether wakes (MayGoOn s past t) → goes ≡ (one && wakes) → Whether runs (RunsWeighed s past t weight) → r ≡ (runs || goes)
    → Whether r (CouldWeigh s past t weight)
could_by s past t weight one wakes goes runs r is_one may is_goes weighed is =
    either_so runs goes r (RunsWeighed s past t weight) ((weight ≡ 1) × MayGoOn s past t) weighed (both_so one wakes goes (weight ≡ 1) (MayGoOn s past t) is_one may is_goes) is

pub within_le : (limit t : ℕ) → is_within limit t ≡ true → t ≤ limit
within_le limit t is = (let small : nat_le t limit ≡ true = (and_parts (nat_le 1 t) (nat_le t limit) is).1 in grind (arith, common_steps))

vacant_goes : (s : Setting) (past : History) (t : ℕ) → (parts_of s past).core t ≡ part.Vacant → MayGoOn s past t → ⊥
vacant_goes s past t vacant (Acquire u d, is, may) =
    let here : MayEnter s past (Acquire t d) = subst (λ (k : ℕ). MayEnter s past (Acquire k d)) is may in
    cc (no_next s past t vacant, here.0.next)
  where
    no_next : (s : Setting) (past : History) (t : ℕ) → (parts_of s past).core t ≡ part.Vacant → next_on (ready_at t (plan_of s past t) (parts_of s past)) t ≡ None
    no_next s past t vacant = ap (λ (x : Part). next_in (core_progress x)) (ready_core s past t ∙ ap (λ (x : Part). on_core x (with_phase (made_ready (plan_of s past t)))) vacant)
vacant_goes s past t vacant (Wait u d, is, may) =
    let here : MayEnter s past (Wait t d) = subst (λ (k : ℕ). MayEnter s past (Wait k d)) is may in
    let idle : is_acquiring ((ready_at t (plan_of s past t) (parts_of s past)).core t) ≡ false = ap is_acquiring (ready_core s past t ∙ ap (λ (x : Part). on_core x (with_phase (made_ready (plan_of s past t)))) vacant) in
    cc (idle, here.0.acquiring)
vacant_goes s past t vacant (StaleAcquire u d, is, may) =
    let here : MayEnter s past (StaleAcquire t d) = subst (λ (k : ℕ). MayEnter s past (StaleAcquire k d)) is may in
    let none : next_on (ready_at t (plan_of s past t) (parts_of s past)) t ≡ None = ap (λ (x : Part). next_in (core_progress x)) (ready_core s past t ∙ ap (λ (x : Part). on_core x (with_phase (made_ready (plan_of s past t)))) vacant) in
    cc (none, here.0.next)
vacant_goes s past t vacant (Start u, is, may) =
    let here : MayEnter s past (Start t) = subst (λ (k : ℕ). MayEnter s past (Start k)) is may in
    let idle : is_acquiring ((ready_at t (plan_of s past t) (parts_of s past)).core t) ≡ false = ap is_acquiring (ready_core s past t ∙ ap (λ (x : Part). on_core x (with_phase (made_ready (plan_of s past t)))) vacant) in
    cc (idle, here.0.acquiring)
vacant_goes s past t vacant (other, is, may) = absurd is

goes_within : (s : Setting) (past : History) (table : State) (t : ℕ) → IsStateOf s past table → MayGoOn s past t → is_within table.limit t ≡ true
goes_within s past table t of may = elim (is_within table.limit t) as (λ b. is_within table.limit t ≡ b → b ≡ true) [
  | true ↦ λ _. refl
  | false ↦ λ off. absurd (vacant_goes s past t (sym (ap (λ (f : Parts). f.core t) of.parts) ∙ no_core table.limit t table.parts.items off) may)
] refl

weighed_runs : (s : Setting) (past : History) (t weight : ℕ) → IsRun s past → RunsWeighed s past t weight → IsRunning past t
weighed_runs s past t weight run (Call u home c a w, is, weighed) = subst (λ (k : ℕ). IsRunning past k) is (running_on s past u run weighed.on_parts.running)
weighed_runs s past t weight run (Free u d w, is, weighed) = subst (λ (k : ℕ). IsRunning past k) is (running_on s past u run weighed.on_parts.running)
weighed_runs s past t weight run (End u g, is, weighed) = subst (λ (k : ℕ). IsRunning past k) is (running_on s past u run weighed.on_parts.running)
weighed_runs s past t weight run (other, is, weighed) = absurd is

could_le : (s : Setting) (past : History) (rows : _) (table : State) (vs : List Verdict) (t weight : ℕ) → IsFront s past table rows vs → CouldWeigh s past t weight → t ≤ table.limit
could_le s past rows table vs t weight front (inl runs) = within_le table.limit t (running_within s past rows table vs t front (weighed_runs s past t weight front.run runs))
could_le s past rows table vs t weight front (inr goes) = within_le table.limit t (goes_within s past table t front.of goes.1)

-- SOME EDT
below : (t limit : ℕ) (P : ℕ → Type 0) → ((k : ℕ) → 0 < k → k ≤ limit → P k → ⊥) → (P 0 → ⊥) → t ≤ limit → P t → ⊥
below zero limit P all none le p = none p
below (suc t) limit P all none le p = all (suc t) (omega arith) le p

pub some_created : (s : Setting) (past : History) (rows : _) (table : State) (vs : List Verdict) (last : Bool) → IsFront s past table rows vs → ((t : ℕ) → 0 < t → t ≤ table.limit → Creates s past t → ⊥) → Whether last (Creates s past 0) → Whether last (SomeCreates s past)
some_created s past rows table vs last front none tested = record {
  yes = λ on. (0, tested.yes on);
  no = λ off some. below some.0 table.limit (Creates s past) none (tested.no off) (within_le table.limit some.0 (running_within s past rows table vs some.0 front some.1.1.running)) some.1;
}

pub some_come : (s : Setting) (past : History) (rows : _) (table : State) (vs : List Verdict) (weight : ℕ) (last : Bool) → IsFront s past table rows vs → ((t : ℕ) → 0 < t → t ≤ table.limit → CouldWeigh s past t weight → ⊥) → Whether last (CouldWeigh s past 0 weight)
    → Whether last (SomeCould s past weight)
some_come s past rows table vs weight last front none tested = record {
  yes = λ on. (0, tested.yes on);
  no = λ off some. below some.0 table.limit (λ t. CouldWeigh s past t weight) none (tested.no off) (could_le s past rows table vs some.0 weight front some.1) some.1;
}

pub one_less : (n limit : ℕ) (P : ℕ → Type 0) → ((k : ℕ) → n < k → k ≤ limit → P k → ⊥) → (P n → ⊥) → (k : ℕ) → n - 1 < k → k ≤ limit → P k → ⊥
one_less n limit P all none k above le p = elim (same_or_above n k (omega arith)) [
  | inl same ↦ none (subst P same p)
  | inr more ↦ all k more le p
]

pub created_at : (s : Setting) (past : History) (n : ℕ) (r : Bool) → Whether r (Creates s past n) → r ≡ true → Whether true (SomeCreates s past)
created_at s past n r tested on = record { yes = λ _. (n, tested.yes on); no = λ off. cc off }

pub come_at : (s : Setting) (past : History) (n weight : ℕ) (r : Bool) → Whether r (CouldWeigh s past n weight) → r ≡ true → Whether true (SomeCould s past weight)
come_at s past n weight r tested on = record { yes = λ _. (n, tested.yes on); no = λ off. cc off }

-- MESSAGES
abbrev IsLeft : Setting → History → Type 0
IsLeft s past = (n i : ℕ) × (w : What) × Contains (pending s past) (n, i, w) × IsDeliverable (parts_of s past) w

left_at : (f : Parts) (rows : List (List (Option What))) (n i : ℕ) (o : Option What) → message_at rows n i ≡ o → Delivers f o → (w : What) × Contains (left_from 0 rows) (n, i, w) × IsDeliverable f w
left_at f rows n i None at can = absurd can
left_at f rows n i (Some w) at can = (w, waits rows n i w at, can)

left_by : (s : Setting) (past : History) (rows : List (List (Option What))) → left_from 0 rows ≡ pending s past → MailDelivers (parts_of s past) rows → IsLeft s past
left_by s past rows left (n, i, can) =
    let found = left_at (parts_of s past) rows n i (message_at rows n i) refl can in
    (n, i, found.0, subst (λ (ms : List (ℕ × ℕ × What)). Contains ms (n, i, found.0)) left found.1, found.2)

by_left : (s : Setting) (past : History) (rows : List (List (Option What))) → left_from 0 rows ≡ pending s past → IsLeft s past → MailDelivers (parts_of s past) rows
by_left s past rows left (n, i, w, sent, can) =
    let there : Contains (left_from 0 rows) (n, i, w) = subst (λ (ms : List (ℕ × ℕ × What)). Contains ms (n, i, w)) (sym left) sent in
    (n, i, subst (λ (o : Option What). Delivers (parts_of s past) o) (sym (waiting rows n i w there)) can)

pub left_tested : (s : Setting) (past : History) (table : State) (rows : List (List (Option What))) (r : Bool) → IsStateOf s past table → left_from 0 rows ≡ pending s past → Whether r (MailDelivers (state_in table) rows) → Whether r (IsLeft s past)
left_tested s past table rows r of left tested =
    as_well r (MailDelivers (parts_of s past) rows) (IsLeft s past) (subst (λ (f : Parts). Whether r (MailDelivers f rows)) of.parts tested) (left_by s past rows left) (by_left s past rows left)

-- ANY ENTRY
abbrev Comes : Setting → History → ℕ → Type 0
Comes s past weight = SomeCould s past weight ⊎ ((weight ≡ 1) × IsLeft s past)

goes_weighed : (s : Setting) (past : History) (t weight : ℕ) → weight ≡ 1 → MayGoOn s past t → AnyWeighed s past weight
goes_weighed s past t weight one (Acquire u d, is, may) = (Acquire u d, record { weighs = sym one; no_stop = refl; on_parts = may.0; on_facts = may.1; said = tt })
goes_weighed s past t weight one (Wait u d, is, may) = (Wait u d, record { weighs = sym one; no_stop = refl; on_parts = may.0; on_facts = may.1; said = tt })
goes_weighed s past t weight one (StaleAcquire u d, is, may) = (StaleAcquire u d, record { weighs = sym one; no_stop = refl; on_parts = may.0; on_facts = may.1; said = tt })
goes_weighed s past t weight one (Start u, is, may) = (Start u, record { weighs = sym one; no_stop = refl; on_parts = may.0; on_facts = may.1; said = tt })
goes_weighed s past t weight one (other, is, may) = absurd is

come_weighed : (s : Setting) (past : History) (weight : ℕ) → Comes s past weight → AnyWeighed s past weight
come_weighed s past weight (inl (t, inl runs)) = (runs.0, runs.2)
come_weighed s past weight (inl (t, inr goes)) = goes_weighed s past t weight goes.0 goes.1
come_weighed s past weight (inr (one, sent)) =
    (Deliver (record { place = sent.0; index = sent.1; what = sent.2 }) sent.4.0, record { weighs = sym one; no_stop = refl; on_parts = sent.4.1; on_facts = tt; said = sent.3 })

weighed_comes : (s : Setting) (past : History) (weight : ℕ) → AnyWeighed s past weight → Comes s past weight
weighed_comes s past weight (Call t home c a w, weighed) = inl (t, inl (Call t home c a w, refl, weighed))
weighed_comes s past weight (Free t d w, weighed) = inl (t, inl (Free t d w, refl, weighed))
weighed_comes s past weight (End t g, weighed) = inl (t, inl (End t g, refl, weighed))
weighed_comes s past weight (Acquire t d, weighed) = inl (t, inr (sym weighed.weighs, (Acquire t d, refl, (weighed.on_parts, weighed.on_facts))))
weighed_comes s past weight (Wait t d, weighed) = inl (t, inr (sym weighed.weighs, (Wait t d, refl, (weighed.on_parts, weighed.on_facts))))
weighed_comes s past weight (StaleAcquire t d, weighed) = inl (t, inr (sym weighed.weighs, (StaleAcquire t d, refl, (weighed.on_parts, weighed.on_facts))))
weighed_comes s past weight (Start t, weighed) = inl (t, inr (sym weighed.weighs, (Start t, refl, (weighed.on_parts, weighed.on_facts))))
weighed_comes s past weight (Deliver m c, weighed) = inr (sym weighed.weighs, (m.place, m.index, m.what, weighed.said, (c, weighed.on_parts)))
weighed_comes s past weight (Stop why, weighed) = cc weighed.no_stop

-- A STOP
pub events_by : (s : Setting) (past : History) (rows : _) (table : State) (vs : List Verdict) (weight worker : ℕ) (comes one delivering goes r : Bool) → IsFront s past table rows vs → Whether comes (SomeCould s past weight) → Whether one (weight ≡ 1)
    → Whether delivering (MailDelivers (state_in table) rows) → goes ≡ (one && delivering) → r ≡ (comes || goes) → Whether r (IsLegal s past (Stop (by.Events worker weight)))
events_by s past rows table vs weight worker comes one delivering goes r front could is_one sending is_goes is =
    as_well r (Comes s past weight) (IsLegal s past (Stop (by.Events worker weight)))
    (either_so comes goes r (SomeCould s past weight) ((weight ≡ 1) × IsLeft s past) could (both_so one delivering goes (weight ≡ 1) (IsLeft s past) is_one (left_tested s past table rows delivering front.of front.left sending) is_goes) is)
    (λ come. record { open_run = front.open_run; on_parts = tt; on_facts = tt; said = tt; stopping = come_weighed s past weight come })
    (λ legal. weighed_comes s past weight legal.stopping)

pub objects_by : (s : Setting) (past : History) (rows : _) (table : State) (vs : List Verdict) (r : Bool) → IsFront s past table rows vs → Whether r (SomeCreates s past) → Whether r (IsLegal s past (Stop by.Objects))
objects_by s past rows table vs r front tested = as_well r (SomeCreates s past) (IsLegal s past (Stop by.Objects)) tested
    (λ some. record { open_run = front.open_run; on_parts = tt; on_facts = tt; said = tt; stopping = (some.0, some.1.0, some.1.1) })
    (λ legal. (legal.stopping.0, (legal.stopping.1, legal.stopping.2)))

pub shutdown_by : (s : Setting) (past : History) (rows : _) (table : State) (vs : List Verdict) (t : ℕ) (r : Bool) → IsFront s past table rows vs → Whether r (IsStopping s past t stop.Shutdown) → Whether r (IsLegal s past (Stop (by.Shutdown t)))
shutdown_by s past rows table vs t r front tested = as_well r (IsStopping s past t stop.Shutdown) (IsLegal s past (Stop (by.Shutdown t))) tested
    (λ stops. record { open_run = front.open_run; on_parts = tt; on_facts = tt; said = stops.stops; stopping = stops.running })
    (λ legal. record { running = legal.stopping; stops = legal.said })

pub abort_by : (s : Setting) (past : History) (rows : _) (table : State) (vs : List Verdict) (t given : ℕ) (r : Bool) → IsFront s past table rows vs → Whether r (IsStopping s past t (stop.Abort given)) → Whether r (IsLegal s past (Stop (by.Abort t given)))
abort_by s past rows table vs t given r front tested = as_well r (IsStopping s past t (stop.Abort given)) (IsLegal s past (Stop (by.Abort t given))) tested
    (λ stops. record { open_run = front.open_run; on_parts = tt; on_facts = tt; said = stops.stops; stopping = stops.running })
    (λ legal. record { running = legal.stopping; stops = legal.said })

pub fault_by : (s : Setting) (past : History) (rows : _) (table : State) (vs : List Verdict) (t : ℕ) (fault : Fault) (why : BodyStop) (r : Bool) → why ≡ faulted fault → IsFront s past table rows vs → Whether r (IsStopping s past t why) → Whether r (IsLegal s past (Stop (by.Fault t fault)))
fault_by s past rows table vs t fault why r is front tested = as_well r (IsStopping s past t (faulted fault)) (IsLegal s past (Stop (by.Fault t fault))) (subst (λ (b : BodyStop). Whether r (IsStopping s past t b)) is tested)
    (λ stops. record { open_run = front.open_run; on_parts = tt; on_facts = tt; said = stops.stops; stopping = stops.running })
    (λ legal. record { running = legal.stopping; stops = legal.said })
