-- What an entry changes, told by the parts alone.
use Rattle.std.specs.Prelude.{ℕ, ◌+◌, ◌/◌, not, Bool, List, [], ◌∷◌, true, false, ◌==◌, if◌then◌else◌, Option, Some, None}
use Rattle.ocr_acquire.specs.declared.Mode.{Mode}
use Rattle.ocr_acquire.specs.Mode.{is_exclusive}
use Rattle.ocr_acquire.specs.Writes.{written}
use Rattle.ocr_template.specs.declared.Template.{Template}
use Rattle.ocr_template.specs.Template.{count_meant}
use Rattle.ocr_slots.specs.Slots as slot
use Rattle.ocr_slots.specs.Steps.{after_link}
use Rattle.ocr_datablock.specs.Block as block
use Rattle.ocr_datablock.specs.Steps.{after_ask, after_release, after_doom, after_store, after_lend, with_words}
use Rattle.ocr_datablock.specs.Lent.{Loan}
use Rattle.ocr_event_any.specs.AnyEvent as event
use Rattle.ocr_edt.specs.declared.Identity.{Identity}
use Rattle.ocr_edt.specs.declared.Edt.{Edt}
use Rattle.ocr_edt.specs.declared.Edt.TheVariants as phase
use Rattle.ocr_edt.specs.Steps.{after_acquired, after_start, after_hold, after_drop_hold}
use Rattle.ocr_finish.specs.Scope as scope
use Rattle.ocr_body_meaning.specs.Holds.{is_done}
use Rattle.ocr_body_meaning.specs.declared.call.Call as body
use Rattle.ocr_body_meaning.specs.declared.call.Call.TheVariants as call
use Rattle.ocr_body_meaning.specs.declared.call.Answer.{Answer}
use Rattle.ocr_machine_history.specs.declared.entry.Entry.{Entry}
use Rattle.ocr_machine_history.specs.declared.entry.Entry.TheVariants.{Call, Deliver, Acquire, Wait, StaleAcquire, Start, Free, End}
use Rattle.ocr_machine_history.specs.declared.entry.What.{What}
use Rattle.ocr_machine_history.specs.declared.entry.What.TheVariants as what
use Rattle.ocr_machine_history.specs.declared.objects.TheConstants.{OUTPUT_KIND, OUTPUT_FLAGS}
use Rattle.ocr_machine_history.specs.Made.{creator_of, names_new}
use Rattle.ocr_machine_parts.specs.declared.part.Core as core_type
use Rattle.ocr_machine_parts.specs.declared.part.Part.{Part}
use Rattle.ocr_machine_parts.specs.declared.part.Part.TheVariants as part
use Rattle.ocr_machine_parts.specs.Loans.{with_kept, without_kept, kept_of, kept_created, settled_loans}
use Rattle.ocr_machine_parts.specs.Calls.{dep_links, is_object, slot_target, target_of, mode_named}
use Rattle.ocr_machine_parts.specs.Parts.{Parts, new_identity}
use Rattle.ocr_machine_parts.specs.Kinds.{with_block, words_on, size_on, is_held_by, with_links, with_template, with_event, with_scope, is_edt_face, on_core, home_on, loan_on}
use Rattle.ocr_machine_parts.specs.Progress.{with_face, with_core, core_with, with_phase, next_mode_on, linked_if}

-- these parts, but for one where the number is not NULL_GUID
abbrev pub with_named : Parts → ℕ → Part → Parts
with_named f n x = record { face = λ g. if names_new n g then x else f.face g; core = f.core }

-- THE STEPS of an EDT.
abbrev pub awoken : Edt → Edt
awoken (phase.Waiting s) = phase.Acquiring s
awoken other = other

abbrev pub acquired_edt : Edt → Edt
acquired_edt (phase.Acquiring s) = phase.Acquiring (after_acquired s false)
acquired_edt other = other

abbrev pub stale_edt : Edt → Edt
stale_edt (phase.Acquiring s) = phase.Acquiring (after_acquired s true)
stale_edt other = other

abbrev pub waiting_edt : Edt → Edt
waiting_edt (phase.Acquiring s) = phase.Waiting s
waiting_edt other = other

abbrev pub started_edt : Edt → Edt
started_edt (phase.Acquiring s) = phase.Running (after_start s)
started_edt other = other

abbrev pub holding_edt : ℕ → Edt → Edt
holding_edt d (phase.Running s) = phase.Running (after_hold s d)
holding_edt d other = other

abbrev pub dropped_edt : ℕ → Edt → Edt
dropped_edt d (phase.Running s) = phase.Running (after_drop_hold s d)
dropped_edt d other = other

abbrev pub ended_edt : Edt → Edt
ended_edt (phase.Running s) = phase.Ended s.identity
ended_edt other = other

-- the creator of a block of so many words holds it, unless the flag says that it does not
abbrev pub holding_core : ℕ → ℕ → core_type.Core → core_type.Core
holding_core d size c = core_with c (holding_edt d c.edt) (with_kept d (kept_created size) c.loans)

abbrev pub creating_core : ℕ → ℕ → ℕ → core_type.Core → core_type.Core
creating_core flags d size c = if flags == 0 then holding_core d size c else c

abbrev pub dropping_core : ℕ → core_type.Core → core_type.Core
dropping_core d c = core_with c (dropped_edt d c.edt) (without_kept d c.loans)

abbrev pub acquiring_core : ℕ → Mode → ℕ → List ℕ → core_type.Core → core_type.Core
acquiring_core d m size words c =
    core_with c (acquired_edt (awoken c.edt)) (with_kept d (kept_of m size words) c.loans)

-- A BLOCK is granted, and in EW its words go out on loan
abbrev pub asked_if : ℕ → Mode → block.State → block.State
asked_if t m st = if is_held_by (part.Block st) t then st else after_ask st t m

abbrev pub lent_if : ℕ → Mode → block.State → block.State
lent_if t m st = if is_exclusive m then after_lend st t else st

abbrev pub granted : ℕ → Mode → block.State → block.State
granted t m st = lent_if t m (asked_if t m st)

-- a loan in EW comes back with the entry's writes
abbrev pub returned : List (ℕ × ℕ) → Option Loan → block.State → block.State
returned w None st = st
returned w (Some loan) st =
    if is_exclusive loan.mode then with_words st None (written w loan.began) else st

-- a hold ends by a step of its block
abbrev pub hold_ended : (block.State → ℕ → block.State) → ℕ → List (ℕ × ℕ) → Option Loan
    → block.State → block.State
hold_ended step t w loan st = step (returned w loan st) t

abbrev pub doomed_template : Template → Template
doomed_template t =
    record { function = t.function; paramc = t.paramc; depc = t.depc; destroyed = true }

-- THE PARTS of an EDT that is made from a template.
abbrev pub new_face : Part → ℕ → List ℕ → Part
new_face (part.Template t) dc deps =
    part.Edt (slot.state_of (count_meant t.depc dc) (dep_links 0 deps []))
new_face other dc deps = part.Vacant

abbrev pub new_core : Part → Identity → List ℕ → Part
new_core (part.Template t) i params =
    part.Core (record {
      function = t.function;
      params = params;
      edt = phase.Filling i;
      loans = [];
    })
new_core other i params = part.Vacant

-- the faces beside it, where its maker has this home: those of its scope and of its output event
abbrev pub new_scope : ℕ → Answer → Part
new_scope home a = part.Scope (scope.state_of home a.output [])

abbrev pub new_output : Part
new_output = part.Event (event.state_of OUTPUT_KIND OUTPUT_FLAGS 0 [])

abbrev pub with_beside : Parts → ℕ → Answer → Parts
with_beside f home a = with_named (with_named f a.output new_output) a.scope (new_scope home a)

-- the EDT's hold of the block ends by a step of the block
abbrev pub ended : (block.State → ℕ → block.State) → Parts → ℕ → ℕ → List (ℕ × ℕ) → Parts
ended step f t d w =
    with_core
    (with_face f d (with_block (f.face d) (hold_ended step t w (loan_on (f.core t) d))))
    t (on_core (f.core t) (dropping_core d))

-- the events that are given to the slots of a new EDT, slot by slot
abbrev pub deps_linked : ℕ → ℕ → List ℕ → Parts → Parts
deps_linked t k [] f = f
deps_linked t k (d ∷ rest) f =
    deps_linked t (k + 1) rest (linked_if (is_object d) d (slot_target t k) f)

-- an accepted call
abbrev pub called : ℕ → body.Call → Answer → List (ℕ × ℕ) → Parts → Parts
called t (call.DbCreate n fl) a w f =
    with_core
    (with_face f a.value (part.Block (block.state_of (n / 8) (creator_of t fl) [])))
    t (on_core (f.core t) (creating_core fl a.value (n / 8)))
called t (call.DbRelease d) a w f = ended after_release f t d w
called t (call.DbDestroy d) a w f = ended after_doom f t d w
called t (call.Store d k v) a w f =
    with_face f d (with_block (f.face d) (λ st. after_store st k v))
called t (call.Satisfy e p slot) a w f =
    with_face f e (with_event (f.face e) (λ st. event.after_satisfy st slot p))
called t (call.AddDependence from x i m) a w f =
    linked_if (not (from == 0)) from (target_of (is_edt_face (f.face x)) x i)
    (with_face f x (with_links (f.face x) (λ slots. after_link slots i (mode_named m))))
called t (call.TemplateCreate function pc dc) a w f =
    with_face f a.value
    (part.Template (record { function = function; paramc = pc; depc = dc; destroyed = false }))
called t (call.TemplateDestroy x) a w f =
    with_face f x (with_template (f.face x) doomed_template)
called t (call.EventCreate k fl) a w f =
    with_face f a.value (part.Event (event.state_of k fl 0 []))
called t (call.EventCreateParams k fl most sats deps) a w f =
    with_face f a.value (part.Event (event.state_of k fl most []))
called t (call.EventDestroy e) a w f =
    with_face f e (with_event (f.face e) event.after_destroy)
called t (call.EdtCreate from pc params dc deps flags output) a w f =
    deps_linked a.value 0 deps
    (with_core
    (with_face (with_beside f (home_on (f.core t)) a) a.value (new_face (f.face from) dc deps))
    a.value (new_core (f.face from) (new_identity a.value flags a (home_on (f.core t))) params))
called t other a w f = f

-- an EDT that is made joins its maker's home
abbrev pub joins : body.Call → ℕ → ℕ → Bool
joins (call.EdtCreate from pc params dc deps flags output) home g = names_new home g
joins other home g = false

abbrev pub joined : body.Call → ℕ → Parts → Parts
joined c home f = record {
  face = λ g. if joins c home g then with_scope (f.face g) scope.after_join else f.face g;
  core = f.core;
}

-- THE PARTS AFTER AN ENTRY. The core of an EDT that acquires, waits, finds a block gone or starts
-- was made ready before
abbrev pub acquired : Parts → ℕ → ℕ → Parts
acquired f t d =
    with_core
    (with_face f d (with_block (f.face d) (granted t (next_mode_on f t))))
    t (on_core (f.core t)
    (acquiring_core d (next_mode_on f t) (size_on (f.face d)) (words_on (f.face d))))

-- the EDT finds the block gone
abbrev pub passed_by : Parts → ℕ → Parts
passed_by f t = with_core f t (on_core (f.core t) (with_phase (λ e. stale_edt (awoken e))))

abbrev pub waited : Parts → ℕ → ℕ → Parts
waited f t d =
    with_core
    (with_face f d (with_block (f.face d) (λ st. after_ask st t (next_mode_on f t))))
    t (on_core (f.core t) (with_phase waiting_edt))

-- what an accepted message does
abbrev pub brought : What → Parts → Parts
brought (what.Satisfy e slot p) f =
    with_face f e (with_event (f.face e) (λ st. event.after_satisfy st slot p))
brought (what.Leave x) f = with_face f x (with_scope (f.face x) scope.after_leave)
brought other f = f

abbrev pub changed : Entry → Parts → Parts
changed (Call t home c a w) f = if is_done a.code then joined c home (called t c a w f) else f
changed (Deliver m c) f = if is_done c then brought m.what f else f
changed (Acquire t d) f = acquired f t d
changed (Wait t d) f = waited f t d
changed (StaleAcquire t d) f = passed_by f t
changed (Start t) f = with_core f t (on_core (f.core t) (with_phase started_edt))
changed (Free t d w) f = ended after_release f t d w
changed (End t g) f = with_core f t (on_core (f.core t) (with_phase ended_edt))
changed other f = f

-- SETTLED: without what was stored in loans, which no entry tells yet
abbrev pub settled_core : core_type.Core → core_type.Core
settled_core c = core_with c c.edt (settled_loans c.loans)

abbrev pub settled : Part → Part
settled x = on_core x settled_core

abbrev pub settled_parts : Parts → Parts
settled_parts f = record { face = f.face; core = λ t. settled (f.core t) }
