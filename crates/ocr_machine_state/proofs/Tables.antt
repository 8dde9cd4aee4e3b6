-- The table of a run: its parts, and what its slots were set to.
use Rattle.std.proofs.Common.{◌≡◌, ℕ, zero, suc, ◌+◌, ◌-◌, ◌<◌, ◌≤◌, ◌↔◌, List, [], ◌∷◌, ◌++◌, length, drop, append_assoc, unwrap_or, map, filter, not, slice_set, true, false, ◌==◌, ◌||◌, ◌&&◌, if◌then◌else◌, Option, Some, None, is_some, arith, refl, sym, ◌∙◌, ap, subst}
use Rattle.std.proofs.lemmas.Grind.{common_steps}
use Rattle.std.proofs.lemmas.Bool.{eqb-true}
use Rattle.std.specs.List.{range_with_len}
use Rattle.ocr_guid.specs.Target.{EventCall}
use Rattle.ocr_acquire.specs.Plan as plan
use Rattle.ocr_acquire.specs.declared.Mode.{Mode}
use Rattle.ocr_datablock.specs.Block.{BlockCall}
use Rattle.ocr_edt.specs.Edt as edt
use Rattle.ocr_edt.specs.declared.Edt.{Edt}
use Rattle.ocr_edt.specs.declared.Edt.TheVariants as phase
use Rattle.ocr_machine_history.specs.History as history
use Rattle.ocr_machine_history.specs.Numbers.{is_in}
use Rattle.ocr_machine_history.specs.declared.entry.What.TheVariants as what
use Rattle.ocr_machine_history.specs.Made.{Made, MadeBlock, MadeTemplate, MadeEdt, MadeEvent, MadeScope, made, depc_in}
use Rattle.ocr_machine_history.specs.declared.entry.Entry.{Entry}
use Rattle.ocr_machine_history.specs.declared.entry.Entry.TheVariants.{Call, Deliver, Acquire, Wait, StaleAcquire, Start, Free}
use Rattle.ocr_slots.specs.Slots.{SlotCall, mode_of, payload_of, is_set, slots_of, state_of, slot_at}
use Rattle.ocr_slots.specs.declared.Slot.{Slot}
use Rattle.ocr_machine_parts.specs.declared.loans.Kept.{Kept}
use Rattle.ocr_machine_parts.specs.declared.part.Core.{Core}
use Rattle.ocr_machine_parts.specs.declared.part.Part.{Part}
use Rattle.ocr_machine_parts.specs.declared.part.Part.TheVariants as part
use Rattle.ocr_machine_parts.specs.Calls.{link_calls, set_calls, set_step, depc_of, open_slots, payload_or_null, payloads_of, depv_of, depv_in, value_of_slot, edt_calls, loans_of, slots_now, plan_of, asks_of, asks_in}
use Rattle.ocr_machine_parts.specs.Effects.{changed}
use Rattle.ocr_machine_parts.specs.Progress.{readied, readied_on, edt_in, ready_at, with_core, with_phase, made_ready, next_on}
use Rattle.ocr_machine_parts.specs.Kinds.{on_core, core_progress, next_in, is_running}
use Rattle.ocr_machine_parts.specs.Laws.{AfterLaw}
use Rattle.ocr_machine_parts.specs.LegalOn.{IsLegalOn}
use Rattle.ocr_machine_parts.specs.Messages.{sends, resumes}
use Rattle.ocr_edt.specs.declared.Identity.{Identity}
use Rattle.ocr_machine_parts.specs.Parts.{Parts, parts_of, face, core, identity_of}
use Rattle.ocr_machine_parts.specs.Taken.{look, has, as_core, is_within, parts_in, place_of, ArePlaced}
use Rattle.ocr_machine_state.specs.Sets.{filled, are_set, payloads_in, slots_in, is_filling, is_filling_on, stale_on, set_after}
use Rattle.ocr_machine_codes.specs.Lookup.{part_at}
use Rattle.ocr_machine_effects.specs.All.{core_at, all_parts, AreAllPlaced}
use Rattle.ocr_machine_state.specs.State.{state_in, face_on, core_on, sets_in, slots_on, plan_on, IsWholeState, IsStateOf, IsBefore}
use Rattle.ocr_machine_state.specs.declared.state.State.{State}
use Rattle.ocr_machine_effects.proofs.Places.{place_is, AreKept, kept_as, kept_set, core_set}
use Rattle.ocr_finish.specs.Scope.{ScopeCall}
use Rattle.ocr_base.proofs.Booleans.{same}
use Rattle.ocr_machine_effects.proofs.Numbered.{same_parts}

-- THE SAME PARTS at all numbers
same_kept : (limit : ℕ) (at other : ℕ → Part) → ((n : ℕ) → at n ≡ other n) → AreKept limit other → AreKept limit at
same_kept limit at other is are n = is n ∙ are n ∙ ap (λ (f : Parts). place_of limit f n) (sym (same_parts limit at other is))

look_none : (ps : List (ℕ × Part)) (n : ℕ) → has ps n ≡ false → look ps n ≡ part.Vacant
look_none [] n is = refl
look_none (p ∷ rest) n is = elim (p.0 == n) as (λ b. (b || has rest n) ≡ false → (if b then p.1 else look rest n) ≡ part.Vacant) [
  | true ↦ λ is. cc is
  | false ↦ λ is. look_none rest n is
] is

given_look : (ps : List (ℕ × Part)) (n : ℕ) (x : Part) → x ≡ part.Vacant → (if has ps n then look ps n else x) ≡ look ps n
given_look ps n x vacant = elim (has ps n) as (λ b. has ps n ≡ b → (if b then look ps n else x) ≡ look ps n) [
  | true ↦ λ _. refl
  | false ↦ λ none. vacant ∙ sym (look_none ps n none)
] refl

pub opened_at : (ps : List (ℕ × Part)) (before after : List Part) → ((n : ℕ) → part_at before n ≡ part.Vacant)
    → ((n : ℕ) → part_at after n ≡ (if has ps n then look ps n else part_at before n)) → (n : ℕ) → part_at after n ≡ look ps n
opened_at ps before after vacant given n = given n ∙ given_look ps n (part_at before n) (vacant n)

-- AN EDT'S SLOTS by its face: those of the history
slots_from : (links calls : List SlotCall) (k n : ℕ)
    → filled k (map (λ (j : ℕ). record { mode = mode_of links j; payload = payload_of links j }) (range_with_len k n)) calls
    ≡ map (λ (j : ℕ). record { mode = mode_of links j; payload = payload_of calls j }) (range_with_len k n)
slots_from links calls k zero = refl
slots_from links calls k (suc n) = ap (λ (rest : List Slot). (record { mode = mode_of links k; payload = payload_of calls k }) ∷ rest) (slots_from links calls (k + 1) n)

face_slots : (m : Option Made) (links : List SlotCall) (blocks : List BlockCall) (events : List EventCall) (scopes : List ScopeCall) → slots_in (face m links blocks events scopes) ≡ state_of (depc_in m) links
face_slots None links blocks events scopes = refl
face_slots (Some (MadeBlock n c)) links blocks events scopes = refl
face_slots (Some (MadeTemplate f pc dc)) links blocks events scopes = refl
face_slots (Some (MadeEdt f ps n)) links blocks events scopes = refl
face_slots (Some (MadeEvent k fl most)) links blocks events scopes = refl
face_slots (Some (MadeScope outer output)) links blocks events scopes = refl

past_limit : (m : Option Made) (links : List SlotCall) (blocks : List BlockCall) (events : List EventCall) (scopes : List ScopeCall) → face m links blocks events scopes ≡ part.Vacant → depc_in m ≡ 0
past_limit None links blocks events scopes is = refl
past_limit (Some (MadeBlock n c)) links blocks events scopes is = cc is
past_limit (Some (MadeTemplate f pc dc)) links blocks events scopes is = refl
past_limit (Some (MadeEdt f ps n)) links blocks events scopes is = cc is
past_limit (Some (MadeEvent k fl most)) links blocks events scopes is = refl
past_limit (Some (MadeScope outer output)) links blocks events scopes is = refl

pub slots_are : (s : history.Setting) (past : history.History) (table : State) (t : ℕ) → IsStateOf s past table → slots_on table t ≡ slots_now s past t
slots_are s past table t of =
    let faces : face_on table t ≡ (parts_of s past).face t = ap (λ (f : Parts). f.face t) of.parts in
    let here : slots_in (face_on table t) ≡ state_of (depc_of s past t) (link_calls past t) = ap slots_in faces ∙ face_slots (made s past t) (link_calls past t) _ _ _ in
    elim (is_within table.limit t) as (λ b. is_within table.limit t ≡ b → filled 0 (slots_in (face_on table t)) (sets_in table t) ≡ slots_now s past t) [
      | true ↦ λ within.
          let sets : sets_in table t ≡ set_calls past t = of.sets t (ap (λ (n : ℕ). is_within n t) (sym of.limit) ∙ within) in
          rw (here, sets) (slots_from (link_calls past t) (set_calls past t) 0 (depc_of s past t))
      | false ↦ λ off.
          let vacant : face_on table t ≡ part.Vacant = rw off refl in
          let none : depc_of s past t ≡ 0 = past_limit (made s past t) (link_calls past t) _ _ _ (sym faces ∙ vacant) in
          rw (vacant, none) refl
    ] refl

pub plan_is : (s : history.Setting) (past : history.History) (table : State) (t : ℕ) → IsStateOf s past table → plan_on table t ≡ plan_of s past t
plan_is s past table t of = ap (λ (slots : List Slot). plan.plan_of (asks_in slots)) (slots_are s past table t of)

payloads_map : (links calls : List SlotCall) (ks : List ℕ)
    → payloads_in (map (λ (j : ℕ). record { mode = mode_of links j; payload = payload_of calls j }) ks) ≡ map (λ (j : ℕ). payload_or_null (payload_of calls j)) ks
payloads_map links calls [] = refl
payloads_map links calls (k ∷ rest) = ap (λ (ps : List ℕ). payload_or_null (payload_of calls k) ∷ ps) (payloads_map links calls rest)

pub payloads_are : (s : history.Setting) (past : history.History) (table : State) (t : ℕ) → IsStateOf s past table → payloads_in (slots_on table t) ≡ payloads_of s past t
payloads_are s past table t of = ap payloads_in (slots_are s past table t of) ∙ payloads_map (link_calls past t) (set_calls past t) (slots_of (depc_of s past t))

-- every slot is set exactly where none is open
set_slots : (links calls : List SlotCall) (ks : List ℕ)
    → (are_set (map (λ (j : ℕ). record { mode = mode_of links j; payload = payload_of calls j }) ks) ≡ true) ↔ (filter (λ (k : ℕ). not (is_set calls k)) ks ≡ [])
set_slots links calls [] = (λ _. refl, λ _. refl)
set_slots links calls (k ∷ rest) = elim (is_some (payload_of calls k)) as (λ b. ((b && are_set (map (λ (j : ℕ). record { mode = mode_of links j; payload = payload_of calls j }) rest)) ≡ true)
    ↔ ((if not b then k ∷ filter (λ (k : ℕ). not (is_set calls k)) rest else filter (λ (k : ℕ). not (is_set calls k)) rest) ≡ [])) [
      | true ↦ set_slots links calls rest
      | false ↦ (λ is. cc is, λ is. cc is)
    ]

pub full_is : (s : history.Setting) (past : history.History) (table : State) (t : ℕ) → IsStateOf s past table → (are_set (slots_on table t) ≡ true) ↔ (open_slots s past t ≡ [])
full_is s past table t of = rw (slots_are s past table t of) (set_slots (link_calls past t) (set_calls past t) (slots_of (depc_of s past t)))

-- AN ENTRY. The slots of an EDT after it
sets_after : (past : history.History) (e : Entry) (t : ℕ) → set_calls (e ∷ past) t ≡ set_after e t (set_calls past t)
sets_after past (Call by home c a w) t = refl
sets_after past (Deliver m code) t = refl
sets_after past other t = refl

-- what an entry sends, and whom it resumes, does not rest on whether its EDT was made ready
pub sends_readied : (ms : List (ℕ × Mode)) (e : Entry) (f : Parts) → sends e (readied ms e f) ≡ sends e f
sends_readied ms (Call t home c a w) f = refl
sends_readied ms other f = refl

pub resumes_readied : (ms : List (ℕ × Mode)) (e : Entry) (f : Parts) → resumes e (readied ms e f) ≡ resumes e f
resumes_readied ms (Call t home c a w) f = refl
resumes_readied ms (Free t d w) f = refl
resumes_readied ms other f = refl

-- nor does a face
pub face_readied : (ms : List (ℕ × Mode)) (e : Entry) (f : Parts) (g : ℕ) → (readied ms e f).face g ≡ f.face g
face_readied ms (Acquire t d) f g = refl
face_readied ms (Wait t d) f g = refl
face_readied ms (StaleAcquire t d) f g = refl
face_readied ms (Start t) f g = refl
face_readied ms other f g = refl

-- AN ENTRY of a table: it is made ready, changed, and its slots are noted
pub ready_is : (s : history.Setting) (past : history.History) (e : Entry) (old ready : State) → IsStateOf s past old
    → state_in ready ≡ readied (plan_on old (edt_in e)) e (state_in old) → state_in ready ≡ readied_on s past e (parts_of s past)
ready_is s past e old ready of is = is
    ∙ ap (λ (ms : List (ℕ × Mode)). readied ms e (state_in old)) (plan_is s past old (edt_in e) of)
    ∙ ap (λ (f : Parts). readied_on s past e f) of.parts

pub legal_ready : (s : history.Setting) (past : history.History) (e : Entry) (old ready : State) → IsBefore s past e old → ready.limit ≡ old.limit
    → state_in ready ≡ readied (plan_on old (edt_in e)) e (state_in old) → IsLegalOn ready.limit (state_in ready) e
legal_ready s past e old ready before limit is =
    subst (λ (n : ℕ). IsLegalOn n (state_in ready) e) (sym (limit ∙ before.of.limit))
    (subst (λ (f : Parts). IsLegalOn s.limit f e) (sym (ready_is s past e old ready before.of is)) before.legal.on_parts)

pub entered : AfterLaw → (s : history.Setting) (past : history.History) (e : Entry) (old ready after new : State) → IsBefore s past e old
    → ready.limit ≡ old.limit → ready.sets ≡ old.sets → state_in ready ≡ readied (plan_on old (edt_in e)) e (state_in old)
    → (AreAllPlaced old.limit old.parts.items → AreAllPlaced ready.limit ready.parts.items)
    → after.limit ≡ ready.limit → after.sets ≡ ready.sets → IsWholeState after → state_in after ≡ changed e (state_in ready)
    → (AreAllPlaced ready.limit ready.parts.items → AreAllPlaced after.limit after.parts.items)
    → new.limit ≡ after.limit → new.parts ≡ after.parts → ((t : ℕ) → is_within after.limit t ≡ true → sets_in new t ≡ set_after e t (sets_in after t))
    → IsStateOf s (e ∷ past) new
entered after_law s past e old ready after new before limit sets state placed limit2 sets2 whole is placed2 limit3 parts3 sets3 =
    let same : after.limit ≡ s.limit = limit2 ∙ limit ∙ before.of.limit in
    let here : state_in after ≡ parts_of s (e ∷ past) =
    is ∙ ap (changed e) (ready_is s past e old ready before.of state) ∙ sym (after_law s past e before.run before.legal) in
    record {
      some = before.of.some;
      limit = limit3 ∙ same;
      whole = rw (limit3, parts3) whole;
      parts = rw (limit3, parts3) here;
      placed = rw (limit3, parts3) (placed2 (placed before.of.placed));
      sets = λ t within. sets3 t (ap (λ (n : ℕ). is_within n t) same ∙ within)
          ∙ ap (set_after e t) (rw (sets2, sets) (before.of.sets t within)) ∙ sym (sets_after past e t);
    }

-- what the body of a running EDT gets
stale_is : (m : Option Made) (i : Identity) (calls : List edt.EdtCall) (loans : List (ℕ × Kept)) → is_running (core m i calls loans) ≡ true → stale_on (core m i calls loans) ≡ edt.stale_of calls
stale_is None i calls loans is = cc is
stale_is (Some (MadeBlock n c)) i calls loans is = cc is
stale_is (Some (MadeTemplate f pc dc)) i calls loans is = cc is
stale_is (Some (MadeEvent k fl most)) i calls loans is = cc is
stale_is (Some (MadeScope outer output)) i calls loans is = cc is
stale_is (Some (MadeEdt f ps n)) i [] loans is = cc is
stale_is (Some (MadeEdt f ps n)) i (edt.Start ∷ past) loans is = refl
stale_is (Some (MadeEdt f ps n)) i (edt.Hold g ∷ past) loans is = refl
stale_is (Some (MadeEdt f ps n)) i (edt.DropHold g ∷ past) loans is = refl
stale_is (Some (MadeEdt f ps n)) i (other ∷ past) loans is = cc is

pub depv_is : (s : history.Setting) (past : history.History) (table : State) (t : ℕ) → IsStateOf s past table → is_running ((parts_of s past).core t) ≡ true
    → depv_in (stale_on (core_on table t)) (slots_on table t) ≡ depv_of s past t
depv_is s past table t of running =
    ap (λ (x : Part). depv_in (stale_on x) (slots_on table t)) (ap (λ (f : Parts). f.core t) of.parts)
    ∙ ap (λ (stale : List ℕ). depv_in stale (slots_on table t)) (stale_is (made s past t) (identity_of past t) (edt_calls s past t) (loans_of s past t) running)
    ∙ ap (depv_in (edt.stale_of (edt_calls s past t))) (slots_are s past table t of)

-- what an EDT acquires next
pub next_is : (s : history.Setting) (past : history.History) (table : State) (t : ℕ) → IsStateOf s past table
    → next_in (core_progress (on_core (core_on table t) (with_phase (made_ready (plan_on table t))))) ≡ next_on (ready_at t (plan_of s past t) (parts_of s past)) t
next_is s past table t of =
    ap (λ (ms : List (ℕ × Mode)). next_in (core_progress (on_core (core_on table t) (with_phase (made_ready ms))))) (plan_is s past table t of)
    ∙ ap (λ (f : Parts). next_in (core_progress (on_core (f.core t) (with_phase (made_ready (plan_of s past t)))))) of.parts
    ∙ sym (rw (same t) refl)

-- THE CORE of an EDT that is made ready in its place
as_core_step : (x : Part) (step : Core → Core) → as_core (on_core x step) ≡ on_core (as_core x) step
as_core_step (part.Core c) step = refl
as_core_step other step = refl

kept_step : (limit n : ℕ) (x : Part) (step : Core → Core) → x ≡ kept_as limit n x → on_core x step ≡ kept_as limit n (on_core x step)
kept_step limit n (part.Core c) step is = elim (is_within limit n) as (λ b. part.Core c ≡ (if b then part.Vacant else if is_within limit (n - limit) then part.Core c else part.Vacant)
    → part.Core (step c) ≡ (if b then part.Vacant else if is_within limit (n - limit) then part.Core (step c) else part.Vacant)) [
      | true ↦ λ is. cc is
      | false ↦ elim (is_within limit (n - limit)) as (λ b. part.Core c ≡ (if b then part.Core c else part.Vacant) → part.Core (step c) ≡ (if b then part.Core (step c) else part.Vacant)) [
        | true ↦ λ _. refl
        | false ↦ λ is. cc is
      ]
    ] is
kept_step limit n other step is = is

pub twice_set : (ps : List Part) (m n : ℕ) (x y : Part) → m < length ps → part_at (slice_set (slice_set ps m x) m y) n ≡ (if m == n then y else part_at ps n)
twice_set ps m n x y below = grind (arith, common_steps)

pub ready_state : (limit : ℕ) (ps later : List Part) (t : ℕ) (ms : List (ℕ × Mode)) → is_within limit t ≡ true
    → ((n : ℕ) → part_at later n ≡ (if (limit + t) == n then on_core (part_at ps (limit + t)) (with_phase (made_ready ms)) else part_at ps n))
    → all_parts limit later ≡ ready_at t ms (all_parts limit ps)
ready_state limit ps later t ms within set =
    core_set limit (part_at ps) (part_at later) t (on_core (part_at ps (limit + t)) (with_phase (made_ready ms))) set within
    ∙ ap (with_core (all_parts limit ps) t) (as_core_step (part_at ps (limit + t)) (with_phase (made_ready ms)) ∙ rw within refl)

-- the core of one that is being filled is in its place
pub filling_within : (limit : ℕ) (ps : List Part) (t : ℕ) → is_filling_on (core_at limit ps t) ≡ true → is_within limit t ≡ true
filling_within limit ps t is = elim (is_within limit t) as (λ b. is_filling_on (if b then as_core (part_at ps (limit + t)) else part.Vacant) ≡ true → b ≡ true) [
  | true ↦ λ _. refl
  | false ↦ λ is. cc is
] is

there : (ps : List Part) (n : ℕ) → is_filling_on (as_core (part_at ps n)) ≡ true → n < length ps
there [] n is = cc is
there (p ∷ rest) zero is = omega arith
there (p ∷ rest) (suc n) is = let below : n < length rest = there rest n is in omega (arith, below)

pub filling_below : (limit : ℕ) (ps : List Part) (t : ℕ) → is_filling_on (core_at limit ps t) ≡ true → limit + t < length ps
filling_below limit ps t is =
    let within : is_within limit t ≡ true = filling_within limit ps t is in
    there ps (limit + t) (rw within at is)

-- one that is not filled any more is ready already
ready_phase : (e : Edt) (ms : List (ℕ × Mode)) → is_filling e ≡ false → made_ready ms e ≡ e
ready_phase (phase.Filling i) ms is = cc is
ready_phase other ms is = refl

ready_core : (x : Part) (ms : List (ℕ × Mode)) → is_filling_on x ≡ false → on_core x (with_phase (made_ready ms)) ≡ x
ready_core (part.Core c) ms is = ap (λ (e : Edt). part.Core (record { function = c.function; params = c.params; edt = e; loans = c.loans })) (ready_phase c.edt ms is)
ready_core other ms is = refl

pub ready_before : (f : Parts) (t : ℕ) (ms : List (ℕ × Mode)) → is_filling_on (f.core t) ≡ false → f ≡ ready_at t ms f
ready_before f t ms is = λ i. record {
  face = f.face;
  core = λ u. (elim (t == u) as (λ b. (t == u) ≡ b → f.core u ≡ (if b then on_core (f.core t) (with_phase (made_ready ms)) else f.core u)) [
    | true ↦ λ same. ap f.core (sym (eqb-true t u same)) ∙ sym (ready_core (f.core t) ms is)
    | false ↦ λ _. refl
  ] refl) i;
}

pub ready_placed : (limit : ℕ) (ps later : List Part) (t : ℕ) (ms : List (ℕ × Mode))
    → ((n : ℕ) → part_at later n ≡ (if (limit + t) == n then on_core (part_at ps (limit + t)) (with_phase (made_ready ms)) else part_at ps n))
    → AreAllPlaced limit ps → AreAllPlaced limit later
ready_placed limit ps later t ms set are =
    kept_set limit (part_at ps) (part_at later) (limit + t) (on_core (part_at ps (limit + t)) (with_phase (made_ready ms))) set
    (kept_step limit (limit + t) (part_at ps (limit + t)) (with_phase (made_ready ms)) (are (limit + t) ∙ place_is limit (part_at ps) (limit + t))) are

-- THE OPENING
flipped : (t : ℕ) → (2 == t) ≡ (t == 2)
flipped t = grind (arith, common_steps)

pub opened_is : (s : history.Setting) (ps : List (ℕ × Part)) (before after new : State) → 2 ≤ s.limit → IsWholeState after → before.limit ≡ s.limit → ((n : ℕ) → part_at before.parts.items n ≡ part.Vacant)
    → ((t : ℕ) → sets_in before t ≡ []) → parts_in s.limit ps ≡ parts_of s [] → ArePlaced s.limit ps
    → after.limit ≡ before.limit → after.sets ≡ before.sets → ((n : ℕ) → part_at after.parts.items n ≡ (if has ps n then look ps n else part_at before.parts.items n))
    → new.limit ≡ after.limit → new.parts ≡ after.parts → ((t : ℕ) → is_within after.limit t ≡ true → sets_in new t ≡ set_step (what.Set 2 0 1) t (sets_in after t))
    → IsStateOf s [] new
opened_is s ps before after new enough whole limit vacant none parts placed limit2 sets2 given limit3 parts3 sets3 =
    let same : after.limit ≡ s.limit = limit2 ∙ limit in
    let at : (n : ℕ) → part_at after.parts.items n ≡ look ps n = opened_at ps before.parts.items after.parts.items vacant given in
    record {
      some = enough;
      limit = limit3 ∙ same;
      whole = rw (limit3, parts3) whole;
      parts = rw (limit3, parts3, same) (same_parts s.limit (part_at after.parts.items) (look ps) at ∙ parts);
      placed = rw (limit3, parts3, same) (same_kept s.limit (part_at after.parts.items) (look ps) at placed);
      sets = λ t within.
          let empty : sets_in after t ≡ [] = rw sets2 (none t) in
          sets3 t (ap (λ (n : ℕ). is_within n t) same ∙ within)
          ∙ rw (empty, flipped t) refl;
    }

pub three_small : (limit n : ℕ) → 2 ≤ limit → is_in n (1 ∷ 2 ∷ (limit + 2) ∷ []) ≡ true → n ≤ limit + limit
three_small limit n enough is = grind (arith, common_steps)

-- one slot more
pub filled_more : (slots : List Slot) (calls : List SlotCall) (k : ℕ) → k < length slots
    → filled k (drop k slots) calls ≡ (record { mode = (slot_at slots k).mode; payload = payload_of calls k }) ∷ filled (k + 1) (drop (k + 1) slots) calls
filled_more slots calls k below =
    let next : drop k slots ≡ slot_at slots k ∷ drop (k + 1) slots = grind (arith, common_steps) in
    rw next refl

pub asks_more : (xs : List (ℕ × Mode)) (slots : List Slot) (calls : List SlotCall) (k : ℕ) → k < length slots
    → (xs ++ asks_of (payload_of calls k) (slot_at slots k).mode) ++ asks_in (filled (k + 1) (drop (k + 1) slots) calls) ≡ xs ++ asks_in (filled k (drop k slots) calls)
asks_more xs slots calls k below =
    append_assoc xs (asks_of (payload_of calls k) (slot_at slots k).mode) (asks_in (filled (k + 1) (drop (k + 1) slots) calls))
    ∙ sym (ap (λ (rest : List Slot). xs ++ asks_in rest) (filled_more slots calls k below))

pub set_more : (slots : List Slot) (calls : List SlotCall) (k : ℕ) → k < length slots → is_some (payload_of calls k) ≡ true
    → are_set (filled k (drop k slots) calls) ≡ are_set (filled (k + 1) (drop (k + 1) slots) calls)
set_more slots calls k below is = ap are_set (filled_more slots calls k below) ∙ rw is refl

pub set_not : (slots : List Slot) (calls : List SlotCall) (k : ℕ) → k < length slots → is_some (payload_of calls k) ≡ false → are_set (filled k (drop k slots) calls) ≡ false
set_not slots calls k below is = ap are_set (filled_more slots calls k below) ∙ rw is refl

payload_value : (o : Option ℕ) → unwrap_or o 0 ≡ payload_or_null o
payload_value None = refl
payload_value (Some p) = refl

pub payloads_more : (xs : List ℕ) (slots : List Slot) (calls : List SlotCall) (k : ℕ) → k < length slots
    → (xs ++ unwrap_or (payload_of calls k) 0 ∷ []) ++ payloads_in (filled (k + 1) (drop (k + 1) slots) calls) ≡ xs ++ payloads_in (filled k (drop k slots) calls)
payloads_more xs slots calls k below =
    append_assoc xs (unwrap_or (payload_of calls k) 0 ∷ []) (payloads_in (filled (k + 1) (drop (k + 1) slots) calls))
    ∙ ap (λ (v : ℕ). xs ++ v ∷ payloads_in (filled (k + 1) (drop (k + 1) slots) calls)) (payload_value (payload_of calls k))
    ∙ sym (ap (λ (rest : List Slot). xs ++ payloads_in rest) (filled_more slots calls k below))

pub values_more : (stale xs : List ℕ) (slots : List Slot) (calls : List SlotCall) (k : ℕ) → k < length slots
    → (xs ++ value_of_slot stale (record { mode = (slot_at slots k).mode; payload = payload_of calls k }) ∷ []) ++ depv_in stale (filled (k + 1) (drop (k + 1) slots) calls)
    ≡ xs ++ depv_in stale (filled k (drop k slots) calls)
values_more stale xs slots calls k below =
    append_assoc xs (value_of_slot stale (record { mode = (slot_at slots k).mode; payload = payload_of calls k }) ∷ []) (depv_in stale (filled (k + 1) (drop (k + 1) slots) calls))
    ∙ sym (ap (λ (rest : List Slot). xs ++ depv_in stale rest) (filled_more slots calls k below))
