-- The parts after a legal entry are what the entry makes of the parts before it.
use Rattle.std.proofs.Common.{not, ◌≡◌, ℕ, ◌/◌, List, [], ◌∷◌, Bool, true, false, Option, Some, None, is_some, ◌++◌, ◌+◌, ◌-◌, ◌<◌, ◌≤◌, drop, slice_get, arith, ◌==◌, ◌&&◌, ◌||◌, nat_lt, if◌then◌else◌, refl, sym, ◌∙◌, ap, subst}
use Rattle.std.proofs.lemmas.Bool.{eqb-true, or_parts}
use Rattle.ocr_guid.specs.Target.{EventCall, Satisfaction, Link, Destruction, refusal_of, is_unwanted}
use Rattle.ocr_guid.specs.declared.target.Target.{Target as Reached}
use Rattle.ocr_machine_history.specs.declared.entry.What.{What}
use Rattle.ocr_machine_history.specs.declared.entry.What.TheVariants as what
use Rattle.ocr_event_any.specs.AnyEvent as event
use Rattle.ocr_event_any.proofs.Laws as event_laws
use Rattle.ocr_event_any.specs.declared.AnyEvent.{AnyEvent}
use Rattle.ocr_event_any.specs.declared.AnyEvent.TheVariants as any
use Rattle.ocr_event.specs.Event as plain
use Rattle.ocr_channel_event.specs.Channel as channel
use Rattle.ocr_machine_parts.proofs.Fresh.{some_named, number_named, named_fresh, new_fresh, made_with, made_new, made_old}
use Rattle.ocr_machine_parts.proofs.Within.{IsKeeping, keeping_law}
pub use Rattle.ocr_machine_parts.proofs.Within.{done_is}
use Rattle.ocr_base.proofs.Booleans.{eqb_flips}
use Rattle.std.proofs.lemmas.Grind.{common_steps}
use Rattle.ocr_guid.specs.declared.Code.{Code}
use Rattle.ocr_guid.specs.declared.Code.TheVariants as code
use Rattle.ocr_acquire.specs.declared.Mode.{Mode}
use Rattle.ocr_acquire.specs.declared.Mode.TheVariants as mode
use Rattle.ocr_slots.specs.Slots as slot
use Rattle.ocr_datablock.specs.Block as block
use Rattle.ocr_datablock.specs.Lent.{loan_of}
use Rattle.ocr_edt.specs.declared.Edt.{Edt}
use Rattle.ocr_edt.specs.Edt as edt
use Rattle.ocr_edt.specs.Phases.{first_of}
use Rattle.ocr_body_meaning.specs.declared.call.Call as body
use Rattle.ocr_body_meaning.specs.declared.call.Call.TheVariants as call
use Rattle.ocr_body_meaning.specs.declared.call.Answer.{Answer}
use Rattle.ocr_machine_history.specs.declared.entry.Entry.{Entry}
use Rattle.ocr_machine_history.specs.declared.entry.Entry.TheVariants.{Call, Deliver, Acquire, Wait, StaleAcquire, Start, Free, End}
use Rattle.ocr_machine_parts.specs.declared.part.Part.{Part}
use Rattle.ocr_machine_parts.specs.declared.part.Part.TheVariants as part
use Rattle.ocr_machine_history.specs.History.{History, Setting, own}
use Rattle.ocr_machine_history.specs.declared.objects.TheConstants.{OUTPUT_KIND, OUTPUT_FLAGS}
use Rattle.ocr_machine_history.specs.Made.{Made, MadeBlock, MadeTemplate, MadeEdt, MadeEvent, MadeScope, made, edt_from, names_new, is_new, size_in, creator_in, is_edt_made}
use Rattle.ocr_machine_parts.specs.Calls.{is_object, slot_target, target_of, link_if, dep_targets, event_step, deliver_step, join_step, leave_step, dep_links, first_links, link_calls, block_calls, edt_calls, loans_of, contents_of, with_plan, awake, plan_of, next_member, mode_next, mode_named, ask_calls, lend_calls, end_calls, kept_now, doom_calls, event_calls, scope_calls}
use Rattle.ocr_machine_parts.specs.Parts.{Parts, identity_of, new_identity, face, core, parts_of}
use Rattle.ocr_machine_parts.specs.Codes.{Sort, Source, Target, ATemplate, code_or, slot_most, satisfy_code, brings_block, wanted_source, wanted_sources, link_code, dependence_code, code_of, is_any, is_its_own, is_missing, is_of_other_kind, is_refused_as_stale, number_code, wanted}
use Rattle.ocr_machine_parts.specs.Effects.{deps_linked, brought, joined, new_scope, new_output, waiting_edt, started_edt, holding_edt, ended_edt, granted, hold_ended, new_face, new_core, dropping_core, acquiring_core, ended, called, changed, creating_core, awoken, doomed_template, stale_edt}
use Rattle.ocr_machine_parts.specs.Progress.{with_face, linked_if, with_phase, made_ready, next_on, ready_at, readied_on}
use Rattle.ocr_machine_parts.specs.LegalOn.{IsSatisfiable, delivery_code, HasMember, IsDeliverOn, IsTaken, IsEnding, IsFresh, IsNamed, IsJoinable, IsCallOn, IsLegalOn, IsDooming}
use Rattle.ocr_machine_parts.specs.Legal.{IsRun}
use Rattle.ocr_machine_parts.specs.Laws.{AfterLaw, kept_lent}
use Rattle.ocr_machine_parts.proofs.Choices.{at_same, twice}
use Rattle.ocr_machine_parts.proofs.Phases.{IsFormed, formed, formed_ready, next_is, edt_acquired, edt_stale, edt_waited, edt_started, edt_held, edt_dropped, edt_ended}
use Rattle.ocr_machine_parts.proofs.Blocks.{block_ended, block_doomed, template_doomed, event_destroyed, block_stored, block_granted, block_asked, size_is, words_are, edt_linked}
use Rattle.ocr_machine_parts.specs.declared.part.Core.{Core}
use Rattle.ocr_machine_parts.proofs.Lent.{lent_law, ready_core}
use Rattle.ocr_datablock.specs.Steps.{after_ask, after_release, after_store, after_doom}
use Rattle.ocr_body_meaning.specs.Holds.{is_done}
use Rattle.ocr_machine_parts.specs.Kinds.{is_vacant, with_scope, home_on, is_edt_face, IsBlock, core_progress, is_acquiring, is_running, loan_on, mode_on, next_in, on_core, size_on, with_block, with_links, words_on, is_template, with_template, is_event, with_event, is_destroyed}
use Rattle.ocr_machine_parts.specs.Loans.{kept_created, kept_in, kept_of, loan_in, with_kept, without_kept}
use Rattle.ocr_machine_parts.specs.declared.loans.Kept.{Kept}
use Rattle.ocr_slots.specs.Steps.{after_link}
use Rattle.ocr_finish.specs.Scope.{ScopeCall, Joining, Parting}
use Rattle.ocr_finish.specs.Scope as scope
use Rattle.ocr_finish.proofs.Laws.{join_law, leave_law}
use Rattle.ocr_edt.specs.declared.Identity.{Identity}

-- CHOICES OF LISTS
chosen_face : (b : Bool) (m n : Option Made) (first links : List slot.SlotCall) (blocks : List block.BlockCall) (events : List EventCall) (scopes : List ScopeCall)
    → face (if b then m else n) (if b then first else links) (if b then [] else blocks) (if b then [] else events) (if b then [] else scopes) ≡ (if b then face m first [] [] [] else face n links blocks events scopes)
chosen_face true m n first links blocks events scopes = refl
chosen_face false m n first links blocks events scopes = refl

chosen_core : (b : Bool) (m n : Option Made) (i : Identity) (calls : List edt.EdtCall) (loans : List (ℕ × Kept))
    → core (if b then m else n) i (if b then [] else calls) (if b then [] else loans) ≡ (if b then core m i [] [] else core n i calls loans)
chosen_core true m n i calls loans = refl
chosen_core false m n i calls loans = refl

blocks_if : (b : Bool) (m : Option Made) (links : List slot.SlotCall) (x y : List block.BlockCall) (events : List EventCall) (scopes : List ScopeCall) → face m links (if b then x else y) events scopes ≡ (if b then face m links x events scopes else face m links y events scopes)
blocks_if true m links x y events scopes = refl
blocks_if false m links x y events scopes = refl

links_if : (b : Bool) (m : Option Made) (x y : List slot.SlotCall) (blocks : List block.BlockCall) (events : List EventCall) (scopes : List ScopeCall) → face m (if b then x else y) blocks events scopes ≡ (if b then face m x blocks events scopes else face m y blocks events scopes)
links_if true m x y blocks events scopes = refl
links_if false m x y blocks events scopes = refl

core_if : (b : Bool) (m : Option Made) (i : Identity) (x y : List edt.EdtCall) (p q : List (ℕ × Kept)) → core m i (if b then x else y) (if b then p else q) ≡ (if b then core m i x p else core m i y q)
core_if true m i x y p q = refl
core_if false m i x y p q = refl

calls_if : (b : Bool) (m : Option Made) (i : Identity) (x y : List edt.EdtCall) (p : List (ℕ × Kept)) → core m i (if b then x else y) p ≡ (if b then core m i x p else core m i y p)
calls_if true m i x y p = refl
calls_if false m i x y p = refl

-- CREATIONS
edt_face : (m : Option Made) (ps : List ℕ) (dc : ℕ) (ds : List ℕ) (links : List slot.SlotCall) (blocks : List block.BlockCall) (events : List EventCall) (scopes : List ScopeCall) → face (edt_from m ps dc) (dep_links 0 ds []) [] [] [] ≡ new_face (face m links blocks events scopes) dc ds
edt_face (Some (MadeTemplate f pc own)) ps dc ds links blocks events scopes = refl
edt_face other ps dc ds links blocks events scopes = refl

edt_core : (m : Option Made) (i : Identity) (ps : List ℕ) (dc : ℕ) (links : List slot.SlotCall) (blocks : List block.BlockCall) (events : List EventCall) (scopes : List ScopeCall) → core (edt_from m ps dc) i [] [] ≡ new_core (face m links blocks events scopes) i ps
edt_core (Some (MadeTemplate f pc own)) i ps dc links blocks events scopes = refl
edt_core other i ps dc links blocks events scopes = refl

no_core : (m : Option Made) (i : Identity) (links : List slot.SlotCall) (blocks : List block.BlockCall) (events : List EventCall) (scopes : List ScopeCall) (calls : List edt.EdtCall) (loans : List (ℕ × Kept)) → face m links blocks events scopes ≡ part.Vacant → core m i calls loans ≡ part.Vacant
no_core (Some (MadeEdt f ps n)) i links blocks events scopes calls loans is = cc
no_core other i links blocks events scopes calls loans is = refl

fresh_core : (s : Setting) (past : History) (g : ℕ) → IsFresh s.limit (parts_of s past) g → (parts_of s past).core g ≡ part.Vacant
fresh_core s past g fresh = no_core (made s past g) (identity_of past g) (link_calls past g) (block_calls s past g) (event_calls s past g) (scope_calls past g) (edt_calls s past g) (loans_of s past g) fresh.vacant

-- an accepted call is refused by no object, and an accepted dependence links its slot
pub last_if : (b : Bool) (c rest : Code) → (c ≡ code.Done → ⊥) → (if b then c else rest) ≡ code.Done → rest ≡ code.Done
last_if true c rest wrong is = absurd (wrong is)
last_if false c rest wrong is = is

pub accepted : (t : ℕ) (f : ℕ → Part) (c : body.Call) → code_of t f c ≡ code.Done → number_code t f c ≡ code.Done
accepted t f c is =
    last_if (is_any (is_refused_as_stale t) f (wanted c)) code.Stale _ (λ wrong. cc wrong)
    (last_if (is_its_own c || is_any is_of_other_kind f (wanted c)) code.Einval _ (λ wrong. cc wrong)
    (last_if (is_any is_missing f (wanted c)) code.Enoent _ (λ wrong. cc wrong) is))

first_off : (b : Bool) (c rest : Code) → (c ≡ code.Done → ⊥) → (if b then c else rest) ≡ code.Done → b ≡ false
first_off true c rest wrong is = absurd (wrong is)
first_off false c rest wrong is = refl

-- what it wants is of its kind, and not stale
pub of_kind : (t : ℕ) (f : ℕ → Part) (c : body.Call) → code_of t f c ≡ code.Done → (is_its_own c || is_any is_of_other_kind f (wanted c)) ≡ false
of_kind t f c is =
    first_off (is_its_own c || is_any is_of_other_kind f (wanted c)) code.Einval _ (λ wrong. cc wrong)
    (last_if (is_any is_missing f (wanted c)) code.Enoent _ (λ wrong. cc wrong) is)

pub not_stale : (t : ℕ) (f : ℕ → Part) (c : body.Call) → code_of t f c ≡ code.Done → is_any (is_refused_as_stale t) f (wanted c) ≡ false
not_stale t f c is =
    first_off (is_any (is_refused_as_stale t) f (wanted c)) code.Stale _ (λ wrong. cc wrong)
    (last_if (is_its_own c || is_any is_of_other_kind f (wanted c)) code.Einval _ (λ wrong. cc wrong)
    (last_if (is_any is_missing f (wanted c)) code.Enoent _ (λ wrong. cc wrong) is))

-- and there
pub not_missing : (t : ℕ) (f : ℕ → Part) (c : body.Call) → code_of t f c ≡ code.Done → is_any is_missing f (wanted c) ≡ false
not_missing t f c is = first_off (is_any is_missing f (wanted c)) code.Enoent _ (λ wrong. cc wrong) is

pub not_other : (b : Bool) → (not b || false) ≡ false → b ≡ true
not_other true is = refl
not_other false is = cc is

pub no_other : (b : Bool) → (b || false) ≡ false → b ≡ false
no_other true is = cc is
no_other false is = refl

-- an accepted dependence of an EDT links a slot that was free
pub linkable : (brings : Bool) (target : Part) (i m : ℕ) → dependence_code brings target i m ≡ code.Done → is_edt_face target ≡ true → link_code target i ≡ code.Done
linkable brings (part.Edt slots) i m is there = last_if (nat_lt 4 m) code.Einval _ (λ wrong. cc wrong) is
linkable brings other i m is there = cc there

-- THE LOAN that comes back is the one that the block gave out
loan_is : (m : Option Made) (i : Identity) (d : ℕ) (calls : List edt.EdtCall) (loans : List (ℕ × Kept)) (k : Kept) → is_edt_made m ≡ true → kept_in d loans ≡ Some k → loan_on (core m i calls loans) d ≡ k.loan
loan_is (Some (MadeEdt f ps n)) i d calls loans k is kept = ap loan_in kept
loan_is other i d calls loans k is kept = cc

lent_to : (s : Setting) (past : History) (t d : ℕ) → IsRun s past → block.borrower_of (block_calls s past d) ≡ Some t → loan_on ((parts_of s past).core t) d ≡ Some (loan_of mode.Ew (contents_of s past d) [])
lent_to s past t d run is =
    let fit = lent_law s past run d t is in
    loan_is (made s past t) (identity_of past t) d (edt_calls s past t) (loans_of s past t) (kept_lent s past d) fit.1 fit.0

-- FACES
gone_face : (s : Setting) (past : History) (d g : ℕ) (ends : List block.BlockCall → List block.BlockCall) (step : block.State → block.State)
    → face (made s past d) (link_calls past d) (ends (block_calls s past d)) (event_calls s past d) (scope_calls past d) ≡ with_block ((parts_of s past).face d) step
    → face (made s past g) (link_calls past g) (if d == g then ends (block_calls s past g) else block_calls s past g) (event_calls s past g) (scope_calls past g) ≡ (if d == g then with_block ((parts_of s past).face d) step else (parts_of s past).face g)
gone_face s past d g ends step is =
    blocks_if (d == g) (made s past g) (link_calls past g) (ends (block_calls s past g)) (block_calls s past g) (event_calls s past g) (scope_calls past g)
    ∙ at_same (λ k. face (made s past k) (link_calls past k) (ends (block_calls s past k)) (event_calls s past k) (scope_calls past k)) (λ k. with_block ((parts_of s past).face k) step) d g ((parts_of s past).face g) is

ended_face : (s : Setting) (past : History) (t d : ℕ) (w : List (ℕ × ℕ)) (g : ℕ) → IsRun s past → IsEnding (parts_of s past) t d
    → face (made s past g) (link_calls past g) (if d == g then end_calls t w (block_calls s past g) else block_calls s past g) (event_calls s past g) (scope_calls past g) ≡ (ended after_release (parts_of s past) t d w).face g
ended_face s past t d w g run held =
    let loan = loan_on ((parts_of s past).core t) d in
    gone_face s past d g (end_calls t w) (hold_ended after_release t w loan)
    (block_ended (made s past d) (link_calls past d) (block_calls s past d) (event_calls s past d) (scope_calls past d) t w (mode_on ((parts_of s past).core t) d) loan (lent_to s past t d run) held)

destroyed_face : (s : Setting) (past : History) (t d : ℕ) (w : List (ℕ × ℕ)) (g : ℕ) → IsRun s past → IsDooming (parts_of s past) t d
    → face (made s past g) (link_calls past g) (if d == g then doom_calls t w (block_calls s past g) else block_calls s past g) (event_calls s past g) (scope_calls past g) ≡ (ended after_doom (parts_of s past) t d w).face g
destroyed_face s past t d w g run held =
    let loan = loan_on ((parts_of s past).core t) d in
    gone_face s past d g (doom_calls t w) (hold_ended after_doom t w loan)
    (block_doomed (made s past d) (link_calls past d) (block_calls s past d) (event_calls s past d) (scope_calls past d) t w (mode_on ((parts_of s past).core t) d) loan (lent_to s past t d run) held)

-- an object is destroyed by a call
events_if : (b : Bool) (m : Option Made) (links : List slot.SlotCall) (blocks : List block.BlockCall) (x y : List EventCall) (scopes : List ScopeCall) → face m links blocks (if b then x else y) scopes ≡ (if b then face m links blocks x scopes else face m links blocks y scopes)
events_if true m links blocks x y scopes = refl
events_if false m links blocks x y scopes = refl

events_at : (s : Setting) (past : History) (x g : ℕ) (adds : List EventCall → List EventCall) (step : Part → Part)
    → face (made s past x) (link_calls past x) (block_calls s past x) (adds (event_calls s past x)) (scope_calls past x) ≡ step ((parts_of s past).face x)
    → face (made s past g) (link_calls past g) (block_calls s past g) (if x == g then adds (event_calls s past g) else event_calls s past g) (scope_calls past g) ≡ (if x == g then step ((parts_of s past).face x) else (parts_of s past).face g)
events_at s past x g adds step is =
    events_if (x == g) (made s past g) (link_calls past g) (block_calls s past g) (adds (event_calls s past g)) (event_calls s past g) (scope_calls past g)
    ∙ at_same (λ k. face (made s past k) (link_calls past k) (block_calls s past k) (adds (event_calls s past k)) (scope_calls past k)) (λ k. step ((parts_of s past).face k)) x g ((parts_of s past).face g) is

-- what a destruction wants is of its kind and live
live_one : (x : Part) (b : Bool) → (is_destroyed x || b) ≡ false → is_destroyed x ≡ false
live_one x b is = (or_parts (is_destroyed x) b is).0

-- A LINK of an event as a source; other objects keep none
linked_face : (m : Option Made) (links : List slot.SlotCall) (blocks : List block.BlockCall) (events : List EventCall) (scopes : List ScopeCall) (t : Reached) → is_destroyed (face m links blocks events scopes) ≡ false
    → face m links blocks (Link t ∷ events) scopes ≡ with_event (face m links blocks events scopes) (λ st. event.after_link st t)
linked_face (Some (MadeEvent k fl most)) links blocks events scopes t live = ap part.Event (event_laws.link_law k fl most events t live)
linked_face other links blocks events scopes t live = refl

-- a slot of the target is linked, where the target is an EDT
slot_face : (m : Option Made) (links : List slot.SlotCall) (blocks : List block.BlockCall) (events : List EventCall) (scopes : List ScopeCall) (i : ℕ) (k : Mode) → (is_edt_face (face m links blocks events scopes) ≡ true → link_code (face m links blocks events scopes) i ≡ code.Done)
    → face m (slot.Linking i k ∷ links) blocks events scopes ≡ with_links (face m links blocks events scopes) (λ slots. after_link slots i k)
slot_face (Some (MadeEdt f ps n)) links blocks events scopes i k fits = edt_linked (Some (MadeEdt f ps n)) links blocks events scopes i k (fits refl)
slot_face other links blocks events scopes i k fits = refl

pub edt_told : (m : Option Made) (links : List slot.SlotCall) (blocks : List block.BlockCall) (events : List EventCall) (scopes : List ScopeCall) → is_edt_made m ≡ is_edt_face (face m links blocks events scopes)
edt_told (Some (MadeEdt f ps n)) links blocks events scopes = refl
edt_told other links blocks events scopes = refl

source_live : (t from x : ℕ) (f : ℕ → Part) → is_any (is_refused_as_stale t) f ((x, Target) ∷ wanted_source from) ≡ false → (from == 0) ≡ false → is_destroyed (f from) ≡ false
source_live t from x f off some = (or_parts (is_destroyed (f from)) false (rw some at (or_parts (is_destroyed (f x)) (is_any (is_refused_as_stale t) f (wanted_source from)) off).1)).0

depended_face : (s : Setting) (past : History) (from x i m g : ℕ) → (from == x) ≡ false → ((from == 0) ≡ false → is_destroyed ((parts_of s past).face from) ≡ false)
    → (is_edt_face ((parts_of s past).face x) ≡ true → link_code ((parts_of s past).face x) i ≡ code.Done)
    → face (made s past g) (if x == g then slot.Linking i (mode_named m) ∷ link_calls past g else link_calls past g) (block_calls s past g) (link_if (not (from == 0) && (from == g)) (target_of (is_edt_made (made s past x)) x i) (event_calls s past g)) (scope_calls past g)
    ≡ (linked_if (not (from == 0)) from (target_of (is_edt_face ((parts_of s past).face x)) x i) (with_face (parts_of s past) x (with_links ((parts_of s past).face x) (λ slots. after_link slots i (mode_named m))))).face g
depended_face s past from x i m g apart live fits =
    let f : ℕ → Part = (parts_of s past).face in
    let one : Reached = target_of (is_edt_made (made s past x)) x i in
    let two : Reached = target_of (is_edt_face (f x)) x i in
    let same_target : one ≡ two = ap (λ (b : Bool). target_of b x i) (edt_told (made s past x) (link_calls past x) (block_calls s past x) (event_calls s past x) (scope_calls past x)) in
    let linked : Part = with_links (f x) (λ slots. after_link slots i (mode_named m)) in
    let alone : face (made s past g) (if x == g then slot.Linking i (mode_named m) ∷ link_calls past g else link_calls past g) (block_calls s past g) (event_calls s past g) (scope_calls past g) ≡ (if x == g then linked else f g) =
    links_if (x == g) (made s past g) (slot.Linking i (mode_named m) ∷ link_calls past g) (link_calls past g) (block_calls s past g) (event_calls s past g) (scope_calls past g)
    ∙ at_same (λ j. face (made s past j) (slot.Linking i (mode_named m) ∷ link_calls past j) (block_calls s past j) (event_calls s past j) (scope_calls past j)) (λ j. with_links (f j) (λ slots. after_link slots i (mode_named m))) x g (f g)
    (slot_face (made s past x) (link_calls past x) (block_calls s past x) (event_calls s past x) (scope_calls past x) i (mode_named m) fits) in
    elim (from == 0) as (λ b. ((b ≡ false) → is_destroyed (f from) ≡ false) → face (made s past g) (if x == g then slot.Linking i (mode_named m) ∷ link_calls past g else link_calls past g) (block_calls s past g) (link_if (not b && (from == g)) one (event_calls s past g)) (scope_calls past g)
    ≡ (linked_if (not b) from two (with_face (parts_of s past) x linked)).face g) [
      | true ↦ λ _. alone
      | false ↦ λ live. elim (from == g) as (λ b. (from == g) ≡ b → face (made s past g) (if x == g then slot.Linking i (mode_named m) ∷ link_calls past g else link_calls past g) (block_calls s past g) (link_if b one (event_calls s past g)) (scope_calls past g)
          ≡ (if b then with_event (if x == from then linked else f from) (λ st. event.after_link st two) else if x == g then linked else f g)) [
            | true ↦ λ here.
                subst (λ (n : ℕ). face (made s past n) (if x == n then slot.Linking i (mode_named m) ∷ link_calls past n else link_calls past n) (block_calls s past n) (Link one ∷ event_calls s past n) (scope_calls past n) ≡ with_event (if x == from then linked else f from) (λ st. event.after_link st two)) (eqb-true from g here)
                (let off : (x == from) ≡ false = eqb_flips x from ∙ apart in
                rw off (linked_face (made s past from) (link_calls past from) (block_calls s past from) (event_calls s past from) (scope_calls past from) one (live refl) ∙ ap (λ (t : Reached). with_event (f from) (λ st. event.after_link st t)) same_target))
            | false ↦ λ _. alone
          ] refl
    ] live

-- A SATISFACTION that is not refused
abbrev Fits : Part → ℕ → ℕ → Type 0
Fits (part.Event st) slot p = (slot ≤ 1) × (event.refusal st p ≡ None)
Fits other slot p = ⊥

event_satisfied : (m : Option Made) (links : List slot.SlotCall) (blocks : List block.BlockCall) (events : List EventCall) (scopes : List ScopeCall) (i p : ℕ) → IsKeeping m → Fits (face m links blocks events scopes) i p
    → face m links blocks (Satisfaction i p ∷ events) scopes ≡ with_event (face m links blocks events scopes) (λ st. event.after_satisfy st i p)
event_satisfied (Some (MadeEvent k fl most)) links blocks events scopes i p keeps fits = ap part.Event (event_laws.satisfy_law k fl most events i p keeps fits.0 fits.1)
event_satisfied other links blocks events scopes i p keeps fits = absurd fits

satisfied_face : (s : Setting) (past : History) (e i p g : ℕ) → IsRun s past → Fits ((parts_of s past).face e) i p
    → face (made s past g) (link_calls past g) (block_calls s past g) (if e == g then Satisfaction i p ∷ event_calls s past g else event_calls s past g) (scope_calls past g) ≡ (if e == g then with_event ((parts_of s past).face e) (λ st. event.after_satisfy st i p) else (parts_of s past).face g)
satisfied_face s past e i p g run fits =
    events_at s past e g (λ calls. Satisfaction i p ∷ calls) (λ y. with_event y (λ st. event.after_satisfy st i p))
    (event_satisfied (made s past e) (link_calls past e) (block_calls s past e) (event_calls s past e) (scope_calls past e) i p (keeping_law s past e run) fits)

no_code : (destroyed takes kind : Bool) (p : ℕ) (c : Code) → (c ≡ code.Done → ⊥) → code_or (refusal_of destroyed takes p (if kind then Some c else None)) ≡ code.Done → refusal_of destroyed takes p (if kind then Some c else None) ≡ None
no_code true takes kind p c wrong is = cc is
no_code false takes kind p c wrong is = elim (is_unwanted takes p) as (λ b. code_or (if b then Some code.Einval else if kind then Some c else None) ≡ code.Done → (if b then Some code.Einval else if kind then Some c else None) ≡ None) [
  | true ↦ λ is. cc is
  | false ↦ elim kind as (λ b. code_or (if b then Some c else None) ≡ code.Done → (if b then Some c else None) ≡ None) [ true ↦ λ is. absurd (wrong is) | false ↦ λ _. refl ]
] is

unrefused : (st : AnyEvent) (p : ℕ) → code_or (event.refusal st p) ≡ code.Done → event.refusal st p ≡ None
unrefused (any.Plain st) p is = no_code st.destroyed st.takes_arg (plain.is_fired_sticky st) p code.Eperm (λ wrong. cc wrong) is
unrefused (any.Latch st) p is = no_code st.destroyed st.takes_arg false p code.Eperm (λ wrong. cc wrong) is
unrefused (any.Channel st) p is = no_code st.destroyed st.takes_arg (channel.is_full st) p code.Ebusy (λ wrong. cc wrong) is

slot_low : (st : AnyEvent) (i : ℕ) → i ≤ slot_most st → i ≤ 1
slot_low (any.Latch st) i low = low
slot_low other i low = omega (arith, low)

satisfiable : (x : Part) (i p : ℕ) → satisfy_code x i p ≡ code.Done → Fits x i p
satisfiable (part.Event st) i p is = (
  slot_low st i (not_above (slot_most st) i (first_off (nat_lt (slot_most st) i) code.Einval _ (λ wrong. cc wrong) is)),
  unrefused st p (last_if (nat_lt (slot_most st) i) code.Einval _ (λ wrong. cc wrong) is),
)
  where
    not_above : (n m : ℕ) → nat_lt n m ≡ false → m ≤ n
    not_above n m off = grind (arith, common_steps)
satisfiable other i p is = cc is

-- A MESSAGE
delivered_fits : (x : Part) (i p : ℕ) (c : Code) → IsSatisfiable i x → c ≡ delivery_code x p → is_done c ≡ true → Fits x i p
delivered_fits (part.Event st) i p c has is on = (slot_low st i has, unrefused st p (sym is ∙ done_is c on))
delivered_fits other i p c has is on = absurd has

-- a member leaves its scope
scopes_if : (b : Bool) (m : Option Made) (links : List slot.SlotCall) (blocks : List block.BlockCall) (events : List EventCall) (x y : List ScopeCall) → face m links blocks events (if b then x else y) ≡ (if b then face m links blocks events x else face m links blocks events y)
scopes_if true m links blocks events x y = refl
scopes_if false m links blocks events x y = refl

pub has_member : (a d : ℕ) → 0 < a - d → d < a
has_member a d some = omega (arith, some)

scope_left : (m : Option Made) (links : List slot.SlotCall) (blocks : List block.BlockCall) (events : List EventCall) (scopes : List ScopeCall) → HasMember (face m links blocks events scopes)
    → face m links blocks events (Parting ∷ scopes) ≡ with_scope (face m links blocks events scopes) scope.after_leave
scope_left (Some (MadeScope outer output)) links blocks events scopes has = ap part.Scope (leave_law outer output scopes (has_member (scope.arrivals scopes) (scope.departures scopes) has)).0
scope_left other links blocks events scopes has = absurd has

left_face : (s : Setting) (past : History) (x g : ℕ) → HasMember ((parts_of s past).face x)
    → face (made s past g) (link_calls past g) (block_calls s past g) (event_calls s past g) (if x == g then Parting ∷ scope_calls past g else scope_calls past g) ≡ (if x == g then with_scope ((parts_of s past).face x) scope.after_leave else (parts_of s past).face g)
left_face s past x g has =
    scopes_if (x == g) (made s past g) (link_calls past g) (block_calls s past g) (event_calls s past g) (Parting ∷ scope_calls past g) (scope_calls past g)
    ∙ at_same (λ k. face (made s past k) (link_calls past k) (block_calls s past k) (event_calls s past k) (Parting ∷ scope_calls past k)) (λ k. with_scope ((parts_of s past).face k) scope.after_leave) x g ((parts_of s past).face g)
    (scope_left (made s past x) (link_calls past x) (block_calls s past x) (event_calls s past x) (scope_calls past x) has)

delivered_face : (s : Setting) (past : History) (w : What) (c : Code) (g : ℕ) → IsRun s past → IsDeliverOn (parts_of s past) w c
    → face (made s past g) (link_calls past g) (block_calls s past g) (deliver_step w (is_done c) g (event_calls s past g)) (leave_step w (is_done c) g (scope_calls past g)) ≡ (if is_done c then brought w (parts_of s past) else parts_of s past).face g
delivered_face s past (what.Set x i p) c g run legal = elim (is_done c) as (λ b. (parts_of s past).face g ≡ (if b then parts_of s past else parts_of s past).face g) [ true ↦ refl | false ↦ refl ]
delivered_face s past (what.Satisfy e i p) c g run legal = elim (is_done c) as (λ b. is_done c ≡ b → face (made s past g) (link_calls past g) (block_calls s past g) (if b && (e == g) then Satisfaction i p ∷ event_calls s past g else event_calls s past g) (scope_calls past g)
    ≡ (if b then brought (what.Satisfy e i p) (parts_of s past) else parts_of s past).face g) [
      | true ↦ λ on. satisfied_face s past e i p g run (delivered_fits ((parts_of s past).face e) i p c legal.0 legal.1 on)
      | false ↦ λ _. refl
    ] refl
delivered_face s past (what.Leave x) c g run legal = elim (is_done c) as (λ b. face (made s past g) (link_calls past g) (block_calls s past g) (event_calls s past g) (if b && (x == g) then Parting ∷ scope_calls past g else scope_calls past g)
    ≡ (if b then brought (what.Leave x) (parts_of s past) else parts_of s past).face g) [
      | true ↦ left_face s past x g legal.0
      | false ↦ refl
    ]

-- THE EVENTS that are given to the slots of a new EDT
abbrev pub dep_fold : ℕ → ℕ → ℕ → List ℕ → Part → Part
dep_fold t k g [] x = x
dep_fold t k g (d ∷ rest) x = dep_fold t (k + 1) g rest (if is_object d && (d == g) then with_event x (λ st. event.after_link st (slot_target t k)) else x)

one_face : (d : ℕ) (to : Reached) (f : Parts) (g : ℕ) → (linked_if (is_object d) d to f).face g ≡ (if is_object d && (d == g) then with_event (f.face g) (λ st. event.after_link st to) else f.face g)
one_face d to f g = elim (is_object d) as (λ b. (linked_if b d to f).face g ≡ (if b && (d == g) then with_event (f.face g) (λ st. event.after_link st to) else f.face g)) [
  | true ↦ sym (at_same (λ k. with_event (f.face k) (λ st. event.after_link st to)) (λ k. with_event (f.face k) (λ st. event.after_link st to)) d g (f.face g) refl)
  | false ↦ refl
]

pub deps_face : (t k : ℕ) (ds : List ℕ) (f : Parts) (g : ℕ) → (deps_linked t k ds f).face g ≡ dep_fold t k g ds (f.face g)
deps_face t k [] f g = refl
deps_face t k (d ∷ rest) f g = deps_face t (k + 1) rest (linked_if (is_object d) d (slot_target t k) f) g ∙ ap (dep_fold t (k + 1) g rest) (one_face d (slot_target t k) f g)

pub linked_core : (b : Bool) (d : ℕ) (t : Reached) (f : Parts) (u : ℕ) → (linked_if b d t f).core u ≡ f.core u
linked_core true d t f u = refl
linked_core false d t f u = refl

pub deps_core : (t k : ℕ) (ds : List ℕ) (f : Parts) (u : ℕ) → (deps_linked t k ds f).core u ≡ f.core u
deps_core t k [] f u = refl
deps_core t k (d ∷ rest) f u = deps_core t (k + 1) rest (linked_if (is_object d) d (slot_target t k) f) u
    ∙ elim (is_object d) as (λ b. (linked_if b d (slot_target t k) f).core u ≡ f.core u) [ true ↦ refl | false ↦ refl ]

-- a link leaves an event alive
link_live : (st : AnyEvent) (t : Reached) → event.is_destroyed st ≡ false → event.is_destroyed (event.after_link st t) ≡ false
link_live (any.Plain st) t live = rw live (elim (is_some st.first) as (λ b. (if b then record st { destroyed = false } else record st { destroyed = false; targets = st.targets ++ t ∷ [] }).destroyed ≡ false) [ true ↦ refl | false ↦ refl ])
link_live (any.Latch st) t live = rw live refl
link_live (any.Channel st) t live = rw live (elim (slice_get st.payloads 0) as (λ o. (elim o as (λ _. channel.State) [ Some p ↦ channel.with_queues st (drop 1 st.payloads) st.targets | None ↦ channel.with_queues st st.payloads (st.targets ++ t ∷ []) ]).destroyed ≡ false) [ Some p ↦ live | None ↦ live ])

part_live : (x : Part) (t : Reached) → is_destroyed x ≡ false → is_destroyed (with_event x (λ st. event.after_link st t)) ≡ false
part_live (part.Event st) t live = link_live st t live
part_live other t live = live

abbrev pub named_dep : ℕ → List ℕ → Bool
named_dep g [] = false
named_dep g (d ∷ rest) = (is_object d && (d == g)) || named_dep g rest

pub unnamed_fold : (t k g : ℕ) (ds : List ℕ) (x : Part) → named_dep g ds ≡ false → dep_fold t k g ds x ≡ x
unnamed_fold t k g [] x off = refl
unnamed_fold t k g (d ∷ rest) x off =
    let here : (is_object d && (d == g)) ≡ false = (or_parts _ (named_dep g rest) off).0 in
    rw here (unnamed_fold t (k + 1) g rest x (or_parts (is_object d && (d == g)) _ off).1)

event_fold : (m : Option Made) (links : List slot.SlotCall) (blocks : List block.BlockCall) (events : List EventCall) (scopes : List ScopeCall) (t k g : ℕ) (ds : List ℕ) → (named_dep g ds ≡ true → is_destroyed (face m links blocks events scopes) ≡ false)
    → dep_fold t k g ds (face m links blocks events scopes) ≡ face m links blocks (dep_targets t k g ds events) scopes
event_fold m links blocks events scopes t k g [] live = refl
event_fold m links blocks events scopes t k g (d ∷ rest) live =
    let to : Reached = slot_target t k in
    elim (is_object d && (d == g)) as (λ b. (b || named_dep g rest ≡ true → is_destroyed (face m links blocks events scopes) ≡ false)
    → dep_fold t (k + 1) g rest (if b then with_event (face m links blocks events scopes) (λ st. event.after_link st to) else face m links blocks events scopes) ≡ face m links blocks (dep_targets t (k + 1) g rest (link_if b to events)) scopes) [
      | true ↦ λ live.
          let now = linked_face m links blocks events scopes to (live refl) in
          ap (dep_fold t (k + 1) g rest) (sym now)
          ∙ event_fold m links blocks (Link to ∷ events) scopes t (k + 1) g rest (λ _. ap is_destroyed now ∙ part_live (face m links blocks events scopes) to (live refl))
      | false ↦ λ live. event_fold m links blocks events scopes t (k + 1) g rest live
    ] live

-- what no dependence may be, the events that are given are not
deps_pass : (test : Sort → Part → Bool) (f : ℕ → Part) (ds : List ℕ) (g : ℕ) → is_any test f (wanted_sources ds) ≡ false → named_dep g ds ≡ true → test Source (f g) ≡ false
deps_pass test f [] g off is = cc is
deps_pass test f (d ∷ rest) g off is = elim (is_object d) as (λ b. is_any test f (if b then (d, Source) ∷ wanted_sources rest else wanted_sources rest) ≡ false → ((b && (d == g)) || named_dep g rest) ≡ true → test Source (f g) ≡ false) [
  | true ↦ λ off is. elim (d == g) as (λ b. (d == g) ≡ b → (b || named_dep g rest) ≡ true → test Source (f g) ≡ false) [
    | true ↦ λ here _. ap (λ (n : ℕ). test Source (f n)) (sym (eqb-true d g here)) ∙ (or_parts (test Source (f d)) _ off).0
    | false ↦ λ _ is. deps_pass test f rest g (or_parts (test Source (f d)) _ off).1 is
  ] refl is
  | false ↦ λ off is. deps_pass test f rest g off is
] off is

-- a number that nothing has is none of them
pub unnamed_there : (f : ℕ → Part) (ds : List ℕ) (g : ℕ) → is_any is_missing f (wanted_sources ds) ≡ false → f g ≡ part.Vacant → named_dep g ds ≡ false
unnamed_there f ds g off vacant = elim (named_dep g ds) as (λ b. named_dep g ds ≡ b → b ≡ false) [
  | true ↦ λ is. absurd (let gone : is_vacant (f g) ≡ true = ap is_vacant vacant in cc (gone, deps_pass is_missing f ds g off is))
  | false ↦ λ _. refl
] refl

-- A SCOPE that is joined
pub home_apart : (f : Parts) (home g : ℕ) → f.face g ≡ part.Vacant → ((home == 0) ≡ false → IsJoinable (f.face home)) → names_new home g ≡ false
home_apart f home g vacant joinable = elim (names_new home g) as (λ b. names_new home g ≡ b → b ≡ false) [
  | true ↦ λ is. absurd (subst IsJoinable (ap f.face (number_named home g is) ∙ vacant) (joinable (some_named home g is)))
  | false ↦ λ _. refl
] refl

scope_joined : (b : Bool) (m : Option Made) (links : List slot.SlotCall) (blocks : List block.BlockCall) (events more : List EventCall) (scopes : List ScopeCall) → (b ≡ true → IsJoinable (face m links blocks events scopes))
    → face m links blocks more (if b then Joining ∷ scopes else scopes) ≡ (if b then with_scope (face m links blocks more scopes) scope.after_join else face m links blocks more scopes)
scope_joined true (Some (MadeScope outer output)) links blocks events more scopes joinable = ap part.Scope (join_law outer output scopes (has_member (scope.arrivals scopes) (scope.departures scopes) (joinable refl).0))
scope_joined true other links blocks events more scopes joinable = absurd (joinable refl)
scope_joined false m links blocks events more scopes joinable = refl

-- A NEW EDT with its scope and its output event
new_parts : (here scope output : Bool) (edt one two : Option Made) (links : List slot.SlotCall) (x y z rest : Part) → ((scope || output) || here) ≡ true
    → face edt links [] [] [] ≡ x → face one [] [] [] [] ≡ y → face two [] [] [] [] ≡ z
    → face (if here then edt else if scope then one else two) (if here then links else []) [] [] [] ≡ (if here then x else if scope then y else if output then z else rest)
new_parts true scope output edt one two links x y z rest is p q r = p
new_parts false true output edt one two links x y z rest is p q r = q
new_parts false false true edt one two links x y z rest is p q r = r
new_parts false false false edt one two links x y z rest is p q r = cc is

pub old_part : {A : Type 0} (here scope output : Bool) (x y z rest : A) → ((scope || output) || here) ≡ false → (if here then x else if scope then y else if output then z else rest) ≡ rest
old_part true true output x y z rest is = cc is
old_part true false true x y z rest is = cc is
old_part true false false x y z rest is = cc is
old_part false true output x y z rest is = cc is
old_part false false true x y z rest is = cc is
old_part false false false x y z rest is = refl

-- the face that the creation of an EDT puts at a number, before the dependences are linked
abbrev pub created_part : (t from dc : ℕ) (ds : List ℕ) (a : Answer) (f : Parts) → ℕ → Part
created_part t from dc ds a f g =
    if a.value == g then new_face (f.face from) dc ds
    else if names_new a.scope g then new_scope (home_on (f.core t)) a
    else if names_new a.output g then new_output
    else f.face g

created_face : (s : Setting) (past : History) (t home from pc dc fl : ℕ) (ps ds : List ℕ) (o : Bool) (a : Answer) (w : List (ℕ × ℕ)) → is_done a.code ≡ true → IsCallOn s.limit (parts_of s past) t home (call.EdtCreate from pc ps dc ds fl o) a w
    → (g : ℕ) → (parts_of s (Call t home (call.EdtCreate from pc ps dc ds fl o) a w ∷ past)).face g ≡ (joined (call.EdtCreate from pc ps dc ds fl o) home (called t (call.EdtCreate from pc ps dc ds fl o) a w (parts_of s past))).face g
created_face s past t home from pc dc fl ps ds o a w on legal g =
    let f : Parts = parts_of s past in
    let c : body.Call = call.EdtCreate from pc ps dc ds fl o in
    let after : History = Call t home c a w ∷ past in
    let edt : Option Made = edt_from (made s past from) ps dc in
    let done : code_of t f.face c ≡ code.Done = sym legal.code ∙ done_is a.code on in
    let told : (called t c a w f).face g ≡ dep_fold a.value 0 g ds (created_part t from dc ds a f g) = deps_face a.value 0 ds _ g in
    let now : is_new c a g ≡ ((names_new a.scope g || names_new a.output g) || (a.value == g)) = rw on refl in
    elim (is_new c a g) as (λ b. is_new c a g ≡ b
    → face (made s after g) (if b then first_links c a g else link_calls past g) (if b then [] else block_calls s past g) (if b then [] else event_step s past c a g (event_calls s past g)) (if b then [] else join_step c home a g (scope_calls past g))
    ≡ (if names_new home g then with_scope ((called t c a w f).face g) scope.after_join else (called t c a w f).face g)) [
      | true ↦ λ is.
          let vacant : f.face g ≡ part.Vacant = (new_fresh s.limit f t home c a w g legal is).vacant in
          let apart : names_new home g ≡ false = home_apart f home g vacant (legal.at_home.joinable on) in
          let unnamed : named_dep g ds ≡ false = unnamed_there f.face ds g (or_parts (is_missing ATemplate (f.face from)) _ (not_missing t f.face c done)).1 vacant in
          ap (λ (m : Option Made). face m (first_links c a g) [] [] []) (made_new s past t home from pc ps dc ds fl o a w g ∙ ap (λ (b : Bool). if b then made_with edt home a g else made s past g) is)
          ∙ rw on (new_parts (a.value == g) (names_new a.scope g) (names_new a.output g) edt (Some (MadeScope home a.output)) (Some (MadeEvent OUTPUT_KIND OUTPUT_FLAGS 0)) (dep_links 0 ds [])
          (new_face (f.face from) dc ds) (new_scope (home_on (f.core t)) a) new_output (f.face g) (sym now ∙ is)
          (edt_face (made s past from) ps dc ds (link_calls past from) (block_calls s past from) (event_calls s past from) (scope_calls past from))
          (ap (λ (h : ℕ). new_scope h a) legal.at_home.own) refl)
          ∙ sym (told ∙ unnamed_fold a.value 0 g ds (created_part t from dc ds a f g) unnamed)
          ∙ rw apart refl
      | false ↦ λ off.
          let old : created_part t from dc ds a f g ≡ f.face g = old_part (a.value == g) (names_new a.scope g) (names_new a.output g) _ _ _ (f.face g) (sym now ∙ off) in
          let live : named_dep g ds ≡ true → is_destroyed (f.face g) ≡ false = deps_pass (is_refused_as_stale t) f.face ds g (or_parts (is_destroyed (f.face from)) _ (not_stale t f.face c done)).1 in
          let linked : (called t c a w f).face g ≡ face (made s past g) (link_calls past g) (block_calls s past g) (dep_targets a.value 0 g ds (event_calls s past g)) (scope_calls past g) =
          told ∙ ap (dep_fold a.value 0 g ds) old ∙ event_fold (made s past g) (link_calls past g) (block_calls s past g) (event_calls s past g) (scope_calls past g) a.value 0 g ds live in
          ap (λ (m : Option Made). face m (link_calls past g) (block_calls s past g) (event_step s past c a g (event_calls s past g)) (join_step c home a g (scope_calls past g))) (made_old s past t home c a w g off)
          ∙ rw on (scope_joined (names_new home g) (made s past g) (link_calls past g) (block_calls s past g) (event_calls s past g) (dep_targets a.value 0 g ds (event_calls s past g)) (scope_calls past g)
          (λ is. subst (λ (k : ℕ). IsJoinable (f.face k)) (number_named home g is) (legal.at_home.joinable on (some_named home g is))))
          ∙ ap (λ (x : Part). if names_new home g then with_scope x scope.after_join else x) (sym linked)
    ] refl

refused_face : (s : Setting) (past : History) (t home : ℕ) (c : body.Call) (a : Answer) (w : List (ℕ × ℕ)) → is_done a.code ≡ false
    → (g : ℕ) → (parts_of s (Call t home c a w ∷ past)).face g ≡ (parts_of s past).face g
refused_face s past t home (call.TemplateCreate f pc dc) a w off g = rw off refl
refused_face s past t home (call.EdtCreate from pc ps dc ds fl o) a w off g = rw off refl
refused_face s past t home (call.DbCreate n fl) a w off g = rw off refl
refused_face s past t home (call.DbRelease d) a w off g = rw off refl
refused_face s past t home (call.Store d k v) a w off g = rw off refl
refused_face s past t home (call.DbDestroy d) a w off g = rw off refl
refused_face s past t home (call.TemplateDestroy x) a w off g = rw off refl
refused_face s past t home (call.AddDependence from x i m) a w off g = rw off refl
refused_face s past t home (call.EventCreate k fl) a w off g = rw off refl
refused_face s past t home (call.EventCreateParams k fl gen sat deps) a w off g = rw off refl
refused_face s past t home (call.EventDestroy x) a w off g = rw off refl
refused_face s past t home (call.Satisfy e p slot) a w off g = rw off refl
refused_face s past t home other a w off g = refl

called_face : (s : Setting) (past : History) (t home : ℕ) (c : body.Call) (a : Answer) (w : List (ℕ × ℕ)) → IsRun s past → is_done a.code ≡ true → IsCallOn s.limit (parts_of s past) t home c a w
    → (g : ℕ) → (parts_of s (Call t home c a w ∷ past)).face g ≡ (joined c home (called t c a w (parts_of s past))).face g
called_face s past t home (call.TemplateCreate f pc dc) a w run on legal g = rw on (chosen_face (a.value == g) _ (made s past g) _ (link_calls past g) (block_calls s past g) (event_calls s past g) (scope_calls past g))
called_face s past t home (call.DbCreate n fl) a w run on legal g = rw on (chosen_face (a.value == g) _ (made s past g) _ (link_calls past g) (block_calls s past g) (event_calls s past g) (scope_calls past g))
called_face s past t home (call.EdtCreate from pc ps dc ds fl o) a w run on legal g = created_face s past t home from pc dc fl ps ds o a w on legal g
called_face s past t home (call.DbRelease d) a w run on legal g = rw on (ended_face s past t d w g run (legal.value.0 on))
called_face s past t home (call.DbDestroy d) a w run on legal g = rw on (destroyed_face s past t d w g run (legal.value.0 on))
called_face s past t home (call.TemplateDestroy x) a w run on legal g = rw on
    (events_at s past x g (λ calls. Destruction ∷ calls) (λ y. with_template y doomed_template)
    (template_doomed (made s past x) (link_calls past x) (block_calls s past x) (event_calls s past x) (scope_calls past x)
    (not_other (is_template ((parts_of s past).face x)) (of_kind t (parts_of s past).face (call.TemplateDestroy x) (sym legal.code ∙ done_is a.code on)))))
called_face s past t home (call.Store d k v) a w run on legal g = rw on
    (gone_face s past d g (λ calls. block.Store k v ∷ calls) (λ st. after_store st k v)
    (block_stored (made s past d) (link_calls past d) (block_calls s past d) (event_calls s past d) (scope_calls past d) t k v _ legal.value.0))
called_face s past t home (call.AddDependence from x i m) a w run on legal g =
    let done : code_of t (parts_of s past).face (call.AddDependence from x i m) ≡ code.Done = sym legal.code ∙ done_is a.code on in
    rw on (depended_face s past from x i m g
    (or_parts (from == x) _ (of_kind t (parts_of s past).face (call.AddDependence from x i m) done)).0
    (source_live t from x (parts_of s past).face (not_stale t (parts_of s past).face (call.AddDependence from x i m) done))
    (linkable (brings_block (parts_of s past).face from) ((parts_of s past).face x) i m (accepted t (parts_of s past).face (call.AddDependence from x i m) done)))
called_face s past t home (call.Satisfy e p slot) a w run on legal g =
    let done : code_of t (parts_of s past).face (call.Satisfy e p slot) ≡ code.Done = sym legal.code ∙ done_is a.code on in
    rw on (satisfied_face s past e slot p g run (satisfiable ((parts_of s past).face e) slot p (accepted t (parts_of s past).face (call.Satisfy e p slot) done)))
called_face s past t home (call.EventCreate k fl) a w run on legal g = rw on (chosen_face (a.value == g) _ (made s past g) _ (link_calls past g) (block_calls s past g) (event_calls s past g) (scope_calls past g))
called_face s past t home (call.EventCreateParams k fl gen sat deps) a w run on legal g = rw on (chosen_face (a.value == g) _ (made s past g) _ (link_calls past g) (block_calls s past g) (event_calls s past g) (scope_calls past g))
called_face s past t home (call.EventDestroy x) a w run on legal g = rw on
    (events_at s past x g (λ calls. Destruction ∷ calls) (λ y. with_event y event.after_destroy)
    (event_destroyed (made s past x) (link_calls past x) (block_calls s past x) (event_calls s past x) (scope_calls past x)
    (not_other (is_event ((parts_of s past).face x)) (of_kind t (parts_of s past).face (call.EventDestroy x) (sym legal.code ∙ done_is a.code on)))
    (live_one ((parts_of s past).face x) false (not_stale t (parts_of s past).face (call.EventDestroy x) (sym legal.code ∙ done_is a.code on)))))
called_face s past t home other a w run on legal g = refl

-- what comes next, as the parts that were made ready tell it
pub core_next : (m : Option Made) (i : Identity) (members : List (ℕ × Mode)) (calls : List edt.EdtCall) (loans : List (ℕ × Kept)) (x : ℕ × Mode)
    → next_in (core_progress (on_core (core m i calls loans) (with_phase (made_ready members)))) ≡ Some x → first_of (edt.undone_of (with_plan members calls)) ≡ Some x
core_next (Some (MadeEdt f ps n)) i members calls loans x is = next_is i members calls x is
core_next other i members calls loans x is = cc

abbrev pub readied_parts : Setting → History → ℕ → Parts
readied_parts s past t = ready_at t (plan_of s past t) (parts_of s past)

ready_next : (s : Setting) (past : History) (t : ℕ) (x : ℕ × Mode) → next_on (readied_parts s past t) t ≡ Some x → next_in (core_progress (on_core ((parts_of s past).core t) (with_phase (made_ready (plan_of s past t))))) ≡ Some x
ready_next s past t x is = ap (λ (y : Part). next_in (core_progress y)) (sym (ready_core s past t)) ∙ is

pub mode_is : (s : Setting) (past : History) (t : ℕ) (x : ℕ × Mode) → next_on (readied_parts s past t) t ≡ Some x → mode_next (next_member s past t) ≡ x.1
mode_is s past t x is = ap mode_next (core_next (made s past t) (identity_of past t) (plan_of s past t) (edt_calls s past t) (loans_of s past t) x (ready_next s past t x is))

acquired_face : (s : Setting) (past : History) (t d g : ℕ) (k : Mode) → mode_next (next_member s past t) ≡ k → IsBlock ((parts_of s past).face d) (IsTaken t k)
    → (parts_of s (Acquire t d ∷ past)).face g ≡ (if d == g then with_block ((parts_of s past).face d) (granted t k) else (parts_of s past).face g)
acquired_face s past t d g k is taken =
    ap (λ (m : Mode). face (made s past g) (link_calls past g) (if d == g then lend_calls t m (ask_calls t m (creator_in (made s past g)) (block_calls s past g)) else block_calls s past g) (event_calls s past g) (scope_calls past g)) is
    ∙ blocks_if (d == g) (made s past g) (link_calls past g) (lend_calls t k (ask_calls t k (creator_in (made s past g)) (block_calls s past g))) (block_calls s past g) (event_calls s past g) (scope_calls past g)
    ∙ at_same (λ j. face (made s past j) (link_calls past j) (lend_calls t k (ask_calls t k (creator_in (made s past j)) (block_calls s past j))) (event_calls s past j) (scope_calls past j)) (λ j. with_block ((parts_of s past).face j) (granted t k)) d g ((parts_of s past).face g)
    (block_granted (made s past d) (link_calls past d) (block_calls s past d) (event_calls s past d) (scope_calls past d) t k taken)

waited_face : (s : Setting) (past : History) (t d g : ℕ) (k : Mode) → mode_next (next_member s past t) ≡ k
    → (parts_of s (Wait t d ∷ past)).face g ≡ (if d == g then with_block ((parts_of s past).face d) (λ st. after_ask st t k) else (parts_of s past).face g)
waited_face s past t d g k is =
    ap (λ (m : Mode). face (made s past g) (link_calls past g) (if d == g then block.Ask t m ∷ block_calls s past g else block_calls s past g) (event_calls s past g) (scope_calls past g)) is
    ∙ gone_face s past d g (λ calls. block.Ask t k ∷ calls) (λ st. after_ask st t k)
    (block_asked (made s past d) (link_calls past d) (block_calls s past d) (event_calls s past d) (scope_calls past d) t k)

after_face : (s : Setting) (past : History) (e : Entry) → IsRun s past → IsLegalOn s.limit (readied_on s past e (parts_of s past)) e
    → (g : ℕ) → (parts_of s (e ∷ past)).face g ≡ (changed e (readied_on s past e (parts_of s past))).face g
after_face s past (Call t home c a w) run legal g = elim (is_done a.code) as (λ b. is_done a.code ≡ b → (parts_of s (Call t home c a w ∷ past)).face g ≡ (if b then joined c home (called t c a w (parts_of s past)) else parts_of s past).face g) [
  | true ↦ λ on. called_face s past t home c a w run on legal g
  | false ↦ λ off. refused_face s past t home c a w off g
] refl
after_face s past (Deliver m c) run legal g = delivered_face s past m.what c g run legal
after_face s past (Acquire t d) run legal g = acquired_face s past t d g _ (mode_is s past t _ legal.next) legal.taken
after_face s past (Wait t d) run legal g = waited_face s past t d g _ (mode_is s past t _ legal.next)
after_face s past (Free t d w) run legal g = ended_face s past t d w g run legal.held
after_face s past other run legal g = refl

-- CORES
refused_core : (s : Setting) (past : History) (t home : ℕ) (c : body.Call) (a : Answer) (w : List (ℕ × ℕ)) → is_done a.code ≡ false
    → (u : ℕ) → (parts_of s (Call t home c a w ∷ past)).core u ≡ (parts_of s past).core u
refused_core s past t home (call.TemplateCreate f pc dc) a w off u = rw off refl
refused_core s past t home (call.EdtCreate from pc ps dc ds fl o) a w off u = rw off refl
refused_core s past t home (call.DbCreate n fl) a w off u = rw off refl
refused_core s past t home (call.DbRelease d) a w off u = rw off refl
refused_core s past t home (call.DbDestroy d) a w off u = rw off refl
refused_core s past t home (call.EventCreate k fl) a w off u = rw off refl
refused_core s past t home (call.EventCreateParams k fl gen sat deps) a w off u = rw off refl
refused_core s past t home other a w off u = refl

-- nothing has a core where a number was free
none_there : (s : Setting) (past : History) (a : Answer) (u : ℕ) → is_done a.code ≡ true → IsNamed s.limit (parts_of s past) a → (a.value == u) ≡ true → (parts_of s past).core u ≡ part.Vacant
none_there s past a u on named is = fresh_core s past u (named_fresh s.limit (parts_of s past) a u named (rw (on, is) refl))

-- the calls on a creator, and what it keeps
abbrev held_calls : Bool → ℕ → List edt.EdtCall → List edt.EdtCall
held_calls b d calls = if b then edt.Hold d ∷ calls else calls

abbrev held_loans : Bool → ℕ → ℕ → List (ℕ × Kept) → List (ℕ × Kept)
held_loans b d z loans = if b then with_kept d (kept_created z) loans else loans

abbrev core_is : ℕ → List ℕ → Edt → List (ℕ × Kept) → Core
core_is f ps e loans = record { function = f; params = ps; edt = e; loans = loans }

core_created : (m : Option Made) (i : Identity) (fl d z : ℕ) (calls : List edt.EdtCall) (loans : List (ℕ × Kept)) → is_running (core m i calls loans) ≡ true
    → core m i (held_calls (fl == 0) d calls) (held_loans (fl == 0) d z loans) ≡ on_core (core m i calls loans) (creating_core fl d z)
core_created (Some (MadeEdt f ps n)) i fl d z calls loans running =
    elim (fl == 0) as (λ b. part.Core (core_is f ps (edt.edt_of i (held_calls b d calls)) (held_loans b d z loans))
    ≡ part.Core (if b then core_is f ps (holding_edt d (edt.edt_of i calls)) (with_kept d (kept_created z) loans) else core_is f ps (edt.edt_of i calls) loans)) [
      | true ↦ ap (λ (e : Edt). part.Core (core_is f ps e (with_kept d (kept_created z) loans))) (edt_held i calls d running)
      | false ↦ refl
    ]
core_created other i fl d z calls loans running = cc

core_dropped : (m : Option Made) (i : Identity) (d : ℕ) (calls : List edt.EdtCall) (loans : List (ℕ × Kept)) → is_running (core m i calls loans) ≡ true
    → core m i (edt.DropHold d ∷ calls) (without_kept d loans) ≡ on_core (core m i calls loans) (dropping_core d)
core_dropped (Some (MadeEdt f ps n)) i d calls loans running =
    ap (λ (e : Edt). part.Core (record { function = f; params = ps; edt = e; loans = without_kept d loans })) (edt_dropped i calls d running)
core_dropped other i d calls loans running = cc

core_ended : (m : Option Made) (i : Identity) (calls : List edt.EdtCall) (loans : List (ℕ × Kept)) → is_running (core m i calls loans) ≡ true
    → core m i (edt.End ∷ calls) loans ≡ on_core (core m i calls loans) (with_phase ended_edt)
core_ended (Some (MadeEdt f ps n)) i calls loans running = ap (λ (e : Edt). part.Core (record { function = f; params = ps; edt = e; loans = loans })) (edt_ended i calls running)
core_ended other i calls loans running = cc

dropped_core : (s : Setting) (past : History) (t d u : ℕ) → is_running ((parts_of s past).core t) ≡ true
    → core (made s past u) (identity_of past u) (if t == u then edt.DropHold d ∷ edt_calls s past u else edt_calls s past u) (if t == u then without_kept d (loans_of s past u) else loans_of s past u)
    ≡ (if t == u then on_core ((parts_of s past).core t) (dropping_core d) else (parts_of s past).core u)
dropped_core s past t d u running =
    core_if (t == u) (made s past u) (identity_of past u) (edt.DropHold d ∷ edt_calls s past u) (edt_calls s past u) (without_kept d (loans_of s past u)) (loans_of s past u)
    ∙ at_same (λ k. core (made s past k) (identity_of past k) (edt.DropHold d ∷ edt_calls s past k) (without_kept d (loans_of s past k))) (λ k. on_core ((parts_of s past).core k) (dropping_core d)) t u ((parts_of s past).core u)
    (core_dropped (made s past t) (identity_of past t) d (edt_calls s past t) (loans_of s past t) running)

created_core : (s : Setting) (past : History) (t z fl : ℕ) (a : Answer) (u : ℕ) → is_done a.code ≡ true → IsNamed s.limit (parts_of s past) a → is_running ((parts_of s past).core t) ≡ true
    → (if a.value == u then part.Vacant else core (made s past u) (identity_of past u) (held_calls ((t == u) && (fl == 0)) a.value (edt_calls s past u)) (held_loans ((t == u) && (fl == 0)) a.value z (loans_of s past u)))
    ≡ (if t == u then on_core ((parts_of s past).core t) (creating_core fl a.value z) else (parts_of s past).core u)
created_core s past t z fl a u on named running =
    let now : Part = on_core ((parts_of s past).core t) (creating_core fl a.value z) in
    elim (a.value == u) as (λ b. (a.value == u) ≡ b → (if b then part.Vacant else core (made s past u) (identity_of past u) (held_calls ((t == u) && (fl == 0)) a.value (edt_calls s past u)) (held_loans ((t == u) && (fl == 0)) a.value z (loans_of s past u)))
    ≡ (if t == u then now else (parts_of s past).core u)) [
      | true ↦ λ here. elim (t == u) as (λ b. (t == u) ≡ b → part.Vacant ≡ (if b then now else (parts_of s past).core u)) [
        | true ↦ λ own. absurd (let e : t ≡ u = eqb-true t u own in
            let none : (parts_of s past).core t ≡ part.Vacant = ap (parts_of s past).core e ∙ none_there s past a u on named here in
            cc (sym (ap is_running none) ∙ running))
        | false ↦ λ _. sym (none_there s past a u on named here)
      ] refl
      | false ↦ λ _. elim (t == u) as (λ b. (t == u) ≡ b → core (made s past u) (identity_of past u) (held_calls (b && (fl == 0)) a.value (edt_calls s past u)) (held_loans (b && (fl == 0)) a.value z (loans_of s past u))
          ≡ (if b then now else (parts_of s past).core u)) [
            | true ↦ λ own. subst (λ (k : ℕ). core (made s past k) (identity_of past k) (held_calls (fl == 0) a.value (edt_calls s past k)) (held_loans (fl == 0) a.value z (loans_of s past k)) ≡ now)
                (eqb-true t u own) (core_created (made s past t) (identity_of past t) fl a.value z (edt_calls s past t) (loans_of s past t) running)
            | false ↦ λ _. refl
          ] refl
    ] refl

-- an object that is made, and has no core
coreless : (s : Setting) (past : History) (a : Answer) (u : ℕ) (m : Option Made) → is_done a.code ≡ true → IsNamed s.limit (parts_of s past) a
    → ((i : Identity) (calls : List edt.EdtCall) (loans : List (ℕ × Kept)) → core m i calls loans ≡ part.Vacant)
    → core (if a.value == u then m else made s past u) (identity_of past u) (if a.value == u then [] else edt_calls s past u) (if a.value == u then [] else loans_of s past u) ≡ (parts_of s past).core u
coreless s past a u m on named none =
    chosen_core (a.value == u) m (made s past u) (identity_of past u) (edt_calls s past u) (loans_of s past u)
    ∙ elim (a.value == u) as (λ b. (a.value == u) ≡ b → (if b then core m (identity_of past u) [] [] else (parts_of s past).core u) ≡ (parts_of s past).core u) [
      | true ↦ λ here. none (identity_of past u) [] [] ∙ sym (none_there s past a u on named here)
      | false ↦ λ _. refl
    ] refl

-- a new EDT has a core, and neither its scope nor its output event
no_cores : (scope : Bool) (outer output : ℕ) (i : Identity) → core (if scope then Some (MadeScope outer output) else Some (MadeEvent OUTPUT_KIND OUTPUT_FLAGS 0)) i [] [] ≡ part.Vacant
no_cores true outer output i = refl
no_cores false outer output i = refl

made_core : (s : Setting) (past : History) (t home from pc dc fl : ℕ) (ps ds : List ℕ) (o : Bool) (a : Answer) (w : List (ℕ × ℕ)) → is_done a.code ≡ true → IsCallOn s.limit (parts_of s past) t home (call.EdtCreate from pc ps dc ds fl o) a w
    → (u : ℕ) → (parts_of s (Call t home (call.EdtCreate from pc ps dc ds fl o) a w ∷ past)).core u
    ≡ (if a.value == u then new_core ((parts_of s past).face from) (new_identity a.value fl a (home_on ((parts_of s past).core t))) ps else (parts_of s past).core u)
made_core s past t home from pc dc fl ps ds o a w on legal u =
    let f : Parts = parts_of s past in
    let c : body.Call = call.EdtCreate from pc ps dc ds fl o in
    let after : History = Call t home c a w ∷ past in
    let edt : Option Made = edt_from (made s past from) ps dc in
    let new : Part = new_core (f.face from) (new_identity a.value fl a (home_on (f.core t))) ps in
    elim (is_new c a u) as (λ b. is_new c a u ≡ b → core (made s after u) (identity_of after u) (if b then [] else edt_calls s past u) (if b then [] else loans_of s past u) ≡ (if a.value == u then new else f.core u)) [
      | true ↦ λ is.
          ap (λ (m : Option Made). core m (identity_of after u) [] []) (made_new s past t home from pc ps dc ds fl o a w u ∙ ap (λ (b : Bool). if b then made_with edt home a u else made s past u) is)
          ∙ rw on (elim (a.value == u) as (λ b. (a.value == u) ≡ b → core (if b then edt else if names_new a.scope u then Some (MadeScope home a.output) else Some (MadeEvent OUTPUT_KIND OUTPUT_FLAGS 0)) (if b then new_identity u fl a home else identity_of past u) [] []
          ≡ (if b then new else f.core u)) [
            | true ↦ λ here.
                edt_core (made s past from) (new_identity u fl a home) ps dc (link_calls past from) (block_calls s past from) (event_calls s past from) (scope_calls past from)
                ∙ (λ j. new_core (f.face from) (new_identity (sym (eqb-true a.value u here) j) fl a (legal.at_home.own j)) ps)
            | false ↦ λ _. no_cores (names_new a.scope u) home a.output (identity_of past u) ∙ sym (fresh_core s past u (new_fresh s.limit f t home c a w u legal is))
          ] refl)
      | false ↦ λ off.
          let apart : (is_done a.code && (a.value == u)) ≡ false = (or_parts (is_done a.code && (names_new a.scope u || names_new a.output u)) _ off).1 in
          let other : (a.value == u) ≡ false = sym (rw on refl) ∙ apart in
          ap (λ (m : Option Made). core m (identity_of after u) (edt_calls s past u) (loans_of s past u)) (made_old s past t home c a w u off)
          ∙ rw (apart, other) (refl {a = (parts_of s past).core u})
    ] refl

called_core : (s : Setting) (past : History) (t home : ℕ) (c : body.Call) (a : Answer) (w : List (ℕ × ℕ)) → is_done a.code ≡ true → IsCallOn s.limit (parts_of s past) t home c a w
    → (u : ℕ) → (parts_of s (Call t home c a w ∷ past)).core u ≡ (called t c a w (parts_of s past)).core u
called_core s past t home (call.TemplateCreate f pc dc) a w on legal u = rw on (coreless s past a u (Some (MadeTemplate f pc dc)) on legal.value (λ t calls loans. refl))
called_core s past t home (call.EventCreate k fl) a w on legal u = rw on (coreless s past a u (Some (MadeEvent k fl 0)) on legal.value (λ t calls loans. refl))
called_core s past t home (call.EventCreateParams k fl gen sat deps) a w on legal u = rw on (coreless s past a u (Some (MadeEvent k fl gen)) on legal.value (λ t calls loans. refl))
called_core s past t home (call.EdtCreate from pc ps dc ds fl o) a w on legal u = made_core s past t home from pc dc fl ps ds o a w on legal u ∙ sym (deps_core a.value 0 ds _ u)
called_core s past t home (call.DbCreate n fl) a w on legal u = rw on (
    chosen_core (a.value == u) (Some (MadeBlock _ _)) (made s past u) (identity_of past u) (held_calls ((t == u) && (fl == 0)) a.value (edt_calls s past u)) (held_loans ((t == u) && (fl == 0)) a.value (n / 8) (loans_of s past u))
    ∙ created_core s past t (n / 8) fl a u on legal.value legal.running)
called_core s past t home (call.AddDependence from x i m) a w on legal u =
    sym (linked_core (not (from == 0)) from (target_of (is_edt_face ((parts_of s past).face x)) x i) (with_face (parts_of s past) x (with_links ((parts_of s past).face x) (λ slots. after_link slots i (mode_named m)))) u)
called_core s past t home (call.DbRelease d) a w on legal u = rw on (dropped_core s past t d u legal.running)
called_core s past t home (call.DbDestroy d) a w on legal u = rw on (dropped_core s past t d u legal.running)
called_core s past t home other a w on legal u = refl

core_acquired : (m : Option Made) (i : Identity) (d : ℕ) (k : Mode) (size : ℕ) (words : List ℕ) (members : List (ℕ × Mode)) (calls : List edt.EdtCall) (loans : List (ℕ × Kept)) → IsFormed (with_plan members calls)
    → next_in (core_progress (on_core (core m i calls loans) (with_phase (made_ready members)))) ≡ Some (d, k)
    → core m i (edt.Acquired d ∷ awake (with_plan members calls)) (with_kept d (kept_of k size words) loans) ≡ on_core (on_core (core m i calls loans) (with_phase (made_ready members))) (acquiring_core d k size words)
core_acquired (Some (MadeEdt f ps n)) i d k size words members calls loans is_formed next =
    ap (λ (e : Edt). part.Core (core_is f ps e (with_kept d (kept_of k size words) loans))) (edt_acquired i members calls d k is_formed next)
core_acquired other i d k size words members calls loans is_formed next = cc

core_stale : (m : Option Made) (i : Identity) (d : ℕ) (k : Mode) (members : List (ℕ × Mode)) (calls : List edt.EdtCall) (loans : List (ℕ × Kept)) → IsFormed (with_plan members calls)
    → next_in (core_progress (on_core (core m i calls loans) (with_phase (made_ready members)))) ≡ Some (d, k)
    → core m i (edt.FoundStale d ∷ awake (with_plan members calls)) loans ≡ on_core (on_core (core m i calls loans) (with_phase (made_ready members))) (with_phase (λ e. stale_edt (awoken e)))
core_stale (Some (MadeEdt f ps n)) i d k members calls loans is_formed next = ap (λ (e : Edt). part.Core (core_is f ps e loans)) (edt_stale i members calls d k is_formed next)
core_stale other i d k members calls loans is_formed next = cc

core_waited : (m : Option Made) (i : Identity) (members : List (ℕ × Mode)) (calls : List edt.EdtCall) (loans : List (ℕ × Kept)) → is_acquiring (on_core (core m i calls loans) (with_phase (made_ready members))) ≡ true
    → core m i (edt.Wait ∷ with_plan members calls) loans ≡ on_core (on_core (core m i calls loans) (with_phase (made_ready members))) (with_phase waiting_edt)
core_waited (Some (MadeEdt f ps n)) i members calls loans is = ap (λ (e : Edt). part.Core (record { function = f; params = ps; edt = e; loans = loans })) (edt_waited i members calls is)
core_waited other i members calls loans is = cc

core_started : (m : Option Made) (i : Identity) (members : List (ℕ × Mode)) (calls : List edt.EdtCall) (loans : List (ℕ × Kept)) → is_acquiring (on_core (core m i calls loans) (with_phase (made_ready members))) ≡ true
    → core m i (edt.Start ∷ with_plan members calls) loans ≡ on_core (on_core (core m i calls loans) (with_phase (made_ready members))) (with_phase started_edt)
core_started (Some (MadeEdt f ps n)) i members calls loans is = ap (λ (e : Edt). part.Core (record { function = f; params = ps; edt = e; loans = loans })) (edt_started i members calls is)
core_started other i members calls loans is = cc

-- a step of the own core, which was made ready
own_step : (s : Setting) (past : History) (t u : ℕ) (P : ℕ → Part) (step : Part → Part) → P t ≡ step (on_core ((parts_of s past).core t) (with_phase (made_ready (plan_of s past t))))
    → (if t == u then P u else (parts_of s past).core u) ≡ (if t == u then step ((readied_parts s past t).core t) else (readied_parts s past t).core u)
own_step s past t u P step is =
    at_same P (λ _. step ((readied_parts s past t).core t)) t u ((parts_of s past).core u) (is ∙ ap step (sym (ready_core s past t)))
    ∙ sym (twice (t == u) (step ((readied_parts s past t).core t)) (on_core ((parts_of s past).core t) (with_phase (made_ready (plan_of s past t)))) ((parts_of s past).core u))

acquired_core : (s : Setting) (past : History) (t d u : ℕ) (k : Mode) → next_on (readied_parts s past t) t ≡ Some (d, k) → mode_next (next_member s past t) ≡ k → IsBlock ((parts_of s past).face d) (IsTaken t k)
    → (parts_of s (Acquire t d ∷ past)).core u
    ≡ (if t == u then on_core ((readied_parts s past t).core t) (acquiring_core d k (size_on ((parts_of s past).face d)) (words_on ((parts_of s past).face d))) else (readied_parts s past t).core u)
acquired_core s past t d u k next is taken =
    let here : Part = (parts_of s past).face d in
    let words : contents_of s past d ≡ words_on here = sym (words_are (made s past d) (link_calls past d) (block_calls s past d) (event_calls s past d) (scope_calls past d) t k taken) in
    let size : size_in (made s past d) ≡ size_on here = sym (size_is (made s past d) (link_calls past d) (block_calls s past d) (event_calls s past d) (scope_calls past d)) in
    let members : ℕ → List edt.EdtCall = λ j. with_plan (plan_of s past j) (edt_calls s past j) in
    core_if (t == u) (made s past u) (identity_of past u) (edt.Acquired d ∷ awake (members u)) (edt_calls s past u) (with_kept d (kept_now s past t d) (loans_of s past u)) (loans_of s past u)
    ∙ (λ i. if t == u then core (made s past u) (identity_of past u) (edt.Acquired d ∷ awake (members u)) (with_kept d (kept_of (is i) (size i) (words i)) (loans_of s past u)) else (parts_of s past).core u)
    ∙ own_step s past t u (λ j. core (made s past j) (identity_of past j) (edt.Acquired d ∷ awake (members j)) (with_kept d (kept_of k (size_on here) (words_on here)) (loans_of s past j))) (λ x. on_core x (acquiring_core d k (size_on here) (words_on here)))
    (core_acquired (made s past t) (identity_of past t) d k (size_on here) (words_on here) (plan_of s past t) (edt_calls s past t) (loans_of s past t)
    (formed_ready s past t (edt_calls s past t) (formed s past t)) (ready_next s past t (d, k) next))

ready_acquiring : (s : Setting) (past : History) (t : ℕ) → is_acquiring ((readied_parts s past t).core t) ≡ true → is_acquiring (on_core ((parts_of s past).core t) (with_phase (made_ready (plan_of s past t)))) ≡ true
ready_acquiring s past t is = ap is_acquiring (sym (ready_core s past t)) ∙ is

delivered_core : (s : Setting) (past : History) (w : What) (c : Code) (u : ℕ) → (parts_of s past).core u ≡ (if is_done c then brought w (parts_of s past) else parts_of s past).core u
delivered_core s past (what.Satisfy e i p) c u = elim (is_done c) as (λ b. (parts_of s past).core u ≡ (if b then brought (what.Satisfy e i p) (parts_of s past) else parts_of s past).core u) [ true ↦ refl | false ↦ refl ]
delivered_core s past (what.Leave x) c u = elim (is_done c) as (λ b. (parts_of s past).core u ≡ (if b then brought (what.Leave x) (parts_of s past) else parts_of s past).core u) [ true ↦ refl | false ↦ refl ]
delivered_core s past other c u = elim (is_done c) as (λ b. (parts_of s past).core u ≡ (if b then parts_of s past else parts_of s past).core u) [ true ↦ refl | false ↦ refl ]

after_core : (s : Setting) (past : History) (e : Entry) → IsLegalOn s.limit (readied_on s past e (parts_of s past)) e
    → (u : ℕ) → (parts_of s (e ∷ past)).core u ≡ (changed e (readied_on s past e (parts_of s past))).core u
after_core s past (Call t home c a w) legal u = elim (is_done a.code) as (λ b. is_done a.code ≡ b → (parts_of s (Call t home c a w ∷ past)).core u ≡ (if b then joined c home (called t c a w (parts_of s past)) else parts_of s past).core u) [
  | true ↦ λ on. called_core s past t home c a w on legal u
  | false ↦ λ off. refused_core s past t home c a w off u
] refl
after_core s past (Deliver m c) legal u = delivered_core s past m.what c u
after_core s past (Acquire t d) legal u = acquired_core s past t d u _ legal.next (mode_is s past t _ legal.next) legal.taken
after_core s past (Wait t d) legal u =
    calls_if (t == u) (made s past u) (identity_of past u) (edt.Wait ∷ with_plan (plan_of s past u) (edt_calls s past u)) (edt_calls s past u) (loans_of s past u)
    ∙ own_step s past t u (λ j. core (made s past j) (identity_of past j) (edt.Wait ∷ with_plan (plan_of s past j) (edt_calls s past j)) (loans_of s past j)) (λ x. on_core x (with_phase waiting_edt))
    (core_waited (made s past t) (identity_of past t) (plan_of s past t) (edt_calls s past t) (loans_of s past t) (ready_acquiring s past t legal.acquiring))
after_core s past (StaleAcquire t d) legal u =
    calls_if (t == u) (made s past u) (identity_of past u) (edt.FoundStale d ∷ awake (with_plan (plan_of s past u) (edt_calls s past u))) (edt_calls s past u) (loans_of s past u)
    ∙ own_step s past t u (λ j. core (made s past j) (identity_of past j) (edt.FoundStale d ∷ awake (with_plan (plan_of s past j) (edt_calls s past j))) (loans_of s past j)) (λ x. on_core x (with_phase (λ e. stale_edt (awoken e))))
    (core_stale (made s past t) (identity_of past t) d _ (plan_of s past t) (edt_calls s past t) (loans_of s past t) (formed_ready s past t (edt_calls s past t) (formed s past t)) (ready_next s past t _ legal.next))
after_core s past (Start t) legal u =
    calls_if (t == u) (made s past u) (identity_of past u) (edt.Start ∷ with_plan (plan_of s past u) (edt_calls s past u)) (edt_calls s past u) (loans_of s past u)
    ∙ own_step s past t u (λ j. core (made s past j) (identity_of past j) (edt.Start ∷ with_plan (plan_of s past j) (edt_calls s past j)) (loans_of s past j)) (λ x. on_core x (with_phase started_edt))
    (core_started (made s past t) (identity_of past t) (plan_of s past t) (edt_calls s past t) (loans_of s past t) (ready_acquiring s past t legal.acquiring))
after_core s past (Free t d w) legal u = dropped_core s past t d u legal.running
after_core s past (End t g) legal u =
    calls_if (t == u) (made s past u) (identity_of past u) (edt.End ∷ edt_calls s past u) (edt_calls s past u) (loans_of s past u)
    ∙ at_same (λ k. core (made s past k) (identity_of past k) (edt.End ∷ edt_calls s past k) (loans_of s past k)) (λ k. on_core ((parts_of s past).core k) (with_phase ended_edt)) t u ((parts_of s past).core u)
    (core_ended (made s past t) (identity_of past t) (edt_calls s past t) (loans_of s past t) legal.running)
after_core s past other legal u = refl

-- THE EQUATION OF PARTS
pub after_law : AfterLaw
after_law s past e run legal = λ i. record { face = λ g. after_face s past e run legal.on_parts g i; core = λ u. after_core s past e legal.on_parts u i }
