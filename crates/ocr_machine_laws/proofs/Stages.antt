-- What holds after each run: who stands at the blocks, and how far the EDTs have come.
use Rattle.std.proofs.Common.{◌≡◌, ℕ, ◌+◌, ◌/◌, List, [], ◌∷◌, ◌++◌, length, Bool, true, false, cond, Option, Some, None, ◌==◌, ◌||◌, not, if◌then◌else◌, refl, sym, ◌∙◌, ap, subst, is_some, ◌&&◌}
use Rattle.std.proofs.lemmas.Bool.{eqb-true}
use Rattle.std.proofs.lemmas.List.{append-nil, append_assoc}
use Rattle.std.specs.List.{filter}
use Rattle.ocr_guid.specs.Target.{EventCall}
use Rattle.ocr_acquire.specs.declared.Mode.{Mode}
use Rattle.ocr_acquire.proofs.Laws.{given_law}
use Rattle.ocr_acquire.specs.Mode.{mode_in}
use Rattle.ocr_datablock.proofs.Laws.{once_law, gone_law}
use Rattle.ocr_edt.specs.declared.Edt.{Edt}
use Rattle.ocr_body_meaning.specs.declared.call.Answer.{Answer}
use Rattle.ocr_machine_history.specs.declared.entry.Entry.{Entry}
use Rattle.ocr_machine_history.specs.declared.entry.Entry.TheVariants.{Call, Deliver, Acquire, Wait, Start, Free, End, StaleAcquire}
use Rattle.ocr_machine_history.specs.declared.entry.What.{What}
use Rattle.ocr_machine_parts.specs.declared.part.Part.{Part}
use Rattle.ocr_machine_history.specs.History.{History, Setting}
use Rattle.ocr_machine_history.specs.Made.{Made, MadeBlock, MadeEdt, made, is_new, opened, size_in, creator_in, depc_in}
use Rattle.ocr_body_meaning.specs.Holds.{is_done}
use Rattle.ocr_machine_parts.specs.Calls.{plan_of, asks_in, slots_now, stores_from, argument_words, set_step, set_calls, open_slots, depc_of, link_calls, block_calls, mode_next, event_calls, scope_calls}
use Rattle.ocr_machine_history.specs.Edts.{is_started, is_ended}
use Rattle.ocr_machine_parts.specs.Parts.{Parts, plain_identity, new_identity, identity_of, face, core, parts_of}
use Rattle.ocr_machine_parts.proofs.Fresh.{made_old}
use Rattle.ocr_edt.specs.declared.Identity.{Identity}
use Rattle.ocr_machine_parts.specs.Effects.{awoken, acquired_edt, waiting_edt, started_edt, holding_edt, dropped_edt, ended_edt, creating_core, holding_core, dropping_core, acquiring_core, new_core, called, joined, changed, stale_edt}
use Rattle.ocr_machine_parts.specs.Progress.{with_phase, made_ready, next_on, ready_at, readied_on}
use Rattle.ocr_machine_parts.specs.Kinds.{home_on, size_on, words_on, on_core, progress_in, core_progress, next_in, is_running, is_acquiring, is_acquiring_edt, work_in}
use Rattle.ocr_machine_parts.specs.LegalOn.{IsCallOn}
use Rattle.ocr_machine_parts.specs.Legal.{IsRun, IsLegal}
use Rattle.ocr_machine_laws.specs.Waits.{stands, standing, held_on, rest_on, awaits, IsOrdered, AreStanding, IsOnce, is_gone_on}
use Rattle.ocr_machine_laws.specs.Marks.{mark_in, mark, is_lost_in, IsMarkOf, IsMarked}
use Rattle.ocr_machine_parts.proofs.After.{after_law, linked_core, deps_core}
use Rattle.ocr_machine_parts.proofs.Allowed.{allowed_law}
use Rattle.ocr_machine_laws.proofs.Waiters.{ready_standing, nothing_wanted}
use Rattle.ocr_machine_laws.proofs.Passes.{IsEmptyGone, entry_standing, queue_in}
use Rattle.ocr_slots.specs.Slots as slot
use Rattle.ocr_datablock.specs.Block as block
use Rattle.ocr_datablock.specs.Steps as block_steps
use Rattle.ocr_edt.specs.declared.Edt.TheVariants as phase
use Rattle.ocr_body_meaning.specs.declared.call.Call as body
use Rattle.ocr_body_meaning.specs.declared.call.Call.TheVariants as call
use Rattle.ocr_machine_history.specs.declared.entry.What.TheVariants as what
use Rattle.ocr_machine_parts.specs.declared.part.Part.TheVariants as part
use Rattle.ocr_machine_history.specs.declared.objects.TheConstants.{ARGUMENTS, MAIN_EDT}
use Rattle.ocr_finish.specs.Scope.{ScopeCall}

-- NOBODY STANDS TWICE
once_on : (m : Option Made) (links : List slot.SlotCall) (blocks : List block.BlockCall) (events : List EventCall) (scopes : List ScopeCall) → block_steps.AreAllowed (size_in m) (creator_in m) blocks → block_steps.StandOnce (standing (face m links blocks events scopes))
once_on (Some (MadeBlock n c)) links blocks events scopes are = once_law n c blocks are
once_on other links blocks events scopes are = tt

pub once : (s : Setting) (past : History) → IsRun s past → IsOnce (parts_of s past)
once s past run d = once_on (made s past d) (link_calls past d) (block_calls s past d) (event_calls s past d) (scope_calls past d) (allowed_law s past run d)

-- AT A BLOCK THAT IS GONE nobody stands
nobody_empty : (b : Bool) (xs : List (ℕ × Mode)) → (b && block.is_empty xs) ≡ true → xs ≡ []
nobody_empty b [] is = refl
nobody_empty true (one ∷ rest) is = cc is
nobody_empty false (one ∷ rest) is = cc is

pub gone_face : (md : Option Made) (links : List slot.SlotCall) (blocks : List block.BlockCall) (events : List EventCall) (scopes : List ScopeCall) → is_gone_on (face md links blocks events scopes) ≡ true → standing (face md links blocks events scopes) ≡ []
gone_face (Some (MadeBlock n c)) links blocks events scopes is =
    let holders : block.holders_of c blocks ≡ [] = nobody_empty (block.is_destroyed blocks) (block.holders_of c blocks) is in
    let queue : block.queue_of c blocks ≡ [] = (gone_law c blocks is).0 in
    ap (λ (h : List (ℕ × Mode)). h ++ block.queue_of c blocks) holders ∙ queue
gone_face other links blocks events scopes is = cc is

pub readied_gone : (s : Setting) (past : History) (e : Entry) → IsEmptyGone (readied_on s past e (parts_of s past))
readied_gone s past (Acquire t b) d = gone_face (made s past d) (link_calls past d) (block_calls s past d) (event_calls s past d) (scope_calls past d)
readied_gone s past (Wait t b) d = gone_face (made s past d) (link_calls past d) (block_calls s past d) (event_calls s past d) (scope_calls past d)
readied_gone s past (StaleAcquire t b) d = gone_face (made s past d) (link_calls past d) (block_calls s past d) (event_calls s past d) (scope_calls past d)
readied_gone s past (Start t) d = gone_face (made s past d) (link_calls past d) (block_calls s past d) (event_calls s past d) (scope_calls past d)
readied_gone s past other d = gone_face (made s past d) (link_calls past d) (block_calls s past d) (event_calls s past d) (scope_calls past d)

-- AT THE OPENING nobody holds and nobody waits
stored_line : (xs : List ℕ) (k : ℕ) (ys : List block.BlockCall) → block.line_of 0 (stores_from k xs ++ ys) ≡ block.line_of 0 ys
stored_line [] k ys = refl
stored_line (v ∷ rest) k ys = ap (block.line_of 0) (append_assoc (stores_from (k + 1) rest) (block.Store k v ∷ []) ys) ∙ stored_line rest (k + 1) (block.Store k v ∷ ys)

opened_standing : (s : Setting) (n : ℕ) (b : Bool) (other : Option Made) (links : List slot.SlotCall) → (standing (face other links [] [] []) ≡ []) → standing (face (if b then Some (MadeBlock n 0) else other) links (if b then stores_from 0 (argument_words s) else []) [] []) ≡ []
opened_standing s n true other links none = ap stands (ap (block.line_of 0) (sym (append-nil (stores_from 0 (argument_words s)))) ∙ stored_line (argument_words s) 0 [])
opened_standing s n false other links none = none

first_standing : (b : Bool) (f n : ℕ) (links : List slot.SlotCall) → standing (face (if b then Some (MadeEdt f [] n) else None) links [] [] []) ≡ []
first_standing true f n links = refl
first_standing false f n links = refl

new_awaits : (m : Option Made) (i : Identity) → (awaits (core m i [] []) ≡ None) × (held_on (core m i [] []) ≡ []) × (rest_on (core m i [] []) ≡ [])
new_awaits (Some (MadeEdt f ps n)) i = (refl, refl, refl)
new_awaits other i = (refl, refl, refl)

open_standing : (s : Setting) → AreStanding (parts_of s [])
open_standing s = record {
  waits = λ t d m is live. let none = (new_awaits (opened s t) (plain_identity t)).0 in cc (none, is);
  holds = λ t d m is.
      let none : standing ((parts_of s []).face d) ≡ [] = opened_standing s (length s.args + 1) (d == ARGUMENTS) _ (link_calls [] d) (first_standing (d == MAIN_EDT) _ 1 (link_calls [] d)) in
      absurd (let nobody : mode_in t (standing ((parts_of s []).face d)) ≡ None = ap (mode_in t) none in cc (nobody, is));
  queued = λ t d m is. absurd (queue_in ((parts_of s []).face d) t m (opened_standing s (length s.args + 1) (d == ARGUMENTS) _ (link_calls [] d) (first_standing (d == MAIN_EDT) _ 1 (link_calls [] d))) is);
  ordered = λ t.
      let new = new_awaits (opened s t) (plain_identity t) in
      subst (λ (r : List (ℕ × Mode)). IsOrdered (held_on ((parts_of s []).core t)) r) (sym new.2) (nothing_wanted (held_on ((parts_of s []).core t)));
}

-- AFTER EACH ENTRY
pub readied_standing : (s : Setting) (past : History) (e : Entry) → AreStanding (parts_of s past) → AreStanding (readied_on s past e (parts_of s past))
readied_standing s past (Acquire t d) all = ready_standing (parts_of s past) t (plan_of s past t) all (given_law (asks_in (slots_now s past t)))
readied_standing s past (Wait t d) all = ready_standing (parts_of s past) t (plan_of s past t) all (given_law (asks_in (slots_now s past t)))
readied_standing s past (StaleAcquire t d) all = ready_standing (parts_of s past) t (plan_of s past t) all (given_law (asks_in (slots_now s past t)))
readied_standing s past (Start t) all = ready_standing (parts_of s past) t (plan_of s past t) all (given_law (asks_in (slots_now s past t)))
readied_standing s past other all = all

readied_once : (s : Setting) (past : History) (e : Entry) → IsOnce (parts_of s past) → IsOnce (readied_on s past e (parts_of s past))
readied_once s past (Acquire t d) is = is
readied_once s past (Wait t d) is = is
readied_once s past (StaleAcquire t d) is = is
readied_once s past (Start t) is = is
readied_once s past other is = is

pub standing_law : (s : Setting) (past : History) → IsRun s past → AreStanding (parts_of s past)
standing_law s [] run = open_standing s
standing_law s (e ∷ past) run =
    subst AreStanding (sym (after_law s past e run.0 run.1))
    (entry_standing s.limit e (readied_on s past e (parts_of s past)) (readied_standing s past e (standing_law s past run.0)) (readied_once s past e (once s past run.0)) (readied_gone s past e) run.1.on_parts)

-- MARKS of cores
mark_if : (core : ℕ → Part) (t u : ℕ) (y : Part) → mark y ≡ mark (core t) → mark (if t == u then y else core u) ≡ mark (core u)
mark_if core t u y is = elim (t == u) as (λ b. (t == u) ≡ b → mark (if b then y else core u) ≡ mark (core u)) [
  | true ↦ λ same. is ∙ ap (λ (n : ℕ). mark (core n)) (eqb-true t u same)
  | false ↦ λ _. refl
] refl

dropped_mark : (d : ℕ) (s : Edt) → mark_in (dropped_edt d s) ≡ mark_in s
dropped_mark d (phase.Running w) = refl
dropped_mark d other = refl

holding_mark : (d : ℕ) (s : Edt) → mark_in (holding_edt d s) ≡ mark_in s
holding_mark d (phase.Running w) = refl
holding_mark d other = refl

dropping_mark : (d : ℕ) (c : Part) → mark (on_core c (dropping_core d)) ≡ mark c
dropping_mark d (part.Core c) = dropped_mark d c.edt
dropping_mark d other = refl

creating_mark : (fl d n : ℕ) (c : Part) → mark (on_core c (creating_core fl d n)) ≡ mark c
creating_mark fl d n (part.Core c) = elim (fl == 0) as (λ b. mark (part.Core (if b then holding_core d n c else c)) ≡ mark (part.Core c)) [ true ↦ holding_mark d c.edt | false ↦ refl ]
creating_mark fl d n other = refl

new_mark : (x : Part) (i : Identity) (params : List ℕ) → mark (new_core x i params) ≡ (0, false)
new_mark (part.Template t) i params = refl
new_mark other i params = refl

called_mark : (limit : ℕ) (f : Parts) (t home : ℕ) (c : body.Call) (a : Answer) (w : List (ℕ × ℕ)) → is_done a.code ≡ true → IsCallOn limit f t home c a w → (u : ℕ) → mark ((called t c a w f).core u) ≡ mark (f.core u)
called_mark limit f t home (call.DbCreate n fl) a w on legal u = mark_if f.core t u _ (creating_mark fl a.value (n / 8) (f.core t))
called_mark limit f t home (call.DbRelease d) a w on legal u = mark_if f.core t u _ (dropping_mark d (f.core t))
called_mark limit f t home (call.DbDestroy d) a w on legal u = mark_if f.core t u _ (dropping_mark d (f.core t))
called_mark limit f t home (call.EdtCreate from pc params dc deps flags output) a w on legal u = ap mark (deps_core a.value 0 deps _ u) ∙ mark_if f.core a.value u _ (new_mark (f.face from) (new_identity a.value flags a (home_on (f.core t))) params ∙ ap mark (sym (legal.value.no_core on)))
called_mark limit f t home (call.AddDependence from x i m) a w on legal u = ap mark (linked_core (not (from == 0)) from _ _ u)
called_mark limit f t home other a w on legal u = refl

acquired_mark : (s : Edt) → is_lost_in s ≡ false → mark_in (acquired_edt (awoken s)) ≡ mark_in s
acquired_mark (phase.Waiting p) found = ap (λ (b : Bool). (1, b)) (sym found)
acquired_mark other found = refl

acquiring_mark : (d : ℕ) (m : Mode) (size : ℕ) (words : List ℕ) (c : Part) → (mark c).1 ≡ false → mark (on_core c (acquiring_core d m size words)) ≡ mark c
acquiring_mark d m size words (part.Core c) found = acquired_mark c.edt found
acquiring_mark d m size words other found = refl

stale_mark : (s : Edt) → is_lost_in s ≡ false → mark_in (stale_edt (awoken s)) ≡ mark_in s
stale_mark (phase.Waiting p) found = ap (λ (b : Bool). (1, b)) (sym found)
stale_mark other found = refl

passing_mark : (c : Part) → (mark c).1 ≡ false → mark (on_core c (with_phase (λ e. stale_edt (awoken e)))) ≡ mark c
passing_mark (part.Core c) found = stale_mark c.edt found
passing_mark other found = refl

waiting_mark : (s : Edt) (x : ℕ × Mode) → is_acquiring_edt s ≡ true → next_in (progress_in s) ≡ Some x → mark_in (waiting_edt s) ≡ mark_in s
waiting_mark (phase.Acquiring p) x acquiring next = ap (λ (o : Option (ℕ × Mode)). (1, not (is_some o))) next
waiting_mark other x acquiring next = cc acquiring

waited_mark : (c : Part) (x : ℕ × Mode) → is_acquiring c ≡ true → next_in (core_progress c) ≡ Some x → mark (on_core c (with_phase waiting_edt)) ≡ mark c
waited_mark (part.Core c) x acquiring next = waiting_mark c.edt x acquiring next
waited_mark other x acquiring next = cc acquiring

started_mark : (s : Edt) → is_acquiring_edt s ≡ true → (mark_in (started_edt s) ≡ (2, false)) × (mark_in s ≡ (1, false))
started_mark (phase.Acquiring p) acquiring = (refl, refl)
started_mark other acquiring = cc acquiring

start_mark : (c : Part) → is_acquiring c ≡ true → (mark (on_core c (with_phase started_edt)) ≡ (2, false)) × (mark c ≡ (1, false))
start_mark (part.Core c) acquiring = started_mark c.edt acquiring
start_mark other acquiring = cc acquiring

ended_mark : (s : Edt) → is_some (work_in s) ≡ true → (mark_in (ended_edt s) ≡ (3, false)) × (mark_in s ≡ (2, false))
ended_mark (phase.Running w) running = (refl, refl)
ended_mark other running = cc running

end_mark : (c : Part) → is_running c ≡ true → (mark (on_core c (with_phase ended_edt)) ≡ (3, false)) × (mark c ≡ (2, false))
end_mark (part.Core c) running = ended_mark c.edt running
end_mark other running = cc running

-- SLOTS that are set stay set
none_left : (p q : ℕ → Bool) → ((k : ℕ) → q k ≡ true → p k ≡ true) → (xs : List ℕ) → filter p xs ≡ [] → filter q xs ≡ []
none_left p q less [] is = refl
none_left p q less (x ∷ xs) is = elim (p x) as (λ b. p x ≡ b → cond b (x ∷ filter p xs) (filter p xs) ≡ [] → filter q (x ∷ xs) ≡ []) [
  | true ↦ λ _ is. cc is
  | false ↦ λ off is. elim (q x) as (λ c. q x ≡ c → cond c (x ∷ filter q xs) (filter q xs) ≡ []) [
    | true ↦ λ on. absurd (let more : p x ≡ true = less x on in cc (more, off))
    | false ↦ λ _. none_left p q less xs is
  ] refl
] refl is

still_set : (calls : List slot.SlotCall) (i p k : ℕ) → not (slot.is_set (slot.Setting i p ∷ calls) k) ≡ true → not (slot.is_set calls k) ≡ true
still_set calls i p k is = elim (i == k) as (λ b. not (is_some (if b then Some p else slot.payload_of calls k)) ≡ true → not (slot.is_set calls k) ≡ true) [
  | true ↦ λ is. cc is
  | false ↦ λ is. is
] is

step_set : (w : What) (t n : ℕ) (calls : List slot.SlotCall) → slot.open_slots n calls ≡ [] → slot.open_slots n (set_step w t calls) ≡ []
step_set (what.Set x i p) t n calls is = elim (x == t) as (λ b. slot.open_slots n (if b then slot.Setting i p ∷ calls else calls) ≡ []) [
  | true ↦ none_left (λ k. not (slot.is_set calls k)) (λ k. not (slot.is_set (slot.Setting i p ∷ calls) k)) (still_set calls i p) (slot.slots_of n) is
  | false ↦ is
]
step_set other t n calls is = is

-- WHAT IS TOLD stays told
fresh_mark : (m : Option Made) (i : Identity) → mark (core m i [] []) ≡ (0, false)
fresh_mark (Some (MadeEdt f ps n)) i = refl
fresh_mark other i = refl

new_told : (s : Setting) (past : History) (t home : ℕ) (c : body.Call) (a : Answer) (w : List (ℕ × ℕ)) (u : ℕ) (b : Bool) → is_new c a u ≡ b
    → IsMarkOf s past u (mark ((parts_of s past).core u)) → mark ((parts_of s (Call t home c a w ∷ past)).core u) ≡ mark ((parts_of s past).core u) → IsMarkOf s (Call t home c a w ∷ past) u (mark ((parts_of s (Call t home c a w ∷ past)).core u))
new_told s past t home c a w u true is told same =
    let new : mark ((parts_of s (Call t home c a w ∷ past)).core u) ≡ (0, false) = rw is (fresh_mark (made s (Call t home c a w ∷ past) u) (identity_of (Call t home c a w ∷ past) u)) in
    let was : IsMarkOf s past u (0, false) = subst (IsMarkOf s past u) (sym same ∙ new) told in
    subst (IsMarkOf s (Call t home c a w ∷ past) u) (sym new) (record { has_started = was.has_started; has_ended = was.has_ended; all_set = λ on. cc on; wants = refl })
new_told s past t home c a w u false is told same =
    let here : made s (Call t home c a w ∷ past) u ≡ made s past u = made_old s past t home c a w u is in
    let sets : set_calls (Call t home c a w ∷ past) u ≡ set_calls past u = rw is refl in
    let slots : open_slots s (Call t home c a w ∷ past) u ≡ open_slots s past u =
    ap (λ (m : Option Made). slot.open_slots (depc_in m) (set_calls (Call t home c a w ∷ past) u)) here ∙ ap (slot.open_slots (depc_of s past u)) sets in
    subst (IsMarkOf s (Call t home c a w ∷ past) u) (sym same) (record { has_started = told.has_started; has_ended = told.has_ended; all_set = λ on. slots ∙ told.all_set on; wants = told.wants })

-- made ready
ready_edt : (s : Setting) (past : History) (u : ℕ) (members : List (ℕ × Mode)) (e : Edt) → open_slots s past u ≡ [] → IsMarkOf s past u (mark_in e) → IsMarkOf s past u (mark_in (made_ready members e))
ready_edt s past u members (phase.Filling i) set told = record { has_started = told.has_started; has_ended = told.has_ended; all_set = λ _. set; wants = refl }
ready_edt s past u members other set told = told

ready_part : (s : Setting) (past : History) (u : ℕ) (members : List (ℕ × Mode)) (c : Part) → open_slots s past u ≡ [] → IsMarkOf s past u (mark c) → IsMarkOf s past u (mark (on_core c (with_phase (made_ready members))))
ready_part s past u members (part.Core c) set told = ready_edt s past u members c.edt set told
ready_part s past u members other set told = told

pub ready_told : (s : Setting) (past : History) (t u : ℕ) (members : List (ℕ × Mode)) → open_slots s past t ≡ [] → IsMarkOf s past u (mark ((parts_of s past).core u)) → IsMarkOf s past u (mark ((ready_at t members (parts_of s past)).core u))
ready_told s past t u members set told =
    let c = (parts_of s past).core in
    elim (t == u) as (λ b. (t == u) ≡ b → IsMarkOf s past u (mark (if b then on_core (c t) (with_phase (made_ready members)) else c u))) [
      | true ↦ λ same.
          let e : t ≡ u = eqb-true t u same in
          subst (λ (n : ℕ). IsMarkOf s past u (mark (on_core (c n) (with_phase (made_ready members))))) (sym e)
          (ready_part s past u members (c u) (subst (λ (n : ℕ). open_slots s past n ≡ []) e set) told)
      | false ↦ λ _. told
    ] refl

-- a start and an end
start_told : (s : Setting) (past : History) (t u : ℕ) (f : Parts) → is_acquiring (f.core t) ≡ true → ((n : ℕ) → IsMarkOf s past n (mark (f.core n))) → IsMarkOf s (Start t ∷ past) u (mark (if t == u then on_core (f.core t) (with_phase started_edt) else f.core u))
start_told s past t u f acquiring told =
    elim (t == u) as (λ b. (t == u) ≡ b → IsMarked (b || is_started past u) (is_ended past u) (open_slots s past u) (mark (if b then on_core (f.core t) (with_phase started_edt) else f.core u))) [
      | true ↦ λ same.
          let marks = start_mark (f.core t) acquiring in
          let was : IsMarkOf s past u (1, false) = subst (IsMarkOf s past u) (ap (λ (n : ℕ). mark (f.core n)) (sym (eqb-true t u same)) ∙ marks.1) (told u) in
          subst (IsMarked true (is_ended past u) (open_slots s past u)) (sym marks.0) (record { has_started = refl; has_ended = was.has_ended; all_set = λ _. was.all_set refl; wants = refl })
      | false ↦ λ _. told u
    ] refl

end_told : (s : Setting) (past : History) (t g u : ℕ) (f : Parts) → is_running (f.core t) ≡ true → ((n : ℕ) → IsMarkOf s past n (mark (f.core n))) → IsMarkOf s (End t g ∷ past) u (mark (if t == u then on_core (f.core t) (with_phase ended_edt) else f.core u))
end_told s past t g u f running told =
    elim (t == u) as (λ b. (t == u) ≡ b → IsMarked (is_started past u) (b || is_ended past u) (open_slots s past u) (mark (if b then on_core (f.core t) (with_phase ended_edt) else f.core u))) [
      | true ↦ λ same.
          let marks = end_mark (f.core t) running in
          let was : IsMarkOf s past u (2, false) = subst (IsMarkOf s past u) (ap (λ (n : ℕ). mark (f.core n)) (sym (eqb-true t u same)) ∙ marks.1) (told u) in
          subst (IsMarked (is_started past u) true (open_slots s past u)) (sym marks.0) (record { has_started = was.has_started; has_ended = refl; all_set = λ _. was.all_set refl; wants = refl })
      | false ↦ λ _. told u
    ] refl

-- EACH ENTRY
after_mark : (s : Setting) (past : History) (e : Entry) → IsRun s past → IsLegal s past e → (u : ℕ) → mark ((changed e (readied_on s past e (parts_of s past))).core u) ≡ mark ((parts_of s (e ∷ past)).core u)
after_mark s past e run legal u = ap (λ (f : Parts). mark (f.core u)) (sym (after_law s past e run legal))

if_mark : (limit : ℕ) (f : Parts) (t home : ℕ) (c : body.Call) (a : Answer) (w : List (ℕ × ℕ)) → IsCallOn limit f t home c a w → (u : ℕ) → mark ((if is_done a.code then joined c home (called t c a w f) else f).core u) ≡ mark (f.core u)
if_mark limit f t home c a w legal u = elim (is_done a.code) as (λ b. is_done a.code ≡ b → mark ((if b then joined c home (called t c a w f) else f).core u) ≡ mark (f.core u)) [
  | true ↦ λ on. called_mark limit f t home c a w on legal u
  | false ↦ λ _. refl
] refl

open_told : (s : Setting) (u : ℕ) → IsMarkOf s [] u (mark ((parts_of s []).core u))
open_told s u = subst (IsMarkOf s [] u) (sym (fresh_mark (opened s u) (plain_identity u))) (record { has_started = refl; has_ended = refl; all_set = λ on. cc on; wants = refl })

pub told_law : (s : Setting) (past : History) → IsRun s past → (u : ℕ) → IsMarkOf s past u (mark ((parts_of s past).core u))
told_law s [] run u = open_told s u
told_law s (Call t home c a w ∷ past) run u =
    new_told s past t home c a w u (is_new c a u) refl (told_law s past run.0 u)
    (sym (after_mark s past (Call t home c a w) run.0 run.1 u) ∙ if_mark s.limit (parts_of s past) t home c a w run.1.on_parts u)
told_law s (Deliver m code ∷ past) run u =
    let told = told_law s past run.0 u in
    record { has_started = told.has_started; has_ended = told.has_ended; all_set = λ on. step_set m.what u (depc_of s past u) (set_calls past u) (told.all_set on); wants = told.wants }
told_law s (Acquire t d ∷ past) run u =
    let f = ready_at t (plan_of s past t) (parts_of s past) in
    let told = λ (n : ℕ). ready_told s past t n (plan_of s past t) run.1.on_facts (told_law s past run.0 n) in
    let same : mark ((changed (Acquire t d) f).core u) ≡ mark (f.core u) = mark_if f.core t u _ (acquiring_mark d (mode_next (next_on f t)) (size_on (f.face d)) (words_on (f.face d)) (f.core t) (told t).wants) in
    subst (IsMarkOf s past u) (sym same ∙ after_mark s past (Acquire t d) run.0 run.1 u) (told u)
told_law s (Wait t d ∷ past) run u =
    let f = ready_at t (plan_of s past t) (parts_of s past) in
    let told = λ (n : ℕ). ready_told s past t n (plan_of s past t) run.1.on_facts (told_law s past run.0 n) in
    let same : mark ((changed (Wait t d) f).core u) ≡ mark (f.core u) = mark_if f.core t u _ (waited_mark (f.core t) _ run.1.on_parts.acquiring run.1.on_parts.next) in
    subst (IsMarkOf s past u) (sym same ∙ after_mark s past (Wait t d) run.0 run.1 u) (told u)
told_law s (StaleAcquire t d ∷ past) run u =
    let f = ready_at t (plan_of s past t) (parts_of s past) in
    let told = λ (n : ℕ). ready_told s past t n (plan_of s past t) run.1.on_facts (told_law s past run.0 n) in
    let same : mark ((changed (StaleAcquire t d) f).core u) ≡ mark (f.core u) = mark_if f.core t u _ (passing_mark (f.core t) (told t).wants) in
    subst (IsMarkOf s past u) (sym same ∙ after_mark s past (StaleAcquire t d) run.0 run.1 u) (told u)
told_law s (Start t ∷ past) run u =
    let f = ready_at t (plan_of s past t) (parts_of s past) in
    let told = λ (n : ℕ). ready_told s past t n (plan_of s past t) run.1.on_facts (told_law s past run.0 n) in
    subst (IsMarkOf s (Start t ∷ past) u) (after_mark s past (Start t) run.0 run.1 u) (start_told s past t u f run.1.on_parts.acquiring told)
told_law s (Free t d w ∷ past) run u =
    let f = parts_of s past in
    let same : mark ((changed (Free t d w) f).core u) ≡ mark (f.core u) = mark_if f.core t u _ (dropping_mark d (f.core t)) in
    subst (IsMarkOf s past u) (sym same ∙ after_mark s past (Free t d w) run.0 run.1 u) (told_law s past run.0 u)
told_law s (End t g ∷ past) run u =
    subst (IsMarkOf s (End t g ∷ past) u) (after_mark s past (End t g) run.0 run.1 u) (end_told s past t g u (parts_of s past) run.1.on_parts.running (told_law s past run.0))
told_law s (e ∷ past) run u = told_law s past run.0 u
