-- Where a block is acquired in EW or CONST nobody holds it for writing, and whoever wrote into it has ended the hold.
use Rattle.std.proofs.Common.{◌≡◌, inl, inr, ℕ, ◌<◌, ◌/◌, List, [], ◌∷◌, ◌++◌, Bool, true, false, not, Option, Some, None, ◌==◌, ◌&&◌, if◌then◌else◌, refl, sym, ◌∙◌, ap, subst, is_some, arith}
use Rattle.std.proofs.lemmas.Bool.{eqb-true}
use Rattle.ocr_base.proofs.Booleans.{same, eqb_flips}
use Rattle.ocr_guid.specs.Target.{EventCall}
use Rattle.ocr_acquire.specs.declared.Mode.{Mode}
use Rattle.ocr_acquire.specs.declared.Mode.TheVariants as mode
use Rattle.ocr_acquire.specs.Mode.{mode_in, together, is_isolated, is_writable}
use Rattle.ocr_slots.specs.Slots as slot
use Rattle.ocr_slots.specs.Steps.{after_link}
use Rattle.ocr_datablock.specs.Block as block
use Rattle.ocr_datablock.proofs.Laws.{holders_law}
use Rattle.ocr_datablock.proofs.Lines.{holders_together}
use Rattle.ocr_edt.specs.declared.Edt.{Edt}
use Rattle.ocr_edt.specs.declared.Edt.TheVariants as phase
use Rattle.ocr_edt.specs.declared.Identity.{Identity}
use Rattle.ocr_edt.specs.Phases.{without}
use Rattle.ocr_edt.proofs.Holds.{mode_in-without, mode_in-other, mode_in-placed_other}
use Rattle.ocr_finish.specs.Scope.{ScopeCall}
use Rattle.ocr_body_meaning.specs.Holds.{is_done}
use Rattle.ocr_body_meaning.specs.declared.call.Call as body
use Rattle.ocr_body_meaning.specs.declared.call.Call.TheVariants as call
use Rattle.ocr_body_meaning.specs.declared.call.Answer.{Answer}
use Rattle.ocr_machine_history.specs.declared.entry.Entry.{Entry}
use Rattle.ocr_machine_history.specs.declared.entry.Entry.TheVariants.{Call, Acquire, Wait, StaleAcquire, Start, Free, End}
use Rattle.ocr_machine_history.specs.Edts.{is_started}
use Rattle.ocr_machine_history.specs.History.{History, Setting}
use Rattle.ocr_machine_history.specs.Made.{Made, MadeBlock, made, is_new}
use Rattle.ocr_machine_parts.specs.declared.loans.Kept.{Kept}
use Rattle.ocr_machine_parts.specs.declared.part.Part.{Part}
use Rattle.ocr_machine_parts.specs.declared.part.Part.TheVariants as part
use Rattle.ocr_machine_parts.specs.Calls.{mode_next, mode_named, target_of, plan_of, block_calls, link_calls, event_calls, scope_calls}
use Rattle.ocr_machine_parts.specs.Parts.{Parts, face, parts_of}
use Rattle.ocr_machine_parts.specs.Kinds.{IsBlock, is_edt_face, with_links, on_core, progress_in, core_progress, next_in, size_on, words_on}
use Rattle.ocr_machine_parts.specs.Effects.{awoken, acquired_edt, acquiring_core, acquired, joined, called, dropped_edt, dropping_core, holding_edt, creating_core, holding_core, ended_edt, new_core}
use Rattle.ocr_machine_parts.specs.Progress.{next_on, with_face, with_phase, made_ready, ready_at, next_mode_on}
use Rattle.ocr_machine_parts.specs.Legal.{IsRun, IsLegal}
use Rattle.ocr_machine_parts.proofs.After.{after_law, linked_core, deps_core}
use Rattle.ocr_machine_parts.proofs.Lent.{ready_core}
use Rattle.ocr_machine_laws.specs.Waits.{held_in, rest_in, held_on, rest_on, IsOrdered}
use Rattle.ocr_machine_laws.proofs.Waiters.{advances}
use Rattle.ocr_machine_laws.specs.Held.{IsKeptWith}
use Rattle.ocr_machine_laws.proofs.Found.{kept_with}
use Rattle.ocr_machine_laws.proofs.Permanence.{made_law, not_new}
use Rattle.ocr_machine_laws.proofs.Own.{started_by, not_started, goes_on, still_started}
use Rattle.ocr_machine_laws.proofs.Plain.{next_law, now_next, acquire_law}
use Rattle.ocr_machine_laws.specs.Memory.{hold_of, is_for_writing, AcquiredLaw, NoWriterLaw, EndedLaw}
use Rattle.ocr_machine_laws.proofs.Written.{IsWrite, writer}
use Rattle.ocr_machine_laws.proofs.Said.{apart}

-- WHO ACQUIRES the block has not held it
ready_edt : (members : List (ℕ × Mode)) (e : Edt) → held_in (made_ready members e) ≡ held_in e
ready_edt members (phase.Filling i) = refl
ready_edt members other = refl

pub ready_held : (members : List (ℕ × Mode)) (x : Part) → held_on (on_core x (with_phase (made_ready members))) ≡ held_on x
ready_held members (part.Core c) = ready_edt members c.edt
ready_held members other = refl

unheld : (s : Setting) (past : History) (t d : ℕ) → IsRun s past → IsLegal s past (Acquire t d) → hold_of s past t d ≡ None
unheld s past t d run legal =
    let f : Parts = ready_at t (plan_of s past t) (parts_of s past) in
    let above = (now_next s past t d (next_mode_on f t) run legal.on_facts legal.on_parts.next).facts.above in
    let held : held_on (f.core t) ≡ held_on ((parts_of s past).core t) = ap held_on (ready_core s past t) ∙ ready_held (plan_of s past t) ((parts_of s past).core t) in
    elim (hold_of s past t d) as (λ o. hold_of s past t d ≡ o → o ≡ None) [
      | None ↦ λ _. refl
      | Some k ↦ λ is. absurd (let below : d < d = above d (ap (λ (l : List (ℕ × Mode)). is_some (mode_in d l)) held ∙ ap (λ (o : Option Mode). is_some o) is) in omega (arith, below))
    ] refl

-- and holds it then in the mode of its plan
taken_edt : (e : Edt) (d : ℕ) (m : Mode) → next_in (progress_in e) ≡ Some (d, m) → IsOrdered (held_in e) (rest_in e) → mode_in d (held_in (acquired_edt (awoken e))) ≡ Some m
taken_edt (phase.Acquiring p) d m next ordered = (advances p.identity p.holds p.stale p.rest d m next ordered).here
taken_edt (phase.Waiting p) d m next ordered = (advances p.identity p.holds p.stale p.rest d m next ordered).here
taken_edt other d m next ordered = cc next

taken_held : (x : Part) (d : ℕ) (m : Mode) (size : ℕ) (words : List ℕ) → next_in (core_progress x) ≡ Some (d, m) → IsOrdered (held_on x) (rest_on x) → mode_in d (held_on (on_core x (acquiring_core d m size words))) ≡ Some m
taken_held (part.Core c) d m size words next ordered = taken_edt c.edt d m next ordered
taken_held other d m size words next ordered = cc next

acquired_held : (f : Parts) (t d : ℕ) (m : Mode) → next_on f t ≡ Some (d, m) → IsOrdered (held_on (f.core t)) (rest_on (f.core t)) → mode_in d (held_on ((acquired f t d).core t)) ≡ Some m
acquired_held f t d m next ordered =
    let mode : next_mode_on f t ≡ m = ap mode_next next in
    rw (same t)
    (ap (λ (k : Mode). mode_in d (held_on (on_core (f.core t) (acquiring_core d k (size_on (f.face d)) (words_on (f.face d)))))) mode
    ∙ taken_held (f.core t) d m (size_on (f.face d)) (words_on (f.face d)) next ordered)

pub acquired_law : AcquiredLaw
acquired_law s past t d m run planned =
    let f : Parts = ready_at t (plan_of s past t) (parts_of s past) in
    let may = (acquire_law s past t d run.0).0 run.1 in
    let next : next_on f t ≡ Some (d, m) = next_law s past t run.0 may.1.ready.made may.1.ready.not_started ∙ planned in
    let all = (now_next s past t d m run.0 run.1.on_facts next).all in
    ap (λ (g : Parts). mode_in d (held_on (g.core t))) (after_law s past (Acquire t d) run.0 run.1) ∙ acquired_held f t d m next (all.ordered t)

-- WHAT ANOTHER EDT HOLDS stays
other_acquires : (s : Setting) (past : History) (t b u d : ℕ) → (t == u) ≡ false → hold_of s (Acquire t b ∷ past) u d ≡ hold_of s past u d
other_acquires s past t b u d off =
    let cores : (parts_of s (Acquire t b ∷ past)).core u ≡ (parts_of s past).core u = rw off (refl {a = (parts_of s past).core u}) in
    ap (λ (x : Part). mode_in d (held_on x)) cores

other_waits : (s : Setting) (past : History) (t b u d : ℕ) → (t == u) ≡ false → hold_of s (Wait t b ∷ past) u d ≡ hold_of s past u d
other_waits s past t b u d off =
    let cores : (parts_of s (Wait t b ∷ past)).core u ≡ (parts_of s past).core u = rw off (refl {a = (parts_of s past).core u}) in
    ap (λ (x : Part). mode_in d (held_on x)) cores

other_passes : (s : Setting) (past : History) (t b u d : ℕ) → (t == u) ≡ false → hold_of s (StaleAcquire t b ∷ past) u d ≡ hold_of s past u d
other_passes s past t b u d off =
    let cores : (parts_of s (StaleAcquire t b ∷ past)).core u ≡ (parts_of s past).core u = rw off (refl {a = (parts_of s past).core u}) in
    ap (λ (x : Part). mode_in d (held_on x)) cores

other_starts : (s : Setting) (past : History) (t u d : ℕ) → (t == u) ≡ false → hold_of s (Start t ∷ past) u d ≡ hold_of s past u d
other_starts s past t u d off =
    let cores : (parts_of s (Start t ∷ past)).core u ≡ (parts_of s past).core u = rw off (refl {a = (parts_of s past).core u}) in
    ap (λ (x : Part). mode_in d (held_on x)) cores

-- WHO HOLDS A BLOCK beside EW or CONST does not write
pub both_hold : (md : Option Made) (links : List slot.SlotCall) (blocks : List block.BlockCall) (events : List EventCall) (scopes : List ScopeCall) (u t : ℕ) (k m : Mode) (one two : Kept) → (u == t) ≡ false → IsBlock (face md links blocks events scopes) (IsKeptWith u k one)
    → IsBlock (face md links blocks events scopes) (IsKeptWith t m two) → together k m ≡ true
both_hold (Some (MadeBlock n c)) links blocks events scopes u t k m one two apart is other = holders_together u t k m (block.holders_of c blocks) (holders_law c blocks) apart is.holder other.holder
both_hold rest links blocks events scopes u t k m one two apart is other = absurd is

beside_isolated : (k m : Mode) → together k m ≡ true → is_isolated m ≡ true → is_writable k ≡ false
beside_isolated mode.Rw mode.Rw is isolated = cc isolated
beside_isolated mode.Rw mode.Ro is isolated = cc isolated
beside_isolated mode.Rw other is isolated = cc is
beside_isolated mode.Ew m is isolated = cc is
beside_isolated other m is isolated = refl

no_other_writer : (s : Setting) (past : History) (t d : ℕ) (m : Mode) (u : ℕ) → IsRun s past → hold_of s past t d ≡ Some m → is_isolated m ≡ true → (u == t) ≡ false → is_for_writing (hold_of s past u d) ≡ false
no_other_writer s past t d m u run held isolated apart = elim (hold_of s past u d) as (λ o. hold_of s past u d ≡ o → is_for_writing o ≡ false) [
  | None ↦ λ _. refl
  | Some k ↦ λ is.
      let one = kept_with s past u d k run is in
      let two = kept_with s past t d m run held in
      beside_isolated k m (both_hold (made s past d) (link_calls past d) (block_calls s past d) (event_calls s past d) (scope_calls past d) u t k m one.0 two.0 apart one.2 two.2) isolated
] refl

pub no_writer_law : NoWriterLaw
no_writer_law s past t d m u run held isolated = elim (t == u) as (λ b. (t == u) ≡ b → is_for_writing (hold_of s past u d) ≡ false) [
  | true ↦ λ here. subst (λ (n : ℕ). is_for_writing (hold_of s past n d) ≡ false) (eqb-true t u here) (ap is_for_writing (unheld s past t d run.0 run.1))
  | false ↦ λ apart.
      ap is_for_writing (sym (other_acquires s past t d u d apart))
      ∙ no_other_writer s (Acquire t d ∷ past) t d m u run held isolated (eqb_flips u t ∙ apart)
] refl

-- A HOLD of an EDT that has started was there before, in its mode. It drops holds
dropped_edt_came : (e : Edt) (b d : ℕ) (k : Mode) → mode_in d (held_in (dropped_edt b e)) ≡ Some k → mode_in d (held_in e) ≡ Some k
dropped_edt_came (phase.Running w) b d k is = elim (d == b) as (λ x. (d == b) ≡ x → mode_in d w.holds ≡ Some k) [
  | true ↦ λ here. absurd (
      let none : mode_in d (without b w.holds) ≡ None = subst (λ (n : ℕ). mode_in d (without n w.holds) ≡ None) (eqb-true d b here) (mode_in-without d w.holds) in
      cc (none, is))
  | false ↦ λ apart. sym (mode_in-other b d w.holds apart) ∙ is
] refl
dropped_edt_came other b d k is = is

pub dropped_came : (x : Part) (b d : ℕ) (k : Mode) → mode_in d (held_on (on_core x (dropping_core b))) ≡ Some k → mode_in d (held_on x) ≡ Some k
dropped_came (part.Core c) b d k is = dropped_edt_came c.edt b d k is
dropped_came other b d k is = is

-- holds a block that it makes
holding_came : (e : Edt) (g d : ℕ) (k : Mode) → (d == g) ≡ false → mode_in d (held_in (holding_edt g e)) ≡ Some k → mode_in d (held_in e) ≡ Some k
holding_came (phase.Running w) g d k apart is = sym (mode_in-placed_other g d mode.Rw (without g w.holds) apart ∙ mode_in-other g d w.holds apart) ∙ is
holding_came other g d k apart is = is

created_came : (x : Part) (fl g n d : ℕ) (k : Mode) → (d == g) ≡ false → mode_in d (held_on (on_core x (creating_core fl g n))) ≡ Some k → mode_in d (held_on x) ≡ Some k
created_came (part.Core c) fl g n d k apart is = elim (fl == 0) as (λ b. mode_in d (held_in (if b then holding_core g n c else c).edt) ≡ Some k → mode_in d (held_in c.edt) ≡ Some k) [
  | true ↦ λ is. holding_came c.edt g d k apart is
  | false ↦ λ is. is
] is
created_came other fl g n d k apart is = is

-- and ends
ended_edt_came : (e : Edt) (d : ℕ) (k : Mode) → mode_in d (held_in (ended_edt e)) ≡ Some k → mode_in d (held_in e) ≡ Some k
ended_edt_came (phase.Running w) d k is = cc is
ended_edt_came other d k is = is

pub ended_came : (x : Part) (d : ℕ) (k : Mode) → mode_in d (held_on (on_core x (with_phase ended_edt))) ≡ Some k → mode_in d (held_on x) ≡ Some k
ended_came (part.Core c) d k is = ended_edt_came c.edt d k is
ended_came other d k is = is

-- where one core changes
pub core_came : (core : ℕ → Part) (t u d : ℕ) (k : Mode) (y : Part) → (mode_in d (held_on y) ≡ Some k → mode_in d (held_on (core t)) ≡ Some k) → mode_in d (held_on (if t == u then y else core u)) ≡ Some k → mode_in d (held_on (core u)) ≡ Some k
core_came core t u d k y own is = elim (t == u) as (λ b. (t == u) ≡ b → mode_in d (held_on (if b then y else core u)) ≡ Some k → mode_in d (held_on (core u)) ≡ Some k) [
  | true ↦ λ here is. subst (λ (n : ℕ). mode_in d (held_on (core n)) ≡ Some k) (eqb-true t u here) (own is)
  | false ↦ λ _ is. is
] refl is

-- a new EDT holds nothing
new_none : (x : Part) (i : Identity) (params : List ℕ) (d : ℕ) (k : Mode) → mode_in d (held_on (new_core x i params)) ≡ Some k → ⊥
new_none (part.Template t) i params d k is = cc is
new_none other i params d k is = cc is

called_came : (f : Parts) (t : ℕ) (c : body.Call) (a : Answer) (w : List (ℕ × ℕ)) (u d : ℕ) (k : Mode) → is_done a.code ≡ true → is_new c a d ≡ false → mode_in d (held_on ((called t c a w f).core u)) ≡ Some k → mode_in d (held_on (f.core u)) ≡ Some k
called_came f t (call.DbCreate n fl) a w u d k on old is =
    let apart : (a.value == d) ≡ false = sym (ap (λ (b : Bool). b && (a.value == d)) on) ∙ old in
    core_came f.core t u d k (on_core (f.core t) (creating_core fl a.value (n / 8))) (created_came (f.core t) fl a.value (n / 8) d k (eqb_flips d a.value ∙ apart)) is
called_came f t (call.DbRelease b) a w u d k on old is = core_came f.core t u d k (on_core (f.core t) (dropping_core b)) (dropped_came (f.core t) b d k) is
called_came f t (call.DbDestroy b) a w u d k on old is = core_came f.core t u d k (on_core (f.core t) (dropping_core b)) (dropped_came (f.core t) b d k) is
called_came f t (call.AddDependence from x i m) a w u d k on old is =
    let linked : Parts = with_face f x (with_links (f.face x) (λ slots. after_link slots i (mode_named m))) in
    sym (ap (λ (y : Part). mode_in d (held_on y)) (linked_core (not (from == 0)) from (target_of (is_edt_face (f.face x)) x i) linked u)) ∙ is
called_came f t (call.EdtCreate from pc ps dc ds fl out) a w u d k on old is =
    core_came f.core a.value u d k (new_core (f.face from) _ ps) (λ new. absurd (new_none (f.face from) _ ps d k new))
    (sym (ap (λ (y : Part). mode_in d (held_on y)) (deps_core a.value 0 ds _ u)) ∙ is)
called_came f t other a w u d k on old is = is

pub call_came : (f : Parts) (t home : ℕ) (c : body.Call) (a : Answer) (w : List (ℕ × ℕ)) (u d : ℕ) (k : Mode) → is_new c a d ≡ false → mode_in d (held_on ((if is_done a.code then joined c home (called t c a w f) else f).core u)) ≡ Some k → mode_in d (held_on (f.core u)) ≡ Some k
call_came f t home c a w u d k old is = elim (is_done a.code) as (λ b. is_done a.code ≡ b → mode_in d (held_on ((if b then joined c home (called t c a w f) else f).core u)) ≡ Some k → mode_in d (held_on (f.core u)) ≡ Some k) [
  | true ↦ λ on is. called_came f t c a w u d k on old is
  | false ↦ λ _ is. is
] refl is

came : (s : Setting) (past : History) (e : Entry) (u d : ℕ) (k : Mode) → IsRun s past → IsLegal s past e → (made s past d ≡ None → ⊥) → is_started past u ≡ true → hold_of s (e ∷ past) u d ≡ Some k → hold_of s past u d ≡ Some k
came s past (Call t home c a w) u d k run legal there on is =
    call_came (parts_of s past) t home c a w u d k (not_new s past t home c a w d legal.on_parts there)
    (sym (ap (λ (f : Parts). mode_in d (held_on (f.core u))) (after_law s past (Call t home c a w) run legal)) ∙ is)
came s past (Acquire t b) u d k run legal there on is = sym (other_acquires s past t b u d (apart past t u on (goes_on s past t _ run legal.on_facts legal.on_parts.next))) ∙ is
came s past (Wait t b) u d k run legal there on is = sym (other_waits s past t b u d (apart past t u on (goes_on s past t _ run legal.on_facts legal.on_parts.next))) ∙ is
came s past (StaleAcquire t b) u d k run legal there on is = sym (other_passes s past t b u d (apart past t u on (goes_on s past t _ run legal.on_facts legal.on_parts.next))) ∙ is
came s past (Start t) u d k run legal there on is = sym (other_starts s past t u d (apart past t u on (not_started s past t run legal))) ∙ is
came s past (Free t b w) u d k run legal there on is =
    let x : Part = (parts_of s past).core t in
    core_came (parts_of s past).core t u d k (on_core x (dropping_core b)) (dropped_came x b d k)
    (sym (ap (λ (f : Parts). mode_in d (held_on (f.core u))) (after_law s past (Free t b w) run legal)) ∙ is)
came s past (End t g) u d k run legal there on is =
    let x : Part = (parts_of s past).core t in
    core_came (parts_of s past).core t u d k (on_core x (with_phase ended_edt)) (ended_came x d k)
    (sym (ap (λ (f : Parts). mode_in d (held_on (f.core u))) (after_law s past (End t g) run legal)) ∙ is)
came s past other u d k run legal there on is = is

started_since : (later past : History) (t : ℕ) → is_started past t ≡ true → is_started (later ++ past) t ≡ true
started_since [] past t is = is
started_since (e ∷ later) past t is = still_started (later ++ past) e t (started_since later past t is)

pub made_since : (s : Setting) (later past : History) (d : ℕ) (m : Made) → IsRun s (later ++ past) → made s past d ≡ Some m → made s (later ++ past) d ≡ Some m
made_since s [] past d m run is = is
made_since s (e ∷ later) past d m run is = made_law s (later ++ past) e d m run.1 (made_since s later past d m run.0 is)

pub run_before : (s : Setting) (later past : History) → IsRun s (later ++ past) → IsRun s past
run_before s [] past run = run
run_before s (e ∷ later) past run = run_before s later past run.0

came_since : (s : Setting) (later past : History) (u d : ℕ) (m : Made) (k : Mode) → IsRun s (later ++ past) → made s past d ≡ Some m → is_started past u ≡ true → hold_of s (later ++ past) u d ≡ Some k → hold_of s past u d ≡ Some k
came_since s [] past u d m k run there on is = is
came_since s (e ∷ later) past u d m k run there on is =
    let still : made s (later ++ past) d ≡ Some m = made_since s later past d m run.0 there in
    came_since s later past u d m k run.0 there on
    (came s (later ++ past) e u d k run.0 run.1 (λ none. cc (none, still)) (started_since later past u on) is)

pub some_made : (o : Option Made) → (o ≡ None → ⊥) → (m : Made) × (o ≡ Some m)
some_made None is = absurd (is refl)
some_made (Some m) is = (m, refl)

-- who wrote holds the block no more where nobody holds it for writing
wrote_over : (s : Setting) (later : History) (e : Entry) (earlier : History) (d u : ℕ) → IsRun s (later ++ e ∷ earlier) → (made s earlier d ≡ None → ⊥) → IsWrite s earlier e d u → is_for_writing (hold_of s (later ++ e ∷ earlier) u d) ≡ false
    → hold_of s (later ++ e ∷ earlier) u d ≡ None
wrote_over s later e earlier d u run there write off =
    elim (hold_of s (later ++ e ∷ earlier) u d) as (λ o. hold_of s (later ++ e ∷ earlier) u d ≡ o → o ≡ None) [
      | None ↦ λ _. refl
      | Some k ↦ λ is. absurd (
          let before : IsRun s (e ∷ earlier) = run_before s later (e ∷ earlier) run in
          let block = some_made (made s earlier d) there in
          let on : is_started earlier u ≡ true = started_by s earlier u before.0 write.running in
          let after : hold_of s (e ∷ earlier) u d ≡ Some k =
          came_since s later (e ∷ earlier) u d block.0 k run (made_law s earlier e d block.0 before.1 block.1) (still_started earlier e u on) is in
          let first : hold_of s earlier u d ≡ Some k = came s earlier e u d k before.0 before.1 there on after in
          let writes : is_for_writing (Some k) ≡ true = sym (ap is_for_writing first) ∙ write.written.for_writing in
          let none : is_for_writing (Some k) ≡ false = sym (ap is_for_writing is) ∙ off in
          cc (writes, none))
    ] refl

-- who holds a block holds one that was made
block_made : (md : Option Made) (links : List slot.SlotCall) (blocks : List block.BlockCall) (events : List EventCall) (scopes : List ScopeCall) (P : block.State → Type 0) → IsBlock (face md links blocks events scopes) P → md ≡ None → ⊥
block_made None links blocks events scopes P is none = is
block_made (Some m) links blocks events scopes P is none = cc none

writer_made : (s : Setting) (past : History) (u d : ℕ) → IsRun s past → is_for_writing (hold_of s past u d) ≡ true → made s past d ≡ None → ⊥
writer_made s past u d run writes = elim (hold_of s past u d) as (λ o. hold_of s past u d ≡ o → is_for_writing o ≡ true → made s past d ≡ None → ⊥) [
  | None ↦ λ _ no. cc no
  | Some k ↦ λ is _. block_made (made s past d) (link_calls past d) (block_calls s past d) (event_calls s past d) (scope_calls past d) _ (kept_with s past u d k run is).2
] refl writes

pub ended_law : EndedLaw
ended_law s later e earlier t d m run held isolated is =
    let before : IsRun s (e ∷ earlier) = run_before s later (e ∷ earlier) run.0 in
    let write = writer s earlier e d before.0 before.1 is in
    let there : made s earlier d ≡ None → ⊥ = writer_made s earlier write.0 d before.0 write.1.written.for_writing in (
      write.0,
      write.1.written,
      wrote_over s later e earlier d write.0 run.0 there write.1 (no_writer_law s (later ++ e ∷ earlier) t d m write.0 run held isolated),
    )
