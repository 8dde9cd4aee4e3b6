-- A hold comes by an acquire.
use Rattle.std.proofs.Common.{◌≡◌, ◌≤◌, ℕ, ◌==◌, ◌&&◌, not, List, [], ◌∷◌, ◌++◌, length, Bool, true, false, if◌then◌else◌, Some, None, refl, sym, ap, ◌∙◌, subst, arith}
use Rattle.std.proofs.lemmas.Bool.{eqb-true}
use Rattle.ocr_base.proofs.Booleans.{same}
use Rattle.ocr_acquire.specs.declared.Mode.{Mode}
use Rattle.ocr_acquire.specs.declared.Mode.TheVariants as mode
use Rattle.ocr_acquire.specs.Mode.{mode_in, together}
use Rattle.ocr_edt.specs.declared.Edt.{Edt}
use Rattle.ocr_edt.specs.declared.Edt.TheVariants as phase
use Rattle.ocr_edt.specs.Phases.{Progress}
use Rattle.ocr_edt.specs.Steps.{with_next}
use Rattle.ocr_machine_history.specs.declared.entry.Entry.{Entry}
use Rattle.ocr_machine_history.specs.declared.entry.Entry.TheVariants.{Call, Acquire, Wait, StaleAcquire, Start, Free, End}
use Rattle.ocr_machine_history.specs.History.{History, Setting}
use Rattle.ocr_machine_history.specs.Made.{Made, made}
use Rattle.ocr_machine_parts.specs.declared.part.Part.{Part}
use Rattle.ocr_machine_parts.specs.declared.part.Part.TheVariants as part
use Rattle.ocr_machine_parts.specs.Calls.{plan_of, block_calls, link_calls, event_calls, scope_calls}
use Rattle.ocr_machine_parts.specs.Parts.{Parts, parts_of}
use Rattle.ocr_machine_parts.specs.Kinds.{on_core, progress_in, core_progress, next_in, size_on, words_on}
use Rattle.ocr_machine_parts.specs.Effects.{awoken, acquired_edt, stale_edt, waiting_edt, started_edt, acquiring_core, dropping_core, ended_edt}
use Rattle.ocr_machine_parts.specs.Progress.{next_mode_on, with_phase, made_ready, ready_at}
use Rattle.ocr_machine_parts.specs.Legal.{IsRun, IsLegal}
use Rattle.ocr_machine_parts.proofs.After.{after_law}
use Rattle.ocr_machine_laws.specs.Waits.{held_in, rest_in, held_on, rest_on, IsOrdered}
use Rattle.ocr_machine_laws.proofs.Waiters.{advances}
use Rattle.ocr_machine_laws.proofs.Found.{kept_with}
use Rattle.ocr_machine_laws.proofs.Permanence.{not_new}
use Rattle.ocr_machine_laws.proofs.Plain.{now_next}
use Rattle.ocr_machine_laws.specs.Memory.{hold_of}
use Rattle.ocr_machine_laws.proofs.Ended.{both_hold, core_came, call_came, dropped_came, ended_came, ready_held, made_since}
use Rattle.ocr_memory_model_order.specs.Places.{is_at, told_at}
use Rattle.ocr_memory_model_order.specs.Pairs.{is_of, acquired_mode}
use Rattle.ocr_memory_model_order.proofs.Fronts.{new_at, old_at, new_told, old_told, at_below, told_below}
use Rattle.ocr_memory_model_order.proofs.Modes.{acquired_held}

-- the EDT acquires the block
abbrev pub acquires : (u d : ℕ) → Entry → Bool
acquires u d (Acquire t b) = (t == u) && (b == d)
acquires u d other = false

-- WHO GOES ON has what it held, and the block that it acquires
other_edt : (e : Edt) (b d : ℕ) (m : Mode) → next_in (progress_in e) ≡ Some (b, m) → IsOrdered (held_in e) (rest_in e) → (b == d) ≡ false → mode_in d (held_in (acquired_edt (awoken e))) ≡ mode_in d (held_in e)
other_edt (phase.Acquiring p) b d m next ordered off = (advances p.identity p.holds p.stale p.rest b m next ordered).there d off
other_edt (phase.Waiting p) b d m next ordered off = (advances p.identity p.holds p.stale p.rest b m next ordered).there d off
other_edt other b d m next ordered off = cc next

other_held : (x : Part) (b d : ℕ) (m : Mode) (size : ℕ) (words : List ℕ) → next_in (core_progress x) ≡ Some (b, m) → IsOrdered (held_on x) (rest_on x) → (b == d) ≡ false → mode_in d (held_on (on_core x (acquiring_core b m size words))) ≡ mode_in d (held_on x)
other_held (part.Core c) b d m size words next ordered off = other_edt c.edt b d m next ordered off
other_held other b d m size words next ordered off = cc next

stale_next : (p : Progress) (rest : List (ℕ × Mode)) → (with_next p.identity p.holds p.stale rest true).holds ≡ p.holds
stale_next p [] = refl
stale_next p (one ∷ rest) = refl

stale_held_edt : (e : Edt) → held_in (stale_edt (awoken e)) ≡ held_in e
stale_held_edt (phase.Acquiring p) = stale_next p p.rest
stale_held_edt (phase.Waiting p) = stale_next p p.rest
stale_held_edt other = refl

waiting_held_edt : (e : Edt) → held_in (waiting_edt e) ≡ held_in e
waiting_held_edt (phase.Acquiring p) = refl
waiting_held_edt other = refl

started_held_edt : (e : Edt) → held_in (started_edt e) ≡ held_in e
started_held_edt (phase.Acquiring p) = refl
started_held_edt other = refl

phase_held : (step : Edt → Edt) → ((e : Edt) → held_in (step e) ≡ held_in e) → (x : Part) → held_on (on_core x (with_phase step)) ≡ held_on x
phase_held step same_held (part.Core c) = same_held c.edt
phase_held step same_held other = refl

-- a change of one core, which was made ready before
went_on : (s : Setting) (past : History) (t u d : ℕ) (k : Mode) (y : Part) → (mode_in d (held_on y) ≡ Some k → mode_in d (held_on ((ready_at t (plan_of s past t) (parts_of s past)).core t)) ≡ Some k)
    → mode_in d (held_on (if t == u then y else (ready_at t (plan_of s past t) (parts_of s past)).core u)) ≡ Some k → hold_of s past u d ≡ Some k
went_on s past t u d k y own is =
    let f : Parts = ready_at t (plan_of s past t) (parts_of s past) in
    let x : Part = (parts_of s past).core t in
    core_came (parts_of s past).core t u d k (on_core x (with_phase (made_ready (plan_of s past t))))
    (λ h. sym (ap (mode_in d) (ready_held (plan_of s past t) x)) ∙ h)
    (core_came f.core t u d k y own is)

came_unless : (s : Setting) (past : History) (e : Entry) (u d : ℕ) (k : Mode) → IsRun s past → IsLegal s past e → (made s past d ≡ None → ⊥) → acquires u d e ≡ false → hold_of s (e ∷ past) u d ≡ Some k → hold_of s past u d ≡ Some k
came_unless s past (Call t home c a w) u d k run legal there off is =
    call_came (parts_of s past) t home c a w u d k (not_new s past t home c a w d legal.on_parts there)
    (sym (ap (λ (f : Parts). mode_in d (held_on (f.core u))) (after_law s past (Call t home c a w) run legal)) ∙ is)
came_unless s past (Acquire t b) u d k run legal there off is =
    let f : Parts = ready_at t (plan_of s past t) (parts_of s past) in
    let y : Part = on_core (f.core t) (acquiring_core b (next_mode_on f t) (size_on (f.face b)) (words_on (f.face b))) in
    let now : mode_in d (held_on (if t == u then y else f.core u)) ≡ Some k = sym (ap (λ (g : Parts). mode_in d (held_on (g.core u))) (after_law s past (Acquire t b) run legal)) ∙ is in
    let ordered = (now_next s past t b (next_mode_on f t) run legal.on_facts legal.on_parts.next).all in
    elim (t == u) as (λ x. (t == u) ≡ x → (x && (b == d)) ≡ false → mode_in d (held_on (if x then y else f.core u)) ≡ Some k → hold_of s past u d ≡ Some k) [
      | true ↦ λ here apart held. went_on s past t u d k y
          (λ h. sym (other_held (f.core t) b d (next_mode_on f t) (size_on (f.face b)) (words_on (f.face b)) legal.on_parts.next (ordered.ordered t) apart) ∙ h)
          (subst (λ z. mode_in d (held_on (if z then y else f.core u)) ≡ Some k) (sym here) held)
      | false ↦ λ here _ held. core_came (parts_of s past).core t u d k (on_core ((parts_of s past).core t) (with_phase (made_ready (plan_of s past t)))) (λ h. sym (ap (mode_in d) (ready_held (plan_of s past t) ((parts_of s past).core t))) ∙ h) held
    ] refl off now
came_unless s past (Wait t b) u d k run legal there off is =
    let f : Parts = ready_at t (plan_of s past t) (parts_of s past) in
    went_on s past t u d k (on_core (f.core t) (with_phase waiting_edt)) (λ h. sym (ap (mode_in d) (phase_held waiting_edt waiting_held_edt (f.core t))) ∙ h)
    (sym (ap (λ (g : Parts). mode_in d (held_on (g.core u))) (after_law s past (Wait t b) run legal)) ∙ is)
came_unless s past (StaleAcquire t b) u d k run legal there off is =
    let f : Parts = ready_at t (plan_of s past t) (parts_of s past) in
    went_on s past t u d k (on_core (f.core t) (with_phase (λ e. stale_edt (awoken e)))) (λ h. sym (ap (mode_in d) (phase_held (λ e. stale_edt (awoken e)) stale_held_edt (f.core t))) ∙ h)
    (sym (ap (λ (g : Parts). mode_in d (held_on (g.core u))) (after_law s past (StaleAcquire t b) run legal)) ∙ is)
came_unless s past (Start t) u d k run legal there off is =
    let f : Parts = ready_at t (plan_of s past t) (parts_of s past) in
    went_on s past t u d k (on_core (f.core t) (with_phase started_edt)) (λ h. sym (ap (mode_in d) (phase_held started_edt started_held_edt (f.core t))) ∙ h)
    (sym (ap (λ (g : Parts). mode_in d (held_on (g.core u))) (after_law s past (Start t) run legal)) ∙ is)
came_unless s past (Free t b w) u d k run legal there off is =
    let x : Part = (parts_of s past).core t in
    core_came (parts_of s past).core t u d k (on_core x (dropping_core b)) (dropped_came x b d k)
    (sym (ap (λ (f : Parts). mode_in d (held_on (f.core u))) (after_law s past (Free t b w) run legal)) ∙ is)
came_unless s past (End t g) u d k run legal there off is =
    let x : Part = (parts_of s past).core t in
    core_came (parts_of s past).core t u d k (on_core x (with_phase ended_edt)) (ended_came x d k)
    (sym (ap (λ (f : Parts). mode_in d (held_on (f.core u))) (after_law s past (End t g) run legal)) ∙ is)
came_unless s past other u d k run legal there off is = is

-- SO WHO HOLDS a block that it did not hold has acquired it since
pub record IsGained (s : Setting) (past J : History) (u d n : ℕ) (m : Mode) : Type 0 where
  pub since : length past ≤ n
  pub own : is_at (is_of u) J n ≡ true
  pub acquired : told_at (acquired_mode s d) J n ≡ Some m

and_both : (a b : Bool) → (a && b) ≡ true → (a ≡ true) × (b ≡ true)
and_both true b is = (refl, is)
and_both false b is = cc is

more_length : (later past : History) → length past ≤ length (later ++ past)
more_length [] past = omega arith
more_length (e ∷ later) past = let r = more_length later past in omega (arith, r)

gained_here : (s : Setting) (past : History) (e : Entry) (u d : ℕ) (k : Mode) → IsRun s (e ∷ past) → acquires u d e ≡ true → (u == 0) ≡ false → hold_of s (e ∷ past) u d ≡ Some k → (is_of u past e ≡ true) × (acquired_mode s d past e ≡ Some k)
gained_here s past (Acquire t b) u d k run is some held =
    let here : (t == u) ≡ true = (and_both (t == u) (b == d) is).0 in
    let there : (b == d) ≡ true = (and_both (t == u) (b == d) is).1 in
    let at : u ≡ t = sym (eqb-true t u here) in (
      subst (λ n. (not (n == 0) && (n == u)) ≡ true) at (ap (λ x. not x && (u == u)) some ∙ same u),
      acquired_held s past t b d k run there (subst (λ n. hold_of s (Acquire t b ∷ past) n d ≡ Some k) at held),
    )
gained_here s past other u d k run is some held = cc is

pub gained_since : (s : Setting) (later past : History) (u d : ℕ) (m : Made) (k : Mode) → IsRun s (later ++ past) → made s past d ≡ Some m → (u == 0) ≡ false → hold_of s past u d ≡ None → hold_of s (later ++ past) u d ≡ Some k → (n : ℕ) × (j : Mode) × IsGained s past (later ++ past) u d n j
gained_since s [] past u d m k run there some none is = cc (none, is)
gained_since s (e ∷ later) past u d m k run there some none is =
    let J : History = later ++ past in
    elim (hold_of s J u d) as (λ o. hold_of s J u d ≡ o → (n : ℕ) × (j : Mode) × IsGained s past (e ∷ J) u d n j) [
      | None ↦ λ off. elim (acquires u d e) as (λ x. acquires u d e ≡ x → (n : ℕ) × (j : Mode) × IsGained s past (e ∷ J) u d n j) [
        | true ↦ λ on.
            let here = gained_here s J e u d k run on some is in (
              length J,
              k,
              record {
                since = more_length later past;
                own = new_at (is_of u) J e ∙ here.0;
                acquired = new_told (acquired_mode s d) J e ∙ here.1;
              },
            )
        | false ↦ λ no. absurd (
            let still : made s J d ≡ Some m = made_since s later past d m run.0 there in
            let held : hold_of s J u d ≡ Some k = came_unless s J e u d k run.0 run.1 (λ n. cc (n, still)) no is in
            cc (held, off))
      ] refl
      | Some i ↦ λ held.
          let r = gained_since s later past u d m i run.0 there some none held in (
            r.0,
            r.1,
            record {
              since = r.2.since;
              own = old_at (is_of u) J e r.0 (at_below (is_of u) J r.0 r.2.own) ∙ r.2.own;
              acquired = old_told (acquired_mode s d) J e r.0 (told_below (acquired_mode s d) J r.0 r.1 r.2.acquired) ∙ r.2.acquired;
            },
          )
    ] refl

-- nobody else holds a block beside EW
not_beside : (k : Mode) → together k mode.Ew ≡ true → ⊥
not_beside mode.Rw is = cc is
not_beside mode.Ro is = cc is
not_beside mode.Const is = cc is
not_beside other is = cc is

pub alone : (s : Setting) (past : History) (t d u : ℕ) → IsRun s past → hold_of s past t d ≡ Some mode.Ew → (u == t) ≡ false → hold_of s past u d ≡ None
alone s past t d u run held apart = elim (hold_of s past u d) as (λ o. hold_of s past u d ≡ o → o ≡ None) [
  | None ↦ λ _. refl
  | Some k ↦ λ is. absurd (
      let one = kept_with s past u d k run is in
      let two = kept_with s past t d mode.Ew run held in
      not_beside k (both_hold (made s past d) (link_calls past d) (block_calls s past d) (event_calls s past d) (scope_calls past d) u t k mode.Ew one.0 two.0 apart one.2 two.2))
] refl

pub none_after : (s : Setting) (past : History) (e : Entry) (u d : ℕ) → IsRun s past → IsLegal s past e → (made s past d ≡ None → ⊥) → acquires u d e ≡ false → hold_of s past u d ≡ None → hold_of s (e ∷ past) u d ≡ None
none_after s past e u d run legal there off none = elim (hold_of s (e ∷ past) u d) as (λ o. hold_of s (e ∷ past) u d ≡ o → o ≡ None) [
  | None ↦ λ _. refl
  | Some k ↦ λ is. let held : hold_of s past u d ≡ Some k = came_unless s past e u d k run legal there off is in cc (held, none)
] refl
