-- Who holds and who waits, in each entry.
use Rattle.std.proofs.Common.{◌≡◌, ◌⊎◌, inl, inr, ℕ, suc, ◌<◌, ◌≤◌, List, [], ◌∷◌, ◌++◌, true, false, Option, Some, None, ◌==◌, if◌then◌else◌, refl, sym, ◌∙◌, ap, subst, is_some, arith}
use Rattle.std.proofs.lemmas.Bool.{eqb-true, eq-eqb, ne_eqb}
use Rattle.ocr_acquire.specs.declared.Mode.{Mode}
use Rattle.ocr_acquire.specs.Mode.{mode_in}
use Rattle.ocr_acquire.specs.Plan.{RisesFrom, IsWellFormed}
use Rattle.ocr_acquire.proofs.Ascent.{rises_below}
use Rattle.ocr_datablock.specs.Lent.{Loan}
use Rattle.ocr_edt.specs.declared.Edt.{Edt}
use Rattle.ocr_edt.specs.declared.Identity.{Identity}
use Rattle.ocr_edt.specs.Phases.{Progress, name_of, next_of, first_of, placed_by, without}
use Rattle.ocr_edt.specs.Steps.{with_next, after_acquired}
use Rattle.ocr_edt.proofs.Holds.{mode_in-placed, mode_in-placed_other, mode_in-without, mode_in-other}
use Rattle.ocr_machine_parts.specs.declared.part.Core.{Core}
use Rattle.ocr_machine_parts.specs.declared.part.Part.{Part}
use Rattle.ocr_machine_history.specs.Made.{creator_of}
use Rattle.ocr_machine_parts.specs.Calls.{mode_next}
use Rattle.ocr_machine_parts.specs.Parts.{Parts}
use Rattle.ocr_machine_parts.specs.Effects.{holding_core, awoken, acquired_edt, waiting_edt, started_edt, holding_edt, dropped_edt, ended_edt, granted, hold_ended, new_face, new_core, creating_core, dropping_core, acquiring_core, ended, acquired, waited}
use Rattle.ocr_machine_parts.specs.Progress.{with_face, with_core, with_phase, made_ready, next_on, ready_at}
use Rattle.ocr_machine_parts.specs.Kinds.{size_on, words_on, with_block, with_links, on_core, progress_in, core_progress, next_in, loan_on, IsBlock, is_running, is_acquiring, is_acquiring_edt, work_in, work_of, holds_of}
use Rattle.ocr_machine_parts.specs.LegalOn.{IsHeld, IsTaken, IsRefused, IsEnding}
use Rattle.ocr_machine_laws.specs.Waits.{standing, is_gone_on, queue_on, held_in, rest_in, awaits_in, held_on, rest_on, awaits, IsHolding, IsOrdered, AreStanding, IsOnce}
use Rattle.ocr_machine_laws.proofs.Moves.{Keeps, IsOwn, moved, cored}
use Rattle.ocr_machine_laws.proofs.States.{ended_keeps, ended_leaves, ended_unqueued, pushed_keeps, taken_pushed, taken_unqueued, refused_pushed, refused_queue}
use Rattle.ocr_acquire.specs.declared.Mode.TheVariants as mode
use Rattle.ocr_slots.specs.Steps as slot_steps
use Rattle.ocr_datablock.specs.Block as block
use Rattle.ocr_datablock.specs.Steps as block_steps
use Rattle.ocr_edt.specs.declared.Edt.TheVariants as phase
use Rattle.ocr_machine_parts.specs.declared.part.Part.TheVariants as part
use Rattle.ocr_edt.specs.declared.Identity.{Identity}
use Rattle.ocr_base.proofs.Booleans.{same}

pub flip : (d e : ℕ) → (d == e) ≡ false → (e == d) ≡ false
flip d e apart = ne_eqb e d (λ z. absurd (let is : (d == e) ≡ true = eq-eqb d e (sym z) in cc (is, apart)))

-- THE EDT whose core changes
abbrev Has : Edt → ℕ → Mode → Type 0
Has s d m = (mode_in d (held_in s) ≡ Some m) ⊎ (awaits_in s ≡ Some (d, m))

record IsStep (d : ℕ) (x : Part) (t : ℕ) (was now : Edt) : Type 0 where
  wait : (e : ℕ) (m : Mode) → awaits_in now ≡ Some (e, m) → (d ≡ e) × (mode_in t (standing x) ≡ Some m)
  here : (m : Mode) → mode_in t (standing x) ≡ Some m → Has now d m
  there : (e : ℕ) (m : Mode) → (d == e) ≡ false → Has was e m → Has now e m
  queued : (m : Mode) → mode_in t (queue_on x) ≡ Some m → awaits_in now ≡ Some (d, m)
  away : (e : ℕ) (m : Mode) → (d == e) ≡ false → awaits_in was ≡ Some (e, m) → awaits_in now ≡ Some (e, m)
  ordered : IsOrdered (held_in now) (rest_in now)

own_core : (d : ℕ) (x : Part) (t : ℕ) (c k : Core) → IsStep d x t c.edt k.edt → IsOwn d x t (part.Core c) (part.Core k)
own_core d x t c k step = record { wait = step.wait; here = step.here; there = step.there; queued = step.queued; away = step.away; ordered = step.ordered }

pub nothing_wanted : (held : List (ℕ × Mode)) → IsOrdered held []
nothing_wanted held = record { rising = tt; used = λ k x below. absurd (omega (arith, below)); above = λ b is. tt }

-- A HOLD ENDS
dropped_step : (d : ℕ) (x : Part) (t : ℕ) (s : Edt) → is_some (work_in s) ≡ true → ((m : Mode) → mode_in t (standing x) ≡ Some m → ⊥) → ((m : Mode) → mode_in t (queue_on x) ≡ Some m → ⊥) → IsStep d x t s (dropped_edt d s)
dropped_step d x t (phase.Running w) running left out = record {
  wait = λ e m is. cc is;
  queued = λ m is. absurd (out m is);
  away = λ e m apart is. cc is;
  here = λ m is. absurd (left m is);
  there = λ e m apart has. elim has [
    | inl held ↦ inl (mode_in-other d e w.holds (flip d e apart) ∙ held)
    | inr is ↦ cc is
  ];
  ordered = nothing_wanted (without d w.holds);
}
dropped_step d x t other running left out = cc running

pub dropped_own : (d : ℕ) (x : Part) (t : ℕ) (c : Part) → is_running c ≡ true → ((m : Mode) → mode_in t (standing x) ≡ Some m → ⊥) → ((m : Mode) → mode_in t (queue_on x) ≡ Some m → ⊥) → IsOwn d x t c (on_core c (dropping_core d))
dropped_own d x t (part.Core c) running left out = own_core d x t c (dropping_core d c) (dropped_step d x t c.edt running left out)
dropped_own d x t other running left out = cc running

ended_face_keeps : (x : Part) (t : ℕ) (w : List (ℕ × ℕ)) (m : Option Mode) (loan : Option Loan) → IsBlock x (IsHeld t m loan) → block_steps.StandOnce (standing x) → Keeps t x (with_block x (hold_ended block_steps.after_release t w loan))
ended_face_keeps (part.Block st) t w m loan held once = ended_keeps t w loan st held.holder once
ended_face_keeps other t w m loan held once = absurd held

ended_face_leaves : (x : Part) (t : ℕ) (w : List (ℕ × ℕ)) (o : Option Mode) (loan : Option Loan) → IsBlock x (IsHeld t o loan) → block_steps.StandOnce (standing x) → (m : Mode) → mode_in t (standing (with_block x (hold_ended block_steps.after_release t w loan))) ≡ Some m → ⊥
ended_face_leaves (part.Block st) t w o loan held once m is = ended_leaves t w loan st m held.holder once is
ended_face_leaves other t w o loan held once m is = absurd held

ended_face_out : (x : Part) (t : ℕ) (w : List (ℕ × ℕ)) (o : Option Mode) (loan : Option Loan) → IsBlock x (IsHeld t o loan) → block_steps.StandOnce (standing x) → (m : Mode) → mode_in t (queue_on (with_block x (hold_ended block_steps.after_release t w loan))) ≡ Some m → ⊥
ended_face_out (part.Block st) t w o loan held once m is = ended_unqueued t w loan st m held.holder once is
ended_face_out other t w o loan held once m is = absurd held

pub ended_standing : (f : Parts) (t d : ℕ) (w : List (ℕ × ℕ)) → AreStanding f → IsOnce f → is_running (f.core t) ≡ true → IsEnding f t d → AreStanding (ended block_steps.after_release f t d w)
ended_standing f t d w all once running held =
    moved f d (with_block (f.face d) (hold_ended block_steps.after_release t w (loan_on (f.core t) d))) t (on_core (f.core t) (dropping_core d)) all
    (ended_face_keeps (f.face d) t w _ _ held (once d))
    (dropped_own d _ t (f.core t) running (ended_face_leaves (f.face d) t w _ _ held (once d)) (ended_face_out (f.face d) t w _ _ held (once d)))

-- A BLOCK IS ACQUIRED
none_unless : (o : Option Mode) → (is_some o ≡ true → ⊥) → o ≡ None
none_unless None wrong = refl
none_unless (Some m) wrong = absurd (wrong refl)

pub record IsAdvanced (held now rest : List (ℕ × Mode)) (d : ℕ) (m : Mode) : Type 0 where
  pub ordered : IsOrdered now rest
  pub here : mode_in d now ≡ Some m
  pub there : (e : ℕ) → (d == e) ≡ false → mode_in e now ≡ mode_in e held

pub advances : (i : Identity) (held : List (ℕ × Mode)) (stale : List ℕ) (rest : List (ℕ × Mode)) (d : ℕ) (m : Mode) → first_of rest ≡ Some (d, m) → IsOrdered held rest
    → IsAdvanced held (with_next i held stale rest false).holds (with_next i held stale rest false).rest d m
advances i held stale [] d m is ordered = cc is
advances i held stale (one ∷ more) d m is ordered =
    let e : one ≡ (d, m) = cc in
    let g : ℕ = one.0 in
    let none : mode_in one.0 held ≡ None = none_unless (mode_in one.0 held) (λ some. absurd (let below : one.0 < one.0 = (ordered.above one.0 some).0 in omega (arith, below))) in
    record {
      ordered = record {
        rising = rises_below one.0 0 more (omega arith) ordered.rising.1;
        used = λ k x below. ordered.used (suc k) x (omega (arith, below));
        above = λ b. elim (b == one.0) as (λ c. (b == one.0) ≡ c → is_some (mode_in b (placed_by name_of one held)) ≡ true → RisesFrom b more) [
          | true ↦ λ here _. subst (λ (n : ℕ). RisesFrom n more) (sym (eqb-true b one.0 here)) ordered.rising.1
          | false ↦ λ apart some.
              let was : is_some (mode_in b held) ≡ true = ap (λ (o : Option Mode). is_some o) (sym (mode_in-placed_other one.0 b one.1 held apart)) ∙ some in
              let above = ordered.above b was in
              let le : b ≤ one.0 = omega (arith, above.0) in
              rises_below one.0 b more le above.1
        ] refl;
      };
      here = subst (λ (x : ℕ × Mode). mode_in x.0 (placed_by name_of one held) ≡ Some x.1) e (mode_in-placed one.0 one.1 held none);
      there = λ k apart.
          let own : one.0 ≡ d = ap (λ (x : ℕ × Mode). x.0) e in
          let other : (k == one.0) ≡ false = flip one.0 k (ap (λ (n : ℕ). n == k) own ∙ apart) in
          mode_in-placed_other one.0 k one.1 held other;
    }

pub other_next : (d e : ℕ) (m k : Mode) (o : Option (ℕ × Mode)) → o ≡ Some (d, m) → o ≡ Some (e, k) → (d == e) ≡ false → ⊥
other_next d e m k o next also apart =
    let both : ◌≡◌ {A = Option (ℕ × Mode)} (Some (d, m)) (Some (e, k)) = sym next ∙ also in
    let one : ◌≡◌ {A = ℕ × Mode} (d, m) (e, k) = cc in
    let equal : d ≡ e = ap (λ (y : ℕ × Mode). y.0) one in
    let no : true ≡ false = sym (eq-eqb d e equal) ∙ apart in cc no

acquires_from : (d : ℕ) (x : Part) (t : ℕ) (s : Edt) (p : Progress) (m : Mode) → next_of p ≡ Some (d, m) → IsOrdered p.holds p.rest → ((k : Mode) → mode_in t (standing x) ≡ Some k → m ≡ k)
    → ((e : ℕ) (k : Mode) → Has s e k → (mode_in e p.holds ≡ Some k) ⊎ (next_of p ≡ Some (e, k))) → ((e : ℕ) (k : Mode) → awaits_in s ≡ Some (e, k) → next_of p ≡ Some (e, k)) → mode_in t (queue_on x) ≡ None → IsStep d x t s (phase.Acquiring (after_acquired p false))
acquires_from d x t s p m next ordered own had awaited out =
    let adv = advances p.identity p.holds p.stale p.rest d m next ordered in
    record {
      wait = λ e k is. cc is;
      here = λ k is. inl (adv.here ∙ ap (λ (n : Mode). Some n) (own k is));
      there = λ e k apart has. elim (had e k has) [
        | inl held ↦ inl (adv.there e apart ∙ held)
        | inr also ↦ absurd (other_next d e m k (next_of p) next also apart)
      ];
      queued = λ k is. cc (out, is);
      away = λ e k apart is. absurd (other_next d e m k (next_of p) next (awaited e k is) apart);
      ordered = adv.ordered;
    }

acquired_step : (d : ℕ) (x : Part) (t : ℕ) (s : Edt) (m : Mode) → next_in (progress_in s) ≡ Some (d, m) → IsOrdered (held_in s) (rest_in s) → ((k : Mode) → mode_in t (standing x) ≡ Some k → m ≡ k) → mode_in t (queue_on x) ≡ None
    → IsStep d x t s (acquired_edt (awoken s))
acquired_step d x t (phase.Acquiring p) m next ordered own out = acquires_from d x t (phase.Acquiring p) p m next ordered own (λ e k has. elim has [ inl held ↦ inl held | inr is ↦ cc is ]) (λ e k is. cc is) out
acquired_step d x t (phase.Waiting p) m next ordered own out = acquires_from d x t (phase.Waiting p) p m next ordered own (λ e k has. has) (λ e k is. is) out
acquired_step d x t other m next ordered own out = cc next

acquired_own : (d : ℕ) (x : Part) (t : ℕ) (c : Part) (m : Mode) (size : ℕ) (words : List ℕ) → next_in (core_progress c) ≡ Some (d, m) → IsOrdered (held_on c) (rest_on c) → ((k : Mode) → mode_in t (standing x) ≡ Some k → m ≡ k) → mode_in t (queue_on x) ≡ None
    → IsOwn d x t c (on_core c (acquiring_core d m size words))
acquired_own d x t (part.Core c) m size words next ordered own out = own_core d x t c (acquiring_core d m size words c) (acquired_step d x t c.edt m next ordered own out)
acquired_own d x t other m size words next ordered own out = cc next

taken_face : (x : Part) (t : ℕ) (m : Mode) → IsBlock x (IsTaken t m) → Keeps t x (with_block x (granted t m)) × (mode_in t (standing (with_block x (granted t m))) ≡ Some m)
taken_face (part.Block st) t m taken = let pushed = taken_pushed t m st taken in (pushed_keeps t m st (granted t m st) pushed, pushed.own)
taken_face other t m taken = absurd taken

only : (o : Option Mode) (m k : Mode) → o ≡ Some m → o ≡ Some k → m ≡ k
only o m k one other = let both : Some m ≡ Some k = sym one ∙ other in cc

taken_out : (x : Part) (t : ℕ) (m : Mode) → IsBlock x (IsTaken t m) → block_steps.StandOnce (standing x) → mode_in t (queue_on (with_block x (granted t m))) ≡ None
taken_out (part.Block st) t m taken once = taken_unqueued t m st taken once
taken_out other t m taken once = absurd taken

pub acquired_standing : (f : Parts) (t d : ℕ) → AreStanding f → IsOnce f → next_on f t ≡ Some (d, mode_next (next_on f t)) → IsBlock (f.face d) (IsTaken t (mode_next (next_on f t))) → AreStanding (acquired f t d)
acquired_standing f t d all once next taken =
    let m = mode_next (next_on f t) in
    let face = taken_face (f.face d) t m taken in
    moved f d (with_block (f.face d) (granted t m)) t (on_core (f.core t) (acquiring_core d m (size_on (f.face d)) (words_on (f.face d)))) all face.0
    (acquired_own d _ t (f.core t) m _ _ next (all.ordered t) (λ k is. only _ m k face.1 is) (taken_out (f.face d) t m taken (once d)))

-- AN EDT WAITS
waited_step : (d : ℕ) (x : Part) (t : ℕ) (s : Edt) (m : Mode) → is_acquiring_edt s ≡ true → next_in (progress_in s) ≡ Some (d, m) → IsOrdered (held_in s) (rest_in s) → mode_in t (standing x) ≡ Some m → ((k : Mode) → mode_in t (queue_on x) ≡ Some k → m ≡ k)
    → IsStep d x t s (waiting_edt s)
waited_step d x t (phase.Acquiring p) m acquiring next ordered own asked = record {
  queued = λ k is. next ∙ ap (λ (n : Mode). Some (d, n)) (asked k is);
  away = λ e k apart is. cc is;
  wait = λ e k is.
      let both : Some (d, m) ≡ Some (e, k) = sym next ∙ is in
      let one : (d, m) ≡ (e, k) = cc in
      (ap (λ (y : ℕ × Mode). y.0) one, own ∙ ap (λ (y : ℕ × Mode). Some y.1) one);
  here = λ k is. inr (next ∙ ap (λ (n : Mode). Some (d, n)) (only _ m k own is));
  there = λ e k apart has. elim has [ inl held ↦ inl held | inr is ↦ cc is ];
  ordered = ordered;
}
waited_step d x t other m acquiring next ordered own asked = cc acquiring

waited_own : (d : ℕ) (x : Part) (t : ℕ) (c : Part) (m : Mode) → is_acquiring c ≡ true → next_in (core_progress c) ≡ Some (d, m) → IsOrdered (held_on c) (rest_on c) → mode_in t (standing x) ≡ Some m → ((k : Mode) → mode_in t (queue_on x) ≡ Some k → m ≡ k)
    → IsOwn d x t c (on_core c (with_phase waiting_edt))
waited_own d x t (part.Core c) m acquiring next ordered own asked = own_core d x t c (with_phase waiting_edt c) (waited_step d x t c.edt m acquiring next ordered own asked)
waited_own d x t other m acquiring next ordered own asked = cc acquiring

refused_face : (x : Part) (t : ℕ) (m : Mode) → IsBlock x (IsRefused t m) → Keeps t x (with_block x (λ st. block_steps.after_ask st t m)) × (mode_in t (standing (with_block x (λ st. block_steps.after_ask st t m))) ≡ Some m)
refused_face (part.Block st) t m refused = let pushed = refused_pushed t m st refused in (pushed_keeps t m st (block_steps.after_ask st t m) pushed, pushed.own)
refused_face other t m refused = absurd refused

refused_out : (x : Part) (t : ℕ) (m : Mode) → IsBlock x (IsRefused t m) → (k : Mode) → mode_in t (queue_on (with_block x (λ st. block_steps.after_ask st t m))) ≡ Some k → m ≡ k
refused_out (part.Block st) t m refused k is = refused_queue t m k st refused is
refused_out other t m refused k is = absurd refused

pub waited_standing : (f : Parts) (t d : ℕ) → AreStanding f → is_acquiring (f.core t) ≡ true → next_on f t ≡ Some (d, mode_next (next_on f t)) → IsBlock (f.face d) (IsRefused t (mode_next (next_on f t))) → AreStanding (waited f t d)
waited_standing f t d all acquiring next refused =
    let m = mode_next (next_on f t) in
    let face = refused_face (f.face d) t m refused in
    moved f d (with_block (f.face d) (λ st. block_steps.after_ask st t m)) t (on_core (f.core t) (with_phase waiting_edt)) all face.0
    (waited_own d _ t (f.core t) m acquiring next (all.ordered t) face.1 (refused_out (f.face d) t m refused))

-- AN EDT STARTS, AND ENDS, AND IS MADE READY
pub record IsStill (was now : Edt) : Type 0 where
  pub wait : (e : ℕ) (m : Mode) → awaits_in now ≡ Some (e, m) → awaits_in was ≡ Some (e, m)
  pub hold : (e : ℕ) (m : Mode) → Has was e m → Has now e m
  pub away : (e : ℕ) (m : Mode) → awaits_in was ≡ Some (e, m) → awaits_in now ≡ Some (e, m)
  pub ordered : IsOrdered (held_in now) (rest_in now)

still_standing : (f : Parts) (t : ℕ) (step : Edt → Edt) (c : Part) → f.core t ≡ c → AreStanding f → ((s : Edt) → IsOrdered (held_in s) (rest_in s) → (k : Core) → c ≡ part.Core k → k.edt ≡ s → IsStill s (step s))
    → AreStanding (with_core f t (on_core c (with_phase step)))
still_standing f t step (part.Core k) is all still =
    let ordered : IsOrdered (held_in k.edt) (rest_in k.edt) = subst (λ (x : Part). IsOrdered (held_on x) (rest_on x)) is (all.ordered t) in
    let one = still k.edt ordered k refl refl in
    cored f t _ all (λ e m is_now. ap awaits is ∙ one.wait e m is_now) (λ e m stood has. one.hold e m (subst (λ (x : Part). IsHolding x e m) is has)) (λ e m stood was. one.away e m (ap awaits (sym is) ∙ was)) one.ordered
still_standing f t step other is all still =
    cored f t _ all (λ e m is_now. ap awaits is ∙ is_now) (λ e m stood has. subst (λ (x : Part). IsHolding x e m) is has) (λ e m stood was. ap awaits (sym is) ∙ was) (subst (λ (x : Part). IsOrdered (held_on x) (rest_on x)) is (all.ordered t))

started_still : (s : Edt) → is_acquiring_edt s ≡ true → IsStill s (started_edt s)
started_still (phase.Acquiring p) acquiring = record { wait = λ e m is. cc is; hold = λ e m has. elim has [ inl held ↦ inl held | inr is ↦ cc is ]; away = λ e m is. cc is; ordered = nothing_wanted p.holds }
started_still other acquiring = cc acquiring

pub started_standing : (f : Parts) (t : ℕ) → AreStanding f → is_acquiring (f.core t) ≡ true → AreStanding (with_core f t (on_core (f.core t) (with_phase started_edt)))
started_standing f t all acquiring = still_standing f t started_edt (f.core t) refl all
    (λ s ordered k is same. started_still s (subst (λ (e : Edt). is_acquiring_edt e ≡ true) same (ap is_acquiring (sym is) ∙ acquiring)))

ended_still : (s : Edt) → is_some (work_in s) ≡ true → holds_of (work_in s) ≡ [] → IsStill s (ended_edt s)
ended_still (phase.Running w) running nothing = record {
  wait = λ e m is. cc is;
  hold = λ e m has. elim has [ inl held ↦ inl (ap (mode_in e) (sym nothing) ∙ held) | inr is ↦ cc is ];
  away = λ e m is. cc is;
  ordered = nothing_wanted [];
}
ended_still other running nothing = cc running

pub end_standing : (f : Parts) (t : ℕ) → AreStanding f → is_running (f.core t) ≡ true → holds_of (work_of (f.core t)) ≡ [] → AreStanding (with_core f t (on_core (f.core t) (with_phase ended_edt)))
end_standing f t all running nothing = still_standing f t ended_edt (f.core t) refl all
    (λ s ordered k is same. ended_still s (subst (λ (e : Edt). is_some (work_in e) ≡ true) same (ap is_running (sym is) ∙ running))
    (subst (λ (e : Edt). holds_of (work_in e) ≡ []) same (ap (λ (x : Part). holds_of (work_of x)) (sym is) ∙ nothing)))

ready_still : (members : List (ℕ × Mode)) → IsWellFormed members → (s : Edt) → IsOrdered (held_in s) (rest_in s) → IsStill s (made_ready members s)
ready_still members formed (phase.Filling i) ordered = record {
  wait = λ e m is. is;
  hold = λ e m has. has;
  away = λ e m is. is;
  ordered = record { rising = formed.rising; used = formed.used; above = λ b is. cc is };
}
ready_still members formed other ordered = record { wait = λ e m is. is; hold = λ e m has. has; away = λ e m is. is; ordered = ordered }

pub ready_standing : (f : Parts) (t : ℕ) (members : List (ℕ × Mode)) → AreStanding f → IsWellFormed members → AreStanding (ready_at t members f)
ready_standing f t members all formed = still_standing f t (made_ready members) (f.core t) refl all (λ s ordered k is same. ready_still members formed s ordered)

-- A BLOCK IS MADE
first_stood : (t fl u : ℕ) (m : Mode) → mode_in u (block.first_holders (creator_of t fl) ++ []) ≡ Some m → ((fl == 0) ≡ true) × (t ≡ u) × (mode.Rw ≡ m)
first_stood t fl u m is = elim (fl == 0) as (λ b. mode_in u (block.first_holders (if b then t else 0) ++ []) ≡ Some m → (b ≡ true) × (t ≡ u) × (mode.Rw ≡ m)) [
  | true ↦ λ is. elim (t == 0) as (λ c. mode_in u ((if c then [] else (t, mode.Rw) ∷ []) ++ []) ≡ Some m → (true ≡ true) × (t ≡ u) × (mode.Rw ≡ m)) [
    | true ↦ λ is. cc is
    | false ↦ λ is. elim (t == u) as (λ c. (t == u) ≡ c → ◌≡◌ {A = Option Mode} (if c then Some mode.Rw else None) (Some m) → (true ≡ true) × (t ≡ u) × (mode.Rw ≡ m)) [
      | true ↦ λ own is. (refl, eqb-true t u own, cc)
      | false ↦ λ _ is. cc is
    ] refl is
  ] is
  | false ↦ λ is. cc is
] is

made_keeps : (t n fl : ℕ) → Keeps t part.Vacant (part.Block (block.state_of n (creator_of t fl) []))
made_keeps t n fl = record {
  gone = λ live. refl;
  stays = λ u m apart live is. cc is;
  comes = λ u m apart is. absurd (let own : (t == u) ≡ true = eq-eqb t u (first_stood t fl u m is).1 in cc (own, apart));
  queued = λ u m apart is. cc is;
}

holding_step : (g : ℕ) (x : Part) (t : ℕ) (s : Edt) → is_some (work_in s) ≡ true → ((m : Mode) → mode_in t (standing x) ≡ Some m → mode.Rw ≡ m) → queue_on x ≡ [] → IsStep g x t s (holding_edt g s)
holding_step g x t (phase.Running w) running own bare = record {
  wait = λ e m is. cc is;
  queued = λ m is. let none : mode_in t (queue_on x) ≡ None = ap (mode_in t) bare in cc (none, is);
  away = λ e m apart is. cc is;
  here = λ m is. inl (mode_in-placed g mode.Rw (without g w.holds) (mode_in-without g w.holds) ∙ ap (λ (k : Mode). Some k) (own m is));
  there = λ e m apart has. elim has [
    | inl held ↦ inl (mode_in-placed_other g e mode.Rw (without g w.holds) (flip g e apart) ∙ mode_in-other g e w.holds (flip g e apart) ∙ held)
    | inr is ↦ cc is
  ];
  ordered = nothing_wanted _;
}
holding_step g x t other running own bare = cc running

unheld_step : (g : ℕ) (x : Part) (t : ℕ) (s : Edt) → is_some (work_in s) ≡ true → ((m : Mode) → mode_in t (standing x) ≡ Some m → ⊥) → queue_on x ≡ [] → IsStep g x t s s
unheld_step g x t (phase.Running w) running left bare = record { wait = λ e m is. cc is; queued = λ m is. let none : mode_in t (queue_on x) ≡ None = ap (mode_in t) bare in cc (none, is); away = λ e m apart is. cc is; here = λ m is. absurd (left m is); there = λ e m apart has. has; ordered = nothing_wanted w.holds }
unheld_step g x t other running left bare = cc running

creating_own : (t n fl g : ℕ) (c : Part) → is_running c ≡ true → IsOwn g (part.Block (block.state_of n (creator_of t fl) [])) t c (on_core c (creating_core fl g n))
creating_own t n fl g (part.Core c) running =
    let x = part.Block (block.state_of n (creator_of t fl) []) in
    elim (fl == 0) as (λ b. (fl == 0) ≡ b → IsOwn g x t (part.Core c) (part.Core (if b then holding_core g n c else c))) [
      | true ↦ λ _. own_core g x t c (holding_core g n c) (holding_step g x t c.edt running (λ m is. (first_stood t fl t m is).2) refl)
      | false ↦ λ off. own_core g x t c c (unheld_step g x t c.edt running (λ m is. let on : (fl == 0) ≡ true = (first_stood t fl t m is).0 in cc (on, off)) refl)
    ] refl
creating_own t n fl g other running = cc running

pub made_standing : (f : Parts) (t n fl g : ℕ) → AreStanding f → is_running (f.core t) ≡ true → f.face g ≡ part.Vacant
    → AreStanding (with_core (with_face f g (part.Block (block.state_of n (creator_of t fl) []))) t (on_core (f.core t) (creating_core fl g n)))
made_standing f t n fl g all running vacant =
    moved f g (part.Block (block.state_of n (creator_of t fl) [])) t (on_core (f.core t) (creating_core fl g n)) all
    (subst (λ (x : Part). Keeps t x (part.Block (block.state_of n (creator_of t fl) []))) (sym vacant) (made_keeps t n fl))
    (creating_own t n fl g (f.core t) running)

-- AN EDT IS MADE
new_keeps : (g : ℕ) (x : Part) (dc : ℕ) (deps : List ℕ) → Keeps g part.Vacant (new_face x dc deps)
new_keeps g (part.Template t) dc deps = record { gone = λ live. refl; stays = λ u m apart live is. cc is; comes = λ u m apart is. cc is; queued = λ u m apart is. cc is }
new_keeps g other dc deps = record { gone = λ live. refl; stays = λ u m apart live is. cc is; comes = λ u m apart is. cc is; queued = λ u m apart is. cc is }

new_own : (g : ℕ) (x : Part) (dc : ℕ) (deps : List ℕ) (i : Identity) (params : List ℕ) → IsOwn g (new_face x dc deps) g part.Vacant (new_core x i params)
new_own g (part.Template t) dc deps i params = record { wait = λ e m is. cc is; here = λ m is. cc is; there = λ e m apart has. elim has [ inl is ↦ cc is | inr is ↦ cc is ]; queued = λ m is. cc is; away = λ e m apart is. cc is; ordered = nothing_wanted [] }
new_own g other dc deps i params = record { wait = λ e m is. cc is; here = λ m is. cc is; there = λ e m apart has. elim has [ inl is ↦ cc is | inr is ↦ cc is ]; queued = λ m is. cc is; away = λ e m apart is. cc is; ordered = nothing_wanted [] }

pub edt_standing : (f : Parts) (g : ℕ) (x : Part) (dc : ℕ) (deps : List ℕ) (i : Identity) (params : List ℕ) → AreStanding f → f.face g ≡ part.Vacant → f.core g ≡ part.Vacant
    → AreStanding (with_core (with_face f g (new_face x dc deps)) g (new_core x i params))
edt_standing f g x dc deps i params all face core =
    moved f g (new_face x dc deps) g (new_core x i params) all
    (subst (λ (y : Part). Keeps g y (new_face x dc deps)) (sym face) (new_keeps g x dc deps))
    (subst (λ (y : Part). IsOwn g (new_face x dc deps) g y (new_core x i params)) (sym core) (new_own g x dc deps i params))

-- FACES that keep who stands there
pub stored_same : (x : Part) (k v : ℕ) → (is_gone_on (with_block x (λ st. block_steps.after_store st k v)) ≡ is_gone_on x) × (standing (with_block x (λ st. block_steps.after_store st k v)) ≡ standing x) × (queue_on (with_block x (λ st. block_steps.after_store st k v)) ≡ queue_on x)
stored_same (part.Block st) k v = (refl, refl, refl)
stored_same other k v = (refl, refl, refl)

pub linked_same : (x : Part) (i : ℕ) (m : Mode) → (is_gone_on (with_links x (λ slots. slot_steps.after_link slots i m)) ≡ is_gone_on x) × (standing (with_links x (λ slots. slot_steps.after_link slots i m)) ≡ standing x) × (queue_on (with_links x (λ slots. slot_steps.after_link slots i m)) ≡ queue_on x)
linked_same (part.Edt slots) i m = (refl, refl, refl)
linked_same other i m = (refl, refl, refl)
