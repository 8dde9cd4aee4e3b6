-- The core of a running EDT after its entries, and the list of parts that has it first.
use Rattle.std.proofs.Common.{◌≡◌, ℕ, ◌+◌, ◌/◌, Bool, true, false, not, ◌==◌, if◌then◌else◌, List, [], ◌∷◌, is_some, refl, ap, sym, ◌∙◌, subst}
use Rattle.std.proofs.lemmas.Bool.{eqb-true}
use Rattle.ocr_base.proofs.Booleans.{same as number_same}
use Rattle.ocr_edt.specs.declared.Edt.{Edt}
use Rattle.ocr_edt.specs.declared.Edt.TheVariants as phase
use Rattle.ocr_body_meaning.specs.Holds.{after_call, is_done}
use Rattle.ocr_body_meaning.specs.declared.call.Answer.{Answer}
use Rattle.ocr_body_meaning.specs.declared.call.Call as body
use Rattle.ocr_body_meaning.specs.declared.call.Call.TheVariants as call
use Rattle.ocr_machine_history.specs.declared.entry.Entry.TheVariants.{Call, Free}
use Rattle.ocr_machine_parts.specs.declared.part.Core.{Core}
use Rattle.ocr_machine_parts.specs.declared.part.Part.{Part}
use Rattle.ocr_machine_parts.specs.declared.part.Part.TheVariants as part
use Rattle.ocr_machine_parts.specs.Bodies.{holds_in, holds_on}
use Rattle.ocr_machine_parts.specs.Effects.{called, changed, creating_core, dropped_edt, dropping_core, holding_core, holding_edt, joined}
use Rattle.ocr_machine_parts.specs.Kinds.{is_running, on_core, work_in}
use Rattle.ocr_machine_parts.specs.LegalOn.{IsCallOn}
use Rattle.ocr_machine_parts.specs.Parts.{Parts}
use Rattle.ocr_machine_parts.specs.Taken.{as_core, has, is_within, keys, look, parts_in}
use Rattle.ocr_machine_parts.proofs.After.{deps_core, linked_core}
use Rattle.ocr_machine_parts.proofs.Held.{holds_law}

-- A STEP of a running core leaves it running
holding_runs : (d : ℕ) (e : Edt) → is_some (work_in e) ≡ true → is_some (work_in (holding_edt d e)) ≡ true
holding_runs d (phase.Running w) is = refl
holding_runs d other is = cc is

dropped_runs : (d : ℕ) (e : Edt) → is_some (work_in e) ≡ true → is_some (work_in (dropped_edt d e)) ≡ true
dropped_runs d (phase.Running w) is = refl
dropped_runs d other is = cc is

creating_runs : (x : Part) (fl d n : ℕ) → is_running x ≡ true → is_running (on_core x (creating_core fl d n)) ≡ true
creating_runs (part.Core c) fl d n is = elim (fl == 0) as (λ b. is_running (part.Core (if b then holding_core d n c else c)) ≡ true) [ true ↦ holding_runs d c.edt is | false ↦ is ]
creating_runs other fl d n is = cc is

dropping_runs : (x : Part) (d : ℕ) → is_running x ≡ true → is_running (on_core x (dropping_core d)) ≡ true
dropping_runs (part.Core c) d is = dropped_runs d c.edt is
dropping_runs other d is = cc is

-- what is made anew is none that runs
apart : (f : Parts) (n t : ℕ) → f.core n ≡ part.Vacant → is_running (f.core t) ≡ true → (n == t) ≡ false
apart f n t vacant running = elim (n == t) as (λ b. (n == t) ≡ b → b ≡ false) [
  | true ↦ λ same. let off : is_running (f.core t) ≡ false = subst (λ (k : ℕ). is_running (f.core k) ≡ false) (eqb-true n t same) (ap is_running vacant) in cc (off, running)
  | false ↦ λ _. refl
] refl

-- A CALL
done_or : (b : Bool) (f g : Parts) (t : ℕ) → is_running (f.core t) ≡ true → (b ≡ true → is_running (g.core t) ≡ true) → is_running ((if b then g else f).core t) ≡ true
done_or true f g t was now = now refl
done_or false f g t was now = was

called_runs : (limit : ℕ) (f : Parts) (t home : ℕ) (c : body.Call) (a : Answer) (w : List (ℕ × ℕ)) → IsCallOn limit f t home c a w → is_done a.code ≡ true → is_running ((called t c a w f).core t) ≡ true
called_runs limit f t home (call.DbCreate n fl) a w legal done = rw (number_same t) (creating_runs (f.core t) fl a.value (n / 8) legal.running)
called_runs limit f t home (call.DbRelease d) a w legal done = rw (number_same t) (dropping_runs (f.core t) d legal.running)
called_runs limit f t home (call.DbDestroy d) a w legal done = rw (number_same t) (dropping_runs (f.core t) d legal.running)
called_runs limit f t home (call.EdtCreate from pc ps dc ds fl o) a w legal done = ap is_running (deps_core a.value 0 ds _ t) ∙ rw (apart f a.value t (legal.value.no_core done) legal.running) legal.running
called_runs limit f t home (call.AddDependence from x i m) a w legal done = ap is_running (linked_core (not (from == 0)) from _ _ t) ∙ legal.running
called_runs limit f t home other a w legal done = legal.running

pub call_runs : (limit : ℕ) (f : Parts) (t home : ℕ) (c : body.Call) (a : Answer) (w : List (ℕ × ℕ)) → IsCallOn limit f t home c a w → is_running ((changed (Call t home c a w) f).core t) ≡ true
call_runs limit f t home c a w legal = done_or (is_done a.code) f (joined c home (called t c a w f)) t legal.running (λ done. called_runs limit f t home c a w legal done)

pub free_runs : (f : Parts) (t d : ℕ) (w : List (ℕ × ℕ)) → is_running (f.core t) ≡ true → is_running ((changed (Free t d w) f).core t) ≡ true
free_runs f t d w running = rw (number_same t) (dropping_runs (f.core t) d running)

-- WHAT IT HOLDS, as its body knows it
pub held_by : (f : Parts) (t : ℕ) (c : Core) → f.core t ≡ part.Core c → holds_on f t ≡ holds_in (part.Core c)
held_by f t c is = ap (λ (x : Part). holds_in x) is

pub call_holds : (limit : ℕ) (f g : Parts) (t home : ℕ) (c : body.Call) (a : Answer) (w : List (ℕ × ℕ)) (was now : Core) → IsCallOn limit f t home c a w → g ≡ changed (Call t home c a w) f → f.core t ≡ part.Core was → g.core t ≡ part.Core now
    → holds_in (part.Core now) ≡ after_call c a (holds_in (part.Core was))
call_holds limit f g t home c a w was now legal is core later =
    sym (held_by g t now later) ∙ (ap (λ (h : Parts). holds_on h t) is ∙ (whole ∙ ap (after_call c a) (held_by f t was core)))
  where
    whole : holds_on (changed (Call t home c a w) f) t ≡ after_call c a (holds_on f t)
    whole = λ i d. holds_law limit f t home c a w legal d i

-- THE LIST of parts, the core first
pub first_core : (limit t : ℕ) (c : Core) (rest : List (ℕ × Part)) → is_within limit t ≡ true → (parts_in limit ((limit + t, part.Core c) ∷ rest)).core t ≡ part.Core c
first_core limit t c rest within = rw (within, number_same (limit + t)) refl

pub first_has : (n : ℕ) (x : Part) (rest : List (ℕ × Part)) → has ((n, x) ∷ rest) n ≡ true
first_has n x rest = rw (number_same n) refl

pub first_look : (n : ℕ) (x : Part) (rest : List (ℕ × Part)) → look ((n, x) ∷ rest) n ≡ x
first_look n x rest = rw (number_same n) refl

-- a list of the same places, on which the EDT runs
pub record HasCoreFirst (n : ℕ) (ps : List (ℕ × Part)) (later : List (ℕ × Part)) : Type 0 where
  pub core : Core
  pub rest : List (ℕ × Part)
  pub is : later ≡ (n, part.Core core) ∷ rest
  pub running : is_running (part.Core core) ≡ true
  pub same : keys rest ≡ keys ps

as_running : (x : Part) → is_running (as_core x) ≡ true → (c : Core) × (x ≡ part.Core c)
as_running (part.Core c) is = (c, refl)
as_running other is = cc is

pub core_first : (limit t : ℕ) (c : Core) (ps later : List (ℕ × Part)) → is_within limit t ≡ true → keys later ≡ keys ((limit + t, part.Core c) ∷ ps) → is_running ((parts_in limit later).core t) ≡ true → HasCoreFirst (limit + t) ps later
core_first limit t c ps [] within same running = cc same
core_first limit t c ps (x ∷ rest) within same running =
    let key : x.0 ≡ limit + t = cc same in
    let tail : keys rest ≡ keys ps = cc same in
    let seen : is_running (as_core (look (x ∷ rest) (limit + t))) ≡ true = rw within at running in
    let found : look (x ∷ rest) (limit + t) ≡ x.1 = rw (ap (λ (n : ℕ). n == (limit + t)) key ∙ number_same (limit + t)) refl in
    let runs : is_running (as_core x.1) ≡ true = ap (λ (y : Part). is_running (as_core y)) (sym found) ∙ seen in
    let core = as_running x.1 runs in
    record {
      core = core.0;
      rest = rest;
      is = λ i. (key i, core.1 i) ∷ rest;
      running = ap (λ (y : Part). is_running y) (sym core.1) ∙ running_as x.1 runs;
      same = tail;
    }
  where
    running_as : (y : Part) → is_running (as_core y) ≡ true → is_running y ≡ true
    running_as (part.Core c) is = is
    running_as other is = cc is
