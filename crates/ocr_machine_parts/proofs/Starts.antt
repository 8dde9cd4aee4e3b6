-- Every EDT starts at most once, and only where every slot is set.
use Rattle.std.proofs.Common.{◌≡◌, ◌≤◌, ◌⊎◌, inl, inr, ℕ, ◌+◌, ◌/◌, List, [], ◌∷◌, Bool, true, false, not, ◌==◌, if◌then◌else◌, refl, sym, ◌∙◌, ap, subst, arith}
use Rattle.std.proofs.lemmas.Bool.{eqb-true}
use Rattle.ocr_acquire.specs.declared.Mode.{Mode}
use Rattle.ocr_edt.specs.declared.Edt.{Edt}
use Rattle.ocr_edt.specs.declared.Edt.TheVariants as phase
use Rattle.ocr_body_meaning.specs.declared.call.Call as body
use Rattle.ocr_body_meaning.specs.declared.call.Call.TheVariants as call
use Rattle.ocr_body_meaning.specs.declared.call.Answer.{Answer}
use Rattle.ocr_machine_history.specs.declared.entry.Entry.TheVariants.{Deliver, StaleAcquire, Call, Acquire, Wait, Start, Free, End}
use Rattle.ocr_machine_parts.specs.declared.part.Core.{Core}
use Rattle.ocr_machine_parts.specs.declared.part.Part.TheVariants as part
use Rattle.ocr_machine_parts.proofs.After.{after_law, linked_core, deps_core}
use Rattle.ocr_machine_history.specs.declared.entry.What.{What}
use Rattle.ocr_machine_history.specs.declared.entry.What.TheVariants as what
use Rattle.ocr_machine_parts.proofs.Lent.{ready_core}
use Rattle.ocr_machine_history.specs.Edts.{start_count}
use Rattle.ocr_machine_history.specs.History.{History, Setting}
use Rattle.ocr_machine_history.specs.declared.entry.Entry.{Entry}
use Rattle.ocr_body_meaning.specs.Holds.{is_done}
use Rattle.ocr_machine_parts.specs.Calls.{plan_of}
use Rattle.ocr_machine_parts.specs.Effects.{brought, joined, acquired_edt, acquiring_core, awoken, called, changed, creating_core, dropped_edt, dropping_core, ended_edt, holding_core, holding_edt, new_core, started_edt, waiting_edt, stale_edt}
use Rattle.ocr_machine_parts.specs.Progress.{edt_in, made_ready, next_mode_on, readied, ready_at, with_phase}
use Rattle.ocr_machine_parts.specs.Kinds.{home_on, is_acquiring, is_acquiring_edt, on_core, size_on, words_on}
use Rattle.ocr_machine_parts.specs.Laws.{SetLaw, StartLaw}
use Rattle.ocr_machine_parts.specs.Legal.{IsLegal, IsRun}
use Rattle.ocr_machine_parts.specs.LegalOn.{IsCallOn, IsLegalOn}
use Rattle.ocr_machine_parts.specs.Parts.{Parts, new_identity, parts_of}
use Rattle.ocr_machine_parts.specs.declared.part.Part.{Part}
use Rattle.ocr_base.proofs.Booleans.{same}

-- the EDT has started, by its core
abbrev pub has_begun : Edt → Bool
has_begun (phase.Running s) = true
has_begun (phase.Ended i) = true
has_begun other = false

abbrev pub is_begun : Part → Bool
is_begun (part.Core c) = has_begun c.edt
is_begun other = false

-- a step that keeps this
abbrev Keeps : (Edt → Edt) → Type 0
Keeps step = (e : Edt) → has_begun e ≡ true → has_begun (step e) ≡ true

keeps_ready : (members : List (ℕ × Mode)) → Keeps (made_ready members)
keeps_ready members (phase.Running s) is = refl
keeps_ready members (phase.Ended i) is = refl
keeps_ready members other is = cc is

keeps_acquired : Keeps (λ e. acquired_edt (awoken e))
keeps_acquired (phase.Running s) is = refl
keeps_acquired (phase.Ended i) is = refl
keeps_acquired other is = cc is

keeps_stale : Keeps (λ e. stale_edt (awoken e))
keeps_stale (phase.Running s) is = refl
keeps_stale (phase.Ended i) is = refl
keeps_stale other is = cc is

keeps_waiting : Keeps waiting_edt
keeps_waiting (phase.Running s) is = refl
keeps_waiting (phase.Ended i) is = refl
keeps_waiting other is = cc is

keeps_started : Keeps started_edt
keeps_started (phase.Running s) is = refl
keeps_started (phase.Ended i) is = refl
keeps_started other is = cc is

keeps_holding : (d : ℕ) → Keeps (holding_edt d)
keeps_holding d (phase.Running s) is = refl
keeps_holding d (phase.Ended i) is = refl
keeps_holding d other is = cc is

keeps_dropped : (d : ℕ) → Keeps (dropped_edt d)
keeps_dropped d (phase.Running s) is = refl
keeps_dropped d (phase.Ended i) is = refl
keeps_dropped d other is = cc is

keeps_ended : Keeps ended_edt
keeps_ended (phase.Running s) is = refl
keeps_ended (phase.Ended i) is = refl
keeps_ended other is = cc is

-- a core that is changed by a step
abbrev KeepsCore : (Core → Core) → Type 0
KeepsCore step = (c : Core) → has_begun c.edt ≡ true → has_begun (step c).edt ≡ true

begun_core : (x : Part) (step : Core → Core) → KeepsCore step → is_begun x ≡ true → is_begun (on_core x step) ≡ true
begun_core (part.Core c) step keeps is = keeps c is
begun_core other step keeps is = cc is

begun_at : (f : Parts) (u t : ℕ) (step : Core → Core) → KeepsCore step → is_begun (f.core t) ≡ true → is_begun (if u == t then on_core (f.core u) step else f.core t) ≡ true
begun_at f u t step keeps is = elim (u == t) as (λ b. (u == t) ≡ b → is_begun (if b then on_core (f.core u) step else f.core t) ≡ true) [
  | true ↦ λ here. begun_core (f.core u) step keeps (ap (λ (n : ℕ). is_begun (f.core n)) (eqb-true u t here) ∙ is)
  | false ↦ λ _. is
] refl

keeps_creating : (fl d z : ℕ) → KeepsCore (creating_core fl d z)
keeps_creating fl d z c is = elim (fl == 0) as (λ b. has_begun (if b then holding_core d z c else c).edt ≡ true) [ true ↦ keeps_holding d c.edt is | false ↦ is ]

called_begun : (limit : ℕ) (f : Parts) (u home : ℕ) (c : body.Call) (a : Answer) (w : List (ℕ × ℕ)) (t : ℕ) → IsCallOn limit f u home c a w → is_done a.code ≡ true
    → is_begun (f.core t) ≡ true → is_begun ((called u c a w f).core t) ≡ true
called_begun limit f u home (call.DbCreate n fl) a w t legal on is = begun_at f u t (creating_core fl a.value (n / 8)) (keeps_creating fl a.value (n / 8)) is
called_begun limit f u home (call.DbRelease d) a w t legal on is = begun_at f u t (dropping_core d) (λ c. keeps_dropped d c.edt) is
called_begun limit f u home (call.DbDestroy d) a w t legal on is = begun_at f u t (dropping_core d) (λ c. keeps_dropped d c.edt) is
called_begun limit f u home (call.AddDependence from x i m) a w t legal on is = ap is_begun (linked_core (not (from == 0)) from _ _ t) ∙ is
called_begun limit f u home (call.EdtCreate from pc ps dc ds fl o) a w t legal on is =
    ap is_begun (deps_core a.value 0 ds _ t)
    ∙ elim (a.value == t) as (λ b. (a.value == t) ≡ b → is_begun (if b then new_core (f.face from) (new_identity a.value fl a (home_on (f.core u))) ps else f.core t) ≡ true) [
      | true ↦ λ here. absurd (let none : is_begun (f.core t) ≡ false = ap (λ (n : ℕ). is_begun (f.core n)) (sym (eqb-true a.value t here)) ∙ ap is_begun (legal.value.no_core on) in cc (is, none))
      | false ↦ λ _. is
    ] refl
called_begun limit f u home other a w t legal on is = is

brought_core : (w : What) (b : Bool) (f : Parts) (u : ℕ) → (if b then brought w f else f).core u ≡ f.core u
brought_core w false f u = refl
brought_core (what.Satisfy e i p) true f u = refl
brought_core (what.Leave x) true f u = refl
brought_core other true f u = refl

-- what has begun stays so
changed_begun : (limit : ℕ) (e : Entry) (members : List (ℕ × Mode)) (f : Parts) (t : ℕ) → IsLegalOn limit (readied members e f) e → is_begun (f.core t) ≡ true → is_begun ((changed e (readied members e f)).core t) ≡ true
changed_begun limit (Call u home c a w) members f t legal is = elim (is_done a.code) as (λ b. is_done a.code ≡ b → is_begun ((if b then joined c home (called u c a w f) else f).core t) ≡ true) [
  | true ↦ λ on. called_begun limit f u home c a w t legal on is
  | false ↦ λ _. is
] refl
changed_begun limit (Acquire u d) members f t legal is =
    let now : Parts = ready_at u members f in
    begun_at now u t (acquiring_core d (next_mode_on now u) (size_on (f.face d)) (words_on (f.face d))) (λ c. keeps_acquired c.edt) (begun_at f u t (with_phase (made_ready members)) (λ c. keeps_ready members c.edt) is)
changed_begun limit (Wait u d) members f t legal is =
    begun_at (ready_at u members f) u t (with_phase waiting_edt) (λ c. keeps_waiting c.edt) (begun_at f u t (with_phase (made_ready members)) (λ c. keeps_ready members c.edt) is)
changed_begun limit (StaleAcquire u d) members f t legal is =
    begun_at (ready_at u members f) u t (with_phase (λ e. stale_edt (awoken e))) (λ c. keeps_stale c.edt) (begun_at f u t (with_phase (made_ready members)) (λ c. keeps_ready members c.edt) is)
changed_begun limit (Start u) members f t legal is =
    begun_at (ready_at u members f) u t (with_phase started_edt) (λ c. keeps_started c.edt) (begun_at f u t (with_phase (made_ready members)) (λ c. keeps_ready members c.edt) is)
changed_begun limit (Free u d w) members f t legal is = begun_at f u t (dropping_core d) (λ c. keeps_dropped d c.edt) is
changed_begun limit (End u g) members f t legal is = begun_at f u t (with_phase ended_edt) (λ c. keeps_ended c.edt) is
changed_begun limit (Deliver m c) members f t legal is = ap is_begun (brought_core m.what (is_done c) f t) ∙ is
changed_begun limit other members f t legal is = is

stays_begun : (s : Setting) (past : History) (e : Entry) (t : ℕ) → IsRun s past → IsLegal s past e → is_begun ((parts_of s past).core t) ≡ true → is_begun ((parts_of s (e ∷ past)).core t) ≡ true
stays_begun s past e t run legal is = ap (λ (f : Parts). is_begun (f.core t)) (after_law s past e run legal) ∙ changed_begun s.limit e (plan_of s past (edt_in e)) (parts_of s past) t legal.on_parts is

-- who starts had not begun, and has then
ready_begins : (members : List (ℕ × Mode)) (e : Edt) → is_acquiring_edt (made_ready members e) ≡ true → (has_begun e ≡ false) × (has_begun (started_edt (made_ready members e)) ≡ true)
ready_begins members (phase.Filling i) is = (refl, refl)
ready_begins members (phase.Acquiring s) is = (refl, refl)
ready_begins members other is = cc is

core_begins : (members : List (ℕ × Mode)) (x : Part) → is_acquiring (on_core x (with_phase (made_ready members))) ≡ true
    → (is_begun x ≡ false) × (is_begun (on_core (on_core x (with_phase (made_ready members))) (with_phase started_edt)) ≡ true)
core_begins members (part.Core c) is = ready_begins members c.edt is
core_begins members other is = cc is

starts_core : (s : Setting) (past : History) (t : ℕ) → IsRun s past → IsLegal s past (Start t) → (is_begun ((parts_of s past).core t) ≡ false) × (is_begun ((parts_of s (Start t ∷ past)).core t) ≡ true)
starts_core s past t run legal =
    let begins = core_begins (plan_of s past t) ((parts_of s past).core t) (ap is_acquiring (sym (ready_core s past t)) ∙ legal.on_parts.acquiring) in
    (begins.0, ap (λ (f : Parts). is_begun (f.core t)) (after_law s past (Start t) run legal) ∙ rw (same t) begins.1)

-- HOW OFTEN an EDT started
abbrev IsCounted : Setting → History → ℕ → Type 0
IsCounted s past t = (start_count past t ≡ 0) ⊎ ((start_count past t ≡ 1) × (is_begun ((parts_of s past).core t) ≡ true))

counted_later : (s : Setting) (past : History) (e : Entry) (t : ℕ) → IsRun s past → IsLegal s past e → IsCounted s past t → (start_count past t ≡ 0) ⊎ ((start_count past t ≡ 1) × (is_begun ((parts_of s (e ∷ past)).core t) ≡ true))
counted_later s past e t run legal (inl none) = inl none
counted_later s past e t run legal (inr once) = inr (once.0, stays_begun s past e t run legal once.1)

started_here : (s : Setting) (past : History) (t : ℕ) → IsRun s past → IsLegal s past (Start t) → IsCounted s past t → (1 + start_count past t ≡ 1) × (is_begun ((parts_of s (Start t ∷ past)).core t) ≡ true)
started_here s past t run legal (inl none) = (ap (λ (n : ℕ). 1 + n) none, (starts_core s past t run legal).1)
started_here s past t run legal (inr once) = absurd (cc (once.1, (starts_core s past t run legal).0))

pub none_more : (n : ℕ) → n ≡ 0 + n
none_more n = omega arith

pub counted : (s : Setting) (past : History) (t : ℕ) → IsRun s past → IsCounted s past t
counted s [] t run = inl refl
counted s (Start u ∷ past) t run = elim (u == t) as (λ b. (u == t) ≡ b → ((if b then 1 else 0) + start_count past t ≡ 0) ⊎ (((if b then 1 else 0) + start_count past t ≡ 1) × (is_begun ((parts_of s (Start u ∷ past)).core t) ≡ true))) [
  | true ↦ λ here. subst (λ (n : ℕ). (1 + start_count past n ≡ 0) ⊎ ((1 + start_count past n ≡ 1) × (is_begun ((parts_of s (Start u ∷ past)).core n) ≡ true))) (eqb-true u t here)
      (inr (started_here s past u run.0 run.1 (counted s past u run.0)))
  | false ↦ λ _. subst (λ (n : ℕ). (n ≡ 0) ⊎ ((n ≡ 1) × (is_begun ((parts_of s (Start u ∷ past)).core t) ≡ true))) (none_more (start_count past t)) (counted_later s past (Start u) t run.0 run.1 (counted s past t run.0))
] refl
counted s (e ∷ past) t run = counted_later s past e t run.0 run.1 (counted s past t run.0)

at_most : (n : ℕ) (P : Type 0) → (n ≡ 0) ⊎ ((n ≡ 1) × P) → n ≤ 1
at_most n P (inl none) = omega (arith, none)
at_most n P (inr once) = omega (arith, once.0)

pub start_law : StartLaw
start_law s past run t = at_most (start_count past t) _ (counted s past t run)

pub set_law : SetLaw
set_law s [] run = tt
set_law s (Start t ∷ past) run = (run.1.on_facts, set_law s past run.0)
set_law s (e ∷ past) run = set_law s past run.0
