-- Who cannot go on; so when a run is quiet.
use Rattle.std.proofs.Common.{◌≡◌, ◌⊎◌, inl, inr, ℕ, nat_lt, List, [], ◌∷◌, Bool, true, false, Option, Some, None, refl, sym, ◌∙◌, ap, subst, is_some}
use Rattle.std.proofs.lemmas.Bool.{false_from_ne_true}
use Rattle.ocr_acquire.specs.declared.Mode.{Mode}
use Rattle.ocr_acquire.specs.Mode.{mode_in}
use Rattle.ocr_edt.specs.declared.Edt.{Edt}
use Rattle.ocr_edt.specs.declared.Identity.{Identity}
use Rattle.ocr_machine_history.specs.declared.entry.Entry.{Entry}
use Rattle.ocr_machine_history.specs.declared.entry.Entry.TheVariants.{Call, Deliver, Acquire, Wait, StaleAcquire, Start, Free, End, Stop}
use Rattle.ocr_machine_parts.specs.declared.part.Part.{Part}
use Rattle.ocr_machine_history.specs.History.{History, Setting, is_stopped}
use Rattle.ocr_machine_history.specs.Made.{is_edt, Made, MadeEdt, made, is_edt_made}
use Rattle.ocr_machine_parts.specs.Calls.{plan_of, open_slots, link_calls, block_calls, edt_calls, loans_of, mode_next, event_calls, scope_calls}
use Rattle.ocr_machine_history.specs.Edts.{is_started, is_ended, IsRunning}
use Rattle.ocr_machine_parts.specs.Parts.{Parts, identity_of, core, parts_of}
use Rattle.ocr_machine_parts.specs.Kinds.{on_core, progress_in, core_progress, next_in, IsBlock, is_acquiring, is_acquiring_edt}
use Rattle.ocr_machine_parts.specs.Progress.{with_phase, made_ready, next_on}
use Rattle.ocr_machine_parts.specs.LegalOn.{IsTaken}
use Rattle.ocr_machine_parts.specs.Legal.{IsRun, IsLegal}
use Rattle.ocr_machine_laws.specs.Waits.{standing, queue_on, awaits_in, awaits, holders_on, is_gone_on}
use Rattle.ocr_machine_laws.specs.Marks.{mark_in, mark}
use Rattle.ocr_machine_laws.specs.Marks.{mark_in, mark}
use Rattle.ocr_machine_laws.specs.Quiet.{IsWakingOf, IsQueued, CanWake, IsUngranted, IsOver, IsIdleEdt, FateLaw, IdleLaw, DrainLaw, DoneLaw}
use Rattle.ocr_machine_parts.specs.Runs.{IsWaking, IsQuiet}
use Rattle.ocr_machine_parts.proofs.After.{readied_parts}
use Rattle.ocr_machine_parts.proofs.Lent.{ready_core}
use Rattle.ocr_machine_laws.proofs.Edts.{edts_law}
use Rattle.ocr_machine_parts.specs.declared.loans.Kept.{Kept}
use Rattle.ocr_machine_laws.proofs.States.{once_back}
use Rattle.ocr_machine_laws.proofs.Stages.{gone_face, once, standing_law, told_law}
use Rattle.ocr_machine_laws.proofs.Sleepers.{wake_law, quiet_law, ready_set}
use Rattle.ocr_datablock.specs.Steps as block_steps
use Rattle.ocr_edt.specs.declared.Edt.TheVariants as phase
use Rattle.ocr_edt.specs.Edt as edt
use Rattle.ocr_machine_parts.specs.declared.part.Part.TheVariants as part
use Rattle.ocr_machine_laws.proofs.Passes.{gone_is, queue_in}
use Rattle.ocr_datablock.proofs.Lines.{mode_skips}

-- the core of an EDT that is made ready, where the EDT cannot go on
abbrev Readied : List (ℕ × Mode) → Part → Part
Readied members x = on_core x (with_phase (made_ready members))

ended_edt_idle : (members : List (ℕ × Mode)) (e : Edt) → nat_lt 2 (mark_in e).0 ≡ true → (progress_in (made_ready members e) ≡ None) × (is_acquiring_edt (made_ready members e) ≡ false)
ended_edt_idle members (phase.Ended i) is = (refl, refl)
ended_edt_idle members other is = cc is

ended_idle : (members : List (ℕ × Mode)) (x : Part) → nat_lt 2 (mark x).0 ≡ true → (core_progress (Readied members x) ≡ None) × (is_acquiring (Readied members x) ≡ false)
ended_idle members (part.Core c) is = ended_edt_idle members c.edt is
ended_idle members other is = cc is

waiting_edt_idle : (members : List (ℕ × Mode)) (e : Edt) (z : ℕ × Mode) → awaits_in e ≡ Some z → (next_in (progress_in (made_ready members e)) ≡ Some z) × (is_acquiring_edt (made_ready members e) ≡ false)
waiting_edt_idle members (phase.Waiting p) z is = (is, refl)
waiting_edt_idle members other z is = cc is

waiting_idle : (members : List (ℕ × Mode)) (x : Part) (z : ℕ × Mode) → awaits x ≡ Some z → (next_in (core_progress (Readied members x)) ≡ Some z) × (is_acquiring (Readied members x) ≡ false)
waiting_idle members (part.Core c) z is = waiting_edt_idle members c.edt z is
waiting_idle members other z is = cc is

-- what is not made has no core
no_core : (m : Option Made) (i : Identity) (calls : List edt.EdtCall) (loans : List (ℕ × Kept)) (members : List (ℕ × Mode)) → is_edt_made m ≡ false
    → (core_progress (Readied members (core m i calls loans)) ≡ None) × (is_acquiring (Readied members (core m i calls loans)) ≡ false)
no_core (Some (MadeEdt f ps n)) i calls loans members is = cc is
no_core other i calls loans members is = (refl, refl)

not_taken : (x : Part) (t : ℕ) (k m : Mode) → IsBlock x (IsTaken t k) → mode_in t (holders_on x) ≡ None → mode_in t (standing x) ≡ Some m → ⊥
not_taken (part.Block st) t k m taken unheld stands = elim taken.fit [
  | inl held ↦ cc (sym unheld ∙ held)
  | inr free ↦ let queued : mode_in t st.queue ≡ Some m = sym (mode_skips t st.holders st.queue unheld) ∙ stands in cc (sym free.newcomer.not_waiting ∙ queued)
]
not_taken other t k m taken unheld stands = absurd taken

-- none of its entries is legal
pub record IsAsleep (s : Setting) (past : History) (t : ℕ) : Type 0 where
  pub no_acquire : (d : ℕ) → IsLegal s past (Acquire t d) → ⊥
  pub no_stale : (d : ℕ) → IsLegal s past (StaleAcquire t d) → ⊥
  pub not_acquiring : open_slots s past t ≡ [] → is_acquiring ((readied_parts s past t).core t) ≡ true → ⊥

bare_asleep : (s : Setting) (past : History) (t : ℕ) → (core_progress (Readied (plan_of s past t) ((parts_of s past).core t)) ≡ None) × (is_acquiring (Readied (plan_of s past t) ((parts_of s past).core t)) ≡ false) → IsAsleep s past t
bare_asleep s past t none = record {
  no_acquire = λ d legal.
      let next : next_on (readied_parts s past t) t ≡ None = ap (λ (x : Part). next_in (core_progress x)) (ready_core s past t) ∙ ap next_in none.0 in
      cc (sym next ∙ legal.on_parts.next);
  no_stale = λ d legal.
      let next : next_on (readied_parts s past t) t ≡ None = ap (λ (x : Part). next_in (core_progress x)) (ready_core s past t) ∙ ap next_in none.0 in
      cc (sym next ∙ legal.on_parts.next);
  not_acquiring = λ set is. let off : is_acquiring ((readied_parts s past t).core t) ≡ false = ap is_acquiring (ready_core s past t) ∙ none.1 in cc (off, is);
}

idle_asleep : (s : Setting) (past : History) (t : ℕ) → IsRun s past → IsIdleEdt s past t → IsAsleep s past t
idle_asleep s past t run (inl (inl ended)) = bare_asleep s past t (ended_idle (plan_of s past t) ((parts_of s past).core t) (sym (told_law s past run t).has_ended ∙ ended))
idle_asleep s past t run (inl (inr some)) = record { no_acquire = λ d legal. some legal.on_facts; no_stale = λ d legal. some legal.on_facts; not_acquiring = λ set is. some set }
idle_asleep s past t run (inr found) =
    let d : ℕ = found.0 in
    let m : Mode = found.1 in
    let f : Parts = readied_parts s past t in
    let waits = waiting_idle (plan_of s past t) ((parts_of s past).core t) (d, m) found.2.waits in
    let stands : mode_in t (standing (f.face d)) ≡ Some m = (standing_law s past run).waits t d m found.2.waits found.2.not_gone in
    record {
      no_acquire = λ e legal.
          let next : next_on f t ≡ Some (d, m) = ap (λ (x : Part). next_in (core_progress x)) (ready_core s past t) ∙ waits.0 in
          let both : Some (d, m) ≡ Some (e, mode_next (next_on f t)) = sym next ∙ legal.on_parts.next in
          let one : (d, m) ≡ (e, mode_next (next_on f t)) = cc in
          let same : d ≡ e = ap (λ (x : ℕ × Mode). x.0) one in
          not_taken (f.face e) t (mode_next (next_on f t)) m legal.on_parts.taken
          (subst (λ (n : ℕ). mode_in t (holders_on (f.face n)) ≡ None) same found.2.not_held)
          (subst (λ (n : ℕ). mode_in t (standing (f.face n)) ≡ Some m) same stands);
      no_stale = λ e legal.
          let next : next_on f t ≡ Some (d, m) = ap (λ (x : Part). next_in (core_progress x)) (ready_core s past t) ∙ waits.0 in
          let both : Some (d, m) ≡ Some (e, mode_next (next_on f t)) = sym next ∙ legal.on_parts.next in
          let one : (d, m) ≡ (e, mode_next (next_on f t)) = cc in
          let same : d ≡ e = ap (λ (x : ℕ × Mode). x.0) one in
          let alive : is_gone_on (f.face e) ≡ false = subst (λ (n : ℕ). is_gone_on (f.face n) ≡ false) same found.2.not_gone in
          let gone : is_gone_on (f.face e) ≡ true = gone_is (f.face e) legal.on_parts.gone in
          cc (gone, alive);
      not_acquiring = λ set is. let off : is_acquiring (f.core t) ≡ false = ap is_acquiring (ready_core s past t) ∙ waits.1 in cc (off, is);
    }

asleep_if : (s : Setting) (past : History) (t : ℕ) (b : Bool) → is_edt_made (made s past t) ≡ b → IsRun s past → (is_edt past t ≡ true → IsIdleEdt s past t) → IsAsleep s past t
asleep_if s past t true is run idle = idle_asleep s past t run (idle (sym (edts_law s past run t) ∙ is))
asleep_if s past t false is run idle = bare_asleep s past t (no_core (made s past t) (identity_of past t) (edt_calls s past t) (loans_of s past t) (plan_of s past t) is)

no_waking : (s : Setting) (past : History) → ((t : ℕ) → IsAsleep s past t) → (e : Entry) → IsWaking e → IsLegal s past e → ⊥
no_waking s past all (Acquire t d) waking legal = (all t).no_acquire d legal
no_waking s past all (Wait t d) waking legal = (all t).not_acquiring legal.on_facts legal.on_parts.acquiring
no_waking s past all (StaleAcquire t d) waking legal = (all t).no_stale d legal
no_waking s past all (Start t) waking legal = (all t).not_acquiring legal.on_facts legal.on_parts.acquiring
no_waking s past all (Call t home c a w) waking legal = absurd waking
no_waking s past all (Deliver m c) waking legal = absurd waking
no_waking s past all (Free t d w) waking legal = absurd waking
no_waking s past all (End t g) waking legal = absurd waking
no_waking s past all (Stop why) waking legal = absurd waking

-- who has started has ended
no_mark : (m : Option Made) (i : Identity) (calls : List edt.EdtCall) (loans : List (ℕ × Kept)) → is_edt_made m ≡ false → nat_lt 1 (mark (core m i calls loans)).0 ≡ false
no_mark (Some (MadeEdt f ps n)) i calls loans is = cc is
no_mark other i calls loans is = refl

waiting_mark_edt : (e : Edt) (z : ℕ × Mode) → awaits_in e ≡ Some z → nat_lt 1 (mark_in e).0 ≡ false
waiting_mark_edt (phase.Waiting p) z is = refl
waiting_mark_edt other z is = cc is

waiting_mark : (x : Part) (z : ℕ × Mode) → awaits x ≡ Some z → nat_lt 1 (mark x).0 ≡ false
waiting_mark (part.Core c) z is = waiting_mark_edt c.edt z is
waiting_mark other z is = refl

idle_ended : (s : Setting) (past : History) (t : ℕ) → IsRun s past → IsIdleEdt s past t → is_started past t ≡ true → is_ended past t ≡ true
idle_ended s past t run (inl (inl ended)) on = ended
idle_ended s past t run (inl (inr some)) on = let told = told_law s past run t in absurd (some (told.all_set (ready_set (mark ((parts_of s past).core t)).0 (sym told.has_started ∙ on))))
idle_ended s past t run (inr found) on =
    let told = told_law s past run t in
    let off : is_started past t ≡ false = told.has_started ∙ waiting_mark ((parts_of s past).core t) (found.0, found.1) found.2.waits in
    cc (on, off)

ended_if : (s : Setting) (past : History) (t : ℕ) (b : Bool) → is_edt_made (made s past t) ≡ b → IsRun s past → (is_edt past t ≡ true → IsIdleEdt s past t) → is_started past t ≡ true → is_ended past t ≡ true
ended_if s past t true is run idle on = idle_ended s past t run (idle (sym (edts_law s past run t) ∙ is)) on
ended_if s past t false is run idle on =
    let off : is_started past t ≡ false = (told_law s past run t).has_started ∙ no_mark (made s past t) (identity_of past t) (edt_calls s past t) (loans_of s past t) is in
    cc (on, off)

pub drain_law : DrainLaw
drain_law s past run going delivered idle = record {
  open_run = going;
  delivered = delivered;
  ended = λ t on. ended_if s past t (is_edt_made (made s past t)) refl run (idle t) on;
  asleep = no_waking s past (λ t. asleep_if s past t (is_edt_made (made s past t)) refl run (idle t));
}

done_if : (s : Setting) (past : History) (t : ℕ) → IsRun s past → IsQuiet s past → is_edt past t ≡ true → (b : Bool) → is_started past t ≡ b → IsOver s past t
done_if s past t run quiet is_one true on = inl (quiet.ended t on)
done_if s past t run quiet is_one false off = inr ((quiet_law s past quiet run t is_one).0 off)

pub done_law : DoneLaw
done_law s past run = (
  λ quiet. record { open_run = quiet.open_run; delivered = quiet.delivered; over = λ t is_one. done_if s past t run quiet is_one (is_started past t) refl },
  λ done. drain_law s past run done.open_run done.delivered (λ t is_one. inl (done.over t is_one)),
)

-- EACH EDT goes on, runs, or is idle
not_held : (x : Part) (t : ℕ) (m : Mode) → block_steps.StandOnce (standing x) → mode_in t (queue_on x) ≡ Some m → mode_in t (holders_on x) ≡ None
not_held (part.Block st) t m once queued = elim (mode_in t st.holders) as (λ o. mode_in t st.holders ≡ o → o ≡ None) [
  | Some k ↦ λ held. absurd (let none : mode_in t st.queue ≡ None = once_back t st.holders st.queue once (ap (λ (o : Option Mode). is_some o) held) in cc (none, queued))
  | None ↦ λ _. refl
] refl
not_held other t m once queued = refl

abbrev Fates : Setting → History → ℕ → Type 0
Fates s past t = CanWake s past t ⊎ (IsRunning past t ⊎ IsIdleEdt s past t)

pub queued_idle : (s : Setting) (past : History) (t d : ℕ) (m : Mode) → IsRun s past → IsQueued s past t d m → IsUngranted s past t d m
queued_idle s past t d m run queued = record {
  waits = queued.waits;
  not_held = not_held ((parts_of s past).face d) t m (once s past run d) queued.queued;
  not_gone = false_from_ne_true (is_gone_on ((parts_of s past).face d)) (λ gone.
      queue_in ((parts_of s past).face d) t m (gone_face (made s past d) (link_calls past d) (block_calls s past d) (event_calls s past d) (scope_calls past d) gone) queued.queued);
}

set_fate : (s : Setting) (past : History) (t : ℕ) (xs : List ℕ) → open_slots s past t ≡ xs → IsRun s past → is_stopped past ≡ false → is_edt past t ≡ true → is_started past t ≡ false → Fates s past t
set_fate s past t [] set run going is_made off = elim (wake_law s past t run going is_made off set) [
  | inl wakes ↦ inl wakes
  | inr queued ↦ inr (inr (inr (queued.0, queued.1, queued_idle s past t queued.0 queued.1 run queued.2)))
]
set_fate s past t (k ∷ rest) some run going is_made off = inr (inr (inl (inr (λ set. cc (some, set)))))

pub fate_law : FateLaw
fate_law s past t run going is_made = elim (is_started past t) as (λ b. is_started past t ≡ b → Fates s past t) [
  | true ↦ λ on. elim (is_ended past t) as (λ b. is_ended past t ≡ b → Fates s past t) [
    | true ↦ λ ended. inr (inr (inl (inl ended)))
    | false ↦ λ not_ended. inr (inl (record { started = on; not_ended = not_ended }))
  ] refl
  | false ↦ λ off. set_fate s past t (open_slots s past t) refl run going is_made off
] refl

of_one : (s : Setting) (past : History) (t : ℕ) → IsAsleep s past t → (e : Entry) → IsWakingOf t e → IsLegal s past e → ⊥
of_one s past t asleep (Acquire u d) is legal = asleep.no_acquire d (subst (λ (n : ℕ). IsLegal s past (Acquire n d)) is legal)
of_one s past t asleep (Wait u d) is legal = let own : IsLegal s past (Wait t d) = subst (λ (n : ℕ). IsLegal s past (Wait n d)) is legal in asleep.not_acquiring own.on_facts own.on_parts.acquiring
of_one s past t asleep (StaleAcquire u d) is legal = asleep.no_stale d (subst (λ (n : ℕ). IsLegal s past (StaleAcquire n d)) is legal)
of_one s past t asleep (Start u) is legal = let own : IsLegal s past (Start t) = subst (λ (n : ℕ). IsLegal s past (Start n)) is legal in asleep.not_acquiring own.on_facts own.on_parts.acquiring
of_one s past t asleep (Call by home c a w) is legal = absurd is
of_one s past t asleep (Deliver m c) is legal = absurd is
of_one s past t asleep (Free u d w) is legal = absurd is
of_one s past t asleep (End u g) is legal = absurd is
of_one s past t asleep (Stop why) is legal = absurd is

pub idle_law : IdleLaw
idle_law s past t run idle wakes = of_one s past t (idle_asleep s past t run idle) wakes.0 wakes.1 wakes.2
