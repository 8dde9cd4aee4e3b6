-- An EDT whose slots are set goes on or stands in a queue, and in a quiet run nobody waits.
use Rattle.std.proofs.Common.{◌≡◌, ◌⊎◌, inl, inr, ℕ, zero, suc, ◌+◌, ◌<◌, ◌≤◌, nat_lt, List, [], ◌∷◌, ◌++◌, true, false, Option, Some, None, ◌==◌, not, refl, sym, ◌∙◌, ap, subst, is_some, arith}
use Rattle.std.proofs.lemmas.Bool.{eq-eqb, false_from_ne_true}
use Rattle.ocr_guid.specs.Target.{EventCall}
use Rattle.ocr_acquire.specs.declared.Mode.{Mode}
use Rattle.ocr_acquire.specs.Mode.{is_null, mode_in}
use Rattle.ocr_acquire.proofs.Laws.{given_law}
use Rattle.ocr_datablock.proofs.Laws.{waiting_law}
use Rattle.ocr_edt.specs.declared.Edt.{Edt}
use Rattle.ocr_edt.specs.Phases.{Progress, next_of, first_of}
use Rattle.ocr_machine_history.specs.declared.entry.Entry.{Entry}
use Rattle.ocr_machine_history.specs.declared.entry.Entry.TheVariants.{Call, Deliver, Acquire, Wait, StaleAcquire, Start, Free, End, Stop}
use Rattle.ocr_machine_parts.specs.declared.part.Part.{Part}
use Rattle.ocr_machine_history.specs.History.{History, Setting, is_stopped}
use Rattle.ocr_machine_history.specs.Made.{Made, MadeBlock, MadeEdt, made, is_edt_made, creator_in}
use Rattle.ocr_machine_parts.specs.Calls.{plan_of, asks_in, slots_now, open_slots, link_calls, block_calls, edt_calls, loans_of, mode_next, next_member, event_calls, scope_calls}
use Rattle.ocr_machine_history.specs.Edts.{is_started, is_ended}
use Rattle.ocr_machine_parts.specs.Parts.{Parts, face, core, parts_of, identity_of}
use Rattle.ocr_machine_parts.specs.Kinds.{on_core, progress_in, core_progress, next_in, IsBlock, is_acquiring, is_acquiring_edt, is_block}
use Rattle.ocr_machine_parts.specs.Progress.{with_phase, made_ready, next_on}
use Rattle.ocr_machine_parts.specs.LegalOn.{IsTaken, IsRefused}
use Rattle.ocr_machine_parts.specs.Legal.{IsRun}
use Rattle.ocr_machine_laws.specs.Waits.{standing, is_gone_on, queue_on, held_on, rest_in, rest_on, awaits_in, awaits, IsHolding, IsOrdered, AreStanding, AreBlocks}
use Rattle.ocr_machine_laws.specs.Marks.{mark_in, mark, IsMarkOf}
use Rattle.ocr_machine_laws.specs.Marks.{mark_in, mark, IsMarkOf}
use Rattle.ocr_machine_laws.specs.Quiet.{IsWakingOf, IsQueued, CanWake, WakeLaw, QuietLaw, NobodyLaw}
use Rattle.ocr_machine_parts.specs.Runs.{IsWaking, IsQuiet}
use Rattle.ocr_machine_parts.proofs.After.{readied_parts, core_next}
use Rattle.ocr_machine_parts.proofs.Allowed.{free_law}
use Rattle.ocr_machine_parts.proofs.Awaited.{awaited_law}
use Rattle.ocr_machine_parts.proofs.Lent.{ready_core}
use Rattle.ocr_machine_laws.proofs.Edts.{edts_law}
use Rattle.ocr_machine_parts.specs.declared.loans.Kept.{Kept}
use Rattle.ocr_machine_parts.specs.Runs.{IsWaking, IsQuiet}
use Rattle.ocr_machine_laws.proofs.States.{in_front, once_back}
use Rattle.ocr_machine_laws.proofs.Waiters.{ready_standing}
use Rattle.ocr_machine_laws.proofs.Stages.{once, standing_law, told_law, ready_told}
use Rattle.ocr_machine_laws.proofs.Given.{wanted_law, ready_there}
use Rattle.ocr_machine_laws.proofs.Quietness.{bounded}
use Rattle.ocr_slots.specs.Slots as slot
use Rattle.ocr_datablock.specs.Block as block
use Rattle.ocr_datablock.specs.Steps as block_steps
use Rattle.ocr_edt.specs.declared.Edt.TheVariants as phase
use Rattle.ocr_edt.specs.Edt as edt
use Rattle.ocr_machine_parts.specs.declared.part.Part.TheVariants as part
use Rattle.ocr_finish.specs.Scope.{ScopeCall}
use Rattle.ocr_edt.specs.declared.Identity.{Identity}
use Rattle.ocr_datablock.proofs.Lines.{mode_skips}
use Rattle.std.proofs.lemmas.Grind.{common_steps}

-- AN EDT THAT WAS MADE READY, and has not started, acquires or waits
pub record IsComing (y : Part) : Type 0 where
  pub progress : Progress
  pub is : core_progress y ≡ Some progress
  pub rest : rest_on y ≡ progress.rest
  pub waits : ((is_acquiring y ≡ true) × (awaits y ≡ None)) ⊎ ((awaits y ≡ next_of progress) × ((mark y).1 ≡ not (is_some (next_of progress))))

coming_edt : (members : List (ℕ × Mode)) (c : Part) (e : Edt) → nat_lt 1 (mark_in (made_ready members e)).0 ≡ false
    → (p : Progress) × (progress_in (made_ready members e) ≡ Some p) × (rest_in (made_ready members e) ≡ p.rest)
    × (((is_acquiring_edt (made_ready members e) ≡ true) × (awaits_in (made_ready members e) ≡ None)) ⊎ ((awaits_in (made_ready members e) ≡ next_of p) × ((mark_in (made_ready members e)).1 ≡ not (is_some (next_of p)))))
coming_edt members c (phase.Filling i) below = (_, refl, refl, inl (refl, refl))
coming_edt members c (phase.Acquiring p) below = (p, refl, refl, inl (refl, refl))
coming_edt members c (phase.Waiting p) below = (p, refl, refl, inr (refl, refl))
coming_edt members c other below = cc below

pub coming : (m : Option Made) (i : Identity) (calls : List edt.EdtCall) (loans : List (ℕ × Kept)) (members : List (ℕ × Mode)) → is_edt_made m ≡ true
    → nat_lt 1 (mark (on_core (core m i calls loans) (with_phase (made_ready members)))).0 ≡ false → IsComing (on_core (core m i calls loans) (with_phase (made_ready members)))
coming (Some (MadeEdt f ps n)) i calls loans members is below =
    let found = coming_edt members part.Vacant (edt.edt_of _ calls) below in
    record { progress = found.0; is = found.1; rest = found.2; waits = found.3 }
coming other i calls loans members is below = cc is

pub record IsFirst (f : ℕ → Part) (held : List (ℕ × Mode)) (d : ℕ) (m : Mode) : Type 0 where
  pub there : is_block (f d) ≡ true
  pub used : is_null m ≡ false
  pub above : (b : ℕ) → is_some (mode_in b held) ≡ true → b < d

pub first_facts : (f : ℕ → Part) (held rest : List (ℕ × Mode)) (d : ℕ) (m : Mode) → first_of rest ≡ Some (d, m) → IsOrdered held rest → AreBlocks f rest → IsFirst f held d m
first_facts f held [] d m is ordered are = cc is
first_facts f held (one ∷ more) d m is ordered are =
    let e : one ≡ (d, m) = cc in
    subst (λ (x : ℕ × Mode). IsFirst f held x.0 x.1) e (record { there = are.0; used = ordered.used 0 one (omega arith); above = λ b some. (ordered.above b some).0 })

first_above : (held rest : List (ℕ × Mode)) (d : ℕ) (m : Mode) → first_of rest ≡ Some (d, m) → IsOrdered held rest → (b : ℕ) → is_some (mode_in b held) ≡ true → b < d
first_above held [] d m is ordered b some = cc is
first_above held (one ∷ more) d m is ordered b some =
    let e : one ≡ (d, m) = cc in
    subst (λ (x : ℕ × Mode). b < x.0) e (ordered.above b some).0

-- A BLOCK: it can be acquired, or the EDT can go to its queue, or it stands there
abbrev Fate : Part → ℕ → Mode → Type 0
Fate x t m = IsBlock x (IsTaken t m) ⊎ (IsBlock x (IsRefused t m) ⊎ ((mode_in t (queue_on x) ≡ Some m) ⊎ IsBlock x (λ st. block.is_gone st ≡ true)))

fate : (md : Option Made) (links : List slot.SlotCall) (blocks : List block.BlockCall) (events : List EventCall) (scopes : List ScopeCall) (t : ℕ) (m : Mode) → is_block (face md links blocks events scopes) ≡ true → is_null m ≡ false
    → ((k : Mode) → block.can_grant (block.is_destroyed blocks) (block.line_of (creator_in md) blocks) k ≡ true → block.borrower_of blocks ≡ None)
    → (is_some (mode_in t (block.holders_of (creator_in md) blocks)) ≡ true → block.borrower_of blocks ≡ None)
    → ((k : Mode) → mode_in t (standing (face md links blocks events scopes)) ≡ Some k → k ≡ m) → Fate (face md links blocks events scopes) t m
fate (Some (MadeBlock n c)) links blocks events scopes t m is used free awaited own =
    let holders = block.holders_of c blocks in
    let queue = block.queue_of c blocks in
    elim (mode_in t holders) as (λ o. mode_in t holders ≡ o → Fate (part.Block (block.state_of n c blocks)) t m) [
      | Some k ↦ λ held.
          let same : k ≡ m = own k (in_front t holders queue k held) in
          inl (record { fit = inl (held ∙ ap (λ (j : Mode). Some j) same); not_lent = awaited (ap (λ (o : Option Mode). is_some o) held) })
      | None ↦ λ unheld. elim (mode_in t queue) as (λ o. mode_in t queue ≡ o → Fate (part.Block (block.state_of n c blocks)) t m) [
        | Some k ↦ λ stands.
            let same : k ≡ m = own k (mode_skips t holders queue unheld ∙ stands) in
            inr (inr (inl (stands ∙ ap (λ (j : Mode). Some j) same)))
        | None ↦ λ unqueued. elim (block.can_grant (block.is_destroyed blocks) (block.line_of c blocks) m) as (λ b. block.can_grant (block.is_destroyed blocks) (block.line_of c blocks) m ≡ b → Fate (part.Block (block.state_of n c blocks)) t m) [
          | true ↦ λ can. inl (record { fit = inr (record { newcomer = record { no_holder = unheld; not_waiting = unqueued; some_mode = used }; grantable = can }); not_lent = free m can })
          | false ↦ λ cannot. elim (block.is_line_gone (block.is_destroyed blocks) (block.line_of c blocks)) as (λ b. block.is_line_gone (block.is_destroyed blocks) (block.line_of c blocks) ≡ b → Fate (part.Block (block.state_of n c blocks)) t m) [
            | true ↦ λ gone. inr (inr (inr gone))
            | false ↦ λ alive. inr (inl (record { newcomer = record { no_holder = unheld; not_waiting = unqueued; some_mode = used }; not_grantable = cannot; not_gone = alive }))
          ] refl
        ] refl
      ] refl
    ] refl
fate other links blocks events scopes t m is used free awaited own = cc is

refused_nowhere : (x : Part) (t : ℕ) (m : Mode) → IsBlock x (IsRefused t m) → (is_gone_on x ≡ false) × (mode_in t (standing x) ≡ None)
refused_nowhere (part.Block st) t m refused = (refused.not_gone, mode_skips t st.holders st.queue refused.newcomer.no_holder ∙ refused.newcomer.not_waiting)
refused_nowhere other t m refused = absurd refused

queue_stands : (x : Part) (t : ℕ) (m : Mode) → ((k : Mode) → mode_in t (standing x) ≡ Some k → k ≡ m) → block_steps.StandOnce (standing x) → mode_in t (queue_on x) ≡ Some m → mode_in t (standing x) ≡ Some m
queue_stands (part.Block st) t m own once is = elim (mode_in t st.holders) as (λ o. mode_in t st.holders ≡ o → mode_in t (st.holders ++ st.queue) ≡ Some m) [
  | Some k ↦ λ held. absurd (let none : mode_in t st.queue ≡ None = once_back t st.holders st.queue once (ap (λ (o : Option Mode). is_some o) held) in cc (none, is))
  | None ↦ λ unheld. mode_skips t st.holders st.queue unheld ∙ is
] refl
queue_stands other t m own once is = cc is

ready_awaits_edt : (members : List (ℕ × Mode)) (e : Edt) → awaits_in (made_ready members e) ≡ awaits_in e
ready_awaits_edt members (phase.Filling i) = refl
ready_awaits_edt members other = refl

ready_awaits : (members : List (ℕ × Mode)) (x : Part) → awaits (on_core x (with_phase (made_ready members))) ≡ awaits x
ready_awaits members (part.Core c) = ready_awaits_edt members c.edt
ready_awaits members other = refl

-- THE WAKING
abbrev GoesOn : Setting → History → ℕ → Type 0
GoesOn s past t = CanWake s past t ⊎ ((d : ℕ) × (m : Mode) × IsQueued s past t d m)

pub record IsSet (s : Setting) (past : History) (t : ℕ) : Type 0 where
  pub run : IsRun s past
  pub going : is_stopped past ≡ false
  pub set : open_slots s past t ≡ []

pub holding_next : (y : Part) (p : Progress) (d : ℕ) (m k : Mode) → ((b : ℕ) → is_some (mode_in b (held_on y)) ≡ true → b < d) → next_of p ≡ Some (d, m)
    → ((is_acquiring y ≡ true) × (awaits y ≡ None)) ⊎ ((awaits y ≡ next_of p) × ((mark y).1 ≡ not (is_some (next_of p)))) → IsHolding y d k → (awaits y ≡ Some (d, k)) × (k ≡ m)
holding_next y p d m k above next waits (inl held) = absurd (let below : d < d = above d (ap (λ (o : Option Mode). is_some o) held) in omega (arith, below))
holding_next y p d m k above next (inl idle) (inr is) = cc (idle.1, is)
holding_next y p d m k above next (inr waits) (inr is) =
    let both : Some (d, k) ≡ Some (d, m) = sym is ∙ waits.0 ∙ next in
    let one : (d, k) ≡ (d, m) = cc in
    (is, ap (λ (x : ℕ × Mode). x.1) one)

next_wakes : (s : Setting) (past : History) (t d : ℕ) (m : Mode) (p : Progress) → IsSet s past t → core_progress ((readied_parts s past t).core t) ≡ Some p → rest_on ((readied_parts s past t).core t) ≡ p.rest
    → ((is_acquiring ((readied_parts s past t).core t) ≡ true) × (awaits ((readied_parts s past t).core t) ≡ None)) ⊎ ((awaits ((readied_parts s past t).core t) ≡ next_of p) × ((mark ((readied_parts s past t).core t)).1 ≡ not (is_some (next_of p))))
    → next_of p ≡ Some (d, m) → GoesOn s past t
next_wakes s past t d m p ready is rest waits first =
    let f : Parts = readied_parts s past t in
    let y : Part = f.core t in
    let all : AreStanding f = ready_standing (parts_of s past) t (plan_of s past t) (standing_law s past ready.run) (given_law (asks_in (slots_now s past t))) in
    let there : AreBlocks f.face (rest_on y) = ready_there s past ready.run t (wanted_law s past ready.run) t in
    let facts : IsFirst f.face (held_on y) d m = first_facts f.face (held_on y) (rest_on y) d m (ap first_of rest ∙ first) (all.ordered t) there in
    let next : next_on f t ≡ Some (d, m) = ap next_in is ∙ first in
    let mode : m ≡ mode_next (next_on f t) = ap mode_next (sym next) in
    let member : next_member s past t ≡ Some (d, m) = core_next (made s past t) (identity_of past t) (plan_of s past t) (edt_calls s past t) (loans_of s past t) (d, m) (ap (λ (x : Part). next_in (core_progress x)) (sym (ready_core s past t)) ∙ next) in
    let own : (k : Mode) → mode_in t (standing (f.face d)) ≡ Some k → k ≡ m = λ k stands. (holding_next y p d m k facts.above first waits (all.holds t d k stands)).1 in
    let its : Fate (f.face d) t m =
    fate (made s past d) (link_calls past d) (block_calls s past d) (event_calls s past d) (scope_calls past d) t m facts.there facts.used (free_law s past ready.run d).grantable (awaited_law s past ready.run t d m member) own in
    elim its [
      | inl taken ↦ inl (
        Acquire t d,
        refl,
        record {
          open_run = ready.going;
          on_parts = record { next = next ∙ ap (λ (k : Mode). Some (d, k)) mode; taken = subst (λ (k : Mode). IsBlock (f.face d) (IsTaken t k)) mode taken };
          on_facts = ready.set;
          said = tt;
          stopping = tt;
        },
      )
      | inr (inl refused) ↦ elim waits [
        | inl idle ↦ inl (
          Wait t d,
          refl,
          record {
            open_run = ready.going;
            on_parts = record { next = next ∙ ap (λ (k : Mode). Some (d, k)) mode; acquiring = idle.0; refused = subst (λ (k : Mode). IsBlock (f.face d) (IsRefused t k)) mode refused };
            on_facts = ready.set;
            said = tt;
            stopping = tt;
          },
        )
        | inr waiting ↦ absurd (let nowhere = refused_nowhere (f.face d) t m refused in
            let stands : mode_in t (standing (f.face d)) ≡ Some m = all.waits t d m (waiting.0 ∙ first) nowhere.0 in
            cc (sym stands ∙ nowhere.1))
      ]
      | inr (inr (inr gone)) ↦ inl (
        StaleAcquire t d,
        refl,
        record {
          open_run = ready.going;
          on_parts = record { next = next ∙ ap (λ (k : Mode). Some (d, k)) mode; gone = gone };
          on_facts = ready.set;
          said = tt;
          stopping = tt;
        },
      )
      | inr (inr (inl queued)) ↦
          let stands : mode_in t (standing (f.face d)) ≡ Some m = queue_stands (f.face d) t m own (once s past ready.run d) queued in
          let waiting : awaits y ≡ Some (d, m) = (holding_next y p d m m facts.above first waits (all.holds t d m stands)).0 in
          inr (d, m, record { waits = sym (ready_awaits (plan_of s past t) ((parts_of s past).core t)) ∙ ap awaits (sym (ready_core s past t)) ∙ waiting; queued = queued })
    ]

none_wakes : (s : Setting) (past : History) (t : ℕ) (p : Progress) → IsSet s past t → core_progress ((readied_parts s past t).core t) ≡ Some p → (mark ((readied_parts s past t).core t)).1 ≡ false
    → ((is_acquiring ((readied_parts s past t).core t) ≡ true) × (awaits ((readied_parts s past t).core t) ≡ None)) ⊎ ((awaits ((readied_parts s past t).core t) ≡ next_of p) × ((mark ((readied_parts s past t).core t)).1 ≡ not (is_some (next_of p))))
    → next_of p ≡ None → GoesOn s past t
none_wakes s past t p ready is found (inl idle) none = inl (Start t, refl, record { open_run = ready.going; on_parts = record { acquiring = idle.0; through = ap next_in is ∙ none }; on_facts = ready.set; said = tt; stopping = tt })
none_wakes s past t p ready is found (inr waits) none = absurd (let lost : false ≡ true = sym found ∙ waits.1 ∙ ap (λ (o : Option (ℕ × Mode)). not (is_some o)) none in cc lost)

pub wake_law : WakeLaw
wake_law s past t run going is_one off set =
    let is_made : is_edt_made (made s past t) ≡ true = edts_law s past run t ∙ is_one in
    let ready : IsSet s past t = record { run = run; going = going; set = set } in
    let y : Part = (readied_parts s past t).core t in
    let told : IsMarkOf s past t (mark y) = ready_told s past t t (plan_of s past t) set (told_law s past run t) in
    let below : nat_lt 1 (mark y).0 ≡ false = sym told.has_started ∙ off in
    let core_is : y ≡ on_core ((parts_of s past).core t) (with_phase (made_ready (plan_of s past t))) = ready_core s past t in
    let comes : IsComing y = subst IsComing (sym core_is) (coming (made s past t) (identity_of past t) (edt_calls s past t) (loans_of s past t) (plan_of s past t) is_made (ap (λ (x : Part). nat_lt 1 (mark x).0) (sym core_is) ∙ below)) in
    elim (next_of comes.progress) as (λ o. next_of comes.progress ≡ o → GoesOn s past t) [
      | None ↦ λ none. none_wakes s past t comes.progress ready comes.is told.wants comes.waits none
      | Some x ↦ λ first. next_wakes s past t x.0 x.1 comes.progress ready comes.is comes.rest comes.waits first
    ] refl

-- A QUIET RUN
waking : (t : ℕ) (e : Entry) → IsWakingOf t e → IsWaking e
waking t (Acquire u d) is = tt
waking t (Wait u d) is = tt
waking t (StaleAcquire u d) is = tt
waking t (Start u) is = tt
waking t (Call by home c a w) is = absurd is
waking t (Deliver m c) is = absurd is
waking t (Free u d w) is = absurd is
waking t (End u g) is = absurd is
waking t (Stop why) is = absurd is

holding_stage_edt : (e : Edt) (d : ℕ) (m : Mode) → (mode_in d (held_on (part.Core (record { function = 0; params = []; edt = e; loans = [] }))) ≡ Some m) ⊎ (awaits_in e ≡ Some (d, m)) → (nat_lt 0 (mark_in e).0 ≡ true) × (nat_lt 2 (mark_in e).0 ≡ false)
holding_stage_edt (phase.Filling i) d m has = elim has [ inl is ↦ cc is | inr is ↦ cc is ]
holding_stage_edt (phase.Ended i) d m has = elim has [ inl is ↦ cc is | inr is ↦ cc is ]
holding_stage_edt other d m has = (refl, refl)

holding_stage : (md : Option Made) (i : Identity) (calls : List edt.EdtCall) (loans : List (ℕ × Kept)) (d : ℕ) (m : Mode) → IsHolding (core md i calls loans) d m
    → (nat_lt 0 (mark (core md i calls loans)).0 ≡ true) × (nat_lt 2 (mark (core md i calls loans)).0 ≡ false) × (is_edt_made md ≡ true)
holding_stage (Some (MadeEdt f ps n)) i calls loans d m has = let stage = holding_stage_edt (edt.edt_of _ calls) d m has in (stage.0, stage.1, refl)
holding_stage other i calls loans d m has = elim has [ inl is ↦ cc is | inr is ↦ cc is ]

-- who holds a block or waits for it stands in the queue of the block that it acquires next
stuck : (s : Setting) (past : History) → IsRun s past → IsQuiet s past → (t d : ℕ) (m : Mode) → IsHolding ((parts_of s past).core t) d m → (e : ℕ) × (k : Mode) × IsQueued s past t e k
stuck s past run quiet t d m has =
    let told = told_law s past run t in
    let stage = holding_stage (made s past t) (identity_of past t) (edt_calls s past t) (loans_of s past t) d m has in
    let going : is_ended past t ≡ false = told.has_ended ∙ stage.1 in
    let off : is_started past t ≡ false = false_from_ne_true (is_started past t) (λ on. let ended : is_ended past t ≡ true = quiet.ended t on in cc (ended, going)) in
    elim (wake_law s past t run quiet.open_run (sym (edts_law s past run t) ∙ stage.2) off (told.all_set stage.0)) [
      | inl wakes ↦ absurd (quiet.asleep wakes.0 (waking t wakes.0 wakes.1) wakes.2)
      | inr queued ↦ queued
    ]

awaits_first_edt : (e : Edt) (x : ℕ × Mode) → awaits_in e ≡ Some x → first_of (rest_in e) ≡ Some x
awaits_first_edt (phase.Waiting p) x is = is
awaits_first_edt other x is = cc is

awaits_first : (y : Part) (x : ℕ × Mode) → awaits y ≡ Some x → first_of (rest_on y) ≡ Some x
awaits_first (part.Core c) x is = awaits_first_edt c.edt x is
awaits_first other x is = cc is

no_queue : (x : Part) → is_block x ≡ false → queue_on x ≡ []
no_queue (part.Block st) is = cc is
no_queue other is = refl

-- where somebody waits there is a holder
record HasHolder (x : Part) : Type 0 where
  who : ℕ
  mode : Mode
  stands : mode_in who (standing x) ≡ Some mode
  not_queued : mode_in who (queue_on x) ≡ None

first_holder : (holders queue : List (ℕ × Mode)) → block.is_empty holders ≡ false → (u : ℕ) × (m : Mode) × (mode_in u holders ≡ Some m)
first_holder [] queue is = cc is
first_holder (one ∷ rest) queue is = let same : (one.0 == one.0) ≡ true = eq-eqb one.0 one.0 refl in (one.0, one.1, rw same refl)

holder_of : (md : Option Made) (links : List slot.SlotCall) (blocks : List block.BlockCall) (events : List EventCall) (scopes : List ScopeCall) (one : ℕ × Mode) (rest : List (ℕ × Mode)) → block_steps.StandOnce (standing (face md links blocks events scopes)) → queue_on (face md links blocks events scopes) ≡ one ∷ rest → HasHolder (face md links blocks events scopes)
holder_of (Some (MadeBlock n c)) links blocks events scopes one rest once is =
    let found = first_holder (block.holders_of c blocks) (block.queue_of c blocks) (waiting_law c blocks one rest is).0 in
    record {
      who = found.0;
      mode = found.1;
      stands = in_front found.0 (block.holders_of c blocks) (block.queue_of c blocks) found.1 found.2;
      not_queued = once_back found.0 (block.holders_of c blocks) (block.queue_of c blocks) once (ap (λ (o : Option Mode). is_some o) found.2);
    }
holder_of other links blocks events scopes one rest once is = cc is

-- from the greatest block down
nobody_from : (s : Setting) (past : History) → IsRun s past → IsQuiet s past → (k d : ℕ) → s.limit + 3 ≤ d + k → queue_on ((parts_of s past).face d) ≡ []
nobody_from s past run quiet zero d above = no_queue ((parts_of s past).face d) (bounded s past run d (omega (arith, above)))
nobody_from s past run quiet (suc k) d above =
    let f : Parts = parts_of s past in
    elim (queue_on (f.face d)) as (λ q. queue_on (f.face d) ≡ q → q ≡ []) [
      | [] ↦ λ _. refl
      | one ∷ rest ↦ λ is. absurd (
          let holder = holder_of (made s past d) (link_calls past d) (block_calls s past d) (event_calls s past d) (scope_calls past d) one rest (once s past run d) is in
          let u : ℕ = holder.who in
          let all = standing_law s past run in
          let has : IsHolding (f.core u) d holder.mode = all.holds u d holder.mode holder.stands in
          let next = stuck s past run quiet u d holder.mode has in
          let first : first_of (rest_on (f.core u)) ≡ Some (next.0, next.1) = awaits_first (f.core u) (next.0, next.1) next.2.waits in
          elim has [
            | inl held ↦
                let later : d < next.0 = first_above (held_on (f.core u)) (rest_on (f.core u)) next.0 next.1 first (all.ordered u) d (ap (λ (o : Option Mode). is_some o) held) in
                let none : queue_on (f.face next.0) ≡ [] = nobody_from s past run quiet k next.0 (omega (arith, later, above)) in
                let nobody : mode_in u (queue_on (f.face next.0)) ≡ None = ap (mode_in u) none in
                cc (sym nobody ∙ next.2.queued)
            | inr awaited ↦
                let both : Some (next.0, next.1) ≡ Some (d, holder.mode) = sym next.2.waits ∙ awaited in
                let one : (next.0, next.1) ≡ (d, holder.mode) = cc in
                let same : next.0 ≡ d = ap (λ (x : ℕ × Mode). x.0) one in
                let queued : mode_in u (queue_on (f.face d)) ≡ Some next.1 = subst (λ (n : ℕ). mode_in u (queue_on (f.face n)) ≡ Some next.1) same next.2.queued in
                cc (sym holder.not_queued ∙ queued)
          ])
    ] refl

pub nobody_queues : (s : Setting) (past : History) → IsRun s past → IsQuiet s past → (d : ℕ) → queue_on ((parts_of s past).face d) ≡ []
nobody_queues s past run quiet d = nobody_from s past run quiet (s.limit + 3) d (omega arith)

pub ready_set : (n : ℕ) → nat_lt 1 n ≡ true → nat_lt 0 n ≡ true
ready_set n is = grind (arith, common_steps)

not_queued : (s : Setting) (past : History) → IsRun s past → IsQuiet s past → (t d : ℕ) (m : Mode) → IsQueued s past t d m → ⊥
not_queued s past run quiet t d m queued =
    let nobody : mode_in t (queue_on ((parts_of s past).face d)) ≡ None = ap (mode_in t) (nobody_queues s past run quiet d) in
    cc (sym nobody ∙ queued.queued)

pub nobody_law : NobodyLaw
nobody_law s past quiet run = record {
  queues = nobody_queues s past run quiet;
  cores = λ t. elim (awaits ((parts_of s past).core t)) as (λ o. awaits ((parts_of s past).core t) ≡ o → o ≡ None) [
    | None ↦ λ _. refl
    | Some x ↦ λ is. absurd (let next = stuck s past run quiet t x.0 x.1 (inr is) in not_queued s past run quiet t next.0 next.1 next.2)
  ] refl;
}

pub quiet_law : QuietLaw
quiet_law s past quiet run = λ t is_one. (
  (λ off set. elim (wake_law s past t run quiet.open_run is_one off set) [
    | inl wakes ↦ quiet.asleep wakes.0 (waking t wakes.0 wakes.1) wakes.2
    | inr queued ↦ not_queued s past run quiet t queued.0 queued.1 queued.2
  ]),
  (λ some. false_from_ne_true (is_started past t) (λ on.
      let told = told_law s past run t in
      let high : nat_lt 1 (mark ((parts_of s past).core t)).0 ≡ true = sym told.has_started ∙ on in
      some (told.all_set (ready_set (mark ((parts_of s past).core t)).0 high)))),
)
