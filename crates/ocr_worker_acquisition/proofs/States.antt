-- What an EDT that may go on finds at the block that it acquires next.
use Rattle.std.proofs.Common.{◌≡◌, inl, inr, ℕ, ◌+◌, Bool, true, false, List, [], ◌∷◌, reverse, Option, Some, None, is_some, refl, ap, sym, ◌∙◌, subst}
use mathlib.Core.Option.{some}
use lib.ListN.{get_elem?}
use Rattle.ocr_acquire.specs.declared.Mode.{Mode}
use Rattle.ocr_datablock.specs.Block as block
use Rattle.ocr_slots.specs.declared.Slot.{Slot}
use Rattle.ocr_slots.specs.Slots as slot
use Rattle.ocr_guid.specs.Target.{EventCall}
use Rattle.ocr_machine_history.specs.declared.entry.Entry.{Entry}
use Rattle.ocr_machine_history.specs.declared.entry.Entry.TheVariants.{Acquire, Wait, StaleAcquire, Start, Stop}
use Rattle.ocr_machine_history.specs.Edts.{is_started}
use Rattle.ocr_machine_history.specs.History.{History, Setting, is_stopped}
use Rattle.ocr_machine_history.specs.Made.{Made, MadeEdt, is_edt, is_edt_made, made}
use Rattle.ocr_machine_parts.specs.declared.part.Core.{Core}
use Rattle.ocr_machine_parts.specs.declared.part.Part.{Part}
use Rattle.ocr_machine_parts.specs.declared.part.Part.TheVariants as part
use Rattle.ocr_machine_parts.specs.Calls.{block_calls, event_calls, link_calls, open_slots, plan_of, scope_calls}
use Rattle.ocr_machine_parts.specs.Effects.{settled_core}
use Rattle.ocr_machine_parts.specs.Progress.{made_ready, next_mode_on, next_on, ready_at, with_phase}
use Rattle.ocr_machine_parts.specs.Kinds.{IsBlock, core_progress, is_acquiring, next_in, on_core}
use Rattle.ocr_machine_parts.specs.LegalOn.{IsAcquireOn, IsRefused, IsStaleOn, IsTaken, IsWaitOn}
use Rattle.ocr_machine_parts.specs.Legal.{IsLegal, IsRun}
use Rattle.ocr_machine_parts.specs.Parts.{Parts, face, parts_of}
use Rattle.ocr_machine_parts.specs.Taken.{as_face, is_within}
use Rattle.ocr_machine_parts.proofs.After.{after_law}
use Rattle.ocr_machine_parts.proofs.Lent.{ready_core}
use Rattle.ocr_machine_laws.specs.Quiet.{IsWakingOf}
use Rattle.ocr_machine_laws.proofs.Edts.{edts_law}
use Rattle.ocr_machine_laws.proofs.Sleepers.{wake_law}
use Rattle.ocr_machine_laws.specs.Kept.{IsFilled}
use Rattle.ocr_machine_parts.specs.Readiness.{plan_from, ready_with}
use Rattle.ocr_turns_rule.specs.Counts.{IsSet, awaited}
use Rattle.ocr_turns_rule.specs.Counts as counting
use Rattle.ocr_turns_rule.specs.Rule.{Fits}
use Rattle.ocr_turns_rule.specs.Words.{SeesReady}
use Rattle.ocr_worker_machine.specs.Clerks.{OcrTerms, OcrView, of_terms}
use Rattle.ocr_worker_machine.specs.Ocr.{meaning}
use Rattle.ocr_worker_machine.proofs.Awaits.{IsQueued}
use Rattle.ocr_worker_machine.proofs.Runs.{run_is}
use Rattle.ocr_worker_machine.proofs.Slots.{slots_are, slots_in, started_is}
use Rattle.ocr_worker_machine.proofs.Waits.{waits_is}
use Rattle.ocr_worker_clerk.specs.Entry.{OcrKnown}
use Rattle.ocr_worker_clerk.proofs.Seen.{core_is, face_is}
use Rattle.ocr_worker_acquisition.specs.Block.{KnowsThree, LetsSome, StandsAtNext, pair_of}
use Rattle.ocr_worker_acquisition.specs.Acquisition.{IsAble, IsLet}
use Rattle.ocr_worker_acquisition.specs.declared.act.Act.{Act}
use Rattle.ocr_worker_acquisition.specs.declared.act.Act.TheVariants as act
use Rattle.ocr_worker_acquisition.proofs.Acts.{filled_known}
use Rattle.ocr_finish.specs.Scope.{ScopeCall}
use Rattle.ocr_machine_parts.proofs.Local.{block_weaker}

-- WHAT IT FINDS. The block lets the EDT with this core do something
abbrev pub AbleOn : Act → Part → Type 0
AbleOn act.Wait x = is_acquiring x ≡ true
AbleOn other x = Unit {0}

abbrev pub Lets : ℕ → Mode → Part → block.State → Type 0
Lets t m core st = (a : Act) × IsLet a t m st × AbleOn a core

-- the EDT made ready with this plan: the block that it acquires next lets it do something
abbrev pub FindsOn : Parts → List (ℕ × Mode) → ℕ → Type 0
FindsOn f members t = (d : ℕ) (m : Mode) → next_on (ready_at t members f) t ≡ Some (d, m) → IsBlock (f.face d) (Lets t m ((ready_at t members f).core t))

abbrev pub Finds : Setting → History → ℕ → Type 0
Finds s past t = FindsOn (parts_of s past) (plan_of s past t) t

pub record MayGo (s : Setting) (past : History) (t : ℕ) : Type 0 where
  pub made : is_edt past t ≡ true
  pub unstarted : is_started past t ≡ false
  pub all_set : open_slots s past t ≡ []
  pub never : (d : ℕ) → IsQueued (parts_of s past) t d → ⊥

member_same : (x y : ℕ × Mode) → Some x ≡ Some y → x ≡ y
member_same x y is = cc is

acquire_finds : (f : Parts) (members : List (ℕ × Mode)) (t b : ℕ) → IsAcquireOn (ready_at t members f) t b → FindsOn f members t
acquire_finds f members t b on d m next =
    let r = ready_at t members f in
    let same = member_same (b, next_mode_on r t) (d, m) (sym on.next ∙ next) in
    block_weaker (f.face d) (IsTaken t m) (Lets t m (r.core t)) (λ st is. (act.Acquire, is, tt)) (subst (λ (x : ℕ × Mode). IsBlock (f.face x.0) (IsTaken t x.1)) same on.taken)

wait_finds : (f : Parts) (members : List (ℕ × Mode)) (t b : ℕ) → IsWaitOn (ready_at t members f) t b → FindsOn f members t
wait_finds f members t b on d m next =
    let r = ready_at t members f in
    let same = member_same (b, next_mode_on r t) (d, m) (sym on.next ∙ next) in
    block_weaker (f.face d) (IsRefused t m) (Lets t m (r.core t)) (λ st is. (act.Wait, is, on.acquiring)) (subst (λ (x : ℕ × Mode). IsBlock (f.face x.0) (IsRefused t x.1)) same on.refused)

pass_finds : (f : Parts) (members : List (ℕ × Mode)) (t b : ℕ) → IsStaleOn (ready_at t members f) t b → FindsOn f members t
pass_finds f members t b on d m next =
    let r = ready_at t members f in
    let same = member_same (b, next_mode_on r t) (d, m) (sym on.next ∙ next) in
    block_weaker (f.face d) (λ st. block.is_gone st ≡ true) (Lets t m (r.core t)) (λ st is. (act.Pass, is, tt)) (subst (λ (x : ℕ × Mode). IsBlock (f.face x.0) (λ st. block.is_gone st ≡ true)) same on.gone)

by_entry : (s : Setting) (past : History) (t : ℕ) (e : Entry) → IsWakingOf t e → IsLegal s past e → Finds s past t
by_entry s past t (Acquire u b) is legal = acquire_finds (parts_of s past) (plan_of s past t) t b (subst (λ (n : ℕ). IsLegal s past (Acquire n b)) is legal).on_parts
by_entry s past t (Wait u b) is legal = wait_finds (parts_of s past) (plan_of s past t) t b (subst (λ (n : ℕ). IsLegal s past (Wait n b)) is legal).on_parts
by_entry s past t (StaleAcquire u b) is legal = pass_finds (parts_of s past) (plan_of s past t) t b (subst (λ (n : ℕ). IsLegal s past (StaleAcquire n b)) is legal).on_parts
by_entry s past t (Start u) is legal =
    let through : next_on (ready_at t (plan_of s past t) (parts_of s past)) t ≡ None = (subst (λ (n : ℕ). IsLegal s past (Start n)) is legal).on_parts.through in
    λ d m next. cc (through, next)
by_entry s past t other is legal = absurd is

-- AFTER EACH RUN, also one that was stopped
open_finds : (s : Setting) (past : History) (t : ℕ) → IsRun s past → is_stopped past ≡ false → MayGo s past t → Finds s past t
open_finds s past t run going may = elim (wake_law s past t run going may.made may.unstarted may.all_set) [
  | inl wakes ↦ by_entry s past t wakes.0 wakes.1 wakes.2
  | inr queued ↦ absurd (may.never queued.0 (ap (λ (o : Option Mode). is_some o) queued.2.queued))
]

pub finds : (s : Setting) (past : History) (t : ℕ) → IsRun s past → MayGo s past t → Finds s past t
finds s [] t run may = open_finds s [] t run refl may
finds s (Stop why ∷ past) t run may =
    let same : parts_of s (Stop why ∷ past) ≡ parts_of s past = after_law s past (Stop why) run.0 run.1 in
    subst (λ (f : Parts). FindsOn f (plan_of s past t) t) (sym same) (open_finds s past t run.0 run.1.open_run (record {
      made = may.made;
      unstarted = may.unstarted;
      all_set = may.all_set;
      never = λ d queued. may.never d (subst (λ (f : Parts). IsQueued f t d) (sym same) queued);
    }))
finds s (e ∷ past) t run may = open_finds s (e ∷ past) t run run.1.open_run may

-- WHO IS AN EDT has slots in its face
some_slots : (m : Option Made) (n : ℕ) → slots_in m ≡ Some n → is_edt_made m ≡ true
some_slots (Some (MadeEdt f ps n)) k is = refl
some_slots other n is = cc is

edt_face : (m : Option Made) (links : List slot.SlotCall) (blocks : List block.BlockCall) (events : List EventCall) (scopes : List ScopeCall) (n : ℕ) → slots_in m ≡ Some n → (slots : List Slot) × (face m links blocks events scopes ≡ part.Edt slots)
edt_face (Some (MadeEdt f ps n)) links blocks events scopes k is = (slot.state_of n links, refl)
edt_face other links blocks events scopes n is = cc is

pub face_back : (x : Part) (slots : List Slot) → as_face x ≡ part.Edt slots → x ≡ part.Edt slots
face_back (part.Core c) slots is = cc is
face_back other slots is = is

pub kept_slots : (t : OcrTerms) (J : List Entry) (v : OcrView) (k edt : ℕ) (x : Part) → Fits meaning t J v → is_within t.limit edt ≡ true → get_elem? v.parts k ≡ some (edt, x) → IsSet meaning t (reverse J) edt → (slots : List Slot) × (x ≡ part.Edt slots)
kept_slots t J v k edt x fits within at set =
    let s = of_terms t in let past = reverse J in
    let run = run_is t.setting.value t.limit J fits.run in
    let there = edt_face (made s past edt) (link_calls past edt) (block_calls s past edt) (event_calls s past edt) (scope_calls past edt) set.slots (sym (slots_are t past edt run) ∙ set.made) in
    (there.0, face_back x there.0 (sym (face_is t J v k edt x fits within at) ∙ there.1))

-- BY WHAT IS KEPT
kept_block : (x : Part) (P Q : block.State → Type 0) → ((st : block.State) → P st → Q st) → IsBlock (as_face x) P → IsBlock x Q
kept_block (part.Block st) P Q more is = more st is
kept_block other P Q more is = absurd is

pub record Ready (t : OcrTerms) (J : List Entry) (v : OcrView) (edt : ℕ) : Type 0 where
  pub fits : Fits meaning t J v
  pub set : IsSet meaning t (reverse J) edt
  pub unstarted : counting.is_started meaning t (reverse J) edt ≡ false
  pub awake : awaited meaning t (reverse J) edt ≡ None

pub sees_ready : (t : OcrTerms) (v : OcrView) (edt : ℕ) → v.terms ≡ Some t → v.closed ≡ None → SeesReady meaning v edt → (J : List Entry) × Ready t J v edt
sees_ready t v edt terms going ready =
    let r = ready t terms in
    (r.0, record { fits = r.1.fits going; set = r.2; unstarted = r.3; awake = r.4 })

-- the places of the three parts
pub face_at : (b : Bool) (p t d : ℕ) (x y z : Part) → (k : ℕ) × (get_elem? ((p, x) ∷ pair_of b t d y z) k ≡ some (t, y))
face_at true p t d x y z = (2, refl)
face_at false p t d x y z = (1, refl)

pub other_at : (b : Bool) (p t d : ℕ) (x y z : Part) → (k : ℕ) × (get_elem? ((p, x) ∷ pair_of b t d y z) k ≡ some (d, z))
other_at true p t d x y z = (1, refl)
other_at false p t d x y z = (2, refl)

module _ (t : OcrTerms) (edt d : ℕ) (first : Bool) (payloads : List ℕ) (c : OcrKnown) (k : KnowsThree t edt d first payloads c) (inside : is_within t.limit d ≡ true) (J : List Entry) (ready : Ready t J c.view edt) where
  abbrev s : Setting
  s = of_terms t

  abbrev past : History
  past = reverse J

  abbrev core : Core
  core = k.three.core

  run : IsRun s past
  run = run_is t.setting.value t.limit J ready.fits.run

  its_core : (parts_of s past).core edt ≡ part.Core (settled_core core)
  its_core = core_is t J c.view 0 edt core ready.fits k.three.taken.number (ap (λ (l : List (ℕ × Part)). get_elem? l 0) k.three.kept)

  slots_there : (n : ℕ) × (get_elem? c.view.parts n ≡ some (edt, part.Edt k.slots))
  slots_there =
      let there = face_at first (t.limit + edt) edt d (part.Core core) k.three.face k.three.other in
      (there.0, ap (λ (l : List (ℕ × Part)). get_elem? l there.0) k.three.kept ∙ (there.1 ∙ ap (λ (x : Part). some (edt, x)) k.face_is))

  other_there : (n : ℕ) × (get_elem? c.view.parts n ≡ some (d, k.three.other))
  other_there =
      let there = other_at first (t.limit + edt) edt d (part.Core core) k.three.face k.three.other in
      (there.0, ap (λ (l : List (ℕ × Part)). get_elem? l there.0) k.three.kept ∙ there.1)

  its_other : (parts_of s past).face d ≡ as_face k.three.other
  its_other = face_is t J c.view other_there.0 d k.three.other ready.fits inside other_there.1

  filled : IsFilled s past edt k.slots payloads
  filled = filled_known t c.view edt slots_there.0 k.slots payloads k.three.taken.number slots_there.1 k.count k.facts J ready.fits

  may_go : MayGo s past edt
  may_go = record {
    made = sym (edts_law s past run edt) ∙ some_slots (made s past edt) ready.set.slots (sym (slots_are t past edt run) ∙ ready.set.made);
    unstarted = sym (started_is t past edt) ∙ ready.unstarted;
    all_set = filled.all_set;
    never = λ e queued. let there = (waits_is t past edt ready.fits.limits run).all e queued in let none = ready.awake in cc (none, there);
  }

  abbrev r : Parts
  r = ready_at edt (plan_of s past edt) (parts_of s past)

  ready_now : r.core edt ≡ part.Core (with_phase (made_ready (plan_from k.slots payloads)) (settled_core core))
  ready_now = ready_core s past edt ∙ (λ i. on_core (its_core i) (with_phase (made_ready (filled.planned i))))

  able_now : (a : Act) → AbleOn a (r.core edt) → IsAble a (ready_with k.slots payloads core)
  able_now act.Wait able = sym (ap is_acquiring ready_now) ∙ able
  able_now other able = tt

  pub stands_now : StandsAtNext (part.Core core) k.three.face k.three.other edt d payloads
  stands_now = record {
    item = core;
    slots = k.slots;
    core_is = refl;
    face_is = k.face_is;
    count = k.count;
    lets = λ m next.
        kept_block k.three.other (Lets edt m (r.core edt)) (LetsSome edt m (ready_with k.slots payloads core)) (λ st lets. record { act = lets.0; lets = lets.1; able = able_now lets.0 lets.2 })
        (subst (λ (x : Part). IsBlock x (Lets edt m (r.core edt))) its_other (finds s past edt run may_go d m (ap (λ (x : Part). next_in (core_progress x)) ready_now ∙ next)));
  }
