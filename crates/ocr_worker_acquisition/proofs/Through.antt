-- What a worker keeps once its EDT is past a block, and once the block is given back.
use Rattle.std.proofs.Common.{◌≡◌, ◌≢◌, ℕ, ◌+◌, ◌*◌, ◌≤◌, ◌==◌, Bool, true, false, List, [], ◌∷◌, length, Some, None, refl, ap, sym, ◌∙◌, subst, arith}
use lib.ListN.{get_elem?}
use Rattle.atomic_table.proofs.Lists.{at_longer}
use Rattle.ocr_base.proofs.Booleans.{same as number_same}
use Rattle.ocr_acquire.specs.declared.Mode.{Mode}
use Rattle.ocr_body_code.specs.declared.checked.Checked.{Checked}
use Rattle.ocr_edt.specs.declared.Edt.{Edt}
use Rattle.ocr_edt.specs.declared.Edt.TheVariants as phase
use Rattle.ocr_machine_parts.specs.declared.part.Core.{Core}
use Rattle.ocr_machine_parts.specs.declared.part.Part.{Part}
use Rattle.ocr_machine_parts.specs.declared.part.Part.TheVariants as part
use Rattle.ocr_machine_parts.specs.Effects.{acquired_edt, acquiring_core, awoken, changed, stale_edt}
use Rattle.ocr_machine_parts.specs.Progress.{made_ready, next_mode_on, ready_at, with_phase}
use Rattle.ocr_machine_parts.specs.Kinds.{is_acquiring_edt, next_in, progress_in, size_on, words_on}
use Rattle.ocr_machine_parts.specs.Parts.{Parts}
use Rattle.ocr_machine_parts.specs.Taken.{as_core, as_face, is_within, parts_in}
use Rattle.ocr_machine_parts.specs.Readiness.{plan_from, ready_with}
use Rattle.ocr_machine_laws.specs.Permanence.{is_own}
use Rattle.ocr_machine_laws.specs.Waits.{awaits_in}
use Rattle.ocr_worker_machine.specs.Clerks.{OcrTerms, OcrView}
use Rattle.ocr_worker_machine.specs.Facts.{learns}
use Rattle.ocr_worker_machine.specs.Ocr.{meaning}
use Rattle.ocr_worker_machine.proofs.Places.{within_is}
use Rattle.ocr_turns_rule.specs.Contract.{GiveTells, MayGive}
use Rattle.ocr_turns_rule.specs.Steps.{without_part}
use Rattle.ocr_turns_rule.specs.Sums.{as_some, entries, find, is_among, keys, remove_at}
use Rattle.ocr_worker_clerk.specs.Entry.{PlannedParts, OcrKnown}
use Rattle.ocr_worker_clerk.specs.Push.{ReadiesNone}
use Rattle.ocr_worker_clerk.specs.Work.{AtWork, CanRun, EntersKept, KnowsPayloads, OcrTable, Stays}
use Rattle.ocr_worker_clerk.proofs.Gives.{Hands, face_may, gave, with_parts}
use Rattle.ocr_worker_clerk.proofs.Goes.{Calm, stays_still, work_still}
use Rattle.ocr_worker_clerk.proofs.Hands.{apart_is}
use Rattle.ocr_worker_clerk.proofs.Seen.{core_apart}
use Rattle.ocr_worker_acquisition.specs.Block.{CarriesOut, HasThree, KnowsThree, pair_of}
use Rattle.ocr_worker_acquisition.specs.Rounds.{lets_wait, places_of, two_places}
use Rattle.ocr_worker_acquisition.specs.Acquisition.{Meets, entry_by, two_faces}
use Rattle.ocr_worker_acquisition.specs.declared.act.Act.{Act}
use Rattle.ocr_worker_acquisition.specs.declared.act.Act.TheVariants as act
use Rattle.ocr_worker_acquisition.proofs.After.{IsGoing, core_back, later_keys, state_is}
use Rattle.ocr_worker_acquisition.proofs.Holds.{face_other, two_others}
use Rattle.ocr_worker_acquisition.proofs.Parks.{entered, going, has, meets, mid, taken_after, three_items, unstarted_after}
use Rattle.ocr_worker_acquisition.proofs.States.{face_back}
use Rattle.ocr_worker_acquisition.proofs.Takes.{taken_on_still}

-- WHO IS PAST a block acquires still
acquired_on : (e : Edt) (x : ℕ × Mode) → next_in (progress_in e) ≡ Some x → is_acquiring_edt (acquired_edt (awoken e)) ≡ true
acquired_on (phase.Acquiring s) x is = refl
acquired_on (phase.Waiting s) x is = refl
acquired_on other x is = cc is

stale_on : (e : Edt) (x : ℕ × Mode) → next_in (progress_in e) ≡ Some x → is_acquiring_edt (stale_edt (awoken e)) ≡ true
stale_on (phase.Acquiring s) x is = refl
stale_on (phase.Waiting s) x is = refl
stale_on other x is = cc is

-- so it does not wait, and is ready with any plan
awake_on : (e : Edt) → is_acquiring_edt e ≡ true → awaits_in e ≡ None
awake_on (phase.Acquiring s) is = refl
awake_on other is = cc is

made_same : (members : List (ℕ × Mode)) (e : Edt) → is_acquiring_edt e ≡ true → made_ready members e ≡ e
made_same members (phase.Acquiring s) is = refl
made_same members other is = cc is

-- The worker keeps the core, the face and the block, all at hand, and knows the payloads; the EDT
-- acquires, and does not wait.
pub record IsPast (t : OcrTerms) (edt d : ℕ) (first : Bool) (payloads : List ℕ) (c : OcrKnown) : Type 0 where
  pub knows : KnowsThree t edt d first payloads c
  pub acquiring : is_acquiring_edt knows.three.core.edt ≡ true

-- PAYLOADS are known still
known_after : (t : OcrTerms) (edt d : ℕ) (a : Act) (payloads : List ℕ) (h : PlannedParts) (old new : OcrKnown) → KnowsPayloads old.view edt payloads → EntersKept t old new (entry_by a edt d) h → KnowsPayloads new.view edt payloads
known_after t edt d a payloads h old new knows enters =
    λ k lt. let r = knows k lt in (r.0, ap (λ (v : OcrView). get_elem? v.facts r.0) enters.view ∙ at_longer old.view.facts (learns t.limit (entry_by a edt d) old.view.parts) r.0 _ r.1)

module _ (t : OcrTerms) (edt d : ℕ) (first : Bool) (payloads : List ℕ) (a : Act) (h : PlannedParts) (old new : OcrKnown) (off : edt ≢ d) (wd : is_within t.limit d ≡ true) (carries : CarriesOut t edt d first payloads a h old)
    (enters : EntersKept t old new (entry_by a edt d) h) (goes : IsGoing a) where
  abbrev its : Meets t edt d a payloads (places_of t.limit first edt d) h (mid t edt d first payloads a h old new off wd carries enters)
  its = meets t edt d first payloads a h old new off wd carries enters

  abbrev before : List (ℕ × Part)
  before = (t.limit + edt, part.Core its.core) ∷ two_faces its.first edt d its.slots its.state

  abbrev f : Parts
  f = ready_at edt (plan_from its.slots payloads) (parts_in t.limit before)

  number : is_within t.limit edt ≡ true
  number = carries.can.knows.three.taken.number

  core_t : ((t.limit + edt) == edt) ≡ false
  core_t = apart_is (t.limit + edt) edt (core_apart t.limit edt edt number number)

  d_t : (d == edt) ≡ false
  d_t = apart_is d edt (λ is. off (sym is))

  keys_now : keys enters.later ≡ places_of t.limit first edt d
  unfolding entered
  keys_now = later_keys t edt d a payloads (two_places first edt d) h (mid t edt d first payloads a h old new off wd carries enters) new (has t edt d first payloads a h old new off wd carries enters) its
      (entered t edt d first payloads a h old new off wd carries enters) (two_others t.limit edt d first number wd)

  state_now : parts_in t.limit enters.later ≡ changed (entry_by a edt d) f
  unfolding entered
  state_now = state_is t edt d a payloads (two_places first edt d) h (mid t edt d first payloads a h old new off wd carries enters) new (has t edt d first payloads a h old new off wd carries enters) its
      (entered t edt d first payloads a h old new off wd carries enters) (two_others t.limit edt d first number wd)

  -- its core
  record CoreOn (x : Act) : Type 0 where
    pub core : Core
    pub is : (changed (entry_by x edt d) f).core edt ≡ part.Core core
    pub acquiring : is_acquiring_edt core.edt ≡ true

  core_by : (x : Act) → IsGoing x → CoreOn x
  core_by act.Acquire on = record {
    core = acquiring_core d (next_mode_on f edt) (size_on (f.face d)) (words_on (f.face d)) (ready_with its.slots payloads its.core);
    is = rw (number_same edt, number, number_same (t.limit + edt)) refl;
    acquiring = acquired_on (ready_with its.slots payloads its.core).edt (d, its.mode) its.next;
  }
  core_by act.Pass on = record {
    core = with_phase (λ e. stale_edt (awoken e)) (ready_with its.slots payloads its.core);
    is = rw (number_same edt, number, number_same (t.limit + edt)) refl;
    acquiring = stale_on (ready_with its.slots payloads its.core).edt (d, its.mode) its.next;
  }
  core_by act.Wait on = absurd on

  -- and its face, as it was
  face_now : f.face edt ≡ part.Edt its.slots
  face_now = by_order its.first
    where
      by_order : (b : Bool) → (parts_in t.limit ((t.limit + edt, part.Core its.core) ∷ two_faces b edt d its.slots its.state)).face edt ≡ part.Edt its.slots
      by_order true = rw (number, core_t, d_t, number_same edt) refl
      by_order false = rw (number, core_t, number_same edt) refl

  face_by : (x : Act) → IsGoing x → (changed (entry_by x edt d) f).face edt ≡ part.Edt its.slots
  face_by act.Acquire on = rw d_t face_now
  face_by act.Pass on = face_now
  face_by act.Wait on = absurd on

  later_core : (parts_in t.limit enters.later).core edt ≡ part.Core (core_by a goes).core
  later_core = ap (λ (g : Parts). g.core edt) state_now ∙ (core_by a goes).is

  later_face : (parts_in t.limit enters.later).face edt ≡ part.Edt its.slots
  later_face = ap (λ (g : Parts). g.face edt) state_now ∙ face_by a goes

  record IsLater (b : Bool) : Type 0 where
    pub other : Part
    pub is : enters.later ≡ (t.limit + edt, part.Core (core_by a goes).core) ∷ pair_of b edt d (part.Edt its.slots) other

  later_is : (b : Bool) → keys enters.later ≡ places_of t.limit b edt d → IsLater b
  later_is true is =
      let s = three_items (t.limit + edt) d edt enters.later is in
      let at_core : (parts_in t.limit ((t.limit + edt, s.0) ∷ (d, s.1) ∷ (edt, s.2) ∷ [])).core edt ≡ as_core s.0 = rw (number, number_same (t.limit + edt)) refl in
      let at_face : (parts_in t.limit ((t.limit + edt, s.0) ∷ (d, s.1) ∷ (edt, s.2) ∷ [])).face edt ≡ as_face s.2 = rw (number, core_t, d_t, number_same edt) refl in
      let core = core_back s.0 (core_by a goes).core (sym at_core ∙ (ap (λ (l : List (ℕ × Part)). (parts_in t.limit l).core edt) (sym s.3) ∙ later_core)) in
      let face = face_back s.2 its.slots (sym at_face ∙ (ap (λ (l : List (ℕ × Part)). (parts_in t.limit l).face edt) (sym s.3) ∙ later_face)) in
      record { other = s.1; is = s.3 ∙ (λ i. (t.limit + edt, core i) ∷ (d, s.1) ∷ (edt, face i) ∷ []) }
  later_is false is =
      let s = three_items (t.limit + edt) edt d enters.later is in
      let at_core : (parts_in t.limit ((t.limit + edt, s.0) ∷ (edt, s.1) ∷ (d, s.2) ∷ [])).core edt ≡ as_core s.0 = rw (number, number_same (t.limit + edt)) refl in
      let at_face : (parts_in t.limit ((t.limit + edt, s.0) ∷ (edt, s.1) ∷ (d, s.2) ∷ [])).face edt ≡ as_face s.1 = rw (number, core_t, number_same edt) refl in
      let core = core_back s.0 (core_by a goes).core (sym at_core ∙ (ap (λ (l : List (ℕ × Part)). (parts_in t.limit l).core edt) (sym s.3) ∙ later_core)) in
      let face = face_back s.1 its.slots (sym at_face ∙ (ap (λ (l : List (ℕ × Part)). (parts_in t.limit l).face edt) (sym s.3) ∙ later_face)) in
      record { other = s.2; is = s.3 ∙ (λ i. (t.limit + edt, core i) ∷ (edt, face i) ∷ (d, s.2) ∷ []) }

  pub past : IsPast t edt d first payloads new
  past =
      let l = later_is first keys_now in record {
        knows = record {
          three = record {
            taken = taken_after t edt d first payloads a h old new off wd carries enters;
            unstarted = unstarted_after t edt d first payloads a h old new off wd carries enters;
            core = (core_by a goes).core;
            face = part.Edt its.slots;
            other = l.other;
            kept = enters.kept ∙ l.is;
            hand = enters.hand ∙ ap (λ (ps : List (ℕ × Part)). as_some ps) l.is;
          };
          slots = its.slots;
          face_is = refl;
          count = its.count;
          facts = known_after t edt d a payloads h old new carries.can.knows.facts enters;
        };
        acquiring = (core_by a goes).acquiring;
      }

pub past_act : (t : OcrTerms) (edt d : ℕ) (first : Bool) (payloads : List ℕ) (a : Act) (h : PlannedParts) (old new : OcrKnown) → edt ≢ d → is_within t.limit d ≡ true → lets_wait a ≡ false → CarriesOut t edt d first payloads a h old
    → EntersKept t old new (entry_by a edt d) h → IsPast t edt d first payloads new
past_act t edt d first payloads a h old new off wd goes carries enters = past t edt d first payloads a h old new off wd carries enters (going a goes)

-- THE BLOCK goes home
parts_calm : (u : OcrView) (ps : List (ℕ × Part)) → Calm u (with_parts u ps)
parts_calm u ps = record { terms = refl; root = refl; seat = refl; out = refl; joined = refl; log = refl; weight = refl; drawn = refl; full = refl; reached = refl; closed = refl; stake = omega arith; raised = refl; ended = refl }

module _ (t : OcrTerms) (edt d : ℕ) (first : Bool) (payloads : List ℕ) (c : OcrKnown) (is_past : IsPast t edt d first payloads c) (off : edt ≢ d) (wd : is_within t.limit d ≡ true) where
  abbrev m : HasThree t edt d first c
  m = is_past.knows.three

  d_edt : (d == edt) ≡ false
  d_edt = apart_is d edt (λ is. off (sym is))

  d_core : (d == (t.limit + edt)) ≡ false
  d_core = apart_is d (t.limit + edt) (face_other t.limit edt d m.taken.number wd).0

  pub past_place : d ≤ 2 * t.limit
  past_place = let b = (within_is t.limit d wd).1 in omega (arith, b)

  found : (b : Bool) → find d (pair_of b edt d m.face m.other) ≡ Some m.other
  found true = rw (number_same d) refl
  found false = rw (d_edt, number_same d) refl

  pub past_may : MayGive meaning t c.view c.parts d
  past_may =
      subst (λ (v : OcrView). MayGive meaning t v c.parts d) (sym (ap (with_parts c.view) m.kept))
      (subst (λ (hands : Hands). MayGive meaning t (with_parts c.view ((t.limit + edt, part.Core m.core) ∷ pair_of first edt d m.face m.other)) hands d) (sym m.hand)
      (face_may t c.view edt d m.core (Some (part.Core m.core)) m.other (pair_of first edt d m.face m.other) m.taken.number (face_other t.limit edt d m.taken.number wd).0 m.taken.claims m.taken.only (awake_on m.core.edt is_past.acquiring) (found first)))

  -- what is left
  two_left : (b : Bool) → (remove_at d ((t.limit + edt, part.Core m.core) ∷ pair_of b edt d m.face m.other) ≡ (t.limit + edt, part.Core m.core) ∷ (edt, m.face) ∷ [])
      × (remove_at d ((t.limit + edt, Some (part.Core m.core)) ∷ as_some (pair_of b edt d m.face m.other)) ≡ (t.limit + edt, Some (part.Core m.core)) ∷ (edt, Some m.face) ∷ [])
  two_left true = (rw (d_core, number_same d) refl, rw (d_core, number_same d) refl)
  two_left false = (rw (d_core, d_edt, number_same d) refl, rw (d_core, d_edt, number_same d) refl)

  two_long : (b : Bool) → length (as_some (pair_of b edt d m.face m.other)) ≡ 2
  two_long true = refl
  two_long false = refl

  module _ (last : OcrKnown) (open_run : c.view.closed ≡ None) (tells : GiveTells c last d) where
    told : (last.table ≡ c.table) × (last.view ≡ without_part c.view d) × (last.parts ≡ remove_at d c.parts) × (last.room ≡ c.room) × (last.spare ≡ c.spare + 1)
    told = gave c last d open_run tells

    kept_now : last.view.parts ≡ (t.limit + edt, part.Core m.core) ∷ (edt, part.Edt is_past.knows.slots) ∷ []
    kept_now = ap (λ (v : OcrView). v.parts) told.1 ∙ (ap (remove_at d) m.kept ∙ ((two_left first).0 ∙ ap (λ (x : Part). (t.limit + edt, part.Core m.core) ∷ (edt, x) ∷ []) is_past.knows.face_is))

    hand_now : last.parts ≡ (t.limit + edt, Some (part.Core m.core)) ∷ (edt, Some (part.Edt is_past.knows.slots)) ∷ []
    hand_now = told.2 ∙ (ap (remove_at d) m.hand ∙ ((two_left first).1 ∙ ap (λ (x : Part). (t.limit + edt, Some (part.Core m.core)) ∷ (edt, Some x) ∷ []) is_past.knows.face_is))

    pub past_work : (table : OcrTable) (q : Checked) → AtWork table q c → AtWork table q last
    past_work table q work =
        work_still table q c last (with_parts c.view (remove_at d c.view.parts)) work told.0 told.1 (parts_calm c.view _)
        (let r = told.3 in omega (arith, r))
        (let s = told.4 in let a = ap (λ (l : Hands). length l) m.hand in let b = ap (λ (l : Hands). length l) hand_now in let n = two_long first in omega (arith, s, a, b, n))

    pub past_stays : Stays c last
    past_stays = stays_still c last (with_parts c.view (remove_at d c.view.parts)) told.0 told.1 (parts_calm c.view _)

    pub past_readies : ReadiesNone c last
    past_readies = ap (λ (v : OcrView). v.debts.readied) told.1

    pub past_runs : next_in (progress_in m.core.edt) ≡ None → CanRun t edt payloads last
    past_runs none =
        let same : made_ready (plan_from is_past.knows.slots payloads) m.core.edt ≡ m.core.edt = made_same (plan_from is_past.knows.slots payloads) m.core.edt is_past.acquiring in record {
          taken = taken_on_still t edt c last (remove_at d c.view.parts) m.taken told.1;
          core = m.core;
          slots = is_past.knows.slots;
          kept = kept_now;
          hand = hand_now;
          unstarted = ap (λ (v : OcrView). is_among (λ e. is_own e edt) (entries v.log)) told.1 ∙ m.unstarted;
          count = is_past.knows.count;
          facts = subst (λ (v : OcrView). KnowsPayloads v edt payloads) (sym told.1) is_past.knows.facts;
          acquiring = ap is_acquiring_edt same ∙ is_past.acquiring;
          through = ap (λ (e : Edt). next_in (progress_in e)) same ∙ none;
        }
