-- What a claim tells of an EDT, by the parts that are kept.
use Rattle.std.proofs.Common.{◌≡◌, ⊎_elim, ℕ, suc, ◌+◌, ◌≤◌, ◌==◌, Bool, true, false, if◌then◌else◌, nat_lt, List, [], ◌∷◌, reverse, Option, Some, None, is_some, refl, ap, sym, ◌∙◌, subst, arith}
use Rattle.std.proofs.lemmas.Bool.{eqb-true, or_parts, false_from_ne_true, true_from_ne_false}
use Rattle.std.proofs.lemmas.List.{reverse-append, reverse-reverse}
use mathlib.Core.Option.{some}
use lib.ListN.{get_elem?}
use Rattle.ocr_acquire.specs.declared.Mode.{Mode}
use Rattle.ocr_acquire.specs.Mode.{mode_in}
use Rattle.ocr_edt.specs.declared.Edt.{Edt}
use Rattle.ocr_edt.specs.declared.Edt.TheVariants as phase
use Rattle.ocr_edt.specs.Phases.{first_of}
use Rattle.ocr_slots.specs.declared.Slot.{Slot}
use Rattle.ocr_slots.specs.Slots as slot
use Rattle.ocr_machine_history.specs.declared.entry.Entry.{Entry}
use Rattle.ocr_machine_history.specs.declared.entry.Entry.TheVariants.{Start}
use Rattle.ocr_machine_history.specs.Made.{Made, MadeEdt, made}
use Rattle.ocr_machine_parts.specs.declared.part.Core.{Core}
use Rattle.ocr_machine_parts.specs.declared.part.Part.{Part}
use Rattle.ocr_machine_parts.specs.declared.part.Part.TheVariants as part
use Rattle.ocr_machine_parts.specs.Calls.{block_calls, edt_calls, event_calls, link_calls, loans_of, scope_calls}
use Rattle.ocr_machine_parts.specs.Effects.{settled}
use Rattle.ocr_machine_parts.specs.Legal.{IsRun}
use Rattle.ocr_machine_parts.specs.Kinds.{is_block, next_in, progress_in}
use Rattle.ocr_machine_parts.specs.Parts.{core, face, parts_of, identity_of}
use Rattle.ocr_machine_parts.specs.Taken.{as_core, as_face, is_within, place_of, seen}
use Rattle.ocr_machine_parts.proofs.Within.{within_law}
use Rattle.ocr_machine_laws.specs.Marks.{mark, mark_in}
use Rattle.ocr_machine_laws.specs.Waits.{AreBlocks, queue_on, rest_in, rest_on}
use Rattle.ocr_machine_laws.proofs.Given.{wanted_law}
use Rattle.ocr_machine_laws.proofs.Stages.{told_law}
use Rattle.ocr_machine_laws.specs.Permanence.{is_own}
use Rattle.ocr_worker_machine.specs.Clerks.{OcrTerms, OcrView, of_terms}
use Rattle.ocr_worker_machine.specs.Ocr.{meaning, part_of, starts}
use Rattle.ocr_worker_machine.proofs.Runs.{run_is}
use Rattle.ocr_worker_machine.proofs.Slots.{slots_are, slots_in, started_is}
use Rattle.ocr_worker_machine.proofs.Waits.{waits_is}
use Rattle.ocr_turns_rule.specs.Counts.{IsSet, awaited, is_started, tied_to}
use Rattle.ocr_turns_rule.specs.Rule.{Claimed, Fits, LogOf}
use Rattle.ocr_turns_rule.specs.Sums.{entries, is_among, one_at, picked, weigh}
use Rattle.ocr_turns_rule.specs.Words.{Knows, SeesReady}
use Rattle.ocr_turns_rule.proofs.Totals.{log_none, picked_append}
use Rattle.ocr_worker_clerk.proofs.Seen.{core_place, face_is}
use Rattle.ocr_worker_acquisition.specs.Block.{IsOtherObject, IsUnbegun}
use Rattle.ocr_worker_acquisition.proofs.Unstarted.{not_among}

-- LISTS
no_start : (es : List Entry) (edt : ℕ) → is_among (λ e. is_own e edt) es ≡ false → is_among (λ e. starts e edt) es ≡ false
no_start [] edt none = refl
no_start (e ∷ es) edt none = rw (unbegun e (or_parts (is_own e edt) (is_among (λ x. is_own x edt) es) none).0) (no_start es edt (or_parts (is_own e edt) (is_among (λ x. is_own x edt) es) none).1)
  where
    unbegun : (e : Entry) → is_own e edt ≡ false → starts e edt ≡ false
    unbegun (Start u) is = is
    unbegun other is = refl

there : (p : ℕ) (ps : List (ℕ × Part)) → 1 ≤ weigh (one_at p) ps → (k : ℕ) × (x : Part) × (get_elem? ps k ≡ some (p, x))
there p [] some_of = absurd (omega (arith, some_of))
there p (y ∷ ps) some_of = elim (p == y.0) as (λ b. (p == y.0) ≡ b → 1 ≤ (if b then 1 else 0) + weigh (one_at p) ps → (k : ℕ) × (x : Part) × (get_elem? (y ∷ ps) k ≡ some (p, x))) [
  | true ↦ λ is _. (0, y.1, ap (λ (m : ℕ). some (m, y.1)) (sym (eqb-true p y.0 is)))
  | false ↦ λ _ least. let r = there p ps (omega (arith, least)) in (suc r.0, r.1, r.2)
] refl some_of

unpicked : (test : Entry → Bool) (past : List Entry) → is_among test past ≡ false → picked test (reverse past) ≡ []
unpicked test [] none = refl
unpicked test (e ∷ past) none =
    let off = (or_parts (test e) (is_among test past) none).0 in let rest = (or_parts (test e) (is_among test past) none).1 in
    ap (picked test) (reverse-append (e ∷ []) past) ∙ (picked_append test (reverse past) (e ∷ []) ∙ rw (unpicked test past rest, off) refl)

-- NO LOG has the start of an EDT that has not started
unstarted_in : (t : OcrTerms) (J : List Entry) (log : List (ℕ × Entry)) (edt : ℕ) → LogOf J log → is_started meaning t (reverse J) edt ≡ false → is_among (λ e. starts e edt) (entries log) ≡ false
unstarted_in t J log edt logged off =
    let none : picked (λ e. starts e edt) J ≡ [] = subst (λ (K : List Entry). picked (λ e. starts e edt) K ≡ []) (reverse-reverse J) (unpicked (λ e. starts e edt) (reverse J) off) in
    not_among (λ e. starts e edt) (entries log) (log_none (λ e. starts e edt) J log logged none)

pub none_begun : (t : OcrTerms) (J : List Entry) (v : OcrView) (edt : ℕ) → Fits meaning t J v → is_started meaning t (reverse J) edt ≡ false → (is_among (λ e. starts e edt) (entries v.log) ≡ false) × IsUnbegun v edt
none_begun t J v edt fits off = (unstarted_in t J v.log edt fits.log off, λ j l at. unstarted_in t J l edt (fits.joined j l at) off)

pub none_own : (log : List (ℕ × Entry)) (edt : ℕ) → is_among (λ e. is_own e edt) (entries log) ≡ false → is_among (λ e. starts e edt) (entries log) ≡ false
none_own log edt none = no_start (entries log) edt none

-- A claimed EDT whose start stands in no log of the view has not started
pub unstarted_is : (t : OcrTerms) (J : List Entry) (v : OcrView) (edt : ℕ) → Claimed meaning t J v edt → is_among (λ e. starts e edt) (entries v.log) ≡ false → IsUnbegun v edt → is_started meaning t (reverse J) edt ≡ false
unstarted_is t J v edt claimed here joined = false_from_ne_true (is_started meaning t (reverse J) edt) (λ on. ⊎_elim (λ a. cc (a, here)) (λ b. let none = joined b.0 b.1 b.2 in let some_of = b.3 in cc (some_of, none)) (claimed.begun on))

-- NO PART that the view keeps has the EDT in its queue
abbrev pub IsUnqueued : OcrTerms → OcrView → ℕ → Type 0
IsUnqueued t v edt = (k g : ℕ) (x : Part) → is_within t.limit g ≡ true → get_elem? v.parts k ≡ some (g, x) → is_some (mode_in edt (queue_on (as_face x))) ≡ false

tied_awaited : (t : OcrTerms) (past : List Entry) (edt p : ℕ) → is_started meaning t past edt ≡ false → awaited meaning t past edt ≡ Some p → tied_to meaning t past edt ≡ Some p
tied_awaited t past edt p off waits = rw off waits

-- then it does not wait
pub awake_by : (t : OcrTerms) (J : List Entry) (v : OcrView) (edt : ℕ) → Fits meaning t J v → Claimed meaning t J v edt → is_started meaning t (reverse J) edt ≡ false → IsUnqueued t v edt → awaited meaning t (reverse J) edt ≡ None
awake_by t J v edt fits claimed off unqueued = by_case (awaited meaning t (reverse J) edt) refl
  where
    queued_none : (o : Option Mode) → is_some o ≡ true → o ≡ None → ⊥
    queued_none None is none = cc is
    queued_none (Some m) is none = cc none

    by_case : (o : Option ℕ) → awaited meaning t (reverse J) edt ≡ o → o ≡ None
    by_case None is = refl
    by_case (Some p) is = absurd (
        let s = of_terms t in let past = reverse J in
        let run = run_is t.setting.value t.limit J fits.run in
        let queued : is_some (mode_in edt (queue_on ((parts_of s past).face p))) ≡ true = (waits_is t past edt fits.limits run).told p is in
        let within : is_within t.limit p ≡ true = true_from_ne_false (is_within t.limit p) (λ outside. let none : is_some (mode_in edt (queue_on ((parts_of s past).face p))) ≡ false = ap (λ (x : Part). is_some (mode_in edt (queue_on x))) ((within_law s past fits.limits run).faces p outside) in cc (queued, none)) in
        let at = there p v.parts (claimed.tied p (tied_awaited t past edt p off is)) in
        let none : is_some (mode_in edt (queue_on (as_face at.1))) ≡ false = unqueued at.0 p at.1 within at.2 in
        let same : is_some (mode_in edt (queue_on (as_face at.1))) ≡ true = ap (λ (x : Part). is_some (mode_in edt (queue_on x))) (sym (face_is t J v at.0 p at.1 fits within at.2)) ∙ queued in
        cc (none, same))

-- and the other way
pub unqueued_by : (t : OcrTerms) (J : List Entry) (v : OcrView) (edt : ℕ) → Fits meaning t J v → awaited meaning t (reverse J) edt ≡ None → IsUnqueued t v edt
unqueued_by t J v edt fits awake k g x within at = false_from_ne_true (is_some (mode_in edt (queue_on (as_face x)))) (λ on.
    let s = of_terms t in let past = reverse J in
    let run = run_is t.setting.value t.limit J fits.run in
    let queued : is_some (mode_in edt (queue_on ((parts_of s past).face g))) ≡ true = ap (λ (y : Part). is_some (mode_in edt (queue_on y))) (face_is t J v k g x fits within at) ∙ on in
    let waits = (waits_is t past edt fits.limits run).all g queued in
    cc (waits, awake))

-- A CLAIMED EDT of a view all of whose parts leave it in peace
pub record IsReadyIn (t : OcrTerms) (J : List Entry) (v : OcrView) (edt : ℕ) : Type 0 where
  pub fits : Fits meaning t J v
  pub set : IsSet meaning t (reverse J) edt
  pub unstarted : is_started meaning t (reverse J) edt ≡ false
  pub awake : awaited meaning t (reverse J) edt ≡ None

pub ready_in : (t : OcrTerms) (J : List Entry) (v : OcrView) (edt : ℕ) → Fits meaning t J v → Claimed meaning t J v edt → is_among (λ e. starts e edt) (entries v.log) ≡ false → IsUnbegun v edt → IsUnqueued t v edt → IsReadyIn t J v edt
ready_in t J v edt fits claimed none joined unqueued =
    let off = unstarted_is t J v edt claimed none joined in
    record { fits = fits; set = claimed.set; unstarted = off; awake = awake_by t J v edt fits claimed off unqueued }

some_terms : (t u : OcrTerms) → Some t ≡ Some u → t ≡ u
some_terms t u is = cc is

pub sees_ready : (t : OcrTerms) (J : List Entry) (v : OcrView) (edt : ℕ) → v.terms ≡ Some t → IsReadyIn t J v edt → SeesReady meaning v edt
sees_ready t J v edt terms ready u is =
    subst (λ (w : OcrTerms). (K : List Entry) × Knows meaning w K v × IsSet meaning w (reverse K) edt × (is_started meaning w (reverse K) edt ≡ false) × (awaited meaning w (reverse K) edt ≡ None))
    (some_terms t u (sym terms ∙ is))
    (J, record { run = ready.fits.run; log = ready.fits.log; facts = ready.fits.facts; fits = λ _. ready.fits }, ready.set, ready.unstarted, ready.awake)

-- THE CORE AND THE FACE of an EDT whose slots are all set
edt_made : (m : Option Made) (d : ℕ) → slots_in m ≡ Some d → (f : ℕ) × (ps : List ℕ) × (n : ℕ) × (m ≡ Some (MadeEdt f ps n))
edt_made (Some (MadeEdt f ps n)) d is = (f, ps, n, refl)
edt_made other d is = cc is

module _ (t : OcrTerms) (J : List Entry) (v : OcrView) (edt : ℕ) (fits : Fits meaning t J v) (set : IsSet meaning t (reverse J) edt) where
  abbrev past : List Entry
  past = reverse J

  run : IsRun (of_terms t) past
  run = run_is t.setting.value t.limit J fits.run

  is_made : (f : ℕ) × (ps : List ℕ) × (n : ℕ) × (made (of_terms t) past edt ≡ Some (MadeEdt f ps n))
  is_made = edt_made (made (of_terms t) past edt) set.slots (sym (slots_are t past edt run) ∙ set.made)

  face_slots : (slots : List Slot) × ((parts_of (of_terms t) past).face edt ≡ part.Edt slots)
  face_slots = (slot.state_of is_made.2 (link_calls past edt), ap (λ (m : Option Made). face m (link_calls past edt) (block_calls (of_terms t) past edt) (event_calls (of_terms t) past edt) (scope_calls past edt)) is_made.3)

  its_core : (c : Core) × ((parts_of (of_terms t) past).core edt ≡ part.Core c)
  its_core = (_, ap (λ (m : Option Made). core m (identity_of past edt) (edt_calls (of_terms t) past edt) (loans_of (of_terms t) past edt)) is_made.3)

  -- a block is no EDT
  pub other_object : (d : ℕ) → is_block ((parts_of (of_terms t) past).face d) ≡ true → IsOtherObject t edt d
  other_object d is = (
    true_from_ne_false (is_within t.limit d) (λ outside. let none : is_block ((parts_of (of_terms t) past).face d) ≡ false = ap is_block ((within_law (of_terms t) past fits.limits run).faces d outside) in cc (is, none)),
    λ same. let none : is_block ((parts_of (of_terms t) past).face d) ≡ false = subst (λ (n : ℕ). is_block ((parts_of (of_terms t) past).face n) ≡ false) same (ap is_block face_slots.1) in cc (is, none),
  )

  -- the face that is kept
  pub edt_face : (k : ℕ) (x : Part) → is_within t.limit edt ≡ true → get_elem? v.parts k ≡ some (edt, x) → (slots : List Slot) × (x ≡ part.Edt slots)
  edt_face k x within at = as_edt x face_slots.0 (sym (face_is t J v k edt x fits within at) ∙ face_slots.1)
    where
      as_edt : (x : Part) (slots : List Slot) → as_face x ≡ part.Edt slots → (slots : List Slot) × (x ≡ part.Edt slots)
      as_edt (part.Edt slots) s is = (slots, refl)
      as_edt other s is = cc is

  -- and the core
  core_seen : (k : ℕ) (x : Part) → is_within t.limit edt ≡ true → get_elem? v.parts k ≡ some (t.limit + edt, x) → (parts_of (of_terms t) past).core edt ≡ settled (as_core x)
  unfolding part_of
  core_seen k x within at =
      let w = core_place t.limit edt within in
      let told : place_of t.limit (parts_of (of_terms t) past) (t.limit + edt) ≡ seen t.limit (t.limit + edt) x = fits.parts k (t.limit + edt) x at in
      rw (w.0, w.1, within) at told

  pub edt_core : (k : ℕ) (x : Part) → is_within t.limit edt ≡ true → get_elem? v.parts k ≡ some (t.limit + edt, x) → (c : Core) × (x ≡ part.Core c)
  edt_core k x within at = as_one x its_core.0 (sym (core_seen k x within at) ∙ its_core.1)
    where
      as_one : (x : Part) (c : Core) → settled (as_core x) ≡ part.Core c → (c : Core) × (x ≡ part.Core c)
      as_one (part.Core c) d is = (c, refl)
      as_one other d is = cc is

  -- how far it has come, where it has not started
  pub early : (k : ℕ) (c : Core) → is_within t.limit edt ≡ true → get_elem? v.parts k ≡ some (t.limit + edt, part.Core c) → is_started meaning t past edt ≡ false → (nat_lt 1 (mark_in c.edt).0 ≡ false) × ((mark_in c.edt).1 ≡ false)
  early k c within at off =
      let told = told_law (of_terms t) past run edt in let is = core_seen k (part.Core c) within at in (
        ap (λ (x : Part). nat_lt 1 (mark x).0) (sym is) ∙ (sym told.has_started ∙ (sym (started_is t past edt) ∙ off)),
        ap (λ (x : Part). (mark x).1) (sym is) ∙ told.wants,
      )

  -- what its core tells as its next is another object
  pub next_other : (k : ℕ) (c : Core) (d : ℕ) (m : Mode) → is_within t.limit edt ≡ true → get_elem? v.parts k ≡ some (t.limit + edt, part.Core c) → next_in (progress_in c.edt) ≡ Some (d, m) → IsOtherObject t edt d
  next_other k c d m within at next =
      let all : AreBlocks (parts_of (of_terms t) past).face (rest_in c.edt) = subst (λ (x : Part). AreBlocks (parts_of (of_terms t) past).face (rest_on x)) (core_seen k (part.Core c) within at) (wanted_law (of_terms t) past run edt) in
      other_object d (by_phase c.edt next all)
    where
      first_block : (f : ℕ → Part) (rest : List (ℕ × Mode)) → first_of rest ≡ Some (d, m) → AreBlocks f rest → is_block (f d) ≡ true
      first_block f [] is all = cc is
      first_block f (one ∷ rest) is all = let same : one ≡ (d, m) = cc is in subst (λ (y : ℕ × Mode). is_block (f y.0) ≡ true) same all.0

      by_phase : (e : Edt) → next_in (progress_in e) ≡ Some (d, m) → AreBlocks (parts_of (of_terms t) past).face (rest_in e) → is_block ((parts_of (of_terms t) past).face d) ≡ true
      by_phase (phase.Acquiring p) is all = first_block (parts_of (of_terms t) past).face p.rest is all
      by_phase (phase.Waiting p) is all = first_block (parts_of (of_terms t) past).face p.rest is all
      by_phase other is all = cc is
