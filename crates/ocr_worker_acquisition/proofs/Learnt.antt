-- A view that learnt the payloads of its EDT still sees that it may go on.
use Rattle.std.proofs.Common.{◌≡◌, ◌≢◌, ℕ, ◌+◌, ◌≤◌, Bool, true, false, nat_lt, if◌then◌else◌, List, [], ◌∷◌, reverse, Option, Some, None, is_some, refl, ap, sym, ◌∙◌, subst, arith}
use mathlib.Core.Option.{some}
use lib.ListN.{get_elem?}
use Rattle.ocr_base.proofs.Booleans.{same as number_same}
use Rattle.ocr_acquire.specs.declared.Mode.{Mode}
use Rattle.ocr_acquire.specs.Mode.{mode_in}
use Rattle.ocr_machine_history.specs.declared.entry.Entry.{Entry}
use Rattle.ocr_machine_history.specs.History.{Setting}
use Rattle.ocr_machine_parts.specs.declared.part.Core.{Core}
use Rattle.ocr_machine_parts.specs.declared.part.Part.{Part}
use Rattle.ocr_machine_parts.specs.declared.part.Part.TheVariants as part
use Rattle.ocr_machine_parts.specs.Legal.{IsRun}
use Rattle.ocr_machine_parts.specs.Parts.{parts_of}
use Rattle.ocr_machine_parts.specs.Taken.{is_within}
use Rattle.ocr_machine_parts.proofs.Within.{within_law}
use Rattle.ocr_machine_laws.specs.Marks.{mark}
use Rattle.ocr_machine_laws.specs.Waits.{queue_on}
use Rattle.ocr_machine_laws.proofs.Stages.{told_law}
use Rattle.ocr_turns_rule.specs.Counts.{IsSet, awaited, is_started, tied_to}
use Rattle.ocr_turns_rule.specs.Debts.{times}
use Rattle.ocr_turns_rule.specs.Rule.{Fits}
use Rattle.ocr_turns_rule.specs.Steps.{Sees}
use Rattle.ocr_turns_rule.specs.Sums.{one_at, weigh}
use Rattle.ocr_turns_rule.specs.Words.{Knows, SeesReady}
use Rattle.ocr_worker_machine.specs.Clerks.{OcrTerms, OcrView, of_terms}
use Rattle.ocr_worker_machine.specs.Ocr.{meaning}
use Rattle.ocr_worker_machine.proofs.Awaits.{IsQueued}
use Rattle.ocr_worker_machine.proofs.Runs.{run_is}
use Rattle.ocr_worker_machine.proofs.Slots.{started_is}
use Rattle.ocr_worker_machine.proofs.Waits.{waits_is}
use Rattle.ocr_worker_clerk.specs.Entry.{OcrKnown}
use Rattle.ocr_worker_clerk.proofs.Seen.{core_is, core_place, face_is}
use Rattle.ocr_worker_acquisition.specs.Block.{KnowsThree, pair_of}
use Rattle.ocr_worker_acquisition.specs.Acquisition.{Learns}
use Rattle.ocr_worker_acquisition.proofs.States.{Ready, face_at, other_at, sees_ready}
use Rattle.ocr_turns_rule.proofs.Totals.{one_else}

-- a place that is kept among three
one_of : (p a b c : ℕ) → 1 ≤ one_at p a + (one_at p b + (one_at p c + 0)) → (p ≢ a) → (p ≢ b) → (p ≢ c) → ⊥
one_of p a b c kept pa pb pc = let x = one_else p a pa in let y = one_else p b pb in let z = one_else p c pc in absurd (omega (arith, kept, x, y, z))

weighed : (b : Bool) (p a t d : ℕ) (x y z : Part) → 1 ≤ weigh (one_at p) ((a, x) ∷ pair_of b t d y z) → 1 ≤ one_at p a + (one_at p t + (one_at p d + 0))
weighed true p a t d x y z kept = omega (arith, kept)
weighed false p a t d x y z kept = kept

no_queue : (x : Part) (n : ℕ) → queue_on x ≡ [] → is_some (mode_in n (queue_on x)) ≡ true → ⊥
no_queue x n none is = let off : is_some (mode_in n (queue_on x)) ≡ false = ap (λ (q : List (ℕ × Mode)). is_some (mode_in n q)) none in cc (is, off)

module _ (t : OcrTerms) (edt d : ℕ) (first : Bool) (payloads : List ℕ) (old : OcrView) (c : OcrKnown) (k : KnowsThree t edt d first payloads c) (inside : is_within t.limit d ≡ true) (same : c.view.parts ≡ old.parts) (J : List Entry) (ready : Ready t J old edt)
    (K : List Entry) (fits : Fits meaning t K c.view) (set : IsSet meaning t (reverse K) edt) (tied : (p : ℕ) → tied_to meaning t (reverse K) edt ≡ Some p → 1 ≤ weigh (one_at p) c.view.parts) where
  abbrev s : Setting
  s = of_terms t

  abbrev core : Core
  core = k.three.core

  run_before : IsRun s (reverse J)
  run_before = run_is t.setting.value t.limit J ready.fits.run

  run_now : IsRun s (reverse K)
  run_now = run_is t.setting.value t.limit K fits.run

  parts_are : c.view.parts ≡ (t.limit + edt, part.Core core) ∷ pair_of first edt d k.three.face k.three.other
  parts_are = k.three.kept

  core_at : get_elem? c.view.parts 0 ≡ some (t.limit + edt, part.Core core)
  core_at = ap (λ (l : List (ℕ × Part)). get_elem? l 0) parts_are

  stage_before : is_started meaning t (reverse J) edt ≡ nat_lt 1 (mark (part.Core core)).0
  stage_before =
      started_is t (reverse J) edt ∙ ((told_law s (reverse J) run_before edt).has_started
      ∙ ap (λ (x : Part). nat_lt 1 (mark x).0) (core_is t J old 0 edt core ready.fits k.three.taken.number (ap (λ (l : List (ℕ × Part)). get_elem? l 0) (sym same) ∙ core_at)))

  stage_now : is_started meaning t (reverse K) edt ≡ nat_lt 1 (mark (part.Core core)).0
  stage_now =
      started_is t (reverse K) edt ∙ ((told_law s (reverse K) run_now edt).has_started
      ∙ ap (λ (x : Part). nat_lt 1 (mark x).0) (core_is t K c.view 0 edt core fits k.three.taken.number core_at))

  unstarted_now : is_started meaning t (reverse K) edt ≡ false
  unstarted_now = stage_now ∙ (sym stage_before ∙ ready.unstarted)

  faces : (n : ℕ) × (get_elem? c.view.parts n ≡ some (edt, part.Edt k.slots))
  faces =
      let there = face_at first (t.limit + edt) edt d (part.Core core) k.three.face k.three.other in
      (there.0, ap (λ (l : List (ℕ × Part)). get_elem? l there.0) parts_are ∙ (there.1 ∙ ap (λ (x : Part). some (edt, x)) k.face_is))

  others : (n : ℕ) × (get_elem? c.view.parts n ≡ some (d, k.three.other))
  others =
      let there = other_at first (t.limit + edt) edt d (part.Core core) k.three.face k.three.other in
      (there.0, ap (λ (l : List (ℕ × Part)). get_elem? l there.0) parts_are ∙ there.1)

  -- at none of the three places it stands in a queue
  not_core : IsQueued (parts_of s (reverse K)) edt (t.limit + edt) → ⊥
  not_core queued =
      let vacant = (within_law s (reverse K) fits.limits run_now).faces (t.limit + edt) (core_place t.limit edt k.three.taken.number).0 in
      no_queue ((parts_of s (reverse K)).face (t.limit + edt)) edt (ap queue_on vacant) queued

  not_face : IsQueued (parts_of s (reverse K)) edt edt → ⊥
  not_face queued =
      let face = face_is t K c.view faces.0 edt (part.Edt k.slots) fits k.three.taken.number faces.1 in
      no_queue ((parts_of s (reverse K)).face edt) edt (ap queue_on face) queued

  not_other : IsQueued (parts_of s (reverse K)) edt d → ⊥
  not_other queued =
      let now = face_is t K c.view others.0 d k.three.other fits inside others.1 in
      let was = face_is t J old others.0 d k.three.other ready.fits inside (ap (λ (l : List (ℕ × Part)). get_elem? l others.0) (sym same) ∙ others.1) in
      let before : IsQueued (parts_of s (reverse J)) edt d = ap (λ (x : Part). is_some (mode_in edt (queue_on x))) (was ∙ sym now) ∙ queued in
      let there = (waits_is t (reverse J) edt ready.fits.limits run_before).all d before in
      let none = ready.awake in cc (none, there)

  never : (p : ℕ) → awaited meaning t (reverse K) edt ≡ Some p → ⊥
  never p is =
      let queued : IsQueued (parts_of s (reverse K)) edt p = (waits_is t (reverse K) edt fits.limits run_now).told p is in
      let kept = tied p (untied (is_started meaning t (reverse K) edt) _ (awaited meaning t (reverse K) edt) unstarted_now ∙ is) in
      let among = weighed first p (t.limit + edt) edt d (part.Core core) k.three.face k.three.other (subst (λ (l : List (ℕ × Part)). 1 ≤ weigh (one_at p) l) parts_are kept) in
      one_of p (t.limit + edt) edt d among
      (λ e. not_core (subst (λ (n : ℕ). IsQueued (parts_of s (reverse K)) edt n) e queued))
      (λ e. not_face (subst (λ (n : ℕ). IsQueued (parts_of s (reverse K)) edt n) e queued))
      (λ e. not_other (subst (λ (n : ℕ). IsQueued (parts_of s (reverse K)) edt n) e queued))
    where
      untied : (b : Bool) (x y : Option ℕ) → b ≡ false → (if b then x else y) ≡ y
      untied true x y off = cc off
      untied false x y off = refl

  pub still_ready : Ready t K c.view edt
  still_ready = record { fits = fits; set = set; unstarted = unstarted_now; awake = none_of (awaited meaning t (reverse K) edt) never }
    where
      none_of : (o : Option ℕ) → ((p : ℕ) → o ≡ Some p → ⊥) → o ≡ None
      none_of None off = refl
      none_of (Some p) off = absurd (off p refl)

sees_one : (t : OcrTerms) (v : OcrView) (edt : ℕ) → v.terms ≡ Some t → (K : List Entry) → Ready t K v edt → SeesReady meaning v edt
sees_one t v edt terms K ready = λ q is. subst (λ (u : OcrTerms). (J : List Entry) × Knows meaning u J v × IsSet meaning u (reverse J) edt × (is_started meaning u (reverse J) edt ≡ false) × (awaited meaning u (reverse J) edt ≡ None)) (same t q (sym terms ∙ is)) (
  K,
  record { run = ready.fits.run; log = ready.fits.log; facts = ready.fits.facts; fits = λ _. ready.fits },
  ready.set,
  ready.unstarted,
  ready.awake,
)
  where
    same : (t q : OcrTerms) → Some t ≡ Some q → t ≡ q
    same t q is = cc is

pub sees_fits : (t : OcrTerms) (v : OcrView) (edt : ℕ) → v.terms ≡ Some t → v.closed ≡ None → SeesReady meaning v edt → Sees meaning v
sees_fits t v edt terms going ready = λ q is off. let r = sees_ready q v edt is off ready in (r.0, r.1.fits)

pub ready_again : (t : OcrTerms) (edt d : ℕ) (first : Bool) (payloads : List ℕ) (old : OcrView) (c : OcrKnown) → KnowsThree t edt d first payloads c → is_within t.limit d ≡ true → old.terms ≡ Some t → old.closed ≡ None → SeesReady meaning old edt → Learns old c.view → Sees meaning c.view → SeesReady meaning c.view edt
ready_again t edt d first payloads old c k inside terms going ready learns sees =
    let before = sees_ready t old edt terms going ready in
    let now_terms : c.view.terms ≡ Some t = ap (λ (v : OcrView). v.terms) learns.view ∙ terms in
    let now = sees t now_terms (ap (λ (v : OcrView). v.closed) learns.view ∙ going) in
    let claimed = now.1.claims edt (one_claim edt c.view.claims k.three.taken.claims) in
    sees_one t c.view edt now_terms now.0
    (still_ready t edt d first payloads old c k inside (ap (λ (v : OcrView). v.parts) learns.view) before.0 before.1 now.0 now.1 claimed.set claimed.tied)
  where
    one_claim : (n : ℕ) (ns : List ℕ) → ns ≡ n ∷ [] → 1 ≤ times n ns
    one_claim n ns is = subst (λ (l : List ℕ). 1 ≤ times n l) (sym is) (rw (number_same n) (omega arith))
