-- What a worker knows of its EDT by its face.
use Rattle.std.proofs.Common.{◌≡◌, ◌≢◌, ℕ, ◌+◌, ◌≤◌, ◌==◌, true, false, not, nat_lt, List, [], ◌∷◌, ◌++◌, length, reverse, take, Option, Some, None, is_some, refl, ap, sym, ◌∙◌}
use Rattle.std.proofs.lemmas.List.Elements.{All-cons, All-nil}
use lib.ListN.{get_elem?}
use Rattle.ocr_base.proofs.Booleans.{same as number_same}
use Rattle.ocr_acquire.specs.declared.Mode.{Mode}
use Rattle.ocr_body_code.specs.declared.checked.Checked.{Checked}
use Rattle.ocr_edt.specs.declared.Edt.{Edt}
use Rattle.ocr_edt.specs.declared.Edt.TheVariants as phase
use Rattle.ocr_edt.specs.Phases.{Progress, next_of}
use Rattle.ocr_machine_history.specs.declared.entry.Entry.{Entry}
use Rattle.ocr_machine_history.specs.History.{History}
use Rattle.ocr_machine_parts.specs.declared.part.Core.{Core}
use Rattle.ocr_machine_parts.specs.declared.part.Part.{Part}
use Rattle.ocr_machine_parts.specs.declared.part.Part.TheVariants as part
use Rattle.ocr_machine_parts.specs.Calls.{plan_of}
use Rattle.ocr_machine_parts.specs.Effects.{settled}
use Rattle.ocr_machine_parts.specs.Progress.{made_ready, next_on, ready_at, with_phase}
use Rattle.ocr_machine_parts.specs.Kinds.{core_progress, is_acquiring_edt, next_in, on_core, progress_in}
use Rattle.ocr_machine_parts.specs.Parts.{parts_of}
use Rattle.ocr_machine_parts.specs.Taken.{is_within}
use Rattle.ocr_machine_laws.specs.Marks.{mark_in}
use Rattle.ocr_machine_laws.specs.Waits.{awaits_in}
use Rattle.ocr_slots.specs.declared.Slot.{Slot}
use Rattle.ocr_machine_parts.specs.Readiness.{plan_from}
use Rattle.ocr_machine_laws.specs.Permanence.{is_own}
use Rattle.ocr_machine_laws.proofs.Plain.{now_next}
use Rattle.ocr_worker_machine.specs.Clerks.{OcrTerms, OcrView, of_terms}
use Rattle.ocr_worker_machine.specs.Ocr.{meaning}
use Rattle.ocr_worker_machine.proofs.Runs.{run_is}
use Rattle.ocr_turns_rule.specs.Contract.{SameHand}
use Rattle.ocr_turns_rule.specs.Steps.{Sees}
use Rattle.ocr_turns_rule.specs.Sums.{as_some, entries, find, is_among}
use Rattle.ocr_worker_clerk.specs.Entry.{OcrKnown}
use Rattle.ocr_worker_clerk.specs.Work.{AtWork, CanRun, KeepsFaces, OcrTable, Took}
use Rattle.ocr_worker_clerk.proofs.Hands.{apart_is}
use Rattle.ocr_worker_clerk.proofs.Seen.{core_apart, core_is}
use Rattle.ocr_worker_acquisition.proofs.Parked.{has_claim}
use Rattle.ocr_worker_acquisition.specs.Block.{HoldsCore, next_by}
use Rattle.ocr_worker_acquisition.specs.Rounds.{GaveFaces, HasFace, HoldsAwake, IsWanted, PlansNext, name_in}
use Rattle.ocr_worker_acquisition.specs.Acquisition.{KeepsFace, Learns}
use Rattle.ocr_worker_acquisition.proofs.Acts.{filled_known}
use Rattle.ocr_worker_acquisition.proofs.Awake.{IsReadyIn, early, edt_face, other_object, unstarted_is, none_own}
use Rattle.ocr_worker_clerk.proofs.Puts.{edt_same, item_same}
use Rattle.ocr_worker_acquisition.proofs.Holds.{KeepsCore, face_other, holds_given, one_of, shown_taken}
use Rattle.ocr_worker_acquisition.proofs.Takes.{learnt_taken, taken_on_still}

-- THE FACE that was taken behind the core
pub faced : (t : OcrTerms) (edt : ℕ) (old new : OcrKnown) → HoldsAwake t edt old → Took old new (edt ∷ []) → (J : List Entry) → IsReadyIn t J new.view edt → HasFace t edt new
faced t edt old new from took J ready =
    let holds = from.holds in
    let one = one_of edt took.parts took.places_are in
    let kept : new.view.parts ≡ (t.limit + edt, part.Core holds.core) ∷ (edt, one.0) ∷ [] = ap (λ (v : OcrView). v.parts) took.view ∙ (λ i. holds.kept i ++ one.1 i) in
    let hand : new.parts ≡ (t.limit + edt, Some (part.Core holds.core)) ∷ (edt, Some one.0) ∷ [] = took.hand ∙ (λ i. holds.hand i ++ as_some (one.1 i)) in
    let face = edt_face t J new.view edt ready.fits ready.set 1 one.0 holds.taken.number (ap (λ (l : List (ℕ × Part)). get_elem? l 1) kept) in
    record {
      taken = taken_on_still t edt old new _ holds.taken took.view;
      unstarted = ap (λ (v : OcrView). is_among (λ e. is_own e edt) (entries v.log)) took.view ∙ holds.unstarted;
      unbegun = λ j l at. holds.unbegun j l (ap (λ (v : OcrView). get_elem? v.joined j) (sym took.view) ∙ at);
      core = holds.core;
      slots = face.0;
      awake = from.awake;
      kept = kept ∙ ap (λ (x : Part). (t.limit + edt, part.Core holds.core) ∷ (edt, x) ∷ []) face.1;
      hand = hand ∙ ap (λ (x : Part). (t.limit + edt, Some (part.Core holds.core)) ∷ (edt, Some x) ∷ []) face.1;
    }

-- both stand at hand
pub both_there : (limit edt : ℕ) (x y : Part) → is_within limit edt ≡ true
    → (find (limit + edt) ((limit + edt, Some x) ∷ (edt, Some y) ∷ []) ≡ Some (Some x)) × (find edt ((limit + edt, Some x) ∷ (edt, Some y) ∷ []) ≡ Some (Some y))
both_there limit edt x y within =
    let off : (edt == (limit + edt)) ≡ false = apart_is edt (limit + edt) (λ is. core_apart limit edt edt within within (sym is)) in
    (rw (number_same (limit + edt)) refl, rw (off, number_same edt) refl)

pub core_there : (t : OcrTerms) (edt : ℕ) (c : OcrKnown) → (m : HasFace t edt c) → find (t.limit + edt) c.parts ≡ Some (Some (part.Core m.core))
core_there t edt c m = ap (find (t.limit + edt)) m.hand ∙ (both_there t.limit edt (part.Core m.core) (part.Edt m.slots) m.taken.number).0

pub face_there : (t : OcrTerms) (edt : ℕ) (c : OcrKnown) → (m : HasFace t edt c) → find edt c.parts ≡ Some (Some (part.Edt m.slots))
face_there t edt c m = ap (find edt) m.hand ∙ (both_there t.limit edt (part.Core m.core) (part.Edt m.slots) m.taken.number).1

abbrev core_on : Part → Core → Core
core_on (part.Core c) d = c
core_on other d = d

pub core_found_is : (t : OcrTerms) (edt : ℕ) (c : OcrKnown) → (m : HasFace t edt c) → (x : Part) (core : Core) → find (t.limit + edt) c.parts ≡ Some (Some x) → x ≡ part.Core core → core ≡ m.core
core_found_is t edt c m x core found is = ap (λ (y : Part). core_on y core) (sym is ∙ item_same x (part.Core m.core) (sym found ∙ core_there t edt c m))

pub face_found_is : (t : OcrTerms) (edt : ℕ) (c : OcrKnown) → (m : HasFace t edt c) → (x : Part) (slots : List Slot) → find edt c.parts ≡ Some (Some x) → x ≡ part.Edt slots → slots ≡ m.slots
face_found_is t edt c m x slots found is = edt_same slots m.slots (sym is ∙ item_same x (part.Edt m.slots) (sym found ∙ face_there t edt c m))

pub keeps_face : (t : OcrTerms) (edt count : ℕ) (c : OcrKnown) → (m : HasFace t edt c) → length m.slots ≡ count → KeepsFace c.view edt count
keeps_face t edt count c m many = record { place = 1; slots = m.slots; kept = ap (λ (l : List (ℕ × Part)). get_elem? l 1) m.kept; count_is = many }

-- ITS PAYLOADS
pub face_learnt : (t : OcrTerms) (edt : ℕ) (old new : OcrKnown) → HasFace t edt old → SameHand old new → Learns old.view new.view → HasFace t edt new
face_learnt t edt old new m hand learns = record {
  taken = learnt_taken t edt old new m.taken learns;
  unstarted = ap (λ (v : OcrView). is_among (λ e. is_own e edt) (entries v.log)) learns.view ∙ m.unstarted;
  unbegun = λ j l at. m.unbegun j l (ap (λ (v : OcrView). get_elem? v.joined j) (sym learns.view) ∙ at);
  core = m.core;
  slots = m.slots;
  awake = m.awake;
  kept = ap (λ (v : OcrView). v.parts) learns.view ∙ m.kept;
  hand = hand.1 ∙ m.hand;
}

pub learnt_slots : (t : OcrTerms) (edt : ℕ) (old new : OcrKnown) (m : HasFace t edt old) (hand : SameHand old new) (learns : Learns old.view new.view) → length m.slots ≡ length (face_learnt t edt old new m hand learns).slots
unfolding face_learnt
learnt_slots t edt old new m hand learns = refl

-- THE BLOCK that comes next with them
step_next : (members : List (ℕ × Mode)) (e : Edt) (p : Progress) → progress_in e ≡ Some p → next_in (progress_in (made_ready members e)) ≡ next_of p
step_next members (phase.Acquiring s) p is = ap next_in is
step_next members (phase.Waiting s) p is = ap next_in is
step_next members other p is = cc is

same_plan : (s : _) (past : History) (edt : ℕ) (members : List (ℕ × Mode)) (core : Core) → (parts_of s past).core edt ≡ settled (part.Core core) → plan_of s past edt ≡ members
    → next_on (ready_at edt (plan_of s past edt) (parts_of s past)) edt ≡ next_in (progress_in (made_ready members core.edt))
same_plan s past edt members core is planned = rw (number_same edt) (λ i. next_in (core_progress (on_core (is i) (with_phase (made_ready (planned i))))))

name_some : (o : Option (ℕ × Mode)) (d : ℕ) → Some d ≡ name_in o → (m : Mode) × (o ≡ Some (d, m))
name_some None d is = cc is
name_some (Some x) d is = let same : x.0 ≡ d = cc is in (x.1, ap (λ (n : ℕ). Some (n, x.1)) same)

pub none_is : {A : Type 0} (o : Option A) → ((x : A) → o ≡ Some x → ⊥) → o ≡ None
none_is None never = refl
none_is (Some x) never = absurd (never x refl)

pub name_none : (o : Option (ℕ × Mode)) → None ≡ name_in o → o ≡ None
name_none None is = refl
name_none (Some x) is = cc is

pub plan_wanted : (table : OcrTable) (program : Checked) (c : OcrKnown) (edt d : ℕ) (payloads : List ℕ) → AtWork table program c → Sees meaning c.view → PlansNext table.1 edt payloads (Some d) c → IsWanted table.1 edt d c
plan_wanted table program c edt d payloads work sees plans =
    let t = table.1 in let k = plans.knows in let face = k.face in
    let named = name_some (next_by face.core face.slots payloads) d plans.next_is in let m = named.0 in
    let shown = shown_taken table program c edt work face.taken sees in
    let J = shown.history in let s = of_terms t in let past = reverse J in
    let run = run_is t.setting.value t.limit J shown.fits.run in
    let filled = filled_known t c.view edt 1 face.slots payloads face.taken.number (ap (λ (l : List (ℕ × Part)). get_elem? l 1) face.kept) k.count k.facts J shown.fits in
    let core = core_is t J c.view 0 edt face.core shown.fits face.taken.number (ap (λ (l : List (ℕ × Part)). get_elem? l 0) face.kept) in
    let now = now_next s past edt d m run filled.all_set (same_plan s past edt (plan_from face.slots payloads) face.core core filled.planned ∙ named.1) in
    record {
      is_other = other_object t J c.view edt shown.fits shown.set d now.facts.there;
      next = record {
        core = face.core;
        rest = (edt, part.Edt face.slots) ∷ [];
        kept = face.kept;
        next = λ p is. (m, sym (step_next (plan_from face.slots payloads) face.core.edt p is) ∙ named.1);
      };
    }

-- GIVING IT BACK
pub gives_face : (t : OcrTerms) (edt : ℕ) (c : OcrKnown) → HasFace t edt c → KeepsFaces t edt (edt ∷ []) c
gives_face t edt c m =
    let good : ℕ → Type 0 = λ p. (p ≢ t.limit + edt) × (p ≤ t.limit + t.limit) in
    record {
      core = m.core;
      item = Some (part.Core m.core);
      faces = (edt, part.Edt m.slots) ∷ [];
      kept = m.kept;
      hand = m.hand;
      awake = m.awake;
      places_are = refl;
      others = All-cons good edt [] (face_other t.limit edt edt m.taken.number m.taken.number) (All-nil good);
    }

pub face_core : (t : OcrTerms) (edt : ℕ) (c : OcrKnown) → HasFace t edt c → KeepsCore t edt c
face_core t edt c m = record {
  taken = m.taken;
  unstarted = m.unstarted;
  unbegun = m.unbegun;
  core = m.core;
  kept = ap (λ (l : List (ℕ × Part)). take 1 l) m.kept;
  hand = ap (λ (l : List (ℕ × Option Part)). take 1 l) m.hand;
}

pub wanted_given : (t : OcrTerms) (edt d : ℕ) (old new : OcrKnown) → IsWanted t edt d old → GaveFaces old new → IsWanted t edt d new
wanted_given t edt d old new wanted gave = record {
  is_other = wanted.is_other;
  next = record {
    core = wanted.next.core;
    rest = [];
    kept = ap (λ (v : OcrView). v.parts) gave.view ∙ ap (λ (l : List (ℕ × Part)). take 1 l) wanted.next.kept;
    next = wanted.next.next;
  };
}

pub after_wants : (table : OcrTable) (program : Checked) (edt d : ℕ) (payloads : List ℕ) (known old new : OcrKnown) → AtWork table program known → Sees meaning known.view → PlansNext table.1 edt payloads (Some d) known → old ≡ known → new.table ≡ old.table
    → new.view ≡ record old.view { parts = take 1 old.view.parts } → new.parts ≡ take 1 old.parts → HoldsCore table.1 edt new × IsWanted table.1 edt d new
after_wants table program edt d payloads known old new work sees plans same table_is view hand =
    let t = table.1 in let m = plans.knows.face in
    let gave : GaveFaces known new = record {
      table = table_is ∙ ap (λ (c : OcrKnown). c.table) same;
      view = view ∙ ap (λ (c : OcrKnown). record c.view { parts = take 1 c.view.parts }) same;
      hand = hand ∙ ap (λ (c : OcrKnown). take 1 c.parts) same;
    } in (
      holds_given t edt known new (face_core t edt known m) (shown_taken table program known edt work m.taken sees) gave,
      wanted_given t edt d known new (plan_wanted table program known edt d payloads work sees plans) gave,
    )

-- WHERE NONE COMES NEXT it may start
now_acquiring : (e : Edt) (members : List (ℕ × Mode)) → nat_lt 1 (mark_in e).0 ≡ false → (mark_in e).1 ≡ false → awaits_in e ≡ None → is_acquiring_edt (made_ready members e) ≡ true
now_acquiring (phase.Filling i) members below found awake = refl
now_acquiring (phase.Acquiring s) members below found awake = refl
now_acquiring (phase.Waiting s) members below found awake = let lost : not (is_some (next_of s)) ≡ true = ap (λ (o : Option (ℕ × Mode)). not (is_some o)) awake in cc (found, lost)
now_acquiring (phase.Running s) members below found awake = cc below
now_acquiring (phase.Ended i) members below found awake = cc below

pub can_run : (table : OcrTable) (program : Checked) (edt : ℕ) (payloads : List ℕ) (c : OcrKnown) → AtWork table program c → Sees meaning c.view → PlansNext table.1 edt payloads None c → CanRun table.1 edt payloads c
can_run table program edt payloads c work sees plans =
    let t = table.1 in let k = plans.knows in let m = k.face in
    let shown = shown_taken table program c edt work m.taken sees in let J = shown.history in
    let off = unstarted_is t J c.view edt (shown.fits.claims edt (has_claim edt c.view.claims m.taken.claims)) (none_own c.view.log edt m.unstarted) m.unbegun in
    let stage = early t J c.view edt shown.fits shown.set 0 m.core m.taken.number (ap (λ (l : List (ℕ × Part)). get_elem? l 0) m.kept) off in
    record {
      taken = m.taken;
      core = m.core;
      slots = m.slots;
      kept = m.kept;
      hand = m.hand;
      unstarted = m.unstarted;
      count = k.count;
      facts = k.facts;
      acquiring = now_acquiring m.core.edt (plan_from m.slots payloads) stage.0 stage.1 m.awake;
      through = name_none (next_by m.core m.slots payloads) plans.next_is;
    }
