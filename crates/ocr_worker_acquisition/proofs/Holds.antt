-- What a worker that took the core of its EDT keeps, round after round.
use Rattle.std.proofs.Common.{◌≡◌, ◌≢◌, ℕ, zero, suc, ◌+◌, ◌≤◌, Bool, true, false, List, [], ◌∷◌, ◌++◌, reverse, take, Option, Some, None, is_some, refl, ap, sym, ◌∙◌, subst, arith}
use Rattle.std.proofs.lemmas.List.{append_assoc}
use Rattle.std.specs.List.{All}
use Rattle.std.specs.Option.{option_or}
use Rattle.std.proofs.lemmas.List.Elements.{All-cons, All-nil}
use mathlib.Core.Option.{some, some-injective, some-ne-none}
use lib.ListN.{get_elem?}
use Rattle.ocr_base.proofs.Booleans.{same as number_same}
use Rattle.ocr_acquire.specs.declared.Mode.{Mode}
use Rattle.ocr_acquire.specs.Mode.{mode_in}
use Rattle.ocr_body_code.specs.declared.checked.Checked.{Checked}
use Rattle.ocr_edt.specs.declared.Edt.{Edt}
use Rattle.ocr_edt.specs.declared.Edt.TheVariants as phase
use Rattle.ocr_edt.specs.Phases.{Progress, next_of}
use Rattle.ocr_machine_history.specs.declared.entry.Entry.{Entry}
use Rattle.ocr_machine_history.specs.declared.entry.Entry.TheVariants.{Wait}
use Rattle.ocr_machine_parts.specs.declared.part.Core.{Core}
use Rattle.ocr_machine_parts.specs.declared.part.Part.{Part}
use Rattle.ocr_machine_parts.specs.declared.part.Part.TheVariants as part
use Rattle.ocr_machine_parts.specs.Kinds.{next_in, progress_in}
use Rattle.ocr_machine_parts.specs.Taken.{as_face, is_within}
use Rattle.ocr_machine_laws.specs.Waits.{awaits_in, queue_on}
use Rattle.ocr_machine_laws.specs.Permanence.{is_own}
use Rattle.ocr_worker_machine.specs.Clerks.{OcrTerms, OcrView}
use Rattle.ocr_worker_machine.specs.Ocr.{meaning, starts}
use Rattle.ocr_turns_rule.specs.Counts.{IsSet}
use Rattle.ocr_turns_rule.specs.Rule.{Fits}
use Rattle.ocr_turns_rule.specs.Steps.{Sees, SeesBoth}
use Rattle.ocr_turns_rule.specs.Sums.{as_some, entries, find, is_among, keys}
use Rattle.ocr_turns_rule.specs.Words.{SeesReady}
use Rattle.ocr_worker_clerk.specs.Entry.{OcrKnown}
use Rattle.ocr_worker_clerk.specs.Work.{AtWork, HasTakenOn, KeepsFaces, OcrTable, Stays, Took}
use Rattle.ocr_worker_clerk.proofs.Hands.{took_more}
use Rattle.ocr_worker_clerk.proofs.Seen.{core_apart}
use Rattle.ocr_worker_acquisition.proofs.Parked.{has_claim}
use Rattle.ocr_worker_acquisition.proofs.Unstarted.{unstarted_log}
use Rattle.ocr_worker_acquisition.specs.Block.{HasThree, HoldsCore, IsUnbegun, WantsNext, WantsOther, pair_of}
use Rattle.ocr_worker_acquisition.specs.Rounds.{GaveFaces, HasWaited, IsWanted, IsWantedIf, name_in, next_block, two_places}
use Rattle.ocr_worker_acquisition.specs.Acquisition.{Learns}
use Rattle.ocr_worker_acquisition.proofs.Awake.{IsReadyIn, IsUnqueued, early, edt_core, next_other, none_begun, none_own, ready_in, sees_ready, unqueued_by}
use Rattle.ocr_worker_acquisition.proofs.Takes.{taken_on_still, took_two}
use Rattle.ocr_worker_machine.proofs.Places.{within_is}

-- A HISTORY that fits the view, in which the slots of the EDT are set
pub record Shown (t : OcrTerms) (v : OcrView) (edt : ℕ) : Type 0 where
  pub history : List Entry
  pub fits : Fits meaning t history v
  pub set : IsSet meaning t (reverse history) edt

pub shown_ready : (table : OcrTable) (program : Checked) (c : OcrKnown) (edt : ℕ) → AtWork table program c → SeesReady meaning c.view edt → Shown table.1 c.view edt
shown_ready table program c edt work ready =
    let r = ready table.1 work.of_table.1 in
    record { history = r.0; fits = r.1.fits work.is_open; set = r.2 }

pub shown_taken : (table : OcrTable) (program : Checked) (c : OcrKnown) (edt : ℕ) → AtWork table program c → HasTakenOn table.1 edt c → Sees meaning c.view → Shown table.1 c.view edt
shown_taken table program c edt work taken sees =
    let r = sees table.1 work.of_table.1 work.is_open in
    record { history = r.0; fits = r.1; set = (r.1.claims edt (has_claim edt c.view.claims taken.claims)).set }

pub sees_from : (table : OcrTable) (program : Checked) (c : OcrKnown) (edt : ℕ) → AtWork table program c → SeesReady meaning c.view edt → Sees meaning c.view
sees_from table program c edt work ready u is open_run = let r = ready u is in (r.0, r.1.fits open_run)

-- NOBODY QUEUES in what is kept
none_kept : (t : OcrTerms) (v : OcrView) (edt : ℕ) → v.parts ≡ [] → IsUnqueued t v edt
none_kept t v edt bare k g x within at = let none : get_elem? {A = ℕ × Part} [] k ≡ some (g, x) = ap (λ (l : List (ℕ × Part)). get_elem? l k) (sym bare) ∙ at in absurd (some-ne-none (g, x) (sym none))

pub core_kept : (t : OcrTerms) (v : OcrView) (edt : ℕ) (c : Core) → v.parts ≡ (t.limit + edt, part.Core c) ∷ [] → IsUnqueued t v edt
core_kept t v edt c kept k g x within at = by_place k (ap (λ (l : List (ℕ × Part)). get_elem? l k) (sym kept) ∙ at)
  where
    by_place : (k : ℕ) → get_elem? {A = ℕ × Part} ((t.limit + edt, part.Core c) ∷ []) k ≡ some (g, x) → is_some (mode_in edt (queue_on (as_face x))) ≡ false
    by_place zero at = ap (λ (p : ℕ × Part). is_some (mode_in edt (queue_on (as_face p.1)))) (sym (some-injective _ _ at))
    by_place (suc k) at = absurd (some-ne-none (g, x) (sym at))

-- TAKING a part
pub record CanTake (table : OcrTable) (program : Checked) (edt : ℕ) (c : OcrKnown) : Type 0 where
  pub work : AtWork table program c
  pub taken : HasTakenOn table.1 edt c
  pub none : is_among (λ e. starts e edt) (entries c.view.log) ≡ false
  pub unbegun : IsUnbegun c.view edt
  pub unqueued : IsUnqueued table.1 c.view edt

pub take_ready : (table : OcrTable) (program : Checked) (edt place : ℕ) (old new : OcrKnown) → CanTake table program edt old → AtWork table program new → Took old new (place ∷ []) → SeesBoth meaning old.view new.view → (J : List Entry) × IsReadyIn table.1 J new.view edt
take_ready table program edt place old new can work took both =
    let t = table.1 in
    let r = both t work.of_table.1 work.is_open in
    let ready = ready_in t r.0 old.view edt r.1 (r.1.claims edt (has_claim edt old.view.claims can.taken.claims)) can.none can.unbegun can.unqueued in
    (r.0, record { fits = r.2; set = ready.set; unstarted = ready.unstarted; awake = ready.awake })

pub can_again : (table : OcrTable) (program : Checked) (edt place : ℕ) (old new : OcrKnown) → CanTake table program edt old → AtWork table program new → Took old new (place ∷ []) → SeesBoth meaning old.view new.view → CanTake table program edt new
can_again table program edt place old new can work took both =
    let r = take_ready table program edt place old new can work took both in record {
      work = work;
      taken = taken_on_still table.1 edt old new _ can.taken took.view;
      none = ap (λ (v : OcrView). is_among (λ e. starts e edt) (entries v.log)) took.view ∙ can.none;
      unbegun = λ j l at. can.unbegun j l (ap (λ (v : OcrView). get_elem? v.joined j) (sym took.view) ∙ at);
      unqueued = unqueued_by table.1 r.0 new.view edt r.1.fits r.1.awake;
    }

pub core_can : (table : OcrTable) (program : Checked) (edt : ℕ) (c : OcrKnown) → AtWork table program c → HoldsCore table.1 edt c → CanTake table program edt c
core_can table program edt c work holds = record {
  work = work;
  taken = holds.taken;
  none = none_own c.view.log edt holds.unstarted;
  unbegun = holds.unbegun;
  unqueued = core_kept table.1 c.view edt holds.core holds.kept;
}

pub took_ready : (table : OcrTable) (program : Checked) (edt place : ℕ) (old new : OcrKnown) → CanTake table program edt old → AtWork table program new → Took old new (place ∷ []) → SeesBoth meaning old.view new.view → SeesReady meaning new.view edt
took_ready table program edt place old new can work took both =
    let r = take_ready table program edt place old new can work took both in
    sees_ready table.1 r.0 new.view edt work.of_table.1 r.1

-- THE PART that a clerk with empty hands took
pub record IsOne (place : ℕ) (c : OcrKnown) : Type 0 where
  pub item : Part
  pub kept : c.view.parts ≡ (place, item) ∷ []
  pub hand : c.parts ≡ (place, Some item) ∷ []

pub one_of : (place : ℕ) (ps : List (ℕ × Part)) → keys ps ≡ place ∷ [] → (x : Part) × (ps ≡ (place, x) ∷ [])
one_of place [] is = cc is
one_of place (p ∷ []) is = let first : p.0 ≡ place = cc is in (p.1, ap (λ (k : ℕ). (k, p.1) ∷ []) first)
one_of place (p ∷ (q ∷ rest)) is = cc is

pub took_one : (old new : OcrKnown) (place : ℕ) → old.view.parts ≡ [] → old.parts ≡ [] → Took old new (place ∷ []) → IsOne place new
took_one old new place bare empty took =
    let one = one_of place took.parts took.places_are in record {
      item = one.0;
      kept = ap (λ (v : OcrView). v.parts) took.view ∙ (ap (λ (l : List (ℕ × Part)). l ++ took.parts) bare ∙ one.1);
      hand = took.hand ∙ (ap (λ (l : List (ℕ × Option Part)). l ++ as_some took.parts) empty ∙ ap as_some one.1);
    }

-- the core, by a worker that claimed the EDT ready and keeps nothing
pub holds_first : (table : OcrTable) (program : Checked) (edt : ℕ) (old new : OcrKnown) → AtWork table program old → HasTakenOn table.1 edt old → old.view.parts ≡ [] → old.parts ≡ [] → SeesReady meaning old.view edt
    → AtWork table program new → Took old new ((table.1.limit + edt) ∷ []) → SeesBoth meaning old.view new.view → HoldsCore table.1 edt new
holds_first table program edt old new before taken bare empty ready work took both =
    let t = table.1 in let place = t.limit + edt in
    let was = ready t before.of_table.1 in
    let begun = none_begun t was.0 old.view edt (was.1.fits before.is_open) was.3 in
    let can : CanTake table program edt old = record { work = before; taken = taken; none = begun.0; unbegun = begun.1; unqueued = none_kept t old.view edt bare } in
    let later = can_again table program edt place old new can work took both in
    let now = take_ready table program edt place old new can work took both in
    let one = took_one old new place bare empty took in
    let at : get_elem? new.view.parts 0 ≡ some (place, one.item) = ap (λ (l : List (ℕ × Part)). get_elem? l 0) one.kept in
    let core = edt_core t now.0 new.view edt now.1.fits now.1.set 0 one.item taken.number at in
    let here : get_elem? new.view.parts 0 ≡ some (place, part.Core core.0) = at ∙ ap (λ (x : Part). some (place, x)) core.1 in
    record {
      taken = later.taken;
      unstarted = unstarted_log t new.view now.0 0 edt core.0 now.1.fits taken.number here (early t now.0 new.view edt now.1.fits now.1.set 0 core.0 taken.number here now.1.unstarted).0;
      unbegun = later.unbegun;
      core = core.0;
      kept = one.kept ∙ ap (λ (x : Part). (place, x) ∷ []) core.1;
      hand = one.hand ∙ ap (λ (x : Part). (place, Some x) ∷ []) core.1;
      next = λ d m next. next_other t now.0 new.view edt now.1.fits now.1.set 0 core.0 d m taken.number here next;
    }

-- TWO PARTS behind the core
pub took_both : (t : OcrTerms) (edt d : ℕ) (first : Bool) (old mid new : OcrKnown) (p q : ℕ) → HoldsCore t edt old → Took old mid (p ∷ []) → Took mid new (q ∷ []) → p ∷ q ∷ [] ≡ keys (pair_of first edt d part.Vacant part.Vacant) → HasThree t edt d first new
took_both t edt d first old mid new p q holds one two is = took_two t edt d first old new holds (subst (λ (l : List ℕ). Took old new l) is (took_more old mid new (p ∷ []) q one two))

-- WHAT IS WANTED stays so while parts come behind the core, and facts
pub wanted_took : (t : OcrTerms) (edt d : ℕ) (old new : OcrKnown) (places : List ℕ) → IsWanted t edt d old → Took old new places → IsWanted t edt d new
wanted_took t edt d old new places wanted took = record {
  is_other = wanted.is_other;
  next = record {
    core = wanted.next.core;
    rest = wanted.next.rest ++ took.parts;
    kept = ap (λ (v : OcrView). v.parts) took.view ∙ ap (λ (l : List (ℕ × Part)). l ++ took.parts) wanted.next.kept;
    next = wanted.next.next;
  };
}

pub wants_learnt : (t : OcrTerms) (edt d : ℕ) (old new : OcrKnown) → WantsNext t edt d old → Learns old.view new.view → WantsNext t edt d new
wants_learnt t edt d old new wants learns = record {
  core = wants.core;
  rest = wants.rest;
  kept = ap (λ (v : OcrView). v.parts) learns.view ∙ wants.kept;
  next = wants.next;
}

-- GIVING BACK all but the core
first_taken : {A : Type 0} (xs : List A) (y : A) → take 1 xs ≡ y ∷ [] → get_elem? xs 0 ≡ some y
first_taken [] y is = cc is
first_taken (x ∷ xs) y is = let same : x ≡ y = cc is in ap (λ z. some z) same

pub record KeepsCore (t : OcrTerms) (edt : ℕ) (c : OcrKnown) : Type 0 where
  pub taken : HasTakenOn t edt c
  pub unstarted : is_among (λ e. is_own e edt) (entries c.view.log) ≡ false
  pub unbegun : IsUnbegun c.view edt
  pub core : Core
  pub kept : take 1 c.view.parts ≡ (t.limit + edt, part.Core core) ∷ []
  pub hand : take 1 c.parts ≡ (t.limit + edt, Some (part.Core core)) ∷ []

pub holds_given : (t : OcrTerms) (edt : ℕ) (old new : OcrKnown) → KeepsCore t edt old → Shown t old.view edt → GaveFaces old new → HoldsCore t edt new
holds_given t edt old new keeps shown gave = record {
  taken = taken_on_still t edt old new _ keeps.taken gave.view;
  unstarted = ap (λ (v : OcrView). is_among (λ e. is_own e edt) (entries v.log)) gave.view ∙ keeps.unstarted;
  unbegun = λ j l at. keeps.unbegun j l (ap (λ (v : OcrView). get_elem? v.joined j) (sym gave.view) ∙ at);
  core = keeps.core;
  kept = ap (λ (v : OcrView). v.parts) gave.view ∙ keeps.kept;
  hand = gave.hand ∙ keeps.hand;
  next = λ d m next. next_other t shown.history old.view edt shown.fits shown.set 0 keeps.core d m keeps.taken.number (first_taken old.view.parts _ keeps.kept) next;
}

-- the places of two faces, behind the core
pub face_other : (limit edt g : ℕ) → is_within limit edt ≡ true → is_within limit g ≡ true → (g ≢ limit + edt) × (g ≤ limit + limit)
face_other limit edt g wt wg = (λ is. core_apart limit edt g wt wg (sym is), let b = (within_is limit g wg).1 in omega (arith, b))

pub list_two : (n m p q : ℕ) → (p ≢ n) × (p ≤ m) → (q ≢ n) × (q ≤ m) → All (λ k. (k ≢ n) × (k ≤ m)) (p ∷ q ∷ [])
list_two n m p q one two =
    let good : ℕ → Type 0 = λ k. (k ≢ n) × (k ≤ m) in
    All-cons good p (q ∷ []) one (All-cons good q [] two (All-nil good))

pub two_others : (limit edt d : ℕ) (first : Bool) → is_within limit edt ≡ true → is_within limit d ≡ true → All (λ p. (p ≢ limit + edt) × (p ≤ limit + limit)) (two_places first edt d)
two_others limit edt d true wt wd = list_two (limit + edt) (limit + limit) d edt (face_other limit edt d wt wd) (face_other limit edt edt wt wt)
two_others limit edt d false wt wd = list_two (limit + edt) (limit + limit) edt d (face_other limit edt edt wt wt) (face_other limit edt d wt wd)

-- BY ANOTHER BLOCK that comes next
pub other_faces : (t : OcrTerms) (edt d : ℕ) (first : Bool) (payloads : List ℕ) (c : OcrKnown) → is_within t.limit d ≡ true → WantsOther t edt d first payloads c → KeepsFaces t edt (two_places first edt d) c
other_faces t edt d first payloads c within other =
    let m = other.knows.three in record {
      core = m.core;
      item = Some (part.Core m.core);
      faces = pair_of first edt d m.face m.other;
      kept = m.kept;
      hand = m.hand;
      awake = other.awake;
      places_are = pair_keys first edt d m.face m.other;
      others = two_others t.limit edt d first m.taken.number within;
    }
  where
    pair_keys : (b : Bool) (t d : ℕ) (x y : Part) → keys (pair_of b t d x y) ≡ two_places b t d
    pair_keys true t d x y = refl
    pair_keys false t d x y = refl

pub other_core : (t : OcrTerms) (edt d : ℕ) (first : Bool) (payloads : List ℕ) (c : OcrKnown) → WantsOther t edt d first payloads c → IsUnbegun c.view edt → KeepsCore t edt c
other_core t edt d first payloads c other unbegun =
    let m = other.knows.three in record {
      taken = m.taken;
      unstarted = m.unstarted;
      unbegun = unbegun;
      core = m.core;
      kept = ap (λ (l : List (ℕ × Part)). take 1 l) m.kept;
      hand = ap (λ (l : List (ℕ × Option Part)). take 1 l) m.hand;
    }

-- LOGS
pub still_unbegun : (old new : OcrKnown) (edt : ℕ) → Stays old new → IsUnbegun old.view edt → IsUnbegun new.view edt
still_unbegun old new edt stays unbegun = λ j l at. unbegun j l (ap (λ (logs : List (List (ℕ × Entry))). get_elem? logs j) (sym stays.joined) ∙ at)

-- WAITING after others
pub waited_after : (a b c : OcrKnown) (edt : ℕ) → Stays a b → HasWaited b c edt → HasWaited a c edt
waited_after a b c edt stays waited = record {
  more = stays.log.0 ++ waited.more;
  number = waited.number;
  block = waited.block;
  log = waited.log ∙ (ap (λ (l : List (ℕ × Entry)). l ++ waited.more ++ (waited.number, Wait edt waited.block) ∷ []) stays.log.1 ∙ ap (λ (l : List (ℕ × Entry)). l ++ (waited.number, Wait edt waited.block) ∷ []) (append_assoc a.view.log stays.log.0 waited.more));
}

-- THE BLOCK of a round: the one that the core tells, else the one that is known to be wanted
step_is : (e : Edt) (p : Progress) → progress_in e ≡ Some p → next_in (progress_in e) ≡ next_of p
step_is e p is = ap next_in is

pub wanted_or : (t : OcrTerms) (edt d : ℕ) (wanted : Option ℕ) (c : OcrKnown) → (holds : HoldsCore t edt c) → IsWantedIf t edt wanted c → option_or (next_block (part.Core holds.core)) wanted ≡ Some d → IsWanted t edt d c
wanted_or t edt d wanted c holds known is = by_next (next_in (progress_in holds.core.edt)) refl is
  where
    by_wanted : (o : Option ℕ) → IsWantedIf t edt o c → o ≡ Some d → IsWanted t edt d c
    by_wanted None known is = cc is
    by_wanted (Some n) known is = let same : n ≡ d = cc is in subst (λ (k : ℕ). IsWanted t edt k c) same known

    by_next : (o : Option (ℕ × Mode)) → next_in (progress_in holds.core.edt) ≡ o → option_or (name_in o) wanted ≡ Some d → IsWanted t edt d c
    by_next None none is = by_wanted wanted known is
    by_next (Some x) next is =
        let same : x.0 ≡ d = cc is in
        let now : next_in (progress_in holds.core.edt) ≡ Some (d, x.1) = next ∙ ap (λ (k : ℕ). Some (k, x.1)) same in
        record {
          is_other = holds.next d x.1 now;
          next = record {
            core = holds.core;
            rest = [];
            kept = holds.kept;
            next = λ p at. (x.1, sym (step_is holds.core.edt p at) ∙ now);
          };
        }

pub awake_or : (e : Edt) (wanted : Option ℕ) → option_or (name_in (next_in (progress_in e))) wanted ≡ None → awaits_in e ≡ None
awake_or (phase.Waiting s) wanted is = by_next (next_of s) is
  where
    by_next : (o : Option (ℕ × Mode)) → option_or (name_in o) wanted ≡ None → o ≡ None
    by_next None is = refl
    by_next (Some x) is = cc is
awake_or other wanted is = refl

-- the core stands at hand
pub core_alone : (t : OcrTerms) (edt : ℕ) (c : OcrKnown) → (holds : HoldsCore t edt c) → find (t.limit + edt) c.parts ≡ Some (Some (part.Core holds.core))
core_alone t edt c holds = ap (find (t.limit + edt)) holds.hand ∙ here (t.limit + edt) (part.Core holds.core)
  where
    here : (n : ℕ) (x : Part) → find n ((n, Some x) ∷ []) ≡ Some (Some x)
    here n x = rw (number_same n) refl
