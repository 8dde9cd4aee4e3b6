-- A worker takes the face of its EDT and a block.
use Rattle.std.proofs.Common.{◌≡◌, ◌≢◌, ℕ, ◌+◌, ◌==◌, Bool, true, false, List, [], ◌∷◌, ◌++◌, length, Option, Some, None, refl, ap, sym, ◌∙◌, subst}
use Rattle.ocr_base.proofs.Booleans.{same as number_same}
use Rattle.ocr_worker_machine.specs.Clerks.{OcrTerms, OcrView}
use Rattle.ocr_worker_machine.specs.Ocr.{ends, meaning, starts}
use Rattle.ocr_acquire.specs.declared.Mode.{Mode}
use Rattle.ocr_edt.specs.declared.Edt.{Edt}
use Rattle.ocr_edt.specs.declared.Edt.TheVariants as phase
use Rattle.ocr_edt.specs.Phases.{Progress, next_of}
use Rattle.ocr_machine_parts.specs.declared.part.Core.{Core}
use Rattle.ocr_machine_parts.specs.Progress.{made_ready}
use Rattle.ocr_machine_parts.specs.Kinds.{next_in, progress_in}
use Rattle.ocr_machine_laws.specs.Waits.{awaits_in}
use Rattle.ocr_machine_parts.specs.Readiness.{plan_from}
use Rattle.ocr_turns_rule.specs.Words.{SeesReady}
use Rattle.ocr_machine_history.specs.declared.entry.Entry.{Entry}
use Rattle.ocr_machine_parts.specs.declared.part.Part.{Part}
use Rattle.ocr_machine_parts.specs.declared.part.Part.TheVariants as part
use Rattle.ocr_machine_laws.specs.Permanence.{is_own}
use Rattle.ocr_turns_rule.specs.Rule.{RunsIn}
use Rattle.ocr_turns_rule.specs.Sums.{as_some, entries, find, is_among, keys}
use Rattle.ocr_turns_rule.specs.Contract.{SameHand}
use Rattle.ocr_slots.specs.declared.Slot.{Slot}
use Rattle.ocr_machine_parts.specs.Taken.{is_within}
use Rattle.std.specs.Option.{IfNone, IfSome}
use mathlib.Core.Option.{some}
use lib.ListN.{get_elem?}
use Rattle.ocr_worker_clerk.proofs.Hands.{apart_is}
use Rattle.ocr_worker_clerk.proofs.Seen.{core_apart}
use Rattle.ocr_worker_acquisition.specs.Acquisition.{KeepsFace, Learns}
use Rattle.ocr_worker_clerk.proofs.Puts.{core_same, edt_same, first_same, item_same}
use Rattle.ocr_worker_acquisition.proofs.States.{face_at, kept_slots, sees_ready, stands_now}
use Rattle.ocr_worker_clerk.specs.Entry.{OcrKnown}
use Rattle.ocr_worker_clerk.specs.Work.{HasTakenOn, KnowsPayloads, Took}
use Rattle.ocr_worker_acquisition.specs.Block.{CanAct, HasThree, HoldsCore, IsOther, KnowsThree, MayAct, MeetsOther, StandsAtNext, WantsNext, WantsOther, pair_of}
use Rattle.ocr_worker_acquisition.specs.declared.act.Act.{Act}

-- two parts with these numbers
pub two_items : (p q : ℕ) (ps : List (ℕ × Part)) → keys ps ≡ p ∷ q ∷ [] → (x : Part) × (y : Part) × (ps ≡ (p, x) ∷ (q, y) ∷ [])
two_items p q [] is = cc is
two_items p q (a ∷ []) is = cc is
two_items p q (a ∷ b ∷ []) is =
    let h : a.0 ≡ p = cc is in let k : b.0 ≡ q = cc is in
    (a.1, b.1, (λ i. (h i, a.1) ∷ (k i, b.1) ∷ []))
two_items p q (a ∷ b ∷ c ∷ rest) is = cc is

pub taken_on_still : (t : OcrTerms) (edt : ℕ) (old new : OcrKnown) (ps : List (ℕ × Part)) → HasTakenOn t edt old → new.view ≡ record old.view { parts = ps } → HasTakenOn t edt new
taken_on_still t edt old new ps has is = record {
  number = has.number;
  claims = ap (λ (v : OcrView). v.claims) is ∙ has.claims;
  drawn = ap (λ (v : OcrView). v.drawn) is ∙ has.drawn;
  owes = record {
    unput = ap (λ (v : OcrView). v.debts.unput) is ∙ has.owes.unput;
    put = ap (λ (v : OcrView). v.debts.put) is ∙ has.owes.put;
    made = ap (λ (v : OcrView). v.debts.made) is ∙ has.owes.made;
    resumes = ap (λ (v : OcrView). v.debts.resumes) is ∙ has.owes.resumes;
  };
  only = λ u runs. has.only u (subst (λ (l : List (ℕ × Entry)). RunsIn starts ends l u) (ap (λ (v : OcrView). v.log) is) runs);
}

pub learnt_taken : (t : OcrTerms) (edt : ℕ) (old new : OcrKnown) → HasTakenOn t edt old → Learns old.view new.view → HasTakenOn t edt new
learnt_taken t edt old new has learns = record {
  number = has.number;
  claims = ap (λ (v : OcrView). v.claims) learns.view ∙ has.claims;
  drawn = ap (λ (v : OcrView). v.drawn) learns.view ∙ has.drawn;
  owes = record {
    unput = ap (λ (v : OcrView). v.debts.unput) learns.view ∙ has.owes.unput;
    put = ap (λ (v : OcrView). v.debts.put) learns.view ∙ has.owes.put;
    made = ap (λ (v : OcrView). v.debts.made) learns.view ∙ has.owes.made;
    resumes = ap (λ (v : OcrView). v.debts.resumes) learns.view ∙ has.owes.resumes;
  };
  only = λ u runs. has.only u (subst (λ (l : List (ℕ × Entry)). RunsIn starts ends l u) (ap (λ (v : OcrView). v.log) learns.view) runs);
}

pub took_two : (t : OcrTerms) (edt d : ℕ) (first : Bool) (old new : OcrKnown) → HoldsCore t edt old → Took old new (keys (pair_of first edt d part.Vacant part.Vacant)) → HasThree t edt d first new
took_two t edt d true old new holds took =
    let r = two_items d edt took.parts took.places_are in record {
      taken = taken_on_still t edt old new (old.view.parts ++ took.parts) holds.taken took.view;
      unstarted = ap (λ (v : OcrView). is_among (λ e. is_own e edt) (entries v.log)) took.view ∙ holds.unstarted;
      core = holds.core;
      face = r.1;
      other = r.0;
      kept = ap (λ (v : OcrView). v.parts) took.view ∙ ((λ i. holds.kept i ++ took.parts) ∙ ap (λ (l : List (ℕ × Part)). (t.limit + edt, part.Core holds.core) ∷ l) r.2);
      hand = took.hand ∙ ((λ i. holds.hand i ++ as_some took.parts) ∙ ap (λ (l : List (ℕ × Part)). (t.limit + edt, Some (part.Core holds.core)) ∷ as_some l) r.2);
    }
took_two t edt d false old new holds took =
    let r = two_items edt d took.parts took.places_are in record {
      taken = taken_on_still t edt old new (old.view.parts ++ took.parts) holds.taken took.view;
      unstarted = ap (λ (v : OcrView). is_among (λ e. is_own e edt) (entries v.log)) took.view ∙ holds.unstarted;
      core = holds.core;
      face = r.0;
      other = r.1;
      kept = ap (λ (v : OcrView). v.parts) took.view ∙ ((λ i. holds.kept i ++ took.parts) ∙ ap (λ (l : List (ℕ × Part)). (t.limit + edt, part.Core holds.core) ∷ l) r.2);
      hand = took.hand ∙ ((λ i. holds.hand i ++ as_some took.parts) ∙ ap (λ (l : List (ℕ × Part)). (t.limit + edt, Some (part.Core holds.core)) ∷ as_some l) r.2);
    }

-- THE FACE that is kept besides a block
found_at : (b : Bool) (limit edt d : ℕ) (x : Part) (i : Option Part) (y z : Part) → is_within limit edt ≡ true → is_within limit d ≡ true → edt ≢ d → find edt ((limit + edt, i) ∷ as_some (pair_of b edt d y z)) ≡ Some (Some x) → x ≡ y
found_at true limit edt d x i y z wt wd off is =
    let a : (edt == (limit + edt)) ≡ false = apart_is edt (limit + edt) (λ e. core_apart limit edt edt wt wt (sym e)) in
    let b : (edt == d) ≡ false = apart_is edt d off in
    let here : find edt ((limit + edt, i) ∷ as_some (pair_of true edt d y z)) ≡ Some (Some y) = rw (a, b, number_same edt) refl in
    item_same x y (sym is ∙ here)
found_at false limit edt d x i y z wt wd off is =
    let a : (edt == (limit + edt)) ≡ false = apart_is edt (limit + edt) (λ e. core_apart limit edt edt wt wt (sym e)) in
    let here : find edt ((limit + edt, i) ∷ as_some (pair_of false edt d y z)) ≡ Some (Some y) = rw (a, number_same edt) refl in
    item_same x y (sym is ∙ here)

pub three_slots : (t : OcrTerms) (edt d : ℕ) (first : Bool) (c : OcrKnown) (m : HasThree t edt d first c) → edt ≢ d → is_within t.limit d ≡ true → c.view.terms ≡ Some t → c.view.closed ≡ None → SeesReady meaning c.view edt → (x : Part) → find edt c.parts ≡ Some (Some x) → (slots : List Slot) × (x ≡ part.Edt slots)
three_slots t edt d first c m off wd terms going ready x found =
    let r = sees_ready t c.view edt terms going ready in
    let at = face_at first (t.limit + edt) edt d (part.Core m.core) m.face m.other in
    let there = kept_slots t r.0 c.view at.0 edt m.face r.1.fits m.taken.number (ap (λ (l : List (ℕ × Part)). get_elem? l at.0) m.kept ∙ at.1) r.1.set in
    (there.0, found_at first t.limit edt d x (Some (part.Core m.core)) m.face m.other m.taken.number wd off (ap (find edt) (sym m.hand) ∙ found) ∙ there.1)

module _ (t : OcrTerms) (edt d : ℕ) (first : Bool) (c : OcrKnown) (m : HasThree t edt d first c) (off : edt ≢ d) (wd : is_within t.limit d ≡ true) (x : Part) (slots : List Slot) (count : ℕ) (found : find edt c.parts ≡ Some (Some x)) (is_face : x ≡ part.Edt slots) (many : count ≡ length slots) where
  its_face : m.face ≡ part.Edt slots
  its_face = sym (found_at first t.limit edt d x (Some (part.Core m.core)) m.face m.other m.taken.number wd off (ap (find edt) (sym m.hand) ∙ found)) ∙ is_face

  pub keeps_three : KeepsFace c.view edt count
  keeps_three = by_order first m.kept
    where
      by_order : (b : Bool) → c.view.parts ≡ (t.limit + edt, part.Core m.core) ∷ pair_of b edt d m.face m.other → KeepsFace c.view edt count
      by_order true is = record { place = 2; slots = slots; kept = ap (λ (l : List (ℕ × Part)). get_elem? l 2) is ∙ ap (λ (y : Part). some (edt, y)) its_face; count_is = sym many }
      by_order false is = record { place = 1; slots = slots; kept = ap (λ (l : List (ℕ × Part)). get_elem? l 1) is ∙ ap (λ (y : Part). some (edt, y)) its_face; count_is = sym many }

  pub knows_three : (new : OcrKnown) → (payloads : List ℕ) → SameHand c new → Learns c.view new.view → length payloads ≡ count → KnowsPayloads new.view edt payloads → KnowsThree t edt d first payloads new
  knows_three new payloads hand learns read knows = record {
    three = record {
      taken = learnt_taken t edt c new m.taken learns;
      unstarted = ap (λ (v : OcrView). is_among (λ e. is_own e edt) (entries v.log)) learns.view ∙ m.unstarted;
      core = m.core;
      face = m.face;
      other = m.other;
      kept = ap (λ (v : OcrView). v.parts) learns.view ∙ m.kept;
      hand = hand.1 ∙ m.hand;
    };
    slots = slots;
    face_is = its_face;
    count = read ∙ many;
    facts = knows;
  }

-- WHO WAITS waits for the block that comes next
awake_by : (e : Edt) (members : List (ℕ × Mode)) (d : ℕ) → ((p : Progress) → progress_in e ≡ Some p → (m : Mode) × (next_of p ≡ Some (d, m))) → ((m : Mode) → next_in (progress_in (made_ready members e)) ≢ Some (d, m)) → awaits_in e ≡ None
awake_by (phase.Filling i) members d wants other = refl
awake_by (phase.Acquiring s) members d wants other = refl
awake_by (phase.Waiting s) members d wants other = let w = wants s refl in absurd (other w.0 w.1)
awake_by (phase.Running s) members d wants other = refl
awake_by (phase.Ended i) members d wants other = refl

-- THE THREE PARTS stand at hand
pub three_there : (b : Bool) (limit edt d : ℕ) (i y z : Part) → is_within limit edt ≡ true → is_within limit d ≡ true → edt ≢ d
    → (find (limit + edt) ((limit + edt, Some i) ∷ as_some (pair_of b edt d y z)) ≡ Some (Some i)) × (find edt ((limit + edt, Some i) ∷ as_some (pair_of b edt d y z)) ≡ Some (Some y)) × (find d ((limit + edt, Some i) ∷ as_some (pair_of b edt d y z)) ≡ Some (Some z))
three_there true limit edt d i y z wt wd off =
    let a : (edt == (limit + edt)) ≡ false = apart_is edt (limit + edt) (λ e. core_apart limit edt edt wt wt (sym e)) in
    let b : (edt == d) ≡ false = apart_is edt d off in
    let e : (d == (limit + edt)) ≡ false = apart_is d (limit + edt) (λ e. core_apart limit edt d wt wd (sym e)) in
    (rw (number_same (limit + edt)) refl, rw (a, b, number_same edt) refl, rw (e, number_same d) refl)
three_there false limit edt d i y z wt wd off =
    let a : (edt == (limit + edt)) ≡ false = apart_is edt (limit + edt) (λ e. core_apart limit edt edt wt wt (sym e)) in
    let b : (d == edt) ≡ false = apart_is d edt (λ e. off (sym e)) in
    let e : (d == (limit + edt)) ≡ false = apart_is d (limit + edt) (λ e. core_apart limit edt d wt wd (sym e)) in
    (rw (number_same (limit + edt)) refl, rw (a, number_same edt) refl, rw (e, b, number_same d) refl)

module _ (t : OcrTerms) (edt d : ℕ) (first : Bool) (c : OcrKnown) (m : HasThree t edt d first c) (off : edt ≢ d) (wd : is_within t.limit d ≡ true) where
  there : (find (t.limit + edt) c.parts ≡ Some (Some (part.Core m.core))) × (find edt c.parts ≡ Some (Some m.face)) × (find d c.parts ≡ Some (Some m.other))
  there =
      let r = three_there first t.limit edt d (part.Core m.core) m.face m.other m.taken.number wd off in
      (ap (find (t.limit + edt)) m.hand ∙ r.0, ap (find edt) m.hand ∙ r.1, ap (find d) m.hand ∙ r.2)

  pub core_found : find (t.limit + edt) c.parts ≡ Some (Some (part.Core m.core))
  core_found = there.0

  pub face_found : find edt c.parts ≡ Some (Some m.face)
  face_found = there.1

  pub other_found : find d c.parts ≡ Some (Some m.other)
  other_found = there.2

pub item_is : (n : ℕ) (hands : List (ℕ × Option Part)) (x y : Part) → find n hands ≡ Some (Some x) → find n hands ≡ Some (Some y) → x ≡ y
item_is n hands x y p q = item_same x y (sym p ∙ q)

module _ (t : OcrTerms) (edt d : ℕ) (first : Bool) (payloads : List ℕ) (c : OcrKnown) (k : KnowsThree t edt d first payloads c) (off : edt ≢ d) (wd : is_within t.limit d ≡ true) (x y z : Part) (fx : find (t.limit + edt) c.parts ≡ Some (Some x)) (fy : find edt c.parts ≡ Some (Some y))
    (fz : find d c.parts ≡ Some (Some z)) where
  its_core : x ≡ part.Core k.three.core
  its_core = item_is (t.limit + edt) c.parts x (part.Core k.three.core) fx (core_found t edt d first c k.three off wd)

  the_face : y ≡ k.three.face
  the_face = item_is edt c.parts y k.three.face fy (face_found t edt d first c k.three off wd)

  the_other : z ≡ k.three.other
  the_other = item_is d c.parts z k.three.other fz (other_found t edt d first c k.three off wd)

  -- what the parts at hand tell is told by those that are kept
  pub can_act : (o : Option Act) → IfSome o (λ a. MayAct x y z edt d payloads a) → IfSome o (λ a. CanAct t edt d first payloads a c)
  can_act None may = tt
  can_act (Some a) may = record { knows = k; may = subst (λ (l : Part × Part × Part). MayAct l.0 l.1 l.2 edt d payloads a) (λ i. (its_core i, the_face i, the_other i)) may }

  pub stands_at : c.view.terms ≡ Some t → c.view.closed ≡ None → SeesReady meaning c.view edt → StandsAtNext x y z edt d payloads
  stands_at terms going ready =
      let r = sees_ready t c.view edt terms going ready in
      subst (λ (l : Part × Part × Part). StandsAtNext l.0 l.1 l.2 edt d payloads) (λ i. (sym its_core i, sym the_face i, sym the_other i)) (stands_now t edt d first payloads c k wd r.0 r.1)

  pub wants_other : WantsNext t edt d c → (o : Option Act) → IfNone o (MeetsOther x y d payloads) → IfNone o (WantsOther t edt d first payloads c)
  wants_other wants (Some a) meets = tt
  wants_other wants None meets =
      let core = core_same meets.item k.three.core (sym meets.core_is ∙ its_core) in
      let slots = edt_same meets.slots k.slots (sym meets.face_is ∙ (the_face ∙ k.face_is)) in
      let first = first_same (t.limit + edt) (t.limit + edt) wants.core k.three.core _ _ (sym wants.kept ∙ k.three.kept) in
      let other : IsOther k.three.core k.slots payloads d = subst (λ (l : Core × List Slot). IsOther l.0 l.1 payloads d) (λ i. (core i, slots i)) meets.other in
      record {
        knows = k;
        other = other;
        awake = awake_by k.three.core.edt (plan_from k.slots payloads) d (subst (λ (q : Core). (p : Progress) → progress_in q.edt ≡ Some p → (m : Mode) × (next_of p ≡ Some (d, m))) first wants.next) other;
      }
