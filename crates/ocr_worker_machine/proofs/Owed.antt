-- The events that owed messages satisfy are there and have the slots, the scopes that they leave have
-- members, and no event was satisfied too often to be counted.
use Rattle.std.proofs.Common.{◌≡◌, ◌<◌, ℕ, zero, suc, Bool, true, false, ◌-◌, ◌^◌, ◌==◌, ◌||◌, ◌&&◌, if◌then◌else◌, List, [], ◌∷◌, reverse, refl, ap, sym, ◌∙◌, subst, arith}
use Rattle.std.specs.List.{Contains}
use Rattle.std.proofs.lemmas.Bool.{eqb-true, true_from_ne_false, cond-true}
use Rattle.std.proofs.lemmas.List.{length-reverse, reverse-reverse}
use mathlib.Core.Option.{some, some-injective, some-ne-none}
use lib.ListN.{get_elem?}
use Rattle.ocr_base.specs.Mail as post
use Rattle.ocr_machine_history.specs.declared.entry.Entry.{Entry}
use Rattle.ocr_guid.specs.declared.Code.{Code}
use Rattle.ocr_guid.specs.declared.Code.TheVariants as code
use Rattle.ocr_machine_history.specs.declared.entry.Entry.TheVariants.{Deliver}
use Rattle.ocr_machine_history.specs.declared.entry.Message.{Message}
use Rattle.ocr_machine_history.specs.declared.entry.What.{What}
use Rattle.ocr_machine_history.specs.declared.entry.What.TheVariants as what
use Rattle.ocr_machine_history.specs.History.{History}
use Rattle.ocr_machine_parts.specs.declared.part.Part.{Part}
use Rattle.ocr_machine_parts.specs.declared.part.Part.TheVariants as part
use Rattle.ocr_machine_parts.specs.Footprint.{is_brought_to, is_touched}
use Rattle.ocr_machine_parts.specs.Kinds.{counted_on}
use Rattle.ocr_machine_parts.specs.Legal.{IsRun}
use Rattle.ocr_machine_parts.specs.LegalOn.{HasMember, IsDeliverOn, IsSatisfiable, delivery_code}
use Rattle.ocr_machine_parts.specs.Messages.{delivered, pending, sends}
use Rattle.ocr_machine_parts.specs.Parts.{parts_of}
use Rattle.ocr_machine_parts.specs.Taken.{as_face, face_in, has, is_within, look, parts_in, place_of, seen}
use Rattle.ocr_machine_parts.proofs.Counted.{counted_law}
use Rattle.ocr_machine_parts.proofs.Within.{within_law}
use Rattle.ocr_turns_rule.specs.Rule.{FactsOf, Fits, mail}
use Rattle.ocr_turns_rule.proofs.Histories.{owed_pending}
use Rattle.ocr_worker_machine.specs.Clerks.{AreAtHand, DeliverLaw, HandCounted, HandMember, HandSatisfiable, KnowsCounted, KnowsMember, KnowsSatisfiable, LeaveLaw, OcrTerms, OcrView, OwesLeave, OwesSatisfaction, of_terms}
use Rattle.ocr_worker_machine.specs.Ocr.{meaning}
use Rattle.ocr_worker_machine.specs.declared.fact.Fact.{Fact}
use Rattle.ocr_machine_laws.proofs.Sent.{sent_law}
use Rattle.ocr_machine_laws.proofs.Members.{leaving_law}
use Rattle.ocr_worker_machine.proofs.Entered.{fitting_parts}
use Rattle.ocr_worker_machine.proofs.Runs.{run_is}

-- PENDING. What the table has is what the machine has
pub mail_is : (t : OcrTerms) (J : List Entry) → mail meaning t J ≡ pending (of_terms t) (reverse J)
mail_is t J = λ i. post.pending (λ (before : History) (e : Entry). sends e (parts_of (of_terms t) (reverse-reverse before i))) delivered (reverse J)

pub contained : {A : Type 0} (xs : List A) (j : ℕ) (x : A) → get_elem? xs j ≡ some x → Contains xs x
contained [] j x at = absurd (some-ne-none x (sym at))
contained (y ∷ ys) zero x at = (0, omega arith, some-injective y x at)
contained (y ∷ ys) (suc j) x at = let r = contained ys j x at in (suc r.0, (let l = r.1 in omega (arith, l)), r.2)

-- what a clerk owes is pending
pub owed_is : (t : OcrTerms) (v : OcrView) (J : List Entry) (k place index : ℕ) (x : What) → Fits meaning t J v → get_elem? v.owed k ≡ some (place, index, x) → Contains (pending (of_terms t) (reverse J)) (place, index, x)
owed_is t v J k place index x fits at =
    let there = owed_pending meaning t J v fits k place index x at in
    contained (pending (of_terms t) (reverse J)) there.0 (place, index, x) (ap (λ (l : List (ℕ × ℕ × What)). get_elem? l there.0) (sym (mail_is t J)) ∙ there.1)

-- SATISFIABLE
unsatisfiable : (slot : ℕ) (x : Part) → IsSatisfiable slot x → x ≡ part.Vacant → ⊥
unsatisfiable slot x is vacant = subst (IsSatisfiable slot) vacant is

pub knows_satisfiable : KnowsSatisfiable
knows_satisfiable t v J e slot payload owes fits =
    let s = of_terms t in let past = reverse J in
    let run : IsRun s past = run_is t.setting.value t.limit J fits.run in
    let pends = owed_is t v J owes.0 owes.1 owes.2 (what.Satisfy e slot payload) fits owes.3 in
    let sound = sent_law s past run (owes.1, owes.2, what.Satisfy e slot payload) pends in
    record {
      within = true_from_ne_false (is_within t.limit e) (λ off. unsatisfiable slot ((parts_of s past).face e) sound.1 ((within_law s past fits.limits run).faces e off));
      satisfiable = sound.1;
    }

-- AT HAND. A face at hand is the face after each history that fits
pub hand_face : (t : OcrTerms) (v : OcrView) (J : List Entry) (hand : List (ℕ × Part)) (g : ℕ) → Fits meaning t J v → AreAtHand t.limit hand v.parts → has hand g ≡ true → face_in t.limit hand g ≡ (if is_within t.limit g then (parts_of (of_terms t) (reverse J)).face g else part.Vacant)
hand_face t v J hand g fits at_hand here =
    let f = parts_of (of_terms t) (reverse J) in
    let kept = fitting_parts t J v fits g (at_hand.there g here) in
    let alike = at_hand.alike g here in
    let same : seen t.limit g (look hand g) ≡ place_of t.limit f g = alike ∙ sym kept in
    elim (is_within t.limit g) as (λ b. is_within t.limit g ≡ b → (if b then as_face (look hand g) else part.Vacant) ≡ (if b then f.face g else part.Vacant)) [
      | true ↦ λ on. rw on at same
      | false ↦ λ _. refl
    ] refl

absent : (ps : List (ℕ × Part)) (n : ℕ) → has ps n ≡ false → look ps n ≡ part.Vacant
absent [] n off = refl
absent (p ∷ rest) n off = elim (p.0 == n) as (λ b. (b || has rest n) ≡ false → (if b then p.1 else look rest n) ≡ part.Vacant) [ true ↦ λ wrong. cc wrong | false ↦ λ later. absent rest n later ] off

pub hand_satisfiable : HandSatisfiable
hand_satisfiable t v J hand e slot payload owes fits at_hand here =
    let can = knows_satisfiable t v J e slot payload owes fits in
    let same = hand_face t v J hand e fits at_hand here in
    let f = parts_of (of_terms t) (reverse J) in
    subst (IsSatisfiable slot) (sym (same ∙ cond-true (is_within t.limit e) (f.face e) part.Vacant can.within)) can.satisfiable

-- COUNTED
pub knows_counted : KnowsCounted
knows_counted t v J g fits =
    let told = counted_law (of_terms t) (reverse J) g in let few = fits.few in let same = length-reverse J in
    omega (arith, told, few, same)

pub hand_counted : HandCounted
hand_counted t v J hand g fits at_hand = elim (has hand g) as (λ b. has hand g ≡ b → counted_on (face_in t.limit hand g) < 2 ^ 64 - 1) [
  | true ↦ λ here.
      let f = parts_of (of_terms t) (reverse J) in
      let few = knows_counted t v J g fits in
      subst (λ (x : Part). counted_on x < 2 ^ 64 - 1) (sym (hand_face t v J hand g fits at_hand here)) (few_if (is_within t.limit g) (f.face g) few)
  | false ↦ λ off. subst (λ (x : Part). counted_on (if is_within t.limit g then as_face x else part.Vacant) < 2 ^ 64 - 1) (sym (absent hand g off)) (few_if (is_within t.limit g) part.Vacant (omega arith))
] refl
  where
    few_if : (b : Bool) (x : Part) → counted_on x < 2 ^ 64 - 1 → counted_on (if b then x else part.Vacant) < 2 ^ 64 - 1
    few_if true x few = few
    few_if false x few = omega arith

-- A LEAVE that is owed finds a member
memberless : (x : Part) → HasMember x → x ≡ part.Vacant → ⊥
memberless x is vacant = subst HasMember vacant is

pub knows_member : KnowsMember
knows_member t v J x owes fits =
    let s = of_terms t in let past = reverse J in
    let run : IsRun s past = run_is t.setting.value t.limit J fits.run in
    let pends = owed_is t v J owes.0 owes.1 owes.2 (what.Leave x) fits owes.3 in
    let member = leaving_law s past owes.1 owes.2 x run pends in
    record {
      within = true_from_ne_false (is_within t.limit x) (λ off. memberless ((parts_of s past).face x) member ((within_law s past fits.limits run).faces x off));
      member = member;
    }

pub hand_member : HandMember
hand_member t v J hand x owes fits at_hand here =
    let can = knows_member t v J x owes fits in
    let f = parts_of (of_terms t) (reverse J) in
    subst HasMember (sym (hand_face t v J hand x fits at_hand here ∙ cond-true (is_within t.limit x) (f.face x) part.Vacant can.within)) can.member

-- A DELIVERY names its event or its scope alone
off_core : (b : Bool) → (b && false) ≡ true → ⊥
off_core true is = cc is
off_core false is = cc is

touched : (limit : ℕ) (m : Message) (c : Code) (x : What) (e n : ℕ) → m.what ≡ x → is_brought_to x n ≡ (e == n) → is_touched limit (Deliver m c) n ≡ true → e ≡ n
touched limit m c x e n brings named = elim (is_within limit n) as (λ b. (if b then is_brought_to m.what n else is_within limit (n - limit) && false) ≡ true → e ≡ n) [
  | true ↦ λ is. eqb-true e n (sym named ∙ (sym (ap (λ (y : What). is_brought_to y n) brings) ∙ is))
  | false ↦ λ wrong. absurd (off_core (is_within limit (n - limit)) wrong)
]

pub no_facts : (P : Fact → Type 0) → FactsOf P []
no_facts P k f at = absurd (some-ne-none f (sym at))

pub deliver_law : DeliverLaw
deliver_law t v m e slot payload hand has_event =
    let at = has_event.owed.1 in
    let at_event = subst (λ (x : What). get_elem? v.owed has_event.owed.0 ≡ some (m.place, m.index, x)) has_event.brings at in
    let owes : OwesSatisfaction v e slot payload = (has_event.owed.0, m.place, m.index, at_event) in
    let satisfiable = hand_satisfiable t v has_event.fitting.0 hand e slot payload owes has_event.fitting.1 has_event.at_hand has_event.here in
    let c : Code = delivery_code (face_in t.limit hand e) payload in
    record {
      runnable = has_event.runnable;
      at_hand = has_event.at_hand;
      covers = λ n on. subst (λ (k : ℕ). has hand k ≡ true) (touched t.limit m c (what.Satisfy e slot payload) e n has_event.brings refl on) has_event.here;
      on_hand = subst (λ (x : What). IsDeliverOn (parts_in t.limit hand) x c) (sym has_event.brings) (satisfiable, refl);
      plans = λ J open_run fits waking. absurd waking;
      set = λ J open_run fits. tt;
      says = λ J open_run fits. owed_is t v J has_event.owed.0 m.place m.index m.what fits at;
      told = λ J open_run fits follows. no_facts _;
    }

pub leave_law : LeaveLaw
leave_law t v m x hand has_scope =
    let at = has_scope.owed.1 in
    let owes : OwesLeave v x = (has_scope.owed.0, m.place, m.index, subst (λ (y : What). get_elem? v.owed has_scope.owed.0 ≡ some (m.place, m.index, y)) has_scope.brings at) in
    let member = hand_member t v has_scope.fitting.0 hand x owes has_scope.fitting.1 has_scope.at_hand has_scope.here in
    record {
      runnable = has_scope.runnable;
      at_hand = has_scope.at_hand;
      covers = λ n on. subst (λ (k : ℕ). has hand k ≡ true) (touched t.limit m code.Done (what.Leave x) x n has_scope.brings refl on) has_scope.here;
      on_hand = subst (λ (y : What). IsDeliverOn (parts_in t.limit hand) y code.Done) (sym has_scope.brings) (member, refl);
      plans = λ J open_run fits waking. absurd waking;
      set = λ J open_run fits. tt;
      says = λ J open_run fits. owed_is t v J has_scope.owed.0 m.place m.index m.what fits at;
      told = λ J open_run fits follows. no_facts _;
    }
