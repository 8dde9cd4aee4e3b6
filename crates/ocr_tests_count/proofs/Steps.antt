-- What the calls of the table ask of the toy's clerks.
use Rattle.std.proofs.Common.{◌≡◌, ℕ, zero, suc, ◌+◌, ◌<◌, ◌≤◌, ◌==◌, Bool, true, false, if◌then◌else◌, List, [], ◌∷◌, ◌++◌, reverse, ap, sym, ◌∙◌, subst, refl, arith}
use Rattle.std.specs.Prelude.{Option, Some, None}
use Rattle.std.proofs.lemmas.List.{reverse-append}
use Rattle.std.proofs.lemmas.Option.{same_Some}
use mathlib.Core.Option.{some, some-injective, some-ne-none}
use lib.ListN.{get_elem?}
use Rattle.ocr_turns_rule.specs.Contract.{MayCommit, MayGive, OpensWith, TermsAre, faces}
use Rattle.ocr_turns_rule.specs.Rule.{FactsOf, PartsOf}
use Rattle.ocr_turns_rule.specs.Sums.{find, one_at, replace_all, sum_of, weigh}
use Rattle.ocr_turns_rule.specs.Debts.{times}
use Rattle.ocr_turns_rule.specs.Units.{one_each}
use Rattle.ocr_turns_rule.specs.Words.{HasSlot, Waits}
use Rattle.ocr_turns_rule.specs.declared.view.Terms.{Terms}
use Rattle.ocr_turns_rule.specs.declared.view.View.{View}
use Rattle.ocr_tests_count.specs.Laws.{PlaceIf, awaited_is, place_if, slots_are, is_put}
use Rattle.ocr_tests_count.specs.Toy.{is_waiting, wait_part, IsOpen, IsSetTo, is_made, legal, meaning, part, part_at, payload, slot_part, stands}
use Rattle.ocr_tests_count.specs.declared.toy.Entry.{Entry}
use Rattle.ocr_tests_count.specs.declared.toy.Entry.TheVariants.{Make, Set, Wait, Wake}

abbrev pub Sight : Type 0
Sight = View ℕ Entry ℕ ℕ (ℕ × ℕ × ℕ)

-- what a part tells
is_open : (made : Bool) (x : Option ℕ) → slot_part made x ≡ 1 → (made ≡ true) × (x ≡ None)
is_open true None is = (refl, refl)
is_open false None is = absurd (omega (arith, is))
is_open true (Some x) is = absurd (omega (arith, is))
is_open false (Some x) is = absurd (omega (arith, is))

is_unmade : (made : Bool) (x : Option ℕ) → slot_part made x ≡ 0 → x ≡ None
is_unmade made None is = refl
is_unmade true (Some x) is = absurd (omega (arith, is))
is_unmade false (Some x) is = absurd (omega (arith, is))

not_made : (made : Bool) (x : Option ℕ) → slot_part made x ≡ 0 → made ≡ false
not_made false x is = refl
not_made true None is = absurd (omega (arith, is))
not_made true (Some x) is = absurd (omega (arith, is))

open_slot : (past : List Entry) (k : ℕ) → k < 2 → part_at past (3 + k) ≡ 1 → IsOpen past k
open_slot past zero lt is = let tells = is_open (is_made past) (payload past 0) is in record { made = tells.0; within = lt; unset = tells.1 }
open_slot past (suc zero) lt is = let tells = is_open (is_made past) (payload past 1) is in record { made = tells.0; within = lt; unset = tells.1 }
open_slot past (suc (suc k)) lt is = absurd (omega (arith, lt))

filled : (past : List Entry) (k x : ℕ) → k < 2 → part_at (Set k x ∷ past) (3 + k) ≡ 2
filled past zero x lt = refl
filled past (suc zero) x lt = refl
filled past (suc (suc k)) x lt = absurd (omega (arith, lt))

pub one_part : (f : ℕ → ℕ) (q y : ℕ) → f q ≡ y → PartsOf (λ p x. x) f ((q, y) ∷ [])
one_part f q y is zero p x at = let same = some-injective (q, y) (p, x) at in ap f (sym (ap (λ (z : ℕ × ℕ). z.0) same)) ∙ is ∙ ap (λ (z : ℕ × ℕ). z.1) same
one_part f q y is (suc k) p x at = absurd (some-ne-none (p, x) (sym at))

one_fact : (standing : ℕ × ℕ × ℕ → Type 0) (f : ℕ × ℕ × ℕ) → standing f → FactsOf standing (f ∷ [])
one_fact standing f is zero g at = subst standing (some-injective f g at) is
one_fact standing f is (suc k) g at = absurd (some-ne-none g (sym at))

pub may_set : (t : Terms ℕ) (v : Sight) (k x : ℕ) → v.parts ≡ (3 + k, 1) ∷ [] → k < 2 → v.weight + 1 ≤ t.share → 1 ≤ v.spares → MayCommit meaning t v (Set k x) ((3 + k, 2) ∷ []) []
unfolding legal part stands
may_set t v k x are lt light pays = record {
  unit = omega arith;
  spares = omega arith;
  goes = refl;
  share = light;
  owes = tt;
  drawn = tt;
  keeps = λ p. (refl, omega (arith, ap (weigh (one_at p)) are));
  claims = record { starts = λ n is. absurd (cc is); waits = λ n p is. absurd (cc is); resumes = λ n is. absurd (omega (arith, is)) };
  legal = λ J goes fits.
      let was : part_at (reverse J) (3 + k) ≡ 1 = fits.parts 0 (3 + k) 1 (ap (λ ps. get_elem? ps 0) are) in
      let may = open_slot (reverse J) k lt was in
      let next : reverse (J ++ Set k x ∷ []) ≡ Set k x ∷ reverse J = reverse-append J (Set k x ∷ []) in
      record {
        legal = may;
        parts = one_part (part t.setting.value t.limit (J ++ Set k x ∷ [])) (3 + k) 2 (ap (λ past. part_at past (3 + k)) next ∙ filled (reverse J) k x lt);
        sends = refl;
        facts = one_fact (stands t.setting.value t.limit (J ++ Set k x ∷ [])) (2, k, x) (λ is. subst (λ past. IsSetTo past k x) (sym next) (is_put (reverse J) k x may));
        wakes = refl;
        counts = refl;
      };
}

two_parts : (f : ℕ → ℕ) (a b : ℕ) → f 3 ≡ a → f 4 ≡ b → PartsOf (λ p x. x) f ((3, a) ∷ (4, b) ∷ [])
two_parts f a b first second zero p x at = one_part f 3 a first zero p x at
two_parts f a b first second (suc k) p x at = one_part f 4 b second k p x at

opened : (made : Bool) (x : Option ℕ) → slot_part made x ≡ 0 → slot_part true x ≡ 1
opened made x is = ap (slot_part true) (is_unmade made x is)

pub may_make : (t : Terms ℕ) (v : Sight) → v.parts ≡ (3, 0) ∷ (4, 0) ∷ [] → v.weight + 1 ≤ t.share → 1 ≤ sum_of (one_at 2) v.drawn → 1 ≤ v.spares → MayCommit meaning t v Make ((3, 1) ∷ (4, 1) ∷ []) []
unfolding legal part stands
may_make t v are light drawn pays = record {
  unit = omega arith;
  spares = omega arith;
  goes = refl;
  share = light;
  owes = tt;
  drawn = (drawn, tt);
  keeps = λ p. (refl, omega (arith, ap (weigh (one_at p)) are));
  claims = record { starts = λ n is. absurd (cc is); waits = λ n p is. absurd (cc is); resumes = λ n is. absurd (omega (arith, is)) };
  legal = λ J goes fits.
      let first : part_at (reverse J) 3 ≡ 0 = fits.parts 0 3 0 (ap (λ ps. get_elem? ps 0) are) in
      let second : part_at (reverse J) 4 ≡ 0 = fits.parts 1 4 0 (ap (λ ps. get_elem? ps 1) are) in
      let next : reverse (J ++ Make ∷ []) ≡ Make ∷ reverse J = reverse-append J (Make ∷ []) in
      record {
        legal = not_made (is_made (reverse J)) (payload (reverse J) 0) first;
        parts = two_parts (part t.setting.value t.limit (J ++ Make ∷ [])) 1 1
            (ap (λ past. part_at past 3) next ∙ opened (is_made (reverse J)) (payload (reverse J) 0) first)
            (ap (λ past. part_at past 4) next ∙ opened (is_made (reverse J)) (payload (reverse J) 1) second);
        sends = refl;
        facts = λ i f at. absurd (some-ne-none f (sym at));
        wakes = refl;
        counts = refl;
      };
}

pub may_give : (t : Terms ℕ) (v : Sight) (parts : List (ℕ × Option ℕ)) (p x : ℕ) → find p parts ≡ Some (Some x) → find p v.parts ≡ Some x → 3 ≤ p → v.claims ≡ [] → MayGive meaning t v parts p
may_give t v parts p x hand kept low none = record {
  hand = x;
  at_hand = hand;
  keeps = record { kept = x; keeps = kept; alike = refl };
  rests = λ u runs is. omega (arith, low, is);
  loose = λ J fits n some is. omega (arith, some, ap (times n) none);
}

-- an EDT with a slot that is known to be set has this slot
pub has_slot : (t : Terms ℕ) (v : Sight) (i k x : ℕ) → get_elem? v.facts i ≡ some (2, k, x) → HasSlot meaning t v 2 k
unfolding stands
has_slot t v i k x at J knows =
    let is = knows.facts i (2, k, x) at refl in
    (2, slots_are t (reverse J) is.made, is.within)

-- the same where the change is so
pub set_may : (t : Terms ℕ) (v : Sight) (ps : List (ℕ × ℕ)) (ms : List ℕ) (k x : ℕ) → ps ≡ (3 + k, 2) ∷ [] → ms ≡ [] → v.parts ≡ (3 + k, 1) ∷ [] → k < 2 → v.weight + 1 ≤ t.share → 1 ≤ v.spares → MayCommit meaning t v (Set k x) ps ms
set_may t v ps ms k x parts sends are lt light pays = subst (λ l. MayCommit meaning t v (Set k x) l ms) (sym parts) (subst (λ l. MayCommit meaning t v (Set k x) ((3 + k, 2) ∷ []) l) (sym sends) (may_set t v k x are lt light pays))

pub make_may : (t : Terms ℕ) (v : Sight) (ps : List (ℕ × ℕ)) (ms : List ℕ) → ps ≡ (3, 1) ∷ (4, 1) ∷ [] → ms ≡ [] → v.parts ≡ (3, 0) ∷ (4, 0) ∷ [] → v.weight + 1 ≤ t.share → 1 ≤ sum_of (one_at 2) v.drawn → 1 ≤ v.spares → MayCommit meaning t v Make ps ms
make_may t v ps ms parts sends are light drawn pays = subst (λ l. MayCommit meaning t v Make l ms) (sym parts) (subst (λ l. MayCommit meaning t v Make ((3, 1) ∷ (4, 1) ∷ []) l) (sym sends) (may_make t v are light drawn pays))

-- WHAT IS FOUND among parts
module _ {A : Type 0} where
  pub found : (p : ℕ) (x : A) → find p ((p, x) ∷ []) ≡ Some x
  found p x = grind arith

  pub found_put : (p : ℕ) (x y : A) (cs hand all : List (ℕ × A)) → all ≡ replace_all cs hand → cs ≡ (p, y) ∷ [] → hand ≡ (p, x) ∷ [] → find p all ≡ Some y
  found_put p x y cs hand all is put was = grind (arith, is, put, was)

pub taken : (p x y : ℕ) (hand : List (ℕ × Option ℕ)) → hand ≡ (p, Some x) ∷ [] → find p hand ≡ Some (Some y) → x ≡ y
taken p x y hand is at = same_Some x y (same_Some (Some x) (Some y) (sym (found p (Some x)) ∙ sym (ap (find p) is) ∙ at))

-- THE OPENING
no_part : (b c d : Bool) → ◌≡◌ {A = ℕ} (if b then 0 else if c then 0 else if d then 0 else 0) 0
no_part true c d = refl
no_part false true d = refl
no_part false false true = refl
no_part false false false = refl

opens : (t : Terms ℕ) → TermsAre t 0 2 16 3 → OpensWith meaning t ((1, 0) ∷ [])
unfolding part
opens t are = record {
  parts = one_part (part t.setting.value t.limit []) 1 0 refl;
  others = λ p none. no_part (p == 3) (p == 4) (p == 2);
  places = λ p some. grind (arith, some, are.limit);
  opened = ap (λ limit. faces {P = ℕ} limit ((1, 0) ∷ [])) are.limit;
  few = omega (arith, are.limit);
  limits = (omega (arith, are.limit), omega (arith, are.limit));
  share = (omega (arith, are.share), omega (arith, are.share));
  seats = (omega (arith, are.seats), omega (arith, are.seats));
}

pub opens_with : (t : Terms ℕ) (parts : List (ℕ × ℕ)) → parts ≡ (1, 0) ∷ [] → TermsAre t 0 2 16 3 → OpensWith meaning t parts
opens_with t parts is are = subst (OpensWith meaning t) (sym is) (opens t are)

-- THE MAKING
abbrev pub Both : ℕ → ℕ → List (ℕ × ℕ)
Both a b = (3, a) ∷ (4, b) ∷ []

pub both_taken : (a b x y : ℕ) (hand : List (ℕ × Option ℕ)) → hand ≡ (3, Some a) ∷ (4, Some b) ∷ [] → find 3 hand ≡ Some (Some x) → find 4 hand ≡ Some (Some y) → (a ≡ x) × (b ≡ y)
both_taken a b x y hand is first second = (same_Some a x (same_Some (Some a) (Some x) (sym (ap (find 3) is) ∙ first)), same_Some b y (same_Some (Some b) (Some y) (sym (ap (find 4) is) ∙ second)))

pub has_drawn : (ns : List ℕ) (n : ℕ) → n ≡ 2 → 1 ≤ sum_of (one_at 2) (ns ++ n ∷ [])
has_drawn [] n is = grind (arith, is)
has_drawn (k ∷ ns) n is = omega (arith, has_drawn ns n is)

-- THE WAIT
wait_tells : (b : Bool) (n : ℕ) → wait_part b ≡ n → (n ≡ 0 → b ≡ false) × (n ≡ 1 → b ≡ true)
wait_tells true n is = (λ no. absurd (omega (arith, is, no)), λ yes. refl)
wait_tells false n is = (λ no. refl, λ yes. absurd (omega (arith, is, yes)))

pub may_wait : (t : Terms ℕ) (v : Sight) (x y : ℕ) (ps : List (ℕ × ℕ)) (ms : List ℕ) → ps ≡ (2, 1) ∷ [] → ms ≡ [] → v.parts ≡ (2, 0) ∷ [] → v.claims ≡ 2 ∷ [] → v.weight + 1 ≤ t.share
    → get_elem? v.facts 0 ≡ some (2, 0, x) → get_elem? v.facts 1 ≡ some (2, 1, y) → MayCommit meaning t v Wait ps ms
unfolding legal part stands
may_wait t v x y ps ms e1 e2 are claims light zeroth first = subst (λ l. MayCommit meaning t v Wait l ms) (sym e1) (subst (λ l. MayCommit meaning t v Wait ((2, 1) ∷ []) l) (sym e2) (record {
  goes = refl;
  share = light;
  owes = tt;
  drawn = tt;
  keeps = λ p. (refl, omega (arith, ap (weigh (one_at p)) are));
  unit = omega (arith, ap (sum_of one_each) claims);
  spares = omega arith;
  claims = record {
    starts = λ n is. absurd (cc is);
    waits = λ n p is. subst (λ ns. 1 ≤ times n ns) (sym claims) (grind (arith, (place_if (n == 2) p is).0));
    resumes = λ n is. absurd (omega (arith, is));
  };
  legal = λ J goes fits.
      let was : part_at (reverse J) 2 ≡ 0 = fits.parts 0 2 0 (ap (λ ps. get_elem? ps 0) are) in
      let next : reverse (J ++ Wait ∷ []) ≡ Wait ∷ reverse J = reverse-append J (Wait ∷ []) in
      record {
        legal = record {
          zeroth = (x, fits.facts 0 (2, 0, x) zeroth refl);
          first = (y, fits.facts 1 (2, 1, y) first refl);
          awake = (wait_tells (is_waiting (reverse J)) 0 was).0 refl;
        };
        parts = one_part (part t.setting.value t.limit (J ++ Wait ∷ [])) 2 1 (ap (λ past. part_at past 2) next);
        sends = refl;
        facts = λ i f at. absurd (some-ne-none f (sym at));
        wakes = refl;
        counts = refl;
      };
}))

pub may_wake : (t : Terms ℕ) (v : Sight) (ps : List (ℕ × ℕ)) (ms : List ℕ) → ps ≡ (2, 0) ∷ [] → ms ≡ [] → v.parts ≡ (2, 1) ∷ [] → v.claims ≡ [] → v.weight + 1 ≤ t.share → 1 ≤ v.spares → MayCommit meaning t v Wake ps ms
unfolding legal part stands
may_wake t v ps ms e1 e2 are claims light pays = subst (λ l. MayCommit meaning t v Wake l ms) (sym e1) (subst (λ l. MayCommit meaning t v Wake ((2, 0) ∷ []) l) (sym e2) (record {
  goes = refl;
  share = light;
  owes = tt;
  drawn = tt;
  keeps = λ p. (refl, omega (arith, ap (weigh (one_at p)) are));
  unit = omega arith;
  spares = omega arith;
  claims = record { starts = λ n is. absurd (cc is); waits = λ n p is. absurd (cc is); resumes = λ n is. ap (times n) claims };
  legal = λ J goes fits.
      let was : part_at (reverse J) 2 ≡ 1 = fits.parts 0 2 1 (ap (λ ps. get_elem? ps 0) are) in
      let next : reverse (J ++ Wake ∷ []) ≡ Wake ∷ reverse J = reverse-append J (Wake ∷ []) in
      record {
        legal = (wait_tells (is_waiting (reverse J)) 1 was).1 refl;
        parts = one_part (part t.setting.value t.limit (J ++ Wake ∷ [])) 2 0 (ap (λ past. part_at past 2) next);
        sends = refl;
        facts = λ i f at. absurd (some-ne-none f (sym at));
        wakes = refl;
        counts = refl;
      };
}))

pub waits_now : (t : Terms ℕ) (v : Sight) → v.closed ≡ None → v.parts ≡ (2, 1) ∷ [] → Waits meaning t v 2
unfolding part
waits_now t v goes are J knows =
    let was : part_at (reverse J) 2 ≡ 1 = (knows.fits goes).parts 0 2 1 (ap (λ ps. get_elem? ps 0) are) in
    (2, awaited_is t (reverse J) ∙ ap PlaceIf ((wait_tells (is_waiting (reverse J)) 1 was).1 refl))
