-- The laws of the toy machine.
use Rattle.std.proofs.Common.{◌≡◌, ℕ, zero, suc, ◌+◌, ◌*◌, ◌<◌, ◌≤◌, ◌==◌, Bool, true, false, if◌then◌else◌, List, [], ◌∷◌, ◌++◌, reverse, ap, sym, ◌∙◌, subst, refl, arith}
use Rattle.std.specs.Prelude.{Option, Some, None}
use Rattle.std.proofs.lemmas.List.{reverse-append, reverse-reverse}
use mathlib.Core.Logic.{dite}
use native.Mathlib.Decide.{ℕ_discrete}
use Rattle.std.proofs.lemmas.Option.{same_Some, some_pair_parts}
use Rattle.ocr_turns_rule.specs.Counts.{CountingLaws, IsReady, MayCome, awaited, slots_of, payload_of}
use Rattle.ocr_turns_rule.specs.Meaning.{ArePlaces, IsNewNumber, Lawful}
use Rattle.ocr_turns_rule.specs.Sums.{is_among, made_sum, one_at, sum_of}
use Rattle.ocr_turns_rule.proofs.Totals.{made_snoc, one_else, one_most, one_same}
use Rattle.ocr_turns_rule.specs.declared.view.Terms.{Terms}
use Rattle.ocr_tests_count.specs.declared.toy.Entry.{Entry}
use Rattle.ocr_tests_count.specs.declared.toy.Entry.TheVariants.{Make, Set, Wait, Wake}
use Rattle.ocr_tests_count.specs.Toy.{IsOpen, IsSetTo, MayFollow, MayWait, creates, is_made, is_waiting, makes, resumes, wait_part, waits, legal, meaning, part, part_at, payload, places, slot_at, stands}

abbrev PayloadIf : Bool → ℕ → Option ℕ → Option ℕ
PayloadIf b x before = if b then Some x else before

-- a slot that is set is not set again
stays : (b : Bool) (before : Option ℕ) (x y : ℕ) → before ≡ Some y → (b ≡ true → before ≡ None)
    → PayloadIf b x before ≡ Some y
stays true before x y was none = absurd (cc (was, none refl))
stays false before x y was none = was

same_slot : (past : List Entry) (k n : ℕ) → payload past k ≡ None → (k == n) ≡ true
    → payload past n ≡ None
same_slot past k n none same = grind (arith, none, same)

keeps_set : (past : List Entry) (e : Entry) (k x : ℕ) → MayFollow past e → IsSetTo past k x
    → IsSetTo (e ∷ past) k x
keeps_set past Make k x ok was =
    record { made = refl; within = was.within; payload = was.payload }
keeps_set past Wait k x ok was =
    record { made = was.made; within = was.within; payload = was.payload }
keeps_set past Wake k x ok was =
    record { made = was.made; within = was.within; payload = was.payload }
keeps_set past (Set j y) k x ok was = record {
  made = was.made;
  within = was.within;
  payload = stays (j == k) (payload past k) y x was.payload (same_slot past j k ok.unset);
}

lasting : (g limit : ℕ) (J : List Entry) (e : Entry) (f : ℕ × ℕ × ℕ) → legal g limit J e
    → stands g limit J f → stands g limit (J ++ e ∷ []) f
unfolding legal stands
lasting g limit J e f ok was is =
    let next = sym (reverse-append J (e ∷ [])) in
    subst (λ past. IsSetTo past f.1 f.2) next (keeps_set (reverse J) e f.1 f.2 ok (was is))

abbrev Chosen : Bool → Bool → Bool → ℕ → ℕ → ℕ → ℕ
Chosen b c d x y z = if b then x else if c then y else if d then z else 0

chosen : (b c d : Bool) (x x' y y' z z' : ℕ) → (b ≡ true → x ≡ x') → (c ≡ true → y ≡ y')
    → (d ≡ true → z ≡ z') → Chosen b c d x y z ≡ Chosen b c d x' y' z'
chosen true c d x x' y y' z z' first second third = first refl
chosen false true d x x' y y' z z' first second third = second refl
chosen false false true x x' y y' z z' first second third = third refl
chosen false false false x x' y y' z z' first second third = refl

-- the parts of the two slots and that of the wait decide all parts
same_parts : (past : List Entry) (e : Entry) (p : ℕ)
    → (p ≡ 3 → slot_at (e ∷ past) 0 ≡ slot_at past 0)
    → (p ≡ 4 → slot_at (e ∷ past) 1 ≡ slot_at past 1)
    → (p ≡ 2 → wait_part (is_waiting (e ∷ past)) ≡ wait_part (is_waiting past))
    → part_at (e ∷ past) p ≡ part_at past p
same_parts past e p first second third =
    chosen (p == 3) (p == 4) (p == 2) (slot_at (e ∷ past) 0) (slot_at past 0)
    (slot_at (e ∷ past) 1) (slot_at past 1)
    (wait_part (is_waiting (e ∷ past))) (wait_part (is_waiting past))
    (λ at. first (grind (arith, at))) (λ at. second (grind (arith, at)))
    (λ at. third (grind (arith, at)))

local_last : (past : List Entry) (e : Entry) (p : ℕ) → MayFollow past e
    → sum_of (one_at p) (places e) ≡ 0 → part_at (e ∷ past) p ≡ part_at past p
local_last past Make p ok none = same_parts past Make p
    (λ at. absurd (grind (arith, at, none))) (λ at. absurd (grind (arith, at, none))) (λ at. refl)
local_last past (Set zero x) p ok none = same_parts past (Set 0 x) p
    (λ at. absurd (grind (arith, at, none))) (λ at. refl) (λ at. refl)
local_last past (Set (suc zero) x) p ok none = same_parts past (Set 1 x) p
    (λ at. refl) (λ at. absurd (grind (arith, at, none))) (λ at. refl)
local_last past (Set (suc (suc k)) x) p ok none = absurd (omega (arith, ok.within))
local_last past Wait p ok none = same_parts past Wait p
    (λ at. refl) (λ at. refl) (λ at. absurd (grind (arith, at, none)))
local_last past Wake p ok none = same_parts past Wake p
    (λ at. refl) (λ at. refl) (λ at. absurd (grind (arith, at, none)))

local : (g limit : ℕ) (J : List Entry) (e : Entry) (p : ℕ) → legal g limit J e
    → sum_of (one_at p) (places e) ≡ 0 → part g limit (J ++ e ∷ []) p ≡ part g limit J p
unfolding legal part
local g limit J e p ok none =
    ap (λ past. part_at past p) (reverse-append J (e ∷ [])) ∙ local_last (reverse J) e p ok none

-- the places and the numbers of an entry
two_places : (p : ℕ) → one_at p 3 + (one_at p 4 + 0) ≤ 1
two_places p = dite (ℕ_discrete p 3)
    (λ e. subst (λ q. one_at q 3 + (one_at q 4 + 0) ≤ 1) (sym e) (omega arith))
    (λ ne. let none = one_else p 3 ne in let most = one_most p 4 in omega arith)

one_place : (limit q : ℕ) → 1 ≤ q → q ≤ 2 * limit
    → ArePlaces limit (λ p. sum_of (one_at p) (q ∷ []))
one_place limit q least most = record {
  all = q ∷ [];
  those = λ p. refl;
  differ = λ p. let one = one_most p q in omega arith;
  range = λ p is.
      let same : q ≡ p = sym (one_same p q (omega arith)) in
      subst (λ r. (1 ≤ r) × (r ≤ 2 * limit)) same (least, most);
  few = omega arith;
}

are_places : (g limit : ℕ) (J : List Entry) (e : Entry) → 2 ≤ limit → legal g limit J e
    → ArePlaces limit (λ p. sum_of (one_at p) (places e))
unfolding legal
are_places g limit J Make two ok = record {
  all = 3 ∷ 4 ∷ [];
  those = λ p. refl;
  differ = two_places;
  range = λ p is. dite (ℕ_discrete p 3)
      (λ e. subst (λ r. (1 ≤ r) × (r ≤ 2 * limit)) (sym e) (omega arith, omega arith))
      (λ ne.
      let none = one_else p 3 ne in
      let same : 4 ≡ p = sym (one_same p 4 (omega arith)) in
      subst (λ r. (1 ≤ r) × (r ≤ 2 * limit)) same (omega arith, omega arith));
  few = omega arith;
}
are_places g limit J (Set k x) two ok =
    let lt = ok.within in one_place limit (3 + k) (omega arith) (omega arith)
are_places g limit J Wait two ok = one_place limit 2 (omega arith) (omega arith)
are_places g limit J Wake two ok = one_place limit 2 (omega arith) (omega arith)

makes_none : (past : List Entry) (e : Entry) → makes e ≡ []
    → made_sum makes (one_at 2) (reverse past) ≡ 0
    → made_sum makes (one_at 2) (reverse (e ∷ past)) ≡ 0
makes_none past e none was =
    let whole = ap (made_sum makes (one_at 2)) (reverse-append (e ∷ []) past) in
    let last = made_snoc makes (one_at 2) (reverse past) e in
    let nothing = ap (sum_of (one_at 2)) none in omega arith

none_made : (past : List Entry) → is_made past ≡ false
    → made_sum makes (one_at 2) (reverse past) ≡ 0
none_made [] none = refl
none_made (Make ∷ past) none = absurd (cc none)
none_made (Set k x ∷ past) none = makes_none past (Set k x) refl (none_made past none)
none_made (Wait ∷ past) none = makes_none past Wait refl (none_made past none)
none_made (Wake ∷ past) none = makes_none past Wake refl (none_made past none)

is_new : (g limit : ℕ) (J : List Entry) (e : Entry) (n : ℕ) → 2 ≤ limit → legal g limit J e
    → 1 ≤ sum_of (one_at n) (makes e) → IsNewNumber meaning limit J e n
unfolding legal
is_new g limit J Make n two ok has =
    let same : 2 ≡ n = sym (one_same n 2 (omega arith)) in
    let none : made_sum makes (one_at 2) J ≡ 0 =
    subst (λ l. made_sum makes (one_at 2) l ≡ 0) (reverse-reverse J) (none_made (reverse J) ok)
    in
    subst (IsNewNumber meaning limit J Make) same
    (record { once = refl; range = (omega arith, two); unmade = omega arith })
is_new g limit J (Set k x) n two ok has = absurd (omega (arith, has))
is_new g limit J Wait n two ok has = absurd (omega (arith, has))
is_new g limit J Wake n two ok has = absurd (omega (arith, has))

pub laws : Lawful meaning
laws = record {
  weighs = λ e goes. omega arith;
  bare = λ e stops. absurd (cc stops);
  lasting = λ g limit J e f run ok was. lasting g limit J e f ok was;
  local = λ g limit J e p most run ok none. local g limit J e p ok none;
  on_core = λ g limit J e t most run ok runs. absurd (cc runs);
  first = λ g limit J e t run ok starts. absurd (cc starts);
  places = λ g limit J e most run ok. are_places g limit J e most ok;
  making = λ g limit J e n most run ok has. is_new g limit J e n most ok has;
  starting = λ e t starts. absurd (cc starts);
}

-- what the words that count see of the EDT
pub slots_are : (t : Terms ℕ) (past : List Entry) → is_made past ≡ true
    → slots_of meaning t past 2 ≡ Some 2
slots_are t [] made = absurd (cc made)
slots_are t (Make ∷ past) made = refl
slots_are t (Set k x ∷ past) made = slots_are t past made
slots_are t (Wait ∷ past) made = slots_are t past made
slots_are t (Wake ∷ past) made = slots_are t past made

payload_is : (t : Terms ℕ) (past : List Entry) (k : ℕ)
    → payload_of meaning t past 2 k ≡ payload past k
payload_is t [] k = refl
payload_is t (Make ∷ past) k = payload_is t past k
payload_is t (Wait ∷ past) k = payload_is t past k
payload_is t (Wake ∷ past) k = payload_is t past k
payload_is t (Set j x ∷ past) k = ap (PayloadIf (j == k) x) (payload_is t past k)

first_set : (t : Terms ℕ) → stands t.setting.value t.limit [] (1, 0, 0)
unfolding stands
first_set t is = absurd (omega (arith, is))

pub is_put : (past : List Entry) (k x : ℕ) → IsOpen past k → IsSetTo (Set k x ∷ past) k x
is_put past k x may = record { made = may.made; within = may.within; payload = grind arith }

creating : (e : Entry) (n d : ℕ) → creates e ≡ Some (n, d)
    → (1 ≤ sum_of (one_at n) (meaning.makes e)) × (d ≤ 32)
creating Make n d is =
    let same = some_pair_parts 2 n 2 d is in
    let bound : d ≤ 32 = omega (arith, same.1) in
    subst (λ n. (1 ≤ sum_of (one_at n) (2 ∷ [])) × (d ≤ 32)) same.0 (omega arith, bound)
creating (Set k x) n d is = absurd (cc is)
creating Wait n d is = absurd (cc is)
creating Wake n d is = absurd (cc is)

abbrev HasRoom : Terms ℕ → List Entry → ℕ → ℕ → Type 0
HasRoom t past n k = (d : ℕ) × (slots_of meaning t past n ≡ Some d) × (k < d)

abbrev Stood : Terms ℕ → List Entry → ℕ × ℕ × ℕ → Type 0
Stood t past f = stands t.setting.value t.limit (reverse past) f

abbrev Settable : Terms ℕ → List Entry → Entry → ℕ → ℕ → ℕ → Type 0
Settable t past e n k x =
    HasRoom t past n k × (payload_of meaning t past n k ≡ None) × Stood t (e ∷ past) (n, k, x)

put_so : (t : Terms ℕ) (past : List Entry) (k x : ℕ) → MayCome meaning t past (Set k x)
    → Settable t past (Set k x) 2 k x
unfolding legal stands
put_so t past k x ok =
    let may : IsOpen past k = subst (λ l. IsOpen l k) (reverse-reverse past) ok.legal in
    let again = sym (reverse-reverse (Set k x ∷ past)) in (
      (2, slots_are t past may.made, may.within),
      payload_is t past k ∙ may.unset,
      λ is. subst (λ l. IsSetTo l k x) again (is_put past k x may),
    )

setting : (t : Terms ℕ) (past : List Entry) (e : Entry) (n k x : ℕ) → MayCome meaning t past e
    → meaning.counting.sets e ≡ Some (n, k, x) → Settable t past e n k x
setting t past Make n k x ok is = absurd (cc is)
setting t past Wait n k x ok is = absurd (cc is)
setting t past Wake n k x ok is = absurd (cc is)
setting t past (Set j y) n k x ok is =
    let same = same_Some (2, j, y) (n, k, x) is in
    subst (λ (z : ℕ × ℕ × ℕ). Settable t past (Set j y) z.0 z.1 z.2) same (put_so t past j y ok)

abbrev pub PlaceIf : Bool → Option ℕ
PlaceIf b = if b then Some 2 else None

pub awaited_is : (t : Terms ℕ) (past : List Entry)
    → awaited meaning t past 2 ≡ PlaceIf (is_waiting past)
awaited_is t [] = refl
awaited_is t (Make ∷ past) = awaited_is t past
awaited_is t (Set k x ∷ past) = awaited_is t past
awaited_is t (Wait ∷ past) = refl
awaited_is t (Wake ∷ past) = refl

nowhere : (past : List Entry) → is_among (λ e. false) past ≡ false
nowhere [] = refl
nowhere (e ∷ past) = nowhere past

both_set : (t : Terms ℕ) (past : List Entry) → MayWait past → (k : ℕ) → k < 2
    → (x : ℕ) × (payload_of meaning t past 2 k ≡ Some x)
both_set t past may zero lt =
    (may.zeroth.0, payload_is t past 0 ∙ may.zeroth.1.payload)
both_set t past may (suc zero) lt =
    (may.first.0, payload_is t past 1 ∙ may.first.1.payload)
both_set t past may (suc (suc k)) lt = absurd (omega (arith, lt))

is_ready : (t : Terms ℕ) (past : List Entry) → MayWait past → IsReady meaning t past 2
is_ready t past may = record {
  set = record {
    slots = 2;
    made = slots_are t past may.zeroth.1.made;
    all_set = both_set t past may;
  };
  unstarted = nowhere past;
  unended = nowhere past;
  awake = awaited_is t past ∙ ap PlaceIf may.awake;
}

pub place_if : (b : Bool) (p : ℕ) → PlaceIf b ≡ Some p → (b ≡ true) × (2 ≡ p)
place_if true p is = (refl, same_Some 2 p is)
place_if false p is = absurd (cc is)

abbrev Waitable : Terms ℕ → List Entry → Entry → ℕ → ℕ → Type 0
Waitable t past e n p = IsReady meaning t past n × (1 ≤ sum_of (one_at p) (places e))

waiting : (t : Terms ℕ) (past : List Entry) (e : Entry) (n p : ℕ) → MayCome meaning t past e
    → waits e n ≡ Some p → Waitable t past e n p
unfolding legal
waiting t past Make n p ok is = absurd (cc is)
waiting t past (Set k x) n p ok is = absurd (cc is)
waiting t past Wake n p ok is = absurd (cc is)
waiting t past Wait n p ok is =
    let same = place_if (n == 2) p is in
    let number : 2 ≡ n = grind (arith, same.0) in
    let may = subst MayWait (reverse-reverse past) ok.legal in
    subst (λ n. Waitable t past Wait n p) number
    (subst (λ p. Waitable t past Wait 2 p) same.1 (is_ready t past may, omega arith))

abbrev Resumable : Terms ℕ → List Entry → Entry → ℕ → Type 0
Resumable t past e n =
    (sum_of (one_at n) (resumes e) ≡ 1)
    × ((p : ℕ) × (awaited meaning t past n ≡ Some p) × (1 ≤ sum_of (one_at p) (places e)))

resuming : (t : Terms ℕ) (past : List Entry) (e : Entry) (n : ℕ) → MayCome meaning t past e
    → 1 ≤ sum_of (one_at n) (resumes e) → Resumable t past e n
unfolding legal
resuming t past Make n ok some = absurd (omega (arith, some))
resuming t past (Set k x) n ok some = absurd (omega (arith, some))
resuming t past Wait n ok some = absurd (omega (arith, some))
resuming t past Wake n ok some =
    let number : 2 ≡ n = grind (arith, some) in
    let waits = subst (λ l. is_waiting l ≡ true) (reverse-reverse past) ok.legal in
    let at = awaited_is t past ∙ ap PlaceIf waits in
    subst (Resumable t past Wake) number (refl, (2, at, omega arith))

pub counting_laws : CountingLaws meaning
counting_laws = record {
  first_made = (omega arith, omega arith);
  first_set = first_set;
  creating = λ t past e n d ok is. creating e n d is;
  setting = setting;
  starting = λ t past e n ok starts. absurd (cc starts);
  waiting = waiting;
  resuming = resuming;
  ending = λ t past e n ok ends. absurd (cc ends);
}
