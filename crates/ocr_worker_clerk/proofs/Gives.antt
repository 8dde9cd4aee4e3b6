-- A worker gives back faces, and all that it keeps.
use Rattle.std.proofs.Common.{◌≡◌, ◌≢◌, ℕ, zero, suc, ◌+◌, ◌-◌, ◌*◌, ◌≤◌, ◌<◌, ◌==◌, Bool, true, false, List, [], ◌∷◌, length, take, drop, get_or, reverse, Option, Some, None, refl, ap, sym, ◌∙◌, subst, arith}
use Rattle.std.specs.Prelude.{MatchOption}
use Rattle.std.specs.List.{All}
use Rattle.std.proofs.lemmas.Bool.{eqb-true}
use Rattle.std.proofs.lemmas.List.{drop_more, get_or-reverse, length-reverse}
use Rattle.ocr_base.proofs.Booleans.{same as number_same}
use Rattle.ocr_body_code.specs.declared.checked.Checked.{Checked}
use Rattle.ocr_machine_parts.specs.declared.part.Core.{Core}
use Rattle.ocr_machine_parts.specs.declared.part.Part.{Part}
use Rattle.ocr_machine_parts.specs.declared.part.Part.TheVariants as part
use Rattle.ocr_machine_parts.specs.Taken.{is_within}
use Rattle.ocr_worker_machine.specs.Holds.{awaits_in}
use Rattle.ocr_worker_machine.specs.Clerks.{OcrTerms, OcrView}
use Rattle.ocr_worker_machine.specs.Ocr.{meaning}
use Rattle.ocr_turns_rule.specs.Contract.{GiveTells, MayGive}
use Rattle.ocr_turns_rule.specs.Counts.{tied_to}
use Rattle.ocr_turns_rule.specs.Debts.{times}
use Rattle.ocr_turns_rule.specs.Steps.{without_part}
use Rattle.ocr_turns_rule.specs.Sums.{as_some, find, keys, one_at, remove_at, weigh}
use Rattle.ocr_turns_rule.proofs.Numbered.{find_weighed, weigh_remove}
use Rattle.ocr_worker_clerk.specs.Entry.{OcrKnown}
use Rattle.ocr_worker_clerk.specs.Work.{AtWork, HasTakenOn, KeepsFaces, KeepsLoose, OcrTable, RunsOnly}
use Rattle.ocr_worker_clerk.proofs.Goes.{Calm, work_still}
use Rattle.ocr_worker_clerk.proofs.Gone.{less_long, none_left, some_found, some_removed, sum_reversed, weigh_numbers}
use Rattle.ocr_worker_clerk.proofs.Hands.{apart_is, keys_length, some_length}
use Rattle.ocr_worker_clerk.proofs.Seen.{face_loose}

abbrev pub Hands : Type 0
Hands = List (ℕ × Option Part)

abbrev pub with_parts : OcrView → List (ℕ × Part) → OcrView
with_parts v ps = record v { parts = ps }

-- the item that comes next
pub drop_at : (xs : List (ℕ × Part)) (k : ℕ) → k < length xs → (x : Part) × (drop k xs ≡ (get_or (keys xs) k 0, x) ∷ drop (suc k) xs) × (drop k (as_some xs) ≡ (get_or (keys xs) k 0, Some x) ∷ drop (suc k) (as_some xs))
drop_at [] k lt = absurd (omega (arith, lt))
drop_at (x ∷ xs) zero lt = (x.1, refl, refl)
drop_at (x ∷ xs) (suc k) lt = drop_at xs k (omega (arith, lt))

-- A FACE, behind the core
module _ (t : OcrTerms) (v : OcrView) (edt p : ℕ) (core : Core) (item : Option Part) (x : Part) (rest : List (ℕ × Part)) (number : is_within t.limit edt ≡ true) (other : p ≢ t.limit + edt)
    (claims : v.claims ≡ edt ∷ []) (only : RunsOnly v edt) (awake : awaits_in core.edt ≡ None) (found : find p rest ≡ Some x) where
  abbrev its_parts : List (ℕ × Part)
  its_parts = (t.limit + edt, part.Core core) ∷ rest

  abbrev its_hand : Hands
  its_hand = (t.limit + edt, item) ∷ as_some rest

  off : (p == (t.limit + edt)) ≡ false
  off = apart_is p (t.limit + edt) other

  claimed : (n : ℕ) → 1 ≤ times n (edt ∷ []) → n ≡ edt
  claimed n least = by_case (n == edt) refl least
    where
      by_case : (b : Bool) → (n == edt) ≡ b → 1 ≤ one_at n edt + 0 → n ≡ edt
      by_case true is least = eqb-true n edt is
      by_case false is least = let none : one_at n edt ≡ 0 = rw is refl in absurd (omega (arith, least, none))

  pub face_may : MayGive meaning t (with_parts v its_parts) its_hand p
  face_may = record {
    hand = x;
    at_hand = rw off (some_found p rest x found);
    keeps = record { kept = x; keeps = rw off found; alike = refl };
    rests = λ u runs same. other (sym (ap (λ (k : ℕ). t.limit + k) (sym (only u runs)) ∙ same));
    loose = λ J fits n least tied.
        let one : n ≡ edt = claimed n (subst (λ (l : List ℕ). 1 ≤ times n l) claims least) in
        face_loose t J (with_parts v its_parts) 0 edt p core fits number other refl awake (subst (λ (k : ℕ). tied_to meaning t (reverse J) k ≡ Some p) one tied);
  }

  pub face_gone : (remove_at p its_parts ≡ (t.limit + edt, part.Core core) ∷ remove_at p rest) × (remove_at p its_hand ≡ (t.limit + edt, item) ∷ as_some (remove_at p rest))
  face_gone = (rw off refl, rw off (ap (λ (l : Hands). (t.limit + edt, item) ∷ l) (some_removed p rest)))

-- A STEP of giving
pub gave : (old new : OcrKnown) (p : ℕ) → old.view.closed ≡ None → GiveTells old new p → (new.table ≡ old.table) × (new.view ≡ without_part old.view p) × (new.parts ≡ remove_at p old.parts) × (new.room ≡ old.room) × (new.spare ≡ old.spare + 1)
gave old new p open_run tells =
    let r = subst (λ (o : Option ℕ). MatchOption o ((new.table ≡ old.table) × (new.view ≡ without_part old.view p) × (new.parts ≡ remove_at p old.parts) × (new.room ≡ old.room) × (new.spare ≡ old.spare + 1) × (new.space ≡ old.space)) (λ _. new ≡ old)) open_run tells in
    (r.0, r.1, r.2, r.3, r.4)

-- The faces of these places are left to give back, behind the core. A place that stands twice is
-- there as often.
pub record GaveFaces (t : OcrTerms) (edt : ℕ) (left : List ℕ) (old new : OcrKnown) : Type 0 where
  pub core : Core
  pub item : Option Part
  pub rest : List (ℕ × Part)
  pub first : take 1 old.view.parts ≡ (t.limit + edt, part.Core core) ∷ []
  pub first_hand : take 1 old.parts ≡ (t.limit + edt, item) ∷ []
  pub awake : awaits_in core.edt ≡ None
  pub table : new.table ≡ old.table
  pub view : new.view ≡ with_parts old.view ((t.limit + edt, part.Core core) ∷ rest)
  pub hand : new.parts ≡ (t.limit + edt, item) ∷ as_some rest
  pub left_is : (q : ℕ) → weigh (one_at q) rest ≡ times q left

parts_calm : (u : OcrView) (ps : List (ℕ × Part)) → Calm u (with_parts u ps)
parts_calm u ps = record { terms = refl; root = refl; seat = refl; out = refl; joined = refl; log = refl; weight = refl; drawn = refl; full = refl; reached = refl; closed = refl; stake = omega arith; raised = refl; ended = refl }

all_at : (P : ℕ → Type 0) (ns : List ℕ) (k : ℕ) → All P ns → k < length ns → P (get_or ns k 0)
all_at P ns k all lt = all k 0 lt

-- p is the place that comes next, from the last on
module _ (t : OcrTerms) (edt : ℕ) (places : List ℕ) (k p : ℕ) (c0 c : OcrKnown) (others : All (λ q. (q ≢ t.limit + edt) × (q ≤ t.limit + t.limit)) places) (taken : HasTakenOn t edt c0)
    (turn : (k < length (reverse places)) × (p ≡ get_or (reverse places) k p)) (so : GaveFaces t edt (drop k (reverse places)) c0 c) where
  short : k < length places
  short = let a = turn.0 in let b = length-reverse places in omega (arith, a, b)

  inside : (p ≢ t.limit + edt) × (p ≤ t.limit + t.limit)
  inside = subst (λ (q : ℕ). (q ≢ t.limit + edt) × (q ≤ t.limit + t.limit)) (sym (turn.1 ∙ get_or-reverse places k p short)) (others (length places - 1 - k) p (omega (arith, short)))

  next : drop k (reverse places) ≡ p ∷ drop (k + 1) (reverse places)
  next = drop_more (reverse places) k p turn.0 ∙ ap (λ (q : ℕ). q ∷ drop (k + 1) (reverse places)) (sym turn.1)

  weighs : (q : ℕ) → weigh (one_at q) so.rest ≡ one_at q p + times q (drop (k + 1) (reverse places))
  weighs q = so.left_is q ∙ ap (times q) next

  there : 1 ≤ weigh (one_at p) so.rest
  there = let a = weighs p in let one : one_at p p ≡ 1 = rw (number_same p) refl in omega (arith, a, one)

  face : (x : Part) × (find p so.rest ≡ Some x)
  face = find_weighed p so.rest there

  pub may_face : MayGive meaning t c.view c.parts p
  may_face =
      subst (λ (v : OcrView). MayGive meaning t v c.parts p) (sym so.view)
      (subst (λ (h : Hands). MayGive meaning t (with_parts c0.view ((t.limit + edt, part.Core so.core) ∷ so.rest)) h p) (sym so.hand)
      (face_may t c0.view edt p so.core so.item face.0 so.rest taken.number inside.0 taken.claims taken.only so.awake face.1))

  pub place_fits : p ≤ 2 * t.limit
  place_fits = let b = inside.1 in omega (arith, b)

  module _ (d : OcrKnown) (open_run : c.view.closed ≡ None) (tells : GiveTells c d p) where
    told : (d.table ≡ c.table) × (d.view ≡ without_part c.view p) × (d.parts ≡ remove_at p c.parts) × (d.room ≡ c.room) × (d.spare ≡ c.spare + 1)
    told = gave c d p open_run tells

    gone : (remove_at p ((t.limit + edt, part.Core so.core) ∷ so.rest) ≡ (t.limit + edt, part.Core so.core) ∷ remove_at p so.rest)
        × (remove_at p ((t.limit + edt, so.item) ∷ as_some so.rest) ≡ (t.limit + edt, so.item) ∷ as_some (remove_at p so.rest))
    gone = face_gone t c0.view edt p so.core so.item face.0 so.rest taken.number inside.0 taken.claims taken.only so.awake face.1

    hand_now : d.parts ≡ (t.limit + edt, so.item) ∷ as_some (remove_at p so.rest)
    hand_now = told.2 ∙ (ap (remove_at p) so.hand ∙ gone.1)

    pub gave_face : GaveFaces t edt (drop (k + 1) (reverse places)) c0 d
    gave_face = record {
      core = so.core;
      item = so.item;
      rest = remove_at p so.rest;
      first = so.first;
      first_hand = so.first_hand;
      awake = so.awake;
      table = told.0 ∙ so.table;
      view = told.1 ∙ (ap (λ (v : OcrView). with_parts v (remove_at p v.parts)) so.view ∙ ap (with_parts c0.view) gone.0);
      hand = hand_now;
      left_is = λ q. let a = weigh_remove (one_at q) p so.rest there in let b = weighs q in omega (arith, a, b);
    }

    pub face_work : (table : OcrTable) (q : Checked) → AtWork table q c → AtWork table q d
    face_work table q work =
        work_still table q c d (with_parts c.view (remove_at p c.view.parts)) work told.0 told.1 (parts_calm c.view _)
        (let r = told.3 in omega (arith, r))
        (let s = told.4 in let a = ap (λ (l : Hands). length l) so.hand in let b = ap (λ (l : Hands). length l) hand_now in
        let m = some_length so.rest in let n = some_length (remove_at p so.rest) in let l = less_long p so.rest there in omega (arith, s, a, b, m, n, l))

-- ALL that is kept, without a claim
pub record GaveAll (old new : OcrKnown) (k : ℕ) : Type 0 where
  pub table : new.table ≡ old.table
  pub view : new.view ≡ with_parts old.view (drop k old.view.parts)
  pub hand : new.parts ≡ drop k old.parts

module _ (t : OcrTerms) (places : List ℕ) (k : ℕ) (c0 c : OcrKnown) (keeps : KeepsLoose t places c0) (lt : k < length places) (so : GaveAll c0 c k) where
  abbrev pub q : ℕ
  q = get_or places k 0

  brief : k < length c0.view.parts
  brief = let a = keys_length c0.view.parts in let b = ap (λ (l : List ℕ). length l) keeps.kept in omega (arith, a, b, lt)

  first : (x : Part) × (drop k c0.view.parts ≡ (q, x) ∷ drop (suc k) c0.view.parts) × (drop k (as_some c0.view.parts) ≡ (q, Some x) ∷ drop (suc k) (as_some c0.view.parts))
  first = subst (λ (ns : List ℕ). (x : Part) × (drop k c0.view.parts ≡ (get_or ns k 0, x) ∷ drop (suc k) c0.view.parts) × (drop k (as_some c0.view.parts) ≡ (get_or ns k 0, Some x) ∷ drop (suc k) (as_some c0.view.parts))) keeps.kept (drop_at c0.view.parts k brief)

  seen_now : c.view ≡ with_parts c0.view ((q, first.0) ∷ drop (suc k) c0.view.parts)
  seen_now = so.view ∙ ap (with_parts c0.view) first.1

  has_now : c.parts ≡ (q, Some first.0) ∷ drop (suc k) (as_some c0.view.parts)
  has_now = so.hand ∙ (ap (λ (l : Hands). drop k l) keeps.hand ∙ first.2)

  loose_may : MayGive meaning t (with_parts c0.view ((q, first.0) ∷ drop (suc k) c0.view.parts)) ((q, Some first.0) ∷ drop (suc k) (as_some c0.view.parts)) q
  loose_may = record {
    hand = first.0;
    at_hand = rw (number_same q) refl;
    keeps = record { kept = first.0; keeps = rw (number_same q) refl; alike = refl };
    rests = λ u runs same. keeps.none u runs;
    loose = λ J fits n least tied. absurd (let none : 1 ≤ 0 = subst (λ (l : List ℕ). 1 ≤ times n l) keeps.claims least in omega (arith, none));
  }

  pub may_loose : MayGive meaning t c.view c.parts q
  may_loose =
      subst (λ (v : OcrView). MayGive meaning t v c.parts q) (sym seen_now)
      (subst (λ (h : Hands). MayGive meaning t (with_parts c0.view ((q, first.0) ∷ drop (suc k) c0.view.parts)) h q) (sym has_now) loose_may)

  pub loose_fits : q ≤ 2 * t.limit
  loose_fits = let b = all_at (λ n. n ≤ t.limit + t.limit) places k keeps.within lt in omega (arith, b)

  module _ (d : OcrKnown) (open_run : c.view.closed ≡ None) (tells : GiveTells c d q) where
    told' : (d.table ≡ c.table) × (d.view ≡ without_part c.view q) × (d.parts ≡ remove_at q c.parts) × (d.room ≡ c.room) × (d.spare ≡ c.spare + 1)
    told' = gave c d q open_run tells

    gone_hand : remove_at q c.parts ≡ drop (suc k) (as_some c0.view.parts)
    gone_hand = ap (remove_at q) has_now ∙ rw (number_same q) refl

    pub gave_one : GaveAll c0 d (suc k)
    gave_one = record {
      table = told'.0 ∙ so.table;
      view = told'.1 ∙ (ap (λ (v : OcrView). with_parts v (remove_at q v.parts)) seen_now ∙ ap (with_parts c0.view) (rw (number_same q) refl));
      hand = told'.2 ∙ (gone_hand ∙ ap (λ (l : Hands). drop (suc k) l) (sym keeps.hand));
    }

    pub loose_work : (table : OcrTable) (p : Checked) → AtWork table p c → AtWork table p d
    loose_work table p work =
        work_still table p c d (with_parts c.view (remove_at q c.view.parts)) work told'.0 told'.1 (parts_calm c.view _)
        (let r = told'.3 in omega (arith, r))
        (let s = told'.4 in let a = ap (λ (l : Hands). length l) has_now in let b = ap (λ (l : Hands). length l) (told'.2 ∙ gone_hand) in omega (arith, s, a, b))

drop_all : {A : Type 0} (xs : List A) (k : ℕ) → length xs ≤ k → drop k xs ≡ []
drop_all [] zero is = refl
drop_all [] (suc k) is = refl
drop_all (x ∷ xs) zero is = absurd (omega (arith, is))
drop_all (x ∷ xs) (suc k) is = drop_all xs k (omega (arith, is))

-- BEFORE THE FIRST and behind the last
pub none_gave : (t : OcrTerms) (edt : ℕ) (places : List ℕ) (c : OcrKnown) → KeepsFaces t edt places c → GaveFaces t edt (reverse places) c c
none_gave t edt places c keeps = record {
  core = keeps.core;
  item = keeps.item;
  rest = keeps.faces;
  first = ap (λ (l : List (ℕ × Part)). take 1 l) keeps.kept;
  first_hand = ap (λ (l : Hands). take 1 l) keeps.hand;
  awake = keeps.awake;
  table = refl;
  view = ap (with_parts c.view) keeps.kept;
  hand = keeps.hand;
  left_is = λ q. weigh_numbers (one_at q) keeps.faces ∙ (ap (times q) keeps.places_are ∙ sym (sum_reversed (one_at q) places));
}

pub all_given : (t : OcrTerms) (edt : ℕ) (places : List ℕ) (k : ℕ) (c0 c : OcrKnown) → length (reverse places) ≤ k → GaveFaces t edt (drop k (reverse places)) c0 c → (c.view ≡ with_parts c0.view (take 1 c0.view.parts)) × (c.parts ≡ take 1 c0.parts)
all_given t edt places k c0 c end so =
    let none : so.rest ≡ [] = none_left so.rest (λ q. so.left_is q ∙ ap (times q) (drop_all (reverse places) k end)) in (
      so.view ∙ ap (with_parts c0.view) (ap (λ (l : List (ℕ × Part)). (t.limit + edt, part.Core so.core) ∷ l) none ∙ sym so.first),
      so.hand ∙ (ap (λ (l : List (ℕ × Part)). (t.limit + edt, so.item) ∷ as_some l) none ∙ sym so.first_hand),
    )

pub none_loose : (c : OcrKnown) → GaveAll c c 0
none_loose c = record { table = refl; view = refl; hand = refl }

pub all_loose : (t : OcrTerms) (places : List ℕ) (k : ℕ) (c0 c : OcrKnown) → KeepsLoose t places c0 → length places ≤ k → GaveAll c0 c k → (c.view ≡ with_parts c0.view []) × (c.parts ≡ [])
all_loose t places k c0 c keeps end so =
    let many : length c0.view.parts ≤ k = let a = keys_length c0.view.parts in let b = ap (λ (l : List ℕ). length l) keeps.kept in omega (arith, a, b, end) in
    let more : length (as_some c0.view.parts) ≤ k = let a = some_length c0.view.parts in omega (arith, a, many) in (
      so.view ∙ ap (with_parts c0.view) (drop_all c0.view.parts k many),
      so.hand ∙ (ap (λ (l : Hands). drop k l) keeps.hand ∙ drop_all (as_some c0.view.parts) k more),
    )
