-- The parts of a clerk, as they are taken, lifted, entered and given back.
use Rattle.std.proofs.Common.{◌≡◌, ◌≢◌, ℕ, zero, suc, ◌+◌, ◌≤◌, ◌<◌, ◌==◌, Bool, true, false, List, [], ◌∷◌, ◌++◌, length, take, get_or, Option, Some, None, refl, ap, sym, ◌∙◌, subst, arith}
use Rattle.std.proofs.lemmas.Bool.{eqb-true}
use Rattle.std.proofs.lemmas.List.{length-append, append_assoc, append-nil}
use Rattle.ocr_base.proofs.Booleans.{same as number_same}
use Rattle.ocr_body_code.specs.declared.checked.Checked.{Checked}
use Rattle.ocr_machine_parts.specs.declared.part.Part.{Part}
use Rattle.ocr_worker_machine.specs.Clerks.{OcrView}
use Rattle.ocr_worker_machine.specs.Ocr.{meaning}
use Rattle.ocr_turns_rule.specs.Contract.{TakeTells}
use Rattle.ocr_turns_rule.specs.Sums.{as_some, find, keys, one_at, replace, replace_all, weigh}
use Rattle.ocr_turns_rule.specs.declared.answers.Taken.TheVariants as taken
use Rattle.ocr_worker_clerk.specs.Entry.{OcrKnown}
use Rattle.ocr_worker_clerk.specs.Work.{AtWork, OcrTable, Stays, Took, in_hand, lifted}
use Rattle.ocr_turns_rule.proofs.Numbered.{weigh_keys}
use Rattle.ocr_worker_clerk.proofs.Goes.{Calm, stays_still, work_still}

module _ {A : Type 0} where
  pub keys_append : (xs ys : List (ℕ × A)) → keys (xs ++ ys) ≡ keys xs ++ keys ys
  keys_append [] ys = refl
  keys_append (x ∷ xs) ys = ap (λ (l : List ℕ). x.0 ∷ l) (keys_append xs ys)

  pub keys_length : (xs : List (ℕ × A)) → length (keys xs) ≡ length xs
  keys_length [] = refl
  keys_length (x ∷ xs) = let r = keys_length xs in omega (arith, r)

  pub some_append : (xs ys : List (ℕ × A)) → as_some (xs ++ ys) ≡ as_some xs ++ as_some ys
  some_append [] ys = refl
  some_append (x ∷ xs) ys = ap (λ (l : List (ℕ × Option A)). (x.0, Some x.1) ∷ l) (some_append xs ys)

  pub some_keys : (xs : List (ℕ × A)) → keys (as_some xs) ≡ keys xs
  some_keys [] = refl
  some_keys (x ∷ xs) = ap (λ (l : List ℕ). x.0 ∷ l) (some_keys xs)

  pub some_length : (xs : List (ℕ × A)) → length (as_some xs) ≡ length xs
  some_length [] = refl
  some_length (x ∷ xs) = let r = some_length xs in omega (arith, r)

-- TAKING
pub took_one : (old new : OcrKnown) (place : ℕ) → TakeTells meaning taken.Mine old new place → Took old new (place ∷ [])
took_one old new place tells = record {
  parts = (place, tells.0) ∷ [];
  places_are = refl;
  view = tells.3;
  hand = tells.4;
  sees = λ _ t terms unclosed. let s = tells.8 t terms unclosed in (s.0, s.2);
}

took_calm : (u : OcrView) (ps : List (ℕ × Part)) → Calm u (record u { parts = ps })
took_calm u ps = record { terms = refl; root = refl; seat = refl; out = refl; joined = refl; log = refl; weight = refl; drawn = refl; full = refl; reached = refl; closed = refl; stake = omega arith; raised = refl; ended = refl }

pub took_stays : (old new : OcrKnown) (place : ℕ) → TakeTells meaning taken.Mine old new place → Stays old new
took_stays old new place tells = stays_still old new (record old.view { parts = old.view.parts ++ (place, tells.0) ∷ [] }) tells.2 tells.3 (took_calm old.view _)

pub took_work : (table : OcrTable) (p : Checked) (old new : OcrKnown) (place : ℕ) → AtWork table p old → TakeTells meaning taken.Mine old new place → AtWork table p new
took_work table p old new place work tells =
    work_still table p old new (record old.view { parts = old.view.parts ++ (place, tells.0) ∷ [] }) work tells.2 tells.3 (took_calm old.view _)
    (let r = tells.5 in omega (arith, r))
    (let s = tells.6 in let l = ap (λ (ps : List (ℕ × Option Part)). length ps) tells.4 ∙ length-append old.parts ((place, Some tells.0) ∷ []) in omega (arith, s, l))

pub took_none : (c : OcrKnown) → Took c c []
took_none c = record {
  parts = [];
  places_are = refl;
  view = ap (λ (l : List (ℕ × Part)). record c.view { parts = l }) (sym (append-nil c.view.parts));
  hand = sym (append-nil c.parts);
  sees = λ some. absurd (omega (arith, some));
}

pub took_more : (a b c : OcrKnown) (ps : List ℕ) (p : ℕ) → Took a b ps → Took b c (p ∷ []) → Took a c (ps ++ p ∷ [])
took_more a b c ps p one two = record {
  parts = one.parts ++ two.parts;
  places_are = keys_append one.parts two.parts ∙ (ap (λ (l : List ℕ). l ++ keys two.parts) one.places_are ∙ ap (λ (l : List ℕ). ps ++ l) two.places_are);
  view = two.view ∙ (ap (λ (w : OcrView). record w { parts = w.parts ++ two.parts }) one.view ∙ ap (λ (l : List (ℕ × Part)). record a.view { parts = l }) (append_assoc a.view.parts one.parts two.parts));
  hand = two.hand ∙ (ap (λ (l : List (ℕ × Option Part)). l ++ as_some two.parts) one.hand ∙ (append_assoc a.parts (as_some one.parts) (as_some two.parts) ∙ ap (λ (l : List (ℕ × Option Part)). a.parts ++ l) (sym (some_append one.parts two.parts))));
  sees = λ some. two.sees (omega arith);
}

pub took_length : (a b : OcrKnown) (ps : List ℕ) → Took a b ps → length b.parts ≡ length a.parts + length ps
took_length a b ps took =
    ap (λ (l : List (ℕ × Option Part)). length l) took.hand ∙ (length-append a.parts (as_some took.parts) ∙ (let s = some_length took.parts in let k = keys_length took.parts in let l = ap (λ (ns : List ℕ). length ns) took.places_are in omega (arith, s, k, l)))

-- LIFTING. The first k of a list are lifted
abbrev pub some_from : ℕ → List (ℕ × Part) → List (ℕ × Option Part)
some_from zero xs = as_some xs
some_from (suc k) [] = []
some_from (suc k) (x ∷ xs) = (x.0, None) ∷ some_from k xs

pub all_lifted : (xs : List (ℕ × Part)) (k : ℕ) → length xs ≤ k → some_from k xs ≡ lifted (as_some xs)
all_lifted [] zero most = refl
all_lifted [] (suc k) most = refl
all_lifted (x ∷ xs) zero most = absurd (omega (arith, most))
all_lifted (x ∷ xs) (suc k) most = ap (λ (l : List (ℕ × Option Part)). (x.0, None) ∷ l) (all_lifted xs k (omega (arith, most)))

pub in_hand_some : (xs : List (ℕ × Part)) → in_hand (as_some xs) ≡ xs
in_hand_some [] = refl
in_hand_some (x ∷ xs) = ap (λ (l : List (ℕ × Part)). x ∷ l) (in_hand_some xs)

pub lifted_keys : (xs : List (ℕ × Option Part)) → keys (lifted xs) ≡ keys xs
lifted_keys [] = refl
lifted_keys (x ∷ xs) = ap (λ (l : List ℕ). x.0 ∷ l) (lifted_keys xs)

pub apart_is : (m n : ℕ) → m ≢ n → (m == n) ≡ false
apart_is m n off = by_case (m == n) refl
  where
    by_case : (b : Bool) → (m == n) ≡ b → b ≡ false
    by_case true is = absurd (off (eqb-true m n is))
    by_case false is = refl

-- the one that is lifted next
pub record NextLift (xs : List (ℕ × Part)) (k p : ℕ) : Type 0 where
  pub item : Part
  pub found : find p (some_from k xs) ≡ Some (Some item)
  pub replaced : replace p None (some_from k xs) ≡ some_from (suc k) xs
  pub taken : take (suc k) xs ≡ take k xs ++ (p, item) ∷ []

pub next_lift : (xs : List (ℕ × Part)) (k : ℕ) → k < length xs → ((p : ℕ) → weigh (one_at p) xs ≤ 1) → NextLift xs k (get_or (keys xs) k 0)
next_lift [] k lt once = absurd (omega (arith, lt))
next_lift (x ∷ xs) zero lt once = let same = number_same x.0 in record {
  item = x.1;
  found = rw same refl;
  replaced = rw same refl;
  taken = refl;
}
next_lift (x ∷ xs) (suc k) lt once =
    let fewer : k < length xs = omega (arith, lt) in
    let r = next_lift xs k fewer (λ p. let o = once p in omega (arith, o)) in
    let p = get_or (keys xs) k 0 in
    let there = key_weighs xs k fewer in
    let off = apart_is p x.0 (λ is. let o = once p in let one : one_at p x.0 ≡ 1 = rw (sym is) (rw (number_same p) refl) in omega (arith, o, one, there)) in
    record {
      item = r.item;
      found = rw off r.found;
      replaced = rw off (ap (λ (l : List (ℕ × Option Part)). (x.0, None) ∷ l) r.replaced);
      taken = ap (λ (l : List (ℕ × Part)). x ∷ l) r.taken;
    }
  where
    key_weighs : (xs : List (ℕ × Part)) (k : ℕ) → k < length xs → 1 ≤ weigh (one_at (get_or (keys xs) k 0)) xs
    key_weighs [] k lt = absurd (omega (arith, lt))
    key_weighs (x ∷ xs) zero lt = let one : one_at x.0 x.0 ≡ 1 = rw (number_same x.0) refl in omega (arith, one)
    key_weighs (x ∷ xs) (suc k) lt = let r = key_weighs xs k (omega (arith, lt)) in omega (arith, r)

-- ENTERING replaces all
module _ {A : Type 0} where
  skip_all : (cs : List (ℕ × A)) (y : ℕ × A) (ys : List (ℕ × A)) → weigh (one_at y.0) cs ≡ 0 → replace_all cs (y ∷ ys) ≡ y ∷ replace_all cs ys
  skip_all [] y ys none = refl
  skip_all (c ∷ cs) y ys none =
      let off : (c.0 == y.0) ≡ false = apart_is c.0 y.0 (λ is. let one : one_at y.0 c.0 ≡ 1 = rw is (rw (number_same y.0) refl) in omega (arith, none, one)) in
      rw off (skip_all cs y (replace c.0 c.1 ys) (omega (arith, none)))

  pub replace_whole : (cs xs : List (ℕ × A)) → keys cs ≡ keys xs → ((p : ℕ) → weigh (one_at p) cs ≤ 1) → replace_all cs xs ≡ cs
  replace_whole [] [] is once = refl
  replace_whole [] (x ∷ xs) is once = cc is
  replace_whole (c ∷ cs) [] is once = cc is
  replace_whole (c ∷ cs) (x ∷ xs) is once =
      let h : c.0 ≡ x.0 = cc is in let t : keys cs ≡ keys xs = cc is in
      let here : (c.0 == x.0) ≡ true = rw (sym h) (number_same c.0) in
      let none : weigh (one_at c.0) cs ≡ 0 = let o = once c.0 in let one : one_at c.0 c.0 ≡ 1 = rw (number_same c.0) refl in omega (arith, o, one) in
      let rest = replace_whole cs xs t (λ p. let o = once p in omega (arith, o)) in
      rw here (skip_all cs c xs none ∙ ap (λ (l : List (ℕ × A)). c ∷ l) rest)

-- PREFIXES
pub take_short : (ns : List ℕ) (k : ℕ) → k < length ns → length (take k ns) ≡ k
take_short [] k lt = absurd (omega (arith, lt))
take_short (n ∷ ns) zero lt = refl
take_short (n ∷ ns) (suc k) lt = let r = take_short ns k (omega (arith, lt)) in omega (arith, r)

pub take_next : (ns : List ℕ) (k : ℕ) → k < length ns → take (suc k) ns ≡ take k ns ++ get_or ns k 0 ∷ []
take_next [] k lt = absurd (omega (arith, lt))
take_next (n ∷ ns) zero lt = refl
take_next (n ∷ ns) (suc k) lt = ap (λ (l : List ℕ). n ∷ l) (take_next ns k (omega (arith, lt)))

pub take_all : {A : Type 0} (xs : List A) (k : ℕ) → length xs ≤ k → take k xs ≡ xs
take_all [] zero most = refl
take_all [] (suc k) most = refl
take_all (x ∷ xs) zero most = absurd (omega (arith, most))
take_all (x ∷ xs) (suc k) most = ap (λ l. x ∷ l) (take_all xs k (omega (arith, most)))

-- all that stand at hand
pub hand_keys : (all : List (ℕ × Option Part)) → all ≡ as_some (in_hand all) → keys (in_hand all) ≡ keys all
hand_keys all is = sym (some_keys (in_hand all)) ∙ ap (λ (l : List (ℕ × Option Part)). keys l) (sym is)

pub hand_once : (all : List (ℕ × Option Part)) → all ≡ as_some (in_hand all) → ((p : ℕ) → weigh (one_at p) all ≤ 1) → (p : ℕ) → weigh (one_at p) (in_hand all) ≤ 1
hand_once all is once p = let w = weigh_keys (one_at p) (in_hand all) all (hand_keys all is) in let o = once p in omega (arith, w, o)

pub hand_length : (all : List (ℕ × Option Part)) → all ≡ as_some (in_hand all) → length (in_hand all) ≡ length (keys all)
hand_length all is = sym (keys_length (in_hand all)) ∙ ap (λ (l : List ℕ). length l) (hand_keys all is)

-- the place that is lifted next, of those that the caller lists
pub next_of : (all : List (ℕ × Option Part)) (places : List ℕ) (k : ℕ) → all ≡ as_some (in_hand all) → keys all ≡ places → ((p : ℕ) → weigh (one_at p) all ≤ 1) → k < length places → NextLift (in_hand all) k (get_or places k 0)
next_of all places k is named once lt =
    let ks = hand_keys all is ∙ named in
    let short : k < length (in_hand all) = let a = hand_length all is in let b = ap (λ (l : List ℕ). length l) named in omega (arith, a, b, lt) in
    subst (λ (ns : List ℕ). NextLift (in_hand all) k (get_or ns k 0)) ks (next_lift (in_hand all) k short (hand_once all is once))

pub lifted_all : (all : List (ℕ × Option Part)) (places : List ℕ) (k : ℕ) → all ≡ as_some (in_hand all) → keys all ≡ places → length places ≤ k → (some_from k (in_hand all) ≡ lifted all) × (take k (in_hand all) ≡ in_hand all)
lifted_all all places k is named end =
    let most : length (in_hand all) ≤ k = let a = hand_length all is in let b = ap (λ (l : List ℕ). length l) named in omega (arith, a, b, end) in (
      all_lifted (in_hand all) k most ∙ ap (λ (l : List (ℕ × Option Part)). lifted l) (sym is),
      take_all (in_hand all) k most,
    )
