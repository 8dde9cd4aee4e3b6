-- The creation of an EDT that is given nothing yet, on the parts at hand.
use Rattle.std.proofs.Common.{◌≡◌, ℕ, ◌+◌, ◌≤◌, ◌==◌, Bool, true, false, ◌||◌, if◌then◌else◌, List, [], ◌∷◌, ◌++◌, length, Option, Some, Result, Ok, Err, refl, ap, sym, ◌∙◌, subst, arith}
use Rattle.std.proofs.lemmas.Bool.{eqb-true}
use Rattle.std.specs.Prelude.{IfOk}
use Rattle.std.proofs.lemmas.Grind.{common_steps}
use Rattle.ocr_base.proofs.Booleans.{same as number_same}
use Rattle.ocr_body_code.specs.declared.checked.Checked.{Checked}
use Rattle.ocr_machine_parts.specs.declared.part.Part.{Part}
use Rattle.ocr_machine_parts.specs.declared.part.Part.TheVariants as part
use Rattle.ocr_guid.specs.declared.Code.TheVariants as code
use Rattle.ocr_guid.specs.declared.Code.{Code}
use Rattle.ocr_guid.specs.declared.Code.TheVariants.{Einval}
use Rattle.ocr_base.specs.declared.limits.TheConstants.{MOST_PARAMETERS, MOST_DEPENDENCES}
use Rattle.ocr_template.specs.declared.Template.{Template}
use Rattle.ocr_template.specs.Template.{count_meant, counts_of, is_refused}
use Rattle.ocr_body_meaning.specs.Behaviour.{IsNextWith}
use Rattle.ocr_body_meaning.specs.Body.{Body, says}
use Rattle.ocr_body_meaning.specs.Holds.{Holds, after_call}
use Rattle.ocr_body_meaning.specs.declared.call.Answer.{Answer}
use Rattle.ocr_body_meaning.specs.declared.call.Call as body
use Rattle.ocr_machine_history.specs.declared.entry.Entry.{Entry}
use Rattle.ocr_machine_parts.specs.Codes.{code_of}
use Rattle.ocr_machine_parts.specs.Taken.{as_face, face_in, has, is_within, look, parts_in, put}
use Rattle.ocr_machine_parts.specs.Taken as taken
use Rattle.ocr_slots.specs.Slots.{state_of}
use Rattle.ocr_machine_parts.specs.Effects.{changed, new_core, new_face}
use Rattle.ocr_machine_parts.specs.Progress.{with_core, with_face}
use Rattle.ocr_machine_parts.specs.Kinds.{home_on}
use Rattle.ocr_machine_parts.specs.Parts.{Parts, new_identity}
use Rattle.ocr_machine_effects.specs.AtHand.{AtHand, Becomes, HasCore, HasFace, listed, with_part}
use Rattle.ocr_machine_effects.proofs.Places.{edt_made}
use Rattle.ocr_turns_rule.specs.Debts.{listed as listed_made}
use Rattle.ocr_turns_rule.specs.Live.{raising}
use Rattle.ocr_turns_rule.specs.Steps.{deed, logged}
use Rattle.ocr_turns_rule.proofs.Numbered.{weigh_keys}
use Rattle.ocr_worker_machine.specs.Ocr.{counts, slots_meant}
use Rattle.ocr_worker_clerk.proofs.Entries.{turns_keys}
use Rattle.ocr_worker_access.proofs.Cores.{first_core}
use Rattle.ocr_worker_access.proofs.Entered.{call_done, call_leaves}
use Rattle.ocr_worker_access.proofs.Readied.{lifted_duties}
use Rattle.ocr_worker_calls.proofs.Makes.{counts_kept}
use Rattle.ocr_turns_rule.specs.Steps.{Sees, with_drawn}
use Rattle.ocr_turns_rule.specs.Sums.{as_some, find, keys, one_at, replace, sum_of, weigh}
use Rattle.ocr_turns_rule.specs.Sums as sums
use Rattle.ocr_turns_rule.proofs.Totals.{one_here}
use Rattle.ocr_worker_machine.specs.Clerks.{IsStep, OcrTerms, OcrView}
use Rattle.ocr_worker_machine.specs.Ocr.{meaning}
use Rattle.ocr_worker_clerk.specs.Entry.{CanMake, OcrKnown}
use Rattle.ocr_worker_clerk.specs.Work.{AtWork, EntersAs, HasFewDuties, OcrTable, Took, in_hand, lifted}
use Rattle.ocr_worker_clerk.proofs.Hands.{in_hand_some, keys_append, lifted_keys, replace_whole, some_append, some_keys}
use Rattle.ocr_worker_clerk.proofs.Whole.{lifted_length, lifted_work}
use Rattle.ocr_worker_access.specs.Access.{AreOthers, HasEntered, HasLifted, HasTaken, IsCalled, Runs, first_in, holds_at, home_at, places_made}
use Rattle.ocr_worker_access.specs.Served.{own_log}
use Rattle.ocr_worker_access.proofs.Asked.{took_is}
use Rattle.ocr_worker_access.proofs.Called.{can_call, keys_at, others_are}
use Rattle.ocr_worker_access.specs.Calls.{IsAnswer, faces_of}
use Rattle.ocr_worker_access.proofs.Phases.{look_found, number_within}
use Rattle.ocr_worker_calls.specs.Creation.{HasAtHand, IsMadeOf, Suits, bare_core, call_of, made_answer, made_entry}
use Rattle.ocr_worker_calls.specs.declared.creation.Bare.{Bare}

-- A PART in the place of another
module _ {A : Type 0} where
  pub find_replaced : (p : ℕ) (a : A) (xs : List (ℕ × A)) (y : A) → find p xs ≡ Some y → find p (replace p a xs) ≡ Some a
  find_replaced p a [] y is = cc is
  find_replaced p a (x ∷ xs) y is = elim (p == x.0) as (λ b. (p == x.0) ≡ b → (if b then Some x.1 else find p xs) ≡ Some y → find p (if b then (p, a) ∷ xs else x ∷ replace p a xs) ≡ Some a) [
    | true ↦ λ _ _. rw (number_same p) refl
    | false ↦ λ off is. rw off (find_replaced p a xs y is)
  ] refl is

  pub replace_again : (p : ℕ) (a b : A) (xs : List (ℕ × A)) → replace p b (replace p a xs) ≡ replace p b xs
  replace_again p a b [] = refl
  replace_again p a b (x ∷ xs) = elim (p == x.0) as (λ t. (p == x.0) ≡ t → replace p b (if t then (p, a) ∷ xs else x ∷ replace p a xs) ≡ (if t then (p, b) ∷ xs else x ∷ replace p b xs)) [
    | true ↦ λ _. rw (number_same p) refl
    | false ↦ λ off. rw off (ap (λ (l : List (ℕ × A)). x ∷ l) (replace_again p a b xs))
  ] refl

  pub find_apart : (p q : ℕ) (a : A) (xs : List (ℕ × A)) → (p == q) ≡ false → find p (replace q a xs) ≡ find p xs
  find_apart p q a [] off = refl
  find_apart p q a (x ∷ xs) off = elim (q == x.0) as (λ b. (q == x.0) ≡ b → find p (if b then (q, a) ∷ xs else x ∷ replace q a xs) ≡ (if p == x.0 then Some x.1 else find p xs)) [
    | true ↦ λ is. let two : (p == x.0) ≡ false = subst (λ (n : ℕ). (p == n) ≡ false) (eqb-true q x.0 is) off in rw (off, two) refl
    | false ↦ λ _. elim (p == x.0) as (λ b. (if b then Some x.1 else find p (replace q a xs)) ≡ (if b then Some x.1 else find p xs)) [ true ↦ refl | false ↦ find_apart p q a xs off ]
  ] refl

  pub replace_length : (p : ℕ) (a : A) (xs : List (ℕ × A)) → length (replace p a xs) ≡ length xs
  replace_length p a [] = refl
  replace_length p a (x ∷ xs) = elim (p == x.0) as (λ b. length (if b then (p, a) ∷ xs else x ∷ replace p a xs) ≡ length (x ∷ xs)) [
    | true ↦ refl
    | false ↦ let r = replace_length p a xs in omega (arith, r)
  ]

  pub find_before : (p : ℕ) (xs ys : List (ℕ × A)) (y : A) → find p xs ≡ Some y → find p (xs ++ ys) ≡ Some y
  find_before p [] ys y is = cc is
  find_before p (x ∷ xs) ys y is = elim (p == x.0) as (λ b. (if b then Some x.1 else find p xs) ≡ Some y → (if b then Some x.1 else find p (xs ++ ys)) ≡ Some y) [
    | true ↦ λ is. is
    | false ↦ λ is. find_before p xs ys y is
  ] is

  pub replace_some : (p : ℕ) (a : A) (xs : List (ℕ × A)) → replace p (Some a) (as_some xs) ≡ as_some (replace p a xs)
  replace_some p a [] = refl
  replace_some p a (x ∷ xs) = elim (p == x.0) as (λ b. (if b then (p, Some a) ∷ as_some xs else (x.0, Some x.1) ∷ replace p (Some a) (as_some xs)) ≡ as_some (if b then (p, a) ∷ xs else x ∷ replace p a xs)) [
    | true ↦ refl
    | false ↦ ap (λ (l : List (ℕ × Option A)). (x.0, Some x.1) ∷ l) (replace_some p a xs)
  ]

pub put_is : (ps : List (ℕ × Part)) (n : ℕ) (x : Part) → replace n x ps ≡ put ps n x
put_is [] n x = refl
put_is (p ∷ ps) n x = elim (n == p.0) as (λ b. (n == p.0) ≡ b → (if b then (n, x) ∷ ps else p ∷ replace n x ps) ≡ put (p ∷ ps) n x) [
  | true ↦ λ is. let same : n ≡ p.0 = eqb-true n p.0 is in subst (λ (k : ℕ). (k, x) ∷ ps ≡ put (p ∷ ps) k x) (sym same) (rw (number_same p.0) refl)
  | false ↦ λ off. rw (other n p.0 off) (ap (λ (l : List (ℕ × Part)). p ∷ l) (put_is ps n x))
] refl
  where
    other : (a b : ℕ) → (a == b) ≡ false → (b == a) ≡ false
    other a b off = grind (arith, common_steps)

-- ALL AT HAND
pub at_first : (t : OcrTerms) (edt : ℕ) (a b : OcrKnown) (places : List ℕ) → HasTaken t edt a b places → a.view.drawn ≡ [] → HasAtHand t edt a b places []
at_first t edt a b places h none = record {
  core = h.core;
  kept = h.kept;
  taken = h.taken;
  is = h.is;
  was = h.was;
  places_are = h.places_are;
  view = h.view ∙ ap (λ (ns : List ℕ). record a.view { parts = (t.limit + edt, part.Core h.kept) ∷ h.taken; drawn = ns }) none;
  hand = h.hand;
  sees = h.sees;
}

pub at_drawn : (t : OcrTerms) (edt : ℕ) (a b c : OcrKnown) (places : List ℕ) (n : ℕ) → HasAtHand t edt a b places [] → c.view ≡ with_drawn b.view n → c.parts ≡ b.parts → Sees meaning c.view → HasAtHand t edt a c places (n ∷ [])
at_drawn t edt a b c places n h view parts sees = record {
  core = h.core;
  kept = h.kept;
  taken = h.taken;
  is = h.is;
  was = h.was;
  places_are = h.places_are;
  view = view ∙ ap (λ (v : OcrView). with_drawn v n) h.view;
  hand = parts ∙ h.hand;
  sees = sees;
}

pub at_more : (t : OcrTerms) (edt : ℕ) (a b c : OcrKnown) (places drawn : List ℕ) (p : ℕ) → HasAtHand t edt a b places drawn → Took b c (p ∷ []) → HasAtHand t edt a c (places ++ p ∷ []) drawn
at_more t edt a b c places drawn p h took = record {
  core = h.core;
  kept = h.kept;
  taken = h.taken ++ took.parts;
  is = h.is;
  was = h.was;
  places_are = keys_append h.taken took.parts ∙ (ap (λ (l : List ℕ). l ++ keys took.parts) h.places_are ∙ ap (λ (l : List ℕ). places ++ l) took.places_are);
  view = took.view ∙ ap (λ (v : OcrView). record v { parts = v.parts ++ took.parts }) h.view;
  hand = took.hand ∙ (ap (λ (l : List (ℕ × Option Part)). l ++ as_some took.parts) h.hand ∙ sym (some_append ((t.limit + edt, part.Core h.core) ∷ h.taken) took.parts));
  sees = took.sees (omega arith);
}

pub at_length : (t : OcrTerms) (edt : ℕ) (a b : OcrKnown) (places drawn : List ℕ) → HasAtHand t edt a b places drawn → length b.parts ≡ 1 + length places
at_length t edt a b places drawn h =
    let k = ap (λ (l : List ℕ). length l) h.places_are in
    let l = ap (λ (l : List (ℕ × Option Part)). length l) h.hand in
    let s = long h.taken in let m = keyed h.taken in omega (arith, k, l, s, m)
  where
    long : (ps : List (ℕ × Part)) → length (as_some ps) ≡ length ps
    long [] = refl
    long (x ∷ ps) = let r = long ps in omega (arith, r)

    keyed : (ps : List (ℕ × Part)) → length (keys ps) ≡ length ps
    keyed [] = refl
    keyed (x ∷ ps) = let r = keyed ps in omega (arith, r)

-- THE CLERK as it would be with all lifted
abbrev pub as_lifted : OcrKnown → OcrKnown
as_lifted c = record c { parts = lifted c.parts }

pub work_lifted : (table : OcrTable) (program : Checked) (c : OcrKnown) → AtWork table program c → AtWork table program (as_lifted c)
work_lifted table program c work = lifted_work table program c (as_lifted c) work refl refl (refl, refl, refl) (lifted_length c.parts)

pub to_lifted : (t : OcrTerms) (edt : ℕ) (a b : OcrKnown) (places drawn : List ℕ) → HasAtHand t edt a b places drawn → HasLifted t edt a (as_lifted b) places drawn (in_hand b.parts)
to_lifted t edt a b places drawn h = record {
  core = h.core;
  kept = h.kept;
  taken = h.taken;
  is = h.is;
  was = h.was;
  places_are = h.places_are;
  view = h.view;
  hand = ap (λ (l : List (ℕ × Option Part)). lifted l) h.hand;
  parts = ap in_hand h.hand ∙ in_hand_some ((t.limit + edt, part.Core h.core) ∷ h.taken);
  sees = h.sees;
}

pub at_hand : (t : OcrTerms) (edt : ℕ) (a b : OcrKnown) (places drawn : List ℕ) → HasAtHand t edt a b places drawn → b.parts ≡ as_some (in_hand b.parts)
at_hand t edt a b places drawn h = h.hand ∙ sym (ap (λ (l : List (ℕ × Option Part)). as_some (in_hand l)) h.hand ∙ ap as_some (in_hand_some ((t.limit + edt, part.Core h.core) ∷ h.taken)))

pub core_apart : (limit n : ℕ) → 1 ≤ n → n ≤ limit → ((limit + n) == n) ≡ false
core_apart limit n low high = grind (arith, common_steps)

-- THE CODE of a creation by a template that suits it
pub suits_done : (edt : ℕ) (F : ℕ → Part) (b : Bare) (made : Template) (slots : ℕ) → F b.template ≡ part.Template made → Suits b made slots → code_of edt F (call_of b) ≡ code.Done
suits_done edt F b made slots is suits = rw (is, suits.live, suits.counts, number_same (length b.params.now)) refl

pub template_face : (limit template : ℕ) (xs : List (ℕ × Option Part)) (made : Template) → is_within limit template ≡ true → find template xs ≡ Some (Some (part.Template made)) → face_in limit (in_hand xs) template ≡ part.Template made
template_face limit template xs made on found = rw on (ap as_face (look_found template xs (part.Template made) found))

pub none_drawn : (t : OcrTerms) (edt : ℕ) (a b : OcrKnown) (places drawn : List ℕ) → HasAtHand t edt a b places drawn → b.view.drawn ≡ drawn
none_drawn t edt a b places drawn h = ap (λ (v : OcrView). v.drawn) h.view

-- the face of the template, which is all that it names
pub faces_are : (limit : ℕ) (b : Bare) → is_within limit b.template ≡ true → faces_of limit 0 (call_of b) ≡ b.template ∷ []
faces_are limit b on = rw on refl

pub found_more : (p q : ℕ) (b c : OcrKnown) (y : Option Part) → Took b c (q ∷ []) → find p b.parts ≡ Some y → find p c.parts ≡ Some y
found_more p q b c y took is = ap (find p) took.hand ∙ find_before p b.parts (as_some took.parts) y is

-- A PART of the list, by its number
pub found_one : (ps : List (ℕ × Part)) (n : ℕ) → 1 ≤ weigh (one_at n) ps → (x : Part) × (find n (as_some ps) ≡ Some (Some x)) × (has ps n ≡ true)
found_one [] n some = absurd (omega (arith, some))
found_one (p ∷ ps) n some = elim (n == p.0) as (λ b. (n == p.0) ≡ b → 1 ≤ (if b then 1 else 0) + weigh (one_at n) ps → (x : Part) × (find n (as_some (p ∷ ps)) ≡ Some (Some x)) × (has (p ∷ ps) n ≡ true)) [
  | true ↦ λ is _. (p.1, rw is refl, subst (λ (k : ℕ). has (p ∷ ps) k ≡ true) (sym (eqb-true n p.0 is)) (rw (number_same p.0) refl))
  | false ↦ λ off some. let r = found_one ps n (omega (arith, some)) in (r.0, rw off r.1, either (p.0 == n) (has ps n) r.2)
] refl some
  where
    either : (a b : Bool) → b ≡ true → (a || b) ≡ true
    either true b is = refl
    either false b is = is

abbrev second : Result (ℕ × ℕ) Code → ℕ
second (Ok m) = m.1
second (Err e) = 0

counts_slots : (t : Template) (pc dc : ℕ) (m : ℕ × ℕ) → counts_of t pc dc ≡ Ok m → m.1 ≡ count_meant t.depc dc
counts_slots t pc dc m is = elim (is_refused t.paramc pc MOST_PARAMETERS || is_refused t.depc dc MOST_DEPENDENCES) as (λ b. (if b then Err Einval else Ok (count_meant t.paramc pc, count_meant t.depc dc)) ≡ Ok m → m.1 ≡ count_meant t.depc dc) [
  | true ↦ λ never. cc never
  | false ↦ λ same. ap (λ (r : Result (ℕ × ℕ) Code). second r) (sym same)
] is

-- THE CREATION, of a clerk that has all at hand
module _ (table : OcrTable) (program : Checked) (edt : ℕ) (b : Body) (first old : OcrKnown) (bare : Bare) (made : Template) (slots n : ℕ) (work : AtWork table program old) (runs : Runs table.1 edt b first) (next : IsNextWith (call_of bare) [] (says b (own_log first.view.log edt))) (within : is_within table.1.limit bare.template ≡ true) (home : home_at first (call_of bare) ≡ 0)
    (low : 1 ≤ n) (high : n ≤ table.1.limit) (hand : HasAtHand table.1 edt first old (bare.template ∷ n ∷ (table.1.limit + n) ∷ []) (n ∷ [])) (found : find bare.template old.parts ≡ Some (Some (part.Template made))) (suits : Suits bare made slots) where
  abbrev ps : List (ℕ × Part)
  ps = in_hand old.parts

  abbrev entry : Entry
  entry = made_entry edt (call_of bare) n

  abbrev answer : Answer
  answer = made_answer n

  hand_is : in_hand old.parts ≡ (table.1.limit + edt, part.Core hand.core) ∷ hand.taken
  hand_is = ap in_hand hand.hand ∙ in_hand_some ((table.1.limit + edt, part.Core hand.core) ∷ hand.taken)

  listed_at : sums.keys (in_hand old.parts) ≡ (table.1.limit + edt) ∷ bare.template ∷ n ∷ (table.1.limit + n) ∷ []
  listed_at = ap sums.keys hand_is ∙ ap (λ (l : List ℕ). (table.1.limit + edt) ∷ l) hand.places_are

  weighed : (p : ℕ) → weigh (one_at p) (in_hand old.parts) ≡ sum_of (one_at p) ((table.1.limit + edt) ∷ bare.template ∷ n ∷ (table.1.limit + n) ∷ [])
  weighed p = keys_at p (in_hand old.parts) ∙ ap (sum_of (one_at p)) listed_at

  face_one : (x : Part) × (find n (as_some (in_hand old.parts)) ≡ Some (Some x)) × (has (in_hand old.parts) n ≡ true)
  face_one = found_one (in_hand old.parts) n (let w = weighed n in let o = one_here n in omega (arith, w, o))

  core_one : (x : Part) × (find (table.1.limit + n) (as_some (in_hand old.parts)) ≡ Some (Some x)) × (has (in_hand old.parts) (table.1.limit + n) ≡ true)
  core_one = found_one (in_hand old.parts) (table.1.limit + n) (let w = weighed (table.1.limit + n) in let o = one_here (table.1.limit + n) in omega (arith, w, o))

  all_there : old.parts ≡ as_some (in_hand old.parts)
  all_there = at_hand table.1 edt first old (bare.template ∷ n ∷ (table.1.limit + n) ∷ []) (n ∷ []) hand

  pub face_found : (x : Part) × (find n old.parts ≡ Some (Some x))
  face_found = (face_one.0, ap (find n) all_there ∙ face_one.1)

  pub core_found : (x : Part) × (find (table.1.limit + n) old.parts ≡ Some (Some x))
  core_found = (core_one.0, ap (find (table.1.limit + n)) all_there ∙ core_one.1)

  pub places_are : faces_of table.1.limit 0 (call_of bare) ++ places_made table.1.limit (call_of bare) answer ≡ bare.template ∷ n ∷ (table.1.limit + n) ∷ []
  places_are = ap (λ (l : List ℕ). l ++ n ∷ (table.1.limit + n) ∷ []) (faces_are table.1.limit bare within)

  lift : HasLifted table.1 edt first (as_lifted old) (faces_of table.1.limit 0 (call_of bare) ++ places_made table.1.limit (call_of bare) answer) (n ∷ []) (in_hand old.parts)
  lift = subst (λ (ns : List ℕ). HasLifted table.1 edt first (as_lifted old) ns (n ∷ []) (in_hand old.parts)) (sym places_are) (to_lifted table.1 edt first old (bare.template ∷ n ∷ (table.1.limit + n) ∷ []) (n ∷ []) hand)

  answered : IsAnswer old.view (call_of bare) answer
  answered = record { drawn = none_drawn table.1 edt first old (bare.template ∷ n ∷ (table.1.limit + n) ∷ []) (n ∷ []) hand; refused = λ _ never. cc never; number = λ never. cc never; scope = refl; output = refl }

  template_at : face_in table.1.limit (in_hand old.parts) bare.template ≡ part.Template made
  template_at = template_face table.1.limit bare.template old.parts made within found

  code_is : answer.code ≡ code_of edt (face_in table.1.limit (in_hand old.parts)) (call_of bare)
  code_is = sym (suits_done edt (face_in table.1.limit (in_hand old.parts)) bare made slots template_at suits)

  pub can_create : CanMake table.1 old.view (made_entry edt (call_of bare) n) (record { members = []; parts = in_hand old.parts }) (in_hand old.parts)
  can_create = can_call table program edt b first (as_lifted old) 0 (call_of bare) answer [] [] (in_hand old.parts) (work_lifted table program old work) runs (sym home) lift next tt answered code_is refl

  pub others : AreOthers table.1 edt (faces_of table.1.limit 0 (call_of bare) ++ places_made table.1.limit (call_of bare) answer)
  others = others_are table program edt b first (as_lifted old) 0 (call_of bare) answer [] [] (in_hand old.parts) (work_lifted table program old work) runs (sym home) lift next tt answered code_is refl

  -- THE PARTS OF THE NEW EDT at their places, before the entry is made
  face_has : HasFace (listed table.1.limit (in_hand old.parts)) n
  face_has = record { within = number_within table.1.limit n low high; here = face_one.2 }

  core_has : HasCore (listed table.1.limit (in_hand old.parts)) n
  core_has = record { within = number_within table.1.limit n low high; here = core_one.2 }

  abbrev new_face_part : Part
  new_face_part = part.Edt (state_of slots [])

  abbrev new_core_part : Part
  new_core_part = part.Core (bare_core n bare made.function)

  abbrev later : AtHand
  later = with_part (with_part (listed table.1.limit (in_hand old.parts)) n (part.Edt (state_of slots []))) (table.1.limit + n) (part.Core (bare_core n bare made.function))

  becomes : Becomes (listed table.1.limit (in_hand old.parts)) later (with_core (with_face (parts_in table.1.limit (in_hand old.parts)) n (part.Edt (state_of slots []))) n (part.Core (bare_core n bare made.function)))
  becomes = edt_made (listed table.1.limit (in_hand old.parts)) later n (part.Edt (state_of slots [])) (part.Core (bare_core n bare made.function)) refl face_has core_has refl refl

  home_is : home_on ((parts_in table.1.limit (in_hand old.parts)).core edt) ≡ 0
  home_is =
      ap (λ (l : List (ℕ × Part)). home_on ((parts_in table.1.limit l).core edt)) hand_is
      ∙ (ap home_on (first_core table.1.limit edt hand.core hand.taken runs.taken.number)
      ∙ (sym (ap (λ (l : List (ℕ × Option Part)). home_on (first_in l)) hand.was) ∙ home))

  -- what the creation makes of the parts, by its template and its maker's home
  made_parts : ℕ → Part → Parts
  made_parts h t = with_core (with_face (parts_in table.1.limit (in_hand old.parts)) n (new_face t bare.depc [])) n (new_core t (new_identity n 0 answer h) bare.params.now)

  changes : changed (made_entry edt (call_of bare) n) (parts_in table.1.limit (in_hand old.parts)) ≡ made_parts (home_on ((parts_in table.1.limit (in_hand old.parts)).core edt)) ((parts_in table.1.limit (in_hand old.parts)).face bare.template)
  unfolding made_parts
  changes = refl

  slots_are : slots ≡ count_meant made.depc bare.depc
  slots_are = counts_slots made bare.paramc bare.depc (length bare.params.now, slots) suits.counts

  made_is : made_parts 0 (part.Template made) ≡ with_core (with_face (parts_in table.1.limit (in_hand old.parts)) n (part.Edt (state_of slots []))) n (part.Core (bare_core n bare made.function))
  unfolding made_parts
  made_is = ap (λ (k : ℕ). with_core (with_face (parts_in table.1.limit (in_hand old.parts)) n (part.Edt (state_of k []))) n (part.Core (bare_core n bare made.function))) (sym slots_are)

  module _ (mid : OcrKnown) (view : mid.view ≡ old.view) (parts : IsMadeOf table.1.limit n bare made.function slots old.parts mid.parts) where
    mid_hand : mid.parts ≡ as_some later.items
    mid_hand =
        parts
        ∙ (ap (λ (l : List (ℕ × Option Part)). replace (table.1.limit + n) (Some (part.Core (bare_core n bare made.function))) (replace n (Some (part.Edt (state_of slots []))) l)) all_there
        ∙ (ap (replace (table.1.limit + n) (Some (part.Core (bare_core n bare made.function)))) (replace_some n (part.Edt (state_of slots [])) (in_hand old.parts))
        ∙ (replace_some (table.1.limit + n) (part.Core (bare_core n bare made.function)) (replace n (part.Edt (state_of slots [])) (in_hand old.parts))
        ∙ ap as_some (ap (replace (table.1.limit + n) (part.Core (bare_core n bare made.function))) (put_is (in_hand old.parts) n (part.Edt (state_of slots []))) ∙ put_is (put (in_hand old.parts) n (part.Edt (state_of slots []))) (table.1.limit + n) (part.Core (bare_core n bare made.function))))))

    in_mid : in_hand mid.parts ≡ later.items
    in_mid = ap in_hand mid_hand ∙ in_hand_some later.items

    pub mid_at_hand : mid.parts ≡ as_some (in_hand mid.parts)
    mid_at_hand = mid_hand ∙ sym (ap as_some in_mid)

    pub mid_can : (was : List (ℕ × Part)) × CanMake table.1 mid.view (made_entry edt (call_of bare) n) (record { members = []; parts = in_hand old.parts }) was
    mid_can = (in_hand old.parts, subst (λ (v : OcrView). CanMake table.1 v (made_entry edt (call_of bare) n) (record { members = []; parts = in_hand old.parts }) (in_hand old.parts)) (sym view) can_create)

    pub mid_duties : HasFewDuties mid.view
    mid_duties = subst HasFewDuties (sym view) (lifted_duties table.1 edt b first (as_lifted old) _ _ (in_hand old.parts) runs lift)

    pub mid_step : IsStep table.1.limit (made_entry edt (call_of bare) n) [] (in_hand old.parts) (in_hand mid.parts) []
    mid_step = record {
      parts = ap (parts_in table.1.limit) in_mid ∙ (becomes.state ∙ (sym made_is ∙ ((ap (λ (h : ℕ). made_parts h (part.Template made)) (sym home_is) ∙ ap (made_parts (home_on ((parts_in table.1.limit (in_hand old.parts)).core edt))) (sym template_at)) ∙ sym changes)));
      same_keys = ap taken.keys in_mid ∙ becomes.keys;
      sends_are = refl;
    }

    -- AFTER IT
    module _ (new : OcrKnown) (done : EntersAs table.1 mid new (made_entry edt (call_of bare) n) (record { members = []; parts = in_hand old.parts })) where
      later_keys : sums.keys done.later ≡ sums.keys (in_hand old.parts)
      later_keys = turns_keys done.later (in_hand old.parts) done.step.same_keys

      mid_keys : sums.keys mid.parts ≡ sums.keys (in_hand old.parts)
      mid_keys = ap sums.keys mid_hand ∙ (some_keys later.items ∙ turns_keys later.items (in_hand old.parts) becomes.keys)

      lifted_are : sums.keys (lifted old.parts) ≡ sums.keys (in_hand old.parts)
      lifted_are = lifted_keys old.parts ∙ (ap sums.keys all_there ∙ some_keys (in_hand old.parts))

      once : (p : ℕ) → weigh (one_at p) (as_some done.later) ≤ 1
      once p =
          let w = weigh_keys (one_at p) (as_some done.later) (in_hand old.parts) (some_keys done.later ∙ later_keys) in
          let o = can_create.may.at_hand.once p in omega (arith, w, o)

      as_entered : EntersAs table.1 (as_lifted old) new (made_entry edt (call_of bare) n) (record { members = []; parts = in_hand old.parts })
      as_entered = record {
        number = done.number;
        later = done.later;
        sent = done.sent;
        step = done.step;
        paid = done.paid;
        view = done.view ∙ ap (λ (v : OcrView). logged (raising v done.paid) done.number (deed meaning table.1.limit v (made_entry edt (call_of bare) n) done.later done.sent)) view;
        hand = done.hand ∙ (replace_whole (as_some done.later) mid.parts (some_keys done.later ∙ (later_keys ∙ sym mid_keys)) once
            ∙ sym (replace_whole (as_some done.later) (lifted old.parts) (some_keys done.later ∙ (later_keys ∙ sym lifted_are)) once));
        sees = done.sees;
      }

      entered : HasEntered table.1 edt b new (faces_of table.1.limit 0 (call_of bare) ++ places_made table.1.limit (call_of bare) answer) (listed_made (counts table.1.limit (made_entry edt (call_of bare) n) old.view.parts)) []
      entered = call_leaves table edt b first (as_lifted old) new 0 (call_of bare) answer [] (in_hand old.parts) runs lift can_create as_entered

      counted : counts table.1.limit (made_entry edt (call_of bare) n) old.view.parts ≡ Some (n, slots)
      counted =
          sym (counts_kept table.1 edt b first (as_lifted old) (faces_of table.1.limit 0 (call_of bare) ++ places_made table.1.limit (call_of bare) answer) (n ∷ []) (in_hand old.parts) runs lift 0 (call_of bare) answer [])
          ∙ (ap (λ (x : Part). Some (n, slots_meant x bare.depc)) (look_found bare.template old.parts (part.Template made) found)
          ∙ ap (λ (k : ℕ). Some (n, k)) (sym slots_are))

      pub has_entered : HasEntered table.1 edt b new (bare.template ∷ n ∷ (table.1.limit + n) ∷ []) ((n, slots) ∷ []) []
      has_entered = subst (λ (ns : List ℕ). HasEntered table.1 edt b new ns ((n, slots) ∷ []) []) places_are (subst (λ o. HasEntered table.1 edt b new (faces_of table.1.limit 0 (call_of bare) ++ places_made table.1.limit (call_of bare) answer) (listed_made o) []) counted entered)

      pub called : IsCalled edt (call_of bare) (made_answer n) first new
      called = call_done table edt b first (as_lifted old) new 0 (call_of bare) answer [] (in_hand old.parts) runs lift can_create as_entered

  pub others_at : AreOthers table.1 edt (bare.template ∷ n ∷ (table.1.limit + n) ∷ [])
  others_at = subst (λ (ns : List ℕ). AreOthers table.1 edt ns) places_are others

-- what it took is found
pub place_found : (t : OcrTerms) (edt : ℕ) (a b : OcrKnown) (places drawn : List ℕ) (p : ℕ) → HasAtHand t edt a b places drawn → 1 ≤ sum_of (one_at p) places → (x : Part) × (find p b.parts ≡ Some (Some x))
place_found t edt a b places drawn p h some =
    let there = found_one ((t.limit + edt, part.Core h.core) ∷ h.taken) p (let w = keys_at p h.taken in let k = ap (sum_of (one_at p)) h.places_are in omega (arith, w, k, some)) in
    (there.0, ap (find p) h.hand ∙ there.1)

-- the face of a template, behind the core
pub at_template : (t : OcrTerms) (edt : ℕ) (b : Body) (a c : OcrKnown) (template : ℕ) → Runs t edt b a → Took a c (template ∷ []) → HasAtHand t edt a c (template ∷ []) []
at_template t edt b a c template runs took = at_first t edt a c (template ∷ []) (took_is t edt b a c (template ∷ []) runs took) runs.taken.drawn

-- a clerk with the same view and the same parts runs the EDT as well
pub runs_same : (t : OcrTerms) (edt : ℕ) (b : Body) (c d : OcrKnown) → Runs t edt b c → d.view ≡ c.view → d.parts ≡ c.parts → Runs t edt b d
runs_same t edt b c d runs view parts =
    let whole : record d { view = c.view; parts = c.parts } ≡ d = λ i. record d { view = sym view i; parts = sym parts i } in
    subst (λ (k : OcrKnown). Runs t edt b k) whole (record {
      taken = record { number = runs.taken.number; claims = runs.taken.claims; drawn = runs.taken.drawn; owes = record { unput = runs.taken.owes.unput; put = runs.taken.owes.put; made = runs.taken.owes.made; resumes = runs.taken.owes.resumes }; only = runs.taken.only };
      serves = runs.serves;
      core = runs.core;
      kept = runs.kept;
      keeps = runs.keeps;
      hand = runs.hand;
      is = runs.is;
      sees = runs.sees;
    })

-- and what it calls then, it calls now
pub called_same : {E : Type 0} (r : Result Answer E) (edt : ℕ) (c : body.Call) (old first new : OcrKnown) → first.view.log ≡ old.view.log → holds_at first ≡ holds_at old → IfOk r (λ a. IsCalled edt c a first new) → IfOk r (λ a. IsCalled edt c a old new)
called_same (Ok a) edt c old first new log holds was = record {
  log = was.log ∙ ap (λ (l : List (ℕ × Entry)). record { call = c; answer = a } ∷ own_log l edt) log;
  holds = was.holds ∙ ap (λ (h : Holds). after_call c a h) holds;
}
called_same (Err e) edt c old first new log holds was = tt
