-- A call of the body that is entered.
use Rattle.std.proofs.Common.{◌≡◌, ◌≢◌, ◌⊎◌, inl, inr, ⊎_elim, ℕ, zero, suc, ◌+◌, ◌-◌, ◌≤◌, Bool, true, false, ◌==◌, ◌&&◌, if◌then◌else◌, List, [], ◌∷◌, ◌++◌, reverse, Option, refl, ap, sym, ◌∙◌, subst, arith}
use Rattle.std.proofs.lemmas.Grind.{common_steps}
use Rattle.std.proofs.lemmas.Bool.{eqb-true, and_from, or_left, or_right}
use Rattle.ocr_base.proofs.Booleans.{same as number_same}
use Rattle.ocr_body_code.specs.Checked.{checked_tree}
use Rattle.ocr_body_code.specs.declared.checked.Checked.{Checked}
use Rattle.ocr_program_tree.specs.Runnable.{IsRunnable}
use Rattle.ocr_body_meaning.specs.Behaviour.{IsNextWith}
use Rattle.ocr_body_meaning.specs.Body.{Body, says}
use Rattle.ocr_body_meaning.specs.Call.{is_creation}
use Rattle.ocr_body_meaning.specs.Holds.{is_done}
use Rattle.ocr_body_meaning.specs.declared.call.Answer.{Answer}
use Rattle.ocr_body_meaning.specs.declared.call.Call as body
use Rattle.ocr_body_meaning.specs.declared.call.Call.TheVariants as call
use Rattle.ocr_machine_history.specs.declared.entry.Entry.{Entry}
use Rattle.ocr_machine_history.specs.declared.entry.Entry.TheVariants.{Call}
use Rattle.ocr_machine_parts.specs.declared.part.Core.{Core}
use Rattle.ocr_machine_parts.specs.declared.part.Part.{Part}
use Rattle.ocr_machine_parts.specs.declared.part.Part.TheVariants as part
use Rattle.ocr_machine_parts.specs.Codes.{code_of}
use Rattle.ocr_machine_parts.specs.Footprint.{Covers, makes_core, names_face}
use Rattle.ocr_machine_parts.specs.Effects.{settled}
use Rattle.ocr_machine_parts.specs.Kinds.{is_running}
use Rattle.ocr_machine_parts.specs.Legal.{carried}
use Rattle.ocr_machine_parts.specs.LegalOn.{IsHome, IsLegalOn, last_of}
use Rattle.ocr_machine_parts.specs.Parts.{parts_of}
use Rattle.ocr_machine_parts.specs.Taken.{face_in, has, is_within, look, seen}
use Rattle.ocr_machine_laws.specs.Answered.{AnswersSo}
use Rattle.ocr_machine_laws.specs.Kept.{kept_ready}
use Rattle.ocr_turns_rule.specs.Debts.{times}
use Rattle.ocr_turns_rule.specs.Rule.{Fits}
use Rattle.ocr_turns_rule.specs.Sums.{HasAll, keys, one_at, sum_of, weigh}
use Rattle.ocr_turns_rule.proofs.Numbered.{weigh_keys}
use Rattle.ocr_turns_rule.proofs.Totals.{one_here}
use Rattle.ocr_worker_machine.specs.Clerks.{AreAtHand, OcrTerms, OcrView, of_terms}
use Rattle.ocr_worker_machine.specs.Ocr.{beside, makes, meaning, some_number, touches, wakes}
use Rattle.ocr_worker_machine.proofs.Homes.{home_settled}
use Rattle.ocr_worker_machine.proofs.Owed.{hand_counted}
use Rattle.ocr_worker_machine.proofs.Places.{named_place, places_good, within_is, IsAt}
use Rattle.ocr_worker_clerk.specs.Entry.{CanMake, OcrKnown}
use Rattle.ocr_worker_clerk.specs.Work.{AtWork, OcrTable}
use Rattle.ocr_worker_access.specs.Calls.{IsAnswer, IsCoded, IsNextTo, drawn_for, faces_of, home_for, makes_output, makes_scope}
use Rattle.ocr_worker_access.specs.Access.{AreOthers, HasLifted, IsCoreOf, Runs, first_in, home_at, new_places, places_made}
use Rattle.ocr_worker_access.specs.Served.{Serves, own_log}
use Rattle.ocr_worker_access.proofs.Asked.{all_from, home_none, once_in}
use Rattle.ocr_worker_access.proofs.Calls.{answers, at_home, call_legal, code_in, drawn_value, has_output, scoped}
use Rattle.ocr_worker_access.proofs.Entries.{call_may, call_wakes, runs_here, wakes_are}
use Rattle.ocr_worker_access.proofs.Logs.{serves_same}
use Rattle.ocr_worker_access.proofs.Cores.{first_has, first_look}
use Rattle.ocr_worker_access.proofs.Parts.{core_of, is_run, seen_core}
use Rattle.ocr_worker_access.proofs.Places.{IsBesideAt, call_beside, call_from, call_wants, covers_at, faces_home, same_places, at_one}

-- THE LISTS of parts at hand and kept, that differ in the core alone
has_same : (ps qs : List (ℕ × Part)) (n : ℕ) → keys ps ≡ keys qs → has ps n ≡ has qs n
has_same [] [] n is = refl
has_same [] (q ∷ qs) n is = cc is
has_same (p ∷ ps) [] n is = cc is
has_same (p ∷ ps) (q ∷ qs) n is = let h : p.0 ≡ q.0 = cc is in let t : keys ps ≡ keys qs = cc is in rw (h, has_same ps qs n t) refl

pub core_out : (limit t : ℕ) → is_within limit t ≡ true → is_within limit (limit + t) ≡ false
core_out limit t is = grind (arith, common_steps)

pub core_back : (limit t : ℕ) → is_within limit t ≡ true → (limit + t) - limit ≡ t
core_back limit t is = omega arith

pub core_alike : (limit edt n : ℕ) (core kept : Core) (rest : List (ℕ × Part)) → is_within limit edt ≡ true → IsCoreOf core kept
    → seen limit n (look ((limit + edt, part.Core core) ∷ rest) n) ≡ seen limit n (look ((limit + edt, part.Core kept) ∷ rest) n)
core_alike limit edt n core kept rest within is = elim ((limit + edt) == n) as (λ b. ((limit + edt) == n) ≡ b → seen limit n (if b then part.Core core else look rest n) ≡ seen limit n (if b then part.Core kept else look rest n)) [
  | true ↦ λ same. subst (λ (k : ℕ). seen limit k (part.Core core) ≡ seen limit k (part.Core kept)) (eqb-true (limit + edt) n same) (seen_core limit edt core within ∙ (ap part.Core is.alike ∙ sym (seen_core limit edt kept within)))
  | false ↦ λ _. refl
] refl

pub hand_is : (limit edt : ℕ) (core kept : Core) (rest hand view : List (ℕ × Part)) → is_within limit edt ≡ true → IsCoreOf core kept → hand ≡ (limit + edt, part.Core core) ∷ rest → view ≡ (limit + edt, part.Core kept) ∷ rest → ((n : ℕ) → weigh (one_at n) view ≤ 1) → AreAtHand limit hand view
hand_is limit edt core kept rest hand view within is hands views once = record {
  once = λ n. (let same = weigh_keys (one_at n) hand view keyed in let one = once n in omega (arith, same, one));
  there = λ n here. sym (has_same hand view n keyed) ∙ here;
  alike = λ n here. ap (λ (l : List (ℕ × Part)). seen limit n (look l n)) hands ∙ (core_alike limit edt n core kept rest within is ∙ sym (ap (λ (l : List (ℕ × Part)). seen limit n (look l n)) views));
}
  where
    keyed : keys hand ≡ keys view
    keyed = ap keys hands ∙ sym (ap keys views)

-- THE PLACES of the call's entry
pub keys_at : (p : ℕ) (ps : List (ℕ × Part)) → weigh (one_at p) ps ≡ sum_of (one_at p) (keys ps)
keys_at p [] = refl
keys_at p (x ∷ rest) = let r = keys_at p rest in omega (arith, r)

sum_append : (p : ℕ) (ns ms : List ℕ) → sum_of (one_at p) (ns ++ ms) ≡ sum_of (one_at p) ns + sum_of (one_at p) ms
sum_append p [] ms = omega arith
sum_append p (n ∷ ns) ms = let r = sum_append p ns ms in omega (arith, r)

at_here : (k rest : ℕ) → 1 ≤ one_at k k + rest
at_here k rest = let one = one_here k in omega (arith, one)

-- A NUMBER that may be none
some_from : (p n : ℕ) → IsAt p (some_number n) → (p ≡ n) × (1 ≤ n)
some_from p n at = elim (n == 0) as (λ b. (n == 0) ≡ b → IsAt p (if b then [] else n ∷ []) → (p ≡ n) × (1 ≤ n)) [
  | true ↦ λ _ none. absurd (omega (arith, none))
  | false ↦ λ off at. ⊎_elim (λ same. (same, some n off)) (λ none. absurd (omega (arith, none))) (at_one p n 0 at)
] refl at
  where
    some : (n : ℕ) → (n == 0) ≡ false → 1 ≤ n
    some n off = grind (arith, common_steps)

some_here : (n : ℕ) → 1 ≤ n → IsAt n (some_number n)
some_here n low = elim (n == 0) as (λ b. (n == 0) ≡ b → IsAt n (if b then [] else n ∷ [])) [
  | true ↦ λ is. absurd (let none = eqb-true n 0 is in omega (arith, none, low))
  | false ↦ λ _. at_here n 0
] refl

within_some : (limit n : ℕ) → is_within limit n ≡ true → 1 ≤ n
within_some limit n within = (within_is limit n within).0

makes_creates : (c : body.Call) → makes_core c ≡ true → is_creation c ≡ true
makes_creates (call.EdtCreate from pc ps dc ds fl o) is = refl
makes_creates other is = cc is

-- THE NUMBERS beside an EDT's
beside_is : (limit home p : ℕ) (c : body.Call) (a : Answer) → (1 ≤ a.scope → is_within limit a.scope ≡ true) → (1 ≤ a.output → is_within limit a.output ≡ true) → IsAt p (beside c a) → IsBesideAt limit home c a p
beside_is limit home p (call.EdtCreate from pc ps dc ds fl o) a scope output at = (refl, inr (either (sum_of (one_at p) (some_number a.scope)) refl))
  where
    either : (n : ℕ) → sum_of (one_at p) (some_number a.scope) ≡ n → ((is_within limit a.scope ≡ true) × (p ≡ a.scope)) ⊎ ((is_within limit a.output ≡ true) × (p ≡ a.output))
    either zero none = let s = sum_append p (some_number a.scope) (some_number a.output) in let o = some_from p a.output (omega (arith, at, s, none)) in inr (output o.1, o.0)
    either (suc n) some = let o = some_from p a.scope (omega (arith, some)) in inl (scope o.1, o.0)
beside_is limit home p other a scope output at = absurd (omega (arith, at))

beside_at : (p : ℕ) (c : body.Call) (a : Answer) (n : ℕ) → makes_core c ≡ true → 1 ≤ n → (n ≡ a.scope) ⊎ (n ≡ a.output) → p ≡ n → IsAt p (beside c a)
beside_at p (call.EdtCreate from pc ps dc ds fl o) a n makes low which same =
    let s = sum_append p (some_number a.scope) (some_number a.output) in
    ⊎_elim
    (λ first. let h = subst (λ (k : ℕ). IsAt k (some_number a.scope)) (sym (same ∙ first)) (some_here a.scope (subst (λ (k : ℕ). 1 ≤ k) first low)) in omega (arith, s, h))
    (λ last. let h = subst (λ (k : ℕ). IsAt k (some_number a.output)) (sym (same ∙ last)) (some_here a.output (subst (λ (k : ℕ). 1 ≤ k) last low)) in omega (arith, s, h))
    which
beside_at p other a n makes low which same = cc makes

module _ (limit edt home : ℕ) (c : body.Call) (a : Answer) (w : List (ℕ × ℕ)) (within : is_within limit edt ≡ true) where
  own_place : 1 ≤ touches limit (Call edt home c a w) (limit + edt)
  own_place = named_place limit (Call edt home c a w) (limit + edt) (rw (core_out limit edt within, core_back limit edt within) (and_from (is_within limit edt) _ within (or_left (edt == edt) _ (number_same edt))))

  new_face : is_within limit a.value ≡ true → is_creation c ≡ true → 1 ≤ touches limit (Call edt home c a w) a.value
  new_face there creates = named_place limit (Call edt home c a w) a.value (rw there (or_right _ (names_face c a a.value) (or_right _ (is_creation c && (a.value == a.value)) (and_from (is_creation c) (a.value == a.value) creates (number_same a.value)))))

  new_core : is_within limit a.value ≡ true → makes_core c ≡ true → 1 ≤ touches limit (Call edt home c a w) (limit + a.value)
  new_core there makes = named_place limit (Call edt home c a w) (limit + a.value) (rw (core_out limit a.value there, core_back limit a.value there) (and_from (is_within limit a.value) _ there (or_right (edt == a.value) _ (and_from (makes_core c) (a.value == a.value) makes (number_same a.value)))))

  -- each place that was taken is named
  made_named : (p : ℕ) → (is_done a.code ≡ true → is_creation c ≡ true → is_within limit a.value ≡ true) → (1 ≤ a.scope → is_within limit a.scope ≡ true) → (1 ≤ a.output → is_within limit a.output ≡ true) → IsAt p (places_made limit c a) → 1 ≤ touches limit (Call edt home c a w) p
  made_named p there scope output at = elim (is_done a.code) as (λ b. is_done a.code ≡ b → IsAt p (if b then new_places limit c a else []) → 1 ≤ touches limit (Call edt home c a w) p) [
    | true ↦ λ done at. created (there done) at
    | false ↦ λ _ none. absurd (omega (arith, none))
  ] refl at
    where
      second : is_within limit a.value ≡ true → IsAt p (if makes_core c then (limit + a.value) ∷ beside c a else []) → 1 ≤ touches limit (Call edt home c a w) p
      second there at = elim (makes_core c) as (λ b. makes_core c ≡ b → IsAt p (if b then (limit + a.value) ∷ beside c a else []) → 1 ≤ touches limit (Call edt home c a w) p) [
        | true ↦ λ makes at. ⊎_elim
            (λ same. subst (λ (k : ℕ). 1 ≤ touches limit (Call edt home c a w) k) (sym same) (new_core there makes))
            (λ more. call_beside limit edt home p c a w (beside_is limit home p c a scope output more))
            (at_one p (limit + a.value) _ at)
        | false ↦ λ _ none. absurd (omega (arith, none))
      ] refl at

      created : (is_creation c ≡ true → is_within limit a.value ≡ true) → IsAt p (new_places limit c a) → 1 ≤ touches limit (Call edt home c a w) p
      created there at = elim (is_creation c) as (λ b. is_creation c ≡ b → IsAt p (if b then a.value ∷ (if makes_core c then (limit + a.value) ∷ beside c a else []) else []) → 1 ≤ touches limit (Call edt home c a w) p) [
        | true ↦ λ creates at. ⊎_elim (λ same. subst (λ (k : ℕ). 1 ≤ touches limit (Call edt home c a w) k) (sym same) (new_face (there creates) creates)) (λ rest. second (there creates) rest) (at_one p a.value _ at)
        | false ↦ λ _ none. absurd (omega (arith, none))
      ] refl at

  -- and each that is named was taken
  named_made : (p : ℕ) → (is_done a.code ≡ false → is_creation c ≡ true → (a.value ≡ 0) × ((a.scope ≡ 0) × (a.output ≡ 0))) → 1 ≤ touches limit (Call edt home c a w) p → (p ≡ limit + edt) ⊎ (IsAt p (faces_of limit home c) ⊎ IsAt p (places_made limit c a))
  named_made p null at = ⊎_elim
      (λ new. ⊎_elim (λ same. inl same) (λ made. inr (inr (when_done (λ off creates. never made.0 (null off creates).0) made.1))) new)
      (λ other. ⊎_elim (λ more. by_beside more.0 more.1) (λ wants. inr (inl wants)) other)
      (call_from limit edt home p c a w at)
    where
      never : {n : ℕ} → is_within limit n ≡ true → n ≡ 0 → ⊥
      never {n} is none = let low = within_some limit n is in absurd (omega (arith, low, none))

      first : is_creation c ≡ true → p ≡ a.value → IsAt p (new_places limit c a)
      first on same = rw on (subst (λ (k : ℕ). IsAt k (a.value ∷ (if makes_core c then (limit + a.value) ∷ beside c a else []))) (sym same) (at_here a.value _))

      both : makes_core c ≡ true → p ≡ limit + a.value → IsAt p (new_places limit c a)
      both cored same = rw (makes_creates c cored, cored) (let h = subst (λ (k : ℕ). IsAt k ((limit + a.value) ∷ beside c a)) (sym same) (at_here (limit + a.value) _) in omega (arith, h))

      third : makes_core c ≡ true → IsAt p (beside c a) → IsAt p (new_places limit c a)
      third cored more = rw (makes_creates c cored, cored) (omega (arith, more))

      at_done : is_done a.code ≡ true → IsAt p (new_places limit c a) → IsAt p (places_made limit c a)
      at_done done at = rw done at

      by_code : (Q : Type 0) → (is_done a.code ≡ true → Q) → (is_done a.code ≡ false → Q) → Q
      by_code Q one other = elim (is_done a.code) as (λ b. is_done a.code ≡ b → Q) [ true ↦ one | false ↦ other ] refl

      when_done : (is_done a.code ≡ false → is_creation c ≡ true → ⊥) → ((is_creation c ≡ true) × (p ≡ a.value)) ⊎ ((makes_core c ≡ true) × (p ≡ limit + a.value)) → IsAt p (places_made limit c a)
      when_done off made = by_code (IsAt p (places_made limit c a))
          (λ done. at_done done (⊎_elim (λ face. first face.0 face.1) (λ core. both core.0 core.1) made))
          (λ not. absurd (⊎_elim (λ face. off not face.0) (λ core. off not (makes_creates c core.0)) made))

      by_beside : makes_core c ≡ true → ((is_within limit home ≡ true) × (p ≡ home)) ⊎ (((is_within limit a.scope ≡ true) × (p ≡ a.scope)) ⊎ ((is_within limit a.output ≡ true) × (p ≡ a.output))) → (p ≡ limit + edt) ⊎ (IsAt p (faces_of limit home c) ⊎ IsAt p (places_made limit c a))
      by_beside cored which = ⊎_elim
          (λ same. inr (inl (subst (λ (k : ℕ). IsAt k (faces_of limit home c)) (sym same.1) (faces_home limit home c same.0))))
          (λ more. inr (inr (by_code (IsAt p (places_made limit c a))
          (λ done. at_done done (third cored (⊎_elim
          (λ same. beside_at p c a a.scope cored (within_some limit a.scope same.0) (inl refl) same.1)
          (λ same. beside_at p c a a.output cored (within_some limit a.output same.0) (inr refl) same.1) more)))
          (λ off. let z = null off (makes_creates c cored) in absurd (⊎_elim (λ same. never same.0 z.1.0) (λ same. never same.0 z.1.1) more)))))
          which

-- WHAT THE ENTRY ASKS of the clerk
has_drawn : (ns : List ℕ) → HasAll ns ns
has_drawn [] = tt
has_drawn (n ∷ ns) = (at_here n _, rw (number_same n) (has_drawn ns))

next_drawn : (b : Bool) (v : OcrView) (other n : ℕ) → IsNextTo b v other n → 1 ≤ n → 1 ≤ times n v.drawn
next_drawn true v other n is some = is.0
next_drawn false v other n none some = absurd (omega (arith, none, some))

next_off : (b made : Bool) (v : OcrView) (other n : ℕ) → IsNextTo (b && made) v other n → b ≡ false → n ≡ 0
next_off true made v other n is off = cc off
next_off false made v other n is off = is

not_claimed : (n edt : ℕ) (rs : List ℕ) → times edt rs ≡ 0 → 1 ≤ times n rs → times n (edt ∷ []) ≡ 0
not_claimed n edt rs none some = elim (n == edt) as (λ b. (n == edt) ≡ b → (if b then 1 else 0) + 0 ≡ 0) [
  | true ↦ λ same. let e = eqb-true n edt same in absurd (let z = subst (λ (k : ℕ). times k rs ≡ 0) (sym e) none in omega (arith, z, some))
  | false ↦ λ _. refl
] refl

pub runnable_in : (table : OcrTable) (program : Checked) (c : OcrKnown) → AtWork table program c → IsRunnable (checked_tree table.1.setting.value.program)
runnable_in table program c work = subst (λ (q : Checked). IsRunnable (checked_tree q)) (sym work.program_is) work.runnable

-- what it answers, but for its code and the value of a call that makes nothing
pub record IsNumbered (v : OcrView) (c : body.Call) (a : Answer) : Type 0 where
  pub drawn : v.drawn ≡ drawn_for c a
  pub refused : is_creation c ≡ true → is_done a.code ≡ false → a.value ≡ 0
  pub scope : IsNextTo (is_done a.code && makes_scope c) v a.value a.scope
  pub output : IsNextTo (is_done a.code && makes_output c) v (last_of a) a.output

module _ (table : OcrTable) (program : Checked) (edt : ℕ) (b : Body) (old new : OcrKnown) (home : ℕ) (c : body.Call) (a : Answer) (private w : List (ℕ × ℕ)) (ps : List (ℕ × Part)) (work : AtWork table program new) (runs : Runs table.1 edt b old) (home_is : home ≡ home_at old c)
    (lift : HasLifted table.1 edt old new (faces_of table.1.limit home c ++ places_made table.1.limit c a) (drawn_for c a) ps) (next : IsNextWith c private (says b (own_log old.view.log edt))) (answer : IsNumbered new.view c a)
    (so : (J : List Entry) → Fits meaning table.1 J new.view → a.code ≡ code_of edt (parts_of (of_terms table.1) (reverse J)).face c → AnswersSo table.1.limit (parts_of (of_terms table.1) (reverse J)) edt c a)
    (is : a.code ≡ code_of edt (face_in table.1.limit ps) c) (writes : w ≡ carried (is_done a.code) private) where
  abbrev t : OcrTerms
  t = table.1

  abbrev limit : ℕ
  limit = table.1.limit

  within : is_within table.1.limit edt ≡ true
  within = runs.taken.number

  fits : (J : List Entry) × Fits meaning table.1 J new.view
  fits = lift.sees table.1 work.of_table.1 work.is_open

  view_parts : new.view.parts ≡ (table.1.limit + edt, part.Core lift.kept) ∷ lift.taken
  view_parts = ap (λ (v : OcrView). v.parts) lift.view

  at_hand : AreAtHand table.1.limit ps new.view.parts
  at_hand = hand_is table.1.limit edt lift.core lift.kept lift.taken ps new.view.parts within lift.is lift.parts view_parts (once_in table program new work lift.sees)

  serves : Serves table.1 new.view edt b
  serves = serves_same table.1 old.view new.view edt b runs.serves (ap (λ (v : OcrView). v.log) lift.view) (ap (λ (v : OcrView). v.facts) lift.view)

  next_now : IsNextWith c private (says b (own_log new.view.log edt))
  next_now = subst (λ (l : List (ℕ × Entry)). IsNextWith c private (says b (own_log l edt))) (sym (ap (λ (v : OcrView). v.log) lift.view)) next

  listed : keys ps ≡ (table.1.limit + edt) ∷ (faces_of table.1.limit home c ++ places_made table.1.limit c a)
  listed = ap keys lift.parts ∙ ap (λ (l : List ℕ). (table.1.limit + edt) ∷ l) lift.places_are

  drawn_within : (n : ℕ) → 1 ≤ times n new.view.drawn → is_within table.1.limit n ≡ true
  drawn_within n drew = let free = fits.1.unmade n drew in inside n table.1.limit free.least free.most
    where
      inside : (n limit : ℕ) → 1 ≤ n → n ≤ limit → is_within limit n ≡ true
      inside n limit low high = grind (arith, common_steps)

  made_within : is_done a.code ≡ true → is_creation c ≡ true → is_within table.1.limit a.value ≡ true
  made_within done creates = drawn_within a.value (drawn_value new.view c a answer.drawn creates done)

  scope_within : 1 ≤ a.scope → is_within table.1.limit a.scope ≡ true
  scope_within some = drawn_within a.scope (next_drawn (is_done a.code && makes_scope c) new.view a.value a.scope answer.scope some)

  output_within : 1 ≤ a.output → is_within table.1.limit a.output ≡ true
  output_within some = drawn_within a.output (next_drawn (is_done a.code && makes_output c) new.view (last_of a) a.output answer.output some)

  refused_none : is_done a.code ≡ false → is_creation c ≡ true → (a.value ≡ 0) × ((a.scope ≡ 0) × (a.output ≡ 0))
  refused_none off creates = (answer.refused creates off, (next_off (is_done a.code) (makes_scope c) new.view a.value a.scope answer.scope off, next_off (is_done a.code) (makes_output c) new.view (last_of a) a.output answer.output off))

  home_off : makes_core c ≡ false → home ≡ 0
  home_off off = home_is ∙ home_none c (first_in old.parts) off

  there : (p : ℕ) → 1 ≤ weigh (one_at p) ps → 1 ≤ touches table.1.limit (Call edt home c a w) p
  there p some =
      let k = keys_at p ps in let l = ap (sum_of (one_at p)) listed in let s = sum_append p (faces_of table.1.limit home c) (places_made table.1.limit c a) in
      split p (omega (arith, some, k, l, s))
    where
      rest : (p : ℕ) → 1 ≤ 0 + (sum_of (one_at p) (faces_of table.1.limit home c) + sum_of (one_at p) (places_made table.1.limit c a)) → 1 ≤ touches table.1.limit (Call edt home c a w) p
      rest p some = elim (sum_of (one_at p) (faces_of table.1.limit home c)) as (λ n. sum_of (one_at p) (faces_of table.1.limit home c) ≡ n → 1 ≤ touches table.1.limit (Call edt home c a w) p) [
        | zero ↦ λ none. made_named table.1.limit edt home c a w within p made_within scope_within output_within (omega (arith, some, none))
        | suc n ↦ λ is. call_wants table.1.limit edt home p c a w home_off (omega (arith, is))
      ] refl

      split : (p : ℕ) → 1 ≤ one_at p (table.1.limit + edt) + (sum_of (one_at p) (faces_of table.1.limit home c) + sum_of (one_at p) (places_made table.1.limit c a)) → 1 ≤ touches table.1.limit (Call edt home c a w) p
      split p some = elim (p == (table.1.limit + edt)) as (λ b. (p == (table.1.limit + edt)) ≡ b → 1 ≤ (if b then 1 else 0) + (sum_of (one_at p) (faces_of table.1.limit home c) + sum_of (one_at p) (places_made table.1.limit c a)) → 1 ≤ touches table.1.limit (Call edt home c a w) p) [
        | true ↦ λ same _. subst (λ (k : ℕ). 1 ≤ touches table.1.limit (Call edt home c a w) k) (sym (eqb-true p (table.1.limit + edt) same)) (own_place table.1.limit edt home c a w within)
        | false ↦ λ _ some. rest p some
      ] refl some

  back : (p : ℕ) → 1 ≤ touches table.1.limit (Call edt home c a w) p → 1 ≤ weigh (one_at p) ps
  back p some =
      let k = keys_at p ps in let l = ap (sum_of (one_at p)) listed in let s = sum_append p (faces_of table.1.limit home c) (places_made table.1.limit c a) in
      ⊎_elim
      (λ same. let one = one_here p in let e = ap (one_at p) same in omega (arith, k, l, one, e))
      (λ other. ⊎_elim (λ wants. omega (arith, k, l, s, wants)) (λ made. omega (arith, k, l, s, made)) other)
      (named_made table.1.limit edt home c a w within p refused_none some)

  covers : Covers table.1.limit (Call edt home c a w) ps
  covers = covers_at table.1.limit (Call edt home c a w) ps back

  -- the home that the core at hand tells is that of the history
  home_same : (J : List Entry) → Fits meaning table.1 J new.view → home ≡ home_for c ((parts_of (of_terms table.1) (reverse J)).core edt)
  home_same J fits =
      home_is
      ∙ (ap (λ (l : List (ℕ × Option Part)). home_for c (first_in l)) lift.was
      ∙ (same_home (part.Core lift.core)
      ∙ sym (ap (home_for c) (core_of table.1 new.view J ps edt lift.core fits at_hand within
      (subst (λ (l : List (ℕ × Part)). has l (table.1.limit + edt) ≡ true) (sym lift.parts) (first_has (table.1.limit + edt) (part.Core lift.core) lift.taken))
      (subst (λ (l : List (ℕ × Part)). look l (table.1.limit + edt) ≡ part.Core lift.core) (sym lift.parts) (first_look (table.1.limit + edt) (part.Core lift.core) lift.taken))))))
    where
      same_home : (x : Part) → home_for c x ≡ home_for c (settled x)
      same_home x = ap (λ (h : ℕ). if makes_core c then h else 0) (sym (home_settled x))

  legal : IsLegalOn table.1.limit (kept_ready table.1.limit [] (Call edt home c a w) ps) (Call edt home c a w)
  legal =
      let J = fits.0 in
      let found : a.code ≡ code_of edt (parts_of (of_terms table.1) (reverse J)).face c = is ∙ code_in table.1 new.view J ps edt home c a w fits.1 at_hand covers in
      let runs_now = subst (λ (l : List (ℕ × Part)). AreAtHand table.1.limit l new.view.parts → is_running ((parts_of (of_terms table.1) (reverse J)).core edt) ≡ true) (sym lift.parts) (runs_here table.1 new.view J fits.1 edt lift.core lift.taken within lift.is.running) at_hand in
      call_legal table.1 new.view J fits.1 ps edt home c a w at_hand covers (record {
        running = runs_now;
        code = found;
        value = so J fits.1 found;
        scope = scoped table.1 new.view J fits.1 c a answer.scope;
        output = has_output table.1 new.view J fits.1 c a answer.output;
        at_home = subst (λ (h : ℕ). IsHome (parts_of (of_terms table.1) (reverse J)) edt h c a) (sym (home_same J fits.1))
            (at_home table.1 new.view J fits.1 edt c a work.limits.1 runs_now (λ creates done. drawn_value new.view c a answer.drawn creates done));
      })

  resumed_apart : times edt (wakes table.1.limit (Call edt home c a w) new.view.parts) ≡ 0
  resumed_apart =
      let J = fits.0 in
      let kept : AreAtHand table.1.limit new.view.parts new.view.parts = record { once = once_in table program new work lift.sees; there = λ n here. here; alike = λ n here. refl } in
      let covered : Covers table.1.limit (Call edt home c a w) new.view.parts = λ n on. at_hand.there n (covers n on) in
      let runs_now = subst (λ (l : List (ℕ × Part)). AreAtHand table.1.limit l new.view.parts → is_running ((parts_of (of_terms table.1) (reverse J)).core edt) ≡ true) (sym lift.parts) (runs_here table.1 new.view J fits.1 edt lift.core lift.taken within lift.is.running) at_hand in
      ap (times edt) (sym (wakes_are table.1 new.view J (Call edt home c a w) new.view.parts fits.1 kept covered)) ∙ call_wakes (of_terms table.1) (reverse J) edt c a w (is_run table.1 new.view J fits.1) runs_now

  pub can_answer : CanMake table.1 new.view (Call edt home c a w) (record { members = []; parts = ps }) ps
  can_answer = record {
    goes = refl;
    owes = tt;
    drawn = subst (HasAll (makes (Call edt home c a w))) (sym (ap (λ (v : OcrView). v.drawn) lift.view)) (has_drawn (drawn_for c a));
    claims = record {
      starts = λ n never. cc never;
      waits = λ n p never. cc never;
      resumes = λ n some. ap (times n) (ap (λ (v : OcrView). v.claims) lift.view ∙ runs.taken.claims) ∙ not_claimed n edt (wakes table.1.limit (Call edt home c a w) new.view.parts) resumed_apart some;
    };
    counters = λ g. hand_counted table.1 new.view fits.0 ps g fits.1 at_hand;
    may = call_may table.1 new.view edt b ps (runnable_in table program new work) serves at_hand home c a private w covers legal next_now writes;
    ready = refl;
    same_keys = refl;
    places = λ p. (same_places table.1.limit (Call edt home c a w) ps at_hand.once there back p, (let same = weigh_keys (one_at p) ps new.view.parts (ap keys lift.parts ∙ sym (ap keys view_parts)) in omega (arith, same)));
  }

  -- the places of what it names but the core
  pub others_in : AreOthers table.1 edt (faces_of table.1.limit home c ++ places_made table.1.limit c a)
  others_in = all_from (λ p. (p ≢ table.1.limit + edt) × (p ≤ table.1.limit + table.1.limit)) (faces_of table.1.limit home c ++ places_made table.1.limit c a) (λ p at. (apart p at, low p at))
    where
      behind : (p : ℕ) → weigh (one_at p) ps ≡ one_at p (table.1.limit + edt) + sum_of (one_at p) (faces_of table.1.limit home c ++ places_made table.1.limit c a)
      behind p = keys_at p ps ∙ ap (sum_of (one_at p)) listed

      apart : (p : ℕ) → 1 ≤ sum_of (one_at p) (faces_of table.1.limit home c ++ places_made table.1.limit c a) → p ≢ table.1.limit + edt
      apart p at same = let b = behind p in let one = one_here p in let e = ap (one_at p) same in let o = at_hand.once p in absurd (omega (arith, b, one, e, o, at))

      low : (p : ℕ) → 1 ≤ sum_of (one_at p) (faces_of table.1.limit home c ++ places_made table.1.limit c a) → p ≤ table.1.limit + table.1.limit
      low p at = let b = behind p in let r = (places_good table.1.limit (Call edt home c a w)).range p (there p (omega (arith, b, at))) in let high = r.1 in omega (arith, high)

-- OF A CALL that its code answers
module _ (table : OcrTable) (program : Checked) (edt : ℕ) (b : Body) (old new : OcrKnown) (home : ℕ) (c : body.Call) (a : Answer) (private w : List (ℕ × ℕ)) (ps : List (ℕ × Part)) (work : AtWork table program new) (runs : Runs table.1 edt b old) (home_is : home ≡ home_at old c)
    (lift : HasLifted table.1 edt old new (faces_of table.1.limit home c ++ places_made table.1.limit c a) (drawn_for c a) ps) (next : IsNextWith c private (says b (own_log old.view.log edt))) (coded : IsCoded c) (answer : IsAnswer new.view c a)
    (is : a.code ≡ code_of edt (face_in table.1.limit ps) c) (writes : w ≡ carried (is_done a.code) private) where
  numbered : IsNumbered new.view c a
  numbered = record { drawn = answer.drawn; refused = answer.refused; scope = answer.scope; output = answer.output }

  pub can_call : CanMake table.1 new.view (Call edt home c a w) (record { members = []; parts = ps }) ps
  can_call = can_answer table program edt b old new home c a private w ps work runs home_is lift next numbered (λ J fits found. answers table.1 new.view J fits edt c a coded found answer) is writes

  pub others_are : AreOthers table.1 edt (faces_of table.1.limit home c ++ places_made table.1.limit c a)
  others_are = others_in table program edt b old new home c a private w ps work runs home_is lift next numbered (λ J fits found. answers table.1 new.view J fits edt c a coded found answer) is writes
