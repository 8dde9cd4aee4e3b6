-- One part more, taken and lifted behind those that a call names.
use Rattle.std.proofs.Common.{◌≡◌, ℕ, suc, ◌+◌, ◌≤◌, ◌==◌, true, false, if◌then◌else◌, List, [], ◌∷◌, ◌++◌, length, Option, Some, None, Result, Ok, Err, is_ok, is_err, refl, ap, sym, ◌∙◌, subst, arith}
use Rattle.ocr_base.proofs.Booleans.{same as number_same}
use Rattle.ocr_body_code.specs.declared.checked.Checked.{Checked}
use Rattle.ocr_machine_parts.specs.declared.part.Part.{Part}
use Rattle.ocr_machine_parts.specs.declared.part.Part.TheVariants as part
use Rattle.ocr_turns_rule.specs.Contract.{SameRoom}
use Rattle.ocr_turns_rule.specs.Steps.{Sees}
use Rattle.ocr_turns_rule.specs.Sums.{as_some, find, keys, one_at, replace, weigh}
use Rattle.ocr_turns_rule.proofs.Numbered.{weigh_keys}
use Rattle.ocr_turns_rule.proofs.Totals.{one_here, weigh_append}
use Rattle.ocr_worker_machine.specs.Clerks.{OcrTerms, OcrView}
use Rattle.ocr_worker_machine.specs.Ocr.{meaning}
use Rattle.ocr_worker_clerk.specs.Entry.{OcrKnown}
use Rattle.ocr_worker_clerk.specs.Work.{AtWork, OcrTable, Took, lifted}
use Rattle.ocr_worker_clerk.proofs.Goes.{work_still}
use Rattle.ocr_worker_clerk.proofs.Hands.{keys_append, keys_length, lifted_keys, some_keys}
use Rattle.ocr_worker_access.specs.Access.{HasLifted}
use Rattle.ocr_turns_rule.proofs.Opens.{replace_length}

-- THE END of a list of places
module _ {A : Type 0} where
  find_end : (p : ℕ) (v : A) (xs : List (ℕ × A)) → weigh (one_at p) xs ≡ 0 → find p (xs ++ (p, v) ∷ []) ≡ Some v
  find_end p v [] none = rw (number_same p) refl
  find_end p v (x ∷ xs) none = elim (p == x.0) as (λ b. (p == x.0) ≡ b → (if b then 1 else 0) + weigh (one_at p) xs ≡ 0 → (if b then Some x.1 else find p (xs ++ (p, v) ∷ [])) ≡ Some v) [
    | true ↦ λ _ none. absurd (omega (arith, none))
    | false ↦ λ _ none. find_end p v xs (omega (arith, none))
  ] refl none

  replace_end : (p : ℕ) (v w : A) (xs : List (ℕ × A)) → weigh (one_at p) xs ≡ 0 → replace p w (xs ++ (p, v) ∷ []) ≡ xs ++ (p, w) ∷ []
  replace_end p v w [] none = rw (number_same p) refl
  replace_end p v w (x ∷ xs) none = elim (p == x.0) as (λ b. (p == x.0) ≡ b → (if b then 1 else 0) + weigh (one_at p) xs ≡ 0 → (if b then (p, w) ∷ (xs ++ (p, v) ∷ []) else x ∷ replace p w (xs ++ (p, v) ∷ [])) ≡ x ∷ (xs ++ (p, w) ∷ [])) [
    | true ↦ λ _ none. absurd (omega (arith, none))
    | false ↦ λ _ none. ap (λ (l : List (ℕ × A)). x ∷ l) (replace_end p v w xs (omega (arith, none)))
  ] refl none

lifted_end : (ps : List (ℕ × Part)) (p : ℕ) (x : Part) → lifted (as_some ps) ++ (p, None) ∷ [] ≡ lifted (as_some (ps ++ (p, x) ∷ []))
lifted_end [] p x = refl
lifted_end (y ∷ ps) p x = ap (λ (l : List (ℕ × Option Part)). (y.0, None) ∷ l) (lifted_end ps p x)

pub one_part : (ps : List (ℕ × Part)) (p : ℕ) → keys ps ≡ p ∷ [] → (x : Part) × (ps ≡ (p, x) ∷ [])
one_part [] p is = absurd (let l = ap (λ (ns : List ℕ). length ns) is in omega (arith, l))
one_part (x ∷ []) p is = (x.1, (let same : x.0 ≡ p = cc is in ap (λ (n : ℕ). (n, x.1) ∷ []) same))
one_part (x ∷ y ∷ ps) p is = absurd (let l = ap (λ (ns : List ℕ). length ns) is in omega (arith, l))

-- so many parts stand behind the core
pub lifted_few : (t : OcrTerms) (edt : ℕ) (old c : OcrKnown) (places drawn : List ℕ) (ps : List (ℕ × Part)) → HasLifted t edt old c places drawn ps → length c.parts ≡ suc (length places)
lifted_few t edt old c places drawn ps h =
    let a = ap (λ (l : List (ℕ × Option Part)). length l) h.hand in
    let b = ap (λ (l : List ℕ). length l) (lifted_keys ((t.limit + edt, Some (part.Core h.core)) ∷ as_some h.taken) ∙ some_keys ((t.limit + edt, part.Core h.core) ∷ h.taken)) in
    let d = keys_length (lifted ((t.limit + edt, Some (part.Core h.core)) ∷ as_some h.taken)) in
    let e = ap (λ (l : List ℕ). length l) h.places_are in
    omega (arith, a, b, d, e)

module _ (table : OcrTable) (program : Checked) (edt : ℕ) (first old mid : OcrKnown) (places drawn : List ℕ) (place : ℕ) (ps : List (ℕ × Part)) (h : HasLifted table.1 edt first old places drawn ps) (took : Took old mid (place ∷ [])) (work : AtWork table program mid) where
  item : (x : Part) × (took.parts ≡ (place, x) ∷ [])
  item = one_part took.parts place took.places_are

  hand_end : mid.parts ≡ old.parts ++ (place, Some item.0) ∷ []
  hand_end = took.hand ∙ ap (λ (l : List (ℕ × Part)). old.parts ++ as_some l) item.1

  view_end : mid.view ≡ record old.view { parts = old.view.parts ++ (place, item.0) ∷ [] }
  view_end = took.view ∙ ap (λ (l : List (ℕ × Part)). record old.view { parts = old.view.parts ++ l }) item.1

  same_keys : keys old.parts ≡ keys old.view.parts
  same_keys = ap keys h.hand ∙ (lifted_keys ((table.1.limit + edt, Some (part.Core h.core)) ∷ as_some h.taken) ∙ (some_keys ((table.1.limit + edt, part.Core h.core) ∷ h.taken) ∙ sym (ap (λ (v : OcrView). keys v.parts) h.view)))

  once : weigh (one_at place) mid.view.parts ≤ 1
  once = (took.sees (omega arith) table.1 work.of_table.1 work.is_open).1.distinct place

  unkept : weigh (one_at place) old.parts ≡ 0
  unkept =
      let a = weigh_append (one_at place) old.view.parts ((place, item.0) ∷ []) in
      let b = ap (λ (v : OcrView). weigh (one_at place) v.parts) view_end in
      let k = weigh_keys (one_at place) old.parts old.view.parts same_keys in
      let o = once in let one = one_here place in omega (arith, a, b, k, o, one)

  pub to_lift : (x : Part) × (find place mid.parts ≡ Some (Some x))
  to_lift = (item.0, ap (find place) hand_end ∙ find_end place (Some item.0) old.parts unkept)

  pub lifted_more : (new : OcrKnown) (x : Part) (items : List (ℕ × Part)) → find place mid.parts ≡ Some (Some x) → new.parts ≡ replace place None mid.parts → new.view ≡ mid.view → items ≡ ps ++ (place, x) ∷ [] → HasLifted table.1 edt first new (places ++ place ∷ []) drawn items
  unfolding item to_lift
  lifted_more new x items found replaced view is =
      let core : ℕ × Part = (table.1.limit + edt, part.Core h.core) in
      let same : Some (Some x) ≡ Some (Some item.0) = sym found ∙ to_lift.1 in
      let x_is : x ≡ item.0 = cc same in
      record {
        core = h.core;
        kept = h.kept;
        taken = h.taken ++ (place, item.0) ∷ [];
        is = h.is;
        was = h.was;
        places_are = keys_append h.taken ((place, item.0) ∷ []) ∙ ap (λ (l : List ℕ). l ++ place ∷ []) h.places_are;
        view = view ∙ (view_end ∙ ap (λ (v : OcrView). record v { parts = v.parts ++ (place, item.0) ∷ [] }) h.view);
        hand = replaced ∙ (ap (replace place None) hand_end ∙ (replace_end place (Some item.0) None old.parts unkept ∙ (ap (λ (l : List (ℕ × Option Part)). l ++ (place, None) ∷ []) h.hand ∙ lifted_end (core ∷ h.taken) place item.0)));
        parts = is ∙ (ap (λ (y : Part). ps ++ (place, y) ∷ []) x_is ∙ ap (λ (l : List (ℕ × Part)). l ++ (place, item.0) ∷ []) h.parts);
        sees = subst (Sees meaning) (sym view) (took.sees (omega arith));
      }

pub work_lifted : (table : OcrTable) (p : Checked) (old new : OcrKnown) (place : ℕ) → AtWork table p old → (new.table ≡ old.table) × (new.view ≡ old.view) × SameRoom old new → new.parts ≡ replace place None old.parts → AtWork table p new
work_lifted table p old new place work rest replaced =
    let l = ap (λ (ps : List (ℕ × Option Part)). length ps) replaced ∙ replace_length place None old.parts in
    let room = rest.2.0 in let spare = rest.2.1 in
    work_still table p old new old.view work rest.0 rest.1 (record { terms = refl; root = refl; seat = refl; out = refl; joined = refl; log = refl; weight = refl; drawn = refl; full = refl; reached = refl; closed = refl; stake = omega arith; raised = refl; ended = refl })
    (omega (arith, room)) (omega (arith, spare, l))

-- a push that was not refused
pub pushed : {X A E : Type 0} (r : Result A E) (old new : List X) (x : X) → is_err r ≡ false → new ≡ (if is_ok r then old ++ x ∷ [] else old) → new ≡ old ++ x ∷ []
pushed (Ok a) old new x fine is = is
pushed (Err e) old new x fine is = cc fine
