-- A clerk that keeps a place may add to its counter.
use Rattle.std.proofs.Common.{◌≡◌, ℕ, zero, suc, ◌+◌, ◌*◌, ◌<◌, ◌≤◌, ◌==◌, if◌then◌else◌, List, [], ◌∷◌, ◌++◌, reverse, ap, sym, ◌∙◌, subst, refl, arith}
use Rattle.std.proofs.lemmas.Grind.{common_steps}
use Rattle.std.specs.Prelude.{Option, Some, None, IfNone}
use Rattle.std.proofs.lemmas.List.{reverse-append}
use Rattle.std.proofs.lemmas.Bool.{cond-true}
use mathlib.Core.Option.{some, some-injective, some-ne-none}
use lib.ListN.{get_elem?}
use Rattle.ocr_base.specs.Mail.{Has, tally}
use Rattle.ocr_turns_rule.specs.declared.view.View.{View}
use Rattle.ocr_turns_rule.specs.declared.view.Terms.{Terms}
use Rattle.ocr_turns_rule.specs.Contract.{Claims, KeepsPlaces, Legal, MayClose, MayCommit}
use Rattle.ocr_turns_rule.specs.Steps.{deed, delivered}
use Rattle.ocr_turns_rule.specs.Sums.{weigh, one_at}
use Rattle.ocr_turns_rule.specs.Units.{one_each}
use Rattle.ocr_tests_turns.specs.declared.toy.Entry.{Entry}
use Rattle.ocr_tests_turns.specs.declared.toy.Entry.TheVariants.{Add, Stop}
use Rattle.ocr_tests_turns.specs.Toy.{counter_at, legal, part, meaning}
use Rattle.ocr_base.proofs.Booleans.{same}

-- an entry that delivers a message where one is owed has the unit for the one that it sends
pub pays_send : (d : Option (ℕ × ℕ)) (owed : List (ℕ × ℕ × ℕ)) (spares : ℕ) → IfNone d (owed ≡ []) → 1 ≤ spares + tally one_each owed → 1 ≤ spares + delivered d
pays_send (Some name) owed spares none pays = omega arith
pays_send None owed spares none pays = subst (λ l. 1 ≤ spares + tally one_each l) none pays

-- what is owed once a message was sent
module _ {N : Type 0} where
  at_end : (xs : List (ℕ × ℕ × N)) (n i : ℕ) (x : N) → Has (Some (n, i)) (xs ++ (n, i, x) ∷ [])
  at_end [] n i x = (0, x, refl)
  at_end (y ∷ xs) n i x = let there = at_end xs n i x in (suc there.0, there.1, there.2)

  pub has_last : (xs ys : List (ℕ × ℕ × N)) (n i : ℕ) (x : N) → ys ≡ xs ++ (n, i, x) ∷ [] → Has (Some (n, i)) ys
  has_last xs ys n i x is = subst (Has (Some (n, i))) (sym is) (at_end xs n i x)

  before_end : (xs : List (ℕ × ℕ × N)) (k : ℕ) (m y : ℕ × ℕ × N) → get_elem? xs k ≡ some m → get_elem? (xs ++ y ∷ []) k ≡ some m
  before_end [] k m y at = absurd (some-ne-none m (sym at))
  before_end (x ∷ xs) zero m y at = at
  before_end (x ∷ xs) (suc k) m y at = before_end xs k m y at

  pub has_more : (name : ℕ × ℕ) (xs ys : List (ℕ × ℕ × N)) (y : ℕ × ℕ × N) → ys ≡ xs ++ y ∷ [] → Has (Some name) xs → Has (Some name) ys
  has_more name xs ys y is has = subst (Has (Some name)) (sym is) (has.0, has.1, before_end xs has.0 (name.0, name.1, has.1) y has.2)

pub sent_pays : (spares : ℕ) (xs ys : List (ℕ × ℕ × ℕ)) (x : ℕ × ℕ × ℕ) → ys ≡ xs ++ x ∷ [] → 1 ≤ spares + tally one_each ys
sent_pays spares xs ys x is = subst (λ l. 1 ≤ spares + tally one_each l) (sym is) (more xs)
  where
    more : (xs : List (ℕ × ℕ × ℕ)) → 1 ≤ spares + tally one_each (xs ++ x ∷ [])
    more [] = omega arith
    more (y ∷ xs) = let one = more xs in omega arith

one_part : (y x k p q : ℕ) → get_elem? {A = ℕ × ℕ} ((q, y) ∷ []) k ≡ some (p, x) → ◌≡◌ {A = ℕ × ℕ} (q, y) (p, x)
one_part y x zero p q at = some-injective (q, y) (p, x) at
one_part y x (suc k) p q at = absurd (some-ne-none (p, x) (sym at))

legal_add : (t : Terms ℕ) (v : View ℕ Entry ℕ ℕ ℕ) (p found n : ℕ) (d : Option (ℕ × ℕ)) → 1 ≤ p → p ≤ 2 * t.limit → v.parts ≡ (p, found) ∷ []
    → Legal meaning t v (deed meaning t.limit v (Add p found n d) ((p, found + n) ∷ []) (n ∷ []))
unfolding part legal
legal_add t v p found n d least most are J goes fits =
    let was : part t.setting.value t.limit J p ≡ found = fits.parts 0 p found (ap (λ ps. get_elem? ps 0) are) in
    let now : part t.setting.value t.limit (J ++ Add p found n d ∷ []) p ≡ found + n = ap (λ l. counter_at l p) (reverse-append J (Add p found n d ∷ [])) ∙ (cond-true (p == p) (counter_at (reverse J) p + n) (counter_at (reverse J) p) (same p) ∙ ap (λ x. x + n) was) in
    record {
      legal = (least, most, was);
      parts = λ k q x at. let same = one_part (found + n) x k q p at in ap (λ (z : ℕ × ℕ). part t.setting.value t.limit (J ++ Add p found n d ∷ []) z.0) (sym same) ∙ (now ∙ ap (λ (z : ℕ × ℕ). z.1) same);
      sends = refl;
      facts = λ k f at. tt;
      wakes = refl;
      counts = refl;
    }

claims_add : (t : Terms ℕ) (v : View ℕ Entry ℕ ℕ ℕ) (p found n : ℕ) (d : Option (ℕ × ℕ)) (ps : List (ℕ × ℕ)) (ms : List ℕ)
    → Claims meaning t v (deed meaning t.limit v (Add p found n d) ps ms)
claims_add t v p found n d ps ms = record {
  starts = λ n is. absurd (cc is);
  waits = λ n p is. absurd (cc is);
  resumes = λ n is. absurd (omega (arith, is));
}

keeps_add : (t : Terms ℕ) (v : View ℕ Entry ℕ ℕ ℕ) (p found n after : ℕ) (d : Option (ℕ × ℕ)) → v.parts ≡ (p, found) ∷ []
    → KeepsPlaces meaning t v (Add p found n d) ((p, after) ∷ [])
keeps_add t v p found n after d are q = (refl, subst (λ ps. one_at q p + 0 ≤ weigh (one_at q) ps) (sym are) (omega arith))

pub may_add : (t : Terms ℕ) (v : View ℕ Entry ℕ ℕ ℕ) (p found n after : ℕ) (d : Option (ℕ × ℕ)) (ps : List (ℕ × ℕ)) (ms : List ℕ)
    → 1 ≤ p → p ≤ 2 * t.limit → v.parts ≡ (p, found) ∷ [] → v.weight < t.share → Has d v.owed → 1 ≤ v.spares + tally one_each v.owed → 1 ≤ v.spares + delivered d → ps ≡ (p, after) ∷ [] → after ≡ found + n → ms ≡ n ∷ []
    → MayCommit meaning t v (Add p found n d) ps ms
may_add t v p found n after d ps ms least most are light has units pays changed sum sent =
    let parts : ps ≡ (p, found + n) ∷ [] = changed ∙ ap (λ x. (p, x) ∷ []) sum in
    subst (λ ps. MayCommit meaning t v (Add p found n d) ps ms) (sym parts) (subst (λ ms. MayCommit meaning t v (Add p found n d) ((p, found + n) ∷ []) ms) (sym sent) (record {
      goes = refl;
      share = omega (arith, light);
      owes = has;
      drawn = tt;
      keeps = keeps_add t v p found n (found + n) d are;
      claims = claims_add t v p found n d ((p, found + n) ∷ []) (n ∷ []);
      unit = omega arith;
      spares = omega arith;
      legal = legal_add t v p found n d least most are;
    }))

-- the part that was taken is the one at hand
pub taken_part : (p x found : ℕ) → (if p == p then Some (Some x) else None) ≡ Some (Some found) → x ≡ found
taken_part p x found at = grind (arith, common_steps, at, same p)

pub may_stop : (t : Terms ℕ) (v : View ℕ Entry ℕ ℕ ℕ) → 1 ≤ v.spares → MayClose meaning t v Stop []
unfolding legal
may_stop t v pays = record { stops = refl; unit = omega arith; legal = λ J goes fits. tt; facts = λ J goes fits k f there. tt }
