-- What a step does to an EDT's account.
use Rattle.std.proofs.Common.{◌≡◌, ℕ, zero, suc, ◌+◌, ◌-◌, ◌%◌, ◌≤◌, inl, inr, ⊎_elim, Option, Some, None, refl, ap, sym, subst, ◌∙◌, arith}
use Rattle.ocr_turns_rule.specs.Sums.{is_free}
use Rattle.ocr_turns_rule.specs.Counts.{Account, IsCounting, IsBusy, IsParked, IsInOrder, READY, BUSY, PARKED}

pub account_is : (a b : Account) → a.word ≡ b.word → a.making ≡ b.making → a.owed ≡ b.owed → a.unset ≡ b.unset → a.claims ≡ b.claims → a.resumes ≡ b.resumes → a.waits ≡ b.waits → a.started ≡ b.started → a.ended ≡ b.ended → a.lasts ≡ b.lasts → a ≡ b
account_is a b word making owed unset claims resumes waits started ended lasts = λ i. record { word = word i; making = making i; owed = owed i; unset = unset i; claims = claims i; resumes = resumes i; waits = waits i; started = started i; ended = ended i; lasts = lasts i }

-- what is counted is counted while the EDT counts
pub counting : (o : Option ℕ) (a : Account) → IsInOrder o a → 1 ≤ a.making + a.owed → IsCounting a × ((d : ℕ) × (o ≡ Some d))
counting None a h some = let b = h.bare in absurd (omega arith)
counting (Some d) a h some = ⊎_elim (λ y. (y, (d, refl))) (λ z. ⊎_elim (λ y. let b = y.counted in absurd (omega arith)) (λ y. let b = y.counted in absurd (omega arith)) z) h

-- who is claimed is busy
pub busy : (o : Option ℕ) (a : Account) → IsInOrder o a → 1 ≤ a.claims → IsBusy a × ((d : ℕ) × (o ≡ Some d))
busy None a h some = let b = h.bare in absurd (omega arith)
busy (Some d) a h some = ⊎_elim (λ y. let b = y.bare in absurd (omega arith)) (λ z. ⊎_elim (λ y. (y, (d, refl))) (λ y. let b = y.none in absurd (omega arith)) z) h

-- whose resume is owed is parked
pub parked : (o : Option ℕ) (a : Account) → IsInOrder o a → 1 ≤ a.resumes → IsParked a × ((d : ℕ) × (o ≡ Some d))
parked None a h some = let b = h.bare in absurd (omega arith)
parked (Some d) a h some = ⊎_elim (λ y. let b = y.bare in absurd (omega arith)) (λ z. ⊎_elim (λ y. let b = y.none in absurd (omega arith)) (λ y. (y, (d, refl))) z) h

-- the word 0 is that of an EDT of which all is counted
pub ready : (o : Option ℕ) (a : Account) → IsInOrder o a → a.word ≡ READY → IsCounting a × ((d : ℕ) × (o ≡ Some d)) × (a.making + (a.owed + a.unset) ≡ 0)
ready None a h is = let b = h.word in absurd (omega arith)
ready (Some d) a h is = ⊎_elim (λ y. (y, (d, refl), (let w = y.word in omega arith))) (λ z. ⊎_elim (λ y. let b = y.word in absurd (omega arith)) (λ y. let b = y.word in absurd (omega arith)) z) h

in_counting : (o : Option ℕ) (d : ℕ) (a : Account) → o ≡ Some d → IsCounting a → IsInOrder o a
in_counting o d a is h = subst (λ x. IsInOrder x a) (sym is) (inl h)

in_busy : (o : Option ℕ) (d : ℕ) (a : Account) → o ≡ Some d → IsBusy a → IsInOrder o a
in_busy o d a is h = subst (λ x. IsInOrder x a) (sym is) (inr (inl h))

in_parked : (o : Option ℕ) (d : ℕ) (a : Account) → o ≡ Some d → IsParked a → IsInOrder o a
in_parked o d a is h = subst (λ x. IsInOrder x a) (sym is) (inr (inr h))

pub not_free : (x : ℕ) → 1 ≤ x → is_free x ≡ 0
not_free zero h = absurd (omega arith)
not_free (suc x) h = refl

pub free_most : (x : ℕ) → is_free x ≤ 1
free_most zero = omega arith
free_most (suc x) = omega arith

-- by so much less is owed, and by so much the word falls
pub falls : (o : Option ℕ) (a b : Account) (less : ℕ) → IsInOrder o a → 1 ≤ a.making + a.owed → less ≤ 33 → b.making + b.owed + less ≡ a.making + a.owed → b.word ≡ (a.word + (18446744073709551616 - less)) % 18446744073709551616
    → b.unset ≡ a.unset → b.claims ≡ a.claims → b.resumes ≡ a.resumes → b.waits ≡ a.waits → b.started ≡ a.started → b.lasts ≡ a.lasts + is_free b.word → IsInOrder o b × (less ≤ a.word) × (a.word ≤ 33) × (b.word + less ≡ a.word)
falls o a b less h some small owes word unset claims resumes waits started lasts =
    let r = counting o a h some in let w = r.0.word in let most = r.0.most in let bare = r.0.bare in
    let new : b.word + less ≡ a.word = omega arith in
    (in_counting o r.1.0 b r.1.1 (record { word = omega arith; most = omega arith; bare = omega arith; once = (let was = r.0.once in let z = not_free a.word (omega arith) in omega arith) }), omega arith, most, new)

pub claimed : (o : Option ℕ) (a b : Account) → IsInOrder o a → a.word ≡ READY → b.word ≡ BUSY → b.making ≡ a.making → b.owed ≡ a.owed → b.unset ≡ a.unset → b.claims ≡ a.claims + 1 → b.resumes ≡ a.resumes → b.started ≡ a.started → b.lasts ≡ a.lasts → IsInOrder o b
claimed o a b h is word making owed unset claims resumes started lasts =
    let r = ready o a h is in let bare = r.0.bare in let all = r.2 in
    in_busy o r.1.0 b r.1.1 (record { word = word; counted = omega arith; held = omega arith; sole = omega arith; runs = λ on. absurd (omega arith); none = omega arith; once = lasts ∙ (r.0.once ∙ ap is_free is) })

pub parks : (o : Option ℕ) (a b : Account) → IsInOrder o a → 1 ≤ a.claims → a.waits ≡ 1 → a.started ≡ 0 → b.word ≡ PARKED → b.making ≡ a.making → b.owed ≡ a.owed → b.unset ≡ a.unset → b.claims + 1 ≡ a.claims → b.resumes ≡ a.resumes → b.waits ≡ a.waits → b.started ≡ a.started → b.lasts ≡ a.lasts → IsInOrder o b
parks o a b h some wait fresh word making owed unset claims resumes waits started lasts =
    let r = busy o a h some in let c = r.0.counted in let sole = r.0.sole in let none = r.0.none in
    in_parked o r.1.0 b r.1.1 (record { word = word; counted = omega arith; waits = omega arith; none = omega arith; once = lasts ∙ r.0.once })

pub resumed : (o : Option ℕ) (a b : Account) → IsInOrder o a → 1 ≤ a.resumes → b.word ≡ READY → b.making ≡ a.making → b.owed ≡ a.owed → b.unset ≡ a.unset → b.claims ≡ a.claims → b.resumes + 1 ≡ a.resumes → b.waits ≡ a.waits → b.started ≡ a.started → b.lasts ≡ a.lasts → IsInOrder o b
resumed o a b h some word making owed unset claims resumes waits started lasts =
    let r = parked o a h some in let c = r.0.counted in let w = r.0.waits in let none = r.0.none in
    in_counting o r.1.0 b r.1.1 (record { word = omega arith; most = omega arith; bare = omega arith; once = lasts ∙ (r.0.once ∙ sym (ap is_free word)) })

-- the claim of an EDT that has its end is given up
pub forgone : (o : Option ℕ) (a b : Account) → IsInOrder o a → 1 ≤ a.claims → a.ended ≡ 1 → b.word ≡ BUSY → b.making ≡ a.making → b.owed ≡ a.owed → b.unset ≡ a.unset → b.claims + 1 ≡ a.claims → b.resumes ≡ a.resumes → b.started ≡ a.started → b.ended ≡ a.ended → b.lasts ≡ a.lasts → IsInOrder o b
forgone o a b h some over word making owed unset claims resumes started ended lasts =
    let r = busy o a h some in let c = r.0.counted in let sole = r.0.sole in let none = r.0.none in let runs = r.0.runs in
    in_busy o r.1.0 b r.1.1 (record { word = word; counted = omega arith; held = omega arith; sole = omega arith; runs = λ on. let one = runs (omega arith) in absurd (omega arith); none = omega arith; once = lasts ∙ r.0.once })
