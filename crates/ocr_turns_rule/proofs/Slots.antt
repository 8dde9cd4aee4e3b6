-- What an entry does to what a history says of an EDT.
use Rattle.std.proofs.Common.{◌≡◌, ◌≢◌, ℕ, ◌+◌, ◌-◌, ◌≤◌, ◌⊎◌, inl, inr, ⊎_elim, Bool, true, false, ◌||◌, ◌&&◌, ◌==◌, if◌then◌else◌, List, [], ◌∷◌, ◌++◌, reverse, refl, ap, sym, subst, ◌∙◌, arith, eq-eqb, ne_eqb, None, Some, Option}
use Rattle.std.proofs.lemmas.List.{reverse-append}
use Rattle.std.proofs.lemmas.Bool.{or_from}
use mathlib.Core.Logic.{dite}
use native.Mathlib.Decide.{ℕ_discrete}
use Rattle.ocr_base.specs.Mail.{tally}
use Rattle.ocr_turns_rule.specs.declared.view.Terms.{Terms}
use Rattle.ocr_turns_rule.specs.Counts.{CountingLaws, MayCome, Consistent, slots_of, payload_of, awaited, is_started, is_ended, count_if, payload_if, place_or, is_in, is_none, is_true}
use Rattle.ocr_turns_rule.specs.Meaning.{Meaning, Lawful}
use Rattle.ocr_turns_rule.specs.Debts.{listed, making, of_edt, of_slot}
use Rattle.ocr_turns_rule.specs.Sums.{sum_of, one_at, up_to, made_sum}
use Rattle.ocr_turns_rule.proofs.Totals.{made_snoc, one_here, one_else}
use Rattle.ocr_turns_rule.proofs.Owed.{slot_here, slot_else}

pub bools : (b : Bool) → (b ≡ true) ⊎ (b ≡ false)
bools true = inl refl
bools false = inr refl

pub options : {A : Type 0} (o : Option A) → (o ≡ None) ⊎ ((x : A) × (o ≡ Some x))
options None = inl refl
options (Some x) = inr (x, refl)

pub clash : {A : Type 0} (o : Option A) (x : A) → o ≡ None → o ≡ Some x → ⊥
clash o x none is = cc (none, is)

pub none_is : (o : Option ℕ) → 1 - is_none o ≡ 0 → o ≡ None
none_is None z = refl
none_is (Some x) z = absurd (omega arith)

pub some_is : (o : Option ℕ) → 1 ≤ 1 - is_none o → (x : ℕ) × (o ≡ Some x)
some_is None z = absurd (omega arith)
some_is (Some x) z = (x, refl)

pub true_is : (b : Bool) → is_true b ≡ 0 → b ≡ false
true_is false z = refl
true_is true z = absurd (omega arith)

-- MAKINGS
pub count_here : (o : Option (ℕ × ℕ)) (n d : ℕ) (before : Option ℕ) → o ≡ Some (n, d) → (count_if o n before ≡ Some d) × (making n (listed o) ≡ 33 - d)
count_here o n d before is = (
  ap (λ z. count_if z n before) is ∙ rw (eq-eqb n n refl) refl,
  ap (λ z. making n (listed z)) is ∙ rw (eq-eqb n n refl) (omega arith),
)

pub count_else : (o : Option (ℕ × ℕ)) (n : ℕ) (before : Option ℕ) → ((d : ℕ) → o ≡ Some (n, d) → ⊥) → (count_if o n before ≡ before) × (making n (listed o) ≡ 0)
count_else None n before never = (refl, refl)
count_else (Some x) n before never = dite (ℕ_discrete x.0 n)
    (λ eq. absurd (never x.1 (λ i. Some (eq i, x.1))))
    (λ ne. (rw (ne_eqb x.0 n ne) refl, rw (ne_eqb n x.0 (λ e. ne (sym e))) refl))

pub makes_for : (o : Option (ℕ × ℕ)) (n : ℕ) → ((d : ℕ) × (o ≡ Some (n, d))) ⊎ ((d : ℕ) → o ≡ Some (n, d) → ⊥)
makes_for None n = inr (λ d e. cc e)
makes_for (Some x) n = dite (ℕ_discrete x.0 n) (λ eq. inl (x.1, λ i. Some (eq i, x.1))) (λ ne. inr (λ d e. ne (first_same x n d e)))
  where
    first_same : (x : ℕ × ℕ) (n d : ℕ) → ◌≡◌ {A = Option (ℕ × ℕ)} (Some x) (Some (n, d)) → x.0 ≡ n
    first_same x n d e = ap first_of_it e
      where
        first_of_it : Option (ℕ × ℕ) → ℕ
        first_of_it None = 0
        first_of_it (Some y) = y.0

-- SETTINGS
pub pay_here : (o : Option (ℕ × ℕ × ℕ)) (n q x : ℕ) (before : Option ℕ) → o ≡ Some (n, q, x) → (payload_if o n q before ≡ Some x) × (tally (of_slot n q) (listed o) ≡ 1) × (tally (of_edt n) (listed o) ≡ 1)
pay_here o n q x before is = (
  ap (λ z. payload_if z n q before) is ∙ rw (eq-eqb n n refl, eq-eqb q q refl) refl,
  ap (λ z. tally (of_slot n q) (listed z)) is ∙ (let h = slot_here n q in omega arith),
  ap (λ z. tally (of_edt n) (listed z)) is ∙ (let h = one_here n in omega arith),
)

other_pay : (a b n q x : ℕ) (before : Option ℕ) (y z : Bool) → (a == n) ≡ y → (b == q) ≡ z → (a ≢ n) ⊎ (b ≢ q) → (if (a == n) && (b == q) then Some x else before) ≡ before
other_pay a b n q x before true true p r ne = absurd (⊎_elim (λ h. h (eq_of a n p)) (λ h. h (eq_of b q r)) ne)
  where
    eq_of : (a b : ℕ) → (a == b) ≡ true → a ≡ b
    eq_of a b is = dite (ℕ_discrete a b) (λ e. e) (λ ne. let f = ne_eqb a b ne in cc (is, f))
other_pay a b n q x before true false p r ne = rw (p, r) refl
other_pay a b n q x before false z p r ne = rw p refl

pub pay_else : (o : Option (ℕ × ℕ × ℕ)) (n q : ℕ) (before : Option ℕ) → ((x : ℕ) → o ≡ Some (n, q, x) → ⊥) → (payload_if o n q before ≡ before) × (tally (of_slot n q) (listed o) ≡ 0)
pay_else None n q before never = (refl, refl)
pay_else (Some x) n q before never =
    let ne : (x.0 ≢ n) ⊎ (x.1 ≢ q) = dite (ℕ_discrete x.0 n) (λ e. dite (ℕ_discrete x.1 q) (λ h. absurd (never x.2 (λ i. Some (e i, h i, x.2)))) (λ h. inr h)) (λ h. inl h) in (
      other_pay x.0 x.1 n q x.2 before (x.0 == n) (x.1 == q) refl refl ne,
      let z : of_slot n q (x.0, x.1) ≡ 0 = slot_else n q x.0 x.1 (⊎_elim (λ h. inl (λ e. h (sym e))) (λ h. inr (λ e. h (sym e))) ne) in omega arith,
    )

pub sets_for : (o : Option (ℕ × ℕ × ℕ)) (n : ℕ) → ((q x : ℕ) × (o ≡ Some (n, q, x))) ⊎ ((tally (of_edt n) (listed o) ≡ 0) × ((q x : ℕ) → o ≡ Some (n, q, x) → ⊥))
sets_for None n = inr (refl, λ q x e. cc e)
sets_for (Some y) n = dite (ℕ_discrete y.0 n) (λ eq. inl (y.1, y.2, λ i. Some (eq i, y.1, y.2)))
    (λ ne. inr ((let z = one_else n y.0 (λ e. ne (sym e)) in omega arith), λ q x e. ne (ap first_of_it e)))
  where
    first_of_it : Option (ℕ × ℕ × ℕ) → ℕ
    first_of_it None = 0
    first_of_it (Some y) = y.0

pub slot_for : (o : Option (ℕ × ℕ × ℕ)) (n q : ℕ) → ((x : ℕ) × (o ≡ Some (n, q, x))) ⊎ ((x : ℕ) → o ≡ Some (n, q, x) → ⊥)
slot_for None n q = inr (λ x e. cc e)
slot_for (Some y) n q = dite (ℕ_discrete y.0 n)
    (λ eq. dite (ℕ_discrete y.1 q) (λ h. inl (y.2, λ i. Some (eq i, h i, y.2))) (λ ne. inr (λ x e. ne (ap second_of_it e))))
    (λ ne. inr (λ x e. ne (ap first_of_it e)))
  where
    first_of_it : Option (ℕ × ℕ × ℕ) → ℕ
    first_of_it None = 0
    first_of_it (Some y) = y.0

    second_of_it : Option (ℕ × ℕ × ℕ) → ℕ
    second_of_it None = 0
    second_of_it (Some y) = y.1

-- WAITING
-- what an EDT waits for after an entry: it starts or ends by it, is let wait, is resumed, or waited before
abbrev pub waits_after : Bool → Bool → Option ℕ → Bool → Option ℕ → Option ℕ
waits_after starts ends place resumed before = if starts || ends then None else place_or place (if resumed then None else before)

pub after_cases : (a b : Bool) (o : Option ℕ) (z : Bool) (before : Option ℕ) (p : ℕ) → waits_after a b o z before ≡ Some p → (a ≡ false) × (b ≡ false) × ((o ≡ Some p) ⊎ ((o ≡ None) × (z ≡ false) × (before ≡ Some p)))
after_cases true b o z before p is = cc is
after_cases false true o z before p is = cc is
after_cases false false (Some q) z before p is = (refl, refl, inl is)
after_cases false false None true before p is = cc is
after_cases false false None false before p is = (refl, refl, inr (refl, refl, is))

pub after_none : (a b : Bool) (o : Option ℕ) (z : Bool) (before : Option ℕ) → o ≡ None → before ≡ None → waits_after a b o z before ≡ None
after_none true b o z before none was = refl
after_none false true o z before none was = refl
after_none false false (Some q) z before none was = cc none
after_none false false None true before none was = refl
after_none false false None false before none was = was

pub after_resumed : (a b : Bool) (o : Option ℕ) (z : Bool) (before : Option ℕ) → o ≡ None → z ≡ true → waits_after a b o z before ≡ None
after_resumed true b o z before none is = refl
after_resumed false true o z before none is = refl
after_resumed false false (Some q) z before none is = cc none
after_resumed false false None true before none is = refl
after_resumed false false None false before none is = cc is

pub after_same : (a b : Bool) (o : Option ℕ) (z : Bool) (before : Option ℕ) → a ≡ false → o ≡ None → z ≡ false → (b ≡ true → before ≡ None) → waits_after a b o z before ≡ before
after_same true b o z before off none is was = cc off
after_same false true o z before off none is was = sym (was refl)
after_same false false (Some q) z before off none is was = cc none
after_same false false None true before off none is was = cc is
after_same false false None false before off none is was = refl

pub tied_back : (a b sa sb : Bool) (o : Option ℕ) (z : Bool) (before : Option ℕ) (core p : ℕ) → a ≡ false → o ≡ None
    → (if a || sa then (if b || sb then None else Some core) else waits_after a b o z before) ≡ Some p
    → (if sa then (if sb then None else Some core) else before) ≡ Some p
tied_back true b sa sb o z before core p off none is = cc off
tied_back false true true sb o z before core p off none is = cc is
tied_back false false true true o z before core p off none is = cc is
tied_back false false true false o z before core p off none is = is
tied_back false true false sb o z before core p off none is = cc is
tied_back false false false sb (Some q) z before core p off none is = cc none
tied_back false false false sb None true before core p off none is = cc is
tied_back false false false sb None false before core p off none is = is

-- where it is tied after an entry: to the core where it starts, to the place where it is let wait, else as before
pub tied_now : (a b sa sb : Bool) (o : Option ℕ) (z : Bool) (before : Option ℕ) (core p : ℕ)
    → (if a || sa then (if b || sb then None else Some core) else waits_after a b o z before) ≡ Some p
    → ((a ≡ true) × (core ≡ p)) ⊎ ((o ≡ Some p) ⊎ ((if sa then (if sb then None else Some core) else before) ≡ Some p))
tied_now true true sa sb o z before core p is = cc is
tied_now true false sa true o z before core p is = cc is
tied_now true false sa false o z before core p is = inl (refl, cc is)
tied_now false true true sb o z before core p is = cc is
tied_now false false true true o z before core p is = cc is
tied_now false false true false o z before core p is = inr (inr is)
tied_now false true false sb o z before core p is = cc is
tied_now false false false sb (Some q) z before core p is = inr (inl is)
tied_now false false false sb None true before core p is = cc is
tied_now false false false sb None false before core p is = inr (inr is)

module _ {G E P N F : Type 0} (m : Meaning G E P N F) (laws : CountingLaws m) (runs : Lawful m) (t : Terms G) (past : List E) (e : E) (may : MayCome m t past e) (told : Consistent m t past)
    (unmade : (n : ℕ) → 1 ≤ sum_of (one_at n) (m.makes e) → (1 ≤ n) × (n ≤ t.limit) × (up_to (one_at n) m.opened + made_sum m.makes (one_at n) (reverse past) ≡ 0)) where
  -- an EDT that it makes was not made
  pub created_none : (n d : ℕ) → m.counting.creates t.setting.value t.limit (reverse past) e ≡ Some (n, d) → slots_of m t past n ≡ None
  created_none n d is = ⊎_elim (λ z. z)
      (λ z. let r = told.made n z.0 z.1 in let u = unmade n ((laws.creating t past e n d may is).0) in absurd (let a = r.3 in let b = u.2 in omega arith))
      (options (slots_of m t past n))

  pub slots_later : (n d : ℕ) → slots_of m t past n ≡ Some d → slots_of m t (e ∷ past) n ≡ Some d
  slots_later n d is = (count_else (m.counting.creates t.setting.value t.limit (reverse past) e) n (slots_of m t past n) (λ q made. clash (slots_of m t past n) d (created_none n q made) is)).0 ∙ is

  -- a slot that is set is not set again
  pub payload_later : (n q x : ℕ) → payload_of m t past n q ≡ Some x → payload_of m t (e ∷ past) n q ≡ Some x
  payload_later n q x is = (pay_else (m.counting.sets e) n q (payload_of m t past n q) (λ y now. clash (payload_of m t past n q) x (laws.setting t past e n q y may now).1 is)).0 ∙ is

  reversed : reverse (e ∷ past) ≡ reverse past ++ e ∷ []
  reversed = reverse-append (e ∷ []) past

  made_more : (n : ℕ) → made_sum m.makes (one_at n) (reverse (e ∷ past)) ≡ made_sum m.makes (one_at n) (reverse past) + sum_of (one_at n) (m.makes e)
  made_more n = ap (made_sum m.makes (one_at n)) reversed ∙ made_snoc m.makes (one_at n) (reverse past) e

  pub told_more : Consistent m t (e ∷ past)
  told_more = record {
    made = λ n d is. ⊎_elim
        (λ z. let law = laws.creating t past e n z.0 may z.1 in let u = unmade n law.0 in let more = made_more n in
        let same : ◌≡◌ {A = Option ℕ} (Some z.0) (Some d) = sym (count_here (m.counting.creates t.setting.value t.limit (reverse past) e) n z.0 (slots_of m t past n) z.1).0 ∙ is in
        let eq : z.0 ≡ d = cc same in
        (u.0, u.1, (let a = law.1 in omega arith), (let a = law.0 in omega arith)))
        (λ no. let r = told.made n d (sym (count_else (m.counting.creates t.setting.value t.limit (reverse past) e) n (slots_of m t past n) no).0 ∙ is) in let more = made_more n in (r.0, r.1, r.2, (let a = r.3 in omega arith)))
        (makes_for (m.counting.creates t.setting.value t.limit (reverse past) e) n);
    set = λ n q x is. ⊎_elim
        (λ z. let law = (laws.setting t past e n q z.0 may z.1).0 in (law.0, slots_later n law.0 law.1, law.2))
        (λ no. let r = told.set n q x (sym (pay_else (m.counting.sets e) n q (payload_of m t past n q) no).0 ∙ is) in (r.0, slots_later n r.0 r.1, r.2))
        (slot_for (m.counting.sets e) n q);
    rests = λ n p is.
        let w = after_cases (m.starts e n) (m.ends e n) (m.counting.waits e n) (is_in n (m.counting.resumes t.setting.value t.limit (reverse past) e)) (awaited m t past n) p is in
        ⊎_elim
        (λ z. let ready = (laws.waiting t past e n p may z).0 in (or_from (m.starts e n) (is_started m t past n) w.0 ready.unstarted, or_from (m.ends e n) (is_ended m t past n) w.1 ready.unended, (ready.set.slots, slots_later n ready.set.slots ready.set.made)))
        (λ z. let r = told.rests n p z.2 in (or_from (m.starts e n) (is_started m t past n) w.0 r.0, or_from (m.ends e n) (is_ended m t past n) w.1 r.1, (r.2.0, slots_later n r.2.0 r.2.1)))
        w.2;
    facts = λ n q x is. ⊎_elim
        (λ z. let law = laws.setting t past e n q z.0 may z.1 in
        let same : ◌≡◌ {A = Option ℕ} (Some z.0) (Some x) = sym (pay_here (m.counting.sets e) n q z.0 (payload_of m t past n q) z.1).0 ∙ is in
        let eq : z.0 ≡ x = cc same in
        subst (λ y. m.stands t.setting.value t.limit (reverse (e ∷ past)) (m.counting.is_set n q y)) eq law.2)
        (λ no. subst (λ l. m.stands t.setting.value t.limit l (m.counting.is_set n q x)) (sym reversed)
        (runs.lasting t.setting.value t.limit (reverse past) e (m.counting.is_set n q x) may.run may.legal (told.facts n q x (sym (pay_else (m.counting.sets e) n q (payload_of m t past n q) no).0 ∙ is))))
        (slot_for (m.counting.sets e) n q);
  }
