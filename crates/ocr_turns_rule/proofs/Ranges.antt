-- What a seat owes and has claimed is of EDTs of the table, after every step.
use Rattle.std.proofs.Common.{◌≡◌, ℕ, zero, suc, ◌+◌, ◌<◌, ◌≤◌, ⊎_elim, Bool, true, false, List, [], ◌∷◌, reverse, refl, ap, sym, subst, ◌∙◌, arith, Option, Some, None}
use mathlib.Core.Option.{some, some-injective, some-ne-none}
use mathlib.Core.Logic.{dite}
use native.Mathlib.Decide.{dec_le}
use lib.ListN.{get_elem?}
use Rattle.ocr_base.specs.Mail.{tally}
use Rattle.ocr_turns_rule.specs.Counts.{CountingLaws, Consistent, MayCome, debts_by}
use Rattle.ocr_turns_rule.specs.Meaning.{Meaning}
use Rattle.ocr_turns_rule.specs.Debts.{AreInRange, IsNumber, both_debts, listed, no_debts, of_edt, times, without_all}
use Rattle.ocr_turns_rule.specs.Steps.{limit_of}
use Rattle.ocr_turns_rule.specs.Sums.{one_at, sum_of}
use Rattle.ocr_turns_rule.specs.Words.{FitsSlots, MayStep, StepTells}
use Rattle.ocr_turns_rule.specs.declared.debts.Debts.{Debts}
use Rattle.ocr_turns_rule.specs.declared.view.Terms.{Terms}
use Rattle.ocr_turns_rule.specs.declared.view.View.{View}
use Rattle.ocr_turns_rule.specs.declared.words.WordStep.{WordStep}
use Rattle.ocr_turns_rule.specs.declared.words.WordStep.TheVariants as word
use Rattle.ocr_turns_rule.proofs.Numbered.{at_remove}
use Rattle.ocr_turns_rule.proofs.Owed.{dropped_in, first_tally, times_without}
use Rattle.ocr_turns_rule.proofs.Totals.{at_append, less_sum, one_same, sum_append, tally_append}

in_one : (Q : ℕ → Type 0) (n k : ℕ) → Q k → 1 ≤ one_at n k + 0 → Q n
in_one Q n k is one = subst Q (sym (one_same n k (omega arith))) is

module _ (limit : ℕ) where
  pub none_owed : AreInRange limit no_debts []
  none_owed = record {
    unput = λ i n k x at. absurd (some-ne-none (n, k, x) (sym at));
    put = λ n has. absurd (omega arith);
    made = λ i n slots at. absurd (some-ne-none (n, slots) (sym at));
    resumes = λ n has. absurd (omega arith);
    claims = λ n has. absurd (omega arith);
  }

  pub both_owed : (a b : Debts) (cs ds es : List ℕ) → AreInRange limit a cs → AreInRange limit b ds → ((n : ℕ) → 1 ≤ times n es → 1 ≤ times n cs + times n ds) → AreInRange limit (both_debts a b) es
  both_owed a b cs ds es x y claims = record {
    unput = λ i n k p at. ⊎_elim (λ h. x.unput i n k p h) (λ h. y.unput h.0 n k p h.1) (at_append a.unput b.unput i (n, k, p) at);
    put = λ n has. dite (dec_le 1 (tally (of_edt n) a.put)) (λ h. x.put n h) (λ no. y.put n (let sum = tally_append (of_edt n) a.put b.put in omega arith));
    made = λ i n slots at. ⊎_elim (λ h. x.made i n slots h) (λ h. y.made h.0 n slots h.1) (at_append a.made b.made i (n, slots) at);
    resumes = λ n has. dite (dec_le 1 (times n a.resumes)) (λ h. x.resumes n h) (λ no. y.resumes n (let sum = sum_append (one_at n) a.resumes b.resumes in omega arith));
    claims = λ n has. dite (dec_le 1 (times n cs)) (λ h. x.claims n h) (λ no. y.claims n (let some = claims n has in omega arith));
  }

  -- what an entry adds, and leaves claimed
  pub entered_owed : (a b : Debts) (cs : List ℕ) (test : ℕ → Bool) → AreInRange limit a cs → AreInRange limit b [] → AreInRange limit (both_debts a b) (without_all test cs)
  entered_owed a b cs test x y = both_owed a b cs [] (without_all test cs) x y
      (λ n has. let r = times_without test n cs in elim (test n) as (λ z. test n ≡ z → 1 ≤ times n cs + 0) [
        | true ↦ λ on. let none = r.0 on in absurd (omega arith)
        | false ↦ λ off. let same = r.1 off in omega arith
      ] refl)

-- WHAT AN ENTRY ADDS
all_listed : {A : Type 0} (Q : A → Type 0) (o : Option A) → ((x : A) → o ≡ Some x → Q x) → (i : ℕ) (x : A) → get_elem? (listed o) i ≡ some x → Q x
all_listed Q None all i x at = absurd (some-ne-none x (sym at))
all_listed Q (Some y) all zero x at = subst Q (some-injective y x at) (all y refl)
all_listed Q (Some y) all (suc i) x at = absurd (some-ne-none x (sym at))

pub deed_owed : {G E P N F : Type 0} (m : Meaning G E P N F) (laws : CountingLaws m) (t : Terms G) (past : List E) (e : E) → MayCome m t past e → Consistent m t past
    → ((n : ℕ) → 1 ≤ sum_of (one_at n) (m.makes e) → IsNumber t.limit n)
    → (woken : List ℕ) → m.counting.resumes t.setting.value t.limit (reverse past) e ≡ woken → (one : Option (ℕ × ℕ)) → listed (m.counting.creates t.setting.value t.limit (reverse past) e) ≡ listed one → AreInRange t.limit (debts_by m e woken one) []
deed_owed m laws t past e may told makes woken is one counts = record {
  unput = λ i n k x at. all_listed (λ (s : ℕ × ℕ × ℕ). IsNumber t.limit s.0 × (s.1 < 32)) (m.counting.sets e)
      (λ s sets. let slot = (laws.setting t past e s.0 s.1 s.2 may sets).0 in let made = told.made s.0 slot.0 slot.1 in
      ((made.0, made.1), (let few = made.2 in let lt = slot.2 in omega arith)))
      i (n, k, x) at;
  put = λ n has. absurd (omega arith);
  made = λ i n slots at. all_listed (λ (s : ℕ × ℕ). IsNumber t.limit s.0 × (s.1 ≤ 32)) (m.counting.creates t.setting.value t.limit (reverse past) e)
      (λ s creates. let law = laws.creating t past e s.0 s.1 may creates in (makes s.0 law.0, law.1))
      i (n, slots) (ap (λ (l : List (ℕ × ℕ)). get_elem? l i) counts ∙ at);
  resumes = λ n has.
      let waits = (laws.resuming t past e n may (subst (λ l. 1 ≤ times n l) (sym is) has)).1 in
      let slots = (told.rests n waits.0 waits.1).2 in let made = told.made n slots.0 slots.1 in (made.0, made.1);
  claims = λ n has. absurd (omega arith);
}

-- THE STEPS ON THE WORDS
-- what the clerk's own view says, said of the view that contracts see
pub owed_of : {G E P N F : Type 0} (t : Terms G) (v w : View G E P N F) → v ≡ w → w.terms ≡ Some t → AreInRange (limit_of v.terms) v.debts v.claims → AreInRange t.limit w.debts w.claims
owed_of t v w is terms r = subst (λ l. AreInRange l w.debts w.claims) (ap limit_of terms) (subst (λ z. AreInRange (limit_of z.terms) z.debts z.claims) is r)

module _ {G E P N F : Type 0} (m : Meaning G E P N F) (t : Terms G) (v : View G E P N F) (n : ℕ) (r : AreInRange t.limit v.debts v.claims) where
  -- a step is on the words of an EDT of the table
  pub step_number : (chosen : WordStep) → MayStep m t v n chosen → IsNumber t.limit n
  step_number (word.Put k x) may = (r.unput may.0 n k x may.1).0
  step_number word.Count may = r.put n may
  step_number (word.CountMade d) may = (r.made may.0 n d may.1).0
  step_number (word.Read k) may = r.claims n may.0
  step_number word.Claim may = may
  step_number word.Park may = r.claims n may.0
  step_number word.Resume may = r.resumes n may
  step_number word.Drop may = r.claims n may.0

  pub step_slots : (chosen : WordStep) → MayStep m t v n chosen → FitsSlots chosen
  step_slots (word.Put k x) may = (r.unput may.0 n k x may.1).1
  step_slots word.Count may = tt
  step_slots (word.CountMade d) may = (r.made may.0 n d may.1).1
  step_slots (word.Read k) may = tt
  step_slots word.Claim may = tt
  step_slots word.Park may = tt
  step_slots word.Resume may = tt
  step_slots word.Drop may = tt

  pub step_owed : (chosen : WordStep) (x : ℕ) (w : View G E P N F) → MayStep m t v n chosen → StepTells m n chosen v x w → AreInRange t.limit w.debts w.claims
  step_owed (word.Put k p) x w may is = subst (λ (z : View G E P N F). AreInRange t.limit z.debts z.claims) (sym is) (record {
    unput = λ i a b y at. let h = dropped_in (n, k) v.debts.unput i (a, b, y) at in r.unput h.0 a b y h.1;
    put = λ a has. dite (dec_le 1 (tally (of_edt a) v.debts.put)) (λ h. r.put a h)
        (λ no. in_one (IsNumber t.limit) a n (r.unput may.0 n k p may.1).0 (let sum = tally_append (of_edt a) v.debts.put ((n, k, p) ∷ []) in omega arith));
    made = r.made;
    resumes = r.resumes;
    claims = r.claims;
  })
  step_owed word.Count x w may is = subst (λ (z : View G E P N F). AreInRange t.limit z.debts z.claims) (sym is.0) (record {
    unput = r.unput;
    put = λ a has. r.put a (let less = (first_tally n v.debts.put may).1 (of_edt a) in omega arith);
    made = r.made;
    resumes = r.resumes;
    claims = r.claims;
  })
  step_owed (word.CountMade d) x w may is = subst (λ (z : View G E P N F). AreInRange t.limit z.debts z.claims) (sym is.0) (record {
    unput = r.unput;
    put = r.put;
    made = λ i a slots at. let h = at_remove n v.debts.made i a slots at in r.made h.0 a slots h.1;
    resumes = r.resumes;
    claims = r.claims;
  })
  step_owed (word.Read k) x w may is = subst (λ (z : View G E P N F). AreInRange t.limit z.debts z.claims) (sym is.0) r
  step_owed word.Claim x w may is = ⊎_elim
      (λ h. subst (λ (z : View G E P N F). AreInRange t.limit z.debts z.claims) (sym h.1) (record {
        unput = r.unput;
        put = r.put;
        made = r.made;
        resumes = r.resumes;
        claims = λ a has. dite (dec_le 1 (times a v.claims)) (λ y. r.claims a y) (λ no. in_one (IsNumber t.limit) a n may (let sum = sum_append (one_at a) v.claims (n ∷ []) in omega arith));
      }))
      (λ h. subst (λ (z : View G E P N F). AreInRange t.limit z.debts z.claims) (sym h.1) r)
      is
  step_owed word.Park x w may is = subst (λ (z : View G E P N F). AreInRange t.limit z.debts z.claims) (sym is) (record {
    unput = r.unput;
    put = r.put;
    made = r.made;
    resumes = r.resumes;
    claims = λ a has. r.claims a (let less = less_sum (one_at a) n v.claims may.0 in omega arith);
  })
  step_owed word.Drop x w may is = subst (λ (z : View G E P N F). AreInRange t.limit z.debts z.claims) (sym is) (record {
    unput = r.unput;
    put = r.put;
    made = r.made;
    resumes = r.resumes;
    claims = λ a has. r.claims a (let less = less_sum (one_at a) n v.claims may.0 in omega arith);
  })
  step_owed word.Resume x w may is = subst (λ (z : View G E P N F). AreInRange t.limit z.debts z.claims) (sym is) (record {
    unput = r.unput;
    put = r.put;
    made = r.made;
    resumes = λ a has. r.resumes a (let less = less_sum (one_at a) n v.debts.resumes may in omega arith);
    claims = r.claims;
  })
