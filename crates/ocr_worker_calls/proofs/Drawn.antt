-- The numbers that are drawn for what a call makes.
use Rattle.std.proofs.Common.{◌≡◌, ℕ, zero, suc, ◌+◌, ◌≤◌, ◌<◌, Bool, true, false, ◌==◌, ◌&&◌, if◌then◌else◌, List, [], ◌∷◌, ◌++◌, length, refl, ap, sym, ◌∙◌, subst, arith}
use Rattle.std.specs.List.{All}
use Rattle.std.proofs.lemmas.Grind.{common_steps}
use Rattle.std.proofs.lemmas.List.{append-nil, length-append}
use Rattle.std.proofs.lemmas.List.Elements.{All-cons, All-nil}
use Rattle.std.proofs.lemmas.Bool.{and_parts}
use Rattle.ocr_guid.specs.declared.Code.{Code}
use Rattle.ocr_body_meaning.specs.Call.{is_creation}
use Rattle.ocr_body_meaning.specs.Holds.{is_done}
use Rattle.ocr_body_meaning.specs.declared.call.Answer.{Answer}
use Rattle.ocr_body_meaning.specs.declared.call.Call as body
use Rattle.ocr_body_meaning.specs.declared.call.Call.TheVariants as call
use Rattle.ocr_machine_parts.specs.LegalOn.{last_of}
use Rattle.ocr_turns_rule.specs.Contract.{SameHand}
use Rattle.ocr_turns_rule.specs.Debts.{times}
use Rattle.ocr_turns_rule.specs.Steps.{Sees, with_drawn}
use Rattle.ocr_turns_rule.specs.Sums.{one_at}
use Rattle.ocr_turns_rule.proofs.Totals.{one_here, sum_append}
use Rattle.ocr_worker_machine.specs.Clerks.{Knows, OcrTerms, OcrView}
use Rattle.ocr_worker_machine.specs.Ocr.{beside, meaning, some_number}
use Rattle.ocr_machine_history.specs.declared.entry.Entry.{Entry}
use Rattle.ocr_worker_clerk.specs.Number.{object_count}
use Rattle.ocr_worker_clerk.specs.Entry.{OcrKnown}
use Rattle.ocr_worker_access.specs.Calls.{IsNextTo, drawn_for, makes_output, makes_scope}
use Rattle.ocr_worker_calls.specs.Calls.{Drew, DrewIf}

-- WHAT IS KNOWN is known after a number was drawn
pub knows_drawn : (t : OcrTerms) (v : OcrView) (n : ℕ) (P : List Entry → Type 0) → Knows t v P → Knows t (with_drawn v n) P
knows_drawn t v n P knows past open_run f = knows past open_run (record {
  limits = f.limits;
  run = f.run;
  few = f.few;
  log = f.log;
  joined = f.joined;
  distinct = f.distinct;
  unmade = λ k some. f.unmade k (let s = sum_append (one_at k) v.drawn (n ∷ []) in omega (arith, some, s));
  own = f.own;
  owed = f.owed;
  sent = f.sent;
  parts = f.parts;
  facts = f.facts;
  claims = λ k some. let q = f.claims k some in record { set = q.set; unended = q.unended; begun = q.begun; tied = q.tied };
  sole = f.sole;
  alone = f.alone;
})

pub knows_if : (t : OcrTerms) (b : Bool) (limit : ℕ) (old new : OcrKnown) (n : ℕ) (P : List Entry → Type 0) → DrewIf b limit old new n → Knows t old.view P → Knows t new.view P
knows_if t true limit old new n P drew knows = subst (λ (v : OcrView). Knows t v P) (sym drew.3) (knows_drawn t old.view n P knows)
knows_if t false limit old new n P drew knows = subst (λ (c : OcrKnown). Knows t c.view P) (sym drew.1) knows

-- A NUMBER MORE is drawn only where the call still needs one
pub count_some : (c : body.Call) → is_creation c ≡ true → 0 < object_count c
count_some (call.DbCreate n fl) creates = omega arith
count_some (call.EventCreate k fl) creates = omega arith
count_some (call.EventCreateParams k fl most sats deps) creates = omega arith
count_some (call.TemplateCreate f pc dc) creates = omega arith
count_some (call.EdtCreate from pc ps dc ds fl output) creates = omega arith
count_some other creates = cc creates

pub count_scope : (c : body.Call) → makes_scope c ≡ true → 1 < object_count c
count_scope (call.EdtCreate from pc ps dc ds fl output) is = rw is (omega arith)
count_scope other is = cc is

pub count_output : (c : body.Call) (n : ℕ) → n ≡ 1 + (if makes_scope c then 1 else 0) → makes_output c ≡ true → n < object_count c
count_output (call.EdtCreate from pc ps dc ds fl output) n drew is = rw is (omega (arith, drew))
count_output other n drew is = cc is

pub first_length : (old new : OcrView) (n : ℕ) → old.drawn ≡ [] → new ≡ with_drawn old n → length new.drawn ≡ 1
first_length old new n none view = ap (λ (v : OcrView). length v.drawn) view ∙ ap (λ (ns : List ℕ). length (ns ++ n ∷ [])) none

pub drew_length : (b : Bool) (limit : ℕ) (old new : OcrKnown) (n : ℕ) → DrewIf b limit old new n → length new.view.drawn ≡ length old.view.drawn + (if b then 1 else 0)
drew_length true limit old new n drew = ap (λ (v : OcrView). length v.drawn) drew.3 ∙ length-append old.view.drawn (n ∷ [])
drew_length false limit old new n drew = let same = ap (λ (c : OcrKnown). length c.view.drawn) drew.1 in omega (arith, same)

-- THE VIEW has a number more
not_none : (n : ℕ) → (suc n == 0) ≡ false
not_none n = grind (arith, common_steps)

pub some_is : (n : ℕ) → 1 ≤ n → some_number n ≡ n ∷ []
some_is zero low = absurd (omega (arith, low))
some_is (suc n) low = rw (not_none n) refl

abbrev with_numbers : OcrView → List ℕ → OcrView
with_numbers w ns = record w { drawn = ns }

pub one_more : (b : Bool) (limit : ℕ) (old new : OcrKnown) (n : ℕ) (w : OcrView) (ns : List ℕ) → DrewIf b limit old new n → old.view ≡ with_numbers w ns → new.view ≡ with_numbers w (ns ++ some_number n)
one_more true limit old new n w ns drew is = drew.3 ∙ (ap (λ (v : OcrView). with_drawn v n) is ∙ ap (λ (ms : List ℕ). with_numbers w (ns ++ ms)) (sym (some_is n drew.0)))
one_more false limit old new n w ns drew is = ap (λ (c : OcrKnown). c.view) drew.1 ∙ (is ∙ ap (λ (ms : List ℕ). with_numbers w ms) (sym (append-nil ns) ∙ ap (λ (k : ℕ). ns ++ some_number k) (sym drew.0)))

same_if : (b : Bool) (limit : ℕ) (first old new : OcrKnown) (n : ℕ) → DrewIf b limit old new n → SameHand first old → SameHand first new
same_if true limit first old new n drew same = let d = drew.4 in (d.0 ∙ same.0, d.1 ∙ same.1, (d.2.0 ∙ same.2.0, d.2.1 ∙ same.2.1, d.2.2 ∙ same.2.2))
same_if false limit first old new n drew same = subst (SameHand first) (sym drew.1) same

sees_if : (b : Bool) (limit : ℕ) (old new : OcrKnown) (n : ℕ) → DrewIf b limit old new n → Sees meaning old.view → Sees meaning new.view
sees_if true limit old new n drew sees = drew.5
sees_if false limit old new n drew sees = subst (λ (c : OcrKnown). Sees meaning c.view) (sym drew.1) sees

-- THE ORDER: a number is above one that was drawn before it
above : (b : Bool) (limit : ℕ) (old new : OcrKnown) (n k : ℕ) (v : OcrView) → DrewIf b limit old new n → 1 ≤ times k old.view.drawn → (b ≡ true → 1 ≤ times n v.drawn) → IsNextTo b v k n
above true limit old new n k v drew some stands = (stands refl, drew.2 k some)
above false limit old new n k v drew some stands = drew.0

low_if : (b : Bool) (limit : ℕ) (old new : OcrKnown) (n : ℕ) → DrewIf b limit old new n → (1 ≤ n → b ≡ true) × (n ≤ limit)
low_if true limit old new n drew = ((λ _. refl), drew.1)
low_if false limit old new n drew = ((λ some. let z = drew.0 in absurd (omega (arith, some, z))), (let z = drew.0 in omega (arith, z)))

some_low : (limit n : ℕ) → n ≤ limit → All (λ k. k ≤ limit) (some_number n)
some_low limit zero low = All-nil (λ k. k ≤ limit)
some_low limit (suc n) low = subst (All (λ k. k ≤ limit)) (sym (some_is (suc n) (omega arith))) (All-cons (λ k. k ≤ limit) (suc n) [] low (All-nil (λ k. k ≤ limit)))

some_if : (b : Bool) (limit : ℕ) (old new : OcrKnown) (n : ℕ) → DrewIf b limit old new n → b ≡ true → 1 ≤ n
some_if true limit old new n drew is = drew.0
some_if false limit old new n drew is = cc is

stands_some : (n : ℕ) → 1 ≤ n → 1 ≤ times n (some_number n)
stands_some zero low = absurd (omega (arith, low))
stands_some (suc n) low = subst (λ (ns : List ℕ). 1 ≤ times (suc n) ns) (sym (some_is (suc n) (omega arith))) (let one = one_here (suc n) in omega (arith, one))

module _ (limit : ℕ) (c : body.Call) (k : Code) (c0 c1 c2 c3 : OcrKnown) (v s o : ℕ) (made : (is_creation c && is_done k) ≡ true) (none : c0.view.drawn ≡ []) (low : (1 ≤ v) × (v ≤ limit)) (view : c1.view ≡ with_drawn c0.view v) (hand : SameHand c0 c1) (sees : Sees meaning c1.view)
    (second : DrewIf (makes_scope c) limit c1 c2 s) (third : DrewIf (makes_output c) limit c2 c3 o) where
  abbrev answered : Answer
  answered = record { code = k; value = v; scope = s; output = o }

  abbrev numbers : List ℕ
  numbers = v ∷ (some_number s ++ some_number o)

  view_one : c1.view ≡ with_numbers c0.view (v ∷ [])
  view_one = view ∙ ap (λ (ns : List ℕ). with_numbers c0.view (ns ++ v ∷ [])) none

  view_two : c2.view ≡ with_numbers c0.view (v ∷ some_number s)
  view_two = one_more (makes_scope c) limit c1 c2 s c0.view (v ∷ []) second view_one

  view_three : c3.view ≡ with_numbers c0.view numbers
  view_three = one_more (makes_output c) limit c2 c3 o c0.view (v ∷ some_number s) third view_two

  beside_is : (d : body.Call) → DrewIf (makes_scope d) limit c1 c2 s → DrewIf (makes_output d) limit c2 c3 o → beside d answered ≡ some_number s ++ some_number o
  beside_is (call.EdtCreate from pc ps dc ds fl output) one two = refl
  beside_is other one two = sym (ap (λ (n : ℕ). some_number n ++ some_number o) one.0 ∙ ap some_number two.0)

  drawn_is : drawn_for c answered ≡ numbers
  drawn_is = rw made (ap (λ (ns : List ℕ). v ∷ ns) (beside_is c second third))

  drawn_three : c3.view.drawn ≡ numbers
  drawn_three = ap (λ (w : OcrView). w.drawn) view_three

  in_numbers : (n : ℕ) → 1 ≤ times n numbers → 1 ≤ times n c3.view.drawn
  in_numbers n some = subst (λ (ns : List ℕ). 1 ≤ times n ns) (sym drawn_three) some

  scope_stands : makes_scope c ≡ true → 1 ≤ times s c3.view.drawn
  scope_stands is = in_numbers s (let h = stands_some s (some_if (makes_scope c) limit c1 c2 s second is) in let p = sum_append (one_at s) (some_number s) (some_number o) in omega (arith, h, p))

  output_stands : makes_output c ≡ true → 1 ≤ times o c3.view.drawn
  output_stands is = in_numbers o (let h = stands_some o (some_if (makes_output c) limit c2 c3 o third is) in let p = sum_append (one_at o) (some_number s) (some_number o) in omega (arith, h, p))

  last_stands : 1 ≤ times (last_of answered) c2.view.drawn
  last_stands = subst (λ (ns : List ℕ). 1 ≤ times (last_of answered) ns) (sym (ap (λ (w : OcrView). w.drawn) view_two)) (by_scope s)
    where
      last_is : (n : ℕ) → (if suc n == 0 then v else suc n) ≡ suc n
      last_is n = rw (not_none n) refl

      by_scope : (n : ℕ) → 1 ≤ times (if n == 0 then v else n) (v ∷ some_number n)
      by_scope zero = let one = one_here v in omega (arith, one)
      by_scope (suc n) = subst (λ (k : ℕ). 1 ≤ times k (v ∷ some_number (suc n))) (sym (last_is n)) (let h = stands_some (suc n) (omega arith) in omega (arith, h))

  done : is_done k ≡ true
  done = (and_parts (is_creation c) (is_done k) made).1

  creates : is_creation c ≡ true
  creates = (and_parts (is_creation c) (is_done k) made).0

  pub drew_all : Drew limit c answered c0 c3
  drew_all = record {
    some = low.0;
    within = subst (All (λ n. n ≤ limit)) (sym drawn_is) (All-cons (λ n. n ≤ limit) v (some_number s ++ some_number o) low.1 (both_low s (low_if (makes_scope c) limit c1 c2 s second).1));
    view = view_three ∙ ap (λ (ns : List ℕ). with_numbers c0.view ns) (sym drawn_is);
    hand = same_if (makes_output c) limit c0 c2 c3 o third (same_if (makes_scope c) limit c0 c1 c2 s second hand);
    sees = sees_if (makes_output c) limit c2 c3 o third (sees_if (makes_scope c) limit c1 c2 s second sees);
    answer = record {
      drawn = drawn_three ∙ sym drawn_is;
      refused = λ _ off. cc (done, off);
      number = λ off. cc (creates, off);
      scope = subst (λ (b : Bool). IsNextTo (b && makes_scope c) c3.view v s) (sym done)
          (above (makes_scope c) limit c1 c2 s v c3.view second (subst (λ (ns : List ℕ). 1 ≤ times v ns) (sym (ap (λ (w : OcrView). w.drawn) view_one)) (let one = one_here v in omega (arith, one))) scope_stands);
      output = subst (λ (b : Bool). IsNextTo (b && makes_output c) c3.view (last_of answered) o) (sym done)
          (above (makes_output c) limit c2 c3 o (last_of answered) c3.view third last_stands output_stands);
    };
  }
    where
      both_low : (n : ℕ) → n ≤ limit → All (λ m. m ≤ limit) (some_number n ++ some_number o)
      both_low zero _ = some_low limit o (low_if (makes_output c) limit c2 c3 o third).1
      both_low (suc n) high = subst (λ (ns : List ℕ). All (λ m. m ≤ limit) (ns ++ some_number o)) (sym (some_is (suc n) (omega arith))) (All-cons (λ m. m ≤ limit) (suc n) (some_number o) high (some_low limit o (low_if (makes_output c) limit c2 c3 o third).1))
