-- What a call is answered, and what is lifted for it.
use Rattle.std.proofs.Common.{◌≡◌, ℕ, zero, suc, ◌+◌, ◌≤◌, Bool, true, false, ◌==◌, ◌&&◌, if◌then◌else◌, List, [], ◌∷◌, ◌++◌, length, drop, refl, ap, sym, ◌∙◌, subst, arith}
use Rattle.std.specs.List.{All}
use Rattle.std.proofs.lemmas.List.{append-nil, append_assoc, length-append}
use Rattle.std.proofs.lemmas.List.Elements.{All-head, All-tail}
use Rattle.ocr_guid.specs.Code.{number_of}
use Rattle.ocr_guid.specs.declared.Code.{Code}
use Rattle.ocr_guid.specs.declared.Code.TheVariants as code
use Rattle.ocr_body_meaning.specs.Call.{is_creation}
use Rattle.ocr_body_meaning.specs.Holds.{is_done}
use Rattle.ocr_body_meaning.specs.declared.call.Answer.{Answer}
use Rattle.ocr_body_meaning.specs.declared.call.Call as body
use Rattle.ocr_body_meaning.specs.declared.call.Call.TheVariants as call
use Rattle.ocr_machine_parts.specs.declared.part.Part.{Part}
use Rattle.ocr_machine_parts.specs.declared.part.Part.TheVariants as part
use Rattle.ocr_machine_parts.specs.Footprint.{makes_core}
use Rattle.ocr_machine_parts.specs.LegalOn.{last_of}
use Rattle.ocr_turns_rule.specs.Debts.{times}
use Rattle.ocr_turns_rule.specs.Steps.{Sees}
use Rattle.ocr_worker_machine.specs.Clerks.{OcrTerms, OcrView}
use Rattle.ocr_worker_machine.specs.Ocr.{beside, meaning, some_number}
use Rattle.ocr_worker_clerk.specs.Entry.{OcrKnown}
use Rattle.ocr_worker_access.specs.Calls.{IsAnswer, IsNextTo, drawn_for, makes_output, makes_scope}
use Rattle.ocr_worker_access.specs.Access.{HasLifted, new_places, places_made}
use Rattle.ocr_worker_calls.proofs.Drawn.{some_is}
use Rattle.ocr_machine_parts.proofs.Within.{done_is}

-- A CALL THAT MAKES NOTHING
none_made : (limit : ℕ) (c : body.Call) (a : Answer) → (is_creation c && is_done a.code) ≡ false → (places_made limit c a ≡ []) × (drawn_for c a ≡ [])
none_made limit c a none = (places (is_creation c) (is_done a.code) none, drawn none)
  where
    places : (made done : Bool) → (made && done) ≡ false → (if done then (if made then a.value ∷ (if makes_core c then (limit + a.value) ∷ beside c a else []) else []) else []) ≡ []
    places true true off = cc off
    places true false off = refl
    places false true off = refl
    places false false off = refl

    drawn : (is_creation c && is_done a.code) ≡ false → (if is_creation c && is_done a.code then a.value ∷ beside c a else []) ≡ []
    drawn off = rw off refl

pub lifted_plain : (t : OcrTerms) (edt : ℕ) (old new : OcrKnown) (c : body.Call) (a : Answer) (places : List ℕ) (ps : List (ℕ × Part)) → (is_creation c && is_done a.code) ≡ false → HasLifted t edt old new places [] ps → HasLifted t edt old new (places ++ places_made t.limit c a) (drawn_for c a) ps
lifted_plain t edt old new c a places ps none h =
    let no = none_made t.limit c a none in
    subst (λ (ns : List ℕ). HasLifted t edt old new ns (drawn_for c a) ps) (sym (ap (λ (l : List ℕ). places ++ l) no.0 ∙ append-nil places))
    (subst (λ (ns : List ℕ). HasLifted t edt old new places ns ps) (sym no.1) h)

pub places_plain : (limit : ℕ) (c : body.Call) (a : Answer) (places : List ℕ) → (is_creation c && is_done a.code) ≡ false → places ≡ places ++ places_made limit c a
places_plain limit c a places none = sym (ap (λ (l : List ℕ). places ++ l) (none_made limit c a none).0 ∙ append-nil places)

none_beside : (c : body.Call) (k : Code) → (is_creation c && is_done k) ≡ false → ((is_done k && makes_scope c) ≡ false) × ((is_done k && makes_output c) ≡ false)
none_beside (call.EdtCreate from pc ps dc ds fl o) k off = rw off (refl, refl)
none_beside other k off = (and_off (is_done k), and_off (is_done k))
  where
    and_off : (b : Bool) → (b && false) ≡ false
    and_off true = refl
    and_off false = refl

pub plain_is : (v : OcrView) (c : body.Call) (a : Answer) → (is_creation c && is_done a.code) ≡ false → v.drawn ≡ [] → (is_creation c ≡ true → a.value ≡ 0) → (is_creation c ≡ false → a.value ≡ number_of a.code) → a.scope ≡ 0 → a.output ≡ 0 → IsAnswer v c a
plain_is v c a none drew value number scope output = record {
  drawn = drew ∙ sym (none_made 0 c a none).1;
  refused = λ creates off. value creates;
  number = number;
  scope = subst (λ (b : Bool). IsNextTo b v a.value a.scope) (sym (none_beside c a.code none).0) scope;
  output = subst (λ (b : Bool). IsNextTo b v (last_of a) a.output) (sym (none_beside c a.code none).1) output;
}

-- A CREATION. Its numbers are drawn
pub lifted_drawn : (t : OcrTerms) (edt : ℕ) (old mid new : OcrKnown) (places all ns : List ℕ) (ps : List (ℕ × Part)) → HasLifted t edt old mid places [] ps → new.view ≡ record mid.view { drawn = ns } → new.parts ≡ mid.parts → Sees meaning new.view → all ≡ (t.limit + edt) ∷ places
    → HasLifted t edt old new (drop 1 all) new.view.drawn ps
lifted_drawn t edt old mid new places all ns ps h view hand sees is =
    subst (λ (ms : List ℕ). HasLifted t edt old new ms new.view.drawn ps) (sym (ap (drop 1) is)) (record {
      core = h.core;
      kept = h.kept;
      taken = h.taken;
      is = h.is;
      was = h.was;
      places_are = h.places_are;
      view = view ∙ (ap (λ (v : OcrView). record v { drawn = ns }) h.view ∙ ap (λ (ms : List ℕ). record old.view { parts = (t.limit + edt, part.Core h.kept) ∷ h.taken; drawn = ms }) (sym drew));
      hand = hand ∙ h.hand;
      parts = h.parts;
      sees = sees;
    })
  where
    drew : new.view.drawn ≡ ns
    drew = ap (λ (v : OcrView). v.drawn) view

-- the places of what it makes, where each number is some
pub new_are : (limit : ℕ) (c : body.Call) (a : Answer) → is_creation c ≡ true → makes_core c ≡ true → new_places limit c a ≡ a.value ∷ (limit + a.value) ∷ (some_number a.scope ++ some_number a.output)
new_are limit (call.EdtCreate from pc ps dc ds fl o) a creates cored = refl
new_are limit other a creates cored = cc cored

pub new_one : (limit : ℕ) (c : body.Call) (a : Answer) → is_creation c ≡ true → makes_core c ≡ false → new_places limit c a ≡ a.value ∷ []
new_one limit c a creates none = rw (creates, none) refl

-- what is drawn stays so while a part is taken
pub still_drawn : (t : OcrTerms) (edt : ℕ) (old c : OcrKnown) (places drawn : List ℕ) (ps : List (ℕ × Part)) → HasLifted t edt old c places drawn ps → c.view.drawn ≡ drawn
still_drawn t edt old c places drawn ps h = ap (λ (v : OcrView). v.drawn) h.view

pub makes_one : (c : body.Call) (k : Code) → (is_creation c && is_done k) ≡ true → is_creation c ≡ true
makes_one c k made = first (is_creation c) (is_done k) made
  where
    first : (x y : Bool) → (x && y) ≡ true → x ≡ true
    first true y is = refl
    first false y is = cc is

pub makes_done : (c : body.Call) (k : Code) → (is_creation c && is_done k) ≡ true → is_done k ≡ true
makes_done c k made = second (is_creation c) (is_done k) made
  where
    second : (x y : Bool) → (x && y) ≡ true → y ≡ true
    second true y is = is
    second false y is = cc is

pub done_one : (c : body.Call) (k : Code) → (is_creation c && is_done k) ≡ true → k ≡ code.Done
done_one c k made = done_is k (makes_done c k made)

-- THE PLACES behind those that were taken
drop_first : (all new : List ℕ) → 1 ≤ length all → drop 1 (all ++ new) ≡ drop 1 all ++ new
drop_first [] new some = absurd (omega (arith, some))
drop_first (x ∷ all) new some = refl

pub lifted_next : (t : OcrTerms) (edt : ℕ) (old c : OcrKnown) (all more drawn new : List ℕ) (ps : List (ℕ × Part)) → 1 ≤ length all → more ≡ all ++ new → HasLifted t edt old c (drop 1 all ++ new) drawn ps → HasLifted t edt old c (drop 1 more) c.view.drawn ps
lifted_next t edt old c all more drawn new ps some follows h =
    subst (λ (l : List ℕ). HasLifted t edt old c l c.view.drawn ps) (sym (ap (drop 1) follows ∙ drop_first all new some))
    (subst (λ (l : List ℕ). HasLifted t edt old c (drop 1 all ++ new) l ps) (sym (still_drawn t edt old c (drop 1 all ++ new) drawn ps h)) h)

-- of the last of them, behind the first
pub lifted_whole : (t : OcrTerms) (edt : ℕ) (old c : OcrKnown) (first all more new whole drawn was : List ℕ) (ps : List (ℕ × Part)) → 1 ≤ length first → 1 ≤ length all → more ≡ all ++ new → more ≡ first ++ whole → drawn ≡ was → HasLifted t edt old c (drop 1 all ++ new) drawn ps
    → HasLifted t edt old c (drop 1 first ++ whole) was ps
lifted_whole t edt old c first all more new whole drawn was ps some_first some_all follows is same h =
    subst (λ (l : List ℕ). HasLifted t edt old c l was ps) (sym (drop_first all new some_all) ∙ (ap (drop 1) (sym follows ∙ is) ∙ drop_first first whole some_first))
    (subst (λ (l : List ℕ). HasLifted t edt old c (drop 1 all ++ new) l ps) same h)

-- nothing is taken at no place
none_is : (n : ℕ) → n ≡ 0 → some_number n ≡ []
none_is n is = rw is refl

pub lifted_none : (t : OcrTerms) (edt : ℕ) (old c : OcrKnown) (all drawn : List ℕ) (ps : List (ℕ × Part)) (n : ℕ) → n ≡ 0 → HasLifted t edt old c all drawn ps → HasLifted t edt old c (all ++ some_number n) drawn ps
lifted_none t edt old c all drawn ps n is h = subst (λ (l : List ℕ). HasLifted t edt old c l drawn ps) (sym (ap (λ (l : List ℕ). all ++ l) (none_is n is) ∙ append-nil all)) h

pub places_none : (all : List ℕ) (n : ℕ) → n ≡ 0 → all ≡ all ++ some_number n
places_none all n is = sym (ap (λ (l : List ℕ). all ++ l) (none_is n is) ∙ append-nil all)

longer : (all more new : List ℕ) → more ≡ all ++ new → length more ≡ length all + length new
longer all more new is = ap (λ (l : List ℕ). length l) is ∙ length-append all new

one_more : (n : ℕ) → length (some_number n) ≤ 1
one_more n = elim (n == 0) as (λ b. length (if b then [] else n ∷ []) ≤ 1) [ true ↦ omega arith | false ↦ omega arith ]

-- a place more, at most
pub some_longer : (all more : List ℕ) (n : ℕ) → more ≡ all ++ some_number n → (length all ≤ length more) × (length more ≤ length all + 1)
some_longer all more n is = let l = longer all more (some_number n) is in let one = one_more n in (omega (arith, l), omega (arith, l, one))

regroup : (a b c d e : List ℕ) → (((a ++ b) ++ c) ++ d) ++ e ≡ a ++ (b ++ (c ++ (d ++ e)))
regroup a b c d e = simp append_assoc

pub placed_one : (limit : ℕ) (c : body.Call) (a : Answer) (v : ℕ) (first last : List ℕ) → is_creation c ≡ true → makes_core c ≡ false → 1 ≤ a.value → v ≡ a.value → last ≡ first ++ some_number v → last ≡ first ++ new_places limit c a
placed_one limit c a v first last creates none some same is = is ∙ ap (λ (l : List ℕ). first ++ l) (ap some_number same ∙ (some_is a.value some ∙ sym (new_one limit c a creates none)))

pub placed_edt : (limit : ℕ) (c : body.Call) (a : Answer) (v x s o : ℕ) (p0 p1 p2 p3 p4 : List ℕ) → is_creation c ≡ true → makes_core c ≡ true → 1 ≤ a.value → v ≡ a.value → x ≡ limit + a.value → s ≡ a.scope → o ≡ a.output
    → p1 ≡ p0 ++ some_number v → p2 ≡ p1 ++ some_number x → p3 ≡ p2 ++ some_number s → p4 ≡ p3 ++ some_number o → p4 ≡ p0 ++ new_places limit c a
placed_edt limit c a v x s o p0 p1 p2 p3 p4 creates cored some v_is x_is s_is o_is e1 e2 e3 e4 =
    e4 ∙ (ap (λ (l : List ℕ). l ++ some_number o) (e3 ∙ ap (λ (l : List ℕ). l ++ some_number s) (e2 ∙ ap (λ (l : List ℕ). l ++ some_number x) e1))
    ∙ (regroup p0 (some_number v) (some_number x) (some_number s) (some_number o)
    ∙ (ap (λ (l : List ℕ). p0 ++ (l ++ (some_number x ++ (some_number s ++ some_number o)))) (ap some_number v_is ∙ some_is a.value some)
    ∙ (ap (λ (l : List ℕ). p0 ++ (a.value ∷ (l ++ (some_number s ++ some_number o)))) (ap some_number x_is ∙ some_is (limit + a.value) (omega (arith, some)))
    ∙ ((λ i. p0 ++ (a.value ∷ (limit + a.value) ∷ (some_number (s_is i) ++ some_number (o_is i))))
    ∙ ap (λ (l : List ℕ). p0 ++ l) (sym (new_are limit c a creates cored)))))))

-- THE NUMBERS that are drawn are within the limit
low_some : (limit n : ℕ) → All (λ k. k ≤ limit) (some_number n) → n ≤ limit
low_some limit zero all = omega arith
low_some limit (suc n) all = All-head (λ k. k ≤ limit) (suc n) [] (subst (All (λ k. k ≤ limit)) (some_is (suc n) (omega arith)) all)

low_both : (limit s o : ℕ) → All (λ k. k ≤ limit) (some_number s ++ some_number o) → (s ≤ limit) × (o ≤ limit)
low_both limit zero o all = (omega arith, low_some limit o all)
low_both limit (suc s) o all =
    let h = subst (λ (ns : List ℕ). All (λ k. k ≤ limit) (ns ++ some_number o)) (some_is (suc s) (omega arith)) all in
    (All-head (λ k. k ≤ limit) (suc s) (some_number o) h, low_some limit o (All-tail (λ k. k ≤ limit) (suc s) (some_number o) h))

made_drawn : (c : body.Call) (a : Answer) → (is_creation c && is_done a.code) ≡ true → drawn_for c a ≡ a.value ∷ beside c a
made_drawn c a made = rw made refl

pub value_low : (limit : ℕ) (c : body.Call) (a : Answer) → (is_creation c && is_done a.code) ≡ true → All (λ n. n ≤ limit) (drawn_for c a) → a.value ≤ limit
value_low limit c a made all = All-head (λ n. n ≤ limit) a.value (beside c a) (subst (All (λ n. n ≤ limit)) (made_drawn c a made) all)

pub beside_low : (limit : ℕ) (c : body.Call) (a : Answer) → (is_creation c && is_done a.code) ≡ true → makes_core c ≡ true → All (λ n. n ≤ limit) (drawn_for c a) → (a.scope ≤ limit) × (a.output ≤ limit)
beside_low limit c a made cored all = by_call c cored (All-tail (λ n. n ≤ limit) a.value (beside c a) (subst (All (λ n. n ≤ limit)) (made_drawn c a made) all))
  where
    by_call : (d : body.Call) → makes_core d ≡ true → All (λ n. n ≤ limit) (beside d a) → (a.scope ≤ limit) × (a.output ≤ limit)
    by_call (call.EdtCreate from pc ps dc ds fl o) cored all = low_both limit a.scope a.output all
    by_call other cored all = cc cored

-- THE ANSWER is the same while parts are taken
next_kept : (b : Bool) (v w : OcrView) (other n : ℕ) → w.drawn ≡ v.drawn → IsNextTo b v other n → IsNextTo b w other n
next_kept true v w other n same is = (subst (λ (ns : List ℕ). 1 ≤ times n ns) (sym same) is.0, is.1)
next_kept false v w other n same is = is

pub answer_kept : (v w : OcrView) (c : body.Call) (a : Answer) → w.drawn ≡ v.drawn → IsAnswer v c a → IsAnswer w c a
answer_kept v w c a same is = record {
  drawn = same ∙ is.drawn;
  refused = is.refused;
  number = is.number;
  scope = next_kept (is_done a.code && makes_scope c) v w a.value a.scope same is.scope;
  output = next_kept (is_done a.code && makes_output c) v w (last_of a) a.output same is.output;
}

-- what it makes, where it is not refused
pub made_places : (limit : ℕ) (c : body.Call) (a : Answer) → is_done a.code ≡ true → new_places limit c a ≡ places_made limit c a
made_places limit c a done = rw done refl
