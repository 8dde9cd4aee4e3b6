-- What a clerk has once it took and lifted what a call names.
use Rattle.std.proofs.Common.{nat_lt, ◌==◌, ◌≡◌, ℕ, ◌+◌, ◌≤◌, true, false, if◌then◌else◌, List, [], ◌∷◌, ◌++◌, length, take, drop, ◌-◌, Option, refl, ap, sym, ◌∙◌, subst, arith}
use Rattle.std.specs.List.{All}
use Rattle.std.proofs.lemmas.List.Elements.{All-cons, All-nil}
use Rattle.ocr_body_code.specs.declared.checked.Checked.{Checked}
use Rattle.ocr_guid.specs.declared.Code.TheVariants as code
use Rattle.ocr_body_meaning.specs.Body.{Body}
use Rattle.ocr_body_meaning.specs.Call.{is_creation}
use Rattle.ocr_body_meaning.specs.declared.call.Answer.{Answer}
use Rattle.ocr_body_meaning.specs.declared.call.Call as body
use Rattle.ocr_body_meaning.specs.declared.call.Call.TheVariants as call
use Rattle.ocr_machine_history.specs.declared.entry.Entry.TheVariants.{Call}
use Rattle.ocr_machine_parts.specs.declared.part.Part.{Part}
use Rattle.ocr_machine_parts.specs.declared.part.Part.TheVariants as part
use Rattle.ocr_machine_parts.specs.Codes.{Sort, wanted}
use Rattle.ocr_machine_parts.specs.Footprint.{and_beside, and_core, and_face, and_made, and_wanted, footprint_of, makes_core}
use Rattle.ocr_machine_parts.specs.Taken.{is_within}
use Rattle.ocr_machine_history.specs.Numbers.{placed}
use Rattle.ocr_turns_rule.specs.Steps.{Sees}
use Rattle.ocr_turns_rule.specs.Sums.{as_some, keys, one_at, sum_of, weigh}
use Rattle.ocr_turns_rule.proofs.Numbered.{weigh_keys}
use Rattle.ocr_turns_rule.proofs.Totals.{one_here}
use Rattle.ocr_worker_machine.specs.Clerks.{OcrTerms, OcrView}
use Rattle.ocr_worker_machine.specs.Ocr.{meaning}
use Rattle.ocr_worker_machine.proofs.Places.{places_good}
use Rattle.ocr_worker_clerk.specs.Entry.{OcrKnown}
use Rattle.ocr_worker_clerk.specs.Work.{AtWork, HasAllAtHand, OcrTable, Took, in_hand, lifted}
use Rattle.ocr_worker_clerk.proofs.Hands.{in_hand_some, some_keys, take_all}
use Rattle.ocr_worker_access.specs.Calls.{faces_of, home_for}
use Rattle.ocr_worker_access.specs.Access.{HasLifted, HasTaken, Runs}

-- THE FACES that a call wants
blank_made : (limit : ℕ) (c : body.Call) (a : Answer) → a.value ≡ 0 → and_made limit c a [] ≡ []
blank_made limit c a null = elim (is_creation c) as (λ b. (if b then and_face limit a.value (if makes_core c then and_core limit a.value [] else []) else []) ≡ []) [
  | true ↦ rw null (elim (makes_core c) as (λ b. and_face limit 0 (if b then and_core limit 0 [] else []) ≡ []) [ true ↦ refl | false ↦ refl ])
  | false ↦ refl
]

abbrev pub blank : Answer
blank = record { code = code.Enoent; value = 0; scope = 0; output = 0 }

abbrev named : ℕ → body.Call → List ℕ
named limit c = and_wanted limit (wanted c) (and_made limit c blank [])

pub blank_places : (limit home : ℕ) (c : body.Call) → (makes_core c ≡ false → home ≡ 0) → footprint_of limit (Call 0 home c blank []) ≡ faces_of limit home c
blank_places limit home c none = beside_none c none ∙ ap (λ (ns : List ℕ). and_face limit home (and_wanted limit (wanted c) ns)) (blank_made limit c blank refl)
  where
    beside_none : (d : body.Call) → (makes_core d ≡ false → home ≡ 0) → and_beside limit home d blank (named limit d) ≡ and_face limit home (named limit d)
    beside_none (call.EdtCreate from pc ps dc ds fl o) none = refl
    beside_none other none = rw (none refl) refl

pub all_from : (P : ℕ → Type 0) (ns : List ℕ) → ((p : ℕ) → 1 ≤ sum_of (one_at p) ns → P p) → All P ns
all_from P [] each = All-nil P
all_from P (n ∷ ns) each = All-cons P n ns (each n (let one = one_here n in omega (arith, one))) (all_from P ns (λ p some. each p (omega (arith, some))))

pub faces_low : (limit home : ℕ) (c : body.Call) → (makes_core c ≡ false → home ≡ 0) → All (λ p. p ≤ limit + limit) (faces_of limit home c)
faces_low limit home c none = subst (All (λ p. p ≤ limit + limit)) (blank_places limit home c none)
    (all_from (λ p. p ≤ limit + limit) (footprint_of limit (Call 0 home c blank [])) (λ p some. let r = (places_good limit (Call 0 home c blank [])).range p some in let high = r.1 in omega (arith, high)))

placed_length : (n : ℕ) (ns : List ℕ) → length (placed n ns) ≤ length ns + 1
placed_length n [] = omega arith
placed_length n (m ∷ ns) = elim (nat_lt n m) as (λ b. length (if b then n ∷ m ∷ ns else if (n == m) then m ∷ ns else m ∷ placed n ns) ≤ length (m ∷ ns) + 1) [
  | true ↦ omega arith
  | false ↦ elim (n == m) as (λ b. length (if b then m ∷ ns else m ∷ placed n ns) ≤ length (m ∷ ns) + 1) [
    | true ↦ omega arith
    | false ↦ let r = placed_length n ns in omega (arith, r)
  ]
]

wanted_length : (limit : ℕ) (all : List (ℕ × Sort)) → length (and_wanted limit all []) ≤ length all
wanted_length limit [] = omega arith
wanted_length limit (one ∷ rest) = elim (is_within limit one.0) as (λ b. length (if b then placed one.0 (and_wanted limit rest []) else and_wanted limit rest []) ≤ length (one ∷ rest)) [
  | true ↦ let a = placed_length one.0 (and_wanted limit rest []) in let r = wanted_length limit rest in omega (arith, a, r)
  | false ↦ let r = wanted_length limit rest in omega (arith, r)
]

pub faces_few : (limit home : ℕ) (c : body.Call) → length (wanted c) ≤ 33 → length (faces_of limit home c) ≤ 34
faces_few limit home c few = elim (is_within limit home) as (λ b. length (if b then placed home (and_wanted limit (wanted c) []) else and_wanted limit (wanted c) []) ≤ 34) [
  | true ↦ let a = placed_length home (and_wanted limit (wanted c) []) in let r = wanted_length limit (wanted c) in omega (arith, a, r, few)
  | false ↦ let r = wanted_length limit (wanted c) in omega (arith, r, few)
]

-- the home that a call joins, by whatever core: none where it makes no EDT
pub home_none : (c : body.Call) (core : Part) → makes_core c ≡ false → home_for c core ≡ 0
home_none c core off = rw off refl

-- WHAT WAS TAKEN stands behind the core
some_taken : (ps : List (ℕ × Part)) (places : List ℕ) (x : ℕ × Part) (rest : List (ℕ × Part)) → ps ≡ x ∷ rest → keys ps ≡ places → 1 ≤ length places
some_taken ps places x rest is same = let l : length (keys (x ∷ rest)) ≡ length places = ap (λ (l : List (ℕ × Part)). length (keys l)) (sym is) ∙ ap length same in omega (arith, l)

seen_with : (v : OcrView) (kept : ℕ × Part) (old new : OcrView) (taken : List (ℕ × Part)) → Sees meaning old → old.parts ≡ kept ∷ [] → new ≡ record old { parts = kept ∷ taken } → ((x : ℕ × Part) (rest : List (ℕ × Part)) → taken ≡ x ∷ rest → Sees meaning new) → Sees meaning new
seen_with v kept old new [] sees keeps is later = subst (Sees meaning) (whole ∙ sym is) sees
  where
    whole : old ≡ record old { parts = kept ∷ [] }
    whole = λ i. record old { parts = keeps i }
seen_with v kept old new (x ∷ rest) sees keeps is later = later x rest refl

pub took_is : (t : OcrTerms) (edt : ℕ) (b : Body) (old new : OcrKnown) (places : List ℕ) → Runs t edt b old → Took old new places → HasTaken t edt old new places
took_is t edt b old new places runs took =
    let view : new.view ≡ record old.view { parts = (t.limit + edt, part.Core runs.kept) ∷ took.parts } = took.view ∙ ap (λ (ps : List (ℕ × Part)). record old.view { parts = ps ++ took.parts }) runs.keeps in
    record {
      core = runs.core;
      kept = runs.kept;
      taken = took.parts;
      is = runs.is;
      was = runs.hand;
      places_are = took.places_are;
      view = view;
      hand = took.hand ∙ ap (λ (ps : List (ℕ × Option Part)). ps ++ as_some took.parts) runs.hand;
      sees = seen_with old.view (t.limit + edt, part.Core runs.kept) old.view new.view took.parts runs.sees runs.keeps view (λ x rest is. took.sees (some_taken took.parts places x rest is took.places_are));
    }

-- each once
pub once_in : (table : OcrTable) (p : Checked) (c : OcrKnown) → AtWork table p c → Sees meaning c.view → (n : ℕ) → weigh (one_at n) c.view.parts ≤ 1
once_in table p c work sees n = (sees table.1 work.of_table.1 work.is_open).1.distinct n

pub taken_keys : (t : OcrTerms) (edt : ℕ) (old new : OcrKnown) (places : List ℕ) → (h : HasTaken t edt old new places) → keys new.parts ≡ keys new.view.parts
taken_keys t edt old new places h =
    ap keys h.hand ∙ (some_keys ((t.limit + edt, part.Core h.core) ∷ h.taken) ∙ sym (ap (λ (v : OcrView). keys v.parts) h.view))

pub taken_once : (table : OcrTable) (p : Checked) (edt : ℕ) (old new : OcrKnown) (places : List ℕ) → HasTaken table.1 edt old new places → AtWork table p new → (n : ℕ) → weigh (one_at n) new.parts ≤ 1
taken_once table p edt old new places h work n =
    let same = weigh_keys (one_at n) new.parts new.view.parts (taken_keys table.1 edt old new places h) in
    let one = once_in table p new work h.sees n in
    omega (arith, same, one)

pub taken_at_hand : (t : OcrTerms) (edt : ℕ) (old new : OcrKnown) (places all : List ℕ) → HasTaken t edt old new places → all ≡ (t.limit + edt) ∷ places → HasAllAtHand new all
taken_at_hand t edt old new places all h is =
    let ps : List (ℕ × Part) = (t.limit + edt, part.Core h.core) ∷ h.taken in
    let listed : keys new.view.parts ≡ all = ap (λ (v : OcrView). keys v.parts) h.view ∙ (ap (λ (l : List ℕ). (t.limit + edt) ∷ l) h.places_are ∙ sym is) in
    record {
      at_hand = h.hand ∙ ap as_some (sym (ap in_hand h.hand ∙ in_hand_some ps));
      kept = listed;
      hand = taken_keys t edt old new places h ∙ listed;
    }

-- LIFTED
pub lifted_is : (t : OcrTerms) (edt : ℕ) (old mid new : OcrKnown) (places : List ℕ) (items : List (ℕ × Part)) → HasTaken t edt old mid places → old.view.drawn ≡ [] → new.view ≡ mid.view → items ≡ in_hand mid.parts → new.parts ≡ lifted mid.parts → HasLifted t edt old new places [] items
lifted_is t edt old mid new places items h none view is hand = record {
  core = h.core;
  kept = h.kept;
  taken = h.taken;
  is = h.is;
  was = h.was;
  places_are = h.places_are;
  view = view ∙ (h.view ∙ ap (λ (ns : List ℕ). record old.view { parts = (t.limit + edt, part.Core h.kept) ∷ h.taken; drawn = ns }) none);
  hand = hand ∙ ap lifted h.hand;
  parts = is ∙ (ap in_hand h.hand ∙ in_hand_some ((t.limit + edt, part.Core h.core) ∷ h.taken));
  sees = subst (Sees meaning) (sym view) h.sees;
}

-- the places behind the first
pub rest_is : (d : List ℕ) (x : ℕ) (ns : List ℕ) → d ≡ x ∷ ns → take (length d - 1) (drop 1 d) ≡ ns
rest_is d x ns is = subst (λ (l : List ℕ). take (length l - 1) (drop 1 l) ≡ ns) (sym is) (take_all ns (length (x ∷ ns) - 1) (omega arith))
