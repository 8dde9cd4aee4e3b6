-- What a call makes has a fresh number, and all else stays.
use Rattle.std.proofs.Common.{◌≡◌, ℕ, List, ◌∷◌, Bool, true, false, not, ◌&&◌, ◌||◌, ◌==◌, if◌then◌else◌, Option, Some, inl, inr, refl, ◌∙◌, ap, subst}
use Rattle.std.proofs.lemmas.Bool.{eqb-true, and_parts, or_cases, not-true}
use Rattle.ocr_body_meaning.specs.Holds.{is_done}
use Rattle.ocr_body_meaning.specs.declared.call.Call as body
use Rattle.ocr_body_meaning.specs.declared.call.Call.TheVariants as call
use Rattle.ocr_body_meaning.specs.declared.call.Answer.{Answer}
use Rattle.ocr_machine_history.specs.declared.entry.Entry.TheVariants.{Call}
use Rattle.ocr_machine_history.specs.declared.objects.TheConstants.{OUTPUT_KIND, OUTPUT_FLAGS}
use Rattle.ocr_machine_history.specs.History.{History, Setting}
use Rattle.ocr_machine_history.specs.Made.{Made, MadeScope, MadeEvent, made, edt_from, makes, names_new, is_new}
use Rattle.ocr_machine_parts.specs.Parts.{Parts}
use Rattle.ocr_machine_parts.specs.LegalOn.{IsFresh, IsNamed, IsBeside, IsCallOn}

-- a number that names an object is not NULL_GUID
pub some_named : (n g : ℕ) → names_new n g ≡ true → (n == 0) ≡ false
some_named n g is = not-true (n == 0) (and_parts (not (n == 0)) (n == g) is).0

pub number_named : (n g : ℕ) → names_new n g ≡ true → n ≡ g
number_named n g is = eqb-true n g (and_parts (not (n == 0)) (n == g) is).1

pub named_fresh : (limit : ℕ) (f : Parts) (a : Answer) (g : ℕ) → IsNamed limit f a → makes a g ≡ true → IsFresh limit f g
named_fresh limit f a g named is =
    let both = and_parts (is_done a.code) (a.value == g) is in
    subst (IsFresh limit f) (eqb-true a.value g both.1) (named.fresh both.0)

-- and that of an EDT's scope, and of its output event
pub beside_fresh : (on : Bool) (limit : ℕ) (f : Parts) (other n g : ℕ) → IsBeside on limit f other n → names_new n g ≡ true → IsFresh limit f g
beside_fresh true limit f other n g beside is = subst (IsFresh limit f) (number_named n g is) beside.0
beside_fresh false limit f other n g beside is = let none : (n == 0) ≡ true = rw beside refl in absurd (cc (none, some_named n g is))

pub new_fresh : (limit : ℕ) (f : Parts) (t home : ℕ) (c : body.Call) (a : Answer) (w : List (ℕ × ℕ)) (g : ℕ) → IsCallOn limit f t home c a w → is_new c a g ≡ true → IsFresh limit f g
new_fresh limit f t home (call.DbCreate n fl) a w g legal is = named_fresh limit f a g legal.value is
new_fresh limit f t home (call.TemplateCreate function pc dc) a w g legal is = named_fresh limit f a g legal.value is
new_fresh limit f t home (call.EventCreate k fl) a w g legal is = named_fresh limit f a g legal.value is
new_fresh limit f t home (call.EventCreateParams k fl most sats deps) a w g legal is = named_fresh limit f a g legal.value is
new_fresh limit f t home (call.EdtCreate from pc ps dc ds fl o) a w g legal is = elim (or_cases _ _ is) [
  | inl beside ↦ elim (or_cases _ _ (and_parts (is_done a.code) _ beside).1) [
    | inl scope ↦ beside_fresh _ limit f _ a.scope g legal.scope scope
    | inr output ↦ beside_fresh _ limit f _ a.output g legal.output output
  ]
  | inr edt ↦ named_fresh limit f a g legal.value.named edt
]
new_fresh limit f t home other a w g legal is = cc is

-- WHAT IS MADE with an EDT: the EDT, its scope or its output event
abbrev pub made_with : Option Made → ℕ → Answer → ℕ → Option Made
made_with edt home a g =
    if a.value == g then edt
    else if names_new a.scope g then Some (MadeScope home a.output)
    else Some (MadeEvent OUTPUT_KIND OUTPUT_FLAGS 0)

made_if : (done here scope output : Bool) (x y z m : Option Made)
    → (if done && here then x else if done && scope then y else if done && output then z else m) ≡ (if (done && (scope || output)) || (done && here) then (if here then x else if scope then y else z) else m)
made_if false here scope output x y z m = refl
made_if true true true output x y z m = refl
made_if true true false true x y z m = refl
made_if true true false false x y z m = refl
made_if true false true output x y z m = refl
made_if true false false true x y z m = refl
made_if true false false false x y z m = refl

pub made_new : (s : Setting) (past : History) (t home from pc : ℕ) (ps : List ℕ) (dc : ℕ) (ds : List ℕ) (fl : ℕ) (o : Bool) (a : Answer) (w : List (ℕ × ℕ)) (g : ℕ)
    → made s (Call t home (call.EdtCreate from pc ps dc ds fl o) a w ∷ past) g
    ≡ (if is_new (call.EdtCreate from pc ps dc ds fl o) a g then made_with (edt_from (made s past from) ps dc) home a g else made s past g)
made_new s past t home from pc ps dc ds fl o a w g =
    made_if (is_done a.code) (a.value == g) (names_new a.scope g) (names_new a.output g) (edt_from (made s past from) ps dc) (Some (MadeScope home a.output)) (Some (MadeEvent OUTPUT_KIND OUTPUT_FLAGS 0)) (made s past g)

-- what is not new is as it was
pub made_old : (s : Setting) (past : History) (t home : ℕ) (c : body.Call) (a : Answer) (w : List (ℕ × ℕ)) (g : ℕ) → is_new c a g ≡ false → made s (Call t home c a w ∷ past) g ≡ made s past g
made_old s past t home (call.DbCreate n fl) a w g off = rw off refl
made_old s past t home (call.TemplateCreate function pc dc) a w g off = rw off refl
made_old s past t home (call.EventCreate k fl) a w g off = rw off refl
made_old s past t home (call.EventCreateParams k fl most sats deps) a w g off = rw off refl
made_old s past t home (call.EdtCreate from pc ps dc ds fl o) a w g off =
    made_new s past t home from pc ps dc ds fl o a w g ∙ ap (λ (b : Bool). if b then made_with (edt_from (made s past from) ps dc) home a g else made s past g) off
made_old s past t home other a w g off = refl
