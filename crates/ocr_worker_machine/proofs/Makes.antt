-- What an entry makes was not made before.
use Rattle.std.proofs.Common.{◌≡◌, ◌≢◌, ℕ, zero, suc, ◌+◌, ◌<◌, ◌≤◌, List, [], ◌∷◌, ◌++◌, reverse, Bool, true, false, not, ◌==◌, ◌&&◌, ◌||◌, if◌then◌else◌, Option, Some, None, Ok, Err, is_some, refl, sym, ◌∙◌, ap, arith}
use Rattle.std.proofs.lemmas.Bool.{eqb-true, or_left}
use Rattle.std.proofs.lemmas.Grind.{common_steps}
use Rattle.ocr_guid.specs.Target.{EventCall, was_destroyed}
use Rattle.ocr_guid.specs.declared.Code.TheVariants as code
use Rattle.ocr_base.specs.declared.limits.TheConstants.{MOST_PARAMETERS, MOST_DEPENDENCES}
use Rattle.ocr_template.specs.declared.Template.{Template}
use Rattle.ocr_template.specs.Template.{count_meant, counts_of, is_refused}
use Rattle.ocr_slots.specs.Slots as slot
use Rattle.ocr_datablock.specs.Block as block
use Rattle.ocr_body_meaning.specs.Holds.{is_done}
use Rattle.ocr_body_meaning.specs.declared.call.Call as body
use Rattle.ocr_body_meaning.specs.declared.call.Call.TheVariants as call
use Rattle.ocr_body_meaning.specs.declared.call.Answer.{Answer}
use Rattle.ocr_machine_history.specs.declared.entry.Entry.{Entry}
use Rattle.ocr_machine_history.specs.declared.entry.Entry.TheVariants.{Call}
use Rattle.ocr_machine_history.specs.History.{History, Setting}
use Rattle.ocr_machine_history.specs.declared.objects.TheConstants.{ARGUMENTS, MAIN_EDT, OUTPUT_KIND, OUTPUT_FLAGS}
use Rattle.ocr_machine_history.specs.Made.{Made, MadeTemplate, MadeEvent, MadeScope, edt_from, is_edt, is_edt_made, is_new, made, makes, names_new, opened, depc_in}
use Rattle.ocr_machine_parts.specs.Calls.{block_calls, event_calls, link_calls, scope_calls}
use Rattle.ocr_machine_parts.specs.Codes.{counted_code, creation_code}
use Rattle.ocr_machine_parts.specs.LegalOn.{IsCallOn, last_of}
use Rattle.ocr_machine_parts.specs.Parts.{Parts, face, parts_of}
use Rattle.ocr_machine_parts.specs.Legal.{IsRun, IsLegal}
use Rattle.ocr_machine_parts.proofs.After.{accepted, done_is}
use Rattle.ocr_machine_parts.proofs.Beside.{below_last, beside_is, scope_below}
use Rattle.ocr_machine_parts.proofs.Fresh.{made_new, made_old, made_with, new_fresh, number_named, some_named}
use Rattle.ocr_machine_parts.proofs.Within.{fresh_free}
use Rattle.ocr_machine_parts.specs.Taken.{is_within}
use Rattle.ocr_machine_laws.proofs.Edts.{edts_law}
use Rattle.ocr_machine_laws.proofs.Permanence.{made_law}
use Rattle.ocr_turns_rule.specs.Sums.{made_sum, one_at, sum_of, up_to}
use Rattle.ocr_turns_rule.proofs.Totals.{made_snoc, sum_append}
use Rattle.ocr_worker_machine.proofs.Runs.{reverse_cons}
use Rattle.ocr_worker_machine.specs.Ocr as ocr
use Rattle.ocr_finish.specs.Scope.{ScopeCall}
use Rattle.ocr_machine_laws.proofs.Scopes.{new_done}

-- A CALL that makes a number
abbrev bit : Bool → ℕ
bit b = if b then 1 else 0

value_bit : (n v : ℕ) → one_at n v ≡ bit (v == n)
value_bit n v = grind (arith, common_steps)

some_bit : (n g : ℕ) → sum_of (one_at n) (ocr.some_number g) ≡ bit (names_new g n)
some_bit n g = elim (g == 0) as (λ b. sum_of (one_at n) (if b then [] else g ∷ []) ≡ bit (not b && (g == n))) [
  | true ↦ refl
  | false ↦ let one = value_bit n g in omega (arith, one)
]

edt_bits : (n : ℕ) (a : Answer) → sum_of (one_at n) (a.value ∷ (ocr.some_number a.scope ++ ocr.some_number a.output)) ≡ bit (a.value == n) + (bit (names_new a.scope n) + bit (names_new a.output n))
edt_bits n a =
    let one = value_bit n a.value in let two = some_bit n a.scope in let three = some_bit n a.output in
    let all = sum_append (one_at n) (ocr.some_number a.scope) (ocr.some_number a.output) in
    omega (arith, one, two, three, all)

of_three : (v s o : Bool) → 1 ≤ bit v + (bit s + bit o) → ((s || o) || v) ≡ true
of_three v true o some = refl
of_three v false true some = refl
of_three true false false some = refl
of_three false false false some = absurd (omega (arith, some))

one_made : (done : Bool) (v n : ℕ) → 1 ≤ sum_of (one_at n) (if done then v ∷ [] else []) → ((done && (v == n)) ≡ true) × (sum_of (one_at n) (if done then v ∷ [] else []) ≡ 1)
one_made false v n some = absurd (omega (arith, some))
one_made true v n some = elim (v == n) as (λ b. one_at n v ≡ bit b → (b ≡ true) × (one_at n v + 0 ≡ 1)) [
  | true ↦ λ one. (refl, omega (arith, one))
  | false ↦ λ none. absurd (omega (arith, some, none))
] (value_bit n v)

edt_made : (done : Bool) (a : Answer) (n : ℕ) → 1 ≤ sum_of (one_at n) (if done then a.value ∷ (ocr.some_number a.scope ++ ocr.some_number a.output) else [])
    → ((done && (names_new a.scope n || names_new a.output n)) || (done && (a.value == n))) ≡ true
edt_made false a n some = absurd (omega (arith, some))
edt_made true a n some = let bits = edt_bits n a in of_three (a.value == n) (names_new a.scope n) (names_new a.output n) (omega (arith, some, bits))

-- what it makes is new
pub makes_new : (u home : ℕ) (c : body.Call) (a : Answer) (w : List (ℕ × ℕ)) (n : ℕ) → 1 ≤ sum_of (one_at n) (ocr.makes (Call u home c a w)) → is_new c a n ≡ true
makes_new u home (call.DbCreate z fl) a w n some = (one_made (is_done a.code) a.value n some).0
makes_new u home (call.TemplateCreate f pc dc) a w n some = (one_made (is_done a.code) a.value n some).0
makes_new u home (call.EventCreate kind fl) a w n some = (one_made (is_done a.code) a.value n some).0
makes_new u home (call.EventCreateParams kind fl most sats nd) a w n some = (one_made (is_done a.code) a.value n some).0
makes_new u home (call.EdtCreate from pc ps dc ds fl o) a w n some = edt_made (is_done a.code) a n some
makes_new u home other a w n some = absurd (omega (arith, some))

-- and is made once: an EDT, its scope and its output event have numbers that rise
once_of : (v s o : Bool) → (v ≡ true → s ≡ true → ⊥) → (v ≡ true → o ≡ true → ⊥) → (s ≡ true → o ≡ true → ⊥) → bit v + (bit s + bit o) ≤ 1
once_of true true o first second third = absurd (first refl refl)
once_of true false true first second third = absurd (second refl refl)
once_of true false false first second third = omega arith
once_of false true true first second third = absurd (third refl refl)
once_of false true false first second third = omega arith
once_of false false true first second third = omega arith
once_of false false false first second third = omega arith

edt_once : (done : Bool) (a : Answer) (n : ℕ) → bit (a.value == n) + (bit (names_new a.scope n) + bit (names_new a.output n)) ≤ 1
    → 1 ≤ sum_of (one_at n) (if done then a.value ∷ (ocr.some_number a.scope ++ ocr.some_number a.output) else []) → sum_of (one_at n) (if done then a.value ∷ (ocr.some_number a.scope ++ ocr.some_number a.output) else []) ≡ 1
edt_once false a n once some = absurd (omega (arith, some))
edt_once true a n once some = let bits = edt_bits n a in omega (arith, some, bits, once)

pub makes_once : (limit : ℕ) (f : Parts) (u home : ℕ) (c : body.Call) (a : Answer) (w : List (ℕ × ℕ)) (n : ℕ) → IsCallOn limit f u home c a w → 1 ≤ sum_of (one_at n) (ocr.makes (Call u home c a w)) → sum_of (one_at n) (ocr.makes (Call u home c a w)) ≡ 1
makes_once limit f u home (call.DbCreate z fl) a w n legal some = (one_made (is_done a.code) a.value n some).1
makes_once limit f u home (call.TemplateCreate g pc dc) a w n legal some = (one_made (is_done a.code) a.value n some).1
makes_once limit f u home (call.EventCreate kind fl) a w n legal some = (one_made (is_done a.code) a.value n some).1
makes_once limit f u home (call.EventCreateParams kind fl most sats nd) a w n legal some = (one_made (is_done a.code) a.value n some).1
makes_once limit f u home (call.EdtCreate from pc ps dc ds fl o) a w n legal some =
    let scope_above : (a.scope == 0) ≡ false → a.value < a.scope = λ there. (beside_is _ limit f a.value a.scope legal.scope there).1 in
    let output_above : (a.output == 0) ≡ false → last_of a < a.output = λ there. (beside_is _ limit f (last_of a) a.output legal.output there).1 in
    edt_once (is_done a.code) a n (once_of (a.value == n) (names_new a.scope n) (names_new a.output n)
    (λ is named. let less = scope_above (some_named a.scope n named) in omega (arith, less, eqb-true a.value n is, number_named a.scope n named))
    (λ is named. let less = below_last a scope_above a.output (output_above (some_named a.output n named)) in omega (arith, less, eqb-true a.value n is, number_named a.output n named))
    (λ own named. let less = scope_below a a.output (some_named a.scope n own) (output_above (some_named a.output n named)) in omega (arith, less, number_named a.scope n own, number_named a.output n named))) some
makes_once limit f u home other a w n legal some = absurd (omega (arith, some))

-- the number was free
pub free_before : (s : Setting) (past : History) (u home : ℕ) (c : body.Call) (a : Answer) (w : List (ℕ × ℕ)) (n : ℕ) → IsLegal s past (Call u home c a w) → is_new c a n ≡ true → (made s past n ≡ None) × (is_within s.limit n ≡ true)
free_before s past u home c a w n legal new = fresh_free s past n (new_fresh s.limit (parts_of s past) u home c a w n legal.on_parts new)

-- and is made after it
edt_some : (m : Option Made) → is_edt_made m ≡ true → is_some m ≡ true
edt_some (Some m) is = refl
edt_some None is = cc is

made_if : (b : Bool) (x : Made) (y : Option Made) → b ≡ true → is_some (if b then Some x else y) ≡ true
made_if true x y is = refl
made_if false x y is = cc is

with_some : (edt : Option Made) (home : ℕ) (a : Answer) (n : ℕ) → (a.value == n) ≡ false → is_some (made_with edt home a n) ≡ true
with_some edt home a n off = rw off (elim (names_new a.scope n) as (λ b. is_some (if b then Some (MadeScope home a.output) else Some (MadeEvent OUTPUT_KIND OUTPUT_FLAGS 0)) ≡ true) [ true ↦ refl | false ↦ refl ])

pub made_after : (s : Setting) (past : History) (u home : ℕ) (c : body.Call) (a : Answer) (w : List (ℕ × ℕ)) (n : ℕ) → IsRun s past → IsLegal s past (Call u home c a w) → is_new c a n ≡ true → is_some (made s (Call u home c a w ∷ past) n) ≡ true
made_after s past u home (call.DbCreate z fl) a w n run legal new = made_if (makes a n) _ (made s past n) new
made_after s past u home (call.TemplateCreate f pc dc) a w n run legal new = made_if (makes a n) _ (made s past n) new
made_after s past u home (call.EventCreate kind fl) a w n run legal new = made_if (makes a n) _ (made s past n) new
made_after s past u home (call.EventCreateParams kind fl most sats nd) a w n run legal new = made_if (makes a n) _ (made s past n) new
made_after s past u home (call.EdtCreate from pc ps dc ds fl o) a w n run legal new =
    let e : Entry = Call u home (call.EdtCreate from pc ps dc ds fl o) a w in
    let edt : Option Made = edt_from (made s past from) ps dc in
    elim (a.value == n) as (λ b. (a.value == n) ≡ b → is_some (made s (e ∷ past) n) ≡ true) [
      | true ↦ λ here.
          let made_n : makes a n ≡ true = rw (new_done (is_done a.code) _ _ new) here in
          edt_some (made s (e ∷ past) n) (edts_law s (e ∷ past) (run, legal) n ∙ or_left (makes a n) (is_edt past n) made_n)
      | false ↦ λ off.
          ap (λ (m : Option Made). is_some m) (made_new s past u home from pc ps dc ds fl o a w n ∙ ap (λ (b : Bool). if b then made_with edt home a n else made s past n) new) ∙ with_some edt home a n off
    ] refl
made_after s past u home other a w n run legal new = cc new

-- WHAT IS NOT MADE was made by no entry, and not at the opening
some_lasts : (s : Setting) (past : History) (e : Entry) (n : ℕ) → IsLegal s past e → (m : Option Made) → made s past n ≡ m → made s (e ∷ past) n ≡ None → m ≡ None
some_lasts s past e n legal None is none = refl
some_lasts s past e n legal (Some m) is none = absurd (let later : made s (e ∷ past) n ≡ Some m = made_law s past e n m legal is in cc (later, none))

not_opened : (s : Setting) (n : ℕ) → opened s n ≡ None → (n ≢ 1) × (n ≢ 2)
not_opened s n none = (λ is. first (ap (opened s) (sym is) ∙ none), λ is. second (ap (opened s) (sym is) ∙ none))
  where
    first : opened s 1 ≡ None → ⊥
    first is = cc is

    second : opened s 2 ≡ None → ⊥
    second is = cc is

up_to_two : (n : ℕ) → n ≢ 1 → n ≢ 2 → up_to (one_at n) 2 ≡ 0
up_to_two n one two = grind (arith, common_steps)

none_made : (s : Setting) (past : History) (e : Entry) (n : ℕ) → IsRun s past → IsLegal s past e → made s (e ∷ past) n ≡ None → sum_of (one_at n) (ocr.makes e) ≡ 0
none_made s past (Call u home c a w) n run legal none = elim (sum_of (one_at n) (ocr.makes (Call u home c a w))) as (λ k. sum_of (one_at n) (ocr.makes (Call u home c a w)) ≡ k → k ≡ 0) [
  | zero ↦ λ _. refl
  | suc k ↦ λ is.
      let new = makes_new u home c a w n (omega (arith, is)) in
      let there = made_after s past u home c a w n run legal new in
      let gone : is_some (made s (Call u home c a w ∷ past) n) ≡ false = ap (λ (m : Option Made). is_some m) none in absurd (cc (there, gone))
] refl
none_made s past other n run legal none = refl

pub unmade_sum : (s : Setting) (past : History) (n : ℕ) → IsRun s past → made s past n ≡ None → up_to (one_at n) 2 + made_sum ocr.makes (one_at n) (reverse past) ≡ 0
unmade_sum s [] n run none = let r = not_opened s n none in let z = up_to_two n r.0 r.1 in omega (arith, z)
unmade_sum s (e ∷ past) n run none =
    let before : made s past n ≡ None = some_lasts s past e n run.1 (made s past n) refl none in
    let rest = unmade_sum s past n run.0 before in
    let now = none_made s past e n run.0 run.1 none in
    let all = ap (made_sum ocr.makes (one_at n)) (reverse_cons past e) ∙ made_snoc ocr.makes (one_at n) (reverse past) e in
    omega (arith, rest, now, all)

-- and what no entry made, nor the opening, is not made
none_of_three : (v s o : Bool) → bit v + (bit s + bit o) ≡ 0 → ((s || o) || v) ≡ false
none_of_three false false false none = refl
none_of_three true s o none = absurd (omega (arith, none))
none_of_three false true o none = absurd (omega (arith, none))
none_of_three false false true none = absurd (omega (arith, none))

not_made : (done : Bool) (v n : ℕ) → sum_of (one_at n) (if done then v ∷ [] else []) ≡ 0 → (done && (v == n)) ≡ false
not_made false v n none = refl
not_made true v n none = elim (v == n) as (λ b. one_at n v ≡ bit b → b ≡ false) [ true ↦ λ one. absurd (omega (arith, one, none)) | false ↦ λ _. refl ] (value_bit n v)

edt_not_made : (done : Bool) (a : Answer) (n : ℕ) → sum_of (one_at n) (if done then a.value ∷ (ocr.some_number a.scope ++ ocr.some_number a.output) else []) ≡ 0
    → ((done && (names_new a.scope n || names_new a.output n)) || (done && (a.value == n))) ≡ false
edt_not_made false a n none = refl
edt_not_made true a n none = let bits = edt_bits n a in none_of_three (a.value == n) (names_new a.scope n) (names_new a.output n) (omega (arith, none, bits))

not_new : (u home : ℕ) (c : body.Call) (a : Answer) (w : List (ℕ × ℕ)) (n : ℕ) → sum_of (one_at n) (ocr.makes (Call u home c a w)) ≡ 0 → is_new c a n ≡ false
not_new u home (call.DbCreate z fl) a w n none = not_made (is_done a.code) a.value n none
not_new u home (call.TemplateCreate f pc dc) a w n none = not_made (is_done a.code) a.value n none
not_new u home (call.EventCreate kind fl) a w n none = not_made (is_done a.code) a.value n none
not_new u home (call.EventCreateParams kind fl most sats nd) a w n none = not_made (is_done a.code) a.value n none
not_new u home (call.EdtCreate from pc ps dc ds fl o) a w n none = edt_not_made (is_done a.code) a n none
not_new u home other a w n none = refl

first_apart : (n : ℕ) → up_to (one_at n) 2 ≡ 0 → (n == ARGUMENTS) ≡ false
first_apart n none = grind (arith, common_steps)

second_apart : (n : ℕ) → up_to (one_at n) 2 ≡ 0 → (n == MAIN_EDT) ≡ false
second_apart n none = grind (arith, common_steps)

still_none : (s : Setting) (past : History) (e : Entry) (n : ℕ) → sum_of (one_at n) (ocr.makes e) ≡ 0 → made s past n ≡ None → made s (e ∷ past) n ≡ None
still_none s past (Call u home c a w) n none before = made_old s past u home c a w n (not_new u home c a w n none) ∙ before
still_none s past other n none before = before

pub unmade : (s : Setting) (past : History) (n : ℕ) → up_to (one_at n) 2 ≡ 0 → made_sum ocr.makes (one_at n) (reverse past) ≡ 0 → made s past n ≡ None
unmade s [] n none sum = rw (first_apart n none, second_apart n none) refl
unmade s (e ∷ past) n none sum =
    let all = ap (made_sum ocr.makes (one_at n)) (reverse_cons past e) ∙ made_snoc ocr.makes (one_at n) (reverse past) e in
    still_none s past e n (omega (arith, all, sum)) (unmade s past n none (omega (arith, all, sum)))

-- THE SLOTS of an EDT that is made
few_counts : (own given : ℕ) (most : ℕ) → is_refused own given most ≡ false → count_meant own given ≤ most
few_counts own given most off = grind (arith, common_steps)

counted : (t : Template) (pc dc : ℕ) (ps ds : List ℕ) (fl : ℕ) → counted_code (counts_of t pc dc) ps ds fl ≡ code.Done → count_meant t.depc dc ≤ 32
counted t pc dc ps ds fl is = elim (is_refused t.paramc pc MOST_PARAMETERS || is_refused t.depc dc MOST_DEPENDENCES) as (λ b. (is_refused t.paramc pc MOST_PARAMETERS || is_refused t.depc dc MOST_DEPENDENCES) ≡ b
    → counted_code (if b then Err code.Einval else Ok (count_meant t.paramc pc, count_meant t.depc dc)) ps ds fl ≡ code.Done → count_meant t.depc dc ≤ 32) [
      | true ↦ λ _ wrong. cc wrong
      | false ↦ λ off _. few_counts t.depc dc MOST_DEPENDENCES (right (is_refused t.paramc pc MOST_PARAMETERS) _ off)
    ] refl is
  where
    right : (a b : Bool) → (a || b) ≡ false → b ≡ false
    right true b is = cc is
    right false b is = is

from_few : (m : Option Made) (links : List slot.SlotCall) (blocks : List block.BlockCall) (events : List EventCall) (scopes : List ScopeCall) (pc dc : ℕ) (ps ds : List ℕ) (fl : ℕ) → creation_code (face m links blocks events scopes) pc ps dc ds fl ≡ code.Done → depc_in (edt_from m ps dc) ≤ 32
from_few (Some (MadeTemplate f own_pc own_dc)) links blocks events scopes pc dc ps ds fl is = counted (record { function = f; paramc = own_pc; depc = own_dc; destroyed = was_destroyed events }) pc dc ps ds fl is
from_few other links blocks events scopes pc dc ps ds fl is = cc is

pub few_slots : (s : Setting) (past : History) (u home from pc dc fl : ℕ) (ps ds : List ℕ) (o : Bool) (a : Answer) (w : List (ℕ × ℕ)) → is_done a.code ≡ true → IsLegal s past (Call u home (call.EdtCreate from pc ps dc ds fl o) a w)
    → depc_in (edt_from (made s past from) ps dc) ≤ 32
few_slots s past u home from pc dc fl ps ds o a w done legal =
    let is_code : a.code ≡ code.Done = done_is a.code done in
    from_few (made s past from) (link_calls past from) (block_calls s past from) (event_calls s past from) (scope_calls past from) pc dc ps ds fl
    (accepted u (parts_of s past).face (call.EdtCreate from pc ps dc ds fl o) (sym legal.on_parts.code ∙ is_code))
