-- The objects that calls and firings destroyed, by kinds and satisfactions, are those that the rules
-- tell as destroyed.
use Rattle.std.proofs.Common.{◌≡◌, ℕ, ◌+◌, ◌<◌, List, [], ◌∷◌, ◌++◌, Bool, true, false, not, ◌&&◌, ◌||◌, ◌==◌, if◌then◌else◌, Option, Some, None, is_some, inl, inr, codes, length, refl, sym, ◌∙◌, ap, subst, arith}
use Rattle.std.proofs.lemmas.Bool.{eqb-true, and_parts, or_parts, or_cases, false_from_ne_true}
use Rattle.ocr_guid.specs.declared.Code.{Code}
use Rattle.ocr_guid.specs.declared.Code.TheVariants as code
use Rattle.ocr_guid.specs.declared.target.Target.{Target}
use Rattle.ocr_guid.specs.Target.{EventCall, Satisfaction, Link, Destruction}
use Rattle.ocr_guid.specs.Target as target
use Rattle.ocr_event.specs.declared.EventKind.TheVariants as kind
use Rattle.ocr_event.specs.Event as event
use Rattle.ocr_latch.specs.Latch as latch
use Rattle.ocr_event_any.specs.declared.TheConstants.{ONCE, IDEM, LATCH, CHANNEL}
use Rattle.ocr_body_meaning.specs.Holds.{is_done}
use Rattle.ocr_body_meaning.specs.declared.call.Call as body
use Rattle.ocr_body_meaning.specs.declared.call.Call.TheVariants as call
use Rattle.ocr_body_meaning.specs.declared.call.Answer.{Answer}
use Rattle.ocr_machine_history.specs.declared.objects.TheConstants.{ARGUMENTS, MAIN_EDT, OUTPUT_KIND, OUTPUT_FLAGS}
use Rattle.ocr_machine_history.specs.declared.entry.Entry.TheVariants.{Call, Deliver}
use Rattle.ocr_machine_history.specs.declared.entry.What.{What}
use Rattle.ocr_machine_history.specs.declared.entry.What.TheVariants as what
use Rattle.ocr_machine_history.specs.History.{History, Setting}
use Rattle.ocr_machine_history.specs.Made.{Made, MadeBlock, MadeTemplate, MadeEdt, MadeEvent, MadeScope, made, makes, names_new, is_new, is_edt_made, edt_from}
use Rattle.ocr_machine_history.specs.Stale.{stale_uses}
use Rattle.ocr_journal.specs.Phrase.{Text}
use Rattle.ocr_machine_parts.specs.Calls.{is_object, slot_target, target_of, link_if, dep_targets, event_step, deliver_step, link_calls, block_calls, event_calls, scope_calls}
use Rattle.ocr_machine_parts.specs.declared.part.Part.{Part}
use Rattle.ocr_machine_parts.specs.declared.part.Part.TheVariants as part
use Rattle.ocr_machine_parts.specs.Parts.{face, parts_of}
use Rattle.ocr_machine_parts.specs.Kinds.{is_block, is_event}
use Rattle.ocr_machine_parts.specs.Codes.{code_of, is_any, is_of_other_kind, wanted_payload}
use Rattle.ocr_machine_parts.specs.LegalOn.{IsSatisfiable, IsCallOn, IsDeliverOn, last_of}
use Rattle.ocr_machine_parts.specs.Legal.{IsRun}
use Rattle.ocr_machine_parts.proofs.After.{accepted, of_kind, not_other}
use Rattle.ocr_machine_parts.proofs.Beside.{beside_is, below_last, scope_below}
use Rattle.ocr_machine_parts.proofs.Fresh.{made_with, made_new, new_fresh, some_named, number_named}
use Rattle.ocr_machine_parts.proofs.Within.{made_none, done_is}
use Rattle.ocr_machine_rules.specs.Blocks.{was_destroyed}
use Rattle.ocr_machine_rules.specs.Events as rules
use Rattle.ocr_machine_rules.specs.Events.{is_event_destroyed, is_destroyed_as}
use Rattle.ocr_machine_rules.proofs.Blocks.{destroyed_made}
use Rattle.ocr_report.specs.Destroyed.{is_destroyed, told_lines, told_text}
use Rattle.ocr_report.specs.Fired.{is_fired, kind_after, kind_of, satisfactions_of, satisfied_after, satisfied_with}
use Rattle.ocr_report.specs.Headed.{headed}
use Rattle.ocr_report.specs.Stale.{stale_line, stale_lines, stale_text}
use Rattle.ocr_report.proofs.Uses.{line_same}

-- THE SATISFACTIONS of an event tell whether it fired, as all the calls on it do
record AreSame (events sats : List EventCall) : Type 0 where
  once_fired : event.has_fired events ≡ event.has_fired sats
  latch_fired : latch.has_fired events ≡ latch.has_fired sats
  down : latch.decrements events ≡ latch.decrements sats
  up : latch.increments events ≡ latch.increments sats

or_again : (a b : Bool) → ((a || b) || b) ≡ (a || b)
or_again true b = refl
or_again false true = refl
or_again false false = refl

or_false : (b : Bool) → (b || false) ≡ b
or_false true = refl
or_false false = refl

balanced : (calls : List EventCall) → (latch.has_fired calls || latch.is_balanced calls) ≡ latch.has_fired calls
balanced [] = refl
balanced (one ∷ calls) = or_again (latch.has_fired calls) (latch.is_balanced (one ∷ calls))

same_link : (t : Target) (events sats : List EventCall) → AreSame events sats → AreSame (Link t ∷ events) sats
same_link t events sats are = record { once_fired = are.once_fired; latch_fired = balanced events ∙ are.latch_fired; down = are.down; up = are.up }

same_end : (events sats : List EventCall) → AreSame events sats → AreSame (Destruction ∷ events) sats
same_end events sats are = record { once_fired = are.once_fired; latch_fired = balanced events ∙ are.latch_fired; down = are.down; up = are.up }

some_first : (o : Option ℕ) (p : ℕ) → is_some (elim o as (λ _. Option ℕ) [ None ↦ Some p | Some q ↦ Some q ]) ≡ true
some_first None p = refl
some_first (Some q) p = refl

same_more : (slot p : ℕ) (events sats : List EventCall) → AreSame events sats → AreSame (Satisfaction slot p ∷ events) (Satisfaction slot 0 ∷ sats)
same_more slot p events sats are =
    let down : latch.decrements (Satisfaction slot p ∷ events) ≡ latch.decrements (Satisfaction slot 0 ∷ sats) = ap (λ (n : ℕ). if slot == 0 then n + 1 else n) are.down in
    let up : latch.increments (Satisfaction slot p ∷ events) ≡ latch.increments (Satisfaction slot 0 ∷ sats) = ap (λ (n : ℕ). if slot == 1 then n + 1 else n) are.up in
    record {
      once_fired = some_first (event.first_payload events) p ∙ sym (some_first (event.first_payload sats) 0);
      latch_fired = ap (λ (b : Bool). b || latch.is_balanced (Satisfaction slot p ∷ events)) are.latch_fired
          ∙ (ap (λ (n : ℕ). latch.has_fired sats || ((n == latch.increments (Satisfaction slot p ∷ events)) && not (n == 0))) down
          ∙ ap (λ (n : ℕ). latch.has_fired sats || ((latch.decrements (Satisfaction slot 0 ∷ sats) == n) && not (latch.decrements (Satisfaction slot 0 ∷ sats) == 0))) up);
      down = down;
      up = up;
    }

-- WHAT IS TOLD of an object: of an event its kind and its satisfactions, and whether a call destroyed
-- it; of one that is no event neither kind nor satisfaction
record IsPlain (k : ℕ) (sats : List EventCall) : Type 0 where
  no_kind : k ≡ 0
  no_sats : sats ≡ []

record IsEvent (n : ℕ) (events : List EventCall) (told : Bool) (k : ℕ) (sats : List EventCall) : Type 0 where
  dead : told ≡ target.was_destroyed events
  is_once : (k == ONCE) ≡ (n == ONCE)
  is_latch : (k == LATCH) ≡ (n == LATCH)
  same : AreSame events sats

abbrev IsTold : Option Made → List EventCall → Bool → ℕ → List EventCall → Type 0
IsTold (Some (MadeEvent n fl most)) events dead k sats = IsEvent n events dead k sats
IsTold other events dead k sats = IsPlain k sats

-- so it is destroyed
plain_dead : (dead : Bool) (k : ℕ) (sats : List EventCall) → IsPlain k sats → (dead || is_fired k sats) ≡ dead
plain_dead dead k sats told = ap (λ (n : ℕ). dead || is_fired n sats) told.no_kind ∙ or_false dead

kind_dead : (o i l c : Bool) (events : List EventCall) → (l ≡ true → o ≡ false) → (c ≡ true → o ≡ false)
    → (target.was_destroyed events || ((o && event.has_fired events) || (l && latch.has_fired events))) ≡ (if l then latch.is_destroyed events else if c then target.was_destroyed events else event.is_destroyed (if o then kind.Once else if i then kind.Idem else kind.Sticky) events)
kind_dead true i true c events by_latch by_channel = cc (by_latch refl)
kind_dead false i true c events by_latch by_channel = refl
kind_dead true i false true events by_latch by_channel = cc (by_channel refl)
kind_dead false i false true events by_latch by_channel = or_false (target.was_destroyed events)
kind_dead true i false false events by_latch by_channel = ap (λ (b : Bool). target.was_destroyed events || b) (or_false (event.has_fired events))
kind_dead false true false false events by_latch by_channel = refl
kind_dead false false false false events by_latch by_channel = refl

other_kind : (n k m : ℕ) → (k == m) ≡ false → (n == k) ≡ true → (n == m) ≡ false
other_kind n k m apart is = ap (λ (x : ℕ). x == m) (eqb-true n k is) ∙ apart

event_dead : (n : ℕ) (events : List EventCall) (dead : Bool) (k : ℕ) (sats : List EventCall) → IsEvent n events dead k sats → (dead || is_fired k sats) ≡ is_event_destroyed n events
event_dead n events dead k sats told =
    ap (λ (b : Bool). b || is_fired k sats) told.dead
    ∙ (ap (λ (b : Bool). target.was_destroyed events || ((b && event.has_fired sats) || ((k == LATCH) && latch.has_fired sats))) told.is_once
    ∙ (ap (λ (b : Bool). target.was_destroyed events || (((n == ONCE) && event.has_fired sats) || (b && latch.has_fired sats))) told.is_latch
    ∙ (ap (λ (b : Bool). target.was_destroyed events || (((n == ONCE) && b) || ((n == LATCH) && latch.has_fired sats))) (sym told.same.once_fired)
    ∙ (ap (λ (b : Bool). target.was_destroyed events || (((n == ONCE) && event.has_fired events) || ((n == LATCH) && b))) (sym told.same.latch_fired)
    ∙ kind_dead (n == ONCE) (n == IDEM) (n == LATCH) (n == CHANNEL) events (other_kind n LATCH ONCE refl) (other_kind n CHANNEL ONCE refl)))))

told_dead : (m : Option Made) (events : List EventCall) (dead : Bool) (k : ℕ) (sats : List EventCall) → IsTold m events dead k sats → (dead || is_fired k sats) ≡ is_destroyed_as m events dead
told_dead (Some (MadeEvent n fl most)) events dead k sats told = event_dead n events dead k sats told
told_dead other events dead k sats told = plain_dead dead k sats told

-- ONE CALL MORE ON AN OBJECT
told_doomed : (b : Bool) (s : Setting) (past : History) (g : ℕ) (m : Option Made) (dead : Bool) (k : ℕ) (sats : List EventCall)
    → (b ≡ true → is_block (face m (link_calls past g) (block_calls s past g) (event_calls s past g) (scope_calls past g)) ≡ true) → IsTold m (event_calls s past g) dead k sats → IsTold m (event_calls s past g) (b || dead) k sats
told_doomed false s past g m dead k sats is told = told
told_doomed true s past g (Some (MadeEvent n fl most)) dead k sats is told = cc (is refl)
told_doomed true s past g other dead k sats is told = told

told_ended : (b : Bool) (m : Option Made) (events : List EventCall) (dead : Bool) (k : ℕ) (sats : List EventCall) → IsTold m events dead k sats → IsTold m (if b then Destruction ∷ events else events) (b || dead) k sats
told_ended false m events dead k sats told = told
told_ended true (Some (MadeEvent n fl most)) events dead k sats told = record { dead = refl; is_once = told.is_once; is_latch = told.is_latch; same = same_end events sats told.same }
told_ended true other events dead k sats told = told

told_more : (b : Bool) (i p : ℕ) (s : Setting) (past : History) (g : ℕ) (m : Option Made) (dead : Bool) (k : ℕ) (sats : List EventCall)
    → (b ≡ true → is_event (face m (link_calls past g) (block_calls s past g) (event_calls s past g) (scope_calls past g)) ≡ true) → IsTold m (event_calls s past g) dead k sats → IsTold m (if b then Satisfaction i p ∷ event_calls s past g else event_calls s past g) dead k (if b then Satisfaction i 0 ∷ sats else sats)
told_more false i p s past g m dead k sats is told = told
told_more true i p s past g (Some (MadeEvent n fl most)) dead k sats is told = record { dead = told.dead; is_once = told.is_once; is_latch = told.is_latch; same = same_more i p (event_calls s past g) sats told.same }
told_more true i p s past g other dead k sats is told = cc (is refl)

told_linked : (b : Bool) (t : Target) (m : Option Made) (events : List EventCall) (dead : Bool) (k : ℕ) (sats : List EventCall) → IsTold m events dead k sats → IsTold m (link_if b t events) dead k sats
told_linked false t m events dead k sats told = told
told_linked true t (Some (MadeEvent n fl most)) events dead k sats told = record { dead = told.dead; is_once = told.is_once; is_latch = told.is_latch; same = same_link t events sats told.same }
told_linked true t other events dead k sats told = told

told_deps : (t i g : ℕ) (ds : List ℕ) (m : Option Made) (events : List EventCall) (dead : Bool) (k : ℕ) (sats : List EventCall) → IsTold m events dead k sats → IsTold m (dep_targets t i g ds events) dead k sats
told_deps t i g [] m events dead k sats told = told
told_deps t i g (d ∷ rest) m events dead k sats told =
    told_deps t (i + 1) g rest m (link_if (is_object d && (d == g)) (slot_target t i) events) dead k sats (told_linked (is_object d && (d == g)) (slot_target t i) m events dead k sats told)

-- WHAT AN ENTRY TELLS, where it is accepted
carried : (m : Option Made) (events : List EventCall) (dead dead' : Bool) (k k' : ℕ) (sats sats' : List EventCall) → dead' ≡ dead → k' ≡ k → sats' ≡ sats → IsTold m events dead k sats → IsTold m events dead' k' sats'
carried m events dead dead' k k' sats sats' one two three told =
    subst (λ (b : Bool). IsTold m events b k' sats') (sym one)
    (subst (λ (n : ℕ). IsTold m events dead n sats') (sym two)
    (subst (λ (xs : List EventCall). IsTold m events dead k xs) (sym three) told))

spared : (done dead : Bool) → ((done && false) || dead) ≡ dead
spared true dead = refl
spared false dead = refl

no_kind : (done : Bool) (g k : ℕ) → kind_after (if done then None else None) g k ≡ k
no_kind true g k = refl
no_kind false g k = refl

a_kind : (done : Bool) (n own g k : ℕ) → kind_after (if done then Some (n, own) else None) g k ≡ (if done && (n == g) then own else k)
a_kind true n own g k = refl
a_kind false n own g k = refl

an_output : (done none : Bool) (n g k : ℕ) → kind_after (if done then (if none then None else Some (n, OUTPUT_KIND)) else None) g k ≡ (if done && (not none && (n == g)) then OUTPUT_KIND else k)
an_output true true n g k = refl
an_output true false n g k = refl
an_output false none n g k = refl

no_more : (done : Bool) (g : ℕ) (sats : List EventCall) → satisfied_after (if done then None else None) g sats ≡ sats
no_more true g sats = refl
no_more false g sats = refl

one_more : (done : Bool) (e slot g : ℕ) (sats : List EventCall) → satisfied_after (if done then Some (e, slot) else None) g sats ≡ (if done && (e == g) then Satisfaction slot 0 ∷ sats else sats)
one_more true e slot g sats = refl
one_more false e slot g sats = refl

-- WHAT IS MADE is told anew
new_if : (b : Bool) (x m : Option Made) (events : List EventCall) (dead : Bool) (k' k : ℕ) (sats : List EventCall)
    → (b ≡ true → IsTold x [] dead k' sats) → IsTold m events dead k sats → IsTold (if b then x else m) (if b then [] else events) dead (if b then k' else k) sats
new_if true x m events dead k' k sats new old = new refl
new_if false x m events dead k' k sats new old = old

either_same : (b : Bool) (k : ℕ) → k ≡ (if b then k else k)
either_same true k = refl
either_same false k = refl

new_event : (n fl most k : ℕ) (dead : Bool) (sats : List EventCall) → (k == ONCE) ≡ (n == ONCE) → (k == LATCH) ≡ (n == LATCH) → dead ≡ false → sats ≡ [] → IsTold (Some (MadeEvent n fl most)) [] dead k sats
new_event n fl most k dead sats by_once by_latch live none = record {
  dead = live;
  is_once = by_once;
  is_latch = by_latch;
  same = subst (AreSame []) (sym none) (record { once_fired = refl; latch_fired = refl; down = refl; up = refl });
}

-- a channel has its own kind
channel_if : (b c d : Bool) → (if (b && c) && d then code.Done else code.Einval) ≡ code.Done → b ≡ true
channel_if true c d is = refl
channel_if false c d is = cc is

channel_kind : (t k fl most sats deps : ℕ) (f : ℕ → Part) → code_of t f (call.EventCreateParams k fl most sats deps) ≡ code.Done → k ≡ CHANNEL
channel_kind t k fl most sats deps f is = eqb-true k CHANNEL (channel_if (k == CHANNEL) _ _ (accepted t f (call.EventCreateParams k fl most sats deps) is))

not_off : (b : Bool) → not b ≡ false → b ≡ true
not_off true is = refl
not_off false is = cc is

no_kind_of : (k n m : ℕ) → k ≡ 0 → n ≡ CHANNEL → (0 == m) ≡ false → (CHANNEL == m) ≡ false → (k == m) ≡ (n == m)
no_kind_of k n m none channel zero apart = ap (λ (x : ℕ). x == m) none ∙ (zero ∙ sym (ap (λ (x : ℕ). x == m) channel ∙ apart))

satisfiable : (slot : ℕ) (x : Part) → IsSatisfiable slot x → is_event x ≡ true
satisfiable slot (part.Event st) is = refl
satisfiable slot other is = absurd is

-- THE LAW, entry by entry
IsToldAt : Setting → History → ℕ → Type 0
IsToldAt s past g = IsTold (made s past g) (event_calls s past g) (was_destroyed past g) (kind_of past g) (satisfactions_of past g)

-- a call that makes, destroys and satisfies nothing
quiet : (past : History) (done : Bool) (g : ℕ) (m : Option Made) (events : List EventCall) → IsTold m events (was_destroyed past g) (kind_of past g) (satisfactions_of past g)
    → IsTold m events ((done && false) || was_destroyed past g) (kind_after (if done then None else None) g (kind_of past g)) (satisfied_after (if done then None else None) g (satisfactions_of past g))
quiet past done g m events told = carried m events _ _ _ _ _ _ (spared done (was_destroyed past g)) (no_kind done g (kind_of past g)) (no_more done g (satisfactions_of past g)) told

-- what a number names
named : (P : ℕ → Type 0) (done : Bool) (n g : ℕ) → (done ≡ true → P n) → (done && (n == g)) ≡ true → P g
named P done n g is on = let both = and_parts done (n == g) on in subst P (eqb-true n g both.1) (is both.0)

-- what is made was not there before
record IsFresh (past : History) (g : ℕ) : Type 0 where
  live : was_destroyed past g ≡ false
  plain : IsPlain (kind_of past g) (satisfactions_of past g)

fresh : (s : Setting) (past : History) (t home : ℕ) (c : body.Call) (a : Answer) (w : List (ℕ × ℕ)) (g : ℕ) → IsRun s past → IsToldAt s past g → IsCallOn s.limit (parts_of s past) t home c a w → is_new c a g ≡ true → IsFresh past g
unfolding IsToldAt
fresh s past t home c a w g run told legal is =
    let none : made s past g ≡ None = made_none s past g (new_fresh s.limit (parts_of s past) t home c a w g legal is).vacant in record {
      live = destroyed_made s past g run none;
      plain = subst (λ (m : Option Made). IsTold m (event_calls s past g) (was_destroyed past g) (kind_of past g) (satisfactions_of past g)) none told;
    }

-- an EDT, its scope and its output event have numbers of their own
output_apart : (s : Setting) (past : History) (t home from pc dc fl : ℕ) (ps ds : List ℕ) (o : Bool) (a : Answer) (w : List (ℕ × ℕ)) (g : ℕ) → IsCallOn s.limit (parts_of s past) t home (call.EdtCreate from pc ps dc ds fl o) a w
    → ((a.value == g) || names_new a.scope g) ≡ true → names_new a.output g ≡ false
output_apart s past t home from pc dc fl ps ds o a w g legal is = false_from_ne_true (names_new a.output g) (λ on.
    let n : a.output ≡ g = number_named a.output g on in
    let last : last_of a < a.output = (beside_is _ s.limit (parts_of s past) (last_of a) a.output legal.output (some_named a.output g on)).1 in
    elim (or_cases (a.value == g) (names_new a.scope g) is) [
      | inl own ↦
          let value : a.value < a.output = below_last a (λ some. (beside_is _ s.limit (parts_of s past) a.value a.scope legal.scope some).1) a.output last in
          let e : a.value ≡ g = eqb-true a.value g own in
          absurd (omega (arith, n, value, e))
      | inr scope ↦
          let less : a.scope < a.output = scope_below a a.output (some_named a.scope g scope) last in
          let e : a.scope ≡ g = number_named a.scope g scope in
          absurd (omega (arith, n, less, e))
    ])

edt_plain : (m : Option Made) (ps : List ℕ) (dc : ℕ) (dead : Bool) (k : ℕ) (sats : List EventCall) → IsPlain k sats → IsTold (edt_from m ps dc) [] dead k sats
edt_plain (Some (MadeTemplate f pc own)) ps dc dead k sats plain = plain
edt_plain other ps dc dead k sats plain = plain

-- what is made with an EDT
one_of_three : (edt : Option Made) (home : ℕ) (a : Answer) (dead : Bool) (k : ℕ) (sats : List EventCall) → ((k' : ℕ) → k' ≡ 0 → IsTold edt [] dead k' sats) → dead ≡ false → IsPlain k sats
    → (own scope output : Bool) → ((own || scope) ≡ true → output ≡ false) → ((scope || output) || own) ≡ true
    → IsTold (if own then edt else if scope then Some (MadeScope home a.output) else Some (MadeEvent OUTPUT_KIND OUTPUT_FLAGS 0)) [] dead (if output then OUTPUT_KIND else k) sats
one_of_three edt home a dead k sats of_edt live plain true scope true apart is = cc (apart refl)
one_of_three edt home a dead k sats of_edt live plain true scope false apart is = of_edt k plain.no_kind
one_of_three edt home a dead k sats of_edt live plain false true true apart is = cc (apart refl)
one_of_three edt home a dead k sats of_edt live plain false true false apart is = plain
one_of_three edt home a dead k sats of_edt live plain false false true apart is = new_event OUTPUT_KIND OUTPUT_FLAGS 0 OUTPUT_KIND dead sats refl refl live plain.no_sats
one_of_three edt home a dead k sats of_edt live plain false false false apart is = cc is

kind_if : (b done output : Bool) (k : ℕ) → (b ≡ true → done ≡ true) → (b ≡ false → (done && output) ≡ false) → (if done && output then OUTPUT_KIND else k) ≡ (if b then (if output then OUTPUT_KIND else k) else k)
kind_if true true output k on off = refl
kind_if true false output k on off = cc (on refl)
kind_if false done output k on off = ap (λ (b : Bool). if b then OUTPUT_KIND else k) (off refl)

new_done : (done scope output own : Bool) → ((done && (scope || output)) || (done && own)) ≡ true → (done ≡ true) × (((scope || output) || own) ≡ true)
new_done true scope output own is = (refl, is)
new_done false scope output own is = cc is

not_output : (done scope output own : Bool) → ((done && (scope || output)) || (done && own)) ≡ false → (done && output) ≡ false
not_output true true output own is = cc is
not_output true false true own is = cc is
not_output true false false own is = refl
not_output false scope output own is = refl

edt_told : (s : Setting) (past : History) (t home from pc dc fl : ℕ) (ps ds : List ℕ) (o : Bool) (a : Answer) (w : List (ℕ × ℕ)) (g : ℕ) → IsRun s past → IsCallOn s.limit (parts_of s past) t home (call.EdtCreate from pc ps dc ds fl o) a w → IsToldAt s past g
    → IsToldAt s (Call t home (call.EdtCreate from pc ps dc ds fl o) a w ∷ past) g
unfolding IsToldAt
edt_told s past t home from pc dc fl ps ds o a w g run legal told =
    let dead : Bool = was_destroyed past g in
    let k : ℕ = kind_of past g in
    let sats : List EventCall = satisfactions_of past g in
    let linked : List EventCall = event_step s past (call.EdtCreate from pc ps dc ds fl o) a g (event_calls s past g) in
    let on_linked : IsTold (made s past g) linked dead k sats =
    elim (is_done a.code) as (λ b. IsTold (made s past g) (if b then dep_targets a.value 0 g ds (event_calls s past g) else event_calls s past g) dead k sats) [
      | true ↦ told_deps a.value 0 g ds (made s past g) (event_calls s past g) dead k sats told
      | false ↦ told
    ] in
    let anew = new_if (is_new (call.EdtCreate from pc ps dc ds fl o) a g) (made_with (edt_from (made s past from) ps dc) home a g) (made s past g) linked dead (if names_new a.output g then OUTPUT_KIND else k) k sats
    (λ is. let new = fresh s past t home (call.EdtCreate from pc ps dc ds fl o) a w g run told legal is in
    one_of_three (edt_from (made s past from) ps dc) home a dead k sats
    (λ k' none. edt_plain (made s past from) ps dc dead k' sats (record { no_kind = none; no_sats = new.plain.no_sats })) new.live new.plain
    (a.value == g) (names_new a.scope g) (names_new a.output g)
    (output_apart s past t home from pc dc fl ps ds o a w g legal) (new_done (is_done a.code) (names_new a.scope g) (names_new a.output g) (a.value == g) is).1)
    on_linked in
    let now : History = Call t home (call.EdtCreate from pc ps dc ds fl o) a w ∷ past in
    subst (λ (m : Option Made). IsTold m (event_calls s now g) (was_destroyed now g) (kind_of now g) (satisfactions_of now g)) (sym (made_new s past t home from pc ps dc ds fl o a w g))
    (carried _ (event_calls s now g) dead (was_destroyed now g) _ (kind_of now g) sats (satisfactions_of now g) (spared (is_done a.code) dead)
    (an_output (is_done a.code) (a.output == 0) a.output g k
    ∙ kind_if (is_new (call.EdtCreate from pc ps dc ds fl o) a g) (is_done a.code) (names_new a.output g) k
    (λ is. (new_done (is_done a.code) (names_new a.scope g) (names_new a.output g) (a.value == g) is).0)
    (λ off. not_output (is_done a.code) (names_new a.scope g) (names_new a.output g) (a.value == g) off))
    (no_more (is_done a.code) g sats) anew)

called_told : (s : Setting) (past : History) (t home : ℕ) (c : body.Call) (a : Answer) (w : List (ℕ × ℕ)) (g : ℕ) → IsRun s past → IsCallOn s.limit (parts_of s past) t home c a w → IsToldAt s past g → IsToldAt s (Call t home c a w ∷ past) g
unfolding IsToldAt
called_told s past t home (call.DbCreate n fl) a w g run legal told =
    carried _ _ _ _ _ _ _ _ (spared (is_done a.code) _) (no_kind (is_done a.code) g _ ∙ either_same (makes a g) _) (no_more (is_done a.code) g _)
    (new_if (makes a g) _ (made s past g) (event_calls s past g) (was_destroyed past g) (kind_of past g) (kind_of past g) (satisfactions_of past g)
    (λ is. (fresh s past t home (call.DbCreate n fl) a w g run told legal is).plain) told)
called_told s past t home (call.TemplateCreate f pc dc) a w g run legal told =
    carried _ _ _ _ _ _ _ _ (spared (is_done a.code) _) (no_kind (is_done a.code) g _ ∙ either_same (makes a g) _) (no_more (is_done a.code) g _)
    (new_if (makes a g) _ (made s past g) (event_calls s past g) (was_destroyed past g) (kind_of past g) (kind_of past g) (satisfactions_of past g)
    (λ is. (fresh s past t home (call.TemplateCreate f pc dc) a w g run told legal is).plain) told)
called_told s past t home (call.EventCreate k fl) a w g run legal told =
    carried _ _ _ _ _ _ _ _ (spared (is_done a.code) _) (a_kind (is_done a.code) a.value k g _) (no_more (is_done a.code) g _)
    (new_if (makes a g) _ (made s past g) (event_calls s past g) (was_destroyed past g) k (kind_of past g) (satisfactions_of past g)
    (λ is. let new = fresh s past t home (call.EventCreate k fl) a w g run told legal is in new_event k fl 0 k _ _ refl refl new.live new.plain.no_sats) told)
called_told s past t home (call.EventCreateParams k fl most sats deps) a w g run legal told =
    carried _ _ _ _ _ _ _ _ (spared (is_done a.code) _) (no_kind (is_done a.code) g _ ∙ either_same (makes a g) _) (no_more (is_done a.code) g _)
    (new_if (makes a g) _ (made s past g) (event_calls s past g) (was_destroyed past g) (kind_of past g) (kind_of past g) (satisfactions_of past g)
    (λ is. let new = fresh s past t home (call.EventCreateParams k fl most sats deps) a w g run told legal is in
    let channel = channel_kind t k fl most sats deps (parts_of s past).face (sym legal.code ∙ done_is a.code (and_parts (is_done a.code) (a.value == g) is).0) in
    new_event k fl most _ _ _ (no_kind_of (kind_of past g) k ONCE new.plain.no_kind channel refl refl) (no_kind_of (kind_of past g) k LATCH new.plain.no_kind channel refl refl) new.live new.plain.no_sats) told)
called_told s past t home (call.EdtCreate from pc ps dc ds fl o) a w g run legal told = edt_told s past t home from pc dc fl ps ds o a w g run legal told
called_told s past t home (call.DbDestroy b) a w g run legal told =
    carried _ _ _ _ _ _ _ _ refl (no_kind (is_done a.code) g _) (no_more (is_done a.code) g _)
    (told_doomed (is_done a.code && (b == g)) s past g (made s past g) _ _ _
    (named (λ (n : ℕ). is_block ((parts_of s past).face n) ≡ true) (is_done a.code) b g (λ on. not_other (is_block ((parts_of s past).face b)) (of_kind t (parts_of s past).face (call.DbDestroy b) (sym legal.code ∙ done_is a.code on)))) told)
called_told s past t home (call.TemplateDestroy x) a w g run legal told =
    carried _ _ _ _ _ _ _ _ refl (no_kind (is_done a.code) g _) (no_more (is_done a.code) g _) (told_ended (is_done a.code && (x == g)) (made s past g) (event_calls s past g) _ _ _ told)
called_told s past t home (call.EventDestroy e) a w g run legal told =
    carried _ _ _ _ _ _ _ _ refl (no_kind (is_done a.code) g _) (no_more (is_done a.code) g _) (told_ended (is_done a.code && (e == g)) (made s past g) (event_calls s past g) _ _ _ told)
called_told s past t home (call.Satisfy e p slot) a w g run legal told =
    carried _ _ _ _ _ _ _ _ (spared (is_done a.code) _) (no_kind (is_done a.code) g _) (one_more (is_done a.code) e slot g _)
    (told_more (is_done a.code && (e == g)) slot p s past g (made s past g) _ _ _
    (named (λ (n : ℕ). is_event ((parts_of s past).face n) ≡ true) (is_done a.code) e g
    (λ on. not_off (is_event ((parts_of s past).face e)) (or_parts (not (is_event ((parts_of s past).face e))) (is_any is_of_other_kind (parts_of s past).face (wanted_payload p)) (of_kind t (parts_of s past).face (call.Satisfy e p slot) (sym legal.code ∙ done_is a.code on))).0)) told)
called_told s past t home (call.AddDependence from x i m) a w g run legal told = quiet past (is_done a.code) g _ _
    (told_linked (is_done a.code && (not (from == 0) && (from == g))) (target_of (is_edt_made (made s past x)) x i) (made s past g) (event_calls s past g) _ _ _ told)
called_told s past t home other a w g run legal told = quiet past (is_done a.code) g _ _ told

brought_as : (s : Setting) (past : History) (w : What) (c : Code) (g : ℕ) → IsDeliverOn (parts_of s past) w c → IsTold (made s past g) (event_calls s past g) (was_destroyed past g) (kind_of past g) (satisfactions_of past g)
    → IsTold (made s past g) (deliver_step w (is_done c) g (event_calls s past g)) (was_destroyed past g) (kind_of past g) (satisfied_after (if is_done c then satisfied_with w else None) g (satisfactions_of past g))
brought_as s past (what.Satisfy e i p) c g legal told =
    carried _ _ _ _ _ _ _ _ refl refl (one_more (is_done c) e i g _)
    (told_more (is_done c && (e == g)) i p s past g (made s past g) _ _ _
    (named (λ (n : ℕ). is_event ((parts_of s past).face n) ≡ true) (is_done c) e g (λ on. satisfiable i ((parts_of s past).face e) legal.0)) told)
brought_as s past other c g legal told = carried _ _ _ _ _ _ _ _ refl refl (no_more (is_done c) g _) told

opened_told : (b c : Bool) (n f depc : ℕ) → IsTold (if b then Some (MadeBlock n 0) else if c then Some (MadeEdt f [] depc) else None) [] false 0 []
opened_told true c n f depc = record { no_kind = refl; no_sats = refl }
opened_told false true n f depc = record { no_kind = refl; no_sats = refl }
opened_told false false n f depc = record { no_kind = refl; no_sats = refl }

all_told : (s : Setting) (past : History) (g : ℕ) → IsRun s past → IsToldAt s past g
unfolding IsToldAt
all_told s [] g run = opened_told (g == ARGUMENTS) (g == MAIN_EDT) _ _ _
all_told s (Call t home c a w ∷ past) g run = called_told s past t home c a w g run.0 run.1.on_parts (all_told s past g run.0)
all_told s (Deliver m c ∷ past) g run = brought_as s past m.what c g run.1.on_parts (all_told s past g run.0)
all_told s (other ∷ past) g run = all_told s past g run.0

destroyed_law : (s : Setting) (past : History) (g : ℕ) → IsRun s past → is_destroyed past g ≡ rules.is_destroyed s past g
unfolding IsToldAt
destroyed_law s past g run = told_dead (made s past g) (event_calls s past g) (was_destroyed past g) _ _ (all_told s past g run)

-- so the report by these is that by the rules
run_lines : (s : Setting) (past : History) → IsRun s past → told_lines past ≡ stale_lines s past
run_lines s [] run = refl
run_lines s (e ∷ past) run =
    ap (λ (text : Text). text ++ stale_line (is_destroyed past) e) (run_lines s past run.0)
    ∙ ap (λ (text : Text). stale_lines s past ++ text) (line_same (is_destroyed past) (rules.is_destroyed s past) (λ g. destroyed_law s past g run.0) e)

pub run_text : (s : Setting) (past : History) → IsRun s past → told_text past ≡ stale_text s past
run_text s past run = ap (headed (codes "stale") (length (stale_uses past))) (run_lines s past run)
