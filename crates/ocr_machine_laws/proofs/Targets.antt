-- How often all events keep a target: an entry takes what it sends from what is kept, or from a
-- link that it makes.
use Rattle.std.proofs.Common.{◌≡◌, ℕ, zero, suc, ◌+◌, ◌<◌, ◌≤◌, nat_lt, List, [], ◌∷◌, ◌++◌, map, Bool, true, false, ◌==◌, ◌||◌, ◌&&◌, not, if◌then◌else◌, Option, Some, None, refl, sym, ◌∙◌, ap, subst, arith, length}
use Rattle.std.proofs.lemmas.Bool.{eqb-true, eqb-false, ltb-true, ltb-false, ne_eqb, or_parts}
use Rattle.std.proofs.Math.Bool.{or-true}
use Rattle.ocr_guid.specs.declared.target.Target.{Target}
use Rattle.ocr_guid.specs.declared.target.Satisfied.{Satisfied}
use Rattle.ocr_guid.specs.declared.target.Satisfied.TheVariants as answer
use Rattle.ocr_guid.specs.declared.target.Linked.{Linked}
use Rattle.ocr_guid.specs.declared.target.Linked.TheVariants as link
use Rattle.ocr_guid.specs.Target.{sent_by_firing, sent_by_linking}
use Rattle.ocr_slots.specs.declared.Slot.{Slot}
use Rattle.ocr_slots.specs.Steps.{after_link}
use Rattle.ocr_datablock.specs.Block as block
use Rattle.ocr_template.specs.declared.Template.{Template}
use Rattle.ocr_event_any.specs.declared.AnyEvent.{AnyEvent}
use Rattle.ocr_event_any.specs.AnyEvent as event
use Rattle.ocr_event_any.proofs.Targets.{targets, reached, reached_by_link, satisfy_targets, link_targets, stale_targets, destroy_targets, gone_targets, new_targets}
use Rattle.ocr_body_meaning.specs.Holds.{is_done}
use Rattle.ocr_body_meaning.specs.declared.call.Call as body
use Rattle.ocr_body_meaning.specs.declared.call.Call.TheVariants as call
use Rattle.ocr_body_meaning.specs.declared.call.Answer.{Answer}
use Rattle.ocr_machine_history.specs.declared.entry.Entry.{Entry}
use Rattle.ocr_machine_history.specs.declared.entry.Entry.TheVariants.{Call, Deliver, Acquire, Wait, StaleAcquire, Start, Free, End}
use Rattle.ocr_machine_history.specs.declared.entry.What.{What}
use Rattle.ocr_machine_history.specs.declared.entry.What.TheVariants as what
use Rattle.ocr_machine_history.specs.History.{History, Setting}
use Rattle.ocr_machine_history.specs.declared.objects.TheConstants.{ARGUMENTS, MAIN_EDT, OUTPUT_KIND, OUTPUT_FLAGS}
use Rattle.ocr_program_tree.specs.Functions.{number_of_main}
use Rattle.ocr_machine_history.specs.Made.{Made, MadeBlock, MadeEdt, names_new, is_new}
use Rattle.ocr_machine_parts.specs.declared.part.Part.{Part}
use Rattle.ocr_machine_parts.specs.declared.part.Part.TheVariants as part
use Rattle.ocr_machine_parts.specs.Calls.{mode_named, is_given, is_object, slot_target, target_of, link_calls, block_calls, event_calls, scope_calls}
use Rattle.ocr_machine_parts.specs.Parts.{Parts, new_identity, face, parts_of}
use Rattle.ocr_machine_parts.specs.Kinds.{with_block, with_links, with_template, with_event, with_scope, is_event, is_edt_face, identity_on, home_on}
use Rattle.ocr_machine_parts.specs.Effects.{with_named, with_beside, new_scope, new_output, joins, joined, deps_linked, called, brought, changed, new_face, new_core}
use Rattle.ocr_machine_parts.specs.Progress.{with_face, with_core, linked_if, readied_on}
use Rattle.ocr_machine_parts.specs.Messages.{what_to, carried_by, satisfied, linked, linked_by, dep_sends, sent_by, satisfy_some, leave_some, sent_if_done, sent_by_leave, sent_by_message, payload_of_end, sent_by_end, sends}
use Rattle.ocr_machine_parts.specs.LegalOn.{IsCallOn, IsLegalOn, last_of}
use Rattle.ocr_machine_parts.specs.Legal.{IsRun, IsLegal, IsOnParts}
use Rattle.ocr_machine_parts.specs.Codes.{ATemplate, wanted_sources, is_missing, is_any}
use Rattle.ocr_machine_parts.proofs.After.{after_law, done_is, not_missing, named_dep, unnamed_there, old_part}
use Rattle.ocr_machine_parts.proofs.Beside.{named_keeps, beside_is}
use Rattle.ocr_machine_parts.proofs.Fresh.{new_fresh}
use Rattle.ocr_edt.specs.declared.Identity.{Identity}
use Rattle.ocr_finish.specs.Scope as scope
use Rattle.ocr_finish.specs.declared.Leaving.{Leaving}
use Rattle.ocr_finish.specs.declared.Leaving.TheVariants as leaving
use Rattle.ocr_machine_laws.proofs.Quietness.{above_law}
use Rattle.ocr_machine_laws.proofs.Named.{weight, weight_append}
use Rattle.ocr_base.proofs.Booleans.{same}

-- PARTS THAT ARE EVENTS
abbrev pub event_on : Part → Option AnyEvent
event_on (part.Event st) = Some st
event_on other = None

not_event : (x : Part) → is_event x ≡ false → event_on x ≡ None
not_event (part.Event st) is = cc is
not_event other is = refl

block_event : (x : Part) (step : block.State → block.State) → event_on (with_block x step) ≡ event_on x
block_event (part.Block st) step = refl
block_event other step = refl

links_event : (x : Part) (step : List Slot → List Slot) → event_on (with_links x step) ≡ event_on x
links_event (part.Edt slots) step = refl
links_event other step = refl

template_event : (x : Part) (step : Template → Template) → event_on (with_template x step) ≡ event_on x
template_event (part.Template t) step = refl
template_event other step = refl

scope_event : (x : Part) (step : scope.State → scope.State) → event_on (with_scope x step) ≡ event_on x
scope_event (part.Scope st) step = refl
scope_event other step = refl

abbrev stepped : (AnyEvent → AnyEvent) → Option AnyEvent → Option AnyEvent
stepped step None = None
stepped step (Some st) = Some (step st)

with_stepped : (x : Part) (step : AnyEvent → AnyEvent) → event_on (with_event x step) ≡ stepped step (event_on x)
with_stepped (part.Event st) step = refl
with_stepped other step = refl

-- the same events
abbrev AreAlike : Parts → Parts → Type 0
AreAlike f h = (i : ℕ) → event_on (f.face i) ≡ event_on (h.face i)

-- none stands from this number on
abbrev pub AreBelow : ℕ → Parts → Type 0
AreBelow n f = (d : ℕ) → n ≤ d → event_on (f.face d) ≡ None

faced_alike : (f : Parts) (d : ℕ) (x : Part) → event_on (f.face d) ≡ event_on x → AreAlike f (with_face f d x)
faced_alike f d x same i = elim (d == i) as (λ b. (d == i) ≡ b → event_on (f.face i) ≡ event_on (if b then x else f.face i)) [
  | true ↦ λ is. ap (λ (j : ℕ). event_on (f.face j)) (sym (eqb-true d i is)) ∙ same
  | false ↦ λ _. refl
] refl

put_below : (n d : ℕ) (x : Part) (h : Parts) → (n ≤ d → event_on x ≡ None) → AreBelow n h → AreBelow n (with_face h d x)
put_below n d x h none below i le = elim (d == i) as (λ b. (d == i) ≡ b → event_on (if b then x else h.face i) ≡ None) [
  | true ↦ λ is. let e : d ≡ i = eqb-true d i is in none (omega (arith, le, e))
  | false ↦ λ _. below i le
] refl

still_below : (n : ℕ) (f h : Parts) → AreAlike f h → AreBelow n f → AreBelow n h
still_below n f h alike below d le = sym (alike d) ∙ below d le

new_event : (x : Part) (dc : ℕ) (deps : List ℕ) → event_on (new_face x dc deps) ≡ None
new_event (part.Template t) dc deps = refl
new_event other dc deps = refl

linked_alike : (b : Bool) (d : ℕ) (t : Target) (f h : Parts) (i : ℕ) → (b ≡ true → event_on (f.face d) ≡ event_on (h.face d)) → event_on (f.face i) ≡ event_on (h.face i) → event_on ((linked_if b d t f).face i) ≡ event_on ((linked_if b d t h).face i)
linked_alike true d t f h i here alike =
    let step : AnyEvent → AnyEvent = λ st. event.after_link st t in
    let same : event_on (with_event (f.face d) step) ≡ event_on (with_event (h.face d) step) = with_stepped (f.face d) step ∙ (ap (stepped step) (here refl) ∙ sym (with_stepped (h.face d) step)) in
    elim (d == i) as (λ b. event_on (if b then with_event (f.face d) step else f.face i) ≡ event_on (if b then with_event (h.face d) step else h.face i)) [ true ↦ same | false ↦ alike ]
linked_alike false d t f h i here alike = alike

linked_below : (b : Bool) (d : ℕ) (t : Target) (n : ℕ) (h : Parts) → AreBelow n h → AreBelow n (linked_if b d t h)
linked_below true d t n h below i le =
    let step : AnyEvent → AnyEvent = λ st. event.after_link st t in
    elim (d == i) as (λ b. (d == i) ≡ b → event_on (if b then with_event (h.face d) step else h.face i) ≡ None) [
      | true ↦ λ is. with_stepped (h.face d) step ∙ ap (stepped step) (ap (λ (j : ℕ). event_on (h.face j)) (eqb-true d i is) ∙ below i le)
      | false ↦ λ _. below i le
    ] refl
linked_below false d t n h below i le = below i le

-- the objects that a creation names stay as they are where the EDT and what stands beside it are made
named_same : (limit t home from pc dc fl : ℕ) (ps ds : List ℕ) (o : Bool) (a : Answer) (w : List (ℕ × ℕ)) (h : Parts) → is_done a.code ≡ true → IsCallOn limit h t home (call.EdtCreate from pc ps dc ds fl o) a w → (y : Part) (i : ℕ) → named_dep i ds ≡ true
    → (with_face (with_beside h (home_on (h.core t)) a) a.value y).face i ≡ h.face i
named_same limit t home from pc dc fl ps ds o a w h on legal y i is =
    let c : body.Call = call.EdtCreate from pc ps dc ds fl o in
    let there : is_any is_missing h.face (wanted_sources ds) ≡ false = (or_parts (is_missing ATemplate (h.face from)) _ (not_missing t h.face c (sym legal.code ∙ done_is a.code on))).1 in
    let old : is_new c a i ≡ false = elim (is_new c a i) as (λ b. is_new c a i ≡ b → b ≡ false) [
      | true ↦ λ new. let off : named_dep i ds ≡ false = unnamed_there h.face ds i there (new_fresh limit h t home c a w i legal new).vacant in absurd (cc (off, is))
      | false ↦ λ _. refl
    ] refl in
    let now : is_new c a i ≡ ((names_new a.scope i || names_new a.output i) || (a.value == i)) = rw on refl in
    old_part (a.value == i) (names_new a.scope i) (names_new a.output i) y (new_scope (home_on (h.core t)) a) new_output (h.face i) (sym now ∙ old)

joined_event : (c : body.Call) (home : ℕ) (f : Parts) (i : ℕ) → event_on ((joined c home f).face i) ≡ event_on (f.face i)
joined_event c home f i = elim (joins c home i) as (λ b. event_on (if b then with_scope (f.face i) scope.after_join else f.face i) ≡ event_on (f.face i)) [ true ↦ scope_event (f.face i) scope.after_join | false ↦ refl ]

-- HOW OFTEN targets are kept, each weighed
module _ (g : Target → ℕ) where
  abbrev pub among : List Target → ℕ
  among [] = 0
  among (t ∷ ts) = g t + among ts

  among_append : (xs ys : List Target) → among (xs ++ ys) ≡ among xs + among ys
  among_append [] ys = omega arith
  among_append (x ∷ xs) ys = let r = among_append xs ys in omega (arith, r)

  abbrev pub kept_in : Option AnyEvent → ℕ
  kept_in None = 0
  kept_in (Some st) = among (targets st)

  -- by the objects below a number
  abbrev pub kept_below : (ℕ → Part) → ℕ → ℕ
  kept_below h zero = 0
  kept_below h (suc n) = kept_in (event_on (h n)) + kept_below h n

  pub kept_alike : (h k : ℕ → Part) (n : ℕ) → ((i : ℕ) → i < n → event_on (h i) ≡ event_on (k i)) → kept_below h n ≡ kept_below k n
  kept_alike h k zero same = refl
  kept_alike h k (suc n) same =
      let r = kept_alike h k n (λ i lt. same i (omega (arith, lt))) in
      let one : kept_in (event_on (h n)) ≡ kept_in (event_on (k n)) = ap kept_in (same n (omega arith)) in
      omega (arith, r, one)

  pub kept_none : (h : ℕ → Part) (n : ℕ) → ((i : ℕ) → event_on (h i) ≡ None) → kept_below h n ≡ 0
  kept_none h zero none = refl
  kept_none h (suc n) none =
      let r = kept_none h n none in
      let one : kept_in (event_on (h n)) ≡ 0 = ap kept_in (none n) in
      omega (arith, r, one)

  put_past : (h : ℕ → Part) (d : ℕ) (x : Part) (n : ℕ) → n ≤ d → kept_below (λ i. if d == i then x else h i) n ≡ kept_below h n
  put_past h d x n le = kept_alike (λ i. if d == i then x else h i) h n (λ i lt. off i (apart i lt))
    where
      apart : (i : ℕ) → i < n → (d == i) ≡ false
      apart i lt = ne_eqb d i (λ is. omega (arith, le, lt, is))

      off : (i : ℕ) → (d == i) ≡ false → event_on (if d == i then x else h i) ≡ event_on (h i)
      off i is = rw is refl

  put_kept : (h : ℕ → Part) (d : ℕ) (x : Part) (n : ℕ) → d < n → kept_below (λ i. if d == i then x else h i) n + kept_in (event_on (h d)) ≡ kept_below h n + kept_in (event_on x)
  put_kept h d x zero lt = absurd (omega (arith, lt))
  put_kept h d x (suc n) lt = elim (d == n) as (λ b. (d == n) ≡ b → (kept_in (event_on (if b then x else h n)) + kept_below (λ i. if d == i then x else h i) n) + kept_in (event_on (h d)) ≡ (kept_in (event_on (h n)) + kept_below h n) + kept_in (event_on x)) [
    | true ↦ λ is.
        let same : d ≡ n = eqb-true d n is in
        let past = put_past h d x n (omega (arith, same)) in
        let one : kept_in (event_on (h d)) ≡ kept_in (event_on (h n)) = ap (λ (i : ℕ). kept_in (event_on (h i))) same in
        omega (arith, past, one)
    | false ↦ λ is.
        let differ = eqb-false d n is in
        let r = put_kept h d x n (below d n lt differ) in
        omega (arith, r)
  ] refl
    where
      below : (d n : ℕ) → d < suc n → (d ≡ n → ⊥) → d < n
      below d n lt differ = omega (arith, lt, differ)

  -- a step of one object
  pub put_step : (f : Parts) (d : ℕ) (x : Part) (n w v : ℕ) → AreBelow n f → w + kept_in (event_on x) ≤ kept_in (event_on (f.face d)) + v → w + kept_below (with_face f d x).face n ≤ kept_below f.face n + v
  put_step f d x n w v below step = elim (nat_lt d n) as (λ b. nat_lt d n ≡ b → w + kept_below (with_face f d x).face n ≤ kept_below f.face n + v) [
    | true ↦ λ is. let put = put_kept f.face d x n (ltb-true d n is) in omega (arith, put, step)
    | false ↦ λ is.
        let le : n ≤ d = ltb-false d n is in
        let past = put_past f.face d x n le in
        let none : kept_in (event_on (f.face d)) ≡ 0 = ap kept_in (below d le) in
        omega (arith, past, none, step)
  ] refl

  -- the links of a creation's list, and of an entry
  abbrev pub given : ℕ → ℕ → List ℕ → ℕ
  given t k [] = 0
  given t k (d ∷ rest) = (if is_given d then g (slot_target t k) else 0) + given t (k + 1) rest

  abbrev pub call_links : body.Call → Answer → Parts → ℕ
  call_links (call.AddDependence from x i m) a f = g (target_of (is_edt_face (f.face x)) x i)
  call_links (call.EdtCreate from pc ps dc ds fl o) a f = given a.value 0 ds
  call_links other a f = 0

  abbrev pub entry_links : Entry → Parts → ℕ
  entry_links (Call t home c a w) f = if is_done a.code then call_links c a f else 0
  entry_links other f = 0

-- WHAT IS SENT, weighed as its targets are; what reaches no slot of an EDT weighs nothing
module _ (f : What → ℕ) (g : Target → ℕ) (blind : (p : ℕ) (t : Target) → f (what_to (p, t)) ≡ g t) (satisfies : (e i p : ℕ) → f (what.Satisfy e i p) ≡ 0) (leaves : (x : ℕ) → f (what.Leave x) ≡ 0) where
  sent_to : (p : ℕ) (ts : List Target) → weight f (map what_to (map (λ (t : Target). (p, t)) ts)) ≡ among g ts
  sent_to p [] = refl
  sent_to p (t ∷ ts) = let r = sent_to p ts in let b = blind p t in omega (arith, r, b)

  sent_fired : (p : ℕ) (a : Satisfied) → weight f (map what_to (sent_by_firing p a)) ≡ among g (reached a)
  sent_fired p (answer.Fired ts) = sent_to p ts
  sent_fired p other = refl

  sent_linked : (t : Target) (l : Linked) → weight f (map what_to (sent_by_linking t l)) ≡ among g (reached_by_link t l)
  sent_linked t (link.Now p) = let b = blind p t in omega (arith, b)
  sent_linked t other = refl

  satisfied_keeps : (x : Part) (slot p : ℕ) → weight f (satisfied x slot p) + kept_in g (event_on (with_event x (λ st. event.after_satisfy st slot p))) ≡ kept_in g (event_on x)
  satisfied_keeps (part.Event st) slot p =
      let s = sent_fired (carried_by st p) (event.on_satisfy st slot p) in
      let a = among_append g (reached (event.on_satisfy st slot p)) (targets (event.after_satisfy st slot p)) in
      let t : among g (reached (event.on_satisfy st slot p) ++ targets (event.after_satisfy st slot p)) ≡ among g (targets st) = ap (among g) (satisfy_targets st slot p) in
      omega (arith, s, a, t)
  satisfied_keeps other slot p = refl

  linked_keeps : (x : Part) (d : ℕ) (t : Target) → weight f (linked x d t) + kept_in g (event_on (with_event x (λ st. event.after_link st t))) ≤ kept_in g (event_on x) + g t
  linked_keeps (part.Event st) d t =
      let s = sent_linked t (event.on_link st) in
      let a = among_append g (targets (event.after_link st t)) (reached_by_link t (event.on_link st)) in
      let b = among_append g (targets st) (t ∷ []) in
      elim (event.is_destroyed st) as (λ b. event.is_destroyed st ≡ b → weight f (linked (part.Event st) d t) + among g (targets (event.after_link st t)) ≤ among g (targets st) + g t) [
        | true ↦ λ gone. let e : among g (targets (event.after_link st t) ++ reached_by_link t (event.on_link st)) ≡ among g (targets st) = ap (among g) (stale_targets st t gone) in omega (arith, s, a, e)
        | false ↦ λ live. let e : among g (targets (event.after_link st t) ++ reached_by_link t (event.on_link st)) ≡ among g (targets st ++ t ∷ []) = ap (among g) (link_targets st t live) in omega (arith, s, a, b, e)
      ] refl
  linked_keeps other d t = let b = blind d t in omega (arith, b)

  like_linked : (x y : Part) (d : ℕ) (t : Target) → event_on x ≡ event_on y → linked x d t ≡ linked y d t
  like_linked x y d t same = sent_of x d t ∙ (ap (λ (o : Option AnyEvent). sent_on o d t) same ∙ sym (sent_of y d t))
    where
      sent_on : Option AnyEvent → ℕ → Target → List What
      sent_on None d t = what_to (d, t) ∷ []
      sent_on (Some st) d t = map what_to (sent_by_linking t (event.on_link st))

      sent_of : (x : Part) (d : ℕ) (t : Target) → linked x d t ≡ sent_on (event_on x) d t
      sent_of (part.Event st) d t = refl
      sent_of other d t = refl

  -- a dependence
  source_keeps : (b : Bool) (d : ℕ) (t : Target) (a h : Parts) (n : ℕ) → AreBelow n h → (b ≡ true → event_on (a.face d) ≡ event_on (h.face d)) → weight f (linked_by b d t a) + kept_below g (linked_if b d t h).face n ≤ kept_below g h.face n + g t
  source_keeps true d t a h n below alike =
      let same : weight f (linked (a.face d) d t) ≡ weight f (linked (h.face d) d t) = ap (weight f) (like_linked (a.face d) (h.face d) d t (alike refl)) in
      let one = linked_keeps (h.face d) d t in
      put_step g h d (with_event (h.face d) (λ st. event.after_link st t)) n (weight f (linked (a.face d) d t)) (g t) below (omega (arith, same, one))
  source_keeps false d t a h n below alike = let b = blind d t in omega (arith, b)

  dep_keeps : (b c : Bool) (d : ℕ) (t : Target) (a h : Parts) (n : ℕ) → AreBelow n h → ((b && c) ≡ true → event_on (a.face d) ≡ event_on (h.face d))
      → weight f (if b then linked_by (b && c) d t a else []) + kept_below g (linked_if (b && c) d t h).face n ≤ kept_below g h.face n + (if b then g t else 0)
  dep_keeps true c d t a h n below alike = source_keeps c d t a h n below alike
  dep_keeps false c d t a h n below alike = omega arith

  -- the list of a creation
  deps_keep : (t k : ℕ) (ds : List ℕ) (a h : Parts) (n : ℕ) → AreBelow n h → ((i : ℕ) → named_dep i ds ≡ true → event_on (a.face i) ≡ event_on (h.face i))
      → weight f (dep_sends t k ds a) + kept_below g (deps_linked t k ds h).face n ≤ kept_below g h.face n + given g t k ds
  deps_keep t k [] a h n below alike = omega arith
  deps_keep t k (d ∷ ds) a h n below alike =
      let goal : Target = slot_target t k in
      let here : is_object d ≡ true → event_on (a.face d) ≡ event_on (h.face d) = λ is. alike d (rw (is, same d) refl) in
      let one = dep_keeps (is_given d) (not (d == 0)) d goal a h n below here in
      let r = deps_keep t (k + 1) ds (linked_if (is_object d) d goal a) (linked_if (is_object d) d goal h) n (linked_below (is_object d) d goal n h below) (λ i is. linked_alike (is_object d) d goal a h i here (alike i (rw is (or-true (is_object d && (d == i)))))) in
      let s = weight_append f (if is_given d then linked_by (is_object d) d goal a else []) (dep_sends t (k + 1) ds (linked_if (is_object d) d goal a)) in
      omega (arith, one, r, s)

  -- one object, that is not satisfied and not linked
  put_keeps : (h : Parts) (d : ℕ) (x : Part) (n : ℕ) → AreBelow n h → kept_in g (event_on x) ≤ kept_in g (event_on (h.face d)) → 0 + kept_below g (with_face h d x).face n ≤ kept_below g h.face n + 0
  put_keeps h d x n below less = put_step g h d x n 0 0 below (omega (arith, less))

  same_keeps : (h : Parts) (d : ℕ) (x : Part) (n : ℕ) → AreBelow n h → event_on x ≡ event_on (h.face d) → 0 + kept_below g (with_face h d x).face n ≤ kept_below g h.face n + 0
  same_keeps h d x n below same = let e : kept_in g (event_on x) ≡ kept_in g (event_on (h.face d)) = ap (kept_in g) same in put_keeps h d x n below (omega (arith, e))

  new_keeps : (h : Parts) (d : ℕ) (x : Part) (n : ℕ) → AreBelow n h → kept_in g (event_on x) ≡ 0 → 0 + kept_below g (with_face h d x).face n ≤ kept_below g h.face n + 0
  new_keeps h d x n below none = put_keeps h d x n below (omega (arith, none))

  destroyed_keeps : (x : Part) → kept_in g (event_on (with_event x event.after_destroy)) ≤ kept_in g (event_on x)
  destroyed_keeps (part.Event st) = elim (event.is_destroyed st) as (λ b. event.is_destroyed st ≡ b → among g (targets (event.after_destroy st)) ≤ among g (targets st)) [
    | true ↦ λ gone. let e : among g (targets (event.after_destroy st)) ≡ among g (targets st) = ap (among g) (gone_targets st gone) in omega (arith, e)
    | false ↦ λ live. let e : among g (targets (event.after_destroy st)) ≡ 0 = ap (among g) (destroy_targets st live) in omega (arith, e)
  ] refl
  destroyed_keeps other = omega arith

  -- what stands beside a new EDT keeps nothing
  beside_kept : (limit n t home from pc dc fl : ℕ) (ps ds : List ℕ) (o : Bool) (a : Answer) (w : List (ℕ × ℕ)) (h : Parts) → AreBelow n h → IsCallOn limit h t home (call.EdtCreate from pc ps dc ds fl o) a w → limit < n
      → AreBelow n (with_beside h (home_on (h.core t)) a) × (kept_below g (with_beside h (home_on (h.core t)) a).face n ≤ kept_below g h.face n)
  beside_kept limit n t home from pc dc fl ps ds o a w h below legal room =
      let P : Parts → Type 0 = λ k. AreBelow n k × (kept_below g k.face n ≤ kept_below g h.face n) in
      let k : Parts = with_named h a.output new_output in
      let one : P k = named_keeps P h a.output new_output (below, omega arith) (λ some.
      let within = (beside_is (is_done a.code && o) limit h (last_of a) a.output legal.output some).0.within in
      let put = new_keeps h a.output new_output n below (ap (among g) (new_targets OUTPUT_KIND OUTPUT_FLAGS 0)) in
      (put_below n a.output new_output h (λ le. absurd (omega (arith, le, within, room))) below, omega (arith, put))) in
      named_keeps P k a.scope (new_scope (home_on (h.core t)) a) one (λ _.
      let put = new_keeps k a.scope (new_scope (home_on (h.core t)) a) n one.0 refl in
      let less = one.1 in
      (put_below n a.scope (new_scope (home_on (h.core t)) a) k (λ _. refl) one.0, omega (arith, put, less)))

  -- an accepted call
  called_keeps : (limit n t home : ℕ) (c : body.Call) (a : Answer) (w : List (ℕ × ℕ)) (h : Parts) → is_done a.code ≡ true → AreBelow n h → IsCallOn limit h t home c a w
      → limit < n → weight f (sent_by c a h) + kept_below g (called t c a w h).face n ≤ kept_below g h.face n + call_links g c a h
  called_keeps limit n t home (call.DbCreate size fl) a w h on below legal room = new_keeps h a.value _ n below refl
  called_keeps limit n t home (call.DbRelease d) a w h on below legal room = same_keeps h d _ n below (block_event (h.face d) _)
  called_keeps limit n t home (call.DbDestroy d) a w h on below legal room = same_keeps h d _ n below (block_event (h.face d) _)
  called_keeps limit n t home (call.Store d k v) a w h on below legal room = same_keeps h d _ n below (block_event (h.face d) _)
  called_keeps limit n t home (call.Satisfy e p slot) a w h on below legal room =
      let one = satisfied_keeps (h.face e) slot p in
      put_step g h e (with_event (h.face e) (λ st. event.after_satisfy st slot p)) n (weight f (satisfied (h.face e) slot p)) 0 below (omega (arith, one))
  called_keeps limit n t home (call.AddDependence from x i m) a w h on below legal room =
      let y : Part = with_links (h.face x) (λ slots. after_link slots i (mode_named m)) in
      let same : event_on y ≡ event_on (h.face x) = links_event (h.face x) _ in
      let alike : AreAlike h (with_face h x y) = faced_alike h x y (sym same) in
      let goal : Target = target_of (is_edt_face (h.face x)) x i in
      let source = source_keeps (not (from == 0)) from goal h (with_face h x y) n (still_below n h (with_face h x y) alike below) (λ _. alike from) in
      let first = same_keeps h x y n below same in
      omega (arith, source, first)
  called_keeps limit n t home (call.TemplateCreate function pc dc) a w h on below legal room = new_keeps h a.value _ n below refl
  called_keeps limit n t home (call.TemplateDestroy x) a w h on below legal room = same_keeps h x _ n below (template_event (h.face x) _)
  called_keeps limit n t home (call.EventCreate k fl) a w h on below legal room = new_keeps h a.value _ n below (ap (among g) (new_targets k fl 0))
  called_keeps limit n t home (call.EventCreateParams k fl most sats nd) a w h on below legal room = new_keeps h a.value _ n below (ap (among g) (new_targets k fl most))
  called_keeps limit n t home (call.EventDestroy e) a w h on below legal room = put_keeps h e _ n below (destroyed_keeps (h.face e))
  called_keeps limit n t home (call.EdtCreate from pc ps dc ds fl o) a w h on below legal room =
      let y : Part = new_face (h.face from) dc ds in
      let none : event_on y ≡ None = new_event (h.face from) dc ds in
      let old : Parts = with_beside h (home_on (h.core t)) a in
      let beside = beside_kept limit n t home from pc dc fl ps ds o a w h below legal room in
      let made : Parts = with_core (with_face old a.value y) a.value (new_core (h.face from) (new_identity a.value fl a (home_on (h.core t))) ps) in
      let deps = deps_keep a.value 0 ds h made n (put_below n a.value y old (λ _. none) beside.0) (λ i is. ap event_on (sym (named_same limit t home from pc dc fl ps ds o a w h on legal y i is))) in
      let first = new_keeps old a.value y n beside.0 (ap (kept_in g) none) in
      let less = beside.1 in
      omega (arith, deps, first, less)
  called_keeps limit n t home other a w h on below legal room = omega arith

  -- WHERE A SCOPE IS LEFT, and an EDT ends, no slot of an EDT is reached
  some_weighs : (e p : ℕ) → weight f (satisfy_some e p) ≡ 0
  some_weighs e p = elim (e == 0) as (λ b. weight f (if b then [] else what.Satisfy e 0 p ∷ []) ≡ 0) [ true ↦ refl | false ↦ let z = satisfies e 0 p in omega (arith, z) ]

  leave_weighs : (x : ℕ) → weight f (leave_some x) ≡ 0
  leave_weighs x = elim (x == 0) as (λ b. weight f (if b then [] else what.Leave x ∷ []) ≡ 0) [ true ↦ refl | false ↦ let z = leaves x in omega (arith, z) ]

  done_weighs : (l : Leaving) (st : scope.State) → weight f (sent_if_done l st) ≡ 0
  done_weighs leaving.Alive st = refl
  done_weighs leaving.Done st = let r = weight_append f (satisfy_some st.event 0) (leave_some st.outer) in let e = some_weighs st.event 0 in let l = leave_weighs st.outer in omega (arith, r, e, l)

  left_weighs : (x : Part) → weight f (sent_by_leave x) ≡ 0
  left_weighs (part.Scope st) = done_weighs (scope.on_leave st) st
  left_weighs other = refl

  end_weighs : (i : Identity) (p : ℕ) → weight f (sent_by_end i p) ≡ 0
  end_weighs i p =
      let r = weight_append f (if i.finish then [] else satisfy_some i.output p) (leave_some i.scope) in
      let e : weight f (if i.finish then [] else satisfy_some i.output p) ≡ 0 = elim i.finish as (λ b. weight f (if b then [] else satisfy_some i.output p) ≡ 0) [ true ↦ refl | false ↦ some_weighs i.output p ] in
      let l = leave_weighs i.scope in
      omega (arith, r, e, l)

  -- EACH ENTRY
  entry_keeps : (limit n : ℕ) (e : Entry) (h : Parts) → AreBelow n h → IsLegalOn limit h e → limit < n → weight f (sends e h) + kept_below g (changed e h).face n ≤ kept_below g h.face n + entry_links g e h
  entry_keeps limit n (Call t home c a w) h below legal room =
      elim (is_done a.code) as (λ b. is_done a.code ≡ b → weight f (if b then sent_by c a h else []) + kept_below g (if b then joined c home (called t c a w h) else h).face n ≤ kept_below g h.face n + (if b then call_links g c a h else 0)) [
        | true ↦ λ on.
            let call = called_keeps limit n t home c a w h on below legal room in
            let same : kept_below g (joined c home (called t c a w h)).face n ≡ kept_below g (called t c a w h).face n = kept_alike g _ _ n (λ i _. joined_event c home (called t c a w h) i) in
            omega (arith, call, same)
        | false ↦ λ _. omega arith
      ] refl
  entry_keeps limit n (Deliver m c) h below legal room =
      elim (is_done c) as (λ b. weight f (if b then sent_by_message m.what h else []) + kept_below g (if b then brought m.what h else h).face n ≤ kept_below g h.face n + 0) [
        | true ↦ brought_keeps m.what h n below
        | false ↦ omega arith
      ]
    where
      brought_keeps : (w : What) (h : Parts) (n : ℕ) → AreBelow n h → weight f (sent_by_message w h) + kept_below g (brought w h).face n ≤ kept_below g h.face n + 0
      brought_keeps (what.Satisfy e slot p) h n below =
          let one = satisfied_keeps (h.face e) slot p in
          put_step g h e (with_event (h.face e) (λ st. event.after_satisfy st slot p)) n (weight f (satisfied (h.face e) slot p)) 0 below (omega (arith, one))
      brought_keeps (what.Leave x) h n below =
          let none = left_weighs (h.face x) in
          let same = same_keeps h x _ n below (scope_event (h.face x) scope.after_leave) in
          omega (arith, none, same)
      brought_keeps other h n below = omega arith
  entry_keeps limit n (Acquire t d) h below legal room = same_keeps h d _ n below (block_event (h.face d) _)
  entry_keeps limit n (Wait t d) h below legal room = same_keeps h d _ n below (block_event (h.face d) _)
  entry_keeps limit n (Free t d w) h below legal room = same_keeps h d _ n below (block_event (h.face d) _)
  entry_keeps limit n (End t returned) h below legal room = let none = end_weighs (identity_on (h.core t)) (payload_of_end (h.face returned) returned) in omega (arith, none)
  entry_keeps limit n other h below legal room = omega arith

-- IN A RUN no object stands from the limit on
abbrev pub past_all : Setting → ℕ
past_all s = s.limit + 3

abbrev pub kept_now : (Target → ℕ) → Setting → History → ℕ
kept_now g s past = kept_below g (parts_of s past).face (past_all s)

run_below : (s : Setting) (past : History) → IsRun s past → AreBelow (past_all s) (parts_of s past)
run_below s past run d le = ap (λ (m : Option Made). event_on (face m (link_calls past d) (block_calls s past d) (event_calls s past d) (scope_calls past d))) (above_law s past run d le)

opened_none : (s : Setting) (d : ℕ) → event_on ((parts_of s []).face d) ≡ None
opened_none s d = by_number s d (d == ARGUMENTS) (d == MAIN_EDT)
  where
    by_number : (s : Setting) (d : ℕ) (a b : Bool) → event_on (face (if a then Some (MadeBlock (length s.args + 1) 0) else if b then Some (MadeEdt (number_of_main s.program) [] 1) else None) (link_calls [] d) (block_calls s [] d) [] []) ≡ None
    by_number s d true b = refl
    by_number s d false true = refl
    by_number s d false false = refl

pub kept_opened : (g : Target → ℕ) (s : Setting) → kept_now g s [] ≡ 0
kept_opened g s = kept_none g (parts_of s []).face (past_all s) (opened_none s)

pub run_keeps : (f : What → ℕ) (g : Target → ℕ) → ((p : ℕ) (t : Target) → f (what_to (p, t)) ≡ g t) → ((e i p : ℕ) → f (what.Satisfy e i p) ≡ 0) → ((x : ℕ) → f (what.Leave x) ≡ 0) → (s : Setting) (past : History) (e : Entry) → IsRun s past → IsLegal s past e
    → weight f (sends e (parts_of s past)) + kept_now g s (e ∷ past) ≤ kept_now g s past + entry_links g e (parts_of s past)
run_keeps f g blind satisfies leaves s past e run legal =
    subst (λ (h : Parts). weight f (sends e (parts_of s past)) + kept_below g h.face (past_all s) ≤ kept_now g s past + entry_links g e (parts_of s past)) (sym (after_law s past e run legal))
    (by_entry e legal.on_parts)
  where
    by_entry : (e : Entry) → IsOnParts s past e → weight f (sends e (parts_of s past)) + kept_below g (changed e (readied_on s past e (parts_of s past))).face (past_all s) ≤ kept_now g s past + entry_links g e (parts_of s past)
    by_entry (Acquire t d) on = entry_keeps f g blind satisfies leaves s.limit (past_all s) (Acquire t d) (readied_on s past (Acquire t d) (parts_of s past)) (run_below s past run) on (omega arith)
    by_entry (Wait t d) on = entry_keeps f g blind satisfies leaves s.limit (past_all s) (Wait t d) (readied_on s past (Wait t d) (parts_of s past)) (run_below s past run) on (omega arith)
    by_entry (StaleAcquire t d) on = entry_keeps f g blind satisfies leaves s.limit (past_all s) (StaleAcquire t d) (readied_on s past (StaleAcquire t d) (parts_of s past)) (run_below s past run) on (omega arith)
    by_entry (Start t) on = entry_keeps f g blind satisfies leaves s.limit (past_all s) (Start t) (readied_on s past (Start t) (parts_of s past)) (run_below s past run) on (omega arith)
    by_entry other on = entry_keeps f g blind satisfies leaves s.limit (past_all s) other (parts_of s past) (run_below s past run) on (omega arith)
