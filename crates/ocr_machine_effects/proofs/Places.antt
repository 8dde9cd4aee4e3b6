-- Parts that are put in the place of others.
use Rattle.std.proofs.Common.{◌≡◌, ℕ, ◌+◌, ◌-◌, ◌<◌, List, [], ◌∷◌, ◌++◌, take, drop, length, slice_index_or, slice_set, Bool, true, false, not, ◌==◌, ◌||◌, ◌&&◌, if◌then◌else◌, arith, refl, sym, ◌∙◌, ap, subst, rules}
use Rattle.std.proofs.lemmas.Grind.{common_steps}
use Rattle.std.proofs.lemmas.List.{take-append-drop, take-set, drop-set}
use Rattle.std.proofs.lemmas.Bool.{eqb-true}
use Rattle.std.specs.Prelude.{Result, Ok, Err, IfOk}
use Rattle.ocr_datablock.specs.Block.{State}
use Rattle.ocr_edt.specs.declared.Edt.{Edt}
use Rattle.ocr_guid.specs.declared.Code.{Code}
use Rattle.ocr_machine_history.specs.Numbers.{is_in}
use Rattle.ocr_machine_history.specs.declared.entry.Message.{Message}
use Rattle.ocr_machine_history.specs.declared.entry.Entry.TheVariants.{Call, Deliver}
use Rattle.ocr_body_meaning.specs.Holds.{is_done}
use Rattle.ocr_body_meaning.specs.declared.call.Call as body
use Rattle.ocr_body_meaning.specs.declared.call.Call.TheVariants as call
use Rattle.ocr_body_meaning.specs.declared.call.Answer.{Answer}
use Rattle.ocr_slots.specs.declared.Slot.{Slot}
use Rattle.ocr_template.specs.declared.Template.{Template}
use Rattle.ocr_machine_parts.specs.declared.part.Core.{Core}
use Rattle.ocr_machine_parts.specs.declared.part.Part.{Part}
use Rattle.ocr_machine_parts.specs.declared.part.Part.TheVariants as part
use Rattle.ocr_machine_parts.specs.Effects.{with_named, called, joins, joined, brought, changed}
use Rattle.ocr_machine_parts.specs.Progress.{core_with, with_face, with_core}
use Rattle.ocr_machine_parts.specs.Kinds.{with_block, with_links, with_template, with_event, with_scope, on_core}
use Rattle.ocr_event_any.specs.declared.AnyEvent.{AnyEvent}
use Rattle.ocr_machine_parts.specs.Parts.{Parts}
use Rattle.ocr_finish.specs.Scope as scope
use Rattle.ocr_machine_parts.specs.Taken.{look, has, put, keys, as_face, as_core, is_within, parts_in, place_of, ArePlaced}
use Rattle.ocr_machine_parts.proofs.Choices.{at_same}
use Rattle.ocr_machine_parts.proofs.Fresh.{some_named}
use Rattle.ocr_machine_effects.specs.AtHand.{AtHand, state, with_part, listed, Becomes, HasFace, HasCore, is_core}

pub placed : (ps : List (ℕ × Part)) (i n : ℕ) (x : Part) (p : ℕ × Part) → i < length ps → p ≡ slice_index_or ps i p → p.0 ≡ n
    → take i ps ++ put (drop i ps) n x ≡ put ps n x → slice_set ps i (p.0, x) ≡ put ps n x
placed ps i n x p below is here puts =
    let whole : take i (slice_set ps i (p.0, x)) ++ drop i (slice_set ps i (p.0, x)) ≡ slice_set ps i (p.0, x) = take-append-drop i (slice_set ps i (p.0, x)) in
    let front : take i (slice_set ps i (p.0, x)) ≡ take i ps = take-set ps i (p.0, x) in
    let back : drop i (slice_set ps i (p.0, x)) ≡ (p.0, x) ∷ drop (i + 1) ps = drop-set ps i (p.0, x) below in
    let next : drop i ps ≡ p ∷ drop (i + 1) ps = grind (arith, common_steps) in
    let first : put (p ∷ drop (i + 1) ps) n x ≡ (p.0, x) ∷ drop (i + 1) ps = search rules in
    let first : put (drop i ps) n x ≡ (p.0, x) ∷ drop (i + 1) ps = rw next first in
    cc

pub same_item : (ps : List (ℕ × Part)) (i : ℕ) (p q : ℕ × Part) → i < length ps → p ≡ slice_index_or ps i p → q ≡ slice_index_or ps i q → p ≡ q
same_item ps i p q below first second = grind (arith, common_steps)

pub put_put : (ps : List (ℕ × Part)) (n : ℕ) (x y : Part) → put (put ps n x) n y ≡ put ps n y
put_put [] n x y = refl
put_put (p ∷ rest) n x y = elim (p.0 == n) as (λ b. (p.0 == n) ≡ b → put (if b then (p.0, x) ∷ rest else p ∷ put rest n x) n y ≡ (if b then (p.0, y) ∷ rest else p ∷ put rest n y)) [
  | true ↦ λ is. rw is refl
  | false ↦ λ is. rw (is, put_put rest n x y) refl
] refl

pub look_put : (ps : List (ℕ × Part)) (n : ℕ) (x : Part) (m : ℕ) → has ps n ≡ true → look (put ps n x) m ≡ (if n == m then x else look ps m)
look_put [] n x m is = cc
look_put (p ∷ rest) n x m is = grind (arith, common_steps, look_put rest n x m)

-- a number stays, whatever part it gets
pub keys_put : (ps : List (ℕ × Part)) (n : ℕ) (x : Part) → keys (put ps n x) ≡ keys ps
keys_put [] n x = refl
keys_put (p ∷ rest) n x = elim (p.0 == n) as (λ b. keys (if b then (p.0, x) ∷ rest else p ∷ put rest n x) ≡ p.0 ∷ keys rest) [
  | true ↦ refl
  | false ↦ ap (λ (ks : List ℕ). p.0 ∷ ks) (keys_put rest n x)
]

pub has_keys : (ps : List (ℕ × Part)) (n : ℕ) → has ps n ≡ is_in n (keys ps)
has_keys [] n = refl
has_keys (p ∷ rest) n = ap (λ (b : Bool). (p.0 == n) || b) (has_keys rest n)

pub has_same : (ps qs : List (ℕ × Part)) (n : ℕ) → keys ps ≡ keys qs → has ps n ≡ has qs n
has_same ps qs n is = has_keys ps n ∙ ap (is_in n) is ∙ sym (has_keys qs n)

-- where there is a part, there is its number
abbrev pub is_filled : Part → Bool
is_filled part.Vacant = false
is_filled other = true

pub has_look : (ps : List (ℕ × Part)) (n : ℕ) → is_filled (look ps n) ≡ true → has ps n ≡ true
has_look [] n is = cc
has_look (p ∷ rest) n is = elim (p.0 == n) as (λ b. is_filled (if b then p.1 else look rest n) ≡ true → (b || has rest n) ≡ true) [
  | true ↦ λ _. refl
  | false ↦ λ more. has_look rest n more
] is

-- A FACE in the place of a face, and a core in the place of a core
is_core_number : (limit t m : ℕ) → is_within limit t ≡ true → is_within limit m ≡ true → ((limit + t) == m) ≡ false
is_core_number limit t m one other = grind (arith, common_steps)

not_a_core : (limit g u : ℕ) → is_within limit g ≡ true → is_within limit u ≡ true → (g == (limit + u)) ≡ false
not_a_core limit g u one other = grind (arith, common_steps)

same_offset : (limit t u : ℕ) → ((limit + t) == (limit + u)) ≡ (t == u)
same_offset limit t u = grind (arith, common_steps)

-- the parts that stand by these numbers
abbrev pub parts_by : ℕ → (ℕ → Part) → Parts
parts_by limit at = record {
  face = λ g. if is_within limit g then as_face (at g) else part.Vacant;
  core = λ t. if is_within limit t then as_core (at (limit + t)) else part.Vacant;
}

-- one number has another part now
abbrev pub IsSetAt : ℕ → Part → (ℕ → Part) → (ℕ → Part) → Type 0
IsSetAt n x before after = (m : ℕ) → after m ≡ (if n == m then x else before m)

face_at : (limit : ℕ) (before after : ℕ → Part) (g : ℕ) (x : Part) → IsSetAt g x before after → is_within limit g ≡ true → (m : ℕ)
    → (parts_by limit after).face m ≡ (if g == m then as_face x else (parts_by limit before).face m)
face_at limit before after g x set within m = elim (is_within limit m) as (λ b. is_within limit m ≡ b → (if b then as_face (after m) else part.Vacant) ≡ (if g == m then as_face x else (if b then as_face (before m) else part.Vacant))) [
  | true ↦ λ is. rw (set m) (elim (g == m) as (λ c. as_face (if c then x else before m) ≡ (if c then as_face x else as_face (before m))) [ true ↦ refl | false ↦ refl ])
  | false ↦ λ is. elim (g == m) as (λ c. (g == m) ≡ c → part.Vacant ≡ (if c then as_face x else part.Vacant)) [
    | true ↦ λ same. let e : g ≡ m = eqb-true g m same in absurd (cc (sym within ∙ ap (λ (n : ℕ). is_within limit n) e ∙ is))
    | false ↦ λ _. refl
  ] refl
] refl

face_kept : (limit : ℕ) (before after : ℕ → Part) (t : ℕ) (x : Part) → IsSetAt (limit + t) x before after → is_within limit t ≡ true → (m : ℕ)
    → (parts_by limit after).face m ≡ (parts_by limit before).face m
face_kept limit before after t x set within m = elim (is_within limit m) as (λ b. is_within limit m ≡ b → (if b then as_face (after m) else part.Vacant) ≡ (if b then as_face (before m) else part.Vacant)) [
  | true ↦ λ is. rw (set m, is_core_number limit t m within is) refl
  | false ↦ λ is. refl
] refl

core_kept : (limit : ℕ) (before after : ℕ → Part) (g : ℕ) (x : Part) → IsSetAt g x before after → is_within limit g ≡ true → (u : ℕ)
    → (parts_by limit after).core u ≡ (parts_by limit before).core u
core_kept limit before after g x set within u = elim (is_within limit u) as (λ b. is_within limit u ≡ b → (if b then as_core (after (limit + u)) else part.Vacant) ≡ (if b then as_core (before (limit + u)) else part.Vacant)) [
  | true ↦ λ is. rw (set (limit + u), not_a_core limit g u within is) refl
  | false ↦ λ is. refl
] refl

core_at : (limit : ℕ) (before after : ℕ → Part) (t : ℕ) (x : Part) → IsSetAt (limit + t) x before after → is_within limit t ≡ true → (u : ℕ)
    → (parts_by limit after).core u ≡ (if t == u then as_core x else (parts_by limit before).core u)
core_at limit before after t x set within u = elim (is_within limit u) as (λ b. is_within limit u ≡ b → (if b then as_core (after (limit + u)) else part.Vacant) ≡ (if t == u then as_core x else (if b then as_core (before (limit + u)) else part.Vacant))) [
  | true ↦ λ is. rw (set (limit + u), same_offset limit t u) (elim (t == u) as (λ c. as_core (if c then x else before (limit + u)) ≡ (if c then as_core x else as_core (before (limit + u)))) [ true ↦ refl | false ↦ refl ])
  | false ↦ λ is. elim (t == u) as (λ c. (t == u) ≡ c → part.Vacant ≡ (if c then as_core x else part.Vacant)) [
    | true ↦ λ same. let e : t ≡ u = eqb-true t u same in absurd (cc (sym within ∙ ap (λ (n : ℕ). is_within limit n) e ∙ is))
    | false ↦ λ _. refl
  ] refl
] refl

pub face_set : (limit : ℕ) (before after : ℕ → Part) (g : ℕ) (x : Part) → IsSetAt g x before after → is_within limit g ≡ true
    → parts_by limit after ≡ with_face (parts_by limit before) g (as_face x)
face_set limit before after g x set within = λ i. record { face = λ m. face_at limit before after g x set within m i; core = λ u. core_kept limit before after g x set within u i }

pub core_set : (limit : ℕ) (before after : ℕ → Part) (t : ℕ) (x : Part) → IsSetAt (limit + t) x before after → is_within limit t ≡ true
    → parts_by limit after ≡ with_core (parts_by limit before) t (as_core x)
core_set limit before after t x set within = λ i. record { face = λ m. face_kept limit before after t x set within m i; core = λ u. core_at limit before after t x set within u i }

-- PLACES. What may stand at a number: there what stands is of its kind
abbrev pub kept_as : ℕ → ℕ → Part → Part
kept_as limit n x = if is_within limit n then as_face x else if is_within limit (n - limit) then as_core x else part.Vacant

pub core_number : (limit n : ℕ) → is_within limit (n - limit) ≡ true → limit + (n - limit) ≡ n
core_number limit n within = grind (arith, common_steps)

pub place_is : (limit : ℕ) (at : ℕ → Part) (n : ℕ) → place_of limit (parts_by limit at) n ≡ kept_as limit n (at n)
place_is limit at n = elim (is_within limit n) as (λ b. (if b then (if b then as_face (at n) else part.Vacant) else if is_within limit (n - limit) then (parts_by limit at).core (n - limit) else part.Vacant)
    ≡ (if b then as_face (at n) else if is_within limit (n - limit) then as_core (at n) else part.Vacant)) [
      | true ↦ refl
      | false ↦ elim (is_within limit (n - limit)) as (λ b. is_within limit (n - limit) ≡ b → (if b then (if b then as_core (at (limit + (n - limit))) else part.Vacant) else part.Vacant) ≡ (if b then as_core (at n) else part.Vacant)) [
        | true ↦ λ within. rw (core_number limit n within) refl
        | false ↦ λ _. refl
      ] refl
    ]

-- a part of its kind at each number
abbrev pub AreKept : ℕ → (ℕ → Part) → Type 0
AreKept limit at = (n : ℕ) → at n ≡ place_of limit (parts_by limit at) n

pub kept_set : (limit : ℕ) (before after : ℕ → Part) (n : ℕ) (x : Part) → IsSetAt n x before after → x ≡ kept_as limit n x → AreKept limit before → AreKept limit after
kept_set limit before after n x set kind are m = set m
    ∙ elim (n == m) as (λ b. (n == m) ≡ b → (if b then x else before m) ≡ kept_as limit m (if b then x else before m)) [
      | true ↦ λ same. subst (λ (k : ℕ). x ≡ kept_as limit k x) (eqb-true n m same) kind
      | false ↦ λ _. are m ∙ place_is limit before m
    ] refl
    ∙ ap (kept_as limit m) (sym (set m)) ∙ sym (place_is limit after m)

pub face_kind : (limit g : ℕ) (x : Part) → is_within limit g ≡ true → as_face x ≡ x → x ≡ kept_as limit g x
face_kind limit g x within is = rw within (sym is)

pub no_face : (limit t : ℕ) → is_within limit t ≡ true → is_within limit (limit + t) ≡ false
no_face limit t within = grind (arith, common_steps)

pub back_again : (limit t : ℕ) → (limit + t) - limit ≡ t
back_again limit t = omega arith

pub core_kind : (limit t : ℕ) (x : Part) → is_within limit t ≡ true → as_core x ≡ x → x ≡ kept_as limit (limit + t) x
core_kind limit t x within is = rw (no_face limit t within, back_again limit t, within) (sym is)

pub vacant_kept : (limit n : ℕ) → part.Vacant ≡ kept_as limit n part.Vacant
vacant_kept limit n = elim (is_within limit n) as (λ b. part.Vacant ≡ (if b then part.Vacant else if is_within limit (n - limit) then part.Vacant else part.Vacant)) [
  | true ↦ refl
  | false ↦ elim (is_within limit (n - limit)) as (λ b. part.Vacant ≡ (if b then part.Vacant else part.Vacant)) [ true ↦ refl | false ↦ refl ]
]

-- A STEP that changes nothing, one after another, and one that makes a whole part
pub stays : (h : AtHand) → Becomes h h (state h)
stays h = record { limit = refl; state = refl; keys = refl; whole = refl; placed = λ are. are }

pub after_that : (h k l : AtHand) (f g : Parts) → Becomes h k f → Becomes k l g → Becomes h l g
after_that h k l f g one other = record {
  limit = other.limit ∙ one.limit;
  state = other.state;
  keys = other.keys ∙ one.keys;
  whole = other.whole ∙ one.whole;
  placed = λ are. other.placed (one.placed are);
}

pub into : (h k : AtHand) (f g : Parts) → Becomes h k f → f ≡ g → Becomes h k g
into h k f g one is = record { limit = one.limit; state = one.state ∙ is; keys = one.keys; whole = one.whole; placed = one.placed }

-- one step after another, to whatever state it is then
pub further : (h k l : AtHand) (f g : Parts) → Becomes h k f → Becomes k l g → Becomes h l (state l)
further h k l f g one other = into h l g (state l) (after_that h k l f g one other) (sym other.state)

-- a step from a state that is told
pub follow : (h k l : AtHand) (f : Parts) (step : Parts → Parts) → Becomes h k f → Becomes k l (step (state k)) → Becomes h l (step f)
follow h k l f step one other = into h l (step (state k)) (step f) (after_that h k l f (step (state k)) one other) (ap step one.state)

pub face_made : (h : AtHand) (g : ℕ) (x : Part) → HasFace h g → as_face x ≡ x → Becomes h (with_part h g x) (with_face (state h) g x)
face_made h g x has is = record {
  limit = refl;
  state = face_set h.limit (look h.items) (look (put h.items g x)) g x (λ m. look_put h.items g x m has.here) has.within ∙ ap (with_face (state h) g) is;
  keys = keys_put h.items g x;
  whole = refl;
  placed = kept_set h.limit (look h.items) (look (put h.items g x)) g x (λ m. look_put h.items g x m has.here) (face_kind h.limit g x has.within is);
}

pub core_made : (h : AtHand) (t : ℕ) (x : Part) → HasCore h t → as_core x ≡ x → Becomes h (with_part h (h.limit + t) x) (with_core (state h) t x)
core_made h t x has is = record {
  limit = refl;
  state = core_set h.limit (look h.items) (look (put h.items (h.limit + t) x)) t x (λ m. look_put h.items (h.limit + t) x m has.here) has.within ∙ ap (with_core (state h) t) is;
  keys = keys_put h.items (h.limit + t) x;
  whole = refl;
  placed = kept_set h.limit (look h.items) (look (put h.items (h.limit + t) x)) (h.limit + t) x (λ m. look_put h.items (h.limit + t) x m has.here) (core_kind h.limit t x has.within is);
}

-- what holds of a part that is there, and of no vacant one, holds within the limit
pub within_core : (h : AtHand) (t : ℕ) (test : Part → Bool) → test part.Vacant ≡ false → test ((state h).core t) ≡ true → is_within h.limit t ≡ true
within_core h t test off on = elim (is_within h.limit t) as (λ b. test (if b then as_core (look h.items (h.limit + t)) else part.Vacant) ≡ true → b ≡ true) [
  | true ↦ λ _. refl
  | false ↦ λ on. cc (off, on)
] on

pub within_face : (h : AtHand) (g : ℕ) (test : Part → Bool) → test part.Vacant ≡ false → test ((state h).face g) ≡ true → is_within h.limit g ≡ true
within_face h g test off on = elim (is_within h.limit g) as (λ b. test (if b then as_face (look h.items g) else part.Vacant) ≡ true → b ≡ true) [
  | true ↦ λ _. refl
  | false ↦ λ on. cc (off, on)
] on

filled_core : (x : Part) → is_core (as_core x) ≡ true → is_filled x ≡ true
filled_core (part.Core c) is = refl
filled_core other is = absurd (cc is)

filled_face : (x : Part) → is_filled (as_face x) ≡ true → is_filled x ≡ true
filled_face part.Vacant is = cc is
filled_face other is = refl

pub core_here : (h : AtHand) (t : ℕ) → is_core ((state h).core t) ≡ true → HasCore h t
core_here h t is =
    let within : is_within h.limit t ≡ true = within_core h t is_core refl is in
    record { within = within; here = has_look h.items (h.limit + t) (filled_core (look h.items (h.limit + t)) (rw within at is)) }

pub face_here : (h : AtHand) (g : ℕ) → is_filled ((state h).face g) ≡ true → HasFace h g
face_here h g is =
    let within : is_within h.limit g ≡ true = within_face h g is_filled refl is in
    record { within = within; here = has_look h.items g (filled_face (look h.items g) (rw within at is)) }

twice : (h : AtHand) (n : ℕ) (x : Part) → with_part (with_part h n part.Vacant) n x ≡ with_part h n x
twice h n x = ap (λ (ps : List (ℕ × Part)). record { limit = h.limit; items = ps; whole = h.whole }) (put_put h.items n part.Vacant x)

-- a core, a block, or slots, taken out and put back after a step
pub core_step : (h mid k : AtHand) (t : ℕ) (c d : Core) (step : Core → Core) → mid ≡ with_part h (h.limit + t) part.Vacant → k ≡ with_part mid (mid.limit + t) (part.Core d)
    → (state h).core t ≡ part.Core c → d ≡ step c → Becomes h k (with_core (state h) t (on_core ((state h).core t) step))
core_step h mid k t c d step left is was same =
    rw (is, left, twice h (h.limit + t) (part.Core d)) (into h (with_part h (h.limit + t) (part.Core d)) _ _ (core_made h t (part.Core d) (core_here h t (rw was refl)) refl)
    (ap (with_core (state h) t) (ap (λ (e : Core). part.Core e) same ∙ sym (ap (λ (x : Part). on_core x step) was))))

-- a phase that is put in the place of one that was taken out
pub phase_put : (core mid new : Core) (e : Edt) → mid ≡ core_with core mid.edt core.loans → new ≡ core_with mid e mid.loans → new ≡ core_with core e core.loans
phase_put core mid new e rest put = put ∙ ap (λ (c : Core). core_with c e c.loans) rest

pub block_step : (h mid k : AtHand) (g : ℕ) (st new : State) (step : State → State) → mid ≡ with_part h g part.Vacant → k ≡ with_part mid g (part.Block new)
    → (state h).face g ≡ part.Block st → new ≡ step st → Becomes h k (with_face (state h) g (with_block ((state h).face g) step))
block_step h mid k g st new step left is was same =
    rw (is, left, twice h g (part.Block new)) (into h (with_part h g (part.Block new)) _ _ (face_made h g (part.Block new) (face_here h g (rw was refl)) refl)
    (ap (with_face (state h) g) (ap (λ (e : State). part.Block e) same ∙ sym (ap (λ (x : Part). with_block x step) was))))

pub links_step : (h mid k : AtHand) (g : ℕ) (slots new : List Slot) (step : List Slot → List Slot) → mid ≡ with_part h g part.Vacant → k ≡ with_part mid g (part.Edt new)
    → (state h).face g ≡ part.Edt slots → new ≡ step slots → Becomes h k (with_face (state h) g (with_links ((state h).face g) step))
links_step h mid k g slots new step left is was same =
    rw (is, left, twice h g (part.Edt new)) (into h (with_part h g (part.Edt new)) _ _ (face_made h g (part.Edt new) (face_here h g (rw was refl)) refl)
    (ap (with_face (state h) g) (ap (λ (e : List Slot). part.Edt e) same ∙ sym (ap (λ (x : Part). with_links x step) was))))

pub template_step : (h k : AtHand) (g : ℕ) (made new : Template) (step : Template → Template) → k ≡ with_part h g (part.Template new)
    → (state h).face g ≡ part.Template made → new ≡ step made → Becomes h k (with_face (state h) g (with_template ((state h).face g) step))
template_step h k g made new step is was same =
    rw is (into h (with_part h g (part.Template new)) _ _ (face_made h g (part.Template new) (face_here h g (rw was refl)) refl)
    (ap (with_face (state h) g) (ap (λ (t : Template). part.Template t) same ∙ sym (ap (λ (x : Part). with_template x step) was))))

pub event_step : (h mid k : AtHand) (g : ℕ) (st new : AnyEvent) (step : AnyEvent → AnyEvent) → mid ≡ with_part h g part.Vacant → k ≡ with_part mid g (part.Event new)
    → (state h).face g ≡ part.Event st → new ≡ step st → Becomes h k (with_face (state h) g (with_event ((state h).face g) step))
event_step h mid k g st new step left is was same =
    rw (is, left, twice h g (part.Event new)) (into h (with_part h g (part.Event new)) _ _ (face_made h g (part.Event new) (face_here h g (rw was refl)) refl)
    (ap (with_face (state h) g) (ap (λ (e : AnyEvent). part.Event e) same ∙ sym (ap (λ (x : Part). with_event x step) was))))

pub scope_step : (h mid k : AtHand) (g : ℕ) (st new : scope.State) (step : scope.State → scope.State) → mid ≡ with_part h g part.Vacant → k ≡ with_part mid g (part.Scope new)
    → (state h).face g ≡ part.Scope st → new ≡ step st → Becomes h k (with_face (state h) g (with_scope ((state h).face g) step))
scope_step h mid k g st new step left is was same =
    rw (is, left, twice h g (part.Scope new)) (into h (with_part h g (part.Scope new)) _ _ (face_made h g (part.Scope new) (face_here h g (rw was refl)) refl)
    (ap (with_face (state h) g) (ap (λ (e : scope.State). part.Scope e) same ∙ sym (ap (λ (x : Part). with_scope x step) was))))

-- what is at hand stays so
pub still_face : (h k : AtHand) (f : Parts) (g : ℕ) → Becomes h k f → HasFace h g → HasFace k g
still_face h k f g one there = record { within = ap (λ (n : ℕ). is_within n g) one.limit ∙ there.within; here = has_same k.items h.items g one.keys ∙ there.here }

pub still_core : (h k : AtHand) (f : Parts) (t : ℕ) → Becomes h k f → HasCore h t → HasCore k t
still_core h k f t one there = record {
  within = ap (λ (n : ℕ). is_within n t) one.limit ∙ there.within;
  here = ap (λ (n : ℕ). has k.items (n + t)) one.limit ∙ has_same k.items h.items (h.limit + t) one.keys ∙ there.here;
}

-- a face that is made after a step
pub face_then : (h k l : AtHand) (f : Parts) (g : ℕ) (x : Part) → Becomes h k f → l ≡ with_part k g x → HasFace h g → as_face x ≡ x → Becomes h l (with_face f g x)
face_then h k l f g x one is has kind = rw is (follow h k (with_part k g x) f (λ (p : Parts). with_face p g x) one (face_made k g x (still_face h k f g one has) kind))

-- a face that is made where its number is not NULL_GUID
pub named_made : (h k : AtHand) (n : ℕ) (x : Part) → (n == 0) ≡ false → Becomes h k (with_face (state h) n x) → Becomes h k (with_named (state h) n x)
named_made h k n x some one = into h k _ _ one (ap (λ (b : Bool). record { face = λ g. if not b && (n == g) then x else (state h).face g; core = (state h).core }) (sym some))

-- the home that an EDT joins, where its maker has one
pub home_joined : (h k : AtHand) (c : body.Call) (home : ℕ) → joins c home home ≡ true → Becomes h k (with_face (state h) home (with_scope ((state h).face home) scope.after_join)) → Becomes h k (joined c home (state h))
home_joined h k (call.EdtCreate from pc ps dc ds fl o) home is one =
    let f : Parts = state h in
    into h k _ _ one
    ((λ i. record { face = λ g. sym (at_same (λ n. with_scope (f.face n) scope.after_join) (λ n. with_scope (f.face n) scope.after_join) home g (f.face g) refl) i; core = f.core })
    ∙ ap (λ (b : Bool). record { face = λ g. if not b && (home == g) then with_scope (f.face g) scope.after_join else f.face g; core = f.core }) (sym (some_named home home is)))
home_joined h k other home is one = cc is

-- both parts of an EDT that is made
pub edt_made : (h k : AtHand) (g : ℕ) (x y : Part) → k ≡ with_part (with_part h g x) (h.limit + g) y → HasFace h g → HasCore h g → as_face x ≡ x → as_core y ≡ y
    → Becomes h k (with_core (with_face (state h) g x) g y)
edt_made h k g x y is face core one other =
    let first : Becomes h (with_part h g x) (with_face (state h) g x) = face_made h g x face one in
    let here : HasCore (with_part h g x) g = record { within = core.within; here = has_same (put h.items g x) h.items (h.limit + g) (keys_put h.items g x) ∙ core.here } in
    rw is (follow h (with_part h g x) (with_part (with_part h g x) (h.limit + g) y) (with_face (state h) g x) (λ f. with_core f g y) first (core_made (with_part h g x) g y here other))

-- what a step leaves of parts that are listed, and of all parts
pub step_placed : {limit : ℕ} {items out : List (ℕ × Part)} {h k : AtHand} {f : Parts} → h ≡ listed limit items → Becomes h k f → out ≡ k.items
    → ArePlaced limit items → ArePlaced limit out
step_placed {limit} {items} {out} {h} {k} {f} is one same are =
    rw same (subst (λ (n : ℕ). ArePlaced n k.items) (one.limit ∙ ap (λ (l : AtHand). l.limit) is) (one.placed (rw is are)))

pub step_parts : (limit : ℕ) (items out : List (ℕ × Part)) (h k : AtHand) (step : Parts → Parts) → h ≡ listed limit items → Becomes h k (step (state h)) → out ≡ k.items
    → parts_in limit out ≡ step (parts_in limit items)
step_parts limit items out h k step is one same =
    rw same (ap (λ (n : ℕ). parts_in n k.items) (sym (one.limit ∙ ap (λ (l : AtHand). l.limit) is)) ∙ one.state ∙ ap (λ (l : AtHand). step (state l)) is)

-- results that are Ok
pub ok_map : {T E P Q : Type 0} (r : Result T E) → IfOk r (λ _. P) → (P → Q) → IfOk r (λ _. Q)
ok_map (Ok x) p f = f p
ok_map (Err e) p f = tt

pub ok_with : {T E : Type 0} {P Q : T → Type 0} (r : Result T E) → IfOk r P → ((v : T) → P v → Q v) → IfOk r Q
ok_with (Ok v) h f = f v h
ok_with (Err e) h f = h

pub ok_any : {T E P : Type 0} (r : Result T E) → P → IfOk r (λ _. P)
ok_any (Ok x) p = p
ok_any (Err e) p = tt

-- an entry that was accepted does what it says, and one that was refused nothing
pub call_becomes : (h k : AtHand) (t home : ℕ) (c : body.Call) (a : Answer) (w : List (ℕ × ℕ)) → is_done a.code ≡ true → Becomes h k (joined c home (called t c a w (state h))) → Becomes h k (changed (Call t home c a w) (state h))
call_becomes h k t home c a w done one = into h k _ _ one (ap (λ (b : Bool). if b then joined c home (called t c a w (state h)) else state h) (sym done))

pub call_stays : (h : AtHand) (t home : ℕ) (c : body.Call) (a : Answer) (w : List (ℕ × ℕ)) → is_done a.code ≡ false → Becomes h h (changed (Call t home c a w) (state h))
call_stays h t home c a w refused = into h h _ _ (stays h) (ap (λ (b : Bool). if b then joined c home (called t c a w (state h)) else state h) (sym refused))

pub message_becomes : (h k : AtHand) (m : Message) (c : Code) → is_done c ≡ true → Becomes h k (brought m.what (state h)) → Becomes h k (changed (Deliver m c) (state h))
message_becomes h k m c done one = into h k _ _ one (ap (λ (b : Bool). if b then brought m.what (state h) else state h) (sym done))

pub message_stays : (h : AtHand) (m : Message) (c : Code) → is_done c ≡ false → Becomes h h (changed (Deliver m c) (state h))
message_stays h m c refused = into h h _ _ (stays h) (ap (λ (b : Bool). if b then brought m.what (state h) else state h) (sym refused))
