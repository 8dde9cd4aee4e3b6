-- What stands beside a new EDT, and the home that it joins: what holds of parts through these faces.
use Rattle.std.proofs.Common.{◌≡◌, ◌<◌, ℕ, List, [], ◌∷◌, ◌+◌, Bool, true, false, not, ◌&&◌, ◌==◌, if◌then◌else◌, refl, sym, ◌∙◌, ap, subst, arith}
use Rattle.std.proofs.lemmas.Bool.{eqb-true}
use Rattle.ocr_event_any.specs.declared.AnyEvent.{AnyEvent}
use Rattle.ocr_event_any.specs.AnyEvent as event
use Rattle.ocr_finish.specs.Scope as scope
use Rattle.ocr_body_meaning.specs.Holds.{is_done}
use Rattle.ocr_body_meaning.specs.declared.call.Call as body
use Rattle.ocr_body_meaning.specs.declared.call.Call.TheVariants as call
use Rattle.ocr_body_meaning.specs.declared.call.Answer.{Answer}
use Rattle.ocr_machine_history.specs.Made.{names_new}
use Rattle.ocr_machine_parts.specs.declared.part.Part.{Part}
use Rattle.ocr_machine_parts.specs.declared.part.Part.TheVariants as part
use Rattle.ocr_machine_parts.specs.Calls.{is_object, slot_target}
use Rattle.ocr_machine_parts.specs.Parts.{Parts}
use Rattle.ocr_machine_parts.specs.Kinds.{is_event, with_event, with_scope}
use Rattle.ocr_machine_parts.specs.Effects.{with_named, with_beside, new_scope, new_output, joined, called}
use Rattle.ocr_machine_parts.specs.Progress.{with_face}
use Rattle.ocr_machine_parts.specs.LegalOn.{IsFresh, IsBeside, last_of, IsJoinable, IsCallOn}
use Rattle.ocr_machine_parts.proofs.Choices.{at_same}
use Rattle.ocr_machine_parts.proofs.After.{dep_fold, deps_face}
use Rattle.ocr_machine_parts.proofs.Fresh.{some_named, number_named}

-- A FACE where the number is not NULL_GUID
none_named : (f : Parts) (n : ℕ) (x : Part) → (n == 0) ≡ true → with_named f n x ≡ f
none_named f n x none = ap (λ (b : Bool). record { face = λ g. if not b && (n == g) then x else f.face g; core = f.core }) none

one_named : (f : Parts) (n : ℕ) (x : Part) → (n == 0) ≡ false → with_named f n x ≡ with_face f n x
one_named f n x some = ap (λ (b : Bool). record { face = λ g. if not b && (n == g) then x else f.face g; core = f.core }) some

pub named_keeps : (P : Parts → Type 0) (f : Parts) (n : ℕ) (x : Part) → P f → ((n == 0) ≡ false → P (with_face f n x)) → P (with_named f n x)
named_keeps P f n x is more = elim (n == 0) as (λ b. (n == 0) ≡ b → P (with_named f n x)) [
  | true ↦ λ none. subst P (sym (none_named f n x none)) is
  | false ↦ λ some. subst P (sym (one_named f n x some)) (more some)
] refl

-- the home that is joined
one_joined : (from pc dc fl : ℕ) (ps ds : List ℕ) (o : Bool) (home : ℕ) (f : Parts) → (home == 0) ≡ false
    → joined (call.EdtCreate from pc ps dc ds fl o) home f ≡ with_face f home (with_scope (f.face home) scope.after_join)
one_joined from pc dc fl ps ds o home f some =
    ap (λ (b : Bool). record { face = λ g. if not b && (home == g) then with_scope (f.face g) scope.after_join else f.face g; core = f.core }) some
    ∙ (λ i. record { face = λ g. at_same (λ k. with_scope (f.face k) scope.after_join) (λ k. with_scope (f.face k) scope.after_join) home g (f.face g) refl i; core = f.core })

none_joined : (from pc dc fl : ℕ) (ps ds : List ℕ) (o : Bool) (home : ℕ) (f : Parts) → (home == 0) ≡ true → joined (call.EdtCreate from pc ps dc ds fl o) home f ≡ f
none_joined from pc dc fl ps ds o home f none =
    ap (λ (b : Bool). record { face = λ g. if not b && (home == g) then with_scope (f.face g) scope.after_join else f.face g; core = f.core }) none

pub joined_keeps : (P : Parts → Type 0) (c : body.Call) (home : ℕ) (f : Parts) → P f → ((home == 0) ≡ false → P (with_face f home (with_scope (f.face home) scope.after_join))) → P (joined c home f)
joined_keeps P (call.EdtCreate from pc ps dc ds fl o) home f is more = elim (home == 0) as (λ b. (home == 0) ≡ b → P (joined (call.EdtCreate from pc ps dc ds fl o) home f)) [
  | true ↦ λ none. subst P (sym (none_joined from pc dc fl ps ds o home f none)) is
  | false ↦ λ some. subst P (sym (one_joined from pc dc fl ps ds o home f some)) (more some)
] refl
joined_keeps P other home f is more = is

-- THE NUMBERS of a new EDT, its scope and its output event are free, and apart
pub beside_is : (on : Bool) (limit : ℕ) (f : Parts) (other n : ℕ) → IsBeside on limit f other n → (n == 0) ≡ false → IsFresh limit f n × (other < n)
beside_is true limit f other n is some = is
beside_is false limit f other n is some = let none : (n == 0) ≡ true = rw is refl in absurd (cc (none, some))

apart_above : (n g : ℕ) → ((n == 0) ≡ false → g < n) → names_new n g ≡ false
apart_above n g above = elim (n == 0) as (λ b. (b ≡ false → g < n) → (not b && (n == g)) ≡ false) [
  | true ↦ λ _. refl
  | false ↦ λ above. elim (n == g) as (λ b. (n == g) ≡ b → b ≡ false) [
    | true ↦ λ same. absurd (let less : g < n = above refl in omega (arith, less, eqb-true n g same))
    | false ↦ λ _. refl
  ] refl
] above

pub below_last : (a : Answer) → ((a.scope == 0) ≡ false → a.value < a.scope) → (n : ℕ) → last_of a < n → a.value < n
below_last a above n last = elim (a.scope == 0) as (λ b. (b ≡ false → a.value < a.scope) → (if b then a.value else a.scope) < n → a.value < n) [
  | true ↦ λ _ last. last
  | false ↦ λ above last. let less : a.value < a.scope = above refl in omega (arith, less, last)
] above last

pub scope_below : (a : Answer) (n : ℕ) → (a.scope == 0) ≡ false → last_of a < n → a.scope < n
scope_below a n some last = rw some at last

-- what is no event is linked to nothing
pub other_event : (x : Part) (step : AnyEvent → AnyEvent) → is_event x ≡ false → with_event x step ≡ x
other_event (part.Event st) step is = cc is
other_event other step is = refl

other_fold : (t k g : ℕ) (ds : List ℕ) (x : Part) → is_event x ≡ false → dep_fold t k g ds x ≡ x
other_fold t k g [] x is = refl
other_fold t k g (d ∷ rest) x is = elim (is_object d && (d == g)) as (λ b. dep_fold t (k + 1) g rest (if b then with_event x (λ st. event.after_link st (slot_target t k)) else x) ≡ x) [
  | true ↦ ap (dep_fold t (k + 1) g rest) (other_event x (λ st. event.after_link st (slot_target t k)) is) ∙ other_fold t (k + 1) g rest x is
  | false ↦ other_fold t (k + 1) g rest x is
]

no_event : (x : Part) → IsJoinable x → is_event x ≡ false
no_event (part.Scope st) is = refl
no_event other is = absurd is

-- a scope that can be joined is none of what is made
apart_home : (f : Parts) (n home : ℕ) → IsJoinable (f.face home) → ((n == 0) ≡ false → f.face n ≡ part.Vacant) → names_new n home ≡ false
apart_home f n home joinable free = elim (names_new n home) as (λ b. names_new n home ≡ b → b ≡ false) [
  | true ↦ λ is. absurd (subst IsJoinable (ap f.face (sym (number_named n home is)) ∙ free (some_named n home is)) joinable)
  | false ↦ λ _. refl
] refl

module _ (limit : ℕ) (f : Parts) (t home from pc dc fl : ℕ) (ps ds : List ℕ) (o : Bool) (a : Answer) (w : List (ℕ × ℕ)) (legal : IsCallOn limit f t home (call.EdtCreate from pc ps dc ds fl o) a w) where
  pub output_free : (a.output == 0) ≡ false → f.face a.output ≡ part.Vacant
  output_free some = (beside_is (is_done a.code && o) limit f (last_of a) a.output legal.output some).0.vacant

  pub scope_free : (a.scope == 0) ≡ false → (with_named f a.output new_output).face a.scope ≡ part.Vacant
  scope_free some =
      let apart : names_new a.output a.scope ≡ false = apart_above a.output a.scope (λ more. scope_below a a.output some (beside_is (is_done a.code && o) limit f (last_of a) a.output legal.output more).1) in
      rw apart (beside_is (is_done a.code && (fl == 1)) limit f a.value a.scope legal.scope some).0.vacant

  pub edt_free : (h : ℕ) → is_done a.code ≡ true → (with_beside f h a).face a.value ≡ part.Vacant
  edt_free h on =
      let above : (a.scope == 0) ≡ false → a.value < a.scope = λ some. (beside_is (is_done a.code && (fl == 1)) limit f a.value a.scope legal.scope some).1 in
      let one : names_new a.scope a.value ≡ false = apart_above a.scope a.value above in
      let two : names_new a.output a.value ≡ false = apart_above a.output a.value (λ more. below_last a above a.output (beside_is (is_done a.code && o) limit f (last_of a) a.output legal.output more).1) in
      rw (one, two) (legal.value.named.fresh on).vacant

  pub home_stays : is_done a.code ≡ true → (home == 0) ≡ false → (called t (call.EdtCreate from pc ps dc ds fl o) a w f).face home ≡ f.face home
  home_stays on some =
      let joinable : IsJoinable (f.face home) = legal.at_home.joinable on some in
      let edt : (a.value == home) ≡ false = elim (a.value == home) as (λ b. (a.value == home) ≡ b → b ≡ false) [
        | true ↦ λ is. absurd (subst IsJoinable (ap f.face (sym (eqb-true a.value home is)) ∙ (legal.value.named.fresh on).vacant) joinable)
        | false ↦ λ _. refl
      ] refl in
      let own : names_new a.scope home ≡ false = apart_home f a.scope home joinable (λ more. (beside_is (is_done a.code && (fl == 1)) limit f a.value a.scope legal.scope more).0.vacant) in
      let output : names_new a.output home ≡ false = apart_home f a.output home joinable output_free in
      deps_face a.value 0 ds _ home
      ∙ rw (edt, own, output) (other_fold a.value 0 home ds (f.face home) (no_event (f.face home) joinable))

  -- what holds of parts holds with the scope and the output event, where it does with each of them
  pub beside_keeps : (P : Parts → Type 0) (h : ℕ) → P f → ((k : Parts) → P k → k.face a.output ≡ part.Vacant → P (with_face k a.output new_output))
      → ((k : Parts) → P k → k.face a.scope ≡ part.Vacant → P (with_face k a.scope (new_scope h a))) → P (with_beside f h a)
  beside_keeps P h is one two =
      let first : P (with_named f a.output new_output) = named_keeps P f a.output new_output is (λ some. one f is (output_free some)) in
      named_keeps P (with_named f a.output new_output) a.scope (new_scope h a) first (λ some. two (with_named f a.output new_output) first (scope_free some))
