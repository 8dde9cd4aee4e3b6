-- What an entry does, and whether it is legal, rests on the parts that it names.
use Rattle.std.proofs.Common.{◌≡◌, ℕ, ◌/◌, List, [], ◌∷◌, Bool, true, false, Option, Some, None, ◌==◌, ◌||◌, ◌&&◌, not, ◌++◌, ◌+◌, ◌≤◌, if◌then◌else◌, refl, sym, ◌∙◌, ap, subst, is_some, arith}
use Rattle.ocr_guid.specs.declared.Code.TheVariants as code
use Rattle.ocr_datablock.specs.Block as block
use Rattle.ocr_datablock.specs.Lent.{Loan}
use Rattle.ocr_edt.specs.Phases.{Progress, Work, least_of}
use Rattle.ocr_body_meaning.specs.declared.call.Call as body
use Rattle.ocr_body_meaning.specs.declared.call.Call.TheVariants as call
use Rattle.ocr_body_meaning.specs.declared.call.Answer.{Answer}
use Rattle.ocr_machine_history.specs.declared.entry.Entry.{Entry}
use Rattle.ocr_machine_history.specs.declared.entry.Entry.TheVariants.{Call, Deliver, Acquire, Wait, StaleAcquire, Start, Free, End, Stop}
use Rattle.ocr_machine_parts.specs.declared.part.Part.{Part}
use Rattle.ocr_machine_parts.specs.declared.part.Part.TheVariants as part
use Rattle.ocr_machine_parts.specs.Calls.{is_given, is_object, slot_target, target_of, mode_next, mode_named}
use Rattle.ocr_machine_parts.specs.Parts.{Parts, new_identity, core, face}
use Rattle.ocr_machine_parts.specs.Codes.{Source, satisfy_code, brings_block, wanted_sources, is_any, release_code, dependence_code, Sort, creation_code, is_its_own, is_missing, is_of_other_kind, is_refused_as_stale, number_code, wanted}
use Rattle.ocr_machine_parts.specs.Effects.{brought, joins, joined, new_scope, granted, hold_ended, dropping_core, acquiring_core, waiting_edt, started_edt, ended_edt, new_face, new_core, ended, called, settled, settled_parts, creating_core, awoken, doomed_template, stale_edt}
use Rattle.ocr_machine_parts.specs.Progress.{with_face, linked_if, with_phase, next_on}
use Rattle.ocr_machine_parts.specs.LegalOn.{IsSatisfiable, delivery_code, HasMember, IsBeside, IsScoped, last_of, HasOutput, IsJoinable, IsHome, IsDeliverOn, IsShared, IsTaken, IsRefused, IsLoanBack, IsHeld, IsEnding, IsNamed, IsAnswered, IsLegalOn, IsLoaded, IsAgreed, IsDooming}
use Rattle.ocr_machine_parts.specs.Messages.{what_to, satisfied, linked, linked_by, dep_sends, sent_by, sent_by_leave, sent_by_message, payload_of_end, sent_by_end, resumed_by, resumes, resumed_by_doom}
use Rattle.ocr_machine_parts.specs.Footprint.{is_brought_to, names_beside, names_face, makes_core, on_face, on_core_of, IsAlike, is_wanted}
use Rattle.ocr_machine_parts.specs.Laws.{EffectLaw, CodeLaw, LegalityLaw, SettledLegalLaw}
use Rattle.ocr_machine_parts.proofs.Choices.{left, right, chosen}
use Rattle.ocr_acquire.specs.Mode.{mode_in}
use Rattle.ocr_datablock.specs.Steps.{after_ask, after_release, after_store, after_doom}
use Rattle.ocr_machine_history.specs.History.{own}
use Rattle.ocr_body_meaning.specs.Holds.{is_done}
use Rattle.ocr_machine_parts.specs.Kinds.{is_block, with_scope, identity_on, home_on, is_edt_face, IsBlock, core_progress, holds_of, is_acquiring, loan_on, mode_on, next_in, on_core, size_on, with_block, with_links, words_on, work_of, with_template, with_event}
use Rattle.ocr_event_any.specs.AnyEvent as event
use Rattle.ocr_finish.specs.Scope as scope
use Rattle.ocr_machine_history.specs.Made.{names_new}
use Rattle.std.proofs.lemmas.Grind.{common_steps}
use Rattle.std.proofs.Math.Bool.{or-true}
use Rattle.ocr_guid.specs.declared.target.Target.{Target as Reached}
use Rattle.ocr_guid.specs.declared.Code.{Code}
use Rattle.ocr_machine_history.specs.declared.entry.What.{What}
use Rattle.ocr_machine_history.specs.declared.entry.What.TheVariants as what
use Rattle.ocr_machine_parts.proofs.After.{dep_fold, deps_face, deps_core, linked_core, named_dep}
use Rattle.ocr_machine_parts.specs.Loans.{kept_in, loan_in, settled_loan, settled_loans}
use Rattle.ocr_machine_parts.specs.declared.loans.Kept.{Kept}
use Rattle.ocr_slots.specs.Steps.{after_link}
use Rattle.ocr_base.proofs.Booleans.{same}

-- what a call wants first is named
first : (n : ℕ) (b c : Bool) → (((n == n) || b) || c) ≡ true
first n b c = rw (same n) refl

-- and so is what stands behind it
second : (b c : Bool) → ((b || true) || c) ≡ true
second b c = rw (or-true b) refl

-- the source of a dependence is named, where it is not NULL_GUID
source_named : (from x i m : ℕ) (a : Answer) → (from == 0) ≡ false → names_face (call.AddDependence from x i m) a from ≡ true
source_named from x i m a some = rw (some, same from) (second (x == from) false)

-- what a call names, its entry names, besides what is made beside an EDT and the home that it joins
pub call_named : (t home : ℕ) (c : body.Call) (a : Answer) (w : List (ℕ × ℕ)) (g : ℕ) → names_face c a g ≡ true → on_face (Call t home c a w) g ≡ true
call_named t home c a w g is = rw is (or-true (joins c home g || names_beside c a g))

-- EFFECTS
called_faces : (t : ℕ) (c : body.Call) (a : Answer) (w : List (ℕ × ℕ)) (f h : Parts) → ((g : ℕ) → names_face c a g ≡ true → f.face g ≡ h.face g) → f.core t ≡ h.core t → (b : Bool) (g : ℕ) → f.face g ≡ h.face g
    → (if b then called t c a w f else f).face g ≡ (if b then called t c a w h else h).face g
called_faces t c a w f h alike own false g here = here
called_faces t (call.DbCreate n fl) a w f h alike own true g here = chosen (a.value == g) _ _ _ _ refl here
called_faces t (call.DbRelease d) a w f h alike own true g here =
    chosen (d == g) _ _ _ _ (λ i. with_block (alike d (first d _ _) i) (hold_ended after_release t w (loan_on (own i) d))) here
called_faces t (call.DbDestroy d) a w f h alike own true g here =
    chosen (d == g) _ _ _ _ (λ i. with_block (alike d (first d _ _) i) (hold_ended after_doom t w (loan_on (own i) d))) here
called_faces t (call.TemplateDestroy x) a w f h alike own true g here = chosen (x == g) _ _ _ _ (ap (λ (y : Part). with_template y doomed_template) (alike x (first x _ _))) here
called_faces t (call.Store d k v) a w f h alike own true g here = chosen (d == g) _ _ _ _ (ap (λ (x : Part). with_block x (λ st. after_store st k v)) (alike d (first d _ _))) here
called_faces t (call.AddDependence from x i m) a w f h alike own true g here =
    let face_x : f.face x ≡ h.face x = alike x (first x _ _) in
    let linked : (x == g) ≡ (x == g) → (if x == g then with_links (f.face x) (λ slots. after_link slots i (mode_named m)) else f.face g) ≡ (if x == g then with_links (h.face x) (λ slots. after_link slots i (mode_named m)) else h.face g) =
    λ _. chosen (x == g) _ _ _ _ (ap (λ (y : Part). with_links y (λ slots. after_link slots i (mode_named m))) face_x) here in
    elim (from == 0) as (λ b. (b ≡ false → f.face from ≡ h.face from) → (linked_if (not b) from (target_of (is_edt_face (f.face x)) x i) (with_face f x (with_links (f.face x) (λ slots. after_link slots i (mode_named m))))).face g
    ≡ (linked_if (not b) from (target_of (is_edt_face (h.face x)) x i) (with_face h x (with_links (h.face x) (λ slots. after_link slots i (mode_named m))))).face g) [
      | true ↦ λ _. linked refl
      | false ↦ λ is. chosen (from == g) _ _ _ _ (λ j. with_event (if x == from then with_links (face_x j) (λ slots. after_link slots i (mode_named m)) else is refl j) (λ st. event.after_link st (target_of (is_edt_face (face_x j)) x i))) (linked refl)
    ] (λ some. alike from (source_named from x i m a some))
called_faces t (call.Satisfy e p slot) a w f h alike own true g here = chosen (e == g) _ _ _ _ (ap (λ (y : Part). with_event y (λ st. event.after_satisfy st slot p)) (alike e (first e _ _))) here
called_faces t (call.EventCreate k fl) a w f h alike own true g here = chosen (a.value == g) _ _ _ _ refl here
called_faces t (call.EventCreateParams k fl most sats deps) a w f h alike own true g here = chosen (a.value == g) _ _ _ _ refl here
called_faces t (call.EventDestroy x) a w f h alike own true g here = chosen (x == g) _ _ _ _ (ap (λ (y : Part). with_event y event.after_destroy) (alike x (first x _ _))) here
called_faces t (call.TemplateCreate function pc dc) a w f h alike own true g here = chosen (a.value == g) _ _ _ _ refl here
called_faces t (call.EdtCreate from pc params dc deps flags output) a w f h alike own true g here =
    deps_face a.value 0 deps _ g
    ∙ ap (dep_fold a.value 0 g deps) (chosen (a.value == g) _ _ _ _ (ap (λ (x : Part). new_face x dc deps) (alike from (first from _ _)))
    (chosen (names_new a.scope g) _ _ _ _ (ap (λ (x : Part). new_scope (home_on x) a) own) (chosen (names_new a.output g) _ _ _ _ refl here)))
    ∙ sym (deps_face a.value 0 deps _ g)
called_faces t other a w f h alike own true g here = here

-- and the home that is joined
joined_faces : (c : body.Call) (home g : ℕ) (x y f h : Parts) (b : Bool) → (if b then x else f).face g ≡ (if b then y else h).face g → (if b then joined c home x else f).face g ≡ (if b then joined c home y else h).face g
joined_faces c home g x y f h true is = ap (λ (p : Part). if joins c home g then with_scope p scope.after_join else p) is
joined_faces c home g x y f h false is = is

joined_cores : (c : body.Call) (home u : ℕ) (x y f h : Parts) (b : Bool) → (if b then x else f).core u ≡ (if b then y else h).core u → (if b then joined c home x else f).core u ≡ (if b then joined c home y else h).core u
joined_cores c home u x y f h true is = is
joined_cores c home u x y f h false is = is

called_cores : (t : ℕ) (c : body.Call) (a : Answer) (w : List (ℕ × ℕ)) (f h : Parts) → ((g : ℕ) → names_face c a g ≡ true → f.face g ≡ h.face g) → f.core t ≡ h.core t → (b : Bool) (u : ℕ) → f.core u ≡ h.core u
    → (if b then called t c a w f else f).core u ≡ (if b then called t c a w h else h).core u
called_cores t c a w f h alike own false u here = here
called_cores t (call.DbCreate n fl) a w f h alike own true u here = chosen (t == u) _ _ _ _ (ap (λ (x : Part). on_core x (creating_core fl a.value (n / 8))) own) here
called_cores t (call.DbRelease d) a w f h alike own true u here = chosen (t == u) _ _ _ _ (ap (λ (x : Part). on_core x (dropping_core d)) own) here
called_cores t (call.DbDestroy d) a w f h alike own true u here = chosen (t == u) _ _ _ _ (ap (λ (x : Part). on_core x (dropping_core d)) own) here
called_cores t (call.EdtCreate from pc params dc deps flags output) a w f h alike own true u here =
    deps_core a.value 0 deps _ u
    ∙ chosen (a.value == u) _ _ _ _ (λ j. new_core (alike from (first from _ _) j) (new_identity a.value flags a (home_on (own j))) params) here
    ∙ sym (deps_core a.value 0 deps _ u)
called_cores t (call.AddDependence from x i m) a w f h alike own true u here =
    linked_core (not (from == 0)) from (target_of (is_edt_face (f.face x)) x i) _ u ∙ here
    ∙ sym (linked_core (not (from == 0)) from (target_of (is_edt_face (h.face x)) x i) _ u)
called_cores t other a w f h alike own true u here = here

called_resumes : (t home : ℕ) (c : body.Call) (a : Answer) (w : List (ℕ × ℕ)) (f h : Parts) → ((g : ℕ) → names_face c a g ≡ true → f.face g ≡ h.face g)
    → resumes (Call t home c a w) f ≡ resumes (Call t home c a w) h
called_resumes t home (call.DbRelease d) a w f h alike = ap (λ (x : Part). if is_done a.code then resumed_by x t else []) (alike d (first d _ _))
called_resumes t home (call.DbDestroy d) a w f h alike = ap (λ (x : Part). if is_done a.code then resumed_by_doom x t else []) (alike d (first d _ _))
called_resumes t home other a w f h alike = refl

ended_alike : (e : Entry) (f h : Parts) (t d : ℕ) (w : List (ℕ × ℕ)) → f.face d ≡ h.face d → f.core t ≡ h.core t → IsAlike e f h
    → IsAlike e (ended after_release f t d w) (ended after_release h t d w)
ended_alike e f h t d w face core alike = record {
  faces = λ g on. chosen (d == g) _ _ _ _ (λ i. with_block (face i) (hold_ended after_release t w (loan_on (core i) d))) (alike.faces g on);
  cores = λ u on. chosen (t == u) _ _ _ _ (ap (λ (x : Part). on_core x (dropping_core d)) core) (alike.cores u on);
}

-- MESSAGES
pub named_source : (g : ℕ) (ds : List ℕ) → named_dep g ds ≡ true → is_wanted g (wanted_sources ds) ≡ true
named_source g [] on = cc on
named_source g (d ∷ rest) on = elim (is_object d) as (λ b. ((b && (d == g)) || named_dep g rest) ≡ true → is_wanted g (if b then (d, Source) ∷ wanted_sources rest else wanted_sources rest) ≡ true) [
  | true ↦ elim (d == g) as (λ b. (b || named_dep g rest) ≡ true → (b || is_wanted g (wanted_sources rest)) ≡ true) [ true ↦ λ _. refl | false ↦ λ on. named_source g rest on ]
  | false ↦ λ on. named_source g rest on
] on

deps_alike : (t k : ℕ) (ds : List ℕ) (f h : Parts) → ((g : ℕ) → named_dep g ds ≡ true → f.face g ≡ h.face g) → dep_sends t k ds f ≡ dep_sends t k ds h
deps_alike t k [] f h alike = refl
deps_alike t k (d ∷ rest) f h alike =
    let to : Reached = slot_target t k in
    elim (is_object d) as (λ b. ((g : ℕ) → ((b && (d == g)) || named_dep g rest) ≡ true → f.face g ≡ h.face g)
    → ((if is_given d then linked_by b d to f else []) ++ dep_sends t (k + 1) rest (linked_if b d to f)) ≡ ((if is_given d then linked_by b d to h else []) ++ dep_sends t (k + 1) rest (linked_if b d to h))) [
      | true ↦ λ alike.
          let here : f.face d ≡ h.face d = alike d (left d _) in
          (λ j. (if is_given d then linked (here j) d to else []) ++ deps_alike t (k + 1) rest (linked_if true d to f) (linked_if true d to h)
          (λ g on. chosen (d == g) _ _ _ _ (ap (λ (x : Part). with_event x (λ st. event.after_link st to)) here) (alike g (rw on (or-true (d == g))))) j)
      | false ↦ λ alike. ap (λ (l : List What). (if is_given d then what_to (d, to) ∷ [] else []) ++ l) (deps_alike t (k + 1) rest f h alike)
    ] alike

sent_alike : (c : body.Call) (a : Answer) (f h : Parts) → ((g : ℕ) → names_face c a g ≡ true → f.face g ≡ h.face g) → sent_by c a f ≡ sent_by c a h
sent_alike (call.Satisfy e p slot) a f h alike = ap (λ (x : Part). satisfied x slot p) (alike e (first e _ _))
sent_alike (call.AddDependence from x i m) a f h alike =
    let face_x : f.face x ≡ h.face x = alike x (first x _ _) in
    elim (from == 0) as (λ b. (b ≡ false → f.face from ≡ h.face from) → linked_by (not b) from (target_of (is_edt_face (f.face x)) x i) f ≡ linked_by (not b) from (target_of (is_edt_face (h.face x)) x i) h) [
      | true ↦ λ _. ap (λ (y : Part). what_to (from, target_of (is_edt_face y) x i) ∷ []) face_x
      | false ↦ λ is. (λ j. linked (is refl j) from (target_of (is_edt_face (face_x j)) x i))
    ] (λ some. alike from (source_named from x i m a some))
sent_alike (call.EdtCreate from pc ps dc ds fl o) a f h alike = deps_alike a.value 0 ds f h (λ g on. alike g (let there = named_source g ds on in rw there (second (from == g) _)))
sent_alike other a f h alike = refl

-- a message
brought_faces : (w : What) (f h : Parts) → ((g : ℕ) → is_brought_to w g ≡ true → f.face g ≡ h.face g) → (b : Bool) (g : ℕ) → f.face g ≡ h.face g → (if b then brought w f else f).face g ≡ (if b then brought w h else h).face g
brought_faces w f h alike false g here = here
brought_faces (what.Satisfy e i p) f h alike true g here = chosen (e == g) _ _ _ _ (ap (λ (x : Part). with_event x (λ st. event.after_satisfy st i p)) (alike e (same e))) here
brought_faces (what.Leave x) f h alike true g here = chosen (x == g) _ _ _ _ (ap (λ (y : Part). with_scope y scope.after_leave) (alike x (same x))) here
brought_faces other f h alike true g here = here

brought_cores : (w : What) (f h : Parts) (b : Bool) (u : ℕ) → f.core u ≡ h.core u → (if b then brought w f else f).core u ≡ (if b then brought w h else h).core u
brought_cores w f h false u here = here
brought_cores (what.Satisfy e i p) f h true u here = here
brought_cores (what.Leave x) f h true u here = here
brought_cores other f h true u here = here

brought_sends : (w : What) (f h : Parts) → ((g : ℕ) → is_brought_to w g ≡ true → f.face g ≡ h.face g) → sent_by_message w f ≡ sent_by_message w h
brought_sends (what.Satisfy e i p) f h alike = ap (λ (x : Part). satisfied x i p) (alike e (same e))
brought_sends (what.Leave x) f h alike = ap sent_by_leave (alike x (same x))
brought_sends other f h alike = refl

pub effect_law : EffectLaw
effect_law (Call t home c a w) f h alike =
    let own : f.core t ≡ h.core t = alike.cores t (left t (makes_core c && (a.value == t))) in
    let named : (g : ℕ) → names_face c a g ≡ true → f.face g ≡ h.face g = λ g on. alike.faces g (call_named t home c a w g on) in (
      record {
        faces = λ g on. joined_faces c home g (called t c a w f) (called t c a w h) f h (is_done a.code) (called_faces t c a w f h named own (is_done a.code) g (alike.faces g on));
        cores = λ u on. joined_cores c home u (called t c a w f) (called t c a w h) f h (is_done a.code) (called_cores t c a w f h named own (is_done a.code) u (alike.cores u on));
      },
      ap (λ (l : List What). if is_done a.code then l else []) (sent_alike c a f h named),
      called_resumes t home c a w f h named,
    )
effect_law (Acquire t d) f h alike =
    let face_d : f.face d ≡ h.face d = alike.faces d (right d (t == d)) in
    let own : f.core t ≡ h.core t = alike.cores t (same t) in (
      record {
        faces = λ g on. chosen (d == g) _ _ _ _ (λ i. with_block (face_d i) (granted t (mode_next (next_in (core_progress (own i)))))) (alike.faces g on);
        cores = λ u on. chosen (t == u) _ _ _ _ (λ i. on_core (own i) (acquiring_core d (mode_next (next_in (core_progress (own i)))) (size_on (face_d i)) (words_on (face_d i)))) (alike.cores u on);
      },
      refl,
      refl,
    )
effect_law (Wait t d) f h alike =
    let face_d : f.face d ≡ h.face d = alike.faces d (right d (t == d)) in
    let own : f.core t ≡ h.core t = alike.cores t (same t) in (
      record {
        faces = λ g on. chosen (d == g) _ _ _ _ (λ i. with_block (face_d i) (λ st. after_ask st t (mode_next (next_in (core_progress (own i)))))) (alike.faces g on);
        cores = λ u on. chosen (t == u) _ _ _ _ (ap (λ (x : Part). on_core x (with_phase waiting_edt)) own) (alike.cores u on);
      },
      refl,
      refl,
    )
effect_law (Start t) f h alike = (
  record {
    faces = alike.faces;
    cores = λ u on. chosen (t == u) _ _ _ _ (ap (λ (x : Part). on_core x (with_phase started_edt)) (alike.cores t (same t))) (alike.cores u on);
  },
  refl,
  refl,
)
effect_law (Free t d w) f h alike = (ended_alike (Free t d w) f h t d w (alike.faces d (same d)) (alike.cores t (same t)) alike, refl, ap (λ (x : Part). resumed_by x t) (alike.faces d (same d)))
effect_law (End t g) f h alike = (
  record {
    faces = alike.faces;
    cores = λ u on. chosen (t == u) _ _ _ _ (ap (λ (x : Part). on_core x (with_phase ended_edt)) (alike.cores t (same t))) (alike.cores u on);
  },
  (λ j. sent_by_end (identity_on (alike.cores t (same t) j)) (payload_of_end (alike.faces g (same g) j) g)),
  refl,
)
effect_law (Deliver m c) f h alike = (
  record {
    faces = λ g on. brought_faces m.what f h alike.faces (is_done c) g (alike.faces g on);
    cores = λ u on. brought_cores m.what f h (is_done c) u (alike.cores u on);
  },
  ap (λ (l : List What). if is_done c then l else []) (brought_sends m.what f h alike.faces),
  refl,
)
effect_law (StaleAcquire t d) f h alike = (
  record {
    faces = alike.faces;
    cores = λ u on. chosen (t == u) _ _ _ _ (ap (λ (x : Part). on_core x (with_phase (λ e. stale_edt (awoken e)))) (alike.cores t (same t))) (alike.cores u on);
  },
  refl,
  refl,
)
effect_law (Stop why) f h alike = (alike, refl, refl)

-- CODES
any_alike : (f h : ℕ → Part) (test : Sort → Part → Bool) (list : List (ℕ × Sort)) → ((g : ℕ) → is_wanted g list ≡ true → f g ≡ h g) → is_any test f list ≡ is_any test h list
any_alike f h test [] alike = refl
any_alike f h test (one ∷ rest) alike = λ j. test one.1 (alike one.0 (left one.0 (is_wanted one.0 rest)) j) || any_alike f h test rest (λ g on. alike g (rw on (or-true (one.0 == g)))) j

number_alike : (t : ℕ) (c : body.Call) (f h : ℕ → Part) → ((g : ℕ) → is_wanted g (wanted c) ≡ true → f g ≡ h g) → number_code t f c ≡ number_code t h c
number_alike t (call.DbRelease d) f h alike = ap (λ (x : Part). release_code x t) (alike d (left d false))
number_alike t (call.EdtCreate from pc params dc deps flags output) f h alike = ap (λ (x : Part). creation_code x pc params dc deps flags) (alike from (left from _))
number_alike t (call.Satisfy e p slot) f h alike = ap (λ (x : Part). satisfy_code x slot p) (alike e (left e _))
number_alike t (call.AddDependence from x i m) f h alike =
    let face_x : f x ≡ h x = alike x (left x _) in
    let brings : brings_block f from ≡ brings_block h from =
    elim (from == 0) as (λ b. (b ≡ false → f from ≡ h from) → (not b && is_block (f from)) ≡ (not b && is_block (h from))) [
      | true ↦ λ _. refl
      | false ↦ λ is. ap is_block (is refl)
    ] (λ some. alike from (rw (some, same from) (or-true (x == from)))) in
    λ j. dependence_code (brings j) (face_x j) i m
number_alike t other f h alike = refl

pub code_law : CodeLaw
code_law t home c a w f h alike =
    let here : (g : ℕ) → is_wanted g (wanted c) ≡ true → f g ≡ h g = λ g on. alike g (call_named t home c a w g (rw on refl)) in
    λ j. if any_alike f h is_missing (wanted c) here j then code.Enoent
    else if is_its_own c || any_alike f h is_of_other_kind (wanted c) here j then code.Einval
    else if any_alike f h (is_refused_as_stale t) (wanted c) here j then code.Stale
    else number_alike t c f h here j

pub block_weaker : (x : Part) (P Q : block.State → Type 0) → ((st : block.State) → P st → Q st) → IsBlock x P → IsBlock x Q
block_weaker (part.Block st) P Q f h = f st h
block_weaker other P Q f h = absurd h

-- LEGALITY rests on this of a core
record IsLike (x y : Part) : Type 0 where
  work : work_of x ≡ work_of y
  progress : core_progress x ≡ core_progress y
  acquiring : is_acquiring x ≡ is_acquiring y
  vacant : x ≡ part.Vacant → y ≡ part.Vacant
  home : home_on x ≡ home_on y
  back : (t d : ℕ) (st : block.State) → IsLoanBack t (loan_on x d) st → IsLoanBack t (loan_on y d) st

like_same : (x y : Part) → x ≡ y → IsLike x y
like_same x y is = subst (IsLike x) is (record { work = refl; progress = refl; acquiring = refl; vacant = λ v. v; home = refl; back = λ t d st b. b })

named_like : (limit : ℕ) (f h : Parts) (a : Answer) → f.face a.value ≡ h.face a.value → IsNamed limit f a → IsNamed limit h a
named_like limit f h a is named = record {
  fresh = λ on. record { some = (named.fresh on).some; within = (named.fresh on).within; vacant = sym is ∙ (named.fresh on).vacant };
  refused = named.refused;
}

ending_like : (f h : Parts) (t d : ℕ) → f.face d ≡ h.face d → IsLike (f.core t) (h.core t) → IsEnding f t d → IsEnding h t d
ending_like f h t d face like ending =
    block_weaker (h.face d) _ (IsHeld t (mode_on (h.core t) d) (loan_on (h.core t) d))
    (λ st held. record { holder = held.holder; same = ap (λ (o : Option Work). mode_in d (holds_of o)) (sym like.work) ∙ held.same; loan_back = like.back t d st held.loan_back })
    (subst (λ (x : Part). IsBlock x (IsHeld t (mode_on (f.core t) d) (loan_on (f.core t) d))) face ending)

dooming_like : (f h : Parts) (t d : ℕ) → f.face d ≡ h.face d → IsLike (f.core t) (h.core t) → IsDooming f t d → IsDooming h t d
dooming_like f h t d face like ending =
    block_weaker (h.face d) _ (IsAgreed t (mode_on (h.core t) d) (loan_on (h.core t) d))
    (λ st held. record { same = ap (λ (o : Option Work). mode_in d (holds_of o)) (sym like.work) ∙ held.same; loan_back = like.back t d st held.loan_back })
    (subst (λ (x : Part). IsBlock x (IsAgreed t (mode_on (f.core t) d) (loan_on (f.core t) d))) face ending)

answered_like : (limit : ℕ) (f h : Parts) (t : ℕ) (c : body.Call) (a : Answer) → ((g : ℕ) → names_face c a g ≡ true → f.face g ≡ h.face g) → ((u : ℕ) → ((t == u) || (makes_core c && (a.value == u))) ≡ true → IsLike (f.core u) (h.core u))
    → IsAnswered limit f t c a → IsAnswered limit h t c a
answered_like limit f h t (call.Print v) a faces cores answered = answered
answered_like limit f h t (call.Load d k) a faces cores answered =
    subst (λ (o : Option Work). IsBlock (h.face d) (IsLoaded t k (mode_in d (holds_of o)) a.value)) (cores t (left t false)).work
    (subst (λ (x : Part). IsBlock x (IsLoaded t k (mode_on (f.core t) d) a.value)) (faces d (first d _ _)) answered)
answered_like limit f h t (call.Store d k v) a faces cores answered = (
  subst (λ (o : Option Work). IsBlock (h.face d) (IsShared t k (mode_in d (holds_of o)))) (cores t (left t false)).work
      (subst (λ (x : Part). IsBlock x (IsShared t k (mode_on (f.core t) d))) (faces d (first d _ _)) answered.0),
  answered.1,
)
answered_like limit f h t (call.TemplateCreate function pc dc) a faces cores answered = named_like limit f h a (faces a.value (same a.value)) answered
answered_like limit f h t (call.DbCreate n fl) a faces cores answered = named_like limit f h a (faces a.value (same a.value)) answered
answered_like limit f h t (call.EdtCreate from pc params dc deps flags output) a faces cores answered = record {
  named = named_like limit f h a (faces a.value (right a.value _)) answered.named;
  no_core = λ on. (cores a.value (right a.value (t == a.value))).vacant (answered.no_core on);
}
answered_like limit f h t (call.DbRelease d) a faces cores answered = (λ on. ending_like f h t d (faces d (first d _ _)) (cores t (left t false)) (answered.0 on), answered.1)
answered_like limit f h t (call.DbDestroy d) a faces cores answered = (λ on. dooming_like f h t d (faces d (first d _ _)) (cores t (left t false)) (answered.0 on), answered.1)
answered_like limit f h t (call.TemplateDestroy x) a faces cores answered = answered
answered_like limit f h t (call.EventCreate k fl) a faces cores answered = named_like limit f h a (faces a.value (same a.value)) answered
answered_like limit f h t (call.EventCreateParams k fl most sats deps) a faces cores answered = named_like limit f h a (faces a.value (same a.value)) answered
answered_like limit f h t (call.EventDestroy x) a faces cores answered = answered
answered_like limit f h t (call.Satisfy e p slot) a faces cores answered = answered
answered_like limit f h t (call.AddDependence from x i m) a faces cores answered = answered
answered_like limit f h t other a faces cores answered = absurd answered

delivered_like : (w : What) (c : Code) (f h : Parts) → ((g : ℕ) → is_brought_to w g ≡ true → f.face g ≡ h.face g) → IsDeliverOn f w c → IsDeliverOn h w c
delivered_like (what.Set x i p) c f h faces legal = legal
delivered_like (what.Satisfy e i p) c f h faces legal = subst (λ (x : Part). IsSatisfiable i x × (c ≡ delivery_code x p)) (faces e (same e)) legal
delivered_like (what.Leave x) c f h faces legal = subst (λ (y : Part). HasMember y × (c ≡ code.Done)) (faces x (same x)) legal

-- what is made beside an EDT, and the home that it joins
pub named_self : (n : ℕ) → (n == 0) ≡ false → names_new n n ≡ true
named_self n some = rw (some, same n) refl

on_scope : (x y z : Bool) → ((x || (true || y)) || z) ≡ true
on_scope x y z = rw (or-true x) refl

on_output : (x y z : Bool) → ((x || (y || true)) || z) ≡ true
on_output x y z = rw (or-true y, or-true x) refl

not_none : (n : ℕ) → 1 ≤ n → (n == 0) ≡ false
not_none n some = grind (arith, common_steps)

beside_like : (on : Bool) (limit : ℕ) (f h : Parts) (other n : ℕ) → ((n == 0) ≡ false → f.face n ≡ h.face n) → IsBeside on limit f other n → IsBeside on limit h other n
beside_like true limit f h other n alike beside = (
  record { some = beside.0.some; within = beside.0.within; vacant = sym (alike (not_none n beside.0.some)) ∙ beside.0.vacant },
  beside.1,
)
beside_like false limit f h other n alike beside = beside

scope_like : (limit : ℕ) (f h : Parts) (t home : ℕ) (c : body.Call) (a : Answer) (w : List (ℕ × ℕ)) → ((g : ℕ) → on_face (Call t home c a w) g ≡ true → f.face g ≡ h.face g) → IsScoped limit f c a → IsScoped limit h c a
scope_like limit f h t home (call.EdtCreate from pc params dc deps flags output) a w faces scope =
    beside_like (is_done a.code && (flags == 1)) limit f h a.value a.scope (λ some. faces a.scope (rw (named_self a.scope some) (on_scope _ (names_new a.output a.scope) _))) scope
scope_like limit f h t home other a w faces scope = scope

output_like : (limit : ℕ) (f h : Parts) (t home : ℕ) (c : body.Call) (a : Answer) (w : List (ℕ × ℕ)) → ((g : ℕ) → on_face (Call t home c a w) g ≡ true → f.face g ≡ h.face g) → HasOutput limit f c a → HasOutput limit h c a
output_like limit f h t home (call.EdtCreate from pc params dc deps flags output) a w faces has =
    beside_like (is_done a.code && output) limit f h (last_of a) a.output (λ some. faces a.output (rw (named_self a.output some) (on_output _ _ _))) has
output_like limit f h t home other a w faces has = has

home_like : (f h : Parts) (t home : ℕ) (c : body.Call) (a : Answer) (w : List (ℕ × ℕ)) → ((g : ℕ) → on_face (Call t home c a w) g ≡ true → f.face g ≡ h.face g) → IsLike (f.core t) (h.core t) → IsHome f t home c a → IsHome h t home c a
home_like f h t home (call.EdtCreate from pc params dc deps flags output) a w faces like at = record {
  own = at.own ∙ like.home;
  joinable = λ done some. subst IsJoinable (faces home (rw (named_self home some) refl)) (at.joinable done some);
}
home_like f h t home other a w faces like at = at

legal_like : (limit : ℕ) (e : Entry) (f h : Parts) → ((g : ℕ) → on_face e g ≡ true → f.face g ≡ h.face g) → ((u : ℕ) → on_core_of e u ≡ true → IsLike (f.core u) (h.core u))
    → IsLegalOn limit f e → IsLegalOn limit h e
legal_like limit (Call t home c a w) f h faces cores legal = record {
  running = ap (λ (o : Option Work). is_some o) (sym (cores t (left t (makes_core c && (a.value == t)))).work) ∙ legal.running;
  code = legal.code ∙ code_law t home c a w f.face h.face faces;
  value = answered_like limit f h t c a (λ g on. faces g (call_named t home c a w g on)) cores legal.value;
  scope = scope_like limit f h t home c a w faces legal.scope;
  output = output_like limit f h t home c a w faces legal.output;
  at_home = home_like f h t home c a w faces (cores t (left t (makes_core c && (a.value == t)))) legal.at_home;
}
legal_like limit (Acquire t d) f h faces cores legal = record {
  next = subst (λ (o : Option Progress). next_in o ≡ Some (d, mode_next (next_in o))) (cores t (same t)).progress legal.next;
  taken = subst (λ (o : Option Progress). IsBlock (h.face d) (IsTaken t (mode_next (next_in o)))) (cores t (same t)).progress
      (subst (λ (x : Part). IsBlock x (IsTaken t (mode_next (next_on f t)))) (faces d (right d (t == d))) legal.taken);
}
legal_like limit (Wait t d) f h faces cores legal = record {
  next = subst (λ (o : Option Progress). next_in o ≡ Some (d, mode_next (next_in o))) (cores t (same t)).progress legal.next;
  acquiring = sym (cores t (same t)).acquiring ∙ legal.acquiring;
  refused = subst (λ (o : Option Progress). IsBlock (h.face d) (IsRefused t (mode_next (next_in o)))) (cores t (same t)).progress
      (subst (λ (x : Part). IsBlock x (IsRefused t (mode_next (next_on f t)))) (faces d (right d (t == d))) legal.refused);
}
legal_like limit (StaleAcquire t d) f h faces cores legal = record {
  next = subst (λ (o : Option Progress). next_in o ≡ Some (d, mode_next (next_in o))) (cores t (same t)).progress legal.next;
  gone = subst (λ (x : Part). IsBlock x (λ st. block.is_gone st ≡ true)) (faces d (right d (t == d))) legal.gone;
}
legal_like limit (Start t) f h faces cores legal = record {
  acquiring = sym (cores t (same t)).acquiring ∙ legal.acquiring;
  through = subst (λ (o : Option Progress). next_in o ≡ None) (cores t (same t)).progress legal.through;
}
legal_like limit (Free t d w) f h faces cores legal = record {
  running = ap (λ (o : Option Work). is_some o) (sym (cores t (same t)).work) ∙ legal.running;
  least = ap (λ (o : Option Work). least_of (holds_of o)) (sym (cores t (same t)).work) ∙ legal.least;
  held = ending_like f h t d (faces d (same d)) (cores t (same t)) legal.held;
}
legal_like limit (End t g) f h faces cores legal = record {
  running = ap (λ (o : Option Work). is_some o) (sym (cores t (same t)).work) ∙ legal.running;
  nothing_held = ap (λ (o : Option Work). holds_of o) (sym (cores t (same t)).work) ∙ legal.nothing_held;
}
legal_like limit (Deliver m c) f h faces cores legal = delivered_like m.what c f h faces legal
legal_like limit (Stop why) f h faces cores legal = tt

pub legality_law : LegalityLaw
legality_law limit e f h alike legal = legal_like limit e f h alike.faces (λ u on. like_same (f.core u) (h.core u) (alike.cores u on)) legal

-- what was stored in loans is no matter to legality
back_loan : (t : ℕ) (l : Option Loan) (st : block.State) → (IsLoanBack t l st → IsLoanBack t (settled_loan l) st) × (IsLoanBack t (settled_loan l) st → IsLoanBack t l st)
back_loan t None st = (λ b. b, λ b. b)
back_loan t (Some l) st = (λ b. record { lent = b.lent; size = b.size }, λ b. record { lent = b.lent; size = b.size })

back_settled : (t d : ℕ) (loans : List (ℕ × Kept)) (st : block.State)
    → (IsLoanBack t (loan_in (kept_in d loans)) st → IsLoanBack t (loan_in (kept_in d (settled_loans loans))) st) × (IsLoanBack t (loan_in (kept_in d (settled_loans loans))) st → IsLoanBack t (loan_in (kept_in d loans)) st)
back_settled t d [] st = (λ b. b, λ b. b)
back_settled t d (one ∷ rest) st =
    let now : Kept = record { size = one.1.size; loan = settled_loan one.1.loan } in
    elim (one.0 == d) as (λ x. (IsLoanBack t (loan_in (if x then Some one.1 else kept_in d rest)) st → IsLoanBack t (loan_in (if x then Some now else kept_in d (settled_loans rest))) st)
    × (IsLoanBack t (loan_in (if x then Some now else kept_in d (settled_loans rest))) st → IsLoanBack t (loan_in (if x then Some one.1 else kept_in d rest)) st)) [
      | true ↦ back_loan t one.1.loan st
      | false ↦ back_settled t d rest st
    ]

like_settled : (x : Part) → IsLike x (settled x)
like_settled (part.Core c) = record { work = refl; progress = refl; acquiring = refl; vacant = λ v. cc v; home = refl; back = λ t d st. (back_settled t d c.loans st).0 }
like_settled other = like_same _ _ refl

settled_like : (x : Part) → IsLike (settled x) x
settled_like (part.Core c) = record { work = refl; progress = refl; acquiring = refl; vacant = λ v. cc v; home = refl; back = λ t d st. (back_settled t d c.loans st).1 }
settled_like other = like_same _ _ refl

pub settled_legal_law : SettledLegalLaw
settled_legal_law limit e f = (
  legal_like limit e f (settled_parts f) (λ g on. refl) (λ u on. like_settled (f.core u)),
  legal_like limit e (settled_parts f) f (λ g on. refl) (λ u on. settled_like (f.core u)),
)
