-- Who an EDT is: its home is a finish scope that was made, and its output an event, where it has one. So
-- are what a scope leaves and what it satisfies when it is done.
use Rattle.std.proofs.Common.{◌≡◌, ◌⊎◌, inl, inr, ℕ, ◌<◌, List, [], ◌∷◌, Bool, true, false, not, ◌&&◌, ◌==◌, if◌then◌else◌, Option, Some, None, refl, sym, ap, subst, arith}
use Rattle.std.proofs.lemmas.Bool.{eqb-true, and_parts}
use Rattle.ocr_edt.specs.declared.Identity.{Identity}
use Rattle.ocr_edt.specs.Edt as edt
use Rattle.ocr_body_meaning.specs.Holds.{is_done}
use Rattle.ocr_body_meaning.specs.declared.call.Call.TheVariants as call
use Rattle.ocr_body_meaning.specs.declared.call.Answer.{Answer}
use Rattle.ocr_machine_history.specs.declared.entry.Entry.TheVariants.{Call}
use Rattle.ocr_machine_history.specs.declared.objects.TheConstants.{ARGUMENTS, MAIN_EDT, OUTPUT_KIND, OUTPUT_FLAGS}
use Rattle.ocr_machine_history.specs.History.{History, Setting}
use Rattle.ocr_machine_history.specs.Made.{Made, MadeTemplate, MadeEdt, MadeEvent, MadeScope, makes, names_new, edt_from, made}
use Rattle.ocr_machine_parts.specs.declared.loans.Kept.{Kept}
use Rattle.ocr_machine_parts.specs.Calls.{link_calls, block_calls, edt_calls, event_calls, scope_calls, loans_of}
use Rattle.ocr_machine_parts.specs.Parts.{Parts, face, core, parts_of, new_identity, identity_of}
use Rattle.ocr_machine_parts.specs.Kinds.{is_scope, identity_on, home_on}
use Rattle.ocr_machine_parts.specs.LegalOn.{IsSatisfiable, IsBeside, last_of, IsCallOn}
use Rattle.ocr_machine_parts.specs.Legal.{IsRun}
use Rattle.ocr_machine_parts.proofs.Beside.{beside_is, below_last, scope_below}
use Rattle.ocr_machine_parts.proofs.Phases.{identity_is}
use Rattle.ocr_machine_laws.proofs.Quietness.{Faces, AreLasting, lasts}
use Rattle.ocr_base.proofs.Booleans.{same}

-- NULL_GUID, or a finish scope that was made
abbrev pub NamesScope : Faces → ℕ → Type 0
NamesScope f n = (n ≡ 0) ⊎ (is_scope (f n) ≡ true)

-- NULL_GUID, or an event that was made
abbrev pub NamesEvent : Faces → ℕ → Type 0
NamesEvent f n = (n ≡ 0) ⊎ IsSatisfiable 0 (f n)

pub record IsSoundIdentity (f : Faces) (i : Identity) : Type 0 where
  pub home : NamesScope f i.scope
  pub output : NamesEvent f i.output

-- a scope leaves such a scope, and satisfies such an event
abbrev pub IsSoundScope : Faces → Option Made → Type 0
IsSoundScope f (Some (MadeScope outer event)) = NamesScope f outer × NamesEvent f event
IsSoundScope f other = Unit {0}

-- what is so stays so
pub scope_lasts : (f h : Faces) → AreLasting f h → (n : ℕ) → NamesScope f n → NamesScope h n
scope_lasts f h last n (inl null) = inl null
scope_lasts f h last n (inr is) = inr ((last n).scope is)

pub event_lasts : (f h : Faces) → AreLasting f h → (n : ℕ) → NamesEvent f n → NamesEvent h n
event_lasts f h last n (inl null) = inl null
event_lasts f h last n (inr is) = inr ((last n).slots 0 is)

identity_lasts : (f h : Faces) → AreLasting f h → (i : Identity) → IsSoundIdentity f i → IsSoundIdentity h i
identity_lasts f h last i is = record { home = scope_lasts f h last i.scope is.home; output = event_lasts f h last i.output is.output }

made_lasts : (f h : Faces) → AreLasting f h → (m : Option Made) → IsSoundScope f m → IsSoundScope h m
made_lasts f h last (Some (MadeScope outer event)) is = (scope_lasts f h last outer is.0, event_lasts f h last event is.1)
made_lasts f h last other is = tt

-- WHAT IS MADE BESIDE AN EDT: its scope and its output event, each under its own number
beside_on : (on : Bool) (limit : ℕ) (f : Parts) (other n : ℕ) → IsBeside on limit f other n → (n == 0) ≡ false → on ≡ true
beside_on true limit f other n beside some = refl
beside_on false limit f other n beside some = let none : (n == 0) ≡ true = rw beside refl in absurd (cc (none, some))

not_equal : (n g : ℕ) → n < g → (n == g) ≡ false
not_equal n g less = elim (n == g) as (λ b. (n == g) ≡ b → b ≡ false) [ true ↦ λ same. absurd (omega (arith, less, eqb-true n g same)) | false ↦ λ _. refl ] refl

names_apart : (n g : ℕ) → ((n == 0) ≡ false → n < g) → names_new n g ≡ false
names_apart n g below = elim (n == 0) as (λ b. (b ≡ false → n < g) → (not b && (n == g)) ≡ false) [ true ↦ λ _. refl | false ↦ λ below. not_equal n g (below refl) ] below

module _ (s : Setting) (past : History) (by home from pc dc fl : ℕ) (ps ds : List ℕ) (o : Bool) (a : Answer) (w : List (ℕ × ℕ)) (legal : IsCallOn s.limit (parts_of s past) by home (call.EdtCreate from pc ps dc ds fl o) a w) where
  above_edt : (a.scope == 0) ≡ false → a.value < a.scope
  above_edt some = (beside_is (is_done a.code && (fl == 1)) s.limit (parts_of s past) a.value a.scope legal.scope some).1

  above_last : (a.output == 0) ≡ false → last_of a < a.output
  above_last some = (beside_is (is_done a.code && o) s.limit (parts_of s past) (last_of a) a.output legal.output some).1

  pub scope_made : (a.scope == 0) ≡ false → made s (Call by home (call.EdtCreate from pc ps dc ds fl o) a w ∷ past) a.scope ≡ Some (MadeScope home a.output)
  scope_made some =
      let done : is_done a.code ≡ true = (and_parts (is_done a.code) (fl == 1) (beside_on _ s.limit (parts_of s past) a.value a.scope legal.scope some)).0 in
      rw (done, not_equal a.value a.scope (above_edt some), some, same a.scope) refl

  pub output_made : (a.output == 0) ≡ false → made s (Call by home (call.EdtCreate from pc ps dc ds fl o) a w ∷ past) a.output ≡ Some (MadeEvent OUTPUT_KIND OUTPUT_FLAGS 0)
  output_made some =
      let done : is_done a.code ≡ true = (and_parts (is_done a.code) o (beside_on _ s.limit (parts_of s past) (last_of a) a.output legal.output some)).0 in
      let edt : (a.value == a.output) ≡ false = not_equal a.value a.output (below_last a above_edt a.output (above_last some)) in
      let apart : names_new a.scope a.output ≡ false = names_apart a.scope a.output (λ more. scope_below a a.output more (above_last some)) in
      rw (done, edt, apart, some, same a.output) refl

  abbrev now : History
  now = Call by home (call.EdtCreate from pc ps dc ds fl o) a w ∷ past

  pub names_scope : NamesScope (parts_of s (Call by home (call.EdtCreate from pc ps dc ds fl o) a w ∷ past)).face a.scope
  names_scope = elim (a.scope == 0) as (λ b. (a.scope == 0) ≡ b → NamesScope (parts_of s (Call by home (call.EdtCreate from pc ps dc ds fl o) a w ∷ past)).face a.scope) [
    | true ↦ λ none. inl (eqb-true a.scope 0 none)
    | false ↦ λ some. inr (ap (λ (m : Option Made). is_scope (face m (link_calls now a.scope) (block_calls s now a.scope) (event_calls s now a.scope) (scope_calls now a.scope))) (scope_made some))
  ] refl

  pub names_output : NamesEvent (parts_of s (Call by home (call.EdtCreate from pc ps dc ds fl o) a w ∷ past)).face a.output
  names_output = elim (a.output == 0) as (λ b. (a.output == 0) ≡ b → NamesEvent (parts_of s (Call by home (call.EdtCreate from pc ps dc ds fl o) a w ∷ past)).face a.output) [
    | true ↦ λ none. inl (eqb-true a.output 0 none)
    | false ↦ λ some. inr (subst (λ (m : Option Made). IsSatisfiable 0 (face m (link_calls now a.output) (block_calls s now a.output) (event_calls s now a.output) (scope_calls now a.output))) (sym (output_made some)) (omega arith))
  ] refl

-- WHO IS WHO after each run
core_sound : (f : Faces) (m : Option Made) (i : Identity) (calls : List edt.EdtCall) (loans : List (ℕ × Kept)) → IsSoundIdentity f i → IsSoundIdentity f (identity_on (core m i calls loans))
core_sound f (Some (MadeEdt g ps n)) i calls loans is = subst (IsSoundIdentity f) (sym (identity_is (Some (MadeEdt g ps n)) i calls loans refl)) is
core_sound f other i calls loans is = record { home = inl refl; output = inl refl }

identity_if : (f : Faces) (b : Bool) (i k : Identity) → IsSoundIdentity f i → IsSoundIdentity f k → IsSoundIdentity f (if b then i else k)
identity_if f true i k one other = one
identity_if f false i k one other = other

new_home : (f : Faces) (b : Bool) (own home : ℕ) → NamesScope f own → NamesScope f home → NamesScope f (if b then own else home)
new_home f true own home one other = one
new_home f false own home one other = other

pub identity_law : (s : Setting) (past : History) → IsRun s past → (t : ℕ) → IsSoundIdentity (parts_of s past).face (identity_of past t)
identity_law s [] run t = record { home = inl refl; output = inl refl }
identity_law s (Call by home (call.EdtCreate from pc ps dc ds fl o) a w ∷ past) run t =
    let f : Faces = (parts_of s past).face in
    let h : Faces = (parts_of s (Call by home (call.EdtCreate from pc ps dc ds fl o) a w ∷ past)).face in
    let last : AreLasting f h = lasts s past (Call by home (call.EdtCreate from pc ps dc ds fl o) a w) run.1 in
    let own : NamesScope h a.scope = names_scope s past by home from pc dc fl ps ds o a w run.1.on_parts in
    let output : NamesEvent h a.output = names_output s past by home from pc dc fl ps ds o a w run.1.on_parts in
    let maker : NamesScope f (home_on ((parts_of s past).core by)) = (core_sound f (made s past by) (identity_of past by) (edt_calls s past by) (loans_of s past by) (identity_law s past run.0 by)).home in
    let joined : NamesScope h home = scope_lasts f h last home (subst (NamesScope f) (sym run.1.on_parts.at_home.own) maker) in
    identity_if h (makes a t) (new_identity t fl a home) (identity_of past t) (record { home = new_home h (fl == 1) a.scope home own joined; output = output })
    (identity_lasts f h last (identity_of past t) (identity_law s past run.0 t))
identity_law s (e ∷ past) run t = identity_lasts (parts_of s past).face (parts_of s (e ∷ past)).face (lasts s past e run.1) (identity_of past t) (identity_law s past run.0 t)

-- as the core tells it
pub core_identity : (s : Setting) (past : History) → IsRun s past → (t : ℕ) → IsSoundIdentity (parts_of s past).face (identity_on ((parts_of s past).core t))
core_identity s past run t = core_sound (parts_of s past).face (made s past t) (identity_of past t) (edt_calls s past t) (loans_of s past t) (identity_law s past run t)

-- SCOPES
scope_if : (f : Faces) (b : Bool) (m n : Option Made) → IsSoundScope f m → IsSoundScope f n → IsSoundScope f (if b then m else n)
scope_if f true m n one other = one
scope_if f false m n one other = other

edt_scope : (f : Faces) (m : Option Made) (ps : List ℕ) (dc : ℕ) → IsSoundScope f (edt_from m ps dc)
edt_scope f (Some (MadeTemplate g pc own)) ps dc = tt
edt_scope f other ps dc = tt

pub scope_law : (s : Setting) (past : History) → IsRun s past → (g : ℕ) → IsSoundScope (parts_of s past).face (made s past g)
scope_law s [] run g = scope_if (parts_of s []).face (g == ARGUMENTS) _ _ tt (scope_if (parts_of s []).face (g == MAIN_EDT) _ None tt tt)
scope_law s (Call by home (call.DbCreate n fl) a w ∷ past) run g =
    scope_if _ (makes a g) _ _ tt (made_lasts _ _ (lasts s past (Call by home (call.DbCreate n fl) a w) run.1) (made s past g) (scope_law s past run.0 g))
scope_law s (Call by home (call.TemplateCreate f pc dc) a w ∷ past) run g =
    scope_if _ (makes a g) _ _ tt (made_lasts _ _ (lasts s past (Call by home (call.TemplateCreate f pc dc) a w) run.1) (made s past g) (scope_law s past run.0 g))
scope_law s (Call by home (call.EventCreate k fl) a w ∷ past) run g =
    scope_if _ (makes a g) _ _ tt (made_lasts _ _ (lasts s past (Call by home (call.EventCreate k fl) a w) run.1) (made s past g) (scope_law s past run.0 g))
scope_law s (Call by home (call.EventCreateParams k fl most sats deps) a w ∷ past) run g =
    scope_if _ (makes a g) _ _ tt (made_lasts _ _ (lasts s past (Call by home (call.EventCreateParams k fl most sats deps) a w) run.1) (made s past g) (scope_law s past run.0 g))
scope_law s (Call by home (call.EdtCreate from pc ps dc ds fl o) a w ∷ past) run g =
    let f : Faces = (parts_of s past).face in
    let h : Faces = (parts_of s (Call by home (call.EdtCreate from pc ps dc ds fl o) a w ∷ past)).face in
    let last : AreLasting f h = lasts s past (Call by home (call.EdtCreate from pc ps dc ds fl o) a w) run.1 in
    let output : NamesEvent h a.output = names_output s past by home from pc dc fl ps ds o a w run.1.on_parts in
    let joined : NamesScope h home = scope_lasts f h last home (subst (NamesScope f) (sym run.1.on_parts.at_home.own) (core_identity s past run.0 by).home) in
    scope_if h (makes a g) (edt_from (made s past from) ps dc) _ (edt_scope h (made s past from) ps dc)
    (scope_if h (is_done a.code && names_new a.scope g) (Some (MadeScope home a.output)) _ (joined, output)
    (scope_if h (is_done a.code && names_new a.output g) (Some (MadeEvent OUTPUT_KIND OUTPUT_FLAGS 0)) (made s past g) tt
    (made_lasts f h last (made s past g) (scope_law s past run.0 g))))
scope_law s (e ∷ past) run g = made_lasts (parts_of s past).face (parts_of s (e ∷ past)).face (lasts s past e run.1) (made s past g) (scope_law s past run.0 g)
