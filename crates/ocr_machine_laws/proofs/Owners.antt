-- Whose output event an event is, and what lasts of that.
use Rattle.std.proofs.Common.{◌≡◌, ℕ, List, [], ◌∷◌, Bool, true, false, ◌&&◌, ◌||◌, ◌==◌, if◌then◌else◌, Option, Some, None, refl, ◌∙◌, ap, subst}
use Rattle.std.proofs.lemmas.Bool.{eqb-true, or_parts, and_parts}
use Rattle.ocr_base.proofs.Booleans.{same, and_false}
use Rattle.ocr_edt.specs.declared.Identity.{Identity}
use Rattle.ocr_body_meaning.specs.Holds.{is_done}
use Rattle.ocr_body_meaning.specs.declared.call.Call.TheVariants as call
use Rattle.ocr_body_meaning.specs.declared.call.Answer.{Answer}
use Rattle.ocr_machine_history.specs.declared.entry.Entry.{Entry}
use Rattle.ocr_machine_history.specs.declared.entry.Entry.TheVariants.{Call}
use Rattle.ocr_machine_history.specs.declared.objects.TheConstants.{OUTPUT_KIND, OUTPUT_FLAGS, ARGUMENTS, MAIN_EDT}
use Rattle.ocr_machine_history.specs.History.{History, Setting}
use Rattle.ocr_machine_history.specs.Made.{Made, MadeTemplate, MadeEvent, MadeScope, made, makes, edt_from, made_beside, names_new, is_edt}
use Rattle.ocr_machine_parts.specs.Parts.{plain_identity, new_identity, identity_of, parts_of}
use Rattle.ocr_machine_parts.specs.LegalOn.{IsFresh, IsBeside, IsCallOn}
use Rattle.ocr_machine_parts.specs.Legal.{IsRun, IsLegal}
use Rattle.ocr_machine_parts.proofs.Fresh.{some_named, number_named, beside_fresh}
use Rattle.ocr_machine_parts.proofs.Within.{made_none}
use Rattle.ocr_machine_laws.proofs.Edts.{edts_law}
use Rattle.ocr_machine_laws.proofs.Homes.{scope_made, output_made}
use Rattle.ocr_machine_laws.proofs.Permanence.{made_law, edt_not_new}
use Rattle.ocr_machine_laws.proofs.Members.{none_gone}
use Rattle.ocr_machine_laws.specs.Outputs.{IdentityLaw}

-- who it is whose output event this is
abbrev pub owner : History → ℕ → Option Identity
owner [] o = None
owner (Call u home (call.EdtCreate from pc ps dc ds fl out) a w ∷ past) o =
    if is_done a.code && names_new a.output o then Some (new_identity a.value fl a home) else owner past o
owner (e ∷ past) o = owner past o

abbrev identity_in : Option Identity → Identity
identity_in None = plain_identity 0
identity_in (Some i) = i

pub one_identity : (i k : Identity) → Some i ≡ Some k → i ≡ k
one_identity i k is = ap identity_in is

-- it is an EDT that was made so, with the event, and with its scope where it is a finish EDT
pub record IsOwner (s : Setting) (past : History) (o : ℕ) (i : Identity) : Type 0 where
  pub names : names_new i.output o ≡ true
  pub edt : is_edt past i.edt ≡ true
  pub who : identity_of past i.edt ≡ i
  pub event : made s past o ≡ Some (MadeEvent OUTPUT_KIND OUTPUT_FLAGS 0)
  pub scope : i.finish ≡ true → (outer : ℕ) × (made s past i.scope ≡ Some (MadeScope outer o))

-- WHO AN EDT IS lasts
edt_lasts : (past : History) (e : Entry) (t : ℕ) → is_edt past t ≡ true → is_edt (e ∷ past) t ≡ true
edt_lasts past (Call u home (call.EdtCreate from pc ps dc ds fl out) a w) t is = or_on (makes a t) (is_edt past t) is
  where
    or_on : (b c : Bool) → c ≡ true → (b || c) ≡ true
    or_on true c is = refl
    or_on false c is = is
edt_lasts past other t is = is

pub who_lasts : IdentityLaw
who_lasts s past (Call u home (call.EdtCreate from pc ps dc ds fl out) a w) t run legal is =
    let old = edt_not_new s past u home (call.EdtCreate from pc ps dc ds fl out) a w t legal.on_parts (edts_law s past run t ∙ is) in
    ap (λ (b : Bool). if b then new_identity t fl a home else identity_of past t) (or_parts _ (makes a t) old).1
who_lasts s past other t run legal is = refl

owner_lasts : (s : Setting) (past : History) (e : Entry) (o : ℕ) (i : Identity) → IsRun s past → IsLegal s past e → IsOwner s past o i → IsOwner s (e ∷ past) o i
owner_lasts s past e o i run legal is = record {
  names = is.names;
  edt = edt_lasts past e i.edt is.edt;
  who = who_lasts s past e i.edt run legal is.edt ∙ is.who;
  event = made_law s past e o _ legal is.event;
  scope = λ finish. let found = is.scope finish in (found.0, made_law s past e i.scope _ legal found.1);
}

-- AN EDT IS MADE with its output event
module _ (s : Setting) (past : History) (u home from pc dc fl : ℕ) (ps ds : List ℕ) (out : Bool) (a : Answer) (w : List (ℕ × ℕ)) (legal : IsCallOn s.limit (parts_of s past) u home (call.EdtCreate from pc ps dc ds fl out) a w) where
  abbrev now : History
  now = Call u home (call.EdtCreate from pc ps dc ds fl out) a w ∷ past

  pub makes_own : is_done a.code ≡ true → makes a a.value ≡ true
  makes_own on = rw (on, same a.value) refl

  -- a finish EDT has a scope, and another has none
  pub scope_fresh : is_done a.code ≡ true → (fl == 1) ≡ true → IsFresh s.limit (parts_of s past) a.scope
  scope_fresh on is =
      let both : (is_done a.code && (fl == 1)) ≡ true = rw (on, is) refl in
      (subst (λ (b : Bool). IsBeside b s.limit (parts_of s past) a.value a.scope) both legal.scope).0

  pub no_scope : (fl == 1) ≡ false → a.scope ≡ 0
  no_scope off =
      let none : (is_done a.code && (fl == 1)) ≡ false = rw (off, and_false (is_done a.code)) refl in
      subst (λ (b : Bool). IsBeside b s.limit (parts_of s past) a.value a.scope) none legal.scope

  -- the event has a fresh number
  pub output_fresh : (o : ℕ) → names_new a.output o ≡ true → made s past o ≡ None
  output_fresh o names = made_none s past o (beside_fresh _ s.limit (parts_of s past) _ a.output o legal.output names).vacant

  new_owner : (o : ℕ) → is_done a.code ≡ true → names_new a.output o ≡ true → IsOwner s (Call u home (call.EdtCreate from pc ps dc ds fl out) a w ∷ past) o (new_identity a.value fl a home)
  new_owner o on names = record {
    names = names;
    edt = ap (λ (b : Bool). b || is_edt past a.value) (makes_own on);
    who = ap (λ (b : Bool). if b then new_identity a.value fl a home else identity_of past a.value) (makes_own on);
    event = subst (λ (n : ℕ). made s (Call u home (call.EdtCreate from pc ps dc ds fl out) a w ∷ past) n ≡ Some (MadeEvent OUTPUT_KIND OUTPUT_FLAGS 0)) (number_named a.output o names)
        (output_made s past u home from pc dc fl ps ds out a w legal (some_named a.output o names));
    scope = λ finish.
        let fresh = scope_fresh on finish in
        let own : (if fl == 1 then a.scope else home) ≡ a.scope = ap (λ (b : Bool). if b then a.scope else home) finish in
        let there = scope_made s past u home from pc dc fl ps ds out a w legal (none_gone a.scope fresh.some) in
        (home, ap (λ (n : ℕ). made s (Call u home (call.EdtCreate from pc ps dc ds fl out) a w ∷ past) n) own ∙ there ∙ ap (λ (n : ℕ). Some (MadeScope home n)) (number_named a.output o names));
  }

pub owner_law : (s : Setting) (past : History) (o : ℕ) (i : Identity) → IsRun s past → owner past o ≡ Some i → IsOwner s past o i
owner_law s [] o i run is = cc is
owner_law s (Call u home (call.EdtCreate from pc ps dc ds fl out) a w ∷ past) o i run is =
    elim (is_done a.code && names_new a.output o) as (λ b. (is_done a.code && names_new a.output o) ≡ b → (if b then Some (new_identity a.value fl a home) else owner past o) ≡ Some i → IsOwner s (Call u home (call.EdtCreate from pc ps dc ds fl out) a w ∷ past) o i) [
      | true ↦ λ new is.
          let both = and_parts (is_done a.code) (names_new a.output o) new in
          subst (IsOwner s (Call u home (call.EdtCreate from pc ps dc ds fl out) a w ∷ past) o) (one_identity (new_identity a.value fl a home) i is)
          (new_owner s past u home from pc dc fl ps ds out a w run.1.on_parts o both.0 both.1)
      | false ↦ λ old is. owner_lasts s past (Call u home (call.EdtCreate from pc ps dc ds fl out) a w) o i run.0 run.1 (owner_law s past o i run.0 is)
    ] refl is
owner_law s (e ∷ past) o i run is = owner_lasts s past e o i run.0 run.1 (owner_law s past o i run.0 is)

-- so an event that was not made is nobody's
pub not_owned : (s : Setting) (past : History) (o : ℕ) → IsRun s past → made s past o ≡ None → owner past o ≡ None
not_owned s past o run none = elim (owner past o) as (λ x. owner past o ≡ x → x ≡ None) [
  | None ↦ λ _. refl
  | Some i ↦ λ is. absurd (let event = (owner_law s past o i run is).event in cc (none, event))
] refl

-- THE NUMBER of an EDT in its identity
pub number_is : (past : History) (t : ℕ) → (identity_of past t).edt ≡ t
number_is [] t = refl
number_is (Call u home (call.EdtCreate from pc ps dc ds fl out) a w ∷ past) t = elim (makes a t) as (λ b. (if b then new_identity t fl a home else identity_of past t).edt ≡ t) [ true ↦ refl | false ↦ number_is past t ]
number_is (e ∷ past) t = number_is past t

-- a finish EDT has a scope of its own
pub finish_home : (s : Setting) (past : History) (t : ℕ) → IsRun s past → (identity_of past t).finish ≡ true → ((identity_of past t).scope == 0) ≡ false
finish_home s [] t run is = cc is
finish_home s (Call u home (call.EdtCreate from pc ps dc ds fl out) a w ∷ past) t run is =
    elim (makes a t) as (λ b. makes a t ≡ b → (if b then new_identity t fl a home else identity_of past t).finish ≡ true → ((if b then new_identity t fl a home else identity_of past t).scope == 0) ≡ false) [
      | true ↦ λ new finish.
          let fresh = scope_fresh s past u home from pc dc fl ps ds out a w run.1.on_parts (and_parts (is_done a.code) (a.value == t) new).0 finish in
          ap (λ (b : Bool). (if b then a.scope else home) == 0) finish ∙ none_gone a.scope fresh.some
      | false ↦ λ old finish. finish_home s past t run.0 finish
    ] refl is
finish_home s (e ∷ past) t run is = finish_home s past t run.0 is

-- WHO HAS THE EVENT as its output event
-- it is owned already, and so is not made anew
still_owned : (s : Setting) (past : History) (u home from pc dc fl : ℕ) (ps ds : List ℕ) (out : Bool) (a : Answer) (w : List (ℕ × ℕ)) (o : ℕ) (i : Identity) → IsRun s past
    → IsCallOn s.limit (parts_of s past) u home (call.EdtCreate from pc ps dc ds fl out) a w
    → owner past o ≡ Some i → owner (Call u home (call.EdtCreate from pc ps dc ds fl out) a w ∷ past) o ≡ Some i
still_owned s past u home from pc dc fl ps ds out a w o i run legal is =
    elim (is_done a.code && names_new a.output o) as (λ b. (is_done a.code && names_new a.output o) ≡ b → (if b then Some (new_identity a.value fl a home) else owner past o) ≡ Some i) [
      | true ↦ λ new. absurd (
          let none = output_fresh s past u home from pc dc fl ps ds out a w legal o (and_parts (is_done a.code) (names_new a.output o) new).1 in
          let event = (owner_law s past o i run is).event in
          cc (none, event))
      | false ↦ λ old. is
    ] refl

no_output : (t o : ℕ) → names_new (plain_identity t).output o ≡ true → ⊥
no_output t o is = cc is

pub has_owner : (s : Setting) (past : History) (t o : ℕ) → IsRun s past → names_new (identity_of past t).output o ≡ true → owner past o ≡ Some (identity_of past t)
has_owner s [] t o run is = absurd (no_output t o is)
has_owner s (Call u home (call.EdtCreate from pc ps dc ds fl out) a w ∷ past) t o run is =
    elim (makes a t) as (λ b. makes a t ≡ b → names_new (if b then new_identity t fl a home else identity_of past t).output o ≡ true
    → owner (Call u home (call.EdtCreate from pc ps dc ds fl out) a w ∷ past) o ≡ Some (if b then new_identity t fl a home else identity_of past t)) [
      | true ↦ λ new is.
          let both = and_parts (is_done a.code) (a.value == t) new in
          let on : (is_done a.code && names_new a.output o) ≡ true = rw (both.0, is) refl in
          ap (λ (b : Bool). if b then Some (new_identity a.value fl a home) else owner past o) on ∙ ap (λ (n : ℕ). Some (new_identity n fl a home)) (eqb-true a.value t both.1)
      | false ↦ λ old is. still_owned s past u home from pc dc fl ps ds out a w o (identity_of past t) run.0 run.1.on_parts (has_owner s past t o run.0 is)
    ] refl is
has_owner s (e ∷ past) t o run is = has_owner s past t o run.0 is

-- A SCOPE that satisfies the event is that of its owner
pub record IsOwnScope (past : History) (o x : ℕ) : Type 0 where
  pub who : Identity
  pub owns : owner past o ≡ Some who
  pub finish : who.finish ≡ true
  pub scope : who.scope ≡ x

abbrev IsScopeOf : History → ℕ → ℕ → Option Made → Type 0
IsScopeOf past o x (Some (MadeScope outer event)) = names_new event o ≡ true → IsOwnScope past o x
IsScopeOf past o x other = Unit {0}

scope_if : (past : History) (o x : ℕ) (b : Bool) (m n : Option Made) → (b ≡ true → IsScopeOf past o x m) → IsScopeOf past o x n → IsScopeOf past o x (if b then m else n)
scope_if past o x true m n one other = one refl
scope_if past o x false m n one other = other

edt_scope : (past : History) (o x : ℕ) (m : Option Made) (ps : List ℕ) (dc : ℕ) → IsScopeOf past o x (edt_from m ps dc)
edt_scope past o x (Some (MadeTemplate g pc own)) ps dc = tt
edt_scope past o x other ps dc = tt

scope_stays : (before after : History) (o x : ℕ) (m : Option Made) → (IsOwnScope before o x → IsOwnScope after o x) → IsScopeOf before o x m → IsScopeOf after o x m
scope_stays before after o x (Some (MadeScope outer event)) stays is = λ names. stays (is names)
scope_stays before after o x other stays is = tt

new_scope_is : (s : Setting) (past : History) (u home from pc dc fl : ℕ) (ps ds : List ℕ) (out : Bool) (a : Answer) (w : List (ℕ × ℕ)) (o x : ℕ)
    → IsCallOn s.limit (parts_of s past) u home (call.EdtCreate from pc ps dc ds fl out) a w
    → (is_done a.code && names_new a.scope x) ≡ true → names_new a.output o ≡ true → IsOwnScope (Call u home (call.EdtCreate from pc ps dc ds fl out) a w ∷ past) o x
new_scope_is s past u home from pc dc fl ps ds out a w o x legal is names =
    let both = and_parts (is_done a.code) (names_new a.scope x) is in
    let on : (is_done a.code && names_new a.output o) ≡ true = rw (both.0, names) refl in
    let finish : (fl == 1) ≡ true = elim (fl == 1) as (λ b. (fl == 1) ≡ b → b ≡ true) [
      | true ↦ λ _. refl
      | false ↦ λ off. absurd (
          let none : (a.scope == 0) ≡ true = ap (λ (n : ℕ). n == 0) (no_scope s past u home from pc dc fl ps ds out a w legal off) in
          let some = some_named a.scope x both.1 in
          cc (none, some))
    ] refl in
    record {
      who = new_identity a.value fl a home;
      owns = ap (λ (b : Bool). if b then Some (new_identity a.value fl a home) else owner past o) on;
      finish = finish;
      scope = ap (λ (b : Bool). if b then a.scope else home) finish ∙ number_named a.scope x both.1;
    }

-- what else is made is no scope, and makes no output event
other_scope : (past : History) (e : Entry) (o x : ℕ) (m : Option Made) → owner (e ∷ past) o ≡ owner past o → IsScopeOf past o x m → IsScopeOf (e ∷ past) o x m
other_scope past e o x m stays is = scope_stays past (e ∷ past) o x m (λ own. record { who = own.who; owns = stays ∙ own.owns; finish = own.finish; scope = own.scope }) is

scope_owned : (s : Setting) (past : History) (o x : ℕ) → IsRun s past → IsScopeOf past o x (made s past x)
scope_owned s [] o x run = scope_if [] o x (x == ARGUMENTS) _ _ (λ _. tt) (scope_if [] o x (x == MAIN_EDT) _ None (λ _. tt) tt)
scope_owned s (Call u home (call.DbCreate n fl) a w ∷ past) o x run =
    let e : Entry = Call u home (call.DbCreate n fl) a w in
    scope_if (e ∷ past) o x (makes a x) _ (made s past x) (λ _. tt) (other_scope past e o x (made s past x) refl (scope_owned s past o x run.0))
scope_owned s (Call u home (call.TemplateCreate f pc dc) a w ∷ past) o x run =
    let e : Entry = Call u home (call.TemplateCreate f pc dc) a w in
    scope_if (e ∷ past) o x (makes a x) _ (made s past x) (λ _. tt) (other_scope past e o x (made s past x) refl (scope_owned s past o x run.0))
scope_owned s (Call u home (call.EventCreate k fl) a w ∷ past) o x run =
    let e : Entry = Call u home (call.EventCreate k fl) a w in
    scope_if (e ∷ past) o x (makes a x) _ (made s past x) (λ _. tt) (other_scope past e o x (made s past x) refl (scope_owned s past o x run.0))
scope_owned s (Call u home (call.EventCreateParams k fl most sats deps) a w ∷ past) o x run =
    let e : Entry = Call u home (call.EventCreateParams k fl most sats deps) a w in
    scope_if (e ∷ past) o x (makes a x) _ (made s past x) (λ _. tt) (other_scope past e o x (made s past x) refl (scope_owned s past o x run.0))
scope_owned s (Call u home (call.EdtCreate from pc ps dc ds fl out) a w ∷ past) o x run =
    let after : History = Call u home (call.EdtCreate from pc ps dc ds fl out) a w ∷ past in
    scope_if after o x (makes a x) (edt_from (made s past from) ps dc) (made_beside a home x (made s past x)) (λ _. edt_scope after o x (made s past from) ps dc)
    (scope_if after o x (is_done a.code && names_new a.scope x) (Some (MadeScope home a.output)) (if is_done a.code && names_new a.output x then Some (MadeEvent OUTPUT_KIND OUTPUT_FLAGS 0) else made s past x)
    (λ is names. new_scope_is s past u home from pc dc fl ps ds out a w o x run.1.on_parts is names)
    (scope_if after o x (is_done a.code && names_new a.output x) (Some (MadeEvent OUTPUT_KIND OUTPUT_FLAGS 0)) (made s past x) (λ _. tt)
    (scope_stays past after o x (made s past x)
    (λ own. record { who = own.who; owns = still_owned s past u home from pc dc fl ps ds out a w o own.who run.0 run.1.on_parts own.owns; finish = own.finish; scope = own.scope })
    (scope_owned s past o x run.0))))
scope_owned s (e ∷ past) o x run = other_scope past e o x (made s past x) refl (scope_owned s past o x run.0)

pub own_scope : (s : Setting) (past : History) (o x outer event : ℕ) → IsRun s past → made s past x ≡ Some (MadeScope outer event) → names_new event o ≡ true → IsOwnScope past o x
own_scope s past o x outer event run is names = subst (IsScopeOf past o x) is (scope_owned s past o x run) names
