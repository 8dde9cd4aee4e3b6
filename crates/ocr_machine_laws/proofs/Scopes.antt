-- The scopes of a run: how each entry changes them.
use Rattle.std.proofs.Common.{◌≡◌, ℕ, ◌-◌, ◌<◌, List, [], ◌∷◌, Bool, true, false, not, ◌&&◌, ◌||◌, ◌==◌, if◌then◌else◌, Option, Some, None, refl, sym, ◌∙◌, ap, subst, arith}
use Rattle.std.proofs.lemmas.Bool.{eqb-true, false_from_ne_true, and_parts}
use Rattle.ocr_guid.specs.Target.{EventCall}
use Rattle.ocr_slots.specs.Slots as slot
use Rattle.ocr_datablock.specs.Block as block
use Rattle.ocr_finish.specs.Scope.{ScopeCall, Joining, Parting, State, state_of, after_join, after_leave}
use Rattle.ocr_finish.specs.Scope as scope
use Rattle.ocr_finish.proofs.Laws.{join_law, leave_law}
use Rattle.ocr_body_meaning.specs.Holds.{is_done}
use Rattle.ocr_body_meaning.specs.declared.call.Call as body
use Rattle.ocr_body_meaning.specs.declared.call.Call.TheVariants as call
use Rattle.ocr_body_meaning.specs.declared.call.Answer.{Answer}
use Rattle.ocr_machine_history.specs.declared.entry.Entry.TheVariants.{Call}
use Rattle.ocr_machine_history.specs.declared.entry.What.{What}
use Rattle.ocr_machine_history.specs.declared.objects.TheConstants.{OUTPUT_KIND, OUTPUT_FLAGS}
use Rattle.ocr_machine_history.specs.History.{History, Setting}
use Rattle.ocr_machine_history.specs.Made.{Made, MadeTemplate, MadeEvent, MadeScope, made, makes, edt_from, names_new, is_new}
use Rattle.ocr_machine_parts.specs.Calls.{link_calls, block_calls, event_calls, scope_calls}
use Rattle.ocr_machine_parts.specs.Parts.{face, parts_of}
use Rattle.ocr_machine_parts.specs.Messages.{sent_if_done, sent_by_leave}
use Rattle.ocr_machine_parts.specs.Footprint.{makes_core}
use Rattle.ocr_machine_parts.specs.LegalOn.{IsJoinable, HasMember, IsCallOn}
use Rattle.ocr_machine_parts.proofs.After.{home_apart, has_member}
use Rattle.ocr_machine_parts.proofs.Beside.{beside_is}
use Rattle.ocr_machine_parts.proofs.Fresh.{some_named, number_named, new_fresh}
use Rattle.ocr_machine_parts.proofs.Within.{new_free, made_none}
use Rattle.ocr_machine_laws.specs.Members.{is_member_scope, members_on}

-- PARTS THAT ARE SCOPES
abbrev pub scope_in : Option Made → List ScopeCall → Option State
scope_in (Some (MadeScope outer event)) calls = Some (state_of outer event calls)
scope_in other calls = None

abbrev pub scope_at : Setting → History → ℕ → Option State
scope_at s past g = scope_in (made s past g) (scope_calls past g)

abbrev pub members_in : Option State → ℕ
members_in None = 0
members_in (Some st) = st.members

abbrev pub is_inner : ℕ → Option State → Bool
is_inner x None = false
is_inner x (Some st) = not (st.members == 0) && names_new st.outer x

abbrev pub HasIn : Option State → Type 0
HasIn None = ⊥
HasIn (Some st) = 0 < st.members

abbrev pub sent_in : Option State → List What
sent_in None = []
sent_in (Some st) = sent_if_done (scope.on_leave st) st

members_face : (m : Option Made) (links : List slot.SlotCall) (blocks : List block.BlockCall) (events : List EventCall) (scopes : List ScopeCall) → members_on (face m links blocks events scopes) ≡ members_in (scope_in m scopes)
members_face (Some (MadeScope outer event)) links blocks events scopes = refl
members_face other links blocks events scopes = refl

pub members_are : (s : Setting) (past : History) (g : ℕ) → members_on ((parts_of s past).face g) ≡ members_in (scope_at s past g)
members_are s past g = members_face (made s past g) (link_calls past g) (block_calls s past g) (event_calls s past g) (scope_calls past g)

inner_face : (x : ℕ) (m : Option Made) (links : List slot.SlotCall) (blocks : List block.BlockCall) (events : List EventCall) (scopes : List ScopeCall) → is_member_scope x (face m links blocks events scopes) ≡ is_inner x (scope_in m scopes)
inner_face x (Some (MadeScope outer event)) links blocks events scopes = refl
inner_face x other links blocks events scopes = refl

pub inner_is : (s : Setting) (past : History) (x g : ℕ) → is_member_scope x ((parts_of s past).face g) ≡ is_inner x (scope_at s past g)
inner_is s past x g = inner_face x (made s past g) (link_calls past g) (block_calls s past g) (event_calls s past g) (scope_calls past g)

has_face : (m : Option Made) (links : List slot.SlotCall) (blocks : List block.BlockCall) (events : List EventCall) (scopes : List ScopeCall) → HasMember (face m links blocks events scopes) → HasIn (scope_in m scopes)
has_face (Some (MadeScope outer event)) links blocks events scopes has = has
has_face other links blocks events scopes has = absurd has

pub has_in : (s : Setting) (past : History) (g : ℕ) → HasMember ((parts_of s past).face g) → HasIn (scope_at s past g)
has_in s past g has = has_face (made s past g) (link_calls past g) (block_calls s past g) (event_calls s past g) (scope_calls past g) has

joinable_face : (m : Option Made) (links : List slot.SlotCall) (blocks : List block.BlockCall) (events : List EventCall) (scopes : List ScopeCall) → IsJoinable (face m links blocks events scopes) → HasIn (scope_in m scopes)
joinable_face (Some (MadeScope outer event)) links blocks events scopes joinable = joinable.0
joinable_face other links blocks events scopes joinable = absurd joinable

pub joinable_in : (s : Setting) (past : History) (g : ℕ) → IsJoinable ((parts_of s past).face g) → HasIn (scope_at s past g)
joinable_in s past g joinable = joinable_face (made s past g) (link_calls past g) (block_calls s past g) (event_calls s past g) (scope_calls past g) joinable

sent_face : (m : Option Made) (links : List slot.SlotCall) (blocks : List block.BlockCall) (events : List EventCall) (scopes : List ScopeCall) → sent_by_leave (face m links blocks events scopes) ≡ sent_in (scope_in m scopes)
sent_face (Some (MadeScope outer event)) links blocks events scopes = refl
sent_face other links blocks events scopes = refl

pub sent_is : (s : Setting) (past : History) (g : ℕ) → sent_by_leave ((parts_of s past).face g) ≡ sent_in (scope_at s past g)
sent_is s past g = sent_face (made s past g) (link_calls past g) (block_calls s past g) (event_calls s past g) (scope_calls past g)

-- what is there is made
pub scope_made : (s : Setting) (past : History) (g : ℕ) → HasIn (scope_at s past g) → made s past g ≡ None → ⊥
scope_made s past g has none = subst HasIn (ap (λ (m : Option Made). scope_in m (scope_calls past g)) none) has

pub none_scope : (s : Setting) (past : History) (g : ℕ) → made s past g ≡ None → scope_at s past g ≡ None
none_scope s past g none = ap (λ (m : Option Made). scope_in m (scope_calls past g)) none

-- AN OBJECT IS MADE that is no scope
other_made : (b : Bool) (new : Made) (old : Option Made) (calls : List ScopeCall) → scope_in (Some new) [] ≡ None → (b ≡ true → old ≡ None) → scope_in (if b then Some new else old) (if b then [] else calls) ≡ scope_in old calls
other_made true new old calls none free = none ∙ sym (ap (λ (m : Option Made). scope_in m calls) (free refl))
other_made false new old calls none free = refl

pub call_scopes : (s : Setting) (past : History) (u home : ℕ) (c : body.Call) (a : Answer) (w : List (ℕ × ℕ)) → makes_core c ≡ false → IsCallOn s.limit (parts_of s past) u home c a w → (g : ℕ) → scope_at s (Call u home c a w ∷ past) g ≡ scope_at s past g
call_scopes s past u home (call.EdtCreate from pc ps dc ds fl o) a w none legal g = cc none
call_scopes s past u home (call.DbCreate n fl) a w none legal g = other_made (makes a g) _ (made s past g) (scope_calls past g) refl (λ is. (new_free s past a g legal.value is).0)
call_scopes s past u home (call.TemplateCreate f pc dc) a w none legal g = other_made (makes a g) _ (made s past g) (scope_calls past g) refl (λ is. (new_free s past a g legal.value is).0)
call_scopes s past u home (call.EventCreate k fl) a w none legal g = other_made (makes a g) _ (made s past g) (scope_calls past g) refl (λ is. (new_free s past a g legal.value is).0)
call_scopes s past u home (call.EventCreateParams k fl most sats deps) a w none legal g = other_made (makes a g) _ (made s past g) (scope_calls past g) refl (λ is. (new_free s past a g legal.value is).0)
call_scopes s past u home other a w none legal g = refl

-- A MEMBER LEAVES
abbrev pub left : Option State → Option State
left None = None
left (Some st) = Some (after_leave st)

pub left_one : (m : Option Made) (calls : List ScopeCall) → HasIn (scope_in m calls) → scope_in m (Parting ∷ calls) ≡ left (scope_in m calls)
left_one (Some (MadeScope outer event)) calls has = ap (λ (st : State). Some st) (leave_law outer event calls (has_member (scope.arrivals calls) (scope.departures calls) has)).0
left_one other calls has = absurd has

-- ONE JOINS
abbrev pub joined : Option State → Option State
joined None = None
joined (Some st) = Some (after_join st)

joined_one : (m : Option Made) (calls : List ScopeCall) → HasIn (scope_in m calls) → scope_in m (Joining ∷ calls) ≡ joined (scope_in m calls)
joined_one (Some (MadeScope outer event)) calls has = ap (λ (st : State). Some st) (join_law outer event calls (has_member (scope.arrivals calls) (scope.departures calls) has))
joined_one other calls has = absurd has

unjoined : (join : Bool) (m : Option Made) (calls : List ScopeCall) → (join ≡ false) × (scope_in m calls ≡ None) → None ≡ (if join then joined (scope_in m calls) else scope_in m calls)
unjoined true m calls free = cc free.0
unjoined false m calls free = sym free.1

pub new_done : (done beside here : Bool) → ((done && beside) || (done && here)) ≡ true → done ≡ true
new_done true beside here is = refl
new_done false beside here is = cc is

-- AN EDT IS MADE, and its scope and its output event with it
with_edt : (done own output here join : Bool) (edt m : Option Made) (outer event : ℕ) (calls : List ScopeCall)
    → scope_in edt [] ≡ None
    → (((done && (own || output)) || (done && here)) ≡ true → (join ≡ false) × (scope_in m calls ≡ None))
    → ((done && here) ≡ true → own ≡ false)
    → ((done && join) ≡ true → scope_in m (Joining ∷ calls) ≡ joined (scope_in m calls))
    → scope_in (if done && here then edt else if done && own then Some (MadeScope outer event) else if done && output then Some (MadeEvent OUTPUT_KIND OUTPUT_FLAGS 0) else m)
    (if (done && (own || output)) || (done && here) then [] else if done && join then Joining ∷ calls else calls)
    ≡ (if done && own then Some (state_of outer event []) else if done && join then joined (scope_in m calls) else scope_in m calls)
with_edt false own output here join edt m outer event calls none free apart joins = refl
with_edt true true output true join edt m outer event calls none free apart joins = cc (apart refl)
with_edt true false true true join edt m outer event calls none free apart joins = none ∙ unjoined join m calls (free refl)
with_edt true false false true join edt m outer event calls none free apart joins = none ∙ unjoined join m calls (free refl)
with_edt true true output false join edt m outer event calls none free apart joins = refl
with_edt true false true false join edt m outer event calls none free apart joins = unjoined join m calls (free refl)
with_edt true false false false true edt m outer event calls none free apart joins = joins refl
with_edt true false false false false edt m outer event calls none free apart joins = refl

from_none : (m : Option Made) (ps : List ℕ) (dc : ℕ) → scope_in (edt_from m ps dc) [] ≡ None
from_none (Some (MadeTemplate f pc own)) ps dc = refl
from_none other ps dc = refl

module _ (s : Setting) (past : History) (t home from pc dc fl : ℕ) (ps ds : List ℕ) (o : Bool) (a : Answer) (w : List (ℕ × ℕ)) (legal : IsCallOn s.limit (parts_of s past) t home (call.EdtCreate from pc ps dc ds fl o) a w) where
  -- the number of the scope is not that of the EDT
  own_apart : (g : ℕ) → makes a g ≡ true → names_new a.scope g ≡ false
  own_apart g is = false_from_ne_true (names_new a.scope g) (λ own.
      let above : a.value < a.scope = (beside_is (is_done a.code && (fl == 1)) s.limit (parts_of s past) a.value a.scope legal.scope (some_named a.scope g own)).1 in
      let here : a.value ≡ g = eqb-true a.value g (and_parts (is_done a.code) (a.value == g) is).1 in
      let there : a.scope ≡ g = number_named a.scope g own in
      omega (arith, above, here, there))

  pub home_has : is_done a.code ≡ true → (g : ℕ) → names_new home g ≡ true → HasIn (scope_at s past g)
  home_has on g is = subst (λ (n : ℕ). HasIn (scope_at s past n)) (number_named home g is) (joinable_in s past home (legal.at_home.joinable on (some_named home g is)))

  -- what is made is no scope yet, and is not the home
  pub new_apart : is_done a.code ≡ true → (g : ℕ) → is_new (call.EdtCreate from pc ps dc ds fl o) a g ≡ true → (names_new home g ≡ false) × (scope_at s past g ≡ None)
  new_apart on g is =
      let vacant = (new_fresh s.limit (parts_of s past) t home (call.EdtCreate from pc ps dc ds fl o) a w g legal is).vacant in
      (home_apart (parts_of s past) home g vacant (legal.at_home.joinable on), none_scope s past g (made_none s past g vacant))

  pub edt_scopes : (g : ℕ) → scope_at s (Call t home (call.EdtCreate from pc ps dc ds fl o) a w ∷ past) g
      ≡ (if is_done a.code && names_new a.scope g then Some (state_of home a.output []) else if is_done a.code && names_new home g then joined (scope_at s past g) else scope_at s past g)
  edt_scopes g =
      with_edt (is_done a.code) (names_new a.scope g) (names_new a.output g) (a.value == g) (names_new home g) (edt_from (made s past from) ps dc) (made s past g) home a.output (scope_calls past g)
      (from_none (made s past from) ps dc)
      (λ is. new_apart (new_done (is_done a.code) (names_new a.scope g || names_new a.output g) (a.value == g) is) g is)
      (own_apart g)
      (λ is. let both = and_parts (is_done a.code) (names_new home g) is in joined_one (made s past g) (scope_calls past g) (home_has both.0 g both.1))
