-- An output event is satisfied by an end as often as its EDT is through: each entry keeps that.
use Rattle.std.proofs.Common.{◌≡◌, ℕ, ◌+◌, ◌-◌, ◌<◌, nat_lt, List, [], ◌∷◌, ◌++◌, length, Bool, true, false, not, ◌&&◌, ◌||◌, ◌==◌, if◌then◌else◌, Option, Some, None, refl, sym, ◌∙◌, ap, subst, arith}
use Rattle.std.proofs.lemmas.Bool.{eqb-true, false_from_ne_true, and_parts}
use Rattle.std.proofs.lemmas.List.{append-nil}
use Rattle.std.proofs.lemmas.List.Elements.{filter-append}
use Rattle.std.specs.List.{filter}
use Rattle.ocr_base.proofs.Booleans.{same, and_false}
use Rattle.ocr_guid.specs.declared.Code.{Code}
use Rattle.ocr_edt.specs.declared.Identity.{Identity}
use Rattle.ocr_finish.specs.declared.Leaving.TheVariants as leaving
use Rattle.ocr_finish.specs.Scope.{ScopeCall, State, state_of}
use Rattle.ocr_finish.specs.Scope as scope
use Rattle.ocr_body_meaning.specs.Holds.{is_done}
use Rattle.ocr_body_meaning.specs.declared.call.Call as body
use Rattle.ocr_body_meaning.specs.declared.call.Call.TheVariants as call
use Rattle.ocr_body_meaning.specs.declared.call.Answer.{Answer}
use Rattle.ocr_machine_history.specs.declared.entry.Entry.{Entry}
use Rattle.ocr_machine_history.specs.declared.entry.Entry.TheVariants.{Call, Deliver, End}
use Rattle.ocr_machine_history.specs.declared.entry.What.{What}
use Rattle.ocr_machine_history.specs.declared.entry.What.TheVariants as what
use Rattle.ocr_machine_history.specs.Edts.{is_ended}
use Rattle.ocr_machine_history.specs.History.{History, Setting}
use Rattle.ocr_machine_history.specs.Made.{Made, MadeScope, made, names_new, is_new}
use Rattle.ocr_machine_parts.specs.declared.part.Part.{Part}
use Rattle.ocr_machine_parts.specs.Calls.{scope_calls}
use Rattle.ocr_machine_parts.specs.Footprint.{makes_core}
use Rattle.ocr_machine_parts.specs.Kinds.{identity_on}
use Rattle.ocr_machine_parts.specs.Legal.{IsRun, IsLegal}
use Rattle.ocr_machine_parts.specs.LegalOn.{HasMember, IsDeliverOn, IsCallOn, IsEndOn}
use Rattle.ocr_machine_parts.specs.Messages.{satisfy_some, leave_some, sent_if_done, sent_by_leave, sent_by_message, payload_of_end, sent_by_end, sends}
use Rattle.ocr_machine_parts.specs.Parts.{new_identity, identity_of, parts_of}
use Rattle.ocr_machine_parts.proofs.Fresh.{some_named, number_named}
use Rattle.ocr_machine_laws.specs.Marks.{mark}
use Rattle.ocr_machine_laws.proofs.Stages.{told_law}
use Rattle.ocr_machine_laws.proofs.Counts.{one}
use Rattle.ocr_machine_laws.proofs.Finished.{finish_law}
use Rattle.ocr_machine_laws.proofs.Members.{left_at, left_scope, none_gone, running_identity, some_stay}
use Rattle.ocr_machine_laws.proofs.Own.{running_mark}
use Rattle.ocr_machine_laws.proofs.Scopes.{scope_in, scope_at, members_in, members_are, HasIn, has_in, sent_in, sent_is, call_scopes, left, joined, home_has, new_apart, edt_scopes}
use Rattle.ocr_machine_laws.specs.Members.{members_on}
use Rattle.ocr_machine_laws.specs.Outputs.{satisfies, is_leave, signals_by, signals, output_of, is_last_leave, MomentLaw, OnceLaw, OwnLaw, OtherLaw, EndLaw, EndedLaw}
use Rattle.ocr_machine_laws.proofs.Owners.{owner, one_identity, IsOwner, scope_fresh, output_fresh, owner_law, not_owned, number_is, finish_home, has_owner, IsOwnScope, own_scope}
use Rattle.ocr_machine_parts.proofs.Local.{named_self}

-- WHAT AN END SENDS to an event
abbrev sent_to : ℕ → List What → List What
sent_to o ws = filter (satisfies o) ws

abbrev satisfied_in : ℕ → List What → ℕ
satisfied_in o ws = length (sent_to o ws)

one_long : (b : Bool) (m : What) → length (if b then m ∷ [] else []) ≡ one b
one_long true m = refl
one_long false m = refl

no_longer : (ws : List What) → length ws ≡ 0 → ws ≡ []
no_longer [] is = refl
no_longer (w ∷ ws) is = absurd (omega (arith, is))

some_sent : (o e p : ℕ) → sent_to o (satisfy_some e p) ≡ (if names_new e o then what.Satisfy e 0 p ∷ [] else [])
some_sent o e p = elim (e == 0) as (λ b. sent_to o (if b then [] else what.Satisfy e 0 p ∷ []) ≡ (if not b && (e == o) then what.Satisfy e 0 p ∷ [] else [])) [ true ↦ refl | false ↦ refl ]

none_sent_by : (o x : ℕ) → sent_to o (leave_some x) ≡ []
none_sent_by o x = elim (x == 0) as (λ b. sent_to o (if b then [] else what.Leave x ∷ []) ≡ []) [ true ↦ refl | false ↦ refl ]

both_sent : (o e p x : ℕ) → sent_to o (satisfy_some e p ++ leave_some x) ≡ (if names_new e o then what.Satisfy e 0 p ∷ [] else [])
both_sent o e p x =
    filter-append (satisfies o) (satisfy_some e p) (leave_some x)
    ∙ ap (λ (ws : List What). sent_to o (satisfy_some e p) ++ ws) (none_sent_by o x)
    ∙ append-nil (sent_to o (satisfy_some e p))
    ∙ some_sent o e p

end_sent : (o : ℕ) (i : Identity) (p : ℕ) → sent_to o (sent_by_end i p) ≡ (if not i.finish && names_new i.output o then what.Satisfy i.output 0 p ∷ [] else [])
end_sent o i p = elim i.finish as (λ b. sent_to o ((if b then [] else satisfy_some i.output p) ++ leave_some i.scope) ≡ (if not b && names_new i.output o then what.Satisfy i.output 0 p ∷ [] else [])) [
  | true ↦ none_sent_by o i.scope
  | false ↦ both_sent o i.output p i.scope
]

done_sent : (o : ℕ) (st : State) → sent_to o (sent_if_done (scope.on_leave st) st) ≡ (if (st.members == 1) && names_new st.event o then what.Satisfy st.event 0 0 ∷ [] else [])
done_sent o st = elim (st.members == 1) as (λ b. sent_to o (sent_if_done (if b then leaving.Done else leaving.Alive) st) ≡ (if b && names_new st.event o then what.Satisfy st.event 0 0 ∷ [] else [])) [
  | true ↦ both_sent o st.event 0 st.outer
  | false ↦ refl
]

-- WHOSE OUTPUT EVENT it is, that one is through
abbrev through_by : (ℕ → ℕ) → (ℕ → Bool) → Identity → Bool
through_by members ended i = if i.finish then members i.scope == 0 else ended i.edt

abbrev over_by : (ℕ → ℕ) → (ℕ → Bool) → Option Identity → ℕ
over_by members ended None = 0
over_by members ended (Some i) = one (through_by members ended i)

abbrev members_at : Setting → History → ℕ → ℕ
members_at s past x = members_in (scope_at s past x)

abbrev over : Setting → History → ℕ → ℕ
over s past o = over_by (members_at s past) (is_ended past) (owner past o)

-- the same where the scope of a finish EDT has a member as before
same_over : (before after : ℕ → ℕ) (ended : ℕ → Bool) (i : Identity) → (i.finish ≡ true → (after i.scope == 0) ≡ (before i.scope == 0)) → through_by after ended i ≡ through_by before ended i
same_over before after ended i stays = elim i.finish as (λ b. (b ≡ true → (after i.scope == 0) ≡ (before i.scope == 0)) → (if b then after i.scope == 0 else ended i.edt) ≡ (if b then before i.scope == 0 else ended i.edt)) [
  | true ↦ λ stays. stays refl
  | false ↦ λ _. refl
] stays

abbrev IsKept : Setting → History → Entry → ℕ → Type 0
IsKept s past e o = length (signals_by s past e o) + over s past o ≡ over s (e ∷ past) o

none_sent : (n m : ℕ) → n ≡ m → 0 + n ≡ m
none_sent n m is = omega (arith, is)

-- AN EDT IS MADE, and is not through
grown_some : (own home : Bool) (new : State) (o : Option State) → own ≡ false → (home ≡ true → HasIn o) → (members_in (if own then Some new else if home then joined o else o) == 0) ≡ (members_in o == 0)
grown_some true home new o off has = cc off
grown_some false true new (Some st) off has =
    let some = none_gone st.members (has refl) in
    let more = none_gone (st.members + 1) (omega arith) in
    rw (some, more) refl
grown_some false true new None off has = absurd (has refl)
grown_some false false new o off has = refl

module _ (s : Setting) (past : History) (u home from pc dc fl : ℕ) (ps ds : List ℕ) (out : Bool) (a : Answer) (w : List (ℕ × ℕ)) (o : ℕ) (run : IsRun s past) (legal : IsCallOn s.limit (parts_of s past) u home (call.EdtCreate from pc ps dc ds fl out) a w) where
  abbrev after_members : ℕ → ℕ
  after_members x = members_at s (Call u home (call.EdtCreate from pc ps dc ds fl out) a w ∷ past) x

  old_scope : (x outer event : ℕ) → made s past x ≡ Some (MadeScope outer event) → (is_done a.code && names_new a.scope x) ≡ false
  old_scope x outer event is = false_from_ne_true (is_done a.code && names_new a.scope x) (λ new.
      let both = and_parts (is_done a.code) (names_new a.scope x) new in
      let fresh : is_new (call.EdtCreate from pc ps dc ds fl out) a x ≡ true = rw (both.0, both.1) refl in
      let none = (new_apart s past u home from pc dc fl ps ds out a w legal both.0 x fresh).1 in
      let some : scope_at s past x ≡ Some (state_of outer event (scope_calls past x)) = ap (λ (m : Option Made). scope_in m (scope_calls past x)) is in
      cc (none, some))

  made_stays : (i : Identity) → IsOwner s past o i → i.finish ≡ true → (after_members i.scope == 0) ≡ (members_at s past i.scope == 0)
  made_stays i is finish =
      let found = is.scope finish in
      ap (λ (st : Option State). members_in st == 0) (edt_scopes s past u home from pc dc fl ps ds out a w legal i.scope)
      ∙ grown_some (is_done a.code && names_new a.scope i.scope) (is_done a.code && names_new home i.scope) (state_of home a.output []) (scope_at s past i.scope)
      (old_scope i.scope found.0 o found.1)
      (λ joins. let both = and_parts (is_done a.code) (names_new home i.scope) joins in home_has s past u home from pc dc fl ps ds out a w legal both.0 i.scope both.1)

  other_kept : over_by after_members (is_ended past) (owner past o) ≡ over s past o
  other_kept = elim (owner past o) as (λ x. owner past o ≡ x → over_by after_members (is_ended past) x ≡ over_by (members_at s past) (is_ended past) x) [
    | None ↦ λ _. refl
    | Some i ↦ λ is. ap one (same_over (members_at s past) after_members (is_ended past) i (made_stays i (owner_law s past o i run is)))
  ] refl

  new_members : is_done a.code ≡ true → (fl == 1) ≡ true → (after_members a.scope == 0) ≡ false
  new_members on finish =
      let fresh = scope_fresh s past u home from pc dc fl ps ds out a w legal on finish in
      let own : (is_done a.code && names_new a.scope a.scope) ≡ true = rw (on, none_gone a.scope fresh.some, same a.scope) refl in
      ap (λ (st : Option State). members_in st == 0)
      (edt_scopes s past u home from pc dc fl ps ds out a w legal a.scope
      ∙ ap (λ (b : Bool). if b then Some (state_of home a.output []) else if is_done a.code && names_new home a.scope then joined (scope_at s past a.scope) else scope_at s past a.scope) own)

  new_through : is_done a.code ≡ true → through_by after_members (is_ended past) (new_identity a.value fl a home) ≡ false
  new_through on = elim (fl == 1) as (λ b. (fl == 1) ≡ b → (if b then after_members (if b then a.scope else home) == 0 else is_ended past a.value) ≡ false) [
    | true ↦ λ finish. new_members on finish
    | false ↦ λ _. (told_law s past run a.value).has_ended ∙ ap (λ (y : Part). nat_lt 2 (mark y).0) (legal.value.no_core on)
  ] refl

  edt_kept : IsKept s past (Call u home (call.EdtCreate from pc ps dc ds fl out) a w) o
  edt_kept = none_sent (over s past o) (over s (Call u home (call.EdtCreate from pc ps dc ds fl out) a w ∷ past) o) (elim (is_done a.code && names_new a.output o) as (λ b. (is_done a.code && names_new a.output o) ≡ b → over s past o ≡ over_by after_members (is_ended past) (if b then Some (new_identity a.value fl a home) else owner past o)) [
    | true ↦ λ new.
        let both = and_parts (is_done a.code) (names_new a.output o) new in
        let none = not_owned s past o run (output_fresh s past u home from pc dc fl ps ds out a w legal o both.1) in
        ap (over_by (members_at s past) (is_ended past)) none ∙ sym (ap one (new_through both.0))
    | false ↦ λ _. sym other_kept
  ] refl)

-- NO OTHER CALL makes an EDT or a scope
call_kept : (s : Setting) (past : History) (u home : ℕ) (c : body.Call) (a : Answer) (w : List (ℕ × ℕ)) (ended : ℕ → Bool) (x : Option Identity) → makes_core c ≡ false → IsCallOn s.limit (parts_of s past) u home c a w
    → over_by (members_at s past) ended x ≡ over_by (members_at s (Call u home c a w ∷ past)) ended x
call_kept s past u home c a w ended None none legal = refl
call_kept s past u home c a w ended (Some i) none legal =
    sym (ap one (same_over (members_at s past) (members_at s (Call u home c a w ∷ past)) ended i (λ _. ap (λ (st : Option State). members_in st == 0) (call_scopes s past u home c a w none legal i.scope))))

-- A MEMBER LEAVES
abbrev left_members : Setting → History → What → Bool → ℕ → ℕ
left_members s past w done g = members_in (left_scope s past w done g)

abbrev IsBrought : Setting → History → What → Bool → ℕ → Type 0
IsBrought s past w done o =
    length (if is_leave w then sent_to o (if done then sent_by_message w (parts_of s past) else []) else []) + over s past o
    ≡ over_by (left_members s past w done) (is_ended past) (owner past o)

-- a part that has a member is a scope
pub record IsScope (m : Option Made) (calls : List ScopeCall) : Type 0 where
  pub outer : ℕ
  pub event : ℕ
  pub is : m ≡ Some (MadeScope outer event)
  pub some : 0 < (state_of outer event calls).members

is_scope : (m : Option Made) (calls : List ScopeCall) → HasIn (scope_in m calls) → IsScope m calls
is_scope (Some (MadeScope outer event)) calls has = record { outer = outer; event = event; is = refl; some = has }
is_scope other calls has = absurd has

last_left : (n : ℕ) → 0 < n → one (n == 1) + one (n == 0) ≡ one (n - 1 == 0)
last_left n some = elim (n == 1) as (λ b. (n == 1) ≡ b → one b + one (n == 0) ≡ one (n - 1 == 0)) [
  | true ↦ λ is.
      let gone : (n - 1 == 0) ≡ true = ap (λ (k : ℕ). k - 1 == 0) (eqb-true n 1 is) in
      rw (none_gone n some, gone) refl
  | false ↦ λ off.
      let stay : (n - 1 == 0) ≡ false = some_stay n some off in
      rw (none_gone n some, stay) refl
] refl

abbrev event_in : Option Made → ℕ
event_in (Some (MadeScope outer event)) = event
event_in other = 0

module _ (s : Setting) (past : History) (x o : ℕ) (run : IsRun s past) (there : IsScope (made s past x) (scope_calls past x)) where
  abbrev st : State
  st = state_of there.outer there.event (scope_calls past x)

  scope_is : scope_at s past x ≡ Some (state_of there.outer there.event (scope_calls past x))
  scope_is = ap (λ (m : Option Made). scope_in m (scope_calls past x)) there.is

  has : HasIn (scope_at s past x)
  has = subst HasIn (sym scope_is) there.some

  abbrev after : ℕ → ℕ
  after = left_members s past (what.Leave x) true

  left_now : (g : ℕ) → after g ≡ members_in (if x == g then left (scope_at s past g) else scope_at s past g)
  left_now g = ap members_in (left_at (x == g) (made s past g) (scope_calls past g) (λ is. subst (λ (n : ℕ). HasIn (scope_at s past n)) (eqb-true x g is) has))

  left_apart : (g : ℕ) → (x == g) ≡ false → after g ≡ members_at s past g
  left_apart g off = left_now g ∙ ap (λ (b : Bool). members_in (if b then left (scope_at s past g) else scope_at s past g)) off

  left_here : after x ≡ (state_of there.outer there.event (scope_calls past x)).members - 1
  left_here = left_now x ∙ ap (λ (b : Bool). members_in (if b then left (scope_at s past x) else scope_at s past x)) (same x) ∙ ap (λ (p : Option State). members_in (left p)) scope_is

  was_here : members_at s past x ≡ (state_of there.outer there.event (scope_calls past x)).members
  was_here = ap members_in scope_is

  sent_here : sent_to o (sent_by_leave ((parts_of s past).face x)) ≡ (if ((state_of there.outer there.event (scope_calls past x)).members == 1) && names_new there.event o then what.Satisfy there.event 0 0 ∷ [] else [])
  sent_here = ap (sent_to o) (sent_is s past x ∙ ap sent_in scope_is) ∙ done_sent o (state_of there.outer there.event (scope_calls past x))

  not_named : names_new there.event o ≡ false → satisfied_in o (sent_by_leave ((parts_of s past).face x)) ≡ 0
  not_named off = ap length sent_here ∙ one_long (((state_of there.outer there.event (scope_calls past x)).members == 1) && names_new there.event o) (what.Satisfy there.event 0 0) ∙ ap (λ (b : Bool). one (((state_of there.outer there.event (scope_calls past x)).members == 1) && b)) off ∙ ap one (and_false ((state_of there.outer there.event (scope_calls past x)).members == 1))

  named_by : names_new there.event o ≡ true → IsOwnScope past o x
  named_by names = own_scope s past o x there.outer there.event run there.is names

  -- another scope, or none
  pub not_its_leave : (i : Identity) → owner past o ≡ Some i → (i.finish && (x == i.scope)) ≡ false → satisfied_in o (sent_by_leave ((parts_of s past).face x)) ≡ 0
  not_its_leave i is apart = not_named (false_from_ne_true (names_new there.event o) (λ names.
      let own = named_by names in
      let who : own.who ≡ i = one_identity own.who i (sym own.owns ∙ is) in
      let finish : i.finish ≡ true = ap (λ (k : Identity). k.finish) (sym who) ∙ own.finish in
      let here : x ≡ i.scope = sym own.scope ∙ ap (λ (k : Identity). k.scope) who in
      let on : (i.finish && (x == i.scope)) ≡ true = rw (finish, ← here, same x) refl in
      cc (on, apart)))

  other_left : (i : Identity) → owner past o ≡ Some i → (i.finish && (x == i.scope)) ≡ false
      → satisfied_in o (sent_by_leave ((parts_of s past).face x)) + one (through_by (members_at s past) (is_ended past) i) ≡ one (through_by after (is_ended past) i)
  other_left i is apart =
      let none = not_its_leave i is apart in
      let stays : through_by after (is_ended past) i ≡ through_by (members_at s past) (is_ended past) i =
      same_over (members_at s past) after (is_ended past) i (λ finish. ap (λ (n : ℕ). n == 0) (left_apart i.scope (ap (λ (b : Bool). b && (x == i.scope)) (sym finish) ∙ apart))) in
      let over_stays : one (through_by after (is_ended past) i) ≡ one (through_by (members_at s past) (is_ended past) i) = ap one stays in
      omega (arith, none, over_stays)

  -- its own scope
  pub its_leave : (i : Identity) → owner past o ≡ Some i → (i.finish && (x == i.scope)) ≡ true → sent_to o (sent_by_leave ((parts_of s past).face x)) ≡ (if members_at s past x == 1 then what.Satisfy o 0 0 ∷ [] else [])
  its_leave i is here =
      let owns = owner_law s past o i run is in
      let both = and_parts i.finish (x == i.scope) here in
      let found = owns.scope both.0 in
      let last : Bool = (state_of there.outer there.event (scope_calls past x)).members == 1 in
      let event : there.event ≡ o = ap event_in (sym there.is ∙ ap (λ (n : ℕ). made s past n) (eqb-true x i.scope both.1) ∙ found.1) in
      let names : names_new there.event o ≡ true = own_name i.output there.event o event owns.names in
      sent_here
      ∙ ap (λ (b : Bool). if last && b then what.Satisfy there.event 0 0 ∷ [] else []) names
      ∙ ap (λ (b : Bool). if b then what.Satisfy there.event 0 0 ∷ [] else []) (and_true last)
      ∙ ap (λ (n : ℕ). if last then what.Satisfy n 0 0 ∷ [] else []) event
      ∙ ap (λ (n : ℕ). if n == 1 then what.Satisfy o 0 0 ∷ [] else []) (sym was_here)
    where
      own_name : (n e o : ℕ) → e ≡ o → names_new n o ≡ true → names_new e o ≡ true
      own_name n e o is names =
          let some : (o == 0) ≡ false = subst (λ (k : ℕ). (k == 0) ≡ false) (number_named n o names) (some_named n o names) in
          rw (is, some, same o) refl

      and_true : (b : Bool) → (b && true) ≡ b
      and_true true = refl
      and_true false = refl

  own_left : (i : Identity) → owner past o ≡ Some i → (i.finish && (x == i.scope)) ≡ true
      → satisfied_in o (sent_by_leave ((parts_of s past).face x)) + one (through_by (members_at s past) (is_ended past) i) ≡ one (through_by after (is_ended past) i)
  own_left i is here =
      let both = and_parts i.finish (x == i.scope) here in
      let number : x ≡ i.scope = eqb-true x i.scope both.1 in
      let sent : satisfied_in o (sent_by_leave ((parts_of s past).face x)) ≡ one (members_at s past x == 1) = ap length (its_leave i is here) ∙ one_long (members_at s past x == 1) (what.Satisfy o 0 0) in
      let before : one (through_by (members_at s past) (is_ended past) i) ≡ one (members_at s past x == 0) =
      ap (λ (b : Bool). one (if b then members_at s past i.scope == 0 else is_ended past i.edt)) both.0 ∙ ap (λ (n : ℕ). one (members_at s past n == 0)) (sym number) in
      let now : one (through_by after (is_ended past) i) ≡ one (members_at s past x - 1 == 0) =
      ap (λ (b : Bool). one (if b then after i.scope == 0 else is_ended past i.edt)) both.0 ∙ ap (λ (n : ℕ). one (after n == 0)) (sym number)
      ∙ ap (λ (n : ℕ). one (n == 0)) (left_here ∙ ap (λ (n : ℕ). n - 1) (sym was_here)) in
      let last = last_left (members_at s past x) (subst (λ (n : ℕ). 0 < n) (sym was_here) there.some) in
      omega (arith, sent, before, now, last)

  leave_kept : satisfied_in o (sent_by_leave ((parts_of s past).face x)) + over s past o ≡ over_by after (is_ended past) (owner past o)
  leave_kept = elim (owner past o) as (λ k. owner past o ≡ k → satisfied_in o (sent_by_leave ((parts_of s past).face x)) + over_by (members_at s past) (is_ended past) k ≡ over_by after (is_ended past) k) [
    | None ↦ λ none.
        let off = not_named (false_from_ne_true (names_new there.event o) (λ names. let own = named_by names in let owns = own.owns in cc (none, owns))) in
        omega (arith, off)
    | Some i ↦ λ is. elim (i.finish && (x == i.scope)) as (λ b. (i.finish && (x == i.scope)) ≡ b → satisfied_in o (sent_by_leave ((parts_of s past).face x)) + one (through_by (members_at s past) (is_ended past) i) ≡ one (through_by after (is_ended past) i)) [
      | true ↦ λ here. own_left i is here
      | false ↦ λ apart. other_left i is apart
    ] refl
  ] refl

brought_kept : (s : Setting) (past : History) (w : What) (c : Code) (o : ℕ) → IsRun s past → IsDeliverOn (parts_of s past) w c → IsBrought s past w (is_done c) o
brought_kept s past (what.Leave x) c o run legal = subst (λ (d : Code). IsBrought s past (what.Leave x) (is_done d) o) (sym legal.1) (leave_kept s past x o run (is_scope (made s past x) (scope_calls past x) (has_in s past x legal.0)))
brought_kept s past (what.Set e i p) c o run legal = omega arith
brought_kept s past (what.Satisfy e i p) c o run legal = omega arith

-- AN EDT ENDS
module _ (s : Setting) (past : History) (u g o : ℕ) (run : IsRun s past) (legal : IsEndOn (parts_of s past) u) where
  live : is_ended past u ≡ false
  live = (told_law s past run u).has_ended ∙ ap (λ (n : ℕ). nat_lt 2 n) (running_mark ((parts_of s past).core u) legal.running)

  abbrev payload : ℕ
  payload = payload_of_end ((parts_of s past).face g) g

  sent_then : sent_to o (sends (End u g) (parts_of s past)) ≡ (if not (identity_of past u).finish && names_new (identity_of past u).output o then what.Satisfy (identity_of past u).output 0 payload ∷ [] else [])
  sent_then = end_sent o (identity_on ((parts_of s past).core u)) payload
      ∙ ap (λ (i : Identity). if not i.finish && names_new i.output o then what.Satisfy i.output 0 payload ∷ [] else []) (running_identity s past u run legal.running)

  unnamed : (not (identity_of past u).finish && names_new (identity_of past u).output o) ≡ false → satisfied_in o (sends (End u g) (parts_of s past)) ≡ 0
  unnamed off = ap length (sent_then ∙ ap (λ (b : Bool). if b then what.Satisfy (identity_of past u).output 0 payload ∷ [] else []) off)

  -- another EDT, or a finish EDT
  pub not_its_end : (i : Identity) → owner past o ≡ Some i → (not i.finish && (u == i.edt)) ≡ false → satisfied_in o (sends (End u g) (parts_of s past)) ≡ 0
  not_its_end i is apart = unnamed (false_from_ne_true (not (identity_of past u).finish && names_new (identity_of past u).output o) (λ on.
      let both = and_parts (not (identity_of past u).finish) (names_new (identity_of past u).output o) on in
      let who : identity_of past u ≡ i = one_identity (identity_of past u) i (sym (has_owner s past u o run both.1) ∙ is) in
      let finish : not i.finish ≡ true = ap (λ (k : Identity). not k.finish) (sym who) ∙ both.0 in
      let here : u ≡ i.edt = sym (number_is past u) ∙ ap (λ (k : Identity). k.edt) who in
      let hit : (not i.finish && (u == i.edt)) ≡ true = rw (finish, ← here, same u) refl in
      cc (hit, apart)))

  other_ended : (i : Identity) → owner past o ≡ Some i → (not i.finish && (u == i.edt)) ≡ false
      → satisfied_in o (sends (End u g) (parts_of s past)) + one (through_by (members_at s past) (is_ended past) i) ≡ one (through_by (members_at s past) (is_ended (End u g ∷ past)) i)
  other_ended i is apart =
      let none = not_its_end i is apart in
      let stays : through_by (members_at s past) (is_ended (End u g ∷ past)) i ≡ through_by (members_at s past) (is_ended past) i = ended_apart i.finish (u == i.edt) (members_at s past i.scope == 0) (is_ended past i.edt) apart in
      let over_stays : one (through_by (members_at s past) (is_ended (End u g ∷ past)) i) ≡ one (through_by (members_at s past) (is_ended past) i) = ap one stays in
      omega (arith, none, over_stays)
    where
      ended_apart : (finish here gone ended : Bool) → (not finish && here) ≡ false → (if finish then gone else here || ended) ≡ (if finish then gone else ended)
      ended_apart true here gone ended off = refl
      ended_apart false true gone ended off = cc off
      ended_apart false false gone ended off = refl

  -- its own EDT
  pub its_end : (i : Identity) → owner past o ≡ Some i → (not i.finish && (u == i.edt)) ≡ true → sent_to o (sends (End u g) (parts_of s past)) ≡ what.Satisfy o 0 payload ∷ []
  its_end i is here =
      let owns = owner_law s past o i run is in
      let both = and_parts (not i.finish) (u == i.edt) here in
      let who : identity_of past u ≡ i = ap (identity_of past) (eqb-true u i.edt both.1) ∙ owns.who in
      sent_then
      ∙ ap (λ (k : Identity). if not k.finish && names_new k.output o then what.Satisfy k.output 0 payload ∷ [] else []) who
      ∙ ap (λ (b : Bool). if b then what.Satisfy i.output 0 payload ∷ [] else []) (both_on (not i.finish) (names_new i.output o) both.0 owns.names)
      ∙ ap (λ (n : ℕ). what.Satisfy n 0 payload ∷ []) (number_named i.output o owns.names)
    where
      both_on : (b c : Bool) → b ≡ true → c ≡ true → (b && c) ≡ true
      both_on true c one other = other
      both_on false c one other = one

  own_ended : (i : Identity) → owner past o ≡ Some i → (not i.finish && (u == i.edt)) ≡ true
      → satisfied_in o (sends (End u g) (parts_of s past)) + one (through_by (members_at s past) (is_ended past) i) ≡ one (through_by (members_at s past) (is_ended (End u g ∷ past)) i)
  own_ended i is here =
      let sent : satisfied_in o (sends (End u g) (parts_of s past)) ≡ 1 = ap length (its_end i is here) in
      let was : is_ended past i.edt ≡ false = subst (λ (n : ℕ). is_ended past n ≡ false) (eqb-true u i.edt (and_parts (not i.finish) (u == i.edt) here).1) live in
      let steps = ended_here i.finish (u == i.edt) (members_at s past i.scope == 0) (is_ended past i.edt) here was in
      omega (arith, sent, steps)
    where
      ended_here : (finish here gone ended : Bool) → (not finish && here) ≡ true → ended ≡ false → 1 + one (if finish then gone else ended) ≡ one (if finish then gone else here || ended)
      ended_here true here gone ended on was = cc on
      ended_here false false gone ended on was = cc on
      ended_here false true gone true on was = cc was
      ended_here false true gone false on was = refl

  end_kept : IsKept s past (End u g) o
  end_kept = elim (owner past o) as (λ k. owner past o ≡ k → satisfied_in o (sends (End u g) (parts_of s past)) + over_by (members_at s past) (is_ended past) k ≡ over_by (members_at s past) (is_ended (End u g ∷ past)) k) [
    | None ↦ λ none.
        let off = unnamed (false_from_ne_true (not (identity_of past u).finish && names_new (identity_of past u).output o) (λ on.
        let some = has_owner s past u o run (and_parts (not (identity_of past u).finish) (names_new (identity_of past u).output o) on).1 in
        cc (none, some))) in
        omega (arith, off)
    | Some i ↦ λ is. elim (not i.finish && (u == i.edt)) as (λ b. (not i.finish && (u == i.edt)) ≡ b → satisfied_in o (sends (End u g) (parts_of s past)) + one (through_by (members_at s past) (is_ended past) i) ≡ one (through_by (members_at s past) (is_ended (End u g ∷ past)) i)) [
      | true ↦ λ here. own_ended i is here
      | false ↦ λ apart. other_ended i is apart
    ] refl
  ] refl

-- EACH ENTRY
kept : (s : Setting) (past : History) (e : Entry) (o : ℕ) → IsRun s past → IsLegal s past e → IsKept s past e o
kept s past (Call u home (call.EdtCreate from pc ps dc ds fl out) a w) o run legal = edt_kept s past u home from pc dc fl ps ds out a w o run legal.on_parts
kept s past (Call u home other a w) o run legal = none_sent _ _ (call_kept s past u home other a w (is_ended past) (owner past o) refl legal.on_parts)
kept s past (Deliver m c) o run legal = brought_kept s past m.what c o run legal.on_parts
kept s past (End u g) o run legal = end_kept s past u g o run legal.on_parts
kept s past other o run legal = omega arith

counted : (s : Setting) (past : History) (o : ℕ) → IsRun s past → signals s past o ≡ over s past o
counted s [] o run = refl
counted s (e ∷ past) o run =
    let before = counted s past o run.0 in
    let step = kept s past e o run.0 run.1 in
    omega (arith, before, step)

last_on : (finish here last : Bool) → (finish && here) ≡ true → (finish && (here && last)) ≡ last
last_on true true last on = refl
last_on true false last on = cc on
last_on false here last on = cc on

last_off : (finish here last : Bool) → (finish && here) ≡ false → (finish && (here && last)) ≡ false
last_off true true last off = cc off
last_off true false last off = refl
last_off false here last off = refl

abbrev IsMoment : Setting → History → What → Bool → ℕ → ℕ → Type 0
IsMoment s past w done t o =
    (if is_leave w then sent_to o (if done then sent_by_message w (parts_of s past) else []) else [])
    ≡ (if (identity_of past t).finish && is_last_leave s past (identity_of past t).scope w then what.Satisfy o 0 0 ∷ [] else [])

leave_moment : (s : Setting) (past : History) (x t o : ℕ) → IsRun s past → HasMember ((parts_of s past).face x) → owner past o ≡ Some (identity_of past t) → IsMoment s past (what.Leave x) true t o
leave_moment s past x t o run has owns =
    let i : Identity = identity_of past t in
    let last : ℕ → Bool = λ y. members_on ((parts_of s past).face y) == 1 in
    let there = is_scope (made s past x) (scope_calls past x) (has_in s past x has) in
    let sent : Bool → List What = λ b. if b then what.Satisfy o 0 0 ∷ [] else [] in
    elim (i.finish && (x == i.scope)) as (λ b. (i.finish && (x == i.scope)) ≡ b → sent_to o (sent_by_leave ((parts_of s past).face x)) ≡ sent (i.finish && ((x == i.scope) && last i.scope))) [
      | true ↦ λ here.
          its_leave s past x o run there i owns here
          ∙ ap (λ (n : ℕ). sent (n == 1)) (sym (members_are s past x))
          ∙ ap (λ (n : ℕ). sent (last n)) (eqb-true x i.scope (and_parts i.finish (x == i.scope) here).1)
          ∙ sym (ap sent (last_on i.finish (x == i.scope) (last i.scope) here))
      | false ↦ λ apart.
          no_longer (sent_to o (sent_by_leave ((parts_of s past).face x))) (not_its_leave s past x o run there i owns apart)
          ∙ sym (ap sent (last_off i.finish (x == i.scope) (last i.scope) apart))
    ] refl

-- nothing else that is delivered is an end
no_moment : (finish : Bool) (m : What) → [] ≡ (if finish && false then m ∷ [] else [])
no_moment true m = refl
no_moment false m = refl

brought_moment : (s : Setting) (past : History) (w : What) (c : Code) (t o : ℕ) → IsRun s past → IsDeliverOn (parts_of s past) w c → owner past o ≡ Some (identity_of past t) → IsMoment s past w (is_done c) t o
brought_moment s past (what.Leave x) c t o run legal owns = subst (λ (d : Code). IsMoment s past (what.Leave x) (is_done d) t o) (sym legal.1) (leave_moment s past x t o run legal.0 owns)
brought_moment s past (what.Set e i p) c t o run legal owns = no_moment (identity_of past t).finish (what.Satisfy o 0 0)
brought_moment s past (what.Satisfy e i p) c t o run legal owns = no_moment (identity_of past t).finish (what.Satisfy o 0 0)

end_moment : (s : Setting) (past : History) (u g t o : ℕ) → IsRun s past → IsEndOn (parts_of s past) u → owner past o ≡ Some (identity_of past t)
    → sent_to o (sends (End u g) (parts_of s past)) ≡ (if not (identity_of past t).finish && (u == t) then what.Satisfy o 0 (payload_of_end ((parts_of s past).face g) g) ∷ [] else [])
end_moment s past u g t o run legal owns =
    let i : Identity = identity_of past t in
    let sent : Bool → List What = λ b. if b then what.Satisfy o 0 (payload_of_end ((parts_of s past).face g) g) ∷ [] else [] in
    elim (not i.finish && (u == i.edt)) as (λ b. (not i.finish && (u == i.edt)) ≡ b → sent_to o (sends (End u g) (parts_of s past)) ≡ sent b) [
      | true ↦ λ here. its_end s past u g o run legal i owns here
      | false ↦ λ apart. no_longer (sent_to o (sends (End u g) (parts_of s past))) (not_its_end s past u g o run legal i owns apart)
    ] refl
    ∙ ap (λ (n : ℕ). sent (not i.finish && (u == n))) (number_is past t)

owns_output : (s : Setting) (past : History) (t : ℕ) → IsRun s past → (output_of past t == 0) ≡ false → owner past (output_of past t) ≡ Some (identity_of past t)
owns_output s past t run some = has_owner s past t (output_of past t) run (named_self (output_of past t) some)

pub moment_law : MomentLaw
moment_law s past (Deliver m c) t run legal there some = brought_moment s past m.what c t (output_of past t) run legal.on_parts (owns_output s past t run some)
moment_law s past (End u g) t run legal there some = end_moment s past u g t (output_of past t) run legal.on_parts (owns_output s past t run some)
moment_law s past other t run legal there some = refl

pub once_law : OnceLaw
once_law s past t run there some =
    let owns = owns_output s past t run some in
    counted s past (output_of past t) run
    ∙ ap (over_by (members_at s past) (is_ended past)) owns
    ∙ ap (λ (n : ℕ). one (if (identity_of past t).finish then members_at s past (identity_of past t).scope == 0 else is_ended past n)) (number_is past t)
    ∙ ap (λ (n : ℕ). one (if (identity_of past t).finish then n == 0 else is_ended past t)) (sym (members_are s past (identity_of past t).scope))

pub own_law : OwnLaw
own_law s past t u run t_there u_there some is =
    let names = named_self (output_of past t) some in
    let one_owns = has_owner s past t (output_of past t) run names in
    let other_owns = has_owner s past u (output_of past t) run (ap (λ (n : ℕ). names_new n (output_of past t)) (sym is) ∙ names) in
    let who : identity_of past t ≡ identity_of past u = one_identity (identity_of past t) (identity_of past u) (sym one_owns ∙ other_owns) in
    sym (number_is past t) ∙ ap (λ (k : Identity). k.edt) who ∙ number_is past u

pub other_law : OtherLaw
other_law s past o run none = elim (owner past o) as (λ k. owner past o ≡ k → signals s past o ≡ 0) [
  | None ↦ λ is. counted s past o run ∙ ap (over_by (members_at s past) (is_ended past)) is
  | Some i ↦ λ is. absurd (
      let owns = owner_law s past o i run is in
      let off = ap (λ (k : Identity). names_new k.output o) (sym owns.who) ∙ none i.edt owns.edt in
      let names = owns.names in
      cc (names, off))
] refl

pub end_law : EndLaw
end_law s past t g o finish =
    let i : Identity = identity_on ((parts_of s past).core t) in
    end_sent o i (payload_of_end ((parts_of s past).face g) g)
    ∙ ap (λ (b : Bool). if not b && names_new i.output o then what.Satisfy i.output 0 (payload_of_end ((parts_of s past).face g) g) ∷ [] else []) finish

pub ended_law : EndedLaw
ended_law s past t run there through =
    let x : ℕ = (identity_of past t).scope in
    elim (identity_of past t).finish as (λ b. (identity_of past t).finish ≡ b → (if b then members_on ((parts_of s past).face (identity_of past t).scope) == 0 else is_ended past t) ≡ true → is_ended past t ≡ true) [
      | true ↦ λ finish empty. finish_law s past x 0 x t run (eqb-true (members_on ((parts_of s past).face x)) 0 empty) (same x) there (named_self x (finish_home s past t run finish))
      | false ↦ λ _ is. is
    ] refl through
