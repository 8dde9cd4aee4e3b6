-- The members of a scope: each entry takes from them what it delivers, and adds what it makes.
use Rattle.std.proofs.Common.{◌≡◌, ℕ, zero, suc, ◌+◌, ◌-◌, ◌<◌, ◌≤◌, nat_lt, List, [], ◌∷◌, ◌++◌, map, Bool, true, false, not, ◌&&◌, ◌||◌, ◌==◌, if◌then◌else◌, Option, Some, None, refl, sym, ◌∙◌, ap, subst, arith, length}
use Rattle.std.specs.Prelude.{slice_index_or}
use Rattle.std.proofs.lemmas.Bool.{eqb-true}
use Rattle.std.proofs.lemmas.Grind.{common_steps}
use Rattle.ocr_base.proofs.Booleans.{same, and_false}
use Rattle.ocr_guid.specs.declared.Code.{Code}
use Rattle.ocr_guid.specs.declared.target.Target.{Target}
use Rattle.ocr_guid.specs.Target.{sent_by_firing, sent_by_linking}
use Rattle.ocr_event_any.specs.AnyEvent as event
use Rattle.ocr_edt.specs.declared.Identity.{Identity}
use Rattle.ocr_edt.specs.Edt as edt
use Rattle.ocr_finish.specs.declared.Leaving.TheVariants as leaving
use Rattle.ocr_finish.specs.Scope.{ScopeCall, Parting, State, state_of}
use Rattle.ocr_body_meaning.specs.Holds.{is_done}
use Rattle.ocr_body_meaning.specs.declared.call.Call as body
use Rattle.ocr_body_meaning.specs.declared.call.Call.TheVariants as call
use Rattle.ocr_body_meaning.specs.declared.call.Answer.{Answer}
use Rattle.ocr_machine_history.specs.declared.entry.Entry.{Entry}
use Rattle.ocr_machine_history.specs.declared.entry.Entry.TheVariants.{Call, Deliver, End}
use Rattle.ocr_machine_history.specs.declared.entry.What.{What}
use Rattle.ocr_machine_history.specs.declared.entry.What.TheVariants as what
use Rattle.ocr_machine_history.specs.Edts.{is_ended}
use Rattle.ocr_machine_history.specs.declared.objects.TheConstants.{ARGUMENTS, MAIN_EDT}
use Rattle.ocr_machine_history.specs.History.{History, Setting}
use Rattle.ocr_machine_history.specs.Made.{Made, MadeEdt, made, makes, names_new, is_edt, is_edt_made}
use Rattle.ocr_machine_parts.specs.declared.loans.Kept.{Kept}
use Rattle.ocr_machine_parts.specs.declared.part.Part.{Part}
use Rattle.ocr_machine_parts.specs.declared.part.Part.TheVariants as part
use Rattle.ocr_machine_parts.specs.Calls.{is_given, is_object, slot_target, target_of, edt_calls, loans_of, leave_step, scope_calls}
use Rattle.ocr_machine_parts.specs.Parts.{Parts, core, home_of_new, new_identity, identity_of, parts_of}
use Rattle.ocr_machine_parts.specs.Progress.{linked_if}
use Rattle.ocr_machine_parts.specs.Kinds.{is_edt_face, identity_on, is_running}
use Rattle.ocr_machine_parts.specs.Messages.{what_to, carried_by, satisfied, linked, linked_by, dep_sends, satisfy_some, leave_some, sent_by_leave, sent_by_message, payload_of_end, sent_if_done, sent_by_end, sends, pending}
use Rattle.ocr_machine_parts.specs.LegalOn.{IsFresh, IsBeside, HasMember, IsDeliverOn, IsCallOn, IsEndOn}
use Rattle.ocr_machine_parts.specs.Legal.{IsRun, IsLegal}
use Rattle.ocr_machine_parts.proofs.Phases.{identity_is}
use Rattle.ocr_machine_parts.proofs.Within.{made_none}
use Rattle.ocr_machine_laws.specs.Marks.{mark}
use Rattle.ocr_machine_laws.specs.Members.{how_many, numbers, is_member_edt, is_member_scope, is_leave_of, leaves, members_on, member_edts, MembersLaw, LeavingLaw}
use Rattle.ocr_machine_laws.proofs.Edts.{edts_law}
use Rattle.ocr_machine_laws.proofs.Quietness.{above_law}
use Rattle.ocr_machine_laws.proofs.Stages.{told_law}
use Rattle.ocr_machine_laws.proofs.Counts.{one, one_on, one_off, same_many, one_many, none_many}
use Rattle.ocr_machine_laws.proofs.Own.{running_mark}
use Rattle.ocr_machine_laws.proofs.Named.{carried, weight, weight_append}
use Rattle.ocr_machine_laws.proofs.Weighed.{waiting, undelivered, going, sent_more}
use Rattle.ocr_machine_laws.proofs.Scopes.{scope_in, scope_at, members_in, is_inner, HasIn, sent_in, members_are, inner_is, has_in, sent_is, scope_made, none_scope, call_scopes, left, left_one, joined, new_apart, home_has, edt_scopes}

-- MESSAGES THAT LEAVE a scope
abbrev leave_one : ℕ → What → ℕ
leave_one x w = one (is_leave_of x w)

leaves_are : (x : ℕ) (ms : List (ℕ × ℕ × What)) → leaves x ms ≡ carried (leave_one x) ms
leaves_are x [] = refl
leaves_are x (m ∷ rest) = let r = leaves_are x rest in omega (arith, r)

target_none : (x : ℕ) (p : ℕ × Target) → leave_one x (what_to p) ≡ 0
target_none x p = elim p.1.is_edt as (λ b. leave_one x (if b then what.Set p.1.object p.1.slot p.0 else what.Satisfy p.1.object p.1.slot p.0) ≡ 0) [ true ↦ refl | false ↦ refl ]

targets_none : (x : ℕ) (ps : List (ℕ × Target)) → weight (leave_one x) (map what_to ps) ≡ 0
targets_none x [] = refl
targets_none x (p ∷ ps) = let r = targets_none x ps in let z = target_none x p in omega (arith, r, z)

satisfied_none : (x : ℕ) (y : Part) (slot p : ℕ) → weight (leave_one x) (satisfied y slot p) ≡ 0
satisfied_none x (part.Event st) slot p = targets_none x (sent_by_firing (carried_by st p) (event.on_satisfy st slot p))
satisfied_none x other slot p = refl

linked_none : (x : ℕ) (y : Part) (d : ℕ) (t : Target) → weight (leave_one x) (linked y d t) ≡ 0
linked_none x (part.Event st) d t = targets_none x (sent_by_linking t (event.on_link st))
linked_none x other d t = targets_none x ((d, t) ∷ [])

source_none : (x : ℕ) (b : Bool) (d : ℕ) (t : Target) (f : Parts) → weight (leave_one x) (linked_by b d t f) ≡ 0
source_none x true d t f = linked_none x (f.face d) d t
source_none x false d t f = targets_none x ((d, t) ∷ [])

none_if : (x : ℕ) (b : Bool) (ws : List What) → weight (leave_one x) ws ≡ 0 → weight (leave_one x) (if b then ws else []) ≡ 0
none_if x true ws none = none
none_if x false ws none = refl

deps_none : (x t k : ℕ) (ds : List ℕ) (f : Parts) → weight (leave_one x) (dep_sends t k ds f) ≡ 0
deps_none x t k [] f = refl
deps_none x t k (d ∷ rest) f =
    let here : List What = if is_given d then linked_by (is_object d) d (slot_target t k) f else [] in
    let there : List What = dep_sends t (k + 1) rest (linked_if (is_object d) d (slot_target t k) f) in
    let first = none_if x (is_given d) (linked_by (is_object d) d (slot_target t k) f) (source_none x (is_object d) d (slot_target t k) f) in
    let r = deps_none x t (k + 1) rest (linked_if (is_object d) d (slot_target t k) f) in
    let s = weight_append (leave_one x) here there in
    omega (arith, first, r, s)

some_none : (x e p : ℕ) → weight (leave_one x) (satisfy_some e p) ≡ 0
some_none x e p = elim (e == 0) as (λ b. weight (leave_one x) (if b then [] else what.Satisfy e 0 p ∷ []) ≡ 0) [ true ↦ refl | false ↦ refl ]

some_leave : (x y : ℕ) → weight (leave_one x) (leave_some y) ≡ one (names_new y x)
some_leave x y = elim (y == 0) as (λ b. weight (leave_one x) (if b then [] else what.Leave y ∷ []) ≡ one (not b && (y == x))) [ true ↦ refl | false ↦ omega arith ]

both_sent : (x e p y : ℕ) → weight (leave_one x) (satisfy_some e p ++ leave_some y) ≡ one (names_new y x)
both_sent x e p y =
    let a = weight_append (leave_one x) (satisfy_some e p) (leave_some y) in
    let z = some_none x e p in
    let l = some_leave x y in
    omega (arith, a, z, l)

end_sent : (x : ℕ) (i : Identity) (p : ℕ) → weight (leave_one x) (sent_by_end i p) ≡ one (names_new i.scope x)
end_sent x i p = elim i.finish as (λ b. weight (leave_one x) ((if b then [] else satisfy_some i.output p) ++ leave_some i.scope) ≡ one (names_new i.scope x)) [
  | true ↦ some_leave x i.scope
  | false ↦ both_sent x i.output p i.scope
]

call_none : (x : ℕ) (c : body.Call) (a : Answer) (w : List (ℕ × ℕ)) (u home : ℕ) (f : Parts) → weight (leave_one x) (sends (Call u home c a w) f) ≡ 0
call_none x (call.Satisfy e p slot) a w u home f = none_if x (is_done a.code) _ (satisfied_none x (f.face e) slot p)
call_none x (call.AddDependence from y i m) a w u home f = none_if x (is_done a.code) _ (source_none x (not (from == 0)) from (target_of (is_edt_face (f.face y)) y i) f)
call_none x (call.EdtCreate from pc ps dc ds fl o) a w u home f = none_if x (is_done a.code) _ (deps_none x a.value 0 ds f)
call_none x other a w u home f = none_if x (is_done a.code) [] refl

-- THE BALANCE of an entry
abbrev inner_many : Setting → History → ℕ → ℕ
inner_many s past x = how_many (λ y. is_inner x (scope_at s past y)) (numbers s)

abbrev taken : ℕ → Entry → ℕ
taken x (Deliver m c) = leave_one x m.what
taken x other = 0

abbrev IsBalanced : Setting → History → Entry → ℕ → Type 0
IsBalanced s past e x =
    (members_in (scope_at s (e ∷ past) x) + taken x e) + (member_edts s past x + inner_many s past x)
    ≡ (members_in (scope_at s past x) + weight (leave_one x) (sends e (parts_of s past))) + (member_edts s (e ∷ past) x + inner_many s (e ∷ past) x)

unmoved : (s : Setting) (past : History) (e : Entry) (x : ℕ) → taken x e ≡ 0 → weight (leave_one x) (sends e (parts_of s past)) ≡ 0
    → ((g : ℕ) → scope_at s (e ∷ past) g ≡ scope_at s past g) → ((t : ℕ) → is_member_edt (e ∷ past) x t ≡ is_member_edt past x t) → IsBalanced s past e x
unmoved s past e x off none scopes edts =
    let one_scope : members_in (scope_at s (e ∷ past) x) ≡ members_in (scope_at s past x) = ap members_in (scopes x) in
    let inner = same_many (λ y. is_inner x (scope_at s (e ∷ past) y)) (λ y. is_inner x (scope_at s past y)) (numbers s) (λ i _. ap (is_inner x) (scopes i)) in
    let living = same_many (λ t. is_member_edt (e ∷ past) x t) (λ t. is_member_edt past x t) (numbers s) (λ i _. edts i) in
    omega (arith, off, none, one_scope, inner, living)

-- A RUNNING EDT is a member of its home
running_made : (m : Option Made) (i : Identity) (calls : List edt.EdtCall) (loans : List (ℕ × Kept)) → is_running (core m i calls loans) ≡ true → is_edt_made m ≡ true
running_made (Some (MadeEdt f ps n)) i calls loans is = refl
running_made other i calls loans is = cc is

below : (a b : ℕ) → (b ≤ a → ⊥) → a < b
below a b wrong = grind (arith, common_steps)

pub none_edt : (m : Option Made) → is_edt_made m ≡ true → m ≡ None → ⊥
none_edt None is none = cc is
none_edt (Some m) is none = cc none

pub made_below : (s : Setting) (past : History) (g : ℕ) → IsRun s past → (made s past g ≡ None → ⊥) → g < numbers s
made_below s past g run some = below g (numbers s) (λ le. some (above_law s past run g le))

module _ (s : Setting) (past : History) (t : ℕ) (run : IsRun s past) (is : is_running ((parts_of s past).core t) ≡ true) where
  running_edt : is_edt_made (made s past t) ≡ true
  running_edt = running_made (made s past t) (identity_of past t) (edt_calls s past t) (loans_of s past t) is

  pub running_below : t < numbers s
  running_below = made_below s past t run (none_edt (made s past t) running_edt)

  pub running_identity : identity_on ((parts_of s past).core t) ≡ identity_of past t
  running_identity = identity_is (made s past t) (identity_of past t) (edt_calls s past t) (loans_of s past t) running_edt

  pub running_member : (x : ℕ) → is_member_edt past x t ≡ names_new (identity_of past t).scope x
  running_member x =
      let there : is_edt past t ≡ true = sym (edts_law s past run t) ∙ running_edt in
      let live : is_ended past t ≡ false = (told_law s past run t).has_ended ∙ ap (λ (n : ℕ). nat_lt 2 n) (running_mark ((parts_of s past).core t) is) in
      rw (there, live) refl

-- AN EDT ENDS
gone : (is ended was names : Bool) → is ≡ true → ((was && not (is || ended)) && names) ≡ false
gone true ended true names is = refl
gone true ended false names is = refl
gone false ended was names is = cc is

end_balanced : (s : Setting) (past : History) (u r x : ℕ) → IsRun s past → IsEndOn (parts_of s past) u → IsBalanced s past (End u r) x
end_balanced s past u r x run legal =
    let after : ℕ → Bool = λ t. is_member_edt (End u r ∷ past) x t in
    let before : ℕ → Bool = λ t. is_member_edt past x t in
    let living = one_many after before u (numbers s) (running_below s past u run legal.running)
    (λ i off. ap (λ (b : Bool). (is_edt past i && not (b || is_ended past i)) && names_new (identity_of past i).scope x) off) in
    let left : one (after u) ≡ 0 = one_off (after u) (gone (u == u) (is_ended past u) (is_edt past u) (names_new (identity_of past u).scope x) (same u)) in
    let was : one (before u) ≡ one (names_new (identity_of past u).scope x) = ap one (running_member s past u run legal.running x) in
    let sent : weight (leave_one x) (sends (End u r) (parts_of s past)) ≡ one (names_new (identity_of past u).scope x) =
    end_sent x (identity_on ((parts_of s past).core u)) (payload_of_end ((parts_of s past).face r) r) ∙ ap (λ (i : Identity). one (names_new i.scope x)) (running_identity s past u run legal.running) in
    omega (arith, living, left, was, sent)

-- A MEMBER LEAVES
pub left_at : (b : Bool) (m : Option Made) (calls : List ScopeCall) → (b ≡ true → HasIn (scope_in m calls)) → scope_in m (if b then Parting ∷ calls else calls) ≡ (if b then left (scope_in m calls) else scope_in m calls)
left_at true m calls has = left_one m calls (has refl)
left_at false m calls has = refl

left_members : (b : Bool) (o : Option State) → (b ≡ true → HasIn o) → members_in (if b then left o else o) + one b ≡ members_in o
left_members true (Some st) has = let some : 0 < st.members = has refl in omega (arith, some)
left_members true None has = absurd (has refl)
left_members false o has = omega arith

last_gone : (n : ℕ) → (n == 1) ≡ true → ((n - 1) == 0) ≡ true
last_gone n is = ap (λ (k : ℕ). (k - 1) == 0) (eqb-true n 1 is)

pub some_stay : (n : ℕ) → 0 < n → (n == 1) ≡ false → ((n - 1) == 0) ≡ false
some_stay n some off = grind (arith, common_steps)

pub none_gone : (n : ℕ) → 0 < n → (n == 0) ≡ false
none_gone n some = grind (arith, common_steps)

left_sent : (x : ℕ) (o : Option State) → HasIn o → weight (leave_one x) (sent_in o) + one (is_inner x (left o)) ≡ one (is_inner x o)
left_sent x None has = absurd has
left_sent x (Some st) has = elim (st.members == 1) as (λ b. (st.members == 1) ≡ b → weight (leave_one x) (sent_if_done (if b then leaving.Done else leaving.Alive) st) + one (not (st.members - 1 == 0) && names_new st.outer x) ≡ one (not (st.members == 0) && names_new st.outer x)) [
  | true ↦ λ is.
      let sent = both_sent x st.event 0 st.outer in
      let last = last_gone st.members is in
      let some = none_gone st.members has in
      rw (last, some) (omega (arith, sent))
  | false ↦ λ off.
      let more = some_stay st.members has off in
      let some = none_gone st.members has in
      rw (more, some) (omega arith)
] refl

-- A MESSAGE is delivered
abbrev pub left_scope : Setting → History → What → Bool → ℕ → Option State
left_scope s past w done g = scope_in (made s past g) (leave_step w done g (scope_calls past g))

abbrev IsBrought : Setting → History → What → Bool → ℕ → Type 0
IsBrought s past w done x =
    (members_in (left_scope s past w done x) + leave_one x w) + (member_edts s past x + inner_many s past x)
    ≡ (members_in (scope_at s past x) + weight (leave_one x) (if done then sent_by_message w (parts_of s past) else [])) + (member_edts s past x + how_many (λ y. is_inner x (left_scope s past w done y)) (numbers s))

leave_balanced : (s : Setting) (past : History) (y x : ℕ) → IsRun s past → HasMember ((parts_of s past).face y) → IsBrought s past (what.Leave y) true x
leave_balanced s past y x run member =
    let has : HasIn (scope_at s past y) = has_in s past y member in
    let there : (g : ℕ) → (y == g) ≡ true → HasIn (scope_at s past g) = λ g is. subst (λ (n : ℕ). HasIn (scope_at s past n)) (eqb-true y g is) has in
    let now : (g : ℕ) → left_scope s past (what.Leave y) true g ≡ (if y == g then left (scope_at s past g) else scope_at s past g) = λ g. left_at (y == g) (made s past g) (scope_calls past g) (there g) in
    let members : members_in (left_scope s past (what.Leave y) true x) + one (y == x) ≡ members_in (scope_at s past x) =
    ap (λ (o : Option State). members_in o + one (y == x)) (now x) ∙ left_members (y == x) (scope_at s past x) (there x) in
    let inner = one_many (λ g. is_inner x (left_scope s past (what.Leave y) true g)) (λ g. is_inner x (scope_at s past g)) y (numbers s) (made_below s past y run (scope_made s past y has))
    (λ i off. ap (is_inner x) (now i) ∙ ap (λ (b : Bool). is_inner x (if b then left (scope_at s past i) else scope_at s past i)) off) in
    let here : one (is_inner x (left_scope s past (what.Leave y) true y)) ≡ one (is_inner x (left (scope_at s past y))) =
    ap (λ (o : Option State). one (is_inner x o)) (now y) ∙ ap (λ (b : Bool). one (is_inner x (if b then left (scope_at s past y) else scope_at s past y))) (same y) in
    let sent = left_sent x (scope_at s past y) has in
    let messages : weight (leave_one x) (sent_by_leave ((parts_of s past).face y)) ≡ weight (leave_one x) (sent_in (scope_at s past y)) = ap (weight (leave_one x)) (sent_is s past y) in
    omega (arith, members, inner, here, sent, messages)

brought_balanced : (s : Setting) (past : History) (w : What) (c : Code) (x : ℕ) → IsRun s past → IsDeliverOn (parts_of s past) w c → IsBrought s past w (is_done c) x
brought_balanced s past (what.Leave y) c x run legal = subst (λ (d : Code). IsBrought s past (what.Leave y) (is_done d) x) (sym legal.1) (leave_balanced s past y x run legal.0)
brought_balanced s past (what.Set e i p) c x run legal = let none = none_if x (is_done c) [] refl in omega (arith, none)
brought_balanced s past (what.Satisfy e i p) c x run legal = let none = none_if x (is_done c) (satisfied ((parts_of s past).face e) i p) (satisfied_none x ((parts_of s past).face e) i p) in omega (arith, none)

-- AN EDT IS MADE
edt_old : (makes was ended : Bool) (new old : Identity) (x : ℕ) → makes ≡ false → (((makes || was) && not ended) && names_new (if makes then new else old).scope x) ≡ ((was && not ended) && names_new old.scope x)
edt_old true was ended new old x off = cc off
edt_old false was ended new old x off = refl

edt_new : (makes was ended : Bool) (new old : Identity) (x : ℕ) → makes ≡ true → ended ≡ false → (((makes || was) && not ended) && names_new (if makes then new else old).scope x) ≡ names_new new.scope x
edt_new true was false new old x is live = refl
edt_new true was true new old x is live = cc live
edt_new false was ended new old x is live = cc is

-- what its scope and its home count then
grown_members : (own home : Bool) (o : Option State) (outer event : ℕ) → (own ≡ true → (home ≡ false) × (o ≡ None)) → (home ≡ true → HasIn o)
    → members_in (if own then Some (state_of outer event []) else if home then joined o else o) ≡ members_in o + (one own + one home)
grown_members true true o outer event apart has = cc (apart refl).0
grown_members true false o outer event apart has = ap (λ (p : Option State). members_in p + (1 + 0)) (sym (apart refl).1)
grown_members false true (Some st) outer event apart has = omega arith
grown_members false true None outer event apart has = absurd (has refl)
grown_members false false o outer event apart has = omega arith

grown_inner : (x : ℕ) (home : Bool) (o : Option State) → (home ≡ true → HasIn o) → is_inner x (if home then joined o else o) ≡ is_inner x o
grown_inner x true (Some st) has =
    let some = none_gone st.members (has refl) in
    let more = none_gone (st.members + 1) (omega arith) in
    rw (some, more) refl
grown_inner x true None has = absurd (has refl)
grown_inner x false o has = refl

-- a finish EDT is counted by its scope, and its scope by its maker's home; another EDT by that home
by_flag : (finish : Bool) (own home x : ℕ) → (finish ≡ false → own ≡ 0) → one (names_new (if finish then own else home) x) + one (finish && names_new home x) ≡ one (names_new own x) + one (names_new home x)
by_flag true own home x none = refl
by_flag false own home x none = let off : one (names_new own x) ≡ 0 = ap (λ (n : ℕ). one (names_new n x)) (none refl) in omega (arith, off)

beside_new : (b : Bool) (limit : ℕ) (f : Parts) (other n : ℕ) → IsBeside b limit f other n → b ≡ true → IsFresh limit f n
beside_new true limit f other n is on = is.0
beside_new false limit f other n is on = cc on

beside_zero : (b : Bool) (limit : ℕ) (f : Parts) (other n : ℕ) → IsBeside b limit f other n → b ≡ false → n ≡ 0
beside_zero true limit f other n is off = cc off
beside_zero false limit f other n is off = is

apart_named : (n g : ℕ) → (n == g) ≡ false → names_new n g ≡ false
apart_named n g off = ap (λ (b : Bool). not (n == 0) && b) off ∙ and_false (not (n == 0))

own_named : (n : ℕ) → 1 ≤ n → names_new n n ≡ true
own_named n some = rw (none_gone n some, same n) refl

module _ (s : Setting) (past : History) (u home from pc dc fl : ℕ) (ps ds : List ℕ) (o : Bool) (a : Answer) (w : List (ℕ × ℕ)) (x : ℕ) (run : IsRun s past) (legal : IsCallOn s.limit (parts_of s past) u home (call.EdtCreate from pc ps dc ds fl o) a w) where
  refused_balanced : is_done a.code ≡ false → IsBalanced s past (Call u home (call.EdtCreate from pc ps dc ds fl o) a w) x
  refused_balanced off = unmoved s past (Call u home (call.EdtCreate from pc ps dc ds fl o) a w) x refl
      (call_none x (call.EdtCreate from pc ps dc ds fl o) a w u home (parts_of s past))
      (λ g. edt_scopes s past u home from pc dc fl ps ds o a w legal g
      ∙ ap (λ (b : Bool). if b && names_new a.scope g then Some (state_of home a.output []) else if b && names_new home g then joined (scope_at s past g) else scope_at s past g) off)
      (λ t. edt_old (makes a t) (is_edt past t) (is_ended past t) (new_identity t fl a home) (identity_of past t) x (ap (λ (b : Bool). b && (a.value == t)) off))

  edts_more : is_done a.code ≡ true → member_edts s (Call u home (call.EdtCreate from pc ps dc ds fl o) a w ∷ past) x ≡ member_edts s past x + one (names_new (home_of_new fl a home) x)
  edts_more on =
      let after : ℕ → Bool = λ t. is_member_edt (Call u home (call.EdtCreate from pc ps dc ds fl o) a w ∷ past) x t in
      let before : ℕ → Bool = λ t. is_member_edt past x t in
      let within = (legal.value.named.fresh on).within in
      let none : is_edt past a.value ≡ false = sym (edts_law s past run a.value) ∙ ap is_edt_made (made_none s past a.value (legal.value.named.fresh on).vacant) in
      let live : is_ended past a.value ≡ false = (told_law s past run a.value).has_ended ∙ ap (λ (y : Part). nat_lt 2 (mark y).0) (legal.value.no_core on) in
      let is : makes a a.value ≡ true = rw (on, same a.value) refl in
      let many = one_many after before a.value (numbers s) (omega (arith, within))
      (λ i off. edt_old (makes a i) (is_edt past i) (is_ended past i) (new_identity i fl a home) (identity_of past i) x (ap (λ (b : Bool). is_done a.code && b) off ∙ and_false (is_done a.code))) in
      let new : one (after a.value) ≡ one (names_new (home_of_new fl a home) x) =
      ap one (edt_new (makes a a.value) (is_edt past a.value) (is_ended past a.value) (new_identity a.value fl a home) (identity_of past a.value) x is live) in
      let old : one (before a.value) ≡ 0 = ap (λ (b : Bool). one ((b && not (is_ended past a.value)) && names_new (identity_of past a.value).scope x)) none in
      omega (arith, many, new, old)

  scopes_now : is_done a.code ≡ true → (g : ℕ) → scope_at s (Call u home (call.EdtCreate from pc ps dc ds fl o) a w ∷ past) g
      ≡ (if names_new a.scope g then Some (state_of home a.output []) else if names_new home g then joined (scope_at s past g) else scope_at s past g)
  scopes_now on g = edt_scopes s past u home from pc dc fl ps ds o a w legal g
      ∙ ap (λ (b : Bool). if b && names_new a.scope g then Some (state_of home a.output []) else if b && names_new home g then joined (scope_at s past g) else scope_at s past g) on

  there : is_done a.code ≡ true → (g : ℕ) → names_new home g ≡ true → HasIn (scope_at s past g)
  there on g is = home_has s past u home from pc dc fl ps ds o a w legal on g is

  inner_old : is_done a.code ≡ true → (g : ℕ) → names_new a.scope g ≡ false → is_inner x (scope_at s (Call u home (call.EdtCreate from pc ps dc ds fl o) a w ∷ past) g) ≡ is_inner x (scope_at s past g)
  inner_old on g off =
      ap (is_inner x) (scopes_now on g)
      ∙ (ap (λ (b : Bool). is_inner x (if b then Some (state_of home a.output []) else if names_new home g then joined (scope_at s past g) else scope_at s past g)) off
      ∙ grown_inner x (names_new home g) (scope_at s past g) (there on g))

  inner_more : is_done a.code ≡ true → inner_many s (Call u home (call.EdtCreate from pc ps dc ds fl o) a w ∷ past) x ≡ inner_many s past x + one ((fl == 1) && names_new home x)
  inner_more on =
      let after : ℕ → Bool = λ g. is_inner x (scope_at s (Call u home (call.EdtCreate from pc ps dc ds fl o) a w ∷ past) g) in
      let before : ℕ → Bool = λ g. is_inner x (scope_at s past g) in
      elim (fl == 1) as (λ b. (fl == 1) ≡ b → how_many after (numbers s) ≡ how_many before (numbers s) + one (b && names_new home x)) [
        | true ↦ λ is.
            let fresh = beside_new (is_done a.code && (fl == 1)) s.limit (parts_of s past) a.value a.scope legal.scope (rw (on, is) refl) in
            let within = fresh.within in
            let many = one_many after before a.scope (numbers s) (omega (arith, within)) (λ i off. inner_old on i (apart_named a.scope i off)) in
            let new : one (after a.scope) ≡ one (names_new home x) =
            ap (λ (p : Option State). one (is_inner x p)) (scopes_now on a.scope)
            ∙ ap (λ (b : Bool). one (is_inner x (if b then Some (state_of home a.output []) else if names_new home a.scope then joined (scope_at s past a.scope) else scope_at s past a.scope))) (own_named a.scope fresh.some) in
            let old : one (before a.scope) ≡ 0 = ap (λ (p : Option State). one (is_inner x p)) (none_scope s past a.scope (made_none s past a.scope fresh.vacant)) in
            omega (arith, many, new, old)
        | false ↦ λ off.
            let zero = beside_zero (is_done a.code && (fl == 1)) s.limit (parts_of s past) a.value a.scope legal.scope (rw (off, and_false (is_done a.code)) refl) in
            let many = same_many after before (numbers s) (λ i _. inner_old on i (ap (λ (n : ℕ). names_new n i) zero)) in
            omega (arith, many)
      ] refl

  made_balanced : is_done a.code ≡ true → IsBalanced s past (Call u home (call.EdtCreate from pc ps dc ds fl o) a w) x
  made_balanced on =
      let none = call_none x (call.EdtCreate from pc ps dc ds fl o) a w u home (parts_of s past) in
      let edts = edts_more on in
      let inner = inner_more on in
      let flag = by_flag (fl == 1) a.scope home x (λ off. beside_zero (is_done a.code && (fl == 1)) s.limit (parts_of s past) a.value a.scope legal.scope (rw (off, and_false (is_done a.code)) refl)) in
      let members = ap members_in (scopes_now on x) ∙ grown_members (names_new a.scope x) (names_new home x) (scope_at s past x) home a.output
      (λ own. new_apart s past u home from pc dc fl ps ds o a w legal on x (rw (on, own) refl)) (there on x) in
      omega (arith, none, edts, inner, flag, members)

  pub edt_balanced : IsBalanced s past (Call u home (call.EdtCreate from pc ps dc ds fl o) a w) x
  edt_balanced = elim (is_done a.code) as (λ b. is_done a.code ≡ b → IsBalanced s past (Call u home (call.EdtCreate from pc ps dc ds fl o) a w) x) [
    | true ↦ λ on. made_balanced on
    | false ↦ λ off. refused_balanced off
  ] refl

-- EACH ENTRY
balanced : (s : Setting) (past : History) (e : Entry) (x : ℕ) → IsRun s past → IsLegal s past e → IsBalanced s past e x
balanced s past (Call u home (call.EdtCreate from pc ps dc ds fl o) a w) x run legal = edt_balanced s past u home from pc dc fl ps ds o a w x run legal.on_parts
balanced s past (Call u home other a w) x run legal =
    unmoved s past (Call u home other a w) x refl (call_none x other a w u home (parts_of s past)) (call_scopes s past u home other a w refl legal.on_parts) (λ t. refl)
balanced s past (Deliver m c) x run legal = brought_balanced s past m.what c x run legal.on_parts
balanced s past (End u r) x run legal = end_balanced s past u r x run legal.on_parts
balanced s past other x run legal = unmoved s past other x refl refl (λ g. refl) (λ t. refl)

-- THE EQUATION
kept_waiting : (s : Setting) (past : History) (e : Entry) (x : ℕ) → IsLegal s past e → undelivered (leave_one x) s past e + taken x e ≡ waiting (leave_one x) s past
kept_waiting s past (Deliver m c) x legal = going (leave_one x) s past m c legal
kept_waiting s past other x legal = omega arith

abbrev IsCounted : Setting → History → ℕ → Type 0
IsCounted s past x = members_in (scope_at s past x) ≡ member_edts s past x + (inner_many s past x + waiting (leave_one x) s past)

opened_scope : (b c : Bool) (x y : Made) (calls : List ScopeCall) → scope_in (Some x) calls ≡ None → scope_in (Some y) calls ≡ None → scope_in (if b then Some x else if c then Some y else None) calls ≡ None
opened_scope true c x y calls one two = one
opened_scope false true x y calls one two = two
opened_scope false false x y calls one two = refl

pub opened_scopes : (s : Setting) (g : ℕ) → scope_at s [] g ≡ None
opened_scopes s g = opened_scope (g == ARGUMENTS) (g == MAIN_EDT) _ _ [] refl refl

counted : (s : Setting) (past : History) (x : ℕ) → IsRun s past → IsCounted s past x
counted s [] x run =
    let members : members_in (scope_at s [] x) ≡ 0 = ap members_in (opened_scopes s x) in
    let edts = none_many (λ t. is_member_edt [] x t) (numbers s) (λ t. and_false ((t == MAIN_EDT) && true)) in
    let inner = none_many (λ g. is_inner x (scope_at s [] g)) (numbers s) (λ g. ap (is_inner x) (opened_scopes s g)) in
    omega (arith, members, edts, inner)
counted s (e ∷ past) x run =
    let before = counted s past x run.0 in
    let balance = balanced s past e x run.0 run.1 in
    let kept = kept_waiting s past e x run.1 in
    let sent = sent_more (leave_one x) s past e in
    omega (arith, before, balance, kept, sent)

pub members_law : MembersLaw
members_law s past x run =
    let count = counted s past x run in
    let members = members_are s past x in
    let inner = same_many (λ y. is_member_scope x ((parts_of s past).face y)) (λ y. is_inner x (scope_at s past y)) (numbers s) (λ i _. inner_is s past x i) in
    let mail = leaves_are x (pending s past) in
    omega (arith, count, members, inner, mail)

-- A LEAVE that is pending finds a member
some_leaves : (x : ℕ) (ms : List (ℕ × ℕ × What)) (k : ℕ) (d m : ℕ × ℕ × What) → k < length ms → slice_index_or ms k d ≡ m → is_leave_of x m.2 ≡ true → 1 ≤ leaves x ms
some_leaves x [] k d m lt at is = absurd (omega (arith, lt))
some_leaves x (m ∷ rest) zero d other lt at is = let on : one (is_leave_of x m.2) ≡ 1 = one_on (is_leave_of x m.2) (ap (λ (n : ℕ × ℕ × What). is_leave_of x n.2) at ∙ is) in omega (arith, on)
some_leaves x (m ∷ rest) (suc k) d other lt at is = let r = some_leaves x rest k d other (omega (arith, lt)) at is in omega (arith, r)

has_member : (y : Part) → 1 ≤ members_on y → HasMember y
has_member (part.Scope st) some = some
has_member other some = absurd (omega (arith, some))

pub leaving_law : LeavingLaw
leaving_law s past place index x run here =
    let count = members_law s past x run in
    let some = some_leaves x (pending s past) here.0 (place, index, what.Leave x) (place, index, what.Leave x) here.1 here.2 (same x) in
    has_member ((parts_of s past).face x) (omega (arith, count, some))
