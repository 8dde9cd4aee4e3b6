-- What is told of a call that comes next.
use Rattle.std.proofs.lemmas.Grind.{common_steps}
use Rattle.std.proofs.Common.{◌≡◌, ◌≤◌, ℕ, suc, arith, ◌==◌, ◌+◌, ◌/◌, List, [], Bool, true, false, if◌then◌else◌, ◌&&◌, Option, Some, None, refl, sym, ◌∙◌, ap, subst, slice_index}
use Rattle.std.proofs.lemmas.Bool.{and_parts}
use Rattle.ocr_guid.specs.Target.{EventCall}
use Rattle.ocr_guid.specs.declared.Code.{Code}
use Rattle.ocr_guid.specs.Code.{number_of}
use Rattle.ocr_acquire.specs.declared.Mode.{Mode}
use Rattle.ocr_finish.specs.Scope.{ScopeCall}
use Rattle.ocr_body_meaning.specs.Holds.{is_done}
use Rattle.ocr_body_meaning.specs.declared.call.Call as body
use Rattle.ocr_body_meaning.specs.declared.call.Call.TheVariants as call
use Rattle.ocr_body_meaning.specs.declared.call.Answer.{Answer}
use Rattle.ocr_edt.specs.declared.Identity.{Identity}
use Rattle.ocr_machine_history.specs.History.{History, Setting}
use Rattle.ocr_machine_history.specs.Made.{Made, MadeBlock, MadeEdt, MadeEvent, MadeScope, MadeTemplate, made}
use Rattle.ocr_machine_parts.specs.declared.part.Part.{Part}
use Rattle.ocr_machine_parts.specs.declared.part.Part.TheVariants as part
use Rattle.ocr_machine_parts.specs.Calls.{edt_calls, loans_of, link_calls, block_calls, event_calls, scope_calls}
use Rattle.ocr_machine_parts.specs.Parts.{Parts, face, core, parts_of, identity_of}
use Rattle.ocr_machine_parts.specs.Kinds.{IsBlock, is_running, mode_on, home_on}
use Rattle.ocr_machine_parts.specs.Codes.{code_of}
use Rattle.ocr_machine_parts.specs.LegalOn.{IsFresh, IsNamed, IsShared, IsLoaded, IsBeside, IsScoped, HasOutput, IsAtHome, IsHome, IsJoinable, last_of, IsCallOn}
use Rattle.ocr_machine_parts.specs.Legal.{IsRun}
use Rattle.ocr_machine_state.specs.State.{state_in, face_on, core_on, IsStateOf}
use Rattle.ocr_machine_state.specs.declared.state.State.{State}
use Rattle.ocr_replay_legality.specs.Tests.{Whether}
use Rattle.ocr_machine_laws.specs.Answered.{AnswersSo, IsCallSo}
use Rattle.ocr_replay_legality.specs.Asked.{HasRoomAbove, HasRoom, IsRoom, IsRoomy, one_more, edt_numbers, HasAnswer, weighs, weight_with, CanWeigh}
use Rattle.ocr_machine_laws.proofs.Answered.{call_on}
use Rattle.ocr_replay_legality.proofs.Goes.{not_both, turned}

-- what has no face has no core
coreless_of : (m : Option Made) (links : _) (blocks : _) (events : List EventCall) (scopes : List ScopeCall) (t : Identity) (calls : _) (loans : _) → face m links blocks events scopes ≡ part.Vacant → core m t calls loans ≡ part.Vacant
coreless_of None links blocks events scopes t calls loans is = refl
coreless_of (Some (MadeBlock n c)) links blocks events scopes t calls loans is = cc is
coreless_of (Some (MadeTemplate f pc dc)) links blocks events scopes t calls loans is = cc is
coreless_of (Some (MadeEdt f ps n)) links blocks events scopes t calls loans is = cc is
coreless_of (Some (MadeEvent k fl most)) links blocks events scopes t calls loans is = cc is
coreless_of (Some (MadeScope outer event)) links blocks events scopes t calls loans is = cc is

coreless : (s : Setting) (past : History) (g : ℕ) → (parts_of s past).face g ≡ part.Vacant → (parts_of s past).core g ≡ part.Vacant
coreless s past g is = coreless_of (made s past g) (link_calls past g) (block_calls s past g) (event_calls s past g) (scope_calls past g) (identity_of past g) (edt_calls s past g) (loans_of s past g) is

-- AN ANSWER
abbrev said : Code → ℕ → Answer
said k v = record { code = k; value = v; scope = 0; output = 0 }

-- it may be given, and names a home that may be told
abbrev CanAnswer : ℕ → Parts → ℕ → body.Call → Code → Type 0
CanAnswer limit f t c k =
    (home : ℕ) × (a : Answer) × (a.code ≡ k) × AnswersSo limit f t c a × IsScoped limit f c a × HasOutput limit f c a × IsHome f t home c a

loaded : (x : Part) (t k : ℕ) (m : Option Mode) → IsBlock x (IsShared t k m) → (v : ℕ) × IsBlock x (IsLoaded t k m v)
loaded (part.Block st) t k m shared = (slice_index st.words k, record { shared = shared; word = refl })
loaded other t k m shared = absurd shared

-- a number that is made, where it is accepted
named : (limit : ℕ) (f : Parts) (k : Code) (room : ℕ) → IsRoom limit f room → IsRoomy room 1 (is_done k) → (v : ℕ) × IsNamed limit f (said k v)
named limit f k room roomy on = elim (is_done k) as (λ b. is_done k ≡ b → (v : ℕ) × IsNamed limit f (said k v)) [
  | true ↦ λ is. (let found = (roomy 1).0 (on is) in (found.0, record { fresh = λ _. found.2; refused = λ off. cc (is, off) }))
  | false ↦ λ is. (0, record { fresh = λ yes. cc (is, yes); refused = λ _. refl })
] refl

-- and three of them
some_fresh : (limit : ℕ) (f : Parts) (g : ℕ) → IsFresh limit f g → (g == 0) ≡ false
some_fresh limit f g fresh = let some : 1 ≤ g = fresh.some in grind (arith, common_steps)

-- an output event that is drawn after this number
drawn : (limit : ℕ) (f : Parts) (last : ℕ) (output : Bool) → HasRoomAbove limit f last (one_more output 0) → (g : ℕ) × IsBeside output limit f last g
drawn limit f last true room = (room.0, (room.2, room.1))
drawn limit f last false room = (0, refl)

-- an EDT, its scope and its output event
abbrev Drawn : ℕ → Parts → (scoped output : Bool) → Type 0
Drawn limit f scoped output =
    (v : ℕ) × (scope : ℕ) × (event : ℕ) × IsFresh limit f v × IsBeside scoped limit f v scope × IsBeside output limit f (if scope == 0 then v else scope) event

all_drawn : (limit : ℕ) (f : Parts) (scoped output : Bool) → HasRoom limit f (suc (one_more scoped (one_more output 0))) → Drawn limit f scoped output
all_drawn limit f true output room =
    let rest : HasRoomAbove limit f room.0 (suc (one_more output 0)) = room.3 in
    let event = drawn limit f rest.0 output rest.3 in
    (room.0, rest.0, event.0, room.2, (rest.2, rest.1), rw (some_fresh limit f rest.0 rest.2) event.1)
all_drawn limit f false output room = let event = drawn limit f room.0 output room.3 in (room.0, 0, event.0, room.2, refl, event.1)

drawn_room : (limit : ℕ) (f : Parts) (scoped output : Bool) (v scope event : ℕ) → IsFresh limit f v → IsBeside scoped limit f v scope → IsBeside output limit f (if scope == 0 then v else scope) event
    → HasRoom limit f (suc (one_more scoped (one_more output 0)))
drawn_room limit f scoped output v scope event fresh beside drawn = (v, fresh.some, fresh, above limit f scoped output v scope event beside drawn)
  where
    output_above : (limit : ℕ) (f : Parts) (output : Bool) (last event : ℕ) → IsBeside output limit f last event → HasRoomAbove limit f last (one_more output 0)
    output_above limit f true last event drawn = (event, drawn.1, drawn.0, tt)
    output_above limit f false last event drawn = tt

    above : (limit : ℕ) (f : Parts) (scoped output : Bool) (v scope event : ℕ) → IsBeside scoped limit f v scope → IsBeside output limit f (if scope == 0 then v else scope) event → HasRoomAbove limit f v (one_more scoped (one_more output 0))
    above limit f true output v scope event beside drawn = (
      scope,
      beside.1,
      beside.0,
      output_above limit f output scope event (subst (λ (b : Bool). IsBeside output limit f (if b then v else scope) event) (some_fresh limit f scope beside.0) drawn),
    )
    above limit f false output v scope event beside drawn = output_above limit f output v event (subst (λ (n : ℕ). IsBeside output limit f (if n == 0 then v else n) event) beside drawn)

made_edt : (s : Setting) (past : History) (t from pc dc fl : ℕ) (ps ds : List ℕ) (o : Bool) (k : Code) (room : ℕ) → IsRoom s.limit (parts_of s past) room → IsRoomy room (edt_numbers fl o) (is_done k)
    → IsAtHome (parts_of s past) t (home_on ((parts_of s past).core t)) (is_done k) → CanAnswer s.limit (parts_of s past) t (call.EdtCreate from pc ps dc ds fl o) k
made_edt s past t from pc dc fl ps ds o k room roomy on at_home = elim (is_done k) as (λ b. is_done k ≡ b → CanAnswer s.limit (parts_of s past) t (call.EdtCreate from pc ps dc ds fl o) k) [
  | true ↦ λ is.
      let f : Parts = parts_of s past in
      let all = all_drawn s.limit f (fl == 1) o ((roomy (edt_numbers fl o)).0 (on is)) in
      let a : Answer = record { code = k; value = all.0; scope = all.1; output = all.2 } in (
        home_on (f.core t),
        a,
        refl,
        record { named = record { fresh = λ _. all.3; refused = λ off. cc (is, off) }; no_core = λ _. coreless s past all.0 all.3.vacant },
        subst (λ (b : Bool). IsBeside (b && (fl == 1)) s.limit f all.0 all.1) (sym is) all.4,
        subst (λ (b : Bool). IsBeside (b && o) s.limit f (last_of a) all.2) (sym is) all.5,
        at_home,
      )
  | false ↦ λ is.
      let f : Parts = parts_of s past in (
        home_on (f.core t),
        said k 0,
        refl,
        record { named = record { fresh = λ yes. cc (is, yes); refused = λ _. refl }; no_core = λ yes. cc (is, yes) },
        subst (λ (b : Bool). IsBeside (b && (fl == 1)) s.limit f 0 0) (sym is) refl,
        subst (λ (b : Bool). IsBeside (b && o) s.limit f 0 0) (sym is) refl,
        at_home,
      )
] refl

edt_room : (limit : ℕ) (f : Parts) (t from pc dc fl : ℕ) (ps ds : List ℕ) (o : Bool) (a : Answer) (room : ℕ) (done : Bool) → IsRoom limit f room → is_done a.code ≡ done → IsNamed limit f a
    → IsScoped limit f (call.EdtCreate from pc ps dc ds fl o) a → HasOutput limit f (call.EdtCreate from pc ps dc ds fl o) a → IsRoomy room (edt_numbers fl o) done
edt_room limit f t from pc dc fl ps ds o a room done roomy is named scope output = λ on.
    let yes : is_done a.code ≡ true = is ∙ on in
    (roomy (edt_numbers fl o)).1 (drawn_room limit f (fl == 1) o a.value a.scope a.output (named.fresh yes)
    (subst (λ (b : Bool). IsBeside (b && (fl == 1)) limit f a.value a.scope) yes scope)
    (subst (λ (b : Bool). IsBeside (b && o) limit f (last_of a) a.output) yes output))

answer : (s : Setting) (past : History) (t : ℕ) (c : body.Call) (k : Code) (room : ℕ) → IsRoom s.limit (parts_of s past) room → HasAnswer (parts_of s past) room t c (is_done k) → CanAnswer s.limit (parts_of s past) t c k
answer s past t (call.Print v) k room roomy on = (0, said k 0, refl, refl, refl, refl, refl)
answer s past t (call.Load d w) k room roomy on = let v = loaded ((parts_of s past).face d) t w (mode_on ((parts_of s past).core t) d) on in (0, said k v.0, refl, v.1, refl, refl, refl)
answer s past t (call.Store d w v) k room roomy on = (0, said k 0, refl, (on, refl), refl, refl, refl)
answer s past t (call.TemplateCreate function pc dc) k room roomy on = let v = named s.limit (parts_of s past) k room roomy on in (0, said k v.0, refl, v.1, refl, refl, refl)
answer s past t (call.DbCreate n fl) k room roomy on = let v = named s.limit (parts_of s past) k room roomy on in (0, said k v.0, refl, v.1, refl, refl, refl)
answer s past t (call.EdtCreate from pc params dc deps flags output) k room roomy on = made_edt s past t from pc dc flags params deps output k room roomy on.0 on.1
answer s past t (call.DbRelease d) k room roomy on = (0, said k (number_of k), refl, refl, refl, refl, refl)
answer s past t (call.DbDestroy d) k room roomy on = (0, said k (number_of k), refl, refl, refl, refl, refl)
answer s past t (call.TemplateDestroy x) k room roomy on = (0, said k (number_of k), refl, refl, refl, refl, refl)
answer s past t (call.AddDependence from x i m) k room roomy on = (0, said k (number_of k), refl, refl, refl, refl, refl)
answer s past t (call.EventCreate kind fl) k room roomy on = let v = named s.limit (parts_of s past) k room roomy on in (0, said k v.0, refl, v.1, refl, refl, refl)
answer s past t (call.EventCreateParams kind fl most sats nd) k room roomy on = let v = named s.limit (parts_of s past) k room roomy on in (0, said k v.0, refl, v.1, refl, refl, refl)
answer s past t (call.EventDestroy x) k room roomy on = (0, said k (number_of k), refl, refl, refl, refl, refl)
answer s past t (call.Satisfy e p slot) k room roomy on = (0, said k (number_of k), refl, refl, refl, refl, refl)
answer s past t other k room roomy on = absurd on

-- and where there is one
roomy_by : (limit : ℕ) (f : Parts) (a : Answer) (room : ℕ) (done : Bool) → IsRoom limit f room → is_done a.code ≡ done → IsNamed limit f a → IsRoomy room 1 done
roomy_by limit f a room done roomy is named = λ on. let fresh = named.fresh (is ∙ on) in (roomy 1).1 (a.value, fresh.some, fresh, tt)

is_loaded_shared : (x : Part) (t k : ℕ) (m : Option Mode) (v : ℕ) → IsBlock x (IsLoaded t k m v) → IsBlock x (IsShared t k m)
is_loaded_shared (part.Block st) t k m v loads = loads.shared
is_loaded_shared other t k m v loads = absurd loads

has_answer : (limit : ℕ) (f : Parts) (t home : ℕ) (c : body.Call) (a : Answer) (room : ℕ) (done : Bool) → IsRoom limit f room → is_done a.code ≡ done → IsCallOn limit f t home c a [] → HasAnswer f room t c done
has_answer limit f t home (call.Print v) a room done roomy is on = tt
has_answer limit f t home (call.Load d w) a room done roomy is on = is_loaded_shared (f.face d) t w (mode_on (f.core t) d) a.value on.value
has_answer limit f t home (call.Store d w v) a room done roomy is on = on.value.0
has_answer limit f t home (call.TemplateCreate function pc dc) a room done roomy is on = roomy_by limit f a room done roomy is on.value
has_answer limit f t home (call.DbCreate n fl) a room done roomy is on = roomy_by limit f a room done roomy is on.value
has_answer limit f t home (call.EdtCreate from pc params dc deps flags output) a room done roomy is on = (
  edt_room limit f t from pc dc flags params deps output a room done roomy is on.value.named on.scope on.output,
  record { own = refl; joinable = λ yes off. subst (λ (h : ℕ). IsJoinable (f.face h)) on.at_home.own (on.at_home.joinable (is ∙ yes) (ap (λ (h : ℕ). h == 0) on.at_home.own ∙ off)) },
)
has_answer limit f t home (call.DbRelease d) a room done roomy is on = tt
has_answer limit f t home (call.DbDestroy d) a room done roomy is on = tt
has_answer limit f t home (call.TemplateDestroy x) a room done roomy is on = tt
has_answer limit f t home (call.AddDependence from x i m) a room done roomy is on = tt
has_answer limit f t home (call.EventCreate kind fl) a room done roomy is on = roomy_by limit f a room done roomy is on.value
has_answer limit f t home (call.EventCreateParams kind fl most sats nd) a room done roomy is on = roomy_by limit f a room done roomy is on.value
has_answer limit f t home (call.EventDestroy x) a room done roomy is on = tt
has_answer limit f t home (call.Satisfy e p slot) a room done roomy is on = tt
has_answer limit f t home other a room done roomy is on = absurd on.value

weight_by : (c : body.Call) (a : Answer) (count : ℕ) (done : Bool) → is_done a.code ≡ done → weight_with c count a ≡ weighs c done count
weight_by (call.DbCreate n fl) a count done is = ap (λ (b : Bool). (if b then 1 + n / 8 / 16 else 1) + (if b then count else 0)) is
weight_by other a count done is = ap (λ (b : Bool). 1 + (if b then count else 0)) is

weigh_yes : (s : Setting) (past : History) (t : ℕ) (c : body.Call) (count weight room : ℕ) (done : Bool) → IsRun s past → IsRoom s.limit (parts_of s past) room → done ≡ is_done (code_of t (parts_of s past).face c)
    → is_running ((parts_of s past).core t) ≡ true → HasAnswer (parts_of s past) room t c done → weighs c done count ≡ weight → CanWeigh s.limit (parts_of s past) t c count weight
weigh_yes s past t c count weight room done run roomy is running can so =
    let found = answer s past t c (code_of t (parts_of s past).face c) room roomy (subst (HasAnswer (parts_of s past) room t c) is can) in
    let on : IsCallSo s.limit (parts_of s past) t found.0 c found.1 = record { running = running; code = found.2; value = found.3; scope = found.4; output = found.5; at_home = found.6 } in
    (found.0, found.1, call_on s past t found.0 c found.1 [] run on, weight_by c found.1 count done (ap is_done found.2 ∙ sym is) ∙ so)

pub sure : (b : Bool) (P : Type 0) → Whether b P → P → b ≡ true
sure true P is p = refl
sure false P is p = absurd (is.no refl p)

may_is : (s : Setting) (past : History) (table : State) (t : ℕ) (c : body.Call) (room : ℕ) (done : Bool) → IsStateOf s past table
    → ((is_running (core_on table t) ≡ true) × HasAnswer (state_in table) room t c done) ≡ ((is_running ((parts_of s past).core t) ≡ true) × HasAnswer (parts_of s past) room t c done)
may_is s past table t c room done of = ap (λ (f : Parts). (is_running (f.core t) ≡ true) × HasAnswer f room t c done) of.parts

pub weigh : (s : Setting) (past : History) (table : State) (room t : ℕ) (c : body.Call) (count weight : ℕ) (done may so result : Bool) → IsStateOf s past table → IsRun s past → IsRoom s.limit (parts_of s past) room
    → done ≡ is_done (code_of t (face_on table) c) → Whether may ((is_running (core_on table t) ≡ true) × HasAnswer (state_in table) room t c done) → Whether so (weighs c done count ≡ weight) → result ≡ (may && so)
    → Whether result (CanWeigh s.limit (parts_of s past) t c count weight)
weigh s past table room t c count weight done may so result of run roomy is tested weighed both =
    let done_is : done ≡ is_done (code_of t (parts_of s past).face c) = is ∙ ap (λ (f : Parts). is_done (code_of t f.face c)) of.parts in
    let here = subst (Whether may) (may_is s past table t c room done of) tested in
    turned result (may && so) (CanWeigh s.limit (parts_of s past) t c count weight) both (record {
      yes = λ on. (let two = and_parts may so on in let can = here.yes two.0 in weigh_yes s past t c count weight room done run roomy done_is can.0 can.1 (weighed.yes two.1));
      no = λ off can. (
          let on : may ≡ true = sure may _ here (can.2.running, has_answer s.limit (parts_of s past) t can.0 c can.1 room done roomy (ap is_done can.2.code ∙ sym done_is) can.2) in
          let right : so ≡ true = sure so _ weighed (sym (weight_by c can.1 count done (ap is_done can.2.code ∙ sym done_is)) ∙ can.3) in
          not_both may so off on right);
    })
