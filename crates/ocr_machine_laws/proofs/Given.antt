-- What slots are set to: NULL_GUID or a block. So each block of a plan is there.
use Rattle.std.proofs.Common.{◌≡◌, inl, inr, ℕ, ◌/◌, nat_lt, List, [], ◌∷◌, ◌++◌, map, Bool, true, false, Option, Some, None, ◌==◌, ◌&&◌, not, if◌then◌else◌, refl, sym, ◌∙◌, ap, subst}
use Rattle.std.proofs.lemmas.Bool.{eq-eqb}
use Rattle.ocr_acquire.specs.declared.Mode.{Mode}
use Rattle.ocr_edt.specs.declared.Edt.{Edt}
use Rattle.ocr_edt.specs.declared.Identity.{Identity}
use Rattle.ocr_edt.specs.Steps.{with_next}
use Rattle.ocr_body_meaning.specs.declared.call.Answer.{Answer}
use Rattle.ocr_machine_history.specs.declared.entry.Entry.{Entry}
use Rattle.ocr_machine_history.specs.declared.entry.Entry.TheVariants.{Call, Deliver, Acquire, Wait, Start, Free, End, StaleAcquire}
use Rattle.ocr_machine_history.specs.declared.entry.What.{What}
use Rattle.ocr_machine_parts.specs.declared.part.Part.{Part}
use Rattle.ocr_machine_history.specs.History.{History, Setting}
use Rattle.ocr_machine_history.specs.Made.{Made, MadeEdt, is_new, opened}
use Rattle.ocr_body_meaning.specs.Holds.{is_done}
use Rattle.ocr_machine_parts.specs.Calls.{plan_of, asks_of, asks_in, slots_now, depc_of, set_step, set_calls, link_calls}
use Rattle.ocr_machine_parts.specs.Kinds.{is_block, on_core, home_on}
use Rattle.ocr_machine_parts.specs.Parts.{Parts, plain_identity, new_identity, core, parts_of}
use Rattle.ocr_machine_parts.specs.Effects.{awoken, acquired_edt, waiting_edt, started_edt, holding_edt, dropped_edt, ended_edt, new_core, creating_core, holding_core, dropping_core, acquiring_core, called, joined, brought, changed, stale_edt}
use Rattle.ocr_machine_parts.specs.Progress.{with_phase, made_ready, ready_at, readied_on}
use Rattle.ocr_machine_parts.specs.Legal.{IsRun}
use Rattle.ocr_machine_laws.specs.Waits.{rest_in, rest_on, AreBlocks}
use Rattle.ocr_machine_parts.proofs.After.{after_law, linked_core, deps_core}
use Rattle.ocr_machine_laws.specs.Sent.{IsSoundPayload, IsSoundMessage}
use Rattle.ocr_machine_laws.proofs.Quietness.{Faces, AreLasting, lasts}
use Rattle.ocr_machine_laws.proofs.Sent.{given_lasts, sent_law}
use Rattle.ocr_acquire.specs.Plan as plan
use Rattle.ocr_slots.specs.Slots as slot
use Rattle.ocr_edt.specs.declared.Edt.TheVariants as phase
use Rattle.ocr_body_meaning.specs.declared.call.Call as body
use Rattle.ocr_body_meaning.specs.declared.call.Call.TheVariants as call
use Rattle.ocr_machine_history.specs.declared.entry.What.TheVariants as what
use Rattle.ocr_machine_parts.specs.declared.part.Part.TheVariants as part
use Rattle.ocr_machine_history.specs.declared.objects.TheConstants.{ARGUMENTS, MAIN_EDT}

abbrev AreSet : Faces → List slot.SlotCall → Type 0
AreSet f [] = Unit {0}
AreSet f (slot.Setting i p ∷ rest) = IsSoundPayload f p × AreSet f rest
AreSet f (slot.Linking i m ∷ rest) = AreSet f rest

sets_kept : (f h : Faces) → AreLasting f h → (calls : List slot.SlotCall) → AreSet f calls → AreSet h calls
sets_kept f h kept [] is = tt
sets_kept f h kept (slot.Setting i p ∷ rest) is = (given_lasts f h kept p is.0, sets_kept f h kept rest is.1)
sets_kept f h kept (slot.Linking i m ∷ rest) is = sets_kept f h kept rest is

blocks_kept : (f h : Faces) → AreLasting f h → (xs : List (ℕ × Mode)) → AreBlocks f xs → AreBlocks h xs
blocks_kept f h kept [] is = tt
blocks_kept f h kept (one ∷ rest) is = ((kept one.0).block is.0, blocks_kept f h kept rest is.1)

-- SETTINGS
set_is : (f : Faces) (w : What) (t : ℕ) (calls : List slot.SlotCall) → IsSoundMessage f w → AreSet f calls → AreSet f (set_step w t calls)
set_is f (what.Set x i p) t calls is are = elim (x == t) as (λ b. AreSet f (if b then slot.Setting i p ∷ calls else calls)) [ true ↦ (is, are) | false ↦ are ]
set_is f other t calls is are = are

new_set : (f : Faces) (b : Bool) (calls : List slot.SlotCall) → AreSet f calls → AreSet f (if b then [] else calls)
new_set f true calls are = tt
new_set f false calls are = are

-- PLANS
abbrev IsPayload : Faces → Option ℕ → Type 0
IsPayload f None = Unit {0}
IsPayload f (Some p) = IsSoundPayload f p

payload_given : (f : Faces) (calls : List slot.SlotCall) (k : ℕ) → AreSet f calls → IsPayload f (slot.payload_of calls k)
payload_given f [] k are = tt
payload_given f (slot.Setting i p ∷ rest) k are = elim (i == k) as (λ b. IsPayload f (if b then Some p else slot.payload_of rest k)) [ true ↦ are.0 | false ↦ payload_given f rest k are.1 ]
payload_given f (slot.Linking i m ∷ rest) k are = payload_given f rest k are

abbrev AreAsked : Faces → List (ℕ × Mode) → Type 0
AreAsked f [] = Unit {0}
AreAsked f (one ∷ rest) = IsSoundPayload f one.0 × AreAsked f rest

asked_one : (f : Faces) (o : Option ℕ) (m : Option Mode) (rest : List (ℕ × Mode)) → IsPayload f o → AreAsked f rest → AreAsked f (asks_of o m ++ rest)
asked_one f (Some p) (Some m) rest is are = (is, are)
asked_one f o m rest is are = are

asked_all : (f : Faces) (links sets : List slot.SlotCall) (ks : List ℕ) → AreSet f sets → AreAsked f (asks_in (map (λ k. record { mode = slot.mode_of links k; payload = slot.payload_of sets k }) ks))
asked_all f links sets [] are = tt
asked_all f links sets (k ∷ rest) are = asked_one f (slot.payload_of sets k) (slot.mode_of links k) _ (payload_given f sets k are) (asked_all f links sets rest are)

put_blocks : (f : Faces) (g : ℕ) (m : Mode) (xs : List (ℕ × Mode)) → is_block (f g) ≡ true → AreBlocks f xs → AreBlocks f (plan.put g m xs)
put_blocks f g m [] is are = (is, tt)
put_blocks f g m (one ∷ rest) is are = elim (nat_lt g one.0) as (λ b. AreBlocks f (if b then (g, m) ∷ one ∷ rest else if g == one.0 then (g, plan.stronger m one.1) ∷ rest else one ∷ plan.put g m rest)) [
  | true ↦ (is, are)
  | false ↦ elim (g == one.0) as (λ c. AreBlocks f (if c then (g, plan.stronger m one.1) ∷ rest else one ∷ plan.put g m rest)) [
    | true ↦ (is, are.1)
    | false ↦ (are.0, put_blocks f g m rest is are.1)
  ]
]

asks_block : (f : Faces) (p : ℕ) (b : Bool) → (not (p == 0) && b) ≡ true → IsSoundPayload f p → is_block (f p) ≡ true
asks_block f p b is (inl null) = absurd (let z : (p == 0) ≡ true = eq-eqb p 0 null in let off : (not true && b) ≡ true = ap (λ (c : Bool). not c && b) (sym z) ∙ is in cc off)
asks_block f p b is (inr there) = there

plan_blocks : (f : Faces) (slots : List (ℕ × Mode)) → AreAsked f slots → AreBlocks f (plan.plan_of slots)
plan_blocks f [] are = tt
plan_blocks f (one ∷ rest) are = elim (plan.asks one) as (λ b. plan.asks one ≡ b → AreBlocks f (if b then plan.put one.0 one.1 (plan.plan_of rest) else plan.plan_of rest)) [
  | true ↦ λ is. put_blocks f one.0 one.1 (plan.plan_of rest) (asks_block f one.0 _ is are.0) (plan_blocks f rest are.1)
  | false ↦ λ _. plan_blocks f rest are.1
] refl

-- WHAT IS WANTED
abbrev Wants : Faces → Part → Type 0
Wants f x = AreBlocks f (rest_on x)

wants_if : (f : Faces) (core : ℕ → Part) (t u : ℕ) (y : Part) → (Wants f (core t) → Wants f y) → Wants f (core t) → Wants f (core u) → Wants f (if t == u then y else core u)
wants_if f core t u y step own other = elim (t == u) as (λ b. Wants f (if b then y else core u)) [ true ↦ step own | false ↦ other ]

with_rest : (f : Faces) (i : Identity) (held : List (ℕ × Mode)) (stale : List ℕ) (rest : List (ℕ × Mode)) (b : Bool) → AreBlocks f rest → AreBlocks f (with_next i held stale rest b).rest
with_rest f i held stale [] b are = tt
with_rest f i held stale (one ∷ rest) true are = are.1
with_rest f i held stale (one ∷ rest) false are = are.1

edt_wants : (f : Faces) (step : Edt → Edt) → ((s : Edt) → AreBlocks f (rest_in s) → AreBlocks f (rest_in (step s))) → (x : Part) → Wants f x → Wants f (on_core x (with_phase step))
edt_wants f step keeps (part.Core c) are = keeps c.edt are
edt_wants f step keeps other are = are

acquired_wants : (f : Faces) (s : Edt) → AreBlocks f (rest_in s) → AreBlocks f (rest_in (acquired_edt (awoken s)))
acquired_wants f (phase.Acquiring p) are = with_rest f p.identity p.holds p.stale p.rest false are
acquired_wants f (phase.Waiting p) are = with_rest f p.identity p.holds p.stale p.rest false are
acquired_wants f other are = are

passed_wants : (f : Faces) (s : Edt) → AreBlocks f (rest_in s) → AreBlocks f (rest_in (stale_edt (awoken s)))
passed_wants f (phase.Acquiring p) are = with_rest f p.identity p.holds p.stale p.rest true are
passed_wants f (phase.Waiting p) are = with_rest f p.identity p.holds p.stale p.rest true are
passed_wants f other are = are

waiting_wants : (f : Faces) (s : Edt) → AreBlocks f (rest_in s) → AreBlocks f (rest_in (waiting_edt s))
waiting_wants f (phase.Acquiring p) are = are
waiting_wants f other are = are

started_wants : (f : Faces) (s : Edt) → AreBlocks f (rest_in s) → AreBlocks f (rest_in (started_edt s))
started_wants f (phase.Acquiring p) are = tt
started_wants f other are = are

ended_wants : (f : Faces) (s : Edt) → AreBlocks f (rest_in s) → AreBlocks f (rest_in (ended_edt s))
ended_wants f (phase.Running w) are = tt
ended_wants f other are = are

holding_wants : (f : Faces) (d : ℕ) (s : Edt) → AreBlocks f (rest_in s) → AreBlocks f (rest_in (holding_edt d s))
holding_wants f d (phase.Running w) are = tt
holding_wants f d other are = are

dropped_wants : (f : Faces) (d : ℕ) (s : Edt) → AreBlocks f (rest_in s) → AreBlocks f (rest_in (dropped_edt d s))
dropped_wants f d (phase.Running w) are = tt
dropped_wants f d other are = are

dropping_wants : (f : Faces) (d : ℕ) (x : Part) → Wants f x → Wants f (on_core x (dropping_core d))
dropping_wants f d (part.Core c) are = dropped_wants f d c.edt are
dropping_wants f d other are = are

acquiring_wants : (f : Faces) (d : ℕ) (m : Mode) (size : ℕ) (words : List ℕ) (x : Part) → Wants f x → Wants f (on_core x (acquiring_core d m size words))
acquiring_wants f d m size words (part.Core c) are = acquired_wants f c.edt are
acquiring_wants f d m size words other are = are

creating_wants : (f : Faces) (fl d n : ℕ) (x : Part) → Wants f x → Wants f (on_core x (creating_core fl d n))
creating_wants f fl d n (part.Core c) are = elim (fl == 0) as (λ b. Wants f (part.Core (if b then holding_core d n c else c))) [ true ↦ holding_wants f d c.edt are | false ↦ are ]
creating_wants f fl d n other are = are

new_wants : (f : Faces) (x : Part) (i : Identity) (params : List ℕ) → Wants f (new_core x i params)
new_wants f (part.Template t) i params = tt
new_wants f other i params = tt

called_wants : (h : Faces) (f : Parts) (t : ℕ) (c : body.Call) (a : Answer) (w : List (ℕ × ℕ)) → ((u : ℕ) → Wants h (f.core u)) → (u : ℕ) → Wants h ((called t c a w f).core u)
called_wants h f t (call.DbCreate n fl) a w all u = wants_if h f.core t u _ (creating_wants h fl a.value (n / 8) (f.core t)) (all t) (all u)
called_wants h f t (call.DbRelease d) a w all u = wants_if h f.core t u _ (dropping_wants h d (f.core t)) (all t) (all u)
called_wants h f t (call.DbDestroy d) a w all u = wants_if h f.core t u _ (dropping_wants h d (f.core t)) (all t) (all u)
called_wants h f t (call.EdtCreate from pc ps dc ds fl o) a w all u =
    subst (Wants h) (sym (deps_core a.value 0 ds _ u)) (wants_if h f.core a.value u _ (λ _. new_wants h (f.face from) (new_identity a.value fl a (home_on (f.core t))) ps) (all a.value) (all u))
called_wants h f t (call.AddDependence from x i m) a w all u = subst (Wants h) (sym (linked_core (not (from == 0)) from _ _ u)) (all u)
called_wants h f t other a w all u = all u

brought_wants : (h : Faces) (w : What) (f : Parts) → ((u : ℕ) → Wants h (f.core u)) → (u : ℕ) → Wants h ((brought w f).core u)
brought_wants h (what.Satisfy e i p) f all u = all u
brought_wants h other f all u = all u

changed_wants : (h : Faces) (e : Entry) (f : Parts) → ((u : ℕ) → Wants h (f.core u)) → (u : ℕ) → Wants h ((changed e f).core u)
changed_wants h (Call t home c a w) f all u = elim (is_done a.code) as (λ b. Wants h ((if b then joined c home (called t c a w f) else f).core u)) [ true ↦ called_wants h f t c a w all u | false ↦ all u ]
changed_wants h (Deliver m c) f all u = elim (is_done c) as (λ b. Wants h ((if b then brought m.what f else f).core u)) [ true ↦ brought_wants h m.what f all u | false ↦ all u ]
changed_wants h (Acquire t d) f all u = wants_if h f.core t u _ (acquiring_wants h d _ _ _ (f.core t)) (all t) (all u)
changed_wants h (Wait t d) f all u = wants_if h f.core t u _ (edt_wants h waiting_edt (waiting_wants h) (f.core t)) (all t) (all u)
changed_wants h (StaleAcquire t d) f all u = wants_if h f.core t u _ (edt_wants h (λ e. stale_edt (awoken e)) (passed_wants h) (f.core t)) (all t) (all u)
changed_wants h (Start t) f all u = wants_if h f.core t u _ (edt_wants h started_edt (started_wants h) (f.core t)) (all t) (all u)
changed_wants h (Free t d w) f all u = wants_if h f.core t u _ (dropping_wants h d (f.core t)) (all t) (all u)
changed_wants h (End t g) f all u = wants_if h f.core t u _ (edt_wants h ended_edt (ended_wants h) (f.core t)) (all t) (all u)
changed_wants h other f all u = all u

-- AFTER EACH RUN
opened_set : (s : Setting) (t : ℕ) → AreSet (parts_of s []).face (set_calls [] t)
opened_set s t = elim (t == MAIN_EDT) as (λ b. AreSet (parts_of s []).face (if b then slot.Setting 0 ARGUMENTS ∷ [] else [])) [ true ↦ (inr refl, tt) | false ↦ tt ]

set_law : (s : Setting) (past : History) → IsRun s past → (t : ℕ) → AreSet (parts_of s past).face (set_calls past t)
set_law s [] run t = opened_set s t
set_law s (Call by home c a w ∷ past) run t =
    sets_kept (parts_of s past).face (parts_of s (Call by home c a w ∷ past)).face (lasts s past (Call by home c a w) run.1) (if is_new c a t then [] else set_calls past t)
    (new_set (parts_of s past).face (is_new c a t) (set_calls past t) (set_law s past run.0 t))
set_law s (Deliver m code ∷ past) run t =
    sets_kept (parts_of s past).face (parts_of s (Deliver m code ∷ past)).face (lasts s past (Deliver m code) run.1) (set_step m.what t (set_calls past t))
    (set_is (parts_of s past).face m.what t (set_calls past t) (sent_law s past run.0 (m.place, m.index, m.what) run.1.said) (set_law s past run.0 t))
set_law s (e ∷ past) run t = sets_kept (parts_of s past).face (parts_of s (e ∷ past)).face (lasts s past e run.1) (set_calls past t) (set_law s past run.0 t)

pub plan_there : (s : Setting) (past : History) → IsRun s past → (t : ℕ) → AreBlocks (parts_of s past).face (plan_of s past t)
plan_there s past run t = plan_blocks (parts_of s past).face (asks_in (slots_now s past t)) (asked_all (parts_of s past).face (link_calls past t) (set_calls past t) (slot.slots_of (depc_of s past t)) (set_law s past run t))

ready_wants : (f : Faces) (members : List (ℕ × Mode)) → AreBlocks f members → (s : Edt) → AreBlocks f (rest_in s) → AreBlocks f (rest_in (made_ready members s))
ready_wants f members there (phase.Filling i) are = there
ready_wants f members there other are = are

pub ready_there : (s : Setting) (past : History) → IsRun s past → (t : ℕ) → ((u : ℕ) → AreBlocks (parts_of s past).face (rest_on ((parts_of s past).core u)))
    → (u : ℕ) → AreBlocks (parts_of s past).face (rest_on ((ready_at t (plan_of s past t) (parts_of s past)).core u))
ready_there s past run t all u =
    wants_if (parts_of s past).face (parts_of s past).core t u _ (edt_wants (parts_of s past).face (made_ready (plan_of s past t)) (ready_wants (parts_of s past).face (plan_of s past t) (plan_there s past run t)) ((parts_of s past).core t)) (all t) (all u)

readied_there : (s : Setting) (past : History) (e : Entry) → IsRun s past → ((u : ℕ) → AreBlocks (parts_of s past).face (rest_on ((parts_of s past).core u)))
    → (u : ℕ) → AreBlocks (parts_of s past).face (rest_on ((readied_on s past e (parts_of s past)).core u))
readied_there s past (Acquire t d) run all u = ready_there s past run t all u
readied_there s past (Wait t d) run all u = ready_there s past run t all u
readied_there s past (StaleAcquire t d) run all u = ready_there s past run t all u
readied_there s past (Start t) run all u = ready_there s past run t all u
readied_there s past other run all u = all u

new_rest : (f : Faces) (m : Option Made) (i : Identity) → AreBlocks f (rest_on (core m i [] []))
new_rest f (Some (MadeEdt g ps n)) i = tt
new_rest f other i = tt

-- each block that an EDT wants is there
pub wanted_law : (s : Setting) (past : History) → IsRun s past → (t : ℕ) → AreBlocks (parts_of s past).face (rest_on ((parts_of s past).core t))
wanted_law s [] run t = new_rest (parts_of s []).face (opened s t) (plain_identity t)
wanted_law s (e ∷ past) run t =
    let ready : Parts = readied_on s past e (parts_of s past) in
    blocks_kept (parts_of s past).face (parts_of s (e ∷ past)).face (lasts s past e run.1) (rest_on ((parts_of s (e ∷ past)).core t))
    (subst (λ (f : Parts). AreBlocks (parts_of s past).face (rest_on (f.core t))) (sym (after_law s past e run.0 run.1))
    (changed_wants (parts_of s past).face e ready (readied_there s past e run.0 (wanted_law s past run.0)) t))
