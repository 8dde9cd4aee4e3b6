-- What an entry sends, and what was sent and not delivered: the rules and the parts tell the same.
use Rattle.std.proofs.Common.{◌≡◌, ◌≤◌, ℕ, ◌+◌, List, [], ◌∷◌, ◌++◌, length, map, Bool, true, false, not, ◌&&◌, ◌==◌, if◌then◌else◌, Option, Some, None, refl, sym, ◌∙◌, ap, subst, rules, arith}
use Rattle.std.proofs.lemmas.Bool.{eqb-true, or_parts}
use Rattle.std.proofs.lemmas.List.{length-append}
use Rattle.std.proofs.lemmas.Grind.{common_steps}
use Rattle.ocr_base.specs.Mail as mail
use Rattle.ocr_guid.specs.declared.Code.TheVariants as code
use Rattle.ocr_guid.specs.declared.target.Target.{Target}
use Rattle.ocr_guid.specs.declared.target.Linked.{Linked}
use Rattle.ocr_guid.specs.declared.target.Linked.TheVariants as link
use Rattle.ocr_guid.specs.Target.{EventCall, Link, sent_by_firing, sent_by_linking}
use Rattle.ocr_slots.specs.Slots as slot
use Rattle.ocr_datablock.specs.Block as block
use Rattle.ocr_event.specs.declared.EventKind.{EventKind}
use Rattle.ocr_event.specs.Event as event
use Rattle.ocr_event.proofs.Laws as of_event
use Rattle.ocr_latch.specs.Latch as latch
use Rattle.ocr_latch.proofs.Laws as of_latch
use Rattle.ocr_channel_event.specs.Channel as channel
use Rattle.ocr_channel_event.proofs.Laws as of_channel
use Rattle.ocr_event_any.specs.declared.TheConstants.{LATCH, CHANNEL}
use Rattle.ocr_event_any.specs.declared.AnyEvent.{AnyEvent}
use Rattle.ocr_event_any.specs.declared.AnyEvent.TheVariants as any
use Rattle.ocr_event_any.specs.AnyEvent as event_any
use Rattle.ocr_event_any.specs.AnyEvent.{takes_arg, plain_kind, state_by}
use Rattle.ocr_event_any.proofs.Laws.{link_law}
use Rattle.ocr_finish.specs.declared.Leaving.{Leaving}
use Rattle.ocr_finish.specs.declared.Leaving.TheVariants as leaving
use Rattle.ocr_finish.specs.Scope as scope
use Rattle.ocr_finish.specs.Scope.{ScopeCall, Parting}
use Rattle.ocr_finish.proofs.Laws.{leave_law}
use Rattle.ocr_body_meaning.specs.Holds.{is_done}
use Rattle.ocr_body_meaning.specs.declared.call.Call as body
use Rattle.ocr_body_meaning.specs.declared.call.Call.TheVariants as call
use Rattle.ocr_body_meaning.specs.declared.call.Answer.{Answer}
use Rattle.ocr_machine_history.specs.declared.entry.Entry.{Entry}
use Rattle.ocr_machine_history.specs.declared.entry.Entry.TheVariants.{Call, Deliver, End}
use Rattle.ocr_machine_history.specs.declared.entry.What.{What}
use Rattle.ocr_machine_history.specs.declared.entry.What.TheVariants as what
use Rattle.ocr_machine_history.specs.History.{History, Setting}
use Rattle.ocr_machine_history.specs.Made.{Made, MadeEvent, MadeScope, made}
use Rattle.ocr_machine_parts.specs.declared.part.Part.{Part}
use Rattle.ocr_machine_parts.specs.declared.part.Part.TheVariants as part
use Rattle.ocr_machine_parts.specs.Calls.{is_given, is_object, slot_target, target_of, link_if, dep_targets, link_calls, block_calls, event_calls, scope_calls}
use Rattle.ocr_machine_parts.specs.Codes.{Source, wanted_sources, wanted_source, is_any, is_refused_as_stale, slot_most, satisfy_code, code_or, code_of}
use Rattle.ocr_machine_parts.specs.Kinds as kinds
use Rattle.ocr_machine_parts.specs.Kinds.{is_destroyed, is_edt_face, with_event, identity_on}
use Rattle.ocr_machine_parts.specs.Legal.{IsRun, IsLegal}
use Rattle.ocr_machine_parts.specs.LegalOn.{IsSatisfiable, delivery_code, HasMember, IsDeliverOn}
use Rattle.ocr_machine_parts.specs.Messages as parts
use Rattle.ocr_machine_parts.specs.Messages.{what_to, carried_by, satisfy_some, leave_some, sent_if_done, sent_by_end, delivered}
use Rattle.ocr_machine_parts.specs.Parts.{Parts, identity_of, face, parts_of}
use Rattle.ocr_machine_parts.specs.Progress.{linked_if}
use Rattle.ocr_machine_parts.proofs.After.{accepted, not_stale, edt_told, has_member}
use Rattle.ocr_machine_parts.proofs.Within.{IsKeeping, keeping_law, done_is}
use Rattle.ocr_machine_laws.proofs.Held.{zero_law}
use Rattle.ocr_machine_laws.proofs.Members.{running_identity}
use Rattle.ocr_machine_rules.specs.Codes.{is_block}
use Rattle.ocr_machine_rules.specs.Events.{firing}
use Rattle.ocr_machine_rules.specs.Laws.{PendingLaw}
use Rattle.ocr_machine_rules.specs.Messages.{satisfied, linked, dep_sends, sent_by, sent_by_leave, sent_by_message, sends, pending}
use Rattle.ocr_machine_rules.proofs.Codes.{block_is}

-- A SATISFACTION that is not refused
unrefused : (st : AnyEvent) (p : ℕ) → code_or (event_any.refusal st p) ≡ code.Done → event_any.refusal st p ≡ None
unrefused (any.Plain st) p is = grind (arith, common_steps)
unrefused (any.Latch st) p is = grind (arith, common_steps)
unrefused (any.Channel st) p is = grind (arith, common_steps)

fired_by : (a b : Bool) (k : EventKind) (takes : Bool) (most : ℕ) (calls : List EventCall) (i p : ℕ) → (b ≡ true → 1 ≤ most) → i ≤ slot_most (state_by a b k takes most calls) → event_any.refusal (state_by a b k takes most calls) p ≡ None
    → (if a then latch.firing_after calls i p else if b then channel.firing_after calls else event.firing_after calls) ≡ event_any.on_satisfy (state_by a b k takes most calls) i p
fired_by true other k takes most calls i p least low fits = sym (of_latch.satisfy_law takes calls i p low fits).1
fired_by false true k takes most calls i p least low fits = sym (of_channel.satisfy_law most takes calls i p (least refl) (sym (of_channel.refusal_law most takes calls p (least refl)) ∙ fits)).1
fired_by false false k takes most calls i p least low fits = sym (of_event.satisfy_law k takes calls i p fits).1

carried_is : (a b : Bool) (k : EventKind) (takes : Bool) (most : ℕ) (calls : List EventCall) (p : ℕ) → (if a then 0 else p) ≡ carried_by (state_by a b k takes most calls) p
carried_is true other k takes most calls p = refl
carried_is false true k takes most calls p = refl
carried_is false false k takes most calls p = refl

satisfied_is : (m : Option Made) (links : List slot.SlotCall) (blocks : List block.BlockCall) (events : List EventCall) (scopes : List ScopeCall) (i p : ℕ) → IsKeeping m → IsSatisfiable i (face m links blocks events scopes) → delivery_code (face m links blocks events scopes) p ≡ code.Done
    → satisfied m events i p ≡ parts.satisfied (face m links blocks events scopes) i p
satisfied_is (Some (MadeEvent k fl most)) links blocks events scopes i p least low is =
    let st : AnyEvent = event_any.state_of k fl most events in
    let carried : (if k == LATCH then 0 else p) ≡ carried_by st p = carried_is (k == LATCH) (k == CHANNEL) (plain_kind k) (takes_arg fl) most events p in
    let fired : firing k events i p ≡ event_any.on_satisfy st i p = fired_by (k == LATCH) (k == CHANNEL) (plain_kind k) (takes_arg fl) most events i p least low (unrefused st p is) in
    λ j. map what_to (sent_by_firing (carried j) (fired j))
satisfied_is other links blocks events scopes i p least low is = absurd low

-- one that a call makes reaches a slot that its event has, and is answered as one that a message brings
satisfies : (x : Part) (i p : ℕ) → satisfy_code x i p ≡ code.Done → IsSatisfiable i x × (delivery_code x p ≡ code.Done)
satisfies (part.Event st) i p is = grind (arith, common_steps)
satisfies other i p is = cc is

-- A LINK of a source that is not destroyed
linked_by : (a b : Bool) (k : EventKind) (takes : Bool) (most : ℕ) (calls : List EventCall) (to : Target) → event_any.is_destroyed (state_by a b k takes most calls) ≡ false
    → (if a then link.Kept else if b then channel.linking_after calls else event.linking_after calls) ≡ event_any.on_link (state_by a b k takes most calls)
linked_by true other k takes most calls to live = sym (of_latch.link_law takes calls to live).1
linked_by false true k takes most calls to live = sym (of_channel.link_law most takes calls to live).1
linked_by false false k takes most calls to live = sym (of_event.link_law k takes calls to live).1

linked_is : (m : Option Made) (links : List slot.SlotCall) (blocks : List block.BlockCall) (events : List EventCall) (scopes : List ScopeCall) (d : ℕ) (to : Target) → is_destroyed (face m links blocks events scopes) ≡ false
    → linked m events d to ≡ parts.linked (face m links blocks events scopes) d to
linked_is (Some (MadeEvent k fl most)) links blocks events scopes d to live =
    ap (λ (l : Linked). map what_to (sent_by_linking to l)) (linked_by (k == LATCH) (k == CHANNEL) (plain_kind k) (takes_arg fl) most events to live)
linked_is other links blocks events scopes d to live = refl

-- NULL_GUID is no object
source_is : (s : Setting) (past : History) (d : ℕ) (events : List EventCall) (to : Target) (h : Parts) → IsRun s past → h.face d ≡ face (made s past d) (link_calls past d) (block_calls s past d) events (scope_calls past d) → ((d == 0) ≡ false → is_destroyed (h.face d) ≡ false)
    → linked (made s past d) events d to ≡ parts.linked_by (not (d == 0)) d to h
source_is s past d events to h run told live = elim (d == 0) as (λ b. (d == 0) ≡ b → (b ≡ false → is_destroyed (h.face d) ≡ false) → linked (made s past d) events d to ≡ parts.linked_by (not b) d to h) [
  | true ↦ λ null _. ap (λ (m : Option Made). linked m events d to) (ap (made s past) (eqb-true d 0 null) ∙ zero_law s past run)
  | false ↦ λ _ live.
      linked_is (made s past d) (link_calls past d) (block_calls s past d) events (scope_calls past d) d to (ap is_destroyed (sym told) ∙ live refl)
      ∙ ap (λ (x : Part). parts.linked x d to) (sym told)
] refl live

-- THE DEPENDENCES of a new EDT are linked slot by slot. A link destroys nothing
link_keeps : (st : AnyEvent) (to : Target) → event_any.is_destroyed (event_any.after_link st to) ≡ event_any.is_destroyed st
link_keeps (any.Plain st) to = search rules
link_keeps (any.Latch st) to = search rules
link_keeps (any.Channel st) to = search rules

face_keeps : (x : Part) (to : Target) → is_destroyed (with_event x (λ st. event_any.after_link st to)) ≡ is_destroyed x
face_keeps (part.Event st) to = link_keeps st to
face_keeps other to = refl

more_targets : (t k j g d : ℕ) (before : List ℕ) (calls : List EventCall) → k + length before ≡ j
    → dep_targets t k g (before ++ d ∷ []) calls ≡ link_if (is_object d && (d == g)) (slot_target t j) (dep_targets t k g before calls)
more_targets t k j g d [] calls is = let e : k ≡ j = omega (arith, is) in ap (λ (n : ℕ). link_if (is_object d && (d == g)) (slot_target t n) calls) e
more_targets t k j g d (e ∷ before) calls is = more_targets t (k + 1) j g d before (link_if (is_object e && (e == g)) (slot_target t k) calls) (omega (arith, is))

-- each object is as it was, with the links of the slots before
abbrev HasLinks : Setting → History → ℕ → List ℕ → Parts → Type 0
HasLinks s past t before h = (g : ℕ) → h.face g ≡ face (made s past g) (link_calls past g) (block_calls s past g) (dep_targets t 0 g before (event_calls s past g)) (scope_calls past g)

linked_face : (m : Option Made) (links : List slot.SlotCall) (blocks : List block.BlockCall) (events : List EventCall) (scopes : List ScopeCall) (to : Target) → is_destroyed (face m links blocks events scopes) ≡ false
    → with_event (face m links blocks events scopes) (λ st. event_any.after_link st to) ≡ face m links blocks (Link to ∷ events) scopes
linked_face (Some (MadeEvent k fl most)) links blocks events scopes to live = ap part.Event (sym (link_law k fl most events to live))
linked_face other links blocks events scopes to live = refl

next_links : (s : Setting) (past : History) (t d : ℕ) (before : List ℕ) (h : Parts) → HasLinks s past t before h → (is_object d ≡ true → is_destroyed (h.face d) ≡ false)
    → HasLinks s past t (before ++ d ∷ []) (linked_if (is_object d) d (slot_target t (length before)) h)
next_links s past t d before h told live g =
    let to : Target = slot_target t (length before) in
    let calls : List EventCall = dep_targets t 0 g before (event_calls s past g) in
    let now : List EventCall → Part = λ events. face (made s past g) (link_calls past g) (block_calls s past g) events (scope_calls past g) in
    elim (is_object d) as (λ b. (b ≡ true → is_destroyed (h.face d) ≡ false) → (linked_if b d to h).face g ≡ now (link_if (b && (d == g)) to calls)) [
      | true ↦ λ live. elim (d == g) as (λ b. (d == g) ≡ b → (if b then with_event (h.face d) (λ st. event_any.after_link st to) else h.face g) ≡ now (link_if b to calls)) [
        | true ↦ λ here.
            let same : h.face d ≡ now calls = ap h.face (eqb-true d g here) ∙ told g in
            ap (λ (x : Part). with_event x (λ st. event_any.after_link st to)) same
            ∙ linked_face (made s past g) (link_calls past g) (block_calls s past g) calls (scope_calls past g) to (ap is_destroyed (sym same) ∙ live refl)
        | false ↦ λ _. told g
      ] refl
      | false ↦ λ _. told g
    ] live
    ∙ ap now (sym (more_targets t 0 (length before) g d before (event_calls s past g) (omega arith)))

next_keeps : (b : Bool) (d : ℕ) (to : Target) (h : Parts) (g : ℕ) → is_destroyed ((linked_if b d to h).face g) ≡ is_destroyed (h.face g)
next_keeps true d to h g = elim (d == g) as (λ b. (d == g) ≡ b → is_destroyed (if b then with_event (h.face d) (λ st. event_any.after_link st to) else h.face g) ≡ is_destroyed (h.face g)) [
  | true ↦ λ here. face_keeps (h.face d) to ∙ ap (λ (n : ℕ). is_destroyed (h.face n)) (eqb-true d g here)
  | false ↦ λ _. refl
] refl
next_keeps false d to h g = refl

-- none that an accepted creation names is destroyed
first_live : (u d : ℕ) (f : ℕ → Part) (ds : List ℕ) → is_any (is_refused_as_stale u) f (wanted_sources (d ∷ ds)) ≡ false → is_object d ≡ true → is_destroyed (f d) ≡ false
first_live u d f ds off is = (or_parts (is_destroyed (f d)) _ (rw is at off)).0

rest_live : (u d : ℕ) (f : ℕ → Part) (ds : List ℕ) → is_any (is_refused_as_stale u) f (wanted_sources (d ∷ ds)) ≡ false → is_any (is_refused_as_stale u) f (wanted_sources ds) ≡ false
rest_live u d f ds off = elim (is_object d) as (λ b. is_any (is_refused_as_stale u) f (if b then (d, Source) ∷ wanted_sources ds else wanted_sources ds) ≡ false → is_any (is_refused_as_stale u) f (wanted_sources ds) ≡ false) [
  | true ↦ λ off. (or_parts (is_destroyed (f d)) _ off).1
  | false ↦ λ off. off
] off

dep_is : (s : Setting) (past : History) (d : ℕ) (events : List EventCall) (to : Target) (h : Parts) → IsRun s past → h.face d ≡ face (made s past d) (link_calls past d) (block_calls s past d) events (scope_calls past d) → (is_object d ≡ true → is_destroyed (h.face d) ≡ false)
    → (if is_given d then linked (made s past d) events d to else []) ≡ (if is_given d then parts.linked_by (is_object d) d to h else [])
dep_is s past d events to h run told live = elim (is_given d) as (λ b. ((b && not (d == 0)) ≡ true → is_destroyed (h.face d) ≡ false) → (if b then linked (made s past d) events d to else []) ≡ (if b then parts.linked_by (b && not (d == 0)) d to h else [])) [
  | true ↦ λ live. source_is s past d events to h run told (λ some. live (ap not some))
  | false ↦ λ _. refl
] live

deps_are : (s : Setting) (past : History) (u t : ℕ) (before ds : List ℕ) (h : Parts) → IsRun s past → HasLinks s past t before h → ((g : ℕ) → is_destroyed (h.face g) ≡ is_destroyed ((parts_of s past).face g))
    → is_any (is_refused_as_stale u) (parts_of s past).face (wanted_sources ds) ≡ false → dep_sends s past t before ds ≡ parts.dep_sends t (length before) ds h
deps_are s past u t before [] h run told keeps off = refl
deps_are s past u t before (d ∷ rest) h run told keeps off =
    let to : Target = slot_target t (length before) in
    let next : Parts = linked_if (is_object d) d to h in
    let live : is_object d ≡ true → is_destroyed (h.face d) ≡ false = λ is. keeps d ∙ first_live u d (parts_of s past).face rest off is in
    let head = dep_is s past d (dep_targets t 0 d before (event_calls s past d)) to h run (told d) live in
    let tail : dep_sends s past t (before ++ d ∷ []) rest ≡ parts.dep_sends t (length before + 1) rest next =
    deps_are s past u t (before ++ d ∷ []) rest next run (next_links s past t d before h told live) (λ g. next_keeps (is_object d) d to h g ∙ keeps g) (rest_live u d (parts_of s past).face rest off)
    ∙ ap (λ (k : ℕ). parts.dep_sends t k rest next) (length-append before (d ∷ [])) in
    λ i. head i ++ tail i

-- A CALL that is accepted
called_is : (s : Setting) (past : History) (t home : ℕ) (c : body.Call) (a : Answer) (w : List (ℕ × ℕ)) → IsRun s past → code_of t (parts_of s past).face c ≡ code.Done → sent_by s past c a ≡ parts.sent_by c a (parts_of s past)
called_is s past t home (call.Satisfy e p i) a w run done =
    let fits = satisfies ((parts_of s past).face e) i p (accepted t (parts_of s past).face (call.Satisfy e p i) done) in
    satisfied_is (made s past e) (link_calls past e) (block_calls s past e) (event_calls s past e) (scope_calls past e) i p (keeping_law s past e run) fits.0 fits.1
called_is s past t home (call.AddDependence from x i m) a w run done =
    let f : ℕ → Part = (parts_of s past).face in
    ap (λ (b : Bool). linked (made s past from) (event_calls s past from) from (target_of b x i)) (edt_told (made s past x) (link_calls past x) (block_calls s past x) (event_calls s past x) (scope_calls past x))
    ∙ source_is s past from (event_calls s past from) (target_of (is_edt_face (f x)) x i) (parts_of s past) run refl
    (λ some. (or_parts (is_destroyed (f from)) false (rw some at (or_parts (is_destroyed (f x)) (is_any (is_refused_as_stale t) f (wanted_source from)) (not_stale t f (call.AddDependence from x i m) done)).1)).0)
called_is s past t home (call.EdtCreate from pc ps dc ds fl o) a w run done =
    let f : ℕ → Part = (parts_of s past).face in
    deps_are s past t a.value [] ds (parts_of s past) run (λ g. refl) (λ g. refl)
    (or_parts (is_destroyed (f from)) _ (not_stale t f (call.EdtCreate from pc ps dc ds fl o) done)).1
called_is s past t home other a w run done = refl

-- A MESSAGE that is accepted. Where one member is left, the scope is through once it leaves
done_if : (b : Bool) (st : scope.State) → (if b then satisfy_some st.event 0 ++ leave_some st.outer else []) ≡ sent_if_done (if b then leaving.Done else leaving.Alive) st
done_if true st = refl
done_if false st = refl

left_is : (m : Option Made) (links : List slot.SlotCall) (blocks : List block.BlockCall) (events : List EventCall) (scopes : List ScopeCall) → HasMember (face m links blocks events scopes) → sent_by_leave m scopes ≡ parts.sent_by_leave (face m links blocks events scopes)
left_is (Some (MadeScope outer output)) links blocks events scopes has =
    let st : scope.State = scope.state_of outer output scopes in
    done_if (scope.is_done (Parting ∷ scopes)) st
    ∙ ap (λ (l : Leaving). sent_if_done l st) (sym (leave_law outer output scopes (has_member (scope.arrivals scopes) (scope.departures scopes) has)).1)
left_is other links blocks events scopes has = absurd has

brought_is : (s : Setting) (past : History) (w : What) → IsRun s past → IsDeliverOn (parts_of s past) w code.Done → sent_by_message s past w ≡ parts.sent_by_message w (parts_of s past)
brought_is s past (what.Satisfy e i p) run legal = satisfied_is (made s past e) (link_calls past e) (block_calls s past e) (event_calls s past e) (scope_calls past e) i p (keeping_law s past e run) legal.0 (sym legal.1)
brought_is s past (what.Leave x) run legal = left_is (made s past x) (link_calls past x) (block_calls s past x) (event_calls s past x) (scope_calls past x) legal.0
brought_is s past other run legal = refl

-- EACH ENTRY
pub sends_is : (s : Setting) (past : History) (e : Entry) → IsRun s past → IsLegal s past e → sends s past e ≡ parts.sends e (parts_of s past)
sends_is s past (Call t home c a w) run legal = elim (is_done a.code) as (λ b. is_done a.code ≡ b → (if b then sent_by s past c a else []) ≡ (if b then parts.sent_by c a (parts_of s past) else [])) [
  | true ↦ λ on. called_is s past t home c a w run (sym legal.on_parts.code ∙ done_is a.code on)
  | false ↦ λ _. refl
] refl
sends_is s past (Deliver m c) run legal = elim (is_done c) as (λ b. is_done c ≡ b → (if b then sent_by_message s past m.what else []) ≡ (if b then parts.sent_by_message m.what (parts_of s past) else [])) [
  | true ↦ λ on. brought_is s past m.what run (subst (IsDeliverOn (parts_of s past) m.what) (done_is c on) legal.on_parts)
  | false ↦ λ _. refl
] refl
sends_is s past (End t g) run legal =
    let who : identity_of past t ≡ identity_on ((parts_of s past).core t) = sym (running_identity s past t run legal.on_parts.running) in
    let brings : is_block (made s past g) ≡ kinds.is_block ((parts_of s past).face g) = block_is (made s past g) (link_calls past g) (block_calls s past g) (event_calls s past g) (scope_calls past g) in
    λ i. sent_by_end (who i) (if brings i then g else 0)
sends_is s past other run legal = refl

-- THROUGH A RUN
pub pending_is : PendingLaw
pending_is s [] run = refl
pending_is s (e ∷ past) run =
    let before : pending s past ≡ parts.pending s past = pending_is s past run.0 in
    let sent : sends s past e ≡ parts.sends e (parts_of s past) = sends_is s past e run.0 run.1 in
    λ i. mail.without (delivered e) (before i) ++ mail.named (length past) 0 (sent i)
