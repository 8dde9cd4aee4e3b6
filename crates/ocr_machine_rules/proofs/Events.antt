-- What events answer, and which objects of a run are destroyed: the rules and the parts tell the same.
use Rattle.std.proofs.Common.{◌≡◌, ◌≤◌, ℕ, ◌+◌, List, [], ◌∷◌, ◌++◌, Bool, true, false, not, ◌&&◌, ◌||◌, ◌==◌, if◌then◌else◌, Option, Some, None, is_some, refl, sym, ◌∙◌, ap, subst, ◌⊎◌, inl, inr}
use Rattle.std.proofs.lemmas.Bool.{eqb-true, and_parts}
use Rattle.ocr_guid.specs.declared.target.Target.{Target}
use Rattle.ocr_guid.specs.Target.{EventCall, Satisfaction, Link, Destruction}
use Rattle.ocr_guid.specs.Target as target
use Rattle.ocr_acquire.specs.declared.Mode.{Mode}
use Rattle.ocr_acquire.specs.Mode.{mode_in, is_exclusive}
use Rattle.ocr_slots.specs.Slots as slot
use Rattle.ocr_datablock.specs.Block as block
use Rattle.ocr_event.specs.declared.EventKind.{EventKind}
use Rattle.ocr_event.specs.Event as event
use Rattle.ocr_event.proofs.Laws as of_event
use Rattle.ocr_latch.specs.Latch as latch
use Rattle.ocr_latch.proofs.Laws as of_latch
use Rattle.ocr_channel_event.specs.Channel as channel
use Rattle.ocr_channel_event.proofs.Laws as of_channel
use Rattle.ocr_event_any.specs.declared.TheConstants.{LATCH, CHANNEL}
use Rattle.ocr_event_any.specs.AnyEvent as event_any
use Rattle.ocr_event_any.specs.AnyEvent.{takes_arg, plain_kind, state_by}
use Rattle.ocr_finish.specs.Scope.{ScopeCall}
use Rattle.ocr_body_meaning.specs.Holds.{is_done}
use Rattle.ocr_body_meaning.specs.declared.call.Call as body
use Rattle.ocr_body_meaning.specs.declared.call.Call.TheVariants as call
use Rattle.ocr_body_meaning.specs.declared.call.Answer.{Answer}
use Rattle.ocr_machine_history.specs.declared.objects.TheConstants.{ARGUMENTS, MAIN_EDT}
use Rattle.ocr_machine_history.specs.declared.entry.Entry.TheVariants.{Call, Deliver, Acquire, Wait, Free}
use Rattle.ocr_machine_history.specs.declared.entry.What.{What}
use Rattle.ocr_machine_history.specs.declared.entry.What.TheVariants as what
use Rattle.ocr_machine_history.specs.History.{History, Setting}
use Rattle.ocr_machine_history.specs.Made.{Made, MadeBlock, MadeTemplate, MadeEdt, MadeEvent, made, is_new, is_edt_made, creator_in}
use Rattle.ocr_machine_parts.specs.Calls.{is_number, is_object, slot_target, target_of, link_if, dep_targets, event_step, deliver_step, ask_calls, grant_calls, end_calls, doom_calls, block_step, stores_from, argument_words, next_mode, link_calls, block_calls, event_calls, scope_calls}
use Rattle.ocr_machine_parts.specs.Kinds as kinds
use Rattle.ocr_machine_parts.specs.Kinds.{is_block, is_template, is_event}
use Rattle.ocr_machine_parts.specs.Legal.{IsRun}
use Rattle.ocr_machine_parts.specs.LegalOn.{IsCallOn}
use Rattle.ocr_machine_parts.specs.Parts.{face, parts_of}
use Rattle.ocr_machine_parts.proofs.After.{of_kind, not_other}
use Rattle.ocr_machine_parts.proofs.Fresh.{new_fresh, made_old}
use Rattle.ocr_machine_parts.proofs.Within.{IsKeeping, keeping_law, made_none, done_is}
use Rattle.ocr_machine_rules.specs.Blocks.{destroys, was_destroyed}
use Rattle.ocr_machine_rules.specs.Events.{refusal, is_event_destroyed, is_destroyed_as}
use Rattle.ocr_machine_rules.specs.Laws.{DestroyedLaw}

-- ANSWERS. The code that refuses a further satisfaction
refusal_by : (a b : Bool) (k : EventKind) (takes : Bool) (most : ℕ) (calls : List EventCall) (p : ℕ) → (b ≡ true → 1 ≤ most)
    → event_any.refusal (state_by a b k takes most calls) p ≡ (if a then latch.refusal_after takes calls p else if b then channel.refusal_after most takes calls p else event.refusal_after k takes calls p)
refusal_by true other k takes most calls p least = of_latch.refusal_law takes calls p
refusal_by false true k takes most calls p least = of_channel.refusal_law most takes calls p (least refl)
refusal_by false false k takes most calls p least = of_event.refusal_law k takes calls p

pub refusal_is : (k fl most : ℕ) (calls : List EventCall) (p : ℕ) → ((k == CHANNEL) ≡ true → 1 ≤ most)
    → event_any.refusal (event_any.state_of k fl most calls) p ≡ refusal k fl most calls p
refusal_is k fl most calls p least = refusal_by (k == LATCH) (k == CHANNEL) (plain_kind k) (takes_arg fl) most calls p least

-- an event is destroyed by a call, and by its own firing where its kind ends so
destroyed_by : (a b : Bool) (k : EventKind) (takes : Bool) (most : ℕ) (calls : List EventCall)
    → event_any.is_destroyed (state_by a b k takes most calls) ≡ (if a then latch.is_destroyed calls else if b then target.was_destroyed calls else event.is_destroyed k calls)
destroyed_by true other k takes most calls = refl
destroyed_by false true k takes most calls = refl
destroyed_by false false k takes most calls = refl

pub event_destroyed_is : (k fl most : ℕ) (calls : List EventCall) → event_any.is_destroyed (event_any.state_of k fl most calls) ≡ is_event_destroyed k calls
event_destroyed_is k fl most calls = destroyed_by (k == LATCH) (k == CHANNEL) (plain_kind k) (takes_arg fl) most calls

-- a channel that was made keeps some satisfactions
pub most_is : (s : Setting) (past : History) (g k fl most : ℕ) → IsRun s past → made s past g ≡ Some (MadeEvent k fl most) → (k == CHANNEL) ≡ true → 1 ≤ most
most_is s past g k fl most run is = subst IsKeeping is (keeping_law s past g run)

-- DESTROYED BY A CALL, as the calls on an object tell it by its kind
abbrev destroyed_in : Option Made → List block.BlockCall → List EventCall → Bool
destroyed_in (Some (MadeBlock n c)) blocks events = block.is_destroyed blocks
destroyed_in (Some (MadeTemplate f pc dc)) blocks events = target.was_destroyed events
destroyed_in (Some (MadeEvent k fl most)) blocks events = target.was_destroyed events
destroyed_in other blocks events = false

new_in : (m : Option Made) → destroyed_in m [] [] ≡ false
new_in (Some (MadeBlock n c)) = refl
new_in (Some (MadeTemplate f pc dc)) = refl
new_in (Some (MadeEvent k fl most)) = refl
new_in other = refl

by_blocks : (m : Option Made) (new old : List block.BlockCall) (events : List EventCall) → block.is_destroyed new ≡ block.is_destroyed old → destroyed_in m new events ≡ destroyed_in m old events
by_blocks (Some (MadeBlock n c)) new old events is = is
by_blocks other new old events is = refl

by_events : (m : Option Made) (blocks : List block.BlockCall) (new old : List EventCall) → target.was_destroyed new ≡ target.was_destroyed old → destroyed_in m blocks new ≡ destroyed_in m blocks old
by_events (Some (MadeTemplate f pc dc)) blocks new old is = is
by_events (Some (MadeEvent k fl most)) blocks new old is = is
by_events other blocks new old is = refl

-- a further call destroys nothing, but for a destruction
same_if : {A : Type 0} (f : A → Bool) (b : Bool) (new old : A) → f new ≡ f old → f (if b then new else old) ≡ f old
same_if f true new old is = is
same_if f false new old is = refl

same_unless : {A : Type 0} (f : A → Bool) (b : Bool) (new old : A) → f new ≡ f old → f (if b then old else new) ≡ f old
same_unless f true new old is = refl
same_unless f false new old is = is

granted : (t : ℕ) (m : Mode) (c : ℕ) (calls : List block.BlockCall) → block.is_destroyed (grant_calls t m c calls) ≡ block.is_destroyed calls
granted t m c calls =
    same_if block.is_destroyed (is_exclusive m) (block.Lend t ∷ ask_calls t m c calls) (ask_calls t m c calls) refl
    ∙ same_unless block.is_destroyed (is_some (mode_in t (block.holders_of c calls))) (block.Ask t m ∷ calls) calls refl

ended : (t : ℕ) (w : List (ℕ × ℕ)) (calls : List block.BlockCall) → block.is_destroyed (end_calls t w calls) ≡ block.is_destroyed calls
ended t w calls = same_if block.is_destroyed (is_number t (block.borrower_of calls)) (block.TakeBack t w ∷ calls) calls refl

stored : (xs : List block.BlockCall) (k v : ℕ) → block.is_destroyed (xs ++ block.Store k v ∷ []) ≡ block.is_destroyed xs
stored [] k v = refl
stored (block.Doom t ∷ xs) k v = refl
stored (other ∷ xs) k v = stored xs k v

all_stored : (k : ℕ) (vs : List ℕ) → block.is_destroyed (stores_from k vs) ≡ false
all_stored k [] = refl
all_stored k (v ∷ rest) = stored (stores_from (k + 1) rest) k v ∙ all_stored (k + 1) rest

linked : (b : Bool) (t : Target) (calls : List EventCall) → target.was_destroyed (link_if b t calls) ≡ target.was_destroyed calls
linked b t calls = same_if target.was_destroyed b (Link t ∷ calls) calls refl

all_linked : (t k g : ℕ) (ds : List ℕ) (calls : List EventCall) → target.was_destroyed (dep_targets t k g ds calls) ≡ target.was_destroyed calls
all_linked t k g [] calls = refl
all_linked t k g (d ∷ rest) calls =
    all_linked t (k + 1) g rest (link_if (is_object d && (d == g)) (slot_target t k) calls)
    ∙ linked (is_object d && (d == g)) (slot_target t k) calls

doomed_in : (b : Bool) (t : ℕ) (w : List (ℕ × ℕ)) (m : Option Made) (links : List slot.SlotCall) (blocks : List block.BlockCall) (events : List EventCall) (scopes : List ScopeCall) → (b ≡ true → is_block (face m links blocks events scopes) ≡ true)
    → (b || destroyed_in m blocks events) ≡ destroyed_in m (if b then doom_calls t w blocks else blocks) events
doomed_in false t w m links blocks events scopes is = refl
doomed_in true t w (Some (MadeBlock n c)) links blocks events scopes is = refl
doomed_in true t w other links blocks events scopes is = cc (is refl)

ended_in : (b : Bool) (m : Option Made) (links : List slot.SlotCall) (blocks : List block.BlockCall) (events : List EventCall) (scopes : List ScopeCall) → (b ≡ true → (is_template (face m links blocks events scopes) ≡ true) ⊎ (is_event (face m links blocks events scopes) ≡ true))
    → (b || destroyed_in m blocks events) ≡ destroyed_in m blocks (if b then Destruction ∷ events else events)
ended_in false m links blocks events scopes is = refl
ended_in true (Some (MadeTemplate f pc dc)) links blocks events scopes is = refl
ended_in true (Some (MadeEvent k fl most)) links blocks events scopes is = refl
ended_in true other links blocks events scopes is = absurd (elim (is refl) [ inl one ↦ cc one | inr two ↦ cc two ])

-- what a number names
named : (P : ℕ → Type 0) (done : Bool) (n g : ℕ) → (done ≡ true → P n) → (done && (n == g)) ≡ true → P g
named P done n g is on = let both = and_parts done (n == g) on in subst P (eqb-true n g both.1) (is both.0)

-- A CALL destroys what it names, of the kind that it wants, and nothing else
spared : (done b : Bool) → ((done && false) || b) ≡ b
spared true b = refl
spared false b = refl

abbrev IsSpared : Setting → History → ℕ → body.Call → Answer → List (ℕ × ℕ) → ℕ → Type 0
IsSpared s past t c a w g =
    ((is_done a.code && destroys c g) || destroyed_in (made s past g) (block_calls s past g) (event_calls s past g))
    ≡ destroyed_in (made s past g) (block_step t c a w g (block_calls s past g)) (event_step s past c a g (event_calls s past g))

called_in : (s : Setting) (past : History) (t home : ℕ) (c : body.Call) (a : Answer) (w : List (ℕ × ℕ)) (g : ℕ) → IsCallOn s.limit (parts_of s past) t home c a w → IsSpared s past t c a w g
called_in s past t home (call.DbRelease b) a w g legal =
    spared (is_done a.code) _
    ∙ sym (by_blocks (made s past g) _ (block_calls s past g) (event_calls s past g)
    (same_if block.is_destroyed (is_done a.code && (b == g)) (end_calls t w (block_calls s past g)) (block_calls s past g) (ended t w (block_calls s past g))))
called_in s past t home (call.Store b k v) a w g legal =
    spared (is_done a.code) _
    ∙ sym (by_blocks (made s past g) _ (block_calls s past g) (event_calls s past g) (same_if block.is_destroyed (is_done a.code && (b == g)) (block.Store k v ∷ block_calls s past g) (block_calls s past g) refl))
called_in s past t home (call.DbDestroy b) a w g legal =
    doomed_in (is_done a.code && (b == g)) t w (made s past g) (link_calls past g) (block_calls s past g) (event_calls s past g) (scope_calls past g)
    (named (λ (n : ℕ). is_block ((parts_of s past).face n) ≡ true) (is_done a.code) b g
    (λ on. not_other (is_block ((parts_of s past).face b)) (of_kind t (parts_of s past).face (call.DbDestroy b) (sym legal.code ∙ done_is a.code on))))
called_in s past t home (call.TemplateDestroy x) a w g legal =
    ended_in (is_done a.code && (x == g)) (made s past g) (link_calls past g) (block_calls s past g) (event_calls s past g) (scope_calls past g)
    (λ on. inl (named (λ (n : ℕ). is_template ((parts_of s past).face n) ≡ true) (is_done a.code) x g
    (λ on. not_other (is_template ((parts_of s past).face x)) (of_kind t (parts_of s past).face (call.TemplateDestroy x) (sym legal.code ∙ done_is a.code on))) on))
called_in s past t home (call.EventDestroy e) a w g legal =
    ended_in (is_done a.code && (e == g)) (made s past g) (link_calls past g) (block_calls s past g) (event_calls s past g) (scope_calls past g)
    (λ on. inr (named (λ (n : ℕ). is_event ((parts_of s past).face n) ≡ true) (is_done a.code) e g
    (λ on. not_other (is_event ((parts_of s past).face e)) (of_kind t (parts_of s past).face (call.EventDestroy e) (sym legal.code ∙ done_is a.code on))) on))
called_in s past t home (call.Satisfy e p i) a w g legal =
    spared (is_done a.code) _
    ∙ sym (by_events (made s past g) (block_calls s past g) _ (event_calls s past g) (same_if target.was_destroyed (is_done a.code && (e == g)) (Satisfaction i p ∷ event_calls s past g) (event_calls s past g) refl))
called_in s past t home (call.AddDependence from x i m) a w g legal =
    spared (is_done a.code) _
    ∙ sym (by_events (made s past g) (block_calls s past g) _ (event_calls s past g)
    (linked (is_done a.code && (not (from == 0) && (from == g))) (target_of (is_edt_made (made s past x)) x i) (event_calls s past g)))
called_in s past t home (call.EdtCreate from pc ps dc ds fl o) a w g legal =
    spared (is_done a.code) _
    ∙ sym (by_events (made s past g) (block_calls s past g) _ (event_calls s past g)
    (same_if target.was_destroyed (is_done a.code) (dep_targets a.value 0 g ds (event_calls s past g)) (event_calls s past g) (all_linked a.value 0 g ds (event_calls s past g))))
called_in s past t home other a w g legal = spared (is_done a.code) _

-- and none that it makes
makes_whole : (c : body.Call) (a : Answer) (g : ℕ) → is_new c a g ≡ true → destroys c g ≡ false
makes_whole (call.DbDestroy b) a g is = cc is
makes_whole (call.TemplateDestroy x) a g is = cc is
makes_whole (call.EventDestroy e) a g is = cc is
makes_whole other a g is = refl

-- A MESSAGE destroys nothing
brought_in : (w : What) (done : Bool) (g : ℕ) (calls : List EventCall) → target.was_destroyed (deliver_step w done g calls) ≡ target.was_destroyed calls
brought_in (what.Satisfy e i p) done g calls = same_if target.was_destroyed (done && (e == g)) (Satisfaction i p ∷ calls) calls refl
brought_in other done g calls = refl

-- THROUGH A RUN
opened_in : (b c : Bool) (n f depc : ℕ) (vs : List ℕ) → destroyed_in (if b then Some (MadeBlock n 0) else if c then Some (MadeEdt f [] depc) else None) (if b then stores_from 0 vs else []) [] ≡ false
opened_in true c n f depc vs = all_stored 0 vs
opened_in false true n f depc vs = refl
opened_in false false n f depc vs = refl

abbrev IsTold : Setting → History → ℕ → Type 0
IsTold s past g = was_destroyed past g ≡ destroyed_in (made s past g) (block_calls s past g) (event_calls s past g)

called_told : (s : Setting) (past : History) (t home : ℕ) (c : body.Call) (a : Answer) (w : List (ℕ × ℕ)) (g : ℕ) → IsCallOn s.limit (parts_of s past) t home c a w → IsTold s past g → IsTold s (Call t home c a w ∷ past) g
called_told s past t home c a w g legal before = elim (is_new c a g) as (λ b. is_new c a g ≡ b
    → ((is_done a.code && destroys c g) || was_destroyed past g)
    ≡ destroyed_in (made s (Call t home c a w ∷ past) g) (if b then [] else block_step t c a w g (block_calls s past g)) (if b then [] else event_step s past c a g (event_calls s past g))) [
      | true ↦ λ is.
          let none : made s past g ≡ None = made_none s past g (new_fresh s.limit (parts_of s past) t home c a w g legal is).vacant in
          ap (λ (b : Bool). (is_done a.code && b) || was_destroyed past g) (makes_whole c a g is)
          ∙ (spared (is_done a.code) (was_destroyed past g)
          ∙ (before ∙ (ap (λ (m : Option Made). destroyed_in m (block_calls s past g) (event_calls s past g)) none
          ∙ sym (new_in (made s (Call t home c a w ∷ past) g)))))
      | false ↦ λ off.
          ap (λ (b : Bool). (is_done a.code && destroys c g) || b) before
          ∙ (called_in s past t home c a w g legal
          ∙ ap (λ (m : Option Made). destroyed_in m (block_step t c a w g (block_calls s past g)) (event_step s past c a g (event_calls s past g))) (sym (made_old s past t home c a w g off)))
    ] refl

told : (s : Setting) (past : History) (g : ℕ) → IsRun s past → IsTold s past g
told s [] g run = sym (opened_in (g == ARGUMENTS) (g == MAIN_EDT) _ _ _ (argument_words s))
told s (Call t home c a w ∷ past) g run = called_told s past t home c a w g run.1.on_parts (told s past g run.0)
told s (Deliver m c ∷ past) g run = told s past g run.0 ∙ sym (by_events (made s past g) (block_calls s past g) _ (event_calls s past g) (brought_in m.what (is_done c) g (event_calls s past g)))
told s (Acquire u d ∷ past) g run =
    told s past g run.0
    ∙ sym (by_blocks (made s past g) _ (block_calls s past g) (event_calls s past g)
    (same_if block.is_destroyed (d == g) _ (block_calls s past g) (granted u (next_mode s past u) (creator_in (made s past g)) (block_calls s past g))))
told s (Wait u d ∷ past) g run =
    told s past g run.0
    ∙ sym (by_blocks (made s past g) _ (block_calls s past g) (event_calls s past g) (same_if block.is_destroyed (d == g) (block.Ask u (next_mode s past u) ∷ block_calls s past g) (block_calls s past g) refl))
told s (Free u d w ∷ past) g run =
    told s past g run.0
    ∙ sym (by_blocks (made s past g) _ (block_calls s past g) (event_calls s past g) (same_if block.is_destroyed (d == g) _ (block_calls s past g) (ended u w (block_calls s past g))))
told s (other ∷ past) g run = told s past g run.0

-- DESTROYED, on its face
face_destroyed : (m : Option Made) (links : List slot.SlotCall) (blocks : List block.BlockCall) (events : List EventCall) (scopes : List ScopeCall) (by_call : Bool) → by_call ≡ destroyed_in m blocks events
    → is_destroyed_as m events by_call ≡ kinds.is_destroyed (face m links blocks events scopes)
face_destroyed (Some (MadeBlock n c)) links blocks events scopes by_call is = is
face_destroyed (Some (MadeTemplate f pc dc)) links blocks events scopes by_call is = is
face_destroyed (Some (MadeEvent k fl most)) links blocks events scopes by_call is = sym (event_destroyed_is k fl most events)
face_destroyed other links blocks events scopes by_call is = is

pub destroyed_is : DestroyedLaw
destroyed_is s past g run = face_destroyed (made s past g) (link_calls past g) (block_calls s past g) (event_calls s past g) (scope_calls past g) (was_destroyed past g) (told s past g run)
