-- Which entry may come, what a run is and when it is quiet: the rules agree with the parts of the machine's state, where each tells of the same thing.
use Rattle.std.proofs.Common.{◌≡◌, ◌≤◌, ◌<◌, inl, inr, ℕ, List, [], ◌∷◌, ◌++◌, Bool, true, false, ◌&&◌, ◌==◌, if◌then◌else◌, Option, Some, None, is_some, refl, sym, ◌∙◌, ap, subst, slice_index, arith}
use Rattle.std.specs.Prelude.{◌↔◌}
use Rattle.std.specs.List.{Contains}
use Rattle.ocr_base.proofs.Booleans.{same, and_false}
use Rattle.ocr_guid.specs.Target.{EventCall}
use Rattle.ocr_acquire.specs.declared.Mode.{Mode}
use Rattle.ocr_acquire.specs.Mode.{mode_in}
use Rattle.ocr_slots.specs.Slots as slot
use Rattle.ocr_datablock.specs.Block as block
use Rattle.ocr_event_any.specs.AnyEvent as event
use Rattle.ocr_event_any.specs.declared.TheConstants.{CHANNEL}
use Rattle.ocr_edt.specs.Edt as edt
use Rattle.ocr_edt.specs.declared.Identity.{Identity}
use Rattle.ocr_finish.specs.declared.TheConstants.{MOST_MEMBERS}
use Rattle.ocr_finish.specs.Scope.{ScopeCall}
use Rattle.ocr_body_meaning.specs.Behaviour.{Behaviour, IsNext}
use Rattle.ocr_body_meaning.specs.Call.{is_creation}
use Rattle.ocr_body_meaning.specs.Holds.{Access, Entered, is_done, load_of}
use Rattle.ocr_body_meaning.specs.declared.call.Answer.{Answer}
use Rattle.ocr_body_meaning.specs.declared.call.Call as body
use Rattle.ocr_body_meaning.specs.declared.call.Call.TheVariants as call
use Rattle.ocr_body_meaning.proofs.Accesses.{plain_next}
use Rattle.ocr_machine_history.specs.declared.entry.Entry.{Entry}
use Rattle.ocr_machine_history.specs.declared.entry.Entry.TheVariants.{Call, Deliver, Acquire, Wait, StaleAcquire, Start, Free, End, Stop}
use Rattle.ocr_machine_history.specs.declared.entry.Stop as run_stop
use Rattle.ocr_machine_history.specs.declared.entry.Stop.TheVariants as by
use Rattle.ocr_machine_history.specs.declared.entry.What.{What}
use Rattle.ocr_machine_history.specs.declared.entry.What.TheVariants as what
use Rattle.ocr_machine_history.specs.Edts.{is_started, IsRunning}
use Rattle.ocr_machine_history.specs.History.{History, Setting, is_stopped}
use Rattle.ocr_machine_history.specs.Made.{Made, MadeBlock, MadeEdt, MadeEvent, made, is_edt}
use Rattle.ocr_machine_parts.specs.declared.loans.Kept.{Kept}
use Rattle.ocr_machine_parts.specs.declared.part.Part.{Part}
use Rattle.ocr_machine_parts.specs.declared.part.Part.TheVariants as part
use Rattle.ocr_machine_parts.specs.Bodies as part_bodies
use Rattle.ocr_machine_parts.specs.Calls.{open_slots, link_calls, block_calls, event_calls, scope_calls, edt_calls, loans_of}
use Rattle.ocr_machine_parts.specs.Codes.{code_or}
use Rattle.ocr_machine_parts.specs.Kinds as kinds
use Rattle.ocr_machine_parts.specs.Legal as legal
use Rattle.ocr_machine_parts.specs.LegalOn.{IsFresh, IsBeside, IsNamed, IsScoped, HasOutput, delivery_code}
use Rattle.ocr_machine_parts.specs.Parts.{Parts, face, core, identity_of, parts_of}
use Rattle.ocr_machine_parts.proofs.Within.{IsKeeping, made_none, keeping_law}
use Rattle.ocr_machine_laws.specs.Plain as plain
use Rattle.ocr_machine_laws.specs.Waits.{standing, is_gone_on, held_in, held_on}
use Rattle.ocr_machine_laws.proofs.Callers.{call_law}
use Rattle.ocr_machine_laws.proofs.Deliveries.{deliver_law}
use Rattle.ocr_machine_laws.proofs.Plain.{next_law, now_next, acquire_law, wait_law, stale_law, begin_law}
use Rattle.ocr_machine_laws.proofs.Runners.{runs_core, free_law, end_law}
use Rattle.ocr_machine_laws.proofs.Said.{enters}
use Rattle.ocr_machine_laws.proofs.Works.{sharing_law}
use Rattle.ocr_machine_rules.specs.Blocks as blocks
use Rattle.ocr_machine_rules.specs.Codes as codes
use Rattle.ocr_machine_rules.specs.Events as events
use Rattle.ocr_machine_rules.specs.Laws.{NextLaw, HeldLaw, ContentsLaw, LineLaw, DestroyedLaw, CodeLaw, PendingLaw, SaysLaw, LegalLaw, RunLaw, QuietLaw, CreatingLaw, WeighedLaw, IsEntered}
use Rattle.ocr_machine_rules.specs.Rules as rules

-- A NUMBER that nothing has yet
vacant_face : (s : Setting) (past : History) (g : ℕ) → made s past g ≡ None → (parts_of s past).face g ≡ part.Vacant
vacant_face s past g none = ap (λ (m : Option Made). face m (link_calls past g) (block_calls s past g) (event_calls s past g) (scope_calls past g)) none

low : (before g : ℕ) → before < g → 1 ≤ g
low before g above = omega arith

drawn : (on : Bool) (s : Setting) (past : History) (before g : ℕ) → IsBeside on s.limit (parts_of s past) before g → rules.IsDrawn s past on before g
drawn true s past before g is = (is.1, is.0.within, made_none s past g is.0.vacant)
drawn false s past before g is = is

beside : (on : Bool) (s : Setting) (past : History) (before g : ℕ) → rules.IsDrawn s past on before g → IsBeside on s.limit (parts_of s past) before g
beside true s past before g is = (record { some = low before g is.0; within = is.1; vacant = vacant_face s past g is.2 }, is.0)
beside false s past before g is = is

-- of a creation
named_beside : (on : Bool) (limit : ℕ) (f : Parts) (g : ℕ) → (on ≡ true → IsFresh limit f g) → (on ≡ false → g ≡ 0) → IsBeside on limit f 0 g
named_beside true limit f g fresh refused = (fresh refl, (fresh refl).some)
named_beside false limit f g fresh refused = refused refl

beside_fresh : (on : Bool) (limit : ℕ) (f : Parts) (before g : ℕ) → IsBeside on limit f before g → on ≡ true → IsFresh limit f g
beside_fresh true limit f before g is here = is.0
beside_fresh false limit f before g is here = cc here

beside_none : (on : Bool) (limit : ℕ) (f : Parts) (before g : ℕ) → IsBeside on limit f before g → on ≡ false → g ≡ 0
beside_none true limit f before g is here = cc here
beside_none false limit f before g is here = is

drawn_named : (s : Setting) (past : History) (a : Answer) → IsNamed s.limit (parts_of s past) a → rules.IsDrawn s past (is_done a.code) 0 a.value
drawn_named s past a is = drawn (is_done a.code) s past 0 a.value (named_beside (is_done a.code) s.limit (parts_of s past) a.value is.fresh is.refused)

named_drawn : (s : Setting) (past : History) (a : Answer) → rules.IsDrawn s past (is_done a.code) 0 a.value → IsNamed s.limit (parts_of s past) a
named_drawn s past a is =
    let so : IsBeside (is_done a.code) s.limit (parts_of s past) 0 a.value = beside (is_done a.code) s past 0 a.value is in
    record {
      fresh = beside_fresh (is_done a.code) s.limit (parts_of s past) 0 a.value so;
      refused = beside_none (is_done a.code) s.limit (parts_of s past) 0 a.value so;
    }

-- of an EDT's scope, and of its output event
off_drawn : (s : Setting) (past : History) (done : Bool) (before g : ℕ) → g ≡ 0 → rules.IsDrawn s past (done && false) before g
off_drawn s past done before g is = subst (λ (b : Bool). rules.IsDrawn s past b before g) (sym (and_false done)) is

drawn_off : (s : Setting) (past : History) (done : Bool) (before g : ℕ) → rules.IsDrawn s past (done && false) before g → g ≡ 0
drawn_off s past done before g is = subst (λ (b : Bool). rules.IsDrawn s past b before g) (and_false done) is

scope_drawn : (s : Setting) (past : History) (c : body.Call) (a : Answer) → IsScoped s.limit (parts_of s past) c a → rules.IsDrawn s past (is_done a.code && rules.wants_scope c) a.value a.scope
scope_drawn s past (call.EdtCreate from pc ps dc ds fl o) a is = drawn (is_done a.code && (fl == 1)) s past a.value a.scope is
scope_drawn s past other a is = off_drawn s past (is_done a.code) a.value a.scope is

drawn_scope : (s : Setting) (past : History) (c : body.Call) (a : Answer) → rules.IsDrawn s past (is_done a.code && rules.wants_scope c) a.value a.scope → IsScoped s.limit (parts_of s past) c a
drawn_scope s past (call.EdtCreate from pc ps dc ds fl o) a is = beside (is_done a.code && (fl == 1)) s past a.value a.scope is
drawn_scope s past other a is = drawn_off s past (is_done a.code) a.value a.scope is

output_drawn : (s : Setting) (past : History) (c : body.Call) (a : Answer) → HasOutput s.limit (parts_of s past) c a → rules.IsDrawn s past (is_done a.code && rules.wants_output c) (if a.scope == 0 then a.value else a.scope) a.output
output_drawn s past (call.EdtCreate from pc ps dc ds fl o) a is = drawn (is_done a.code && o) s past (if a.scope == 0 then a.value else a.scope) a.output is
output_drawn s past other a is = off_drawn s past (is_done a.code) (if a.scope == 0 then a.value else a.scope) a.output is

drawn_output : (s : Setting) (past : History) (c : body.Call) (a : Answer) → rules.IsDrawn s past (is_done a.code && rules.wants_output c) (if a.scope == 0 then a.value else a.scope) a.output → HasOutput s.limit (parts_of s past) c a
drawn_output s past (call.EdtCreate from pc ps dc ds fl o) a is = beside (is_done a.code && o) s past (if a.scope == 0 then a.value else a.scope) a.output is
drawn_output s past other a is = drawn_off s past (is_done a.code) (if a.scope == 0 then a.value else a.scope) a.output is

-- WHICH CALLS are entries
valued : (s : Setting) (past : History) (c : body.Call) (a : Answer) → rules.IsValue s past c a → IsEntered c
valued s past call.Shutdown a is = absurd is
valued s past (call.Abort number) a is = absurd is
valued s past other a is = tt

plain_valued : (s : Setting) (past : History) (c : body.Call) (a : Answer) → plain.IsPlainValue s past c a → IsEntered c
plain_valued s past call.Shutdown a is = absurd is
plain_valued s past (call.Abort number) a is = absurd is
plain_valued s past other a is = tt

creation_entered : (c : body.Call) → is_creation c ≡ true → IsEntered c
creation_entered call.Shutdown is = cc is
creation_entered (call.Abort number) is = cc is
creation_entered other is = tt

-- BLOCKS are what was made as blocks
block_made : (m : Option Made) (links : List slot.SlotCall) (bs : List block.BlockCall) (es : List EventCall) (scopes : List ScopeCall) → kinds.is_block (face m links bs es scopes) ≡ codes.is_block m
block_made None links bs es scopes = refl
block_made (Some (MadeBlock n c)) links bs es scopes = refl
block_made (Some other) links bs es scopes = refl

block_is : (s : Setting) (past : History) (d : ℕ) → kinds.is_block ((parts_of s past).face d) ≡ codes.is_block (made s past d)
block_is s past d = block_made (made s past d) (link_calls past d) (block_calls s past d) (event_calls s past d) (scope_calls past d)

a_block : (x : Part) (P : block.State → Type 0) → kinds.IsBlock x P → kinds.is_block x ≡ true
a_block (part.Block st) P is = refl
a_block other P is = absurd is

-- and such a block is destroyed by a call alone
destroyed_by : (m : Option Made) (calls : List EventCall) (by_call : Bool) → codes.is_block m ≡ true → events.is_destroyed_as m calls by_call ≡ by_call
destroyed_by (Some (MadeBlock n c)) calls by_call is = refl
destroyed_by (Some (MadeEvent k fl most)) calls by_call is = cc is
destroyed_by other calls by_call is = refl

-- a word that a body loads is one of a block
load_block : (s : Setting) (past : History) (t d k : ℕ) → legal.IsRun s past → is_started past t ≡ true → IsNext (call.Load d k) (part_bodies.says_next s past t) → codes.is_block (made s past d) ≡ true
load_block s past t d k run on next =
    sym (block_is s past d) ∙ a_block ((parts_of s past).face d) _ (sharing_law s past t d k run (inl (entered (load_of (part_bodies.holds_on (parts_of s past) t d) k) (enters s past t (call.Load d k) run on next))))
  where
    entered : (x : Access) → x ≡ Entered → plain.IsEntered x
    entered x is = subst plain.IsEntered (sym is) tt

-- WHAT A RUNNING EDT HOLDS is told by its calls
calls_held : (i : Identity) (calls : List edt.EdtCall) → is_some (kinds.work_in (edt.edt_of i calls)) ≡ true → held_in (edt.edt_of i calls) ≡ edt.holds_of calls
calls_held i [] is = cc
calls_held i (edt.Start ∷ rest) is = refl
calls_held i (edt.Hold g ∷ rest) is = refl
calls_held i (edt.DropHold g ∷ rest) is = refl
calls_held i (other ∷ rest) is = cc

core_held : (m : Option Made) (i : Identity) (calls : List edt.EdtCall) (loans : List (ℕ × Kept)) → kinds.is_running (core m i calls loans) ≡ true → held_on (core m i calls loans) ≡ edt.holds_of calls
core_held (Some (MadeEdt f ps n)) i calls loans is = calls_held i calls is
core_held other i calls loans is = cc is

held_now : (s : Setting) (past : History) (t : ℕ) → legal.IsRun s past → IsRunning past t → held_on ((parts_of s past).core t) ≡ plain.holds_now s past t
held_now s past t run running = core_held (made s past t) (identity_of past t) (edt_calls s past t) (loans_of s past t) (runs_core s past t run running)

nothing : (holds : List (ℕ × Mode)) → ((b : ℕ) → mode_in b holds ≡ None) → holds ≡ []
nothing [] none = refl
nothing (hold ∷ rest) none = let here : (if hold.0 == hold.0 then Some hold.1 else mode_in hold.0 rest) ≡ None = none hold.0 in let there = rw (same hold.0) at here in cc there

-- WHO STANDS AT A BLOCK, and whether it is destroyed, by its face
record IsTold (x : Part) (line : block.Line) (gone : Bool) : Type 0 where
  held : (t : ℕ) → kinds.is_held_by x t ≡ is_some (mode_in t line.holders)
  grants : (m : Mode) → plain.grants x m ≡ block.can_grant gone line m
  is_gone : is_gone_on x ≡ (gone && block.is_empty line.holders)
  stands : (t : ℕ) → mode_in t (standing x) ≡ mode_in t (line.holders ++ line.queue)

told : (x : Part) (line : block.Line) (gone : Bool) → kinds.IsBlock x (λ st. block.line st ≡ line) → gone ≡ kinds.is_destroyed x → IsTold x line gone
told (part.Block st) line gone is destroyed = record {
  held = λ t. ap (λ (l : block.Line). is_some (mode_in t l.holders)) is;
  grants = λ m. ap (λ (l : block.Line). block.can_grant st.destroyed l m) is ∙ ap (λ (b : Bool). block.can_grant b line m) (sym destroyed);
  is_gone = ap (λ (l : block.Line). st.destroyed && block.is_empty l.holders) is ∙ ap (λ (b : Bool). b && block.is_empty line.holders) (sym destroyed);
  stands = λ t. ap (λ (l : block.Line). mode_in t (l.holders ++ l.queue)) is;
}
told other line gone is destroyed = absurd is

-- WHAT AN EDT WANTS NEXT is a block
wanted_block : (s : Setting) (past : History) (t d : ℕ) (m : Mode) → legal.IsRun s past → is_edt past t ≡ true → is_started past t ≡ false → open_slots s past t ≡ [] → plain.next_planned s past t ≡ Some (d, m) → kinds.is_block ((parts_of s past).face d) ≡ true
wanted_block s past t d m run is_one off set next = (now_next s past t d m run set (next_law s past t run is_one off ∙ next)).facts.there

-- STOPS are told apart from other entries
nothing_stopping : (s : Setting) (past : History) (e : Entry) → legal.is_stop e ≡ false → legal.IsStopping s past e
nothing_stopping s past (Stop why) is = cc is
nothing_stopping s past other is = tt

comes_on : (s : Setting) (past : History) (e : Entry) → rules.MayCome s past e → legal.is_stop e ≡ false
comes_on s past (Stop why) may = absurd may
comes_on s past other may = refl

-- THE RULES of numbers, objects and bodies agree with the parts
module _ (next_is : NextLaw) (held_is : HeldLaw) (contents_is : ContentsLaw) (line_is : LineLaw) (destroyed_is : DestroyedLaw) (code_is : CodeLaw) (pending_is : PendingLaw) (says_is : SaysLaw)
    (refusal_is : (k fl most : ℕ) (calls : List EventCall) (p : ℕ) → ((k == CHANNEL) ≡ true → 1 ≤ most) → event.refusal (event.state_of k fl most calls) p ≡ events.refusal k fl most calls p) where
  -- A CALL
  value_told : (s : Setting) (past : History) (t : ℕ) (c : body.Call) (a : Answer) → legal.IsRun s past → is_started past t ≡ true → IsNext c (part_bodies.says_next s past t) → plain.IsPlainValue s past c a → rules.IsValue s past c a
  value_told s past t (call.Load d k) a run on next is = is ∙ ap (λ (words : List ℕ). slice_index words k) (sym (contents_is s past d run (load_block s past t d k run on next)))
  value_told s past t (call.TemplateCreate function pc dc) a run on next is = drawn_named s past a is
  value_told s past t (call.EdtCreate from pc ps dc ds fl o) a run on next is = drawn_named s past a is
  value_told s past t (call.DbCreate n fl) a run on next is = drawn_named s past a is
  value_told s past t (call.EventCreate k fl) a run on next is = drawn_named s past a is
  value_told s past t (call.EventCreateParams k fl most sats deps) a run on next is = drawn_named s past a is
  value_told s past t other a run on next is = is

  value_from : (s : Setting) (past : History) (t : ℕ) (c : body.Call) (a : Answer) → legal.IsRun s past → is_started past t ≡ true → IsNext c (part_bodies.says_next s past t) → rules.IsValue s past c a → plain.IsPlainValue s past c a
  value_from s past t (call.Load d k) a run on next is = is ∙ ap (λ (words : List ℕ). slice_index words k) (contents_is s past d run (load_block s past t d k run on next))
  value_from s past t (call.TemplateCreate function pc dc) a run on next is = named_drawn s past a is
  value_from s past t (call.EdtCreate from pc ps dc ds fl o) a run on next is = named_drawn s past a is
  value_from s past t (call.DbCreate n fl) a run on next is = named_drawn s past a is
  value_from s past t (call.EventCreate k fl) a run on next is = named_drawn s past a is
  value_from s past t (call.EventCreateParams k fl most sats deps) a run on next is = named_drawn s past a is
  value_from s past t other a run on next is = is

  call_told : (s : Setting) (past : History) (t home : ℕ) (c : body.Call) (a : Answer) (w : List (ℕ × ℕ)) → legal.IsRun s past → plain.IsPlainCall s past t home c a w → rules.IsCall s past t home c a w
  call_told s past t home c a w run is =
      let next : IsNext c (part_bodies.says_next s past t) = plain_next c is.said.0 (part_bodies.says_next s past t) is.said.1 in
      record {
        running = is.running;
        said = subst (λ (b : Behaviour). legal.IsCallSaid b c a w) (sym (says_is s past t run)) is.said;
        code = is.code ∙ sym (code_is s past t c run is.running (plain_valued s past c a is.value));
        value = value_told s past t c a run is.running.started next is.value;
        scope = scope_drawn s past c a is.scope;
        output = output_drawn s past c a is.output;
        home_is = is.home_is;
      }

  call_from : (s : Setting) (past : History) (t home : ℕ) (c : body.Call) (a : Answer) (w : List (ℕ × ℕ)) → legal.IsRun s past → is_stopped past ≡ false → rules.IsCall s past t home c a w → plain.IsPlainCall s past t home c a w
  call_from s past t home c a w run going is =
      let said : legal.IsCallSaid (part_bodies.says_next s past t) c a w = subst (λ (b : Behaviour). legal.IsCallSaid b c a w) (says_is s past t run) is.said in
      record {
        open_run = going;
        running = is.running;
        said = said;
        code = is.code ∙ code_is s past t c run is.running (valued s past c a is.value);
        value = value_from s past t c a run is.running.started (plain_next c said.0 (part_bodies.says_next s past t) said.1) is.value;
        scope = drawn_scope s past c a is.scope;
        output = drawn_output s past c a is.output;
        home_is = is.home_is;
      }

  -- A MESSAGE
  refused_by : (m : Option Made) (links : List slot.SlotCall) (bs : List block.BlockCall) (calls : List EventCall) (scopes : List ScopeCall) (p : ℕ) → IsKeeping m → delivery_code (face m links bs calls scopes) p ≡ rules.refused_by m calls p
  refused_by None links bs calls scopes p keeps = refl
  refused_by (Some (MadeEvent k fl most)) links bs calls scopes p keeps = ap code_or (refusal_is k fl most calls p keeps)
  refused_by (Some other) links bs calls scopes p keeps = refl

  code_for : (s : Setting) (past : History) (w : What) → legal.IsRun s past → plain.code_for (parts_of s past).face w ≡ rules.delivery_code s past w
  code_for s past (what.Satisfy e slot p) run = refused_by (made s past e) (link_calls past e) (block_calls s past e) (event_calls s past e) (scope_calls past e) p (keeping_law s past e run)
  code_for s past other run = refl

  -- GOING ON
  at_block : (s : Setting) (past : History) (d : ℕ) → legal.IsRun s past → kinds.is_block ((parts_of s past).face d) ≡ true → IsTold ((parts_of s past).face d) (blocks.line_of s past d) (blocks.was_destroyed past d)
  at_block s past d run is =
      let is_made : codes.is_block (made s past d) ≡ true = sym (block_is s past d) ∙ is in
      elim (line_is s past d run) [
        | inl line ↦ told ((parts_of s past).face d) (blocks.line_of s past d) (blocks.was_destroyed past d) line (sym (destroyed_by (made s past d) (event_calls s past d) (blocks.was_destroyed past d) is_made) ∙ destroyed_is s past d run)
        | inr none ↦ cc (is_made, none)
      ]

  ready_told : (s : Setting) (past : History) (t : ℕ) → plain.IsReady s past t → rules.IsReady s past t
  ready_told s past t is = record { made = is.made; not_started = is.not_started; all_set = is.all_set }

  ready_from : (s : Setting) (past : History) (t : ℕ) → is_stopped past ≡ false → rules.IsReady s past t → plain.IsReady s past t
  ready_from s past t going is = record { open_run = going; made = is.made; not_started = is.not_started; all_set = is.all_set }

  -- who is ready for a block stands there as the parts tell
  record IsBoth (s : Setting) (past : History) (t d : ℕ) (m : Mode) : Type 0 where
    by_parts : plain.IsReadyFor s past t d m
    by_rules : rules.IsReadyFor s past t d m
    tells : IsTold ((parts_of s past).face d) (blocks.line_of s past d) (blocks.was_destroyed past d)

  both_told : (s : Setting) (past : History) (t d : ℕ) (m : Mode) → legal.IsRun s past → plain.IsReadyFor s past t d m → IsBoth s past t d m
  both_told s past t d m run is = record {
    by_parts = is;
    by_rules = record { ready = ready_told s past t is.ready; next = next_is s past t run ∙ is.next };
    tells = at_block s past d run (wanted_block s past t d m run is.ready.made is.ready.not_started is.ready.all_set is.next);
  }

  both_from : (s : Setting) (past : History) (t d : ℕ) (m : Mode) → legal.IsRun s past → is_stopped past ≡ false → rules.IsReadyFor s past t d m → IsBoth s past t d m
  both_from s past t d m run going is =
      both_told s past t d m run (record { ready = ready_from s past t going is.ready; next = sym (next_is s past t run) ∙ is.next })

  available_told : (s : Setting) (past : History) (t d : ℕ) (m : Mode) → IsBoth s past t d m → plain.IsAvailable ((parts_of s past).face d) t m → rules.IsAvailable s past t d m
  available_told s past t d m both avail = elim avail [
    | inl held ↦ inl (sym (both.tells.held t) ∙ held)
    | inr can ↦ inr (sym (both.tells.grants m) ∙ can)
  ]

  available_from : (s : Setting) (past : History) (t d : ℕ) (m : Mode) → IsBoth s past t d m → rules.IsAvailable s past t d m → plain.IsAvailable ((parts_of s past).face d) t m
  available_from s past t d m both avail = elim avail [
    | inl held ↦ inl (both.tells.held t ∙ held)
    | inr can ↦ inr (both.tells.grants m ∙ can)
  ]

  unavailable_told : (s : Setting) (past : History) (t d : ℕ) (m : Mode) → IsBoth s past t d m → plain.IsUnavailable ((parts_of s past).face d) t m → rules.IsUnavailable s past t d m
  unavailable_told s past t d m both un = record {
    not_there = sym (both.tells.stands t) ∙ un.not_there;
    not_grantable = sym (both.tells.grants m) ∙ un.not_grantable;
    not_gone = sym both.tells.is_gone ∙ un.not_gone;
  }

  unavailable_from : (s : Setting) (past : History) (t d : ℕ) (m : Mode) → IsBoth s past t d m → rules.IsUnavailable s past t d m → plain.IsUnavailable ((parts_of s past).face d) t m
  unavailable_from s past t d m both un = record {
    not_there = both.tells.stands t ∙ un.not_there;
    not_grantable = both.tells.grants m ∙ un.not_grantable;
    not_gone = both.tells.is_gone ∙ un.not_gone;
  }

  -- ENDING
  holds : (s : Setting) (past : History) (t b : ℕ) → legal.IsRun s past → IsRunning past t → blocks.held s past t b ≡ mode_in b (plain.holds_now s past t)
  holds s past t b run running = held_is s past t b run ∙ ap (mode_in b) (held_now s past t run running)

  free_told : (s : Setting) (past : History) (t d : ℕ) (w : List (ℕ × ℕ)) → legal.IsRun s past → plain.IsPlainFree s past t d w → rules.IsFree s past t d w
  free_told s past t d w run is = record {
    running = is.running;
    holds = ap is_some (holds s past t d run is.running) ∙ is.least.held;
    least = λ b held. is.least.least b (sym (ap is_some (holds s past t b run is.running)) ∙ held);
    said = subst (λ (b : Behaviour). legal.IsFreeSaid b d w) (sym (says_is s past t run)) is.said;
  }

  free_from : (s : Setting) (past : History) (t d : ℕ) (w : List (ℕ × ℕ)) → legal.IsRun s past → is_stopped past ≡ false → rules.IsFree s past t d w → plain.IsPlainFree s past t d w
  free_from s past t d w run going is = record {
    open_run = going;
    running = is.running;
    least = record {
      held = sym (ap is_some (holds s past t d run is.running)) ∙ is.holds;
      least = λ b held. is.least b (ap is_some (holds s past t b run is.running) ∙ held);
    };
    said = subst (λ (b : Behaviour). legal.IsFreeSaid b d w) (says_is s past t run) is.said;
  }

  end_told : (s : Setting) (past : History) (t g : ℕ) → legal.IsRun s past → plain.IsPlainEnd s past t g → rules.IsEnd s past t g
  end_told s past t g run is = record {
    running = is.running;
    holds_none = λ b. holds s past t b run is.running ∙ ap (mode_in b) is.nothing_held;
    said = subst (λ (b : Behaviour). legal.IsEndSaid b g) (sym (says_is s past t run)) is.said;
  }

  end_from : (s : Setting) (past : History) (t g : ℕ) → legal.IsRun s past → is_stopped past ≡ false → rules.IsEnd s past t g → plain.IsPlainEnd s past t g
  end_from s past t g run going is = record {
    open_run = going;
    running = is.running;
    nothing_held = nothing (plain.holds_now s past t) (λ b. sym (holds s past t b run is.running) ∙ is.holds_none b);
    said = subst (λ (b : Behaviour). legal.IsEndSaid b g) (says_is s past t run) is.said;
  }

  -- EACH ENTRY but a Stop
  comes : (s : Setting) (past : History) (e : Entry) → s.limit ≤ MOST_MEMBERS → legal.IsRun s past → is_stopped past ≡ false → legal.is_stop e ≡ false → legal.IsLegal s past e ↔ rules.MayCome s past e
  comes s past (Call t home c a w) few run going on = (
    λ is. call_told s past t home c a w run ((call_law s past t home c a w few run).0 is),
    λ may. (call_law s past t home c a w few run).1 (call_from s past t home c a w run going may),
  )
  comes s past (Deliver m c) few run going on = (
    λ is. let so = (deliver_law s past m c run).0 is in (subst (λ (ms : List (ℕ × ℕ × What)). Contains ms (m.place, m.index, m.what)) (sym (pending_is s past run)) so.sent, so.code ∙ code_for s past m.what run),
    λ may. (deliver_law s past m c run).1 (record {
      open_run = going;
      sent = subst (λ (ms : List (ℕ × ℕ × What)). Contains ms (m.place, m.index, m.what)) (pending_is s past run) may.0;
      code = may.1 ∙ sym (code_for s past m.what run);
    }),
  )
  comes s past (Acquire t d) few run going on = (
    λ is. let so = (acquire_law s past t d run).0 is in let both = both_told s past t d so.0 run so.1 in (so.0, both.by_rules, available_told s past t d so.0 both so.2),
    λ may. let both = both_from s past t d may.0 run going may.1 in (acquire_law s past t d run).1 (may.0, both.by_parts, available_from s past t d may.0 both may.2),
  )
  comes s past (Wait t d) few run going on = (
    λ is. let so = (wait_law s past t d run).0 is in let both = both_told s past t d so.0 run so.1 in (so.0, both.by_rules, unavailable_told s past t d so.0 both so.2),
    λ may. let both = both_from s past t d may.0 run going may.1 in (wait_law s past t d run).1 (may.0, both.by_parts, unavailable_from s past t d may.0 both may.2),
  )
  comes s past (StaleAcquire t d) few run going on = (
    λ is. let so = (stale_law s past t d run).0 is in let both = both_told s past t d so.0 run so.1 in (so.0, both.by_rules, sym both.tells.is_gone ∙ so.2),
    λ may. let both = both_from s past t d may.0 run going may.1 in (stale_law s past t d run).1 (may.0, both.by_parts, both.tells.is_gone ∙ may.2),
  )
  comes s past (Start t) few run going on = (
    λ is. let so = (begin_law s past t run).0 is in (ready_told s past t so.0, next_is s past t run ∙ so.1),
    λ may. (begin_law s past t run).1 (ready_from s past t going may.0, sym (next_is s past t run) ∙ may.1),
  )
  comes s past (Free t d w) few run going on = (
    λ is. free_told s past t d w run ((free_law s past t d w run).0 is),
    λ may. (free_law s past t d w run).1 (free_from s past t d w run going may),
  )
  comes s past (End t g) few run going on = (
    λ is. end_told s past t g run ((end_law s past t g run).0 is),
    λ may. (end_law s past t g run).1 (end_from s past t g run going may),
  )
  comes s past (Stop why) few run going on = cc on

  -- WHY A LIMIT stops a run
  pub creating_law : CreatingLaw
  creating_law s past t c run = (
    λ is. record {
      running = is.running;
      next = subst (λ (b : Behaviour). IsNext c b) (sym (says_is s past t run)) is.next;
      creation = is.creation;
      accepted = code_is s past t c run is.running (creation_entered c is.creation) ∙ is.accepted;
    },
    λ is. record {
      running = is.running;
      next = subst (λ (b : Behaviour). IsNext c b) (says_is s past t run) is.next;
      creation = is.creation;
      accepted = sym (code_is s past t c run is.running (creation_entered c is.creation)) ∙ is.accepted;
    },
  )

  pub weighed_law : WeighedLaw
  weighed_law s past e weight few run going = (
    λ is. record {
      weighs = is.weighs;
      may_come = (comes s past e few run going is.no_stop).0 (record { open_run = going; on_parts = is.on_parts; on_facts = is.on_facts; said = is.said; stopping = nothing_stopping s past e is.no_stop });
    },
    λ is.
        let on : legal.is_stop e ≡ false = comes_on s past e is.may_come in
        let may : legal.IsLegal s past e = (comes s past e few run going on).1 is.may_come in
        record { weighs = is.weighs; no_stop = on; on_parts = may.on_parts; on_facts = may.on_facts; said = may.said },
  )

  -- STOPS
  stop_told : (s : Setting) (past : History) (why : run_stop.Stop) → s.limit ≤ MOST_MEMBERS → legal.IsRun s past → legal.IsLegal s past (Stop why) → rules.MayStop s past why
  stop_told s past (by.Shutdown t) few run is = record { running = is.stopping; said = says_is s past t run ∙ is.said }
  stop_told s past (by.Abort t number) few run is = record { running = is.stopping; said = says_is s past t run ∙ is.said }
  stop_told s past (by.Fault t why) few run is = record { running = is.stopping; said = says_is s past t run ∙ is.said }
  stop_told s past by.Objects few run is = let so = is.stopping in (so.0, so.1, (creating_law s past so.0 so.1 run).0 so.2)
  stop_told s past (by.Events worker weight) few run is = let so = is.stopping in (so.0, (weighed_law s past so.0 weight few run is.open_run).0 so.1)
  stop_told s past by.Memory few run is = tt

  stop_from : (s : Setting) (past : History) (why : run_stop.Stop) → s.limit ≤ MOST_MEMBERS → legal.IsRun s past → is_stopped past ≡ false → rules.MayStop s past why → legal.IsLegal s past (Stop why)
  stop_from s past (by.Shutdown t) few run going may = record { open_run = going; on_parts = tt; on_facts = tt; said = sym (says_is s past t run) ∙ may.said; stopping = may.running }
  stop_from s past (by.Abort t number) few run going may = record { open_run = going; on_parts = tt; on_facts = tt; said = sym (says_is s past t run) ∙ may.said; stopping = may.running }
  stop_from s past (by.Fault t why) few run going may = record { open_run = going; on_parts = tt; on_facts = tt; said = sym (says_is s past t run) ∙ may.said; stopping = may.running }
  stop_from s past by.Objects few run going may = record { open_run = going; on_parts = tt; on_facts = tt; said = tt; stopping = (may.0, may.1, (creating_law s past may.0 may.1 run).1 may.2) }
  stop_from s past (by.Events worker weight) few run going may = record { open_run = going; on_parts = tt; on_facts = tt; said = tt; stopping = (may.0, (weighed_law s past may.0 weight few run going).1 may.1) }
  stop_from s past by.Memory few run going may = record { open_run = going; on_parts = tt; on_facts = tt; said = tt; stopping = tt }

  -- LEGAL
  pub legal_law : LegalLaw
  legal_law s past (Stop why) few run = (
    λ is. record { open_run = is.open_run; allowed = stop_told s past why few run is },
    λ may. stop_from s past why few run may.open_run may.allowed,
  )
  legal_law s past other few run = (
    λ is. record { open_run = is.open_run; allowed = (comes s past other few run is.open_run refl).0 is },
    λ may. (comes s past other few run may.open_run refl).1 may.allowed,
  )

  -- A RUN
  pub run_law : RunLaw
  run_law s [] few = (λ run. tt, λ run. tt)
  run_law s (e ∷ past) few = (
    λ run. ((run_law s past few).0 run.0, (legal_law s past e few run.0).0 run.1),
    λ run. let before : legal.IsRun s past = (run_law s past few).1 run.0 in (before, (legal_law s past e few before).1 run.1),
  )

  -- QUIET
  pub quiet_law : QuietLaw
  quiet_law s past few run = (
    λ is. record {
      open_run = is.open_run;
      delivered = pending_is s past run ∙ is.delivered;
      ended = is.ended;
      asleep = λ e waking may. is.asleep e waking ((legal_law s past e few run).1 may);
    },
    λ is. record {
      open_run = is.open_run;
      delivered = sym (pending_is s past run) ∙ is.delivered;
      ended = is.ended;
      asleep = λ e waking may. is.asleep e waking ((legal_law s past e few run).0 may);
    },
  )
