-- The code of a call: the rules, by what was made and what was called, and the parts, by the faces, tell the same.
use Rattle.std.proofs.Common.{◌≡◌, ℕ, List, [], ◌∷◌, Bool, true, false, not, nat_lt, ◌&&◌, ◌||◌, ◌==◌, if◌then◌else◌, Option, Some, None, is_some, refl, sym, ◌∙◌, ap, rules, arith}
use Rattle.std.specs.Cmp.{both_ways}
use Rattle.std.specs.List.{list_any}
use Rattle.std.proofs.lemmas.Bool.{eqb-true}
use Rattle.std.proofs.lemmas.Grind.{common_steps}
use Rattle.ocr_guid.specs.declared.Code.{Code}
use Rattle.ocr_guid.specs.declared.Code.TheVariants as code
use Rattle.ocr_guid.specs.Target.{EventCall}
use Rattle.ocr_acquire.specs.declared.Mode.{Mode}
use Rattle.ocr_acquire.specs.Mode.{mode_in}
use Rattle.ocr_slots.specs.Slots as slot
use Rattle.ocr_slots.proofs.Laws.{answer_law}
use Rattle.ocr_datablock.specs.Block as block
use Rattle.ocr_event.specs.declared.EventKind.{EventKind}
use Rattle.ocr_event_any.specs.declared.TheConstants.{LATCH, CHANNEL}
use Rattle.ocr_event_any.specs.AnyEvent as event
use Rattle.ocr_event_any.specs.AnyEvent.{takes_arg, plain_kind, state_by}
use Rattle.ocr_finish.specs.Scope.{ScopeCall}
use Rattle.ocr_body_meaning.specs.declared.call.Call as body
use Rattle.ocr_body_meaning.specs.declared.call.Call.TheVariants as call
use Rattle.ocr_machine_history.specs.Edts.{IsRunning}
use Rattle.ocr_machine_history.specs.History.{History, Setting}
use Rattle.ocr_machine_history.specs.Made.{Made, MadeTemplate, MadeEdt, MadeEvent, made}
use Rattle.ocr_machine_parts.specs.declared.loans.Kept.{Kept}
use Rattle.ocr_machine_parts.specs.declared.part.Part.{Part}
use Rattle.ocr_machine_parts.specs.declared.part.Part.TheVariants as part
use Rattle.ocr_machine_parts.specs.Calls.{link_calls, block_calls, event_calls, scope_calls}
use Rattle.ocr_machine_parts.specs.Codes as codes
use Rattle.ocr_machine_parts.specs.Codes.{Sort, ToRelease, Held, wanted, is_its_own, is_any, is_of_other_kind, is_refused_as_stale, code_or}
use Rattle.ocr_machine_parts.specs.Kinds as kinds
use Rattle.ocr_machine_parts.specs.Kinds.{IsBlock, is_held_by, mode_on, kept_on}
use Rattle.ocr_machine_parts.specs.Legal.{IsRun}
use Rattle.ocr_machine_parts.specs.LegalOn.{IsHeld}
use Rattle.ocr_machine_parts.specs.Parts.{face, parts_of}
use Rattle.ocr_machine_parts.proofs.Within.{IsKeeping, keeping_law}
use Rattle.ocr_machine_laws.specs.Held.{IsHeldSo}
use Rattle.ocr_machine_laws.specs.Memory.{hold_of}
use Rattle.ocr_machine_laws.specs.Waits.{held_on}
use Rattle.ocr_machine_laws.proofs.Held.{zero_law, holding_law, held_law, mode_held}
use Rattle.ocr_machine_laws.proofs.Runners.{runs_core}
use Rattle.ocr_machine_rules.specs.Blocks.{held}
use Rattle.ocr_machine_rules.specs.Codes.{is_block, is_missing, has_kind, is_stale, creation_code, slot_most, satisfy_code, dependence_code, number_code}
use Rattle.ocr_machine_rules.specs.Events.{refusal, is_destroyed}
use Rattle.ocr_machine_rules.specs.Laws.{HeldLaw, IsEntered, CodeLaw}
use Rattle.ocr_machine_rules.proofs.Events.{refusal_is, destroyed_is}

-- WHO HOLDS A BLOCK is told by its face as by the core of the EDT, which runs
some_held : (t : ℕ) (x : Part) (m : Option Mode) (k : Option Kept) → IsHeldSo t x m k → is_some m ≡ true → is_held_by x t ≡ true
some_held t (part.Block st) (Some m) (Some kept) so is = ap (λ (o : Option Mode). is_some o) so.holder
some_held t other (Some m) (Some kept) so is = absurd so
some_held t x (Some m) None so is = absurd so
some_held t x None k so is = cc is

held_mode : (t d : ℕ) (x y : Part) → ((m : Mode) → mode_on y d ≡ Some m → mode_in d (held_on y) ≡ Some m) → is_held_by x t ≡ true → IsBlock x (IsHeld t (mode_on y d) (kinds.loan_on y d)) → is_some (mode_in d (held_on y)) ≡ true
held_mode t d (part.Block st) y core is ending = elim (mode_in t st.holders) as (λ o. mode_in t st.holders ≡ o → is_some o ≡ true → is_some (mode_in d (held_on y)) ≡ true) [
  | None ↦ λ _ no. cc no
  | Some m ↦ λ at _. ap (λ (o : Option Mode). is_some o) (core m (ending.same ∙ at))
] refl is
held_mode t d other y core is ending = cc is

pub holder_is : (s : Setting) (past : History) (t d : ℕ) → IsRun s past → IsRunning past t → is_some (hold_of s past t d) ≡ is_held_by ((parts_of s past).face d) t
holder_is s past t d run running =
    let y : Part = (parts_of s past).core t in
    let x : Part = (parts_of s past).face d in
    both_ways (is_some (mode_in d (held_on y))) (is_held_by x t)
    (some_held t x (mode_in d (held_on y)) (kept_on y d) ((holding_law s past run).so t d))
    (λ is. held_mode t d x y (λ m at. mode_held y d m at) is (held_law s past t d run (runs_core s past t run running) is))

-- OF ONE OBJECT
missing_is : (sort : Sort) (m : Option Made) (links : List slot.SlotCall) (blocks : List block.BlockCall) (events : List EventCall) (scopes : List ScopeCall) → is_missing sort m ≡ codes.is_missing sort (face m links blocks events scopes)
missing_is sort m links blocks events scopes = search rules

kind_is : (sort : Sort) (m : Option Made) (links : List slot.SlotCall) (blocks : List block.BlockCall) (events : List EventCall) (scopes : List ScopeCall) → not (has_kind sort m) ≡ is_of_other_kind sort (face m links blocks events scopes)
kind_is sort m links blocks events scopes = search rules

stale_is : (sort : Sort) (t : ℕ) (x : Part) (destroyed held : Bool) → destroyed ≡ kinds.is_destroyed x → held ≡ is_held_by x t → is_stale sort destroyed held ≡ is_refused_as_stale t sort x
stale_is Held t x destroyed held one two = refl
stale_is ToRelease t x destroyed held one two = cc
stale_is other t x destroyed held one two = one

any_is : (p : ℕ × Sort → Bool) (test : Sort → Part → Bool) (f : ℕ → Part) → ((one : ℕ × Sort) → p one ≡ test one.1 (f one.0)) → (xs : List (ℕ × Sort)) → list_any p xs ≡ is_any test f xs
any_is p test f is [] = refl
any_is p test f is (one ∷ rest) = rw (is one, any_is p test f is rest) refl

-- NUMBERS, flags and counts
creation_is : (m : Option Made) (links : List slot.SlotCall) (blocks : List block.BlockCall) (events : List EventCall) (scopes : List ScopeCall) (pc : ℕ) (params : List ℕ) (dc : ℕ) (deps : List ℕ) (flags : ℕ)
    → creation_code m pc params dc deps flags ≡ codes.creation_code (face m links blocks events scopes) pc params dc deps flags
creation_is (Some (MadeTemplate f own_pc own_dc)) links blocks events scopes pc params dc deps flags = grind (arith, common_steps)
creation_is other links blocks events scopes pc params dc deps flags = refl

most_slot : (a b : Bool) (k : EventKind) (takes : Bool) (most : ℕ) (calls : List EventCall) → (if a then 1 else 0) ≡ codes.slot_most (state_by a b k takes most calls)
most_slot true other k takes most calls = refl
most_slot false true k takes most calls = refl
most_slot false false k takes most calls = refl

slot_most_is : (k fl most : ℕ) (calls : List EventCall) → slot_most k ≡ codes.slot_most (event.state_of k fl most calls)
slot_most_is k fl most calls = most_slot (k == LATCH) (k == CHANNEL) (plain_kind k) (takes_arg fl) most calls

takes_by : (a b : Bool) (k : EventKind) (takes : Bool) (most : ℕ) (calls : List EventCall) → takes ≡ event.takes (state_by a b k takes most calls)
takes_by true other k takes most calls = refl
takes_by false true k takes most calls = refl
takes_by false false k takes most calls = refl

takes_is : (k fl most : ℕ) (calls : List EventCall) → takes_arg fl ≡ event.takes (event.state_of k fl most calls)
takes_is k fl most calls = takes_by (k == LATCH) (k == CHANNEL) (plain_kind k) (takes_arg fl) most calls

satisfy_is : (m : Option Made) (links : List slot.SlotCall) (blocks : List block.BlockCall) (events : List EventCall) (scopes : List ScopeCall) (i p : ℕ) → IsKeeping m
    → satisfy_code m events i p ≡ codes.satisfy_code (face m links blocks events scopes) i p
satisfy_is (Some (MadeEvent k fl most)) links blocks events scopes i p least =
    ap (λ (n : ℕ). if nat_lt n i then code.Einval else code_or (refusal k fl most events p)) (slot_most_is k fl most events)
    ∙ ap (λ (o : Option Code). if nat_lt (codes.slot_most (event.state_of k fl most events)) i then code.Einval else code_or o) (sym (refusal_is k fl most events p least))
satisfy_is other links blocks events scopes i p least = refl

either_off : (b : Bool) (c : Code) → c ≡ (if b then c else c)
either_off true c = refl
either_off false c = refl

dependence_is : (brings : Bool) (m : Option Made) (links : List slot.SlotCall) (blocks : List block.BlockCall) (events : List EventCall) (scopes : List ScopeCall) (i mode : ℕ)
    → dependence_code brings m links i mode ≡ codes.dependence_code brings (face m links blocks events scopes) i mode
dependence_is brings (Some (MadeEvent k fl most)) links blocks events scopes i mode =
    ap (λ (n : ℕ). if nat_lt n i || (brings && not (takes_arg fl)) then code.Einval else code.Done) (slot_most_is k fl most events)
    ∙ ap (λ (b : Bool). if nat_lt (codes.slot_most (event.state_of k fl most events)) i || (brings && not b) then code.Einval else code.Done) (takes_is k fl most events)
dependence_is brings (Some (MadeEdt f ps n)) links blocks events scopes i mode = ap (λ (c : Code). if nat_lt 4 mode then code.Einval else c) (sym (answer_law n links i))
dependence_is brings other links blocks events scopes i mode = either_off (nat_lt 4 mode) code.Einval

-- a dependence brings a block where its source is one: nothing has the number 0
pub block_is : (m : Option Made) (links : List slot.SlotCall) (blocks : List block.BlockCall) (events : List EventCall) (scopes : List ScopeCall) → is_block m ≡ kinds.is_block (face m links blocks events scopes)
block_is m links blocks events scopes = search rules

brings_if : (b m x : Bool) → m ≡ x → (b ≡ true → m ≡ false) → m ≡ (not b && x)
brings_if true m x is none = none refl
brings_if false m x is none = is

brings_is : (s : Setting) (past : History) (from : ℕ) → IsRun s past → is_block (made s past from) ≡ codes.brings_block (parts_of s past).face from
brings_is s past from run = brings_if (from == 0) (is_block (made s past from)) (kinds.is_block ((parts_of s past).face from))
    (block_is (made s past from) (link_calls past from) (block_calls s past from) (event_calls s past from) (scope_calls past from))
    (λ is. ap (λ (n : ℕ). is_block (made s past n)) (eqb-true from 0 is) ∙ ap is_block (zero_law s past run))

number_is : (s : Setting) (past : History) (t : ℕ) (c : body.Call) → IsRun s past → IsEntered c → ((d : ℕ) → is_some (held s past t d) ≡ is_held_by ((parts_of s past).face d) t)
    → number_code s past t c ≡ codes.number_code t (parts_of s past).face c
number_is s past t (call.DbRelease d) run entered holder = ap (λ (b : Bool). if b then code.Done else code.Eperm) (holder d)
number_is s past t (call.EdtCreate from pc ps dc ds fl o) run entered holder = creation_is (made s past from) (link_calls past from) (block_calls s past from) (event_calls s past from) (scope_calls past from) pc ps dc ds fl
number_is s past t (call.Satisfy e p i) run entered holder = satisfy_is (made s past e) (link_calls past e) (block_calls s past e) (event_calls s past e) (scope_calls past e) i p (keeping_law s past e run)
number_is s past t (call.AddDependence from x i m) run entered holder =
    ap (λ (b : Bool). dependence_code b (made s past x) (link_calls past x) i m) (brings_is s past from run)
    ∙ dependence_is (codes.brings_block (parts_of s past).face from) (made s past x) (link_calls past x) (block_calls s past x) (event_calls s past x) (scope_calls past x) i m
number_is s past t call.Shutdown run entered holder = absurd entered
number_is s past t (call.Abort number) run entered holder = absurd entered
number_is s past t other run entered holder = refl

-- THE CODE
code_by : (missing missing' kind kind' stale stale' : Bool) (own : Bool) (c c' : Code) → missing ≡ missing' → kind ≡ kind' → stale ≡ stale' → c ≡ c'
    → (if missing then code.Enoent else if own || kind then code.Einval else if stale then code.Stale else c) ≡ (if missing' then code.Enoent else if own || kind' then code.Einval else if stale' then code.Stale else c')
code_by missing missing' kind kind' stale stale' own c c' one two three four = cc

pub codes_agree : (held_is : HeldLaw) → CodeLaw
codes_agree held_is s past t c run running entered =
    let f : ℕ → Part = (parts_of s past).face in
    let holder : (d : ℕ) → is_some (held s past t d) ≡ is_held_by (f d) t = λ d. ap (λ (o : Option Mode). is_some o) (held_is s past t d run) ∙ holder_is s past t d run running in
    code_by _ _ _ _ _ _ (is_its_own c) _ _
    (any_is (λ one. is_missing one.1 (made s past one.0)) codes.is_missing f (λ one. missing_is one.1 (made s past one.0) (link_calls past one.0) (block_calls s past one.0) (event_calls s past one.0) (scope_calls past one.0)) (wanted c))
    (any_is (λ one. not (has_kind one.1 (made s past one.0))) is_of_other_kind f (λ one. kind_is one.1 (made s past one.0) (link_calls past one.0) (block_calls s past one.0) (event_calls s past one.0) (scope_calls past one.0)) (wanted c))
    (any_is (λ one. is_stale one.1 (is_destroyed s past one.0) (is_some (held s past t one.0))) (is_refused_as_stale t) f (λ one. stale_is one.1 t (f one.0) _ _ (destroyed_is s past one.0 run) (holder one.0)) (wanted c))
    (number_is s past t c run entered holder)
