-- What the bodies of a run do, told by its entries.
use Rattle.std.proofs.Common.{◌≡◌, ℕ, List, [], ◌∷◌, Bool, true, false, nat_lt, Option, Some, None, ◌==◌, ◌&&◌, if◌then◌else◌, map, refl, sym, ◌∙◌, ap, subst, arith}
use Rattle.std.proofs.lemmas.Bool.{eqb-true, and_parts}
use Rattle.ocr_guid.specs.Target.{EventCall}
use Rattle.ocr_acquire.specs.declared.Mode.{Mode}
use Rattle.ocr_acquire.specs.declared.Mode.TheVariants as mode
use Rattle.ocr_acquire.specs.Mode.{mode_in, is_isolated, is_null}
use Rattle.ocr_slots.specs.Slots as slot
use Rattle.ocr_datablock.specs.Block as block
use Rattle.ocr_datablock.specs.Lent.{Loan, loan_of}
use Rattle.ocr_edt.specs.Edt as edt
use Rattle.ocr_edt.specs.Phases.{is_named}
use Rattle.ocr_finish.specs.Scope.{ScopeCall}
use Rattle.ocr_body_meaning.specs.Body.{says}
use Rattle.ocr_machine_history.specs.declared.entry.Entry.TheVariants.{Acquire, Start}
use Rattle.ocr_machine_history.specs.Edts.{is_started, IsRunning}
use Rattle.ocr_machine_history.specs.History.{History, Setting, own}
use Rattle.ocr_machine_history.specs.Made.{Made, MadeBlock, made, function_in, params_in, size_in}
use Rattle.ocr_machine_parts.specs.declared.loans.Kept.{Kept}
use Rattle.ocr_machine_parts.specs.declared.part.Part.{Part}
use Rattle.ocr_machine_parts.specs.Bodies as part_bodies
use Rattle.ocr_machine_parts.specs.Calls as calls
use Rattle.ocr_machine_parts.specs.Kinds.{IsBlock, is_running, kept_on}
use Rattle.ocr_machine_parts.specs.Legal.{IsRun}
use Rattle.ocr_machine_parts.specs.Loans.{loan_in}
use Rattle.ocr_machine_parts.specs.Parts.{face, parts_of}
use Rattle.ocr_machine_laws.specs.Found as laws
use Rattle.ocr_machine_laws.specs.Held.{IsKeptWith}
use Rattle.ocr_machine_laws.specs.Memory as memory
use Rattle.ocr_machine_laws.proofs.Found.{kept_with, found_law}
use Rattle.ocr_machine_laws.proofs.Held.{running_core}
use Rattle.ocr_machine_laws.proofs.Own.{not_started}
use Rattle.ocr_machine_laws.proofs.Runners.{runs_core}
use Rattle.ocr_machine_laws.proofs.Stages.{told_law}
use Rattle.ocr_machine_rules.specs.Blocks.{has_found_gone, held, found, contents_of}
use Rattle.ocr_machine_rules.specs.Bodies.{given_value, value_at, first_hold, first_holds, body_of}
use Rattle.ocr_machine_rules.specs.Codes.{is_block}
use Rattle.ocr_machine_rules.specs.Laws.{HeldLaw, ContentsLaw, SaysLaw}

-- what an EDT found gone is named among what its calls found stale
abbrev pub LostLaw : Type 0
LostLaw = (s : Setting) (past : History) (t p : ℕ) → IsRun s past → is_named p (edt.stale_of (calls.edt_calls s past t)) ≡ has_found_gone past t p

-- DEPV, slot by slot
values_are : (s : Setting) (past : History) (t : ℕ) (ks : List ℕ) → ((p : ℕ) → is_named p (edt.stale_of (calls.edt_calls s past t)) ≡ has_found_gone past t p)
    → map (λ k. value_at past t k) ks ≡ calls.depv_in (edt.stale_of (calls.edt_calls s past t)) (map (λ k. calls.slot_now past t k) ks)
values_are s past t [] lost = refl
values_are s past t (k ∷ ks) lost =
    let p : ℕ = calls.payload_or_null (calls.payload_of past t k) in
    let null : Bool = is_null (calls.mode_or_null (slot.mode_of (calls.link_calls past t) k)) in
    λ i. given_value p (sym (lost p) i) null ∷ values_are s past t ks lost i

-- WHAT IT FOUND in a block: it was one
block_made : (md : Option Made) (links : List slot.SlotCall) (blocks : List block.BlockCall) (events : List EventCall) (scopes : List ScopeCall) (P : block.State → Type 0) → IsBlock (face md links blocks events scopes) P → is_block md ≡ true
block_made (Some (MadeBlock n c)) links blocks events scopes P is = refl
block_made other links blocks events scopes P is = absurd is

found_is : ContentsLaw → (s : Setting) (past : History) (t d : ℕ) → IsRun s past → found s past t d ≡ laws.found s past t d
found_is contents_is s [] t d run = refl
found_is contents_is s (Acquire u b ∷ past) t d run =
    elim ((u == t) && (b == d)) as (λ c. ((u == t) && (b == d)) ≡ c → (if c then contents_of s past d else found s past t d) ≡ (if c then calls.contents_of s past d else laws.found s past t d)) [
      | true ↦ λ on.
          let at : is_block (made s past b) ≡ true = block_made (made s past b) (calls.link_calls past b) (calls.block_calls s past b) (calls.event_calls s past b) (calls.scope_calls past b) _ run.1.on_parts.taken in
          contents_is s past d run.0 (subst (λ (n : ℕ). is_block (made s past n) ≡ true) (eqb-true b d (and_parts (u == t) (b == d) on).1) at)
      | false ↦ λ _. found_is contents_is s past t d run.0
    ] refl
found_is contents_is s (e ∷ past) t d run = found_is contents_is s past t d run.0

-- WHAT IT HOLDS while it runs, as its body knows it
size_is : (md : Option Made) (links : List slot.SlotCall) (blocks : List block.BlockCall) (events : List EventCall) (scopes : List ScopeCall) (t : ℕ) (m : Mode) (kept : Kept) → IsBlock (face md links blocks events scopes) (IsKeptWith t m kept) → kept.size ≡ size_in md
size_is (Some (MadeBlock n c)) links blocks events scopes t m kept is = is.size
size_is other links blocks events scopes t m kept is = absurd is

lent_hold : (m : Mode) (kept : Kept) (words : List ℕ) → (is_isolated m ≡ true → kept.loan ≡ Some (loan_of m words [])) → first_hold (Some m) kept.size words ≡ Some (part_bodies.hold_in m kept.size kept.loan)
lent_hold mode.Ew kept words lent = ap (λ (o : Option Loan). Some (part_bodies.hold_in mode.Ew kept.size o)) (sym (lent refl))
lent_hold mode.Const kept words lent = ap (λ (o : Option Loan). Some (part_bodies.hold_in mode.Const kept.size o)) (sym (lent refl))
lent_hold other kept words lent = refl

none_held : (k : Option Kept) → part_bodies.hold_of None k ≡ None
none_held None = refl
none_held (Some k) = refl

hold_is : ContentsLaw → (s : Setting) (past : History) (t d : ℕ) (o : Option Mode) → IsRun s past → memory.hold_of s past t d ≡ o
    → first_hold o (size_in (made s past d)) (found s past t d) ≡ part_bodies.hold_of o (kept_on ((parts_of s past).core t) d)
hold_is contents_is s past t d None run is = sym (none_held (kept_on ((parts_of s past).core t) d))
hold_is contents_is s past t d (Some m) run is =
    let with_it = kept_with s past t d m run is in
    let kept : Kept = with_it.0 in
    let size : kept.size ≡ size_in (made s past d) = size_is (made s past d) (calls.link_calls past d) (calls.block_calls s past d) (calls.event_calls s past d) (calls.scope_calls past d) t m kept with_it.2 in
    ap (λ (n : ℕ). first_hold (Some m) n (found s past t d)) (sym size)
    ∙ lent_hold m kept (found s past t d) (λ isolated.
    ap loan_in (sym with_it.1) ∙ found_law s past t d m run is isolated ∙ ap (λ (words : List ℕ). Some (loan_of m words [])) (sym (found_is contents_is s past t d run)))
    ∙ ap (part_bodies.hold_of (Some m)) (sym with_it.1)

pub running_holds : HeldLaw → ContentsLaw → (s : Setting) (past : History) (t d : ℕ) → IsRun s past → is_running ((parts_of s past).core t) ≡ true
    → first_hold (held s past t d) (size_in (made s past d)) (found s past t d) ≡ part_bodies.holds_on (parts_of s past) t d
running_holds held_is contents_is s past t d run running =
    let x : Part = (parts_of s past).core t in
    ap (λ (o : Option Mode). first_hold o (size_in (made s past d)) (found s past t d)) (held_is s past t d run)
    ∙ hold_is contents_is s past t d (memory.hold_of s past t d) run refl
    ∙ ap (λ (o : Option Mode). part_bodies.hold_of o (kept_on x d)) (ap (mode_in d) (running_core x running).0)

-- WHAT IT HELD AT ITS START: it runs from then on
not_yet : (n : ℕ) → nat_lt 1 n ≡ false → nat_lt 2 n ≡ false
not_yet n is = grind arith

starts_running : (s : Setting) (past : History) (u t : ℕ) → IsRun s (Start u ∷ past) → (u == t) ≡ true → IsRunning (Start u ∷ past) t
starts_running s past u t run here =
    let off : is_started past t ≡ false = subst (λ (n : ℕ). is_started past n ≡ false) (eqb-true u t here) (not_started s past u run.0 run.1) in
    let told = told_law s past run.0 t in
    record {
      started = rw here refl;
      not_ended = told.has_ended ∙ not_yet _ (sym told.has_started ∙ off);
    }

first_are : HeldLaw → ContentsLaw → (s : Setting) (past : History) (t d : ℕ) → IsRun s past → first_holds s past t d ≡ part_bodies.first_holds s past t d
first_are held_is contents_is s [] t d run = refl
first_are held_is contents_is s (Start u ∷ past) t d run =
    elim (u == t) as (λ b. (u == t) ≡ b → (if b then (λ (e : ℕ). first_hold (held s past t e) (size_in (made s past e)) (found s past t e)) else first_holds s past t) d
    ≡ (if b then part_bodies.holds_on (parts_of s (Start u ∷ past)) t else part_bodies.first_holds s past t) d) [
      | true ↦ λ here. running_holds held_is contents_is s (Start u ∷ past) t d run (runs_core s (Start u ∷ past) t run (starts_running s past u t run here))
      | false ↦ λ _. first_are held_is contents_is s past t d run.0
    ] refl
first_are held_is contents_is s (e ∷ past) t d run = first_are held_is contents_is s past t d run.0

-- THE BODY, and what it does next
bodies_are : HeldLaw → ContentsLaw → LostLaw → (s : Setting) (past : History) (t : ℕ) → IsRun s past → body_of s past t ≡ part_bodies.body_of s past t
bodies_are held_is contents_is lost_is s past t run =
    let depv = values_are s past t (slot.slots_of (calls.depc_of s past t)) (λ p. lost_is s past t p run) in
    λ i. part_bodies.body_with s.program (function_in (made s past t)) (params_in (made s past t)) (depv i) (λ d. first_are held_is contents_is s past t d run i)

pub says_by : HeldLaw → ContentsLaw → LostLaw → SaysLaw
says_by held_is contents_is lost_is s past t run = λ i. says (bodies_are held_is contents_is lost_is s past t run i) (own past t)
