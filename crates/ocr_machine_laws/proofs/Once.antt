-- Each slot is set once: it is linked once, and each link sends one message that sets it, at once or
-- once the event that keeps the slot as a target reaches it.
use Rattle.std.proofs.Common.{◌≡◌, ℕ, zero, suc, ◌+◌, ◌<◌, ◌≤◌, List, [], ◌∷◌, Bool, true, false, ◌==◌, ◌||◌, ◌&&◌, not, nat_lt, if◌then◌else◌, Option, Some, None, refl, sym, ◌∙◌, ap, subst, is_some, arith, length, Ok, Err}
use Rattle.std.proofs.lemmas.Grind.{common_steps}
use Rattle.std.proofs.lemmas.Bool.{eqb-true, ltb-true, ltb-false, le-ltb, ne_eqb, and_parts}
use Rattle.std.proofs.Math.Bool.{or-true}
use mathlib.Core.Option.{some, some-injective, some-ne-none}
use lib.ListN.{get_elem?}
use Rattle.ocr_base.proofs.Booleans.{same, and_false}
use Rattle.ocr_guid.specs.Target.{EventCall, was_destroyed}
use Rattle.ocr_guid.specs.declared.target.Target.{Target}
use Rattle.ocr_guid.specs.declared.Code.{Code}
use Rattle.ocr_guid.specs.declared.Code.TheVariants as code
use Rattle.ocr_base.specs.Mail.{named, same_name, drop_one, without, tally}
use Rattle.ocr_acquire.specs.declared.Mode.{Mode}
use Rattle.ocr_acquire.specs.declared.Mode.TheVariants as mode
use Rattle.ocr_template.specs.declared.Template.{Template}
use Rattle.ocr_template.specs.Template.{count_meant, counts_of, is_refused}
use Rattle.ocr_slots.proofs.Laws.{answer_law}
use Rattle.ocr_slots.specs.Slots as slot
use Rattle.ocr_datablock.specs.Block as block
use Rattle.ocr_body_meaning.specs.Holds.{is_done}
use Rattle.ocr_body_meaning.specs.declared.call.Call as body
use Rattle.ocr_body_meaning.specs.declared.call.Call.TheVariants as call
use Rattle.ocr_body_meaning.specs.declared.call.Answer.{Answer}
use Rattle.ocr_machine_history.specs.declared.entry.Entry.{Entry}
use Rattle.ocr_machine_history.specs.declared.entry.Entry.TheVariants.{Call, Deliver}
use Rattle.ocr_machine_history.specs.declared.entry.Message.{Message}
use Rattle.ocr_machine_history.specs.declared.entry.What.{What}
use Rattle.ocr_machine_history.specs.declared.entry.What.TheVariants as what
use Rattle.ocr_machine_history.specs.declared.objects.TheConstants.{ARGUMENTS, MAIN_EDT}
use Rattle.ocr_machine_history.specs.History.{History, Setting}
use Rattle.ocr_machine_history.specs.Made.{Made, MadeTemplate, MadeEdt, made, makes, is_beside, is_new, opened, edt_from, depc_in}
use Rattle.ocr_machine_parts.specs.Calls.{mode_named, is_given, target_of, with_dep, dep_links, link_calls, set_step, set_calls, block_calls, depc_of, event_calls, scope_calls}
use Rattle.ocr_machine_parts.specs.Codes.{brings_block, link_code, counted_code, creation_code}
use Rattle.ocr_machine_parts.specs.Kinds.{is_edt_face}
use Rattle.ocr_machine_parts.specs.Messages.{what_to, sends, delivered, pending}
use Rattle.ocr_machine_parts.specs.Parts.{parts_of, face}
use Rattle.ocr_machine_parts.specs.LegalOn.{IsCallOn}
use Rattle.ocr_machine_parts.specs.Legal.{IsRun, IsLegal}
use Rattle.ocr_machine_parts.proofs.Within.{done_is, made_none, new_free}
use Rattle.ocr_machine_parts.proofs.After.{linkable, accepted}
use Rattle.ocr_machine_laws.specs.Permanence.{SetOnceLaw, DeliveredLaw, delivery_count}
use Rattle.ocr_machine_parts.proofs.Fresh.{new_fresh, made_new}
use Rattle.ocr_machine_laws.proofs.Named.{one, tally_append, drop_less, named_once, named_other, at_of}
use Rattle.ocr_machine_laws.proofs.Weighed.{waiting, undelivered, sent_more, going}
use Rattle.ocr_machine_laws.proofs.Targets.{given, entry_links, kept_now, kept_opened, run_keeps}
use Rattle.ocr_finish.specs.Scope.{ScopeCall}
use Rattle.ocr_machine_parts.proofs.Starts.{none_more}

-- THE MESSAGES that set a slot, whether it is set, and whether it is there and linked
abbrev bit : Bool → ℕ
bit true = 1
bit false = 0

bit_most : (b : Bool) → bit b ≤ 1
bit_most true = omega arith
bit_most false = omega arith

some_bit : (b : Bool) → 1 ≤ bit b → b ≡ true
some_bit true is = refl
some_bit false is = absurd (omega (arith, is))

if_zero : (b : Bool) (n : ℕ) → n ≡ 0 → (if b then n else 0) ≡ 0
if_zero true n is = is
if_zero false n is = refl

abbrev sets_at : ℕ → ℕ → What → ℕ
sets_at t k (what.Set x i p) = bit ((x == t) && (i == k))
sets_at t k other = 0

abbrev set_num : List slot.SlotCall → ℕ → ℕ
set_num calls k = bit (slot.is_set calls k)

abbrev link_num : List slot.SlotCall → ℕ → ℕ
link_num calls k = bit (slot.is_linked calls k)

abbrev slot_num : ℕ → List slot.SlotCall → ℕ → ℕ
slot_num n calls k = bit (nat_lt k n && slot.is_linked calls k)

-- the slot as a target
abbrev to_slot : ℕ → ℕ → Target → ℕ
to_slot t k x = bit (x.is_edt && ((x.object == t) && (x.slot == k)))

sets_blind : (t k p : ℕ) (x : Target) → sets_at t k (what_to (p, x)) ≡ to_slot t k x
sets_blind t k p x = elim x.is_edt as (λ b. sets_at t k (if b then what.Set x.object x.slot p else what.Satisfy x.object x.slot p) ≡ bit (b && ((x.object == t) && (x.slot == k)))) [ true ↦ refl | false ↦ refl ]

-- what a delivery sets
set_more : (w : What) (t k : ℕ) (calls : List slot.SlotCall) → set_num (set_step w t calls) k ≤ set_num calls k + sets_at t k w
set_more (what.Set x i p) t k calls = elim (x == t) as (λ b. set_num (if b then slot.Setting i p ∷ calls else calls) k ≤ set_num calls k + bit (b && (i == k))) [
  | true ↦ elim (i == k) as (λ b. bit (is_some (if b then Some p else slot.payload_of calls k)) ≤ set_num calls k + bit b) [ true ↦ omega arith | false ↦ omega arith ]
  | false ↦ omega arith
]
set_more other t k calls = omega arith

-- the list of a creation
other_slot : (t j k : ℕ) → (j == k) ≡ false → bit ((t == t) && (j == k)) ≡ 0
other_slot t j k off = rw (off, and_false (t == t)) refl

given_other : (t x k j : ℕ) (ds : List ℕ) → (x == t) ≡ false → given (to_slot t k) x j ds ≡ 0
given_other t x k j [] off = refl
given_other t x k j (d ∷ ds) off =
    let r = given_other t x k (j + 1) ds off in
    let z = if_zero (is_given d) (bit ((x == t) && (j == k))) (rw off refl) in
    omega (arith, r, z)

given_below : (t k j : ℕ) (ds : List ℕ) → k < j → given (to_slot t k) t j ds ≡ 0
given_below t k j [] lt = refl
given_below t k j (d ∷ ds) lt =
    let r = given_below t k (j + 1) ds (omega (arith, lt)) in
    let z = if_zero (is_given d) (bit ((t == t) && (j == k))) (other_slot t j k (ne_eqb j k (λ is. omega (arith, lt, is)))) in
    omega (arith, r, z)

given_past : (t k j : ℕ) (ds : List ℕ) → j + length ds ≤ k → given (to_slot t k) t j ds ≡ 0
given_past t k j [] le = refl
given_past t k j (d ∷ ds) le =
    let r = given_past t k (j + 1) ds (omega (arith, le)) in
    let z = if_zero (is_given d) (bit ((t == t) && (j == k))) (other_slot t j k (ne_eqb j k (λ is. omega (arith, le, is)))) in
    omega (arith, r, z)

link_more : (i k : ℕ) (m : Mode) (calls : List slot.SlotCall) → link_num calls k ≤ link_num (slot.Linking i m ∷ calls) k
link_more i k m calls = elim (i == k) as (λ b. link_num calls k ≤ bit (is_some (if b then Some m else slot.mode_of calls k))) [ true ↦ bit_most (slot.is_linked calls k) | false ↦ omega arith ]

more_links : (k j : ℕ) (ds : List ℕ) (calls : List slot.SlotCall) → link_num calls k ≤ link_num (dep_links j ds calls) k
more_links k j [] calls = omega arith
more_links k j (d ∷ ds) calls =
    let r = more_links k (j + 1) ds (with_dep j d calls) in
    let m = with_more k j d calls in omega (arith, r, m)
  where
    with_more : (k j d : ℕ) (calls : List slot.SlotCall) → link_num calls k ≤ link_num (with_dep j d calls) k
    with_more k j d calls = elim (is_given d) as (λ b. link_num calls k ≤ link_num (if b then slot.Linking j mode.Rw ∷ calls else calls) k) [ true ↦ link_more j k mode.Rw calls | false ↦ omega arith ]

more_slots : (n i k : ℕ) (m : Mode) (calls : List slot.SlotCall) → slot_num n calls k ≤ slot_num n (slot.Linking i m ∷ calls) k
more_slots n i k m calls = elim (nat_lt k n) as (λ b. bit (b && slot.is_linked calls k) ≤ bit (b && slot.is_linked (slot.Linking i m ∷ calls) k)) [ true ↦ link_more i k m calls | false ↦ omega arith ]

linked_here : (j : ℕ) (m : Mode) (calls : List slot.SlotCall) → link_num (slot.Linking j m ∷ calls) j ≡ 1
linked_here j m calls = rw (same j) refl

given_links : (t k j : ℕ) (ds : List ℕ) (calls : List slot.SlotCall) → given (to_slot t k) t j ds ≤ link_num (dep_links j ds calls) k
given_links t k j [] calls = omega arith
given_links t k j (d ∷ ds) calls = elim (is_given d) as (λ b. (if b then bit ((t == t) && (j == k)) else 0) + given (to_slot t k) t (j + 1) ds ≤ link_num (dep_links (j + 1) ds (if b then slot.Linking j mode.Rw ∷ calls else calls)) k) [
  | true ↦ elim (j == k) as (λ b. (j == k) ≡ b → bit ((t == t) && (j == k)) + given (to_slot t k) t (j + 1) ds ≤ link_num (dep_links (j + 1) ds (slot.Linking j mode.Rw ∷ calls)) k) [
    | true ↦ λ is.
        let e : j ≡ k = eqb-true j k is in
        let z = given_below t k (j + 1) ds (omega (arith, e)) in
        let l = more_links k (j + 1) ds (slot.Linking j mode.Rw ∷ calls) in
        let h = subst (λ (n : ℕ). link_num (slot.Linking j mode.Rw ∷ calls) n ≡ 1) e (linked_here j mode.Rw calls) in
        let o = bit_most ((t == t) && (j == k)) in omega (arith, z, l, h, o)
    | false ↦ λ off. let r = given_links t k (j + 1) ds (slot.Linking j mode.Rw ∷ calls) in let o = other_slot t j k off in omega (arith, r, o)
  ] refl
  | false ↦ let r = given_links t k (j + 1) ds calls in omega (arith, r)
]

-- as many as the slots that are there and linked
given_slots : (t k n : ℕ) (ds : List ℕ) → length ds ≤ n → given (to_slot t k) t 0 ds ≤ slot_num n (dep_links 0 ds []) k
given_slots t k n ds fits = elim (nat_lt k n) as (λ b. nat_lt k n ≡ b → given (to_slot t k) t 0 ds ≤ bit (b && slot.is_linked (dep_links 0 ds []) k)) [
  | true ↦ λ _. given_links t k 0 ds []
  | false ↦ λ is. let le : n ≤ k = ltb-false k n is in let z = given_past t k 0 ds (omega (arith, fits, le)) in omega (arith, z)
] refl

-- WHAT IS LINKED is a slot of the EDT
if_einval : (b : Bool) (rest : Code) → (if not b then code.Einval else rest) ≡ code.Done → (b ≡ true) × (rest ≡ code.Done)
if_einval true rest is = (refl, is)
if_einval false rest is = cc is

if_eperm : (b : Bool) → (if b then code.Eperm else code.Done) ≡ code.Done → b ≡ false
if_eperm true is = cc is
if_eperm false is = refl

linkable_slot : (m : Option Made) (links : List slot.SlotCall) (blocks : List block.BlockCall) (events : List EventCall) (scopes : List ScopeCall) (i : ℕ) → link_code (face m links blocks events scopes) i ≡ code.Done → (nat_lt i (depc_in m) ≡ true) × (slot.is_linked links i ≡ false)
linkable_slot (Some (MadeEdt f ps n)) links blocks events scopes i is =
    let found = if_einval (nat_lt i n) _ (sym (answer_law n links i) ∙ is) in
    (found.0, if_eperm (slot.is_linked links i) found.1)
linkable_slot other links blocks events scopes i is = cc is

-- the slot that an accepted dependence of an EDT links
pub dependence_slot : (s : Setting) (past : History) (u home from x i m : ℕ) (a : Answer) (w : List (ℕ × ℕ)) → is_done a.code ≡ true → IsCallOn s.limit (parts_of s past) u home (call.AddDependence from x i m) a w
    → is_edt_face ((parts_of s past).face x) ≡ true → (nat_lt i (depc_of s past x) ≡ true) × (slot.is_linked (link_calls past x) i ≡ false)
dependence_slot s past u home from x i m a w on legal there =
    linkable_slot (made s past x) (link_calls past x) (block_calls s past x) (event_calls s past x) (scope_calls past x) i
    (linkable (brings_block (parts_of s past).face from) ((parts_of s past).face x) i m (accepted u (parts_of s past).face (call.AddDependence from x i m) (sym legal.code ∙ done_is a.code on)) there)

length_fits : (k n : ℕ) → ((k == 0) || (k == n)) ≡ true → k ≤ n
length_fits k n is = elim (k == 0) as (λ b. (k == 0) ≡ b → (b || (k == n)) ≡ true → k ≤ n) [
  | true ↦ λ none _. let e : k ≡ 0 = eqb-true k 0 none in omega (arith, e)
  | false ↦ λ _ is. let e : k ≡ n = eqb-true k n is in omega (arith, e)
] refl is

counted_fits : (t : Template) (pc dc : ℕ) (params deps : List ℕ) (flags : ℕ) → counted_code (counts_of t pc dc) params deps flags ≡ code.Done → length deps ≤ count_meant t.depc dc
counted_fits t pc dc params deps flags is = elim (is_refused t.paramc pc _ || is_refused t.depc dc _) as (λ b. counted_code (if b then Err code.Einval else Ok (count_meant t.paramc pc, count_meant t.depc dc)) params deps flags ≡ code.Done → length deps ≤ count_meant t.depc dc) [
  | true ↦ λ is. cc is
  | false ↦ λ is.
      let first = if_einval (length params == count_meant t.paramc pc) _ is in
      let second = if_einval ((length deps == 0) || (length deps == count_meant t.depc dc)) _ first.1 in
      length_fits (length deps) (count_meant t.depc dc) second.0
] is

template_fits : (m : Option Made) (links : List slot.SlotCall) (blocks : List block.BlockCall) (events : List EventCall) (scopes : List ScopeCall) (pc dc : ℕ) (params deps : List ℕ) (flags : ℕ) → creation_code (face m links blocks events scopes) pc params dc deps flags ≡ code.Done → length deps ≤ depc_in (edt_from m params dc)
template_fits (Some (MadeTemplate f own_pc own)) links blocks events scopes pc dc params deps flags is = counted_fits (record { function = f; paramc = own_pc; depc = own; destroyed = was_destroyed events }) pc dc params deps flags is
template_fits other links blocks events scopes pc dc params deps flags is = cc is

-- the dependences of an accepted creation are no more than its slots
created_fits : (s : Setting) (past : History) (u home from pc dc fl : ℕ) (ps ds : List ℕ) (o : Bool) (a : Answer) (w : List (ℕ × ℕ)) → is_done a.code ≡ true → IsCallOn s.limit (parts_of s past) u home (call.EdtCreate from pc ps dc ds fl o) a w
    → length ds ≤ depc_in (edt_from (made s past from) ps dc)
created_fits s past u home from pc dc fl ps ds o a w on legal =
    template_fits (made s past from) (link_calls past from) (block_calls s past from) (event_calls s past from) (scope_calls past from) pc dc ps ds fl
    (accepted u (parts_of s past).face (call.EdtCreate from pc ps dc ds fl o) (sym legal.code ∙ done_is a.code on))

-- EACH ENTRY links a slot as often as the slot is linked then and was not before
abbrev slot_now : Setting → History → ℕ → ℕ → ℕ
slot_now s past t k = slot_num (depc_of s past t) (link_calls past t) k

no_slot : (m : Option Made) (links : List slot.SlotCall) (k : ℕ) → m ≡ None → slot_num (depc_in m) links k ≡ 0
no_slot m links k none = ap (λ (n : Option Made). slot_num (depc_in n) links k) none ∙ ap (λ (b : Bool). bit (b && slot.is_linked links k)) (none_below k)
  where
    none_below : (k : ℕ) → nat_lt k 0 ≡ false
    none_below k = le-ltb k 0 (omega arith)

-- an object that is no EDT is made
other_links : (b done : Bool) (new old : Option Made) (links : List slot.SlotCall) (k : ℕ) → (b ≡ true → old ≡ None) → slot_num (depc_in old) links k + (if done then 0 else 0) ≤ slot_num (depc_in (if b then new else old)) (if b then [] else links) k
other_links true done new old links k free = let z = no_slot old links k (free refl) in let n = if_zero done 0 refl in omega (arith, z, n)
other_links false done new old links k free = let n = if_zero done 0 refl in omega (arith, n)

-- an EDT is made, and what stands beside it
edt_links : (t x k : ℕ) (done beside : Bool) (ds : List ℕ) (new other old : Option Made) (links : List slot.SlotCall) → ((beside || (done && (x == t))) ≡ true → old ≡ None) → (done ≡ true → length ds ≤ depc_in new)
    → slot_num (depc_in old) links k + (if done then given (to_slot t k) x 0 ds else 0)
    ≤ slot_num (depc_in (if beside || (done && (x == t)) then (if x == t then new else other) else old)) (if beside || (done && (x == t)) then (if done && (x == t) then dep_links 0 ds [] else []) else links) k
edt_links t x k true beside ds new other old links free fits = elim (x == t) as (λ b. (x == t) ≡ b → ((beside || b) ≡ true → old ≡ None) → slot_num (depc_in old) links k + given (to_slot t k) x 0 ds ≤ slot_num (depc_in (if beside || b then (if b then new else other) else old)) (if beside || b then (if b then dep_links 0 ds [] else []) else links) k) [
  | true ↦ λ is free.
      let z = no_slot old links k (free (or-true beside)) in
      let same : given (to_slot t k) x 0 ds ≡ given (to_slot t k) t 0 ds = ap (λ (n : ℕ). given (to_slot t k) n 0 ds) (eqb-true x t is) in
      let g = given_slots t k (depc_in new) ds (fits refl) in
      rw (or-true beside) (omega (arith, z, same, g))
  | false ↦ λ off free.
      let z = given_other t x k 0 ds off in
      elim beside as (λ b. ((b || false) ≡ true → old ≡ None) → slot_num (depc_in old) links k + given (to_slot t k) x 0 ds ≤ slot_num (depc_in (if b || false then other else old)) (if b || false then [] else links) k) [
        | true ↦ λ free. let n = no_slot old links k (free refl) in omega (arith, z, n)
        | false ↦ λ _. omega (arith, z)
      ] free
] refl free
edt_links t x k false true ds new other old links free fits = let n = no_slot old links k (free refl) in omega (arith, n)
edt_links t x k false false ds new other old links free fits = omega arith

-- a dependence is added
added_links : (there : Bool) (t x i k n : ℕ) (m : Mode) (links : List slot.SlotCall) → (there ≡ true → (x == t) ≡ true → (nat_lt i n ≡ true) × (slot.is_linked links i ≡ false))
    → slot_num n links k + to_slot t k (target_of there x i) ≤ slot_num n (if x == t then slot.Linking i m ∷ links else links) k
added_links false t x i k n m links free = elim (x == t) as (λ b. slot_num n links k + 0 ≤ slot_num n (if b then slot.Linking i m ∷ links else links) k) [
  | true ↦ let l = more_slots n i k m links in omega (arith, l)
  | false ↦ omega arith
]
added_links true t x i k n m links free = elim (x == t) as (λ b. (b ≡ true → (nat_lt i n ≡ true) × (slot.is_linked links i ≡ false)) → slot_num n links k + bit (b && (i == k)) ≤ slot_num n (if b then slot.Linking i m ∷ links else links) k) [
  | true ↦ λ free. elim (i == k) as (λ b. (i == k) ≡ b → slot_num n links k + bit b ≤ bit (nat_lt k n && is_some (if b then Some m else slot.mode_of links k))) [
    | true ↦ λ is.
        let here = free refl in
        let e : i ≡ k = eqb-true i k is in
        let low : nat_lt k n ≡ true = subst (λ (j : ℕ). nat_lt j n ≡ true) e here.0 in
        let off : slot.is_linked links k ≡ false = subst (λ (j : ℕ). slot.is_linked links j ≡ false) e here.1 in
        rw (low, off) (omega arith)
    | false ↦ λ _. omega arith
  ] refl
  | false ↦ λ _. omega arith
] (free refl)

entry_slots : (s : Setting) (past : History) (e : Entry) (t k : ℕ) → IsRun s past → IsLegal s past e → slot_now s past t k + entry_links (to_slot t k) e (parts_of s past) ≤ slot_now s (e ∷ past) t k
entry_slots s past (Call u home (call.DbCreate n fl) a w) t k run legal = other_links (makes a t) (is_done a.code) _ (made s past t) (link_calls past t) k (λ on. (new_free s past a t legal.on_parts.value on).0)
entry_slots s past (Call u home (call.TemplateCreate f pc dc) a w) t k run legal = other_links (makes a t) (is_done a.code) _ (made s past t) (link_calls past t) k (λ on. (new_free s past a t legal.on_parts.value on).0)
entry_slots s past (Call u home (call.EventCreate kind fl) a w) t k run legal = other_links (makes a t) (is_done a.code) _ (made s past t) (link_calls past t) k (λ on. (new_free s past a t legal.on_parts.value on).0)
entry_slots s past (Call u home (call.EventCreateParams kind fl most sats nd) a w) t k run legal = other_links (makes a t) (is_done a.code) _ (made s past t) (link_calls past t) k (λ on. (new_free s past a t legal.on_parts.value on).0)
entry_slots s past (Call u home (call.EdtCreate from pc ps dc ds fl o) a w) t k run legal =
    let c : body.Call = call.EdtCreate from pc ps dc ds fl o in
    subst (λ (m : Option Made). slot_now s past t k + (if is_done a.code then given (to_slot t k) a.value 0 ds else 0) ≤ slot_num (depc_in m) (link_calls (Call u home c a w ∷ past) t) k) (sym (made_new s past u home from pc ps dc ds fl o a w t))
    (edt_links t a.value k (is_done a.code) (is_beside c a t) ds (edt_from (made s past from) ps dc) _ (made s past t) (link_calls past t)
    (λ on. made_none s past t (new_fresh s.limit (parts_of s past) u home c a w t legal.on_parts on).vacant)
    (λ on. created_fits s past u home from pc dc fl ps ds o a w on legal.on_parts))
entry_slots s past (Call u home (call.AddDependence from x i m) a w) t k run legal = elim (is_done a.code) as (λ b. is_done a.code ≡ b → slot_now s past t k + (if b then to_slot t k (target_of (is_edt_face ((parts_of s past).face x)) x i) else 0)
    ≤ slot_num (depc_of s past t) (if b && (x == t) then slot.Linking i (mode_named m) ∷ link_calls past t else link_calls past t) k) [
      | true ↦ λ on. added_links (is_edt_face ((parts_of s past).face x)) t x i k (depc_of s past t) (mode_named m) (link_calls past t) (λ there same.
          subst (λ (n : ℕ). (nat_lt i (depc_of s past n) ≡ true) × (slot.is_linked (link_calls past n) i ≡ false)) (eqb-true x t same) (dependence_slot s past u home from x i m a w on legal.on_parts there))
      | false ↦ λ _. omega arith
    ] refl
entry_slots s past (Call u home other a w) t k run legal = let n = if_zero (is_done a.code) 0 refl in omega (arith, n)
entry_slots s past other t k run legal = omega arith

-- EACH SLOT: at most as many messages that set it, settings, and events that keep it, as links
abbrev IsOnce : Setting → History → ℕ → ℕ → Type 0
IsOnce s past t k = (waiting (sets_at t k) s past + kept_now (to_slot t k) s past) + set_num (set_calls past t) k ≤ slot_now s past t k

-- a delivery sets a slot in place of its message
sets_new : (b : Bool) (sets : List slot.SlotCall) (k : ℕ) → set_num (if b then [] else sets) k ≤ set_num sets k
sets_new true sets k = omega arith
sets_new false sets k = omega arith

set_for : (s : Setting) (past : History) (e : Entry) (t k : ℕ) → IsLegal s past e → undelivered (sets_at t k) s past e + set_num (set_calls (e ∷ past) t) k ≤ waiting (sets_at t k) s past + set_num (set_calls past t) k
set_for s past (Call u home c a w) t k legal = let n = sets_new (is_new c a t) (set_calls past t) k in omega (arith, n)
set_for s past (Deliver m c) t k legal =
    let gone = going (sets_at t k) s past m c legal in
    let more = set_more m.what t k (set_calls past t) in
    omega (arith, gone, more)
set_for s past other t k legal = omega arith

opened_slot : (k : ℕ) → set_num (slot.Setting 0 ARGUMENTS ∷ []) k ≤ slot_num 1 (slot.Linking 0 mode.Rw ∷ []) k
opened_slot k = elim (0 == k) as (λ b. (0 == k) ≡ b → bit (is_some (if b then Some ARGUMENTS else None)) ≤ bit (nat_lt k 1 && is_some (if b then Some mode.Rw else None))) [
  | true ↦ λ is. let low : nat_lt k 1 ≡ true = subst (λ (n : ℕ). nat_lt n 1 ≡ true) (eqb-true 0 k is) refl in rw low (omega arith)
  | false ↦ λ _. omega arith
] refl

opened_once : (s : Setting) (t k : ℕ) → set_num (set_calls [] t) k ≤ slot_now s [] t k
opened_once s t k = elim (t == MAIN_EDT) as (λ b. (t == MAIN_EDT) ≡ b → set_num (if b then slot.Setting 0 ARGUMENTS ∷ [] else []) k ≤ slot_num (depc_in (opened s t)) (if b then slot.Linking 0 mode.Rw ∷ [] else []) k) [
  | true ↦ λ is. subst (λ (n : ℕ). set_num (slot.Setting 0 ARGUMENTS ∷ []) k ≤ slot_num (depc_in (opened s n)) (slot.Linking 0 mode.Rw ∷ []) k) (sym (eqb-true t MAIN_EDT is)) (opened_slot k)
  | false ↦ λ _. omega arith
] refl

is_once : (s : Setting) (past : History) (t k : ℕ) → IsRun s past → IsOnce s past t k
is_once s [] t k run = let kept = kept_opened (to_slot t k) s in let o = opened_once s t k in omega (arith, kept, o)
is_once s (e ∷ past) t k run =
    let before = is_once s past t k run.0 in
    let sent = sent_more (sets_at t k) s past e in
    let set = set_for s past e t k run.1 in
    let keeps = run_keeps (sets_at t k) (to_slot t k) (sets_blind t k) (λ e i p. refl) (λ x. refl) s past e run.0 run.1 in
    let links = entry_slots s past e t k run.0 run.1 in
    omega (arith, before, sent, set, keeps, links)

set_is : (o : Option ℕ) → bit (is_some o) ≡ 0 → o ≡ None
set_is None is = refl
set_is (Some p) is = absurd (omega (arith, is))

own_slot : (t k : ℕ) → bit ((t == t) && (k == k)) ≡ 1
own_slot t k = rw (same t, same k) refl

pub set_once_law : SetOnceLaw
set_once_law s past m c t k p run legal is =
    let before = is_once s past t k run in
    let gone = going (sets_at t k) s past m c legal in
    let w : sets_at t k m.what ≡ 1 = ap (sets_at t k) is ∙ own_slot t k in
    let there : (nat_lt k (depc_of s past t) && slot.is_linked (link_calls past t) k) ≡ true = some_bit (nat_lt k (depc_of s past t) && slot.is_linked (link_calls past t) k) (omega (arith, before, gone, w)) in
    let l = bit_most (nat_lt k (depc_of s past t) && slot.is_linked (link_calls past t) k) in
    let both = and_parts (nat_lt k (depc_of s past t)) (slot.is_linked (link_calls past t) k) there in
    record { exists = ltb-true k (depc_of s past t) both.0; linked = both.1; unset = set_is (slot.payload_of (set_calls past t) k) (omega (arith, before, gone, w, l)) }

-- what is set is linked
pub set_linked : (s : Setting) (past : History) (t k : ℕ) → IsRun s past → slot.is_set (set_calls past t) k ≡ true → slot.is_linked (link_calls past t) k ≡ true
set_linked s past t k run set =
    let before = is_once s past t k run in
    let one : set_num (set_calls past t) k ≡ 1 = ap bit set in
    (and_parts (nat_lt k (depc_of s past t)) (slot.is_linked (link_calls past t) k) (some_bit (nat_lt k (depc_of s past t) && slot.is_linked (link_calls past t) k) (omega (arith, before, one)))).1

-- A MESSAGE IS DELIVERED ONCE
drop_name : (n i : ℕ) (w : What) (xs : List (ℕ × ℕ × What)) (k : ℕ) → get_elem? xs k ≡ some (n, i, w) → tally (one (n, i)) (drop_one (n, i) xs) + 1 ≤ tally (one (n, i)) xs
drop_name n i w [] k at = absurd (some-ne-none (n, i, w) (sym at))
drop_name n i w (y ∷ ys) zero at =
    let e : y ≡ (n, i, w) = some-injective y (n, i, w) at in
    let same : same_name (n, i) y ≡ true = ap (same_name (n, i)) e ∙ same_is n i in
    rw same (omega arith)
  where
    same_is : (n i : ℕ) → ((n == n) && (i == i)) ≡ true
    same_is n i = grind (arith, common_steps)
drop_name n i w (y ∷ ys) (suc k) at = elim (same_name (n, i) y) as (λ b. same_name (n, i) y ≡ b → tally (one (n, i)) (if b then ys else y ∷ drop_one (n, i) ys) + 1 ≤ one (n, i) (y.0, y.1) + tally (one (n, i)) ys) [
  | true ↦ λ is. let o : one (n, i) (y.0, y.1) ≡ 1 = rw is refl in omega (arith, o)
  | false ↦ λ _. let r = drop_name n i w ys k at in omega (arith, r)
] refl

abbrev outstanding : Setting → History → ℕ × ℕ → ℕ
outstanding s past name = tally (one name) (pending s past)

-- a name is pending or was delivered, and not both; and one that no entry gave yet is neither
record IsNamedOnce (s : Setting) (past : History) (name : ℕ × ℕ) : Type 0 where
  most : outstanding s past name + delivery_count past name ≤ 1
  later : length past ≤ name.0 → outstanding s past name + delivery_count past name ≡ 0

sent_once : (s : Setting) (past : History) (e : Entry) (name : ℕ × ℕ) (more : ℕ) → delivery_count (e ∷ past) name ≡ more + delivery_count past name
    → tally (one name) (without (delivered e) (pending s past)) + more ≤ outstanding s past name → IsNamedOnce s past name → IsNamedOnce s (e ∷ past) name
sent_once s past e name more count kept before =
    let a = tally_append (one name) (without (delivered e) (pending s past)) (named (length past) 0 (sends e (parts_of s past))) in
    record {
      most = elim (name.0 == length past) as (λ b. (name.0 == length past) ≡ b → outstanding s (e ∷ past) name + delivery_count (e ∷ past) name ≤ 1) [
        | true ↦ λ is.
            let e0 : name.0 ≡ length past = eqb-true name.0 (length past) is in
            let none = before.later (omega (arith, e0)) in
            let m = named_once name (length past) 0 (sends e (parts_of s past)) in
            omega (arith, a, count, kept, none, m)
        | false ↦ λ off. let z = named_other name (length past) 0 (sends e (parts_of s past)) off in let most = before.most in omega (arith, a, count, kept, most, z)
      ] refl;
      later = λ le.
          let none = before.later (omega (arith, le)) in
          let o : (name.0 == length past) ≡ false = beyond name.0 (length past) (omega (arith, le)) in
          let z = named_other name (length past) 0 (sends e (parts_of s past)) o in
          omega (arith, a, count, kept, none, z);
    }
  where
    beyond : (a b : ℕ) → b < a → (a == b) ≡ false
    beyond a b lt = grind (arith, common_steps)

taken_once : (s : Setting) (past : History) (m : Message) (c : Code) (name : ℕ × ℕ) → IsLegal s past (Deliver m c)
    → tally (one name) (drop_one (m.place, m.index) (pending s past)) + (if (m.place == name.0) && (m.index == name.1) then 1 else 0) ≤ outstanding s past name
taken_once s past m c name legal = elim ((m.place == name.0) && (m.index == name.1)) as (λ b. ((m.place == name.0) && (m.index == name.1)) ≡ b
    → tally (one name) (drop_one (m.place, m.index) (pending s past)) + (if b then 1 else 0) ≤ outstanding s past name) [
      | true ↦ λ is.
          let both = and_parts (m.place == name.0) (m.index == name.1) is in
          let here = legal.said in
          let at = at_of (pending s past) here.0 (m.place, m.index, m.what) (m.place, m.index, m.what) here.1 here.2 in
          subst (λ (n : ℕ). tally (one (n, name.1)) (drop_one (m.place, m.index) (pending s past)) + 1 ≤ tally (one (n, name.1)) (pending s past)) (eqb-true m.place name.0 both.0)
          (subst (λ (i : ℕ). tally (one (m.place, i)) (drop_one (m.place, m.index) (pending s past)) + 1 ≤ tally (one (m.place, i)) (pending s past)) (eqb-true m.index name.1 both.1)
          (drop_name m.place m.index m.what (pending s past) here.0 at))
      | false ↦ λ _. let l = drop_less (one name) (m.place, m.index) (pending s past) in omega (arith, l)
    ] refl

named_law : (s : Setting) (past : History) (name : ℕ × ℕ) → IsRun s past → IsNamedOnce s past name
named_law s [] name run = record { most = omega arith; later = λ _. refl }
named_law s (Deliver m c ∷ past) name run = sent_once s past (Deliver m c) name _ refl (taken_once s past m c name run.1) (named_law s past name run.0)
named_law s (other ∷ past) name run = sent_once s past other name 0 (none_more (delivery_count past name)) (omega arith) (named_law s past name run.0)

pub delivered_law : DeliveredLaw
delivered_law s past name run = let most = (named_law s past name run).most in omega (arith, most)
