-- Who stands in a block's queue, after a step.
use Rattle.std.proofs.Common.{◌≡◌, inl, inr, ℕ, List, [], ◌∷◌, ◌++◌, Bool, true, false, ◌==◌, ◌||◌, ◌&&◌, not, if◌then◌else◌, Option, Some, None, is_some, refl, sym, ◌∙◌, ap, subst, arith}
use Rattle.std.proofs.lemmas.Bool.{eqb-true, and_left}
use Rattle.std.proofs.lemmas.List.{append-nil}
use Rattle.ocr_acquire.specs.declared.Mode.{Mode}
use Rattle.ocr_acquire.specs.Mode.{mode_in, is_exclusive}
use Rattle.ocr_datablock.specs.Block as block
use Rattle.ocr_datablock.specs.Steps as block_steps
use Rattle.ocr_datablock.specs.Lent.{Loan}
use Rattle.ocr_datablock.proofs.Lines.{queue_splits}
use Rattle.ocr_slots.specs.declared.Slot.{Slot}
use Rattle.ocr_template.specs.declared.Template.{Template}
use Rattle.ocr_machine_parts.specs.declared.part.Part.{Part}
use Rattle.ocr_machine_parts.specs.declared.part.Part.TheVariants as part
use Rattle.ocr_machine_parts.specs.Effects.{granted, hold_ended, returned}
use Rattle.ocr_finish.specs.Scope as scope
use Rattle.ocr_machine_parts.specs.Kinds.{with_links, with_template, with_event, with_scope}
use Rattle.ocr_event_any.specs.declared.AnyEvent.{AnyEvent}
use Rattle.ocr_machine_parts.specs.LegalOn.{IsTaken, IsRefused}
use Rattle.ocr_machine_laws.specs.Waits.{queue_on, stands}
use Rattle.ocr_machine_laws.proofs.States.{once_tail, returned_kept}
use Rattle.ocr_turns_rule.specs.Counts.{is_in}
use Rattle.ocr_turns_rule.specs.Sums.{one_at, sum_of}
use Rattle.ocr_base.proofs.Booleans.{eqb_flips}

-- WHO LEAVES stood in front of the others
splits : (b : Bool) (l : block.Line) → l.queue ≡ block.leavers b l ++ (block.line_after_grants b l).queue
splits true l = elim (block.is_empty l.holders) as (λ e. l.queue ≡ (if e then l.queue else []) ++ (if e then record { holders = l.holders; queue = [] } else l).queue) [
  | true ↦ sym (append-nil l.queue)
  | false ↦ refl
]
splits false l = queue_splits l.holders l.queue

-- of two lists in a row where nobody stands twice
pub record IsFirst (n : ℕ) (xs ys : List (ℕ × Mode)) : Type 0 where
  pub once : sum_of (one_at n) (block.names xs) ≡ 1
  pub in_both : is_some (mode_in n (xs ++ ys)) ≡ true
  pub not_behind : mode_in n ys ≡ None

pub record IsNotFirst (n : ℕ) (xs ys : List (ℕ × Mode)) : Type 0 where
  pub none : sum_of (one_at n) (block.names xs) ≡ 0
  pub same : mode_in n (xs ++ ys) ≡ mode_in n ys

at_one : (n k : ℕ) → (n == k) ≡ true → one_at n k ≡ 1
at_one n k is = rw is refl

at_none : (n k : ℕ) → (n == k) ≡ false → one_at n k ≡ 0
at_none n k is = rw is refl

not_first : (n : ℕ) (xs ys : List (ℕ × Mode)) → is_in n (block.names xs) ≡ false → IsNotFirst n xs ys
not_first n [] ys off = record { none = refl; same = refl }
not_first n (one ∷ rest) ys off = elim (n == one.0) as (λ b. (n == one.0) ≡ b → (b || is_in n (block.names rest)) ≡ false → IsNotFirst n (one ∷ rest) ys) [
  | true ↦ λ _ wrong. cc wrong
  | false ↦ λ apart later.
      let r = not_first n rest ys later in let z = at_none n one.0 apart in
      let none = r.none in
      record { none = omega (arith, z, none); same = rw (eqb_flips one.0 n, apart) r.same }
] refl off

none_in : (n : ℕ) (xs ys : List (ℕ × Mode)) → mode_in n (xs ++ ys) ≡ None → is_in n (block.names xs) ≡ false
none_in n [] ys none = refl
none_in n (one ∷ rest) ys none = elim (one.0 == n) as (λ b. (one.0 == n) ≡ b → (if b then Some one.1 else mode_in n (rest ++ ys)) ≡ None → is_in n (block.names (one ∷ rest)) ≡ false) [
  | true ↦ λ _ wrong. cc wrong
  | false ↦ λ apart none. rw (eqb_flips n one.0, apart) (none_in n rest ys none)
] refl none

in_first : (n : ℕ) (xs ys : List (ℕ × Mode)) → block_steps.StandOnce (xs ++ ys) → is_in n (block.names xs) ≡ true → IsFirst n xs ys
in_first n [] ys once is = cc is
in_first n (one ∷ rest) ys once is = elim (n == one.0) as (λ b. (n == one.0) ≡ b → (b || is_in n (block.names rest)) ≡ true → IsFirst n (one ∷ rest) ys) [
  | true ↦ λ here _.
      let same : n ≡ one.0 = eqb-true n one.0 here in
      let none : mode_in n (rest ++ ys) ≡ None = subst (λ (k : ℕ). mode_in k (rest ++ ys) ≡ None) (sym same) once.0 in
      let off = not_first n rest ys (none_in n rest ys none) in
      let one_is = at_one n one.0 here in let rest_none = off.none in
      record { once = omega (arith, one_is, rest_none); in_both = rw (eqb_flips one.0 n, here) refl; not_behind = sym off.same ∙ none }
  | false ↦ λ apart later.
      let r = in_first n rest ys once.1 later in let z = at_none n one.0 apart in let o = r.once in
      record { once = omega (arith, z, o); in_both = rw (eqb_flips one.0 n, apart) r.in_both; not_behind = r.not_behind }
] refl is

-- A QUEUE from which these leave
pub record Leaves (was now : List (ℕ × Mode)) (woken : List ℕ) : Type 0 where
  pub gone : (n : ℕ) → is_in n woken ≡ true → (sum_of (one_at n) woken ≡ 1) × (is_some (mode_in n was) ≡ true) × (mode_in n now ≡ None)
  pub stays : (n : ℕ) → is_in n woken ≡ false → (sum_of (one_at n) woken ≡ 0) × (mode_in n was ≡ mode_in n now)

leave : (b : Bool) (l : block.Line) → block_steps.StandOnce l.queue → Leaves l.queue (block.line_after_grants b l).queue (block.names (block.leavers b l))
leave b l once =
    let q = (block.line_after_grants b l).queue in let xs = block.leavers b l in
    let both : block_steps.StandOnce (xs ++ q) = subst block_steps.StandOnce (splits b l) once in
    record {
      gone = λ n is. let r = in_first n xs q both is in (r.once, ap (λ (z : List (ℕ × Mode)). is_some (mode_in n z)) (splits b l) ∙ r.in_both, r.not_behind);
      stays = λ n off. let r = not_first n xs q off in (r.none, ap (mode_in n) (splits b l) ∙ r.same);
    }

pub released : (t : ℕ) (w : List (ℕ × ℕ)) (loan : Option Loan) (st : block.State) → block_steps.StandOnce (stands (block.line st)) → Leaves st.queue (hold_ended block_steps.after_release t w loan st).queue (block_steps.on_release st t)
released t w loan st once =
    let kept = returned_kept w loan st in
    let left : block.Line = block.line_without t (block.line st) in
    let line : (hold_ended block_steps.after_release t w loan st).queue ≡ (block.line_after_grants st.destroyed left).queue =
    ap (λ (b : Bool). (block.line_after_grants b (block.line_without t (block.line (returned w loan st)))).queue) kept.1 ∙ ap (λ (l : block.Line). (block.line_after_grants st.destroyed (block.line_without t l)).queue) kept.0 in
    subst (λ (q : List (ℕ × Mode)). Leaves st.queue q (block_steps.on_release st t)) (sym line) (leave st.destroyed left (once_tail st.holders st.queue once))

pub doomed : (t : ℕ) (w : List (ℕ × ℕ)) (loan : Option Loan) (st : block.State) → block_steps.StandOnce (stands (block.line st)) → Leaves st.queue (hold_ended block_steps.after_doom t w loan st).queue (block_steps.on_doom st t)
doomed t w loan st once =
    let kept = returned_kept w loan st in
    let left : block.Line = block.line_without t (block.line st) in
    let line : (hold_ended block_steps.after_doom t w loan st).queue ≡ (block.line_after_grants true left).queue =
    ap (λ (l : block.Line). (block.line_after_grants true (block.line_without t l)).queue) kept.0 in
    subst (λ (q : List (ℕ × Mode)). Leaves st.queue q (block_steps.on_doom st t)) (sym line) (leave true left (once_tail st.holders st.queue once))

-- WHO ACQUIRES leaves the queue as it is
lent_same : (b : Bool) (st : block.State) (t : ℕ) → (if b then block_steps.after_lend st t else st).queue ≡ st.queue
lent_same true st t = refl
lent_same false st t = refl

can_alive : (d x : Bool) → (not d && x) ≡ true → d ≡ false
can_alive true x is = cc is
can_alive false x is = refl

asked_queue : (gone can : Bool) (l : block.Line) (one : ℕ × Mode) → gone ≡ false → can ≡ true
    → (if gone then l else if can then record { holders = l.holders ++ one ∷ []; queue = l.queue } else record { holders = l.holders; queue = l.queue ++ one ∷ [] }).queue ≡ l.queue
asked_queue true can l one off on = cc off
asked_queue false true l one off on = refl
asked_queue false false l one off on = cc on

pushed_queue : (gone can : Bool) (l : block.Line) (one : ℕ × Mode) → gone ≡ false → can ≡ false
    → (if gone then l else if can then record { holders = l.holders ++ one ∷ []; queue = l.queue } else record { holders = l.holders; queue = l.queue ++ one ∷ [] }).queue ≡ l.queue ++ one ∷ []
pushed_queue true can l one off on = cc off
pushed_queue false true l one off on = cc on
pushed_queue false false l one off on = refl

held_if : (b : Bool) (st new : block.State) → (b ≡ false → new.queue ≡ st.queue) → (if b then st else new).queue ≡ st.queue
held_if true st new same = refl
held_if false st new same = same refl

pub granted_queue : (t : ℕ) (m : Mode) (st : block.State) → IsTaken t m st → (granted t m st).queue ≡ st.queue
granted_queue t m st taken =
    let asked : block.State = if is_some (mode_in t st.holders) then st else block_steps.after_ask st t m in
    lent_same (is_exclusive m) asked t ∙ held_if (is_some (mode_in t st.holders)) st (block_steps.after_ask st t m) (λ off. elim taken.fit [
      | inl held ↦ absurd (let on : is_some (mode_in t st.holders) ≡ true = ap (λ (o : Option Mode). is_some o) held in cc (on, off))
      | inr free ↦ asked_queue _ _ (block.line st) (t, m) (and_left st.destroyed _ (can_alive st.destroyed _ free.grantable)) free.grantable
    ])

-- and who waits comes last
pub refused_queue : (t : ℕ) (m : Mode) (st : block.State) → IsRefused t m st → (block_steps.after_ask st t m).queue ≡ st.queue ++ (t, m) ∷ []
refused_queue t m st refused = pushed_queue _ _ (block.line st) (t, m) refused.not_gone refused.not_grantable

-- OTHER FACES
pub links_queue : (x : Part) (step : List Slot → List Slot) → queue_on (with_links x step) ≡ queue_on x
links_queue (part.Edt slots) step = refl
links_queue other step = refl

pub template_queue : (x : Part) (step : Template → Template) → queue_on (with_template x step) ≡ queue_on x
template_queue (part.Template t) step = refl
template_queue other step = refl

pub event_queue : (x : Part) (step : AnyEvent → AnyEvent) → queue_on (with_event x step) ≡ queue_on x
event_queue (part.Event st) step = refl
event_queue other step = refl

pub scope_queue : (x : Part) (step : scope.State → scope.State) → queue_on (with_scope x step) ≡ queue_on x
scope_queue (part.Scope st) step = refl
scope_queue other step = refl
