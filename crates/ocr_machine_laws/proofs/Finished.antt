-- A scope that has no member is the last of what lies in it, and has none once all have left.
use Rattle.std.proofs.Common.{◌≡◌, inl, inr, ℕ, zero, suc, ◌<◌, List, [], ◌∷◌, Bool, true, false, not, ◌&&◌, ◌==◌, refl, ◌∙◌, ap, arith}
use Rattle.std.specs.List.{Contains}
use Rattle.std.proofs.lemmas.Bool.{eqb-true, not-true, true_from_ne_false, false_from_ne_true, and_parts, or_cases}
use Rattle.ocr_base.proofs.Booleans.{same, and_false}
use Rattle.ocr_machine_history.specs.declared.entry.What.{What}
use Rattle.ocr_machine_history.specs.declared.entry.What.TheVariants as what
use Rattle.ocr_machine_history.specs.Edts.{is_ended}
use Rattle.ocr_machine_history.specs.History.{History, Setting}
use Rattle.ocr_machine_history.specs.Made.{made, names_new, is_edt, is_edt_made}
use Rattle.ocr_machine_parts.specs.declared.part.Part.{Part}
use Rattle.ocr_machine_parts.specs.declared.part.Part.TheVariants as part
use Rattle.ocr_machine_parts.specs.Parts.{identity_of, parts_of}
use Rattle.ocr_machine_parts.specs.Messages.{pending}
use Rattle.ocr_machine_parts.specs.LegalOn.{HasMember}
use Rattle.ocr_machine_parts.specs.Legal.{IsRun}
use Rattle.ocr_machine_laws.proofs.Edts.{edts_law}
use Rattle.ocr_machine_laws.specs.Members.{numbers, is_member_edt, is_member_scope, is_leave_of, leaves, members_on, outer_on, lies_in, FinishLaw, HaveAllLeft, AllLeftLaw}
use Rattle.ocr_machine_laws.proofs.Counts.{one_off, none_many, in_many}
use Rattle.ocr_machine_laws.proofs.Scopes.{members_in, members_are, none_scope}
use Rattle.ocr_machine_laws.proofs.Members.{none_edt, made_below, members_law, leaving_law}

-- who has a member is a member of its outer scope
outer_member : (x : Part) → (members_on x == 0) ≡ false → (outer_on x == 0) ≡ false → is_member_scope (outer_on x) x ≡ true
outer_member (part.Scope st) some outer = rw (some, outer, same st.outer) refl
outer_member other some outer = cc

member_below : (s : Setting) (past : History) (y : ℕ) → IsRun s past → (members_on ((parts_of s past).face y) == 0) ≡ false → y < numbers s
member_below s past y run some = made_below s past y run (λ none.
    let zero_members : members_on ((parts_of s past).face y) ≡ 0 = members_are s past y ∙ ap members_in (none_scope s past y none) in
    let off : (members_on ((parts_of s past).face y) == 0) ≡ true = ap (λ (n : ℕ). n == 0) zero_members in
    cc (off, some))

step_empty : (s : Setting) (past : History) (y : ℕ) → IsRun s past → (outer_on ((parts_of s past).face y) == 0) ≡ false
    → members_on ((parts_of s past).face (outer_on ((parts_of s past).face y))) ≡ 0 → members_on ((parts_of s past).face y) ≡ 0
step_empty s past y run some empty = elim (members_on ((parts_of s past).face y) == 0) as (λ b. (members_on ((parts_of s past).face y) == 0) ≡ b → members_on ((parts_of s past).face y) ≡ 0) [
  | true ↦ λ is. eqb-true (members_on ((parts_of s past).face y)) 0 is
  | false ↦ λ off.
      let z : ℕ = outer_on ((parts_of s past).face y) in
      let count = members_law s past z run in
      let member = in_many (λ g. is_member_scope z ((parts_of s past).face g)) y (numbers s) (member_below s past y run off) (outer_member ((parts_of s past).face y) off some) in
      absurd (omega (arith, count, member, empty))
] refl

all_empty : (s : Setting) (past : History) (x k y : ℕ) → IsRun s past → members_on ((parts_of s past).face x) ≡ 0 → lies_in (parts_of s past) x k y ≡ true → members_on ((parts_of s past).face y) ≡ 0
all_empty s past x zero y run empty is = ap (λ (n : ℕ). members_on ((parts_of s past).face n)) (eqb-true y x is) ∙ empty
all_empty s past x (suc k) y run empty is = elim (or_cases (y == x) _ is) [
  | inl here ↦ ap (λ (n : ℕ). members_on ((parts_of s past).face n)) (eqb-true y x here) ∙ empty
  | inr up ↦
      let both = and_parts (not (outer_on ((parts_of s past).face y) == 0)) _ up in
      step_empty s past y run (not-true (outer_on ((parts_of s past).face y) == 0) both.0) (all_empty s past x k (outer_on ((parts_of s past).face y)) run empty both.1)
]

pub finish_law : FinishLaw
finish_law s past x steps y t run empty inside there home = true_from_ne_false (is_ended past t) (λ live.
    let is_made : is_edt_made (made s past t) ≡ true = edts_law s past run t ∙ there in
    let member = in_many (λ u. is_member_edt past y u) t (numbers s) (made_below s past t run (none_edt (made s past t) is_made)) (rw (there, live, home) refl) in
    let count = members_law s past y run in
    let none = all_empty s past x steps y run empty inside in
    omega (arith, count, member, none))

-- WHO ALL HAVE LEFT
no_member : (y : Part) → members_on y ≡ 0 → HasMember y → ⊥
no_member (part.Scope st) none has = omega (arith, none, has)
no_member other none has = has

all_gone : (s : Setting) (past : History) (x : ℕ) → IsRun s past → members_on ((parts_of s past).face x) ≡ 0 → HaveAllLeft s past x
all_gone s past x run empty = record {
  edts = λ t there home. finish_law s past x 0 x t run empty (same x) there home;
  scopes = λ y inside.
      let outer : ℕ = outer_on ((parts_of s past).face y) in
      let both = and_parts (not (outer == 0)) (outer == x) inside in
      step_empty s past y run (not-true (outer == 0) both.0) (ap (λ (n : ℕ). members_on ((parts_of s past).face n)) (eqb-true outer x both.1) ∙ empty);
  delivered = λ place index here. no_member ((parts_of s past).face x) empty (leaving_law s past place index x run here);
}

ended_edt : (there ended home : Bool) → (there ≡ true → home ≡ true → ended ≡ true) → ((there && not ended) && home) ≡ false
ended_edt true true home ends = refl
ended_edt true false true ends = absurd (cc (ends refl refl))
ended_edt true false false ends = refl
ended_edt false ended home ends = refl

done_scope : (x : ℕ) (y : Part) → (names_new (outer_on y) x ≡ true → members_on y ≡ 0) → is_member_scope x y ≡ false
done_scope x (part.Scope st) done = elim (names_new st.outer x) as (λ b. names_new st.outer x ≡ b → is_member_scope x (part.Scope st) ≡ false) [
  | true ↦ λ is. ap (λ (n : ℕ). not (n == 0) && names_new st.outer x) (done is)
  | false ↦ λ off. ap (λ (b : Bool). not (st.members == 0) && b) off ∙ and_false (not (st.members == 0))
] refl
done_scope x other done = refl

leave_itself : (x : ℕ) (w : What) → is_leave_of x w ≡ true → w ≡ what.Leave x
leave_itself x (what.Leave y) is = ap (λ (n : ℕ). what.Leave n) (eqb-true y x is)
leave_itself x other is = cc is

no_leaves : (x : ℕ) (ms : List (ℕ × ℕ × What)) → ((place index : ℕ) → Contains ms (place, index, what.Leave x) → ⊥) → leaves x ms ≡ 0
no_leaves x [] none = refl
no_leaves x (m ∷ rest) none =
    let r = no_leaves x rest (λ place index here. none place index (suc here.0, omega (arith, here.1), here.2)) in
    let here : is_leave_of x m.2 ≡ false = false_from_ne_true (is_leave_of x m.2) (λ is. none m.0 m.1 (0, omega arith, ap (λ (w : What). (m.0, m.1, w)) (leave_itself x m.2 is))) in
    let zero = one_off (is_leave_of x m.2) here in
    omega (arith, r, zero)

gone_all : (s : Setting) (past : History) (x : ℕ) → IsRun s past → HaveAllLeft s past x → members_on ((parts_of s past).face x) ≡ 0
gone_all s past x run left =
    let count = members_law s past x run in
    let edts = none_many (λ t. is_member_edt past x t) (numbers s) (λ t. ended_edt (is_edt past t) (is_ended past t) (names_new (identity_of past t).scope x) (left.edts t)) in
    let scopes = none_many (λ y. is_member_scope x ((parts_of s past).face y)) (numbers s) (λ y. done_scope x ((parts_of s past).face y) (left.scopes y)) in
    let mail = no_leaves x (pending s past) left.delivered in
    omega (arith, count, edts, scopes, mail)

pub all_left_law : AllLeftLaw
all_left_law s past x run = (all_gone s past x run, gone_all s past x run)
