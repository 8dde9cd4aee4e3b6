-- A call may come where it is answered so: the hold that it ends is one that may end.
use Rattle.std.proofs.Common.{◌≡◌, ◌↔◌, ℕ, List, [], ◌∷◌, Bool, true, false, ◌&&◌, not, if◌then◌else◌, Option, Some, None, refl, sym, ◌∙◌, ap, subst, is_some}
use Rattle.ocr_guid.specs.declared.Code.TheVariants as code
use Rattle.ocr_edt.specs.Phases.{least_of}
use Rattle.ocr_acquire.specs.declared.Mode.{Mode}
use Rattle.ocr_body_meaning.specs.declared.call.Call as body
use Rattle.ocr_body_meaning.specs.declared.call.Call.TheVariants as call
use Rattle.ocr_body_meaning.specs.declared.call.Answer.{Answer}
use Rattle.ocr_machine_history.specs.declared.entry.Entry.TheVariants.{Call, Free, End}
use Rattle.ocr_machine_history.specs.History.{History, Setting}
use Rattle.ocr_machine_parts.specs.declared.part.Part.{Part}
use Rattle.ocr_machine_parts.specs.Parts.{Parts, parts_of}
use Rattle.ocr_machine_parts.specs.Kinds.{is_held_by, is_block, work_of, is_running, holds_of}
use Rattle.ocr_machine_parts.specs.Codes.{ABlock, is_of_other_kind, release_code, code_of}
use Rattle.ocr_machine_parts.specs.LegalOn.{IsAnswered, IsCallOn, IsSatisfiable, HasMember, delivery_code}
use Rattle.ocr_machine_parts.specs.Legal.{IsRun}
use Rattle.ocr_machine_parts.proofs.After.{accepted, done_is}
use Rattle.ocr_machine_state.specs.State.{state_in, core_on, IsStateOf}
use Rattle.ocr_machine_state.specs.declared.state.State.{State}
use Rattle.ocr_machine_laws.proofs.Choices.{done_kinds}
use Rattle.ocr_machine_laws.proofs.Held.{held_law}
use Rattle.ocr_machine_laws.proofs.Works.{freeing_law, dooming_law}
use Rattle.ocr_machine_laws.proofs.Answered.{call_on, call_so}
use Rattle.ocr_replay_legality.specs.Tests.{Whether, MayEnter, IsDeliverable, is_this}
use Rattle.ocr_machine_laws.specs.Answered.{AnswersSo, IsCallSo}
use Rattle.ocr_replay_legality.proofs.Goes.{not_both, and_is, turned}
use Rattle.ocr_machine_history.specs.declared.entry.What.TheVariants as what
use Rattle.std.proofs.lemmas.Bool.{eqb-true, eq-eqb, or_parts, and_parts, not-false}

table_so : (s : Setting) (past : History) (table : State) (t home : ℕ) (c : body.Call) (a : Answer) → IsStateOf s past table → (IsCallSo table.limit (state_in table) t home c a) ≡ (IsCallSo s.limit (parts_of s past) t home c a)
table_so s past table t home c a of = λ i. IsCallSo (of.limit i) (of.parts i) t home c a

pub call_tested : (s : Setting) (past : History) (table : State) (t home : ℕ) (c : body.Call) (a : Answer) (w : List (ℕ × ℕ)) (answer : Bool) → IsStateOf s past table → IsRun s past → Whether answer (IsCallSo table.limit (state_in table) t home c a)
    → Whether answer (MayEnter s past (Call t home c a w))
call_tested s past table t home c a w answer of run tested =
    let here : Whether answer (IsCallSo s.limit (parts_of s past) t home c a) = subst (Whether answer) (table_so s past table t home c a of) tested in
    record {
      yes = λ on. (call_on s past t home c a w run (here.yes on), tt);
      no = λ off may. here.no off (call_so s past t home c a w may.0);
    }

-- FREEING and ending
this_is : (o : Option ℕ) (d : ℕ) → is_this o d ≡ true → o ≡ Some d
this_is None d is = cc is
this_is (Some n) d is = ap (λ (k : ℕ). Some k) (eqb-true n d is)

is_so : (o : Option ℕ) (d : ℕ) → o ≡ Some d → is_this o d ≡ true
is_so o d is = ap (λ (p : Option ℕ). is_this p d) is ∙ eq-eqb d d refl

pub free_tested : (s : Setting) (past : History) (table : State) (t d : ℕ) (w : List (ℕ × ℕ)) → IsStateOf s past table → IsRun s past
    → Whether (is_running (core_on table t) && is_this (least_of (holds_of (work_of (core_on table t)))) d) (MayEnter s past (Free t d w))
free_tested s past table t d w of run =
    let is_run : is_running (core_on table t) ≡ is_running ((parts_of s past).core t) = ap (λ (f : Parts). is_running (f.core t)) of.parts in
    let is_least : least_of (holds_of (work_of (core_on table t))) ≡ least_of (holds_of (work_of ((parts_of s past).core t))) = ap (λ (f : Parts). least_of (holds_of (work_of (f.core t)))) of.parts in
    record {
      yes = λ on.
          let both = and_parts (is_running (core_on table t)) (is_this (least_of (holds_of (work_of (core_on table t)))) d) on in
          (freeing_law s past t d run (sym is_run ∙ both.0) (sym is_least ∙ this_is (least_of (holds_of (work_of (core_on table t)))) d both.1), tt);
      no = λ off may. not_both (is_running (core_on table t)) (is_this (least_of (holds_of (work_of (core_on table t)))) d) off (is_run ∙ may.0.running)
          (is_so (least_of (holds_of (work_of (core_on table t)))) d (is_least ∙ may.0.least));
    }

nothing_held : (holds : List (ℕ × Mode)) → not (is_some (least_of holds)) ≡ true → holds ≡ []
nothing_held [] is = refl
nothing_held (hold ∷ rest) is = cc is

pub end_tested : (s : Setting) (past : History) (table : State) (t g : ℕ) → IsStateOf s past table → IsRun s past
    → Whether (is_running (core_on table t) && not (is_some (least_of (holds_of (work_of (core_on table t)))))) (MayEnter s past (End t g))
end_tested s past table t g of run =
    let is_run : is_running (core_on table t) ≡ is_running ((parts_of s past).core t) = ap (λ (f : Parts). is_running (f.core t)) of.parts in
    let is_holds : holds_of (work_of (core_on table t)) ≡ holds_of (work_of ((parts_of s past).core t)) = ap (λ (f : Parts). holds_of (work_of (f.core t))) of.parts in
    record {
      yes = λ on.
          let both = and_parts (is_running (core_on table t)) (not (is_some (least_of (holds_of (work_of (core_on table t)))))) on in
          (record { running = sym is_run ∙ both.0; nothing_held = sym is_holds ∙ nothing_held (holds_of (work_of (core_on table t))) both.1 }, tt);
      no = λ off may. not_both (is_running (core_on table t)) (not (is_some (least_of (holds_of (work_of (core_on table t)))))) off (is_run ∙ may.0.running)
          (ap (λ (holds : List (ℕ × Mode)). not (is_some (least_of holds))) (is_holds ∙ may.0.nothing_held));
    }

-- MESSAGES
pub deliverable_so : (f : Parts) (e slot p : ℕ) (answer : Bool) → (answer ≡ true) ↔ IsSatisfiable slot (f.face e) → Whether answer (IsDeliverable f (what.Satisfy e slot p))
deliverable_so f e slot p answer is = record { yes = λ on. (delivery_code (f.face e) p, (is.0 on, refl)); no = λ off can. cc (off, is.1 can.1.0) }

pub leavable_so : (f : Parts) (x : ℕ) (answer : Bool) → (answer ≡ true) ↔ HasMember (f.face x) → Whether answer (IsDeliverable f (what.Leave x))
leavable_so f x answer is = record { yes = λ on. (code.Done, (is.0 on, refl)); no = λ off can. cc (off, is.1 can.1.0) }

-- by what the table answers
pub call_answered : (s : Setting) (past : History) (table : State) (t home : ℕ) (c : body.Call) (a : Answer) (answer : Bool) → Whether answer (IsCallSo table.limit (state_in table) t home c a) → IsStateOf s past table → IsRun s past
    → (w : List (ℕ × ℕ)) → Whether answer (MayEnter s past (Call t home c a w))
call_answered s past table t home c a answer tested of run w = call_tested s past table t home c a w answer of run tested

free_is : (table : State) (t d : ℕ) (both running here : Bool) (least : Option ℕ) → both ≡ (running && here) → running ≡ is_running (core_on table t) → here ≡ is_this least d → least ≡ least_of (holds_of (work_of (core_on table t)))
    → both ≡ (is_running (core_on table t) && is_this (least_of (holds_of (work_of (core_on table t)))) d)
free_is table t d both running here least is runs is_here is_least = is ∙ and_is running here (is_running (core_on table t)) (is_this (least_of (holds_of (work_of (core_on table t)))) d) runs (is_here ∙ ap (λ (o : Option ℕ). is_this o d) is_least)

pub free_answered : (s : Setting) (past : History) (table : State) (t d : ℕ) (both running here : Bool) (least : Option ℕ) → both ≡ (running && here) → running ≡ is_running (core_on table t) → here ≡ is_this least d → least ≡ least_of (holds_of (work_of (core_on table t)))
    → IsStateOf s past table → IsRun s past → (w : List (ℕ × ℕ)) → Whether both (MayEnter s past (Free t d w))
free_answered s past table t d both running here least is runs is_here is_least of run w = turned both _ (MayEnter s past (Free t d w)) (free_is table t d both running here least is runs is_here is_least) (free_tested s past table t d w of run)

end_is : (table : State) (t : ℕ) (both running here : Bool) (least : Option ℕ) → both ≡ (running && here) → running ≡ is_running (core_on table t) → here ≡ not (is_some least) → least ≡ least_of (holds_of (work_of (core_on table t)))
    → both ≡ (is_running (core_on table t) && not (is_some (least_of (holds_of (work_of (core_on table t))))))
end_is table t both running here least is runs is_here is_least = is ∙ and_is running here (is_running (core_on table t)) (not (is_some (least_of (holds_of (work_of (core_on table t)))))) runs (is_here ∙ ap (λ (o : Option ℕ). not (is_some o)) is_least)

pub end_answered : (s : Setting) (past : History) (table : State) (t : ℕ) (both running here : Bool) (least : Option ℕ) → both ≡ (running && here) → running ≡ is_running (core_on table t) → here ≡ not (is_some least) → least ≡ least_of (holds_of (work_of (core_on table t)))
    → IsStateOf s past table → IsRun s past → (g : ℕ) → Whether both (MayEnter s past (End t g))
end_answered s past table t both running here least is runs is_here is_least of run g = turned both _ (MayEnter s past (End t g)) (end_is table t both running here least is runs is_here is_least) (end_tested s past table t g of run)
