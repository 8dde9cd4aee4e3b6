-- A replay that has come to the end of its entries has come to a front.
use Rattle.std.proofs.Common.{◌≡◌, ◌<◌, ◌≤◌, ℕ, zero, suc, List, [], ◌∷◌, length, slice_index_or, take, true, false, Option, arith, refl, sym, ◌∙◌, ap, subst}
use Rattle.ocr_machine_history.specs.declared.entry.Entry.{Entry}
use Rattle.ocr_machine_history.specs.declared.entry.What.{What}
use Rattle.ocr_machine_history.specs.Edts.{IsRunning}
use Rattle.ocr_machine_history.specs.History.{History, Setting, history_of, is_stopped}
use Rattle.ocr_machine_parts.specs.declared.part.Part.TheVariants as part
use Rattle.ocr_machine_parts.specs.Bodies.{says_next, body_of}
use Rattle.ocr_machine_parts.specs.Kinds.{is_running}
use Rattle.ocr_machine_parts.specs.Legal.{IsRun}
use Rattle.ocr_machine_parts.specs.Messages.{pending}
use Rattle.ocr_machine_parts.specs.Parts.{Parts, parts_of}
use Rattle.ocr_machine_parts.specs.Taken.{is_within}
use Rattle.ocr_machine_state.specs.State.{IsStateOf}
use Rattle.ocr_machine_state.specs.declared.state.State.{State}
use Rattle.ocr_replay_body.specs.Judge.{IsToldAs, IsVerdict, at_place}
use Rattle.ocr_replay_body.specs.Mail.{left_from}
use Rattle.ocr_replay_body.specs.declared.judge.Verdict.{Verdict}
use Rattle.ocr_replay.specs.Stops.{IsFront}
use Rattle.ocr_replay.proofs.StopCauses.{no_core, on_running}
use Rattle.ocr_replay.proofs.Some.{within_le}

-- where there is an element, none stands in for it
index_any : {X : Type 0} (xs : List X) (k : ℕ) (a b : X) → k < length xs → slice_index_or xs k a ≡ slice_index_or xs k b
index_any [] k a b below = absurd (omega (arith, below))
index_any (x ∷ xs) zero a b below = refl
index_any (x ∷ xs) (suc k) a b below = index_any xs k a b (omega arith)

running_le : (s : Setting) (past : History) (table : State) (t : ℕ) → IsStateOf s past table → IsRun s past → IsRunning past t → t ≤ s.limit
running_le s past table t of run runs = subst (λ (n : ℕ). t ≤ n) of.limit (within_le table.limit t inside)
  where
    inside : is_within table.limit t ≡ true
    inside = elim (is_within table.limit t) as (λ b. is_within table.limit t ≡ b → b ≡ true) [
      | true ↦ λ _. refl
      | false ↦ λ off. (
          let vacant : (parts_of s past).core t ≡ part.Vacant = sym (ap (λ (f : Parts). f.core t) of.parts) ∙ no_core table.limit t table.parts.items off in
          cc (ap is_running vacant, on_running s past t run runs))
    ] refl

at_end : (n m at : ℕ) → n ≡ m → n ≤ at → at ≤ m → at ≡ m
at_end n m at same low high = omega (arith, same, low, high)

pub front_of : (s : Setting) (entries : List Entry) (n : ℕ) (table : State) (rows : List (List (Option What))) (vs : List Verdict) (none : Verdict) → n ≡ length entries
    → IsRun s (history_of (take n entries)) → is_stopped (history_of (take n entries)) ≡ false → IsStateOf s (history_of (take n entries)) table → left_from 0 rows ≡ pending s (history_of (take n entries)) → s.limit < length vs
    → ((t : ℕ) → IsRunning (history_of (take n entries)) t → IsVerdict (body_of s (history_of (take n entries)) t) t entries n (slice_index_or vs t none).at (slice_index_or vs t none).told)
    → IsFront s (history_of (take n entries)) table rows vs
front_of s entries n table rows vs none end run open_run of left long judged = record {
  run = run;
  open_run = open_run;
  of = of;
  left = left;
  long = long;
  told = λ t runs v at.
      let verdict = judged t runs in
      let place : (slice_index_or vs t none).at ≡ length entries = at_end n (length entries) (slice_index_or vs t none).at end verdict.after verdict.within in
      let said : IsToldAs (at_place (body_of s (history_of (take n entries)) t) t entries (slice_index_or vs t none).at) (slice_index_or vs t none).told = verdict.told place in
      let here : IsToldAs (says_next s (history_of (take n entries)) t) (slice_index_or vs t none).told = subst (λ (m : ℕ). IsToldAs (at_place (body_of s (history_of (take n entries)) t) t entries m) (slice_index_or vs t none).told) (place ∙ sym end) said in
      let low : t ≤ s.limit = running_le s (history_of (take n entries)) table t of run runs in
      let same : slice_index_or vs t none ≡ v = index_any vs t none v (omega arith) ∙ sym at in
      subst (λ (w : Verdict). IsToldAs (says_next s (history_of (take n entries)) t) w.told) same here;
}
