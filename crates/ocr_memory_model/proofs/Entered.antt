-- Each entry of a run may come after those before it.
use Rattle.std.proofs.Common.{◌≡◌, ◌<◌, ◌≤◌, ◌+◌, ◌-◌, ◌^◌, ℕ, zero, suc, List, length, take, slice_index_or, ap, sym, subst, arith}
use Rattle.ocr_machine_history.specs.declared.entry.Entry.{Entry}
use Rattle.ocr_machine_history.specs.History.{History, Setting, history_of}
use Rattle.ocr_machine_parts.specs.Kinds.{counted_on}
use Rattle.ocr_machine_parts.specs.Laws.{CountedLaw}
use Rattle.ocr_machine_parts.specs.Legal.{IsRun, IsLegal}
use Rattle.ocr_machine_parts.specs.Parts.{Parts, parts_of}
use Rattle.ocr_machine_state.specs.State.{IsStateOf, IsBefore, face_on}
use Rattle.ocr_machine_state.specs.declared.state.State.{State}
use Rattle.ocr_machine_history.proofs.Fronts.{history_next, all_of, past_len, item, item_is}

-- a front of a run is a run
front_run : (s : Setting) (xs : List Entry) (n d : ℕ) → n + d ≡ length xs → IsRun s (history_of xs) → IsRun s (history_of (take n xs))
front_run s xs n zero is run =
    let whole : n ≡ length xs = omega (arith, is) in
    subst (λ k. IsRun s (history_of (take k xs))) (sym whole) (subst (λ l. IsRun s (history_of l)) (sym (all_of xs)) run)
front_run s xs n (suc d) is run =
    let below : n < length xs = omega (arith, is) in
    (subst (λ h. IsRun s h) (history_next xs n (item xs n below) below (item_is xs n below)) (front_run s xs (n + 1) d (omega (arith, is)) run)).0

next_legal : (s : Setting) (xs : List Entry) (n : ℕ) (e : Entry) → n < length xs → e ≡ slice_index_or xs n e → IsRun s (history_of xs) → IsLegal s (history_of (take n xs)) e
next_legal s xs n e below is run =
    (subst (λ h. IsRun s h) (history_next xs n e below is) (front_run s xs (n + 1) (length xs - (n + 1)) (omega (arith, below)) run)).1

-- so it may be entered into the table of those
pub may_enter : (s : Setting) (xs : List Entry) (n : ℕ) (e : Entry) (table : State) → n < length xs → e ≡ slice_index_or xs n e → IsRun s (history_of xs) → IsStateOf s (history_of (take n xs)) table → IsBefore s (history_of (take n xs)) e table
may_enter s xs n e table below is run of = record {
  of = of;
  run = front_run s xs n (length xs - n) (omega (arith, below)) run;
  legal = next_legal s xs n e below is run;
}

pub few_counted : CountedLaw → (s : Setting) (xs : List Entry) (n : ℕ) (table : State) → n < length xs → n < 2 ^ 64 - 1 → IsStateOf s (history_of (take n xs)) table → (g : ℕ) → counted_on (face_on table g) < 2 ^ 64 - 1
few_counted law s xs n table below few of g =
    let past : History = history_of (take n xs) in
    let same : counted_on (face_on table g) ≡ counted_on ((parts_of s past).face g) = ap (λ (f : Parts). counted_on (f.face g)) of.parts in
    let most : counted_on ((parts_of s past).face g) ≤ length past = law s past g in
    let len : length past ≡ n = past_len xs n (omega (arith, below)) in
    omega (arith, same, most, len, few)
