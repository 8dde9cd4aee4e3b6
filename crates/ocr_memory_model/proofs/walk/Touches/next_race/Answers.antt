use Rattle.std.proofs.Common.{◌≡◌, ◌<◌, ◌≤◌, ◌+◌, ◌-◌, ℕ, List, ◌∷◌, length, drop, None, sym, ◌∙◌, subst, arith}
use Rattle.std.specs.Prelude.{slice_index_or}
use Rattle.ocr_memory_model.specs.declared.touch.Touch.{Touch}
use Rattle.ocr_memory_model.specs.declared.race.Race.{Race}
use Rattle.ocr_memory_model.specs.Touches.{race_of}
use Rattle.ocr_memory_model.specs.Walk.{is_before, races_past, triangle}
use Rattle.ocr_memory_model.proofs.Walks.{row_done, row_race, fewer_rows, read_is}
use Rattle.ocr_memory_model.proofs.walk.Touches.next_race.Goals as goal

-- what an index would give where there is nothing
abbrev no_touch : Touch
no_touch = record { block = 0; word = 0; edt = 0; places = record { last = 0; store = None } }

pub returns-in-Some-clause-next : goal.returns-in-Some-clause-next
returns-in-Some-clause-next c = λ s J order.
    let ts : List Touch = c.as_slice-touches.result.now in
    let f : ℕ = c.loop-at.at.first in
    let n : ℕ = c.loop-at.at.second in
    let m : ℕ = c.in-Some.second in
    let within : m < length ts = c.in-Some.ensures.within.1 in
    let x : Touch = slice_index_or ts f no_touch in
    let y : Touch = slice_index_or ts m no_touch in
    let found = c.in-Some.ensures.next s J order y (read_is ts m no_touch within) in
    c.loop-at.invariant.same s J order
    ∙ subst (λ (l : List Touch). races_past (is_before s J) (drop f l) (drop n l) ≡ c.race_of-race.result ∷ races_past (is_before s J) (drop f l) (drop (m + 1) l)) c.as_slice-touches.ensures.value
    (subst (λ (r : Race). races_past (is_before s J) (drop f ts) (drop n ts) ≡ r ∷ races_past (is_before s J) (drop f ts) (drop (m + 1) ts)) (sym c.race_of-race.ensures)
    (row_race (is_before s J) ts f n m x (race_of x y) c.loop-at-test.true (read_is ts f no_touch c.loop-at-test.true) found))

pub loop-at-preserved : goal.loop-at-preserved
loop-at-preserved c =
    let ts : List Touch = c.as_slice-touches.result.now in
    let f : ℕ = c.loop-at.at.first in
    let n : ℕ = c.loop-at.at.second in
    record {
      same = λ s J order. c.loop-at.invariant.same s J order
          ∙ subst (λ (l : List Touch). races_past (is_before s J) (drop f l) (drop n l) ≡ races_past (is_before s J) (drop (f + 1) l) (drop (f + 2) l)) c.as_slice-touches.ensures.value
          (row_done (is_before s J) ts f n (slice_index_or ts f no_touch) c.loop-at-test.true (read_is ts f no_touch c.loop-at-test.true) (c.in_default.ensures.next s J order));
      fewer =
          let few : triangle (length ts - (f + 1)) + (length ts - (f + 2)) ≤ triangle (length ts - f) + (length ts - n) = fewer_rows (length ts) f n c.loop-at-test.true in
          let was = c.loop-at.invariant.fewer in
          let less = subst (λ (l : List Touch). triangle (length l - (f + 1)) + (length l - (f + 2)) ≤ triangle (length l - f) + (length l - n)) c.as_slice-touches.ensures.value few in
          omega (arith, was, less);
    }
