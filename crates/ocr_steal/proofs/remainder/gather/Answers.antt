use Rattle.std.proofs.Common.{◌≡◌, ◌∙◌, ◌<◌, ◌++◌, All, ℕ, List, Vec, [], ◌∷◌, ap, arith, get_or, inl, length, subst, sym}
use Rattle.std.specs.Global.{Global}
use Rattle.std.specs.List.{sum_by}
use Rattle.std.proofs.lemmas.List.{get_or-map, length-map}
use mathlib.Core.Option.{some, some-injective}
use lib.ListN.{get_elem?}
use Rattle.crossbeam_deque.proofs.Lists.{at_index}
use Rattle.crossbeam_deque.specs.Handles.{stealer_deque, worker_view}
use Rattle.crossbeam_deque.specs.declared.handles.Stealer.{Stealer}
use Rattle.crossbeam_deque.specs.declared.handles.Worker.{Worker}
use Rattle.ocr_steal.specs.declared.account.Account.{Account}
use Rattle.ocr_steal.specs.declared.account.Deque.{Deque}
use Rattle.ocr_steal.specs.Parts.{Known, Name}
use Rattle.ocr_steal.specs.Pool.{deques_in, hands_in}
use Rattle.ocr_steal.specs.Rest.{Column, HasPart, IsFullRow, IsPlaced, IsRow, count_if, taken_weight}
use Rattle.ocr_steal.proofs.Columns.{at_lt, column_after, count_same, gone, row_long, rows_nothing, still_there, sum_moves}
use Rattle.ocr_steal.proofs.Owners.{all_front, all_last}
use Rattle.ocr_steal.proofs.Steps.{no_items}
use Rattle.ocr_steal.proofs.remainder.gather.Goals as goal

abbrev One : Type 0
One = ℕ × Worker ℕ Global Account Deque

names_long : (ss : List (Stealer ℕ Global Account Deque)) → length (Rattle.ocr_steal.specs.Parts.deques_of_stealers ss) ≡ length ss
names_long ss = length-map ss (λ s. stealer_deque s)

rows_of_full : (names : List Name) (rows : List (Vec Known Global)) → All (λ r. IsFullRow names r.items) rows → All (λ r. IsRow names r.items) rows
rows_of_full names rows every k d lt =
    let row = every k d lt in
    record { deques = row.deques; idle = λ i p within. record { hand = (row.passes i p within).hand; spare = (row.passes i p within).spare } }

columns_of_full : (names : List Name) (rows : List (Vec Known Global)) (k : ℕ) → k < length names → All (λ r. IsFullRow names r.items) rows → Column HasPart k rows
columns_of_full names rows k lt every i r within d =
    let row = every i r within in
    (row.passes k d (omega (arith, lt, row_long names (get_or rows i r).items row.deques))).parts

pub loop-number-init : goal.loop-number-init
loop-number-init c =
    let names = deques_in c.args.pool in
    let parts = c.in_ok-owners.ensures.placed names c.requires.each in
    let long = names_long c.args.pool.stealers.items in
    record {
      many = omega (arith, c.in_ok-owners.ensures.many, c.requires.many, c.args.hands.ok.0);
      placed = parts.0;
      rows = rows_of_full names c.in_ok-owners.rows.items parts.1;
      columns = λ k lt. inl (c.in_ok-owners.ensures.counted k ∙ c.requires.once k lt, columns_of_full names c.in_ok-owners.rows.items k (omega (arith, lt, long)) parts.1);
      weights = λ f. let none : sum_by f c.new-left.result.items ≡ 0 = ap (sum_by f) c.new-left.ensures.items in
          omega (arith, none, c.in_ok-owners.ensures.pushed f, c.in_ok-owners.ensures.got f);
    }

pub index-requires : goal.index-requires
index-requires c =
    let names = deques_in c.args.pool in
    let one : One = (c.in-Some.number, c.in-Some.own) in
    let placed : IsPlaced names one = all_last (IsPlaced names) c.pop.new.self.items one (subst (All (IsPlaced names)) c.in-Some.ensures.items c.loop-number.invariant.placed) in
    omega (arith, at_lt names c.in-Some.number _ placed.deque, names_long c.args.pool.stealers.items, c.args.pool.stealers.ok.0)

pub call_in-own-requires-clause-own : goal.call_in-own-requires-clause-own
call_in-own-requires-clause-own c =
    let names = deques_in c.args.pool in
    let ss = c.args.pool.stealers.items in
    let s = c.index.result.now in
    let n = c.in-Some.number in
    let one : One = (n, c.in-Some.own) in
    let placed : IsPlaced names one = all_last (IsPlaced names) c.pop.new.self.items one (subst (All (IsPlaced names)) c.in-Some.ensures.items c.loop-number.invariant.placed) in
    let within : n < length ss = omega (arith, at_lt names n _ placed.deque, names_long ss) in
    let here : get_elem? names n ≡ some (stealer_deque s) =
    at_index names n (stealer_deque s) (omega (arith, within, names_long ss)) (ap (λ x. stealer_deque x) c.index.ensures ∙ sym (get_or-map (λ x. stealer_deque x) ss n s (stealer_deque s) within)) in
    (some-injective _ _ (sym here ∙ placed.deque), placed.owner.port)

pub call_in-own-requires-clause-rows : goal.call_in-own-requires-clause-rows
call_in-own-requires-clause-rows c =
    let names = deques_in c.args.pool in
    let one : One = (c.in-Some.number, c.in-Some.own) in
    let placed : IsPlaced names one = all_last (IsPlaced names) c.pop.new.self.items one (subst (All (IsPlaced names)) c.in-Some.ensures.items c.loop-number.invariant.placed) in
    (names, placed.deque, c.loop-number.invariant.rows)

pub drain-requires : goal.drain-requires
drain-requires c =
    let names = deques_in c.args.pool in
    let n = c.in-Some.number in
    let one : One = (n, c.in-Some.own) in
    let placed : IsPlaced names one = all_last (IsPlaced names) c.pop.new.self.items one (subst (All (IsPlaced names)) c.in-Some.ensures.items c.loop-number.invariant.placed) in
    let long = names_long c.args.pool.stealers.items in
    let counts = sum_moves (λ (o : One). count_if n o.0) c.loop-number.owners.items c.pop.new.self.items one c.in-Some.ensures.items in
    let column = still_there _ (omega (arith, counts, count_same n)) (c.loop-number.invariant.columns n (omega (arith, at_lt names n _ placed.deque, long))) in
    record {
      flavor = c.call_in-own.ensures.own.2 ∙ placed.owner.flavor;
      port = c.call_in-own.ensures.own.1;
      parts = omega (arith, c.call_in-own.ensures.parts column.1, placed.owner.parts, long, c.loop-number.invariant.many);
    }

pub loop-number-preserved : goal.loop-number-preserved
loop-number-preserved c =
    let names = deques_in c.args.pool in
    let inv = c.loop-number.invariant in
    let n = c.in-Some.number in
    let one : One = (n, c.in-Some.own) in
    let before = c.loop-number.owners.items in
    let rest = c.pop.new.self.items in
    let placed : All (IsPlaced names) (rest ++ one ∷ []) = subst (All (IsPlaced names)) c.in-Some.ensures.items inv.placed in
    record {
      many = c.call_in-own.ensures.rows.0 ∙ inv.many;
      placed = all_front (IsPlaced names) rest (one ∷ []) placed;
      rows = c.call_in-own.ensures.rows.1 names inv.rows;
      columns = λ k lt. column_after c.loop-number.rows.items c.call_in-own.new.rows.items k n _ _
          (sum_moves (λ (o : One). count_if k o.0) before rest one c.in-Some.ensures.items) (inv.columns k lt) c.call_in-own.ensures.column (c.call_in-own.ensures.others k);
      weights = λ f.
          let pushed = sum_moves (λ (o : One). sum_by f (worker_view o.1).pushed) before rest one c.in-Some.ensures.items in
          let took = sum_moves (λ (o : One). taken_weight f (worker_view o.1)) before rest one c.in-Some.ensures.items in
          let same = ap (sum_by f) c.call_in-own.ensures.pushed in
          omega (arith, inv.weights f, pushed, took, same, c.call_in-own.ensures.weights f, c.in_ok-drain.ensures f);
    }

pub returns : goal.returns
returns c f =
    let names = deques_in c.args.pool in
    let inv = c.loop-number.invariant in
    let owners = c.loop-number.owners.items in
    let rows = c.loop-number.rows.items in
    let empty : owners ≡ [] = no_items owners (omega (arith, c.in_default.ensures.cases, c.loop-number.owners.ok.0)) in
    let no_pushed : sum_by (λ (o : One). sum_by f (worker_view o.1).pushed) owners ≡ 0 = ap (sum_by (λ (o : One). sum_by f (worker_view o.1).pushed)) empty in
    let no_taken : sum_by (λ (o : One). taken_weight f (worker_view o.1)) owners ≡ 0 = ap (sum_by (λ (o : One). taken_weight f (worker_view o.1))) empty in
    let no_rows = rows_nothing f (hands_in c.args.pool) rows
    (λ k d lt. row_long names (get_or rows k d).items (inv.rows k d lt).deques ∙ names_long c.args.pool.stealers.items)
    (λ k lt. gone _ (ap (sum_by (λ (o : One). count_if k o.0)) empty) (inv.columns k lt)) in
    omega (arith, inv.weights f, no_pushed, no_taken, no_rows)
