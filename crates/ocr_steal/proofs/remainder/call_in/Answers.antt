use Rattle.std.proofs.Common.{◌≡◌, ◌∙◌, ◌<◌, All, ℕ, List, Vec, ap, arith, get_or, length, subst, sym}
use Rattle.std.proofs.lemmas.List.{get_or-set_other}
use Rattle.std.proofs.lemmas.List.Elements.{All-set, AllWithin-more_set}
use Rattle.crossbeam_deque.specs.Handles.{IsPassOf, view, worker_deque, worker_view}
use Rattle.std.specs.Global.{Global}
use Rattle.ocr_steal.specs.declared.account.Account.{Account}
use Rattle.ocr_steal.specs.Parts.{Known, Name}
use Rattle.ocr_steal.specs.Rest.{HasNothing, HasPart, IsRow, taken_weight}
use Rattle.ocr_steal.proofs.Columns.{at_lt, cleared, its_name, its_pass, joined_weight, other_column, row_kept, row_long, row_loses, rows_lose}
use Rattle.ocr_steal.proofs.Steps.{admits, merges}
use Rattle.ocr_steal.proofs.remainder.call_in.Goals as goal

row_at : (names : List Name) (rows : List (Vec Known Global)) (i : ℕ) (row : Vec Known Global) → i < length rows → row ≡ get_or rows i row → All (λ r. IsRow names r.items) rows → IsRow names row.items
row_at names rows i row lt at all = subst (λ (r : Vec Known Global). IsRow names r.items) (sym at) (all i row lt)

pub pass-requires : goal.pass-requires
pass-requires c = admits

pub exchange-pass-requires : goal.exchange-pass-requires
exchange-pass-requires c =
    let l = c.loop-index in
    let names = c.requires.rows.0 in
    let row = c.index_mut.result.now in
    let within : l.index < length l.rows.items = omega (arith, c.loop-index-test.true, c.len-index-end.ensures, l.invariant.long, l.rows.ok.0) in
    let is_row = row_at names l.rows.items l.index row within c.index_mut.ensures.value (l.invariant.rows names c.requires.rows.2) in
    omega (arith, at_lt names c.args.number _ c.requires.rows.1, row_long names row.items is_row.deques, row.ok.0)

pub absorb-requires-clause-table : goal.absorb-requires-clause-table
absorb-requires-clause-table c =
    let l = c.loop-index in
    let names = c.requires.rows.0 in
    let row = c.index_mut.result.now in
    let within : l.index < length l.rows.items = omega (arith, c.loop-index-test.true, c.len-index-end.ensures, l.invariant.long, l.rows.ok.0) in
    let is_row = row_at names l.rows.items l.index row within c.index_mut.ensures.value (l.invariant.rows names c.requires.rows.2) in
    subst (λ name. IsPassOf name c.exchange-pass.result) (sym l.invariant.deque)
    (its_pass names row.items c.args.number c.exchange-pass.result (worker_deque c.args.own) is_row c.requires.rows.1 c.exchange-pass.ensures.pass)

pub absorb-requires-clause-rule : goal.absorb-requires-clause-rule
absorb-requires-clause-rule c = merges _ (worker_view c.loop-index.own) _ (view c.exchange-pass.result) c.loop-index.invariant.port

pub loop-index-preserved : goal.loop-index-preserved
loop-index-preserved c =
    let l = c.loop-index in
    let inv = l.invariant in
    let k = c.args.number in
    let names = c.requires.rows.0 in
    let rows = l.rows.items in
    let row = c.index_mut.result.now in
    let at = c.index_mut.ensures.value in
    let pass = c.exchange-pass.result in
    let is = c.exchange-pass.ensures.pass in
    let after = c.exchange-pass.ensures.row in
    let guest = c.pass.result in
    let new = c.exchange-pass.new.row in
    let within : l.index < length rows = omega (arith, c.loop-index-test.true, c.len-index-end.ensures, inv.long, l.rows.ok.0) in
    let is_row = row_at names rows l.index row within at (inv.rows names c.requires.rows.2) in
    let there : k < length row.items = omega (arith, at_lt names k _ c.requires.rows.1, row_long names row.items is_row.deques) in
    let its : IsPassOf (worker_deque c.args.own) guest = subst (λ name. IsPassOf name guest) c.requires.own.0 c.pass.ensures.0 in
    let name = its_name names row.items k pass (worker_deque c.args.own) is_row.deques c.requires.rows.1 is in
    let none = ap (λ (v : Account). v.taken) c.pass.ensures.1 in
    let rule = c.absorb.ensures.rule in
    record {
      deque = c.absorb.ensures.same.0.0 ∙ inv.deque;
      port = c.absorb.ensures.same.0.2 ∙ inv.port;
      flavor = c.absorb.ensures.same.0.1 ∙ inv.flavor;
      pushed = ap (λ (v : Account). v.pushed) rule ∙ inv.pushed;
      long = inv.long;
      rest = λ j d low. get_or-set_other rows l.index j new d (λ e. omega arith) ∙ inv.rest j d (omega arith);
      parts = λ column.
          let first : row ≡ get_or c.args.rows.now.items l.index row = at ∙ inv.rest l.index row (omega arith) in
          let one : HasPart (view (get_or row.items k pass)) =
          subst (λ (r : Vec Known Global). (d : Known) → HasPart (view (get_or r.items k d))) (sym first) (column l.index row (omega (arith, c.loop-index-test.true, c.len-index-end.ensures, c.args.rows.now.ok.0))) pass in
          let mine : (view pass).parts ≡ 1 = ap (λ (p : Known). (view p).parts) is ∙ one in
          omega (arith, ap (λ (v : Account). v.parts) rule, mine, inv.parts column);
      weights = λ f.
          let less = row_loses f row.items new.items k pass guest there is after none in
          let fewer = rows_lose f rows l.index row new (taken_weight f (view pass)) within at less in
          let more = joined_weight f (worker_view l.own) (view pass) (worker_view c.absorb.new.self) rule in
          omega (arith, fewer, more, inv.weights f);
      rows = λ names' every.
          All-set (λ (r : Vec Known Global). IsRow names' r.items) rows l.index new
          (row_kept names' row.items new.items k pass guest (worker_deque c.args.own) is after name its (row_at names' rows l.index row within at (inv.rows names' every)))
          (inv.rows names' every);
      column = AllWithin-more_set rows l.index new within (λ (r : Vec Known Global). (d : Known) → HasNothing (view (get_or r.items k d))) inv.column
          (cleared row.items new.items k guest there after none);
      others = λ j apart. (
        (λ column. other_column HasPart rows l.index k j row new guest within at after apart ((inv.others j apart).0 column)),
        (λ column. other_column HasNothing rows l.index k j row new guest within at after apart ((inv.others j apart).1 column)),
      );
    }
