use Rattle.std.proofs.Common.{◌≡◌, ◌∙◌, ap, sym, refl, Option, Some, None, [], get_or, slice_set, arith}
use Rattle.ocr_body_code.specs.Checked.{checked_tree}
use Rattle.std.specs.List.{position}
use Rattle.ocr_body_meaning.specs.Holds.{Hold, store_of}
use Rattle.ocr_tests_body.specs.Served.{lent_hold}
use Rattle.ocr_bench_body.specs.Loans.{begun_hold, held_in}
use Rattle.ocr_bench_body.specs.declared.loans.Held.{Held}
use Rattle.ocr_bench_body.proofs.Lends.{is_of, found, not_held_store, store_done, store_held, access_refused, still_isolated, begun_alike, replaced, kept}
use Rattle.ocr_bench_body.proofs.loans.LendingApi.store.Goals as goal

pub returns-in_default-clause-refused : goal.returns-in_default-clause-refused
returns-in_default-clause-refused c =
    let none : position (is_of c.args.block) c.args.self.now.held.items ≡ None =
    ap (position (is_of c.args.block)) (sym c.deref.ensures.value) ∙ sym c.place_of.ensures ∙ c.in_default.is in
    not_held_store c.args.block c.args.word c.args.self.now.held.items _ none

pub returns-clause-serves : goal.returns-clause-serves
returns-clause-serves c =
    let at : position (is_of c.args.block) c.args.self.now.held.items ≡ Some c.in-Some.place =
    ap (position (is_of c.args.block)) (sym c.deref.ensures.value) ∙ sym c.place_of.ensures ∙ c.in-Some.is in
    let is : c.index_mut.result.now ≡ get_or c.args.self.now.held.items c.in-Some.place c.index_mut.result.now = c.index_mut.ensures.value in
    let y : Held = record { block = c.index_mut.result.now.block; loan = c.store_lent.new.lent } in
    let same : held_in begun_hold (slice_set c.args.self.now.held.items c.in-Some.place y) ≡ held_in begun_hold c.args.self.now.held.items =
    kept begun_hold c.args.self.now.held.items c.in-Some.place c.index_mut.result.now y (ap (λ (h : Held). h.block) is)
    (begun_alike c.store_lent.new.lent c.index_mut.result.now.loan c.store_lent.ensures.mode c.store_lent.ensures.began ∙ ap (λ (h : Held). begun_hold h.loan) is) in
    record {
      ready = still_isolated c.args.self.now.held.items c.args.block c.in-Some.place c.index_mut.result.now y c.requires.ready at is c.store_lent.ensures.mode;
      serves = λ j. record { program = checked_tree c.args.self.now.program.now; function = 1; params = []; depv = c.args.self.now.deps.now; holds = same j; fuel = c.args.self.now.fuel };
      kept = refl;
      later = omega arith;
    }

pub returns-clause-ok : goal.returns-clause-ok
returns-clause-ok c =
    let at : position (is_of c.args.block) c.args.self.now.held.items ≡ Some c.in-Some.place =
    ap (position (is_of c.args.block)) (sym c.deref.ensures.value) ∙ sym c.place_of.ensures ∙ c.in-Some.is in
    let is : c.index_mut.result.now ≡ get_or c.args.self.now.held.items c.in-Some.place c.index_mut.result.now = c.index_mut.ensures.value in
    store_done _ _ _ c.store_lent.result (ap (λ (h : Option Hold). store_of h c.args.word) (found lent_hold c.args.block c.args.self.now.held.items c.in-Some.place c.index_mut.result.now at is)) c.store_lent.ensures.ok

pub returns-clause-holds : goal.returns-clause-holds
returns-clause-holds c =
    let at : position (is_of c.args.block) c.args.self.now.held.items ≡ Some c.in-Some.place =
    ap (position (is_of c.args.block)) (sym c.deref.ensures.value) ∙ sym c.place_of.ensures ∙ c.in-Some.is in
    let is : c.index_mut.result.now ≡ get_or c.args.self.now.held.items c.in-Some.place c.index_mut.result.now = c.index_mut.ensures.value in
    let y : Held = record { block = c.index_mut.result.now.block; loan = c.store_lent.new.lent } in
    store_held c.args.block c.args.word c.args.value (lent_hold c.store_lent.new.lent) (lent_hold c.index_mut.result.now.loan) (held_in lent_hold c.args.self.now.held.items) _ c.store_lent.result
    (found lent_hold c.args.block c.args.self.now.held.items c.in-Some.place c.index_mut.result.now at is)
    (replaced lent_hold c.args.block c.args.self.now.held.items c.in-Some.place c.index_mut.result.now y at is refl)
    c.store_lent.ensures.ok c.store_lent.ensures.held

pub returns-clause-refused : goal.returns-clause-refused
returns-clause-refused c =
    let at : position (is_of c.args.block) c.args.self.now.held.items ≡ Some c.in-Some.place =
    ap (position (is_of c.args.block)) (sym c.deref.ensures.value) ∙ sym c.place_of.ensures ∙ c.in-Some.is in
    let is : c.index_mut.result.now ≡ get_or c.args.self.now.held.items c.in-Some.place c.index_mut.result.now = c.index_mut.ensures.value in
    access_refused _ _ _ _ c.store_lent.result (ap (λ (h : Option Hold). store_of h c.args.word) (found lent_hold c.args.block c.args.self.now.held.items c.in-Some.place c.index_mut.result.now at is)) c.store_lent.ensures.err
