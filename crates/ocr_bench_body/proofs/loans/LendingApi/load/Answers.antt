use Rattle.std.proofs.Common.{◌≡◌, ◌∙◌, ap, sym, refl, Option, Some, None, get_or}
use Rattle.std.specs.List.{position}
use Rattle.ocr_body_meaning.specs.Holds.{Hold, load_of}
use Rattle.ocr_tests_body.specs.Served.{lent_hold}
use Rattle.ocr_bench_body.proofs.Lends.{is_of, found, not_held_load, load_done, access_refused}
use Rattle.ocr_bench_body.proofs.loans.LendingApi.load.Goals as goal

pub returns-in_default-clause-refused : goal.returns-in_default-clause-refused
returns-in_default-clause-refused c =
    let none : position (is_of c.args.block) c.args.self.now.held.items ≡ None =
    ap (position (is_of c.args.block)) (sym c.deref.ensures.value) ∙ sym c.place_of.ensures ∙ c.in_default.is in
    not_held_load c.args.block c.args.word c.args.self.now.held.items _ none

pub returns-clause-ok : goal.returns-clause-ok
returns-clause-ok c =
    let at : position (is_of c.args.block) c.args.self.now.held.items ≡ Some c.in-Some.place =
    ap (position (is_of c.args.block)) (sym c.deref.ensures.value) ∙ sym c.place_of.ensures ∙ c.in-Some.is in
    let is : c.index.result.now ≡ get_or c.args.self.now.held.items c.in-Some.place c.index.result.now = c.index.ensures in
    load_done _ _ _ _ _ c.load_lent.result (ap (λ (h : Option Hold). load_of h c.args.word) (found lent_hold c.args.block c.args.self.now.held.items c.in-Some.place c.index.result.now at is)) refl c.load_lent.ensures.ok

pub returns-clause-refused : goal.returns-clause-refused
returns-clause-refused c =
    let at : position (is_of c.args.block) c.args.self.now.held.items ≡ Some c.in-Some.place =
    ap (position (is_of c.args.block)) (sym c.deref.ensures.value) ∙ sym c.place_of.ensures ∙ c.in-Some.is in
    let is : c.index.result.now ≡ get_or c.args.self.now.held.items c.in-Some.place c.index.result.now = c.index.ensures in
    access_refused _ _ _ _ c.load_lent.result (ap (λ (h : Option Hold). load_of h c.args.word) (found lent_hold c.args.block c.args.self.now.held.items c.in-Some.place c.index.result.now at is)) c.load_lent.ensures.err
