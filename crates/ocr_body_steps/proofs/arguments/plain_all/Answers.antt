use Rattle.std.proofs.Common.{arith, ◌≡◌, ◌<◌, ◌∙◌, ap, sym, ℕ, List}
use Rattle.ocr_program_tree.specs.Tree as tree
use Rattle.ocr_program_tree.specs.Tree.{Arguments, names_in}
use Rattle.ocr_body_code.specs.Code.{name_at, arguments_at, expression_at, is_placed, is_name_placed, are_args_placed}
use Rattle.ocr_body_code.specs.declared.code.ArgCode.{ArgCode}
use Rattle.ocr_body_code.proofs.Sides.{first_of, second_of}
use Rattle.ocr_body_steps.specs.Given.{given_of}
use Rattle.ocr_body_steps.specs.Local.{frame_of, numbers_of, value_in}
use Rattle.ocr_body_steps.proofs.Gone.{name_goes, value_goes, list_goes, all_gone, seeks_on, seeks_name, all_sought}
use Rattle.ocr_body_steps.proofs.arguments.plain_all.Goals as goal

pub returns-in-End-clause-found : goal.returns-in-End-clause-found
returns-in-End-clause-found c = λ some.
    let names = c.args.frame.now.names.now in
    all_gone (frame_of c.args.frame.now) c.args.local.now.code (λ y. value_in names c.args.local.now.values.items y) (arguments_at names c.args.args.now) (arguments_at names c.loop-args.args.now)
    c.args.fuel c.loop-args.left (given_of c.args.given.now) (given_of c.loop-args.given) c.loop-args.invariant.goes (ap (arguments_at names) c.in-End.is)

pub returns-in-End-clause-first : goal.returns-in-End-clause-first
returns-in-End-clause-first c = λ some.
    let names = c.args.frame.now.names.now in
    all_sought (numbers_of c.args.frame.now) names (names_in (arguments_at names c.args.args.now)) (names_in (arguments_at names c.loop-args.args.now)) c.loop-args.named
    (ap (λ (xs : ArgCode). names_in (arguments_at names xs)) c.in-End.is) c.loop-args.invariant.seeks

pub loop-args-preserved-in-Name : goal.loop-args-preserved-in-Name
loop-args-preserved-in-Name c =
    let names = c.args.frame.now.names.now in
    let numbers = numbers_of c.args.frame.now in
    let rest : Arguments = arguments_at names c.deref-args.result.now in
    let x : List ℕ = name_at names c.in-Name.name.place in
    let is : arguments_at names c.loop-args.args.now ≡ tree.named x rest =
    ap (arguments_at names) c.in-Name.is ∙ (λ i. tree.named x (arguments_at names (sym c.deref-args.ensures i))) in
    let placed = sym (ap (are_args_placed numbers names) c.in-Name.is) ∙ c.loop-args.invariant.placed in
    record {
      placed = ap (are_args_placed numbers names) c.deref-args.ensures
          ∙ second_of (is_name_placed numbers names c.in-Name.name) (are_args_placed numbers names c.in-Name.rest.value) placed;
      seeks = seeks_name numbers names (names_in (arguments_at names c.args.args.now)) (names_in (arguments_at names c.loop-args.args.now)) (names_in rest) c.in-Name.name c.loop-args.named c.first-named.result
          (ap names_in is) (first_of (is_name_placed numbers names c.in-Name.name) (are_args_placed numbers names c.in-Name.rest.value) placed) c.first-named.ensures.some c.first-named.ensures.none c.loop-args.invariant.seeks;
      less = c.loop-args.invariant.less;
      goes = name_goes (frame_of c.args.frame.now) c.args.local.now.code (λ y. value_in names c.args.local.now.values.items y) (arguments_at names c.args.args.now) (arguments_at names c.loop-args.args.now) rest
          c.args.fuel c.loop-args.left (given_of c.args.given.now) (given_of c.loop-args.given) x c.loop-args.invariant.goes is;
    }

pub loop-args-preserved-in-Value : goal.loop-args-preserved-in-Value
loop-args-preserved-in-Value c =
    let names = c.args.frame.now.names.now in
    let numbers = numbers_of c.args.frame.now in
    let rest : Arguments = arguments_at names c.deref-args-in-Value.result.now in
    let e = expression_at names c.deref.result.now in
    let some : c.operand-found.result.left < 18446744073709551615 = omega (arith, c.if-found.false, c.operand-found.type_inv) in
    let is : arguments_at names c.loop-args.args.now ≡ tree.value e rest =
    ap (arguments_at names) c.in-Value.is ∙ (λ i. tree.value (expression_at names (sym c.deref.ensures i)) (arguments_at names (sym c.deref-args-in-Value.ensures i))) in
    record {
      placed = ap (are_args_placed numbers names) c.deref-args-in-Value.ensures
          ∙ second_of (is_placed numbers names c.in-Value.value.value) (are_args_placed numbers names c.in-Value.rest.value) (sym (ap (are_args_placed numbers names) c.in-Value.is) ∙ c.loop-args.invariant.placed);
      less = omega (arith, c.operand-found.ensures.less some, c.loop-args.invariant.less);
      seeks = seeks_on numbers names (names_in (arguments_at names c.args.args.now)) (names_in (arguments_at names c.loop-args.args.now)) (names_in rest) c.loop-args.named (ap names_in is) c.loop-args.invariant.seeks;
      goes = value_goes (frame_of c.args.frame.now) c.args.local.now.code (λ y. value_in names c.args.local.now.values.items y) (arguments_at names c.args.args.now) (arguments_at names c.loop-args.args.now) rest
          c.args.fuel c.loop-args.left c.operand-found.result.left (given_of c.args.given.now) (given_of c.loop-args.given) (given_of c.add_value.new.self) e c.operand-found.result.value
          c.loop-args.invariant.goes is (c.operand-found.ensures.found some) c.in-Ok.ensures;
    }

pub loop-args-preserved : goal.loop-args-preserved
loop-args-preserved c =
    let names = c.args.frame.now.names.now in
    let numbers = numbers_of c.args.frame.now in
    let rest : Arguments = arguments_at names c.deref-args-in-List.result.now in
    let es : Arguments = arguments_at names c.deref-in-List.result.now in
    let some : c.plain_list-left.result < 18446744073709551615 = omega (arith, c.if-left.false, c.plain_list-left.type_inv) in
    let is : arguments_at names c.loop-args.args.now ≡ tree.list es rest =
    ap (arguments_at names) c.in-List.is ∙ (λ i. tree.list (arguments_at names (sym c.deref-in-List.ensures i)) (arguments_at names (sym c.deref-args-in-List.ensures i))) in
    let found = c.plain_list-left.ensures.found some in
    record {
      placed = ap (are_args_placed numbers names) c.deref-args-in-List.ensures
          ∙ second_of (are_args_placed numbers names c.in-List.list.value) (are_args_placed numbers names c.in-List.rest.value) (sym (ap (are_args_placed numbers names) c.in-List.is) ∙ c.loop-args.invariant.placed);
      less = omega (arith, c.plain_list-left.ensures.less some, c.loop-args.invariant.less);
      seeks = seeks_on numbers names (names_in (arguments_at names c.args.args.now)) (names_in (arguments_at names c.loop-args.args.now)) (names_in rest) c.loop-args.named (ap names_in is) c.loop-args.invariant.seeks;
      goes = list_goes (frame_of c.args.frame.now) c.args.local.now.code (λ y. value_in names c.args.local.now.values.items y) (arguments_at names c.args.args.now) (arguments_at names c.loop-args.args.now) es rest
          c.args.fuel c.loop-args.left c.plain_list-left.result (given_of c.args.given.now) (given_of c.loop-args.given) (given_of c.plain_list-left.new.given) found.0
          c.loop-args.invariant.goes is found.2 found.1;
    }
