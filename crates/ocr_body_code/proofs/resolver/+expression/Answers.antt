use Rattle.std.proofs.Common.{◌≡◌, ◌<◌, ◌-◌, ℕ, List, ap, sym, subst, ◌∙◌, length, drop, get_or, arith}
use Rattle.ocr_program_tree.specs.Argument.{plain_of}
use Rattle.ocr_program_tree.specs.Tree as tree
use Rattle.ocr_program_tree.specs.Tree.{Arguments}
use Rattle.ocr_program_tree.specs.View.{expression_of, name_of, arguments_of, members_of}
use Rattle.ocr_program_tree.specs.declared.argument.Argument.{Argument}
use Rattle.ocr_program_tree.specs.declared.argument.Argument.TheVariants as argument
use Rattle.ocr_program_tree.specs.declared.tree.Invoke.{size-Invoke}
use Rattle.ocr_program_tree.proofs.Rows.{list_within}
use Rattle.ocr_body_code.specs.Resolved.{Grew, numbers_of}
use Rattle.ocr_body_code.proofs.Calls.{value_is, load_is, store_is, arguments_as, member_more, argument_more}
use Rattle.ocr_body_code.proofs.Names.{binary_is, joined_is, grew_twice}
use Rattle.ocr_body_code.proofs.resolver.+expression.Goals as goal
use Rattle.ocr_body_code.proofs.resolver.+expression.Goals.{coded-in-Value+in_ok-args-in-Value, coded-in-List+in_ok-inner-in-List+in_ok-args-in-List, coded-in-Name+in_ok-args-in-Name}

pub expression-returns-in_ok-right-in-Binary-2-clause-ok : goal.expression-returns-in_ok-right-in-Binary-2-clause-ok
expression-returns-in_ok-right-in-Binary-2-clause-ok t c =
    let first : c.deref-in-Binary.result.now ≡ c.in-Binary.left.value = cc in
    let second : c.deref-in-Binary-2.result.now ≡ c.in-Binary.right.value = cc in
    let is : expression_of c.args.expr.now ≡ tree.Binary c.in-Binary.op (expression_of c.deref-in-Binary.result.now) (expression_of c.deref-in-Binary-2.result.now) =
    ap expression_of c.in-Binary.is ∙ sym (λ i. tree.Binary c.in-Binary.op (expression_of (first i)) (expression_of (second i))) in
    joined_is _ _ _ _ _ c.joined.ensures.placed c.joined.ensures.same (binary_is (numbers_of c.args.numbers.now) c.expression-in-Binary.new.names c.expression-in-Binary-2.new.names c.in-Binary.op c.in_ok-left-in-Binary-2.left c.in_ok-right-in-Binary-2.right
    c.in_ok-left-in-Binary.left c.in_ok-right-in-Binary.right _ _ _ c.in_ok-right-in-Binary.ensures.grew c.in_ok-left-in-Binary.ensures.ok c.in_ok-right-in-Binary.ensures.ok
    c.in_ok-left-in-Binary-2.ensures c.in_ok-right-in-Binary-2.ensures is)

pub members-loop-i-preserved : goal.members-loop-i-preserved
members-loop-i-preserved t c =
    record {
      grew = grew_twice _ _ _ c.loop-i.invariant.grew c.in_ok-args.ensures.grew;
      done = member_more (numbers_of c.args.numbers.now) c.value.new.names c.in_ok-args.args c.args.exprs.now c.loop-i.i c.index-exprs-exprs.result (omega arith) c.index-exprs-exprs.is
          (c.in_ok-args.ensures.ok (members_of (drop (length c.args.exprs.now - c.loop-i.i) c.args.exprs.now)) c.loop-i.invariant.done);
    }

pub value-returns-clause-ok : goal.value-returns-clause-ok
value-returns-clause-ok t c = λ xs before.
    value_is (numbers_of c.args.numbers.now) c.args.names.now c.expression.new.names c.in_ok-node-2.node c.in_ok-rest.rest c.in_ok-node.node c.args.rest (expression_of c.args.expr.now) xs
    c.in_ok-node.ensures.grew c.in_ok-node.ensures.ok before c.in_ok-node-2.ensures c.in_ok-rest.ensures

pub coded-members-requires : goal.coded-members-requires
coded-members-requires t c =
    let smaller = list_within (size-Invoke c.args.made.now) c.in_ok-arguments.arguments.items ((c.len.result - 1) - c.loop-i.i) c.index.result.now c.in-List.exprs
    c.in_ok-arguments.ensures.within (omega (arith, c.loop-i-test.true, c.len-i-end.ensures, c.len.ensures)) c.index.ensures c.in-List.is in
    omega (arith, smaller, c.decreases)

pub coded-loop-i-preserved : goal.coded-loop-i-preserved
coded-loop-i-preserved t c =
    let numbers : List ℕ → ℕ = numbers_of c.args.numbers.now in
    let xs : List Argument = c.in_ok-arguments.arguments.items in
    let rest : Arguments = plain_of (drop (length xs - c.loop-i.i) xs) in
    let less : c.loop-i.i < length xs = omega (arith, c.loop-i-test.true, c.len-i-end.ensures) in
    let many : c.len.result ≡ length xs = omega (arith, c.len.ensures) in
    let at : c.index.result.now ≡ get_or xs ((length xs - 1) - c.loop-i.i) c.index.result.now =
    c.index.ensures ∙ ap (λ (n : ℕ). get_or xs ((n - 1) - c.loop-i.i) c.index.result.now) many in
    elim c.match-index.branch [
      | coded-in-Value+in_ok-args-in-Value w ↦
          let names : c.match-index.names ≡ w.value.new.names = w.names-is in
          record {
            grew = subst (Grew c.args.names.now) (sym names) (grew_twice _ _ _ c.loop-i.invariant.grew w.in_ok-args-in-Value.ensures.grew);
            done = arguments_as numbers _ _ _ _ _ names w.args-is (argument_more numbers w.value.new.names w.in_ok-args-in-Value.args xs c.loop-i.i c.index.result.now
                (argument.Value w.in-Value.expr) less at w.in-Value.is (w.in_ok-args-in-Value.ensures.ok rest c.loop-i.invariant.done));
          }
      | coded-in-List+in_ok-inner-in-List+in_ok-args-in-List w ↦
          let names : c.match-index.names ≡ w.members.new.names = w.names-is in
          record {
            grew = subst (Grew c.args.names.now) (sym names) (grew_twice _ _ _ c.loop-i.invariant.grew w.in_ok-inner-in-List.ensures.grew);
            done = arguments_as numbers _ _ _ _ _ names w.args-is (argument_more numbers w.members.new.names w.in_ok-args-in-List.args xs c.loop-i.i c.index.result.now
                (argument.List w.in-List.exprs) less at w.in-List.is (w.in_ok-args-in-List.ensures numbers c.loop-i.names w.members.new.names (members_of w.in-List.exprs.now) rest
                w.in_ok-inner-in-List.ensures.grew w.in_ok-inner-in-List.ensures.ok c.loop-i.invariant.done));
          }
      | coded-in-Name+in_ok-args-in-Name w ↦
          let names : c.match-index.names ≡ w.named.new.names = w.names-is in
          record {
            grew = subst (Grew c.args.names.now) (sym names) (grew_twice _ _ _ c.loop-i.invariant.grew w.in_ok-args-in-Name.ensures.grew);
            done = arguments_as numbers _ _ _ _ _ names w.args-is (argument_more numbers w.named.new.names w.in_ok-args-in-Name.args xs c.loop-i.i c.index.result.now
                (argument.Name w.in-Name.name) less at w.in-Name.is (w.in_ok-args-in-Name.ensures.ok rest c.loop-i.invariant.done));
          }
    ]

pub invocation-returns-in-Load-clause-ok : goal.invocation-returns-in-Load-clause-ok
invocation-returns-in-Load-clause-ok t c =
    let block = expression_of c.deref.result.now in
    let word = expression_of c.deref-in-Load.result.now in
    let view : arguments_of c.args.made.now ≡ tree.value block (tree.value word tree.empty) =
    ap arguments_of c.in-Load.is ∙ sym (λ i. tree.value (expression_of (c.deref.ensures i)) (tree.value (expression_of (c.deref-in-Load.ensures i)) tree.empty)) in
    let is = load_is (numbers_of c.args.numbers.now) c.expression.new.names c.expression-in-Load.new.names c.in_ok-block-2.block c.in_ok-word-2.word c.in_ok-block.block c.in_ok-word.word block word
    c.in_ok-word.ensures.grew c.in_ok-block.ensures.ok c.in_ok-word.ensures.ok c.in_ok-block-2.ensures c.in_ok-word-2.ensures in
    record { placed = is.placed; named = is.named ∙ sym (ap name_of c.in-Load.is); same = is.same ∙ sym view }

pub invocation-returns-in-Store : goal.invocation-returns-in-Store
invocation-returns-in-Store t c =
    let block = expression_of c.deref-in-Store.result.now in
    let word = expression_of c.deref-in-Store-2.result.now in
    let value = expression_of c.deref-in-Store-3.result.now in
    let view : arguments_of c.args.made.now ≡ tree.value block (tree.value word (tree.value value tree.empty)) =
    ap arguments_of c.in-Store.is ∙ sym (λ i. tree.value (expression_of (c.deref-in-Store.ensures i)) (tree.value (expression_of (c.deref-in-Store-2.ensures i)) (tree.value (expression_of (c.deref-in-Store-3.ensures i)) tree.empty))) in
    let later = grew_twice c.expression-in-Store.new.names c.expression-in-Store-2.new.names c.expression-in-Store-3.new.names c.in_ok-word-3.ensures.grew c.in_ok-value.ensures.grew in
    let is = store_is (numbers_of c.args.numbers.now) c.expression-in-Store.new.names c.expression-in-Store-2.new.names c.expression-in-Store-3.new.names c.in_ok-block-4.block c.in_ok-word-4.word c.in_ok-value-2.value
    c.in_ok-block-3.block c.in_ok-word-3.word c.in_ok-value.value block word value later c.in_ok-value.ensures.grew c.in_ok-block-3.ensures.ok c.in_ok-word-3.ensures.ok c.in_ok-value.ensures.ok
    c.in_ok-block-4.ensures c.in_ok-word-4.ensures c.in_ok-value-2.ensures in
    record {
      grew = grew_twice c.args.names.now c.expression-in-Store.new.names c.expression-in-Store-3.new.names c.in_ok-block-3.ensures.grew later;
      ok = record { placed = is.placed; named = is.named ∙ sym (ap name_of c.in-Store.is); same = is.same ∙ sym view };
    }
