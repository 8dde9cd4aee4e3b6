use Rattle.std.proofs.Common.{◌<◌, ◌∙◌, ℕ, Bool, List, Option, length, sym, ap, arith}
use Rattle.std.proofs.lemmas.Result.{err_from_is_err_and}
use Rattle.ocr_program_tree.proofs.Rows.{list_within}
use Rattle.ocr_program_tree.specs.Argument.{plain_of}
use Rattle.ocr_program_tree.specs.Tree.{Arguments}
use Rattle.ocr_program_tree.specs.View.{name_of, arguments_of}
use Rattle.ocr_program_tree.specs.declared.argument.Argument.{Argument}
use Rattle.ocr_program_tree.specs.declared.argument.Argument.TheVariants as argument
use Rattle.ocr_program_tree.specs.declared.tree.CallName.{CallName}
use Rattle.ocr_program_tree.specs.declared.tree.Invoke.{size-Invoke}
use Rattle.ocr_program_check.specs.Checked.{arguments_rule}
use Rattle.ocr_program_check.specs.Names.{known_in, declared_in}
use Rattle.ocr_program_tree.specs.declared.rules.TheConstants.{MOST_PARAMETERS}
use Rattle.ocr_program_check.proofs.Arguments.{own_rule, passes, stops}
use Rattle.ocr_program_check.proofs.Stops.{same_stop}
use Rattle.ocr_program_check.proofs.names.Names.+expression.Goals as goal
use Rattle.ocr_program_check.proofs.names.Names.+expression.Goals.{arguments-in-Value+in_ok-expression-in-Value, arguments-in-List+in_ok-members-in-List, arguments-in-Name+in_ok-named-in-Name}

pub arguments-members-requires : goal.arguments-members-requires
arguments-members-requires t c =
    let smaller = list_within (size-Invoke c.args.call.now) c.in_ok-list.list.items c.loop-place.place c.index.result.now c.in-List.values
    c.in_ok-list.ensures.within (omega (arith, c.loop-place-test.true, c.len-place-end.ensures)) c.index.ensures c.in-List.is in
    (omega (arith, smaller, c.decreases), tt {0})

pub arguments-returns-in_err-members-in-List-clause-err : goal.arguments-returns-in_err-members-in-List-clause-err
arguments-returns-in_err-members-in-List-clause-err t c =
    let known : List ℕ → Bool = known_in c.args.self.now in
    let declared : List ℕ → Bool = declared_in c.args.self.now in
    let call : CallName = name_of c.args.call.now in
    let xs : List Argument = c.in_ok-list.list.items in
    let p = err_from_is_err_and c.from_residual-in_err-members-in-List.result c.from_residual-in_err-members-in-List.ensures.1 in
    rw (p.1, p.2) (stops known declared call c.loop-place.most c.loop-place.place xs c.index.result.now
    (arguments_rule known declared call MOST_PARAMETERS (arguments_of c.args.call.now)) c.args.self.now.function c.in_err-members-in-List.field-0.0
    (omega (arith, c.loop-place-test.true, c.len-place-end.ensures)) c.index.ensures
    (ap (λ (ys : Arguments). arguments_rule known declared call MOST_PARAMETERS ys) (sym c.in_ok-list.ensures.same) ∙ c.loop-place.invariant)
    (same_stop c.args.self.now.function (own_rule known declared call c.loop-place.most (argument.List c.in-List.values))
    (own_rule known declared call c.loop-place.most c.index.result.now) c.in_err-members-in-List.field-0.0
    (ap (own_rule known declared call c.loop-place.most) c.in-List.is) c.in_err-members-in-List.ensures.err))

pub arguments-loop-place-preserved : goal.arguments-loop-place-preserved
arguments-loop-place-preserved t c =
    let known : List ℕ → Bool = known_in c.args.self.now in
    let declared : List ℕ → Bool = declared_in c.args.self.now in
    let call : CallName = name_of c.args.call.now in
    let xs : List Argument = c.in_ok-list.list.items in
    let whole : Option ℕ = arguments_rule known declared call MOST_PARAMETERS (plain_of xs) in
    let inside : c.loop-place.place < length xs = omega (arith, c.loop-place-test.true, c.len-place-end.ensures) in
    elim c.match-index.branch [
      | arguments-in-Value+in_ok-expression-in-Value w ↦ passes known declared call c.loop-place.most c.match-index.most c.loop-place.place xs
          c.index.result.now (argument.Value w.in-Value.value) whole inside c.index.ensures w.in-Value.is w.most-is c.loop-place.invariant
          w.in_ok-expression-in-Value.ensures.ok
      | arguments-in-List+in_ok-members-in-List w ↦ passes known declared call c.loop-place.most c.match-index.most c.loop-place.place xs
          c.index.result.now (argument.List w.in-List.values) whole inside c.index.ensures w.in-List.is w.most-is c.loop-place.invariant
          w.in_ok-members-in-List.ensures.ok
      | arguments-in-Name+in_ok-named-in-Name w ↦ passes known declared call c.loop-place.most c.match-index.most c.loop-place.place xs
          c.index.result.now (argument.Name w.in-Name.name) whole inside c.index.ensures w.in-Name.is w.most-is c.loop-place.invariant
          (ap (λ (n : CallName). own_rule known declared n c.loop-place.most (argument.Name w.in-Name.name)) (sym w.name.ensures)
          ∙ w.in_ok-named-in-Name.ensures.ok)
    ]
