use Rattle.std.proofs.Common.{◌∙◌, length, reverse, sym, subst, arith}
use Rattle.ocr_machine_parts.specs.Legal.{IsCreating}
use Rattle.ocr_worker_machine.specs.Clerks.{Knows, OcrView, of_terms}
use Rattle.ocr_worker_access.specs.Calls.{makes_scope}
use Rattle.ocr_worker_calls.specs.Calls.{DrewIf}
use Rattle.ocr_worker_calls.proofs.Drawn.{count_output, count_scope, drew_all, drew_length, first_length, knows_drawn, knows_if}
use Rattle.ocr_worker_calls.proofs.answer.draw_all.Goals as goal

pub draw_if-requires-clause-few : goal.draw_if-requires-clause-few
draw_if-requires-clause-few g c =
    let one = first_length c.args.clerk.now.view c.draw_number.new.clerk.view c.in_ok-value.value c.requires.unused c.in_ok-value.ensures.number.2 in
    λ is. (let more = count_scope c.args.call.now (sym c.makes_scope.ensures ∙ is) in omega (arith, one, more))

pub draw_if-requires-clause-creating : goal.draw_if-requires-clause-creating
draw_if-requires-clause-creating g c =
    let t = c.args.job.now.turns.now.1 in
    subst (λ (v : OcrView). Knows t v (λ J. IsCreating (of_terms t) (reverse J) c.args.edt c.args.call.now)) (sym c.in_ok-value.ensures.number.2)
    (knows_drawn t c.args.clerk.now.view c.in_ok-value.value (λ J. IsCreating (of_terms t) (reverse J) c.args.edt c.args.call.now) c.requires.creating)

pub draw_if-requires-2-clause-few : goal.draw_if-requires-2-clause-few
draw_if-requires-2-clause-few g c =
    let L = c.args.job.now.turns.now.1.limit in let call = c.args.call.now in
    let one = first_length c.args.clerk.now.view c.draw_number.new.clerk.view c.in_ok-value.value c.requires.unused c.in_ok-value.ensures.number.2 in
    let two = drew_length (makes_scope call) L c.draw_number.new.clerk c.draw_if.new.clerk c.in_ok-scope.scope
    (subst (λ b. DrewIf b L c.draw_number.new.clerk c.draw_if.new.clerk c.in_ok-scope.scope) c.makes_scope.ensures c.in_ok-scope.ensures.drew) in
    λ is. count_output call (length c.draw_if.new.clerk.view.drawn) (omega (arith, one, two)) (sym c.makes_output.ensures ∙ is)

pub draw_if-requires-2-clause-creating : goal.draw_if-requires-2-clause-creating
draw_if-requires-2-clause-creating g c =
    let t = c.args.job.now.turns.now.1 in
    knows_if t c.makes_scope.result t.limit c.draw_number.new.clerk c.draw_if.new.clerk c.in_ok-scope.scope (λ J. IsCreating (of_terms t) (reverse J) c.args.edt c.args.call.now) c.in_ok-scope.ensures.drew
    (subst (λ (v : OcrView). Knows t v (λ J. IsCreating (of_terms t) (reverse J) c.args.edt c.args.call.now)) (sym c.in_ok-value.ensures.number.2)
    (knows_drawn t c.args.clerk.now.view c.in_ok-value.value (λ J. IsCreating (of_terms t) (reverse J) c.args.edt c.args.call.now) c.requires.creating))

pub returns-clause-drew : goal.returns-clause-drew
returns-clause-drew g c =
    let L = c.args.job.now.turns.now.1.limit in let e = c.in_ok-value.ensures in
    drew_all L c.args.call.now c.args.code c.args.clerk.now c.draw_number.new.clerk c.draw_if.new.clerk c.draw_if-2.new.clerk c.in_ok-value.value c.in_ok-scope.scope c.in_ok-output.output
    c.requires.makes c.requires.unused (e.number.0, e.number.1) e.number.2 e.hand.0 e.hand.1
    (subst (λ b. DrewIf b L c.draw_number.new.clerk c.draw_if.new.clerk c.in_ok-scope.scope) c.makes_scope.ensures c.in_ok-scope.ensures.drew)
    (subst (λ b. DrewIf b L c.draw_if.new.clerk c.draw_if-2.new.clerk c.in_ok-output.output) c.makes_output.ensures c.in_ok-output.ensures.drew)
