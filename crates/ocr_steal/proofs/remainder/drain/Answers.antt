use Rattle.std.proofs.Common.{◌∙◌, [], ◌∷◌, length, ap, arith}
use Rattle.std.proofs.lemmas.List.{length-append}
use Rattle.std.specs.List.{sum_by}
use Rattle.crossbeam_deque.specs.Handles.{worker_view}
use Rattle.ocr_steal.specs.Deque.{numbered}
use Rattle.ocr_steal.proofs.Steps.{takes_own}
use Rattle.ocr_steal.proofs.Wholes.{all_taken, some_left}
use Rattle.ocr_steal.proofs.remainder.drain.Goals as goal

pub pop_as-requires-clause-fifo : goal.pop_as-requires-clause-fifo
pop_as-requires-clause-fifo c _ =
    let lone = c.loop-edt.invariant.lone in
    takes_own _ (worker_view c.loop-edt.own) lone.port (omega (arith, lone.parts))

pub loop-edt-smaller : goal.loop-edt-smaller
loop-edt-smaller c =
    let v = worker_view c.loop-edt.own in
    let w = worker_view c.pop_as.new.self in
    let rule = c.in-Some.ensures.rule in
    let more = some_left v w c.in-Some.edt rule c.loop-edt.invariant.lone.parts in
    let pushed = ap (λ a. length a.pushed) rule.then_knows in
    let taken = ap (λ a. length a.taken) rule.then_knows ∙ length-append v.taken (numbered (length rule.found.gone) (c.in-Some.edt ∷ [])) in
    omega (arith, more, pushed, taken)

pub returns : goal.returns
returns c f =
    let l = c.loop-edt in
    let all = all_taken (worker_view l.own) c.in_default.ensures.rule.1 l.invariant.lone.parts f in
    omega (arith, l.invariant.weights f, all, ap (sum_by f) l.invariant.pushed)
