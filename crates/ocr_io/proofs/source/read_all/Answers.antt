use Rattle.std.proofs.Common.{◌+◌, ◌≤◌, length, take, refl, arith}
use Rattle.std.proofs.lemmas.Grind.{common_steps}
use Rattle.std.proofs.lemmas.Result.{err_from_is_err_and}
use Rattle.ocr_io.proofs.Taken.{took_more}
use Rattle.ocr_io.proofs.source.read_all.Goals as goal

pub returns-in-Ok-clause-too_big : goal.returns-in-Ok-clause-too_big
returns-in-Ok-clause-too_big g c = λ _.
    let asked : c.in-Ok.count ≤ c.min-wanted.result = grind (arith, common_steps, c.in-Ok.ensures.bound) in
    took_more _ _ _ _ _ _ c.loop-bytes.bytes.items (take c.in-Ok.count c.read.new.buf) c.in-Ok.count (c.args.most + 1)
    c.loop-bytes.invariant.consumed c.in-Ok.ensures.bytes.0 c.loop-bytes.invariant.given c.in-Ok.ensures.given c.in-Ok.ensures.bound.1 (omega arith)

pub returns-in_err-extend_from_slice-in-Ok-2-clause-stopped : goal.returns-in_err-extend_from_slice-in-Ok-2-clause-stopped
returns-in_err-extend_from_slice-in-Ok-2-clause-stopped g c =
    let count = c.in-Ok-2.count in
    let small : length c.loop-bytes.bytes.items + count ≤ c.args.most = omega arith in
    let p = err_from_is_err_and c.from_residual.result c.from_residual.ensures.1 in
    rw p.1 (λ _. (
      length c.loop-bytes.bytes.items + count,
      small,
      took_more _ _ _ _ _ _ c.loop-bytes.bytes.items (take count c.read.new.buf) count _
          c.loop-bytes.invariant.consumed c.in-Ok-2.ensures.bytes.0 c.loop-bytes.invariant.given c.in-Ok-2.ensures.given c.in-Ok-2.ensures.bound.1 refl,
    ))
