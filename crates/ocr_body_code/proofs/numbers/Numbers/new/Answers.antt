use Rattle.std.proofs.Common.{◌<◌, ◌+◌, ◌-◌, length, ap, sym, ◌∙◌, arith}
use Rattle.ocr_program_tree.specs.declared.tree.Function.{Function}
use Rattle.ocr_body_code.proofs.Indexes.{function_entered, where_ok}
use Rattle.ocr_body_code.proofs.numbers.Numbers.new.Goals as goal

pub loop-i-preserved : goal.loop-i-preserved
loop-i-preserved c =
    let less : c.loop-i.i < length c.args.functions.now = omega (arith, c.loop-i-test.true) in
    function_entered c.args.functions.now c.loop-i.by_name c.insert.new.self c.as_bytes-name.result c.loop-i.i (length c.args.functions.now - c.loop-i.i) c.index-functions-number.result
    (length c.args.functions.now + 1) (where_ok c.insert.result (sym c.is_err.ensures.value ∙ c.if-is_err.false) c.insert.ensures.updates) less (omega arith) c.index-functions-number.is
    (c.as_bytes-name.ensures ∙ ap (λ (f : Function). f.name) (sym c.index-functions-number.is)) c.loop-i.invariant
