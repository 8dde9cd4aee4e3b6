use Rattle.std.proofs.Common.{arith}
use Rattle.ocr_memory_model_rows.proofs.Bits.{one_place}
use Rattle.ocr_memory_model_rows.proofs.row.Row.of.Goals as goal

pub returns-clause-has : goal.returns-clause-has
returns-clause-has c = one_place c.in_ok-words.words.items c.args.place c.in_ok-words.ensures.none (omega (arith, c.in_ok-words.ensures.len))
