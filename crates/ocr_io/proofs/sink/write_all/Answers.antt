use Rattle.std.proofs.Common.{◌≡◌, ◌-◌, length, length-drop, take, drop, arith, rules}
use Rattle.std.proofs.lemmas.List.{take_all}
use Rattle.ocr_io.proofs.KnownBytes.{appends_more}
use Rattle.ocr_io.proofs.sink.write_all.Goals as goal

pub loop-sent-preserved : goal.loop-sent-preserved
loop-sent-preserved g c =
    let rest : take (length c.args.piece.now - c.loop-sent.sent) (drop c.loop-sent.sent c.args.piece.now) ≡ drop c.loop-sent.sent c.args.piece.now = take_all _ _ (omega (arith, length-drop c.loop-sent.sent c.args.piece.now)) in
    record {
      within = search rules;
      appended = appends_more _ _ _ _ _ _ _ rest c.loop-sent.invariant.appended c.in-Ok.ensures.bytes;
      calm = search rules;
      later = search rules;
    }
