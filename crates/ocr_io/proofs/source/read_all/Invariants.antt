use Rattle.std.proofs.Common.{◌≡◌, ◌≤◌, ◌-◌, length}
use Rattle.std.specs.Io.KnownBytes.{Consumes}
use Rattle.ocr_base.specs.Count.{RoseBy}
use Rattle.ocr_io.proofs.source.read_all.Given as goal

abbrev pub invariant-loop-bytes : goal.invariant-loop-bytes
invariant-loop-bytes g l = record {
  consumed : Consumes (g.S.Source.left l.fn.source) (g.S.Source.left l.source) l.bytes.items;
  size : length l.bytes.items ≤ l.most;
  piece : length l.piece ≡ 4096;
  given : RoseBy (g.S.Source.given l.fn.source) (g.S.Source.given l.source) (length l.bytes.items);
  calm : g.S.Source.failures l.source ≡ g.S.Source.failures l.fn.source;
  later : g.S.Source.failures l.fn.source ≤ g.S.Source.failures l.source;
}

abbrev pub decreases-loop-bytes : goal.decreases-loop-bytes
decreases-loop-bytes g l = l.most - length l.bytes.items
