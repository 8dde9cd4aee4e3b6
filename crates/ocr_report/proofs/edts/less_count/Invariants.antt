use Rattle.std.proofs.Common.{◌≤◌, ◌<◌, length, slice_index}
use Rattle.ocr_report.proofs.edts.less_count.Given as goal

abbrev pub invariant-loop-count : goal.invariant-loop-count
invariant-loop-count l = record {
  within : l.count ≤ length l.numbers;
  next : l.count < length l.numbers → l.number ≤ slice_index l.numbers l.count;
}

abbrev pub decreases-loop-count : goal.decreases-loop-count
decreases-loop-count l = l.count
