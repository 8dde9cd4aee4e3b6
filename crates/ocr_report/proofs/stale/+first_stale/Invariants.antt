use Rattle.std.proofs.Common.{length}
use Rattle.ocr_report.proofs.stale.+first_stale.Given as goal

abbrev pub decreases-first_stale : goal.decreases-first_stale
decreases-first_stale l = length l.objects.now
