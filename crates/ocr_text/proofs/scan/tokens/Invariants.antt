use Rattle.std.proofs.Common.{◌-◌, ◌≤◌, length}
use Rattle.ocr_text.specs.Tokens.{Tile}
use Rattle.ocr_text.proofs.scan.tokens.Given as goal

abbrev pub invariant-loop-place : goal.invariant-loop-place
invariant-loop-place l = record { within : l.place ≤ length l.bytes; tiled : Tile l.bytes 0 l.found.items l.place }

abbrev pub decreases-loop-place : goal.decreases-loop-place
decreases-loop-place l = length l.bytes - l.place
