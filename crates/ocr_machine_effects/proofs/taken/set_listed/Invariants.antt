use Rattle.std.proofs.Common.{◌≡◌, ◌++◌, drop, take}
use Rattle.ocr_machine_parts.specs.Taken.{put}
use Rattle.ocr_machine_effects.proofs.taken.set_listed.Given as goal

abbrev pub invariant-loop-i : goal.invariant-loop-i
invariant-loop-i l = record {
  same : l.parts.items ≡ l.fn.parts.items;
  puts : take l.i l.parts.items ++ put (drop l.i l.parts.items) l.number l.part ≡ put l.parts.items l.number l.part;
}
