use Rattle.std.proofs.Common.{◌≡◌, ◌++◌, drop, take}
use Rattle.ocr_machine_parts.specs.declared.part.Part.{Part}
use Rattle.ocr_machine_parts.specs.Taken.{look, put}
use Rattle.ocr_machine_effects.proofs.taken.take_listed.Given as goal

abbrev pub invariant-loop-i : goal.invariant-loop-i
invariant-loop-i l = record {
  same : l.parts.items ≡ l.fn.parts.items;
  looks : look (drop l.i l.parts.items) l.number ≡ look l.parts.items l.number;
  puts : (x : Part) → take l.i l.parts.items ++ put (drop l.i l.parts.items) l.number x ≡ put l.parts.items l.number x;
}
