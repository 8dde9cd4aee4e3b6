use Rattle.std.proofs.Common.{◌+◌, ◌≤◌, List, length, map, vec_capacity}
use Rattle.ocr_turns_rule.specs.Rule.{AllRise}
use Rattle.ocr_journal_merge.specs.Numbered.{AreByNumber}
use Rattle.ocr_journal_merge.proofs.Takes.{Remain}
use Rattle.ocr_journal_merge.proofs.numbered.from_ends.Given as goal

abbrev pub invariant-loop-left : goal.invariant-loop-left
invariant-loop-left g l = record {
  room : l.left + length l.entries.items ≤ vec_capacity l.entries;
  rise : AllRise (map (λ v. v.items) l.logs.items);
  remain : (list : List g.row.E.Denot) → AreByNumber (map (λ v. v.items) l.fn.logs.items) list → Remain l.left list (map (λ v. v.items) l.logs.items) l.entries.items;
}

abbrev pub decreases-loop-left : goal.decreases-loop-left
decreases-loop-left g l = l.left
