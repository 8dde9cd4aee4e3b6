use Rattle.std.proofs.Common.{◌≡◌, ◌+◌, map, drop}
use Rattle.ocr_turns_rule.specs.Sums.{weigh_all}
use Rattle.ocr_turns.proofs.closing.count_entries.Given as goal

abbrev pub invariant-loop-i : goal.invariant-loop-i
invariant-loop-i g l = l.count + weigh_all (λ _. 1) (map (λ v. v.items) (drop l.i l.logs)) ≡ weigh_all (λ _. 1) (map (λ v. v.items) l.logs)
