use Rattle.std.proofs.Common.{◌≡◌, ◌<◌, ℕ, List, map}
use mathlib.Core.Option.{some}
use lib.ListN.{get_elem?}
use Rattle.ocr_journal_merge.specs.Numbered.{EndsAt}
use Rattle.ocr_journal_merge.proofs.numbered.place_of.Given as goal

abbrev pub invariant-loop-j : goal.invariant-loop-j
invariant-loop-j g l = (k : ℕ) (log : List (ℕ × g.row.E.Denot)) → k < l.j → get_elem? (map (λ v. v.items) l.logs) k ≡ some log → EndsAt l.number log → ⊥
