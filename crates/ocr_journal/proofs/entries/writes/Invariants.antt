use Rattle.std.proofs.Common.{◌≡◌, ◌++◌, ◌∷◌, codes, decimal, take}
use Rattle.std.specs.List.{flat_map}
use Rattle.ocr_journal.proofs.entries.writes.Given as goal

abbrev pub invariant-loop-word : goal.invariant-loop-word
invariant-loop-word l =
    l.text.items ≡ l.fn.text.items
    ++ (codes " writes" ++ flat_map (λ p. 32 ∷ (decimal p.0 ++ 61 ∷ decimal p.1)) (take l.word-index l.words))
