use Rattle.std.proofs.Common.{◌≡◌, ◌++◌, take}
use Rattle.ocr_journal.specs.Phrase as spec
use Rattle.ocr_journal.proofs.words.phrase.Given as goal

abbrev pub invariant-loop-n : goal.invariant-loop-n
invariant-loop-n l =
    l.text.items ≡ l.fn.text.items ++ spec.phrase l.words (take l.n-index l.numbers)
