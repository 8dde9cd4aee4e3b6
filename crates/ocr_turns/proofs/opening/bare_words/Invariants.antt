use Rattle.std.specs.Prelude.{◌≡◌, ◌++◌}
use Rattle.ocr_turns_rule.specs.Beginning.{front_words, unmade_words}
use Rattle.ocr_turns.proofs.opening.bare_words.Given as goal

abbrev pub invariant-loop : goal.invariant-loop
invariant-loop l = l.words.items ≡ front_words l.drawn l.limit ++ unmade_words l.counter
