-- Words and numbers.
use Rattle.std.specs.Prelude.{ℕ, List, [], ◌∷◌, ◌++◌, codes}
use Rattle.std.specs.List.{flat_map}
use Rattle.std.specs.Fmt.{decimal}

abbrev pub Text : Type 0
Text = List ℕ

-- words, and numbers in decimal, each after a space
abbrev pub phrase : Text → List ℕ → Text
phrase words numbers = words ++ flat_map (λ n. 32 ∷ decimal n) numbers

-- words, a name, and numbers, each after a space
abbrev pub named_phrase : Text → Text → List ℕ → Text
named_phrase words name numbers = words ++ 32 ∷ phrase name numbers

-- ` [a b]`
abbrev pub listed : List ℕ → Text
listed [] = codes " []"
listed (n ∷ ns) = codes " [" ++ (decimal n ++ (phrase [] ns ++ 93 ∷ []))
