-- The form of the words after the command.
use Rattle.std.specs.Prelude.{◌≡◌, ◌≤◌, ◌||◌, ℕ, Bool, true, List, [], ◌∷◌, ◌++◌, length, codes, map}
use Rattle.std.specs.Prelude.{Option, Some, None, if◌then◌else◌, String, string_bytes}
use Rattle.std.specs.Global.{Global}
use Rattle.std.specs.List.{list_any}
use Rattle.std.specs.Str.{bytes_eq}

-- the bytes of a word, or of a part of one
abbrev pub Text : Type 0
Text = List ℕ

abbrev pub texts_of : List (String Global) → List Text
texts_of words = map (λ w. string_bytes w) words

-- What one word says, or two.
pub data Piece : Type 0 where
  -- a number, as `5`
  number : Text → Piece
  -- an option with its value in the next word, as `--workers 5`
  option : Text → Text → Piece
  -- an option with its value in the same word, as `--workers=5`
  joined : Text → Text → Piece
  -- a flag, as `--summary`
  flag : Text → Piece

-- `--name`
abbrev pub long : Text → Text
long name = 45 ∷ 45 ∷ name

-- the words of a piece
abbrev pub spelled : Piece → List Text
spelled (number t) = t ∷ []
spelled (option name t) = long name ∷ t ∷ []
spelled (joined name t) = (long name ++ 61 ∷ t) ∷ []
spelled (flag name) = long name ∷ []

abbrev pub spelling : List Piece → List Text
spelling [] = []
spelling (p ∷ ps) = spelled p ++ spelling ps

-- What all words after the command say: the pieces, and the numbers after a word `--`, if any.
pub record Line : Type 0 where
  pub pieces : List Piece
  pub tail : Option (List Text)

abbrev pub tail_words : Option (List Text) → List Text
tail_words None = []
tail_words (Some ts) = (45 ∷ 45 ∷ []) ∷ ts

-- the words of a line
abbrev pub line_words : Line → List Text
line_words l = spelling l.pieces ++ tail_words l.tail

abbrev pub option_names : List Text
option_names = codes "workers" ∷ codes "objects" ∷ codes "events" ∷ []

abbrev pub flag_names : List Text
flag_names =
    codes "summary" ∷ codes "left" ∷ codes "stale" ∷ codes "refused" ∷ codes "races"
    ∷ codes "blocks" ∷ codes "journal" ∷ []

abbrev pub is_in : Text → List Text → Bool
is_in name names = list_any (λ n. bytes_eq n name) names

-- a piece names an option or a flag that there is
abbrev pub IsKnown : Piece → Type 0
IsKnown (number t) = Unit {0}
IsKnown (option name t) = is_in name option_names ≡ true
IsKnown (joined name t) = is_in name option_names ≡ true
IsKnown (flag name) = is_in name flag_names ≡ true

abbrev pub AreKnown : List Piece → Type 0
AreKnown [] = Unit {0}
AreKnown (p ∷ ps) = IsKnown p × AreKnown ps

-- the numbers after `--` are as the others
abbrev pub tail_pieces : Option (List Text) → List Piece
tail_pieces None = []
tail_pieces (Some ts) = map (λ t. number t) ts

-- all that the words say
abbrev pub said : Line → List Piece
said l = l.pieces ++ tail_pieces l.tail

-- ---- what is given

-- an option or a flag
abbrev pub is_single : Text → Bool
is_single name = is_in name option_names || is_in name flag_names

-- the name that the numbers have; no option and no flag has it
abbrev pub numbers : Text
numbers = codes "numbers"

-- the name under which a piece gives its text
abbrev pub name_of : Piece → Text
name_of (number t) = numbers
name_of (option name t) = name
name_of (joined name t) = name
name_of (flag name) = name

-- the text that it gives; a flag gives `true`
abbrev pub value_of : Piece → Text
value_of (number t) = t
value_of (option name t) = t
value_of (joined name t) = t
value_of (flag name) = codes "true"

-- the texts that are given under a name
abbrev pub given : Text → List Piece → List Text
given name [] = []
given name (p ∷ ps) =
    if bytes_eq (name_of p) name then value_of p ∷ given name ps else given name ps

-- the words are those of the line, each name is known, and each option and flag stands at most once
pub record IsLineOf (l : Line) (words : List Text) : Type 0 where
  pub spelled : words ≡ line_words l
  pub known : AreKnown l.pieces
  pub once : (name : Text) → is_single name ≡ true → length (given name (said l)) ≤ 1
