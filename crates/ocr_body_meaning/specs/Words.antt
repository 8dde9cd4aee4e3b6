-- Numbers of 64 bits, which are all that a body deals with.
use Rattle.std.specs.Prelude.{◌≡◌, ◌<◌, ◌^◌, ℕ, List, [], ◌∷◌, Bool, true, ◌&&◌, nat_lt, length}
use Rattle.std.specs.Prelude.{All, Option, Some, None}
use Rattle.ocr_body_meaning.specs.Holds.{Hold, Holds}
use Rattle.ocr_body_meaning.specs.Behaviour.{Behaviour, Ends, Stops, Asks, Asked}
use Rattle.ocr_body_meaning.specs.Body.{Body, says}
use Rattle.ocr_program_tree.specs.Tree as tree
use Rattle.ocr_program_tree.specs.Tree.{Expression, Arguments, Statement, Statements, FunctionTree}
use Rattle.ocr_body_meaning.specs.declared.call.Answer.{Answer}
use Rattle.ocr_body_meaning.specs.declared.call.BodyStop.{BodyStop}
use Rattle.ocr_body_meaning.specs.declared.call.BodyStop.TheVariants as stop
use Rattle.ocr_body_meaning.specs.declared.call.Call as body
use Rattle.ocr_body_meaning.specs.declared.call.Call.TheVariants as call

abbrev pub IsWord : ℕ → Type 0
IsWord n = n < 2 ^ 64

-- the numbers of an expression
abbrev mutual
  pub is_of_words : Expression → Bool
  is_of_words (tree.Number n) = nat_lt n (2 ^ 64)
  is_of_words (tree.Paramv e) = is_of_words e
  is_of_words (tree.Depv e) = is_of_words e
  is_of_words (tree.Unary o e) = is_of_words e
  is_of_words (tree.Binary o a b) = is_of_words a && is_of_words b
  is_of_words (tree.Invoked made xs) = are_of_words xs
  is_of_words other = true

  pub are_of_words : Arguments → Bool
  are_of_words tree.empty = true
  are_of_words (tree.value e rest) = is_of_words e && are_of_words rest
  are_of_words (tree.list es rest) = are_of_words es && are_of_words rest
  are_of_words (tree.named x rest) = are_of_words rest

abbrev mutual
  pub is_statement_of_words : Statement → Bool
  is_statement_of_words (tree.Let x e) = is_of_words e
  is_statement_of_words (tree.Assign x e) = is_of_words e
  is_statement_of_words (tree.If e first second) =
      is_of_words e && (are_statements_of_words first && are_statements_of_words second)
  is_statement_of_words (tree.While e body) = is_of_words e && are_statements_of_words body
  is_statement_of_words (tree.Print e) = is_of_words e
  is_statement_of_words (tree.Return e) = is_of_words e
  is_statement_of_words (tree.Do made xs) = are_of_words xs

  pub are_statements_of_words : Statements → Bool
  are_statements_of_words tree.nothing = true
  are_statements_of_words (tree.statement s rest) =
      is_statement_of_words s && are_statements_of_words rest

abbrev pub is_program_of_words : List FunctionTree → Bool
is_program_of_words [] = true
is_program_of_words (f ∷ rest) = are_statements_of_words f.body && is_program_of_words rest

-- the numbers that are passed in a call
abbrev pub HasWords : body.Call → Type 0
HasWords (call.DbCreate l f) = IsWord l × IsWord f
HasWords (call.DbRelease d) = IsWord d
HasWords (call.DbDestroy d) = IsWord d
HasWords (call.EventCreate k f) = IsWord k × IsWord f
HasWords (call.EventCreateParams k f g s d) = IsWord k × IsWord f × IsWord g × IsWord s × IsWord d
HasWords (call.EventDestroy e) = IsWord e
HasWords (call.Satisfy e p s) = IsWord e × IsWord p × IsWord s
HasWords (call.AddDependence s t i m) = IsWord s × IsWord t × IsWord i × IsWord m
HasWords (call.TemplateCreate f p d) = IsWord p × IsWord d
HasWords (call.TemplateDestroy t) = IsWord t
HasWords (call.EdtCreate t p params d deps f o) =
    IsWord t × IsWord p × All IsWord params × IsWord d × All IsWord deps × IsWord f
HasWords call.Shutdown = Unit {0}
HasWords (call.Abort c) = IsWord c
HasWords (call.Load d w) = IsWord d × IsWord w
HasWords (call.Store d w v) = IsWord d × IsWord w × IsWord v
HasWords (call.Print v) = IsWord v

-- the number of a stop that has one
abbrev pub StopsAtWord : BodyStop → Type 0
StopsAtWord (stop.Abort code) = IsWord code
StopsAtWord other = Unit {0}

-- what was stored is such numbers
abbrev pub AreWritesOfWords : List (ℕ × ℕ) → Type 0
AreWritesOfWords writes = All (λ write. IsWord write.1) writes

-- the words with which a hold began and that were stored there are such numbers
abbrev pub IsHoldOfWords : Option Hold → Type 0
IsHoldOfWords None = Unit {0}
IsHoldOfWords (Some h) = All IsWord h.began × AreWritesOfWords h.writes

abbrev pub AreHoldsOfWords : Holds → Type 0
AreHoldsOfWords holds = (d : ℕ) → IsHoldOfWords (holds d)

-- the body returns, stops with and passes numbers of 64 bits, and leaves such ones in its holds, as
-- long as the answers are such ones
abbrev pub SaysWords : Behaviour → Type 0
SaysWords (Ends g holds) = IsWord g × AreHoldsOfWords holds
SaysWords (Stops s) = StopsAtWord s
SaysWords (Asks made writes next) =
    HasWords made × AreWritesOfWords writes
    × ((a : Answer) → IsWord a.value → IsWord a.output → SaysWords (next a))

-- the answers were such numbers
abbrev pub AreAnsweredWords : List Asked → Type 0
AreAnsweredWords [] = Unit {0}
AreAnsweredWords (asked ∷ earlier) =
    AreAnsweredWords earlier × IsWord asked.answer.value × IsWord asked.answer.output

-- a body of a program of such numbers, which was given such numbers, deals with no others
abbrev pub WordsLaw : Type 0
WordsLaw = (b : Body) (log : List Asked) → is_program_of_words b.program ≡ true
    → All IsWord b.params → IsWord (length b.params) → All IsWord b.depv → IsWord (length b.depv)
    → AreHoldsOfWords b.holds
    → AreAnsweredWords log → SaysWords (says b log)
