-- The arguments of each call so far fit its slots.
use Rattle.std.specs.Prelude.{◌≡◌, ℕ, List, [], ◌∷◌, Bool, true, false, Option, Some, None}
use Rattle.ocr_program_tree.specs.declared.tree.CallName.{CallName}
use Rattle.ocr_program_tree.specs.Tree.{Expression, Arguments, empty, value, list, named}
use Rattle.ocr_program_grammar.specs.declared.argument_kind.ArgumentKind.{ArgumentKind}
use Rattle.ocr_program_grammar.specs.declared.argument_kind.ArgumentKind.TheVariants.{Value, Values, NameOfFunction, FlagsAndOutput}
use Rattle.ocr_program_grammar.specs.Shape.{shape}
use Rattle.ocr_program_parser.specs.Joined.{with}
use Rattle.ocr_program_parser.specs.Machine as m

-- nothing, or one name
abbrev pub is_output : Arguments → Bool
is_output empty = true
is_output (named x empty) = true
is_output other = false

abbrev pub fits : List ArgumentKind → Arguments → Bool
fits [] empty = true
fits (Value ∷ ss) (value e args) = fits ss args
fits (Values ∷ ss) (list es args) = fits ss args
fits (NameOfFunction ∷ ss) (named x args) = fits ss args
fits (FlagsAndOutput ∷ ss) (value e args) = is_output args
fits ss args = false

-- with what fits these slots behind them, the arguments fit the call
abbrev pub LeadsTo : CallName → Arguments → List ArgumentKind → Type 0
LeadsTo c done ss =
    (args : Arguments) → fits ss args ≡ true → fits (shape c) (with done args) ≡ true

-- the same for the flags, and for what may stand behind them
abbrev pub LeadsToFlags : CallName → Arguments → Type 0
LeadsToFlags c done =
    (e : Expression) (args : Arguments) → is_output args ≡ true
    → fits (shape c) (with done (value e args)) ≡ true

abbrev pub LeadsToOutput : CallName → Arguments → Type 0
LeadsToOutput c done = (x : List ℕ) → fits (shape c) (with done (named x empty)) ≡ true

abbrev mutual
  pub IsFitting : m.Stack → Type 0
  IsFitting (m.Bottom p) = Unit {0}
  IsFitting (m.Left a op k) = IsFitting k
  IsFitting (m.Prefix op k) = IsFitting k
  IsFitting (m.Round k) = IsFitting k
  IsFitting (m.Index i k) = IsFitting k
  IsFitting (m.Argument c done ss k) = LeadsTo c done (Value ∷ ss) × IsFittingSite k
  IsFitting (m.Member c done es ss k) = LeadsTo c done (Values ∷ ss) × IsFittingSite k
  IsFitting (m.FlagsArgument c done k) = LeadsToFlags c done × IsFittingSite k

  pub IsFittingSite : m.CallSite → Type 0
  IsFittingSite (m.InExpression k) = IsFitting k
  IsFittingSite m.AsStatement = Unit {0}

abbrev pub IsFittingState : m.State → Type 0
IsFittingState (m.Operand h k) = IsFitting k
IsFittingState (m.IndexOpen h i k) = IsFitting k
IsFittingState (m.CallOpen h c k) = IsFittingSite k
IsFittingState (m.CallEnd h c done k) = (fits (shape c) done ≡ true) × IsFittingSite k
IsFittingState (m.ListOpen h c done ss k) = LeadsTo c done (Values ∷ ss) × IsFittingSite k
IsFittingState (m.ListStart h c done ss k) = LeadsTo c done (Values ∷ ss) × IsFittingSite k
IsFittingState (m.NameAt h c done ss k) = LeadsTo c done (NameOfFunction ∷ ss) × IsFittingSite k
IsFittingState (m.AfterArgument h c done ss k) = LeadsTo c done ss × IsFittingSite k
IsFittingState (m.OutputAnd h c done k) = LeadsToOutput c done × IsFittingSite k
IsFittingState (m.OutputName h c done k) = LeadsToOutput c done × IsFittingSite k
IsFittingState (m.AfterOperand h k e) = IsFitting k
IsFittingState other = Unit {0}

abbrev pub IsFittingIfAny : Option m.State → Type 0
IsFittingIfAny None = Unit {0}
IsFittingIfAny (Some s) = IsFittingState s
