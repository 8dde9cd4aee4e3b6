-- The names that the walk of a function keeps, and what it answers.
use Rattle.std.specs.Prelude.{◌≡◌, ℕ, Bool, List, map, length, Option, Some}
use Rattle.std.specs.Option.{option_or}
use Rattle.std.specs.Borrow.{Bor}
use Rattle.std.specs.BTreeSet.{BTreeSet, contains_by}
use Rattle.std.specs.Cmp.Lexicographic.{slice_cmp}
use Rattle.std.specs.Ordering.{nat_cmp}
use Rattle.ocr_program_check.specs.Check.{IsBreach, is_among, Used, ListClosed}
use Rattle.ocr_program_tree.specs.Tree.{FunctionTree, Expression}
use Rattle.ocr_program_tree.specs.View.{members_of}
use Rattle.ocr_program_tree.specs.declared.tree.Expr.{Expr}
use Rattle.ocr_program_tree.specs.declared.tree.CallName.TheVariants as name
use Rattle.ocr_program_tree.specs.declared.rules.TheConstants.{MOST_PARAMETERS}
use Rattle.ocr_program_check.specs.Checked.{Declarations, Outcome, Broken, mention_rule, expression_rule, arguments_rule}
use Rattle.ocr_program_check.specs.declared.rules.CheckFault.{CheckFault}
use Rattle.ocr_program_check.specs.declared.rules.CheckStop.{CheckStop}
use Rattle.ocr_program_check.specs.declared.rules.CheckStop.TheVariants.{Fault, NoMemory}
use Rattle.ocr_program_check.specs.declared.names.Names.{Names}

-- the names behind references
abbrev pub texts : List (Bor (List ℕ)) → List (List ℕ)
texts xs = map (λ (x : Bor (List ℕ)). x.now) xs

-- whether a set has a name
abbrev pub knows : BTreeSet (Bor (List ℕ)) → List ℕ → Bool
knows s x = contains_by (λ (k : Bor (List ℕ)). slice_cmp nat_cmp x k.now) s

-- the functions that are known
abbrev pub known_in : Names → List ℕ → Bool
known_in s x = knows s.functions.now x

-- the variables that are declared where the walk stands
abbrev pub declared_in : Names → List ℕ → Bool
declared_in s x = is_among x (texts s.declared.items)

-- the names that it keeps
abbrev pub declarations_in : Names → Declarations
declarations_in s = record { lets = texts s.lets.items; declared = texts s.declared.items }

-- a fault tells a rule, in the walk's function
abbrev pub IsFaultIn : Names → Option ℕ → CheckFault → Type 0
IsFaultIn s rule fault = (rule ≡ Some fault.rule) × (fault.function ≡ s.function)

-- a list of values with its bracket
abbrev pub members_rule : (known declared : List ℕ → Bool) → ℕ → List Expr → Option ℕ
members_rule known declared most members =
    option_or (arguments_rule known declared name.EdtCreate MOST_PARAMETERS (members_of members))
    (mention_rule known declared (ListClosed most (length members)))

-- an assignment: the name of its variable, then its expression
abbrev pub assign_rule : Names → List ℕ → Expression → Option ℕ
assign_rule s x e = option_or (mention_rule (known_in s) (declared_in s) (Used x))
    (expression_rule (known_in s) (declared_in s) e)

-- the walk stays in its function
abbrev pub IsSameFunction : Names → Names → Type 0
IsSameFunction old new = (new.functions ≡ old.functions) × (new.function ≡ old.function)

-- a walk stops at a rule, or for want of memory
abbrev pub IsStopIn : Names → Outcome → CheckStop → Type 0
IsStopIn s outcome (Fault fault) = (outcome ≡ Broken fault.rule) × (fault.function ≡ s.function)
IsStopIn s outcome NoMemory = Unit {0}

-- a function's walk stops at a rule, or for want of memory
abbrev pub IsStopAt : ℕ → Option ℕ → CheckStop → Type 0
IsStopAt number rule (Fault fault) = (rule ≡ Some fault.rule) × (fault.function ≡ number)
IsStopAt number rule NoMemory = Unit {0}

-- the stop of a program's check
abbrev pub IsStopOf : List FunctionTree → CheckStop → Type 0
IsStopOf program (Fault fault) = IsBreach program fault.rule fault.function
IsStopOf program NoMemory = Unit {0}
