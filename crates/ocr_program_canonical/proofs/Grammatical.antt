-- The canonical lexemes have the tree that they were made of.
use Rattle.std.proofs.Common.{◌≡◌, ◌+◌, ◌≤◌, ℕ, List, [], ◌∷◌, Bool, true, false, refl, sym, subst, arith}
use Rattle.std.proofs.lemmas.Bool.{ltb-false}
use Rattle.ocr_program_tree.specs.declared.tree.CallName.{CallName}
use Rattle.ocr_program_tree.specs.declared.tree.CallName.TheVariants as name
use Rattle.ocr_program_tree.specs.Tree as tree
use Rattle.ocr_program_tree.specs.Tree.{Expression, Arguments, empty, value, list, named, Statement, Statements, FunctionTree}
use Rattle.ocr_program_grammar.specs.declared.lexeme.Lexeme.{Lexeme}
use Rattle.ocr_program_grammar.specs.declared.lexeme.Lexeme.TheVariants as lexeme
use Rattle.ocr_program_grammar.specs.Shape.{shape}
use Rattle.ocr_program_grammar.specs.declared.argument_kind.ArgumentKind.{ArgumentKind}
use Rattle.ocr_program_grammar.specs.declared.argument_kind.ArgumentKind.TheVariants as slot
use Rattle.ocr_program_grammar.specs.Grammar as grammar
use Rattle.ocr_program_grammar.specs.Grammar.{level, IsExpression, AreArguments, Follows, AreMembers, IsStatement, AreStatements, IsProgram}
use Rattle.ocr_program_grammar.specs.declared.levels.TheConstants.{UNARY_LEVEL}
use Rattle.ocr_program_canonical.specs.Canonical.{level_of}
use Rattle.ocr_program_canonical.proofs.Lexemes as canonical
use Rattle.ocr_program_canonical.proofs.Lexemes.{bracketed, is_lower}
use Rattle.ocr_program_canonical.proofs.Speakable as speakable
use Rattle.ocr_program_canonical.proofs.Speakable.{IsSpeakable, Suits, AreSpeakable, IsWritable, AreWritable, IsWritableProgram}

-- no name of a function stands in these slots
abbrev pub is_plain : ArgumentKind → Bool
is_plain slot.Value = true
is_plain slot.Values = true
is_plain slot.NameOfFunction = false
is_plain slot.FlagsAndOutput = true

abbrev pub ArePlain : List ArgumentKind → Type 0
ArePlain [] = Unit {0}
ArePlain (s ∷ ss) = (is_plain s ≡ true) × ArePlain ss

abbrev pub AreOthersPlain : List ArgumentKind → Type 0
AreOthersPlain [] = Unit {0}
AreOthersPlain (s ∷ ss) = ArePlain ss

pub others_plain : (c : CallName) → AreOthersPlain (shape c)
others_plain name.DbCreate = (refl, tt)
others_plain name.DbRelease = tt
others_plain name.DbDestroy = tt
others_plain name.EventCreate = (refl, tt)
others_plain name.EventCreateParams = (refl, (refl, (refl, (refl, tt))))
others_plain name.EventDestroy = tt
others_plain name.Satisfy = (refl, tt)
others_plain name.SatisfySlot = (refl, (refl, tt))
others_plain name.AddDependence = (refl, (refl, (refl, tt)))
others_plain name.TemplateCreate = (refl, (refl, tt))
others_plain name.TemplateDestroy = tt
others_plain name.EdtCreate = (refl, (refl, (refl, (refl, (refl, tt)))))
others_plain name.Shutdown = tt
others_plain name.Abort = tt
others_plain name.Load = (refl, tt)
others_plain name.Store = (refl, (refl, tt))

-- the expression is read at its own level and at those below
abbrev IsRead : Expression → Type 0
IsRead e = (l : ℕ) (rest : List Lexeme) → l ≤ level_of e → IsExpression l (canonical.expression e rest) rest e

-- these lexemes begin with what follows an argument
record Following (ss : List ArgumentKind) (ts rest : List Lexeme) (args : Arguments) : Type 0 where
  pub first : Lexeme
  pub mid : List Lexeme
  pub is : ts ≡ first ∷ mid
  pub follows : Follows ss first mid rest args

in_brackets : (l : ℕ) (e : Expression) (rest : List Lexeme) (b : Bool) → is_lower e l ≡ b → IsRead e
    → IsExpression l (bracketed b (canonical.expression e) rest) rest e
in_brackets l e rest true is all = grammar.parentheses l _ rest e (all 0 (lexeme.CloseRound ∷ rest) (omega arith))
in_brackets l e rest false is all = all l rest (ltb-false (level_of e) l is)

value_here : (ss : List ArgumentKind) (e : Expression) (more : Arguments) (ts rest : List Lexeme) → IsRead e → Following ss ts rest more
    → AreArguments (slot.Value ∷ ss) (canonical.expression e ts) rest (value e more)
value_here ss e more ts rest all f =
    grammar.one_value ss _ f.mid rest e f.first more
    (subst (λ (l : List Lexeme). IsExpression 0 (canonical.expression e ts) l e) f.is (all 0 ts (omega arith))) f.follows

empty_list_here : (ss : List ArgumentKind) (more : Arguments) (ts rest : List Lexeme) → Following ss ts rest more
    → AreArguments (slot.Values ∷ ss) (lexeme.OpenSquare ∷ lexeme.CloseSquare ∷ ts) rest (list empty more)
empty_list_here ss more ts rest f =
    subst (λ (l : List Lexeme). AreArguments (slot.Values ∷ ss) (lexeme.OpenSquare ∷ lexeme.CloseSquare ∷ l) rest (list empty more))
    (sym f.is) (grammar.no_values ss f.first f.mid rest more f.follows)

list_here : (ss : List ArgumentKind) (es more : Arguments) (front ts rest : List Lexeme) → AreMembers front ts es → Following ss ts rest more
    → AreArguments (slot.Values ∷ ss) (lexeme.OpenSquare ∷ front) rest (list es more)
list_here ss es more front ts rest members f =
    grammar.some_values ss f.first front f.mid rest es more
    (subst (λ (l : List Lexeme). AreMembers front l es) f.is members) f.follows

name_here : (ss : List ArgumentKind) (x : List ℕ) (more : Arguments) (ts rest : List Lexeme) → Following ss ts rest more
    → AreArguments (slot.NameOfFunction ∷ ss) (lexeme.Name x ∷ ts) rest (named x more)
name_here ss x more ts rest f =
    subst (λ (l : List Lexeme). AreArguments (slot.NameOfFunction ∷ ss) (lexeme.Name x ∷ l) rest (named x more))
    (sym f.is) (grammar.one_name ss x f.first f.mid rest more f.follows)

after_comma : (s : ArgumentKind) (ss : List ArgumentKind) (ts rest : List Lexeme) (args : Arguments) → AreArguments (s ∷ ss) ts rest args
    → Following (s ∷ ss) (lexeme.Comma ∷ ts) rest args
after_comma s ss ts rest args a = record { first = lexeme.Comma; mid = ts; is = refl; follows = grammar.goes s ss ts rest args a }

mutual
  pub expression : (e : Expression) → IsSpeakable e → IsRead e
  expression _ (speakable.number n low) l rest h = grammar.number l n rest
  expression _ (speakable.constant c) l rest h = grammar.constant l c rest
  expression _ (speakable.variable x is) l rest h = grammar.variable l x rest
  expression _ speakable.paramc l rest h = grammar.paramc l rest
  expression _ speakable.depc l rest h = grammar.depc l rest
  expression _ speakable.code l rest h = grammar.code l rest
  expression _ (speakable.paramv e s) l rest h = grammar.paramv l _ rest e (expression e s 0 _ (omega arith))
  expression _ (speakable.depv e s) l rest h = grammar.depv l _ rest e (expression e s 0 _ (omega arith))
  expression _ (speakable.signed op e s) l rest h =
      grammar.signed l op _ rest e (in_brackets UNARY_LEVEL e rest (is_lower e UNARY_LEVEL) refl (expression e s))
  expression _ (speakable.joined op a b s t) l rest h =
      grammar.joined l op _ _ rest a b h
      (in_brackets (level op) a _ (is_lower a (level op)) refl (expression a s))
      (in_brackets (level op + 1) b rest (is_lower b (level op + 1)) refl (expression b t))
  expression _ (speakable.invoked c args s) l rest h = grammar.invoked l c _ rest args (first_arguments (shape c) args s (others_plain c) rest)

  pub first_arguments : (ss : List ArgumentKind) (args : Arguments) → Suits ss args → AreOthersPlain ss → (rest : List Lexeme)
      → AreArguments ss (canonical.arguments args (lexeme.CloseRound ∷ rest)) rest args
  first_arguments _ _ speakable.over plain rest = grammar.no_more rest
  first_arguments _ _ (speakable.one ss e more s t) plain rest = value_here ss e more _ rest (expression e s) (following ss more t plain rest)
  first_arguments _ _ (speakable.several ss _ more speakable.none t) plain rest = empty_list_here ss more _ rest (following ss more t plain rest)
  first_arguments _ _ (speakable.several ss _ more (speakable.member e es s r) t) plain rest =
      list_here ss (value e es) more _ _ rest (members e es (expression e s) r _) (following ss more t plain rest)
  first_arguments _ _ (speakable.function ss x more is t) plain rest = name_here ss x more _ rest (following ss more t plain rest)
  first_arguments _ _ (speakable.flags ss e s) plain rest = grammar.flags ss _ rest e (expression e s 0 _ (omega arith))
  first_arguments _ _ (speakable.output ss e x s is) plain rest = grammar.output ss _ rest e x (expression e s 0 _ (omega arith))

  following : (ss : List ArgumentKind) (args : Arguments) → Suits ss args → ArePlain ss → (rest : List Lexeme)
      → Following ss (canonical.further args (lexeme.CloseRound ∷ rest)) rest args
  following _ _ speakable.over plain rest = record { first = lexeme.CloseRound; mid = rest; is = refl; follows = grammar.closes rest }
  following _ _ (speakable.one ss e more s t) plain rest =
      after_comma slot.Value ss _ rest _ (value_here ss e more _ rest (expression e s) (following ss more t plain.1 rest))
  following _ _ (speakable.several ss _ more speakable.none t) plain rest =
      after_comma slot.Values ss _ rest _ (empty_list_here ss more _ rest (following ss more t plain.1 rest))
  following _ _ (speakable.several ss _ more (speakable.member e es s r) t) plain rest =
      after_comma slot.Values ss _ rest _ (list_here ss (value e es) more _ _ rest (members e es (expression e s) r _) (following ss more t plain.1 rest))
  following _ _ (speakable.function ss x more is t) plain rest = let h = plain.0 in cc
  following _ _ (speakable.flags ss e s) plain rest =
      after_comma slot.FlagsAndOutput ss _ rest _ (grammar.flags ss _ rest e (expression e s 0 _ (omega arith)))
  following _ _ (speakable.output ss e x s is) plain rest =
      after_comma slot.FlagsAndOutput ss _ rest _ (grammar.output ss _ rest e x (expression e s 0 _ (omega arith)))

  members : (e : Expression) (es : Arguments) → IsRead e → AreSpeakable es → (rest : List Lexeme)
      → AreMembers (canonical.arguments (value e es) (lexeme.CloseSquare ∷ rest)) rest (value e es)
  members e _ all speakable.none rest = grammar.last _ rest e (all 0 _ (omega arith))
  members e _ all (speakable.member e2 es t r) rest =
      grammar.member _ _ rest e (value e2 es) (all 0 _ (omega arith)) (members e2 es (expression e2 t) r rest)

mutual
  pub one : (d : ℕ) (s : Statement) → IsWritable d s → (rest : List Lexeme) → IsStatement (canonical.one s rest) rest s
  one _ _ (speakable.bind d x e is s) rest = grammar.bind x _ rest e (expression e s.speakable 0 _ (omega arith))
  one _ _ (speakable.assign d x e is s) rest = grammar.assign x _ rest e (expression e s.speakable 0 _ (omega arith))
  one _ _ (speakable.print d e s) rest = grammar.print _ rest e (expression e s.speakable 0 _ (omega arith))
  one _ _ (speakable.give d e s) rest = grammar.give _ rest e (expression e s.speakable 0 _ (omega arith))
  one _ _ (speakable.perform d c args s low) rest = grammar.perform c _ rest args (first_arguments (shape c) args s (others_plain c) _)
  one _ _ (speakable.repeat d e body s low w) rest = grammar.repeat _ _ rest e body (expression e s.speakable 0 _ (omega arith)) (all (d + 1) body w _)
  one _ _ (speakable.choice d e first _ s low w (speakable.ended _)) rest =
      grammar.when _ _ rest e first (expression e s.speakable 0 _ (omega arith)) (all (d + 1) first w _)
  one _ _ (speakable.choice d e first _ s low w (speakable.more d2 t ts v vs)) rest =
      grammar.choice _ _ _ rest e first (tree.statement t ts) (expression e s.speakable 0 _ (omega arith)) (all (d + 1) first w _)
      (grammar.more _ _ _ t ts (one d2 t v _) (all d2 ts vs _))

  pub all : (d : ℕ) (ss : Statements) → AreWritable d ss → (rest : List Lexeme) → AreStatements (canonical.all ss rest) rest ss
  all _ _ (speakable.ended d) rest = grammar.none rest
  all _ _ (speakable.more d s ss v vs) rest = grammar.more _ _ rest s ss (one d s v _) (all d ss vs rest)

pub program : (fs : List FunctionTree) → IsWritableProgram fs → IsProgram (canonical.program fs) fs
program _ speakable.over = grammar.over
program _ (speakable.function f fs is w others) = grammar.function f.name _ _ f.body fs (all 1 f.body w _) (program fs others)
