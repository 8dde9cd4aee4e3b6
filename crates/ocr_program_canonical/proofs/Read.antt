-- What has a tree within the limits, in lexemes that a text gives, is written by its canonical text.
use Rattle.std.proofs.Common.{◌≡◌, ◌+◌, ◌-◌, ◌<◌, ◌≤◌, ◌^◌, ℕ, List, [], ◌∷◌, Bool, true, false, refl, sym, ap, subst, ◌∙◌, arith}
use Rattle.std.proofs.lemmas.Grind.{common_steps}
use Rattle.std.specs.Prelude.{nat_lt}
use Rattle.ocr_program_tree.specs.declared.tree.UnaryOp.{UnaryOp}
use Rattle.ocr_program_tree.specs.declared.tree.UnaryOp.TheVariants as unary
use Rattle.ocr_program_tree.specs.declared.tree.BinaryOp.{BinaryOp}
use Rattle.ocr_program_tree.specs.declared.tree.BinaryOp.TheVariants as binary
use Rattle.ocr_program_tree.specs.Tree as tree
use Rattle.ocr_program_tree.specs.Tree.{Expression, Arguments, empty, value, list, named, Statement, Statements, FunctionTree}
use Rattle.ocr_program_grammar.specs.declared.lexeme.Lexeme.{Lexeme}
use Rattle.ocr_program_grammar.specs.declared.lexeme.Lexeme.TheVariants as lexeme
use Rattle.ocr_program_grammar.specs.declared.lexeme.Word.TheVariants as word
use Rattle.ocr_program_grammar.specs.declared.argument_kind.ArgumentKind.{ArgumentKind}
use Rattle.ocr_program_grammar.specs.Shape.{shape}
use Rattle.ocr_program_grammar.specs.Grammar as grammar
use Rattle.ocr_program_grammar.specs.Grammar.{level, lexeme_of_sign, IsExpression, AreArguments, Follows, AreMembers, IsStatement, AreStatements, IsProgram}
use Rattle.ocr_program_grammar.specs.declared.levels.TheConstants.{UNARY_LEVEL}
use Rattle.ocr_program_canonical.specs.Canonical.{level_of}
use Rattle.ocr_program_canonical.proofs.Lexemes.{is_lower, bracket_size, size, size_at, arguments_size, further_size}
use Rattle.ocr_program_canonical.proofs.Keeps.{Keeps, keeps_now, inside, outer, inside_low, outer_low}
use Rattle.ocr_program_canonical.proofs.Grammatical.{ArePlain, AreOthersPlain, is_plain, others_plain}
use Rattle.ocr_program_canonical.proofs.Speakable as speakable
use Rattle.ocr_program_canonical.proofs.Speakable.{IsName, IsSpeakable, Suits, AreSpeakable, IsShort, IsWritable, AreWritable, IsWritableProgram}

-- a number fits, and a name is free
abbrev pub IsGood : Lexeme → Type 0
IsGood (lexeme.Number n) = n < 2 ^ 64
IsGood (lexeme.Name x) = IsName x
IsGood other = Unit {0}

abbrev pub AreGood : List Lexeme → Type 0
AreGood [] = Unit {0}
AreGood (t ∷ ts) = IsGood t × AreGood ts

-- at least so many lexemes of an expression lead to these
record Read (n d : ℕ) (rest : List Lexeme) (least : ℕ) : Type 0 where
  pub count : ℕ
  pub enough : least ≤ count
  pub keeps : Keeps (inside (n + count) d) rest
  pub good : AreGood rest

here : (n d : ℕ) (rest : List Lexeme) → Keeps (inside n d) rest → AreGood rest → Read n d rest 0
here n d rest k g = record { count = 0; enough = omega arith; keeps = let e : n ≡ n + 0 = omega arith in subst (λ (m : ℕ). Keeps (inside m d) rest) e k; good = g }

-- some lexemes more in front
more : (j n d : ℕ) (rest : List Lexeme) (least wanted : ℕ) → wanted ≤ j + least → Read (n + j) d rest least → Read n d rest wanted
more j n d rest least wanted low r = record {
  count = j + r.count;
  enough = omega (arith, r.enough);
  keeps = let e : n + j + r.count ≡ n + (j + r.count) = omega arith in subst (λ (m : ℕ). Keeps (inside m d) rest) e r.keeps;
  good = r.good;
}

-- what stands in front read first
join : (n d : ℕ) (mid rest : List Lexeme) (least wanted : ℕ) (r : Read n d mid least) (later : ℕ) → wanted ≤ least + later → Read (n + r.count) d rest later → Read n d rest wanted
join n d mid rest least wanted r later low s = record {
  count = r.count + s.count;
  enough = omega (arith, r.enough, s.enough);
  keeps = let e : n + r.count + s.count ≡ n + (r.count + s.count) = omega arith in subst (λ (m : ℕ). Keeps (inside m d) rest) e s.keeps;
  good = s.good;
}

-- one lexeme
one_more : (n d : ℕ) (rest : List Lexeme) → Keeps (inside (n + 1) d) rest → AreGood rest → Read n d rest 1
one_more n d rest k g = more 1 n d rest 0 1 (omega arith) (here (n + 1) d rest k g)

bracket_most : (b : Bool) (k : ℕ) → bracket_size b k ≤ k + 2
bracket_most true k = omega arith
bracket_most false k = omega arith

not_lower : (b : Bool) (k : ℕ) → b ≡ false → bracket_size b k ≡ k
not_lower b k is = ap (λ (x : Bool). bracket_size x k) is

at_most : (m l : ℕ) → l ≤ m → nat_lt m l ≡ false
at_most m l low = grind (arith, common_steps)

-- without brackets
bare : (e : Expression) (l : ℕ) → l ≤ level_of e → size_at l e ≡ size e
bare e l low = not_lower (is_lower e l) (size e) (at_most (level_of e) l low)

level_most : (op : BinaryOp) → level op ≤ 7
level_most binary.Or = omega arith
level_most binary.Xor = omega arith
level_most binary.And = omega arith
level_most binary.Eq = omega arith
level_most binary.Ne = omega arith
level_most binary.Lt = omega arith
level_most binary.Le = omega arith
level_most binary.Gt = omega arith
level_most binary.Ge = omega arith
level_most binary.Shl = omega arith
level_most binary.Shr = omega arith
level_most binary.Add = omega arith
level_most binary.Sub = omega arith
level_most binary.Mul = omega arith
level_most binary.Div = omega arith
level_most binary.Rem = omega arith

record ReadExpression (n d l : ℕ) (rest : List Lexeme) (e : Expression) : Type 0 where
  pub speakable : IsSpeakable e
  pub read : Read n d rest (size_at l e)

record ReadArguments (n d : ℕ) (ss : List ArgumentKind) (rest : List Lexeme) (args : Arguments) (least : ℕ) : Type 0 where
  pub suits : Suits ss args
  pub read : Read n d rest least

record ReadMembers (n d : ℕ) (rest : List Lexeme) (es : Arguments) : Type 0 where
  pub speakable : AreSpeakable es
  pub read : Read n d rest (arguments_size es + 1)

-- an expression of one lexeme
atom : (n d l : ℕ) (rest : List Lexeme) (e : Expression) → l ≤ level_of e → size e ≡ 1 → IsSpeakable e → Keeps (inside (n + 1) d) rest → AreGood rest → ReadExpression n d l rest e
atom n d l rest e low one s k g = record { speakable = s; read = subst (λ (m : ℕ). Read n d rest m) (sym (bare e l low ∙ one)) (one_more n d rest k g) }

signed_keeps : (op : UnaryOp) (n d : ℕ) (ts : List Lexeme) → Keeps (inside n d) (lexeme_of_sign op ∷ ts) → Keeps (inside (n + 1) d) ts
signed_keeps unary.Not n d ts k = k.1
signed_keeps unary.Invert n d ts k = k.1
signed_keeps unary.Minus n d ts k = k.1

plain_further : (s : ArgumentKind) (ss : List ArgumentKind) (args : Arguments) → is_plain s ≡ true → Suits (s ∷ ss) args → further_size args ≤ 1 + arguments_size args
plain_further _ _ _ is (speakable.one ss e more s t) = omega arith
plain_further _ _ _ is (speakable.several ss es more s t) = omega arith
plain_further _ _ _ is (speakable.function ss x more name t) = cc
plain_further _ _ _ is (speakable.flags ss e s) = omega arith
plain_further _ _ _ is (speakable.output ss e x s name) = omega arith

further_most : (es : Arguments) → AreSpeakable es → further_size es ≤ 1 + arguments_size es
further_most _ speakable.none = omega arith
further_most _ (speakable.member e es s r) = omega arith

mutual
  expression : (l : ℕ) (ts rest : List Lexeme) (e : Expression) → IsExpression l ts rest e → l ≤ UNARY_LEVEL → (n d : ℕ) → Keeps (inside n d) ts → AreGood ts → ReadExpression n d l rest e
  expression _ _ _ _ (grammar.number l i rest) low n d k g = atom n d l rest _ low refl (speakable.number i g.0) k.1 g.1
  expression _ _ _ _ (grammar.constant l c rest) low n d k g = atom n d l rest _ low refl (speakable.constant c) k.1 g.1
  expression _ _ _ _ (grammar.variable l x rest) low n d k g = atom n d l rest _ low refl (speakable.variable x g.0) k.1 g.1
  expression _ _ _ _ (grammar.paramc l rest) low n d k g = atom n d l rest _ low refl speakable.paramc k.1 g.1
  expression _ _ _ _ (grammar.depc l rest) low n d k g = atom n d l rest _ low refl speakable.depc k.1 g.1
  expression _ _ _ _ (grammar.code l rest) low n d k g = atom n d l rest _ low refl speakable.code k.1 g.1
  expression _ _ _ _ (grammar.paramv l ts rest e s) low n d k g =
      let r = expression 0 ts (lexeme.CloseSquare ∷ rest) e s (omega arith) (n + 1 + 1) d k.1.1 g.1.1 in
      let inner : Read (n + 1 + 1) d rest (size e + 1) = join (n + 1 + 1) d _ rest (size_at 0 e) (size e + 1) r.read 1 (omega (arith, bare e 0 (omega arith)))
      (one_more (n + 1 + 1 + r.read.count) d rest r.read.keeps.1 r.read.good.1) in
      record {
        speakable = speakable.paramv e r.speakable;
        read = more 1 n d rest (size e + 2) _ (omega (arith, bare (tree.Paramv e) l low)) (more 1 (n + 1) d rest (size e + 1) (size e + 2) (omega arith) inner);
      }
  expression _ _ _ _ (grammar.depv l ts rest e s) low n d k g =
      let r = expression 0 ts (lexeme.CloseSquare ∷ rest) e s (omega arith) (n + 1 + 1) d k.1.1 g.1.1 in
      let inner : Read (n + 1 + 1) d rest (size e + 1) = join (n + 1 + 1) d _ rest (size_at 0 e) (size e + 1) r.read 1 (omega (arith, bare e 0 (omega arith)))
      (one_more (n + 1 + 1 + r.read.count) d rest r.read.keeps.1 r.read.good.1) in
      record {
        speakable = speakable.depv e r.speakable;
        read = more 1 n d rest (size e + 2) _ (omega (arith, bare (tree.Depv e) l low)) (more 1 (n + 1) d rest (size e + 1) (size e + 2) (omega arith) inner);
      }
  expression _ _ _ _ (grammar.signed l op ts rest e s) low n d k g =
      let r = expression UNARY_LEVEL ts rest e s (omega arith) (n + 1) d (signed_keeps op n d ts k) g.1 in
      record {
        speakable = speakable.signed op e r.speakable;
        read = more 1 n d rest (size_at UNARY_LEVEL e) _ (omega (arith, bare (tree.Unary op e) l low)) r.read;
      }
  expression _ _ _ _ (grammar.joined l op ts mid rest a b high s t) low n d k g =
      let most = level_most op in
      let r = expression (level op) ts (lexeme.Operator op ∷ mid) a s (omega arith) n d k g in
      let q = expression (level op + 1) mid rest b t (omega arith) (n + r.read.count + 1) d r.read.keeps.1 r.read.good.1 in
      record {
        speakable = speakable.joined op a b r.speakable q.speakable;
        read = join n d _ rest (size_at (level op) a) _ r.read (1 + size_at (level op + 1) b) (omega (arith, bare (tree.Binary op a b) l high))
            (more 1 (n + r.read.count) d rest (size_at (level op + 1) b) _ (omega arith) q.read);
      }
  expression _ _ _ _ (grammar.parentheses l ts rest e s) low n d k g =
      let r = expression 0 ts (lexeme.CloseRound ∷ rest) e s (omega arith) (n + 1) d k.1 g.1 in
      let inner : Read (n + 1) d rest (size e + 1) = join (n + 1) d _ rest (size_at 0 e) (size e + 1) r.read 1 (omega (arith, bare e 0 (omega arith)))
      (one_more (n + 1 + r.read.count) d rest r.read.keeps.1 r.read.good.1) in
      record {
        speakable = r.speakable;
        read = more 1 n d rest (size e + 1) _ (omega (arith, bracket_most (is_lower e l) (size e))) inner;
      }
  expression _ _ _ _ (grammar.invoked l c ts rest args s) low n d k g =
      let r = first_arguments (shape c) ts rest args s (others_plain c) (n + 1 + 1) d k.1.1 g.1.1 in
      record {
        speakable = speakable.invoked c args r.suits;
        read = more 1 n d rest (arguments_size args + 2) _ (omega (arith, bare (tree.Invoked c args) l low)) (more 1 (n + 1) d rest (arguments_size args + 1) _ (omega arith) r.read);
      }

  first_arguments : (ss : List ArgumentKind) (ts rest : List Lexeme) (args : Arguments) → AreArguments ss ts rest args → AreOthersPlain ss → (n d : ℕ) → Keeps (inside n d) ts → AreGood ts → ReadArguments n d ss rest args (arguments_size args + 1)
  first_arguments _ _ _ _ (grammar.no_more rest) plain n d k g = record { suits = speakable.over; read = one_more n d rest k.1 g.1 }
  first_arguments _ _ _ _ (grammar.one_value ss ts mid rest e t args s f) plain n d k g =
      let r = expression 0 ts (t ∷ mid) e s (omega arith) n d k g in
      let q = following ss t mid rest args f plain (n + r.read.count) d r.read.keeps r.read.good in
      record {
        suits = speakable.one ss e args r.speakable q.suits;
        read = join n d _ rest (size_at 0 e) _ r.read (further_size args + 1) (omega (arith, bare e 0 (omega arith))) q.read;
      }
  first_arguments _ _ _ _ (grammar.flags ss ts rest e s) plain n d k g =
      let r = expression 0 ts (lexeme.CloseRound ∷ rest) e s (omega arith) n d k g in
      record {
        suits = speakable.flags ss e r.speakable;
        read = join n d _ rest (size_at 0 e) _ r.read 1 (omega (arith, bare e 0 (omega arith))) (one_more (n + r.read.count) d rest r.read.keeps.1 r.read.good.1);
      }
  first_arguments _ _ _ _ (grammar.output ss ts rest e x s) plain n d k g =
      let r = expression 0 ts (lexeme.Comma ∷ lexeme.Operator binary.And ∷ lexeme.Name x ∷ lexeme.CloseRound ∷ rest) e s (omega arith) n d k g in
      let m = n + r.read.count in
      let last : Read (m + 1 + 1 + 1) d rest 1 = one_more (m + 1 + 1 + 1) d rest r.read.keeps.1.1.1.1 r.read.good.1.1.1.1 in
      record {
        suits = speakable.output ss e x r.speakable r.read.good.1.1.0;
        read = join n d _ rest (size_at 0 e) _ r.read 4 (omega (arith, bare e 0 (omega arith)))
            (more 1 m d rest 3 4 (omega arith) (more 1 (m + 1) d rest 2 3 (omega arith) (more 1 (m + 1 + 1) d rest 1 2 (omega arith) last)));
      }
  first_arguments _ _ _ _ (grammar.one_name ss x t mid rest args f) plain n d k g =
      let q = following ss t mid rest args f plain (n + 1) d k.1 g.1 in
      record { suits = speakable.function ss x args g.0 q.suits; read = more 1 n d rest (further_size args + 1) _ (omega arith) q.read }
  first_arguments _ _ _ _ (grammar.no_values ss t mid rest args f) plain n d k g =
      let q = following ss t mid rest args f plain (n + 1 + 1) d k.1.1 g.1.1 in
      record {
        suits = speakable.several ss empty args speakable.none q.suits;
        read = more 1 n d rest (further_size args + 2) _ (omega arith) (more 1 (n + 1) d rest (further_size args + 1) _ (omega arith) q.read);
      }
  first_arguments _ _ _ _ (grammar.some_values ss t ts mid rest es args s f) plain n d k g =
      let r = members ts (t ∷ mid) es s (n + 1) d k.1 g.1 in
      let q = following ss t mid rest args f plain (n + 1 + r.read.count) d r.read.keeps r.read.good in
      record {
        suits = speakable.several ss es args r.speakable q.suits;
        read = more 1 n d rest (arguments_size es + 1 + (further_size args + 1)) _ (omega arith) (join (n + 1) d _ rest (arguments_size es + 1) _ r.read (further_size args + 1) (omega arith) q.read);
      }

  following : (ss : List ArgumentKind) (t : Lexeme) (mid rest : List Lexeme) (args : Arguments) → Follows ss t mid rest args → ArePlain ss → (n d : ℕ) → Keeps (inside n d) (t ∷ mid) → AreGood (t ∷ mid) → ReadArguments n d ss rest args (further_size args + 1)
  following _ _ _ _ _ (grammar.closes rest) plain n d k g = record { suits = speakable.over; read = one_more n d rest k.1 g.1 }
  following _ _ _ _ _ (grammar.goes s ss ts rest args a) plain n d k g =
      let r = first_arguments (s ∷ ss) ts rest args a plain.1 (n + 1) d k.1 g.1 in
      record { suits = r.suits; read = more 1 n d rest (arguments_size args + 1) _ (omega (arith, plain_further s ss args plain.0 r.suits)) r.read }

  members : (ts rest : List Lexeme) (es : Arguments) → AreMembers ts rest es → (n d : ℕ) → Keeps (inside n d) ts → AreGood ts → ReadMembers n d rest es
  members _ _ _ (grammar.last ts rest e s) n d k g =
      let r = expression 0 ts (lexeme.CloseSquare ∷ rest) e s (omega arith) n d k g in
      record {
        speakable = speakable.member e empty r.speakable speakable.none;
        read = join n d _ rest (size_at 0 e) _ r.read 1 (omega (arith, bare e 0 (omega arith))) (one_more (n + r.read.count) d rest r.read.keeps.1 r.read.good.1);
      }
  members _ _ _ (grammar.member ts mid rest e es s m) n d k g =
      let r = expression 0 ts (lexeme.Comma ∷ mid) e s (omega arith) n d k g in
      let q = members mid rest es m (n + r.read.count + 1) d r.read.keeps.1 r.read.good.1 in
      record {
        speakable = speakable.member e es r.speakable q.speakable;
        read = join n d _ rest (size_at 0 e) _ r.read (1 + (arguments_size es + 1)) (omega (arith, bare e 0 (omega arith), further_most es q.speakable)) (more 1 (n + r.read.count) d rest (arguments_size es + 1) _ (omega arith) q.read);
      }

-- ---- statements

record ReadStatement (d : ℕ) (rest : List Lexeme) (s : Statement) : Type 0 where
  pub writable : IsWritable d s
  pub keeps : Keeps (outer d) rest
  pub good : AreGood rest

record ReadStatements (d : ℕ) (rest : List Lexeme) (ss : Statements) : Type 0 where
  pub writable : AreWritable d ss
  pub keeps : Keeps (outer d) rest
  pub good : AreGood rest

-- an outermost expression, with what follows it
record ReadWhole (d : ℕ) (rest : List Lexeme) (e : Expression) : Type 0 where
  pub short : IsShort e
  pub count : ℕ
  pub keeps : Keeps (inside count d) rest
  pub good : AreGood rest

whole : (ts rest : List Lexeme) (e : Expression) → IsExpression 0 ts rest e → (d : ℕ) → Keeps (inside 0 d) ts → AreGood ts → ReadWhole d rest e
whole ts rest e s d k g =
    let r = expression 0 ts rest e s (omega arith) 0 d k g in
    let low : 0 + r.read.count ≤ 256 = inside_low (0 + r.read.count) d (keeps_now _ rest r.read.keeps) in
    record {
      short = record { speakable = r.speakable; short = omega (arith, r.read.enough, low, bare e 0 (omega arith)) };
      count = 0 + r.read.count;
      keeps = r.read.keeps;
      good = r.read.good;
    }

closed : (d : ℕ) (rest : List Lexeme) → Keeps (outer (d + 1 - 1)) rest → Keeps (outer d) rest
closed d rest k = let same : d + 1 - 1 ≡ d = omega arith in subst (λ (i : ℕ). Keeps (outer i) rest) same k

mutual
  one : (ts rest : List Lexeme) (s : Statement) → IsStatement ts rest s → (d : ℕ) → Keeps (outer d) ts → AreGood ts → ReadStatement d rest s
  one _ _ _ (grammar.bind x ts rest e s) d k g =
      let r = whole ts (lexeme.Semicolon ∷ rest) e s d k.1.1.1 g.1.1.1 in
      record { writable = speakable.bind d x e g.1.0 r.short; keeps = r.keeps.1; good = r.good.1 }
  one _ _ _ (grammar.assign x ts rest e s) d k g =
      let r = whole ts (lexeme.Semicolon ∷ rest) e s d k.1.1 g.1.1 in
      record { writable = speakable.assign d x e g.0 r.short; keeps = r.keeps.1; good = r.good.1 }
  one _ _ _ (grammar.print ts rest e s) d k g =
      let r = whole ts (lexeme.Semicolon ∷ rest) e s d k.1 g.1 in
      record { writable = speakable.print d e r.short; keeps = r.keeps.1; good = r.good.1 }
  one _ _ _ (grammar.give ts rest e s) d k g =
      let r = whole ts (lexeme.Semicolon ∷ rest) e s d k.1 g.1 in
      record { writable = speakable.give d e r.short; keeps = r.keeps.1; good = r.good.1 }
  one _ _ _ (grammar.perform c ts rest args s) d k g =
      let r = first_arguments (shape c) ts (lexeme.Semicolon ∷ rest) args s (others_plain c) (1 + 1) d k.1.1 g.1.1 in
      let low : 1 + 1 + r.read.count ≤ 256 = inside_low (1 + 1 + r.read.count) d r.read.keeps.0 in
      record { writable = speakable.perform d c args r.suits (omega (arith, r.read.enough, low)); keeps = r.read.keeps.1; good = r.read.good.1 }
  one _ _ _ (grammar.repeat ts mid rest e body s b) d k g =
      let r = whole ts (lexeme.OpenBrace ∷ mid) e s d k.1 g.1 in
      let deep : d + 1 ≤ 64 = outer_low (d + 1) (keeps_now _ mid r.keeps.1) in
      let q = all mid (lexeme.CloseBrace ∷ rest) body b (d + 1) r.keeps.1 r.good.1 in
      record { writable = speakable.repeat d e body r.short deep q.writable; keeps = closed d rest q.keeps.1; good = q.good.1 }
  one _ _ _ (grammar.when ts mid rest e first s b) d k g =
      let r = whole ts (lexeme.OpenBrace ∷ mid) e s d k.1 g.1 in
      let deep : d + 1 ≤ 64 = outer_low (d + 1) (keeps_now _ mid r.keeps.1) in
      let q = all mid (lexeme.CloseBrace ∷ rest) first b (d + 1) r.keeps.1 r.good.1 in
      record { writable = speakable.choice d e first tree.nothing r.short deep q.writable (speakable.ended (d + 1)); keeps = closed d rest q.keeps.1; good = q.good.1 }
  one _ _ _ (grammar.choice ts mid other rest e first second s b c) d k g =
      let r = whole ts (lexeme.OpenBrace ∷ mid) e s d k.1 g.1 in
      let deep : d + 1 ≤ 64 = outer_low (d + 1) (keeps_now _ mid r.keeps.1) in
      let q = all mid (lexeme.CloseBrace ∷ lexeme.Word word.Else ∷ lexeme.OpenBrace ∷ other) first b (d + 1) r.keeps.1 r.good.1 in
      let between = closed d (lexeme.Word word.Else ∷ lexeme.OpenBrace ∷ other) q.keeps.1 in
      let z = all other (lexeme.CloseBrace ∷ rest) second c (d + 1) between.1.1 q.good.1.1.1 in
      record { writable = speakable.choice d e first second r.short deep q.writable z.writable; keeps = closed d rest z.keeps.1; good = z.good.1 }

  all : (ts rest : List Lexeme) (ss : Statements) → AreStatements ts rest ss → (d : ℕ) → Keeps (outer d) ts → AreGood ts → ReadStatements d rest ss
  all _ _ _ (grammar.none rest) d k g = record { writable = speakable.ended d; keeps = k; good = g }
  all _ _ _ (grammar.more ts mid rest s ss a b) d k g =
      let r = one ts mid s a d k g in
      let q = all mid rest ss b d r.keeps r.good in
      record { writable = speakable.more d s ss r.writable q.writable; keeps = q.keeps; good = q.good }

pub program : (ts : List Lexeme) (fs : List FunctionTree) → IsProgram ts fs → Keeps (outer 0) ts → AreGood ts → IsWritableProgram fs
program _ _ grammar.over k g = speakable.over
program _ _ (grammar.function x ts rest body others a b) k g =
    let r = all ts (lexeme.CloseBrace ∷ rest) body a 1 k.1.1.1 g.1.1.1 in
    speakable.function (record { name = x; body = body }) others g.1.0 r.writable (program rest others b r.keeps.1 r.good.1)
