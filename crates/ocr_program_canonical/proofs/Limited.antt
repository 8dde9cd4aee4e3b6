-- The canonical lexemes keep the limits.
use Rattle.std.proofs.Common.{◌≡◌, ◌+◌, ◌-◌, ◌≤◌, ℕ, List, ◌∷◌, Bool, true, false, refl, sym, subst, arith}
use Rattle.ocr_program_tree.specs.declared.tree.UnaryOp.{UnaryOp}
use Rattle.ocr_program_tree.specs.declared.tree.UnaryOp.TheVariants as unary
use Rattle.ocr_program_tree.specs.declared.tree.BinaryOp.TheVariants as binary
use Rattle.ocr_program_tree.specs.Tree.{Expression, Number, Named, Var, Paramc, Depc, LastCode, Paramv, Depv, Unary, Binary, Invoked, Arguments, empty, value, list, named, Statement, Statements, FunctionTree}
use Rattle.ocr_program_grammar.specs.declared.lexeme.Lexeme.{Lexeme}
use Rattle.ocr_program_grammar.specs.declared.lexeme.Lexeme.TheVariants as lexeme
use Rattle.ocr_program_grammar.specs.declared.lexeme.Word.TheVariants as word
use Rattle.ocr_program_grammar.specs.Grammar.{level, lexeme_of_sign}
use Rattle.ocr_program_grammar.specs.declared.levels.TheConstants.{UNARY_LEVEL}
use Rattle.ocr_program_grammar.specs.Limits.{within}
use Rattle.ocr_program_canonical.proofs.Lexemes as canonical
use Rattle.ocr_program_canonical.proofs.Lexemes.{is_lower, bracket_size, size, arguments_size, further_size}
use Rattle.ocr_program_canonical.proofs.Keeps.{Keeps, inside, outer, inside_fits, outer_fits}
use Rattle.ocr_program_canonical.proofs.Speakable as speakable
use Rattle.ocr_program_canonical.proofs.Speakable.{IsWritable, AreWritable, IsWritableProgram, IsShort}

-- these lexemes are so many of an expression
record IsKept (front : List Lexeme → List Lexeme) (k : ℕ) : Type 0 where
  pub keeps : (n m d : ℕ) (ls : List Lexeme) → n + k ≡ m → m ≤ 256 → d ≤ 64 → Keeps (inside m d) ls → Keeps (inside n d) (front ls)

token : (t : Lexeme) → ((d n : ℕ) → within d n t ≡ inside (n + 1) d) → IsKept (λ ls. t ∷ ls) 1
token t is = record {
  keeps = λ n m d ls e low shallow k.
      (inside_fits n d (omega arith) shallow, subst (λ y. Keeps y ls) (sym (is d n)) (subst (λ (i : ℕ). Keeps (inside i d) ls) (sym e) k));
}

nothing : IsKept (λ ls. ls) 0
nothing = record {
  keeps = λ n m d ls e low shallow k. let same : m ≡ n = omega arith in subst (λ (i : ℕ). Keeps (inside i d) ls) same k;
}

then : (f g : List Lexeme → List Lexeme) (j k : ℕ) → IsKept f j → IsKept g k → IsKept (λ ls. f (g ls)) (j + k)
then f g j k first second = record {
  keeps = λ n m d ls e low shallow keep.
      first.keeps n (n + j) d (g ls) refl (omega arith) shallow (second.keeps (n + j) m d ls (omega arith) low shallow keep);
}

resized : (f : List Lexeme → List Lexeme) (j k : ℕ) → j ≡ k → IsKept f j → IsKept f k
resized f j k e kept = subst (λ (i : ℕ). IsKept f i) e kept

-- a token and what follows it
after : (t : Lexeme) (f : List Lexeme → List Lexeme) (j k : ℕ) → ((d n : ℕ) → within d n t ≡ inside (n + 1) d) → 1 + j ≡ k → IsKept f j → IsKept (λ ls. t ∷ f ls) k
after t f j k is e kept = resized _ (1 + j) k e (then (λ ls. t ∷ ls) f 1 j (token t is) kept)

unary_within : (op : UnaryOp) (d n : ℕ) → within d n (lexeme_of_sign op) ≡ inside (n + 1) d
unary_within unary.Not d n = refl
unary_within unary.Invert d n = refl
unary_within unary.Minus d n = refl

bracketed : (b : Bool) (f : List Lexeme → List Lexeme) (k : ℕ) → IsKept f k → IsKept (canonical.bracketed b f) (bracket_size b k)
bracketed true f k kept =
    after lexeme.OpenRound (λ ls. f (lexeme.CloseRound ∷ ls)) (k + 1) (k + 2) (λ d n. refl) (omega arith)
    (then f (λ ls. lexeme.CloseRound ∷ ls) k 1 kept (token lexeme.CloseRound (λ d n. refl)))
bracketed false f k kept = kept

mutual
  expression : (e : Expression) → IsKept (canonical.expression e) (size e)
  expression (Number n) = token (lexeme.Number n) (λ d n. refl)
  expression (Named c) = token (lexeme.Constant c) (λ d n. refl)
  expression (Var x) = token (lexeme.Name x) (λ d n. refl)
  expression Paramc = token (lexeme.Word word.Paramc) (λ d n. refl)
  expression Depc = token (lexeme.Word word.Depc) (λ d n. refl)
  expression LastCode = token (lexeme.Word word.Code) (λ d n. refl)
  expression (Paramv e) =
      after (lexeme.Word word.Paramv) (λ ls. lexeme.OpenSquare ∷ canonical.expression e (lexeme.CloseSquare ∷ ls)) (2 + size e) (3 + size e) (λ d n. refl) (omega arith)
      (after lexeme.OpenSquare (λ ls. canonical.expression e (lexeme.CloseSquare ∷ ls)) (size e + 1) (2 + size e) (λ d n. refl) (omega arith)
      (then (canonical.expression e) (λ ls. lexeme.CloseSquare ∷ ls) (size e) 1 (expression e) (token lexeme.CloseSquare (λ d n. refl))))
  expression (Depv e) =
      after (lexeme.Word word.Depv) (λ ls. lexeme.OpenSquare ∷ canonical.expression e (lexeme.CloseSquare ∷ ls)) (2 + size e) (3 + size e) (λ d n. refl) (omega arith)
      (after lexeme.OpenSquare (λ ls. canonical.expression e (lexeme.CloseSquare ∷ ls)) (size e + 1) (2 + size e) (λ d n. refl) (omega arith)
      (then (canonical.expression e) (λ ls. lexeme.CloseSquare ∷ ls) (size e) 1 (expression e) (token lexeme.CloseSquare (λ d n. refl))))
  expression (Unary op e) =
      after (lexeme_of_sign op) _ (bracket_size (is_lower e UNARY_LEVEL) (size e)) _ (unary_within op) refl
      (bracketed (is_lower e UNARY_LEVEL) (canonical.expression e) (size e) (expression e))
  expression (Binary op a b) =
      let x = is_lower a (level op) in
      let y = is_lower b (level op + 1) in
      resized _ (bracket_size x (size a) + (1 + bracket_size y (size b))) _ (omega arith)
      (then (canonical.bracketed x (canonical.expression a)) (λ ls. lexeme.Operator op ∷ canonical.bracketed y (canonical.expression b) ls) _ _
      (bracketed x (canonical.expression a) (size a) (expression a))
      (after (lexeme.Operator op) (canonical.bracketed y (canonical.expression b)) _ _ (λ d n. refl) refl (bracketed y (canonical.expression b) (size b) (expression b))))
  expression (Invoked c args) =
      after (lexeme.Call c) (λ ls. lexeme.OpenRound ∷ canonical.arguments args (lexeme.CloseRound ∷ ls)) (2 + arguments_size args) (3 + arguments_size args) (λ d n. refl) (omega arith)
      (enclosed args)

  -- the arguments of a call, in their brackets
  enclosed : (args : Arguments) → IsKept (λ ls. lexeme.OpenRound ∷ canonical.arguments args (lexeme.CloseRound ∷ ls)) (2 + arguments_size args)
  enclosed empty =
      after lexeme.OpenRound (λ ls. lexeme.CloseRound ∷ ls) 1 2 (λ d n. refl) refl (token lexeme.CloseRound (λ d n. refl))
  enclosed (value e more) =
      after lexeme.OpenRound (λ ls. canonical.expression e (canonical.further more (lexeme.CloseRound ∷ ls))) (size e + (further_size more + 1)) _ (λ d n. refl) (omega arith)
      (then (canonical.expression e) (λ ls. canonical.further more (lexeme.CloseRound ∷ ls)) (size e) (further_size more + 1) (expression e)
      (then (canonical.further more) (λ ls. lexeme.CloseRound ∷ ls) (further_size more) 1 (further more) (token lexeme.CloseRound (λ d n. refl))))
  enclosed (list es more) =
      after lexeme.OpenRound (λ ls. lexeme.OpenSquare ∷ canonical.arguments es (lexeme.CloseSquare ∷ canonical.further more (lexeme.CloseRound ∷ ls))) (2 + arguments_size es + (further_size more + 1)) _ (λ d n. refl) (omega arith)
      (then (λ ls. lexeme.OpenSquare ∷ canonical.arguments es (lexeme.CloseSquare ∷ ls)) (λ ls. canonical.further more (lexeme.CloseRound ∷ ls)) (2 + arguments_size es) (further_size more + 1) (listed es)
      (then (canonical.further more) (λ ls. lexeme.CloseRound ∷ ls) (further_size more) 1 (further more) (token lexeme.CloseRound (λ d n. refl))))
  enclosed (named x more) =
      after lexeme.OpenRound (λ ls. lexeme.Name x ∷ canonical.further more (lexeme.CloseRound ∷ ls)) (2 + further_size more) _ (λ d n. refl) (omega arith)
      (after (lexeme.Name x) (λ ls. canonical.further more (lexeme.CloseRound ∷ ls)) (further_size more + 1) (2 + further_size more) (λ d n. refl) (omega arith)
      (then (canonical.further more) (λ ls. lexeme.CloseRound ∷ ls) (further_size more) 1 (further more) (token lexeme.CloseRound (λ d n. refl))))

  -- the members of a list, in their brackets
  listed : (es : Arguments) → IsKept (λ ls. lexeme.OpenSquare ∷ canonical.arguments es (lexeme.CloseSquare ∷ ls)) (2 + arguments_size es)
  listed empty =
      after lexeme.OpenSquare (λ ls. lexeme.CloseSquare ∷ ls) 1 2 (λ d n. refl) refl (token lexeme.CloseSquare (λ d n. refl))
  listed (value e more) =
      after lexeme.OpenSquare (λ ls. canonical.expression e (canonical.further more (lexeme.CloseSquare ∷ ls))) (size e + (further_size more + 1)) _ (λ d n. refl) (omega arith)
      (then (canonical.expression e) (λ ls. canonical.further more (lexeme.CloseSquare ∷ ls)) (size e) (further_size more + 1) (expression e)
      (then (canonical.further more) (λ ls. lexeme.CloseSquare ∷ ls) (further_size more) 1 (further more) (token lexeme.CloseSquare (λ d n. refl))))
  listed (list es more) =
      after lexeme.OpenSquare (λ ls. lexeme.OpenSquare ∷ canonical.arguments es (lexeme.CloseSquare ∷ canonical.further more (lexeme.CloseSquare ∷ ls))) (2 + arguments_size es + (further_size more + 1)) _ (λ d n. refl) (omega arith)
      (then (λ ls. lexeme.OpenSquare ∷ canonical.arguments es (lexeme.CloseSquare ∷ ls)) (λ ls. canonical.further more (lexeme.CloseSquare ∷ ls)) (2 + arguments_size es) (further_size more + 1) (listed es)
      (then (canonical.further more) (λ ls. lexeme.CloseSquare ∷ ls) (further_size more) 1 (further more) (token lexeme.CloseSquare (λ d n. refl))))
  listed (named x more) =
      after lexeme.OpenSquare (λ ls. lexeme.Name x ∷ canonical.further more (lexeme.CloseSquare ∷ ls)) (2 + further_size more) _ (λ d n. refl) (omega arith)
      (after (lexeme.Name x) (λ ls. canonical.further more (lexeme.CloseSquare ∷ ls)) (further_size more + 1) (2 + further_size more) (λ d n. refl) (omega arith)
      (then (canonical.further more) (λ ls. lexeme.CloseSquare ∷ ls) (further_size more) 1 (further more) (token lexeme.CloseSquare (λ d n. refl))))

  further : (args : Arguments) → IsKept (canonical.further args) (further_size args)
  further empty = nothing
  further (value e more) =
      after lexeme.Comma (λ ls. canonical.expression e (canonical.further more ls)) (size e + further_size more) _ (λ d n. refl) (omega arith)
      (then (canonical.expression e) (canonical.further more) (size e) (further_size more) (expression e) (further more))
  further (list es more) =
      after lexeme.Comma (λ ls. lexeme.OpenSquare ∷ canonical.arguments es (lexeme.CloseSquare ∷ canonical.further more ls)) (2 + arguments_size es + further_size more) _ (λ d n. refl) (omega arith)
      (then (λ ls. lexeme.OpenSquare ∷ canonical.arguments es (lexeme.CloseSquare ∷ ls)) (canonical.further more) (2 + arguments_size es) (further_size more) (listed es) (further more))
  further (named x more) =
      after lexeme.Comma (λ ls. lexeme.Operator binary.And ∷ lexeme.Name x ∷ canonical.further more ls) (2 + further_size more) _ (λ d n. refl) (omega arith)
      (after (lexeme.Operator binary.And) (λ ls. lexeme.Name x ∷ canonical.further more ls) (1 + further_size more) (2 + further_size more) (λ d n. refl) (omega arith)
      (after (lexeme.Name x) (canonical.further more) (further_size more) (1 + further_size more) (λ d n. refl) refl (further more)))

-- ---- statements

whole : (e : Expression) (d : ℕ) (ls : List Lexeme) → IsShort e → d ≤ 64 → ((n : ℕ) → n ≤ 256 → Keeps (inside n d) ls) → Keeps (inside 0 d) (canonical.expression e ls)
whole e d ls s shallow keep = (expression e).keeps 0 (size e) d ls (omega arith) s.short shallow (keep (size e) s.short)

ends : (d : ℕ) (ls : List Lexeme) → d ≤ 64 → Keeps (outer d) ls → (n : ℕ) → n ≤ 256 → Keeps (inside n d) (lexeme.Semicolon ∷ ls)
ends d ls shallow keep n low = (inside_fits n d low shallow, keep)

opens : (d : ℕ) (ls : List Lexeme) → d ≤ 64 → Keeps (outer (d + 1)) ls → (n : ℕ) → n ≤ 256 → Keeps (inside n d) (lexeme.OpenBrace ∷ ls)
opens d ls shallow keep n low = (inside_fits n d low shallow, keep)

closes : (d : ℕ) (ls : List Lexeme) → d + 1 ≤ 64 → Keeps (outer d) ls → Keeps (outer (d + 1)) (lexeme.CloseBrace ∷ ls)
closes d ls low keep = let same : d ≡ d + 1 - 1 = omega arith in (outer_fits (d + 1) low, subst (λ (i : ℕ). Keeps (outer i) ls) same keep)

mutual
  one : (d : ℕ) (s : Statement) → IsWritable d s → d ≤ 64 → (ls : List Lexeme) → Keeps (outer d) ls → Keeps (outer d) (canonical.one s ls)
  one _ _ (speakable.bind d x e is s) shallow ls k =
      let now = outer_fits d shallow in
      (now, (now, (now, whole e d _ s shallow (ends d ls shallow k))))
  one _ _ (speakable.assign d x e is s) shallow ls k =
      let now = outer_fits d shallow in
      (now, (now, whole e d _ s shallow (ends d ls shallow k)))
  one _ _ (speakable.print d e s) shallow ls k = (outer_fits d shallow, whole e d _ s shallow (ends d ls shallow k))
  one _ _ (speakable.give d e s) shallow ls k = (outer_fits d shallow, whole e d _ s shallow (ends d ls shallow k))
  one _ _ (speakable.perform d c args s low) shallow ls k =
      (outer_fits d shallow, (enclosed args).keeps 1 (3 + arguments_size args) d _ (omega arith) low shallow (ends d ls shallow k _ low))
  one _ _ (speakable.repeat d e body s low w) shallow ls k =
      (outer_fits d shallow, whole e d _ s shallow (opens d _ shallow (all (d + 1) body w low _ (closes d ls low k))))
  one _ _ (speakable.choice d e first _ s low w (speakable.ended _)) shallow ls k =
      (outer_fits d shallow, whole e d _ s shallow (opens d _ shallow (all (d + 1) first w low _ (closes d ls low k))))
  one _ _ (speakable.choice d e first _ s low w (speakable.more d2 t ts v vs)) shallow ls k =
      let now = outer_fits d shallow in
      let inner = canonical.one t (canonical.all ts (lexeme.CloseBrace ∷ ls)) in
      let other : Keeps (outer d) (lexeme.Word word.Else ∷ lexeme.OpenBrace ∷ inner) =
      (now, (now, one d2 t v low _ (all d2 ts vs low _ (closes d ls low k)))) in
      (now, whole e d _ s shallow (opens d _ shallow (all (d + 1) first w low _ (closes d (lexeme.Word word.Else ∷ lexeme.OpenBrace ∷ inner) low other))))

  all : (d : ℕ) (ss : Statements) → AreWritable d ss → d ≤ 64 → (ls : List Lexeme) → Keeps (outer d) ls → Keeps (outer d) (canonical.all ss ls)
  all _ _ (speakable.ended d) shallow ls k = k
  all _ _ (speakable.more d s ss v vs) shallow ls k = one d s v shallow _ (all d ss vs shallow ls k)

pub program : (fs : List FunctionTree) → IsWritableProgram fs → Keeps (outer 0) (canonical.program fs)
program _ speakable.over = refl
program _ (speakable.function f fs is w others) =
    (refl, (refl, (refl, all 1 f.body w (omega arith) _ (refl, program fs others))))
