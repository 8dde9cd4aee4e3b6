-- The canonical text is read as the canonical lexemes.
use Rattle.std.proofs.Common.{◌≡◌, ◌+◌, ℕ, List, [], ◌∷◌, ◌++◌, Bool, true, false, ◌&&◌, ◌||◌, ◌==◌, cond, refl, sym, ap, subst, ◌∙◌, append_assoc, arith, codes}
use Rattle.std.proofs.lemmas.Grind.{common_steps}
use Rattle.std.specs.Prelude.{decimal}
use Rattle.std.specs.List.{list_all}
use Rattle.std.proofs.lemmas.Bool.{and_parts}
use Rattle.ocr_program_tree.specs.declared.tree.UnaryOp.{UnaryOp}
use Rattle.ocr_program_tree.specs.declared.tree.UnaryOp.TheVariants as unary
use Rattle.ocr_program_tree.specs.declared.tree.BinaryOp.{BinaryOp}
use Rattle.ocr_program_tree.specs.declared.tree.BinaryOp.TheVariants as binary
use Rattle.ocr_program_tree.specs.Tree.{Expression, Arguments, empty, value, list, named, Statement, Statements, FunctionTree}
use Rattle.ocr_text.specs.declared.token.TokenKind.TheVariants as kind
use Rattle.ocr_text.specs.Forms.{is_blank, is_digit, is_letter, is_form}
use Rattle.ocr_text.specs.Scan.{second_of}
use Rattle.ocr_program_grammar.specs.declared.lexeme.Lexeme.{Lexeme}
use Rattle.ocr_program_grammar.specs.declared.lexeme.Lexeme.TheVariants as lexeme
use Rattle.ocr_program_grammar.specs.declared.lexeme.Word.TheVariants as reserved
use Rattle.ocr_program_grammar.specs.declared.argument_kind.ArgumentKind.{ArgumentKind}
use Rattle.ocr_program_grammar.specs.Shape.{shape}
use Rattle.ocr_program_grammar.specs.Grammar.{level, lexeme_of_sign}
use Rattle.ocr_program_grammar.specs.declared.levels.TheConstants.{UNARY_LEVEL}
use Rattle.ocr_program_grammar.specs.Texts.{operator_text, sign_text, call_text, constant_text}
use Rattle.ocr_program_canonical.specs.Canonical.{expression_text, arguments_text, further_text, statement_text, statements_text, function_text, program_text}
use Rattle.ocr_program_canonical.specs.Written.{deeper, further_functions}
use Rattle.ocr_program_canonical.proofs.Lexemes as canonical
use Rattle.ocr_program_canonical.proofs.Lexemes.{is_lower}
use Rattle.ocr_program_canonical.proofs.Lexed as lexed
use Rattle.ocr_program_canonical.proofs.Lexed.{IsLexed, Stops, space, line_feed, blanks, word, number_before, decimal_form, single, plain, whole, open_round, close_round, comma, semicolon, open_square, close_square, open_brace, close_brace}
use Rattle.ocr_program_grammar.proofs.Spelling.{spelling_law}
use Rattle.ocr_program_canonical.proofs.Spellings.{call_form, constant_form}
use Rattle.ocr_program_canonical.proofs.Speakable as speakable
use Rattle.ocr_program_canonical.proofs.Speakable.{IsSpeakable, Suits, AreSpeakable, IsWritable, AreWritable, IsWritableProgram}

-- ---- signs

unary_before : (op : UnaryOp) (rest : List ℕ) (ls : List Lexeme) → second_of 33 rest ≡ 0 → IsLexed rest ls → IsLexed (sign_text op ++ rest) (lexeme_of_sign op ∷ ls)
unary_before unary.Not rest ls apart d = single 33 rest lexeme.Not ls refl apart refl d
unary_before unary.Invert rest ls apart d = plain 126 rest lexeme.Invert ls refl (λ b. refl) refl d
unary_before unary.Minus rest ls apart d = plain 45 rest (lexeme.Operator binary.Sub) ls refl (λ b. refl) refl d

operator_before : (op : BinaryOp) (rest : List ℕ) (ls : List Lexeme) → IsLexed rest ls → IsLexed (32 ∷ (operator_text op ++ 32 ∷ rest)) (lexeme.Operator op ∷ ls)
operator_before binary.Or rest ls d = space _ _ (single 124 (32 ∷ rest) _ ls refl refl refl (space rest ls d))
operator_before binary.Xor rest ls d = space _ _ (single 94 (32 ∷ rest) _ ls refl refl refl (space rest ls d))
operator_before binary.And rest ls d = space _ _ (single 38 (32 ∷ rest) _ ls refl refl refl (space rest ls d))
operator_before binary.Eq rest ls d = space _ _ (whole kind.Symbol (61 ∷ 61 ∷ []) (32 ∷ rest) _ ls refl (lexed.symbol _ _ refl) (space rest ls d))
operator_before binary.Ne rest ls d = space _ _ (whole kind.Symbol (33 ∷ 61 ∷ []) (32 ∷ rest) _ ls refl (lexed.symbol _ _ refl) (space rest ls d))
operator_before binary.Lt rest ls d = space _ _ (single 60 (32 ∷ rest) _ ls refl refl refl (space rest ls d))
operator_before binary.Le rest ls d = space _ _ (whole kind.Symbol (60 ∷ 61 ∷ []) (32 ∷ rest) _ ls refl (lexed.symbol _ _ refl) (space rest ls d))
operator_before binary.Gt rest ls d = space _ _ (single 62 (32 ∷ rest) _ ls refl refl refl (space rest ls d))
operator_before binary.Ge rest ls d = space _ _ (whole kind.Symbol (62 ∷ 61 ∷ []) (32 ∷ rest) _ ls refl (lexed.symbol _ _ refl) (space rest ls d))
operator_before binary.Shl rest ls d = space _ _ (whole kind.Symbol (60 ∷ 60 ∷ []) (32 ∷ rest) _ ls refl (lexed.symbol _ _ refl) (space rest ls d))
operator_before binary.Shr rest ls d = space _ _ (whole kind.Symbol (62 ∷ 62 ∷ []) (32 ∷ rest) _ ls refl (lexed.symbol _ _ refl) (space rest ls d))
operator_before binary.Add rest ls d = space _ _ (single 43 (32 ∷ rest) _ ls refl refl refl (space rest ls d))
operator_before binary.Sub rest ls d = space _ _ (single 45 (32 ∷ rest) _ ls refl refl refl (space rest ls d))
operator_before binary.Mul rest ls d = space _ _ (single 42 (32 ∷ rest) _ ls refl refl refl (space rest ls d))
operator_before binary.Div rest ls d = space _ _ (single 47 (32 ∷ rest) _ ls refl refl refl (space rest ls d))
operator_before binary.Rem rest ls d = space _ _ (single 37 (32 ∷ rest) _ ls refl refl refl (space rest ls d))

and_sign : (rest : List ℕ) (ls : List Lexeme) → IsLexed rest ls → IsLexed (38 ∷ rest) (lexeme.Operator binary.And ∷ ls)
and_sign rest ls d = plain 38 rest _ ls refl (λ b. refl) refl d

equals : (rest : List ℕ) (ls : List Lexeme) → IsLexed rest ls → IsLexed (61 ∷ 32 ∷ rest) (lexeme.Equals ∷ ls)
equals rest ls d = single 61 (32 ∷ rest) lexeme.Equals ls refl refl refl (space rest ls d)

-- ---- what stands at the front of an expression

no_equals : (b : ℕ) (bs : List ℕ) → (b == 61) ≡ false → second_of 33 (b ∷ bs) ≡ 0
no_equals b bs is = ap (λ (x : Bool). cond (x || false) 1 0) is

letter_apart : (b : ℕ) → is_letter b ≡ true → (b == 61) ≡ false
letter_apart b is = grind (arith, common_steps)

digit_apart : (b : ℕ) → is_digit b ≡ true → (b == 61) ≡ false
digit_apart b is = grind (arith, common_steps)

name_apart : (x rest : List ℕ) → is_form kind.Name x ≡ true → second_of 33 (x ++ rest) ≡ 0
name_apart [] rest form = cc
name_apart (b ∷ bs) rest form = no_equals b (bs ++ rest) (letter_apart b (and_parts _ _ form).0)

number_apart : (x rest : List ℕ) → is_form kind.Number x ≡ true → second_of 33 (x ++ rest) ≡ 0
number_apart [] rest form = cc
number_apart (b ∷ bs) rest form = no_equals b (bs ++ rest) (digit_apart b (and_parts _ _ form).0)

unary_apart : (op : UnaryOp) (x rest : List ℕ) → second_of 33 (sign_text op ++ x ++ rest) ≡ 0
unary_apart unary.Not x rest = refl
unary_apart unary.Invert x rest = refl
unary_apart unary.Minus x rest = refl

abbrev in_brackets : Bool → List ℕ → List ℕ
in_brackets b x = cond b (codes "(" ++ x ++ codes ")") x

bracketed_apart : (b : Bool) (x : List ℕ) → ((rest : List ℕ) → second_of 33 (x ++ rest) ≡ 0) → (rest : List ℕ) → second_of 33 (in_brackets b x ++ rest) ≡ 0
bracketed_apart true x all rest = refl
bracketed_apart false x all rest = all rest

apart : (e : Expression) → IsSpeakable e → (rest : List ℕ) → second_of 33 (expression_text e ++ rest) ≡ 0
apart _ (speakable.number n low) rest = number_apart (decimal n) rest (decimal_form n low)
apart _ (speakable.constant c) rest = name_apart (constant_text c) rest (constant_form c)
apart _ (speakable.variable x is) rest = name_apart x rest is.form
apart _ speakable.paramc rest = refl
apart _ speakable.depc rest = refl
apart _ speakable.code rest = refl
apart _ (speakable.paramv e s) rest = refl
apart _ (speakable.depv e s) rest = refl
apart _ (speakable.signed op e s) rest = unary_apart op _ rest
apart _ (speakable.joined op a b s t) rest = simp append_assoc (bracketed_apart (is_lower a (level op)) (expression_text a) (apart a s) _)
apart _ (speakable.invoked c args s) rest = simp append_assoc (name_apart (call_text c) _ (call_form c))

-- ---- expressions

-- the text is read as these lexemes before what stops a word
abbrev IsWritten : List ℕ → (List Lexeme → List Lexeme) → Type 0
IsWritten x front = (rest : List ℕ) (ls : List Lexeme) → Stops rest → IsLexed rest ls → IsLexed (x ++ rest) (front ls)

bracketed : (b : Bool) (x : List ℕ) (front : List Lexeme → List Lexeme) → IsWritten x front → IsWritten (in_brackets b x) (canonical.bracketed b front)
bracketed true x front all rest ls stops d = simp append_assoc (open_round _ _ (all (41 ∷ rest) _ refl (close_round rest ls d)))
bracketed false x front all rest ls stops d = all rest ls stops d

stops_further : (args : Arguments) (rest : List ℕ) → Stops rest → Stops (further_text args ++ rest)
stops_further empty rest stops = stops
stops_further (value e more) rest stops = refl
stops_further (list es more) rest stops = refl
stops_further (named x more) rest stops = refl

-- the variable that a call sets, after the flags
output_is : (t x rest : List ℕ) → t ++ 44 ∷ 32 ∷ 38 ∷ (x ++ []) ++ rest ≡ t ++ 44 ∷ 32 ∷ 38 ∷ (x ++ rest)
output_is t x rest =
    append_assoc t (44 ∷ 32 ∷ 38 ∷ (x ++ [])) rest ∙ ap (λ (l : List ℕ). t ++ 44 ∷ 32 ∷ 38 ∷ l) (append_assoc x [] rest)

output_before : (e : Expression) (x rest : List ℕ) (ls : List Lexeme) → IsWritten (expression_text e) (canonical.expression e) → speakable.IsName x
    → Stops rest → IsLexed rest ls → IsLexed (expression_text e ++ further_text (named x empty) ++ rest) (canonical.expression e (canonical.further (named x empty) ls))
output_before e x rest ls all is stops d =
    subst (λ (l : List ℕ). IsLexed l (canonical.expression e (canonical.further (named x empty) ls))) (sym (output_is (expression_text e) x rest))
    (all _ _ refl (comma _ _ (space _ _ (and_sign _ _ (word x rest _ ls is.form is.free stops d)))))

mutual
  expression : (e : Expression) → IsSpeakable e → IsWritten (expression_text e) (canonical.expression e)
  expression _ (speakable.number n low) rest ls stops d = number_before n rest ls low stops d
  expression _ (speakable.constant c) rest ls stops d = word (constant_text c) rest _ ls (constant_form c) (spelling_law.constant c) stops d
  expression _ (speakable.variable x is) rest ls stops d = word x rest _ ls is.form is.free stops d
  expression _ speakable.paramc rest ls stops d = word (codes "paramc") rest _ ls refl refl stops d
  expression _ speakable.depc rest ls stops d = word (codes "depc") rest _ ls refl refl stops d
  expression _ speakable.code rest ls stops d = word (codes "code") rest _ ls refl refl stops d
  expression _ (speakable.paramv e s) rest ls stops d =
      simp append_assoc (word (codes "paramv") _ (lexeme.Word reserved.Paramv) _ refl refl refl (open_square _ _ (expression e s (93 ∷ rest) _ refl (close_square rest ls d))))
  expression _ (speakable.depv e s) rest ls stops d =
      simp append_assoc (word (codes "depv") _ (lexeme.Word reserved.Depv) _ refl refl refl (open_square _ _ (expression e s (93 ∷ rest) _ refl (close_square rest ls d))))
  expression _ (speakable.signed op e s) rest ls stops d =
      let b = is_lower e UNARY_LEVEL in
      simp append_assoc (unary_before op _ _ (bracketed_apart b (expression_text e) (apart e s) rest)
      (bracketed b (expression_text e) (canonical.expression e) (expression e s) rest ls stops d))
  expression _ (speakable.joined op a b s t) rest ls stops d =
      let x = is_lower a (level op) in
      let y = is_lower b (level op + 1) in
      simp append_assoc (bracketed x (expression_text a) (canonical.expression a) (expression a s) _ _ refl
      (operator_before op _ _ (bracketed y (expression_text b) (canonical.expression b) (expression b t) rest ls stops d)))
  expression _ (speakable.invoked c args s) rest ls stops d =
      simp append_assoc (word (call_text c) _ _ _ (call_form c) (spelling_law.call c) refl (open_round _ _ (arguments (shape c) args s (41 ∷ rest) _ refl (close_round rest ls d))))

  arguments : (ss : List ArgumentKind) (args : Arguments) → Suits ss args → IsWritten (arguments_text args) (canonical.arguments args)
  arguments _ _ speakable.over rest ls stops d = d
  arguments _ _ (speakable.one ss e more s t) rest ls stops d =
      simp append_assoc (expression e s _ _ (stops_further more rest stops) (further ss more t rest ls stops d))
  arguments _ _ (speakable.several ss es more s t) rest ls stops d =
      simp append_assoc (open_square _ _ (members es s _ _ refl (close_square _ _ (further ss more t rest ls stops d))))
  arguments _ _ (speakable.function ss x more is t) rest ls stops d =
      simp append_assoc (word x _ _ _ is.form is.free (stops_further more rest stops) (further ss more t rest ls stops d))
  arguments _ _ (speakable.flags ss e s) rest ls stops d = simp append_assoc (expression e s rest ls stops d)
  arguments _ _ (speakable.output ss e x s is) rest ls stops d = output_before e x rest ls (expression e s) is stops d

  further : (ss : List ArgumentKind) (args : Arguments) → Suits ss args → IsWritten (further_text args) (canonical.further args)
  further _ _ speakable.over rest ls stops d = d
  further _ _ (speakable.one ss e more s t) rest ls stops d =
      simp append_assoc (comma _ _ (space _ _ (expression e s _ _ (stops_further more rest stops) (further ss more t rest ls stops d))))
  further _ _ (speakable.several ss es more s t) rest ls stops d =
      simp append_assoc (comma _ _ (space _ _ (open_square _ _ (members es s _ _ refl (close_square _ _ (further ss more t rest ls stops d))))))
  further _ _ (speakable.function ss x more is t) rest ls stops d =
      simp append_assoc (comma _ _ (space _ _ (and_sign _ _ (word x _ _ _ is.form is.free (stops_further more rest stops) (further ss more t rest ls stops d)))))
  further _ _ (speakable.flags ss e s) rest ls stops d = simp append_assoc (comma _ _ (space _ _ (expression e s rest ls stops d)))
  further _ _ (speakable.output ss e x s is) rest ls stops d =
      comma _ _ (space _ _ (output_before e x rest ls (expression e s) is stops d))

  members : (es : Arguments) → AreSpeakable es → IsWritten (arguments_text es) (canonical.arguments es)
  members _ speakable.none rest ls stops d = d
  members _ (speakable.member e es s r) rest ls stops d =
      simp append_assoc (expression e s _ _ (stops_further es rest stops) (further_members es r rest ls stops d))

  further_members : (es : Arguments) → AreSpeakable es → IsWritten (further_text es) (canonical.further es)
  further_members _ speakable.none rest ls stops d = d
  further_members _ (speakable.member e es s r) rest ls stops d =
      simp append_assoc (comma _ _ (space _ _ (expression e s _ _ (stops_further es rest stops) (further_members es r rest ls stops d))))

-- ---- statements

-- lines are read as these lexemes before anything
abbrev AreLines : List ℕ → (List Lexeme → List Lexeme) → Type 0
AreLines x front = (rest : List ℕ) (ls : List Lexeme) → IsLexed rest ls → IsLexed (x ++ rest) (front ls)

deeper_blank : (margin : List ℕ) → list_all is_blank margin ≡ true → list_all is_blank (deeper margin) ≡ true
deeper_blank [] is = refl
deeper_blank (b ∷ bs) is = both (is_blank b) _ (and_parts _ _ is).0 (deeper_blank bs (right (is_blank b) _ is))
  where
    both : (x y : Bool) → x ≡ true → y ≡ true → (x && y) ≡ true
    both true y first second = second
    both false y first second = cc

    right : (x y : Bool) → (x && y) ≡ true → y ≡ true
    right true y is = is
    right false y is = cc

mutual
  one : (d : ℕ) (s : Statement) → IsWritable d s → (margin : List ℕ) → list_all is_blank margin ≡ true → AreLines (statement_text margin s) (canonical.one s)
  one _ _ (speakable.bind d x e is s) margin m rest ls r =
      simp append_assoc (blanks margin _ _ m (word (codes "let") _ (lexeme.Word reserved.Let) _ refl refl refl (space _ _ (word x _ _ _ is.form is.free refl
      (space _ _ (equals _ _ (expression e s.speakable _ _ refl (semicolon _ _ (line_feed rest ls r)))))))))
  one _ _ (speakable.assign d x e is s) margin m rest ls r =
      simp append_assoc (blanks margin _ _ m (word x _ _ _ is.form is.free refl
      (space _ _ (equals _ _ (expression e s.speakable _ _ refl (semicolon _ _ (line_feed rest ls r)))))))
  one _ _ (speakable.print d e s) margin m rest ls r =
      simp append_assoc (blanks margin _ _ m (word (codes "print") _ (lexeme.Word reserved.Print) _ refl refl refl (space _ _
      (expression e s.speakable _ _ refl (semicolon _ _ (line_feed rest ls r))))))
  one _ _ (speakable.give d e s) margin m rest ls r =
      simp append_assoc (blanks margin _ _ m (word (codes "return") _ (lexeme.Word reserved.Return) _ refl refl refl (space _ _
      (expression e s.speakable _ _ refl (semicolon _ _ (line_feed rest ls r))))))
  one _ _ (speakable.perform d c args s low) margin m rest ls r =
      simp append_assoc (blanks margin _ _ m (word (call_text c) _ _ _ (call_form c) (spelling_law.call c) refl (open_round _ _
      (arguments (shape c) args s _ _ refl (close_round _ _ (semicolon _ _ (line_feed rest ls r)))))))
  one _ _ (speakable.repeat d e body s low w) margin m rest ls r =
      simp append_assoc (blanks margin _ _ m (word (codes "while") _ (lexeme.Word reserved.While) _ refl refl refl (space _ _
      (expression e s.speakable _ _ refl (space _ _ (open_brace _ _ (line_feed _ _ (all (d + 1) body w (deeper margin) (deeper_blank margin m) _ _
      (blanks margin _ _ m (close_brace _ _ (line_feed rest ls r)))))))))))
  one _ _ (speakable.choice d e first _ s low w (speakable.ended _)) margin m rest ls r =
      simp append_assoc (blanks margin _ _ m (word (codes "if") _ (lexeme.Word reserved.If) _ refl refl refl (space _ _
      (expression e s.speakable _ _ refl (space _ _ (open_brace _ _ (line_feed _ _ (all (d + 1) first w (deeper margin) (deeper_blank margin m) _ _
      (blanks margin _ _ m (close_brace _ _ (line_feed rest ls r)))))))))))
  one _ _ (speakable.choice d e first _ s low w (speakable.more d2 t ts v vs)) margin m rest ls r =
      simp append_assoc (blanks margin _ _ m (word (codes "if") _ (lexeme.Word reserved.If) _ refl refl refl (space _ _
      (expression e s.speakable _ _ refl (space _ _ (open_brace _ _ (line_feed _ _ (all (d + 1) first w (deeper margin) (deeper_blank margin m) _ _
      (blanks margin _ _ m (close_brace _ _ (space _ _ (word (codes "else") _ (lexeme.Word reserved.Else) _ refl refl refl (space _ _ (open_brace _ _ (line_feed _ _
      (one d2 t v (deeper margin) (deeper_blank margin m) _ _ (all d2 ts vs (deeper margin) (deeper_blank margin m) _ _
      (blanks margin _ _ m (close_brace _ _ (line_feed rest ls r))))))))))))))))))))

  all : (d : ℕ) (ss : Statements) → AreWritable d ss → (margin : List ℕ) → list_all is_blank margin ≡ true → AreLines (statements_text margin ss) (canonical.all ss)
  all _ _ (speakable.ended d) margin m rest ls r = r
  all _ _ (speakable.more d s ss v vs) margin m rest ls r = simp append_assoc (one d s v margin m _ _ (all d ss vs margin m rest ls r))

function_is : (x b rest : List ℕ) → x ++ 32 ∷ 123 ∷ [] ++ 10 ∷ [] ++ b ++ 125 ∷ 10 ∷ [] ++ rest ≡ x ++ 32 ∷ 123 ∷ 10 ∷ (b ++ 125 ∷ 10 ∷ rest)
function_is x b rest = simp append_assoc

function : (f : FunctionTree) → speakable.IsName f.name → AreWritable 1 f.body → (rest : List ℕ) (ls : List Lexeme) → IsLexed rest ls
    → IsLexed (function_text f ++ rest) (lexeme.Word reserved.Fn ∷ lexeme.Name f.name ∷ lexeme.OpenBrace ∷ canonical.all f.body (lexeme.CloseBrace ∷ ls))
function f is w rest ls r =
    subst (λ (l : List ℕ). IsLexed (102 ∷ 110 ∷ 32 ∷ l) (lexeme.Word reserved.Fn ∷ lexeme.Name f.name ∷ lexeme.OpenBrace ∷ canonical.all f.body (lexeme.CloseBrace ∷ ls)))
    (sym (function_is f.name (statements_text (codes "  ") f.body) rest))
    (word (codes "fn") _ (lexeme.Word reserved.Fn) _ refl refl refl (space _ _ (word f.name _ _ _ is.form is.free refl
    (space _ _ (open_brace _ _ (line_feed _ _ (all 1 f.body w (codes "  ") refl _ _ (close_brace _ _ (line_feed rest ls r)))))))))

others : (fs : List FunctionTree) → IsWritableProgram fs → IsLexed (further_functions fs) (canonical.program fs)
others _ speakable.over = lexed.over
others _ (speakable.function f fs is w more) = line_feed _ _ (function f is w _ _ (others fs more))

pub program : (fs : List FunctionTree) → IsWritableProgram fs → IsLexed (program_text fs) (canonical.program fs)
program _ speakable.over = lexed.over
program _ (speakable.function f fs is w more) = function f is w _ _ (others fs more)
