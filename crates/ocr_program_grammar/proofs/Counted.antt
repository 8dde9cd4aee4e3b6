-- The tally counts the tokens of an expression, one by one.
use Rattle.std.proofs.Common.{◌≡◌, ◌+◌, ℕ, List, [], ◌∷◌, ◌++◌, length, Some, refl, sym, ap, ◌∙◌, arith, append_assoc, length-append}
use Rattle.ocr_program_tree.specs.declared.tree.BinaryOp.TheVariants as binary
use Rattle.ocr_program_tree.specs.declared.tree.UnaryOp.{UnaryOp}
use Rattle.ocr_program_tree.specs.declared.tree.UnaryOp.TheVariants as unary
use Rattle.ocr_program_tree.specs.Tree.{Expression, Arguments}
use Rattle.ocr_program_grammar.specs.declared.lexeme.Lexeme.{Lexeme}
use Rattle.ocr_program_grammar.specs.declared.lexeme.Lexeme.TheVariants as lexeme
use Rattle.ocr_program_grammar.specs.declared.lexeme.Word.TheVariants as word
use Rattle.ocr_program_grammar.specs.declared.argument_kind.ArgumentKind.{ArgumentKind}
use Rattle.ocr_program_grammar.specs.Grammar as g
use Rattle.ocr_program_grammar.specs.Grammar.{level, lexeme_of_sign, IsExpression, AreArguments, Follows, AreMembers}
use Rattle.ocr_program_grammar.specs.Shape.{shape}
use Rattle.ocr_program_grammar.specs.Limits.{Tally, within, tally_after}
use Rattle.ocr_program_grammar.specs.Counts.{tally}
use Rattle.ocr_program_grammar.specs.Laws.{IsCounted, CountLaw}

pub tally_append : (y : Tally) (a b : List Lexeme) → tally y (a ++ b) ≡ tally (tally y a) b
tally_append y [] b = refl
tally_append y (t ∷ a) b = tally_append (tally_after y t) a b

none : (ts : List Lexeme) → IsCounted ts ts
none ts = record {
  front = [];
  split = refl;
  counted = λ n d. let e : n ≡ n + 0 = omega arith in ap (λ (k : ℕ). record { tokens = Some k; depth = d }) e;
}

one : (t : Lexeme) (ts rest : List Lexeme) → ((n d : ℕ) → within d n t ≡ record { tokens = Some (n + 1); depth = d })
    → IsCounted ts rest → IsCounted (t ∷ ts) rest
one t ts rest plain s = record {
  front = t ∷ s.front;
  split = ap (λ (l : List Lexeme). t ∷ l) s.split;
  counted = λ n d. let e : n + 1 + length s.front ≡ n + length (t ∷ s.front) = omega arith in
      ap (λ (y : Tally). tally y s.front) (plain n d) ∙ s.counted (n + 1) d ∙ ap (λ (k : ℕ). record { tokens = Some k; depth = d }) e;
}

both : (ts mid rest : List Lexeme) → IsCounted ts mid → IsCounted mid rest → IsCounted ts rest
both ts mid rest a b = record {
  front = a.front ++ b.front;
  split = a.split ∙ ap (λ (l : List Lexeme). a.front ++ l) b.split ∙ sym (append_assoc a.front b.front rest);
  counted = λ n d. let e : n + length a.front + length b.front ≡ n + length (a.front ++ b.front) = omega (arith, length-append a.front b.front) in
      tally_append _ a.front b.front ∙ ap (λ (y : Tally). tally y b.front) (a.counted n d) ∙ b.counted (n + length a.front) d ∙ ap (λ (k : ℕ). record { tokens = Some k; depth = d }) e;
}

-- one token and no more
last : (t : Lexeme) (rest : List Lexeme) → ((n d : ℕ) → within d n t ≡ record { tokens = Some (n + 1); depth = d })
    → IsCounted (t ∷ rest) rest
last t rest plain = one t rest rest plain (none rest)

-- an expression and the token that closes it
closed : (t : Lexeme) (ts rest : List Lexeme) → ((n d : ℕ) → within d n t ≡ record { tokens = Some (n + 1); depth = d })
    → IsCounted ts (t ∷ rest) → IsCounted ts rest
closed t ts rest plain d = both ts (t ∷ rest) rest d (last t rest plain)

unary_plain : (op : UnaryOp) (n d : ℕ) → within d n (lexeme_of_sign op) ≡ record { tokens = Some (n + 1); depth = d }
unary_plain unary.Not n d = refl
unary_plain unary.Invert n d = refl
unary_plain unary.Minus n d = refl

mutual
  pub expression : (l : ℕ) (ts rest : List Lexeme) (e : Expression) → IsExpression l ts rest e → IsCounted ts rest
  expression _ _ _ _ (g.number l n rest) = last (lexeme.Number n) rest (λ _ _. refl)
  expression _ _ _ _ (g.constant l c rest) = last (lexeme.Constant c) rest (λ _ _. refl)
  expression _ _ _ _ (g.variable l x rest) = last (lexeme.Name x) rest (λ _ _. refl)
  expression _ _ _ _ (g.paramc l rest) = last (lexeme.Word word.Paramc) rest (λ _ _. refl)
  expression _ _ _ _ (g.depc l rest) = last (lexeme.Word word.Depc) rest (λ _ _. refl)
  expression _ _ _ _ (g.code l rest) = last (lexeme.Word word.Code) rest (λ _ _. refl)
  expression _ _ _ _ (g.paramv l ts rest e d) =
      one (lexeme.Word word.Paramv) _ rest (λ _ _. refl) (one lexeme.OpenSquare ts rest (λ _ _. refl) (closed lexeme.CloseSquare ts rest (λ _ _. refl) (expression 0 ts (lexeme.CloseSquare ∷ rest) e d)))
  expression _ _ _ _ (g.depv l ts rest e d) =
      one (lexeme.Word word.Depv) _ rest (λ _ _. refl) (one lexeme.OpenSquare ts rest (λ _ _. refl) (closed lexeme.CloseSquare ts rest (λ _ _. refl) (expression 0 ts (lexeme.CloseSquare ∷ rest) e d)))
  expression _ _ _ _ (g.signed l op ts rest e d) = one (lexeme_of_sign op) ts rest (unary_plain op) (expression 8 ts rest e d)
  expression _ _ _ _ (g.joined l op ts mid rest a b low first second) =
      both ts (lexeme.Operator op ∷ mid) rest (expression (level op) ts (lexeme.Operator op ∷ mid) a first) (one (lexeme.Operator op) mid rest (λ _ _. refl) (expression (level op + 1) mid rest b second))
  expression _ _ _ _ (g.parentheses l ts rest e d) =
      one lexeme.OpenRound ts rest (λ _ _. refl) (closed lexeme.CloseRound ts rest (λ _ _. refl) (expression 0 ts (lexeme.CloseRound ∷ rest) e d))
  expression _ _ _ _ (g.invoked l c ts rest args d) =
      one (lexeme.Call c) _ rest (λ _ _. refl) (one lexeme.OpenRound ts rest (λ _ _. refl) (arguments (shape c) ts rest args d))

  pub arguments : (ss : List ArgumentKind) (ts rest : List Lexeme) (args : Arguments) → AreArguments ss ts rest args → IsCounted ts rest
  arguments _ _ _ _ (g.no_more rest) = last lexeme.CloseRound rest (λ _ _. refl)
  arguments _ _ _ _ (g.one_value ss ts mid rest e t args d f) =
      both ts (t ∷ mid) rest (expression 0 ts (t ∷ mid) e d) (follow ss t mid rest args f)
  arguments _ _ _ _ (g.flags ss ts rest e d) =
      closed lexeme.CloseRound ts rest (λ _ _. refl) (expression 0 ts (lexeme.CloseRound ∷ rest) e d)
  arguments _ _ _ _ (g.output ss ts rest e x d) =
      both ts _ rest (expression 0 ts _ e d) (one lexeme.Comma _ rest (λ _ _. refl) (one (lexeme.Operator binary.And) _ rest (λ _ _. refl) (one (lexeme.Name x) _ rest (λ _ _. refl) (last lexeme.CloseRound rest (λ _ _. refl)))))
  arguments _ _ _ _ (g.one_name ss x t mid rest args f) =
      one (lexeme.Name x) (t ∷ mid) rest (λ _ _. refl) (follow ss t mid rest args f)
  arguments _ _ _ _ (g.no_values ss t mid rest args f) =
      one lexeme.OpenSquare _ rest (λ _ _. refl) (one lexeme.CloseSquare (t ∷ mid) rest (λ _ _. refl) (follow ss t mid rest args f))
  arguments _ _ _ _ (g.some_values ss t ts mid rest es args es_are f) =
      one lexeme.OpenSquare ts rest (λ _ _. refl) (both ts (t ∷ mid) rest (members ts (t ∷ mid) es es_are) (follow ss t mid rest args f))

  follow : (ss : List ArgumentKind) (t : Lexeme) (mid rest : List Lexeme) (args : Arguments) → Follows ss t mid rest args → IsCounted (t ∷ mid) rest
  follow _ _ _ _ _ (g.closes rest) = last lexeme.CloseRound rest (λ _ _. refl)
  follow _ _ _ _ _ (g.goes s ss ts rest args d) = one lexeme.Comma ts rest (λ _ _. refl) (arguments (s ∷ ss) ts rest args d)

  members : (ts rest : List Lexeme) (es : Arguments) → AreMembers ts rest es → IsCounted ts rest
  members _ _ _ (g.last ts rest e d) = closed lexeme.CloseSquare ts rest (λ _ _. refl) (expression 0 ts (lexeme.CloseSquare ∷ rest) e d)
  members _ _ _ (g.member ts mid rest e es d others) =
      both ts (lexeme.Comma ∷ mid) rest (expression 0 ts (lexeme.Comma ∷ mid) e d) (one lexeme.Comma mid rest (λ _ _. refl) (members mid rest es others))

pub count_law : CountLaw
count_law = record { expression = expression; arguments = arguments }
