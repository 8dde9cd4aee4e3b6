-- The blocks that are open along statements are those that stand in one another.
use Rattle.std.proofs.Common.{◌≡◌, ◌+◌, ◌-◌, ◌≤◌, ℕ, max, List, [], ◌∷◌, ◌++◌, length, unwrap_or, Option, Some, None, inl, inr, refl, sym, ap, subst, ◌∙◌, arith, append_assoc}
use Rattle.std.proofs.lemmas.Bool.{cases_lt}
use Rattle.std.proofs.Math.Nat.{le-max_left, le-max_right, max-le, max-eq_left, max-eq_right}
use Rattle.ocr_program_tree.specs.Tree as tree
use Rattle.ocr_program_tree.specs.Tree.{Statement, Statements, nothing}
use Rattle.ocr_program_grammar.specs.declared.lexeme.Lexeme.{Lexeme}
use Rattle.ocr_program_grammar.specs.declared.lexeme.Lexeme.TheVariants as lexeme
use Rattle.ocr_program_grammar.specs.declared.lexeme.Word.TheVariants as word
use Rattle.ocr_program_grammar.specs.Grammar as g
use Rattle.ocr_program_grammar.specs.Grammar.{IsStatement, AreStatements}
use Rattle.ocr_program_grammar.specs.Shape.{shape}
use Rattle.ocr_program_grammar.specs.Counts.{tally}
use Rattle.ocr_program_grammar.specs.Limits.{Tally, tally_step, tally_after}
use Rattle.ocr_program_grammar.specs.Nesting.{nesting_of, nesting, resting, deepest}
use Rattle.ocr_program_grammar.specs.Laws.{IsCounted, IsNested, NestingLaw}
use Rattle.ocr_program_grammar.proofs.Counted.{tally_append, expression, arguments}

-- ---- the greater of two

max_assoc : (a b c : ℕ) → max (max a b) c ≡ max a (max b c)
max_assoc a b c =
    let b_low : b ≤ max a (max b c) = omega (arith, le-max_left b c, le-max_right a (max b c)) in
    let c_low : c ≤ max a (max b c) = omega (arith, le-max_right b c, le-max_right a (max b c)) in
    let a_high : a ≤ max (max a b) c = omega (arith, le-max_left a b, le-max_left (max a b) c) in
    let b_high : b ≤ max (max a b) c = omega (arith, le-max_right a b, le-max_left (max a b) c) in
    let up : max (max a b) c ≤ max a (max b c) = max-le (max-le (le-max_left a (max b c)) b_low) c_low in
    let down : max a (max b c) ≤ max (max a b) c = max-le a_high (max-le b_high (le-max_right (max a b) c)) in
    omega (arith, up, down)

-- what is added to each of two is added to the greater
max_plus : (d a b : ℕ) → max (d + a) (d + b) ≡ d + max a b
max_plus d a b = elim (cases_lt a b) as (λ _. max (d + a) (d + b) ≡ d + max a b) [
  | inl less ↦
      let low : a ≤ b = omega (arith, less) in
      let lows : d + a ≤ d + b = omega (arith, less) in
      let one : max a b ≡ b = max-eq_right low in
      let sums : max (d + a) (d + b) ≡ d + b = max-eq_right lows in
      sums ∙ ap (λ (k : ℕ). d + k) (sym one)
  | inr more ↦
      let low : b ≤ a = omega (arith, more) in
      let lows : d + b ≤ d + a = omega (arith, more) in
      let one : max a b ≡ a = max-eq_left low in
      let sums : max (d + a) (d + b) ≡ d + a = max-eq_left lows in
      sums ∙ ap (λ (k : ℕ). d + k) (sym one)
]

max_low : (a b c : ℕ) → a ≤ c → b ≡ c → max a b ≡ c
max_low a b c low is = let here : a ≤ b = omega (arith, low, is) in let e : max a b ≡ b = max-eq_right here in e ∙ is

max_high : (a b c : ℕ) → b ≤ c → a ≡ c → max a b ≡ c
max_high a b c low is = let here : b ≤ a = omega (arith, low, is) in let e : max a b ≡ a = max-eq_left here in e ∙ is

-- ---- the most blocks that are open along tokens

deepest_low : (y : Tally) (ts : List Lexeme) → y.depth ≤ deepest y ts
deepest_low y [] = omega arith
deepest_low y (t ∷ ts) = le-max_left y.depth (deepest (tally_after y t) ts)

deepest_append : (y : Tally) (a b : List Lexeme) → deepest y (a ++ b) ≡ max (deepest y a) (deepest (tally y a) b)
deepest_append y [] b = sym (max-eq_right (deepest_low y b))
deepest_append y (t ∷ a) b =
    ap (max y.depth) (deepest_append (tally_after y t) a b)
    ∙ sym (max_assoc y.depth (deepest (tally_after y t) a) (deepest (tally (tally_after y t) a) b))

-- ---- an expression opens no block

abbrev read : Tally → ℕ
read y = unwrap_or y.tokens 0

abbrev reading : ℕ → ℕ → Tally
reading n d = record { tokens = Some n; depth = d }

one_token : (o : Option ℕ) (d : ℕ) (t : Lexeme) → read (tally_step d o t) ≤ unwrap_or o 0 + 1
one_token None d (lexeme.Word word.Print) = omega arith
one_token None d (lexeme.Word word.Return) = omega arith
one_token None d (lexeme.Word word.If) = omega arith
one_token None d (lexeme.Word word.While) = omega arith
one_token None d other = omega arith
one_token (Some n) d lexeme.Semicolon = omega arith
one_token (Some n) d lexeme.OpenBrace = omega arith
one_token (Some n) d other = omega arith

few : (ts : List Lexeme) (y : Tally) → read (tally y ts) ≤ read y + length ts
few [] y = omega arith
few (t ∷ ts) y =
    let more : read (tally (tally_after y t) ts) ≤ read (tally_after y t) + length ts = few ts (tally_after y t) in
    let now : read (tally_after y t) ≤ read y + 1 = one_token y.tokens y.depth t in
    omega (arith, more, now)

flat : (ts : List Lexeme) (n d : ℕ) → read (tally (reading n d) ts) ≡ n + length ts → deepest (reading n d) ts ≡ d
flat [] n d is = refl
flat (lexeme.Semicolon ∷ ts) n d is =
    let less : read (tally (resting d) ts) ≤ 0 + length ts = few ts (resting d) in
    let all : read (tally (resting d) ts) ≡ n + length (lexeme.Semicolon ∷ ts) = is in
    absurd (omega (arith, less, all))
flat (lexeme.OpenBrace ∷ ts) n d is =
    let less : read (tally (resting (d + 1)) ts) ≤ 0 + length ts = few ts (resting (d + 1)) in
    let all : read (tally (resting (d + 1)) ts) ≡ n + length (lexeme.OpenBrace ∷ ts) = is in
    absurd (omega (arith, less, all))
flat (other ∷ ts) n d is =
    let size : n + length (other ∷ ts) ≡ n + 1 + length ts = omega arith in
    let low : d ≤ d = omega arith in
    max_low d (deepest (reading (n + 1) d) ts) d low (flat ts (n + 1) d (is ∙ size))

-- ---- from one tally to another, with so many blocks open at most

record Leads (y z : Tally) (m : ℕ) (ts rest : List Lexeme) : Type 0 where
  pub front : List Lexeme
  pub split : ts ≡ front ++ rest
  pub back : tally y front ≡ z
  pub deep : deepest y front ≡ m

both : (y z w : Tally) (m k l : ℕ) (ts mid rest : List Lexeme) → max m k ≡ l → Leads y z m ts mid → Leads z w k mid rest → Leads y w l ts rest
both y z w m k l ts mid rest is a b = record {
  front = a.front ++ b.front;
  split = a.split ∙ ap (λ (l : List Lexeme). a.front ++ l) b.split ∙ sym (append_assoc a.front b.front rest);
  back = tally_append y a.front b.front ∙ ap (λ (u : Tally). tally u b.front) a.back ∙ b.back;
  deep = deepest_append y a.front b.front ∙ (λ i. max (a.deep i) (deepest (a.back i) b.front)) ∙ ap (max m) b.deep ∙ is;
}

token : (y z : Tally) (t : Lexeme) (m : ℕ) (rest : List Lexeme) → tally_after y t ≡ z → max y.depth z.depth ≡ m → Leads y z m (t ∷ rest) rest
token y z t m rest is deep = record {
  front = t ∷ [];
  split = refl;
  back = is;
  deep = ap (λ (u : Tally). max y.depth u.depth) is ∙ deep;
}

same : (d : ℕ) → max d d ≡ d
same d = let low : d ≤ d = omega arith in max_low d d d low refl

counted : (n d : ℕ) (ts rest : List Lexeme) (c : IsCounted ts rest) → Leads (reading n d) (reading (n + length c.front) d) d ts rest
counted n d ts rest c = record {
  front = c.front;
  split = c.split;
  back = c.counted n d;
  deep = flat c.front n d (ap read (c.counted n d));
}

-- a token, and what follows it, with no block opened
after : (y z w : Tally) (t : Lexeme) (d : ℕ) (ts rest : List Lexeme) → tally_after y t ≡ z → y.depth ≡ d → z.depth ≡ d → Leads z w d ts rest → Leads y w d (t ∷ ts) rest
after y z w t d ts rest is above below more =
    both y z w d d d (t ∷ ts) ts rest (same d) (token y z t d ts is (max_low y.depth z.depth d (omega (arith, above)) below)) more

-- an expression and its semicolon
ended : (n d : ℕ) (ts rest : List Lexeme) → IsCounted ts (lexeme.Semicolon ∷ rest) → Leads (reading n d) (resting d) d ts rest
ended n d ts rest c =
    let m : ℕ = n + length c.front in
    both (reading n d) (reading m d) (resting d) d d d ts (lexeme.Semicolon ∷ rest) rest (same d) (counted n d ts (lexeme.Semicolon ∷ rest) c) (token (reading m d) (resting d) lexeme.Semicolon d rest refl (same d))

-- a block, from its bracket on
block : (y : Tally) (d n : ℕ) (ts rest : List Lexeme) → tally_after y lexeme.OpenBrace ≡ resting (d + 1) → y.depth ≡ d
    → IsNested (d + 1) n ts (lexeme.CloseBrace ∷ rest) → Leads y (resting d) (d + (n + 1)) (lexeme.OpenBrace ∷ ts) rest
block y d n ts rest opens above inner =
    let body : Leads (resting (d + 1)) (resting (d + 1)) (d + 1 + n) ts (lexeme.CloseBrace ∷ rest) = record { front = inner.front; split = inner.split; back = inner.back; deep = inner.deep } in
    let out : d + 1 - 1 ≡ d = omega arith in
    let close : Leads (resting (d + 1)) (resting d) (d + 1) (lexeme.CloseBrace ∷ rest) rest =
    token (resting (d + 1)) (resting d) lexeme.CloseBrace (d + 1) rest (ap resting out) (max_high (d + 1) d (d + 1) (omega arith) refl) in
    let closed : Leads (resting (d + 1)) (resting d) (d + (n + 1)) ts rest =
    both _ _ _ (d + 1 + n) (d + 1) (d + (n + 1)) ts (lexeme.CloseBrace ∷ rest) rest (max_high (d + 1 + n) (d + 1) (d + (n + 1)) (omega arith) (omega arith)) body close in
    both y (resting (d + 1)) (resting d) (d + 1) (d + (n + 1)) (d + (n + 1)) (lexeme.OpenBrace ∷ ts) ts rest (max_low (d + 1) (d + (n + 1)) (d + (n + 1)) (omega arith) refl)
    (token y (resting (d + 1)) lexeme.OpenBrace (d + 1) ts opens (max_low y.depth (d + 1) (d + 1) (omega (arith, above)) refl)) closed

-- a test and its block
tested : (t : Lexeme) (d n : ℕ) (ts mid rest : List Lexeme) → tally_after (resting d) t ≡ reading 0 d → IsCounted ts (lexeme.OpenBrace ∷ mid)
    → IsNested (d + 1) n mid (lexeme.CloseBrace ∷ rest) → Leads (resting d) (resting d) (d + (n + 1)) (t ∷ ts) rest
tested t d n ts mid rest begins c inner =
    let m : ℕ = 0 + length c.front in
    let test : Leads (resting d) (reading m d) d (t ∷ ts) (lexeme.OpenBrace ∷ mid) = after (resting d) (reading 0 d) (reading m d) t d ts (lexeme.OpenBrace ∷ mid) begins refl refl (counted 0 d ts (lexeme.OpenBrace ∷ mid) c) in
    both (resting d) (reading m d) (resting d) d (d + (n + 1)) (d + (n + 1)) (t ∷ ts) (lexeme.OpenBrace ∷ mid) rest (max_low d (d + (n + 1)) (d + (n + 1)) (omega arith) refl) test
    (block (reading m d) d n mid rest refl refl inner)

as_nested : (d n m : ℕ) (ts rest : List Lexeme) → m ≡ d + n → Leads (resting d) (resting d) m ts rest → IsNested d n ts rest
as_nested d n m ts rest is l = record { front = l.front; split = l.split; back = l.back; deep = l.deep ∙ is }

level : (d : ℕ) (ts rest : List Lexeme) → Leads (resting d) (resting d) d ts rest → IsNested d 0 ts rest
level d ts rest l = as_nested d 0 d ts rest (omega arith) l

from_nested : (d n : ℕ) (ts rest : List Lexeme) → IsNested d n ts rest → Leads (resting d) (resting d) (d + n) ts rest
from_nested d n ts rest l = record { front = l.front; split = l.split; back = l.back; deep = l.deep }

swap : (n : ℕ) → n + 1 ≡ 1 + n
swap n = omega arith

mutual
  one : (d : ℕ) (ts rest : List Lexeme) (s : Statement) → IsStatement ts rest s → IsNested d (nesting_of s) ts rest
  one d _ _ _ (g.bind x ts rest e is) =
      level d _ rest (after (resting d) (resting d) (resting d) (lexeme.Word word.Let) d _ rest refl refl refl (after (resting d) (resting d) (resting d) (lexeme.Name x) d _ rest refl refl refl (after (resting d) (reading 0 d) (resting d) lexeme.Equals d ts rest refl refl refl (ended 0 d ts rest (expression 0 ts _ e is)))))
  one d _ _ _ (g.assign x ts rest e is) =
      level d _ rest (after (resting d) (resting d) (resting d) (lexeme.Name x) d _ rest refl refl refl (after (resting d) (reading 0 d) (resting d) lexeme.Equals d ts rest refl refl refl (ended 0 d ts rest (expression 0 ts _ e is))))
  one d _ _ _ (g.when ts mid rest e first is inner) =
      let n : ℕ = nesting first in
      let most : max n 0 ≡ n = max_high n 0 n (omega arith) refl in
      as_nested d (max n 0 + 1) (d + (n + 1)) _ rest (ap (λ (k : ℕ). d + (k + 1)) (sym most))
      (tested (lexeme.Word word.If) d n ts mid rest refl (expression 0 ts _ e is) (all (d + 1) mid (lexeme.CloseBrace ∷ rest) first inner))
  one d _ _ _ (g.choice ts mid other rest e first second is inner last) =
      let n : ℕ = nesting first in
      let m : ℕ = nesting second in
      let otherwise : Leads (resting d) (resting d) (d + (m + 1)) (lexeme.Word word.Else ∷ lexeme.OpenBrace ∷ other) rest =
      both (resting d) (resting d) (resting d) d (d + (m + 1)) (d + (m + 1)) _ (lexeme.OpenBrace ∷ other) rest (max_low d (d + (m + 1)) (d + (m + 1)) (omega arith) refl)
      (token (resting d) (resting d) (lexeme.Word word.Else) d (lexeme.OpenBrace ∷ other) refl (same d))
      (block (resting d) d m other rest refl refl (all (d + 1) other (lexeme.CloseBrace ∷ rest) second last)) in
      let sums : max (1 + n) (1 + m) ≡ 1 + max n m = max_plus 1 n m in
      let deep : max (d + (n + 1)) (d + (m + 1)) ≡ d + (max n m + 1) =
      max_plus d (n + 1) (m + 1) ∙ ap (λ (k : ℕ). d + k) ((λ i. max (swap n i) (swap m i)) ∙ sums ∙ sym (swap (max n m))) in
      as_nested d (max n m + 1) (max (d + (n + 1)) (d + (m + 1))) _ rest deep
      (both (resting d) (resting d) (resting d) (d + (n + 1)) (d + (m + 1)) (max (d + (n + 1)) (d + (m + 1))) _ (lexeme.Word word.Else ∷ lexeme.OpenBrace ∷ other) rest refl
      (tested (lexeme.Word word.If) d n ts mid _ refl (expression 0 ts _ e is) (all (d + 1) mid _ first inner)) otherwise)
  one d _ _ _ (g.repeat ts mid rest e body is inner) =
      as_nested d (nesting body + 1) (d + (nesting body + 1)) _ rest refl
      (tested (lexeme.Word word.While) d (nesting body) ts mid rest refl (expression 0 ts _ e is) (all (d + 1) mid (lexeme.CloseBrace ∷ rest) body inner))
  one d _ _ _ (g.print ts rest e is) =
      level d _ rest (after (resting d) (reading 0 d) (resting d) (lexeme.Word word.Print) d ts rest refl refl refl (ended 0 d ts rest (expression 0 ts _ e is)))
  one d _ _ _ (g.give ts rest e is) =
      level d _ rest (after (resting d) (reading 0 d) (resting d) (lexeme.Word word.Return) d ts rest refl refl refl (ended 0 d ts rest (expression 0 ts _ e is)))
  one d _ _ _ (g.perform c ts rest args is) =
      level d _ rest (after (resting d) (reading 1 d) (resting d) (lexeme.Call c) d _ rest refl refl refl (after (reading 1 d) (reading 2 d) (resting d) lexeme.OpenRound d ts rest refl refl refl (ended 2 d ts rest (arguments (shape c) ts _ args is))))

  all : (d : ℕ) (ts rest : List Lexeme) (ss : Statements) → AreStatements ts rest ss → IsNested d (nesting ss) ts rest
  all d _ _ _ (g.none rest) = record { front = []; split = refl; back = refl; deep = omega arith }
  all d _ _ _ (g.more ts mid rest s ss is others) =
      as_nested d (max (nesting_of s) (nesting ss)) (max (d + nesting_of s) (d + nesting ss)) ts rest (max_plus d (nesting_of s) (nesting ss))
      (both (resting d) (resting d) (resting d) (d + nesting_of s) (d + nesting ss) (max (d + nesting_of s) (d + nesting ss)) ts mid rest refl
      (from_nested d (nesting_of s) ts mid (one d ts mid s is)) (from_nested d (nesting ss) mid rest (all d mid rest ss others)))

pub nesting_law : NestingLaw
nesting_law d ts rest ss is = all d ts rest ss is
