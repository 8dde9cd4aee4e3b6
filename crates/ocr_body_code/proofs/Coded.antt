-- The numbers of a program that has code.
use Rattle.std.proofs.Common.{◌≡◌, ℕ, List, [], ◌∷◌, true, map, refl, ap, sym, ◌∙◌}
use Rattle.ocr_body_code.specs.Code.{is_placed, is_call_placed, are_args_placed, is_step_placed, is_row_placed, are_placed, are_sound, call_arguments, arguments_at, expression_at, statement_at, row_at, statements_in, body_in, bodies_in}
use Rattle.ocr_program_tree.specs.Tree.{FunctionTree}
use Rattle.ocr_body_meaning.specs.Words.{is_of_words, are_of_words, is_statement_of_words, are_statements_of_words, is_program_of_words}
use Rattle.ocr_body_code.specs.declared.code.ArgCode.{ArgCode}
use Rattle.ocr_body_code.specs.declared.code.ArgCode.TheVariants as args
use Rattle.ocr_body_code.specs.declared.code.CallCode.{CallCode}
use Rattle.ocr_body_code.specs.declared.code.CallCode.TheVariants as call
use Rattle.ocr_body_code.specs.declared.code.ExprCode.{ExprCode}
use Rattle.ocr_body_code.specs.declared.code.ExprCode.TheVariants as node
use Rattle.ocr_body_code.specs.declared.code.FunctionCode.{FunctionCode}
use Rattle.ocr_body_code.specs.declared.code.StmtCode.{StmtCode, Row_of-StmtCode, end_of-StmtCode, more_of-StmtCode}
use Rattle.ocr_body_code.specs.declared.code.StmtCode.TheVariants as step
use Rattle.ocr_body_code.proofs.Names.{both}
use Rattle.ocr_body_code.proofs.Sides.{first_of, second_of}

mutual
  node_words : (w : List ℕ → ℕ) (n names : List (List ℕ)) (e : ExprCode) → is_placed w n e ≡ true → is_of_words (expression_at names e) ≡ true
  node_words w n names (node.Number v) is = is
  node_words w n names (node.Constant c) is = refl
  node_words w n names (node.Variable i) is = refl
  node_words w n names node.Paramc is = refl
  node_words w n names node.Depc is = refl
  node_words w n names node.LastCode is = refl
  node_words w n names (node.Paramv' p e) is = node_words w n names e is
  node_words w n names (node.Depv' p e) is = node_words w n names e is
  node_words w n names (node.Unary' op p e) is = node_words w n names e is
  node_words w n names (node.Binary' op p a q b) is = both _ _ (node_words w n names a (first_of _ _ is)) (node_words w n names b (second_of _ _ is))
  node_words w n names (node.WithNumber op i v) is = second_of _ _ is
  node_words w n names (node.WithVariable op i j) is = refl
  node_words w n names (node.Invoke' p c) is = code_words w n names c is

  code_words : (w : List ℕ → ℕ) (n names : List (List ℕ)) (c : CallCode) → is_call_placed w n c ≡ true → are_of_words (call_arguments names c) ≡ true
  code_words w n names (call.Load' p d q v) is = both _ _ (node_words w n names d (first_of _ _ is)) (both _ _ (node_words w n names v (second_of _ _ is)) refl)
  code_words w n names (call.Store' p d q v r u) is =
      both _ _ (node_words w n names d (first_of _ _ is)) (both _ _ (node_words w n names v (first_of _ _ (second_of _ _ is))) (both _ _ (node_words w n names u (second_of _ _ (second_of _ _ is))) refl))
  code_words w n names (call.Coded made xs) is = args_words w n names xs (second_of _ _ is)

  args_words : (w : List ℕ → ℕ) (n names : List (List ℕ)) (xs : ArgCode) → are_args_placed w n xs ≡ true → are_of_words (arguments_at names xs) ≡ true
  args_words w n names args.End is = refl
  args_words w n names (args.Value' p e q rest) is = both _ _ (node_words w n names e (first_of _ _ is)) (args_words w n names rest (second_of _ _ is))
  args_words w n names (args.List' p es q rest) is = both _ _ (args_words w n names es (first_of _ _ is)) (args_words w n names rest (second_of _ _ is))
  args_words w n names (args.Name' x p rest) is = args_words w n names rest (second_of _ _ is)

mutual
  step_words : (w : List ℕ → ℕ) (n names : List (List ℕ)) (s : StmtCode) → is_step_placed w n s ≡ true → is_statement_of_words (statement_at names s) ≡ true
  step_words w n names (step.Let i e) is = node_words w n names e (second_of _ _ is)
  step_words w n names (step.Assign i e) is = node_words w n names e (second_of _ _ is)
  step_words w n names (step.If' e j first k second) is =
      both _ _ (node_words w n names e (first_of _ _ is)) (both _ _ (row_words w n names first (first_of _ _ (second_of _ _ is))) (row_words w n names second (second_of _ _ (second_of _ _ is))))
  step_words w n names (step.While' e j body) is = both _ _ (node_words w n names e (first_of _ _ is)) (row_words w n names body (second_of _ _ is))
  step_words w n names (step.Print e) is = node_words w n names e is
  step_words w n names (step.Return e) is = node_words w n names e is
  step_words w n names (step.Invoke c) is = code_words w n names c is

  row_words : {j : _} (w : List ℕ → ℕ) (n names : List (List ℕ)) (row : Row_of-StmtCode j) → is_row_placed w n row ≡ true → are_statements_of_words (row_at names row) ≡ true
  row_words w n names end_of-StmtCode is = refl
  row_words w n names (more_of-StmtCode s rest) is = both _ _ (step_words w n names s (first_of _ _ is)) (row_words w n names rest (second_of _ _ is))

steps_words : (w : List ℕ → ℕ) (n names : List (List ℕ)) (ss : List StmtCode) → are_placed w n ss ≡ true → are_statements_of_words (statements_in names ss) ≡ true
steps_words w n names [] is = refl
steps_words w n names (s ∷ ss) is = both _ _ (step_words w n names s (first_of _ _ is)) (steps_words w n names ss (second_of _ _ is))

-- the numbers of a program with sound code have 64 bits
pub codes_words : (w : List ℕ → ℕ) (cs : List FunctionCode) (fs : List FunctionTree) → bodies_in cs ≡ map (λ f. f.body) fs → are_sound w cs ≡ true → is_program_of_words fs ≡ true
codes_words w [] [] same are = refl
codes_words w [] (f ∷ fs) same are = cc same
codes_words w (c ∷ cs) [] same are = cc same
codes_words w (c ∷ cs) (f ∷ fs) same are =
    let here : body_in c ≡ f.body = cc same in
    let rest : bodies_in cs ≡ map (λ f. f.body) fs = cc same in
    both _ _ (ap are_statements_of_words (sym here) ∙ steps_words w c.names.items c.names.items c.body.items (second_of _ _ (first_of _ _ are)))
    (codes_words w cs fs rest (second_of _ _ are))
