-- What holds of each call of a tree.
use Rattle.std.specs.Prelude.{List, [], ◌∷◌, Bool, true, ◌&&◌}
use Rattle.ocr_program_tree.specs.Tree as tree
use Rattle.ocr_program_tree.specs.Tree.{Expression, Arguments, Statement, Statements, FunctionTree}
use Rattle.ocr_program_tree.specs.declared.tree.CallName.{CallName}

-- each call of the expression is so
abbrev mutual
  pub is_each_call : (CallName → Arguments → Bool) → Expression → Bool
  is_each_call p (tree.Paramv e) = is_each_call p e
  is_each_call p (tree.Depv e) = is_each_call p e
  is_each_call p (tree.Unary o e) = is_each_call p e
  is_each_call p (tree.Binary o a b) = is_each_call p a && is_each_call p b
  is_each_call p (tree.Invoked made xs) = p made xs && is_each_call_of_all p xs
  is_each_call p other = true

  -- the calls among arguments
  pub is_each_call_of_all : (CallName → Arguments → Bool) → Arguments → Bool
  is_each_call_of_all p tree.empty = true
  is_each_call_of_all p (tree.value e rest) = is_each_call p e && is_each_call_of_all p rest
  is_each_call_of_all p (tree.list es rest) = is_each_call_of_all p es && is_each_call_of_all p rest
  is_each_call_of_all p (tree.named x rest) = is_each_call_of_all p rest

abbrev mutual
  pub is_each_call_in : (CallName → Arguments → Bool) → Statement → Bool
  is_each_call_in p (tree.Let x e) = is_each_call p e
  is_each_call_in p (tree.Assign x e) = is_each_call p e
  is_each_call_in p (tree.If e first second) =
      is_each_call p e && (is_each_call_in_all p first && is_each_call_in_all p second)
  is_each_call_in p (tree.While e body) = is_each_call p e && is_each_call_in_all p body
  is_each_call_in p (tree.Print e) = is_each_call p e
  is_each_call_in p (tree.Return e) = is_each_call p e
  is_each_call_in p (tree.Do made xs) = p made xs && is_each_call_of_all p xs

  pub is_each_call_in_all : (CallName → Arguments → Bool) → Statements → Bool
  is_each_call_in_all p tree.nothing = true
  is_each_call_in_all p (tree.statement s rest) = is_each_call_in p s && is_each_call_in_all p rest

-- each call of the functions is so
abbrev pub is_each_call_of : (CallName → Arguments → Bool) → List FunctionTree → Bool
is_each_call_of p [] = true
is_each_call_of p (f ∷ rest) = is_each_call_in_all p f.body && is_each_call_of p rest
