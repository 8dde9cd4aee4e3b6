-- A body deals with numbers of 64 bits alone.
use Rattle.std.proofs.Common.{◌≡◌, ◌+◌, ◌-◌, ◌*◌, ◌/◌, ◌%◌, ◌^◌, ◌==◌, ℕ, zero, suc, List, [], ◌∷◌, Bool, true, false, if◌then◌else◌, Option, Some, None, length, nat_lt, nat_le, refl, subst, arith, bit_and, bit_or}
use Rattle.std.specs.Prelude.{slice_index, slice_index_or, slice_set, bytes_eq, bit_xor, All}
use Rattle.std.proofs.lemmas.Bool.{and_parts, cond_both, ltb-true}
use Rattle.std.proofs.lemmas.List.Elements.{All-nil, All-cons, All-head, All-tail, All-push, All-set}
use Rattle.std.proofs.lemmas.Nat.{or_lt, xor_lt, and_le_l}
use Rattle.std.proofs.Math.Nat.{mod-lt, mod-le, div-le_self}
use Rattle.ocr_acquire.specs.Writes.{put, written}
use Rattle.ocr_guid.specs.Code.{number_of}
use Rattle.ocr_guid.specs.declared.Code.{Code}
use Rattle.ocr_guid.specs.declared.Code.TheVariants as code
use Rattle.ocr_program_tree.specs.Constant.{value_of}
use Rattle.ocr_program_tree.specs.Functions.{statements_at, numbers_in}
use Rattle.ocr_program_tree.specs.Tree as tree
use Rattle.ocr_program_tree.specs.Tree.{Expression, Arguments, Statement, Statements, FunctionTree}
use Rattle.ocr_body_meaning.specs.Behaviour.{Behaviour, Ends, Stops, Asks, Asked, after, after_answer}
use Rattle.ocr_body_meaning.specs.Body.{behaviour}
use Rattle.ocr_body_meaning.specs.Holds.{Hold, Holds, word_of, with_hold, with_write, private_in, private_of, is_done, creator_hold, after_accepted, after_call}
use Rattle.ocr_body_meaning.specs.Meaning as meaning
use Rattle.ocr_body_meaning.specs.Meaning.{Frame, State, Value, Given, nothing_given, with_value, with_list, with_output, state_after_answer, spend, with_variable, truth, unary_value, binary_step, call_of, outputs_of, made_step, eval, eval_all, turns, print_step, exec, exec_all}
use Rattle.ocr_body_meaning.specs.Words.{IsWord, is_of_words, are_of_words, is_statement_of_words, are_statements_of_words, is_program_of_words, HasWords, SaysWords, AreWritesOfWords, IsHoldOfWords, AreHoldsOfWords, AreAnsweredWords, WordsLaw}
use Rattle.ocr_body_meaning.specs.declared.call.Answer.{Answer}
use Rattle.ocr_body_meaning.specs.declared.call.Call.{Call}
use Rattle.ocr_body_meaning.specs.declared.call.Call.TheVariants as call
use Rattle.ocr_program_tree.specs.declared.tree.Constant as of_constant
use Rattle.ocr_program_tree.specs.declared.tree.Constant.TheVariants as constant
use Rattle.ocr_program_tree.specs.declared.tree.UnaryOp.{UnaryOp}
use Rattle.ocr_program_tree.specs.declared.tree.UnaryOp.TheVariants as unary
use Rattle.ocr_program_tree.specs.declared.tree.BinaryOp.{BinaryOp}
use Rattle.ocr_program_tree.specs.declared.tree.BinaryOp.TheVariants as binary
use Rattle.ocr_program_tree.specs.declared.tree.CallName.{CallName}
use Rattle.ocr_program_tree.specs.declared.tree.CallName.TheVariants as name
use Rattle.ocr_body_meaning.proofs.Steps.{spend_case, element_case, load_case, store_case}

constant_word : (c : of_constant.Constant) → IsWord (value_of c)
constant_word constant.NullGuid = omega arith
constant_word other = omega arith

code_word : (c : Code) → IsWord (number_of c)
code_word code.Done = omega arith
code_word other = omega arith

truth_word : (b : Bool) → IsWord (truth b)
truth_word true = omega arith
truth_word false = omega arith

other_truth_word : (b : Bool) → IsWord (if b then 0 else 1)
other_truth_word true = omega arith
other_truth_word false = omega arith

remainder_word : (n : ℕ) → IsWord (n % 2 ^ 64)
remainder_word n = mod-lt n (omega arith)

applied_word : (o : UnaryOp) (x : ℕ) → IsWord (unary_value o x)
applied_word unary.Not x = truth_word (x == 0)
applied_word unary.Invert x = omega arith
applied_word unary.Minus x = remainder_word (2 ^ 64 - x)

-- what is at a place is as all are, or what stands for nothing
at_place : {X : Type 0} (P : X → Type 0) (nothing : X) → P nothing → (xs : List X) (i : ℕ) → All P xs → P (slice_index_or xs i nothing)
at_place P nothing is [] i all = is
at_place P nothing is (x ∷ xs) zero all = All-head P x xs all
at_place P nothing is (x ∷ xs) (suc i) all = at_place P nothing is xs i (All-tail P x xs all)

word_at : (xs : List ℕ) (i : ℕ) → All IsWord xs → IsWord (slice_index xs i)
word_at xs i all = at_place IsWord 0 (omega arith) xs i all

-- a write of such a number
abbrev IsWrite : ℕ × ℕ → Type 0
IsWrite write = IsWord write.1

put_words : (w v : ℕ) (writes : List (ℕ × ℕ)) → IsWord v → All IsWrite writes → All IsWrite (put w v writes)
put_words w v [] is all = All-cons IsWrite (w, v) [] is all
put_words w v (write ∷ rest) is all =
    let later : All IsWrite rest = All-tail IsWrite write rest all in
    cond_both (nat_lt w write.0) ((w, v) ∷ write ∷ rest) _ (All IsWrite) (λ above. All-cons IsWrite (w, v) (write ∷ rest) is all)
    (λ below. cond_both (w == write.0) ((write.0, v) ∷ rest) (write ∷ put w v rest) (All IsWrite)
    (λ same. All-cons IsWrite (write.0, v) rest is later)
    (λ apart. All-cons IsWrite write (put w v rest) (All-head IsWrite write rest all) (put_words w v rest is later)))

written_words : (writes : List (ℕ × ℕ)) (words : List ℕ) → All IsWrite writes → All IsWord words → All IsWord (written writes words)
written_words [] words writing all = all
written_words (write ∷ rest) words writing all =
    written_words rest (slice_set words write.0 write.1) (All-tail IsWrite write rest writing) (All-set IsWord words write.0 write.1 (All-head IsWrite write rest writing) all)

held_word : (h : Hold) (w : ℕ) → IsHoldOfWords (Some h) → IsWord (word_of h w)
held_word h w held = word_at (written h.writes h.began) w (written_words h.writes h.began held.1 held.0)

writes_words : (h : Option Hold) → IsHoldOfWords h → AreWritesOfWords (private_in h)
writes_words None held = All-nil IsWrite
writes_words (Some h) held = held.1

-- holds of words, but for one
hold_words : (d : ℕ) (h : Option Hold) (holds : Holds) → IsHoldOfWords h → AreHoldsOfWords holds → AreHoldsOfWords (with_hold d h holds)
hold_words d h holds is are x = cond_both (d == x) h (holds x) IsHoldOfWords (λ same. is) (λ apart. are x)

stored_words : (w v : ℕ) (h : Option Hold) → IsWord v → IsHoldOfWords h → IsHoldOfWords (with_write w v h)
stored_words w v None is held = tt
stored_words w v (Some h) is held = (held.0, put_words w v h.writes is held.1)

created_words : (bytes : ℕ) → IsHoldOfWords (Some (creator_hold bytes))
created_words bytes = (All-nil IsWord, All-nil IsWrite)

accepted_words : (made : Call) (a : Answer) (holds : Holds) → AreHoldsOfWords holds → AreHoldsOfWords (after_accepted made a holds)
accepted_words (call.DbCreate bytes flags) a holds are =
    cond_both (flags == 0) (with_hold a.value (Some (creator_hold bytes)) holds) holds AreHoldsOfWords (λ held. hold_words a.value (Some (creator_hold bytes)) holds (created_words bytes) are) (λ not_held. are)
accepted_words (call.DbRelease d) a holds are = hold_words d None holds tt are
accepted_words (call.DbDestroy d) a holds are = hold_words d None holds tt are
accepted_words other a holds are = are

called_words : (made : Call) (a : Answer) (holds : Holds) → AreHoldsOfWords holds → AreHoldsOfWords (after_call made a holds)
called_words made a holds are = cond_both (is_done a.code) (after_accepted made a holds) holds AreHoldsOfWords (λ done. accepted_words made a holds are) (λ refused. are)

-- what a body keeps, and what the arguments of a call are
abbrev IsFine : State → Type 0
IsFine st = IsWord st.code × ((x : List ℕ) → IsWord (st.variables x)) × AreHoldsOfWords st.holds

abbrev IsFineGiven : Given → Type 0
IsFineGiven g = All IsWord g.values × All (All IsWord) g.lists

nothing_fine : IsFineGiven nothing_given
nothing_fine = (All-nil IsWord, All-nil (All IsWord))

variable_fine : (x : List ℕ) (v : ℕ) (st : State) → IsWord v → IsFine st → IsFine (with_variable x v st)
variable_fine x v st is fine = (fine.0, (λ y. cond_both (bytes_eq x y) v (st.variables y) IsWord (λ same. is) (λ apart. fine.1 y)), fine.2)

output_fine : (outputs : List (List ℕ)) (event : ℕ) (st : State) → IsWord event → IsFine st → IsFine (with_output outputs event st)
output_fine [] event st is fine = fine
output_fine (x ∷ rest) event st is fine = variable_fine x event st is fine

spent_words : (st : State) (k : State → Behaviour) → IsFine st → ((now : State) → IsFine now → SaysWords (k now)) → SaysWords (spend st k)
spent_words st k fine rest = spend_case SaysWords st k tt (λ left one. rest _ fine)

binary_words : (op : BinaryOp) (x y : ℕ) (k : ℕ → Behaviour) → IsWord x → IsWord y → ((v : ℕ) → IsWord v → SaysWords (k v)) → SaysWords (binary_step op x y k)
binary_words binary.Or x y k p q rest = rest (bit_or x y) (or_lt 64 x y p q)
binary_words binary.Xor x y k p q rest = rest (bit_xor x y) (xor_lt 64 x y p q)
binary_words binary.And x y k p q rest = rest (bit_and x y) (omega (arith, and_le_l x y, p))
binary_words binary.Eq x y k p q rest = rest (truth (x == y)) (truth_word (x == y))
binary_words binary.Ne x y k p q rest = rest (if x == y then 0 else 1) (other_truth_word (x == y))
binary_words binary.Lt x y k p q rest = rest (truth (nat_lt x y)) (truth_word (nat_lt x y))
binary_words binary.Le x y k p q rest = rest (truth (nat_le x y)) (truth_word (nat_le x y))
binary_words binary.Gt x y k p q rest = rest (truth (nat_lt y x)) (truth_word (nat_lt y x))
binary_words binary.Ge x y k p q rest = rest (truth (nat_le y x)) (truth_word (nat_le y x))
binary_words binary.Shl x y k p q rest = rest ((x * 2 ^ (y % 64)) % 2 ^ 64) (remainder_word (x * 2 ^ (y % 64)))
binary_words binary.Shr x y k p q rest = rest (x / 2 ^ (y % 64)) (omega (arith, div-le_self x (2 ^ (y % 64)), p))
binary_words binary.Add x y k p q rest = rest ((x + y) % 2 ^ 64) (remainder_word (x + y))
binary_words binary.Sub x y k p q rest = rest ((x + 2 ^ 64 - y) % 2 ^ 64) (remainder_word (x + 2 ^ 64 - y))
binary_words binary.Mul x y k p q rest = rest ((x * y) % 2 ^ 64) (remainder_word (x * y))
binary_words binary.Div x y k p q rest = cond_both (y == 0) _ (k (x / y)) SaysWords (λ none. tt) (λ some. rest (x / y) (omega (arith, div-le_self x y, p)))
binary_words binary.Rem x y k p q rest = cond_both (y == 0) _ (k (x % y)) SaysWords (λ none. tt) (λ some. rest (x % y) (omega (arith, mod-le x y, p)))

-- what a frame has
abbrev IsFineFrame : Frame → Type 0
IsFineFrame f = All IsWord f.params × IsWord (length f.params) × All IsWord f.depv × IsWord (length f.depv)

value_word : (g : Given) (i : ℕ) → IsFineGiven g → IsWord (meaning.value g i)
value_word g i given = word_at g.values i given.0

values_words : (g : Given) (i : ℕ) → IsFineGiven g → All IsWord (meaning.values g i)
values_words g i given = at_place (All IsWord) [] (All-nil IsWord) g.lists i given.1

call_words : (f : Frame) (made : CallName) (xs : Arguments) (g : Given) → IsFineGiven g → HasWords (call_of f made xs g)
call_words f name.EdtCreate xs g given =
    (value_word g 0 given, value_word g 1 given, values_words g 0 given, value_word g 2 given, values_words g 1 given, value_word g 3 given)
call_words f name.Satisfy xs g given = (value_word g 0 given, value_word g 1 given, omega arith)
call_words f name.Shutdown xs g given = tt
call_words f name.EventCreateParams xs g given = (value_word g 0 given, value_word g 1 given, value_word g 2 given, value_word g 3 given, value_word g 4 given)
call_words f name.AddDependence xs g given = (value_word g 0 given, value_word g 1 given, value_word g 2 given, value_word g 3 given)
call_words f name.SatisfySlot xs g given = (value_word g 0 given, value_word g 1 given, value_word g 2 given)
call_words f name.Store xs g given = (value_word g 0 given, value_word g 1 given, value_word g 2 given)
call_words f name.DbCreate xs g given = (value_word g 0 given, value_word g 1 given)
call_words f name.EventCreate xs g given = (value_word g 0 given, value_word g 1 given)
call_words f name.TemplateCreate xs g given = (value_word g 0 given, value_word g 1 given)
call_words f name.Load xs g given = (value_word g 0 given, value_word g 1 given)
call_words f other xs g given = value_word g 0 given

private_words : (made : Call) (holds : Holds) → AreHoldsOfWords holds → AreWritesOfWords (private_of made holds)
private_words (call.DbRelease d) holds are = writes_words (holds d) (are d)
private_words (call.DbDestroy d) holds are = writes_words (holds d) (are d)
private_words other holds are = All-nil IsWrite

made_words : (made : Call) (outputs : List (List ℕ)) (st : State) (k : Value) → HasWords made → IsFine st
    → ((v : ℕ) (st : State) → IsWord v → IsFine st → SaysWords (k v st)) → SaysWords (made_step made outputs st k)
made_words call.Shutdown outputs st k has fine rest = tt
made_words (call.Abort code) outputs st k has fine rest = has
made_words (call.Load d w) outputs st k has fine rest =
    load_case SaysWords d w st k tt tt (λ h is. rest _ st (held_word h w (subst IsHoldOfWords is (fine.2 d))) fine) (has, All-nil IsWrite, λ a value output. rest a.value st value fine)
made_words (call.Store d w v) outputs st k has fine rest =
    store_case SaysWords d w v st k tt tt tt
    (rest 0 _ (omega arith) (fine.0, fine.1, hold_words d (with_write w v (st.holds d)) st.holds (stored_words w v (st.holds d) has.2 (fine.2 d)) fine.2))
    (has, All-nil IsWrite, λ a value output. rest 0 st (omega arith) fine)
made_words other outputs st k has fine rest = (
  has,
  private_words other st.holds fine.2,
  λ a value output. rest a.value (state_after_answer other outputs a st) value
      (output_fine outputs a.output (state_after_answer other [] a st) output (code_word a.code, fine.1, called_words other a st.holds fine.2)),
)

mutual
  eval_words : (f : Frame) (e : Expression) (st : State) (k : Value) → IsFineFrame f → is_of_words e ≡ true → IsFine st
      → ((v : ℕ) (st : State) → IsWord v → IsFine st → SaysWords (k v st)) → SaysWords (eval f e st k)
  eval_words f (tree.Number n) st k frame is fine rest = spent_words st _ fine (λ st fine. rest n st (ltb-true n (2 ^ 64) is) fine)
  eval_words f (tree.Named c) st k frame is fine rest = spent_words st _ fine (λ st fine. rest (value_of c) st (constant_word c) fine)
  eval_words f (tree.Var x) st k frame is fine rest = spent_words st _ fine (λ st fine. rest (st.variables x) st (fine.1 x) fine)
  eval_words f tree.Paramc st k frame is fine rest = spent_words st _ fine (λ st fine. rest (length f.params) st frame.1 fine)
  eval_words f tree.Depc st k frame is fine rest = spent_words st _ fine (λ st fine. rest (length f.depv) st frame.3 fine)
  eval_words f tree.LastCode st k frame is fine rest = spent_words st _ fine (λ st fine. rest st.code st fine.0 fine)
  eval_words f (tree.Paramv e) st k frame is fine rest =
      spent_words st _ fine (λ st fine. eval_words f e st _ frame is fine (λ i st word fine. element_case SaysWords f.params i st k tt (rest _ st (word_at f.params i frame.0) fine)))
  eval_words f (tree.Depv e) st k frame is fine rest =
      spent_words st _ fine (λ st fine. eval_words f e st _ frame is fine (λ i st word fine. element_case SaysWords f.depv i st k tt (rest _ st (word_at f.depv i frame.2) fine)))
  eval_words f (tree.Unary o e) st k frame is fine rest =
      spent_words st _ fine (λ st fine. eval_words f e st _ frame is fine (λ x st word fine. rest (unary_value o x) st (applied_word o x) fine))
  eval_words f (tree.Binary o a b) st k frame is fine rest =
      spent_words st _ fine (λ st fine. eval_words f a st _ frame (and_parts _ _ is).0 fine (λ x st first fine.
      eval_words f b st _ frame (and_parts _ _ is).1 fine (λ y st second fine. binary_words o x y _ first second (λ v word. rest v st word fine))))
  eval_words f (tree.Invoked made xs) st k frame is fine rest =
      spent_words st _ fine (λ st fine. all_words f xs nothing_given st _ frame is nothing_fine fine (λ g st given fine.
      made_words (call_of f made xs g) (outputs_of made xs) st k (call_words f made xs g given) fine rest))

  all_words : (f : Frame) (xs : Arguments) (g : Given) (st : State) (k : Given → State → Behaviour) → IsFineFrame f → are_of_words xs ≡ true → IsFineGiven g → IsFine st
      → ((h : Given) (st : State) → IsFineGiven h → IsFine st → SaysWords (k h st)) → SaysWords (eval_all f xs g st k)
  all_words f tree.empty g st k frame is given fine rest = rest g st given fine
  all_words f (tree.value e others) g st k frame is given fine rest =
      eval_words f e st _ frame (and_parts _ _ is).0 fine (λ v st word fine. all_words f others (with_value g v) st k frame (and_parts _ _ is).1 (All-push IsWord g.values v given.0 word, given.1) fine rest)
  all_words f (tree.list es others) g st k frame is given fine rest =
      all_words f es nothing_given st _ frame (and_parts _ _ is).0 nothing_fine fine (λ of st found fine.
      all_words f others (with_list g of.values) st k frame (and_parts _ _ is).1 (given.0, All-push (All IsWord) g.lists of.values given.1 found.0) fine rest)
  all_words f (tree.named x others) g st k frame is given fine rest = all_words f others g st k frame is given fine rest

turns_words : (m : ℕ) (test : State → Value → Behaviour) (body : State → (State → Behaviour) → Behaviour) (st : State) (k : State → Behaviour) → IsFine st
    → ((st : State) (k : Value) → IsFine st → ((v : ℕ) (st : State) → IsWord v → IsFine st → SaysWords (k v st)) → SaysWords (test st k))
    → ((st : State) (k : State → Behaviour) → IsFine st → ((st : State) → IsFine st → SaysWords (k st)) → SaysWords (body st k))
    → ((st : State) → IsFine st → SaysWords (k st)) → SaysWords (turns m test body st k)
turns_words zero test body st k fine tests bodies rest = tt
turns_words (suc m) test body st k fine tests bodies rest =
    spent_words st _ fine (λ st fine. tests st _ fine (λ v st word fine. cond_both (v == 0) _ _ SaysWords
    (λ done. rest st fine) (λ more. bodies st _ fine (λ st fine. turns_words m test body st k fine tests bodies rest))))

printed_words : (v : ℕ) (st : State) (k : State → Behaviour) → IsWord v → SaysWords (k st) → SaysWords (print_step v st k)
printed_words v st k word rest = (word, All-nil IsWrite, λ a value output. rest)

mutual
  exec_words : (f : Frame) (s : Statement) (st : State) (k : State → Behaviour) → IsFineFrame f → is_statement_of_words s ≡ true → IsFine st
      → ((st : State) → IsFine st → SaysWords (k st)) → SaysWords (exec f s st k)
  exec_words f (tree.Let x e) st k frame is fine rest =
      spent_words st _ fine (λ st fine. eval_words f e st _ frame is fine (λ v st word fine. rest (with_variable x v st) (variable_fine x v st word fine)))
  exec_words f (tree.Assign x e) st k frame is fine rest =
      spent_words st _ fine (λ st fine. eval_words f e st _ frame is fine (λ v st word fine. rest (with_variable x v st) (variable_fine x v st word fine)))
  exec_words f (tree.If e first second) st k frame is fine rest =
      spent_words st _ fine (λ st fine. eval_words f e st _ frame (and_parts _ _ is).0 fine (λ v st word fine. cond_both (v == 0) _ _ SaysWords
      (λ none. exec_all_words f second st k frame (and_parts _ _ (and_parts _ _ is).1).1 fine rest)
      (λ some. exec_all_words f first st k frame (and_parts _ _ (and_parts _ _ is).1).0 fine rest)))
  exec_words f (tree.While e body) st k frame is fine rest =
      turns_words (suc st.fuel) (eval f e) (exec_all f body) st k fine
      (λ st k fine next. eval_words f e st k frame (and_parts _ _ is).0 fine next) (λ st k fine next. exec_all_words f body st k frame (and_parts _ _ is).1 fine next) rest
  exec_words f (tree.Print e) st k frame is fine rest =
      spent_words st _ fine (λ st fine. eval_words f e st (λ v st. print_step v st k) frame is fine (λ v st word fine. printed_words v st k word (rest st fine)))
  exec_words f (tree.Return e) st k frame is fine rest = spent_words st _ fine (λ st fine. eval_words f e st (λ v st. Ends v st.holds) frame is fine (λ v st word fine. (word, fine.2)))
  exec_words f (tree.Do made xs) st k frame is fine rest =
      spent_words st _ fine (λ st fine. eval_words f (tree.Invoked made xs) st _ frame is fine (λ v st word fine. rest st fine))

  exec_all_words : (f : Frame) (ss : Statements) (st : State) (k : State → Behaviour) → IsFineFrame f → are_statements_of_words ss ≡ true → IsFine st
      → ((st : State) → IsFine st → SaysWords (k st)) → SaysWords (exec_all f ss st k)
  exec_all_words f tree.nothing st k frame is fine rest = rest st fine
  exec_all_words f (tree.statement s others) st k frame is fine rest =
      exec_words f s st _ frame (and_parts _ _ is).0 fine (λ st fine. exec_all_words f others st k frame (and_parts _ _ is).1 fine rest)

statements_words : (program : List FunctionTree) (n : ℕ) → is_program_of_words program ≡ true → are_statements_of_words (statements_at program n) ≡ true
statements_words [] n is = refl
statements_words (f ∷ rest) zero is = refl
statements_words (f ∷ rest) (suc zero) is = (and_parts _ _ is).0
statements_words (f ∷ rest) (suc (suc n)) is = statements_words rest (suc n) (and_parts _ _ is).1

answered_words : (b : Behaviour) (a : Answer) → IsWord a.value → IsWord a.output → SaysWords b → SaysWords (after_answer a b)
answered_words (Ends g holds) a value output h = h
answered_words (Stops s) a value output h = h
answered_words (Asks made writes next) a value output h = h.2 a value output

after_words : (log : List Asked) (b : Behaviour) → AreAnsweredWords log → SaysWords b → SaysWords (after log b)
after_words [] b are h = h
after_words (asked ∷ earlier) b are h = answered_words (after earlier b) asked.answer are.1 are.2 (after_words earlier b are.0 h)

pub words_law : WordsLaw
words_law b log is params paramc deps depc holds answers =
    let f : Frame = record { params = b.params; depv = b.depv; function_of = numbers_in b.program } in
    after_words log (behaviour b) answers
    (exec_all_words f (statements_at b.program b.function) _ _ (params, paramc, deps, depc) (statements_words b.program b.function is)
    (omega arith, (λ x. omega arith), holds) (λ st fine. (omega arith, fine.2)))
