-- A body loads and stores, as calls, only what its holds make an entry.
use Rattle.std.proofs.Common.{◌≡◌, ◌==◌, ap, sym, ◌∙◌, subst, ℕ, zero, suc, List, [], ◌∷◌, Bool, true, false, Option, Some, None, length, nat_lt, if◌then◌else◌, refl}
use Rattle.std.proofs.lemmas.Bool.{cond_both, eqb-true}
use Rattle.ocr_program_tree.specs.Constant.{value_of}
use Rattle.ocr_program_tree.specs.Functions.{statements_at, numbers_in}
use Rattle.ocr_program_tree.specs.Tree as tree
use Rattle.ocr_program_tree.specs.Tree.{Expression, Arguments, Statement, Statements}
use Rattle.ocr_body_meaning.specs.Behaviour.{Behaviour, Ends, Stops, Asks, Asked, after, after_answer, IsNext, IsNextWith, IsTrace}
use Rattle.ocr_body_meaning.specs.Body.{behaviour}
use Rattle.ocr_body_meaning.specs.Holds.{Hold, Holds, Access, Refused, Silent, Entered, is_done, if_within, word_of, load_of, store_of, with_hold, with_write, after_store, creator_hold, after_accepted, after_call}
use Rattle.ocr_acquire.specs.Mode.{is_isolated, is_writable}
use Rattle.ocr_body_meaning.specs.Laws.{IsEnteredBy, AccessLaw, held_after}
use Rattle.ocr_body_meaning.specs.Meaning.{Frame, State, Value, Given, nothing_given, with_value, with_list, state_after_answer, spend, with_variable, unary_value, call_of, outputs_of, access_step, with_holds, made_step, eval, eval_all, turns, print_step, exec, exec_all}
use Rattle.ocr_body_meaning.specs.declared.call.Answer.{Answer}
use Rattle.ocr_body_meaning.specs.declared.call.BodyStop.{BodyStop}
use Rattle.ocr_body_meaning.specs.declared.call.BodyStop.TheVariants as stop
use Rattle.ocr_body_meaning.specs.declared.call.Call.{Call}
use Rattle.ocr_body_meaning.specs.declared.call.Call.TheVariants as call
use Rattle.ocr_body_meaning.proofs.Steps.{spend_case, binary_case, element_case}

-- a call that comes next, whatever its private writes
pub plain_next : (c : Call) (w : List (ℕ × ℕ)) (b : Behaviour) → IsNextWith c w b → IsNext c b
plain_next c w (Ends g holds) is = absurd is
plain_next c w (Stops s) is = absurd is
plain_next c w (Asks made private next) is = is.0

-- THE SAME HOLD, but for its words and for what was stored there
abbrev IsSameHold : Option Hold → Option Hold → Type 0
IsSameHold None None = Unit {0}
IsSameHold (Some h) (Some g) = (h.mode ≡ g.mode) × (h.size ≡ g.size)
IsSameHold other one = ⊥

abbrev AreSame : Holds → Holds → Type 0
AreSame held now = (d : ℕ) → IsSameHold (held d) (now d)

itself : (o : Option Hold) → IsSameHold o o
itself None = tt
itself (Some h) = (refl, refl)

same_stored : (w v : ℕ) (o p : Option Hold) → IsSameHold o p → IsSameHold o (with_write w v p)
same_stored w v None None is = tt
same_stored w v (Some h) (Some g) is = is
same_stored w v None (Some g) is = absurd is
same_stored w v (Some h) None is = absurd is

stored_same : (d w v : ℕ) (held now : Holds) → AreSame held now → AreSame held (with_hold d (with_write w v (now d)) now)
stored_same d w v held now same = λ x. elim (d == x) as (λ b. (d == x) ≡ b → IsSameHold (held x) (if b then with_write w v (now d) else now x)) [
  | true ↦ λ here. subst (λ (e : ℕ). IsSameHold (held e) (with_write w v (now d))) (eqb-true d x here) (same_stored w v (held d) (now d) (same d))
  | false ↦ λ _. same x
] refl

with_same : (d : ℕ) (o : Option Hold) (held now : Holds) → AreSame held now → AreSame (with_hold d o held) (with_hold d o now)
with_same d o held now same = λ x. elim (d == x) as (λ b. IsSameHold (if b then o else held x) (if b then o else now x)) [ true ↦ itself o | false ↦ same x ]

either_same : (b : Bool) (held now one other : Holds) → AreSame held now → AreSame one other → AreSame (if b then held else one) (if b then now else other)
either_same true held now one other same rest = same
either_same false held now one other same rest = rest

accepted_same : (made : Call) (a : Answer) (held now : Holds) → AreSame held now → AreSame (after_accepted made a held) (after_accepted made a now)
accepted_same (call.DbCreate n fl) a held now same =
    let hold : Option Hold = Some (creator_hold n) in
    either_same (fl == 0) (with_hold a.value hold held) (with_hold a.value hold now) held now (with_same a.value hold held now same) same
accepted_same (call.DbRelease d) a held now same = with_same d None held now same
accepted_same (call.DbDestroy d) a held now same = with_same d None held now same
accepted_same other a held now same = same

answered_same : (made : Call) (a : Answer) (held now : Holds) → AreSame held now → AreSame (after_call made a held) (after_call made a now)
answered_same made a held now same = either_same (is_done a.code) _ _ held now (accepted_same made a held now same) same

-- THE SAME ACCESS is an entry
entered_if : (a b : Bool) (s : BodyStop) (v : ℕ) → (if a then (if b then Silent v else Entered) else Refused s) ≡ Entered → (a ≡ true) × (b ≡ false)
entered_if true true s v is = cc is
entered_if true false s v is = (refl, refl)
entered_if false b s v is = cc is

written_if : (a : Bool) (s : BodyStop) (x : Access) → (if a then x else Refused s) ≡ Entered → (a ≡ true) × (x ≡ Entered)
written_if true s x is = (refl, is)
written_if false s x is = cc is

load_same : (o p : Option Hold) (w : ℕ) → IsSameHold o p → load_of p w ≡ Entered → load_of o w ≡ Entered
load_same None None w same is = is
load_same (Some h) (Some g) w same is =
    let both = entered_if (nat_lt w g.size) (is_isolated g.mode) stop.BadIndex (word_of g w) is in
    let below : nat_lt w h.size ≡ true = ap (nat_lt w) same.1 ∙ both.0 in
    let shared : is_isolated h.mode ≡ false = ap is_isolated same.0 ∙ both.1 in
    rw (below, shared) refl
load_same None (Some g) w same is = absurd same
load_same (Some h) None w same is = absurd same

store_same : (o p : Option Hold) (w : ℕ) → IsSameHold o p → store_of p w ≡ Entered → store_of o w ≡ Entered
store_same None None w same is = is
store_same (Some h) (Some g) w same is =
    let may = written_if (is_writable g.mode) stop.NotWritable (if_within g w (if is_isolated g.mode then Silent 0 else Entered)) is in
    let both = entered_if (nat_lt w g.size) (is_isolated g.mode) stop.BadIndex 0 may.1 in
    let writable : is_writable h.mode ≡ true = ap is_writable same.0 ∙ may.0 in
    let below : nat_lt w h.size ≡ true = ap (nat_lt w) same.1 ∙ both.0 in
    let shared : is_isolated h.mode ≡ false = ap is_isolated same.0 ∙ both.1 in
    rw (writable, below, shared) refl
store_same None (Some g) w same is = absurd same
store_same (Some h) None w same is = absurd same

-- WHAT COMES, where these are the holds
abbrev Accesses : Holds → Behaviour → Type 0
Accesses held (Ends g holds) = Unit {0}
Accesses held (Stops s) = Unit {0}
Accesses held (Asks made writes next) = IsEnteredBy held made × ((a : Answer) → Accesses (after_call made a held) (next a))

-- an access that is no entry, or is one that these holds make one
access_comes : (held : Holds) (found : Access) (made : Call) (st : State) (k : Value) → (found ≡ Entered → IsEnteredBy held made)
    → ((a : Answer) → Accesses (after_call made a held) (k a.value st)) → ((v : ℕ) → Accesses held (k v st)) → Accesses held (access_step found made st k)
access_comes held (Refused s) made st k entered answered silent = tt
access_comes held (Silent v) made st k entered answered silent = silent v
access_comes held Entered made st k entered answered silent = (entered refl, answered)

-- a call that leaves the holds as they are
kept_same : (b : Bool) (held now : Holds) → AreSame held now → AreSame (if b then held else held) now
kept_same true held now same = same
kept_same false held now same = same

holds_after_answer : (made : Call) (outputs : List (List ℕ)) (a : Answer) (st : State) → (state_after_answer made outputs a st).holds ≡ after_call made a st.holds
holds_after_answer made [] a st = refl
holds_after_answer made (x ∷ rest) a st = refl

-- what goes on does so wherever it holds the same
abbrev GoesOn : Value → Type 0
GoesOn k = (v : ℕ) (st : State) (held : Holds) → AreSame held st.holds → Accesses held (k v st)

coded_comes : (made : Call) (outputs : List (List ℕ)) (a : Answer) (st : State) (k : Value) (held : Holds) → AreSame held st.holds → GoesOn k
    → Accesses (after_call made a held) (k a.value (state_after_answer made outputs a st))
coded_comes made outputs a st k held same rest =
    rest a.value (state_after_answer made outputs a st) (after_call made a held)
    (subst (AreSame (after_call made a held)) (sym (holds_after_answer made outputs a st)) (answered_same made a held st.holds same))

made_comes : (made : Call) (outputs : List (List ℕ)) (st : State) (k : Value) (held : Holds) → AreSame held st.holds → GoesOn k → Accesses held (made_step made outputs st k)
made_comes call.Shutdown outputs st k held same rest = tt
made_comes (call.Abort code) outputs st k held same rest = tt
made_comes (call.Load d w) outputs st k held same rest =
    access_comes held (load_of (st.holds d) w) (call.Load d w) st k (load_same (held d) (st.holds d) w (same d))
    (λ a. rest a.value st _ (kept_same (is_done a.code) held st.holds same)) (λ v. rest v st held same)
made_comes (call.Store d w v) outputs st k held same rest = store_comes (store_of (st.holds d) w) refl
  where
    store_comes : (found : Access) → store_of (st.holds d) w ≡ found → Accesses held (access_step found (call.Store d w v) (with_holds (after_store found d w v st.holds) st) (λ _ now. k 0 now))
    store_comes (Refused s) is = tt
    store_comes (Silent x) is = rest 0 _ held (stored_same d w v held st.holds same)
    store_comes Entered is = (store_same (held d) (st.holds d) w (same d) is, λ a. rest 0 st _ (kept_same (is_done a.code) held st.holds same))
made_comes other outputs st k held same rest = (tt, λ a. coded_comes other outputs a st k held same rest)

spent_comes : (st : State) (k : State → Behaviour) (held : Holds) → AreSame held st.holds → ((st : State) → AreSame held st.holds → Accesses held (k st)) → Accesses held (spend st k)
spent_comes st k held same rest = spend_case (Accesses held) st k tt (λ left one. rest _ same)

mutual
  eval_comes : (f : Frame) (e : Expression) (st : State) (k : Value) (held : Holds) → AreSame held st.holds → GoesOn k → Accesses held (eval f e st k)
  eval_comes f (tree.Number n) st k held same rest = spent_comes st _ held same (λ st same. rest n st held same)
  eval_comes f (tree.Named c) st k held same rest = spent_comes st _ held same (λ st same. rest (value_of c) st held same)
  eval_comes f (tree.Var x) st k held same rest = spent_comes st _ held same (λ st same. rest (st.variables x) st held same)
  eval_comes f tree.Paramc st k held same rest = spent_comes st _ held same (λ st same. rest (length f.params) st held same)
  eval_comes f tree.Depc st k held same rest = spent_comes st _ held same (λ st same. rest (length f.depv) st held same)
  eval_comes f tree.LastCode st k held same rest = spent_comes st _ held same (λ st same. rest st.code st held same)
  eval_comes f (tree.Paramv e) st k held same rest =
      spent_comes st _ held same (λ st same. eval_comes f e st _ held same (λ i st held same. element_case (Accesses held) f.params i st k tt (rest _ st held same)))
  eval_comes f (tree.Depv e) st k held same rest =
      spent_comes st _ held same (λ st same. eval_comes f e st _ held same (λ i st held same. element_case (Accesses held) f.depv i st k tt (rest _ st held same)))
  eval_comes f (tree.Unary o e) st k held same rest =
      spent_comes st _ held same (λ st same. eval_comes f e st _ held same (λ x st held same. rest (unary_value o x) st held same))
  eval_comes f (tree.Binary o l r) st k held same rest =
      spent_comes st _ held same (λ st same. eval_comes f l st _ held same (λ x st held same. eval_comes f r st _ held same (λ y st held same.
      binary_case (Accesses held) o x y _ tt (λ v. rest v st held same))))
  eval_comes f (tree.Invoked made xs) st k held same rest =
      spent_comes st _ held same (λ st same. all_come f xs nothing_given st _ held same (λ g st held same. made_comes (call_of f made xs g) (outputs_of made xs) st k held same rest))

  all_come : (f : Frame) (xs : Arguments) (g : Given) (st : State) (k : Given → State → Behaviour) (held : Holds) → AreSame held st.holds
      → ((g : Given) (st : State) (held : Holds) → AreSame held st.holds → Accesses held (k g st)) → Accesses held (eval_all f xs g st k)
  all_come f tree.empty g st k held same rest = rest g st held same
  all_come f (tree.value e others) g st k held same rest = eval_comes f e st _ held same (λ v st held same. all_come f others (with_value g v) st k held same rest)
  all_come f (tree.list es others) g st k held same rest = all_come f es nothing_given st _ held same (λ of st held same. all_come f others (with_list g of.values) st k held same rest)
  all_come f (tree.named x others) g st k held same rest = all_come f others g st k held same rest

-- statements go on alike
abbrev RunsOn : (State → Behaviour) → Type 0
RunsOn k = (st : State) (held : Holds) → AreSame held st.holds → Accesses held (k st)

turns_come : (n : ℕ) (test : State → Value → Behaviour) (body : State → (State → Behaviour) → Behaviour) (st : State) (k : State → Behaviour) (held : Holds) → AreSame held st.holds
    → ((st : State) (k : Value) (held : Holds) → AreSame held st.holds → GoesOn k → Accesses held (test st k))
    → ((st : State) (k : State → Behaviour) (held : Holds) → AreSame held st.holds → RunsOn k → Accesses held (body st k))
    → RunsOn k → Accesses held (turns n test body st k)
turns_come zero test body st k held same tests bodies rest = tt
turns_come (suc n) test body st k held same tests bodies rest =
    spent_comes st _ held same (λ st same. tests st _ held same (λ v st held same. cond_both (v == 0) _ _ (Accesses held)
    (λ done. rest st held same) (λ more. bodies st _ held same (λ st held same. turns_come n test body st k held same tests bodies rest))))

mutual
  exec_comes : (f : Frame) (s : Statement) (st : State) (k : State → Behaviour) (held : Holds) → AreSame held st.holds → RunsOn k → Accesses held (exec f s st k)
  exec_comes f (tree.Let x e) st k held same rest = spent_comes st _ held same (λ st same. eval_comes f e st _ held same (λ v st held same. rest (with_variable x v st) held same))
  exec_comes f (tree.Assign x e) st k held same rest = spent_comes st _ held same (λ st same. eval_comes f e st _ held same (λ v st held same. rest (with_variable x v st) held same))
  exec_comes f (tree.If e first second) st k held same rest =
      spent_comes st _ held same (λ st same. eval_comes f e st _ held same (λ v st held same. cond_both (v == 0) _ _ (Accesses held)
      (λ none. exec_all_come f second st k held same rest) (λ some. exec_all_come f first st k held same rest)))
  exec_comes f (tree.While e body) st k held same rest =
      turns_come (suc st.fuel) (eval f e) (exec_all f body) st k held same
      (λ st k held same next. eval_comes f e st k held same next) (λ st k held same next. exec_all_come f body st k held same next) rest
  exec_comes f (tree.Print e) st k held same rest =
      spent_comes st _ held same (λ st same. eval_comes f e st (λ v st. print_step v st k) held same (λ v st held same.
      (tt, λ a. rest st _ (kept_same (is_done a.code) held st.holds same))))
  exec_comes f (tree.Return e) st k held same rest = spent_comes st _ held same (λ st same. eval_comes f e st (λ v st. Ends v st.holds) held same (λ v st held same. tt))
  exec_comes f (tree.Do made xs) st k held same rest = spent_comes st _ held same (λ st same. eval_comes f (tree.Invoked made xs) st _ held same (λ v st held same. rest st held same))

  exec_all_come : (f : Frame) (ss : Statements) (st : State) (k : State → Behaviour) (held : Holds) → AreSame held st.holds → RunsOn k → Accesses held (exec_all f ss st k)
  exec_all_come f tree.nothing st k held same rest = rest st held same
  exec_all_come f (tree.statement s others) st k held same rest = exec_comes f s st _ held same (λ st held same. exec_all_come f others st k held same rest)

-- what is left after calls that came
answered_comes : (b : Behaviour) (made : Call) (a : Answer) (held : Holds) → IsNext made b → Accesses held b → Accesses (after_call made a held) (after_answer a b)
answered_comes (Ends g holds) made a held is comes = absurd is
answered_comes (Stops s) made a held is comes = absurd is
answered_comes (Asks call writes next) made a held is comes = subst (λ (c : Call). Accesses (after_call c a held) (next a)) is (comes.1 a)

traced_comes : (log : List Asked) (b : Behaviour) (held : Holds) → IsTrace b log → Accesses held b → Accesses (held_after log held) (after log b)
traced_comes [] b held trace comes = comes
traced_comes (asked ∷ earlier) b held trace comes = answered_comes (after earlier b) asked.call asked.answer (held_after earlier held) trace.1 (traced_comes earlier b held trace.0 comes)

next_entered : (b : Behaviour) (made : Call) (held : Holds) → IsNext made b → Accesses held b → IsEnteredBy held made
next_entered (Ends g holds) made held is comes = absurd is
next_entered (Stops s) made held is comes = absurd is
next_entered (Asks call writes next) made held is comes = subst (IsEnteredBy held) is comes.0

pub access_law : AccessLaw
access_law b log made trace next =
    let f : Frame = record { params = b.params; depv = b.depv; function_of = numbers_in b.program } in
    next_entered (after log (behaviour b)) made (held_after log b.holds) next
    (traced_comes log (behaviour b) b.holds trace
    (exec_all_come f (statements_at b.program b.function) _ _ b.holds (λ d. itself (b.holds d)) (λ st held same. tt)))
