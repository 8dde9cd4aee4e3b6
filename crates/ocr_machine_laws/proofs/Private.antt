-- A body has private writes of a hold in EW alone.
use Rattle.std.proofs.Common.{◌≡◌, ◌⊎◌, inl, inr, ◌==◌, ap, sym, ◌∙◌, subst, ℕ, zero, suc, List, [], ◌∷◌, Bool, true, false, Option, Some, None, length, nat_lt, if◌then◌else◌, refl}
use Rattle.std.proofs.lemmas.Bool.{cond_both, eqb-true}
use Rattle.ocr_acquire.specs.declared.Mode.{Mode}
use Rattle.ocr_acquire.specs.declared.Mode.TheVariants as mode
use Rattle.ocr_acquire.specs.Mode.{is_isolated}
use Rattle.ocr_program_tree.specs.Constant.{value_of}
use Rattle.ocr_program_tree.specs.Functions.{statements_at, numbers_in}
use Rattle.ocr_program_tree.specs.Tree as tree
use Rattle.ocr_program_tree.specs.Tree.{Expression, Arguments, Statement, Statements}
use Rattle.ocr_body_meaning.specs.Behaviour.{Behaviour, Ends, Stops, Asks, Asked, after, after_answer, IsNext, IsNextWith, IsTrace}
use Rattle.ocr_body_meaning.specs.Body.{Body, behaviour, says}
use Rattle.ocr_body_meaning.specs.Holds.{Hold, Holds, Access, Refused, Silent, Entered, is_done, load_of, store_of, with_hold, with_write, after_store, creator_hold, private_in, private_of, after_accepted, after_call}
use Rattle.ocr_body_meaning.specs.Laws.{held_after}
use Rattle.ocr_body_meaning.specs.Meaning.{Frame, State, Value, Given, nothing_given, with_value, with_list, state_after_answer, spend, with_variable, unary_value, call_of, outputs_of, access_step, with_holds, made_step, eval, eval_all, turns, print_step, exec, exec_all}
use Rattle.ocr_body_meaning.specs.declared.call.Answer.{Answer}
use Rattle.ocr_body_meaning.specs.declared.call.BodyStop.{BodyStop}
use Rattle.ocr_body_meaning.specs.declared.call.BodyStop.TheVariants as stop
use Rattle.ocr_body_meaning.specs.declared.call.Call.{Call}
use Rattle.ocr_body_meaning.specs.declared.call.Call.TheVariants as call
use Rattle.ocr_body_meaning.proofs.Steps.{spend_case, binary_case, element_case}
use Rattle.ocr_machine_history.specs.declared.entry.Entry.TheVariants.{Start}
use Rattle.ocr_machine_history.specs.History.{History, Setting}
use Rattle.ocr_machine_parts.specs.declared.loans.Kept.{Kept}
use Rattle.ocr_machine_parts.specs.declared.part.Part.{Part}
use Rattle.ocr_machine_parts.specs.Bodies.{writes_in, hold_in, hold_of, holds_on, first_holds}
use Rattle.ocr_machine_parts.specs.Kinds.{mode_on, kept_on}
use Rattle.ocr_machine_parts.specs.Legal.{IsRun}
use Rattle.ocr_machine_parts.specs.Parts.{parts_of}
use Rattle.ocr_machine_laws.specs.Held.{IsFitting}
use Rattle.ocr_machine_laws.proofs.Held.{kept_fits_law}

-- WRITES of a hold in this mode: none, but in EW
abbrev pub AreOf : Option Mode → List (ℕ × ℕ) → Type 0
AreOf m w = (w ≡ []) ⊎ (m ≡ Some mode.Ew)

abbrev pub mode_of_hold : Option Hold → Option Mode
mode_of_hold None = None
mode_of_hold (Some h) = Some h.mode

-- a hold with what was stored there is in the mode of the hold, and its writes are of this mode
record IsGrown (o p : Option Hold) : Type 0 where
  same : mode_of_hold o ≡ mode_of_hold p
  writes : AreOf (mode_of_hold p) (private_in p)

abbrev AreGrown : Holds → Holds → Type 0
AreGrown held now = (d : ℕ) → IsGrown (held d) (now d)

-- a store that is no entry is one in EW
silent_if : (b : Bool) (x : ℕ) → ◌≡◌ {A = Access} (if b then Entered else Refused stop.BadIndex) (Silent x) → ⊥
silent_if true x is = cc is
silent_if false x is = cc is

silent_mode : (m : Mode) (size : ℕ) (began : List ℕ) (writes : List (ℕ × ℕ)) (w x : ℕ) → store_of (Some (record { mode = m; size = size; began = began; writes = writes })) w ≡ Silent x → m ≡ mode.Ew
silent_mode mode.Ew size began writes w x is = refl
silent_mode mode.Rw size began writes w x is = absurd (silent_if (nat_lt w size) x is)
silent_mode other size began writes w x is = cc is

silent_ew : (o : Option Hold) (w x : ℕ) → store_of o w ≡ Silent x → mode_of_hold o ≡ Some mode.Ew
silent_ew None w x is = cc is
silent_ew (Some h) w x is = ap (λ (m : Mode). Some m) (silent_mode h.mode h.size h.began h.writes w x is)

write_mode : (w v : ℕ) (o : Option Hold) → mode_of_hold (with_write w v o) ≡ mode_of_hold o
write_mode w v None = refl
write_mode w v (Some h) = refl

stored_grown : (d w v x : ℕ) (held now : Holds) → store_of (now d) w ≡ Silent x → AreGrown held now → AreGrown held (with_hold d (with_write w v (now d)) now)
stored_grown d w v x held now silent grown = λ y. elim (d == y) as (λ b. (d == y) ≡ b → IsGrown (held y) (if b then with_write w v (now d) else now y)) [
  | true ↦ λ here. subst (λ (n : ℕ). IsGrown (held n) (with_write w v (now d))) (eqb-true d y here) (record {
    same = (grown d).same ∙ sym (write_mode w v (now d));
    writes = inr (write_mode w v (now d) ∙ silent_ew (now d) w x silent);
  })
  | false ↦ λ _. grown y
] refl

-- both with a hold that begins, or without one
with_grown : (d : ℕ) (o : Option Hold) (held now : Holds) → private_in o ≡ [] → AreGrown held now → AreGrown (with_hold d o held) (with_hold d o now)
with_grown d o held now none grown = λ y. elim (d == y) as (λ b. IsGrown (if b then o else held y) (if b then o else now y)) [
  | true ↦ record { same = refl; writes = inl none }
  | false ↦ grown y
]

either_grown : (b : Bool) (held now one other : Holds) → AreGrown held now → AreGrown one other → AreGrown (if b then held else one) (if b then now else other)
either_grown true held now one other grown rest = grown
either_grown false held now one other grown rest = rest

accepted_grown : (made : Call) (a : Answer) (held now : Holds) → AreGrown held now → AreGrown (after_accepted made a held) (after_accepted made a now)
accepted_grown (call.DbCreate n fl) a held now grown =
    let hold : Option Hold = Some (creator_hold n) in
    either_grown (fl == 0) (with_hold a.value hold held) (with_hold a.value hold now) held now (with_grown a.value hold held now refl grown) grown
accepted_grown (call.DbRelease d) a held now grown = with_grown d None held now refl grown
accepted_grown (call.DbDestroy d) a held now grown = with_grown d None held now refl grown
accepted_grown other a held now grown = grown

answered_grown : (made : Call) (a : Answer) (held now : Holds) → AreGrown held now → AreGrown (after_call made a held) (after_call made a now)
answered_grown made a held now grown = either_grown (is_done a.code) _ _ held now (accepted_grown made a held now grown) grown

-- a call that leaves the holds as they are
kept_grown : (b : Bool) (held now : Holds) → AreGrown held now → AreGrown (if b then held else held) now
kept_grown true held now grown = grown
kept_grown false held now grown = grown

-- WHAT COMES, where these are the holds: a call that ends a hold has its writes, and so has the end
abbrev pub AreBy : Holds → Call → List (ℕ × ℕ) → Type 0
AreBy held (call.DbRelease d) w = AreOf (mode_of_hold (held d)) w
AreBy held (call.DbDestroy d) w = AreOf (mode_of_hold (held d)) w
AreBy held other w = Unit {0}

abbrev Writes : Holds → Behaviour → Type 0
Writes held (Ends g holds) = (d : ℕ) → AreOf (mode_of_hold (held d)) (private_in (holds d))
Writes held (Stops s) = Unit {0}
Writes held (Asks made writes next) = AreBy held made writes × ((a : Answer) → Writes (after_call made a held) (next a))

of_hold : (o p : Option Hold) → IsGrown o p → AreOf (mode_of_hold o) (private_in p)
of_hold o p grown = subst (λ (m : Option Mode). AreOf m (private_in p)) (sym grown.same) grown.writes

private_by : (held now : Holds) (made : Call) → AreGrown held now → AreBy held made (private_of made now)
private_by held now (call.DbRelease d) grown = of_hold (held d) (now d) (grown d)
private_by held now (call.DbDestroy d) grown = of_hold (held d) (now d) (grown d)
private_by held now other grown = tt

holds_after_answer : (made : Call) (outputs : List (List ℕ)) (a : Answer) (st : State) → (state_after_answer made outputs a st).holds ≡ after_call made a st.holds
holds_after_answer made [] a st = refl
holds_after_answer made (x ∷ rest) a st = refl

-- what goes on does so wherever it holds this
abbrev GoesOn : Value → Type 0
GoesOn k = (v : ℕ) (st : State) (held : Holds) → AreGrown held st.holds → Writes held (k v st)

coded_writes : (made : Call) (outputs : List (List ℕ)) (a : Answer) (st : State) (k : Value) (held : Holds) → AreGrown held st.holds → GoesOn k
    → Writes (after_call made a held) (k a.value (state_after_answer made outputs a st))
coded_writes made outputs a st k held grown rest =
    rest a.value (state_after_answer made outputs a st) (after_call made a held)
    (subst (AreGrown (after_call made a held)) (sym (holds_after_answer made outputs a st)) (answered_grown made a held st.holds grown))

made_writes : (made : Call) (outputs : List (List ℕ)) (st : State) (k : Value) (held : Holds) → AreGrown held st.holds → GoesOn k → Writes held (made_step made outputs st k)
made_writes call.Shutdown outputs st k held grown rest = tt
made_writes (call.Abort code) outputs st k held grown rest = tt
made_writes (call.Load d w) outputs st k held grown rest = load_writes (load_of (st.holds d) w)
  where
    load_writes : (found : Access) → Writes held (access_step found (call.Load d w) st k)
    load_writes (Refused s) = tt
    load_writes (Silent v) = rest v st held grown
    load_writes Entered = (tt, λ a. rest a.value st _ (kept_grown (is_done a.code) held st.holds grown))
made_writes (call.Store d w v) outputs st k held grown rest = store_writes (store_of (st.holds d) w) refl
  where
    store_writes : (found : Access) → store_of (st.holds d) w ≡ found → Writes held (access_step found (call.Store d w v) (with_holds (after_store found d w v st.holds) st) (λ _ now. k 0 now))
    store_writes (Refused s) is = tt
    store_writes (Silent x) is = rest 0 _ held (stored_grown d w v x held st.holds is grown)
    store_writes Entered is = (tt, λ a. rest 0 st _ (kept_grown (is_done a.code) held st.holds grown))
made_writes other outputs st k held grown rest = (private_by held st.holds other grown, λ a. coded_writes other outputs a st k held grown rest)

spent_writes : (st : State) (k : State → Behaviour) (held : Holds) → AreGrown held st.holds → ((st : State) → AreGrown held st.holds → Writes held (k st)) → Writes held (spend st k)
spent_writes st k held grown rest = spend_case (Writes held) st k tt (λ left one. rest _ grown)

mutual
  eval_writes : (f : Frame) (e : Expression) (st : State) (k : Value) (held : Holds) → AreGrown held st.holds → GoesOn k → Writes held (eval f e st k)
  eval_writes f (tree.Number n) st k held grown rest = spent_writes st _ held grown (λ st grown. rest n st held grown)
  eval_writes f (tree.Named c) st k held grown rest = spent_writes st _ held grown (λ st grown. rest (value_of c) st held grown)
  eval_writes f (tree.Var x) st k held grown rest = spent_writes st _ held grown (λ st grown. rest (st.variables x) st held grown)
  eval_writes f tree.Paramc st k held grown rest = spent_writes st _ held grown (λ st grown. rest (length f.params) st held grown)
  eval_writes f tree.Depc st k held grown rest = spent_writes st _ held grown (λ st grown. rest (length f.depv) st held grown)
  eval_writes f tree.LastCode st k held grown rest = spent_writes st _ held grown (λ st grown. rest st.code st held grown)
  eval_writes f (tree.Paramv e) st k held grown rest =
      spent_writes st _ held grown (λ st grown. eval_writes f e st _ held grown (λ i st held grown. element_case (Writes held) f.params i st k tt (rest _ st held grown)))
  eval_writes f (tree.Depv e) st k held grown rest =
      spent_writes st _ held grown (λ st grown. eval_writes f e st _ held grown (λ i st held grown. element_case (Writes held) f.depv i st k tt (rest _ st held grown)))
  eval_writes f (tree.Unary o e) st k held grown rest =
      spent_writes st _ held grown (λ st grown. eval_writes f e st _ held grown (λ x st held grown. rest (unary_value o x) st held grown))
  eval_writes f (tree.Binary o l r) st k held grown rest =
      spent_writes st _ held grown (λ st grown. eval_writes f l st _ held grown (λ x st held grown. eval_writes f r st _ held grown (λ y st held grown.
      binary_case (Writes held) o x y _ tt (λ v. rest v st held grown))))
  eval_writes f (tree.Invoked made xs) st k held grown rest =
      spent_writes st _ held grown (λ st grown. all_write f xs nothing_given st _ held grown (λ g st held grown. made_writes (call_of f made xs g) (outputs_of made xs) st k held grown rest))

  all_write : (f : Frame) (xs : Arguments) (g : Given) (st : State) (k : Given → State → Behaviour) (held : Holds) → AreGrown held st.holds
      → ((g : Given) (st : State) (held : Holds) → AreGrown held st.holds → Writes held (k g st)) → Writes held (eval_all f xs g st k)
  all_write f tree.empty g st k held grown rest = rest g st held grown
  all_write f (tree.value e others) g st k held grown rest = eval_writes f e st _ held grown (λ v st held grown. all_write f others (with_value g v) st k held grown rest)
  all_write f (tree.list es others) g st k held grown rest = all_write f es nothing_given st _ held grown (λ of st held grown. all_write f others (with_list g of.values) st k held grown rest)
  all_write f (tree.named x others) g st k held grown rest = all_write f others g st k held grown rest

-- statements go on alike
abbrev RunsOn : (State → Behaviour) → Type 0
RunsOn k = (st : State) (held : Holds) → AreGrown held st.holds → Writes held (k st)

turns_write : (n : ℕ) (test : State → Value → Behaviour) (body : State → (State → Behaviour) → Behaviour) (st : State) (k : State → Behaviour) (held : Holds) → AreGrown held st.holds
    → ((st : State) (k : Value) (held : Holds) → AreGrown held st.holds → GoesOn k → Writes held (test st k))
    → ((st : State) (k : State → Behaviour) (held : Holds) → AreGrown held st.holds → RunsOn k → Writes held (body st k))
    → RunsOn k → Writes held (turns n test body st k)
turns_write zero test body st k held grown tests bodies rest = tt
turns_write (suc n) test body st k held grown tests bodies rest =
    spent_writes st _ held grown (λ st grown. tests st _ held grown (λ v st held grown. cond_both (v == 0) _ _ (Writes held)
    (λ done. rest st held grown) (λ more. bodies st _ held grown (λ st held grown. turns_write n test body st k held grown tests bodies rest))))

mutual
  exec_writes : (f : Frame) (s : Statement) (st : State) (k : State → Behaviour) (held : Holds) → AreGrown held st.holds → RunsOn k → Writes held (exec f s st k)
  exec_writes f (tree.Let x e) st k held grown rest = spent_writes st _ held grown (λ st grown. eval_writes f e st _ held grown (λ v st held grown. rest (with_variable x v st) held grown))
  exec_writes f (tree.Assign x e) st k held grown rest = spent_writes st _ held grown (λ st grown. eval_writes f e st _ held grown (λ v st held grown. rest (with_variable x v st) held grown))
  exec_writes f (tree.If e first second) st k held grown rest =
      spent_writes st _ held grown (λ st grown. eval_writes f e st _ held grown (λ v st held grown. cond_both (v == 0) _ _ (Writes held)
      (λ none. exec_all_writes f second st k held grown rest) (λ some. exec_all_writes f first st k held grown rest)))
  exec_writes f (tree.While e body) st k held grown rest =
      turns_write (suc st.fuel) (eval f e) (exec_all f body) st k held grown
      (λ st k held grown next. eval_writes f e st k held grown next) (λ st k held grown next. exec_all_writes f body st k held grown next) rest
  exec_writes f (tree.Print e) st k held grown rest =
      spent_writes st _ held grown (λ st grown. eval_writes f e st (λ v st. print_step v st k) held grown (λ v st held grown.
      (tt, λ a. rest st _ (kept_grown (is_done a.code) held st.holds grown))))
  exec_writes f (tree.Return e) st k held grown rest = spent_writes st _ held grown (λ st grown. eval_writes f e st (λ v st. Ends v st.holds) held grown (λ v st held grown. λ d. of_hold (held d) (st.holds d) (grown d)))
  exec_writes f (tree.Do made xs) st k held grown rest = spent_writes st _ held grown (λ st grown. eval_writes f (tree.Invoked made xs) st _ held grown (λ v st held grown. rest st held grown))

  exec_all_writes : (f : Frame) (ss : Statements) (st : State) (k : State → Behaviour) (held : Holds) → AreGrown held st.holds → RunsOn k → Writes held (exec_all f ss st k)
  exec_all_writes f tree.nothing st k held grown rest = rest st held grown
  exec_all_writes f (tree.statement s others) st k held grown rest = exec_writes f s st _ held grown (λ st held grown. exec_all_writes f others st k held grown rest)

-- what is left after calls that came
answered_writes : (b : Behaviour) (made : Call) (a : Answer) (held : Holds) → IsNext made b → Writes held b → Writes (after_call made a held) (after_answer a b)
answered_writes (Ends g holds) made a held is comes = absurd is
answered_writes (Stops s) made a held is comes = absurd is
answered_writes (Asks call writes next) made a held is comes = subst (λ (c : Call). Writes (after_call c a held) (next a)) is (comes.1 a)

traced_writes : (log : List Asked) (b : Behaviour) (held : Holds) → IsTrace b log → Writes held b → Writes (held_after log held) (after log b)
traced_writes [] b held trace comes = comes
traced_writes (asked ∷ earlier) b held trace comes = answered_writes (after earlier b) asked.call asked.answer (held_after earlier held) trace.1 (traced_writes earlier b held trace.0 comes)

body_writes : (b : Body) (log : List Asked) → ((d : ℕ) → private_in (b.holds d) ≡ []) → IsTrace (behaviour b) log → Writes (held_after log b.holds) (says b log)
body_writes b log none trace =
    let f : Frame = record { params = b.params; depv = b.depv; function_of = numbers_in b.program } in
    traced_writes log (behaviour b) b.holds trace
    (exec_all_writes f (statements_at b.program b.function) _ _ b.holds (λ d. record { same = refl; writes = inl (none d) }) (λ st held grown. λ d. of_hold (held d) (st.holds d) (grown d)))

-- THE WRITES of a call that comes next
next_by : (b : Behaviour) (made : Call) (w : List (ℕ × ℕ)) (held : Holds) → IsNextWith made w b → Writes held b → AreBy held made w
next_by (Ends g holds) made w held is comes = absurd is
next_by (Stops s) made w held is comes = absurd is
next_by (Asks call writes next) made w held is comes =
    subst (AreBy held made) is.1 (subst (λ (c : Call). AreBy held c writes) is.0 comes.0)

pub call_writes : (b : Body) (log : List Asked) (made : Call) (w : List (ℕ × ℕ)) → ((d : ℕ) → private_in (b.holds d) ≡ []) → IsTrace (behaviour b) log → IsNextWith made w (says b log) → AreBy (held_after log b.holds) made w
call_writes b log made w none trace next = next_by (says b log) made w (held_after log b.holds) next (body_writes b log none trace)

-- and those that are left at the end
pub end_writes : (b : Body) (log : List Asked) (g : ℕ) (holds : Holds) (d : ℕ) → ((d : ℕ) → private_in (b.holds d) ≡ []) → IsTrace (behaviour b) log → says b log ≡ Ends g holds → AreOf (mode_of_hold (held_after log b.holds d)) (private_in (holds d))
end_writes b log g holds d none trace ends = subst (Writes (held_after log b.holds)) ends (body_writes b log none trace) d

-- a hold by a core has the mode of the core
pub mode_in_hold : (m : Mode) (kept : Kept) → (hold_in m kept.size kept.loan).mode ≡ m
mode_in_hold mode.Ew kept = refl
mode_in_hold mode.Const kept = refl
mode_in_hold other kept = refl

pub mode_by_core : (m : Option Mode) (k : Option Kept) (j : Mode) → mode_of_hold (hold_of m k) ≡ Some j → m ≡ Some j
mode_by_core (Some m) (Some kept) j is = ap (λ (n : Mode). Some n) (sym (mode_in_hold m kept)) ∙ is
mode_by_core (Some m) None j is = cc is
mode_by_core None k j is = cc is

-- WITH WHAT A BODY BEGINS: nothing was stored there yet
fresh_hold : (m : Mode) (kept : Kept) → (is_isolated m ≡ true → (words : List ℕ) × IsFitting m kept words) → (hold_in m kept.size kept.loan).writes ≡ []
fresh_hold mode.Ew kept fits = ap writes_in (fits refl).1.loan
fresh_hold mode.Const kept fits = ap writes_in (fits refl).1.loan
fresh_hold other kept fits = refl

none_private : (s : Setting) (past : History) (t d : ℕ) → IsRun s past → private_in (holds_on (parts_of s past) t d) ≡ []
none_private s past t d run =
    let x : Part = (parts_of s past).core t in
    elim (mode_on x d) as (λ m. mode_on x d ≡ m → private_in (hold_of m (kept_on x d)) ≡ []) [
      | None ↦ λ _. none_held (kept_on x d)
      | Some m ↦ λ is.
          let fit = kept_fits_law s past t d m run is in
          ap (λ (o : Option Kept). private_in (hold_of (Some m) o)) fit.1.is_kept ∙ fresh_hold m fit.0 fit.1.isolated
    ] refl
  where
    none_held : (k : Option Kept) → private_in (hold_of None k) ≡ []
    none_held None = refl
    none_held (Some k) = refl

pub first_private : (s : Setting) (past : History) (t d : ℕ) → IsRun s past → private_in (first_holds s past t d) ≡ []
first_private s [] t d run = refl
first_private s (Start u ∷ past) t d run = elim (u == t) as (λ b. private_in ((if b then holds_on (parts_of s (Start u ∷ past)) t else first_holds s past t) d) ≡ []) [
  | true ↦ none_private s (Start u ∷ past) t d run
  | false ↦ first_private s past t d run.0
]
first_private s (e ∷ past) t d run = first_private s past t d run.0
