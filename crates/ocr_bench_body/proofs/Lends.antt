-- Loans as the holds of an EDT.
use Rattle.std.proofs.Common.{Result, Ok, Err, IfOk, IfErr, OnOk, ◌≡◌, ◌<◌, ◌==◌, ◌+◌, ℕ, zero, suc, List, [], ◌∷◌, length, get_or, set, cond, Bool, true, false, if◌then◌else◌, Option, Some, None, refl, sym, ap, subst, ◌∙◌, arith}
use Rattle.std.specs.List.{position, position_from}
use Rattle.std.proofs.lemmas.Bool.{eqb-true, eq-eqb}
use Rattle.std.proofs.lemmas.Iterator.Adapters.{position_from-zero}
use Rattle.std.proofs.lemmas.List.Elements.{All-head, All-tail, All-set, All-get_or}
use Rattle.std.proofs.lemmas.List.Quantifiers.{position-Some}
use Rattle.ocr_datablock.specs.Lent.{Loan}
use Rattle.ocr_base.specs.Count.{Rose}
use Rattle.ocr_body_steps.specs.Api.{IsAccessed, IsAccessStop}
use Rattle.ocr_body_meaning.specs.Behaviour.{Asked}
use Rattle.ocr_body_meaning.specs.Holds.{Access, Hold, Holds, Silent, Entered, load_of, store_of, after_store, with_hold, with_write}
use Rattle.ocr_acquire.specs.Mode.{is_isolated}
use Rattle.ocr_body_meaning.specs.declared.call.BodyStop.{BodyStop}
use Rattle.ocr_body_meaning.specs.declared.call.BodyStop.TheVariants as stop
use Rattle.ocr_body_meaning.specs.declared.call.Call.{Call}
use Rattle.ocr_tests_body.proofs.Entries.{never_loaded, never_stored}
use Rattle.ocr_tests_body.specs.Served.{lent_hold}
use Rattle.ocr_bench_body.specs.Loans.{begun_hold, held_in, AreIsolated}
use Rattle.ocr_bench_body.specs.declared.loans.Held.{Held}

-- whether this block is held so
abbrev pub is_of : ℕ → Held → Bool
is_of b h = h.block == b

absent_step : (here : Bool) (i : ℕ) (later : Option ℕ) (found rest : Option Hold) → cond here (Some i) later ≡ None → (later ≡ None → rest ≡ None) → (if here then found else rest) ≡ None
absent_step true i later found rest none next = cc none
absent_step false i later found rest none next = next none

absent_from : (told : Loan → Hold) (b : ℕ) (xs : List Held) (i : ℕ) → position_from (is_of b) i xs ≡ None → held_in told xs b ≡ None
absent_from told b [] i none = refl
absent_from told b (x ∷ xs) i none = absent_step (is_of b x) i _ _ _ none (absent_from told b xs (i + 1))

-- a block that is nowhere in the list is not held
pub absent : (told : Loan → Hold) (b : ℕ) (xs : List Held) → position (is_of b) xs ≡ None → held_in told xs b ≡ None
absent told b xs none = absent_from told b xs 0 (sym (position_from-zero (is_of b) xs) ∙ none)

found_at : (told : Loan → Hold) (b : ℕ) (xs : List Held) (i : ℕ) (d : Held) → i < length xs → is_of b (get_or xs i d) ≡ true
    → ((k : ℕ) → k < i → is_of b (get_or xs k d) ≡ false) → held_in told xs b ≡ Some (told (get_or xs i d).loan)
found_at told b [] i d less here before = absurd (omega (arith, less))
found_at told b (x ∷ xs) zero d less here before = ap (λ (c : Bool). if c then Some (told x.loan) else held_in told xs b) here
found_at told b (x ∷ xs) (suc i) d less here before =
    ap (λ (c : Bool). if c then Some (told x.loan) else held_in told xs b) (before zero (omega arith))
    ∙ found_at told b xs i d (omega (arith, less)) here (λ k below. before (suc k) (omega (arith, below)))

-- what is held of a block is the loan at its place
pub found : (told : Loan → Hold) (b : ℕ) (xs : List Held) (i : ℕ) (h : Held) → position (is_of b) xs ≡ Some i → h ≡ get_or xs i h → held_in told xs b ≡ Some (told h.loan)
found told b xs i h at is =
    let there = position-Some (is_of b) xs i h at in
    found_at told b xs i h there.0 there.1 there.2 ∙ ap (λ (of : Held). Some (told of.loan)) (sym is)

twice : {A : Type 0} (b : Bool) (v w r : A) → (if b then v else r) ≡ (if b then v else (if b then w else r))
twice true v w r = refl
twice false v w r = refl

swapped : {A : Type 0} (b c : Bool) (v w r : A) → (b ≡ true → c ≡ true → ⊥) → (if b then v else (if c then w else r)) ≡ (if c then w else (if b then v else r))
swapped true true v w r both = absurd (both refl refl)
swapped true false v w r both = refl
swapped false c v w r both = refl

set_at : (told : Loan → Hold) (b z : ℕ) (xs : List Held) (i : ℕ) (d y : Held) → i < length xs → y.block ≡ b → is_of b (get_or xs i d) ≡ true
    → ((k : ℕ) → k < i → is_of b (get_or xs k d) ≡ false) → held_in told (set xs i y) z ≡ with_hold b (Some (told y.loan)) (held_in told xs) z
set_at told b z [] i d y less same here before = absurd (omega (arith, less))
set_at told b z (x ∷ xs) zero d y less same here before =
    ap (λ (n : ℕ). if n == z then Some (told y.loan) else held_in told xs z) same
    ∙ twice (b == z) (Some (told y.loan)) (Some (told x.loan)) (held_in told xs z)
    ∙ ap (λ (n : ℕ). if b == z then Some (told y.loan) else (if n == z then Some (told x.loan) else held_in told xs z)) (sym (eqb-true x.block b here))
set_at told b z (x ∷ xs) (suc i) d y less same here before =
    let apart : (x.block == z) ≡ true → (b == z) ≡ true → ⊥ = λ p q.
    let one : x.block ≡ b = eqb-true x.block z p ∙ sym (eqb-true b z q) in
    cc (sym (eq-eqb x.block b one) ∙ before zero (omega arith)) in
    ap (λ (r : Option Hold). if x.block == z then Some (told x.loan) else r) (set_at told b z xs i d y (omega (arith, less)) same here (λ k below. before (suc k) (omega (arith, below))))
    ∙ swapped (x.block == z) (b == z) (Some (told x.loan)) (Some (told y.loan)) (held_in told xs z) apart

-- another loan of a block at its place
pub replaced : (told : Loan → Hold) (b : ℕ) (xs : List Held) (i : ℕ) (h y : Held) → position (is_of b) xs ≡ Some i → h ≡ get_or xs i h → y.block ≡ h.block
    → held_in told (set xs i y) ≡ with_hold b (Some (told y.loan)) (held_in told xs)
replaced told b xs i h y at is same =
    let there = position-Some (is_of b) xs i h at in
    let here : h.block ≡ b = eqb-true h.block b (ap (is_of b) is ∙ there.1) in
    λ j z. set_at told b z xs i h y there.0 (same ∙ here) there.1 there.2 j

-- one that is told alike changes nothing
pub kept : (told : Loan → Hold) (xs : List Held) (i : ℕ) (d y : Held) → y.block ≡ (get_or xs i d).block → told y.loan ≡ told (get_or xs i d).loan → held_in told (set xs i y) ≡ held_in told xs
kept told [] i d y same alike = refl
kept told (x ∷ xs) zero d y same alike = λ j z. if same j == z then Some (alike j) else held_in told xs z
kept told (x ∷ xs) (suc i) d y same alike = λ j z. if x.block == z then Some (told x.loan) else kept told xs i d y same alike j z

load_step : (here : Bool) (h : Hold) (rest : Option Hold) (w : ℕ) → is_isolated h.mode ≡ true → (load_of rest w ≡ Entered → ⊥) → load_of (if here then Some h else rest) w ≡ Entered → ⊥
load_step true h rest w is next entered = never_loaded true h w is entered
load_step false h rest w is next entered = next entered

store_step : (here : Bool) (h : Hold) (rest : Option Hold) (w : ℕ) → is_isolated h.mode ≡ true → (store_of rest w ≡ Entered → ⊥) → store_of (if here then Some h else rest) w ≡ Entered → ⊥
store_step true h rest w is next entered = never_stored true h w is entered
store_step false h rest w is next entered = next entered

-- nothing that is on loan makes an entry
pub no_load : (xs : List Held) (b w : ℕ) → AreIsolated xs → load_of (held_in lent_hold xs b) w ≡ Entered → ⊥
no_load [] b w are entered = cc entered
no_load (x ∷ xs) b w are entered =
    load_step (x.block == b) (lent_hold x.loan) (held_in lent_hold xs b) w (All-head (λ (h : Held). is_isolated h.loan.mode ≡ true) x xs are)
    (no_load xs b w (All-tail (λ (h : Held). is_isolated h.loan.mode ≡ true) x xs are)) entered

pub no_store : (xs : List Held) (b w : ℕ) → AreIsolated xs → store_of (held_in lent_hold xs b) w ≡ Entered → ⊥
no_store [] b w are entered = cc entered
no_store (x ∷ xs) b w are entered =
    store_step (x.block == b) (lent_hold x.loan) (held_in lent_hold xs b) w (All-head (λ (h : Held). is_isolated h.loan.mode ≡ true) x xs are)
    (no_store xs b w (All-tail (λ (h : Held). is_isolated h.loan.mode ≡ true) x xs are)) entered

-- a block that is not held
pub not_held_load : (b w : ℕ) (xs : List Held) (rose : Type 0) → position (is_of b) xs ≡ None → IsAccessStop (load_of (held_in lent_hold xs b) w) rose stop.NotHeld
not_held_load b w xs rose none = subst (λ (h : Option Hold). IsAccessStop (load_of h w) rose stop.NotHeld) (sym (absent lent_hold b xs none)) refl

pub not_held_store : (b w : ℕ) (xs : List Held) (rose : Type 0) → position (is_of b) xs ≡ None → IsAccessStop (store_of (held_in lent_hold xs b) w) rose stop.NotHeld
not_held_store b w xs rose none = subst (λ (h : Option Hold). IsAccessStop (store_of h w) rose stop.NotHeld) (sym (absent lent_hold b xs none)) refl

-- what a load of a loan answers is what the load of its block answers
pub load_done : (found : Access) (other : Access) (made : Call) (log later : List Asked) (r : Result ℕ BodyStop) → other ≡ found → later ≡ log
    → IfOk r (λ v. (call : Call) (log : List Asked) → IsAccessed found call v log log) → IfOk r (λ v. IsAccessed other made v log later)
load_done found other made log later (Ok v) is same done =
    subst (λ (a : Access). IsAccessed a made v log later) (sym is) (subst (λ (l : List Asked). IsAccessed found made v log l) (sym same) (done made log))
load_done found other made log later (Err e) is same done = done

pub access_refused : {T : Type 0} (found other : Access) (before now : ℕ) (r : Result T BodyStop) → other ≡ found
    → IfErr r (λ e. (before now : ℕ) → IsAccessStop found (Rose before now) e) → IfErr r (IsAccessStop other (Rose before now))
access_refused found other before now (Ok v) is stopped = stopped
access_refused found other before now (Err e) is stopped = subst (λ (a : Access). IsAccessStop a (Rose before now) e) (sym is) (stopped before now)

pub store_done : {T : Type 0} (found other : Access) (made : Call) (r : Result T BodyStop) → other ≡ found → OnOk r (found ≡ Silent 0) → OnOk r (IsAccessed other made 0 [] [])
store_done found other made (Ok v) is done = subst (λ (a : Access). IsAccessed a made 0 [] []) (sym (is ∙ done)) (refl, refl)
store_done found other made (Err e) is done = done

pub store_held : {T : Type 0} (b w v : ℕ) (now before : Hold) (holds later : Holds) (r : Result T BodyStop) → holds b ≡ Some before → later ≡ with_hold b (Some now) holds
    → OnOk r (store_of (Some before) w ≡ Silent 0) → OnOk r (Some now ≡ with_write w v (Some before)) → OnOk r (later ≡ after_store (store_of (holds b) w) b w v holds)
store_held b w v now before holds later (Ok x) here is done held =
    is
    ∙ ap (λ (h : Option Hold). with_hold b h holds) (held ∙ ap (with_write w v) (sym here))
    ∙ ap (λ (a : Access). after_store a b w v holds) (sym (ap (λ (h : Option Hold). store_of h w) here ∙ done))
store_held b w v now before holds later (Err e) here is done held = done

-- another loan in the same mode is isolated as well
pub still_isolated : (xs : List Held) (b i : ℕ) (h y : Held) → AreIsolated xs → position (is_of b) xs ≡ Some i → h ≡ get_or xs i h → y.loan.mode ≡ h.loan.mode → AreIsolated (set xs i y)
still_isolated xs b i h y are at is same =
    let Q : Held → Type 0 = λ of. is_isolated of.loan.mode ≡ true in
    let there = position-Some (is_of b) xs i h at in
    let before : is_isolated h.loan.mode ≡ true = subst Q (sym is) (All-get_or Q xs i h there.0 are) in
    All-set Q xs i y (ap is_isolated same ∙ before) are

-- and began as before
pub begun_alike : (l m : Loan) → l.mode ≡ m.mode → l.began ≡ m.began → begun_hold l ≡ begun_hold m
begun_alike l m mode began = λ j. record { mode = mode j; size = length (began j); began = began j; writes = [] }
