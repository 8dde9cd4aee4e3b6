-- Places of a list of entries.
use Rattle.std.proofs.Common.{◌≡◌, ◌⊎◌, inl, inr, ℕ, ◌+◌, ◌-◌, ◌<◌, ◌≤◌, List, [], ◌∷◌, zero, suc, take, length, slice_index_or, Bool, true, false, ◌==◌, not, arith, refl, sym, ◌∙◌, ap, subst}
use Rattle.std.proofs.lemmas.Grind.{common_steps}
use Rattle.std.specs.Prelude.{Option, Some, None, IfSome, IfNone}
use Rattle.ocr_body_meaning.specs.Behaviour.{Behaviour, Ends, Stops, Asks, IsNextWith, Asked}
use Rattle.ocr_body_meaning.specs.Holds.{Hold, Holds, Access, Refused, Silent, Entered, no_holds, private_in, is_done}
use Rattle.std.specs.List.{Contains}
use Rattle.std.proofs.lemmas.Bool.{true≢false}
use Rattle.ocr_replay_body.specs.declared.judge.Told.{Told}
use Rattle.ocr_replay_body.specs.Tests.{Whether}
use Rattle.ocr_replay_body.specs.Holds.{held_in, counts_of, count_in}
use Rattle.ocr_replay_body.proofs.Held.{counted}
use Rattle.ocr_machine_parts.specs.Legal.{faulted, carried, IsFreeSaid, IsEndSaid}
use Rattle.ocr_machine_history.specs.declared.entry.Fault.{Fault}
use Rattle.ocr_machine_history.specs.declared.entry.Fault.TheVariants as fault
use Rattle.ocr_program_tree.specs.Tree.{FunctionTree, nothing}
use Rattle.ocr_body_meaning.specs.Body.{Body, says}
use Rattle.ocr_program_tree.specs.Functions.{statements_at}
use Rattle.ocr_body_meaning.specs.declared.call.Call as body
use Rattle.ocr_body_meaning.specs.declared.call.Answer.{Answer}
use Rattle.ocr_machine_history.specs.declared.entry.Entry.{Entry}
use Rattle.ocr_machine_history.specs.declared.entry.Entry.TheVariants.{Call, Deliver, Acquire, Wait, StaleAcquire, Start, Free, End, Stop}
use Rattle.ocr_machine_history.specs.declared.entry.Stop.TheVariants as by
use Rattle.ocr_machine_history.specs.History.{History, history_of, own}
use Rattle.ocr_body_steps.specs.Api.{StoppedBy, by_closing, by_memory, by_body, IsAccessStop, refused_memory}
use Rattle.ocr_body_meaning.specs.declared.call.BodyStop.{BodyStop}
use Rattle.ocr_body_meaning.specs.declared.call.BodyStop.TheVariants as stop
use Rattle.ocr_replay_body.specs.declared.judge.Ending.{Ending}
use Rattle.ocr_replay_body.specs.declared.judge.Ending.TheVariants as ending
use Rattle.ocr_replay_body.specs.Judge.{ended_as, runs, HasNoEntries, IsSaidIn, IsWrong, IsStuck, IsUnsaid, IsVerdict, IsToldAs, IsEndedSo, at_place, IsJudging, IsMadeBy, IsFormed, IsOfCall, IsEntryOf, IsAnswerOf}
use Rattle.ocr_machine_parts.specs.Bodies.{body_with}
use Rattle.ocr_base.proofs.Booleans.{same}
use Rattle.ocr_replay_body.proofs.Letters.{at_zero}
use Rattle.ocr_machine_history.proofs.Fronts.{item, item_is, history_next}

pub same_item : (xs : List Entry) (i : ℕ) (p q : Entry) → i < length xs → p ≡ slice_index_or xs i p → q ≡ slice_index_or xs i q → p ≡ q
same_item xs i p q below first second = grind (arith, common_steps)

pub below_or : (m i : ℕ) → m < i + 1 → (m < i) ⊎ (m ≡ i)
below_or m i h = grind arith

pub below_or_equal : (m i : ℕ) → (m < i) ⊎ (i ≤ m)
below_or_equal m i = grind arith

pub item_now : (xs : List Entry) (i : ℕ) (x e : Entry) → x ≡ slice_index_or xs i x → slice_index_or xs i x ≡ e → e ≡ slice_index_or xs i e
item_now xs i x e is now = subst (λ (z : Entry). z ≡ slice_index_or xs i z) (is ∙ now) is

pub idle_more : (t : ℕ) (xs : List Entry) (from i : ℕ) (e : Entry) → HasNoEntries t xs from i → i < length xs → e ≡ slice_index_or xs i e → runs t e ≡ false → HasNoEntries t xs from (i + 1)
idle_more t xs from i e idle below is out = λ m after before x at. elim (below_or m i before) as (λ _. runs t x ≡ false) [
  | inl h ↦ idle m after h x at
  | inr h ↦ ap (runs t) (same_item xs i x e below (rw h at at) is) ∙ out
]

own_out : (t : ℕ) (past : History) (e : Entry) → runs t e ≡ false → own (e ∷ past) t ≡ own past t
own_out t past (Call edt home c a w) out = rw out refl
own_out t past (Deliver m c) out = refl
own_out t past (Acquire a b) out = refl
own_out t past (Wait a b) out = refl
own_out t past (StaleAcquire a b) out = refl
own_out t past (Start a) out = refl
own_out t past (Free a b w) out = refl
own_out t past (End a g) out = refl
own_out t past (Stop a) out = refl

-- places without an entry of the EDT change nothing of its own calls
pub own_idle : (t : ℕ) (xs : List Entry) (from d : ℕ) → from + d ≤ length xs → HasNoEntries t xs from (from + d) → own (history_of (take (from + d) xs)) t ≡ own (history_of (take from xs)) t
own_idle t xs from zero within idle = rw (at_zero from) refl
own_idle t xs from (suc d) within idle =
    let below : from + d < length xs = omega arith in
    let e : Entry = item xs (from + d) below in
    let is : e ≡ slice_index_or xs (from + d) e = item_is xs (from + d) below in
    let next : from + suc d ≡ (from + d) + 1 = omega arith in
    rw (next, history_next xs (from + d) e below is)
    (own_out t (history_of (take (from + d) xs)) e (idle (from + d) (omega arith) (omega arith) e is)
    ∙ own_idle t xs from d (omega arith) (λ m a b. idle m a (omega arith)))

pub own_at : (t : ℕ) (xs : List Entry) (from at : ℕ) → from ≤ at → at ≤ length xs → HasNoEntries t xs from at → own (history_of (take at xs)) t ≡ own (history_of (take from xs)) t
own_at t xs from at after within idle =
    let d : from + (at - from) ≡ at = omega arith in
    subst (λ n. n ≤ length xs → HasNoEntries t xs from n → own (history_of (take n xs)) t ≡ own (history_of (take from xs)) t) d (own_idle t xs from (at - from)) within idle

-- what comes next is one call alone
pub next_same : (b : Behaviour) (c d : body.Call) (w v : List (ℕ × ℕ)) → IsNextWith c w b → IsNextWith d v b → (c ≡ d) × (w ≡ v)
next_same (Ends g holds) c d w v x y = absurd x
next_same (Stops s) c d w v x y = absurd x
next_same (Asks m p k) c d w v x y = (sym x.0 ∙ y.0, sym x.1 ∙ y.1)

pub next_no_end : (b : Behaviour) (c : body.Call) (w : List (ℕ × ℕ)) (g : ℕ) (holds : Holds) → IsNextWith c w b → b ≡ Ends g holds → ⊥
next_no_end (Ends g holds) c w h hs x y = x
next_no_end (Stops s) c w h hs x y = x
next_no_end (Asks m p k) c w h hs x y = cc y

pub next_no_stop : (b : Behaviour) (c : body.Call) (w : List (ℕ × ℕ)) (s : BodyStop) → IsNextWith c w b → b ≡ Stops s → ⊥
next_no_stop (Ends g holds) c w h x y = x
next_no_stop (Stops s) c w h x y = x
next_no_stop (Asks m p k) c w h x y = cc y

-- where the body makes a call next, it makes no other entry
pub only_call : (t : ℕ) (b : Behaviour) (c : body.Call) (w : List (ℕ × ℕ)) → IsNextWith c w b → (e : Entry) → runs t e ≡ true → IsMadeBy b e → IsEntryOf c w e
only_call t b c w next (Call edt home d a v) run said =
    let both = next_same b d c said.0.0 w said.0.1 next in
    record { same = both.0; formed = said.1; carries = said.0.2 ∙ ap (carried (is_done a.code)) both.1 }
only_call t b c w next (Free edt d v) run said = absurd (next_no_end b c w said.0 said.1 next said.2)
only_call t b c w next (End edt g) run said = absurd (next_no_end b c w g said.0 next said.1)
only_call t b c w next (Stop (by.Shutdown edt)) run said = absurd (next_no_stop b c w _ next said)
only_call t b c w next (Stop (by.Abort edt k)) run said = absurd (next_no_stop b c w _ next said)
only_call t b c w next (Stop (by.Fault edt why)) run said = absurd (next_no_stop b c w _ next said)
only_call t b c w next other run said = cc run

-- the first entry of the EDT is at one place
first_place : (t : ℕ) (xs : List Entry) (from at to : ℕ) (e f : Entry) → from ≤ at → from ≤ to → HasNoEntries t xs from at → HasNoEntries t xs from to
    → e ≡ slice_index_or xs at e → f ≡ slice_index_or xs to f → runs t e ≡ true → runs t f ≡ true → at ≡ to
first_place t xs from at to e f a b idle idle' is is' run run' = elim (below_or_equal at to) as (λ _. at ≡ to) [
  | inl h ↦ absurd (true≢false (sym run ∙ idle' at a h e is))
  | inr h ↦ elim (below_or_equal to at) as (λ _. at ≡ to) [
    | inl h ↦ absurd (true≢false (sym run' ∙ idle to b h f is'))
    | inr k ↦ omega arith
  ]
]

pub stuck_none : (b : Body) (t : ℕ) (xs : List Entry) (from : ℕ) → HasNoEntries t xs from (length xs) → IsStuck b t xs from
stuck_none b t xs from idle = λ at after within _ e is run said. true≢false (sym run ∙ idle at after within e is)

pub stuck_at : (b : Body) (t : ℕ) (xs : List Entry) (from at : ℕ) (e : Entry) → from ≤ at → at < length xs → HasNoEntries t xs from at → e ≡ slice_index_or xs at e → runs t e ≡ true
    → (IsMadeBy (at_place b t xs from) e → ⊥) → IsStuck b t xs from
stuck_at b t xs from at e after within idle is run wrong = λ to after' within' idle' f is' run' said.
    let same : at ≡ to = first_place t xs from at to e f after after' idle idle' is is' run run' in
    let equal : f ≡ e = same_item xs to f e within' is' (rw same at is) in
    wrong (subst (λ (x : Entry). IsMadeBy (at_place b t xs from) x) equal said)

-- the body makes this entry
pub call_here : (b : Behaviour) (t home : ℕ) (c d : body.Call) (a : Answer) (w v : List (ℕ × ℕ)) → IsNextWith d v b → IsOfCall d v c a w → IsMadeBy b (Call t home c a w)
call_here b t home c d a w v next fits = ((v, subst (λ (x : body.Call). IsNextWith x v b) (sym fits.same) next, fits.carries), fits.formed)

-- a call of the body that is its next entry
pub call_said : (b : Body) (t : ℕ) (xs : List Entry) (start from at refusals : ℕ) (edt home : ℕ) (c d : body.Call) (a : Answer) (w v : List (ℕ × ℕ))
    → IsJudging b t xs start from refusals → from ≤ at → at < length xs → HasNoEntries t xs from at → Call edt home c a w ≡ slice_index_or xs at (Call edt home c a w) → (edt == t) ≡ true
    → IsNextWith d v (at_place b t xs from) → IsOfCall d v c a w → IsJudging b t xs start (at + 1) refusals
call_said b t xs start from at refusals edt home c d a w v judging after within idle is mine next fits =
    let here : IsMadeBy (at_place b t xs from) (Call edt home c a w) =
    ((v, subst (λ (x : body.Call). IsNextWith x v (at_place b t xs from)) (sym fits.same) next, fits.carries), fits.formed) in
    record {
      after = omega arith;
      within = omega arith;
      said = λ m lower upper e at_m run. elim (below_or m at upper) as (λ _. IsMadeBy (at_place b t xs m) e) [
        | inl h ↦ elim (below_or_equal m from) as (λ _. IsMadeBy (at_place b t xs m) e) [
          | inl early ↦ judging.said m lower early e at_m run
          | inr late ↦ absurd (true≢false (sym run ∙ idle m late h e at_m))
        ]
        | inr h ↦
            let equal : e ≡ Call edt home c a w = same_item xs at e (Call edt home c a w) within (rw h at at_m) is in
            let owned : own (history_of (take m xs)) t ≡ own (history_of (take from xs)) t = rw h (own_at t xs from at after (omega arith) idle) in
            rw (equal, owned) here
      ];
      stuck = λ some. absurd (judging.stuck some at after within idle (Call edt home c a w) is mine here);
    }

pub call_owned : (t : ℕ) (xs : List Entry) (from at : ℕ) (edt home : ℕ) (c d : body.Call) (a : Answer) (w : List (ℕ × ℕ)) → from ≤ at → at < length xs → HasNoEntries t xs from at
    → Call edt home c a w ≡ slice_index_or xs at (Call edt home c a w) → (edt == t) ≡ true → c ≡ d
    → own (history_of (take (at + 1) xs)) t ≡ record { call = d; answer = a } ∷ own (history_of (take from xs)) t
call_owned t xs from at edt home c d a w after within idle is mine same =
    rw (history_next xs at (Call edt home c a w) within is, mine, own_at t xs from at after (omega arith) idle, same) refl

-- an entry that ends a body adds no call
own_end : (t : ℕ) (past : History) (n : Ending) (items : List (ℕ × Hold)) (e : Entry) → IsMadeBy (ended_as n items) e → own (e ∷ past) t ≡ own past t
own_end t past (ending.Ended g) items (Call edt home c a w) said = absurd said.0.1
own_end t past (ending.Stopped s) items (Call edt home c a w) said = absurd said.0.1
own_end t past n items (Deliver m c) said = refl
own_end t past n items (Acquire a b) said = refl
own_end t past n items (Wait a b) said = refl
own_end t past n items (StaleAcquire a b) said = refl
own_end t past n items (Start a) said = refl
own_end t past n items (Free a b w) said = refl
own_end t past n items (End a g) said = refl
own_end t past n items (Stop a) said = refl

quiet_or_said : (t : ℕ) (past : History) (n : Ending) (items : List (ℕ × Hold)) (e : Entry) (run : Bool) → runs t e ≡ run → (runs t e ≡ true → IsMadeBy (ended_as n items) e) → own (e ∷ past) t ≡ own past t
quiet_or_said t past n items e true is said = own_end t past n items e (said is)
quiet_or_said t past n items e false is said = own_out t past e is

-- one more entry after a body that ended
pub ended_next : (b : Body) (t : ℕ) (xs : List Entry) (from i : ℕ) (e : Entry) (n : Ending) (items : List (ℕ × Hold)) → i < length xs → e ≡ slice_index_or xs i e
    → (runs t e ≡ true → IsMadeBy (ended_as n items) e) → IsSaidIn b t xs from i → at_place b t xs i ≡ ended_as n items
    → IsSaidIn b t xs from (i + 1) × (at_place b t xs (i + 1) ≡ ended_as n items)
ended_next b t xs from i e n items below is said before now = (
  λ m lower upper f at_m run. elim (below_or m i upper) as (λ _. IsMadeBy (at_place b t xs m) f) [
    | inl h ↦ before m lower h f at_m run
    | inr h ↦
        let equal : f ≡ e = same_item xs i f e below (subst (λ k. f ≡ slice_index_or xs k f) h at_m) is in
        subst (λ k. IsMadeBy (at_place b t xs k) f) (sym h) (subst (λ (z : Behaviour). IsMadeBy z f) (sym now) (subst (λ (z : Entry). runs t z ≡ true → IsMadeBy (ended_as n items) z) (sym equal) said run))
  ],
  ap (λ (l : List Asked). says b l) (ap (λ (h : History). own h t) (history_next xs i e below is) ∙ quiet_or_said t (history_of (take i xs)) n items e (runs t e) refl said) ∙ now,
)

-- no fault is that the run was found closed
no_fault : (why : Fault) → stop.Closed ≡ faulted why → ⊥
no_fault fault.ZeroDivisor is = cc
no_fault fault.BadIndex is = cc
no_fault fault.NotHeld is = cc
no_fault fault.NotWritable is = cc
no_fault fault.Fuel is = cc

stops_same : {s t : BodyStop} → Stops s ≡ Stops t → s ≡ t
stops_same is = cc

-- a body that found the run closed makes no further entry
no_entry : (t : ℕ) (b : Behaviour) → b ≡ Stops stop.Closed → (e : Entry) → runs t e ≡ true → IsMadeBy b e → ⊥
no_entry t b is (Call edt home c a w) run said = next_no_stop b c said.0.0 stop.Closed said.0.1 is
no_entry t b is (Free edt d w) run said = let no_end : Stops stop.Closed ≡ Ends said.0 said.1 = sym is ∙ said.2 in cc no_end
no_entry t b is (End edt g) run said = let no_end : Stops stop.Closed ≡ Ends g said.0 = sym is ∙ said.1 in cc no_end
no_entry t b is (Stop (by.Shutdown edt)) run said = let other : stop.Closed ≡ stop.Shutdown = stops_same (sym is ∙ said) in cc
no_entry t b is (Stop (by.Abort edt k)) run said = let other : stop.Closed ≡ stop.Abort k = stops_same (sym is ∙ said) in cc
no_entry t b is (Stop (by.Fault edt why)) run said = no_fault why (stops_same (sym is ∙ said))
no_entry t b is e run said = cc run

pub closed_stuck : (b : Body) (t : ℕ) (xs : List Entry) (from : ℕ) (rose : Type 0) → StoppedBy (at_place b t xs from) rose stop.Closed → (rose → IsStuck b t xs from) → IsStuck b t xs from
closed_stuck b t xs from rose (by_closing r) closed = closed r
closed_stuck b t xs from rose (by_body _ is) closed = λ at after within idle e at_e run said. no_entry t (at_place b t xs from) is e run said

-- a body that stopped otherwise says so
pub stopped_says : (b : Behaviour) (rose : Type 0) (s : BodyStop) → StoppedBy b rose s → (s ≡ stop.NoMemory → ⊥) → (s ≡ stop.Closed → ⊥) → b ≡ Stops s
stopped_says b rose s (by_closing r) memory closed = absurd (closed refl)
stopped_says b rose s by_memory memory closed = absurd (memory refl)
stopped_says b rose s (by_body _ is) memory closed = is

pub said_idle : (b : Body) (t : ℕ) (xs : List Entry) (start from to : ℕ) → IsSaidIn b t xs start from → HasNoEntries t xs from to → IsSaidIn b t xs start to
said_idle b t xs start from to said idle = λ m lower upper e is run. elim (below_or_equal m from) as (λ _. IsMadeBy (at_place b t xs m) e) [
  | inl early ↦ said m lower early e is run
  | inr late ↦ absurd (true≢false (sym run ∙ idle m late upper e is))
]

-- the verdict where the body goes on no more
pub wrong_next : (b : Body) (t : ℕ) (xs : List Entry) (start from at : ℕ) → start ≤ from → IsSaidIn b t xs start from → from ≤ at → at < length xs → HasNoEntries t xs from at
    → ((e : Entry) → e ≡ slice_index_or xs at e → runs t e ≡ true) → IsStuck b t xs from → IsWrong b t xs start at
wrong_next b t xs start from at lower said after within idle run stuck = record {
  after = omega arith;
  within = within;
  said = said_idle b t xs start from at said idle;
  unsaid = λ e is. (
    run e is,
    λ now. stuck at after within idle e is (run e is)
        (subst (λ (l : List Asked). IsMadeBy (says b l) e) (own_at t xs from at after (omega arith) idle) now),
  );
}

pub right_all : (b : Body) (t : ℕ) (xs : List Entry) (start from : ℕ) → IsSaidIn b t xs start from → HasNoEntries t xs from (length xs) → IsSaidIn b t xs start (length xs)
right_all b t xs start from said idle = said_idle b t xs start from (length xs) said idle

-- what is said of an Api that kept what it is of
pub moved : {K : Type 0} (P : Body → K → Type 0) (b c : Body) (k l : K) → b ≡ c → k ≡ l → P b k → P c l
moved P b c k l same kept p = subst (λ m. P c m) kept (subst (λ (d : Body). P d k) same p)

pub some_map : {A : Type 0} (P Q : A → Type 0) (o : Option A) → IfSome o P → ((x : A) → P x → Q x) → IfSome o Q
some_map P Q None p f = tt
some_map P Q (Some x) p f = f x p

pub none_map : {A : Type 0} (P Q : Type 0) (o : Option A) → IfNone o P → (P → Q) → IfNone o Q
none_map P Q None p f = f p
none_map P Q (Some x) p f = tt

-- entries that are said in two stretches
pub said_both : (b : Body) (t : ℕ) (xs : List Entry) (start from to : ℕ) → IsSaidIn b t xs start from → IsSaidIn b t xs from to → IsSaidIn b t xs start to
said_both b t xs start from to first second = λ m lower upper e is run. elim (below_or_equal m from) as (λ _. IsMadeBy (at_place b t xs m) e) [
  | inl early ↦ first m lower early e is run
  | inr late ↦ second m late upper e is run
]

-- the verdict on a body that ended
pub ended_verdict : (b : Body) (t : ℕ) (xs : List Entry) (start place : ℕ) (r : Option ℕ) → start ≤ place → IsSaidIn b t xs start place
    → IfSome r (λ at. (place ≤ at) × (at < length xs) × IsSaidIn b t xs place at × IsUnsaid b t xs at) → IfNone r (IsSaidIn b t xs place (length xs))
    → IfSome r (λ at. IsWrong b t xs start at) × IfNone r (IsSaidIn b t xs start (length xs))
ended_verdict b t xs start place None after said some rest = (tt, said_both b t xs start place (length xs) said rest)
ended_verdict b t xs start place (Some at) after said some rest =
    (record { after = omega (arith, some.0); within = some.1; said = said_both b t xs start place at said some.2; unsaid = some.3 }, tt)

-- the verdict on a body that was left at an entry that it does not make
pub stuck_verdict : (b : Body) (t : ℕ) (xs : List Entry) (start place : ℕ) (r : Option ℕ) → start ≤ place → IsSaidIn b t xs start place → IsStuck b t xs place
    → IfSome r (λ at. (place ≤ at) × (at < length xs) × HasNoEntries t xs place at × ((e : Entry) → e ≡ slice_index_or xs at e → runs t e ≡ true)) → IfNone r (HasNoEntries t xs place (length xs))
    → IfSome r (λ at. IsWrong b t xs start at) × IfNone r (IsSaidIn b t xs start (length xs))
stuck_verdict b t xs start place None after said stuck some idle = (tt, right_all b t xs start place said idle)
stuck_verdict b t xs start place (Some at) after said stuck some idle = (wrong_next b t xs start place at after said some.0 some.1 some.2 some.3 stuck, tt)

-- a function that is not there does nothing
pub nothing_at : (fs : List FunctionTree) (n : ℕ) → (n ≡ 0) ⊎ (length fs < n) → statements_at fs n ≡ nothing
nothing_at [] n none = refl
nothing_at (f ∷ rest) zero none = refl
nothing_at (f ∷ rest) (suc zero) none = elim none as (λ _. f.body ≡ nothing) [ inl is ↦ absurd (omega (arith, is)) | inr more ↦ absurd (omega (arith, more)) ]
nothing_at (f ∷ rest) (suc (suc n)) none = nothing_at rest (suc n) (elim none as (λ _. (suc n ≡ 0) ⊎ (length rest < suc n)) [ inl is ↦ absurd (omega (arith, is)) | inr more ↦ inr (omega (arith, more)) ])

pub ends_at_once : (fs : List FunctionTree) (n : ℕ) (params depv : List ℕ) (holds : Holds) (t : ℕ) (xs : List Entry) (start : ℕ) → (n ≡ 0) ⊎ (length fs < n) → own (history_of (take start xs)) t ≡ []
    → at_place (body_with fs n params depv holds) t xs start ≡ Ends 0 holds
ends_at_once fs n params depv holds t xs start none fresh = rw (fresh, nothing_at fs n none) refl

-- an entry that answers a call
pub answer_said : (b : Body) (t : ℕ) (xs : List Entry) (start from at refusals : ℕ) (d : body.Call) (v : List (ℕ × ℕ)) (a : Answer) (e : Entry)
    → IsJudging b t xs start from refusals → from ≤ at → at < length xs → HasNoEntries t xs from at → e ≡ slice_index_or xs at e → runs t e ≡ true
    → IsNextWith d v (at_place b t xs from) → IsAnswerOf d v a e
    → IsJudging b t xs start (at + 1) refusals × (own (history_of (take (at + 1) xs)) t ≡ record { call = d; answer = a } ∷ own (history_of (take from xs)) t) × (0 < refusals → ⊥)
answer_said b t xs start from at refusals d v a (Call edt home c given w) judging after within idle is mine next fits = (
  call_said b t xs start from at refusals edt home c d given w v judging after within idle is mine next fits.1,
  call_owned t xs from at edt home c d given w after within idle is mine fits.1.same
      ∙ ap (λ (x : Answer). record { call = d; answer = x } ∷ own (history_of (take from xs)) t) fits.0,
  λ some. judging.stuck some at after within idle (Call edt home c given w) is mine (call_here (at_place b t xs from) edt home c d given w v next fits.1),
)
answer_said b t xs start from at refusals d v a other judging after within idle is mine next fits = absurd fits

pub answer_formed : (d : body.Call) (v : List (ℕ × ℕ)) (a : Answer) (e : Entry) → IsAnswerOf d v a e → IsFormed d a
answer_formed d v a (Call edt home c given w) fits = subst (λ (x : body.Call). IsFormed x a) fits.1.same (subst (λ (x : Answer). IsFormed c x) fits.0 fits.1.formed)
answer_formed d v a other fits = absurd fits

-- an entry that does not answer it
pub other_stuck : (b : Body) (t : ℕ) (xs : List Entry) (start from at refusals more : ℕ) (d : body.Call) (v : List (ℕ × ℕ)) (e : Entry)
    → IsJudging b t xs start from refusals → from ≤ at → at < length xs → HasNoEntries t xs from at → e ≡ slice_index_or xs at e → runs t e ≡ true
    → IsNextWith d v (at_place b t xs from) → (IsEntryOf d v e → ⊥) → IsJudging b t xs start from more
other_stuck b t xs start from at refusals more d v e judging after within idle is mine next wrong = record {
  after = judging.after;
  within = judging.within;
  said = judging.said;
  stuck = λ _. stuck_at b t xs from at e after within idle is mine (λ said. wrong (only_call t (at_place b t xs from) d v next e mine said));
}

-- no entry more
pub none_stuck : (b : Body) (t : ℕ) (xs : List Entry) (start from next refusals more : ℕ) → IsJudging b t xs start from refusals → length xs ≤ next → HasNoEntries t xs from next → IsJudging b t xs start from more
none_stuck b t xs start from next refusals more judging past idle = record {
  after = judging.after;
  within = judging.within;
  said = judging.said;
  stuck = λ _. stuck_none b t xs from (λ m lower upper. idle m lower (omega (arith, upper, past)));
}

-- a store that is no entry may be refused for want of memory
pub silent_memory : (found : Access) (rose : Type 0) (v : ℕ) → found ≡ Silent v → IsAccessStop found rose stop.NoMemory
silent_memory (Refused s) rose v is = cc is
silent_memory (Silent x) rose v is = refused_memory
silent_memory Entered rose v is = cc is

-- HOW A BODY ENDED
abbrev ends_guid : Behaviour → ℕ
ends_guid (Ends g holds) = g
ends_guid other = 0

abbrev ends_holds : Behaviour → Holds
ends_holds (Ends g holds) = holds
ends_holds other = no_holds

pub free_whether : (b : Bool) (g d : ℕ) (items : List (ℕ × Hold)) (w : List (ℕ × ℕ)) → Whether b (w ≡ private_in (held_in items d)) → Whether b (IsFreeSaid (Ends g (held_in items)) d w)
free_whether b g d items w test = record {
  yes = λ on. (g, held_in items, refl, test.yes on);
  no = λ off said. test.no off (said.3 ∙ ap (λ (h : Holds). private_in (h d)) (sym (ap ends_holds said.2)));
}

pub end_whether : (b : Bool) (g r : ℕ) (items : List (ℕ × Hold)) → Whether b (r ≡ g) → Whether b (IsEndSaid (Ends g (held_in items)) r)
end_whether b g r items test = record {
  yes = λ on. (held_in items, ap (λ n. Ends n (held_in items)) (sym (test.yes on)));
  no = λ off said. test.no off (sym (ap ends_guid said.1));
}

pub end_is : (b : Bool) (n : Ending) (g r edt : ℕ) (e : Entry) (items : List (ℕ × Hold)) → n ≡ ending.Ended g → e ≡ End edt r → Whether b (r ≡ g) → Whether b (IsMadeBy (ended_as n items) e)
end_is b n g r edt e items ended is test =
    subst (λ (x : Entry). Whether b (IsMadeBy (ended_as n items) x)) (sym is) (subst (λ (x : Ending). Whether b (IsMadeBy (ended_as x items) (End edt r))) (sym ended) (end_whether b g r items test))

pub none_waits : {X : Type 0} (x : X) → Whether false (Contains [] x)
none_waits x = record { yes = λ on. cc on; no = λ _ has. omega (arith, has.1) }

pub stop_whether : (b : Bool) (s r : BodyStop) → Whether b (s ≡ r) → Whether b (Stops s ≡ Stops r)
stop_whether b s r test = record { yes = λ on. ap Stops (test.yes on); no = λ off said. test.no off (stops_same said) }

-- a verdict from a later place on
pub verdict_from : (b : Body) (t : ℕ) (xs : List Entry) (start from next at : ℕ) (say : Told) → start ≤ from → from ≤ next → IsSaidIn b t xs start from → HasNoEntries t xs from next → IsVerdict b t xs next at say → IsVerdict b t xs start at say
verdict_from b t xs start from next at say first second said idle verdict = record {
  after = omega (arith, first, second, verdict.after);
  within = verdict.within;
  said = said_both b t xs start next at (said_idle b t xs start from next said idle) verdict.said;
  unsaid = verdict.unsaid;
  told = verdict.told;
}

pub verdict_at_end : (b : Body) (t : ℕ) (xs : List Entry) (next : ℕ) (say : Told) → next ≤ length xs → IsSaidIn b t xs next (length xs) → IsToldAs (at_place b t xs (length xs)) say → IsVerdict b t xs next (length xs) say
verdict_at_end b t xs next say within said told = record {
  after = within;
  within = omega arith;
  said = said;
  unsaid = λ below. absurd (omega (arith, below));
  told = λ _. told;
}

pub verdict_at_place : (b : Body) (t : ℕ) (xs : List Entry) (next at : ℕ) (say : Told) → next ≤ at → at < length xs → IsSaidIn b t xs next at → IsUnsaid b t xs at → IsVerdict b t xs next at say
verdict_at_place b t xs next at say after within said unsaid = record {
  after = after;
  within = omega (arith, within);
  said = said;
  unsaid = λ _. unsaid;
  told = λ end. absurd (omega (arith, within, end));
}

-- the verdict on a body that ended: at an entry that it does not make, or at the journal's end
pub concluded : (b : Body) (t : ℕ) (xs : List Entry) (next : ℕ) (n : Ending) (items : List (ℕ × Hold)) (r : Option ℕ) (at : ℕ) (say : Told) → next ≤ length xs
    → IfSome r (λ k. at ≡ k) → IfNone r (at ≡ length xs)
    → IfSome r (λ k. (next ≤ k) × (k < length xs) × IsSaidIn b t xs next k × IsUnsaid b t xs k)
    → IfNone r (IsSaidIn b t xs next (length xs) × (at_place b t xs (length xs) ≡ ended_as n items))
    → IsToldAs (ended_as n items) say → IsVerdict b t xs next at say
concluded b t xs next n items None at say within some none found rest told =
    subst (λ k. IsVerdict b t xs next k say) (sym none) (verdict_at_end b t xs next say within rest.0 (subst (λ (x : Behaviour). IsToldAs x say) (sym rest.1) told))
concluded b t xs next n items (Some k) at say within some none found rest told =
    subst (λ m. IsVerdict b t xs next m say) (sym some) (verdict_at_place b t xs next k say found.0 found.1 found.2 found.3)

pub ended_told : (n : Ending) (g : ℕ) (items : List (ℕ × Hold)) (counts : List (ℕ × ℕ)) → n ≡ ending.Ended g → counts ≡ counts_of items → IsEndedSo (ended_as n items) counts
ended_told n g items counts is are =
    subst (λ (x : Ending). IsEndedSo (ended_as x items) counts) (sym is) (g, held_in items, refl, λ d. ap (λ (c : List (ℕ × ℕ)). count_in c d) are ∙ counted items d)

pub stopped_zero : (b : Behaviour) (rose : Type 0) (s : BodyStop) → StoppedBy b rose s → (rose → ⊥) → (s ≡ stop.NoMemory → ⊥) → b ≡ Stops s
stopped_zero b rose s (by_closing r) none memory = absurd (none r)
stopped_zero b rose s by_memory none memory = absurd (memory refl)
stopped_zero b rose s (by_body _ is) none memory = is
