-- Which loads and stores are entries, and that the body makes them next.
use Rattle.std.proofs.Common.{◌≡◌, ◌<◌, ◌==◌, ℕ, [], length, Bool, true, false, nat_lt, if◌then◌else◌, Some, None, refl, sym, subst}
use Rattle.std.proofs.lemmas.Bool.{lt-ltb}
use Rattle.ocr_acquire.specs.declared.Mode.TheVariants.{Ew}
use Rattle.ocr_datablock.specs.Lent.{Loan}
use Rattle.ocr_body_meaning.specs.Behaviour.{Ends}
use Rattle.ocr_body_meaning.specs.Body.{says}
use Rattle.ocr_body_meaning.specs.Holds.{Hold, Holds, Access, Refused, Silent, Entered, load_of, store_of, after_store}
use Rattle.ocr_acquire.specs.Mode.{is_isolated, is_writable}
use Rattle.ocr_body_meaning.specs.Meaning.{State, with_holds}
use Rattle.ocr_body_meaning.specs.declared.call.BodyStop.TheVariants as stop
use Rattle.ocr_body_meaning.specs.declared.call.Call.TheVariants as call
use Rattle.ocr_body_meaning.specs.declared.call.BodyStop.{BodyStop}
use Rattle.ocr_body_steps.specs.Api.{IsNextWhereEntered, IsAccessStop, IsRefusal, refused_closed, refused_memory}
use Rattle.ocr_body_steps.proofs.Accesses.{accessed_next}
use Rattle.ocr_tests_body.specs.Served.{asked_of, body_of, held, hold_of, start_of, lent_hold, shared_hold, IsFitting}
use Rattle.ocr_tests_body.specs.declared.hold.Access.TheVariants as access
use Rattle.ocr_tests_body.specs.declared.hold.Hold as kept
use Rattle.ocr_tests_body.specs.declared.hold.Hold.TheVariants as hold
use Rattle.ocr_tests_body.specs.declared.hold.OneHold.{OneHold}

silent_load : (within isolated : Bool) (v : ℕ) → isolated ≡ true → (if within then (if isolated then Silent v else Entered) else Refused stop.BadIndex) ≡ Entered → ⊥
silent_load true true v is entered = cc entered
silent_load true false v is entered = cc is
silent_load false isolated v is entered = cc entered

silent_store : (writable within isolated : Bool) → isolated ≡ true
    → (if writable then (if within then (if isolated then Silent 0 else Entered) else Refused stop.BadIndex) else Refused stop.NotWritable) ≡ Entered → ⊥
silent_store true within isolated is entered = silent_load within isolated 0 is entered
silent_store false within isolated is entered = cc entered

-- what is on loan makes no entry
pub never_loaded : (here : Bool) (h : Hold) (w : ℕ) → is_isolated h.mode ≡ true → load_of (if here then Some h else None) w ≡ Entered → ⊥
never_loaded true h w is entered = silent_load (nat_lt w h.size) (is_isolated h.mode) _ is entered
never_loaded false h w is entered = cc entered

pub never_stored : (here : Bool) (h : Hold) (w : ℕ) → is_isolated h.mode ≡ true → store_of (if here then Some h else None) w ≡ Entered → ⊥
never_stored true h w is entered = silent_store (is_writable h.mode) (nat_lt w h.size) (is_isolated h.mode) is entered
never_stored false h w is entered = cc entered

load_next : (b : ℕ) (h : kept.Hold) (d w : ℕ) → IsFitting h → IsNextWhereEntered (load_of (held b (hold_of h) d) w) (call.Load d w) (says (body_of (access.Load d w) (held b (start_of h))) [])
load_next b (hold.Lent l) d w fits = λ entered. absurd (never_loaded (b == d) (lent_hold l) w fits entered)
load_next b (hold.Shared m words) d w fits =
    let before : Holds = held b (shared_hold m words.items) in
    let st : State = record { fuel = 1; code = 0; variables = λ x. 0; holds = before } in
    accessed_next (says (body_of (access.Load d w) before) []) (load_of (before d) w) (call.Load d w) st (λ v st. Ends v st.holds) refl

store_next : (b : ℕ) (h : kept.Hold) (d w v : ℕ) → IsFitting h → IsNextWhereEntered (store_of (held b (hold_of h) d) w) (call.Store d w v) (says (body_of (access.Store d w v) (held b (start_of h))) [])
store_next b (hold.Lent l) d w v fits = λ entered. absurd (never_stored (b == d) (lent_hold l) w fits entered)
store_next b (hold.Shared m words) d w v fits =
    let before : Holds = held b (shared_hold m words.items) in
    let st : State = record { fuel = 0; code = 0; variables = λ x. 0; holds = before } in
    accessed_next (says (body_of (access.Store d w v) before) []) (store_of (before d) w) (call.Store d w v) (with_holds (after_store (store_of (before d) w) d w v before) st) (λ _ st. Ends 0 st.holds) refl

-- the body makes its load next, where it is an entry
pub next_load : (q : OneHold) (d w : ℕ) → q.access ≡ access.Load d w → q.entries.items ≡ [] → IsFitting q.hold
    → IsNextWhereEntered (load_of (held q.block (hold_of q.hold) d) w) (call.Load d w) (says (body_of q.access (held q.block (start_of q.hold))) (asked_of q.entries.items))
next_load q d w is none fits =
    subst (λ a. IsNextWhereEntered (load_of (held q.block (hold_of q.hold) d) w) (call.Load d w) (says (body_of a (held q.block (start_of q.hold))) (asked_of q.entries.items))) (sym is)
    (subst (λ l. IsNextWhereEntered (load_of (held q.block (hold_of q.hold) d) w) (call.Load d w) (says (body_of (access.Load d w) (held q.block (start_of q.hold))) (asked_of l))) (sym none)
    (load_next q.block q.hold d w fits))

pub next_store : (q : OneHold) (d w v : ℕ) → q.access ≡ access.Store d w v → q.entries.items ≡ [] → IsFitting q.hold
    → IsNextWhereEntered (store_of (held q.block (hold_of q.hold) d) w) (call.Store d w v) (says (body_of q.access (held q.block (start_of q.hold))) (asked_of q.entries.items))
next_store q d w v is none fits =
    subst (λ a. IsNextWhereEntered (store_of (held q.block (hold_of q.hold) d) w) (call.Store d w v) (says (body_of a (held q.block (start_of q.hold))) (asked_of q.entries.items))) (sym is)
    (subst (λ l. IsNextWhereEntered (store_of (held q.block (hold_of q.hold) d) w) (call.Store d w v) (says (body_of (access.Store d w v) (held q.block (start_of q.hold))) (asked_of l))) (sym none)
    (store_next q.block q.hold d w v fits))

-- want of memory refuses what is no fault
pub entered_refused : (found : Access) (rose : Type 0) (e : BodyStop) → found ≡ Entered → e ≡ stop.NoMemory → IsAccessStop found rose e
entered_refused found rose e is none =
    subst (λ (a : Access). IsAccessStop a rose e) (sym is) (subst (λ (s : BodyStop). IsRefusal rose s) (sym none) refused_memory)

pub silent_refused : (found : Access) (rose : Type 0) → found ≡ Silent 0 → IsAccessStop found rose stop.NoMemory
silent_refused found rose is = subst (λ (a : Access). IsAccessStop a rose stop.NoMemory) (sym is) refused_memory

pub closed_refused : (rose : Type 0) → rose → IsRefusal rose stop.Closed
closed_refused rose is = refused_closed is

-- a store in a loan in EW
pub silent_at : (l : Loan) (w : ℕ) → l.mode ≡ Ew → w < length l.began → store_of (Some (lent_hold l)) w ≡ Silent 0
silent_at l w is below =
    let within : nat_lt w (length l.began) ≡ true = lt-ltb w (length l.began) below in
    rw (is, within) refl
