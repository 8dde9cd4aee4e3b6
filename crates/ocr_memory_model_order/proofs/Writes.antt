-- In a run without a race each write to a word before an entered load of it happens before the load.
use Rattle.std.proofs.Common.{◌≡◌, ◌≤◌, ◌<◌, inl, inr, ℕ, ◌==◌, ◌&&◌, not, List, [], ◌∷◌, ◌++◌, length, Bool, true, false, if◌then◌else◌, Option, Some, None, refl, sym, ap, ◌∙◌, subst, arith}
use Rattle.std.proofs.lemmas.Bool.{cases_Bool, cases_order, eqb-true, eq-eqb, ne_eqb}
use Rattle.ocr_base.proofs.Booleans.{same}
use Rattle.ocr_guid.specs.Target.{EventCall}
use Rattle.ocr_acquire.specs.declared.Mode.{Mode}
use Rattle.ocr_acquire.specs.declared.Mode.TheVariants as mode
use Rattle.ocr_slots.specs.Slots as slot
use Rattle.ocr_datablock.specs.Block as block
use Rattle.ocr_finish.specs.Scope.{ScopeCall}
use Rattle.ocr_body_meaning.specs.Holds.{is_done}
use Rattle.ocr_acquire.specs.Mode.{is_isolated}
use Rattle.ocr_body_meaning.specs.declared.call.Call.TheVariants as call
use Rattle.ocr_body_meaning.specs.declared.call.Answer.{Answer}
use Rattle.ocr_machine_history.specs.declared.entry.Entry.{Entry}
use Rattle.ocr_machine_history.specs.declared.entry.Entry.TheVariants.{Call, Free}
use Rattle.ocr_machine_history.specs.History.{History, Setting}
use Rattle.ocr_machine_history.specs.Made.{Made, made, names_new}
use Rattle.ocr_machine_parts.specs.Calls.{block_calls, link_calls, event_calls, scope_calls}
use Rattle.ocr_machine_parts.specs.Kinds.{IsBlock, is_running}
use Rattle.ocr_machine_parts.specs.Legal.{IsRun, IsLegal}
use Rattle.ocr_machine_parts.specs.Parts.{parts_of, face}
use Rattle.ocr_machine_parts.specs.Progress.{edt_in}
use Rattle.ocr_machine_laws.proofs.Found.{kept_with}
use Rattle.ocr_machine_laws.proofs.Held.{zero_law, mode_held}
use Rattle.ocr_machine_laws.proofs.Permanence.{made_law}
use Rattle.ocr_machine_laws.proofs.Own.{started_by}
use Rattle.ocr_memory_model_order.proofs.Tied.{loads_held}
use Rattle.ocr_machine_laws.specs.Memory.{hold_of}
use Rattle.ocr_machine_laws.proofs.Ended.{run_before, some_made}
use Rattle.ocr_memory_model_rows.specs.Places.{reaches, Closure}
use Rattle.ocr_memory_model_rows.specs.Places as order
use Rattle.ocr_memory_model_rows.proofs.Reach.{or_left, or_right}
use Rattle.ocr_memory_model_order.specs.Places.{entry_at, is_at, told_at}
use Rattle.ocr_memory_model_order.specs.Causes.{graph_of}
use Rattle.ocr_machine_rules.specs.Blocks as blocks
use Rattle.ocr_machine_rules.proofs.Edts.{held_is}
use Rattle.ocr_memory_model_order.specs.Pairs.{is_of, is_given_back, ended_mode, IsPair, in_order, ended as ended_pair, HappensBefore}
use Rattle.ocr_memory_model_order.specs.Races.{is_store_in, stores, loads, accesses, AreUnordered}
use Rattle.ocr_memory_model_order.specs.Loads.{IsRaceFree, is_store, names_word, writes_in, is_exclusive_in, is_back, WritesBeforeLaw}
use Rattle.ocr_memory_model_order.proofs.Forward.{started_made}
use Rattle.ocr_memory_model_order.proofs.Graphs.{pair_kept, graph_law}
use Rattle.ocr_memory_model_order.proofs.Gained.{acquires, gained_since, alone, none_after}
use Rattle.ocr_memory_model_order.proofs.Fronts.{at_or, at_from, some_same, new_at, old_at, new_told, old_told, at_below}

pub and_both : (a b : Bool) → (a && b) ≡ true → (a ≡ true) × (b ≡ true)
and_both true b is = (refl, is)
and_both false b is = cc is

-- PLACES in a front of a history
entry_is : (p : History → Entry → Bool) (x : Entry) → ((past : History) → p past x ≡ true) → (J : History) (b : ℕ) → entry_at J b ≡ Some x → is_at p J b ≡ true
entry_is p x f [] b h = cc h
entry_is p x f (e ∷ past) b h = elim (b == length past) as (λ t. (if t then Some e else entry_at past b) ≡ Some x → (if t then p past e else is_at p past b) ≡ true) [
  | true ↦ λ k. subst (λ y. p past y ≡ true) (sym (some_same e x k)) (f past)
  | false ↦ λ k. entry_is p x f past b k
] h

pub record IsSplit (J later : History) (e : Entry) (past : History) (n : ℕ) : Type 0 where
  pub whole : J ≡ later ++ e ∷ past
  pub place : length past ≡ n

pub split_entry : (x : Entry) (J : History) (b : ℕ) → entry_at J b ≡ Some x → (later : History) × (past : History) × IsSplit J later x past b
split_entry x [] b h = cc h
split_entry x (e ∷ past) b h = elim (b == length past) as (λ t. (b == length past) ≡ t → (if t then Some e else entry_at past b) ≡ Some x → (later : History) × (before : History) × IsSplit (e ∷ past) later x before b) [
  | true ↦ λ is k. ([], past, record { whole = ap (λ y. y ∷ past) (some_same e x k); place = sym (eqb-true b (length past) is) })
  | false ↦ λ _ k. let r = split_entry x past b k in (e ∷ r.0, r.1, record { whole = ap (λ l. e ∷ l) r.2.whole; place = r.2.place })
] refl h

split_at : (p : History → Entry → Bool) (J : History) (n : ℕ) → is_at p J n ≡ true → (later : History) × (e : Entry) × (past : History) × IsSplit J later e past n × (p past e ≡ true)
split_at p [] n h = cc h
split_at p (e ∷ past) n h = elim (n == length past) as (λ t. (n == length past) ≡ t → (if t then p past e else is_at p past n) ≡ true → (later : History) × (x : Entry) × (before : History) × IsSplit (e ∷ past) later x before n × (p before x ≡ true)) [
  | true ↦ λ is k. ([], e, past, record { whole = refl; place = sym (eqb-true n (length past) is) }, k)
  | false ↦ λ _ k. let r = split_at p past n k in (e ∷ r.0, r.1, r.2, record { whole = ap (λ l. e ∷ l) r.3.whole; place = r.3.place }, r.4)
] refl h

pub front_length : (later past : History) → length past ≤ length (later ++ past)
front_length [] past = omega arith
front_length (e ∷ later) past = let r = front_length later past in omega (arith, r)

pub front_at : (p : History → Entry → Bool) (later past : History) (n : ℕ) → n < length past → is_at p (later ++ past) n ≡ is_at p past n
front_at p [] past n h = refl
front_at p (e ∷ later) past n h = old_at p (later ++ past) e n (let l = front_length later past in omega (arith, h, l)) ∙ front_at p later past n h

told_split : {A : Type 0} (f : History → Entry → Option A) (later : History) (e : Entry) (past : History) → told_at f (later ++ e ∷ past) (length past) ≡ f past e
told_split f [] e past = new_told f past e
told_split f (x ∷ later) e past = old_told f (later ++ e ∷ past) x (length past) (let l = front_length later (e ∷ past) in omega (arith, l)) ∙ told_split f later e past

front_here : (p : History → Entry → Bool) (later : History) (e : Entry) (past : History) → is_at p (later ++ e ∷ past) (length past) ≡ p past e
front_here p [] e past = new_at p past e
front_here p (x ∷ later) e past = old_at p (later ++ e ∷ past) x (length past) (let l = front_length later (e ∷ past) in omega (arith, l)) ∙ front_here p later e past

closure_kept : (s : Setting) (past : History) (e : Entry) {a b : ℕ} → Closure (IsPair s past) a b → Closure (IsPair s (e ∷ past)) a b
closure_kept s past e (order.one {a} {b} p) = order.one (pair_kept s past e a b p)
closure_kept s past e (order.more {a} {b} {c} h p) = order.more (closure_kept s past e h) (pair_kept s past e b c p)

closure_since : (s : Setting) (later past : History) {a b : ℕ} → Closure (IsPair s past) a b → Closure (IsPair s (later ++ past)) a b
closure_since s [] past h = h
closure_since s (e ∷ later) past h = closure_kept s (later ++ past) e (closure_since s later past h)

-- WHO RUNS has a number
pub runs_some : (s : Setting) (past : History) (t : ℕ) → IsRun s past → is_running ((parts_of s past).core t) ≡ true → (t == 0) ≡ false
runs_some s past t run running = ne_eqb t 0 (λ is. started_made s past t run (started_by s past t run running) (subst (λ n. made s past n ≡ None) (sym is) (zero_law s past run)))

pub is_of_it : (past : History) (e : Entry) (t : ℕ) → edt_in e ≡ t → (t == 0) ≡ false → is_of t past e ≡ true
is_of_it past e t is some = subst (λ n. names_new n t ≡ true) (sym is) (ap (λ x. not x && (t == t)) some ∙ same t)

-- AN ENTERED STORE of another EDT is ordered with the load
stored_it : (d w : ℕ) (past : History) (e : Entry) → is_store d w e ≡ true → (u : ℕ) × (stores d w u past e ≡ true)
stored_it d w past (Call u home c a private) is = (u, ap (λ x. x && (is_done a.code && is_store_in c d w)) (same u) ∙ is)
stored_it d w past other is = cc is

pub load_it : (t d w : ℕ) (a : Answer) → is_done a.code ≡ true → ((t == t) && (is_done a.code && ((d == d) && (w == w)))) ≡ true
load_it t d w a done = ap (λ x. x && (is_done a.code && ((d == d) && (w == w)))) (same t) ∙ ap (λ x. x && ((d == d) && (w == w))) done ∙ ap (λ x. x && (w == w)) (same d) ∙ same w

stored_by : (d w : ℕ) (J : History) (n : ℕ) → is_at (λ past e. is_store d w e) J n ≡ true → (u : ℕ) × (is_at (stores d w u) J n ≡ true)
stored_by d w [] n h = cc h
stored_by d w (e ∷ past) n h = elim (n == length past) as (λ t. (if t then is_store d w e else is_at (λ past e. is_store d w e) past n) ≡ true → (u : ℕ) × ((if t then stores d w u past e else is_at (stores d w u) past n) ≡ true)) [
  | true ↦ λ k. stored_it d w past e k
  | false ↦ λ k. stored_by d w past n k
] h

stores_of : (d w t : ℕ) → (t == 0) ≡ false → (past : History) (e : Entry) → stores d w t past e ≡ true → is_of t past e ≡ true
stores_of d w t some past (Call u home c a private) is = is_of_it past (Call u home c a private) t (eqb-true u t (and_both (u == t) (is_done a.code && is_store_in c d w) is).0) some
stores_of d w t some past other is = cc is

race_of : (s : Setting) (J : History) (d w t u b n : ℕ) → IsRaceFree s J → is_at (loads d w t) J b ≡ true → is_at (stores d w u) J n ≡ true → (u == t) ≡ false → AreUnordered s J n b → AreUnordered s J b n → ⊥
race_of s J d w t u b n free load store apart there back = elim (cases_order t u) [
  | inl is ↦ let on : (u == t) ≡ true = eq-eqb u t (sym is) in cc (on, apart)
  | inr o ↦ elim o [
    | inl less ↦ free d w t u (
      less,
      (
        b,
        n,
        record {
          one = at_from (loads d w t) (accesses d w t) (λ past e k. or_right (stores d w t past e) (loads d w t past e) k) J b load;
          other = at_from (stores d w u) (accesses d w u) (λ past e k. or_left (stores d w u past e) (loads d w u past e) k) J n store;
          store = or_right (is_at (stores d w t) J b) (is_at (stores d w u) J n) store;
          unordered = back;
        },
      ),
    )
    | inr less ↦ free d w u t (
      less,
      (
        n,
        b,
        record {
          one = at_from (stores d w u) (accesses d w u) (λ past e k. or_left (stores d w u past e) (loads d w u past e) k) J n store;
          other = at_from (loads d w t) (accesses d w t) (λ past e k. or_right (stores d w t past e) (loads d w t past e) k) J b load;
          store = or_left (is_at (stores d w u) J n) (is_at (stores d w t) J b) store;
          unordered = there;
        },
      ),
    )
  ]
]

store_before : (s : Setting) (J : History) (n b t d w : ℕ) → IsRun s J → IsRaceFree s J → n < b → (t == 0) ≡ false → is_at (loads d w t) J b ≡ true → is_at (is_of t) J b ≡ true → is_at (λ past e. is_store d w e) J n ≡ true → HappensBefore s J n b
store_before s J n b t d w run free less some load own is =
    let by = stored_by d w J n is in
    elim (cases_Bool (by.0 == t)) [
      | inl here ↦ order.one (in_order t less (at_from (stores d w t) (is_of t) (stores_of d w t some) J n (subst (λ u. is_at (stores d w u) J n ≡ true) (eqb-true by.0 t here) by.1)) own)
      | inr apart ↦ elim (cases_Bool (reaches (graph_of s J) n b)) [
        | inl on ↦ (graph_law s J n b run).1 (less, on)
        | inr off ↦ absurd (
            let no : HappensBefore s J n b → ⊥ = λ h. let on : reaches (graph_of s J) n b ≡ true = ((graph_law s J n b run).0 h).1 in cc (on, off) in
            let never : HappensBefore s J b n → ⊥ = λ h. let up : b < n = ((graph_law s J b n run).0 h).0 in omega (arith, up, less) in
            race_of s J d w t by.0 b n free load by.1 apart (record { not_before = no; not_after = never }) (record { not_before = never; not_after = no }))
      ]
    ]

-- THE END OF A HOLD IN EW comes before each later hold of the block
pub block_made : (md : Option Made) (links : List slot.SlotCall) (blocks : List block.BlockCall) (events : List EventCall) (scopes : List ScopeCall) (P : block.State → Type 0) → IsBlock (face md links blocks events scopes) P → md ≡ None → ⊥
block_made None links blocks events scopes P is none = is
block_made (Some m) links blocks events scopes P is none = cc none

pub held_made : (s : Setting) (past : History) (u d : ℕ) (k : Mode) → IsRun s past → hold_of s past u d ≡ Some k → made s past d ≡ None → ⊥
held_made s past u d k run held = block_made (made s past d) (link_calls past d) (block_calls s past d) (event_calls s past d) (scope_calls past d) _ (kept_with s past u d k run held).2

pub exclusive_is : (o : Option Mode) → is_exclusive_in o ≡ true → o ≡ Some mode.Ew
exclusive_is (Some mode.Ew) is = refl
exclusive_is (Some other) is = cc is
exclusive_is None is = cc is

-- who ended it
pub record IsEndedBy (s : Setting) (past : History) (e : Entry) (d u : ℕ) (m : Mode) : Type 0 where
  pub own : edt_in e ≡ u
  pub running : is_running ((parts_of s past).core u) ≡ true
  pub held : hold_of s past u d ≡ Some m
  pub no_acquire : (v : ℕ) → acquires v d e ≡ false

if_some : (b : Bool) (o : Option Mode) (m : Mode) → (if b then o else None) ≡ Some m → o ≡ Some m
if_some true o m is = is
if_some false o m is = cc is

pub ended_by : (s : Setting) (past : History) (e : Entry) (d : ℕ) (m : Mode) → IsRun s past → IsLegal s past e → ended_mode s d past e ≡ Some m → (u : ℕ) × IsEndedBy s past e d u m
ended_by s past (Call t home c a w) d m run legal is = (t, record { own = refl; running = legal.on_parts.running; held = sym (held_is s past t d run) ∙ if_some (is_done a.code && is_given_back c d) (blocks.held s past t d) m is; no_acquire = λ v. refl })
ended_by s past (Free t b w) d m run legal is = (t, record { own = refl; running = legal.on_parts.running; held = sym (held_is s past t d run) ∙ if_some (b == d) (blocks.held s past t d) m is; no_acquire = λ v. refl })
ended_by s past other d m run legal is = cc is

back_before : (s : Setting) (later : History) (e : Entry) (past : History) (x : Entry) (t d : ℕ) (j : Mode) → IsRun s (later ++ e ∷ past) → (t == 0) ≡ false → edt_in x ≡ t → hold_of s (later ++ e ∷ past) t d ≡ Some j → ended_mode s d past e ≡ Some mode.Ew
    → HappensBefore s (x ∷ (later ++ e ∷ past)) (length past) (length (later ++ e ∷ past))
back_before s later e past x t d j run some own held is =
    let H : History = later ++ e ∷ past in
    let before : IsRun s (e ∷ past) = run_before s later (e ∷ past) run in
    let by = ended_by s past e d mode.Ew before.0 before.1 is in
    let low : length past < length H = (let l = front_length later (e ∷ past) in omega (arith, l)) in
    let last : is_at (is_of t) (x ∷ H) (length H) ≡ true = new_at (is_of t) H x ∙ is_of_it H x t own some in
    elim (cases_Bool (t == by.0)) [
      | inl here ↦ order.one (in_order t low
          (old_at (is_of t) H x (length past) low ∙ front_here (is_of t) later e past ∙ is_of_it past e t (by.1.own ∙ sym (eqb-true t by.0 here)) some) last)
      | inr apart ↦
          let there : made s past d ≡ None → ⊥ = held_made s past by.0 d mode.Ew before.0 by.1.held in
          let none : hold_of s past t d ≡ None = alone s past by.0 d t before.0 by.1.held apart in
          let off : hold_of s (e ∷ past) t d ≡ None = none_after s past e t d before.0 before.1 there (by.1.no_acquire t) none in
          let block = some_made (made s past d) there in
          let g = gained_since s later (e ∷ past) t d block.0 j run (made_law s past e d block.0 before.1 block.1) some off held in
          let up : length past < g.0 = (let l = g.2.since in omega (arith, l)) in
          let top : g.0 < length H = at_below (is_of t) H g.0 g.2.own in
          order.more
          (order.one (pair_kept s H x (length past) g.0 (ended_pair d mode.Ew g.1 up (told_split (ended_mode s d) later e past ∙ is) g.2.acquired (or_left (is_isolated mode.Ew) (is_isolated g.1) refl))))
          (in_order t top (old_at (is_of t) H x g.0 top ∙ g.2.own) last)
    ]

-- THE LAW
pub load_at : (s : Setting) (L : History) (x : Entry) (H : History) → IsRun s (L ++ x ∷ H) → IsRun s H × IsLegal s H x
load_at s L x H run = let r = run_before s L (x ∷ H) run in (r.0, r.1)

back_law : (s : Setting) (L H : History) (n t home d w : ℕ) (a : Answer) (private : List (ℕ × ℕ)) → IsRun s (L ++ Call t home (call.Load d w) a private ∷ H) → n < length H → is_at (is_back s d w) H n ≡ true
    → HappensBefore s (L ++ Call t home (call.Load d w) a private ∷ H) n (length H)
back_law s L H n t home d w a private run low is =
    let x : Entry = Call t home (call.Load d w) a private in
    let here = load_at s L x H run in
    let hold = loads_held s H t home d w a private here.0 here.1 in
    let held : hold_of s H t d ≡ Some hold.0 = mode_held ((parts_of s H).core t) d hold.0 hold.1 in
    let cut = split_at (is_back s d w) H n is in
    let ended : ended_mode s d cut.2 cut.1 ≡ Some mode.Ew = exclusive_is (ended_mode s d cut.2 cut.1) (and_both (is_exclusive_in (ended_mode s d cut.2 cut.1)) (names_word w (writes_in cut.1)) cut.4).0 in
    let some : (t == 0) ≡ false = runs_some s H t here.0 here.1.on_parts.running in
    let at : HappensBefore s (x ∷ (cut.0 ++ cut.1 ∷ cut.2)) (length cut.2) (length (cut.0 ++ cut.1 ∷ cut.2)) =
    back_before s cut.0 cut.1 cut.2 x t d hold.0 (subst (IsRun s) cut.3.whole here.0) some refl (subst (λ h. hold_of s h t d ≡ Some hold.0) cut.3.whole held) ended in
    closure_since s L (x ∷ H) (subst (λ m. HappensBefore s (x ∷ H) m (length H)) cut.3.place (subst (λ h. HappensBefore s (x ∷ h) (length cut.2) (length h)) (sym cut.3.whole) at))

pub writes_before_law : WritesBeforeLaw
writes_before_law s J n b t home d w a private run free entry done less is =
    let x : Entry = Call t home (call.Load d w) a private in
    let cut = split_entry x J b entry in
    let low : n < length cut.1 = (let p = cut.2.place in omega (arith, p, less)) in
    let run' : IsRun s (cut.0 ++ x ∷ cut.1) = subst (IsRun s) cut.2.whole run in
    let here = load_at s cut.0 x cut.1 run' in
    let some : (t == 0) ≡ false = runs_some s cut.1 t here.0 here.1.on_parts.running in
    elim (at_or (λ past e. is_store d w e) (is_back s d w) J n is) [
      | inl store ↦ store_before s J n b t d w run free less some
          (entry_is (loads d w t) x (λ past. load_it t d w a done) J b entry)
          (entry_is (is_of t) x (λ past. is_of_it past x t refl some) J b entry) store
      | inr back ↦
          let back' : is_at (is_back s d w) cut.1 n ≡ true = sym (front_at (is_back s d w) cut.0 (x ∷ cut.1) n (omega (arith, low)) ∙ old_at (is_back s d w) cut.1 x n low) ∙ subst (λ h. is_at (is_back s d w) h n ≡ true) cut.2.whole back in
          subst (λ h. HappensBefore s h n b) (sym cut.2.whole) (subst (λ m. HappensBefore s (cut.0 ++ x ∷ cut.1) n m) cut.2.place (back_law s cut.0 cut.1 n t home d w a private run' low back'))
    ]
