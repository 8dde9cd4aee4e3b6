-- What the graph of the causes reaches is what happens before.
use Rattle.std.proofs.Common.{◌≡◌, ◌<◌, inl, inr, ℕ, suc, ◌==◌, ◌||◌, ◌&&◌, not, List, [], ◌∷◌, ◌++◌, length, Bool, true, false, if◌then◌else◌, Option, Some, None, is_some, refl, sym, ap, ◌∙◌, subst, arith}
use Rattle.std.specs.List.{AllByRecursion}
use Rattle.std.proofs.lemmas.List.Folds.{list_any-append}
use Rattle.std.proofs.lemmas.Bool.{or_cases, eqb-true}
use Rattle.ocr_base.proofs.Booleans.{same}
use Rattle.ocr_acquire.specs.declared.Mode.{Mode}
use Rattle.ocr_guid.specs.declared.Code.{Code}
use Rattle.ocr_acquire.specs.Mode.{is_isolated}
use Rattle.ocr_machine_history.specs.declared.entry.Entry.{Entry}
use Rattle.ocr_machine_history.specs.declared.entry.Entry.TheVariants.{Deliver, Acquire, Start}
use Rattle.ocr_machine_history.specs.declared.entry.Message.{Message}
use Rattle.ocr_machine_history.specs.History.{History, Setting}
use Rattle.ocr_machine_history.specs.Made.{names_new}
use Rattle.ocr_machine_history.specs.Numbers.{is_in}
use Rattle.ocr_machine_parts.specs.Legal.{IsRun}
use Rattle.ocr_machine_parts.specs.Progress.{edt_in}
use Rattle.ocr_machine_rules.specs.Blocks.{next_mode}
use Rattle.ocr_machine_laws.proofs.Each.{Each, each_from, each_joined}
use Rattle.ocr_memory_model_rows.specs.Places.{Graph, reaches, reaches_any, HasPairs, IsReached}
use Rattle.ocr_memory_model_rows.proofs.Reach.{or_left, or_right, any_from, reach_new, reach_kept, drawn, closed}
use Rattle.ocr_memory_model_order.specs.Places.{entry_at, before, is_at, told_at, places}
use Rattle.ocr_memory_model_order.specs.Makers.{makers}
use Rattle.ocr_memory_model_order.specs.Pairs.{is_of, creates, starts, sets, ended_mode, acquired_mode, IsPair, in_order, made as made_pair, sent as sent_pair, set as set_pair, ended as ended_pair}
use Rattle.ocr_memory_model_order.specs.Causes.{newest, last_of, is_isolated_in, ends, isolated_ends, ended_for, starting, causes, graph_of, GraphLaw}
use Rattle.ocr_memory_model_order.proofs.Fronts.{at_or, at_from, some_same, new_at, old_at, new_told, old_told, new_entry, old_entry, new_before, old_before, at_below, entry_below, told_below, newest_or, places_at, at_in, reach_self, in_reached}
use Rattle.ocr_memory_model_order.proofs.Forward.{forward_law}

pub graph_length : (s : Setting) (past : History) → length (graph_of s past) ≡ length past
graph_length s [] = refl
graph_length s (e ∷ past) = ap suc (graph_length s past)

-- A PAIR stays one
pub pair_kept : (s : Setting) (past : History) (e : Entry) (a b : ℕ) → IsPair s past a b → IsPair s (e ∷ past) a b
pair_kept s past e a b (in_order t h one other) = in_order t h (old_at (is_of t) past e a (at_below (is_of t) past a one) ∙ one) (old_at (is_of t) past e b (at_below (is_of t) past b other) ∙ other)
pair_kept s past e a b (made_pair t one other) = made_pair t (old_at (creates t) past e a (at_below (creates t) past a one) ∙ one) (old_at (starts t) past e b (at_below (starts t) past b other) ∙ other)
pair_kept s past e a b (sent_pair m c is there) =
    let low : b < length past = entry_below past b (Deliver m c) is in
    sent_pair m c (old_entry past e b low ∙ is) (ap (λ h. is_in a (makers s h m)) (old_before past e b low) ∙ there)
pair_kept s past e a b (set_pair t one other) = set_pair t (old_at (sets t) past e a (at_below (sets t) past a one) ∙ one) (old_at (starts t) past e b (at_below (starts t) past b other) ∙ other)
pair_kept s past e a b (ended_pair d m k h one other which) = ended_pair d m k h (old_told (ended_mode s d) past e a (told_below (ended_mode s d) past a m one) ∙ one) (old_told (acquired_mode s d) past e b (told_below (acquired_mode s d) past b k other) ∙ other) which

-- and was one
pub pair_was : (s : Setting) (past : History) (e : Entry) (a b : ℕ) → a < length past → b < length past → IsPair s (e ∷ past) a b → IsPair s past a b
pair_was s past e a b la lb (in_order t h one other) = in_order t h (sym (old_at (is_of t) past e a la) ∙ one) (sym (old_at (is_of t) past e b lb) ∙ other)
pair_was s past e a b la lb (made_pair t one other) = made_pair t (sym (old_at (creates t) past e a la) ∙ one) (sym (old_at (starts t) past e b lb) ∙ other)
pair_was s past e a b la lb (sent_pair m c is there) = sent_pair m c (sym (old_entry past e b lb) ∙ is) (sym (ap (λ h. is_in a (makers s h m)) (old_before past e b lb)) ∙ there)
pair_was s past e a b la lb (set_pair t one other) = set_pair t (sym (old_at (sets t) past e a la) ∙ one) (sym (old_at (starts t) past e b lb) ∙ other)
pair_was s past e a b la lb (ended_pair d m k h one other which) = ended_pair d m k h (sym (old_told (ended_mode s d) past e a la) ∙ one) (sym (old_told (acquired_mode s d) past e b lb) ∙ other) which

-- EACH CAUSE is a pair with the entry
newest_each : (P : ℕ → Type 0) (xs : List ℕ) → Each P xs → Each P (newest xs)
newest_each P [] are = tt
newest_each P (x ∷ xs) are = (are.0, tt)

last_pairs : (s : Setting) (past : History) (e : Entry) (t : ℕ) → names_new t t ≡ true → edt_in e ≡ t → Each (λ a. IsPair s (e ∷ past) a (length past)) (last_of past t)
last_pairs s past e t some is = newest_each (λ a. IsPair s (e ∷ past) a (length past)) (places (is_of t) past)
    (each_from (λ n. (n < length past) × (is_at (is_of t) past n ≡ true)) (λ a. IsPair s (e ∷ past) a (length past))
    (λ a h. in_order t h.0 (old_at (is_of t) past e a h.0 ∙ h.1) (new_at (is_of t) past e ∙ ap (λ n. names_new n t) is ∙ some))
    (places (is_of t) past) (places_at (is_of t) past))

-- an entry of no EDT has no such places
none_named : (n : ℕ) → names_new n 0 ≡ false
none_named n = elim (n == 0) as (λ x. (not x && x) ≡ false) [ true ↦ refl | false ↦ refl ]

none_at : (past : History) → places (is_of 0) past ≡ []
none_at [] = refl
none_at (e ∷ past) = ap (λ x. if x then length past ∷ places (is_of 0) past else places (is_of 0) past) (none_named (edt_in e)) ∙ none_at past

pub named : (u t : ℕ) → names_new u t ≡ true → u ≡ t
named u t is = elim (u == 0) as (λ x. (not x && (u == t)) ≡ true → u ≡ t) [
  | true ↦ λ h. cc h
  | false ↦ λ h. eqb-true u t h
] is

none_of : (past : History) → last_of past 0 ≡ []
none_of past = ap newest (none_at past)

own_pairs : (s : Setting) (past : History) (e : Entry) → Each (λ a. IsPair s (e ∷ past) a (length past)) (last_of past (edt_in e))
own_pairs s past e = elim (edt_in e == 0) as (λ x. (edt_in e == 0) ≡ x → Each (λ a. IsPair s (e ∷ past) a (length past)) (last_of past (edt_in e))) [
  | true ↦ λ is. subst (λ l. Each (λ a. IsPair s (e ∷ past) a (length past)) l) (sym (ap (last_of past) (eqb-true (edt_in e) 0 is) ∙ none_of past)) tt
  | false ↦ λ is. last_pairs s past e (edt_in e) (ap (λ x. not x && (edt_in e == edt_in e)) is ∙ same (edt_in e)) refl
] refl

start_pairs : (s : Setting) (past : History) (t : ℕ) → Each (λ a. IsPair s (Start t ∷ past) a (length past)) (places (starting t) past)
start_pairs s past t =
    let here : is_at (starts t) (Start t ∷ past) (length past) ≡ true = new_at (starts t) past (Start t) ∙ same t in
    each_from (λ n. (n < length past) × (is_at (starting t) past n ≡ true)) (λ a. IsPair s (Start t ∷ past) a (length past))
    (λ a h. elim (at_or (creates t) (sets t) past a h.1) [
      | inl k ↦ made_pair t (old_at (creates t) past (Start t) a h.0 ∙ k) here
      | inr k ↦ set_pair t (old_at (sets t) past (Start t) a h.0 ∙ k) here
    ]) (places (starting t) past) (places_at (starting t) past)

in_self : (xs : List ℕ) → Each (λ n. is_in n xs ≡ true) xs
in_self [] = tt
in_self (x ∷ xs) = (or_left (x == x) (is_in x xs) (same x), each_from (λ n. is_in n xs ≡ true) (λ n. is_in n (x ∷ xs) ≡ true) (λ n h. or_right (x == n) (is_in n xs) h) xs (in_self xs))

sent_pairs : (s : Setting) (past : History) (m : Message) (c : Code) → Each (λ a. IsPair s (Deliver m c ∷ past) a (length past)) (makers s past m)
sent_pairs s past m c = each_from (λ n. is_in n (makers s past m) ≡ true) (λ a. IsPair s (Deliver m c ∷ past) a (length past))
    (λ a h. sent_pair m c (new_entry past (Deliver m c)) (ap (λ x. is_in a (makers s x m)) (new_before past (Deliver m c)) ∙ h)) (makers s past m) (in_self (makers s past m))

-- an end of a hold has a mode
ended_some : (o : Option Mode) → is_some o ≡ true → (m : Mode) × (o ≡ Some m)
ended_some None is = cc is
ended_some (Some m) is = (m, refl)

ended_isolated : (o : Option Mode) → is_isolated_in o ≡ true → (m : Mode) × (o ≡ Some m) × (is_isolated m ≡ true)
ended_isolated None is = cc is
ended_isolated (Some m) is = (m, refl, is)

told_ends : (s : Setting) (d : ℕ) (past : History) (n : ℕ) → is_at (ends s d) past n ≡ is_some (told_at (ended_mode s d) past n)
told_ends s d [] n = refl
told_ends s d (e ∷ past) n = elim (n == length past) as (λ t. (if t then is_some (ended_mode s d past e) else is_at (ends s d) past n) ≡ is_some (if t then ended_mode s d past e else told_at (ended_mode s d) past n)) [
  | true ↦ refl
  | false ↦ told_ends s d past n
]

told_isolated : (s : Setting) (d : ℕ) (past : History) (n : ℕ) → is_at (isolated_ends s d) past n ≡ is_isolated_in (told_at (ended_mode s d) past n)
told_isolated s d [] n = refl
told_isolated s d (e ∷ past) n = elim (n == length past) as (λ t. (if t then is_isolated_in (ended_mode s d past e) else is_at (isolated_ends s d) past n) ≡ is_isolated_in (if t then ended_mode s d past e else told_at (ended_mode s d) past n)) [
  | true ↦ refl
  | false ↦ told_isolated s d past n
]

ended_pairs : (s : Setting) (past : History) (e : Entry) (d : ℕ) (o : Option Mode) → acquired_mode s d past e ≡ o → Each (λ a. IsPair s (e ∷ past) a (length past)) (ended_for s past d o)
ended_pairs s past e d None is = tt
ended_pairs s past e d (Some k) is =
    let here : told_at (acquired_mode s d) (e ∷ past) (length past) ≡ Some k = new_told (acquired_mode s d) past e ∙ is in
    elim (is_isolated k) as (λ t. is_isolated k ≡ t → Each (λ a. IsPair s (e ∷ past) a (length past)) (if t then places (ends s d) past else places (isolated_ends s d) past)) [
      | true ↦ λ on. each_from (λ n. (n < length past) × (is_at (ends s d) past n ≡ true)) (λ a. IsPair s (e ∷ past) a (length past))
          (λ a h.
          let m = ended_some (told_at (ended_mode s d) past a) (sym (told_ends s d past a) ∙ h.1) in
          ended_pair d m.0 k h.0 (old_told (ended_mode s d) past e a h.0 ∙ m.1) here (or_right (is_isolated m.0) (is_isolated k) on))
          (places (ends s d) past) (places_at (ends s d) past)
      | false ↦ λ _. each_from (λ n. (n < length past) × (is_at (isolated_ends s d) past n ≡ true)) (λ a. IsPair s (e ∷ past) a (length past))
          (λ a h.
          let m = ended_isolated (told_at (ended_mode s d) past a) (sym (told_isolated s d past a) ∙ h.1) in
          ended_pair d m.0 k h.0 (old_told (ended_mode s d) past e a h.0 ∙ m.1) here (or_left (is_isolated m.0) (is_isolated k) m.2))
          (places (isolated_ends s d) past) (places_at (isolated_ends s d) past)
    ] refl

cause_pairs : (s : Setting) (past : History) (e : Entry) → Each (λ a. IsPair s (e ∷ past) a (length past)) (causes s past e)
cause_pairs s past (Deliver m c) = sent_pairs s past m c
cause_pairs s past (Start t) = each_joined (λ a. IsPair s (Start t ∷ past) a (length past)) (last_of past t) (places (starting t) past) (own_pairs s past (Start t)) (start_pairs s past t)
cause_pairs s past (Acquire t d) = each_joined (λ a. IsPair s (Acquire t d ∷ past) a (length past)) (last_of past t) (ended_for s past d (acquired_mode s d past (Acquire t d))) (own_pairs s past (Acquire t d)) (ended_pairs s past (Acquire t d) d (acquired_mode s d past (Acquire t d)) refl)
cause_pairs s past e = own_pairs s past e

by_recursion : (P : ℕ → Type 0) (xs : List ℕ) → Each P xs → AllByRecursion P xs
by_recursion P [] are = tt
by_recursion P (x ∷ xs) are = (are.0, by_recursion P xs are.1)

all_from : (P Q : ℕ → Type 0) (xs : List ℕ) → ((n : ℕ) → P n → Q n) → AllByRecursion P xs → AllByRecursion Q xs
all_from P Q [] f are = tt
all_from P Q (x ∷ xs) f are = (f x are.0, all_from P Q xs f are.1)

pairs_kept : (s : Setting) (past : History) (e : Entry) (g : Graph) → HasPairs (IsPair s past) g → HasPairs (IsPair s (e ∷ past)) g
pairs_kept s past e [] are = tt
pairs_kept s past e (cs ∷ g) are = (all_from (λ c. IsPair s past c (length g)) (λ c. IsPair s (e ∷ past) c (length g)) cs (λ c h. pair_kept s past e c (length g) h) are.0, pairs_kept s past e g are.1)

pub has_pairs : (s : Setting) (J : History) → HasPairs (IsPair s J) (graph_of s J)
has_pairs s [] = tt
has_pairs s (e ∷ past) = (
  subst (λ n. AllByRecursion (λ c. IsPair s (e ∷ past) c n) (causes s past e)) (sym (graph_length s past)) (by_recursion (λ a. IsPair s (e ∷ past) a (length past)) (causes s past e) (cause_pairs s past e)),
  pairs_kept s past e (graph_of s past) (has_pairs s past),
)

-- EACH PAIR is reached. The earlier entries of an EDT are, from the last one
any_kept : (g : Graph) (cs : List ℕ) (a : ℕ) (xs : List ℕ) → reaches_any g a xs ≡ true → reaches_any (cs ∷ g) a xs ≡ true
any_kept g cs a xs h = any_from (λ c. reaches (cs ∷ g) a c) (λ c. reaches g a c) xs (λ c k. reach_kept g cs a c k) h

any_left : (g : Graph) (a : ℕ) (xs ys : List ℕ) → reaches_any g a xs ≡ true → reaches_any g a (xs ++ ys) ≡ true
any_left g a xs ys h = list_any-append (λ c. reaches g a c) xs ys ∙ or_left (reaches_any g a xs) (reaches_any g a ys) h

any_right : (g : Graph) (a : ℕ) (xs ys : List ℕ) → reaches_any g a ys ≡ true → reaches_any g a (xs ++ ys) ≡ true
any_right g a xs ys h = list_any-append (λ c. reaches g a c) xs ys ∙ or_right (reaches_any g a xs) (reaches_any g a ys) h

-- an entry of an EDT has the last one before it among its causes
has_last : (s : Setting) (past : History) (e : Entry) (t a : ℕ) → is_of t past e ≡ true → reaches_any (graph_of s past) a (last_of past t) ≡ true → reaches_any (graph_of s past) a (causes s past e) ≡ true
has_last s past (Deliver m c) t a is h = cc is
has_last s past (Start u) t a is h = any_left (graph_of s past) a (last_of past u) _ (subst (λ n. reaches_any (graph_of s past) a (last_of past n) ≡ true) (sym (named u t is)) h)
has_last s past (Acquire u d) t a is h = any_left (graph_of s past) a (last_of past u) _ (subst (λ n. reaches_any (graph_of s past) a (last_of past n) ≡ true) (sym (named u t is)) h)
has_last s past e t a is h = subst (λ n. reaches_any (graph_of s past) a (last_of past n) ≡ true) (sym (named (edt_in e) t is)) h

reached_new : (s : Setting) (past : History) (e : Entry) (a : ℕ) → reaches_any (graph_of s past) a (causes s past e) ≡ true → reaches (graph_of s (e ∷ past)) a (length past) ≡ true
reached_new s past e a h =
    subst (λ n. reaches (causes s past e ∷ graph_of s past) a n ≡ true) (graph_length s past)
    (reach_new (graph_of s past) (causes s past e) a ∙ or_right (a == length (graph_of s past)) (reaches_any (graph_of s past) a (causes s past e)) h)

last_reached : (s : Setting) (past : History) (t a : ℕ) → is_at (is_of t) past a ≡ true → reaches_any (graph_of s past) a (last_of past t) ≡ true
last_reached s [] t a h = cc h
last_reached s (e ∷ past) t a h = elim (is_of t past e) as (λ x. is_of t past e ≡ x → reaches_any (graph_of s (e ∷ past)) a (newest (if x then length past ∷ places (is_of t) past else places (is_of t) past)) ≡ true) [
  | true ↦ λ is. or_left (reaches (graph_of s (e ∷ past)) a (length past)) false (elim (newest_or a past (at_below (is_of t) (e ∷ past) a h)) [
    | inl new ↦ subst (λ n. reaches (graph_of s (e ∷ past)) n (length past) ≡ true) (sym new) (reach_self (graph_of s (e ∷ past)) (length past) (let l = graph_length s past in omega (arith, l)))
    | inr old ↦ reached_new s past e a (has_last s past e t a is (last_reached s past t a (sym (old_at (is_of t) past e a old) ∙ h)))
  ])
  | false ↦ λ off. elim (newest_or a past (at_below (is_of t) (e ∷ past) a h)) [
    | inl new ↦ absurd (let on : is_of t past e ≡ true = sym (new_at (is_of t) past e) ∙ subst (λ n. is_at (is_of t) (e ∷ past) n ≡ true) new h in cc (on, off))
    | inr old ↦ any_kept (graph_of s past) (causes s past e) a (newest (places (is_of t) past)) (last_reached s past t a (sym (old_at (is_of t) past e a old) ∙ h))
  ]
] refl

-- the others stand in the causes
at_reached : (s : Setting) (past : History) (p : History → Entry → Bool) (a : ℕ) → is_at p past a ≡ true → reaches_any (graph_of s past) a (places p past) ≡ true
at_reached s past p a h = in_reached (graph_of s past) a (places p past) (let low : a < length past = at_below p past a h in let l = graph_length s past in omega (arith, l, low)) (at_in p past a h)

start_has : (s : Setting) (past : History) (e : Entry) (t a : ℕ) → starts t past e ≡ true → is_at (starting t) past a ≡ true → reaches_any (graph_of s past) a (causes s past e) ≡ true
start_has s past (Start u) t a is h = any_right (graph_of s past) a (last_of past u) (places (starting u) past)
    (at_reached s past (starting u) a (subst (λ n. is_at (starting n) past a ≡ true) (sym (eqb-true u t is)) h))
start_has s past e t a is h = cc is

ended_has : (s : Setting) (past : History) (d a : ℕ) (m : Mode) (o : Option Mode) (k : Mode) → o ≡ Some k → told_at (ended_mode s d) past a ≡ Some m → (is_isolated m || is_isolated k) ≡ true → reaches_any (graph_of s past) a (ended_for s past d o) ≡ true
ended_has s past d a m None k is one which = cc is
ended_has s past d a m (Some j) k is one which = elim (is_isolated j) as (λ t. is_isolated j ≡ t → reaches_any (graph_of s past) a (if t then places (ends s d) past else places (isolated_ends s d) past) ≡ true) [
  | true ↦ λ _. at_reached s past (ends s d) a (told_ends s d past a ∙ ap (λ (x : Option Mode). is_some x) one)
  | false ↦ λ off. at_reached s past (isolated_ends s d) a (told_isolated s d past a ∙ ap is_isolated_in one ∙ elim (or_cases (is_isolated m) (is_isolated k) which) [
    | inl x ↦ x
    | inr x ↦ absurd (let same_mode : is_isolated j ≡ is_isolated k = ap is_isolated (some_same j k is) in cc (off, x, same_mode))
  ])
] refl

acquire_has : (s : Setting) (past : History) (e : Entry) (d a : ℕ) (m k : Mode) → acquired_mode s d past e ≡ Some k → told_at (ended_mode s d) past a ≡ Some m → (is_isolated m || is_isolated k) ≡ true → reaches_any (graph_of s past) a (causes s past e) ≡ true
acquire_has s past (Acquire u b) d a m k is one which = elim (b == d) as (λ t. (b == d) ≡ t → (if t then Some (next_mode s past u) else None) ≡ Some k → reaches_any (graph_of s past) a (causes s past (Acquire u b)) ≡ true) [
  | true ↦ λ here held.
      let at : d ≡ b = sym (eqb-true b d here) in
      any_right (graph_of s past) a (last_of past u) (ended_for s past b (acquired_mode s b past (Acquire u b)))
      (ended_has s past b a m (acquired_mode s b past (Acquire u b)) k (subst (λ n. acquired_mode s n past (Acquire u b) ≡ Some k) at is) (subst (λ n. told_at (ended_mode s n) past a ≡ Some m) at one) which)
  | false ↦ λ _ none. cc none
] refl is
acquire_has s past e d a m k is one which = cc is

sent_has : (s : Setting) (past : History) (e : Entry) (m : Message) (c : Code) (a : ℕ) → e ≡ Deliver m c → a < length past → is_in a (makers s past m) ≡ true → reaches_any (graph_of s past) a (causes s past e) ≡ true
sent_has s past e m c a is low there = subst (λ x. reaches_any (graph_of s past) a (causes s past x) ≡ true) (sym is)
    (in_reached (graph_of s past) a (makers s past m) (let l = graph_length s past in omega (arith, l, low)) there)

-- the pair of the newest place
at_end : (p : History → Entry → Bool) (past : History) (e : Entry) (b : ℕ) → b ≡ length past → is_at p (e ∷ past) b ≡ true → p past e ≡ true
at_end p past e b new h = sym (new_at p past e) ∙ subst (λ n. is_at p (e ∷ past) n ≡ true) new h

newest_reached : (s : Setting) (past : History) (e : Entry) (a b : ℕ) → b ≡ length past → a < length past → IsPair s (e ∷ past) a b → reaches_any (graph_of s past) a (causes s past e) ≡ true
newest_reached s past e a b new low (in_order t h one other) = has_last s past e t a (at_end (is_of t) past e b new other) (last_reached s past t a (sym (old_at (is_of t) past e a low) ∙ one))
newest_reached s past e a b new low (made_pair t one other) = start_has s past e t a (at_end (starts t) past e b new other)
    (at_from (creates t) (starting t) (λ h x k. or_left (creates t h x) (sets t h x) k) past a (sym (old_at (creates t) past e a low) ∙ one))
newest_reached s past e a b new low (sent_pair m c is there) =
    let here : Some e ≡ Some (Deliver m c) = sym (new_entry past e) ∙ subst (λ n. entry_at (e ∷ past) n ≡ Some (Deliver m c)) new is in
    let so : is_in a (makers s past m) ≡ true = sym (ap (λ x. is_in a (makers s x m)) (new_before past e)) ∙ subst (λ n. is_in a (makers s (before (e ∷ past) n) m) ≡ true) new there in
    sent_has s past e m c a (some_same e (Deliver m c) here) low so
newest_reached s past e a b new low (set_pair t one other) = start_has s past e t a (at_end (starts t) past e b new other)
    (at_from (sets t) (starting t) (λ h x k. or_right (creates t h x) (sets t h x) k) past a (sym (old_at (sets t) past e a low) ∙ one))
newest_reached s past e a b new low (ended_pair d m k h one other which) = acquire_has s past e d a m k
    (sym (new_told (acquired_mode s d) past e) ∙ subst (λ n. told_at (acquired_mode s d) (e ∷ past) n ≡ Some k) new other)
    (sym (old_told (ended_mode s d) past e a low) ∙ one) which

pair_below : (s : Setting) (J : History) (a b : ℕ) → IsPair s J a b → b < length J
pair_below s J a b (in_order t h one other) = at_below (is_of t) J b other
pair_below s J a b (made_pair t one other) = at_below (starts t) J b other
pair_below s J a b (sent_pair m c is there) = entry_below J b (Deliver m c) is
pair_below s J a b (set_pair t one other) = at_below (starts t) J b other
pair_below s J a b (ended_pair d m k h one other which) = told_below (acquired_mode s d) J b k other

pair_reached : (s : Setting) (J : History) (a b : ℕ) → IsRun s J → IsPair s J a b → reaches (graph_of s J) a b ≡ true
pair_reached s [] a b run pair = absurd (let low : b < 0 = pair_below s [] a b pair in omega (arith, low))
pair_reached s (e ∷ past) a b run pair =
    let up : a < b = forward_law s (e ∷ past) a b run pair in
    elim (newest_or b past (pair_below s (e ∷ past) a b pair)) [
      | inl new ↦ subst (λ n. reaches (graph_of s (e ∷ past)) a n ≡ true) (sym new)
          (reached_new s past e a (newest_reached s past e a b new (omega (arith, up, new)) pair))
      | inr old ↦ reach_kept (graph_of s past) (causes s past e) a b (pair_reached s past a b run.0 (pair_was s past e a b (omega (arith, up, old)) old pair))
    ]

pub is_reached : (s : Setting) (J : History) → IsRun s J → IsReached (IsPair s J) (graph_of s J)
is_reached s J run a b pair = (forward_law s J a b run pair, pair_reached s J a b run pair)

-- THE LAW
pub graph_law : GraphLaw
graph_law s J a b run = (
  λ h. closed (IsPair s J) (graph_of s J) (is_reached s J run) h,
  λ h. elim (drawn (IsPair s J) (graph_of s J) a b (has_pairs s J) h.1) [
    | inl e ↦ absurd (let up : a < b = h.0 in let at : a ≡ b = e in omega (arith, up, at))
    | inr r ↦ r
  ],
)
