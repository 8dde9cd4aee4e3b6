-- What is kept of the entries, with one entry more.
use Rattle.std.proofs.Common.{◌≡◌, ◌≤◌, ◌<◌, ℕ, zero, suc, ◌==◌, ◌||◌, ◌&&◌, not, List, [], ◌∷◌, ◌++◌, length, reverse, Bool, true, false, if◌then◌else◌, Option, Some, None, is_some, refl, sym, ap, ◌∙◌, subst, arith}
use Rattle.std.specs.List.{list_any, All, zip}
use Rattle.std.specs.Prelude.{slice_get}
use Rattle.std.proofs.lemmas.List.{append-nil, reverse-append}
use Rattle.std.proofs.lemmas.List.Folds.{list_any-append}
use Rattle.std.proofs.lemmas.Bool.{eqb-true}
use Rattle.ocr_acquire.specs.declared.Mode.{Mode}
use Rattle.ocr_event_any.specs.AnyEvent.{state_of, state_by, plain_kind, takes_arg}
use Rattle.ocr_event_any.specs.declared.TheConstants.{LATCH, CHANNEL}
use Rattle.ocr_body_meaning.specs.Holds.{is_done}
use Rattle.ocr_body_meaning.specs.declared.call.Call as body
use Rattle.ocr_body_meaning.specs.declared.call.Call.TheVariants as call
use Rattle.ocr_body_meaning.specs.declared.call.Answer.{Answer}
use Rattle.ocr_machine_history.specs.declared.entry.Entry.{Entry}
use Rattle.ocr_machine_history.specs.declared.entry.Entry.TheVariants.{Call, Deliver, Free}
use Rattle.ocr_machine_history.specs.declared.entry.Message.{Message}
use Rattle.ocr_machine_history.specs.declared.entry.What.{What}
use Rattle.ocr_machine_history.specs.declared.entry.What.TheVariants as what
use Rattle.ocr_machine_history.specs.History.{History, Setting}
use Rattle.ocr_machine_history.specs.Made.{Made, MadeBlock, MadeTemplate, MadeEdt, MadeEvent, MadeScope, made, names_new}
use Rattle.ocr_machine_parts.specs.Progress.{edt_in}
use Rattle.ocr_machine_parts.specs.Calls.{link_calls, block_calls, event_calls, scope_calls}
use Rattle.ocr_machine_parts.specs.Parts.{face, parts_of}
use Rattle.ocr_machine_parts.specs.Taken.{as_face}
use Rattle.ocr_machine_parts.specs.declared.part.Part.{Part}
use Rattle.ocr_machine_parts.specs.declared.part.Part.TheVariants as part
use Rattle.ocr_memory_model_rows.specs.Order.{IsNextRow}
use Rattle.ocr_memory_model_rows.proofs.Joins.{next_same}
use Rattle.ocr_memory_model_order.proofs.Forward.{each_reverse}
use Rattle.ocr_memory_model_order.proofs.Fronts.{Each, each_from, places_below, oldest_each, matched_each}
use Rattle.ocr_memory_model_order.proofs.Graphs.{graph_length}
use Rattle.ocr_memory_model_rows.specs.Bundles.{IsNoted}
use Rattle.ocr_memory_model_rows.specs.Places.{Graph, reaches, reaches_any}
use Rattle.ocr_memory_model_order.specs.Places.{places}
use Rattle.ocr_memory_model_order.specs.Makers.{oldest, matched, matches_of, set_off_with, set_off_by, source_at, makers, satisfies, leaves, is_satisfied_by, is_satisfying, is_leaving}
use Rattle.ocr_memory_model_order.specs.Pairs.{held, is_of, is_made_by, is_set_for, is_given_back, ended_mode}
use Rattle.ocr_memory_model_order.specs.Causes.{newest, last_of, starting, ends, isolated_ends, is_isolated_in, graph_of}
use Rattle.ocr_memory_model.specs.Keys.{satisfied_by, satisfied_with, satisfied_in, left_with, left_in, made_by, set_with, starting_in, given_by, given_in, key_if, ended_key, isolated_key, is_key, some_place}
use Rattle.ocr_memory_model.specs.Past.{IsEndedIn}
use Rattle.ocr_memory_model.specs.SetOff.{set_off_on}

-- A FAMILY of lists of places, told by the object of each entry
pub family_noted : (p : ℕ → History → Entry → Bool) (past : History) (e : Entry) (key : Option ℕ) → ((x : ℕ) → p x past e ≡ is_key key x) → IsNoted key (length past) (λ x. places (p x) past) (λ x. places (p x) (e ∷ past))
family_noted p past e None tells x = ap (λ t. if t then length past ∷ places (p x) past else places (p x) past) (tells x)
family_noted p past e (Some y) tells x = ap (λ t. if t then length past ∷ places (p x) past else places (p x) past) (tells x)

-- satisfactions
satisfied_call : (c : body.Call) (x : ℕ) → is_satisfied_by c x ≡ is_key (satisfied_by c) x
satisfied_call (call.Satisfy e p slot) x = refl
satisfied_call other x = refl

satisfied_what : (w : What) (x : ℕ) → is_satisfying w x ≡ is_key (satisfied_with w) x
satisfied_what (what.Satisfy e slot p) x = refl
satisfied_what other x = refl

done_key : (b : Bool) (o : Option ℕ) (x : ℕ) (r : Bool) → r ≡ is_key o x → (b && r) ≡ is_key (if b then o else None) x
done_key true o x r is = is
done_key false o x r is = refl

pub satisfied_tells : (x : ℕ) (past : History) (e : Entry) → satisfies x past e ≡ is_key (satisfied_in e) x
satisfied_tells x past (Call t home c a w) = done_key (is_done a.code) (satisfied_by c) x (is_satisfied_by c x) (satisfied_call c x)
satisfied_tells x past (Deliver m c) = done_key (is_done c) (satisfied_with m.what) x (is_satisfying m.what x) (satisfied_what m.what x)
satisfied_tells x past other = refl

left_what : (w : What) (x : ℕ) → is_leaving w x ≡ is_key (left_with w) x
left_what (what.Leave y) x = refl
left_what other x = refl

pub left_tells : (x : ℕ) (past : History) (e : Entry) → leaves x past e ≡ is_key (left_in e) x
left_tells x past (Deliver m c) = done_key (is_done c) (left_with m.what) x (is_leaving m.what x) (left_what m.what x)
left_tells x past other = refl

-- the ends of holds
given_call : (c : body.Call) (d : ℕ) → is_given_back c d ≡ is_key (given_by c) d
given_call (call.DbRelease b) d = refl
given_call (call.DbDestroy b) d = refl
given_call other d = refl

given_mode : (s : Setting) (d : ℕ) (past : History) (e : Entry) → ended_mode s d past e ≡ (if is_key (given_in e) d then held s past (edt_in e) d else None)
given_mode s d past (Call t home c a w) = ap (λ b. if b then held s past t d else None) (done_key (is_done a.code) (given_by c) d (is_given_back c d) (given_call c d))
given_mode s d past (Free t b w) = refl
given_mode s d past other = refl

none_key : (b : Bool) (d : ℕ) → false ≡ is_key (key_if b None) d
none_key true d = refl
none_key false d = refl

some_key : (b : Bool) (n d : ℕ) → (n == d) ≡ true → b ≡ is_key (if b then Some n else None) d
some_key true n d here = sym here
some_key false n d here = refl

other_key : (b : Bool) (n d : ℕ) → (n == d) ≡ false → is_key (if b then Some n else None) d ≡ false
other_key true n d apart = apart
other_key false n d apart = refl

-- a test on the mode of the hold
mode_key : (s : Setting) (past : History) (t d : ℕ) (o : Option ℕ) (m : Option Mode) (q : Option Mode → Bool) → q None ≡ false → ((b : ℕ) → o ≡ Some b → held s past t b ≡ m) → q (if is_key o d then held s past t d else None) ≡ is_key (key_if (q m) o) d
mode_key s past t d None m q off told = off ∙ none_key (q m) d
mode_key s past t d (Some b) m q off told = elim (b == d) as (λ x. (b == d) ≡ x → q (if x then held s past t d else None) ≡ is_key (if q m then Some b else None) d) [
  | true ↦ λ here. ap q (subst (λ n. held s past t n ≡ m) (eqb-true b d here) (told b refl)) ∙ some_key (q m) b d here
  | false ↦ λ apart. off ∙ sym (other_key (q m) b d apart)
] refl

pub ended_tells : (s : Setting) (d : ℕ) (past : History) (e : Entry) (m : Option Mode) → IsEndedIn s past e m → ends s d past e ≡ is_key (ended_key e m) d
ended_tells s d past e m told = ap (λ (o : Option Mode). is_some o) (given_mode s d past e) ∙ mode_key s past (edt_in e) d (given_in e) m (λ o. is_some o) refl told

pub isolated_tells : (s : Setting) (d : ℕ) (past : History) (e : Entry) (m : Option Mode) → IsEndedIn s past e m → isolated_ends s d past e ≡ is_key (isolated_key e m) d
isolated_tells s d past e m told = ap is_isolated_in (given_mode s d past e) ∙ mode_key s past (edt_in e) d (given_in e) m is_isolated_in refl told

-- what starts an EDT
made_call : (c : body.Call) (a : Answer) (t : ℕ) → is_made_by c a t ≡ is_key (made_by c a) t
made_call (call.EdtCreate from pc ps dc ds fl o) a t = done_key (is_done a.code) (Some a.value) t (a.value == t) refl
made_call other a t = refl

set_what : (w : What) (t : ℕ) → is_set_for w t ≡ is_key (set_with w) t
set_what (what.Set u k p) t = refl
set_what other t = refl

or_none : (x : Bool) → (x || false) ≡ x
or_none true = refl
or_none false = refl

pub starting_tells : (t : ℕ) (past : History) (e : Entry) → starting t past e ≡ is_key (starting_in e) t
starting_tells t past (Call u home c a w) = or_none (is_made_by c a t) ∙ made_call c a t
starting_tells t past (Deliver m c) = set_what m.what t
starting_tells t past other = refl

-- LISTS in the other order
listed_more : (p : ℕ → History → Entry → Bool) (past : History) (e : Entry) (t u place : ℕ) → length past ≡ place → p t past e ≡ (u == t) → (xs : List ℕ) → xs ≡ reverse (places (p t) past) → (if u == t then xs ++ place ∷ [] else xs) ≡ reverse (places (p t) (e ∷ past))
listed_more p past e t u place at tells xs is = elim (u == t) as (λ b. p t past e ≡ b → (if b then xs ++ place ∷ [] else xs) ≡ reverse (places (p t) (e ∷ past))) [
  | true ↦ λ on. ap (λ l. l ++ place ∷ []) is ∙ ap (λ n. reverse (places (p t) past) ++ n ∷ []) (sym at) ∙ sym (reverse-append (length past ∷ []) (places (p t) past)) ∙ ap (λ b. reverse (if b then length past ∷ places (p t) past else places (p t) past)) (sym on)
  | false ↦ λ off. is ∙ ap (λ b. reverse (if b then length past ∷ places (p t) past else places (p t) past)) (sym off)
] tells

pub starting_more : (past : History) (e : Entry) (t u place : ℕ) → length past ≡ place → starting_in e ≡ Some u → (xs : List ℕ) → xs ≡ reverse (places (starting t) past) → (if u == t then xs ++ place ∷ [] else xs) ≡ reverse (places (starting t) (e ∷ past))
starting_more past e t u place at key = listed_more starting past e t u place at (starting_tells t past e ∙ ap (λ o. is_key o t) key)

pub satisfied_more : (past : History) (e : Entry) (x u place : ℕ) → length past ≡ place → satisfied_in e ≡ Some u → (xs : List ℕ) → xs ≡ reverse (places (satisfies x) past) → (if u == x then xs ++ place ∷ [] else xs) ≡ reverse (places (satisfies x) (e ∷ past))
satisfied_more past e x u place at key = listed_more satisfies past e x u place at (satisfied_tells x past e ∙ ap (λ o. is_key o x) key)

pub satisfied_none : (past : History) (e : Entry) (x : ℕ) → satisfied_in e ≡ None → places (satisfies x) (e ∷ past) ≡ places (satisfies x) past
satisfied_none past e x key = ap (λ b. if b then length past ∷ places (satisfies x) past else places (satisfies x) past) (satisfied_tells x past e ∙ ap (λ o. is_key o x) key)

pub starting_none : (past : History) (e : Entry) (t : ℕ) → starting_in e ≡ None → places (starting t) (e ∷ past) ≡ places (starting t) past
starting_none past e t key = ap (λ b. if b then length past ∷ places (starting t) past else places (starting t) past) (starting_tells t past e ∙ ap (λ o. is_key o t) key)

pub last_more : (past : History) (e : Entry) (t u place : ℕ) → length past ≡ place → u ≡ edt_in e → (u == 0) ≡ false → (xs : List ℕ) → xs ≡ last_of past t → (if u == t then place ∷ [] else xs) ≡ last_of (e ∷ past) t
last_more past e t u place at own some xs is =
    let tells : is_of t past e ≡ (u == t) = ap (λ n. names_new n t) (sym own) ∙ ap (λ b. not b && (u == t)) some in
    elim (u == t) as (λ b. is_of t past e ≡ b → (if b then place ∷ [] else xs) ≡ last_of (e ∷ past) t) [
      | true ↦ λ on. ap (λ n. n ∷ []) (sym at) ∙ ap (λ b. newest (if b then length past ∷ places (is_of t) past else places (is_of t) past)) (sym on)
      | false ↦ λ off. is ∙ ap (λ b. newest (if b then length past ∷ places (is_of t) past else places (is_of t) past)) (sym off)
    ] tells

pub last_none : (past : History) (e : Entry) (t : ℕ) → (edt_in e == 0) ≡ true → last_of (e ∷ past) t ≡ last_of past t
last_none past e t none = ap (λ b. newest (if b then length past ∷ places (is_of t) past else places (is_of t) past)) (ap (λ b. not b && (edt_in e == t)) none)

or_turns : (x y : Bool) → (x || (y || false)) ≡ (y || x)
or_turns true true = refl
or_turns true false = refl
or_turns false true = refl
or_turns false false = refl

-- the places in the other order reach the same
pub any_reverse : (p : ℕ → Bool) (xs : List ℕ) → list_any p (reverse xs) ≡ list_any p xs
any_reverse p [] = refl
any_reverse p (x ∷ xs) =
    ap (list_any p) (reverse-append (x ∷ []) xs) ∙ list_any-append p (reverse xs) (x ∷ []) ∙ ap (λ b. b || (p x || false)) (any_reverse p xs) ∙ or_turns (list_any p xs) (p x)

or_flips : (x y : Bool) → (x || y) ≡ (y || x)
or_flips true true = refl
or_flips true false = refl
or_flips false true = refl
or_flips false false = refl

pub next_swapped : (g : Graph) (xs ys row : List ℕ) → IsNextRow g (xs ++ ys) row → IsNextRow g (ys ++ xs) row
next_swapped g xs ys row next = next_same g (xs ++ ys) (ys ++ xs) row (λ a.
    list_any-append (λ c. reaches g a c) xs ys ∙ or_flips (reaches_any g a xs) (reaches_any g a ys) ∙ sym (list_any-append (λ c. reaches g a c) ys xs)) next

pub next_turned : (g : Graph) (xs ys row : List ℕ) → IsNextRow g (reverse xs ++ ys) row → IsNextRow g (ys ++ xs) row
next_turned g xs ys row next = next_swapped g xs ys row (next_same g (reverse xs ++ ys) (xs ++ ys) row (λ a.
    list_any-append (λ c. reaches g a c) (reverse xs) ys ∙ ap (λ b. b || reaches_any g a ys) (any_reverse (λ c. reaches g a c) xs) ∙ sym (list_any-append (λ c. reaches g a c) xs ys)) next)

-- a place that is kept is one of those so far
newest_low : (n : ℕ) (xs : List ℕ) → Each (λ k. k < n) xs → Each (λ k. k < n) (newest xs)
newest_low n [] are = tt
newest_low n (x ∷ xs) are = (are.0, tt)

pub last_low : (past : History) (t place : ℕ) → place ∷ [] ≡ last_of past t → place < length past
last_low past t place is = (subst (Each (λ k. k < length past)) (sym is) (newest_low (length past) (places (is_of t) past) (places_below (is_of t) past))).0

each_all : (P : ℕ → Type 0) (xs : List ℕ) → Each P xs → All P xs
each_all P [] are k d low = absurd (omega (arith, low))
each_all P (x ∷ xs) are zero d low = are.0
each_all P (x ∷ xs) are (suc k) d low = each_all P xs are.1 k d (omega (arith, low))

pub starting_low : (past : History) (t n : ℕ) (xs : List ℕ) → xs ≡ reverse (places (starting t) past) → length past ≤ n → All (λ c. c < n) xs
starting_low past t n xs is le = each_all (λ c. c < n) xs (subst (Each (λ c. c < n)) (sym is)
    (each_reverse (λ c. c < n) (places (starting t) past) (each_from (λ c. c < length past) (λ c. c < n) (λ c h. omega (arith, h, le)) (places (starting t) past) (places_below (starting t) past))))

pub family_in : (s : Setting) (p : ℕ → History → Entry → Bool) (past : History) (e : Entry) (key result : Option ℕ) → result ≡ key → ((x : ℕ) → p x past e ≡ is_key key x) → IsNoted result (length (graph_of s past)) (λ x. places (p x) past) (λ x. places (p x) (e ∷ past))
family_in s p past e key result is tells =
    subst (λ n. IsNoted result n (λ x. places (p x) past) (λ x. places (p x) (e ∷ past))) (sym (graph_length s past))
    (subst (λ o. IsNoted o (length past) (λ x. places (p x) past) (λ x. places (p x) (e ∷ past))) (sym is) (family_noted p past e key tells))

-- THE FIRST satisfaction of an event
front_of : (xs : List ℕ) (x : ℕ) (ys : List ℕ) → slice_get ((xs ++ x ∷ []) ++ ys) 0 ≡ slice_get (xs ++ x ∷ []) 0
front_of [] x ys = refl
front_of (n ∷ xs) x ys = refl

pub first_is : (xs : List ℕ) → some_place (slice_get (reverse xs) 0) ≡ oldest xs
first_is [] = refl
first_is (n ∷ []) = refl
first_is (n ∷ m ∷ rest) =
    ap (λ l. some_place (slice_get l 0)) (reverse-append (n ∷ []) (m ∷ rest) ∙ ap (λ l. l ++ n ∷ []) (reverse-append (m ∷ []) rest))
    ∙ ap some_place (front_of (reverse rest) m (n ∷ []))
    ∙ ap (λ l. some_place (slice_get l 0)) (sym (reverse-append (m ∷ []) rest))
    ∙ first_is (m ∷ rest)

pub first_low : (past : History) (x place : ℕ) → place ∷ [] ≡ oldest (places (satisfies x) past) → place < length past
first_low past x place is = (subst (Each (λ k. k < length past)) (sym is) (oldest_each (λ k. k < length past) (places (satisfies x) past) (places_below (satisfies x) past))).0

-- WHAT WENT TO A LINK is among the places so far
pub matched_low : (past : History) (m : Message) (x n : ℕ) (found xs : List ℕ) (links : List (ℕ × ℕ)) → found ≡ matched m (zip xs links) → xs ≡ reverse (places (satisfies x) past) → length past ≤ n → All (λ c. c < n) found
matched_low past m x n found xs links is list le = each_all (λ c. c < n) found (subst (Each (λ c. c < n)) (sym is) (matched_each (λ c. c < n) m xs links (subst (Each (λ c. c < n)) (sym list)
    (each_reverse (λ c. c < n) (places (satisfies x) past) (each_from (λ c. c < length past) (λ c. c < n) (λ c h. omega (arith, h, le)) (places (satisfies x) past) (places_below (satisfies x) past))))))

-- the face of a source
pub face_told : (past : History) (x : ℕ) (matches : List ℕ) (y : Part) → set_off_on past x matches (as_face y) ≡ set_off_on past x matches y
face_told past x matches (part.Core c) = refl
face_told past x matches other = refl

event_made : (s : Setting) (past : History) (x : ℕ) (matches : List ℕ) (k fl most : ℕ) → set_off_on past x matches (part.Event (state_of k fl most (event_calls s past x))) ≡ set_off_with past x matches (Some (MadeEvent k fl most))
event_made s past x matches k fl most =
    elim (k == LATCH) as (λ l. set_off_on past x matches (part.Event (state_by l (k == CHANNEL) (plain_kind k) (takes_arg fl) most (event_calls s past x))) ≡ (if l then places (satisfies x) past else if k == CHANNEL then matches else oldest (places (satisfies x) past))) [
      | true ↦ refl
      | false ↦ elim (k == CHANNEL) as (λ c. set_off_on past x matches (part.Event (state_by false c (plain_kind k) (takes_arg fl) most (event_calls s past x))) ≡ (if c then matches else oldest (places (satisfies x) past))) [
        | true ↦ refl
        | false ↦ refl
      ]
    ]

made_told : (s : Setting) (past : History) (x : ℕ) (matches : List ℕ) (o : Option Made) → set_off_on past x matches (face o (link_calls past x) (block_calls s past x) (event_calls s past x) (scope_calls past x)) ≡ set_off_with past x matches o
made_told s past x matches (Some (MadeEvent k fl most)) = event_made s past x matches k fl most
made_told s past x matches (Some (MadeBlock n c)) = refl
made_told s past x matches (Some (MadeTemplate f pc dc)) = refl
made_told s past x matches (Some (MadeEdt f ps n)) = refl
made_told s past x matches (Some (MadeScope outer event)) = refl
made_told s past x matches None = refl

-- THE MAKERS of a message
pub made_by_all : (s : Setting) (past : History) (m : Message) (source : ℕ) (found : List ℕ) (y : Part) → source ≡ source_at past m → found ≡ matches_of past m source → y ≡ (parts_of s past).face source → m.place ∷ (set_off_on past source found y ++ []) ≡ makers s past m
made_by_all s past m source found y at matches told =
    ap (λ l. m.place ∷ l) (append-nil (set_off_on past source found y))
    ∙ ap (λ z. m.place ∷ set_off_on past source found z) told
    ∙ ap (λ l. m.place ∷ l) (made_told s past source found (made s past source))
    ∙ ap (λ l. m.place ∷ set_off_with past source l (made s past source)) matches
    ∙ ap (λ x. m.place ∷ set_off_by s past m x) at
