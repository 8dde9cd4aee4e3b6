-- The marks of touches, entry by entry, and as a list.
use Rattle.std.proofs.Common.{◌≡◌, inl, inr, ℕ, ◌==◌, ◌&&◌, List, [], ◌∷◌, map, length, Bool, true, false, cond, if◌then◌else◌, Option, Some, None, refl, sym, ap, ◌∙◌, subst, arith}
use Rattle.std.proofs.lemmas.Bool.Decides.{nat_tests}
use Rattle.std.proofs.lemmas.Cmp.{nat_cmp_total, on_total, then_total}
use Rattle.std.proofs.lemmas.Map.Keys.{sorted_head, sorted_tail}
use Rattle.std.proofs.lemmas.Map.Lookups.{CmpEqualImpliesEq}
use Rattle.std.proofs.lemmas.Map.Views.{btree_map_get_iff}
use Rattle.std.specs.BTreeMap.{BTreeMap, IsOrdered, get}
use Rattle.std.specs.Cmp.{IsTotalOrder}
use Rattle.std.specs.List.{AllByRecursion, Contains}
use Rattle.std.specs.List.Sorted.{IsStrictlySortedBy}
use Rattle.std.specs.Map.{keys_of}
use Rattle.std.specs.Ordering.{nat_cmp, ordering_then, is_eq}
use Rattle.std.specs.declared.cmp.Ordering.{Ordering}
use Rattle.std.specs.declared.cmp.Ordering.TheVariants.{Less, Equal, Greater}
use Rattle.ocr_acquire.proofs.Members.{Contains-nil, Contains-here, Contains-there, Contains-cases}
use Rattle.ocr_machine_history.specs.declared.entry.Entry.{Entry}
use Rattle.ocr_machine_history.specs.declared.entry.Entry.TheVariants.{Call}
use Rattle.ocr_machine_history.specs.History.{History}
use Rattle.ocr_body_meaning.specs.Holds.{is_done}
use Rattle.ocr_body_meaning.specs.declared.call.Call as body
use Rattle.ocr_body_meaning.specs.declared.call.Call.TheVariants.{Load, Store}
use Rattle.ocr_memory_model_order.proofs.Fronts.{some_same}
use Rattle.ocr_memory_model_order.specs.Races.{is_store_in, is_load_in}
use Rattle.ocr_memory_model.specs.declared.touch.Places.{Places}
use Rattle.ocr_memory_model.specs.declared.touch.Touch.{Touch}
use Rattle.ocr_memory_model.specs.Touches.{Site, site_cmp, access_by, access_in, touched, store_in, touch_of, touch_cmp, AreMarked, AreTouches}

-- THE ORDER of sites
eq_then : (o p : Ordering) → is_eq (ordering_then o p) ≡ (is_eq o && is_eq p)
eq_then Less p = refl
eq_then Equal p = refl
eq_then Greater p = refl

eq_cmp : (a b : ℕ) → is_eq (nat_cmp a b) ≡ (a == b)
eq_cmp a b = grind (arith, nat_tests)

equal_is : (a b : ℕ) → nat_cmp a b ≡ Equal → a ≡ b
equal_is a b h = grind (arith, nat_tests)

same_site : (x y : Site) → is_eq (site_cmp x y) ≡ (((x.0 == y.0) && (x.1 == y.1)) && (x.2 == y.2))
same_site x y =
    rw (eq_then (ordering_then (nat_cmp x.0 y.0) (nat_cmp x.1 y.1)) (nat_cmp x.2 y.2), eq_then (nat_cmp x.0 y.0) (nat_cmp x.1 y.1), eq_cmp x.0 y.0, eq_cmp x.1 y.1, eq_cmp x.2 y.2)

site_total : IsTotalOrder site_cmp
site_total =
    then_total (then_total (on_total (λ (t : Site). t.0) nat_cmp_total) (on_total (λ (t : Site). t.1) nat_cmp_total)) (on_total (λ (t : Site). t.2) nat_cmp_total)

both_equal : (o p : Ordering) → ordering_then o p ≡ Equal → (o ≡ Equal) × (p ≡ Equal)
both_equal Less p h = cc h
both_equal Equal p h = (refl, h)
both_equal Greater p h = cc h

site_exact : CmpEqualImpliesEq site_cmp
site_exact x y h =
    let k = both_equal (ordering_then (nat_cmp x.0 y.0) (nat_cmp x.1 y.1)) (nat_cmp x.2 y.2) h in
    let l = both_equal (nat_cmp x.0 y.0) (nat_cmp x.1 y.1) k.0 in
    let a : x.0 ≡ y.0 = equal_is x.0 y.0 l.0 in
    let b : x.1 ≡ y.1 = equal_is x.1 y.1 l.1 in
    let c : x.2 ≡ y.2 = equal_is x.2 y.2 k.1 in
    λ i. (a i, b i, c i)

-- ONE ENTRY MORE
abbrev told : ℕ → Bool → Option Places → Option Places
told n is_store o = Some (record { last = n; store = if is_store then Some n else store_in o })

abbrev noted : (store load : Bool) → ℕ → Option Places → Option Places
noted store load n o =
    if store then Some (record { last = n; store = Some n })
    else if load then Some (record { last = n; store = store_in o })
    else o

loaded : (a b c : Bool) (n : ℕ) (o : Option Places) → noted (c && (true && false)) (c && (true && (a && b))) n o ≡ cond ((a && b) && c) (told n false o) o
loaded true true true n o = refl
loaded true true false n o = refl
loaded true false true n o = refl
loaded true false false n o = refl
loaded false b true n o = refl
loaded false b false n o = refl

stored : (a b c : Bool) (n : ℕ) (o : Option Places) → noted (c && (true && (a && b))) (c && (true && false)) n o ≡ cond ((a && b) && c) (told n true o) o
stored true true true n o = refl
stored true true false n o = refl
stored true false true n o = refl
stored true false false n o = refl
stored false b true n o = refl
stored false b false n o = refl

none_noted : (c : Bool) (n : ℕ) (o : Option Places) → noted (c && (true && false)) (c && (true && false)) n o ≡ o
none_noted true n o = refl
none_noted false n o = refl

refused : (c x y : Bool) (n : ℕ) (o : Option Places) → noted (c && (false && x)) (c && (false && y)) n o ≡ o
refused true x y n o = refl
refused false x y n o = refl

abbrev MarksNext : (d w t n : ℕ) → Option Places → Option Places → Site × Bool → Type 0
MarksNext d w t n o new access =
    new ≡ cond (is_eq (site_cmp access.0 (d, w, t))) (told n access.1 o) o

by_access : (u : ℕ) (c : body.Call) (access : Site × Bool) (d w t n : ℕ) (o : Option Places) → access_by u c ≡ Some access → MarksNext d w t n o (noted ((u == t) && (true && is_store_in c d w)) ((u == t) && (true && is_load_in c d w)) n o) access
by_access u (Load b k) access d w t n o h =
    let new : Option Places = noted ((u == t) && (true && false)) ((u == t) && (true && ((b == d) && (k == w)))) n o in
    subst (MarksNext d w t n o new) (some_same ((b, k, u), false) access h)
    (loaded (b == d) (k == w) (u == t) n o ∙ sym (ap (λ x. cond x (told n false o) o) (same_site (b, k, u) (d, w, t))))
by_access u (Store b k v) access d w t n o h =
    let new : Option Places = noted ((u == t) && (true && ((b == d) && (k == w)))) ((u == t) && (true && false)) n o in
    subst (MarksNext d w t n o new) (some_same ((b, k, u), true) access h)
    (stored (b == d) (k == w) (u == t) n o ∙ sym (ap (λ x. cond x (told n true o) o) (same_site (b, k, u) (d, w, t))))
by_access u other access d w t n o h = cc h

pub touched_next : (past : History) (e : Entry) (access : Site × Bool) (d w t : ℕ) → access_in e ≡ Some access → MarksNext d w t (length past) (touched past d w t) (touched (e ∷ past) d w t) access
touched_next past (Call u home c a writes) access d w t h =
    let n : ℕ = length past in
    let o : Option Places = touched past d w t in
    elim (is_done a.code) as (λ b. (if b then access_by u c else None) ≡ Some access → MarksNext d w t n o (noted ((u == t) && (b && is_store_in c d w)) ((u == t) && (b && is_load_in c d w)) n o) access) [
      | true ↦ λ k. by_access u c access d w t n o k
      | false ↦ λ k. cc k
    ] h
touched_next past other access d w t h = cc h

no_access : (u : ℕ) (c : body.Call) (d w t n : ℕ) (o : Option Places) → access_by u c ≡ None → noted ((u == t) && (true && is_store_in c d w)) ((u == t) && (true && is_load_in c d w)) n o ≡ o
no_access u (Load b k) d w t n o h = cc h
no_access u (Store b k v) d w t n o h = cc h
no_access u other d w t n o h = none_noted (u == t) n o

pub untouched : (past : History) (e : Entry) (d w t : ℕ) → access_in e ≡ None → touched (e ∷ past) d w t ≡ touched past d w t
untouched past (Call u home c a writes) d w t h =
    let n : ℕ = length past in
    let o : Option Places = touched past d w t in
    elim (is_done a.code) as (λ b. (if b then access_by u c else None) ≡ None → noted ((u == t) && (b && is_store_in c d w)) ((u == t) && (b && is_load_in c d w)) n o ≡ o) [
      | true ↦ λ k. no_access u c d w t n o k
      | false ↦ λ _. refused (u == t) (is_store_in c d w) (is_load_in c d w) n o
    ] h
untouched past other d w t h = refl

-- AS A LIST
sorted_none : IsStrictlySortedBy touch_cmp []
unfolding IsStrictlySortedBy
sorted_none = tt

sorted_more : (x : Touch) (xs : List Touch) → AllByRecursion (λ y. touch_cmp x y ≡ Less) xs → IsStrictlySortedBy touch_cmp xs → IsStrictlySortedBy touch_cmp (x ∷ xs)
unfolding IsStrictlySortedBy
sorted_more x xs low rest = (low, rest)

low_mapped : (e : Site × Places) (es : List (Site × Places)) → AllByRecursion (λ k. site_cmp e.0 k ≡ Less) (keys_of es) → AllByRecursion (λ y. touch_cmp (touch_of e) y ≡ Less) (map touch_of es)
low_mapped e [] low = tt
low_mapped e (f ∷ es) low = (low.0, low_mapped e es low.1)

sorted_mapped : (es : List (Site × Places)) → IsStrictlySortedBy site_cmp (keys_of es) → IsStrictlySortedBy touch_cmp (map touch_of es)
sorted_mapped [] up = sorted_none
sorted_mapped (e ∷ es) up =
    sorted_more (touch_of e) (map touch_of es) (low_mapped e es (sorted_head site_cmp e.0 (keys_of es) up))
    (sorted_mapped es (sorted_tail site_cmp e.0 (keys_of es) up))

abbrev mark_of : Touch → Site × Places
mark_of x = ((x.block, x.word, x.edt), x.places)

mark_there : (es : List (Site × Places)) (x : Touch) → Contains (map touch_of es) x → Contains es (mark_of x)
mark_there [] x there = absurd (Contains-nil x there)
mark_there (e ∷ es) x there = elim (Contains-cases (touch_of e) x (map touch_of es) there) [
  | inl here ↦ Contains-here e (mark_of x) es (ap mark_of here)
  | inr later ↦ Contains-there e (mark_of x) es (mark_there es x later)
]

touch_there : (es : List (Site × Places)) (x : Touch) → Contains es (mark_of x) → Contains (map touch_of es) x
touch_there [] x there = absurd (Contains-nil (mark_of x) there)
touch_there (e ∷ es) x there = elim (Contains-cases e (mark_of x) es there) [
  | inl here ↦ Contains-here (touch_of e) x (map touch_of es) (ap touch_of here)
  | inr later ↦ Contains-there (touch_of e) x (map touch_of es) (touch_there es x later)
]

pub touches_are : (past : History) (marks : BTreeMap Site Places) (ts : List Touch) → AreMarked past marks → IsOrdered site_cmp marks → ts ≡ map touch_of marks.entries → AreTouches past ts
touches_are past marks ts marked up is =
    subst (AreTouches past) (sym is)
    (record {
      rising = sorted_mapped marks.entries up;
      each = λ x.
          let found = btree_map_get_iff site_total site_exact marks up (x.block, x.word, x.edt) x.places in (
            λ there. sym (marked x.block x.word x.edt) ∙ found.1 (mark_there marks.entries x there),
            λ told. touch_there marks.entries x (found.0 (marked x.block x.word x.edt ∙ told)),
          );
    })

-- what is noted of an access
equal_eq : (o : Ordering) → is_eq o ≡ true → o ≡ Equal
equal_eq Less h = cc h
equal_eq Equal h = refl
equal_eq Greater h = cc h

pub noted_is : (past : History) (e : Entry) (access : Site × Bool) (marks : BTreeMap Site Places) (store : Option ℕ) (d w t : ℕ) (new : Option Places) → access_in e ≡ Some access → AreMarked past marks → store ≡ (if access.1 then Some (length past) else store_in (get site_cmp marks access.0)) → new ≡ cond (is_eq (site_cmp access.0 (d, w, t))) (Some (record { last = length past; store = store })) (get site_cmp marks (d, w, t)) → new ≡ touched (e ∷ past) d w t
noted_is past e access marks store d w t new at marked stored is = is ∙ step ∙ sym (touched_next past e access d w t at)
  where
    n : ℕ
    n = length past

    step : cond (is_eq (site_cmp access.0 (d, w, t))) (Some (record { last = length past; store = store })) (get site_cmp marks (d, w, t)) ≡ cond (is_eq (site_cmp access.0 (d, w, t))) (told (length past) access.1 (touched past d w t)) (touched past d w t)
    step = elim (is_eq (site_cmp access.0 (d, w, t))) as (λ b. is_eq (site_cmp access.0 (d, w, t)) ≡ b → cond b (Some (record { last = length past; store = store })) (get site_cmp marks (d, w, t)) ≡ cond b (told (length past) access.1 (touched past d w t)) (touched past d w t)) [
      | true ↦ λ same.
          let here : access.0 ≡ (d, w, t) = site_exact access.0 (d, w, t) (equal_eq (site_cmp access.0 (d, w, t)) same) in
          let before : get site_cmp marks access.0 ≡ touched past d w t = ap (λ (x : Site). get site_cmp marks x) here ∙ marked d w t in
          ap (λ (o : Option ℕ). Some (record { last = length past; store = o })) (stored ∙ ap (λ (o : Option Places). if access.1 then Some (length past) else store_in o) before)
      | false ↦ λ _. marked d w t
    ] refl
