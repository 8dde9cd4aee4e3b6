-- The words of a new table, and that they keep the second rule.
use Rattle.std.proofs.Common.{◌≡◌, ◌≢◌, ℕ, zero, suc, ◌+◌, ◌-◌, ◌*◌, ◌<◌, ◌≤◌, ◌⊎◌, inl, inr, ⊎_elim, Bool, true, false, ◌&&◌, ◌==◌, if◌then◌else◌, List, [], ◌∷◌, ◌++◌, length, set, get_or, map, refl, ap, sym, subst, ◌∙◌, arith, eq-eqb, ne_eqb, get_or-set_same, get_or-set_other, length-append, None, Some, Option}
use Rattle.std.specs.Prelude.{replicate, slice_index}
use Rattle.std.proofs.Math.ListN.{length-set, get_or-append}
use Rattle.std.proofs.lemmas.List.{get_or-append-add, get_or-replicate, length-replicate}
use mathlib.Core.Option.{some, some-injective, some-ne-none}
use mathlib.Core.Logic.{dite}
use native.Mathlib.Decide.{ℕ_discrete}
use lib.ListN.{get_elem?}
use Rattle.atomic_table.specs.Table.{opening}
use Rattle.ocr_turns_rule.specs.Beginning.{IsLaidOut, front_words, unmade_words}
use Rattle.ocr_turns_rule.specs.Counts.{CountingLaws, Consistent, Counted, Stakes, IsInOrder, IsCounting, IsBlank, account, slots_of, payload_of, is_none, unset_of, state_at, payload_at, UNMADE, READY}
use Rattle.ocr_turns_rule.specs.Meaning.{Meaning}
use Rattle.ocr_turns_rule.specs.Steps.{rooted}
use Rattle.ocr_turns_rule.specs.Sums.{one_at, up_to, is_free}
use Rattle.ocr_turns_rule.specs.declared.view.Terms.{Terms}
use Rattle.ocr_turns_rule.proofs.Totals.{one_here, one_else}

-- THE WORDS
pub unmade_length : (n : ℕ) → length (unmade_words n) ≡ 33 * n
unmade_length zero = refl
unmade_length (suc n) = let r = unmade_length n in length-append (unmade_words n) (UNMADE ∷ replicate 32 0) ∙ omega arith

unmade_at : (limit n : ℕ) → n < limit → get_or (unmade_words limit) (33 * n) 0 ≡ UNMADE
unmade_at zero n lt = absurd (omega arith)
unmade_at (suc limit) n lt = let len = unmade_length limit in dite (ℕ_discrete n limit)
    (λ e. ap (λ (i : ℕ). get_or (unmade_words limit ++ UNMADE ∷ replicate 32 0) i 0) (let h : 33 * n ≡ length (unmade_words limit) + 0 = omega arith in h) ∙ get_or-append-add (unmade_words limit) (UNMADE ∷ replicate 32 0) 0 0)
    (λ ne. get_or-append (unmade_words limit) (UNMADE ∷ replicate 32 0) 0 (33 * n) (omega arith) ∙ unmade_at limit n (omega arith))

module _ (first : ℕ × ℕ) (limit drawn : ℕ) (lo : 1 ≤ first.0) (hi : first.0 ≤ limit) where
  abbrev front : List ℕ
  front = front_words drawn limit

  abbrev pub bare_words : List ℕ
  bare_words = front ++ unmade_words limit

  abbrev pub ready_words : List ℕ
  ready_words = set (set bare_words (state_at (2 * limit + 1) first.0) READY) (payload_at (2 * limit + 1) first.0 0) first.1

  -- the words behind the draw word
  abbrev behind_draw : List ℕ
  behind_draw = replicate 7 0 ++ 2 ∷ replicate (2 * limit + 8) 0

  front_length : length front ≡ 24 + (2 * limit + 1)
  front_length = let l : length (replicate {A = ℕ} (2 * limit + 8) 0) ≡ 2 * limit + 8 = length-replicate {A = ℕ} (2 * limit + 8) 0 in
      let b : length (replicate {A = ℕ} 8 0) ≡ 8 = length-replicate {A = ℕ} 8 0 in
      let c : length (replicate {A = ℕ} 7 0) ≡ 7 = length-replicate {A = ℕ} 7 0 in
      let d : length behind_draw ≡ 7 + (1 + (2 * limit + 8)) = length-append (replicate {A = ℕ} 7 0) (2 ∷ replicate (2 * limit + 8) 0) ∙ omega arith in
      length-append (replicate {A = ℕ} 8 0) (drawn ∷ behind_draw) ∙ omega arith

  commit_at : get_or front 0 0 ≡ 0
  commit_at = let b : length (replicate {A = ℕ} 8 0) ≡ 8 = length-replicate {A = ℕ} 8 0 in
      get_or-append (replicate {A = ℕ} 8 0) (drawn ∷ behind_draw) 0 0 (omega arith) ∙ get_or-replicate {A = ℕ} 8 0 0 0 (omega arith)

  -- the words from the draw word on
  behind : (i : ℕ) → get_or front (8 + i) 0 ≡ get_or (drawn ∷ behind_draw) i 0
  behind i = let b : length (replicate {A = ℕ} 8 0) ≡ 8 = length-replicate {A = ℕ} 8 0 in
      ap (λ (k : ℕ). get_or front (k + i) 0) (sym b) ∙ get_or-append-add (replicate {A = ℕ} 8 0) (drawn ∷ behind_draw) i 0

  -- the words from the live word on
  beyond : (i : ℕ) → get_or behind_draw (7 + i) 0 ≡ get_or (2 ∷ replicate (2 * limit + 8) 0) i 0
  beyond i = let b : length (replicate {A = ℕ} 7 0) ≡ 7 = length-replicate {A = ℕ} 7 0 in
      ap (λ (k : ℕ). get_or behind_draw (k + i) 0) (sym b) ∙ get_or-append-add (replicate {A = ℕ} 7 0) (2 ∷ replicate (2 * limit + 8) 0) i 0

  pub bare_length : length bare_words ≡ 24 + (2 * limit + 1) + 33 * limit
  bare_length = let a = front_length in let b = unmade_length limit in length-append front (unmade_words limit) ∙ omega arith

  -- a word that is not the first EDT's
  elsewhere : (i : ℕ) → i ≢ state_at (2 * limit + 1) first.0 → i ≢ payload_at (2 * limit + 1) first.0 0 → slice_index ready_words i ≡ slice_index bare_words i
  elsewhere i a b = get_or-set_other (set bare_words (state_at (2 * limit + 1) first.0) READY) (payload_at (2 * limit + 1) first.0 0) i first.1 0 b
      ∙ get_or-set_other bare_words (state_at (2 * limit + 1) first.0) i READY 0 a

  in_front : (i : ℕ) → i < 24 + (2 * limit + 1) → slice_index ready_words i ≡ get_or front i 0
  in_front i lt = let len = front_length in elsewhere i (λ e. absurd (omega arith)) (λ e. absurd (omega arith)) ∙ get_or-append front (unmade_words limit) 0 i (omega arith)

  turn_at : (p : ℕ) → p < 2 * limit + 1 → get_or front (p + 24) 0 ≡ 0
  turn_at p lt = ap (λ (i : ℕ). get_or front i 0) (let h : p + 24 ≡ 8 + suc (7 + suc (p + 7)) = omega arith in h)
      ∙ (behind (suc (7 + suc (p + 7))) ∙ (beyond (suc (p + 7)) ∙ get_or-replicate {A = ℕ} (2 * limit + 8) (p + 7) 0 0 (omega arith)))

  pub laid_out : IsLaidOut first limit drawn ready_words
  laid_out = record {
    size = length-set (set bare_words (state_at (2 * limit + 1) first.0) READY) (payload_at (2 * limit + 1) first.0 0) first.1 ∙ (length-set bare_words (state_at (2 * limit + 1) first.0) READY ∙ bare_length);
    commit = in_front 0 (omega arith) ∙ commit_at;
    draw = in_front 8 (omega arith) ∙ behind 0;
    live = in_front 16 (omega arith) ∙ (behind 8 ∙ beyond 0);
    turns = λ p lt. in_front (p + 24) (omega arith) ∙ turn_at p lt;
    first_ready = get_or-set_other (set bare_words (state_at (2 * limit + 1) first.0) READY) (payload_at (2 * limit + 1) first.0 0) (state_at (2 * limit + 1) first.0) first.1 0 (λ e. absurd (omega arith))
        ∙ get_or-set_same bare_words (state_at (2 * limit + 1) first.0) READY 0 (let l = bare_length in omega arith);
    first_payload = get_or-set_same (set bare_words (state_at (2 * limit + 1) first.0) READY) (payload_at (2 * limit + 1) first.0 0) first.1 0
        (let l = bare_length in let s = length-set bare_words (state_at (2 * limit + 1) first.0) READY in omega arith);
    unmade = λ n la ha ne.
        let len = front_length in let at = unmade_at limit (n - 1) (omega arith) in
        elsewhere (state_at (2 * limit + 1) n) (λ e. ne (omega arith)) (λ e. absurd (omega arith))
        ∙ (ap (λ (i : ℕ). get_or bare_words i 0) (let h : state_at (2 * limit + 1) n ≡ length front + 33 * (n - 1) = omega arith in h)
        ∙ (get_or-append-add front (unmade_words limit) (33 * (n - 1)) 0 ∙ at));
  }

-- THE RULE
up_to_has : (n k : ℕ) → 1 ≤ n → n ≤ k → 1 ≤ up_to (one_at n) k
up_to_has n zero lo hi = absurd (omega arith)
up_to_has n (suc k) lo hi = dite (ℕ_discrete n (suc k))
    (λ e. let a : one_at n (suc k) ≡ 1 = ap (one_at n) (sym e) ∙ one_here n in omega arith)
    (λ ne. let r = up_to_has n k lo (omega arith) in omega arith)

pub one_view : {V : Type 0} (v u : V) (i : ℕ) → get_elem? (v ∷ []) i ≡ some u → v ≡ u
one_view v u zero e = some-injective v u e
one_view v u (suc i) e = absurd (some-ne-none u (sym e))

none_most : (o : Option ℕ) → is_none o ≤ 1
none_most None = omega arith
none_most (Some x) = omega arith

pub map_length : {A B : Type 0} (f : A → B) (xs : List A) → length (map f xs) ≡ length xs
map_length f [] = refl
map_length f (x ∷ xs) = ap suc (map_length f xs)

module _ {G E P N F : Type 0} (m : Meaning G E P N F) (laws : CountingLaws m) (t : Terms G) (few : m.opened ≤ t.limit) where
  -- at the opening the first EDT alone is made
  first_is : (n : ℕ) → ((m.first.0 ≡ n) × (slots_of m t [] n ≡ Some 1) × (payload_of m t [] n 0 ≡ Some m.first.1)) ⊎ ((m.first.0 ≢ n) × (slots_of m t [] n ≡ None) × ((q : ℕ) → payload_of m t [] n q ≡ None))
  first_is n = dite (ℕ_discrete m.first.0 n)
      (λ e. inl (e, rw (eq-eqb m.first.0 n e) refl, rw (eq-eqb m.first.0 n e) refl))
      (λ ne. inr (ne, rw (ne_eqb m.first.0 n ne) refl, λ q. rw (ne_eqb m.first.0 n ne) refl))

  -- a payload is that of its slot 0
  first_payload : (n q x : ℕ) → payload_of m t [] n q ≡ Some x → (m.first.0 ≡ n) × (0 ≡ q) × (m.first.1 ≡ x)
  first_payload n q x is = by_tests (m.first.0 == n) (0 == q) refl refl is
    where
      by_tests : (a b : Bool) → (m.first.0 == n) ≡ a → (0 == q) ≡ b → (if a && b then Some m.first.1 else None) ≡ Some x → (m.first.0 ≡ n) × (0 ≡ q) × (m.first.1 ≡ x)
      by_tests true true p r is = (by_eq m.first.0 n p, by_eq 0 q r, cc is)
        where
          by_eq : (a b : ℕ) → (a == b) ≡ true → a ≡ b
          by_eq a b on = dite (ℕ_discrete a b) (λ e. e) (λ ne. let off = ne_eqb a b ne in cc (on, off))
      by_tests true false p r is = cc is
      by_tests false b p r is = cc is

  consistent : Consistent m t []
  consistent = record {
    made = λ n d is. ⊎_elim
        (λ h. let one : ◌≡◌ {A = Option ℕ} (Some 1) (Some d) = sym h.1 ∙ is in let eq : 1 ≡ d = cc one in let f = laws.first_made in let e = h.0 in let lo = f.0 in let hi = f.1 in
        (omega arith, omega arith, omega arith, (let has = up_to_has n m.opened (omega arith) (omega arith) in omega arith)))
        (λ h. absurd (let none = h.1 in cc (none, is)))
        (first_is n);
    set = λ n q x is. let r = first_payload n q x is in ⊎_elim (λ h. (1, h.1, (let z = r.1 in omega arith))) (λ h. absurd (h.0 r.0)) (first_is n);
    rests = λ n p is. cc is;
    facts = λ n q x is. let r = first_payload n q x is in
        subst (λ z. m.stands t.setting.value t.limit [] (m.counting.is_set n q z)) r.2 (subst (λ z. m.stands t.setting.value t.limit [] (m.counting.is_set n z m.first.1)) r.1 (subst (λ z. m.stands t.setting.value t.limit [] (m.counting.is_set z 0 m.first.1)) r.0 (laws.first_set t)));
  }

  module _ (ws : List ℕ) (xs : List (Option P)) (same : length xs ≡ 2 * t.limit + 1) (laid : IsLaidOut m.first t.limit m.opened ws) where
    homes : length (map some xs) ≡ 2 * t.limit + 1
    homes = map_length some xs ∙ same

    at_homes : (n : ℕ) → slice_index ws (state_at (length (map some xs)) n) ≡ slice_index ws (state_at (2 * t.limit + 1) n)
    at_homes n = ap (λ (h : ℕ). slice_index ws (state_at h n)) homes

    in_order : (n : ℕ) → 1 ≤ n → n ≤ t.limit → IsInOrder (slots_of m t [] n) (account m t ws (length (map some xs)) (rooted {E = E} {P = P} {N = N} {F = F} t ∷ []) [] n)
    in_order n lo hi = let word = at_homes n in ⊎_elim
        (λ h.
        let z : slice_index ws (state_at (length (map some xs)) n) ≡ READY = word ∙ (ap (λ (k : ℕ). slice_index ws (state_at (2 * t.limit + 1) k)) (sym h.0) ∙ laid.first_ready) in
        let one : one_at m.first.0 n ≡ 1 = ap (one_at m.first.0) (sym h.0) ∙ one_here m.first.0 in
        let set : is_none (payload_of m t [] n 0) ≡ 0 = ap is_none h.2 in
        let is : IsCounting (record (account m t ws (length (map some xs)) (rooted {E = E} {P = P} {N = N} {F = F} t ∷ []) [] n) { unset = is_none (payload_of m t [] n 0) + 0 }) = record { word = omega arith; most = omega arith; bare = omega arith; once = (let f = ap is_free z in omega arith) } in
        first_order (slots_of m t [] n) h.1 is)
        (λ h.
        let z : slice_index ws (state_at (length (map some xs)) n) ≡ UNMADE = word ∙ laid.unmade n lo hi (λ e. h.0 (sym e)) in
        let none : one_at m.first.0 n ≡ 0 = one_else m.first.0 n h.0 in
        let is : IsBlank (account m t ws (length (map some xs)) (rooted {E = E} {P = P} {N = N} {F = F} t ∷ []) [] n) = record { word = z; bare = omega arith } in
        subst (λ o. IsInOrder o (account m t ws (length (map some xs)) (rooted {E = E} {P = P} {N = N} {F = F} t ∷ []) [] n)) (sym h.1) is)
        (first_is n)
      where
        first_order : (o : Option ℕ) → slots_of m t [] n ≡ Some 1 → IsCounting (record (account m t ws (length (map some xs)) (rooted {E = E} {P = P} {N = N} {F = F} t ∷ []) [] n) { unset = is_none (payload_of m t [] n 0) + 0 })
            → IsInOrder (slots_of m t [] n) (account m t ws (length (map some xs)) (rooted {E = E} {P = P} {N = N} {F = F} t ∷ []) [] n)
        first_order o made is = subst (λ z. IsInOrder z (record (account m t ws (length (map some xs)) (rooted {E = E} {P = P} {N = N} {F = F} t ∷ []) [] n) { unset = unset_of z (payload_of m t [] n) })) (sym made) (inl is)

    pub opens_counted : Counted m t [] (opening ws xs (rooted {E = E} {P = P} {N = N} {F = F} t))
    opens_counted = record {
      words = let a = laid.size in let b = homes in omega arith;
      told = consistent;
      each = in_order;
      stage = λ n q. let z = none_most (payload_of m t [] n q) in omega arith;
      payload = λ n q x is none. let r = first_payload n q x is in
          ap (λ (h : ℕ). slice_index ws (payload_at h n q)) homes
          ∙ ((λ i. slice_index ws (payload_at (2 * t.limit + 1) (sym r.0 i) (sym r.1 i))) ∙ (laid.first_payload ∙ r.2));
      seated = λ i u there. subst (Stakes m t []) (one_view (rooted t) u i there) (record {
        unput = λ j n q x x_at. absurd (some-ne-none (n, q, x) (sym x_at));
        made = λ j n d d_at. absurd (some-ne-none (n, d) (sym d_at));
        claims = λ n has. absurd (omega arith);
        tied = λ n p has is. absurd (omega arith);
        begun = λ n has is. absurd (omega arith);
        spent = λ z. absurd (omega arith);
      });
    }
