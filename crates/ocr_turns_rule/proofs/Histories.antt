-- What is so of a history, of logs and of messages once an entry has come behind it.
use Rattle.std.proofs.Common.{◌≡◌, ℕ, zero, suc, ◌+◌, ◌≤◌, ⊎_elim, Bool, true, false, ◌||◌, if◌then◌else◌, List, [], ◌∷◌, ◌++◌, length, take, reverse, refl, ap, sym, subst, ◌∙◌, arith, None, Some, Option}
use Rattle.std.proofs.lemmas.List.{take-append-le, reverse-append, length-reverse}
use Rattle.std.proofs.Math.Seq.{take-append_seam}
use mathlib.Core.Option.{some, some-injective, some-ne-none}
use lib.ListN.{get_elem?}
use Rattle.atomic_table.proofs.Lists.{at_longer, at_last}
use Rattle.ocr_base.specs.Mail.{drop_one, same_name, tally, named, without, pending}
use Rattle.ocr_turns_rule.proofs.Totals.{picked_append, among_append, entries_append, at_snoc_at, at_less, tally_append, has_tally, tally_has, one_name, at_append, append_none, reverse_twice}
use Rattle.ocr_turns_rule.specs.Meaning.{Meaning, Lawful, Run, Open}
use Rattle.ocr_turns_rule.specs.Rule.{Fits, LogOf, OwnsAll, RunsIn, SentAs, AllSent, mail}
use Rattle.ocr_turns_rule.specs.Sums.{entries, is_among, picked, Rises}
use Rattle.ocr_turns_rule.specs.declared.view.View.{View}
use Rattle.ocr_turns_rule.specs.declared.view.Terms.{Terms}

module _ {E : Type 0} where
  -- a legal entry makes a longer run
  pub run_more : (legal : List E → E → Type 0) (J : List E) (e : E) → Run legal J → legal J e → Run legal (J ++ e ∷ [])
  run_more legal J e run ok n b at = ⊎_elim
      (λ h. let lt : n ≤ length J = omega (arith, h.0) in subst (λ (K : List E). legal K b) (sym (take-append-le n J (e ∷ []) lt)) (run n b h.1))
      (λ h. subst (λ (K : List E). legal K b) (sym (ap (λ (m : ℕ). take m (J ++ e ∷ [])) h.0 ∙ take-append_seam J (e ∷ []))) (subst (legal J) h.1 ok))
      (at_snoc_at J e b n at)

  pub open_more : (stops : E → Bool) (J : List E) (e : E) → Open stops J → stops e ≡ false → Open stops (J ++ e ∷ [])
  open_more stops J e op goes n b at = ⊎_elim (λ h. op n b h.1) (λ h. subst (λ x. stops x ≡ false) h.1 goes) (at_snoc_at J e b n at)

  pub log_later : (J : List E) (e : E) (log : List (ℕ × E)) → LogOf J log → LogOf (J ++ e ∷ []) log
  log_later J e log fits k n b at = at_longer J (e ∷ []) n b (fits k n b at)

  pub log_more : (J : List E) (e : E) (log : List (ℕ × E)) → LogOf J log → LogOf (J ++ e ∷ []) (log ++ (length J, e) ∷ [])
  log_more J e log fits k n b at = ⊎_elim (λ h. at_longer J (e ∷ []) n b (fits k n b h.1))
      (λ h. ap (λ (m : ℕ). get_elem? (J ++ e ∷ []) m) (sym (ap (λ (x : ℕ × E). x.0) h.1)) ∙ (at_last J e (length J) refl ∙ ap (λ (x : ℕ × E). some x.1) h.1))
      (at_snoc_at log (length J, e) (n, b) k at)

  -- a log of the history rises with the next entry
  pub rises_more : (J : List E) (e : E) (log : List (ℕ × E)) (len : ℕ) → len ≡ length J → LogOf J log → Rises log → Rises (log ++ (len, e) ∷ [])
  rises_more J e log len is fits rises i n m a b at next = ⊎_elim
      (λ h. ⊎_elim (λ g. rises i n m a b g.1 h.1) (λ g. let lt = h.0 in let end = g.0 in absurd (omega arith)) (at_snoc_at log (len, e) (n, a) i at))
      (λ h. ⊎_elim
      (λ g. let lt = at_less J n a (fits i n a g.1) in let eq : len ≡ m = ap (λ (x : ℕ × E). x.0) h.1 in omega arith)
      (λ g. let end = h.0 in let here = g.0 in absurd (omega arith))
      (at_snoc_at log (len, e) (n, a) i at))
      (at_snoc_at log (len, e) (m, b) (suc i) next)

-- messages keep what they bring
module _ {N : Type 0} where
  dropped_at : (nm : ℕ × ℕ) (xs : List (ℕ × ℕ × N)) (k : ℕ) (y : ℕ × ℕ × N) → get_elem? (drop_one nm xs) k ≡ some y → (j : ℕ) × (get_elem? xs j ≡ some y)
  dropped_at nm [] k y at = absurd (some-ne-none y (sym at))
  dropped_at nm (x ∷ xs) k y at = elim (same_name nm x) as (λ b. get_elem? (if b then xs else x ∷ drop_one nm xs) k ≡ some y → (j : ℕ) × (get_elem? (x ∷ xs) j ≡ some y)) [
    | true ↦ λ h. (suc k, h)
    | false ↦ λ h. stays_at nm x xs k y h (dropped_at nm xs)
  ] at
    where
      stays_at : (nm : ℕ × ℕ) (x : ℕ × ℕ × N) (xs : List (ℕ × ℕ × N)) (k : ℕ) (y : ℕ × ℕ × N) → get_elem? (x ∷ drop_one nm xs) k ≡ some y
          → ((i : ℕ) (z : ℕ × ℕ × N) → get_elem? (drop_one nm xs) i ≡ some z → (j : ℕ) × (get_elem? xs j ≡ some z)) → (j : ℕ) × (get_elem? (x ∷ xs) j ≡ some y)
      stays_at nm x xs zero y h later = (0, h)
      stays_at nm x xs (suc k) y h later = let r = later k y h in (suc r.0, r.1)

  without_at : (d : Option (ℕ × ℕ)) (xs : List (ℕ × ℕ × N)) (k : ℕ) (y : ℕ × ℕ × N) → get_elem? (without d xs) k ≡ some y → (j : ℕ) × (get_elem? xs j ≡ some y)
  without_at None xs k y at = (k, at)
  without_at (Some nm) xs k y at = dropped_at nm xs k y at

  named_at : (n i : ℕ) (xs : List N) (k a b : ℕ) (x : N) → get_elem? (named n i xs) k ≡ some (a, b, x) → (a ≡ n) × (b ≡ i + k) × (get_elem? xs k ≡ some x)
  named_at n i [] k a b x at = absurd (some-ne-none (a, b, x) (sym at))
  named_at n i (y ∷ ys) zero a b x at = let e = some-injective (n, i, y) (a, b, x) at in (ap (λ (z : ℕ × ℕ × N). z.0) (sym e), (let f : i ≡ b = ap (λ (z : ℕ × ℕ × N). z.1) e in omega arith), ap (λ (z : ℕ × ℕ × N). some z.2) e)
  named_at n i (y ∷ ys) (suc k) a b x at = let r = named_at n (suc i) ys k a b x at in (r.0, (let f = r.1 in omega arith), r.2)

module _ {G E P N F : Type 0} (m : Meaning G E P N F) (t : Terms G) where
  one_later : (J : List E) (e : E) (n i : ℕ) (x : N) → SentAs m t J n i x → SentAs m t (J ++ e ∷ []) n i x
  one_later J e n i x s =
      let lt : n ≤ length J = (let l = at_less J n s.0 s.1 in omega arith) in
      (s.0, at_longer J (e ∷ []) n s.0 s.1, ap (λ (K : List E). get_elem? (m.sends t.setting.value t.limit K s.0) i) (take-append-le n J (e ∷ []) lt) ∙ s.2)

  pub sent_later : (J : List E) (e : E) (xs : List (ℕ × ℕ × N)) → AllSent m t J xs → AllSent m t (J ++ e ∷ []) xs
  sent_later J e xs all k n i x at = one_later J e n i x (all k n i x at)

  sent_now : (J : List E) (e : E) (ms : List N) (n i : ℕ) (x : N) → n ≡ length J → m.sends t.setting.value t.limit J e ≡ ms → get_elem? ms i ≡ some x → SentAs m t (J ++ e ∷ []) n i x
  sent_now J e ms n i x len is at =
      (e, at_last J e n (sym len), ap (λ (K : List E). get_elem? (m.sends t.setting.value t.limit K e) i) (ap (λ (k : ℕ). take k (J ++ e ∷ [])) len ∙ take-append_seam J (e ∷ [])) ∙ (ap (λ (l : List N). get_elem? l i) is ∙ at))

  pub sent_more : (J : List E) (e : E) (xs : List (ℕ × ℕ × N)) (d : Option (ℕ × ℕ)) (ms : List N) (num : ℕ) → num ≡ length J → m.sends t.setting.value t.limit J e ≡ ms → AllSent m t J xs
      → AllSent m t (J ++ e ∷ []) (without d xs ++ named num 0 ms)
  sent_more J e xs d ms num len is all k n i x at = ⊎_elim
      (λ h. let there = without_at d xs k (n, i, x) h in one_later J e n i x (all there.0 n i x there.1))
      (λ h. let r = named_at num 0 ms h.0 n i x h.1 in
      let ix : h.0 ≡ i = (let f = r.1 in omega arith) in
      sent_now J e ms n i x (r.0 ∙ len) is (ap (λ (j : ℕ). get_elem? ms j) (sym ix) ∙ r.2))
      (at_append (without d xs) (named num 0 ms) k (n, i, x) at)

  -- each undelivered message was sent as its name says
  none_sent : AllSent m t [] []
  none_sent k n i x at = absurd (some-ne-none (n, i, x) (sym at))

  mail_back : (past : List E) → AllSent m t (reverse past) (pending (λ (before : List E). m.sends t.setting.value t.limit (reverse before)) m.delivers past)
  mail_back [] = none_sent
  mail_back (e ∷ past) = subst (λ (J : List E). AllSent m t J (pending (λ (before : List E). m.sends t.setting.value t.limit (reverse before)) m.delivers (e ∷ past))) (sym (reverse-append (e ∷ []) past))
      (sent_more (reverse past) e (pending (λ (before : List E). m.sends t.setting.value t.limit (reverse before)) m.delivers past) (m.delivers e) (m.sends t.setting.value t.limit (reverse past) e) (length past) (sym (length-reverse past)) refl (mail_back past))

  mail_sent : (J : List E) → AllSent m t J (mail m t J)
  mail_sent J = subst (λ (K : List E). AllSent m t K (mail m t J)) (reverse_twice J) (mail_back (reverse J))

  same_message : (J : List E) (n i : ℕ) (x y : N) → SentAs m t J n i x → SentAs m t J n i y → x ≡ y
  same_message J n i x y s r =
      let e : s.0 ≡ r.0 = some-injective s.0 r.0 (sym s.1 ∙ r.1) in
      some-injective x y (sym s.2 ∙ (ap (λ (z : E). get_elem? (m.sends t.setting.value t.limit (take n J) z) i) e ∙ r.2))

  -- a message that a view owes is undelivered, with what it brings
  pub owed_pending : (J : List E) (v : View G E P N F) → Fits m t J v → (k n i : ℕ) (x : N) → get_elem? v.owed k ≡ some (n, i, x) → (j : ℕ) × (get_elem? (mail m t J) j ≡ some (n, i, x))
  owed_pending J v fits k n i x at =
      let mine = has_tally v.owed (n, i) k x at in let le = fits.owed (one_name (n, i)) in
      let there = tally_has (mail m t J) (n, i) (omega arith) in
      let same = same_message J n i there.1 x (mail_sent J there.0 n i there.1 there.2) (fits.sent k n i x at) in
      (there.0, there.2 ∙ ap (λ (z : N). some (n, i, z)) same)

  -- the undelivered messages after an entry
  pub mail_more : (f : ℕ × ℕ → ℕ) (J : List E) (e : E) (ms : List N) → m.sends t.setting.value t.limit J e ≡ ms → tally f (mail m t (J ++ e ∷ [])) ≡ tally f (without (m.delivers e) (mail m t J)) + tally f (named (length J) 0 ms)
  mail_more f J e ms sent =
      ap (λ l. tally f (pending (λ (before : List E). m.sends t.setting.value t.limit (reverse before)) m.delivers l)) (reverse-append J (e ∷ []))
      ∙ (tally_append f (without (m.delivers e) (mail m t J)) (named (length (reverse J)) 0 (m.sends t.setting.value t.limit (reverse (reverse J)) e))
      ∙ ap (λ z. tally f (without (m.delivers e) (mail m t J)) + z) (ap (λ x. tally f (named x 0 (m.sends t.setting.value t.limit (reverse (reverse J)) e))) (length-reverse J) ∙ ap (λ l. tally f (named (length J) 0 l)) (ap (λ l. m.sends t.setting.value t.limit l e) (reverse_twice J) ∙ sent)))

  -- the own entries of an EDT after an entry
  pub own_same : (J : List E) (e : E) (log : List (ℕ × E)) (u : ℕ) → m.runs e u ≡ false → OwnsAll m t J log u → OwnsAll m t (J ++ e ∷ []) log u
  own_same J e log u off is = picked_append (λ x. m.runs x u) J (e ∷ []) ∙ (rw off (append_none (picked (λ x. m.runs x u) J)) ∙ is)

  pub own_both : (J : List E) (e : E) (n : ℕ) (log : List (ℕ × E)) (u : ℕ) → OwnsAll m t J log u → OwnsAll m t (J ++ e ∷ []) (log ++ (n, e) ∷ []) u
  own_both J e n log u is =
      picked_append (λ x. m.runs x u) J (e ∷ [])
      ∙ (ap (λ (l : List E). l ++ picked (λ x. m.runs x u) (e ∷ [])) is
      ∙ sym (ap (picked (λ x. m.runs x u)) (entries_append log ((n, e) ∷ [])) ∙ picked_append (λ x. m.runs x u) (entries log) (e ∷ [])))

or_none : (a b : Bool) → (a || (b || false)) ≡ false → (a ≡ false) × (b ≡ false)
or_none true b is = cc is
or_none false true is = cc is
or_none false false is = (refl, refl)

or_some : (a b : Bool) → (a || (b || false)) ≡ true → b ≡ false → a ≡ true
or_some true b is off = refl
or_some false true is off = cc off
or_some false false is off = is

module _ {E : Type 0} (starts ends : E → ℕ → Bool) where
  -- an EDT that the last entry did not start ran by the log before
  pub ran : (e : E) (n : ℕ) (log : List (ℕ × E)) (u : ℕ) → starts e u ≡ false → RunsIn starts ends (log ++ (n, e) ∷ []) u → RunsIn starts ends log u
  ran e n log u off runs = record {
    started = or_some (is_among (λ x. starts x u) (entries log)) (starts e u) (sym (ap (is_among (λ x. starts x u)) (entries_append log ((n, e) ∷ [])) ∙ among_append (λ x. starts x u) (entries log) (e ∷ [])) ∙ runs.started) off;
    goes_on = (or_none (is_among (λ x. ends x u) (entries log)) (ends e u) (sym (ap (is_among (λ x. ends x u)) (entries_append log ((n, e) ∷ [])) ∙ among_append (λ x. ends x u) (entries log) (e ∷ [])) ∙ runs.goes_on)).0;
  }

pub no_start : {G E P N F : Type 0} (m : Meaning G E P N F) (laws : Lawful m) (e : E) (u : ℕ) → m.runs e u ≡ false → m.starts e u ≡ false
no_start m laws e u off = elim (m.starts e u) as (λ b. m.starts e u ≡ b → b ≡ false) [
  | true ↦ λ on. let is = laws.starting e u on in cc (is, off)
  | false ↦ λ _. refl
] refl
