-- What a step at one seat leaves as it was: each group of the rule on its own.
use Rattle.std.proofs.Common.{◌≡◌, ◌≢◌, ℕ, ◌+◌, ◌<◌, ◌≤◌, ◌⊎◌, inl, inr, ⊎_elim, List, [], ◌∷◌, ◌++◌, length, ap, sym, subst, ◌∙◌, arith, Option}
use Rattle.std.specs.Prelude.{slice_index, slice_set, MatchOption}
use mathlib.Core.Option as maybe
use mathlib.Core.Option.{some}
use lib.ListN.{get_elem?}
use Rattle.atomic_table.specs.Table.{State}
use Rattle.atomic_table.proofs.Lists.{at_set}
use Rattle.ocr_base.specs.Mail.{tally}
use Rattle.ocr_turns_rule.specs.Meaning.{Meaning}
use Rattle.ocr_turns_rule.specs.Rule.{weighed, Seated, Ledger, Numbers, Places, Roster, mail}
use Rattle.ocr_turns_rule.specs.Sums.{total, weigh, one_at, sum_of, is_free}
use Rattle.ocr_turns_rule.specs.declared.view.View.{View}
use Rattle.ocr_turns_rule.specs.declared.view.Terms.{Terms}
use Rattle.ocr_turns_rule.proofs.Totals.{total_set, made_snoc}

abbrev pub keeps_at : {G E P N F : Type 0} → ℕ → View G E P N F → ℕ
keeps_at p v = weigh (one_at p) v.parts

abbrev pub Reached : ℕ → ℕ → Option ℕ → Type 0
Reached limit w o = MatchOption o (Unit {0}) (λ _. limit ≤ w)

-- the table after a step at the seat id
abbrev pub after : {S V : Type 0} → State S V → List ℕ → List (maybe.Option S) → ℕ → V → State S V
after s ws hs id w = record { words = ws; homes = hs; views = slice_set s.views id w }

module _ {G E P N F : Type 0} (m : Meaning G E P N F) (t : Terms G) where
  module _ (J : List E) (s : State (Option P) (View G E P N F)) (id : ℕ) (v w : View G E P N F) (at : get_elem? s.views id ≡ some v) (ws : List ℕ) (hs : List (maybe.Option (Option P))) where
    -- a number that the step leaves
    pub total_same : (f : View G E P N F → ℕ) → f w ≡ f v → total f (slice_set s.views id w) ≡ total f s.views
    total_same f is = let a = total_set f s.views id v w at in omega arith

    pub ledger_same : Ledger m t J s → slice_index ws 0 ≡ slice_index s.words 0 → ((f : ℕ → ℕ) → weighed f w ≡ weighed f v) → w.ended ≡ v.ended → w.shut ≡ v.shut → Ledger m t J (after s ws hs id w)
    ledger_same k word logs ended shut =
        let e = total_same (λ u. u.ended) ended in let z = total_same (λ u. u.shut) shut in record {
          run = k.run;
          once = λ f. total_same (λ u. weighed f u) (logs f) ∙ k.once f;
          word = ⊎_elim (λ h. inl (word ∙ h.0, h.1, e ∙ h.2)) (λ h. inr (let p = h.0 in omega arith, h.1)) k.word;
          ended = let old = k.ended in omega arith;
          high = let old = k.high in omega arith;
        }

    pub reached_same : (x : ℕ) → x ≡ slice_index s.words 8 → w.reached ≡ v.reached
        → ((i : ℕ) (u : View G E P N F) → get_elem? s.views i ≡ some u → Reached t.limit (slice_index s.words 8) u.reached)
        → (i : ℕ) (u : View G E P N F) → get_elem? (slice_set s.views id w) i ≡ some u → Reached t.limit x u.reached
    reached_same x word same all i u u_at = subst (λ y. Reached t.limit y u.reached) (sym word) (⊎_elim
        (λ h. subst (λ (y : View G E P N F). Reached t.limit (slice_index s.words 8) y.reached) h.1 (subst (Reached t.limit (slice_index s.words 8)) (sym same) (all id v at)))
        (λ h. all i u h.1)
        (at_set s.views id i w u u_at))

    pub numbers_same : Numbers m t J s → slice_index ws 8 ≡ slice_index s.words 8 → ((f : ℕ → ℕ) → sum_of f w.drawn ≡ sum_of f v.drawn) → w.filled ≡ v.filled → w.reached ≡ v.reached → Numbers m t J (after s ws hs id w)
    numbers_same k word drawn filled reached = record {
      drawn = k.drawn;
      draws = subst (λ (x : ℕ). ((x ≡ k.drawn) × (k.drawn ≤ t.limit)) ⊎ ((k.drawn ≡ t.limit) × (t.limit ≤ x))) (sym word) k.draws;
      numbers = λ f. let a = total_same (λ u. sum_of f u.drawn) (drawn f) in let old = k.numbers f in omega arith;
      fulls = let a = total_same (λ u. u.filled) filled in let old = k.fulls in omega arith;
      reached = reached_same (slice_index ws 8) word reached k.reached;
    }

    -- an entry that makes numbers that the seat drew
    pub numbers_more : (e : E) → Numbers m t J s → slice_index ws 8 ≡ slice_index s.words 8 → ((f : ℕ → ℕ) → sum_of f w.drawn + sum_of f (m.makes e) ≡ sum_of f v.drawn) → w.filled ≡ v.filled → w.reached ≡ v.reached → Numbers m t (J ++ e ∷ []) (after s ws hs id w)
    numbers_more e k word drawn filled reached = record {
      drawn = k.drawn;
      draws = subst (λ (x : ℕ). ((x ≡ k.drawn) × (k.drawn ≤ t.limit)) ⊎ ((k.drawn ≡ t.limit) × (t.limit ≤ x))) (sym word) k.draws;
      numbers = λ f. let a = total_set (λ (u : View G E P N F). sum_of f u.drawn) s.views id v w at in let b = drawn f in let old = k.numbers f in let more = made_snoc m.makes f J e in omega arith;
      fulls = let a = total_same (λ u. u.filled) filled in let old = k.fulls in omega arith;
      reached = reached_same (slice_index ws 8) word reached k.reached;
    }

    -- a step on no turn word, after which J' is the history
    pub places_same : (J' : List E) → hs ≡ s.homes → length ws ≡ length s.words → ((p : ℕ) → p < length s.homes → slice_index ws (p + 24) ≡ slice_index s.words (p + 24)) → ((p : ℕ) → keeps_at p w ≡ keeps_at p v)
        → ((p : ℕ) → p < length s.homes → slice_index s.words (p + 24) ≡ 0 → m.part t.setting.value t.limit J' p ≡ m.part t.setting.value t.limit J p)
        → Places m t J s → Places m t J' (after s ws hs id w)
    places_same J' homes len words parts stays k = subst (λ (h : List (maybe.Option (Option P))). Places m t J' (after s ws h id w)) (sym homes) (record {
      words = let old = k.words in omega arith;
      keeper = λ p lt. let a = total_same (keeps_at p) (parts p) in let old = k.keeper p lt in let free = ap is_free (words p lt) in omega arith;
      home = λ p lt free. let was = sym (words p lt) ∙ free in let h = k.home p lt was in record { item = h.item; home = h.home; is_part = stays p lt was ∙ h.is_part };
    })

    pub roster_same : Roster s.views → w.seats ≡ v.seats → w.quota ≡ v.quota → w.root ≡ v.root → w.seat ≡ v.seat → w.out ≡ v.out → Roster (slice_set s.views id w)
    roster_same k seats quota root seat out = record {
      seats = let a = total_same (λ u. u.seats) seats in let b = total_same (λ u. u.quota) quota in let old = k.seats in omega arith;
      root = total_same (λ u. u.root) root ∙ k.root;
      out = total_same (λ u. u.seat) seat ∙ (k.out ∙ sym (total_same (λ u. u.out) out));
    }

    pub owed_same : ((f : ℕ × ℕ → ℕ) → total (λ u. tally f u.owed) s.views ≡ tally f (mail m t J)) → ((f : ℕ × ℕ → ℕ) → tally f w.owed ≡ tally f v.owed) → (f : ℕ × ℕ → ℕ) → total (λ u. tally f u.owed) (slice_set s.views id w) ≡ tally f (mail m t J)
    owed_same k same f = total_same (λ u. tally f u.owed) (same f) ∙ k f

    -- the seat that steps, and the others
    pub seated_each : (J' : List E) → Seated m t hs J' w → ((i : ℕ) (u : View G E P N F) → i ≢ id → get_elem? s.views i ≡ some u → Seated m t hs J' u)
        → (i : ℕ) (u : View G E P N F) → get_elem? (slice_set s.views id w) i ≡ some u → Seated m t hs J' u
    seated_each J' mine others i u u_at = ⊎_elim (λ h. subst (Seated m t hs J') h.1 mine) (λ h. others i u h.0 h.1) (at_set s.views id i w u u_at)
