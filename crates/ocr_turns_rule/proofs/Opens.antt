-- A new table keeps both rules.
use Rattle.std.proofs.Common.{◌≡◌, ℕ, zero, suc, ◌+◌, ◌*◌, ◌<◌, ◌≤◌, ◌⊎◌, inl, inr, ⊎_elim, true, false, ◌==◌, if◌then◌else◌, List, [], ◌∷◌, length, set, map, refl, ap, sym, subst, ◌∙◌, arith, Some, Option}
use Rattle.std.specs.Prelude.{replicate, slice_index, MatchOption}
use Rattle.std.proofs.Math.ListN.{length-set}
use Rattle.std.proofs.lemmas.List.{length-replicate}
use mathlib.Core.Option as maybe
use mathlib.Core.Option.{some, some-ne-none}
use mathlib.Core.Logic.{dite}
use native.Mathlib.Decide.{ℕ_discrete}
use lib.ListN.{get_elem?}
use Rattle.atomic_table.specs.Table.{opening}
use Rattle.atomic_table.proofs.Lists.{set_here, set_else}
use Rattle.ocr_turns_rule.specs.Beginning.{IsLaidOut}
use Rattle.ocr_turns_rule.specs.Contract.{OpensWith}
use Rattle.ocr_turns_rule.specs.Counts.{CountingLaws}
use Rattle.ocr_turns_rule.specs.Meaning.{Meaning}
use Rattle.ocr_turns_rule.specs.Openings.{placed}
use Rattle.ocr_turns_rule.specs.Rule.{Alive, Holds, HomeOf, Kept, Lively, Seated}
use Rattle.ocr_turns_rule.specs.Steps.{rooted}
use Rattle.ocr_turns_rule.specs.Sums.{weigh, one_at, is_free, replace}
use Rattle.ocr_turns_rule.specs.Units.{ready_count}
use Rattle.ocr_turns_rule.proofs.Units.{one_ready}
use Rattle.ocr_turns_rule.specs.declared.view.View.{View}
use Rattle.ocr_turns_rule.specs.declared.view.Terms.{Terms}
use Rattle.ocr_turns_rule.proofs.Beginning.{opens_counted, one_view, map_length}
use Rattle.ocr_turns_rule.proofs.Splits.{nothing_yet}
use Rattle.ocr_turns_rule.proofs.Totals.{one_else, at_less}

-- THE PARTS
module _ {P : Type 0} where
  pub placed_length : (cs : List (ℕ × P)) (xs : List (Option P)) → length (placed cs xs) ≡ length xs
  placed_length [] xs = refl
  placed_length (c ∷ cs) xs = placed_length cs (set xs c.0 (Some c.1)) ∙ length-set xs c.0 (Some c.1)

  -- at each place stands what is listed for it, or what stood there
  placed_at : (cs : List (ℕ × P)) (xs : List (Option P)) (p : ℕ) (y : P) → get_elem? xs p ≡ some (Some y)
      → (x : P) × (get_elem? (placed cs xs) p ≡ some (Some x)) × (((k : ℕ) × (get_elem? cs k ≡ some (p, x))) ⊎ ((x ≡ y) × (weigh (one_at p) cs ≡ 0)))
  placed_at [] xs p y there = (y, there, inr (refl, refl))
  placed_at (c ∷ cs) xs p y there = dite (ℕ_discrete c.0 p)
      (λ e.
      let lt : p < length xs = at_less xs p (Some y) there in
      let here : get_elem? (set xs c.0 (Some c.1)) p ≡ some (Some c.1) = subst (λ q. get_elem? (set xs q (Some c.1)) p ≡ some (Some c.1)) (sym e) (set_here xs p (Some c.1) lt) in
      let r = placed_at cs (set xs c.0 (Some c.1)) p c.1 here in
      (r.0, r.1, inl (⊎_elim (λ h. (suc h.0, h.1)) (λ h. (0, λ i. some (e i, sym h.0 i))) r.2)))
      (λ ne.
      let r = placed_at cs (set xs c.0 (Some c.1)) p y (set_else xs c.0 p (Some c.1) (λ h. ne (sym h)) ∙ there) in
      (r.0, r.1, ⊎_elim (λ h. inl (suc h.0, h.1)) (λ h. inr (h.0, (let z = one_else p c.0 (λ q. ne (sym q)) in let w = h.1 in omega arith))) r.2))

all_alike : {A : Type 0} (n p : ℕ) (a : A) → p < n → get_elem? (replicate n a) p ≡ some a
all_alike zero p a lt = absurd (omega arith)
all_alike (suc n) zero a lt = refl
all_alike (suc n) (suc p) a lt = all_alike n p a (omega arith)

at_home : {A : Type 0} (xs : List A) (p : ℕ) (a : A) → get_elem? xs p ≡ some a → get_elem? (map some xs) p ≡ some (some a)
at_home [] p a at = absurd (some-ne-none a (sym at))
at_home (x ∷ xs) zero a at = ap some at
at_home (x ∷ xs) (suc p) a at = at_home xs p a at

module _ {G E P N F : Type 0} (m : Meaning G E P N F) (laws : CountingLaws m) (t : Terms G) (parts : List (ℕ × P)) (ok : OpensWith m t parts) (ws : List ℕ) (laid : IsLaidOut m.first t.limit m.opened ws) where
  abbrev pub slots : List (Option P)
  slots = placed parts (replicate (2 * t.limit + 1) (Some m.vacant))

  abbrev homes : List (maybe.Option (Option P))
  homes = map some slots

  pub slot_count : length slots ≡ 2 * t.limit + 1
  slot_count = placed_length parts (replicate (2 * t.limit + 1) (Some m.vacant)) ∙ length-replicate (2 * t.limit + 1) (Some m.vacant)

  home_count : length homes ≡ 2 * t.limit + 1
  home_count = map_length some slots ∙ slot_count

  at_place : (p : ℕ) → p < 2 * t.limit + 1 → HomeOf m t homes [] p
  at_place p lt =
      let r = placed_at parts (replicate (2 * t.limit + 1) (Some m.vacant)) p m.vacant (all_alike (2 * t.limit + 1) p (Some m.vacant) lt) in record {
        item = r.0;
        home = at_home slots p (Some r.0) r.1;
        is_part = ⊎_elim (λ h. ok.parts h.0 p r.0 h.1) (λ h. ok.others p h.1 ∙ ap (m.seen t.limit p) (sym h.0)) r.2;
      }

  opens_kept : Kept {N = N} m t [] (opening ws slots (rooted t))
  opens_kept = let size = laid.size in let count = home_count in let seats = ok.seats in let few = ok.few in let draw = laid.draw in record {
    limits = ok.limits;
    share = ok.share.1;
    ledger = record {
      run = λ n e there. absurd (some-ne-none e (sym there));
      once = λ f. omega arith;
      word = inl (laid.commit, (λ n e there. absurd (some-ne-none e (sym there))), refl);
      ended = omega arith;
      high = let z = laid.commit in omega arith;
    };
    numbers = record {
      drawn = m.opened;
      draws = inl (laid.draw, ok.few);
      numbers = λ f. omega arith;
      fulls = omega arith;
      reached = λ i u there. subst (λ (y : View G E P N F). MatchOption y.reached (Unit {0}) (λ _. t.limit ≤ slice_index ws 8)) (one_view (rooted t) u i there) tt;
    };
    places = record {
      words = omega arith;
      keeper = λ p lt. let z = ap is_free (laid.turns p (omega arith)) in omega arith;
      home = λ p lt _. at_place p (omega arith);
    };
    owed = λ f. refl;
    roster = record { seats = omega arith; root = refl; out = refl };
    seated = λ i u there. subst (Seated m t homes []) (one_view (rooted t) u i there)
        (nothing_yet m t homes [] (rooted t) refl refl refl refl refl refl refl (λ _. refl) (λ _. omega arith) (omega arith) (omega arith) (λ _. refl) (λ _. tt));
  }

  opens_alive : Alive {N = N} m t [] (opening ws slots (rooted t))
  opens_alive =
      let live = laid.live in let first = laws.first_made in let few = ok.few in let lo = first.0 in let hi = first.1 in
      let count = home_count in
      let one : ready_count ws (2 * t.limit + 1) t.limit ≡ 1 = one_ready ws (2 * t.limit + 1) t.limit m.first.0 lo (omega arith) laid.first_ready laid.unmade in
      let same = ap (λ (h : ℕ). ready_count ws h t.limit) count in record {
        word = omega arith;
        most = omega arith;
        stopped = λ past. let z = laid.commit in absurd (omega arith);
        each = λ i u there. subst (Lively m t [] (slice_index ws 16)) (one_view (rooted t) u i there) (record {
          raised = omega arith;
          gained = λ _. omega arith;
          stop = λ some_end. absurd (omega arith);
          still = λ z. absurd (cc z);
          quiet = tt;
          spent = λ z. absurd (omega arith);
        });
      }

  pub opens : Holds {N = N} m t (opening ws slots (rooted t))
  opens = record { history = []; kept = opens_kept; counted = opens_counted m laws t ok.few ws slots slot_count laid; alive = opens_alive }

pub replace_length : {A : Type 0} (p : ℕ) (a : A) (xs : List (ℕ × A)) → length (replace p a xs) ≡ length xs
replace_length p a [] = refl
replace_length p a (x ∷ xs) = elim (p == x.0) as (λ b. length (if b then (p, a) ∷ xs else x ∷ replace p a xs) ≡ suc (length xs)) [
  | true ↦ refl
  | false ↦ ap suc (replace_length p a xs)
]
