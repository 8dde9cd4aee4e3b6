-- The steps on the turn word of a part keep the rule.
use Rattle.std.proofs.Common.{◌≡◌, ◌≢◌, ℕ, ◌+◌, ◌<◌, ◌≤◌, ⊎_elim, eqb, List, [], ◌∷◌, ◌++◌, length, reverse, refl, ap, sym, subst, ◌∙◌, arith, eq-eqb, ne_eqb, get_or-set_same, None, Some, Option}
use Rattle.std.specs.Prelude.{slice_index, slice_set}
use Rattle.std.proofs.Math.ListN.{length-set}
use Rattle.std.proofs.lemmas.List.{set-get_or}
use mathlib.Core.Option as maybe
use mathlib.Core.Option.{some, none}
use mathlib.Core.Logic.{dite}
use native.Mathlib.Decide.{ℕ_discrete}
use prog.Atomic.{either}
use lib.ListN.{get_elem?}
use Rattle.atomic_table.specs.Table.{State, Me, Act, Allows, keeps, takes, gives, Valid, stepped, step, carried_after, rest}
use Rattle.atomic_table.proofs.Lists.{set_here, set_else, set_again}
use Rattle.ocr_turns_rule.specs.Contract.{Loose, Rests, SeenAs}
use Rattle.ocr_turns_rule.specs.Counts.{Counted, IsBegunIn}
use Rattle.ocr_turns_rule.specs.Meaning.{Meaning}
use Rattle.ocr_turns_rule.specs.Rule.{Alive, Fits, Kept, Holds, RunsIn, HomeOf, PartsOf, EmptyAt}
use Rattle.ocr_turns_rule.specs.Steps.{SeesBoth, with_part, takes_part, settles, fetches, gives_back}
use Rattle.ocr_turns_rule.specs.Sums.{total, weigh, one_at, is_free, remove_at}
use Rattle.ocr_turns_rule.specs.declared.view.View.{View}
use Rattle.ocr_turns_rule.specs.declared.view.Terms.{Terms}
use Rattle.ocr_turns_rule.proofs.Bounds.{fits, fits_carried, same_terms, stepped_at}
use Rattle.ocr_turns_rule.proofs.Commits.{elsewhere}
use Rattle.ocr_turns_rule.proofs.Units.{alive_same, ready_same}
use Rattle.ocr_turns_rule.proofs.Numbered.{weigh_remove, at_remove, find_at, find_weighs}
use Rattle.ocr_turns_rule.proofs.Same.{keeps_at, after, ledger_same, numbers_same, roster_same, owed_same, seated_each}
use Rattle.ocr_turns_rule.proofs.Apart.{counted_at, counted_beside}
use Rattle.ocr_turns_rule.proofs.Totals.{total_set, weigh_snoc, at_snoc_at, total_one, total_two, one_here, one_else}

empty_kept : {P : Type 0} (homes homes' : List (maybe.Option (Option P))) (h : Option ℕ) (q : ℕ) → get_elem? homes' q ≡ get_elem? homes q → EmptyAt homes h q → EmptyAt homes' h q
empty_kept homes homes' None q same e = same ∙ e
empty_kept homes homes' (Some r) q same e = λ ne. same ∙ e ne

module _ {G E P N F : Type 0} (mg : Meaning G E P N F) (t : Terms G) where
  module _ (J : List E) (s : State (Option P) (View G E P N F)) (k : Kept mg t J s) (cnt : Counted mg t (reverse J) s) (live : Alive mg t J s) (id : ℕ) (v : View G E P N F) (at : get_elem? s.views id ≡ some v) (p : ℕ) (small : p < length s.homes) (is_out : 0 < v.root + v.seat) where
    -- the turn word of p becomes m, and the slot of p h
    abbrev pub turned : ℕ → List ℕ
    turned n = slice_set s.words (p + 24) n

    abbrev pub moved_to : maybe.Option (Option P) → List (maybe.Option (Option P))
    moved_to h = slice_set s.homes p h

    -- what the change of one place asks of the parts and of the slot that the seat carries
    record Moves (n : ℕ) (ps : List (ℕ × P)) (carried : Option ℕ) (h : maybe.Option (Option P)) : Type 0 where
      else : (q : ℕ) → q ≢ p → weigh (one_at q) ps ≡ weigh (one_at q) v.parts
      here : weigh (one_at p) ps + is_free n ≡ weigh (one_at p) v.parts + is_free (slice_index s.words (p + 24))
      home : n ≡ 0 → HomeOf mg t (moved_to h) J p
      are : v.closed ≡ None → PartsOf (mg.seen t.limit) (mg.part t.setting.value t.limit J) ps
      empty : (q : ℕ) → 1 ≤ weigh (one_at q) ps → EmptyAt (moved_to h) carried q
      mine : 1 ≤ weigh (one_at p) ps + weigh (one_at p) v.parts
      cores : (u : ℕ) → RunsIn mg.starts mg.ends v.log u → 1 ≤ weigh (one_at (mg.core t.limit u)) ps

    -- the seat changes the parts that it keeps, the slot that it carries, the word of p and the slot of p
    moved : (n : ℕ) (ps : List (ℕ × P)) (carried : Option ℕ) (h : maybe.Option (Option P)) → Moves n ps carried h → Kept mg t J (after s (turned n) (moved_to h) id record v { parts = ps; carried = carried })
    moved n ps carried h by =
        let w : View G E P N F = record v { parts = ps; carried = carried } in
        let seat = k.seated id v at in let ws = turned n in let hs = moved_to h in
        let same_homes : length hs ≡ length s.homes = length-set s.homes p h in
        let words = k.places.words in
        let word : slice_index ws (p + 24) ≡ n = (let lt : p + 24 < length s.words = omega arith in get_or-set_same s.words (p + 24) n 0 lt) in
        let other : (q : ℕ) → q ≢ p → slice_index ws (q + 24) ≡ slice_index s.words (q + 24) = λ q ne. elsewhere s.words (p + 24) (q + 24) n (λ z. ne (omega arith)) in
        let kept_by : (q : ℕ) → 1 ≤ weigh (one_at q) ps → q < length s.homes = λ q kept. dite (ℕ_discrete q p) (λ e. omega arith) (λ ne. let a = by.else q ne in (seat.empty q (omega arith)).0) in
        record {
          limits = k.limits;
          share = k.share;
          ledger = ledger_same mg t J s id v w at ws hs k.ledger (elsewhere s.words (p + 24) 0 n (λ z. omega arith)) (λ f. refl) refl refl;
          numbers = numbers_same mg t J s id v w at ws hs k.numbers (elsewhere s.words (p + 24) 8 n (λ z. omega arith)) (λ f. refl) refl refl;
          places = record {
            words = let a = length-set s.words (p + 24) n in omega arith;
            keeper = λ q lt. let to = total_set (keeps_at q) s.views id v w at in let old = k.places.keeper q (omega arith) in
                dite (ℕ_discrete q p)
                (λ e. subst (λ x. total (keeps_at x) (slice_set s.views id w) + is_free (slice_index ws (x + 24)) ≡ 1) (sym e)
                (let to' = total_set (keeps_at p) s.views id v w at in let old' = k.places.keeper p small in let f = ap is_free word in let b = by.here in omega arith))
                (λ ne. let a = by.else q ne in let b = ap is_free (other q ne) in omega arith);
            home = λ q lt free. dite (ℕ_discrete q p)
                (λ e. subst (λ x. HomeOf mg t hs J x) (sym e) (by.home (sym word ∙ (ap (λ x. slice_index ws (x + 24)) (sym e) ∙ free))))
                (λ ne. let h' = k.places.home q (omega arith) (sym (other q ne) ∙ free) in record { item = h'.item; home = set_else s.homes p q h ne ∙ h'.home; is_part = h'.is_part });
          };
          owed = owed_same mg t J s id v w at ws hs k.owed (λ f. refl);
          roster = roster_same mg t J s id v w at ws hs k.roster refl refl refl refl refl;
          seated = seated_each mg t J s id v w at ws hs J
              (record {
                log = seat.log;
                joined = seat.joined;
                rises = seat.rises;
                all_rise = seat.all_rise;
                parts = by.are;
                facts = seat.facts;
                sent = seat.sent;
                own = λ u runs. ((seat.own u runs).0, by.cores u runs);
                weight = seat.weight;
                light = seat.light;
                bounded = seat.bounded;
                filled = seat.filled;
                shut = seat.shut;
                over = seat.over;
                empty = λ q kept. let lt = kept_by q kept in (omega arith, by.empty q kept);
                spent = λ z. absurd (omega arith);
                terms = seat.terms;
                not_root = seat.not_root;
              })
              (λ i u apart u_at. let old = k.seated i u u_at in record {
                log = old.log;
                joined = old.joined;
                rises = old.rises;
                all_rise = old.all_rise;
                parts = old.parts;
                facts = old.facts;
                sent = old.sent;
                own = old.own;
                weight = old.weight;
                light = old.light;
                bounded = old.bounded;
                filled = old.filled;
                shut = old.shut;
                over = old.over;
                empty = λ q kept. let o = old.empty q kept in
                    let ne : q ≢ p = λ e. (let lt : q < length s.homes = o.0 in let one = k.places.keeper q lt in let two = total_two (keeps_at q) s.views i id u v apart u_at at in
                    let e' : is_free (slice_index s.words (p + 24)) ≡ is_free (slice_index s.words (q + 24)) = ap (λ (x : ℕ). is_free (slice_index s.words (x + 24))) (sym e) in
                    let a : weigh (one_at p) v.parts ≡ weigh (one_at q) v.parts = ap (λ (x : ℕ). weigh (one_at x) v.parts) (sym e) in
                    let b = by.here in let d = by.mine in absurd (omega arith)) in
                    let lt = o.0 in (omega arith, empty_kept s.homes hs u.carried q (set_else s.homes p q h ne) o.1);
                spent = old.spent;
                terms = old.terms;
                not_root = old.not_root;
              });
        }

    -- the seat takes no part away
    counted_more : (w : View G E P N F) → w.debts ≡ v.debts → w.claims ≡ v.claims → 0 < w.root + w.seat → ((q : ℕ) → weigh (one_at q) v.parts ≤ weigh (one_at q) w.parts) → ((q : ℕ) → IsBegunIn mg v q → IsBegunIn mg w q) → (n : ℕ) (h : maybe.Option (Option P)) → Counted mg t (reverse J) (after s (turned n) (moved_to h) id w)
    counted_more w debts claims out more begun n h = counted_beside mg t (reverse J) s cnt id v w at debts claims out more begun (p + 24) n (moved_to h) (omega arith) (length-set s.homes p h)

    -- and the live word stays
    alive_more : (ps : List (ℕ × P)) (o : Option ℕ) (n : ℕ) (h : maybe.Option (Option P)) → Alive mg t J (after s (turned n) (moved_to h) id record v { parts = ps; carried = o })
    alive_more ps o n h = alive_same mg t J s live id v record v { parts = ps; carried = o } at (refl, refl) refl (omega arith) (refl, refl) (refl, refl, refl) is_out (turned n) (moved_to h) (length-set s.homes p h)
        (elsewhere s.words (p + 24) 16 n (λ z. omega arith))
        (λ past. let same = elsewhere s.words (p + 24) 0 n (λ z. omega arith) in omega arith)
        (let same = ready_same s.words (turned n) (length s.homes) t.limit (λ i beyond. elsewhere s.words (p + 24) i n (λ z. absurd (omega arith))) in omega arith)

    -- the part of a kept place is with the seat, not at home
    busy : 1 ≤ weigh (one_at p) v.parts → is_free (slice_index s.words (p + 24)) ≡ 0
    busy kept = let one = total_one (keeps_at p) s.views id v at in let old = k.places.keeper p small in omega arith

    not_free : 1 ≤ weigh (one_at p) v.parts → slice_index s.words (p + 24) ≡ 0 → ⊥
    not_free kept z = let f : is_free (slice_index s.words (p + 24)) ≡ 1 = ap is_free z in let b = busy kept in absurd (omega arith)

    -- the slot of each kept place is empty, but for that of p
    others_empty : (h : maybe.Option (Option P)) → v.carried ≡ None → (q : ℕ) → q ≢ p → 1 ≤ weigh (one_at q) v.parts → get_elem? (moved_to h) q ≡ some (some None)
    others_empty h hand q ne kept = set_else s.homes p q h ne ∙ subst (λ o. EmptyAt s.homes o q) hand ((k.seated id v at).empty q kept).1

    abbrev pub tried : ℕ → ℕ
    tried n = either (eqb n 0) 1 n

    abbrev pub TakeGoal : Type 0
    TakeGoal = (w : View G E P N F) × ((a : Act (Option P)) × (Valid s.homes [] a × (Holds mg t (stepped s (p + 24) (tried (slice_index s.words (p + 24))) id [] w a) × takes_part mg (step (length s.homes) (p + 24) 0 1 none) (v, []) (slice_index s.words (p + 24)) (w, carried_after [] a))))

    module _ (hand : v.carried ≡ None) (free : slice_index s.words (p + 24) ≡ 0) where
      abbrev pub there : HomeOf mg t s.homes J p
      there = k.places.home p small free

      abbrev pub taken : View G E P N F
      taken = record v { parts = v.parts ++ (p, there.item) ∷ []; carried = Some p }

      takes_moves : Moves 1 (v.parts ++ (p, there.item) ∷ []) (Some p) none
      takes_moves =
          let seat = k.seated id v at in let x = there.item in
          let f : is_free (slice_index s.words (p + 24)) ≡ 1 = ap is_free free in
          let none_kept : weigh (one_at p) v.parts ≡ 0 = (let one = total_one (keeps_at p) s.views id v at in let old = k.places.keeper p small in omega arith) in
          let one : weigh (one_at p) (v.parts ++ (p, x) ∷ []) ≡ 1 = (let a = weigh_snoc (one_at p) v.parts p x in let b = one_here p in omega arith) in
          let more : (q : ℕ) → q ≢ p → weigh (one_at q) (v.parts ++ (p, x) ∷ []) ≡ weigh (one_at q) v.parts = λ q ne. (let a = weigh_snoc (one_at q) v.parts p x in let b = one_else q p ne in omega arith) in
          record {
            else = more;
            here = omega arith;
            home = λ h. absurd (omega arith);
            are = λ o j q y at'. ⊎_elim (λ h. seat.parts o j q y h.1) (λ h. ap (λ (z : ℕ × P). mg.part t.setting.value t.limit J z.0) (sym h.1) ∙ (there.is_part ∙ ap (λ (z : ℕ × P). mg.seen t.limit z.0 z.1) h.1)) (at_snoc_at v.parts (p, x) (q, y) j at');
            empty = λ q kept ne. let a = more q ne in others_empty none hand q ne (omega arith);
            mine = omega arith;
            cores = λ u runs. let o = (seat.own u runs).1 in dite (ℕ_discrete (mg.core t.limit u) p) (λ e. let w1 = ap (λ (z : ℕ). weigh (one_at z) (v.parts ++ (p, x) ∷ [])) e in omega arith) (λ ne. let a = more (mg.core t.limit u) ne in omega arith);
          }

      took_one : Kept mg t J (after s (turned 1) (moved_to none) id taken)
      took_one = moved 1 (v.parts ++ (p, there.item) ∷ []) (Some p) none takes_moves

      took_counted : Counted mg t (reverse J) (after s (turned 1) (moved_to none) id taken)
      took_counted = counted_more taken refl refl is_out (λ q. let a = weigh_snoc (one_at q) v.parts p there.item in omega arith) (λ q b. b) 1 none

      -- the history fits the view before and after
      sees_taken : SeesBoth mg v taken
      sees_taken t' terms unclosed = subst (λ q. (K : List E) × Fits mg q K v × Fits mg q K taken) (same_terms t t' (sym ((k.seated id v at).terms is_out) ∙ terms))
          (J, fits mg t J s k id v at cnt unclosed, fits mg t J (after s (turned 1) (moved_to none) id taken) took_one id taken (stepped_at s.views id v taken at) took_counted unclosed)

      can_take_free : TakeGoal
      can_take_free =
          let is : tried (slice_index s.words (p + 24)) ≡ 1 = ap (λ b. either b 1 (slice_index s.words (p + 24))) (eq-eqb _ _ free) in (
            taken,
            (
              takes p (Some there.item),
              (
                there.home,
                (
                  record { history = J; kept = subst (λ (m : ℕ). Kept mg t J (after s (turned m) (moved_to none) id taken)) (sym is) took_one; counted = subst (λ (m : ℕ). Counted mg t (reverse J) (after s (turned m) (moved_to none) id taken)) (sym is) took_counted; alive = alive_more taken.parts taken.carried (tried (slice_index s.words (p + 24))) none },
                  ((λ _. (p, there.item, refl, refl, refl, sees_taken)), (λ ne. absurd (ne free))),
                ),
              ),
            ),
          )

    pub can_take : v.carried ≡ None → TakeGoal
    can_take hand = dite (ℕ_discrete (slice_index s.words (p + 24)) 0) (can_take_free hand)
        (λ ne.
        let is : tried (slice_index s.words (p + 24)) ≡ slice_index s.words (p + 24) = ap (λ b. either b 1 (slice_index s.words (p + 24))) (ne_eqb _ _ ne) in
        let ws : slice_set s.words (p + 24) (tried (slice_index s.words (p + 24))) ≡ s.words = ap (λ x. slice_set s.words (p + 24) x) is ∙ set-get_or s.words (p + 24) 0 in
        let vs : slice_set s.views id v ≡ s.views = set_again s.views id v at in
        (v, (keeps, (tt, (record { history = J; kept = subst (Kept mg t J) (λ i. record { words = sym ws i; homes = s.homes; views = sym vs i }) k; counted = subst (Counted mg t (reverse J)) (λ i. record { words = sym ws i; homes = s.homes; views = sym vs i }) cnt; alive = subst (Alive mg t J) (λ i. record { words = sym ws i; homes = s.homes; views = sym vs i }) live }, ((λ z. absurd (ne z)), (λ _. refl)))))))

    -- the carried slot goes home, empty
    abbrev pub SettleGoal : List (ℕ × Option P) → Type 0
    SettleGoal c = (w : View G E P N F) × ((a : Act (Option P)) × (Valid s.homes c a × (Holds mg t (stepped s (p + 24) (slice_index s.words (p + 24)) id c w a) × settles (v, c) (w, carried_after c a))))

    pub can_settle : (c : List (ℕ × Option P)) → c ≡ (p, None) ∷ [] → v.carried ≡ Some p → 1 ≤ weigh (one_at p) v.parts → SettleGoal c
    can_settle c is hand kept = subst SettleGoal (sym is)
        (let seat = k.seated id v at in (
          record v { carried = None },
          (
            gives,
            (
              tt,
              (
                record {
                  history = J;
                  kept = moved (slice_index s.words (p + 24)) v.parts None (some None) record {
                    else = λ q ne. refl;
                    here = refl;
                    home = λ z. absurd (not_free kept z);
                    are = seat.parts;
                    empty = λ q some_kept. dite (ℕ_discrete q p)
                        (λ e. subst (λ x. get_elem? (moved_to (some None)) x ≡ some (some None)) (sym e) (set_here s.homes p (some None) small))
                        (λ ne. set_else s.homes p q (some None) ne ∙ subst (λ h. EmptyAt s.homes h q) hand (seat.empty q some_kept).1 ne);
                    mine = omega arith;
                    cores = λ u runs. (seat.own u runs).1;
                  };
                  counted = counted_more record v { carried = None } refl refl is_out (λ q. omega arith) (λ q b. b) (slice_index s.words (p + 24)) (some None);
                  alive = alive_more v.parts None (slice_index s.words (p + 24)) (some None);
                },
                (refl, refl),
              ),
            ),
          ),
        ))

    -- the empty slot of a kept part is carried
    abbrev pub FetchGoal : Type 0
    FetchGoal = (w : View G E P N F) × ((a : Act (Option P)) × (Valid s.homes [] a × (Holds mg t (stepped s (p + 24) (slice_index s.words (p + 24)) id [] w a) × fetches (step (length s.homes) (p + 24) 0 0 none) (v, []) (w, carried_after [] a))))

    pub can_fetch : v.carried ≡ None → 1 ≤ weigh (one_at p) v.parts → FetchGoal
    can_fetch hand kept =
        let seat = k.seated id v at in
        let at_home : EmptyAt s.homes None p = subst (λ h. EmptyAt s.homes h p) hand (seat.empty p kept).1 in (
          record v { carried = Some p },
          (
            takes p None,
            (
              at_home,
              (
                record {
                  history = J;
                  kept = moved (slice_index s.words (p + 24)) v.parts (Some p) none record {
                    else = λ q ne. refl;
                    here = refl;
                    home = λ z. absurd (not_free kept z);
                    are = seat.parts;
                    empty = λ q some_kept ne. others_empty none hand q ne some_kept;
                    mine = omega arith;
                    cores = λ u runs. (seat.own u runs).1;
                  };
                  counted = counted_more record v { carried = Some p } refl refl is_out (λ q. omega arith) (λ q b. b) (slice_index s.words (p + 24)) none;
                  alive = alive_more v.parts (Some p) (slice_index s.words (p + 24)) none;
                },
                (p, refl, refl, refl),
              ),
            ),
          ),
        )

    -- the part goes home
    abbrev pub ReturnGoal : List (ℕ × Option P) → Type 0
    ReturnGoal c = (w : View G E P N F) × ((a : Act (Option P)) × (Valid s.homes c a × (Holds mg t (stepped s (p + 24) 0 id c w a) × gives_back (step (length s.homes) (p + 24) 0 0 none) (v, c) (w, carried_after c a))))

    pub can_return : (c : List (ℕ × Option P)) (x : P) → c ≡ (p, Some x) ∷ [] → SeenAs mg t v p x → v.carried ≡ Some p → v.closed ≡ None → Rests mg t v p → Loose mg t v p → ReturnGoal c
    can_return c x is like hand was_open rests loose = subst ReturnGoal (sym is)
        (let seat = k.seated id v at in
        let kept = find_weighs p v.parts like.kept like.keeps in let stood = find_at p v.parts like.kept like.keeps in
        let less : (q : ℕ) → weigh (one_at q) (remove_at p v.parts) + one_at q p ≡ weigh (one_at q) v.parts = λ q. weigh_remove (one_at q) p v.parts kept in
        let one = one_here p in let free = busy kept in
        let gone : weigh (one_at p) (remove_at p v.parts) ≡ 0 = (let a = less p in let b = total_one (keeps_at p) s.views id v at in let old = k.places.keeper p small in omega arith) in
        let else : (q : ℕ) → q ≢ p → weigh (one_at q) (remove_at p v.parts) ≡ weigh (one_at q) v.parts = λ q ne. (let a = less q in let b = one_else q p ne in omega arith) in (
          record v { parts = remove_at p v.parts; carried = None },
          (
            gives,
            (
              tt,
              (
                record {
                  history = J;
                  kept = moved 0 (remove_at p v.parts) None (some (Some x)) record {
                    else = else;
                    here = let a = less p in omega arith;
                    home = λ _. record { item = x; home = set_here s.homes p (some (Some x)) small; is_part = seat.parts was_open stood.0 p like.kept stood.1 ∙ sym like.alike };
                    are = λ o j q y there. let r = at_remove p v.parts j q y there in seat.parts o r.0 q y r.1;
                    empty = λ q some_kept. let a = less q in
                        let ne : q ≢ p = λ e. (let z = ap (λ (y : ℕ). weigh (one_at y) (remove_at p v.parts)) e in absurd (omega arith)) in
                        set_else s.homes p q (some (Some x)) ne ∙ subst (λ h. EmptyAt s.homes h q) hand (seat.empty q (omega arith)).1 ne;
                    mine = omega arith;
                    cores = λ u runs. let o = (seat.own u runs).1 in let e = else (mg.core t.limit u) (rests u runs) in omega arith;
                  };
                  counted = counted_at mg t (reverse J) s cnt id v record v { parts = remove_at p v.parts; carried = None } at refl refl is_out
                      (λ n q has is. let ne : q ≢ p = λ e. loose J (fits mg t J s k id v at cnt was_open) n has (is ∙ ap Some e) in let held = (cnt.seated id v at).tied n q has is in let a = else q ne in omega arith) (λ q b. b)
                      (p + 24) 0 (moved_to (some (Some x))) (omega arith) (length-set s.homes p (some (Some x)));
                  alive = alive_more (remove_at p v.parts) None 0 (some (Some x));
                },
                (p, refl, refl, refl),
              ),
            ),
          ),
        ))

  module _ (slots id : ℕ) (me : Me (Option P) (View G E P N F)) (p : ℕ) (lt : p < slots) (is_out : 0 < me.0.root + me.0.seat) where
    pub allows_take : me.1 ≡ [] → me.0.carried ≡ None → Allows (Holds mg t) slots id me (p + 24) (λ n. either (eqb n 0) 1 n) (takes_part mg (step slots (p + 24) 0 1 none) me)
    allows_take bare hand = subst (λ c. Allows (Holds mg t) slots id (me.0, c) (p + 24) (λ n. either (eqb n 0) 1 n) (takes_part mg (step slots (p + 24) 0 1 none) (me.0, c))) (sym bare)
        (λ s k len at _.
        let small : p < length s.homes = omega arith in
        let r = can_take k.history s k.kept k.counted k.alive id me.0 at p small is_out hand in
        (r.0, r.1.0, r.1.1.0, r.1.1.1.0, r.1.1.1.1))

    pub allows_settle : me.1 ≡ (p, None) ∷ [] → me.0.carried ≡ Some p → 1 ≤ weigh (one_at p) me.0.parts → Allows (Holds mg t) slots id me (p + 24) (λ n. n) (λ n w. settles me w)
    allows_settle has hand kept = λ s k len at _.
        let small : p < length s.homes = omega arith in
        let r = can_settle k.history s k.kept k.counted k.alive id me.0 at p small is_out me.1 has hand kept in
        (r.0, r.1.0, r.1.1.0, r.1.1.1.0, r.1.1.1.1)

    pub allows_fetch : me.1 ≡ [] → me.0.carried ≡ None → 1 ≤ weigh (one_at p) me.0.parts → Allows (Holds mg t) slots id me (p + 24) (λ n. n) (λ n w. fetches (step slots (p + 24) 0 0 none) me w)
    allows_fetch bare hand kept = subst (λ c. Allows (Holds mg t) slots id (me.0, c) (p + 24) (λ n. n) (λ n w. fetches (step slots (p + 24) 0 0 none) (me.0, c) w)) (sym bare)
        (λ s k len at _.
        let small : p < length s.homes = omega arith in
        let r = can_fetch k.history s k.kept k.counted k.alive id me.0 at p small is_out hand kept in
        (r.0, r.1.0, r.1.1.0, r.1.1.1.0, r.1.1.1.1))

    pub allows_return : (x : P) → me.1 ≡ (p, Some x) ∷ [] → SeenAs mg t me.0 p x → me.0.carried ≡ Some p → me.0.closed ≡ None → Rests mg t me.0 p → Loose mg t me.0 p
        → Allows (Holds mg t) slots id me (p + 24) (λ _. 0) (λ _ w. gives_back (step slots (p + 24) 0 0 none) me w)
    allows_return x has like hand was_open rests loose = λ s k len at _.
        let small : p < length s.homes = omega arith in
        let r = can_return k.history s k.kept k.counted k.alive id me.0 at p small is_out me.1 x has like hand was_open rests loose in
        (r.0, r.1.0, r.1.1.0, r.1.1.1.0, r.1.1.1.1)

-- what is kept after a part was put behind the others
pub kept_last : {P : Type 0} (ps : List (ℕ × P)) (p : ℕ) (x : P) → 1 ≤ weigh (one_at p) (ps ++ (p, x) ∷ [])
kept_last ps p x = let a = weigh_snoc (one_at p) ps p x in let b = one_here p in omega arith

module _ {G E P N F : Type 0} where
  abbrev pub Took : Meaning G E P N F → ℕ → Me (Option P) (View G E P N F) → Me (Option P) (View G E P N F) → Type 0
  Took mg p me w = (x : P) × (w.0 ≡ record me.0 { parts = me.0.parts ++ (p, x) ∷ []; carried = Some p }) × (w.1 ≡ (p, Some x) ∷ []) × SeesBoth mg me.0 w.0

  pub took : (mg : Meaning G E P N F) (slots p : ℕ) (me w : Me (Option P) (View G E P N F)) (n : ℕ) → takes_part mg (step slots (p + 24) 0 1 none) me n w → n ≡ 0 → me.1 ≡ [] → Took mg p me w
  took mg slots p me w n tells found bare =
      let r = tells.0 found in let e : r.0 ≡ p = omega (arith, r.2) in
      (r.1, subst (λ q. w.0 ≡ record me.0 { parts = me.0.parts ++ (q, r.1) ∷ []; carried = Some q }) e r.3, subst (λ q. w.1 ≡ (q, Some r.1) ∷ []) e (r.4 ∙ ap (λ c. (r.0, Some r.1) ∷ c) bare), r.5)

  -- once its empty slot has gone home, the seat has the part and carries nothing
  pub taken_home : (mg : Meaning G E P N F) (p : ℕ) (me w z l : Me (Option P) (View G E P N F)) (held : Option P) (x : P) → me.0.carried ≡ None → Took mg p me w
      → w.1 ≡ (p, held) ∷ rest w.1 → z ≡ (w.0, (p, None) ∷ rest w.1) → settles z l → held ≡ Some x → (l ≡ (with_part me.0 p x, [])) × SeesBoth mg me.0 l.0
  taken_home mg p me w z l held x hand took swapped emptied settled is =
      let same : x ≡ took.0 = (let e : Some x ≡ Some took.0 = sym is ∙ ap first_of (sym swapped ∙ took.2) in cc e) in
      let home : l.0 ≡ record w.0 { carried = None } = settled.0 ∙ ap (λ (y : Me (Option P) (View G E P N F)). record y.0 { carried = None }) emptied in
      let view : l.0 ≡ with_part me.0 p x = home ∙ (ap (λ (v : View G E P N F). record v { carried = None }) took.1 ∙ (λ i. record me.0 { parts = me.0.parts ++ (p, sym same i) ∷ []; carried = sym hand i })) in
      let hands : l.1 ≡ [] = settled.1 ∙ (ap (λ (y : Me (Option P) (View G E P N F)). rest y.1) emptied ∙ ap rest took.2) in (
        (λ i. (view i, hands i)),
        λ t terms unclosed.
            let s = took.3 t (sym (ap (λ (v : View G E P N F). v.terms) home) ∙ terms) (sym (ap (λ (v : View G E P N F). v.closed) home) ∙ unclosed) in
            (s.0, s.1, subst (λ (v : View G E P N F). Fits mg t s.0 v) (sym home) (fits_carried mg t s.0 w.0 w.0.carried None s.2)),
      )
    where
      first_of : List (ℕ × Option P) → Option P
      first_of [] = None
      first_of (y ∷ ys) = y.1

  pub fetched : (slots p : ℕ) (me w : Me (Option P) (View G E P N F)) → fetches (step slots (p + 24) 0 0 none) me w → me.1 ≡ [] → (w.0 ≡ record me.0 { carried = Some p }) × (w.1 ≡ (p, None) ∷ [])
  fetched slots p me w tells bare =
      let e : tells.0 ≡ p = omega (arith, tells.1) in
      (subst (λ q. w.0 ≡ record me.0 { carried = Some q }) e tells.2, subst (λ q. w.1 ≡ (q, None) ∷ []) e (tells.3 ∙ ap (λ c. (tells.0, None) ∷ c) bare))

  pub returned : (slots p : ℕ) (me w : Me (Option P) (View G E P N F)) → gives_back (step slots (p + 24) 0 0 none) me w → (w.0 ≡ record me.0 { carried = None; parts = remove_at p me.0.parts }) × (w.1 ≡ rest me.1)
  returned slots p me w tells =
      let e : tells.0 ≡ p = omega (arith, tells.1) in
      (subst (λ q. w.0 ≡ record me.0 { carried = None; parts = remove_at q me.0.parts }) e tells.2, tells.3)
