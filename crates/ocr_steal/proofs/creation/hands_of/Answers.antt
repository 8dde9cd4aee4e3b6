use Rattle.std.proofs.Common.{◌≡◌, ◌∙◌, ◌<◌, ◌-◌, ◌++◌, ℕ, List, [], ◌∷◌, All, get_or, length, refl, replicate, sym, subst, ap, arith, vec_len}
use Rattle.std.proofs.lemmas.List.{get_or-reverse, length-reverse}
use Rattle.std.proofs.lemmas.List.Elements.{All-replicate}
use Rattle.ocr_steal.specs.declared.hand.Hand.{Hand}
use Rattle.ocr_steal.specs.Parts.{IsNewOwner, IsNewRow, deques_of_owners}
use Rattle.ocr_steal.specs.Pool.{IsFresh}
use Rattle.ocr_steal.proofs.Owners.{all_front, all_last, all_middle, cut_last, each_push, new_hand, news}
use Rattle.ocr_steal.proofs.creation.hands_of.Goals as goal

no_misses : (ms : List ℕ) (n : ℕ) → ms ≡ replicate n 0 → All (λ m. m ≡ 0) ms
no_misses ms n is = subst (All (λ m. m ≡ 0)) (sym is) (All-replicate (λ m. m ≡ 0) n 0 refl)

pub invariant_of-push : goal.invariant_of-push
invariant_of-push c =
    let all = c.args.owners.items in
    let left = c.pop.new.self.items in
    let own = c.in-Some.own in
    let ps = c.in-Some-pop.passes.items in
    let l = c.loop-own in
    let is = cut_last all l.owners.items l.invariant.gone left own l.invariant.owners c.in-Some.ensures.items in
    let row : IsNewRow (deques_of_owners all) ps = all_last (λ row. IsNewRow (deques_of_owners all) row.items) c.pop-in-Some.new.self.items c.in-Some-pop.passes
    (subst (λ rs. All (λ row. IsNewRow (deques_of_owners all) row.items) rs) c.in-Some-pop.ensures.items l.invariant.rows) in
    record {
      owns = new_hand (vec_len c.args.owners) c.len-in-Some.result own all left l.invariant.gone ps c.requires.many.1 (omega (arith, c.args.owners.ok.0)) is (omega (arith, c.len-in-Some.ensures, c.pop.new.self.ok.0)) c.requires.owners row;
      passes_are = λ k d lt. (row.passes k d lt).pass;
      counted = record {
        long = omega (arith, c.in_ok-misses.ensures.len, c.len.ensures, c.in_ok-misses.misses.ok.0, c.in-Some-pop.passes.ok.0);
        none = λ _. no_misses c.in_ok-misses.misses.items (vec_len c.in-Some-pop.passes) (c.in_ok-misses.ensures.items_if_clones_equal (λ y e. e) ∙ ap (λ n. replicate n 0) c.len.ensures);
      };
    }

pub loop-own-preserved : goal.loop-own-preserved
loop-own-preserved c =
    let all = c.args.owners.items in
    let left = c.pop.new.self.items in
    let own = c.in-Some.own in
    let l = c.loop-own in
    let ps = c.in-Some-pop.passes.items in
    let names = deques_of_owners all in
    let is = cut_last all l.owners.items l.invariant.gone left own l.invariant.owners c.in-Some.ensures.items in
    let rows : All (λ row. IsNewRow names row.items) (c.pop-in-Some.new.self.items ++ c.in-Some-pop.passes ∷ []) =
    subst (λ rs. All (λ row. IsNewRow names row.items) rs) c.in-Some-pop.ensures.items l.invariant.rows in
    let row : IsNewRow names ps = all_last (λ row. IsNewRow names row.items) c.pop-in-Some.new.self.items c.in-Some-pop.passes rows in
    record {
      gone = own ∷ l.invariant.gone;
      owners = is;
      rows_many = omega (arith, c.in-Some.ensures.cases, c.in-Some-pop.ensures.cases, l.invariant.rows_many);
      rows = all_front (λ row. IsNewRow names row.items) c.pop-in-Some.new.self.items (c.in-Some-pop.passes ∷ []) rows;
      many = omega (arith, c.in_ok-push.ensures.len, c.in-Some.ensures.cases, l.invariant.many);
      hands = λ least every. let owner = all_middle (IsNewOwner (vec_len c.args.owners) least) all left l.invariant.gone own is every in
          subst (λ hs. (k : ℕ) (d : Hand) → k < length hs → IsFresh names least (vec_len c.args.owners - 1 - k) (get_or hs k d)) (sym c.in_ok-push.ensures.items)
          (each_push (λ k h. IsFresh names least (vec_len c.args.owners - 1 - k) h) l.hands.items _ (l.invariant.hands least every) (record {
            number_is = omega (arith, c.len-in-Some.ensures, c.in-Some.ensures.cases, l.invariant.many, l.hands.ok.0);
            pool_is = row.deques;
            own_is = record { pushed = owner.pushed; taken = owner.taken };
            knows_nothing = news ps row.passes;
            room_is = owner.room;
            misses = no_misses c.in_ok-misses.misses.items (vec_len c.in-Some-pop.passes) (c.in_ok-misses.ensures.items_if_clones_equal (λ y e. e) ∙ ap (λ n. replicate n 0) c.len.ensures);
          }));
    }

pub returns-clause-hands : goal.returns-clause-hands
returns-clause-hands c least every k d lt =
    let n = vec_len c.args.owners in
    let hs = c.loop-own.hands.items in
    let names = deques_of_owners c.args.owners.items in
    let full : length hs ≡ n = omega (arith, c.in_default.ensures.cases, c.loop-own.invariant.many, c.loop-own.hands.ok.0) in
    let within : k < length hs = omega (arith, lt, ap (λ (l : List Hand). length l) c.reverse.ensures.items, length-reverse hs) in
    let h = c.loop-own.invariant.hands least every (length hs - 1 - k) d (omega (arith, within)) in
    subst (λ l. IsFresh names least k (get_or l k d)) (sym c.reverse.ensures.items)
    (subst (λ x. IsFresh names least k x) (sym (get_or-reverse hs k d within))
    (subst (λ m. IsFresh names least m (get_or hs (length hs - 1 - k) d)) (omega (arith, within, full)) h))
