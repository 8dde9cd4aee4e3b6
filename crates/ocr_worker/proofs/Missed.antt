-- A round of steals that get nothing.
use Rattle.std.proofs.Common.{inr, ◌≡◌, ◌≢◌, ℕ, ◌+◌, ◌-◌, ◌^◌, ◌<◌, ◌==◌, nat_lt, min, Bool, true, false, List, [], ◌∷◌, length, get_or, set, refl, sym, ◌∙◌, ap, subst, arith}
use Rattle.std.specs.List.{slice_index_or}
use Rattle.std.proofs.lemmas.Grind.{common_steps}
use Rattle.std.proofs.lemmas.Bool.{eqb-true, eqb-false}
use Rattle.std.proofs.lemmas.List.{get_or-set_same, get_or-set_other}
use Rattle.ocr_steal.specs.declared.account.Account.{Account}
use Rattle.ocr_steal.specs.declared.hand.Hand.{Hand}
use Rattle.ocr_steal.specs.declared.pool.Pool.{Pool}
use Rattle.ocr_steal.specs.Deque.{IsFound, TakesFirst, newcomer}
use Rattle.ocr_steal.specs.Hand.{Gets, IsMissed, IsSame, known, knows, missed, misses_of, own}
use Rattle.ocr_steal.specs.Pool.{IsOfPool, hands_in}
use Rattle.ocr_steal.proofs.Passes.{same_length}
use Rattle.ocr_worker.specs.Steal.{HasGot, HasGotNone, HasMissedMore}

pub of_pool : (pool : Pool) (a b : Hand) → IsSame a b → IsOfPool pool a → IsOfPool pool b
of_pool pool a b same is = same.pool ∙ is

-- a hand counts the steals from each hand of its pool
pub long_misses : (pool : Pool) (h : Hand) → IsOfPool pool h → length (misses_of h) ≡ hands_in pool
long_misses pool h is = h.counted.long ∙ same_length h.passes.items pool.stealers.items is

abbrev pub more : Bool → ℕ → ℕ
more true m = min (m + 1) (2 ^ 64 - 1)
more false m = m

-- the steals from the hands below this one got nothing
abbrev pub MissedBelow : ℕ → Hand → Hand → ℕ → Type 0
MissedBelow hands old now bound = (v : ℕ) → v < hands → v ≢ old.number → missed now v ≡ more (nat_lt v bound) (missed old v)

not_below : (v : ℕ) → nat_lt v 0 ≡ false
not_below v = grind (arith, common_steps)

pub missed_first : (hands : ℕ) (h : Hand) → MissedBelow hands h h 0
missed_first hands h v lt other = ap (λ (b : Bool). more b (missed h v)) (sym (not_below v))

same_below : (v bound : ℕ) → v ≢ bound → nat_lt v (bound + 1) ≡ nat_lt v bound
same_below v bound apart = grind (arith, common_steps)

now_below : (v : ℕ) → nat_lt v (v + 1) ≡ true
now_below v = grind (arith, common_steps)

not_itself : (v : ℕ) → nat_lt v v ≡ false
not_itself v = grind (arith, common_steps)

pub missed_skip : (hands bound : ℕ) (old now : Hand) → bound ≡ old.number → MissedBelow hands old now bound → MissedBelow hands old now (bound + 1)
missed_skip hands bound old now is was v lt other =
    was v lt other ∙ ap (λ (b : Bool). more b (missed old v)) (sym (same_below v bound (λ same. other (same ∙ is))))

pub missed_next : (hands bound : ℕ) (old now next : Hand) → bound < length (misses_of now) → IsMissed now next bound → MissedBelow hands old now bound → MissedBelow hands old next (bound + 1)
missed_next hands bound old now next within one was v lt other = elim (v == bound) as (λ b. (v == bound) ≡ b → missed next v ≡ more (nat_lt v (bound + 1)) (missed old v)) [
  | true ↦ λ same.
      let is : v ≡ bound = eqb-true v bound same in
      let x : ℕ = min (missed now bound + 1) (2 ^ 64 - 1) in
      let here : missed next bound ≡ x = ap (λ (l : List ℕ). get_or l bound 0) one ∙ get_or-set_same (misses_of now) bound x 0 within in
      let before : missed now bound ≡ missed old bound = was bound (subst (λ (k : ℕ). k < hands) is lt) (subst (λ (k : ℕ). k ≢ old.number) is other) ∙ ap (λ (b : Bool). more b (missed old bound)) (not_itself bound) in
      let now_is : more (nat_lt bound (bound + 1)) (missed old bound) ≡ min (missed old bound + 1) (2 ^ 64 - 1) = ap (λ (b : Bool). more b (missed old bound)) (now_below bound) in
      subst (λ (k : ℕ). missed next k ≡ more (nat_lt k (bound + 1)) (missed old k)) (sym is)
      (here ∙ (ap (λ (k : ℕ). min (k + 1) (2 ^ 64 - 1)) before ∙ sym now_is))
  | false ↦ λ apart.
      let differ : v ≢ bound = eqb-false v bound apart in
      ap (λ (l : List ℕ). get_or l v 0) one ∙ (get_or-set_other (misses_of now) bound v _ 0 differ ∙ (was v lt other ∙ ap (λ (b : Bool). more b (missed old v)) (sym (same_below v bound differ))))
] refl

all_below : (v bound : ℕ) → v < bound → nat_lt v bound ≡ true
all_below v bound lt = grind (arith, common_steps)

pub missed_all : (hands : ℕ) (old now : Hand) → MissedBelow hands old now hands → HasMissedMore hands old now
missed_all hands old now all v lt other = all v lt other ∙ ap (λ (b : Bool). more b (missed old v)) (all_below v hands lt)

-- WHAT A LATER STEAL GOT
pub gets_from : (a b new : Hand) (victim edt : ℕ) → knows b ≡ knows a → Gets b new victim edt → Gets a new victim edt
gets_from a b new victim edt same gets = record {
  port = gets.port;
  first = subst (λ (ks : List Account). TakesFirst gets.port (slice_index_or ks victim (newcomer 0)) (edt ∷ []) (known new victim)) same gets.first;
  others = gets.others ∙ ap (λ (ks : List Account). set ks victim (known new victim)) same;
  misses = gets.misses;
}

-- A HAND that took nothing from its own deque, and then tried each other hand
pub found_none : (pool : Pool) (old mid new : Hand) → IsSame old mid × (knows mid ≡ knows old) → IsFound 0 [] (own old) × (own mid ≡ own old) × (misses_of mid ≡ misses_of old) → own new ≡ own mid → (knows new ≡ knows mid) × HasMissedMore (hands_in pool) mid new → HasGotNone pool old new
found_none pool old mid new same took own_kept stole = record {
  own_empty = took.0;
  own_same = own_kept ∙ took.1;
  knows_same = stole.0 ∙ same.1;
  missed_all = λ v lt other. stole.1 v lt (λ is. other (is ∙ same.0.number)) ∙ ap (λ (l : List ℕ). min (get_or l v 0 + 1) (2 ^ 64 - 1)) took.2;
}

pub found_stolen : (pool : Pool) (old mid new : Hand) (edt : ℕ) → IsSame old mid × (knows mid ≡ knows old) → own mid ≡ own old → own new ≡ own mid → (victim : ℕ) × (victim < hands_in pool) × (victim ≢ mid.number) × Gets mid new victim edt → HasGot pool old new edt
found_stolen pool old mid new edt same took own_kept stole = inr (record {
  own_same = own_kept ∙ took;
  victim = stole.0;
  of_pool = stole.1;
  other = λ is. stole.2 (is ∙ sym same.0.number);
  gets = gets_from old mid new stole.0 edt same.1 stole.3;
})
