-- Numbers that nothing has yet, counted from the greatest down.
use Rattle.std.proofs.Common.{◌≡◌, ◌≤◌, ◌<◌, ◌+◌, ◌-◌, ◌⊎◌, inl, inr, ℕ, zero, suc, Bool, true, false, refl, ap, subst, arith}
use Rattle.ocr_machine_history.specs.History.{History, Setting}
use Rattle.ocr_machine_parts.specs.Parts.{Parts, parts_of}
use Rattle.ocr_machine_parts.specs.LegalOn.{IsFresh}
use Rattle.ocr_machine_state.specs.State.{state_in, IsStateOf}
use Rattle.ocr_machine_state.specs.declared.state.State.{State}
use Rattle.ocr_replay_legality.specs.Tests.{Whether}
use Rattle.ocr_replay_legality.specs.Asked.{HasRoomAbove, IsRoom}

-- FEWER of them, or from a lesser number on
fewer : (limit : ℕ) (f : Parts) (n : ℕ) (room count : ℕ) → count ≤ room → HasRoomAbove limit f n room → HasRoomAbove limit f n count
fewer limit f n room zero le has = tt
fewer limit f n zero (suc count) le has = absurd (omega (arith, le))
fewer limit f n (suc room) (suc count) le has = (has.0, has.1, has.2, fewer limit f has.0 room count (omega (arith, le)) has.3)

lower : (limit : ℕ) (f : Parts) (m n count : ℕ) → m ≤ n → HasRoomAbove limit f n count → HasRoomAbove limit f m count
lower limit f m n zero le has = tt
lower limit f m n (suc count) le has = (has.0, (let above = has.1 in omega (arith, le, above)), has.2, has.3)

-- so many stand above this number, and no more
pub record IsCounted (limit : ℕ) (f : Parts) (n room : ℕ) : Type 0 where
  pub there : HasRoomAbove limit f n room
  pub most : (count : ℕ) → HasRoomAbove limit f n count → count ≤ room
  pub small : room + n ≤ limit

none_above : (limit : ℕ) (f : Parts) (count : ℕ) → HasRoomAbove limit f limit count → count ≤ 0
none_above limit f zero has = omega arith
none_above limit f (suc count) has = absurd (let above = has.1 in let within = has.2.within in omega (arith, above, within))

pub counted_first : (limit : ℕ) (f : Parts) → IsCounted limit f limit 0
counted_first limit f = record { there = tt; most = none_above limit f; small = omega arith }

pub same_or_above : (n g : ℕ) → n ≤ g → (g ≡ n) ⊎ (n < g)
same_or_above zero zero le = inl refl
same_or_above zero (suc g) le = inr (omega arith)
same_or_above (suc n) zero le = absurd (omega (arith, le))
same_or_above (suc n) (suc g) le = elim (same_or_above n g (omega (arith, le))) [
  | inl is ↦ inl (ap suc is)
  | inr above ↦ inr (omega (arith, above))
]

fresh_most : (limit : ℕ) (f : Parts) (n room count : ℕ) → IsCounted limit f (suc n) room → HasRoomAbove limit f n count → count ≤ room + 1
fresh_most limit f n room zero is has = omega arith
fresh_most limit f n room (suc count) is has = elim (same_or_above (suc n) has.0 (let above = has.1 in omega (arith, above))) [
  | inl same ↦ (let most = is.most count (lower limit f (suc n) has.0 count (omega (arith, same)) has.3) in omega (arith, most))
  | inr above ↦ (let most = is.most (suc count) (has.0, above, has.2, has.3) in omega (arith, most))
]

fresh_above : (limit : ℕ) (f : Parts) (n room : ℕ) → IsFresh limit f (suc n) → IsCounted limit f (suc n) room → IsCounted limit f n (suc room)
fresh_above limit f n room fresh is = record {
  there = (suc n, omega arith, fresh, is.there);
  most = λ count has. let most = fresh_most limit f n room count is has in omega (arith, most);
  small = let small = is.small in omega (arith, small);
}

past_most : (limit : ℕ) (f : Parts) (n room count : ℕ) → (IsFresh limit f (suc n) → ⊥) → IsCounted limit f (suc n) room → HasRoomAbove limit f n count → count ≤ room
past_most limit f n room zero taken is has = omega arith
past_most limit f n room (suc count) taken is has = elim (same_or_above (suc n) has.0 (let above = has.1 in omega (arith, above))) [
  | inl same ↦ absurd (taken (subst (IsFresh limit f) same has.2))
  | inr above ↦ is.most (suc count) (has.0, above, has.2, has.3)
]

past_above : (limit : ℕ) (f : Parts) (n room : ℕ) → (IsFresh limit f (suc n) → ⊥) → IsCounted limit f (suc n) room → IsCounted limit f n room
past_above limit f n room taken is = record {
  there = lower limit f n (suc n) room (omega arith) is.there;
  most = λ count has. past_most limit f n room count taken is has;
  small = let small = is.small in omega (arith, small);
}

-- one number down
less_one : (n : ℕ) → n ≡ suc n - 1
less_one n = omega arith

one_up : (room : ℕ) → suc room ≡ room + 1
one_up room = omega arith

pub counted_fresh : (limit : ℕ) (f : Parts) (n room : ℕ) (r : Bool) → 0 < n → Whether r (IsFresh limit f n) → r ≡ true → IsCounted limit f n room → IsCounted limit f (n - 1) (room + 1)
counted_fresh limit f zero room r some tested on is = absurd (omega (arith, some))
counted_fresh limit f (suc n) room r some tested on is =
    subst (λ (m : ℕ). IsCounted limit f m (room + 1)) (less_one n) (subst (λ (m : ℕ). IsCounted limit f n m) (one_up room) (fresh_above limit f n room (tested.yes on) is))

pub counted_past : (limit : ℕ) (f : Parts) (n room : ℕ) (r : Bool) → 0 < n → Whether r (IsFresh limit f n) → r ≡ false → IsCounted limit f n room → IsCounted limit f (n - 1) room
counted_past limit f zero room r some tested off is = absurd (omega (arith, some))
counted_past limit f (suc n) room r some tested off is = subst (λ (m : ℕ). IsCounted limit f m room) (less_one n) (past_above limit f n room (tested.no off) is)

-- and all of them
pub counted_all : (limit : ℕ) (f : Parts) (n room : ℕ) → IsCounted limit f n room → n ≤ 0 → IsRoom limit f room
counted_all limit f zero room is none = λ count. ((λ le. fewer limit f 0 room count le is.there), is.most count)
counted_all limit f (suc n) room is none = absurd (omega (arith, none))

pub room_found : (s : Setting) (past : History) (table : State) (room : ℕ) → IsStateOf s past table → IsRoom table.limit (state_in table) room → IsRoom s.limit (parts_of s past) room
room_found s past table room of is = subst (λ (b : ℕ × Parts). IsRoom b.0 b.1 room) (λ i. (of.limit i, of.parts i)) is
