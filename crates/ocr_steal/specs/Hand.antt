-- What contracts say of a hand.
use Rattle.std.specs.Prelude.{◌≡◌, ℕ, ◌+◌, ◌-◌, ◌^◌, ◌<◌, ◌≤◌, ◌⊎◌, List, [], ◌∷◌, map, min}
use Rattle.std.specs.Prelude.{slice_index, slice_set}
use Rattle.std.specs.List.{All, slice_index_or, sum_by}
use Rattle.crossbeam_deque.specs.Handles.{view, taken, worker_view, worker_capacity}
use Rattle.ocr_steal.specs.declared.account.Account.{Account}
use Rattle.ocr_steal.specs.declared.hand.Hand.{Hand}
use Rattle.ocr_steal.specs.declared.hand.Steal.{Steal}
use Rattle.ocr_steal.specs.declared.hand.Steal.TheVariants as answer
use Rattle.ocr_steal.specs.Deque.{IsFound, TakesFirst, newcomer}
use Rattle.ocr_steal.specs.Parts.{Name, deques_of_passes}
use Rattle.ocr_steal.specs.Rest.{row_weight, taken_weight}

-- the deques of the hand's pool, by number
abbrev pub pool_of : Hand → List Name
pool_of h = deques_of_passes h.passes.items

-- what it pushed, and what it took of its own deque
abbrev pub own : Hand → Account
own h = worker_view h.own

-- what it stole of each deque, by number
abbrev pub knows : Hand → List Account
knows h = map (λ p. view p) h.passes.items

abbrev pub known : Hand → ℕ → Account
known h victim = slice_index_or (knows h) victim (newcomer 0)

-- how many EDTs it knows to have left that deque
abbrev pub seen : Hand → ℕ → ℕ
seen h victim = slice_index_or (map (λ p. taken p) h.passes.items) victim 0

-- for each hand, the steals that got nothing since this hand last got an EDT
abbrev pub misses_of : Hand → List ℕ
misses_of h = h.misses.items

abbrev pub missed : Hand → ℕ → ℕ
missed h victim = slice_index (misses_of h) victim

abbrev pub HasNoMisses : Hand → Type 0
HasNoMisses h = All (λ m. m ≡ 0) (misses_of h)

-- one steal from this victim got nothing
abbrev pub IsMissed : Hand → Hand → ℕ → Type 0
IsMissed old new victim =
    misses_of new ≡ slice_set (misses_of old) victim (min (missed old victim + 1) (2 ^ 64 - 1))

-- how many pushes succeed, whatever memory is left
abbrev pub room : Hand → ℕ
room h = worker_capacity h.own

-- the hand is still that one
pub record IsSame (old new : Hand) : Type 0 where
  pub number : new.number ≡ old.number
  pub pool : pool_of new ≡ pool_of old
  pub room_kept : room old ≤ room new

-- at a step of the steal the victim's deque held these EDTs
abbrev pub FindsAt : Hand → ℕ → List ℕ → Type 0
FindsAt h victim items = (port : ℕ) × IsFound port items (known h victim)

-- the steal took this EDT, which was the first
pub record Gets (old new : Hand) (victim edt : ℕ) : Type 0 where
  pub port : ℕ
  pub first : TakesFirst port (known old victim) (edt ∷ []) (known new victim)
  pub others : knows new ≡ slice_set (knows old) victim (known new victim)
  pub misses : HasNoMisses new

-- the steal took nothing
pub record GetsNothing (old new : Hand) (victim : ℕ) : Type 0 where
  pub same : knows new ≡ knows old
  pub misses : IsMissed old new victim

abbrev pub OnSteal : Steal → Hand → Hand → ℕ → Type 0
OnSteal (answer.Got edt) old new victim = Gets old new victim edt
OnSteal answer.Empty old new victim = GetsNothing old new victim × FindsAt old victim []
OnSteal answer.Again old new victim =
    GetsNothing old new victim × ((seen old victim < seen new victim) ⊎ FindsAt old victim [])

-- ---- all that a hand got

-- what a hand took and stole, weighed
abbrev pub got_weight : (ℕ → ℕ) → Hand → ℕ
got_weight f h = taken_weight f (own h) + row_weight f h.passes.items

-- what it pushed, weighed
abbrev pub pushed_weight : (ℕ → ℕ) → Hand → ℕ
pushed_weight f h = sum_by f (own h).pushed
