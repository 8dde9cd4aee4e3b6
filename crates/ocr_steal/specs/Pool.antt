-- What contracts say of a pool and its hands.
use Rattle.std.specs.Prelude.{◌≡◌, ℕ, ◌<◌, ◌≤◌, List, [], length}
use Rattle.std.specs.List.{All, slice_index_or, sum_by}
use Rattle.ocr_steal.specs.declared.account.Account.{Account}
use Rattle.ocr_steal.specs.declared.hand.Hand.{Hand}
use Rattle.ocr_steal.specs.declared.pool.Pool.{Pool}
use Rattle.ocr_steal.specs.Hand.{HasNoMisses, knows, own, pool_of, room}
use Rattle.ocr_steal.specs.Parts.{Name, deques_of_stealers}
use Rattle.ocr_steal.specs.Rest.{count_if}

-- the deques of a pool, by number
abbrev pub deques_in : Pool → List Name
deques_in pool = deques_of_stealers pool.stealers.items

abbrev pub hands_in : Pool → ℕ
hands_in pool = length pool.stealers.items

-- the hand is of this pool
abbrev pub IsOfPool : Pool → Hand → Type 0
IsOfPool pool h = pool_of h ≡ deques_in pool

-- the pass pushed and took nothing
pub record IsNew (v : Account) : Type 0 where
  pub pushed : v.pushed ≡ []
  pub taken : v.taken ≡ []

-- a hand as it is made, of the pool with these deques
pub record IsFresh (deques : List Name) (least number : ℕ) (h : Hand) : Type 0 where
  pub number_is : h.number ≡ number
  pub pool_is : pool_of h ≡ deques
  pub own_is : IsNew (own h)
  pub knows_nothing : All IsNew (knows h)
  pub room_is : least ≤ room h
  pub misses : HasNoMisses h

-- the hands of the pool with these deques as they are made, in the order of their numbers
abbrev pub AreFresh : List Name → ℕ → List Hand → Type 0
AreFresh deques least hands =
    (k : ℕ) (d : Hand) → k < length hands → IsFresh deques least k (slice_index_or hands k d)

-- these are all hands of the pool, each once
pub record AreAll (pool : Pool) (hands : List Hand) : Type 0 where
  pub many : length hands ≡ hands_in pool
  pub each : All (IsOfPool pool) hands
  pub once : (number : ℕ) → number < hands_in pool
      → sum_by (λ h. count_if number h.number) hands ≡ 1
