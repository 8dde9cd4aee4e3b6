-- The parts of hands and of a pool: owners, passes and stealers.
use Rattle.std.specs.Prelude.{◌≡◌, ℕ, ◌+◌, ◌<◌, ◌≤◌, false, Bool, List, [], length, None, map}
use Rattle.std.specs.Global.{Global}
use Rattle.std.specs.List.{All}
use mathlib.Core.Option.{some}
use lib.ListN.{get_elem?}
use Rattle.atomic_blocks.specs.Lent.{RowsId}
use Rattle.crossbeam_deque.specs.Handles.{Pass, view, worker_deque, stealer_deque, worker_flavor}
use Rattle.crossbeam_deque.specs.Handles.{stealer_flavor, worker_port, worker_view, worker_index}
use Rattle.crossbeam_deque.specs.Handles.{worker_capacity}
use Rattle.crossbeam_deque.specs.declared.handles.Worker.{Worker}
use Rattle.crossbeam_deque.specs.declared.handles.Stealer.{Stealer}
use Rattle.ocr_steal.specs.declared.account.Account.{Account}
use Rattle.ocr_steal.specs.Deque.{all_parts}

-- which deque it is
abbrev pub Name : Type 0
Name = RowsId × Global

abbrev pub Known : Type 0
Known = Pass ℕ Account Global

abbrev pub deque_of : Known → Name
deque_of p = (p.rows, p.heap)

abbrev pub deques_of_passes : List Known → List Name
deques_of_passes ps = map deque_of ps

-- a pass that carries nothing
pub record IsIdlePass (p : Known) : Type 0 where
  pub hand : p.me.hand ≡ None
  pub spare : p.me.spare ≡ None

-- and has one part
pub record IsPass (p : Known) : Type 0 where
  pub hand : p.me.hand ≡ None
  pub spare : p.me.spare ≡ None
  pub parts : (view p).parts ≡ 1

abbrev pub ArePasses : List Known → Type 0
ArePasses ps = All IsPass ps

-- the steals in vain are counted for each deque, and none where none was missed
pub record IsCounted (passes : List Known) (misses : List ℕ) (has_missed : Bool) : Type 0 where
  pub long : length misses ≡ length passes
  pub none : has_missed ≡ false → All (λ m. m ≡ 0) misses

module _ {P : Type 0} where
  abbrev pub deques_of_owners : List (Worker ℕ Global Account P) → List Name
  deques_of_owners ws = map (λ w. worker_deque w) ws

  abbrev pub deques_of_stealers : List (Stealer ℕ Global Account P) → List Name
  deques_of_stealers ss = map (λ s. stealer_deque s) ss

  -- tasks leave these deques in the order in which they came
  abbrev pub AreFirstInFirstOut : List (Stealer ℕ Global Account P) → Type 0
  AreFirstInFirstOut ss = All (λ s. stealer_flavor s ≡ 0) ss

  -- the owner's pass is the deque's first. It has all parts but one for each hand
  pub record IsOwner (hands : ℕ) (own : Worker ℕ Global Account P) : Type 0 where
    pub flavor : worker_flavor own ≡ 0
    pub port : worker_port own ≡ 0
    pub few : hands < all_parts
    pub parts : (worker_view own).parts + hands ≡ all_parts
    pub index : worker_index own ≤ length (worker_view own).pushed

  -- the owner of the deque with this number
  pub record OwnsItsDeque (number : ℕ) (own : Worker ℕ Global Account P)
      (passes : List Known) : Type 0 where
    pub owner : IsOwner (length passes) own
    pub deque : get_elem? (deques_of_passes passes) number ≡ some (worker_deque own)

  -- nothing was pushed yet, and so many passes were made
  pub record IsNewOwner (passes least : ℕ) (own : Worker ℕ Global Account P) : Type 0 where
    pub flavor : worker_flavor own ≡ 0
    pub port : worker_port own ≡ 0
    pub index : worker_index own ≡ 0
    pub room : least ≤ worker_capacity own
    pub parts : (worker_view own).parts + passes ≡ all_parts
    pub pushed : (worker_view own).pushed ≡ []
    pub taken : (worker_view own).taken ≡ []

-- a pass that was just made
pub record IsNewPass (p : Known) : Type 0 where
  pub pass : IsPass p
  pub pushed : (view p).pushed ≡ []
  pub taken : (view p).taken ≡ []

-- a new pass of each of these deques
pub record IsNewRow (names : List Name) (ps : List Known) : Type 0 where
  pub deques : deques_of_passes ps ≡ names
  pub passes : All IsNewPass ps
