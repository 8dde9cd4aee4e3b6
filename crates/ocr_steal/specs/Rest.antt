-- What the hands know, brought together.
use Rattle.std.specs.Prelude.{◌≡◌, ℕ, List, [], length, nat_eq, if◌then◌else◌, Vec}
use Rattle.std.specs.Global.{Global}
use Rattle.std.specs.List.{All, slice_index_or, sum_by}
use mathlib.Core.Option.{some}
use lib.ListN.{get_elem?}
use Rattle.crossbeam_deque.specs.Handles.{view, worker_deque, worker_flavor, worker_port, worker_view}
use Rattle.crossbeam_deque.specs.declared.handles.Worker.{Worker}
use Rattle.ocr_steal.specs.declared.account.Account.{Account}
use Rattle.ocr_steal.specs.Deque.{all_parts}
use Rattle.ocr_steal.specs.Parts.{ArePasses, IsIdlePass, IsOwner, Known, Name, deques_of_passes}

-- 1 for this number, and 0 for any other
abbrev pub count_if : ℕ → ℕ → ℕ
count_if number n = if nat_eq n number then 1 else 0

-- what a pass took, weighed
abbrev pub taken_weight : (ℕ → ℕ) → Account → ℕ
taken_weight f v = sum_by (λ p. f p.1) v.taken

-- what a hand stole, weighed
abbrev pub row_weight : (ℕ → ℕ) → List Known → ℕ
row_weight f ps = sum_by (λ p. taken_weight f (view p)) ps

abbrev pub rows_weight : (ℕ → ℕ) → List (Vec Known Global) → ℕ
rows_weight f rows = sum_by (λ row. row_weight f row.items) rows

-- what these owners took and pushed, weighed
abbrev pub owners_took : {P : Type 0} → (ℕ → ℕ) → List (ℕ × Worker ℕ Global Account P) → ℕ
owners_took {P} f os =
    sum_by (λ (o : ℕ × Worker ℕ Global Account P). taken_weight f (worker_view o.1)) os

abbrev pub owners_pushed : {P : Type 0} → (ℕ → ℕ) → List (ℕ × Worker ℕ Global Account P) → ℕ
owners_pushed {P} f os =
    sum_by (λ (o : ℕ × Worker ℕ Global Account P). sum_by f (worker_view o.1).pushed) os

-- an owner with all parts: no other pass took anything that it doesn't know
pub record IsLone {P : Type 0} (own : Worker ℕ Global Account P) : Type 0 where
  pub flavor : worker_flavor own ≡ 0
  pub port : worker_port own ≡ 0
  pub parts : (worker_view own).parts ≡ all_parts

-- an owner with its number, whose deque has that place in the pool
pub record IsPlaced {P : Type 0} (names : List Name) (o : ℕ × Worker ℕ Global Account P)
    : Type 0 where
  pub owner : IsOwner (length names) o.1
  pub deque : get_elem? names o.0 ≡ some (worker_deque o.1)

-- the passes of a hand: one of each deque of the pool
pub record IsRow (names : List Name) (ps : List Known) : Type 0 where
  pub deques : deques_of_passes ps ≡ names
  pub idle : All IsIdlePass ps

-- the same, each with its part
pub record IsFullRow (names : List Name) (ps : List Known) : Type 0 where
  pub deques : deques_of_passes ps ≡ names
  pub passes : ArePasses ps

-- what each hand knows of the deque with this number
abbrev pub Column : (Account → Type 0) → ℕ → List (Vec Known Global) → Type 0
Column Q number rows = All (λ row. (d : Known) → Q (view (slice_index_or row.items number d))) rows

abbrev pub HasPart : Account → Type 0
HasPart v = v.parts ≡ 1

abbrev pub HasNothing : Account → Type 0
HasNothing v = v.taken ≡ []
