-- How the entries of a journal are linked, each to the next one of its EDT.
use Rattle.std.specs.Prelude.{◌≡◌, ℕ, ◌+◌, ◌<◌, ◌≤◌, List, length, Bool, true, false, ◌==◌, ◌||◌, slice_index_or}
use Rattle.ocr_machine_history.specs.declared.entry.Entry.{Entry}
use Rattle.ocr_machine_history.specs.declared.entry.Entry.TheVariants.{Start}
use Rattle.ocr_replay_body.specs.declared.links.Links.{Links}
use Rattle.ocr_replay_body.specs.Judge.{runs, HasNoEntries}

-- the entry starts this EDT
abbrev pub starts : ℕ → Entry → Bool
starts t (Start u) = u == t
starts t other = false

-- the first place from `from` on with an entry of the EDT's body, or the length of the journal
pub record IsNextOwn (t : ℕ) (entries : List Entry) (from at : ℕ) : Type 0 where
  pub after : from ≤ at
  pub within : at ≤ length entries
  pub idle : HasNoEntries t entries from at
  pub own : at < length entries → (e : Entry) → e ≡ slice_index_or entries at e → runs t e ≡ true

-- the entries from this place on are linked
pub record IsLinkedFrom (limit : ℕ) (entries : List Entry) (from : ℕ)
    (nexts firsts : List ℕ) : Type 0 where
  pub nexts_are : length nexts ≡ length entries
  pub firsts_are : length firsts ≡ limit + 1
  pub first : (t : ℕ) → t ≤ limit → IsNextOwn t entries from (slice_index_or firsts t 0)
  pub next : (t m : ℕ) → t ≤ limit → from ≤ m → m < length entries → (e : Entry)
      → e ≡ slice_index_or entries m e → (runs t e || starts t e) ≡ true
      → IsNextOwn t entries (m + 1) (slice_index_or nexts m 0)

-- each entry is linked to the next one of its EDT, and each EDT to its first one
abbrev pub IsLinked : ℕ → List Entry → Links → Type 0
IsLinked limit entries links = IsLinkedFrom limit entries 0 links.nexts.items links.firsts.items

-- by the links, one goes from this place to the next entry of the EDT's body, and from each of them
-- to the next
pub record IsFollowing (t : ℕ) (entries : List Entry) (links : Links)
    (place next : ℕ) : Type 0 where
  pub nexts : length links.nexts.items ≡ length entries
  pub now : IsNextOwn t entries place next
  pub later : (m : ℕ) → m < length entries → (e : Entry) → e ≡ slice_index_or entries m e
      → runs t e ≡ true → IsNextOwn t entries (m + 1) (slice_index_or links.nexts.items m 0)
