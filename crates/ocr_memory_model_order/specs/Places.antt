-- Places of a history: its entries are counted from the oldest, which stands at place 0.
use Rattle.std.specs.Prelude.{ℕ, List, [], ◌∷◌, length, Bool, false, ◌==◌, if◌then◌else◌, Option, Some, None}
use Rattle.ocr_machine_history.specs.declared.entry.Entry.{Entry}
use Rattle.ocr_machine_history.specs.History.{History}

-- the entry at a place, and the history before it
abbrev pub entry_at : History → ℕ → Option Entry
entry_at [] n = None
entry_at (e ∷ past) n = if n == length past then Some e else entry_at past n

abbrev pub before : History → ℕ → History
before [] n = []
before (e ∷ past) n = if n == length past then past else before past n

-- what a definition over a history and the entry after it tells of a place
abbrev pub is_at : (History → Entry → Bool) → History → ℕ → Bool
is_at p [] n = false
is_at p (e ∷ past) n = if n == length past then p past e else is_at p past n

abbrev pub told_at : {A : Type 0} → (History → Entry → Option A) → History → ℕ → Option A
told_at f [] n = None
told_at f (e ∷ past) n = if n == length past then f past e else told_at f past n

-- the places of which it holds, the newest first
abbrev pub places : (History → Entry → Bool) → History → List ℕ
places p [] = []
places p (e ∷ past) = if p past e then length past ∷ places p past else places p past
