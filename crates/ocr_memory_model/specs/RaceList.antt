-- THE RACES OF A RUN as a list: each once, rising by the block, the word, the lesser EDT and the
-- greater.
use Rattle.std.specs.Prelude.{◌≡◌, ◌↔◌, ℕ, List}
use Rattle.std.specs.List.{Contains}
use Rattle.std.specs.List.Sorted.{IsStrictlySortedBy}
use Rattle.std.specs.Ordering.{nat_cmp, ordering_then}
use Rattle.std.specs.declared.cmp.Ordering.{Ordering}
use Rattle.ocr_machine_history.specs.History.{History, Setting}
use Rattle.ocr_memory_model_order.specs.Races.{IsRace}
use Rattle.ocr_memory_model.specs.declared.race.Race.{Race}

abbrev pub race_cmp : Race → Race → Ordering
race_cmp x y =
    ordering_then (nat_cmp x.block y.block)
    (ordering_then (nat_cmp x.word y.word)
    (ordering_then (nat_cmp x.first y.first) (nat_cmp x.second y.second)))

abbrev pub IsRising : List Race → Type 0
IsRising races = IsStrictlySortedBy race_cmp races

pub record AreRaces (s : Setting) (J : History) (races : List Race) : Type 0 where
  pub rising : IsRising races
  pub each : (d w t u : ℕ) → Contains races (record { block = d; word = w; first = t; second = u })
      ↔ IsRace s J d w t u

-- THE LAW: there is one such list at most
abbrev pub SoleLaw : Type 0
SoleLaw = (s : Setting) (J : History) (races others : List Race) → AreRaces s J races
    → AreRaces s J others → races ≡ others
