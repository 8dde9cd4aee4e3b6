-- The text on the races of a run.
use Rattle.std.specs.Prelude.{◌≡◌, ◌≤◌, ◌<◌, ℕ, List, [], ◌∷◌, ◌++◌, length, codes}
use Rattle.std.specs.List.{flat_map}
use Rattle.ocr_machine_history.specs.History.{History, Setting}
use Rattle.ocr_journal.specs.Phrase.{Text, phrase}
use Rattle.ocr_memory_model.specs.RaceList.{AreRaces}
use Rattle.ocr_memory_model.specs.declared.happens_before.TheConstants.{MOST_ORDERED}
use Rattle.ocr_memory_model.specs.declared.race.Race.{Race}
use Rattle.ocr_report.specs.Headed.{headed}

abbrev pub race_line : Race → Text
race_line race =
    phrase (codes "block") (race.block ∷ [])
    ++ (phrase (codes " word") (race.word ∷ [])
    ++ (phrase (codes " edts") (race.first ∷ race.second ∷ []) ++ 10 ∷ []))

abbrev pub races_told : List Race → Text
races_told races = headed (codes "races") (length races) (flat_map race_line races)

-- where there are too many entries
abbrev pub races_unknown : ℕ → Text
races_unknown entries = phrase (codes "races unknown:") (entries ∷ []) ++ codes " entries\n"

-- THE TEXT: the races, each once, rising by the block, the word, the lesser EDT and the greater
pub data IsRacesText (s : Setting) (past : History) : Text → Type 0 where
  told : (races : List Race) → length past ≤ MOST_ORDERED → AreRaces s past races
      → IsRacesText s past (races_told races)
  unknown : MOST_ORDERED < length past → IsRacesText s past (races_unknown (length past))

-- THE LAW: there is one such text at most
abbrev pub SoleTextLaw : Type 0
SoleTextLaw = (s : Setting) (past : History) (text other : Text) → IsRacesText s past text
    → IsRacesText s past other → text ≡ other
