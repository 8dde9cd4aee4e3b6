-- What a run writes: the lines of its prints, and the texts that are asked for.
use Rattle.std.specs.Prelude.{◌≡◌, ℕ, List, [], ◌++◌, Bool, true, if◌then◌else◌}
use Rattle.ocr_machine_history.specs.History.{History, Setting}
use Rattle.ocr_machine_history.specs.Output.{printed}
use Rattle.ocr_journal.specs.JournalText.{journal_text}
use Rattle.ocr_report.specs.Blocks.{blocks_text}
use Rattle.ocr_report.specs.Left.{left_text}
use Rattle.ocr_report.specs.Races.{IsRacesText}
use Rattle.ocr_report.specs.Refused.{refused_text}
use Rattle.ocr_report.specs.Stale.{stale_text}
use Rattle.ocr_report.specs.Summary.{summary_text}
use Rattle.ocr_run_command.specs.declared.wanted.Reports.{Reports}

abbrev pub asked_if : Bool → List ℕ → List ℕ
asked_if is_asked text = if is_asked then text else []

-- the texts stand behind the prints, in this order
abbrev pub output_of : Setting → History → Reports → (races : List ℕ) → List ℕ
output_of s past reports races =
    printed past
    ++ asked_if reports.summary (summary_text past)
    ++ asked_if reports.left (left_text s past)
    ++ asked_if reports.stale (stale_text s past)
    ++ asked_if reports.refused (refused_text past)
    ++ asked_if reports.races races
    ++ asked_if reports.blocks (blocks_text s past)
    ++ asked_if reports.journal (journal_text s.program past)

-- THE OUTPUT, with the text on races where that is asked for
pub record IsOutput (s : Setting) (past : History) (reports : Reports) (text : List ℕ) : Type 0
  where
    pub races : List ℕ
    pub races_are : reports.races ≡ true → IsRacesText s past races
    pub is : text ≡ output_of s past reports races
