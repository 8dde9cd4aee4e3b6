-- What many goals share.
use Rattle.ocr_program_check.proofs.Outcomes.{let_passes, let_name_breaks, let_value_breaks, told_none, if_test_breaks, if_first_breaks, while_test_breaks, block_passes, block_breaks}
use Rattle.ocr_program_check.proofs.Parts.{or_both}
use Rattle.ocr_program_check.proofs.Stops.{first_stops, second_stops, second_ends, told_stops, told_ends}

-- one part after another
pub ruleset parts = (or_both, first_stops, second_stops, second_ends)

pub ruleset lets = (let_passes, let_name_breaks, let_value_breaks)

pub ruleset statements = (told_none, told_stops, told_ends, if_test_breaks, if_first_breaks, while_test_breaks)

pub ruleset blocks = (block_passes, block_breaks)
